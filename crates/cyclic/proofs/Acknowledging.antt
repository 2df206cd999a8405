-- Acknowledging (document 01, "One cycle", its last paragraph, as request 3 words it): a held error is gone after the second of two cycles, if bit 15 is 1 in the
-- first and 0 in the second, STW2_ENC bit 10 is 1 in both and in the second neither cause is present. An error that the first leaves is still held after the
-- second, with its code, if a cause is present there. The link alone decides it (crate cyclic_link), so that each of the two may be of telegram 81 or 83.
use Rattle.std.specs.Prelude.{◌≡◌, Bool, true, false, ◌||◌, List, ℕ, None}
use Rattle.std.proofs.Common.{◌∙◌}
use Rattle.integer.specs.{bit}
use Rattle.encoder.proofs.{before-none, when-none}
use Rattle.axis.specs.{Axis, rules_on, axis_refusal}
use Rattle.cyclic_link.specs.{Link, link_refusal, within, Class4.link}
use Rattle.cyclic_link.proofs.{gone, heard-error, stays, has_code}
use Rattle.cyclic.specs.{Cycled, faulty_at, stw2, stw, counted, sign, heard_in, stopped_in, class4, life, cycle_refusal, axis_after, link_left, done, cycle}
use Rattle.cyclic.specs.{cycle83_refusal, cycle83}
use Rattle.cyclic.proofs.CycleKept.{after_same, link-four, cycled-none}

-- ---- a cycle of either telegram; class 2 and telegram 81 have one cycle
pub data Telegram : Type 0 where
  telegram81 : Telegram
  telegram83 : (elapsed : ℕ) → Telegram

abbrev pub exchanged : Telegram → Axis → Link → ℕ → List ℕ → List ℕ → Cycled
exchanged telegram81 a k raw output input = cycle a k raw output input
exchanged (telegram83 e) a k raw output input = cycle83 a k raw e output input

-- ---- a cycle that is not refused leaves these
cycle-is : (t : Telegram) (a : Axis) (k : Link) (raw : ℕ) (output input : List ℕ) → (exchanged t a k raw output input).refusal ≡ None
    → exchanged t a k raw output input
    ≡ record { axis = axis_after a k raw output; link = link_left a k raw output; refusal = None }
unfolding cycle cycle83
cycle-is telegram81 a k raw output input z = rw (cycled-none a _ k _ (cycle_refusal a k output input) z)
cycle-is (telegram83 e) a k raw output input z = rw (cycled-none a _ k _ (cycle83_refusal a k e output input) z)

-- and its link was within its limits
link-within : (t : Telegram) (a : Axis) (k : Link) (raw : ℕ) (output input : List ℕ) → (exchanged t a k raw output input).refusal ≡ None
    → within (life a.parameters) k ≡ true
unfolding cycle cycle83 cycle_refusal cycle83_refusal link_refusal
link-within telegram81 a k raw output input z =
    let h = before-none (axis_refusal a) _ (cycled-none a _ k _ (cycle_refusal a k output input) z) in
    when-none _ _ (before-none (link_refusal (life a.parameters) k) _ h.1).0
link-within (telegram83 e) a k raw output input z =
    let h = before-none (axis_refusal a) _ (cycled-none a _ k _ (cycle83_refusal a k e output input) z) in
    when-none _ _ (before-none (link_refusal (life a.parameters) k) _ h.1).0

-- ---- the theorem: a and b are the axis at the first and at the second cycle, so that other calls may stand between the two
module _ (t₁ t₂ : Telegram) (a b : Axis) (k : Link) (raw₁ raw₂ : ℕ) (out₁ out₂ in₁ in₂ : List ℕ) (c d : Cycled)
    (c-is : c ≡ exchanged t₁ a k raw₁ out₁ in₁) (d-is : d ≡ exchanged t₂ b c.link raw₂ out₂ in₂)
    (class₁ : class4 a.parameters ≡ true) (class₂ : class4 b.parameters ≡ true) (first : c.refusal ≡ None) (second : d.refusal ≡ None) where
  -- the causes in the second: it is faulty; its counter, once it is counted, stands at its stop
  abbrev faulty : Bool
  faulty = faulty_at b raw₂

  abbrev stopped : Bool
  stopped = stopped_in (life b.parameters) c.link out₂

  d-are : d ≡ done (axis_after b c.link raw₂ out₂) (link_left b c.link raw₂ out₂)
  d-are = d-is ∙ cycle-is t₂ b c.link raw₂ out₂ in₂ (rw (← d-is) second)

  pub acknowledging : bit 10 (stw2 out₁) ≡ true → bit 15 (stw out₁) ≡ true → bit 10 (stw2 out₂) ≡ true → bit 15 (stw out₂) ≡ false
      → faulty ≡ false → stopped ≡ false
      → d.link.error ≡ false
  unfolding link counted
  acknowledging on₁ up on₂ down sound runs =
      let p = a.parameters in
      let j = heard_in (life p) k out₁ in
      let c-are = c-is ∙ cycle-is t₁ a k raw₁ out₁ in₁ (rw (← c-is) first) in
      let link₁ : c.link ≡ link (rules_on a) j (stopped_in (life p) k out₁) (faulty_at a raw₁) (stw out₁) = rw (c-are, link-four (rules_on a) p k (faulty_at a raw₁) out₁ class₁, on₁) in
      let none = gone (life b.parameters) (rules_on a) j (stopped_in (life p) k out₁) (faulty_at a raw₁) (stw out₁) (stw out₂) (sign out₂) up down in
      rw (d-are, link-four (rules_on b) b.parameters c.link faulty out₂ class₂, on₂, runs, sound, link₁, none)

  pub stays-held : c.link.error ≡ true → (faulty || stopped) ≡ true
      → (d.link.error ≡ true) × (d.link.code ≡ c.link.code)
  unfolding link
  stays-held error cause =
      let w = life b.parameters in
      let j = heard_in w c.link out₂ in
      let h = heard-error w c.link (sign out₂) in
      let code_is = stays j stopped faulty (counted out₂) (h.0 ∙ error) cause ∙ h.2 in
      let some = has_code w c.link (link-within t₂ b c.link raw₂ out₂ in₂ (rw (← d-is) second)) error in
      let d-link = link-four (rules_on b) b.parameters c.link faulty out₂ class₂ in
      (rw (d-are, d-link, code_is, some), rw (d-are, d-link) code_is)

-- with nothing between the two, the second cycle gets the axis of the first, and it has the same class
pub at_once : (t : Telegram) (a : Axis) (k : Link) (raw : ℕ) (output input : List ℕ) → (exchanged t a k raw output input).refusal ≡ None
    → class4 a.parameters ≡ true → class4 (exchanged t a k raw output input).axis.parameters ≡ true
at_once t a k raw output input e class = rw (cycle-is t a k raw output input e, (after_same a k raw output).1) class
