-- Request 3: with block bit 5 at 1 and on a class 2 axis nothing else changes. On an axis without a sign of life, from a link within its limits, a cycle of
-- either telegram answers, and leaves in axis, input and the rest of the link, what the former rules say, refused calls included, and also where block octet
-- 10 is 0. Part by part (Parts.antt); only the limits of the link are asked for besides, and they hold.
use Rattle.std.specs.Prelude.{◌≡◌, refl, false, List, ◌++◌, ℕ, Option, None, Some, length}
use Rattle.integer.specs.{octets}
use Rattle.ring.specs.{complement}
use Rattle.encoder.specs.{Refusal, ◌before◌, answer, fields_of, sign_of_life}
use Rattle.axis.specs.{Axis, rules_on, axis_refusal}
use Rattle.cyclic_link.specs.{Link, life_of, link_refusal, zsw}
use Rattle.cyclic.specs.{class4, life, faulty_at, taken_at, Class4.input as input4, cycled, link_after, axis_after, input_of, link_left, input_left, length_refusal, cycle_refusal, cycle, cycle_input}
use Rattle.cyclic.specs.{nist_b, refusal83, cycle83_refusal, cycle83, cycle83_input, input83}
use Rattle.cyclic.proofs.{Linked, left-linked}
use Rattle.cyclic_former.proofs.Parts.{second_is, link-by, axis-by}
use Rattle.cyclic_former.specs.Former as Former

-- ---- by the refusal
known_by : (a b : Axis) (k j : Link) (input filled : List ℕ) (n : Option Refusal)
    → Former.known (cycled a k b j n) (answer (λ (r : Refusal). input) filled n) ≡ Former.cycled a (Former.rest k) input b (Former.rest j) filled n
known_by a b k j input filled None = refl
known_by a b k j input filled (Some r) = refl

module _ (a : Axis) (k : Link) (none : sign_of_life (fields_of a.parameters) ≡ false) (limits : Linked a k) where
  off : (life a.parameters).on ≡ false
  unfolding life_of
  off = none

  -- ---- what an accepted cycle leaves
  module _ (raw : ℕ) (output : List ℕ) where
    link-is : Former.rest (link_left a k raw output) ≡ Former.link_left a (Former.rest k) raw output
    unfolding link_after Former.link_after
    link-is = link-by (life a.parameters) k off limits output (class4 a.parameters) (rules_on a) (faulty_at a raw)

    axis-is : axis_after a k raw output ≡ Former.axis_after a (Former.rest k) raw output
    unfolding axis_after Former.axis_after
    axis-is = axis-by (life a.parameters) k off limits output (class4 a.parameters) (taken_at a raw) (faulty_at a raw)

    input-is : input_left a k raw output ≡ Former.input_left a (Former.rest k) raw output
    unfolding input_of Former.input_of input4 zsw
    input-is = rw (← link-is, ← axis-is, second_is (life a.parameters) (link_left a k raw output) off (left-linked a k raw output limits) (axis_after a k raw output))

  -- ---- the theorem, for telegram 81 and class 2, and for telegram 83
  pub as_before : (raw : ℕ) (output input : List ℕ)
      → Former.known (cycle a k raw output input) (cycle_input a k raw output input) ≡ Former.cycle a (Former.rest k) raw output input
  unfolding cycle cycle_input cycle_refusal link_refusal Former.cycle
  as_before raw output input =
      let n = axis_refusal a before length_refusal (class4 a.parameters) (length output) (length input) in
      rw (limits, ← input-is raw output, ← link-is raw output, ← axis-is raw output)
      (known_by a (axis_after a k raw output) k (link_left a k raw output) input (input_left a k raw output) n)

  pub as-before-83 : (raw e : ℕ) (output input : List ℕ)
      → Former.known (cycle83 a k raw e output input) (cycle83_input a k raw e output input) ≡ Former.cycle83 a (Former.rest k) raw e output input
  unfolding cycle83 cycle83_input cycle83_refusal link_refusal input83 Former.cycle83
  as-before-83 raw e output input =
      let n = axis_refusal a before refusal83 (class4 a.parameters) (length output) (length input) e in
      rw (limits, ← input-is raw output, ← link-is raw output, ← axis-is raw output)
      (known_by a (axis_after a k raw output) k (link_left a k raw output) input (input_left a k raw output ++ octets 4 (complement (nist_b a raw e))) n)
