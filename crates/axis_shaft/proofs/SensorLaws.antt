-- Raw numbers: the oriented number, the difference, and the move or its refusal. A move is at most C, so that every number fits its word.
use Rattle.std.specs.Prelude.{◌≡◌, refl, Bool, true, false, cond, ℕ, zero, suc, ◌+◌, ◌-◌, ◌*◌, ◌/◌, ◌^◌, ◌≤◌, ◌<◌, ltb, leb, ℤ, pos, neg_ℤ, nat_abs, ◌-ℤ◌}
use Rattle.std.proofs.Common.{sym, ◌∙◌, arith}
use Rattle.std.specs.Prelude.{eqb, None, Some, Result, Ok, Err}
use Rattle.std.proofs.Common.{lt-ltb, le-ltb, ne_eqb, le-leb, leb-true, leb-false}
use Rattle.std.proofs.lemmas.Bool.{eqb-false, lt-leb}
use Rattle.std.specs.Int.{w64}
use mir.Val.{SFits, to_z, of_z}
use Rattle.std.proofs.lemmas.Int.{to_z_pos}
use Rattle.integer.specs.{◌modulo◌}
use Rattle.integer.proofs.{signed, neg_is, diff_is, reads, abs_is, fits-abs, diff-fits, diff-reads, modulo-lt, modulo-is, modulo-alike}
use Rattle.encoder.specs.{InForce, Refusal, Sound, WrongTurn, when, checked}
use Rattle.encoder.proofs.{before-none, when-not}
use Rattle.axis_shaft.specs.{oriented, difference, shorter, move_of, half_refusal, move_refusal, approach_from, gap}
use native.Mathlib.Nat as N

-- ---- 1. the oriented number
module _ (f : InForce) (raw : ℕ) where
  pub oriented-none : f.reversed ≡ true → raw ≡ 0 → raw ≡ oriented f raw
  unfolding oriented
  oriented-none e z = rw (e, z, N.sub-zero f.capacity.0) (sym (N.mod_self f.capacity.0))

  pub oriented-on : f.reversed ≡ true → (raw ≡ 0 → ⊥) → raw < f.capacity.0 → f.capacity.0 - raw ≡ oriented f raw
  unfolding oriented
  oriented-on e ne h = rw e (sym (N.mod-eq_of_lt (omega arith)))

  pub oriented-off : f.reversed ≡ false → raw ≡ oriented f raw
  unfolding oriented
  oriented-off e = rw e

-- oriented number + raw number is 0 or C
turned : (f : InForce) (raw : ℕ) → f.reversed ≡ true → raw < f.capacity.0 → (k : ℕ) × (oriented f raw + raw ≡ k * f.capacity.0)
turned f zero e h = (0, omega (arith, oriented-none f 0 e refl, N.zero-mul f.capacity.0))
turned f (suc n) e h = (1, omega (arith, oriented-on f (suc n) e (λ z. omega arith) h, N.one-mul f.capacity.0))

-- ---- 3. the difference: to − from, or to − from + C
module _ (c from to : ℕ) (from-lt : from < c) (to-lt : to < c) where
  pub apart-ahead : from ≤ to → to - from ≡ (pos to -ℤ pos from) modulo c
  apart-ahead h = sym (modulo-is _ 0 0 (omega arith) (omega (arith, diff_is (pos to) (pos from))))

  pub apart-round : to < from → to + (c - from) ≡ (pos to -ℤ pos from) modulo c
  apart-round h = sym (modulo-is _ 1 0 (omega arith) (omega (arith, diff_is (pos to) (pos from))))

module _ (f : InForce) (last raw n : ℕ) where
  pub difference-off : f.reversed ≡ false → n ≡ (pos raw -ℤ pos last) modulo f.capacity.0 → n ≡ difference f last raw
  unfolding difference
  difference-off e n-is = n-is ∙ rw (← oriented-off f raw e, ← oriented-off f last e)

  pub difference-on : f.reversed ≡ true → last < f.capacity.0 → raw < f.capacity.0 → n ≡ (pos last -ℤ pos raw) modulo f.capacity.0
      → n ≡ difference f last raw
  unfolding difference
  difference-on e l r n-is =
      let x = pos last -ℤ pos raw in
      let a = oriented f raw in
      let b = oriented f last in
      let y = pos a -ℤ pos b in
      let i = turned f raw e r in
      let j = turned f last e l in
      n-is ∙ modulo-alike x y i.0 j.0 (omega arith) (omega (signed, diff_is (pos last) (pos raw), diff_is (pos a) (pos b), i.1, j.1))

pub difference-lt : (f : InForce) (last raw : ℕ) → Sound f → difference f last raw < f.capacity.0
unfolding difference
difference-lt f last raw s = modulo-lt (pos (oriented f raw) -ℤ pos (oriented f last)) s.capacity-least

-- ---- the shorter way
module _ (n c : ℕ) (lt : n < c) where
  pub shorter-ahead : 2 * n < c → shorter n c ≡ pos n
  unfolding shorter
  shorter-ahead h = rw (lt-ltb n (c - n) (omega arith))

  pub shorter_back : c ≤ 2 * n → shorter n c ≡ pos n -ℤ pos c
  unfolding shorter
  shorter_back h = rw (le-ltb n (c - n) (omega arith)) (omega (signed, neg_is (pos (c - n)), diff_is (pos n) (pos c)))

  shorter-most : nat_abs (shorter n c) ≤ c
  unfolding shorter
  shorter-most = go (ltb n (c - n))
    where
      go : (b : Bool) → nat_abs (cond b (pos n) (neg_ℤ (pos (c - n)))) ≤ c
      go true = omega arith
      go false = let z = neg_ℤ (pos (c - n)) in omega (arith, neg_is (pos (c - n)), abs_is z)

  module _ (most : c ≤ 2 ^ 31) where
    pub back_fits : SFits w64 (to_z w64 n -ℤ to_z w64 c)
    back_fits = diff-fits n c (omega arith) (omega arith)

    pub way-ahead : 2 * n < c → to_z w64 n ≡ shorter n c
    way-ahead h = to_z_pos w64 n (omega arith) ∙ sym (shorter-ahead h)

    pub way_back : c ≤ 2 * n → to_z w64 (of_z w64 (to_z w64 n -ℤ to_z w64 c)) ≡ shorter n c
    way_back h = diff-reads n c (omega arith) (omega arith) ∙ sym (shorter_back h)

module _ (f : InForce) (last raw : ℕ) where
  pub move-most : Sound f → nat_abs (move_of f last raw) ≤ f.capacity.0
  unfolding move_of
  move-most s = shorter-most (difference f last raw) _ (difference-lt f last raw s)

  pub move-fits : Sound f → SFits w64 (move_of f last raw)
  move-fits s = fits-abs _ (omega (arith, move-most s, s.capacity-most))

  module _ (n : ℕ) (d : ℤ) (n-is : n ≡ difference f last raw) (d-is : d ≡ shorter n f.capacity.0) where
    pub move-is : d ≡ move_of f last raw
    unfolding move_of
    move-is = rw (← n-is) d-is

  -- ---- the move, or its refusal, by the tests before it
  pub below : when (leb f.capacity.0 raw) WrongTurn ≡ None → raw < f.capacity.0
  below none = leb-false _ _ (when-not _ _ none)

  module _ (n : ℕ) (n-is : n ≡ difference f last raw) (none : when (leb f.capacity.0 raw) WrongTurn ≡ None) where
    pub approach-half : (r : Refusal) → half_refusal n f.capacity.0 ≡ Some r → Err r ≡ approach_from f last raw
    unfolding approach_from move_refusal
    approach-half r half = rw (none, ← n-is, half)

    pub approach-by : (d : ℤ) → Sound f → half_refusal n f.capacity.0 ≡ None → d ≡ shorter n f.capacity.0
        → Ok (to_z w64 (of_z w64 d)) ≡ approach_from f last raw
    unfolding approach_from move_refusal
    approach-by d s half d-is = rw (none, ← n-is, half, move-is n d n-is d-is, reads (move-fits s))

    pub move-half : (x : Result (Unit {0}) Refusal) → x ≡ checked (half_refusal n f.capacity.0) → x ≡ checked (move_refusal f last raw)
    unfolding move_refusal
    move-half x x-is = x-is ∙ rw (none, ← n-is)

-- ---- how far apart two raw numbers are
pub gap_up : (a b : ℕ) → a ≤ b → b - a ≡ gap a b
gap_up a b h = rw (le-leb a b h)

pub gap_down : (a b : ℕ) → b < a → a - b ≡ gap a b
gap_down a b h = rw (lt-leb a b h)

gap-swap : (a b : ℕ) → gap b a ≡ gap a b
gap-swap a b = go (leb a b) refl
  where
    go : (t : Bool) → leb a b ≡ t → gap b a ≡ gap a b
    go true t = let h = leb-true a b t in by_order (leb b a) refl h
      where
        by_order : (u : Bool) → leb b a ≡ u → a ≤ b → gap b a ≡ gap a b
        by_order true u h = let k = leb-true b a u in sym (gap_up b a k) ∙ omega arith ∙ gap_up a b h
        by_order false u h = sym (gap_down b a (leb-false b a u)) ∙ gap_up a b h
    go false t = let h = leb-false a b t in sym (gap_up b a (omega arith)) ∙ gap_down a b h

-- two numbers whose difference around c is c/2 are c/2 apart
gap-half : (c from to : ℕ) → from < c → to < c → 2 * ((pos to -ℤ pos from) modulo c) ≡ c → gap from to ≡ c / 2
gap-half c from to f t e = go (leb from to) refl
  where
    half : {n : ℕ} → 2 * n ≡ c → n ≡ c / 2
    half {n} h = let two : 0 < 2 = omega arith in omega (arith, N.div-add-mod' c 2, N.mod-lt c two)

    go : (b : Bool) → leb from to ≡ b → gap from to ≡ c / 2
    go true b = let k = leb-true from to b in sym (gap_up from to k) ∙ half (rw (← apart-ahead c from to f t k) at e)
    go false b = let k = leb-false from to b in sym (gap_down from to k) ∙ half (omega (arith, rw (← apart-round c from to f t k) at e))

-- an accepted reading is below C
pub raw-lt : (f : InForce) (last raw : ℕ) → move_refusal f last raw ≡ None → raw < f.capacity.0
unfolding move_refusal
raw-lt f last raw h = below f last raw (before-none (when (leb f.capacity.0 raw) WrongTurn) _ h).0

-- a reading below C that is not C/2 from the last one
pub not-doubtful : (f : InForce) (last raw : ℕ) → Sound f → last < f.capacity.0 → leb f.capacity.0 raw ≡ false → eqb (gap last raw) (f.capacity.0 / 2) ≡ false
    → move_refusal f last raw ≡ None
unfolding move_refusal
not-doubtful f last raw s lt small far =
    let r-lt = leb-false _ _ small in
    let apart-so : 2 * difference f last raw ≡ f.capacity.0 → gap last raw ≡ f.capacity.0 / 2 = λ e. by_way f.reversed refl r-lt e in
    rw (small, ne_eqb (2 * difference f last raw) f.capacity.0 (λ e. eqb-false _ _ far (apart-so e)))
  where
    by_way : (b : Bool) → f.reversed ≡ b → raw < f.capacity.0 → 2 * difference f last raw ≡ f.capacity.0 → gap last raw ≡ f.capacity.0 / 2
    by_way false b r-lt e = gap-half f.capacity.0 last raw lt r-lt (rw (← difference-off f last raw _ b refl) at e)
    by_way true b r-lt e = gap-swap raw last ∙ gap-half f.capacity.0 raw last r-lt lt (rw (← difference-on f last raw _ b lt r-lt refl) at e)

pub ruleset gaps = (gap_up, gap_down)

pub ruleset orients = (oriented-none, oriented-on, oriented-off, apart-ahead, apart-round, difference-off, difference-on)

pub ruleset ways = (back_fits, way-ahead, way_back, move-is)

pub ruleset approaches = (below, approach-half, approach-by, move-half)
