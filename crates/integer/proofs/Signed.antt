-- Facts of ℤ by `omega`. An integer is two naturals, how far it lies above 0 and how far below. Each operation has one equation, linear in
-- these; each order and equation of ℤ is one of naturals. So `omega (signed, add_is x y, ..)` proves statements of ℤ: list the equation of each
-- compound term.
use Rattle.std.specs.Prelude.{◌≡◌, refl, Bool, true, false, not, cond, ℕ, zero, suc, ◌+◌, ◌*◌, ◌-◌, ◌<◌, ◌≤◌, min, T, ltb, ℤ, pos, negsuc}
use Rattle.std.proofs.Common.{sym, ap, arith}
use Rattle.std.specs.Prelude.{neg_ℤ, ◌+ℤ◌, ◌-ℤ◌, ◌*ℤ◌, ◌≤ℤ◌, ◌<ℤ◌}
use Rattle.std.specs.Int.Signed.{lt_z}
use Rattle.std.specs.Int.{Width}
use mir.Val.{SFits, to_z, of_z}
use Rattle.std.proofs.lemmas.Int.{to_z-of_z}
use lib.{Dec.ltb→lt, Dec.nltb→le, Dec.lt→ltb, Dec.le→leb, Dec.leb→le, IntN.sub_ℕ, Signed.lt_z_no}
use mathlib.{Core.Path.subst}
use native.Mathlib.Nat as N

-- how far z lies above 0, and how far below
abbrev pub above : ℤ → ℕ
above (pos n) = n
above (negsuc n) = 0

abbrev pub below : ℤ → ℕ
below (pos n) = 0
below (negsuc n) = suc n

-- one of the two is 0
pub apart : (z : ℤ) → min (above z) (below z) ≡ 0
apart (pos n) = omega arith
apart (negsuc n) = omega arith

-- ---- the operations
cond_ind : (c : Bool) (x y : ℤ) (P : ℤ → Type 0) → (T c → P x) → (T (not c) → P y) → P (cond c x y)
cond_ind true x y P f g = f tt
cond_ind false x y P f g = g tt

sub_is : (a b : ℕ) → above (sub_ℕ a b) + b ≡ a + below (sub_ℕ a b)
sub_is a b =
    cond_ind (ltb a b) (negsuc (b - suc a)) (pos (a - b)) (λ z. above z + b ≡ a + below z)
    (λ t. lower (ltb→lt a b t)) (λ t. upper (nltb→le a b t))
  where
    lower : a < b → 0 + b ≡ a + suc (b - suc a)
    lower h = omega arith

    upper : b ≤ a → (a - b) + b ≡ a + 0
    upper h = omega arith

pub neg_is : (z : ℤ) → (above (neg_ℤ z) ≡ below z) × (below (neg_ℤ z) ≡ above z)
neg_is (pos zero) = (refl, refl)
neg_is (pos (suc n)) = (refl, refl)
neg_is (negsuc n) = (refl, refl)

pub add_is : (x y : ℤ) → above (x +ℤ y) + (below x + below y) ≡ (above x + above y) + below (x +ℤ y)
add_is (pos a) (pos b) = omega arith
add_is (pos a) (negsuc b) = omega (arith, sub_is a (suc b))
add_is (negsuc a) (pos b) = omega (arith, sub_is b (suc a))
add_is (negsuc a) (negsuc b) = omega arith

pub diff_is : (x y : ℤ) → above (x -ℤ y) + (below x + above y) ≡ (above x + below y) + below (x -ℤ y)
diff_is x y = omega (arith, add_is x (neg_ℤ y), neg_is y)

pub mul_is : (x y : ℤ) → above (x *ℤ y) + (above x * below y + below x * above y) ≡ (above x * above y + below x * below y) + below (x *ℤ y)
mul_is (pos a) (pos b) = omega (arith, N.mul-zero a, N.zero-mul b)
mul_is (pos a) (negsuc b) = omega (arith, N.mul-zero a, N.zero-mul (suc b), neg_is (pos (a * suc b)))
mul_is (negsuc a) (pos b) = omega (arith, N.mul-zero (suc a), N.zero-mul b, neg_is (pos (suc a * b)))
mul_is (negsuc a) (negsuc b) = omega (arith, N.mul-zero (suc a), N.zero-mul (suc b))

-- ---- equations and orders, to naturals and back
same : (x y : ℤ) → above x ≡ above y → below x ≡ below y → x ≡ y
same (pos a) (pos b) p q = ap pos p
same (pos a) (negsuc b) p q = absurd (omega arith)
same (negsuc a) (pos b) p q = absurd (omega arith)
same (negsuc a) (negsuc b) p q = ap negsuc (omega arith)

pub to-eq : {x y : ℤ} → above x + below y ≡ above y + below x → x ≡ y
to-eq {x} {y} e = let h = apart x in let k = apart y in same x y (omega arith) (omega arith)

pub of_eq : {x y : ℤ} → x ≡ y → above x + below y ≡ above y + below x
of_eq {x} {y} e = omega (arith, ap above e, ap below e)

pub to_le : {x y : ℤ} → above x + below y ≤ above y + below x → x ≤ℤ y
to_le {x = pos a} {y = pos b} h = record { le = le→leb a b (omega arith) }
to_le {x = pos a} {y = negsuc b} h = absurd (omega arith)
to_le {x = negsuc a} {y = pos b} h = record { le = tt }
to_le {x = negsuc a} {y = negsuc b} h = record { le = le→leb b a (omega arith) }

pub of_le : {x y : ℤ} → x ≤ℤ y → above x + below y ≤ above y + below x
of_le {x = pos a} {y = pos b} h = omega (arith, leb→le a b h.le)
of_le {x = pos a} {y = negsuc b} h = absurd h.le
of_le {x = negsuc a} {y = pos b} h = omega arith
of_le {x = negsuc a} {y = negsuc b} h = omega (arith, leb→le b a h.le)

pub to-lt : {x y : ℤ} → above x + below y < above y + below x → x <ℤ y
to-lt {x = pos a} {y = pos b} h = record { lt = lt→ltb a b (omega arith) }
to-lt {x = pos a} {y = negsuc b} h = absurd (omega arith)
to-lt {x = negsuc a} {y = pos b} h = record { lt = tt }
to-lt {x = negsuc a} {y = negsuc b} h = record { lt = lt→ltb b a (omega arith) }

pub of_lt : {x y : ℤ} → x <ℤ y → above x + below y < above y + below x
of_lt {x = pos a} {y = pos b} h = omega (arith, ltb→lt a b h.lt)
of_lt {x = pos a} {y = negsuc b} h = absurd h.lt
of_lt {x = negsuc a} {y = pos b} h = omega arith
of_lt {x = negsuc a} {y = negsuc b} h = omega (arith, ltb→lt b a h.lt)

-- ---- what a test of two integers tells; a number that fits reads back unchanged
pub lt-true : (x y : ℤ) → lt_z x y ≡ true → above x + below y < above y + below x
lt-true x y e = of_lt {x = x} {y = y} (record { lt = subst T (sym e) tt })

pub lt-false : (x y : ℤ) → lt_z x y ≡ false → above y + below x ≤ above x + below y
lt-false x y e = of_le {x = y} {y = x} (lt_z_no (subst (λ (t : Bool). T (not t)) (sym e) tt))

pub held : {w : Width} {z : ℤ} → SFits w z → above (to_z w (of_z w z)) + below z ≡ above z + below (to_z w (of_z w z))
held {w} {z} f = of_eq (to_z-of_z w z f)

-- the facts that `omega` gets
pub ruleset signed = (arith, to-eq, of_eq, to_le, of_le, to-lt, of_lt, lt-true, lt-false, held)
