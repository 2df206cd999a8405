-- A cycle keeps the link within its limits (request 3), so that a link of the library's own making never gets 16 on its axis. The counter is counted up to its
-- stop, an expected value is at most 15, and every code that is held was held before or has its cause in this cycle.
use Rattle.std.specs.Prelude.{◌≡◌, refl, Bool, true, false, cond, not, ◌&&◌, ◌||◌, ℕ, zero, suc, ◌+◌, ◌-◌, ◌≤◌, min, eqb, leb, ℤ}
use Rattle.std.proofs.Common.{sym, ◌∙◌, arith, leb-true, le-leb, eqb-true, ne_eqb}
use Rattle.std.proofs.lemmas.Bool.{false≢true}
use Rattle.encoder.specs.{InForce}
use Rattle.encoder.proofs.{and_split}
use Rattle.cyclic_link.specs.{Life, Link, Control, quiet, counter, expected, started, following, heard, at_stop, code_by, code, Class2.link as link2, Class4.link as link4}
use Rattle.cyclic_link.specs.{Class4.parked, acknowledges, Class4.clears, Class4.sensor_fault, Class4.life_fault, Classes.reaction, counter_within, of_error, code_within, within}
use Rattle.cyclic_link.proofs.SignOfLifeLaws.{heard-on, heard-off}
use mathlib.{Core.Bool.and-false, Core.Bool.or-true}
use native.Mathlib.Nat as N

-- ---- the limits, as a test and one by one
pub record LinkLimits (w : Life) (k : Link) : Type 0 where
  pub counted : counter_within w k ≡ true
  pub next : k.expected ≤ 15
  pub coded : code_within w k ≡ true

pub link-limits : (w : Life) (k : Link) → within w k ≡ true → LinkLimits w k
unfolding within
link-limits w k e =
    let h = and_split (counter_within w k && leb k.expected 15) (code_within w k) e in
    let g = and_split (counter_within w k) (leb k.expected 15) h.0 in
    record { counted = g.0; next = leb-true _ _ g.1; coded = h.1 }

pub link-accepts : (w : Life) (k : Link) → LinkLimits w k → within w k ≡ true
unfolding within
link-accepts w k l = rw (l.counted, le-leb _ _ l.next, l.coded)

pub quiet-kept : (w : Life) → within w quiet ≡ true
unfolding within
quiet-kept w = refl

-- ---- the sign of life: the counter and the expected value
or-leb : (n m : ℕ) → (eqb n 0 || leb n m) ≡ true → n ≤ m
or-leb n m h = by (eqb n 0) refl
  where
    by : (b : Bool) → eqb n 0 ≡ b → n ≤ m
    by true e = omega (arith, eqb-true n 0 e)
    by false e = leb-true n m (rw e at h)

counter-most : (stop : ℕ) (k : Link) (v : ℕ) → k.counter ≤ stop → counter stop k v ≤ stop
unfolding counter
counter-most stop k v h = by (started k) (eqb v k.expected)
  where
    by : (on right : Bool) → cond on (cond right (k.counter - 1) (min (k.counter + 10) stop)) k.counter ≤ stop
    by true true = omega arith
    by true false = N.min-le_right (k.counter + 10) stop
    by false right = h

expected-most : (k : Link) (v : ℕ) → expected k v ≤ 15
unfolding expected
expected-most k v = by (started k || not (eqb v 0))
  where
    by : (b : Bool) → cond b (following v) 0 ≤ 15
    by true = omega arith
    by false = omega arith

heard-kept : (w : Life) (k : Link) (v : ℕ) → LinkLimits w k → LinkLimits w (heard w k v)
heard-kept w k v l = by w.on refl
  where
    by : (on : Bool) → w.on ≡ on → LinkLimits w (heard w k v)
    by true e =
        let m = counter-most w.stop k v (or-leb k.counter w.stop (rw e at l.counted)) in
        rw (heard-on w k v e)
        (record {
          counted = rw (e, le-leb _ _ m) (or-true (eqb (counter w.stop k v) 0));
          next = expected-most k v;
          coded = l.coded;
        })
    by false e = rw (heard-off w k v e) l

-- ---- the error: its code was held before, or has its cause in this cycle; a link with a code has an error
code-known : (w : Life) (k : Link) (stopped faulty park acknowledge : Bool) → code_within w k ≡ true → (stopped ≡ true → w.on ≡ true)
    → let n = code_by k stopped faulty park acknowledge in (eqb n 0 || of_error w n) ≡ true
code-known w k stopped faulty park acknowledge h on = by (clears k stopped faulty acknowledge) k.error (faulty && not park) stopped refl refl
  where
    by : (c e f s : Bool) → k.error ≡ e → stopped ≡ s → let n = cond c 0 (cond e k.code (cond f sensor_fault (cond s life_fault 0))) in (eqb n 0 || of_error w n) ≡ true
    by true e f s e-is s-is = refl
    by false true f s e-is s-is = rw (rw e-is at h) (or-true (eqb k.code 0))
    by false false true s e-is s-is = refl
    by false false false true e-is s-is = rw (on s-is)
    by false false false false e-is s-is = refl

error-of : (w : Life) (n : ℕ) → (eqb n 0 || of_error w n) ≡ true → cond (not (eqb n 0)) (of_error w n) (eqb n 0) ≡ true
error-of w n h = by (eqb n 0) (of_error w n) h
  where
    by : (z known : Bool) → (z || known) ≡ true → cond (not z) known z ≡ true
    by true known h = refl
    by false known h = h

-- an error that is held has a code
pub has_code : (w : Life) (k : Link) → within w k ≡ true → k.error ≡ true → eqb k.code 0 ≡ false
has_code w k h e = by k.code (rw e at (link-limits w k h).coded)
  where
    by : (n : ℕ) → of_error w n ≡ true → eqb n 0 ≡ false
    by zero t = absurd (false≢true (sym (and-false w.on) ∙ t))
    by (suc n) t = ne_eqb (suc n) 0 (λ z. omega arith)

-- ---- a cycle of either class
pub link-kept : (class : Bool) (w : Life) (f : InForce) (k : Link) (faulty : Bool) (c : Control) (stored : ℤ) → within w k ≡ true
    → within w (reaction class w f k faulty c stored).link ≡ true
unfolding link2 link4 code
link-kept true w f k faulty c stored h =
    let j = heard w k c.sign in
    let l = heard-kept w k c.sign (link-limits w k h) in
    let n = code-known w j (at_stop w j) faulty (parked c.word) (acknowledges c.word) l.coded (λ s. (and_split w.on _ s).0) in
    link-accepts w _ (record { counted = l.counted; next = l.next; coded = error-of w (code j (at_stop w j) faulty c.word) n })
link-kept false w f k faulty c stored h = let l = link-limits w k h in link-accepts w _ (record { counted = l.counted; next = l.next; coded = l.coded })
