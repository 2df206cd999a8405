-- The walk of a batch that writes. At the i-th reading it keeps what is still to be written; at the end of the list nothing is left. It carries units
-- and rest, and these are at each entry those of the shaft.
use Rattle.std.specs.Prelude.{◌≡◌, refl, List, [], ◌∷◌, ◌++◌, ℕ, suc, ◌+◌, ◌≤◌, ◌<◌}
use Rattle.std.proofs.Common.{sym, ◌∙◌, append_assoc, append-nil}
use Rattle.std.specs.Prelude.{None, ℤ, pos, ◌+ℤ◌, length, get_or, take, drop, set}
use Rattle.std.proofs.Common.{add-one, arith, ap, length-set, drop_of_length-le, drop-cons, take_all}
use Rattle.std.specs.Int.{w64}
use mir.Val.{SFits, to_z, of_z}
use Rattle.integer.proofs.{reads}
use Rattle.integer.specs.{◌modulo◌}
use Rattle.encoder.specs.{InForce, Sound}
use Rattle.encoder.proofs.{before-none}
use Rattle.axis_shaft.specs.{Shaft, Inside, move_refusal, moved_to, position_at, refusal_in, after, positions_in}
use Rattle.axis_shaft.specs.{Running, Within, ran_to, running_of, shaft_of}
use Rattle.axis_shaft.proofs.{EachEntry.entry, EachEntry.shaft-again, EachEntry.running-within, SensorLaws.raw-lt, ShaftLaws.moved-kept}
use lib.{Seq.take-suc-set}

pub record Going (f : InForce) (offset : ℤ) (k₀ : Shaft) (s : List ℕ) (k : Shaft) (i : ℕ) (out : List ℕ) : Type 0 where
  pub long : length s ≡ length out
  pub stands : Inside f k
  pub none : refusal_in f k.last.0 (drop i s) ≡ None
  pub ends : after f k (drop i s) ≡ after f k₀ s
  pub writes : take i out ++ positions_in f offset k (drop i s) ≡ positions_in f offset k₀ s

pub going_start : (f : InForce) (offset : ℤ) (k : Shaft) (s out : List ℕ) → Inside f k → length s ≡ length out → refusal_in f k.last.0 s ≡ None
    → Going f offset k s k 0 out
going_start f offset k s out i long none = record { long = long; stands = i; none = none; ends = refl; writes = refl }

module _ (f : InForce) (offset : ℤ) (k₀ : Shaft) (s : List ℕ) (k : Shaft) (i : ℕ) (out : List ℕ) (g : Going f offset k₀ s k i out) where
  module _ (h : i < length s) where
    parts : (move_refusal f k.last.0 (get_or s i 0) ≡ None) × (refusal_in f (get_or s i 0) (drop (suc i) s) ≡ None)
    unfolding refusal_in
    parts = before-none _ (refusal_in f (get_or s i 0) (drop (suc i) s)) (rw (drop-cons s i 0 h) at g.none)

    pub going-raw : get_or s i 0 < f.capacity.0
    going-raw = raw-lt f k.last.0 (get_or s i 0) parts.0

    module _ (n : Shaft) (n-is : n ≡ moved_to f k (get_or s i 0)) where
      pub going_more : (p : ℕ) → p ≡ position_at f offset n → Going f offset k₀ s n (i + 1) (set out i p)
      unfolding after positions_in moved_to
      going_more p p-is =
          let j : i < length out = omega (arith, g.long) in
          let ends-here : after f k (drop i s) ≡ after f n (drop (suc i) s) = rw (drop-cons s i 0 h, n-is) in
          let writes-here : positions_in f offset k (drop i s) ≡ p ∷ positions_in f offset n (drop (suc i) s) = rw (drop-cons s i 0 h, p-is, n-is) in
          record {
            long = g.long ∙ simp length-set;
            stands = rw n-is (moved-kept f k (get_or s i 0) g.stands going-raw);
            none = rw (add-one, n-is) parts.1;
            ends = rw add-one (sym ends-here ∙ g.ends);
            writes =
                rw (add-one, take-suc-set out i p j)
                (append_assoc (take i out) (p ∷ []) (positions_in f offset n (drop (suc i) s)) ∙ (rw writes-here at g.writes));
          }

  module _ (h : length s ≤ i) where
    pub going-shaft : k ≡ after f k₀ s
    unfolding after
    going-shaft = rw (drop_of_length-le s h) at g.ends

    pub going-list : out ≡ positions_in f offset k₀ s
    unfolding positions_in
    going-list =
        let j : length out ≤ i = omega (arith, g.long) in
        sym (append-nil out) ∙ (rw (drop_of_length-le s h, take_all i out j) at g.writes)

-- ---- the second walk keeps units and rest: they are those of the shaft
pub record Following (f : InForce) (offset : ℤ) (r₀ : Running) (s : List ℕ) (r : Running) (i : ℕ) (out : List ℕ) : Type 0 where
  pub tied : r ≡ running_of f (shaft_of f r)
  pub going : Going f offset (shaft_of f r₀) s (shaft_of f r) i out

again : (f : InForce) (k : Shaft) (r : Running) → Sound f → r ≡ running_of f k → shaft_of f r ≡ k
again f k r s e = rw (e, shaft-again f s k)

pub following-start : (f : InForce) (offset : ℤ) (k : Shaft) (r : Running) (s out : List ℕ) → Inside f k → length s ≡ length out → refusal_in f k.last.0 s ≡ None
    → r ≡ running_of f k → Following f offset r s r 0 out
following-start f offset k r s out i long none e =
    let same = again f k r i.sound e in
    record { tied = rw same e; going = rw same (going_start f offset k s out i long none) }

module _ (f : InForce) (offset : ℤ) (r₀ : Running) (s : List ℕ) (r : Running) (i : ℕ) (out : List ℕ) (g : Following f offset r₀ s r i out) where
  pub following-sound : Sound f
  following-sound = g.going.stands.sound

  pub following-within : Within f r
  following-within = rw g.tied (running-within f following-sound (shaft_of f r) g.going.stands)

  module _ (h : i < length s) where
    pub following-raw : get_or s i 0 < f.capacity.0
    following-raw = going-raw f offset (shaft_of f r₀) s (shaft_of f r) i out g.going h

    -- one entry more
    module _ (r' : Running) (r-is : r' ≡ ran_to f r (get_or s i 0)) where
      next-is : r' ≡ running_of f (moved_to f (shaft_of f r) (get_or s i 0))
      next-is = r-is ∙ ap (λ (k : Running). ran_to f k (get_or s i 0)) g.tied ∙ entry f following-sound (shaft_of f r) (get_or s i 0)

      position-next : (pos r'.units.0 +ℤ offset) modulo f.span.0 ≡ position_at f offset (moved_to f (shaft_of f r) (get_or s i 0))
      unfolding position_at running_of
      position-next = rw next-is

      pub following-more : (p : ℕ) → p ≡ (pos r'.units.0 +ℤ offset) modulo f.span.0 → Following f offset r₀ s r' (i + 1) (set out i p)
      following-more p p-is =
          let more = going_more f offset (shaft_of f r₀) s (shaft_of f r) i out g.going h _ refl p (p-is ∙ position-next) in
          let same = again f (moved_to f (shaft_of f r) (get_or s i 0)) r' following-sound next-is in
          record { tied = next-is ∙ ap (running_of f) (sym same); going = rw same more }

  module _ (h : length s ≤ i) (k : Shaft) (e : r₀ ≡ running_of f k) where
    pub following-shaft : (n : Shaft) → n ≡ shaft_of f r → n ≡ after f k s
    following-shaft n n-is = n-is ∙ (rw (again f k r₀ following-sound e) at (going-shaft f offset (shaft_of f r₀) s (shaft_of f r) i out g.going h))

    list_read : out ≡ positions_in f offset k s
    list_read = rw (again f k r₀ following-sound e) at (going-list f offset (shaft_of f r₀) s (shaft_of f r) i out g.going h)

-- the offset as the machine reads it back
pub following-list : (f : InForce) (offset : ℤ) (r₀ : Running) (s : List ℕ) (r : Running) (i : ℕ) (out : List ℕ) → SFits w64 offset
    → Following f (to_z w64 (of_z w64 offset)) r₀ s r i out → length s ≤ i → (k : Shaft) → r₀ ≡ running_of f k → out ≡ positions_in f offset k s
following-list f offset r₀ s r i out fits g h k e = rw (reads fits) at (list_read f (to_z w64 (of_z w64 offset)) r₀ s r i out g h k e)

pub ruleset walks = (following-start, following-sound, following-within, following-raw, following-more, following-shaft, following-list)
