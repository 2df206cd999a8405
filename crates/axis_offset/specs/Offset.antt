-- Presets on numbers alone (document 01, "The axis", rule 6; rows 11 and 12).
use Rattle.std.specs.Prelude.{Bool, cond, not, ℕ, ℤ, pos, ◌+ℤ◌, ◌-ℤ◌, Option}
use Rattle.ring.specs.{on_ring, in_range}
use Rattle.encoder.specs.{InForce, Refusal, WrongPreset, ClassOff, when, ◌before◌}

-- 12: class bit 0. 11: v not between −L and L, ends excluded
unfoldable pub value_refusal : InForce → ℤ → Option Refusal
value_refusal f v = when (not f.enabled) ClassOff before when (not (in_range v f.span.0)) WrongPreset

-- new position − unshifted position u. The new position is v, or position + v, on a ring of n
unfoldable pub offset_by : ℕ → ℕ → ℕ → ℤ → Bool → ℤ
offset_by n position u v relative = pos (on_ring (cond relative (pos position +ℤ v) v) n) -ℤ pos u
