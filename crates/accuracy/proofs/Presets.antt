-- A preset beside a ledger: the position is the one that rule 6 gives, and the ledger then counts from it.
use Rattle.std.specs.Prelude.{refl, Bool, true, false, ℕ, ℤ}
use Rattle.axis.specs.{rules_on, unshifted_of, position_of, asked, presetted}
use Rattle.axis.proofs.{Limits, asked-lt, put_is}
use Rattle.accuracy.specs.{made, put, Rule6, State}
use Rattle.accuracy.proofs.{Kept.kept-preset, Standing.device_of, Standing.ledger_of, Standing.Matches, Standing.onward}

module _ (s : State) (p : ℕ) (g : ℤ) (lim : Limits s.axis) (v : ℤ) where
  pub puts-by : (relative : Bool) → Rule6 (device_of s.axis) (made v relative) (position_of s.axis) (position_of (presetted s.axis v relative))
  unfolding asked rules_on
  puts-by true = put_is s.axis lim v true
  puts-by false = put_is s.axis lim v false

  pub stands-preset : (relative : Bool) → let b = presetted s.axis v relative in
      Matches (device_of s.axis) (onward s b) (put (made v relative) (ledger_of s p g) (position_of b))
  unfolding presetted unshifted_of rules_on
  stands-preset relative =
      let a = s.axis in
      let t = kept-preset (rules_on a) lim.shaft.sound a.shaft (asked a v relative) (asked-lt a lim v relative) in
      record { device = refl; ledger = refl; kept = rw (put_is a lim v relative) t }
