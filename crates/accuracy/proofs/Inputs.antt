-- The positions in a cycle's input, read back out of the octets, are the axis' own: they are below 2^32, so that four octets hold them.
use Rattle.std.specs.Prelude.{◌≡◌, true, false, List, ◌++◌, ℕ, ◌^◌, ◌<◌, ℤ}
use Rattle.std.proofs.Common.{arith}
use Rattle.integer.specs.{part, big_endian, octets}
use Rattle.integer.proofs.{modulo-lt, big_endian-octets}
use Rattle.axis_shaft.specs.{position_at}
use Rattle.axis.specs.{Axis, rules_on, position_of}
use Rattle.axis.proofs.{Limits}
use Rattle.cyclic_link.specs.{zsw}
use Rattle.cyclic.specs.{Class2.input as input2, counted, zsw2, xist1, xist2, Class4.input as input4, class4, input_of}
use Rattle.accuracy.specs.{Shown, State}
use Rattle.accuracy.proofs.Standing.{device_of, ledger_of, Keeps, stands-agrees}

position-lt : (a : Axis) → Limits a → position_of a < 256 ^ 4
unfolding position_of position_at
position-lt a lim = let h : position_of a < (rules_on a).span.0 = modulo-lt _ lim.shaft.sound.span-least in omega (arith, lim.shaft.sound.span-most)

-- ---- the octets: the first four, and four among others; more may stand behind them
four-back : (x : ℕ) (more : List ℕ) → x < 256 ^ 4 → big_endian (part 1 4 (octets 4 x ++ more)) ≡ x
unfolding octets
four-back x more h = big_endian-octets 4 x h

third_back : (v w x y : ℕ) (more : List ℕ) → x < 256 ^ 4 → big_endian (part 5 8 (octets 2 v ++ octets 2 w ++ octets 4 x ++ octets 4 y ++ more)) ≡ x
unfolding octets
third_back v w x y more h = big_endian-octets 4 x h

fourth-back : (v w x y : ℕ) (more : List ℕ) → y < 256 ^ 4 → big_endian (part 9 12 (octets 2 v ++ octets 2 w ++ octets 4 x ++ octets 4 y ++ more)) ≡ y
unfolding octets
fourth-back v w x y more h = big_endian-octets 4 y h

-- of every cycle, whatever stands behind: NIST_B in telegram 83, else nothing
pub shown : (s : State) (p : ℕ) (g : ℤ) → Limits s.axis → Keeps s p g → (output more : List ℕ)
    → Shown (device_of s.axis) (ledger_of s p g) (input_of s.link s.axis output ++ more)
unfolding input_of input2 input4
shown s p g lim k output more =
    let a = s.axis in
    let t = stands-agrees s p g lim k in
    let lt = position-lt a lim in
    let second : class4 a.parameters ≡ true → s.link.error ≡ false → big_endian (part 9 12 (input_of s.link a output ++ more)) ≡ position_of a
    = λ class well. rw (class, well) (fourth-back zsw2 (zsw _ (counted output)) (xist1 a) (position_of a) more lt) in
    record {
      class2 = λ class. rw (class, four-back (position_of a) more lt) t;
      xist1 = λ class plain. rw (class, plain, third_back zsw2 (zsw s.link (counted output)) (position_of a) (xist2 s.link a) more lt) t;
      xist2 = λ class well. rw (second class well) t;
    }
