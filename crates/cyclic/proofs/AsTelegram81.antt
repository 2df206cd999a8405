-- Request 1: unless the call is refused, telegram 83 goes forward exactly as telegram 81. Next axis, next link and the first twelve octets are those of
-- telegram 81 for the same raw number and output, whatever twelve octets are lent there. What telegram 83 takes, telegram 81 takes too.
use Rattle.std.specs.Prelude.{◌≡◌, true, List, ℕ, length, take, None}
use Rattle.std.proofs.Common.{take_at}
use Rattle.encoder.proofs.{before-none}
use Rattle.axis.specs.{Axis, axis_refusal}
use Rattle.cyclic_link.specs.{Link, link_refusal}
use Rattle.cyclic.specs.{length_refusal, class4, life, cycle_refusal, input_left, cycle, cycle_input, refusal83, input83, cycle83_refusal, cycle83, cycle83_input}
use Rattle.cyclic.proofs.{Telegram83Laws.lengths-83, Telegram83Laws.twelve-long, CycleKept.cycled-none}

module _ (a : Axis) (k : Link) (raw e : ℕ) (output input lent : List ℕ) (twelve : length lent ≡ 12) (taken : (cycle83 a k raw e output input).refusal ≡ None) where
  none : cycle83_refusal a k e output input ≡ None
  unfolding cycle83
  none = cycled-none a _ k _ (cycle83_refusal a k e output input) taken

  each : (axis_refusal a ≡ None) × (link_refusal (life a.parameters) k ≡ None) × (refusal83 (class4 a.parameters) (length output) (length input) e ≡ None)
  unfolding cycle83_refusal
  each =
      let h = before-none (axis_refusal a) _ none in
      let i = before-none (link_refusal (life a.parameters) k) _ h.1 in
      (h.0, i.0, i.1)

  four : (class4 a.parameters ≡ true) × (length output ≡ 4)
  four = let h = lengths-83 (class4 a.parameters) (length output) (length input) e each.2 in (h.0, h.2)

  none-81 : cycle_refusal a k output lent ≡ None
  unfolding cycle_refusal length_refusal
  none-81 = rw (each.0, each.1, four.0, four.1, twelve)

  pub as-telegram-81 : (cycle83 a k raw e output input ≡ cycle a k raw output lent)
      × (take 12 (cycle83_input a k raw e output input) ≡ cycle_input a k raw output lent)
  unfolding cycle cycle83 cycle_input cycle83_input input83
  as-telegram-81 = (rw (none, none-81), rw (none, none-81) (take_at (input_left a k raw output) _ 12 (twelve-long a k raw output four.0)))
