-- THE CLAIM (document 01, "The distance rule", demand 3): no position that is reported is ever a whole unit away from the exact one.
--
-- It supposes of each raw number accepted after the first: the shaft has truly moved by m steps since the one before, by less than half the sensor's
-- range either way, and the sensor shows where it came to. It supposes nothing else: plate, parameters and first reading are any that start an axis,
-- and the calls are any list, in any order, with any arguments and lent buffers, refused calls and faulty cycles among them.
--
-- It claims of every position, at the moment when it is reported: the position lies less than one unit from p + g × M / R, counted around the total
-- range L. Here p is the position just after the last preset, and g the true steps since then; before any preset p is 0, and g counts from the sensor's
-- zero. And each preset puts the position where rule 6 says. Presets are made by preset calls and by cycles with the class on. A cycle of class 4 makes one
-- on a rise of bit 12 while no error is held, neither 0001h nor 0F02h (request 3). In class 2 (request 2) a rise of bit 31 makes one due; it is made in the first cycle, that of the rise included, with the bit still
-- 1 that is not faulty and has a value below L.
--
-- The claim is of any program, and sees only the positions that the program reports. The ledger that keeps p and g (Ledger.antt) gets the calls and the
-- true steps. It settles by itself, from its own link state, which presets cycles make. It asks the program for one thing, the position just after a preset,
-- which rule 6 settles. So the programs that document 01 would send back do not meet the claim. A program that always shows 0, turns calls away, claims half
-- range or ignores readings breaks it as soon as the shaft has moved by a unit. A program that ignores presets breaks rule 6, and so does one that forgets
-- that a preset is due. One that forgets the master's sign of life makes a preset while 0F02h should be held. A program that copies the first position of a batch on breaks the claim at the second entry, one that scales the raw number afresh
-- breaks it when the sensor begins again, and one that adds rounded moves when the parts cut off come to a unit. Worthless.antt in proofs/ refutes each of
-- these, and Accuracy.antt proves the claim of ours.
use Rattle.std.specs.Prelude.{◌≡◌, true, false, List, [], ◌∷◌, ℕ, suc, ◌*◌, ◌<◌, ℤ, pos, neg_ℤ, nat_abs, ◌+ℤ◌, ◌-ℤ◌, ◌*ℤ◌, ◌<ℤ◌, None, Result, Ok, Err}
use Rattle.integer.specs.{bit, ◌modulo◌, part, big_endian}
use Rattle.encoder.specs.{Nameplate, Parameters, Refusal, fields_of}
use Rattle.axis_shaft.specs.{oriented, Reported}
use Rattle.cyclic.specs.{class4}
use Rattle.accuracy.specs.Calls.{First, Call, reading, raw_reading, batching, presetting, storing, cycling, measuring}
use Rattle.accuracy.specs.Ledger.{Device, force, Ledger, start_by, first_raw, opened, refusal_by, Preset, none, made, deed, with_readings, noted}

-- any program: a start, calls, its answer when it is asked for the position, and the lent list or octets as a call on that state leaves them
pub record Program : Type 1 where
  pub State : Type 0
  pub start : Nameplate → Parameters → First → State
  pub call : State → Call → State
  pub position : State → Result Reported Refusal
  pub lent : State → Call → List ℕ

-- a call, and the true steps before each raw number that is accepted in it, which the program is not told
pub record Event : Type 0 where
  pub call : Call
  pub steps : ℕ → ℤ

-- ---- supposed of each m: −C/2 < m < C/2, and m equals the difference of the two oriented numbers up to a multiple of C
pub record TrueSteps (d : Device) (last raw : ℕ) (m : ℤ) : Type 0 where
  pub small : 2 * nat_abs m < (force d).capacity.0
  pub times : ℤ
  pub same : m ≡ (pos (oriented (force d) raw) -ℤ pos (oriented (force d) last)) +ℤ times *ℤ pos (force d).capacity.0

unfoldable pub Supposed : Device → ℕ → List ℕ → (ℕ → ℤ) → Type 0
Supposed d last [] m = Unit
Supposed d last (raw ∷ raws) m = TrueSteps d last raw (m 0) × Supposed d raw raws (λ i. m (suc i))

-- ---- for some whole w, −R < R × (reported − p − w × L) − g × M < R
abbrev pub off : Device → Ledger → ℕ → ℤ → ℤ
off d l reported w =
    let f = force d in
    pos f.steps.0 *ℤ (pos reported -ℤ pos l.base -ℤ w *ℤ pos f.span.0) -ℤ l.travel *ℤ pos f.scale.0

pub record Agrees (d : Device) (l : Ledger) (reported : ℕ) : Type 0 where
  pub w : ℤ
  pub low : neg_ℤ (pos (force d).steps.0) <ℤ off d l reported w
  pub high : off d l reported w <ℤ pos (force d).steps.0

-- ---- reported: the position after start and each call; a refusal is none
abbrev pub number : Result Reported Refusal → ℕ
number (Ok at) = at.position.0
number (Err r) = 0

abbrev pub Reports : Device → Ledger → Result Reported Refusal → Type 0
Reports d l (Ok at) = Agrees d l at.position.0
Reports d l (Err r) = ⊥

-- in each entry of a batch, at its own moment
unfoldable pub Entries : Device → Ledger → List ℕ → (ℕ → ℤ) → List ℕ → Type 0
Entries d l [] m xs = Unit
Entries d l (raw ∷ raws) m [] = ⊥
Entries d l (raw ∷ raws) m (x ∷ xs) =
    Agrees d (with_readings l (raw ∷ []) m) x × Entries d (with_readings l (raw ∷ []) m) raws (λ i. m (suc i)) xs

-- and wherever the cycle's rules put it in the input: class 2 in its four octets, class 4 in G1_XIST1 unless block bit 2 asks for the unshifted
-- position there, and in G1_XIST2 while no error is held; telegram 83 has both at the same octets
pub record Shown (d : Device) (l : Ledger) (input : List ℕ) : Type 0 where
  pub class2 : class4 d.parameters ≡ false → Agrees d l (big_endian (part 1 4 input))
  pub xist1 : class4 d.parameters ≡ true → bit 2 (fields_of d.parameters).operating ≡ false → Agrees d l (big_endian (part 5 8 input))
  pub xist2 : class4 d.parameters ≡ true → l.link.error ≡ false → Agrees d l (big_endian (part 9 12 input))

abbrev pub Lent : Device → Ledger → Call → (ℕ → ℤ) → Ledger → List ℕ → Type 0
Lent d l (batching raws positions) m after lent = Entries d l (deed d l (batching raws positions)).numbers m lent
Lent d l (cycling raw output input) m after lent = refusal_by d l (cycling raw output input) ≡ None → Shown d after lent
Lent d l (measuring raw elapsed output input) m after lent = refusal_by d l (measuring raw elapsed output input) ≡ None → Shown d after lent
Lent d l (reading step turn) m after lent = Unit
Lent d l (raw_reading raw) m after lent = Unit
Lent d l (presetting v relative) m after lent = Unit
Lent d l (storing v) m after lent = Unit

-- ---- the position just after a preset must be the one rule 6 gives
abbrev pub Rule6 : Device → Preset → ℕ → ℕ → Type 0
Rule6 d none before reported = Unit
Rule6 d (made v false) before reported = reported ≡ v modulo (force d).span.0
Rule6 d (made v true) before reported = reported ≡ (pos before +ℤ v) modulo (force d).span.0

-- a relative preset counts from the position after the call's raw numbers, read singly
unfoldable pub read_singly : (p : Program) → p.State → List ℕ → p.State
read_singly p a [] = a
read_singly p a (raw ∷ raws) = read_singly p (p.call a (raw_reading raw)) raws

-- ---- the claim: of a program in state a beside ledger l, and of all that follows
unfoldable pub Accurate : Device → (p : Program) → p.State → Ledger → List Event → Type 0
Accurate d p a l [] = Reports d l (p.position a)
Accurate d p a l (e ∷ es) =
    let did = deed d l e.call in
    let before = number (p.position (read_singly p a did.numbers)) in
    let b = p.call a e.call in
    let reported = number (p.position b) in
    let after = noted l did e.steps reported in
    Reports d l (p.position a)
    × (Supposed d l.last did.numbers e.steps
    → Rule6 d did.preset before reported
    × Lent d l e.call e.steps after (p.lent a e.call)
    × Accurate d p b after es)

-- from any accepted start, over every list of calls
abbrev pub Claim : Program → Type 0
Claim p =
    (d : Device) (first : First) → start_by d first ≡ None → (es : List Event)
    → Accurate d p (p.start d.plate d.parameters first) (opened d (first_raw d first)) es
