-- The program that the theorem is of: the library. The must-fail edits ask for the theorem of a worthless program in its place.
use Rattle.accuracy.specs.{Claim.Program, Run.library}

abbrev pub ours : Program
ours = library
