-- The link record at the start (document 01, "One cycle", its first paragraph).
use Rattle.std.specs.Prelude.{false}
use Rattle.cyclic_link.specs.declared.Link.{Link}

-- all 0 at the start
abbrev pub quiet : Link
quiet =
    record {
      faulty = false;
      requested = false;
      error = false;
      acknowledged = false;
      executed = false;
      due = false;
      counter = 0;
      expected = 0;
      code = 0;
    }
