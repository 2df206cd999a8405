use Rattle.std.proofs.Common.{rules, sym, ◌∙◌}
use Rattle.cyclic.proofs.StandingLaws.{has-position, stands-still, stands-there, sum-32, sum-positive, sum_fits}
use Rattle.cyclic.proofs.standing.preset.Goals as goal

pub unwrap-at-requires : goal.unwrap-at-requires
unwrap-at-requires c = has-position _ _ c.requires.0 _ c.reported.ensures

pub returns-in_default : goal.returns-in_default
returns-in_default c = rw c.in_default.is (stands-still _ _ c.requires.0 _ (sym c.unwrap-at.ensures ∙ c.reported.ensures))

pub overflow_add-result : goal.overflow_add-result
overflow_add-result c =
    let allowed = rw c.in-Some.is at c.requires.1 in
    sum_fits _ _ c.requires.0 _ (sym c.unwrap-at.ensures ∙ c.reported.ensures) _ allowed _ c.offset_by-offset.ensures

pub overflow_cast-result-2 : goal.overflow_cast-result-2
overflow_cast-result-2 c =
    let allowed = rw c.in-Some.is at c.requires.1 in
    let q = sym c.unwrap-at.ensures ∙ c.reported.ensures in
    let positive = sum-positive _ _ c.requires.0 _ q _ allowed _ c.offset_by-offset.ensures in
    let fits = sum-32 _ _ c.requires.0 _ q _ allowed _ c.offset_by-offset.ensures in
    search rules

pub returns : goal.returns
returns c =
    let allowed = rw c.in-Some.is at c.requires.1 in
    let q = sym c.unwrap-at.ensures ∙ c.reported.ensures in
    let i = stands-there _ _ c.requires.0 _ q _ allowed _ c.offset_by-offset.ensures in
    let is = c.in-Some.is in
    rw is (search rules)
