-- The running values are those of a shaft, and what is written and what the readings from the i-th on will write is the whole list.
use Rattle.std.proofs.Common.{rules, arith, length-set}
use Rattle.axis_shaft.proofs.FollowLaws.{walks, following-more, following-shaft, following-list}
use Rattle.axis_shaft.proofs.Shaft.follow.Goals as goal

pub loop-i-init : goal.loop-i-init
loop-i-init c = search (rules, walks)

pub moved-running-requires : goal.moved-running-requires
moved-running-requires c = search (rules, walks)

pub loop-i-preserved : goal.loop-i-preserved
loop-i-preserved c =
    let v = c.loop-i.invariant in (
      simp length-set v.0,
      v.1,
      v.2,
      following-more _ _ _ _ _ _ _ v.3 (omega arith) _ c.moved-running.ensures _ c.position.ensures,
    )

pub shaft-requires : goal.shaft-requires
shaft-requires c = search (rules, walks)

pub returns : goal.returns
returns c =
    let v = c.loop-i.invariant in (
      following-shaft _ _ _ _ _ _ _ v.3 (omega arith) _ c.running-running.ensures _ c.shaft.ensures,
      following-list _ _ _ _ _ _ _ c.ranges.offset v.3 (omega arith) _ c.running-running.ensures,
    )
