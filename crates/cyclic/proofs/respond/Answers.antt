-- The calls yield it one after the other: the word, the reaction, the preset and the input.
use Rattle.cyclic.proofs.CycleLaws.{preset-possible, left-fields, left-standing, done-answer, done-input}
use Rattle.cyclic.proofs.respond.Goals as goal

pub preset-after-requires : goal.preset-after-requires
preset-after-requires c =
    let a = c.args in
    let p = c.requires in
    let q = rw c.is_some-faulty.ensures at c.react-reaction.ensures in
    (p.0, preset-possible a.life _ a.link _ a.fields a.next p.0 _ c.control_of-control.ensures _ q)

pub fill-requires : goal.fill-requires
fill-requires c =
    let a = c.args in
    let p = c.requires in
    let q = rw c.is_some-faulty.ensures at c.react-reaction.ensures in (
      left-fields a.life _ a.link _ a.fields a.next p.0 _ c.control_of-control.ensures _ q _ c.preset-after.ensures p.1,
      left-standing a.life _ a.link _ a.fields a.next p.0 _ c.control_of-control.ensures _ q _ c.preset-after.ensures,
      p.3,
    )

pub returns : goal.returns
returns c =
    let a = c.args in
    let p = c.requires in
    let q = rw c.is_some-faulty.ensures at c.react-reaction.ensures in (
      done-answer a.life _ a.link _ a.fields a.next p.0 _ c.control_of-control.ensures _ q _ c.preset-after.ensures,
      done-input a.life _ a.link _ a.fields a.next p.0 _ c.control_of-control.ensures _ q _ c.preset-after.ensures _ c.fill.ensures,
    )
