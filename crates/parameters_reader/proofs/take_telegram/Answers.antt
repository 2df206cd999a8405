use Rattle.std.proofs.Common.{rules, refl, sym, None}
use Rattle.encoder.proofs.{exits, unrefused}
use Rattle.parameters_reader.proofs.{ReadLaws.contents, ReadLaws.telegram-judged}
use Rattle.parameters_reader.proofs.take_telegram.Goals as goal

pub returns-in_err-refuse : goal.returns-in_err-refuse
returns-in_err-refuse c = search (rules, exits, contents)

pub returns : goal.returns
returns c =
    telegram-judged _ _ c.type_inv.telegram _ _ _ _ c.requires.0 _ None c.requires.1 c.number-ident.ensures c.judge.ensures
    (sym (unrefused _ _ _ c.in_ok-refuse.ensures)) refl c.number-units.ensures c.number-range.ensures
