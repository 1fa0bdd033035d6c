-- `crc_of`: the fold over the bytes is the register after all of them.
use borrow.Author.Tests.{tests}
use borrow.Author.Rules.{rules}
use Rattle.std.proofs.lemmas.Iterator.{YieldsList-from_slice}
use Rattle.std.proofs.lemmas.Iterator.Consumers.{fold_from_yields_List}
use Rattle.meaning_cable.specs.Crc.{byte_all, crc_from}
use Rattle.cable_crc.proofs.crc_of.Goals as goal

pub returns : goal.returns
unfolding crc_from
returns c =
    fold_from_yields_List _ byte_all 0 _ c.fold.ensures.ran (YieldsList-from_slice c.args.s.now cc) (λ a x b q k. search (rules, tests))
