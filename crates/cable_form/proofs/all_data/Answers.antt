-- `all_data` asks each byte of the chain.
use mathlib.Core.Path.{◌∙◌}
use mathlib.Core.Bool.{true, ◌&&◌}
use borrow.Author.Tests.{tests}
use borrow.Author.Rules.{rules}
use Rattle.std.proofs.lemmas.Iterator.{YieldsList-from_slice}
use Rattle.std.proofs.lemmas.Iterator.Consumers.{fold_from_yields_List}
use Rattle.meaning_cable.specs.Stream.{data_byte}
use Rattle.cable_form.proofs.EachByteLaws.{data-so-far}
use Rattle.cable_form.proofs.all_data.Goals as goal

pub returns : goal.returns
returns c =
    let s = c.args.bytes.now in
    fold_from_yields_List _ (λ fit b. fit && data_byte b) true _ c.fold.ensures.ran (YieldsList-from_slice s cc) (λ a x b q k. search (rules, tests))
    ∙ data-so-far true s
