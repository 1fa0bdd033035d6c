-- `all_hex` asks each byte of the chain.
use borrow.Author.Tests.{tests}
use borrow.Author.Rules.{rules}
use Rattle.std.proofs.lemmas.Iterator.{YieldsList-from_slice}
use Rattle.std.proofs.lemmas.Iterator.Search.{all_from_yields_List}
use Rattle.meaning_cable.specs.Receiving.{is_hex}
use Rattle.cable_form.proofs.all_hex.Goals as goal

pub returns : goal.returns
returns c = all_from_yields_List is_hex _ _ _ c.all.ensures.ran (YieldsList-from_slice c.args.digits.now cc) (λ x b q k. search (rules, tests))
