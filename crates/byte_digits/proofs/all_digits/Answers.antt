-- `all_digits` asks each byte from `from` on, if there is one.
use mathlib.Core.Path.{sym, ap, ◌∙◌}
use native.Mathlib.Omega.{arith}
use Prim.Native.Nat.{◌-◌}
use lib.ListN.{length, drop, length-drop, drop_of_length-le}
use lib.Seq.{take_all}
use borrow.Author.Tests.{tests}
use borrow.Author.Rules.{rules}
use Rattle.std.proofs.lemmas.Iterator.{YieldsList-from_slice}
use Rattle.std.proofs.lemmas.Iterator.Search.{all_from_yields_List}
use Rattle.meaning.specs.Digits.{digit, all_digits}
use Rattle.byte_digits.proofs.all_digits.Goals as goal

pub returns-then-c-from : goal.returns-then-c-from
returns-then-c-from c =
    let a = c.args in
    sym (ap all_digits (drop_of_length-le a.c.now {i = a.from} (omega arith)))

pub returns : goal.returns
returns c =
    let a = c.args in
    let rest = c.iter.ensures.rest ∙ take_all (length a.c.now - a.from) (drop a.from a.c.now) (omega (arith, length-drop a.from a.c.now)) in
    all_from_yields_List digit _ _ _ c.all.ensures.ran (YieldsList-from_slice (drop a.from a.c.now) rest) (λ x b q k. search (rules, tests))
