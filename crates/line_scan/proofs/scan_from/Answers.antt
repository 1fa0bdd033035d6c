use mathlib.Core.Path.{refl, sym, ◌∙◌}
use Prim.Native.Nat.{◌<◌}
use native.Mathlib.Omega.{arith}
use borrow.Author.Rules.{rules}
use Rattle.meaning.specs.Limits.{max_lines}
use Rattle.line_read.proofs.ToldLaws.{read-bytes}
use Rattle.line_scan.proofs.ScanWalkLaws.{goes-within, goes_further}
use Rattle.line_scan.proofs.scan_from.Goals as goal

pub loop-at-init : goal.loop-at-init
loop-at-init c = (search rules, search rules, refl)

pub size_at-at-requires : goal.size_at-at-requires
size_at-at-requires c =
    let l = c.loop-at in
    let bytes = read-bytes _ l.at (c.goes_on.ensures c.loop-at-test.true).line-so in
    (omega (arith, bytes.0), omega (arith, bytes.1))

pub overflow_add-at : goal.overflow_add-at
overflow_add-at c =
    let l = c.loop-at in
    omega (arith, goes-within _ l.at l.lines (c.goes_on.ensures c.loop-at-test.true) _ c.size_at-at.ensures.0)

pub loop-at-smaller : goal.loop-at-smaller
loop-at-smaller c =
    omega (arith, (c.goes_on.ensures c.loop-at-test.true).few)

pub loop-at-preserved : goal.loop-at-preserved
loop-at-preserved c =
    let l = c.loop-at in
    let g = c.goes_on.ensures c.loop-at-test.true in
    let few : l.lines < max_lines = g.few in
    (goes-within _ l.at l.lines g _ c.size_at-at.ensures.0, omega arith, sym (goes_further _ l.at l.lines g _ c.size_at-at.ensures.0) ∙ l.invariant.2)

pub returns : goal.returns
returns c =
    c.scan_each.ensures ∙ c.loop-at.invariant.2
