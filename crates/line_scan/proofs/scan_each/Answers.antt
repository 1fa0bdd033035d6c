use mathlib.Core.Path.{◌≡◌, refl, sym, ap, ◌∙◌}
use native.Mathlib.Omega.{arith}
use borrow.Author.Rules.{rules}
use Rattle.meaning.proofs.ResultLaws.{handed-on}
use Rattle.meaning.specs.Limits.{max_lines}
use Rattle.line_read.proofs.LineMeaning.{read_back}
use Rattle.line_scan.proofs.ScanWalkLaws.{scan-done, scan-full, scan-bad, scan-further}
use Rattle.line_scan.proofs.scan_each.Goals as goal
use Rattle.line_scan.specs.Scan.{scanned}
use Rattle.std.specs.Prelude.{Err}

pub loop-lines-init : goal.loop-lines-init
loop-lines-init c = (search rules, refl)

pub returns-then-ends_at : goal.returns-then-ends_at
returns-then-ends_at c =
    let l = c.loop-lines in
    let e = sym c.ends_at.ensures ∙ c.if-ends_at.true in
    sym (scan-done _ _ l.lines _ e) ∙ l.invariant.1

pub returns-in_err-line : goal.returns-in_err-line
returns-in_err-line c =
    let l = c.loop-lines in
    let e = sym c.ends_at.ensures ∙ c.if-ends_at.false in
    let r = sym c.line_at.ensures ∙ c.in_err-line.was in
    handed-on _ c.from_residual.ensures.1 ∙ (sym (scan-bad _ _ l.lines (omega arith) e r) ∙ l.invariant.1)

pub overflow_add-at : goal.overflow_add-at
overflow_add-at c =
    omega (arith, (read_back _ _ (sym c.line_at.ensures ∙ c.in_ok-line.was)).within)

pub loop-lines-preserved : goal.loop-lines-preserved
loop-lines-preserved c =
    let l = c.loop-lines in
    let e = sym c.ends_at.ensures ∙ c.if-ends_at.false in
    let r = sym c.line_at.ensures ∙ c.in_ok-line.was in
    ((read_back _ _ r).within, sym (scan-further _ _ l.lines (omega arith) e r) ∙ l.invariant.1)

pub returns-then-ends_at-2 : goal.returns-then-ends_at-2
returns-then-ends_at-2 c =
    let l = c.loop-lines in
    let e = sym c.ends_at-2.ensures ∙ c.if-ends_at-2.true in
    let n : max_lines ≡ l.lines = omega arith in
    ap (scanned l.at) n ∙ (sym (scan-done _ _ l.lines _ e) ∙ l.invariant.1)

pub returns : goal.returns
returns c =
    let l = c.loop-lines in
    let e = sym c.ends_at-2.ensures ∙ c.if-ends_at-2.false in
    ap Err c.at.ensures ∙ (sym (scan-full _ _ l.lines (omega arith) e) ∙ l.invariant.1)
