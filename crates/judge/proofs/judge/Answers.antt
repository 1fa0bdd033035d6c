-- `judge` answers what the definition says: `judge-is`.
use mathlib.Core.Path.{sym, ap, ◌∙◌}
use native.Mathlib.Omega.{arith}
use Rattle.std.specs.Prelude.{Err}
use Rattle.meaning.proofs.ResultLaws.{handed-on}
use Rattle.line_read.proofs.LineMeaning.{read_back}
use Rattle.judge.proofs.StartLaws.{judge-empty, judge-unread, scan-later, judge-refused, judge-read}
use Rattle.judge.proofs.JudgeLaws.{judge-is}
use Rattle.judge.proofs.judge.Goals as goal

pub returns-then-set-eq0 : goal.returns-then-set-eq0
returns-then-set-eq0 c = ap Err c.at.ensures ∙ (judge-empty _ c.if-set-eq0.true ∙ judge-is _)

pub scan_from-requires : goal.scan_from-requires
scan_from-requires c =
    (omega (arith, (read_back _ 0 (sym c.line_at.ensures ∙ c.in_ok-first.was)).within), omega arith)

pub ruled-requires : goal.ruled-requires
ruled-requires c =
    let q = sym c.line_at.ensures ∙ c.in_ok-first.was in
    (q, scan-later _ _ _ q (sym c.scan_from.ensures ∙ c.in_ok-scan.was))

pub returns-in_err-first : goal.returns-in_err-first
returns-in_err-first c =
    handed-on _ c.from_residual.ensures.1
    ∙ (judge-unread _ c.if-set-eq0.false _ (sym c.line_at.ensures ∙ c.in_err-first.was) ∙ judge-is _)

pub returns-in_err-scan : goal.returns-in_err-scan
returns-in_err-scan c =
    let q = sym c.line_at.ensures ∙ c.in_ok-first.was in
    handed-on _ c.from_residual-in_err-scan.ensures.1
    ∙ (judge-refused _ _ _ q (scan-later _ _ _ q (sym c.scan_from.ensures ∙ c.in_err-scan.was)) ∙ judge-is _)

pub returns : goal.returns
returns c =
    let q = sym c.line_at.ensures ∙ c.in_ok-first.was in
    c.ruled.ensures ∙ (judge-read _ _ _ q (scan-later _ _ _ q (sym c.scan_from.ensures ∙ c.in_ok-scan.was)) ∙ judge-is _)
