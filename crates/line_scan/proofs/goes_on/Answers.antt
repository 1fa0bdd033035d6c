-- `goes-on`: a sound line that does not start another set.
use mathlib.Core.Path.{sym}
use mathlib.Core.Bool.{true≢false}
use native.Mathlib.Omega.{arith}
use Rattle.meaning.proofs.Bools.{not-true}
use Rattle.line_read.proofs.ToldLaws.{read-bytes}
use Rattle.line_scan.proofs.ScanWalkLaws.{goes-on}
use Rattle.line_scan.proofs.goes_on.Goals as goal

pub returns-then-before-ge-LINES : goal.returns-then-before-ge-LINES
returns-then-before-ge-LINES c = λ e. absurd (true≢false (sym e))

pub overflow_add-at : goal.overflow_add-at
overflow_add-at c =
    let a = c.args in
    omega (arith, (read-bytes a.s.now a.at (c.sound_at.ensures c.if-sound_at.true)).0)

pub reads_8000-requires : goal.reads_8000-requires
reads_8000-requires c =
    let a = c.args in
    omega (arith, (read-bytes a.s.now a.at (c.sound_at.ensures c.if-sound_at.true)).0)

pub returns-then-sound_at : goal.returns-then-sound_at
returns-then-sound_at c = λ e.
    goes-on _ _ _ (omega arith) (c.sound_at.ensures c.if-sound_at.true) _ c.reads_8000.ensures (not-true _ e)

pub returns : goal.returns
returns c = λ e. absurd (true≢false (sym e))
