-- `sound_at`: a line that passes every test is read.
use mathlib.Core.Path.{refl, sym, ◌∙◌}
use borrow.Author.Tests.{eqb-true}
use Rattle.meaning.proofs.Bools.{and_left, and_right}
use native.Mathlib.Omega.{arith}
use Rattle.line_read.proofs.ToldLaws.{three-least, line-sound}
use Rattle.line_read.proofs.sound_at.Goals as goal

pub size_at-size-requires : goal.size_at-size-requires
size_at-size-requires c =
    (omega arith, three-least c.args.s.now c.args.at (omega arith) (c.usual_lead.ensures c.if-usual_lead.true))

pub returns-then-clean_content : goal.returns-then-clean_content
returns-then-clean_content c =
    λ e. let end = sym c.line_ends.ensures ∙ e in line-sound _ _ _ _ refl (omega (arith, c.size_at-size.ensures.0))
    (omega (arith, c.size_at-size.ensures.0)) (omega (arith, c.size_at-size.ensures.0))
    (c.usual_lead.ensures c.if-usual_lead.true) (c.clean_content.ensures c.if-clean_content.true) (eqb-true _ _ (and_left _ _ end)) (eqb-true _ _ (and_right _ _ end))
