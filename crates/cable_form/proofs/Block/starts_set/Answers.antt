-- `starts_set`: by the label.
use mathlib.Core.Path.{ap, ◌∙◌}
use Prim.Native.Nat.{ℕ}
use lib.Dec.{eqb}
use Rattle.meaning_cable.specs.Blocks.{b00}
use Rattle.meaning_cable.proofs.BlockLabelLaws.{first-told}
use Rattle.cable_form.proofs.Block.starts_set.Goals as goal

pub returns : goal.returns
returns c = c.eq.ensures ∙ (first-told c.label.result ∙ ap (λ (n : ℕ). eqb n b00) c.label.ensures)
