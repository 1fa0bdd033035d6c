-- `begun`: the first block with the count that `first_count` gives.
use mathlib.Core.Path.{ap, ◌∙◌}
use Prim.Native.Nat.{ℕ}
use Rattle.meaning_cable.specs.Sending.{begun}
use Rattle.meaning_cable.specs.Sending.{goes, opened}
use Rattle.cable_send.proofs.begun.Goals as goal

pub returns : goal.returns
unfolding begun
returns c = let a = c.args in c.goes.ensures ∙ ap (λ (k : ℕ). goes (opened a.blocks k)) c.first_count-count.ensures
