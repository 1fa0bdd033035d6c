-- `put_sum`: the line of a content of five digits.
use mathlib.Core.Path.{ap, ◌∙◌}
use mathlib.Core.List.{List, []}
use Prim.Native.Nat.{ℕ}
use Rattle.meaning.specs.Field.{field}
use Rattle.meaning.specs.Lines.{line_then}
use Rattle.byte_put.specs.Places.{over}
use Rattle.write_lines.proofs.LinePutLaws.{five-digits}
use Rattle.write_lines.proofs.put_sum.Goals as goal

pub returns : goal.returns
unfolding over
returns c =
    let a = c.args in
    c.put_line.ensures ∙ ap (λ (u : List ℕ). over a.to (line_then (field 8100 u) []) a.out.now) (c.put_digits.ensures ∙ five-digits a.total)
