-- `put_lead`: the four bytes.
use mathlib.Core.Path.{refl, ap, ◌∙◌}
use mathlib.Core.List.{List, [], ◌∷◌}
use Prim.Native.Nat.{ℕ, ◌+◌}
use Rattle.cable_frame.proofs.FramedLaws.{lent-put}
use Rattle.cable_frame.proofs.put_lead.Goals as goal

pub returns : goal.returns
returns c =
    let a = c.args in
    lent-put a.out.now _ _ 0 4 refl (c.copy_from_slice.ensures.after ∙ ap (λ (y : ℕ). (48 + a.count) ∷ 66 ∷ 48 ∷ y ∷ []) c.label_byte.ensures)
