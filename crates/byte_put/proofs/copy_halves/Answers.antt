-- `copy_halves`: the last half and the first cover all.
use mathlib.Core.Path.{◌∙◌}
use Prim.Native.Nat.{◌-◌}
use native.Mathlib.Omega.{arith}
use lib.ListN.{length}
use Rattle.byte_put.specs.Places.{half_word}
use Rattle.byte_put.proofs.PutLaws.{lent-block, blocks-all}
use Rattle.byte_put.proofs.copy_halves.Goals as goal

pub returns : goal.returns
returns c =
    let a = c.args in
    c.copy_half-2.ensures
    ∙ blocks-all a.src.now a.dst.now _ (length a.src.now - half_word) half_word half_word (omega arith) (omega arith)
    (lent-block a.src.now a.dst.now _ _ half_word c.copy_half.ensures) (omega arith) (omega arith)
