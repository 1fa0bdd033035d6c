use mathlib.Core.Path.{refl, ◌∙◌}
use Prim.Native.Nat.{◌-◌}
use native.Mathlib.Omega.{arith}
use lib.ListN.{length}
use Rattle.byte_put.specs.Places.{word}
use Rattle.byte_put.proofs.PutLaws.{lent-block, length-block, block-turn, blocks-all}
use Rattle.byte_put.proofs.copy_words.Goals as goal

pub loop-i-init : goal.loop-i-init
loop-i-init c = (omega arith, (refl, refl))

pub loop-i-preserved : goal.loop-i-preserved
loop-i-preserved c =
    let a = c.args in
    let l = c.loop-i in (
      omega arith,
      (
        block-turn a.src.now _ l.dst _ l.i word l.invariant.1.0 l.invariant.0 c.copy_word-in-loop-i.ensures,
        length-block a.src.now l.dst _ l.i word c.copy_word-in-loop-i.ensures (omega arith) (omega arith) ∙ l.invariant.1.1,
      ),
    )

pub returns : goal.returns
returns c =
    let a = c.args in
    let l = c.loop-i in
    l.invariant.1.0
    ∙ blocks-all a.src.now a.dst.now _ (length a.src.now - word) word l.i (omega arith) (omega arith)
    (lent-block a.src.now a.dst.now _ _ word c.copy_word.ensures) (omega arith) (omega arith)
