-- `copy_half`: the stores are a block.
use mathlib.Core.List.{[], ◌∷◌}
use native.Mathlib.Omega.{arith}
use lib.Seq.{length-sets, lt-length-sets}
use Rattle.byte_put.specs.Places.{half_word}
use Rattle.byte_put.proofs.PutLaws.{block-put}
use Rattle.byte_put.proofs.copy_half.Goals as goal

pub bounds-dst-1 : goal.bounds-dst-1
bounds-dst-1 c =
    lt-length-sets c.args.dst.now 0 (_ ∷ []) (omega arith)

pub bounds-dst-2 : goal.bounds-dst-2
bounds-dst-2 c =
    lt-length-sets c.args.dst.now 0 (_ ∷ _ ∷ []) (omega arith)

pub bounds-dst-3 : goal.bounds-dst-3
bounds-dst-3 c =
    lt-length-sets c.args.dst.now 0 (_ ∷ _ ∷ _ ∷ []) (omega arith)

pub shape_of-dst : goal.shape_of-dst
shape_of-dst c =
    length-sets c.args.dst.now 0 (_ ∷ _ ∷ _ ∷ _ ∷ [])

pub returns : goal.returns
returns c =
    let a = c.args in
    block-put half_word a.src.now a.dst.now c.requires.0 c.requires.1
