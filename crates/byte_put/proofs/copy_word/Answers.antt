-- `copy_word`: the stores are a block.
use mathlib.Core.List.{[], ◌∷◌}
use native.Mathlib.Omega.{arith}
use lib.Seq.{length-sets, lt-length-sets}
use Rattle.byte_put.specs.Places.{word}
use Rattle.byte_put.proofs.PutLaws.{block-put}
use Rattle.byte_put.proofs.copy_word.Goals as goal

pub bounds-dst-1 : goal.bounds-dst-1
bounds-dst-1 c =
    lt-length-sets c.args.dst.now 0 (_ ∷ []) (omega arith)

pub bounds-dst-2 : goal.bounds-dst-2
bounds-dst-2 c =
    lt-length-sets c.args.dst.now 0 (_ ∷ _ ∷ []) (omega arith)

pub bounds-dst-3 : goal.bounds-dst-3
bounds-dst-3 c =
    lt-length-sets c.args.dst.now 0 (_ ∷ _ ∷ _ ∷ []) (omega arith)

pub bounds-dst-4 : goal.bounds-dst-4
bounds-dst-4 c =
    lt-length-sets c.args.dst.now 0 (_ ∷ _ ∷ _ ∷ _ ∷ []) (omega arith)

pub bounds-dst-5 : goal.bounds-dst-5
bounds-dst-5 c =
    lt-length-sets c.args.dst.now 0 (_ ∷ _ ∷ _ ∷ _ ∷ _ ∷ []) (omega arith)

pub bounds-dst-6 : goal.bounds-dst-6
bounds-dst-6 c =
    lt-length-sets c.args.dst.now 0 (_ ∷ _ ∷ _ ∷ _ ∷ _ ∷ _ ∷ []) (omega arith)

pub bounds-dst-7 : goal.bounds-dst-7
bounds-dst-7 c =
    lt-length-sets c.args.dst.now 0 (_ ∷ _ ∷ _ ∷ _ ∷ _ ∷ _ ∷ _ ∷ []) (omega arith)

pub shape_of-dst : goal.shape_of-dst
shape_of-dst c =
    length-sets c.args.dst.now 0 (_ ∷ _ ∷ _ ∷ _ ∷ _ ∷ _ ∷ _ ∷ _ ∷ [])

pub returns : goal.returns
returns c =
    let a = c.args in
    block-put word a.src.now a.dst.now c.requires.0 c.requires.1
