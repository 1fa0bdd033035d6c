-- `restored_size`: by the separators.
use native.Mathlib.Omega.{arith}
use lib.Dec.{eqb}
use Rattle.std.proofs.lemmas.List.Sums.{count_by-le-length}
use Rattle.cable_put.proofs.RestoreLaws.{restored-length}
use Rattle.cable_put.proofs.restored_size.Goals as goal

pub returns : goal.returns
returns c =
    let x = c.args.bytes.now in
    (omega (arith, restored-length x, c.separators.ensures), omega (arith, c.separators.ensures, count_by-le-length (λ b. eqb b 28) x))
