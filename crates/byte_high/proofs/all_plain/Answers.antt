-- `all_plain`: the search among the bytes after plain blocks finds what the search among all finds, and in the last block it finds nothing.
use mathlib.Core.Path.{sym, ap, ◌∙◌}
use native.Mathlib.Omega.{arith}
use lib.ListN.{length}
use borrow.Author.Tests.{eqb-true}
use Rattle.byte_low.proofs.SeekLaws.{seek-tail, seek_from, passed_on}
use Rattle.byte_high.specs.High.{seven_bits, first_high}
use Rattle.byte_high.proofs.all_plain.Goals as goal

pub returns-then-end-lt-BLOCK : goal.returns-then-end-lt-BLOCK
returns-then-end-lt-BLOCK c = λ e. sym c.seek.ensures ∙ eqb-true _ _ e

pub returns : goal.returns
returns c = λ e.
    let wide = c.in-Ok.ensures in
    let blocks = c.in-Ok-pass_blocks.ensures in
    let both = passed_on seven_bits _ _ _ _ _ (length c.args.s.now) wide.0 blocks.0 (omega arith) in
    ap (first_high _ 0) (omega arith)
    ∙ (sym (seek_from seven_bits _ _ _ _ both)
    ∙ seek-tail seven_bits _ _ _ _ (omega arith) (omega (arith, blocks.1)) (omega (arith, both.most)) (c.all_pass.ensures e))
