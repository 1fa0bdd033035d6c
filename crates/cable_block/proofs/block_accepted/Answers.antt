-- `block_accepted`: each return by the law of the answer.
use mathlib.Core.Path.{◌∙◌}
use native.Mathlib.Omega.{arith}
use Rattle.cable_block.proofs.BlockAnswers.{data-few, answer-none, none_after, none_over, in_order, has-data, data-short, data-within, answer-made}
use Rattle.cable_block.proofs.block_accepted.Goals as goal

pub returns-then-blocks-i : goal.returns-then-blocks-i
returns-then-blocks-i c =
    let a = c.args in
    let e = c.requires.0 in
    let l = c.data_length-length.ensures in
    let m = c.count_for-blocks.ensures in
    let r = c.no_block.ensures in
    let z = answer-none a.set.now a.shape e _ l a.i a.count a.out.now
    (none_after a.set.now a.shape e _ l a.i a.count (omega (arith, m, c.if-blocks-i.true))) in
    (r.0 ∙ z.0, r.1 ∙ z.1)

pub returns-then-count-gt-COUNT : goal.returns-then-count-gt-COUNT
returns-then-count-gt-COUNT c =
    let a = c.args in
    let e = c.requires.0 in
    let l = c.data_length-length.ensures in
    let m = c.count_for-blocks.ensures in
    let r = c.no_block-then-count-gt-COUNT.ensures in
    let z = answer-none a.set.now a.shape e _ l a.i a.count a.out.now
    (none_over a.set.now a.shape e _ l a.i (omega (arith, m, c.if-blocks-i.false)) a.count (omega (arith, c.if-count-gt-COUNT.true))) in
    (r.0 ∙ z.0, r.1 ∙ z.1)

pub cut_for-start-requires : goal.cut_for-start-requires
cut_for-start-requires c =
    let a = c.args in
    let e = c.requires.0 in
    let l = c.data_length-length.ensures in
    let m = c.count_for-blocks.ensures in
    (data-few a.set.now a.shape e _ l, omega (arith, m, c.if-blocks-i.false))

pub end_for-requires : goal.end_for-requires
end_for-requires c =
    let a = c.args in
    let e = c.requires.0 in
    let l = c.data_length-length.ensures in
    let m = c.count_for-blocks.ensures in
    (data-few a.set.now a.shape e _ l, omega (arith, m, c.if-blocks-i.false))

pub overflow_sub-n : goal.overflow_sub-n
overflow_sub-n c =
    let a = c.args in
    let e = c.requires.0 in
    let l = c.data_length-length.ensures in
    let m = c.count_for-blocks.ensures in
    in_order a.set.now a.shape e _ l a.i (omega (arith, m, c.if-blocks-i.false)) _ _ c.cut_for-start.ensures c.end_for.ensures

pub place_of-from-requires : goal.place_of-from-requires
place_of-from-requires c =
    let a = c.args in
    let e = c.requires.0 in
    let l = c.data_length-length.ensures in
    let m = c.count_for-blocks.ensures in
    has-data a.set.now a.shape e _ l a.i (omega (arith, m, c.if-blocks-i.false)) _ _ c.cut_for-start.ensures c.end_for.ensures

pub put_block-requires : goal.put_block-requires
put_block-requires c =
    let a = c.args in
    let e = c.requires.0 in
    let l = c.data_length-length.ensures in
    let m = c.count_for-blocks.ensures in
    let within = data-within a.set.now a.shape e _ l a.i (omega (arith, m, c.if-blocks-i.false)) _ _ c.cut_for-start.ensures c.end_for.ensures _
    c.place_of-from.ensures in
    let short = data-short a.set.now a.shape e _ l a.i (omega (arith, m, c.if-blocks-i.false)) _ _ c.cut_for-start.ensures c.end_for.ensures in
    record { numbers = omega (arith, c.if-count-gt-COUNT.false); room = (within, short, c.requires.1) }

pub returns : goal.returns
returns c =
    let a = c.args in
    let e = c.requires.0 in
    let l = c.data_length-length.ensures in
    let m = c.count_for-blocks.ensures in
    let r = c.put_block.ensures in
    answer-made a.set.now a.shape e _ l a.i (omega (arith, m, c.if-blocks-i.false)) _ _ c.cut_for-start.ensures c.end_for.ensures _
    c.place_of-from.ensures _ a.count _ _ a.out.now _ m (omega (arith, c.if-count-gt-COUNT.false)) c.label_for-label.ensures r.0 r.1
