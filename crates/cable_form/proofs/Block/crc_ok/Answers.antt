-- `crc_ok`: the number that the four digits write is the CRC of what stands before them.
use mathlib.Core.Path.{sym, ap, ap₂, ◌∙◌}
use Prim.Native.Nat.{◌-◌}
use native.Mathlib.Omega.{arith}
use lib.Dec.{eqb}
use lib.ListN.{length}
use Rattle.meaning_cable.specs.Crc.{crc}
use Rattle.meaning_cable.specs.Receiving.{all_hex, hex_from, crc_ok}
use Rattle.cable_form.proofs.FormLaws.{formed, four-digits, front-part}
use Rattle.cable_form.proofs.Block.crc_ok.Goals as goal

pub overflow_sub-end : goal.overflow_sub-end
overflow_sub-end c = omega (arith, (formed c.args.self.now.bytes.now c.args.self.now.good_form).least)

pub bounds-block-end : goal.bounds-block-end
bounds-block-end c =
    omega (arith, (formed c.args.self.now.bytes.now c.args.self.now.good_form).least)

pub bounds-block-end-2 : goal.bounds-block-end-2
bounds-block-end-2 c =
    omega (arith, (formed c.args.self.now.bytes.now c.args.self.now.good_form).least)

pub bounds-block-end-3 : goal.bounds-block-end-3
bounds-block-end-3 c =
    omega (arith, (formed c.args.self.now.bytes.now c.args.self.now.good_form).least)

pub bounds-block-end-4 : goal.bounds-block-end-4
bounds-block-end-4 c =
    omega (arith, (formed c.args.self.now.bytes.now c.args.self.now.good_form).least)

pub hex_number-written-requires : goal.hex_number-written-requires
hex_number-written-requires c =
    let b = c.args.self.now.bytes.now in
    let f = formed b c.args.self.now.good_form in
    sym (ap all_hex (four-digits b (length b - 5) (omega (arith, f.least)))) ∙ f.hex-digits

pub slice_bounds-crc_of-count : goal.slice_bounds-crc_of-count
slice_bounds-crc_of-count c =
    omega (arith, (formed c.args.self.now.bytes.now c.args.self.now.good_form).least)

pub slice_bounds-crc_of-start : goal.slice_bounds-crc_of-start
slice_bounds-crc_of-start c =
    omega (arith, (formed c.args.self.now.bytes.now c.args.self.now.good_form).least)

pub slice_bounds-crc_of-end : goal.slice_bounds-crc_of-end
slice_bounds-crc_of-end c =
    omega (arith, (formed c.args.self.now.bytes.now c.args.self.now.good_form).least)

pub returns : goal.returns
unfolding crc_ok
returns c =
    let b = c.args.self.now.bytes.now in
    let digits = four-digits b (length b - 5) (omega (arith, (formed b c.args.self.now.good_form).least)) in
    ap₂ eqb (c.hex_number-written.ensures ∙ sym (ap (hex_from 0) digits)) (c.crc_of.ensures ∙ ap crc (front-part b))
