-- `receive`: a fault of the block, or its turn.
use mathlib.Core.Path.{sym, ap, ◌∙◌}
use Rattle.meaning_cable.specs.Receiving.{receive}
use Rattle.cable_receive.proofs.TurnLaws.{shown, told, no-form, no-crc, has-turn}
use Rattle.cable_receive.proofs.receive.Goals as goal

pub returns-in_default : goal.returns-in_default
returns-in_default c =
    let a = c.args in
    told a.receiver a.buffer.now _ _ _ (no-form a.receiver a.buffer.now a.block.now c.in_default.ensures.none) c.at.ensures

pub returns-then-not-crc_ok : goal.returns-then-not-crc_ok
returns-then-not-crc_ok c =
    let a = c.args in
    let b = c.in-Some.block in
    let e = ap (receive a.receiver a.buffer.now) (sym c.in-Some.ensures.some) in
    told a.receiver a.buffer.now _ _ _ (e ∙ no-crc a.receiver a.buffer.now b.bytes.now b.good_form (sym c.crc_ok.ensures ∙ c.if-not-crc_ok.true)) c.at-then-not-crc_ok.ensures

pub returns : goal.returns
returns c =
    let a = c.args in
    let b = c.in-Some.block in
    let e = ap (receive a.receiver a.buffer.now) (sym c.in-Some.ensures.some) in
    shown _ _ _ _ (e ∙ has-turn a.receiver a.buffer.now b.bytes.now b.good_form (sym c.crc_ok.ensures ∙ c.if-not-crc_ok.false)) c.take_turn.ensures
