-- `in_turn`: each return by its row of the table.
use mathlib.Core.Path.{◌≡◌}
use mathlib.Core.Logic.{◌≢◌}
use native.Mathlib.Omega.{arith}
use Rattle.std.proofs.lemmas.Bool.Decides.{nat_tests}
use Rattle.meaning_cable.specs.Blocks.{b00}
use Rattle.meaning_cable.specs.Receiving.{label_of}
use Rattle.cable_receive.proofs.TurnLaws.{shown, told, turn-no-set, turn-next-set, turn-in-set, turn-goes-on}
use Rattle.cable_receive.proofs.in_turn.Goals as goal

pub returns-then-not-is_first : goal.returns-then-not-is_first
returns-then-not-is_first c =
    let a = c.args in
    let other : label_of a.block.now.bytes.now ≢ b00 = grind (arith, nat_tests) in
    told a.receiver a.buffer.now _ _ _ (turn-no-set a.receiver a.buffer.now _ _ _ c.if-receiver-eq0.true other) c.at.ensures

pub returns-then-receiver-eq0 : goal.returns-then-receiver-eq0
returns-then-receiver-eq0 c =
    let a = c.args in
    let first : label_of a.block.now.bytes.now ≡ b00 = grind (arith, nat_tests) in
    shown _ _ _ _ (turn-next-set a.receiver a.buffer.now _ _ _ c.if-receiver-eq0.true first) c.put_at.ensures

pub returns-then-is_first : goal.returns-then-is_first
returns-then-is_first c =
    let a = c.args in
    let first : label_of a.block.now.bytes.now ≡ b00 = grind (arith, nat_tests) in
    told a.receiver a.buffer.now _ _ _ (turn-in-set a.receiver a.buffer.now _ _ _ c.if-receiver-eq0.false first) c.at-then-is_first.ensures

pub returns : goal.returns
returns c =
    let a = c.args in
    let other : label_of a.block.now.bytes.now ≢ b00 = grind (arith, nat_tests) in
    shown _ _ _ _ (turn-goes-on a.receiver a.buffer.now _ _ _ c.if-receiver-eq0.false other) c.put_at-2.ensures
