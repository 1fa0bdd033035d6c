-- `put_at`: 22 with the need, or the block is put.
use mathlib.Core.Path.{ap, ap₂, ◌∙◌}
use mathlib.Core.List.{List}
use Prim.Native.Nat.{ℕ, ◌-◌}
use native.Mathlib.Omega.{arith}
use lib.ListN.{length, drop, length-take}
use Rattle.meaning_cable.specs.Receiving.{count_of, label_of, data_of, put_by, written}
use Rattle.cable_form.proofs.FormLaws.{formed}
use Rattle.cable_receive.proofs.RoomLaws.{took_as, put_full, put-made}
use Rattle.cable_receive.proofs.put_at.Goals as goal

pub put_size-size-requires : goal.put_size-size-requires
put_size-size-requires c =
    let b = c.args.block.now in
    omega (arith, ap length c.data_bytes-bytes.ensures, length-take (length b.bytes.now - 9) (drop 4 b.bytes.now), (formed b.bytes.now b.good_form).most)

pub returns-in_default : goal.returns-in_default
returns-in_default c =
    let a = c.args in
    let b = a.block.now.bytes.now in
    let n = c.put_size-size.ensures ∙ ap₂ (λ (l : ℕ) (x : List ℕ). length (put_by l x)) (c.digit_of-digit.ensures ∙ c.label-label.ensures) c.data_bytes-bytes.ensures in
    put_full a.receiver a.buffer.now a.at (count_of b) (label_of b) (data_of b) (omega (arith, n, c.in_default.ensures)) _ _ (omega (arith, n, c.in_default.ensures)) c.at.ensures

pub returns-then-buffer-used : goal.returns-then-buffer-used
returns-then-buffer-used c =
    let a = c.args in
    let b = a.block.now.bytes.now in
    let n = c.put_size-size.ensures ∙ ap₂ (λ (l : ℕ) (x : List ℕ). length (put_by l x)) (c.digit_of-digit.ensures ∙ c.label-label.ensures) c.data_bytes-bytes.ensures in
    put_full a.receiver a.buffer.now a.at (count_of b) (label_of b) (data_of b) (omega (arith, n, c.in-Some.ensures)) _ _ (omega (arith, n, c.in-Some.ensures)) c.at-then-buffer-used.ensures

pub returns : goal.returns
returns c =
    let a = c.args in
    let b = a.block.now.bytes.now in
    let n = c.put_size-size.ensures ∙ ap₂ (λ (l : ℕ) (x : List ℕ). length (put_by l x)) (c.digit_of-digit.ensures ∙ c.label-label.ensures) c.data_bytes-bytes.ensures in
    let t = c.took.ensures ∙ ap₂ (λ (k l : ℕ). took_as k l c.in-Some.used) c.count.ensures c.label-label.ensures in
    let w = c.put_block.ensures ∙ ap₂ (λ (l : ℕ) (x : List ℕ). written a.buffer.now a.at (put_by l x)) (c.digit_of-digit.ensures ∙ c.label-label.ensures) c.data_bytes-bytes.ensures in
    put-made a.receiver a.buffer.now a.at (count_of b) (label_of b) (data_of b) (omega (arith, n, c.in-Some.ensures)) _ _ _ (omega (arith, n, c.in-Some.ensures)) t w
