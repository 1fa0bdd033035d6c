-- `put_tail`: the five bytes.
use mathlib.Core.Path.{◌≡◌, ap, ◌∙◌}
use Prim.Native.Nat.{ℕ, ◌-◌}
use native.Mathlib.Omega.{arith}
use lib.ListN.{take}
use Rattle.meaning_cable.specs.Crc.{crc}
use Rattle.cable_frame.proofs.FramedLaws.{crc-put}
use Rattle.cable_frame.proofs.put_tail.Goals as goal

pub returns : goal.returns
returns c =
    let a = c.args in
    let all : a.n - 0 ≡ a.n = omega arith in
    crc-put a.out.now _ a.n _ _ _ _ _ _ (omega arith) (c.crc_of-crc.ensures ∙ ap (λ (k : ℕ). crc (take k a.out.now)) all)
    c.hex_digit.ensures c.hex_digit-2.ensures c.hex_digit-3.ensures c.hex_digit-4.ensures c.copy_from_slice.ensures.after
