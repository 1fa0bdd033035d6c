-- `crc_byte`: the closed form of a byte.
use mathlib.Core.Path.{sym}
use native.Mathlib.Omega.{arith}
use Rattle.cable_crc.proofs.ByteLaws.{high-byte, byte-is}
use Rattle.cable_crc.proofs.crc_byte.Goals as goal

pub overflow_mul-result : goal.overflow_mul-result
overflow_mul-result c = let a = c.args in omega (arith, high-byte a.crc a.b (omega arith) (omega arith))

pub overflow_mul-result-2 : goal.overflow_mul-result-2
overflow_mul-result-2 c = let a = c.args in omega (arith, high-byte a.crc a.b (omega arith) (omega arith))

pub returns : goal.returns
returns c = let a = c.args in sym (byte-is a.crc a.b (omega arith) (omega arith))
