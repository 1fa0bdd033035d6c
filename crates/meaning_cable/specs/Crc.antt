-- CRC-16 as the program of appendix C computes it, bit by bit: "The CRC program of appendix C decides". Its `short` is taken mod 65536.
use Rattle.std.specs.Prelude.{cond, List, [], ◌∷◌, ℕ, zero, suc, ◌*◌, ◌%◌, leb}
use Rattle.std.specs.Int.Bits.{bit_xor}

-- `crc << 1`, and that xor 8005h if the top bit stood
unfoldable pub bit_turn : ℕ → ℕ
bit_turn c = cond (leb 0x8000 c) (bit_xor (c * 2 % 65536) 0x8005) (c * 2 % 65536)

-- the top bit of a byte, at the place of the register's
abbrev pub top_bit : ℕ → ℕ
top_bit b = cond (leb 0x80 b) 0x8000 0

-- the first k bits of a byte, the top bit first, put into the register c
unfoldable pub bits : ℕ → ℕ → ℕ → ℕ
bits zero b c = c
bits (suc k) b c = bits k (b * 2 % 256) (bit_turn (bit_xor c (top_bit b)))

-- a whole byte
unfoldable pub byte_all : ℕ → ℕ → ℕ
byte_all c b = bits 8 b c

-- the bytes one after the other
unfoldable pub crc_from : ℕ → List ℕ → ℕ
crc_from c [] = c
crc_from c (b ∷ bs) = crc_from (byte_all c b) bs

-- the CRC of some bytes: the register starts with 0
abbrev pub crc : List ℕ → ℕ
crc bs = crc_from 0 bs
