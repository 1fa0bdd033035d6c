-- Blocks: "a block is sequence count, label B00, B01 or B02, up to 128 data bytes, CRC-16 as four hex digits, 0Dh", and how the data of a set are cut into them.
use Rattle.std.specs.Prelude.{Bool, cond, List, [], ◌∷◌, ◌++◌, ℕ, zero, suc, ◌+◌, ◌-◌, ◌*◌, ◌/◌, ◌%◌, length, take, drop, leb, eqb}
use Rattle.meaning.specs.Digits.{digit_zero}
use Rattle.meaning.specs.Field.{Field}
use Rattle.meaning.specs.Refusals.{Reply, done, then_to, verdict}
use Rattle.meaning.specs.Lines.{cr}
use Rattle.meaning.specs.Reading.{in_set, read}
use Rattle.meaning.specs.Corrections.{alone_faults}
use Rattle.meaning_cable.specs.declared.BlockLabel.{BlockLabel}
use Rattle.meaning_cable.specs.declared.BlockLabel.TheVariants.{B00, B01, B02}
use Rattle.meaning_cable.specs.Crc.{crc}
use Rattle.meaning_cable.specs.Stream.{separator, stream}

-- ---- where the data are cut

-- "up to 128 data bytes"
abbrev pub max_data : ℕ
max_data = 128

-- the data fit one block
abbrev pub fits_one : List ℕ → Bool
fits_one x = leb (length x) max_data

-- how many bytes stand up to the first 1Ch, which counts too; all if there is none
unfoldable pub through_first : List ℕ → ℕ
through_first [] = 0
through_first (b ∷ bs) = cond (eqb b separator) 1 (suc (through_first bs))

-- "The data are cut every 128 bytes; a set that would fit one block is cut after its first 1Ch": how many blocks there are. Never fewer than two (E3b).
unfoldable pub block_count : List ℕ → ℕ
block_count x = cond (fits_one x) 2 ((length x + (max_data - 1)) / max_data)

-- how many bytes stand before block i; at the number of blocks this is the length of the data or more
unfoldable pub cut_at : List ℕ → ℕ → ℕ
cut_at x i = cond (fits_one x) (cond (eqb i 0) 0 (cond (eqb i 1) (through_first x) (length x))) (max_data * i)

-- the data of block i, from 0
abbrev pub block_data : List ℕ → ℕ → List ℕ
block_data x i = take (cut_at x (i + 1) - cut_at x i) (drop (cut_at x i) x)

-- the data of the first n blocks, one after the other
unfoldable pub joined : List ℕ → ℕ → List ℕ
joined x zero = []
joined x (suc n) = joined x n ++ block_data x n

-- ---- the labels, by their last digit

-- the first block of a set
abbrev pub b00 : ℕ
b00 = 0

-- a block between the first and the last
abbrev pub b01 : ℕ
b01 = 1

-- the last block
abbrev pub b02 : ℕ
b02 = 2

-- the last digit of a label
abbrev pub label_digit : BlockLabel → ℕ
label_digit B00 = b00
label_digit B01 = b01
label_digit B02 = b02

-- the label of block i of n
unfoldable pub block_label : ℕ → ℕ → ℕ
block_label i n = cond (eqb i 0) b00 (cond (leb n (i + 1)) b02 b01)

-- ---- the bytes of a block

-- `A`, the first of the six letters among the hex digits
abbrev pub letter_a : ℕ
letter_a = 65

-- one hex digit, upper case (E3c)
abbrev pub hex_digit : ℕ → ℕ
hex_digit d = cond (leb d 9) (digit_zero + d) (letter_a + (d - 10))

-- "CRC-16 as four hex digits"
abbrev pub hex_digits : ℕ → List ℕ
hex_digits n = hex_digit (n / 4096 % 16) ∷ hex_digit (n / 256 % 16) ∷ hex_digit (n / 16 % 16) ∷ hex_digit (n % 16) ∷ []

-- `B`, the first byte of each label; `0` follows it
abbrev pub letter_b : ℕ
letter_b = 66

-- count, label and data: what the CRC is taken of (E3c)
abbrev pub block_front : ℕ → ℕ → List ℕ → List ℕ
block_front count label bytes = (digit_zero + count) ∷ letter_b ∷ digit_zero ∷ (digit_zero + label) ∷ bytes

-- the whole block
unfoldable pub block_bytes : ℕ → ℕ → List ℕ → List ℕ
block_bytes count label bytes = block_front count label bytes ++ (hex_digits (crc (block_front count label bytes)) ++ (cr ∷ []))

-- the count is a digit
abbrev pub max_count : ℕ
max_count = 9

-- block i of the data x with this count; no bytes after the last block (E3h) and for a count over 9 (E3h)
unfoldable pub block_of : List ℕ → ℕ → ℕ → List ℕ
block_of x i count =
    cond (leb (block_count x) i) []
    (cond (leb count max_count) (block_bytes count (block_label i (block_count x)) (block_data x i)) [])

-- ---- the sender's own refusals

-- "The sender refuses as the set does, and 18 for a second set" (place: the set's length): the lines of the one set in s
unfoldable pub set_alone : List ℕ → Reply (List Field)
set_alone s = then_to (read s) (λ d. verdict (in_set d.fields) (alone_faults d) d.fields)

-- how many blocks the set s has
unfoldable pub blocks_of : List ℕ → Reply ℕ
blocks_of s = then_to (set_alone s) (λ fs. done (block_count (stream fs)))

-- block i of the set s with this count
unfoldable pub block : List ℕ → ℕ → ℕ → Reply (List ℕ)
block s i count = then_to (set_alone s) (λ fs. done (block_of (stream fs) i count))
