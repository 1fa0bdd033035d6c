-- The receiver: "The receiver takes the next count, acknowledges the last one again without taking it, and starts afresh on 0 with B00."
-- The rule table stands twice: as rows (`Takes`, and `TakenAt` for the blocks in turn) and as the function `receive`; proofs/ReceivingLaws says that they are the same.
use Rattle.std.specs.Prelude.{◌≡◌, Bool, true, false, cond, not, ◌&&◌, ◌||◌, List, [], ◌∷◌, ◌++◌, ◌≢◌, ℕ, ◌+◌, ◌-◌, ◌*◌, ◌≤◌, ◌<◌, min, length, take, drop, get_or, replicate, leb, eqb}
use Rattle.meaning.specs.Digits.{digit_zero, digit_nine, digit}
use Rattle.meaning.specs.Refusals.{Fault, at_line, ask, Reply, refused, done, refusal, no_room, bad_block, bad_crc}
use Rattle.meaning.specs.Lines.{cr, lf}
use Rattle.meaning_cable.specs.declared.Receiver.{Receiver}
use Rattle.meaning_cable.specs.Crc.{crc}
use Rattle.meaning_cable.specs.Stream.{restored, all_data}
use Rattle.meaning_cable.specs.Blocks.{max_data, b00, b01, b02, letter_a, letter_b}
use Rattle.meaning_cable.specs.Sending.{next_count, ack_bytes}

-- ---- the parts of a block

-- count and label before the data, CRC and 0Dh after them
abbrev pub block_lead : ℕ
block_lead = 4

abbrev pub block_tail : ℕ
block_tail = 5

abbrev pub min_block : ℕ
min_block = block_lead + block_tail

abbrev pub max_block : ℕ
max_block = min_block + max_data

-- its sequence count, its label's last digit, its data
abbrev pub count_of : List ℕ → ℕ
count_of b = get_or b 0 0 - digit_zero

abbrev pub label_of : List ℕ → ℕ
label_of b = get_or b 3 0 - digit_zero

abbrev pub data_of : List ℕ → List ℕ
data_of b = take (length b - min_block) (drop block_lead b)

-- what the CRC is taken of, and the four bytes that write it
abbrev pub front_of : List ℕ → List ℕ
front_of b = take (length b - block_tail) b

abbrev pub crc_digits : List ℕ → List ℕ
crc_digits b = take 4 (drop (length b - block_tail) b)

-- ---- what is wrong with a block

-- an upper-case hex digit (E3c), and what it stands for
abbrev pub is_hex : ℕ → Bool
is_hex b = digit b || (leb letter_a b && leb b (letter_a + 5))

abbrev pub hex_value : ℕ → ℕ
hex_value b = cond (leb b digit_nine) (b - digit_zero) (10 + (b - letter_a))

abbrev pub all_hex : List ℕ → Bool
all_hex [] = true
all_hex (b ∷ bs) = is_hex b && all_hex bs

abbrev pub hex_from : ℕ → List ℕ → ℕ
hex_from a [] = a
hex_from a (b ∷ bs) = hex_from (a * 16 + hex_value b) bs

-- 9 to 137 bytes
abbrev pub length_ok : List ℕ → Bool
length_ok b = leb min_block (length b) && leb (length b) max_block

-- one digit, then B00, B01 or B02
abbrev pub head_ok : List ℕ → Bool
head_ok b = digit (get_or b 0 0) && (eqb (get_or b 1 0) letter_b && (eqb (get_or b 2 0) digit_zero && (leb digit_zero (get_or b 3 0) && leb (get_or b 3 0) (digit_zero + b02))))

-- four hex digits, then 0Dh
abbrev pub end_ok : List ℕ → Bool
end_ok b = all_hex (crc_digits b) && eqb (get_or b (length b - 1) 0) cr

-- not 25, BadBlock, "for the form" (E3d); no data at all are allowed
unfoldable pub form_ok : List ℕ → Bool
form_ok b = length_ok b && (head_ok b && (all_data (data_of b) && end_ok b))

-- not 26, BadCrc: the four digits write the CRC of what stands before them
unfoldable pub crc_ok : List ℕ → Bool
crc_ok b = eqb (hex_from 0 (crc_digits b)) (crc (front_of b))

-- what is wrong with the block by itself; only the first fault is told, and its place is the block's first byte
unfoldable pub block_faults : List ℕ → List Fault
block_faults b = ask (form_ok b) (at_line bad_block 0 0) ++ ask (crc_ok b) (at_line bad_crc 0 0)

-- ---- what a call leaves

-- The refusal, or 1 taken, 2 acknowledged again, 3 taken and the set is whole; the receiver's state; the whole buffer.
pub record ReceiveCall : Type 0 where
  pub answer : Reply ℕ
  pub state : Receiver
  pub buffer : List ℕ

abbrev pub is_taken : ℕ
is_taken = 1

abbrev pub is_again : ℕ
is_again = 2

abbrev pub is_whole : ℕ
is_whole = 3

-- the number of the reply: "Refusals, answered ACK 0"; all else ACK 1
abbrev pub ack_number : Reply ℕ → ℕ
ack_number (refused r) = 0
ack_number (done w) = 1

-- the reply itself, two bytes
abbrev pub ack_of : Reply ℕ → List ℕ
ack_of r = ack_bytes (ack_number r)

-- state and buffer as they were
abbrev pub keeping : Receiver → List ℕ → Reply ℕ → ReceiveCall
keeping st buf r = record { answer = r; state = st; buffer = buf }

-- the refusals of a block by itself or out of turn: place 0, label 0
abbrev pub refusing : Receiver → List ℕ → ℕ → ReceiveCall
refusing st buf n = keeping st buf (refused (refusal n 0 0))

-- a block with this count is taken: so many bytes are used, the set is open (1) or whole (0)
abbrev pub took_one : ℕ → ℕ → ℕ → Receiver
took_one count is_open used = record { started = 1; last = count; partial = is_open; used = used }

-- the bytes `new` written at `at`, and every byte after them zero (E3m)
abbrev pub written : List ℕ → ℕ → List ℕ → List ℕ
written buf at new = take at buf ++ (new ++ replicate (length buf - (at + length new)) 0)

-- the greatest number that a place can be; a greater need is told as this one (E3m)
abbrev pub max_place : ℕ
max_place = 18446744073709551615

-- ---- what a block in turn does

-- what is put in the buffer: the data with their 0Dh 0Ah, and after B02 those of the last line (E3a)
unfoldable pub put_by : ℕ → List ℕ → List ℕ
put_by label bytes = cond (eqb label b02) (restored bytes ++ (cr ∷ lf ∷ [])) (restored bytes)

-- after B02 the set is whole and no longer open
unfoldable pub open_by : ℕ → ℕ
open_by label = cond (eqb label b02) 0 1

unfoldable pub answer_by : ℕ → ℕ
answer_by label = cond (eqb label b02) is_whole is_taken

-- it fits: a block of this count and label is taken, and the bytes `new` are put at `at`
abbrev pub taking : List ℕ → ℕ → ℕ → ℕ → List ℕ → ReceiveCall
taking buf at count label new = record { answer = done (answer_by label); state = took_one count (open_by label) (at + length new); buffer = written buf at new }

-- it does not fit: NoRoom, "place: the need"; state and buffer are as they were
abbrev pub without_room : Receiver → List ℕ → ℕ → ReceiveCall
without_room st buf need = keeping st buf (refused (refusal no_room (min need max_place) 0))

-- ---- the rule table, a row each

-- the count is the one after that of the block taken last; nothing follows on a receiver that took none (E3j)
abbrev pub IsNext : Receiver → ℕ → Type 0
IsNext st count = (st.started ≢ 0) × (count ≡ next_count st.last)

-- the count is that of the block taken last
abbrev pub IsLast : Receiver → ℕ → Type 0
IsLast st count = (st.started ≢ 0) × (count ≡ st.last)

-- A block without fault is in turn, and its bytes are put at an offset of the buffer: the receiver's state, the block, the offset.
pub data TakenAt : Receiver → List ℕ → ℕ → Type 0 where
  -- "starts afresh on 0 with B00"
  afresh : {st : Receiver} {b : List ℕ} → count_of b ≡ 0 → label_of b ≡ b00 → TakenAt st b 0
  -- "takes the next count": B01 of an open set, put after the bytes that stand
  goes-on : {st : Receiver} {b : List ℕ} → count_of b ≢ 0 → IsNext st (count_of b) → st.partial ≢ 0 → label_of b ≡ b01 → TakenAt st b st.used
  -- B02 of an open set: the same, and the set is whole
  ends : {st : Receiver} {b : List ℕ} → count_of b ≢ 0 → IsNext st (count_of b) → st.partial ≢ 0 → label_of b ≡ b02 → TakenAt st b st.used
  -- B00 of the next set
  next-set : {st : Receiver} {b : List ℕ} → count_of b ≢ 0 → IsNext st (count_of b) → st.partial ≡ 0 → label_of b ≡ b00 → TakenAt st b 0

-- the bytes of the set that a block stands for
abbrev pub put_of : List ℕ → List ℕ
put_of b = put_by (label_of b) (data_of b)

-- how many bytes are used if they are put at `at`
abbrev pub used_to : ℕ → List ℕ → ℕ
used_to at b = at + length (put_of b)

-- The receiver's state, the buffer, the block; what the call leaves.
pub data Takes : Receiver → List ℕ → List ℕ → ReceiveCall → Type 0 where
  bad-form : {st : Receiver} {buf b : List ℕ} → form_ok b ≡ false → Takes st buf b (refusing st buf bad_block)
  bad-crc : {st : Receiver} {buf b : List ℕ} → form_ok b ≡ true → crc_ok b ≡ false → Takes st buf b (refusing st buf bad_crc)
  -- count 0 with another label than B00 is out of turn
  zero-other : {st : Receiver} {buf b : List ℕ} → block_faults b ≡ [] → count_of b ≡ 0 → label_of b ≢ b00 → Takes st buf b (refusing st buf bad_block)
  -- "acknowledges the last one again without taking it"; its label and data are not looked at (E3l)
  last-again : {st : Receiver} {buf b : List ℕ} → block_faults b ≡ [] → count_of b ≢ 0 → IsLast st (count_of b) → Takes st buf b (keeping st buf (done is_again))
  -- "25 for .. a label out of turn": B00 in an open set, another label if none is open
  label-in-set : {st : Receiver} {buf b : List ℕ} → block_faults b ≡ [] → count_of b ≢ 0 → IsNext st (count_of b) → st.partial ≢ 0 → label_of b ≡ b00
      → Takes st buf b (refusing st buf bad_block)
  label-no-set : {st : Receiver} {buf b : List ℕ} → block_faults b ≡ [] → count_of b ≢ 0 → IsNext st (count_of b) → st.partial ≡ 0 → label_of b ≢ b00
      → Takes st buf b (refusing st buf bad_block)
  -- "25 for another count"
  other-count : {st : Receiver} {buf b : List ℕ} → block_faults b ≡ [] → count_of b ≢ 0 → (IsLast st (count_of b) → ⊥) → (IsNext st (count_of b) → ⊥)
      → Takes st buf b (refusing st buf bad_block)
  -- a block in turn that fits is taken
  fitted : {st : Receiver} {buf b : List ℕ} {at : ℕ} → block_faults b ≡ [] → TakenAt st b at → used_to at b ≤ length buf
      → Takes st buf b (taking buf at (count_of b) (label_of b) (put_of b))
  -- "NoRoom": a block in turn that does not fit
  no-room : {st : Receiver} {buf b : List ℕ} {at : ℕ} → block_faults b ≡ [] → TakenAt st b at → length buf < used_to at b
      → Takes st buf b (without_room st buf (used_to at b))

-- ---- the same as a function

abbrev pub is_last : Receiver → ℕ → Bool
is_last st count = not (eqb st.started 0) && eqb count st.last

abbrev pub is_next : Receiver → ℕ → Bool
is_next st count = not (eqb st.started 0) && eqb count (next_count st.last)

-- a block of this count, label and data is put at `at`, or there is no room
unfoldable pub put_at : Receiver → List ℕ → ℕ → ℕ → ℕ → List ℕ → ReceiveCall
put_at st buf at count label bytes =
    let used = at + length (put_by label bytes) in
    cond (leb used (length buf)) (taking buf at count label (put_by label bytes)) (without_room st buf used)

-- a block with the next count: B00 if no set is open, another label if one is
unfoldable pub in_turn : Receiver → List ℕ → ℕ → ℕ → List ℕ → ReceiveCall
in_turn st buf count label bytes =
    cond (eqb st.partial 0)
    (cond (eqb label b00) (put_at st buf 0 count b00 bytes) (refusing st buf bad_block))
    (cond (eqb label b00) (refusing st buf bad_block) (put_at st buf st.used count label bytes))

-- a block without fault
unfoldable pub turned : Receiver → List ℕ → ℕ → ℕ → List ℕ → ReceiveCall
turned st buf count label bytes =
    cond (eqb count 0) (cond (eqb label b00) (put_at st buf 0 0 b00 bytes) (refusing st buf bad_block))
    (cond (is_last st count) (keeping st buf (done is_again))
    (cond (is_next st count) (in_turn st buf count label bytes) (refusing st buf bad_block)))

-- the block's first fault is told; else its turn
abbrev pub by_faults : Receiver → List ℕ → List Fault → ReceiveCall → ReceiveCall
by_faults st buf [] then = then
by_faults st buf (x ∷ xs) then = refusing st buf x.no

unfoldable pub receive : Receiver → List ℕ → List ℕ → ReceiveCall
receive st buf b = by_faults st buf (block_faults b) (turned st buf (count_of b) (label_of b) (data_of b))
