-- The sender: "The link keeps one state record that each call updates: reply in, next action out."
-- The rule table stands twice: as rows (`Begins`, `Follows`) and as functions (`begun`, `turn_of`); proofs/SendingLaws says that they
-- are the same.
use Rattle.std.specs.Prelude.{◌≡◌, Bool, true, false, cond, ◌&&◌, List, [], ◌∷◌, ◌⊎◌, ◌≢◌, ℕ, ◌+◌, ◌≤◌, ◌<◌, length, get_or, leb, eqb}
use Rattle.meaning.specs.Digits.{digit_zero}
use Rattle.meaning.specs.Refusals.{Reply, refused, done, then_to}
use Rattle.meaning_cable.specs.declared.Link.{Link}
use Rattle.meaning_cable.specs.declared.Action.{Action}
use Rattle.meaning_cable.specs.declared.Action.TheVariants.{Nothing, Send, Delivered, GivenUp}
use Rattle.meaning_cable.specs.declared.Turned.{Turned}
use Rattle.meaning_cable.specs.Blocks.{max_count, blocks_of}

-- ---- phases, counts, replies

-- a set is under way
abbrev pub under_way : ℕ
under_way = 1

abbrev pub delivered : ℕ
delivered = 2

abbrev pub given_up : ℕ
given_up = 3

-- "Count 1 to 9 then 1 again, 0 at the start": the count after c. A count over 9 can only stand in a foreign record; 1 follows it (E3o).
unfoldable pub next_count : ℕ → ℕ
next_count c = cond (leb max_count c) 1 (c + 1)

-- the first byte of a reply, 06h
abbrev pub ack_byte : ℕ
ack_byte = 6

-- ACK n, a reply: 06h and the digit n
abbrev pub ack_bytes : ℕ → List ℕ
ack_bytes n = ack_byte ∷ (digit_zero + n) ∷ []

-- 06h 31h
abbrev pub ack1 : List ℕ
ack1 = ack_bytes 1

-- 06h 30h
abbrev pub ack0 : List ℕ
ack0 = ack_bytes 0

-- "a timeout or any reply but ACK 1 is an error"; a timeout is a reply of no bytes
unfoldable pub is_ack : List ℕ → Bool
is_ack r = eqb (length r) 2 && (eqb (get_or r 0 0) ack_byte && eqb (get_or r 1 0) (digit_zero + 1))

-- ---- what the sender has to do next

-- its number: 0 nothing is under way, 1 send this block with this count, 2 the set is delivered, 3 it is given up
abbrev pub what_number : Action → ℕ
what_number Nothing = 0
what_number (Send i c) = 1
what_number Delivered = 2
what_number GivenUp = 3

-- the number of an action that asks to send a block
abbrev pub to_send : ℕ
to_send = 1

-- the block and its count: 0 unless a block is to be sent
abbrev pub block_number : Action → ℕ
block_number Nothing = 0
block_number (Send i c) = i
block_number Delivered = 0
block_number GivenUp = 0

abbrev pub count_number : Action → ℕ
count_number Nothing = 0
count_number (Send i c) = c
count_number Delivered = 0
count_number GivenUp = 0

-- send the block that the link names, with the link's count
abbrev pub sends : Link → Action
sends s = Send s.block s.count

-- the end that the link has come to; nothing if none is under way
unfoldable pub end_of : Link → Action
end_of s = cond (eqb s.phase delivered) Delivered (cond (eqb s.phase given_up) GivenUp Nothing)

-- ---- the links that the rows lead to

-- the first block of n in the first attempt, with count c
abbrev pub opened : ℕ → ℕ → Link
opened n c = record { phase = under_way; blocks = n; attempt = 1; block = 0; errors = 0; count = c }

-- the next block with the next count
abbrev pub on_to : Link → Link
on_to s = record { phase = under_way; blocks = s.blocks; attempt = s.attempt; block = s.block + 1; errors = 0; count = next_count s.count }

-- the same block with the same count once more; the error is noted
abbrev pub once_more : Link → Link
once_more s = record { phase = under_way; blocks = s.blocks; attempt = s.attempt; block = s.block; errors = 1; count = s.count }

-- "starts again from B00 with count 0"
abbrev pub second_attempt : Link → Link
second_attempt s = record { phase = under_way; blocks = s.blocks; attempt = 2; block = 0; errors = 0; count = 0 }

-- the end: only the phase changes (E3o)
abbrev pub with_phase : ℕ → Link → Link
with_phase p s = record { phase = p; blocks = s.blocks; attempt = s.attempt; block = s.block; errors = s.errors; count = s.count }

-- ---- the rule table, a row each

-- A set of n blocks begins: the link before, the link after. After a delivered set the count goes on; "0 at the start, after a given-up set", and after a set that was still
-- under way, which counts as given up (E3f, E3g).
pub data Begins : Link → ℕ → Link → Type 0 where
  goes-on : {s : Link} {n : ℕ} → s.phase ≡ delivered → Begins s n (opened n (next_count s.count))
  from_zero : {s : Link} {n : ℕ} → s.phase ≢ delivered → Begins s n (opened n 0)

-- A reply comes: the link before, the reply, the link after, what has to be done next.
pub data Follows : Link → List ℕ → Link → Action → Type 0 where
  -- ACK 1 and blocks are left: the next block, with the next count
  taken : {s : Link} {r : List ℕ} → s.phase ≡ under_way → is_ack r ≡ true → s.block + 1 < s.blocks → Follows s r (on_to s) (sends (on_to s))
  -- ACK 1 for the last block
  last_taken : {s : Link} {r : List ℕ} → s.phase ≡ under_way → is_ack r ≡ true → s.blocks ≤ s.block + 1 → Follows s r (with_phase delivered s) Delivered
  -- the first error on a block: the same block with the same count
  again : {s : Link} {r : List ℕ} → s.phase ≡ under_way → is_ack r ≡ false → s.errors ≡ 0 → Follows s r (once_more s) (sends (once_more s))
  -- "a second error in a row on a block starts again from B00 with count 0"
  afresh : {s : Link} {r : List ℕ} → s.phase ≡ under_way → is_ack r ≡ false → s.errors ≢ 0 → s.attempt ≤ 1 → Follows s r (second_attempt s) (sends (second_attempt s))
  -- "a second failed attempt ends it"
  over : {s : Link} {r : List ℕ} → s.phase ≡ under_way → is_ack r ≡ false → s.errors ≢ 0 → 1 < s.attempt → Follows s r (with_phase given_up s) GivenUp
  -- "calls after the end answer so"; on an idle link nothing is under way
  ended : {s : Link} {r : List ℕ} → s.phase ≢ under_way → Follows s r s (end_of s)

-- ---- the same as functions

abbrev pub goes : Link → Turned
goes s = record { link = s; action = sends s }

abbrev pub stops : ℕ → Action → Link → Turned
stops p x s = record { link = with_phase p s; action = x }

-- the count that the next set begins with
unfoldable pub first_count : Link → ℕ
first_count s = cond (eqb s.phase delivered) (next_count s.count) 0

-- a set of n blocks begins
unfoldable pub begun : Link → ℕ → Turned
begun s n = goes (opened n (first_count s))

-- after ACK 1
unfoldable pub acked : Link → Turned
acked s = cond (leb s.blocks (s.block + 1)) (stops delivered Delivered s) (goes (on_to s))

-- after an error
unfoldable pub failed : Link → Turned
failed s = cond (eqb s.errors 0) (goes (once_more s)) (cond (leb s.attempt 1) (goes (second_attempt s)) (stops given_up GivenUp s))

-- a reply comes
unfoldable pub turn_of : Link → List ℕ → Turned
turn_of s r = cond (eqb s.phase under_way) (cond (is_ack r) (acked s) (failed s)) (record { link = s; action = end_of s })

-- ---- the call

-- The one call of the sender. To begin, the bytes are the set; else they are the reply, none for a timeout. Only a set is refused.
unfoldable pub send : Link → Bool → List ℕ → Reply Turned
send s begins bytes = cond begins (then_to (blocks_of bytes) (λ n. done (begun s n))) (done (turn_of s bytes))

-- the link's record after the call: a refusal leaves it as it was
abbrev pub link_left : Link → Reply Turned → Link
link_left s (refused r) = s
link_left s (done t) = t.link

-- ---- "for n blocks the sender has delivered or given up after at most 4n replies or timeouts"

-- the link after these replies, one call each; a timeout is a reply of no bytes
unfoldable pub after : Link → List (List ℕ) → Link
after s [] = s
after s (r ∷ rs) = after (link_left s (send s false r)) rs

abbrev pub Ended : Link → Type 0
Ended s = (s.phase ≡ delivered) ⊎ (s.phase ≡ given_up)
