-- A whole set over the cable, sender and receiver together: on a cable that loses and changes nothing (`exchanges`), and on one that loses and changes blocks and replies
-- (`exchanges_by`).
use Rattle.std.specs.Prelude.{◌≡◌, true, false, cond, List, [], ◌∷◌, ◌++◌, ◌≢◌, ℕ, zero, suc, ◌-◌, eqb, length, replicate}
use Rattle.meaning.specs.Refusals.{Reply, refused, done}
use Rattle.meaning_cable.specs.declared.Link.{Link}
use Rattle.meaning_cable.specs.declared.Receiver.{Receiver}
use Rattle.meaning_cable.specs.Stream.{restored}
use Rattle.meaning_cable.specs.Blocks.{joined, block}
use Rattle.meaning_cable.specs.Sending.{under_way, delivered, next_count, is_ack, turn_of, send, link_left}
use Rattle.meaning_cable.specs.Receiving.{block_faults, ReceiveCall, is_taken, ack_of, receive}

-- Both ends: the sender's link, and what the receiver's last call left.
pub record Cable : Type 0 where
  pub link : Link
  pub got : ReceiveCall

-- the bytes of a block, none if it is refused
abbrev pub bytes_or : Reply (List ℕ) → List ℕ
bytes_or (refused r) = []
bytes_or (done bs) = bs

-- a set begins: the sender is given it
unfoldable pub begins : List ℕ → Cable → Cable
begins s w = record { link = link_left w.link (send w.link true s); got = w.got }

-- the block of the set s that the link asks for arrives
unfoldable pub arrives : List ℕ → Cable → ReceiveCall
arrives s w = receive w.got.state w.got.buffer (bytes_or (block s w.link.block w.link.count))

-- one exchange: that block arrives, and the receiver's reply is heard
unfoldable pub exchange : List ℕ → Cable → Cable
exchange s w = record { link = (turn_of w.link (ack_of (arrives s w).answer)).link; got = arrives s w }

-- n exchanges
unfoldable pub exchanges : List ℕ → ℕ → Cable → Cable
exchanges s zero w = w
exchanges s (suc n) w = exchange s (exchanges s n w)

-- Both ends can go on with a new set: the sender begins with count 0, which any receiver takes, or its last set was delivered and the receiver took the last block of it.
pub data Agree : Link → Receiver → Type 0 where
  from_zero : {s : Link} {st : Receiver} → s.phase ≢ delivered → Agree s st
  goes-on : {s : Link} {st : Receiver} → s.phase ≡ delivered → st.started ≢ 0 → st.partial ≡ 0 → st.last ≡ s.count → Agree s st

-- the count of block i of a set whose first block has count c
unfoldable pub count_at : ℕ → ℕ → ℕ
count_at c zero = c
count_at c (suc i) = next_count (count_at c i)

-- The set with the data x is under way, and i of its blocks were taken, but not the last: the link is at block i, and the receiver's buffer holds the bytes that the data of the
-- blocks before it stand for, and then zeros.
pub record UnderWay (x buf : List ℕ) (i : ℕ) (w : Cable) : Type 0 where
  pub runs : w.link.phase ≡ under_way
  pub at_block : w.link.block ≡ i
  pub no-error : w.link.errors ≡ 0
  pub was-taken : w.got.answer ≡ done is_taken
  pub used-is : w.got.state.used ≡ length (restored (joined x i))
  pub buffer-is : w.got.buffer ≡ restored (joined x i) ++ replicate (length buf - length (restored (joined x i))) 0

-- The set s has arrived: the sender has delivered, the receiver's buffer holds the bytes of the set and then zeros, and both can go on with another set.
pub record Arrived (s buf : List ℕ) (w : Cable) : Type 0 where
  pub was-delivered : w.link.phase ≡ delivered
  pub used-is : w.got.state.used ≡ length s
  pub buffer-is : w.got.buffer ≡ s ++ replicate (length buf - length s) 0
  pub agreed : Agree w.link w.got.state

-- ---- a cable that loses and changes things

-- What becomes of one exchange.
pub data Fate : Type 0 where
  -- the block arrives, and the receiver's reply is heard
  heard : Fate
  -- the block arrives, and the reply is lost (no bytes) or changed; what is heard isn't ACK 1
  unheard : (r : List ℕ) → is_ack r ≡ false → Fate
  -- the block is changed, and the receiver sees that by its form or its CRC, as it does for any one byte (`one-byte-seen` of proofs/DamageLaws); what is heard isn't ACK 1
  changed : (bs r : List ℕ) → block_faults bs ≢ [] → is_ack r ≡ false → Fate
  -- the block is lost; what is heard, if anything, isn't ACK 1
  lost : (r : List ℕ) → is_ack r ≡ false → Fate

-- what the receiver's last call then left
unfoldable pub got_by : List ℕ → Fate → Cable → ReceiveCall
got_by s heard w = arrives s w
got_by s (unheard r p) w = arrives s w
got_by s (changed bs r f p) w = receive w.got.state w.got.buffer bs
got_by s (lost r p) w = w.got

-- what the sender hears
unfoldable pub hears : List ℕ → Fate → Cable → List ℕ
hears s heard w = ack_of (arrives s w).answer
hears s (unheard r p) w = r
hears s (changed bs r f p) w = r
hears s (lost r p) w = r

-- one exchange; nothing is sent unless a set is under way
unfoldable pub exchange_by : List ℕ → Fate → Cable → Cable
exchange_by s f w = cond (eqb w.link.phase under_way) (record { link = (turn_of w.link (hears s f w)).link; got = got_by s f w }) w

-- one after the other
unfoldable pub exchanges_by : List ℕ → List Fate → Cable → Cable
exchanges_by s [] w = w
exchanges_by s (f ∷ fs) w = exchanges_by s fs (exchange_by s f w)
