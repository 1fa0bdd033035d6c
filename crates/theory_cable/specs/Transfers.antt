-- A transfer as whoever calls makes it, out of the calls' own answers, records and buffers alone: `send_call` is told the set, then each reply; the block that it asks for is made by `block_call`,
-- and what arrives of it is given to `receive`; the reply that goes back is made of the number in its answer. proofs/TransferLaws says that this is what `Carrying` says.
use Rattle.std.specs.Prelude.{true, false, cond, List, [], ◌∷◌, ℕ, zero, suc, eqb, take}
use Rattle.meaning.specs.Answers.{made_count}
use Rattle.meaning_cable.specs.declared.Link.{Link}
use Rattle.meaning_cable.specs.declared.Action.{Action}
use Rattle.meaning_cable.specs.Sending.{what_number, to_send, block_number, count_number, ack_bytes}
use Rattle.meaning_cable.specs.Receiving.{ReceiveCall, receive}
use Rattle.meaning_cable.specs.CableCalls.{send_call, asked, block_call, received_call, ack_by}
use Rattle.theory_cable.specs.Carrying.{Fate, heard, unheard, changed, lost}
use Rattle.meaning_cable.specs.CableResults.{Sent}

-- Both ends: the sender's record and its last answer, and what the receiver's last call left.
pub record Ends : Type 0 where
  pub link : Link
  pub told : Sent
  pub got : ReceiveCall

-- the bytes that go out for the block that is asked for: as many of those lent to the block's call as it answers. What stood in them before (`out`) does not matter.
abbrev pub on_line : List ℕ → List ℕ → Action → List ℕ
on_line s out x = take (made_count (block_call s (block_number x) (count_number x) out).answer) (block_call s (block_number x) (count_number x) out).buffer

-- what the receiver's last call then left
unfoldable pub leaves : List ℕ → List ℕ → Fate → Ends → ReceiveCall
leaves s out heard w = receive w.got.state w.got.buffer (on_line s out (asked w.told))
leaves s out (unheard r p) w = receive w.got.state w.got.buffer (on_line s out (asked w.told))
leaves s out (changed bs r f p) w = receive w.got.state w.got.buffer bs
leaves s out (lost r p) w = w.got

-- what goes back for a call of the receiver: 06h and the digit of the `ack` in what the call answers (that of the C record: `gdtcable:CableReplies.received_reply`)
abbrev pub sent_back : ReceiveCall → List ℕ
sent_back c = ack_bytes (ack_by (received_call c))

-- what the sender then hears
unfoldable pub replies : List ℕ → List ℕ → Fate → Ends → List ℕ
replies s out heard w = sent_back (leaves s out heard w)
replies s out (unheard r p) w = r
replies s out (changed bs r f p) w = r
replies s out (lost r p) w = r

-- one exchange, if the sender asks for one
unfoldable pub step : List ℕ → List ℕ → Fate → Ends → Ends
step s out f w =
    let call = send_call w.link false (replies s out f w) in
    cond (eqb (what_number (asked w.told)) to_send) (record { link = call.link; told = call.answer; got = leaves s out f w }) w

-- one after the other
unfoldable pub steps : List ℕ → List ℕ → List Fate → Ends → Ends
steps s out [] w = w
steps s out (f ∷ fs) w = steps s out fs (step s out f w)

-- n exchanges in which nothing is lost or changed
unfoldable pub clean_steps : List ℕ → List ℕ → ℕ → Ends → Ends
clean_steps s out zero w = w
clean_steps s out (suc n) w = step s out heard (clean_steps s out n w)

-- the sender is given the set
unfoldable pub starts : List ℕ → Ends → Ends
starts s w = record { link = (send_call w.link true s).link; told = (send_call w.link true s).answer; got = w.got }
