-- The link's record as it follows from the answer alone is that of the call. The receiver's `ack`, as bytes, is the reply that is to be sent.
use mathlib.Core.Path.{◌≡◌, refl, sym, ap, ap₂, ◌∙◌}
use mathlib.Core.List.{List}
use Prim.Native.Nat.{ℕ}
use Rattle.meaning.specs.Refusals.{Reply, refused, done}
use Rattle.meaning_cable.specs.declared.Link.{Link}
use Rattle.meaning_cable.specs.declared.Turned.{Turned}
use Rattle.meaning_cable.specs.declared.Receiver.{Receiver}
use Rattle.meaning_cable.specs.declared.Taken.{Taken}
use Rattle.meaning_cable.specs.Sending.{ack_bytes, link_left, send}
use Rattle.meaning_cable.specs.Receiving.{ReceiveCall, ack_of, receive}
use Rattle.meaning_cable.specs.CableCalls.{sent, outcome_number, received, received_call}
use Rattle.meaning_cable.proofs.ReceivingLaws.{outcome-told, ack-told}
use Rattle.gdtcable.specs.declared.SentReply.{SentReply}
use Rattle.gdtcable.specs.declared.ReceivedReply.{ReceivedReply}
use Rattle.gdtcable.specs.CableReplies.{begins, sent_reply, link_after, turn_after, send_turn, received_what, received_reply}
use Rattle.meaning_cable.specs.CableResults.{Sent}
use Rattle.std.specs.Prelude.{Ok}

link-after : (s : Link) (r : Reply Turned) → link_after s (sent r) ≡ link_left s r
link-after s (refused r) = refl
link-after s (done t) = refl

-- what is made of the sender's answer is all that the call comes to
pub turn_is : (s : Link) (begin : ℕ) (bytes : List ℕ) (a b : Sent) → a ≡ sent (send s (begins begin) bytes) → a ≡ b → turn_after s b ≡ send_turn s begin bytes
turn_is s begin bytes a b answers so =
    let e : b ≡ sent (send s (begins begin) bytes) = sym so ∙ answers in
    ap₂ (λ (x : Link) (y : SentReply). record { link = x; reply = y })
    (ap (link_after s) e ∙ link-after s (send s (begins begin) bytes)) (ap sent_reply e)

-- a block that was not refused, with the number of what became of it
pub told : (s : Receiver) (t : Taken) (w : ℕ) → w ≡ outcome_number t.what
    → ◌≡◌ {A = ReceivedReply} (record { no = 0; place = 0; label = 0; what = w; receiver = t.receiver; ack = 1 }) (received_reply s (Ok t))
told s t w e = ap (λ (n : ℕ). record { no = 0; place = 0; label = 0; what = n; receiver = t.receiver; ack = 1 }) e

-- and that number is the one of the definition
pub what-told : (s st : Receiver) (buf b : List ℕ) (w : ℕ) → (receive st buf b).answer ≡ done w → (received_reply s (received_call (receive st buf b))).what ≡ w
what-told s st buf b w e = ap (λ (r : Reply ℕ). received_what (received r (receive st buf b).state)) e ∙ outcome-told st buf b w e

-- "Refusals, answered ACK 0": what C sends by `ack` of the record is the reply of the definition
pub ack-sent : (s : Receiver) (c : ReceiveCall) → ack_bytes (received_reply s (received_call c)).ack ≡ ack_of c.answer
ack-sent s c = ack-told c
