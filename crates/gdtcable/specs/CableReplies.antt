-- The records of numbers that the calls of the cable answer, from the answers of `meaning_cable`.
use Rattle.std.specs.Prelude.{Bool, not, List, ℕ, eqb, Err, Ok}
use Rattle.meaning.specs.declared.Refusal.{Refusal}
use Rattle.meaning.specs.Answers.{no_refusal}
use Rattle.meaning_cable.specs.declared.Link.{Link}
use Rattle.meaning_cable.specs.declared.Receiver.{Receiver}
use Rattle.meaning_cable.specs.Sending.{what_number, block_number, count_number}
use Rattle.meaning_cable.specs.CableCalls.{send_call, asked, outcome_number, kept_by, ack_by}
use Rattle.gdtcable.specs.declared.SentReply.{SentReply}
use Rattle.gdtcable.specs.declared.SentTurn.{SentTurn}
use Rattle.gdtcable.specs.declared.ReceivedReply.{ReceivedReply}
use Rattle.meaning_cable.specs.CableResults.{Received, Sent}

-- ---- the sender

-- the bytes are a set that begins, and no reply: "any number but 0"
abbrev pub begins : ℕ → Bool
begins n = not (eqb n 0)

abbrev pub sent_refusal : Sent → Refusal
sent_refusal (Ok t) = no_refusal
sent_refusal (Err r) = r

-- the refusal's number, place and label, 0 if there is none; what has to be done next, 0 if the set is refused
abbrev pub sent_reply : Sent → SentReply
sent_reply s = record {
  no = (sent_refusal s).no;
  place = (sent_refusal s).place;
  label = (sent_refusal s).label;
  what = what_number (asked s);
  block = block_number (asked s);
  count = count_number (asked s);
}

-- the link's record after this answer: a refusal leaves it as it was
abbrev pub link_after : Link → Sent → Link
link_after s (Ok t) = t.link
link_after s (Err r) = s

-- both of them
abbrev pub turn_after : Link → Sent → SentTurn
turn_after s a = record { link = link_after s a; reply = sent_reply a }

-- all that the call comes to: the link's record and the answer
abbrev pub send_turn : Link → ℕ → List ℕ → SentTurn
send_turn s begin bytes = record { link = (send_call s (begins begin) bytes).link; reply = sent_reply (send_call s (begins begin) bytes).answer }

-- ---- the receiver

abbrev pub received_refusal : Received → Refusal
received_refusal (Ok t) = no_refusal
received_refusal (Err r) = r

-- what became of the block; 0 if it is refused
abbrev pub received_what : Received → ℕ
received_what (Ok t) = outcome_number t.what
received_what (Err r) = 0

-- the refusal's number, place and label, 0 if there is none; what became of the block, 0 if it is refused; the receiver's state to keep; the number of the reply to send
abbrev pub received_reply : Receiver → Received → ReceivedReply
received_reply s a = record {
  no = (received_refusal a).no;
  place = (received_refusal a).place;
  label = (received_refusal a).label;
  what = received_what a;
  receiver = kept_by s a;
  ack = ack_by a;
}
