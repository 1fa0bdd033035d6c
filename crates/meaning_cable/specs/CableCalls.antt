-- The calls of the cable as a caller sees them: what each answers, and every number of the lent record and every byte of the lent buffer afterwards, refusals too; and `counted`, the number of
-- blocks as the code answers it.
use Rattle.std.specs.Prelude.{Bool, cond, List, ℕ, eqb, Err, Ok}
use Rattle.meaning.specs.Refusals.{Reply, refused, done}
use Rattle.meaning.specs.Answers.{Call, made, bytes_left}
use Rattle.meaning_cable.specs.declared.Link.{Link}
use Rattle.meaning_cable.specs.declared.Action.{Action}
use Rattle.meaning_cable.specs.declared.Action.TheVariants.{Nothing}
use Rattle.meaning_cable.specs.declared.Turned.{Turned}
use Rattle.meaning_cable.specs.declared.Receiver.{Receiver}
use Rattle.meaning_cable.specs.declared.BlockOutcome.{BlockOutcome}
use Rattle.meaning_cable.specs.declared.BlockOutcome.TheVariants.{Taken, Again, Whole}
use Rattle.meaning_cable.specs.Blocks.{block}
use Rattle.meaning_cable.specs.Sending.{send, link_left}
use Rattle.meaning_cable.specs.Receiving.{ReceiveCall, is_taken, is_again, is_whole, ack_number}
use Rattle.meaning_cable.specs.CableResults.{BlockCount, Received, Sent}

-- ---- the sender

abbrev pub sent : Reply Turned → Sent
sent (refused r) = Err r
sent (done t) = Ok t

-- What the sender's call answers, and the link's record then.
pub record SendCall : Type 0 where
  pub answer : Sent
  pub link : Link

abbrev pub send_call : Link → Bool → List ℕ → SendCall
send_call s begins bytes = record { answer = sent (send s begins bytes); link = link_left s (send s begins bytes) }

-- what an answer asks for; nothing if the set is refused
abbrev pub asked : Sent → Action
asked (Ok t) = t.action
asked (Err r) = Nothing

-- ---- a block

abbrev pub counted : Reply ℕ → BlockCount
counted (refused r) = Err r
counted (done n) = Ok n

-- the block stands at the front of what is lent, and zeros after it (E3i)
abbrev pub block_call : List ℕ → ℕ → ℕ → List ℕ → Call ℕ
block_call s i count out = record { answer = made (block s i count); buffer = bytes_left (block s i count) out }

-- ---- the receiver

-- the number of what became of a block
abbrev pub outcome_number : BlockOutcome → ℕ
outcome_number Taken = is_taken
outcome_number Again = is_again
outcome_number Whole = is_whole

-- and what became of it by its number
abbrev pub outcome_of : ℕ → BlockOutcome
outcome_of w = cond (eqb w is_taken) Taken (cond (eqb w is_again) Again Whole)

-- what is answered, with the state after the call
abbrev pub received : Reply ℕ → Receiver → Received
received (refused r) st = Err r
received (done w) st = Ok (record { what = outcome_of w; receiver = st })

abbrev pub received_call : ReceiveCall → Received
received_call c = received c.answer c.state

-- the receiver's state to keep: that of the answer, after a refusal the one that was given
abbrev pub kept_by : Receiver → Received → Receiver
kept_by st (Ok t) = t.receiver
kept_by st (Err r) = st

-- the number of the reply that this answer asks for
abbrev pub ack_by : Received → ℕ
ack_by (Ok t) = ack_number (done (outcome_number t.what))
ack_by (Err r) = ack_number (refused r)
