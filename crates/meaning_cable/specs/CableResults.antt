-- What the calls of the cable answer: what was asked for, or the first refusal in the paper's order.
use Rattle.std.specs.Prelude.{ℕ, Result}
use Rattle.meaning.specs.declared.Refusal.{Refusal}
use Rattle.meaning_cable.specs.declared.Turned.{Turned}
use Rattle.meaning_cable.specs.declared.Taken.{Taken}

-- what the sender's call answers: the link after it, and what has to be done next; of a set that is refused the record stays as it was
abbrev pub Sent : Type 0
Sent = Result Turned Refusal

-- how many blocks a set has
abbrev pub BlockCount : Type 0
BlockCount = Result ℕ Refusal

-- what the receiver's call answers: what became of a block, and the state after it; of a block that is refused state and buffer stay as they were
abbrev pub Received : Type 0
Received = Result Taken Refusal
