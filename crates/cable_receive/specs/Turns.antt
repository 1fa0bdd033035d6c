-- The rows of the receiver's table for a block that came, by its count, its label and its data.
use Rattle.std.specs.Prelude.{List, ℕ}
use Rattle.meaning_cable.specs.declared.Receiver.{Receiver}
use Rattle.meaning_cable.specs.Receiving.{count_of, label_of, data_of, ReceiveCall, put_at, in_turn, turned}

-- it is put at an offset, or there is no room
abbrev pub block_put : Receiver → List ℕ → ℕ → List ℕ → ReceiveCall
block_put st buf at b = put_at st buf at (count_of b) (label_of b) (data_of b)

-- it has the next count
abbrev pub block_next : Receiver → List ℕ → List ℕ → ReceiveCall
block_next st buf b = in_turn st buf (count_of b) (label_of b) (data_of b)

-- it has no fault
abbrev pub block_turn : Receiver → List ℕ → List ℕ → ReceiveCall
block_turn st buf b = turned st buf (count_of b) (label_of b) (data_of b)
