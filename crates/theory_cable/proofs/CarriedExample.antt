-- P over the cable, computed, from a fresh sender to a fresh receiver with room for 60 bytes: if nothing is lost (`p-carried`), and what both ends hold after some losses.
use mathlib.Core.Path.{◌≡◌, refl}
use mathlib.Core.Bool.{false}
use mathlib.Core.List.{List, [], ◌∷◌, ◌++◌, cons≢nil, map}
use mathlib.Core.Logic.{◌≢◌}
use Prim.Native.Nat.{ℕ}
use lib.ListN.{replicate}
use Rattle.meaning.specs.Computes.{computes}
use Rattle.meaning.specs.Refusals.{done}
use Rattle.meaning.proofs.Asking.{text}
use Rattle.meaning_cable.specs.declared.Link.{Link}
use Rattle.meaning_cable.specs.declared.Action.{Action}
use Rattle.meaning_cable.specs.declared.Action.TheVariants.{Nothing, Send, Delivered, GivenUp}
use Rattle.meaning_cable.specs.declared.Receiver.{Receiver}
use Rattle.meaning_cable.specs.Sending.{ack0, is_ack}
use Rattle.meaning_cable.specs.Receiving.{block_faults, ReceiveCall, keeping}
use Rattle.meaning_cable.specs.CableComputes.{cable_computes}
use Rattle.theory_cable.specs.Carrying.{Cable, begins, arrives, exchange, exchanges, Fate, heard, unheard, changed, lost, got_by, hears, exchange_by, exchanges_by}
use Rattle.theory_cable.specs.Transfers.{Ends, leaves, replies, step, steps, clean_steps, starts}
use Rattle.meaning_cable.specs.CableResults.{Sent}
use Rattle.std.specs.Prelude.{Ok}

p : List ℕ
p = text "01380006300\r\n014810000051\r\n014921802.10\r\n01030000\r\n"

fresh_link : Link
fresh_link = record { phase = 0; blocks = 0; attempt = 0; block = 0; errors = 0; count = 0 }

fresh_receiver : Receiver
fresh_receiver = record { started = 0; last = 0; partial = 0; used = 0 }

fresh_call : ReceiveCall
fresh_call = keeping fresh_receiver (replicate 60 7) (done 0)

fresh_ends : Cable
fresh_ends = record { link = fresh_link; got = fresh_call }

-- phase, blocks, attempt, block, errors, count
at : ℕ → ℕ → ℕ → ℕ → ℕ → ℕ → Link
at q n a i e c = record { phase = q; blocks = n; attempt = a; block = i; errors = e; count = c }

-- an answer, the last count, whether the set is open, how many bytes are used, the buffer
left : ℕ → ℕ → ℕ → ℕ → List ℕ → ReceiveCall
left w c o n buf = record { answer = done w; state = record { started = 1; last = c; partial = o; used = n }; buffer = buf }

both : Link → ReceiveCall → Cable
both l g = record { link = l; got = g }

-- P is whole in the buffer
all_of : List ℕ
all_of = p ++ replicate 9 0

p-carried : exchanges p 2 (begins p fresh_ends) ≡ both (at 2 2 1 1 0 1) (left 3 1 0 51 all_of)
unfolding computes cable_computes begins arrives exchange exchanges p fresh_link fresh_receiver fresh_call fresh_ends at left both all_of
p-carried = refl

-- ---- a cable that loses things

silence : is_ack [] ≡ false
unfolding is_ack
silence = refl

no-ack : is_ack ack0 ≡ false
unfolding is_ack
no-ack = refl

-- the block arrives, the reply is lost
u : Fate
u = unheard [] silence

-- the block is lost
l : Fate
l = lost [] silence

cut-seen : block_faults (text "0B00") ≢ []
unfolding computes cable_computes
cut-seen e = cons≢nil e

-- four bytes of the block arrive, and ACK 0 is heard
short : Fate
short = changed (text "0B00") ack0 cut-seen no-ack

fates : List (List Fate)
fates =
    (heard ∷ u ∷ [])  -- the ACK 1 of B02 is lost: it arrived, and the sender doesn't know
    ∷ (heard ∷ u ∷ u ∷ [])  -- lost twice: acknowledged again (E3l), and the sender begins again
    ∷ (heard ∷ u ∷ u ∷ heard ∷ [])  -- the receiver starts afresh (E3k)
    ∷ (heard ∷ u ∷ u ∷ heard ∷ heard ∷ [])  -- and the set is whole for the second time (E3n)
    ∷ (heard ∷ u ∷ u ∷ heard ∷ u ∷ u ∷ [])  -- given up, though it arrived
    ∷ (short ∷ heard ∷ l ∷ heard ∷ [])  -- a changed block and a lost one, each sent again
    ∷ []

-- the first line alone
first_line : List ℕ
first_line = text "01380006300\r\n" ++ replicate 47 0

ends : List Cable
ends =
    both (at 1 2 1 1 1 1) (left 3 1 0 51 all_of) ∷ both (at 1 2 2 0 0 0) (left 2 1 0 51 all_of) ∷ both (at 1 2 2 1 0 1) (left 1 0 1 13 first_line)
    ∷ both (at 2 2 2 1 0 1) (left 3 1 0 51 all_of) ∷ both (at 3 2 2 1 1 1) (left 2 1 0 51 all_of) ∷ both (at 2 2 1 1 1 1) (left 3 1 0 51 all_of) ∷ []

losses-decided : map (λ (φ : List Fate). exchanges_by p φ (begins p fresh_ends)) fates ≡ ends
unfolding computes cable_computes begins arrives got_by hears exchange_by exchanges_by p fresh_link fresh_receiver fresh_call fresh_ends at left both all_of u l short fates first_line ends
losses-decided = refl

-- ---- the same by the calls' own answers

-- the sender's last answer, with what it asks for
told : Link → Action → Sent
told k x = Ok (record { link = k; action = x })

ends_of : Link → Action → ReceiveCall → Ends
ends_of k x g = record { link = k; told = told k x; got = g }

-- a block is lent 137 bytes, each 7
transfers-decided : map (λ (φ : List Fate). steps p (replicate 137 7) φ (starts p (record { link = fresh_link; told = told fresh_link Nothing; got = fresh_call }))) fates
    ≡ ends_of (at 1 2 1 1 1 1) (Send 1 1) (left 3 1 0 51 all_of) ∷ ends_of (at 1 2 2 0 0 0) (Send 0 0) (left 2 1 0 51 all_of) ∷ ends_of (at 1 2 2 1 0 1) (Send 1 1) (left 1 0 1 13 first_line)
    ∷ ends_of (at 2 2 2 1 0 1) Delivered (left 3 1 0 51 all_of) ∷ ends_of (at 3 2 2 1 1 1) GivenUp (left 2 1 0 51 all_of) ∷ ends_of (at 2 2 1 1 1 1) Delivered (left 3 1 0 51 all_of) ∷ []
unfolding computes cable_computes starts leaves replies step steps p fresh_link fresh_receiver fresh_call at left all_of u l short fates first_line told ends_of
transfers-decided = refl

clean-decided : clean_steps p (replicate 137 7) 2 (starts p (record { link = fresh_link; told = told fresh_link Nothing; got = fresh_call }))
    ≡ ends_of (at 2 2 1 1 0 1) Delivered (left 3 1 0 51 all_of)
unfolding computes cable_computes starts leaves replies step clean_steps p fresh_link fresh_receiver fresh_call at left all_of told ends_of
clean-decided = refl
