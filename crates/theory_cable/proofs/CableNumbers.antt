-- Which numbers each call of the cable can refuse with: the sender's two the set's own and 18, the receiver's 22, 25 and 26. A reply is never refused.
use mathlib.Core.Path.{◌≡◌, refl, sym}
use mathlib.Core.Bool.{Bool, true, false, ◌||◌, true≢false}
use mathlib.Core.List.{List, [], ◌∷◌, ◌++◌}
use mathlib.Core.Logic.{◌⊎◌, inl, inr}
use Prim.Native.Nat.{ℕ}
use lib.Dec.{eqb}
use Rattle.meaning.specs.Field.{Field, elem}
use Rattle.meaning.specs.Refusals.{Reply, refused, done, then_to, verdict, bad_use, no_room, bad_block, bad_crc}
use Rattle.meaning.specs.Pieces.{parsed}
use Rattle.meaning.specs.Reading.{read, in_set}
use Rattle.meaning.specs.Corrections.{alone_faults}
use Rattle.meaning.proofs.NumberLaws.{Numbered, OneOf, read_numbers, read-numbers}
use Rattle.meaning_cable.specs.declared.Link.{Link}
use Rattle.meaning_cable.specs.declared.Receiver.{Receiver}
use Rattle.meaning_cable.specs.Stream.{stream}
use Rattle.meaning_cable.specs.Blocks.{block_count, block_of, set_alone, blocks_of, block}
use Rattle.meaning_cable.specs.Sending.{begun, send}
use Rattle.meaning_cable.specs.Receiving.{ReceiveCall, receive}
use Rattle.meaning_cable.proofs.ReceivingLaws.{Outcome, kept, once-more, took, receive-outcome}

-- "The sender refuses as the set does, and 18 for a second set"
abbrev pub sender_numbers : List ℕ
sender_numbers = read_numbers ++ (bad_use ∷ [])

-- a number among some is among more
elem-more : (n : ℕ) (ns ms : List ℕ) → elem n ns ≡ true → elem n (ns ++ ms) ≡ true
unfolding elem
elem-more n [] ms e = absurd (true≢false (sym e))
elem-more n (m ∷ ns) ms e = go (eqb n m) (λ q. elem-more n ns ms q) e
  where
    go : (t : Bool) → (elem n ns ≡ true → elem n (ns ++ ms) ≡ true) → t || elem n ns ≡ true → t || elem n (ns ++ ms) ≡ true
    go true f q = refl
    go false f q = f q

more : {A : Type 0} (ns ms : List ℕ) (r : Reply A) → Numbered (OneOf ns) r → Numbered (OneOf (ns ++ ms)) r
more ns ms (refused r) h = elem-more r.no ns ms h
more ns ms (done a) h = tt

-- what is done with a set comes to no other number
then-numbers : {A B : Type 0} (P : ℕ → Type 0) (r : Reply A) (k : A → Reply B) → Numbered P r → ((a : A) → Numbered P (k a)) → Numbered P (then_to r k)
then-numbers P (refused r) k h f = h
then-numbers P (done a) k h f = f a

among-18 : OneOf sender_numbers bad_use
unfolding elem
among-18 = refl

alone-numbers : (s : List ℕ) → Numbered (OneOf sender_numbers) (set_alone s)
unfolding set_alone
alone-numbers s =
    then-numbers (OneOf sender_numbers) (read s) (λ d. verdict (in_set d.fields) (alone_faults d) d.fields) (more read_numbers (bad_use ∷ []) (read s) (read-numbers s))
    (λ d. second d.fields d.rest)
  where
    second : (fs : List Field) (t : List ℕ) → Numbered (OneOf sender_numbers) (verdict (in_set fs) (alone_faults (parsed fs t)) fs)
    second fs [] = tt
    second fs (b ∷ t) = among-18

pub block-numbers : (s : List ℕ) (i count : ℕ) → Numbered (OneOf sender_numbers) (block s i count)
unfolding block
block-numbers s i count = then-numbers (OneOf sender_numbers) (set_alone s) (λ fs. done (block_of (stream fs) i count)) (alone-numbers s) (λ fs. tt)

pub send-numbers : (l : Link) (begins : Bool) (bytes : List ℕ) → Numbered (OneOf sender_numbers) (send l begins bytes)
unfolding send blocks_of
send-numbers l true bytes =
    then-numbers (OneOf sender_numbers) (then_to (set_alone bytes) (λ fs. done (block_count (stream fs)))) (λ n. done (begun l n))
    (then-numbers (OneOf sender_numbers) (set_alone bytes) (λ fs. done (block_count (stream fs))) (alone-numbers bytes) (λ fs. tt)) (λ n. tt)
send-numbers l false bytes = tt

-- "BadBlock (25) for the form, BadCrc (26), 25 for another count or a label out of turn, NoRoom"
abbrev pub receiver_numbers : List ℕ
receiver_numbers = no_room ∷ bad_block ∷ bad_crc ∷ []

pub receive-numbers : (st : Receiver) (buf b : List ℕ) → Numbered (OneOf receiver_numbers) (receive st buf b).answer
unfolding elem
receive-numbers st buf b = go (receive st buf b) (receive-outcome st buf b)
  where
    one : (n : ℕ) → (n ≡ no_room) ⊎ ((n ≡ bad_block) ⊎ (n ≡ bad_crc)) → OneOf receiver_numbers n
    one n (inl e) = rw e
    one n (inr (inl e)) = rw e
    one n (inr (inr e)) = rw e

    go : (c : ReceiveCall) → Outcome st buf c → Numbered (OneOf receiver_numbers) c.answer
    go c (kept x n e) = rw e (one x.no n)
    go c (once-more e) = rw e tt
    go c (took w n e l) = rw e tt
