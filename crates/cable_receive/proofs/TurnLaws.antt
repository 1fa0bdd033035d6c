-- The rows of the receiver's table as the code comes to them, and what a `return` has to show in each.
use mathlib.Core.Path.{◌≡◌, refl, sym, ap, ap₂, subst}
use mathlib.Core.Bool.{true, false}
use mathlib.Core.List.{List}
use mathlib.Core.Logic.{◌≢◌}
use Prim.Native.Nat.{ℕ}
use borrow.Author.Tests.{eq-eqb, ne_eqb}
use Rattle.meaning.specs.declared.Refusal.{Refusal}
use Rattle.meaning.specs.Refusals.{done, refusal, bad_block, bad_crc}
use Rattle.meaning_cable.specs.declared.Receiver.{Receiver}
use Rattle.meaning_cable.specs.Blocks.{b00}
use Rattle.meaning_cable.specs.Sending.{next_count}
use Rattle.meaning_cable.specs.Receiving.{form_ok, crc_ok, ReceiveCall, is_again, keeping, refusing, put_at, in_turn, turned, receive, bad-form, bad-crc}
use Rattle.meaning_cable.specs.CableCalls.{received_call}
use Rattle.cable_receive.specs.Turns.{block_turn}
use Rattle.meaning_cable.proofs.ReceivingLaws.{takes-receive, faultless}
use Rattle.meaning_cable.specs.CableResults.{Received}
use Rattle.std.specs.Prelude.{Err}

-- ---- what a `return` shows

-- of a call that is equal to another
pub shown : (r : Received) (b : List ℕ) (x y : ReceiveCall) → x ≡ y → (r ≡ received_call y) × (b ≡ y.buffer) → (r ≡ received_call x) × (b ≡ x.buffer)
shown r b x y e h = subst (λ (z : ReceiveCall). (r ≡ received_call z) × (b ≡ z.buffer)) (sym e) h

-- of a refusal at place 0
pub told : (st : Receiver) (buf : List ℕ) (x : ReceiveCall) (n : ℕ) (r : Refusal) → x ≡ refusing st buf n → r ≡ refusal n 0 0
    → (Err r ≡ received_call x) × (buf ≡ x.buffer)
told st buf x n r e h = shown (Err r) buf x (refusing st buf n) e (ap Err h, refl)

-- ---- a block with the next count

module _ (st : Receiver) (buf : List ℕ) (count label : ℕ) (x : List ℕ) where
  pub turn-no-set : st.partial ≡ 0 → label ≢ b00 → in_turn st buf count label x ≡ refusing st buf bad_block
  unfolding in_turn
  turn-no-set p h = rw (eq-eqb st.partial 0 p, ne_eqb label b00 h)

  pub turn-next-set : st.partial ≡ 0 → label ≡ b00 → in_turn st buf count label x ≡ put_at st buf 0 count label x
  unfolding in_turn
  turn-next-set p h = rw (eq-eqb st.partial 0 p, eq-eqb label b00 h) (ap (λ (l : ℕ). put_at st buf 0 count l x) (sym h))

  pub turn-in-set : st.partial ≢ 0 → label ≡ b00 → in_turn st buf count label x ≡ refusing st buf bad_block
  unfolding in_turn
  turn-in-set p h = rw (ne_eqb st.partial 0 p, eq-eqb label b00 h)

  pub turn-goes-on : st.partial ≢ 0 → label ≢ b00 → in_turn st buf count label x ≡ put_at st buf st.used count label x
  unfolding in_turn
  turn-goes-on p h = rw (ne_eqb st.partial 0 p, ne_eqb label b00 h)

-- ---- a block without fault

module _ (st : Receiver) (buf : List ℕ) (count label : ℕ) (x : List ℕ) where
  pub zero-other : count ≡ 0 → label ≢ b00 → turned st buf count label x ≡ refusing st buf bad_block
  unfolding turned
  zero-other z h = rw (eq-eqb count 0 z, ne_eqb label b00 h)

  pub zero-afresh : count ≡ 0 → label ≡ b00 → turned st buf count label x ≡ put_at st buf 0 count label x
  unfolding turned
  zero-afresh z h = rw (eq-eqb count 0 z, eq-eqb label b00 h) (ap₂ (λ (n l : ℕ). put_at st buf 0 n l x) (sym z) (sym h))

  module _ (z : count ≢ 0) where
    pub fresh-other : st.started ≡ 0 → turned st buf count label x ≡ refusing st buf bad_block
    unfolding turned
    fresh-other e = rw (ne_eqb count 0 z, eq-eqb st.started 0 e)

    module _ (s : st.started ≢ 0) where
      pub last-again : count ≡ st.last → turned st buf count label x ≡ keeping st buf (done is_again)
      unfolding turned
      last-again e = rw (ne_eqb count 0 z, ne_eqb st.started 0 s, eq-eqb count st.last e)

      module _ (e : count ≢ st.last) (next : ℕ) (n : next ≡ next_count st.last) where
        pub other-count : count ≢ next → turned st buf count label x ≡ refusing st buf bad_block
        unfolding turned
        other-count h = rw (ne_eqb count 0 z, ne_eqb st.started 0 s, ne_eqb count st.last e, ← n, ne_eqb count next h)

        pub next-turn : count ≡ next → turned st buf count label x ≡ in_turn st buf count label x
        unfolding turned
        next-turn h = rw (ne_eqb count 0 z, ne_eqb st.started 0 s, ne_eqb count st.last e, ← n, eq-eqb count next h)

-- ---- any block

module _ (st : Receiver) (buf b : List ℕ) where
  pub no-form : form_ok b ≡ false → receive st buf b ≡ refusing st buf bad_block
  no-form f = takes-receive (bad-form f)

  pub no-crc : form_ok b ≡ true → crc_ok b ≡ false → receive st buf b ≡ refusing st buf bad_crc
  no-crc f k = takes-receive (bad-crc f k)

  pub has-turn : form_ok b ≡ true → crc_ok b ≡ true → receive st buf b ≡ block_turn st buf b
  unfolding receive
  has-turn f k = rw (faultless b f k)
