-- The receiver: each call follows the rule table (`receive-follows`), and two that follow it are equal (`takes_one`).
use mathlib.Core.Path.{◌≡◌, refl, sym, ap, ◌∙◌, subst}
use mathlib.Core.Bool.{Bool, true, false, cond, not, ◌&&◌, true≢false}
use mathlib.Core.List.{List, [], ◌++◌}
use mathlib.Core.Logic.{◌⊎◌, inl, inr, ◌≢◌}
use Prim.Native.Nat.{ℕ, zero, suc, ◌+◌, ◌-◌, ◌≤◌, min}
use native.Mathlib.Omega.{arith}
use lib.Dec.{eqb, leb}
use lib.ListN.{length, take, get_or, replicate, length-append, length-take, length-replicate}
use borrow.Author.Tests.{eq-eqb, ne_eqb, eqb-true, eqb-false, leb-true, leb-false, le-leb, lt-leb}
use Rattle.meaning.specs.Refusals.{at_line, ask, Reply, refused, done, refusal, no_room, bad_block, bad_crc}
use Rattle.meaning.specs.declared.Refusal.{Refusal}
use Rattle.meaning.specs.Digits.{digit}
use Rattle.meaning_cable.specs.Stream.{all_data}
use Rattle.meaning.proofs.Bools.{and_left, and_right, and_both, not-true}
use Rattle.meaning.proofs.FaultLaws.{ask-none, ask-last, refused-done, done-same}
use Rattle.meaning_cable.specs.declared.Receiver.{Receiver}
use Rattle.meaning_cable.specs.Blocks.{b00, b02}
use Rattle.meaning_cable.specs.Sending.{next_count, ack_bytes}
use Rattle.meaning_cable.specs.CableCalls.{outcome_number, outcome_of, received, received_call, kept_by, ack_by}
use Rattle.meaning_cable.specs.Receiving.{count_of, label_of, data_of, length_ok, head_ok, end_ok, form_ok, crc_ok, block_faults, ReceiveCall, is_taken, is_again, is_whole, ack_number, ack_of}
use Rattle.meaning_cable.specs.Receiving.{keeping, refusing, max_place, written, answer_by, taking, without_room, IsNext, TakenAt, afresh, goes-on, ends, next-set, put_of, used_to, Takes, bad-form}
use Rattle.meaning_cable.specs.Receiving.{bad-crc, zero-other, last-again, label-in-set, label-no-set, other-count, fitted, no-room, is_last, is_next, put_at, in_turn, turned, by_faults, receive}

-- ---- the tests say what the rows ask

both_false : (a b : Bool) → a && b ≡ false → (a ≡ true → b ≡ true → ⊥)
both_false true b e p q = true≢false (sym q ∙ e)
both_false false b e p q = true≢false (sym p)

not-zero : (n : ℕ) → not (eqb n 0) ≡ true → n ≢ 0
not-zero n e = eqb-false n 0 (not-true (eqb n 0) e)

zero-not : (n : ℕ) → n ≢ 0 → not (eqb n 0) ≡ true
zero-not n h = rw (ne_eqb n 0 h)

-- started, and the count is m
started-at : (st : Receiver) (c m : ℕ) → not (eqb st.started 0) && eqb c m ≡ true → (st.started ≢ 0) × (c ≡ m)
started-at st c m e =
    (not-zero st.started (and_left (not (eqb st.started 0)) (eqb c m) e), eqb-true c m (and_right (not (eqb st.started 0)) (eqb c m) e))

at-started : (st : Receiver) (c m : ℕ) → (st.started ≢ 0) × (c ≡ m) → not (eqb st.started 0) && eqb c m ≡ true
at-started st c m h = and_both (zero-not st.started h.0) (eq-eqb c m h.1)

not-started-at : (st : Receiver) (c m : ℕ) → not (eqb st.started 0) && eqb c m ≡ false → (st.started ≢ 0) × (c ≡ m) → ⊥
not-started-at st c m e h = true≢false (sym (at-started st c m h) ∙ e)

at-not-started : (st : Receiver) (c m : ℕ) → ((st.started ≢ 0) × (c ≡ m) → ⊥) → not (eqb st.started 0) && eqb c m ≡ false
at-not-started st c m h = go (not (eqb st.started 0) && eqb c m) refl
  where
    go : (t : Bool) → not (eqb st.started 0) && eqb c m ≡ t → t ≡ false
    go true e = absurd (h (started-at st c m e))
    go false e = refl

-- the next count is never the last one
pub next-other : (c : ℕ) → next_count c ≢ c
unfolding next_count
next-other c e = go (leb 9 c) refl e
  where
    go : (t : Bool) → leb 9 c ≡ t → cond t 1 (c + 1) ≡ c → ⊥
    go true p q = let z : leb 9 1 ≡ true = ap (leb 9) q ∙ p in true≢false (sym z)
    go false p q = omega arith

pub next-least : (c : ℕ) → next_count c ≢ 0
unfolding next_count
next-least c e = go (leb 9 c) e
  where
    go : (t : Bool) → cond t 1 (c + 1) ≡ 0 → ⊥
    go true q = omega arith
    go false q = omega arith

-- of three labels
middle : (l : ℕ) → l ≤ 2 → l ≢ 0 → l ≢ 2 → l ≡ 1
middle zero h p q = absurd (p refl)
middle (suc zero) h p q = refl
middle (suc (suc zero)) h p q = absurd (q refl)
middle (suc (suc (suc l))) h p q = absurd (omega arith)

-- ---- a block without fault

pub faultless : (b : List ℕ) → form_ok b ≡ true → crc_ok b ≡ true → block_faults b ≡ []
unfolding block_faults
faultless b f c = rw (f, c)

pub faultless-form : (b : List ℕ) → block_faults b ≡ [] → (form_ok b ≡ true) × (crc_ok b ≡ true)
unfolding block_faults
faultless-form b e =
    let p = ask-none (form_ok b) (at_line bad_block 0 0) (ask (crc_ok b) (at_line bad_crc 0 0)) e in
    (p.0, ask-last (crc_ok b) (at_line bad_crc 0 0) p.1)

-- the label of a block of good form is one of the three
pub label-three : (b : List ℕ) → form_ok b ≡ true → label_of b ≤ b02
unfolding form_ok
label-three b e =
    let h : head_ok b ≡ true = and_left (head_ok b) (all_data (data_of b) && end_ok b) (and_right (length_ok b) (head_ok b && (all_data (data_of b) && end_ok b)) e) in
    let least : Bool = leb 48 (get_or b 3 0) in
    let most : Bool = leb (get_or b 3 0) 50 in
    let zero-then : Bool = eqb (get_or b 2 0) 48 && (least && most) in
    let letter-then : Bool = eqb (get_or b 1 0) 66 && zero-then in
    let p : letter-then ≡ true = and_right (digit (get_or b 0 0)) letter-then h in
    let q : zero-then ≡ true = and_right (eqb (get_or b 1 0) 66) zero-then p in
    let l : least && most ≡ true = and_right (eqb (get_or b 2 0) 48) (least && most) q in
    let m = leb-true (get_or b 3 0) 50 (and_right least most l) in
    omega arith

-- ---- the function follows the table

module _ (st : Receiver) (buf b : List ℕ) where
  -- a block in turn: there is room, or there isn't
  put-follows : (at : ℕ) → block_faults b ≡ [] → TakenAt st b at → Takes st buf b (put_at st buf at (count_of b) (label_of b) (data_of b))
  unfolding put_at
  put-follows at f t = go (leb (used_to at b) (length buf)) refl
    where
      go : (v : Bool) → leb (used_to at b) (length buf) ≡ v
          → Takes st buf b (cond v (taking buf at (count_of b) (label_of b) (put_of b)) (without_room st buf (used_to at b)))
      go true e = fitted f t (leb-true (used_to at b) (length buf) e)
      go false e = no-room f t (leb-false (used_to at b) (length buf) e)

  -- B01 or B02 of an open set
  by-label : block_faults b ≡ [] → count_of b ≢ 0 → IsNext st (count_of b) → st.partial ≢ 0 → label_of b ≢ b00 → TakenAt st b st.used
  by-label f z n p h = go (eqb (label_of b) b02) refl
    where
      go : (t : Bool) → eqb (label_of b) b02 ≡ t → TakenAt st b st.used
      go true v = ends z n p (eqb-true (label_of b) b02 v)
      go false v = goes-on z n p (middle (label_of b) (label-three b (faultless-form b f).0) h (eqb-false (label_of b) b02 v))

  -- B00 is put at the front; the function has this label and count 0 as numbers
  first-follows : (count : ℕ) → block_faults b ≡ [] → TakenAt st b 0 → count_of b ≡ count → label_of b ≡ b00 → Takes st buf b (put_at st buf 0 count b00 (data_of b))
  first-follows count f t z h = subst (Takes st buf b) (λ i. put_at st buf 0 (z i) (h i) (data_of b)) (put-follows 0 f t)

  turn-follows : block_faults b ≡ [] → count_of b ≢ 0 → IsNext st (count_of b) → Takes st buf b (in_turn st buf (count_of b) (label_of b) (data_of b))
  unfolding in_turn
  turn-follows f z n = go (eqb st.partial 0) (eqb (label_of b) b00) refl refl
    where
      go : (p q : Bool) → eqb st.partial 0 ≡ p → eqb (label_of b) b00 ≡ q
          → Takes st buf b (cond p (cond q (put_at st buf 0 (count_of b) b00 (data_of b)) (refusing st buf bad_block))
          (cond q (refusing st buf bad_block) (put_at st buf st.used (count_of b) (label_of b) (data_of b))))
      go true true u v = let h = eqb-true (label_of b) b00 v in first-follows (count_of b) f (next-set z n (eqb-true st.partial 0 u) h) refl h
      go true false u v = label-no-set f z n (eqb-true st.partial 0 u) (eqb-false (label_of b) b00 v)
      go false true u v = label-in-set f z n (eqb-false st.partial 0 u) (eqb-true (label_of b) b00 v)
      go false false u v = put-follows st.used f (by-label f z n (eqb-false st.partial 0 u) (eqb-false (label_of b) b00 v))

  count-follows : block_faults b ≡ [] → count_of b ≢ 0
      → Takes st buf b (cond (is_last st (count_of b)) (keeping st buf (done is_again))
      (cond (is_next st (count_of b)) (in_turn st buf (count_of b) (label_of b) (data_of b)) (refusing st buf bad_block)))
  count-follows f z = go (is_last st (count_of b)) (is_next st (count_of b)) refl refl
    where
      go : (p q : Bool) → is_last st (count_of b) ≡ p → is_next st (count_of b) ≡ q
          → Takes st buf b (cond p (keeping st buf (done is_again)) (cond q (in_turn st buf (count_of b) (label_of b) (data_of b)) (refusing st buf bad_block)))
      go true q u v = last-again f z (started-at st (count_of b) st.last u)
      go false true u v = turn-follows f z (started-at st (count_of b) (next_count st.last) v)
      go false false u v = other-count f z (not-started-at st (count_of b) st.last u) (not-started-at st (count_of b) (next_count st.last) v)

  turned-follows : block_faults b ≡ [] → Takes st buf b (turned st buf (count_of b) (label_of b) (data_of b))
  unfolding turned
  turned-follows f = go (eqb (count_of b) 0) (eqb (label_of b) b00) refl refl
    where
      go : (p q : Bool) → eqb (count_of b) 0 ≡ p → eqb (label_of b) b00 ≡ q
          → Takes st buf b (cond p (cond q (put_at st buf 0 0 b00 (data_of b)) (refusing st buf bad_block))
          (cond (is_last st (count_of b)) (keeping st buf (done is_again))
          (cond (is_next st (count_of b)) (in_turn st buf (count_of b) (label_of b) (data_of b)) (refusing st buf bad_block))))
      go true true u v = let z = eqb-true (count_of b) 0 u in let h = eqb-true (label_of b) b00 v in first-follows 0 f (afresh z h) z h
      go true false u v = zero-other f (eqb-true (count_of b) 0 u) (eqb-false (label_of b) b00 v)
      go false q u v = count-follows f (eqb-false (count_of b) 0 u)

  -- each call follows the rule table
  pub receive-follows : Takes st buf b (receive st buf b)
  unfolding receive block_faults
  receive-follows = go (form_ok b) (crc_ok b) refl refl
    where
      go : (p q : Bool) → form_ok b ≡ p → crc_ok b ≡ q
          → Takes st buf b (by_faults st buf (ask p (at_line bad_block 0 0) ++ ask q (at_line bad_crc 0 0)) (turned st buf (count_of b) (label_of b) (data_of b)))
      go false q f k = bad-form f
      go true false f k = bad-crc f k
      go true true f k = turned-follows (faultless b f k)

  faultless-turned : block_faults b ≡ [] → receive st buf b ≡ turned st buf (count_of b) (label_of b) (data_of b)
  unfolding receive
  faultless-turned f = rw f

  -- a block with the next count comes to its turn
  after_last : count_of b ≢ 0 → IsNext st (count_of b)
      → turned st buf (count_of b) (label_of b) (data_of b) ≡ in_turn st buf (count_of b) (label_of b) (data_of b)
  unfolding turned
  after_last z n =
      let other : is_last st (count_of b) ≡ false = at-not-started st (count_of b) st.last (λ h. next-other st.last (sym n.1 ∙ h.1)) in
      rw (ne_eqb (count_of b) 0 z, other, at-started st (count_of b) (next_count st.last) n)

  -- B01 or B02 of an open set
  pub next-label : block_faults b ≡ [] → count_of b ≢ 0 → IsNext st (count_of b) → st.partial ≢ 0 → label_of b ≢ b00
      → receive st buf b ≡ put_at st buf st.used (count_of b) (label_of b) (data_of b)
  unfolding in_turn
  next-label f z n p h = faultless-turned f ∙ (after_last z n ∙ rw (ne_eqb st.partial 0 p, ne_eqb (label_of b) b00 h))

  -- a block in turn is put in
  pub taken-put : (at : ℕ) → block_faults b ≡ [] → TakenAt st b at → receive st buf b ≡ put_at st buf at (count_of b) (label_of b) (data_of b)
  unfolding turned in_turn
  taken-put at f (afresh z h) =
      let e : turned st buf (count_of b) (label_of b) (data_of b) ≡ put_at st buf 0 0 b00 (data_of b) = rw (eq-eqb (count_of b) 0 z, eq-eqb (label_of b) b00 h) in
      faultless-turned f ∙ (e ∙ (λ i. put_at st buf 0 (sym z i) (sym h i) (data_of b)))
  taken-put at f (goes-on z n p h) = next-label f z n p (λ o. let y : ◌≡◌ {A = ℕ} 1 0 = sym h ∙ o in omega arith)
  taken-put at f (ends z n p h) = next-label f z n p (λ o. let y : ◌≡◌ {A = ℕ} 2 0 = sym h ∙ o in omega arith)
  taken-put at f (next-set z n p h) =
      let e : in_turn st buf (count_of b) (label_of b) (data_of b) ≡ put_at st buf 0 (count_of b) b00 (data_of b) = rw (eq-eqb st.partial 0 p, eq-eqb (label_of b) b00 h) in
      faultless-turned f ∙ (after_last z n ∙ (e ∙ (λ i. put_at st buf 0 (count_of b) (sym h i) (data_of b))))

-- ---- what follows the table is what the function gives

pub takes-receive : {st : Receiver} {buf b : List ℕ} {r : ReceiveCall} → Takes st buf b r → receive st buf b ≡ r
unfolding put_at turned in_turn receive block_faults
takes-receive {st} {buf} {b} (bad-form f) = rw f
takes-receive {st} {buf} {b} (bad-crc f k) = rw (f, k)
takes-receive {st} {buf} {b} (zero-other f z h) = faultless-turned st buf b f ∙ rw (eq-eqb (count_of b) 0 z, ne_eqb (label_of b) b00 h)
takes-receive {st} {buf} {b} (last-again f z h) = faultless-turned st buf b f ∙ rw (ne_eqb (count_of b) 0 z, at-started st (count_of b) st.last h)
takes-receive {st} {buf} {b} (label-in-set f z n p h) =
    faultless-turned st buf b f ∙ (after_last st buf b z n ∙ rw (ne_eqb st.partial 0 p, eq-eqb (label_of b) b00 h))
takes-receive {st} {buf} {b} (label-no-set f z n p h) =
    faultless-turned st buf b f ∙ (after_last st buf b z n ∙ rw (eq-eqb st.partial 0 p, ne_eqb (label_of b) b00 h))
takes-receive {st} {buf} {b} (other-count f z h n) =
    faultless-turned st buf b f ∙ rw (ne_eqb (count_of b) 0 z, at-not-started st (count_of b) st.last h, at-not-started st (count_of b) (next_count st.last) n)
takes-receive {st} {buf} {b} (fitted {at = at} f t l) = taken-put st buf b at f t ∙ rw (le-leb (used_to at b) (length buf) l)
takes-receive {st} {buf} {b} (no-room {at = at} f t l) = taken-put st buf b at f t ∙ rw (lt-leb (used_to at b) (length buf) l)

-- two answers that follow the table are equal
pub takes_one : {st : Receiver} {buf b : List ℕ} {r t : ReceiveCall} → Takes st buf b r → Takes st buf b t → r ≡ t
takes_one f g = sym (takes-receive f) ∙ takes-receive g

-- ---- what a refusal leaves, and which numbers there are

-- What a call does: it refuses, by 22, 25 or 26, and leaves state and buffer as they were; or it acknowledges again, and leaves them too; or it takes the block, and the buffer is as long as it was.
pub data Outcome (st : Receiver) (buf : List ℕ) (r : ReceiveCall) : Type 0 where
  kept : (x : Refusal) → (x.no ≡ no_room) ⊎ ((x.no ≡ bad_block) ⊎ (x.no ≡ bad_crc)) → r ≡ keeping st buf (refused x) → Outcome st buf r
  once-more : r ≡ keeping st buf (done is_again) → Outcome st buf r
  took : (w : ℕ) → (w ≡ is_taken) ⊎ (w ≡ is_whole) → r.answer ≡ done w → length r.buffer ≡ length buf → Outcome st buf r

answer-either : (label : ℕ) → (answer_by label ≡ is_taken) ⊎ (answer_by label ≡ is_whole)
unfolding answer_by
answer-either label = go (eqb label b02)
  where
    go : (t : Bool) → (cond t is_whole is_taken ≡ is_taken) ⊎ (cond t is_whole is_taken ≡ is_whole)
    go true = inr refl
    go false = inl refl

-- the bytes that are put in take the place of others
written-length : (buf : List ℕ) (at : ℕ) (new : List ℕ) → at + length new ≤ length buf → length (written buf at new) ≡ length buf
written-length buf at new h =
    length-append (take at buf) (new ++ replicate (length buf - (at + length new)) 0)
    ∙ omega (arith, length-take at buf, length-append new (replicate (length buf - (at + length new)) 0), length-replicate {A = ℕ} (length buf - (at + length new)) 0)

takes-outcome : {st : Receiver} {buf b : List ℕ} {r : ReceiveCall} → Takes st buf b r → Outcome st buf r
takes-outcome (bad-form f) = kept (refusal bad_block 0 0) (inr (inl refl)) refl
takes-outcome (bad-crc f k) = kept (refusal bad_crc 0 0) (inr (inr refl)) refl
takes-outcome (zero-other f z h) = kept (refusal bad_block 0 0) (inr (inl refl)) refl
takes-outcome (last-again f z h) = once-more refl
takes-outcome (label-in-set f z n p h) = kept (refusal bad_block 0 0) (inr (inl refl)) refl
takes-outcome (label-no-set f z n p h) = kept (refusal bad_block 0 0) (inr (inl refl)) refl
takes-outcome (other-count f z h n) = kept (refusal bad_block 0 0) (inr (inl refl)) refl
takes-outcome {st} {buf} {b} (fitted {at = at} f t l) = took (answer_by (label_of b)) (answer-either (label_of b)) refl (written-length buf at (put_of b) l)
takes-outcome {st} {buf} {b} (no-room {at = at} f t l) = kept (refusal no_room (min (used_to at b) max_place) 0) (inl refl) refl

pub receive-outcome : (st : Receiver) (buf b : List ℕ) → Outcome st buf (receive st buf b)
receive-outcome st buf b = takes-outcome (receive-follows st buf b)

-- the state after a call is told by its answer
pub kept-by : (st : Receiver) (buf b : List ℕ) → kept_by st (received_call (receive st buf b)) ≡ (receive st buf b).state
kept-by st buf b = go (receive st buf b) (receive-outcome st buf b)
  where
    go : (r : ReceiveCall) → Outcome st buf r → kept_by st (received_call r) ≡ r.state
    go r (kept x n e) = rw e
    go r (once-more e) = rw e
    go r (took w n e l) = rw e

-- what became of a block says the number of the call's answer, and no other
pub outcome-told : (st : Receiver) (buf b : List ℕ) (w : ℕ) → (receive st buf b).answer ≡ done w → outcome_number (outcome_of w) ≡ w
outcome-told st buf b w e = go (receive st buf b) (receive-outcome st buf b) e
  where
    go : (r : ReceiveCall) → Outcome st buf r → r.answer ≡ done w → outcome_number (outcome_of w) ≡ w
    go r (kept x n q) a = refused-done (sym (ap (λ (c : ReceiveCall). c.answer) q) ∙ a)
    go r (once-more q) a = let y : is_again ≡ w = done-same (sym (ap (λ (c : ReceiveCall). c.answer) q) ∙ a) in subst (λ (n : ℕ). outcome_number (outcome_of n) ≡ n) y refl
    go r (took v (inl h) q l) a = subst (λ (n : ℕ). outcome_number (outcome_of n) ≡ n) (sym h ∙ done-same (sym q ∙ a)) refl
    go r (took v (inr h) q l) a = subst (λ (n : ℕ). outcome_number (outcome_of n) ≡ n) (sym h ∙ done-same (sym q ∙ a)) refl

-- ---- the reply

-- the reply that the call's answer asks for is the one that is to be sent
pub ack-told : (c : ReceiveCall) → ack_bytes (ack_by (received_call c)) ≡ ack_of c.answer
ack-told c = go c.answer
  where
    go : (r : Reply ℕ) → ack_bytes (ack_by (received r c.state)) ≡ ack_bytes (ack_number r)
    go (refused r) = refl
    go (done w) = refl
