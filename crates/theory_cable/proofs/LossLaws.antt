-- A set over a cable that loses and changes blocks and replies: what the sender calls delivered has arrived (`delivered-arrived`), and after at most four exchanges a block it has
-- arrived or was given up (`arrived-or-given-up`).
--
-- While the set is under way the receiver either waits for the block that the link names, or has taken it and the sender doesn't know (`Stands`). Sent again, the block is
-- acknowledged again, or with count 0 taken afresh; both leave the same bytes. A new attempt has count 0, which every receiver takes. Nothing is asked of the receiver's room: a
-- block that does not fit is refused and answered ACK 0 (`no-room` of `Tried`), so it is an error like any other.
use mathlib.Core.Path.{◌≡◌, refl, sym, ap, ◌∙◌, subst}
use mathlib.Core.Bool.{Bool, true, false, cond, true≢false}
use mathlib.Core.List.{List, [], ◌∷◌, ◌++◌}
use mathlib.Core.Logic.{◌⊎◌, inl, inr, ◌≢◌}
use Prim.Native.Nat.{ℕ, suc, ◌+◌, ◌-◌, ◌*◌, ◌≤◌, ◌<◌}
use native.Mathlib.Omega.{arith}
use lib.Dec.{leb, eqb}
use lib.ListN.{length, replicate}
use borrow.Author.Tests.{le-leb, lt-leb, eq-eqb, ne_eqb, leb-true, leb-false, eqb-true, eqb-false}
use Rattle.meaning.specs.Field.{Field}
use Rattle.meaning.specs.declared.Refusal.{Refusal}
use Rattle.meaning.specs.Refusals.{Reply, refused, done, bad_block, bad_crc}
use Rattle.meaning.specs.Pieces.{parsed}
use Rattle.meaning.specs.Reading.{read}
use Rattle.meaning_cable.specs.declared.Link.{Link}
use Rattle.meaning_cable.specs.declared.Action.{Action}
use Rattle.meaning_cable.specs.declared.Turned.{Turned}
use Rattle.meaning_cable.specs.declared.Receiver.{Receiver}
use Rattle.meaning_cable.specs.Stream.{stream}
use Rattle.meaning_cable.specs.Blocks.{b00, b01, b02, block_count, block_data, block_label, block_bytes, block}
use Rattle.meaning_cable.specs.Sending.{under_way, delivered, given_up, next_count, ack1, ack0, is_ack, Follows, taken, last_taken, again, afresh, over, ended, begun, turn_of, send, after, Ended}
use Rattle.meaning_cable.specs.Receiving.{ReceiveCall, is_again, refusing, keeping, took_one, ack_of, put_by, open_by, answer_by, without_room, last-again, receive}
use Rattle.theory_cable.specs.Carrying.{Cable, begins, bytes_or, arrives, Agree, from_zero, goes-on as agree_on, Arrived, Fate, heard, unheard, changed, lost, got_by, hears, exchange_by}
use Rattle.theory_cable.specs.Carrying.{exchanges_by}
use Rattle.meaning_cable.proofs.BlockLaws.{count-least, block_read}
use Rattle.meaning_cable.proofs.SendingLaws.{turn-follows, follows-turn, ends-within}
use Rattle.meaning_cable.proofs.ReceivingLaws.{takes-receive, next-least, faultless}
use Rattle.theory_cable.proofs.DamageLaws.{not_taken}
use Rattle.theory_cable.proofs.ArrivalLaws.{next-most, Opens, at-zero, filled, filled-length, x, n, front, front-on, block-is, can_write, label-most, some-blocks, all-bytes}
use Rattle.theory_cable.proofs.ArrivalLaws.{start_is, first-count-most, opens-first, received-first, first-lacks, received-on, on-lacks}

-- a reply that is no refusal
data Told (r : Reply ℕ) : Type 0 where
  told : (v : ℕ) → r ≡ done v → Told r

is-ack : is_ack ack1 ≡ true
unfolding is_ack
is-ack = refl

told-ack : (r : Reply ℕ) → Told r → is_ack (ack_of r) ≡ true
told-ack r (told v q) = ap (λ (y : Reply ℕ). is_ack (ack_of y)) q ∙ is-ack

no-ack : is_ack ack0 ≡ false
unfolding is_ack
no-ack = refl

refused-ack : (r : Reply ℕ) (x : Refusal) → r ≡ refused x → is_ack (ack_of r) ≡ false
refused-ack r x q = ap (λ (y : Reply ℕ). is_ack (ack_of y)) q ∙ no-ack

module _ (s : List ℕ) (fs : List Field) (e : read s ≡ done (parsed fs [])) (b : List ℕ) where
  abbrev x' : List ℕ
  x' = x s fs e

  abbrev n' : ℕ
  n' = n s fs e

  abbrev front' : ℕ → List ℕ
  front' = front s fs e

  -- the bytes that stand after block i was taken
  unfoldable bytes_to : ℕ → List ℕ
  bytes_to i = cond (leb n' (i + 1)) s (front' (i + 1))

  bytes-before : (i : ℕ) → i + 1 < n' → bytes_to i ≡ front' (i + 1)
  unfolding bytes_to
  bytes-before i h = rw (lt-leb n' (i + 1) h)

  bytes-last : (i : ℕ) → n' ≤ i + 1 → bytes_to i ≡ s
  unfolding bytes_to
  bytes-last i h = rw (le-leb n' (i + 1) h)

  -- the receiver's state and buffer after block i, with count c, was taken: there was room for it
  record Took (i c : ℕ) (g : ReceiveCall) : Type 0 where
    fits : length (bytes_to i) ≤ length b
    state-is : g.state ≡ took_one c (open_by (block_label i n')) (length (bytes_to i))
    buffer-is : g.buffer ≡ filled b (bytes_to i)

  -- block i, with count c, can be taken
  data Ready (i c : ℕ) (g : ReceiveCall) : Type 0 where
    ready-first : i ≡ 0 → Opens g.state c → length g.buffer ≡ length b → Ready i c g
    ready-next : (j d : ℕ) → i ≡ j + 1 → c ≡ next_count d → Took j d g → Ready i c g

  data Stands (i c : ℕ) (g : ReceiveCall) : Type 0 where
    waits : Ready i c g → Stands i c g
    has : Took i c g → (i ≢ 0 → c ≢ 0) → Stands i c g

  took-length : {i c : ℕ} {g : ReceiveCall} → Took i c g → length g.buffer ≡ length b
  took-length {i} t = ap length t.buffer-is ∙ filled-length b (bytes_to i) t.fits

  stands-length : {i c : ℕ} {g : ReceiveCall} → Stands i c g → length g.buffer ≡ length b
  stands-length (waits (ready-first z o l)) = l
  stands-length (waits (ready-next j d p q t)) = took-length t
  stands-length (has t z) = took-length t

  -- ---- the block arrives

  -- the bytes of block i with count c
  abbrev bytes_of : ℕ → ℕ → List ℕ
  bytes_of i c = block_bytes c (block_label i n') (block_data x' i)

  -- What the receiver makes of it, with g before and h after: it was taken, now or before, and is acknowledged; or there is no room for it, and nothing moves.
  data Tried (i c : ℕ) (g h : ReceiveCall) : Type 0 where
    it-took : Took i c h → Told h.answer → Tried i c g h
    no-room : (x : Refusal) → h ≡ keeping g.state g.buffer (refused x) → Tried i c g h

  label-first : block_label 0 n' ≡ b00
  unfolding block_label
  label-first = refl

  label-middle : (i : ℕ) → i ≢ 0 → i + 1 < n' → block_label i n' ≡ b01
  unfolding block_label
  label-middle i z h = rw (ne_eqb i 0 z, lt-leb n' (i + 1) h)

  label-last : (i : ℕ) → i ≢ 0 → n' ≤ i + 1 → block_label i n' ≡ b02
  unfolding block_label
  label-last i z h = rw (ne_eqb i 0 z, le-leb n' (i + 1) h)

  -- the set stays open before the last block
  open-before : (i : ℕ) → i + 1 < n' → open_by (block_label i n') ≡ 1
  unfolding open_by
  open-before i h = go (eqb i 0) refl
    where
      go : (t : Bool) → eqb i 0 ≡ t → open_by (block_label i n') ≡ 1
      go true p = ap (λ (y : ℕ). open_by (block_label y n')) (eqb-true i 0 p) ∙ ap open_by label-first
      go false p = ap open_by (label-middle i (eqb-false i 0 p) h)

  -- the first block, if the receiver takes a B00 with its count
  first-tried : (g : ReceiveCall) (c : ℕ) → c ≤ 9 → Opens g.state c → length g.buffer ≡ length b → Tried 0 c g (receive g.state g.buffer (bytes_of 0 c))
  unfolding open_by block_label
  first-tried g c m o l = go (leb (length (front' 1)) (length g.buffer)) refl
    where
      go : (t : Bool) → leb (length (front' 1)) (length g.buffer) ≡ t → Tried 0 c g (receive g.state g.buffer (bytes_of 0 c))
      go true p =
          let room = leb-true (length (front' 1)) (length g.buffer) p in
          let r = received-first s fs e g.state g.buffer c m o room in
          let t : bytes_to 0 ≡ front' 1 = bytes-before 0 (some-blocks s fs e) in
          it-took (record {
            fits = omega (arith, ap length t);
            state-is = ap (λ (y : ReceiveCall). y.state) r ∙ (λ i. took_one c 1 (length (sym t i)));
            buffer-is = ap (λ (y : ReceiveCall). y.buffer) r ∙ (λ i. sym t i ++ replicate (l i - length (sym t i)) 0);
          }) (told 1 (ap (λ (y : ReceiveCall). y.answer) r))
      go false p = no-room _ (first-lacks s fs e g.state g.buffer c m o (leb-false (length (front' 1)) (length g.buffer) p))

  closes : (i : ℕ) → i ≢ 0 → n' ≤ i + 1 → open_by (block_label i n') ≡ 0
  unfolding open_by
  closes i z h = ap open_by (label-last i z h)

  not_first : (j : ℕ) → j + 1 < n' → block_label (j + 1) n' ≢ b00
  not_first j h o = go (leb n' (j + 1 + 1)) refl
    where
      go : (t : Bool) → leb n' (j + 1 + 1) ≡ t → ⊥
      go true p = let z : ◌≡◌ {A = ℕ} 0 2 = sym o ∙ label-last (j + 1) (λ y. omega arith) (leb-true n' (j + 1 + 1) p) in omega arith
      go false p = let z : ◌≡◌ {A = ℕ} 0 1 = sym o ∙ label-middle (j + 1) (λ y. omega arith) (leb-false n' (j + 1 + 1) p) in omega arith

  puts : (j : ℕ) → j + 1 < n' → front' (j + 1) ++ put_by (block_label (j + 1) n') (block_data x' (j + 1)) ≡ bytes_to (j + 1)
  unfolding put_by
  puts j h = go (leb n' (j + 1 + 1)) refl
    where
      go : (t : Bool) → leb n' (j + 1 + 1) ≡ t → front' (j + 1) ++ put_by (block_label (j + 1) n') (block_data x' (j + 1)) ≡ bytes_to (j + 1)
      go true p =
          let l = leb-true n' (j + 1 + 1) p in
          ap (λ (y : ℕ). front' (j + 1) ++ put_by y (block_data x' (j + 1))) (label-last (j + 1) (λ y. omega arith) l)
          ∙ (all-bytes s fs e j (omega arith) ∙ sym (bytes-last (j + 1) l))
      go false p =
          let l = leb-false n' (j + 1 + 1) p in
          ap (λ (y : ℕ). front' (j + 1) ++ put_by y (block_data x' (j + 1))) (label-middle (j + 1) (λ y. omega arith) l)
          ∙ (front-on s fs e (j + 1) ∙ sym (bytes-before (j + 1) l))

  -- a block after one that was taken
  next-tried : (g : ReceiveCall) (j d : ℕ) → j + 1 < n' → Took j d g → Tried (j + 1) (next_count d) g (receive g.state g.buffer (bytes_of (j + 1) (next_count d)))
  next-tried g j d h t = go (leb (length (bytes_to (j + 1))) (length b)) refl
    where
      same : g.state ≡ took_one d 1 (length (front' (j + 1)))
      same = t.state-is ∙ (λ i. took_one d (open-before j h i) (length (bytes-before j h i)))

      holds : g.buffer ≡ filled b (front' (j + 1))
      holds = t.buffer-is ∙ ap (filled b) (bytes-before j h)

      moved : receive g.state g.buffer (bytes_of (j + 1) (next_count d))
          ≡ receive (took_one d 1 (length (front' (j + 1)))) (filled b (front' (j + 1))) (bytes_of (j + 1) (next_count d))
      moved i = receive (same i) (holds i) (bytes_of (j + 1) (next_count d))

      held : length (front' (j + 1)) ≤ length b
      held = omega (arith, t.fits, ap length (bytes-before j h))

      go : (r : Bool) → leb (length (bytes_to (j + 1))) (length b) ≡ r → Tried (j + 1) (next_count d) g (receive g.state g.buffer (bytes_of (j + 1) (next_count d)))
      go true p =
          let room = leb-true (length (bytes_to (j + 1))) (length b) p in
          let r = moved ∙ received-on s fs e j d h b (block_label (j + 1) n') (bytes_to (j + 1)) (label-most s fs e (j + 1)) (not_first j h) (puts j h) held room in
          it-took (record { fits = room; state-is = ap (λ (y : ReceiveCall). y.state) r; buffer-is = ap (λ (y : ReceiveCall). y.buffer) r })
          (told (answer_by (block_label (j + 1) n')) (ap (λ (y : ReceiveCall). y.answer) r))
      go false p =
          let lack = leb-false (length (bytes_to (j + 1))) (length b) p in
          no-room _ (moved
          ∙ (on-lacks s fs e j d h b (block_label (j + 1) n') (bytes_to (j + 1)) (label-most s fs e (j + 1)) (not_first j h) (puts j h) held lack
          ∙ (λ i. without_room (sym same i) (sym holds i) (length (bytes_to (j + 1))))))

  -- sent again, it is acknowledged again
  again-tried : (g : ReceiveCall) (i c : ℕ) → c ≤ 9 → Took i c g → c ≢ 0 → Tried i c g (receive g.state g.buffer (bytes_of i c))
  again-tried g i c m t z =
      let back = block_read c (block_label i n') (block_data x' i) (can_write s fs e i c (block_label i n') m (label-most s fs e i)) in
      let st : Receiver = took_one c (open_by (block_label i n')) (length (bytes_to i)) in
      let r : receive g.state g.buffer (bytes_of i c) ≡ keeping st (filled b (bytes_to i)) (done is_again) =
      (λ k. receive (t.state-is k) (t.buffer-is k) (bytes_of i c))
      ∙ takes-receive (last-again {st = st} back.faultless (λ o. z (sym back.count-is ∙ o)) ((λ o. omega arith), back.count-is)) in
      it-took (record { fits = t.fits; state-is = ap (λ (y : ReceiveCall). y.state) r; buffer-is = ap (λ (y : ReceiveCall). y.buffer) r })
      (told 2 (ap (λ (y : ReceiveCall). y.answer) r))

  stands-tried : (i c : ℕ) (g : ReceiveCall) → i < n' → c ≤ 9 → Stands i c g → Tried i c g (receive g.state g.buffer (bytes_of i c))
  stands-tried i c g h m (waits (ready-first z o l)) =
      subst (λ (y : ℕ). Tried y c g (receive g.state g.buffer (bytes_of y c))) (sym z) (first-tried g c m o l)
  stands-tried i c g h m (waits (ready-next j d p q t)) =
      subst (λ (y : ℕ). Tried y c g (receive g.state g.buffer (bytes_of y c))) (sym p)
      (subst (λ (y : ℕ). Tried (j + 1) y g (receive g.state g.buffer (bytes_of (j + 1) y))) (sym q) (next-tried g j d (omega arith) t))
  stands-tried i c g h m (has t z) = go (eqb c 0) (eqb i 0) refl refl
    where
      go : (p q : Bool) → eqb c 0 ≡ p → eqb i 0 ≡ q → Tried i c g (receive g.state g.buffer (bytes_of i c))
      go false q u v = again-tried g i c m t (eqb-false c 0 u)
      go true false u v = absurd (z (eqb-false i 0 v) (eqb-true c 0 u))
      go true true u v =
          subst (λ (y : ℕ). Tried y c g (receive g.state g.buffer (bytes_of y c))) (sym (eqb-true i 0 v))
          (first-tried g c m (at-zero (eqb-true c 0 u)) (took-length t))

  -- ---- the link

  record Going (w : Cable) : Type 0 where
    runs : w.link.phase ≡ under_way
    blocks-are : w.link.blocks ≡ n'
    within : w.link.block < n'
    count_fits : w.link.count ≤ 9
    zero-first : w.link.block ≢ 0 → w.link.count ≢ 0
    stands : Stands w.link.block w.link.count w.got

  data Stage (w : Cable) : Type 0 where
    going : Going w → Stage w
    gave-up : w.link.phase ≡ given_up → Stage w
    is-here : Arrived s b w → length s ≤ length b → Stage w

  -- after ACK 1 for a block that was taken
  by-ack : (w : Cable) (g : ReceiveCall) → Going w → Took w.link.block w.link.count g → {r : List ℕ} {t : Link} {a : Action} → is_ack r ≡ true → Follows w.link r t a
      → Stage (record { link = t; got = g })
  by-ack w g k u p (taken q o h) =
      let bl = k.blocks-are in
      going (record {
        runs = refl;
        blocks-are = bl;
        within = omega arith;
        count_fits = next-most w.link.count;
        zero-first = λ z. next-least w.link.count;
        stands = waits (ready-next w.link.block w.link.count refl refl u);
      })
  by-ack w g k u p (last_taken q o h) =
      let bl = k.blocks-are in
      let more = some-blocks s fs e in
      let all : bytes_to w.link.block ≡ s = bytes-last w.link.block (omega arith) in
      let two : open_by (block_label w.link.block n') ≡ 0 = closes w.link.block (λ z. omega arith) (omega arith) in
      let st : g.state ≡ took_one w.link.count 0 (length s) = u.state-is ∙ (λ i. took_one w.link.count (two i) (length (all i))) in
      let begun-once : g.state.started ≢ 0 = λ z. let y : ◌≡◌ {A = ℕ} 1 0 = sym (ap (λ (y : Receiver). y.started) st) ∙ z in omega arith in
      is-here (record {
        was-delivered = refl;
        used-is = ap (λ (y : Receiver). y.used) st;
        buffer-is = u.buffer-is ∙ ap (filled b) all;
        agreed = agree_on refl begun-once (ap (λ (y : Receiver). y.partial) st) (ap (λ (y : Receiver). y.last) st);
      }) (omega (arith, u.fits, ap length all))
  by-ack w g k u p (again q o h) = absurd (true≢false (sym p ∙ o))
  by-ack w g k u p (afresh q o h j) = absurd (true≢false (sym p ∙ o))
  by-ack w g k u p (over q o h j) = absurd (true≢false (sym p ∙ o))
  by-ack w g k u p (ended q) = absurd (q k.runs)

  -- after an error
  by-error : (w : Cable) (g : ReceiveCall) → Going w → Stands w.link.block w.link.count g → {r : List ℕ} {t : Link} {a : Action} → is_ack r ≡ false → Follows w.link r t a
      → Stage (record { link = t; got = g })
  by-error w g k u p (taken q o h) = absurd (true≢false (sym o ∙ p))
  by-error w g k u p (last_taken q o h) = absurd (true≢false (sym o ∙ p))
  by-error w g k u p (again q o h) =
      going (record { runs = refl; blocks-are = k.blocks-are; within = k.within; count_fits = k.count_fits; zero-first = k.zero-first; stands = u })
  by-error w g k u p (afresh q o h j) =
      going (record {
        runs = refl;
        blocks-are = k.blocks-are;
        within = omega (arith, some-blocks s fs e);
        count_fits = omega arith;
        zero-first = λ z. absurd (z refl);
        stands = waits (ready-first refl (at-zero refl) (stands-length u));
      })
  by-error w g k u p (over q o h j) = gave-up refl
  by-error w g k u p (ended q) = absurd (q k.runs)

  -- ---- one exchange

  arrives-tried : (w : Cable) → Going w → Tried w.link.block w.link.count w.got (arrives s w)
  unfolding arrives
  arrives-tried w k =
      let i : ℕ = w.link.block in
      let c : ℕ = w.link.count in
      let is : block s i c ≡ done (bytes_of i c) = block-is s fs e i c k.within k.count_fits in
      subst (λ (y : Reply (List ℕ)). Tried i c w.got (receive w.got.state w.got.buffer (bytes_or y))) (sym is)
      (stands-tried i c w.got k.within k.count_fits k.stands)

  -- a refusal leaves state and buffer as they were
  took-kept : (i c : ℕ) (g h : ReceiveCall) → h.state ≡ g.state → h.buffer ≡ g.buffer → Took i c g → Took i c h
  took-kept i c g h p q t = record { fits = t.fits; state-is = p ∙ t.state-is; buffer-is = q ∙ t.buffer-is }

  stands-kept : (i c : ℕ) (g h : ReceiveCall) → h.state ≡ g.state → h.buffer ≡ g.buffer → Stands i c g → Stands i c h
  stands-kept i c g h p q (waits (ready-first z o l)) = waits (ready-first z (subst (λ (y : Receiver). Opens y c) (sym p) o) (ap length q ∙ l))
  stands-kept i c g h p q (waits (ready-next j d u v t)) = waits (ready-next j d u v (took-kept j d g h p q t))
  stands-kept i c g h p q (has t z) = has (took-kept i c g h p q t) z

  tried-stands : (i c : ℕ) (g h : ReceiveCall) → (i ≢ 0 → c ≢ 0) → Stands i c g → Tried i c g h → Stands i c h
  tried-stands i c g h z st (it-took t a) = has t z
  tried-stands i c g h z st (no-room x q) = stands-kept i c g h (ap (λ (y : ReceiveCall). y.state) q) (ap (λ (y : ReceiveCall). y.buffer) q) st

  refused-stands : (w : Cable) → Going w → (bs : List ℕ)
      → (receive w.got.state w.got.buffer bs ≡ refusing w.got.state w.got.buffer bad_block)
      ⊎ (receive w.got.state w.got.buffer bs ≡ refusing w.got.state w.got.buffer bad_crc)
      → Stands w.link.block w.link.count (receive w.got.state w.got.buffer bs)
  refused-stands w k bs (inl q) =
      stands-kept w.link.block w.link.count w.got _ (ap (λ (y : ReceiveCall). y.state) q) (ap (λ (y : ReceiveCall). y.buffer) q) k.stands
  refused-stands w k bs (inr q) =
      stands-kept w.link.block w.link.count w.got _ (ap (λ (y : ReceiveCall). y.state) q) (ap (λ (y : ReceiveCall). y.buffer) q) k.stands

  -- the block arrives, and its reply is heard: ACK 1 for a block that was taken, ACK 0 if there was no room
  by-heard : (w : Cable) → Going w → Tried w.link.block w.link.count w.got (arrives s w)
      → Stage (record { link = (turn_of w.link (ack_of (arrives s w).answer)).link; got = arrives s w })
  by-heard w k (it-took t a) = by-ack w (arrives s w) k t (told-ack (arrives s w).answer a) (turn-follows w.link (ack_of (arrives s w).answer))
  by-heard w k (no-room x q) =
      by-error w (arrives s w) k (tried-stands w.link.block w.link.count w.got (arrives s w) k.zero-first k.stands (no-room x q))
      (refused-ack (arrives s w).answer x (ap (λ (y : ReceiveCall). y.answer) q)) (turn-follows w.link (ack_of (arrives s w).answer))

  -- what the sender hears, and what the receiver then holds: ACK 1 is heard only for a block that was taken
  by-fate : (f : Fate) (w : Cable) → Going w → Stage (record { link = (turn_of w.link (hears s f w)).link; got = got_by s f w })
  unfolding hears got_by
  by-fate heard w k = by-heard w k (arrives-tried w k)
  by-fate (unheard r p) w k =
      by-error w (arrives s w) k (tried-stands w.link.block w.link.count w.got (arrives s w) k.zero-first k.stands (arrives-tried w k)) p (turn-follows w.link r)
  by-fate (changed bs r f p) w k =
      let st : Receiver = w.got.state in
      let buf : List ℕ = w.got.buffer in
      by-error w (receive st buf bs) k (refused-stands w k bs (not_taken st buf bs (λ u v. f (faultless bs u v)))) p (turn-follows w.link r)
  by-fate (lost r p) w k = by-error w w.got k k.stands p (turn-follows w.link r)

  -- ---- all exchanges

  -- nothing is sent after the end
  stays : (f : Fate) (w : Cable) → w.link.phase ≢ under_way → exchange_by s f w ≡ w
  unfolding exchange_by
  stays f w h = rw (ne_eqb w.link.phase under_way h)

  one-stage : (f : Fate) (w : Cable) → Stage w → Stage (exchange_by s f w)
  unfolding exchange_by
  one-stage f w (going k) = rw (eq-eqb w.link.phase under_way k.runs) (by-fate f w k)
  one-stage f w (gave-up p) = subst Stage (sym (stays f w (λ q. omega arith))) (gave-up p)
  one-stage f w (is-here a h) = subst Stage (sym (stays f w (λ q. let z = a.was-delivered in omega arith))) (is-here a h)

  all-stages : (φ : List Fate) (w : Cable) → Stage w → Stage (exchanges_by s φ w)
  unfolding exchanges_by
  all-stages [] w k = k
  all-stages (f ∷ φ) w k = all-stages φ (exchange_by s f w) (one-stage f w k)

-- ---- the link alone

-- the link after one exchange is the link after what was heard
link-after : (s : List ℕ) (f : Fate) (w : Cable) → (exchange_by s f w).link ≡ (turn_of w.link (hears s f w)).link
unfolding exchange_by
link-after s f w = go (eqb w.link.phase under_way) refl
  where
    go : (t : Bool) → eqb w.link.phase under_way ≡ t
        → (cond (eqb w.link.phase under_way) (record { link = (turn_of w.link (hears s f w)).link; got = got_by s f w }) w).link ≡ (turn_of w.link (hears s f w)).link
    go true p = rw p
    go false p = rw p (sym (ap (λ (y : Turned). y.link) (follows-turn (ended {s = w.link} {r = hears s f w} (eqb-false w.link.phase under_way p)))))

-- all that was heard
unfoldable heard_all : List ℕ → List Fate → Cable → List (List ℕ)
heard_all s [] w = []
heard_all s (f ∷ φ) w = hears s f w ∷ heard_all s φ (exchange_by s f w)

heard-length : (s : List ℕ) (φ : List Fate) (w : Cable) → length (heard_all s φ w) ≡ length φ
unfolding heard_all
heard-length s [] w = refl
heard-length s (f ∷ φ) w = ap suc (heard-length s φ (exchange_by s f w))

links-after : (s : List ℕ) (φ : List Fate) (w : Cable) → (exchanges_by s φ w).link ≡ after w.link (heard_all s φ w)
unfolding exchanges_by heard_all after send
links-after s [] w = refl
links-after s (f ∷ φ) w = links-after s φ (exchange_by s f w) ∙ ap (λ (l : Link). after l (heard_all s φ (exchange_by s f w))) (link-after s f w)

-- ---- from the start

module _ (s : List ℕ) (fs : List Field) (e : read s ≡ done (parsed fs [])) (w : Cable) (agree : Agree w.link w.got.state) where
  starts : Stage s fs e w.got.buffer (begins s w)
  starts =
      subst (Stage s fs e w.got.buffer) (sym (start_is s fs e w))
      (going (record {
        runs = refl;
        blocks-are = refl;
        within = omega (arith, some-blocks s fs e);
        count_fits = first-count-most w.link;
        zero-first = λ z. absurd (z refl);
        stands = waits (ready-first refl (opens-first w.link w.got.state agree) refl);
      }))

  stage : (φ : List Fate) → Stage s fs e w.got.buffer (exchanges_by s φ (begins s w))
  stage φ = all-stages s fs e w.got.buffer φ (begins s w) starts

  -- Whatever is lost or changed on the way, as long as the receiver sees each change and no reply turns into ACK 1: if the sender says that the set is delivered, the receiver has it.
  -- It had room for it, else the last block is never acknowledged.
  pub delivered-arrived : (φ : List Fate) → (exchanges_by s φ (begins s w)).link.phase ≡ delivered → Arrived s w.got.buffer (exchanges_by s φ (begins s w))
  delivered-arrived φ h = go (stage φ)
    where
      go : Stage s fs e w.got.buffer (exchanges_by s φ (begins s w)) → Arrived s w.got.buffer (exchanges_by s φ (begins s w))
      go (going k) = let z = k.runs in absurd (omega arith)
      go (gave-up p) = absurd (omega arith)
      go (is-here a h) = a

  -- so there was room for it
  pub delivered-room : (φ : List Fate) → (exchanges_by s φ (begins s w)).link.phase ≡ delivered → length s ≤ length w.got.buffer
  delivered-room φ h = go (stage φ)
    where
      go : Stage s fs e w.got.buffer (exchanges_by s φ (begins s w)) → length s ≤ length w.got.buffer
      go (going k) = let z = k.runs in absurd (omega arith)
      go (gave-up p) = absurd (omega arith)
      go (is-here a r) = r

  -- the sender has come to an end after four exchanges a block
  ended_by : (φ : List Fate) → 4 * block_count (stream fs) ≤ length φ → Ended (exchanges_by s φ (begins s w)).link
  unfolding begun n
  ended_by φ h =
      let start : (begins s w).link ≡ (begun w.link (block_count (stream fs))).link = ap (λ (y : Cable). y.link) (start_is s fs e w) in
      let rs : List (List ℕ) = heard_all s φ (begins s w) in
      subst Ended (sym (links-after s φ (begins s w) ∙ ap (λ (l : Link). after l rs) start))
      (ends-within w.link (block_count (stream fs)) (omega (arith, count-least (stream fs))) rs (omega (arith, heard-length s φ (begins s w))))

  -- After four exchanges a block, at most, the set has arrived or the sender has given up.
  pub arrived-or-given-up : (φ : List Fate) → 4 * block_count (stream fs) ≤ length φ
      → Arrived s w.got.buffer (exchanges_by s φ (begins s w)) ⊎ ((exchanges_by s φ (begins s w)).link.phase ≡ given_up)
  arrived-or-given-up φ h = go (ended_by φ h)
    where
      go : Ended (exchanges_by s φ (begins s w)).link → Arrived s w.got.buffer (exchanges_by s φ (begins s w)) ⊎ ((exchanges_by s φ (begins s w)).link.phase ≡ given_up)
      go (inl p) = inl (delivered-arrived φ p)
      go (inr p) = inr p

  -- At the end both can go on with another set, delivered or given up.
  pub agree-again : (φ : List Fate) → Ended (exchanges_by s φ (begins s w)).link → Agree (exchanges_by s φ (begins s w)).link (exchanges_by s φ (begins s w)).got.state
  agree-again φ (inl p) = (delivered-arrived φ p).agreed
  agree-again φ (inr p) = let other : (exchanges_by s φ (begins s w)).link.phase ≢ delivered = λ q. omega arith in from_zero other
