-- One block and the receiver: what it leaves when a block of a set comes in its turn, and what the blocks of a set put in the buffer.
use mathlib.Core.Path.{◌≡◌, refl, sym, ap, ◌∙◌, subst}
use mathlib.Core.Bool.{Bool, true, false, cond}
use mathlib.Core.List.{List, [], ◌∷◌, ◌++◌, append_assoc, cons≢nil}
use mathlib.Core.Logic.{◌≢◌}
use Prim.Native.Nat.{ℕ, zero, suc, ◌+◌, ◌-◌, ◌≤◌, ◌<◌}
use native.Mathlib.Omega.{arith}
use lib.Dec.{leb, eqb}
use lib.ListN.{length, take, drop, replicate, length-append, length-replicate, take-append-drop}
use lib.Seq.{take_at, take_all}
use borrow.Author.Tests.{le-leb, lt-leb, eq-eqb, ne_eqb, leb-false}
use Rattle.meaning.specs.Field.{Field}
use Rattle.meaning.specs.Refusals.{done}
use Rattle.meaning.specs.Pieces.{parsed}
use Rattle.meaning.specs.Lines.{cr, lf, render}
use Rattle.meaning.specs.Rules.{start_faults}
use Rattle.meaning.specs.Reading.{read}
use Rattle.meaning.proofs.Bools.{Every}
use Rattle.meaning.proofs.LineLaws.{Sound}
use Rattle.meaning.proofs.RuleLaws.{ruled, begins-of}
use Rattle.meaning.proofs.SetLaws.{Standing, accepted}
use Rattle.meaning_cable.specs.declared.Link.{Link}
use Rattle.meaning_cable.specs.declared.Receiver.{Receiver}
use Rattle.meaning_cable.specs.Stream.{separator, bare_then, stream, restored}
use Rattle.meaning_cable.specs.Blocks.{b00, b01, b02, block_count, cut_at, block_data, block_label, block_bytes, block_of, set_alone, blocks_of, block}
use Rattle.meaning_cable.specs.Sending.{delivered, next_count, opened, first_count, begun, send}
use Rattle.meaning_cable.specs.Receiving.{is_taken, took_one, written, put_by, open_by, answer_by, taking, without_room, IsNext, afresh, next-set, put_at, receive}
use Rattle.theory_cable.specs.Carrying.{Cable, begins, Agree, from_zero, goes-on as agree_on, count_at}
use Rattle.meaning_cable.proofs.StreamLaws.{bare-end, stream-some, restored-append, stream-back, stream-data, take-data, drop-data}
use Rattle.meaning_cable.proofs.OneSetLaws.{stream-of, set-alone}
use Rattle.meaning_cable.proofs.BlockLaws.{data-some, cut-first, cut-end, count-least, data-length, take_on, Writable, block_read}
use Rattle.meaning_cable.proofs.ReceivingLaws.{next-label, taken-put, next-least}

-- ---- counts

pub next-most : (c : ℕ) → next_count c ≤ 9
unfolding next_count
next-most c = go (leb 9 c) refl
  where
    go : (t : Bool) → leb 9 c ≡ t → cond t 1 (c + 1) ≤ 9
    go true e = omega arith
    go false e = let l = leb-false 9 c e in omega arith

pub count_most : (c i : ℕ) → c ≤ 9 → count_at c i ≤ 9
unfolding count_at
count_most c zero h = h
count_most c (suc i) h = next-most (count_at c i)

-- the count that a set begins with
pub first-count-most : (l : Link) → first_count l ≤ 9
unfolding first_count
first-count-most l = go (eqb l.phase delivered)
  where
    go : (t : Bool) → cond t (next_count l.count) 0 ≤ 9
    go true = next-most l.count
    go false = omega arith

-- ---- one block and the receiver

-- a block that fits
pub put-fits : (st : Receiver) (buf : List ℕ) (at count label : ℕ) (x : List ℕ) → at + length (put_by label x) ≤ length buf
    → put_at st buf at count label x ≡ taking buf at count label (put_by label x)
unfolding put_at
put-fits st buf at count label x h = rw (le-leb (at + length (put_by label x)) (length buf) h)

-- one that does not: nothing moves
pub put-lacks : (st : Receiver) (buf : List ℕ) (at count label : ℕ) (x : List ℕ) → length buf < at + length (put_by label x)
    → put_at st buf at count label x ≡ without_room st buf (at + length (put_by label x))
unfolding put_at
put-lacks st buf at count label x h = rw (lt-leb (at + length (put_by label x)) (length buf) h)

module _ (st : Receiver) (buf : List ℕ) (count label : ℕ) (x : List ℕ) (w : Writable count label x) where
  -- B01 or B02 of the open set
  pub receive-next : count ≢ 0 → IsNext st count → st.partial ≢ 0 → label ≢ b00 → receive st buf (block_bytes count label x) ≡ put_at st buf st.used count label x
  receive-next z n p h =
      let back = block_read count label x w in
      next-label st buf (block_bytes count label x) back.faultless (λ e. z (sym back.count-is ∙ e)) (n.0, back.count-is ∙ n.1) p (λ e. h (sym back.label-is ∙ e))
      ∙ (λ i. put_at st buf st.used (back.count-is i) (back.label-is i) (back.data_is i))

-- The receiver takes B00 with this count: it is 0, or the next one and no set is open.
pub data Opens (st : Receiver) (count : ℕ) : Type 0 where
  at-zero : count ≡ 0 → Opens st count
  at_next : count ≢ 0 → IsNext st count → st.partial ≡ 0 → Opens st count

pub receive-first : (st : Receiver) (buf : List ℕ) (count : ℕ) (x : List ℕ) → Writable count b00 x → Opens st count
    → receive st buf (block_bytes count b00 x) ≡ put_at st buf 0 count b00 x
receive-first st buf count x w (at-zero z) =
    let back = block_read count b00 x w in
    taken-put st buf (block_bytes count b00 x) 0 back.faultless (afresh (back.count-is ∙ z) back.label-is)
    ∙ (λ i. put_at st buf 0 (back.count-is i) (back.label-is i) (back.data_is i))
receive-first st buf count x w (at_next z n p) =
    let back = block_read count b00 x w in
    taken-put st buf (block_bytes count b00 x) 0 back.faultless (next-set (λ e. z (sym back.count-is ∙ e)) (n.0, back.count-is ∙ n.1) p back.label-is)
    ∙ (λ i. put_at st buf 0 (back.count-is i) (back.label-is i) (back.data_is i))

-- two ends that agree
pub opens-first : (l : Link) (st : Receiver) → Agree l st → Opens st (first_count l)
unfolding first_count
opens-first l st (from_zero p) = rw (ne_eqb l.phase delivered p) (at-zero refl)
opens-first l st (agree_on p q o k) = rw (eq-eqb l.phase delivered p) (at_next (next-least l.count) (q, ap next_count (sym k)) o)

-- ---- the buffer

-- the bytes f and then zeros, in a buffer as long as b
abbrev pub filled : List ℕ → List ℕ → List ℕ
filled b f = f ++ replicate (length b - length f) 0

pub filled-length : (b f : List ℕ) → length f ≤ length b → length (filled b f) ≡ length b
filled-length b f h = length-append f (replicate (length b - length f) 0) ∙ omega (arith, length-replicate {A = ℕ} (length b - length f) 0)

pub written_on : (b f new : List ℕ) → length f ≤ length b → written (filled b f) (length f) new ≡ filled b (f ++ new)
written_on b f new h =
    let e : length (filled b f) - (length f + length new) ≡ length b - length (f ++ new) = omega (arith, filled-length b f h, length-append f new) in
    (λ i. take_at f (replicate (length b - length f) 0) (length f) refl i ++ (new ++ replicate (e i) 0)) ∙ sym (append_assoc f new (replicate (length b - length (f ++ new)) 0))

-- ---- a whole set

module _ (s : List ℕ) (fs : List Field) (e : read s ≡ done (parsed fs [])) where
  unfoldable pub x : List ℕ
  x = stream fs

  unfoldable pub n : ℕ
  n = block_count (stream fs)

  -- the bytes that the first k blocks stand for
  unfoldable pub front : ℕ → List ℕ
  front k = restored (take (cut_at (stream fs) k) (stream fs))

  pub bytes-are : restored x ++ (cr ∷ lf ∷ []) ≡ s
  unfolding x
  bytes-are = let a = accepted s (parsed fs []) e in stream-of fs a.standing ∙ sym a.bytes

  pub front-first : front 0 ≡ []
  unfolding front restored
  front-first = ap (λ (k : ℕ). restored (take k (stream fs))) (cut-first (stream fs))

  pub front-on : (k : ℕ) → front k ++ restored (block_data x k) ≡ front (k + 1)
  unfolding front x
  front-on k = sym (ap restored (take_on (stream fs) k) ∙ restored-append (take (cut_at (stream fs) k) (stream fs)) (block_data (stream fs) k))

  pub front-end : front n ≡ restored x
  unfolding front n x
  front-end = ap restored (take_all (cut_at (stream fs) (block_count (stream fs))) (stream fs) (cut-end (stream fs)))

  pub front-most : (k : ℕ) → length (front k) ≤ length s
  unfolding front x
  front-most k =
      let c : ℕ = cut_at (stream fs) k in
      let split : restored (stream fs) ≡ restored (take c (stream fs)) ++ restored (drop c (stream fs)) =
      ap restored (sym (take-append-drop c (stream fs))) ∙ restored-append (take c (stream fs)) (drop c (stream fs)) in
      omega (arith, ap length split, length-append (restored (take c (stream fs))) (restored (drop c (stream fs))), ap length bytes-are, length-append (restored (stream fs)) (cr ∷ lf ∷ []))

  pub block-is : (k c : ℕ) → k < n → c ≤ 9 → block s k c ≡ done (block_bytes c (block_label k n) (block_data x k))
  unfolding block block_of n x
  block-is k c h l = rw (set-alone s fs e, lt-leb (block_count (stream fs)) k h, le-leb c 9 l)

  pub label-most : (k : ℕ) → block_label k n ≤ 2
  unfolding block_label
  label-most k = go (eqb k 0) (leb n (k + 1))
    where
      go : (p q : Bool) → cond p b00 (cond q b02 b01) ≤ 2
      go true q = omega arith
      go false true = omega arith
      go false false = omega arith

  pub can_write : (k c label : ℕ) → c ≤ 9 → label ≤ 2 → Writable c label (block_data x k)
  unfolding x
  can_write k c label h l = record {
    count_fits = h;
    label-fits = l;
    length-fits = data-length (stream fs) k;
    data-only = take-data (cut_at (stream fs) (k + 1) - cut_at (stream fs) k) (drop (cut_at (stream fs) k) (stream fs))
        (drop-data (cut_at (stream fs) k) (stream fs) (stream-data fs (accepted s (parsed fs []) e).standing.sound));
  }

  pub some-blocks : 0 + 1 < n
  unfolding n
  some-blocks = omega (arith, count-least (stream fs))

  -- with the ends of the last line the bytes of all blocks are the set
  pub all-bytes : (k : ℕ) → k + 1 + 1 ≡ n → front (k + 1) ++ (restored (block_data x (k + 1)) ++ (cr ∷ lf ∷ [])) ≡ s
  all-bytes k h =
      sym (append_assoc (front (k + 1)) (restored (block_data x (k + 1))) (cr ∷ lf ∷ []))
      ∙ (ap (λ (y : List ℕ). y ++ (cr ∷ lf ∷ [])) (front-on (k + 1) ∙ (ap front h ∙ front-end)) ∙ bytes-are)

  -- the sender begins with the set
  pub start_is : (w : Cable) → begins s w ≡ record { link = opened n (first_count w.link); got = w.got }
  unfolding begins send blocks_of begun n
  start_is w = rw (set-alone s fs e)

  -- the first block puts in the bytes that it stands for
  first-puts : 0 + length (put_by b00 (block_data x 0)) ≡ length (front 1)
  unfolding put_by
  first-puts = let d : List ℕ = restored (block_data x 0) in omega (arith, ap length (ap (λ (y : List ℕ). y ++ d) (sym front-first) ∙ front-on 0))

  module _ (st : Receiver) (b : List ℕ) (c : ℕ) (m : c ≤ 9) (o : Opens st c) where
    first-put : receive st b (block_bytes c b00 (block_data x 0)) ≡ put_at st b 0 c b00 (block_data x 0)
    first-put = receive-first st b c (block_data x 0) (can_write 0 c b00 m (omega arith)) o

    -- it is taken if they fit
    pub received-first : length (front 1) ≤ length b
        → receive st b (block_bytes c b00 (block_data x 0)) ≡ record { answer = done is_taken; state = took_one c 1 (length (front 1)); buffer = filled b (front 1) }
    unfolding put_by open_by answer_by
    received-first room =
        let d : List ℕ = restored (block_data x 0) in
        let f : d ≡ front 1 = ap (λ (y : List ℕ). y ++ d) (sym front-first) ∙ front-on 0 in
        let u : 0 + length d ≡ length (front 1) = first-puts in
        first-put ∙ (put-fits st b 0 c b00 (block_data x 0) (omega arith)
        ∙ (λ i. record { answer = done is_taken; state = took_one c 1 (u i); buffer = f i ++ replicate (length b - u i) 0 }))

    -- else nothing moves
    pub first-lacks : length b < length (front 1) → receive st b (block_bytes c b00 (block_data x 0)) ≡ without_room st b (length (front 1))
    first-lacks h = first-put ∙ (put-lacks st b 0 c b00 (block_data x 0) (omega (arith, first-puts)) ∙ ap (without_room st b) first-puts)

  -- a block after the first, with k + 1 before it: what it puts in makes t of the bytes that stand
  module _ (k c : ℕ) (h : k + 1 < n) where
    module _ (b : List ℕ) (label : ℕ) (t : List ℕ) (few : label ≤ 2) (z : label ≢ b00) (f : front (k + 1) ++ put_by label (block_data x (k + 1)) ≡ t)
        (held : length (front (k + 1)) ≤ length b) where
      abbrev st : Receiver
      st = took_one c 1 (length (front (k + 1)))

      on-puts : length (front (k + 1)) + length (put_by label (block_data x (k + 1))) ≡ length t
      on-puts = sym (length-append (front (k + 1)) (put_by label (block_data x (k + 1)))) ∙ ap length f

      on-put : receive st (filled b (front (k + 1))) (block_bytes (next_count c) label (block_data x (k + 1)))
          ≡ put_at st (filled b (front (k + 1))) (length (front (k + 1))) (next_count c) label (block_data x (k + 1))
      on-put =
          receive-next st (filled b (front (k + 1))) (next_count c) label (block_data x (k + 1)) (can_write (k + 1) (next_count c) label (next-most c) few)
          (next-least c) ((λ o. omega arith), refl) (λ o. omega arith) z

      -- it is taken if they fit
      pub received-on : length t ≤ length b
          → receive st (filled b (front (k + 1))) (block_bytes (next_count c) label (block_data x (k + 1)))
          ≡ record { answer = done (answer_by label); state = took_one (next_count c) (open_by label) (length t); buffer = filled b t }
      received-on room =
          let g : List ℕ = front (k + 1) in
          let roomy : length g + length (put_by label (block_data x (k + 1))) ≤ length (filled b g) = omega (arith, on-puts, filled-length b g held) in
          on-put ∙ (put-fits st (filled b g) (length g) (next_count c) label (block_data x (k + 1)) roomy
          ∙ (λ i. record {
            answer = done (answer_by label);
            state = took_one (next_count c) (open_by label) (on-puts i);
            buffer = (written_on b g (put_by label (block_data x (k + 1))) held ∙ ap (filled b) f) i;
          }))

      -- else nothing moves
      pub on-lacks : length b < length t
          → receive st (filled b (front (k + 1))) (block_bytes (next_count c) label (block_data x (k + 1))) ≡ without_room st (filled b (front (k + 1))) (length t)
      on-lacks l =
          let g : List ℕ = front (k + 1) in
          on-put ∙ (put-lacks st (filled b g) (length g) (next_count c) label (block_data x (k + 1)) (omega (arith, on-puts, filled-length b g held)) ∙ ap (without_room st (filled b g)) on-puts)

    pub sent-on : (label : ℕ) → block_label (k + 1) n ≡ label → block s (k + 1) (next_count c) ≡ done (block_bytes (next_count c) label (block_data x (k + 1)))
    sent-on label q = block-is (k + 1) (next_count c) h (next-most c) ∙ (λ i. done (block_bytes (next_count c) (q i) (block_data x (k + 1))))
