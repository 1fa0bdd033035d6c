-- A set over a cable that loses and changes nothing: after as many exchanges as it has blocks it has arrived (`carried`).
--
-- After i exchanges, for i from 1 to the last but one, the buffer holds the bytes that the first i blocks stand for and then zeros, the receiver waits for the count that the link
-- names, and the link is at block i (`carried-part`). The data of the first i blocks are the first bytes of the stream, and putting the ends back goes byte by byte, so it
-- doesn't matter where the cuts fall.
use mathlib.Core.Path.{◌≡◌, refl, sym, ap, ◌∙◌, subst}
use mathlib.Core.Bool.{true}
use mathlib.Core.List.{List, [], ◌++◌}
use Prim.Native.Nat.{ℕ, zero, suc, ◌+◌, ◌-◌, ◌≤◌, ◌<◌}
use native.Mathlib.Omega.{arith}
use native.Mathlib.Numerals.{add-one}
use lib.ListN.{length, take, replicate}
use borrow.Author.Tests.{le-leb, lt-leb, ne_eqb}
use Rattle.meaning.specs.Field.{Field}
use Rattle.meaning.specs.Refusals.{Reply, done}
use Rattle.meaning.specs.Pieces.{parsed}
use Rattle.meaning.specs.Reading.{read}
use Rattle.meaning_cable.specs.declared.Link.{Link}
use Rattle.meaning_cable.specs.declared.Turned.{Turned}
use Rattle.meaning_cable.specs.declared.Receiver.{Receiver}
use Rattle.meaning_cable.specs.Stream.{stream, restored}
use Rattle.meaning_cable.specs.Blocks.{b00, b01, b02, block_count, cut_at, block_data, joined, block_label, block_bytes, block}
use Rattle.meaning_cable.specs.Sending.{under_way, delivered, next_count, ack1, is_ack, opened, taken, last_taken, first_count, turn_of}
use Rattle.meaning_cable.specs.Receiving.{ReceiveCall, is_taken, is_whole, ack_of, took_one, put_by, open_by, answer_by, receive}
use Rattle.theory_cable.specs.Carrying.{Cable, bytes_or, begins, arrives, exchange, exchanges, Agree, goes-on as agree_on, count_at, UnderWay, Arrived}
use Rattle.meaning_cable.proofs.BlockLaws.{joined-take}
use Rattle.meaning_cable.proofs.SendingLaws.{follows-turn}
use Rattle.theory_cable.proofs.ArrivalLaws.{count_most, filled, x, n, front, front-on, front-most, block-is, all-bytes, first-count-most, opens-first, some-blocks, received-first}
use Rattle.theory_cable.proofs.ArrivalLaws.{received-on, sent-on, start_is}

-- ---- one exchange

exchange-is : (s : List ℕ) (w : Cable) (bs : List ℕ) (g : ReceiveCall) (t : Link) → block s w.link.block w.link.count ≡ done bs
    → receive w.got.state w.got.buffer bs ≡ g → (turn_of w.link (ack_of g.answer)).link ≡ t → exchange s w ≡ record { link = t; got = g }
unfolding exchange arrives
exchange-is s w bs g t p q r =
    let gg : receive w.got.state w.got.buffer (bytes_or (block s w.link.block w.link.count)) ≡ g =
    ap (λ (y : Reply (List ℕ)). receive w.got.state w.got.buffer (bytes_or y)) p ∙ q in
    (λ i. record { link = (turn_of w.link (ack_of (gg i).answer)).link; got = gg i }) ∙ (λ i. record { link = r i; got = g })

acks : is_ack ack1 ≡ true
unfolding is_ack
acks = refl

module _ (s : List ℕ) (fs : List Field) (e : read s ≡ done (parsed fs [])) where
  abbrev x' : List ℕ
  x' = x s fs e

  abbrev n' : ℕ
  n' = n s fs e

  abbrev front' : ℕ → List ℕ
  front' = front s fs e

  module _ (w : Cable) (agree : Agree w.link w.got.state) (room : length s ≤ length w.got.buffer) where
    abbrev l : Link
    l = w.link

    abbrev st : Receiver
    st = w.got.state

    abbrev b : List ℕ
    b = w.got.buffer

    -- the count of the first block
    c₀ : ℕ
    c₀ = first_count l

    first-most : c₀ ≤ 9
    unfolding c₀
    first-most = first-count-most l

    -- after the block with k before it and count c, which isn't the last
    abbrev part_way : ℕ → ℕ → Cable
    part_way k c = record {
      link = record { phase = under_way; blocks = n'; attempt = 1; block = k + 1; errors = 0; count = next_count c };
      got = record { answer = done is_taken; state = took_one c 1 (length (front' (k + 1))); buffer = filled b (front' (k + 1)) };
    }

    after_first : exchange s (record { link = opened n' c₀; got = w.got }) ≡ part_way 0 c₀
    unfolding c₀ block_label
    after_first =
        exchange-is s (record { link = opened n' c₀; got = w.got }) (block_bytes c₀ b00 (block_data x' 0)) (part_way 0 c₀).got (part_way 0 c₀).link
        (block-is s fs e 0 c₀ (omega (arith, some-blocks s fs e)) first-most) (received-first s fs e st b c₀ first-most (opens-first l st agree) (omega (arith, front-most s fs e 1)))
        (ap (λ (y : Turned). y.link) (follows-turn (taken {s = opened n' c₀} {r = ack1} refl acks (some-blocks s fs e))))

    after-middle : (k c : ℕ) → k + 1 + 1 < n' → c ≤ 9 → exchange s (part_way k c) ≡ part_way (k + 1) (next_count c)
    unfolding put_by open_by answer_by block_label
    after-middle k c h m =
        let label-is : block_label (k + 1) n' ≡ b01 = rw (ne_eqb (k + 1) 0 (λ o. omega arith), lt-leb n' (k + 1 + 1) h) in
        exchange-is s (part_way k c) (block_bytes (next_count c) b01 (block_data x' (k + 1))) (part_way (k + 1) (next_count c)).got (part_way (k + 1) (next_count c)).link
        (sent-on s fs e k c (omega arith) b01 label-is)
        (received-on s fs e k c (omega arith) b b01 (front' (k + 1 + 1)) (omega arith) (λ o. omega arith) (front-on s fs e (k + 1)) (omega (arith, front-most s fs e (k + 1)))
        (omega (arith, front-most s fs e (k + 1 + 1))))
        (ap (λ (y : Turned). y.link) (follows-turn (taken {s = (part_way k c).link} {r = ack1} refl acks h)))

    -- the set has arrived, its last block had count c
    abbrev at_end : ℕ → ℕ → Cable
    at_end k c = record {
      link = record { phase = delivered; blocks = n'; attempt = 1; block = k; errors = 0; count = c };
      got = record { answer = done is_whole; state = took_one c 0 (length s); buffer = filled b s };
    }

    after_last : (k c : ℕ) → k + 1 + 1 ≡ n' → c ≤ 9 → exchange s (part_way k c) ≡ at_end (k + 1) (next_count c)
    unfolding put_by open_by answer_by block_label
    after_last k c h m =
        let label-is : block_label (k + 1) n' ≡ b02 = rw (ne_eqb (k + 1) 0 (λ o. omega arith), le-leb n' (k + 1 + 1) (omega arith)) in
        exchange-is s (part_way k c) (block_bytes (next_count c) b02 (block_data x' (k + 1))) (at_end (k + 1) (next_count c)).got (at_end (k + 1) (next_count c)).link
        (sent-on s fs e k c (omega arith) b02 label-is)
        (received-on s fs e k c (omega arith) b b02 s (omega arith) (λ o. omega arith) (all-bytes s fs e k h) (omega (arith, front-most s fs e (k + 1))) room)
        (ap (λ (y : Turned). y.link) (follows-turn (last_taken {s = (part_way k c).link} {r = ack1} refl acks (omega arith))))

    -- after j + 1 exchanges, as long as blocks are left
    part : (j : ℕ) → j + 1 < n' → exchanges s (suc j) (begins s w) ≡ part_way j (count_at c₀ j)
    unfolding c₀ exchanges count_at
    part zero h = ap (exchange s) (start_is s fs e w) ∙ after_first
    part (suc j) h =
        ap (exchange s) (part j (omega arith))
        ∙ (after-middle j (count_at c₀ j) (omega (arith, add-one j)) (count_most c₀ j first-most) ∙ ap (λ (y : ℕ). part_way y (next_count (count_at c₀ j))) (add-one j))

    part-last : (j : ℕ) → j + 1 + 1 ≡ n' → exchanges s (suc (suc j)) (begins s w) ≡ at_end (j + 1) (count_at c₀ (suc j))
    unfolding exchanges count_at
    part-last j h = ap (exchange s) (part j (omega arith)) ∙ after_last j (count_at c₀ j) h (count_most c₀ j first-most)

    -- after all n'
    whole : exchanges s n' (begins s w) ≡ at_end (n' - 1) (count_at c₀ (n' - 1))
    whole =
        let j : ℕ = n' - 2 in
        let two : suc (suc j) ≡ n' = omega (arith, some-blocks s fs e) in
        let one : suc j ≡ n' - 1 = omega (arith, some-blocks s fs e) in
        let one' : j + 1 ≡ n' - 1 = omega (arith, some-blocks s fs e) in
        sym (ap (λ (y : ℕ). exchanges s y (begins s w)) two) ∙ (part-last j (omega (arith, some-blocks s fs e)) ∙ (λ i. at_end (one' i) (count_at c₀ (one i))))

-- after i exchanges, if blocks are left
pub carried-part : (s : List ℕ) (fs : List Field) → read s ≡ done (parsed fs []) → (w : Cable) → Agree w.link w.got.state → length s ≤ length w.got.buffer
    → (i : ℕ) → 0 < i → i < block_count (stream fs) → UnderWay (stream fs) w.got.buffer i (exchanges s i (begins s w))
unfolding n front c₀
carried-part s fs e w agree room zero z h = absurd (omega arith)
carried-part s fs e w agree room (suc j) z h =
    let front-is : restored (joined (stream fs) (suc j)) ≡ restored (take (cut_at (stream fs) (j + 1)) (stream fs)) =
    ap restored (joined-take (stream fs) (suc j) ∙ ap (λ (k : ℕ). take (cut_at (stream fs) k) (stream fs)) (sym (add-one j))) in
    subst (UnderWay (stream fs) w.got.buffer (suc j)) (sym (part s fs e w agree room j (omega (arith, add-one j))))
    (record {
      runs = refl;
      at_block = add-one j;
      no-error = refl;
      was-taken = refl;
      used-is = ap length (sym front-is);
      buffer-is = λ i. sym front-is i ++ replicate (length w.got.buffer - length (sym front-is i)) 0;
    })

-- An accepted set, alone in its bytes, over a cable that loses and changes nothing, between two ends that agree, into a buffer with room for it: after as many exchanges as it has
-- blocks the sender has delivered, and the receiver's buffer holds the bytes of the set and then zeros.
pub carried : (s : List ℕ) (fs : List Field) → read s ≡ done (parsed fs []) → (w : Cable) → Agree w.link w.got.state → length s ≤ length w.got.buffer
    → Arrived s w.got.buffer (exchanges s (block_count (stream fs)) (begins s w))
unfolding n
carried s fs e w agree room =
    subst (Arrived s w.got.buffer) (sym (whole s fs e w agree room))
    (record { was-delivered = refl; used-is = refl; buffer-is = refl; agreed = agree_on refl (λ o. omega arith) refl refl })

-- and its last answer was that the set is whole
pub carried-told : (s : List ℕ) (fs : List Field) → read s ≡ done (parsed fs []) → (w : Cable) → Agree w.link w.got.state → length s ≤ length w.got.buffer
    → (exchanges s (block_count (stream fs)) (begins s w)).got.answer ≡ done is_whole
unfolding n
carried-told s fs e w agree room = ap (λ (v : Cable). v.got.answer) (whole s fs e w agree room)
