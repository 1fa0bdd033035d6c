-- What the theorems of the cable shut out, tried, as in ShutOut of crate `examples` and ShutOutDay of crate `theory_day`: `SaysX` is the statement of theorem x with any functions in the
-- place of the definitions, `x-says` the theorem itself; then trivial functions are put in. docs/PROMISES.md has the table of it: "What each theorem asks, and what it shuts out".
--
-- What the definitions of crate `theory_cable` make of the sender, the blocks and the receiver is made of any three here: `exchanges_of` for `exchanges`, `exchanges_by_of` for `exchanges_by`,
-- `steps_of` and `clean_steps_of` for `steps` and `clean_steps`. A sender, a maker of blocks or a receiver is tried beside any other two, if it can be.
use mathlib.Core.Path.{◌≡◌, refl, sym, ap, ◌∙◌, subst}
use mathlib.Core.Bool.{Bool, true, false, cond, ◌&&◌, true≢false}
use mathlib.Core.List.{List, [], ◌∷◌, ◌++◌, cons≢nil}
use mathlib.Core.Logic.{◌⊎◌, inl, inr, ◌≢◌, ◌↔◌}
use Prim.Native.Nat.{ℕ, zero, suc, ◌+◌, ◌-◌, ◌*◌, ◌/◌, ◌≤◌, ◌<◌}
use native.Mathlib.Omega.{arith}
use native.Mathlib.Numerals.{add-one}
use lib.ListN.{length, take, drop, get_or, set, replicate, length-append, length-replicate}
use lib.Seq.{take_at, take-add, take_all}
use lib.Dec.{leb, eqb}
use borrow.Author.Tests.{leb-true, leb-false, le-leb, eqb-true, eqb-false, ne_eqb}
use Rattle.meaning.specs.declared.Refusal.{Refusal}
use Rattle.meaning.specs.Field.{Field}
use Rattle.meaning.specs.Refusals.{Fault, at_line, ask, Reply, refused, done, refusal, bad_block, bad_crc}
use Rattle.meaning.specs.Pieces.{parsed}
use Rattle.meaning.specs.Digits.{digits}
use Rattle.meaning.specs.Lines.{cr, lf, line_size, size, render}
use Rattle.meaning.specs.Reading.{read}
use Rattle.meaning.specs.Answers.{Call, made_count}
use Rattle.meaning.specs.Computes.{computes}
use Rattle.meaning.proofs.Asking.{text, line}
use Rattle.meaning.proofs.Bools.{and_left, and_right, Every}
use Rattle.meaning.proofs.DigitLaws.{digits-all}
use Rattle.meaning.proofs.FaultLaws.{refused-done, done-same}
use Rattle.meaning.proofs.LineLaws.{Sound}
use Rattle.meaning.proofs.NumberLaws.{Numbered, OneOf}
use Rattle.meaning.proofs.SetLaws.{accepted}
use Rattle.meaning_cable.specs.declared.Link.{Link}
use Rattle.meaning_cable.specs.declared.Action.{Action}
use Rattle.meaning_cable.specs.declared.Action.TheVariants.{Nothing, Delivered, GivenUp}
use Rattle.meaning_cable.specs.declared.Turned.{Turned}
use Rattle.meaning_cable.specs.declared.Receiver.{Receiver}
use Rattle.meaning_cable.specs.Crc.{crc, crc_from}
use Rattle.meaning_cable.specs.Stream.{bare_then, stream, restored, all_data}
use Rattle.meaning_cable.specs.Blocks.{through_first, block_count, cut_at, block_data, joined, block_label, hex_digits, block_front, block_bytes, set_alone, blocks_of, block}
use Rattle.meaning_cable.specs.Sending.{under_way, delivered, given_up, ack1, ack0, is_ack, sends, end_of, Begins, Follows, taken, last_taken, again, afresh as begin-again, over, ended}
use Rattle.meaning_cable.specs.Sending.{what_number, to_send, block_number, count_number, begun, turn_of, send, link_left, after, Ended}
use Rattle.meaning_cable.specs.Receiving.{max_block, count_of, label_of, data_of, form_ok, crc_ok, block_faults, ReceiveCall, is_taken}
use Rattle.meaning_cable.specs.Receiving.{is_again, is_whole, ack_of, keeping, refusing, took_one, open_by}
use Rattle.meaning_cable.specs.Receiving.{TakenAt, afresh, goes-on, ends, next-set, Takes, bad-form, bad-crc, zero-other, last-again, label-in-set, label-no-set, other-count, fitted, no-room}
use Rattle.meaning_cable.specs.Receiving.{turned, by_faults, receive}
use Rattle.meaning_cable.specs.CableCalls.{SendCall, send_call, asked, block_call, received_call, kept_by}
use Rattle.meaning_cable.specs.CableComputes.{cable_computes}
use Rattle.meaning_cable.proofs.CrcLaws.{crc-one}
use Rattle.meaning_cable.proofs.StreamLaws.{restored-high, digits-high, bare-end, stream-back, stream-data, stream-length}
use Rattle.meaning_cable.proofs.BlockLaws.{Cuts, one as cut-one, many as cut-many, cuts, count-least, data-length, blocks-join, tail_of, parts-length, Writable, block_read}
use Rattle.meaning_cable.proofs.OneSetLaws.{set-alone, data-of-set, two_blocks}
use Rattle.meaning_cable.proofs.SendingLaws.{begun-begins, turn-follows, follows-turn, begins-one, send-follows, refused-link, send-begins, stays-over, over-told, ends-within, send-ends}
use Rattle.meaning_cable.proofs.ReceivingLaws.{receive-follows, takes-receive, Outcome, kept, once-more, took, receive-outcome, kept-by, ack-told}
use Rattle.theory_cable.specs.Carrying.{Cable, bytes_or, begins, arrives, exchange, exchanges, Agree, from_zero, goes-on as agree_on, UnderWay, Arrived, Fate, heard, unheard, changed, lost}
use Rattle.theory_cable.specs.Carrying.{got_by, hears, exchange_by, exchanges_by}
use Rattle.theory_cable.specs.Transfers.{Ends, leaves, sent_back, replies, step, steps, clean_steps, starts}
use Rattle.theory_cable.proofs.ArrivalLaws.{start_is}
use Rattle.theory_cable.proofs.SetBlockLaws.{block_back, IsByte, one-byte-of-set, one-byte-refused}
use Rattle.theory_cable.proofs.CarryingLaws.{carried, carried-part, carried-told}
use Rattle.theory_cable.proofs.DamageLaws.{one-byte, one-byte-seen}
use Rattle.theory_cable.proofs.LossLaws.{delivered-arrived, delivered-room, arrived-or-given-up, agree-again}
use Rattle.theory_cable.proofs.TransferLaws.{cable_of, Told, transfer-carried, transfer-arrived, transfer-ends}
use Rattle.theory_cable.proofs.CableNumbers.{sender_numbers, receiver_numbers, send-numbers, block-numbers, receive-numbers}
use Rattle.meaning_cable.specs.Stream.{separator}
use Rattle.meaning_cable.specs.Blocks.{max_data}
use Rattle.theory_cable.specs.CableBreaches.{SendRefused}
use Rattle.theory_cable.proofs.SendExact.{alone-refused-with, send-refused-with, begin-refused-with, block-refused-with}
use Rattle.theory_cable.proofs.FormExact.{form-exactly}
use Rattle.theory_cable.proofs.CutExact.{full-blocks, short-blocks}
use Rattle.meaning.specs.Results.{Made}
use Rattle.meaning_cable.specs.CableResults.{Sent}
use Rattle.std.specs.Prelude.{Err, Ok}

-- ---- the inputs

-- the paper's set P, and a set that differs in its sum and its patient
p : List ℕ
p = text "01380006300\r\n014810000051\r\n014921802.10\r\n01030000\r\n"

p_lines : List Field
p_lines = line 8000 "6300" ∷ line 8100 "00051" ∷ line 9218 "02.10" ∷ line 3000 "0" ∷ []

q : List ℕ
q = text "01380006300\r\n014810000055\r\n014921802.10\r\n014300010027\r\n"

q_lines : List Field
q_lines = line 8000 "6300" ∷ line 8100 "00055" ∷ line 9218 "02.10" ∷ line 3000 "10027" ∷ []

read-p : read p ≡ done (parsed p_lines [])
unfolding computes p p_lines
read-p = refl

read-q : read q ≡ done (parsed q_lines [])
unfolding computes q q_lines
read-q = refl

blocks-p : blocks_of p ≡ done 2
unfolding computes cable_computes p
blocks-p = refl

blocks-none : blocks_of [] ≡ refused (refusal 1 0 0)
unfolding computes cable_computes
blocks-none = refl

blocks-two-sets : blocks_of (p ++ p) ≡ refused (refusal 18 51 0)
unfolding computes cable_computes p
blocks-two-sets = refl

-- phase, blocks, attempt, block, errors, count
abbrev at : ℕ → ℕ → ℕ → ℕ → ℕ → ℕ → Link
at p n a i e c = record { phase = p; blocks = n; attempt = a; block = i; errors = e; count = c }

abbrev fresh_link : Link
fresh_link = at 0 0 0 0 0 0

-- three blocks, the first was sent
abbrev first_sent : Link
first_sent = at 1 3 1 0 0 0

refused-same : {A : Type 0} {r y : Refusal} → ◌≡◌ {A = Reply A} (refused r) (refused y) → r ≡ y
refused-same e = cc

-- what the theorems are about
abbrev Sender : Type 0
Sender = Link → Bool → List ℕ → Reply Turned

abbrev Turner : Type 0
Turner = Link → List ℕ → Turned

-- leaves the link as it was, whatever it answers
abbrev idle_sender : (Link → Bool → List ℕ → Action) → Sender
idle_sender a s begins bytes = done (record { link = s; action = a s begins bytes })

-- ---- the sender follows its table

-- turn-follows: nothing given
abbrev SaysTurnFollows : Turner → Type 0
SaysTurnFollows T = (s : Link) (r : List ℕ) → Follows s r (T s r).link (T s r).action

turn-follows-says : SaysTurnFollows turn_of
turn-follows-says = turn-follows

-- No other function meets it: the rows leave no choice (`follows-one`).
turn-follows-only : (T : Turner) → SaysTurnFollows T → (s : Link) (r : List ℕ) → T s r ≡ turn_of s r
turn-follows-only T h s r = sym (follows-turn (h s r))

turn-follows-not-same : (t : Turned) → SaysTurnFollows (λ s r. t) → ⊥
unfolding computes cable_computes
turn-follows-not-same t h =
    let e = sym (turn-follows-only (λ s r. t) h (at 2 0 0 0 0 0) []) ∙ turn-follows-only (λ s r. t) h (at 3 0 0 0 0 0) [] in
    let z : ◌≡◌ {A = ℕ} 2 3 = ap (λ (y : Turned). y.link.phase) e in
    omega arith

turn-follows-not-idle : (a : Link → List ℕ → Action) → SaysTurnFollows (λ s r. record { link = s; action = a s r }) → ⊥
unfolding computes cable_computes
turn-follows-not-idle a h =
    let z : ◌≡◌ {A = ℕ} 0 1 = ap (λ (y : Turned). y.link.block) (turn-follows-only (λ s r. record { link = s; action = a s r }) h first_sent ack1) in
    omega arith

-- send-follows: nothing given
abbrev SaysSendFollows : Sender → Type 0
SaysSendFollows S = (s : Link) (r : List ℕ) → (t : Turned) × (S s false r ≡ done t) × Follows s r t.link t.action

send-follows-says : SaysSendFollows send
send-follows-says = send-follows

send-follows-only : (S : Sender) → SaysSendFollows S → (s : Link) (r : List ℕ) → S s false r ≡ done (turn_of s r)
send-follows-only S h s r = let x = h s r in x.1 ∙ ap done (sym (follows-turn x.2))

send-follows-not-refusing : (r : Link → Bool → List ℕ → Refusal) → SaysSendFollows (λ s b x. refused (r s b x)) → ⊥
send-follows-not-refusing r h = refused-done (send-follows-only (λ s b x. refused (r s b x)) h fresh_link [])

send-follows-not-same : (a : Reply Turned) → SaysSendFollows (λ s b x. a) → ⊥
unfolding computes cable_computes
send-follows-not-same a h =
    let e = done-same (sym (send-follows-only (λ s b x. a) h (at 2 0 0 0 0 0) []) ∙ send-follows-only (λ s b x. a) h (at 3 0 0 0 0 0) []) in
    let z : ◌≡◌ {A = ℕ} 2 3 = ap (λ (y : Turned). y.link.phase) e in
    omega arith

send-follows-not-idle : (a : Link → Bool → List ℕ → Action) → SaysSendFollows (idle_sender a) → ⊥
unfolding computes cable_computes
send-follows-not-idle a h =
    let z : ◌≡◌ {A = ℕ} 0 1 = ap (λ (y : Turned). y.link.block) (done-same (send-follows-only (idle_sender a) h first_sent ack1)) in
    omega arith

-- ---- a set begins

-- send-begins: given a set that has n blocks
abbrev SaysSendBegins : Sender → Type 0
SaysSendBegins S =
    (s : Link) (bytes : List ℕ) (n : ℕ) → blocks_of bytes ≡ done n → (t : Turned) × (S s true bytes ≡ done t) × Begins s n t.link × (t.action ≡ sends t.link)

send-begins-says : SaysSendBegins send
send-begins-says = send-begins

-- what it asks of P
begins-p : (S : Sender) → SaysSendBegins S → (s : Link) → (t : Turned) × (S s true p ≡ done t) × (t.link ≡ (begun s 2).link)
begins-p S h s =
    let x = h s p 2 blocks-p in
    (x.0, x.1, begins-one x.2 (begun-begins s 2))

send-begins-not-refusing : (r : Link → Bool → List ℕ → Refusal) → SaysSendBegins (λ s b x. refused (r s b x)) → ⊥
send-begins-not-refusing r h = refused-done (begins-p (λ s b x. refused (r s b x)) h fresh_link).1

send-begins-not-same : (a : Reply Turned) → SaysSendBegins (λ s b x. a) → ⊥
unfolding computes cable_computes
send-begins-not-same a h =
    let x = begins-p (λ s b x. a) h fresh_link in
    let y = begins-p (λ s b x. a) h (at 2 0 0 0 0 0) in
    let z : ◌≡◌ {A = ℕ} 0 1 = ap (λ (l : Link). l.count) (sym x.2 ∙ (ap (λ (t : Turned). t.link) (done-same (sym x.1 ∙ y.1)) ∙ y.2)) in
    omega arith

send-begins-not-idle : (a : Link → Bool → List ℕ → Action) → SaysSendBegins (idle_sender a) → ⊥
unfolding computes cable_computes
send-begins-not-idle a h =
    let x = begins-p (idle_sender a) h fresh_link in
    let z : ◌≡◌ {A = ℕ} 0 1 = ap (λ (l : Link). l.phase) (ap (λ (t : Turned). t.link) (done-same x.1) ∙ x.2) in
    omega arith

-- refused-link: given a set that is refused
abbrev SaysRefusedLink : Sender → Type 0
SaysRefusedLink S = (s : Link) (bytes : List ℕ) (r : Refusal) → blocks_of bytes ≡ refused r → (S s true bytes ≡ refused r) × (link_left s (S s true bytes) ≡ s)

refused-link-says : SaysRefusedLink send
refused-link-says = refused-link

refused-link-not-same : (a : Reply Turned) → SaysRefusedLink (λ s b x. a) → ⊥
refused-link-not-same a h =
    let e = sym (h fresh_link [] (refusal 1 0 0) blocks-none).0 ∙ (h fresh_link (p ++ p) (refusal 18 51 0) blocks-two-sets).0 in
    let z : ◌≡◌ {A = ℕ} 1 18 = ap (λ (y : Refusal). y.no) (refused-same e) in
    omega arith

refused-link-not-idle : (a : Link → Bool → List ℕ → Action) → SaysRefusedLink (idle_sender a) → ⊥
refused-link-not-idle a h = refused-done (sym (h fresh_link [] (refusal 1 0 0) blocks-none).0)

-- It says nothing of a set that is not refused: one that refuses all, these as it should, meets it. Shut out by `send-begins`.
abbrev why_not : Reply ℕ → Refusal
why_not (refused r) = r
why_not (done n) = refusal 1 0 0

refused-link-met-by-refusing : SaysRefusedLink (λ s b x. refused (why_not (blocks_of x)))
refused-link-met-by-refusing s bytes r e = (ap (λ (y : Reply ℕ). refused (why_not y)) e, refl)

-- The three together leave no other function.
send-only : (S : Sender) → SaysSendFollows S → SaysSendBegins S → SaysRefusedLink S → (s : Link) (b : Bool) (x : List ℕ) → S s b x ≡ send s b x
unfolding send
send-only S f g r s false x = send-follows-only S f s x
send-only S f g r s true x = go (blocks_of x) refl
  where
    go : (y : Reply ℕ) → blocks_of x ≡ y → S s true x ≡ send s true x
    go (refused w) e = (r s x w e).0 ∙ sym (refused-link s x w e).0
    go (done n) e =
        let a = g s x n e in
        let b = send-begins s x n e in
        let links : a.0.link ≡ b.0.link = begins-one a.2 b.2 in
        let actions : a.0.action ≡ b.0.action = a.3 ∙ (ap sends links ∙ sym b.3) in
        a.1 ∙ (ap done (λ i. record { link = links i; action = actions i }) ∙ sym b.1)

-- ---- "after at most 4n replies or timeouts"

-- `after` of any sender
abbrev after_of : Sender → Link → List (List ℕ) → Link
after_of S s [] = s
after_of S s (r ∷ rs) = after_of S (link_left s (S s false r)) rs

after_is : (s : Link) (rs : List (List ℕ)) → after_of send s rs ≡ after s rs
unfolding after
after_is s [] = refl
after_is s (r ∷ rs) = after_is (link_left s (send s false r)) rs

-- a sender that leaves the link as it was
abbrev Leaves : Sender → Type 0
Leaves S = (s : Link) (b : Bool) (x : List ℕ) → link_left s (S s b x) ≡ s

after-left : (S : Sender) → Leaves S → (s : Link) (rs : List (List ℕ)) → after_of S s rs ≡ s
after-left S k s [] = refl
after-left S k s (r ∷ rs) = ap (λ (l : Link). after_of S l rs) (k s false r) ∙ after-left S k s rs

after_same : (t : Turned) (rs : List (List ℕ)) → after_of (λ s b x. done t) t.link rs ≡ t.link
after_same t [] = refl
after_same t (r ∷ rs) = after_same t rs

not-ended : Ended fresh_link → ⊥
not-ended (inl e) = omega arith
not-ended (inr e) = omega arith

-- send-ends: given a set that has n blocks, and 4n replies or more
abbrev SaysSendEnds : Sender → Type 0
SaysSendEnds S = (s : Link) (bytes : List ℕ) (n : ℕ) → blocks_of bytes ≡ done n → (rs : List (List ℕ)) → 4 * n ≤ length rs → Ended (after_of S (link_left s (S s true bytes)) rs)

send-ends-says : SaysSendEnds send
send-ends-says s bytes n e rs l = subst Ended (sym (after_is (link_left s (send s true bytes)) rs)) (send-ends s bytes n e rs l)

timeouts : List (List ℕ)
timeouts = replicate 8 []

send-ends-not-left : (S : Sender) → Leaves S → SaysSendEnds S → ⊥
unfolding timeouts
send-ends-not-left S k h =
    not-ended (subst Ended (ap (λ (l : Link). after_of S l timeouts) (k fresh_link true p) ∙ after-left S k fresh_link timeouts) (h fresh_link p 2 blocks-p timeouts (omega arith)))

send-ends-not-refusing : (r : Link → Bool → List ℕ → Refusal) → SaysSendEnds (λ s b x. refused (r s b x)) → ⊥
send-ends-not-refusing r = send-ends-not-left (λ s b x. refused (r s b x)) (λ s b x. refl)

send-ends-not-idle : (a : Link → Bool → List ℕ → Action) → SaysSendEnds (idle_sender a) → ⊥
send-ends-not-idle a = send-ends-not-left (idle_sender a) (λ s b x. refl)

-- One that gives up at once, or says always that the set is delivered, meets it. Shut out by `send-begins`, `send-follows`.
send-ends-met-by-same : (t : Turned) → Ended t.link → SaysSendEnds (λ s b x. done t)
send-ends-met-by-same t k s bytes n e rs l = subst Ended (sym (after_same t rs)) k

-- ends-within: given n over 0, and 4n replies or more
abbrev SaysEndsWithin : (Link → ℕ → Turned) → Sender → Type 0
SaysEndsWithin G S = (s : Link) (n : ℕ) → 0 < n → (rs : List (List ℕ)) → 4 * n ≤ length rs → Ended (after_of S (G s n).link rs)

ends-within-says : SaysEndsWithin begun send
ends-within-says s n h rs l = subst Ended (sym (after_is (begun s n).link rs)) (ends-within s n h rs l)

-- one that begins nothing and never moves
ends-within-not-idle : (G : Link → ℕ → Turned) (S : Sender) → ((G fresh_link 2).link ≡ fresh_link) → Leaves S → SaysEndsWithin G S → ⊥
unfolding timeouts
ends-within-not-idle G S g k h =
    not-ended (subst Ended (ap (λ (l : Link). after_of S l timeouts) g ∙ after-left S k fresh_link timeouts) (h fresh_link 2 (omega arith) timeouts (omega arith)))

-- the same as above
ends-within-met-by-same : (t : Turned) → Ended t.link → SaysEndsWithin (λ s n. t) (λ s b x. done t)
ends-within-met-by-same t k s n h rs l = subst Ended (sym (after_same t rs)) k

-- stays-over: given a link that has come to an end
abbrev SaysStaysOver : Sender → Type 0
SaysStaysOver S = (s : Link) (rs : List (List ℕ)) → Ended s → after_of S s rs ≡ s

stays-over-says : SaysStaysOver send
stays-over-says s rs e = after_is s rs ∙ stays-over s rs e

stays-over-not-same : (t : Turned) → SaysStaysOver (λ s b x. done t) → ⊥
stays-over-not-same t h =
    let e = sym (h (at 2 0 0 0 0 0) ([] ∷ []) (inl refl)) ∙ h (at 3 0 0 0 0 0) ([] ∷ []) (inr refl) in
    let z : ◌≡◌ {A = ℕ} 2 3 = ap (λ (l : Link). l.phase) e in
    omega arith

-- Only the link is said, and only after the end: one that refuses all meets it, and so does an idle one. Shut out by `send-follows`.
stays-over-met-by-refusing : (r : Link → Bool → List ℕ → Refusal) → SaysStaysOver (λ s b x. refused (r s b x))
stays-over-met-by-refusing r s rs e = after-left (λ s b x. refused (r s b x)) (λ s b x. refl) s rs

stays-over-met-by-idle : (a : Link → Bool → List ℕ → Action) → SaysStaysOver (idle_sender a)
stays-over-met-by-idle a s rs e = after-left (idle_sender a) (λ s b x. refl) s rs

-- over-told: the same given
abbrev SaysOverTold : Turner → Type 0
SaysOverTold T = (s : Link) (r : List ℕ) → Ended s
    → (what_number (T s r).action ≡ s.phase) × (block_number (T s r).action ≡ 0) × (count_number (T s r).action ≡ 0)

over-told-says : SaysOverTold turn_of
over-told-says = over-told

over-told-not-same : (t : Turned) → SaysOverTold (λ s r. t) → ⊥
over-told-not-same t h =
    let z : ◌≡◌ {A = ℕ} 2 3 = sym (h (at 2 0 0 0 0 0) [] (inl refl)).0 ∙ (h (at 3 0 0 0 0 0) [] (inr refl)).0 in
    omega arith

-- One that never moves the link and answers its phase meets it. Shut out by `turn-follows`.
over-told-met-by-idle : SaysOverTold (λ s r. record { link = s; action = end_of s })
unfolding end_of
over-told-met-by-idle s r (inl e) = rw e (refl, refl, refl)
over-told-met-by-idle s r (inr e) = rw e (refl, refl, refl)

-- ---- the data of a set

abbrev Streamer : Type 0
Streamer = List Field → List ℕ

sound-p : Every Sound p_lines
sound-p = (accepted p (parsed p_lines []) read-p).standing.sound

sound-q : Every Sound q_lines
sound-q = (accepted q (parsed q_lines []) read-q).standing.sound

-- the lines joined by their 0Dh 0Ah, as they stand in the set
abbrev kept_ends : Streamer
kept_ends [] = []
kept_ends (f ∷ []) = bare_then f []
kept_ends (f ∷ g ∷ fs) = bare_then f (cr ∷ lf ∷ kept_ends (g ∷ fs))

-- stream-back: given lines that can be written
abbrev SaysStreamBack : Streamer → Type 0
SaysStreamBack S = (f : Field) (fs : List Field) → Every Sound (f ∷ fs) → restored (S (f ∷ fs)) ++ (cr ∷ lf ∷ []) ≡ render (f ∷ fs) []

stream-back-says : SaysStreamBack stream
stream-back-says = stream-back

stream-back-not-same : (x : List ℕ) → SaysStreamBack (λ fs. x) → ⊥
unfolding computes p_lines q_lines
stream-back-not-same x h =
    let e = sym (h (line 8000 "6300") (drop 1 p_lines) sound-p) ∙ h (line 8000 "6300") (drop 1 q_lines) sound-q in
    let z : ◌≡◌ {A = ℕ} 51 55 = ap length e in
    omega arith

-- Data that keep 0Dh 0Ah meet it, since nothing but 1Ch is put back. Shut out by `stream-data`, `stream-length`.
restored-line : (f : Field) (t : List ℕ) → Sound f → restored (bare_then f t) ≡ bare_then f (restored t)
restored-line f t h =
    restored-high (digits 3 (line_size f)) _ (digits-high (digits 3 (line_size f)) (digits-all 3 (line_size f)))
    ∙ ap (λ (u : List ℕ). digits 3 (line_size f) ++ u)
    (restored-high (digits 4 f.label) _ (digits-high (digits 4 f.label) (digits-all 4 f.label))
    ∙ ap (λ (u : List ℕ). digits 4 f.label ++ u) (restored-high f.content t h.no-low))

stream-back-met-by-kept-ends : SaysStreamBack kept_ends
unfolding restored
stream-back-met-by-kept-ends f [] h = ap (λ (u : List ℕ). u ++ (cr ∷ lf ∷ [])) (restored-line f [] h.0) ∙ bare-end f [] (cr ∷ lf ∷ [])
stream-back-met-by-kept-ends f (g ∷ fs) h =
    ap (λ (u : List ℕ). u ++ (cr ∷ lf ∷ [])) (restored-line f (cr ∷ lf ∷ kept_ends (g ∷ fs)) h.0)
    ∙ (bare-end f (cr ∷ lf ∷ restored (kept_ends (g ∷ fs))) (cr ∷ lf ∷ [])
    ∙ ap (λ (u : List ℕ). bare_then f (cr ∷ lf ∷ u)) (stream-back-met-by-kept-ends g fs h.1))

-- stream-data: the same given
abbrev SaysStreamData : Streamer → Type 0
SaysStreamData S = (fs : List Field) → Every Sound fs → all_data (S fs) ≡ true

stream-data-says : SaysStreamData stream
stream-data-says = stream-data

stream-data-not-kept-ends : SaysStreamData kept_ends → ⊥
unfolding computes p_lines
stream-data-not-kept-ends h = true≢false (sym (h p_lines sound-p))

-- No data always meet it, and any other data without bytes under 20h. Shut out by `stream-back`.
stream-data-met-by-same : (x : List ℕ) → all_data x ≡ true → SaysStreamData (λ fs. x)
stream-data-met-by-same x k fs h = k

-- stream-length: nothing given
abbrev SaysStreamLength : Streamer → Type 0
SaysStreamLength S = (f : Field) (fs : List Field) → length (S (f ∷ fs)) + (length (f ∷ fs) + 1) ≡ size (f ∷ fs)

stream-length-says : SaysStreamLength stream
stream-length-says = stream-length

stream-length-not-same : (x : List ℕ) → SaysStreamLength (λ fs. x) → ⊥
unfolding computes
stream-length-not-same x h =
    let a : length x + 2 ≡ 13 = h (line 8000 "6300") [] in
    let b : length x + 2 ≡ 14 = h (line 8100 "00051") [] in
    omega arith

stream-length-not-kept-ends : SaysStreamLength kept_ends → ⊥
unfolding computes p_lines
stream-length-not-kept-ends h = let z : ◌≡◌ {A = ℕ} 54 51 = h (line 8000 "6300") (drop 1 p_lines) in omega arith

-- As many bytes of whatever kind meet it. Shut out by `stream-back`.
stream-length-met-by-zeros : SaysStreamLength (λ fs. replicate (length (stream fs)) 0)
stream-length-met-by-zeros f fs = omega (arith, stream-length f fs, length-replicate {A = ℕ} (length (stream (f ∷ fs))) 0)

-- data-of-set: given a set alone in its bytes
abbrev SaysDataOfSet : Streamer → Type 0
SaysDataOfSet S = (s : List ℕ) (fs : List Field) → set_alone s ≡ done fs → length (S fs) ≡ size fs - length fs - 1

data-of-set-says : SaysDataOfSet stream
data-of-set-says = data-of-set

data-of-set-not-same : (x : List ℕ) → SaysDataOfSet (λ fs. x) → ⊥
unfolding computes p_lines q_lines
data-of-set-not-same x h =
    let a : length x ≡ 46 = h p p_lines (set-alone p p_lines read-p) in
    let b : length x ≡ 50 = h q q_lines (set-alone q q_lines read-q) in
    omega arith

-- the same as above
data-of-set-met-by-zeros : SaysDataOfSet (λ fs. replicate (length (stream fs)) 0)
data-of-set-met-by-zeros s fs e = length-replicate {A = ℕ} (length (stream fs)) 0 ∙ data-of-set s fs e

-- ---- blocks

abbrev Counter : Type 0
Counter = List ℕ → ℕ

abbrev Cutter : Type 0
Cutter = List ℕ → ℕ → List ℕ

-- `joined` of any cutter
abbrev joined_of : Cutter → List ℕ → ℕ → List ℕ
joined_of D x zero = []
joined_of D x (suc n) = joined_of D x n ++ D x n

joined_is : (x : List ℕ) (n : ℕ) → joined_of block_data x n ≡ joined x n
unfolding joined
joined_is x zero = refl
joined_is x (suc n) = ap (λ (y : List ℕ). y ++ block_data x n) (joined_is x n)

-- blocks-join: nothing given
abbrev SaysBlocksJoin : Counter → Cutter → Type 0
SaysBlocksJoin C D = (x : List ℕ) → joined_of D x (C x) ≡ x

blocks-join-says : SaysBlocksJoin block_count block_data
blocks-join-says x = joined_is x (block_count x) ∙ blocks-join x

-- no data in any block; no block
blocks-join-not-none : (C : Counter) → SaysBlocksJoin C (λ x i. []) → ⊥
blocks-join-not-none C h = let z : ◌≡◌ {A = ℕ} 0 1 = ap length (sym (none (C (0 ∷ []))) ∙ h (0 ∷ [])) in omega arith
  where
    none : (n : ℕ) → joined_of (λ x i. []) (0 ∷ []) n ≡ []
    none zero = refl
    none (suc n) = ap (λ (y : List ℕ). y ++ []) (none n)

blocks-join-not-zero : (D : Cutter) → SaysBlocksJoin (λ x. 0) D → ⊥
blocks-join-not-zero D h = let z : ◌≡◌ {A = ℕ} 0 1 = ap length (h (0 ∷ [])) in omega arith

-- All data in one block meet it. Shut out by `data-length`, `count-least`, `cuts`.
blocks-join-met-by-one-block : SaysBlocksJoin (λ x. 1) (λ x i. x)
blocks-join-met-by-one-block x = refl

-- One byte a block, too. Shut out by `cuts`.
blocks-join-met-by-one-byte : SaysBlocksJoin length (λ x i. take 1 (drop i x))
blocks-join-met-by-one-byte x = first (length x) ∙ take_all (length x) x (omega arith)
  where
    first : (n : ℕ) → joined_of (λ y i. take 1 (drop i y)) x n ≡ take n x
    first zero = refl
    first (suc n) = ap (λ (y : List ℕ). y ++ take 1 (drop n x)) (first n) ∙ (sym (take-add n 1 x) ∙ ap (λ (k : ℕ). take k x) (add-one n))

-- data-length: nothing given
abbrev SaysDataLength : Cutter → Type 0
SaysDataLength D = (x : List ℕ) (i : ℕ) → length (D x i) ≤ 128

data-length-says : SaysDataLength block_data
data-length-says = data-length

data-length-not-one-block : SaysDataLength (λ x i. x) → ⊥
data-length-not-one-block h = omega (arith, h (replicate 129 0) 0, length-replicate {A = ℕ} 129 0)

-- No data always, or any other few, meet it. Shut out by `blocks-join`.
data-length-met-by-same : (y : List ℕ) → length y ≤ 128 → SaysDataLength (λ x i. y)
data-length-met-by-same y k x i = k

-- count-least: nothing given
abbrev SaysCountLeast : Counter → Type 0
SaysCountLeast C = (x : List ℕ) → 2 ≤ C x

count-least-says : SaysCountLeast block_count
count-least-says = count-least

count-least-not-one : SaysCountLeast (λ x. 1) → ⊥
count-least-not-one h = omega (arith, h [])

-- Always 2, or any other number over 1, meets it. Shut out by `cuts`.
count-least-met-by-same : (n : ℕ) → 2 ≤ n → SaysCountLeast (λ x. n)
count-least-met-by-same n k x = k

-- cuts: nothing given. Any count and cuts in the place of `block_count` and `cut_at`
data CutsOf (C : Counter) (A : List ℕ → ℕ → ℕ) (x : List ℕ) : Type 0 where
  one : length x ≤ 128 → C x ≡ 2 → A x 0 ≡ 0 → A x 1 ≡ through_first x → ((i : ℕ) → 2 ≤ i → A x i ≡ length x) → CutsOf C A x
  many : 128 < length x → C x ≡ (length x + 127) / 128 → ((i : ℕ) → A x i ≡ 128 * i) → CutsOf C A x

abbrev SaysCuts : Counter → (List ℕ → ℕ → ℕ) → Type 0
SaysCuts C A = (x : List ℕ) → CutsOf C A x

cuts-says : SaysCuts block_count cut_at
cuts-says x = go (cuts x)
  where
    go : Cuts x → CutsOf block_count cut_at x
    go (cut-one l n a b c) = one l n a b c
    go (cut-many l n a) = many l n a

-- how many blocks there are leaves no choice
cuts-count : (C : Counter) (A : List ℕ → ℕ → ℕ) → SaysCuts C A → (x : List ℕ) → C x ≡ block_count x
cuts-count C A h x = go (h x) (cuts x)
  where
    go : CutsOf C A x → Cuts x → C x ≡ block_count x
    go (one l n a b c) (cut-one m k d f g) = n ∙ sym k
    go (one l n a b c) (cut-many m k d) = absurd (omega arith)
    go (many l n a) (cut-one m k d f g) = absurd (omega arith)
    go (many l n a) (cut-many m k d) = n ∙ sym k

-- nor do the cuts
cuts-cut : (C : Counter) (A : List ℕ → ℕ → ℕ) → SaysCuts C A → (x : List ℕ) (i : ℕ) → A x i ≡ cut_at x i
cuts-cut C A h x i = go (h x) (cuts x) i
  where
    go : CutsOf C A x → Cuts x → (j : ℕ) → A x j ≡ cut_at x j
    go (one l n a b c) (cut-one m k d f g) zero = a ∙ sym d
    go (one l n a b c) (cut-one m k d f g) (suc zero) = b ∙ sym f
    go (one l n a b c) (cut-one m k d f g) (suc (suc j)) = c (suc (suc j)) (omega arith) ∙ sym (g (suc (suc j)) (omega arith))
    go (one l n a b c) (cut-many m k d) j = absurd (omega arith)
    go (many l n a) (cut-one m k d f g) j = absurd (omega arith)
    go (many l n a) (cut-many m k d) j = a j ∙ sym (d j)

cuts-not-same-count : (n : ℕ) (A : List ℕ → ℕ → ℕ) → SaysCuts (λ x. n) A → ⊥
unfolding computes cable_computes
cuts-not-same-count n A h =
    let a : n ≡ 2 = cuts-count (λ x. n) A h [] in
    let b : n ≡ 3 = cuts-count (λ x. n) A h (replicate 257 0) in
    omega arith

cuts-not-same-cut : (C : Counter) (k : ℕ) → SaysCuts C (λ x i. k) → ⊥
unfolding computes cable_computes
cuts-not-same-cut C k h =
    let a : k ≡ 0 = cuts-cut C (λ x i. k) h (0 ∷ []) 0 in
    let b : k ≡ 1 = cuts-cut C (λ x i. k) h (0 ∷ []) 2 in
    omega arith

-- two_blocks: given a number of blocks that is answered
abbrev SaysTwoBlocks : (List ℕ → Reply ℕ) → Type 0
SaysTwoBlocks B = (s : List ℕ) (n : ℕ) → B s ≡ done n → 2 ≤ n

two-blocks-says : SaysTwoBlocks blocks_of
two-blocks-says = two_blocks

two-blocks-not-one : SaysTwoBlocks (λ s. done 1) → ⊥
two-blocks-not-one h = omega (arith, h [] 1 refl)

-- Refuses all, or answers always 2: shut out by `carried`, `cuts`, with `set-alone`.
two-blocks-met-by-refusing : (r : List ℕ → Refusal) → SaysTwoBlocks (λ s. refused (r s))
two-blocks-met-by-refusing r s n e = refused-done e

two-blocks-met-by-same : SaysTwoBlocks (λ s. done 2)
two-blocks-met-by-same s n e = let z : 2 ≡ n = done-same e in omega arith

-- block_read: given a count of one digit, a label of the three and at most 128 data bytes
abbrev SaysBlockRead : (ℕ → ℕ → List ℕ → List ℕ) → (List ℕ → List Fault) → Type 0
SaysBlockRead W F =
    (count label : ℕ) (x : List ℕ) → Writable count label x
    → (F (W count label x) ≡ []) × (count_of (W count label x) ≡ count) × (label_of (W count label x) ≡ label) × (data_of (W count label x) ≡ x)

block-read-says : SaysBlockRead block_bytes block_faults
block-read-says count label x w = let b = block_read count label x w in (b.faultless, b.count-is, b.label-is, b.data_is)

-- no data, with any count of one digit
empty-writable : (count : ℕ) → count ≤ 9 → Writable count 0 []
empty-writable count k = record { count_fits = k; label-fits = omega arith; length-fits = omega arith; data-only = refl }

block-read-not-same : (b : List ℕ) (F : List ℕ → List Fault) → SaysBlockRead (λ count label x. b) F → ⊥
block-read-not-same b F h =
    let z : ◌≡◌ {A = ℕ} 0 1 = sym (h 0 0 [] (empty-writable 0 (omega arith))).1 ∙ (h 1 0 [] (empty-writable 1 (omega arith))).1 in
    omega arith

-- a receiver that finds a fault in every block
block-read-not-refusing : (W : ℕ → ℕ → List ℕ → List ℕ) (f : List ℕ → Fault) → SaysBlockRead W (λ b. f b ∷ []) → ⊥
block-read-not-refusing W f h = cons≢nil (h 0 0 [] (empty-writable 0 (omega arith))).0

-- Four zeros for the CRC, and no block has a fault: both meet it. Shut out by `crc-vectors` and `one-byte-seen`.
abbrev without_crc : ℕ → ℕ → List ℕ → List ℕ
without_crc count label x = block_front count label x ++ tail_of (hex_digits 0)

block-read-met-by-no-crc : SaysBlockRead without_crc (λ b. [])
block-read-met-by-no-crc count label x w =
    let long : length (without_crc count label x) ≡ length x + 9 = parts-length (block_front count label x) (hex_digits 0) refl ∙ omega arith in
    (refl, omega arith, omega arith, take_at x (tail_of (hex_digits 0)) (length (without_crc count label x) - 9) (omega (arith, long)))

-- crc-one: given a byte that another takes the place of
abbrev SaysCrcOne : (ℕ → List ℕ → ℕ) → Type 0
SaysCrcOne K = (x : List ℕ) (k v c : ℕ) → c < 65536 → k < length x → v < 256 → get_or x k 0 < 256 → K c (set x k v) ≡ K c x → v ≡ get_or x k 0

crc-one-says : SaysCrcOne crc_from
crc-one-says = crc-one

crc-one-not-same : (n : ℕ) → SaysCrcOne (λ c x. n) → ⊥
crc-one-not-same n h = let z : ◌≡◌ {A = ℕ} 1 0 = h (0 ∷ []) 0 1 0 (omega arith) (omega arith) (omega arith) (omega arith) refl in omega arith

-- The sum of the bytes meets it. Shut out by `crc-vectors`.
abbrev sum_from : ℕ → List ℕ → ℕ
sum_from c [] = c
sum_from c (b ∷ x) = b + sum_from c x

crc-one-met-by-sum : SaysCrcOne sum_from
crc-one-met-by-sum [] k v c h l p q e = absurd (omega arith)
crc-one-met-by-sum (b ∷ x) zero v c h l p q e = omega arith
crc-one-met-by-sum (b ∷ x) (suc k) v c h l p q e =
    let z : b + sum_from c (set x k v) ≡ b + sum_from c x = e in
    crc-one-met-by-sum x k v c h (omega arith) p q (omega arith)

-- the third vector
crc-vectors-not-sum : sum_from 0 (0x80 ∷ []) ≡ crc (0x80 ∷ []) → ⊥
unfolding computes cable_computes
crc-vectors-not-sum e = let z : ◌≡◌ {A = ℕ} 0x80 0x8303 = e in omega arith

-- ---- the receiver follows its table

abbrev Taker : Type 0
Taker = Receiver → List ℕ → List ℕ → ReceiveCall

-- leaves state and buffer as they were, whatever it answers
abbrev idle_taker : (Receiver → List ℕ → List ℕ → Reply ℕ) → Taker
idle_taker a st buf b = keeping st buf (a st buf b)

abbrev refusing_taker : (Receiver → List ℕ → List ℕ → Refusal) → Taker
refusing_taker r st buf b = keeping st buf (refused (r st buf b))

abbrev fresh_receiver : Receiver
fresh_receiver = record { started = 0; last = 0; partial = 0; used = 0 }

abbrev eight : List ℕ
eight = replicate 8 7

-- 0B00 with two bytes: a fresh receiver takes it
first_block : List ℕ
first_block = block_bytes 0 0 (text "ab")

took-first : receive fresh_receiver eight first_block
    ≡ record { answer = done 1; state = record { started = 1; last = 0; partial = 1; used = 2 }; buffer = text "ab" ++ replicate 6 0 }
unfolding computes cable_computes first_block
took-first = refl

-- receive-follows: nothing given
abbrev SaysReceiveFollows : Taker → Type 0
SaysReceiveFollows R = (st : Receiver) (buf b : List ℕ) → Takes st buf b (R st buf b)

receive-follows-says : SaysReceiveFollows receive
receive-follows-says = receive-follows

-- No other function meets it: the rows leave no choice (`takes_one`).
receive-follows-only : (R : Taker) → SaysReceiveFollows R → (st : Receiver) (buf b : List ℕ) → R st buf b ≡ receive st buf b
receive-follows-only R h st buf b = sym (takes-receive (h st buf b))

receive-follows-not-refusing : (r : Receiver → List ℕ → List ℕ → Refusal) → SaysReceiveFollows (refusing_taker r) → ⊥
receive-follows-not-refusing r h = refused-done (ap (λ (y : ReceiveCall). y.answer) (receive-follows-only (refusing_taker r) h fresh_receiver eight first_block ∙ took-first))

receive-follows-not-same : (c : ReceiveCall) → SaysReceiveFollows (λ st buf b. c) → ⊥
unfolding computes cable_computes
receive-follows-not-same c h =
    let e = sym (receive-follows-only (λ st buf b. c) h fresh_receiver [] []) ∙ receive-follows-only (λ st buf b. c) h fresh_receiver (7 ∷ []) [] in
    let z : ◌≡◌ {A = ℕ} 0 1 = ap (λ (y : ReceiveCall). length y.buffer) e in
    omega arith

receive-follows-not-idle : (a : Receiver → List ℕ → List ℕ → Reply ℕ) → SaysReceiveFollows (idle_taker a) → ⊥
receive-follows-not-idle a h =
    let z : ◌≡◌ {A = ℕ} 0 1 = ap (λ (y : ReceiveCall). y.state.started) (receive-follows-only (idle_taker a) h fresh_receiver eight first_block ∙ took-first) in
    omega arith

-- ---- what a call of the receiver does

-- receive-outcome: nothing given
abbrev SaysReceiveOutcome : Taker → Type 0
SaysReceiveOutcome R = (st : Receiver) (buf b : List ℕ) → Outcome st buf (R st buf b)

receive-outcome-says : SaysReceiveOutcome receive
receive-outcome-says = receive-outcome

-- the buffer is as long as it was
outcome-length : (st : Receiver) (buf : List ℕ) (r : ReceiveCall) → Outcome st buf r → length r.buffer ≡ length buf
outcome-length st buf r (kept x n e) = ap (λ (y : ReceiveCall). length y.buffer) e
outcome-length st buf r (once-more e) = ap (λ (y : ReceiveCall). length y.buffer) e
outcome-length st buf r (took w n e l) = l

receive-outcome-not-same : (c : ReceiveCall) → SaysReceiveOutcome (λ st buf b. c) → ⊥
receive-outcome-not-same c h =
    let z : ◌≡◌ {A = ℕ} 0 1 = sym (outcome-length fresh_receiver [] c (h fresh_receiver [] [])) ∙ outcome-length fresh_receiver (7 ∷ []) c (h fresh_receiver (7 ∷ []) []) in
    omega arith

-- Refuses all by 22, or acknowledges all again and takes none: shut out by `receive-follows`.
receive-outcome-met-by-refusing : SaysReceiveOutcome (refusing_taker (λ st buf b. refusal 22 0 0))
receive-outcome-met-by-refusing st buf b = kept (refusal 22 0 0) (inl refl) refl

receive-outcome-met-by-idle : SaysReceiveOutcome (idle_taker (λ st buf b. done is_again))
receive-outcome-met-by-idle st buf b = once-more refl

-- kept-by: nothing given
abbrev SaysKeptBy : Taker → Type 0
SaysKeptBy R = (st : Receiver) (buf b : List ℕ) → kept_by st (received_call (R st buf b)) ≡ (R st buf b).state

kept-by-says : SaysKeptBy receive
kept-by-says = kept-by

-- one that refuses and starts anew
kept-by-not-forgetting : (r : Refusal) → SaysKeptBy (λ st buf b. record { answer = refused r; state = fresh_receiver; buffer = buf }) → ⊥
kept-by-not-forgetting r h =
    let z : ◌≡◌ {A = ℕ} 1 0 = ap (λ (y : Receiver). y.started) (h (record { started = 1; last = 0; partial = 0; used = 0 }) [] []) in
    omega arith

-- It says only that the answer tells the state: refuses all, the same always, idle. Shut out by `receive-follows`.
kept-by-met-by-refusing : (r : Receiver → List ℕ → List ℕ → Refusal) → SaysKeptBy (refusing_taker r)
kept-by-met-by-refusing r st buf b = refl

kept-by-met-by-same : (w : ℕ) (t : Receiver) (x : List ℕ) → SaysKeptBy (λ st buf b. record { answer = done w; state = t; buffer = x })
kept-by-met-by-same w t x st buf b = refl

kept-by-met-by-idle : (a : Receiver → List ℕ → List ℕ → Reply ℕ) → SaysKeptBy (idle_taker a)
kept-by-met-by-idle a st buf b = go (a st buf b)
  where
    go : (y : Reply ℕ) → kept_by st (received_call (keeping st buf y)) ≡ st
    go (refused r) = refl
    go (done w) = refl

-- ---- one byte changed

-- one-byte-seen: given a block that was written, of which another byte takes the place of one
abbrev SaysOneByteSeen : (List ℕ → List Fault) → Type 0
SaysOneByteSeen F =
    (count label : ℕ) (x : List ℕ) → Writable count label x → Every (λ b. b < 256) x
    → (k v : ℕ) → k < length (block_bytes count label x) → v < 256 → v ≢ get_or (block_bytes count label x) k 0 → F (set (block_bytes count label x) k v) ≢ []

one-byte-seen-says : SaysOneByteSeen block_faults
one-byte-seen-says = one-byte-seen

-- 0B00 without data has the CRC 6582h; its last digit is changed to 3
changed-length : 7 < length (block_bytes 0 0 [])
unfolding computes cable_computes
changed-length = omega arith

changed-other : 51 ≢ get_or (block_bytes 0 0 []) 7 0
unfolding computes cable_computes
changed-other e = let z : ◌≡◌ {A = ℕ} 51 50 = e in omega arith

one-byte-seen-not-faultless : SaysOneByteSeen (λ b. []) → ⊥
one-byte-seen-not-faultless h = h 0 0 [] (empty-writable 0 (omega arith)) tt 7 51 changed-length (omega arith) changed-other refl

-- A fault in every block: shut out by `block_read`.
one-byte-seen-met-by-refusing : (f : List ℕ → Fault) → SaysOneByteSeen (λ b. f b ∷ [])
one-byte-seen-met-by-refusing f count label x w h k v l vb n e = cons≢nil e

-- one-byte: the same given
abbrev SaysOneByte : Taker → Type 0
SaysOneByte R =
    (count label : ℕ) (x : List ℕ) → Writable count label x → Every (λ b. b < 256) x
    → (k v : ℕ) → k < length (block_bytes count label x) → v < 256 → v ≢ get_or (block_bytes count label x) k 0 → (st : Receiver) (buf : List ℕ)
    → (R st buf (set (block_bytes count label x) k v) ≡ refusing st buf bad_block) ⊎ (R st buf (set (block_bytes count label x) k v) ≡ refusing st buf bad_crc)

one-byte-says : SaysOneByte receive
one-byte-says = one-byte

-- what it asks of that block: it is refused, and state and buffer stay
module _ (R : Taker) (h : SaysOneByte R) (st : Receiver) (buf : List ℕ) where
  abbrev damaged : List ℕ
  damaged = set (block_bytes 0 0 []) 7 51

  damaged-refused : (r : Refusal) × (R st buf damaged ≡ keeping st buf (refused r))
  damaged-refused = go (h 0 0 [] (empty-writable 0 (omega arith)) tt 7 51 changed-length (omega arith) changed-other st buf)
    where
      go : (R st buf damaged ≡ refusing st buf bad_block) ⊎ (R st buf damaged ≡ refusing st buf bad_crc) → (r : Refusal) × (R st buf damaged ≡ keeping st buf (refused r))
      go (inl e) = (refusal bad_block 0 0, e)
      go (inr e) = (refusal bad_crc 0 0, e)

one-byte-not-same : (c : ReceiveCall) → SaysOneByte (λ st buf b. c) → ⊥
one-byte-not-same c h =
    let e = sym (damaged-refused (λ st buf b. c) h fresh_receiver []).1 ∙ (damaged-refused (λ st buf b. c) h fresh_receiver (7 ∷ [])).1 in
    let z : ◌≡◌ {A = ℕ} 0 1 = ap (λ (y : ReceiveCall). length y.buffer) e in
    omega arith

-- one that refuses nothing and writes nothing
one-byte-not-idle : (w : Receiver → List ℕ → List ℕ → ℕ) → SaysOneByte (idle_taker (λ st buf b. done (w st buf b))) → ⊥
one-byte-not-idle w h = refused-done (ap (λ (y : ReceiveCall). y.answer) (sym (damaged-refused (idle_taker (λ st buf b. done (w st buf b))) h fresh_receiver []).1))

-- one that looks at the form alone
abbrev skips_crc : Taker
skips_crc st buf b = by_faults st buf (ask (form_ok b) (at_line bad_block 0 0)) (turned st buf (count_of b) (label_of b) (data_of b))

one-byte-not-skipping : SaysOneByte skips_crc → ⊥
unfolding computes cable_computes
one-byte-not-skipping h = refused-done (ap (λ (y : ReceiveCall). y.answer) (sym (damaged-refused skips_crc h fresh_receiver []).1))

-- Refuses all by 25: shut out by `receive-follows`, `carried`.
one-byte-met-by-refusing : SaysOneByte (refusing_taker (λ st buf b. refusal bad_block 0 0))
one-byte-met-by-refusing count label x w h k v l vb n st buf = inl refl

-- ---- both ends together

-- Carrying of any sender, any maker of blocks and any receiver
abbrev Blocker : Type 0
Blocker = List ℕ → ℕ → ℕ → Reply (List ℕ)

abbrev begins_of : Sender → List ℕ → Cable → Cable
begins_of S s w = record { link = link_left w.link (S w.link true s); got = w.got }

module _ (S : Sender) (B : Blocker) (R : Taker) (s : List ℕ) where
  abbrev arrives_of : Cable → ReceiveCall
  arrives_of w = R w.got.state w.got.buffer (bytes_or (B s w.link.block w.link.count))

  abbrev exchange_of : Cable → Cable
  exchange_of w = record { link = link_left w.link (S w.link false (ack_of (arrives_of w).answer)); got = arrives_of w }

  abbrev exchanges_of : ℕ → Cable → Cable
  exchanges_of zero w = w
  exchanges_of (suc n) w = exchange_of (exchanges_of n w)

exchanges-are : (s : List ℕ) (n : ℕ) (w : Cable) → exchanges_of send block receive s n w ≡ exchanges s n w
unfolding exchanges exchange arrives send
exchanges-are s zero w = refl
exchanges-are s (suc n) w = ap (exchange s) (exchanges-are s n w)

exchanges-from : (s : List ℕ) (n : ℕ) (w : Cable) → exchanges_of send block receive s n (begins_of send s w) ≡ exchanges s n (begins s w)
unfolding begins
exchanges-from s n w = exchanges-are s n (begins s w)

-- a fresh sender and a fresh receiver with room for 60 bytes
sixty : List ℕ
sixty = replicate 60 7

abbrev at_start : Cable
at_start = record { link = fresh_link; got = keeping fresh_receiver sixty (done 0) }

start-agrees : Agree fresh_link fresh_receiver
start-agrees = let other : fresh_link.phase ≢ delivered = λ e. omega arith in from_zero other

room-p : length p ≤ length sixty
unfolding p sixty
room-p = omega arith

room-q : length q ≤ length sixty
unfolding q sixty
room-q = omega arith

count-p : block_count (stream p_lines) ≡ 2
unfolding computes cable_computes p_lines
count-p = refl

count-q : block_count (stream q_lines) ≡ 2
unfolding computes cable_computes q_lines
count-q = refl

-- carried: given an accepted set alone in its bytes, two ends that agree, and room
abbrev SaysCarried : Sender → Blocker → Taker → Type 0
SaysCarried S B R =
    (s : List ℕ) (fs : List Field) → read s ≡ done (parsed fs []) → (w : Cable) → Agree w.link w.got.state → length s ≤ length w.got.buffer
    → Arrived s w.got.buffer (exchanges_of S B R s (block_count (stream fs)) (begins_of S s w))

carried-says : SaysCarried send block receive
carried-says s fs e w agree room = subst (Arrived s w.got.buffer) (sym (exchanges-from s (block_count (stream fs)) w)) (carried s fs e w agree room)

-- what it asks of P, and of the other set
carried-p : (S : Sender) (B : Blocker) (R : Taker) → SaysCarried S B R → Arrived p sixty (exchanges_of S B R p 2 (begins_of S p at_start))
carried-p S B R h = subst (λ (n : ℕ). Arrived p sixty (exchanges_of S B R p n (begins_of S p at_start))) count-p (h p p_lines read-p at_start start-agrees room-p)

carried-q : (S : Sender) (B : Blocker) (R : Taker) → SaysCarried S B R → Arrived q sixty (exchanges_of S B R q 2 (begins_of S q at_start))
carried-q S B R h = subst (λ (n : ℕ). Arrived q sixty (exchanges_of S B R q n (begins_of S q at_start))) count-q (h q q_lines read-q at_start start-agrees room-q)

-- a sender that leaves the link as it was
links-left : (S : Sender) (B : Blocker) (R : Taker) → Leaves S → (s : List ℕ) (n : ℕ) (w : Cable) → (exchanges_of S B R s n w).link ≡ w.link
links-left S B R k s zero w = refl
links-left S B R k s (suc n) w = k _ false _ ∙ links-left S B R k s n w

carried-not-left : (S : Sender) (B : Blocker) (R : Taker) → Leaves S → SaysCarried S B R → ⊥
carried-not-left S B R k h =
    let z : ◌≡◌ {A = ℕ} 0 2 =
    ap (λ (l : Link). l.phase) (sym (links-left S B R k p 2 (begins_of S p at_start) ∙ k fresh_link true p)) ∙ (carried-p S B R h).was-delivered in
    omega arith

carried-not-refusing-send : (r : Link → Bool → List ℕ → Refusal) (B : Blocker) (R : Taker) → SaysCarried (λ s b x. refused (r s b x)) B R → ⊥
carried-not-refusing-send r B R = carried-not-left (λ s b x. refused (r s b x)) B R (λ s b x. refl)

carried-not-idle-send : (a : Link → Bool → List ℕ → Action) (B : Blocker) (R : Taker) → SaysCarried (idle_sender a) B R → ⊥
carried-not-idle-send a B R = carried-not-left (idle_sender a) B R (λ s b x. refl)

-- in the buffer of 60 bytes stand the first bytes of P, or still 7
not-sixty : (x : List ℕ) → sixty ≡ p ++ x → ⊥
unfolding computes p sixty
not-sixty x e = let z : ◌≡◌ {A = ℕ} 7 48 = ap (λ (y : List ℕ). get_or y 0 0) e in omega arith

not-sixty-q : (x : List ℕ) → sixty ≡ q ++ x → ⊥
unfolding computes q sixty
not-sixty-q x e = let z : ◌≡◌ {A = ℕ} 7 48 = ap (λ (y : List ℕ). get_or y 0 0) e in omega arith

-- P and the other set differ in their 25th byte
not-both : (x y z : List ℕ) → x ≡ p ++ y → x ≡ q ++ z → ⊥
unfolding computes p q
not-both x y z e f = let n : ◌≡◌ {A = ℕ} 49 53 = ap (λ (u : List ℕ). get_or u 24 0) (sym e ∙ f) in omega arith

-- a receiver that leaves its buffer as it was, whatever it answers
carried-not-idle-receive : (S : Sender) (B : Blocker) (a : Receiver → List ℕ → List ℕ → Reply ℕ) → SaysCarried S B (idle_taker a) → ⊥
carried-not-idle-receive S B a h = not-sixty _ (carried-p S B (idle_taker a) h).buffer-is

carried-not-refusing-receive : (S : Sender) (B : Blocker) (r : Receiver → List ℕ → List ℕ → Refusal) → SaysCarried S B (refusing_taker r) → ⊥
carried-not-refusing-receive S B r h = not-sixty _ (carried-p S B (refusing_taker r) h).buffer-is

carried-not-same-receive : (S : Sender) (B : Blocker) (c : ReceiveCall) → SaysCarried S B (λ st buf b. c) → ⊥
carried-not-same-receive S B c h = not-both c.buffer _ _ (carried-p S B (λ st buf b. c) h).buffer-is (carried-q S B (λ st buf b. c) h).buffer-is

-- A receiver that is given always the same bytes b has taken nothing yet, or has a set open: they are B00 with count 0, and it starts afresh each time.
data Stuck (b : List ℕ) (st : Receiver) : Type 0 where
  took-none : st.started ≡ 0 → Stuck b st
  is-open : st.partial ≢ 0 → count_of b ≡ 0 → Stuck b st

stuck-on : (b : List ℕ) (st : Receiver) (buf : List ℕ) → Stuck b st → Stuck b (receive st buf b).state
unfolding open_by
stuck-on b st buf k = go (receive st buf b) (receive-follows st buf b) k
  where
    -- only B00 with count 0 can be in turn, and then a set is open
    in-turn : (a used : ℕ) → TakenAt st b a → Stuck b st → Stuck b (took_one (count_of b) (open_by (label_of b)) used)
    in-turn a used (afresh z h) m = is-open (λ o. let y : ◌≡◌ {A = ℕ} 1 0 = ap open_by (sym h) ∙ o in omega arith) z
    in-turn a used (goes-on z n q h) (took-none u) = absurd (n.0 u)
    in-turn a used (goes-on z n q h) (is-open u v) = absurd (z v)
    in-turn a used (ends z n q h) (took-none u) = absurd (n.0 u)
    in-turn a used (ends z n q h) (is-open u v) = absurd (z v)
    in-turn a used (next-set z n q h) (took-none u) = absurd (n.0 u)
    in-turn a used (next-set z n q h) (is-open u v) = absurd (z v)

    go : (c : ReceiveCall) → Takes st buf b c → Stuck b st → Stuck b c.state
    go c (bad-form f) m = m
    go c (bad-crc f g) m = m
    go c (zero-other f z h) m = m
    go c (last-again f z h) m = m
    go c (label-in-set f z n q h) m = m
    go c (label-no-set f z n q h) m = m
    go c (other-count f z h n) m = m
    go c (fitted {at = a} f t l) m = in-turn a _ t m
    go c (no-room f t l) m = m

stuck-not-arrived : (b s buf : List ℕ) (w : Cable) → Arrived s buf w → Stuck b w.got.state → ⊥
stuck-not-arrived b s buf w a k = go a.agreed k
  where
    go : Agree w.link w.got.state → Stuck b w.got.state → ⊥
    go (from_zero n) m = n a.was-delivered
    go (agree_on d started closed last) (took-none u) = started u
    go (agree_on d started closed last) (is-open u v) = u closed

-- the sender's answer is always the same: it asks for the same block each time
carried-not-same-send : (t : Turned) (B : Blocker) → SaysCarried (λ s b x. done t) B receive → ⊥
carried-not-same-send t B h =
    let b : List ℕ = bytes_or (B p t.link.block t.link.count) in
    stuck-not-arrived b p sixty _ (carried-p (λ s b x. done t) B receive h) (stuck-on b _ _ (stuck-on b fresh_receiver sixty (took-none refl)))

carried-not-same-block : (S : Sender) (a : Reply (List ℕ)) → SaysCarried S (λ s i c. a) receive → ⊥
carried-not-same-block S a h =
    stuck-not-arrived (bytes_or a) p sixty _ (carried-p S (λ s i c. a) receive h) (stuck-on (bytes_or a) _ _ (stuck-on (bytes_or a) fresh_receiver sixty (took-none refl)))

carried-not-refusing-block : (S : Sender) (r : List ℕ → ℕ → ℕ → Refusal) → SaysCarried S (λ s i c. refused (r s i c)) receive → ⊥
carried-not-refusing-block S r h =
    stuck-not-arrived [] p sixty _ (carried-p S (λ s i c. refused (r s i c)) receive h) (stuck-on [] _ _ (stuck-on [] fresh_receiver sixty (took-none refl)))

-- carried-part: the same given, and a number of exchanges before the last
abbrev SaysCarriedPart : Sender → Blocker → Taker → Type 0
SaysCarriedPart S B R =
    (s : List ℕ) (fs : List Field) → read s ≡ done (parsed fs []) → (w : Cable) → Agree w.link w.got.state → length s ≤ length w.got.buffer
    → (i : ℕ) → 0 < i → i < block_count (stream fs) → UnderWay (stream fs) w.got.buffer i (exchanges_of S B R s i (begins_of S s w))

carried-part-says : SaysCarriedPart send block receive
carried-part-says s fs e w agree room i z h = subst (UnderWay (stream fs) w.got.buffer i) (sym (exchanges-from s i w)) (carried-part s fs e w agree room i z h)

carried-part-p : (S : Sender) (B : Blocker) (R : Taker) → SaysCarriedPart S B R → UnderWay (stream p_lines) sixty 1 (exchanges_of S B R p 1 (begins_of S p at_start))
carried-part-p S B R h = h p p_lines read-p at_start start-agrees room-p 1 (omega arith) (omega (arith, count-p))

-- a sender that refuses all, or an idle one
carried-part-not-left : (S : Sender) (B : Blocker) (R : Taker) → Leaves S → SaysCarriedPart S B R → ⊥
carried-part-not-left S B R k h =
    let z : ◌≡◌ {A = ℕ} 0 1 = ap (λ (l : Link). l.phase) (sym (links-left S B R k p 1 (begins_of S p at_start) ∙ k fresh_link true p)) ∙ (carried-part-p S B R h).runs in
    omega arith

carried-part-not-idle-receive : (S : Sender) (B : Blocker) (a : Receiver → List ℕ → List ℕ → Reply ℕ) → SaysCarriedPart S B (idle_taker a) → ⊥
unfolding computes cable_computes p_lines
carried-part-not-idle-receive S B a h = let z : ◌≡◌ {A = ℕ} 0 13 = (carried-part-p S B (idle_taker a) h).used-is in omega arith

-- carried-told: the same as for `carried`
abbrev SaysCarriedTold : Sender → Blocker → Taker → Type 0
SaysCarriedTold S B R =
    (s : List ℕ) (fs : List Field) → read s ≡ done (parsed fs []) → (w : Cable) → Agree w.link w.got.state → length s ≤ length w.got.buffer
    → (exchanges_of S B R s (block_count (stream fs)) (begins_of S s w)).got.answer ≡ done is_whole

carried-told-says : SaysCarriedTold send block receive
carried-told-says s fs e w agree room = ap (λ (y : Cable). y.got.answer) (exchanges-from s (block_count (stream fs)) w) ∙ carried-told s fs e w agree room

got_same : (S : Sender) (B : Blocker) (c : ReceiveCall) (s : List ℕ) (n : ℕ) (w : Cable) → 0 < n → (exchanges_of S B (λ st buf b. c) s n w).got ≡ c
got_same S B c s zero w h = absurd (omega arith)
got_same S B c s (suc n) w h = refl

carried-told-not-refusing : (S : Sender) (B : Blocker) (r : Receiver → List ℕ → List ℕ → Refusal) → SaysCarriedTold S B (refusing_taker r) → ⊥
carried-told-not-refusing S B r h =
    refused-done (subst (λ (n : ℕ). (exchanges_of S B (refusing_taker r) p n (begins_of S p at_start)).got.answer ≡ done is_whole) count-p (h p p_lines read-p at_start start-agrees room-p))

-- A receiver that answers always that the set is whole: shut out by `carried`.
carried-told-met-by-same : (S : Sender) (B : Blocker) (st : Receiver) (x : List ℕ) → SaysCarriedTold S B (λ t buf b. record { answer = done is_whole; state = st; buffer = x })
carried-told-met-by-same S B st x s fs e w agree room =
    ap (λ (c : ReceiveCall). c.answer)
    (got_same S B (record { answer = done is_whole; state = st; buffer = x }) s (block_count (stream fs)) (begins_of S s w) (omega (arith, count-least (stream fs))))

-- Two ends that do as they should as long as each block is taken carry the set.
module _ (S : Sender) (R : Taker) (start-same : (l : Link) (x : List ℕ) → link_left l (S l true x) ≡ link_left l (send l true x))
    (one_same : (s : List ℕ) (w : Cable) (k : ℕ) → (arrives s w).answer ≡ done k → exchange_of S block R s w ≡ exchange s w) where
  module _ (s : List ℕ) (fs : List Field) (e : read s ≡ done (parsed fs [])) (w : Cable) (agree : Agree w.link w.got.state) (room : length s ≤ length w.got.buffer) where
    was-done : (i : ℕ) → suc i ≤ block_count (stream fs) → (k : ℕ) × ((arrives s (exchanges s i (begins s w))).answer ≡ done k)
    unfolding exchanges exchange
    was-done i h = go (leb (suc (suc i)) (block_count (stream fs))) refl
      where
        go : (t : Bool) → leb (suc (suc i)) (block_count (stream fs)) ≡ t → (k : ℕ) × ((arrives s (exchanges s i (begins s w))).answer ≡ done k)
        go true q = let l = leb-true (suc (suc i)) (block_count (stream fs)) q in (is_taken, (carried-part s fs e w agree room (suc i) (omega arith) (omega arith)).was-taken)
        go false q =
            let l = leb-false (suc (suc i)) (block_count (stream fs)) q in
            let last : suc i ≡ block_count (stream fs) = omega arith in
            (is_whole, subst (λ (n : ℕ). (exchanges s n (begins s w)).got.answer ≡ done is_whole) (sym last) (carried-told s fs e w agree room))

    all_same : (i : ℕ) → i ≤ block_count (stream fs) → exchanges_of S block R s i (begins_of S s w) ≡ exchanges s i (begins s w)
    unfolding exchanges begins
    all_same zero h = λ j. record { link = start-same w.link s j; got = w.got }
    all_same (suc i) h =
        let d = was-done i h in
        ap (exchange_of S block R s) (all_same i (omega arith)) ∙ one_same s (exchanges s i (begins s w)) d.0 d.1

  carried-met-by : SaysCarried S block R
  carried-met-by s fs e w agree room =
      subst (Arrived s w.got.buffer) (sym (all_same s fs e w agree room (block_count (stream fs)) (omega arith))) (carried s fs e w agree room)

-- A sender that takes any reply for ACK 1 meets it. Shut out by `delivered-arrived`, `send-follows`.
abbrev deaf : Sender
deaf s b x = send s b (cond b x ack1)

carried-met-by-deaf : SaysCarried deaf block receive
unfolding exchange arrives send
carried-met-by-deaf =
    carried-met-by deaf receive (λ l x. refl)
    (λ s w k e. λ j. record { link = (turn_of w.link (sym (ap ack_of e) j)).link; got = receive w.got.state w.got.buffer (bytes_or (block s w.link.block w.link.count)) })

-- A receiver that does not look at the CRC meets it. Shut out by `one-byte`.
skip-same : (st : Receiver) (buf b : List ℕ) (k : ℕ) → (receive st buf b).answer ≡ done k → skips_crc st buf b ≡ receive st buf b
unfolding receive block_faults
skip-same st buf b k e = go (form_ok b) (crc_ok b) e
  where
    go : (f c : Bool) → (by_faults st buf (ask f (at_line bad_block 0 0) ++ ask c (at_line bad_crc 0 0)) (turned st buf (count_of b) (label_of b) (data_of b))).answer ≡ done k
        → by_faults st buf (ask f (at_line bad_block 0 0)) (turned st buf (count_of b) (label_of b) (data_of b))
        ≡ by_faults st buf (ask f (at_line bad_block 0 0) ++ ask c (at_line bad_crc 0 0)) (turned st buf (count_of b) (label_of b) (data_of b))
    go false c q = refused-done q
    go true false q = refused-done q
    go true true q = refl

carried-met-by-skipping : SaysCarried send block skips_crc
unfolding exchange arrives send
carried-met-by-skipping =
    carried-met-by send skips_crc (λ l x. refl)
    (λ s w k e.
    let g = skip-same w.got.state w.got.buffer (bytes_or (block s w.link.block w.link.count)) k e in
    λ j. record { link = (turn_of w.link (ack_of (g j).answer)).link; got = g j })

-- ---- a cable that loses and changes things

module _ (S : Sender) (B : Blocker) (R : Taker) (s : List ℕ) where
  abbrev got_of : Fate → Cable → ReceiveCall
  got_of heard w = arrives_of S B R s w
  got_of (unheard r n) w = arrives_of S B R s w
  got_of (changed bs r f n) w = R w.got.state w.got.buffer bs
  got_of (lost r n) w = w.got

  abbrev hears_of : Fate → Cable → List ℕ
  hears_of heard w = ack_of (arrives_of S B R s w).answer
  hears_of (unheard r n) w = r
  hears_of (changed bs r f n) w = r
  hears_of (lost r n) w = r

  abbrev exchange_by_of : Fate → Cable → Cable
  exchange_by_of f w = cond (eqb w.link.phase under_way) (record { link = link_left w.link (S w.link false (hears_of f w)); got = got_of f w }) w

  abbrev exchanges_by_of : List Fate → Cable → Cable
  exchanges_by_of [] w = w
  exchanges_by_of (f ∷ φ) w = exchanges_by_of φ (exchange_by_of f w)

by-is : (s : List ℕ) (f : Fate) (w : Cable) → exchange_by_of send block receive s f w ≡ exchange_by s f w
unfolding exchange_by got_by hears arrives send
by-is s heard w = refl
by-is s (unheard r n) w = refl
by-is s (changed bs r f n) w = refl
by-is s (lost r n) w = refl

by-are : (s : List ℕ) (φ : List Fate) (w : Cable) → exchanges_by_of send block receive s φ w ≡ exchanges_by s φ w
unfolding exchanges_by
by-are s [] w = refl
by-are s (f ∷ φ) w = by-are s φ (exchange_by_of send block receive s f w) ∙ ap (exchanges_by s φ) (by-is s f w)

by-from : (s : List ℕ) (φ : List Fate) (w : Cable) → exchanges_by_of send block receive s φ (begins_of send s w) ≡ exchanges_by s φ (begins s w)
unfolding begins
by-from s φ w = by-are s φ (begins s w)

-- delivered-arrived: given an accepted set alone in its bytes, two ends that agree, whatever becomes of each exchange, and that the sender then says delivered
abbrev SaysDeliveredArrived : Sender → Blocker → Taker → Type 0
SaysDeliveredArrived S B R =
    (s : List ℕ) (fs : List Field) → read s ≡ done (parsed fs []) → (w : Cable) → Agree w.link w.got.state → (φ : List Fate)
    → (exchanges_by_of S B R s φ (begins_of S s w)).link.phase ≡ delivered → Arrived s w.got.buffer (exchanges_by_of S B R s φ (begins_of S s w))

delivered-arrived-says : SaysDeliveredArrived send block receive
delivered-arrived-says s fs e w agree φ h =
    subst (Arrived s w.got.buffer) (sym (by-from s φ w)) (delivered-arrived s fs e w agree φ (ap (λ (c : Cable). c.link.phase) (sym (by-from s φ w)) ∙ h))

-- delivered-room: the same given
abbrev SaysDeliveredRoom : Sender → Blocker → Taker → Type 0
SaysDeliveredRoom S B R =
    (s : List ℕ) (fs : List Field) → read s ≡ done (parsed fs []) → (w : Cable) → Agree w.link w.got.state → (φ : List Fate)
    → (exchanges_by_of S B R s φ (begins_of S s w)).link.phase ≡ delivered → length s ≤ length w.got.buffer

delivered-room-says : SaysDeliveredRoom send block receive
delivered-room-says s fs e w agree φ h = delivered-room s fs e w agree φ (ap (λ (c : Cable). c.link.phase) (sym (by-from s φ w)) ∙ h)

-- arrived-or-given-up: the same given, and four exchanges a block
abbrev SaysArrivedOrGivenUp : Sender → Blocker → Taker → Type 0
SaysArrivedOrGivenUp S B R =
    (s : List ℕ) (fs : List Field) → read s ≡ done (parsed fs []) → (w : Cable) → Agree w.link w.got.state → (φ : List Fate) → 4 * block_count (stream fs) ≤ length φ
    → Arrived s w.got.buffer (exchanges_by_of S B R s φ (begins_of S s w)) ⊎ ((exchanges_by_of S B R s φ (begins_of S s w)).link.phase ≡ given_up)

arrived-or-given-up-says : SaysArrivedOrGivenUp send block receive
arrived-or-given-up-says s fs e w agree φ h =
    subst (λ (c : Cable). Arrived s w.got.buffer c ⊎ (c.link.phase ≡ given_up)) (sym (by-from s φ w)) (arrived-or-given-up s fs e w agree φ h)

-- agree-again: the same given, and that the sender has come to an end
abbrev SaysAgreeAgain : Sender → Blocker → Taker → Type 0
SaysAgreeAgain S B R =
    (s : List ℕ) (fs : List Field) → read s ≡ done (parsed fs []) → (w : Cable) → Agree w.link w.got.state → (φ : List Fate)
    → Ended (exchanges_by_of S B R s φ (begins_of S s w)).link
    → Agree (exchanges_by_of S B R s φ (begins_of S s w)).link (exchanges_by_of S B R s φ (begins_of S s w)).got.state

agree-again-says : SaysAgreeAgain send block receive
agree-again-says s fs e w agree φ h =
    subst (λ (c : Cable). Agree c.link c.got.state) (sym (by-from s φ w)) (agree-again s fs e w agree φ (subst (λ (c : Cable). Ended c.link) (by-from s φ w) h))

-- a sender that leaves the link as it was: after a delivered set it would still say delivered
abbrev after_other : Cable
after_other = record { link = at 2 2 1 1 0 1; got = keeping (record { started = 1; last = 1; partial = 0; used = 0 }) sixty (done 3) }

other-agrees : Agree after_other.link after_other.got.state
other-agrees = let some : after_other.got.state.started ≢ 0 = λ e. omega arith in agree_on refl some refl refl

delivered-arrived-not-left : (S : Sender) (B : Blocker) (R : Taker) → Leaves S → SaysDeliveredArrived S B R → ⊥
unfolding p
delivered-arrived-not-left S B R k h =
    let z : ◌≡◌ {A = ℕ} 0 51 = (h p p_lines read-p after_other other-agrees [] (ap (λ (l : Link). l.phase) (k after_other.link true p))).used-is in
    omega arith

delivered-arrived-not-refusing-send : (r : Link → Bool → List ℕ → Refusal) (B : Blocker) (R : Taker) → SaysDeliveredArrived (λ s b x. refused (r s b x)) B R → ⊥
delivered-arrived-not-refusing-send r B R = delivered-arrived-not-left (λ s b x. refused (r s b x)) B R (λ s b x. refl)

delivered-arrived-not-idle-send : (a : Link → Bool → List ℕ → Action) (B : Blocker) (R : Taker) → SaysDeliveredArrived (idle_sender a) B R → ⊥
delivered-arrived-not-idle-send a B R = delivered-arrived-not-left (idle_sender a) B R (λ s b x. refl)

links-by-left : (S : Sender) (B : Blocker) (R : Taker) → Leaves S → (s : List ℕ) (φ : List Fate) (w : Cable) → (exchanges_by_of S B R s φ w).link ≡ w.link
links-by-left S B R k s [] w = refl
links-by-left S B R k s (f ∷ φ) w = links-by-left S B R k s φ (exchange_by_of S B R s f w) ∙ go (eqb w.link.phase under_way)
  where
    go : (t : Bool) → (cond t (record { link = link_left w.link (S w.link false (hears_of S B R s f w)); got = got_of S B R s f w }) w).link ≡ w.link
    go true = k w.link false (hears_of S B R s f w)
    go false = refl

abbrev eight_heard : List Fate
eight_heard = heard ∷ heard ∷ heard ∷ heard ∷ heard ∷ heard ∷ heard ∷ heard ∷ []

arrived-or-given-up-not-left : (S : Sender) (B : Blocker) (R : Taker) → Leaves S → SaysArrivedOrGivenUp S B R → ⊥
arrived-or-given-up-not-left S B R k h = go (h p p_lines read-p at_start start-agrees eight_heard (omega (arith, count-p)))
  where
    link-is : (exchanges_by_of S B R p eight_heard (begins_of S p at_start)).link ≡ fresh_link
    link-is = links-by-left S B R k p eight_heard (begins_of S p at_start) ∙ k fresh_link true p

    go : Arrived p sixty (exchanges_by_of S B R p eight_heard (begins_of S p at_start)) ⊎ ((exchanges_by_of S B R p eight_heard (begins_of S p at_start)).link.phase ≡ given_up) → ⊥
    go (inl a) = let z : ◌≡◌ {A = ℕ} 0 2 = ap (λ (l : Link). l.phase) (sym link-is) ∙ a.was-delivered in omega arith
    go (inr e) = let z : ◌≡◌ {A = ℕ} 0 3 = ap (λ (l : Link). l.phase) (sym link-is) ∙ e in omega arith

arrived-or-given-up-not-refusing-send : (r : Link → Bool → List ℕ → Refusal) (B : Blocker) (R : Taker) → SaysArrivedOrGivenUp (λ s b x. refused (r s b x)) B R → ⊥
arrived-or-given-up-not-refusing-send r B R = arrived-or-given-up-not-left (λ s b x. refused (r s b x)) B R (λ s b x. refl)

arrived-or-given-up-not-idle-send : (a : Link → Bool → List ℕ → Action) (B : Blocker) (R : Taker) → SaysArrivedOrGivenUp (idle_sender a) B R → ⊥
arrived-or-given-up-not-idle-send a B R = arrived-or-given-up-not-left (idle_sender a) B R (λ s b x. refl)

-- At its end such a sender has sent nothing: it meets `agree-again`. Shut out by `carried`.
agree-again-met-by-left : (S : Sender) (B : Blocker) (R : Taker) → Leaves S → SaysAgreeAgain S B R
agree-again-met-by-left S B R k s fs e w agree φ h =
    let begun-is : begins_of S s w ≡ w = λ j. record { link = k w.link true s j; got = w.got } in
    let over : Ended w.link = subst Ended (links-by-left S B R k s φ (begins_of S s w) ∙ k w.link true s) h in
    subst (λ (c : Cable). Agree c.link c.got.state) (sym (ap (exchanges_by_of S B R s φ) begun-is ∙ stays φ w over)) agree
  where
    not_on : (l : Link) → Ended l → eqb l.phase under_way ≡ false
    not_on l (inl x) = rw x
    not_on l (inr x) = rw x

    stays : (ψ : List Fate) (v : Cable) → Ended v.link → exchanges_by_of S B R s ψ v ≡ v
    stays [] v x = refl
    stays (f ∷ ψ) v x =
        ap (λ (t : Bool). exchanges_by_of S B R s ψ (cond t (record { link = link_left v.link (S v.link false (hears_of S B R s f v)); got = got_of S B R s f v }) v)) (not_on v.link x)
        ∙ stays ψ v x

-- A sender that never says delivered, or gives up always, meets them. Shut out by `carried`.
links-by-same : (t : Turned) (B : Blocker) (R : Taker) (s : List ℕ) (φ : List Fate) (w : Cable) → w.link ≡ t.link → (exchanges_by_of (λ s b x. done t) B R s φ w).link ≡ t.link
links-by-same t B R s [] w e = e
links-by-same t B R s (f ∷ φ) w e = links-by-same t B R s φ (exchange_by_of (λ s b x. done t) B R s f w) (go (eqb w.link.phase under_way))
  where
    go : (b : Bool) → (cond b (record { link = t.link; got = got_of (λ s b x. done t) B R s f w }) w).link ≡ t.link
    go true = refl
    go false = e

module _ (t : Turned) (B : Blocker) (R : Taker) where
  same-link : (s : List ℕ) (w : Cable) (φ : List Fate) → (exchanges_by_of (λ s b x. done t) B R s φ (begins_of (λ s b x. done t) s w)).link.phase ≡ t.link.phase
  same-link s w φ = ap (λ (l : Link). l.phase) (links-by-same t B R s φ (begins_of (λ s b x. done t) s w) refl)

  delivered-arrived-met-by-same-send : t.link.phase ≢ delivered → SaysDeliveredArrived (λ s b x. done t) B R
  delivered-arrived-met-by-same-send n s fs e w agree φ h = absurd (n (sym (same-link s w φ) ∙ h))

  delivered-room-met-by-same-send : t.link.phase ≢ delivered → SaysDeliveredRoom (λ s b x. done t) B R
  delivered-room-met-by-same-send n s fs e w agree φ h = absurd (n (sym (same-link s w φ) ∙ h))

  arrived-or-given-up-met-by-same-send : t.link.phase ≡ given_up → SaysArrivedOrGivenUp (λ s b x. done t) B R
  arrived-or-given-up-met-by-same-send g s fs e w agree φ h = inr (same-link s w φ ∙ g)

  agree-again-met-by-same-send : t.link.phase ≢ delivered → SaysAgreeAgain (λ s b x. done t) B R
  agree-again-met-by-same-send n s fs e w agree φ h = from_zero (λ d. n (sym (same-link s w φ) ∙ d))

-- If the sender never hears ACK 1, it never says delivered.
turn-not : (l : Link) (r : List ℕ) → l.phase ≢ delivered → is_ack r ≡ false → (turn_of l r).link.phase ≢ delivered
turn-not l r n a = go (turn-follows l r)
  where
    go : {t : Link} {x : Action} → Follows l r t x → t.phase ≢ delivered
    go (taken q b h) = absurd (true≢false (sym b ∙ a))
    go (last_taken q b h) = absurd (true≢false (sym b ∙ a))
    go (again q b h) = λ e. omega arith
    go (begin-again q b h k) = λ e. omega arith
    go (over q b h k) = λ e. omega arith
    go (ended q) = n

module _ (B : Blocker) (R : Taker) (s : List ℕ) (silent : (f : Fate) (w : Cable) → is_ack (hears_of send B R s f w) ≡ false) where
  never-delivered : (φ : List Fate) (w : Cable) → w.link.phase ≢ delivered → (exchanges_by_of send B R s φ w).link.phase ≢ delivered
  unfolding send
  never-delivered [] w n = n
  never-delivered (f ∷ φ) w n = never-delivered φ (exchange_by_of send B R s f w) (go (eqb w.link.phase under_way))
    where
      go : (t : Bool) → (cond t (record { link = link_left w.link (send w.link false (hears_of send B R s f w)); got = got_of send B R s f w }) w).link.phase ≢ delivered
      go true = turn-not w.link (hears_of send B R s f w) n (silent f w)
      go false = n

  -- the link after one exchange is the link after what was heard
  link-by : (f : Fate) (w : Cable) → (exchange_by_of send B R s f w).link ≡ link_left w.link (send w.link false (hears_of send B R s f w))
  unfolding send
  link-by f w = go (eqb w.link.phase under_way) refl
    where
      go : (t : Bool) → eqb w.link.phase under_way ≡ t
          → (cond t (record { link = (turn_of w.link (hears_of send B R s f w)).link; got = got_of send B R s f w }) w).link ≡ (turn_of w.link (hears_of send B R s f w)).link
      go true e = refl
      go false e = sym (ap (λ (y : Turned). y.link) (follows-turn (ended {s = w.link} {r = hears_of send B R s f w} (eqb-false w.link.phase under_way e))))

  all_heard : List Fate → Cable → List (List ℕ)
  all_heard [] w = []
  all_heard (f ∷ φ) w = hears_of send B R s f w ∷ all_heard φ (exchange_by_of send B R s f w)

  all-heard : (φ : List Fate) (w : Cable) → length (all_heard φ w) ≡ length φ
  unfolding all_heard
  all-heard [] w = refl
  all-heard (f ∷ φ) w = ap suc (all-heard φ (exchange_by_of send B R s f w))

  links-by : (φ : List Fate) (w : Cable) → (exchanges_by_of send B R s φ w).link ≡ after_of send w.link (all_heard φ w)
  unfolding all_heard
  links-by [] w = refl
  links-by (f ∷ φ) w = links-by φ (exchange_by_of send B R s f w) ∙ ap (λ (l : Link). after_of send l (all_heard φ (exchange_by_of send B R s f w))) (link-by f w)

  module _ (fs : List Field) (e : read s ≡ done (parsed fs [])) (w : Cable) where
    blocks-are : blocks_of s ≡ done (block_count (stream fs))
    unfolding blocks_of
    blocks-are = rw (set-alone s fs e)

    start-not : (begins_of send s w).link.phase ≢ delivered
    unfolding begins
    start-not d = let z : ◌≡◌ {A = ℕ} 1 2 = sym (ap (λ (c : Cable). c.link.phase) (start_is s fs e w)) ∙ d in omega arith

    silent-not : (φ : List Fate) → (exchanges_by_of send B R s φ (begins_of send s w)).link.phase ≢ delivered
    silent-not φ = never-delivered φ (begins_of send s w) start-not

    silent-ends : (φ : List Fate) → 4 * block_count (stream fs) ≤ length φ → (exchanges_by_of send B R s φ (begins_of send s w)).link.phase ≡ given_up
    silent-ends φ h =
        go (subst Ended (sym (links-by φ (begins_of send s w)))
        (send-ends-says w.link s (block_count (stream fs)) blocks-are (all_heard φ (begins_of send s w)) (omega (arith, all-heard φ (begins_of send s w)))))
      where
        go : Ended (exchanges_by_of send B R s φ (begins_of send s w)).link → (exchanges_by_of send B R s φ (begins_of send s w)).link.phase ≡ given_up
        go (inl d) = absurd (silent-not φ d)
        go (inr g) = g

ack0-other : is_ack ack0 ≡ false
unfolding is_ack
ack0-other = refl

-- a receiver that refuses all
refusing-silent : (B : Blocker) (r : Receiver → List ℕ → List ℕ → Refusal) (s : List ℕ) (f : Fate) (w : Cable) → is_ack (hears_of send B (refusing_taker r) s f w) ≡ false
refusing-silent B r s heard w = ack0-other
refusing-silent B r s (unheard x n) w = n
refusing-silent B r s (changed bs x f n) w = n
refusing-silent B r s (lost x n) w = n

-- no bytes are sent for a block: the receiver refuses them
none-refused : (st : Receiver) (buf : List ℕ) → receive st buf [] ≡ refusing st buf bad_block
unfolding computes cable_computes
none-refused st buf = refl

no-block-silent : (r : List ℕ → ℕ → ℕ → Refusal) (s : List ℕ) (f : Fate) (w : Cable) → is_ack (hears_of send (λ s i c. refused (r s i c)) receive s f w) ≡ false
no-block-silent r s heard w = ap (λ (c : ReceiveCall). is_ack (ack_of c.answer)) (none-refused w.got.state w.got.buffer) ∙ ack0-other
no-block-silent r s (unheard x n) w = n
no-block-silent r s (changed bs x f n) w = n
no-block-silent r s (lost x n) w = n

-- Then the sender gives up, and all of them are met. Shut out by `carried`.
module _ (B : Blocker) (r : Receiver → List ℕ → List ℕ → Refusal) where
  delivered-arrived-met-by-refusing-receive : SaysDeliveredArrived send B (refusing_taker r)
  delivered-arrived-met-by-refusing-receive s fs e w agree φ h = absurd (silent-not B (refusing_taker r) s (refusing-silent B r s) fs e w φ h)

  delivered-room-met-by-refusing-receive : SaysDeliveredRoom send B (refusing_taker r)
  delivered-room-met-by-refusing-receive s fs e w agree φ h = absurd (silent-not B (refusing_taker r) s (refusing-silent B r s) fs e w φ h)

  arrived-or-given-up-met-by-refusing-receive : SaysArrivedOrGivenUp send B (refusing_taker r)
  arrived-or-given-up-met-by-refusing-receive s fs e w agree φ h = inr (silent-ends B (refusing_taker r) s (refusing-silent B r s) fs e w φ h)

  agree-again-met-by-refusing-receive : SaysAgreeAgain send B (refusing_taker r)
  agree-again-met-by-refusing-receive s fs e w agree φ h = from_zero (silent-not B (refusing_taker r) s (refusing-silent B r s) fs e w φ)

module _ (r : List ℕ → ℕ → ℕ → Refusal) where
  delivered-arrived-met-by-refusing-block : SaysDeliveredArrived send (λ s i c. refused (r s i c)) receive
  delivered-arrived-met-by-refusing-block s fs e w agree φ h = absurd (silent-not (λ s i c. refused (r s i c)) receive s (no-block-silent r s) fs e w φ h)

  arrived-or-given-up-met-by-refusing-block : SaysArrivedOrGivenUp send (λ s i c. refused (r s i c)) receive
  arrived-or-given-up-met-by-refusing-block s fs e w agree φ h = inr (silent-ends (λ s i c. refused (r s i c)) receive s (no-block-silent r s) fs e w φ h)

  agree-again-met-by-refusing-block : SaysAgreeAgain send (λ s i c. refused (r s i c)) receive
  agree-again-met-by-refusing-block s fs e w agree φ h = from_zero (silent-not (λ s i c. refused (r s i c)) receive s (no-block-silent r s) fs e w φ)

-- a receiver that acknowledges all and writes nothing
module _ (B : Blocker) (k : Receiver → List ℕ → List ℕ → ℕ) where
  abbrev pretends : Taker
  pretends = idle_taker (λ st buf b. done (k st buf b))

  delivered-arrived-not-idle-receive : SaysDeliveredArrived send B pretends → ⊥
  unfolding computes cable_computes p
  delivered-arrived-not-idle-receive h = not-sixty _ (h p p_lines read-p at_start start-agrees (heard ∷ heard ∷ []) refl).buffer-is

  delivered-room-not-idle-receive : SaysDeliveredRoom send B pretends → ⊥
  unfolding computes cable_computes p
  delivered-room-not-idle-receive h =
      let z : 51 ≤ 0 = h p p_lines read-p (record { link = fresh_link; got = keeping fresh_receiver [] (done 0) }) start-agrees (heard ∷ heard ∷ []) refl in
      omega arith

  arrived-or-given-up-not-idle-receive : SaysArrivedOrGivenUp send B pretends → ⊥
  unfolding computes cable_computes p
  arrived-or-given-up-not-idle-receive h = go (h p p_lines read-p at_start start-agrees eight_heard (omega (arith, count-p)))
    where
      go : Arrived p sixty (exchanges_by_of send B pretends p eight_heard (begins_of send p at_start))
          ⊎ ((exchanges_by_of send B pretends p eight_heard (begins_of send p at_start)).link.phase ≡ given_up) → ⊥
      go (inl a) = not-sixty _ a.buffer-is
      go (inr e) = let z : ◌≡◌ {A = ℕ} 2 3 = e in omega arith

  agree-again-not-idle-receive : SaysAgreeAgain send B pretends → ⊥
  unfolding computes cable_computes p
  agree-again-not-idle-receive h = go (h p p_lines read-p at_start start-agrees (heard ∷ heard ∷ []) (inl refl))
    where
      go : Agree (at 2 2 1 1 0 1) fresh_receiver → ⊥
      go (from_zero n) = n refl
      go (agree_on d started closed last) = started refl

-- a receiver that answers always the same, and does not refuse
delivered-arrived-not-same-receive : (B : Blocker) (k : ℕ) (st : Receiver) (x : List ℕ) → SaysDeliveredArrived send B (λ t buf b. record { answer = done k; state = st; buffer = x }) → ⊥
unfolding computes cable_computes p q
delivered-arrived-not-same-receive B k st x h =
    not-both x _ _ (h p p_lines read-p at_start start-agrees (heard ∷ heard ∷ []) refl).buffer-is (h q q_lines read-q at_start start-agrees (heard ∷ heard ∷ []) refl).buffer-is

arrived-or-given-up-not-same-receive : (B : Blocker) (k : ℕ) (st : Receiver) (x : List ℕ) → SaysArrivedOrGivenUp send B (λ t buf b. record { answer = done k; state = st; buffer = x }) → ⊥
unfolding computes cable_computes p q
arrived-or-given-up-not-same-receive B k st x h =
    go (h p p_lines read-p at_start start-agrees eight_heard (omega (arith, count-p))) (h q q_lines read-q at_start start-agrees eight_heard (omega (arith, count-q)))
  where
    at_end : List ℕ → Cable
    at_end s = exchanges_by_of send B (λ t buf b. record { answer = done k; state = st; buffer = x }) s eight_heard (begins_of send s at_start)

    go : Arrived p sixty (at_end p) ⊎ ((at_end p).link.phase ≡ given_up) → Arrived q sixty (at_end q) ⊎ ((at_end q).link.phase ≡ given_up) → ⊥
    go (inl a) (inl c) = not-both x _ _ a.buffer-is c.buffer-is
    go (inl a) (inr e) = let z : ◌≡◌ {A = ℕ} 2 3 = e in omega arith
    go (inr e) c = let z : ◌≡◌ {A = ℕ} 2 3 = e in omega arith

-- after P with count 0 the last count is 1, after P with count 2 it is 3
agree-again-not-same-receive : (B : Blocker) (k : ℕ) (st : Receiver) (x : List ℕ) → SaysAgreeAgain send B (λ t buf b. record { answer = done k; state = st; buffer = x }) → ⊥
unfolding computes cable_computes p
agree-again-not-same-receive B k st x h =
    let a : st.last ≡ 1 = go 1 (h p p_lines read-p at_start start-agrees (heard ∷ heard ∷ []) (inl refl)) in
    let b : st.last ≡ 3 = go 3 (h p p_lines read-p after_other other-agrees (heard ∷ heard ∷ []) (inl refl)) in
    omega arith
  where
    go : (c : ℕ) → Agree (at 2 2 1 1 0 c) st → st.last ≡ c
    go c (from_zero n) = absurd (n refl)
    go c (agree_on d started closed last) = last

-- a sender that takes any reply for ACK 1, on a cable that loses all
no-reply : is_ack [] ≡ false
unfolding is_ack
no-reply = refl

abbrev two_lost : List Fate
two_lost = lost [] no-reply ∷ lost [] no-reply ∷ []

delivered-arrived-not-deaf : (B : Blocker) (R : Taker) → SaysDeliveredArrived deaf B R → ⊥
unfolding computes cable_computes p
delivered-arrived-not-deaf B R h = not-sixty _ (h p p_lines read-p at_start start-agrees two_lost refl).buffer-is

agree-again-not-deaf : (B : Blocker) (R : Taker) → SaysAgreeAgain deaf B R → ⊥
unfolding computes cable_computes p
agree-again-not-deaf B R h = go (h p p_lines read-p at_start start-agrees two_lost (inl refl))
  where
    go : Agree (at 2 2 1 1 0 1) fresh_receiver → ⊥
    go (from_zero n) = n refl
    go (agree_on d started closed last) = started refl

-- ---- the transfer by the calls' own answers

abbrev Caller : Type 0
Caller = Link → Bool → List ℕ → SendCall

abbrev BlockCaller : Type 0
BlockCaller = List ℕ → ℕ → ℕ → List ℕ → Call ℕ

-- Transfers of any three calls
module _ (C : Caller) (B : BlockCaller) (R : Taker) (s out : List ℕ) where
  abbrev on_line_of : Action → List ℕ
  on_line_of x = take (made_count (B s (block_number x) (count_number x) out).answer) (B s (block_number x) (count_number x) out).buffer

  abbrev leaves_of : Fate → Ends → ReceiveCall
  leaves_of heard w = R w.got.state w.got.buffer (on_line_of (asked w.told))
  leaves_of (unheard r n) w = R w.got.state w.got.buffer (on_line_of (asked w.told))
  leaves_of (changed bs r f n) w = R w.got.state w.got.buffer bs
  leaves_of (lost r n) w = w.got

  abbrev replies_of : Fate → Ends → List ℕ
  replies_of heard w = sent_back (R w.got.state w.got.buffer (on_line_of (asked w.told)))
  replies_of (unheard r n) w = r
  replies_of (changed bs r f n) w = r
  replies_of (lost r n) w = r

  abbrev moved_of : Fate → Ends → Ends
  moved_of f w = record { link = (C w.link false (replies_of f w)).link; told = (C w.link false (replies_of f w)).answer; got = leaves_of f w }

  abbrev step_of : Fate → Ends → Ends
  step_of f w = cond (eqb (what_number (asked w.told)) to_send) (moved_of f w) w

  abbrev steps_of : List Fate → Ends → Ends
  steps_of [] w = w
  steps_of (f ∷ φ) w = steps_of φ (step_of f w)

  abbrev clean_steps_of : ℕ → Ends → Ends
  clean_steps_of zero w = w
  clean_steps_of (suc n) w = step_of heard (clean_steps_of n w)

abbrev starts_of : Caller → List ℕ → Ends → Ends
starts_of C s w = record { link = (C w.link true s).link; told = (C w.link true s).answer; got = w.got }

step-is-one : (s out : List ℕ) (f : Fate) (w : Ends) → step_of send_call block_call receive s out f w ≡ step s out f w
unfolding step leaves replies
step-is-one s out heard w = refl
step-is-one s out (unheard r n) w = refl
step-is-one s out (changed bs r f n) w = refl
step-is-one s out (lost r n) w = refl

steps-are-all : (s out : List ℕ) (φ : List Fate) (w : Ends) → steps_of send_call block_call receive s out φ w ≡ steps s out φ w
unfolding steps
steps-are-all s out [] w = refl
steps-are-all s out (f ∷ φ) w = steps-are-all s out φ (step_of send_call block_call receive s out f w) ∙ ap (steps s out φ) (step-is-one s out f w)

clean-are-all : (s out : List ℕ) (n : ℕ) (w : Ends) → clean_steps_of send_call block_call receive s out n w ≡ clean_steps s out n w
unfolding clean_steps
clean-are-all s out zero w = refl
clean-are-all s out (suc n) w = step-is-one s out heard (clean_steps_of send_call block_call receive s out n w) ∙ ap (step s out heard) (clean-are-all s out n w)

steps-from : (s out : List ℕ) (φ : List Fate) (w : Ends) → steps_of send_call block_call receive s out φ (starts_of send_call s w) ≡ steps s out φ (starts s w)
unfolding starts
steps-from s out φ w = steps-are-all s out φ (starts s w)

clean-from : (s out : List ℕ) (n : ℕ) (w : Ends) → clean_steps_of send_call block_call receive s out n (starts_of send_call s w) ≡ clean_steps s out n (starts s w)
unfolding starts
clean-from s out n w = clean-are-all s out n (starts s w)

-- transfer-carried: given an accepted set alone in its bytes, two ends that agree, and room; what is lent for the blocks does not matter
abbrev SaysTransferCarried : Caller → BlockCaller → Taker → Type 0
SaysTransferCarried C B R =
    (s : List ℕ) (fs : List Field) → read s ≡ done (parsed fs []) → (w : Ends) (out : List ℕ) → Agree w.link w.got.state → length s ≤ length w.got.buffer
    → Arrived s w.got.buffer (cable_of (clean_steps_of C B R s out (block_count (stream fs)) (starts_of C s w)))
    × ((what_number (asked (clean_steps_of C B R s out (block_count (stream fs)) (starts_of C s w)).told)) ≡ delivered)
    × ((clean_steps_of C B R s out (block_count (stream fs)) (starts_of C s w)).got.answer ≡ done is_whole)

transfer-carried-says : SaysTransferCarried send_call block_call receive
transfer-carried-says s fs e w out agree room =
    subst (λ (v : Ends). Arrived s w.got.buffer (cable_of v) × ((what_number (asked v.told)) ≡ delivered) × (v.got.answer ≡ done is_whole))
    (sym (clean-from s out (block_count (stream fs)) w)) (transfer-carried s fs e w out agree room)

-- transfer-arrived: the same given but the room, whatever becomes of each exchange, and that the sender's last answer is delivered
abbrev SaysTransferArrived : Caller → BlockCaller → Taker → Type 0
SaysTransferArrived C B R =
    (s : List ℕ) (fs : List Field) → read s ≡ done (parsed fs []) → (w : Ends) (out : List ℕ) → Agree w.link w.got.state → (φ : List Fate)
    → (what_number (asked (steps_of C B R s out φ (starts_of C s w)).told)) ≡ delivered → Arrived s w.got.buffer (cable_of (steps_of C B R s out φ (starts_of C s w)))

transfer-arrived-says : SaysTransferArrived send_call block_call receive
transfer-arrived-says s fs e w out agree φ h =
    subst (λ (v : Ends). Arrived s w.got.buffer (cable_of v)) (sym (steps-from s out φ w))
    (transfer-arrived s fs e w out agree φ (ap (λ (v : Ends). (what_number (asked v.told))) (sym (steps-from s out φ w)) ∙ h))

-- transfer-ends: the same given, and four exchanges a block
abbrev SaysTransferEnds : Caller → BlockCaller → Taker → Type 0
SaysTransferEnds C B R =
    (s : List ℕ) (fs : List Field) → read s ≡ done (parsed fs []) → (w : Ends) (out : List ℕ) → Agree w.link w.got.state → (φ : List Fate) → 4 * block_count (stream fs) ≤ length φ
    → Arrived s w.got.buffer (cable_of (steps_of C B R s out φ (starts_of C s w))) ⊎ ((steps_of C B R s out φ (starts_of C s w)).link.phase ≡ given_up)

transfer-ends-says : SaysTransferEnds send_call block_call receive
transfer-ends-says s fs e w out agree φ h =
    subst (λ (v : Ends). Arrived s w.got.buffer (cable_of v) ⊎ (v.link.phase ≡ given_up)) (sym (steps-from s out φ w)) (transfer-ends s fs e w out agree φ h)

-- both ends fresh
abbrev ends_at_start : Ends
ends_at_start = record { link = fresh_link; told = Ok (record { link = fresh_link; action = Nothing }); got = keeping fresh_receiver sixty (done 0) }

-- what it asks of P, and of the other set
transfer-p : (C : Caller) (B : BlockCaller) (R : Taker) → SaysTransferCarried C B R → (out : List ℕ)
    → Arrived p sixty (cable_of (clean_steps_of C B R p out 2 (starts_of C p ends_at_start)))
transfer-p C B R h out =
    subst (λ (n : ℕ). Arrived p sixty (cable_of (clean_steps_of C B R p out n (starts_of C p ends_at_start)))) count-p (h p p_lines read-p ends_at_start out start-agrees room-p).0

transfer-q : (C : Caller) (B : BlockCaller) (R : Taker) → SaysTransferCarried C B R → (out : List ℕ)
    → Arrived q sixty (cable_of (clean_steps_of C B R q out 2 (starts_of C q ends_at_start)))
transfer-q C B R h out =
    subst (λ (n : ℕ). Arrived q sixty (cable_of (clean_steps_of C B R q out n (starts_of C q ends_at_start)))) count-q (h q q_lines read-q ends_at_start out start-agrees room-q).0

-- a call of the sender that leaves the record as it was, whatever it answers: refuses all, or is idle
abbrev idle_call : (Link → Bool → List ℕ → Sent) → Caller
idle_call a l b x = record { answer = a l b x; link = l }

module _ (a : Link → Bool → List ℕ → Sent) (B : BlockCaller) (R : Taker) where
  clean-left : (s out : List ℕ) (n : ℕ) (w : Ends) → (clean_steps_of (idle_call a) B R s out n w).link ≡ w.link
  clean-left s out zero w = refl
  clean-left s out (suc n) w = go (eqb (what_number (asked (clean_steps_of (idle_call a) B R s out n w).told)) to_send) ∙ clean-left s out n w
    where
      go : (t : Bool) → (cond t (moved_of (idle_call a) B R s out heard (clean_steps_of (idle_call a) B R s out n w)) (clean_steps_of (idle_call a) B R s out n w)).link
          ≡ (clean_steps_of (idle_call a) B R s out n w).link
      go true = refl
      go false = refl

  steps-left : (s out : List ℕ) (φ : List Fate) (w : Ends) → (steps_of (idle_call a) B R s out φ w).link ≡ w.link
  steps-left s out [] w = refl
  steps-left s out (f ∷ φ) w = steps-left s out φ (step_of (idle_call a) B R s out f w) ∙ go (eqb (what_number (asked w.told)) to_send)
    where
      go : (t : Bool) → (cond t (moved_of (idle_call a) B R s out f w) w).link ≡ w.link
      go true = refl
      go false = refl

  transfer-carried-not-idle-send : SaysTransferCarried (idle_call a) B R → ⊥
  transfer-carried-not-idle-send h =
      let z : ◌≡◌ {A = ℕ} 0 2 = ap (λ (l : Link). l.phase) (sym (clean-left p [] 2 (starts_of (idle_call a) p ends_at_start))) ∙ (transfer-p (idle_call a) B R h []).was-delivered in
      omega arith

  transfer-ends-not-idle-send : SaysTransferEnds (idle_call a) B R → ⊥
  transfer-ends-not-idle-send h = go (h p p_lines read-p ends_at_start [] start-agrees eight_heard (omega (arith, count-p)))
    where
      link-is : (steps_of (idle_call a) B R p [] eight_heard (starts_of (idle_call a) p ends_at_start)).link ≡ fresh_link
      link-is = steps-left p [] eight_heard (starts_of (idle_call a) p ends_at_start)

      go : Arrived p sixty (cable_of (steps_of (idle_call a) B R p [] eight_heard (starts_of (idle_call a) p ends_at_start)))
          ⊎ ((steps_of (idle_call a) B R p [] eight_heard (starts_of (idle_call a) p ends_at_start)).link.phase ≡ given_up) → ⊥
      go (inl x) = let z : ◌≡◌ {A = ℕ} 0 2 = ap (λ (l : Link). l.phase) (sym link-is) ∙ x.was-delivered in omega arith
      go (inr x) = let z : ◌≡◌ {A = ℕ} 0 3 = ap (λ (l : Link). l.phase) (sym link-is) ∙ x in omega arith

module _ (r : Link → Bool → List ℕ → Refusal) (B : BlockCaller) (R : Taker) where
  abbrev refusing_call : Caller
  refusing_call = idle_call (λ l b x. Err (r l b x))

  transfer-carried-not-refusing-send : SaysTransferCarried refusing_call B R → ⊥
  transfer-carried-not-refusing-send = transfer-carried-not-idle-send (λ l b x. Err (r l b x)) B R

  transfer-ends-not-refusing-send : SaysTransferEnds refusing_call B R → ⊥
  transfer-ends-not-refusing-send = transfer-ends-not-idle-send (λ l b x. Err (r l b x)) B R

  -- It never answers delivered. Shut out by `transfer-carried`.
  transfer-arrived-met-by-refusing-send : SaysTransferArrived refusing_call B R
  transfer-arrived-met-by-refusing-send s fs e w out agree φ h = let z : ◌≡◌ {A = ℕ} 0 2 = sym (asks_none φ (starts_of refusing_call s w) refl) ∙ h in absurd (omega arith)
    where
      asks_none : (ψ : List Fate) (v : Ends) → (what_number (asked v.told)) ≡ 0 → (what_number (asked (steps_of refusing_call B R s out ψ v).told)) ≡ 0
      asks_none [] v n = n
      asks_none (f ∷ ψ) v n = asks_none ψ (step_of refusing_call B R s out f v) (go (eqb (what_number (asked v.told)) to_send))
        where
          go : (t : Bool) → (what_number (asked (cond t (moved_of refusing_call B R s out f v) v).told)) ≡ 0
          go true = refl
          go false = n

-- whoever says delivered at once has delivered nothing
transfer-arrived-not-boasting : (C : Caller) (B : BlockCaller) (R : Taker) → (what_number (asked (C fresh_link true p).answer)) ≡ delivered → SaysTransferArrived C B R → ⊥
transfer-arrived-not-boasting C B R d h = not-sixty _ (h p p_lines read-p ends_at_start [] start-agrees [] d).buffer-is

-- the sender's call does always the same
module _ (c : SendCall) (B : BlockCaller) (R : Taker) where
  abbrev same_call : Caller
  same_call l b x = c

  clean-told : (s out : List ℕ) (w : Ends) → w.told ≡ c.answer → (n : ℕ) → (clean_steps_of same_call B R s out n w).told ≡ c.answer
  clean-told s out w e zero = e
  clean-told s out w e (suc n) = go (clean_steps_of same_call B R s out n w) (clean-told s out w e n) (eqb (what_number (asked (clean_steps_of same_call B R s out n w).told)) to_send)
    where
      go : (v : Ends) → v.told ≡ c.answer → (t : Bool) → (cond t (moved_of same_call B R s out heard v) v).told ≡ c.answer
      go v m true = refl
      go v m false = m

  steps-same : (s out : List ℕ) (φ : List Fate) (w : Ends) → w.told ≡ c.answer → w.link ≡ c.link
      → ((steps_of same_call B R s out φ w).told ≡ c.answer) × ((steps_of same_call B R s out φ w).link ≡ c.link)
  steps-same s out [] w e l = (e, l)
  steps-same s out (f ∷ φ) w e l =
      let t : Bool = eqb (what_number (asked w.told)) to_send in steps-same s out φ (step_of same_call B R s out f w) (told-go t) (link-go t)
    where
      told-go : (t : Bool) → (cond t (moved_of same_call B R s out f w) w).told ≡ c.answer
      told-go true = refl
      told-go false = e

      link-go : (t : Bool) → (cond t (moved_of same_call B R s out f w) w).link ≡ c.link
      link-go true = refl
      link-go false = l

  -- One that never answers delivered, or always gives up: shut out by `transfer-carried`.
  transfer-arrived-met-by-same-send : (what_number (asked c.answer)) ≢ delivered → SaysTransferArrived same_call B R
  transfer-arrived-met-by-same-send n s fs e w out agree φ h =
      absurd (n (sym (ap (λ (y : Sent). (what_number (asked y))) (steps-same s out φ (starts_of same_call s w) refl refl).0) ∙ h))

  transfer-ends-met-by-same-send : c.link.phase ≡ given_up → SaysTransferEnds same_call B R
  transfer-ends-met-by-same-send g s fs e w out agree φ h = inr (ap (λ (l : Link). l.phase) (steps-same s out φ (starts_of same_call s w) refl refl).1 ∙ g)

-- the same bytes for every block that is asked for
module _ (C : Caller) (B : BlockCaller) (s out b : List ℕ) (w : Ends) where
  clean-stuck : ((i : ℕ) → on_line_of C B receive s out (asked (clean_steps_of C B receive s out i w).told) ≡ b) → Stuck b w.got.state → (n : ℕ)
      → Stuck b (clean_steps_of C B receive s out n w).got.state
  clean-stuck all k zero = k
  clean-stuck all k (suc n) =
      go (clean_steps_of C B receive s out n w) (all n) (clean-stuck all k n) (eqb (what_number (asked (clean_steps_of C B receive s out n w).told)) to_send)
    where
      go : (v : Ends) → on_line_of C B receive s out (asked v.told) ≡ b → Stuck b v.got.state → (t : Bool)
          → Stuck b (cond t (moved_of C B receive s out heard v) v).got.state
      go v e m true = subst (λ (y : List ℕ). Stuck b (receive v.got.state v.got.buffer y).state) (sym e) (stuck-on b v.got.state v.got.buffer m)
      go v e m false = m

-- not if it is always the same block, whatever calls make it so
transfer-not-stuck : (C : Caller) (B : BlockCaller) (out b : List ℕ)
    → ((i : ℕ) → on_line_of C B receive p out (asked (clean_steps_of C B receive p out i (starts_of C p ends_at_start)).told) ≡ b) → SaysTransferCarried C B receive → ⊥
transfer-not-stuck C B out b all h =
    stuck-not-arrived b p sixty _ (transfer-p C B receive h out) (clean-stuck C B p out b (starts_of C p ends_at_start) all (took-none refl) 2)

transfer-carried-not-same-send : (c : SendCall) (B : BlockCaller) → SaysTransferCarried (λ l b x. c) B receive → ⊥
transfer-carried-not-same-send c B =
    transfer-not-stuck (λ l b x. c) B [] (on_line_of (λ l b x. c) B receive p [] (asked c.answer))
    (λ i. ap (λ (y : Sent). on_line_of (λ l b x. c) B receive p [] (asked y)) (clean-told c B receive p [] (starts_of (λ l b x. c) p ends_at_start) refl i))

transfer-carried-not-same-block : (C : Caller) (c : Call ℕ) → SaysTransferCarried C (λ s i k out. c) receive → ⊥
transfer-carried-not-same-block C c = transfer-not-stuck C (λ s i k out. c) [] (take (made_count c.answer) c.buffer) (λ i. refl)

transfer-carried-not-refusing-block : (C : Caller) (r : List ℕ → ℕ → ℕ → List ℕ → Refusal) → SaysTransferCarried C (λ s i k out. record { answer = Err (r s i k out); buffer = out }) receive → ⊥
transfer-carried-not-refusing-block C r = transfer-not-stuck C (λ s i k out. record { answer = Err (r s i k out); buffer = out }) [] [] (λ i. refl)

-- nor one that leaves what is lent for the block as it was, whatever it answers
take_none : (n : ℕ) → ◌≡◌ {A = List ℕ} (take n []) []
take_none zero = refl
take_none (suc n) = refl

abbrev idle_block : (List ℕ → ℕ → ℕ → List ℕ → Made) → BlockCaller
idle_block a s i k out = record { answer = a s i k out; buffer = out }

transfer-carried-not-idle-block : (C : Caller) (a : List ℕ → ℕ → ℕ → List ℕ → Made) → SaysTransferCarried C (idle_block a) receive → ⊥
transfer-carried-not-idle-block C a =
    transfer-not-stuck C (idle_block a) [] [] (λ i. none (asked (clean_steps_of C (idle_block a) receive p [] i (starts_of C p ends_at_start)).told))
  where
    none : (x : Action) → on_line_of C (idle_block a) receive p [] x ≡ []
    none x = take_none (made_count (a p (block_number x) (count_number x) []))

-- a receiver that leaves its buffer as it was, whatever it answers
module _ (C : Caller) (B : BlockCaller) (a : Receiver → List ℕ → List ℕ → Reply ℕ) where
  clean-kept : (s out : List ℕ) (n : ℕ) (w : Ends) → (clean_steps_of C B (idle_taker a) s out n w).got.buffer ≡ w.got.buffer
  clean-kept s out zero w = refl
  clean-kept s out (suc n) w = go (eqb (what_number (asked (clean_steps_of C B (idle_taker a) s out n w).told)) to_send) ∙ clean-kept s out n w
    where
      go : (t : Bool) → (cond t (moved_of C B (idle_taker a) s out heard (clean_steps_of C B (idle_taker a) s out n w)) (clean_steps_of C B (idle_taker a) s out n w)).got.buffer
          ≡ (clean_steps_of C B (idle_taker a) s out n w).got.buffer
      go true = refl
      go false = refl

  transfer-carried-not-idle-receive : SaysTransferCarried C B (idle_taker a) → ⊥
  transfer-carried-not-idle-receive h = not-sixty _ (sym (clean-kept p [] 2 (starts_of C p ends_at_start)) ∙ (transfer-p C B (idle_taker a) h []).buffer-is)

transfer-carried-not-refusing-receive : (C : Caller) (B : BlockCaller) (r : Receiver → List ℕ → List ℕ → Refusal) → SaysTransferCarried C B (refusing_taker r) → ⊥
transfer-carried-not-refusing-receive C B r = transfer-carried-not-idle-receive C B (λ st buf b. refused (r st buf b))

-- one that does always the same
module _ (C : Caller) (B : BlockCaller) (c : ReceiveCall) where
  clean-got : (s out : List ℕ) (n : ℕ) (w : Ends)
      → ((clean_steps_of C B (λ st buf b. c) s out n w).got ≡ w.got) ⊎ ((clean_steps_of C B (λ st buf b. c) s out n w).got ≡ c)
  clean-got s out zero w = inl refl
  clean-got s out (suc n) w =
      go (clean_steps_of C B (λ st buf b. c) s out n w) (clean-got s out n w) (eqb (what_number (asked (clean_steps_of C B (λ st buf b. c) s out n w).told)) to_send)
    where
      go : (v : Ends) → (v.got ≡ w.got) ⊎ (v.got ≡ c) → (t : Bool)
          → ((cond t (moved_of C B (λ st buf b. c) s out heard v) v).got ≡ w.got) ⊎ ((cond t (moved_of C B (λ st buf b. c) s out heard v) v).got ≡ c)
      go v m true = inr refl
      go v m false = m

  -- what it has left of P, and of the other set
  abbrev end_p : ReceiveCall
  end_p = (clean_steps_of C B (λ st buf b. c) p [] 2 (starts_of C p ends_at_start)).got

  abbrev end_q : ReceiveCall
  end_q = (clean_steps_of C B (λ st buf b. c) q [] 2 (starts_of C q ends_at_start)).got

  transfer-carried-not-same-receive : SaysTransferCarried C B (λ st buf b. c) → ⊥
  transfer-carried-not-same-receive h = go (clean-got p [] 2 (starts_of C p ends_at_start)) (clean-got q [] 2 (starts_of C q ends_at_start))
    where
      buffer-of : {x y : ReceiveCall} → x ≡ y → x.buffer ≡ y.buffer
      buffer-of e = ap (λ (z : ReceiveCall). z.buffer) e

      go : (end_p ≡ ends_at_start.got) ⊎ (end_p ≡ c) → (end_q ≡ ends_at_start.got) ⊎ (end_q ≡ c) → ⊥
      go (inl e) f = not-sixty _ (sym (buffer-of e) ∙ (transfer-p C B (λ st buf b. c) h []).buffer-is)
      go (inr e) (inl f) = not-sixty-q _ (sym (buffer-of f) ∙ (transfer-q C B (λ st buf b. c) h []).buffer-is)
      go (inr e) (inr f) =
          not-both c.buffer _ _ (sym (buffer-of e) ∙ (transfer-p C B (λ st buf b. c) h []).buffer-is) (sym (buffer-of f) ∙ (transfer-q C B (λ st buf b. c) h []).buffer-is)

-- a receiver that acknowledges all and writes nothing
module _ (B : BlockCaller) (k : Receiver → List ℕ → List ℕ → ℕ) where
  transfer-arrived-not-idle-receive : SaysTransferArrived send_call B (idle_taker (λ st buf b. done (k st buf b))) → ⊥
  unfolding computes cable_computes p
  transfer-arrived-not-idle-receive h = not-sixty _ (h p p_lines read-p ends_at_start [] start-agrees (heard ∷ heard ∷ []) refl).buffer-is

  transfer-ends-not-idle-receive : SaysTransferEnds send_call B (idle_taker (λ st buf b. done (k st buf b))) → ⊥
  unfolding computes cable_computes p
  transfer-ends-not-idle-receive h = go (h p p_lines read-p ends_at_start [] start-agrees eight_heard (omega (arith, count-p)))
    where
      go : Arrived p sixty (cable_of (steps_of send_call B (idle_taker (λ st buf b. done (k st buf b))) p [] eight_heard (starts_of send_call p ends_at_start)))
          ⊎ ((steps_of send_call B (idle_taker (λ st buf b. done (k st buf b))) p [] eight_heard (starts_of send_call p ends_at_start)).link.phase ≡ given_up) → ⊥
      go (inl a) = not-sixty _ a.buffer-is
      go (inr e) = let z : ◌≡◌ {A = ℕ} 2 3 = e in omega arith

-- one that answers always the same, and does not refuse
transfer-arrived-not-same-receive : (B : BlockCaller) (k : ℕ) (st : Receiver) (x : List ℕ) → SaysTransferArrived send_call B (λ t buf b. record { answer = done k; state = st; buffer = x }) → ⊥
unfolding computes cable_computes p q
transfer-arrived-not-same-receive B k st x h =
    not-both x _ _ (h p p_lines read-p ends_at_start [] start-agrees (heard ∷ heard ∷ []) refl).buffer-is
    (h q q_lines read-q ends_at_start [] start-agrees (heard ∷ heard ∷ []) refl).buffer-is

transfer-ends-not-same-receive : (B : BlockCaller) (k : ℕ) (st : Receiver) (x : List ℕ) → SaysTransferEnds send_call B (λ t buf b. record { answer = done k; state = st; buffer = x }) → ⊥
unfolding computes cable_computes p q
transfer-ends-not-same-receive B k st x h =
    go (h p p_lines read-p ends_at_start [] start-agrees eight_heard (omega (arith, count-p))) (h q q_lines read-q ends_at_start [] start-agrees eight_heard (omega (arith, count-q)))
  where
    at_end : List ℕ → Ends
    at_end s = steps_of send_call B (λ t buf b. record { answer = done k; state = st; buffer = x }) s [] eight_heard (starts_of send_call s ends_at_start)

    go : Arrived p sixty (cable_of (at_end p)) ⊎ ((at_end p).link.phase ≡ given_up) → Arrived q sixty (cable_of (at_end q)) ⊎ ((at_end q).link.phase ≡ given_up) → ⊥
    go (inl a) (inl c) = not-both x _ _ a.buffer-is c.buffer-is
    go (inl a) (inr e) = let z : ◌≡◌ {A = ℕ} 2 3 = e in omega arith
    go (inr e) c = let z : ◌≡◌ {A = ℕ} 2 3 = e in omega arith

-- a receiver that takes blocks as it should, and answers ACK 1 for a block without room, too: the set is called delivered, and is not there
abbrev whatever : Reply ℕ → ℕ
whatever (refused r) = is_taken
whatever (done w) = w

abbrev always_ack : Taker
always_ack st buf b = record { answer = done (whatever (receive st buf b).answer); state = (receive st buf b).state; buffer = (receive st buf b).buffer }

received-length : (st : Receiver) (buf b : List ℕ) → length (receive st buf b).buffer ≡ length buf
received-length st buf b = go (receive-outcome st buf b)
  where
    go : Outcome st buf (receive st buf b) → length (receive st buf b).buffer ≡ length buf
    go (kept x n e) = ap (λ (c : ReceiveCall). length c.buffer) e
    go (once-more e) = ap (λ (c : ReceiveCall). length c.buffer) e
    go (took w n e l) = l

module _ (B : BlockCaller) where
  steps-length : (s out : List ℕ) (φ : List Fate) (w : Ends) → length (steps_of send_call B always_ack s out φ w).got.buffer ≡ length w.got.buffer
  steps-length s out [] w = refl
  steps-length s out (f ∷ φ) w = steps-length s out φ (step_of send_call B always_ack s out f w) ∙ go (eqb (what_number (asked w.told)) to_send) f
    where
      go : (t : Bool) (g : Fate) → length (cond t (moved_of send_call B always_ack s out g w) w).got.buffer ≡ length w.got.buffer
      go true heard = received-length w.got.state w.got.buffer (on_line_of send_call B always_ack s out (asked w.told))
      go true (unheard r n) = received-length w.got.state w.got.buffer (on_line_of send_call B always_ack s out (asked w.told))
      go true (changed bs r x n) = received-length w.got.state w.got.buffer bs
      go true (lost r n) = refl
      go false g = refl

  -- both ends fresh, and no room at all
  abbrev ends_without_room : Ends
  ends_without_room = record { link = fresh_link; told = Ok (record { link = fresh_link; action = Nothing }); got = keeping fresh_receiver [] (done 0) }

  transfer-arrived-not-always-ack : SaysTransferArrived send_call B always_ack → ⊥
  unfolding computes cable_computes p
  transfer-arrived-not-always-ack h =
      let e = (h p p_lines read-p ends_without_room [] start-agrees (heard ∷ heard ∷ []) refl).buffer-is in
      let z : 0 ≡ 51 + length {A = ℕ} [] = sym (steps-length p [] (heard ∷ heard ∷ []) (starts_of send_call p ends_without_room)) ∙ (ap length e ∙ length-append p []) in
      omega arith

-- a sender that takes any reply for ACK 1
transfer-arrived-not-deaf : (B : BlockCaller) (R : Taker) → SaysTransferArrived (λ l b x. send_call l b (cond b x ack1)) B R → ⊥
unfolding computes cable_computes p
transfer-arrived-not-deaf B R h = not-sixty _ (h p p_lines read-p ends_at_start [] start-agrees two_lost refl).buffer-is

-- A transfer with the sender's own call is what `exchanges_by_of` says, whatever makes the blocks and receives them.
abbrev action_now : Link → Action
action_now l = cond (eqb l.phase under_way) (sends l) (end_of l)

row_now : {s : Link} {r : List ℕ} {t : Link} {x : Action} → Follows s r t x → x ≡ action_now t
unfolding end_of
row_now (taken q a h) = refl
row_now (last_taken q a h) = refl
row_now (again q a h) = refl
row_now (begin-again q a h k) = refl
row_now (over q a h k) = refl
row_now {s} (ended q) = rw (ne_eqb s.phase under_way q)

reply-now : (l : Link) (r : List ℕ) → (send_call l false r).answer ≡ Ok (record { link = (send_call l false r).link; action = action_now (send_call l false r).link })
unfolding send
reply-now l r = ap (λ (x : Action). Ok (record { link = (turn_of l r).link; action = x })) (row_now (turn-follows l r))

-- an end asks for no block, and says delivered for a delivered set alone
end-asks : (l : Link) → eqb (what_number (end_of l)) to_send ≡ false
unfolding end_of
end-asks l = go (eqb l.phase delivered) (eqb l.phase given_up)
  where
    go : (a b : Bool) → eqb (what_number (cond a Delivered (cond b GivenUp Nothing))) to_send ≡ false
    go true b = refl
    go false true = refl
    go false false = refl

now-delivered : (l : Link) → (what_number (action_now l)) ≡ delivered → l.phase ≡ delivered
unfolding end_of
now-delivered l e = go (eqb l.phase under_way) (eqb l.phase delivered) (eqb l.phase given_up) refl e
  where
    go : (a b c : Bool) → eqb l.phase delivered ≡ b
        → (what_number (cond a (sends l) (cond b Delivered (cond c GivenUp Nothing)))) ≡ delivered → l.phase ≡ delivered
    go true b c u h = absurd (omega arith)
    go false true c u h = eqb-true l.phase delivered u
    go false false true u h = absurd (omega arith)
    go false false false u h = absurd (omega arith)

module _ (B : BlockCaller) (R : Taker) (s out : List ℕ) where
  abbrev line_of : Blocker
  line_of t i c = done (take (made_count (B t i c out).answer) (B t i c out).buffer)

  module _ (w : Ends) (t : Told w) where
    asks-block : eqb w.link.phase under_way ≡ true → asked w.told ≡ sends w.link
    asks-block u = ap asked t ∙ rw u

    asks-end : eqb w.link.phase under_way ≡ false → asked w.told ≡ end_of w.link
    asks-end u = ap asked t ∙ rw u

    leaves-so : eqb w.link.phase under_way ≡ true → (f : Fate) → leaves_of send_call B R s out f w ≡ got_of send line_of R s f (cable_of w)
    leaves-so u heard = ap (λ (x : Action). R w.got.state w.got.buffer (on_line_of send_call B R s out x)) (asks-block u)
    leaves-so u (unheard r n) = ap (λ (x : Action). R w.got.state w.got.buffer (on_line_of send_call B R s out x)) (asks-block u)
    leaves-so u (changed bs r f n) = refl
    leaves-so u (lost r n) = refl

    replies-so : eqb w.link.phase under_way ≡ true → (f : Fate) → replies_of send_call B R s out f w ≡ hears_of send line_of R s f (cable_of w)
    replies-so u heard = ap sent_back (leaves-so u heard) ∙ ack-told (arrives_of send line_of R s (cable_of w))
    replies-so u (unheard r n) = refl
    replies-so u (changed bs r f n) = refl
    replies-so u (lost r n) = refl

    -- what the exchange comes to, if one is made
    abbrev exchanged : Fate → Cable
    exchanged f = record { link = link_left w.link (send w.link false (hears_of send line_of R s f (cable_of w))); got = got_of send line_of R s f (cable_of w) }

    step_so : (f : Fate) → (cable_of (step_of send_call B R s out f w) ≡ exchange_by_of send line_of R s f (cable_of w)) × Told (step_of send_call B R s out f w)
    step_so f = go (eqb w.link.phase under_way) refl
      where
        go : (b : Bool) → eqb w.link.phase under_way ≡ b
            → (cable_of (step_of send_call B R s out f w) ≡ exchange_by_of send line_of R s f (cable_of w)) × Told (step_of send_call B R s out f w)
        go true u =
            let asks : eqb (what_number (asked w.told)) to_send ≡ true = ap (λ (x : Action). eqb (what_number x) to_send) (asks-block u) in
            let moves : step_of send_call B R s out f w ≡ moved_of send_call B R s out f w = ap (λ (b : Bool). cond b (moved_of send_call B R s out f w) w) asks in
            let there : exchange_by_of send line_of R s f (cable_of w) ≡ exchanged f =
            ap (λ (b : Bool). cond b (exchanged f) (cable_of w)) u in (
              ap cable_of moves ∙ ((λ i. record { link = link_left w.link (send w.link false (replies-so u f i)); got = leaves-so u f i }) ∙ sym there),
              subst Told (sym moves) (reply-now w.link (replies_of send_call B R s out f w)),
            )
        go false u =
            let asks : eqb (what_number (asked w.told)) to_send ≡ false = ap (λ (x : Action). eqb (what_number x) to_send) (asks-end u) ∙ end-asks w.link in
            let stays : step_of send_call B R s out f w ≡ w = ap (λ (b : Bool). cond b (moved_of send_call B R s out f w) w) asks in
            let there : exchange_by_of send line_of R s f (cable_of w) ≡ cable_of w =
            ap (λ (b : Bool). cond b (exchanged f) (cable_of w)) u in
            (ap cable_of stays ∙ sym there, subst Told (sym stays) t)

  steps-so : (φ : List Fate) (w : Ends) → Told w
      → (cable_of (steps_of send_call B R s out φ w) ≡ exchanges_by_of send line_of R s φ (cable_of w)) × Told (steps_of send_call B R s out φ w)
  steps-so [] w t = (refl, t)
  steps-so (f ∷ φ) w t =
      let one = step_so w t f in
      let rest = steps-so φ (step_of send_call B R s out f w) one.1 in
      (rest.0 ∙ ap (exchanges_by_of send line_of R s φ) one.0, rest.1)

  starts-told : (fs : List Field) → read s ≡ done (parsed fs []) → (w : Ends) → Told (starts_of send_call s w)
  unfolding send blocks_of begun
  starts-told fs e w = rw (set-alone s fs e)

-- If the sender never hears ACK 1, it never answers delivered, and gives up.
module _ (B : BlockCaller) (R : Taker) (silent : (s out : List ℕ) (f : Fate) (w : Cable) → is_ack (hears_of send (line_of B R s out) R s f w) ≡ false) where
  transfer-arrived-met-by-silent : SaysTransferArrived send_call B R
  transfer-arrived-met-by-silent s fs e w out agree φ h =
      let all = steps-so B R s out φ (starts_of send_call s w) (starts-told B R s out fs e w) in
      let d : (steps_of send_call B R s out φ (starts_of send_call s w)).link.phase ≡ delivered =
      now-delivered (steps_of send_call B R s out φ (starts_of send_call s w)).link (sym (ap (λ (y : Sent). (what_number (asked y))) all.1) ∙ h) in
      absurd (silent-not (line_of B R s out) R s (silent s out) fs e (cable_of w) φ (ap (λ (c : Cable). c.link.phase) (sym all.0) ∙ d))

  transfer-ends-met-by-silent : SaysTransferEnds send_call B R
  transfer-ends-met-by-silent s fs e w out agree φ h =
      let all = steps-so B R s out φ (starts_of send_call s w) (starts-told B R s out fs e w) in
      inr (ap (λ (c : Cable). c.link.phase) all.0 ∙ silent-ends (line_of B R s out) R s (silent s out) fs e (cable_of w) φ h)

-- So if the receiver, or the block's call, refuses all. Shut out by `transfer-carried`.
module _ (B : BlockCaller) (r : Receiver → List ℕ → List ℕ → Refusal) where
  transfer-arrived-met-by-refusing-receive : SaysTransferArrived send_call B (refusing_taker r)
  transfer-arrived-met-by-refusing-receive = transfer-arrived-met-by-silent B (refusing_taker r) (λ s out. refusing-silent (line_of B (refusing_taker r) s out) r s)

  transfer-ends-met-by-refusing-receive : SaysTransferEnds send_call B (refusing_taker r)
  transfer-ends-met-by-refusing-receive = transfer-ends-met-by-silent B (refusing_taker r) (λ s out. refusing-silent (line_of B (refusing_taker r) s out) r s)

module _ (r : List ℕ → ℕ → ℕ → List ℕ → Refusal) where
  abbrev refusing_block : BlockCaller
  refusing_block s i c out = record { answer = Err (r s i c out); buffer = out }

  block-silent : (s out : List ℕ) (f : Fate) (w : Cable) → is_ack (hears_of send (line_of refusing_block receive s out) receive s f w) ≡ false
  block-silent s out heard w = ap (λ (c : ReceiveCall). is_ack (ack_of c.answer)) (none-refused w.got.state w.got.buffer) ∙ ack0-other
  block-silent s out (unheard x n) w = n
  block-silent s out (changed bs x f n) w = n
  block-silent s out (lost x n) w = n

  transfer-arrived-met-by-refusing-block : SaysTransferArrived send_call refusing_block receive
  transfer-arrived-met-by-refusing-block = transfer-arrived-met-by-silent refusing_block receive block-silent

  transfer-ends-met-by-refusing-block : SaysTransferEnds send_call refusing_block receive
  transfer-ends-met-by-refusing-block = transfer-ends-met-by-silent refusing_block receive block-silent

-- A maker of blocks that makes always the same one, 0B00 with two bytes: the receiver takes it twice, and the sender says delivered.
not-ab : (x y : List ℕ) → text "ab" ++ x ≡ p ++ y → ⊥
unfolding computes p
not-ab x y e = let z : ◌≡◌ {A = ℕ} 97 48 = ap (λ (u : List ℕ). get_or u 0 0) e in omega arith

delivered-arrived-not-same-block : SaysDeliveredArrived send (λ s i c. done first_block) receive → ⊥
unfolding computes cable_computes p sixty first_block
delivered-arrived-not-same-block h = not-ab (replicate 58 0) _ (h p p_lines read-p at_start start-agrees (heard ∷ heard ∷ []) refl).buffer-is

arrived-or-given-up-not-same-block : SaysArrivedOrGivenUp send (λ s i c. done first_block) receive → ⊥
unfolding computes cable_computes p sixty first_block
arrived-or-given-up-not-same-block h = go (h p p_lines read-p at_start start-agrees eight_heard (omega (arith, count-p)))
  where
    go : Arrived p sixty (exchanges_by_of send (λ s i c. done first_block) receive p eight_heard (begins_of send p at_start))
        ⊎ ((exchanges_by_of send (λ s i c. done first_block) receive p eight_heard (begins_of send p at_start)).link.phase ≡ given_up) → ⊥
    go (inl a) = not-ab (replicate 58 0) _ a.buffer-is
    go (inr e) = let z : ◌≡◌ {A = ℕ} 2 3 = e in omega arith

agree-again-not-same-block : SaysAgreeAgain send (λ s i c. done first_block) receive → ⊥
unfolding computes cable_computes p sixty first_block
agree-again-not-same-block h = go (h p p_lines read-p at_start start-agrees (heard ∷ heard ∷ []) (inl refl))
  where
    go : Agree (at 2 2 1 1 0 1) (record { started = 1; last = 0; partial = 1; used = 2 }) → ⊥
    go (from_zero n) = n refl
    go (agree_on d started closed last) = let z : ◌≡◌ {A = ℕ} 1 0 = closed in omega arith

-- and an idle one that answers that all of what is lent to it is the block
abbrev as_lent : BlockCaller
as_lent s i c out = record { answer = Ok (length out); buffer = out }

transfer-arrived-not-idle-block : SaysTransferArrived send_call as_lent receive → ⊥
unfolding computes cable_computes p sixty first_block
transfer-arrived-not-idle-block h = not-ab (replicate 58 0) _ (h p p_lines read-p ends_at_start first_block start-agrees (heard ∷ heard ∷ []) refl).buffer-is

transfer-ends-not-idle-block : SaysTransferEnds send_call as_lent receive → ⊥
unfolding computes cable_computes p sixty first_block
transfer-ends-not-idle-block h = go (h p p_lines read-p ends_at_start first_block start-agrees eight_heard (omega (arith, count-p)))
  where
    go : Arrived p sixty (cable_of (steps_of send_call as_lent receive p first_block eight_heard (starts_of send_call p ends_at_start)))
        ⊎ ((steps_of send_call as_lent receive p first_block eight_heard (starts_of send_call p ends_at_start)).link.phase ≡ given_up) → ⊥
    go (inl a) = not-ab (replicate 58 0) _ a.buffer-is
    go (inr e) = let z : ◌≡◌ {A = ℕ} 2 3 = e in omega arith

-- ---- the numbers of refusals

-- send-numbers, block-numbers, receive-numbers: nothing given
abbrev SaysCableNumbers : Sender → Blocker → Taker → Type 0
SaysCableNumbers S B R =
    ((l : Link) (begins : Bool) (bytes : List ℕ) → Numbered (OneOf sender_numbers) (S l begins bytes))
    × ((s : List ℕ) (i count : ℕ) → Numbered (OneOf sender_numbers) (B s i count))
    × ((st : Receiver) (buf b : List ℕ) → Numbered (OneOf receiver_numbers) (R st buf b).answer)

cable-numbers-say : SaysCableNumbers send block receive
cable-numbers-say = (send-numbers, block-numbers, receive-numbers)

-- Functions that refuse all by 18, 18 and 25 meet them, and so do those that always do the same, and idle ones. Shut out by `send-follows`, `receive-follows`, `block_back`.
cable-numbers-met-by-refusing : SaysCableNumbers (λ l b x. refused (refusal 18 0 0)) (λ s i c. refused (refusal 18 0 0)) (refusing_taker (λ st buf b. refusal 25 0 0))
unfolding computes
cable-numbers-met-by-refusing = (λ l b x. refl, λ s i c. refl, λ st buf b. refl)

cable-numbers-met-by-same : (t : Turned) (bs : List ℕ) (k : ℕ) (st : Receiver) (x : List ℕ)
    → SaysCableNumbers (λ l b y. done t) (λ s i c. done bs) (λ u buf b. record { answer = done k; state = st; buffer = x })
cable-numbers-met-by-same t bs k st x = (λ l b y. tt, λ s i c. tt, λ u buf b. tt)

cable-numbers-met-by-idle : (a : Link → Bool → List ℕ → Action) (k : Receiver → List ℕ → List ℕ → ℕ) → SaysCableNumbers (idle_sender a) (λ s i c. done []) (idle_taker (λ st buf b. done (k st buf b)))
cable-numbers-met-by-idle a k = (λ l b y. tt, λ s i c. tt, λ u buf b. tt)

-- What they shut out is another number: 22 from the sender, 25 from the block's call, 18 from the receiver.
cable-numbers-not-22 : SaysCableNumbers (λ l b x. refused (refusal 22 0 0)) block receive → ⊥
unfolding computes
cable-numbers-not-22 h = true≢false (sym (h.0 fresh_link true []))

cable-numbers-not-25 : SaysCableNumbers send (λ s i c. refused (refusal 25 0 0)) receive → ⊥
unfolding computes
cable-numbers-not-25 h = true≢false (sym (h.1 [] 0 0))

cable-numbers-not-18 : SaysCableNumbers send block (refusing_taker (λ st buf b. refusal 18 0 0)) → ⊥
unfolding computes
cable-numbers-not-18 h = true≢false (sym (h.2 fresh_receiver [] []))

-- ---- a block of a set, read back

-- block_back: given an accepted set alone in its bytes, a block of it and a count of one digit
abbrev SaysBlockBack : Blocker → (List ℕ → List Fault) → Type 0
SaysBlockBack B F =
    (s : List ℕ) (fs : List Field) → read s ≡ done (parsed fs []) → (i c : ℕ) → i < block_count (stream fs) → c ≤ 9
    → (bs : List ℕ) × (B s i c ≡ done bs) × (F bs ≡ []) × (count_of bs ≡ c) × (label_of bs ≡ block_label i (block_count (stream fs))) × (data_of bs ≡ block_data (stream fs) i)
    × (length bs ≤ max_block)

block-back-says : SaysBlockBack block block_faults
block-back-says s fs e i c h l = let b = block_back s fs e i c h l in (b.bytes, b.is_made, b.no-faults, b.count-is, b.label-is, b.data_is, b.length_most)

block-back-not-refusing : (r : List ℕ → ℕ → ℕ → Refusal) (F : List ℕ → List Fault) → SaysBlockBack (λ s i c. refused (r s i c)) F → ⊥
block-back-not-refusing r F h = refused-done (h p p_lines read-p 0 0 (omega (arith, count-p)) (omega arith)).1

block-back-not-same : (a : Reply (List ℕ)) (F : List ℕ → List Fault) → SaysBlockBack (λ s i c. a) F → ⊥
block-back-not-same a F h =
    let x = h p p_lines read-p 0 0 (omega (arith, count-p)) (omega arith) in
    let y = h p p_lines read-p 0 1 (omega (arith, count-p)) (omega arith) in
    let z : ◌≡◌ {A = ℕ} 0 1 = sym x.3 ∙ (ap count_of (done-same (sym x.1 ∙ y.1)) ∙ y.3) in
    omega arith

-- a receiver that finds a fault in every block
block-back-not-faulty : (B : Blocker) (f : List ℕ → Fault) → SaysBlockBack B (λ b. f b ∷ []) → ⊥
block-back-not-faulty B f h = cons≢nil (h p p_lines read-p 0 0 (omega (arith, count-p)) (omega arith)).2

-- one-byte-of-set: given a block that the call made of some bytes, of which another byte takes the place of one
abbrev SaysOneByteOfSet : Blocker → (List ℕ → List Fault) → Type 0
SaysOneByteOfSet B F =
    (s : List ℕ) → Every IsByte s → (i c : ℕ) (bs : List ℕ) → B s i c ≡ done bs → (k v : ℕ) → k < length bs → v < 256 → v ≢ get_or bs k 0 → F (set bs k v) ≢ []

one-byte-of-set-says : SaysOneByteOfSet block block_faults
one-byte-of-set-says = one-byte-of-set

-- one-byte-refused: the same given
abbrev SaysOneByteRefused : Blocker → Taker → Type 0
SaysOneByteRefused B R =
    (s : List ℕ) → Every IsByte s → (i c : ℕ) (bs : List ℕ) → B s i c ≡ done bs → (k v : ℕ) → k < length bs → v < 256 → v ≢ get_or bs k 0 → (st : Receiver) (buf : List ℕ)
    → (R st buf (set bs k v) ≡ refusing st buf bad_block) ⊎ (R st buf (set bs k v) ≡ refusing st buf bad_crc)

one-byte-refused-says : SaysOneByteRefused block receive
one-byte-refused-says = one-byte-refused

-- bytes, tested
abbrev are_bytes : List ℕ → Bool
are_bytes [] = true
are_bytes (b ∷ x) = leb b 255 && are_bytes x

are-bytes : (x : List ℕ) → are_bytes x ≡ true → Every IsByte x
are-bytes [] e = tt
are-bytes (b ∷ x) e = let l = leb-true b 255 (and_left (leb b 255) (are_bytes x) e) in (omega arith, are-bytes x (and_right (leb b 255) (are_bytes x) e))

bytes-of-p : Every IsByte p
unfolding computes p
bytes-of-p = are-bytes p refl

-- the first block of P; the last digit of its CRC, 6525h, is changed to 6
first_of_p : List ℕ
first_of_p = text "0B0001380006300" ++ (0x1C ∷ text "6525\r")

made-first : block p 0 0 ≡ done first_of_p
unfolding computes cable_computes p first_of_p
made-first = refl

first-length : 19 < length first_of_p
unfolding computes first_of_p
first-length = omega arith

first-other : 54 ≢ get_or first_of_p 19 0
unfolding computes first_of_p
first-other e = let z : ◌≡◌ {A = ℕ} 54 53 = e in omega arith

one-byte-of-set-not-faultless : SaysOneByteOfSet block (λ b. []) → ⊥
one-byte-of-set-not-faultless h = h p bytes-of-p 0 0 first_of_p made-first 19 54 first-length (omega arith) first-other refl

-- No block is ever made, or has no bytes: shut out by `block_back`. A fault in every block: shut out by `block_back`.
one-byte-of-set-met-by-refusing : (r : List ℕ → ℕ → ℕ → Refusal) (F : List ℕ → List Fault) → SaysOneByteOfSet (λ s i c. refused (r s i c)) F
one-byte-of-set-met-by-refusing r F s h i c bs e k v l vb n = refused-done e

one-byte-of-set-met-by-none : (F : List ℕ → List Fault) → SaysOneByteOfSet (λ s i c. done []) F
one-byte-of-set-met-by-none F s h i c bs e k v l vb n = let z = ap length (done-same e) in absurd (omega arith)

one-byte-of-set-met-by-faulty : (B : Blocker) (f : List ℕ → Fault) → SaysOneByteOfSet B (λ b. f b ∷ [])
one-byte-of-set-met-by-faulty B f s h i c bs e k v l vb n x = cons≢nil x

-- what it asks of that block
module _ (R : Taker) (h : SaysOneByteRefused block R) (st : Receiver) (buf : List ℕ) where
  first-refused : (r : Refusal) × (R st buf (set first_of_p 19 54) ≡ keeping st buf (refused r))
  first-refused = go (h p bytes-of-p 0 0 first_of_p made-first 19 54 first-length (omega arith) first-other st buf)
    where
      go : (R st buf (set first_of_p 19 54) ≡ refusing st buf bad_block) ⊎ (R st buf (set first_of_p 19 54) ≡ refusing st buf bad_crc)
          → (r : Refusal) × (R st buf (set first_of_p 19 54) ≡ keeping st buf (refused r))
      go (inl e) = (refusal bad_block 0 0, e)
      go (inr e) = (refusal bad_crc 0 0, e)

one-byte-refused-not-same : (c : ReceiveCall) → SaysOneByteRefused block (λ st buf b. c) → ⊥
one-byte-refused-not-same c h =
    let e = sym (first-refused (λ st buf b. c) h fresh_receiver []).1 ∙ (first-refused (λ st buf b. c) h fresh_receiver (7 ∷ [])).1 in
    let z : ◌≡◌ {A = ℕ} 0 1 = ap (λ (y : ReceiveCall). length y.buffer) e in
    omega arith

one-byte-refused-not-idle : (w : Receiver → List ℕ → List ℕ → ℕ) → SaysOneByteRefused block (idle_taker (λ st buf b. done (w st buf b))) → ⊥
one-byte-refused-not-idle w h = refused-done (ap (λ (y : ReceiveCall). y.answer) (sym (first-refused (idle_taker (λ st buf b. done (w st buf b))) h fresh_receiver []).1))

one-byte-refused-not-skipping : SaysOneByteRefused block skips_crc → ⊥
unfolding computes cable_computes first_of_p sixty
one-byte-refused-not-skipping h = refused-done (ap (λ (y : ReceiveCall). y.answer) (sym (first-refused skips_crc h fresh_receiver sixty).1))

-- Refuses all by 25: shut out by `receive-follows`, `carried`. No block is ever made: shut out by `block_back`.
one-byte-refused-met-by-refusing-receive : (B : Blocker) → SaysOneByteRefused B (refusing_taker (λ st buf b. refusal bad_block 0 0))
one-byte-refused-met-by-refusing-receive B s h i c bs e k v l vb n st buf = inl refl

one-byte-refused-met-by-refusing-block : (r : List ℕ → ℕ → ℕ → Refusal) (R : Taker) → SaysOneByteRefused (λ s i c. refused (r s i c)) R
one-byte-refused-met-by-refusing-block r R s h i c bs e k v l vb n st buf = refused-done e

-- ---- the refusals of a set, exactly

-- alone-refused-with, and in the same words send-refused-with, begin-refused-with for any record and block-refused-with for any block: nothing given
abbrev SaysSendRefusedWith : {A : Type 0} → (List ℕ → Reply A) → Type 0
SaysSendRefusedWith B = (s : List ℕ) (r : Refusal) → (B s ≡ refused r) ↔ SendRefused s r

send-refused-with-says : SaysSendRefusedWith set_alone × SaysSendRefusedWith blocks_of × ((l : Link) → SaysSendRefusedWith (send l true)) × ((i c : ℕ) → SaysSendRefusedWith (λ s. block s i c))
send-refused-with-says = (alone-refused-with, send-refused-with, begin-refused-with, λ i c s. block-refused-with s i c)

send-refused-with-at : {A : Type 0} (B : List ℕ → Reply A) → SaysSendRefusedWith B → (s : List ℕ) (r : Refusal) → (B s ≡ refused r) ↔ (blocks_of s ≡ refused r)
send-refused-with-at B h s r = (λ e. (send-refused-with s r).1 ((h s r).0 e), λ e. (h s r).1 ((send-refused-with s r).0 e))

send-refused-with-not-refusing : {A : Type 0} (r : List ℕ → Refusal) → SaysSendRefusedWith {A = A} (λ s. refused (r s)) → ⊥
send-refused-with-not-refusing r h = refused-done (sym ((send-refused-with-at (λ s. refused (r s)) h p (r p)).0 refl) ∙ blocks-p)

send-refused-with-not-same : {A : Type 0} (a : Reply A) → SaysSendRefusedWith (λ s. a) → ⊥
send-refused-with-not-same (refused r) h = send-refused-with-not-refusing (λ s. r) h
send-refused-with-not-same (done x) h = refused-done (sym ((send-refused-with-at (λ s. done x) h [] (refusal 1 0 0)).1 blocks-none))

-- nor one that refuses what it should, all by 1
abbrev all_by_one : {A : Type 0} → Reply A → Reply A
all_by_one (refused r) = refused (refusal 1 0 0)
all_by_one (done x) = done x

send-refused-with-not-one-number : SaysSendRefusedWith (λ s. all_by_one (blocks_of s)) → ⊥
send-refused-with-not-one-number h =
    let e = sym (ap all_by_one blocks-two-sets) ∙ (send-refused-with-at (λ s. all_by_one (blocks_of s)) h (p ++ p) (refusal 18 51 0)).1 blocks-two-sets in
    let z : ◌≡◌ {A = ℕ} 1 18 = ap (λ (y : Refusal). y.no) (refused-same e) in
    omega arith

-- nor one that does not look at what follows the set
read-two-sets : read (p ++ p) ≡ done (parsed p_lines p)
unfolding computes p p_lines
read-two-sets = refl

send-refused-with-not-first-set : SaysSendRefusedWith read → ⊥
send-refused-with-not-first-set h = refused-done (sym ((send-refused-with-at read h (p ++ p) (refusal 18 51 0)).1 blocks-two-sets) ∙ read-two-sets)

-- It does not say how many blocks there are else. Shut out by `cuts`.
abbrev two_always : Reply ℕ → Reply ℕ
two_always (refused r) = refused r
two_always (done n) = done 2

send-refused-with-met-by-two : SaysSendRefusedWith (λ s. two_always (blocks_of s))
send-refused-with-met-by-two s r = (λ e. (send-refused-with s r).0 (to (blocks_of s) e), λ x. ap two_always ((send-refused-with s r).1 x))
  where
    to : (y : Reply ℕ) → two_always y ≡ refused r → y ≡ refused r
    to (refused y) e = e
    to (done n) e = refused-done (sym e)

-- ---- the form of a block, exactly

-- form-exactly: nothing given
abbrev SaysFormExactly : (List ℕ → List Fault) → Type 0
SaysFormExactly F = (b : List ℕ) → (F b ≡ []) ↔ ((c l : ℕ) × (x : List ℕ) × Writable c l x × (b ≡ block_bytes c l x))

form-exactly-says : SaysFormExactly block_faults
form-exactly-says = form-exactly

form-exactly-at : (F : List ℕ → List Fault) → SaysFormExactly F → (b : List ℕ) → F b ≡ [] → block_faults b ≡ []
form-exactly-at F h b e = (form-exactly b).1 ((h b).0 e)

-- a fault in every block
form-exactly-not-refusing : (f : List ℕ → Fault) → SaysFormExactly (λ b. f b ∷ []) → ⊥
form-exactly-not-refusing f h = cons≢nil ((h (block_bytes 0 0 [])).1 (0, 0, [], empty-writable 0 (omega arith), refl))

-- no fault in any
form-exactly-not-faultless : SaysFormExactly (λ b. []) → ⊥
unfolding computes cable_computes
form-exactly-not-faultless h = cons≢nil (form-exactly-at (λ b. []) h [] refl)

-- a look at the form alone: 0B00 without data has the CRC 6582h
form-exactly-not-skipping : SaysFormExactly (λ b. ask (form_ok b) (at_line bad_block 0 0)) → ⊥
unfolding computes cable_computes
form-exactly-not-skipping h = cons≢nil (form-exactly-at (λ b. ask (form_ok b) (at_line bad_block 0 0)) h (text "0B006583\r") refl)

-- It does not say which fault there is. Shut out by `receive-follows`, whose rows name 25 and 26.
abbrev as_form : List Fault → List Fault
as_form [] = []
as_form (f ∷ fs) = at_line bad_block 0 0 ∷ []

form-exactly-met-by-one-number : SaysFormExactly (λ b. as_form (block_faults b))
form-exactly-met-by-one-number b = (λ e. (form-exactly b).0 (to (block_faults b) e), λ x. ap as_form ((form-exactly b).1 x))
  where
    to : (fs : List Fault) → as_form fs ≡ [] → fs ≡ []
    to [] e = refl
    to (f ∷ fs) e = absurd (cons≢nil e)

-- ---- the cuts, in the words of blocks

-- full-blocks: given data of more than 128 bytes
abbrev SaysFullBlocks : Counter → Cutter → Type 0
SaysFullBlocks C D = (x : List ℕ) → max_data < length x → (i : ℕ) → i + 1 < C x → length (D x i) ≡ max_data

full-blocks-says : SaysFullBlocks block_count block_data
full-blocks-says = full-blocks

-- a cut every 64 bytes, though the data of all blocks are the data, and no block has more than 128
full-blocks-not-halves : SaysFullBlocks (λ x. (length x + 63) / 64) (λ x i. take 64 (drop (64 * i) x)) → ⊥
full-blocks-not-halves h = let z : ◌≡◌ {A = ℕ} 64 128 = h (replicate 129 0) (omega arith) 0 (omega arith) in omega arith

-- no data in any block, or any other number of bytes
full-blocks-not-none : SaysFullBlocks block_count (λ x i. []) → ⊥
unfolding computes cable_computes
full-blocks-not-none h = let z : ◌≡◌ {A = ℕ} 0 128 = h (replicate 129 0) (omega arith) 0 (omega arith) in omega arith

-- All data in one block: shut out by `data-length`, `count-least`. As many zeros in each: shut out by `blocks-join`.
full-blocks-met-by-one-block : SaysFullBlocks (λ x. 1) (λ x i. x)
full-blocks-met-by-one-block x h i l = absurd (omega arith)

full-blocks-met-by-zeros : (C : Counter) → SaysFullBlocks C (λ x i. replicate max_data 0)
full-blocks-met-by-zeros C x h i l = length-replicate {A = ℕ} max_data 0

-- short-blocks: given two lines or more that can be written, whose data fit one block
abbrev SaysShortBlocks : Counter → Cutter → Type 0
SaysShortBlocks C D =
    (f g : Field) (fs : List Field) → Every Sound (f ∷ g ∷ fs) → length (stream (f ∷ g ∷ fs)) ≤ max_data
    → (C (stream (f ∷ g ∷ fs)) ≡ 2) × (D (stream (f ∷ g ∷ fs)) 0 ≡ bare_then f (separator ∷ [])) × (D (stream (f ∷ g ∷ fs)) 1 ≡ stream (g ∷ fs))

short-blocks-says : SaysShortBlocks block_count block_data
short-blocks-says = short-blocks

-- what it asks of P
short-p : (C : Counter) (D : Cutter) → SaysShortBlocks C D → (C (stream p_lines) ≡ 2) × (length (D (stream p_lines) 0) ≡ 12) × (length (D (stream p_lines) 1) ≡ 34)
unfolding computes cable_computes p_lines
short-p C D h =
    let x = h (line 8000 "6300") (line 8100 "00051") (drop 2 p_lines) sound-p (omega arith) in
    (x.0, ap length x.1, ap length x.2)

-- all data in one block, or a cut in the middle
short-blocks-not-one-block : SaysShortBlocks (λ x. 1) (λ x i. x) → ⊥
short-blocks-not-one-block h = omega (arith, (short-p (λ x. 1) (λ x i. x) h).0)

short-blocks-not-halves : SaysShortBlocks (λ x. 2) (λ x i. take 23 (drop (23 * i) x)) → ⊥
unfolding computes cable_computes p_lines
short-blocks-not-halves h = let z : ◌≡◌ {A = ℕ} 23 12 = (short-p (λ x. 2) (λ x i. take 23 (drop (23 * i) x)) h).1 in omega arith

-- the same in every block
short-blocks-not-same : (C : Counter) (y : List ℕ) → SaysShortBlocks C (λ x i. y) → ⊥
short-blocks-not-same C y h = let z = short-p C (λ x i. y) h in omega (arith, z.1, z.2)

-- Of data that do not fit one block it says nothing. Shut out by the one above, with `blocks-join`.
abbrev only_short : Counter → Counter
only_short C x = cond (leb (length x) max_data) (C x) 0

short-blocks-met-by-none-else : SaysShortBlocks (only_short block_count) block_data
short-blocks-met-by-none-else f g fs h l =
    let x = short-blocks f g fs h l in
    let e : only_short block_count (stream (f ∷ g ∷ fs)) ≡ block_count (stream (f ∷ g ∷ fs)) = rw (le-leb (length (stream (f ∷ g ∷ fs))) max_data l) in
    (e ∙ x.0, x.1, x.2)
