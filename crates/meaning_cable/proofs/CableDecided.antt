-- Computed examples: CRC vectors of appendix C's program, P's two blocks, where data are cut and how blocks are labelled, which reply is ACK 1, the rules of sender and receiver row by row
-- with all that a call leaves, the form of a block, the calls with their records and buffers, and that the bound of 4n is reached.
use mathlib.Core.Path.{◌≡◌, refl}
use mathlib.Core.Bool.{true, false, cond}
use mathlib.Core.List.{List, [], ◌∷◌, ◌++◌, map}
use Prim.Native.Nat.{ℕ, zero, suc, ◌-◌}
use Prim.Native.String.{String}
use lib.Dec.{eqb}
use lib.ListN.{length, take, drop, replicate}
use Rattle.meaning.proofs.Asking.{text}
use Rattle.meaning.specs.Computes.{computes}
use Rattle.meaning.specs.Refusals.{at_line, Reply, refused, done, refusal}
use Rattle.meaning.specs.Answers.{Call}
use Rattle.meaning_cable.specs.declared.Link.{Link}
use Rattle.meaning_cable.specs.declared.Action.{Action}
use Rattle.meaning_cable.specs.declared.Action.TheVariants.{Nothing, Send, Delivered, GivenUp}
use Rattle.meaning_cable.specs.declared.Turned.{Turned}
use Rattle.meaning_cable.specs.declared.BlockLabel.TheVariants.{B00, B01, B02}
use Rattle.meaning_cable.specs.declared.BlockOutcome.TheVariants.{Taken, Again, Whole}
use Rattle.meaning_cable.specs.declared.Receiver.{Receiver}
use Rattle.meaning_cable.specs.Crc.{crc}
use Rattle.meaning_cable.specs.Stream.{separator, restored}
use Rattle.meaning_cable.specs.Blocks.{label_digit, through_first, block_count, block_data, block_label, block_bytes, block_of, block, blocks_of}
use Rattle.meaning_cable.specs.Sending.{ack1, ack0, is_ack, what_number, block_number, count_number, begun, turn_of, after, given_up}
use Rattle.meaning_cable.specs.Receiving.{block_faults, ReceiveCall, ack_of, keeping, receive}
use Rattle.meaning_cable.specs.CableCalls.{SendCall, send_call, asked, counted, block_call, outcome_number, outcome_of, received_call, ack_by}
use Rattle.meaning_cable.specs.CableComputes.{cable_computes}
use Rattle.meaning.specs.Results.{Made}
use Rattle.meaning_cable.specs.CableResults.{Sent}
use Rattle.std.specs.Prelude.{Err, Ok}

-- ---- the CRC

up_to : ℕ → List ℕ
up_to zero = []
up_to (suc n) = up_to n ++ (n ∷ [])

vectors : List (List ℕ)
vectors =
    [] ∷ (0 ∷ []) ∷ (0x80 ∷ []) ∷ (0xFF ∷ []) ∷ text "A" ∷ text "123456789" ∷ up_to 256 ∷ (0x81 ∷ 0x84 ∷ 0x94 ∷ 0xE1 ∷ [])
    ∷ text "0B00" ∷ text "1B00" ∷ text "1B02" ∷ (text "3B010133101M" ++ (0x81 ∷ text "ller")) ∷ []

crc-vectors : map crc vectors ≡ 0x0000 ∷ 0x0000 ∷ 0x8303 ∷ 0x0202 ∷ 0x0186 ∷ 0xFEE8 ∷ 0x3B7A ∷ 0xE423 ∷ 0x6582 ∷ 0xF181 ∷ 0x718E ∷ 0xD709 ∷ []
unfolding computes cable_computes vectors up_to
crc-vectors = refl

-- `|` for the byte between two lines
piped : List ℕ → List ℕ
piped bs = map (λ (b : ℕ). cond (eqb b 124) separator b) bs

-- the blocks of appendix A's samples, up to their CRC, which is not printed there
samples : List String
samples =
    "1B0001380006300|014810000075|0178315QMS-STAR|017" ∷ "2B028316ROP200U1|014921801.00" ∷ "7B0001380006301|014810000142|"
    ∷ "8B010178315ROP200U1|0178316QMS-STAR|01492180" ∷ "9B011.00|014300010027|0123101Axt|0143102Berta" ∷ "1B02|017310331121937|01031102"
    ∷ "0B0001380006300|014810000075|0178315QMS-STAR|017" ∷ "1B028316ROP200U1|014921801.00" ∷ "1B0001380006300|014810000075|0178315MEDISTAR|017"
    ∷ "0B0001380006301|014810000141|" ∷ []

sample-crcs : map (λ (t : String). crc (piped (text t))) samples ≡ 0x1DEB ∷ 0xD0DD ∷ 0xD834 ∷ 0x7976 ∷ 0x2CA9 ∷ 0x56E8 ∷ 0xF184 ∷ 0xD0D4 ∷ 0x5EAA ∷ 0xD221 ∷ []
unfolding computes cable_computes samples piped
sample-crcs = refl

-- ---- the set P, 51 bytes

p : List ℕ
p = text "01380006300\r\n014810000051\r\n014921802.10\r\n01030000\r\n"

blocks_of_p : List (Reply (List ℕ))
blocks_of_p = block p 0 0 ∷ block p 1 1 ∷ block p 2 2 ∷ block p 0 10 ∷ block (p ++ p) 0 0 ∷ block [] 0 0 ∷ []

-- its blocks (E3e), and what a block is refused by
p-blocks : blocks_of_p
    ≡ done (text "0B0001380006300" ++ (separator ∷ text "6525\r"))
    ∷ done (text "1B02014810000051" ++ (separator ∷ (text "014921802.10" ++ (separator ∷ text "010300004226\r"))))
    ∷ done [] ∷ done [] ∷ refused (refusal 18 51 0) ∷ refused (refusal 1 0 0) ∷ []
unfolding computes cable_computes blocks_of_p p
p-blocks = refl

p-count : blocks_of p ≡ done 2
unfolding computes cable_computes p
p-count = refl

-- the set of the paper's example 8, 101 bytes: still one block's data, so two blocks
one_test : List ℕ
one_test = text "01380006310\r\n014810000101\r\n014921802.10\r\n01030007\r\n0148402EKG01\r\n0138410FEV1\r\n0138420-3.7\r\n0108421l\r\n"

-- the last five bytes of a block: the CRC and 0Dh
tails_of : Reply (List ℕ) → List ℕ
tails_of (refused r) = []
tails_of (done bs) = drop (length bs - 5) bs

example-8 : map tails_of (block one_test 0 0 ∷ block one_test 1 1 ∷ []) ≡ text "E532\r" ∷ text "102E\r" ∷ []
unfolding computes cable_computes one_test tails_of
example-8 = refl

-- "cut every 128 bytes; a set that would fit one block is cut after its first 1Ch" (E3b): blocks of so many data bytes
sizes : List ℕ → List ℕ
sizes x = map (λ (i : ℕ). length (block_data x i)) (up_to (block_count x))

-- n bytes of data whose 13th is 1Ch
some_data : ℕ → List ℕ
some_data n = replicate 12 65 ++ (separator ∷ replicate (n - 13) 65)

cut-sizes : map (λ (n : ℕ). sizes (some_data n)) (20 ∷ 128 ∷ 129 ∷ 256 ∷ 257 ∷ [])
    ≡ (13 ∷ 7 ∷ []) ∷ (13 ∷ 115 ∷ []) ∷ (128 ∷ 1 ∷ []) ∷ (128 ∷ 128 ∷ []) ∷ (128 ∷ 128 ∷ 1 ∷ []) ∷ []
unfolding computes cable_computes sizes some_data up_to
cut-sizes = refl

-- up to the first 1Ch; all if there is none
first-cuts : map through_first ([] ∷ text "ab" ∷ (separator ∷ text "a") ∷ (65 ∷ separator ∷ separator ∷ []) ∷ (10 ∷ separator ∷ []) ∷ []) ≡ 0 ∷ 2 ∷ 1 ∷ 2 ∷ 2 ∷ []
unfolding computes cable_computes
first-cuts = refl

-- only 1Ch stands for 0Dh 0Ah
restored-decided : restored (10 ∷ 27 ∷ separator ∷ 29 ∷ separator ∷ []) ≡ 10 ∷ 27 ∷ 13 ∷ 10 ∷ 29 ∷ 13 ∷ 10 ∷ []
unfolding computes cable_computes
restored-decided = refl

-- the first block is B00, the last B02, those between B01; after the last there is none (E3h)
labels-decided : map (λ (i : ℕ). take 4 (block_of (some_data 257) i 9)) (up_to 5) ≡ text "9B00" ∷ text "9B01" ∷ text "9B02" ∷ [] ∷ [] ∷ []
unfolding computes cable_computes some_data up_to
labels-decided = refl

-- the label's last digit by the block's number, of three blocks and of two; also for numbers after the last, of which no block is made
last_digits : map (λ (i : ℕ). block_label i 3) (up_to 5) ++ map (λ (i : ℕ). block_label i 2) (up_to 2) ≡ 0 ∷ 1 ∷ 2 ∷ 2 ∷ 2 ∷ 0 ∷ 2 ∷ []
unfolding computes cable_computes up_to
last_digits = refl

fresh_link : Link
fresh_link = record { phase = 0; blocks = 0; attempt = 0; block = 0; errors = 0; count = 0 }

fresh_receiver : Receiver
fresh_receiver = record { started = 0; last = 0; partial = 0; used = 0 }

-- ---- replies

-- "any reply but ACK 1 is an error": 06h 31h and nothing else
acks-decided : map is_ack ((6 ∷ 49 ∷ []) ∷ (6 ∷ 48 ∷ []) ∷ (6 ∷ 50 ∷ []) ∷ [] ∷ (6 ∷ []) ∷ (5 ∷ 49 ∷ []) ∷ (21 ∷ 49 ∷ []) ∷ (6 ∷ 49 ∷ 49 ∷ []) ∷ [])
    ≡ true ∷ false ∷ false ∷ false ∷ false ∷ false ∷ false ∷ false ∷ []
unfolding computes cable_computes
acks-decided = refl

out : Reply ℕ
out = refused (refusal 25 0 0)

-- "Refusals, answered ACK 0", all else ACK 1
answers-decided : map ack_of (out ∷ refused (refusal 26 0 0) ∷ refused (refusal 22 9 0) ∷ done 1 ∷ done 2 ∷ done 3 ∷ [])
    ≡ (6 ∷ 48 ∷ []) ∷ (6 ∷ 48 ∷ []) ∷ (6 ∷ 48 ∷ []) ∷ (6 ∷ 49 ∷ []) ∷ (6 ∷ 49 ∷ []) ∷ (6 ∷ 49 ∷ []) ∷ []
unfolding computes cable_computes out
answers-decided = refl

-- ---- the sender, row by row

-- phase, blocks, attempt, block, errors, count
at : ℕ → ℕ → ℕ → ℕ → ℕ → ℕ → Link
at p n a i e c = record { phase = p; blocks = n; attempt = a; block = i; errors = e; count = c }

turned_to : Link → Action → Turned
turned_to l x = record { link = l; action = x }

sender-begins :
    begun fresh_link 3  -- "0 at the start"
    ∷ begun (at 2 5 1 4 0 9) 3  -- after a delivered set the count goes on, 1 after 9 (E3g)
    ∷ begun (at 3 5 2 4 1 6) 3  -- 0 after a given-up set
    ∷ begun (at 1 5 1 2 0 6) 3  -- and after one that was under way (E3f)
    ∷ begun (at 2 5 1 4 0 8) 3  -- 9 after 8 (E3g)
    ∷ begun (at 2 5 1 4 0 12) 3  -- 1 after a foreign count (E3o)
    ∷ begun (at 0 5 1 2 0 6) 3  -- 0 on an idle link, whatever its count (E3o)
    ∷ begun (at 9 5 1 2 0 6) 3  -- any other phase counts as idle (E3o)
    ∷ []
    ≡ turned_to (at 1 3 1 0 0 0) (Send 0 0) ∷ turned_to (at 1 3 1 0 0 1) (Send 0 1) ∷ turned_to (at 1 3 1 0 0 0) (Send 0 0)
    ∷ turned_to (at 1 3 1 0 0 0) (Send 0 0) ∷ turned_to (at 1 3 1 0 0 9) (Send 0 9) ∷ turned_to (at 1 3 1 0 0 1) (Send 0 1)
    ∷ turned_to (at 1 3 1 0 0 0) (Send 0 0) ∷ turned_to (at 1 3 1 0 0 0) (Send 0 0) ∷ []
unfolding computes cable_computes fresh_link at turned_to
sender-begins = refl

sender-rows :
    turn_of (at 1 3 1 0 1 9) ack1  -- ACK 1: the next block, the error is forgotten
    ∷ turn_of (at 1 3 1 1 0 4) ack1  -- ACK 1 for the last but one
    ∷ turn_of (at 1 3 1 2 0 4) ack1  -- ACK 1 for the last block
    ∷ turn_of (at 1 3 1 1 0 4) []  -- a timeout: the same block again
    ∷ turn_of (at 1 3 1 1 1 4) ack0  -- a second error in a row: from B00 with count 0
    ∷ turn_of (at 1 3 2 1 1 4) (6 ∷ [])  -- and in the second attempt the end
    ∷ turn_of (at 2 3 1 2 0 4) ack0  -- calls after the end answer so
    ∷ turn_of (at 3 3 2 1 1 4) ack1
    ∷ turn_of (at 7 3 2 1 1 4) ack1  -- any other phase counts as idle, and stays
    ∷ turn_of (at 0 3 2 1 1 4) ack1  -- an idle link stays so (E3o)
    ∷ turn_of (at 1 3 1 0 0 8) ack1  -- 9 after 8
    ∷ turn_of (at 1 3 1 2 1 4) ack1  -- the end after an error: only the phase changes (E3o)
    ∷ turn_of (at 1 0 0 9 0 12) ack1  -- foreign records (E3o): no blocks
    ∷ turn_of (at 1 3 0 1 5 12) []  -- five errors are one, attempt 0 is the first
    ∷ turn_of (at 1 3 0 0 5 12) ack1  -- 1 after 12, attempt 0 stays
    ∷ turn_of (at 1 3 0 1 0 12) []  -- a block is asked for with the count as it is
    ∷ turn_of (at 1 3 9 1 5 12) []  -- attempt 9 is the second
    ∷ []
    ≡ turned_to (at 1 3 1 1 0 1) (Send 1 1) ∷ turned_to (at 1 3 1 2 0 5) (Send 2 5) ∷ turned_to (at 2 3 1 2 0 4) Delivered
    ∷ turned_to (at 1 3 1 1 1 4) (Send 1 4) ∷ turned_to (at 1 3 2 0 0 0) (Send 0 0) ∷ turned_to (at 3 3 2 1 1 4) GivenUp
    ∷ turned_to (at 2 3 1 2 0 4) Delivered ∷ turned_to (at 3 3 2 1 1 4) GivenUp ∷ turned_to (at 7 3 2 1 1 4) Nothing ∷ turned_to (at 0 3 2 1 1 4) Nothing
    ∷ turned_to (at 1 3 1 1 0 9) (Send 1 9) ∷ turned_to (at 2 3 1 2 1 4) Delivered ∷ turned_to (at 2 0 0 9 0 12) Delivered
    ∷ turned_to (at 1 3 2 0 0 0) (Send 0 0) ∷ turned_to (at 1 3 0 1 0 1) (Send 1 1) ∷ turned_to (at 1 3 0 1 1 12) (Send 1 12)
    ∷ turned_to (at 3 3 9 1 5 12) GivenUp ∷ []
unfolding computes cable_computes at turned_to
sender-rows = refl

-- ---- the receiver, row by row

-- started, last, open, used
state : ℕ → ℕ → ℕ → ℕ → Receiver
state s c o n = record { started = s; last = c; partial = o; used = n }

-- a block of this count, label and text comes; the buffer has 8 bytes, each 7
called : Receiver → ℕ → ℕ → String → ReceiveCall
called st count label t = receive st (replicate 8 7) (block_bytes count label (piped (text t)))

-- it was taken
left : ℕ → Receiver → List ℕ → ReceiveCall
left w st buf = record { answer = done w; state = st; buffer = buf }

-- state and buffer are as they were
same : Receiver → Reply ℕ → ReceiveCall
same st r = keeping st (replicate 8 7) r

receiver-starts :
    called fresh_receiver 0 0 "ab"  -- 0 with B00
    ∷ called (state 0 0 0 0) 0 0 "a|b"  -- 0Dh 0Ah for 1Ch (E3a)
    ∷ called (state 1 0 1 2) 0 0 "ab"  -- 0B00 twice: afresh, not again (E3k)
    ∷ called (state 1 3 1 99) 0 0 "ab"  -- afresh whatever was used (E3m)
    ∷ called (state 1 3 0 2) 4 0 "ab"  -- the next set
    ∷ called (state 1 3 0 99) 4 0 "ab"  -- whatever was used (E3m)
    ∷ called (state 1 12 0 2) 1 0 "ab"  -- 1 is next to a count over 9 (E3o)
    ∷ []
    ≡ left 1 (state 1 0 1 2) (text "ab" ++ replicate 6 0) ∷ left 1 (state 1 0 1 4) (text "a\r\nb" ++ replicate 4 0)
    ∷ left 1 (state 1 0 1 2) (text "ab" ++ replicate 6 0) ∷ left 1 (state 1 0 1 2) (text "ab" ++ replicate 6 0)
    ∷ left 1 (state 1 4 1 2) (text "ab" ++ replicate 6 0) ∷ left 1 (state 1 4 1 2) (text "ab" ++ replicate 6 0)
    ∷ left 1 (state 1 1 1 2) (text "ab" ++ replicate 6 0) ∷ []
unfolding computes cable_computes fresh_receiver state piped called left
receiver-starts = refl

receiver-goes-on :
    called (state 1 3 1 2) 4 1 "ab"  -- the next count, B01; zeros after it (E3m)
    ∷ called (state 1 3 1 2) 4 1 "a|b"  -- 0Dh 0Ah for 1Ch (E3a)
    ∷ called (state 1 8 1 2) 9 1 "ab"  -- 9 after 8
    ∷ called (state 1 9 1 2) 1 2 "ab"  -- 1 after 9; B02, with the end of the last line (E3a)
    ∷ called (state 7 3 9 2) 4 1 "ab"  -- any number but 0 is started, and open; 1 is written (E3o)
    ∷ []
    ≡ left 1 (state 1 4 1 4) (7 ∷ 7 ∷ text "ab" ++ replicate 4 0) ∷ left 1 (state 1 4 1 6) (7 ∷ 7 ∷ text "a\r\nb" ++ replicate 2 0)
    ∷ left 1 (state 1 9 1 4) (7 ∷ 7 ∷ text "ab" ++ replicate 4 0) ∷ left 3 (state 1 1 0 6) (7 ∷ 7 ∷ text "ab\r\n" ++ replicate 2 0)
    ∷ left 1 (state 1 4 1 4) (7 ∷ 7 ∷ text "ab" ++ replicate 4 0) ∷ []
unfolding computes cable_computes state piped called left
receiver-goes-on = refl

receiver-again :
    called (state 1 3 1 2) 3 1 "ab"  -- the last count again
    ∷ called (state 1 3 1 2) 3 1 "xy"  -- its data are not looked at (E3l)
    ∷ called (state 1 3 0 2) 3 0 "ab"  -- nor its label, also after B02 (E3l)
    ∷ called (state 1 3 1 99) 3 1 "ab"  -- nor what was used (E3m)
    ∷ called (state 7 3 9 2) 3 1 "ab"  -- a foreign record (E3o)
    ∷ []
    ≡ same (state 1 3 1 2) (done 2) ∷ same (state 1 3 1 2) (done 2) ∷ same (state 1 3 0 2) (done 2) ∷ same (state 1 3 1 99) (done 2) ∷ same (state 7 3 9 2) (done 2) ∷ []
unfolding computes cable_computes state piped called same
receiver-again = refl

receiver-room :
    called (state 1 3 1 4) 4 2 "ab"  -- 8 of 8 bytes
    ∷ called (state 1 3 1 5) 4 2 "ab"  -- 9: the end of the last line needs room, too
    ∷ called (state 1 3 1 5) 4 1 "a|"  -- 8
    ∷ called (state 1 3 1 6) 4 1 "a|"  -- 9: 1Ch needs two bytes
    ∷ called (state 1 3 1 7) 4 1 "ab"  -- 9
    ∷ called (state 1 3 1 8) 4 1 ""  -- no data in a full buffer (E3d)
    ∷ called (state 1 3 1 18446744073709551614) 4 1 "ab"  -- a need over 2^64 - 1 (E3m)
    ∷ []
    ≡ left 3 (state 1 4 0 8) (replicate 4 7 ++ text "ab\r\n") ∷ same (state 1 3 1 5) (refused (refusal 22 9 0))
    ∷ left 1 (state 1 4 1 8) (replicate 5 7 ++ text "a\r\n") ∷ same (state 1 3 1 6) (refused (refusal 22 9 0)) ∷ same (state 1 3 1 7) (refused (refusal 22 9 0))
    ∷ left 1 (state 1 4 1 8) (replicate 8 7) ∷ same (state 1 3 1 18446744073709551614) (refused (refusal 22 18446744073709551615 0)) ∷ []
unfolding computes cable_computes state piped called left same
receiver-room = refl

-- out of turn: each is refused by 25, and nothing moved
off_turn : List (Receiver × ℕ × ℕ)
off_turn =
    (fresh_receiver, 1, 0)  -- a fresh receiver takes only 0 (E3j)
    ∷ (fresh_receiver, 0, 1)  -- 0 with another label
    ∷ (state 1 3 1 2, 4, 0)  -- B00 in an open set
    ∷ (state 1 3 0 2, 4, 1)  -- B01 without one
    ∷ (state 1 3 1 2, 5, 1)  -- another count: one too far
    ∷ (state 1 3 1 2, 2, 1)  -- one back
    ∷ (state 1 9 1 2, 0, 1)  -- 0 does not follow 9
    ∷ (state 1 3 1 7, 5, 1) ∷ (state 1 3 1 7, 4, 0) ∷ (state 1 3 1 7, 0, 2) ∷ (state 1 3 0 7, 4, 1) ∷ (state 1 3 0 7, 4, 2)  -- 25 before 22 (E3d)
    ∷ (state 0 3 1 2, 3, 1) ∷ (state 0 3 1 2, 4, 1) ∷ (state 0 3 0 2, 4, 0)  -- not started: there is no last count (E3o)
    ∷ (state 7 3 9 2, 4, 0)  -- any number but 0 is open (E3o)
    ∷ (state 1 12 1 2, 9, 1)  -- a last count over 9 (E3o)
    ∷ (state 1 3 1 2, 4, 3)  -- B03 is no label
    ∷ []

receiver-refuses : map (λ (q : Receiver × ℕ × ℕ). called q.0 q.1 q.2 "ab") off_turn ≡ map (λ (q : Receiver × ℕ × ℕ). same q.0 out) off_turn
unfolding computes cable_computes fresh_receiver state piped called same out off_turn
receiver-refuses = refl

-- bytes by themselves
told_of_bytes : List ℕ → Reply ℕ
told_of_bytes b = (receive fresh_receiver (replicate 60 7) b).answer

block-forms :
    map told_of_bytes (
    text "0B006582\r"  -- no data are fine (E3d)
    ∷ text "0B00" ∷ text "0B036589\r" ∷ text "a_b006582\r" ∷ text "0B006582\n"
    ∷ (text "0B0001380006300" ++ (separator ∷ text "6525\r"))
    ∷ (text "0B0001380006300" ++ (separator ∷ text "6526\r"))  -- another CRC
    ∷ (text "0B0001380006310" ++ (separator ∷ text "6525\r"))  -- another byte
    ∷ (text "0B00A2a9e\r")  -- a lower-case digit (E3c)
    ∷ (text "0B00" ++ (31 ∷ text "0000\r"))  -- a byte under 20h that isn't 1Ch
    ∷ block_bytes 0 0 (replicate 128 65) ∷ block_bytes 0 0 (replicate 129 65) ∷ [])
    ≡ done 1 ∷ out ∷ out ∷ out ∷ out ∷ done 1 ∷ refused (refusal 26 0 0) ∷ refused (refusal 26 0 0) ∷ out ∷ out ∷ refused (refusal 22 128 0) ∷ out ∷ []
unfolding computes cable_computes fresh_receiver told_of_bytes out
block-forms = refl

-- just out of form, with the right CRC if it can be written (E3d)
out-of-form :
    map told_of_bytes (
    text "0B00F65\r"  -- 8 bytes
    ∷ text "/B00E984\r" ∷ text ":B00ED82\r"  -- no digit
    ∷ text "0A0065BE\r" ∷ text "0C00E595\r" ∷ text "0b00E701\r" ∷ text "0B/0A781\r" ∷ text "0B10E381\r" ∷ text "0B0/E5C3\r" ∷ text "0B036588\r"  -- no label
    ∷ text "0B00658G\r" ∷ text "0B00658@\r" ∷ text "0B00658:\r"  -- no hex digit
    ∷ (text "0B00" ++ (31 ∷ text "031F\r")) ∷ (text "0B00" ++ (27 ∷ text "8304\r"))  -- no data byte
    ∷ text "5B01A187\r"  -- only the turn is wrong
    ∷ [] ∷ text "\r" ∷ [])
    ≡ replicate 18 out
unfolding computes cable_computes fresh_receiver told_of_bytes out
out-of-form = refl

-- just in form; and 26 comes before the turn (E3d)
in-form :
    map told_of_bytes (text "0B00 039D\r" ∷ (text "0B00" ++ (255 ∷ text "815C\r")) ∷ (text "0B00" ++ (separator ∷ text "0315\r")) ∷ text "5B01A186\r" ∷ [])
    ≡ done 1 ∷ done 1 ∷ done 1 ∷ refused (refusal 26 0 0) ∷ []
unfolding computes cable_computes fresh_receiver told_of_bytes out
in-form = refl

-- all that is wrong with a block by itself, at its first byte: nothing, its form, its CRC, both
faults-decided : map block_faults (text "0B006582\r" ∷ text "0B036588\r" ∷ text "0B006583\r" ∷ text "0B00" ∷ [])
    ≡ [] ∷ (at_line 25 0 0 ∷ []) ∷ (at_line 26 0 0 ∷ []) ∷ (at_line 25 0 0 ∷ at_line 26 0 0 ∷ []) ∷ []
unfolding computes cable_computes
faults-decided = refl

-- ---- the calls, with their records and buffers

-- what is answered, and the link's record then
sent_to : Sent → Link → SendCall
sent_to a l = record { answer = a; link = l }

send-calls :
    send_call fresh_link true p  -- the first set
    ∷ send_call (at 2 2 1 1 0 1) true p  -- the count goes on (E3g)
    ∷ send_call (at 2 2 1 1 0 1) true (p ++ p)  -- a second set: 18, and the record stays
    ∷ send_call (at 2 2 1 1 0 1) true []  -- no set
    ∷ send_call (at 1 2 1 0 0 0) false ack1  -- a reply
    ∷ []
    ≡ sent_to (Ok (turned_to (at 1 2 1 0 0 0) (Send 0 0))) (at 1 2 1 0 0 0)
    ∷ sent_to (Ok (turned_to (at 1 2 1 0 0 2) (Send 0 2))) (at 1 2 1 0 0 2)
    ∷ sent_to (Err (refusal 18 51 0)) (at 2 2 1 1 0 1)
    ∷ sent_to (Err (refusal 1 0 0)) (at 2 2 1 1 0 1)
    ∷ sent_to (Ok (turned_to (at 1 2 1 1 0 1) (Send 1 1))) (at 1 2 1 1 0 1) ∷ []
unfolding computes cable_computes fresh_link p at turned_to sent_to
send-calls = refl

-- what an answer asks for: nothing if the set is refused
asked-decided : map asked ((send_call fresh_link true p).answer ∷ (send_call (at 1 2 1 0 1 8) false ack1).answer ∷ (send_call (at 1 2 1 0 0 0) true []).answer ∷ [])
    ≡ Send 0 0 ∷ Send 1 9 ∷ Nothing ∷ []
unfolding computes cable_computes fresh_link p at
asked-decided = refl

-- the numbers of what has to be done next: 1 with the block and its count, and 0, 2 or 3 with 0 and 0
actions-decided : map (λ (x : Action). what_number x ∷ block_number x ∷ count_number x ∷ []) (Nothing ∷ Send 4 7 ∷ Delivered ∷ GivenUp ∷ [])
    ≡ (0 ∷ 0 ∷ 0 ∷ []) ∷ (1 ∷ 4 ∷ 7 ∷ []) ∷ (2 ∷ 0 ∷ 0 ∷ []) ∷ (3 ∷ 0 ∷ 0 ∷ []) ∷ []
actions-decided = refl

-- the numbers of what became of a block, there and back
outcomes-decided : map outcome_number (Taken ∷ Again ∷ Whole ∷ []) ≡ 1 ∷ 2 ∷ 3 ∷ []
outcomes-decided = refl

outcomes-back : map outcome_of (1 ∷ 2 ∷ 3 ∷ []) ≡ Taken ∷ Again ∷ Whole ∷ []
outcomes-back = refl

-- the last digits of the labels
digits-of-labels : map label_digit (B00 ∷ B01 ∷ B02 ∷ []) ≡ 0 ∷ 1 ∷ 2 ∷ []
digits-of-labels = refl

counts-decided : map counted (blocks_of p ∷ blocks_of [] ∷ []) ≡ Ok 2 ∷ Err (refusal 1 0 0) ∷ []
unfolding computes cable_computes p
counts-decided = refl

made_so : Made → List ℕ → Call ℕ
made_so a buf = record { answer = a; buffer = buf }

block-calls :
    block_call p 0 9 (replicate 24 7)  -- zeros after the block (E3i)
    ∷ block_call p 2 0 (replicate 24 7)  -- P has no third block (E3h)
    ∷ block_call p 0 10 (replicate 24 7)  -- a count over 9 (E3h)
    ∷ block_call (p ++ p) 0 10 (replicate 24 7)  -- the set is judged first (E3h)
    ∷ []
    ≡ made_so (Ok 21) (text "9B0001380006300" ++ (separator ∷ text "5313\r") ++ replicate 3 0) ∷ made_so (Ok 0) (replicate 24 0)
    ∷ made_so (Ok 0) (replicate 24 0) ∷ made_so (Err (refusal 18 51 0)) (replicate 24 7) ∷ []
unfolding computes cable_computes p made_so
block-calls = refl

receive-calls : map received_call (called fresh_receiver 0 0 "a|b" ∷ called fresh_receiver 1 0 "ab" ∷ [])
    ≡ Ok (record { what = Taken; receiver = state 1 0 1 4 }) ∷ Err (refusal 25 0 0) ∷ []
unfolding computes cable_computes fresh_receiver state piped called
receive-calls = refl

-- the number of the reply in the call's own answer: ACK 0 for 25, 26, 25 and 22, ACK 1 for taken, again and whole
ack-calls :
    map (λ (c : ReceiveCall). ack_by (received_call c)) (
    receive fresh_receiver (replicate 8 7) (text "0B00")  -- 25 for the form
    ∷ receive fresh_receiver (replicate 8 7) (text "0B006583\r")  -- 26
    ∷ called fresh_receiver 1 0 "ab"  -- 25 for the count
    ∷ called (state 1 3 1 7) 4 1 "ab"  -- 22
    ∷ called fresh_receiver 0 0 "ab"  -- taken
    ∷ called (state 1 3 1 2) 3 1 "ab"  -- acknowledged again
    ∷ called (state 1 9 1 2) 1 2 "ab"  -- whole
    ∷ [])
    ≡ 0 ∷ 0 ∷ 0 ∷ 0 ∷ 1 ∷ 1 ∷ 1 ∷ []
unfolding computes cable_computes fresh_receiver state piped called
ack-calls = refl

-- ---- "at most 4n replies or timeouts" is reached: with two blocks seven replies need not be enough, eight always are

-- each block one error and then ACK 1, the last block two errors; and that twice
worst : List (List ℕ)
worst = [] ∷ ack1 ∷ ack0 ∷ [] ∷ [] ∷ ack1 ∷ [] ∷ []

bound-tight : (after (begun fresh_link 2).link worst).phase ≡ 1
unfolding computes cable_computes worst fresh_link
bound-tight = refl

bound-reached : (after (begun fresh_link 2).link (worst ++ (ack0 ∷ []))).phase ≡ given_up
unfolding computes cable_computes worst fresh_link
bound-reached = refl
