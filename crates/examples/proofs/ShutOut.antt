-- What the theorems of crate `meaning` and of LargestSet beside this shut out, tried. docs/PROMISES.md has the table of it: "What each theorem asks, and what it shuts out".
--
-- `SaysX` is the statement of theorem x, word for word, with any function in the place of the one that it is about; `x-says` is the theorem itself. Then trivial functions are put in:
-- `x-not-refusing`: one that refuses every input, each with whatever refusal, does not meet it. `x-not-same`: one that answers always the same, whatever that is, does not meet it.
-- `x-not-idle`: nor one that leaves every lent buffer as it was, whatever it answers. `x-met-by-..`: this trivial function meets it; the comment names what shuts that one out.
use mathlib.Core.Path.{◌≡◌, refl, sym, ap, ap₂, ◌∙◌, subst}
use mathlib.Core.Bool.{true, cond, true≢false}
use mathlib.Core.List.{List, [], ◌∷◌, ◌++◌, cons≢nil}
use Prim.Native.Nat.{ℕ, pred, ◌+◌, ◌-◌, ◌≤◌, ◌<◌}
use native.Mathlib.Omega.{arith}
use lib.Dec.{eqb}
use lib.ListN.{length, take, drop, get_or, replicate, length-replicate}
use Rattle.meaning.specs.declared.Refusal.{Refusal}
use Rattle.meaning.specs.declared.Shape.{Shape}
use Rattle.meaning.specs.declared.Entry.{Entry}
use Rattle.meaning.specs.declared.Part.{Part}
use Rattle.meaning.specs.declared.SetType.{SetType}
use Rattle.meaning.specs.declared.SetType.TheVariants.{T6300, T6301}
use Rattle.meaning.specs.Limits.{max_lines, max_set_bytes, type_of, type_number}
use Rattle.meaning.specs.Field.{Field, field, label_at_line, content_at_line}
use Rattle.meaning.specs.Refusals.{Reply, refused, done, refusal}
use Rattle.meaning.specs.Pieces.{Parsed, parsed}
use Rattle.meaning.specs.Lines.{size, render, set_over}
use Rattle.meaning.specs.Entries.{entry_then}
use Rattle.meaning.specs.Reading.{read, known_number, judge}
use Rattle.meaning.specs.Index.{index}
use Rattle.meaning.specs.Rules.{set_faults}
use Rattle.meaning.specs.Lists.{without_sum, with_sum, list, write}
use Rattle.meaning.specs.Corrections.{resum, changed, correct}
use Rattle.meaning.specs.Views.{sheet, viewing, viewed, view}
use Rattle.meaning.specs.Answers.{made, bytes_left, entries_left, Call, index_call, list_call, write_call, correct_call, judged_refusal, judged_shape, viewed_flag, viewed_part}
use Rattle.meaning.specs.Computes.{computes}
use Rattle.meaning.proofs.Asking.{text, line}
use Rattle.meaning.proofs.Bools.{Every}
use Rattle.meaning.proofs.FaultLaws.{refused-done, done-same}
use Rattle.meaning.proofs.AnswerLaws.{refused-accepted, accepted-same, refused-made, made-same}
use Rattle.meaning.proofs.EntryLaws.{Byte}
use Rattle.meaning.proofs.SetLaws.{Standing, accepted, read-render, sum_back, Accepted as AcceptedSet}
use Rattle.meaning.proofs.WriterLaws.{list_of, ListMade, list-only}
use Rattle.meaning.proofs.NumberLaws.{Numbered, OneOf, read_numbers, write_numbers, read-numbers, index-numbers, list-numbers, write-numbers, correct-numbers, view-numbers}
use Rattle.meaning.proofs.Demands.{refused-keeps-bytes, refused-keeps-entries, refused-shape, refused-view as view-refused, accepted-no-refusal}
use Rattle.meaning.proofs.Demands.{list-write, list-there, write-list, write-judge, both_replaced, either_order}
use Rattle.meaning.proofs.CallLaws.{set-list-set, list-set-list, either-call}
use Rattle.meaning.proofs.FieldLaws.{Short}
use Rattle.meaning.proofs.RuleLaws.{Ruled, ruled}
use Rattle.meaning.proofs.LineLaws.{length-render}
use Rattle.meaning.proofs.SizeLaws.{most_bytes, ruled-total, accepted-short, accepted-size}
use Rattle.meaning.proofs.CorrectionLaws.{Holds, Change, change, Alike, Corrected, still-standing, alike-changed, correct-makes, correct-only}
use Rattle.meaning.proofs.IndexLaws.{Shows, index-shows}
use Rattle.meaning.proofs.ViewLaws.{newest, view-shows, view-as-corrected}
use Rattle.examples.proofs.LargestSet.{largest_size, largest-set, largest, largest-judged}
use Rattle.meaning.specs.Results.{Judged, Known, Made, Viewed, of_set}
use Rattle.meaning.specs.declared.Shown.TheVariants.{Set}
use Rattle.std.specs.Prelude.{Err, Ok}

-- ---- the inputs

-- the paper's set P, and P after line 4 was given the content 10027
p : List ℕ
p = text "01380006300\r\n014810000051\r\n014921802.10\r\n01030000\r\n"

p_lines : List Field
p_lines = line 8000 "6300" ∷ line 8100 "00051" ∷ line 9218 "02.10" ∷ line 3000 "0" ∷ []

q : List ℕ
q = text "01380006300\r\n014810000055\r\n014921802.10\r\n014300010027\r\n"

q_lines : List Field
q_lines = line 8000 "6300" ∷ line 8100 "00055" ∷ line 9218 "02.10" ∷ line 3000 "10027" ∷ []

-- a buffer of 60 bytes in which P stands
in_buffer : List ℕ
in_buffer = p ++ replicate 9 7

abbrev shaped : ℕ → ℕ → ℕ → Shape
shaped n k t = record { length = n; lines = k; settype = t }

read-p : read p ≡ done (parsed p_lines [])
unfolding computes p p_lines
read-p = refl

read-q : read q ≡ done (parsed q_lines [])
unfolding computes q q_lines
read-q = refl

judge-p : judge p ≡ Ok (shaped 51 4 6300)
unfolding computes p
judge-p = refl

judge-q : judge q ≡ Ok (shaped 55 4 6300)
unfolding computes q
judge-q = refl

judge-none : judge [] ≡ Err (refusal 1 0 0)
unfolding computes
judge-none = refl

list-p : list p 60 ≡ done (list_of p_lines)
unfolding computes p p_lines
list-p = refl

list-q : list q 60 ≡ done (list_of q_lines)
unfolding computes q q_lines
list-q = refl

write-p : write (list_of p_lines) 60 ≡ done p
unfolding computes p p_lines
write-p = refl

write-q : write (list_of q_lines) 60 ≡ done q
unfolding computes q q_lines
write-q = refl

correct-p : correct in_buffer 51 4 (text "0") ≡ done p
unfolding computes p in_buffer
correct-p = refl

correct-q : correct in_buffer 51 4 (text "10027") ≡ done q
unfolding computes p q in_buffer
correct-q = refl

length-p : length p ≡ 51
unfolding p
length-p = refl

length-q : length q ≡ 55
unfolding q
length-q = refl

p-list : length (list_of p_lines) ≡ 22
unfolding p_lines
p-list = refl

q-list : length (list_of q_lines) ≡ 26
unfolding q_lines
q-list = refl

bytes-p : Every Byte (list_of p_lines)
unfolding p_lines
bytes-p = omega arith

bytes-q : Every Byte (list_of q_lines)
unfolding q_lines
bytes-q = omega arith

-- ---- answers that differ

not-p-and-q : {a : Reply (List ℕ)} → a ≡ done p → a ≡ done q → ⊥
not-p-and-q e f = omega (arith, ap length (done-same (sym e ∙ f)), length-p, length-q)

-- an answer and a buffer
abbrev call : {A : Type 0} → Made → List A → Call A
call a b = record { answer = a; buffer = b }

-- ---- the contracts: an equation with a definition, for all inputs, with nothing given. The walk that `judge-is` speaks of has the first of them.

abbrev SaysJudge : (List ℕ → Judged) → Type 0
SaysJudge f = (s : List ℕ) → f s ≡ judge s

judge-not-refusing : (r : List ℕ → Refusal) → SaysJudge (λ s. Err (r s)) → ⊥
judge-not-refusing r h = refused-accepted (h p ∙ judge-p)

judge-not-same : (a : Judged) → SaysJudge (λ s. a) → ⊥
judge-not-same a h = refused-accepted (sym judge-none ∙ (sym (h []) ∙ (h p ∙ judge-p)))

-- of a call: its answer, and what it leaves in the buffer
abbrev answer_of : {A : Type 0} → Call A → Made
answer_of c = c.answer

abbrev SaysIndex : (List ℕ → List Entry → Call Entry) → Type 0
SaysIndex f = (s : List ℕ) (out : List Entry) → f s out ≡ index_call s out

-- an entry, and eight of them as they were lent
abbrev lent_entry : Entry
lent_entry = record { label = 7; place = 7; length = 7; header = 7 }

abbrev lent_entries : List Entry
lent_entries = replicate 8 lent_entry

four-entries : (index_call p lent_entries).answer ≡ Ok 4
unfolding computes p
four-entries = refl

index-not-refusing : (r : List ℕ → List Entry → Refusal) (b : List ℕ → List Entry → List Entry) → SaysIndex (λ s out. call (Err (r s out)) (b s out)) → ⊥
index-not-refusing r b h = refused-made (ap answer_of (h p lent_entries) ∙ four-entries)

index-not-same : (a : Call Entry) → SaysIndex (λ s out. a) → ⊥
unfolding computes
index-not-same a h = refused-made (sym (ap answer_of (h [] [])) ∙ (ap answer_of (h p lent_entries) ∙ four-entries))

-- the first entry has the label 7 before the call, and 8000 after it
index-not-idle : (a : List ℕ → List Entry → Made) → SaysIndex (λ s out. call (a s out) out) → ⊥
unfolding computes p
index-not-idle a h = let z : ◌≡◌ {A = ℕ} 7 8000 = ap (λ (c : Call Entry). (get_or c.buffer 0 lent_entry).label) (h p lent_entries) in omega arith

abbrev SaysList : (List ℕ → List ℕ → Call ℕ) → Type 0
SaysList f = (s out : List ℕ) → f s out ≡ list_call s out

-- what is lent to list and writer
abbrev lent : List ℕ
lent = replicate 60 7

list-not-refusing : (r : List ℕ → List ℕ → Refusal) (b : List ℕ → List ℕ → List ℕ) → SaysList (λ s out. call (Err (r s out)) (b s out)) → ⊥
list-not-refusing r b h = refused-made (ap answer_of (h p lent) ∙ ap made list-p)

list-not-same : (a : Call ℕ) → SaysList (λ s out. a) → ⊥
list-not-same a h =
    let e : Ok (length (list_of p_lines)) ≡ Ok (length (list_of q_lines)) = sym (ap made list-p) ∙ (ap answer_of (sym (h p lent) ∙ h q lent) ∙ ap made list-q) in
    omega (arith, made-same e, p-list, q-list)

-- the last byte that was lent is 7 before the call, and 0 after it
list-not-idle : (a : List ℕ → List ℕ → Made) → SaysList (λ s out. call (a s out) out) → ⊥
unfolding computes p
list-not-idle a h = let z : ◌≡◌ {A = ℕ} 7 0 = ap (λ (c : Call ℕ). get_or c.buffer 59 0) (h p lent) in omega arith

abbrev SaysWrite : (List ℕ → List ℕ → Call ℕ) → Type 0
SaysWrite f = (l out : List ℕ) → f l out ≡ write_call l out

write-not-refusing : (r : List ℕ → List ℕ → Refusal) (b : List ℕ → List ℕ → List ℕ) → SaysWrite (λ l out. call (Err (r l out)) (b l out)) → ⊥
write-not-refusing r b h = refused-made (ap answer_of (h (list_of p_lines) lent) ∙ ap made write-p)

write-not-same : (a : Call ℕ) → SaysWrite (λ l out. a) → ⊥
write-not-same a h =
    let e : Ok (length p) ≡ Ok (length q) = sym (ap made write-p) ∙ (ap answer_of (sym (h (list_of p_lines) lent) ∙ h (list_of q_lines) lent) ∙ ap made write-q) in
    omega (arith, made-same e, length-p, length-q)

write-not-idle : (a : List ℕ → List ℕ → Made) → SaysWrite (λ l out. call (a l out) out) → ⊥
unfolding computes p_lines
write-not-idle a h = let z : ◌≡◌ {A = ℕ} 7 0 = ap (λ (c : Call ℕ). get_or c.buffer 59 0) (h (list_of p_lines) lent) in omega arith

abbrev SaysCorrect : (List ℕ → ℕ → ℕ → List ℕ → Call ℕ) → Type 0
SaysCorrect f = (b : List ℕ) (used n : ℕ) (c : List ℕ) → f b used n c ≡ correct_call b used n c

correct-not-refusing : (r : List ℕ → ℕ → ℕ → List ℕ → Refusal) (o : List ℕ → ℕ → ℕ → List ℕ → List ℕ)
    → SaysCorrect (λ b used n c. call (Err (r b used n c)) (o b used n c)) → ⊥
correct-not-refusing r o h = refused-made (ap answer_of (h in_buffer 51 4 (text "0")) ∙ ap made correct-p)

correct-not-same : (a : Call ℕ) → SaysCorrect (λ b used n c. a) → ⊥
correct-not-same a h =
    let e : Ok (length p) ≡ Ok (length q) =
    sym (ap made correct-p) ∙ (ap answer_of (sym (h in_buffer 51 4 (text "0")) ∙ h in_buffer 51 4 (text "10027")) ∙ ap made correct-q) in
    omega (arith, made-same e, length-p, length-q)

correct-not-idle : (a : List ℕ → ℕ → ℕ → List ℕ → Made) → SaysCorrect (λ b used n c. call (a b used n c) b) → ⊥
unfolding computes p in_buffer
correct-not-idle a h = let z : ◌≡◌ {A = ℕ} 7 0 = ap (λ (c : Call ℕ). get_or c.buffer 59 0) (h in_buffer 51 4 (text "0")) in omega arith

abbrev SaysViewed : (List ℕ → List ℕ → ℕ → Viewed) → Type 0
SaysViewed f = (s h : List ℕ) (n : ℕ) → f s h n ≡ viewed s h n

viewed-p : viewed p [] 4 ≡ of_set (record { place = 48; length = 1 })
unfolding computes p
viewed-p = refl

refused-view : {r : Refusal} → viewed p [] 4 ≡ Err r → ⊥
refused-view e = let f = sym viewed-p ∙ e in let z : ◌≡◌ {A = ℕ} 0 1 = cc in omega arith

viewed-not-refusing : (r : List ℕ → List ℕ → ℕ → Refusal) → SaysViewed (λ s h n. Err (r s h n)) → ⊥
viewed-not-refusing r h = refused-view (sym (h p [] 4))

viewed-not-same : (a : Viewed) → SaysViewed (λ s h n. a) → ⊥
unfolding computes
viewed-not-same a h = refused-view {r = refusal 1 0 0} (sym (h p [] 4) ∙ h [] [] 4)

-- a view that refuses all shows nothing, always
abbrev SaysView : (List ℕ → List ℕ → ℕ → List ℕ) → Type 0
SaysView f = (s h : List ℕ) (n : ℕ) → f s h n ≡ view s h n

view-p : view p [] 4 ≡ text "0"
unfolding computes p
view-p = refl

view-q : view q [] 4 ≡ text "10027"
unfolding computes q
view-q = refl

not-0-and-10027 : {a : List ℕ} → a ≡ text "0" → a ≡ text "10027" → ⊥
not-0-and-10027 e f = let z : ◌≡◌ {A = ℕ} 1 5 = ap length (sym e ∙ f) in omega arith

view-not-same : (a : List ℕ) → SaysView (λ s h n. a) → ⊥
view-not-same a h = not-0-and-10027 (h p [] 4 ∙ view-p) (h q [] 4 ∙ view-q)

-- a set type by its number, and its number
type-of-not-same : (a : Known) → ((n : ℕ) → a ≡ type_of n) → ⊥
unfolding type_of
type-of-not-same a h = let z : ◌≡◌ {A = ℕ} 6300 0 = ap known_number (sym (h 6300) ∙ h 0) in omega arith

type-number-not-same : (n : ℕ) → ((x : SetType) → n ≡ type_number x) → ⊥
type-number-not-same n h = let z : ◌≡◌ {A = ℕ} 6300 6301 = sym (h T6300) ∙ h T6301 in omega arith

-- ---- demand 1

-- NumberLaws, all six: nothing given; a refusal has one of these numbers
abbrev SaysNumbers : (List ℕ → Reply Parsed) → (List ℕ → ℕ → Reply (List Entry)) → (List ℕ → ℕ → Reply (List ℕ)) → (List ℕ → ℕ → Reply (List ℕ))
    → (List ℕ → ℕ → ℕ → List ℕ → Reply (List ℕ)) → (List ℕ → List ℕ → ℕ → Reply Viewed) → Type 0
SaysNumbers read index list write correct viewing =
    ((s : List ℕ) → Numbered (OneOf read_numbers) (read s))
    × ((s : List ℕ) (room : ℕ) → Numbered (OneOf (read_numbers ++ (22 ∷ []))) (index s room))
    × ((s : List ℕ) (room : ℕ) → Numbered (OneOf (read_numbers ++ (22 ∷ []))) (list s room))
    × ((l : List ℕ) (room : ℕ) → Numbered (OneOf write_numbers) (write l room))
    × ((b : List ℕ) (used n : ℕ) (c : List ℕ) → Numbered (OneOf (read_numbers ++ (18 ∷ 19 ∷ 20 ∷ 22 ∷ []))) (correct b used n c))
    × ((s h : List ℕ) (n : ℕ) → Numbered (OneOf (read_numbers ++ (18 ∷ 19 ∷ 20 ∷ 21 ∷ []))) (viewing s h n))

numbers-say : SaysNumbers read index list write correct viewing
numbers-say = (read-numbers, index-numbers, list-numbers, write-numbers, correct-numbers, view-numbers)

-- Functions that refuse all by 1 meet them, and so do those that always do the same. Shut out by the contracts above: `judge-not-refusing` and those after it.
numbers-met-by-refusing :
    let one = refusal 1 0 0 in
    SaysNumbers (λ s. refused one) (λ s room. refused one) (λ s room. refused one) (λ l room. refused one) (λ b used n c. refused one) (λ s h n. refused one)
unfolding computes
numbers-met-by-refusing = (λ s. refl, λ s room. refl, λ s room. refl, λ l room. refl, λ b used n c. refl, λ s h n. refl)

numbers-met-by-same : (d : Parsed) (es : List Entry) (l x y : List ℕ) (v : Viewed)
    → SaysNumbers (λ s. done d) (λ s room. done es) (λ s room. done l) (λ l room. done x) (λ b used n c. done y) (λ s h n. done v)
numbers-met-by-same d es l x y v = (λ s. tt, λ s room. tt, λ s room. tt, λ l room. tt, λ b used n c. tt, λ s h n. tt)

-- What they shut out is another number: for example a reader that gives 18.
numbers-not-other : SaysNumbers (λ s. refused (refusal 18 0 0)) index list write correct viewing → ⊥
unfolding computes
numbers-not-other h = true≢false (sym (h.0 []))

-- refused-keeps-bytes, and refused-keeps-entries in the same words: given a refusal
abbrev SaysKeeps : {A : Type 0} → (Reply (List A) → List A → List A) → Type 0
SaysKeeps {A} left = (r : Refusal) (b : List A) → left (refused r) b ≡ b

keeps-says : SaysKeeps bytes_left × SaysKeeps {A = Entry} entries_left
keeps-says = (refused-keeps-bytes, refused-keeps-entries)

keeps-not-same : {A : Type 0} (x : A) (a : List A) → SaysKeeps (λ r b. a) → ⊥
keeps-not-same x a h = let z : ◌≡◌ {A = ℕ} 0 1 = ap length (sym (h (refusal 1 0 0) []) ∙ h (refusal 1 0 0) (x ∷ [])) in omega arith

keeps-not-clearing : SaysKeeps (λ (r : Reply (List ℕ)) (b : List ℕ). replicate (length b) 0) → ⊥
keeps-not-clearing h = let z : ◌≡◌ {A = ℕ} 0 7 = ap (λ (b : List ℕ). get_or b 0 0) (h (refusal 1 0 0) (7 ∷ [])) in omega arith

-- A call that never writes meets them. Shut out by the contracts: `index-not-idle`, `list-not-idle`, `write-not-idle`, `correct-not-idle`.
keeps-met-by-idle : {A : Type 0} → SaysKeeps {A = A} (λ r b. b)
keeps-met-by-idle r b = refl

-- refused-shape: given a set that is refused. Any function for `judge`, and any for the values of its answer
abbrev SaysRefusedShape : (List ℕ → Judged) → (Judged → Shape) → Type 0
SaysRefusedShape J G = (s : List ℕ) (r : Refusal) → J s ≡ Err r → G (J s) ≡ shaped 0 0 0

refused-shape-says : SaysRefusedShape judge judged_shape
refused-shape-says = refused-shape

-- values that are always the same, and not all 0
refused-shape-not-same : (x : Shape) → (x ≡ shaped 0 0 0 → ⊥) → SaysRefusedShape judge (λ j. x) → ⊥
refused-shape-not-same x n h = n (h [] (refusal 1 0 0) judge-none)

-- It says nothing of how is judged, and values that are always 0 meet it. Shut out by the contract of `judge`, and of `gdt_judge`.
refused-shape-met-by-any : (J : List ℕ → Judged) → SaysRefusedShape J judged_shape
refused-shape-met-by-any J s r e = ap judged_shape e

refused-shape-met-by-zeros : (J : List ℕ → Judged) → SaysRefusedShape J (λ j. shaped 0 0 0)
refused-shape-met-by-zeros J s r e = refl

-- accepted-no-refusal: given a set that is accepted
abbrev SaysAcceptedNoRefusal : (List ℕ → Judged) → (Judged → Refusal) → Type 0
SaysAcceptedNoRefusal J G = (s : List ℕ) (x : Shape) → J s ≡ Ok x → G (J s) ≡ refusal 0 0 0

accepted-no-refusal-says : SaysAcceptedNoRefusal judge judged_refusal
accepted-no-refusal-says = accepted-no-refusal

accepted-no-refusal-not-same : (r : Refusal) → (r ≡ refusal 0 0 0 → ⊥) → SaysAcceptedNoRefusal judge (λ j. r) → ⊥
accepted-no-refusal-not-same r n h = n (h p (shaped 51 4 6300) judge-p)

-- the same as above
accepted-no-refusal-met-by-any : (J : List ℕ → Judged) → SaysAcceptedNoRefusal J judged_refusal
accepted-no-refusal-met-by-any J s x e = ap judged_refusal e

accepted-no-refusal-met-by-zeros : (J : List ℕ → Judged) → SaysAcceptedNoRefusal J (λ j. refusal 0 0 0)
accepted-no-refusal-met-by-zeros J s x e = refl

-- refused-view: given a view that is refused. Any function for `viewed`, for `view`, and for flag and part of the answer
abbrev SaysRefusedView : (List ℕ → List ℕ → ℕ → Viewed) → (List ℕ → List ℕ → ℕ → List ℕ) → (Viewed → ℕ) → (Viewed → Part) → Type 0
SaysRefusedView A W F P = (s h : List ℕ) (n : ℕ) (r : Refusal) → A s h n ≡ Err r → (F (A s h n) ≡ 0) × (P (A s h n) ≡ record { place = 0; length = 0 }) × (W s h n ≡ [])

refused-view-says : SaysRefusedView viewed view viewed_flag viewed_part
refused-view-says = view-refused

viewed-none : viewed [] [] 1 ≡ Err (refusal 1 0 0)
unfolding computes
viewed-none = refl

-- a part that is always flagged as the sheet's, and a view that always shows a byte
refused-view-not-flagged : (W : List ℕ → List ℕ → ℕ → List ℕ) (P : Viewed → Part) → SaysRefusedView viewed W (λ v. 1) P → ⊥
refused-view-not-flagged W P h = omega (arith, (h [] [] 1 (refusal 1 0 0) viewed-none).0)

refused-view-not-same : (b : ℕ) (bs : List ℕ) → SaysRefusedView viewed (λ s h n. b ∷ bs) viewed_flag viewed_part → ⊥
refused-view-not-same b bs h = cons≢nil (h [] [] 1 (refusal 1 0 0) viewed-none).2

-- A view that is never shown, and always flagged as the set's: shut out by the contracts of `viewed` and `view`, and by `view-shows`.
refused-view-met-by-none : (A : List ℕ → List ℕ → ℕ → Viewed) → SaysRefusedView A (λ s h n. []) (λ v. 0) (λ v. record { place = 0; length = 0 })
refused-view-met-by-none A s h n r e = (refl, refl, refl)

-- ---- demand 2: reading

-- read-render: given lines that keep every rule, and bytes after them at which the set ends
abbrev SaysReadRender : (List ℕ → Reply Parsed) → Type 0
SaysReadRender read = (fs : List Field) (t : List ℕ) → Standing fs → set_over t ≡ true → read (render fs t) ≡ done (parsed fs t)

read-render-says : SaysReadRender read
read-render-says = read-render

standing-p : Standing p_lines
standing-p = (accepted p (parsed p_lines []) read-p).standing

standing-q : Standing q_lines
standing-q = (accepted q (parsed q_lines []) read-q).standing

read-render-not-refusing : (r : List ℕ → Refusal) → SaysReadRender (λ s. refused (r s)) → ⊥
read-render-not-refusing r h = refused-done (h p_lines [] standing-p refl)

not-both-lines : {a : Reply Parsed} → a ≡ done (parsed p_lines []) → a ≡ done (parsed q_lines []) → ⊥
unfolding p_lines q_lines
not-both-lines e f = let z : ◌≡◌ {A = ℕ} 51 55 = ap (λ (d : Parsed). size d.fields) (done-same (sym e ∙ f)) in omega arith

read-render-not-same : (a : Reply Parsed) → SaysReadRender (λ s. a) → ⊥
read-render-not-same a h = not-both-lines (h p_lines [] standing-p refl) (h q_lines [] standing-q refl)

-- accepted: given that the bytes were read
abbrev SaysAccepted : (List ℕ → Reply Parsed) → Type 0
SaysAccepted read = (s : List ℕ) (d : Parsed) → read s ≡ done d → AcceptedSet s d

accepted-says : SaysAccepted read
accepted-says = accepted

-- a reader that refuses all meets it; shut out by `read-render`
accepted-met-by-refusing : (r : List ℕ → Refusal) → SaysAccepted (λ s. refused (r s))
accepted-met-by-refusing r s d e = refused-done e

-- two inputs would have the same lines
accepted-not-same : (d : Parsed) → SaysAccepted (λ s. done d) → ⊥
accepted-not-same d h = let z : ◌≡◌ {A = ℕ} 0 1 = ap length ((h [] d refl).bytes ∙ sym (h (7 ∷ []) d refl).bytes) in omega arith

-- ---- demand 2: set to list to set

abbrev SaysSetListSet : (List ℕ → List ℕ → Call ℕ) → (List ℕ → List ℕ → Call ℕ) → Type 0
SaysSetListSet list_call write_call = (s : List ℕ) (x : Shape) → judge s ≡ Ok x
    → (l : List ℕ) × ((list₀ list₁ out₀ out₁ : List ℕ) (listed written : Made)
    → length l ≤ length list₀ → x.length ≤ length out₀
    → listed ≡ (list_call s list₀).answer → list₁ ≡ (list_call s list₀).buffer
    → written ≡ (write_call (take (length l) list₁) out₀).answer → out₁ ≡ (write_call (take (length l) list₁) out₀).buffer
    → ((listed ≡ Ok (length l)) × (list₁ ≡ l ++ replicate (length list₀ - length l) 0))
    × ((written ≡ Ok x.length) × (out₁ ≡ take x.length s ++ replicate (length out₀ - x.length) 0)))

set-list-set-says : SaysSetListSet list_call write_call
set-list-set-says = set-list-set

abbrev zeros : ℕ → List ℕ
zeros n = replicate n 0

room_for : (n : ℕ) → n ≤ length (zeros n)
room_for n = omega (arith, length-replicate {A = ℕ} n 0)

-- what it says of one set, in a buffer for its list and one of 60 bytes
module _ (L W : List ℕ → List ℕ → Call ℕ) (s : List ℕ) (x : Shape) (j : judge s ≡ Ok x) (few : x.length ≤ 60) where
  record Back : Type 0 where
    count : ℕ
    listed : (L s (zeros count)).answer ≡ Ok count
    written : (W (take count (L s (zeros count)).buffer) lent).answer ≡ Ok x.length

  there_and_back : SaysSetListSet L W → Back
  there_and_back h =
      let l = h s x j in
      let out : List ℕ = zeros (length l.0) in
      let to : List ℕ = (L s out).buffer in
      let w : Call ℕ = W (take (length l.0) to) lent in
      let e = l.1 out to lent w.buffer (L s out).answer w.answer (room_for (length l.0)) few refl refl refl refl in
      record { count = length l.0; listed = e.0.0; written = e.1.0 }

p-and-back : (L W : List ℕ → List ℕ → Call ℕ) → SaysSetListSet L W → Back L W p (shaped 51 4 6300) judge-p (omega arith)
p-and-back L W = there_and_back L W p (shaped 51 4 6300) judge-p (omega arith)

q-and-back : (L W : List ℕ → List ℕ → Call ℕ) → SaysSetListSet L W → Back L W q (shaped 55 4 6300) judge-q (omega arith)
q-and-back L W = there_and_back L W q (shaped 55 4 6300) judge-q (omega arith)

-- neither with a trivial lister, whatever the writer is, nor with a trivial writer, whatever the lister is
set-list-set-not-refusing-list : (r : List ℕ → List ℕ → Refusal) (b : List ℕ → List ℕ → List ℕ) (W : List ℕ → List ℕ → Call ℕ)
    → SaysSetListSet (λ s out. call (Err (r s out)) (b s out)) W → ⊥
set-list-set-not-refusing-list r b W h = refused-made (p-and-back (λ s out. call (Err (r s out)) (b s out)) W h).listed

set-list-set-not-refusing-write : (r : List ℕ → List ℕ → Refusal) (b : List ℕ → List ℕ → List ℕ) (L : List ℕ → List ℕ → Call ℕ)
    → SaysSetListSet L (λ l out. call (Err (r l out)) (b l out)) → ⊥
set-list-set-not-refusing-write r b L h = refused-made (p-and-back L (λ l out. call (Err (r l out)) (b l out)) h).written

-- both sets would have a list of one length at the front of one buffer, from which the writer makes 51 bytes and 55
set-list-set-not-same-list : (a : Call ℕ) (W : List ℕ → List ℕ → Call ℕ) → SaysSetListSet (λ s out. a) W → ⊥
set-list-set-not-same-list a W h =
    let x = p-and-back (λ s out. a) W h in
    let y = q-and-back (λ s out. a) W h in
    let n : x.count ≡ y.count = made-same (sym x.listed ∙ y.listed) in
    let z : ◌≡◌ {A = ℕ} 51 55 = made-same (sym x.written ∙ (ap (λ (k : ℕ). (W (take k a.buffer) lent).answer) n ∙ y.written)) in
    omega arith

set-list-set-not-same-write : (a : Call ℕ) (L : List ℕ → List ℕ → Call ℕ) → SaysSetListSet L (λ l out. a) → ⊥
set-list-set-not-same-write a L h =
    let z : ◌≡◌ {A = ℕ} 51 55 = made-same (sym (p-and-back L (λ l out. a) h).written ∙ (q-and-back L (λ l out. a) h).written) in omega arith

-- list-write: given an accepted set, its list as `list` made it, and room
abbrev SaysListWrite : (List ℕ → ℕ → Reply (List ℕ)) → (List ℕ → ℕ → Reply (List ℕ)) → Type 0
SaysListWrite list write = (s : List ℕ) (x : Shape) (l : List ℕ) (room room' : ℕ) → judge s ≡ Ok x → list s room ≡ done l → x.length ≤ room'
    → write l room' ≡ done (take x.length s)

list-write-says : SaysListWrite list write
list-write-says = list-write

-- a lister that refuses all meets it; shut out by `list-there` and `set-list-set`
list-write-met-by-refusing-list : (r : List ℕ → ℕ → Refusal) (W : List ℕ → ℕ → Reply (List ℕ)) → SaysListWrite (λ s room. refused (r s room)) W
list-write-met-by-refusing-list r W s x l room room' j e h = refused-done e

take-p : take 51 p ≡ p
unfolding p
take-p = refl

take-q : take 55 q ≡ q
unfolding q
take-q = refl

list-write-not-same-list : (l : List ℕ) (W : List ℕ → ℕ → Reply (List ℕ)) → SaysListWrite (λ s room. done l) W → ⊥
list-write-not-same-list l W h =
    not-p-and-q (h p (shaped 51 4 6300) l 60 60 judge-p refl (omega arith) ∙ ap done take-p) (h q (shaped 55 4 6300) l 60 60 judge-q refl (omega arith) ∙ ap done take-q)

list-write-not-refusing-write : (r : List ℕ → ℕ → Refusal) → SaysListWrite list (λ l room. refused (r l room)) → ⊥
list-write-not-refusing-write r h = refused-done (h p (shaped 51 4 6300) (list_of p_lines) 60 60 judge-p list-p (omega arith))

list-write-not-same-write : (a : Reply (List ℕ)) → SaysListWrite list (λ l room. a) → ⊥
list-write-not-same-write a h =
    not-p-and-q (h p (shaped 51 4 6300) (list_of p_lines) 60 60 judge-p list-p (omega arith) ∙ ap done take-p)
    (h q (shaped 55 4 6300) (list_of q_lines) 60 60 judge-q list-q (omega arith) ∙ ap done take-q)

-- list-there: given an accepted set
abbrev SaysListThere : (List ℕ → ℕ → Reply (List ℕ)) → Type 0
SaysListThere list = (s : List ℕ) (x : Shape) → judge s ≡ Ok x → (l : List ℕ) × ((room : ℕ) → length l ≤ room → list s room ≡ done l)

list-there-says : SaysListThere list
list-there-says = list-there

list-there-not-refusing : (r : List ℕ → ℕ → Refusal) → SaysListThere (λ s room. refused (r s room)) → ⊥
list-there-not-refusing r h = let l = h p (shaped 51 4 6300) judge-p in refused-done (l.1 (length l.0) (omega arith))

-- a lister that makes the same list of every set meets it; shut out by `list-write` and `set-list-set`
list-there-met-by-same : (l : List ℕ) → SaysListThere (λ s room. done l)
list-there-met-by-same l s x j = (l, λ room h. refl)

-- All three speak of accepted sets alone: a lister that makes a list of no bytes of every set that is refused meets them. Shut out by its contract and by `list-only`, and by
-- `listed-exactly` in crate `breaches`.
abbrev lenient : Judged → Reply (List ℕ) → Reply (List ℕ)
lenient (Ok x) r = r
lenient (Err q) r = done []

lenient_list : List ℕ → ℕ → Reply (List ℕ)
lenient_list s room = lenient (judge s) (list s room)

lenient-same : (s : List ℕ) (x : Shape) (room : ℕ) → judge s ≡ Ok x → lenient_list s room ≡ list s room
unfolding lenient_list
lenient-same s x room j = ap (λ (y : Judged). lenient y (list s room)) j

list-there-met-by-lenient : SaysListThere lenient_list
list-there-met-by-lenient s x j = let l = list-there s x j in (l.0, λ room h. lenient-same s x room j ∙ l.1 room h)

list-write-met-by-lenient-list : SaysListWrite lenient_list write
list-write-met-by-lenient-list s x l room room' j e h = list-write s x l room room' j (sym (lenient-same s x room j) ∙ e) h

set-list-set-met-by-lenient-list : SaysSetListSet (λ s out. call (made (lenient_list s (length out))) (bytes_left (lenient_list s (length out)) out)) write_call
set-list-set-met-by-lenient-list s x j =
    let l = set-list-set s x j in (
      l.0,
      λ list₀ list₁ out₀ out₁ listed written room room' p q u v.
          let e : lenient_list s (length list₀) ≡ list s (length list₀) = lenient-same s x (length list₀) j in
          l.1 list₀ list₁ out₀ out₁ listed written room room' (p ∙ ap made e) (q ∙ ap (λ (r : Reply (List ℕ)). bytes_left r list₀) e) u v,
    )

-- list-only: given that the list was made
abbrev SaysListOnly : (List ℕ → ℕ → Reply (List ℕ)) → Type 0
SaysListOnly list = (s : List ℕ) (room : ℕ) (l : List ℕ) → list s room ≡ done l → ListMade s room l

list-only-says : SaysListOnly list
list-only-says = list-only

list-only-not-lenient : SaysListOnly lenient_list → ⊥
unfolding computes lenient_list
list-only-not-lenient h = refused-done {r = refusal 1 0 0} (h [] 0 [] refl).was_read

-- ---- demand 2: list to set to list

-- list-set-list: given a list of bytes that the writer wrote, and room
abbrev SaysListSetList : (List ℕ → List ℕ → Call ℕ) → (List ℕ → List ℕ → Call ℕ) → (List ℕ → Judged) → Type 0
SaysListSetList write_call list_call judge = (l out₀ out₁ back₀ back₁ : List ℕ) (n : ℕ) (answer : Made) → Every Byte l
    → Ok n ≡ (write_call l out₀).answer → out₁ ≡ (write_call l out₀).buffer
    → length l ≤ length back₀
    → answer ≡ (list_call (take n out₁) back₀).answer → back₁ ≡ (list_call (take n out₁) back₀).buffer
    → ((y : Shape) × (judge (take n out₁) ≡ Ok y) × (y.length ≡ n)) × (answer ≡ Ok (length l)) × (back₁ ≡ l ++ replicate (length back₀ - length l) 0)

list-set-list-says : SaysListSetList write_call list_call judge
list-set-list-says = list-set-list

-- a writer that refuses all meets it; shut out by `set-list-set`
list-set-list-met-by-refusing-write : (r : List ℕ → List ℕ → Refusal) (b : List ℕ → List ℕ → List ℕ) (L : List ℕ → List ℕ → Call ℕ) (G : List ℕ → Judged)
    → SaysListSetList (λ l out. call (Err (r l out)) (b l out)) L G
list-set-list-met-by-refusing-write r b L G l out₀ out₁ back₀ back₁ n answer bytes e = absurd (refused-made (sym e))

-- the list of no bytes and that of one byte would be read back from the same bytes
list-set-list-not-same-write : (n : ℕ) (b : List ℕ) (L : List ℕ → List ℕ → Call ℕ) (G : List ℕ → Judged) → SaysListSetList (λ l out. call (Ok n) b) L G → ⊥
list-set-list-not-same-write n b L G h =
    let d : Call ℕ = L (take n b) lent in
    let one : Every Byte (1 ∷ []) = omega arith in
    let few : 1 ≤ 60 = omega arith in
    let x = h [] [] b lent d.buffer n d.answer tt refl refl (omega arith) refl refl in
    let y = h (1 ∷ []) [] b lent d.buffer n d.answer one refl refl few refl refl in
    let z : ◌≡◌ {A = ℕ} 0 1 = made-same (sym x.1 ∙ y.1) in
    omega arith

-- what it says of one list, with the writer
module _ (L : List ℕ → List ℕ → Call ℕ) (G : List ℕ → Judged) (l x : List ℕ) (b : Every Byte l) (w : write l 60 ≡ done x) (few : length l ≤ 60) where
  abbrev set-made : List ℕ
  set-made = take (length x) (write_call l lent).buffer

  listed_back : SaysListSetList write_call L G → ((y : Shape) × (G set-made ≡ Ok y) × (y.length ≡ length x)) × ((L set-made lent).answer ≡ Ok (length l))
  listed_back h =
      let e = h l lent (write_call l lent).buffer lent (L set-made lent).buffer (length x) (L set-made lent).answer b (sym (ap made w)) refl few refl refl in
      (e.0, e.1)

list-set-list-not-refusing-list : (r : List ℕ → List ℕ → Refusal) (b : List ℕ → List ℕ → List ℕ) (G : List ℕ → Judged)
    → SaysListSetList write_call (λ s out. call (Err (r s out)) (b s out)) G → ⊥
list-set-list-not-refusing-list r b G h =
    refused-made (listed_back (λ s out. call (Err (r s out)) (b s out)) G (list_of p_lines) p bytes-p write-p (omega (arith, p-list)) h).1

list-set-list-not-same-list : (a : Call ℕ) (G : List ℕ → Judged) → SaysListSetList write_call (λ s out. a) G → ⊥
list-set-list-not-same-list a G h =
    let x = (listed_back (λ s out. a) G (list_of p_lines) p bytes-p write-p (omega (arith, p-list)) h).1 in
    let y = (listed_back (λ s out. a) G (list_of q_lines) q bytes-q write-q (omega (arith, q-list)) h).1 in
    omega (arith, made-same (sym x ∙ y), p-list, q-list)

list-set-list-not-refusing-judge : (r : List ℕ → Refusal) (L : List ℕ → List ℕ → Call ℕ) → SaysListSetList write_call L (λ s. Err (r s)) → ⊥
list-set-list-not-refusing-judge r L h =
    refused-accepted (listed_back L (λ s. Err (r s)) (list_of p_lines) p bytes-p write-p (omega (arith, p-list)) h).0.1

list-set-list-not-same-judge : (a : Judged) (L : List ℕ → List ℕ → Call ℕ) → SaysListSetList write_call L (λ s. a) → ⊥
list-set-list-not-same-judge a L h =
    let x = (listed_back L (λ s. a) (list_of p_lines) p bytes-p write-p (omega (arith, p-list)) h).0 in
    let y = (listed_back L (λ s. a) (list_of q_lines) q bytes-q write-q (omega (arith, q-list)) h).0 in
    let e : x.0.length ≡ y.0.length = ap (λ (z : Shape). z.length) (accepted-same (sym x.1 ∙ y.1)) in
    omega (arith, e, x.2, y.2, length-p, length-q)

-- write-list: given a list of bytes that the writer wrote, and room
abbrev SaysWriteList : (List ℕ → ℕ → Reply (List ℕ)) → (List ℕ → ℕ → Reply (List ℕ)) → Type 0
SaysWriteList write list = (l x : List ℕ) (room room' : ℕ) → Every Byte l → write l room ≡ done x → length l ≤ room' → list x room' ≡ done l

write-list-says : SaysWriteList write list
write-list-says = write-list

-- a writer that refuses all meets it; shut out by `list-write` and `set-list-set`
write-list-met-by-refusing-write : (r : List ℕ → ℕ → Refusal) (L : List ℕ → ℕ → Reply (List ℕ)) → SaysWriteList (λ l room. refused (r l room)) L
write-list-met-by-refusing-write r L l x room room' b e = refused-done e

write-list-not-same-write : (x : List ℕ) (L : List ℕ → ℕ → Reply (List ℕ)) → SaysWriteList (λ l room. done x) L → ⊥
write-list-not-same-write x L h =
    let one : Every Byte (1 ∷ []) = omega arith in
    let z : ◌≡◌ {A = ℕ} 0 1 = ap length (done-same (sym (h [] x 0 1 tt refl (omega arith)) ∙ h (1 ∷ []) x 0 1 one refl (omega arith))) in
    omega arith

write-list-not-refusing-list : (r : List ℕ → ℕ → Refusal) → SaysWriteList write (λ s room. refused (r s room)) → ⊥
write-list-not-refusing-list r h = refused-done (h (list_of p_lines) p 60 60 bytes-p write-p (omega (arith, p-list)))

write-list-not-same-list : (a : Reply (List ℕ)) → SaysWriteList write (λ s room. a) → ⊥
write-list-not-same-list a h =
    let x : a ≡ done (list_of p_lines) = h (list_of p_lines) p 60 60 bytes-p write-p (omega (arith, p-list)) in
    let y : a ≡ done (list_of q_lines) = h (list_of q_lines) q 60 60 bytes-q write-q (omega (arith, q-list)) in
    omega (arith, ap length (done-same (sym x ∙ y)), p-list, q-list)

-- write-judge: given a list of bytes that the writer wrote
abbrev SaysWriteJudge : (List ℕ → ℕ → Reply (List ℕ)) → (List ℕ → Judged) → Type 0
SaysWriteJudge write judge = (l x : List ℕ) (room : ℕ) → Every Byte l → write l room ≡ done x → (y : Shape) × (judge x ≡ Ok y) × (y.length ≡ length x)

write-judge-says : SaysWriteJudge write judge
write-judge-says = write-judge

-- a writer that refuses all meets it, and one that writes P for every list; shut out by `list-write`, and the second by `write-list` too
write-judge-met-by-refusing-write : (r : List ℕ → ℕ → Refusal) (G : List ℕ → Judged) → SaysWriteJudge (λ l room. refused (r l room)) G
write-judge-met-by-refusing-write r G l x room b e = refused-done e

write-judge-met-by-same-write : SaysWriteJudge (λ l room. done p) judge
write-judge-met-by-same-write l x room b e =
    let f : p ≡ x = done-same e in (shaped 51 4 6300, ap judge (sym f) ∙ judge-p, sym length-p ∙ ap length f)

write-judge-not-refusing-judge : (r : List ℕ → Refusal) → SaysWriteJudge write (λ s. Err (r s)) → ⊥
write-judge-not-refusing-judge r h = refused-accepted (h (list_of p_lines) p 60 bytes-p write-p).1

write-judge-not-same-judge : (a : Judged) → SaysWriteJudge write (λ s. a) → ⊥
write-judge-not-same-judge a h =
    let x = h (list_of p_lines) p 60 bytes-p write-p in
    let y = h (list_of q_lines) q 60 bytes-q write-q in
    let e : x.0.length ≡ y.0.length = ap (λ (z : Shape). z.length) (accepted-same (sym x.1 ∙ y.1)) in
    omega (arith, e, x.2, y.2, length-p, length-q)

-- ---- demand 3

-- the set of the paper's examples 8 and 9, in a buffer of 110 bytes; its lines 4 and 7 are corrected
t : List ℕ
t = text "01380006310\r\n014810000101\r\n014921802.10\r\n01030007\r\n0148402EKG01\r\n0138410FEV1\r\n0138420-3.7\r\n0108421l\r\n"

t_lines : List Field
t_lines =
    line 8000 "6310" ∷ line 8100 "00101" ∷ line 9218 "02.10" ∷ line 3000 "7" ∷ line 8402 "EKG01" ∷ line 8410 "FEV1" ∷ line 8420 "-3.7" ∷ line 8421 "l" ∷ []

t_buffer : List ℕ
unfolding t
t_buffer = t ++ replicate 9 7

read-t : read (take 101 t_buffer) ≡ done (parsed t_lines [])
unfolding computes t t_lines t_buffer
read-t = refl

-- line 4 is given content c and line 7 content d: how many bytes the set has after the first alone, after the second alone, after both, and as the writer writes it
record Both (c d : List ℕ) (u v k : ℕ) : Type 0 where
  first_made : correct t_buffer 101 4 c ≡ done (render (changed t_lines 4 c) [])
  second-made : correct t_buffer 101 7 d ≡ done (render (changed t_lines 7 d) [])
  first-length : length (render (changed t_lines 4 c) []) ≡ u
  second-length : length (render (changed t_lines 7 d) []) ≡ v
  both-made : (correct_call (correct_call t_buffer 101 4 c).buffer u 7 d).answer ≡ Ok k
  both-written : (write_call (list_of (both_replaced t_lines 4 c 7 d)) t_buffer).answer ≡ Ok k
  zero-after : get_or (write_call (list_of (both_replaced t_lines 4 c 7 d)) t_buffer).buffer 109 0 ≡ 0
  room : size (resum (both_replaced t_lines 4 c 7 d)) ≤ length t_buffer

longer : Both (text "10027") (text "2.5") 105 100 104
unfolding computes t t_lines t_buffer
longer = record {
  first_made = refl;
  second-made = refl;
  first-length = refl;
  second-length = refl;
  both-made = refl;
  both-written = refl;
  zero-after = refl;
  room = let z : 104 ≤ 110 = omega arith in z;
}

as_long : Both (text "8") (text "-3.8") 101 101 101
unfolding computes t t_lines t_buffer
as_long = record {
  first_made = refl;
  second-made = refl;
  first-length = refl;
  second-length = refl;
  both-made = refl;
  both-written = refl;
  zero-after = refl;
  room = let z : 101 ≤ 110 = omega arith in z;
}

four-seven : ◌≡◌ {A = ℕ} 4 7 → ⊥
four-seven e = omega arith

-- either-call: given a set, two corrections to different lines that were both made, and room for the set with both
abbrev SaysEitherCall : (List ℕ → ℕ → ℕ → List ℕ → Call ℕ) → (List ℕ → List ℕ → Call ℕ) → Type 0
SaysEitherCall correct_call write_call = (b bx by : List ℕ) (used n m : ℕ) (c d : List ℕ) (fs : List Field) (u v : ℕ)
    → read (take used b) ≡ done (parsed fs []) → (n ≡ m → ⊥)
    → Ok u ≡ (correct_call b used n c).answer → bx ≡ (correct_call b used n c).buffer
    → Ok v ≡ (correct_call b used m d).answer → by ≡ (correct_call b used m d).buffer
    → size (resum (both_replaced fs n c m d)) ≤ length b
    → (k : ℕ) × ((correct_call bx u m d).answer ≡ Ok k) × ((correct_call by v n c).answer ≡ Ok k)
    × ((correct_call bx u m d).buffer ≡ (correct_call by v n c).buffer)
    × ((write_call (list_of (both_replaced fs n c m d)) b).answer ≡ Ok k) × ((correct_call bx u m d).buffer ≡ (write_call (list_of (both_replaced fs n c m d)) b).buffer)

either-call-says : SaysEitherCall correct_call write_call
either-call-says = either-call

-- a corrector that refuses all meets it; shut out by `correct-makes`, and by `corrected-exactly` in crate `keeps`
either-call-met-by-refusing-correct : (r : List ℕ → ℕ → ℕ → List ℕ → Refusal) (o : List ℕ → ℕ → ℕ → List ℕ → List ℕ) (W : List ℕ → List ℕ → Call ℕ)
    → SaysEitherCall (λ b used n c. call (Err (r b used n c)) (o b used n c)) W
either-call-met-by-refusing-correct r o W b bx by used n m c d fs u v e ne p = absurd (refused-made (sym p))

-- what it says of lines 4 and 7
module _ (C : List ℕ → ℕ → ℕ → List ℕ → Call ℕ) (W : List ℕ → List ℕ → Call ℕ) (h : SaysEitherCall C W) (c d : List ℕ) (u v : ℕ) where
  abbrev twice : Call ℕ
  twice = C (C t_buffer 101 4 c).buffer u 7 d

  abbrev as_written : Call ℕ
  as_written = W (list_of (both_replaced t_lines 4 c 7 d)) t_buffer

  either-at : (C t_buffer 101 4 c).answer ≡ Ok u → (C t_buffer 101 7 d).answer ≡ Ok v → size (resum (both_replaced t_lines 4 c 7 d)) ≤ length t_buffer
      → (k : ℕ) × (twice.answer ≡ Ok k) × (as_written.answer ≡ Ok k) × (twice.buffer ≡ as_written.buffer)
  either-at p q room =
      let e = h t_buffer (C t_buffer 101 4 c).buffer (C t_buffer 101 7 d).buffer 101 4 7 c d t_lines u v read-t four-seven (sym p) refl (sym q) refl room in
      (e.0, e.1, e.4, e.5)

either-call-not-same-correct : (u : ℕ) (x : List ℕ) → SaysEitherCall (λ b used n c. call (Ok u) x) write_call → ⊥
either-call-not-same-correct u x h =
    let e = either-at (λ b used n c. call (Ok u) x) write_call h (text "10027") (text "2.5") u u refl refl longer.room in
    let f = either-at (λ b used n c. call (Ok u) x) write_call h (text "8") (text "-3.8") u u refl refl as_long.room in
    omega (
      arith,
      made-same e.1,
      made-same f.1,
      made-same (sym longer.both-written ∙ e.2),
      made-same (sym as_long.both-written ∙ f.2),
    )

-- one that reports the two corrections as made, whatever else it answers, and leaves the buffer as it was
either-call-not-idle : (a : List ℕ → ℕ → ℕ → List ℕ → Made) (u v : ℕ) → a t_buffer 101 4 (text "10027") ≡ Ok u → a t_buffer 101 7 (text "2.5") ≡ Ok v
    → SaysEitherCall (λ b used n c. call (a b used n c) b) write_call → ⊥
unfolding t t_buffer
either-call-not-idle a u v p q h =
    let e = either-at (λ b used n c. call (a b used n c) b) write_call h (text "10027") (text "2.5") u v p q longer.room in
    let z : ◌≡◌ {A = ℕ} 7 0 = ap (λ (b : List ℕ). get_or b 109 0) e.3 ∙ longer.zero-after in
    omega arith

-- one that makes every correction to line 4, and of every other line reports that it was made
either-call-not-first-only : SaysEitherCall (λ b used n c. cond (eqb n 4) (correct_call b used n c) (call (Ok used) b)) write_call → ⊥
either-call-not-first-only h =
    let C : List ℕ → ℕ → ℕ → List ℕ → Call ℕ = λ b used n c. cond (eqb n 4) (correct_call b used n c) (call (Ok used) b) in
    let e = either-at C write_call h (text "10027") (text "2.5") 105 101 (ap made longer.first_made ∙ ap Ok longer.first-length) refl longer.room in
    let z : ◌≡◌ {A = ℕ} 105 104 = made-same (e.1 ∙ (sym e.2 ∙ longer.both-written)) in
    omega arith

-- with the corrector and a trivial writer
either-at-real : (W : List ℕ → List ℕ → Call ℕ) → SaysEitherCall correct_call W → (c d : List ℕ) (u v k : ℕ) → Both c d u v k
    → (W (list_of (both_replaced t_lines 4 c 7 d)) t_buffer).answer ≡ Ok k
either-at-real W h c d u v k b =
    let e = either-at correct_call W h c d u v (ap made b.first_made ∙ ap Ok b.first-length) (ap made b.second-made ∙ ap Ok b.second-length) b.room in
    e.2 ∙ (sym e.1 ∙ b.both-made)

either-call-not-refusing-write : (r : List ℕ → List ℕ → Refusal) (o : List ℕ → List ℕ → List ℕ) → SaysEitherCall correct_call (λ l out. call (Err (r l out)) (o l out)) → ⊥
either-call-not-refusing-write r o h =
    refused-made (either-at-real (λ l out. call (Err (r l out)) (o l out)) h (text "10027") (text "2.5") 105 100 104 longer)

either-call-not-same-write : (a : Call ℕ) → SaysEitherCall correct_call (λ l out. a) → ⊥
either-call-not-same-write a h =
    let x = either-at-real (λ l out. a) h (text "10027") (text "2.5") 105 100 104 longer in
    let y = either-at-real (λ l out. a) h (text "8") (text "-3.8") 101 101 101 as_long in
    let z : ◌≡◌ {A = ℕ} 104 101 = made-same (sym x ∙ y) in
    omega arith

-- either_order: the same of the definitions
record OneResultBy (correct : List ℕ → ℕ → ℕ → List ℕ → Reply (List ℕ)) (write : List ℕ → ℕ → Reply (List ℕ)) (b x y : List ℕ) (fs : List Field) (n m : ℕ) (c d : List ℕ) : Type 0 where
  result : List ℕ
  second-after-first : correct (bytes_left (done x) b) (length x) m d ≡ done result
  first-after-second : correct (bytes_left (done y) b) (length y) n c ≡ done result
  same-buffer : bytes_left (done result) (bytes_left (done x) b) ≡ bytes_left (done result) (bytes_left (done y) b)
  as-written : write (list_of (both_replaced fs n c m d)) (length b) ≡ done result
  written-buffer : bytes_left (done result) (bytes_left (done x) b) ≡ bytes_left (done result) b

abbrev SaysEitherOrder : (List ℕ → ℕ → ℕ → List ℕ → Reply (List ℕ)) → (List ℕ → ℕ → Reply (List ℕ)) → Type 0
SaysEitherOrder correct write = (b : List ℕ) (used n m : ℕ) (c d x y : List ℕ) (fs : List Field)
    → read (take used b) ≡ done (parsed fs []) → (n ≡ m → ⊥)
    → correct b used n c ≡ done x → correct b used m d ≡ done y
    → size (resum (both_replaced fs n c m d)) ≤ length b
    → OneResultBy correct write b x y fs n m c d

either-order-says : SaysEitherOrder correct write
either-order-says b used n m c d x y fs r ne p q room =
    let o = either_order b used n m c d x y fs r ne p q room in
    record {
      result = o.result;
      second-after-first = o.second-after-first;
      first-after-second = o.first-after-second;
      same-buffer = o.same-buffer;
      as-written = o.as-written;
      written-buffer = o.written-buffer;
    }

-- as above
either-order-met-by-refusing-correct : (r : List ℕ → ℕ → ℕ → List ℕ → Refusal) (W : List ℕ → ℕ → Reply (List ℕ)) → SaysEitherOrder (λ b used n c. refused (r b used n c)) W
either-order-met-by-refusing-correct r W b used n m c d x y fs e ne p = refused-done p

either-order-not-same-correct : (x : List ℕ) → SaysEitherOrder (λ b used n c. done x) write → ⊥
either-order-not-same-correct x h =
    let e = h t_buffer 101 4 7 (text "10027") (text "2.5") x x t_lines read-t four-seven refl refl longer.room in
    let f = h t_buffer 101 4 7 (text "8") (text "-3.8") x x t_lines read-t four-seven refl refl as_long.room in
    omega (
      arith,
      ap length (done-same e.second-after-first),
      ap length (done-same f.second-after-first),
      made-same (sym longer.both-written ∙ ap made e.as-written),
      made-same (sym as_long.both-written ∙ ap made f.as-written),
    )

either-order-real : (W : List ℕ → ℕ → Reply (List ℕ)) → SaysEitherOrder correct W → (c d : List ℕ) (u v k : ℕ) → Both c d u v k
    → (x : List ℕ) × (W (list_of (both_replaced t_lines 4 c 7 d)) (length t_buffer) ≡ done x) × (length x ≡ k)
either-order-real W h c d u v k b =
    let x : List ℕ = render (changed t_lines 4 c) [] in
    let o = h t_buffer 101 4 7 c d x (render (changed t_lines 7 d) []) t_lines read-t four-seven b.first_made b.second-made b.room in
    let left : (correct_call t_buffer 101 4 c).buffer ≡ bytes_left (done x) t_buffer = ap (λ (r : Reply (List ℕ)). bytes_left r t_buffer) b.first_made in
    let made-so : (correct_call (correct_call t_buffer 101 4 c).buffer u 7 d).answer ≡ Ok (length o.result) =
    ap₂ (λ (z : List ℕ) (n : ℕ). made (correct z n 7 d)) left (sym b.first-length) ∙ ap made o.second-after-first in
    (o.result, o.as-written, made-same (sym made-so ∙ b.both-made))

either-order-not-refusing-write : (r : List ℕ → ℕ → Refusal) → SaysEitherOrder correct (λ l room. refused (r l room)) → ⊥
either-order-not-refusing-write r h = refused-done (either-order-real (λ l room. refused (r l room)) h (text "10027") (text "2.5") 105 100 104 longer).1

either-order-not-same-write : (a : Reply (List ℕ)) → SaysEitherOrder correct (λ l room. a) → ⊥
either-order-not-same-write a h =
    let x = either-order-real (λ l room. a) h (text "10027") (text "2.5") 105 100 104 longer in
    let y = either-order-real (λ l room. a) h (text "8") (text "-3.8") 101 101 101 as_long in
    omega (arith, ap length (done-same (sym x.1 ∙ y.1)), x.2, y.2)

-- correct-makes: given a set in its buffer, a correction without faults, and room
abbrev SaysCorrectMakes : (List ℕ → ℕ → ℕ → List ℕ → Reply (List ℕ)) → Type 0
SaysCorrectMakes correct = (b : List ℕ) (used n : ℕ) (c : List ℕ) (fs : List Field) → Holds b used fs → Change fs n c → size (changed fs n c) ≤ length b
    → correct b used n c ≡ done (render (changed fs n c) [])

correct-makes-says : SaysCorrectMakes correct
correct-makes-says = correct-makes

-- what it says of a correction that was made
made_again : (C : List ℕ → ℕ → ℕ → List ℕ → Reply (List ℕ)) → SaysCorrectMakes C → (c x : List ℕ) → correct in_buffer 51 4 c ≡ done x → C in_buffer 51 4 c ≡ done x
made_again C h c x e =
    let m = correct-only in_buffer 51 4 c x e in
    h in_buffer 51 4 c m.lines m.held m.asked m.room ∙ ap done (sym m.made)

correct-makes-not-refusing : (r : List ℕ → ℕ → ℕ → List ℕ → Refusal) → SaysCorrectMakes (λ b used n c. refused (r b used n c)) → ⊥
correct-makes-not-refusing r h = refused-done (made_again (λ b used n c. refused (r b used n c)) h (text "0") p correct-p)

correct-makes-not-same : (a : Reply (List ℕ)) → SaysCorrectMakes (λ b used n c. a) → ⊥
correct-makes-not-same a h = not-p-and-q (made_again (λ b used n c. a) h (text "0") p correct-p) (made_again (λ b used n c. a) h (text "10027") q correct-q)

take-buffer : take 51 in_buffer ≡ p
unfolding p in_buffer
take-buffer = refl

-- refuses what is to be refused, and for the rest makes the set that was there
abbrev idle : List ℕ → ℕ → Reply (List ℕ) → Reply (List ℕ)
idle b used (refused r) = refused r
idle b used (done x) = done (take used b)

idle-q : idle in_buffer 51 (correct in_buffer 51 4 (text "10027")) ≡ done p
idle-q = ap (idle in_buffer 51) correct-q ∙ ap done take-buffer

correct-makes-not-idle : SaysCorrectMakes (λ b used n c. idle b used (correct b used n c)) → ⊥
correct-makes-not-idle h = not-p-and-q idle-q (made_again (λ b used n c. idle b used (correct b used n c)) h (text "10027") q correct-q)

-- correct-only: given that the correction was made
abbrev SaysCorrectOnly : (List ℕ → ℕ → ℕ → List ℕ → Reply (List ℕ)) → Type 0
SaysCorrectOnly correct = (b : List ℕ) (used n : ℕ) (c x : List ℕ) → correct b used n c ≡ done x → Corrected b used n c x

correct-only-says : SaysCorrectOnly correct
correct-only-says = correct-only

-- a corrector that refuses all meets it; shut out by `correct-makes`
correct-only-met-by-refusing : (r : List ℕ → ℕ → ℕ → List ℕ → Refusal) → SaysCorrectOnly (λ b used n c. refused (r b used n c))
correct-only-met-by-refusing r b used n c x e = refused-done e

correct-only-not-same : (x : List ℕ) → SaysCorrectOnly (λ b used n c. done x) → ⊥
correct-only-not-same x h = let z : 1 ≤ 0 = (h [] 1 0 [] x refl).held.fits_in in omega arith

correct-only-not-idle : SaysCorrectOnly (λ b used n c. idle b used (correct b used n c)) → ⊥
correct-only-not-idle h =
    let m = h in_buffer 51 4 (text "10027") p idle-q in
    not-p-and-q (correct-makes in_buffer 51 4 (text "10027") m.lines m.held m.asked m.room ∙ ap done (sym m.made)) correct-q

-- still-standing and alike-changed: given the lines of an accepted set and a correction without faults
abbrev SaysStillStanding : (List Field → ℕ → List ℕ → List Field) → Type 0
SaysStillStanding changed = (fs : List Field) (n : ℕ) (c : List ℕ) → Standing fs → Change fs n c → Standing (changed fs n c)

still-standing-says : SaysStillStanding changed
still-standing-says = still-standing

change-p : Change p_lines 4 (text "0")
unfolding computes p_lines
change-p = change p_lines 4 (text "0") refl

change-t : Change t_lines 4 (text "8")
unfolding computes t_lines
change-t = change t_lines 4 (text "8") refl

-- Met by what changes nothing, and by what makes the lines of P of every set. Shut out by `correct-makes` (`correct-makes-not-idle`) and by `corrected-exactly` in crate `keeps`; the second by
-- `alike-changed` too. What it shuts out is a result that is no set, for example no lines.
still-standing-met-by-idle : SaysStillStanding (λ fs n c. fs)
still-standing-met-by-idle fs n c st ch = st

still-standing-met-by-same : SaysStillStanding (λ fs n c. p_lines)
still-standing-met-by-same fs n c st ch = standing-p

still-standing-not-none : SaysStillStanding (λ fs n c. []) → ⊥
unfolding computes
still-standing-not-none h = refused-done {r = refusal 1 0 0} (read-render [] [] (h p_lines 4 (text "0") standing-p change-p) refl)

abbrev SaysAlikeChanged : (List Field → ℕ → List ℕ → List Field) → Type 0
SaysAlikeChanged changed = (fs : List Field) (n : ℕ) (c : List ℕ) → Standing fs → Change fs n c → Alike fs (changed fs n c)

alike-changed-says : SaysAlikeChanged changed
alike-changed-says = alike-changed

alike-changed-met-by-idle : SaysAlikeChanged (λ fs n c. fs)
alike-changed-met-by-idle fs n c st ch = record { labels-so = refl; profile-so = refl; seven-so = refl; length-so = refl }

standing-t : Standing t_lines
standing-t = (accepted (take 101 t_buffer) (parsed t_lines []) read-t).standing

alike-changed-not-same : (gs : List Field) → SaysAlikeChanged (λ fs n c. gs) → ⊥
unfolding p_lines t_lines
alike-changed-not-same gs h =
    let x : length gs ≡ 4 = (h p_lines 4 (text "0") standing-p change-p).length-so in
    let y : length gs ≡ 8 = (h t_lines 4 (text "8") standing-t change-t).length-so in
    omega arith

-- ---- what a reader may rely on: the index

record IndexedBy (index_call : List ℕ → List Entry → Call Entry) (s : List ℕ) (x : Shape) (fs : List Field) (out : List Entry) : Type 0 where
  lines_are : x.lines ≡ length fs
  answer : (index_call s out).answer ≡ Ok x.lines
  each : (k : ℕ) (none : Entry) → k < x.lines → Shows s fs k (get_or (index_call s out).buffer k none)
  others-stay : drop x.lines (index_call s out).buffer ≡ drop x.lines out

-- index-shows: given an accepted set, and room
abbrev SaysIndexShows : (List ℕ → List Entry → Call Entry) → Type 0
SaysIndexShows index_call = (s : List ℕ) (x : Shape) (out : List Entry) → judge s ≡ Ok x → x.lines ≤ length out
    → (d : Parsed) × (read s ≡ done d) × IndexedBy index_call s x d.fields out

index-shows-says : SaysIndexShows index_call
index-shows-says s x out j room =
    let e = index-shows s x out j room in
    (e.0, e.1, record { lines_are = e.2.lines_are; answer = e.2.answer; each = e.2.each; others-stay = e.2.others-stay })

judge-t : judge t ≡ Ok (shaped 101 8 6310)
unfolding computes t
judge-t = refl

index-shows-not-refusing : (r : List ℕ → List Entry → Refusal) (b : List ℕ → List Entry → List Entry) → SaysIndexShows (λ s out. call (Err (r s out)) (b s out)) → ⊥
index-shows-not-refusing r b h = refused-made (h p (shaped 51 4 6300) lent_entries judge-p (omega arith)).2.answer

index-shows-not-same : (a : Call Entry) → SaysIndexShows (λ s out. a) → ⊥
index-shows-not-same a h =
    let x = (h p (shaped 51 4 6300) lent_entries judge-p (omega arith)).2.answer in
    let y = (h t (shaped 101 8 6310) lent_entries judge-t (omega arith)).2.answer in
    let z : ◌≡◌ {A = ℕ} 4 8 = made-same (sym x ∙ y) in
    omega arith

-- line 1 would have the label 7 that stood in the buffer
index-shows-not-idle : (a : List ℕ → List Entry → Made) → SaysIndexShows (λ s out. call (a s out) out) → ⊥
unfolding p_lines
index-shows-not-idle a h =
    let e = h p (shaped 51 4 6300) lent_entries judge-p (omega arith) in
    let d : e.0 ≡ parsed p_lines [] = done-same (sym e.1 ∙ read-p) in
    let z : ◌≡◌ {A = ℕ} 7 8000 = (e.2.each 0 lent_entry (omega arith)).label-so ∙ ap (λ (y : Parsed). label_at_line y.fields 0) d in
    omega arith

-- ---- what a reader may rely on: views

-- view-shows: given an accepted set that fills its slice, a line of it, and a sheet of bytes without faults
abbrev SaysViewShows : (List ℕ → List ℕ → ℕ → List ℕ) → Type 0
SaysViewShows view = (s h : List ℕ) (n : ℕ) (fs es : List Field) → Every Byte h → read s ≡ done (parsed fs []) → 1 ≤ n → n ≤ length fs
    → sheet fs h ≡ done (parsed es []) → view s h n ≡ newest n es (content_at_line fs (pred n))

view-shows-says : SaysViewShows view
view-shows-says = view-shows

-- a view that refuses all shows nothing always
view-shows-not-same : (a : List ℕ) → SaysViewShows (λ s h n. a) → ⊥
unfolding computes p_lines q_lines
view-shows-not-same a h =
    let four : 4 ≤ 4 = omega arith in
    let x : a ≡ view p [] 4 = h p [] 4 p_lines [] tt read-p (omega arith) four refl ∙ sym (view-shows p [] 4 p_lines [] tt read-p (omega arith) four refl) in
    let y : a ≡ view q [] 4 = h q [] 4 q_lines [] tt read-q (omega arith) four refl ∙ sym (view-shows q [] 4 q_lines [] tt read-q (omega arith) four refl) in
    not-0-and-10027 (x ∙ view-p) (y ∙ view-q)

-- view-as-corrected: given a correction that was made, and a line of that set other than the sum
abbrev SaysViewAsCorrected : (List ℕ → ℕ → ℕ → List ℕ → Reply (List ℕ)) → (List ℕ → List ℕ → ℕ → List ℕ) → Type 0
SaysViewAsCorrected correct view = (b : List ℕ) (used n m : ℕ) (c x : List ℕ) → Every Byte c → correct b used n c ≡ done x → (m ≡ 2 → ⊥)
    → (fs : List Field) → read (take used b) ≡ done (parsed fs []) → 1 ≤ m → m ≤ length fs
    → view (take used b) (entry_then (field n c) []) m ≡ view x [] m

view-as-corrected-says : SaysViewAsCorrected correct view
view-as-corrected-says = view-as-corrected

-- A view that shows always the same meets it, nothing included; shut out by `view-shows`. So does a corrector that refuses all; shut out by `correct-makes`.
view-as-corrected-met-by-same-view : (a : List ℕ) (C : List ℕ → ℕ → ℕ → List ℕ → Reply (List ℕ)) → SaysViewAsCorrected C (λ s h n. a)
view-as-corrected-met-by-same-view a C b used n m c x bc e ne fs r lo hi = refl

view-as-corrected-met-by-refusing-correct : (r : List ℕ → ℕ → ℕ → List ℕ → Refusal) (F : List ℕ → List ℕ → ℕ → List ℕ)
    → SaysViewAsCorrected (λ b used n c. refused (r b used n c)) F
view-as-corrected-met-by-refusing-correct r F b used n m c x bc e = refused-done e

pending-0 : view (take 51 in_buffer) (entry_then (line 4 "0") []) 4 ≡ text "0"
unfolding computes p in_buffer
pending-0 = refl

pending-10027 : view (take 51 in_buffer) (entry_then (line 4 "10027") []) 4 ≡ text "10027"
unfolding computes p in_buffer
pending-10027 = refl

view-as-corrected-not-same-correct : (x : List ℕ) → SaysViewAsCorrected (λ b used n c. done x) view → ⊥
unfolding p_lines
view-as-corrected-not-same-correct x h =
    let four : 4 ≤ 4 = omega arith in
    let no-sum : ◌≡◌ {A = ℕ} 4 2 → ⊥ = λ e. omega arith in
    let r : read (take 51 in_buffer) ≡ done (parsed p_lines []) = ap read take-buffer ∙ read-p in
    let y = h in_buffer 51 4 4 (text "0") x (omega arith) refl no-sum p_lines r (omega arith) four in
    let z = h in_buffer 51 4 4 (text "10027") x (omega arith) refl no-sum p_lines r (omega arith) four in
    not-0-and-10027 (sym y ∙ pending-0) (sym z ∙ pending-10027)

-- ---- what a reader may rely on: sizes and sums

-- accepted-short and accepted-size: given that the bytes were read
abbrev SaysSizes : (List ℕ → Reply Parsed) → Type 0
SaysSizes read =
    ((s : List ℕ) (d : Parsed) → read s ≡ done d → Every (λ f. Short f.content) d.fields)
    × ((s : List ℕ) (d : Parsed) → read s ≡ done d → size d.fields ≤ most_bytes)

sizes-say : SaysSizes read
sizes-say = (accepted-short, accepted-size)

-- a reader that refuses all meets them, and one that reads no line of every set; shut out by `read-render`
sizes-met-by-refusing : (r : List ℕ → Refusal) → SaysSizes (λ s. refused (r s))
sizes-met-by-refusing r = (λ s d e. refused-done e, λ s d e. refused-done e)

sizes-met-by-same : SaysSizes (λ s. done (parsed [] []))
sizes-met-by-same = (
  λ s d e. subst (λ (x : Parsed). Every (λ f. Short f.content) x.fields) (done-same e) tt,
  λ s d e. subst (λ (x : Parsed). size x.fields ≤ most_bytes) (done-same e) (omega arith),
)

-- what they shut out: a line without content, or a set that is too long
sizes-not-empty-content : SaysSizes (λ s. done (parsed (field 3000 [] ∷ []) [])) → ⊥
sizes-not-empty-content h = let z : 1 ≤ 0 = (h.0 [] (parsed (field 3000 [] ∷ []) []) refl).0.some_byte in omega arith

-- largest-set and largest-judged: given that the set was accepted; of one set, nothing
abbrev SaysLargest : (List ℕ → Judged) → Type 0
SaysLargest judge = ((s : List ℕ) (x : Shape) → judge s ≡ Ok x → x.length ≤ largest_size) × (judge largest ≡ Ok (shaped largest_size max_lines 6310))

largest-says : SaysLargest judge
largest-says = (largest-set, largest-judged)

largest-not-refusing : (r : List ℕ → Refusal) → SaysLargest (λ s. Err (r s)) → ⊥
largest-not-refusing r h = refused-accepted h.1

-- nor does one that accepts all bytes, each time with their length
largest-not-accepting : (lines settype : List ℕ → ℕ) → SaysLargest (λ s. Ok (shaped (length s) (lines s) (settype s))) → ⊥
largest-not-accepting lines settype h =
    let long : List ℕ = replicate (largest_size + 1) 0 in
    omega (arith, h.0 long (shaped (length long) (lines long) (settype long)) refl, length-replicate {A = ℕ} (largest_size + 1) 0)

-- nor one that answers always the same, with another length
largest-not-another : (x : Shape) → (x.length ≡ largest_size → ⊥) → SaysLargest (λ s. Ok x) → ⊥
largest-not-another x n h = n (ap (λ (y : Shape). y.length) (accepted-same h.1))

-- one that answers always what it answers for the largest set meets it; shut out by `accepted-exactly` in crate `keeps`
largest-met-by-same : SaysLargest (λ s. Ok (shaped largest_size max_lines 6310))
largest-met-by-same = (λ s x e. subst (λ (y : Shape). y.length ≤ largest_size) (accepted-same e) (omega arith), refl)

-- ruled-total: given at most 512 lines that keep the rules
abbrev SaysRuledTotal : (List Field → ℕ) → Type 0
SaysRuledTotal size = (fs : List Field) → Ruled fs → length fs ≤ max_lines → size fs ≤ max_set_bytes

ruled-total-says : SaysRuledTotal size
ruled-total-says = ruled-total

-- what is given is met by P; so a size that is always larger does not meet it. One that is always 0 does; shut out by `length-render`, by which the size is that of the bytes.
ruled-total-not-same : (n : ℕ) → max_set_bytes < n → SaysRuledTotal (λ fs. n) → ⊥
ruled-total-not-same n l h = omega (arith, h p_lines (ruled p_lines standing-p.right).0 standing-p.few)

ruled-total-met-by-none : SaysRuledTotal (λ fs. 0)
ruled-total-met-by-none fs r l = omega arith

abbrev SaysLengthRender : (List Field → ℕ) → Type 0
SaysLengthRender size = (fs : List Field) (t : List ℕ) → length (render fs t) ≡ size fs + length t

length-render-says : SaysLengthRender size
length-render-says = length-render

length-render-not-same : (n : ℕ) → SaysLengthRender (λ fs. n) → ⊥
length-render-not-same n h =
    let x : 0 ≡ n + 0 = h [] [] in
    let y : 9 ≡ n + 0 = h (field 0 [] ∷ []) [] in
    omega arith

-- sum_back: given lines without faults
abbrev SaysSumBack : (List Field → List Field) → (List Field → List Field) → Type 0
SaysSumBack with_sum without_sum = (fs : List Field) → set_faults fs ≡ [] → fs ≡ with_sum (without_sum fs)

sum-back-says : SaysSumBack with_sum without_sum
sum-back-says = sum_back

sum-back-not-same : (gs : List Field) (F : List Field → List Field) → SaysSumBack (λ es. gs) F → ⊥
unfolding p_lines q_lines
sum-back-not-same gs F h = let z : ◌≡◌ {A = ℕ} 51 55 = ap size (h p_lines standing-p.right ∙ sym (h q_lines standing-q.right)) in omega arith

sum-back-not-same-list : (es : List Field) (F : List Field → List Field) → SaysSumBack F (λ fs. es) → ⊥
unfolding p_lines q_lines
sum-back-not-same-list es F h = let z : ◌≡◌ {A = ℕ} 51 55 = ap size (h p_lines standing-p.right ∙ sym (h q_lines standing-q.right)) in omega arith

-- If nothing is taken out and nothing put in, it is met. Shut out by `lists-decided`, in which the list of P has no entry for 8100.
sum-back-met-by-idle : SaysSumBack (λ es. es) (λ fs. fs)
sum-back-met-by-idle fs e = refl
