-- What the theorems that say "exactly" shut out, and those on calls that refuse, tried, as in ShutOut of crate `examples`: `SaysX` is the statement of theorem x with any function in the place of the
-- definition, `x-says` the theorem itself; then trivial functions are put in. docs/PROMISES.md has the table of it: "What each theorem asks, and what it shuts out".
use mathlib.Core.Path.{◌≡◌, refl, sym, ap, ◌∙◌}
use mathlib.Core.List.{List, [], ◌∷◌, ◌++◌}
use mathlib.Core.Logic.{◌↔◌}
use Prim.Native.Nat.{ℕ}
use native.Mathlib.Omega.{arith}
use lib.ListN.{length, take, get_or, replicate}
use Rattle.meaning.specs.declared.Refusal.{Refusal}
use Rattle.meaning.specs.declared.Shape.{Shape}
use Rattle.meaning.specs.declared.Entry.{Entry}
use Rattle.meaning.specs.Field.{Field}
use Rattle.meaning.specs.Refusals.{Reply, refused, done, refusal}
use Rattle.meaning.specs.Reading.{judge}
use Rattle.meaning.specs.Index.{index_of, index}
use Rattle.meaning.specs.Lists.{list, write}
use Rattle.meaning.specs.Corrections.{correct}
use Rattle.meaning.specs.Views.{viewing}
use Rattle.meaning.specs.Answers.{Call, made_count, index_call, list_call, write_call, correct_call}
use Rattle.meaning.specs.Computes.{computes}
use Rattle.meaning.proofs.Asking.{text, line}
use Rattle.meaning.proofs.Bools.{Every}
use Rattle.meaning.proofs.FaultLaws.{refused-done, done-same}
use Rattle.meaning.proofs.AnswerLaws.{refused-accepted, refused-made}
use Rattle.meaning.proofs.EntryLaws.{Byte}
use Rattle.meaning.proofs.WriterLaws.{list_of}
use Rattle.meaning.proofs.Demands.{refused-index, refused-list, refused-write, refused-correct}
use Rattle.keeps.specs.Keeps.{SetAtFront}
use Rattle.keeps.specs.Makes.{Indexes, Lists, Writes, Corrects, Views}
use Rattle.keeps.proofs.Exact.{accepted-exactly, refused-exactly}
use Rattle.keeps.proofs.WriterExact.{written-exactly}
use Rattle.keeps.proofs.CorrectionExact.{corrected-exactly}
use Rattle.keeps.proofs.IndexExact.{indexed-exactly}
use Rattle.keeps.proofs.ListExact.{listed-exactly}
use Rattle.keeps.proofs.ViewExact.{viewed-exactly}
use Rattle.breaches.specs.Breaches.{Breach, FirstBreach}
use Rattle.breaches.specs.CallBreaches.{IndexRefused, ListRefused, CorrectionRefused}
use Rattle.breaches.proofs.FirstBreach.{refused-for-a-breach}
use Rattle.breaches.proofs.FirstOnly.{refused-exactly-with}
use Rattle.breaches.proofs.CallExact.{refused-same, index-refused-with, list-refused-with, correction-refused-with}
use Rattle.meaning.specs.Results.{Judged, Made, Viewed, of_set}
use Rattle.meaning.specs.declared.Shown.TheVariants.{Set}
use Rattle.std.specs.Prelude.{Err, Ok}

-- ---- the inputs

-- the paper's set P, and P after line 4 was given the content 10027
p : List ℕ
p = text "01380006300\r\n014810000051\r\n014921802.10\r\n01030000\r\n"

p_lines : List Field
p_lines = line 8000 "6300" ∷ line 8100 "00051" ∷ line 9218 "02.10" ∷ line 3000 "0" ∷ []

q : List ℕ
q = text "01380006300\r\n014810000055\r\n014921802.10\r\n014300010027\r\n"

-- a buffer of 60 bytes in which P stands
in_buffer : List ℕ
in_buffer = p ++ replicate 9 7

abbrev p_shape : Shape
p_shape = record { length = 51; lines = 4; settype = 6300 }

judge-p : judge p ≡ Ok p_shape
unfolding computes p
judge-p = refl

judge-q : judge q ≡ Ok (record { length = 55; lines = 4; settype = 6300 })
unfolding computes q
judge-q = refl

judge-none : judge [] ≡ Err (refusal 1 0 0)
unfolding computes
judge-none = refl

-- one byte, under three
judge-cut : judge (text "x") ≡ Err (refusal 2 0 0)
unfolding computes
judge-cut = refl

index-p : index p 8 ≡ done (index_of p_lines)
unfolding computes p p_lines
index-p = refl

write-p : write (list_of p_lines) 60 ≡ done p
unfolding computes p p_lines
write-p = refl

bytes-p : Every Byte (list_of p_lines)
unfolding p_lines
bytes-p = omega arith

correct-p : correct in_buffer 51 4 (text "0") ≡ done p
unfolding computes p in_buffer
correct-p = refl

correct-q : correct in_buffer 51 4 (text "10027") ≡ done q
unfolding computes p q in_buffer
correct-q = refl

viewing-p : viewing p [] 4 ≡ done (of_set (record { place = 48; length = 1 }))
unfolding computes p
viewing-p = refl

p-q : p ≡ q → ⊥
unfolding p q
p-q e = let z : ◌≡◌ {A = ℕ} 51 55 = ap length e in omega arith

-- ---- accepted exactly, and refused exactly

-- accepted-exactly: nothing given
abbrev SaysAcceptedExactly : (List ℕ → Judged) → Type 0
SaysAcceptedExactly judge = (s : List ℕ) (x : Shape) → (judge s ≡ Ok x) ↔ SetAtFront s x

accepted-exactly-says : SaysAcceptedExactly judge
accepted-exactly-says = accepted-exactly

front-p : SetAtFront p p_shape
front-p = (accepted-exactly p p_shape).0 judge-p

no_front : (x : Shape) → SetAtFront [] x → ⊥
no_front x f = refused-accepted (sym judge-none ∙ (accepted-exactly [] x).1 f)

accepted-exactly-not-refusing : (r : List ℕ → Refusal) → SaysAcceptedExactly (λ s. Err (r s)) → ⊥
accepted-exactly-not-refusing r h = refused-accepted ((h p p_shape).1 front-p)

accepted-exactly-not-same : (a : Judged) → SaysAcceptedExactly (λ s. a) → ⊥
accepted-exactly-not-same (Err r) h = accepted-exactly-not-refusing (λ s. r) h
accepted-exactly-not-same (Ok x) h = no_front x ((h [] x).0 refl)

-- refused-exactly: nothing given
abbrev SaysRefusedExactly : (List ℕ → Judged) → Type 0
SaysRefusedExactly judge = (s : List ℕ) → ((r : Refusal) × (judge s ≡ Err r)) ↔ ((x : Shape) → SetAtFront s x → ⊥)

refused-exactly-says : SaysRefusedExactly judge
refused-exactly-says = refused-exactly

refused-exactly-not-refusing : (r : List ℕ → Refusal) → SaysRefusedExactly (λ s. Err (r s)) → ⊥
refused-exactly-not-refusing r h = (h p).0 (r p, refl) p_shape front-p

refused-exactly-not-same : (a : Judged) → SaysRefusedExactly (λ s. a) → ⊥
refused-exactly-not-same (Err r) h = refused-exactly-not-refusing (λ s. r) h
refused-exactly-not-same (Ok x) h = refused-accepted (sym ((h []).1 no_front).1)

-- refused-for-a-breach: nothing given
abbrev SaysRefusedForABreach : (List ℕ → Judged) → Type 0
SaysRefusedForABreach judge = (s : List ℕ) → ((r : Refusal) × (judge s ≡ Err r)) ↔ Breach s

refused-for-a-breach-says : SaysRefusedForABreach judge
refused-for-a-breach-says = refused-for-a-breach

refused-for-a-breach-not-refusing : (r : List ℕ → Refusal) → SaysRefusedForABreach (λ s. Err (r s)) → ⊥
refused-for-a-breach-not-refusing r h = refused-accepted (sym ((refused-for-a-breach p).1 ((h p).0 (r p, refl))).1 ∙ judge-p)

refused-for-a-breach-not-same : (a : Judged) → SaysRefusedForABreach (λ s. a) → ⊥
refused-for-a-breach-not-same (Err r) h = refused-for-a-breach-not-refusing (λ s. r) h
refused-for-a-breach-not-same (Ok x) h = refused-accepted (sym ((h []).1 ((refused-for-a-breach []).0 (refusal 1 0 0, judge-none))).1)

-- refused-exactly-with: nothing given
abbrev SaysRefusedExactlyWith : (List ℕ → Judged) → Type 0
SaysRefusedExactlyWith judge = (s : List ℕ) (r : Refusal) → (judge s ≡ Err r) ↔ FirstBreach s r

refused-exactly-with-says : SaysRefusedExactlyWith judge
refused-exactly-with-says = refused-exactly-with

refused-exactly-with-not-refusing : (r : List ℕ → Refusal) → SaysRefusedExactlyWith (λ s. Err (r s)) → ⊥
refused-exactly-with-not-refusing r h = refused-accepted (sym ((refused-exactly-with p (r p)).1 ((h p (r p)).0 refl)) ∙ judge-p)

refused-exactly-with-not-same : (a : Judged) → SaysRefusedExactlyWith (λ s. a) → ⊥
refused-exactly-with-not-same (Err r) h = refused-exactly-with-not-refusing (λ s. r) h
refused-exactly-with-not-same (Ok x) h = refused-accepted (sym ((h [] (refusal 1 0 0)).1 ((refused-exactly-with [] (refusal 1 0 0)).0 judge-none)))

-- ---- what these four leave to each other

-- accepts what is to be accepted, and refuses the rest always by 1
abbrev by_one : Judged → Judged
by_one (Ok x) = Ok x
by_one (Err r) = Err (refusal 1 0 0)

by-one-accepted : (j : Judged) (x : Shape) → by_one j ≡ Ok x → j ≡ Ok x
by-one-accepted (Ok y) x e = e
by-one-accepted (Err r) x e = absurd (refused-accepted e)

by-one-refused : (j : Judged) → (r : Refusal) × (by_one j ≡ Err r) → (r : Refusal) × (j ≡ Err r)
by-one-refused (Ok y) e = absurd (refused-accepted (sym e.1))
by-one-refused (Err r) e = (r, refl)

-- It meets the three that do not say by which number. Shut out by `refused-exactly-with`.
accepted-exactly-met-by-one-number : SaysAcceptedExactly (λ s. by_one (judge s))
accepted-exactly-met-by-one-number s x = (λ e. (accepted-exactly s x).0 (by-one-accepted (judge s) x e), λ f. ap by_one ((accepted-exactly s x).1 f))

refused-exactly-met-by-one-number : SaysRefusedExactly (λ s. by_one (judge s))
refused-exactly-met-by-one-number s =
    (λ e. (refused-exactly s).0 (by-one-refused (judge s) e), λ n. (refusal 1 0 0, ap by_one ((refused-exactly s).1 n).1))

refused-for-a-breach-met-by-one-number : SaysRefusedForABreach (λ s. by_one (judge s))
refused-for-a-breach-met-by-one-number s =
    (λ e. (refused-for-a-breach s).0 (by-one-refused (judge s) e), λ b. (refusal 1 0 0, ap by_one ((refused-for-a-breach s).1 b).1))

refused-exactly-with-not-one-number : SaysRefusedExactlyWith (λ s. by_one (judge s)) → ⊥
refused-exactly-with-not-one-number h =
    let e : by_one (judge (text "x")) ≡ Err (refusal 2 0 0) = (h (text "x") (refusal 2 0 0)).1 ((refused-exactly-with (text "x") (refusal 2 0 0)).0 judge-cut) in
    let f : Err (refusal 1 0 0) ≡ Err (refusal 2 0 0) = sym (ap by_one judge-cut) ∙ e in
    let z : ◌≡◌ {A = ℕ} 1 2 = ap number f in
    omega arith
  where
    number : Judged → ℕ
    number (Ok x) = 0
    number (Err r) = r.no

-- It accepts what is to be accepted, always with the shape of P: it meets the three that do not say of which shape a set is. Shut out by `accepted-exactly`.
abbrev one_shape : Judged → Judged
one_shape (Ok x) = Ok p_shape
one_shape (Err r) = Err r

one-shape-refused : (j : Judged) (r : Refusal) → (one_shape j ≡ Err r) ↔ (j ≡ Err r)
one-shape-refused (Ok y) r = (λ e. absurd (refused-accepted (sym e)), λ e. absurd (refused-accepted (sym e)))
one-shape-refused (Err q) r = (λ e. e, λ e. e)

refused-exactly-with-met-by-one-shape : SaysRefusedExactlyWith (λ s. one_shape (judge s))
refused-exactly-with-met-by-one-shape s r =
    let o = one-shape-refused (judge s) r in
    let x = refused-exactly-with s r in
    (λ e. x.0 (o.0 e), λ f. o.1 (x.1 f))

accepted-exactly-not-one-shape : SaysAcceptedExactly (λ s. one_shape (judge s)) → ⊥
accepted-exactly-not-one-shape h =
    let q_shape : Shape = record { length = 55; lines = 4; settype = 6300 } in
    let e : one_shape (judge q) ≡ Ok q_shape = (h q q_shape).1 ((accepted-exactly q q_shape).0 judge-q) in
    let f : Ok p_shape ≡ Ok q_shape = sym (ap one_shape judge-q) ∙ e in
    let z : ◌≡◌ {A = ℕ} 51 55 = ap long f in
    omega arith
  where
    long : Judged → ℕ
    long (Ok x) = x.length
    long (Err r) = 0

-- ---- written, corrected, indexed and viewed exactly

-- written-exactly: given a list of bytes
abbrev SaysWrittenExactly : (List ℕ → ℕ → Reply (List ℕ)) → Type 0
SaysWrittenExactly write = (l : List ℕ) (room : ℕ) (out : List ℕ) → Every Byte l → (write l room ≡ done out) ↔ Writes l room out

written-exactly-says : SaysWrittenExactly write
written-exactly-says = written-exactly

written-exactly-not-refusing : (r : List ℕ → ℕ → Refusal) → SaysWrittenExactly (λ l room. refused (r l room)) → ⊥
written-exactly-not-refusing r h = refused-done ((h (list_of p_lines) 60 p bytes-p).1 ((written-exactly (list_of p_lines) 60 p bytes-p).0 write-p))

written-exactly-not-same : (a : Reply (List ℕ)) → SaysWrittenExactly (λ l room. a) → ⊥
unfolding computes
written-exactly-not-same (refused r) h = written-exactly-not-refusing (λ l room. r) h
written-exactly-not-same (done x) h = refused-done {r = refusal 1 0 0} ((written-exactly [] 60 x tt).1 ((h [] 60 x tt).0 refl))

-- corrected-exactly: nothing given
abbrev SaysCorrectedExactly : (List ℕ → ℕ → ℕ → List ℕ → Reply (List ℕ)) → Type 0
SaysCorrectedExactly correct = (b : List ℕ) (used n : ℕ) (c out : List ℕ) → (correct b used n c ≡ done out) ↔ Corrects b used n c out

corrected-exactly-says : SaysCorrectedExactly correct
corrected-exactly-says = corrected-exactly

corrected-exactly-at : (C : List ℕ → ℕ → ℕ → List ℕ → Reply (List ℕ)) → SaysCorrectedExactly C
    → (c x : List ℕ) → correct in_buffer 51 4 c ≡ done x → C in_buffer 51 4 c ≡ done x
corrected-exactly-at C h c x e = (h in_buffer 51 4 c x).1 ((corrected-exactly in_buffer 51 4 c x).0 e)

corrected-exactly-not-refusing : (r : List ℕ → ℕ → ℕ → List ℕ → Refusal) → SaysCorrectedExactly (λ b used n c. refused (r b used n c)) → ⊥
corrected-exactly-not-refusing r h = refused-done (corrected-exactly-at (λ b used n c. refused (r b used n c)) h (text "0") p correct-p)

corrected-exactly-not-same : (a : Reply (List ℕ)) → SaysCorrectedExactly (λ b used n c. a) → ⊥
corrected-exactly-not-same a h =
    p-q (done-same (sym (corrected-exactly-at (λ b used n c. a) h (text "0") p correct-p) ∙ corrected-exactly-at (λ b used n c. a) h (text "10027") q correct-q))

-- refuses what is to be refused, and for the rest makes the set that was there
abbrev idle : List ℕ → Reply (List ℕ) → Reply (List ℕ)
idle s (refused r) = refused r
idle s (done x) = done s

corrected-exactly-not-idle : SaysCorrectedExactly (λ b used n c. idle (take used b) (correct b used n c)) → ⊥
unfolding p in_buffer
corrected-exactly-not-idle h =
    let e : idle (take 51 in_buffer) (correct in_buffer 51 4 (text "10027")) ≡ done q =
    corrected-exactly-at (λ b used n c. idle (take used b) (correct b used n c)) h (text "10027") q correct-q in
    let f : done p ≡ done q = sym (ap (idle (take 51 in_buffer)) correct-q) ∙ e in
    p-q (done-same f)

-- indexed-exactly: nothing given
abbrev SaysIndexedExactly : (List ℕ → ℕ → Reply (List Entry)) → Type 0
SaysIndexedExactly index = (s : List ℕ) (room : ℕ) (es : List Entry) → (index s room ≡ done es) ↔ Indexes s room es

indexed-exactly-says : SaysIndexedExactly index
indexed-exactly-says = indexed-exactly

indexed-exactly-not-refusing : (r : List ℕ → ℕ → Refusal) → SaysIndexedExactly (λ s room. refused (r s room)) → ⊥
indexed-exactly-not-refusing r h = refused-done ((h p 8 (index_of p_lines)).1 ((indexed-exactly p 8 (index_of p_lines)).0 index-p))

indexed-exactly-not-same : (a : Reply (List Entry)) → SaysIndexedExactly (λ s room. a) → ⊥
unfolding computes
indexed-exactly-not-same (refused r) h = indexed-exactly-not-refusing (λ s room. r) h
indexed-exactly-not-same (done es) h = refused-done {r = refusal 1 0 0} ((indexed-exactly [] 8 es).1 ((h [] 8 es).0 refl))

-- viewed-exactly: given a sheet of bytes
abbrev SaysViewedExactly : (List ℕ → List ℕ → ℕ → Reply Viewed) → Type 0
SaysViewedExactly viewing = (s h : List ℕ) (n : ℕ) (v : Viewed) → Every Byte h → (viewing s h n ≡ done v) ↔ Views s h n v

viewed-exactly-says : SaysViewedExactly viewing
viewed-exactly-says = viewed-exactly

viewed-exactly-not-refusing : (r : List ℕ → List ℕ → ℕ → Refusal) → SaysViewedExactly (λ s h n. refused (r s h n)) → ⊥
viewed-exactly-not-refusing r h = let v = of_set (record { place = 48; length = 1 }) in refused-done ((h p [] 4 v tt).1 ((viewed-exactly p [] 4 v tt).0 viewing-p))

viewed-exactly-not-same : (a : Reply Viewed) → SaysViewedExactly (λ s h n. a) → ⊥
unfolding computes
viewed-exactly-not-same (refused r) h = viewed-exactly-not-refusing (λ s h n. r) h
viewed-exactly-not-same (done v) h = refused-done {r = refusal 1 0 0} ((viewed-exactly [] [] 4 v tt).1 ((h [] [] 4 v tt).0 refl))

-- ---- what these four leave open

-- does what is to be done, and refuses the rest always by 1
abbrev refuses_by_one : {A : Type 0} → Reply A → Reply A
refuses_by_one (refused r) = refused (refusal 1 0 0)
refuses_by_one (done x) = done x

done-by-one : {A : Type 0} (a : Reply A) (x : A) → (refuses_by_one a ≡ done x) ↔ (a ≡ done x)
done-by-one (refused r) x = (λ e. refused-done e, λ e. refused-done e)
done-by-one (done y) x = (λ e. e, λ e. e)

-- It meets all four: they say when something is made and what, not by which number it is refused else. Shut out by the contracts; for index and correction by `index-refused-with` and
-- `correction-refused-with` too, for writer and view only on the inputs that the tables of Decided in crate `meaning` try.
written-exactly-met-by-one-number : SaysWrittenExactly (λ l room. refuses_by_one (write l room))
written-exactly-met-by-one-number l room out b =
    let x = written-exactly l room out b in let y = done-by-one (write l room) out in (λ e. x.0 (y.0 e), λ w. y.1 (x.1 w))

corrected-exactly-met-by-one-number : SaysCorrectedExactly (λ b used n c. refuses_by_one (correct b used n c))
corrected-exactly-met-by-one-number b used n c out =
    let x = corrected-exactly b used n c out in let y = done-by-one (correct b used n c) out in (λ e. x.0 (y.0 e), λ w. y.1 (x.1 w))

indexed-exactly-met-by-one-number : SaysIndexedExactly (λ s room. refuses_by_one (index s room))
indexed-exactly-met-by-one-number s room es =
    let x = indexed-exactly s room es in let y = done-by-one (index s room) es in (λ e. x.0 (y.0 e), λ w. y.1 (x.1 w))

viewed-exactly-met-by-one-number : SaysViewedExactly (λ s h n. refuses_by_one (viewing s h n))
viewed-exactly-met-by-one-number s h n v b =
    let x = viewed-exactly s h n v b in let y = done-by-one (viewing s h n) v in (λ e. x.0 (y.0 e), λ w. y.1 (x.1 w))

-- ---- the list, exactly

-- listed-exactly: nothing given
abbrev SaysListedExactly : (List ℕ → ℕ → Reply (List ℕ)) → Type 0
SaysListedExactly list = (s : List ℕ) (room : ℕ) (l : List ℕ) → (list s room ≡ done l) ↔ Lists s room l

listed-exactly-says : SaysListedExactly list
listed-exactly-says = listed-exactly

list-p : list p 60 ≡ done (list_of p_lines)
unfolding computes p p_lines
list-p = refl

listed-exactly-not-refusing : (r : List ℕ → ℕ → Refusal) → SaysListedExactly (λ s room. refused (r s room)) → ⊥
listed-exactly-not-refusing r h = refused-done ((h p 60 (list_of p_lines)).1 ((listed-exactly p 60 (list_of p_lines)).0 list-p))

listed-exactly-not-same : (a : Reply (List ℕ)) → SaysListedExactly (λ s room. a) → ⊥
unfolding computes
listed-exactly-not-same (refused r) h = listed-exactly-not-refusing (λ s room. r) h
listed-exactly-not-same (done l) h = refused-done {r = refusal 1 0 0} ((listed-exactly [] 60 l).1 ((h [] 60 l).0 refl))

-- makes a list of no bytes of every set that is refused
abbrev lenient : Judged → Reply (List ℕ) → Reply (List ℕ)
lenient (Ok x) r = r
lenient (Err q) r = done []

listed-exactly-not-lenient : SaysListedExactly (λ s room. lenient (judge s) (list s room)) → ⊥
unfolding computes
listed-exactly-not-lenient h = refused-done {r = refusal 1 0 0} ((listed-exactly [] 60 []).1 ((h [] 60 []).0 refl))

-- ---- index, list and correction, refused exactly with

-- index-refused-with and list-refused-with: nothing given
abbrev SaysIndexRefusedWith : (List ℕ → ℕ → Reply (List Entry)) → Type 0
SaysIndexRefusedWith index = (s : List ℕ) (room : ℕ) (r : Refusal) → (index s room ≡ refused r) ↔ IndexRefused s room r

abbrev SaysListRefusedWith : (List ℕ → ℕ → Reply (List ℕ)) → Type 0
SaysListRefusedWith list = (s : List ℕ) (room : ℕ) (r : Refusal) → (list s room ≡ refused r) ↔ ListRefused s room r

refused-with-say : SaysIndexRefusedWith index × SaysListRefusedWith list
refused-with-say = (index-refused-with, list-refused-with)

index-refused-with-not-refusing : (r : List ℕ → ℕ → Refusal) → SaysIndexRefusedWith (λ s room. refused (r s room)) → ⊥
index-refused-with-not-refusing r h = refused-done (sym ((index-refused-with p 8 (r p 8)).1 ((h p 8 (r p 8)).0 refl)) ∙ index-p)

index-refused-with-not-same : (a : Reply (List Entry)) → SaysIndexRefusedWith (λ s room. a) → ⊥
unfolding computes
index-refused-with-not-same (refused r) h = index-refused-with-not-refusing (λ s room. r) h
index-refused-with-not-same (done es) h = refused-done (sym ((h [] 8 (refusal 1 0 0)).1 ((index-refused-with [] 8 (refusal 1 0 0)).0 refl)))

list-refused-with-not-refusing : (r : List ℕ → ℕ → Refusal) → SaysListRefusedWith (λ s room. refused (r s room)) → ⊥
list-refused-with-not-refusing r h = refused-done (sym ((list-refused-with p 60 (r p 60)).1 ((h p 60 (r p 60)).0 refl)) ∙ list-p)

list-refused-with-not-same : (a : Reply (List ℕ)) → SaysListRefusedWith (λ s room. a) → ⊥
unfolding computes
list-refused-with-not-same (refused r) h = list-refused-with-not-refusing (λ s room. r) h
list-refused-with-not-same (done l) h = refused-done (sym ((h [] 8 (refusal 1 0 0)).1 ((list-refused-with [] 8 (refusal 1 0 0)).0 refl)))

index-refused-with-not-one-number : SaysIndexRefusedWith (λ s room. refuses_by_one (index s room)) → ⊥
unfolding computes
index-refused-with-not-one-number h =
    let e = (h (text "x") 8 (refusal 2 0 0)).1 ((index-refused-with (text "x") 8 (refusal 2 0 0)).0 refl) in
    let z : ◌≡◌ {A = ℕ} 1 2 = ap (λ (y : Refusal). y.no) (refused-same e) in
    omega arith

list-refused-with-not-one-number : SaysListRefusedWith (λ s room. refuses_by_one (list s room)) → ⊥
unfolding computes
list-refused-with-not-one-number h =
    let e = (h (text "x") 8 (refusal 2 0 0)).1 ((list-refused-with (text "x") 8 (refusal 2 0 0)).0 refl) in
    let z : ◌≡◌ {A = ℕ} 1 2 = ap (λ (y : Refusal). y.no) (refused-same e) in
    omega arith

-- correction-refused-with: nothing given
abbrev SaysCorrectionRefusedWith : (List ℕ → ℕ → ℕ → List ℕ → Reply (List ℕ)) → Type 0
SaysCorrectionRefusedWith correct = (b : List ℕ) (used n : ℕ) (c : List ℕ) (r : Refusal) → (correct b used n c ≡ refused r) ↔ CorrectionRefused b used n c r

correction-refused-with-says : SaysCorrectionRefusedWith correct
correction-refused-with-says = correction-refused-with

correction-refused-with-not-refusing : (r : List ℕ → ℕ → ℕ → List ℕ → Refusal) → SaysCorrectionRefusedWith (λ b used n c. refused (r b used n c)) → ⊥
correction-refused-with-not-refusing r h =
    let q : Refusal = r in_buffer 51 4 (text "0") in
    refused-done (sym ((correction-refused-with in_buffer 51 4 (text "0") q).1 ((h in_buffer 51 4 (text "0") q).0 refl)) ∙ correct-p)

-- one byte is said to be used, and there is none: 18
used-over-0 : CorrectionRefused [] 1 4 (text "0") (refusal 18 0 0)
unfolding computes
used-over-0 = (correction-refused-with [] 1 4 (text "0") (refusal 18 0 0)).0 refl

correction-refused-with-not-same : (a : Reply (List ℕ)) → SaysCorrectionRefusedWith (λ b used n c. a) → ⊥
correction-refused-with-not-same (refused r) h = correction-refused-with-not-refusing (λ b used n c. r) h
correction-refused-with-not-same (done x) h = refused-done (sym ((h [] 1 4 (text "0") (refusal 18 0 0)).1 used-over-0))

correction-refused-with-not-one-number : SaysCorrectionRefusedWith (λ b used n c. refuses_by_one (correct b used n c)) → ⊥
unfolding computes
correction-refused-with-not-one-number h =
    let z : ◌≡◌ {A = ℕ} 1 18 = ap (λ (y : Refusal). y.no) (refused-same ((h [] 1 4 (text "0") (refusal 18 0 0)).1 used-over-0)) in omega arith

-- ---- "After a refusal every lent buffer holds what it held before."

-- refused-index, refused-list, refused-write and refused-correct in the same words; X is what the call is given beside what is lent to it. Given a call that answers a refusal
abbrev pub SaysRefusedCall : {X A : Type 0} → (X → List A → Call A) → Type 0
SaysRefusedCall {X} {A} C = (x : X) (out : List A) (r : Refusal) → (C x out).answer ≡ Err r → (made_count (C x out).answer ≡ 0) × ((C x out).buffer ≡ out)

refused-call-says : SaysRefusedCall index_call × SaysRefusedCall list_call × SaysRefusedCall write_call × SaysRefusedCall {X = ℕ × ℕ × List ℕ} (λ (used, n, c) b. correct_call b used n c)
refused-call-says = (refused-index, refused-list, refused-write, λ (used, n, c) b r. refused-correct b used n c r)

module _ {X : Type 0} (x : X) where
  -- one that refuses all, each with whatever refusal, and clears what is lent
  pub refused-call-not-clearing : (r : X → List ℕ → Refusal) → SaysRefusedCall (λ (y : X) (out : List ℕ). record { answer = Err (r y out); buffer = replicate (length out) 0 }) → ⊥
  refused-call-not-clearing r h =
      let z : ◌≡◌ {A = ℕ} 0 7 = ap (λ (b : List ℕ). get_or b 0 0) (h x (7 ∷ []) (r x (7 ∷ [])) refl).1 in
      omega arith

  -- one that leaves always the same
  pub refused-call-not-same : {A : Type 0} (a : A) (r : Refusal) (o : List A) → SaysRefusedCall (λ (y : X) (out : List A). record { answer = Err r; buffer = o }) → ⊥
  refused-call-not-same a r o h =
      let z : ◌≡◌ {A = ℕ} 0 1 = ap length (sym (h x [] r refl).1 ∙ (h x (a ∷ []) r refl).1) in
      omega arith

-- One that never writes meets it, whatever it answers, and so does one that refuses all and never writes; and one that never refuses. Shut out by the contracts.
pub refused-call-met-by-idle : {X A : Type 0} (a : X → List A → Made) → SaysRefusedCall (λ (x : X) (out : List A). record { answer = a x out; buffer = out })
refused-call-met-by-idle a x out r e = (ap made_count e, refl)

pub refused-call-met-by-same : {X A : Type 0} (n : ℕ) (o : List A) → SaysRefusedCall (λ (x : X) (out : List A). record { answer = Ok n; buffer = o })
refused-call-met-by-same n o x out r e = refused-made (sym e)
