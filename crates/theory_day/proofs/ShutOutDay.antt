-- What the theorems of the day file shut out, tried, as in ShutOut of crate `examples` and ShutOutExact of crate `breaches`: `SaysX` is the statement of theorem x with any function in the
-- place of the definition, `x-says` the theorem itself; then trivial functions are put in. docs/PROMISES.md has the table of it: "What each theorem asks, and what it shuts out".
use mathlib.Core.Path.{◌≡◌, refl, sym, ap, ◌∙◌}
use mathlib.Core.Bool.{Bool, true, false, true≢false}
use mathlib.Core.List.{List, [], ◌∷◌, ◌++◌}
use mathlib.Core.Logic.{◌↔◌}
use Prim.Native.Nat.{ℕ, suc, ◌+◌, ◌*◌, ◌≤◌, ◌<◌}
use native.Mathlib.Omega.{arith}
use lib.ListN.{length, take, drop, get_or, replicate, length-append}
use Rattle.meaning.specs.declared.Refusal.{Refusal}
use Rattle.meaning.specs.Field.{Field}
use Rattle.meaning.specs.Refusals.{Reply, refused, done, refusal}
use Rattle.meaning.specs.Pieces.{parsed}
use Rattle.meaning.specs.Lines.{starts_set}
use Rattle.meaning.specs.Reading.{read}
use Rattle.meaning.specs.Lists.{list, write}
use Rattle.meaning.specs.Answers.{Call, made_count}
use Rattle.meaning.specs.Computes.{computes}
use Rattle.meaning.proofs.Asking.{text, line}
use Rattle.meaning.proofs.Bools.{Every}
use Rattle.meaning.proofs.FaultLaws.{refused-done, done-same}
use Rattle.meaning.proofs.AnswerLaws.{refused-made, made-same}
use Rattle.meaning.proofs.EntryLaws.{Byte}
use Rattle.meaning.proofs.WriterLaws.{list_of}
use Rattle.meaning.proofs.NumberLaws.{Numbered, OneOf}
use Rattle.breaches.proofs.CallExact.{refused-same}
use Rattle.breaches.proofs.ShutOutExact.{SaysRefusedCall}
use Rattle.meaning_day.specs.declared.DayEntry.{DayEntry}
use Rattle.meaning_day.specs.Days.{max_sets, build, append, matches, lookup}
use Rattle.meaning_day.specs.DayCalls.{columns, entries_in, build_call, append_call, lookup_call}
use Rattle.meaning_day.specs.DayComputes.{day_computes}
use Rattle.meaning_day.proofs.DayDemands.{refused-build, refused-append, refused-lookup}
use Rattle.meaning_day.proofs.DayLaws.{built-sets}
use Rattle.meaning_day.proofs.BuiltLaws.{part_of}
use Rattle.meaning_day.proofs.AppendLaws.{OneSet, append-as-built, refused-alike, append-exactly, Built, built-by-call, built-entries, append-stays-built, built-empty}
use Rattle.meaning_day.proofs.WrittenLaws.{list-set-list-in-file}
use Rattle.meaning_day.proofs.LookupLaws.{patient_of, match-exact}
use Rattle.theory_day.specs.DayRules.{no_entry, Builds, Appends, Finds, FindsPatient}
use Rattle.theory_day.specs.DayBreaches.{BuildRefused, AppendRefused, LookupRefused}
use Rattle.theory_day.proofs.BuildExact.{built-exactly, build-refused-with}
use Rattle.theory_day.proofs.AppendExact.{appended-exactly, append-refused-with}
use Rattle.theory_day.proofs.LookupExact.{found-exactly, lookup-refused-with}
use Rattle.theory_day.proofs.MatchExact.{patient-found-exactly, patient-call-exactly}
use Rattle.theory_day.proofs.DayNumbers.{build_numbers, append_numbers, lookup_numbers, build-numbers, append-numbers, lookup-numbers}
use Rattle.meaning.specs.Results.{Made}
use Rattle.std.specs.Prelude.{Err, Ok}

-- ---- the inputs

-- the paper's set P, of patient 0, and a set of patient 10027
p : List ℕ
p = text "01380006300\r\n014810000051\r\n014921802.10\r\n01030000\r\n"

p_lines : List Field
p_lines = line 8000 "6300" ∷ line 8100 "00051" ∷ line 9218 "02.10" ∷ line 3000 "0" ∷ []

q : List ℕ
q = text "01380006300\r\n014810000055\r\n014921802.10\r\n014300010027\r\n"

-- P, the other set, and P again; and its first two sets
day : List ℕ
day = p ++ (q ++ p)

two : List ℕ
two = p ++ q

-- the second set of this file has no length: 2 at 51
cut : List ℕ
cut = p ++ text "xyz8000"

abbrev entry : ℕ → ℕ → ℕ → DayEntry
entry at size place = record { offset = at; length = size; settype = 6300; place = place }

abbrev p_index : List DayEntry
p_index = entry 0 51 48 ∷ []

abbrev two_index : List DayEntry
two_index = entry 0 51 48 ∷ entry 51 55 99 ∷ []

abbrev day_index : List DayEntry
day_index = entry 0 51 48 ∷ entry 51 55 99 ∷ entry 106 51 154 ∷ []

-- what is lent to be appended to: the entry of P, and room for one more
abbrev lent : List DayEntry
lent = entry 0 51 48 ∷ entry 9 9 9 ∷ []

build-none : build [] 8 ≡ done []
unfolding computes day_computes
build-none = refl

build-p : build p 8 ≡ done p_index
unfolding computes day_computes p
build-p = refl

build-p-0 : build p 0 ≡ refused (refusal 22 1 0)
unfolding computes day_computes p
build-p-0 = refl

build-two : build two 8 ≡ done two_index
unfolding computes day_computes p q two
build-two = refl

build-day : build day 8 ≡ done day_index
unfolding computes day_computes p q day
build-day = refl

build-cut : build cut 8 ≡ refused (refusal 2 51 0)
unfolding computes day_computes p cut
build-cut = refl

append-two : append two 51 lent 1 ≡ done two_index
unfolding computes day_computes p q two
append-two = refl

append-p : append p 0 lent 0 ≡ done p_index
unfolding computes day_computes p
append-p = refl

append-cut : append cut 51 lent 1 ≡ refused (refusal 2 51 0)
unfolding computes day_computes p cut
append-cut = refl

lookup-0 : lookup day day_index (text "0") 8 ≡ done (1 ∷ 3 ∷ [])
unfolding computes day_computes p q day
lookup-0 = refl

lookup-10027 : lookup day day_index (text "10027") 8 ≡ done (2 ∷ [])
unfolding computes day_computes p q day
lookup-10027 = refl

lookup-0-in-1 : lookup day day_index (text "0") 1 ≡ refused (refusal 22 2 0)
unfolding computes day_computes p q day
lookup-0-in-1 = refl

-- two answers of another length are not the same
longer : {A : Type 0} {xs ys : List A} → length xs < length ys → ◌≡◌ {A = Reply (List A)} (done xs) (done ys) → ⊥
longer l e = omega (arith, ap length (done-same e))

-- what each theorem is about
abbrev Builder : Type 0
Builder = List ℕ → ℕ → Reply (List DayEntry)

abbrev Appender : Type 0
Appender = List ℕ → ℕ → List DayEntry → ℕ → Reply (List DayEntry)

abbrev Finder : Type 0
Finder = List ℕ → List DayEntry → List ℕ → ℕ → Reply (List ℕ)

-- does what is to be done, and refuses the rest always by 1
abbrev by_one : {A : Type 0} → Reply A → Reply A
by_one (refused r) = refused (refusal 1 0 0)
by_one (done x) = done x

done-by-one : {A : Type 0} (a : Reply A) (x : A) → (by_one a ≡ done x) ↔ (a ≡ done x)
done-by-one (refused r) x = (λ e. refused-done e, λ e. refused-done e)
done-by-one (done y) x = (λ e. e, λ e. e)

-- refuses what is to be refused, always with place 0
abbrev at_zero : {A : Type 0} → Reply A → Reply A
at_zero (refused r) = refused (refusal r.no 0 r.label)
at_zero (done x) = done x

-- makes the first of what is to be made, and stops
abbrev first_only : {A : Type 0} → Reply (List A) → Reply (List A)
first_only (refused r) = refused r
first_only (done []) = done []
first_only (done (x ∷ xs)) = done (x ∷ [])

-- ---- built exactly

-- built-exactly: nothing given
abbrev SaysBuiltExactly : Builder → Type 0
SaysBuiltExactly build = (f : List ℕ) (room : ℕ) (es : List DayEntry) → (build f room ≡ done es) ↔ Builds f room es

built-exactly-says : SaysBuiltExactly build
built-exactly-says = built-exactly

built-exactly-at : (B : Builder) → SaysBuiltExactly B → (f : List ℕ) (room : ℕ) (es : List DayEntry) → (B f room ≡ done es) ↔ (build f room ≡ done es)
built-exactly-at B h f room es = (λ e. (built-exactly f room es).1 ((h f room es).0 e), λ e. (h f room es).1 ((built-exactly f room es).0 e))

built-exactly-not-refusing : (r : List ℕ → ℕ → Refusal) → SaysBuiltExactly (λ f room. refused (r f room)) → ⊥
built-exactly-not-refusing r h = refused-done ((built-exactly-at (λ f room. refused (r f room)) h p 8 p_index).1 build-p)

built-exactly-not-same : (a : Reply (List DayEntry)) → SaysBuiltExactly (λ f room. a) → ⊥
built-exactly-not-same a h = longer (omega arith) (sym ((built-exactly-at (λ f room. a) h [] 8 []).1 build-none) ∙ (built-exactly-at (λ f room. a) h p 8 p_index).1 build-p)

-- nor one that stops after the first set
built-exactly-not-first : SaysBuiltExactly (λ f room. first_only (build f room)) → ⊥
built-exactly-not-first h = longer (omega arith) (sym (ap first_only build-two) ∙ (built-exactly-at (λ f room. first_only (build f room)) h two 8 two_index).1 build-two)

-- nor one that does not look at the room
built-exactly-not-roomless : SaysBuiltExactly (λ f room. build f 8) → ⊥
built-exactly-not-roomless h = refused-done (sym build-p-0 ∙ (built-exactly-at (λ f room. build f 8) h p 0 p_index).0 build-p)

-- It does not say by which number is refused else. Shut out by `build-refused-with`.
built-exactly-met-by-one-number : SaysBuiltExactly (λ f room. by_one (build f room))
built-exactly-met-by-one-number f room es =
    let x = built-exactly f room es in let y = done-by-one (build f room) es in (λ e. x.0 (y.0 e), λ b. y.1 (x.1 b))

-- build-refused-with: nothing given
abbrev SaysBuildRefusedWith : Builder → Type 0
SaysBuildRefusedWith build = (f : List ℕ) (room : ℕ) (r : Refusal) → (build f room ≡ refused r) ↔ BuildRefused f room r

build-refused-with-says : SaysBuildRefusedWith build
build-refused-with-says = build-refused-with

build-refused-with-at : (B : Builder) → SaysBuildRefusedWith B → (f : List ℕ) (room : ℕ) (r : Refusal) → (B f room ≡ refused r) ↔ (build f room ≡ refused r)
build-refused-with-at B h f room r = (λ e. (build-refused-with f room r).1 ((h f room r).0 e), λ e. (h f room r).1 ((build-refused-with f room r).0 e))

build-refused-with-not-refusing : (r : List ℕ → ℕ → Refusal) → SaysBuildRefusedWith (λ f room. refused (r f room)) → ⊥
build-refused-with-not-refusing r h = refused-done (sym ((build-refused-with-at (λ f room. refused (r f room)) h p 8 (r p 8)).0 refl) ∙ build-p)

build-refused-with-not-same : (a : Reply (List DayEntry)) → SaysBuildRefusedWith (λ f room. a) → ⊥
build-refused-with-not-same (refused r) h = build-refused-with-not-refusing (λ f room. r) h
build-refused-with-not-same (done es) h = refused-done (sym ((build-refused-with-at (λ f room. done es) h cut 8 (refusal 2 51 0)).1 build-cut))

build-refused-with-not-one-number : SaysBuildRefusedWith (λ f room. by_one (build f room)) → ⊥
build-refused-with-not-one-number h =
    let e = sym (ap by_one build-cut) ∙ (build-refused-with-at (λ f room. by_one (build f room)) h cut 8 (refusal 2 51 0)).1 build-cut in
    let z : ◌≡◌ {A = ℕ} 1 2 = ap (λ (y : Refusal). y.no) (refused-same e) in
    omega arith

-- nor one whose places are not those in the file
build-refused-with-not-at-zero : SaysBuildRefusedWith (λ f room. at_zero (build f room)) → ⊥
build-refused-with-not-at-zero h =
    let e = sym (ap at_zero build-cut) ∙ (build-refused-with-at (λ f room. at_zero (build f room)) h cut 8 (refusal 2 51 0)).1 build-cut in
    let z : ◌≡◌ {A = ℕ} 0 51 = ap (λ (y : Refusal). y.place) (refused-same e) in
    omega arith

-- ---- appended exactly

-- appended-exactly: nothing given
abbrev SaysAppendedExactly : Appender → Type 0
SaysAppendedExactly append = (f : List ℕ) (old : ℕ) (lent : List DayEntry) (n : ℕ) (es : List DayEntry) → (append f old lent n ≡ done es) ↔ Appends f old lent n es

appended-exactly-says : SaysAppendedExactly append
appended-exactly-says = appended-exactly

appended-exactly-at : (A : Appender) → SaysAppendedExactly A → (f : List ℕ) (old : ℕ) (lent : List DayEntry) (n : ℕ) (es : List DayEntry)
    → append f old lent n ≡ done es → A f old lent n ≡ done es
appended-exactly-at A h f old lent n es e = (h f old lent n es).1 ((appended-exactly f old lent n es).0 e)

appended-exactly-not-refusing : (r : List ℕ → ℕ → List DayEntry → ℕ → Refusal) → SaysAppendedExactly (λ f old lent n. refused (r f old lent n)) → ⊥
appended-exactly-not-refusing r h = refused-done (appended-exactly-at (λ f old lent n. refused (r f old lent n)) h p 0 lent 0 p_index append-p)

appended-exactly-not-same : (a : Reply (List DayEntry)) → SaysAppendedExactly (λ f old lent n. a) → ⊥
appended-exactly-not-same a h =
    longer (omega arith) (sym (appended-exactly-at (λ f old lent n. a) h p 0 lent 0 p_index append-p) ∙ appended-exactly-at (λ f old lent n. a) h two 51 lent 1 two_index append-two)

-- nor one that refuses what is to be refused, and for the rest leaves the entries as they were
abbrev idle : List DayEntry → Reply (List DayEntry) → Reply (List DayEntry)
idle es (refused r) = refused r
idle es (done x) = done es

appended-exactly-not-idle : SaysAppendedExactly (λ f old lent n. idle (take n lent) (append f old lent n)) → ⊥
appended-exactly-not-idle h =
    longer (omega arith)
    (sym (ap (idle (take 1 lent)) append-two) ∙ appended-exactly-at (λ f old lent n. idle (take n lent) (append f old lent n)) h two 51 lent 1 two_index append-two)

-- It does not say by which number is refused else. Shut out by `append-refused-with`.
appended-exactly-met-by-one-number : SaysAppendedExactly (λ f old lent n. by_one (append f old lent n))
appended-exactly-met-by-one-number f old lent n es =
    let x = appended-exactly f old lent n es in let y = done-by-one (append f old lent n) es in (λ e. x.0 (y.0 e), λ b. y.1 (x.1 b))

-- append-refused-with: nothing given
abbrev SaysAppendRefusedWith : Appender → Type 0
SaysAppendRefusedWith append = (f : List ℕ) (old : ℕ) (lent : List DayEntry) (n : ℕ) (r : Refusal) → (append f old lent n ≡ refused r) ↔ AppendRefused f old lent n r

append-refused-with-says : SaysAppendRefusedWith append
append-refused-with-says = append-refused-with

append-refused-with-not-refusing : (r : List ℕ → ℕ → List DayEntry → ℕ → Refusal) → SaysAppendRefusedWith (λ f old lent n. refused (r f old lent n)) → ⊥
append-refused-with-not-refusing r h =
    refused-done (sym ((append-refused-with p 0 lent 0 (r p 0 lent 0)).1 ((h p 0 lent 0 (r p 0 lent 0)).0 refl)) ∙ append-p)

append-refused-with-at : (A : Appender) → SaysAppendRefusedWith A → A cut 51 lent 1 ≡ refused (refusal 2 51 0)
append-refused-with-at A h = (h cut 51 lent 1 (refusal 2 51 0)).1 ((append-refused-with cut 51 lent 1 (refusal 2 51 0)).0 append-cut)

append-refused-with-not-same : (a : Reply (List DayEntry)) → SaysAppendRefusedWith (λ f old lent n. a) → ⊥
append-refused-with-not-same (refused r) h = append-refused-with-not-refusing (λ f old lent n. r) h
append-refused-with-not-same (done es) h = refused-done (sym (append-refused-with-at (λ f old lent n. done es) h))

append-refused-with-not-one-number : SaysAppendRefusedWith (λ f old lent n. by_one (append f old lent n)) → ⊥
append-refused-with-not-one-number h =
    let e = sym (ap by_one append-cut) ∙ append-refused-with-at (λ f old lent n. by_one (append f old lent n)) h in
    let z : ◌≡◌ {A = ℕ} 1 2 = ap (λ (y : Refusal). y.no) (refused-same e) in
    omega arith

append-refused-with-not-at-zero : SaysAppendRefusedWith (λ f old lent n. at_zero (append f old lent n)) → ⊥
append-refused-with-not-at-zero h =
    let e = sym (ap at_zero append-cut) ∙ append-refused-with-at (λ f old lent n. at_zero (append f old lent n)) h in
    let z : ◌≡◌ {A = ℕ} 0 51 = ap (λ (y : Refusal). y.place) (refused-same e) in
    omega arith

-- ---- appended as built

-- append-as-built: given an index that was built, which the lent entries start with, and one set
abbrev SaysAppendAsBuilt : Builder → Appender → Type 0
SaysAppendAsBuilt build append =
    (f s : List ℕ) (room : ℕ) (es lent : List DayEntry) → build f room ≡ done es → (length es < length lent → take (length es) lent ≡ es) → OneSet s
    → append (f ++ s) (length f) lent (length es) ≡ build (f ++ s) (length lent)

append-as-built-says : SaysAppendAsBuilt build append
append-as-built-says = append-as-built

one-p : OneSet p
unfolding computes p
one-p = record { shape_of = record { length = 51; lines = 4; settype = 6300 }; is-accepted = refl; whole_length = refl }

one-q : OneSet q
unfolding computes q
one-q = record { shape_of = record { length = 55; lines = 4; settype = 6300 }; is-accepted = refl; whole_length = refl }

-- what it asks of two appendings: of the other set to P, and of P to nothing
as-built-two : (A : Appender) → SaysAppendAsBuilt build A → A two 51 lent 1 ≡ done two_index
unfolding computes day_computes p q two
as-built-two A h = h p q 8 p_index lent build-p (λ l. refl) one-q

as-built-p : (A : Appender) → SaysAppendAsBuilt build A → A p 0 lent 0 ≡ done p_index
unfolding computes day_computes p
as-built-p A h = h [] p 8 [] lent build-none (λ l. refl) one-p

append-as-built-not-refusing : (r : List ℕ → ℕ → List DayEntry → ℕ → Refusal) → SaysAppendAsBuilt build (λ f old lent n. refused (r f old lent n)) → ⊥
append-as-built-not-refusing r h = refused-done (as-built-p (λ f old lent n. refused (r f old lent n)) h)

append-as-built-not-same : (a : Reply (List DayEntry)) → SaysAppendAsBuilt build (λ f old lent n. a) → ⊥
append-as-built-not-same a h = longer (omega arith) (sym (as-built-p (λ f old lent n. a) h) ∙ as-built-two (λ f old lent n. a) h)

append-as-built-not-idle : SaysAppendAsBuilt build (λ f old lent n. idle (take n lent) (append f old lent n)) → ⊥
append-as-built-not-idle h =
    longer (omega arith) (sym (ap (idle (take 1 lent)) append-two) ∙ as-built-two (λ f old lent n. idle (take n lent) (append f old lent n)) h)

-- Of two functions it says only that they agree: both may refuse all, or make no entry of any file. Shut out by `built-exactly`.
append-as-built-met-by-refusing : (r : Refusal) → SaysAppendAsBuilt (λ f room. refused r) (λ f old lent n. refused r)
append-as-built-met-by-refusing r f s room es lent b h o = refl

append-as-built-met-by-none : SaysAppendAsBuilt (λ f room. done []) (λ f old lent n. done [])
append-as-built-met-by-none f s room es lent b h o = refl

-- append-exactly: given an index that was built, which the lent entries start with. Its two halves as one
abbrev SaysAppendExactly : Builder → Appender → Type 0
SaysAppendExactly build append =
    (f s : List ℕ) (room : ℕ) (es lent xs : List DayEntry) → build f room ≡ done es → take (length es) lent ≡ es
    → (append (f ++ s) (length f) lent (length es) ≡ done xs) ↔ ((build (f ++ s) (length lent) ≡ done xs) × (length xs ≡ length es + 1))

append-exactly-says : SaysAppendExactly build append
append-exactly-says = append-exactly

-- what it asks of the two appendings
exactly-two : (A : Appender) → SaysAppendExactly build A → A two 51 lent 1 ≡ done two_index
unfolding computes day_computes p q two
exactly-two A h = (h p q 8 p_index lent two_index build-p refl).1 (refl, refl)

exactly-p : (A : Appender) → SaysAppendExactly build A → A p 0 lent 0 ≡ done p_index
unfolding computes day_computes p
exactly-p A h = (h [] p 8 [] lent p_index build-none refl).1 (refl, refl)

append-exactly-not-refusing : (r : List ℕ → ℕ → List DayEntry → ℕ → Refusal) → SaysAppendExactly build (λ f old lent n. refused (r f old lent n)) → ⊥
append-exactly-not-refusing r h = refused-done (exactly-p (λ f old lent n. refused (r f old lent n)) h)

append-exactly-not-same : (a : Reply (List DayEntry)) → SaysAppendExactly build (λ f old lent n. a) → ⊥
append-exactly-not-same a h = longer (omega arith) (sym (exactly-p (λ f old lent n. a) h) ∙ exactly-two (λ f old lent n. a) h)

append-exactly-not-idle : SaysAppendExactly build (λ f old lent n. idle (take n lent) (append f old lent n)) → ⊥
append-exactly-not-idle h =
    longer (omega arith) (sym (ap (idle (take 1 lent)) append-two) ∙ exactly-two (λ f old lent n. idle (take n lent) (append f old lent n)) h)

-- It does not say by which number is refused else. Shut out by `append-refused-with`.
append-exactly-met-by-one-number : SaysAppendExactly build (λ f old lent n. by_one (append f old lent n))
append-exactly-met-by-one-number f s room es lent xs b h =
    let x = append-exactly f s room es lent xs b h in
    let y = done-by-one (append (f ++ s) (length f) lent (length es)) xs in
    (λ e. x.0 (y.0 e), λ e. y.1 (x.1 e))

-- refused-alike: given an index that was built, and bytes that start a set and are refused by themselves
abbrev SaysRefusedAlike : Builder → Appender → Type 0
SaysRefusedAlike build append =
    (f s : List ℕ) (room room' : ℕ) (es lent : List DayEntry) (count : ℕ) (r : Refusal) → build f room ≡ done es → starts_set s ≡ true → read s ≡ refused r
    → (append (f ++ s) (length f) lent count ≡ refused (refusal r.no (length f + r.place) r.label))
    × (build (f ++ s) room' ≡ refused (refusal r.no (length f + r.place) r.label))

refused-alike-says : SaysRefusedAlike build append
refused-alike-says = refused-alike

-- what it asks of bytes without a length: after P, and after nothing
alike-cut : (A : Appender) → SaysRefusedAlike build A → A cut 51 lent 1 ≡ refused (refusal 2 51 0)
unfolding computes day_computes p cut
alike-cut A h = (h p (text "xyz8000") 8 8 p_index lent 1 (refusal 2 0 0) build-p refl refl).0

alike-alone : (A : Appender) → SaysRefusedAlike build A → A (text "xyz8000") 0 lent 0 ≡ refused (refusal 2 0 0)
unfolding computes day_computes
alike-alone A h = (h [] (text "xyz8000") 8 8 [] lent 0 (refusal 2 0 0) build-none refl refl).0

refused-alike-not-same : (a : Reply (List DayEntry)) → SaysRefusedAlike build (λ f old lent n. a) → ⊥
refused-alike-not-same a h =
    let e = sym (alike-alone (λ f old lent n. a) h) ∙ alike-cut (λ f old lent n. a) h in
    let z : ◌≡◌ {A = ℕ} 0 51 = ap (λ (y : Refusal). y.place) (refused-same e) in
    omega arith

-- nor one that appends whatever is given, or places refusals in the appended bytes
refused-alike-not-lenient : (x : List ℕ → ℕ → List DayEntry → ℕ → List DayEntry) → SaysRefusedAlike build (λ f old lent n. done (x f old lent n)) → ⊥
refused-alike-not-lenient x h = refused-done (sym (alike-cut (λ f old lent n. done (x f old lent n)) h))

refused-alike-not-at-zero : SaysRefusedAlike build (λ f old lent n. at_zero (append f old lent n)) → ⊥
refused-alike-not-at-zero h =
    let e = sym (ap at_zero append-cut) ∙ alike-cut (λ f old lent n. at_zero (append f old lent n)) h in
    let z : ◌≡◌ {A = ℕ} 0 51 = ap (λ (y : Refusal). y.place) (refused-same e) in
    omega arith

-- One that makes no entry of an accepted set meets it. Shut out by `append-as-built`.
abbrev only_refused : Reply (List DayEntry) → Reply (List DayEntry)
only_refused (refused r) = refused r
only_refused (done es) = done []

refused-alike-met-by-none : SaysRefusedAlike build (λ f old lent n. only_refused (append f old lent n))
refused-alike-met-by-none f s room room' es lent count r b st e =
    let x = refused-alike f s room room' es lent count r b st e in
    (ap only_refused x.0, x.1)

-- append-stays-built: given numbers that start with an index of the bytes before the old length, and an appending that answers a count
abbrev SaysAppendStaysBuilt : (List ℕ → ℕ → List ℕ → ℕ → Call ℕ) → Type 0
SaysAppendStaysBuilt A =
    (f : List ℕ) (old : ℕ) (index : List ℕ) (n m : ℕ) → Built (take old f) index n → (A f old index n).answer ≡ Ok m → Built f (A f old index n).buffer m

append-stays-built-says : SaysAppendStaysBuilt append_call
append-stays-built-says = append-stays-built

-- what an index of P is, and one of both sets: so many entries, whose numbers stand at the front
built-alone : (f : List ℕ) (es : List DayEntry) → build f 8 ≡ done es → (index : List ℕ) (m : ℕ) → Built f index m → (m ≡ length es) × (take (m * 4) index ≡ columns es)
built-alone f es e index m b =
    let y = built-entries f index m b in
    let same : y.1 ≡ es = done-same (sym (built-sets f y.0 y.1 y.2).0 ∙ (built-sets f 8 es e).0) in
    (sym y.3 ∙ ap length same, y.5 ∙ ap columns same)

built-p : Built p (columns p_index) 1
unfolding computes day_computes p
built-p = built-by-call p (replicate 4 7) 1 refl

append-stays-built-not-same : (m : ℕ) (o : List ℕ) → SaysAppendStaysBuilt (λ f old index n. record { answer = Ok m; buffer = o }) → ⊥
unfolding p q two
append-stays-built-not-same m o h =
    let a = built-alone p p_index build-p o m (h p 0 [] 0 m (built-empty []) refl) in
    let b = built-alone two two_index build-two o m (h two 51 (columns p_index) 1 m built-p refl) in
    omega (arith, a.0, b.0)

-- nor one that counts the set, and leaves every number as it was
append-stays-built-not-idle : SaysAppendStaysBuilt (λ f old index n. record { answer = Ok (suc n); buffer = index }) → ⊥
append-stays-built-not-idle h =
    let a = built-alone p p_index build-p (7 ∷ 7 ∷ 7 ∷ 7 ∷ []) 1 (h p 0 (7 ∷ 7 ∷ 7 ∷ 7 ∷ []) 0 1 (built-empty (7 ∷ 7 ∷ 7 ∷ 7 ∷ [])) refl) in
    let z : ◌≡◌ {A = ℕ} 7 0 = ap (λ (ns : List ℕ). get_or ns 0 0) a.1 in
    omega arith

-- One that refuses all meets it. Shut out by `append-as-built`.
append-stays-built-met-by-refusing : (r : List ℕ → ℕ → List ℕ → ℕ → Refusal) → SaysAppendStaysBuilt (λ f old index n. record { answer = Err (r f old index n); buffer = index })
append-stays-built-met-by-refusing r f old index n m b e = refused-made e

-- built-empty: nothing given. `Built` of any call in the place of `build_call`
record BuiltBy (B : List ℕ → List ℕ → Call ℕ) (f index : List ℕ) (n : ℕ) : Type 0 where
  lent : List ℕ
  answered : (B f lent).answer ≡ Ok n
  front : take (n * 4) index ≡ take (n * 4) (B f lent).buffer

abbrev SaysBuiltEmpty : (List ℕ → List ℕ → Call ℕ) → Type 0
SaysBuiltEmpty B = (index : List ℕ) → BuiltBy B [] index 0

built-empty-says : SaysBuiltEmpty build_call
built-empty-says index = let b = built-empty index in record { lent = b.lent; answered = b.answered; front = b.front }

built-empty-not-refusing : (r : List ℕ → List ℕ → Refusal) → SaysBuiltEmpty (λ f index. record { answer = Err (r f index); buffer = index }) → ⊥
built-empty-not-refusing r h = refused-made (h []).answered

-- one that always finds a set
built-empty-not-some : (n : ℕ) (o : List ℕ) → SaysBuiltEmpty (λ f index. record { answer = Ok (suc n); buffer = o }) → ⊥
built-empty-not-some n o h = omega (arith, made-same (h []).answered)

-- One that never finds a set meets it. Shut out by `built-exactly`.
built-empty-met-by-none : (o : List ℕ) → SaysBuiltEmpty (λ f index. record { answer = Ok 0; buffer = o })
built-empty-met-by-none o index = record { lent = []; answered = refl; front = refl }

-- ---- written, appended, and listed again

-- list-set-list-in-file: given a list of bytes that was written, and an index that was built, with fewer sets than may be
abbrev SaysListSetListInFile : (List ℕ → ℕ → Reply (List ℕ)) → Builder → (List ℕ → ℕ → Reply (List ℕ)) → Type 0
SaysListSetListInFile W B L =
    (f l s : List ℕ) (room room' : ℕ) (es : List DayEntry) → Every Byte l → W l room ≡ done s → B f room' ≡ done es → length es < max_sets
    → (e : DayEntry) × (B (f ++ s) (length es + 1) ≡ done (es ++ (e ∷ []))) × (part_of (f ++ s) e ≡ s) × ((n : ℕ) → length l ≤ n → L (part_of (f ++ s) e) n ≡ done l)

list-set-list-in-file-says : SaysListSetListInFile write build list
list-set-list-in-file-says = list-set-list-in-file

-- the lists of P and of the other set
p_list : List ℕ
p_list = list_of p_lines

q_list : List ℕ
q_list = list_of (line 8000 "6300" ∷ line 8100 "00055" ∷ line 9218 "02.10" ∷ line 3000 "10027" ∷ [])

bytes-p : Every Byte p_list
unfolding p_list p_lines
bytes-p = omega arith

bytes-q : Every Byte q_list
unfolding q_list
bytes-q = omega arith

write-p : write p_list 60 ≡ done p
unfolding computes p p_list p_lines
write-p = refl

write-q : write q_list 60 ≡ done q
unfolding computes q q_list
write-q = refl

lists-differ : p_list ≡ q_list → ⊥
unfolding computes p_list p_lines q_list
lists-differ e = let z : ◌≡◌ {A = ℕ} 22 26 = ap length e in omega arith

-- what it asks of a lister: of the list of P, written and put after no bytes
listed_p : (L : List ℕ → ℕ → Reply (List ℕ)) → SaysListSetListInFile write build L → L p 99 ≡ done p_list
unfolding computes p_list p_lines
listed_p L h =
    let x = h [] p_list p 60 8 [] bytes-p write-p build-none (omega arith) in
    ap (λ (t : List ℕ). L t 99) (sym x.2) ∙ x.3 99 (omega arith)

listed-q : (L : List ℕ → ℕ → Reply (List ℕ)) → SaysListSetListInFile write build L → L q 99 ≡ done q_list
unfolding computes q_list
listed-q L h =
    let x = h [] q_list q 60 8 [] bytes-q write-q build-none (omega arith) in
    ap (λ (t : List ℕ). L t 99) (sym x.2) ∙ x.3 99 (omega arith)

list-set-list-in-file-not-refusing-list : (r : List ℕ → ℕ → Refusal) → SaysListSetListInFile write build (λ s n. refused (r s n)) → ⊥
list-set-list-in-file-not-refusing-list r h = refused-done (listed_p (λ s n. refused (r s n)) h)

list-set-list-in-file-not-same-list : (a : Reply (List ℕ)) → SaysListSetListInFile write build (λ s n. a) → ⊥
list-set-list-in-file-not-same-list a h = lists-differ (done-same (sym (listed_p (λ s n. a) h) ∙ listed-q (λ s n. a) h))

-- an index that is always the same
list-set-list-in-file-not-same-build : (es : List DayEntry) → length es < max_sets → SaysListSetListInFile write (λ f room. done es) list → ⊥
list-set-list-in-file-not-same-build es few h =
    let x = h [] p_list p 60 8 es bytes-p write-p refl few in
    omega (arith, ap length (done-same x.1), length-append es (x.0 ∷ []))

-- a writer that makes always the same set
list-set-list-in-file-not-same-write : (s : List ℕ) → SaysListSetListInFile (λ l room. done s) build list → ⊥
list-set-list-in-file-not-same-write s h =
    let x = h [] p_list s 60 8 [] bytes-p refl build-none (omega arith) in
    let y = h [] q_list s 60 8 [] bytes-q refl build-none (omega arith) in
    lists-differ (done-same
    (sym (ap (λ (t : List ℕ). list t (length p_list + length q_list)) (sym x.2) ∙ x.3 (length p_list + length q_list) (omega arith))
    ∙ (ap (λ (t : List ℕ). list t (length p_list + length q_list)) (sym y.2) ∙ y.3 (length p_list + length q_list) (omega arith))))

-- A writer that refuses all, or an index that is always refused, meets it. Shut out by `list-write` (Demands), and by `built-exactly`.
list-set-list-in-file-met-by-refusing-write : (r : List ℕ → ℕ → Refusal) → SaysListSetListInFile (λ l room. refused (r l room)) build list
list-set-list-in-file-met-by-refusing-write r f l s room room' es b w = refused-done w

list-set-list-in-file-met-by-refusing-build : (r : List ℕ → ℕ → Refusal) → SaysListSetListInFile write (λ f room. refused (r f room)) list
list-set-list-in-file-met-by-refusing-build r f l s room room' es b w h = refused-done h

-- ---- "All lent buffers then keep every byte and entry"

-- refused-build, refused-append and refused-lookup, in the words of `SaysRefusedCall` (ShutOutExact of crate `breaches`, which has the trials): given a call that answers a refusal
refused-day-call-says : SaysRefusedCall build_call × SaysRefusedCall {X = List ℕ × ℕ × ℕ} (λ (f, old, count) index. append_call f old index count)
    × SaysRefusedCall {X = List ℕ × List ℕ × List ℕ} (λ (f, index, c) out. lookup_call f index c out)
refused-day-call-says = (refused-build, λ (f, old, count) index r. refused-append f old index count r, λ (f, index, c) out r. refused-lookup f index c out r)

-- ---- found exactly

-- found-exactly: nothing given
abbrev SaysFoundExactly : Finder → Type 0
SaysFoundExactly lookup =
    (f : List ℕ) (es : List DayEntry) (c : List ℕ) (room : ℕ) (ns : List ℕ) → (lookup f es c room ≡ done ns) ↔ (Finds f es c ns × (length ns ≤ room))

found-exactly-says : SaysFoundExactly lookup
found-exactly-says = found-exactly

-- patient-found-exactly: given an index that was built
abbrev SaysPatientFoundExactly : Finder → Type 0
SaysPatientFoundExactly lookup =
    (f : List ℕ) (entries : ℕ) (es : List DayEntry) → build f entries ≡ done es
    → (c : List ℕ) (room : ℕ) (ns : List ℕ) → (lookup f es c room ≡ done ns) ↔ (FindsPatient f es c ns × (length ns ≤ room))

patient-found-exactly-says : SaysPatientFoundExactly lookup
patient-found-exactly-says = patient-found-exactly

-- what both ask of the lookups in the index of the file
abbrev FindsInDay : Finder → Type 0
FindsInDay F = (c : List ℕ) (room : ℕ) (ns : List ℕ) → (F day day_index c room ≡ done ns) ↔ (lookup day day_index c room ≡ done ns)

found-in-day : (F : Finder) → SaysFoundExactly F → FindsInDay F
found-in-day F h c room ns =
    let x = found-exactly day day_index c room ns in let y = h day day_index c room ns in (λ e. x.1 (y.0 e), λ e. y.1 (x.0 e))

patient-in-day : (F : Finder) → SaysPatientFoundExactly F → FindsInDay F
patient-in-day F h c room ns =
    let x = patient-found-exactly day 8 day_index build-day c room ns in let y = h day 8 day_index build-day c room ns in (λ e. x.1 (y.0 e), λ e. y.1 (x.0 e))

in-day-not-refusing : (r : List ℕ → List DayEntry → List ℕ → ℕ → Refusal) → FindsInDay (λ f es c room. refused (r f es c room)) → ⊥
in-day-not-refusing r h = refused-done ((h (text "0") 8 (1 ∷ 3 ∷ [])).1 lookup-0)

in-day-not-same : (a : Reply (List ℕ)) → FindsInDay (λ f es c room. a) → ⊥
in-day-not-same a h = longer (omega arith) (sym ((h (text "10027") 8 (2 ∷ [])).1 lookup-10027) ∙ (h (text "0") 8 (1 ∷ 3 ∷ [])).1 lookup-0)

-- nor one that stops at the first match
in-day-not-first : FindsInDay (λ f es c room. first_only (lookup f es c room)) → ⊥
in-day-not-first h = longer (omega arith) (sym (ap first_only lookup-0) ∙ (h (text "0") 8 (1 ∷ 3 ∷ [])).1 lookup-0)

-- nor one that answers the numbers of all entries
abbrev numbers_from : ℕ → List DayEntry → List ℕ
numbers_from k [] = []
numbers_from k (e ∷ es) = k ∷ numbers_from (suc k) es

in-day-not-all : FindsInDay (λ f es c room. done (numbers_from 1 es)) → ⊥
in-day-not-all h = longer (omega arith) (sym ((h (text "0") 8 (1 ∷ 3 ∷ [])).1 lookup-0))

-- nor one that answers each number twice, or the last first
abbrev twice : Reply (List ℕ) → Reply (List ℕ)
twice (refused r) = refused r
twice (done ns) = done (ns ++ ns)

in-day-not-twice : FindsInDay (λ f es c room. twice (lookup f es c room)) → ⊥
in-day-not-twice h = longer (omega arith) (sym (sym (ap twice lookup-0) ∙ (h (text "0") 8 (1 ∷ 3 ∷ [])).1 lookup-0))

abbrev backwards : List ℕ → List ℕ
backwards [] = []
backwards (n ∷ ns) = backwards ns ++ (n ∷ [])

abbrev last_first : Reply (List ℕ) → Reply (List ℕ)
last_first (refused r) = refused r
last_first (done ns) = done (backwards ns)

in-day-not-last-first : FindsInDay (λ f es c room. last_first (lookup f es c room)) → ⊥
in-day-not-last-first h =
    let e = sym (ap last_first lookup-0) ∙ (h (text "0") 8 (1 ∷ 3 ∷ [])).1 lookup-0 in
    let z : ◌≡◌ {A = ℕ} 3 1 = ap (λ (ns : List ℕ). get_or ns 0 0) (done-same e) in
    omega arith

-- nor one that does not look at the room
in-day-not-roomless : FindsInDay (λ f es c room. lookup f es c 8) → ⊥
in-day-not-roomless h = refused-done (sym lookup-0-in-1 ∙ (h (text "0") 1 (1 ∷ 3 ∷ [])).0 lookup-0)

found-exactly-not-refusing : (r : List ℕ → List DayEntry → List ℕ → ℕ → Refusal) → SaysFoundExactly (λ f es c room. refused (r f es c room)) → ⊥
found-exactly-not-refusing r h = in-day-not-refusing r (found-in-day (λ f es c room. refused (r f es c room)) h)

found-exactly-not-same : (a : Reply (List ℕ)) → SaysFoundExactly (λ f es c room. a) → ⊥
found-exactly-not-same a h = in-day-not-same a (found-in-day (λ f es c room. a) h)

found-exactly-not-first : SaysFoundExactly (λ f es c room. first_only (lookup f es c room)) → ⊥
found-exactly-not-first h = in-day-not-first (found-in-day (λ f es c room. first_only (lookup f es c room)) h)

patient-found-exactly-not-refusing : (r : List ℕ → List DayEntry → List ℕ → ℕ → Refusal) → SaysPatientFoundExactly (λ f es c room. refused (r f es c room)) → ⊥
patient-found-exactly-not-refusing r h = in-day-not-refusing r (patient-in-day (λ f es c room. refused (r f es c room)) h)

patient-found-exactly-not-same : (a : Reply (List ℕ)) → SaysPatientFoundExactly (λ f es c room. a) → ⊥
patient-found-exactly-not-same a h = in-day-not-same a (patient-in-day (λ f es c room. a) h)

patient-found-exactly-not-first : SaysPatientFoundExactly (λ f es c room. first_only (lookup f es c room)) → ⊥
patient-found-exactly-not-first h = in-day-not-first (patient-in-day (λ f es c room. first_only (lookup f es c room)) h)

-- Neither says by which number is refused else. Shut out by `lookup-refused-with`.
found-exactly-met-by-one-number : SaysFoundExactly (λ f es c room. by_one (lookup f es c room))
found-exactly-met-by-one-number f es c room ns =
    let x = found-exactly f es c room ns in let y = done-by-one (lookup f es c room) ns in (λ e. x.0 (y.0 e), λ b. y.1 (x.1 b))

patient-found-exactly-met-by-one-number : SaysPatientFoundExactly (λ f es c room. by_one (lookup f es c room))
patient-found-exactly-met-by-one-number f entries es b c room ns =
    let x = patient-found-exactly f entries es b c room ns in let y = done-by-one (lookup f es c room) ns in (λ e. x.0 (y.0 e), λ b. y.1 (x.1 b))

-- patient-call-exactly: given numbers that start with an index that was built
abbrev SaysPatientCallExactly : (List ℕ → List ℕ → List ℕ → List ℕ → Call ℕ) → Type 0
SaysPatientCallExactly lookup_call =
    (f index : List ℕ) (n : ℕ) → Built f index n → (c out ns : List ℕ)
    → (lookup_call f (take (n * 4) index) c out ≡ record { answer = Ok (length ns); buffer = ns ++ drop (length ns) out })
    ↔ (FindsPatient f (entries_in (take (n * 4) index)) c ns × (length ns ≤ length out))

patient-call-exactly-says : SaysPatientCallExactly lookup_call
patient-call-exactly-says = patient-call-exactly

-- the numbers of the index of the file, and what is lent for the answer
day_numbers : List ℕ
day_numbers = columns day_index

built-day : Built day day_numbers 3
unfolding computes day_computes p q day day_numbers
built-day = built-by-call day (replicate 12 7) 3 refl

abbrev out : List ℕ
out = 7 ∷ 7 ∷ 7 ∷ []

-- what it asks of two lookups: of patient 0, and of patient 10027
call-0 : (C : List ℕ → List ℕ → List ℕ → List ℕ → Call ℕ) → SaysPatientCallExactly C
    → C day (take 12 day_numbers) (text "0") out ≡ record { answer = Ok 2; buffer = 1 ∷ 3 ∷ 7 ∷ [] }
unfolding computes day_computes p q day day_numbers
call-0 C h = (h day day_numbers 3 built-day (text "0") out (1 ∷ 3 ∷ [])).1 ((patient-call-exactly day day_numbers 3 built-day (text "0") out (1 ∷ 3 ∷ [])).0 refl)

call-10027 : (C : List ℕ → List ℕ → List ℕ → List ℕ → Call ℕ) → SaysPatientCallExactly C
    → C day (take 12 day_numbers) (text "10027") out ≡ record { answer = Ok 1; buffer = 2 ∷ 7 ∷ 7 ∷ [] }
unfolding computes day_computes p q day day_numbers
call-10027 C h = (h day day_numbers 3 built-day (text "10027") out (2 ∷ [])).1 ((patient-call-exactly day day_numbers 3 built-day (text "10027") out (2 ∷ [])).0 refl)

patient-call-exactly-not-same : (x : Call ℕ) → SaysPatientCallExactly (λ f index c out. x) → ⊥
patient-call-exactly-not-same x h =
    let e = sym (call-10027 (λ f index c out. x) h) ∙ call-0 (λ f index c out. x) h in
    let z : ◌≡◌ {A = ℕ} 1 2 = ap (λ (y : Call ℕ). made_count y.answer) e in
    omega arith

-- nor one that leaves every lent number as it was, whatever it answers
patient-call-exactly-not-idle : (a : List ℕ → List ℕ → List ℕ → List ℕ → Made) → SaysPatientCallExactly (λ f index c out. record { answer = a f index c out; buffer = out }) → ⊥
patient-call-exactly-not-idle a h =
    let e = call-0 (λ f index c out. record { answer = a f index c out; buffer = out }) h in
    let z : ◌≡◌ {A = ℕ} 7 1 = ap (λ (y : Call ℕ). get_or y.buffer 0 0) e in
    omega arith

-- lookup-refused-with: nothing given
abbrev SaysLookupRefusedWith : Finder → Type 0
SaysLookupRefusedWith lookup = (f : List ℕ) (es : List DayEntry) (c : List ℕ) (room : ℕ) (r : Refusal) → (lookup f es c room ≡ refused r) ↔ LookupRefused f es c room r

lookup-refused-with-says : SaysLookupRefusedWith lookup
lookup-refused-with-says = lookup-refused-with

lookup-refused-with-not-refusing : (r : List ℕ → List DayEntry → List ℕ → ℕ → Refusal) → SaysLookupRefusedWith (λ f es c room. refused (r f es c room)) → ⊥
lookup-refused-with-not-refusing r h =
    let x : Refusal = r day day_index (text "0") 8 in
    refused-done (sym ((lookup-refused-with day day_index (text "0") 8 x).1 ((h day day_index (text "0") 8 x).0 refl)) ∙ lookup-0)

lookup-refused-with-at : (F : Finder) → SaysLookupRefusedWith F → F day day_index (text "0") 1 ≡ refused (refusal 22 2 0)
lookup-refused-with-at F h = (h day day_index (text "0") 1 (refusal 22 2 0)).1 ((lookup-refused-with day day_index (text "0") 1 (refusal 22 2 0)).0 lookup-0-in-1)

lookup-refused-with-not-same : (a : Reply (List ℕ)) → SaysLookupRefusedWith (λ f es c room. a) → ⊥
lookup-refused-with-not-same (refused r) h = lookup-refused-with-not-refusing (λ f es c room. r) h
lookup-refused-with-not-same (done ns) h = refused-done (sym (lookup-refused-with-at (λ f es c room. done ns) h))

lookup-refused-with-not-one-number : SaysLookupRefusedWith (λ f es c room. by_one (lookup f es c room)) → ⊥
lookup-refused-with-not-one-number h =
    let e = sym (ap by_one lookup-0-in-1) ∙ lookup-refused-with-at (λ f es c room. by_one (lookup f es c room)) h in
    let z : ◌≡◌ {A = ℕ} 1 22 = ap (λ (y : Refusal). y.no) (refused-same e) in
    omega arith

-- nor one that does not say the need
lookup-refused-with-not-at-zero : SaysLookupRefusedWith (λ f es c room. at_zero (lookup f es c room)) → ⊥
lookup-refused-with-not-at-zero h =
    let e = sym (ap at_zero lookup-0-in-1) ∙ lookup-refused-with-at (λ f es c room. at_zero (lookup f es c room)) h in
    let z : ◌≡◌ {A = ℕ} 0 2 = ap (λ (y : Refusal). y.place) (refused-same e) in
    omega arith

-- ---- matched exactly

-- match-exact: given an index that was built
abbrev SaysMatchExact : (List ℕ → List ℕ → DayEntry → Bool) → Type 0
SaysMatchExact matches =
    (f : List ℕ) (room : ℕ) (es : List DayEntry) → build f room ≡ done es → (k : ℕ) (none : DayEntry) → k < length es
    → (fs : List Field) → read (part_of f (get_or es k none)) ≡ done (parsed fs []) → (c : List ℕ) → (matches f c (get_or es k none) ≡ true) ↔ (c ≡ patient_of fs)

match-exact-says : SaysMatchExact matches
match-exact-says = match-exact

-- what it asks of the one entry of P: it matches 0 and nothing else
patient-p : (M : List ℕ → List ℕ → DayEntry → Bool) → SaysMatchExact M → (c : List ℕ) → (M p c (entry 0 51 48) ≡ true) ↔ (c ≡ text "0")
unfolding computes day_computes p p_lines
patient-p M h c = h p 8 p_index build-p 0 no_entry (omega arith) p_lines refl c

match-exact-not-same : (b : Bool) → SaysMatchExact (λ f c e. b) → ⊥
match-exact-not-same true h = let z : ◌≡◌ {A = ℕ} 0 1 = ap length ((patient-p (λ f c e. true) h []).0 refl) in omega arith
match-exact-not-same false h = true≢false (sym ((patient-p (λ f c e. false) h (text "0")).1 refl))

-- ---- the numbers of refusals

-- build-numbers, append-numbers, lookup-numbers: nothing given
abbrev SaysDayNumbers : Builder → Appender → Finder → Type 0
SaysDayNumbers build append lookup =
    ((f : List ℕ) (room : ℕ) → Numbered (OneOf build_numbers) (build f room))
    × ((f : List ℕ) (old : ℕ) (lent : List DayEntry) (n : ℕ) → Numbered (OneOf append_numbers) (append f old lent n))
    × ((f : List ℕ) (es : List DayEntry) (c : List ℕ) (room : ℕ) → Numbered (OneOf lookup_numbers) (lookup f es c room))

day-numbers-say : SaysDayNumbers build append lookup
day-numbers-say = (build-numbers, append-numbers, lookup-numbers)

-- Functions that refuse all by 22 meet them, and so do those that always do the same. Shut out by the exact theorems above.
day-numbers-met-by-refusing : SaysDayNumbers (λ f room. refused (refusal 22 0 0)) (λ f old lent n. refused (refusal 22 0 0)) (λ f es c room. refused (refusal 22 0 0))
unfolding computes
day-numbers-met-by-refusing = (λ f room. refl, λ f old lent n. refl, λ f es c room. refl)

day-numbers-met-by-same : (es ds : List DayEntry) (ns : List ℕ) → SaysDayNumbers (λ f room. done es) (λ f old lent n. done ds) (λ f es c room. done ns)
day-numbers-met-by-same es ds ns = (λ f room. tt, λ f old lent n. tt, λ f es c room. tt)

-- What they shut out is another number: 1 from building, 19 from appending, 23 from a lookup.
day-numbers-not-1 : SaysDayNumbers (λ f room. refused (refusal 1 0 0)) append lookup → ⊥
unfolding computes
day-numbers-not-1 h = true≢false (sym (h.0 [] 0))

day-numbers-not-19 : SaysDayNumbers build (λ f old lent n. refused (refusal 19 0 0)) lookup → ⊥
unfolding computes
day-numbers-not-19 h = true≢false (sym (h.1 [] 0 [] 0))

day-numbers-not-23 : SaysDayNumbers build append (λ f es c room. refused (refusal 23 0 0)) → ⊥
unfolding computes
day-numbers-not-23 h = true≢false (sym (h.2 [] [] [] 0))
