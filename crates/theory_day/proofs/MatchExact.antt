-- The request's sentence on lookup: of an index that was built, exactly the sets are found whose 3000 content is the asked bytes, each once, in file order (`patient-found-exactly`).
-- It rests on `match-exact` (LookupLaws of crate `meaning_day`): a built entry matches exactly if the asked bytes are the content of its set's line with label 3000.
use mathlib.Core.Path.{◌≡◌, refl, sym, ap, ◌∙◌, subst}
use mathlib.Core.Bool.{true}
use mathlib.Core.List.{List, [], ◌++◌, append-nil}
use mathlib.Core.Logic.{◌↔◌}
use Prim.Native.Nat.{ℕ, ◌*◌, ◌≤◌, ◌<◌}
use lib.ListN.{length, take, drop}
use lib.Seq.{take_at}
use Rattle.meaning.specs.Field.{Field, label_at_line, content_at_line}
use Rattle.meaning.specs.Refusals.{Reply, refused, done}
use Rattle.meaning.specs.Pieces.{parsed}
use Rattle.meaning.specs.Reading.{read}
use Rattle.meaning.specs.Answers.{Call, made, entries_left}
use Rattle.meaning.proofs.AnswerLaws.{refused-made, made-same}
use Rattle.meaning.proofs.SetLaws.{accepted}
use Rattle.keeps.proofs.Exact.{accepted-keeps}
use Rattle.meaning_day.specs.declared.DayEntry.{DayEntry}
use Rattle.meaning_day.specs.Days.{patient_label, lines_before, build, matches, lookup}
use Rattle.meaning_day.specs.DayCalls.{columns, entries_in, lookup_call}
use Rattle.meaning_day.proofs.ColumnLaws.{entries-columns}
use Rattle.meaning_day.proofs.AppendLaws.{Built, built-entries}
use Rattle.meaning_day.proofs.PatientLaws.{patient-there}
use Rattle.meaning_day.proofs.BuiltLaws.{part_of}
use Rattle.meaning_day.proofs.LookupLaws.{match-exact}
use Rattle.theory_day.specs.DayRules.{no_entry, entry_at, SetOf, MatchNumber, Finds, PatientIs, PatientNumber, FindsPatient}
use Rattle.theory_day.proofs.SetInFile.{one-patient-line, part-read}
use Rattle.theory_day.proofs.BuildExact.{built-exactly}
use Rattle.theory_day.proofs.LookupExact.{matches-exactly, found-exactly}
use Rattle.std.specs.Prelude.{Ok}

-- ---- an entry of an index that was built

module _ (f : List ℕ) (room : ℕ) (es : List DayEntry) (b : build f room ≡ done es) (k : ℕ) (l : k < length es) where
  abbrev entry : DayEntry
  entry = entry_at es k

  -- It matches exactly the content of a line of its set that has label 3000: fs are the lines that are read in the bytes of the file that the entry names. There is one such line, not
  -- more (`one-patient-line`).
  pub match-line-exactly : (fs : List Field) → read (part_of f entry) ≡ done (parsed fs []) → (j : ℕ) → j < length fs → label_at_line fs j ≡ 3000
      → (c : List ℕ) → (matches f c entry ≡ true) ↔ (c ≡ content_at_line fs j)
  match-line-exactly fs q j h e c =
      let x = accepted-keeps (part_of f entry) (parsed fs []) q in
      let there = patient-there fs (accepted (part_of f entry) (parsed fs []) q).standing.right in
      let line : lines_before patient_label fs ≡ j = one-patient-line x.0 fs x.1.rules (lines_before patient_label fs) j there.0 h there.1 e in
      subst (λ (i : ℕ). (matches f c entry ≡ true) ↔ (c ≡ content_at_line fs i)) line (match-exact f room es b k no_entry l fs q c)

  -- it says what a set at its offset is
  built-set : SetOf f entry
  built-set = ((built-exactly f room es).0 b).all-sets.each k l

  -- it matches exactly the 3000 content of its set, in the words of DayRules
  pub match-patient-exactly : (c : List ℕ) → (matches f c entry ≡ true) ↔ PatientIs f entry c
  match-patient-exactly c = (λ m. record { its-set = built-set; content-is = (content built-set).0 m }, λ p. (content p.its-set).1 p.content-is)
    where
      content : (x : SetOf f entry) → (matches f c entry ≡ true) ↔ (c ≡ content_at_line x.lines x.patient-line)
      content x = match-line-exactly x.lines (part-read f entry x) x.patient-line x.a-line x.label-is c

-- ---- the sets of a patient

-- Of an index that was built, these numbers are answered exactly if they are those of the sets whose 3000 content is the asked bytes, and of no others, each once, in file order, and
-- there is room for them.
pub patient-found-exactly : (f : List ℕ) (entries : ℕ) (es : List DayEntry) → build f entries ≡ done es
    → (c : List ℕ) (room : ℕ) (ns : List ℕ) → (lookup f es c room ≡ done ns) ↔ (FindsPatient f es c ns × (length ns ≤ room))
patient-found-exactly f entries es b c room ns = (to, from)
  where
    patient : (n : ℕ) → MatchNumber f c es n → PatientNumber f c es n
    patient n (k, p, l, m) = (k, p, l, (match-patient-exactly f entries es b k l c).0 ((matches-exactly f c (entry_at es k)).1 m))

    matching : (n : ℕ) → PatientNumber f c es n → MatchNumber f c es n
    matching n (k, p, l, m) = (k, p, l, (matches-exactly f c (entry_at es k)).0 ((match-patient-exactly f entries es b k l c).1 m))

    to : lookup f es c room ≡ done ns → FindsPatient f es c ns × (length ns ≤ room)
    to e =
        let x = (found-exactly f es c room ns).0 e in
        let g : Finds f es c ns = x.0 in
        (record { all-and-only = λ n. (λ a. patient n ((g.all-and-only n).0 a), λ p. (g.all-and-only n).1 (matching n p)); ascending = g.ascending }, x.1)

    from : FindsPatient f es c ns × (length ns ≤ room) → lookup f es c room ≡ done ns
    from x =
        let g : FindsPatient f es c ns = x.0 in
        (found-exactly f es c room ns).1
        (record { all-and-only = λ n. (λ a. matching n ((g.all-and-only n).0 a), λ m. (g.all-and-only n).1 (patient n m)); ascending = g.ascending }, x.1)

-- ---- the same on calls

-- a reply that was made into a call is that of these numbers exactly if the call answers how many they are, and they stand at the front of what was lent
call-is : (y : Reply (List ℕ)) (out ns : List ℕ)
    → (◌≡◌ {A = Call ℕ} (record { answer = made y; buffer = entries_left y out }) (record { answer = Ok (length ns); buffer = ns ++ drop (length ns) out })) ↔ (y ≡ done ns)
call-is y out ns = (to y, λ e. ap (λ (z : Reply (List ℕ)). record { answer = made z; buffer = entries_left z out }) e)
  where
    to : (z : Reply (List ℕ)) → ◌≡◌ {A = Call ℕ} (record { answer = made z; buffer = entries_left z out }) (record { answer = Ok (length ns); buffer = ns ++ drop (length ns) out })
        → z ≡ done ns
    to (refused r) e = refused-made (ap (λ (x : Call ℕ). x.answer) e)
    to (done ms) e =
        let n : length ms ≡ length ns = made-same (ap (λ (x : Call ℕ). x.answer) e) in
        let q : ms ++ drop (length ms) out ≡ ns ++ drop (length ns) out = ap (λ (x : Call ℕ). x.buffer) e in
        ap done (sym (take_at ms (drop (length ms) out) (length ns) n) ∙ (ap (take (length ns)) q ∙ take_at ns (drop (length ns) out) (length ns) refl))

-- the entries that stand at the front of the lent numbers after building are those that were built
front-built : (f index : List ℕ) (n : ℕ) → Built f index n → (room : ℕ) × (build f room ≡ done (entries_in (take (n * 4) index)))
unfolding entries_in
front-built f index n b =
    let y = built-entries f index n b in
    let es : List DayEntry = y.1 in
    let e : entries_in (take (n * 4) index) ≡ es = ap entries_in (y.5 ∙ sym (append-nil (columns es))) ∙ (entries-columns es [] ∙ append-nil es) in
    (y.0, y.2 ∙ ap done (sym e))

-- THE REQUEST'S SENTENCE, on calls: "Lookup answers all sets whose 3000 content has the same bytes, each once, in file order." The numbers that are lent start with an index of the file
-- with n sets, by building, or by appending after building (`append-stays-built` in AppendLaws of crate `meaning_day`), and a lookup is given the numbers of these n entries. It answers
-- how many numbers it found, and they stand at the front of what was lent for them, exactly if they are those of the sets whose 3000 content is the asked bytes, and of no others,
-- ascending, and there is room for them.
pub patient-call-exactly : (f index : List ℕ) (n : ℕ) → Built f index n → (c out ns : List ℕ)
    → (lookup_call f (take (n * 4) index) c out ≡ record { answer = Ok (length ns); buffer = ns ++ drop (length ns) out })
    ↔ (FindsPatient f (entries_in (take (n * 4) index)) c ns × (length ns ≤ length out))
patient-call-exactly f index n b c out ns =
    let es : List DayEntry = entries_in (take (n * 4) index) in
    let x = call-is (lookup f es c (length out)) out ns in
    let r = front-built f index n b in
    let y = patient-found-exactly f r.0 es r.1 c (length out) ns in
    (λ e. y.0 (x.0 e), λ p. x.1 (y.1 p))
