-- Appending gives just what building afresh gives: the same answer, and the same in every lent number.
--
-- f is the old file, s what was appended to it, so f ++ s is the file that both calls are given. "The old index was built" is said in one of two ways: on replies, `build f room`
-- is done, with any room, and its entries are the first of those lent; on calls, `build_call f b` with any lent numbers b answered a count, and the numbers of that many entries
-- stand at the front of those lent now.
use mathlib.Core.Path.{◌≡◌, refl, sym, ap, ap₂, ◌∙◌}
use mathlib.Core.Bool.{Bool, true, false, true≢false}
use mathlib.Core.List.{List, [], ◌∷◌, ◌++◌, cons≢nil}
use Prim.Native.Nat.{ℕ, zero, suc, ◌+◌, ◌-◌, ◌*◌, ◌≤◌, ◌<◌}
use native.Mathlib.Omega.{arith}
use lib.Dec.{leb}
use lib.ListN.{length, take, drop, length-append, take-append-drop}
use lib.Seq.{drop-append_seam, take_at, length-take-le}
use borrow.Author.Tests.{leb-true, leb-false, le-leb}
use Rattle.meaning.specs.declared.Refusal.{Refusal}
use Rattle.meaning.specs.declared.Shape.{Shape}
use Rattle.meaning.specs.Field.{Field, is_nil}
use Rattle.meaning.specs.Refusals.{Reply, refused, done, then_to, refusal, with_room, too_many_sets}
use Rattle.meaning.specs.Pieces.{Parsed, parsed}
use Rattle.meaning.specs.Lines.{size, starts_set, set_over}
use Rattle.meaning.specs.Reading.{shape, read, judge}
use Rattle.meaning.specs.Answers.{Call, made}
use Rattle.meaning.proofs.Bools.{none-of-length}
use Rattle.meaning.proofs.FaultLaws.{refused-done, done-same, then_to-done}
use Rattle.meaning.proofs.Demands.{judge-read, read-judge}
use Rattle.meaning_day.specs.declared.DayEntry.{DayEntry}
use Rattle.meaning_day.specs.Days.{max_sets, day_entry, placed, must, sets_from, build, append}
use Rattle.meaning_day.specs.DayCalls.{columns, entries_in, index_left, build_call, append_call}
use Rattle.meaning_day.proofs.ColumnLaws.{length-columns}
use Rattle.meaning_day.proofs.DayLaws.{accepted-starts, starts-over, starts-some, read_length, no-sets, set_before, set-refused, set-too-many, sets-joined}
use Rattle.meaning_day.proofs.DayLaws.{no_more, first-set, built-sets, append_set, append-only}
use Rattle.meaning_day.proofs.GrownLaws.{sets-grown}
use Rattle.meaning_day.proofs.DayDemands.{front-columns, done-build, done-append}
use Rattle.std.specs.Prelude.{Ok}

-- ---- one accepted set, to its last byte

-- s is one accepted set: judged by itself, and its length is that of s
pub record OneSet (s : List ℕ) : Type 0 where
  pub shape_of : Shape
  pub is-accepted : judge s ≡ Ok shape_of
  pub whole_length : shape_of.length ≡ length s

-- then its lines are read, and nothing after them
pub one-set-read : (s : List ℕ) → OneSet s → (fs : List Field) × (read s ≡ done (parsed fs []))
one-set-read s o =
    let y = judge-read s o.shape_of o.is-accepted in
    let fs : List Field = y.0.fields in
    let n : size fs ≡ length s = ap (λ (x : Shape). x.length) (sym y.2) ∙ o.whole_length in
    let t : y.0.rest ≡ [] = none-of-length y.0.rest (omega (arith, read_length s y.0 y.1)) in
    (fs, y.1 ∙ ap (λ (u : List ℕ). done (parsed fs u)) t)

-- and the other way
pub read-one-set : (s : List ℕ) (fs : List Field) → read s ≡ done (parsed fs []) → OneSet s
read-one-set s fs e = record { shape_of = shape fs; is-accepted = read-judge s (parsed fs []) e; whole_length = omega (arith, read_length s (parsed fs []) e) }

-- ---- what both make of the file f ++ s

-- the reply for a set with these lines at offset old, after the entries es, with this many lent
abbrev one_more : ℕ → List Field → List DayEntry → ℕ → ℕ → Reply (List DayEntry)
one_more old fs es count room =
    must (leb (count + 1) max_sets) too_many_sets old (with_room (leb (count + 1) room) (count + 1) (es ++ (day_entry old fs ∷ [])))

-- appending reads s by itself
append-after : (f s : List ℕ) (lent : List DayEntry) (count : ℕ)
    → append (f ++ s) (length f) lent count ≡ then_to (placed (length f) (read s)) (append_set (length f) lent count)
unfolding append
append-after f s lent count =
    let h : length f ≤ length (f ++ s) = omega (arith, length-append f s) in
    rw (le-leb (length f) (length (f ++ s)) h, drop-append_seam f s)

append-one : (f s : List ℕ) (lent : List DayEntry) (count : ℕ) (fs : List Field) → read s ≡ done (parsed fs [])
    → append (f ++ s) (length f) lent count ≡ one_more (length f) fs (take count lent) count (length lent)
append-one f s lent count fs e = append-after f s lent count ∙ rw e

-- and so does building, if a set starts at s
build-joined : (f s : List ℕ) (es : List DayEntry) → sets_from max_sets 0 f ≡ done es → starts_set s ≡ true
    → sets_from max_sets 0 (f ++ s) ≡ then_to (sets_from (max_sets - length es) (length f) s) (λ xs. done (es ++ xs))
build-joined f s es h st =
    let z : 0 + length f ≡ length f = omega arith in
    rw z at (sets-joined max_sets 0 f s es h (starts-over s st))

pub build-one : (f s : List ℕ) (room : ℕ) (es : List DayEntry) (fs : List Field) → sets_from max_sets 0 f ≡ done es → read s ≡ done (parsed fs [])
    → build (f ++ s) room ≡ one_more (length f) fs es (length es) room
unfolding build
build-one f s room es fs h e = go (leb (length es + 1) max_sets) refl
  where
    joined : sets_from max_sets 0 (f ++ s) ≡ then_to (sets_from (max_sets - length es) (length f) s) (λ xs. done (es ++ xs))
    joined = build-joined f s es h (accepted-starts s (parsed fs []) e)

    go : (b : Bool) → leb (length es + 1) max_sets ≡ b
        → then_to (sets_from max_sets 0 (f ++ s)) (λ xs. with_room (leb (length xs) room) (length xs) xs)
        ≡ must b too_many_sets (length f) (with_room (leb (length es + 1) room) (length es + 1) (es ++ (day_entry (length f) fs ∷ [])))
    go true q =
        let k : max_sets - length es ≡ suc (max_sets - (length es + 1)) = omega (arith, leb-true (length es + 1) max_sets q) in
        let one : sets_from (suc (max_sets - (length es + 1))) (length f) s ≡ done (day_entry (length f) fs ∷ []) =
        set_before (max_sets - (length es + 1)) (length f) s (parsed fs []) e ∙ rw (no-sets (max_sets - (length es + 1)) (length f + size fs)) in
        rw (joined, k, one, length-append es (day_entry (length f) fs ∷ []))
    go false q =
        let k : max_sets - length es ≡ 0 = omega (arith, leb-false (length es + 1) max_sets q) in
        rw (joined, k, set-too-many (length f) s (parsed fs []) e)

-- ---- appending is building

-- entries that are only put in front if there is room for one more
same-if-room : (old : ℕ) (fs : List Field) (xs es : List DayEntry) (count room : ℕ) → (count < room → xs ≡ es) → one_more old fs xs count room ≡ one_more old fs es count room
same-if-room old fs xs es count room h = ap (must (leb (count + 1) max_sets) too_many_sets old) (go (leb (count + 1) room) refl)
  where
    go : (b : Bool) → leb (count + 1) room ≡ b
        → with_room b (count + 1) (xs ++ (day_entry old fs ∷ [])) ≡ with_room b (count + 1) (es ++ (day_entry old fs ∷ []))
    go true q = ap (λ (ys : List DayEntry). done (ys ++ (day_entry old fs ∷ []))) (h (omega (arith, leb-true (count + 1) room q)))
    go false q = refl

-- THE THEOREM, on replies: of a file f of which es is the index, and one accepted set s after it, appending makes what building afresh makes of f ++ s, also if both are refused by
-- 23 or 22. The first of the lent entries are es, whatever stands after them; that is asked only if there is room for one more. Both read s by itself: appending as it says,
-- building by the boundary law (`sets-joined`), since an accepted set starts one.
pub append-as-built : (f s : List ℕ) (room : ℕ) (es lent : List DayEntry) → build f room ≡ done es → (length es < length lent → take (length es) lent ≡ es) → OneSet s
    → append (f ++ s) (length f) lent (length es) ≡ build (f ++ s) (length lent)
append-as-built f s room es lent h front o =
    let y = one-set-read s o in
    append-one f s lent (length es) y.0 y.1
    ∙ (same-if-room (length f) y.0 (take (length es) lent) es (length es) (length lent) front
    ∙ sym (build-one f s (length lent) es y.0 (built-sets f room es h).0 y.1))

-- Refused alike (E1a): bytes that start a set, bytes four to seven 8000, and are refused by themselves are refused by both with the same number, label and place in the file,
-- whatever the count and the room are. Bytes that do not start a set may be refused otherwise by building: to it they are no new set, but more lines of the last set of f, which
-- then has a fault of its own, such as a wrong sum. If no bytes were appended, building refuses nothing, and appending by 1 (E1e).
pub refused-alike : (f s : List ℕ) (room room' : ℕ) (es lent : List DayEntry) (count : ℕ) (r : Refusal) → build f room ≡ done es → starts_set s ≡ true → read s ≡ refused r
    → (append (f ++ s) (length f) lent count ≡ refused (refusal r.no (length f + r.place) r.label))
    × (build (f ++ s) room' ≡ refused (refusal r.no (length f + r.place) r.label))
unfolding build
refused-alike f s room room' es lent count r h st e =
    let one : sets_from (max_sets - length es) (length f) s ≡ refused (refusal r.no (length f + r.place) r.label) =
    set-refused (max_sets - length es) (length f) s r (starts-some s st) e in
    (append-after f s lent count ∙ rw e, rw (build-joined f s es (built-sets f room es h).0 st, one))

-- bytes that are refused by themselves are refused by building, too, if they are any: alike if they start a set, and else as a fault of the set that they are joined to
pub refused-by-both : (f s : List ℕ) (room room' : ℕ) (es : List DayEntry) (r : Refusal) → build f room ≡ done es → is_nil s ≡ false → read s ≡ refused r
    → (q : Refusal) × (build (f ++ s) room' ≡ refused q)
unfolding build
refused-by-both f s room room' es r h some e = go (starts_set s) refl
  where
    go : (b : Bool) → starts_set s ≡ b → (q : Refusal) × (then_to (sets_from max_sets 0 (f ++ s)) (λ xs. with_room (leb (length xs) room') (length xs) xs) ≡ refused q)
    go true st = (refusal r.no (length f + r.place) r.label, (refused-alike f s room room' es [] 0 r h st e).1)
    go false st =
        let o : set_over s ≡ false = rw (some, st) in
        let g = sets-grown max_sets 0 f s es r (built-sets f room es h).0 o e in
        (g.0, rw g.1)

-- So whatever starts a set, and holds no second one if it is accepted, is appended or refused just as building does it.
pub append-alike : (f s : List ℕ) (room : ℕ) (es lent : List DayEntry) → build f room ≡ done es → (length es < length lent → take (length es) lent ≡ es) → starts_set s ≡ true
    → ((x : Shape) → judge s ≡ Ok x → x.length ≡ length s)
    → append (f ++ s) (length f) lent (length es) ≡ build (f ++ s) (length lent)
append-alike f s room es lent h front st alone = go (read s) refl
  where
    go : (r : Reply Parsed) → read s ≡ r → append (f ++ s) (length f) lent (length es) ≡ build (f ++ s) (length lent)
    go (refused r) e = let z = refused-alike f s room (length lent) es lent (length es) r h st e in z.0 ∙ sym z.1
    go (done d) e =
        let j : judge s ≡ Ok (shape d.fields) = read-judge s d e in
        append-as-built f s room es lent h front (record { shape_of = shape d.fields; is-accepted = j; whole_length = alone (shape d.fields) j })

-- ---- the same on calls

-- The numbers lent now start with an index of f with n sets: `build_call`, with any lent numbers, answered n, and those of n entries stand at the front.
pub record Built (f index : List ℕ) (n : ℕ) : Type 0 where
  pub lent : List ℕ
  pub answered : (build_call f lent).answer ≡ Ok n
  pub front : take (n * 4) index ≡ take (n * 4) (build_call f lent).buffer

-- as they do after building
pub built-by-call : (f b : List ℕ) (n : ℕ) → (build_call f b).answer ≡ Ok n → Built f (build_call f b).buffer n
built-by-call f b n e = record { lent = b; answered = e; front = refl }

-- then the entries are there, and the numbers at the front are theirs
pub built-entries : (f index : List ℕ) (n : ℕ) → Built f index n
    → (room : ℕ) × (es : List DayEntry) × (build f room ≡ done es) × (length es ≡ n) × (take (length es) (entries_in index) ≡ es) × (take (n * 4) index ≡ columns es)
built-entries f index n b =
    let m = done-build f b.lent n b.answered in
    let es : List DayEntry = m.entries in
    let l : length (columns es) ≡ n * 4 = length-columns es ∙ ap (λ (k : ℕ). k * 4) m.so-many in
    let t : take (n * 4) index ≡ columns es = b.front ∙ (ap (take (n * 4)) m.left ∙ take_at (columns es) (drop (n * 4) b.lent) (n * 4) l) in
    let w : index ≡ columns es ++ drop (n * 4) index = sym (take-append-drop (n * 4) index) ∙ ap (λ (ns : List ℕ). ns ++ drop (n * 4) index) t in
    (length (entries_in b.lent), es, m.is-done, m.so-many, ap (λ (ns : List ℕ). take (length es) (entries_in ns)) w ∙ front-columns es (drop (n * 4) index), t)

-- a call that makes an index: its answer and every number
call_of : List ℕ → Reply (List DayEntry) → Call ℕ
call_of index x = record { answer = made x; buffer = index_left x index }

-- THE THEOREM, on calls: answer and every lent number, also if both are refused by 23 or 22
pub append-call-as-built : (f s index : List ℕ) (n : ℕ) → Built f index n → OneSet s → append_call (f ++ s) (length f) index n ≡ build_call (f ++ s) index
unfolding call_of
append-call-as-built f s index n b o =
    let y = built-entries f index n b in
    let e : append (f ++ s) (length f) (entries_in index) (length y.1) ≡ build (f ++ s) (length (entries_in index)) =
    append-as-built f s y.0 y.1 (entries_in index) y.2 (λ h. y.4) o in
    ap (λ (k : ℕ). append_call (f ++ s) (length f) index k) (sym y.3) ∙ ap (call_of index) e

-- ---- the other way: only one accepted set is ever appended

pub append-takes-one-set : (f : List ℕ) (old : ℕ) (lent : List DayEntry) (count : ℕ) (xs : List DayEntry) → append f old lent count ≡ done xs → OneSet (drop old f)
append-takes-one-set f old lent count xs e = let a = append-only f old lent count xs e in read-one-set (drop old f) a.lines a.was_read

pub append-takes-joined : (f s : List ℕ) (lent : List DayEntry) (count : ℕ) (xs : List DayEntry) → append (f ++ s) (length f) lent count ≡ done xs → OneSet s
append-takes-joined f s lent count xs e = rw (drop-append_seam f s) at (append-takes-one-set (f ++ s) (length f) lent count xs e)

-- So an append that is done is always what building gives, answer and every number, if the old index was built: here for a file f of which the first `old` bytes are the old file.
pub append-call-done-as-built : (f : List ℕ) (old : ℕ) (index : List ℕ) (n m : ℕ) → Built (take old f) index n → (append_call f old index n).answer ≡ Ok m
    → append_call f old index n ≡ build_call f index
append-call-done-as-built f old index n m b e =
    let a = done-append f old index n m e in
    let w : take old f ++ drop old f ≡ f = take-append-drop old f in
    let l : length (take old f) ≡ old = length-take-le old f a.within in
    sym (ap₂ (λ (g : List ℕ) (k : ℕ). append_call g k index n) w l)
    ∙ (append-call-as-built (take old f) (drop old f) index n b (read-one-set (drop old f) a.lines a.was_read) ∙ ap (λ (g : List ℕ). build_call g index) w)

-- The numbers after it start with an index of the whole file. So it may go on: an index that was built once and then appended to, set after set, is always that of the file.
pub append-stays-built : (f : List ℕ) (old : ℕ) (index : List ℕ) (n m : ℕ) → Built (take old f) index n → (append_call f old index n).answer ≡ Ok m
    → Built f (append_call f old index n).buffer m
append-stays-built f old index n m b e =
    let same = append-call-done-as-built f old index n m b e in
    record { lent = index; answered = sym (ap (λ (x : Call ℕ). x.answer) same) ∙ e; front = ap (λ (x : Call ℕ). take (m * 4) x.buffer) same }

-- and it may start from a file of no bytes, with any lent numbers and a count of 0
pub built-empty : (index : List ℕ) → Built [] index 0
unfolding build entries_in
built-empty index = record { lent = []; answered = rw (no-sets max_sets 0); front = refl }

-- ---- exactly

no-entries : (n at : ℕ) (t : List ℕ) → sets_from n at t ≡ done [] → t ≡ []
no-entries n at [] h = refl
no-entries zero at (b ∷ t) h = no_more at b t [] h
no-entries (suc n) at (b ∷ t) h = absurd (cons≢nil (sym (first-set n at b t [] h).all))

-- bytes of which one entry is made are one accepted set
one_entry : (n at : ℕ) (s : List ℕ) (es : List DayEntry) → sets_from n at s ≡ done es → length es ≡ 1 → OneSet s
one_entry zero at [] es h l = let e : [] ≡ es = done-same (sym (no-sets zero at) ∙ h) in absurd (omega (arith, ap length e))
one_entry zero at (b ∷ s) es h l = no_more at b s es h
one_entry (suc n) at [] es h l = let e : [] ≡ es = done-same (sym (no-sets (suc n) at) ∙ h) in absurd (omega (arith, ap length e))
one_entry (suc n) at (b ∷ s) es h l =
    let r = first-set n at b s es h in
    let fs : List Field = r.what.fields in
    let o : r.others ≡ [] = none-of-length r.others (omega (arith, ap length r.all)) in
    let t : r.what.rest ≡ [] = no-entries n (at + size fs) r.what.rest (r.after-it ∙ ap done o) in
    read-one-set (b ∷ s) fs (r.was_read ∙ ap (λ (u : List ℕ). done (parsed fs u)) t)

-- if building gives one entry more with s than without, s is one accepted set
pub one-more-is-a-set : (f s : List ℕ) (room room' : ℕ) (es xs : List DayEntry) → build f room ≡ done es → build (f ++ s) room' ≡ done xs → length xs ≡ length es + 1 → OneSet s
one-more-is-a-set f s room room' es xs h k l = go (set_over s) refl
  where
    all : sets_from max_sets 0 f ≡ done es
    all = (built-sets f room es h).0

    longer : sets_from max_sets 0 (f ++ s) ≡ done xs
    longer = (built-sets (f ++ s) room' xs k).0

    not-read : (r : Reply Parsed) → read s ≡ r → set_over s ≡ false → OneSet s
    not-read (refused r) e o =
        let g = sets-grown max_sets 0 f s es r all o e in
        refused-done (sym g.1 ∙ longer)
    not-read (done d) e o = absurd (true≢false (sym (starts-over s (accepted-starts s d e)) ∙ o))

    go : (b : Bool) → set_over s ≡ b → OneSet s
    go true o =
        let y = then_to-done (sets_from (max_sets - length es) (0 + length f) s) (λ ys. done (es ++ ys)) xs (sym (sets-joined max_sets 0 f s es all o) ∙ longer) in
        let m : length es + length y.0 ≡ length xs = sym (length-append es y.0) ∙ ap length (done-same y.2) in
        one_entry (max_sets - length es) (0 + length f) s y.0 y.1 (omega arith)
    go false o = not-read (read s) refl o

-- Appending is done exactly if building gives one entry more than the old index has, and both make the same then.
pub append-exactly : (f s : List ℕ) (room : ℕ) (es lent xs : List DayEntry) → build f room ≡ done es → take (length es) lent ≡ es
    → (append (f ++ s) (length f) lent (length es) ≡ done xs → (build (f ++ s) (length lent) ≡ done xs) × (length xs ≡ length es + 1))
    × ((build (f ++ s) (length lent) ≡ done xs) × (length xs ≡ length es + 1) → append (f ++ s) (length f) lent (length es) ≡ done xs)
append-exactly f s room es lent xs h front = (there, back)
  where
    there : append (f ++ s) (length f) lent (length es) ≡ done xs → (build (f ++ s) (length lent) ≡ done xs) × (length xs ≡ length es + 1)
    there e =
        let a = append-only (f ++ s) (length f) lent (length es) xs e in
        let new : List DayEntry = day_entry (length f) a.lines ∷ [] in
        let m : length xs ≡ length es + 1 = ap length (a.made ∙ ap (λ (ys : List DayEntry). ys ++ new) front) ∙ length-append es new in
        (sym (append-as-built f s room es lent h (λ l. front) (append-takes-joined f s lent (length es) xs e)) ∙ e, m)

    back : (build (f ++ s) (length lent) ≡ done xs) × (length xs ≡ length es + 1) → append (f ++ s) (length f) lent (length es) ≡ done xs
    back b = append-as-built f s room es lent h (λ l. front) (one-more-is-a-set f s room (length lent) es xs h b.0 b.1) ∙ b.0
