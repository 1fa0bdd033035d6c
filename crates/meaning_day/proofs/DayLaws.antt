-- A file of sets, and bytes joined to it: an accepted set ends where it ended if another one starts there (E1f), so the sets of the longer file are those of the file and then
-- those of the bytes joined.
use mathlib.Core.Path.{◌≡◌, refl, sym, ap, ◌∙◌}
use mathlib.Core.Bool.{Bool, true, false, true≢false}
use mathlib.Core.List.{List, [], ◌∷◌, ◌++◌, append_assoc, cons≢nil}
use Prim.Native.Nat.{ℕ, zero, suc, ◌+◌, ◌-◌, ◌≤◌}
use native.Mathlib.Omega.{arith}
use lib.Dec.{leb}
use lib.ListN.{length, take, drop}
use lib.Seq.{drop_at}
use borrow.Author.Tests.{leb-true, le-leb, eq-eqb, ne_eqb}
use Rattle.meaning.specs.declared.Refusal.{Refusal}
use Rattle.meaning.specs.Field.{Field, is_nil}
use Rattle.meaning.specs.Refusals.{Reply, refused, done, then_to, refusal, with_room, bad_use, too_many_sets}
use Rattle.meaning.specs.Pieces.{Parsed, parsed}
use Rattle.meaning.specs.Lines.{line_then, size, render, starts_set, set_over}
use Rattle.meaning.specs.Rules.{start_faults}
use Rattle.meaning.specs.Reading.{read}
use Rattle.meaning.proofs.Bools.{and_right, and_both, or_right, nil_is, Every}
use Rattle.meaning.proofs.DigitLaws.{digits-all}
use Rattle.meaning.proofs.FaultLaws.{refused-done, done-same, then_to-done, with_room-done}
use Rattle.meaning.proofs.LineLaws.{Sound, label-line, long-line, length-render, render-split}
use Rattle.meaning.proofs.RuleLaws.{ruled, begins-of}
use Rattle.meaning.proofs.SetLaws.{Standing, accepted, read-render}
use Rattle.meaning_day.specs.declared.DayEntry.{DayEntry}
use Rattle.meaning_day.specs.Days.{max_sets, lines_before, day_entry, placed, must, sets_from, build, append}

-- ---- replies

-- what is made of a done reply, and then nothing more
pub then_same : {A : Type 0} (r : Reply A) → then_to r (λ a. done a) ≡ r
then_same (refused x) = refl
then_same (done a) = refl

-- what is made in two steps
pub then-twice : {A B C : Type 0} (r : Reply A) (j : A → B) (k : B → Reply C) → then_to (then_to r (λ a. done (j a))) k ≡ then_to r (λ a. k (j a))
then-twice (refused x) j k = refl
then-twice (done a) j k = refl

-- what was read is not changed by its place in the file
pub placed-done : (at : ℕ) (r : Reply Parsed) (d : Parsed) → placed at r ≡ done d → r ≡ done d
placed-done at (refused x) d e = refused-done e
placed-done at (done y) d e = e

-- ---- one set, with bytes after it

-- what stands after the lines may grow
render-longer : (fs : List Field) (t s : List ℕ) → render fs t ++ s ≡ render fs (t ++ s)
render-longer fs t s = rw (render-split fs t, append_assoc (render fs []) t s) (sym (render-split fs (t ++ s)))

-- and it is what stands after them
pub drop-lines : (fs : List Field) (t : List ℕ) → drop (size fs) (render fs t) ≡ t
drop-lines fs t = rw (render-split fs t) (drop_at (render fs []) t (size fs) (length-render fs [] ∙ omega arith))

-- an accepted set is read as before if bytes are joined after which it is over, too
pub read-longer : (x s : List ℕ) (d : Parsed) → read x ≡ done d → set_over (d.rest ++ s) ≡ true → read (x ++ s) ≡ done (parsed d.fields (d.rest ++ s))
read-longer x s d e h =
    let a = accepted x d e in
    ap (λ (y : List ℕ). read (y ++ s)) a.bytes ∙ (ap read (render-longer d.fields d.rest s) ∙ read-render d.fields (d.rest ++ s) a.standing h)

-- bytes that start a set still do with more after them
pub starts-longer : (t s : List ℕ) → starts_set t ≡ true → starts_set (t ++ s) ≡ true
starts-longer (a ∷ b ∷ c ∷ d ∷ e ∷ f ∷ g ∷ t) s h =
    and_both (le-leb 7 (length ((a ∷ b ∷ c ∷ d ∷ e ∷ f ∷ g ∷ t) ++ s)) (omega arith)) (and_right (leb 7 (length (a ∷ b ∷ c ∷ d ∷ e ∷ f ∷ g ∷ t))) _ h)
starts-longer [] s h = absurd (true≢false (sym h))
starts-longer (a ∷ []) s h = absurd (true≢false (sym h))
starts-longer (a ∷ b ∷ []) s h = absurd (true≢false (sym h))
starts-longer (a ∷ b ∷ c ∷ []) s h = absurd (true≢false (sym h))
starts-longer (a ∷ b ∷ c ∷ d ∷ []) s h = absurd (true≢false (sym h))
starts-longer (a ∷ b ∷ c ∷ d ∷ e ∷ []) s h = absurd (true≢false (sym h))
starts-longer (a ∷ b ∷ c ∷ d ∷ e ∷ f ∷ []) s h = absurd (true≢false (sym h))

-- a set that is over before t is over before t and s, if it would be over before s
pub over-longer : (t s : List ℕ) → set_over t ≡ true → set_over s ≡ true → set_over (t ++ s) ≡ true
over-longer [] s h k = k
over-longer (b ∷ t) s h k = starts-longer (b ∷ t) s h

-- a line 8000 starts a set
starts-line : (f : Field) (t : List ℕ) → Sound f → f.label ≡ 8000 → starts_set (line_then f t) ≡ true
starts-line f t h l = and_both
    (le-leb 7 (length (line_then f t)) (omega (arith, long-line f t h)))
    (and_both (digits-all 4 f.label) (eq-eqb _ 8000 (label-line f t h ∙ l)))

-- the lines of an accepted set start one
starts-render : (fs : List Field) (t : List ℕ) → Standing fs → starts_set (render fs t) ≡ true
unfolding start_faults
starts-render [] t h = absurd (cons≢nil (ruled [] h.right).0.begins)
starts-render (f ∷ fs) t h = starts-line f (render fs t) h.sound.0 (begins-of (f ∷ fs) (ruled (f ∷ fs) h.right).0.begins).first-label

-- an accepted set starts with bytes four to seven 8000: so the set before it ends there
pub accepted-starts : (s : List ℕ) (d : Parsed) → read s ≡ done d → starts_set s ≡ true
accepted-starts s d e =
    let a = accepted s d e in
    rw a.bytes (starts-render d.fields d.rest a.standing)

-- the set before bytes that start one is over there
pub starts-over : (s : List ℕ) → starts_set s ≡ true → set_over s ≡ true
starts-over s h = or_right (is_nil s) h

-- bytes that start a set are some
pub starts-some : (s : List ℕ) → starts_set s ≡ true → is_nil s ≡ false
starts-some [] h = absurd (true≢false (sym h))
starts-some (b ∷ s) h = refl

-- how many lines stand before the first one with a label: "all, if none has it"
pub lines-before-none : (l : ℕ) (fs : List Field) → Every (λ f. f.label ≡ l → ⊥) fs → lines_before l fs ≡ length fs
unfolding lines_before
lines-before-none l [] h = refl
lines-before-none l (f ∷ fs) h = rw (ne_eqb f.label l h.0) (ap suc (lines-before-none l fs h.1))

-- how many bytes were read: those of the lines, and those after them
pub read_length : (s : List ℕ) (d : Parsed) → read s ≡ done d → length s ≡ size d.fields + length d.rest
read_length s d e = ap length (accepted s d e).bytes ∙ length-render d.fields d.rest

-- ---- the sets of a file

-- "a file of no bytes has none"
pub no-sets : (n at : ℕ) → sets_from n at [] ≡ done []
unfolding sets_from
no-sets zero at = refl
no-sets (suc n) at = refl

-- if no set may come, some bytes are refused
pub no_more : (at b : ℕ) (s : List ℕ) (es : List DayEntry) {X : Type 0} → sets_from zero at (b ∷ s) ≡ done es → X
unfolding sets_from
no_more at b s es h = refused-done (then_to-done (placed at (read (b ∷ s))) (λ d. refused (refusal too_many_sets at 0)) es h).2

-- what was found, if all sets are accepted: a first set, and the sets after it
pub record FirstSet (n at : ℕ) (s : List ℕ) (es : List DayEntry) : Type 0 where
  pub what : Parsed
  pub others : List DayEntry
  pub was_read : read s ≡ done what
  pub after-it : sets_from n (at + size what.fields) what.rest ≡ done others
  pub all : es ≡ day_entry at what.fields ∷ others

pub first-set : (n at b : ℕ) (s : List ℕ) (es : List DayEntry) → sets_from (suc n) at (b ∷ s) ≡ done es → FirstSet n at (b ∷ s) es
unfolding sets_from
first-set n at b s es h =
    let after : Parsed → Reply (List DayEntry) = λ d. sets_from n (at + size d.fields) d.rest in
    let y = then_to-done (placed at (read (b ∷ s))) (λ d. then_to (after d) (λ xs. done (day_entry at d.fields ∷ xs))) es h in
    let w = then_to-done (after y.0) (λ xs. done (day_entry at y.0.fields ∷ xs)) es y.2 in
    record {
      what = y.0;
      others = w.0;
      was_read = placed-done at (read (b ∷ s)) y.0 y.1;
      after-it = w.1;
      all = sym (done-same w.2);
    }

-- and the other way: an accepted set comes before what is found after it, refused or not
pub set_before : (n at : ℕ) (s : List ℕ) (d : Parsed) → read s ≡ done d
    → sets_from (suc n) at s ≡ then_to (sets_from n (at + size d.fields) d.rest) (λ xs. done (day_entry at d.fields ∷ xs))
unfolding sets_from
set_before n at s d e = rw (starts-some s (accepted-starts s d e), e)

-- a set that is refused is refused at its place in the file, also if it is one too many (E1a)
pub set-refused : (n at : ℕ) (s : List ℕ) (r : Refusal) → is_nil s ≡ false → read s ≡ refused r → sets_from n at s ≡ refused (refusal r.no (at + r.place) r.label)
unfolding sets_from
set-refused zero at s r some e = rw (some, e)
set-refused (suc n) at s r some e = rw (some, e)

-- "TooManySets (23) at the 2,049th": an accepted set of which none may come
pub set-too-many : (at : ℕ) (s : List ℕ) (d : Parsed) → read s ≡ done d → sets_from zero at s ≡ refused (refusal too_many_sets at 0)
unfolding sets_from
set-too-many at s d e = rw (starts-some s (accepted-starts s d e), e)

-- at most as many sets as may come
pub sets-few : (n at : ℕ) (s : List ℕ) (es : List DayEntry) → sets_from n at s ≡ done es → length es ≤ n
sets-few zero at [] es h = let e : [] ≡ es = done-same (sym (no-sets zero at) ∙ h) in omega (arith, ap length e)
sets-few zero at (b ∷ s) es h = no_more at b s es h
sets-few (suc n) at [] es h = let e : [] ≡ es = done-same (sym (no-sets (suc n) at) ∙ h) in omega (arith, ap length e)
sets-few (suc n) at (b ∷ s) es h =
    let r = first-set n at b s es h in
    omega (arith, ap length r.all, sets-few n (at + size r.what.fields) r.what.rest r.others r.after-it)

-- ---- bytes joined to a file

-- to a file of no bytes
joined-none : (n at : ℕ) (s : List ℕ) (es : List DayEntry) → sets_from n at [] ≡ done es
    → sets_from n at s ≡ then_to (sets_from (n - length es) (at + length {A = ℕ} []) s) (λ xs. done (es ++ xs))
joined-none n at s es h =
    let e : [] ≡ es = done-same (sym (no-sets n at) ∙ h) in
    let p : n - 0 ≡ n = omega arith in
    let q : at + 0 ≡ at = omega arith in
    rw (← e, p, q) (sym (then_same (sets_from n at s)))

-- the same in other words
joined_same : {m n at k : ℕ} (s : List ℕ) (ys es : List DayEntry) → m ≡ n → at ≡ k → ys ≡ es
    → then_to (sets_from m at s) (λ xs. done (ys ++ xs)) ≡ then_to (sets_from n k s) (λ xs. done (es ++ xs))
joined_same s ys es p q r = rw (p, q, r)

-- The boundary law (E1f). If the sets of f are es, and a set starts at s or s is nothing, then what is found in f and s is es, and then what is found in s by itself, at its
-- place in the file and with as many sets as may still come; refused or not. Set after set of f: the last one ended at the end of f, and ends there still, since the bytes
-- after it start a set; each one before it is read as before in the same way.
pub sets-joined : (n at : ℕ) (f s : List ℕ) (es : List DayEntry) → sets_from n at f ≡ done es → set_over s ≡ true
    → sets_from n at (f ++ s) ≡ then_to (sets_from (n - length es) (at + length f) s) (λ xs. done (es ++ xs))
sets-joined zero at [] s es h o = joined-none zero at s es h
sets-joined zero at (b ∷ f) s es h o = no_more at b f es h
sets-joined (suc n) at [] s es h o = joined-none (suc n) at s es h
sets-joined (suc n) at (b ∷ f) s es h o =
    let r = first-set n at b f es h in
    let fs : List Field = r.what.fields in
    let t : List ℕ = r.what.rest in
    let e : DayEntry = day_entry at fs in
    let long : read ((b ∷ f) ++ s) ≡ done (parsed fs (t ++ s)) = read-longer (b ∷ f) s r.what r.was_read (over-longer t s (accepted (b ∷ f) r.what r.was_read).at-end o) in
    let ih : sets_from n (at + size fs) (t ++ s) ≡ then_to (sets_from (n - length r.others) (at + size fs + length t) s) (λ xs. done (r.others ++ xs)) =
    sets-joined n (at + size fs) t s r.others r.after-it o in
    let p : n - length r.others ≡ suc n - length es = omega (arith, ap length r.all) in
    let q : at + size fs + length t ≡ at + length (b ∷ f) = omega (arith, read_length (b ∷ f) r.what r.was_read) in
    set_before n at ((b ∷ f) ++ s) (parsed fs (t ++ s)) long
    ∙ (ap (λ (x : Reply (List DayEntry)). then_to x (λ xs. done (e ∷ xs))) ih
    ∙ (then-twice (sets_from (n - length r.others) (at + size fs + length t) s) (λ xs. r.others ++ xs) (λ xs. done (e ∷ xs))
    ∙ joined_same s (e ∷ r.others) es p q (sym r.all)))

-- ---- building and appending

-- what building found in the file: its sets, at most as many as there is room for
pub built-sets : (f : List ℕ) (room : ℕ) (es : List DayEntry) → build f room ≡ done es → (sets_from max_sets 0 f ≡ done es) × (length es ≤ room)
unfolding build
built-sets f room es e =
    let y = then_to-done (sets_from max_sets 0 f) (λ xs. with_room (leb (length xs) room) (length xs) xs) es e in
    let w = with_room-done (leb (length y.0) room) (length y.0) y.0 es y.2 in
    (y.1 ∙ ap done w.1, omega (arith, leb-true (length y.0) room w.0, ap length w.1))

-- "at most 2,048 sets"
pub built-few : (f : List ℕ) (room : ℕ) (es : List DayEntry) → build f room ≡ done es → length es ≤ max_sets
built-few f room es e = sets-few max_sets 0 f es (built-sets f room es e).0

-- a reply after a test is done only if the test holds
must-done : {A : Type 0} (t : Bool) (n p : ℕ) (k : Reply A) (a : A) → must t n p k ≡ done a → (t ≡ true) × (k ≡ done a)
must-done true n p k a e = (refl, e)
must-done false n p k a e = refused-done e

-- what is asked of the set that was read after the old file, and what is made then
abbrev pub append_set : ℕ → List DayEntry → ℕ → Parsed → Reply (List DayEntry)
append_set old lent count d =
    must (is_nil d.rest) bad_use (size d.fields)
    (must (leb (count + 1) max_sets) too_many_sets old (with_room (leb (count + 1) (length lent)) (count + 1) (take count lent ++ (day_entry old d.fields ∷ []))))

-- what an append that is done was given and made
pub record Appended (f : List ℕ) (old : ℕ) (lent : List DayEntry) (count : ℕ) (es : List DayEntry) : Type 0 where
  pub within : old ≤ length f
  pub lines : List Field
  pub was_read : read (drop old f) ≡ done (parsed lines [])
  pub few : count + 1 ≤ max_sets
  pub room : count + 1 ≤ length lent
  pub made : es ≡ take count lent ++ (day_entry old lines ∷ [])

-- an append that is done had no fault
pub append-only : (f : List ℕ) (old : ℕ) (lent : List DayEntry) (count : ℕ) (es : List DayEntry) → append f old lent count ≡ done es → Appended f old lent count es
unfolding append
append-only f old lent count es e =
    let a = must-done (leb old (length f)) bad_use (length f) (then_to (placed old (read (drop old f))) (append_set old lent count)) es e in
    let y = then_to-done (placed old (read (drop old f))) (append_set old lent count) es a.1 in
    let fs : List Field = y.0.fields in
    let new : List DayEntry = take count lent ++ (day_entry old fs ∷ []) in
    let room : Reply (List DayEntry) = with_room (leb (count + 1) (length lent)) (count + 1) new in
    let b = must-done (is_nil y.0.rest) bad_use (size fs) (must (leb (count + 1) max_sets) too_many_sets old room) es y.2 in
    let c = must-done (leb (count + 1) max_sets) too_many_sets old room es b.1 in
    let w = with_room-done (leb (count + 1) (length lent)) (count + 1) new es c.1 in
    record {
      within = leb-true old (length f) a.0;
      lines = fs;
      was_read = placed-done old (read (drop old f)) y.0 y.1 ∙ ap (λ (t : List ℕ). done (parsed fs t)) (nil_is y.0.rest b.0);
      few = leb-true (count + 1) max_sets c.0;
      room = leb-true (count + 1) (length lent) w.0;
      made = sym w.1;
    }
