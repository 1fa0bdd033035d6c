-- The refusals of the day file, each by itself: number, place and label. Each reason is stated with what comes before it in the request's order being right, so that two never hold of
-- one input. Stated by DayRules, and by what a set is and how it is refused (Keeps of crate `keeps`, Breaches of crate `breaches`). proofs/BuildExact, AppendExact, LookupExact:
-- exactly these are given.
use Rattle.std.specs.Prelude.{◌≡◌, List, [], ◌≢◌, ℕ, ◌+◌, ◌≤◌, ◌<◌, length, drop}
use Rattle.meaning.specs.declared.Refusal.{Refusal}
use Rattle.meaning.specs.declared.SetType.{SetType}
use Rattle.meaning.specs.declared.Shape.{Shape}
use Rattle.meaning.specs.Field.{Field}
use Rattle.meaning.specs.Refusals.{refusal, bad_use, no_room, too_many_sets}
use Rattle.meaning.specs.Lines.{size}
use Rattle.keeps.specs.Keeps.{Keeps, SetAtFront}
use Rattle.breaches.specs.Breaches.{FirstBreach}
use Rattle.meaning_day.specs.declared.DayEntry.{DayEntry}
use Rattle.meaning_day.specs.Days.{max_sets}
use Rattle.theory_day.specs.DayRules.{SetsUpTo, Finds}

-- "the set's own, placed in the file": the bytes from offset `at` on are refused for their first breach, and r has its place in the file
pub record OwnRefusal (f : List ℕ) (at : ℕ) (r : Refusal) : Type 0 where
  pub own : Refusal
  pub breach : FirstBreach (drop at f) own
  pub placed : r ≡ refusal own.no (at + own.place) own.label

-- the index of the file f, into room for this many entries, is refused with r
pub data BuildRefused (f : List ℕ) (room : ℕ) (r : Refusal) : Type 0 where
  -- after at most 2,048 sets something stands that is refused
  own-refusal : (es : List DayEntry) (p : ℕ) → SetsUpTo f es p → length es ≤ max_sets → p < length f → OwnRefusal f p r → BuildRefused f room r
  -- "TooManySets (23) at the 2,049th", which is a set (E1a)
  too_many : (es : List DayEntry) (p : ℕ) → SetsUpTo f es p → length es ≡ max_sets → (x : Shape) → SetAtFront (drop p f) x → r ≡ refusal too_many_sets p 0
      → BuildRefused f room r
  -- "place: the need"
  no-room : (es : List DayEntry) → SetsUpTo f es (length f) → length es ≤ max_sets → room < length es → r ≡ refusal no_room (length es) 0 → BuildRefused f room r

-- the set after the first `old` bytes of the file is to be entered as the one after n of the lent entries; that is refused with r: "18 in appending, as in corrections", the set's own,
-- 18, 23, 22
pub data AppendRefused (f : List ℕ) (old : ℕ) (lent : List DayEntry) (n : ℕ) (r : Refusal) : Type 0 where
  -- "used length over the buffer (place: buffer length)"
  old-over : length f < old → r ≡ refusal bad_use (length f) 0 → AppendRefused f old lent n r
  own-refusal : old ≤ length f → OwnRefusal f old r → AppendRefused f old lent n r
  -- "another set follows (place: first set's length)" (E1c)
  another-set : old ≤ length f → (t : SetType) (fs : List Field) (rest : List ℕ) → Keeps (drop old f) t fs rest → rest ≢ [] → r ≡ refusal bad_use (size fs) 0
      → AppendRefused f old lent n r
  too_many : old ≤ length f → (t : SetType) (fs : List Field) → Keeps (drop old f) t fs [] → max_sets < n + 1 → r ≡ refusal too_many_sets old 0
      → AppendRefused f old lent n r
  no-room : old ≤ length f → (t : SetType) (fs : List Field) → Keeps (drop old f) t fs [] → n + 1 ≤ max_sets → length lent < n + 1 → r ≡ refusal no_room (n + 1) 0
      → AppendRefused f old lent n r

-- a lookup is refused if more entries match than there is room for numbers
pub record LookupRefused (f : List ℕ) (es : List DayEntry) (c : List ℕ) (room : ℕ) (r : Refusal) : Type 0 where
  pub numbers : List ℕ
  pub finds : Finds f es c numbers
  pub over-room : room < length numbers
  pub refusal_is : r ≡ refusal no_room (length numbers) 0
