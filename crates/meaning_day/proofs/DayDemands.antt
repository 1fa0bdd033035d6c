-- The calls of the day file: "All lent buffers then keep every byte and entry" after a refusal, and what building and appending answer and hold if they are done.
use mathlib.Core.Path.{◌≡◌, refl, sym, ap, ap₂, ◌∙◌}
use mathlib.Core.List.{List, [], ◌∷◌, ◌++◌, append_assoc}
use Prim.Native.Nat.{ℕ, ◌+◌, ◌*◌, ◌≤◌}
use native.Mathlib.Omega.{arith}
use lib.ListN.{length, take, drop, length-append, length-take, length-drop}
use lib.Seq.{take-append_seam}
use Rattle.meaning.specs.declared.Refusal.{Refusal}
use Rattle.meaning.specs.Field.{Field}
use Rattle.meaning.specs.Refusals.{Reply, refused, done}
use Rattle.meaning.specs.Pieces.{parsed}
use Rattle.meaning.specs.Reading.{read}
use Rattle.meaning.specs.Answers.{made, made_count, entries_left}
use Rattle.meaning.proofs.AnswerLaws.{refused-made, made-same}
use Rattle.meaning_day.specs.declared.DayEntry.{DayEntry}
use Rattle.meaning_day.specs.Days.{day_entry, build, append, lookup}
use Rattle.meaning_day.specs.DayCalls.{columns, entries_in, index_left, build_call, append_call, lookup_call}
use Rattle.meaning_day.proofs.ColumnLaws.{length-columns, entries-within, columns-append, entries-columns, take-columns}
use Rattle.meaning_day.proofs.DayLaws.{built-sets, append-only}
use Rattle.std.specs.Prelude.{Err, Ok}

-- ---- a refused call has made nothing: its count is 0, and every lent number is as it was

kept-index : (x : Reply (List DayEntry)) (index : List ℕ) (r : Refusal) → made x ≡ Err r → (made_count (made x) ≡ 0) × (index_left x index ≡ index)
kept-index (refused q) index r e = (refl, refl)
kept-index (done es) index r e = refused-made (sym e)

pub refused-build : (f index : List ℕ) (r : Refusal) → (build_call f index).answer ≡ Err r
    → (made_count (build_call f index).answer ≡ 0) × ((build_call f index).buffer ≡ index)
refused-build f index r = kept-index (build f (length (entries_in index))) index r

pub refused-append : (f : List ℕ) (old : ℕ) (index : List ℕ) (count : ℕ) (r : Refusal) → (append_call f old index count).answer ≡ Err r
    → (made_count (append_call f old index count).answer ≡ 0) × ((append_call f old index count).buffer ≡ index)
refused-append f old index count r = kept-index (append f old (entries_in index) count) index r

pub refused-lookup : (f index c out : List ℕ) (r : Refusal) → (lookup_call f index c out).answer ≡ Err r
    → (made_count (lookup_call f index c out).answer ≡ 0) × ((lookup_call f index c out).buffer ≡ out)
refused-lookup f index c out r = go (lookup f (entries_in index) c (length out))
  where
    go : (x : Reply (List ℕ)) → made x ≡ Err r → (made_count (made x) ≡ 0) × (entries_left x out ≡ out)
    go (refused q) e = (refl, refl)
    go (done ns) e = refused-made (sym e)

-- ---- a call that is done

-- what was made, and how many they are
pub made-done : {A : Type 0} (x : Reply (List A)) (n : ℕ) → made x ≡ Ok n → (xs : List A) × (x ≡ done xs) × (length xs ≡ n)
made-done (refused q) n e = refused-made e
made-done (done xs) n e = (xs, refl, made-same e)

-- a reply that made an index of n sets in lent numbers, and what the numbers are afterwards
pub record IndexMade (x : Reply (List DayEntry)) (index : List ℕ) (n : ℕ) : Type 0 where
  pub entries : List DayEntry
  pub is-done : x ≡ done entries
  pub so-many : length entries ≡ n
  pub room : n ≤ length (entries_in index)
  -- the numbers of the entries at the front, and all others as they were
  pub left : index_left x index ≡ columns entries ++ drop (n * 4) index
  -- read again, the first n entries are those that were made, and as many numbers as before are there
  pub front : take n (entries_in (index_left x index)) ≡ entries
  pub same_length : length (index_left x index) ≡ length index

-- the entries of columns come first in whatever numbers start with them
pub front-columns : (es : List DayEntry) (ns : List ℕ) → take (length es) (entries_in (columns es ++ ns)) ≡ es
front-columns es ns = rw (entries-columns es ns) (take-append_seam es (entries_in ns))

-- the numbers of an index at the front, and all others as they were
pub left-numbers : (x : Reply (List DayEntry)) (index : List ℕ) (es : List DayEntry) → x ≡ done es → index_left x index ≡ columns es ++ drop (length es * 4) index
left-numbers x index es p = rw p (ap (λ (k : ℕ). columns es ++ drop k index) (length-columns es))

-- such a reply, from what it made
index-made : (x : Reply (List DayEntry)) (index : List ℕ) (n : ℕ) (es : List DayEntry) → x ≡ done es → length es ≡ n → length es ≤ length (entries_in index) → IndexMade x index n
index-made x index n es p q h =
    let l : index_left x index ≡ columns es ++ drop (n * 4) index = rw (← q) (left-numbers x index es p) in
    record {
      entries = es;
      is-done = p;
      so-many = q;
      room = omega arith;
      left = l;
      front = rw (l, ← q) (front-columns es (drop (length es * 4) index));
      same_length = rw (l, length-append, length-drop) (omega (arith, entries-within index, length-columns es));
    }

-- building answers how many sets the file has, and holds their entries at the front
pub done-build : (f index : List ℕ) (n : ℕ) → (build_call f index).answer ≡ Ok n → IndexMade (build f (length (entries_in index))) index n
done-build f index n e =
    let y = made-done (build f (length (entries_in index))) n e in
    index-made (build f (length (entries_in index))) index n y.0 y.1 y.2 (built-sets f (length (entries_in index)) y.0 y.1).1

-- "Index, list, writer and correction answer the count ..": after appending, the old count and one more. Only the four numbers of the new entry are written, after those of the
-- old index, which stay as they are whatever they say (E1d).
pub record SetAppended (f : List ℕ) (old : ℕ) (index : List ℕ) (count n : ℕ) : Type 0 where
  pub within : old ≤ length f
  pub one-more : n ≡ count + 1
  pub index-all : IndexMade (append f old (entries_in index) count) index n
  pub lines : List Field
  pub was_read : read (drop old f) ≡ done (parsed lines [])
  pub new-entry-alone : (append_call f old index count).buffer ≡ take (count * 4) index ++ (columns (day_entry old lines ∷ []) ++ drop ((count + 1) * 4) index)

-- the numbers of the first entries that are lent, and then those of new ones
after-old : (index : List ℕ) (count : ℕ) (new : List DayEntry) → count + 1 ≤ length (entries_in index)
    → columns (take count (entries_in index) ++ new) ≡ take (count * 4) index ++ columns new
after-old index count new h = columns-append (take count (entries_in index)) new ∙ ap (λ (ns : List ℕ). ns ++ columns new) (sym (take-columns count index (omega arith)))

pub done-append : (f : List ℕ) (old : ℕ) (index : List ℕ) (count n : ℕ) → (append_call f old index count).answer ≡ Ok n → SetAppended f old index count n
done-append f old index count n e =
    let x : Reply (List DayEntry) = append f old (entries_in index) count in
    let y = made-done x n e in
    let a = append-only f old (entries_in index) count y.0 y.1 in
    let new : List DayEntry = day_entry old a.lines ∷ [] in
    let m : length y.0 ≡ count + 1 = ap length a.made ∙ (length-append (take count (entries_in index)) new ∙ omega (arith, length-take count (entries_in index), a.room)) in
    record {
      within = a.within;
      one-more = sym y.2 ∙ m;
      index-all = index-made x index n y.0 y.1 y.2 (omega (arith, a.room));
      lines = a.lines;
      was_read = a.was_read;
      new-entry-alone =
          left-numbers x index y.0 y.1
          ∙ (ap₂ (λ (es : List DayEntry) (k : ℕ). columns es ++ drop (k * 4) index) a.made m
          ∙ (ap (λ (ns : List ℕ). ns ++ drop ((count + 1) * 4) index) (after-old index count new a.room)
          ∙ append_assoc (take (count * 4) index) (columns new) (drop ((count + 1) * 4) index)));
    }
