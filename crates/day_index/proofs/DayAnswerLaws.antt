-- What each `return` of `build`, `append` and their parts has to show: the answer, and every number of the slice.
use mathlib.Core.Path.{◌≡◌, refl, sym, ap, ap₂, ◌∙◌}
use mathlib.Core.List.{List, [], ◌∷◌, ◌++◌, append_assoc}
use Prim.Native.Nat.{ℕ, ◌+◌, ◌-◌, ◌*◌, ◌/◌, ◌≤◌, ◌<◌}
use native.Mathlib.Nat.{zero-add, add-zero}
use native.Mathlib.Omega.{arith}
use lib.Dec.{leb}
use lib.ListN.{length, take, drop, length-append, drop_of_length-le}
use lib.Seq.{length-take-le}
use borrow.Author.Tests.{le-leb, lt-leb}
use Rattle.meaning.specs.declared.Refusal.{Refusal}
use Rattle.meaning.specs.declared.Shape.{Shape}
use Rattle.meaning.specs.Field.{is_nil}
use Rattle.meaning.specs.Refusals.{Reply, refused, done, then_to, refusal, with_room, empty, bad_use, no_room, too_many_sets}
use Rattle.meaning.specs.Pieces.{Parsed}
use Rattle.meaning.specs.Reading.{scan, judged, read}
use Rattle.meaning.specs.Answers.{made}
use Rattle.meaning.proofs.Bools.{end_is}
use Rattle.meaning.proofs.AnswerLaws.{refused-accepted, refusal-same, refused-made, made-same}
use Rattle.byte_put.specs.Places.{over}
use Rattle.meaning_day.specs.declared.DayEntry.{DayEntry}
use Rattle.meaning_day.specs.Days.{max_sets, day_entry, placed, sets_from, build, append}
use Rattle.meaning_day.specs.DayCalls.{columns, entries_in, index_left, build_call, append_call}
use Rattle.meaning_day.proofs.ColumnLaws.{length-columns, length-entries-in, columns-append, take-columns}
use Rattle.day_entry.specs.ToldEntry.{told_entry}
use Rattle.day_entry.proofs.ToldEntryLaws.{entry-told}
use Rattle.day_index.specs.Counting.{listed}
use Rattle.day_index.proofs.CountLaws.{SetHere}
use Rattle.std.specs.Prelude.{Err, Ok}

-- ---- building

-- what the sets that were counted come to, with this much room
abbrev built : Reply (List DayEntry) → ℕ → Reply (List DayEntry)
built r room = then_to r (λ es. with_room (leb (length es) room) (length es) es)

refused-built : (r : Reply (List DayEntry)) (room : ℕ) (q : Refusal) (b : List ℕ) → Err q ≡ made r → (Err q ≡ made (built r room)) × (b ≡ index_left (built r room) b)
refused-built (refused x) room q b e = (e, refl)
refused-built (done es) room q b e = refused-made e

full-built : (r : Reply (List DayEntry)) (room n : ℕ) (b : List ℕ) → made r ≡ Ok n → room < n
    → (Err (refusal no_room n 0) ≡ made (built r room)) × (b ≡ index_left (built r room) b)
full-built (refused x) room n b e h = refused-made e
full-built (done es) room n b e h =
    let l : length es ≡ n = made-same e in
    rw (l, lt-leb n room h) (refl, refl)

made-built : (r : Reply (List DayEntry)) (room n : ℕ) (b : List ℕ) → made r ≡ Ok n → n ≤ room
    → (Ok n ≡ made (built r room)) × (over 0 (columns (listed r)) b ≡ index_left (built r room) b)
unfolding over
made-built (refused x) room n b e h = refused-made e
made-built (done es) room n b e h =
    let l : length es ≡ n = made-same e in
    rw (l, le-leb n room h, zero-add (length (columns es))) (sym (ap Ok l), refl)

module _ (f b : List ℕ) where
  -- a set's own refusal, or 23
  pub build-refused : (q : Refusal) → Err q ≡ made (sets_from max_sets 0 f) → (Err q ≡ (build_call f b).answer) × (b ≡ (build_call f b).buffer)
  unfolding build
  build-refused q e = refused-built (sets_from max_sets 0 f) (length (entries_in b)) q b e

  module _ (n : ℕ) (e : made (sets_from max_sets 0 f) ≡ Ok n) where
    pub build-full : length b / 4 < n → (Err (refusal no_room n 0) ≡ (build_call f b).answer) × (b ≡ (build_call f b).buffer)
    unfolding build
    build-full h = full-built (sets_from max_sets 0 f) (length (entries_in b)) n b e (omega (arith, length-entries-in b))

    pub build-made : n ≤ length b / 4 → (b' : List ℕ) → b' ≡ over 0 (columns (listed (sets_from max_sets 0 f))) b → (Ok n ≡ (build_call f b).answer) × (b' ≡ (build_call f b).buffer)
    unfolding build
    build-made h b' q =
        let m = made-built (sets_from max_sets 0 f) (length (entries_in b)) n b e (omega (arith, length-entries-in b)) in
        (m.0, q ∙ m.1)

-- ---- appending

-- nothing stands after the last byte: 1, at that place
nothing-there : (f : List ℕ) (old : ℕ) → length f ≤ old → judged (placed old (read (drop old f))) ≡ Err (refusal empty old 0)
unfolding read scan
nothing-there f old h = rw (drop_of_length-le f h) (ap (λ (n : ℕ). Err (refusal empty n 0)) (add-zero old))

module _ (f : List ℕ) (old : ℕ) (b : List ℕ) (count : ℕ) where
  -- 18: the old length is over the file
  pub append-over : length f < old → (Err (refusal bad_use (length f) 0) ≡ (append_call f old b count).answer) × (b ≡ (append_call f old b count).buffer)
  unfolding append
  append-over h = rw (lt-leb old (length f) h) (refl, refl)

  -- the set's own
  pub append-own : old ≤ length f → (r : Refusal) → judged (placed old (read (drop old f))) ≡ Err r
      → (Err r ≡ (append_call f old b count).answer) × (b ≡ (append_call f old b count).buffer)
  unfolding append
  append-own h r e = rw (le-leb old (length f) h) (go (placed old (read (drop old f))) e _)
    where
      go : (q : Reply Parsed) → judged q ≡ Err r → (k : Parsed → Reply (List DayEntry)) → (Err r ≡ made (then_to q k)) × (b ≡ index_left (then_to q k) b)
      go (refused x) p k = (ap Err (sym (refusal-same p)), refl)
      go (done d) p k = refused-accepted (sym p)

  -- 1: nothing was appended
  pub append-empty : length f ≡ old → (Err (refusal empty old 0) ≡ (append_call f old b count).answer) × (b ≡ (append_call f old b count).buffer)
  append-empty e = append-own (omega arith) (refusal empty old 0) (nothing-there f old (omega arith))

  module _ (x : Shape) (h : old ≤ length f) (s : SetHere f old x) where
    second : is_nil s.what.rest ≡ leb (length f) (old + x.length)
    second = ap is_nil (sym s.next-there) ∙ sym (end_is f (old + x.length))

    -- 18: another set follows
    pub append-second : x.length < length f - old → (Err (refusal bad_use x.length 0) ≡ (append_call f old b count).answer) × (b ≡ (append_call f old b count).buffer)
    unfolding append
    append-second l = rw (le-leb old (length f) h, s.reads, second, lt-leb (length f) (old + x.length) (omega arith), ← s.long) (refl, refl)

    module _ (alone : length f - old ≤ x.length) where
      -- 23
      pub append-full : max_sets ≤ count → (Err (refusal too_many_sets old 0) ≡ (append_call f old b count).answer) × (b ≡ (append_call f old b count).buffer)
      unfolding append
      append-full l =
          rw (le-leb old (length f) h, s.reads, second, le-leb (length f) (old + x.length) (omega arith), lt-leb (count + 1) max_sets (omega arith)) (refl, refl)

      module _ (few : count < max_sets) where
        -- 22
        pub append-no-room : length b / 4 ≤ count → (Err (refusal no_room (count + 1) 0) ≡ (append_call f old b count).answer) × (b ≡ (append_call f old b count).buffer)
        unfolding append
        append-no-room l =
            rw (
              le-leb old (length f) h,
              s.reads,
              second,
              le-leb (length f) (old + x.length) (omega arith),
              le-leb (count + 1) max_sets (omega arith),
              lt-leb (count + 1) (length (entries_in b)) (omega (arith, length-entries-in b)),
            ) (refl, refl)

        -- the entry after the others
        pub append-made : count < length b / 4 → (b' : List ℕ) → b' ≡ over (count * 4) (columns (told_entry f old ∷ [])) b
            → (Ok (count + 1) ≡ (append_call f old b count).answer) × (b' ≡ (append_call f old b count).buffer)
        unfolding append over
        append-made l b' q =
            let lent : List DayEntry = entries_in b in
            let room : count + 1 ≤ length lent = omega (arith, length-entries-in b) in
            let told : told_entry f old ≡ day_entry old s.what.fields = entry-told f old s.what s.reads in
            let new : List DayEntry = take count lent ++ (told_entry f old ∷ []) in
            let n : length new ≡ count + 1 = omega (arith, length-append (take count lent) (told_entry f old ∷ []), length-take-le count lent (omega arith)) in
            let front : columns new ≡ take (count * 4) b ++ columns (told_entry f old ∷ []) =
            columns-append (take count lent) (told_entry f old ∷ []) ∙ ap (λ (u : List ℕ). u ++ columns (told_entry f old ∷ [])) (sym (take-columns count b (omega arith))) in
            let long : length (columns new) ≡ count * 4 + 4 = omega (arith, length-columns new, n) in
            let tail : List ℕ = drop (count * 4 + 4) b in
            let whole : take (count * 4) b ++ (columns (told_entry f old ∷ []) ++ tail) ≡ columns new ++ drop (length (columns new)) b =
            sym (append_assoc (take (count * 4) b) (columns (told_entry f old ∷ [])) tail) ∙ ap₂ (λ (u : List ℕ) (m : ℕ). u ++ drop m b) (sym front) (sym long) in
            rw (
              le-leb old (length f) h,
              s.reads,
              second,
              le-leb (length f) (old + x.length) (omega arith),
              le-leb (count + 1) max_sets (omega arith),
              le-leb (count + 1) (length lent) room,
              ← told,
            ) (ap Ok (sym n), q ∙ whole)
