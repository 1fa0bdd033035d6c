-- "Demand 2 reads per set", its last clause: "a list that the writer accepts is read back unchanged", of a set that was written and stands after a file. The other clauses are `entry-is-a-set` and
-- `set-list-set-in-file` in BuiltLaws.
use mathlib.Core.Path.{◌≡◌, ap, ◌∙◌}
use mathlib.Core.List.{List, [], ◌∷◌, ◌++◌}
use Prim.Native.Nat.{ℕ, ◌+◌, ◌≤◌, ◌<◌}
use native.Mathlib.Omega.{arith}
use lib.ListN.{length, take}
use lib.Seq.{drop-append_seam, take_all}
use borrow.Author.Tests.{le-leb}
use Rattle.meaning.specs.Field.{Field}
use Rattle.meaning.specs.Refusals.{done}
use Rattle.meaning.specs.Pieces.{parsed}
use Rattle.meaning.specs.Lines.{size}
use Rattle.meaning.specs.Lists.{list, write}
use Rattle.meaning.proofs.Bools.{Every}
use Rattle.meaning.proofs.EntryLaws.{Byte}
use Rattle.meaning.proofs.Demands.{write-judge, write-list}
use Rattle.meaning_day.specs.declared.DayEntry.{DayEntry}
use Rattle.meaning_day.specs.Days.{max_sets, day_entry, build}
use Rattle.meaning_day.proofs.DayLaws.{built-sets, read_length}
use Rattle.meaning_day.proofs.BuiltLaws.{part_of}
use Rattle.meaning_day.proofs.AppendLaws.{one-set-read, build-one}

-- The set s was written from the list l, and stands after a file whose index is es, with fewer sets than may be: then the index of both has one entry more, the bytes that it names are s, and their
-- list is l again. Room is asked for by each call itself: for one entry more, and for the list.
pub list-set-list-in-file : (f l s : List ℕ) (room room' : ℕ) (es : List DayEntry) → Every Byte l → write l room ≡ done s → build f room' ≡ done es → length es < max_sets
    → (e : DayEntry) × (build (f ++ s) (length es + 1) ≡ done (es ++ (e ∷ []))) × (part_of (f ++ s) e ≡ s) × ((n : ℕ) → length l ≤ n → list (part_of (f ++ s) e) n ≡ done l)
unfolding day_entry
list-set-list-in-file f l s room room' es b w h few =
    let j = write-judge l s room b w in
    let y = one-set-read s (record { shape_of = j.0; is-accepted = j.1; whole_length = j.2 }) in
    let fs : List Field = y.0 in
    let n : length s ≡ size fs + 0 = read_length s (parsed fs []) y.1 in
    let p : part_of (f ++ s) (day_entry (length f) fs) ≡ s = ap (take (size fs)) (drop-append_seam f s) ∙ take_all (size fs) s (omega arith) in
    let k : length es + 1 ≤ max_sets = omega arith in
    let m : length es + 1 ≤ length es + 1 = omega arith in
    let made : build (f ++ s) (length es + 1) ≡ done (es ++ (day_entry (length f) fs ∷ [])) =
    build-one f s (length es + 1) es fs (built-sets f room' es h).0 y.1 ∙ rw (le-leb (length es + 1) max_sets k, le-leb (length es + 1) (length es + 1) m) in
    (day_entry (length f) fs, made, p, λ q r. ap (λ (t : List ℕ). list t q) p ∙ write-list l s room q b w r)
