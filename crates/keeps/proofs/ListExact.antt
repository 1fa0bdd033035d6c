-- Lists are exact: one is made exactly when the set keeps the rules and there is room, and it has the lines but the second.
use mathlib.Core.Path.{◌≡◌, refl, sym, ap, ◌∙◌}
use mathlib.Core.List.{List, [], ◌∷◌}
use mathlib.Core.Logic.{◌↔◌}
use Prim.Native.Nat.{ℕ, ◌≤◌}
use native.Mathlib.Omega.{arith}
use lib.ListN.{length}
use Rattle.meaning.specs.declared.SetType.{SetType}
use Rattle.meaning.specs.Field.{Field}
use Rattle.meaning.specs.Refusals.{done}
use Rattle.meaning.specs.Pieces.{parsed, put_all}
use Rattle.meaning.specs.Entries.{entry_then, entry_form, list_size}
use Rattle.meaning.specs.Lists.{without_sum, list}
use Rattle.meaning.proofs.EntryLaws.{length-entries}
use Rattle.meaning.proofs.WriterLaws.{list_of, list-only, list-makes}
use Rattle.keeps.specs.Keeps.{Keeps}
use Rattle.keeps.specs.Makes.{entries_of, Lists}
use Rattle.keeps.proofs.Exact.{accepted-keeps, keeps-accepted}

entries-put : (es : List Field) → put_all entry_form es [] ≡ entries_of es
entries-put [] = refl
entries-put (e ∷ es) = ap (entry_then e) (entries-put es)

listed-lines : (s : List ℕ) (room : ℕ) (l : List ℕ) (t : SetType) (fs : List Field) (rest : List ℕ)
    → Keeps s t fs rest → l ≡ list_of fs → list_size (without_sum fs) ≤ room → Lists s room l
listed-lines s room l t [] rest k m h = let z : ◌≡◌ {A = ℕ} 0 8000 = k.rules.starts.0 in absurd (omega arith)
listed-lines s room l t (f ∷ []) rest k m h = let z : ◌≡◌ {A = ℕ} 0 8100 = k.rules.second-8100 in absurd (omega arith)
listed-lines s room l t (f ∷ g ∷ fs) rest k m h = record {
  set-type = t;
  first-line = f;
  sum-line = g;
  others = fs;
  rest = rest;
  keeps = k;
  list-is = m ∙ entries-put (f ∷ fs);
  has_room = omega (arith, ap length m, length-entries (f ∷ fs));
}

pub list-listed : (s : List ℕ) (room : ℕ) (l : List ℕ) → list s room ≡ done l → Lists s room l
list-listed s room l e =
    let m = list-only s room l e in
    let k = accepted-keeps s m.what m.was_read in
    listed-lines s room l k.0 m.what.fields m.what.rest k.1 m.made m.has_room

pub listed-list : (s : List ℕ) (room : ℕ) (l : List ℕ) → Lists s room l → list s room ≡ done l
listed-list s room l x =
    let fs : List Field = x.first-line ∷ x.sum-line ∷ x.others in
    let m : l ≡ list_of fs = x.list-is ∙ sym (entries-put (x.first-line ∷ x.others)) in
    list-makes s (parsed fs x.rest) room (keeps-accepted s x.set-type fs x.rest x.keeps)
    (omega (arith, x.has_room, ap length m, length-entries (x.first-line ∷ x.others)))
    ∙ ap done (sym m)

-- a list is made, of these bytes, exactly when the set keeps every rule, they are its lines but the second, and there is room
pub listed-exactly : (s : List ℕ) (room : ℕ) (l : List ℕ) → (list s room ≡ done l) ↔ Lists s room l
listed-exactly s room l = (list-listed s room l, listed-list s room l)
