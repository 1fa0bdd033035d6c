-- Flags say the same as the labels that were seen.
use mathlib.Core.Path.{◌≡◌, refl, sym, ap, ◌∙◌}
use mathlib.Core.Bool.{Bool, true, false, ◌||◌}
use mathlib.Core.List.{List, [], ◌∷◌}
use Prim.Native.Nat.{ℕ, zero, suc, ◌<◌}
use native.Mathlib.Omega.{arith}
use lib.ListN.{length, get_or, set, replicate, length-set, length-replicate}
use lib.Seq.{get_or-set_other, get_or-set_same}
use lib.Dec.{eqb}
use borrow.Author.Tests.{eqb-true, eqb-false}
use Rattle.meaning.specs.Field.{elem}
use Rattle.meaning.specs.Refusals.{Spot, start}
use Rattle.meaning.specs.Groups as G
use Rattle.meaning.specs.Groups.{first}
use Rattle.table_fields.specs.LabelNumbers.{label_number}
use Rattle.table_fields.proofs.LabelNumberLaws.{one_number}
use Rattle.judge_missing.specs.Lacks.{row_count, no_flags, seen, Flagged, none_seen}

-- the flags say which labels are among ls: for every label, also one without a row
pub record Flags (on : List Bool) (ls : List ℕ) : Type 0 where
  pub long : length on ≡ row_count
  pub same : (l : ℕ) → seen on l ≡ elem l ls

pub flags-mark : (on : List Bool) (ls : List ℕ) (l : ℕ) → Flags on ls → label_number l < row_count → Flags (set on (label_number l) true) (l ∷ ls)
unfolding seen elem
flags-mark on ls l f n = record { long = length-set on (label_number l) true ∙ f.long; same = λ m. go m (eqb m l) refl }
  where
    go : (m : ℕ) (b : Bool) → eqb m l ≡ b → get_or (set on (label_number l) true) (label_number m) false ≡ b || elem m ls
    go m true e = ap (λ (x : ℕ). get_or (set on (label_number l) true) (label_number x) false) (eqb-true m l e) ∙ get_or-set_same on (label_number l) true false (omega (arith, f.long))
    go m false e = get_or-set_other on (label_number l) (label_number m) true false (λ q. eqb-false m l e (sym (one_number l m (sym q) n))) ∙ f.same m

replicate-false : (n i : ℕ) → get_or (replicate n false) i false ≡ false
replicate-false zero i = refl
replicate-false (suc n) zero = refl
replicate-false (suc n) (suc i) = replicate-false n i

pub flags-none : Flags no_flags []
unfolding seen elem
flags-none = record { long = length-replicate row_count false; same = λ l. replicate-false row_count (label_number l) }

-- ---- the two states say the same

pub record Agrees (pl : ℕ → Spot → ℕ) (st : Flagged) (ms : G.State) : Type 0 where
  pub header : st.header ≡ ms.header
  pub place : st.place ≡ pl ms.line start
  pub members : Flags st.members ms.members
  pub top : Flags st.top ms.top

pub none-agrees : (pl : ℕ → Spot → ℕ) → 0 ≡ pl 0 start → Agrees pl none_seen first
none-agrees pl e = record { header = refl; place = e; members = flags-none; top = flags-none }
