-- A set alone in its bytes: what judging says of it, and that its blocks are counted by its length and its lines.
use mathlib.Core.Path.{◌≡◌, refl, sym, ap, ◌∙◌}
use mathlib.Core.Bool.{Bool, true, false, cond}
use mathlib.Core.List.{List, [], ◌∷◌}
use Prim.Native.Nat.{ℕ, ◌+◌, ◌-◌, ◌/◌, ◌≤◌, ◌<◌}
use native.Mathlib.Omega.{arith}
use native.Mathlib.Nat.{add-zero}
use lib.Dec.{leb}
use lib.ListN.{length}
use lib.Seq.{take_all}
use borrow.Author.Tests.{leb-true, leb-false, le-leb, lt-leb}
use Rattle.meaning.specs.declared.Refusal.{Refusal}
use Rattle.meaning.specs.declared.Shape.{Shape}
use Rattle.meaning.specs.Field.{Field}
use Rattle.meaning.specs.Refusals.{Reply, refused, done, refusal, empty, bad_use, then_to, verdict}
use Rattle.meaning.specs.Pieces.{Parsed, parsed}
use Rattle.meaning.specs.Lines.{size, offset}
use Rattle.meaning.specs.Reading.{scan, read, shape, judged, judge, in_set}
use Rattle.meaning.specs.Corrections.{alone_faults}
use Rattle.meaning.proofs.LineLaws.{length-render}
use Rattle.meaning.proofs.SetLaws.{accepted}
use Rattle.meaning.proofs.Demands.{judge-read}
use Rattle.meaning_cable.specs.Stream.{stream}
use Rattle.meaning_cable.specs.Blocks.{block_count, set_alone, blocks_of}
use Rattle.meaning_cable.specs.CableCalls.{counted}
use Rattle.meaning_cable.proofs.OneSetLaws.{alone-read, data-of-set}
use Rattle.cable_set.specs.BlockCounts.{alone_judged, alone_of, data_length, count_for}
use Rattle.meaning.specs.Results.{Judged}
use Rattle.std.specs.Prelude.{Err, Ok}

-- ---- what judging says of a set, held against the bytes: one law for each way of the code

module _ (y : Judged) (n : ℕ) where
  pub held-refused : (r : Refusal) → y ≡ Err r → Err r ≡ alone_of y n
  held-refused r e = rw e

  module _ (x : Shape) (e : y ≡ Ok x) where
    pub held_more : x.length < n → Err (refusal bad_use x.length 0) ≡ alone_of y n
    held_more h = rw (e, lt-leb n x.length h)

    pub held-only : n ≤ x.length → Ok x ≡ alone_of y n
    held-only h = rw (e, le-leb n x.length h)

-- ---- one set alone in its bytes

-- a set that is refused
alone-refused : (s : List ℕ) (r : Refusal) → judge s ≡ Err r → Err r ≡ alone_judged (set_alone s)
unfolding judge set_alone
alone-refused s r j = go (read s) j
  where
    go : (e : Reply Parsed) → judged e ≡ Err r → Err r ≡ alone_judged (then_to e (λ d. verdict (in_set d.fields) (alone_faults d) d.fields))
    go (refused y) q = let z : r ≡ y = cc in ap Err z
    go (done d) q = let z : ◌≡◌ {A = ℕ} 0 1 = cc in absurd (omega arith)

module _ (s : List ℕ) (x : Shape) (j : judge s ≡ Ok x) where
  abbrev what : Parsed
  what = (judge-read s x j).0

  abbrev fields : List Field
  fields = what.fields

  told : x ≡ shape fields
  told = (judge-read s x j).2

  length-is : length s ≡ x.length + length what.rest
  length-is =
      ap length (accepted s what (judge-read s x j).1).bytes ∙ (length-render fields what.rest ∙ ap (λ (y : Shape). y.length + length what.rest) (sym told))

  -- a second set follows: 18
  alone-more : x.length < length s → Err (refusal bad_use x.length 0) ≡ alone_judged (set_alone s)
  unfolding set_alone
  alone-more h = rw (judge-read s x j).1 (go what.rest length-is)
    where
      place : offset fields (length fields) + 0 ≡ x.length
      place = add-zero (offset fields (length fields)) ∙ (ap size (take_all (length fields) fields (omega arith)) ∙ ap (λ (y : Shape). y.length) (sym told))

      go : (t : List ℕ) → length s ≡ x.length + length t
          → Err (refusal bad_use x.length 0) ≡ alone_judged (verdict (in_set fields) (alone_faults (parsed fields t)) fields)
      go [] e = absurd (omega arith)
      go (b ∷ t) e = ap (λ (n : ℕ). Err (refusal bad_use n 0)) (sym place)

  -- the set is alone
  alone-only : length s ≤ x.length → Ok x ≡ alone_judged (set_alone s)
  unfolding set_alone
  alone-only h = rw (judge-read s x j).1 (go what.rest length-is)
    where
      go : (t : List ℕ) → length s ≡ x.length + length t → Ok x ≡ alone_judged (verdict (in_set fields) (alone_faults (parsed fields t)) fields)
      go [] e = ap Ok told
      go (b ∷ t) e = absurd (omega arith)

-- what judging says, held against all bytes, is what is said of one set alone
pub alone-so : (s : List ℕ) (y : Judged) → y ≡ judge s → alone_of y (length s) ≡ alone_judged (set_alone s)
alone-so s y e = go y (sym e)
  where
    held : (x : Shape) → judge s ≡ Ok x → (b : Bool) → leb (length s) x.length ≡ b
        → cond b (Ok x) (Err (refusal bad_use x.length 0)) ≡ alone_judged (set_alone s)
    held x j true q = alone-only s x j (leb-true (length s) x.length q)
    held x j false q = alone-more s x j (leb-false (length s) x.length q)

    go : (y : Judged) → judge s ≡ y → alone_of y (length s) ≡ alone_judged (set_alone s)
    go (Err r) j = alone-refused s r j
    go (Ok x) j = held x j (leb (length s) x.length) refl

-- ---- its blocks

-- they are counted by the set's length and lines
pub blocks-counted : (s : List ℕ) (x : Shape) → Ok x ≡ alone_judged (set_alone s) → counted (blocks_of s) ≡ Ok (count_for (data_length x))
unfolding blocks_of block_count
blocks-counted s x e = go (set_alone s) refl e
  where
    go : (r : Reply (List Field)) → set_alone s ≡ r → Ok x ≡ alone_judged r → counted (then_to r (λ fs. done (count_for (length (stream fs))))) ≡ Ok (count_for (data_length x))
    go (refused q) a h = let z : ◌≡◌ {A = ℕ} 0 1 = cc in absurd (omega arith)
    go (done fs) a h =
        let y : x ≡ shape fs = cc in
        ap (λ (n : ℕ). Ok (count_for n)) (data-of-set s fs a ∙ ap data_length (sym y))

-- 1: no bytes
pub blocks-empty : (s : List ℕ) → length s ≡ 0 → counted (blocks_of s) ≡ Err (refusal empty 0 0)
unfolding blocks_of set_alone read scan
blocks-empty [] e = refl
blocks-empty (b ∷ s) e = absurd (omega arith)

pub blocks-refused : (s : List ℕ) (r : Refusal) → Err r ≡ alone_judged (set_alone s) → counted (blocks_of s) ≡ Err r
unfolding blocks_of
blocks-refused s r e = go (set_alone s) e
  where
    go : (q : Reply (List Field)) → Err r ≡ alone_judged q → counted (then_to q (λ fs. done (block_count (stream fs)))) ≡ Err r
    go (refused q) h = let y : r ≡ q = cc in ap Err (sym y)
    go (done fs) h = let z : ◌≡◌ {A = ℕ} 0 1 = cc in absurd (omega arith)

-- an accepted set alone in its bytes: its lines, its length, its data
pub alone-is : (s : List ℕ) (x : Shape) → Ok x ≡ alone_judged (set_alone s)
    → (fs : List Field) × (set_alone s ≡ done fs) × (x ≡ shape fs) × (length s ≡ x.length) × (length (stream fs) ≡ data_length x)
alone-is s x e = go (set_alone s) refl e
  where
    go : (r : Reply (List Field)) → set_alone s ≡ r → Ok x ≡ alone_judged r
        → (fs : List Field) × (set_alone s ≡ done fs) × (x ≡ shape fs) × (length s ≡ x.length) × (length (stream fs) ≡ data_length x)
    go (refused q) a h = let z : ◌≡◌ {A = ℕ} 0 1 = cc in absurd (omega arith)
    go (done fs) a h =
        let y : x ≡ shape fs = cc in
        let l : length s ≡ size fs + 0 = ap length (accepted s (parsed fs []) (alone-read s fs a)).bytes ∙ length-render fs [] in
        (fs, a, y, omega (arith, l, ap (λ (z : Shape). z.length) y), data-of-set s fs a ∙ ap data_length (sym y))
