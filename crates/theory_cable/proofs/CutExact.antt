-- "The data are cut every 128 bytes; a set that would fit one block is cut after its first 1Ch", in the words of blocks: every block but the last has 128 bytes of data (`full-blocks`); a set that
-- would fit one block has two, the first line with the 1Ch after it, and all other lines (`short-blocks`). How many blocks there are at most: `most-blocks`.
use mathlib.Core.Path.{◌≡◌, refl, sym, ap, ◌∙◌, subst}
use mathlib.Core.List.{List, [], ◌∷◌, ◌++◌, append_assoc}
use Prim.Native.Nat.{ℕ, suc, ◌+◌, ◌-◌, ◌*◌, ◌≤◌, ◌<◌, min}
use native.Mathlib.Omega.{arith}
use lib.ListN.{length, take, drop, length-append, length-take, length-drop}
use lib.Seq.{take_at, drop_at, take_all}
use borrow.Author.Tests.{ne_eqb}
use Rattle.meaning.specs.Limits.{max_lines}
use Rattle.meaning.specs.Digits.{digits}
use Rattle.meaning.specs.Field.{Field}
use Rattle.meaning.specs.Refusals.{done}
use Rattle.meaning.specs.Pieces.{parsed}
use Rattle.meaning.specs.Lines.{line_size, size}
use Rattle.meaning.specs.Reading.{read}
use Rattle.meaning.proofs.Bools.{Every}
use Rattle.meaning.proofs.DigitLaws.{digits-all}
use Rattle.meaning.proofs.FaultLaws.{High, done-same, then_to-done}
use Rattle.meaning.proofs.FieldLaws.{Short}
use Rattle.meaning.proofs.LineLaws.{Sound, length-render}
use Rattle.meaning.proofs.SetLaws.{accepted}
use Rattle.meaning.proofs.SizeLaws.{longest_line, accepted-short}
use Rattle.meaning_cable.specs.Stream.{separator, bare_then, stream}
use Rattle.meaning_cable.specs.Blocks.{max_data, through_first, block_count, cut_at, block_data, set_alone, blocks_of}
use Rattle.meaning_cable.proofs.StreamLaws.{digits-high, bare-end}
use Rattle.meaning_cable.proofs.BlockLaws.{Cuts, one, many, cuts}
use Rattle.meaning_cable.proofs.OneSetLaws.{alone-read, data-of-set}

-- "cut every 128 bytes": data that do not fit one block fill every block but the last
pub full-blocks : (x : List ℕ) → max_data < length x → (i : ℕ) → i + 1 < block_count x → length (block_data x i) ≡ max_data
full-blocks x h i l = go (cuts x)
  where
    size_of : length (block_data x i) ≡ min (cut_at x (i + 1) - cut_at x i) (length x - cut_at x i)
    size_of = simp (length-take, length-drop)

    go : Cuts x → length (block_data x i) ≡ max_data
    go (one m n a b c) = absurd (omega arith)
    go (many m n a) = omega (arith, size_of, a i, a (i + 1), n)

-- ---- the first 1Ch of a set stands after its first line: no byte of a line is under 20h

high-append : (x y : List ℕ) → High x → High y → High (x ++ y)
high-append [] y h k = k
high-append (b ∷ x) y h k = (h.0, high-append x y h.1 k)

bare_high : (f : Field) → Sound f → High (bare_then f [])
bare_high f h =
    high-append (digits 3 (line_size f)) (digits 4 f.label ++ (f.content ++ [])) (digits-high (digits 3 (line_size f)) (digits-all 3 (line_size f)))
    (high-append (digits 4 f.label) (f.content ++ []) (digits-high (digits 4 f.label) (digits-all 4 f.label)) (high-append f.content [] h.no-low tt))

through-high : (y t : List ℕ) → High y → through_first (y ++ (separator ∷ t)) ≡ length y + 1
unfolding through_first
through-high [] t h = refl
through-high (b ∷ y) t h = rw (ne_eqb b separator (λ e. omega (arith, h.0))) (let z = through-high y t h.1 in omega arith)

-- data that fit one block: what stands up to their first 1Ch, and what stands after it
module _ (y t : List ℕ) (h : High y) (fits : length (y ++ (separator ∷ t)) ≤ max_data) where
  abbrev x : List ℕ
  x = y ++ (separator ∷ t)

  whole : y ++ (separator ∷ []) ++ t ≡ x
  whole = append_assoc y (separator ∷ []) t

  end : length (y ++ (separator ∷ [])) ≡ length y + 1
  end = length-append y (separator ∷ [])

  two : (block_count x ≡ 2) × (block_data x 0 ≡ y ++ (separator ∷ [])) × (block_data x 1 ≡ t)
  two = go (cuts x)
    where
      go : Cuts x → (block_count x ≡ 2) × (block_data x 0 ≡ y ++ (separator ∷ [])) × (block_data x 1 ≡ t)
      go (many m n a) = absurd (omega arith)
      go (one m n a b c) =
          let k : cut_at x 1 ≡ length y + 1 = b ∙ through-high y t h in
          let d : cut_at x 2 ≡ length x = c 2 (omega arith) in
          let w : length x ≡ length y + suc (length t) = length-append y (separator ∷ t) in
          let v : length y + 1 - 0 ≡ length y + 1 = omega arith in (
            n,
            rw (a, k) (ap (λ (n : ℕ). take n x) v ∙ ap (take (length y + 1)) (sym whole) ∙ take_at (y ++ (separator ∷ [])) t (length y + 1) end),
            rw (k, d) (ap (λ (z : List ℕ). take (length x - (length y + 1)) (drop (length y + 1) z)) (sym whole)
                ∙ (ap (take (length x - (length y + 1))) (drop_at (y ++ (separator ∷ [])) t (length y + 1) end) ∙ take_all (length x - (length y + 1)) t (omega (arith, w)))),
          )

-- "a set that would fit one block is cut after its first 1Ch": it has two blocks. An accepted set has two lines or more, since its line 2 is 8100.
pub short-blocks : (f g : Field) (fs : List Field) → Every Sound (f ∷ g ∷ fs) → length (stream (f ∷ g ∷ fs)) ≤ max_data
    → (block_count (stream (f ∷ g ∷ fs)) ≡ 2) × (block_data (stream (f ∷ g ∷ fs)) 0 ≡ bare_then f (separator ∷ [])) × (block_data (stream (f ∷ g ∷ fs)) 1 ≡ stream (g ∷ fs))
unfolding stream
short-blocks f g fs h l =
    let e : bare_then f [] ++ (separator ∷ stream (g ∷ fs)) ≡ stream (f ∷ g ∷ fs) = bare-end f [] (separator ∷ stream (g ∷ fs)) in
    let m : length (bare_then f [] ++ (separator ∷ stream (g ∷ fs))) ≤ max_data = subst (λ (z : List ℕ). length z ≤ max_data) (sym e) l in
    let r = two (bare_then f []) (stream (g ∷ fs)) (bare_high f h.0) m in (
      ap block_count (sym e) ∙ r.0,
      ap (λ (z : List ℕ). block_data z 0) (sym e) ∙ (r.1 ∙ bare-end f [] (separator ∷ [])),
      ap (λ (z : List ℕ). block_data z 1) (sym e) ∙ r.2,
    )

-- ---- how many blocks a set has

-- a line of an accepted set has at most 69 bytes
lines-most : (fs : List Field) → Every (λ f. Short f.content) fs → size fs ≤ length fs * longest_line
lines-most [] h = omega arith
lines-most (f ∷ fs) h = omega (arith, h.0.few_bytes, lines-most fs h.1)

-- At most 272, from 512 lines of 69 bytes; and 270, since no accepted set has more than 35,058 bytes (`largest-set` of crate `examples`). The largest set has as many (E3b).
pub most-blocks : (s : List ℕ) (n : ℕ) → blocks_of s ≡ done n → (n ≤ 272) × (length s ≤ 35058 → n ≤ 270)
unfolding blocks_of
most-blocks s n e =
    let x = then_to-done (set_alone s) (λ fs. done (block_count (stream fs))) n e in
    let fs : List Field = x.0 in
    let r : read s ≡ done (parsed fs []) = alone-read s fs x.1 in
    let a = accepted s (parsed fs []) r in
    let k : block_count (stream fs) ≡ n = done-same x.2 in
    let l = a.standing.few in
    let m = lines-most fs (accepted-short s (parsed fs []) r) in
    let z : length s ≡ size fs + 0 = ap length a.bytes ∙ length-render fs [] in
    let d = data-of-set s fs x.1 in
    go fs (cuts (stream fs)) k l m z d
  where
    go : (fs : List Field) → Cuts (stream fs) → block_count (stream fs) ≡ n → length fs ≤ max_lines → size fs ≤ length fs * longest_line → length s ≡ size fs + 0
        → length (stream fs) ≡ size fs - length fs - 1 → (n ≤ 272) × (length s ≤ 35058 → n ≤ 270)
    go fs (one p c a b f) k l m z d = (omega arith, λ h. omega arith)
    go fs (many p c a) k l m z d = (omega (arith, c), λ h. omega (arith, c))
