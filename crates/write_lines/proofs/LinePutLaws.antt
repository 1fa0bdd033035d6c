-- The parts of a line put one after the other are the line, and the lines of an entry: what each `return` has to show.
use mathlib.Core.Path.{◌≡◌, refl, sym, ap, ap₂, ◌∙◌}
use mathlib.Core.Bool.{Bool, true, false}
use mathlib.Core.List.{List, [], ◌∷◌, ◌++◌, append_assoc, append-nil}
use Prim.Native.Nat.{ℕ, suc, ◌+◌, ◌≤◌}
use native.Mathlib.Omega.{arith}
use lib.Dec.{eqb}
use lib.ListN.{length, replicate, set, take, drop, length-append}
use lib.Seq.{sets-eq}
use borrow.Author.Tests.{eq-eqb, ne_eqb, eqb-true, eqb-false}
use Rattle.meaning.specs.Digits.{digits}
use Rattle.meaning.specs.Field.{field}
use Rattle.meaning.specs.Lines.{cr, lf, line_lead, line_end, line_then}
use Rattle.meaning.specs.Lists.{sum_digits}
use Rattle.meaning.proofs.LineLaws.{length-line}
use Rattle.byte_put.specs.Places.{over}
use Rattle.byte_put.proofs.OverLaws.{over-then}
use Rattle.write_lines.specs.EntryLines.{entry_lines}

-- ---- one line

-- length, label, content and end, each put after what stands
pub line-put : (b b₁ b₂ b₃ b₄ c : List ℕ) (l to : ℕ) → to + (length c + (line_lead + line_end)) ≤ length b
    → b₁ ≡ over to (digits 3 (length c + 9)) b
    → b₂ ≡ over (to + 3) (digits 4 l) b₁
    → b₃ ≡ over (to + 7) c b₂
    → b₄ ≡ over (to + 7 + length c) (cr ∷ lf ∷ []) b₃
    → b₄ ≡ over to (line_then (field l c) []) b
line-put b b₁ b₂ b₃ b₄ c l to h e₁ e₂ e₃ e₄ =
    let three : List ℕ = digits 3 (length c + 9) in
    let four : List ℕ = digits 4 l in
    let lead : List ℕ = three ++ four in
    let crlf : List ℕ = cr ∷ lf ∷ [] in
    let n₂ : length (three ++ four) ≡ 7 = refl in
    let n₃ : length (lead ++ c) ≡ 7 + length c = length-append lead c in
    let n₄ : length ((lead ++ c) ++ crlf) ≡ 7 + length c + 2 = length-append (lead ++ c) crlf ∙ omega (arith, n₃) in
    let a₂ : b₂ ≡ over to lead b = e₂ ∙ (ap (over (to + 3) four) e₁ ∙ over-then b to three four (omega (arith, n₂))) in
    let a₃ : b₃ ≡ over to (lead ++ c) b = e₃ ∙ (ap (over (to + 7) c) a₂ ∙ over-then b to lead c (omega (arith, n₃))) in
    let q : to + length (lead ++ c) ≡ to + 7 + length c = omega (arith, n₃) in
    e₄
    ∙ (ap₂ (λ (m : ℕ) (u : List ℕ). over m crlf u) (sym q) a₃
    ∙ (over-then b to (lead ++ c) crlf (omega (arith, n₄)) ∙ ap (λ (u : List ℕ). over to u b) (append_assoc lead c crlf ∙ append_assoc three four (c ++ crlf))))

-- the end of a line, byte by byte
pub end-put : (b : List ℕ) (at : ℕ) → at + line_end ≤ length b → set (set b at cr) (at + 1) lf ≡ over at (cr ∷ lf ∷ []) b
unfolding over
end-put b at h =
    let e : at + 1 ≡ suc at = omega arith in
    rw e (sets-eq (cr ∷ lf ∷ []) b at h ∙ append_assoc (take at b) (cr ∷ lf ∷ []) (drop (at + 2) b))

-- the digits of a sum, put over as many bytes
pub five-digits : (n : ℕ) → over 0 (digits sum_digits n) (replicate sum_digits 0) ≡ digits sum_digits n
unfolding over
five-digits n = refl

-- ---- the lines of one entry

module _ (at l : ℕ) (c sum : List ℕ) where
  abbrev own : List ℕ
  own = line_then (field l c) []

  abbrev second : List ℕ
  second = line_then (field 8100 sum) []

  own-length : length own ≡ length c + (line_lead + line_end)
  own-length = length-line (field l c) [] ∙ omega arith

  second-length : length second ≡ length sum + (line_lead + line_end)
  second-length = length-line (field 8100 sum) [] ∙ omega arith

  pub later-only : (at ≡ 0 → ⊥) → entry_lines at l c sum ≡ own
  unfolding entry_lines
  later-only h = rw (ne_eqb at 0 h) (append-nil own)

  pub first-both : at ≡ 0 → entry_lines at l c sum ≡ own ++ second
  unfolding entry_lines
  first-both h = rw (eq-eqb at 0 h)

  first-length : at ≡ 0 → length (entry_lines at l c sum) ≡ (length c + (line_lead + line_end)) + (length sum + (line_lead + line_end))
  first-length h = ap length (first-both h) ∙ (length-append own second ∙ omega (arith, own-length, second-length))

  pub own-fits : (to room : ℕ) → to + length (entry_lines at l c sum) ≤ room → to + (length c + (line_lead + line_end)) ≤ room
  own-fits to room h = go (eqb at 0) refl
    where
      go : (b : Bool) → eqb at 0 ≡ b → to + (length c + (line_lead + line_end)) ≤ room
      go true e = omega (arith, first-length (eqb-true at 0 e))
      go false e = omega (arith, ap length (later-only (eqb-false at 0 e)), own-length)

  pub second_fits : (to room : ℕ) → at ≡ 0 → to + length (entry_lines at l c sum) ≤ room → to + (length c + (line_lead + line_end)) + (length sum + (line_lead + line_end)) ≤ room
  second_fits to room e h = omega (arith, first-length e)

  pub later-put : (b b₁ : List ℕ) (to : ℕ) → (at ≡ 0 → ⊥) → b₁ ≡ over to own b
      → (to + (length c + (line_lead + line_end)) ≡ to + length (entry_lines at l c sum)) × (b₁ ≡ over to (entry_lines at l c sum) b)
  later-put b b₁ to h e = (omega (arith, ap length (later-only h), own-length), e ∙ ap (λ (u : List ℕ). over to u b) (sym (later-only h)))

  pub first-put : (b b₁ b₂ : List ℕ) (to : ℕ) → at ≡ 0 → to + length (entry_lines at l c sum) ≤ length b → b₁ ≡ over to own b
      → b₂ ≡ over (to + (length c + (line_lead + line_end))) second b₁
      → (to + (length c + (line_lead + line_end)) + (length sum + (line_lead + line_end)) ≡ to + length (entry_lines at l c sum)) × (b₂ ≡ over to (entry_lines at l c sum) b)
  first-put b b₁ b₂ to h g e₁ e₂ =
      let q : to + (length c + (line_lead + line_end)) ≡ to + length own = omega (arith, own-length) in (
        omega (arith, first-length h),
        e₂ ∙ (ap₂ (λ (m : ℕ) (u : List ℕ). over m second u) q e₁
            ∙ (over-then b to own second (omega (arith, length-append own second, own-length, second-length, first-length h))
            ∙ ap (λ (u : List ℕ). over to u b) (sym (first-both h)))),
      )
