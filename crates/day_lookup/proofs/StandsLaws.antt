-- Whether the asked bytes and 0Dh 0Ah stand at a place of the file: what each `return`, and each turn of the loop from the last byte on, has to show.
use mathlib.Core.Path.{◌≡◌, refl, sym, ap, ◌∙◌}
use mathlib.Core.Bool.{Bool, true, false}
use mathlib.Core.List.{List, [], ◌∷◌, ◌++◌}
use Prim.Native.Nat.{ℕ, suc, ◌+◌, ◌-◌, ◌≤◌, ◌<◌}
use native.Mathlib.Omega.{arith}
use native.Mathlib.Nat.{add-zero}
use lib.ListN.{length, take, drop, get_or, length-append, length-take, length-drop, get_or-append}
use lib.Seq.{drop-length, get_or-take, get_or-drop, get_or-append_seam, get_or-append-add}
use Rattle.meaning.specs.Lines.{line_end, cr, lf}
use Rattle.meaning.proofs.Bools.{byte-then}
use Rattle.meaning.proofs.SameLaws.{same-bytes, bytes_same}
use Rattle.day_lookup.specs.Searching.{stands_at}

-- ---- the asked bytes c at a place of f

module _ (f : List ℕ) (place : ℕ) (c : List ℕ) where
  -- the asked bytes and the line's end
  abbrev whole : List ℕ
  whole = c ++ (cr ∷ lf ∷ [])

  stood : stands_at f place c ≡ true → take (length c + line_end) (drop place f) ≡ whole
  unfolding stands_at
  stood e = same-bytes (take (length c + line_end) (drop place f)) whole e

  -- it is so, or it is not
  refuted : ((stands_at f place c ≡ true) → ⊥) → false ≡ stands_at f place c
  refuted n = go (stands_at f place c) refl
    where
      go : (b : Bool) → stands_at f place c ≡ b → false ≡ b
      go true e = absurd (n e)
      go false e = refl

  byte-stood : (j : ℕ) → j < length c + line_end → stands_at f place c ≡ true → get_or f (place + j) 0 ≡ get_or whole j 0
  byte-stood j h e = sym (get_or-drop place f j 0) ∙ sym (get_or-take (length c + line_end) (drop place f) j 0 h) ∙ ap (λ (xs : List ℕ). get_or xs j 0) (stood e)

  -- too few bytes stand there
  pub stands-cut : length f < place + (length c + line_end) → false ≡ stands_at f place c
  stands-cut h = refuted (λ e. let l : length (take (length c + line_end) (drop place f)) ≡ length c + line_end = ap length (stood e) ∙ length-append c (cr ∷ lf ∷ []) in
      omega (arith, l, length-take (length c + line_end) (drop place f), length-drop place f))

  -- another byte stands in the place of 0Dh, of 0Ah, or of an asked byte
  pub stands-no-cr : (get_or f (place + length c) 0 ≡ cr → ⊥) → false ≡ stands_at f place c
  stands-no-cr n = refuted (λ e. n (byte-stood (length c) (omega arith) e ∙ get_or-append_seam c cr (lf ∷ []) 0))

  pub stands-no-lf : (get_or f (place + length c + 1) 0 ≡ lf → ⊥) → false ≡ stands_at f place c
  stands-no-lf n =
      let m : place + length c + 1 ≡ place + (length c + 1) = omega arith in
      refuted (λ e. n (ap (λ (k : ℕ). get_or f k 0) m ∙ byte-stood (length c + 1) (omega arith) e ∙ get_or-append-add c (cr ∷ lf ∷ []) 1 0))

  pub stands-other : (i : ℕ) → i < length c → (get_or f (place + i) 0 ≡ get_or c i 0 → ⊥) → false ≡ stands_at f place c
  stands-other i h n = refuted (λ e. n (byte-stood i (omega arith) e ∙ get_or-append c (cr ∷ lf ∷ []) 0 i h))

  -- ---- from the last byte on: the bytes from byte i on are the asked ones

  abbrev pub Tail : ℕ → Type 0
  Tail i = take (length c - i + line_end) (drop (place + i) f) ≡ drop i c ++ (cr ∷ lf ∷ [])

  pub tail-end : place + (length c + line_end) ≤ length f → get_or f (place + length c) 0 ≡ cr → get_or f (place + length c + 1) 0 ≡ lf → Tail (length c)
  tail-end h a b =
      let z : length c - length c + line_end ≡ 2 = omega arith in
      rw (z, drop-length c, byte-then f (place + length c) (omega arith), byte-then f (place + length c + 1) (omega arith), a, b)

  pub tail_more : (i : ℕ) → i < length c → place + (length c + line_end) ≤ length f → get_or f (place + i) 0 ≡ get_or c i 0 → Tail (i + 1) → Tail i
  tail_more i h g e t =
      let n : length c - i + line_end ≡ suc (length c - (i + 1) + line_end) = omega arith in
      let m : place + i + 1 ≡ place + (i + 1) = omega arith in
      rw (n, byte-then f (place + i) (omega arith), byte-then c i h, e, m) (ap (λ (xs : List ℕ). get_or c i 0 ∷ xs) t)

  pub tail_all : (i : ℕ) → i ≡ 0 → Tail i → true ≡ stands_at f place c
  unfolding stands_at
  tail_all i z t =
      let n : length c - 0 + line_end ≡ length c + line_end = omega arith in
      let q : take (length c + line_end) (drop place f) ≡ whole = rw (z, n, add-zero place) at t in
      rw q (sym (bytes_same whole))

  -- ---- the same by how far from the end: the i-th byte from there is next

  abbrev pub Back : ℕ → Type 0
  Back i = Tail (length c + 1 - i)

  pub back-none : place + (length c + line_end) ≤ length f → get_or f (place + length c) 0 ≡ cr → get_or f (place + length c + 1) 0 ≡ lf → Back 1
  back-none h a b =
      let n : length c + 1 - 1 ≡ length c = omega arith in
      rw n (tail-end h a b)

  pub back_other : (i : ℕ) → 1 ≤ i → i ≤ length c → (get_or f (place + length c - i) 0 ≡ get_or c (length c - i) 0 → ⊥) → false ≡ stands_at f place c
  back_other i p q n =
      let m : place + length c - i ≡ place + (length c - i) = omega arith in
      stands-other (length c - i) (omega arith) (rw m at n)

  pub back_more : (i : ℕ) → 1 ≤ i → i ≤ length c → place + (length c + line_end) ≤ length f
      → get_or f (place + length c - i) 0 ≡ get_or c (length c - i) 0 → Back i → Back (i + 1)
  back_more i p q h e t =
      let m : place + length c - i ≡ place + (length c - i) = omega arith in
      let here : length c + 1 - i ≡ length c - i + 1 = omega arith in
      let next : length c + 1 - (i + 1) ≡ length c - i = omega arith in
      rw next (tail_more (length c - i) (omega arith) h (rw m at e) (rw here at t))

  pub back_all : (i : ℕ) → i ≡ length c + 1 → Back i → true ≡ stands_at f place c
  back_all i e t = tail_all (length c + 1 - i) (omega arith) t
