-- The walk of a search step by step, for any test: one law for each way that the code takes. Then what it means: `seek_is`.
use mathlib.Core.Path.{◌≡◌, refl, sym, ap, ◌∙◌, subst}
use mathlib.Core.Bool.{Bool, true, false, cond}
use mathlib.Core.List.{List, [], ◌∷◌, ◌++◌}
use Prim.Native.Nat.{ℕ, zero, suc, ◌+◌, ◌-◌, ◌≤◌, ◌<◌}
use native.Mathlib.Omega.{arith}
use native.Mathlib.Nat.{add-zero, zero-add}
use lib.Dec.{leb}
use lib.ListN.{length, get_or, take, drop}
use lib.Seq.{drop-drop, get_or-drop}
use borrow.Author.Tests.{le-leb, lt-leb}
use Rattle.meaning.specs.Refusals.{Fault, at_byte, ask}
use Rattle.meaning.proofs.Bools.{byte-then, Every}
use Rattle.meaning.proofs.LeftLaws.{one-more, none_left}
use Rattle.byte_low.specs.Seek.{first_not, Passed}

module _ (ok : ℕ → Bool) where
  -- ---- the first byte that fails the test, one byte more; no byte left

  module _ (s : List ℕ) (i e : ℕ) (h : i < e) where
    pub seek-here : ok (get_or s i 0) ≡ false → first_not ok s i (e - i) ≡ i
    unfolding first_not
    seek-here b = rw (one-more h, b)

    pub seek-further : ok (get_or s i 0) ≡ true → first_not ok s i (e - i) ≡ first_not ok s (i + 1) (e - (i + 1))
    unfolding first_not
    seek-further b = rw (one-more h, b)

  pub seek-end : (s : List ℕ) (i e : ℕ) → e ≤ i → first_not ok s i (e - i) ≡ i
  unfolding first_not
  seek-end s i e h = rw (none_left h)

  module _ (s : List ℕ) where
    pub seek-done : (at i k : ℕ) → k ≤ i → first_not ok s at (k - i) ≡ at
    unfolding first_not
    seek-done at i k h = rw (none_left h)

    -- one byte more, counted from an offset on
    pub seek-step : (at i k : ℕ) → i < k → ok (get_or s (at + i) 0) ≡ true → first_not ok s (at + i) (k - i) ≡ first_not ok s (at + (i + 1)) (k - (i + 1))
    unfolding first_not
    seek-step at i k h b =
        let q : at + i + 1 ≡ at + (i + 1) = omega arith in
        rw (one-more h, b, q)

    -- a search that passes over some bytes passes over the first of them, and goes on with the others
    seek-first : (k at : ℕ) → first_not ok s at (suc k) ≡ at + suc k → ok (get_or s at 0) ≡ true
    unfolding first_not
    seek-first k at e = go (ok (get_or s at 0)) e
      where
        go : (b : Bool) → cond b (first_not ok s (at + 1) k) at ≡ at + suc k → b ≡ true
        go true e = refl
        go false e = absurd (omega arith)

    seek-others : (k at : ℕ) → first_not ok s at (suc k) ≡ at + suc k → first_not ok s (at + 1) k ≡ at + 1 + k
    unfolding first_not
    seek-others k at e =
        let n : at + suc k ≡ at + 1 + k = omega arith in
        (rw (seek-first k at e) at e) ∙ n

    -- it goes on after j bytes that it passes over
    pub seek-after : (j k at : ℕ) → first_not ok s at j ≡ at + j → first_not ok s at (j + k) ≡ first_not ok s (at + j) k
    unfolding first_not
    seek-after zero k at e = rw (zero-add k, add-zero at)
    seek-after (suc j) k at e =
        let n : suc j + k ≡ suc (j + k) = omega arith in
        let m : at + suc j ≡ at + 1 + j = omega arith in
        rw (n, m, seek-first j at e) (seek-after j k (at + 1) (seek-others j at e))

    -- it passes over the last of some bytes if it passes over all
    seek-last : (j k at : ℕ) → first_not ok s at (j + k) ≡ at + (j + k) → first_not ok s (at + j) k ≡ at + (j + k)
    seek-last zero k at e = rw (add-zero at, zero-add k) (rw (zero-add k) at e)
    seek-last (suc j) k at e =
        let n : suc j + k ≡ suc (j + k) = omega arith in
        let m : at + suc j ≡ at + 1 + j = omega arith in
        let z : at + suc (j + k) ≡ at + 1 + (j + k) = omega arith in
        rw (n, m, z) (seek-last j k (at + 1) (seek-others (j + k) at (rw n at e)))

    -- a block that it passes over: it goes on after the block
    pub seek-on : (b i e : ℕ) → i + b ≤ e → first_not ok s i b ≡ i + b → first_not ok s i (e - i) ≡ first_not ok s (i + b) (e - (i + b))
    seek-on b i e h q =
        let n : e - i ≡ b + (e - (i + b)) = omega arith in
        rw n (seek-after b (e - (i + b)) i q)

    -- it is taken up after bytes that it passes over
    pub seek_from : (at i e : ℕ) → Passed ok s at i e → first_not ok s i (e - i) ≡ first_not ok s at (e - at)
    seek_from at i e p =
        let n : at + (i - at) ≡ i = omega (arith, p.least) in
        sym (seek-on (i - at) at e (omega (arith, n, p.most)) (p.none ∙ sym n) ∙ ap (λ (x : ℕ). first_not ok s x (e - x)) n)

    -- two stretches, one after the other, that it passes over: it passes over both
    pub seek-join : (at i e : ℕ) → at ≤ i → i ≤ e → first_not ok s at (i - at) ≡ i → first_not ok s i (e - i) ≡ e → first_not ok s at (e - at) ≡ e
    seek-join at i e h g p q =
        let n : e - at ≡ i - at + (e - i) = omega arith in
        let m : at + (i - at) ≡ i = omega arith in
        ap (first_not ok s at) n ∙ (seek-after (i - at) (e - i) at (p ∙ sym m) ∙ (ap (λ (x : ℕ). first_not ok s x (e - i)) m ∙ q))

    pub passed_on : (at i j end more : ℕ) → Passed ok s at i end → Passed ok s i j end → end ≤ more → Passed ok s at j more
    passed_on at i j end more p q h = record {
      least = omega (arith, p.least, q.least);
      most = omega (arith, q.most);
      none = seek-join at i j p.least q.least p.none q.none;
    }

    -- the last block, which it passes over: it passes over the bytes in it
    pub seek-tail : (b i e : ℕ) → b ≤ e → e ≤ i + b → i ≤ e → first_not ok s (e - b) b ≡ e - b + b → first_not ok s i (e - i) ≡ e
    seek-tail b i e h g l q =
        let j : ℕ = i + b - e in
        let n : b ≡ j + (e - i) = omega arith in
        let a : i ≡ e - b + j = omega arith in
        let z : e - b + (j + (e - i)) ≡ e = omega arith in
        ap (λ (x : ℕ). first_not ok s x (e - i)) a ∙ seek-last j (e - i) (e - b) (subst (λ (x : ℕ). first_not ok s (e - b) x ≡ e - b + x) n q) ∙ z

    -- two blocks, one at each end, that it passes over and that leave nothing between them: it passes over all
    pub seek-ends : (b i k : ℕ) → b ≤ k → k ≤ b + b → first_not ok s i b ≡ i + b → first_not ok s (i + k - b) b ≡ i + k - b + b → first_not ok s i k ≡ i + k
    seek-ends b i k h g p q =
        let n : k ≡ i + k - i = omega arith in
        ap (first_not ok s i) n ∙ (seek-on b i (i + k) (omega arith) p ∙ seek-tail b (i + b) (i + k) (omega arith) (omega arith) (omega arith) q)

    -- it ends among the bytes, or after them
    pub seek-most : (k at : ℕ) → first_not ok s at k ≤ at + k
    unfolding first_not
    seek-most zero at = omega arith
    seek-most (suc k) at = go (ok (get_or s at 0)) (seek-most k (at + 1))
      where
        go : (b : Bool) → first_not ok s (at + 1) k ≤ at + 1 + k → cond b (first_not ok s (at + 1) k) at ≤ at + suc k
        go true h = omega arith
        go false h = omega arith

    -- among more bytes it stops where it stops among the first of them
    pub seek-stops : (j k at : ℕ) → first_not ok s at j < at + j → first_not ok s at (j + k) ≡ first_not ok s at j
    unfolding first_not
    seek-stops zero k at h = absurd (omega arith)
    seek-stops (suc j) k at h =
        let n : suc j + k ≡ suc (j + k) = omega arith in
        rw n (go (ok (get_or s at 0)) h (seek-stops j k (at + 1)))
      where
        go : (b : Bool) → cond b (first_not ok s (at + 1) j) at < at + suc j → (first_not ok s (at + 1) j < at + 1 + j → first_not ok s (at + 1) (j + k) ≡ first_not ok s (at + 1) j)
            → cond b (first_not ok s (at + 1) (j + k)) at ≡ cond b (first_not ok s (at + 1) j) at
        go true q ih = ih (omega arith)
        go false q ih = refl

    -- it passes over bytes that all pass the test
    pub seek-through : (c u : List ℕ) (at : ℕ) → drop at s ≡ c ++ u → Every (λ b. ok b ≡ true) c → first_not ok s at (length c) ≡ at + length c
    unfolding first_not
    seek-through [] u at e h = omega arith
    seek-through (b ∷ c) u at e h =
        let here : get_or s at 0 ≡ b = ap (λ (n : ℕ). get_or s n 0) (sym (add-zero at)) ∙ (sym (get_or-drop at s 0 0) ∙ ap (λ (x : List ℕ). get_or x 0 0) e) in
        let next : drop (at + 1) s ≡ c ++ u = sym (drop-drop 1 at s) ∙ ap (drop 1) e in
        rw (here, h.0) (seek-through c u (at + 1) next h.1 ∙ omega arith)

  -- ---- what it means

  -- The walk finds the first fault of the bytes that fail the test: what is made of the faults, if the first alone counts there (`by`), is made of the walk's offset (`found`).
  -- The faults are those of number `no` in the line that has `line` lines before it, from byte i of its content on (`faults i`). The content stands at offset p; the walk goes
  -- over k bytes of it, from offset a on, after i bytes of the content.
  module _ {A : Type 0} (by : List Fault → A) (found : ℕ → A) (no line p : ℕ) (faults : ℕ → List ℕ → List Fault) (none : (i : ℕ) → faults i [] ≡ [])
      (more : (i b : ℕ) (bs : List ℕ) → faults i (b ∷ bs) ≡ ask (ok b) (at_byte no line i) ++ faults (suc i) bs)
      (first : (i : ℕ) (xs : List Fault) → by (at_byte no line i ∷ xs) ≡ found (p + i)) where
    pub seek_is : (s : List ℕ) (k a i : ℕ) → a ≡ p + i → a + k ≤ length s
        → cond (leb (a + k) (first_not ok s a k)) (by []) (found (first_not ok s a k)) ≡ by (faults i (take k (drop a s)))
    unfolding first_not
    seek_is s zero a i e h = rw (add-zero a, le-leb a a (omega arith), none i)
    seek_is s (suc k) a i e h =
        let q : a + suc k ≡ (a + 1) + k = omega arith in
        rw (byte-then s a (omega arith), q, more i (get_or s a 0) (take k (drop (a + 1) s))) (go (ok (get_or s a 0)) (seek_is s k (a + 1) (suc i) (omega arith) (omega arith)))
      where
        next : ℕ
        next = first_not ok s (a + 1) k

        rest : List Fault
        rest = faults (suc i) (take k (drop (a + 1) s))

        go : (b : Bool) → cond (leb ((a + 1) + k) next) (by []) (found next) ≡ by rest
            → cond (leb ((a + 1) + k) (cond b next a)) (by []) (found (cond b next a)) ≡ by (ask b (at_byte no line i) ++ rest)
        go true ih = ih
        go false ih = rw (lt-leb ((a + 1) + k) a (omega arith), first i rest, e)
