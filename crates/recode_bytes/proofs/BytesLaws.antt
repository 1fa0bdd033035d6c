-- What each step of the search and of the mapping has to show: a block without a byte over 7Fh is passed over by both, and one stretch of bytes is mapped after the other.
use mathlib.Core.Path.{◌≡◌, refl, sym, ap, ap₂, ◌∙◌}
use mathlib.Core.Bool.{Bool, true, false, cond}
use mathlib.Core.List.{List, [], ◌∷◌, ◌++◌, append_assoc, append-nil}
use Prim.Native.Nat.{ℕ, zero, suc, ◌+◌, ◌-◌, ◌%◌, ◌≤◌, ◌<◌}
use native.Mathlib.Omega.{arith}
use native.Mathlib.Nat.{zero-add}
use lib.Dec.{leb}
use lib.ListN.{length, get_or, set, take, drop, length-drop, length-append, take-append-drop, drop_of_length-le}
use lib.Seq.{take-add, take-suc, take-length, drop-length, drop-drop, drop-cons, drop_at, set_at, append_snoc, get_or-append_right, length-take-le}
use borrow.Rule.Slice.PartMut.{put_mid}
use native.Mathlib.Numerals.{add-one}
use borrow.Author.Tests.{leb-true, leb-false, ne_eqb}
use Rattle.meaning.specs.Lines.{most_seven_bits}
use Rattle.meaning.proofs.Bools.{Every, byte-then}
use Rattle.byte_low.specs.Seek.{first_not}
use Rattle.byte_low.proofs.SeekLaws.{seek-through, seek-on, seek-stops, seek-most}
use Rattle.byte_high.specs.High.{seven_bits, first_high, plain_front}
use Rattle.byte_high.proofs.HighLaws.{front-most, front-plain}
use Rattle.byte_put.specs.Places.{over}
use Rattle.byte_put.proofs.LendLaws.{length_over}
use Rattle.byte_put.proofs.OverLaws.{over_none, over-then}
use Rattle.meaning_recode.specs.Codes.{no_byte}
use Rattle.recode_bytes.specs.Mapped.{CodeTable, has_character, first_without, entry, mapped, mapped_at}

-- ---- what a search that comes to the end says of all bytes

pub seek-every : (ok : ℕ → Bool) (s : List ℕ) (k at : ℕ) → at + k ≤ length s → first_not ok s at k ≡ at + k → Every (λ b. ok b ≡ true) (take k (drop at s))
unfolding first_not
seek-every ok s zero at h e = tt
seek-every ok s (suc k) at h e =
    let n : at + suc k ≡ at + 1 + k = omega arith in
    rw (byte-then s at (omega arith)) (go (ok (get_or s at 0)) refl (e ∙ n) (λ g. seek-every ok s k (at + 1) (omega arith) g))
  where
    go : (x : Bool) → ok (get_or s at 0) ≡ x → cond x (first_not ok s (at + 1) k) at ≡ at + 1 + k
        → (first_not ok s (at + 1) k ≡ at + 1 + k → Every (λ b. ok b ≡ true) (take k (drop (at + 1) s)))
        → (ok (get_or s at 0) ≡ true) × Every (λ b. ok b ≡ true) (take k (drop (at + 1) s))
    go true q g rest = (q, rest g)
    go false q g rest = absurd (omega arith)

-- ---- a turn comes further

pub part-more : (i from end n : ℕ) → i < n → i ≤ from → from ≤ end → (from < n → from < end) → i < end
part-more i from end n l h m f = go (leb n from) refl
  where
    go : (x : Bool) → leb n from ≡ x → i < end
    go true q = omega (arith, leb-true n from q)
    go false q = omega (arith, f (leb-false n from q))

-- an entry as a byte, as code reads it: what is not there becomes 0 in both
pub entry-read : (t : List ℕ) (b : ℕ) → get_or t b 0 % 256 ≡ entry t b
entry-read [] b = refl
entry-read (c ∷ t) zero = refl
entry-read (c ∷ t) (suc b) = entry-read t b

-- ---- a byte below 80h

low-has : (t : List ℕ) → CodeTable t → (b : ℕ) → seven_bits b ≡ true → has_character t b ≡ true
low-has t h b e =
    let l = leb-true b most_seven_bits e in
    rw (h.low-stays b (omega arith), ne_eqb b no_byte (λ z. omega arith))

low-entry : (t : List ℕ) → CodeTable t → (b : ℕ) → seven_bits b ≡ true → entry t b ≡ b
low-entry t h b e =
    let l = leb-true b most_seven_bits e in
    ap (λ (n : ℕ). n % 256) (h.low-stays b (omega arith)) ∙ omega arith

every-has : (t : List ℕ) → CodeTable t → (c : List ℕ) → Every (λ b. seven_bits b ≡ true) c → Every (λ b. has_character t b ≡ true) c
every-has t h [] g = tt
every-has t h (b ∷ c) g = (low-has t h b g.0, every-has t h c g.1)

pub every-entry : (t : List ℕ) → CodeTable t → (c : List ℕ) → Every (λ b. seven_bits b ≡ true) c → mapped t c ≡ c
unfolding mapped
every-entry t h [] g = refl
every-entry t h (b ∷ c) g = ap₂ (λ (x : ℕ) (y : List ℕ). x ∷ y) (low-entry t h b g.0) (every-entry t h c g.1)

-- ---- the search

module _ (t s : List ℕ) where
  -- a block without a byte over 7Fh
  plain-without : CodeTable t → (at k : ℕ) → at + k ≤ length s → first_high s at k ≡ at + k → at + k ≡ first_without t s at k
  plain-without h at k l e =
      let c : List ℕ = take k (drop at s) in
      let n : length c ≡ k = length-take-le k (drop at s) (omega (arith, length-drop at s)) in
      sym (ap (first_without t s at) (sym n)
      ∙ (seek-through (has_character t) s c (drop k (drop at s)) at (sym (take-append-drop k (drop at s))) (every-has t h c (seek-every seven_bits s k at l e))
      ∙ ap (λ (m : ℕ). at + m) n))

  -- the search stops in a block, or goes on after it
  block-stops : (b i e found : ℕ) → i + b ≤ e → found ≡ first_without t s i b → found < i + b → found ≡ first_without t s i (e - i)
  block-stops b i e found h q l =
      let n : e - i ≡ b + (e - (i + b)) = omega arith in
      q ∙ (sym (seek-stops (has_character t) s b (e - (i + b)) i (omega (arith, q))) ∙ ap (first_without t s i) (sym n))

  block-over : (b i e found : ℕ) → i + b ≤ e → found ≡ first_without t s i b → i + b ≤ found → first_without t s (i + b) (e - (i + b)) ≡ first_without t s i (e - i)
  block-over b i e found h q l = sym (seek-on (has_character t) s b i e h (omega (arith, q, seek-most (has_character t) s b i)))

  -- bytes without one over 7Fh are passed over from i on
  passed : CodeTable t → (i from : ℕ) → i ≤ from → from ≤ length s → first_high s i (from - i) ≡ from → first_without t s from (length s - from) ≡ first_without t s i (length s - i)
  passed h i from l n p =
      let a : i + (from - i) ≡ from = omega arith in
      let q : from ≡ first_without t s i (from - i) = sym a ∙ plain-without h i (from - i) (omega arith) (p ∙ sym a) in
      ap (λ (x : ℕ). first_without t s x (length s - x)) (sym a) ∙ block-over (from - i) i (length s) from (omega arith) q (omega arith)

  pub plain-front : CodeTable t → (plain : ℕ) → plain ≡ plain_front s → first_without t s plain (length s - plain) ≡ first_without t s 0 (length s)
  plain-front h plain e =
      passed h 0 plain (omega arith) (front-most s plain e) (ap (first_high s 0) (omega arith) ∙ front-plain s plain e) ∙ ap (first_without t s 0) (omega arith)

  -- they are passed over from i on, then those up to the end are asked one by one
  module _ (h : CodeTable t) (i from end found : ℕ) (l : i ≤ from) (m : from ≤ end) (n : end ≤ length s) (p : first_high s i (from - i) ≡ from)
      (f : found ≡ first_without t s from (end - from)) where
    from-there : first_without t s from (length s - from) ≡ first_without t s i (length s - i)
    from-there = passed h i from l (omega arith) p

    pub part-stops : found < end → found ≡ first_without t s i (length s - i)
    part-stops g = block-stops (end - from) from (length s) found (omega arith) f (omega arith) ∙ from-there

    pub part-over : end ≤ found → first_without t s end (length s - end) ≡ first_without t s i (length s - i)
    part-over g =
        let a : from + (end - from) ≡ end = omega arith in
        ap (λ (x : ℕ). first_without t s x (length s - x)) (sym a) ∙ (block-over (end - from) from (length s) found (omega arith) f (omega arith) ∙ from-there)

-- ---- the mapping

pub length-mapped : (t c : List ℕ) → length (mapped t c) ≡ length c
unfolding mapped
length-mapped t [] = refl
length-mapped t (b ∷ c) = ap suc (length-mapped t c)

pub mapped-both : (t a c : List ℕ) → mapped t (a ++ c) ≡ mapped t a ++ mapped t c
unfolding mapped
mapped-both t [] c = refl
mapped-both t (b ∷ a) c = ap (λ (y : List ℕ). entry t b ∷ y) (mapped-both t a c)

-- what stands after the bytes that were put
drop-over : (x s : List ℕ) (at j : ℕ) → length x ≡ j → at ≤ length s → drop (at + j) (over at x s) ≡ drop (at + j) s
unfolding over
drop-over x s at j e h =
    let f : List ℕ = take at s ++ x in
    let n : length f ≡ at + j = omega (arith, length-append (take at s) x, length-take-le at s h) in
    ap (drop (at + j)) (sym (append_assoc (take at s) x (drop (at + length x) s)))
    ∙ (drop_at f (drop (at + length x) s) (at + j) n ∙ ap (λ (m : ℕ). drop (at + m) s) e)

-- the same bytes put again
over-same : (s : List ℕ) (at k : ℕ) → at + k ≤ length s → over at (take k (drop at s)) s ≡ s
unfolding over
over-same s at k h =
    let n : length (take k (drop at s)) ≡ k = length-take-le k (drop at s) (omega (arith, length-drop at s)) in
    rw (n, ← drop-drop k at s, take-append-drop k (drop at s), take-append-drop at s)

module _ (t : List ℕ) where
  mapped-one : (c : List ℕ) (b : ℕ) → mapped t (c ++ (b ∷ [])) ≡ mapped t c ++ (entry t b ∷ [])
  unfolding mapped
  mapped-one c b = mapped-both t c (b ∷ [])

  pub map-none : (s : List ℕ) (at : ℕ) → s ≡ mapped_at t at 0 s
  unfolding mapped_at mapped
  map-none s at = over_none s at

  pub length_at : (s : List ℕ) (at k : ℕ) → at + k ≤ length s → length (mapped_at t at k s) ≡ length s
  unfolding mapped_at
  length_at s at k h =
      let n : length (take k (drop at s)) ≡ k = length-take-le k (drop at s) (omega (arith, length-drop at s)) in
      length_over (mapped t (take k (drop at s))) s at (omega (arith, length-mapped t (take k (drop at s)), n))

  pub map-then : (s : List ℕ) (at j k : ℕ) → at + (j + k) ≤ length s → mapped_at t (at + j) k (mapped_at t at j s) ≡ mapped_at t at (j + k) s
  unfolding mapped_at
  map-then s at j k h =
      let a : List ℕ = take j (drop at s) in
      let c : List ℕ = take k (drop (at + j) s) in
      let x : List ℕ = mapped t a in
      let y : List ℕ = mapped t c in
      let la : length a ≡ j = length-take-le j (drop at s) (omega (arith, length-drop at s)) in
      let lc : length c ≡ k = length-take-le k (drop (at + j) s) (omega (arith, length-drop (at + j) s)) in
      let lx : length x ≡ j = length-mapped t a ∙ la in
      let ly : length y ≡ k = length-mapped t c ∙ lc in
      let both : x ++ y ≡ mapped t (take (j + k) (drop at s)) =
      sym (mapped-both t a c) ∙ ap (mapped t) (ap (λ (u : List ℕ). a ++ take k u) (sym (drop-drop j at s)) ∙ sym (take-add j k (drop at s))) in
      ap (λ (u : List ℕ). over (at + j) (mapped t (take k u)) (over at x s)) (drop-over x s at j lx (omega arith))
      ∙ (ap (λ (m : ℕ). over (at + m) y (over at x s)) (sym lx)
      ∙ (over-then s at x y (omega (arith, length-append x y, lx, ly)) ∙ ap (λ (u : List ℕ). over at u s) both))

  -- one byte more of a part is mapped, after i of its bytes
  pub map-more : (c now : List ℕ) (i : ℕ) → i < length c → now ≡ mapped t (take i c) ++ drop i c
      → set now i (get_or t (get_or now i 0) 0 % 256) ≡ mapped t (take (i + 1) c) ++ drop (i + 1) c
  map-more c now i h e =
      let x : List ℕ = mapped t (take i c) in
      let rest : List ℕ = drop (suc i) c in
      let b : ℕ = get_or c i 0 in
      let long : length x ≡ i = length-mapped t (take i c) ∙ length-take-le i c (omega arith) in
      let here : now ≡ x ++ b ∷ rest = e ∙ ap (λ (u : List ℕ). x ++ u) (drop-cons c i 0 h) in
      let first : i - length x ≡ 0 = omega arith in
      let same : get_or now i 0 ≡ b = ap (λ (u : List ℕ). get_or u i 0) here ∙ (get_or-append_right x (b ∷ rest) i 0 (omega arith) ∙ ap (λ (n : ℕ). get_or (b ∷ rest) n 0) first) in
      let value : get_or t (get_or now i 0) 0 % 256 ≡ entry t b = entry-read t (get_or now i 0) ∙ ap (entry t) same in
      let more : mapped t (take (suc i) c) ≡ x ++ (entry t b ∷ []) = ap (mapped t) (take-suc c i 0 h) ∙ mapped-one (take i c) b in
      ap₂ (λ (u : List ℕ) (v : ℕ). set u i v) here value
      ∙ (set_at x b rest (entry t b) i long ∙ sym (rw (add-one i, more) (append_snoc x (entry t b) rest)))

  -- all of a part is mapped
  pub part-mapped : (s now : List ℕ) (at k n i : ℕ) → n ≡ k → at + k ≤ length s → length (take n (drop at s)) ≤ i → i ≤ length (take n (drop at s))
      → now ≡ mapped t (take i (take n (drop at s))) ++ drop i (take n (drop at s)) → put_mid at n s now ≡ mapped_at t at k s
  unfolding mapped_at over
  part-mapped s now at k n i q h most least e =
      let part : List ℕ = take n (drop at s) in
      let all : i ≡ length part = omega arith in
      let done : now ≡ mapped t part = rw (all, take-length part, drop-length part, append-nil (mapped t part)) at e in
      let long : length (mapped t (take k (drop at s))) ≡ k = length-mapped t (take k (drop at s)) ∙ length-take-le k (drop at s) (omega (arith, length-drop at s)) in
      rw (done, q, long, drop-drop k at s) refl

  -- a block without a byte over 7Fh stays as it is
  plain-maps : CodeTable t → (s : List ℕ) (at k : ℕ) → at + k ≤ length s → first_high s at k ≡ at + k → s ≡ mapped_at t at k s
  unfolding mapped_at
  plain-maps g s at k h e = rw (every-entry t g (take k (drop at s)) (seek-every seven_bits s k at h e)) (sym (over-same s at k h))

  pub map-front : CodeTable t → (s : List ℕ) (plain : ℕ) → plain ≡ plain_front s → s ≡ mapped_at t 0 plain s
  map-front g s plain e =
      let l = front-most s plain e in
      plain-maps g s 0 plain (omega arith) (front-plain s plain e ∙ sym (zero-add plain))

  pub map-all : (s : List ℕ) → mapped_at t 0 (length s) s ≡ mapped t s
  unfolding mapped_at over
  map-all s =
      let over : drop (0 + length (mapped t s)) s ≡ [] = drop_of_length-le s {i = 0 + length (mapped t s)} (omega (arith, length-mapped t s)) in
      rw (take-length s, over, append-nil (mapped t s))

  -- one stretch more, from i on, after those from `at` on
  pub map-turn : (s₀ s s' : List ℕ) (at i k : ℕ) → at ≤ i → i + k ≤ length s₀ → s ≡ mapped_at t at (i - at) s₀ → s' ≡ mapped_at t i k s → s' ≡ mapped_at t at (i + k - at) s₀
  map-turn s₀ s s' at i k l h e q =
      let n : at + (i - at) ≡ i = omega arith in
      let m : i - at + k ≡ i + k - at = omega arith in
      q ∙ (ap₂ (λ (j : ℕ) (u : List ℕ). mapped_at t j k u) (sym n) e ∙ (map-then s₀ at (i - at) k (omega arith) ∙ ap (λ (j : ℕ). mapped_at t at j s₀) m))

  -- bytes without one over 7Fh are passed over from i on, then those up to the end are mapped
  pub map-part : CodeTable t → (s₀ s s' : List ℕ) (i from end : ℕ) → i ≤ from → from ≤ end → end ≤ length s₀ → length s ≡ length s₀ → s ≡ mapped_at t 0 i s₀
      → first_high s i (from - i) ≡ from → s' ≡ mapped_at t from (end - from) s → s' ≡ mapped_at t 0 end s₀
  map-part h s₀ s s' i from end l m n k e p q =
      let a : i + (from - i) ≡ from = omega arith in
      let stays : s ≡ mapped_at t i (from - i) s = plain-maps h s i (from - i) (omega arith) (p ∙ sym a) in
      let by : (j k : ℕ) → j ≡ k → mapped_at t 0 j s₀ ≡ mapped_at t 0 k s₀ = λ j k x. ap (λ (n : ℕ). mapped_at t 0 n s₀) x in
      let first : s ≡ mapped_at t 0 from s₀ = map-turn s₀ s s 0 i (from - i) (omega arith) (omega arith) (e ∙ by i (i - 0) (omega arith)) stays ∙ by (i + (from - i) - 0) from (omega arith) in
      map-turn s₀ s s' 0 from (end - from) (omega arith) (omega arith) (first ∙ by from (from - 0) (omega arith)) q ∙ by (from + (end - from) - 0) end (omega arith)
