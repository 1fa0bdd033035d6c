-- The walk over a set's bytes gives its stream, and stays within the set.
use mathlib.Core.Path.{◌≡◌, refl, sym, ap, ap₂, ◌∙◌}
use mathlib.Core.Bool.{Bool, true, false, cond}
use mathlib.Core.List.{List, [], ◌∷◌, ◌++◌, append-nil, cons≢nil}
use Prim.Native.Nat.{ℕ, zero, suc, ◌+◌, ◌-◌, ◌≤◌, ◌<◌}
use native.Mathlib.Omega.{arith}
use native.Mathlib.Nat.{add-zero, zero-add}
use native.Mathlib.Numerals.{add-one}
use lib.Dec.{eqb}
use lib.ListN.{length, get_or, set, take, drop, length-append, length-drop}
use lib.Seq.{get_or-drop, drop-drop, drop_at, take_at, set_split}
use borrow.Author.Tests.{ne_eqb}
use Rattle.meaning.specs.Digits.{digits}
use Rattle.meaning.specs.Field.{Field}
use Rattle.meaning.specs.Refusals.{done}
use Rattle.meaning.specs.Pieces.{parsed}
use Rattle.meaning.specs.Lines.{cr, lf, line_size, size, line_then, render}
use Rattle.meaning.specs.Rules.{start_faults}
use Rattle.meaning.proofs.Bools.{Every}
use Rattle.meaning.proofs.LeftLaws.{one-more, none_left}
use Rattle.meaning.proofs.FaultLaws.{High}
use Rattle.meaning.proofs.DigitLaws.{digits-all}
use Rattle.meaning.proofs.LineLaws.{Sound, length-render}
use Rattle.meaning.proofs.RuleLaws.{ruled}
use Rattle.meaning.proofs.SetLaws.{Standing, Accepted, accepted}
use Rattle.meaning_cable.specs.Stream.{separator, bare_then, stream}
use Rattle.meaning_cable.proofs.StreamLaws.{digits-high, bare-end, stream-length}
use Rattle.meaning_cable.specs.Blocks.{set_alone}
use Rattle.meaning_cable.proofs.OneSetLaws.{alone-read}
use Rattle.line_read.specs.Told.{told_length}
use Rattle.line_read.proofs.LineMeaning.{read-line}
use Rattle.line_read.proofs.ToldLaws.{read_told}
use Rattle.byte_put.specs.Places.{over}
use Rattle.byte_put.proofs.OverLaws.{over_none, over-then}
use Rattle.cable_data.specs.Carried.{carried, width, data_from, place_after, HasData}

-- ---- one byte

module _ (s : List ℕ) (at b : ℕ) (t : List ℕ) (w : drop at s ≡ b ∷ t) where
  byte-is : get_or s at 0 ≡ b
  byte-is = ap (λ (n : ℕ). get_or s n 0) (sym (add-zero at)) ∙ (sym (get_or-drop at s 0 0) ∙ ap (λ (u : List ℕ). get_or u 0 0) w)

  rest-is : drop (at + 1) s ≡ t
  rest-is = sym (drop-drop 1 at s) ∙ ap (drop 1) w

-- a byte of 20h or more is carried as itself, a 0Dh as 1Ch with the 0Ah after it
high-carried : (b : ℕ) → 32 ≤ b → (carried b ≡ b) × (width b ≡ 1)
unfolding carried width
high-carried b h = let e = ne_eqb b cr (λ q. omega arith) in (rw e, rw e)

-- one byte of data more, for w bytes of the set
module _ (s : List ℕ) (at b w : ℕ) (g : get_or s at 0 ≡ b) (e : width b ≡ w) (n : ℕ) where
  width_is : at + width (get_or s at 0) ≡ at + w
  width_is = ap (λ (c : ℕ). at + width c) g ∙ ap (λ (k : ℕ). at + k) e

  data-step : data_from s at (suc n) ≡ carried b ∷ data_from s (at + w) n
  unfolding data_from
  data-step = ap₂ (λ (c m : ℕ). carried c ∷ data_from s m n) g width_is

  place-step : place_after s at (suc n) ≡ place_after s (at + w) n
  unfolding place_after
  place-step = ap (λ (m : ℕ). place_after s m n) width_is

-- ---- bytes of 20h or more

module _ (s : List ℕ) where
  -- they are carried as they are
  high-data : (x t : List ℕ) (at n : ℕ) → High x → drop at s ≡ x ++ t → data_from s at (length x + n) ≡ x ++ data_from s (at + length x) n
  high-data [] t at n h w = rw (zero-add n, add-zero at) refl
  high-data (b ∷ x) t at n h w =
      let c = high-carried b h.0 in
      let m : suc (length x) + n ≡ suc (length x + n) = omega arith in
      let k : at + 1 + length x ≡ at + suc (length x) = omega arith in
      ap (data_from s at) m
      ∙ (data-step s at b 1 (byte-is s at b (x ++ t) w) c.1 (length x + n)
      ∙ (ap₂ (λ (d : ℕ) (u : List ℕ). d ∷ u) c.0 (high-data x t (at + 1) n h.1 (rest-is s at b (x ++ t) w))
      ∙ ap (λ (j : ℕ). b ∷ (x ++ data_from s j n)) k))

  -- and are passed over one by one
  high-place : (x t : List ℕ) (at n : ℕ) → High x → drop at s ≡ x ++ t → place_after s at (length x + n) ≡ place_after s (at + length x) n
  high-place [] t at n h w = rw (zero-add n, add-zero at) refl
  high-place (b ∷ x) t at n h w =
      let c = high-carried b h.0 in
      let m : suc (length x) + n ≡ suc (length x + n) = omega arith in
      let k : at + 1 + length x ≡ at + suc (length x) = omega arith in
      ap (place_after s at) m
      ∙ (place-step s at b 1 (byte-is s at b (x ++ t) w) c.1 (length x + n)
      ∙ (high-place x t (at + 1) n h.1 (rest-is s at b (x ++ t) w) ∙ ap (λ (j : ℕ). place_after s j n) k))

  -- the end of a line
  end-data : (t : List ℕ) (at n : ℕ) → drop at s ≡ cr ∷ lf ∷ t → data_from s at (suc n) ≡ separator ∷ data_from s (at + 2) n
  unfolding carried width
  end-data t at n w = data-step s at cr 2 (byte-is s at cr (lf ∷ t) w) refl n

  end-place : (t : List ℕ) (at n : ℕ) → drop at s ≡ cr ∷ lf ∷ t → place_after s at (suc n) ≡ place_after s (at + 2) n
  unfolding width
  end-place t at n w = place-step s at cr 2 (byte-is s at cr (lf ∷ t) w) refl n

-- ---- one line

high-both : (x y : List ℕ) → High x → High y → High (x ++ y)
high-both [] y g h = h
high-both (b ∷ x) y g h = (g.0, high-both x y g.1 h)

-- the line of a field without its end
abbrev pub bare : Field → List ℕ
bare f = bare_then f []

pub bare_high : (f : Field) → Sound f → High (bare f)
bare_high f h =
    high-both (digits 3 (line_size f)) (digits 4 f.label ++ (f.content ++ [])) (digits-high (digits 3 (line_size f)) (digits-all 3 (line_size f)))
    (high-both (digits 4 f.label) (f.content ++ []) (digits-high (digits 4 f.label) (digits-all 4 f.label)) (high-both f.content [] h.no-low tt))

pub bare-length : (f : Field) → length (bare f) + 2 ≡ line_size f
bare-length f = simp length-append (omega arith)

bare-line : (f : Field) (t : List ℕ) → line_then f t ≡ bare f ++ (cr ∷ lf ∷ t)
bare-line f t = sym (bare-end f [] (cr ∷ lf ∷ t))

module _ (s : List ℕ) (f : Field) (t : List ℕ) (at : ℕ) (h : Sound f) (w : drop at s ≡ line_then f t) where
  front : drop at s ≡ bare f ++ (cr ∷ lf ∷ t)
  front = w ∙ bare-line f t

  at-end : drop (at + length (bare f)) s ≡ cr ∷ lf ∷ t
  at-end = sym (drop-drop (length (bare f)) at s) ∙ (ap (drop (length (bare f))) front ∙ drop_at (bare f) (cr ∷ lf ∷ t) (length (bare f)) refl)

  after : at + length (bare f) + 2 ≡ at + line_size f
  after = omega (arith, bare-length f)

  pub next-line : drop (at + line_size f) s ≡ t
  next-line =
      ap (λ (n : ℕ). drop n s) (sym after) ∙ (sym (drop-drop 2 (at + length (bare f)) s) ∙ ap (drop 2) at-end)

  -- the data of a line are the line with 1Ch for its end
  line-data : (n : ℕ) → data_from s at (length (bare f) + suc n) ≡ bare f ++ (separator ∷ data_from s (at + line_size f) n)
  line-data n =
      high-data s (bare f) (cr ∷ lf ∷ t) at (suc n) (bare_high f h) front
      ∙ ap (λ (u : List ℕ). bare f ++ u) (end-data s t (at + length (bare f)) n at-end ∙ ap (λ (m : ℕ). separator ∷ data_from s m n) after)

  -- a line of n bytes has n - 1 bytes of data
  pub line-passed : (m n : ℕ) → m + 1 ≡ line_size f → place_after s at (m + n) ≡ place_after s (at + line_size f) n
  line-passed m n e =
      let k : m + n ≡ length (bare f) + suc n = omega (arith, bare-length f) in
      ap (place_after s at) k
      ∙ (high-place s (bare f) (cr ∷ lf ∷ t) at (suc n) (bare_high f h) front
      ∙ (end-place s t (at + length (bare f)) n at-end ∙ ap (λ (j : ℕ). place_after s j n) after))

-- bytes in front of the end stand where they are in the set
module _ (s : List ℕ) where
  high-within : (x t : List ℕ) (at n : ℕ) → High x → drop at s ≡ x ++ t → n ≤ length x → place_after s at n ≡ at + n
  unfolding place_after
  high-within x t at zero h w l = sym (add-zero at)
  high-within [] t at (suc n) h w l = absurd (omega arith)
  high-within (b ∷ x) t at (suc n) h w l =
      place-step s at b 1 (byte-is s at b (x ++ t) w) (high-carried b h.0).1 n
      ∙ (high-within x t (at + 1) n h.1 (rest-is s at b (x ++ t) w) (omega arith) ∙ omega arith)

pub within-line : (s : List ℕ) (f : Field) (t : List ℕ) (at n : ℕ) → Sound f → drop at s ≡ line_then f t → n + 1 < line_size f → place_after s at n ≡ at + n
within-line s f t at n h w l =
    high-within s (bare f) (cr ∷ lf ∷ t) at n (bare_high f h) (w ∙ bare-line f t) (omega (arith, bare-length f))

-- ---- all lines

pub stream-more : (f g : Field) (fs : List Field) → stream (f ∷ g ∷ fs) ≡ bare f ++ (separator ∷ stream (g ∷ fs))
unfolding stream
stream-more f g fs = sym (bare-end f [] (separator ∷ stream (g ∷ fs)))

stream-more-length : (f g : Field) (fs : List Field) → length (stream (f ∷ g ∷ fs)) ≡ length (bare f) + suc (length (stream (g ∷ fs)))
stream-more-length f g fs = ap length (stream-more f g fs) ∙ length-append (bare f) (separator ∷ stream (g ∷ fs))

module _ (s : List ℕ) where
  -- the data are the stream: by induction on the lines
  stream-is : (f : Field) (fs : List Field) (at : ℕ) → Every Sound (f ∷ fs) → drop at s ≡ render (f ∷ fs) []
      → data_from s at (length (stream (f ∷ fs))) ≡ stream (f ∷ fs)
  unfolding stream data_from
  stream-is f [] at h w =
      ap (data_from s at) (sym (add-zero (length (bare f))))
      ∙ (high-data s (bare f) (cr ∷ lf ∷ []) at 0 (bare_high f h.0) (w ∙ bare-line f []) ∙ append-nil (bare f))
  stream-is f (g ∷ fs) at h w =
      ap (data_from s at) (stream-more-length f g fs)
      ∙ (line-data s f (render (g ∷ fs) []) at h.0 w (length (stream (g ∷ fs)))
      ∙ (ap (λ (u : List ℕ). bare f ++ (separator ∷ u)) (stream-is g fs (at + line_size f) h.1 (next-line s f (render (g ∷ fs) []) at h.0 w))
      ∙ sym (stream-more f g fs)))

  -- they end before the end of the last line
  stream-ends : (f : Field) (fs : List Field) (at : ℕ) → Every Sound (f ∷ fs) → drop at s ≡ render (f ∷ fs) []
      → place_after s at (length (stream (f ∷ fs))) + 2 ≡ at + size (f ∷ fs)
  unfolding stream
  stream-ends f [] at h w =
      omega (arith, within-line s f [] at (length (bare f)) h.0 w (omega (arith, bare-length f)), bare-length f)
  stream-ends f (g ∷ fs) at h w =
      let m : length (bare f) + suc (length (stream (g ∷ fs))) ≡ length (bare f) + 1 + length (stream (g ∷ fs)) = omega arith in
      let e : place_after s at (length (stream (f ∷ g ∷ fs))) ≡ place_after s (at + line_size f) (length (stream (g ∷ fs))) =
      ap (place_after s at) (stream-more-length f g fs ∙ m)
      ∙ line-passed s f (render (g ∷ fs) []) at h.0 w (length (bare f) + 1) (length (stream (g ∷ fs))) (omega (arith, bare-length f)) in
      omega (arith, e, stream-ends g fs (at + line_size f) h.1 (next-line s f (render (g ∷ fs) []) at h.0 w))

  -- ---- a part of the data

  place-add : (at m n : ℕ) → place_after s at (m + n) ≡ place_after s (place_after s at m) n
  unfolding place_after
  place-add at zero n = ap (place_after s at) (zero-add n)
  place-add at (suc m) n =
      let e : suc m + n ≡ suc (m + n) = omega arith in
      ap (place_after s at) e ∙ place-add (at + width (get_or s at 0)) m n

  data-add : (at m n : ℕ) → data_from s at (m + n) ≡ data_from s at m ++ data_from s (place_after s at m) n
  unfolding place_after data_from
  data-add at zero n = ap (data_from s at) (zero-add n)
  data-add at (suc m) n =
      let e : suc m + n ≡ suc (m + n) = omega arith in
      ap (data_from s at) e ∙ ap (λ (u : List ℕ). carried (get_or s at 0) ∷ u) (data-add (at + width (get_or s at 0)) m n)

  pub length-data : (at n : ℕ) → length (data_from s at n) ≡ n
  unfolding data_from
  length-data at zero = refl
  length-data at (suc n) = ap suc (length-data (at + width (get_or s at 0)) n)

  width_some : (b : ℕ) → 1 ≤ width b
  unfolding width
  width_some b = go (eqb b cr)
    where
      go : (t : Bool) → 1 ≤ cond t 2 1
      go true = omega arith
      go false = omega arith

  -- a byte of data stands for one of the set or more
  pub place-on : (at n : ℕ) → at + n ≤ place_after s at n
  unfolding place_after
  place-on at zero = omega arith
  place-on at (suc n) = omega (arith, place-on (at + width (get_or s at 0)) n, width_some (get_or s at 0))

-- ---- one set alone in its bytes

-- its lines are those of an accepted set, and they are all of its bytes
pub alone : (s : List ℕ) (fs : List Field) → set_alone s ≡ done fs → Accepted s (parsed fs [])
alone s fs e = accepted s (parsed fs []) (alone-read s fs e)

-- it has a line
no-line {ℓ} : {X : Type ℓ} → Standing [] → X
unfolding start_faults
no-line h = absurd (cons≢nil (ruled [] h.right).0.begins)

-- The data of a set are its stream, and any part of them a part of it. The part stands within the set.
module _ (s : List ℕ) (fs : List Field) (e : set_alone s ≡ done fs) (c n : ℕ) (h : c + n ≤ length (stream fs)) where
  abbrev rest : ℕ
  rest = length (stream fs) - (c + n)

  all-is : c + (n + rest) ≡ length (stream fs)
  all-is = omega arith

  data-all : (gs : List Field) → Accepted s (parsed gs []) → data_from s 0 (length (stream gs)) ≡ stream gs
  data-all [] a = no-line a.standing
  data-all (g ∷ gs) a = stream-is s g gs 0 a.standing.sound a.bytes

  place-all : (gs : List Field) → Accepted s (parsed gs []) → place_after s 0 (length (stream gs)) ≤ length s
  place-all [] a = no-line a.standing
  place-all (g ∷ gs) a = omega (arith, stream-ends s g gs 0 a.standing.sound a.bytes, ap length a.bytes, length-render (g ∷ gs) [])

  pub window-is : data_from s (place_after s 0 c) n ≡ take n (drop c (stream fs))
  window-is =
      let from : ℕ = place_after s 0 c in
      let whole : data_from s 0 c ++ data_from s from (n + rest) ≡ stream fs = sym (data-add s 0 c (n + rest)) ∙ (ap (data_from s 0) all-is ∙ data-all fs (alone s fs e)) in
      let after-c : data_from s from (n + rest) ≡ drop c (stream fs) =
      sym (drop_at (data_from s 0 c) (data_from s from (n + rest)) c (length-data s 0 c)) ∙ ap (drop c) whole in
      sym (take_at (data_from s from n) (data_from s (place_after s from n) rest) n (length-data s from n)) ∙ (ap (take n) (sym (data-add s from n rest)) ∙ ap (take n) after-c)

  pub window-within : place_after s (place_after s 0 c) n ≤ length s
  window-within =
      let from : ℕ = place_after s 0 c in
      let whole : place_after s (place_after s from n) rest ≡ place_after s 0 (length (stream fs)) =
      sym (place-add s from n rest) ∙ (sym (place-add s 0 c (n + rest)) ∙ ap (place_after s 0) all-is) in
      omega (arith, place-on s (place_after s from n) rest, whole, place-all fs (alone s fs e))

-- ---- the lines before a byte of the data, passed over by their lengths

-- From an offset on stand lines that have more than `left` bytes of data, with a 1Ch for the last one too.
pub record Ahead (s : List ℕ) (at left : ℕ) : Type 0 where
  pub lines : List Field
  pub sound : Every Sound lines
  pub bytes : drop at s ≡ render lines []
  pub enough : left + length lines < size lines

pub ahead-first : (s : List ℕ) (n : ℕ) → HasData s n → Ahead s 0 n
ahead-first s n d = go d.0 (alone s d.0 d.1) d.2
  where
    go : (fs : List Field) → Accepted s (parsed fs []) → n ≤ length (stream fs) → Ahead s 0 n
    go [] a h = no-line a.standing
    go (f ∷ fs) a h = record { lines = f ∷ fs; sound = a.standing.sound; bytes = a.bytes; enough = omega (arith, stream-length f fs) }

-- w is the length of the content that the line at the offset says
module _ (s : List ℕ) (at left : ℕ) (a : Ahead s at left) (w : ℕ) (q : w ≡ told_length s at) where
  record Here : Type 0 where
    first : Field
    others : List Field
    sound : Every Sound (first ∷ others)
    bytes : drop at s ≡ render (first ∷ others) []
    enough : left + suc (length others) < line_size first + size others
    size_is : w + 9 ≡ line_size first

  here : Here
  here = go a.lines a.sound a.bytes a.enough
    where
      go : (fs : List Field) → Every Sound fs → drop at s ≡ render fs [] → left + length fs < size fs → Here
      go [] h b l = absurd (omega arith)
      go (f ∷ fs) h b l =
          let r = read_told s at (read-line s at f (render fs []) b h.0) in
          record { first = f; others = fs; sound = h; bytes = b; enough = l; size_is = omega (arith, r.0, q) }

  -- it lies within the set
  pub line-within : at + (w + 9) ≤ length s
  line-within =
      let x = here in
      omega (arith, x.size_is, ap length x.bytes, length-drop at s, length-render (x.first ∷ x.others) [])

  -- the byte is in this line
  pub place_here : left < w + 8 → place_after s at left ≡ at + left
  place_here h =
      let x = here in
      within-line s x.first (render x.others []) at left x.sound.0 x.bytes (omega (arith, x.size_is))

  -- it is in a later one
  module _ (h : w + 8 ≤ left) where
    pub place-later : place_after s at left ≡ place_after s (at + (w + 8 + 1)) (left - (w + 8))
    place-later =
        let x = here in
        let k : left ≡ w + 8 + (left - (w + 8)) = omega arith in
        let j : at + line_size x.first ≡ at + (w + 8 + 1) = omega (arith, x.size_is) in
        ap (place_after s at) k
        ∙ (line-passed s x.first (render x.others []) at x.sound.0 x.bytes (w + 8) (left - (w + 8)) (omega (arith, x.size_is))
        ∙ ap (λ (m : ℕ). place_after s m (left - (w + 8))) j)

    pub ahead-next : Ahead s (at + (w + 8 + 1)) (left - (w + 8))
    ahead-next =
        let x = here in
        let j : at + line_size x.first ≡ at + (w + 8 + 1) = omega (arith, x.size_is) in
        record {
          lines = x.others;
          sound = x.sound.1;
          bytes = ap (λ (m : ℕ). drop m s) (sym j) ∙ next-line s x.first (render x.others []) at x.sound.0 x.bytes;
          enough = omega (arith, x.size_is, x.enough);
        }

-- ---- one turn of `put_data`

one-put : (out : List ℕ) (j b : ℕ) → j < length out → set out j b ≡ over j (b ∷ []) out
unfolding over
one-put out j b h = set_split out j b h ∙ ap (λ (m : ℕ). take j out ++ (b ∷ drop m out)) (sym (add-one j))

pub data-turn : (s out : List ℕ) (at i n to b w : ℕ) → i < n → to + n ≤ length out → b ≡ carried (get_or s at 0) → w ≡ width (get_or s at 0)
    → over (to + (i + 1)) (data_from s (at + w) (n - (i + 1))) (set out (to + i) b) ≡ over (to + i) (data_from s at (n - i)) out
unfolding data_from
data-turn s out at i n to b w h g p q =
    let later : List ℕ = data_from s (at + w) (n - (i + 1)) in
    let k : to + (i + 1) ≡ to + i + length (b ∷ []) = omega arith in
    let all : data_from s at (n - i) ≡ (b ∷ []) ++ later =
    ap (data_from s at) (one-more h) ∙ ap₂ (λ (x y : ℕ). x ∷ data_from s (at + y) (n - (i + 1))) (sym p) (sym q) in
    ap₂ (λ (m : ℕ) (u : List ℕ). over m later u) k (one-put out (to + i) b (omega arith))
    ∙ (over-then out (to + i) (b ∷ []) later (omega (arith, length-data s (at + w) (n - (i + 1)))) ∙ ap (λ (u : List ℕ). over (to + i) u out) (sym all))

pub place-turn : (s : List ℕ) (at i n w : ℕ) → i < n → w ≡ width (get_or s at 0) → place_after s at (n - i) ≡ place_after s (at + w) (n - (i + 1))
unfolding place_after
place-turn s at i n w h q = ap (place_after s at) (one-more h) ∙ ap (λ (y : ℕ). place_after s (at + y) (n - (i + 1))) (sym q)

pub data-none : (s out : List ℕ) (at i n to : ℕ) → n ≤ i → over to (data_from s at (n - i)) out ≡ out
unfolding data_from
data-none s out at i n to h = ap (λ (k : ℕ). over to (data_from s at k) out) (none_left h) ∙ sym (over_none out to)
