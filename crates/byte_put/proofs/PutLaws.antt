-- One turn of `put_digits` and of the copies, over lists.
use mathlib.Core.Path.{◌≡◌, refl, sym, ap, ap₂, ◌∙◌}
use mathlib.Core.List.{List, [], ◌∷◌, ◌++◌, append_assoc}
use Prim.Native.Nat.{ℕ, zero, suc, ◌+◌, ◌-◌, ◌*◌, ◌/◌, ◌%◌, ◌≤◌, ◌<◌}
use native.Mathlib.Nat.{add-zero, not-suc-le-zero}
use native.Mathlib.Numerals.{add-one}
use native.Mathlib.Omega.{arith}
use lib.ListN.{length, get_or, set, take, drop, length-drop, length-append, take-append-drop}
use lib.Seq.{length-take-le, set_at, set_split, take-suc, drop-cons, append_snoc, take_at, drop_at, take-set-le, drop-drop, drop-append-le, take_all, take-add, sets, sets-eq}
use borrow.Rule.Slice.PartMut.{mid_of, put_mid}
use Rattle.meaning.specs.Digits.{digits, digit_zero}
use Rattle.meaning.proofs.DigitLaws.{length-digits}
use Rattle.byte_put.specs.Places.{over}
use Rattle.byte_put.proofs.LendLaws.{mid-tail, put-tail}

-- no digits put
pub digits-none : (b : List ℕ) (at left : ℕ) → over at (digits 0 left) b ≡ b
unfolding over
digits-none b at left = rw (add-zero at) (take-append-drop at b)

-- after a byte that is stored at an offset stands what stood there
drop-stored : (b : List ℕ) (i x : ℕ) → i < length b → drop i (set b i x) ≡ x ∷ drop (suc i) b
drop-stored b i x h =
    ap (drop i) (set_split b i x h) ∙ drop_at (take i b) (x ∷ drop (suc i) b) i (length-take-le i b (omega arith))

-- the last digit stored, then those before it put, is all of them put
digit-step : (b : List ℕ) (at i left : ℕ) → at + i < length b
    → over at (digits i (left / 10)) (set b (at + i) (digit_zero + left % 10)) ≡ over at (digits (suc i) left) b
unfolding over
digit-step b at i left h =
    let e : suc (at + i) ≡ at + suc i = omega arith in
    rw (
      length-digits i (left / 10),
      length-digits (suc i) left,
      take-set-le at b (at + i) (digit_zero + left % 10) (omega arith),
      drop-stored b (at + i) (digit_zero + left % 10) h,
      append_snoc (digits i (left / 10)) (digit_zero + left % 10) (drop (at + suc i) b),
      e,
    ) refl

-- what the division leaves is the last digit
pub last-digit : (left : ℕ) → left - left / 10 * 10 ≡ left % 10
last-digit left = omega arith

pub digit-turn : (b : List ℕ) (at i left : ℕ) → 0 < i → at + i ≤ length b
    → over at (digits (i - 1) (left / 10)) (set b (at + (i - 1)) (digit_zero + (left - left / 10 * 10))) ≡ over at (digits i left) b
digit-turn b at zero left p h = absurd (not-suc-le-zero p)
digit-turn b at (suc i) left p h =
    let q : suc i - 1 ≡ i = omega arith in
    rw (q, last-digit left) (digit-step b at i left (omega arith))

-- a turn of a copy to the front, byte by byte
pub copy-turn : (src dst : List ℕ) (i : ℕ) → i < length src → i < length dst
    → set (take i src ++ drop i dst) i (get_or src i 0) ≡ take (i + 1) src ++ drop (i + 1) dst
copy-turn src dst i h k =
    rw (add-one i, take-suc src i 0 h, append_snoc (take i src) (get_or src i 0) (drop (suc i) dst))
    (ap (λ (x : List ℕ). set (take i src ++ x) i (get_or src i 0)) (drop-cons dst i 0 k)
    ∙ set_at (take i src) (get_or dst i 0) (drop (suc i) dst) (get_or src i 0) i (length-take-le i src (omega arith)))

-- ---- a block: read whole, then stored byte after byte

-- k bytes from an offset on, each read by itself
abbrev pub bytes_of : ℕ → List ℕ → ℕ → List ℕ
bytes_of zero src i = []
bytes_of (suc k) src i = get_or src i 0 ∷ bytes_of k src (suc i)

length-bytes : (k : ℕ) (src : List ℕ) (i : ℕ) → length (bytes_of k src i) ≡ k
length-bytes zero src i = refl
length-bytes (suc k) src i = ap suc (length-bytes k src (suc i))

bytes-are : (k : ℕ) (src : List ℕ) (i : ℕ) → i + k ≤ length src → bytes_of k src i ≡ take k (drop i src)
bytes-are zero src i h = refl
bytes-are (suc k) src i h =
    rw (drop-cons src i 0 (omega arith)) (ap (λ (u : List ℕ). get_or src i 0 ∷ u) (bytes-are k src (suc i) (omega arith)))

pub block-put : (k : ℕ) (src dst : List ℕ) → k ≤ length src → k ≤ length dst → sets dst 0 (bytes_of k src 0) ≡ take k src ++ drop k dst
block-put k src dst h g =
    let n : 0 + length (bytes_of k src 0) ≡ k = omega (arith, length-bytes k src 0) in
    sets-eq (bytes_of k src 0) dst 0 (omega (arith, n))
    ∙ ap₂ (λ (u : List ℕ) (m : ℕ). u ++ drop m dst) (bytes-are k src 0 (omega arith)) n

-- ---- a copy made of blocks: the last one first, then one after the other from the front on

-- a block of k bytes, put into the part from an offset on that is lent
pub lent-block : (src b y : List ℕ) (i k : ℕ) → y ≡ take k (mid_of i (length src - i) src) ++ drop k (mid_of i (length b - i) b)
    → put_mid i (length b - i) b y ≡ take i b ++ (take k (drop i src) ++ drop (i + k) b)
lent-block src b y i k e =
    put-tail b y i
    ∙ ap (λ (u : List ℕ). take i b ++ u) (e ∙ ap₂ (λ (u v : List ℕ). take k u ++ v) (mid-tail src i) (ap (drop k) (mid-tail b i) ∙ drop-drop k i b))

-- the buffer stays as long as it was
pub length-block : (src b y : List ℕ) (i k : ℕ) → y ≡ take k (mid_of i (length src - i) src) ++ drop k (mid_of i (length b - i) b) → i + k ≤ length src → i + k ≤ length b
    → length (put_mid i (length b - i) b y) ≡ length b
length-block src b y i k e h g =
    ap length (lent-block src b y i k e) ∙ omega (
      arith,
      length-append (take i b) (take k (drop i src) ++ drop (i + k) b),
      length-append (take k (drop i src)) (drop (i + k) b),
      length-take-le i b (omega arith),
      length-take-le k (drop i src) (omega (arith, length-drop i src)),
      length-drop (i + k) b,
    )

-- a block more, after i bytes that are copied
pub block-turn : (src d b y : List ℕ) (i k : ℕ) → b ≡ take i src ++ drop i d → i ≤ length src
    → y ≡ take k (mid_of i (length src - i) src) ++ drop k (mid_of i (length b - i) b) → put_mid i (length b - i) b y ≡ take (i + k) src ++ drop (i + k) d
block-turn src d b y i k q h e =
    let n : length (take i src) ≡ i = length-take-le i src h in
    let t : take i b ≡ take i src = ap (take i) q ∙ take_at (take i src) (drop i d) i n in
    let r : drop (i + k) b ≡ drop (i + k) d =
    sym (drop-drop k i b) ∙ (ap (drop k) (ap (drop i) q ∙ drop_at (take i src) (drop i d) i n) ∙ drop-drop k i d) in
    lent-block src b y i k e
    ∙ (ap₂ (λ (u v : List ℕ). u ++ (take k (drop i src) ++ v)) t r
    ∙ (sym (append_assoc (take i src) (take k (drop i src)) (drop (i + k) d)) ∙ ap (λ (u : List ℕ). u ++ drop (i + k) d) (sym (take-add i k src))))

-- if the copies from the front on reach the last block, all is copied
pub blocks-all : (src d b : List ℕ) (last k i : ℕ) → last + k ≡ length src → length src ≤ length d
    → b ≡ take last d ++ (take k (drop last src) ++ drop (last + k) d) → last ≤ i → i ≤ length src → take i src ++ drop i b ≡ src ++ drop (length src) d
blocks-all src d b last k i e h q lo hi =
    let rest : List ℕ = drop (length src) d in
    let front : List ℕ = take last d ++ drop last src in
    let nt : length (take last d) ≡ last = length-take-le last d (omega arith) in
    let nf : length front ≡ length src = omega (arith, length-append (take last d) (drop last src), nt, length-drop last src) in
    let whole : take k (drop last src) ≡ drop last src = take_all k (drop last src) (omega (arith, length-drop last src)) in
    let b' : b ≡ front ++ rest =
    q ∙ (ap₂ (λ (u : List ℕ) (m : ℕ). take last d ++ (u ++ drop m d)) whole e ∙ sym (append_assoc (take last d) (drop last src) rest)) in
    let j : last + (i - last) ≡ i = omega arith in
    let f : drop i front ≡ drop i src =
    ap (λ (m : ℕ). drop m front) (sym j)
    ∙ (sym (drop-drop (i - last) last front)
    ∙ (ap (drop (i - last)) (drop_at (take last d) (drop last src) last nt) ∙ (drop-drop (i - last) last src ∙ ap (λ (m : ℕ). drop m src) j))) in
    ap (λ (u : List ℕ). take i src ++ u) (ap (drop i) b' ∙ (drop-append-le i front rest (omega (arith, nf)) ∙ ap (λ (u : List ℕ). u ++ rest) f))
    ∙ (sym (append_assoc (take i src) (drop i src) rest) ∙ ap (λ (u : List ℕ). u ++ rest) (take-append-drop i src))
