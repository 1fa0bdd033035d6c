-- The CRC: two registers that take the same bytes stay different (`crc-same`), and bytes that differ in one place have different CRCs (`crc-one`).
--
-- A turn is undone: the last bit of what it leaves says whether 8005h was put over it. A byte's eight turns are those of the register with the byte put over its upper half
-- (`byte-turns`), since a turn goes over xor with what has no top bit.
use mathlib.Core.Path.{◌≡◌, refl, sym, ap, ◌∙◌}
use mathlib.Core.Bool.{Bool, true, false, cond}
use mathlib.Core.List.{List, [], ◌∷◌}
use Prim.Native.Nat.{ℕ, zero, suc, ◌+◌, ◌*◌, ◌/◌, ◌%◌, ◌^◌, ◌<◌}
use native.Mathlib.Omega.{arith}
use lib.Arith.{bin_ind}
use lib.ListN.{length, get_or, set}
use lib.Dec.{leb}
use lib.Bits.{bit_xor, xor_zero_r, xor_comm, xor_self, xor_shr, xor_mod, xor_lt, xor_block, xor_shifted}
use borrow.Author.Tests.{le-leb, lt-leb, leb-true, leb-false}
use Rattle.meaning_cable.specs.Crc.{bit_turn, top_bit, bits, byte_all, crc_from}

-- ---- xor is associative, and can be undone

half : (a b : ℕ) → a / 2 ≡ b / 2 → a % 2 ≡ b % 2 → a ≡ b
half a b d m = omega arith

bit-assoc : (x y z : ℕ) → x < 2 → y < 2 → z < 2 → bit_xor (bit_xor x y) z ≡ bit_xor x (bit_xor y z)
bit-assoc zero y z a b c = refl
bit-assoc (suc zero) zero z a b c = refl
bit-assoc (suc zero) (suc zero) zero a b c = refl
bit-assoc (suc zero) (suc zero) (suc zero) a b c = refl
bit-assoc (suc zero) (suc zero) (suc (suc z)) a b c = absurd (omega arith)
bit-assoc (suc zero) (suc (suc y)) z a b c = absurd (omega arith)
bit-assoc (suc (suc x)) y z a b c = absurd (omega arith)

pub assoc : (a b c : ℕ) → bit_xor (bit_xor a b) c ≡ bit_xor a (bit_xor b c)
assoc =
    bin_ind (λ (n : ℕ). (b c : ℕ) → bit_xor (bit_xor n b) c ≡ bit_xor n (bit_xor b c)) (λ b c. refl)
    (λ n ih b c. half (bit_xor (bit_xor n b) c) (bit_xor n (bit_xor b c))
    (xor_shr (bit_xor n b) c 1 ∙ (ap (λ (x : ℕ). bit_xor x (c / 2)) (xor_shr n b 1) ∙ (ih (b / 2) (c / 2)
    ∙ (ap (λ (x : ℕ). bit_xor (n / 2) x) (sym (xor_shr b c 1)) ∙ sym (xor_shr n (bit_xor b c) 1)))))
    (xor_mod (bit_xor n b) c 1 ∙ (ap (λ (x : ℕ). bit_xor x (c % 2)) (xor_mod n b 1) ∙ (bit-assoc (n % 2) (b % 2) (c % 2) (omega arith) (omega arith) (omega arith)
    ∙ (ap (λ (x : ℕ). bit_xor (n % 2) x) (sym (xor_mod b c 1)) ∙ sym (xor_mod n (bit_xor b c) 1))))))

swap : (a b p : ℕ) → bit_xor (bit_xor a b) p ≡ bit_xor (bit_xor a p) b
swap a b p = assoc a b p ∙ (ap (λ (x : ℕ). bit_xor a x) (xor_comm b p) ∙ sym (assoc a p b))

twice : (a p : ℕ) → bit_xor (bit_xor a p) p ≡ a
twice a p = assoc a p p ∙ (ap (λ (x : ℕ). bit_xor a x) (xor_self p) ∙ xor_zero_r a)

pub xor_same : (a b p : ℕ) → bit_xor a p ≡ bit_xor b p → a ≡ b
xor_same a b p e = sym (twice a p) ∙ (ap (λ (x : ℕ). bit_xor x p) e ∙ twice b p)

double : (a b : ℕ) → bit_xor (a * 2) (b * 2) ≡ bit_xor a b * 2
double a b =
    let l : a * 2 ≡ a * 2 ^ 1 + 0 = omega arith in
    let r : b * 2 ≡ b * 2 ^ 1 + 0 = omega arith in
    ap (λ (x : ℕ). bit_xor x (b * 2)) l ∙ (ap (λ (x : ℕ). bit_xor (a * 2 ^ 1 + 0) x) r ∙ (xor_block 1 a b 0 0 (omega arith) (omega arith) ∙ omega arith))

-- ---- a turn goes over xor with what has no top bit

module _ (u v : ℕ) (h : u < 65536) (l : v < 32768) where
  top-same : bit_xor u v / 32768 ≡ u / 32768
  top-same = let z : v / 32768 ≡ 0 = omega arith in xor_shr u v 15 ∙ (ap (λ (x : ℕ). bit_xor (u / 32768) x) z ∙ xor_zero_r (u / 32768))

  low_same : bit_xor u v * 2 % 65536 ≡ bit_xor (u * 2 % 65536) (v * 2)
  low_same =
      let a : bit_xor u v * 2 % 65536 ≡ bit_xor u v % 32768 * 2 = omega arith in
      let b : v % 32768 ≡ v = omega arith in
      let c : u % 32768 * 2 ≡ u * 2 % 65536 = omega arith in
      a ∙ (ap (λ (x : ℕ). x * 2) (xor_mod u v 15 ∙ ap (λ (x : ℕ). bit_xor (u % 32768) x) b) ∙ (sym (double (u % 32768) v) ∙ ap (λ (x : ℕ). bit_xor x (v * 2)) c))

  pub turn-over : bit_turn (bit_xor u v) ≡ bit_xor (bit_turn u) (v * 2)
  unfolding bit_turn
  turn-over = go (leb 32768 u) refl
    where
      go : (b : Bool) → leb 32768 u ≡ b
          → cond (leb 32768 (bit_xor u v)) (bit_xor (bit_xor u v * 2 % 65536) 32773) (bit_xor u v * 2 % 65536) ≡ bit_xor (cond (leb 32768 u) (bit_xor (u * 2 % 65536) 32773) (u * 2 % 65536)) (v * 2)
      go true e =
          let k = leb-true 32768 u e in
          rw (e, le-leb 32768 (bit_xor u v) (omega (arith, top-same))) (ap (λ (x : ℕ). bit_xor x 32773) low_same ∙ swap (u * 2 % 65536) (v * 2) 32773)
      go false e =
          let k = leb-false 32768 u e in
          rw (e, lt-leb 32768 (bit_xor u v) (omega (arith, top-same))) low_same

pub turn-lt : (u : ℕ) → bit_turn u < 65536
unfolding bit_turn
turn-lt u = go (leb 32768 u)
  where
    go : (b : Bool) → cond b (bit_xor (u * 2 % 65536) 32773) (u * 2 % 65536) < 65536
    go true = xor_lt 16 (u * 2 % 65536) 32773 (omega arith) (omega arith)
    go false = omega arith

-- ---- a turn can be undone

odd-over : (a : ℕ) → a % 2 ≡ 0 → bit_xor a 32773 % 2 ≡ 1
odd-over a e = xor_mod a 32773 1 ∙ ap (λ (x : ℕ). bit_xor x 1) e

pub turn-same : (u v : ℕ) → u < 65536 → v < 65536 → bit_turn u ≡ bit_turn v → u ≡ v
unfolding bit_turn
turn-same u v h l = go (leb 32768 u) (leb 32768 v) refl refl
  where
    go : (s t : Bool) → leb 32768 u ≡ s → leb 32768 v ≡ t
        → cond s (bit_xor (u * 2 % 65536) 32773) (u * 2 % 65536) ≡ cond t (bit_xor (v * 2 % 65536) 32773) (v * 2 % 65536) → u ≡ v
    go true true p q e =
        let a = leb-true 32768 u p in
        let b = leb-true 32768 v q in
        let z : u * 2 % 65536 ≡ v * 2 % 65536 = xor_same (u * 2 % 65536) (v * 2 % 65536) 32773 e in
        let x : u * 2 % 65536 + 65536 ≡ u * 2 = omega arith in
        let y : v * 2 % 65536 + 65536 ≡ v * 2 = omega arith in
        omega arith
    go true false p q e =
        let o : bit_xor (u * 2 % 65536) 32773 % 2 ≡ 1 = odd-over (u * 2 % 65536) (omega arith) in
        let z : v * 2 % 65536 % 2 ≡ 1 = ap (λ (x : ℕ). x % 2) (sym e) ∙ o in
        absurd (omega arith)
    go false true p q e =
        let o : bit_xor (v * 2 % 65536) 32773 % 2 ≡ 1 = odd-over (v * 2 % 65536) (omega arith) in
        let z : u * 2 % 65536 % 2 ≡ 1 = ap (λ (x : ℕ). x % 2) e ∙ o in
        absurd (omega arith)
    go false false p q e =
        let a = leb-false 32768 u p in
        let b = leb-false 32768 v q in
        let z : u * 2 % 65536 ≡ v * 2 % 65536 = e in
        let x : u * 2 % 65536 ≡ u * 2 = omega arith in
        let y : v * 2 % 65536 ≡ v * 2 = omega arith in
        omega arith

-- ---- k turns without new bits

unfoldable pub turns : ℕ → ℕ → ℕ
turns zero c = c
turns (suc k) c = turns k (bit_turn c)

turns_same : (k u v : ℕ) → u < 65536 → v < 65536 → turns k u ≡ turns k v → u ≡ v
unfolding turns
turns_same zero u v h l e = e
turns_same (suc k) u v h l e = turn-same u v h l (turns_same k (bit_turn u) (bit_turn v) (turn-lt u) (turn-lt v) e)

-- ---- the bits of a byte, put in one by one or all at the start

unfoldable fed : ℕ → ℕ → ℕ
fed zero b = b
fed (suc k) b = fed k (b * 2 % 256)

top_lt : (t : Bool) → cond t 32768 0 < 65536
top_lt true = omega arith
top_lt false = omega arith

top-rest : (b : ℕ) → b < 256 → b * 256 ≡ bit_xor (top_bit b) (b % 128 * 256)
top-rest b h = go (leb 128 b) refl
  where
    go : (t : Bool) → leb 128 b ≡ t → b * 256 ≡ bit_xor (cond t 32768 0) (b % 128 * 256)
    go true e = let k = leb-true 128 b e in sym (xor_shifted 1 15 (b % 128 * 256) (omega arith) ∙ omega arith)
    go false e = let k = leb-false 128 b e in omega arith

feeds : (k b c : ℕ) → b < 256 → c < 65536 → turns k (bit_xor c (b * 256)) ≡ bit_xor (bits k b c) (fed k b * 256)
unfolding turns bits fed
feeds zero b c h l = refl
feeds (suc k) b c h l =
    let t : top_bit b < 65536 = top_lt (leb 128 b) in
    let e : b % 128 * 256 * 2 ≡ b * 2 % 256 * 256 = omega arith in
    ap (turns k) (ap bit_turn (ap (λ (x : ℕ). bit_xor c x) (top-rest b h) ∙ sym (assoc c (top_bit b) (b % 128 * 256)))
    ∙ (turn-over (bit_xor c (top_bit b)) (b % 128 * 256) (xor_lt 16 c (top_bit b) l t) (omega arith) ∙ ap (λ (x : ℕ). bit_xor (bit_turn (bit_xor c (top_bit b))) x) e))
    ∙ feeds k (b * 2 % 256) (bit_turn (bit_xor c (top_bit b))) (omega arith) (turn-lt (bit_xor c (top_bit b)))

fed-all : (b : ℕ) → b < 256 → fed 8 b ≡ 0
unfolding fed
fed-all b h = omega arith

pub byte-turns : (c b : ℕ) → c < 65536 → b < 256 → byte_all c b ≡ turns 8 (bit_xor c (b * 256))
unfolding byte_all
byte-turns c b h l = sym (feeds 8 b c l h ∙ (ap (λ (y : ℕ). bit_xor (bits 8 b c) (y * 256)) (fed-all b l) ∙ xor_zero_r (bits 8 b c)))

-- ---- a register is below 65536

bits-lt : (k b c : ℕ) → c < 65536 → bits k b c < 65536
unfolding bits
bits-lt zero b c h = h
bits-lt (suc k) b c h = bits-lt k (b * 2 % 256) (bit_turn (bit_xor c (top_bit b))) (turn-lt (bit_xor c (top_bit b)))

pub byte-lt : (c b : ℕ) → c < 65536 → byte_all c b < 65536
unfolding byte_all
byte-lt c b h = bits-lt 8 b c h

pub crc-lt : (x : List ℕ) (c : ℕ) → c < 65536 → crc_from c x < 65536
unfolding crc_from
crc-lt [] c h = h
crc-lt (b ∷ x) c h = crc-lt x (byte_all c b) (byte-lt c b h)

-- ---- what differs stays different

bits-same : (k b c d : ℕ) → c < 65536 → d < 65536 → bits k b c ≡ bits k b d → c ≡ d
unfolding bits
bits-same zero b c d h l e = e
bits-same (suc k) b c d h l e =
    let t : top_bit b < 65536 = top_lt (leb 128 b) in
    xor_same c d (top_bit b) (turn-same (bit_xor c (top_bit b)) (bit_xor d (top_bit b)) (xor_lt 16 c (top_bit b) h t) (xor_lt 16 d (top_bit b) l t)
    (bits-same k (b * 2 % 256) (bit_turn (bit_xor c (top_bit b))) (bit_turn (bit_xor d (top_bit b))) (turn-lt (bit_xor c (top_bit b))) (turn-lt (bit_xor d (top_bit b))) e))

-- two registers that take the same bytes and end alike were alike
pub crc-same : (x : List ℕ) (c d : ℕ) → c < 65536 → d < 65536 → crc_from c x ≡ crc_from d x → c ≡ d
unfolding crc_from byte_all
crc-same [] c d h l e = e
crc-same (b ∷ x) c d h l e = bits-same 8 b c d h l (crc-same x (byte_all c b) (byte_all d b) (byte-lt c b h) (byte-lt d b l) e)

-- one register that takes a byte and ends alike took the same byte
pub byte-same : (c a b : ℕ) → c < 65536 → a < 256 → b < 256 → byte_all c a ≡ byte_all c b → a ≡ b
byte-same c a b h p q e =
    let l : bit_xor c (a * 256) < 65536 = xor_lt 16 c (a * 256) h (omega arith) in
    let r : bit_xor c (b * 256) < 65536 = xor_lt 16 c (b * 256) h (omega arith) in
    let z : bit_xor c (a * 256) ≡ bit_xor c (b * 256) = turns_same 8 (bit_xor c (a * 256)) (bit_xor c (b * 256)) l r (sym (byte-turns c a h p) ∙ (e ∙ byte-turns c b h q)) in
    let w : a * 256 ≡ b * 256 = xor_same (a * 256) (b * 256) c (xor_comm (a * 256) c ∙ (z ∙ xor_comm c (b * 256))) in
    omega arith

-- one byte for another, anywhere, changes the CRC
pub crc-one : (x : List ℕ) (k v c : ℕ) → c < 65536 → k < length x → v < 256 → get_or x k 0 < 256 → crc_from c (set x k v) ≡ crc_from c x → v ≡ get_or x k 0
unfolding crc_from
crc-one [] k v c h l p q e = absurd (omega arith)
crc-one (b ∷ x) zero v c h l p q e = byte-same c v b h p q (crc-same x (byte_all c v) (byte_all c b) (byte-lt c v h) (byte-lt c b h) e)
crc-one (b ∷ x) (suc k) v c h l p q e = crc-one x k v (byte_all c b) (byte-lt c b h) (omega arith) p q e
