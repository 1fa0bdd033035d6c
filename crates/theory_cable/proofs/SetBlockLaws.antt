-- A block as the call makes it of a set: the receiver reads back its count, its label and its data (`block_back`), and sees if one byte of it was changed on the way
-- (`one-byte-of-set`).
use mathlib.Core.Path.{◌≡◌, refl, sym, ap, subst}
use mathlib.Core.Bool.{Bool, true, false, cond}
use mathlib.Core.List.{List, [], ◌∷◌, ◌++◌}
use mathlib.Core.Logic.{◌⊎◌, ◌≢◌}
use Prim.Native.Nat.{ℕ, zero, suc, ◌+◌, ◌-◌, ◌≤◌, ◌<◌}
use native.Mathlib.Omega.{arith}
use lib.Dec.{leb, eqb}
use lib.ListN.{length, take, drop, get_or, set}
use borrow.Author.Tests.{leb-true, leb-false, eqb-true}
use Rattle.meaning.specs.Field.{Field}
use Rattle.meaning.specs.Refusals.{done, bad_block, bad_crc}
use Rattle.meaning.specs.Pieces.{parsed}
use Rattle.meaning.specs.Lines.{cr, lf}
use Rattle.meaning.specs.Reading.{read}
use Rattle.meaning.proofs.Bools.{Every, every_drop}
use Rattle.meaning.proofs.FaultLaws.{done-same, then_to-done}
use Rattle.meaning_cable.specs.declared.Receiver.{Receiver}
use Rattle.meaning_cable.specs.Stream.{separator, stream, restored}
use Rattle.meaning_cable.specs.Blocks.{block_count, cut_at, block_data, block_label, block_bytes, block_of, set_alone, block}
use Rattle.meaning_cable.specs.Receiving.{max_block, count_of, label_of, data_of, block_faults, refusing, receive}
use Rattle.meaning_cable.proofs.OneSetLaws.{alone-read}
use Rattle.meaning_cable.proofs.BlockLaws.{block_read, written-length}
use Rattle.meaning_cable.proofs.ReceivingLaws.{faultless}
use Rattle.theory_cable.proofs.DamageLaws.{one-byte-seen, not_taken}
use Rattle.theory_cable.proofs.ArrivalLaws.{x, n, block-is, label-most, can_write, bytes-are}

-- ---- read back

-- What the call makes, and what the receiver reads in it.
pub record BlockBack (s : List ℕ) (fs : List Field) (i c : ℕ) : Type 0 where
  pub bytes : List ℕ
  pub is_made : block s i c ≡ done bytes
  pub no-faults : block_faults bytes ≡ []
  pub count-is : count_of bytes ≡ c
  pub label-is : label_of bytes ≡ block_label i (block_count (stream fs))
  pub data_is : data_of bytes ≡ block_data (stream fs) i
  -- 137 bytes are enough (E3i)
  pub length_most : length bytes ≤ max_block

-- block i of an accepted set that stands alone in its bytes
pub block_back : (s : List ℕ) (fs : List Field) → read s ≡ done (parsed fs []) → (i c : ℕ) → i < block_count (stream fs) → c ≤ 9 → BlockBack s fs i c
unfolding x n
block_back s fs e i c h l =
    let label : ℕ = block_label i (block_count (stream fs)) in
    let w = can_write s fs e i c label l (label-most s fs e i) in
    let back = block_read c label (block_data (stream fs) i) w in
    record {
      bytes = block_bytes c label (block_data (stream fs) i);
      is_made = block-is s fs e i c h l;
      no-faults = back.faultless;
      count-is = back.count-is;
      label-is = back.label-is;
      data_is = back.data_is;
      length_most = omega (arith, w.length-fits, written-length c label (block_data (stream fs) i) w);
    }

-- ---- one byte of it changed

abbrev pub IsByte : ℕ → Type 0
IsByte b = b < 256

every_take : (k : ℕ) (y : List ℕ) → Every IsByte y → Every IsByte (take k y)
every_take zero y h = tt
every_take (suc k) [] h = tt
every_take (suc k) (b ∷ y) h = (h.0, every_take k y h.1)

-- what stands for bytes is bytes
restored-bytes : (y t : List ℕ) → Every IsByte (restored y ++ t) → Every IsByte y
unfolding restored
restored-bytes [] t h = tt
restored-bytes (b ∷ y) t h = go (eqb b separator) refl h (λ k. restored-bytes y t k)
  where
    go : (p : Bool) → eqb b separator ≡ p → Every IsByte (cond p (cr ∷ lf ∷ restored y) (b ∷ restored y) ++ t) → (Every IsByte (restored y ++ t) → Every IsByte y)
        → IsByte b × Every IsByte y
    go true e k on = let z = eqb-true b separator e in (omega arith, on k.1.1)
    go false e k on = (k.0, on k.1)

-- the data of each block of a set
data-bytes : (s : List ℕ) (fs : List Field) → read s ≡ done (parsed fs []) → Every IsByte s → (i : ℕ) → Every IsByte (block_data (stream fs) i)
unfolding x
data-bytes s fs e h i =
    let all : Every IsByte (stream fs) = restored-bytes (stream fs) (cr ∷ lf ∷ []) (subst (Every IsByte) (sym (bytes-are s fs e)) h) in
    every_take (cut_at (stream fs) (i + 1) - cut_at (stream fs) i) (drop (cut_at (stream fs) i) (stream fs)) (every_drop IsByte (cut_at (stream fs) i) (stream fs) all)

-- whatever block of whatever set the call made: it has a fault by itself if one byte of it is another
pub one-byte-of-set : (s : List ℕ) → Every IsByte s → (i c : ℕ) (bs : List ℕ) → block s i c ≡ done bs
    → (k v : ℕ) → k < length bs → v < 256 → v ≢ get_or bs k 0 → block_faults (set bs k v) ≢ []
unfolding block block_of n x
one-byte-of-set s h i c bs e k v l vb other =
    let got = then_to-done (set_alone s) (λ fs. done (block_of (stream fs) i c)) bs e in
    go got.0 (alone-read s got.0 got.1) (leb (block_count (stream got.0)) i) (leb c 9) refl refl (done-same got.2)
  where
    go : (fs : List Field) → read s ≡ done (parsed fs []) → (p q : Bool) → leb (block_count (stream fs)) i ≡ p → leb c 9 ≡ q
        → cond p [] (cond q (block_bytes c (block_label i (block_count (stream fs))) (block_data (stream fs) i)) []) ≡ bs → block_faults (set bs k v) ≢ []
    go fs a true q u w r = absurd (omega (arith, ap length r))
    go fs a false false u w r = absurd (omega (arith, ap length r))
    go fs a false true u w r =
        let label : ℕ = block_label i (block_count (stream fs)) in
        subst (λ (y : List ℕ). k < length y → v ≢ get_or y k 0 → block_faults (set y k v) ≢ []) r
        (λ m o. one-byte-seen c label (block_data (stream fs) i) (can_write s fs a i c label (leb-true c 9 w) (label-most s fs a i)) (data-bytes s fs a h i) k v m vb o) l other

-- so it is refused by 25 or 26, and the receiver and its buffer are as they were
pub one-byte-refused : (s : List ℕ) → Every IsByte s → (i c : ℕ) (bs : List ℕ) → block s i c ≡ done bs
    → (k v : ℕ) → k < length bs → v < 256 → v ≢ get_or bs k 0 → (st : Receiver) (buf : List ℕ)
    → (receive st buf (set bs k v) ≡ refusing st buf bad_block) ⊎ (receive st buf (set bs k v) ≡ refusing st buf bad_crc)
one-byte-refused s h i c bs e k v l vb other st buf =
    not_taken st buf (set bs k v) (λ f g. one-byte-of-set s h i c bs e k v l vb other (faultless (set bs k v) f g))
