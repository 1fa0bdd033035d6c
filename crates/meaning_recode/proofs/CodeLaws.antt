-- The two tables over all 256 bytes: each undoes the other, below 80h a byte stays, from 80h on it stays there, and what it becomes is a byte or none.
-- Assumes nothing.
use mathlib.Core.Path.{◌≡◌, refl, ◌∙◌, subst}
use mathlib.Core.Bool.{Bool, true, false, ◌&&◌, ◌||◌}
use mathlib.Core.List.{List, [], ◌∷◌}
use Prim.Native.Nat.{ℕ, zero, suc, ◌+◌, ◌≤◌, ◌<◌}
use native.Mathlib.Omega.{arith}
use lib.Dec.{leb, eqb}
use lib.ListN.{length, get_or}
use borrow.Author.Tests.{eqb-true, leb-true, leb-false}
use Rattle.meaning.proofs.Bools.{and_left, and_right}
use Rattle.meaning_recode.specs.declared.Code.{Code}
use Rattle.meaning_recode.specs.declared.Code.TheVariants.{Page437, Page1252}
use Rattle.meaning_recode.specs.Codes.{no_byte, to1252, to437, table_into, recoded}

-- the code page that is not wanted
abbrev pub other : Code → Code
other Page437 = Page1252
other Page1252 = Page437

-- ---- tests over a whole table, the first entry of which is that of byte k

-- every entry is no byte, or the other table leads from it back to its own byte
abbrev undoes : List ℕ → ℕ → List ℕ → Bool
undoes back k [] = true
undoes back k (c ∷ cs) = (eqb c no_byte || eqb (get_or back c no_byte) k) && undoes back (suc k) cs

-- every entry below 80h is its own byte, and every other one is 80h to 100h
abbrev sided : ℕ → List ℕ → Bool
sided k [] = true
sided k (c ∷ cs) = ((leb 128 k && (leb 128 c && leb c no_byte)) || (leb (suc k) 128 && eqb c k)) && sided (suc k) cs

all-undone : (undoes to437 0 to1252 ≡ true) × (undoes to1252 0 to437 ≡ true)
unfolding to1252 to437
all-undone = (refl, refl)

all-sided : (sided 0 to1252 ≡ true) × (sided 0 to437 ≡ true)
unfolding to1252 to437
all-sided = (refl, refl)

-- ---- what they say of one entry

undone : (back : List ℕ) (k : ℕ) (t : List ℕ) (b : ℕ) → undoes back k t ≡ true → b < length t → (get_or t b no_byte ≡ no_byte → ⊥) → get_or back (get_or t b no_byte) no_byte ≡ k + b
undone back k [] b h l n = absurd (omega arith)
undone back k (c ∷ cs) zero h l n = go (eqb c no_byte) refl (and_left (eqb c no_byte || eqb (get_or back c no_byte) k) _ h)
  where
    go : (x : Bool) → eqb c no_byte ≡ x → x || eqb (get_or back c no_byte) k ≡ true → get_or back c no_byte ≡ k + 0
    go true p q = absurd (n (eqb-true c no_byte p))
    go false p q = eqb-true (get_or back c no_byte) k q ∙ omega arith
undone back k (c ∷ cs) (suc b) h l n = undone back (suc k) cs b (and_right (eqb c no_byte || eqb (get_or back c no_byte) k) _ h) (omega arith) n ∙ omega arith

length-437 : length to437 ≡ 256
unfolding to437
length-437 = refl

length-1252 : length to1252 ≡ 256
unfolding to1252
length-1252 = refl

-- what `sided` says of the entry of byte b
abbrev Sides : ℕ → ℕ → Type 0
Sides b c = (b < 128 → c ≡ b) × (128 ≤ b → (128 ≤ c) × (c ≤ no_byte))

side : (k : ℕ) (t : List ℕ) (b : ℕ) → sided k t ≡ true → b < length t → Sides (k + b) (get_or t b no_byte)
side k [] b h l = absurd (omega arith)
side k (c ∷ cs) zero h l = go (leb 128 k && (leb 128 c && leb c no_byte)) refl (and_left ((leb 128 k && (leb 128 c && leb c no_byte)) || (leb (suc k) 128 && eqb c k)) _ h)
  where
    go : (x : Bool) → leb 128 k && (leb 128 c && leb c no_byte) ≡ x → x || (leb (suc k) 128 && eqb c k) ≡ true → Sides (k + 0) c
    go true p q =
        let from = leb-true 128 k (and_left (leb 128 k) _ p) in
        let both = and_right (leb 128 k) _ p in
        let least = leb-true 128 c (and_left (leb 128 c) _ both) in
        let most = leb-true c no_byte (and_right (leb 128 c) _ both) in
        (λ below. omega arith, λ above. (omega arith, omega arith))
    go false p q =
        let below = leb-true (suc k) 128 (and_left (leb (suc k) 128) _ q) in
        let same = eqb-true c k (and_right (leb (suc k) 128) _ q) in
        (λ under. omega arith, λ above. (omega arith, omega arith))
side k (c ∷ cs) (suc b) h l =
    let rest : Sides (suc k + b) (get_or cs b no_byte) = side (suc k) cs b (and_right ((leb 128 k && (leb 128 c && leb c no_byte)) || (leb (suc k) 128 && eqb c k)) _ h) (omega arith) in
    subst (λ (n : ℕ). Sides n (get_or cs b no_byte)) (omega arith) rest

-- after its last entry a table has no byte
after-all : (t : List ℕ) (b : ℕ) → length t ≤ b → get_or t b no_byte ≡ no_byte
after-all [] b l = refl
after-all (c ∷ cs) zero l = absurd (omega arith)
after-all (c ∷ cs) (suc b) l = after-all cs b (omega arith)

-- a byte that has a character in the wanted code page stands in the table
in_table : (t : List ℕ) (b : ℕ) → (get_or t b no_byte ≡ no_byte → ⊥) → b < length t
in_table t b n = go (leb (length t) b) refl
  where
    go : (x : Bool) → leb (length t) b ≡ x → b < length t
    go true p = absurd (n (after-all t b (leb-true _ _ p)))
    go false p = leb-false _ _ p

sides-in : (t : List ℕ) (b : ℕ) → length t ≡ 256 → sided 0 t ≡ true → Sides b (get_or t b no_byte)
sides-in t b e h = go (leb 256 b) refl
  where
    go : (x : Bool) → leb 256 b ≡ x → Sides b (get_or t b no_byte)
    go true p =
        let above = leb-true 256 b p in
        let none = after-all t b (omega arith) in
        (λ below. absurd (omega arith), λ high. (omega arith, omega arith))
    go false p = let below = leb-false 256 b p in subst (λ (n : ℕ). Sides n (get_or t b no_byte)) (omega arith) (side 0 t b h (omega arith))

sides : (w : Code) (b : ℕ) → Sides b (recoded w b)
unfolding table_into
sides Page437 b = sides-in to437 b length-437 all-sided.1
sides Page1252 b = sides-in to1252 b length-1252 all-sided.0

-- ---- the laws

-- "each undoes the other wherever both are defined": of every byte that has a character in the wanted code page
pub undone-by : (w : Code) (b : ℕ) → (recoded w b ≡ no_byte → ⊥) → recoded (other w) (recoded w b) ≡ b
unfolding table_into
undone-by Page437 b n = undone to1252 0 to437 b all-undone.1 (in_table to437 b n) n ∙ omega arith
undone-by Page1252 b n = undone to437 0 to1252 b all-undone.0 (in_table to1252 b n) n ∙ omega arith

-- digits, letters, 0Dh and 0Ah are the same in both code pages
pub low-stays : (w : Code) (b : ℕ) → b < 128 → recoded w b ≡ b
low-stays w b l = (sides w b).0 l

-- a byte from 80h on stays there, or has no character in the wanted code page
pub high-stays : (w : Code) (b : ℕ) → 128 ≤ b → (128 ≤ recoded w b) × (recoded w b ≤ no_byte)
high-stays w b h = (sides w b).1 h
