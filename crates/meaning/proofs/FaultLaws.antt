-- Lists of faults that are empty, and replies that are not refusals: what each part then is.
use mathlib.Core.Path.{◌≡◌, refl, sym}
use mathlib.Core.Bool.{Bool, true, false, cond, true≢false}
use mathlib.Core.List.{List, [], ◌∷◌, ◌++◌, cons≢nil}
use Prim.Native.Nat.{ℕ, suc, ◌≤◌}
use native.Mathlib.Omega.{arith}
use lib.Dec.{leb}
use lib.ListN.{take}
use borrow.Author.Tests.{leb-true, le-leb}
use Rattle.meaning.specs.declared.Refusal.{Refusal}
use Rattle.meaning.specs.Refusals.{Spot, Fault, at_byte, bad_byte, high_byte, ask, Reply, refused, done, then_to, verdict, with_room}
use Rattle.meaning.specs.Lines.{low_bytes, least_byte, high_bytes, most_seven_bits}
use Rattle.meaning.proofs.Bools.{Every}

-- ---- no fault

pub append-none : (a b : List Fault) → a ++ b ≡ [] → (a ≡ []) × (b ≡ [])
append-none [] b e = (refl, e)
append-none (x ∷ a) b e = absurd (cons≢nil e)

pub none_both : (a b : List Fault) → a ≡ [] → b ≡ [] → a ++ b ≡ []
none_both a b p q = rw p q

pub ask-none : (b : Bool) (x : Fault) (r : List Fault) → ask b x ++ r ≡ [] → (b ≡ true) × (r ≡ [])
ask-none true x r e = (refl, e)
ask-none false x r e = absurd (cons≢nil e)

pub ask-last : (b : Bool) (x : Fault) → ask b x ≡ [] → b ≡ true
ask-last true x e = refl
ask-last false x e = absurd (cons≢nil e)

pub cond-none : (b : Bool) (xs : List Fault) (y : Fault) → cond b xs (y ∷ []) ≡ [] → b ≡ true
cond-none true xs y e = refl
cond-none false xs y e = absurd (cons≢nil e)

-- no byte of a content is under 20h
abbrev pub High : List ℕ → Type 0
High c = Every (λ b. least_byte ≤ b) c

pub lows-none : (k i : ℕ) (c : List ℕ) → High c → low_bytes k i c ≡ []
lows-none k i [] h = refl
lows-none k i (b ∷ bs) h = rw (le-leb least_byte b h.0) (lows-none k (suc i) bs h.1)

pub lows-back : (k i : ℕ) (c : List ℕ) → low_bytes k i c ≡ [] → High c
lows-back k i [] e = tt
lows-back k i (b ∷ bs) e =
    let p : (leb least_byte b ≡ true) × (low_bytes k (suc i) bs ≡ []) = ask-none (leb least_byte b) (at_byte bad_byte k i) (low_bytes k (suc i) bs) e in
    (leb-true least_byte b p.0, lows-back k (suc i) bs p.1)

-- no byte of a content is over 7Fh
abbrev pub Plain : List ℕ → Type 0
Plain c = Every (λ b. b ≤ most_seven_bits) c

pub highs-none : (k i : ℕ) (c : List ℕ) → Plain c → high_bytes k i c ≡ []
highs-none k i [] h = refl
highs-none k i (b ∷ bs) h = rw (le-leb b most_seven_bits h.0) (highs-none k (suc i) bs h.1)

pub highs-back : (k i : ℕ) (c : List ℕ) → high_bytes k i c ≡ [] → Plain c
highs-back k i [] e = tt
highs-back k i (b ∷ bs) e =
    let p : (leb b most_seven_bits ≡ true) × (high_bytes k (suc i) bs ≡ []) = ask-none (leb b most_seven_bits) (at_byte high_byte k i) (high_bytes k (suc i) bs) e in
    (leb-true b most_seven_bits p.0, highs-back k (suc i) bs p.1)

-- if a test decides whether these faults are given
pub if_none : (b : Bool) (xs : List Fault) → (b ≡ true → xs ≡ []) → cond b xs [] ≡ []
if_none true xs h = h refl
if_none false xs h = refl

pub if-back : (b : Bool) (xs : List Fault) → cond b xs [] ≡ [] → b ≡ true → xs ≡ []
if-back true xs e q = e
if-back false xs e q = absurd (true≢false (sym q))

-- if only the first of these faults is given
pub one_none : (xs : List Fault) → xs ≡ [] → take 1 xs ≡ []
one_none xs e = rw e

pub one-back : (xs : List Fault) → take 1 xs ≡ [] → xs ≡ []
one-back [] e = refl
one-back (x ∷ xs) e = absurd (cons≢nil e)

-- ---- done, not refused

pub refused-done {ℓ} : {X : Type ℓ} {A : Type 0} {r : Refusal} {a : A} → refused r ≡ done a → X
refused-done e = let z : ◌≡◌ {A = ℕ} 0 1 = cc in absurd (omega arith)

pub done-same : {A : Type 0} {a b : A} → ◌≡◌ {A = Reply A} (done a) (done b) → a ≡ b
done-same e = cc

pub cond-done : {A : Type 0} (t : Bool) (x : Reply A) (r : Refusal) (a : A) → cond t x (refused r) ≡ done a → (t ≡ true) × (x ≡ done a)
cond-done true x r a e = (refl, e)
cond-done false x r a e = refused-done e

pub then_to-done : {A B : Type 0} (r : Reply A) (k : A → Reply B) (b : B) → then_to r k ≡ done b → (a : A) × (r ≡ done a) × (k a ≡ done b)
then_to-done (refused r) k b e = refused-done e
then_to-done (done a) k b e = (a, refl, e)

pub verdict-done : {A : Type 0} (place : ℕ → Spot → ℕ) (xs : List Fault) (a d : A) → verdict place xs a ≡ done d → (xs ≡ []) × (a ≡ d)
verdict-done place [] a d e = (refl, cc)
verdict-done place (x ∷ xs) a d e = refused-done e

pub with_room-done : {A : Type 0} (t : Bool) (need : ℕ) (a d : A) → with_room t need a ≡ done d → (t ≡ true) × (a ≡ d)
with_room-done true need a d e = (refl, cc)
with_room-done false need a d e = refused-done e
