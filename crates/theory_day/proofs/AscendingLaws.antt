-- Ascending lists of numbers: two that have the same members are equal. Nothing here knows of sets.
use mathlib.Core.Path.{◌≡◌, refl, sym, ap₂}
use mathlib.Core.List.{List, [], ◌∷◌}
use mathlib.Core.Logic.{◌⊎◌, inl, inr}
use Prim.Native.Nat.{ℕ, zero, suc, ◌≤◌, ◌<◌}
use native.Mathlib.Omega.{arith}
use lib.ListN.{length, get_or}
use Rattle.theory_day.specs.DayRules.{Among}

-- each number is lower than every later one
abbrev pub Ascending : List ℕ → Type 0
Ascending ns = (i j : ℕ) → i < j → j < length ns → get_or ns i 0 < get_or ns j 0

-- the same, number after number: the first is k or more, and each next is higher
abbrev pub From : ℕ → List ℕ → Type 0
From k [] = Unit
From k (n ∷ ns) = (k ≤ n) × From (suc n) ns

-- ---- members

-- a member of a list is the first number, or a member of the others
pub among_cases : (x n : ℕ) (ns : List ℕ) → Among x (n ∷ ns) → (x ≡ n) ⊎ Among x ns
among_cases x n ns (zero, l, e) = inl (sym e)
among_cases x n ns (suc i, l, e) = inr (i, omega arith, e)

pub among_first : (n : ℕ) (ns : List ℕ) → Among n (n ∷ ns)
among_first n ns = (0, omega arith, refl)

pub among_later : (x n : ℕ) (ns : List ℕ) → Among x ns → Among x (n ∷ ns)
among_later x n ns (i, l, e) = (suc i, omega arith, e)

among_none {ℓ} : {X : Type ℓ} (x : ℕ) → Among x [] → X
among_none x (i, l, e) = absurd (omega arith)

-- ---- both forms are one

pub from-lower : (j k : ℕ) (ns : List ℕ) → j ≤ k → From k ns → From j ns
from-lower j k [] h x = tt
from-lower j k (n ∷ ns) h x = (omega (arith, x.0), x.1)

from-least : (k : ℕ) (ns : List ℕ) → From k ns → (i : ℕ) → i < length ns → k ≤ get_or ns i 0
from-least k [] x i l = absurd (omega arith)
from-least k (n ∷ ns) x zero l = x.0
from-least k (n ∷ ns) x (suc i) l = from-least k ns (from-lower k (suc n) ns (omega (arith, x.0)) x.1) i (omega arith)

pub from-ascending : (k : ℕ) (ns : List ℕ) → From k ns → Ascending ns
from-ascending k [] x i j h l = absurd (omega arith)
from-ascending k (n ∷ ns) x i zero h l = absurd (omega arith)
from-ascending k (n ∷ ns) x zero (suc j) h l = from-least (suc n) ns x.1 j (omega arith)
from-ascending k (n ∷ ns) x (suc i) (suc j) h l = from-ascending (suc n) ns x.1 i j (omega arith) (omega arith)

pub ascending-from : (k : ℕ) (ns : List ℕ) → Ascending ns → ((i : ℕ) → i < length ns → k ≤ get_or ns i 0) → From k ns
ascending-from k [] a h = tt
ascending-from k (n ∷ ns) a h =
    (h 0 (omega arith), ascending-from (suc n) ns (λ i j p l. a (suc i) (suc j) (omega arith) (omega arith)) (λ i l. a 0 (suc i) (omega arith) (omega arith)))

-- ---- lists with the same members

among-least : (k x : ℕ) (ns : List ℕ) → From k ns → Among x ns → k ≤ x
among-least k x ns f (i, l, e) = omega (arith, from-least k ns f i l)

-- The lowest members are the same number, and the others are the members of the two rests: they are higher.
same_from : (j k : ℕ) (ns ms : List ℕ) → From j ns → From k ms → ((x : ℕ) → Among x ns → Among x ms) → ((x : ℕ) → Among x ms → Among x ns) → ns ≡ ms
same_from j k [] [] f g to back = refl
same_from j k [] (m ∷ ms) f g to back = among_none m (back m (among_first m ms))
same_from j k (n ∷ ns) [] f g to back = among_none n (to n (among_first n ns))
same_from j k (n ∷ ns) (m ∷ ms) f g to back =
    ap₂ (λ (x : ℕ) (xs : List ℕ). x ∷ xs) first (same_from (suc n) (suc m) ns ms f.1 g.1 rest rest_back)
  where
    first : n ≡ m
    first = go (among_cases n m ms (to n (among_first n ns))) (among_cases m n ns (back m (among_first m ms)))
      where
        go : (n ≡ m) ⊎ Among n ms → (m ≡ n) ⊎ Among m ns → n ≡ m
        go (inl p) y = p
        go (inr p) (inl q) = sym q
        go (inr p) (inr q) = absurd (omega (arith, among-least (suc m) n ms g.1 p, among-least (suc n) m ns f.1 q))

    rest : (x : ℕ) → Among x ns → Among x ms
    rest x a = go (among_cases x m ms (to x (among_later x n ns a)))
      where
        go : (x ≡ m) ⊎ Among x ms → Among x ms
        go (inl p) = absurd (omega (arith, first, among-least (suc n) x ns f.1 a))
        go (inr p) = p

    rest_back : (x : ℕ) → Among x ms → Among x ns
    rest_back x a = go (among_cases x n ns (back x (among_later x m ms a)))
      where
        go : (x ≡ n) ⊎ Among x ns → Among x ns
        go (inl p) = absurd (omega (arith, first, among-least (suc m) x ms g.1 a))
        go (inr p) = p

-- two ascending lists with the same members are equal
pub same-ascending : (ns ms : List ℕ) → Ascending ns → Ascending ms → ((x : ℕ) → Among x ns → Among x ms) → ((x : ℕ) → Among x ms → Among x ns) → ns ≡ ms
same-ascending ns ms a b to back = same_from 0 0 ns ms (ascending-from 0 ns a (λ i l. omega arith)) (ascending-from 0 ms b (λ i l. omega arith)) to back
