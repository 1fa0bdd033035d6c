-- The labels of a list that are left from one on, each with its number: whether it is seen, and that each has a flag.
use mathlib.Core.Path.{◌≡◌}
use mathlib.Core.Bool.{Bool, true, false}
use mathlib.Core.List.{List}
use Prim.Native.Nat.{ℕ, ◌+◌, ◌<◌, ◌≤◌}
use native.Mathlib.Numerals.{add-one}
use lib.ListN.{length, get_or, drop, drop_of_length-le}
use lib.Seq.{drop-cons}
use Rattle.std.specs.Prelude.{IsTrue}
use Rattle.meaning.specs.Answers.{no_refusal}
use Rattle.meaning.proofs.Bools.{and_right}
use Rattle.judge_missing.specs.Lacks.{lack_here, lack_by, in_rows}

module _ (on : List Bool) (place : ℕ) (xs : List (ℕ × ℕ)) (i : ℕ) (d : ℕ × ℕ) (h : i < length xs) where
  pub by-seen : get_or on (get_or xs i d).0 false ≡ true → lack_by on place (drop i xs) ≡ lack_by on place (drop (i + 1) xs)
  unfolding lack_by
  by-seen e = rw (add-one, drop-cons xs i d, e)

  pub by-unseen : get_or on (get_or xs i d).0 false ≡ false → lack_by on place (drop i xs) ≡ lack_here place (get_or xs i d).1
  unfolding lack_by
  by-unseen e = rw (drop-cons xs i d, e)

  pub rows-left : IsTrue (in_rows (drop i xs)) → IsTrue (in_rows (drop (i + 1) xs))
  rows-left t = rw add-one (and_right _ _ (rw (drop-cons xs i d) at t))

pub by-end : (on : List Bool) (place : ℕ) (xs : List (ℕ × ℕ)) (i : ℕ) → length xs ≤ i → lack_by on place (drop i xs) ≡ no_refusal
unfolding lack_by
by-end on place xs i h = rw (drop_of_length-le xs h)
