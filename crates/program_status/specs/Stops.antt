-- Where a list of sets stops, and what the program's status says of it: "prints each set in turn until a refusal".
use Rattle.std.specs.Prelude.{Bool, cond, not, ◌&&◌, List, ℕ, zero, suc, ◌+◌, ◌-◌, length, drop, ℤ, pos, leb, eqb}
use Rattle.meaning.specs.Reading.{judge}
use Rattle.meaning.specs.Answers.{judged_shape, judged_refusal}

-- the length of the set that starts at an offset, 0 if it is refused, and the number of its refusal, 0 if it is accepted
abbrev pub length_at : List ℕ → ℕ → ℕ
length_at s at = (judged_shape (judge (drop at s))).length

abbrev pub no_at : List ℕ → ℕ → ℕ
no_at s at = (judged_refusal (judge (drop at s))).no

-- Where the set starts that is judged last, and the number of its refusal, 0 if it is accepted.
pub record Stop : Type 0 where
  pub at : ℕ
  pub no : ℕ

-- it is accepted, and there is more after it
abbrev pub goes_on : List ℕ → ℕ → Bool
goes_on s at = not (eqb (length_at s at) 0) && not (leb (length s - at) (length_at s at))

-- set after set from an offset on, at most n sets more
unfoldable pub stop_from : ℕ → List ℕ → ℕ → Stop
stop_from zero s at = record { at = at; no = no_at s at }
stop_from (suc n) s at = cond (goes_on s at) (stop_from n s (at + length_at s at)) (record { at = at; no = no_at s at })

-- a set has a byte or more: so there are not more sets than bytes
abbrev pub stop : List ℕ → Stop
stop s = stop_from (length s) s 0

-- ---- exit statuses

abbrev pub trouble : ℤ
trouble = pos 2

-- 0 if every set is listed, 1 if one is refused
abbrev pub status_of : List ℕ → ℤ
status_of s = cond (eqb (stop s).no 0) (pos 0) (pos 1)
