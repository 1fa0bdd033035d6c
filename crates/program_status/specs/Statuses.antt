-- The number of a status, and of what list_sets says of the set that was judged last.
use Rattle.std.specs.Prelude.{◌≡◌, ◌≢◌, List, ℕ, ℤ, pos, Option, None, Some, IfSome}
use Rattle.meaning.specs.declared.Refusal.{Refusal}
use Rattle.program_status.specs.declared.Status.{Status}
use Rattle.program_status.specs.declared.Status.TheVariants.{Listed, Refused, Trouble}
use Rattle.program_status.specs.declared.Stopped.{Stopped}
use Rattle.program_status.specs.Stops.{stop, trouble}

-- the number by which the system is told a status
abbrev pub number_of : Status → ℤ
number_of Listed = pos 0
number_of Refused = pos 1
number_of Trouble = trouble

-- the number of a refusal, 0 if there is none
abbrev pub refused_no : Option Refusal → ℕ
refused_no None = 0
refused_no (Some r) = r.no

-- the set where the list of these bytes stops: where it starts, its refusal's number, and that no refusal has the number of none
pub record StopsThere (s : List ℕ) (x : Stopped) : Type 0 where
  pub at-is : x.at ≡ (stop s).at
  pub no-is : refused_no x.refused ≡ (stop s).no
  pub numbered : IfSome x.refused (λ r. r.no ≢ 0)
