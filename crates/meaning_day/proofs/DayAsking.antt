-- What the tables of examples ask of the day file, and how an answer is written: by the answers of `Asking`, the refusal or all of the lent numbers.
use mathlib.Core.List.{List, map}
use Prim.Native.Nat.{ℕ}
use lib.ListN.{length}
use Rattle.meaning.specs.Refusals.{Reply, refused, done}
use Rattle.meaning.proofs.Asking.{Answer, refused_by, holds, on_buffer}
use Rattle.meaning_day.specs.declared.DayEntry.{DayEntry}
use Rattle.meaning_day.specs.Days.{sets_from}
use Rattle.meaning_day.specs.DayCalls.{columns, build_call, append_call, lookup_call}

-- ---- what is asked

pub data DayQuestion : Type 0 where
  -- a file, and the numbers that are lent for its index
  building : List ℕ → List ℕ → DayQuestion
  -- a file, the length of the old file, the numbers that are lent, with the old index at the front, and its count
  appending : List ℕ → ℕ → List ℕ → ℕ → DayQuestion
  -- a file, an index, the asked bytes, and the numbers that are lent for the answer
  finding : List ℕ → List ℕ → List ℕ → List ℕ → DayQuestion
  -- the sets of a file of which at most this many may come: what building asks with 2,048
  sets_up_to : ℕ → List ℕ → DayQuestion

-- ---- what is answered

-- the refusal, or how many sets there are and the numbers of their entries
pub on_sets : Reply (List DayEntry) → Answer
on_sets (refused r) = refused_by r.no r.place r.label
on_sets (done es) = holds (length es) (columns es)

-- of a call: its refusal, if its count is 0 and the lent numbers are as before; else its count, and all of them
unfoldable pub day_answer : DayQuestion → Answer
unfolding on_sets
day_answer (building f index) = on_buffer index (build_call f index)
day_answer (appending f old index count) = on_buffer index (append_call f old index count)
day_answer (finding f index c out) = on_buffer out (lookup_call f index c out)
day_answer (sets_up_to n f) = on_sets (sets_from n 0 f)

-- ---- a table of examples

pub record DayExample : Type 0 where
  pub question : DayQuestion
  pub expected : Answer

abbrev pub example : DayQuestion → Answer → DayExample
example q a = record { question = q; expected = a }

abbrev pub asked : List DayExample → List Answer
asked es = map (λ (e : DayExample). day_answer e.question) es

abbrev pub expected : List DayExample → List Answer
expected es = map (λ (e : DayExample). e.expected) es
