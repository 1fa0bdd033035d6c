-- What recoding comes to, before any byte is written: its first refusal but that of the used length, or what is to be done.
-- What `recode` answers by it is `plan-refused` and `plan-made` in proofs/RecodeCallLaws of `recode`.
use Rattle.std.specs.Prelude.{◌≡◌, cond, List, [], ℕ, ◌≤◌, leb, length, Result, Err, Ok}
use Rattle.meaning.specs.declared.Shape.{Shape}
use Rattle.meaning.specs.Field.{Field}
use Rattle.meaning.specs.Refusals.{Reply, refused, done, refusal, no_room, no_such_character}
use Rattle.meaning.specs.Pieces.{Parsed}
use Rattle.meaning.specs.Lines.{render}
use Rattle.meaning.specs.Rules.{seven_bit}
use Rattle.meaning.specs.Reading.{read, judge}
use Rattle.meaning_recode.specs.declared.Code.{Code}
use Rattle.meaning_recode.specs.Recoding.{has_charset, in_code, recode_set}
use Rattle.byte_high.specs.High.{plain_front}
use Rattle.line_find.specs.FirstPlace.{first_place}
use Rattle.meaning.specs.declared.Refusal.{Refusal}
use Rattle.recode_plan.specs.declared.Plan.{Plan}
use Rattle.recode_plan.specs.declared.Plan.TheVariants.{Gains, Marks, Recodes, Stays}

-- the first refusal, or what is to be done
abbrev pub RecodePlan : Type 0
RecodePlan = Result Plan Refusal

abbrev pub of_marks : ℕ → RecodePlan
of_marks place = Ok (Marks place)

abbrev pub of_recodes : ℕ → ℕ → RecodePlan
of_recodes plain place = Ok (Recodes plain place)

abbrev pub of_gains : ℕ → RecodePlan
of_gains plain = Ok (Gains plain)

-- where the content of 9206 stands in these lines; 0 if no line is 9206
abbrev pub charset_place : List Field → ℕ
charset_place fs = first_place (render fs []) 9206

-- how many of their bytes are in front of the first one over 7Fh
abbrev pub plain_bytes : List Field → ℕ
plain_bytes fs = plain_front (render fs [])

-- what is to be done with these lines, if nothing is refused
abbrev pub doing : Code → List Field → RecodePlan
doing w fs =
    cond (in_code w fs) (Ok Stays) (cond (seven_bit fs) (of_marks (charset_place fs)) (cond (has_charset fs) (of_recodes (plain_bytes fs) (charset_place fs)) (of_gains (plain_bytes fs))))

-- a refusal, or what is to be done
abbrev pub unless : Reply (List ℕ) → RecodePlan → RecodePlan
unless (refused r) p = Err r
unless (done bs) p = p

abbrev pub planned_by : Code → ℕ → Reply Parsed → RecodePlan
planned_by w room (refused r) = Err r
planned_by w room (done d) = unless (recode_set w room d) (doing w d.fields)

-- for the set s, with this much room
unfoldable pub planned : List ℕ → ℕ → Code → RecodePlan
planned s room w = planned_by w room (read s)

-- 27, then 22, of a set that gains a line: of its first byte without a character (its length, if there is none) and of how many bytes count then
abbrev pub gained_by : ℕ → ℕ → ℕ → ℕ → ℕ → RecodePlan
gained_by n plain without total room = cond (leb n without) (cond (leb total room) (Ok (Gains plain)) (Err (refusal no_room total 0))) (Err (refusal no_such_character without 0))

-- a set that was accepted and stands alone in its room
pub record Alone (s : List ℕ) (x : Shape) (room : ℕ) : Type 0 where
  pub accepted-so : judge s ≡ Ok x
  pub alone : length s ≤ x.length
  pub in-room : length s ≤ room
