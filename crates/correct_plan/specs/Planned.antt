-- What a correction comes to, before any byte is written: its first refusal but that of the used length, or where the line stands and how many bytes count then.
-- What `correct` answers by it is `plan-refused` and `plan-made` in proofs/CorrectLaws of `correct`.
use Rattle.std.specs.Prelude.{cond, ◌&&◌, List, ℕ, pred, leb, length, Result, Ok, Err}
use Rattle.meaning.specs.declared.Refusal.{Refusal}
use Rattle.correct_plan.specs.declared.Change.{Change}
use Rattle.meaning.specs.Limits.{max_set_bytes}
use Rattle.meaning.specs.Field.{Field, content_at_line}
use Rattle.meaning.specs.Refusals.{Reply, refused, done, refusal, no_room}
use Rattle.meaning.specs.Pieces.{Parsed}
use Rattle.meaning.specs.Lines.{size, offset}
use Rattle.meaning.specs.Reading.{read}
use Rattle.meaning.specs.Corrections.{changed, correct_lines}

-- the first refusal, or what is to be done
abbrev pub Plan : Type 0
Plan = Result Change Refusal

abbrev pub a_change : ℕ → ℕ → ℕ → Plan
a_change place old total = Ok (record { place = place; old = old; total = total })

-- 22: what is to be done, if the new total is not "over the buffer or over 99,999"
abbrev pub within_room : ℕ → ℕ → ℕ → ℕ → Plan
within_room room place old total = cond (leb total room && leb total max_set_bytes) (a_change place old total) (Err (refusal no_room total 0))

-- a refusal, or what is to be done
abbrev pub unless : Reply (List ℕ) → Plan → Plan
unless (refused r) p = Err r
unless (done bs) p = p

-- the correction of line number n of these lines: its place, the bytes of its content, and the bytes of the changed lines
abbrev pub making : List Field → ℕ → List ℕ → Plan
making fs n c = a_change (offset fs (pred n)) (length (content_at_line fs (pred n))) (size (changed fs n c))

abbrev pub planned_by : ℕ → ℕ → List ℕ → Reply Parsed → Plan
planned_by room n c (refused r) = Err r
planned_by room n c (done d) = unless (correct_lines room n c d) (making d.fields n c)

-- for the set s, with this much room
unfoldable pub planned : List ℕ → ℕ → ℕ → List ℕ → Plan
planned s room n c = planned_by room n c (read s)
