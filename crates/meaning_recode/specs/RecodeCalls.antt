-- The two calls of recoding as a caller sees them, one for each wanted code page: what is answered, and every byte of the lent buffer afterwards, refusals too.
use Rattle.std.specs.Prelude.{List, ℕ}
use Rattle.meaning.specs.Answers.{Call, made, bytes_left}
use Rattle.meaning_recode.specs.declared.Code.{Code}
use Rattle.meaning_recode.specs.Recoding.{recode}

-- the new length is answered; "bytes behind the set become zero", also if the set stays as it is (E5c)
abbrev pub recode_call : List ℕ → ℕ → Code → Call ℕ
recode_call b used w = record { answer = made (recode b used w); buffer = bytes_left (recode b used w) b }
