-- The six calls of the base as a caller sees them: what each answers, and what the lent buffer holds afterwards. `judge` (Reading), `viewed` and `view` (Views) are lent nothing to write to.
-- They determine the answer and every lent byte or entry, refusals too.
use Rattle.std.specs.Prelude.{cond, List, ◌++◌, ℕ, ◌-◌, length, drop, replicate, eqb, Err, Ok}
use Rattle.meaning.specs.declared.Refusal.{Refusal}
use Rattle.meaning.specs.declared.Shape.{Shape}
use Rattle.meaning.specs.declared.Entry.{Entry}
use Rattle.meaning.specs.declared.Part.{Part}
use Rattle.meaning.specs.Refusals.{Reply, refused, done, refusal}
use Rattle.meaning.specs.Index.{index}
use Rattle.meaning.specs.Lists.{list, write}
use Rattle.meaning.specs.Corrections.{correct}
use Rattle.meaning.specs.Results.{Judged, Made, Viewed}
use Rattle.meaning.specs.declared.Shown.TheVariants.{Set, Sheet}

-- ---- the answer, and the lent buffer

-- "Index, list, writer and correction answer the count or length of what they made."
abbrev pub made : {A : Type 0} → Reply (List A) → Made
made (refused r) = Err r
made (done xs) = Ok (length xs)

-- "All lent buffers then keep every byte and entry"; else "bytes of the output buffer beyond the written length are zero", and of a corrected buffer "every byte past the
-- new used length becomes zero"
abbrev pub bytes_left : Reply (List ℕ) → List ℕ → List ℕ
bytes_left (refused r) b = b
bytes_left (done bs) b = bs ++ replicate (length b - length bs) 0

-- "Index entries beyond the count stay as they were"; of what kind they are does not matter
abbrev pub entries_left : {A : Type 0} → Reply (List A) → List A → List A
entries_left (refused r) b = b
entries_left (done es) b = es ++ drop (length es) b

-- What a call answers, and what the buffer that was lent to it then holds.
pub record Call (A : Type 0) : Type 0 where
  pub answer : Made
  pub buffer : List A

-- the room of index, list and writer is the buffer that is lent
abbrev pub index_call : List ℕ → List Entry → Call Entry
index_call s out = record { answer = made (index s (length out)); buffer = entries_left (index s (length out)) out }

abbrev pub list_call : List ℕ → List ℕ → Call ℕ
list_call s out = record { answer = made (list s (length out)); buffer = bytes_left (list s (length out)) out }

abbrev pub write_call : List ℕ → List ℕ → Call ℕ
write_call l out = record { answer = made (write l (length out)); buffer = bytes_left (write l (length out)) out }

-- a correction changes the buffer that holds the set
abbrev pub correct_call : List ℕ → ℕ → ℕ → List ℕ → Call ℕ
correct_call b used n c = record { answer = made (correct b used n c); buffer = bytes_left (correct b used n c) b }

-- ---- "Where an answer is an enum, a definition gives this paper's number and values for each of its cases."

-- number, place and label; 0, 0, 0 if nothing is refused
abbrev pub no_refusal : Refusal
no_refusal = refusal 0 0 0

-- the first of two refusals, the second if the first is none
unfoldable pub or_else : Refusal → Refusal → Refusal
or_else r q = cond (eqb r.no 0) q r

abbrev pub judged_refusal : Judged → Refusal
judged_refusal (Ok x) = no_refusal
judged_refusal (Err r) = r

abbrev pub made_refusal : Made → Refusal
made_refusal (Ok n) = no_refusal
made_refusal (Err r) = r

abbrev pub viewed_refusal : Viewed → Refusal
viewed_refusal (Ok (Sheet q)) = no_refusal
viewed_refusal (Ok (Set q)) = no_refusal
viewed_refusal (Err r) = r

-- the set's length, its lines, its type; 0, 0, 0 for a refusal
abbrev pub judged_shape : Judged → Shape
judged_shape (Ok x) = x
judged_shape (Err r) = record { length = 0; lines = 0; settype = 0 }

-- how much was made; 0 for a refusal
abbrev pub made_count : Made → ℕ
made_count (Ok n) = n
made_count (Err r) = 0

-- the flag: 1 if the part is of the sheet, 0 if it is of the set
abbrev pub viewed_flag : Viewed → ℕ
viewed_flag (Ok (Sheet q)) = 1
viewed_flag (Ok (Set q)) = 0
viewed_flag (Err r) = 0

-- place and length of the part; 0 and 0, "an empty part of the set", for a refusal
abbrev pub viewed_part : Viewed → Part
viewed_part (Ok (Sheet q)) = q
viewed_part (Ok (Set q)) = q
viewed_part (Err r) = record { place = 0; length = 0 }
