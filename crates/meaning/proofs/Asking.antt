-- What the tables of examples ask of the definitions, and how an answer is written: the replies and the lent bytes of all six parts.
use mathlib.Core.Bool.{Bool, cond, ◌&&◌}
use mathlib.Core.List.{List, [], ◌∷◌, ◌++◌, map}
use Prim.Native.Nat.{ℕ}
use Prim.Native.Char.{code}
use Prim.Native.String.{String}
use lib.Dec.{eqb}
use lib.ListN.{take, replicate}
use Rattle.meaning.specs.declared.Refusal.{Refusal}
use Rattle.meaning.specs.declared.Shape.{Shape}
use Rattle.meaning.specs.declared.Entry.{Entry}
use Rattle.meaning.specs.declared.Part.{Part}
use Rattle.meaning.specs.Field.{Field, field, is_nil}
use Rattle.meaning.specs.Pieces.{put_all}
use Rattle.meaning.specs.Lines.{render}
use Rattle.meaning.specs.Kinds.{same_bytes}
use Rattle.meaning.specs.Entries.{entry_form}
use Rattle.meaning.specs.Reading.{judge}
use Rattle.meaning.specs.Lists.{with_sum}
use Rattle.meaning.specs.Views.{viewed, view}
use Rattle.meaning.specs.Answers.{Call, index_call, list_call, write_call, correct_call, judged_refusal, judged_shape, made_refusal, made_count}
use Rattle.meaning.specs.Answers.{viewed_refusal, viewed_flag, viewed_part}
use Rattle.meaning.specs.Results.{Judged, Viewed}

-- ---- how sets, lists and sheets are written here

-- the bytes of a text
abbrev pub text : String → List ℕ
text Prim.Native.String.String.[] = []
text (Prim.Native.String.String.◌∷◌ c s) = code c ∷ text s

-- a line, or an entry of a list or sheet
abbrev pub line : ℕ → String → Field
line l c = field l (text c)

-- the set of a list of lines, 8100 with the right sum put in after the first
abbrev pub set_of : List Field → List ℕ
set_of fs = render (with_sum fs) []

-- the bytes of a list or a sheet
abbrev pub entries_of : List Field → List ℕ
entries_of es = put_all entry_form es []

-- what a lent buffer holds before a call
abbrev pub before : ℕ
before = 7

-- ---- what is asked

pub data Question : Type 0 where
  -- of a set
  judging : List ℕ → Question
  -- the header column of the index of a set, for this many entries
  indexing : List ℕ → ℕ → Question
  -- a set, for a buffer of this many bytes
  listing : List ℕ → ℕ → Question
  -- a list, for a buffer of this many bytes
  writing : List ℕ → ℕ → Question
  -- a set at the front of a buffer with this many bytes more, its used length, a line number and a new content
  correcting : List ℕ → ℕ → ℕ → ℕ → List ℕ → Question
  -- a set, a sheet and a line number
  viewing : List ℕ → List ℕ → ℕ → Question

-- ---- what is answered

pub data Answer : Type 0 where
  accepted : (length lines settype : ℕ) → Answer
  refused_by : (number place label : ℕ) → Answer
  headers : List ℕ → Answer
  holds : (length : ℕ) → (buffer : List ℕ) → Answer
  shows : (flag : ℕ) → (content : List ℕ) → Answer

-- the refusal, if all that comes with it is nothing; else the other answer, so that an example fails whose refusal says more or touches a lent buffer
pub told : Refusal → Bool → Answer → Answer
told r nothing a = cond (eqb r.no 0) a (cond nothing (refused_by r.no r.place r.label) a)

pub no_shape : Shape → Bool
no_shape x = eqb x.length 0 && (eqb x.lines 0 && eqb x.settype 0)

pub on_judged : Judged → Answer
unfolding no_shape
on_judged j = told (judged_refusal j) (no_shape (judged_shape j)) (accepted (judged_shape j).length (judged_shape j).lines (judged_shape j).settype)

pub headers_of : List Entry → List ℕ
headers_of es = map (λ (e : Entry). e.header) es

-- of a call that was lent a buffer: its count is 0 and the buffer is as before
pub on_index : List Entry → Call Entry → Answer
unfolding headers_of
on_index out c =
    told (made_refusal c.answer) (eqb (made_count c.answer) 0 && same_bytes (headers_of c.buffer) (headers_of out))
    (headers (headers_of (take (made_count c.answer) c.buffer)))

pub on_buffer : List ℕ → Call ℕ → Answer
on_buffer out c =
    told (made_refusal c.answer) (eqb (made_count c.answer) 0 && same_bytes c.buffer out) (holds (made_count c.answer) c.buffer)

pub no_part : Part → Bool
no_part q = eqb q.place 0 && eqb q.length 0

-- of a view: "an empty part of the set, flagged as the set's"
pub on_viewed : Viewed → List ℕ → Answer
unfolding no_part
on_viewed v c = told (viewed_refusal v) (eqb (viewed_flag v) 0 && (no_part (viewed_part v) && is_nil c)) (shows (viewed_flag v) c)

unfoldable pub answer : Question → Answer
unfolding told no_shape on_judged headers_of on_index on_buffer no_part on_viewed
answer (judging s) = on_judged (judge s)
answer (indexing s room) =
    let out : List Entry = replicate room (record { label = before; place = before; length = before; header = before }) in on_index out (index_call s out)
answer (listing s room) = let out : List ℕ = replicate room before in on_buffer out (list_call s out)
answer (writing l room) = let out : List ℕ = replicate room before in on_buffer out (write_call l out)
answer (correcting s more used n c) = let out : List ℕ = s ++ replicate more before in on_buffer out (correct_call out used n c)
answer (viewing s h n) = on_viewed (viewed s h n) (view s h n)

-- ---- a table of examples

pub record Example : Type 0 where
  pub question : Question
  pub expected : Answer

abbrev pub example : Question → Answer → Example
example q a = record { question = q; expected = a }

abbrev pub asked : List Example → List Answer
asked es = map (λ (e : Example). answer e.question) es

abbrev pub expected : List Example → List Answer
expected es = map (λ (e : Example). e.expected) es
