-- The records of numbers that the C face answers, from the answers of `meaning`, and the buffer that a copy of a view leaves.
use Rattle.std.specs.Prelude.{cond, List, ◌++◌, ℕ, length, drop, leb}
use Rattle.meaning.specs.Answers.{judged_refusal, judged_shape, made_refusal, made_count, viewed_refusal, viewed_flag, viewed_part}
use Rattle.face_replies.specs.declared.JudgedReply.{JudgedReply}
use Rattle.face_replies.specs.declared.MadeReply.{MadeReply}
use Rattle.face_replies.specs.declared.ViewedReply.{ViewedReply}
use Rattle.meaning.specs.Results.{Judged, Made, Viewed}

-- the refusal's number, place and label, 0 if there is none; the set's length, lines and type, 0 if it is refused
abbrev pub judged_reply : Judged → JudgedReply
judged_reply j = record {
  no = (judged_refusal j).no;
  place = (judged_refusal j).place;
  label = (judged_refusal j).label;
  length = (judged_shape j).length;
  lines = (judged_shape j).lines;
  settype = (judged_shape j).settype;
}

-- the refusal's number, place and label, 0 if there is none; how much was made, 0 if the call is refused
abbrev pub made_reply : Made → MadeReply
made_reply m = record { no = (made_refusal m).no; place = (made_refusal m).place; label = (made_refusal m).label; count = made_count m }

-- the refusal's number, place and label, 0 if there is none; the flag, and where the part stands, 0 if the view is refused
abbrev pub viewed_reply : Viewed → ViewedReply
viewed_reply v = record {
  no = (viewed_refusal v).no;
  place = (viewed_refusal v).place;
  label = (viewed_refusal v).label;
  flag = viewed_flag v;
  at = (viewed_part v).place;
  length = (viewed_part v).length;
}

-- a buffer after a copy of xs: xs at its front if there is room for all of xs, else as it was
abbrev pub copied : List ℕ → List ℕ → List ℕ
copied xs b = cond (leb (length xs) (length b)) (xs ++ drop (length xs) b) b
