-- The walk of `line_at`: the tests 2 to 6 of one line, over the bytes and an offset, in the code's order.
-- What they mean is `line-is` in proofs/LineMeaning.
use Rattle.std.specs.Prelude.{Bool, true, false, ◌&&◌, List, ℕ, ◌+◌, ◌-◌, length, get_or, take, drop, leb, eqb, Result, Ok, Err, None, Some}
use Rattle.meaning.specs.declared.Refusal.{Refusal}
use Rattle.line_read.specs.declared.Line.{Line}
use Rattle.meaning.specs.Refusals.{refusal, bad_length, cut_line, bad_end, bad_label, bad_byte}
use Rattle.meaning.specs.Lines.{length_digits, label_digits, line_lead, line_end, min_line_bytes, cr, lf}
use Rattle.meaning.specs.Lists.{sum_digits}
use Rattle.byte_low.specs.Low.{first_low}
use Rattle.line_read.specs.Number.{number_at, Number}

-- what reading one line finds: a line that keeps 2 to 6, or the first of them that it breaks
abbrev pub LineRead : Type 0
LineRead = Result Line Refusal

-- a line with this label and this whole length
abbrev pub a_line : ℕ → ℕ → LineRead
a_line label size = Ok (record { label = label; size = size })

-- a rule: what follows if its test holds, else the refusal of this number at this place
unfoldable pub must : Bool → ℕ → ℕ → LineRead → LineRead
must true n place l = l
must false n place l = Err (refusal n place 0)

-- a rule that reads a number: what follows it if there is one, else the refusal
unfoldable pub must_read : Number → ℕ → ℕ → (ℕ → LineRead) → LineRead
must_read (Some m) n place f = f m
must_read None n place f = Err (refusal n place 0)

-- the line at an offset whose length and label are read: 6
unfoldable pub labelled_line : List ℕ → ℕ → ℕ → ℕ → LineRead
labelled_line s at size label =
    let low = first_low s (at + line_lead) (size - (line_lead + line_end)) in
    must (leb (at + line_lead + (size - (line_lead + line_end))) low) bad_byte low (a_line label size)

-- the line at an offset whose length is read: the rest of 2, then 3, 4, 5
unfoldable pub sized_line : List ℕ → ℕ → ℕ → LineRead
sized_line s at size =
    must (leb min_line_bytes size) bad_length at
    (must (leb size (length s - at)) cut_line at
    (must (eqb (get_or s (at + (size - 2)) 0) cr && eqb (get_or s (at + (size - 1)) 0) lf) bad_end at
    (must_read (number_at s (at + length_digits) label_digits) bad_label at (λ label. labelled_line s at size label))))

-- the line at an offset: "each by .. 2, 3, 4, 5, 6"
unfoldable pub line_at : List ℕ → ℕ → LineRead
line_at s at = must_read (number_at s at length_digits) bad_length at (λ size. sized_line s at size)

-- the content of a line of n bytes at an offset
abbrev pub line_content : List ℕ → ℕ → ℕ → List ℕ
line_content s at n = take (n - (line_lead + line_end)) (drop (at + line_lead) s)

-- the bytes of a line 8100 with a sum of five digits
abbrev pub sum_line : ℕ
sum_line = line_lead + line_end + sum_digits
