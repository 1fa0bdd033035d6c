-- One scanner for all that stands piece after piece: the lines of a set, the entries of a list, the entries of a sheet.
--
-- For example `pieces line_form 2 13 s`: at most two lines may start in s, whose first byte is at offset 13 of the set. If s is nothing, or another set starts there, no line is
-- read and s is the rest. Else the line at the front is asked for its faults. If it has one, the reply is the refusal by the first one, and nothing after the line is looked at.
-- If it has none, the bytes after it are read in the same way, from its end on, with one line fewer allowed; its field is put before the fields found there (`and_before`), and
-- a refusal found there is the reply.
use Rattle.std.specs.Prelude.{Bool, cond, List, [], ◌∷◌, ℕ, zero, suc, ◌+◌, drop}
use Rattle.meaning.specs.Field.{Field}
use Rattle.meaning.specs.Refusals.{Fault, behind, Reply, refused, done, refusal, too_many_lines}

-- How one kind of piece is read off the front of some bytes, and written.
pub record Form : Type 0 where
  -- what is wrong with the piece at the front, in the paper's order; only the first fault is given
  pub faults : List ℕ → List Fault
  -- its field, and how many bytes it has
  pub piece : List ℕ → Field
  pub width : List ℕ → ℕ
  -- no piece starts here
  pub over : List ℕ → Bool
  -- how many bytes stand before its content
  pub lead : ℕ
  -- the piece of a field, and then other bytes
  pub put : Field → List ℕ → List ℕ

-- What was read: the fields, and the bytes after them.
pub record Parsed : Type 0 where
  pub fields : List Field
  pub rest : List ℕ

abbrev pub parsed : List Field → List ℕ → Parsed
parsed fs t = record { fields = fs; rest = t }

-- the field of a piece, put before the fields that were read after it; if what comes after it was refused, that refusal
abbrev pub and_before : Field → Reply Parsed → Reply Parsed
and_before f (refused r) = refused r
and_before f (done d) = done (parsed (f ∷ d.fields) d.rest)

-- the piece at the front, which stands at offset `at` and has these faults, and then what `k` reads after it: k is given the offset after the piece and the bytes from there on
abbrev pub piece_then : Form → List Fault → ℕ → List ℕ → (ℕ → List ℕ → Reply Parsed) → Reply Parsed
piece_then F [] at s k = and_before (F.piece s) (k (at + F.width s) (drop (F.width s) s))
piece_then F (x ∷ xs) at s k = refused (refusal x.no (at + behind F.lead x.spot) x.label)

-- the pieces from offset `at` on, in order; 7, TooManyLines, if one more than n starts, even if that one is faulty (B2, B28)
unfoldable pub pieces : Form → ℕ → ℕ → List ℕ → Reply Parsed
pieces F zero at s = cond (F.over s) (done (parsed [] s)) (refused (refusal too_many_lines at 0))
pieces F (suc n) at s = cond (F.over s) (done (parsed [] s)) (piece_then F (F.faults s) at s (λ p t. pieces F n p t))

-- the pieces of the fields, and then `t`
abbrev pub put_all : Form → List Field → List ℕ → List ℕ
put_all F [] t = t
put_all F (f ∷ fs) t = F.put f (put_all F fs t)
