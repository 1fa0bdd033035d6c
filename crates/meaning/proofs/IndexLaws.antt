-- The index on the set's own bytes: as many entries as the set has lines, and each says the label of its line and where in the set that line's content stands.
use mathlib.Core.Path.{◌≡◌, sym, ap, ap₂, ◌∙◌, subst}
use mathlib.Core.List.{List, ◌++◌}
use Prim.Native.Nat.{ℕ, ◌+◌, ◌≤◌, ◌<◌}
use native.Mathlib.Omega.{arith}
use lib.ListN.{length, take, drop, get_or, get_or-append}
use lib.Seq.{drop_at}
use borrow.Author.Tests.{le-leb}
use Rattle.meaning.specs.declared.Entry.{Entry}
use Rattle.meaning.specs.declared.Shape.{Shape}
use Rattle.meaning.specs.Field.{Field, label_at_line, content_at_line}
use Rattle.meaning.specs.Refusals.{Reply, done}
use Rattle.meaning.specs.Pieces.{Parsed}
use Rattle.meaning.specs.Lines.{line_lead, offset, render}
use Rattle.meaning.specs.Groups.{first}
use Rattle.meaning.specs.Rules.{profile}
use Rattle.meaning.specs.Reading.{read, judge}
use Rattle.meaning.specs.Index.{index_of, index}
use Rattle.meaning.specs.Answers.{made, entries_left, index_call}
use Rattle.meaning.proofs.SetLaws.{accepted}
use Rattle.meaning.proofs.PlaceLaws.{content-at, index-count, index-points}
use Rattle.meaning.proofs.Demands.{judge-read}
use Rattle.std.specs.Prelude.{Ok}

-- ---- of the fields of a set

pub count_of : (fs : List Field) → length (index_of fs) ≡ length fs
unfolding index_of
count_of fs = index-count (profile fs) first 0 0 fs

-- an entry says the label of line k and where in s its content stands: at the line's offset and 7
pub record Shows (s : List ℕ) (fs : List Field) (k : ℕ) (e : Entry) : Type 0 where
  pub label-so : e.label ≡ label_at_line fs k
  pub place-so : e.place ≡ offset fs k + line_lead
  pub length-so : e.length ≡ length (content_at_line fs k)
  pub content-there : take e.length (drop e.place s) ≡ content_at_line fs k

pub entry-shows : (fs : List Field) (rest : List ℕ) (k : ℕ) (none : Entry) → k < length fs → Shows (render fs rest) fs k (get_or (index_of fs) k none)
unfolding index_of
entry-shows fs rest k none h =
    let p = index-points (profile fs) first 0 0 fs k none h in
    let at : (get_or (index_of fs) k none).place ≡ offset fs k + line_lead = p.place-so ∙ omega arith in
    record {
      label-so = p.label-so;
      place-so = at;
      length-so = p.length-so;
      content-there = ap₂ (λ (n at : ℕ). take n (drop at (render fs rest))) p.length-so at ∙ content-at fs k rest h;
    }

-- ---- of the call

-- the index of a set whose lines are fs, made in the buffer `out`
pub record Indexed (s : List ℕ) (x : Shape) (fs : List Field) (out : List Entry) : Type 0 where
  pub lines_are : x.lines ≡ length fs
  pub answer : (index_call s out).answer ≡ Ok x.lines
  pub each : (k : ℕ) (none : Entry) → k < x.lines → Shows s fs k (get_or (index_call s out).buffer k none)
  pub others-stay : drop x.lines (index_call s out).buffer ≡ drop x.lines out

pub index-shows : (s : List ℕ) (x : Shape) (out : List Entry) → judge s ≡ Ok x → x.lines ≤ length out
    → (d : Parsed) × (read s ≡ done d) × Indexed s x d.fields out
unfolding index
index-shows s x out j room = (d, r, record { lines_are = n; answer = ap made i ∙ ap Ok (count_of fs ∙ sym n); each = each; others-stay = after })
  where
    d : Parsed
    d = (judge-read s x j).0

    r : read s ≡ done d
    r = (judge-read s x j).1

    fs : List Field
    fs = d.fields

    n : x.lines ≡ length fs
    n = ap (λ (y : Shape). y.lines) (judge-read s x j).2

    i : index s (length out) ≡ done (index_of fs)
    i = rw (r, le-leb (length fs) (length out) (omega (arith, n)))

    left : (index_call s out).buffer ≡ index_of fs ++ drop (length (index_of fs)) out
    left = ap (λ (y : Reply (List Entry)). entries_left y out) i

    each : (k : ℕ) (none : Entry) → k < x.lines → Shows s fs k (get_or (index_call s out).buffer k none)
    each k none h =
        let c : length (index_of fs) ≡ length fs = count_of fs in
        let w : get_or (index_of fs) k none ≡ get_or (index_call s out).buffer k none =
        sym (ap (λ (es : List Entry). get_or es k none) left ∙ get_or-append (index_of fs) (drop (length (index_of fs)) out) none k (omega (arith, n))) in
        let a : render fs d.rest ≡ s = sym (accepted s d r).bytes in
        subst (λ (e : Entry). Shows s fs k e) w (subst (λ (z : List ℕ). Shows z fs k (get_or (index_of fs) k none)) a (entry-shows fs d.rest k none (omega (arith, n))))

    after : drop x.lines (index_call s out).buffer ≡ drop x.lines out
    after =
        let c : length (index_of fs) ≡ x.lines = count_of fs ∙ sym n in
        ap (drop x.lines) left ∙ (drop_at (index_of fs) (drop (length (index_of fs)) out) x.lines c ∙ ap (λ (m : ℕ). drop m out) c)
