-- The writer is exact: a list is written exactly when its entries are right, its lines with the sum keep the rules, and there is room.
-- As in `write-only`, a list is assumed to hold bytes.
use mathlib.Core.Path.{◌≡◌, refl, sym, ap, ◌∙◌}
use mathlib.Core.List.{List, [], ◌∷◌}
use mathlib.Core.Logic.{◌↔◌}
use Prim.Native.Nat.{ℕ, ◌+◌, ◌≤◌}
use native.Mathlib.Omega.{arith}
use lib.ListN.{get_or}
use borrow.Author.Tests.{le-leb}
use Rattle.meaning.specs.Limits.{max_entries}
use Rattle.meaning.specs.Digits.{digits}
use Rattle.meaning.specs.Field.{Field, field, no_field}
use Rattle.meaning.specs.Refusals.{done}
use Rattle.meaning.specs.Pieces.{parsed, pieces, put_all}
use Rattle.meaning.specs.Lines.{line_size, size, render}
use Rattle.meaning.specs.Entries.{entry_form, entry_then}
use Rattle.meaning.specs.Lists.{with_sum, write}
use Rattle.meaning.proofs.Bools.{Every, every-at}
use Rattle.meaning.proofs.LineLaws.{Sound}
use Rattle.meaning.proofs.PieceLaws.{pieces-put}
use Rattle.meaning.proofs.EntryLaws.{Byte, Listed, entry-lawful}
use Rattle.meaning.proofs.RuleLaws.{Ruled, ruled, no-rule-faults}
use Rattle.meaning.proofs.SetLaws.{Standing}
use Rattle.meaning.proofs.SizeLaws.{ruled-total}
use Rattle.meaning.proofs.WriterLaws.{write-only}
use Rattle.keeps.specs.Makes.{entries_of, EntryRight, sum_line_of, Writes}
use Rattle.keeps.proofs.RulesExact.{ruled-keeps, keeps-ruled}
use Rattle.keeps.proofs.Exact.{every_of}

entries-put : (es : List Field) → put_all entry_form es [] ≡ entries_of es
entries-put [] = refl
entries-put (e ∷ es) = ap (entry_then e) (entries-put es)

right-listed : (e : Field) → EntryRight e → Listed e
right-listed e r = record { label-fits = r.label-most; not-long = r.two_bytes; no-low = every_of (λ b. 32 ≤ b) e.content 0 r.no-low-byte }

sound-right : (e : Field) → Sound e → EntryRight e
sound-right e s = record {
  label-most = omega (arith, s.label-fits);
  two_bytes = omega (arith, s.not-long);
  no-low-byte = λ i l. every-at (λ b. 32 ≤ b) e.content i 0 l s.no-low;
}

-- ---- what is written keeps the rules

written-writes : (l : List ℕ) (room : ℕ) (out : List ℕ) (es : List Field) → l ≡ put_all entry_form es [] → Standing (with_sum es) → size (with_sum es) ≤ room
    → out ≡ render (with_sum es) [] → Writes l room out
written-writes l room out [] w st h m =
    let r = ruled-keeps [] (ruled [] st.right).0 in
    let z : ◌≡◌ {A = ℕ} 0 8000 = r.1.starts.0 in
    absurd (omega arith)
written-writes l room out (f ∷ fs) w st h m =
    let rules : Ruled (with_sum (f ∷ fs)) = (ruled (with_sum (f ∷ fs)) st.right).0 in
    let r = ruled-keeps (with_sum (f ∷ fs)) rules in
    record {
      set-type = r.0;
      first-entry = f;
      others = fs;
      lines = with_sum (f ∷ fs);
      list-is = w ∙ entries-put (f ∷ fs);
      few-entries = omega (arith, st.few);
      entries-right = λ k q. sound-right (get_or (f ∷ fs) k no_field) (every-at Sound (f ∷ fs) k no_field q (st.sound.0, st.sound.1.1));
      lines_are = ap (λ (n : ℕ). f ∷ field 8100 (digits 5 n) ∷ fs) (omega arith);
      rules = r.1;
      has_room = h;
      not-over = ruled-total (with_sum (f ∷ fs)) rules st.few;
      out-is = m;
    }

-- ---- what keeps the rules is written

-- the line of the sum is the writer's
lines-sum : (f : Field) (fs lines : List Field) → lines ≡ f ∷ sum_line_of lines ∷ fs → lines ≡ with_sum (f ∷ fs)
lines-sum f fs lines e =
    let n : size lines ≡ line_size f + (14 + size fs) = ap size e ∙ omega arith in
    e ∙ ap (λ (x : ℕ). f ∷ field 8100 (digits 5 x) ∷ fs) n

writes-written : (l : List ℕ) (room : ℕ) (out : List ℕ) → Writes l room out → write l room ≡ done out
unfolding write
writes-written l room out w = ap (λ (x : List ℕ). write x room) (w.list-is ∙ sym (entries-put es)) ∙ (made ∙ ap done (sym w.out-is))
  where
    es : List Field
    es = w.first-entry ∷ w.others

    same : with_sum es ≡ w.lines
    same = sym (lines-sum w.first-entry w.others w.lines w.lines_are)

    listed : Every Listed es
    listed = every_of Listed es no_field (λ k q. right-listed (get_or es k no_field) (w.entries-right k q))

    read-list : pieces entry_form max_entries 0 (put_all entry_form es []) ≡ done (parsed es [])
    read-list = pieces-put entry_form Listed Byte entry-lawful max_entries 0 es [] w.few-entries listed refl

    made : write (put_all entry_form es []) room ≡ done (render w.lines [])
    made = rw (read-list, same, no-rule-faults w.lines (keeps-ruled w.set-type w.lines w.rules), le-leb _ _ w.has_room, le-leb _ _ w.not-over) refl

-- a list of bytes is written exactly when nothing in the paper speaks against it
pub written-exactly : (l : List ℕ) (room : ℕ) (out : List ℕ) → Every Byte l → (write l room ≡ done out) ↔ Writes l room out
written-exactly l room out b = (writes, writes-written l room out)
  where
    writes : write l room ≡ done out → Writes l room out
    writes e = let w = write-only l room out b e in written-writes l room out w.entries w.whole w.standing w.has_room w.made
