-- What `correct` answers and leaves by what was planned.
use mathlib.Core.Path.{◌≡◌, refl, sym, ap, ap₂, ◌∙◌}
use mathlib.Core.List.{List, [], ◌∷◌}
use Prim.Native.Nat.{ℕ, pred, ◌+◌, ◌≤◌, ◌<◌}
use native.Mathlib.Omega.{arith}
use lib.ListN.{length, take}
use lib.Seq.{length-take-le}
use borrow.Author.Tests.{le-leb, lt-leb}
use Rattle.meaning.specs.declared.Refusal.{Refusal}
use Rattle.meaning.specs.Field.{Field, content_at_line}
use Rattle.meaning.specs.Refusals.{Reply, refused, done, then_to, refusal, bad_use}
use Rattle.meaning.specs.Pieces.{Parsed, parsed}
use Rattle.meaning.specs.Lines.{line_lead, size, render}
use Rattle.meaning.specs.Reading.{judged, read, judge}
use Rattle.meaning.specs.Lists.{sum_digits, sum_place}
use Rattle.meaning.specs.Corrections.{changed, correct_lines, correct}
use Rattle.meaning.specs.Answers.{made, bytes_left}
use Rattle.meaning.proofs.LineLaws.{length-render}
use Rattle.meaning.proofs.RuleLaws.{ruled, begins-of}
use Rattle.meaning.proofs.SetLaws.{Standing, accepted}
use Rattle.meaning.proofs.CorrectionLaws.{Change, holds-standing, Corrected, correct-only}
use Rattle.correct_put.specs.Middle.{new_total, recontented}
use Rattle.correct_plan.specs.Planned.{unless, making, planned_by, planned, Plan, a_change}
use Rattle.correct_plan.proofs.TotalLaws.{Headed, headed, not_at, size-at, total-is}
use Rattle.correct.proofs.LineChange.{lines-changed}
use Rattle.std.specs.Prelude.{Err, Ok}

-- the set's own refusals
pub refused-read : (s : List ℕ) (r : Refusal) → judge s ≡ Err r → read s ≡ refused r
unfolding judge
refused-read s r e = go (read s) refl e
  where
    go : (x : Reply Parsed) → read s ≡ x → judged x ≡ Err r → read s ≡ refused r
    go (refused y) q h = q ∙ ap refused cc
    go (done d) q h = let z : ◌≡◌ {A = ℕ} 0 1 = cc in absurd (omega arith)

pub plan-unread : (s c : List ℕ) (room n : ℕ) (r : Refusal) → judge s ≡ Err r → planned s room n c ≡ Err r
unfolding planned
plan-unread s c room n r e = rw (refused-read s r e)

-- 18: the used length is over the buffer
pub correct-over : (b c : List ℕ) (used n : ℕ) → length b < used → correct b used n c ≡ refused (refusal bad_use (length b) 0)
unfolding correct
correct-over b c used n h = rw (lt-leb used (length b) h) refl

-- a refusal that was planned is the answer
unless-refused : (y : Reply (List ℕ)) (place old total : ℕ) (r : Refusal) → unless y (a_change place old total) ≡ Err r → y ≡ refused r
unless-refused (refused x) place old total r e = ap refused cc
unless-refused (done bs) place old total r e = let z : ◌≡◌ {A = ℕ} 0 1 = cc in absurd (omega arith)

pub plan-refused : (b c : List ℕ) (used n : ℕ) (r : Refusal) → used ≤ length b → planned (take used b) (length b) n c ≡ Err r
    → correct b used n c ≡ refused r
unfolding correct planned
plan-refused b c used n r h e = rw (le-leb used (length b) h) (go (read (take used b)) e)
  where
    go : (x : Reply Parsed) → planned_by (length b) n c x ≡ Err r → then_to x (λ d. correct_lines (length b) n c d) ≡ refused r
    go (refused y) q = ap refused cc
    go (done d) q = unless-refused (correct_lines (length b) n c d) _ _ _ r q

-- ---- what was planned and is made

unless-done : (y : Reply (List ℕ)) (p : Plan) (place old total : ℕ) → unless y p ≡ a_change place old total → (bs : List ℕ) × (y ≡ done bs)
unless-done (refused x) p place old total e = let z : ◌≡◌ {A = ℕ} 0 1 = cc in absurd (omega arith)
unless-done (done bs) p place old total e = (bs, refl)

plan-done : (b c : List ℕ) (used n place old total : ℕ) → used ≤ length b → planned (take used b) (length b) n c ≡ a_change place old total
    → (bs : List ℕ) × (correct b used n c ≡ done bs)
unfolding correct planned
plan-done b c used n place old total h e = rw (le-leb used (length b) h) (go (read (take used b)) e)
  where
    go : (x : Reply Parsed) → planned_by (length b) n c x ≡ a_change place old total → (bs : List ℕ) × (then_to x (λ d. correct_lines (length b) n c d) ≡ done bs)
    go (refused y) q = let z : ◌≡◌ {A = ℕ} 0 1 = cc in absurd (omega arith)
    go (done d) q = unless-done (correct_lines (length b) n c d) (making d.fields n c) place old total q

made-plan : (b c x : List ℕ) (used n : ℕ) (fs : List Field) → used ≤ length b → read (take used b) ≡ done (parsed fs []) → correct b used n c ≡ done x
    → planned (take used b) (length b) n c ≡ making fs n c
unfolding correct planned
made-plan b c x used n fs h q e =
    let y : correct_lines (length b) n c (parsed fs []) ≡ done x = rw (le-leb used (length b) h, q) at e in
    rw (q, y) refl

-- what a change that is planned says
abbrev place_in : Plan → ℕ
place_in (Ok x) = x.place
place_in (Err r) = 0

abbrev old_in : Plan → ℕ
old_in (Ok x) = x.old
old_in (Err r) = 0

abbrev total_in : Plan → ℕ
total_in (Ok x) = x.total
total_in (Err r) = 0

make_same : (p q o o' t t' : ℕ) → a_change p o t ≡ a_change q o' t' → (p ≡ q) × (o ≡ o') × (t ≡ t')
make_same p q o o' t t' e = (ap place_in e, ap old_in e, ap total_in e)

two-heads : (fs : List Field) → Headed fs → sum_place + sum_digits ≤ size fs
two-heads [] h = absurd (omega (arith, h.second-five))
two-heads (f ∷ []) h = absurd (omega (arith, h.second-five))
two-heads (f ∷ g ∷ fs) h = omega (arith, h.first-four, h.second-five)

-- what the buffer must then have room for, what is answered, and what the buffer then holds
pub record Makes (b c : List ℕ) (used n place old total : ℕ) : Type 0 where
  pub within : place + line_lead + old ≤ used
  pub total-so : total ≡ new_total old c used
  pub fits_in : total ≤ length b
  pub sum-in : sum_place + sum_digits ≤ length b
  pub answer : Ok total ≡ made (correct b used n c)
  pub buffer : recontented place old c used b ≡ bytes_left (correct b used n c) b

-- what was planned was made by the definition too (`plan-done`), so the buffer held lines and the correction was right (`correct-only`); the numbers planned are those of
-- these lines (`made-plan`), and `lines-changed` says what the buffer then holds
pub plan-made : (b c : List ℕ) (used n place old total : ℕ) → used ≤ length b → planned (take used b) (length b) n c ≡ a_change place old total
    → Makes b c used n place old total
plan-made b c used n place old total h e =
    let pd = plan-done b c used n place old total h e in
    let cx : Corrected b used n c pd.0 = correct-only b used n c pd.0 pd.1 in
    let fs : List Field = cx.lines in
    let k : ℕ = pred n in
    let ch : Change fs n c = cx.asked in
    let st : Standing fs = holds-standing b used fs cx.held in
    let hd : Headed fs = headed fs st in
    let bg = begins-of fs (ruled fs st.right).0.begins in
    let by : take used b ≡ render fs [] = (accepted (take used b) (parsed fs []) cx.held.front).bytes in
    let u : used ≡ size fs = omega (arith, ap length by, length-render fs [], length-take-le used b h) in
    let m = make_same _ place _ old _ total (sym (made-plan b c pd.0 used n fs h cx.held.front pd.1) ∙ e) in
    let n0 = not_at fs k 0 8000 refl bg.first-label ch.free in
    let n1 = not_at fs k 1 8100 refl bg.second-label ch.free in
    let kl : k < length fs = omega (arith, ch.least, ch.most) in
    let t : new_total (length (content_at_line fs k)) c (size fs) ≡ size (changed fs n c) = total-is c fs k hd n0 n1 kl in
    let d : correct b used n c ≡ done (render (changed fs n c) []) = pd.1 ∙ ap done cx.made in
    record {
      within = omega (arith, u, m.0, m.1, size-at fs k kl);
      total-so = omega (arith, u, m.1, m.2, t);
      fits_in = omega (arith, m.2, cx.room);
      sum-in = omega (arith, u, two-heads fs hd);
      answer = ap Ok (sym m.2 ∙ sym (length-render (changed fs n c) [] ∙ omega arith)) ∙ ap made (sym d);
      buffer =
          ap₂ (λ (p o : ℕ). recontented p o c used b) (sym m.0) (sym m.1)
          ∙ lines-changed b c fs k used by u hd n0 n1 kl
          ∙ ap (λ (y : Reply (List ℕ)). bytes_left y b) (sym d);
    }

-- a refusal leaves every byte
pub kept : (b c : List ℕ) (used n : ℕ) (r : Refusal) → correct b used n c ≡ refused r
    → (Err r ≡ made (correct b used n c)) × (b ≡ bytes_left (correct b used n c) b)
kept b c used n r e = (ap made (sym e), ap (λ (y : Reply (List ℕ)). bytes_left y b) (sym e))
