-- What `recode` answers and leaves by what was planned.
use mathlib.Core.Path.{◌≡◌, refl, sym, ap, ◌∙◌, subst}
use mathlib.Core.Bool.{Bool, true, false, cond, ◌&&◌, true≢false}
use mathlib.Core.List.{List, [], ◌∷◌, ◌++◌, map}
use mathlib.Core.Logic.{◌⊎◌, inl, inr}
use Prim.Native.Nat.{ℕ, ◌+◌, ◌≤◌, ◌<◌}
use native.Mathlib.Omega.{arith}
use lib.Dec.{leb}
use lib.ListN.{length, take}
use lib.Seq.{length-take-le}
use borrow.Author.Tests.{le-leb, lt-leb, leb-true}
use Rattle.meaning.specs.declared.Refusal.{Refusal}
use Rattle.meaning.specs.Limits.{max_set_bytes}
use Rattle.meaning.specs.Field.{Field, is_nil}
use Rattle.meaning.specs.Refusals.{Fault, Reply, refused, done, then_to, verdict, refusal, empty, bad_use}
use Rattle.meaning.specs.Pieces.{Parsed}
use Rattle.meaning.specs.Lines.{line_lead, size, offset, render}
use Rattle.meaning.specs.Rules.{profile, seven_bit}
use Rattle.meaning.specs.Reading.{scan, read, judge, in_set}
use Rattle.meaning.specs.Lists.{set_with_room}
use Rattle.meaning.specs.Corrections.{alone_faults, resum}
use Rattle.meaning.specs.Answers.{made, bytes_left}
use Rattle.meaning.proofs.Bools.{and_left, nil_is}
use Rattle.meaning.proofs.FaultLaws.{append-none, ask-none, then_to-done, verdict-done, with_room-done}
use Rattle.meaning.proofs.LineLaws.{length-render}
use Rattle.meaning.proofs.RuleLaws.{ruled}
use Rattle.meaning.proofs.SetLaws.{Standing, accepted}
use Rattle.meaning.proofs.SevenLaws.{seven-none}
use Rattle.meaning.proofs.CorrectionLaws.{leaves}
use Rattle.meaning_recode.specs.declared.Code.{Code}
use Rattle.meaning_recode.specs.Codes.{table_into}
use Rattle.meaning_recode.specs.Recoding.{has_charset, in_code, all_recoded, added_faults, no_character_from, recode_faults, recode_field}
use Rattle.meaning_recode.specs.Recoding.{charset_field, with_charset, recode_lines, recode_set, recode}
use Rattle.byte_high.specs.High.{plain_front}
use Rattle.line_find.proofs.FirstPlaceLaws.{FirstLine, NoLine, first_or_none, place_is}
use Rattle.correct_plan.proofs.TotalLaws.{Headed, headed, size-at}
use Rattle.correct.proofs.CorrectLaws.{refused-read}
use Rattle.recode_plan.specs.RecodePlans.{charset_place, plain_bytes, doing, unless, planned_by, planned, RecodePlan, of_gains, of_marks, of_recodes}
use Rattle.recode_plan.proofs.CharsetPlaceLaws.{has-none}
use Rattle.recode_plan.proofs.RecodedLaws.{one-byte, size-gained, size-recoded, size-marked, one-byte-recoded}
use Rattle.recode_put.specs.Recoded.{line_three, gained_bytes, zeroed_after, remarked, mapped_front, with_line}
use Rattle.recode.proofs.RecodedLines.{OnlyLine, only-line, leaves-same, leaves-marked, leaves-recoded, leaves-gained}
use Rattle.recode_plan.specs.declared.Plan.TheVariants.{Gains, Marks, Recodes, Stays}
use Rattle.std.specs.Prelude.{Err, Ok}

-- ---- refusals

-- 18: the used length is over the buffer
pub recode-over : (b : List ℕ) (used : ℕ) (w : Code) → length b < used → recode b used w ≡ refused (refusal bad_use (length b) 0)
unfolding recode
recode-over b used w h = rw (lt-leb used (length b) h) refl

-- 1: no byte is used
pub recode-empty : (b : List ℕ) (used : ℕ) (w : Code) → used ≡ 0 → recode b used w ≡ refused (refusal empty 0 0)
unfolding recode read scan
recode-empty b used w e = rw (e, le-leb 0 (length b) (omega arith)) refl

-- a refusal leaves every byte
pub kept : (b : List ℕ) (used : ℕ) (w : Code) (r : Refusal) → recode b used w ≡ refused r
    → (Err r ≡ made (recode b used w)) × (b ≡ bytes_left (recode b used w) b)
kept b used w r e = (ap made (sym e), ap (λ (y : Reply (List ℕ)). bytes_left y b) (sym e))

-- a plan that is no refusal
abbrev pub Goes : RecodePlan → Type 0
Goes (Err r) = ⊥
Goes (Ok Stays) = Unit
Goes (Ok (Marks p)) = Unit
Goes (Ok (Recodes n p)) = Unit
Goes (Ok (Gains n)) = Unit

doing-goes : (w : Code) (fs : List Field) → Goes (doing w fs)
doing-goes w fs = go (in_code w fs) (seven_bit fs) (has_charset fs)
  where
    go : (a v h : Bool) → Goes (cond a (Ok Stays) (cond v (of_marks (charset_place fs)) (cond h (of_recodes (plain_bytes fs) (charset_place fs)) (of_gains (plain_bytes fs)))))
    go true v h = tt
    go false true h = tt
    go false false true = tt
    go false false false = tt

unless-refused : (y : Reply (List ℕ)) (p : RecodePlan) (r : Refusal) → Goes p → unless y p ≡ Err r → y ≡ refused r
unless-refused (refused x) p r g e = ap refused cc
unless-refused (done bs) p r g e = absurd (subst Goes e g)

pub plan-refused : (b : List ℕ) (used : ℕ) (w : Code) (r : Refusal) → used ≤ length b → planned (take used b) (length b) w ≡ Err r → recode b used w ≡ refused r
unfolding recode planned
plan-refused b used w r h e = rw (le-leb used (length b) h) (go (read (take used b)) e)
  where
    go : (x : Reply Parsed) → planned_by w (length b) x ≡ Err r → then_to x (λ d. recode_set w (length b) d) ≡ refused r
    go (refused y) q = ap refused cc
    go (done d) q = unless-refused (recode_set w (length b) d) (doing w d.fields) r (doing-goes w d.fields) q

-- ---- what was planned and is made

unless-goes : (y : Reply (List ℕ)) (p q : RecodePlan) → Goes q → unless y p ≡ q → (bs : List ℕ) × (y ≡ done bs) × (p ≡ q)
unless-goes (refused x) p q g e = absurd (subst Goes (sym e) g)
unless-goes (done bs) p q g e = (bs, refl, e)

-- the lines that the buffer holds, that nothing speaks against them, what is made of them, and what was planned for them
pub record Going (b : List ℕ) (used : ℕ) (w : Code) (p : RecodePlan) : Type 0 where
  pub lines : List Field
  pub bytes : take used b ≡ render lines []
  pub used-so : used ≡ size lines
  pub stand : Standing lines
  pub no-faults : recode_faults w lines ≡ []
  pub in-room : size (recode_lines w lines) ≤ length b
  pub made-so : recode b used w ≡ done (render (recode_lines w lines) [])
  pub plan-so : doing w lines ≡ p

pub going : (b : List ℕ) (used : ℕ) (w : Code) (p : RecodePlan) → used ≤ length b → Goes p → planned (take used b) (length b) w ≡ p → Going b used w p
unfolding recode planned
going b used w p h g e = go (read (take used b)) refl e
  where
    called : (d : Parsed) → read (take used b) ≡ done d → recode b used w ≡ recode_set w (length b) d
    called d q = rw (le-leb used (length b) h, q) refl

    go : (x : Reply Parsed) → read (take used b) ≡ x → planned_by w (length b) x ≡ p → Going b used w p
    go (refused r) q k = absurd (subst Goes (sym k) g)
    go (done d) q k =
        let fs : List Field = d.fields in
        let new : List Field = recode_lines w fs in
        let fl : List Fault = alone_faults d ++ recode_faults w fs in
        let m = unless-goes (recode_set w (length b) d) (doing w fs) p g k in
        let y = then_to-done (verdict (in_set fs) fl new) (λ gs. set_with_room gs (length b)) m.0 m.1 in
        let v = verdict-done (in_set fs) fl new y.0 y.1 in
        let a = ask-none (is_nil d.rest) _ (recode_faults w fs) v.0 in
        let s : set_with_room new (length b) ≡ done m.0 = ap (λ (gs : List Field). set_with_room gs (length b)) v.1 ∙ y.2 in
        let r = with_room-done (leb (size new) (length b) && leb (size new) max_set_bytes) (size new) (render new []) m.0 s in
        let by : take used b ≡ render fs [] = (accepted (take used b) d q).bytes ∙ ap (render fs) (nil_is d.rest a.0) in
        record {
          lines = fs;
          bytes = by;
          used-so = omega (arith, ap length by, length-render fs [], length-take-le used b h);
          stand = (accepted (take used b) d q).standing;
          no-faults = a.1;
          in-room = leb-true (size new) (length b) (and_left (leb (size new) (length b)) _ r.0);
          made-so = called d q ∙ (m.1 ∙ ap done (sym r.1));
          plan-so = m.2;
        }

-- ---- what each plan says of the lines

abbrev Why : Code → List Field → RecodePlan → Type 0
Why w fs (Err r) = Unit
Why w fs (Ok Stays) = in_code w fs ≡ true
Why w fs (Ok (Marks p)) = (in_code w fs ≡ false) × (seven_bit fs ≡ true) × (p ≡ charset_place fs)
Why w fs (Ok (Recodes n p)) = (in_code w fs ≡ false) × (seven_bit fs ≡ false) × (has_charset fs ≡ true) × (n ≡ plain_bytes fs) × (p ≡ charset_place fs)
Why w fs (Ok (Gains n)) = (in_code w fs ≡ false) × (seven_bit fs ≡ false) × (has_charset fs ≡ false) × (n ≡ plain_bytes fs)

why : (w : Code) (fs : List Field) → Why w fs (doing w fs)
why w fs = go (in_code w fs) (seven_bit fs) (has_charset fs) refl refl refl
  where
    go : (a v h : Bool) → in_code w fs ≡ a → seven_bit fs ≡ v → has_charset fs ≡ h
        → Why w fs (cond a (Ok Stays) (cond v (of_marks (charset_place fs)) (cond h (of_recodes (plain_bytes fs) (charset_place fs)) (of_gains (plain_bytes fs)))))
    go true v h p q r = p
    go false true h p q r = (p, q, refl)
    go false false true p q r = (p, q, r, refl, refl)
    go false false false p q r = (p, q, r, refl)

-- the one line that is 9206, if there is one
only-9206 : (fs : List Field) → Standing fs → (NoLine 9206 fs → ⊥) → (j : ℕ) × OnlyLine fs j × (charset_place fs ≡ offset fs j + line_lead)
only-9206 fs st n = go (first_or_none 9206 fs)
  where
    go : ((k : ℕ) × FirstLine 9206 fs k) ⊎ NoLine 9206 fs → (j : ℕ) × OnlyLine fs j × (charset_place fs ≡ offset fs j + line_lead)
    go (inl (k, x)) = (k, only-line (profile fs) fs (ruled fs st.right).0.each-line k x.inside x.named, place_is 9206 (omega arith) fs [] k st.sound st.few x)
    go (inr x) = absurd (n x)

-- every content has a character in the wanted code page
all_known : (w : Code) (fs : List Field) → recode_faults w fs ≡ [] → in_code w fs ≡ false → seven_bit fs ≡ false → no_character_from w 0 fs ≡ []
unfolding recode_faults all_recoded
all_known w fs e a v = sym (rw (a, v) refl) ∙ (append-none (added_faults w fs) (cond (all_recoded w fs) (no_character_from w 0 fs) []) e).1

-- ---- what is answered, and what the buffer then holds

-- as the definition says: this many bytes, and these in the buffer
abbrev pub Called : List ℕ → ℕ → Code → ℕ → List ℕ → Type 0
Called b used w total x = (Ok total ≡ made (recode b used w)) × (x ≡ bytes_left (recode b used w) b)

called-by : (b : List ℕ) (used : ℕ) (w : Code) (p : RecodePlan) (g : Going b used w p) (gs : List Field) (total : ℕ) (x : List ℕ)
    → recode_lines w g.lines ≡ gs → total ≡ size gs → x ≡ leaves gs b → Called b used w total x
called-by b used w p g gs total x e n l =
    let d : recode b used w ≡ done (render gs []) = g.made-so ∙ ap (λ (y : List Field). done (render y [])) e in
    (ap Ok (n ∙ sym (length-render gs [] ∙ omega arith)) ∙ ap made (sym d), l ∙ ap (λ (y : Reply (List ℕ)). bytes_left y b) (sym d))

module _ (b : List ℕ) (used : ℕ) (w : Code) (h : used ≤ length b) where
  pub stays-made : planned (take used b) (length b) w ≡ (Ok Stays) → Called b used w used (zeroed_after used b)
  unfolding recode_lines
  stays-made e =
      let g : Going b used w (Ok Stays) = going b used w (Ok Stays) h tt e in
      let a : in_code w g.lines ≡ true = subst (Why w g.lines) g.plan-so (why w g.lines) in
      called-by b used w (Ok Stays) g g.lines used (zeroed_after used b) (rw a refl) g.used-so (leaves-same b used g.lines g.bytes g.used-so w)

  -- the content of 9206 changes: where it stands
  module _ (place : ℕ) (e : planned (take used b) (length b) w ≡ of_marks place) where
    marking : Going b used w (Ok (Marks place))
    marking = going b used w (Ok (Marks place)) h tt e

    abbrev marked : List Field
    marked = marking.lines

    why-marks : (in_code w marked ≡ false) × (seven_bit marked ≡ true) × (place ≡ charset_place marked)
    why-marks = subst (Why w marked) marking.plan-so (why w marked)

    has-9206 : (j : ℕ) × OnlyLine marked j × (charset_place marked ≡ offset marked j + line_lead)
    has-9206 = only-9206 marked marking.stand (λ n. true≢false (sym why-marks.1 ∙ seven-none marked n))

    place-marks : place ≡ offset marked has-9206.0 + line_lead
    place-marks = why-marks.2 ∙ has-9206.2

    pub marks-inside : place < used
    marks-inside = omega (arith, place-marks, marking.used-so, size-at marked has-9206.0 has-9206.1.inside)

    pub marks-made : Called b used w used (zeroed_after used (remarked place w b))
    unfolding recode_lines
    marks-made =
        let one = one-byte (profile marked) marked (ruled marked marking.stand.right).0.each-line in
        called-by b used w (Ok (Marks place)) marking (map (charset_field w) marked) used (zeroed_after used (remarked place w b)) (rw (why-marks.0, why-marks.1) refl)
        (marking.used-so ∙ sym (size-marked w marked one))
        (ap (λ (p : ℕ). zeroed_after used (remarked p w b)) place-marks ∙ leaves-marked b used marked marking.bytes marking.used-so w has-9206.0 has-9206.1 one)

  module _ (plain place : ℕ) (e : planned (take used b) (length b) w ≡ of_recodes plain place) where
    recoding : Going b used w (Ok (Recodes plain place))
    recoding = going b used w (Ok (Recodes plain place)) h tt e

    abbrev lines_now : List Field
    lines_now = recoding.lines

    why-recodes : (in_code w lines_now ≡ false) × (seven_bit lines_now ≡ false) × (has_charset lines_now ≡ true) × (plain ≡ plain_bytes lines_now) × (place ≡ charset_place lines_now)
    why-recodes = subst (Why w lines_now) recoding.plan-so (why w lines_now)

    its-9206 : (j : ℕ) × OnlyLine lines_now j × (charset_place lines_now ≡ offset lines_now j + line_lead)
    its-9206 = only-9206 lines_now recoding.stand (λ n. true≢false (sym why-recodes.2 ∙ has-none lines_now n))

    place-recodes : place ≡ offset lines_now its-9206.0 + line_lead
    place-recodes = why-recodes.4 ∙ its-9206.2

    pub recodes-inside : place < used
    recodes-inside = omega (arith, place-recodes, recoding.used-so, size-at lines_now its-9206.0 its-9206.1.inside)

    pub recodes-plain : plain ≡ plain_front (take used b)
    recodes-plain = why-recodes.3 ∙ ap plain_front (sym recoding.bytes)

    pub recodes-made : Called b used w used (zeroed_after used (remarked place w (mapped_front (table_into w) used b)))
    unfolding recode_lines
    recodes-made =
        let one = one-byte (profile lines_now) lines_now (ruled lines_now recoding.stand.right).0.each-line in
        let new : List Field = map (charset_field w) (map (recode_field w) lines_now) in
        let n : size new ≡ size lines_now = size-marked w (map (recode_field w) lines_now) (one-byte-recoded w lines_now one) ∙ size-recoded w lines_now in
        called-by b used w (Ok (Recodes plain place)) recoding new used (zeroed_after used (remarked place w (mapped_front (table_into w) used b)))
        (rw (why-recodes.0, why-recodes.1, why-recodes.2) refl) (recoding.used-so ∙ sym n)
        (ap (λ (p : ℕ). zeroed_after used (remarked p w (mapped_front (table_into w) used b))) place-recodes
        ∙ leaves-recoded b used lines_now recoding.bytes recoding.used-so w (all_known w lines_now recoding.no-faults why-recodes.0 why-recodes.1)
        its-9206.0 its-9206.1 one)

  module _ (plain : ℕ) (e : planned (take used b) (length b) w ≡ of_gains plain) where
    gaining : Going b used w (Ok (Gains plain))
    gaining = going b used w (Ok (Gains plain)) h tt e

    abbrev lines-before : List Field
    lines-before = gaining.lines

    why-gains : (in_code w lines-before ≡ false) × (seven_bit lines-before ≡ false) × (has_charset lines-before ≡ false) × (plain ≡ plain_bytes lines-before)
    why-gains = subst (Why w lines-before) gaining.plan-so (why w lines-before)

    heads : Headed lines-before
    heads = headed lines-before gaining.stand

    abbrev new-lines : List Field
    new-lines = resum (with_charset w (map (recode_field w) lines-before))

    new-so : recode_lines w lines-before ≡ new-lines
    unfolding recode_lines
    new-so = rw (why-gains.0, why-gains.1, why-gains.2) refl

    total-so : used + gained_bytes ≡ size new-lines
    total-so = omega (arith, gaining.used-so, size-gained w lines-before heads)

    two-lines : (fs : List Field) → Headed fs → line_three ≤ size fs
    two-lines [] k = absurd (omega (arith, k.second-five))
    two-lines (f ∷ []) k = absurd (omega (arith, k.second-five))
    two-lines (f ∷ g ∷ fs) k = omega (arith, k.first-four, k.second-five)

    pub gains-after : line_three ≤ used
    gains-after = omega (arith, gaining.used-so, two-lines lines-before heads)

    pub gains-room : used + gained_bytes ≤ length b
    gains-room = omega (arith, total-so, ap size new-so, gaining.in-room)

    pub gains-plain : plain ≡ plain_front (take used b)
    gains-plain = why-gains.3 ∙ ap plain_front (sym gaining.bytes)

    pub gains-made : Called b used w (used + gained_bytes) (with_line w used (mapped_front (table_into w) used b))
    gains-made =
        called-by b used w (Ok (Gains plain)) gaining new-lines (used + gained_bytes) (with_line w used (mapped_front (table_into w) used b)) new-so total-so
        (leaves-gained b used lines-before gaining.bytes gaining.used-so w (all_known w lines-before gaining.no-faults why-gains.0 why-gains.1) heads)

-- ---- the set's own refusals

pub plan-unread : (s : List ℕ) (room : ℕ) (w : Code) (r : Refusal) → judge s ≡ Err r → planned s room w ≡ Err r
unfolding planned
plan-unread s room w r e = rw (refused-read s r e)
