-- Views are exact: a content is shown exactly when the set keeps the rules and is alone, the line is there and every entry of the sheet is right; and it is that of the last
-- entry for the line, or the set's. As in `view-shows`, a sheet is assumed to hold bytes.
use mathlib.Core.Path.{◌≡◌, refl, sym, ap, ◌∙◌, subst}
use mathlib.Core.Bool.{Bool, true, false, ◌&&◌, true≢false}
use mathlib.Core.List.{List, [], ◌∷◌, ◌++◌}
use mathlib.Core.Logic.{◌⊎◌, inl, inr, ◌↔◌, ◌≢◌}
use mathlib.Core.Option.{Option, none, some}
use Prim.Native.Nat.{ℕ, zero, suc, pred, ◌+◌, ◌≤◌, ◌<◌}
use native.Mathlib.Omega.{arith}
use lib.Dec.{eqb, leb}
use lib.ListN.{length, take, get_or, length-append}
use borrow.Author.Tests.{eqb-true, eqb-false, eq-eqb, ne_eqb, leb-true, le-leb}
use Rattle.meaning.specs.Field.{Field, field, no_field, label_at_line, content_at_line, is_nil}
use Rattle.meaning.specs.Refusals.{done, then_to, verdict}
use Rattle.meaning.specs.Entries.{entry_lead, entry_then}
use Rattle.meaning.specs.Pieces.{Parsed, parsed, put_all}
use Rattle.meaning.specs.Rules.{profile, fits}
use Rattle.meaning.specs.Reading.{read, in_set}
use Rattle.meaning.specs.Corrections.{alone_faults, line_number_faults}
use Rattle.meaning.specs.Views.{sheet_form, sheet, Pending, latest, shown_part, viewing}
use Rattle.meaning.proofs.Bools.{Every, every-at, and_left, and_right}
use Rattle.meaning.proofs.FaultLaws.{ask-last, append-none, then_to-done, verdict-done, done-same}
use Rattle.meaning.proofs.FieldLaws.{fits-short}
use Rattle.meaning.proofs.EntryLaws.{Byte}
use Rattle.meaning.proofs.PieceLaws.{pieces-put, pieces-only}
use Rattle.meaning.proofs.ViewLaws.{Allowed, sheet-lawful}
use Rattle.keeps.specs.Keeps.{Keeps}
use Rattle.keeps.specs.Makes.{entries_of, PendingFor, LastFor, Shown, of-sheet, of-set, Views}
use Rattle.keeps.proofs.SevenExact.{has-seven, seven-has, plain_of, no-high-of}
use Rattle.keeps.proofs.Exact.{every_of, accepted-keeps, keeps-accepted}
use Rattle.keeps.proofs.CorrectionExact.{not-fixed, fixed-not}
use Rattle.meaning.specs.Results.{Viewed, of_sheet}
use Rattle.meaning.specs.declared.Shown.TheVariants.{Sheet}
use Rattle.std.specs.Prelude.{Ok}

-- ---- the last entry for a line

-- no entry for line n
abbrev NoneFor : List Field → ℕ → Type 0
NoneFor es n = (k : ℕ) → k < length es → label_at_line es k ≢ n

latest-none : (n at : ℕ) (es : List Field) (found : Option Pending) → NoneFor es n → latest n at es found ≡ found
unfolding latest
latest-none n at [] found h = refl
latest-none n at (e ∷ es) found h =
    rw (ne_eqb e.label n (h 0 (omega arith))) (latest-none n (at + (entry_lead + length e.content)) es found (λ k l. h (suc k) (omega arith)))

latest-last : (n at : ℕ) (es : List Field) (found : Option Pending) (k : ℕ) → LastFor es n k
    → latest n at es found ≡ some (record { place = at + (length (entries_of (take k es)) + entry_lead); content = content_at_line es k })
unfolding latest
latest-last n at [] found k h = absurd (omega (arith, h.0))
latest-last n at (e ∷ es) found zero h =
    rw (eq-eqb e.label n h.1) (
    latest-none n (at + (entry_lead + length e.content)) es (some (record { place = at + entry_lead; content = e.content })) (λ j l. h.2 (suc j) (omega arith) (omega arith)))
latest-last n at (e ∷ es) found (suc k) h =
    latest-last n (at + (entry_lead + length e.content)) es _ k (omega (arith, h.0), h.1, λ j a b. h.2 (suc j) (omega arith) (omega arith))
    ∙ ap (λ (p : ℕ). some (record { place = p; content = content_at_line es k })) (omega (arith, length_more e (take k es)))
  where
    length_more : (f : Field) (fs : List Field) → length (entries_of (f ∷ fs)) ≡ (entry_lead + length f.content) + length (entries_of fs)
    length_more f fs = simp length-append (omega arith)

-- there is a last entry for a line, or there is none at all
last-or-none : (es : List Field) (n : ℕ) → NoneFor es n ⊎ ((k : ℕ) × LastFor es n k)
last-or-none [] n = inl (λ k l. absurd (omega arith))
last-or-none (e ∷ es) n = go (last-or-none es n)
  where
    here : NoneFor es n → (b : Bool) → eqb e.label n ≡ b → NoneFor (e ∷ es) n ⊎ ((k : ℕ) × LastFor (e ∷ es) n k)
    here h true q = inr (0, (omega arith, eqb-true _ _ q, later))
      where
        later : (j : ℕ) → 0 < j → j < length (e ∷ es) → label_at_line (e ∷ es) j ≢ n
        later zero a b = absurd (omega arith)
        later (suc j) a b = h j (omega arith)
    here h false q = inl none_here
      where
        none_here : NoneFor (e ∷ es) n
        none_here zero l = eqb-false _ _ q
        none_here (suc k) l = h k (omega arith)

    go : NoneFor es n ⊎ ((k : ℕ) × LastFor es n k) → NoneFor (e ∷ es) n ⊎ ((k : ℕ) × LastFor (e ∷ es) n k)
    go (inl h) = here h (eqb e.label n) refl
    go (inr x) = inr (suc x.0, (omega (arith, x.1.0), x.1.1, later))
      where
        later : (j : ℕ) → suc x.0 < j → j < length (e ∷ es) → label_at_line (e ∷ es) j ≢ n
        later zero a b = absurd (omega arith)
        later (suc j) a b = x.1.2 j (omega arith) (omega arith)

-- ---- what is shown

last-shown : (fs es : List Field) (n k : ℕ) → LastFor es n k
    → shown_part fs n (latest n 0 es none) ≡ of_sheet (record { place = length (entries_of (take k es)) + entry_lead; length = length (content_at_line es k) })
last-shown fs es n k h =
    ap (shown_part fs n) (latest-last n 0 es none k h) ∙ ap (λ (p : ℕ). of_sheet (record { place = p; length = length (content_at_line es k) })) (omega arith)

shown_of : (fs es : List Field) (n : ℕ) → Shown fs es n (shown_part fs n (latest n 0 es none))
shown_of fs es n = go (last-or-none es n)
  where
    go : NoneFor es n ⊎ ((k : ℕ) × LastFor es n k) → Shown fs es n (shown_part fs n (latest n 0 es none))
    go (inl h) = of-set h (ap (shown_part fs n) (latest-none n 0 es none h))
    go (inr x) = of-sheet x.0 x.1 (last-shown fs es n x.0 x.1)

-- and nothing else is
shown-only : (fs es : List Field) (n : ℕ) (v : Viewed) → Shown fs es n v → shown_part fs n (latest n 0 es none) ≡ v
shown-only fs es n v (of-sheet k h e) = last-shown fs es n k h ∙ sym e
shown-only fs es n v (of-set h e) = ap (shown_part fs n) (latest-none n 0 es none h) ∙ sym e

-- ---- the sheet

sheet-put : (fs es : List Field) → put_all (sheet_form fs) es [] ≡ entries_of es
sheet-put fs [] = refl
sheet-put fs (e ∷ es) = ap (entry_then e) (sheet-put fs es)

pending-of : (fs : List Field) (e : Field) → Allowed fs e → PendingFor fs e
unfolding fits
pending-of fs e a = record {
  line-there = (a.asked.least, a.asked.most);
  not-fixed = not-fixed _ a.asked.free;
  no-low-byte = λ i l. every-at (λ y. 32 ≤ y) e.content i 0 l a.asked.high;
  content-fits = a.asked.right;
  no-high-byte = λ h. no-high-of e.content (a.asked.plain (has-seven fs h));
}

allowed_of : (fs : List Field) (e : Field) → length fs ≤ 512 → PendingFor fs e → Allowed fs e
unfolding fits
allowed_of fs e few p = record {
  asked = record {
    least = p.line-there.0;
    most = p.line-there.1;
    free = fixed-not _ p.not-fixed;
    high = every_of (λ y. 32 ≤ y) e.content 0 p.no-low-byte;
    right = p.content-fits;
    plain = λ b. plain_of e.content (p.no-high-byte (seven-has fs b));
  };
  label-fits = omega (arith, p.line-there.1);
  not-long = omega (arith, (fits-short (profile fs) (field (label_at_line fs (pred e.label)) e.content) p.content-fits).few_bytes);
}

-- ---- both ways

nil_is : (s : List ℕ) → is_nil s ≡ true → s ≡ []
nil_is [] q = refl
nil_is (b ∷ s) q = absurd (true≢false (sym q))

alone-is : (d : Parsed) → alone_faults d ≡ [] → d.rest ≡ []
alone-is d e = nil_is d.rest (ask-last _ _ e)

viewing-views : (s h : List ℕ) (n : ℕ) (v : Viewed) → Every Byte h → viewing s h n ≡ done v → Views s h n v
unfolding viewing
viewing-views s h n v b e =
    let x = then_to-done (read s) _ v e in
    let d : Parsed = x.0 in
    let y = then_to-done (verdict (in_set d.fields) (alone_faults d ++ line_number_faults d.fields n) d.fields) _ v x.2 in
    let w = verdict-done (in_set d.fields) (alone_faults d ++ line_number_faults d.fields n) d.fields y.0 y.1 in
    made d y.0 x.1 (append-none (alone_faults d) (line_number_faults d.fields n) w.0) w.1 y.2
  where
    made : (d : Parsed) (fs : List Field) → read s ≡ done d → (alone_faults d ≡ []) × (line_number_faults d.fields n ≡ []) → d.fields ≡ fs
        → then_to (sheet fs h) (λ e. done (shown_part fs n (latest n 0 e.fields none))) ≡ done v → Views s h n v
    made d fs r f q u =
        let z = then_to-done (sheet fs h) (λ e. done (shown_part fs n (latest n 0 e.fields none))) v u in
        let es : List Field = z.0.fields in
        let p = pieces-only (sheet_form fs) (Allowed fs) Byte (sheet-lawful fs) (length h) 0 h es z.0.rest b z.1 in
        let k = accepted-keeps s d r in
        let a : d.rest ≡ [] = alone-is d f.0 in
        let t : leb 1 n && leb n (length d.fields) ≡ true = ask-last _ _ f.1 in
        record {
          set-type = k.0;
          lines = fs;
          entries = es;
          keeps = subst (λ (gs : List Field). Keeps s k.0 gs []) q (subst (λ (u : List ℕ). Keeps s k.0 d.fields u) a k.1);
          line-there = subst (λ (gs : List Field). (1 ≤ n) × (n ≤ length gs)) q (leb-true 1 n (and_left (leb 1 n) _ t), leb-true n _ (and_right (leb 1 n) _ t));
          sheet-is = p.whole ∙ (ap (put_all (sheet_form fs) es) (nil_is z.0.rest p.at-end) ∙ sheet-put fs es);
          each_right = λ i l. pending-of fs (get_or es i no_field) (every-at (Allowed fs) es i no_field l p.all-good);
          shown = subst (λ (o : Viewed). Shown fs es n o) (done-same z.2) (shown_of fs es n);
        }

views-viewing : (s h : List ℕ) (n : ℕ) (v : Viewed) → Views s h n v → viewing s h n ≡ done v
unfolding viewing
views-viewing s h n v x =
    let fs : List Field = x.lines in
    let es : List Field = x.entries in
    let good : Every (Allowed fs) es = every_of (Allowed fs) es no_field (λ i l. allowed_of fs (get_or es i no_field) x.keeps.few-lines (x.each_right i l)) in
    let q : h ≡ put_all (sheet_form fs) es [] = x.sheet-is ∙ sym (sheet-put fs es) in
    let m : sheet fs h ≡ done (parsed es []) =
    ap (sheet fs) q ∙ pieces-put (sheet_form fs) (Allowed fs) Byte (sheet-lawful fs) _ 0 es [] (few-entries fs es) good refl in
    rw (keeps-accepted s x.set-type fs [] x.keeps, le-leb 1 n x.line-there.0, le-leb n (length fs) x.line-there.1, m) (ap done (shown-only fs es n v x.shown))
  where
    -- an entry has bytes, so there are no more entries than bytes
    few-entries : (fs es : List Field) → length es ≤ length (put_all (sheet_form fs) es [])
    few-entries fs [] = omega arith
    few-entries fs (e ∷ es) = simp length-append (omega (arith, few-entries fs es))

-- a view shows v exactly when nothing in the paper speaks against it, and v is the last entry for the line, or the set's content
pub viewed-exactly : (s h : List ℕ) (n : ℕ) (v : Viewed) → Every Byte h → (viewing s h n ≡ done v) ↔ Views s h n v
viewed-exactly s h n v b = (viewing-views s h n v b, views-viewing s h n v)
