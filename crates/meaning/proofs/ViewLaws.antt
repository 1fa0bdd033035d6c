-- Views: what is shown is the last pending content for the line, else the set's; that is, the content as it would stand.
-- Assumes that the bytes of a sheet are under 256.
use mathlib.Core.Path.{◌≡◌, refl, sym, ap, ◌∙◌, subst}
use mathlib.Core.Bool.{Bool, true, false, cond}
use mathlib.Core.List.{List, [], ◌∷◌}
use mathlib.Core.Option.{Option, none, some}
use Prim.Native.Nat.{ℕ, pred, ◌+◌, ◌≤◌, ◌<◌}
use native.Mathlib.Omega.{arith}
use lib.Dec.{eqb}
use lib.ListN.{length, take, drop}
use lib.Seq.{take_at, drop_at, drop-drop, get_or-set_other, get_or-set_same}
use borrow.Author.Tests.{le-leb, eqb-true, eqb-false}
use Rattle.meaning.specs.Field.{Field, field, no_field, label_at_line, content_at_line}
use Rattle.meaning.specs.Refusals.{done}
use Rattle.meaning.specs.Pieces.{parsed, pieces, put_all}
use Rattle.meaning.specs.Lines.{line_lead, offset, render}
use Rattle.meaning.specs.Entries.{entry_whole, entry_label, entry_content, entry_then}
use Rattle.meaning.specs.Rules.{profile}
use Rattle.meaning.specs.Reading.{read}
use Rattle.meaning.specs.Corrections.{recontent, resum, changed, correct}
use Rattle.meaning.specs.Views.{sheet_entry_faults, sheet_form, sheet, Pending, latest, part, shown_part, viewing, viewed, part_of, shown_bytes, view}
use Rattle.meaning.proofs.Bools.{Every}
use Rattle.meaning.proofs.FaultLaws.{ask-none}
use Rattle.meaning.proofs.PieceLaws.{Lawful, pieces-put, pieces-only}
use Rattle.meaning.proofs.EntryLaws.{Byte, content-entry, label-entry, whole-entry, rest-entry, field-entry, entire, entry-back, short_back, entry-bytes}
use Rattle.meaning.proofs.FieldLaws.{fits-short}
use Rattle.meaning.proofs.SetLaws.{accepted, read-render}
use Rattle.meaning.proofs.PlaceLaws.{content-at}
use Rattle.meaning.proofs.CorrectionLaws.{line-resum, Change, change, no-change-faults, Holds, holds-standing, same_lines, alike-changed, still-standing, correct-only}

-- ---- the form of a sheet's entries

-- an entry that can stand in a sheet for the lines fs
pub record Allowed (fs : List Field) (e : Field) : Type 0 where
  pub asked : Change fs e.label e.content
  pub label-fits : e.label < 65536
  pub not-long : length e.content < 65536

faults-allowed : (fs : List Field) (e : Field) (t : List ℕ) → Allowed fs e → sheet_entry_faults fs (entry_then e t) ≡ []
unfolding sheet_entry_faults
faults-allowed fs e t g =
    rw (whole-entry e t g.not-long, label-entry e t g.not-long g.label-fits, content-entry e t g.not-long) (no-change-faults fs e.label e.content g.asked)

two-bytes-small : (s : List ℕ) → Every Byte s → entry_label s < 65536
two-bytes-small [] b = omega arith
two-bytes-small (b0 ∷ []) b = omega arith
two-bytes-small (b0 ∷ b1 ∷ []) b = omega arith
two-bytes-small (b0 ∷ b1 ∷ b2 ∷ []) b = omega (arith, b.1.1.0)
two-bytes-small (b0 ∷ b1 ∷ b2 ∷ b3 ∷ u) b = omega (arith, b.1.1.0, b.1.1.1.0)

pub sheet-lawful : (fs : List Field) → Lawful (sheet_form fs) (Allowed fs) Byte
unfolding sheet_entry_faults
sheet-lawful fs = record {
  no-fault = λ e t g. faults-allowed fs e t g;
  same = λ e t g. field-entry e t g.not-long g.label-fits;
  rest = λ e t g. rest-entry e t g.not-long;
  goes-on = λ e t g. refl;
  back = λ s b q. entry-back s b (entire s (ask-none (entry_whole s) _ _ q).0);
  good = λ s b q o. record {
    asked = change fs (entry_label s) (entry_content s) (ask-none (entry_whole s) _ _ q).1;
    label-fits = two-bytes-small s b;
    not-long = short_back s b;
  };
}

-- ---- what is shown

-- the content that line n shows under the entries: that of the last entry for it, else `old`, the set's
pub newest : ℕ → List Field → List ℕ → List ℕ
newest n [] old = old
newest n (e ∷ es) old = newest n es (cond (eqb e.label n) e.content old)

-- what the line shows if this is the last entry for it
abbrev shown_by : List Field → List ℕ → List ℕ → ℕ → Option Pending → List ℕ
shown_by fs s h n o = shown_bytes s h (shown_part fs n o)

pub latest-shows : (fs : List Field) (s h : List ℕ) (n at : ℕ) (es : List Field) (o : Option Pending) → drop at h ≡ put_all (sheet_form fs) es []
    → shown_by fs s h n (latest n at es o) ≡ newest n es (shown_by fs s h n o)
unfolding latest newest
latest-shows fs s h n at [] o q = refl
latest-shows fs s h n at (e ∷ es) o q =
    let t : List ℕ = put_all (sheet_form fs) es [] in
    let c : take (length e.content) (drop (at + 4) h) ≡ e.content =
    ap (take (length e.content)) (sym (drop-drop 4 at h) ∙ ap (drop 4) q) ∙ take_at e.content t (length e.content) refl in
    let d : drop (at + (4 + length e.content)) h ≡ t =
    sym (drop-drop (4 + length e.content) at h)
    ∙ (ap (drop (4 + length e.content)) q ∙ (sym (drop-drop (length e.content) 4 (entry_then e t)) ∙ drop_at e.content t (length e.content) refl)) in
    latest-shows fs s h n (at + (4 + length e.content)) es (cond (eqb e.label n) (some (record { place = at + 4; content = e.content })) o) d
    ∙ ap (newest n es) (pick (eqb e.label n) c)
  where
    pick : (t : Bool) → take (length e.content) (drop (at + 4) h) ≡ e.content
        → shown_by fs s h n (cond t (some (record { place = at + 4; content = e.content })) o) ≡ cond t e.content (shown_by fs s h n o)
    pick true c = c
    pick false c = refl

-- a view of a line of an accepted set under a sheet without faults
pub view-shows : (s h : List ℕ) (n : ℕ) (fs es : List Field) → Every Byte h → read s ≡ done (parsed fs []) → 1 ≤ n → n ≤ length fs
    → sheet fs h ≡ done (parsed es []) → view s h n ≡ newest n es (content_at_line fs (pred n))
unfolding view viewed viewing
view-shows s h n fs es b r lo hi q =
    let w = pieces-only (sheet_form fs) (Allowed fs) Byte (sheet-lawful fs) (length h) 0 h es [] b q in
    let c : part_of (part (offset fs (pred n) + line_lead) (length (content_at_line fs (pred n)))) s ≡ content_at_line fs (pred n) =
    ap (λ (x : List ℕ). take (length (content_at_line fs (pred n))) (drop (offset fs (pred n) + line_lead) x)) (accepted s (parsed fs []) r).bytes
    ∙ content-at fs (pred n) [] (omega arith) in
    rw (r, le-leb 1 n lo, le-leb n (length fs) hi, q) (latest-shows fs s h n 0 es none w.whole ∙ ap (newest n es) c)

-- ---- "as it would stand": under a sheet with one pending correction a line shows what it holds once that correction is made

content-resum : (fs : List Field) (k : ℕ) → (k ≡ 1 → ⊥) → content_at_line (resum fs) k ≡ content_at_line fs k
content-resum fs k h = ap (λ (f : Field). f.content) (line-resum fs k (λ q. h (sym q)))

newest-one : (fs : List Field) (n m : ℕ) (c : List ℕ) → 1 ≤ n → n ≤ length fs → 1 ≤ m
    → newest m (field n c ∷ []) (content_at_line fs (pred m)) ≡ content_at_line (recontent fs (pred n) c) (pred m)
unfolding newest
newest-one fs n m c lo hi lo' = pick (eqb n m) refl
  where
    pick : (t : Bool) → eqb n m ≡ t → cond t c (content_at_line fs (pred m)) ≡ content_at_line (recontent fs (pred n) c) (pred m)
    pick true e =
        let q : pred m ≡ pred n = ap pred (sym (eqb-true n m e)) in
        sym (ap (content_at_line (recontent fs (pred n) c)) q
        ∙ ap (λ (f : Field). f.content) (get_or-set_same fs (pred n) (field (label_at_line fs (pred n)) c) no_field (omega arith)))
    pick false e =
        let ne : n ≡ m → ⊥ = eqb-false n m e in
        sym (ap (λ (f : Field). f.content) (get_or-set_other fs (pred n) (pred m) (field (label_at_line fs (pred n)) c) no_field (λ q. ne (omega arith))))

pub view-as-corrected : (b : List ℕ) (used n m : ℕ) (c x : List ℕ) → Every Byte c → correct b used n c ≡ done x → (m ≡ 2 → ⊥)
    → (fs : List Field) → read (take used b) ≡ done (parsed fs []) → 1 ≤ m → m ≤ length fs
    → view (take used b) (entry_then (field n c) []) m ≡ view x [] m
unfolding pieces newest
view-as-corrected b used n m c x bc e ne fs r lo hi =
    let y = correct-only b used n c x e in
    let h : Holds b used fs = record { fits_in = y.held.fits_in; front = r } in
    let q : y.lines ≡ fs = same_lines b used y.lines fs y.held h in
    let ch : Change fs n c = subst (λ (gs : List Field). Change gs n c) q y.asked in
    let st = holds-standing b used fs h in
    let new : List Field = changed fs n c in
    let a = alike-changed fs n c st ch in
    let sh = fits-short (profile fs) (field (label_at_line fs (pred n)) c) ch.right in
    let one : Allowed fs (field n c) = record { asked = ch; label-fits = omega (arith, ch.most, st.few); not-long = omega (arith, sh.few_bytes) } in
    let p : sheet fs (entry_then (field n c) []) ≡ done (parsed (field n c ∷ []) []) =
    pieces-put (sheet_form fs) (Allowed fs) Byte (sheet-lawful fs) (length (entry_then (field n c) [])) 0 (field n c ∷ []) [] (omega arith) (one, tt) refl in
    let bytes : Every Byte (entry_then (field n c) []) = entry-bytes (field n c) one.label-fits one.not-long bc in
    let rx : read x ≡ done (parsed new []) =
    ap read (y.made ∙ ap (λ (gs : List Field). render (changed gs n c) []) q) ∙ read-render new [] (still-standing fs n c st ch) refl in
    view-shows (take used b) (entry_then (field n c) []) m fs (field n c ∷ []) bytes r lo hi p
    ∙ (newest-one fs n m c ch.least ch.most lo
    ∙ (sym (content-resum (recontent fs (pred n) c) (pred m) (λ z. ne (omega arith)))
    ∙ sym (view-shows x [] m new [] tt rx lo (omega (arith, a.length-so)) refl)))
