-- Lookup: when an entry matches. An entry of an index that was built matches exactly if the asked bytes are the 3000 content of its set (`match-exact`).
use mathlib.Core.Path.{◌≡◌, refl, sym, ap, ap₂, ◌∙◌, subst}
use mathlib.Core.Bool.{Bool, true, false}
use mathlib.Core.List.{List, [], ◌∷◌, ◌++◌, append_assoc}
use mathlib.Core.Logic.{◌↔◌}
use Prim.Native.Nat.{ℕ, suc, ◌+◌, ◌≤◌, ◌<◌}
use native.Mathlib.Omega.{arith}
use lib.Dec.{leb}
use lib.ListN.{length, take, drop, get_or, length-append, length-drop, take-append-drop}
use lib.Seq.{take_at, drop-drop, drop-cons}
use borrow.Author.Tests.{leb-true, le-leb}
use Rattle.meaning.specs.Field.{Field, no_field, content_at_line}
use Rattle.meaning.specs.Refusals.{done}
use Rattle.meaning.specs.Pieces.{Parsed, parsed}
use Rattle.meaning.specs.Lines.{line_lead, line_end, cr, lf, least_byte, offset, render}
use Rattle.meaning.specs.Reading.{read}
use Rattle.meaning.proofs.Bools.{and_left, and_right, and_both, Every, every-at}
use Rattle.meaning.proofs.SameLaws.{same-bytes, bytes_same}
use Rattle.meaning.proofs.FaultLaws.{High, done-same}
use Rattle.meaning.proofs.LineLaws.{Sound, render-split}
use Rattle.meaning.proofs.PlaceLaws.{drop-render}
use Rattle.meaning.proofs.SetLaws.{accepted}
use Rattle.meaning_day.specs.declared.DayEntry.{DayEntry}
use Rattle.meaning_day.specs.Days.{patient_label, lines_before, day_entry, build, no_low, matches}
use Rattle.meaning_day.proofs.PatientLaws.{patient-there}
use Rattle.meaning_day.proofs.BuiltLaws.{part_of, IsSet, entry-is-a-set}

-- ---- texts

-- Two texts without low bytes, each followed by 0Dh, that start at one place are equal: the first low byte ends both.
pub same_text : (c p a b : List ℕ) → High c → High p → c ++ (cr ∷ a) ≡ p ++ (cr ∷ b) → c ≡ p
same_text [] [] a b h k e = refl
same_text [] (y ∷ p) a b h k e = let z : ◌≡◌ {A = ℕ} 13 y = cc in absurd (omega (arith, k.0))
same_text (x ∷ c) [] a b h k e = let z : ◌≡◌ {A = ℕ} x 13 = cc in absurd (omega (arith, h.0))
same_text (x ∷ c) (y ∷ p) a b h k e =
    let q : x ≡ y = cc in
    let t : c ++ (13 ∷ a) ≡ p ++ (13 ∷ b) = cc in
    ap₂ (λ (n : ℕ) (l : List ℕ). n ∷ l) q (same_text c p a b h.1 k.1 t)

-- the test for low bytes says that there is none
pub no-low : (c : List ℕ) → no_low c ≡ true → High c
no-low [] e = tt
no-low (b ∷ c) e = (leb-true least_byte b (and_left (leb least_byte b) _ e), no-low c (and_right (leb least_byte b) _ e))

pub low-none : (c : List ℕ) → High c → no_low c ≡ true
low-none [] h = refl
low-none (b ∷ c) h = and_both (le-leb least_byte b h.0) (low-none c h.1)

-- ---- any entry

-- the bytes c, none under 20h, and the end of a line stand in the file at place `at`, and then `rest`
pub record TextAt (f c : List ℕ) (at : ℕ) : Type 0 where
  pub no-low-byte : High c
  pub rest : List ℕ
  pub from-there : drop at f ≡ c ++ (cr ∷ lf ∷ rest)

module _ (f c : List ℕ) (e : DayEntry) where
  -- an entry matches exactly if the asked bytes stand at its place
  pub match-stands : matches f c e ≡ true → TextAt f c e.place
  unfolding matches
  match-stands m =
      let n : ℕ = length c + line_end in
      let s : List ℕ = drop e.place f in
      let q : take n s ≡ c ++ (cr ∷ lf ∷ []) = same-bytes (take n s) (c ++ (cr ∷ lf ∷ [])) (and_right (no_low c) _ m) in
      record {
        no-low-byte = no-low c (and_left (no_low c) _ m);
        rest = drop n s;
        from-there = sym (take-append-drop n s) ∙ (ap (λ (l : List ℕ). l ++ drop n s) q ∙ append_assoc c (cr ∷ lf ∷ []) (drop n s));
      }

  pub stands-match : TextAt f c e.place → matches f c e ≡ true
  unfolding matches
  stands-match x =
      let q : take (length c + line_end) (drop e.place f) ≡ c ++ (cr ∷ lf ∷ []) =
      ap (take (length c + line_end)) (x.from-there ∙ sym (append_assoc c (cr ∷ lf ∷ []) x.rest))
      ∙ take_at (c ++ (cr ∷ lf ∷ [])) x.rest (length c + line_end) (length-append c (cr ∷ lf ∷ [])) in
      and_both (low-none c x.no-low-byte) (rw q (bytes_same (c ++ (cr ∷ lf ∷ []))))

  -- an entry that matches has its place, the asked bytes and the line's end within the file
  pub match-within : matches f c e ≡ true → e.place + (length c + line_end) ≤ length f
  match-within m =
      let x = match-stands m in
      omega (arith, length-drop e.place f, ap length x.from-there, length-append c (cr ∷ lf ∷ x.rest))

  -- if a text stands at an entry's place, the entry matches that text alone
  pub match-text : (p : List ℕ) → TextAt f p e.place → (matches f c e ≡ true) ↔ (c ≡ p)
  match-text p x = (
    λ m. let y = match-stands m in same_text c p (lf ∷ y.rest) (lf ∷ x.rest) y.no-low-byte x.no-low-byte (sym y.from-there ∙ x.from-there),
    λ q. stands-match (subst (λ (l : List ℕ). TextAt f l e.place) (sym q) x),
  )

-- ---- the entries of an index that was built

-- the content of a line, and the line's end
content-then : (fs : List Field) (k : ℕ) (t : List ℕ) → k < length fs → drop line_lead (render (drop k fs) t) ≡ content_at_line fs k ++ (cr ∷ lf ∷ render (drop (suc k) fs) t)
content-then fs k t h = ap (λ (gs : List Field). drop line_lead (render gs t)) (drop-cons fs k no_field h)

-- if lines stand at offset `at` of the file, the content of line k and the line's end stand after the lead of that line
content-stands : (f : List ℕ) (at : ℕ) (fs : List Field) (t : List ℕ) → drop at f ≡ render fs t → Every Sound fs
    → (k : ℕ) → k < length fs → TextAt f (content_at_line fs k) (at + (offset fs k + line_lead))
content-stands f at fs t e h k l = record {
  no-low-byte = (every-at Sound fs k no_field l h).no-low;
  rest = render (drop (suc k) fs) t;
  from-there =
      sym (drop-drop (offset fs k + line_lead) at f)
      ∙ (ap (drop (offset fs k + line_lead)) e
      ∙ (sym (drop-drop line_lead (offset fs k) (render fs t)) ∙ (ap (drop line_lead) (drop-render fs k t (omega arith)) ∙ content-then fs k t l)));
}

-- the 3000 content of a set: that of its first line with label 3000. `patient-there` (PatientLaws): there is one. That there is only one is `one-patient-line` in SetInFile of crate
-- `theory_day`.
abbrev pub patient_of : List Field → List ℕ
patient_of fs = content_at_line fs (lines_before patient_label fs)

-- "place of the 3000 content": it stands at the place of the entry of a set
patient-stands : (f : List ℕ) (e : DayEntry) (x : IsSet f e) → TextAt f (patient_of x.lines) e.place
unfolding day_entry
patient-stands f e x =
    let fs : List Field = x.lines in
    let a = accepted (part_of f e) (parsed fs []) x.was_read in
    let t : List ℕ = drop e.length (drop e.offset f) in
    let bytes : drop e.offset f ≡ render fs t =
    sym (take-append-drop e.length (drop e.offset f)) ∙ (ap (λ (s : List ℕ). s ++ t) a.bytes ∙ sym (render-split fs t)) in
    subst (TextAt f (patient_of fs)) (sym (ap (λ (y : DayEntry). y.place) x.is-entry))
    (content-stands f e.offset fs t bytes a.standing.sound (lines_before patient_label fs) (patient-there fs a.standing.right).0)

module _ (f : List ℕ) (room : ℕ) (es : List DayEntry) (b : build f room ≡ done es) (k : ℕ) (none : DayEntry) (l : k < length es) where
  abbrev entry : DayEntry
  entry = get_or es k none

  -- "whose 3000 content has the same bytes": an entry matches exactly if the asked bytes are the 3000 content of its set; fs are the lines that are read in the bytes of the file that
  -- the entry names.
  pub match-exact : (fs : List Field) → read (part_of f entry) ≡ done (parsed fs []) → (c : List ℕ) → (matches f c entry ≡ true) ↔ (c ≡ patient_of fs)
  match-exact fs q c =
      let x = entry-is-a-set f room es k none b l in
      let same : x.lines ≡ fs = ap (λ (y : Parsed). y.fields) (done-same (sym x.was_read ∙ q)) in
      match-text f c entry (patient_of fs) (subst (λ (gs : List Field). TextAt f (patient_of gs) entry.place) same (patient-stands f entry x))

  -- if no bytes are asked for, the entry does not match: every content has a byte
  pub none-asked-no-match : matches f [] entry ≡ false
  none-asked-no-match = go (matches f [] entry) refl
    where
      go : (t : Bool) → matches f [] entry ≡ t → t ≡ false
      go true q =
          let x = entry-is-a-set f room es k none b l in
          let fs : List Field = x.lines in
          let st = (accepted (part_of f entry) (parsed fs []) x.was_read).standing in
          let one : 1 ≤ length (patient_of fs) =
          (every-at Sound fs (lines_before patient_label fs) no_field (patient-there fs st.right).0 st.sound).some_byte in
          absurd (omega (arith, ap length ((match-exact fs x.was_read []).0 q)))
      go false q = refl
