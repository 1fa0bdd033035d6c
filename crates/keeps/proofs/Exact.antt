-- Judging is exact: a set is accepted exactly when it keeps the line syntax and every rule (`accepted-exactly`), and what is answered is its length, its lines and its type.
use mathlib.Core.Path.{◌≡◌, refl, sym, ap, ◌∙◌, subst}
use mathlib.Core.Bool.{true}
use mathlib.Core.List.{List, [], ◌∷◌}
use mathlib.Core.Logic.{◌⊎◌, inl, inr, ◌↔◌}
use Prim.Native.Nat.{ℕ, zero, suc, ◌≤◌, ◌<◌}
use native.Mathlib.Omega.{arith}
use lib.Dec.{leb}
use lib.ListN.{length, take, drop, get_or, length-take, length-drop}
use lib.Seq.{drop-cons}
use borrow.Author.Tests.{leb-true, le-leb, eqb-true, eq-eqb}
use Rattle.meaning.specs.declared.Refusal.{Refusal}
use Rattle.meaning.specs.declared.Shape.{Shape}
use Rattle.meaning.specs.declared.SetType.{SetType}
use Rattle.meaning.specs.Limits.{type_number}
use Rattle.meaning.specs.Digits.{digits, number, all_digits}
use Rattle.meaning.specs.Field.{Field, no_field, label_at_line, is_nil}
use Rattle.meaning.specs.Refusals.{Reply, refused, done}
use Rattle.meaning.specs.Pieces.{Parsed, parsed}
use Rattle.meaning.specs.Lines.{line_then, size, offset, render, label_ok, starts_set, set_over}
use Rattle.meaning.specs.Rules.{sum_faults}
use Rattle.meaning.specs.Reading.{read, known_number, shape, judged, judge}
use Rattle.meaning.proofs.Bools.{and_left, and_right, and_both, or_right, nil_is, Every, every-at}
use Rattle.meaning.proofs.DigitLaws.{number_digits, digits_number, digits-all}
use Rattle.meaning.proofs.FaultLaws.{ask-last, done-same}
use Rattle.meaning.proofs.AnswerLaws.{refused-accepted, accepted-same}
use Rattle.meaning.proofs.LineLaws.{Sound, NoStart}
use Rattle.meaning.proofs.PlaceLaws.{drop-render}
use Rattle.meaning.proofs.RuleLaws.{ruled, unruled}
use Rattle.meaning.proofs.SetLaws.{Standing, read-render, Accepted as AcceptedSet, accepted}
use Rattle.keeps.specs.Keeps.{WellFormed, LinesWellFormed, StartsSet, SumIsLength, KeepsRules, Keeps, SetAtFront}
use Rattle.keeps.proofs.TableFacts.{or_cases}
use Rattle.keeps.proofs.RulesExact.{profile-typed, ruled-keeps, keeps-ruled}
use Rattle.meaning.specs.Results.{Judged}
use Rattle.std.specs.Prelude.{Err, Ok}

-- ---- lines

pub every_of : {A : Type 0} (P : A → Type 0) (xs : List A) (d : A) → ((k : ℕ) → k < length xs → P (get_or xs k d)) → Every P xs
every_of P [] d h = tt
every_of P (x ∷ xs) d h = (h 0 (omega arith), every_of P xs d (λ k l. h (suc k) (omega arith)))

pub well-formed-of : (f : Field) → Sound f → WellFormed f
well-formed-of f s = record {
  four-digits = omega (arith, s.label-fits);
  some_byte = s.some_byte;
  three-digits = s.not-long;
  no-low-byte = λ i l. every-at (λ b. 32 ≤ b) f.content i 0 l s.no-low;
}

pub sound-of : (f : Field) → WellFormed f → Sound f
sound-of f w = record {
  label-fits = omega (arith, w.four-digits);
  some_byte = w.some_byte;
  not-long = w.three-digits;
  no-low = every_of (λ b. 32 ≤ b) f.content 0 w.no-low-byte;
}

-- ---- where a set ends

starts-set : (s : List ℕ) → starts_set s ≡ true → StartsSet s
starts-set s e =
    let l : 7 ≤ length s = leb-true 7 (length s) (and_left (leb 7 (length s)) _ e) in
    let r = and_right (leb 7 (length s)) _ e in
    let n : number (take 4 (drop 3 s)) ≡ 8000 = eqb-true _ _ (and_right (label_ok s) _ r) in
    let four : length (take 4 (drop 3 s)) ≡ 4 = simp (length-take, length-drop) (omega arith) in
    (l, sym (rw four at (digits_number (take 4 (drop 3 s)) (and_left (label_ok s) _ r))) ∙ ap (digits 4) n)

set-starts : (s : List ℕ) → StartsSet s → starts_set s ≡ true
set-starts s e =
    and_both (le-leb 7 (length s) e.0)
    (and_both (subst (λ (b : List ℕ). all_digits b ≡ true) (sym e.1) (digits-all 4 8000)) (eq-eqb _ 8000 (ap number e.1)))

pub over-cases : (s : List ℕ) → set_over s ≡ true → (s ≡ []) ⊎ StartsSet s
over-cases s e = go (or_cases (is_nil s) (starts_set s) e)
  where
    go : (is_nil s ≡ true) ⊎ (starts_set s ≡ true) → (s ≡ []) ⊎ StartsSet s
    go (inl p) = inl (nil_is s p)
    go (inr p) = inr (starts-set s p)

pub over-of : (s : List ℕ) → (s ≡ []) ⊎ StartsSet s → set_over s ≡ true
over-of s (inl p) = rw p refl
over-of s (inr p) = or_right (is_nil s) (set-starts s p)

-- the bytes from line k on are its line, and then others
pub line-start : (fs : List Field) (k : ℕ) (rest : List ℕ) → k < length fs
    → drop (offset fs k) (render fs rest) ≡ line_then (get_or fs k no_field) (render (drop (suc k) fs) rest)
line-start fs k rest l = drop-render fs k rest (omega arith) ∙ ap (λ (gs : List Field). render gs rest) (drop-cons fs k no_field l)

pub start-label : (f : Field) (t : List ℕ) → f.label ≤ 9999 → StartsSet (line_then f t) → f.label ≡ 8000
start-label f t l e = sym (number_digits 4 f.label (omega arith)) ∙ ap number e.1

pub label-start : (f : Field) (t : List ℕ) → f.label ≡ 8000 → StartsSet (line_then f t)
label-start f t e = (omega arith, ap (digits 4) e)

-- ---- from an accepted set to the rules

pub later-no-start : (fs : List Field) (k : ℕ) → 0 < k → k < length fs → Every NoStart (drop 1 fs) → label_at_line fs k ≡ 8000 → ⊥
later-no-start [] k p l h = absurd (omega arith)
later-no-start (f ∷ fs) zero p l h = absurd (omega arith)
later-no-start (f ∷ fs) (suc k) p l h = every-at NoStart fs k no_field (omega arith) h

sum-so : (fs : List Field) → sum_faults fs ≡ [] → SumIsLength fs
unfolding sum_faults
sum-so fs e = eqb-true _ _ (ask-last _ _ e)

pub none-earlier : (s : List ℕ) (fs : List Field) (rest : List ℕ) → s ≡ render fs rest → LinesWellFormed fs → Every NoStart (drop 1 fs)
    → (k : ℕ) → 0 < k → k < length fs → StartsSet (drop (offset fs k) s) → ⊥
none-earlier s fs rest e well alone k p l x =
    let y : StartsSet (line_then (get_or fs k no_field) (render (drop (suc k) fs) rest)) =
    subst (λ (b : List ℕ). StartsSet b) (ap (drop (offset fs k)) e ∙ line-start fs k rest l) x in
    later-no-start fs k p l alone (start-label (get_or fs k no_field) _ (well k l).four-digits y)

-- Each rule is read off what is known of an accepted set: its lines stand (SetLaws), and lines without faults keep the rules (RulesExact).
pub accepted-keeps : (s : List ℕ) (d : Parsed) → read s ≡ done d → (t : SetType) × Keeps s t d.fields d.rest
accepted-keeps s d e = (
  r.0,
  record {
    its-bytes = a.bytes;
    well-formed = well;
    ends = record { no-earlier = none-earlier s fs d.rest a.bytes well st.alone; there = over-cases d.rest a.at-end };
    few-lines = st.few;
    rules = r.1;
    sum-is-length = sum-so fs (ruled fs st.right).1;
  },
)
  where
    fs : List Field
    fs = d.fields

    a : AcceptedSet s d
    a = accepted s d e

    st : Standing fs
    st = a.standing

    r : (t : SetType) × KeepsRules t fs
    r = ruled-keeps fs (ruled fs st.right).0

    well : LinesWellFormed fs
    well k l = well-formed-of (get_or fs k no_field) (every-at Sound fs k no_field l st.sound)

-- ---- from the rules to an accepted set

pub none-later : (fs : List Field) → ((k : ℕ) → 0 < k → k < length fs → label_at_line fs k ≡ 8000 → ⊥) → Every NoStart (drop 1 fs)
none-later [] h = tt
none-later (f ∷ fs) h = every_of NoStart fs no_field (λ k l. h (suc k) (omega arith) (omega arith))

so-sum : (fs : List Field) → SumIsLength fs → sum_faults fs ≡ []
unfolding sum_faults
so-sum fs e = rw (eq-eqb _ _ e) refl

pub alone-of : (s : List ℕ) (fs : List Field) (rest : List ℕ) → s ≡ render fs rest → ((k : ℕ) → 0 < k → k < length fs → StartsSet (drop (offset fs k) s) → ⊥)
    → Every NoStart (drop 1 fs)
alone-of s fs rest e h =
    none-later fs (λ i p l q. h i p l (subst (λ (b : List ℕ). StartsSet b) (sym (ap (drop (offset fs i)) e ∙ line-start fs i rest l)) (label-start (get_or fs i no_field) _ q)))

pub keeps-standing : (s : List ℕ) (t : SetType) (fs : List Field) (rest : List ℕ) → Keeps s t fs rest → Standing fs
keeps-standing s t fs rest k = record {
  sound = every_of Sound fs no_field (λ i l. sound-of (get_or fs i no_field) (k.well-formed i l));
  alone = alone-of s fs rest k.its-bytes k.ends.no-earlier;
  few = k.few-lines;
  right = unruled fs (keeps-ruled t fs k.rules) (so-sum fs k.sum-is-length);
}

pub keeps-accepted : (s : List ℕ) (t : SetType) (fs : List Field) (rest : List ℕ) → Keeps s t fs rest → read s ≡ done (parsed fs rest)
keeps-accepted s t fs rest k = ap read k.its-bytes ∙ read-render fs rest (keeps-standing s t fs rest k) (over-of rest k.ends.there)

-- ---- judging is exact

-- the shape of a set of type t
abbrev shape_of : SetType → List Field → Shape
shape_of t fs = record { length = size fs; lines = length fs; settype = type_number t }

shape_typed : (t : SetType) (fs : List Field) → KeepsRules t fs → shape fs ≡ shape_of t fs
shape_typed t fs r =
    ap (λ (n : ℕ). record { length = size fs; lines = length fs; settype = n }) (ap (λ p. known_number p.set_type) (profile-typed t fs r.starts.1))

judged-front : (s : List ℕ) (x : Shape) → judge s ≡ Ok x → SetAtFront s x
unfolding judge
judged-front s x e = go (read s) refl e
  where
    go : (r : Reply Parsed) → read s ≡ r → judged r ≡ Ok x → SetAtFront s x
    go (refused y) p q = refused-accepted q
    go (done d) p q =
        let k = accepted-keeps s d p in
        record {
          set-type = k.0;
          lines = d.fields;
          rest = d.rest;
          keeps = k.1;
          shape_is = sym (accepted-same q) ∙ shape_typed k.0 d.fields k.1.rules;
        }

front-judged : (s : List ℕ) (x : Shape) → SetAtFront s x → judge s ≡ Ok x
unfolding judge
front-judged s x f =
    ap judged (keeps-accepted s f.set-type f.lines f.rest f.keeps)
    ∙ ap Ok (shape_typed f.set-type f.lines f.keeps.rules ∙ sym f.shape_is)

-- a set is accepted with this shape exactly when a set of this shape stands at the front and keeps the line syntax and every rule
pub accepted-exactly : (s : List ℕ) (x : Shape) → (judge s ≡ Ok x) ↔ SetAtFront s x
accepted-exactly s x = (judged-front s x, front-judged s x)

-- and refused exactly when there is no such set
pub refused-exactly : (s : List ℕ) → ((r : Refusal) × (judge s ≡ Err r)) ↔ ((x : Shape) → SetAtFront s x → ⊥)
refused-exactly s = (none, some-refusal (judge s) refl)
  where
    none : (r : Refusal) × (judge s ≡ Err r) → (x : Shape) → SetAtFront s x → ⊥
    none r x f = refused-accepted (sym r.1 ∙ front-judged s x f)

    some-refusal : (j : Judged) → judge s ≡ j → ((x : Shape) → SetAtFront s x → ⊥) → (r : Refusal) × (judge s ≡ Err r)
    some-refusal (Ok x) e n = absurd (n x (judged-front s x e))
    some-refusal (Err r) e n = (r, e)

-- the set at the front is one: its lines and what follows it
pub one_set : (s : List ℕ) (t u : SetType) (fs gs : List Field) (a b : List ℕ) → Keeps s t fs a → Keeps s u gs b → parsed fs a ≡ parsed gs b
one_set s t u fs gs a b k l = done-same (sym (keeps-accepted s t fs a k) ∙ keeps-accepted s u gs b l)
