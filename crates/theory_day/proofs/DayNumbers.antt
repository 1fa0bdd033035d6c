-- Which numbers each call of the day file can refuse with: building 2 to 17 and 22 to 24; appending 1 to 18 and 22 to 24; a lookup 22 alone. Building never gives 1: "a file of no bytes has
-- none", and what stands after a set has bytes.
use mathlib.Core.Path.{◌≡◌, refl, sym, ap, subst}
use mathlib.Core.List.{List, [], ◌∷◌, ◌++◌}
use mathlib.Core.Logic.{◌≢◌}
use Prim.Native.Nat.{ℕ, ◌<◌}
use native.Mathlib.Omega.{arith}
use lib.Dec.{eqb}
use lib.ListN.{length, drop, length-drop}
use Rattle.meaning.specs.declared.Refusal.{Refusal}
use Rattle.meaning.specs.declared.SetType.{SetType}
use Rattle.meaning.specs.Field.{Field, elem}
use Rattle.meaning.specs.Refusals.{Reply, refused, done}
use Rattle.meaning.specs.Lines.{size}
use Rattle.meaning.proofs.Bools.{or_right}
use Rattle.meaning.proofs.NumberLaws.{Numbered, OneOf}
use Rattle.breaches.specs.Breaches.{LineBreach, too_many, bad-length, cut-line, bad-end, bad-label, low_byte, line_refusal}
use Rattle.breaches.specs.Breaches.{StartBreach, no-start, unknown-set, no-sum, start_refusal, MissingBreach, of-set, of-group, of-name, missing_refusal}
use Rattle.breaches.specs.Breaches.{RuleBreach, not-in-set, stray-member, stray-odd, repeated-in-set, repeated-in-group, bad-content, other-version, rule_number}
use Rattle.breaches.specs.Breaches.{Breach, no_bytes, in-line, in_start, in-rules, in-missing, in-high, in_sum, refusal_of}
use Rattle.meaning_day.specs.declared.DayEntry.{DayEntry}
use Rattle.meaning_day.specs.Days.{build, append, lookup}
use Rattle.theory_day.specs.DayBreaches.{OwnRefusal, BuildRefused, own-refusal, no-room, AppendRefused, old-over, another-set}
use Rattle.theory_day.proofs.BuildExact.{build-refused-with}
use Rattle.theory_day.proofs.AppendExact.{append-refused-with}
use Rattle.theory_day.proofs.LookupExact.{lookup-refused-with}

-- ---- a set's own refusals

-- of bytes that are some: 2 to 17 and 24
abbrev pub set_numbers : List ℕ
set_numbers = 2 ∷ 3 ∷ 4 ∷ 5 ∷ 6 ∷ 7 ∷ 8 ∷ 9 ∷ 10 ∷ 11 ∷ 12 ∷ 13 ∷ 14 ∷ 15 ∷ 16 ∷ 17 ∷ 24 ∷ []

-- and whatever else a call gives
module _ (more : List ℕ) where
  abbrev OwnNumber : ℕ → Type 0
  OwnNumber n = OneOf (set_numbers ++ more) n

  line-number : (k at : ℕ) (rest : List ℕ) (b : LineBreach k rest) → OwnNumber (line_refusal at b).no
  unfolding elem
  line-number k at rest (too_many e) = refl
  line-number k at rest (bad-length e) = refl
  line-number k at rest (cut-line e) = refl
  line-number k at rest (bad-end e) = refl
  line-number k at rest (bad-label e) = refl
  line-number k at rest (low_byte i l e) = refl

  start-number : (fs : List Field) (b : StartBreach fs) → OwnNumber (start_refusal b).no
  unfolding elem
  start-number fs (no-start e) = refl
  start-number fs (unknown-set e) = refl
  start-number fs (no-sum e) = refl

  rule-number : (t : SetType) (fs : List Field) (k : ℕ) (b : RuleBreach t fs k) → OwnNumber (rule_number b)
  unfolding elem
  rule-number t fs k (not-in-set e) = refl
  rule-number t fs k (stray-member h m e) = refl
  rule-number t fs k (stray-odd o e) = refl
  rule-number t fs k (repeated-in-set i l e a b) = refl
  rule-number t fs k (repeated-in-group h i l g f e b) = refl
  rule-number t fs k (bad-content e) = refl
  rule-number t fs k (other-version e n) = refl

  missing-number : (t : SetType) (fs : List Field) (b : MissingBreach t fs) → OwnNumber (missing_refusal b).no
  unfolding elem
  missing-number t fs (of-set l a r n) = refl
  missing-number t fs (of-group h l b m r n) = refl
  missing-number t fs (of-name k b i n) = refl

  -- 1 is for no bytes alone
  own-number : (s : List ℕ) (b : Breach s) → s ≢ [] → OwnNumber (refusal_of b).no
  unfolding elem
  own-number s (no_bytes e) h = absurd (h e)
  own-number s (in-line fs rest l b) h = line-number (length fs) (size fs) rest b
  own-number s (in_start fs rest l b) h = start-number fs b
  own-number s (in-rules t fs rest l k i b) h = rule-number t fs k b
  own-number s (in-missing t fs rest l b) h = missing-number t fs b
  own-number s (in-high fs rest l v k i a b e) h = refl
  own-number s (in_sum fs rest l e) h = refl

  any-number : (s : List ℕ) (b : Breach s) → OneOf (1 ∷ (set_numbers ++ more)) (refusal_of b).no
  unfolding elem
  any-number s (no_bytes e) = refl
  any-number s (in-line fs rest l b) = or_right (eqb (line_refusal (size fs) b).no 1) (line-number (length fs) (size fs) rest b)
  any-number s (in_start fs rest l b) = or_right (eqb (start_refusal b).no 1) (start-number fs b)
  any-number s (in-rules t fs rest l k i b) = or_right (eqb (rule_number b) 1) (rule-number t fs k b)
  any-number s (in-missing t fs rest l b) = or_right (eqb (missing_refusal b).no 1) (missing-number t fs b)
  any-number s (in-high fs rest l v k i a b e) = refl
  any-number s (in_sum fs rest l e) = refl

-- ---- the calls

abbrev pub build_numbers : List ℕ
build_numbers = set_numbers ++ (22 ∷ 23 ∷ [])

abbrev pub append_numbers : List ℕ
append_numbers = 1 ∷ (set_numbers ++ (18 ∷ 22 ∷ 23 ∷ []))

abbrev pub lookup_numbers : List ℕ
lookup_numbers = 22 ∷ []

-- a reply that refuses only with numbers of P
numbered_of : {A : Type 0} (P : ℕ → Type 0) (y : Reply A) → ((r : Refusal) → y ≡ refused r → P r.no) → Numbered P y
numbered_of P (refused r) h = h r refl
numbered_of P (done a) h = tt

-- the number of a refusal that is known
named : (P : ℕ → Type 0) (r q : Refusal) → r ≡ q → P q.no → P r.no
named P r q e h = subst (λ (x : Refusal). P x.no) (sym e) h

-- the number of a set's own refusal is that of a breach
own-named : (P : ℕ → Type 0) (f : List ℕ) (at : ℕ) (r : Refusal) → OwnRefusal f at r → ((b : Breach (drop at f)) → P (refusal_of b).no) → P r.no
own-named P f at r o h = named P r _ o.placed (named P o.own _ o.breach.its-refusal (h o.breach.breach))

bytes-there : (f : List ℕ) (at : ℕ) → at < length f → drop at f ≢ []
bytes-there f at h e = omega (arith, length-drop at f, ap length e)

pub build-numbers : (f : List ℕ) (room : ℕ) → Numbered (OneOf build_numbers) (build f room)
unfolding elem
build-numbers f room = numbered_of (OneOf build_numbers) (build f room) (λ r e. go r ((build-refused-with f room r).0 e))
  where
    go : (r : Refusal) → BuildRefused f room r → OneOf build_numbers r.no
    go r (own-refusal es p s l h o) = own-named (OneOf build_numbers) f p r o (λ b. own-number (22 ∷ 23 ∷ []) (drop p f) b (bytes-there f p h))
    go r (BuildRefused.too_many es p s l x a e) = named (OneOf build_numbers) r _ e refl
    go r (no-room es s l h e) = named (OneOf build_numbers) r _ e refl

pub append-numbers : (f : List ℕ) (old : ℕ) (lent : List DayEntry) (n : ℕ) → Numbered (OneOf append_numbers) (append f old lent n)
unfolding elem
append-numbers f old lent n = numbered_of (OneOf append_numbers) (append f old lent n) (λ r e. go r ((append-refused-with f old lent n r).0 e))
  where
    go : (r : Refusal) → AppendRefused f old lent n r → OneOf append_numbers r.no
    go r (old-over h e) = named (OneOf append_numbers) r _ e refl
    go r (own-refusal h o) = own-named (OneOf append_numbers) f old r o (λ b. any-number (18 ∷ 22 ∷ 23 ∷ []) (drop old f) b)
    go r (another-set h t fs rest k a e) = named (OneOf append_numbers) r _ e refl
    go r (AppendRefused.too_many h t fs k a e) = named (OneOf append_numbers) r _ e refl
    go r (no-room h t fs k a l e) = named (OneOf append_numbers) r _ e refl

pub lookup-numbers : (f : List ℕ) (es : List DayEntry) (c : List ℕ) (room : ℕ) → Numbered (OneOf lookup_numbers) (lookup f es c room)
unfolding elem
lookup-numbers f es c room = numbered_of (OneOf lookup_numbers) (lookup f es c room) (λ r e. named (OneOf lookup_numbers) r _ ((lookup-refused-with f es c room r).0 e).refusal_is refl)
