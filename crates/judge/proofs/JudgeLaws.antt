-- The walk over a set answers what `meaning` says: `judge_walk s ≡ judge s`, for all bytes.
use mathlib.Core.Path.{◌≡◌, refl, sym, ap, ◌∙◌, subst}
use mathlib.Core.Bool.{Bool, true, false, cond, ◌&&◌}
use mathlib.Core.List.{List, [], ◌∷◌, ◌++◌}
use Prim.Native.Nat.{ℕ, ◌+◌, ◌-◌, ◌≤◌}
use native.Mathlib.Omega.{arith}
use native.Mathlib.Nat.{zero-add}
use lib.Dec.{eqb}
use lib.ListN.{length, drop, take, length-take}
use borrow.Author.Tests.{ne_eqb, eqb-true, le-leb}
use Rattle.meaning.specs.declared.Refusal.{Refusal}
use Rattle.meaning.specs.declared.SetType.{SetType}
use Rattle.meaning.specs.Limits.{max_lines}
use Rattle.meaning.specs.Digits.{number, all_digits}
use Rattle.meaning.specs.Field.{Field, field, content_at_line}
use Rattle.meaning.specs.Refusals.{Spot, start, Fault, at_line, ask, refusal, no_start, unknown_set, no_sum, bad_sum, Reply, refused, done, verdict}
use Rattle.meaning.specs.Pieces.{Parsed, parsed}
use Rattle.meaning.specs.Lines.{line_size, line_then, size, render, line_lead}
use Rattle.meaning.specs.Groups.{first}
use Rattle.meaning.specs.Rules.{Profile, profile, type_named, is_known, fits, start_faults, rules_from, sum_faults, rule_faults, set_faults}
use Rattle.meaning.specs.Reading.{in_set, scan, by_rules, read, judged, judge}
use Rattle.meaning.specs.Lists.{sum_digits}
use Rattle.meaning.specs.Answers.{no_refusal, or_else}
use Rattle.meaning.proofs.Bools.{Every}
use Rattle.meaning.proofs.FaultLaws.{append-none}
use Rattle.meaning.proofs.LineLaws.{Sound}
use Rattle.meaning.proofs.FieldLaws.{sum_fits}
use Rattle.meaning.proofs.SetLaws.{scanned, second_fits, later-sound}
use Rattle.line_read.specs.Number.{number_at}
use Rattle.line_read.proofs.LineMeaning.{as_number, number_is, read-line, reads-content, reads_on}
use Rattle.line_scan.proofs.ScanMeaning.{scan_summary, scan-is}
use Rattle.meaning.proofs.FirstLaws.{first_of, Real, first-append, real-append, real-ask, first-none, or_assoc, or-none, or-bad, or-then}
use Rattle.meaning.proofs.RealLaws.{start_faults_by, real-starts, faults_then_high, real-then-high, of_type}
use Rattle.judge_start.specs.Sum.{sum_walk}
use Rattle.judge_lines.proofs.PassLaws.{pass-found}
use Rattle.judge.specs.Walks.{second_by, second_walk, as_judged, typed_by, first_by, lines_walk, judged_scan, judge_walk}
use Rattle.meaning.specs.Results.{Known}
use Rattle.std.specs.Prelude.{Err, None, Some}

-- ---- all rules, as found

module _ (fs : List Field) (a b c : Bool) (e : start_faults fs ≡ start_faults_by a b c) where
  real-set : Real (set_faults fs)
  unfolding set_faults rule_faults sum_faults
  real-set =
      rw e (real-append (start_faults_by a b c ++ faults_then_high (profile fs) fs) _
      (real-append (start_faults_by a b c) (faults_then_high (profile fs) fs) (real-starts a b c) (real-then-high (profile fs) fs))
      (real-ask (eqb (number (content_at_line fs 1)) (size fs)) (at_line bad_sum 1 0) (λ z. omega arith)))

  set_found : first_of (in_set fs) (set_faults fs)
      ≡ or_else (first_of (in_set fs) (start_faults_by a b c)) (or_else (first_of (in_set fs) (faults_then_high (profile fs) fs)) (first_of (in_set fs) (sum_faults fs)))
  unfolding set_faults rule_faults
  set_found =
      let m : List Fault = faults_then_high (profile fs) fs in
      rw e (first-append (in_set fs) (start_faults_by a b c ++ m) (sum_faults fs) (real-append (start_faults_by a b c) m (real-starts a b c) (real-then-high (profile fs) fs))
      ∙ (ap (λ (x : Refusal). or_else x (first_of (in_set fs) (sum_faults fs))) (first-append (in_set fs) (start_faults_by a b c) m (real-starts a b c))
      ∙ sym (or_assoc (first_of (in_set fs) (start_faults_by a b c)) (first_of (in_set fs) m) (first_of (in_set fs) (sum_faults fs)))))

-- the answer, from the first fault; `settype` is the type that line 1 names
verdict-is : (pl : ℕ → Spot → ℕ) (xs : List Fault) (d : Parsed) (settype : SetType) → (profile d.fields).set_type ≡ Some settype → Real xs
    → judged (verdict pl xs d) ≡ as_judged (first_of pl xs) settype (size d.fields) (length d.fields)
unfolding as_judged
verdict-is pl [] d settype e h = rw e
verdict-is pl (x ∷ xs) d settype e h = sym (rw (ne_eqb x.no 0 h))

-- a first fault that is one is the answer
verdict-bad : (pl : ℕ → Spot → ℕ) (xs : List Fault) (d : Parsed) → ((first_of pl xs).no ≡ 0 → ⊥) → judged (verdict pl xs d) ≡ Err (first_of pl xs)
verdict-bad pl [] d h = absurd (h refl)
verdict-bad pl (x ∷ xs) d h = refl

-- ---- 17, if line 2 fits

sum_is : (s : List ℕ) (at total : ℕ) (g : Field) (u : List ℕ) (pl : ℕ → Spot → ℕ) (p : Profile) → Sound g → drop at s ≡ line_then g u → at ≡ pl 1 start
    → fits p (field 8100 g.content) ≡ true → sum_walk s at total ≡ first_of pl (ask (eqb (number g.content) total) (at_line bad_sum 1 0))
unfolding sum_walk
sum_is s at total g u pl p h w e q =
    let d = sum_fits p g.content q in
    let n5 : line_size g - 9 ≡ 5 = omega (arith, d.five) in
    let c : take 5 (drop (at + 7) s) ≡ g.content = ap (λ (m : ℕ). take m (drop (at + 7) s)) (sym n5) ∙ reads-content s at g u h w in
    let l : 5 ≤ length (drop (at + 7) s) = omega (arith, d.five, ap length c, length-take 5 (drop (at + 7) s)) in
    let num : number_at s (at + line_lead) sum_digits ≡ Some (number g.content) =
    number_is s (at + 7) 5 (omega arith) (omega arith)
    ∙ (ap (λ (x : Bool). as_number (x && all_digits (take 5 (drop (at + 7) s))) (number (take 5 (drop (at + 7) s)))) (le-leb 5 (length (drop (at + 7) s)) l)
    ∙ (ap (λ (x : List ℕ). as_number (all_digits x) (number x)) c ∙ ap (λ (x : Bool). as_number x (number g.content)) d.all-digits)) in
    rw num (go (eqb (number g.content) total))
  where
    go : (x : Bool) → cond x no_refusal (refusal bad_sum at 0) ≡ first_of pl (ask x (at_line bad_sum 1 0))
    go true = refl
    go false = ap (λ (y : ℕ). refusal bad_sum y 0) e

-- ---- 10 to 17: line 2 and what follows

module _ (s : List ℕ) (f : Field) (t : List ℕ) where
  first-end : (fs : List Field) → Sound f → s ≡ render (f ∷ fs) t → drop (line_size f) s ≡ render fs t
  first-end fs h w = ap (λ (m : ℕ). drop m s) (sym (zero-add (line_size f))) ∙ reads_on s 0 f (render fs t) h w

cond-when : {A : Type 0} (c : Bool) (x y z : A) → (c ≡ true → x ≡ y) → cond c x z ≡ cond c y z
cond-when true x y z h = h refl
cond-when false x y z h = refl

second_is : (s : List ℕ) (settype : SetType) (total : ℕ) (f g : Field) (fs : List Field) (t : List ℕ) → Every Sound (f ∷ g ∷ fs) → s ≡ render (f ∷ g ∷ fs) t
    → length (f ∷ g ∷ fs) ≤ max_lines → line_size f ≡ in_set (f ∷ g ∷ fs) 1 start
    → second_walk s settype (line_size f) total (length (f ∷ g ∷ fs))
    ≡ cond (eqb g.label 8100)
    (or_else (first_of (in_set (f ∷ g ∷ fs)) (faults_then_high (of_type settype) (f ∷ g ∷ fs))) (first_of (in_set (f ∷ g ∷ fs)) (ask (eqb (number g.content) total) (at_line bad_sum 1 0))))
    (refusal no_sum (line_size f) 0)
unfolding second_walk second_by
second_is s settype total f g fs t h w few e =
    let all : List Field = f ∷ g ∷ fs in
    let w' = first-end s f t (g ∷ fs) h.0 w in
    let p : Profile = of_type settype in
    let P : Refusal = first_of (in_set all) (faults_then_high p all) in
    rw (le-leb 2 (length all) (omega arith), read-line s (line_size f) g (render fs t) w' h.1.0, pass-found s settype all t h w few)
    (cond-when (eqb g.label 8100) (or_else P (sum_walk s (line_size f) total))
    (or_else P (first_of (in_set all) (ask (eqb (number g.content) total) (at_line bad_sum 1 0)))) (refusal no_sum (line_size f) 0)
    (λ c. or-then P (λ z.
    let none : faults_then_high p all ≡ [] = first-none (in_set all) (faults_then_high p all) (real-then-high p all) z in
    let fit : fits p g ≡ true = second_fits p f g fs (append-none (rules_from p first 0 all) _ none).0 in
    sum_is s (line_size f) total g (render fs t) (in_set all) p h.1.0 w' e (subst (λ (l : ℕ). fits p (field l g.content) ≡ true) (eqb-true g.label 8100 c) fit))))

place-one : (f : Field) (fs : List Field) → line_size f ≡ in_set (f ∷ fs) 1 start
place-one f fs = omega arith

-- ---- 8 to 17

-- what the walk makes of the tests on lines 1 and 2: a says that line 1 is 8000, k which type it names, c that line 2 is 8100; P and Q are found after them
module _ (all : List Field) (d : Parsed) (same : d.fields ≡ all) (xs : List Fault) (real : Real xs) (at : ℕ) (place : at ≡ in_set all 1 start) (P Q : Refusal) where
  -- a refusal that is found is the answer
  bad : (r : Refusal) → (r.no ≡ 0 → ⊥) → first_of (in_set all) xs ≡ r → judged (verdict (in_set all) xs d) ≡ Err r
  bad r n w = verdict-bad (in_set all) xs d (λ z. n (ap (λ (y : Refusal). y.no) (sym w) ∙ z)) ∙ ap Err w

  by_tests : (s : List ℕ) (a : Bool) (k : Known) (c : Bool) → (profile d.fields).set_type ≡ k
      → ((settype : SetType) → k ≡ Some settype → second_walk s settype at (size all) (length all) ≡ cond c (or_else P Q) (refusal no_sum at 0))
      → first_of (in_set all) xs ≡ or_else (first_of (in_set all) (start_faults_by a (is_known k) c)) (or_else P Q)
      → cond a (typed_by s k at (size all) (length all)) (Err (refusal no_start 0 0)) ≡ judged (verdict (in_set all) xs d)
  by_tests s false k c e x q = sym (bad (refusal no_start 0 0) (λ z. omega arith) (q ∙ or-bad (refusal no_start 0 0) (or_else P Q) (λ z. omega arith)))
  by_tests s true None c e x q = sym (bad (refusal unknown_set 0 0) (λ z. omega arith) (q ∙ or-bad (refusal unknown_set 0 0) (or_else P Q) (λ z. omega arith)))
  by_tests s true (Some settype) c e x q =
      ap (λ (r : Refusal). as_judged r settype (size all) (length all)) (x settype refl ∙ (second_so c ∙ sym q))
      ∙ (ap (λ (fs : List Field). as_judged (first_of (in_set all) xs) settype (size fs) (length fs)) (sym same)
      ∙ sym (verdict-is (in_set all) xs d settype e real))
    where
      second_so : (c : Bool) → cond c (or_else P Q) (refusal no_sum at 0) ≡ or_else (first_of (in_set all) (ask c (at_line no_sum 1 0))) (or_else P Q)
      second_so true = sym (or-none (or_else P Q))
      second_so false = ap (λ (y : ℕ). refusal no_sum y 0) place ∙ sym (or-bad (refusal no_sum (in_set all 1 start) 0) (or_else P Q) (λ z. omega arith))

-- line 1 as the walk reads it
first-is : (s : List ℕ) (f : Field) (fs : List Field) (t : List ℕ) (total lines : ℕ) → Sound f → s ≡ render (f ∷ fs) t
    → lines_walk s total lines ≡ cond (eqb f.label 8000) (typed_by s (type_named f.content) (line_size f) total lines) (Err (refusal no_start 0 0))
unfolding lines_walk first_by
first-is s f fs t total lines h w = rw (read-line s 0 f (render fs t) w h, reads-content s 0 f (render fs t) h w)

two-lines : (s : List ℕ) (f g : Field) (fs : List Field) (t : List ℕ) → Every Sound (f ∷ g ∷ fs) → s ≡ render (f ∷ g ∷ fs) t → length (f ∷ g ∷ fs) ≤ max_lines
    → lines_walk s (size (f ∷ g ∷ fs)) (length (f ∷ g ∷ fs)) ≡ judged (verdict (in_set (f ∷ g ∷ fs)) (set_faults (f ∷ g ∷ fs)) (parsed (f ∷ g ∷ fs) t))
unfolding start_faults profile sum_faults
two-lines s f g fs t h w few =
    let all : List Field = f ∷ g ∷ fs in
    let a : Bool = eqb f.label 8000 in
    let k : Known = type_named f.content in
    let c : Bool = eqb g.label 8100 in
    let Q : Refusal = first_of (in_set all) (ask (eqb (number g.content) (size all)) (at_line bad_sum 1 0)) in
    first-is s f (g ∷ fs) t (size all) (length all) h.0 w
    ∙ by_tests all (parsed all t) refl (set_faults all) (real-set all a (is_known k) c refl) (line_size f) (place-one f (g ∷ fs))
    (first_of (in_set all) (faults_then_high (profile all) all)) Q s a k c refl
    (λ settype e. second_is s settype (size all) f g fs t h w few (place-one f (g ∷ fs))
    ∙ ap (λ (x : Known). cond c (or_else (first_of (in_set all) (faults_then_high (record { set_type = x }) all)) Q) (refusal no_sum (line_size f) 0)) (sym e))
    (set_found all a (is_known k) c refl)

one-line : (s : List ℕ) (f : Field) (t : List ℕ) → Every Sound (f ∷ []) → s ≡ render (f ∷ []) t
    → lines_walk s (size (f ∷ [])) (length (f ∷ [])) ≡ judged (verdict (in_set (f ∷ [])) (set_faults (f ∷ [])) (parsed (f ∷ []) t))
unfolding start_faults profile second_walk
one-line s f t h w =
    let all : List Field = f ∷ [] in
    let a : Bool = eqb f.label 8000 in
    let k : Known = type_named f.content in
    first-is s f [] t (size all) (length all) h.0 w
    ∙ by_tests all (parsed all t) refl (set_faults all) (real-set all a (is_known k) false refl) (line_size f) (place-one f [])
    (first_of (in_set all) (faults_then_high (profile all) all)) (first_of (in_set all) (sum_faults all)) s a k false refl
    (λ settype e. refl) (set_found all a (is_known k) false refl)

lines_are : (s : List ℕ) (f : Field) (fs : List Field) (t : List ℕ) → Every Sound (f ∷ fs) → s ≡ render (f ∷ fs) t → length (f ∷ fs) ≤ max_lines
    → lines_walk s (size (f ∷ fs)) (length (f ∷ fs)) ≡ judged (verdict (in_set (f ∷ fs)) (set_faults (f ∷ fs)) (parsed (f ∷ fs) t))
lines_are s f [] t h w few = one-line s f t h w
lines_are s f (g ∷ fs) t h w few = two-lines s f g fs t h w few

-- the walk answers what the definition says
pub judge-is : (s : List ℕ) → judge_walk s ≡ judge s
unfolding judge_walk judge read
judge-is s = rw (scan-is s) (go (scan s) refl)
  where
    go : (r : Reply Parsed) → scan s ≡ r → judged_scan (scan_summary r) (λ total n. lines_walk s total n) ≡ judged (by_rules r)
    go (refused x) e = refl
    go (done d) e =
        let r = scanned s d.fields d.rest e in
        let w : s ≡ render (r.one ∷ r.others) d.rest = r.bytes ∙ ap (λ (x : List Field). render x d.rest) r.all in
        subst (λ (x : List Field). lines_walk s (size x) (length x) ≡ judged (verdict (in_set x) (set_faults x) (parsed x d.rest))) (sym r.all)
        (lines_are s r.one r.others d.rest (r.first-sound, later-sound r.others r.others-later) w (omega (arith, r.few)))
