-- A refusal is that of a breach, and no breach comes before it in the paper's order (`refused-first`).
use mathlib.Core.Path.{◌≡◌, refl, sym, ap, ◌∙◌, subst}
use mathlib.Core.Bool.{Bool, true, false}
use mathlib.Core.List.{List, [], ◌∷◌, ◌++◌, cons≢nil, append_assoc}
use mathlib.Core.Logic.{◌⊎◌, inl, inr, ◌≢◌, ◌↔◌}
use Prim.Native.Nat.{ℕ, suc, ◌+◌, ◌≤◌, ◌<◌}
use native.Mathlib.Omega.{arith}
use lib.Dec.{eqb}
use lib.ListN.{length, get_or, get_or-map}
use borrow.Author.Tests.{eqb-true, eqb-false}
use Rattle.meaning.specs.declared.Refusal.{Refusal}
use Rattle.meaning.specs.declared.Shape.{Shape}
use Rattle.meaning.specs.declared.SetType.{SetType}
use Rattle.meaning.specs.Limits.{type_number}
use Rattle.meaning.specs.Digits.{digits, number}
use Rattle.meaning.specs.Field.{Field, labels, no_field, label_at_line, content_at_line}
use Rattle.meaning.specs.Refusals.{Fault, at_line, ask, Reply, refused, done, refusal, verdict, empty, no_start, unknown_set, no_sum, missing, bad_sum, high_byte}
use Rattle.meaning.specs.Pieces.{Parsed, parsed}
use Rattle.meaning.specs.Lines.{line_lead, most_seven_bits, size, offset, render}
use Rattle.meaning.specs.Tables.{table}
use Rattle.meaning.specs.Groups.{first}
use Rattle.meaning.specs.Missing.{missing_faults}
use Rattle.meaning.specs.Rules.{type_named, Profile, profile, rows_of, label_is, is_known, type_known, start_faults, rules_from, high_faults, sum_faults, rule_faults}
use Rattle.meaning.specs.Rules.{set_faults}
use Rattle.meaning.specs.Reading.{scan, in_set, by_rules, read, judged, judge}
use Rattle.meaning.proofs.Bools.{Every}
use Rattle.meaning.proofs.FaultLaws.{append-none, done-same}
use Rattle.meaning.proofs.AnswerLaws.{refused-accepted, refusal-same}
use Rattle.meaning.proofs.LineLaws.{Sound, NoStart, LaterLine, length-render}
use Rattle.meaning.proofs.RuleLaws.{begins-of}
use Rattle.meaning.proofs.SetLaws.{scan-render, Scanned, scanned, later-sound}
use Rattle.keeps.specs.Keeps.{StartsWith, GroupHas, HasSevenBits, KeepsRules, Keeps}
use Rattle.keeps.proofs.TableFacts.{no-absurd}
use Rattle.keeps.proofs.StateLaws.{state_at}
use Rattle.keeps.proofs.LackLaws.{after-all}
use Rattle.meaning.proofs.TypeLaws.{known-type, of-same, type-digits, type-named}
use Rattle.keeps.proofs.RulesExact.{typed, profile-typed, label-is, faults_at, rules-each, Complete, complete-of, typed-complete, typed-rules, labels-fine-at, faults-none}
use Rattle.keeps.proofs.Exact.{over-cases, over-of, none-earlier, alone-of, accepted-exactly}
use Rattle.breaches.specs.Breaches.{line_rank, SetLines, StartBreach, no-start, unknown-set, no-sum, RuleBreach, rule_number, always, with_value}
use Rattle.breaches.specs.Breaches.{with-8438, MissingBreach, of-set, of-group, of-name, TypedLines, Breach, no_bytes, in-line, in_start}
use Rattle.breaches.specs.Breaches.{in-rules, in-missing, in-high, in_sum, start_rank, missing_rank, high_rank, sum_rank, Rank, rank, Before, rank_of, FirstBreach}
use Rattle.breaches.proofs.FirstLine.{same_head, head-append, ask-head, refused-same, done_refused, ScanRefused, scan-refused}
use Rattle.breaches.proofs.FirstLine.{line-none-before, scanned-no-breach, before-stage, stage-of, sounds, wells}
use Rattle.breaches.proofs.FirstHigh.{FirstHigh, set-high}
use Rattle.breaches.proofs.FirstRule.{RuleFirst, rule-first, FirstFault, first-fault, fine-line, behind-line}
use Rattle.breaches.proofs.FirstMissing.{MissingFirst, in-set, in_group, in-name, missing-first}
use Rattle.meaning.specs.Results.{Judged}
use Rattle.std.specs.Prelude.{Err, Ok}

-- ---- ranks

nothing-before-0 : (r : Rank) → Before r (rank 0 0 0 0) → ⊥
nothing-before-0 r (inl x) = omega arith
nothing-before-0 r (inr (e, inl x)) = omega arith
nothing-before-0 r (inr (e, inr (f, inl x))) = omega arith
nothing-before-0 r (inr (e, inr (f, inr x))) = omega (arith, x.1)

pub start-stage : (fs : List Field) (b : StartBreach fs) → (start_rank b).stage ≡ 2
start-stage fs (no-start e) = refl
start-stage fs (unknown-set e) = refl
start-stage fs (no-sum e) = refl

pub missing-stage : (t : SetType) (fs : List Field) (b : MissingBreach t fs) → (missing_rank b).stage ≡ 4
missing-stage t fs (of-set l a q n) = refl
missing-stage t fs (of-group h l i m q n) = refl
missing-stage t fs (of-name k i m n) = refl

-- a stage later than that of r does not come before r
later-stage : (a r : Rank) (n : ℕ) → a.stage ≡ n → r.stage < n → Before a r → ⊥
later-stage a r n e l b = omega (arith, before-stage a r b)

-- ---- 1 to 7

some_bytes : (rest : List ℕ) → rest ≢ [] → 1 ≤ length rest
some_bytes [] n = absurd (n refl)
some_bytes (b ∷ bs) n = omega arith

line-first-breach : (s : List ℕ) (r : Refusal) → ScanRefused s r → FirstBreach s r
line-first-breach s r x = record { breach = in-line x.lines x.rest x.starts x.is-first.breach; its-refusal = x.is-first.its-refusal; none_before = before }
  where
    one : (line_rank x.is-first.breach).stage ≡ 1
    one = stage-of (length x.lines) x.rest x.is-first.breach

    before : (b : Breach s) → Before (rank_of b) (line_rank x.is-first.breach) → ⊥
    before (no_bytes e) z =
        omega (arith, length-render x.lines x.rest, ap length (sym x.starts.its-bytes ∙ e), some_bytes x.rest x.starts.more)
    before (in-line fs rest l b) z = line-none-before s r x fs rest l b z
    before (in_start fs rest l b) z = later-stage (start_rank b) (line_rank x.is-first.breach) 2 (start-stage fs b) (omega (arith, one)) z
    before (in-rules t fs rest l k i b) z = later-stage (rank 3 k (rule_number b) 0) (line_rank x.is-first.breach) 3 refl (omega (arith, one)) z
    before (in-missing t fs rest l b) z = later-stage (missing_rank b) (line_rank x.is-first.breach) 4 (missing-stage t fs b) (omega (arith, one)) z
    before (in-high fs rest l h k i a b e) z = later-stage (high_rank k i) (line_rank x.is-first.breach) 5 refl (omega (arith, one)) z
    before (in_sum fs rest l e) z = later-stage sum_rank (line_rank x.is-first.breach) 6 refl (omega (arith, one)) z

no_size : (fs : List Field) → 0 < length fs → size fs ≡ 0 → ⊥
no_size [] l e = omega arith
no_size (f ∷ fs) l e = omega arith

-- ---- a set whose lines are well formed

-- the set at the front has one list of lines
later-lines : (fs : List Field) → Every Sound fs → Every NoStart fs → Every LaterLine fs
later-lines [] h k = tt
later-lines (f ∷ fs) h k = ((h.0, k.0), later-lines fs h.1 k.1)

set-scan : (s : List ℕ) (fs : List Field) (rest : List ℕ) → SetLines s fs rest → scan s ≡ done (parsed fs rest)
set-scan s [] rest l = absurd (omega (arith, l.some-line))
set-scan s (f ∷ fs) rest l =
    let h = sounds (f ∷ fs) l.well-formed in
    ap scan l.its-bytes
    ∙ scan-render f fs rest (omega (arith, l.few-lines)) h.0
    (later-lines fs h.1 (alone-of s (f ∷ fs) rest l.its-bytes l.ends.no-earlier)) (over-of rest l.ends.there)

done-same-lines : (fs gs : List Field) (a b : List ℕ) → ◌≡◌ {A = Reply Parsed} (done (parsed fs a)) (done (parsed gs b)) → fs ≡ gs
done-same-lines fs gs a b e = ap (λ (d : Parsed). d.fields) (done-same e)

module _ (s : List ℕ) (fs : List Field) (rest : List ℕ) (set_lines : SetLines s fs rest) where
  pub one_list : (gs : List Field) (a : List ℕ) → SetLines s gs a → gs ≡ fs
  one_list gs a l = done-same-lines gs fs a rest (sym (set-scan s gs a l) ∙ set-scan s fs rest set_lines)

  -- only breaches of these lines can come before r, stage by stage: no other lines can be read from s
  by-stage : (r : Rank)
      → ((b : StartBreach fs) → Before (start_rank b) r → ⊥)
      → ((t : SetType) → content_at_line fs 0 ≡ digits 4 (type_number t) → (k : ℕ) → k < length fs → (b : RuleBreach t fs k) → Before (rank 3 k (rule_number b) 0) r → ⊥)
      → ((t : SetType) → content_at_line fs 0 ≡ digits 4 (type_number t) → (b : MissingBreach t fs) → Before (missing_rank b) r → ⊥)
      → (HasSevenBits fs → (k i : ℕ) → k < length fs → i < length (content_at_line fs k) → most_seven_bits < get_or (content_at_line fs k) i 0 → Before (high_rank k i) r → ⊥)
      → (number (content_at_line fs 1) ≢ size fs → Before sum_rank r → ⊥)
      → (b : Breach s) → Before (rank_of b) r → ⊥
  by-stage r st ru mi hi su (no_bytes e) z = no_size fs set_lines.some-line (omega (arith, length-render fs rest, ap length (sym set_lines.its-bytes ∙ e)))
  by-stage r st ru mi hi su (in-line gs a l b) z =
      scanned-no-breach s fs rest set_lines.its-bytes (sounds fs set_lines.well-formed) set_lines.some-line set_lines.few-lines set_lines.ends.there gs a l b
  by-stage r st ru mi hi su (in_start gs a l b) z = subst (λ (y : List Field). (c : StartBreach y) → Before (start_rank c) r → ⊥) (sym (one_list gs a l)) st b z
  by-stage r st ru mi hi su (in-rules t gs a l k i b) z =
      subst (λ (y : List Field). content_at_line y 0 ≡ digits 4 (type_number t) → (j : ℕ) → j < length y → (c : RuleBreach t y j) → Before (rank 3 j (rule_number c) 0) r → ⊥)
      (sym (one_list gs a l.set_lines)) (ru t) l.names-type k i b z
  by-stage r st ru mi hi su (in-missing t gs a l b) z =
      subst (λ (y : List Field). content_at_line y 0 ≡ digits 4 (type_number t) → (c : MissingBreach t y) → Before (missing_rank c) r → ⊥)
      (sym (one_list gs a l.set_lines)) (mi t) l.names-type b z
  by-stage r st ru mi hi su (in-high gs a l h k i u v e) z =
      subst (λ (y : List Field). HasSevenBits y → (j m : ℕ) → j < length y → m < length (content_at_line y j) → most_seven_bits < get_or (content_at_line y j) m 0
      → Before (high_rank j m) r → ⊥)
      (sym (one_list gs a l)) hi h k i u v e z
  by-stage r st ru mi hi su (in_sum gs a l e) z =
      subst (λ (y : List Field). number (content_at_line y 1) ≢ size y → Before sum_rank r → ⊥) (sym (one_list gs a l)) su e z

-- ---- 8, 9, 10

-- what comes before a number of this stage
before-number : (n m : ℕ) → Before (rank 2 0 n 0) (rank 2 0 m 0) → n < m
before-number n m (inl x) = absurd (omega arith)
before-number n m (inr (e, inl x)) = absurd (omega arith)
before-number n m (inr (e, inr (f, inl x))) = x
before-number n m (inr (e, inr (f, inr x))) = absurd (omega (arith, x.1))

-- the refusal of a fault
abbrev told_at : List Field → Fault → Refusal
told_at fs x = refusal x.no (in_set fs x.line x.spot) x.label

told_line : (fs : List Field) (x : Fault) (n k l : ℕ) → x ≡ at_line n k l → told_at fs x ≡ refusal n (offset fs k) l
told_line fs x n k l e = ap (told_at fs) e ∙ ap (λ (p : ℕ). refusal n p l) (omega arith)

no_label : (fs : List Field) (k l : ℕ) → label_is fs k l ≡ false → label_at_line fs k ≢ l
no_label fs k l e q = no-absurd (label-is fs k l q) e

so-label : (fs : List Field) (k l : ℕ) → label_is fs k l ≡ true → label_at_line fs k ≡ l
so-label fs k l e = sym (get_or-map (λ (f : Field). f.label) fs k no_field) ∙ eqb-true _ l e

no-type : (fs : List Field) → type_known fs ≡ false → (t : SetType) → content_at_line fs 0 ≢ digits 4 (type_number t)
no-type fs e t q = no-absurd (ap (λ (p : Profile). is_known p.set_type) (profile-typed t fs q)) e

so-type : (fs : List Field) → type_known fs ≡ true → (t : SetType) × (content_at_line fs 0 ≡ digits 4 (type_number t))
unfolding profile
so-type fs e = let k = known-type (type_named (content_at_line fs 0)) e in (k.0, type-digits (content_at_line fs 0) k.0 k.1)

module _ (s : List ℕ) (fs : List Field) (rest : List ℕ) (set_lines : SetLines s fs rest) where
  -- a breach of the start with no smaller one
  start-breach : (b : StartBreach fs) (n : ℕ) → start_rank b ≡ rank 2 0 n 0 → ((c : StartBreach fs) → Before (start_rank c) (rank 2 0 n 0) → ⊥)
      → (d : Breach s) → Before (rank_of d) (start_rank b) → ⊥
  start-breach b n e h d z =
      by-stage s fs rest set_lines (rank 2 0 n 0) h
      (λ t q k i c. later-stage (rank 3 k (rule_number c) 0) (rank 2 0 n 0) 3 refl (omega arith))
      (λ t q c. later-stage (missing_rank c) (rank 2 0 n 0) 4 (missing-stage t fs c) (omega arith))
      (λ h k i u v e. later-stage (high_rank k i) (rank 2 0 n 0) 5 refl (omega arith))
      (λ q. later-stage sum_rank (rank 2 0 n 0) 6 refl (omega arith)) d (subst (λ (y : Rank). Before (rank_of d) y) e z)

  -- By the three tests in order: the first that fails gives the breach, and those before it hold, so no smaller number is broken.
  start_first : (x : Fault) (xs : List Fault) → start_faults fs ≡ x ∷ xs → FirstBreach s (told_at fs x)
  unfolding start_faults
  start_first x xs e = go (label_is fs 0 8000) (type_known fs) (label_is fs 1 8100) refl refl refl e
    where
      go : (a b c : Bool) → label_is fs 0 8000 ≡ a → type_known fs ≡ b → label_is fs 1 8100 ≡ c
          → ask a (at_line no_start 0 0) ++ (ask b (at_line unknown_set 0 0) ++ ask c (at_line no_sum 1 0)) ≡ x ∷ xs → FirstBreach s (told_at fs x)
      go false b c p q r h = record {
        breach = in_start fs rest set_lines (no-start (no_label fs 0 8000 p));
        its-refusal = told_line fs x no_start 0 0 (sym (same_head h));
        none_before = start-breach (no-start (no_label fs 0 8000 p)) no_start refl smaller;
      }
        where
          smaller : (c : StartBreach fs) → Before (start_rank c) (rank 2 0 8 0) → ⊥
          smaller (no-start w) z = omega (arith, before-number 8 8 z)
          smaller (unknown-set w) z = omega (arith, before-number 9 8 z)
          smaller (no-sum w) z = omega (arith, before-number 10 8 z)
      go true false c p q r h = record {
        breach = in_start fs rest set_lines (unknown-set (no-type fs q));
        its-refusal = told_line fs x unknown_set 0 0 (sym (same_head h));
        none_before = start-breach (unknown-set (no-type fs q)) unknown_set refl smaller;
      }
        where
          smaller : (c : StartBreach fs) → Before (start_rank c) (rank 2 0 9 0) → ⊥
          smaller (no-start w) z = w (so-label fs 0 8000 p)
          smaller (unknown-set w) z = omega (arith, before-number 9 9 z)
          smaller (no-sum w) z = omega (arith, before-number 10 9 z)
      go true true false p q r h = record {
        breach = in_start fs rest set_lines (no-sum (no_label fs 1 8100 r));
        its-refusal = told_line fs x no_sum 1 0 (sym (same_head h));
        none_before = start-breach (no-sum (no_label fs 1 8100 r)) no_sum refl smaller;
      }
        where
          smaller : (c : StartBreach fs) → Before (start_rank c) (rank 2 0 10 0) → ⊥
          smaller (no-start w) z = w (so-label fs 0 8000 p)
          smaller (unknown-set w) z = let y = so-type fs q in w y.0 y.1
          smaller (no-sum w) z = omega (arith, before-number 10 10 z)
      go true true true p q r h = absurd (cons≢nil (sym h))

  -- ---- a set that starts well

  module _ (t : SetType) (starts : StartsWith t fs) (second : label_at_line fs 1 ≡ 8100) where
    typed-lines : TypedLines s t fs rest
    typed-lines = record { set_lines = set_lines; names-type = starts.1 }

    no-start-breach : StartBreach fs → ⊥
    no-start-breach (no-start w) = w starts.0
    no-start-breach (unknown-set w) = w t starts.1
    no-start-breach (no-sum w) = w second

    one_type : (u : SetType) → content_at_line fs 0 ≡ digits 4 (type_number u) → u ≡ t
    one_type u e = of-same (sym (type-named u) ∙ (ap type_named (sym e ∙ starts.1) ∙ type-named t))

    -- 11 to 15
    before-rule : (i k n m : ℕ) → Before (rank 3 i n 0) (rank 3 k m 0) → (i < k) ⊎ ((i ≡ k) × (n < m))
    before-rule i k n m (inl x) = absurd (omega arith)
    before-rule i k n m (inr (e, inl x)) = inl x
    before-rule i k n m (inr (e, inr (f, inl x))) = inr (f, x)
    before-rule i k n m (inr (e, inr (f, inr x))) = absurd (omega (arith, x.1))

    -- The first line with faults gives the breach: the lines before it break no rule, it breaks none of a smaller number, the start is right, and 16, 24 and 17 come later.
    rules-first : (x : Fault) (xs : List Fault) → rules_from (typed t) first 0 fs ≡ x ∷ xs → FirstBreach s (told_at fs x)
    rules-first x xs e = record {
      breach = in-rules t fs rest typed-lines k f.inside b.breach;
      its-refusal = told_line fs x (rule_number b.breach) k (label_at_line fs k) b.is;
      none_before = by-stage s fs rest set_lines r (λ c z. no-start-breach c) rules-before
          (λ u q c. later-stage (missing_rank c) r 4 (missing-stage u fs c) (omega arith))
          (λ h j m u v w. later-stage (high_rank j m) r 5 refl (omega arith)) (λ q. later-stage sum_rank r 6 refl (omega arith));
    }
      where
        f : FirstFault t fs x
        f = first-fault t fs x xs e

        k : ℕ
        k = f.at-line

        b : RuleFirst t fs f.at-line (state_at t fs f.at-line) f.inside (behind-line t fs f.at-line f.before-fine) x
        b = rule-first t fs f.at-line (state_at t fs f.at-line) f.inside (behind-line t fs f.at-line f.before-fine) x f.others f.its-faults

        r : Rank
        r = rank 3 f.at-line (rule_number b.breach) 0

        own-type : (i : ℕ) → i < length fs → (c : RuleBreach t fs i) → Before (rank 3 i (rule_number c) 0) r → ⊥
        own-type i l c z = go (before-rule i f.at-line (rule_number c) (rule_number b.breach) z)
          where
            same : (i ≡ f.at-line) → (d : RuleBreach t fs i) → rule_number d < rule_number b.breach → ⊥
            same q = subst (λ (y : ℕ). (d : RuleBreach t fs y) → rule_number d < rule_number b.breach → ⊥) (sym q) b.none-smaller

            go : (i < f.at-line) ⊎ ((i ≡ f.at-line) × (rule_number c < rule_number b.breach)) → ⊥
            go (inl q) = fine-line t fs i l (λ j p. f.before-fine j (omega arith)) c
            go (inr q) = same q.0 c q.1

        rules-before : (u : SetType) → content_at_line fs 0 ≡ digits 4 (type_number u) → (i : ℕ) → i < length fs → (c : RuleBreach u fs i) → Before (rank 3 i (rule_number c) 0) r → ⊥
        rules-before u q i l = subst (λ (y : SetType). (c : RuleBreach y fs i) → Before (rank 3 i (rule_number c) 0) r → ⊥) (sym (one_type u q)) (own-type i l)

    -- ---- 16, 24 and 17: every line is fine

    module _ (each : (k : ℕ) → k < length fs → faults_at t fs k ≡ []) where
      no-rule-breach : (u : SetType) → content_at_line fs 0 ≡ digits 4 (type_number u) → (i : ℕ) → i < length fs → RuleBreach u fs i → ⊥
      no-rule-breach u q i l = subst (λ (y : SetType). RuleBreach y fs i → ⊥) (sym (one_type u q)) (fine-line t fs i l (λ j p. each j (omega arith)))

      missing-breach : (b : MissingBreach t fs) (r : Rank) → missing_rank b ≡ r → ((c : MissingBreach t fs) → Before (missing_rank c) r → ⊥)
          → (d : Breach s) → Before (rank_of d) (missing_rank b) → ⊥
      missing-breach b r e h d z =
          by-stage s fs rest set_lines r (λ c w. no-start-breach c) (λ u q i l c w. no-rule-breach u q i l c)
          (λ u q. subst (λ (y : SetType). (c : MissingBreach y fs) → Before (missing_rank c) r → ⊥) (sym (one_type u q)) h)
          (λ g j m u v w. later-stage (high_rank j m) r 5 refl (omega (arith, ap (λ (y : Rank). y.stage) e, missing-stage t fs b)))
          (λ q. later-stage sum_rank r 6 refl (omega (arith, ap (λ (y : Rank). y.stage) e, missing-stage t fs b))) d (subst (λ (y : Rank). Before (rank_of d) y) e z)

      lack-first : (x : Fault) → MissingFirst t fs (labels-fine-at t fs each) x → FirstBreach s (told_at fs x)
      lack-first x (in-set l a q n e h) = record {
        breach = in-missing t fs rest typed-lines (of-set l a q n);
        its-refusal = told_line fs x missing 0 l e;
        none_before = missing-breach (of-set l a q n) (rank 4 0 l 0) refl h;
      }
      lack-first x (in_group i l p m q n e h) = record {
        breach = in-missing t fs rest typed-lines (of-group i l p m q n);
        its-refusal = told_line fs x missing i l e;
        none_before = missing-breach (of-group i l p m q n) (rank 4 (suc i) l 0) refl h;
      }
      lack-first x (in-name k p m n e h) = record {
        breach = in-missing t fs rest typed-lines (of-name k p m n);
        its-refusal = told_line fs x missing k (suc (label_at_line fs k)) e;
        none_before = missing-breach (of-name k p m n) (rank 4 (suc k) (suc (label_at_line fs k)) 0) refl h;
      }

      missing-fault-first : (x : Fault) (xs : List Fault) → missing_faults (table t) (labels fs) ≡ x ∷ xs → FirstBreach s (told_at fs x)
      unfolding missing_faults
      missing-fault-first x xs e = lack-first x (missing-first t fs (labels-fine-at t fs each) x xs (rw (after-all t fs) at e))

      no-missing-breach : Complete t fs → MissingBreach t fs → ⊥
      no-missing-breach r (of-set l a q n) = let k = r.set-complete l a q in n k.0 k.1 k.2
      no-missing-breach r (of-group h l i m (always q) n) = n (r.groups-complete h l i m q)
      no-missing-breach r (of-group h l i m (with_value q v) n) = n (subst (λ (y : ℕ). GroupHas t fs h y) (sym q) (r.needs-8421 h v))
      no-missing-breach r (of-group h l i m (with-8438 q v) n) = n (subst (λ (y : ℕ). GroupHas t fs h y) (sym q) (r.needs-8437 h v))
      no-missing-breach r (of-name k i m n) = n (r.names-followed k i m)

      -- lines that keep the rules have no breach but of the sum
      no-breach-but : KeepsRules t fs → (r : Rank) → (number (content_at_line fs 1) ≢ size fs → Before sum_rank r → ⊥) → (d : Breach s) → Before (rank_of d) r → ⊥
      no-breach-but k r h =
          by-stage s fs rest set_lines r (λ c z. no-start-breach c) (λ u q i l c z. no-rule-breach u q i l c)
          (λ u q c z. subst (λ (y : SetType). MissingBreach y fs → ⊥) (sym (one_type u q)) (no-missing-breach (complete-of t fs k)) c)
          (λ g j m a b e z. omega (arith, e, k.seven-bits g j a m b)) h

      nothing-itself : Before sum_rank sum_rank → ⊥
      nothing-itself (inl x) = omega arith
      nothing-itself (inr (e, inl x)) = omega arith
      nothing-itself (inr (e, inr (f, inl x))) = omega arith
      nothing-itself (inr (e, inr (f, inr x))) = omega (arith, x.1)

      -- what comes before a byte over 7Fh
      before-high : (i k a b : ℕ) → Before (high_rank i a) (high_rank k b) → (i < k) ⊎ ((i ≡ k) × (a < b))
      before-high i k a b (inl x) = absurd (omega arith)
      before-high i k a b (inr (e, inl x)) = inl x
      before-high i k a b (inr (e, inr (f, inl x))) = absurd (omega arith)
      before-high i k a b (inr (e, inr (f, inr x))) = inr (f, x.1)

      -- The first byte over 7Fh gives the breach: earlier lines, and earlier bytes of its line, have none; start, lines and what is required are right, and 17 comes later.
      high-first : Complete t fs → (x : Fault) (xs : List Fault) → high_faults fs ≡ x ∷ xs → FirstBreach s (told_at fs x)
      high-first c x xs e = record {
        breach = in-high fs rest set_lines seven f.line f.which f.inside f.there f.high;
        its-refusal = ap (told_at fs) f.is ∙ ap (λ (m : ℕ). refusal high_byte (offset fs m + (line_lead + f.which)) 0) none_more;
        none_before = by-stage s fs rest set_lines (high_rank f.line f.which) (λ b z. no-start-breach b) (λ u q i l b z. no-rule-breach u q i l b)
            (λ u q b z. subst (λ (y : SetType). MissingBreach y fs → ⊥) (sym (one_type u q)) (no-missing-breach c) b)
            (λ g j m a b w z. none j m b w (before-high j f.line m f.which z))
            (λ q. later-stage sum_rank (high_rank f.line f.which) 6 refl (omega arith));
      }
        where
          seven : HasSevenBits fs
          seven = (set-high fs x xs e).0

          f : FirstHigh 0 fs x
          f = (set-high fs x xs e).1

          none_more : 0 + f.line ≡ f.line
          none_more = omega arith

          none : (j m : ℕ) → m < length (content_at_line fs j) → most_seven_bits < get_or (content_at_line fs j) m 0 → (j < f.line) ⊎ ((j ≡ f.line) × (m < f.which)) → ⊥
          none j m b w (inl p) = omega (arith, w, f.earlier-lines j p m b)
          none j m b w (inr p) =
              let q : get_or (content_at_line fs j) m 0 ≤ most_seven_bits = subst (λ (i : ℕ). get_or (content_at_line fs i) m 0 ≤ most_seven_bits) (sym p.0) (f.earlier m p.1) in
              omega (arith, w, q)

      sum_first : KeepsRules t fs → (x : Fault) (xs : List Fault) → sum_faults fs ≡ x ∷ xs → FirstBreach s (told_at fs x)
      unfolding sum_faults
      sum_first k x xs e =
          let a = ask-head (eqb (number (content_at_line fs 1)) (size fs)) (at_line bad_sum 1 0) x xs e in
          record {
            breach = in_sum fs rest set_lines (eqb-false _ _ a.0);
            its-refusal = told_line fs x bad_sum 1 0 a.1;
            none_before = no-breach-but k sum_rank (λ q z. nothing-itself z);
          }

    -- the first fault of a set that starts well: of the rules 11 to 15, of 16, of 24, or of 17
    typed-first : (x : Fault) (xs : List Fault) → (rules_from (typed t) first 0 fs ++ (missing_faults (table t) (labels fs) ++ high_faults fs)) ++ sum_faults fs ≡ x ∷ xs
        → FirstBreach s (told_at fs x)
    typed-first x xs e = outer (head-append (rules_from (typed t) first 0 fs ++ (missing_faults (table t) (labels fs) ++ high_faults fs)) (sum_faults fs) x xs e)
      where
        third : rules_from (typed t) first 0 fs ≡ [] → (ys : List Fault)
            → ((zs : List Fault) × (missing_faults (table t) (labels fs) ≡ x ∷ zs)) ⊎ ((missing_faults (table t) (labels fs) ≡ []) × (high_faults fs ≡ x ∷ ys)) → FirstBreach s (told_at fs x)
        third p ys (inl q) = missing-fault-first (rules-each t fs p) x q.0 q.1
        third p ys (inr q) = high-first (rules-each t fs p) (typed-complete t fs p q.0) x ys q.1

        inner : (ys : List Fault) → rules_from (typed t) first 0 fs ++ (missing_faults (table t) (labels fs) ++ high_faults fs) ≡ x ∷ ys → FirstBreach s (told_at fs x)
        inner ys q = go (head-append (rules_from (typed t) first 0 fs) (missing_faults (table t) (labels fs) ++ high_faults fs) x ys q)
          where
            go : ((zs : List Fault) × (rules_from (typed t) first 0 fs ≡ x ∷ zs))
                ⊎ ((rules_from (typed t) first 0 fs ≡ []) × (missing_faults (table t) (labels fs) ++ high_faults fs ≡ x ∷ ys)) → FirstBreach s (told_at fs x)
            go (inl p) = rules-first x p.0 p.1
            go (inr p) = third p.0 ys (head-append (missing_faults (table t) (labels fs)) (high_faults fs) x ys p.1)

        outer : ((ys : List Fault) × (rules_from (typed t) first 0 fs ++ (missing_faults (table t) (labels fs) ++ high_faults fs) ≡ x ∷ ys))
            ⊎ ((rules_from (typed t) first 0 fs ++ (missing_faults (table t) (labels fs) ++ high_faults fs) ≡ []) × (sum_faults fs ≡ x ∷ xs)) → FirstBreach s (told_at fs x)
        outer (inl p) = inner p.0 p.1
        outer (inr p) =
            let n = append-none (rules_from (typed t) first 0 fs) (missing_faults (table t) (labels fs) ++ high_faults fs) p.0 in
            let m = append-none (missing_faults (table t) (labels fs)) (high_faults fs) n.1 in
            sum_first (rules-each t fs n.0) (typed-rules t fs starts second n.0 m.0 m.1) x xs p.1

  -- ---- all faults

  regroup : (a b c d : List Fault) → (a ++ (b ++ c)) ++ d ≡ a ++ ((b ++ c) ++ d)
  regroup a b c d = append_assoc a (b ++ c) d

  started-first : start_faults fs ≡ [] → (x : Fault) (xs : List Fault)
      → (rules_from (profile fs) first 0 fs ++ (missing_faults (rows_of (profile fs)) (labels fs) ++ high_faults fs)) ++ sum_faults fs ≡ x ∷ xs → FirstBreach s (told_at fs x)
  started-first e x xs h =
      let b = begins-of fs e in
      let y = so-type fs b.type-known in
      typed-first y.0 (b.first-label, y.1) b.second-label x xs
      (subst (λ (p : Profile). (rules_from p first 0 fs ++ (missing_faults (rows_of p) (labels fs) ++ high_faults fs)) ++ sum_faults fs ≡ x ∷ xs) (profile-typed y.0 fs y.1) h)

  set-faults-first : (x : Fault) (xs : List Fault) → set_faults fs ≡ x ∷ xs → FirstBreach s (told_at fs x)
  unfolding set_faults rule_faults
  set-faults-first x xs e =
      go (head-append (start_faults fs) _ x xs
      (sym (regroup (start_faults fs) (rules_from (profile fs) first 0 fs) (missing_faults (rows_of (profile fs)) (labels fs) ++ high_faults fs) (sum_faults fs)) ∙ e))
    where
      go : ((ys : List Fault) × (start_faults fs ≡ x ∷ ys))
          ⊎ ((start_faults fs ≡ []) × ((rules_from (profile fs) first 0 fs ++ (missing_faults (rows_of (profile fs)) (labels fs) ++ high_faults fs)) ++ sum_faults fs ≡ x ∷ xs))
          → FirstBreach s (told_at fs x)
      go (inl p) = start_first x p.0 p.1
      go (inr p) = started-first p.0 x xs p.1

-- ---- the answer

-- what was scanned are the lines of the set
scanned-lines : (s : List ℕ) (fs : List Field) (rest : List ℕ) → scan s ≡ done (parsed fs rest) → SetLines s fs rest
scanned-lines s fs rest e = subst (λ (y : List Field). SetLines s y rest) (sym r.all) (record {
  its-bytes = bytes;
  some-line = omega arith;
  well-formed = wells gs sound;
  ends = record { no-earlier = none-earlier s gs rest bytes (wells gs sound) (alone r.others r.others-later); there = over-cases rest r.at-end };
  few-lines = omega (arith, r.few);
})
  where
    r : Scanned s fs rest
    r = scanned s fs rest e

    gs : List Field
    gs = r.one ∷ r.others

    sound : Every Sound gs
    sound = (r.first-sound, later-sound r.others r.others-later)

    bytes : s ≡ render gs rest
    bytes = r.bytes ∙ ap (λ (y : List Field). render y rest) r.all

    alone : (hs : List Field) → Every LaterLine hs → Every NoStart hs
    alone [] h = tt
    alone (g ∷ hs) h = (h.0.1, alone hs h.1)

read_first : (s : List ℕ) (r : Refusal) → read s ≡ refused r → FirstBreach s r
unfolding read
read_first s r e = go (scan s) refl e
  where
    empty-first : (s ≡ []) × (r ≡ refusal empty 0 0) → FirstBreach s r
    empty-first x = record { breach = no_bytes x.0; its-refusal = x.1; none_before = λ b z. nothing-before-0 (rank_of b) z }

    line : ((s ≡ []) × (r ≡ refusal empty 0 0)) ⊎ ScanRefused s r → FirstBreach s r
    line (inl x) = empty-first x
    line (inr x) = line-first-breach s r x

    rules : (d : Parsed) → scan s ≡ done d → (fl : List Fault) → set_faults d.fields ≡ fl → verdict (in_set d.fields) fl d ≡ refused r → FirstBreach s r
    rules d p [] q z = done_refused z
    rules d p (x ∷ xs) q z =
        subst (λ (y : Refusal). FirstBreach s y) (refused-same z) (set-faults-first s d.fields d.rest (scanned-lines s d.fields d.rest p) x xs q)

    go : (y : Reply Parsed) → scan s ≡ y → by_rules y ≡ refused r → FirstBreach s r
    go (refused y) p q = line (scan-refused s r (p ∙ q))
    go (done d) p q = rules d p (set_faults d.fields) refl q

-- "So the first fault in this order is the answer, and a refusal is given only for it."
pub refused-first : (s : List ℕ) (r : Refusal) → judge s ≡ Err r → FirstBreach s r
unfolding judge
refused-first s r e = go (read s) refl e
  where
    go : (y : Reply Parsed) → read s ≡ y → judged y ≡ Err r → FirstBreach s r
    go (refused y) p q = read_first s r (p ∙ ap refused (refusal-same q))
    go (done d) p q = refused-accepted (sym q)

-- ---- an accepted set has no breach

stage-most : (s : List ℕ) (b : Breach s) → (rank_of b).stage < 7
stage-most s (no_bytes e) = omega arith
stage-most s (in-line fs rest l b) = omega (arith, stage-of (length fs) rest b)
stage-most s (in_start fs rest l b) = omega (arith, start-stage fs b)
stage-most s (in-rules t fs rest l k i b) = omega arith
stage-most s (in-missing t fs rest l b) = omega (arith, missing-stage t fs b)
stage-most s (in-high fs rest l h k i a b e) = omega arith
stage-most s (in_sum fs rest l e) = omega arith

keeps-lines : (s : List ℕ) (t : SetType) (fs : List Field) (rest : List ℕ) → Keeps s t fs rest → SetLines s fs rest
keeps-lines s t fs rest k = record { its-bytes = k.its-bytes; some-line = some fs k.rules.starts.0; well-formed = k.well-formed; ends = k.ends; few-lines = k.few-lines }
  where
    some : (gs : List Field) → label_at_line gs 0 ≡ 8000 → 0 < length gs
    some [] e = absurd (omega arith)
    some (g ∷ gs) e = omega arith

keeps-no-breach : (s : List ℕ) (t : SetType) (fs : List Field) (rest : List ℕ) → Keeps s t fs rest → Breach s → ⊥
keeps-no-breach s t fs rest k b =
    no-breach-but s fs rest (keeps-lines s t fs rest k) t k.rules.starts k.rules.second-8100 (faults-none t fs k.rules) k.rules (rank 7 0 0 0)
    (λ q z. q k.sum-is-length) b (inl (stage-most s b))

pub accepted-no-breach : (s : List ℕ) (x : Shape) → judge s ≡ Ok x → Breach s → ⊥
accepted-no-breach s x e b = let f = (accepted-exactly s x).0 e in keeps-no-breach s f.set-type f.lines f.rest f.keeps b

-- a set is refused exactly when there is a breach
pub refused-for-a-breach : (s : List ℕ) → ((r : Refusal) × (judge s ≡ Err r)) ↔ Breach s
refused-for-a-breach s = (λ x. (refused-first s x.0 x.1).breach, go (judge s) refl)
  where
    go : (j : Judged) → judge s ≡ j → Breach s → (r : Refusal) × (judge s ≡ Err r)
    go (Ok x) e b = absurd (accepted-no-breach s x e b)
    go (Err r) e b = (r, e)
