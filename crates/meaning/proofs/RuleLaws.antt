-- The rules when one content is replaced: those that see labels, profile and what 9206 says alone hold as before, and the new content must fit by itself.
use mathlib.Core.Path.{◌≡◌, refl, sym, ap, ◌∙◌}
use mathlib.Core.Bool.{Bool, true, false, ◌||◌}
use mathlib.Core.List.{List, [], ◌∷◌, cons≢nil}
use Prim.Native.Nat.{ℕ, zero, suc, ◌+◌}
use lib.ListN.{set, get_or-map}
use lib.Seq.{map-set_same, get_or-set_other}
use borrow.Author.Tests.{ne_eqb, eqb-true}
use Rattle.meaning.specs.Field.{Field, labels, no_field, label_at_line, content_at_line}
use Rattle.meaning.specs.Refusals.{at_line, unknown_set, no_sum}
use Rattle.meaning.specs.Lines.{high_bytes}
use Rattle.meaning.specs.Groups.{State, first, Role, unknown, strayed, at_set_level, member, next, label_faults}
use Rattle.meaning.specs.Missing.{missing_faults}
use Rattle.meaning.specs.Rules.{label_is, type_known, Profile, profile, rows_of, role_in, start_faults, fits, current, content_faults, content_rules}
use Rattle.meaning.specs.Rules.{line_rules, rules_from, says_seven_bit, seven_bit, high_from, high_faults, sum_faults, rule_faults, set_faults}
use Rattle.meaning.proofs.FaultLaws.{append-none, none_both, ask-none, ask-last, cond-none, Plain, highs-none, if_none, if-back, one_none, one-back}

-- ---- one line

-- a content that may take the place of another with the same label
pub record Fit (p : Profile) (g : Field) : Type 0 where
  pub right : fits p g ≡ true
  pub version-right : current p g ≡ true

pub not-version : (p : Profile) (g : Field) → (g.label ≡ 9218 → ⊥) → current p g ≡ true
unfolding current
not-version p g h = rw (ne_eqb g.label 9218 h)

fit_none : (p : Profile) (k : ℕ) (g : Field) → Fit p g → content_faults p k g ≡ []
unfolding content_faults
fit_none p k g h = rw (h.right, h.version-right)

content-rules-none : (o : Role) (p : Profile) (k : ℕ) (g : Field) → Fit p g → content_rules o p k g ≡ []
unfolding content_rules
content-rules-none unknown p k g h = refl
content-rules-none strayed p k g h = fit_none p k g h
content-rules-none (at_set_level r) p k g h = fit_none p k g h
content-rules-none (member r) p k g h = fit_none p k g h

pub line-keep : (o : Role) (p : Profile) (st : State) (k : ℕ) (f g : Field) → g.label ≡ f.label → Fit p g
    → line_rules o p st k f ≡ [] → line_rules o p st k g ≡ []
unfolding line_rules
line-keep o p st k f g e h q =
    none_both (label_faults o st k g.label) _ (rw e (append-none (label_faults o st k f.label) _ q).0) (content-rules-none o p k g h)

-- a line without faults is in the table, in its place, and its content fits
pub line-fits : (o : Role) (p : Profile) (st : State) (k : ℕ) (g : Field) → line_rules o p st k g ≡ [] → fits p g ≡ true
unfolding line_rules label_faults content_rules content_faults
line-fits unknown p st k g e = absurd (cons≢nil e)
line-fits strayed p st k g e = absurd (cons≢nil e)
line-fits (at_set_level r) p st k g e = cond-none (fits p g) _ _ (append-none (label_faults (at_set_level r) st k g.label) (content_faults p k g) e).1
line-fits (member r) p st k g e = cond-none (fits p g) _ _ (append-none (label_faults (member r) st k g.label) (content_faults p k g) e).1

-- ---- all lines

pub rules-keep : (p : Profile) (st : State) (k : ℕ) (fs : List Field) (i : ℕ) (g : Field) → g.label ≡ label_at_line fs i → Fit p g
    → rules_from p st k fs ≡ [] → rules_from p st k (set fs i g) ≡ []
unfolding rules_from
rules-keep p st k [] i g e h q = refl
rules-keep p st k (f ∷ fs) zero g e h q =
    let r = append-none (line_rules (role_in p st f) p st k f) _ q in
    let a : line_rules (role_in p st g) p st k f ≡ [] = rw e r.0 in
    let b : rules_from p (next (role_in p st g) st k g.label) (k + 1) fs ≡ [] = rw e r.1 in
    none_both _ _ (line-keep (role_in p st g) p st k f g e h a) b
rules-keep p st k (f ∷ fs) (suc i) g e h q =
    let r = append-none (line_rules (role_in p st f) p st k f) _ q in
    none_both _ _ r.0 (rules-keep p (next (role_in p st f) st k f.label) (k + 1) fs i g e h r.1)

-- ---- what is chosen, and what is missing, stays

pub labels-keep : (fs : List Field) (i : ℕ) (g : Field) → g.label ≡ label_at_line fs i → labels (set fs i g) ≡ labels fs
labels-keep fs i g e = map-set_same (λ (f : Field). f.label) fs i g no_field e

content-keep : (fs : List Field) (i k : ℕ) (g : Field) → (k ≡ i → ⊥) → content_at_line (set fs i g) k ≡ content_at_line fs k
content-keep fs i k g h = ap (λ (f : Field). f.content) (get_or-set_other fs i k g no_field h)

pub profile-keep : (fs : List Field) (i : ℕ) (g : Field) → (0 ≡ i → ⊥) → profile (set fs i g) ≡ profile fs
unfolding profile
profile-keep fs i g n = rw (content-keep fs i 0 g n)

start-keep : (fs : List Field) (i : ℕ) (g : Field) → g.label ≡ label_at_line fs i → (0 ≡ i → ⊥) → start_faults (set fs i g) ≡ start_faults fs
unfolding start_faults
start-keep fs i g e n = rw (labels-keep fs i g e, profile-keep fs i g n)

-- ---- seven bits

pub not-seven : (f : Field) → (f.label ≡ 9206 → ⊥) → says_seven_bit f ≡ false
unfolding says_seven_bit
not-seven f h = rw (ne_eqb f.label 9206 h)

-- a line that is not 9206 says nothing of seven bits, whatever its content
pub seven-keep : (fs : List Field) (i : ℕ) (g : Field) → g.label ≡ label_at_line fs i → (g.label ≡ 9206 → ⊥) → seven_bit (set fs i g) ≡ seven_bit fs
unfolding seven_bit
seven-keep [] i g e h = refl
seven-keep (f ∷ fs) zero g e h = rw (not-seven g h, not-seven f (λ q. h (e ∙ q)))
seven-keep (f ∷ fs) (suc i) g e h = ap (λ (b : Bool). says_seven_bit f || b) (seven-keep fs i g e h)

-- lines without a byte over 7Fh, of which one is given another content without one
pub high-keep : (k : ℕ) (fs : List Field) (i : ℕ) (g : Field) → Plain g.content → high_from k fs ≡ [] → high_from k (set fs i g) ≡ []
unfolding high_from
high-keep k [] i g p e = refl
high-keep k (f ∷ fs) zero g p e = none_both _ _ (highs-none k 0 g.content p) (append-none (high_bytes k 0 f.content) _ e).1
high-keep k (f ∷ fs) (suc i) g p e =
    let a = append-none (high_bytes k 0 f.content) _ e in
    none_both _ _ a.0 (high-keep (k + 1) fs i g p a.1)

-- no byte over 7Fh is faulty exactly if there is none, in a set with seven bits
pub high-none : (fs : List Field) → (seven_bit fs ≡ true → high_from 0 fs ≡ []) → high_faults fs ≡ []
unfolding high_faults
high-none fs h = if_none (seven_bit fs) _ (λ b. one_none (high_from 0 fs) (h b))

pub high-back : (fs : List Field) → high_faults fs ≡ [] → seven_bit fs ≡ true → high_from 0 fs ≡ []
unfolding high_faults
high-back fs e b = one-back (high_from 0 fs) (if-back (seven_bit fs) _ e b)

seven-faults-keep : (fs : List Field) (i : ℕ) (g : Field) → g.label ≡ label_at_line fs i → (g.label ≡ 9206 → ⊥) → (seven_bit fs ≡ true → Plain g.content)
    → high_faults fs ≡ [] → high_faults (set fs i g) ≡ []
seven-faults-keep fs i g e h p q =
    high-none (set fs i g) (λ b. let s : seven_bit fs ≡ true = sym (seven-keep fs i g e h) ∙ b in high-keep 0 fs i g (p s) (high-back fs q s))

-- ---- all rules but the sum

pub record Ruled (fs : List Field) : Type 0 where
  pub begins : start_faults fs ≡ []
  pub each-line : rules_from (profile fs) first 0 fs ≡ []
  pub none-missing : missing_faults (rows_of (profile fs)) (labels fs) ≡ []
  pub none-high : high_faults fs ≡ []

pub ruled-of : (fs : List Field) → rule_faults fs ≡ [] → Ruled fs
unfolding rule_faults
ruled-of fs e =
    let a = append-none (start_faults fs) _ e in
    let b = append-none (rules_from (profile fs) first 0 fs) _ a.1 in
    let c = append-none (missing_faults (rows_of (profile fs)) (labels fs)) _ b.1 in
    record { begins = a.0; each-line = b.0; none-missing = c.0; none-high = c.1 }

pub no-rule-faults : (fs : List Field) → Ruled fs → rule_faults fs ≡ []
unfolding rule_faults
no-rule-faults fs r = rw (r.begins, r.each-line, r.none-missing) r.none-high

pub ruled : (fs : List Field) → set_faults fs ≡ [] → Ruled fs × (sum_faults fs ≡ [])
unfolding set_faults
ruled fs e = let a = append-none (rule_faults fs) (sum_faults fs) e in (ruled-of fs a.0, a.1)

pub unruled : (fs : List Field) → Ruled fs → sum_faults fs ≡ [] → set_faults fs ≡ []
unfolding set_faults
unruled fs r e = none_both (rule_faults fs) (sum_faults fs) (no-rule-faults fs r) e

-- one content for another that fits by itself keeps every rule but the sum; in a set with seven bits it has no byte over 7Fh
pub ruled-keep : (fs : List Field) (i : ℕ) (g : Field) → g.label ≡ label_at_line fs i → (0 ≡ i → ⊥) → (g.label ≡ 9206 → ⊥) → Fit (profile fs) g
    → (seven_bit fs ≡ true → Plain g.content) → Ruled fs → Ruled (set fs i g)
ruled-keep fs i g e n s h p7 r =
    let p : profile (set fs i g) ≡ profile fs = profile-keep fs i g n in
    record {
      begins = rw (start-keep fs i g e n) r.begins;
      each-line = rw p (rules-keep (profile fs) first 0 fs i g e h r.each-line);
      none-missing = rw (p, labels-keep fs i g e) r.none-missing;
      none-high = seven-faults-keep fs i g e s p7 r.none-high;
    }

-- ---- lines 1 and 2

pub record Begins (fs : List Field) : Type 0 where
  pub type-known : type_known fs ≡ true
  pub first-label : label_at_line fs 0 ≡ 8000
  pub second-label : label_at_line fs 1 ≡ 8100

label-so : (fs : List Field) (k l : ℕ) → label_is fs k l ≡ true → label_at_line fs k ≡ l
label-so fs k l e = sym (get_or-map (λ (f : Field). f.label) fs k no_field) ∙ eqb-true _ l e

pub begins-of : (fs : List Field) → start_faults fs ≡ [] → Begins fs
unfolding start_faults
begins-of fs e =
    let a = ask-none (label_is fs 0 8000) _ _ e in
    let b = ask-none (type_known fs) (at_line unknown_set 0 0) _ a.1 in
    record {
      type-known = b.0;
      first-label = label-so fs 0 8000 a.0;
      second-label = label-so fs 1 8100 (ask-last (label_is fs 1 8100) (at_line no_sum 1 0) b.1);
    }
