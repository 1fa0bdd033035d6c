-- Every fault that a rule of a set gives has a number, so that the first of them is a refusal: 8 to 10, 11 to 15 of each line, 16, 24.
use mathlib.Core.Path.{◌≡◌, refl, sym, ap, ◌∙◌}
use mathlib.Core.Bool.{Bool, true, false, cond, not, ◌&&◌, ◌||◌}
use mathlib.Core.List.{List, [], ◌∷◌, ◌++◌, append_assoc}
use Prim.Native.Nat.{ℕ, suc, ◌+◌}
use native.Mathlib.Omega.{arith}
use lib.Dec.{leb, eqb}
use lib.ListN.{take}
use Rattle.meaning.specs.declared.Row.{Row}
use Rattle.meaning.specs.declared.SetType.{SetType}
use Rattle.meaning.specs.Field.{Field, labels, elem}
use Rattle.meaning.specs.Refusals.{Spot, Fault, at_line, at_byte, ask, no_start, unknown_set, no_sum, repeated, bad_content, other_version, missing, high_byte}
use Rattle.meaning.specs.Lines.{most_seven_bits, high_bytes}
use Rattle.meaning.specs.Tables.{set_level, find}
use Rattle.meaning.specs.Groups.{State, first, Role, unknown, strayed, at_set_level, member, role, next, after, label_faults, no_header, stays}
use Rattle.meaning.specs.Missing.{needed, rows_under, ascending, missing_label, lacking_of, lacking, among, open_lacking, groups_lacking, missing_faults}
use Rattle.meaning.specs.Rules.{Profile, rows_of, role_in, fits, current, content_faults, content_rules, line_rules, rules_from, seven_bit, high_from, high_faults}
use Rattle.meaning.specs.Answers.{no_refusal, or_else}
use Rattle.meaning.proofs.FirstLaws.{first_of, Real, first-append, first_one, real-append, real-ask, real-rule}
use Rattle.std.specs.Prelude.{Some}

-- ---- 8 to 10

-- what they find, by their tests: line 1 is 8000, it names a type, line 2 is 8100
abbrev pub start_faults_by : Bool → Bool → Bool → List Fault
start_faults_by a b c = ask a (at_line no_start 0 0) ++ (ask b (at_line unknown_set 0 0) ++ ask c (at_line no_sum 1 0))

pub real-starts : (a b c : Bool) → Real (start_faults_by a b c)
real-starts a b c =
    real-rule a (at_line no_start 0 0) _ (λ z. omega arith) (real-rule b (at_line unknown_set 0 0) (ask c (at_line no_sum 1 0)) (λ z. omega arith) (real-ask c (at_line no_sum 1 0) (λ z. omega arith)))

-- ---- 11 to 15

pub real-label : (o : Role) (ms : State) (k l : ℕ) → Real (label_faults o ms k l)
unfolding label_faults
real-label unknown ms k l = λ z. omega arith
real-label strayed ms k l = λ z. omega arith
real-label (at_set_level r) ms k l = real-ask (r.many || not (elem r.label ms.top)) (at_line repeated k l) (λ z. omega arith)
real-label (member r) ms k l = real-ask (r.many || not (elem r.label ms.members)) (at_line repeated k l) (λ z. omega arith)

real-content : (p : Profile) (k : ℕ) (f : Field) → Real (content_faults p k f)
unfolding content_faults
real-content p k f = go (fits p f)
  where
    go : (b : Bool) → Real (cond b (ask (current p f) (at_line other_version k f.label)) (at_line bad_content k f.label ∷ []))
    go true = real-ask (current p f) (at_line other_version k f.label) (λ z. omega arith)
    go false = λ z. omega arith

pub real-line : (o : Role) (p : Profile) (ms : State) (k : ℕ) (f : Field) → Real (line_rules o p ms k f)
unfolding line_rules content_rules label_faults
real-line unknown p ms k f = λ z. omega arith
real-line strayed p ms k f = λ z. omega arith
real-line (at_set_level r) p ms k f = real-append (label_faults (at_set_level r) ms k f.label) _ (real-label (at_set_level r) ms k f.label) (real-content p k f)
real-line (member r) p ms k f = real-append (label_faults (member r) ms k f.label) _ (real-label (member r) ms k f.label) (real-content p k f)

pub real-rules : (p : Profile) (ms : State) (k : ℕ) (fs : List Field) → Real (rules_from p ms k fs)
unfolding rules_from
real-rules p ms k [] = tt
real-rules p ms k (f ∷ fs) =
    real-append (line_rules (role_in p ms f) p ms k f) _ (real-line (role_in p ms f) p ms k f) (real-rules p (next (role_in p ms f) ms k f.label) (k + 1) fs)

-- ---- 16

real-lacking-of : (rs : List Row) (h k : ℕ) (has : ℕ → Bool) → Real (lacking_of rs h k has)
unfolding lacking_of
real-lacking-of [] h k has = tt
real-lacking-of (r ∷ rs) h k has = real-rule (not (needed r has && not (has r.label)))
    (at_line missing k (missing_label h r.label)) (lacking_of rs h k has) (λ z. omega arith) (real-lacking-of rs h k has)

pub real-lacking : (rs : List Row) (h k : ℕ) (has : ℕ → Bool) → Real (lacking rs h k has)
unfolding lacking
real-lacking rs h k has = real-lacking-of (ascending (rows_under rs h)) h k has

pub real-open : (rs : List Row) (ms : State) → Real (open_lacking rs ms)
unfolding open_lacking
real-open rs ms = go (eqb ms.header no_header)
  where
    go : (b : Bool) → Real (cond b [] (lacking rs ms.header ms.line (among ms.members)))
    go true = tt
    go false = real-lacking rs ms.header ms.line (among ms.members)

real-ended : (rs : List Row) (ms : State) (b : Bool) → Real (cond b [] (open_lacking rs ms))
real-ended rs ms true = tt
real-ended rs ms false = real-open rs ms

pub real-groups : (rs : List Row) (ms : State) (k : ℕ) (ls : List ℕ) → Real (groups_lacking rs ms k ls)
unfolding groups_lacking
real-groups rs ms k [] = real-open rs ms
real-groups rs ms k (l ∷ ls) =
    let o : Role = role (find rs l) ms.header l in
    real-append (cond (stays o) [] (open_lacking rs ms)) _ (real-ended rs ms (stays o)) (real-groups rs (next o ms k l) (k + 1) ls)

real-missing : (rs : List Row) (ls : List ℕ) → Real (missing_faults rs ls)
unfolding missing_faults
real-missing rs ls =
    real-append (lacking rs set_level 0 (among (after rs first 0 ls).top)) (groups_lacking rs first 0 ls) (real-lacking rs set_level 0 (among (after rs first 0 ls).top)) (real-groups rs first 0 ls)

-- ---- 11 to 16 of all lines

abbrev pub faults_after_start : Profile → List Field → List Fault
faults_after_start p fs = rules_from p first 0 fs ++ missing_faults (rows_of p) (labels fs)

pub real-after-start : (p : Profile) (fs : List Field) → Real (faults_after_start p fs)
real-after-start p fs = real-append (rules_from p first 0 fs) _ (real-rules p first 0 fs) (real-missing (rows_of p) (labels fs))

-- ---- 24, and 11 to 16 before it

pub real-high-bytes : (k i : ℕ) (c : List ℕ) → Real (high_bytes k i c)
real-high-bytes k i [] = tt
real-high-bytes k i (b ∷ c) = real-rule (leb b most_seven_bits) (at_byte high_byte k i) (high_bytes k (suc i) c) (λ z. omega arith) (real-high-bytes k (suc i) c)

pub real-high-from : (k : ℕ) (fs : List Field) → Real (high_from k fs)
unfolding high_from
real-high-from k [] = tt
real-high-from k (f ∷ fs) = real-append (high_bytes k 0 f.content) (high_from (k + 1) fs) (real-high-bytes k 0 f.content) (real-high-from (k + 1) fs)

pub real-high : (fs : List Field) → Real (high_faults fs)
unfolding high_faults
real-high fs = go (seven_bit fs) (high_from 0 fs) (real-high-from 0 fs)
  where
    go : (b : Bool) (xs : List Fault) → Real xs → Real (cond b (take 1 xs) [])
    go false xs h = tt
    go true [] h = tt
    go true (x ∷ xs) h = h

-- the first byte over 7Fh of all lines, if the set has seven bits
pub first-high : (pl : ℕ → Spot → ℕ) (fs : List Field) → first_of pl (high_faults fs) ≡ cond (seven_bit fs) (first_of pl (high_from 0 fs)) no_refusal
unfolding high_faults
first-high pl fs = go (seven_bit fs)
  where
    go : (b : Bool) → first_of pl (cond b (take 1 (high_from 0 fs)) []) ≡ cond b (first_of pl (high_from 0 fs)) no_refusal
    go true = first_one pl (high_from 0 fs)
    go false = refl

-- 11 to 16 of all lines, then 24: the rules that follow 8 to 10 in reader and writer
abbrev pub faults_then_high : Profile → List Field → List Fault
faults_then_high p fs = rules_from p first 0 fs ++ (missing_faults (rows_of p) (labels fs) ++ high_faults fs)

pub real-then-high : (p : Profile) (fs : List Field) → Real (faults_then_high p fs)
real-then-high p fs =
    real-append (rules_from p first 0 fs) _ (real-rules p first 0 fs) (real-append (missing_faults (rows_of p) (labels fs)) (high_faults fs) (real-missing (rows_of p) (labels fs)) (real-high fs))

pub first-then-high : (pl : ℕ → Spot → ℕ) (p : Profile) (fs : List Field)
    → first_of pl (faults_then_high p fs) ≡ or_else (first_of pl (faults_after_start p fs)) (first_of pl (high_faults fs))
first-then-high pl p fs =
    ap (first_of pl) (sym (append_assoc (rules_from p first 0 fs) (missing_faults (rows_of p) (labels fs)) (high_faults fs)))
    ∙ first-append pl (faults_after_start p fs) (high_faults fs) (real-after-start p fs)

-- what line 1 chooses if it names this type
abbrev pub of_type : SetType → Profile
of_type settype = record { set_type = Some settype }
