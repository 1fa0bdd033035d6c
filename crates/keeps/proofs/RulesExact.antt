-- 8 to 16 and 24 find no fault in the lines of a set exactly when the lines keep the rules for sets of some type.
use mathlib.Core.Path.{◌≡◌, refl, sym, ap, ◌∙◌, subst}
use mathlib.Core.Bool.{Bool, true, false, cond, not, ◌||◌}
use mathlib.Core.List.{List, [], ◌∷◌, ◌++◌, cons≢nil}
use mathlib.Core.Logic.{◌⊎◌, inl, inr}
use Prim.Native.Nat.{ℕ, zero, suc, ◌+◌, ◌≤◌, ◌<◌}
use native.Mathlib.Omega.{arith}
use native.Mathlib.Numerals.{add-one}
use lib.Dec.{eqb}
use lib.ListN.{length, drop, get_or, get_or-map, drop_of_length-le}
use lib.Seq.{drop-cons}
use borrow.Author.Tests.{eqb-true, eq-eqb}
use Rattle.meaning.specs.declared.SetType.{SetType}
use Rattle.meaning.specs.Limits.{type_number}
use Rattle.meaning.specs.Digits.{digits}
use Rattle.meaning.specs.Field.{Field, labels, no_field, label_at_line, content_at_line}
use Rattle.meaning.specs.Refusals.{Fault, at_line, ask, other_version, bad_content}
use Rattle.meaning.specs.Kinds.{point, same_bytes, is0210}
use Rattle.meaning.specs.Tables.{set_level, table}
use Rattle.meaning.specs.Groups.{State, first, Role, unknown, strayed, at_set_level, member, label_faults}
use Rattle.meaning.specs.Missing.{among, lacking, groups_lacking, missing_faults}
use Rattle.meaning.specs.Rules.{type_named, Profile, profile, rows_of, label_is, start_faults, fits, current, content_faults, content_rules, line_rules, role_in, rules_from}
use Rattle.meaning.specs.Rules.{high_faults}
use Rattle.meaning.proofs.FaultLaws.{append-none, none_both, ask-last}
use Rattle.meaning.proofs.SameLaws.{same-bytes, bytes_same}
use Rattle.meaning.proofs.TypeLaws.{known-type, type-digits, type-named}
use Rattle.meaning.proofs.RuleLaws.{line-fits, Ruled, begins-of}
use Rattle.keeps.specs.Keeps.{StartsWith, ContentsFit, VersionIs0210, GroupHas, SetComplete, GroupsComplete, Needs8421, Needs8437, NamesFollowed, KeepsRules}
use Rattle.keeps.proofs.TableFacts.{le-cases}
use Rattle.keeps.proofs.SevenExact.{seven-kept, kept-seven}
use Rattle.keeps.proofs.StateLaws.{role_behind, state_at}
use Rattle.keeps.proofs.LabelLaws.{table_kept, groups-kept, odds-kept, none-repeated-in-set, none-repeated-in-groups, labels-fine}
use Rattle.keeps.proofs.LackLaws.{ClearTo, clear-all, no-lack, lack-none-all, after-all, set-has, groups-have, values-have-units}
use Rattle.keeps.proofs.LackLaws.{has-8437-with-8438, names-have-odds, set-lacks-none, groups-lack-none}
use Rattle.meaning.specs.Results.{Known}
use Rattle.std.specs.Prelude.{Some}

-- ---- the type that line 1 names

-- the profile of sets of a type
abbrev pub typed : SetType → Profile
typed t = record { set_type = Some t }

pub profile-typed : (t : SetType) (fs : List Field) → content_at_line fs 0 ≡ digits 4 (type_number t) → profile fs ≡ typed t
unfolding profile
profile-typed t fs e = ap (λ (k : Known). record { set_type = k }) (ap type_named e ∙ type-named t)

-- ---- 8, 9, 10

pub label-is : (fs : List Field) (k l : ℕ) → label_at_line fs k ≡ l → label_is fs k l ≡ true
label-is fs k l e = eq-eqb _ l (get_or-map (λ (f : Field). f.label) fs k no_field ∙ e)

begins-none : (t : SetType) (fs : List Field) → StartsWith t fs → label_at_line fs 1 ≡ 8100 → start_faults fs ≡ []
unfolding start_faults
begins-none t fs s e = rw (label-is fs 0 8000 s.0, profile-typed t fs s.1, label-is fs 1 8100 e) refl

-- ---- 11 to 15, line by line

content-current : (p : Profile) (k : ℕ) (f : Field) → content_faults p k f ≡ [] → current p f ≡ true
unfolding content_faults
content-current p k f e = go (fits p f) e
  where
    go : (b : Bool) → cond b (ask (current p f) (at_line other_version k f.label)) (at_line bad_content k f.label ∷ []) ≡ [] → current p f ≡ true
    go true q = ask-last _ _ q
    go false q = absurd (cons≢nil q)

line-current : (o : Role) (p : Profile) (st : State) (k : ℕ) (f : Field) → line_rules o p st k f ≡ [] → current p f ≡ true
unfolding line_rules label_faults content_rules
line-current unknown p st k f e = absurd (cons≢nil e)
line-current strayed p st k f e = absurd (cons≢nil e)
line-current (at_set_level r) p st k f e = content-current p k f (append-none (label_faults (at_set_level r) st k f.label) _ e).1
line-current (member r) p st k f e = content-current p k f (append-none (label_faults (member r) st k f.label) _ e).1

content-none : (o : Role) (p : Profile) (k : ℕ) (f : Field) → fits p f ≡ true → current p f ≡ true → content_rules o p k f ≡ []
unfolding content_rules content_faults
content-none unknown p k f a b = refl
content-none strayed p k f a b = rw (a, b) refl
content-none (at_set_level r) p k f a b = rw (a, b) refl
content-none (member r) p k f a b = rw (a, b) refl

pub version-current : (p : Profile) (f : Field) → (f.label ≡ 9218 → f.content ≡ digits 2 2 ++ (point ∷ digits 2 10)) → current p f ≡ true
unfolding current is0210
version-current p f h = go (eqb f.label 9218) refl
  where
    go : (b : Bool) → eqb f.label 9218 ≡ b → not b || same_bytes f.content (digits 2 2 ++ (point ∷ digits 2 10)) ≡ true
    go true e = rw (h (eqb-true _ _ e)) (bytes_same (digits 2 2 ++ (point ∷ digits 2 10)))
    go false e = refl

-- nothing that is required is absent: what 16 asks, and no other rule
pub record Complete (t : SetType) (fs : List Field) : Type 0 where
  pub set-complete : SetComplete t fs
  pub groups-complete : GroupsComplete t fs
  pub needs-8421 : Needs8421 t fs
  pub needs-8437 : Needs8437 t fs
  pub names-followed : NamesFollowed fs

pub complete-of : (t : SetType) (fs : List Field) → KeepsRules t fs → Complete t fs
complete-of t fs r = record {
  set-complete = r.set-complete;
  groups-complete = r.groups-complete;
  needs-8421 = r.needs-8421;
  needs-8437 = r.needs-8437;
  names-followed = r.names-followed;
}

module _ (t : SetType) (fs : List Field) where
  -- what is wrong with line k
  abbrev pub faults_at : ℕ → List Fault
  faults_at k = line_rules (role_in (typed t) (state_at t fs k) (get_or fs k no_field)) (typed t) (state_at t fs k) k (get_or fs k no_field)

  pub rules-step : (i : ℕ) → i < length fs
      → rules_from (typed t) (state_at t fs i) i (drop i fs) ≡ faults_at i ++ rules_from (typed t) (state_at t fs (suc i)) (suc i) (drop (suc i) fs)
  unfolding rules_from state_at
  rules-step i l = rw (drop-cons fs i no_field l, add-one i) refl

  pub rules-end : (i : ℕ) → length fs ≤ i → rules_from (typed t) (state_at t fs i) i (drop i fs) ≡ []
  unfolding rules_from
  rules-end i l = rw (drop_of_length-le fs {i = i} l) refl

  each_from : (n i : ℕ) → i + n ≡ length fs → rules_from (typed t) (state_at t fs i) i (drop i fs) ≡ [] → (k : ℕ) → i ≤ k → k < length fs → faults_at k ≡ []
  each_from zero i e h k a b = absurd (omega arith)
  each_from (suc n) i e h k a b =
      let x = append-none (faults_at i) _ (sym (rules-step i (omega arith)) ∙ h) in
      go x.0 (each_from n (suc i) (omega arith) x.1 k) (le-cases i k a)
    where
      go : faults_at i ≡ [] → (suc i ≤ k → k < length fs → faults_at k ≡ []) → (i < k) ⊎ (i ≡ k) → faults_at k ≡ []
      go p q (inl r) = q r b
      go p q (inr r) = subst (λ (z : ℕ). faults_at z ≡ []) r p

  from_each : (n i : ℕ) → i + n ≡ length fs → ((k : ℕ) → k < length fs → faults_at k ≡ []) → rules_from (typed t) (state_at t fs i) i (drop i fs) ≡ []
  from_each zero i e h = rules-end i (omega arith)
  from_each (suc n) i e h = rules-step i (omega arith) ∙ none_both (faults_at i) _ (h i (omega arith)) (from_each n (suc i) (omega arith) h)

  pub rules-each : rules_from (typed t) first 0 fs ≡ [] → (k : ℕ) → k < length fs → faults_at k ≡ []
  unfolding state_at
  rules-each h k l = each_from (length fs) 0 (omega arith) h k (omega arith) l

  pub each-rules : ((k : ℕ) → k < length fs → faults_at k ≡ []) → rules_from (typed t) first 0 fs ≡ []
  unfolding state_at
  each-rules h = from_each (length fs) 0 (omega arith) h

  pub labels-fine-at : ((k : ℕ) → k < length fs → faults_at k ≡ []) → (k : ℕ) → k < length fs
      → label_faults (role_behind t fs (state_at t fs k) k) (state_at t fs k) k (label_at_line fs k) ≡ []
  unfolding line_rules
  labels-fine-at h k l = (append-none (label_faults (role_behind t fs (state_at t fs k) k) (state_at t fs k) k (label_at_line fs k)) _ (h k l)).0

  -- ---- 14 and 15

  contents-so : ((k : ℕ) → k < length fs → faults_at k ≡ []) → ContentsFit fs
  unfolding fits
  contents-so h k l = line-fits _ (typed t) (state_at t fs k) k (get_or fs k no_field) (h k l)

  pub version-at : (k : ℕ) → faults_at k ≡ [] → label_at_line fs k ≡ 9218 → content_at_line fs k ≡ digits 2 2 ++ (point ∷ digits 2 10)
  unfolding current is0210
  version-at k h e =
      same-bytes _ _ (rw (eq-eqb (label_at_line fs k) 9218 e) at (line-current _ (typed t) (state_at t fs k) k (get_or fs k no_field) h))

  version-so : ((k : ℕ) → k < length fs → faults_at k ≡ []) → VersionIs0210 fs
  version-so h k l e = version-at k (h k l) e

  contents-none : KeepsRules t fs → (k : ℕ) → k < length fs → (o : Role) → content_rules o (typed t) k (get_or fs k no_field) ≡ []
  unfolding fits
  contents-none r k l o = content-none o (typed t) k (get_or fs k no_field) (r.contents-fit k l) (version-current (typed t) (get_or fs k no_field) (r.version k l))

  pub faults-none : KeepsRules t fs → (k : ℕ) → k < length fs → faults_at k ≡ []
  unfolding line_rules
  faults-none r k l = none_both _ _ (labels-fine t fs r k l) (contents-none r k l (role_behind t fs (state_at t fs k) k))

  -- ---- 16

  pub missing-parts : missing_faults (table t) (labels fs) ≡ []
      → (lacking (table t) set_level 0 (among (state_at t fs (length fs)).top) ≡ []) × (groups_lacking (table t) first 0 (labels fs) ≡ [])
  unfolding missing_faults
  missing-parts e = append-none _ _ (rw (after-all t fs) at e)

  parts-missing : KeepsRules t fs → missing_faults (table t) (labels fs) ≡ []
  unfolding missing_faults
  parts-missing r = rw (after-all t fs) (none_both _ _ (set-lacks-none t fs r) (lack-none-all t fs (groups-lack-none t fs r)))

  -- ---- all of them

  -- the header of a group is a line
  group-line : (h l : ℕ) → GroupHas t fs h l → h < length fs
  group-line h l g = omega (arith, g.1.behind, g.1.a-line)

  value_line : (h : ℕ) → GroupHas t fs h 8420 ⊎ (GroupHas t fs h 8461 ⊎ GroupHas t fs h 8462) → h < length fs
  value_line h (inl g) = group-line h 8420 g
  value_line h (inr (inl g)) = group-line h 8461 g
  value_line h (inr (inr g)) = group-line h 8462 g

  pub typed-complete : rules_from (typed t) first 0 fs ≡ [] → missing_faults (table t) (labels fs) ≡ [] → Complete t fs
  typed-complete a b =
      let fine = labels-fine-at (rules-each a) in
      let m = missing-parts b in
      let clear : ClearTo t fs (length fs) = clear-all t fs (no-lack t fs m.1) in
      record {
        set-complete = set-has t fs fine m.0;
        groups-complete = groups-have t fs fine (length fs) clear;
        needs-8421 = λ h g. values-have-units t fs fine (length fs) clear h (value_line h g) g;
        needs-8437 = λ h g. has-8437-with-8438 t fs fine (length fs) clear h (group-line h 8438 g) g;
        names-followed = names-have-odds t fs fine (length fs) clear;
      }

  pub typed-rules : StartsWith t fs → label_at_line fs 1 ≡ 8100 → rules_from (typed t) first 0 fs ≡ [] → missing_faults (table t) (labels fs) ≡ [] → high_faults fs ≡ []
      → KeepsRules t fs
  typed-rules s e a b v =
      let h : (k : ℕ) → k < length fs → faults_at k ≡ [] = rules-each a in
      let fine = labels-fine-at h in
      let c = typed-complete a b in
      record {
        starts = s;
        second-8100 = e;
        in_table = table_kept t fs fine;
        in-groups = groups-kept t fs fine;
        after-names = odds-kept t fs fine;
        not-repeated-in-set = none-repeated-in-set t fs fine;
        not-repeated-in-groups = none-repeated-in-groups t fs fine;
        contents-fit = contents-so h;
        version = version-so h;
        seven-bits = seven-kept fs v;
        set-complete = c.set-complete;
        groups-complete = c.groups-complete;
        needs-8421 = c.needs-8421;
        needs-8437 = c.needs-8437;
        names-followed = c.names-followed;
      }

-- the lines of an accepted set keep the rules
pub ruled-keeps : (fs : List Field) → Ruled fs → (t : SetType) × KeepsRules t fs
unfolding profile
ruled-keeps fs r =
    let b = begins-of fs r.begins in
    let k = known-type (type_named (content_at_line fs 0)) b.type-known in
    let t = k.0 in
    let c : content_at_line fs 0 ≡ digits 4 (type_number t) = type-digits (content_at_line fs 0) t k.1 in
    let p : profile fs ≡ typed t = profile-typed t fs c in (
      t,
      typed-rules t fs (b.first-label, c) b.second-label
          (subst (λ (q : Profile). rules_from q first 0 fs ≡ []) p r.each-line)
          (subst (λ (q : Profile). missing_faults (rows_of q) (labels fs) ≡ []) p r.none-missing) r.none-high,
    )

-- and lines that keep them have no fault
pub keeps-ruled : (t : SetType) (fs : List Field) → KeepsRules t fs → Ruled fs
keeps-ruled t fs r =
    let p : profile fs ≡ typed t = profile-typed t fs r.starts.1 in
    record {
      begins = begins-none t fs r.starts r.second-8100;
      each-line = subst (λ (q : Profile). rules_from q first 0 fs ≡ []) (sym p) (each-rules t fs (faults-none t fs r));
      none-missing = subst (λ (q : Profile). missing_faults (rows_of q) (labels fs) ≡ []) (sym p) (parts-missing t fs r);
      none-high = kept-seven fs r.seven-bits;
    }
