-- One line over its content and flags finds what the rules of `meaning` find over fields and labels, and leaves the same state: 11 to 15, and 16 and 24 after the last line.
use mathlib.Core.Path.{◌≡◌, refl, sym, ap, ap₂, ◌∙◌, subst}
use mathlib.Core.Bool.{Bool, true, false, cond, not, ◌||◌, true≢false}
use mathlib.Core.List.{List, [], ◌∷◌, ◌++◌}
use mathlib.Core.Option.{Option, none, some}
use Prim.Native.Nat.{ℕ, ◌+◌, ◌<◌}
use native.Mathlib.Omega.{arith}
use lib.Dec.{eqb}
use lib.ListN.{get_or, set}
use borrow.Author.Tests.{eqb-true, eqb-false, ne_eqb}
use Rattle.meaning.specs.declared.Refusal.{Refusal}
use Rattle.meaning.specs.declared.Row.{Row}
use Rattle.meaning.specs.declared.SetType.{SetType}
use Rattle.meaning.specs.Field.{Field, labels, elem}
use Rattle.meaning.specs.Refusals.{Spot, start, Fault, at_line, ask, refusal, not_in_set, stray, repeated, bad_content, other_version}
use Rattle.meaning.specs.Kinds.{is0210}
use Rattle.meaning.specs.FieldTable.{fits_label}
use Rattle.meaning.specs.Tables.{table, row_label, is_pair_label, set_level, find}
use Rattle.meaning.specs.Groups as G
use Rattle.meaning.specs.Groups.{first, Role, unknown, strayed, at_set_level, member, belongs, role_of, role, next, after, label_faults, no_header, stays}
use Rattle.meaning.specs.Missing.{lacking, among, open_lacking, groups_lacking, missing_faults}
use Rattle.meaning.specs.Rules.{Profile, role_in, fits, current, content_faults, content_rules, line_rules, rules_from, seven_bit, high_faults}
use Rattle.meaning.specs.Answers.{no_refusal, or_else}
use Rattle.table_fields.specs.LabelNumbers.{label_number}
use Rattle.table_find.specs.LookUp.{Found, At, NoRow, just_row}
use Rattle.table_find.proofs.FindLaws.{find-is, found_number, row_below}
use Rattle.judge_missing.specs.Lacks.{row_count, Flagged, no_flags, seen, open_lack, first_lack, lack_all, required_labels, set_lack, finish, finish_then}
use Rattle.meaning.proofs.FaultLaws.{append-none}
use Rattle.meaning.proofs.FirstLaws.{first_of, first-append, first-none, or_assoc, or-none, or-bad, or-then}
use Rattle.meaning.proofs.RealLaws.{real-label, real-line, real-rules, real-lacking, real-open, faults_after_start, real-after-start, first-high, faults_then_high, first-then-high, of_type}
use Rattle.meaning.proofs.SevenLaws.{seen-9206}
use Rattle.judge_missing.proofs.FlagLaws.{Flags, flags-mark, flags-none, Agrees}
use Rattle.judge_missing.proofs.LackMeaning.{set-lack, open_is}
use Rattle.judge_line.specs.Steps.{row_of, repeated_no, place_no, label_no, version_no, content_no, line_no, next_flagged, stays_in, lack_then}
use Rattle.std.specs.Prelude.{Some}

-- a number as a refusal of the line at `at` with label l; 0 is none
abbrev numbered : ℕ → ℕ → ℕ → Refusal
numbered n at l = cond (eqb n 0) no_refusal (refusal n at l)

numbered-none : (n at l : ℕ) → n ≡ 0 → numbered n at l ≡ no_refusal
numbered-none n at l e = rw e

numbered-bad : (n at l : ℕ) → (n ≡ 0 → ⊥) → numbered n at l ≡ refusal n at l
numbered-bad n at l e = rw (ne_eqb n 0 e)

or-numbers : (a b at l : ℕ) → or_else (numbered a at l) (numbered b at l) ≡ numbered (cond (eqb a 0) b a) at l
or-numbers a b at l = go (eqb a 0) refl
  where
    go : (x : Bool) → eqb a 0 ≡ x → or_else (cond x no_refusal (refusal a at l)) (numbered b at l) ≡ numbered (cond x b a) at l
    go true e = or-none (numbered b at l)
    go false e = or-bad (refusal a at l) (numbered b at l) (eqb-false a 0 e) ∙ sym (numbered-bad a at l (eqb-false a 0 e))

-- ---- one line, by the tests that the code makes: the row stands at set level (a), belongs to the open header (b), repeats (m), was seen at set level (t), or in the group (i)

abbrev role_by : Bool → Bool → Row → Role
role_by a b r = cond a (at_set_level r) (cond b (member r) strayed)

abbrev label_no_by : Bool → Bool → Bool → Bool → Bool → ℕ
label_no_by a b m t i = cond a (repeated_no m t) (cond b (repeated_no m i) stray)

repeated-is : (pl : ℕ → Spot → ℕ) (m t : Bool) (k l at : ℕ) → at ≡ pl k start → first_of pl (ask (m || not t) (at_line repeated k l)) ≡ numbered (repeated_no m t) at l
unfolding repeated_no
repeated-is pl true t k l at e = refl
repeated-is pl false true k l at e = ap (λ (p : ℕ). refusal repeated p l) (sym e)
repeated-is pl false false k l at e = refl

label-is : (pl : ℕ → Spot → ℕ) (a b : Bool) (r : Row) (ms : G.State) (k l at : ℕ) (t i : Bool)
    → at ≡ pl k start → t ≡ elem r.label ms.top → i ≡ elem r.label ms.members
    → first_of pl (label_faults (role_by a b r) ms k l) ≡ numbered (label_no_by a b r.many t i) at l
unfolding label_faults
label-is pl true b r ms k l at t i e p q = rw (← p) (repeated-is pl r.many t k l at e)
label-is pl false true r ms k l at t i e p q = rw (← q) (repeated-is pl r.many i k l at e)
label-is pl false false r ms k l at t i e p q = ap (λ (x : ℕ). refusal stray x l) (sym e)

content-is : (pl : ℕ → Spot → ℕ) (p : Profile) (k at : ℕ) (f : Field) → at ≡ pl k start
    → first_of pl (content_faults p k f) ≡ numbered (content_no f.label f.content) at f.label
unfolding content_faults content_no version_no fits current
content-is pl p k at f e = go (fits_label f.label f.content) (eqb f.label 9218) (is0210 f.content)
  where
    go : (a b c : Bool) → first_of pl (cond a (ask (not b || c) (at_line other_version k f.label)) (at_line bad_content k f.label ∷ []))
        ≡ numbered (cond a (cond b (cond c 0 other_version) 0) bad_content) at f.label
    go false b c = ap (λ (x : ℕ). refusal bad_content x f.label) (sym e)
    go true true true = refl
    go true true false = ap (λ (x : ℕ). refusal other_version x f.label) (sym e)
    go true false c = refl

-- the content of a line in its table is judged whatever its role is
rules-by : (a b : Bool) (r : Row) (p : Profile) (ms : G.State) (k : ℕ) (f : Field)
    → line_rules (role_by a b r) p ms k f ≡ label_faults (role_by a b r) ms k f.label ++ content_faults p k f
unfolding line_rules content_rules
rules-by true b r p ms k f = refl
rules-by false true r p ms k f = refl
rules-by false false r p ms k f = refl

-- ---- one line, by what the table has for it

-- what a line's number, next state and staying are, if the states agree
record LineAgrees (pl : ℕ → Spot → ℕ) (o : Role) (p : Profile) (st : Flagged) (ms : G.State) (k at : ℕ) (f : Field) (found : Found) : Type 0 where
  number-so : numbered (line_no found st f.label f.content) at f.label ≡ first_of pl (line_rules o p ms k f)
  state-so : line_no found st f.label f.content ≡ 0 → Agrees pl (next_flagged found st at f.label) (next o ms k f.label)
  stays-so : line_no found st f.label f.content ≡ 0 → stays_in found ≡ stays o

-- a line that is not refused has its label in place
placed : (a b at : ℕ) → cond (eqb a 0) b a ≡ 0 → a ≡ 0
placed a b at = go (eqb a 0) refl
  where
    go : (x : Bool) → eqb a 0 ≡ x → cond x b a ≡ 0 → a ≡ 0
    go true e q = eqb-true a 0 e
    go false e q = q

module _ (pl : ℕ → Spot → ℕ) (st : Flagged) (ms : G.State) (s : Agrees pl st ms) (k at : ℕ) (e : at ≡ pl k start) (p : Profile) (f : Field) where
  unknown-line : LineAgrees pl unknown p st ms k at f NoRow
  unfolding line_no label_no line_rules label_faults content_rules
  unknown-line = record {
    number-so = ap (λ (x : ℕ). refusal not_in_set x f.label) e;
    state-so = λ z. absurd (omega arith);
    stays-so = λ z. absurd (omega arith);
  }

  module _ (i : ℕ) (r : Row) (q : i ≡ label_number r.label) (few : i < row_count) where
    seen-so : (on : List Bool) (ls : List ℕ) → Flags on ls → get_or on i false ≡ elem r.label ls
    unfolding seen
    seen-so on ls fl = ap (λ (n : ℕ). get_or on n false) q ∙ fl.same r.label

    marked-so : (on : List Bool) (ls : List ℕ) → Flags on ls → Flags (set on i true) (r.label ∷ ls)
    marked-so on ls fl = subst (λ (n : ℕ). Flags (set on n true) (r.label ∷ ls)) (sym q) (flags-mark on ls r.label fl (omega arith))

    opened-agrees : Agrees pl (record { header = f.label; place = at; members = no_flags; top = set st.top i true }) (G.opened ms r k f.label)
    opened-agrees = record { header = refl; place = e; members = flags-none; top = marked-so st.top ms.top s.top }

    joined-agrees : Agrees pl (record { header = cond (is_pair_label f.label) no_header st.header; place = st.place; members = set st.members i true; top = st.top }) (G.joined ms r f.label)
    joined-agrees = record {
      header = ap (λ (h : ℕ). cond (is_pair_label f.label) no_header h) s.header;
      place = s.place;
      members = marked-so st.members ms.members s.members;
      top = s.top;
    }

    next-by : (a b : Bool) → label_no_by a b r.many (get_or st.top i false) (get_or st.members i false) ≡ 0
        → Agrees pl (cond a (record { header = f.label; place = at; members = no_flags; top = set st.top i true })
        (record { header = cond (is_pair_label f.label) no_header st.header; place = st.place; members = set st.members i true; top = st.top }))
        (next (role_by a b r) ms k f.label)
    unfolding next
    next-by true b z = opened-agrees
    next-by false true z = joined-agrees
    next-by false false z = absurd (omega arith)

    stays_by : (a b : Bool) → label_no_by a b r.many (get_or st.top i false) (get_or st.members i false) ≡ 0 → not a ≡ stays (role_by a b r)
    unfolding stays
    stays_by true b z = refl
    stays_by false true z = refl
    stays_by false false z = absurd (omega arith)

    abbrev is_top : Bool
    is_top = eqb r.under set_level

    abbrev is_ours : Bool
    is_ours = belongs r st.header f.label

    abbrev no : ℕ
    no = label_no_by is_top is_ours r.many (get_or st.top i false) (get_or st.members i false)

    number_by : numbered (cond (eqb no 0) (content_no f.label f.content) no) at f.label ≡ first_of pl (line_rules (role_by is_top is_ours r) p ms k f)
    number_by =
        sym (or-numbers no (content_no f.label f.content) at f.label)
        ∙ (ap₂ or_else (sym (label-is pl is_top is_ours r ms k f.label at (get_or st.top i false)
        (get_or st.members i false) e (seen-so st.top ms.top s.top) (seen-so st.members ms.members s.members)))
        (sym (content-is pl p k at f e))
        ∙ (sym (first-append pl (label_faults (role_by is_top is_ours r) ms k f.label) (content_faults p k f) (real-label (role_by is_top is_ours r) ms k f.label))
        ∙ ap (first_of pl) (sym (rules-by is_top is_ours r p ms k f))))

    role-so : role (some r) ms.header f.label ≡ role_by is_top is_ours r
    unfolding role role_of
    role-so = ap (λ (h : ℕ). role_by is_top (belongs r h f.label) r) (sym s.header)

    known-line : LineAgrees pl (role (some r) ms.header f.label) p st ms k at f (At i r)
    unfolding line_no label_no place_no next_flagged stays_in
    known-line = record {
      number-so = number_by ∙ ap (λ (o : Role). first_of pl (line_rules o p ms k f)) (sym role-so);
      state-so = λ z. subst (λ (o : Role). Agrees pl (next_flagged (At i r) st at f.label) (next o ms k f.label))
          (sym role-so) (next-by is_top is_ours (placed no (content_no f.label f.content) at z));
      stays-so = λ z. stays_by is_top is_ours (placed no (content_no f.label f.content) at z) ∙ ap stays (sym role-so);
    }

  line-agrees : (settype : SetType) (found : Found) → row_of settype f.label ≡ found → LineAgrees pl (role (find (table settype) f.label) ms.header f.label) p st ms k at f found
  unfolding role
  line-agrees settype NoRow q =
      let w : find (table settype) f.label ≡ none = find-is (table settype) f.label ∙ ap just_row q in
      subst (λ (o : Option Row). LineAgrees pl (role o ms.header f.label) p st ms k at f NoRow) (sym w) unknown-line
  line-agrees settype (At i r) q =
      let w : find (table settype) f.label ≡ some r = find-is (table settype) f.label ∙ ap just_row q in
      subst (λ (o : Option Row). LineAgrees pl (role o ms.header f.label) p st ms k at f (At i r)) (sym w)
      (known-line i r (found_number (table settype) (row_label f.label) i r q) (row_below settype (row_label f.label) i r q))

-- ---- one line more

-- the rules over some lines, with places found by `pl`; `high` is what 24 finds in the set, asked after 16 if 9206 was seen at set level
module _ (settype : SetType) (pl : ℕ → Spot → ℕ) (high : Refusal) where
  abbrev pub profile_of : Profile
  profile_of = record { set_type = Some settype }

  -- 11 to 15 of the lines fs, then 16: set level, then groups and pairs
  abbrev lacks_found : G.State → ℕ → List Field → Refusal → Refusal
  lacks_found ms k fs lack =
      or_else (first_of pl (rules_from profile_of ms k fs))
      (or_else (first_of pl (lacking (table settype) set_level 0 (among (after (table settype) ms k (labels fs)).top)))
      (or_else lack (first_of pl (groups_lacking (table settype) ms k (labels fs)))))

  -- 24, if 9206 is among the labels of the lines fs or of those before them
  abbrev high_found : G.State → ℕ → List Field → Refusal
  high_found ms k fs = cond (elem 9206 (after (table settype) ms k (labels fs)).top) high no_refusal

  -- 11 to 16, then 24
  abbrev pub pass_finds : G.State → ℕ → List Field → Refusal → Refusal
  pass_finds ms k fs lack = or_else (lacks_found ms k fs lack) (high_found ms k fs)

  lack-joins : (st : Flagged) (ms : G.State) → Agrees pl st ms → (lack : Refusal) (b : Bool) (m : List Fault)
      → or_else (lack_then b settype st lack) (first_of pl m) ≡ or_else lack (first_of pl (cond b [] (open_lacking (table settype) ms) ++ m))
  unfolding first_lack
  lack-joins st ms sm lack true m = refl
  lack-joins st ms sm lack false m =
      sym (or_assoc lack (open_lack settype st.header st.place st.members) (first_of pl m))
      ∙ ap (or_else lack) (ap (λ (x : Refusal). or_else x (first_of pl m)) (open_is settype pl st ms sm)
      ∙ sym (first-append pl (open_lacking (table settype) ms) m (real-open (table settype) ms)))

  -- one line more, if the rest is known
  pass_step : (f : Field) (fs : List Field) (at k : ℕ) (st : Flagged) (ms : G.State) (lack : Refusal) → Agrees pl st ms
      → (found : Found) → LineAgrees pl (role_in profile_of ms f) profile_of st ms k at f found
      → (F : Flagged → Refusal → Refusal)
      → ((st' : Flagged) (ms' : G.State) (lack' : Refusal) → Agrees pl st' ms' → F st' lack' ≡ pass_finds ms' (k + 1) fs lack')
      → cond (eqb (line_no found st f.label f.content) 0) (F (next_flagged found st at f.label) (lack_then (stays_in found) settype st lack))
      (refusal (line_no found st f.label f.content) at f.label)
      ≡ pass_finds ms k (f ∷ fs) lack
  unfolding rules_from after groups_lacking
  pass_step f fs at k st ms lack sm found ls F ih = go (eqb no 0) refl
    where
      no : ℕ
      no = line_no found st f.label f.content

      o : Role
      o = role_in profile_of ms f

      lr : List Fault
      lr = line_rules (role_in profile_of ms f) profile_of ms k f

      then : G.State
      then = next (role_in profile_of ms f) ms k f.label

      rest : List Fault
      rest = rules_from profile_of then (k + 1) fs

      tops : Refusal
      tops = first_of pl (lacking (table settype) set_level 0 (among (after (table settype) then (k + 1) (labels fs)).top))

      groups : List Fault
      groups = cond (stays (role_in profile_of ms f)) [] (open_lacking (table settype) ms)

      more : List Fault
      more = groups_lacking (table settype) then (k + 1) (labels fs)

      rules : first_of pl (lr ++ rest) ≡ or_else (numbered no at f.label) (first_of pl rest)
      rules = first-append pl lr rest (real-line (role_in profile_of ms f) profile_of ms k f) ∙ ap (λ (x : Refusal). or_else x (first_of pl rest)) (sym ls.number-so)

      last : Refusal
      last = high_found then (k + 1) fs

      go : (b : Bool) → eqb no 0 ≡ b → cond b (F (next_flagged found st at f.label) (lack_then (stays_in found) settype st lack)) (refusal no at f.label)
          ≡ or_else (or_else (first_of pl (lr ++ rest)) (or_else tops (or_else lack (first_of pl (groups ++ more))))) last
      go true q =
          let z : no ≡ 0 = eqb-true no 0 q in
          let r : first_of pl (lr ++ rest) ≡ first_of pl rest =
          rules ∙ (ap (λ (x : Refusal). or_else x (first_of pl rest)) (numbered-none no at f.label z) ∙ or-none (first_of pl rest)) in
          ih (next_flagged found st at f.label) then (lack_then (stays_in found) settype st lack) (ls.state-so z)
          ∙ ap₂ (λ (x y : Refusal). or_else (or_else x (or_else tops y)) last) (sym r)
          (ap (λ (b : Bool). or_else (lack_then b settype st lack) (first_of pl more)) (ls.stays-so z) ∙ lack-joins st ms sm lack (stays o) more)
      go false q =
          let z : no ≡ 0 → ⊥ = eqb-false no 0 q in
          let r : first_of pl (lr ++ rest) ≡ refusal no at f.label =
          rules ∙ (ap (λ (x : Refusal). or_else x (first_of pl rest)) (numbered-bad no at f.label z) ∙ or-bad (refusal no at f.label) (first_of pl rest) z) in
          sym (ap (λ (x : Refusal). or_else (or_else x (or_else tops (or_else lack (first_of pl (groups ++ more))))) last) r
          ∙ (ap (λ (x : Refusal). or_else x last) (or-bad (refusal no at f.label) _ z) ∙ or-bad (refusal no at f.label) last z))

  -- the same, with the line's row looked up
  pub pass-line : (f : Field) (fs : List Field) (at k : ℕ) (st : Flagged) (ms : G.State) (lack : Refusal) → Agrees pl st ms → at ≡ pl k start
      → (F : Flagged → Refusal → Refusal)
      → ((st' : Flagged) (ms' : G.State) (lack' : Refusal) → Agrees pl st' ms' → F st' lack' ≡ pass_finds ms' (k + 1) fs lack')
      → cond (eqb (line_no (row_of settype f.label) st f.label f.content) 0)
      (F (next_flagged (row_of settype f.label) st at f.label) (lack_then (stays_in (row_of settype f.label)) settype st lack))
      (refusal (line_no (row_of settype f.label) st f.label f.content) at f.label)
      ≡ pass_finds ms k (f ∷ fs) lack
  pass-line f fs at k st ms lack sm e F ih =
      pass_step f fs at k st ms lack sm (row_of settype f.label) (line-agrees pl st ms sm k at e profile_of f settype (row_of settype f.label) refl) F ih

  -- after the last line
  pub pass-finish : (k : ℕ) (st : Flagged) (ms : G.State) (lack : Refusal) → 0 ≡ pl 0 start → Agrees pl st ms → finish_then settype st lack high ≡ pass_finds ms k [] lack
  unfolding finish set_lack first_lack rules_from after groups_lacking
  pass-finish k st ms lack z sm =
      ap₂ or_else
      (ap₂ or_else
      (ap (λ (has : ℕ → Bool). lack_all has (required_labels settype)) (λ i l. sm.top.same l i) ∙ set-lack (among ms.top) pl z settype)
      (ap (or_else lack) (open_is settype pl st ms sm))
      ∙ sym (or-none _))
      (ap (λ (b : Bool). cond b high no_refusal) (sm.top.same 9206))

-- ---- all lines of a set

-- 11 to 16 over all lines of a set
lacks-found : (settype : SetType) (pl : ℕ → Spot → ℕ) (high : Refusal) (fs : List Field)
    → lacks_found settype pl high first 0 fs no_refusal ≡ first_of pl (faults_after_start (of_type settype) fs)
unfolding missing_faults
lacks-found settype pl high fs =
    let p : Profile = of_type settype in
    let tops : List Fault = lacking (table settype) set_level 0 (among (after (table settype) first 0 (labels fs)).top) in
    let groups : List Fault = groups_lacking (table settype) first 0 (labels fs) in
    ap (λ (x : Refusal). or_else (first_of pl (rules_from p first 0 fs)) (or_else (first_of pl tops) x)) (or-none (first_of pl groups))
    ∙ (ap (or_else (first_of pl (rules_from p first 0 fs))) (sym (first-append pl tops groups (real-lacking (table settype) set_level 0 (among (after (table settype) first 0 (labels fs)).top))))
    ∙ sym (first-append pl (rules_from p first 0 fs) (tops ++ groups) (real-rules p first 0 fs)))

-- a set with seven bits has seen 9206, so 24 is asked whenever it counts
high-found : (settype : SetType) (pl : ℕ → Spot → ℕ) (high : Refusal) (fs : List Field) → high ≡ first_of pl (high_faults fs)
    → high_found settype pl high first 0 fs ≡ first_of pl (high_faults fs)
high-found settype pl high fs e = go (elem 9206 (after (table settype) first 0 (labels fs)).top) refl (seven_bit fs) refl
  where
    go : (b : Bool) → elem 9206 (after (table settype) first 0 (labels fs)).top ≡ b → (c : Bool) → seven_bit fs ≡ c → cond b high no_refusal ≡ first_of pl (high_faults fs)
    go true q c z = e
    go false q true z = absurd (true≢false (sym (seen-9206 settype first 0 fs z) ∙ q))
    go false q false z = sym (first-high pl fs ∙ rw z)

-- what the pass finds over all lines of a set, if `high` is 24 whenever 11 to 15 find nothing
pub pass-finds : (settype : SetType) (pl : ℕ → Spot → ℕ) (high : Refusal) (fs : List Field) → (rules_from (of_type settype) first 0 fs ≡ [] → high ≡ first_of pl (high_faults fs))
    → pass_finds settype pl high first 0 fs no_refusal ≡ first_of pl (faults_then_high (of_type settype) fs)
pass-finds settype pl high fs h =
    let p : Profile = of_type settype in
    ap (λ (x : Refusal). or_else x (high_found settype pl high first 0 fs)) (lacks-found settype pl high fs)
    ∙ (or-then (first_of pl (faults_after_start p fs)) (λ z.
    let none : faults_after_start p fs ≡ [] = first-none pl (faults_after_start p fs) (real-after-start p fs) z in
    high-found settype pl high fs (h (append-none (rules_from p first 0 fs) _ none).0))
    ∙ sym (first-then-high pl p fs))
