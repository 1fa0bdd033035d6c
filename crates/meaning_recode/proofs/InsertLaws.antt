-- A line 9206 put in after line 2 of a set that has none keeps all rules but the sum.
-- Each later line is judged as before. Line 2 and the new line are at set level and no row stands under them, so the line after them has the same role with and without the new line;
-- from there on the two states differ in line numbers and in whether 9206 was seen, which decides nothing of a set that has no other 9206.
-- Assumes nothing.
use mathlib.Core.Path.{◌≡◌, refl, sym, ap, ◌∙◌, subst}
use mathlib.Core.Bool.{Bool, true, false, cond, not, ◌&&◌, ◌||◌, true≢false}
use mathlib.Core.List.{List, [], ◌∷◌, ◌++◌, cons≢nil}
use mathlib.Core.Option.{Option, none, some}
use Prim.Native.Nat.{ℕ, ◌+◌, ◌%◌}
use native.Mathlib.Omega.{arith}
use lib.Dec.{eqb}
use borrow.Author.Tests.{eqb-true, eqb-false, eq-eqb, ne_eqb}
use Rattle.meaning.specs.declared.Row.{Row}
use Rattle.meaning.specs.declared.SetType.{SetType}
use Rattle.meaning.specs.declared.SetType.TheVariants.{T6300, T6301, T6302, T6310, T6311}
use Rattle.meaning.specs.Field.{Field, field, labels, elem}
use Rattle.meaning.specs.Refusals.{Fault, at_line, ask, repeated, missing, other_version, bad_content}
use Rattle.meaning.specs.Tables.{table, set_level, is_pair_label, row_label, find_in, find}
use Rattle.meaning.specs.Groups.{State, first, Role, unknown, strayed, at_set_level, member, no_header, names_row, belongs, role_of, role, stays, next, after, label_faults}
use Rattle.meaning.specs.Missing.{on_condition, needed, rows_under, ascending, missing_label, lacking_of, lacking, among, open_lacking, groups_lacking, missing_faults}
use Rattle.meaning.specs.Rules.{Profile, profile, table_of, rows_of, fits, current, content_faults, content_rules}
use Rattle.meaning.specs.Rules.{line_rules, role_in, rules_from, start_faults, says_seven_bit, seven_bit, high_faults}
use Rattle.meaning.specs.Computes.{computes}
use Rattle.meaning.proofs.Bools.{Every, and_left, and_right, not-true}
use Rattle.meaning.proofs.FaultLaws.{append-none, none_both, ask-last, ask-none}
use Rattle.meaning.proofs.RowLaws.{all_rows, found}
use Rattle.meaning.proofs.RuleLaws.{Ruled, begins-of, not-seven, high-none}
use Rattle.meaning.proofs.TypeLaws.{known-type}
use Rattle.meaning.proofs.WriterLaws.{Single, role-at-set-level}
use Rattle.meaning.proofs.SevenLaws.{seven-none, every-none, single-9206}
use Rattle.meaning_recode.specs.declared.Code.{Code}
use Rattle.meaning_recode.specs.declared.Code.TheVariants.{Page437, Page1252}
use Rattle.meaning_recode.specs.Recoding.{charset_of, has_charset, with_charset}
use Rattle.meaning.specs.Results.{Known}

-- ---- labels that nothing stands under

-- the row is not for a member after a line with label h; under 6330 stands the row of the label one higher
abbrev apart : ℕ → Row → Bool
apart h r = not (eqb r.under h) && (not (eqb r.under names_row) || not (eqb r.label (row_label (h + 1))))

-- after such a line no member follows, and nothing is missing
record Barren (rs : List Row) (h : ℕ) : Type 0 where
  all_apart : all_rows (apart h) rs ≡ true
  none-under : rows_under rs h ≡ []

no_member : (rs : List Row) (h l : ℕ) (r : Row) → Barren rs h → find_in rs (row_label l) ≡ some r → belongs r h l ≡ false
unfolding belongs
no_member rs h l r b q = let x = found (apart h) rs (row_label l) r q b.all_apart in go (eqb r.under names_row) refl (eqb (h + 1) l) refl x.0 x.1
  where
    go : (a : Bool) → eqb r.under names_row ≡ a → (c : Bool) → eqb (h + 1) l ≡ c → not (eqb r.under h) && (not a || not (eqb r.label (row_label (h + 1)))) ≡ true
        → r.label ≡ row_label l → cond a c (eqb r.under h) ≡ false
    go true u true v t e =
        let m : eqb r.label (row_label (h + 1)) ≡ true = eq-eqb _ _ (e ∙ ap row_label (sym (eqb-true _ _ v))) in
        let z : false ≡ true = rw m at (and_right (not (eqb r.under h)) _ t) in
        absurd (true≢false (sym z))
    go true u false v t e = refl
    go false u c v t e = not-true _ (and_left (not (eqb r.under h)) _ t)

none-either : (b : Bool) (xs : List Fault) → xs ≡ [] → cond b [] xs ≡ []
none-either true xs e = refl
none-either false xs e = e

lacks-nothing : (rs : List Row) (st : State) → Barren rs st.header → open_lacking rs st ≡ []
unfolding open_lacking lacking ascending lacking_of
lacks-nothing rs st b = none-either (eqb st.header no_header) _ (rw b.none-under)

-- ---- two states that differ in line numbers, in whether 9206 was seen, and in what was opened last if nothing stands under it

-- what was opened last
data Opened (rs : List Row) (h h' : ℕ) : Type 0 where
  same : h' ≡ h → Opened rs h h'
  barren : Barren rs h → Barren rs h' → Opened rs h h'

-- the same labels but 9206 stand at set level
abbrev SameTop : State → State → Type 0
SameTop st st' = (l : ℕ) → (l ≡ 9206 → ⊥) → elem l st'.top ≡ elem l st.top

record Near (rs : List Row) (st st' : State) : Type 0 where
  open-so : Opened rs st.header st'.header
  members-so : st'.members ≡ st.members
  top-so : SameTop st st'

-- a member joins only what is open in both
abbrev Joins : Role → ℕ → ℕ → Type 0
Joins unknown h h' = Unit {0}
Joins strayed h h' = Unit {0}
Joins (at_set_level r) h h' = Unit {0}
Joins (member r) h h' = h' ≡ h

-- a line has the same role after both, and is no member if they differ
role-near : (rs : List Row) (h h' l : ℕ) → Opened rs h h' → Joins (role (find rs l) h l) h h' × (role (find rs l) h l ≡ role (find rs l) h' l)
unfolding role role_of find
role-near rs h h' l (same q) = (joins (role (find rs l) h l), ap (λ (x : ℕ). role (find rs l) x l) (sym q))
  where
    joins : (o : Role) → Joins o h h'
    joins unknown = tt
    joins strayed = tt
    joins (at_set_level r) = tt
    joins (member r) = q
role-near rs h h' l (barren b b') = go (find_in rs (row_label l)) refl
  where
    go : (x : Option Row) → find_in rs (row_label l) ≡ x → Joins (role x h l) h h' × (role x h l ≡ role x h' l)
    go none q = (tt, refl)
    go (some r) q = rw (no_member rs h l r b q, no_member rs h' l r b' q) (by_level (eqb r.under set_level), refl)
      where
        by_level : (a : Bool) → Joins (cond a (at_set_level r) strayed) h h'
        by_level true = tt
        by_level false = tt

next-near : (rs : List Row) (o : Role) (st st' : State) (k k' l : ℕ) → Joins o st.header st'.header → Near rs st st' → Near rs (next o st k l) (next o st' k' l)
unfolding next elem
next-near rs unknown st st' k k' l j n = record { open-so = same refl; members-so = refl; top-so = n.top-so }
next-near rs strayed st st' k k' l j n = record { open-so = same refl; members-so = refl; top-so = n.top-so }
next-near rs (at_set_level r) st st' k k' l j n = record { open-so = same refl; members-so = refl; top-so = λ m ne. ap (λ (b : Bool). eqb m r.label || b) (n.top-so m ne) }
next-near rs (member r) st st' k k' l j n = record {
  open-so = same (ap (λ (h : ℕ). cond (is_pair_label l) no_header h) j);
  members-so = ap (λ (ms : List ℕ). r.label ∷ ms) n.members-so;
  top-so = n.top-so;
}

-- ---- 11 to 15

-- not the row of 9206 at set level
abbrev Other : Role → Type 0
Other unknown = Unit {0}
Other strayed = Unit {0}
Other (at_set_level r) = r.label ≡ 9206 → ⊥
Other (member r) = Unit {0}

-- only 9206 has the row of 9206
row-9206 : (l : ℕ) → row_label l ≡ 9206 → l ≡ 9206
unfolding row_label
row-9206 l e = go (is_pair_label l) e
  where
    go : (b : Bool) → cond b (6330 + l % 2) l ≡ 9206 → l ≡ 9206
    go true q = absurd (omega arith)
    go false q = q

all_true : (rs : List Row) → all_rows (λ r. true) rs ≡ true
all_true [] = refl
all_true (r ∷ rs) = all_true rs

other_row : (rs : List Row) (h l : ℕ) → (l ≡ 9206 → ⊥) → Other (role (find rs l) h l)
unfolding role role_of find
other_row rs h l n = go (find_in rs (row_label l)) refl
  where
    go : (x : Option Row) → find_in rs (row_label l) ≡ x → Other (role x h l)
    go none q = tt
    go (some r) q = by_level (eqb r.under set_level) (belongs r h l)
      where
        by_level : (a b : Bool) → Other (cond a (at_set_level r) (cond b (member r) strayed))
        by_level true b = λ e. n (row-9206 l (sym (found (λ r. true) rs (row_label l) r q (all_true rs)).1 ∙ e))
        by_level false true = tt
        by_level false false = tt

label-near : (rs : List Row) (o : Role) (st st' : State) (k k' l : ℕ) → Other o → Near rs st st' → label_faults o st k l ≡ [] → label_faults o st' k' l ≡ []
unfolding label_faults
label-near rs unknown st st' k k' l h n e = absurd (cons≢nil e)
label-near rs strayed st st' k k' l h n e = absurd (cons≢nil e)
label-near rs (at_set_level r) st st' k k' l h n e = let t = ask-last (r.many || not (elem r.label st.top)) _ e in rw (n.top-so r.label h, t)
label-near rs (member r) st st' k k' l h n e = let t = ask-last (r.many || not (elem r.label st.members)) _ e in rw (n.members-so, t)

-- a content has no fault wherever its line stands
content-any : (p : Profile) (k k' : ℕ) (f : Field) → content_faults p k f ≡ [] → content_faults p k' f ≡ []
unfolding content_faults
content-any p k k' f e = go (fits p f) (current p f) e
  where
    go : (a b : Bool) → cond a (ask b (at_line other_version k f.label)) (at_line bad_content k f.label ∷ []) ≡ []
        → cond a (ask b (at_line other_version k' f.label)) (at_line bad_content k' f.label ∷ []) ≡ []
    go true true q = refl
    go true false q = absurd (cons≢nil q)
    go false b q = absurd (cons≢nil q)

content-rules-any : (o : Role) (p : Profile) (k k' : ℕ) (f : Field) → content_rules o p k f ≡ [] → content_rules o p k' f ≡ []
unfolding content_rules
content-rules-any unknown p k k' f e = refl
content-rules-any strayed p k k' f e = content-any p k k' f e
content-rules-any (at_set_level r) p k k' f e = content-any p k k' f e
content-rules-any (member r) p k k' f e = content-any p k k' f e

-- no line is 9206
abbrev pub NoCharset : List Field → Type 0
NoCharset fs = Every (λ f. f.label ≡ 9206 → ⊥) fs

rules-near : (p : Profile) (st st' : State) (k k' : ℕ) (fs : List Field) → NoCharset fs → Near (rows_of p) st st'
    → rules_from p st k fs ≡ [] → rules_from p st' k' fs ≡ []
unfolding rules_from line_rules
rules-near p st st' k k' [] h n e = refl
rules-near p st st' k k' (f ∷ fs) h n e =
    let o : Role = role_in p st f in
    let a = append-none (line_rules o p st k f) _ e in
    let b = append-none (label_faults o st k f.label) _ a.0 in
    let j = role-near (rows_of p) st.header st'.header f.label n.open-so in
    subst (λ (x : Role). line_rules x p st' k' f ++ rules_from p (next x st' k' f.label) (k' + 1) fs ≡ []) j.1
    (none_both _ _
    (none_both _ _ (label-near (rows_of p) o st st' k k' f.label (other_row (rows_of p) st.header f.label h.0) n b.0) (content-rules-any o p k k' f b.1))
    (rules-near p (next o st k f.label) (next o st' k' f.label) (k + 1) (k' + 1) fs h.1 (next-near (rows_of p) o st st' k k' f.label j.0 n) a.1))

-- ---- 16

-- a group lacks nothing wherever its header stands
lacking-any : (rs : List Row) (h k k' : ℕ) (has : ℕ → Bool) → lacking_of rs h k has ≡ [] → lacking_of rs h k' has ≡ []
unfolding lacking_of
lacking-any [] h k k' has e = refl
lacking-any (r ∷ rs) h k k' has e =
    let a = ask-none (not (needed r has && not (has r.label))) _ _ e in
    rw a.0 (lacking-any rs h k k' has a.1)

open-near : (rs : List Row) (st st' : State) → Near rs st st' → open_lacking rs st ≡ [] → open_lacking rs st' ≡ []
unfolding open_lacking lacking
open-near rs st st' n e = by-open n.open-so
  where
    go : (b : Bool) → cond b [] (lacking_of (ascending (rows_under rs st.header)) st.header st.line (among st.members)) ≡ []
        → cond b [] (lacking_of (ascending (rows_under rs st.header)) st.header st'.line (among st.members)) ≡ []
    go true q = refl
    go false q = lacking-any (ascending (rows_under rs st.header)) st.header st.line st'.line (among st.members) q

    by-open : Opened rs st.header st'.header → open_lacking rs st' ≡ []
    by-open (same q) = rw (q, n.members-so) (go (eqb st.header no_header) e)
    by-open (barren b b') = lacks-nothing rs st' b'

groups-near : (rs : List Row) (st st' : State) (k k' : ℕ) (ls : List ℕ) → Near rs st st' → groups_lacking rs st k ls ≡ [] → groups_lacking rs st' k' ls ≡ []
unfolding groups_lacking
groups-near rs st st' k k' [] n e = open-near rs st st' n e
groups-near rs st st' k k' (l ∷ ls) n e =
    let o : Role = role (find rs l) st.header l in
    let a = append-none (cond (stays o) [] (open_lacking rs st)) _ e in
    let j = role-near rs st.header st'.header l n.open-so in
    subst (λ (x : Role). cond (stays x) [] (open_lacking rs st') ++ groups_lacking rs (next x st' k' l) (k' + 1) ls ≡ []) j.1
    (none_both _ _ (go (stays o) a.0) (groups-near rs (next o st k l) (next o st' k' l) (k + 1) (k' + 1) ls (next-near rs o st st' k k' l j.0 n) a.1))
  where
    go : (b : Bool) → cond b [] (open_lacking rs st) ≡ [] → cond b [] (open_lacking rs st') ≡ []
    go true q = refl
    go false q = open-near rs st st' n q

after-near : (rs : List Row) (st st' : State) (k k' : ℕ) (ls : List ℕ) → Near rs st st' → SameTop (after rs st k ls) (after rs st' k' ls)
unfolding after
after-near rs st st' k k' [] n = n.top-so
after-near rs st st' k k' (l ∷ ls) n =
    let o : Role = role (find rs l) st.header l in
    let j = role-near rs st.header st'.header l n.open-so in
    subst (λ (x : Role). SameTop (after rs (next o st k l) (k + 1) ls) (after rs (next x st' k' l) (k' + 1) ls)) j.1
    (after-near rs (next o st k l) (next o st' k' l) (k + 1) (k' + 1) ls (next-near rs o st st' k k' l j.0 n))

-- the row of 9206 is not required
abbrev optional_charset : List Row → Bool
optional_charset [] = true
optional_charset (r ∷ rs) = (not (eqb r.label 9206) || not r.required) && optional_charset rs

-- whether 9206 stands at set level decides nothing there: it is not required, and no other label is required on its condition
top-lacking : (rs : List Row) (k : ℕ) (has has' : ℕ → Bool) → optional_charset rs ≡ true → ((l : ℕ) → (l ≡ 9206 → ⊥) → has' l ≡ has l)
    → lacking_of rs set_level k has ≡ [] → lacking_of rs set_level k has' ≡ []
unfolding lacking_of needed on_condition
top-lacking [] k has has' w h e = refl
top-lacking (r ∷ rs) k has has' w h e =
    let a = ask-none (not (needed r has && not (has r.label))) _ _ e in
    let rest : lacking_of rs set_level k has' ≡ [] = top-lacking rs k has has' (and_right (not (eqb r.label 9206) || not r.required) _ w) h a.1 in
    rw (h 8420 (λ q. omega arith), h 8461 (λ q. omega arith), h 8462 (λ q. omega arith), h 8438 (λ q. omega arith))
    (go (eqb r.label 9206) refl (and_left (not (eqb r.label 9206) || not r.required) _ w) a.0 rest)
  where
    conditions : Bool
    conditions = cond (eqb r.label 8421) (has 8420 || (has 8461 || has 8462)) (cond (eqb r.label 8437) (has 8438) false)

    go : (b : Bool) → eqb r.label 9206 ≡ b → not b || not r.required ≡ true
        → not ((r.required || conditions) && not (has r.label)) ≡ true
        → lacking_of rs set_level k has' ≡ []
        → ask (not ((r.required || conditions) && not (has' r.label))) (at_line missing k (missing_label set_level r.label)) ++ lacking_of rs set_level k has' ≡ []
    go true p q t rest =
        let l : r.label ≡ 9206 = eqb-true _ _ p in
        rw (not-true r.required q, ne_eqb r.label 8421 (λ z. omega arith), ne_eqb r.label 8437 (λ z. omega arith)) rest
    go false p q t rest = rw (h r.label (eqb-false _ _ p), t) rest

-- ---- what is needed of a table

record CharsetTable (rs : List Row) : Type 0 where
  sum_row : Single 8100 (find rs 8100)
  charset-row : Single 9206 (find rs 9206)
  optional : optional_charset (ascending (rows_under rs set_level)) ≡ true
  under-sum : Barren rs 8100
  under-charset : Barren rs 9206

-- each of the five tables has it, by computation
single-8100 : (t : SetType) → Single 8100 (find (table t) 8100)
unfolding computes
single-8100 T6300 = record { known = _; is = refl; named-so = refl; top-level = refl; one = refl }
single-8100 T6301 = record { known = _; is = refl; named-so = refl; top-level = refl; one = refl }
single-8100 T6302 = record { known = _; is = refl; named-so = refl; top-level = refl; one = refl }
single-8100 T6310 = record { known = _; is = refl; named-so = refl; top-level = refl; one = refl }
single-8100 T6311 = record { known = _; is = refl; named-so = refl; top-level = refl; one = refl }

charset-optional : (t : SetType) → optional_charset (ascending (rows_under (table t) set_level)) ≡ true
unfolding computes
charset-optional T6300 = refl
charset-optional T6301 = refl
charset-optional T6302 = refl
charset-optional T6310 = refl
charset-optional T6311 = refl

barren-8100 : (t : SetType) → Barren (table t) 8100
unfolding computes
barren-8100 T6300 = record { all_apart = refl; none-under = refl }
barren-8100 T6301 = record { all_apart = refl; none-under = refl }
barren-8100 T6302 = record { all_apart = refl; none-under = refl }
barren-8100 T6310 = record { all_apart = refl; none-under = refl }
barren-8100 T6311 = record { all_apart = refl; none-under = refl }

barren-9206 : (t : SetType) → Barren (table t) 9206
unfolding computes
barren-9206 T6300 = record { all_apart = refl; none-under = refl }
barren-9206 T6301 = record { all_apart = refl; none-under = refl }
barren-9206 T6302 = record { all_apart = refl; none-under = refl }
barren-9206 T6310 = record { all_apart = refl; none-under = refl }
barren-9206 T6311 = record { all_apart = refl; none-under = refl }

charset-table : (t : SetType) → CharsetTable (table t)
charset-table t = record { sum_row = single-8100 t; charset-row = single-9206 t; optional = charset-optional t; under-sum = barren-8100 t; under-charset = barren-9206 t }

-- ---- the new line

abbrev new_line : Code → Field
new_line w = field 9206 (charset_of w)

new-content : (w : Code) (r : Row) (p : Profile) (k : ℕ) → content_rules (at_set_level r) p k (new_line w) ≡ []
unfolding computes
new-content Page437 r p k = refl
new-content Page1252 r p k = refl

new-label : (r : Row) (st : State) (k l : ℕ) → r.label ≡ l → elem l st.top ≡ false → label_faults (at_set_level r) st k l ≡ []
unfolding label_faults
new-label r st k l q e = rw (q, e) (either r.many)
  where
    either : (b : Bool) → ask (b || true) (at_line repeated k l) ≡ []
    either true = refl
    either false = refl

not-elem : (l x : ℕ) (ls : List ℕ) → (l ≡ x → ⊥) → elem l (x ∷ ls) ≡ elem l ls
unfolding elem
not-elem l x ls n = rw (ne_eqb l x n)

-- 9206 was not seen before a line, and is not its label: it is not seen after it
unseen : (rs : List Row) (st : State) (k l : ℕ) → (l ≡ 9206 → ⊥) → elem 9206 st.top ≡ false → elem 9206 (next (role (find rs l) st.header l) st k l).top ≡ false
unfolding next
unseen rs st k l n e = go (role (find rs l) st.header l) (other_row rs st.header l n)
  where
    go : (o : Role) → Other o → elem 9206 (next o st k l).top ≡ false
    go unknown h = e
    go strayed h = e
    go (at_set_level r) h = not-elem 9206 r.label st.top (λ q. h (sym q)) ∙ e
    go (member r) h = e

-- after line 2, in a set that has no 9206 so far
record AfterSum (st : State) : Type 0 where
  at_sum : st.header ≡ 8100
  none-joined : st.members ≡ []
  not_seen : elem 9206 st.top ≡ false

-- what the line 9206 does there
module _ (rs : List Row) (t : CharsetTable rs) (st : State) (a : AfterSum st) where
  abbrev its-row : Row
  its-row = t.charset-row.known

  its-role : role (find rs 9206) st.header 9206 ≡ at_set_level its-row
  its-role = role-at-set-level (find rs 9206) its-row st.header 9206 t.charset-row.is t.charset-row.top-level

  near : (k : ℕ) → Near rs st (next (at_set_level its-row) st k 9206)
  unfolding next
  near k = record {
    open-so = barren (subst (Barren rs) (sym a.at_sum) t.under-sum) t.under-charset;
    members-so = sym a.none-joined;
    top-so = λ l n. not-elem l its-row.label st.top (λ q. n (q ∙ t.charset-row.named-so));
  }

  insert-groups : (k : ℕ) (ls : List ℕ) → groups_lacking rs st k ls ≡ [] → groups_lacking rs st k (9206 ∷ ls) ≡ []
  unfolding groups_lacking
  insert-groups k ls e =
      subst (λ (x : Role). cond (stays x) [] (open_lacking rs st) ++ groups_lacking rs (next x st k 9206) (k + 1) ls ≡ []) (sym its-role)
      (none_both _ _ (none-either (stays (at_set_level its-row)) _ (lacks-nothing rs st (subst (Barren rs) (sym a.at_sum) t.under-sum)))
      (groups-near rs st (next (at_set_level its-row) st k 9206) k (k + 1) ls (near k) e))

  insert-after : (k : ℕ) (ls : List ℕ) → SameTop (after rs st k ls) (after rs st k (9206 ∷ ls))
  unfolding after
  insert-after k ls =
      subst (λ (x : Role). SameTop (after rs st k ls) (after rs (next x st k 9206) (k + 1) ls)) (sym its-role)
      (after-near rs st (next (at_set_level its-row) st k 9206) k (k + 1) ls (near k))

insert-rules : (w : Code) (p : Profile) (t : CharsetTable (rows_of p)) (st : State) (a : AfterSum st) (k : ℕ) (fs : List Field) → NoCharset fs
    → rules_from p st k fs ≡ [] → rules_from p st k (new_line w ∷ fs) ≡ []
unfolding rules_from line_rules
insert-rules w p t st a k fs h e =
    let r : Row = t.charset-row.known in
    subst (λ (x : Role). line_rules x p st k (new_line w) ++ rules_from p (next x st k 9206) (k + 1) fs ≡ []) (sym (its-role (rows_of p) t st a))
    (none_both _ _ (none_both _ _ (new-label r st k 9206 t.charset-row.named-so a.not_seen) (new-content w r p k))
    (rules-near p st (next (at_set_level r) st k 9206) k (k + 1) fs h (near (rows_of p) t st a k) e))

-- ---- 24

not-seven-new : (w : Code) → says_seven_bit (new_line w) ≡ false
unfolding computes
not-seven-new Page437 = refl
not-seven-new Page1252 = refl

-- the set is not one with seven bits
insert-high : (w : Code) (f g : Field) (fs : List Field) → NoCharset (f ∷ g ∷ fs) → high_faults (f ∷ g ∷ new_line w ∷ fs) ≡ []
unfolding seven_bit
insert-high w f g fs h = high-none (f ∷ g ∷ new_line w ∷ fs) (λ b. absurd (true≢false (sym b ∙ no)))
  where
    no : seven_bit (f ∷ g ∷ new_line w ∷ fs) ≡ false
    no = rw (not-seven f h.0, not-seven g h.1.0, not-seven-new w) (seven-none fs (every-none fs h.1.1))

-- ---- the whole set

pub no-charset : (fs : List Field) → has_charset fs ≡ false → NoCharset fs
unfolding elem
no-charset [] e = tt
no-charset (f ∷ fs) e = go (no-charset fs) (eqb 9206 f.label) refl e
  where
    go : (elem 9206 (labels fs) ≡ false → NoCharset fs) → (b : Bool) → eqb 9206 f.label ≡ b → b || elem 9206 (labels fs) ≡ false
        → (f.label ≡ 9206 → ⊥) × NoCharset fs
    go later true p q = absurd (true≢false q)
    go later false p q = (λ z. eqb-false _ _ p (sym z), later q)

-- the states after line 1 and after line 2
abbrev after_one : List Row → ℕ → State
after_one rs l = next (role (find rs l) no_header l) first 0 l

abbrev after_two : List Row → ℕ → ℕ → State
after_two rs l m = next (role (find rs m) (after_one rs l).header m) (after_one rs l) 1 m

after-sum : (rs : List Row) (l m : ℕ) → CharsetTable rs → (l ≡ 9206 → ⊥) → m ≡ 8100 → AfterSum (after_two rs l m)
unfolding next elem
after-sum rs l m t n e =
    let s = t.sum_row in
    let o = role-at-set-level (find rs m) s.known (after_one rs l).header m (ap (find rs) e ∙ s.is) s.top-level in
    record {
      at_sum = rw o e;
      none-joined = rw o;
      not_seen = unseen rs (after_one rs l) 1 m (λ q. omega arith) (unseen rs first 0 l n refl);
    }

whole-rules : (w : Code) (p : Profile) (f g : Field) (fs : List Field) → CharsetTable (rows_of p) → AfterSum (after_two (rows_of p) f.label g.label)
    → NoCharset fs → rules_from p first 0 (f ∷ g ∷ fs) ≡ [] → rules_from p first 0 (f ∷ g ∷ new_line w ∷ fs) ≡ []
unfolding rules_from
whole-rules w p f g fs t a h e =
    let x = append-none (line_rules (role_in p first f) p first 0 f) _ e in
    let y = append-none (line_rules (role_in p (after_one (rows_of p) f.label) g) p (after_one (rows_of p) f.label) 1 g) _ x.1 in
    none_both _ _ x.0 (none_both _ _ y.0 (insert-rules w p t (after_two (rows_of p) f.label g.label) a 2 fs h y.1))

whole-missing : (rs : List Row) (l m : ℕ) (ls : List ℕ) → CharsetTable rs → AfterSum (after_two rs l m) → missing_faults rs (l ∷ m ∷ ls) ≡ [] → missing_faults rs (l ∷ m ∷ 9206 ∷ ls) ≡ []
unfolding missing_faults lacking groups_lacking after
whole-missing rs l m ls t a e =
    let st : State = after_two rs l m in
    let x = append-none (lacking_of (ascending (rows_under rs set_level)) set_level 0 (among (after rs st 2 ls).top)) _ e in
    let y = append-none (cond (stays (role (find rs l) no_header l)) [] (open_lacking rs first)) _ x.1 in
    let z = append-none (cond (stays (role (find rs m) (after_one rs l).header m)) [] (open_lacking rs (after_one rs l))) _ y.1 in
    none_both _ _
    (top-lacking (ascending (rows_under rs set_level)) 0 (among (after rs st 2 ls).top) (among (after rs st 2 (9206 ∷ ls)).top) t.optional (insert-after rs t st a 2 ls) x.0)
    (none_both _ _ y.0 (none_both _ _ z.0 (insert-groups rs t st a 2 ls z.1)))

-- "gains that line as line 3": all rules hold but the sum, which is brought up to date afterwards
pub insert-charset : (w : Code) (fs : List Field) → has_charset fs ≡ false → Ruled fs → Ruled (with_charset w fs)
unfolding profile start_faults
insert-charset w [] h r = r
insert-charset w (f ∷ []) h r = r
insert-charset w (f ∷ g ∷ fs) h r =
    let b = begins-of (f ∷ g ∷ fs) r.begins in
    let p : Profile = profile (f ∷ g ∷ fs) in
    let k = known-type p.set_type b.type-known in
    let t : CharsetTable (rows_of p) = subst (λ (x : Known). CharsetTable (table_of x)) (sym k.1) (charset-table k.0) in
    let n = no-charset (f ∷ g ∷ fs) h in
    let a = after-sum (rows_of p) f.label g.label t n.0 b.second-label in
    record {
      begins = r.begins;
      each-line = whole-rules w p f g fs t a n.1.1 r.each-line;
      none-missing = whole-missing (rows_of p) f.label g.label (labels fs) t a r.none-missing;
      none-high = insert-high w f g fs n;
    }
