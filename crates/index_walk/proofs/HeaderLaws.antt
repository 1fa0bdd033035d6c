-- In an accepted set the labels alone say which lines are headers and members: `follow`. Each row of the five tables says so, by one computed test for each table.
use mathlib.Core.Path.{◌≡◌, refl, sym, ap, ◌∙◌}
use mathlib.Core.Bool.{Bool, true, false, cond, not, ◌&&◌, ◌||◌, true≢false}
use mathlib.Core.List.{List, [], cons≢nil}
use mathlib.Core.Option.{Option, none, some}
use Prim.Native.Nat.{ℕ, ◌+◌, ◌%◌}
use native.Mathlib.Omega.{arith}
use lib.Dec.{eqb}
use borrow.Author.Tests.{le-leb, eq-eqb, ne_eqb, eqb-true, eqb-false}
use Rattle.meaning.specs.declared.Row.{Row}
use Rattle.meaning.specs.declared.SetType.{SetType}
use Rattle.meaning.specs.declared.SetType.TheVariants.{T6300, T6301, T6302, T6310, T6311}
use Rattle.meaning.specs.Field.{Field}
use Rattle.meaning.specs.Tables.{rows6300, rows6301, rows6302, rows6310, rows6311, table, set_level, is_pair_label, row_label, find_in, find}
use Rattle.meaning.specs.Groups.{State, first, Role, unknown, strayed, at_set_level, member, names_row, belongs, role_of, role, next, label_faults, stays}
use Rattle.meaning.specs.Rules.{Profile, line_rules}
use Rattle.meaning.specs.Index.{header_line}
use Rattle.meaning.proofs.Bools.{and_left, and_right, not-true}
use Rattle.meaning.proofs.RowLaws.{all_rows, found}
use Rattle.index_walk.specs.Walking.{is_header, is_member, header_of, last_after}
use Rattle.index_walk.proofs.GroupLabelLaws.{pair-least, pair-most, header-pair, member-pair}

-- ---- a label's row stands for the same

module _ (l : ℕ) where
  -- 6330 and 6331 stand for the names and the odd labels
  row_same : (is : ℕ → Bool) → (is_pair_label l ≡ true → l % 2 ≡ 0 → is 6330 ≡ is l) → (is_pair_label l ≡ true → l % 2 ≡ 1 → is 6331 ≡ is l) → is (row_label l) ≡ is l
  unfolding row_label
  row_same is even odd = go (is_pair_label l) refl (eqb (l % 2) 0) refl
    where
      go : (b : Bool) → is_pair_label l ≡ b → (d : Bool) → eqb (l % 2) 0 ≡ d → is (cond b (6330 + l % 2) l) ≡ is l
      go false p d q = refl
      go true p true q = let e = eqb-true (l % 2) 0 q in rw e (even p e)
      go true p false q =
          let n = eqb-false (l % 2) 0 q in
          let e : l % 2 ≡ 1 = omega arith in
          rw e (odd p e)

  header_row : is_header (row_label l) ≡ is_header l
  header_row = row_same is_header (λ p e. rw (header-pair l p, e) (header-pair 6330 refl)) (λ p e. rw (header-pair l p, e) (header-pair 6331 refl))

  member-row : is_member (row_label l) ≡ is_member l
  member-row = row_same is_member (λ p e. rw (member-pair l p, e) (member-pair 6330 refl)) (λ p e. rw (member-pair l p, e) (member-pair 6331 refl))

-- only an odd label has the row 6331
odd-row : (l : ℕ) → row_label l ≡ 6331 → (is_pair_label l ≡ true) × (l % 2 ≡ 1)
unfolding row_label
odd-row l = go (is_pair_label l) refl
  where
    go : (b : Bool) → is_pair_label l ≡ b → cond b (6330 + l % 2) l ≡ 6331 → (is_pair_label l ≡ true) × (l % 2 ≡ 1)
    go true p e = (p, omega arith)
    go false p e = absurd (true≢false (sym (ap is_pair_label e) ∙ p))

-- ---- each row of the tables

-- a row at set level has no member's label. Any other has a member's label and stands under a header's, under 6330 only the odd labels
abbrev grouped : Row → Bool
grouped r =
    cond (eqb r.under set_level) (not (is_member r.label))
    (is_member r.label && (not (is_header r.label) && (is_header r.under && (not (eqb r.under names_row) || eqb r.label 6331))))

-- a row at set level has no header's label
abbrev headerless : Row → Bool
headerless r = eqb r.under set_level && not (is_header r.label)

grouped-6300 : all_rows grouped rows6300 ≡ true
unfolding rows6300 is_header is_member
grouped-6300 = refl

grouped-6301 : all_rows grouped rows6301 ≡ true
unfolding rows6301 is_header is_member
grouped-6301 = refl

grouped-6302 : all_rows grouped rows6302 ≡ true
unfolding rows6302 is_header is_member
grouped-6302 = refl

grouped-6310 : all_rows grouped rows6310 ≡ true
unfolding rows6310 is_header is_member
grouped-6310 = refl

-- there 8432 and 8439 stand at set level, so that the rows are not `grouped`
headerless-6311 : all_rows headerless rows6311 ≡ true
unfolding rows6311 is_header is_member
headerless-6311 = refl

-- ---- a line that 11 and 12 let pass

-- it is at set level, or a member in its place
abbrev pub Placed : Role → Type 0
Placed unknown = ⊥
Placed strayed = ⊥
Placed (at_set_level r) = Unit {0}
Placed (member r) = Unit {0}

-- any other breaks one of them
pub placed : (o : Role) (p : Profile) (st : State) (k : ℕ) (f : Field) → line_rules o p st k f ≡ [] → Placed o
unfolding line_rules label_faults
placed unknown p st k f e = cons≢nil e
placed strayed p st k f e = cons≢nil e
placed (at_set_level r) p st k f e = tt
placed (member r) p st k f e = tt

-- What the labels alone give of a line is what its role gives, its header's line; and what was so before the line, as `Kept` says, is so after it.
pub record Goes (Kept : State → ℕ → Type 0) (o : Role) (st : State) (k l last : ℕ) : Type 0 where
  pub header-so : header_of l last ≡ header_line o st
  pub still : Kept (next o st k l) (last_after l (k + 1) last)

-- by the row that is found, which passes a test: at set level, or a member that belongs to the open header
module _ (Kept : State → ℕ → Type 0) (test : Row → Bool) (rs : List Row) (all : all_rows test rs ≡ true) (st : State) (k l last : ℕ)
    (at_top : (r : Row) → test r ≡ true → r.label ≡ row_label l → r.under ≡ set_level → Goes Kept (at_set_level r) st k l last)
    (inside : (r : Row) → test r ≡ true → r.label ≡ row_label l → (r.under ≡ set_level → ⊥) → belongs r st.header l ≡ true → Goes Kept (member r) st k l last) where
  by_row : (r : Row) → find_in rs (row_label l) ≡ some r → Placed (role_of r st.header l) → Goes Kept (role_of r st.header l) st k l last
  unfolding role_of
  by_row r e = let f = found test rs (row_label l) r e all in go f.0 f.1 (eqb r.under set_level) refl (belongs r st.header l) refl
    where
      go : test r ≡ true → r.label ≡ row_label l → (a : Bool) → eqb r.under set_level ≡ a → (b : Bool) → belongs r st.header l ≡ b
          → Placed (cond a (at_set_level r) (cond b (member r) strayed)) → Goes Kept (cond a (at_set_level r) (cond b (member r) strayed)) st k l last
      go t n true q b w p = at_top r t n (eqb-true r.under set_level q)
      go t n false q true w p = inside r t n (eqb-false r.under set_level q) w
      go t n false q false w p = absurd p

  by_rows : Placed (role (find rs l) st.header l) → Goes Kept (role (find rs l) st.header l) st k l last
  unfolding role find
  by_rows = go (find_in rs (row_label l)) refl
    where
      go : (x : Option Row) → find_in rs (row_label l) ≡ x → Placed (role x st.header l) → Goes Kept (role x st.header l) st k l last
      go none e p = absurd p
      go (some r) e p = by_row r e p

-- ---- 6300, 6301, 6302, 6310: as long as a member may follow, the last header is the open one

abbrev Open : State → ℕ → Type 0
Open st last = is_header st.header ≡ true → last ≡ st.line + 1

module _ (rs : List Row) (all : all_rows grouped rs ≡ true) (st : State) (k l last : ℕ) (o : Open st last) where
  open-at-top : (r : Row) → grouped r ≡ true → r.label ≡ row_label l → r.under ≡ set_level → Goes Open (at_set_level r) st k l last
  unfolding header_of last_after header_line stays next
  open-at-top r t n u =
      let m : is_member l ≡ false = sym (member-row l) ∙ (ap is_member (sym n) ∙ not-true _ (rw (eq-eqb r.under set_level u) at t)) in
      record { header-so = rw m; still = λ h. rw h }

  -- a member stands under a header: the one that its row names, or the name before it
  under-header : (r : Row) → r.label ≡ row_label l → is_header r.under ≡ true → not (eqb r.under names_row) || eqb r.label 6331 ≡ true → belongs r st.header l ≡ true
      → is_header st.header ≡ true
  unfolding belongs
  under-header r n h = go (eqb r.under names_row) refl
    where
      go : (a : Bool) → eqb r.under names_row ≡ a → not a || eqb r.label 6331 ≡ true → cond a (eqb (st.header + 1) l) (eqb r.under st.header) ≡ true
          → is_header st.header ≡ true
      go true q e b =
          let d = odd-row l (sym n ∙ eqb-true r.label 6331 e) in
          let s : st.header + 1 ≡ l = eqb-true (st.header + 1) l b in
          let least = pair-least l d.0 in
          let most = pair-most l d.0 in
          let p : is_pair_label st.header ≡ true = rw (le-leb 6330 st.header (omega (arith, d.1)), le-leb st.header 6399 (omega arith)) in
          header-pair st.header p ∙ eq-eqb (st.header % 2) 0 (omega (arith, d.1))
      go false q e b = ap is_header (sym (eqb-true r.under st.header b)) ∙ h

  open-inside : (r : Row) → grouped r ≡ true → r.label ≡ row_label l → (r.under ≡ set_level → ⊥) → belongs r st.header l ≡ true → Goes Open (member r) st k l last
  unfolding header_of last_after header_line stays next
  open-inside r t n u b =
      let t1 = rw (ne_eqb r.under set_level u) at t in
      let t2 = and_right (is_member r.label) _ t1 in
      let t3 = and_right (not (is_header r.label)) _ t2 in
      let m : is_member l ≡ true = sym (member-row l) ∙ (ap is_member (sym n) ∙ and_left (is_member r.label) _ t1) in
      let h : is_header l ≡ false = sym (header_row l) ∙ (ap is_header (sym n) ∙ not-true _ (and_left (not (is_header r.label)) _ t2)) in
      let e : last ≡ st.line + 1 = o (under-header r n (and_left (is_header r.under) _ t3) (and_right (is_header r.under) _ t3) b) in
      record { header-so = rw m e; still = λ _. rw h e }

  open-goes : Placed (role (find rs l) st.header l) → Goes Open (role (find rs l) st.header l) st k l last
  open-goes = by_rows Open grouped rs all st k l last open-at-top open-inside

-- ---- 6311: there is no header

abbrev None : State → ℕ → Type 0
None st last = last ≡ 0

cond_same : (b : Bool) (n : ℕ) → cond b n n ≡ n
cond_same true n = refl
cond_same false n = refl

module _ (rs : List Row) (all : all_rows headerless rs ≡ true) (st : State) (k l last : ℕ) (o : None st last) where
  none_at_top : (r : Row) → headerless r ≡ true → r.label ≡ row_label l → r.under ≡ set_level → Goes None (at_set_level r) st k l last
  unfolding header_of last_after header_line stays next
  none_at_top r t n u =
      let h : is_header l ≡ false = sym (header_row l) ∙ (ap is_header (sym n) ∙ not-true _ (and_right (eqb r.under set_level) _ t)) in
      record { header-so = rw o (cond_same (is_member l) 0); still = rw h o }

  none_inside : (r : Row) → headerless r ≡ true → r.label ≡ row_label l → (r.under ≡ set_level → ⊥) → belongs r st.header l ≡ true → Goes None (member r) st k l last
  none_inside r t n u b = absurd (u (eqb-true r.under set_level (and_left (eqb r.under set_level) _ t)))

  none-goes : Placed (role (find rs l) st.header l) → Goes None (role (find rs l) st.header l) st k l last
  none-goes = by_rows None headerless rs all st k l last none_at_top none_inside

-- ---- the five tables

-- What is so at each line of a set with these rows, from the first line on, as long as none breaks 11 or 12.
pub record Follow (rs : List Row) : Type 1 where
  pub Kept : State → ℕ → Type 0
  pub begins : Kept first 0
  pub goes : (st : State) (k l last : ℕ) → Kept st last → Placed (role (find rs l) st.header l) → Goes Kept (role (find rs l) st.header l) st k l last

follow-open : (rs : List Row) → all_rows grouped rs ≡ true → Follow rs
unfolding is_header
follow-open rs all = record { Kept = Open; begins = λ e. absurd (true≢false (sym e)); goes = open-goes rs all }

follow-none : (rs : List Row) → all_rows headerless rs ≡ true → Follow rs
follow-none rs all = record { Kept = None; begins = refl; goes = none-goes rs all }

-- In a set of each type, if no line breaks 11 or 12, the labels alone give each line's header.
pub follow : (settype : SetType) → Follow (table settype)
unfolding table
follow T6300 = follow-open rows6300 grouped-6300
follow T6301 = follow-open rows6301 grouped-6301
follow T6302 = follow-open rows6302 grouped-6302
follow T6310 = follow-open rows6310 grouped-6310
follow T6311 = follow-none rows6311 headerless-6311
