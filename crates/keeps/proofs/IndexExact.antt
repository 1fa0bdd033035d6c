-- The index is exact: it is made exactly when the set keeps every rule and there is room, and each entry has the number of its header's line, or 0 if it has none.
use mathlib.Core.Path.{◌≡◌, refl, sym, ap, ◌∙◌, subst}
use mathlib.Core.List.{List, []}
use mathlib.Core.Logic.{◌⊎◌, inl, inr, ◌↔◌}
use Prim.Native.Nat.{ℕ, zero, suc, ◌+◌, ◌<◌}
use native.Mathlib.Numerals.{add-one}
use native.Mathlib.Omega.{arith}
use lib.Dec.{leb}
use lib.ListN.{length, drop, get_or}
use lib.Seq.{drop-cons, ext_get_or}
use borrow.Author.Tests.{leb-true, le-leb, eq-eqb}
use Rattle.meaning.specs.declared.Entry.{Entry}
use Rattle.meaning.specs.declared.Row.{Row}
use Rattle.meaning.specs.declared.SetType.{SetType}
use Rattle.meaning.specs.Field.{Field, no_field, label_at_line}
use Rattle.meaning.specs.Refusals.{done, with_room}
use Rattle.meaning.specs.Pieces.{Parsed}
use Rattle.meaning.specs.Lines.{line_size}
use Rattle.meaning.specs.Groups.{State, Role, stays}
use Rattle.meaning.specs.Reading.{read}
use Rattle.meaning.specs.Index.{header_line, entries_from, index_of, index}
use Rattle.meaning.proofs.FaultLaws.{then_to-done, with_room-done}
use Rattle.meaning.proofs.IndexLaws.{count_of, entry-shows}
use Rattle.keeps.specs.Keeps.{HasRow, MemberOf, IsOdd, KeepsRules}
use Rattle.keeps.specs.Makes.{HeaderOf, EntryOf, Indexes}
use Rattle.keeps.proofs.TableFacts.{le-cases, no-absurd, not-0, member-no-pair, odd-row-odd, odd-is-pair}
use Rattle.keeps.proofs.StateLaws.{role_behind, state_at, OpenAt, Opened, open_at, at-start, behind-odd, Behind, Stands, at-set-level, in-open, behind-name, role-top, role-open, role-odd}
use Rattle.keeps.proofs.LabelLaws.{member-not-top, member-not-odd, odd-not-top, same-header, open-group, all-stand, all-behind, after-its-name, labels-fine}
use Rattle.keeps.proofs.RulesExact.{typed, profile-typed}
use Rattle.keeps.proofs.Exact.{accepted-keeps, keeps-accepted}

-- ---- the header's number of a line, by the state before it

module _ (t : SetType) (fs : List Field) where
  abbrev header_at : ℕ → ℕ
  header_at k = header_line (role_behind t fs (state_at t fs k) k) (state_at t fs k)

  header-from : (k i at : ℕ) (none : Entry) → i + k < length fs
      → (get_or (entries_from (typed t) (state_at t fs i) i at (drop i fs)) k none).header ≡ header_at (i + k)
  unfolding entries_from state_at
  header-from zero i at none l = rw (drop-cons fs i no_field (omega arith)) (ap header_at (omega arith))
  header-from (suc k) i at none l =
      rw (drop-cons fs i no_field (omega arith), add-one i) (header-from k (suc i) (at + line_size (get_or fs i no_field)) none (omega arith) ∙ ap header_at (omega arith))

  -- a line has no header and number 0, or one and its number
  data Headed (k : ℕ) : Type 0 where
    without : header_at k ≡ 0 → ((h : ℕ) → HeaderOf t fs h k → ⊥) → Headed k
    under : (i : ℕ) → header_at k ≡ suc i → HeaderOf t fs i k → ((h : ℕ) → HeaderOf t fs h k → i ≡ h) → Headed k

  module _ (k : ℕ) (l : k < length fs) where
    abbrev st : State
    st = state_at t fs k

    top-headed : (r : Row) → HasRow t (label_at_line fs k) r → r.under ≡ 0 → Headed k
    unfolding header_line stays
    top-headed r x u = without (ap (λ (o : Role). header_line o st) (role-top t fs k st r x u)) none
      where
        none : (h : ℕ) → HeaderOf t fs h k → ⊥
        none h (inl g) = member-not-top t _ _ (g.all-members k g.behind (omega arith)) (r, x, u)
        none h (inr o) = odd-not-top t _ r x u o.1

    group-headed : (r : Row) → HasRow t (label_at_line fs k) r → (r.under ≡ 8410) ⊎ (r.under ≡ 6302) → st.header ≡ r.under → Opened t fs k st → Headed k
    unfolding header_line stays
    group-headed r x u e (open_at i o) =
        let under-open : r.under ≡ label_at_line fs i = sym e ∙ o.header_is in
        let m : MemberOf t (label_at_line fs i) (label_at_line fs k) = (subst (λ (y : ℕ). (y ≡ 8410) ⊎ (y ≡ 6302)) under-open u, r, x, under-open) in
        under i (ap (λ (y : Role). header_line y st) (role-open t fs k st r x u e) ∙ (ap (λ (n : ℕ). n + 1) o.line-is ∙ add-one i)) (inl (open-group t fs i k st l o m)) one
      where
        one : (h : ℕ) → HeaderOf t fs h k → i ≡ h
        one h (inl g) = same-header t fs h i k st g o
        one h (inr q) = no-absurd (odd-is-pair (label_at_line fs k) q.1) (member-no-pair t _ r x u)
    group-headed r x u e (at-start p q) = no-absurd (eq-eqb r.under 0 (sym e ∙ q)) (not-0 r.under u)
    group-headed r x u e (behind-odd j p o q) = no-absurd (eq-eqb r.under 0 (sym e ∙ q)) (not-0 r.under u)

    -- the open line is the name right before an odd label
    name-before : (i j : ℕ) → OpenAt t fs i k st → st.header + 1 ≡ label_at_line fs k → IsOdd (label_at_line fs k) → k ≡ suc j → i ≡ j
    name-before i j o e odd q = go (le-cases i j (omega (arith, o.before)))
      where
        no_header : (label_at_line fs i ≡ 8410) ⊎ (label_at_line fs i ≡ 6302) → ⊥
        no_header (inl p) = omega (arith, o.header_is)
        no_header (inr p) = omega (arith, o.header_is)

        go : (i < j) ⊎ (i ≡ j) → i ≡ j
        go (inl p) = absurd (no_header (o.members-all j p (omega arith)).0)
        go (inr p) = p

    odd-headed : (r : Row) → HasRow t (label_at_line fs k) r → r.under ≡ 6330 → st.header + 1 ≡ label_at_line fs k → Behind t fs k st → Stands t fs k st → Headed k
    unfolding header_line stays
    odd-headed r x u e b s = go b.opened-is
      where
        odd : IsOdd (label_at_line fs k)
        odd = odd-row-odd t _ r x u

        go : Opened t fs k st → Headed k
        go (open_at i o) =
            let a = after-its-name t fs k st l b s odd in
            let same : i ≡ a.0 = name-before i a.0 o e odd a.1 in
            let number : header_at k ≡ suc i = ap (λ (y : Role). header_line y st) (role-odd t fs k st r x u e) ∙ (ap (λ (n : ℕ). n + 1) o.line-is ∙ add-one i) in
            under i number (inr (a.1 ∙ ap suc (sym same), odd, a.2 ∙ ap (λ (y : ℕ). suc (label_at_line fs y)) (sym same))) one
          where
            one : (h : ℕ) → HeaderOf t fs h k → i ≡ h
            one h (inl g) = absurd (member-not-odd t _ _ (g.all-members k g.behind (omega arith)) odd)
            one h (inr q) = name-before i h o e odd q.0
        go (at-start p q) = absurd (omega (arith, odd.0))
        go (behind-odd j p o q) = absurd (omega (arith, odd.0))

    headed : KeepsRules t fs → Headed k
    headed r = go s
      where
        b : Behind t fs k st
        b = all-behind t fs (labels-fine t fs r) k (omega arith)

        s : Stands t fs k st
        s = all-stand t fs (labels-fine t fs r) k l

        go : Stands t fs k st → Headed k
        go (at-set-level q x u) = top-headed q x u
        go (in-open q x u e) = group-headed q x u e b.opened-is
        go (behind-name q x u e) = odd-headed q x u e b s

    header-exactly : KeepsRules t fs → (h : ℕ) → (header_at k ≡ suc h) ↔ HeaderOf t fs h k
    header-exactly r h = go (headed r)
      where
        go : Headed k → (header_at k ≡ suc h) ↔ HeaderOf t fs h k
        go (without z n) = (λ e. absurd (omega arith), λ x. absurd (n h x))
        go (under i z x one) = (
          λ e. subst (λ (y : ℕ). HeaderOf t fs y k) (let q : i ≡ h = omega arith in q) x,
          λ y. z ∙ ap suc (one h y),
        )

  -- ---- the entries of a set that keeps the rules

  entry_of : KeepsRules t fs → (k : ℕ) (none : Entry) → k < length fs → EntryOf t fs k (get_or (index_of fs) k none)
  unfolding index_of state_at
  entry_of r k none l =
      let p = entry-shows fs [] k none l in
      let w : (get_or (index_of fs) k none).header ≡ header_at k = rw (profile-typed t fs r.starts.1) (header-from k 0 0 none (omega arith) ∙ ap header_at (omega arith)) in
      record {
        label-is = p.label-so;
        place_is = p.place-so;
        length-is = p.length-so;
        header_is = λ h. let x = header-exactly k l r h in (λ e. x.0 (sym w ∙ e), λ y. w ∙ x.1 y);
      }

-- ---- an entry is determined by what it says

same-header-number : (m n : ℕ) → ((h : ℕ) → m ≡ suc h → n ≡ suc h) → ((h : ℕ) → n ≡ suc h → m ≡ suc h) → m ≡ n
same-header-number zero zero to from = refl
same-header-number zero (suc n) to from = from n refl
same-header-number (suc m) n to from = sym (to m refl)

entry-same : (t : SetType) (fs : List Field) (k : ℕ) (d e : Entry) → EntryOf t fs k d → EntryOf t fs k e → d ≡ e
entry-same t fs k d e x y =
    let a : d.label ≡ e.label = x.label-is ∙ sym y.label-is in
    let b : d.place ≡ e.place = x.place_is ∙ sym y.place_is in
    let c : d.length ≡ e.length = x.length-is ∙ sym y.length-is in
    let h : d.header ≡ e.header = same-header-number d.header e.header (λ i q. (y.header_is i).1 ((x.header_is i).0 q)) (λ i q. (x.header_is i).1 ((y.header_is i).0 q)) in
    λ j. record { label = a j; place = b j; length = c j; header = h j }

-- ---- the index is exact

index-indexes : (s : List ℕ) (room : ℕ) (es : List Entry) → index s room ≡ done es → Indexes s room es
unfolding index
index-indexes s room es e =
    let y = then_to-done (read s) (λ d. with_room (leb (length d.fields) room) (length d.fields) (index_of d.fields)) es e in
    let d : Parsed = y.0 in
    let w = with_room-done (leb (length d.fields) room) (length d.fields) (index_of d.fields) es y.2 in
    let k = accepted-keeps s d y.1 in
    record {
      set-type = k.0;
      lines = d.fields;
      rest = d.rest;
      keeps = k.1;
      has_room = leb-true _ room w.0;
      as_many = sym (ap length w.1) ∙ count_of d.fields;
      each = λ i none l. subst (λ (xs : List Entry). EntryOf k.0 d.fields i (get_or xs i none)) w.1 (entry_of k.0 d.fields k.1.rules i none l);
    }

indexes-index : (s : List ℕ) (room : ℕ) (es : List Entry) → Indexes s room es → index s room ≡ done es
unfolding index
indexes-index s room es x = rw (keeps-accepted s x.set-type x.lines x.rest x.keeps, le-leb (length x.lines) room x.has_room) (ap done same)
  where
    none : Entry
    none = record { label = 0; place = 0; length = 0; header = 0 }

    same : index_of x.lines ≡ es
    same = ext_get_or none (index_of x.lines) es (count_of x.lines ∙ sym x.as_many) (λ k l.
        let m : k < length x.lines = omega (arith, count_of x.lines) in
        entry-same x.set-type x.lines k _ _ (entry_of x.set-type x.lines x.keeps.rules k none m) (x.each k none m))

-- an index is made, with these entries, exactly when the set keeps every rule, there is room, and each entry says its line's label, place, length and header
pub indexed-exactly : (s : List ℕ) (room : ℕ) (es : List Entry) → (index s room ≡ done es) ↔ Indexes s room es
indexed-exactly s room es = (index-indexes s room es, indexes-index s room es)
