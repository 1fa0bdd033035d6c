-- The writer undoes the list and the list the writer: exactly when each is made, and what it then is.
-- Assumes that the bytes of a list are under 256.
use mathlib.Core.Path.{◌≡◌, refl, sym, ap, ◌∙◌, subst}
use mathlib.Core.Bool.{true, false, ◌&&◌, true≢false}
use mathlib.Core.List.{List, [], ◌∷◌, cons≢nil}
use mathlib.Core.Option.{Option, some}
use Prim.Native.Nat.{ℕ, ◌+◌, ◌≤◌}
use native.Mathlib.Omega.{arith}
use lib.Dec.{leb, eqb}
use lib.ListN.{length}
use borrow.Author.Tests.{leb-true, le-leb, eq-eqb}
use Rattle.meaning.specs.declared.Row.{Row}
use Rattle.meaning.specs.declared.SetType.{SetType}
use Rattle.meaning.specs.declared.SetType.TheVariants.{T6300, T6301, T6302, T6310, T6311}
use Rattle.meaning.specs.Limits.{max_lines, max_entries, max_set_bytes}
use Rattle.meaning.specs.Field.{Field, elem}
use Rattle.meaning.specs.Refusals.{done, then_to, verdict, with_room}
use Rattle.meaning.specs.Pieces.{Parsed, parsed, pieces, put_all}
use Rattle.meaning.specs.Lines.{size, render}
use Rattle.meaning.specs.Entries.{entry_form, list_size}
use Rattle.meaning.specs.Tables.{rows6300, rows6301, rows6302, rows6310, rows6311, table, row_label, find_in, find}
use Rattle.meaning.specs.Groups.{State, first, Role, unknown, strayed, at_set_level, member, role_of, role, next, label_faults}
use Rattle.meaning.specs.Rules.{Profile, profile, table_of, rows_of, is_known, role_in, start_faults, line_rules, rules_from, rule_faults}
use Rattle.meaning.specs.Reading.{read}
use Rattle.meaning.specs.Lists.{without_sum, with_sum, list, in_list, set_with_room, written, write}
use Rattle.meaning.proofs.Bools.{nil_is, and_left, or_right, Every}
use Rattle.meaning.proofs.FaultLaws.{append-none, refused-done, then_to-done, verdict-done, with_room-done}
use Rattle.meaning.proofs.PieceLaws.{pieces-put, pieces-only}
use Rattle.meaning.proofs.LineLaws.{Sound, NoStart}
use Rattle.meaning.proofs.EntryLaws.{Byte, Listed, entry-lawful}
use Rattle.meaning.proofs.FieldLaws.{Short}
use Rattle.meaning.proofs.RuleLaws.{Ruled, ruled, ruled-of, unruled, no-rule-faults, begins-of}
use Rattle.meaning.proofs.SetLaws.{Standing, sum_back}
use Rattle.meaning.proofs.SizeLaws.{all_short, ruled-total}
use Rattle.meaning.proofs.CorrectionLaws.{sum-right, sum-sound}
use Rattle.meaning.specs.Results.{Known}
use Rattle.std.specs.Prelude.{None, Some}

-- the list of the lines of a set
abbrev pub list_of : List Field → List ℕ
list_of fs = put_all entry_form (without_sum fs) []

pub without-with : (es : List Field) → without_sum (with_sum es) ≡ es
without-with [] = refl
without-with (f ∷ fs) = refl

-- ---- set to list

-- a set turned into a list was accepted, and its list has room
pub record ListMade (s : List ℕ) (room : ℕ) (l : List ℕ) : Type 0 where
  pub what : Parsed
  pub was_read : read s ≡ done what
  pub has_room : list_size (without_sum what.fields) ≤ room
  pub made : l ≡ list_of what.fields

pub list-only : (s : List ℕ) (room : ℕ) (l : List ℕ) → list s room ≡ done l → ListMade s room l
unfolding list
list-only s room l e =
    let y = then_to-done (read s) (λ d. with_room (leb (list_size (without_sum d.fields)) room) (list_size (without_sum d.fields)) (list_of d.fields)) l e in
    let fs : List Field = y.0.fields in
    let w = with_room-done (leb (list_size (without_sum fs)) room) (list_size (without_sum fs)) (list_of fs) l y.2 in
    record { what = y.0; was_read = y.1; has_room = leb-true _ room w.0; made = sym w.1 }

pub list-makes : (s : List ℕ) (d : Parsed) (room : ℕ) → read s ≡ done d → list_size (without_sum d.fields) ≤ room → list s room ≡ done (list_of d.fields)
unfolding list
list-makes s d room e h = rw (e, le-leb _ _ h)

-- ---- list to set: the list of an accepted set

sound-listed : (f : Field) → Sound f → Listed f
sound-listed f h = record { label-fits = omega (arith, h.label-fits); not-long = omega (arith, h.not-long); no-low = h.no-low }

all_listed : (fs : List Field) → Every Sound fs → Every Listed fs
all_listed [] h = tt
all_listed (f ∷ fs) h = (sound-listed f h.0, all_listed fs h.1)

pub write-makes : (fs : List Field) (room : ℕ) → Standing fs → size fs ≤ room → write (list_of fs) room ≡ done (render fs [])
unfolding write start_faults
write-makes [] room st h = absurd (cons≢nil (ruled [] st.right).0.begins)
write-makes (f ∷ []) room st h = let z : ◌≡◌ {A = ℕ} 0 8100 = (begins-of (f ∷ []) (ruled (f ∷ []) st.right).0.begins).second-label in absurd (omega arith)
write-makes (f ∷ g ∷ fs) room st h =
    let es : List Field = f ∷ fs in
    let r : Ruled (f ∷ g ∷ fs) = (ruled (f ∷ g ∷ fs) st.right).0 in
    let p : pieces entry_form max_entries 0 (put_all entry_form es []) ≡ done (parsed es []) =
    pieces-put entry_form Listed Byte entry-lawful max_entries 0 es [] (omega (arith, st.few))
    (sound-listed f st.sound.0, all_listed fs st.sound.1.1) refl in
    let q : with_sum es ≡ f ∷ g ∷ fs = sym (sum_back (f ∷ g ∷ fs) st.right) in
    rw (p, q, no-rule-faults (f ∷ g ∷ fs) r, le-leb _ _ h, le-leb _ _ (ruled-total (f ∷ g ∷ fs) r st.few))

-- ---- 8000 is single at set level in every table, so no later line of a judged list starts a set

pub record Single (l : ℕ) (o : Option Row) : Type 0 where
  pub known : Row
  pub is : o ≡ some known
  pub named-so : known.label ≡ l
  pub top-level : known.under ≡ 0
  pub one : known.many ≡ false

single-8000 : (t : SetType) → Single 8000 (find (table t) 8000)
unfolding table rows6300 rows6301 rows6302 rows6310 rows6311 find find_in row_label
single-8000 T6300 = record { known = _; is = refl; named-so = refl; top-level = refl; one = refl }
single-8000 T6301 = record { known = _; is = refl; named-so = refl; top-level = refl; one = refl }
single-8000 T6302 = record { known = _; is = refl; named-so = refl; top-level = refl; one = refl }
single-8000 T6310 = record { known = _; is = refl; named-so = refl; top-level = refl; one = refl }
single-8000 T6311 = record { known = _; is = refl; named-so = refl; top-level = refl; one = refl }

single-known : (k : Known) → is_known k ≡ true → Single 8000 (find (table_of k) 8000)
single-known (Some t) e = single-8000 t
single-known None e = absurd (true≢false (sym e))

pub role-at-set-level : (o : Option Row) (r : Row) (h l : ℕ) → o ≡ some r → r.under ≡ 0 → role o h l ≡ at_set_level r
unfolding role role_of
role-at-set-level o r h l q u = rw (q, u)

pub top-keep : (o : Role) (st : State) (k m l : ℕ) → elem l st.top ≡ true → elem l (next o st k m).top ≡ true
unfolding next elem
top-keep unknown st k m l e = e
top-keep strayed st k m l e = e
top-keep (at_set_level r) st k m l e = or_right (eqb l r.label) e
top-keep (member r) st k m l e = e

not-again : (r : Row) (p : Profile) (st : State) (k l : ℕ) (f : Field) → r.label ≡ l → r.many ≡ false → elem l st.top ≡ true → line_rules (at_set_level r) p st k f ≡ [] → ⊥
unfolding line_rules label_faults
not-again r p st k l f n o e h = cons≢nil (rw (n, o, e) at (append-none (label_faults (at_set_level r) st k f.label) _ h).0)

-- a label that is single at set level and has stood there stands on no later line
pub once : (p : Profile) (st : State) (k l : ℕ) (fs : List Field) → Single l (find (rows_of p) l) → elem l st.top ≡ true → rules_from p st k fs ≡ []
    → Every (λ f. f.label ≡ l → ⊥) fs
unfolding rules_from
once p st k l [] s e h = tt
once p st k l (f ∷ fs) s e h =
    let a = append-none (line_rules (role_in p st f) p st k f) _ h in (
      λ q. not-again s.known p st k l f s.named-so s.one e
          (subst (λ (o : Role). line_rules o p st k f ≡ []) (role-at-set-level (find (rows_of p) f.label) s.known st.header f.label (ap (find (rows_of p)) q ∙ s.is) s.top-level) a.0),
      once p (next (role_in p st f) st k f.label) (k + 1) l fs s (top-keep (role_in p st f) st k f.label l e) a.1,
    )

pub top-has : (o : Role) (r : Row) (st : State) (k l m : ℕ) → o ≡ at_set_level r → r.label ≡ l → elem l (next o st k m).top ≡ true
unfolding next elem
top-has o r st k l m q e = rw (q, eq-eqb l r.label (sym e))

no-later : (f : Field) (fs : List Field) → Ruled (f ∷ fs) → Every NoStart fs
unfolding rules_from
no-later f fs r =
    let p : Profile = profile (f ∷ fs) in
    let b = begins-of (f ∷ fs) r.begins in
    let s : Single 8000 (find (rows_of p) 8000) = single-known p.set_type b.type-known in
    let a = append-none (line_rules (role_in p first f) p first 0 f) _ r.each-line in
    let o : role_in p first f ≡ at_set_level s.known =
    role-at-set-level (find (rows_of p) f.label) s.known first.header f.label (ap (find (rows_of p)) b.first-label ∙ s.is) s.top-level in
    once p (next (role_in p first f) first 0 f.label) (0 + 1) 8000 fs s (top-has (role_in p first f) s.known first 0 8000 f.label o s.named-so) a.1

-- ---- list to set: any list

listed-sound : (f : Field) → Listed f → Short f.content → Sound f
listed-sound f g s = record { label-fits = omega (arith, g.label-fits); some_byte = s.some_byte; not-long = omega (arith, s.few_bytes); no-low = g.no-low }

all_sound : (fs : List Field) → Every Listed fs → Every (λ f. Short f.content) fs → Every Sound fs
all_sound [] g s = tt
all_sound (f ∷ fs) g s = (listed-sound f g.0 s.0, all_sound fs g.1 s.1)

-- a list that keeps the rules, its sum put in, is an accepted set
pub ruled-stands : (es : List Field) → Every Listed es → length es ≤ max_entries → rule_faults (with_sum es) ≡ [] → Standing (with_sum es)
unfolding start_faults
ruled-stands [] g l e = absurd (cons≢nil (ruled-of [] e).begins)
ruled-stands (f ∷ fs) g l e =
    let all : List Field = with_sum (f ∷ fs) in
    let r = ruled-of all e in
    let s = all_short (profile all) first 0 all r.each-line in
    let n : length all ≤ max_lines = omega arith in
    record {
      sound = (listed-sound f g.0 s.0, (sum-sound _, all_sound fs g.1 s.1.1));
      alone = no-later f _ r;
      few = n;
      right = unruled all r (sum-right all (omega arith) (ruled-total all r n));
    }

-- what is known of a list that was written
pub record Written (l : List ℕ) (room : ℕ) (x : List ℕ) : Type 0 where
  pub entries : List Field
  pub whole : l ≡ put_all entry_form entries []
  pub standing : Standing (with_sum entries)
  pub has_room : size (with_sum entries) ≤ room
  pub made : x ≡ render (with_sum entries) []

write-from : (l : List ℕ) (room : ℕ) (x : List ℕ) → Every Byte l → then_to (pieces entry_form max_entries 0 l) (λ d. written room d.fields) ≡ done x → Written l room x
write-from l room x b e =
    let y = then_to-done (pieces entry_form max_entries 0 l) (λ d. written room d.fields) x e in
    let es : List Field = y.0.fields in
    let new : List Field = with_sum es in
    let q = pieces-only entry_form Listed Byte entry-lawful max_entries 0 l es y.0.rest b y.1 in
    let z = then_to-done (verdict (in_list es) (rule_faults new) new) (λ fs. set_with_room fs room) x y.2 in
    let v = verdict-done (in_list es) (rule_faults new) new z.0 z.1 in
    let u : set_with_room new room ≡ done x = rw v.1 z.2 in
    let w = with_room-done (leb (size new) room && leb (size new) max_set_bytes) (size new) (render new []) x u in
    record {
      entries = es;
      whole = q.whole ∙ ap (put_all entry_form es) (nil_is y.0.rest q.at-end);
      standing = ruled-stands es q.all-good q.few v.0;
      has_room = leb-true (size new) room (and_left (leb (size new) room) _ w.0);
      made = sym w.1;
    }

pub write-only : (l : List ℕ) (room : ℕ) (x : List ℕ) → Every Byte l → write l room ≡ done x → Written l room x
unfolding write
write-only [] room x b e = refused-done e
write-only (a ∷ l) room x b e = write-from (a ∷ l) room x b e
