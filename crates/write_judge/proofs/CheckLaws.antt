-- 7, 21 and 6 of a list's entries: what each `return` of the check has to show, and what the walk means: the pieces of the list in `meaning`.
use mathlib.Core.Path.{◌≡◌, refl, sym, ap, ap₂, ◌∙◌, subst}
use mathlib.Core.Bool.{Bool, true, false, cond, ◌&&◌}
use mathlib.Core.List.{List, [], ◌∷◌, ◌++◌}
use Prim.Native.Nat.{ℕ, zero, suc, ◌+◌, ◌-◌, ◌≤◌, ◌<◌}
use native.Mathlib.Nat.{add-zero}
use native.Mathlib.Omega.{arith}
use lib.Dec.{leb}
use lib.ListN.{length, drop, length-drop}
use lib.Seq.{drop-drop}
use borrow.Author.Tests.{le-leb, lt-leb}
use Rattle.meaning.specs.declared.Refusal.{Refusal}
use Rattle.meaning.specs.Limits.{max_entries}
use Rattle.meaning.specs.Field.{Field, is_nil}
use Rattle.meaning.specs.Refusals.{Fault, at_line, ask, behind, Reply, refused, done, refusal, bad_byte, too_many_lines, bad_list}
use Rattle.meaning.specs.Pieces.{Parsed, parsed, and_before, piece_then, pieces}
use Rattle.meaning.specs.Lines.{low_bytes}
use Rattle.meaning.specs.Entries.{entry_lead, two_bytes_at, entry_label, entry_width, entry_content, entry_field, entry_whole, max_label, entry_faults, entry_form, entry_ok, list_size}
use Rattle.meaning.proofs.Bools.{nil_is, and_left, end_is}
use Rattle.meaning.proofs.FaultLaws.{ask-none, refused-done, done-same}
use Rattle.meaning.proofs.PieceLaws.{piece_back}
use Rattle.byte_low.specs.Low.{first_low}
use Rattle.byte_low.proofs.LowLaws.{low-is}
use Rattle.entry_read.specs.Head.{entry_at, by_head, list_content, HeadRead, a_head}
use Rattle.entry_read.proofs.HeadLaws.{head_of, entry-is, whole_back}
use Rattle.entry_read.proofs.HeadWalkLaws.{Reads}
use Rattle.write_judge.specs.Judging.{check_content, check_entry, after_entry, check_from, check_some, Checked, Item, ListJudged}
use Rattle.std.specs.Prelude.{Err, None, Ok, Some}

-- ---- one entry, as the code takes it

module _ (l : List ℕ) (at : ℕ) where
  pub entry-cut : entry_at l at ≡ None → Err (refusal bad_list at 0) ≡ check_entry l at
  unfolding check_entry
  entry-cut e = rw e

  module _ {label n : ℕ} (e : entry_at l at ≡ a_head label n) where
    pub label-over : max_label < label → Err (refusal bad_list at 0) ≡ check_entry l at
    unfolding check_entry check_content
    label-over h = rw (e, lt-leb label max_label h)

    module _ (h : label ≤ max_label) (low : ℕ) (q : low ≡ first_low l (at + entry_lead) n) where
      pub content-low : low < at + entry_lead + n → Err (refusal bad_byte low 0) ≡ check_entry l at
      unfolding check_entry check_content
      content-low g = rw (e, le-leb label max_label h, ← q, lt-leb (at + entry_lead + n) low g)

      pub content-clean : at + entry_lead + n ≤ low → Ok n ≡ check_entry l at
      unfolding check_entry check_content
      content-clean g = rw (e, le-leb label max_label h, ← q, le-leb (at + entry_lead + n) low g)

    -- by the offsets of the content
    pub content-usual : label ≤ max_label → first_low l (at + entry_lead) (at + entry_lead + n - (at + entry_lead)) ≡ at + entry_lead + n → Ok n ≡ check_entry l at
    content-usual h q =
        let w : at + entry_lead + n - (at + entry_lead) ≡ n = omega arith in
        let x : first_low l (at + entry_lead) n ≡ at + entry_lead + n = ap (first_low l (at + entry_lead)) (sym w) ∙ q in
        content-clean h (first_low l (at + entry_lead) n) refl (omega (arith, x))

-- ---- all entries, as the code takes them

module _ (l : List ℕ) (at : ℕ) where
  pub check_done : (n k : ℕ) → length l ≤ at → check_from l at n k ≡ Ok n
  unfolding check_from
  check_done n zero h = rw (le-leb (length l) at h)
  check_done n (suc k) h = rw (le-leb (length l) at h)

  module _ (g : at < length l) where
    check-full : (n : ℕ) {k : ℕ} → k ≡ 0 → check_from l at n k ≡ Err (refusal too_many_lines at 0)
    unfolding check_from
    check-full n h = rw (h, lt-leb (length l) at g)

    pub check-some : (left : ℕ) → 0 < left → left ≤ max_entries → check_from l at (max_entries - left) left ≡ check_some l at left
    unfolding check_from
    check-some left h w =
        let x : left ≡ suc (left - 1) = omega arith in
        let y : max_entries - left + 1 ≡ max_entries - (left - 1) = omega arith in
        ap (check_from l at (max_entries - left)) x
        ∙ (rw (lt-leb (length l) at g) (ap (λ (n : ℕ). after_entry (check_entry l at) (λ m. check_from l (at + (entry_lead + m)) n (left - 1))) y))

-- one entry, and those after it
module _ (l : List ℕ) (at left : ℕ) where
  pub some-bad : {r : Refusal} → check_entry l at ≡ Err r → check_some l at left ≡ Err r
  some-bad e = rw e

  -- an entry more: it is the last one, too many follow, or the check goes on
  module _ {m : ℕ} (e : check_entry l at ≡ Ok m) where
    here : check_some l at left ≡ check_from l (at + (entry_lead + m)) (max_entries - (left - 1)) (left - 1)
    here = rw e

    pub some-done : length l ≤ at + (entry_lead + m) → check_some l at left ≡ Ok (max_entries - (left - 1))
    some-done h = here ∙ check_done l (at + (entry_lead + m)) (max_entries - (left - 1)) (left - 1) h

    module _ (g : at + (entry_lead + m) < length l) where
      pub some-full : left - 1 ≡ 0 → check_some l at left ≡ Err (refusal too_many_lines (at + (entry_lead + m)) 0)
      some-full h = here ∙ check-full l (at + (entry_lead + m)) g (max_entries - (left - 1)) h

      pub some-on : 0 < left - 1 → left ≤ max_entries → check_some l at left ≡ check_some l (at + (entry_lead + m)) (left - 1)
      some-on h w = here ∙ check-some l (at + (entry_lead + m)) g (left - 1) h (omega arith)

-- the head of an entry that is checked
checked-head : (l : List ℕ) (at : ℕ) {m : ℕ} → check_entry l at ≡ Ok m → entry_at l at ≡ a_head (two_bytes_at l (at + 2)) m
unfolding check_entry check_content
checked-head l at {m} e = go (entry_at l at) refl e
  where
    by : (k n : ℕ) (a b : Bool) (r q : Refusal) → cond a (cond b (Ok n) (Err r)) (Err q) ≡ Ok m → a_head k n ≡ a_head k m
    by k n true true r q h = let z : n ≡ m = cc in ap (a_head k) z
    by k n true false r q h = let z : ◌≡◌ {A = ℕ} 0 1 = cc in absurd (omega arith)
    by k n false b r q h = let z : ◌≡◌ {A = ℕ} 0 1 = cc in absurd (omega arith)

    go : (h : HeadRead) → entry_at l at ≡ h → by_head h (Err (refusal bad_list at 0)) (λ label n. check_content l at label n) ≡ Ok m → h ≡ a_head (two_bytes_at l (at + 2)) m
    go None q h = let z : ◌≡◌ {A = ℕ} 0 1 = cc in absurd (omega arith)
    go (Some x) q h =
        by x.label x.length (leb x.label max_label) (leb (at + entry_lead + x.length) (first_low l (at + entry_lead) x.length)) (refusal bad_byte (first_low l (at + entry_lead) x.length) 0)
        (refusal bad_list at 0) h
        ∙ ap (λ (j : ℕ). a_head j m) (sym (whole_back l at q).label-told)

-- it lies within the list
pub checked-within : (l : List ℕ) (at : ℕ) {m : ℕ} → check_entry l at ≡ Ok m → at + (entry_lead + m) ≤ length l
checked-within l at e = (whole_back l at (checked-head l at e)).within

-- ---- entries that are checked, as the code takes them

-- what stands at an offset from which on the entries are checked
record Stands (l : List ℕ) (at : ℕ) : Type 0 where
  bytes : ℕ
  read : check_entry l at ≡ Ok bytes
  later : Checked l (at + (entry_lead + bytes))

stands : (l : List ℕ) (at : ℕ) → Checked l at → at < length l → Stands l at
unfolding check_from
stands l at c h = go c.before c.most c.checked
  where
    by : (n k : ℕ) (x : Item) → check_entry l at ≡ x → after_entry x (λ m. check_from l (at + (entry_lead + m)) (n + 1) k) ≡ Ok c.count → Stands l at
    by n k (Ok m) q e = record { bytes = m; read = q; later = record { before = n + 1; most = k; count = c.count; checked = e } }
    by n k (Err r) q e = let z : ◌≡◌ {A = ℕ} 0 1 = cc in absurd (omega arith)

    go : (n k : ℕ) → check_from l at n k ≡ Ok c.count → Stands l at
    go n zero e =
        let q : cond (leb (length l) at) (Ok n) (Err (refusal too_many_lines at 0)) ≡ Err (refusal too_many_lines at 0) = rw (lt-leb (length l) at h) in
        let x : Err (refusal too_many_lines at 0) ≡ Ok c.count = sym q ∙ e in
        let z : ◌≡◌ {A = ℕ} 0 1 = cc in
        absurd (omega arith)
    go n (suc k) e = by n k (check_entry l at) refl (sym (rw (lt-leb (length l) at h)) ∙ e)

module _ (l : List ℕ) (at : ℕ) (c : Checked l at) (h : at < length l) {label m : ℕ} (x : label ≡ two_bytes_at l (at + 2)) (y : m ≡ two_bytes_at l at) where
  s : Stands l at
  s = stands l at c h

  w : s.bytes ≡ m
  w = sym (whole_back l at (checked-head l at s.read)).length-told ∙ sym y

  pub told-head : entry_at l at ≡ a_head label m
  told-head = checked-head l at s.read ∙ ap₂ a_head (sym x) w

  pub told-later : Checked l (at + entry_lead + m)
  told-later = subst (Checked l) (omega (arith, w)) s.later

  pub told-within : at + entry_lead + m ≤ length l
  told-within = omega (arith, (whole_back l at told-head).within)

-- the head of such an entry is there
pub head-there : (l : List ℕ) (at : ℕ) → Checked l at → at < length l → at + entry_lead ≤ length l
head-there l at c h = omega (arith, told-within l at c h refl refl)

-- all entries of a list
pub some-checked : (l : List ℕ) {n : ℕ} → check_some l 0 max_entries ≡ Ok n → (0 < length l) × Checked l 0
some-checked l {n} e = go (check_entry l 0) refl e
  where
    go : (x : Item) → check_entry l 0 ≡ x → after_entry x (λ m. check_from l (0 + (entry_lead + m)) (max_entries - (max_entries - 1)) (max_entries - 1)) ≡ Ok n → (0 < length l) × Checked l 0
    go (Ok m) q z =
        let h : 0 < length l = omega (arith, checked-within l 0 q) in
        (h, record { before = 0; most = max_entries; count = n; checked = check-some l 0 h max_entries (omega arith) (omega arith) ∙ e })
    go (Err r) q z = let z : ◌≡◌ {A = ℕ} 0 1 = cc in absurd (omega arith)

-- ---- what the walk means

-- the entry at an offset whose bytes have these faults: "the first fault in this order is the answer"
abbrev judged_entry : ℕ → List Fault → Item → Item
judged_entry at [] c = c
judged_entry at (x ∷ xs) c = Err (refusal x.no (at + behind entry_lead x.spot) x.label)

-- The entry at an offset: the length of its content if the bytes from there on have no fault, else the refusal of their first fault.
check-is : (l : List ℕ) (at : ℕ) → check_entry l at ≡ judged_entry at (entry_faults (drop at l)) (Ok (two_bytes_at (drop at l) 0))
unfolding check_entry check_content entry_faults
check-is l at = rw (entry-is l at) (go (entry_whole (drop at l)) refl)
  where
    n : ℕ
    n = two_bytes_at (drop at l) 0

    found : Item
    found = Ok (two_bytes_at (drop at l) 0)

    first : (i : ℕ) (xs : List Fault) → ◌≡◌ {A = Item} (Err (refusal bad_byte (at + (entry_lead + i)) 0)) (Err (refusal bad_byte (at + entry_lead + i) 0))
    first i xs = ap (λ (x : ℕ). Err (refusal bad_byte x 0)) (omega arith)

    labelled : (b : Bool) → at + entry_lead + n ≤ length l
        → cond b (cond (leb (at + entry_lead + n) (first_low l (at + entry_lead) n)) found (Err (refusal bad_byte (first_low l (at + entry_lead) n) 0)))
        (Err (refusal bad_list at 0))
        ≡ judged_entry at (ask b (at_line bad_list 0 0) ++ low_bytes 0 0 (entry_content (drop at l))) found
    labelled true h =
        rw (drop-drop entry_lead at l)
        (low-is (λ xs. judged_entry at xs found) (λ x. Err (refusal bad_byte x 0)) 0 (at + entry_lead) first l n (at + entry_lead) 0 (omega arith) h)
    labelled false h = rw (add-zero at)

    go : (b : Bool) → entry_whole (drop at l) ≡ b
        → by_head (head_of b (drop at l)) (Err (refusal bad_list at 0)) (λ label m. check_content l at label m)
        ≡ judged_entry at (ask (b && leb (entry_label (drop at l)) max_label) (at_line bad_list 0 0) ++ low_bytes 0 0 (entry_content (drop at l))) found
    go true e = labelled (leb (entry_label (drop at l)) max_label) (omega (arith, (whole_back l at (entry-is l at ∙ ap (λ (b : Bool). head_of b (drop at l)) e)).within))
    go false e = rw (add-zero at)

-- what the check makes of the pieces, with n entries before them
abbrev pub summary : ℕ → Reply Parsed → ListJudged
summary n (refused r) = Err r
summary n (done d) = Ok (n + length d.fields)

summary-before : (n : ℕ) (f : Field) (r : Reply Parsed) → summary (n + 1) r ≡ summary n (and_before f r)
summary-before n f (refused r) = refl
summary-before n f (done d) = let q : (n + 1) + length d.fields ≡ n + suc (length d.fields) = omega arith in rw q

-- one entry, and then what is known of those after it
entry-then : (l : List ℕ) (at n : ℕ) (k : ℕ → List ℕ → Reply Parsed) (f : ℕ → ListJudged)
    → ((m : ℕ) → f m ≡ summary (n + 1) (k (at + (entry_lead + m)) (drop (at + (entry_lead + m)) l)))
    → after_entry (check_entry l at) f ≡ summary n (piece_then entry_form (entry_faults (drop at l)) at (drop at l) k)
entry-then l at n k f h = rw (check-is l at) (go (entry_faults (drop at l)))
  where
    go : (xs : List Fault) → after_entry (judged_entry at xs (Ok (two_bytes_at (drop at l) 0))) f ≡ summary n (piece_then entry_form xs at (drop at l) k)
    go [] =
        let w : ℕ = entry_width (drop at l) in
        h (two_bytes_at (drop at l) 0)
        ∙ (ap (λ (u : List ℕ). summary (n + 1) (k (at + w) u)) (sym (drop-drop w at l)) ∙ summary-before n (entry_field (drop at l)) (k (at + w) (drop w (drop at l))))
    go (x ∷ xs) = refl

ends-or : (b : Bool) (n : ℕ) (t : List ℕ) (x : ListJudged) (y : Reply Parsed) → x ≡ summary n y → cond b (Ok n) x ≡ summary n (cond b (done (parsed [] t)) y)
ends-or true n t x y e = rw (add-zero n)
ends-or false n t x y e = e

from_is : (l : List ℕ) (k at n : ℕ) → check_from l at n k ≡ summary n (pieces entry_form k at (drop at l))
unfolding check_from pieces
from_is l zero at n = rw (end_is l at) (ends-or (is_nil (drop at l)) n (drop at l) _ _ refl)
from_is l (suc k) at n =
    rw (end_is l at) (ends-or (is_nil (drop at l)) n (drop at l) _ _
    (entry-then l at n (λ p t. pieces entry_form k p t) (λ m. check_from l (at + (entry_lead + m)) (n + 1) k) (λ m. from_is l k (at + (entry_lead + m)) (n + 1))))

-- ---- what the fields of a checked list are

-- the pieces from an offset on
record Pieces (l : List ℕ) (k at : ℕ) (es : List Field) : Type 0 where
  reads : Reads l at es
  whole : at + list_size es ≡ length l
  few : length es ≤ k

module _ (l : List ℕ) where
  no-piece : (k at : ℕ) (es : List Field) (t u : List ℕ) → at ≤ length l → is_nil (drop at l) ≡ true → done (parsed [] u) ≡ done (parsed es t) → Pieces l k at es
  no-piece k at es t u h e q =
      let n : length (drop at l) ≡ 0 = ap length (nil_is (drop at l) e) in
      subst (λ (d : Parsed). Pieces l k at d.fields) (done-same q) (record { reads = tt; whole = omega (arith, n, length-drop at l); few = omega arith })

  more-pieces : (k at : ℕ) (gs : List Field) → entry_faults (drop at l) ≡ [] → ((p : ℕ) → p ≡ at + entry_width (drop at l) → p ≤ length l → Pieces l k p gs)
      → Pieces l (suc k) at (entry_field (drop at l) ∷ gs)
  unfolding entry_faults
  more-pieces k at gs e ih =
      let a = ask-none (entry_ok (drop at l)) _ _ e in
      let w : entry_whole (drop at l) ≡ true = and_left (entry_whole (drop at l)) _ a.0 in
      let h : entry_at l at ≡ a_head (entry_label (drop at l)) (two_bytes_at (drop at l) 0) = entry-is l at ∙ ap (λ (b : Bool). head_of b (drop at l)) w in
      let b = whole_back l at h in
      let n : length (entry_content (drop at l)) ≡ two_bytes_at (drop at l) 0 = b.content-length in
      let r = ih (at + (entry_lead + length (entry_content (drop at l)))) (omega (arith, n)) (omega (arith, n, b.within)) in
      record {
        reads = (h ∙ ap (a_head (entry_label (drop at l))) (sym n), ap (list_content l at) n ∙ b.content-so, r.reads);
        whole = omega (arith, r.whole);
        few = omega (arith, r.few);
      }

  pieces-read : (k at : ℕ) (es : List Field) (t : List ℕ) → at ≤ length l → pieces entry_form k at (drop at l) ≡ done (parsed es t) → Pieces l k at es
  unfolding pieces
  pieces-read zero at es t h e = go (is_nil (drop at l)) refl e
    where
      go : (b : Bool) → is_nil (drop at l) ≡ b → cond b (done (parsed [] (drop at l))) (refused (refusal too_many_lines at 0)) ≡ done (parsed es t) → Pieces l zero at es
      go true q x = no-piece zero at es t (drop at l) h q x
      go false q x = refused-done x
  pieces-read (suc k) at es t h e = go (λ p gs u. pieces-read k p gs u) (is_nil (drop at l)) refl e
    where
      go : ((p : ℕ) (gs : List Field) (u : List ℕ) → p ≤ length l → pieces entry_form k p (drop p l) ≡ done (parsed gs u) → Pieces l k p gs)
          → (b : Bool) → is_nil (drop at l) ≡ b
          → cond b (done (parsed [] (drop at l))) (piece_then entry_form (entry_faults (drop at l)) at (drop at l) (λ p u. pieces entry_form k p u)) ≡ done (parsed es t)
          → Pieces l (suc k) at es
      go ih true q x = no-piece (suc k) at es t (drop at l) h q x
      go ih false q x =
          let r = piece_back entry_form (entry_faults (drop at l)) at (drop at l) (λ p u. pieces entry_form k p u) es t refl x in
          subst (λ (fs : List Field). Pieces l (suc k) at fs) (sym r.2)
          (more-pieces k at r.1 r.0 (λ p s g. ih p r.1 t g
          (ap₂ (λ (y : ℕ) (u : List ℕ). pieces entry_form k y u) s (ap (λ (y : ℕ). drop y l) s ∙ sym (drop-drop (entry_width (drop at l)) at l)) ∙ r.3)))

-- A list whose n entries are checked.
pub record Entered (l : List ℕ) (n : ℕ) : Type 0 where
  pub entries : List Field
  pub left : List ℕ
  pub scanned : pieces entry_form max_entries 0 l ≡ done (parsed entries left)
  pub count : n ≡ length entries
  pub reads : Reads l 0 entries
  pub whole : list_size entries ≡ length l
  pub few : n ≤ max_entries

pub check-entered : (l : List ℕ) (n : ℕ) → check_from l 0 0 max_entries ≡ Ok n → Entered l n
check-entered l n e = go (pieces entry_form max_entries 0 l) refl (sym (from_is l max_entries 0 0) ∙ e)
  where
    go : (r : Reply Parsed) → pieces entry_form max_entries 0 l ≡ r → summary 0 r ≡ Ok n → Entered l n
    go (refused r) q h = let z : ◌≡◌ {A = ℕ} 0 1 = cc in absurd (omega arith)
    go (done d) q h =
        let c : 0 + length d.fields ≡ n = cc in
        let p = pieces-read l max_entries 0 d.fields d.rest (omega arith) q in
        record {
          entries = d.fields;
          left = d.rest;
          scanned = q;
          count = omega (arith, c);
          reads = p.reads;
          whole = omega (arith, p.whole);
          few = omega (arith, c, p.few);
        }

-- A list that is refused by 7, 21 or 6.
pub check-refused : (l : List ℕ) (r : Refusal) → check_from l 0 0 max_entries ≡ Err r → pieces entry_form max_entries 0 l ≡ refused r
check-refused l r e = go (pieces entry_form max_entries 0 l) refl (sym (from_is l max_entries 0 0) ∙ e)
  where
    go : (x : Reply Parsed) → pieces entry_form max_entries 0 l ≡ x → summary 0 x ≡ Err r → pieces entry_form max_entries 0 l ≡ refused r
    go (refused y) q h = let z : y ≡ r = cc in q ∙ ap refused z
    go (done d) q h = let z : ◌≡◌ {A = ℕ} 0 1 = cc in absurd (omega arith)
