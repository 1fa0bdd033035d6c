-- How large the largest accepted set is: none has more than 35,058 bytes (`largest-set`), and one has as many (`largest-judged`).
--
-- How it goes. A set 6310 must have five labels whose lines are shorter than 69 bytes, the most that any line has; what they leave is taken off 512 lines of 69 bytes. In the other four
-- types no label stands twice, so a set is no larger than the longest lines of all rows of its table together. Both are one law on totals over labels (`total-within`).
use mathlib.Core.Path.{◌≡◌, refl, sym, ap, subst}
use mathlib.Core.Bool.{Bool, true, false, cond, not, ◌&&◌, ◌||◌, true≢false}
use mathlib.Core.List.{List, [], ◌∷◌, map}
use mathlib.Core.Logic.{◌≢◌}
use Prim.Native.Nat.{ℕ, zero, suc, ◌+◌, ◌*◌, ◌-◌, ◌≤◌, ◌<◌}
use native.Mathlib.Omega.{arith}
use lib.Dec.{leb, eqb}
use lib.ListN.{length, replicate}
use borrow.Author.Tests.{leb-true, eqb-true, eq-eqb, ne_eqb}
use Rattle.meaning.specs.declared.Row.{Row}
use Rattle.meaning.specs.declared.Shape.{Shape}
use Rattle.meaning.specs.declared.SetType.{SetType}
use Rattle.meaning.specs.declared.SetType.TheVariants.{T6300, T6301, T6302, T6310, T6311}
use Rattle.meaning.specs.Limits.{max_lines, type_number}
use Rattle.meaning.specs.Field.{Field, field, no_field, labels, label_at_line, elem}
use Rattle.meaning.specs.Lines.{line_lead, line_end, least_byte, line_size, size}
use Rattle.meaning.specs.Tables.{set_level, M, rows6300, rows6301, rows6302, rows6310, rows6311, table, row_label, find_in, find}
use Rattle.meaning.specs.FieldTable.{field_table, field_row_in, field_row, has_length, fits_row, fits_label}
use Rattle.meaning.specs.Rules.{fits}
use Rattle.meaning.specs.Reading.{judge}
use Rattle.meaning.specs.Computes.{computes}
use Rattle.meaning.proofs.Asking.{line, set_of}
use Rattle.meaning.proofs.Bools.{and_left, and_right, or_right, not-true, Every}
use Rattle.meaning.proofs.FieldLaws.{longest, fits-short}
use Rattle.meaning.proofs.SizeLaws.{longest_line}
use Rattle.meaning.proofs.RowLaws.{all_rows, found}
use Rattle.keeps.specs.Keeps.{HasRow, KeepsRules, SetAtFront}
use Rattle.keeps.proofs.TableFacts.{no-absurd, label_of, Regular, row-regular, row-label}
use Rattle.keeps.proofs.Exact.{every_of, accepted-exactly}
use Rattle.std.specs.Prelude.{None, Ok}

-- ---- totals over labels

abbrev total : (ℕ → ℕ) → List ℕ → ℕ
total w [] = 0
total w (l ∷ ls) = w l + total w ls

-- the same numbers, but none for m
abbrev except : ℕ → (ℕ → ℕ) → ℕ → ℕ
except m w l = cond (eqb m l) 0 (w l)

-- no label stands twice
abbrev Distinct : List ℕ → Type 0
Distinct [] = Unit
Distinct (l ∷ ls) = (elem l ls ≡ false) × Distinct ls

total-except : (w : ℕ → ℕ) (m : ℕ) (ls : List ℕ) → total (except m w) ls ≤ total w ls
total-except w m [] = omega arith
total-except w m (l ∷ ls) = go (eqb m l) (total-except w m ls)
  where
    go : (b : Bool) → total (except m w) ls ≤ total w ls → cond b 0 (w l) + total (except m w) ls ≤ w l + total w ls
    go true h = omega arith
    go false h = omega arith

total-without : (w : ℕ → ℕ) (m : ℕ) (ls : List ℕ) → elem m ls ≡ false → total w ls ≡ total (except m w) ls
unfolding elem
total-without w m [] e = refl
total-without w m (l ∷ ls) e = go (eqb m l) e (total-without w m ls)
  where
    go : (b : Bool) → b || elem m ls ≡ false → (elem m ls ≡ false → total w ls ≡ total (except m w) ls) → w l + total w ls ≡ cond b 0 (w l) + total (except m w) ls
    go true q ih = absurd (true≢false q)
    go false q ih = ap (λ (n : ℕ). w l + n) (ih q)

total-with : (w : ℕ → ℕ) (m : ℕ) (ls : List ℕ) → elem m ls ≡ true → w m + total (except m w) ls ≤ total w ls
unfolding elem
total-with w m [] e = absurd (true≢false (sym e))
total-with w m (l ∷ ls) e = go (eqb m l) refl e (total-with w m ls)
  where
    go : (b : Bool) → eqb m l ≡ b → b || elem m ls ≡ true → (elem m ls ≡ true → w m + total (except m w) ls ≤ total w ls)
        → w m + (cond b 0 (w l) + total (except m w) ls) ≤ w l + total w ls
    go true p q ih = omega (arith, ap w (eqb-true m l p), total-except w m ls)
    go false p q ih = omega (arith, ih q)

-- labels that differ, all of them among others, do not come to more than those
total-within : (w : ℕ → ℕ) (ms ls : List ℕ) → Distinct ms → Every (λ m. elem m ls ≡ true) ms → total w ms ≤ total w ls
total-within w [] ls d h = omega arith
total-within w (m ∷ ms) ls d h = omega (arith, total-without w m ms d.0, total-within (except m w) ms ls d.1 h.1, total-with w m ls h.0)

-- ---- the bytes of lines, by their labels

-- the content of a line fits its label
abbrev Fits : Field → Type 0
Fits f = fits_label f.label f.content ≡ true

-- the most bytes that a line with this label has, and how many fewer these are than the 69 of the longest lines
abbrev most_of : ℕ → ℕ
most_of l = (field_row l).most + (line_lead + line_end)

abbrev leaves : ℕ → ℕ
leaves l = longest_line - most_of l

line-most : (f : Field) → Fits f → line_size f ≤ most_of f.label
unfolding fits_label fits_row has_length
line-most f e =
    let x = field_row f.label in
    let c = length f.content in
    let within = and_left (leb x.least c && leb c x.most) _ e in
    omega (arith, leb-true c x.most (and_right (leb x.least c) _ within))

line-leaves : (f : Field) → Fits f → line_size f + leaves f.label ≤ longest_line
unfolding fits
line-leaves f e = omega (arith, line-most f e, (fits-short (record { set_type = None }) f e).few_bytes)

size-total : (fs : List Field) → Every Fits fs → size fs ≤ total most_of (labels fs)
size-total [] h = omega arith
size-total (f ∷ fs) h = omega (arith, line-most f h.0, size-total fs h.1)

size-leaves : (fs : List Field) → Every Fits fs → size fs + total leaves (labels fs) ≤ length fs * longest_line
size-leaves [] h = omega arith
size-leaves (f ∷ fs) h = omega (arith, line-leaves f h.0, size-leaves fs h.1)

-- ---- which labels stand on some line

stands : (fs : List Field) (k : ℕ) → k < length fs → elem (label_at_line fs k) (labels fs) ≡ true
unfolding elem
stands [] k h = absurd (omega arith)
stands (f ∷ fs) zero h = rw (eq-eqb f.label f.label refl) refl
stands (f ∷ fs) (suc k) h = or_right (eqb (label_at_line fs k) f.label) (stands fs k (omega arith))

stands-not : (l : ℕ) (fs : List Field) → ((k : ℕ) → k < length fs → l ≡ label_at_line fs k → ⊥) → elem l (labels fs) ≡ false
unfolding elem
stands-not l [] h = refl
stands-not l (f ∷ fs) h = rw (ne_eqb l f.label (h 0 (omega arith))) (stands-not l fs (λ k m. h (suc k) (omega arith)))

distinct-lines : (fs : List Field) → ((i j : ℕ) → i < length fs → j < length fs → i ≢ j → label_at_line fs i ≡ label_at_line fs j → ⊥) → Distinct (labels fs)
distinct-lines [] h = tt
distinct-lines (f ∷ fs) h = (
  stands-not f.label fs (λ k m. h 0 (suc k) (omega arith) (omega arith) (λ q. omega arith)),
  distinct-lines fs (λ i j a b n. h (suc i) (suc j) (omega arith) (omega arith) (λ q. n (omega arith))),
)

every-label : (P : ℕ → Type 0) (fs : List Field) → ((k : ℕ) → k < length fs → P (label_at_line fs k)) → Every P (labels fs)
every-label P [] h = tt
every-label P (f ∷ fs) h = (h 0 (omega arith), every-label P fs (λ k l. h (suc k) (omega arith)))

-- ---- sets 6310

-- the labels that they must have
abbrev required_labels : List ℕ
required_labels = 8000 ∷ 8100 ∷ 9218 ∷ 3000 ∷ 8402 ∷ []

-- of 69 bytes 8000 leaves 56, 8100 and 9218 leave 55 each, 3000 leaves 50 and 8402 leaves 54, and more if they are shorter
left_over : total leaves required_labels ≡ 270
unfolding field_row field_row_in field_table row_label
left_over = refl

-- 512 lines of 69 bytes, less what the required ones leave
abbrev pub largest_size : ℕ
largest_size = 35058

all-distinct : Distinct required_labels
unfolding elem
all-distinct = (refl, (refl, (refl, (refl, (refl, tt)))))

module _ (fs : List Field) (k : KeepsRules T6310 fs) where
  required : (l : ℕ) (r : Row) → HasRow T6310 l r → r.under ≡ set_level → r.required ≡ M → elem l (labels fs) ≡ true
  required l r e u m =
      let x = k.set-complete l (r, e, u) (r, e, m) in
      subst (λ (n : ℕ). elem n (labels fs) ≡ true) x.2 (stands fs x.0 x.1)

  all-required : Every (λ l. elem l (labels fs) ≡ true) required_labels
  unfolding table rows6310 find find_in row_label
  all-required =
      (required 8000 _ refl refl refl, (required 8100 _ refl refl refl, (required 9218 _ refl refl refl, (required 3000 _ refl refl refl, (required 8402 _ refl refl refl, tt)))))

  size-6310 : Every Fits fs → length fs ≤ max_lines → size fs ≤ largest_size
  size-6310 h few = omega (arith, few, left_over, size-leaves fs h, total-within leaves required_labels (labels fs) all-distinct all-required)

-- ---- sets of the other types

abbrev row_labels : List Row → List ℕ
row_labels rs = map (λ (r : Row). r.label) rs

-- each of their rows is of a label that stands at set level, once; that this label is among those of the rows is asked along with it
abbrev plain : List Row → Row → Bool
plain rs r = eqb r.under set_level && (not r.many && elem r.label (row_labels rs))

record Plain (rs : List Row) (l : ℕ) (r : Row) : Type 0 where
  top-level : r.under ≡ set_level
  one : r.many ≡ false
  listed : elem l (row_labels rs) ≡ true

-- names and odd labels have no such row, so that the label is the row's
plain_row : (t : SetType) (l : ℕ) (r : Row) → all_rows (plain (table t)) (table t) ≡ true → HasRow t l r → Plain (table t) l r
unfolding find
plain_row t l r p e =
    let x = (found (plain (table t)) (table t) (row_label l) r e p).0 in
    let y = and_right (eqb r.under set_level) _ x in
    let top : r.under ≡ set_level = eqb-true _ _ (and_left (eqb r.under set_level) _ x) in
    let one-line : r.many ≡ false = not-true r.many (and_left (not r.many) _ y) in
    let g : Regular r = row-regular t l r e in
    let same : l ≡ r.label = label_of l r.label (sym (row-label t l r e)) (λ q. no-absurd (g.name-repeats q) one-line) (λ q. omega (arith, g.under-name q)) in
    record { top-level = top; one = one-line; listed = subst (λ (n : ℕ). elem n (row_labels (table t)) ≡ true) (sym same) (and_right (not r.many) _ y) }

module _ (t : SetType) (p : all_rows (plain (table t)) (table t) ≡ true) (fs : List Field) (k : KeepsRules t fs) where
  -- the row of a line
  of-line : (i : ℕ) → i < length fs → (r : Row) × HasRow t (label_at_line fs i) r × Plain (table t) (label_at_line fs i) r
  of-line i h = let x = k.in_table i h in (x.0, x.1, plain_row t (label_at_line fs i) x.0 p x.1)

  once : (i j : ℕ) → i < length fs → j < length fs → i ≢ j → label_at_line fs i ≡ label_at_line fs j → ⊥
  once i j a b n e =
      let x = of-line i a in
      let y = k.not-repeated-in-set i j a b n e (x.0, x.1, x.2.top-level) in
      no-absurd y.2 (plain_row t (label_at_line fs i) y.0 p y.1).one

  size-plain : Every Fits fs → size fs ≤ total most_of (row_labels (table t))
  size-plain h = omega (arith, size-total fs h, total-within most_of (labels fs) (row_labels (table t)) (distinct-lines fs once) all_listed)
    where
      all_listed : Every (λ l. elem l (row_labels (table t)) ≡ true) (labels fs)
      all_listed = every-label (λ l. elem l (row_labels (table t)) ≡ true) fs (λ i a. (of-line i a).2.listed)

-- ---- the largest of all

size-of-type : (t : SetType) (fs : List Field) → KeepsRules t fs → Every Fits fs → length fs ≤ max_lines → size fs ≤ largest_size
unfolding table rows6300 rows6301 rows6302 rows6311 row_label elem field_table field_row_in field_row
size-of-type T6300 fs k h few = omega (arith, size-plain T6300 refl fs k h)
size-of-type T6301 fs k h few = omega (arith, size-plain T6301 refl fs k h)
size-of-type T6302 fs k h few = omega (arith, size-plain T6302 refl fs k h)
size-of-type T6310 fs k h few = size-6310 fs k h few
size-of-type T6311 fs k h few = omega (arith, size-plain T6311 refl fs k h)

-- no accepted set has more bytes
pub largest-set : (s : List ℕ) (x : Shape) → judge s ≡ Ok x → x.length ≤ largest_size
largest-set s x e =
    let a : SetAtFront s x = (accepted-exactly s x).0 e in
    let fs = a.lines in
    let few = size-of-type a.set-type fs a.keeps.rules (every_of Fits fs no_field a.keeps.rules.contents-fit) a.keeps.few-lines in
    subst (λ (y : Shape). y.length ≤ largest_size) (sym a.shape_is) few

-- and this one has as many: the four that are required beside the sum, and 507 others, each as long as it may be
pub largest : List ℕ
largest = set_of (line 8000 "6310" ∷ line 9218 "02.10" ∷ line 3000 "1234567890" ∷ line 8402 "EKG001" ∷ replicate 507 (field 6220 (replicate longest least_byte)))

pub largest-judged : judge largest ≡ Ok (record { length = largest_size; lines = max_lines; settype = type_number T6310 })
unfolding computes largest
largest-judged = refl
