-- A buffer that holds the lines of a set, after each of the writes of recoding: it holds the recoded lines, and zeros.
use mathlib.Core.Path.{◌≡◌, refl, sym, ap, ap₂, ◌∙◌}
use mathlib.Core.Bool.{Bool, true, false, not}
use mathlib.Core.List.{List, [], ◌∷◌, ◌++◌, map, append_assoc}
use mathlib.Core.Logic.{◌≢◌}
use Prim.Native.Nat.{ℕ, zero, suc, ◌+◌, ◌-◌, ◌<◌}
use native.Mathlib.Omega.{arith}
use lib.Dec.{leb, eqb}
use lib.ListN.{length, get_or, take, drop, set, replicate, length-append, length-map, take-append-drop}
use lib.Seq.{take_at, set_at, set-append_left}
use borrow.Author.Tests.{eq-eqb, ne_eqb, eqb-false, leb-true, leb-false, le-leb}
use Rattle.meaning.specs.Digits.{digits}
use Rattle.meaning.specs.Field.{Field, field, label_at_line, content_at_line}
use Rattle.meaning.specs.Refusals.{at_byte, no_such_character}
use Rattle.meaning.specs.Lines.{length_digits, label_digits, line_lead, cr, lf, line_size, line_then, size, offset, render, most_seven_bits}
use Rattle.meaning.specs.Groups.{State, first, next}
use Rattle.meaning.specs.Rules.{Profile, role_in, rows_of, line_rules, rules_from}
use Rattle.meaning.specs.Tables.{find}
use Rattle.meaning.specs.Lists.{sum_field, sum_digits, sum_line, sum_place}
use Rattle.meaning.specs.Corrections.{resum}
use Rattle.meaning.proofs.Bools.{Every, not-true}
use Rattle.meaning.proofs.FaultLaws.{append-none, ask-none, Plain}
use Rattle.meaning.proofs.DigitLaws.{plain-digits, digits-all}
use Rattle.meaning.proofs.LineLaws.{length-render, render-split}
use Rattle.meaning.proofs.CorrectionLaws.{leaves}
use Rattle.meaning.proofs.WriterLaws.{Single}
use Rattle.meaning.proofs.SevenLaws.{single-9206, only, no_table}
use Rattle.meaning_recode.specs.declared.Code.{Code}
use Rattle.meaning_recode.specs.Codes.{no_byte, table_into, recoded}
use Rattle.meaning_recode.specs.Recoding.{charset_of, no_character_bytes, no_character_from, recode_field, charset_field, with_charset}
use Rattle.meaning_recode.proofs.CodeLaws.{low-stays, high-stays}
use Rattle.byte_put.specs.Places.{over}
use Rattle.byte_high.specs.High.{seven_bits}
use Rattle.correct_put.specs.Middle.{replaced}
use Rattle.correct_plan.proofs.TotalLaws.{Headed, size-at}
use Rattle.correct.proofs.LineChange.{replaced-between, sum-replaced}
use Rattle.recode_bytes.specs.Mapped.{entry, mapped}
use Rattle.recode_bytes.proofs.BytesLaws.{mapped-both, every-entry}
use Rattle.recode_plan.proofs.CharsetPlaceLaws.{mark-one, charset-byte}
use Rattle.recode_plan.proofs.RecodedLaws.{OneByte, size-recoded, size-marked, one-byte-recoded, size-gained, table-codes}
use Rattle.recode_put.specs.Recoded.{line_three, gained_bytes, zeroed_after, remarked, mapped_front, with_line}
use Rattle.meaning.specs.Results.{Known}
use Rattle.std.specs.Prelude.{None, Some}

-- ---- every byte mapped is every content recoded

module _ (w : Code) where
  abbrev t : List ℕ
  t = table_into w

  -- digits, and the end of a line, stay as they are
  low-tests : (c : List ℕ) → Plain c → Every (λ b. seven_bits b ≡ true) c
  low-tests [] h = tt
  low-tests (b ∷ c) h = (le-leb b most_seven_bits h.0, low-tests c h.1)

  low-mapped : (c : List ℕ) → Plain c → mapped t c ≡ c
  low-mapped c h = every-entry t (table-codes w) c (low-tests c h)

  digits-mapped : (k n : ℕ) → mapped t (digits k n) ≡ digits k n
  digits-mapped k n = low-mapped (digits k n) (plain-digits (digits k n) (digits-all k n))

  -- what has a character is a byte
  recoded-byte : (b : ℕ) → (recoded w b ≡ no_byte → ⊥) → recoded w b < 256
  recoded-byte b n = go (leb 128 b) refl
    where
      go : (x : Bool) → leb 128 b ≡ x → recoded w b < 256
      go true q = let h = high-stays w b (leb-true 128 b q) in omega (arith, h.1, n)
      go false q = let l = leb-false 128 b q in omega (arith, low-stays w b l, l)

  entry-is : (b : ℕ) → (recoded w b ≡ no_byte → ⊥) → entry t b ≡ recoded w b
  entry-is b n = let h = recoded-byte b n in omega (arith, h)

  content-mapped : (k i : ℕ) (c : List ℕ) → no_character_bytes w k i c ≡ [] → mapped t c ≡ map (recoded w) c
  unfolding mapped
  content-mapped k i [] e = refl
  content-mapped k i (b ∷ c) e =
      let a = ask-none (not (eqb (recoded w b) no_byte)) (at_byte no_such_character k i) (no_character_bytes w k (suc i) c) e in
      ap₂ (λ (x : ℕ) (y : List ℕ). x ∷ y) (entry-is b (eqb-false (recoded w b) no_byte (not-true (eqb (recoded w b) no_byte) a.0))) (content-mapped k (suc i) c a.1)

  line-mapped : (k : ℕ) (f : Field) (u : List ℕ) → no_character_bytes w k 0 f.content ≡ [] → mapped t (line_then f u) ≡ line_then (recode_field w f) (mapped t u)
  line-mapped k f u e =
      let three : List ℕ = digits length_digits (line_size f) in
      let four : List ℕ = digits label_digits f.label in
      let n : line_size f ≡ line_size (recode_field w f) = omega (arith, length-map f.content (recoded w)) in
      let end : mapped t (cr ∷ lf ∷ u) ≡ cr ∷ lf ∷ mapped t u =
      mapped-both t (cr ∷ lf ∷ []) u ∙ ap (λ (x : List ℕ). x ++ mapped t u) (low-mapped (cr ∷ lf ∷ []) (omega arith, (omega arith, tt))) in
      mapped-both t three (four ++ (f.content ++ (cr ∷ lf ∷ u)))
      ∙ ap₂ (λ (x y : List ℕ). x ++ y) (digits-mapped length_digits (line_size f) ∙ ap (digits length_digits) n)
      (mapped-both t four (f.content ++ (cr ∷ lf ∷ u))
      ∙ ap₂ (λ (x y : List ℕ). x ++ y) (digits-mapped label_digits f.label)
      (mapped-both t f.content (cr ∷ lf ∷ u) ∙ ap₂ (λ (x y : List ℕ). x ++ y) (content-mapped k 0 f.content e) end))

  lines-mapped : (k : ℕ) (fs : List Field) → no_character_from w k fs ≡ [] → mapped t (render fs []) ≡ render (map (recode_field w) fs) []
  unfolding no_character_from
  lines-mapped k [] e = every-entry t (table-codes w) [] tt
  lines-mapped k (f ∷ fs) e =
      let a = append-none (no_character_bytes w k 0 f.content) (no_character_from w (k + 1) fs) e in
      line-mapped k f (render fs []) a.0 ∙ ap (line_then (recode_field w f)) (lines-mapped (k + 1) fs a.1)

-- ---- the byte that names the code page is 9206 marked

-- the line that has j lines before it is 9206, no other is, and its content has one byte
pub record OnlyLine (fs : List Field) (j : ℕ) : Type 0 where
  pub inside : j < length fs
  pub named : label_at_line fs j ≡ 9206
  pub one : length (content_at_line fs j) ≡ 1
  pub others : (i : ℕ) → i < length fs → label_at_line fs i ≡ 9206 → i ≡ j

module _ (w : Code) where
  none-marked : (fs : List Field) → ((i : ℕ) → i < length fs → label_at_line fs i ≢ 9206) → map (charset_field w) fs ≡ fs
  none-marked [] h = refl
  none-marked (f ∷ fs) h = rw (ne_eqb f.label 9206 (h 0 (omega arith))) (ap (λ (x : List Field). f ∷ x) (none-marked fs (λ i l. h (suc i) (omega arith))))

  line-append : (f : Field) (u : List ℕ) → line_then f u ≡ line_then f [] ++ u
  line-append f u = render-split (f ∷ []) u

  -- a byte stored after a line
  set_after : (p r : List ℕ) (i x : ℕ) → set (p ++ r) (length p + i) x ≡ p ++ set r i x
  set_after [] r i x = ap (λ (n : ℕ). set r n x) (omega arith)
  set_after (y ∷ p) r i x =
      let n : suc (length p) + i ≡ suc (length p + i) = omega arith in
      rw n (ap (λ (u : List ℕ). y ∷ u) (set_after p r i x))

  one-byte-so : (c : List ℕ) → length c ≡ 1 → (x : ℕ) × (c ≡ x ∷ [])
  one-byte-so [] e = absurd (omega arith)
  one-byte-so (x ∷ []) e = (x, refl)
  one-byte-so (x ∷ y ∷ c) e = absurd (omega arith)

  -- a line of 9206 with its one byte stored
  line_marked : (f : Field) (u : List ℕ) → f.label ≡ 9206 → length f.content ≡ 1 → set (line_then f u) line_lead (get_or (charset_of w) 0 0) ≡ line_then (field 9206 (charset_of w)) u
  line_marked f u l n =
      let c = one-byte-so f.content n in
      let lead : List ℕ = digits length_digits 10 ++ digits label_digits 9206 in
      let was : line_then f u ≡ lead ++ (c.0 ∷ cr ∷ lf ∷ u) = ap₂ (λ (k : ℕ) (x : List ℕ). line_then (field k x) u) l c.1 in
      let is : line_then (field 9206 (charset_of w)) u ≡ lead ++ (get_or (charset_of w) 0 0 ∷ cr ∷ lf ∷ u) = ap (λ (x : List ℕ). line_then (field 9206 x) u) (mark-one w) in
      ap (λ (x : List ℕ). set x line_lead (get_or (charset_of w) 0 0)) was ∙ (set_at lead c.0 (cr ∷ lf ∷ u) (get_or (charset_of w) 0 0) line_lead refl ∙ sym is)

  pub lines-marked : (fs : List Field) (j : ℕ) → OnlyLine fs j → set (render fs []) (offset fs j + line_lead) (get_or (charset_of w) 0 0) ≡ render (map (charset_field w) fs) []
  lines-marked [] j o = absurd (omega (arith, o.inside))
  lines-marked (f ∷ fs) zero o =
      let rest : map (charset_field w) fs ≡ fs = none-marked fs (λ i l e. let z = o.others (suc i) (omega arith) e in absurd (omega (arith, z))) in
      rw (rest, eq-eqb f.label 9206 o.named) (line_marked f (render fs []) o.named o.one)
  lines-marked (f ∷ fs) (suc j) o =
      let m : ℕ = get_or (charset_of w) 0 0 in
      let rest : OnlyLine fs j =
      record { inside = omega (arith, o.inside); named = o.named; one = o.one; others = λ i l e. let z = o.others (suc i) (omega arith) e in omega (arith, z) } in
      let no : f.label ≢ 9206 = λ e. let z = o.others 0 (omega arith) e in absurd (omega (arith, z)) in
      let at : line_size f + offset fs j + line_lead ≡ length (line_then f []) + (offset fs j + line_lead) = omega (arith, length-render (f ∷ []) []) in
      rw (ne_eqb f.label 9206 no)
      (ap₂ (λ (x : List ℕ) (n : ℕ). set x n m) (line-append f (render fs [])) at
      ∙ (set_after (line_then f []) (render fs []) (offset fs j + line_lead) m
      ∙ (ap (λ (x : List ℕ). line_then f [] ++ x) (lines-marked fs j rest) ∙ sym (line-append f (render (map (charset_field w) fs) [])))))

  label-recoded : (fs : List Field) (i : ℕ) → label_at_line (map (recode_field w) fs) i ≡ label_at_line fs i
  label-recoded [] i = refl
  label-recoded (f ∷ fs) zero = refl
  label-recoded (f ∷ fs) (suc i) = label-recoded fs i

  length-recoded : (fs : List Field) (i : ℕ) → length (content_at_line (map (recode_field w) fs) i) ≡ length (content_at_line fs i)
  length-recoded [] i = refl
  length-recoded (f ∷ fs) zero = length-map f.content (recoded w)
  length-recoded (f ∷ fs) (suc i) = length-recoded fs i

  -- recoding keeps labels and lengths
  pub only-recoded : (fs : List Field) (j : ℕ) → OnlyLine fs j → OnlyLine (map (recode_field w) fs) j
  only-recoded fs j o =
      let n : length (map (recode_field w) fs) ≡ length fs = length-map fs (recode_field w) in
      record {
        inside = omega (arith, n, o.inside);
        named = label-recoded fs j ∙ o.named;
        one = length-recoded fs j ∙ o.one;
        others = λ i l e. o.others i (omega (arith, n)) (sym (label-recoded fs i) ∙ e);
      }

  offset-recoded : (fs : List Field) (j : ℕ) → offset (map (recode_field w) fs) j ≡ offset fs j
  offset-recoded [] j = refl
  offset-recoded (f ∷ fs) zero = refl
  offset-recoded (f ∷ fs) (suc j) = omega (arith, offset-recoded fs j, length-map f.content (recoded w))

-- lines that keep the rules have at most one 9206
only-from : (p : Profile) → Single 9206 (find (rows_of p) 9206) → (st : State) (k : ℕ) (fs : List Field) → rules_from p st k fs ≡ [] → (j : ℕ) → j < length fs
    → label_at_line fs j ≡ 9206 → (i : ℕ) → i < length fs → label_at_line fs i ≡ 9206 → i ≡ j
unfolding rules_from
only-from p s st k [] h j l e i m g = absurd (omega arith)
only-from p s st k (f ∷ fs) h zero l e zero m g = refl
only-from p s st k (f ∷ fs) h zero l e (suc i) m g = absurd (only p s st k f fs h e i (omega arith) g)
only-from p s st k (f ∷ fs) h (suc j) l e zero m g = absurd (only p s st k f fs h g j (omega arith) e)
only-from p s st k (f ∷ fs) h (suc j) l e (suc i) m g =
    ap suc (only-from p s (next (role_in p st f) st k f.label) (k + 1) fs (append-none (line_rules (role_in p st f) p st k f) _ h).1 j (omega arith) e i (omega arith) g)

pub only-line : (p : Profile) (fs : List Field) → rules_from p first 0 fs ≡ [] → (j : ℕ) → j < length fs → label_at_line fs j ≡ 9206 → OnlyLine fs j
only-line p fs h j l e = record { inside = l; named = e; one = charset-byte p fs h j l e; others = go p.set_type h j l e }
  where
    go : (t : Known) → rules_from (record { set_type = t }) first 0 fs ≡ [] → (j : ℕ) → j < length fs → label_at_line fs j ≡ 9206
        → (i : ℕ) → i < length fs → label_at_line fs i ≡ 9206 → i ≡ j
    go (Some t) h = only-from (record { set_type = Some t }) (single-9206 t) first 0 fs h
    go None h = λ j l e. absurd (no_table fs h j l)

-- ---- the buffer

-- what stands after the lines becomes zero
zeroed-leaves : (b r : List ℕ) (used : ℕ) (gs : List Field) → used ≡ size gs → length (render gs [] ++ r) ≡ length b → zeroed_after used (render gs [] ++ r) ≡ leaves gs b
unfolding zeroed_after
zeroed-leaves b r used gs u n =
    let k : length (render gs []) ≡ used = length-render gs [] ∙ omega (arith, u) in
    ap₂ (λ (x : List ℕ) (m : ℕ). x ++ replicate (m - used) 0) (take_at (render gs []) r used k) n
    ∙ ap (λ (m : ℕ). render gs [] ++ replicate (length b - m) 0) (sym k)

-- a byte of the lines is stored
set_front : (gs : List Field) (r : List ℕ) (i x : ℕ) → i < size gs → set (render gs [] ++ r) i x ≡ set (render gs []) i x ++ r
set_front gs r i x h = set-append_left (render gs []) r i x (omega (arith, length-render gs []))

-- its first `used` bytes are the lines fs
module _ (b : List ℕ) (used : ℕ) (fs : List Field) (by : take used b ≡ render fs []) (u : used ≡ size fs) (w : Code) where
  abbrev after : List ℕ
  after = drop used b

  whole : b ≡ render fs [] ++ after
  whole = sym (take-append-drop used b) ∙ ap (λ (x : List ℕ). x ++ after) by

  -- lines of as many bytes in their place
  same-long : (gs : List Field) → size gs ≡ size fs → length (render gs [] ++ after) ≡ length b
  same-long gs n =
      omega (arith, length-append (render gs []) after, length-render gs [], length-append (render fs []) after, length-render fs [], ap length whole)

  -- the set stays as it is
  pub leaves-same : zeroed_after used b ≡ leaves fs b
  leaves-same = ap (zeroed_after used) whole ∙ zeroed-leaves b after used fs u (sym (ap length whole))

  -- 9206 is marked in lines that stand there
  marked-leaves : (gs : List Field) (j : ℕ) → OnlyLine gs j → size gs ≡ size fs → offset gs j + line_lead < size gs → size (map (charset_field w) gs) ≡ size fs
      → zeroed_after used (remarked (offset gs j + line_lead) w (render gs [] ++ after)) ≡ leaves (map (charset_field w) gs) b
  marked-leaves gs j o n i k =
      ap (zeroed_after used) (set_front gs after (offset gs j + line_lead) (get_or (charset_of w) 0 0) i ∙ ap (λ (x : List ℕ). x ++ after) (lines-marked w gs j o))
      ∙ zeroed-leaves b after used (map (charset_field w) gs) (omega (arith, u, k)) (same-long (map (charset_field w) gs) k)

  pub leaves-marked : (j : ℕ) → OnlyLine fs j → OneByte fs → zeroed_after used (remarked (offset fs j + line_lead) w b) ≡ leaves (map (charset_field w) fs) b
  leaves-marked j o n =
      ap (λ (x : List ℕ). zeroed_after used (remarked (offset fs j + line_lead) w x)) whole
      ∙ marked-leaves fs j o refl (omega (arith, size-at fs j o.inside)) (size-marked w fs n)

  -- every content is recoded
  module _ (known : no_character_from w 0 fs ≡ []) where
    abbrev gs : List Field
    gs = map (recode_field w) fs

    front-recoded : mapped_front (table_into w) used b ≡ render gs [] ++ after
    unfolding mapped_front
    front-recoded = ap (λ (x : List ℕ). mapped (table_into w) x ++ after) by ∙ ap (λ (x : List ℕ). x ++ after) (lines-mapped w 0 fs known)

    pub leaves-recoded : (j : ℕ) → OnlyLine fs j → OneByte fs
        → zeroed_after used (remarked (offset fs j + line_lead) w (mapped_front (table_into w) used b)) ≡ leaves (map (charset_field w) gs) b
    leaves-recoded j o n =
        let at : offset gs j ≡ offset fs j = offset-recoded w fs j in
        let k : size gs ≡ size fs = size-recoded w fs in
        ap₂ (λ (i : ℕ) (x : List ℕ). zeroed_after used (remarked (i + line_lead) w x)) (sym at) front-recoded
        ∙ marked-leaves gs j (only-recoded w fs j o) k (omega (arith, at, k, size-at fs j o.inside)) (size-marked w gs (one-byte-recoded w fs n) ∙ k)

-- the line is gained: recoded lines f, g and others, and what stands after them
gained-bytes : (w : Code) (f g : Field) (others : List Field) (r : List ℕ) (used : ℕ) → length f.content ≡ 4 → length g.content ≡ sum_digits → g.label ≡ 8100
    → used ≡ size (f ∷ g ∷ others)
    → with_line w used (render (f ∷ g ∷ others) [] ++ r)
    ≡ render (f ∷ sum_field (used + gained_bytes) ∷ field 9206 (charset_of w) ∷ others) (replicate (length (render (f ∷ g ∷ others) [] ++ r) - (used + gained_bytes)) 0)
unfolding with_line
gained-bytes w f g others r used four five l u =
    let p : List ℕ = render (f ∷ g ∷ []) [] in
    let q : List ℕ = render others [] in
    let c : Field = field 9206 (charset_of w) in
    let line : List ℕ = line_then c [] in
    let b : List ℕ = render (f ∷ g ∷ others) [] ++ r in
    let z : List ℕ = replicate (length b - (used + gained_bytes)) 0 in
    let n : length line ≡ gained_bytes = length-render (c ∷ []) [] ∙ omega (arith, ap length (mark-one w)) in
    let lp : length p ≡ line_three = length-render (f ∷ g ∷ []) [] ∙ omega (arith, four, five) in
    let lq : used ≡ line_three + 0 + length q = omega (arith, u, four, five, length-render others []) in
    let k : line_three + length line + length q ≡ used + gained_bytes = omega (arith, lq, n) in
    let split : b ≡ p ++ ([] ++ (q ++ r)) = ap (λ (x : List ℕ). x ++ r) (render-split (f ∷ g ∷ []) q) ∙ append_assoc p q r in
    let join : p ++ (line ++ (q ++ z)) ≡ render (f ∷ g ∷ c ∷ others) z =
    sym (render-split (f ∷ g ∷ []) (line ++ (q ++ z)))
    ∙ ap (λ (x : List ℕ). line_then f (line_then g x)) (sym (render-split (c ∷ []) (q ++ z)) ∙ ap (line_then c) (sym (render-split others z))) in
    let put : replaced line_three 0 line used b ≡ render (f ∷ g ∷ c ∷ others) z =
    ap (replaced line_three 0 line used) split
    ∙ replaced-between p [] q r line line_three 0 used lp refl lq
    ∙ ap₂ (λ (x : List ℕ) (m : ℕ). p ++ (line ++ (q ++ replicate (length x - m) 0))) (sym split) k
    ∙ join in
    ap (over sum_place (digits sum_digits (used + gained_bytes))) put
    ∙ sum-replaced f g (field 9206 (charset_of w) ∷ others) z (used + gained_bytes) four five l

module _ (b : List ℕ) (used : ℕ) (fs : List Field) (by : take used b ≡ render fs []) (u : used ≡ size fs) (w : Code) (known : no_character_from w 0 fs ≡ []) where
  pub leaves-gained : Headed fs → with_line w used (mapped_front (table_into w) used b) ≡ leaves (resum (with_charset w (map (recode_field w) fs))) b
  leaves-gained h = ap (with_line w used) (front-recoded b used fs by u w known) ∙ go fs u h (same-long b used fs by u w (map (recode_field w) fs) (size-recoded w fs))
    where
      go : (fs : List Field) → used ≡ size fs → Headed fs → length (render (map (recode_field w) fs) [] ++ drop used b) ≡ length b
          → with_line w used (render (map (recode_field w) fs) [] ++ drop used b) ≡ leaves (resum (with_charset w (map (recode_field w) fs))) b
      go [] n h e = absurd (omega (arith, h.second-five))
      go (f ∷ []) n h e = absurd (omega (arith, h.second-five))
      go (f ∷ g ∷ fs) n h e =
          let new : List Field = resum (with_charset w (map (recode_field w) (f ∷ g ∷ fs))) in
          let m : used + gained_bytes ≡ size new = omega (arith, n, size-gained w (f ∷ g ∷ fs) h) in
          let k : used ≡ size (map (recode_field w) (f ∷ g ∷ fs)) = n ∙ sym (size-recoded w (f ∷ g ∷ fs)) in
          let rest : List Field = field 9206 (charset_of w) ∷ map (recode_field w) fs in
          let sum : used + gained_bytes ≡ line_size (recode_field w f) + (sum_line + size rest) = omega (arith, m) in
          let all : List ℕ = render (map (recode_field w) (f ∷ g ∷ fs)) [] ++ drop used b in
          let z : List ℕ = replicate (length all - (used + gained_bytes)) 0 in
          gained-bytes w (recode_field w f) (recode_field w g) (map (recode_field w) fs) (drop used b) used (length-map f.content (recoded w) ∙ h.first-four)
          (length-map g.content (recoded w) ∙ h.second-five) h.second-label k
          ∙ (ap (λ (x : ℕ). render (recode_field w f ∷ sum_field x ∷ rest) z) sum
          ∙ (render-split new z ∙ ap₂ (λ (x y : ℕ). render new [] ++ replicate (x - y) 0) e (m ∙ sym (length-render new [] ∙ omega arith))))
