-- What `planned` is by each of the tests in the code's order.
use mathlib.Core.Path.{◌≡◌, refl, sym, ap, ap₂, ◌∙◌}
use mathlib.Core.Bool.{Bool, true, false, cond}
use mathlib.Core.List.{List, [], ◌∷◌, map}
use mathlib.Core.Logic.{◌⊎◌, inl, inr}
use Prim.Native.Nat.{ℕ, ◌+◌, ◌≤◌, ◌<◌}
use native.Mathlib.Omega.{arith}
use lib.Dec.{leb, eqb}
use lib.ListN.{length, get_or}
use lib.Seq.{take-length}
use borrow.Author.Tests.{le-leb, lt-leb, leb-true, leb-false, eq-eqb, ne_eqb}
use Rattle.meaning.specs.declared.Shape.{Shape}
use Rattle.meaning.specs.Limits.{max_lines, max_set_bytes}
use Rattle.meaning.specs.Digits.{digit_zero}
use Rattle.meaning.specs.Field.{Field, is_nil, content_at_line}
use Rattle.meaning.specs.Refusals.{done, then_to, verdict, refusal, too_many_lines, bad_use, no_room, no_such_character}
use Rattle.meaning.specs.Pieces.{Parsed}
use Rattle.meaning.specs.Lines.{line_lead, line_end, size, offset, render}
use Rattle.meaning.specs.Rules.{profile, seven_bit}
use Rattle.meaning.specs.Reading.{read, judge, in_set}
use Rattle.meaning.specs.Lists.{set_with_room}
use Rattle.meaning.specs.Corrections.{resum}
use Rattle.meaning.proofs.Bools.{none-of-length}
use Rattle.meaning.proofs.LineLaws.{length-render}
use Rattle.meaning.proofs.RuleLaws.{ruled}
use Rattle.meaning.proofs.SetLaws.{Standing, accepted}
use Rattle.meaning.proofs.SizeLaws.{most_bytes, ruled-size}
use Rattle.meaning.proofs.SevenLaws.{seven-none, seven-digit}
use Rattle.meaning.proofs.Demands.{judge-read}
use Rattle.meaning_recode.specs.declared.Code.{Code}
use Rattle.meaning_recode.specs.declared.Code.TheVariants.{Page437, Page1252}
use Rattle.meaning_recode.specs.Codes.{table_into}
use Rattle.meaning_recode.specs.Recoding.{charset_of, has_charset, in_code, all_recoded, recode_faults, recode_field, charset_field, with_charset, recode_lines}
use Rattle.byte_high.specs.High.{plain_front}
use Rattle.line_find.specs.FirstPlace.{first_place}
use Rattle.line_find.proofs.FirstPlaceLaws.{FirstLine, NoLine, first_or_none, place_is, place-absent, first_byte}
use Rattle.recode_bytes.specs.Mapped.{first_without}
use Rattle.correct_plan.proofs.TotalLaws.{headed, size-at}
use Rattle.recode_plan.specs.RecodePlans.{charset_place, plain_bytes, gained_by, doing, unless, planned, Alone, RecodePlan, of_gains, of_marks, of_recodes}
use Rattle.recode_plan.proofs.CharsetPlaceLaws.{has-none, has_one, says-digit, in-marked, in-437, in-1252}
use Rattle.recode_plan.proofs.RecodedLaws.{size-recoded, size-marked, one-byte, one-byte-recoded, size-gained, unknown-none, unknown-some}
use Rattle.recode_plan.specs.declared.Plan.TheVariants.{Gains, Marks, Recodes, Stays}
use Rattle.std.specs.Prelude.{Err, Ok}

-- ---- lines that stand, in a room that they fit in

-- 22 is not asked of lines that fit
with-room : (gs : List Field) (room : ℕ) (p : RecodePlan) → size gs ≤ room → size gs ≤ max_set_bytes → unless (set_with_room gs room) p ≡ p
with-room gs room p h g = rw (le-leb (size gs) room h, le-leb (size gs) max_set_bytes g)

without-room : (gs : List Field) (room : ℕ) (p : RecodePlan) → room < size gs → unless (set_with_room gs room) p ≡ Err (refusal no_room (size gs) 0)
without-room gs room p h = rw (lt-leb (size gs) room h)

module _ (fs : List Field) (st : Standing fs) (room : ℕ) (w : Code) (fit : size fs ≤ room) where
  -- what is planned for them, after 18
  abbrev outcome : RecodePlan
  outcome = unless (then_to (verdict (in_set fs) (recode_faults w fs) (recode_lines w fs)) (λ gs. set_with_room gs room)) (doing w fs)

  few_bytes : size fs ≤ most_bytes
  few_bytes = ruled-size fs (ruled fs st.right).0 st.few

  stays : in_code w fs ≡ true → outcome ≡ (Ok Stays)
  unfolding recode_faults all_recoded recode_lines
  stays e = rw e (with-room fs room (Ok Stays) fit (omega (arith, few_bytes)))

  module _ (e : in_code w fs ≡ false) (q : has_charset fs ≡ true) where
    marks : seven_bit fs ≡ true → outcome ≡ of_marks (charset_place fs)
    unfolding recode_faults all_recoded recode_lines
    marks v =
        let n : size (map (charset_field w) fs) ≡ size fs = size-marked w fs (one-byte (profile fs) fs (ruled fs st.right).0.each-line) in
        rw (e, q, v) (with-room (map (charset_field w) fs) room (of_marks (charset_place fs)) (omega (arith, n)) (omega (arith, n, few_bytes)))

    module _ (v : seven_bit fs ≡ false) (found : ℕ) (f : found ≡ first_without (table_into w) (render fs []) 0 (size fs)) where
      marked-unknown : found < size fs → outcome ≡ Err (refusal no_such_character found 0)
      unfolding recode_faults all_recoded recode_lines
      marked-unknown h = rw (e, q, v, unknown-some w fs found f h (map (charset_field w) (map (recode_field w) fs))) refl

      recodes : size fs ≤ found → outcome ≡ of_recodes (plain_bytes fs) (charset_place fs)
      unfolding recode_faults all_recoded recode_lines
      recodes h =
          let gs : List Field = map (recode_field w) fs in
          let one = one-byte-recoded w fs (one-byte (profile fs) fs (ruled fs st.right).0.each-line) in
          let n : size (map (charset_field w) gs) ≡ size fs = size-marked w gs one ∙ size-recoded w fs in
          rw (e, q, v, unknown-none w fs (omega (arith, f)))
          (with-room (map (charset_field w) gs) room (of_recodes (plain_bytes fs) (charset_place fs)) (omega (arith, n)) (omega (arith, n, few_bytes)))

  module _ (e : in_code w fs ≡ false) (q : has_charset fs ≡ false) (v : seven_bit fs ≡ false) where
    too_many : max_lines ≤ length fs → outcome ≡ Err (refusal too_many_lines (size fs) 0)
    unfolding recode_faults all_recoded recode_lines
    too_many h =
        let all : offset fs (length fs) + 0 ≡ size fs = rw (take-length fs) (omega arith) in
        rw (e, q, v, lt-leb (length fs + 1) max_lines (omega arith)) (ap (λ (n : ℕ). Err (refusal too_many_lines n 0)) all)

    module _ (few : length fs < max_lines) (found : ℕ) (f : found ≡ first_without (table_into w) (render fs []) 0 (size fs)) where
      abbrev new : List Field
      new = resum (with_charset w (map (recode_field w) fs))

      gained-unknown : found < size fs → outcome ≡ Err (refusal no_such_character found 0)
      unfolding recode_faults all_recoded recode_lines
      gained-unknown h = rw (e, q, v, le-leb (length fs + 1) max_lines (omega arith), unknown-some w fs found f h new) refl

      module _ (all : size fs ≤ found) where
        abbrev need : ℕ
        need = size fs + (1 + (line_lead + line_end))

        need-so : size new ≡ need
        need-so = size-gained w fs (headed fs st)

        gained : outcome ≡ unless (set_with_room new room) (of_gains (plain_bytes fs))
        unfolding recode_faults all_recoded recode_lines
        gained = rw (e, q, v, le-leb (length fs + 1) max_lines (omega arith), unknown-none w fs (omega (arith, f))) refl

        no-room : room < need → outcome ≡ Err (refusal no_room need 0)
        no-room h = gained ∙ (without-room new room (of_gains (plain_bytes fs)) (omega (arith, need-so)) ∙ ap (λ (n : ℕ). Err (refusal no_room n 0)) need-so)

        gains-so : need ≤ room → outcome ≡ of_gains (plain_bytes fs)
        gains-so h = gained ∙ with-room new room (of_gains (plain_bytes fs)) (omega (arith, need-so)) (omega (arith, need-so, few_bytes))

-- ---- 9206 by the place of its content

-- no line is 9206 if there is no such place
none-at : (fs : List Field) → Standing fs → charset_place fs ≡ 0 → NoLine 9206 fs
none-at fs st z = go (first_or_none 9206 fs)
  where
    go : ((k : ℕ) × FirstLine 9206 fs k) ⊎ NoLine 9206 fs → NoLine 9206 fs
    go (inl (k, x)) = absurd (omega (arith, z, place_is 9206 (omega arith) fs [] k st.sound st.few x))
    go (inr x) = x

-- else the byte there decides
record Marked (fs : List Field) (place : ℕ) : Type 0 where
  has : has_charset fs ≡ true
  seven-by : seven_bit fs ≡ eqb (get_or (render fs []) place 0) (digit_zero + 1)
  code_by : (w : Code) → in_code w fs ≡ eqb (get_or (render fs []) place 0) (get_or (charset_of w) 0 0)
  inside : place < size fs

marked-at : (fs : List Field) → Standing fs → (place : ℕ) → place ≡ charset_place fs → (place ≡ 0 → ⊥) → Marked fs place
marked-at fs st place e n = go (first_or_none 9206 fs)
  where
    go : ((k : ℕ) × FirstLine 9206 fs k) ⊎ NoLine 9206 fs → Marked fs place
    go (inl (k, x)) =
        let r = (ruled fs st.right).0.each-line in
        let p : place ≡ offset fs k + line_lead = e ∙ place_is 9206 (omega arith) fs [] k st.sound st.few x in
        let b : get_or (render fs []) place 0 ≡ get_or (content_at_line fs k) 0 0 = ap (λ (m : ℕ). get_or (render fs []) m 0) p ∙ first_byte fs k st.sound x.inside in
        record {
          has = has_one fs k x.inside x.named;
          seven-by = seven-digit (profile fs) fs r k x.inside x.named ∙ ap (λ (m : ℕ). eqb m (digit_zero + 1)) (sym b);
          code_by = λ w.
              in-marked (profile fs) fs r k x.inside x.named w
              ∙ (says-digit (profile fs) fs r k x.inside x.named w ∙ ap (λ (m : ℕ). eqb m (get_or (charset_of w) 0 0)) (sym b));
          inside = omega (arith, p, size-at fs k x.inside);
        }
    go (inr x) = absurd (n (e ∙ place-absent 9206 (omega arith) fs st.sound x))

-- ---- the tests of the code, in its order, for a set that was accepted

not-nil : (t : List ℕ) → 0 < length t → is_nil t ≡ false
not-nil [] h = absurd (omega arith)
not-nil (b ∷ t) h = refl

module _ (s : List ℕ) (x : Shape) (room : ℕ) (w : Code) (j : judge s ≡ Ok x) where
  abbrev what : Parsed
  what = (judge-read s x j).0

  abbrev lines : List Field
  lines = what.fields

  was_read : read s ≡ done what
  was_read = (judge-read s x j).1

  stand : Standing lines
  stand = (accepted s what was_read).standing

  length-so : x.length ≡ size lines
  length-so = ap (λ (y : Shape). y.length) (judge-read s x j).2

  lines-so : x.lines ≡ length lines
  lines-so = ap (λ (y : Shape). y.lines) (judge-read s x j).2

  long : length s ≡ size lines + length what.rest
  long = ap length (accepted s what was_read).bytes ∙ length-render lines what.rest

  -- 18: another set follows
  pub plan-followed : x.length < length s → planned s room w ≡ Err (refusal bad_use x.length 0)
  unfolding planned
  plan-followed h =
      let q : is_nil what.rest ≡ false = not-nil what.rest (omega (arith, long, length-so)) in
      let all : offset lines (length lines) + 0 ≡ x.length = rw (take-length lines) (omega (arith, length-so)) in
      rw (was_read, q) (ap (λ (n : ℕ). Err (refusal bad_use n 0)) all)

  -- none follows
  module _ (h : length s ≤ x.length) where
    no-rest : what.rest ≡ []
    no-rest = none-of-length what.rest (omega (arith, long, length-so))

    bytes : s ≡ render lines []
    bytes = (accepted s what was_read).bytes ∙ ap (render lines) no-rest

    same_size : length s ≡ size lines
    same_size = omega (arith, long, length-so)

    alone-so : (g : length s ≤ room) → planned s room w ≡ outcome lines stand room w (omega (arith, same_size))
    unfolding planned
    alone-so g = rw (was_read, no-rest) refl

-- the same, of a set that stands alone in its room
module _ (s : List ℕ) (x : Shape) (room : ℕ) (w : Code) (a : Alone s x room) where
  abbrev its : List Field
  its = lines s x room w a.accepted-so

  abbrev its-stand : Standing its
  its-stand = stand s x room w a.accepted-so

  its-bytes : s ≡ render its []
  its-bytes = bytes s x room w a.accepted-so a.alone

  its-size : length s ≡ size its
  its-size = same_size s x room w a.accepted-so a.alone

  its-fit : size its ≤ room
  its-fit = omega (arith, its-size, a.in-room)

  its-plan : planned s room w ≡ outcome its its-stand room w its-fit
  its-plan = alone-so s x room w a.accepted-so a.alone a.in-room

  its-found : (found : ℕ) → found ≡ first_without (table_into w) s 0 (length s) → found ≡ first_without (table_into w) (render its []) 0 (size its)
  its-found found e = e ∙ ap₂ (λ (u : List ℕ) (n : ℕ). first_without (table_into w) u 0 n) its-bytes its-size

  its-plain : (plain : ℕ) → plain ≡ plain_front s → plain ≡ plain_bytes its
  its-plain plain e = e ∙ ap plain_front its-bytes

  -- a line is 9206
  module _ (place : ℕ) (e : place ≡ first_place s 9206) (n : place ≡ 0 → ⊥) where
    place-so : place ≡ charset_place its
    place-so = e ∙ ap (λ (u : List ℕ). first_place u 9206) its-bytes

    its-mark : Marked its place
    its-mark = marked-at its its-stand place place-so n

    byte-so : get_or s place 0 ≡ get_or (render its []) place 0
    byte-so = ap (λ (u : List ℕ). get_or u place 0) its-bytes

    pub place_inside : place < length s
    place_inside = omega (arith, its-mark.inside, its-size)

    pub plan-stays : get_or s place 0 ≡ get_or (charset_of w) 0 0 → planned s room w ≡ (Ok Stays)
    plan-stays q = its-plan ∙ stays its its-stand room w its-fit (its-mark.code_by w ∙ eq-eqb _ _ (sym byte-so ∙ q))

    module _ (other : get_or s place 0 ≡ get_or (charset_of w) 0 0 → ⊥) where
      not_in : in_code w its ≡ false
      not_in = its-mark.code_by w ∙ ne_eqb _ _ (λ q. other (byte-so ∙ q))

      pub plan-marks : get_or s place 0 ≡ digit_zero + 1 → planned s room w ≡ of_marks place
      plan-marks q =
          its-plan
          ∙ (marks its its-stand room w its-fit not_in its-mark.has (its-mark.seven-by ∙ eq-eqb _ _ (sym byte-so ∙ q)) ∙ ap of_marks (sym place-so))

      module _ (eight : get_or s place 0 ≡ digit_zero + 1 → ⊥) (found : ℕ) (f : found ≡ first_without (table_into w) s 0 (length s)) where
        not-seven : seven_bit its ≡ false
        not-seven = its-mark.seven-by ∙ ne_eqb _ _ (λ q. eight (byte-so ∙ q))

        pub plan-unknown : found < length s → planned s room w ≡ Err (refusal no_such_character found 0)
        plan-unknown h =
            its-plan ∙ marked-unknown its its-stand room w its-fit not_in its-mark.has not-seven found (its-found found f) (omega (arith, its-size))

        pub plan-recodes : (plain : ℕ) → plain ≡ plain_front s → length s ≤ found → planned s room w ≡ of_recodes plain place
        plan-recodes plain k h =
            its-plan
            ∙ (recodes its its-stand room w its-fit not_in its-mark.has not-seven found (its-found found f) (omega (arith, its-size))
            ∙ ap₂ (λ (n m : ℕ). of_recodes n m) (sym (its-plain plain k)) (sym place-so))

  -- no line is 9206
  pub no-line : first_place s 9206 ≡ 0 → NoLine 9206 its
  no-line z = none-at its its-stand (ap (λ (u : List ℕ). first_place u 9206) (sym its-bytes) ∙ z)

pub plan-437 : (s : List ℕ) (x : Shape) (room : ℕ) (w : Code) → Alone s x room → w ≡ Page437 → first_place s 9206 ≡ 0 → planned s room w ≡ (Ok Stays)
plan-437 s x room w a e z =
    its-plan s x room w a
    ∙ stays (its s x room w a) (its-stand s x room w a) room w (its-fit s x room w a) (ap (λ (v : Code). in_code v (its s x room w a)) e
    ∙ in-437 (its s x room w a) (no-line s x room w a z))

module _ (s : List ℕ) (x : Shape) (room : ℕ) (a : Alone s x room) (z : first_place s 9206 ≡ 0) where
  abbrev all : List Field
  all = its s x room Page1252 a

  abbrev all-stand : Standing all
  all-stand = its-stand s x room Page1252 a

  all_none : NoLine 9206 all
  all_none = no-line s x room Page1252 a z

  all-plan : planned s room Page1252 ≡ outcome all all-stand room Page1252 (its-fit s x room Page1252 a)
  all-plan = its-plan s x room Page1252 a

  all-length : x.length ≡ size all
  all-length = length-so s x room Page1252 a.accepted-so

  all_lines : x.lines ≡ length all
  all_lines = lines-so s x room Page1252 a.accepted-so

  pub plan-too-many : max_lines ≤ x.lines → planned s room Page1252 ≡ Err (refusal too_many_lines x.length 0)
  plan-too-many h =
      all-plan
      ∙ (too_many all all-stand room Page1252 (its-fit s x room Page1252 a) (in-1252 all all_none) (has-none all all_none) (seven-none all all_none) (omega (arith, all_lines))
      ∙ ap (λ (n : ℕ). Err (refusal too_many_lines n 0)) (sym all-length))

  -- 27, then 22
  module _ (few : x.lines < max_lines) (plain found : ℕ) (k : plain ≡ plain_front s) (f : found ≡ first_without (table_into Page1252) s 0 (length s)) where
    abbrev total : ℕ
    total = length s + (1 + (line_lead + line_end))

    total-so : total ≡ size all + (1 + (line_lead + line_end))
    total-so = omega (arith, its-size s x room Page1252 a)

    unknown-plan : found < length s → planned s room Page1252 ≡ Err (refusal no_such_character found 0)
    unknown-plan h =
        all-plan
        ∙ gained-unknown all all-stand room Page1252 (its-fit s x room Page1252 a) (in-1252 all all_none) (has-none all all_none) (seven-none all all_none)
        (omega (arith, all_lines)) found (its-found s x room Page1252 a found f) (omega (arith, its-size s x room Page1252 a))

    no-room-plan : length s ≤ found → room < total → planned s room Page1252 ≡ Err (refusal no_room total 0)
    no-room-plan g h =
        all-plan
        ∙ (no-room all all-stand room Page1252 (its-fit s x room Page1252 a) (in-1252 all all_none) (has-none all all_none) (seven-none all all_none)
        (omega (arith, all_lines)) found (its-found s x room Page1252 a found f) (omega (arith, its-size s x room Page1252 a)) (omega (arith, total-so))
        ∙ ap (λ (n : ℕ). Err (refusal no_room n 0)) (sym total-so))

    gains-plan : length s ≤ found → total ≤ room → planned s room Page1252 ≡ of_gains plain
    gains-plan g h =
        all-plan
        ∙ (gains-so all all-stand room Page1252 (its-fit s x room Page1252 a) (in-1252 all all_none) (has-none all all_none) (seven-none all all_none)
        (omega (arith, all_lines)) found (its-found s x room Page1252 a found f) (omega (arith, its-size s x room Page1252 a)) (omega (arith, total-so))
        ∙ ap of_gains (sym (its-plain s x room Page1252 a plain k)))

    pub plan-gains : gained_by (length s) plain found total room ≡ planned s room Page1252
    plan-gains = go (leb (length s) found) refl
      where
        by-room : length s ≤ found → (c : Bool) → leb total room ≡ c → cond c (Ok (Gains plain)) (Err (refusal no_room total 0)) ≡ planned s room Page1252
        by-room g true q = sym (gains-plan g (leb-true total room q))
        by-room g false q = sym (no-room-plan g (leb-false total room q))

        go : (b : Bool) → leb (length s) found ≡ b
            → cond b (cond (leb total room) (Ok (Gains plain)) (Err (refusal no_room total 0))) (Err (refusal no_such_character found 0)) ≡ planned s room Page1252
        go true q = by-room (leb-true (length s) found q) (leb total room) refl
        go false q = sym (unknown-plan (leb-false (length s) found q))
