-- Beside the exact theorems of crate `keeps`, which say when something is made and what: with what number, place and label index, list and correction are refused.
-- Not stated so are the refusals of the writer and of a view: of these the contracts and the tables of Decided in crate `meaning` speak alone.
use mathlib.Core.Path.{◌≡◌, refl, sym, ap, ◌∙◌, subst}
use mathlib.Core.Bool.{Bool, true, false, cond, not, ◌&&◌, ◌||◌, true≢false}
use mathlib.Core.List.{List, [], ◌∷◌, ◌++◌, cons≢nil, append_assoc}
use mathlib.Core.Logic.{◌⊎◌, inl, inr, ◌≢◌, ◌↔◌}
use Prim.Native.Nat.{ℕ, zero, suc, pred, ◌+◌, ◌≤◌, ◌<◌}
use native.Mathlib.Omega.{arith}
use lib.Dec.{leb, eqb}
use lib.ListN.{length, take, get_or}
use lib.Seq.{take_all}
use borrow.Author.Tests.{leb-true, leb-false, le-leb, lt-leb, eqb-true}
use Rattle.meaning.specs.declared.Refusal.{Refusal}
use Rattle.meaning.specs.declared.Shape.{Shape}
use Rattle.meaning.specs.Limits.{max_set_bytes}
use Rattle.meaning.specs.Field.{Field, label_at_line, is_nil}
use Rattle.meaning.specs.Refusals.{Spot, byte, Fault, at_line, at_byte, ask, Reply, refused, done, refusal, then_to, verdict, with_room}
use Rattle.meaning.specs.Refusals.{bad_byte, bad_content, bad_use, no_such_line, fixed_line, no_room, high_byte}
use Rattle.meaning.specs.Pieces.{Parsed, parsed}
use Rattle.meaning.specs.Lines.{most_seven_bits, size, offset, render, low_bytes, high_bytes}
use Rattle.meaning.specs.FieldTable.{fits_label}
use Rattle.meaning.specs.Rules.{fits, seven_bit}
use Rattle.meaning.specs.Entries.{list_size}
use Rattle.meaning.specs.Reading.{read, shape, judged, judge}
use Rattle.meaning.specs.Index.{index_of, index}
use Rattle.meaning.specs.Lists.{without_sum, list, set_with_room}
use Rattle.meaning.specs.Corrections.{fixed, seven_bit_faults, change_faults, in_change, changed, correct_lines, correct}
use Rattle.meaning.proofs.Bools.{and_left, and_right, and_both, and_no, not-true, not-false}
use Rattle.meaning.proofs.FaultLaws.{refused-done, lows-none, highs-none, highs-back, if_none}
use Rattle.meaning.proofs.AnswerLaws.{refused-accepted, refusal-same}
use Rattle.meaning.proofs.EntryLaws.{length-entries}
use Rattle.meaning.proofs.WriterLaws.{list_of, list-only, list-makes}
use Rattle.meaning.proofs.RuleLaws.{ruled}
use Rattle.meaning.proofs.SetLaws.{Standing}
use Rattle.meaning.proofs.SizeLaws.{ruled-total}
use Rattle.meaning.proofs.CorrectionLaws.{Change, still-standing}
use Rattle.meaning.proofs.Demands.{judge-read, read-judge}
use Rattle.keeps.specs.Keeps.{HasSevenBits, NoHighByte}
use Rattle.keeps.specs.Makes.{NoLowByte, NotFixed}
use Rattle.keeps.proofs.SevenExact.{has-seven, seven-has, plain_of, no-high-of}
use Rattle.keeps.proofs.Exact.{every_of, accepted-keeps, keeps-standing, keeps-accepted, accepted-exactly}
use Rattle.keeps.proofs.TableFacts.{or_cases}
use Rattle.keeps.proofs.CorrectionExact.{not-fixed, fixed-not, changed-new, new-changed}
use Rattle.keeps.proofs.ListExact.{list-listed, listed-list}
use Rattle.breaches.specs.Breaches.{FirstBreach}
use Rattle.breaches.specs.CallBreaches.{IndexRefused, ListRefused, as-the-set, no-room, FixedLabel, ChangeRefused, another-set, no-line, fixed-line, low_byte, bad-content}
use Rattle.breaches.specs.CallBreaches.{high-byte, CorrectionRefused, used_over, of-change}
use Rattle.breaches.proofs.FirstHigh.{HighIn, high-in, high-found}
use Rattle.breaches.proofs.FirstOnly.{refused-exactly-with}
use Rattle.std.specs.Prelude.{Err}

-- ---- what every call has that is given a set

pub refused-same : {A : Type 0} {r y : Refusal} → ◌≡◌ {A = Reply A} (refused r) (refused y) → r ≡ y
refused-same e = cc

-- "refuse as the set does": reading refuses exactly with the set's first breach
pub read-refused : (s : List ℕ) (r : Refusal) → (read s ≡ refused r) ↔ FirstBreach s r
unfolding judge
read-refused s r = (λ e. (refused-exactly-with s r).0 (ap judged e), λ x. go (read s) refl ((refused-exactly-with s r).1 x))
  where
    go : (y : Reply Parsed) → read s ≡ y → judged y ≡ Err r → read s ≡ refused r
    go (refused y) q f = q ∙ ap refused (refusal-same f)
    go (done d) q f = refused-accepted (sym f)

-- "place: set length": a fault that is placed after the last line stands there
pub whole_set : (fs : List Field) → offset fs (length fs) + 0 ≡ size fs
whole_set fs = omega (arith, ap size (take_all (length fs) fs (omega arith)))

-- ---- index and list: "Index and list refuse as the set does, then by 22", with the need as its place

-- both make something of the lines, for which they need this much
module _ {A : Type 0} (need : Parsed → ℕ) (made : Parsed → A) (s : List ℕ) (room : ℕ) (r : Refusal) where
  abbrev reply : Reply A
  reply = then_to (read s) (λ d. with_room (leb (need d) room) (need d) (made d))

  -- the set is refused, or there is too little room
  data Lacks : Type 0 where
    set-refused : read s ≡ refused r → Lacks
    too_small : (d : Parsed) → read s ≡ done d → room < need d → r ≡ refusal no_room (need d) 0 → Lacks

  reply-lacks : reply ≡ refused r → Lacks
  reply-lacks e = go (read s) refl e
    where
      room-lacks : (d : Parsed) → read s ≡ done d → (t : Bool) → leb (need d) room ≡ t → with_room t (need d) (made d) ≡ refused r → Lacks
      room-lacks d q true f g = refused-done (sym g)
      room-lacks d q false f g = too_small d q (leb-false (need d) room f) (sym (refused-same g))

      go : (y : Reply Parsed) → read s ≡ y → then_to y (λ d. with_room (leb (need d) room) (need d) (made d)) ≡ refused r → Lacks
      go (refused y) q f = set-refused (q ∙ ap refused (refused-same f))
      go (done d) q f = room-lacks d q (leb (need d) room) refl f

  lacks-reply : Lacks → reply ≡ refused r
  lacks-reply (set-refused e) = rw e refl
  lacks-reply (too_small d q l e) = rw (q, lt-leb (need d) room l) (ap refused (sym e))

pub index-refused-with : (s : List ℕ) (room : ℕ) (r : Refusal) → (index s room ≡ refused r) ↔ IndexRefused s room r
unfolding index
index-refused-with s room r = (
  λ e. to (reply-lacks (λ d. length d.fields) (λ d. index_of d.fields) s room r e),
  λ x. lacks-reply (λ d. length d.fields) (λ d. index_of d.fields) s room r (from x),
)
  where
    to : Lacks (λ d. length d.fields) (λ d. index_of d.fields) s room r → IndexRefused s room r
    to (set-refused e) = as-the-set ((read-refused s r).0 e)
    to (too_small d q l e) = no-room (shape d.fields) ((accepted-exactly s (shape d.fields)).0 (read-judge s d q)) l e

    from : IndexRefused s room r → Lacks (λ d. length d.fields) (λ d. index_of d.fields) s room r
    from (as-the-set f) = set-refused ((read-refused s r).1 f)
    from (no-room x f l e) =
        let d = judge-read s x ((accepted-exactly s x).1 f) in
        let n : x.lines ≡ length d.0.fields = ap (λ (y : Shape). y.lines) d.2 in
        too_small d.0 d.1 (subst (λ (k : ℕ). room < k) n l) (e ∙ ap (λ (k : ℕ). refusal no_room k 0) n)

abbrev list_need : Parsed → ℕ
list_need d = list_size (without_sum d.fields)

pub list-refused-with : (s : List ℕ) (room : ℕ) (r : Refusal) → (list s room ≡ refused r) ↔ ListRefused s room r
unfolding list
list-refused-with s room r = (λ e. to (reply-lacks list_need (λ d. list_of d.fields) s room r e), λ x. lacks-reply list_need (λ d. list_of d.fields) s room r (from x))
  where
    to : Lacks list_need (λ d. list_of d.fields) s room r → ListRefused s room r
    to (set-refused e) = as-the-set ((read-refused s r).0 e)
    to (too_small d q l e) =
        let m : list_need d ≡ length (list_of d.fields) = omega (arith, length-entries (without_sum d.fields)) in
        let k : list s (length (list_of d.fields)) ≡ done (list_of d.fields) = list-makes s d (length (list_of d.fields)) q (omega (arith, m)) in
        no-room (list_of d.fields) (list-listed s (length (list_of d.fields)) (list_of d.fields) k) (subst (λ (n : ℕ). room < n) m l) (e ∙ ap (λ (n : ℕ). refusal no_room n 0) m)

    from : ListRefused s room r → Lacks list_need (λ d. list_of d.fields) s room r
    from (as-the-set f) = set-refused ((read-refused s r).1 f)
    from (no-room x f l e) =
        let o = list-only s (length x) x (listed-list s (length x) x f) in
        let m : length x ≡ list_need o.what = omega (arith, ap length o.made, length-entries (without_sum o.what.fields)) in
        too_small o.what o.was_read (subst (λ (n : ℕ). room < n) m l) (e ∙ ap (λ (n : ℕ). refusal no_room n 0) m)

-- ---- corrections

-- each test in words, both ways

nil_not : (s : List ℕ) → (is_nil s ≡ false) ↔ (s ≢ [])
nil_not [] = (λ e. absurd (true≢false e), λ n. absurd (n refl))
nil_not (b ∷ s) = (λ e q. cons≢nil q, λ n. refl)

nil-so : (s : List ℕ) → (is_nil s ≡ true) ↔ (s ≡ [])
nil-so [] = (λ e. refl, λ e. refl)
nil-so (b ∷ s) = (λ e. absurd (true≢false (sym e)), λ q. absurd (cons≢nil q))

line-not : (n m : ℕ) → (leb 1 n && leb n m ≡ false) ↔ ((n ≡ 0) ⊎ (m < n))
line-not n m = (λ e. to (leb 1 n) refl e, from)
  where
    to : (t : Bool) → leb 1 n ≡ t → t && leb n m ≡ false → (n ≡ 0) ⊎ (m < n)
    to true p e = inr (leb-false n m e)
    to false p e = let l : n < 1 = leb-false 1 n p in inl (omega arith)

    from : (n ≡ 0) ⊎ (m < n) → leb 1 n && leb n m ≡ false
    from (inl p) = rw (lt-leb 1 n (omega arith)) refl
    from (inr p) = and_no (leb 1 n) (lt-leb n m p)

line-so : (n m : ℕ) → (leb 1 n && leb n m ≡ true) ↔ ((1 ≤ n) × (n ≤ m))
line-so n m =
    (λ e. (leb-true 1 n (and_left (leb 1 n) _ e), leb-true n m (and_right (leb 1 n) _ e)), λ l. and_both (le-leb 1 n l.0) (le-leb n m l.1))

fixed-so : (l : ℕ) → (not (fixed l) ≡ false) ↔ FixedLabel l
fixed-so l = (λ e. to (or_cases (eqb l 8000) _ (not-false (fixed l) e)), from)
  where
    last : (eqb l 9206 ≡ true) ⊎ (eqb l 9218 ≡ true) → FixedLabel l
    last (inl p) = inr (inr (inl (eqb-true l 9206 p)))
    last (inr p) = inr (inr (inr (eqb-true l 9218 p)))

    later : (eqb l 8100 ≡ true) ⊎ (eqb l 9206 || eqb l 9218 ≡ true) → FixedLabel l
    later (inl p) = inr (inl (eqb-true l 8100 p))
    later (inr p) = last (or_cases (eqb l 9206) _ p)

    to : (eqb l 8000 ≡ true) ⊎ (eqb l 8100 || (eqb l 9206 || eqb l 9218) ≡ true) → FixedLabel l
    to (inl p) = inl (eqb-true l 8000 p)
    to (inr p) = later (or_cases (eqb l 8100) _ p)

    from : FixedLabel l → not (fixed l) ≡ false
    from (inl q) = ap (λ (x : ℕ). not (fixed x)) q
    from (inr (inl q)) = ap (λ (x : ℕ). not (fixed x)) q
    from (inr (inr (inl q))) = ap (λ (x : ℕ). not (fixed x)) q
    from (inr (inr (inr q))) = ap (λ (x : ℕ). not (fixed x)) q

free-so : (l : ℕ) → (not (fixed l) ≡ true) ↔ NotFixed l
free-so l = (λ e. not-fixed l (not-true (fixed l) e), λ n. ap not (fixed-not l n))

-- one test after the other: what `k` makes of `a` if no fault is there, else the first fault
module _ {A B : Type 0} (place : ℕ → Spot → ℕ) (a : A) (k : A → Reply B) (r : Refusal) where
  abbrev told : Fault → Refusal
  told x = refusal x.no (place x.line x.spot) x.label

  abbrev Answers : List Fault → Type 0
  Answers xs = then_to (verdict place xs a) k ≡ refused r

  data Asked (t : Bool) (x : Fault) (xs : List Fault) : Type 0 where
    failed : t ≡ false → r ≡ told x → Asked t x xs
    passed : t ≡ true → Answers xs → Asked t x xs

  asked : (t : Bool) (x : Fault) (xs : List Fault) → Answers (ask t x ++ xs) → Asked t x xs
  asked true x xs e = passed refl e
  asked false x xs e = failed refl (sym (refused-same e))

  ask-failed : (t : Bool) (x : Fault) (xs : List Fault) → t ≡ false → r ≡ told x → Answers (ask t x ++ xs)
  ask-failed t x xs e f = rw e (ap refused (sym f))

  ask-passed : (t : Bool) (x : Fault) (xs : List Fault) → t ≡ true → Answers xs → Answers (ask t x ++ xs)
  ask-passed t x xs e f = rw e f

  -- the first low byte of c, or none
  data Low (m : ℕ) (c : List ℕ) (i : ℕ) (xs : List Fault) : Type 0 where
    low : (j : ℕ) → j < length c → get_or c j 0 < 32 → ((h : ℕ) → h < j → 32 ≤ get_or c h 0) → r ≡ refusal bad_byte (place m (byte (i + j))) 0 → Low m c i xs
    none-low : NoLowByte c → Answers xs → Low m c i xs

  lows : (m i : ℕ) (c : List ℕ) (xs : List Fault) → Answers (low_bytes m i c ++ xs) → Low m c i xs
  lows m i [] xs e = none-low (λ j l. absurd (omega arith)) e
  lows m i (b ∷ c) xs e =
      go (lows m (suc i) c xs) (leb 32 b) refl (subst (λ (ys : List Fault). Answers ys) (append_assoc (ask (leb 32 b) (at_byte bad_byte m i)) (low_bytes m (suc i) c) xs) e)
    where
      later : 32 ≤ b → Low m c (suc i) xs → Low m (b ∷ c) i xs
      later h (low j l y q f) = low (suc j) (omega arith) y before (f ∙ ap (λ (z : ℕ). refusal bad_byte (place m (byte z)) 0) (omega arith))
        where
          before : (z : ℕ) → z < suc j → 32 ≤ get_or (b ∷ c) z 0
          before zero p = h
          before (suc z) p = q z (omega arith)
      later h (none-low q f) = none-low all f
        where
          all : (z : ℕ) → z < length (b ∷ c) → 32 ≤ get_or (b ∷ c) z 0
          all zero p = h
          all (suc z) p = q z (omega arith)

      go : (Answers (low_bytes m (suc i) c ++ xs) → Low m c (suc i) xs) → (t : Bool) → leb 32 b ≡ t → Answers (ask t (at_byte bad_byte m i) ++ (low_bytes m (suc i) c ++ xs))
          → Low m (b ∷ c) i xs
      go ih false p f =
          low 0 (omega arith) (leb-false 32 b p) (λ h l. absurd (omega arith)) (sym (refused-same f) ∙ ap (λ (z : ℕ). refusal bad_byte (place m (byte z)) 0) (omega arith))
      go ih true p f = later (leb-true 32 b p) (ih f)

  low-answers : (m i : ℕ) (c : List ℕ) (xs : List Fault) (j : ℕ) → j < length c → get_or c j 0 < 32 → ((h : ℕ) → h < j → 32 ≤ get_or c h 0)
      → r ≡ refusal bad_byte (place m (byte (i + j))) 0 → Answers (low_bytes m i c ++ xs)
  low-answers m i [] xs j l y q f = absurd (omega arith)
  low-answers m i (b ∷ c) xs zero l y q f = rw (lt-leb 32 b y) (ap refused (sym (f ∙ ap (λ (z : ℕ). refusal bad_byte (place m (byte z)) 0) (omega arith))))
  low-answers m i (b ∷ c) xs (suc j) l y q f =
      rw (le-leb 32 b (q 0 (omega arith)))
      (low-answers m (suc i) c xs j (omega arith) y (λ h p. q (suc h) (omega arith)) (f ∙ ap (λ (z : ℕ). refusal bad_byte (place m (byte z)) 0) (omega arith)))

  no-low-answers : (m i : ℕ) (c : List ℕ) (xs : List Fault) → NoLowByte c → Answers xs → Answers (low_bytes m i c ++ xs)
  no-low-answers m i c xs n f = rw (lows-none m i c (every_of (λ b. 32 ≤ b) c 0 n)) f

  -- the last test of all: the first byte over 7Fh of c, if the lines have seven bits, or none
  data High (fs : List Field) (m : ℕ) (c : List ℕ) : Type 0 where
    high : HasSevenBits fs → (j : ℕ) → j < length c → most_seven_bits < get_or c j 0 → ((h : ℕ) → h < j → get_or c h 0 ≤ most_seven_bits)
        → r ≡ refusal high_byte (place m (byte j)) 0 → High fs m c
    none-high : (HasSevenBits fs → NoHighByte c) → Answers [] → High fs m c

  highs : (fs : List Field) (m : ℕ) (c : List ℕ) → Answers (seven_bit_faults fs m c) → High fs m c
  highs fs m c e = go (seven_bit fs) refl (high_bytes m 0 c) refl e
    where
      go : (b : Bool) → seven_bit fs ≡ b → (xs : List Fault) → high_bytes m 0 c ≡ xs → Answers (cond b xs []) → High fs m c
      go false p xs q f = none-high (λ h. absurd (true≢false (sym (has-seven fs h) ∙ p))) f
      go true p [] q f = none-high (λ h. no-high-of c (highs-back m 0 c q)) f
      go true p (x ∷ xs) q f =
          let h : HighIn m 0 c x = high-in m 0 c x xs q in
          let z : 0 + h.which ≡ h.which = omega arith in
          high (seven-has fs p) h.which h.there h.high h.earlier (sym (refused-same f) ∙ (ap told h.is ∙ ap (λ (i : ℕ). refusal high_byte (place m (byte i)) 0) z))

  high-answers : (fs : List Field) (m : ℕ) (c : List ℕ) → HasSevenBits fs → (j : ℕ) → j < length c → most_seven_bits < get_or c j 0 → ((h : ℕ) → h < j → get_or c h 0 ≤ most_seven_bits)
      → r ≡ refusal high_byte (place m (byte j)) 0 → Answers (seven_bit_faults fs m c)
  high-answers fs m c s j l y q f =
      let x = high-found m 0 c j l y q in
      let z : j ≡ 0 + j = omega arith in
      rw (has-seven fs s, x.1) (ap refused (sym (f ∙ ap (λ (i : ℕ). refusal high_byte (place m (byte i)) 0) z)))

  no-high-answers : (fs : List Field) (m : ℕ) (c : List ℕ) → (HasSevenBits fs → NoHighByte c) → Answers [] → Answers (seven_bit_faults fs m c)
  no-high-answers fs m c n f =
      rw (if_none (seven_bit fs) (high_bytes m 0 c) (λ b. highs-none m 0 c (plain_of c (n (seven-has fs b))))) f

module _ (room n : ℕ) (c : List ℕ) (fs : List Field) (rest : List ℕ) (r : Refusal) (st : Standing fs) (first : label_at_line fs 0 ≡ 8000) (second : label_at_line fs 1 ≡ 8100) where
  abbrev label : ℕ
  label = label_at_line fs (pred n)

  abbrev new : List Field
  new = changed fs n c

  abbrev put : List Field → Reply (List ℕ)
  put gs = set_with_room gs room

  -- the tests that are left after 18, 19, 20, 6 and 14
  abbrev from24 : List Fault
  from24 = seven_bit_faults fs (pred n) c

  abbrev content-test : Fault
  content-test = at_line bad_content (pred n) label

  abbrev from14 : List Fault
  from14 = ask (fits_label label c) content-test ++ from24

  abbrev from6 : List Fault
  from6 = low_bytes (pred n) 0 c ++ from14

  abbrev from20 : List Fault
  from20 = ask (not (fixed label)) (at_line fixed_line (pred n) label) ++ from6

  abbrev from19 : List Fault
  from19 = ask (leb 1 n && leb n (length fs)) (at_line no_such_line (length fs) 0) ++ from20

  -- "over 99,999" never decides
  total : (1 ≤ n) × (n ≤ length fs) → NotFixed label → NoLowByte c → fits_label label c ≡ true → (HasSevenBits fs → NoHighByte c) → size new ≤ max_set_bytes
  unfolding fits
  total w f h q v =
      let ch : Change fs n c = record {
        least = w.0;
        most = w.1;
        free = fixed-not label f;
        high = every_of (λ b. 32 ≤ b) c 0 h;
        right = q;
        plain = λ b. plain_of c (v (seven-has fs b));
      } in
      let s = still-standing fs n c st ch in
      ruled-total new (ruled new s.right).0 s.few

  room-lacks-so : size new ≤ max_set_bytes → put new ≡ refused r → (room < size new) × (r ≡ refusal no_room (size new) 0)
  room-lacks-so m e = go (leb (size new) room) refl (subst (λ (t : Bool). with_room (leb (size new) room && t) (size new) (render new []) ≡ refused r) (le-leb (size new) max_set_bytes m) e)
    where
      go : (t : Bool) → leb (size new) room ≡ t → with_room (t && true) (size new) (render new []) ≡ refused r → (room < size new) × (r ≡ refusal no_room (size new) 0)
      go true p f = refused-done (sym f)
      go false p f = (leb-false (size new) room p, sym (refused-same f))

  so-room-lacks : room < size new → r ≡ refusal no_room (size new) 0 → put new ≡ refused r
  so-room-lacks l f = rw (lt-leb (size new) room l) (ap refused (sym f))

  change-refused : correct_lines room n c (parsed fs rest) ≡ refused r → ChangeRefused room fs rest n c r
  unfolding change_faults fits
  change-refused e = by18 (asked (in_change fs) new put r (is_nil rest) (at_line bad_use (length fs) 0) from19 e)
    where
      by24 : rest ≡ [] → (1 ≤ n) × (n ≤ length fs) → NotFixed label → NoLowByte c → fits_label label c ≡ true
          → High (in_change fs) new put r fs (pred n) c → ChangeRefused room fs rest n c r
      by24 a w f h p (high s j l y m q) = high-byte a w f h p s j l y m q
      by24 a w f h p (none-high v q) =
          let z = room-lacks-so (total w f h p v) q in no-room a w f h p v new (changed-new fs n c first second w f) z.0 z.1

      by14 : rest ≡ [] → (1 ≤ n) × (n ≤ length fs) → NotFixed label → NoLowByte c
          → Asked (in_change fs) new put r (fits_label label c) content-test from24 → ChangeRefused room fs rest n c r
      by14 a w f h (failed p q) = bad-content a w f h p q
      by14 a w f h (passed p q) = by24 a w f h p (highs (in_change fs) new put r fs (pred n) c q)

      by6 : rest ≡ [] → (1 ≤ n) × (n ≤ length fs) → NotFixed label → Low (in_change fs) new put r (pred n) c 0 from14 → ChangeRefused room fs rest n c r
      by6 a w f (low j l y h q) = low_byte a w f j l y h (q ∙ ap (λ (z : ℕ). refusal bad_byte z 0) (omega arith))
      by6 a w f (none-low h q) = by14 a w f h (asked (in_change fs) new put r (fits_label label c) content-test from24 q)

      by20 : rest ≡ [] → (1 ≤ n) × (n ≤ length fs) → Asked (in_change fs) new put r (not (fixed label)) (at_line fixed_line (pred n) label) from6 → ChangeRefused room fs rest n c r
      by20 a w (failed p q) = fixed-line a w ((fixed-so label).0 p) q
      by20 a w (passed p q) = by6 a w ((free-so label).0 p) (lows (in_change fs) new put r (pred n) 0 c from14 q)

      by19 : rest ≡ [] → Asked (in_change fs) new put r (leb 1 n && leb n (length fs)) (at_line no_such_line (length fs) 0) from20 → ChangeRefused room fs rest n c r
      by19 a (failed p q) = no-line a ((line-not n (length fs)).0 p) (q ∙ ap (λ (z : ℕ). refusal no_such_line z 0) (omega (arith, whole_set fs)))
      by19 a (passed p q) = by20 a ((line-so n (length fs)).0 p) (asked (in_change fs) new put r (not (fixed label)) (at_line fixed_line (pred n) label) from6 q)

      by18 : Asked (in_change fs) new put r (is_nil rest) (at_line bad_use (length fs) 0) from19 → ChangeRefused room fs rest n c r
      by18 (failed p q) = another-set ((nil_not rest).0 p) (q ∙ ap (λ (z : ℕ). refusal bad_use z 0) (omega (arith, whole_set fs)))
      by18 (passed p q) = by19 ((nil-so rest).0 p) (asked (in_change fs) new put r (leb 1 n && leb n (length fs)) (at_line no_such_line (length fs) 0) from20 q)

  refused-change : ChangeRefused room fs rest n c r → correct_lines room n c (parsed fs rest) ≡ refused r
  unfolding change_faults fits
  refused-change x = go x
    where
      after18 : rest ≡ [] → Answers (in_change fs) new put r from19 → correct_lines room n c (parsed fs rest) ≡ refused r
      after18 a = ask-passed (in_change fs) new put r (is_nil rest) (at_line bad_use (length fs) 0) from19 ((nil-so rest).1 a)

      after19 : rest ≡ [] → (1 ≤ n) × (n ≤ length fs) → Answers (in_change fs) new put r from20 → correct_lines room n c (parsed fs rest) ≡ refused r
      after19 a w q =
          after18 a (ask-passed (in_change fs) new put r (leb 1 n && leb n (length fs)) (at_line no_such_line (length fs) 0) from20 ((line-so n (length fs)).1 w) q)

      after20 : rest ≡ [] → (1 ≤ n) × (n ≤ length fs) → NotFixed label → Answers (in_change fs) new put r from6 → correct_lines room n c (parsed fs rest) ≡ refused r
      after20 a w f q = after19 a w (ask-passed (in_change fs) new put r (not (fixed label)) (at_line fixed_line (pred n) label) from6 ((free-so label).1 f) q)

      after6 : rest ≡ [] → (1 ≤ n) × (n ≤ length fs) → NotFixed label → NoLowByte c → Answers (in_change fs) new put r from14
          → correct_lines room n c (parsed fs rest) ≡ refused r
      after6 a w f h q = after20 a w f (no-low-answers (in_change fs) new put r (pred n) 0 c from14 h q)

      after14 : rest ≡ [] → (1 ≤ n) × (n ≤ length fs) → NotFixed label → NoLowByte c → fits_label label c ≡ true → Answers (in_change fs) new put r from24
          → correct_lines room n c (parsed fs rest) ≡ refused r
      after14 a w f h p q = after6 a w f h (ask-passed (in_change fs) new put r (fits_label label c) content-test from24 p q)

      go : ChangeRefused room fs rest n c r → correct_lines room n c (parsed fs rest) ≡ refused r
      go (another-set a q) =
          ask-failed (in_change fs) new put r (is_nil rest) (at_line bad_use (length fs) 0) from19 ((nil_not rest).1 a) (q ∙ ap (λ (z : ℕ). refusal bad_use z 0) (omega (arith, whole_set fs)))
      go (no-line a w q) =
          after18 a
          (ask-failed (in_change fs) new put r (leb 1 n && leb n (length fs)) (at_line no_such_line (length fs) 0) from20 ((line-not n (length fs)).1 w)
          (q ∙ ap (λ (z : ℕ). refusal no_such_line z 0) (omega (arith, whole_set fs))))
      go (fixed-line a w f q) = after19 a w (ask-failed (in_change fs) new put r (not (fixed label)) (at_line fixed_line (pred n) label) from6 ((fixed-so label).1 f) q)
      go (low_byte a w f i l y h q) =
          after20 a w f
          (low-answers (in_change fs) new put r (pred n) 0 c from14 i l y h (q ∙ ap (λ (z : ℕ). refusal bad_byte z 0) (omega arith)))
      go (bad-content a w f h p q) = after6 a w f h (ask-failed (in_change fs) new put r (fits_label label c) content-test from24 p q)
      go (high-byte a w f h p s j l y m q) = after14 a w f h p (high-answers (in_change fs) new put r fs (pred n) c s j l y m q)
      go (no-room a w f h p v gs m l q) =
          let e : gs ≡ new = new-changed fs n c gs first second w f m in
          after14 a w f h p
          (no-high-answers (in_change fs) new put r fs (pred n) c v
          (so-room-lacks (subst (λ (x : List Field). room < size x) e l) (q ∙ ap (λ (x : List Field). refusal no_room (size x) 0) e)))

-- a correction is refused with number, place and label r exactly when they are those of the first reason in the paper's order: "18 (used length), the set's own refusals, .."
pub correction-refused-with : (b : List ℕ) (used n : ℕ) (c : List ℕ) (r : Refusal) → (correct b used n c ≡ refused r) ↔ CorrectionRefused b used n c r
unfolding correct
correction-refused-with b used n c r = (λ e. within (leb used (length b)) refl e, from)
  where
    of-set : used ≤ length b → (y : Reply Parsed) → read (take used b) ≡ y → then_to y (λ d. correct_lines (length b) n c d) ≡ refused r → CorrectionRefused b used n c r
    of-set l (refused y) q f = as-the-set l ((read-refused (take used b) r).0 (q ∙ ap refused (refused-same f)))
    of-set l (done d) q f =
        let k = accepted-keeps (take used b) d q in
        of-change l k.0 d.fields d.rest k.1
        (change-refused (length b) n c d.fields d.rest r (keeps-standing (take used b) k.0 d.fields d.rest k.1) k.1.rules.starts.0 k.1.rules.second-8100 f)

    within : (t : Bool) → leb used (length b) ≡ t
        → cond t (then_to (read (take used b)) (λ d. correct_lines (length b) n c d)) (refused (refusal bad_use (length b) 0)) ≡ refused r → CorrectionRefused b used n c r
    within true p f = of-set (leb-true used (length b) p) (read (take used b)) refl f
    within false p f = used_over (leb-false used (length b) p) (sym (refused-same f))

    from : CorrectionRefused b used n c r → correct b used n c ≡ refused r
    from (used_over l f) = rw (lt-leb used (length b) l) (ap refused (sym f))
    from (as-the-set l f) = rw (le-leb used (length b) l, (read-refused (take used b) r).1 f) refl
    from (of-change l t fs rest k x) =
        rw (le-leb used (length b) l, keeps-accepted (take used b) t fs rest k)
        (refused-change (length b) n c fs rest r (keeps-standing (take used b) t fs rest k) k.rules.starts.0 k.rules.second-8100 x)
