-- Which numbers each call can refuse with: judging 1 to 17 and 24; index and list these and 22; the writer 1, 6 to 9, 11 to 16, 21, 22, 24; a correction 1 to 20, 22, 24;
-- a view 1 to 21 and 24.
use mathlib.Core.Path.{◌≡◌, refl}
use mathlib.Core.Bool.{Bool, true, false, cond, not, ◌&&◌, ◌||◌}
use mathlib.Core.List.{List, [], ◌∷◌, ◌++◌}
use Prim.Native.Nat.{ℕ, zero, suc, pred, ◌+◌, ◌-◌}
use lib.Dec.{leb, eqb}
use lib.ListN.{length, take, drop}
use Rattle.meaning.specs.declared.Row.{Row}
use Rattle.meaning.specs.Limits.{max_lines, max_entries, max_set_bytes}
use Rattle.meaning.specs.Digits.{number}
use Rattle.meaning.specs.Field.{Field, field, elem, is_nil, labels, label_at_line, content_at_line}
use Rattle.meaning.specs.Refusals.{Spot, Fault, at_line, at_byte, ask, Reply, refused, done, then_to, verdict, with_room, empty, bad_length, cut_line}
use Rattle.meaning.specs.Refusals.{bad_end, bad_label, bad_byte, too_many_lines, no_start, unknown_set, no_sum, not_in_set, stray, repeated, bad_content}
use Rattle.meaning.specs.Refusals.{other_version, missing, bad_sum, bad_use, no_such_line, fixed_line, bad_list, no_room, high_byte, numbers}
use Rattle.meaning.specs.Pieces.{Form, Parsed, and_before, piece_then, pieces, put_all}
use Rattle.meaning.specs.Lines.{least_byte, low_bytes, most_seven_bits, high_bytes, content_at, line_faults, line_form, length_ok, whole_ok, end_ok, label_ok, size, render}
use Rattle.meaning.specs.Entries.{entry_ok, entry_whole, entry_label, entry_content, entry_field, entry_width, entry_faults, entry_form, list_size}
use Rattle.meaning.specs.Groups.{State, first, Role, unknown, strayed, at_set_level, member, role, next, after, label_faults, no_header, stays}
use Rattle.meaning.specs.Tables.{set_level, find}
use Rattle.meaning.specs.Missing.{needed, rows_under, ascending, missing_label, lacking_of, lacking, among, open_lacking, groups_lacking, missing_faults}
use Rattle.meaning.specs.Rules.{Profile, profile, rows_of, role_in, label_is, type_known, start_faults, fits, current, content_faults, content_rules}
use Rattle.meaning.specs.Rules.{line_rules, rules_from, seven_bit, high_from, high_faults, sum_faults, rule_faults, set_faults}
use Rattle.meaning.specs.Reading.{scan, in_set, by_rules, read}
use Rattle.meaning.specs.Index.{index_of, index}
use Rattle.meaning.specs.Lists.{without_sum, with_sum, list, in_list, set_with_room, written, write}
use Rattle.meaning.specs.Corrections.{fixed, alone_faults, line_number_faults, change_faults, in_change, changed, correct_lines, correct}
use Rattle.meaning.specs.Views.{sheet_entry_faults, sheet_form, sheet, viewing}
use Rattle.meaning.proofs.Bools.{Every}

module _ (P : ℕ → Type 0) where
  -- every fault's number is one of P
  abbrev pub Given : List Fault → Type 0
  Given xs = Every (λ x. P x.no) xs

  -- a reply that refuses does so with a number of P
  abbrev pub Numbered : {A : Type 0} → Reply A → Type 0
  Numbered (refused r) = P r.no
  Numbered (done a) = Unit

  -- ---- how they are put together

  pub given-append : (a b : List Fault) → Given a → Given b → Given (a ++ b)
  given-append [] b h k = k
  given-append (x ∷ a) b h k = (h.0, given-append a b h.1 k)

  given-ask : (t : Bool) (x : Fault) → P x.no → Given (ask t x)
  given-ask true x p = tt
  given-ask false x p = (p, tt)

  pub given-cond : (t : Bool) (a b : List Fault) → Given a → Given b → Given (cond t a b)
  given-cond true a b h k = h
  given-cond false a b h k = k

  given-one : (xs : List Fault) → Given xs → Given (take 1 xs)
  given-one [] h = tt
  given-one (x ∷ xs) h = (h.0, tt)

  pub numbered-then : {A B : Type 0} (r : Reply A) (k : A → Reply B) → Numbered r → ((a : A) → Numbered (k a)) → Numbered (then_to r k)
  numbered-then (refused r) k h f = h
  numbered-then (done a) k h f = f a

  pub numbered-verdict : {A : Type 0} (place : ℕ → Spot → ℕ) (xs : List Fault) (a : A) → Given xs → Numbered (verdict place xs a)
  numbered-verdict place [] a h = tt
  numbered-verdict place (x ∷ xs) a h = h.0

  numbered-room : {A : Type 0} (t : Bool) (need : ℕ) (a : A) → P 22 → Numbered (with_room t need a)
  numbered-room true need a h = tt
  numbered-room false need a h = h

  pub numbered-cond : {A : Type 0} (t : Bool) (a b : Reply A) → Numbered a → Numbered b → Numbered (cond t a b)
  numbered-cond true a b h k = h
  numbered-cond false a b h k = k

  numbered-before : (f : Field) (r : Reply Parsed) → Numbered r → Numbered (and_before f r)
  numbered-before f (refused r) h = h
  numbered-before f (done d) h = tt

  numbered-piece : (F : Form) (fl : List Fault) (at : ℕ) (s : List ℕ) (k : ℕ → List ℕ → Reply Parsed) → Given fl → ((p : ℕ) (t : List ℕ) → Numbered (k p t))
      → Numbered (piece_then F fl at s k)
  numbered-piece F [] at s k h g = numbered-before (F.piece s) (k (at + F.width s) (drop (F.width s) s)) (g (at + F.width s) (drop (F.width s) s))
  numbered-piece F (x ∷ xs) at s k h g = h.0

  numbered-pieces : (F : Form) → P 7 → ((s : List ℕ) → Given (F.faults s)) → (n at : ℕ) (s : List ℕ) → Numbered (pieces F n at s)
  unfolding pieces
  numbered-pieces F p g zero at s = numbered-cond (F.over s) _ _ tt p
  numbered-pieces F p g (suc n) at s =
      numbered-cond (F.over s) _ _ tt (numbered-piece F (F.faults s) at s (λ q t. pieces F n q t) (g s) (λ q t. numbered-pieces F p g n q t))

  -- a rule, and the rules after it
  pub given-rule : (t : Bool) (x : Fault) (r : List Fault) → P x.no → Given r → Given (ask t x ++ r)
  given-rule true x r p h = h
  given-rule false x r p h = (p, h)

  -- ---- the numbers of the line syntax; of the rules that reader and writer share; of a change

  record LineNumbers : Type 0 where
    n2 : P bad_length
    n3 : P cut_line
    n4 : P bad_end
    n5 : P bad_label
    n6 : P bad_byte

  record RuleNumbers : Type 0 where
    n8 : P no_start
    n9 : P unknown_set
    n11 : P not_in_set
    n12 : P stray
    n13 : P repeated
    n14 : P bad_content
    n15 : P other_version
    n16 : P missing
    n24 : P high_byte

  record ChangeNumbers : Type 0 where
    n19 : P no_such_line
    n20 : P fixed_line
    n6 : P bad_byte
    n14 : P bad_content
    n24 : P high_byte

  -- ---- the faults of each rule

  given-lows : P bad_byte → (k i : ℕ) (c : List ℕ) → Given (low_bytes k i c)
  given-lows p k i [] = tt
  given-lows p k i (b ∷ c) = given-rule (leb least_byte b) (at_byte bad_byte k i) (low_bytes k (suc i) c) p (given-lows p k (suc i) c)

  given-highs : P high_byte → (k i : ℕ) (c : List ℕ) → Given (high_bytes k i c)
  given-highs p k i [] = tt
  given-highs p k i (b ∷ c) = given-rule (leb b most_seven_bits) (at_byte high_byte k i) (high_bytes k (suc i) c) p (given-highs p k (suc i) c)

  given-high-from : P high_byte → (k : ℕ) (fs : List Field) → Given (high_from k fs)
  unfolding high_from
  given-high-from p k [] = tt
  given-high-from p k (f ∷ fs) = given-append (high_bytes k 0 f.content) _ (given-highs p k 0 f.content) (given-high-from p (k + 1) fs)

  given-high : P high_byte → (fs : List Field) → Given (high_faults fs)
  unfolding high_faults
  given-high p fs = given-cond (seven_bit fs) (take 1 (high_from 0 fs)) [] (given-one (high_from 0 fs) (given-high-from p 0 fs)) tt

  given-line : LineNumbers → (s : List ℕ) → Given (line_faults s)
  unfolding line_faults
  given-line p s =
      given-rule (length_ok s) (at_line bad_length 0 0) _ p.n2
      (given-rule (whole_ok s) (at_line cut_line 0 0) _ p.n3
      (given-rule (end_ok s) (at_line bad_end 0 0) _ p.n4
      (given-rule (label_ok s) (at_line bad_label 0 0) _ p.n5 (given-lows p.n6 0 0 (content_at s)))))

  given-entry : P bad_list → P bad_byte → (s : List ℕ) → Given (entry_faults s)
  unfolding entry_faults
  given-entry n21 n6 s = given-rule (entry_ok s) (at_line bad_list 0 0) (low_bytes 0 0 (entry_content s)) n21 (given-lows n6 0 0 (entry_content s))

  given-start : RuleNumbers → P no_sum → (fs : List Field) → Given (start_faults fs)
  unfolding start_faults
  given-start p n10 fs =
      given-rule (label_is fs 0 8000) (at_line no_start 0 0) _ p.n8
      (given-rule (type_known fs) (at_line unknown_set 0 0) (ask (label_is fs 1 8100) (at_line no_sum 1 0)) p.n9 (given-ask (label_is fs 1 8100) (at_line no_sum 1 0) n10))

  -- if the sum was put in, 10 is not given
  given-start-with : RuleNumbers → (f : Field) (fs : List Field) → Given (start_faults (with_sum (f ∷ fs)))
  unfolding start_faults
  given-start-with p f fs =
      given-rule (label_is (with_sum (f ∷ fs)) 0 8000) (at_line no_start 0 0) _ p.n8
      (given-rule (type_known (with_sum (f ∷ fs))) (at_line unknown_set 0 0) [] p.n9 tt)

  given-label : RuleNumbers → (o : Role) (st : State) (k l : ℕ) → Given (label_faults o st k l)
  unfolding label_faults
  given-label p unknown st k l = (p.n11, tt)
  given-label p strayed st k l = (p.n12, tt)
  given-label p (at_set_level r) st k l = given-ask (r.many || not (elem r.label st.top)) (at_line repeated k l) p.n13
  given-label p (member r) st k l = given-ask (r.many || not (elem r.label st.members)) (at_line repeated k l) p.n13

  given-content : RuleNumbers → (q : Profile) (k : ℕ) (f : Field) → Given (content_faults q k f)
  unfolding content_faults
  given-content p q k f =
      given-cond (fits q f) (ask (current q f) (at_line other_version k f.label)) (at_line bad_content k f.label ∷ [])
      (given-ask (current q f) (at_line other_version k f.label) p.n15) (p.n14, tt)

  given-content-rules : RuleNumbers → (o : Role) (q : Profile) (k : ℕ) (f : Field) → Given (content_rules o q k f)
  unfolding content_rules
  given-content-rules p unknown q k f = tt
  given-content-rules p strayed q k f = given-content p q k f
  given-content-rules p (at_set_level r) q k f = given-content p q k f
  given-content-rules p (member r) q k f = given-content p q k f

  given-rules : RuleNumbers → (q : Profile) (st : State) (k : ℕ) (fs : List Field) → Given (rules_from q st k fs)
  unfolding rules_from line_rules
  given-rules p q st k [] = tt
  given-rules p q st k (f ∷ fs) =
      given-append (line_rules (role_in q st f) q st k f) _
      (given-append (label_faults (role_in q st f) st k f.label) _ (given-label p (role_in q st f) st k f.label) (given-content-rules p (role_in q st f) q k f))
      (given-rules p q (next (role_in q st f) st k f.label) (k + 1) fs)

  given-lacking-of : P missing → (rs : List Row) (h k : ℕ) (has : ℕ → Bool) → Given (lacking_of rs h k has)
  unfolding lacking_of
  given-lacking-of n16 [] h k has = tt
  given-lacking-of n16 (r ∷ rs) h k has =
      given-rule (not (needed r has && not (has r.label))) (at_line missing k (missing_label h r.label)) (lacking_of rs h k has) n16 (given-lacking-of n16 rs h k has)

  given-lacking : P missing → (rs : List Row) (h k : ℕ) (has : ℕ → Bool) → Given (lacking rs h k has)
  unfolding lacking
  given-lacking n16 rs h k has = given-lacking-of n16 (ascending (rows_under rs h)) h k has

  given-group : P missing → (rs : List Row) (st : State) → Given (open_lacking rs st)
  unfolding open_lacking
  given-group n16 rs st =
      given-cond (eqb st.header no_header) [] (lacking rs st.header st.line (among st.members)) tt (given-lacking n16 rs st.header st.line (among st.members))

  given-groups : P missing → (rs : List Row) (st : State) (k : ℕ) (ls : List ℕ) → Given (groups_lacking rs st k ls)
  unfolding groups_lacking
  given-groups n16 rs st k [] = given-group n16 rs st
  given-groups n16 rs st k (l ∷ ls) =
      given-append (cond (stays (role (find rs l) st.header l)) [] (open_lacking rs st)) _
      (given-cond (stays (role (find rs l) st.header l)) [] (open_lacking rs st) tt (given-group n16 rs st))
      (given-groups n16 rs (next (role (find rs l) st.header l) st k l) (k + 1) ls)

  given-missing : P missing → (rs : List Row) (ls : List ℕ) → Given (missing_faults rs ls)
  unfolding missing_faults
  given-missing n16 rs ls =
      given-append (lacking rs set_level 0 (among (after rs first 0 ls).top)) _ (given-lacking n16 rs set_level 0 (among (after rs first 0 ls).top)) (given-groups n16 rs first 0 ls)

  given-change : ChangeNumbers → (fs : List Field) (n : ℕ) (c : List ℕ) → Given (change_faults fs n c)
  unfolding change_faults
  given-change p fs n c =
      let l : ℕ = label_at_line fs (pred n) in
      given-rule (leb 1 n && leb n (length fs)) (at_line no_such_line (length fs) 0) _ p.n19
      (given-rule (not (fixed l)) (at_line fixed_line (pred n) l) _ p.n20
      (given-append (low_bytes (pred n) 0 c) _ (given-lows p.n6 (pred n) 0 c)
      (given-rule (fits (profile fs) (field l c)) (at_line bad_content (pred n) l) _ p.n14
      (given-cond (seven_bit fs) (high_bytes (pred n) 0 c) [] (given-highs p.n24 (pred n) 0 c) tt))))

  given-pending : P bad_list → ChangeNumbers → (fs : List Field) (s : List ℕ) → Given (sheet_entry_faults fs s)
  unfolding sheet_entry_faults
  given-pending n21 p fs s =
      given-rule (entry_whole s) (at_line bad_list 0 0) (change_faults fs (entry_label s) (entry_content s)) n21 (given-change p fs (entry_label s) (entry_content s))

  -- ---- the calls

  numbered-scan : P empty → P too_many_lines → LineNumbers → (s : List ℕ) → Numbered (scan s)
  unfolding scan
  numbered-scan n1 n7 p s =
      numbered-cond (is_nil s) _ _ n1
      (numbered-piece line_form (line_faults s) 0 s (λ q t. pieces line_form (max_lines - 1) q t) (given-line p s)
      (λ q t. numbered-pieces line_form n7 (given-line p) (max_lines - 1) q t))

  numbered-read : P empty → P too_many_lines → LineNumbers → P no_sum → RuleNumbers → P bad_sum → (s : List ℕ) → Numbered (read s)
  unfolding read set_faults rule_faults sum_faults
  numbered-read n1 n7 p n10 q n17 s = go (scan s) (numbered-scan n1 n7 p s)
    where
      go : (r : Reply Parsed) → Numbered r → Numbered (by_rules r)
      go (refused x) h = h
      go (done d) h =
          let fs : List Field = d.fields in
          numbered-verdict (in_set fs) (set_faults fs) d
          (given-append (rule_faults fs) (sum_faults fs)
          (given-append (start_faults fs) _ (given-start q n10 fs)
          (given-append (rules_from (profile fs) first 0 fs) _ (given-rules q (profile fs) first 0 fs)
          (given-append (missing_faults (rows_of (profile fs)) (labels fs)) _ (given-missing q.n16 (rows_of (profile fs)) (labels fs)) (given-high q.n24 fs))))
          (given-ask (eqb (number (content_at_line fs 1)) (size fs)) (at_line bad_sum 1 0) n17))

  numbered-index : ((s : List ℕ) → Numbered (read s)) → P no_room → (s : List ℕ) (room : ℕ) → Numbered (index s room)
  unfolding index
  numbered-index h n22 s room = numbered-then (read s) _ (h s) (λ d. numbered-room (leb (length d.fields) room) (length d.fields) (index_of d.fields) n22)

  numbered-list : ((s : List ℕ) → Numbered (read s)) → P no_room → (s : List ℕ) (room : ℕ) → Numbered (list s room)
  unfolding list
  numbered-list h n22 s room =
      numbered-then (read s) _ (h s)
      (λ d. numbered-room (leb (list_size (without_sum d.fields)) room) (list_size (without_sum d.fields)) (put_all entry_form (without_sum d.fields) []) n22)

  pub numbered-set : P no_room → (fs : List Field) (room : ℕ) → Numbered (set_with_room fs room)
  numbered-set n22 fs room = numbered-room (leb (size fs) room && leb (size fs) max_set_bytes) (size fs) (render fs []) n22

  numbered-correct : ((s : List ℕ) → Numbered (read s)) → P bad_use → ChangeNumbers → P no_room → (b : List ℕ) (used n : ℕ) (c : List ℕ) → Numbered (correct b used n c)
  unfolding correct
  numbered-correct h n18 p n22 b used n c =
      numbered-cond (leb used (length b)) (then_to (read (take used b)) (λ d. correct_lines (length b) n c d)) _
      (numbered-then (read (take used b)) (λ d. correct_lines (length b) n c d) (h (take used b)) (λ d.
      numbered-then (verdict (in_change d.fields) (alone_faults d ++ change_faults d.fields n c) (changed d.fields n c)) (λ fs. set_with_room fs (length b))
      (numbered-verdict (in_change d.fields) (alone_faults d ++ change_faults d.fields n c) (changed d.fields n c)
      (given-rule (is_nil d.rest) (at_line bad_use (length d.fields) 0) (change_faults d.fields n c) n18 (given-change p d.fields n c)))
      (λ fs. numbered-set n22 fs (length b)))) n18

  numbered-view : ((s : List ℕ) → Numbered (read s)) → P bad_use → P too_many_lines → ChangeNumbers → P bad_list → (s h : List ℕ) (n : ℕ) → Numbered (viewing s h n)
  unfolding viewing
  numbered-view g n18 n7 p n21 s h n =
      numbered-then (read s) _ (g s) (λ d.
      numbered-then (verdict (in_set d.fields) (alone_faults d ++ line_number_faults d.fields n) d.fields) _
      (numbered-verdict (in_set d.fields) (alone_faults d ++ line_number_faults d.fields n) d.fields
      (given-rule (is_nil d.rest) (at_line bad_use (length d.fields) 0) (line_number_faults d.fields n) n18
      (given-ask (leb 1 n && leb n (length d.fields)) (at_line no_such_line (length d.fields) 0) p.n19))) (λ fs.
      numbered-then (sheet fs h) _ (numbered-pieces (sheet_form fs) n7 (given-pending n21 p fs) (length h) 0 h) (λ e. tt)))

  numbered-written : RuleNumbers → P no_room → (room : ℕ) (f : Field) (fs : List Field) → Numbered (written room (f ∷ fs))
  unfolding rule_faults
  numbered-written p n22 room f fs =
      let all : List Field = with_sum (f ∷ fs) in
      numbered-then (verdict (in_list (f ∷ fs)) (rule_faults all) all) (λ gs. set_with_room gs room)
      (numbered-verdict (in_list (f ∷ fs)) (rule_faults all) all
      (given-append (start_faults all) _ (given-start-with p f fs)
      (given-append (rules_from (profile all) first 0 all) _ (given-rules p (profile all) first 0 all)
      (given-append (missing_faults (rows_of (profile all)) (labels all)) _ (given-missing p.n16 (rows_of (profile all)) (labels all)) (given-high p.n24 all)))))
      (λ gs. numbered-set n22 gs room)

  -- a list of some bytes has a first entry
  numbered-entries : P bad_list → P bad_byte → P too_many_lines → RuleNumbers → P no_room → (room n a : ℕ) (l : List ℕ)
      → Numbered (then_to (pieces entry_form (suc n) 0 (a ∷ l)) (λ d. written room d.fields))
  unfolding pieces
  numbered-entries n21 n6 n7 p n22 room n a l = go (entry_faults (a ∷ l)) (given-entry n21 n6 (a ∷ l))
    where
      behind-first : (f : Field) (r : Reply Parsed) → Numbered r → Numbered (then_to (and_before f r) (λ d. written room d.fields))
      behind-first f (refused x) h = h
      behind-first f (done d) h = numbered-written p n22 room f d.fields

      go : (fl : List Fault) → Given fl → Numbered (then_to (piece_then entry_form fl 0 (a ∷ l) (λ q t. pieces entry_form n q t)) (λ d. written room d.fields))
      go [] h =
          behind-first (entry_field (a ∷ l)) (pieces entry_form n (0 + entry_width (a ∷ l)) (drop (entry_width (a ∷ l)) (a ∷ l)))
          (numbered-pieces entry_form n7 (given-entry n21 n6) n (0 + entry_width (a ∷ l)) (drop (entry_width (a ∷ l)) (a ∷ l)))
      go (x ∷ xs) h = h.0

  numbered-write : P empty → P bad_list → P bad_byte → P too_many_lines → RuleNumbers → P no_room → (l : List ℕ) (room : ℕ) → Numbered (write l room)
  unfolding write
  numbered-write n1 n21 n6 n7 p n22 [] room = n1
  numbered-write n1 n21 n6 n7 p n22 (a ∷ l) room = numbered-entries n21 n6 n7 p n22 room (max_entries - 1) a l

-- ---- which numbers

-- the numbers by name, as paper and requests count them
all-numbers : numbers ≡ 1 ∷ 2 ∷ 3 ∷ 4 ∷ 5 ∷ 6 ∷ 7 ∷ 8 ∷ 9 ∷ 10 ∷ 11 ∷ 12 ∷ 13 ∷ 14 ∷ 15 ∷ 16 ∷ 17 ∷ 18 ∷ 19 ∷ 20 ∷ 21 ∷ 22 ∷ 23 ∷ 24 ∷ 25 ∷ 26 ∷ 27 ∷ []
all-numbers = refl

-- n is one of ns
abbrev pub OneOf : List ℕ → ℕ → Type 0
OneOf ns n = elem n ns ≡ true

abbrev pub read_numbers : List ℕ
read_numbers = 1 ∷ 2 ∷ 3 ∷ 4 ∷ 5 ∷ 6 ∷ 7 ∷ 8 ∷ 9 ∷ 10 ∷ 11 ∷ 12 ∷ 13 ∷ 14 ∷ 15 ∷ 16 ∷ 17 ∷ 24 ∷ []

abbrev pub write_numbers : List ℕ
write_numbers = 1 ∷ 6 ∷ 7 ∷ 8 ∷ 9 ∷ 11 ∷ 12 ∷ 13 ∷ 14 ∷ 15 ∷ 16 ∷ 21 ∷ 22 ∷ 24 ∷ []

-- judging: 1 to 17 and 24, and whatever else a call gives
module _ (more : List ℕ) where
  pub reads_so : (s : List ℕ) → Numbered (OneOf (read_numbers ++ more)) (read s)
  unfolding elem
  reads_so = numbered-read (OneOf (read_numbers ++ more)) refl refl (record { n2 = refl; n3 = refl; n4 = refl; n5 = refl; n6 = refl }) refl
      (record { n8 = refl; n9 = refl; n11 = refl; n12 = refl; n13 = refl; n14 = refl; n15 = refl; n16 = refl; n24 = refl }) refl

pub read-numbers : (s : List ℕ) → Numbered (OneOf read_numbers) (read s)
read-numbers = reads_so []

pub index-numbers : (s : List ℕ) (room : ℕ) → Numbered (OneOf (read_numbers ++ (22 ∷ []))) (index s room)
unfolding elem
index-numbers = numbered-index _ (reads_so (22 ∷ [])) refl

pub list-numbers : (s : List ℕ) (room : ℕ) → Numbered (OneOf (read_numbers ++ (22 ∷ []))) (list s room)
unfolding elem
list-numbers = numbered-list _ (reads_so (22 ∷ [])) refl

pub write-numbers : (l : List ℕ) (room : ℕ) → Numbered (OneOf write_numbers) (write l room)
unfolding elem
write-numbers = numbered-write (OneOf write_numbers) refl refl refl refl
    (record { n8 = refl; n9 = refl; n11 = refl; n12 = refl; n13 = refl; n14 = refl; n15 = refl; n16 = refl; n24 = refl }) refl

pub correct-numbers : (b : List ℕ) (used n : ℕ) (c : List ℕ) → Numbered (OneOf (read_numbers ++ (18 ∷ 19 ∷ 20 ∷ 22 ∷ []))) (correct b used n c)
unfolding elem
correct-numbers = numbered-correct _ (reads_so (18 ∷ 19 ∷ 20 ∷ 22 ∷ [])) refl (record { n19 = refl; n20 = refl; n6 = refl; n14 = refl; n24 = refl }) refl

pub view-numbers : (s h : List ℕ) (n : ℕ) → Numbered (OneOf (read_numbers ++ (18 ∷ 19 ∷ 20 ∷ 21 ∷ []))) (viewing s h n)
unfolding elem
view-numbers = numbered-view _ (reads_so (18 ∷ 19 ∷ 20 ∷ 21 ∷ [])) refl refl (record { n19 = refl; n20 = refl; n6 = refl; n14 = refl; n24 = refl }) refl
