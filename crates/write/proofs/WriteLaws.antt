-- The walk of `write` over a list: what is left to put as it goes, what it gives for a checked list, and the answers of `write`.
use mathlib.Core.Path.{◌≡◌, refl, sym, ap, ap₂, ◌∙◌}
use mathlib.Core.Bool.{Bool, true, false, cond, ◌&&◌}
use mathlib.Core.List.{List, [], ◌∷◌, ◌++◌, append_assoc}
use Prim.Native.Nat.{ℕ, ◌+◌, ◌-◌, ◌*◌, ◌≤◌, ◌<◌}
use native.Mathlib.Omega.{arith}
use lib.Dec.{leb, eqb}
use lib.ListN.{length, take, drop, replicate}
use borrow.Author.Tests.{le-leb, lt-leb, ne_eqb, eqb-true}
use borrow.Rule.Slice.PartMut.{mid_of, put_mid}
use Rattle.meaning.specs.declared.Refusal.{Refusal}
use Rattle.meaning.specs.Limits.{max_entries, max_set_bytes}
use Rattle.meaning.specs.Digits.{digits}
use Rattle.meaning.specs.Field.{Field, field, is_nil}
use Rattle.meaning.specs.Refusals.{Spot, Fault, Reply, refused, done, then_to, verdict, with_room, refusal, empty, no_room}
use Rattle.meaning.specs.Pieces.{parsed, pieces}
use Rattle.meaning.specs.Lines.{line_size, line_then, size, render}
use Rattle.meaning.specs.Entries.{entry_lead, entry_form, list_size}
use Rattle.meaning.specs.FieldTable.{fits_label}
use Rattle.meaning.specs.Rules.{fits, rule_faults}
use Rattle.meaning.specs.Lists.{sum_digits, with_sum, in_list, set_with_room, write}
use Rattle.meaning.specs.Answers.{made, bytes_left, write_call}
use Rattle.meaning.proofs.DigitLaws.{length-digits}
use Rattle.meaning.proofs.FieldLaws.{fits_sum}
use Rattle.meaning.proofs.EntryLaws.{lines-over-entries}
use Rattle.meaning.proofs.LineLaws.{length-render, render-split}
use Rattle.entry_read.specs.Head.{entry_at, list_content, a_head}
use Rattle.entry_read.proofs.HeadWalkLaws.{entries-end, entries-cut, entries-on, Reads}
use Rattle.meaning.proofs.FirstLaws.{first_of, Real}
use Rattle.byte_put.specs.Places.{over}
use Rattle.byte_put.proofs.OverLaws.{Turned, here-fits, turned, front-then-zeros}
use Rattle.write_judge.specs.Judging.{check_from, judge_entries, count_unless, ruled, judged_list, ListJudged}
use Rattle.write_judge.proofs.CheckLaws.{check-entered, check-refused}
use Rattle.write_judge.proofs.EntryPass.{entries-found, rules-real}
use Rattle.write_lines.specs.EntryLines.{entry_lines}
use Rattle.write_lines.proofs.LinePutLaws.{later-only, first-both}
use Rattle.write.specs.Writing.{lines_then, lines_left}
use Rattle.std.specs.Prelude.{Err, None, Ok}

-- ---- one line

line-then : (f : Field) (t : List ℕ) → line_then f [] ++ t ≡ line_then f t
line-then f t = sym (render-split (f ∷ []) t)

-- ---- the walk: no entry is left, a head is cut, an entry more

module _ (l sum : List ℕ) (at : ℕ) where
  pub lines_end : length l ≤ at → lines_left l sum at ≡ []
  lines_end h = entries-end [] (lines_then l sum) l at h

  pub lines_cut : entry_at l at ≡ None → lines_left l sum at ≡ []
  lines_cut e = entries-cut [] (lines_then l sum) l at e

  lines-on : {label m : ℕ} → entry_at l at ≡ a_head label m → lines_left l sum at ≡ entry_lines at label (list_content l at m) sum ++ lines_left l sum (at + (entry_lead + m))
  lines-on e = entries-on [] (lines_then l sum) l at e

-- one turn: the lines of one entry, and what is left after them
module _ (l sum : List ℕ) (at : ℕ) {label m : ℕ} (e : entry_at l at ≡ a_head label m) (w : ℕ) (q : w ≡ m) (end : ℕ) (x : end ≡ at + (entry_lead + m))
    (out : List ℕ) (to : ℕ) (g : to + length (lines_left l sum at) ≤ length out) where
  abbrev here : List ℕ
  here = entry_lines at label (take w (drop (at + entry_lead) l)) sum

  abbrev rest : List ℕ
  rest = lines_left l sum end

  both : lines_left l sum at ≡ here ++ rest
  both = lines-on l sum at e ∙ ap₂ (λ (y z : ℕ). entry_lines at label (take y (drop (at + entry_lead) l)) sum ++ lines_left l sum z) (sym q) (sym x)

  pub lines_fit : to + length here ≤ length out
  lines_fit = here-fits out to _ here rest both g

  pub put-turn : (to' : ℕ) (out' : List ℕ) → to' ≡ to + length here → out' ≡ over to here out → Turned out out' (lines_left l sum at) rest to to'
  put-turn = turned out to _ here rest both g

-- ---- what the walk gives

-- the entries after the first: by induction on fs
later-lines : (l sum : List ℕ) (fs : List Field) (at : ℕ) → Reads l at fs → at + list_size fs ≡ length l → 1 ≤ at → lines_left l sum at ≡ render fs []
later-lines l sum [] at rd w h = lines_end l sum at (omega arith)
later-lines l sum (f ∷ fs) at rd w h =
    lines-on l sum at rd.0
    ∙ (rw (rd.1, later-only at f.label f.content sum (λ e. omega arith))
    (ap (λ (u : List ℕ). line_then f [] ++ u) (later-lines l sum fs (at + (entry_lead + length f.content)) rd.2 (omega arith) (omega arith)) ∙ line-then f (render fs [])))

-- all entries: after the first stands the line of 8100
all_lines : (l sum : List ℕ) (f : Field) (fs : List Field) → Reads l 0 (f ∷ fs) → list_size (f ∷ fs) ≡ length l → lines_left l sum 0 ≡ render (f ∷ field 8100 sum ∷ fs) []
all_lines l sum f fs rd w =
    let s : Field = field 8100 sum in
    let next : ℕ = 0 + (entry_lead + length f.content) in
    lines-on l sum 0 rd.0
    ∙ (rw (rd.1, first-both 0 f.label f.content sum refl)
    (append_assoc (line_then f []) (line_then s []) (lines_left l sum next)
    ∙ (ap (λ (u : List ℕ). line_then f [] ++ (line_then s [] ++ u)) (later-lines l sum fs next rd.2 (omega arith) (omega arith))
    ∙ (ap (λ (u : List ℕ). line_then f [] ++ u) (line-then s (render fs [])) ∙ line-then f (render (s ∷ fs) [])))))

-- ---- the answers

-- how many bytes the set of a list of n entries has
abbrev pub total_of : List ℕ → ℕ → ℕ
total_of l n = length l + n * 5 + 14

-- the digits of its sum
abbrev pub sum_of : List ℕ → ℕ → List ℕ
sum_of l n = digits sum_digits (total_of l n)

-- a fault that is found is the answer, else what follows
by_first : {A : Type 0} (pl : ℕ → Spot → ℕ) (xs : List Fault) (d : A) (k : A → Reply (List ℕ)) → Real xs
    → then_to (verdict pl xs d) k ≡ cond (eqb (first_of pl xs).no 0) (k d) (refused (first_of pl xs))
by_first pl [] d k h = refl
by_first pl (x ∷ xs) d k h = sym (rw (ne_eqb x.no 0 h))

-- what is known of a list that is checked
pub record Answers (l : List ℕ) (n : ℕ) : Type 0 where
  pub few : n ≤ max_entries
  pub need : length (lines_left l (sum_of l n) 0) ≡ total_of l n
  pub answer : (room : ℕ) → write l room
      ≡ cond (eqb (judge_entries l).no 0) (with_room (leb (total_of l n) room && leb (total_of l n) max_set_bytes) (total_of l n) (lines_left l (sum_of l n) 0)) (refused (judge_entries l))

sum_fits : (total : ℕ) → fits_label 8100 (digits sum_digits total) ≡ true
unfolding fits
sum_fits total = fits_sum (record { set_type = None }) total

not-nil : (l : List ℕ) → 0 < length l → is_nil l ≡ false
not-nil [] h = absurd (omega arith)
not-nil (b ∷ l) h = refl

module _ (l : List ℕ) (n : ℕ) (some : 0 < length l) where
  answers_of : (es : List Field) (t : List ℕ) → pieces entry_form max_entries 0 l ≡ done (parsed es t) → n ≡ length es
      → Reads l 0 es → list_size es ≡ length l → n ≤ max_entries → Answers l n
  unfolding write
  answers_of [] t p c rd w few = absurd (omega (arith, w))
  answers_of (f ∷ fs) t p c rd w few =
      let es : List Field = f ∷ fs in
      let sum : List ℕ = sum_of l n in
      let all : List Field = f ∷ field 8100 sum ∷ fs in
      let total : line_size f + (14 + size fs) ≡ total_of l n = omega (arith, lines-over-entries es, w, c) in
      let put_in : with_sum es ≡ all = ap (λ (x : ℕ). f ∷ field 8100 (digits 5 x) ∷ fs) total in
      let sized : size all ≡ total_of l n = omega (arith, total, length-digits 5 (total_of l n)) in
      let lines : lines_left l sum 0 ≡ render all [] = all_lines l sum f fs rd w in
      let found : judge_entries l ≡ first_of (in_list es) (rule_faults all) = entries-found l f fs sum rd w (sum_fits (total_of l n)) in
      record {
        few = few;
        need = ap length lines ∙ (length-render all [] ∙ omega (arith, sized));
        answer = λ room. rw (not-nil l some, p, put_in) (
            by_first (in_list es) (rule_faults all) all (λ gs. set_with_room gs room) (rules-real all)
            ∙ ap₂ (λ (r : Refusal) (y : Reply (List ℕ)). cond (eqb r.no 0) y (refused r)) (sym found)
            (ap₂ (λ (m : ℕ) (u : List ℕ). with_room (leb m room && leb m max_set_bytes) m u) sized (sym lines)));
      }

  answers-are : check_from l 0 0 max_entries ≡ Ok n → Answers l n
  answers-are e = let x = check-entered l n e in answers_of x.entries x.left x.scanned x.count x.reads x.whole x.few

-- a list that is not refused
list_done : (x : ListJudged) (q : Refusal) {n : ℕ} → ruled x q ≡ Ok n → (x ≡ Ok n) × (q.no ≡ 0)
unfolding count_unless
list_done (Ok m) q {n} e = go (eqb q.no 0) refl e
  where
    go : (b : Bool) → eqb q.no 0 ≡ b → cond b (Ok m) (Err q) ≡ Ok n → (◌≡◌ {A = ListJudged} (Ok m) (Ok n)) × (q.no ≡ 0)
    go true z h = (h, eqb-true q.no 0 z)
    go false z h = let z : ◌≡◌ {A = ℕ} 0 1 = cc in absurd (omega arith)
list_done (Err r) q e = let z : ◌≡◌ {A = ℕ} 0 1 = cc in absurd (omega arith)

module _ (l : List ℕ) (n : ℕ) (some : 0 < length l) (e : judged_list l ≡ Ok n) where
  not-refused : (check_from l 0 0 max_entries ≡ Ok n) × ((judge_entries l).no ≡ 0)
  unfolding judged_list
  not-refused = list_done (check_from l 0 0 max_entries) (judge_entries l) e

  answers : Answers l n
  answers = answers-are l n some not-refused.0

  pub not-many : n ≤ max_entries
  not-many = answers.few

  -- the lines have the bytes that were counted
  pub set-fits : {room : ℕ} → total_of l n ≤ room → length (lines_left l (sum_of l n) 0) ≤ room
  set-fits h = omega (arith, answers.need)

  module _ (b : List ℕ) where
    by-room : write l (length b) ≡ with_room (leb (total_of l n) (length b) && leb (total_of l n) max_set_bytes) (total_of l n) (lines_left l (sum_of l n) 0)
    by-room = answers.answer (length b) ∙ rw not-refused.1

    -- 22: "over the buffer"
    pub answer-full : length b < total_of l n → (Err (refusal no_room (total_of l n) 0) ≡ (write_call l b).answer) × (b ≡ (write_call l b).buffer)
    answer-full g =
        let q : refused (refusal no_room (total_of l n) 0) ≡ write l (length b) = sym (by-room ∙ rw (lt-leb (total_of l n) (length b) g)) in
        (ap made q, ap (λ (x : Reply (List ℕ)). bytes_left x b) q)

    module _ (g : total_of l n ≤ length b) where
      -- 22: "or over 99,999"
      pub answer-long : max_set_bytes < total_of l n → (Err (refusal no_room (total_of l n) 0) ≡ (write_call l b).answer) × (b ≡ (write_call l b).buffer)
      answer-long m =
          let q : refused (refusal no_room (total_of l n) 0) ≡ write l (length b) = sym (by-room ∙ rw (le-leb (total_of l n) (length b) g, lt-leb (total_of l n) max_set_bytes m)) in
          (ap made q, ap (λ (x : Reply (List ℕ)). bytes_left x b) q)

      -- the set at the front, and zeros after it
      pub answer-set : total_of l n ≤ max_set_bytes → (b' y : List ℕ) → b' ≡ over 0 (lines_left l (sum_of l n) 0) b
          → y ≡ replicate (length (mid_of (total_of l n) (length b' - total_of l n) b')) 0
          → (Ok (total_of l n) ≡ (write_call l b).answer) × (put_mid (total_of l n) (length b' - total_of l n) b' y ≡ (write_call l b).buffer)
      answer-set m b' y p z =
          let x : List ℕ = lines_left l (sum_of l n) 0 in
          let q : done x ≡ write l (length b) = sym (by-room ∙ rw (le-leb (total_of l n) (length b) g, le-leb (total_of l n) max_set_bytes m)) in
          let need : total_of l n ≡ length x = sym answers.need in (
            ap Ok need ∙ ap made q,
            front-then-zeros b b' y x (total_of l n) p need z ∙ ap (λ (u : Reply (List ℕ)). bytes_left u b) q,
          )

-- 1
pub answer-empty : (l b : List ℕ) → length l ≡ 0 → (Err (refusal empty 0 0) ≡ (write_call l b).answer) × (b ≡ (write_call l b).buffer)
unfolding write
answer-empty [] b h = (refl, refl)
answer-empty (x ∷ l) b h = absurd (omega arith)

-- 7, 21, 6
unchecked-so : (l : List ℕ) (room : ℕ) (r : Refusal) → 0 < length l → check_from l 0 0 max_entries ≡ Err r → write l room ≡ refused r
unfolding write
unchecked-so l room r h e = rw (not-nil l h, check-refused l r e)

-- and 8, 9, 11 to 16, 24
pub answer-refused : (l b : List ℕ) (r : Refusal) → 0 < length l → judged_list l ≡ Err r → (Err r ≡ (write_call l b).answer) × (b ≡ (write_call l b).buffer)
unfolding judged_list count_unless
answer-refused l b r h e =
    let q : refused r ≡ write l (length b) = sym (go (check_from l 0 0 max_entries) refl e) in
    (ap made q, ap (λ (x : Reply (List ℕ)). bytes_left x b) q)
  where
    judged : (n : ℕ) (c : Bool) → check_from l 0 0 max_entries ≡ Ok n → eqb (judge_entries l).no 0 ≡ c
        → cond c (Ok n) (Err (judge_entries l)) ≡ Err r → write l (length b) ≡ refused r
    judged n true x q g = let z : ◌≡◌ {A = ℕ} 0 1 = cc in absurd (omega arith)
    judged n false x q g = let z : judge_entries l ≡ r = cc in (answers-are l n h x).answer (length b) ∙ (rw q (ap refused z))

    go : (x : ListJudged) → check_from l 0 0 max_entries ≡ x → ruled x (judge_entries l) ≡ Err r → write l (length b) ≡ refused r
    go (Err q) x g = let z : q ≡ r = cc in unchecked-so l (length b) q h x ∙ ap refused z
    go (Ok n) x g = judged n (eqb (judge_entries l).no 0) x refl g
