-- The walks of `judge_list` over a list's bytes, entry by entry: offsets and flags in the place of fields and labels.
-- What they mean is in proofs/CheckLaws (7, 21, 6) and proofs/EntryPass (8, 9, 11 to 16, 24).
use Rattle.std.specs.Prelude.{◌≡◌, true, cond, List, ℕ, zero, suc, ◌+◌, ◌-◌, leb, eqb, length, set, Result, Err, None, Ok, Some}
use Rattle.meaning.specs.declared.Refusal.{Refusal}
use Rattle.meaning.specs.declared.SetType.{SetType}
use Rattle.meaning.specs.Limits.{max_entries}
use Rattle.meaning.specs.Refusals.{refusal, bad_byte, too_many_lines, no_start, unknown_set, bad_list}
use Rattle.meaning.specs.Entries.{entry_lead, max_label}
use Rattle.meaning.specs.Rules.{type_named}
use Rattle.meaning.specs.Answers.{no_refusal}
use Rattle.byte_low.specs.Low.{first_low}
use Rattle.entry_read.specs.Head.{entry_at, by_head, list_content}
use Rattle.entry_read.specs.HeadWalk.{entries_left}
use Rattle.judge_missing.specs.Lacks.{Flagged, no_flags, finish_then}
use Rattle.judge_line.specs.Steps.{row_of, line_no, next_flagged, stays_in, lack_then}
use Rattle.write_seven.specs.ListSeven.{high_in_list}
use Rattle.meaning.specs.Results.{Known}

-- what judging a list finds: how many entries it has, or its first refusal
abbrev pub ListJudged : Type 0
ListJudged = Result ℕ Refusal

-- ---- 7, 21, 6

-- what reading one entry finds: the length of its content, or the first of 21 and 6 that it breaks
abbrev pub Item : Type 0
Item = Result ℕ Refusal

-- the entry at an offset, which is not cut: the rest of 21, then 6
unfoldable pub check_content : List ℕ → ℕ → ℕ → ℕ → Item
check_content l at label n =
    let low = first_low l (at + entry_lead) n in
    cond (leb label max_label) (cond (leb (at + entry_lead + n) low) (Ok n) (Err (refusal bad_byte low 0))) (Err (refusal bad_list at 0))

unfoldable pub check_entry : List ℕ → ℕ → Item
check_entry l at = by_head (entry_at l at) (Err (refusal bad_list at 0)) (λ label n. check_content l at label n)

-- what follows an entry that is checked, by the length of its content; else its refusal
abbrev pub after_entry : Item → (ℕ → ListJudged) → ListJudged
after_entry (Ok n) f = f n
after_entry (Err r) f = Err r

-- the entries from an offset on, with n before them; 7 if more than k start
unfoldable pub check_from : List ℕ → ℕ → ℕ → ℕ → ListJudged
check_from l at n zero = cond (leb (length l) at) (Ok n) (Err (refusal too_many_lines at 0))
check_from l at n (suc k) = cond (leb (length l) at) (Ok n) (after_entry (check_entry l at) (λ m. check_from l (at + (entry_lead + m)) (n + 1) k))

-- the same in the code's order, an entry before the question whether one is left; this many of the 511 may still start
abbrev pub check_some : List ℕ → ℕ → ℕ → ListJudged
check_some l at left = after_entry (check_entry l at) (λ m. check_from l (at + (entry_lead + m)) (max_entries - (left - 1)) (left - 1))

-- no entry from an offset on is refused by 21 or 6, and the last one ends with the list
pub record Checked (l : List ℕ) (at : ℕ) : Type 0 where
  pub before : ℕ
  pub most : ℕ
  pub count : ℕ
  pub checked : check_from l at before most ≡ Ok count

-- ---- 8, 9, 11 to 16, 24

-- one line: its refusal, or what follows with the state and the first group's lack after it
abbrev pub step_then : SetType → Flagged → Refusal → ℕ → ℕ → List ℕ → (Flagged → Refusal → Refusal) → Refusal
step_then settype st lack at l c F =
    cond (eqb (line_no (row_of settype l) st l c) 0) (F (next_flagged (row_of settype l) st at l) (lack_then (stays_in (row_of settype l)) settype st lack))
    (refusal (line_no (row_of settype l) st l c) at l)

-- an entry's refusal; else what the entries after it give
abbrev pub step_or_later : List ℕ → SetType → ℕ → ℕ → ℕ → (Flagged → Refusal → Refusal) → Flagged → Refusal → Refusal
step_or_later l settype at label m rest st lack = step_then settype st lack at label (list_content l at m) rest

-- 11 to 15 of the entries from an offset on, and after the last 16, and then 24 of the whole list
unfoldable pub entries_pass : List ℕ → SetType → ℕ → Flagged → Refusal → Refusal
entries_pass l settype at = entries_left (λ st lack. finish_then settype st lack (high_in_list l)) (step_or_later l settype) l at

-- the numbers of 8000 and 8100
abbrev pub row8000 : ℕ
row8000 = 31

abbrev pub row8100 : ℕ
row8100 = 32

-- after line 1 and line 2, which are never refused by 11 to 15
abbrev pub started : Flagged
started = record { header = 8100; place = 0; members = no_flags; top = set (set no_flags row8000 true) row8100 true }

abbrev pub by_known : Known → Refusal → (SetType → Refusal) → Refusal
by_known (Some settype) r f = f settype
by_known None r f = r

-- a list whose first entry has this label and a content of m bytes
unfoldable pub first_entry : List ℕ → ℕ → ℕ → Refusal
first_entry l label m =
    cond (eqb label 8000)
    (by_known (type_named (list_content l 0 m)) (refusal unknown_set 0 0) (λ settype. entries_pass l settype (entry_lead + m) started no_refusal))
    (refusal no_start 0 0)

unfoldable pub judge_entries : List ℕ → Refusal
judge_entries l = by_head (entry_at l 0) (refusal bad_list 0 0) (λ label m. first_entry l label m)

-- ---- the check, then the rules

-- this many entries, if nothing is refused
unfoldable pub count_unless : Refusal → ℕ → ListJudged
count_unless r n = cond (eqb r.no 0) (Ok n) (Err r)

-- 7, 21 and 6 as the check found them, then the rules
abbrev pub ruled : ListJudged → Refusal → ListJudged
ruled (Ok n) q = count_unless q n
ruled (Err r) q = Err r

-- the whole list
unfoldable pub judged_list : List ℕ → ListJudged
judged_list l = ruled (check_from l 0 0 max_entries) (judge_entries l)
