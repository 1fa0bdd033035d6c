-- The walks of `list_says_seven` and `high_in_contents`, over the bytes of a list, entry by entry. What they are for entries that keep the rules is in proofs/ListSevenMeaning.
use Rattle.std.specs.Prelude.{Bool, false, cond, List, ℕ, ◌+◌, leb, eqb, Option, None, Some}
use Rattle.meaning.specs.declared.Refusal.{Refusal}
use Rattle.meaning.specs.Digits.{digits}
use Rattle.meaning.specs.Refusals.{refusal, high_byte}
use Rattle.meaning.specs.Kinds.{same_bytes}
use Rattle.meaning.specs.Entries.{entry_lead}
use Rattle.meaning.specs.Answers.{no_refusal}
use Rattle.byte_high.specs.High.{first_high}
use Rattle.entry_read.specs.Head.{list_content}
use Rattle.entry_read.specs.HeadWalk.{entries_left}

-- a 9206 entry decides by its content; else those after it do
abbrev pub seven_or_later : List ℕ → ℕ → ℕ → ℕ → Bool → Bool
seven_or_later l at label n rest = cond (eqb label 9206) (same_bytes (list_content l at n) (digits 1 1)) rest

-- the first 9206 entry from an offset on has content 1
unfoldable pub list_says_seven : List ℕ → ℕ → Bool
list_says_seven l at = entries_left false (seven_or_later l) l at

-- the refusal, if there is one: its number is not 0
abbrev pub if_any : Refusal → Option Refusal
if_any r = cond (eqb r.no 0) None (Some r)

-- 24 at the first byte over 7Fh of an entry's content; else what the entries after it give
abbrev pub high_or_later : List ℕ → ℕ → ℕ → ℕ → Refusal → Refusal
high_or_later l at label n rest = let high = first_high l (at + entry_lead) n in cond (leb (at + entry_lead + n) high) rest (refusal high_byte high 0)

-- 24 in the contents from an offset on
unfoldable pub high_in_contents : List ℕ → ℕ → Refusal
high_in_contents l at = entries_left no_refusal (high_or_later l) l at

-- 24 in a list
unfoldable pub high_in_list : List ℕ → Refusal
high_in_list l = cond (list_says_seven l 0) (high_in_contents l 0) no_refusal
