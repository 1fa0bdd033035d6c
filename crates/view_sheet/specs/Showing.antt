-- The walk of `shown_under`: entry by entry over the bytes of the sheet, in the code's order. The code has the label of an entry's line from the roll; that it is the one which the
-- walk finds is `roll-line` in proofs/SheetWalkLaws.
-- What they mean is `under-is` in proofs/ShowingLaws.
use Rattle.std.specs.Prelude.{Bool, cond, List, ℕ, zero, suc, pred, ◌+◌, ◌-◌, ◌≤◌, ◌<◌, length, take, drop, leb, eqb, Result, Some, Err, None, Ok}
use Rattle.meaning.specs.declared.Part.{Part}
use Rattle.meaning.specs.declared.Shape.{Shape}
use Rattle.meaning.specs.declared.Refusal.{Refusal}
use Rattle.entry_read.specs.declared.Head.{Head}
use Rattle.view_sheet.specs.declared.SheetEntry.{SheetEntry}
use Rattle.meaning.specs.Refusals.{behind, refusal, bad_list, too_many_lines}
use Rattle.meaning.specs.Lines.{line_lead, line_end}
use Rattle.meaning.specs.Entries.{entry_lead, two_bytes_at}
use Rattle.meaning.specs.Views.{part}
use Rattle.entry_read.specs.Head.{entry_at, HeadRead, a_head}
use Rattle.correct_offer.specs.declared.Terms.{Terms}
use Rattle.correct_offer.specs.Offered.{one_line, line_after, terms_of, Offer, offered, objected, offer_by, offer_spot}
use Rattle.view_part.specs.Parts.{newer}
use Rattle.meaning.specs.Results.{Viewed, of_set, of_sheet}
use Rattle.meaning.specs.declared.Shown.TheVariants.{Set, Sheet}

-- ---- one entry of the sheet

-- what judging an entry finds: an entry that keeps 21, 19, 20, 6, 14, 24, or the first of them that it breaks
abbrev pub EntryJudged : Type 0
EntryJudged = Result SheetEntry Refusal

abbrev pub good_entry : ℕ → ℕ → EntryJudged
good_entry named n = Ok (record { named = named; length = n })

-- the entry at offset `at`, by what speaks against its content
abbrev pub by_offer : Offer → ℕ → ℕ → ℕ → EntryJudged
by_offer o at k n = cond (eqb o.no 0) (good_entry k n) (Err (refusal o.no (at + behind entry_lead (offer_spot o)) o.label))

-- by what speaks against its content c, if its line has the label l, whichever line it is
abbrev pub judged_entry : ℕ → List ℕ → Bool → ℕ → ℕ → ℕ → EntryJudged
judged_entry l c seven at k n = by_offer (offer_by (objected l c seven) c (one_line l 0 0)) at k n

-- by its head
abbrev pub sheet_entry_by : List ℕ → Terms → List ℕ → ℕ → HeadRead → EntryJudged
sheet_entry_by s t h at (Some k) = by_offer (offered s t k.label (take k.length (drop (at + entry_lead) h))) at k.label k.length
sheet_entry_by s t h at None = Err (refusal bad_list at 0)

-- the entry at an offset of the sheet h: "21 (cut only), 19, 20, 6, 14", then 24
unfoldable pub sheet_entry_at : List ℕ → Terms → List ℕ → ℕ → EntryJudged
sheet_entry_at s t h at = sheet_entry_by s t h at (entry_at h at)

-- ---- what is shown

-- the part of the set that holds the content of line n
unfoldable pub set_part : List ℕ → ℕ → Part
set_part s n = part ((line_after s (pred n)).at + line_lead) ((line_after s (pred n)).size - (line_lead + line_end))

-- a refusal stands; else what f makes of an entry
abbrev pub good_then : EntryJudged → (ℕ → ℕ → Viewed) → Viewed
good_then (Ok e) f = f e.named e.length
good_then (Err r) f = Err r

-- what line n shows after the entries from offset `at` of the sheet on, of which there are at most m, if v was shown before them
unfoldable pub shown_from : List ℕ → Terms → List ℕ → ℕ → ℕ → ℕ → Viewed → Viewed
shown_from s t h n zero at v = cond (leb (length h) at) v (Err (refusal too_many_lines at 0))
shown_from s t h n (suc m) at v =
    cond (leb (length h) at) v
    (good_then (sheet_entry_at s t h at) (λ k l. shown_from s t h n m (at + (entry_lead + l)) (newer v (part (at + entry_lead) l) k n)))

-- if there is an entry at this offset of the sheet h, it lies within h
unfoldable pub EntryWithin : List ℕ → ℕ → Type 0
EntryWithin h at = at < length h → at + (entry_lead + two_bytes_at h at) ≤ length h

-- what is shown if the last entry for the line stands at this offset of the sheet h; after its last byte stands none
unfoldable pub shown_last : List ℕ → ℕ → Viewed
shown_last h last = cond (leb (length h) last) (of_set (part 0 0)) (of_sheet (part (last + entry_lead) (two_bytes_at h last)))

-- what the whole sheet shows, or nothing of the set; a sheet never has more entries than bytes
unfoldable pub shown_by_sheet : List ℕ → Terms → List ℕ → ℕ → Viewed
shown_by_sheet s t h n = shown_from s t h n (length h) 0 (of_set (part 0 0))

-- by the terms of a set of this shape; the part of the set if the sheet has no entry for the line
unfoldable pub shown_under : List ℕ → Shape → List ℕ → ℕ → Viewed
shown_under s x h n = shown_from s (terms_of s x h) h n (length h) 0 (of_set (set_part s n))
