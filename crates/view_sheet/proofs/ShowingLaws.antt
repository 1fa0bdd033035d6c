-- What the walk means: entry by entry it shows what the definition of `meaning` shows, and the part that is shown lies within its slice.
use mathlib.Core.Path.{◌≡◌, refl, sym, ap, ◌∙◌}
use mathlib.Core.Bool.{Bool, true, false, cond}
use mathlib.Core.List.{List, [], ◌∷◌, ◌++◌}
use mathlib.Core.Option.{Option, none, some}
use Prim.Native.Nat.{ℕ, zero, suc, pred, ◌+◌, ◌-◌, ◌≤◌}
use native.Mathlib.Omega.{arith}
use native.Mathlib.Nat.{add-zero}
use lib.Dec.{leb, eqb}
use lib.ListN.{length, take, drop, length-take, length-drop}
use lib.Seq.{drop-drop}
use Rattle.meaning.specs.declared.Part.{Part}
use Rattle.meaning.specs.declared.Shape.{Shape}
use Rattle.meaning.specs.Field.{Field, field, content_at_line, is_nil}
use Rattle.meaning.specs.Refusals.{Fault, at_line, ask, behind, Reply, refused, done, then_to, refusal, bad_list, too_many_lines}
use Rattle.meaning.specs.Pieces.{Form, Parsed, parsed, and_before, piece_then, pieces}
use Rattle.meaning.specs.Lines.{line_lead, offset}
use Rattle.meaning.specs.Entries.{two_bytes_at, entry_lead, entry_label, entry_content, entry_whole}
use Rattle.meaning.specs.Reading.{shape, read, judge}
use Rattle.meaning.specs.Corrections.{change_faults}
use Rattle.meaning.specs.Views.{sheet_entry_faults, sheet_form, sheet, Pending, latest, part, shown_part, view_answer}
use Rattle.meaning.proofs.Bools.{end_is}
use Rattle.meaning.proofs.EntryLaws.{entire}
use Rattle.entry_read.proofs.HeadLaws.{head_of, entry-is}
use Rattle.correct_offer.specs.declared.Terms.{Terms}
use Rattle.correct_offer.specs.Offered.{terms_of, Offer, offered, offer_line, offer_spot, offer_faults}
use Rattle.correct_offer.proofs.TermsLaws.{Serves, part-served}
use Rattle.correct_offer.proofs.OfferLaws.{line-stands, offer-is}
use Rattle.view_part.specs.Parts.{newer, Within}
use Rattle.view_part.proofs.PartLaws.{newer-within}
use Rattle.view_sheet.specs.Showing.{by_offer, sheet_entry_by, sheet_entry_at, set_part, good_then, shown_from, shown_under, EntryJudged, good_entry}
use Rattle.view_sheet.proofs.SheetWalkLaws.{sheet-within, line-inside}
use Rattle.meaning.specs.Results.{Viewed, of_set, of_sheet}
use Rattle.meaning.specs.declared.Shown.TheVariants.{Set, Sheet}
use Rattle.std.specs.Prelude.{Err, Ok}

-- ---- the sheet

-- only the first fault of a piece counts
first_piece : (F : Form) (xs : List Fault) (at : ℕ) (s : List ℕ) (k : ℕ → List ℕ → Reply Parsed) → piece_then F xs at s k ≡ piece_then F (take 1 xs) at s k
first_piece F [] at s k = refl
first_piece F (x ∷ xs) at s k = refl

-- the set stands alone: no byte follows it
module _ (s h : List ℕ) (d : Parsed) (r : read s ≡ done d) (alone : d.rest ≡ []) (n : ℕ) where
  abbrev fs : List Field
  fs = d.fields

  abbrev terms : Terms
  terms = terms_of s (shape fs) h

  abbrev F : Form
  F = sheet_form fs

  -- what line n shows after the entries that were read from offset `at` on, with `found` the last one for it before them
  abbrev shown_behind : Reply Parsed → ℕ → Option Pending → Viewed
  shown_behind e at found = view_answer (then_to e (λ y. done (shown_part fs n (latest n at y.fields found))))

  -- the last entry for the line, once an entry with this label and content stands at `at`
  abbrev found_at : ℕ → ℕ → List ℕ → Option Pending → Option Pending
  found_at at k c found = cond (eqb k n) (some (record { place = at + entry_lead; content = c })) found

  before-is : (k : ℕ) (c : List ℕ) (e : Reply Parsed) (at : ℕ) (found : Option Pending)
      → shown_behind (and_before (field k c) e) at found ≡ shown_behind e (at + (entry_lead + length c)) (found_at at k c found)
  unfolding latest
  before-is k c (refused x) at found = refl
  before-is k c (done y) at found = refl

  newer-is : (k : ℕ) (c : List ℕ) (at : ℕ) (found : Option Pending)
      → shown_part fs n (found_at at k c found) ≡ newer (shown_part fs n found) (part (at + entry_lead) (length c)) k n
  unfolding newer
  newer-is k c at found = go (eqb k n)
    where
      go : (b : Bool) → shown_part fs n (cond b (some (record { place = at + entry_lead; content = c })) found)
          ≡ cond b (of_sheet (part (at + entry_lead) (length c))) (shown_part fs n found)
      go true = refl
      go false = refl

  -- what the walk does after a good entry at `at`
  abbrev go_on : ℕ → ℕ → Option Pending → ℕ → ℕ → Viewed
  go_on m at found k l = shown_from s terms h n m (at + (entry_lead + l)) (newer (shown_part fs n found) (part (at + entry_lead) l) k n)

  -- the walk with at most m entries left shows what they show
  abbrev Shows : ℕ → Type 0
  Shows m = (at : ℕ) (found : Option Pending) → shown_behind (pieces F m at (drop at h)) at found ≡ shown_from s terms h n m at (shown_part fs n found)

  module _ (m : ℕ) (ih : Shows m) (at : ℕ) (found : Option Pending) where
    -- the entry at `at`
    abbrev here : List ℕ
    here = drop at h

    -- after an entry of the length that its head gives
    further : (k : ℕ) (c : List ℕ) (l : ℕ) → length c ≡ l
        → shown_behind (and_before (field k c) (pieces F m (at + (entry_lead + l)) (drop (entry_lead + l) here))) at found ≡ go_on m at found k l
    further k c l e =
        before-is k c (pieces F m (at + (entry_lead + l)) (drop (entry_lead + l) here)) at found
        ∙ rw (e, drop-drop (entry_lead + l) at h) (ih (at + (entry_lead + l)) (found_at at k c found) ∙ rw (newer-is k c at found, e))

    -- by the first fault of the entry
    offer-then : (o : Offer) (xs : List Fault) → take 1 xs ≡ offer_faults o (length fs) (entry_label here) → length (entry_content here) ≡ two_bytes_at here 0
        → shown_behind (piece_then F xs at here (λ p t. pieces F m p t)) at found
        ≡ good_then (by_offer o at (entry_label here) (two_bytes_at here 0)) (go_on m at found)
    unfolding offer_faults
    offer-then o xs e l = ap (λ (y : Reply Parsed). shown_behind y at found) (first_piece F xs at here (λ p t. pieces F m p t)) ∙ rw e (go (eqb o.no 0))
      where
        x : Fault
        x = record { no = o.no; line = offer_line o (length fs) (entry_label here); spot = offer_spot o; label = o.label }

        go : (b : Bool) → shown_behind (piece_then F (cond b [] (x ∷ [])) at here (λ p t. pieces F m p t)) at found
            ≡ good_then (cond b (good_entry (entry_label here) (two_bytes_at here 0)) (Err (refusal o.no (at + behind entry_lead (offer_spot o)) o.label)))
            (go_on m at found)
        go true = further (entry_label here) (entry_content here) (two_bytes_at here 0) l
        go false = refl

    -- by its head, then by what speaks against its content
    entry-then : shown_behind (piece_then F (sheet_entry_faults fs here) at here (λ p t. pieces F m p t)) at found
        ≡ good_then (sheet_entry_at s terms h at) (go_on m at found)
    unfolding sheet_entry_faults sheet_entry_at
    entry-then = rw (entry-is h at) (go (entry_whole here) refl)
      where
        go : (b : Bool) → entry_whole here ≡ b
            → shown_behind (piece_then F (ask b (at_line bad_list 0 0) ++ change_faults fs (entry_label here) (entry_content here)) at here (λ p t. pieces F m p t)) at found
            ≡ good_then (sheet_entry_by s terms h at (head_of b here)) (go_on m at found)
        go true w =
            let l : length (entry_content here) ≡ two_bytes_at here 0 =
            length-take (two_bytes_at here 0) (drop entry_lead here) ∙ omega (arith, (entire here w).within, length-drop entry_lead here) in
            let v : Serves fs terms (entry_content here) = rw (drop-drop entry_lead at h) (part-served s d r alone h (at + entry_lead) (two_bytes_at here 0)) in
            rw (← drop-drop entry_lead at h)
            (offer-then (offered s terms (entry_label here) (entry_content here)) (change_faults fs (entry_label here) (entry_content here))
            (offer-is s d terms (entry_label here) (entry_content here) r v) l)
        go false w = rw (add-zero at)

  -- no entry starts at `at`, or what is known of those that do
  ends-or : (b : Bool) (at : ℕ) (found : Option Pending) (t : List ℕ) (e : Reply Parsed) (v : Viewed) → shown_behind e at found ≡ v
      → shown_behind (cond b (done (parsed [] t)) e) at found ≡ cond b (shown_part fs n found) v
  unfolding latest
  ends-or true at found t e v q = refl
  ends-or false at found t e v q = q

  -- The walk over the sheet shows what the entries that were read show: by induction on how many may be left.
  sheet-is : (m : ℕ) → Shows m
  unfolding pieces shown_from
  sheet-is zero at found = rw (end_is h at) (ends-or (is_nil (drop at h)) at found (drop at h) (refused (refusal too_many_lines at 0)) (Err (refusal too_many_lines at 0)) refl)
  sheet-is (suc m) at found =
      rw (end_is h at) (ends-or (is_nil (drop at h)) at found (drop at h) (piece_then F (sheet_entry_faults fs (drop at h)) at (drop at h) (λ p t. pieces F m p t))
      (good_then (sheet_entry_at s terms h at) (go_on m at found)) (entry-then m (λ p o. sheet-is m p o) at found))

  -- ---- the set

  part-is : 1 ≤ n → n ≤ length fs → part (offset fs (pred n) + line_lead) (length (content_at_line fs (pred n))) ≡ set_part s n
  unfolding set_part
  part-is lo hi =
      let st = line-stands s d (pred n) r (omega arith) in
      rw (st.at-so, st.content-length)

  -- what is shown under the whole sheet
  pub under-is : 1 ≤ n → n ≤ length d.fields
      → shown_under s (shape d.fields) h n ≡ view_answer (then_to (sheet d.fields h) (λ y. done (shown_part d.fields n (latest n 0 y.fields none))))
  unfolding shown_under
  under-is lo hi = sym (sheet-is (length h) 0 none ∙ ap (λ (q : Part). shown_from s terms h n (length h) 0 (Ok (Set q))) (part-is lo hi))

-- ---- the part that is shown lies within its slice

module _ (s : List ℕ) (x : Shape) (h : List ℕ) (n : ℕ) where
  shown-within : (t : Terms) (m at : ℕ) (v : Viewed) → Within s h v → Within s h (shown_from s t h n m at v)
  unfolding shown_from Within
  shown-within t zero at v w = go (leb (length h) at)
    where
      go : (b : Bool) → Within s h (cond b v (Err (refusal too_many_lines at 0)))
      go true = w
      go false = tt
  shown-within t (suc m) at v w = go (λ at' v'. shown-within t m at' v') (leb (length h) at) (sheet_entry_at s t h at) refl
    where
      go : ((at' : ℕ) (v' : Viewed) → Within s h v' → Within s h (shown_from s t h n m at' v')) → (b : Bool) (y : EntryJudged) → sheet_entry_at s t h at ≡ y
          → Within s h (cond b v (good_then y (λ k l. shown_from s t h n m (at + (entry_lead + l)) (newer v (part (at + entry_lead) l) k n))))
      go ih true y e = w
      go ih false (Ok x) e =
          ih (at + (entry_lead + x.length)) (newer v (part (at + entry_lead) x.length) x.named n)
          (newer-within s h v (part (at + entry_lead) x.length) x.named n (omega (arith, sheet-within s t h at x.named x.length e)) w)
      go ih false (Err r) e = tt

  -- the content of a line of an accepted set
  set-within : judge s ≡ Ok x → 1 ≤ n → n ≤ x.lines → Within s h (of_set (set_part s n))
  unfolding Within set_part
  set-within j lo hi =
      let e : n - 1 ≡ pred n = omega arith in
      let i = rw e at (line-inside s x n j lo hi) in
      omega (arith, i.least, i.within)

  pub under-within : judge s ≡ Ok x → 1 ≤ n → n ≤ x.lines → Within s h (shown_under s x h n)
  unfolding shown_under
  under-within j lo hi = shown-within (terms_of s x h) (length h) 0 (of_set (set_part s n)) (set-within j lo hi)
