-- The walk of specs/ step by step: one law for each way that the code takes.
use mathlib.Core.Path.{◌≡◌, refl, sym, ap, ◌∙◌}
use mathlib.Core.Bool.{Bool, true, false, cond}
use mathlib.Core.List.{List}
use Prim.Native.Nat.{ℕ, zero, suc, pred, ◌+◌, ◌-◌, ◌≤◌, ◌<◌}
use native.Mathlib.Omega.{arith}
use native.Mathlib.Nat.{add-zero, add-sub_cancel_left}
use borrow.Author.Tests.{le-leb, lt-leb, ne_eqb}
use lib.Dec.{leb, eqb}
use lib.ListN.{length, take, drop, length-take}
use Rattle.std.specs.Prelude.{Option, None, Some, Err, Ok}
use Rattle.meaning.specs.declared.Part.{Part}
use Rattle.meaning.specs.declared.Refusal.{Refusal}
use Rattle.meaning.specs.declared.Shape.{Shape}
use Rattle.meaning.specs.Refusals.{tells_byte, behind, refusal, bad_list, no_such_line, too_many_lines}
use Rattle.meaning.specs.Lines.{min_line_bytes}
use Rattle.meaning.specs.Entries.{entry_lead, two_bytes_at}
use Rattle.meaning.specs.Reading.{judge}
use Rattle.meaning.specs.Views.{part}
use Rattle.meaning.proofs.Demands.{judge-read}
use Rattle.line_read.specs.Told.{told_length, told_label}
use Rattle.entry_read.specs.Head.{entry_at, HeadRead, a_head}
use Rattle.entry_read.proofs.HeadLaws.{whole_back}
use Rattle.correct_offer.specs.declared.OneLine.{OneLine}
use Rattle.correct_offer.specs.declared.Terms.{Terms}
use Rattle.correct_offer.specs.Offered.{one_line, line_from, line_after, terms_of, Offer, offered, objected, refusal_by, offer_by, offer_spot}
use Rattle.line_roll.specs.Rolled.{line_start, Lined}
use Rattle.correct_offer.specs.declared.Objection.{Objection}
use Rattle.correct_offer.specs.declared.Objection.TheVariants.{FixedLine, BadByte, BadContent, HighByte}
use Rattle.correct_offer.proofs.OfferWalkLaws.{refused-so, placed-so, counted-from, objected-byte, number-none, number-beyond, number-there}
use Rattle.correct_offer.proofs.OfferLaws.{line-stands}
use Rattle.view_part.specs.Parts.{newer, later}
use Rattle.view_sheet.specs.Showing.{by_offer, judged_entry, sheet_entry_by, sheet_entry_at, set_part, good_then, EntryJudged, good_entry}
use Rattle.view_sheet.specs.Showing.{shown_from, EntryWithin, shown_last, shown_by_sheet, shown_under}
use Rattle.meaning.specs.Results.{Viewed, of_set, of_sheet}
use Rattle.meaning.specs.declared.Shown.TheVariants.{Set, Sheet}

-- ---- one entry of the sheet

-- the content of an entry of n bytes
module _ (at n : ℕ) (w : Part) (q : w ≡ part (at + entry_lead) n) where
  pub content-ends : w.place + w.length ≡ at + (entry_lead + n)
  content-ends = rw q (omega arith)

  -- what speaks against it, for line k with label l
  module _ (h : List ℕ) (k l : ℕ) (seven : Bool) where
    abbrev lent : List ℕ
    lent = take ((w.place + w.length) - w.place) (drop w.place h)

    content-so : lent ≡ take n (drop (at + entry_lead) h)
    content-so = rw (q, add-sub_cancel_left (at + entry_lead) n)

    pub entry-good : None ≡ objected l lent seven → good_entry k n ≡ judged_entry l (take n (drop (at + entry_lead) h)) seven at k n
    entry-good e = rw (← content-so, ← e)

    -- by its refusal, whose byte is counted from the content's first one
    module _ (o : Objection) (e : Some o ≡ objected l lent seven) (r : Refusal) (f : r ≡ refusal_by o l lent at 0) where
      abbrev found : EntryJudged
      found = judged_entry l (take n (drop (at + entry_lead) h)) seven at k n

      entry-so : Err (refusal r.no (cond (tells_byte r.no) (w.place + r.place) at) r.label) ≡ found
      entry-so =
          rw (f, ← content-so, ← e, refused-so o lent (one_line l 0 0))
          (ap Err (counted-from o l lent at w.place ∙ placed-so o l lent at w.place entry_lead (ap (λ (y : Part). y.place) q)))

      pub entry-byte : tells_byte r.no ≡ true → Err (refusal r.no (w.place + r.place) r.label) ≡ found
      entry-byte t = rw t at entry-so

      pub entry-bad : tells_byte r.no ≡ false → Err (refusal r.no at r.label) ≡ found
      entry-bad t = rw t at entry-so

      -- the byte stands in the entry, or after it
      pub byte-within : tells_byte r.no ≡ true → w.place + r.place ≤ at + (entry_lead + n)
      byte-within t =
          let i = rw (← f, t) at (objected-byte o l lent at) in
          omega (arith, i, length-take ((w.place + w.length) - w.place) (drop w.place h), content-ends)

-- ---- the label of its line

-- in a set whose lines are known to be there, the line that k lines stand before starts where they end
line-start : (s : List ℕ) (n : ℕ) → Lined s n → (k j : ℕ) → j + k < n → (line_from s (line_start s j) k).label ≡ told_label s (line_start s (j + k))
unfolding line_from line_start
line-start s n d zero j h = rw (add-zero j)
line-start s n d (suc k) j h =
    let e : j + suc k ≡ suc j + k = omega arith in
    rw (ne_eqb (told_length s (line_start s j)) 0 (d.sized j (omega arith)), e) (line-start s n d k (suc j) (omega arith))

-- the roll has its label
pub roll-line : (s : List ℕ) (lines : ℕ) → Lined s lines → (k : ℕ) → 1 ≤ k → k ≤ lines → told_label s (line_start s (k - 1)) ≡ (line_after s (k - 1)).label
unfolding line_after line_start
roll-line s lines d k lo hi =
    let z : 0 + (k - 1) ≡ k - 1 = omega arith in
    sym (rw z at (line-start s lines d (k - 1) 0 (omega arith)))

-- an entry is judged whichever line it is for
whichever : (o : Option Objection) (c : List ℕ) (x : OneLine) (at k n : ℕ) → by_offer (offer_by o c (one_line x.label 0 0)) at k n ≡ by_offer (offer_by o c x) at k n
whichever None c x at k n = refl
whichever (Some FixedLine) c x at k n = refl
whichever (Some BadByte) c x at k n = refl
whichever (Some BadContent) c x at k n = refl
whichever (Some HighByte) c x at k n = refl

module _ (s : List ℕ) (t : Terms) (h : List ℕ) (at : ℕ) where
  pub sheet-cut : entry_at h at ≡ None → Err (refusal bad_list at 0) ≡ sheet_entry_at s t h at
  unfolding sheet_entry_at
  sheet-cut e = rw e

  module _ (k n : ℕ) (e : entry_at h at ≡ a_head k n) where
    -- 19
    pub sheet-zero : k < 1 → Err (refusal no_such_line at 0) ≡ sheet_entry_at s t h at
    unfolding sheet_entry_at tells_byte
    sheet-zero z = rw (e, ← number-none s t k (take n (drop (at + entry_lead) h)) z, add-zero at)

    pub sheet-beyond : t.lines < k → Err (refusal no_such_line at 0) ≡ sheet_entry_at s t h at
    unfolding sheet_entry_at tells_byte
    sheet-beyond z = rw (e, ← number-beyond s t k (take n (drop (at + entry_lead) h)) z, add-zero at)

    -- what speaks against the content for the label of the line
    pub sheet-there : 1 ≤ k → k ≤ t.lines → (l : ℕ) → l ≡ (line_after s (k - 1)).label
        → judged_entry l (take n (drop (at + entry_lead) h)) t.seven at k n ≡ sheet_entry_at s t h at
    unfolding sheet_entry_at
    sheet-there lo hi l p =
        let c : List ℕ = take n (drop (at + entry_lead) h) in
        let x : OneLine = line_after s (k - 1) in
        rw (e, p, ← number-there s t k c lo hi) (whichever (objected x.label c t.seven) c x at k n)

-- the length of the content of an entry that is good
abbrev good_bytes : EntryJudged → ℕ
good_bytes (Ok x) = x.length
good_bytes (Err r) = 0

good_length : (b : Bool) (r : Refusal) (k n k' n' : ℕ) → cond b (good_entry k' n') (Err r) ≡ good_entry k n → n' ≡ n
good_length true r k n k' n' e = ap good_bytes e
good_length false r k n k' n' e = let z : ◌≡◌ {A = ℕ} 0 1 = cc in absurd (omega arith)

-- an entry that is good is whole: it says its length, and lies within the sheet
module _ (s : List ℕ) (t : Terms) (h : List ℕ) (at k n : ℕ) (e : sheet_entry_at s t h at ≡ good_entry k n) where
  sheet-whole : (k' : ℕ) × (entry_at h at ≡ a_head k' n)
  unfolding sheet_entry_at
  sheet-whole = go (entry_at h at) refl e
    where
      go : (y : HeadRead) → entry_at h at ≡ y → sheet_entry_by s t h at y ≡ good_entry k n → (k' : ℕ) × (entry_at h at ≡ a_head k' n)
      go (Some x) w q =
          let o : Offer = offered s t x.label (take x.length (drop (at + entry_lead) h)) in
          let m : x.length ≡ n = good_length (eqb o.no 0) (refusal o.no (at + behind entry_lead (offer_spot o)) o.label) k n x.label x.length q in
          (x.label, w ∙ ap (a_head x.label) m)
      go None w q = let z : ◌≡◌ {A = ℕ} 0 1 = cc in absurd (omega arith)

  pub sheet-within : at + (entry_lead + n) ≤ length h
  sheet-within = (whole_back h at sheet-whole.1).within

  pub sheet-length : two_bytes_at h at ≡ n
  sheet-length = (whole_back h at sheet-whole.1).length-told

-- ---- the set

-- a line of an accepted set lies within the set
pub record Inside (s : List ℕ) (x : OneLine) : Type 0 where
  pub least : min_line_bytes ≤ x.size
  pub within : x.at + x.size ≤ length s

pub line-inside : (s : List ℕ) (x : Shape) (n : ℕ) → judge s ≡ Ok x → 1 ≤ n → n ≤ x.lines → Inside s (line_after s (n - 1))
line-inside s x n j lo hi =
    let d = judge-read s x j in
    let l = ap (λ (y : Shape). y.lines) d.2 in
    let st = line-stands s d.0 (n - 1) d.1 (omega (arith, l)) in
    record { least = st.least; within = st.within }

-- ---- the sheet, with at most m entries left

module _ (s : List ℕ) (t : Terms) (h : List ℕ) (n m at : ℕ) (v : Viewed) where
  pub shown-end : length h ≤ at → v ≡ shown_from s t h n m at v
  unfolding shown_from
  shown-end e = go m
    where
      go : (i : ℕ) → v ≡ shown_from s t h n i at v
      go zero = rw (le-leb (length h) at e)
      go (suc i) = rw (le-leb (length h) at e)

  module _ (l : at < length h) (few : length h ≤ at + m) where
    pub shown-bad : (r : Refusal) → sheet_entry_at s t h at ≡ Err r → Err r ≡ shown_from s t h n m at v
    unfolding shown_from
    shown-bad r e = go m few
      where
        go : (i : ℕ) → length h ≤ at + i → Err r ≡ shown_from s t h n i at v
        go zero w = absurd (omega arith)
        go (suc i) w = rw (lt-leb (length h) at l, e)

    pub shown-next : (k len : ℕ) → sheet_entry_at s t h at ≡ good_entry k len → (v' : Viewed) → v' ≡ newer v (part (at + entry_lead) len) k n
        → shown_from s t h n (pred m) (at + (entry_lead + len)) v' ≡ shown_from s t h n m at v
    unfolding shown_from
    shown-next k len e v' q = go m few
      where
        go : (i : ℕ) → length h ≤ at + i → shown_from s t h n (pred i) (at + (entry_lead + len)) v' ≡ shown_from s t h n i at v
        go zero r = absurd (omega arith)
        go (suc i) r = rw (lt-leb (length h) at l, e, q)

-- ---- the last entry for the line

-- no entry
pub last_none : (h : List ℕ) → EntryWithin h (length h)
unfolding EntryWithin
last_none h l = absurd (omega arith)

pub shown-none : (h : List ℕ) (last : ℕ) → length h ≤ last → of_set (part 0 0) ≡ shown_last h last
unfolding shown_last
shown-none h last e = rw (le-leb (length h) last e)

-- an entry of n bytes
pub last_within : (h : List ℕ) (last : ℕ) → EntryWithin h last → last < length h → last + (entry_lead + two_bytes_at h last) ≤ length h
unfolding EntryWithin
last_within h last w l = w l

pub shown-there : (h : List ℕ) (last n : ℕ) → last < length h → n ≡ two_bytes_at h last → of_sheet (part (last + entry_lead) n) ≡ shown_last h last
unfolding shown_last
shown-there h last n l e = rw (lt-leb (length h) last l, e)

-- one more entry that is good, for line k
module _ (s : List ℕ) (t : Terms) (h : List ℕ) (at k len : ℕ) (e : sheet_entry_at s t h at ≡ good_entry k len) (last n last' : ℕ) (q : last' ≡ later last at k n) where
  pub later-within : EntryWithin h last → EntryWithin h last'
  unfolding EntryWithin later
  later-within w = rw q (go (eqb k n))
    where
      go : (b : Bool) → cond b at last < length h → cond b at last + (entry_lead + two_bytes_at h (cond b at last)) ≤ length h
      go true l = omega (arith, sheet-within s t h at k len e, sheet-length s t h at k len e)
      go false l = w l

  pub later-shown : at < length h → shown_last h last' ≡ newer (shown_last h last) (part (at + entry_lead) len) k n
  unfolding later newer
  later-shown l = rw q (go (eqb k n))
    where
      go : (b : Bool) → shown_last h (cond b at last) ≡ cond b (of_sheet (part (at + entry_lead) len)) (shown_last h last)
      go true = sym (shown-there h at len l (sym (sheet-length s t h at k len e)))
      go false = refl

-- the part of the set that is shown if the sheet has no entry for the line
abbrev pub with_set : Part → Viewed → Viewed
with_set p (Ok (Sheet q)) = of_sheet q
with_set p (Ok (Set q)) = of_set p
with_set p (Err r) = Err r

newer-set : (p q : Part) (v : Viewed) (k n : ℕ) → with_set p (newer v q k n) ≡ newer (with_set p v) q k n
unfolding newer
newer-set p q v k n = go (eqb k n)
  where
    go : (b : Bool) → with_set p (cond b (Ok (Sheet q)) v) ≡ cond b (Ok (Sheet q)) (with_set p v)
    go true = refl
    go false = refl

module _ (s : List ℕ) (t : Terms) (h : List ℕ) (n : ℕ) (p : Part) where
  -- no entry looks at that part, so it may be put in before them or after them
  shown-set : (m at : ℕ) (v : Viewed) → with_set p (shown_from s t h n m at v) ≡ shown_from s t h n m at (with_set p v)
  unfolding shown_from
  shown-set zero at v = go (leb (length h) at)
    where
      go : (b : Bool) → with_set p (cond b v (Err (refusal too_many_lines at 0))) ≡ cond b (with_set p v) (Err (refusal too_many_lines at 0))
      go true = refl
      go false = refl
  shown-set (suc m) at v = go (λ at' v'. shown-set m at' v') (leb (length h) at) (sheet_entry_at s t h at)
    where
      go : ((at' : ℕ) (v' : Viewed) → with_set p (shown_from s t h n m at' v') ≡ shown_from s t h n m at' (with_set p v')) → (b : Bool) (y : EntryJudged)
          → with_set p (cond b v (good_then y (λ k l. shown_from s t h n m (at + (entry_lead + l)) (newer v (part (at + entry_lead) l) k n))))
          ≡ cond b (with_set p v) (good_then y (λ k l. shown_from s t h n m (at + (entry_lead + l)) (newer (with_set p v) (part (at + entry_lead) l) k n)))
      go ih true y = refl
      go ih false (Ok x) =
          ih (at + (entry_lead + x.length)) (newer v (part (at + entry_lead) x.length) x.named n)
          ∙ ap (shown_from s t h n m (at + (entry_lead + x.length))) (newer-set p (part (at + entry_lead) x.length) v x.named n)
      go ih false (Err r) = refl

-- a sheet without an entry shows that part
pub under-empty : (s : List ℕ) (x : Shape) (h : List ℕ) (n : ℕ) → length h ≤ 0 → of_set (set_part s n) ≡ shown_under s x h n
unfolding shown_under
under-empty s x h n e = shown-end s (terms_of s x h) h n (length h) 0 (of_set (set_part s n)) e

-- else what it shows by the terms of the set is looked at first
pub under-by : (s : List ℕ) (x : Shape) (h : List ℕ) (n : ℕ) (t : Terms) → t ≡ terms_of s x h → (v : Viewed) → shown_by_sheet s t h n ≡ v → with_set (set_part s n) v ≡ shown_under s x h n
unfolding shown_by_sheet shown_under
under-by s x h n t p v e =
    ap (with_set (set_part s n)) (sym e)
    ∙ (shown-set s t h n (set_part s n) (length h) 0 (of_set (part 0 0)) ∙ ap (λ (y : Terms). shown_from s y h n (length h) 0 (of_set (set_part s n))) p)
