-- What a built index says of its file: its sets fill the file from the first byte to the last, nothing between them, and each entry is that of an accepted set.
use mathlib.Core.Path.{◌≡◌, refl, sym, ap, ap₂, ◌∙◌}
use mathlib.Core.List.{List, [], ◌∷◌, ◌++◌}
use Prim.Native.Nat.{ℕ, zero, suc, ◌+◌, ◌-◌, ◌≤◌, ◌<◌}
use native.Mathlib.Omega.{arith}
use native.Mathlib.Numerals.{add-one}
use lib.ListN.{length, take, drop, get_or, replicate, length-take}
use lib.Seq.{take_all, drop-drop}
use Rattle.meaning.specs.Field.{Field}
use Rattle.meaning.specs.Refusals.{done}
use Rattle.meaning.specs.Pieces.{Parsed, parsed}
use Rattle.meaning.specs.Lines.{size, render}
use Rattle.meaning.specs.Reading.{shape, read, judge}
use Rattle.meaning.specs.Answers.{list_call, write_call}
use Rattle.meaning.proofs.Bools.{none-of-length, Every, every-at}
use Rattle.meaning.proofs.FaultLaws.{done-same}
use Rattle.meaning.proofs.LineLaws.{length-render, take-render}
use Rattle.meaning.proofs.SetLaws.{Standing, Accepted as AcceptedSet, accepted, read-render}
use Rattle.meaning.proofs.Demands.{read-judge}
use Rattle.meaning.proofs.CallLaws.{set-list-set}
use Rattle.meaning_day.specs.declared.DayEntry.{DayEntry}
use Rattle.meaning_day.specs.Days.{max_sets, day_entry, sets_from, build}
use Rattle.meaning_day.proofs.DayLaws.{drop-lines, read_length, no-sets, no_more, FirstSet, first-set, built-sets}
use Rattle.meaning.specs.Results.{Made}
use Rattle.std.specs.Prelude.{Ok}

-- ---- the sets fill the file

-- the entries go from one offset to another: each starts where the one before it ends
abbrev Tiles : ℕ → List DayEntry → ℕ → Type 0
Tiles at [] to = at ≡ to
Tiles at (e ∷ es) to = (e.offset ≡ at) × Tiles (at + e.length) es to

tiles-first : (at : ℕ) (es : List DayEntry) (to : ℕ) (e : DayEntry) → Tiles at es to → 0 < length es → (get_or es 0 e).offset ≡ at
tiles-first at [] to e h l = absurd (omega arith)
tiles-first at (x ∷ es) to e h l = h.0

tiles-next : (at : ℕ) (es : List DayEntry) (to k : ℕ) (e : DayEntry) → Tiles at es to → suc k < length es → (get_or es (suc k) e).offset ≡ (get_or es k e).offset + (get_or es k e).length
tiles-next at [] to k e h l = absurd (omega arith)
tiles-next at (x ∷ es) to zero e h l = tiles-first (at + x.length) es to e h.1 (omega arith) ∙ ap (λ (n : ℕ). n + x.length) (sym h.0)
tiles-next at (x ∷ es) to (suc k) e h l = tiles-next (at + x.length) es to k e h.1 (omega arith)

tiles-last : (at : ℕ) (es : List DayEntry) (to k : ℕ) (e : DayEntry) → Tiles at es to → suc k ≡ length es → (get_or es k e).offset + (get_or es k e).length ≡ to
tiles-last at [] to k e h l = absurd (omega arith)
tiles-last at (x ∷ []) to zero e h l = ap (λ (n : ℕ). n + x.length) h.0 ∙ h.1
tiles-last at (x ∷ []) to (suc k) e h l = absurd (omega arith)
tiles-last at (x ∷ y ∷ es) to zero e h l = absurd (omega arith)
tiles-last at (x ∷ y ∷ es) to (suc k) e h l = tiles-last (at + x.length) (y ∷ es) to k e h.1 (omega arith)

tiles-none : (at to : ℕ) (es : List DayEntry) → es ≡ [] → at ≡ to → Tiles at es to
tiles-none at to es e p = rw e p

tiles_more : (n at : ℕ) (s : List ℕ) (es : List DayEntry) (r : FirstSet n at s es) → Tiles (at + size r.what.fields) r.others (at + length s) → Tiles at es (at + length s)
unfolding day_entry
tiles_more n at s es r h = rw r.all (refl, h)

sets-tile-from : (n at : ℕ) (s : List ℕ) (es : List DayEntry) → sets_from n at s ≡ done es → Tiles at es (at + length s)
sets-tile-from zero at [] es h = tiles-none at (at + 0) es (sym (done-same (sym (no-sets zero at) ∙ h))) (omega arith)
sets-tile-from zero at (b ∷ s) es h = no_more at b s es h
sets-tile-from (suc n) at [] es h = tiles-none at (at + 0) es (sym (done-same (sym (no-sets (suc n) at) ∙ h))) (omega arith)
sets-tile-from (suc n) at (b ∷ s) es h =
    let r = first-set n at b s es h in
    let fs : List Field = r.what.fields in
    let p : at + size fs + length r.what.rest ≡ at + length (b ∷ s) = omega (arith, read_length (b ∷ s) r.what r.was_read) in
    tiles_more n at (b ∷ s) es r (rw p at (sets-tile-from n (at + size fs) r.what.rest r.others r.after-it))

-- "A file is set after set, nothing between": the first set starts at the first byte, each next one where the one before it ends, and the last one ends with the file. There is no
-- set exactly if there is no byte.
pub record Filled (f : List ℕ) (es : List DayEntry) : Type 0 where
  pub first-offset : (none : DayEntry) → 0 < length es → (get_or es 0 none).offset ≡ 0
  pub next-offset : (k : ℕ) (none : DayEntry) → k + 1 < length es → (get_or es (k + 1) none).offset ≡ (get_or es k none).offset + (get_or es k none).length
  pub last_end : (k : ℕ) (none : DayEntry) → k + 1 ≡ length es → (get_or es k none).offset + (get_or es k none).length ≡ length f
  pub no-set : f ≡ [] → es ≡ []
  pub no-byte : es ≡ [] → f ≡ []

-- so is each file of which an index was built
pub sets-tile : (f : List ℕ) (room : ℕ) (es : List DayEntry) → build f room ≡ done es → Filled f es
sets-tile f room es h =
    let q : sets_from max_sets 0 f ≡ done es = (built-sets f room es h).0 in
    let t : Tiles 0 es (0 + length f) = sets-tile-from max_sets 0 f es q in
    record {
      first-offset = λ e l. tiles-first 0 es (0 + length f) e t l;
      next-offset = λ k e l. rw (add-one k) (tiles-next 0 es (0 + length f) k e t (omega arith));
      last_end = λ k e l. tiles-last 0 es (0 + length f) k e t (omega arith) ∙ omega arith;
      no-set = λ p. sym (done-same (sym (no-sets max_sets 0) ∙ rw p at q));
      no-byte = λ p.
          let z : 0 ≡ 0 + length f = rw p at t in
          none-of-length f (omega arith);
    }

-- ---- each entry is that of an accepted set

-- the bytes of the file that an entry names
abbrev pub part_of : List ℕ → DayEntry → List ℕ
part_of f e = take e.length (drop e.offset f)

-- the entry of the set with these lines, which stands in s; s starts at offset `at` of the file
record SetIn (at : ℕ) (s : List ℕ) (e : DayEntry) : Type 0 where
  lines : List Field
  standing : Standing lines
  is-entry : e ≡ day_entry e.offset lines
  from : at ≤ e.offset
  bytes : take e.length (drop (e.offset - at) s) ≡ render lines []
  within : e.offset + e.length ≤ at + length s

-- the first set
set_here : (at : ℕ) (s : List ℕ) (d : Parsed) → AcceptedSet s d → SetIn at s (day_entry at d.fields)
unfolding day_entry
set_here at s d a = record {
  lines = d.fields;
  standing = a.standing;
  is-entry = refl;
  from = omega arith;
  bytes =
      let z : at - at ≡ 0 = omega arith in
      rw z (ap (take (size d.fields)) a.bytes ∙ take-render d.fields d.rest);
  within = omega (arith, ap length a.bytes, length-render d.fields d.rest);
}

-- a set after the first
set-later : (at : ℕ) (s : List ℕ) (d : Parsed) (e : DayEntry) → AcceptedSet s d → SetIn (at + size d.fields) d.rest e → SetIn at s e
set-later at s d e a h =
    let fs : List Field = d.fields in
    let m : ℕ = e.offset - (at + size fs) in
    let p : e.offset - at ≡ size fs + m = omega (arith, h.from) in
    let q : drop (size fs + m) s ≡ drop m d.rest = sym (drop-drop m (size fs) s) ∙ ap (drop m) (ap (drop (size fs)) a.bytes ∙ drop-lines fs d.rest) in
    record {
      lines = h.lines;
      standing = h.standing;
      is-entry = h.is-entry;
      from = omega (arith, h.from);
      bytes = ap (take e.length) (ap (λ (k : ℕ). drop k s) p ∙ q) ∙ h.bytes;
      within = omega (arith, h.within, ap length a.bytes, length-render fs d.rest);
    }

-- all sets after the first
sets-later : (at : ℕ) (s : List ℕ) (d : Parsed) (es : List DayEntry) → AcceptedSet s d → Every (SetIn (at + size d.fields) d.rest) es → Every (SetIn at s) es
sets-later at s d [] a h = tt
sets-later at s d (e ∷ es) a h = (set-later at s d e a h.0, sets-later at s d es a h.1)

-- every entry that is found in s is that of a set in s
all-sets-in : (n at : ℕ) (s : List ℕ) (es : List DayEntry) → sets_from n at s ≡ done es → Every (SetIn at s) es
all-sets-in zero at [] es h = let e : es ≡ [] = sym (done-same (sym (no-sets zero at) ∙ h)) in rw e tt
all-sets-in zero at (b ∷ s) es h = no_more at b s es h
all-sets-in (suc n) at [] es h = let e : es ≡ [] = sym (done-same (sym (no-sets (suc n) at) ∙ h)) in rw e tt
all-sets-in (suc n) at (b ∷ s) es h =
    let r = first-set n at b s es h in
    let a = accepted (b ∷ s) r.what r.was_read in
    let later : Every (SetIn (at + size r.what.fields) r.what.rest) r.others = all-sets-in n (at + size r.what.fields) r.what.rest r.others r.after-it in
    rw r.all (set_here at (b ∷ s) r.what a, sets-later at (b ∷ s) r.what r.others a later)

-- The bytes that an entry names are one accepted set, judged by itself, of the length and type that the entry says. Its lines, with which the place of the 3000 content is that of
-- the entry, are those that are read there.
pub record IsSet (f : List ℕ) (e : DayEntry) : Type 0 where
  pub lines : List Field
  pub was_read : read (part_of f e) ≡ done (parsed lines [])
  pub is-entry : e ≡ day_entry e.offset lines
  pub is-accepted : judge (part_of f e) ≡ Ok (shape lines)
  pub length-so : (shape lines).length ≡ e.length
  pub settype-so : (shape lines).settype ≡ e.settype
  pub within : e.offset + e.length ≤ length f

-- in the whole file, which starts at offset 0
is_set : (f : List ℕ) (e : DayEntry) → SetIn 0 f e → IsSet f e
unfolding day_entry
is_set f e h =
    let z : e.offset - 0 ≡ e.offset = omega arith in
    let p : part_of f e ≡ render h.lines [] = rw z at h.bytes in
    let r : read (part_of f e) ≡ done (parsed h.lines []) = ap read p ∙ read-render h.lines [] h.standing refl in
    record {
      lines = h.lines;
      was_read = r;
      is-entry = h.is-entry;
      is-accepted = read-judge (part_of f e) (parsed h.lines []) r;
      length-so = ap (λ (x : DayEntry). x.length) (sym h.is-entry);
      settype-so = ap (λ (x : DayEntry). x.settype) (sym h.is-entry);
      within = omega (arith, h.within);
    }

-- each entry of a built index is that of an accepted set
pub entry-is-a-set : (f : List ℕ) (room : ℕ) (es : List DayEntry) (k : ℕ) (none : DayEntry) → build f room ≡ done es → k < length es → IsSet f (get_or es k none)
entry-is-a-set f room es k none h l = is_set f (get_or es k none) (every-at (SetIn 0 f) es k none l (all-sets-in max_sets 0 f es (built-sets f room es h).0))

-- ---- demand 2 for each set of the file

-- "Given room, an accepted set turned into a field list and written again gives identical bytes": so does each set of a built index, cut out of the file by its entry e. There is one
-- list; `list` makes it of these bytes if there is room for it, and `write`, given it and room for the set, makes these very bytes again.
pub set-list-set-in-file : (f : List ℕ) (e : DayEntry) → IsSet f e
    → (l : List ℕ) × ((list₀ list₁ out₀ out₁ : List ℕ) (listed written : Made)
    → length l ≤ length list₀ → e.length ≤ length out₀
    → listed ≡ (list_call (part_of f e) list₀).answer → list₁ ≡ (list_call (part_of f e) list₀).buffer
    → written ≡ (write_call (take (length l) list₁) out₀).answer → out₁ ≡ (write_call (take (length l) list₁) out₀).buffer
    → ((listed ≡ Ok (length l)) × (list₁ ≡ l ++ replicate (length list₀ - length l) 0))
    × ((written ≡ Ok e.length) × (out₁ ≡ part_of f e ++ replicate (length out₀ - e.length) 0)))
set-list-set-in-file f e h =
    let n : ℕ = (shape h.lines).length in
    let c = set-list-set (part_of f e) (shape h.lines) h.is-accepted in
    let t : take n (part_of f e) ≡ part_of f e = take_all n (part_of f e) (omega (arith, h.length-so, length-take e.length (drop e.offset f))) in (
      c.0,
      λ list₀ list₁ out₀ out₁ listed written room room' p q u v.
          let r = c.1 list₀ list₁ out₀ out₁ listed written room (omega (arith, h.length-so)) p q u v in
          (r.0, (r.1.0 ∙ ap Ok h.length-so, r.1.1 ∙ ap₂ (λ (s : List ℕ) (k : ℕ). s ++ replicate (length out₀ - k) 0) t h.length-so)),
    )
