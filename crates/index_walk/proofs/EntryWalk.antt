-- The walk over an accepted set gives its index: `entries-are`, by one induction over the fields. Before it, what each `return` of `one-more` and `next_entry` has to show.
use mathlib.Core.Path.{◌≡◌, refl, sym, ap, ◌∙◌}
use mathlib.Core.Bool.{true, true≢false}
use mathlib.Core.List.{List, [], ◌∷◌}
use Prim.Native.Nat.{ℕ, ◌+◌, ◌≤◌, ◌<◌}
use native.Mathlib.Omega.{arith}
use lib.ListN.{length, drop}
use borrow.Author.Tests.{le-leb, lt-leb}
use Rattle.meaning.specs.declared.Entry.{Entry}
use Rattle.meaning.specs.declared.SetType.{SetType}
use Rattle.meaning.specs.Limits.{max_lines}
use Rattle.meaning.specs.Field.{Field}
use Rattle.meaning.specs.Refusals.{done}
use Rattle.meaning.specs.Pieces.{Parsed}
use Rattle.meaning.specs.Lines.{line_lead, line_end, line_size, render}
use Rattle.meaning.specs.Groups.{State, first, Role, next}
use Rattle.meaning.specs.Rules.{Profile, profile, is_known, role_in, line_rules, rules_from}
use Rattle.meaning.specs.Reading.{read}
use Rattle.meaning.specs.Index.{header_line, entries_from, index_of}
use Rattle.meaning.proofs.Bools.{Every}
use Rattle.meaning.proofs.FaultLaws.{append-none}
use Rattle.meaning.proofs.LineLaws.{Sound}
use Rattle.meaning.proofs.RuleLaws.{ruled, begins-of}
use Rattle.meaning.proofs.SetLaws.{accepted}
use Rattle.line_read.specs.Told.{told_length, told_label}
use Rattle.line_read.proofs.LineMeaning.{read-line, read_back, reads_on}
use Rattle.line_read.proofs.ToldLaws.{read_told}
use Rattle.index_walk.specs.declared.Walk.{Walk}
use Rattle.index_walk.specs.declared.NextEntry.{NextEntry}
use Rattle.index_walk.specs.Walking.{walk_start, counted, header_of, last_after, no_entry, next_entry, walked_entries}
use Rattle.index_walk.proofs.HeaderLaws.{placed, follow}
use Rattle.meaning.specs.Results.{Known}
use Rattle.std.specs.Prelude.{None, Some}

-- ---- the count of lines

-- below the most lines one is added
pub counted-on : (n : ℕ) → n < max_lines → counted n ≡ n + 1
unfolding counted
counted-on n h = rw (lt-leb max_lines n h)

-- at the most lines nothing is added
pub counted-out : (n : ℕ) → max_lines ≤ n → counted n ≡ n
unfolding counted
counted-out n h = rw (le-leb max_lines n h)

-- ---- one line

module _ (s : List ℕ) (w : Walk) where
  -- under seven bytes stand at the walk
  pub next-none : length s < w.at + line_lead → no_entry ≡ next_entry s w
  unfolding next_entry
  next-none h = rw (lt-leb (w.at + line_lead) (length s) h)

  -- a line stands there, with this length and this label
  pub next-told : w.at + line_lead ≤ length s → (n : ℕ) → n ≡ told_length s w.at → (l : ℕ) → l ≡ told_label s w.at → (lines : ℕ) → lines ≡ counted w.lines
      → (last : ℕ) → last ≡ last_after l lines w.header → (header : ℕ) → header ≡ header_of l w.header
      → record {
        entry = record { label = l; place = w.at + line_lead; length = n; header = header };
        walk = record { at = w.at + (n + (line_lead + line_end)); lines = lines; header = last };
      } ≡ next_entry s w
  unfolding next_entry
  next-told h n a l b lines c last d header e = rw (le-leb (w.at + line_lead) (length s) h, ← a, ← b, ← c, d, e)

-- ---- the walk over the lines of a set

-- the walk at a line: its offset, the lines before it, the last header's line
abbrev walk_at : ℕ → ℕ → ℕ → Walk
walk_at at k last = record { at = at; lines = k; header = last }

-- the entry of a line that is written at the walk, and the walk after it
step_is : (s : List ℕ) (f : Field) (u : List ℕ) (at k last : ℕ) → Sound f → drop at s ≡ render (f ∷ []) u → k < max_lines
    → next_entry s (walk_at at k last) ≡ record {
      entry = record { label = f.label; place = at + line_lead; length = length f.content; header = header_of f.label last };
      walk = walk_at (at + line_size f) (k + 1) (last_after f.label (k + 1) last);
    }
unfolding next_entry
step_is s f u at k last h w c =
    let r = read-line s at f u w h in
    let t = read_told s at r in
    let n : told_length s at ≡ length f.content = omega (arith, t.0) in
    rw (le-leb (at + line_lead) (length s) (omega (arith, (read_back s at r).within)), n, t.1, counted-on k c)

module _ (s : List ℕ) (settype : SetType) where
  -- the profile of a set of this type
  abbrev profile_of : Profile
  profile_of = record { set_type = Some settype }

  abbrev Kept : State → ℕ → Type 0
  Kept = (follow settype).Kept

  -- the lines fs from offset `at` on, with k lines before them, none of which breaks 11 or 12: by induction on fs, one `step_is` for each line
  walk_is : (fs : List Field) (t : List ℕ) (at k : ℕ) (st : State) (last : ℕ) → Every Sound fs → drop at s ≡ render fs t → k + length fs ≤ max_lines
      → rules_from profile_of st k fs ≡ [] → Kept st last → walked_entries s (walk_at at k last) (length fs) ≡ entries_from profile_of st k at fs
  unfolding walked_entries entries_from rules_from
  walk_is [] t at k st last h w c q b = refl
  walk_is (f ∷ fs) t at k st last h w c q b =
      let l : ℕ = f.label in
      let o : Role = role_in profile_of st f in
      let r = append-none (line_rules o profile_of st k f) _ q in
      let g = (follow settype).goes st k l last b (placed o profile_of st k f r.0) in
      let here : ℕ → Entry = λ header. record { label = l; place = at + line_lead; length = length f.content; header = header } in
      let then : Walk = walk_at (at + line_size f) (k + 1) (last_after l (k + 1) last) in
      let e = step_is s f (render fs t) at k last h.0 w (omega arith) in
      let ih = walk_is fs t (at + line_size f) (k + 1) (next o st k l) (last_after l (k + 1) last) h.1 (reads_on s at f (render fs t) h.0 w) (omega arith) r.1 g.still in
      ap (λ (x : NextEntry). x.entry ∷ walked_entries s x.walk (length fs)) e
      ∙ (ap (λ (header : ℕ). here header ∷ walked_entries s then (length fs)) g.header-so ∙ ap (λ (es : List Entry). here (header_line o st) ∷ es) ih)

-- ---- an accepted set

known_of : (k : Known) → is_known k ≡ true → (t : SetType) × (k ≡ Some t)
known_of (Some t) e = (t, refl)
known_of None e = absurd (true≢false (sym e))

-- The walk over an accepted set gives its index, entry after entry.
pub entries-are : (s : List ℕ) (d : Parsed) → read s ≡ done d → walked_entries s walk_start (length d.fields) ≡ index_of d.fields
unfolding index_of
entries-are s d e =
    let a = accepted s d e in
    let r = (ruled d.fields a.standing.right).0 in
    let t = known_of _ (begins-of d.fields r.begins).type-known in
    let p : profile d.fields ≡ profile_of s t.0 = λ i. record { set_type = t.1 i } in
    walk_is s t.0 d.fields d.rest 0 0 first 0 a.standing.sound a.bytes (omega (arith, a.standing.few)) (rw p at r.each-line) (follow t.0).begins
    ∙ ap (λ (q : Profile). entries_from q first 0 0 d.fields) (sym p)
