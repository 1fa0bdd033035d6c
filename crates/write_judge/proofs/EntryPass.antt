-- 8, 9, 11 to 16 and 24 over a list's entries: one entry of the walk, that line 1 and line 2 are never refused, and what the walk finds: the first fault of the rules of `meaning`.
use mathlib.Core.Path.{◌≡◌, refl, sym, ap, ap₂, ◌∙◌, subst}
use mathlib.Core.Bool.{Bool, true, false, cond}
use mathlib.Core.List.{List, [], ◌∷◌, ◌++◌}
use Prim.Native.Nat.{ℕ, suc, ◌+◌, ◌-◌, ◌≤◌}
use native.Mathlib.Numerals.{add-one}
use native.Mathlib.Omega.{arith}
use lib.Dec.{eqb}
use lib.ListN.{length, set, take, drop}
use borrow.Author.Tests.{eqb-true, eq-eqb, ne_eqb}
use Rattle.std.specs.Prelude.{Result, Ok, Err, None, Some}
use Rattle.meaning.specs.declared.Refusal.{Refusal}
use Rattle.meaning.specs.declared.SetType.{SetType}
use Rattle.meaning.specs.declared.SetType.TheVariants.{T6300, T6301, T6302, T6310, T6311}
use Rattle.meaning.specs.Limits.{type_number}
use Rattle.meaning.specs.Field.{Field, field}
use Rattle.meaning.specs.Refusals.{start, refusal, no_start, unknown_set}
use Rattle.meaning.specs.Entries.{entry_lead, list_size}
use Rattle.meaning.specs.Kinds.{is_alnum, of_kind}
use Rattle.meaning.specs.FieldTable.{field_table, field_row_in, field_row, has_length, fits_row, fits_label}
use Rattle.meaning.specs.Tables.{row_label}
use Rattle.meaning.specs.Groups as G
use Rattle.meaning.specs.Rules.{profile, type_digits, type_named, fits, label_is, is_known, type_known, start_faults, rule_faults}
use Rattle.meaning.specs.Lists.{in_list}
use Rattle.meaning.specs.Answers.{no_refusal, or_else}
use Rattle.meaning.proofs.DigitLaws.{length-digits}
use Rattle.meaning.proofs.FieldLaws.{sum_fits}
use Rattle.meaning.proofs.TypeLaws.{type-digits}
use Rattle.entry_read.specs.Head.{entry_at, list_content, a_head}
use Rattle.entry_read.proofs.HeadWalkLaws.{entries-end, entries-on, Reads, list-next}
use Rattle.judge_missing.specs.declared.State.{State}
use Rattle.judge_missing.specs.Lacks.{Flagged, no_flags, none_seen, lack_under, group_lack, open_lack, first_lack, flagged_of, told, before_lines, finish_then}
use Rattle.meaning.proofs.FirstLaws.{first_of, Real, real-append}
use Rattle.judge_missing.proofs.FlagLaws.{Agrees, none-agrees}
use Rattle.judge_line.specs.Steps.{row_of, repeated_no, place_no, label_no, version_no, content_no, line_no, next_flagged, stays_in, Stepped}
use Rattle.meaning.proofs.RealLaws.{start_faults_by, real-starts, faults_then_high, real-then-high, of_type}
use Rattle.judge_line.proofs.StepLaws.{refused-err, refused-ok}
use Rattle.judge_line.proofs.StartRows.{row-8000, row-8100}
use Rattle.judge_line.proofs.StepMeaning.{pass_finds, pass-line, pass-finish, pass-finds}
use Rattle.std.proofs.Common.{Some}
use Rattle.write_seven.specs.ListSeven.{if_any, high_in_list}
use Rattle.write_seven.proofs.ListSevenMeaning.{high-in-list-is}
use Rattle.write_judge.specs.Judging.{step_then, step_or_later, entries_pass, row8000, row8100, started, by_known, first_entry, judge_entries}
use Rattle.meaning.specs.Results.{Known}

-- a refusal is one if its number is not 0
pub one-refused : (r : Refusal) → (r.no ≡ 0 → ⊥) → Some r ≡ if_any r
one-refused r h = rw (ne_eqb r.no 0 h)

-- ---- one line, as the code takes it

module _ (settype : SetType) (x : State) (at l : ℕ) (c : List ℕ) (F : Flagged → Refusal → Refusal) where
  pub step-bad : {n : ℕ} {y : State} → Stepped (row_of settype l) settype x at l c (Err n) y → step_then settype (flagged_of x) (told x.lack) at l c F ≡ refusal n at l
  step-bad e =
      let w = refused-err _ _ e.number in
      rw (ne_eqb _ 0 w.1, w.0)

  pub step-on : {y : State} → Stepped (row_of settype l) settype x at l c (Ok tt) y → step_then settype (flagged_of x) (told x.lack) at l c F ≡ F (flagged_of y) (told y.lack)
  step-on e =
      let z : line_no (row_of settype l) (flagged_of x) l c ≡ 0 = refused-ok _ e.number in
      rw z (ap₂ F (sym (e.flagged-so refl)) (sym (e.lack-so refl)))

-- the content as the code cuts it out
pub step-entry : (l : List ℕ) (at m : ℕ) {settype : SetType} {x : State} {label : ℕ} {r : Result Unit ℕ} {y : State}
    → Stepped (row_of settype label) settype x at label (take (at + entry_lead + m - (at + entry_lead)) (drop (at + entry_lead) l)) r y
    → Stepped (row_of settype label) settype x at label (list_content l at m) r y
step-entry l at m {settype} {x} {label} {r} {y} e =
    let w : at + entry_lead + m - (at + entry_lead) ≡ m = omega arith in
    subst (λ (n : ℕ). Stepped (row_of settype label) settype x at label (take n (drop (at + entry_lead) l)) r y) w e

-- ---- an entry after the first: there is none, it is refused, or the pass goes on

module _ (l : List ℕ) (settype : SetType) (at : ℕ) (st : Flagged) (lack : Refusal) where
  pub pass-end : length l ≤ at → entries_pass l settype at st lack ≡ finish_then settype st lack (high_in_list l)
  unfolding entries_pass
  pass-end h = ap (λ (F : Flagged → Refusal → Refusal). F st lack) (entries-end (λ st lack. finish_then settype st lack (high_in_list l)) (step_or_later l settype) l at h)

  module _ {label m : ℕ} (q : entry_at l at ≡ a_head label m) where
    pass-here : entries_pass l settype at st lack ≡ step_then settype st lack at label (list_content l at m) (entries_pass l settype (at + (entry_lead + m)))
    unfolding entries_pass
    pass-here = ap (λ (F : Flagged → Refusal → Refusal). F st lack) (entries-on (λ st lack. finish_then settype st lack (high_in_list l)) (step_or_later l settype) l at q)

-- the same at a state of the code: the entry is refused, or the pass goes on
module _ (l : List ℕ) (settype : SetType) (at : ℕ) (x : State) {label m : ℕ} (q : entry_at l at ≡ a_head label m) where
  pub pass-bad : {n : ℕ} {y : State} → Stepped (row_of settype label) settype x at label (list_content l at m) (Err n) y
      → entries_pass l settype at (flagged_of x) (told x.lack) ≡ refusal n at label
  pass-bad e =
      pass-here l settype at (flagged_of x) (told x.lack) q ∙ step-bad settype x at label (list_content l at m) (entries_pass l settype (at + (entry_lead + m))) e

  pub pass_on : {y : State} → Stepped (row_of settype label) settype x at label (list_content l at m) (Ok tt) y
      → entries_pass l settype at (flagged_of x) (told x.lack) ≡ entries_pass l settype (at + entry_lead + m) (flagged_of y) (told y.lack)
  pass_on {y} e =
      let w : at + (entry_lead + m) ≡ at + entry_lead + m = omega arith in
      pass-here l settype at (flagged_of x) (told x.lack) q ∙ (step-on settype x at label (list_content l at m) (entries_pass l settype (at + (entry_lead + m))) e
      ∙ ap (λ (n : ℕ). entries_pass l settype n (flagged_of y) (told y.lack)) w)

-- an entry that is refused has a refusal
pub some-refused : {settype : SetType} {x y : State} {at l n : ℕ} {c : List ℕ} → Stepped (row_of settype l) settype x at l c (Err n) y → Some (refusal n at l) ≡ if_any (refusal n at l)
some-refused {n = n} {c = c} e = let r = refused-err _ n e.number in one-refused _ (λ z. r.1 (r.0 ∙ z))

-- the state that the loop starts from
pub starts : (l : List ℕ) (settype : SetType) (at : ℕ) {x : State} → x ≡ before_lines
    → entries_pass l settype at (flagged_of (record { header = 8100; place = x.place; lack = x.lack; members = x.members; top = set (set x.top row8000 true) row8100 true }))
    (told x.lack) ≡ entries_pass l settype at started no_refusal
starts l settype at e = rw e

-- ---- line 1 and line 2

type-fits : (c : List ℕ) → length c ≡ type_digits → fits_label 8000 c ≡ true
unfolding fits_label fits_row field_row field_row_in field_table row_label has_length of_kind is_alnum
type-fits c e = rw e

-- after line 1
abbrev begun : Flagged
begun = record { header = 8000; place = 0; members = no_flags; top = set no_flags row8000 true }

line-1 : (settype : SetType) (c : List ℕ) (F : Flagged → Refusal → Refusal) → fits_label 8000 c ≡ true → step_then settype none_seen no_refusal 0 8000 c F ≡ F begun no_refusal
unfolding line_no label_no place_no repeated_no content_no version_no next_flagged stays_in or_else open_lack first_lack
line-1 settype c F e = rw (row-8000 settype, e)

line-2 : (settype : SetType) (c : List ℕ) (F : Flagged → Refusal → Refusal) → fits_label 8100 c ≡ true → step_then settype begun no_refusal 0 8100 c F ≡ F started no_refusal
unfolding row_label line_no label_no place_no repeated_no content_no version_no next_flagged stays_in or_else open_lack first_lack group_lack lack_under
line-2 T6300 c F e = rw (row-8100 T6300, e)
line-2 T6301 c F e = rw (row-8100 T6301, e)
line-2 T6302 c F e = rw (row-8100 T6302, e)
line-2 T6310 c F e = rw (row-8100 T6310, e)
line-2 T6311 c F e = rw (row-8100 T6311, e)

-- ---- 8 and 9

module _ (l : List ℕ) {label m : ℕ} (q : entry_at l 0 ≡ a_head label m) where
  pub first-other : (label ≡ 8000 → ⊥) → judge_entries l ≡ refusal no_start 0 0
  unfolding judge_entries first_entry
  first-other h = rw (q, ne_eqb label 8000 h)

  module _ (h : label ≡ 8000) where
    -- the content as the code cuts it out
    cut_out : type_named (take (entry_lead + m - entry_lead) (drop entry_lead l)) ≡ type_named (list_content l 0 m)
    cut_out = let w : entry_lead + m - entry_lead ≡ m = omega arith in ap (λ (n : ℕ). type_named (take n (drop entry_lead l))) w

    pub first-unknown : type_named (take (entry_lead + m - entry_lead) (drop entry_lead l)) ≡ None → judge_entries l ≡ refusal unknown_set 0 0
    unfolding judge_entries first_entry
    first-unknown e = rw (q, eq-eqb label 8000 h, ← cut_out, e)

    pub first-known : {settype : SetType} → type_named (take (entry_lead + m - entry_lead) (drop entry_lead l)) ≡ Some settype
        → judge_entries l ≡ entries_pass l settype (entry_lead + m) started no_refusal
    unfolding judge_entries first_entry
    first-known e = rw (q, eq-eqb label 8000 h, ← cut_out, e)

-- ---- what the pass finds

module _ (l : List ℕ) (settype : SetType) (es : List Field) where
  -- the entries fs, with j entries before them and so, with line 2, j + 1 lines: by induction on fs
  later-found : (fs : List Field) (at j : ℕ) (st : Flagged) (ms : G.State) (lack : Refusal) → Reads l at fs → at + list_size fs ≡ length l
      → at ≡ in_list es (suc j) start → drop j es ≡ fs → Agrees (in_list es) st ms → entries_pass l settype at st lack ≡ pass_finds settype (in_list es) (high_in_list l) ms (suc j) fs lack
  later-found [] at j st ms lack rd w e d sm =
      pass-end l settype at st lack (omega (arith, w)) ∙ pass-finish settype (in_list es) (high_in_list l) (suc j) st ms lack refl sm
  later-found (f ∷ fs) at j st ms lack rd w e d sm =
      let nx = list-next es j f fs d in
      let p : at + (entry_lead + length f.content) ≡ in_list es (suc (suc j)) start = omega (arith, e, nx.0) in
      pass-here l settype at st lack rd.0
      ∙ (rw rd.1 (pass-line settype (in_list es) (high_in_list l) f fs at (suc j) st ms lack sm e (entries_pass l settype (at + (entry_lead + length f.content)))
      (λ st' ms' lack' sm'. later-found fs (at + (entry_lead + length f.content)) (suc j) st' ms' lack' rd.2 (omega (arith, w)) p nx.1 sm'
      ∙ ap (λ (k : ℕ). pass_finds settype (in_list es) (high_in_list l) ms' k fs lack') (sym (add-one (suc j))))))

-- all lines: line 1, line 2, and the others
set_found : (l : List ℕ) (settype : SetType) (c : List ℕ) (fs : List Field) (sum : List ℕ) → Reads l 0 (field 8000 c ∷ fs) → list_size (field 8000 c ∷ fs) ≡ length l
    → fits_label 8000 c ≡ true → fits_label 8100 sum ≡ true
    → entries_pass l settype (entry_lead + length c) started no_refusal
    ≡ first_of (in_list (field 8000 c ∷ fs)) (faults_then_high (of_type settype) (field 8000 c ∷ field 8100 sum ∷ fs))
unfolding fits
set_found l settype c fs sum rd w g₁ g₂ =
    let es : List Field = field 8000 c ∷ fs in
    let p : entry_lead + length c ≡ in_list es 2 start = omega arith in
    let rd' : Reads l (entry_lead + length c) fs = subst (λ (a : ℕ). Reads l a fs) (omega arith) rd.2 in
    let others : Flagged → Refusal → Refusal = entries_pass l settype (entry_lead + length c) in
    let both : step_then settype none_seen no_refusal 0 8000 c (λ st lack. step_then settype st lack 0 8100 sum others) ≡ others started no_refusal =
    line-1 settype c (λ st lack. step_then settype st lack 0 8100 sum others) g₁ ∙ line-2 settype sum others g₂ in
    sym both ∙ (
    pass-line settype (in_list es) (high_in_list l) (field 8000 c) (field 8100 sum ∷ fs) 0 0 none_seen G.first no_refusal (none-agrees (in_list es) refl) refl
    (λ st lack. step_then settype st lack 0 8100 sum others)
    (λ st ms lack sm. pass-line settype (in_list es) (high_in_list l) (field 8100 sum) fs 0 (0 + 1) st ms lack sm refl others
    (λ st' ms' lack' sm'. later-found l settype es fs (entry_lead + length c) 1 st' ms' lack' rd' (omega (arith, w)) p refl sm'))
    ∙ pass-finds settype (in_list es) (high_in_list l) (field 8000 c ∷ field 8100 sum ∷ fs)
    (high-in-list-is l (field 8000 c) fs sum rd w (of_type settype) (sum_fits (of_type settype) sum g₂).all-digits))

-- "then 8, 9, and 11 to 16", and 24: the first fault of the entries, with the sum put in after the first
pub entries-found : (l : List ℕ) (f : Field) (fs : List Field) (sum : List ℕ) → Reads l 0 (f ∷ fs) → list_size (f ∷ fs) ≡ length l → fits_label 8100 sum ≡ true
    → judge_entries l ≡ first_of (in_list (f ∷ fs)) (rule_faults (f ∷ field 8100 sum ∷ fs))
unfolding judge_entries first_entry rule_faults start_faults profile
entries-found l f fs sum rd w g = rw (rd.0, rd.1) (go (eqb f.label 8000) refl (type_named f.content) refl)
  where
    all : List Field
    all = f ∷ field 8100 sum ∷ fs

    go : (a : Bool) → eqb f.label 8000 ≡ a → (k : Known) → type_named f.content ≡ k
        → cond a (by_known k (refusal unknown_set 0 0) (λ settype. entries_pass l settype (entry_lead + length f.content) started no_refusal)) (refusal no_start 0 0)
        ≡ first_of (in_list (f ∷ fs)) (start_faults_by a (is_known k) true ++ faults_then_high (record { set_type = k }) all)
    go false e k q = refl
    go true e None q = refl
    go true e (Some settype) q =
        let four : length f.content ≡ type_digits = ap length (type-digits f.content settype q) ∙ length-digits type_digits (type_number settype) in
        let x : field 8000 f.content ≡ f = λ i. record { label = sym (eqb-true f.label 8000 e) i; content = f.content } in
        subst (λ (y : Field). entries_pass l settype (entry_lead + length y.content) started no_refusal
        ≡ first_of (in_list (y ∷ fs)) (faults_then_high (of_type settype) (y ∷ field 8100 sum ∷ fs))) x
        (set_found l settype f.content fs sum (subst (λ (y : Field). Reads l 0 (y ∷ fs)) (sym x) rd) w (type-fits f.content four) g)

-- its number says whether there is one
pub rules-real : (fs : List Field) → Real (rule_faults fs)
unfolding rule_faults start_faults
rules-real fs = real-append (start_faults fs) (faults_then_high (profile fs) fs) (real-starts (label_is fs 0 8000) (type_known fs) (label_is fs 1 8100)) (real-then-high (profile fs) fs)
