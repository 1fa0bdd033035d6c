-- The loop judges the lines of a set that was read: at each line start it stands for the scan of the whole set, and for the pass over it (`Along`).
use mathlib.Core.Path.{◌≡◌, refl, sym, ap, ap₂, ◌∙◌}
use mathlib.Core.Bool.{Bool, true, false, cond, true≢false}
use mathlib.Core.List.{List}
use Prim.Native.Nat.{ℕ, suc, ◌+◌, ◌-◌, ◌≤◌, ◌<◌}
use native.Mathlib.Nat.{zero-add, add-zero}
use native.Mathlib.Omega.{arith}
use lib.Dec.{leb, eqb}
use lib.ListN.{length, take, set}
use borrow.Author.Tests.{eq-eqb, ne_eqb, eqb-true, eqb-false, leb-true, leb-false}
use Rattle.std.specs.Prelude.{Ok, Err, Some}
use Rattle.meaning.specs.declared.Refusal.{Refusal}
use Rattle.meaning.specs.declared.SetType.{SetType}
use Rattle.meaning.specs.Limits.{max_lines}
use Rattle.meaning.specs.Refusals.{refusal, bad_content}
use Rattle.meaning.specs.Lines.{length_digits, line_lead}
use Rattle.meaning.specs.FieldTable.{fits_label}
use Rattle.meaning.specs.Rules.{type_named}
use Rattle.meaning.specs.Answers.{no_refusal}
use Rattle.line_read.specs.Line.{line_at, line_content, sum_line, LineRead, a_line}
use Rattle.line_read.specs.Told.{three_bytes, three_zeros, four_bytes, four_zeros}
use Rattle.line_read.proofs.LineMeaning.{read_back}
use Rattle.line_read.proofs.ToldLaws.{read-bytes}
use Rattle.line_scan.specs.Scan.{ends_at, scan_from, scan_set, scanned}
use Rattle.line_scan.proofs.ScanWalkLaws.{scan-done, scan-full, scan-bad, scan-further, scan-first}
use Rattle.line_scan.proofs.ScanMeaning.{ends_read, same-scan}
use Rattle.line_seven.specs.Seven.{high_in_set}
use Rattle.judge_missing.specs.declared.State.{State}
use Rattle.judge_missing.specs.Lacks.{none_seen, finish_then, flagged_of, told, before_lines}
use Rattle.judge_line.specs.Steps.{row_of, Stepped}
use Rattle.judge_line.proofs.StartRows.{start_state, start-step, second_state, second-step, second-unfit}
use Rattle.judge_lines.specs.Pass.{pass_from, pass_set, answered, Started}
use Rattle.judge_lines.proofs.PassLaws.{pass-bad, pass_on}

-- ---- at a line start: a line of the set that is read, with k lines before it

abbrev pub Stands : List ℕ → ℕ → ℕ → ℕ → ℕ → Type 0
Stands s at k l n = (k < max_lines) × (line_at s at ≡ a_line l n) × (l ≡ 8000 → ⊥)

-- a scan that is done and counts more than k lines reads one there
pub stands-there : (s : List ℕ) (at k : ℕ) → k ≤ max_lines → {total lines : ℕ} → scan_from s at k (max_lines - k) ≡ scanned total lines → k < lines → (l : ℕ) × ((n : ℕ) × Stands s at k l n)
stands-there s at k few {total} {lines} q h = go (ends_at s at) refl (leb max_lines k) refl (line_at s at) refl
  where
    -- a scan that is refused is not done
    not_done : {r : Refusal} → Err r ≡ scanned total lines → ⊥
    not_done e = let z : ◌≡◌ {A = ℕ} 0 1 = cc in omega arith

    go : (b : Bool) → ends_at s at ≡ b → (d : Bool) → leb max_lines k ≡ d → (x : LineRead) → line_at s at ≡ x → (l : ℕ) × ((n : ℕ) × Stands s at k l n)
    go true e d f x w =
        let z : scanned at k ≡ scanned total lines = sym (scan-done s at k (max_lines - k) e) ∙ q in
        let y : k ≡ lines = (same-scan z).1 in
        absurd (omega arith)
    go false e true f x w = absurd (not_done (sym (scan-full s at k (leb-true max_lines k f) e) ∙ q))
    go false e false f (Err r) w = absurd (not_done (sym (scan-bad s at k (leb-false max_lines k f) e w) ∙ q))
    go false e false f (Ok x) w =
        (x.label, (x.size, (leb-false max_lines k f, w, λ z. true≢false (sym (ends_read s at w ∙ eq-eqb x.label 8000 z) ∙ e))))

-- ---- at a line start: the scan from here on is the scan of the set, and the pass from here on is the pass over the set

pub record Along (s : List ℕ) (settype : SetType) (at k : ℕ) (x : State) : Type 0 where
  pub within : at ≤ length s
  pub few : k ≤ max_lines
  pub scan-so : scan_from s at k (max_lines - k) ≡ scan_set s
  pub pass-so : (m : ℕ) → pass_from s settype at (flagged_of x) (told x.lack) m ≡ pass_from s settype 0 none_seen no_refusal (k + m)

-- after line 1
pub along-start : (s : List ℕ) (settype : SetType) (at : ℕ) → line_at s 0 ≡ a_line 8000 at → type_named (line_content s 0 at) ≡ Some settype → Along s settype at 1 start_state
along-start s settype at q t = record {
  within = omega (arith, (read_back s 0 q).within);
  few = omega arith;
  scan-so = sym (scan-first s q);
  pass-so = λ m.
      let one : suc m ≡ 1 + m = omega arith in
      sym (ap (pass_from s settype 0 none_seen no_refusal) (sym one)
      ∙ (pass_on s settype 0 before_lines 8000 at q (start-step settype (line_content s 0 at) t) m
      ∙ ap (λ (x : ℕ). pass_from s settype x (flagged_of start_state) no_refusal m) (zero-add at)));
}

module _ {s : List ℕ} {settype : SetType} {at k : ℕ} {x : State} (a : Along s settype at k x) where
  -- after the last line
  pub along-end : {lines : ℕ} → k ≡ lines → finish_then settype (flagged_of x) (told x.lack) (high_in_set (take at s)) ≡ pass_set s settype lines
  unfolding pass_from
  along-end e = a.pass-so 0 ∙ ap (pass_from s settype 0 none_seen no_refusal) (add-zero k ∙ e)

  -- one line more is counted, so it is read
  module _ {total lines : ℕ} (q : scan_set s ≡ scanned total lines) (h : k < lines) where
    there : (l : ℕ) × ((n : ℕ) × Stands s at k l n)
    there = stands-there s at k a.few (a.scan-so ∙ q) h

    -- what its first seven bytes say
    pub along-bytes : (at + line_lead ≤ length s) × (three_zeros ≤ three_bytes s at) × (four_zeros ≤ four_bytes s (at + length_digits))
    along-bytes =
        let b = read-bytes s at there.1.1.1 in
        (b.0, omega (arith, b.1), omega (arith, b.2))

    module _ {l n : ℕ} (label-so : l ≡ four_bytes s (at + length_digits) - four_zeros) (size-so : n ≡ three_bytes s at - three_zeros) where
      found : Stands s at k l n
      found =
          let w = there.1.1 in
          let b = read-bytes s at w.1 in
          let x : there.0 ≡ l = omega (arith, b.2) in
          let y : there.1.0 ≡ n = omega (arith, b.1) in
          (w.0, w.1 ∙ ap₂ a_line x y, λ z. w.2 (x ∙ z))

      -- the line is read
      line-so : line_at s at ≡ a_line l n
      line-so = found.1

      along-few : k < max_lines
      along-few = found.0

      pub along-least : 10 ≤ n
      along-least = (read_back s at line-so).least

      pub along-within : at + n ≤ length s
      along-within = (read_back s at line-so).within

      -- the scan goes on after it
      scan-after : scan_from s (at + n) (k + 1) (max_lines - (k + 1)) ≡ scan_set s
      scan-after = sym (scan-further s at k along-few (ends_read s at line-so ∙ ne_eqb l 8000 found.2) line-so) ∙ a.scan-so

      pub along-bad : {no : ℕ} {y : State} → Stepped (row_of settype l) settype x at l (line_content s at n) (Err no) y → refusal no at l ≡ pass_set s settype lines
      along-bad e =
          let m : k + suc (lines - (k + 1)) ≡ lines = omega arith in
          sym (pass-bad s settype at x l n line-so e (lines - (k + 1))) ∙ (a.pass-so (suc (lines - (k + 1))) ∙ ap (pass_from s settype 0 none_seen no_refusal) m)

      pub along-on : {y : State} → Stepped (row_of settype l) settype x at l (line_content s at n) (Ok tt) y → Along s settype (at + n) (k + 1) y
      along-on {y} e = record {
        within = along-within;
        few = omega (arith, along-few);
        scan-so = scan-after;
        pass-so = λ m. sym (pass_on s settype at x l n line-so e m) ∙ (a.pass-so (suc m) ∙ ap (pass_from s settype 0 none_seen no_refusal) (omega arith));
      }

-- ---- lines 1 and 2

-- line 2 as the bytes say it
second-told : (s : List ℕ) (at : ℕ) {n : ℕ} → line_at s at ≡ a_line 8100 n → (8100 ≡ four_bytes s (at + length_digits) - four_zeros) × (n ≡ three_bytes s at - three_zeros)
second-told s at q =
    let b = read-bytes s at q in
    (omega (arith, b.2), omega (arith, b.1))

-- the state that the loop starts from
pub second-starts : {x : State} {m t : List Bool} (at : ℕ) → x ≡ before_lines → m ≡ set x.top 31 true → t ≡ set m 32 true
    → record { header = 8100; place = at; lack = x.lack; members = x.members; top = t } ≡ second_state at
second-starts at e f g = rw (g, f, e)

-- after line 2
pub along-second : {s : List ℕ} {settype : SetType} {at lines : ℕ} → Started s settype at lines → {x : State} → x ≡ second_state at → Along s settype (at + sum_line) 2 x
along-second {s} {settype} {at} {lines} w e =
    let told-so = second-told s at w.second_so in
    rw e (along-on (along-start s settype at w.first_so w.named) w.scanned (omega (arith, w.both)) told-so.0 told-so.1
    (second-step settype at (line_content s at sum_line) w.fits-so))

-- if line 2 has no sum, 14 refuses it
pub second-refused : (s : List ℕ) (settype : SetType) (at n : ℕ) {total lines : ℕ} → line_at s 0 ≡ a_line 8000 at → type_named (line_content s 0 at) ≡ Some settype → line_at s at ≡ a_line 8100 n
    → 2 ≤ lines → scan_set s ≡ scanned total lines → fits_label 8100 (line_content s at n) ≡ false → refusal bad_content at 8100 ≡ pass_set s settype lines
second-refused s settype at n q t w two d e =
    let told-so = second-told s at w in
    along-bad (along-start s settype at q t) d (omega arith) told-so.0 told-so.1 (second-unfit settype at (line_content s at n) e)

-- ---- 24, if 9206 was seen

module _ (high : Refusal) (b c : Bool) (q : b ≡ c) where
  pub not-asked : b ≡ false → no_refusal ≡ cond c high no_refusal
  not-asked z = ap (λ (x : Bool). cond x high no_refusal) (sym z ∙ q)

  pub asked : b ≡ true → high ≡ cond c high no_refusal
  asked z = ap (λ (x : Bool). cond x high no_refusal) (sym z ∙ q)

-- ---- a refusal and its answer

-- a refusal with a number is one, and that with none is none
pub answered-bad : (r : Refusal) → (r.no ≡ 0 → ⊥) → Err r ≡ answered r
answered-bad r n = rw (ne_eqb r.no 0 n)

pub answered-err : (q r : Refusal) → Err r ≡ answered q → (r ≡ q) × (r.no ≡ 0 → ⊥)
answered-err q r e = go (eqb q.no 0) refl e
  where
    go : (b : Bool) → eqb q.no 0 ≡ b → Err r ≡ cond b (Ok (tt {0})) (Err q) → (r ≡ q) × (r.no ≡ 0 → ⊥)
    go true w e = absurd cc
    go false w e =
        let z : r ≡ q = cc in
        (z, λ n. eqb-false q.no 0 w (sym (ap (λ (x : Refusal). x.no) z) ∙ n))

pub answered-ok : (q : Refusal) → Ok tt ≡ answered q → q.no ≡ 0
answered-ok q e = go (eqb q.no 0) refl e
  where
    go : (b : Bool) → eqb q.no 0 ≡ b → Ok (tt {0}) ≡ cond b (Ok (tt {0})) (Err q) → q.no ≡ 0
    go true w e = eqb-true q.no 0 w
    go false w e = absurd cc
