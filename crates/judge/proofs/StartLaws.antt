-- Laws of the walk's ends, 8 to 17, for the proofs of the functions around the pass: what each `return` has to show.
use mathlib.Core.Path.{◌≡◌, refl, sym, ap, ap₂, ◌∙◌}
use mathlib.Core.List.{List}
use Prim.Native.Nat.{ℕ, ◌+◌, ◌-◌, ◌≤◌, ◌<◌}
use native.Mathlib.Omega.{arith}
use lib.ListN.{length, take, drop}
use borrow.Author.Tests.{eq-eqb, ne_eqb, le-leb, lt-leb}
use Rattle.meaning.specs.declared.Refusal.{Refusal}
use Rattle.meaning.specs.declared.SetType.{SetType}
use Rattle.meaning.specs.Limits.{max_lines, type_number}
use Rattle.meaning.specs.Refusals.{refusal, empty, no_start, unknown_set, no_sum, bad_content, bad_sum}
use Rattle.meaning.specs.Lines.{length_digits, line_lead}
use Rattle.meaning.specs.FieldTable.{fits_label}
use Rattle.meaning.specs.Rules.{type_named}
use Rattle.meaning.specs.Lists.{sum_digits}
use Rattle.meaning.proofs.FirstLaws.{or-bad, or-zero}
use Rattle.line_read.specs.Number.{number_at}
use Rattle.line_read.specs.Line.{line_at, line_content, sum_line, a_line}
use Rattle.line_read.specs.Told.{three_bytes, three_zeros, four_bytes, four_zeros}
use Rattle.line_read.proofs.LineMeaning.{read_back}
use Rattle.line_read.proofs.ToldLaws.{read-bytes}
use Rattle.line_scan.specs.Scan.{scan_from, scan_set, Scanned, scanned}
use Rattle.line_scan.proofs.ScanWalkLaws.{scan-first}
use Rattle.judge_start.specs.Sum.{sum_written, is_sum, sum_walk}
use Rattle.judge_start.proofs.TypeAndSumLaws.{sum_number, sum-fitting, sum-right, sum-wrong}
use Rattle.judge_lines.specs.Pass.{pass_set, Started}
use Rattle.judge_lines.proofs.LineLoopLaws.{Stands, stands-there, second-refused}
use Rattle.judge.specs.Walks.{ruled_walk, second_by, second_walk, as_judged, typed_by, first_by, lines_walk, judge_walk}
use Rattle.meaning.specs.Results.{Known}
use Rattle.std.specs.Prelude.{Err, None, Ok, Some}

-- the answer by a refusal that is one, and by none
judged-bad : (r q : Refusal) (settype : SetType) (total lines : ℕ) → r ≡ q → (r.no ≡ 0 → ⊥) → Err r ≡ as_judged q settype total lines
unfolding as_judged
judged-bad r q settype total lines e g = rw (← e, ne_eqb r.no 0 g)

judged-good : (r q : Refusal) (settype : SetType) (total lines k : ℕ) → r ≡ q → r.no ≡ 0 → k ≡ type_number settype
    → Ok (record { length = total; lines = lines; settype = k }) ≡ as_judged q settype total lines
unfolding as_judged
judged-good r q settype total lines k e g h = rw (← e, g, h)

-- what is known of a set that was read once line 1 names this type, and once line 2 is 8100 and has n bytes; and which walk is left

pub record Typed (s : List ℕ) (l at total lines : ℕ) (settype : SetType) : Type 0 where
  start-line : line_at s 0 ≡ a_line 8000 at
  named : type_named (line_content s 0 at) ≡ Some settype
  scanned : scan_set s ≡ scanned total lines
  by-second : as_judged (second_walk s settype at total lines) settype total lines ≡ first_by s l at total lines

pub record Summed (s : List ℕ) (l at total lines : ℕ) (settype : SetType) (n : ℕ) : Type 0 where
  typed : Typed s l at total lines settype
  both : 2 ≤ lines
  sum-line : line_at s at ≡ a_line 8100 n
  by-rules : as_judged (ruled_walk s settype at total lines) settype total lines ≡ first_by s l at total lines

-- ---- 8 to 17, of a set that was read, whose line 1 has label l and ends at `at`

module _ (s : List ℕ) (l at total lines : ℕ) (q : line_at s 0 ≡ a_line l at) where
  pub first-other : (l ≡ 8000 → ⊥) → Err (refusal no_start 0 0) ≡ first_by s l at total lines
  unfolding first_by
  first-other h = rw (ne_eqb l 8000 h)

  module _ (h : l ≡ 8000) (k : Known) (e : k ≡ type_named (take (at - 2 - 7) (drop 7 s))) where
    -- k is the type that line 1 names
    named-so : k ≡ type_named (line_content s 0 at)
    named-so =
        let m : at - 2 - 7 ≡ at - 9 = omega (arith, (read_back s 0 q).least) in
        e ∙ ap (λ (m : ℕ). type_named (take m (drop 7 s))) m

    type-so : typed_by s k at total lines ≡ first_by s l at total lines
    unfolding first_by
    type-so = sym (rw (eq-eqb l 8000 h) (ap (λ (x : Known). typed_by s x at total lines) (sym named-so)))

    pub first-untyped : k ≡ None → Err (refusal unknown_set 0 0) ≡ first_by s l at total lines
    first-untyped z = ap (λ (x : Known). typed_by s x at total lines) (sym z) ∙ type-so

    pub first-typed : (settype : SetType) → k ≡ Some settype → scan_set s ≡ scanned total lines → Typed s l at total lines settype
    first-typed settype z d = record {
      start-line = q ∙ ap (λ (x : ℕ). a_line x at) h;
      named = sym named-so ∙ z;
      scanned = d;
      by-second = ap (λ (x : Known). typed_by s x at total lines) (sym z) ∙ type-so;
    }

-- ---- 10 to 17, if line 1 names a type

module _ {s : List ℕ} {l at total lines : ℕ} {settype : SetType} (t : Typed s l at total lines settype) where
  -- no line 2
  pub no_second : lines < 2 → Err (refusal no_sum at 0) ≡ first_by s l at total lines
  unfolding second_walk
  no_second f = judged-bad _ _ settype total lines (sym (rw (lt-leb 2 lines f))) (λ z. omega arith) ∙ t.by-second

  -- line 2 is read
  module _ (two : 2 ≤ lines) where
    there : (l₂ : ℕ) × ((n : ℕ) × Stands s at 1 l₂ n)
    there = stands-there s at 1 (omega arith) (sym (scan-first s t.start-line) ∙ t.scanned) (omega arith)

    pub second-bytes : (at + line_lead ≤ length s) × (three_zeros ≤ three_bytes s at) × (four_zeros ≤ four_bytes s (at + length_digits))
    second-bytes =
        let b = read-bytes s at there.1.1.1 in
        (b.0, omega (arith, b.1), omega (arith, b.2))

    module _ {l₂ : ℕ} (label-so : l₂ ≡ four_bytes s (at + length_digits) - four_zeros) where
      second_so : line_at s at ≡ a_line l₂ there.1.0
      second_so =
          let w = there.1.1 in
          let x : there.0 ≡ l₂ = omega (arith, (read-bytes s at w.1).2) in
          w.1 ∙ ap (λ (y : ℕ). a_line y there.1.0) x

      by-label : as_judged (second_by s settype at total lines l₂) settype total lines ≡ first_by s l at total lines
      unfolding second_walk
      by-label = ap (λ (x : Refusal). as_judged x settype total lines) (sym (rw (le-leb 2 lines two, second_so))) ∙ t.by-second

      pub second-other : (l₂ ≡ 8100 → ⊥) → Err (refusal no_sum at 0) ≡ first_by s l at total lines
      unfolding second_by
      second-other f = judged-bad _ _ settype total lines (sym (rw (ne_eqb l₂ 8100 f))) (λ z. omega arith) ∙ by-label

      pub second-sum : l₂ ≡ 8100 → {n : ℕ} → n ≡ three_bytes s at - three_zeros → Summed s l at total lines settype n
      unfolding second_by
      second-sum g {n} size-so =
          let y : there.1.0 ≡ n = omega (arith, (read-bytes s at there.1.1.1).1) in
          record {
            typed = t;
            both = two;
            sum-line = second_so ∙ ap₂ a_line g y;
            by-rules = ap (λ (x : Refusal). as_judged x settype total lines) (sym (rw (eq-eqb l₂ 8100 g))) ∙ by-label;
          }

-- ---- 11 to 17, if line 2 is 8100

module _ {s : List ℕ} {l at total lines : ℕ} {settype : SetType} {n : ℕ} (m : Summed s l at total lines settype n) where
  fitting : fits_label 8100 (line_content s at n) ≡ is_sum (sum_written s at n)
  fitting = sum-fitting s at n (read_back s at m.sum-line).within

  -- the pass refuses
  pub rules-bad : {r : Refusal} → r ≡ pass_set s settype lines → (r.no ≡ 0 → ⊥) → Err r ≡ first_by s l at total lines
  rules-bad {r} p b = judged-bad r _ settype total lines (sym (rw (← p) (or-bad r (sum_walk s at total) b))) b ∙ m.by-rules

  -- no sum: 14
  pub sum-missing : sum_written s at n ≡ None → Err (refusal bad_content at 8100) ≡ first_by s l at total lines
  sum-missing w =
      rules-bad (second-refused s settype at n m.typed.start-line m.typed.named m.sum-line m.both m.typed.scanned (fitting ∙ ap is_sum w)) (λ z. omega arith)

  -- a sum: the pass starts after line 2, and then 17 is asked
  module _ {sum : ℕ} (w : sum_written s at n ≡ Some sum) where
    number : (n ≡ sum_line) × (number_at s (at + line_lead) sum_digits ≡ Some sum)
    number = sum_number s at n sum w

    pub pass-starts : Started s settype at lines
    pass-starts = record {
      first_so = m.typed.start-line;
      named = m.typed.named;
      second_so = m.sum-line ∙ ap (a_line 8100) number.0;
      fits-so = ap (λ (k : ℕ). fits_label 8100 (line_content s at k)) (sym number.0) ∙ (fitting ∙ ap is_sum w);
      both = m.both;
      total = total;
      scanned = m.typed.scanned;
    }

    module _ {r : Refusal} (p : r ≡ pass_set s settype lines) (b : r.no ≡ 0) where
      after : sum_walk s at total ≡ ruled_walk s settype at total lines
      after = sym (rw (← p) (or-zero r (sum_walk s at total) b))

      pub sum-bad : (sum ≡ total → ⊥) → Err (refusal bad_sum at 0) ≡ first_by s l at total lines
      sum-bad f = judged-bad _ _ settype total lines (sum-wrong s at total sum number.1 f ∙ after) (λ z. omega arith) ∙ m.by-rules

      pub sum-good : sum ≡ total → {k : ℕ} → k ≡ type_number settype → Ok (record { length = total; lines = lines; settype = k }) ≡ first_by s l at total lines
      sum-good f {k} e = judged-good _ _ settype total lines k (sum-right s at total sum number.1 f ∙ after) refl e ∙ m.by-rules

-- ---- 1 to 17

pub judge-empty : (s : List ℕ) → length s ≡ 0 → Err (refusal empty 0 0) ≡ judge_walk s
unfolding judge_walk scan_set
judge-empty s h = rw h

module _ (s : List ℕ) (h : length s ≡ 0 → ⊥) where
  pub judge-unread : (r : Refusal) → line_at s 0 ≡ Err r → Err r ≡ judge_walk s
  unfolding judge_walk scan_set
  judge-unread r q = rw (ne_eqb (length s) 0 h, q)

module _ (s : List ℕ) (l n : ℕ) (q : line_at s 0 ≡ a_line l n) where
  -- the scan after line 1
  pub scan-later : {x : Scanned} → scan_from s n 1 (max_lines - 1) ≡ x → scan_set s ≡ x
  scan-later e = scan-first s q ∙ e

  pub judge-refused : {r : Refusal} → scan_set s ≡ Err r → Err r ≡ judge_walk s
  unfolding judge_walk
  judge-refused e = sym (rw e)

  pub judge-read : {total lines : ℕ} → scan_set s ≡ scanned total lines → first_by s l n total lines ≡ judge_walk s
  unfolding judge_walk lines_walk
  judge-read e = sym (rw (e, q))
