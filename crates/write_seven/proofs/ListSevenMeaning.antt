-- What the walks are for a list that was read as entries, with the sum as line 2: `seven_bit` if the lines keep 11 to 13, and the first content byte over 7Fh.
use mathlib.Core.Path.{◌≡◌, refl, sym, ap, ap₂, ◌∙◌}
use mathlib.Core.Bool.{Bool, true, false, cond}
use mathlib.Core.List.{List, [], ◌∷◌, ◌++◌}
use Prim.Native.Nat.{ℕ, zero, suc, ◌+◌, ◌<◌}
use native.Mathlib.Numerals.{add-one}
use native.Mathlib.Omega.{arith}
use lib.Dec.{eqb}
use lib.ListN.{length, drop}
use borrow.Author.Tests.{eqb-true, eqb-false}
use Rattle.meaning.specs.declared.Refusal.{Refusal}
use Rattle.meaning.specs.Digits.{digits, all_digits}
use Rattle.meaning.specs.Field.{Field, field, label_at_line, content_at_line}
use Rattle.meaning.specs.Refusals.{start, Fault, refusal, high_byte}
use Rattle.meaning.specs.Lines.{high_bytes}
use Rattle.meaning.specs.Kinds.{same_bytes}
use Rattle.meaning.specs.Entries.{entry_lead, list_size}
use Rattle.meaning.specs.Groups.{first}
use Rattle.meaning.specs.Rules.{Profile, rules_from, seven_bit, high_from, high_faults}
use Rattle.meaning.specs.Lists.{in_list}
use Rattle.meaning.specs.Answers.{no_refusal}
use Rattle.meaning.proofs.DigitLaws.{plain-digits}
use Rattle.meaning.proofs.FaultLaws.{highs-none}
use Rattle.meaning.proofs.FirstLaws.{first_of}
use Rattle.meaning.proofs.RealLaws.{first-high}
use Rattle.meaning.proofs.SevenLaws.{seven-once, seven-none}
use Rattle.byte_high.proofs.HighLaws.{high_is}
use Rattle.entry_read.specs.Head.{entry_at, list_content, a_head}
use Rattle.entry_read.proofs.HeadLaws.{whole_back}
use Rattle.entry_read.proofs.HeadWalkLaws.{entries-end, entries-on, Reads, list-next}
use Rattle.write_seven.specs.ListSeven.{seven_or_later, list_says_seven, high_or_later, high_in_contents, high_in_list}
use Rattle.write_seven.proofs.ListSevenLaws.{seven-here, seven-later}

-- ---- 9206 = 1

-- no line is 9206
abbrev No9206 : List Field → Type 0
No9206 fs = (k : ℕ) → k < length fs → label_at_line fs k ≡ 9206 → ⊥

no-later : (f : Field) (fs : List Field) → (f.label ≡ 9206 → ⊥) → No9206 fs → No9206 (f ∷ fs)
no-later f fs q h zero g = q
no-later f fs q h (suc k) g = h k (omega arith)

module _ (l : List ℕ) (b : Bool) where
  -- the first 9206 entry decides: that is b, if each of them says b, and b is false if there is none. By induction on the entries.
  says-by : (fs : List Field) (at : ℕ) → Reads l at fs → at + list_size fs ≡ length l
      → ((k : ℕ) → k < length fs → label_at_line fs k ≡ 9206 → same_bytes (content_at_line fs k) (digits 1 1) ≡ b) → (No9206 fs → false ≡ b) → list_says_seven l at ≡ b
  unfolding list_says_seven
  says-by [] at rd w some none = entries-end false (seven_or_later l) l at (omega arith) ∙ none (λ k h e. omega arith)
  says-by (f ∷ fs) at rd w some none =
      go (eqb f.label 9206) refl
      (λ q. says-by fs (at + (entry_lead + length f.content)) rd.2 (omega arith) (λ k h. some (suc k) (omega arith)) (λ h. none (no-later f fs q h)))
    where
      go : (x : Bool) → eqb f.label 9206 ≡ x → ((f.label ≡ 9206 → ⊥) → list_says_seven l (at + (entry_lead + length f.content)) ≡ b) → list_says_seven l at ≡ b
      go true e ih =
          let q : f.label ≡ 9206 = eqb-true f.label 9206 e in
          sym (seven-here l at rd.0 q) ∙ (ap (λ (c : List ℕ). same_bytes c (digits 1 1)) rd.1 ∙ some 0 (omega arith) q)
      go false e ih =
          let q : f.label ≡ 9206 → ⊥ = eqb-false f.label 9206 e in
          sym (seven-later l at rd.0 q) ∙ ih q

-- ---- 24

module _ (l : List ℕ) (es : List Field) where
  -- the content of one entry, if what the contents after it give is known
  high-entry : (f : Field) (line at : ℕ) (rest : List Fault) → entry_at l at ≡ a_head f.label (length f.content) → list_content l at (length f.content) ≡ f.content
      → at ≡ in_list es line start → high_in_contents l (at + (entry_lead + length f.content)) ≡ first_of (in_list es) rest
      → high_in_contents l at ≡ first_of (in_list es) (high_bytes line 0 f.content ++ rest)
  unfolding high_in_contents
  high-entry f line at rest e c p ih =
      let n : ℕ = length f.content in
      entries-on no_refusal (high_or_later l) l at e
      ∙ (ap (high_or_later l at f.label n) ih
      ∙ (high_is (λ xs. first_of (in_list es) (xs ++ rest)) (λ x. refusal high_byte x 0) line (at + entry_lead)
      (λ i xs. ap (λ (x : ℕ). refusal high_byte x 0) (omega (arith, p))) l n (at + entry_lead) 0 (omega arith) (omega (arith, (whole_back l at e).within))
      ∙ ap (λ (d : List ℕ). first_of (in_list es) (high_bytes line 0 d ++ rest)) c))

  -- those of the entries fs, with j entries before them and so, with line 2, j + 1 lines: by induction on fs
  high-later-on : (fs : List Field) (at j : ℕ) → Reads l at fs → at + list_size fs ≡ length l → at ≡ in_list es (suc j) start → drop j es ≡ fs
      → high_in_contents l at ≡ first_of (in_list es) (high_from (suc j) fs)
  unfolding high_in_contents high_from
  high-later-on [] at j rd w p d = entries-end no_refusal (high_or_later l) l at (omega arith)
  high-later-on (f ∷ fs) at j rd w p d =
      let nx = list-next es j f fs d in
      high-entry f (suc j) at (high_from (suc j + 1) fs) rd.0 rd.1 p
      (high-later-on fs (at + (entry_lead + length f.content)) (suc j) rd.2 (omega arith) (omega (arith, p, nx.0)) nx.1
      ∙ ap (λ (k : ℕ). first_of (in_list es) (high_from k fs)) (sym (add-one (suc j))))

-- ---- a list with its sum

module _ (l : List ℕ) (f : Field) (fs : List Field) (sum : List ℕ) (rd : Reads l 0 (f ∷ fs)) (w : list_size (f ∷ fs) ≡ length l) where
  abbrev all : List Field
  all = f ∷ field 8100 sum ∷ fs

  -- of entries that keep 11 to 13: line 2 is not 9206
  says_is : (p : Profile) → rules_from p first 0 all ≡ [] → list_says_seven l 0 ≡ seven_bit all
  says_is p h = says-by l (seven_bit all) (f ∷ fs) 0 rd (omega arith) some (λ n. sym (seven-none all (none n)))
    where
      some : (k : ℕ) → k < length (f ∷ fs) → label_at_line (f ∷ fs) k ≡ 9206 → same_bytes (content_at_line (f ∷ fs) k) (digits 1 1) ≡ seven_bit all
      some zero g e = sym (seven-once p all h 0 (omega arith) e)
      some (suc k) g e = sym (seven-once p all h (suc (suc k)) (omega arith) e)

      none : No9206 (f ∷ fs) → No9206 all
      none n zero g = n 0 (omega arith)
      none n (suc zero) g = λ e. omega arith
      none n (suc (suc k)) g = n (suc k) (omega arith)

  -- line 2 is digits, and none of them is over 7Fh
  contents-are : all_digits sum ≡ true → high_in_contents l 0 ≡ first_of (in_list (f ∷ fs)) (high_from 0 all)
  unfolding high_from
  contents-are d =
      rw (highs-none 1 0 sum (plain-digits sum d))
      (high-entry l (f ∷ fs) f 0 0 (high_from 2 fs) rd.0 rd.1 refl
      (high-later-on l (f ∷ fs) fs (0 + (entry_lead + length f.content)) 1 rd.2 (omega (arith, w)) (omega arith) refl))

  -- 24 of a list: the first content byte over 7Fh of its lines, if these keep 11 to 15
  pub high-in-list-is : (p : Profile) → all_digits sum ≡ true → rules_from p first 0 all ≡ [] → high_in_list l ≡ first_of (in_list (f ∷ fs)) (high_faults all)
  unfolding high_in_list
  high-in-list-is p d h =
      ap₂ (λ (b : Bool) (r : Refusal). cond b r no_refusal) (says_is p h) (contents-are d) ∙ sym (first-high (in_list (f ∷ fs)) all)
