-- A correction and a recoding may be made in either order: the line is found one place further on if the set gained line 3, and its new content is given in the code page that the set then has.
use mathlib.Core.Path.{◌≡◌, refl, sym, ap, ◌∙◌}
use mathlib.Core.Bool.{Bool, true, false, cond, not, ◌&&◌, ◌||◌, true≢false}
use mathlib.Core.List.{List, [], ◌∷◌, map}
use Prim.Native.Nat.{ℕ, zero, suc, pred, ◌+◌, ◌≤◌}
use native.Mathlib.Omega.{arith}
use lib.Dec.{leb}
use lib.ListN.{set, length-map}
use borrow.Author.Tests.{le-leb, ne_eqb}
use Rattle.meaning.specs.Field.{Field, field, labels, elem, label_at_line}
use Rattle.meaning.specs.Rules.{profile, fits, seven_bit}
use Rattle.meaning.specs.Lists.{sum_field}
use Rattle.meaning.specs.Corrections.{recontent, resum, changed}
use Rattle.meaning.proofs.Bools.{every_set}
use Rattle.meaning.proofs.FaultLaws.{append-none, none_both, if_none, if-back, High, Plain}
use Rattle.meaning.proofs.RuleLaws.{Ruled, ruled, begins-of}
use Rattle.meaning.proofs.SetLaws.{Standing, sum_back}
use Rattle.meaning.proofs.CorrectionLaws.{Change, upright, upright-recontent, alike-changed, still-standing}
use Rattle.meaning_recode.specs.declared.Code.{Code}
use Rattle.meaning_recode.specs.declared.Code.TheVariants.{Page437, Page1252}
use Rattle.meaning_recode.specs.Codes.{recoded}
use Rattle.meaning_recode.specs.Recoding.{charset_of, line_names_code, names_code, has_charset, in_code, all_recoded, gains, added_faults, no_character_from, recode_faults}
use Rattle.meaning_recode.specs.Recoding.{recode_field, charset_field, with_charset, recode_lines}
use Rattle.meaning_recode.proofs.KindLaws.{Told, fits_kept, high-kept}
use Rattle.meaning_recode.proofs.InsertLaws.{no-charset}
use Rattle.meaning_recode.proofs.MapLaws.{Alters, line-map, alters-recode, profile-recoded, seven-kept, recoded-standing, mark-other, mark-eight, alters-mark}
use Rattle.meaning_recode.proofs.MapLaws.{not-seven-marked, profile-marked, marked-standing}
use Rattle.meaning_recode.proofs.StandLaws.{seven-has, charset-kept}
use Rattle.meaning_recode.proofs.CharsetLaws.{not-seven-bits}
use Rattle.meaning_recode.proofs.BackLaws.{AllTold, unknown-back, unknown-none, sum_told, gained-hold}

-- ---- what a correction is after a recoding

-- the number that line n has then: if a line is gained as line 3, those from 3 on move
abbrev pub moved_on : Code → List Field → ℕ → ℕ
moved_on w fs n = cond (gains w fs && leb 3 n) (n + 1) n

-- a content of this set in the code page that the set is in then
abbrev pub content_into : Code → List Field → List ℕ → List ℕ
content_into w fs c = cond (all_recoded w fs) (map (recoded w) c) c

-- ---- a corrected line is not 9206, so the set stays in its code page

not_code : (w : Code) (f : Field) → (f.label ≡ 9206 → ⊥) → line_names_code w f ≡ false
unfolding line_names_code
not_code w f h = rw (ne_eqb f.label 9206 h)

sum-no-code : (w : Code) (m : ℕ) → line_names_code w (sum_field m) ≡ false
sum-no-code w m = not_code w (sum_field m) (λ q. omega arith)

says-keep : (w : Code) (fs : List Field) (i : ℕ) (g : Field) → g.label ≡ label_at_line fs i → (g.label ≡ 9206 → ⊥) → names_code w (set fs i g) ≡ names_code w fs
unfolding names_code
says-keep w [] i g e h = refl
says-keep w (f ∷ fs) zero g e h = rw (not_code w g h, not_code w f (λ q. h (e ∙ q)))
says-keep w (f ∷ fs) (suc i) g e h = ap (λ (b : Bool). line_names_code w f || b) (says-keep w fs i g e h)

says-resum : (w : Code) (fs : List Field) → label_at_line fs 1 ≡ 8100 → names_code w (resum fs) ≡ names_code w fs
unfolding names_code
says-resum w [] e = refl
says-resum w (f ∷ []) e = absurd (omega arith)
says-resum w (f ∷ x ∷ fs) e = rw (not_code w x (λ q. omega arith)) (ap (λ (b : Bool). line_names_code w f || (b || names_code w fs)) (sum-no-code w _))

same_code : (w : Code) (fs gs : List Field) → labels gs ≡ labels fs → names_code w gs ≡ names_code w fs → in_code w gs ≡ in_code w fs
unfolding in_code
same_code Page437 fs gs l s = rw (s, l)
same_code Page1252 fs gs l s = s

-- the first two lines are never corrected
from-third : (fs : List Field) (n : ℕ) (c : List ℕ) → Ruled fs → Change fs n c → 3 ≤ n
from-third fs zero c r ch = absurd (omega (arith, ch.least))
from-third fs (suc zero) c r ch = absurd (true≢false (rw (begins-of fs r.begins).first-label at ch.free))
from-third fs (suc (suc zero)) c r ch = absurd (true≢false (rw (begins-of fs r.begins).second-label at ch.free))
from-third fs (suc (suc (suc n))) c r ch = omega arith

-- and neither is 9206
not-charset : (fs : List Field) (n : ℕ) (c : List ℕ) → Change fs n c → label_at_line fs (pred n) ≡ 9206 → ⊥
not-charset fs n c ch q = true≢false (rw q at ch.free)

-- ---- every line changed by itself

map-set : (g : Field → Field) (fs : List Field) (i : ℕ) (f : Field) → map g (set fs i f) ≡ set (map g fs) i (g f)
map-set g [] i f = refl
map-set g (x ∷ fs) zero f = refl
map-set g (x ∷ fs) (suc i) f = ap (λ (l : List Field). g x ∷ l) (map-set g fs i f)

-- line 2 is computed from the others
resum-map : (g : Field → Field) (fs : List Field) → resum (map g (resum fs)) ≡ resum (map g fs)
resum-map g [] = refl
resum-map g (f ∷ []) = refl
resum-map g (f ∷ x ∷ fs) = refl

-- a correction to d of the lines hs is without fault, and gives the lines ks
pub record Corrects (hs : List Field) (n : ℕ) (d : List ℕ) (ks : List Field) : Type 0 where
  pub asked : Change hs n d
  pub lines-so : changed hs n d ≡ ks

-- g makes of a new content c, under the label of its line, the content d
module _ (g : Field → Field) (a : Alters g) (fs : List Field) (n : ℕ) (c d : List ℕ) (ch : Change fs n c) where
  label-map : label_at_line (map g fs) (pred n) ≡ label_at_line fs (pred n)
  label-map = ap (λ (f : Field). f.label) (line-map g a fs (pred n)) ∙ a.label-so _

  change-map : profile (map g fs) ≡ profile fs → High d → fits (profile fs) (field (label_at_line fs (pred n)) d) ≡ true → (seven_bit (map g fs) ≡ true → Plain d)
      → Change (map g fs) n d
  change-map p h r s = record {
    least = ch.least;
    most = rw (length-map fs g) ch.most;
    free = rw label-map ch.free;
    high = h;
    right = rw (label-map, p) r;
    plain = s;
  }

  changed-map : g (field (label_at_line fs (pred n)) c) ≡ field (label_at_line fs (pred n)) d → Standing (map g (changed fs n c)) → changed (map g fs) n d ≡ map g (changed fs n c)
  changed-map e st =
      let l : ℕ = label_at_line fs (pred n) in
      let new : map g (recontent fs (pred n) c) ≡ recontent (map g fs) (pred n) d =
      map-set g fs (pred n) (field l c) ∙ ap (set (map g fs) (pred n)) (e ∙ ap (λ (k : ℕ). field k d) (sym label-map)) in
      sym (sum_back (map g (changed fs n c)) st.right ∙ (resum-map g (recontent fs (pred n) c) ∙ ap resum new))

module _ (w : Code) where
  -- all contents recoded
  recoded-corrects : (fs : List Field) (n : ℕ) (c : List ℕ) → Standing fs → seven_bit fs ≡ false → Change fs n c
      → Corrects (map (recode_field w) fs) n (map (recoded w) c) (map (recode_field w) (changed fs n c))
  recoded-corrects fs n c st s ch = record {
    asked = change-map (recode_field w) (alters-recode w) fs n c (map (recoded w) c) ch (profile-recoded w fs) (high-kept w c ch.high)
        (fits_kept w (profile fs) (field (label_at_line fs (pred n)) c) ∙ ch.right) (λ b. absurd (true≢false (sym b ∙ (seven-kept w fs ∙ s))));
    lines-so = changed-map (recode_field w) (alters-recode w) fs n c (map (recoded w) c) ch refl (recoded-standing w (changed fs n c) (still-standing fs n c st ch));
  }

  -- 9206 given another mark
  marked-corrects : (fs : List Field) (n : ℕ) (c : List ℕ) → Standing fs → Change fs n c → Corrects (map (charset_field w) fs) n c (map (charset_field w) (changed fs n c))
  marked-corrects fs n c st ch = record {
    asked = change-map (charset_field w) (alters-mark w) fs n c c ch (profile-marked w fs (ruled fs st.right).0) ch.high ch.right
        (λ b. absurd (true≢false (sym b ∙ not-seven-marked w fs)));
    lines-so = changed-map (charset_field w) (alters-mark w) fs n c c ch (mark-other w (field (label_at_line fs (pred n)) c) (not-charset fs n c ch))
        (marked-standing w (changed fs n c) (still-standing fs n c st ch));
  }

  -- a line gained as line 3
  gained-corrects : (fs : List Field) (n : ℕ) (c : List ℕ) → has_charset fs ≡ false → 3 ≤ n → Change fs n c
      → Corrects (resum (with_charset w fs)) (suc n) c (resum (with_charset w (changed fs n c)))
  unfolding profile
  gained-corrects [] n c q l ch = absurd (omega (arith, ch.most))
  gained-corrects (f ∷ []) n c q l ch = absurd (omega (arith, ch.most))
  gained-corrects (f ∷ x ∷ fs) zero c q l ch = absurd (omega arith)
  gained-corrects (f ∷ x ∷ fs) (suc zero) c q l ch = absurd (omega arith)
  gained-corrects (f ∷ x ∷ fs) (suc (suc zero)) c q l ch = absurd (omega arith)
  gained-corrects (f ∷ x ∷ fs) (suc (suc (suc n))) c q l ch =
      let all : List Field = f ∷ x ∷ fs in
      let eight : seven_bit (resum (with_charset w all)) ≡ false = not-seven-bits (charset_of w) (resum (with_charset w all)) (mark-eight w) (gained-hold w all (no-charset all q)) in
      record {
        asked = record {
          least = omega arith;
          most = omega (arith, ch.most);
          free = ch.free;
          high = ch.high;
          right = ch.right;
          plain = λ b. absurd (true≢false (sym b ∙ eight));
        };
        lines-so = refl;
      }

-- ---- the lines are the same in either order

module _ (w : Code) (fs : List Field) (n : ℕ) (c : List ℕ) (st : Standing fs) (ch : Change fs n c) where
  says-changed : names_code w (changed fs n c) ≡ names_code w fs
  says-changed =
      let up = upright-recontent fs n c (upright fs st) ch in
      says-resum w (recontent fs (pred n) c) (begins-of (recontent fs (pred n) c) up.rules.begins).second-label
      ∙ says-keep w fs (pred n) (field (label_at_line fs (pred n)) c) refl (not-charset fs n c ch)

  pub code-changed : in_code w (changed fs n c) ≡ in_code w fs
  code-changed = same_code w fs (changed fs n c) (alike-changed fs n c st ch).labels-so says-changed

  pub charset-changed : has_charset (changed fs n c) ≡ has_charset fs
  charset-changed = ap (elem 9206) (alike-changed fs n c st ch).labels-so

  -- of the recoded lines: the correction is without fault, and gives what recoding gives of the corrected lines
  pub either-lines : Corrects (recode_lines w fs) (moved_on w fs n) (content_into w fs c) (recode_lines w (changed fs n c))
  unfolding recode_lines all_recoded
  either-lines = rw (code-changed, (alike-changed fs n c st ch).seven-so, charset-changed) (go (in_code w fs) (seven_bit fs) refl (has_charset fs) refl)
    where
      hs : List Field
      hs = changed fs n c

      all : seven_bit fs ≡ false → Corrects (map (recode_field w) fs) n (map (recoded w) c) (map (recode_field w) hs)
      all q = recoded-corrects w fs n c st q ch

      go : (i s : Bool) → seven_bit fs ≡ s → (h : Bool) → has_charset fs ≡ h
          → Corrects (cond i fs (cond s (map (charset_field w) fs) (cond h (map (charset_field w) (map (recode_field w) fs)) (resum (with_charset w (map (recode_field w) fs))))))
          (cond (not (i || h) && leb 3 n) (n + 1) n) (cond (not (i || s)) (map (recoded w) c) c)
          (cond i hs (cond s (map (charset_field w) hs) (cond h (map (charset_field w) (map (recode_field w) hs)) (resum (with_charset w (map (recode_field w) hs))))))
      go true s q h r = record { asked = ch; lines-so = refl }
      go false true q true r = marked-corrects w fs n c st ch
      go false true q false r = absurd (true≢false (sym (seven-has fs q) ∙ r))
      go false false q true r =
          rw (← (all q).lines-so) (marked-corrects w (map (recode_field w) fs) n (map (recoded w) c) (recoded-standing w fs st) (all q).asked)
      go false false q false r =
          let l : 3 ≤ n = from-third fs n c (ruled fs st.right).0 ch in
          let next : n + 1 ≡ suc n = omega arith in
          rw (le-leb 3 n l, next, ← (all q).lines-so) (gained-corrects w (map (recode_field w) fs) n (map (recoded w) c) (charset-kept w fs ∙ r) l (all q).asked)

-- ---- a new content of which every byte has a character adds no fault

told-resum : (w : Code) (fs : List Field) → AllTold w fs → AllTold w (resum fs)
told-resum w [] h = tt
told-resum w (f ∷ []) h = (h.0, (sum_told w _, tt))
told-resum w (f ∷ x ∷ fs) h = (h.0, (sum_told w _, h.1.1))

pub recode-corrected : (w : Code) (fs : List Field) (n : ℕ) (c : List ℕ) → Standing fs → Change fs n c → (all_recoded w fs ≡ true → Told w c) → recode_faults w fs ≡ []
    → recode_faults w (changed fs n c) ≡ []
unfolding recode_faults all_recoded
recode-corrected w fs n c st ch t e =
    let hs : List Field = changed fs n c in
    let like = alike-changed fs n c st ch in
    let a = append-none (added_faults w fs) _ e in
    let same : all_recoded w hs ≡ all_recoded w fs = rw (code-changed w fs n c st ch, like.seven-so) in
    none_both (added_faults w hs) _ (rw (code-changed w fs n c st ch, charset-changed w fs n c st ch, like.length-so) a.0)
    (if_none (all_recoded w hs) (no_character_from w 0 hs) (λ b.
    let was : all_recoded w fs ≡ true = sym same ∙ b in
    let told : AllTold w fs = unknown-back w 0 fs (if-back (all_recoded w fs) (no_character_from w 0 fs) a.1 was) in
    unknown-none w 0 hs (told-resum w (recontent fs (pred n) c) (every_set (λ f. Told w f.content) fs (pred n) _ (t was) told))))
