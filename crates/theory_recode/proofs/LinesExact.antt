-- The new lines: what recoding makes of the lines of a set is what RecodeRules says of them, and nothing else is.
use mathlib.Core.Path.{◌≡◌, refl, sym, ap, ◌∙◌, subst}
use mathlib.Core.Bool.{Bool, true, false, cond}
use mathlib.Core.List.{List, [], ◌∷◌, map}
use mathlib.Core.Logic.{inl, inr, ◌≢◌}
use Prim.Native.Nat.{ℕ, zero, suc, ◌+◌, ◌≤◌, ◌<◌}
use native.Mathlib.Omega.{arith}
use lib.Dec.{eqb}
use lib.ListN.{length, get_or, length-map}
use lib.Seq.{ext_get_or}
use borrow.Author.Tests.{eqb-true, eqb-false, eq-eqb, ne_eqb}
use Rattle.meaning.specs.Digits.{digits}
use Rattle.meaning.specs.Field.{Field, field, no_field, label_at_line, content_at_line}
use Rattle.meaning.specs.Lines.{line_size, size}
use Rattle.meaning.specs.Corrections.{resum}
use Rattle.meaning.proofs.FaultLaws.{Plain}
use Rattle.meaning_recode.specs.declared.Code.{Code}
use Rattle.meaning_recode.specs.Codes.{recoded}
use Rattle.meaning_recode.specs.Recoding.{charset_of, recode_field, charset_field, with_charset}
use Rattle.theory_recode.specs.RecodeRules.{code_digit, NamedAt, NoCharset, LineInPage, OnlyCharset, AllInPage, GainedLine}
use Rattle.theory_recode.proofs.ContentExact.{AllHave, LinesHave, get_d_map, in-page, page-has, page-only, plain-has, plain-stays}
use Rattle.theory_recode.proofs.CharsetExact.{mark-is, CharsetDigit, OneCharset}

-- ---- a line

named : (w : Code) → field 9206 (charset_of w) ≡ field 9206 (digits 1 (code_digit w))
named w = ap (field 9206) (mark-is w)

line-in-page : (w : Code) (f : Field) → AllHave w f.content → LineInPage w f (charset_field w (recode_field w f))
line-in-page w f h = go (eqb f.label 9206) refl
  where
    go : (b : Bool) → eqb f.label 9206 ≡ b → LineInPage w f (cond b (field 9206 (charset_of w)) (recode_field w f))
    go true p = record { charset = λ e. named w; label-stays = sym (eqb-true _ _ p); content-in-page = λ n. absurd (n (eqb-true _ _ p)) }
    go false p = record { charset = λ e. absurd (eqb-false _ _ p e); label-stays = refl; content-in-page = λ n. in-page w f.content h }

line-only : (w : Code) (f g : Field) → LineInPage w f g → g ≡ charset_field w (recode_field w f)
line-only w f g p = go (eqb f.label 9206) refl
  where
    go : (b : Bool) → eqb f.label 9206 ≡ b → g ≡ cond b (field 9206 (charset_of w)) (recode_field w f)
    go true q = p.charset (eqb-true _ _ q) ∙ sym (named w)
    go false q =
        let c : g.content ≡ map (recoded w) f.content = page-only w f.content g.content (p.content-in-page (eqb-false _ _ q)) in
        λ i. record { label = p.label-stays i; content = c i }

-- of a line that is not 9206
not-marked : (w : Code) (f : Field) → f.label ≢ 9206 → charset_field w (recode_field w f) ≡ recode_field w f
not-marked w f n = rw (ne_eqb f.label 9206 n) refl

digit-plain : (c : List ℕ) → CharsetDigit c → Plain c
digit-plain c (inl e) = subst Plain (sym e) (omega arith, tt)
digit-plain c (inr (inl e)) = subst Plain (sym e) (omega arith, tt)
digit-plain c (inr (inr e)) = subst Plain (sym e) (omega arith, tt)

-- ---- every line in the wanted code page

abbrev all_marked : Code → List Field → List Field
all_marked w fs = map (charset_field w) (map (recode_field w) fs)

marked-length : (w : Code) (fs : List Field) → length (all_marked w fs) ≡ length fs
marked-length w fs = length-map (map (recode_field w) fs) (charset_field w) ∙ length-map fs (recode_field w)

marked-at : (w : Code) (fs : List Field) (k : ℕ) → k < length fs → get_or (all_marked w fs) k no_field ≡ charset_field w (recode_field w (get_or fs k no_field))
marked-at w fs k l =
    get_d_map (charset_field w) (map (recode_field w) fs) k no_field no_field (omega (arith, length-map fs (recode_field w)))
    ∙ ap (charset_field w) (get_d_map (recode_field w) fs k no_field no_field l)

pub all-in-page : (w : Code) (fs : List Field) → LinesHave w fs → AllInPage w fs (all_marked w fs)
all-in-page w fs h = record {
  as_many = marked-length w fs;
  each = λ k l. subst (λ (g : Field). LineInPage w (get_or fs k no_field) g) (sym (marked-at w fs k l)) (line-in-page w (get_or fs k no_field) (h k l));
}

pub pages-only : (w : Code) (fs new : List Field) → AllInPage w fs new → new ≡ all_marked w fs
pages-only w fs new a = ext_get_or no_field new (all_marked w fs) (a.as_many ∙ sym (marked-length w fs)) each
  where
    each : (k : ℕ) → k < length new → get_or new k no_field ≡ get_or (all_marked w fs) k no_field
    each k l =
        let m : k < length fs = omega (arith, a.as_many) in
        line-only w (get_or fs k no_field) (get_or new k no_field) (a.each k m) ∙ sym (marked-at w fs k m)

pub pages-have : (w : Code) (fs new : List Field) → OneCharset fs → AllInPage w fs new → LinesHave w fs
pages-have w fs new o a k l = go (eqb (label_at_line fs k) 9206) refl
  where
    go : (b : Bool) → eqb (label_at_line fs k) 9206 ≡ b → AllHave w (content_at_line fs k)
    go true q = plain-has w (content_at_line fs k) (digit-plain (content_at_line fs k) (o.digit k l (eqb-true _ _ q)))
    go false q = page-has w (content_at_line fs k) (content_at_line new k) ((a.each k l).content-in-page (eqb-false _ _ q))

-- ---- only 9206 is new

marks : (w : Code) (fs : List Field) (k : ℕ) → label_at_line fs k ≡ 9206 → NamedAt w (map (charset_field w) fs) k
marks w [] k e = absurd (omega (arith, e))
marks w (f ∷ fs) zero e = rw (eq-eqb f.label 9206 e) (named w)
marks w (f ∷ fs) (suc k) e = marks w fs k e

stay : (w : Code) (fs : List Field) (k : ℕ) → label_at_line fs k ≢ 9206 → get_or (map (charset_field w) fs) k no_field ≡ get_or fs k no_field
stay w [] k n = refl
stay w (f ∷ fs) zero n = rw (ne_eqb f.label 9206 n) refl
stay w (f ∷ fs) (suc k) n = stay w fs k n

pub only-charset-new : (w : Code) (fs : List Field) → OnlyCharset w fs (map (charset_field w) fs)
only-charset-new w fs = record { as_many = length-map fs (charset_field w); charset = marks w fs; others-stay = stay w fs }

pub only_that : (w : Code) (fs new : List Field) → OnlyCharset w fs new → new ≡ map (charset_field w) fs
only_that w fs new x = ext_get_or no_field new (map (charset_field w) fs) (x.as_many ∙ sym (length-map fs (charset_field w))) (λ k l. each k (eqb (label_at_line fs k) 9206) refl)
  where
    each : (k : ℕ) (b : Bool) → eqb (label_at_line fs k) 9206 ≡ b → get_or new k no_field ≡ get_or (map (charset_field w) fs) k no_field
    each k true q = x.charset k (eqb-true _ _ q) ∙ sym (marks w fs k (eqb-true _ _ q))
    each k false q = x.others-stay k (eqb-false _ _ q) ∙ sym (stay w fs k (eqb-false _ _ q))

-- ---- a line gained

abbrev gained_lines : Code → List Field → List Field
gained_lines w fs = resum (with_charset w (map (recode_field w) fs))

-- the first two lines have no byte over 7Fh, and no line is 9206
module _ (w : Code) (f g : Field) (gs : List Field) (p : Plain f.content) (q : Plain g.content) (n : NoCharset (f ∷ g ∷ gs)) where
  abbrev all : List Field
  all = f ∷ g ∷ gs

  first-same : recode_field w f ≡ f
  first-same = ap (field f.label) (plain-stays w f.content p)

  later-at : (m : ℕ) → m < length gs → get_or (map (recode_field w) gs) m no_field ≡ charset_field w (recode_field w (get_or gs m no_field))
  later-at m l = get_d_map (recode_field w) gs m no_field no_field l ∙ sym (not-marked w (get_or gs m no_field) (n (suc (suc m)) (omega arith)))

  gains-line : LinesHave w all → GainedLine w all (gained_lines w all)
  gains-line h = record {
    one-more = ap (λ (k : ℕ). suc (suc (suc k))) (length-map gs (recode_field w));
    first-stays = first-same;
    new-sum = ap (λ (k : ℕ). field 8100 (digits 5 k)) (omega arith);
    charset = named w;
    each = each;
  }
    where
      each : (k : ℕ) → 2 ≤ k → k < length all → LineInPage w (get_or all k no_field) (get_or (gained_lines w all) (suc k) no_field)
      each zero a l = absurd (omega arith)
      each (suc zero) a l = absurd (omega arith)
      each (suc (suc m)) a l =
          subst (λ (x : Field). LineInPage w (get_or gs m no_field) x) (sym (later-at m (omega arith))) (line-in-page w (get_or gs m no_field) (h (suc (suc m)) l))

  gains-only : (new : List Field) → GainedLine w all new → new ≡ gained_lines w all
  gains-only [] x = absurd (omega (arith, x.one-more))
  gains-only (y ∷ []) x = absurd (omega (arith, x.one-more))
  gains-only (y ∷ z ∷ []) x = absurd (omega (arith, x.one-more))
  gains-only (y ∷ z ∷ v ∷ ys) x =
      let a : y ≡ recode_field w f = x.first-stays ∙ sym first-same in
      let c : v ≡ field 9206 (charset_of w) = x.charset ∙ sym (named w) in
      let e : ys ≡ map (recode_field w) gs =
      ext_get_or no_field ys (map (recode_field w) gs) (omega (arith, x.one-more, length-map gs (recode_field w))) each in
      let s : size (y ∷ z ∷ v ∷ ys) ≡ line_size (recode_field w f) + (14 + size (field 9206 (charset_of w) ∷ map (recode_field w) gs)) =
      omega (arith, ap line_size a, ap line_size x.new-sum, ap line_size c, ap size e) in
      let b : z ≡ field 8100 (digits 5 (line_size (recode_field w f) + (14 + size (field 9206 (charset_of w) ∷ map (recode_field w) gs)))) =
      x.new-sum ∙ ap (λ (k : ℕ). field 8100 (digits 5 k)) s in
      rw (a, b, c, e) refl
    where
      each : (m : ℕ) → m < length ys → get_or ys m no_field ≡ get_or (map (recode_field w) gs) m no_field
      each m l =
          let k : m < length gs = omega (arith, x.one-more) in
          line-only w (get_or gs m no_field) (get_or ys m no_field) (x.each (suc (suc m)) (omega arith) (omega arith)) ∙ sym (later-at m k)

  gains-have : (new : List Field) → GainedLine w all new → LinesHave w all
  gains-have new x zero l = plain-has w f.content p
  gains-have new x (suc zero) l = plain-has w g.content q
  gains-have new x (suc (suc m)) l =
      page-has w (content_at_line gs m) (content_at_line new (suc (suc (suc m)))) ((x.each (suc (suc m)) (omega arith) l).content-in-page (n (suc (suc m)) l))

-- of the lines of a set
pub record Fronted (fs : List Field) : Type 0 where
  pub two-lines : 2 ≤ length fs
  pub first_plain : Plain (content_at_line fs 0)
  pub second_plain : Plain (content_at_line fs 1)

pub gained-line : (w : Code) (fs : List Field) → Fronted fs → NoCharset fs → LinesHave w fs → GainedLine w fs (gained_lines w fs)
gained-line w [] t n h = absurd (omega (arith, t.two-lines))
gained-line w (f ∷ []) t n h = absurd (omega (arith, t.two-lines))
gained-line w (f ∷ g ∷ gs) t n h = gains-line w f g gs t.first_plain t.second_plain n h

pub gained-only : (w : Code) (fs new : List Field) → Fronted fs → NoCharset fs → GainedLine w fs new → new ≡ gained_lines w fs
gained-only w [] new t n x = absurd (omega (arith, t.two-lines))
gained-only w (f ∷ []) new t n x = absurd (omega (arith, t.two-lines))
gained-only w (f ∷ g ∷ gs) new t n x = gains-only w f g gs t.first_plain t.second_plain n new x

pub gained-have : (w : Code) (fs new : List Field) → Fronted fs → NoCharset fs → GainedLine w fs new → LinesHave w fs
gained-have w [] new t n x = absurd (omega (arith, t.two-lines))
gained-have w (f ∷ []) new t n x = absurd (omega (arith, t.two-lines))
gained-have w (f ∷ g ∷ gs) new t n x = gains-have w f g gs t.first_plain t.second_plain n new x
