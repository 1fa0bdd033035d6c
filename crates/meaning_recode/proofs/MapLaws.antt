-- Every line changed by itself, with its label, its fitting content and its size kept: an accepted set stays one. So it is when all contents are recoded, and when 9206 is given another mark.
use mathlib.Core.Path.{◌≡◌, refl, sym, ap, ap₂, ◌∙◌, subst}
use mathlib.Core.Bool.{Bool, true, false, cond, ◌&&◌}
use mathlib.Core.List.{List, [], ◌∷◌, ◌++◌, map, cons≢nil}
use Prim.Native.Nat.{ℕ, suc, ◌+◌, ◌≤◌}
use native.Mathlib.Omega.{arith}
use lib.Dec.{leb, eqb}
use lib.ListN.{length, drop, get_or, length-map, get_or-map}
use borrow.Author.Tests.{leb-true, leb-false, lt-leb, eqb-true, eqb-false, ne_eqb}
use Rattle.meaning.specs.Limits.{type_of}
use Rattle.meaning.specs.Digits.{digits, number, all_digits}
use Rattle.meaning.specs.Field.{Field, field, labels, elem, no_field, label_at_line, content_at_line}
use Rattle.meaning.specs.Refusals.{at_line, other_version}
use Rattle.meaning.specs.Lines.{size, most_seven_bits, high_bytes}
use Rattle.meaning.specs.Kinds.{same_bytes, of_kind, is_charset, first_is_in}
use Rattle.meaning.specs.FieldTable.{field_table, field_row_in, field_row, has_length, fits_row, fits_label}
use Rattle.meaning.specs.Tables.{row_label, find}
use Rattle.meaning.specs.Groups.{State, first, Role, unknown, strayed, at_set_level, member, role, next, label_faults}
use Rattle.meaning.specs.Rules.{type_digits, type_named, Profile, profile, rows_of, role_in, start_faults, fits, current, content_faults, content_rules, line_rules, rules_from}
use Rattle.meaning.specs.Rules.{says_seven_bit, seven_bit, high_from, high_faults, sum_faults}
use Rattle.meaning.proofs.Bools.{Every, and_left, and_right}
use Rattle.meaning.proofs.FaultLaws.{append-none, none_both, ask-last}
use Rattle.meaning.proofs.LineLaws.{Sound, NoStart}
use Rattle.meaning.proofs.FieldLaws.{sum_fits}
use Rattle.meaning.proofs.RuleLaws.{Fit, line-fits, line-keep, not-version, not-seven, Ruled, ruled, unruled, begins-of}
use Rattle.meaning.proofs.SetLaws.{Standing, second_fits}
use Rattle.meaning_recode.specs.declared.Code.{Code}
use Rattle.meaning_recode.specs.declared.Code.TheVariants.{Page437, Page1252}
use Rattle.meaning_recode.specs.Codes.{recoded}
use Rattle.meaning_recode.specs.Recoding.{charset_of, recode_field, charset_field}
use Rattle.meaning_recode.proofs.CodeLaws.{low-stays, high-stays}
use Rattle.meaning_recode.proofs.KindLaws.{all-digits-kept, digits-stay, length-kept, fits_kept, same_kept, current-kept, high-kept}
use Rattle.std.specs.Prelude.{None}

-- ---- a line that keeps the rules has a content that fits and is current

line-current : (o : Role) (p : Profile) (st : State) (k : ℕ) (f : Field) → line_rules o p st k f ≡ [] → fits p f ≡ true → current p f ≡ true
unfolding line_rules label_faults content_rules content_faults
line-current unknown p st k f e h = absurd (cons≢nil e)
line-current strayed p st k f e h = absurd (cons≢nil e)
line-current (at_set_level r) p st k f e h =
    ask-last (current p f) (at_line other_version k f.label) (rw h at (append-none (label_faults (at_set_level r) st k f.label) (content_faults p k f) e).1)
line-current (member r) p st k f e h =
    ask-last (current p f) (at_line other_version k f.label) (rw h at (append-none (label_faults (member r) st k f.label) (content_faults p k f) e).1)

pub line-fit : (o : Role) (p : Profile) (st : State) (k : ℕ) (f : Field) → line_rules o p st k f ≡ [] → Fit p f
line-fit o p st k f e = let h = line-fits o p st k f e in record { right = h; version-right = line-current o p st k f e h }

-- ---- every line changed by itself

-- what the change keeps of a line
pub record Alters (g : Field → Field) : Type 0 where
  pub label-so : (f : Field) → (g f).label ≡ f.label
  pub fit-so : (p : Profile) (f : Field) → Fit p f → Fit p (g f)
  pub size-so : (p : Profile) (f : Field) → fits p f ≡ true → length (g f).content ≡ length f.content
  pub sound-so : (f : Field) → Sound f → Sound (g f)
  pub none_so : g no_field ≡ no_field

module _ (g : Field → Field) (a : Alters g) where
  pub map-labels : (fs : List Field) → labels (map g fs) ≡ labels fs
  map-labels [] = refl
  map-labels (f ∷ fs) = ap₂ (λ (l : ℕ) (ls : List ℕ). l ∷ ls) (a.label-so f) (map-labels fs)

  pub line-map : (fs : List Field) (k : ℕ) → get_or (map g fs) k no_field ≡ g (get_or fs k no_field)
  line-map fs k = ap (λ (d : Field). get_or (map g fs) k d) (sym a.none_so) ∙ get_or-map g fs k no_field

  pub content-map : (fs : List Field) (k : ℕ) → content_at_line (map g fs) k ≡ (g (get_or fs k no_field)).content
  content-map fs k = ap (λ (f : Field). f.content) (line-map fs k)

  rules-map : (p : Profile) (st : State) (k : ℕ) (fs : List Field) → rules_from p st k fs ≡ [] → rules_from p st k (map g fs) ≡ []
  unfolding rules_from
  rules-map p st k [] e = refl
  rules-map p st k (f ∷ fs) e =
      let x = append-none (line_rules (role_in p st f) p st k f) _ e in
      let o : Role = role_in p st f in
      let same : o ≡ role_in p st (g f) = ap (λ (l : ℕ). role (find (rows_of p) l) st.header l) (sym (a.label-so f)) in
      let fit : Fit p (g f) = a.fit-so p f (line-fit o p st k f x.0) in
      let rest : rules_from p (next o st k f.label) (k + 1) (map g fs) ≡ [] = rules-map p (next o st k f.label) (k + 1) fs x.1 in
      let rest' : rules_from p (next o st k (g f).label) (k + 1) (map g fs) ≡ [] =
      subst (λ (l : ℕ). rules_from p (next o st k l) (k + 1) (map g fs) ≡ []) (sym (a.label-so f)) rest in
      subst (λ (r : Role). line_rules r p st k (g f) ++ rules_from p (next r st k (g f).label) (k + 1) (map g fs) ≡ []) same
      (none_both _ _ (line-keep o p st k f (g f) (a.label-so f) fit x.0) rest')

  pub size-map : (p : Profile) (st : State) (k : ℕ) (fs : List Field) → rules_from p st k fs ≡ [] → size (map g fs) ≡ size fs
  unfolding rules_from
  size-map p st k [] e = refl
  size-map p st k (f ∷ fs) e =
      let x = append-none (line_rules (role_in p st f) p st k f) _ e in
      let one = a.size-so p f (line-fits (role_in p st f) p st k f x.0) in
      let others = size-map p (next (role_in p st f) st k f.label) (k + 1) fs x.1 in
      omega arith

  start-map : (fs : List Field) → profile (map g fs) ≡ profile fs → start_faults (map g fs) ≡ start_faults fs
  unfolding start_faults
  start-map fs p = rw (map-labels fs, p)

  -- every rule but the sum
  pub ruled-map : (fs : List Field) → profile (map g fs) ≡ profile fs → high_faults (map g fs) ≡ [] → Ruled fs → Ruled (map g fs)
  ruled-map fs p h r = record {
    begins = rw (start-map fs p) r.begins;
    each-line = rw p (rules-map (profile fs) first 0 fs r.each-line);
    none-missing = rw (p, map-labels fs) r.none-missing;
    none-high = h;
  }

  sound-map : (fs : List Field) → Every Sound fs → Every Sound (map g fs)
  sound-map [] h = tt
  sound-map (f ∷ fs) h = (a.sound-so f h.0, sound-map fs h.1)

  later-map : (fs : List Field) → Every NoStart fs → Every NoStart (map g fs)
  later-map [] h = tt
  later-map (f ∷ fs) h = (λ e. h.0 (sym (a.label-so f) ∙ e), later-map fs h.1)

  alone-map : (fs : List Field) → Every NoStart (drop 1 fs) → Every NoStart (drop 1 (map g fs))
  alone-map [] h = tt
  alone-map (f ∷ fs) h = later-map fs h

  sum-map : (fs : List Field) → Ruled fs → content_at_line (map g fs) 1 ≡ content_at_line fs 1 → sum_faults fs ≡ [] → sum_faults (map g fs) ≡ []
  unfolding sum_faults
  sum-map fs r c e = rw (c, size-map (profile fs) first 0 fs r.each-line) e

  -- an accepted set stays one if what its first two lines say stays, and no byte over 7Fh comes into a set with seven bits
  pub standing-map : (fs : List Field) → profile (map g fs) ≡ profile fs → content_at_line (map g fs) 1 ≡ content_at_line fs 1 → high_faults (map g fs) ≡ [] → Standing fs
      → Standing (map g fs)
  standing-map fs p c h st =
      let r = ruled fs st.right in
      record {
        sound = sound-map fs st.sound;
        alone = alone-map fs st.alone;
        few = rw (length-map fs g) st.few;
        right = unruled (map g fs) (ruled-map fs p h r.0) (sum-map fs r.0 c r.1);
      }

-- ---- all contents recoded

module _ (w : Code) where
  pub alters-recode : Alters (recode_field w)
  alters-recode = record {
    label-so = λ f. refl;
    fit-so = λ p f h. record { right = fits_kept w p f ∙ h.right; version-right = current-kept w p f ∙ h.version-right };
    size-so = λ p f h. length-kept w f.content;
    sound-so = λ f h. record {
      label-fits = h.label-fits;
      some_byte = rw (length-kept w f.content) h.some_byte;
      not-long = rw (length-kept w f.content) h.not-long;
      no-low = high-kept w f.content h.no-low;
    };
    none_so = refl;
  }

  type-kept : (c : List ℕ) → type_named (map (recoded w) c) ≡ type_named c
  unfolding type_named
  type-kept c = rw (length-kept w c, all-digits-kept w c) (go (eqb (length c) type_digits) (all_digits c) refl)
    where
      go : (s t : Bool) → all_digits c ≡ t → cond (s && t) (type_of (number (map (recoded w) c))) None ≡ cond (s && t) (type_of (number c)) None
      go true true e = rw (digits-stay w c e) refl
      go true false e = refl
      go false t e = refl

  pub profile-recoded : (fs : List Field) → profile (map (recode_field w) fs) ≡ profile fs
  unfolding profile
  profile-recoded fs = rw (content-map (recode_field w) alters-recode fs 0, type-kept (content_at_line fs 0)) refl

  over-kept : (b : ℕ) → leb (recoded w b) most_seven_bits ≡ leb b most_seven_bits
  over-kept b = go (leb 128 b) refl
    where
      go : (t : Bool) → leb 128 b ≡ t → leb (recoded w b) most_seven_bits ≡ leb b most_seven_bits
      go true e =
          let h = leb-true 128 b e in
          lt-leb (recoded w b) most_seven_bits (omega (arith, (high-stays w b h).0)) ∙ sym (lt-leb b most_seven_bits (omega arith))
      go false e = rw (low-stays w b (leb-false 128 b e))

  highs-kept : (k i : ℕ) (c : List ℕ) → high_bytes k i (map (recoded w) c) ≡ high_bytes k i c
  highs-kept k i [] = refl
  highs-kept k i (b ∷ c) = rw (over-kept b, highs-kept k (suc i) c)

  high-from-kept : (k : ℕ) (fs : List Field) → high_from k (map (recode_field w) fs) ≡ high_from k fs
  unfolding high_from
  high-from-kept k [] = refl
  high-from-kept k (f ∷ fs) = rw (highs-kept k 0 f.content, high-from-kept (k + 1) fs)

  pub seven-kept : (fs : List Field) → seven_bit (map (recode_field w) fs) ≡ seven_bit fs
  unfolding seven_bit says_seven_bit
  seven-kept [] = refl
  seven-kept (f ∷ fs) = rw (same_kept w f.content (digits 1 1) (omega arith, tt), seven-kept fs)

  high-faults-kept : (fs : List Field) → high_faults (map (recode_field w) fs) ≡ high_faults fs
  unfolding high_faults
  high-faults-kept fs = rw (seven-kept fs, high-from-kept 0 fs)

  pub ruled-recoded : (fs : List Field) → Ruled fs → Ruled (map (recode_field w) fs)
  ruled-recoded fs r = ruled-map (recode_field w) alters-recode fs (profile-recoded fs) (high-faults-kept fs ∙ r.none-high) r

  -- the digits of 8100 stay
  sum-recoded : (fs : List Field) → Ruled fs → content_at_line (map (recode_field w) fs) 1 ≡ content_at_line fs 1
  sum-recoded [] r = refl
  sum-recoded (f ∷ []) r = refl
  sum-recoded (f ∷ x ∷ fs) r =
      let all : List Field = f ∷ x ∷ fs in
      let l : x.label ≡ 8100 = (begins-of all r.begins).second-label in
      let h : fits (profile all) (field 8100 x.content) ≡ true =
      subst (λ (n : ℕ). fits (profile all) (field n x.content) ≡ true) l (second_fits (profile all) f x fs r.each-line) in
      digits-stay w x.content (sum_fits (profile all) x.content h).all-digits

  pub recoded-standing : (fs : List Field) → Standing fs → Standing (map (recode_field w) fs)
  recoded-standing fs st =
      let r : Ruled fs = (ruled fs st.right).0 in
      standing-map (recode_field w) alters-recode fs (profile-recoded fs) (sum-recoded fs r) (high-faults-kept fs ∙ r.none-high) st

-- ---- 9206 with another mark

-- a line that is not 9206 stays
pub mark-other : (w : Code) (f : Field) → (f.label ≡ 9206 → ⊥) → charset_field w f ≡ f
mark-other w f n = rw (ne_eqb f.label 9206 n)

pub one-byte : (w : Code) → length (charset_of w) ≡ 1
one-byte Page437 = refl
one-byte Page1252 = refl

mark-fits : (w : Code) (p : Profile) → fits p (field 9206 (charset_of w)) ≡ true
unfolding fits fits_label fits_row field_row field_row_in field_table row_label has_length of_kind is_charset first_is_in elem
mark-fits Page437 p = refl
mark-fits Page1252 p = refl

pub mark-sound : (w : Code) → Sound (field 9206 (charset_of w))
mark-sound Page437 = omega arith
mark-sound Page1252 = omega arith

-- no set with this mark has seven bits
pub mark-eight : (w : Code) → same_bytes (charset_of w) (digits 1 1) ≡ false
unfolding same_bytes
mark-eight Page437 = refl
mark-eight Page1252 = refl

-- a content of 9206 that fits is one byte
charset-one : (p : Profile) (c : List ℕ) → fits p (field 9206 c) ≡ true → length c ≡ 1
unfolding fits fits_label fits_row field_row field_row_in field_table row_label has_length
charset-one p c e =
    let s : leb 1 (length c) && leb (length c) 1 ≡ true = and_left _ _ e in
    let least : 1 ≤ length c = leb-true 1 (length c) (and_left _ _ s) in
    let most : length c ≤ 1 = leb-true (length c) 1 (and_right (leb 1 (length c)) _ s) in
    omega arith

module _ (w : Code) where
  -- what holds of a line that is 9206 with the mark, and of the line as it was, holds of the line after
  pub pick : (P : Field → Type 0) (f : Field) → (f.label ≡ 9206 → P (field 9206 (charset_of w))) → ((f.label ≡ 9206 → ⊥) → P f) → P (charset_field w f)
  pick P f marked as_it_was = go (eqb f.label 9206) refl
    where
      go : (t : Bool) → eqb f.label 9206 ≡ t → P (cond t (field 9206 (charset_of w)) f)
      go true e = marked (eqb-true f.label 9206 e)
      go false e = as_it_was (eqb-false f.label 9206 e)

  mark-size : (p : Profile) (f : Field) → fits p f ≡ true → f.label ≡ 9206 → length (charset_of w) ≡ length f.content
  mark-size p f h e = one-byte w ∙ sym (charset-one p f.content (subst (λ (l : ℕ). fits p (field l f.content) ≡ true) e h))

  pub alters-mark : Alters (charset_field w)
  alters-mark = record {
    label-so = λ f. pick (λ (x : Field). x.label ≡ f.label) f (λ e. sym e) (λ n. refl);
    fit-so = λ p f h.
        pick (Fit p) f (λ e. record { right = mark-fits w p; version-right = not-version p (field 9206 (charset_of w)) (λ q. omega arith) }) (λ n. h);
    size-so = λ p f h. pick (λ (x : Field). length x.content ≡ length f.content) f (mark-size p f h) (λ n. refl);
    sound-so = λ f h. pick Sound f (λ e. mark-sound w) (λ n. h);
    none_so = refl;
  }

  says-not : (f : Field) → says_seven_bit (charset_field w f) ≡ false
  unfolding says_seven_bit
  says-not f = pick (λ (x : Field). says_seven_bit x ≡ false) f (λ e. mark-eight w) (λ n. not-seven f n)

  pub not-seven-marked : (fs : List Field) → seven_bit (map (charset_field w) fs) ≡ false
  unfolding seven_bit
  not-seven-marked [] = refl
  not-seven-marked (f ∷ fs) = rw (says-not f, not-seven-marked fs)

  high-marked : (fs : List Field) → high_faults (map (charset_field w) fs) ≡ []
  unfolding high_faults
  high-marked fs = rw (not-seven-marked fs)

  -- a line that is not 9206 keeps its content
  content-marked : (fs : List Field) (k : ℕ) → (label_at_line fs k ≡ 9206 → ⊥) → content_at_line (map (charset_field w) fs) k ≡ content_at_line fs k
  content-marked fs k n = content-map (charset_field w) alters-mark fs k ∙ ap (λ (f : Field). f.content) (mark-other w (get_or fs k no_field) n)

  pub profile-marked : (fs : List Field) → Ruled fs → profile (map (charset_field w) fs) ≡ profile fs
  unfolding profile
  profile-marked fs r = rw (content-marked fs 0 (λ q. omega (arith, (begins-of fs r.begins).first-label)))

  pub ruled-marked : (fs : List Field) → Ruled fs → Ruled (map (charset_field w) fs)
  ruled-marked fs r = ruled-map (charset_field w) alters-mark fs (profile-marked fs r) (high-marked fs) r

  pub marked-standing : (fs : List Field) → Standing fs → Standing (map (charset_field w) fs)
  marked-standing fs st =
      let r : Ruled fs = (ruled fs st.right).0 in
      let second = content-marked fs 1 (λ q. omega (arith, (begins-of fs r.begins).second-label)) in
      standing-map (charset_field w) alters-mark fs (profile-marked fs r) second (high-marked fs) st
