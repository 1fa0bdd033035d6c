-- Corrections: exactly when one is made and what it leaves; that an accepted set stays one, with its labels and its profile; that two commute.
use mathlib.Core.Path.{◌≡◌, refl, sym, ap, ◌∙◌}
use mathlib.Core.Bool.{true, false, not, ◌&&◌, true≢false}
use mathlib.Core.List.{List, [], ◌∷◌, ◌++◌}
use Prim.Native.Nat.{ℕ, zero, suc, pred, ◌+◌, ◌-◌, ◌≤◌}
use native.Mathlib.Omega.{arith}
use lib.Dec.{leb}
use lib.ListN.{length, take, drop, get_or, set, length-append, length-set, length-replicate, replicate, get_or-map}
use lib.Seq.{set_comm, get_or-set_other, take_at}
use borrow.Author.Tests.{leb-true, le-leb, eq-eqb}
use Rattle.meaning.specs.Limits.{max_lines, max_set_bytes}
use Rattle.meaning.specs.Digits.{digits}
use Rattle.meaning.specs.Field.{Field, field, labels, no_field, label_at_line, is_nil}
use Rattle.meaning.specs.Refusals.{Fault, done, then_to, verdict, refusal, bad_use}
use Rattle.meaning.specs.Pieces.{Parsed, parsed}
use Rattle.meaning.specs.Lines.{line_size, size, render, low_bytes, high_bytes}
use Rattle.meaning.specs.Rules.{Profile, profile, fits, seven_bit, sum_faults}
use Rattle.meaning.specs.Reading.{read}
use Rattle.meaning.specs.Lists.{sum_digits, sum_field, set_with_room}
use Rattle.meaning.specs.Corrections.{fixed, alone_faults, change_faults, in_change, recontent, resum, changed, correct_lines, correct}
use Rattle.meaning.specs.Answers.{bytes_left}
use Rattle.meaning.proofs.Bools.{nil_is, and_left, and_right, not-true, Every, every_set, every-at}
use Rattle.meaning.proofs.DigitLaws.{number_digits, digits-all, plain-digits}
use Rattle.meaning.proofs.FaultLaws.{ask-none, append-none, High, lows-back, lows-none, Plain, highs-none, highs-back, if_none, if-back, done-same, cond-done, then_to-done}
use Rattle.meaning.proofs.FaultLaws.{verdict-done, with_room-done}
use Rattle.meaning.proofs.LineLaws.{Sound, NoStart, length-render}
use Rattle.meaning.proofs.FieldLaws.{fits-short, fits_sum}
use Rattle.meaning.proofs.RuleLaws.{Fit, not-version, labels-keep, profile-keep, seven-keep, Ruled, ruled, unruled, ruled-keep, begins-of}
use Rattle.meaning.proofs.SetLaws.{Standing, accepted, read-render}
use Rattle.meaning.proofs.SizeLaws.{ruled-total}

-- ---- lists alone: the sum is computed from the other lines, so two contents may be replaced in either order

pub resum-set : (fs : List Field) (k : ℕ) (g : Field) → (1 ≡ k → ⊥) → resum (set (resum fs) k g) ≡ resum (set fs k g)
resum-set [] k g h = refl
resum-set (f ∷ []) zero g h = refl
resum-set (f ∷ []) (suc zero) g h = absurd (h refl)
resum-set (f ∷ []) (suc (suc k)) g h = refl
resum-set (f ∷ x ∷ fs) zero g h = refl
resum-set (f ∷ x ∷ fs) (suc zero) g h = absurd (h refl)
resum-set (f ∷ x ∷ fs) (suc (suc k)) g h = refl

pub line-resum : (fs : List Field) (k : ℕ) → (1 ≡ k → ⊥) → get_or (resum fs) k no_field ≡ get_or fs k no_field
line-resum [] k h = refl
line-resum (f ∷ []) zero h = refl
line-resum (f ∷ []) (suc zero) h = absurd (h refl)
line-resum (f ∷ []) (suc (suc k)) h = refl
line-resum (f ∷ x ∷ fs) zero h = refl
line-resum (f ∷ x ∷ fs) (suc zero) h = absurd (h refl)
line-resum (f ∷ x ∷ fs) (suc (suc k)) h = refl

label-resum : (fs : List Field) (k : ℕ) → (1 ≡ k → ⊥) → label_at_line (resum fs) k ≡ label_at_line fs k
label-resum fs k h = ap (λ (f : Field). f.label) (line-resum fs k h)

label-set : (fs : List Field) (i j : ℕ) (g : Field) → (j ≡ i → ⊥) → label_at_line (set fs i g) j ≡ label_at_line fs j
label-set fs i j g h = ap (λ (f : Field). f.label) (get_or-set_other fs i j g no_field h)

-- the sum brought up to date after each of two new contents, or only after both: the lines are the same
pub twice : (fs : List Field) (i j : ℕ) (c d : List ℕ) → (1 ≡ j → ⊥)
    → resum (recontent (resum (recontent fs i c)) j d) ≡ resum (recontent (recontent fs i c) j d)
twice fs i j c d hj =
    ap (λ (l : ℕ). resum (set (resum (recontent fs i c)) j (field l d))) (label-resum (recontent fs i c) j hj)
    ∙ resum-set (recontent fs i c) j (field (label_at_line (recontent fs i c) j) d) hj

pub recontent-comm : (fs : List Field) (i j : ℕ) (c d : List ℕ) → (i ≡ j → ⊥) → recontent (recontent fs i c) j d ≡ recontent (recontent fs j d) i c
recontent-comm fs i j c d n =
    ap (λ (l : ℕ). set (recontent fs i c) j (field l d)) (label-set fs i j (field (label_at_line fs i) c) (λ q. n (sym q)))
    ∙ (set_comm fs i j (field (label_at_line fs i) c) (field (label_at_line fs j) d) n
    ∙ ap (λ (l : ℕ). set (recontent fs j d) i (field l c)) (sym (label-set fs j i (field (label_at_line fs j) d) n)))

-- ---- a correction without faults, as facts

pub record Change (fs : List Field) (n : ℕ) (c : List ℕ) : Type 0 where
  pub least : 1 ≤ n
  pub most : n ≤ length fs
  pub free : fixed (label_at_line fs (pred n)) ≡ false
  pub high : High c
  pub right : fits (profile fs) (field (label_at_line fs (pred n)) c) ≡ true
  pub plain : seven_bit fs ≡ true → Plain c

pub change : (fs : List Field) (n : ℕ) (c : List ℕ) → change_faults fs n c ≡ [] → Change fs n c
unfolding change_faults
change fs n c e =
    let x = ask-none (leb 1 n && leb n (length fs)) _ _ e in
    let y = ask-none (not (fixed (label_at_line fs (pred n)))) _ _ x.1 in
    let z = append-none (low_bytes (pred n) 0 c) _ y.1 in
    let w = ask-none (fits (profile fs) (field (label_at_line fs (pred n)) c)) _ _ z.1 in
    record {
      least = leb-true 1 n (and_left (leb 1 n) _ x.0);
      most = leb-true n (length fs) (and_right (leb 1 n) _ x.0);
      free = not-true _ y.0;
      high = lows-back (pred n) 0 c z.0;
      right = w.0;
      plain = λ b. highs-back (pred n) 0 c (if-back (seven_bit fs) (high_bytes (pred n) 0 c) w.1 b);
    }

pub no-change-faults : (fs : List Field) (n : ℕ) (c : List ℕ) → Change fs n c → change_faults fs n c ≡ []
unfolding change_faults
no-change-faults fs n c ch =
    rw (le-leb 1 n ch.least, le-leb n (length fs) ch.most, ch.free, lows-none (pred n) 0 c ch.high, ch.right)
    (if_none (seven_bit fs) (high_bytes (pred n) 0 c) (λ b. highs-none (pred n) 0 c (ch.plain b)))

not-fixed : (l m : ℕ) → fixed m ≡ true → fixed l ≡ false → l ≡ m → ⊥
not-fixed l m t e q = true≢false (sym t ∙ (ap fixed (sym q) ∙ e))

-- ---- acceptance is kept. First everything but the sum

pub record Upright (fs : List Field) : Type 0 where
  pub sound : Every Sound fs
  pub alone : Every NoStart (drop 1 fs)
  pub few : length fs ≤ max_lines
  pub rules : Ruled fs

pub upright : (fs : List Field) → Standing fs → Upright fs
upright fs st = record { sound = st.sound; alone = st.alone; few = st.few; rules = (ruled fs st.right).0 }

-- what a correction depends on: the labels, the profile, whether the set has seven bits, and the number of lines
pub record Alike (fs gs : List Field) : Type 0 where
  pub labels-so : labels gs ≡ labels fs
  pub profile-so : profile gs ≡ profile fs
  pub seven-so : seven_bit gs ≡ seven_bit fs
  pub length-so : length gs ≡ length fs

alike_then : (fs gs hs : List Field) → Alike fs gs → Alike gs hs → Alike fs hs
alike_then fs gs hs a b = record {
  labels-so = b.labels-so ∙ a.labels-so;
  profile-so = b.profile-so ∙ a.profile-so;
  seven-so = b.seven-so ∙ a.seven-so;
  length-so = b.length-so ∙ a.length-so;
}

label_same : (fs gs : List Field) (k : ℕ) → labels gs ≡ labels fs → label_at_line gs k ≡ label_at_line fs k
label_same fs gs k e =
    sym (get_or-map (λ (f : Field). f.label) gs k no_field) ∙ (ap (λ (l : List ℕ). get_or l k 0) e ∙ get_or-map (λ (f : Field). f.label) fs k no_field)

pub change-same : (fs gs : List Field) (m : ℕ) (d : List ℕ) → Alike fs gs → Change fs m d → Change gs m d
change-same fs gs m d a x =
    let p : profile gs ≡ profile fs = a.profile-so in
    let l : length gs ≡ length fs = a.length-so in
    let q : label_at_line gs (pred m) ≡ label_at_line fs (pred m) = label_same fs gs (pred m) a.labels-so in
    record { least = x.least; most = rw l x.most; free = rw q x.free; high = x.high; right = rw (q, p) x.right; plain = λ b. x.plain (sym a.seven-so ∙ b) }

alone-set : (fs : List Field) (k : ℕ) (g : Field) → (0 ≡ k → ⊥) → NoStart g → Every NoStart (drop 1 fs) → Every NoStart (drop 1 (set fs k g))
alone-set [] k g n p h = tt
alone-set (f ∷ fs) zero g n p h = absurd (n refl)
alone-set (f ∷ fs) (suc k) g n p h = every_set NoStart fs k g p h

-- one line for another with the same label; 9206 stays as it is, so a set keeps its seven bits
module _ (fs : List Field) (i : ℕ) (g : Field) (up : Upright fs) (e : g.label ≡ label_at_line fs i) (nz : 0 ≡ i → ⊥) (sg : Sound g) (ns : NoStart g)
    (nc : g.label ≡ 9206 → ⊥) (fg : Fit (profile fs) g) (pg : seven_bit fs ≡ true → Plain g.content) where
  upright-set : Upright (set fs i g)
  upright-set = record {
    sound = every_set Sound fs i g sg up.sound;
    alone = alone-set fs i g nz ns up.alone;
    few = rw length-set up.few;
    rules = ruled-keep fs i g e nz nc fg pg up.rules;
  }

  alike_set : Alike fs (set fs i g)
  alike_set = record { labels-so = labels-keep fs i g e; profile-so = profile-keep fs i g nz; seven-so = seven-keep fs i g e nc; length-so = length-set fs i g }

-- one content for another
module _ (fs : List Field) (n : ℕ) (c : List ℕ) (up : Upright fs) (ch : Change fs n c) where
  not_first : 0 ≡ pred n → ⊥
  not_first q = not-fixed (label_at_line fs (pred n)) 8000 refl ch.free (rw (← q) (begins-of fs up.rules.begins).first-label)

  pub not-second : 1 ≡ pred n → ⊥
  not-second q = not-fixed (label_at_line fs (pred n)) 8100 refl ch.free (rw (← q) (begins-of fs up.rules.begins).second-label)

  new-fit : Fit (profile fs) (field (label_at_line fs (pred n)) c)
  new-fit = record { right = ch.right; version-right = not-version (profile fs) (field (label_at_line fs (pred n)) c) (not-fixed _ 9218 refl ch.free) }

  new-sound : Sound (field (label_at_line fs (pred n)) c)
  new-sound =
      let s = fits-short (profile fs) (field (label_at_line fs (pred n)) c) ch.right in
      let l : Sound (get_or fs (pred n) no_field) = every-at Sound fs (pred n) no_field (omega arith) up.sound in
      record { label-fits = l.label-fits; some_byte = s.some_byte; not-long = omega (arith, s.few_bytes); no-low = ch.high }

  pub upright-recontent : Upright (recontent fs (pred n) c)
  upright-recontent = upright-set fs (pred n) _ up refl not_first new-sound (not-fixed _ 8000 refl ch.free) (not-fixed _ 9206 refl ch.free) new-fit ch.plain

  pub alike-recontent : Alike fs (recontent fs (pred n) c)
  alike-recontent = alike_set fs (pred n) _ up refl not_first new-sound (not-fixed _ 8000 refl ch.free) (not-fixed _ 9206 refl ch.free) new-fit ch.plain

-- ---- the sum brought up to date

-- what line 2 must say: the bytes of all other lines, and 14 for itself
sum_of : List Field → ℕ
sum_of [] = 0
sum_of (f ∷ []) = line_size f + 14
sum_of (f ∷ x ∷ fs) = line_size f + (14 + size fs)

resum-is : (fs : List Field) → 2 ≤ length fs → resum fs ≡ set fs 1 (sum_field (sum_of fs))
unfolding sum_of
resum-is [] h = refl
resum-is (f ∷ []) h = absurd (omega arith)
resum-is (f ∷ x ∷ fs) h = refl

pub sum-right : (fs : List Field) → 2 ≤ length fs → size (resum fs) ≤ max_set_bytes → sum_faults (resum fs) ≡ []
unfolding sum_faults
sum-right [] h l = absurd (omega arith)
sum-right (f ∷ []) h l = absurd (omega arith)
sum-right (f ∷ x ∷ fs) h l = rw (eq-eqb _ _ (number_digits 5 (line_size f + (14 + size fs)) (omega arith)))

pub sum-sound : (m : ℕ) → Sound (sum_field m)
sum-sound m = omega arith

sum-plain : (m : ℕ) → Plain (sum_field m).content
sum-plain m = plain-digits (digits sum_digits m) (digits-all sum_digits m)

sum-fit : (p : Profile) (m : ℕ) → Fit p (sum_field m)
sum-fit p m = record { right = fits_sum p m; version-right = not-version p (sum_field m) (λ q. omega arith) }

module _ (fs : List Field) (up : Upright fs) where
  pub two : 2 ≤ length fs
  two = two-lines fs (begins-of fs up.rules.begins).second-label
    where
      two-lines : (l : List Field) → label_at_line l 1 ≡ 8100 → 2 ≤ length l
      two-lines [] q = absurd (omega arith)
      two-lines (f ∷ []) q = absurd (omega arith)
      two-lines (f ∷ g ∷ l) q = omega arith

  upright-resum : Upright (resum fs)
  upright-resum = rw (resum-is fs two)
      (upright-set fs 1 (sum_field (sum_of fs)) up (sym (begins-of fs up.rules.begins).second-label) (λ q. omega arith) (sum-sound _)
      (λ q. omega arith) (λ q. omega arith) (sum-fit (profile fs) _) (λ b. sum-plain _))

  pub alike-resum : Alike fs (resum fs)
  alike-resum = rw (resum-is fs two)
      (alike_set fs 1 (sum_field (sum_of fs)) up (sym (begins-of fs up.rules.begins).second-label) (λ q. omega arith) (sum-sound _)
      (λ q. omega arith) (λ q. omega arith) (sum-fit (profile fs) _) (λ b. sum-plain _))

  -- "over 99,999" never decides
  pub total-resum : size (resum fs) ≤ max_set_bytes
  total-resum = ruled-total (resum fs) upright-resum.rules upright-resum.few

  pub standing-resum : Standing (resum fs)
  standing-resum = record {
    sound = upright-resum.sound;
    alone = upright-resum.alone;
    few = upright-resum.few;
    right = unruled (resum fs) upright-resum.rules (sum-right fs two total-resum);
  }

-- a correction without faults leaves an accepted set
pub still-standing : (fs : List Field) (n : ℕ) (c : List ℕ) → Standing fs → Change fs n c → Standing (changed fs n c)
still-standing fs n c st ch = standing-resum (recontent fs (pred n) c) (upright-recontent fs n c (upright fs st) ch)

-- with the same labels, the same profile, seven bits or not as before, and as many lines
pub alike-changed : (fs : List Field) (n : ℕ) (c : List ℕ) → Standing fs → Change fs n c → Alike fs (changed fs n c)
alike-changed fs n c st ch =
    let up : Upright fs = upright fs st in
    alike_then fs (recontent fs (pred n) c) (changed fs n c) (alike-recontent fs n c up ch) (alike-resum (recontent fs (pred n) c) (upright-recontent fs n c up ch))

-- ---- buffers

-- the first `used` bytes of b are the accepted set with the lines fs, and nothing else
pub record Holds (b : List ℕ) (used : ℕ) (fs : List Field) : Type 0 where
  pub fits_in : used ≤ length b
  pub front : read (take used b) ≡ done (parsed fs [])

pub holds-standing : (b : List ℕ) (used : ℕ) (fs : List Field) → Holds b used fs → Standing fs
holds-standing b used fs h = (accepted (take used b) (parsed fs []) h.front).standing

pub same_lines : (b : List ℕ) (used : ℕ) (fs gs : List Field) → Holds b used fs → Holds b used gs → fs ≡ gs
same_lines b used fs gs h h' = ap (λ (d : Parsed). d.fields) (done-same (sym h.front ∙ h'.front))

-- the buffer after a correction
abbrev pub leaves : List Field → List ℕ → List ℕ
leaves fs b = bytes_left (done (render fs [])) b

pub length-leaves : (fs : List Field) (b : List ℕ) → size fs ≤ length b → length (leaves fs b) ≡ length b
length-leaves fs b h = simp (length-append, length-replicate, length-render) (omega arith)

pub holds-leaves : (fs : List Field) (b : List ℕ) → Standing fs → size fs ≤ length b → Holds (leaves fs b) (size fs) fs
holds-leaves fs b st h = record {
  fits_in = omega (arith, length-leaves fs b h);
  front = rw (take_at (render fs []) (replicate (length b - length (render fs [])) 0) (size fs) (length-render fs [] ∙ omega arith)) (read-render fs [] st refl);
}

-- what is known of a correction that was made
pub record Corrected (b : List ℕ) (used n : ℕ) (c x : List ℕ) : Type 0 where
  pub lines : List Field
  pub held : Holds b used lines
  pub asked : Change lines n c
  pub room : size (changed lines n c) ≤ length b
  pub made : x ≡ render (changed lines n c) []

-- a correction without faults that has room is made
pub correct-makes : (b : List ℕ) (used n : ℕ) (c : List ℕ) (fs : List Field) → Holds b used fs → Change fs n c → size (changed fs n c) ≤ length b
    → correct b used n c ≡ done (render (changed fs n c) [])
unfolding correct
correct-makes b used n c fs h ch r =
    let t : size (changed fs n c) ≤ max_set_bytes =
    total-resum (recontent fs (pred n) c) (upright-recontent fs n c (upright fs (holds-standing b used fs h)) ch) in
    rw (le-leb _ _ h.fits_in, h.front, no-change-faults fs n c ch, le-leb _ _ r, le-leb _ _ t)

correct-lines : (room n : ℕ) (c : List ℕ) (d : Parsed) (x : List ℕ) → correct_lines room n c d ≡ done x
    → (d.rest ≡ []) × Change d.fields n c × (size (changed d.fields n c) ≤ room) × (x ≡ render (changed d.fields n c) [])
correct-lines room n c d x e =
    let fs : List Field = d.fields in
    let new : List Field = changed fs n c in
    let fl : List Fault = alone_faults d ++ change_faults fs n c in
    let y = then_to-done (verdict (in_change fs) fl new) (λ gs. set_with_room gs room) x e in
    let v = verdict-done (in_change fs) fl new y.0 y.1 in
    let a = ask-none (is_nil d.rest) _ (change_faults fs n c) v.0 in
    let q : set_with_room new room ≡ done x = rw v.1 y.2 in
    let w = with_room-done (leb (size new) room && leb (size new) max_set_bytes) (size new) (render new []) x q in
    (nil_is d.rest a.0, change fs n c a.1, leb-true (size new) room (and_left (leb (size new) room) _ w.0), sym w.1)

-- and one that was made has no faults, and had room
pub correct-only : (b : List ℕ) (used n : ℕ) (c x : List ℕ) → correct b used n c ≡ done x → Corrected b used n c x
unfolding correct
correct-only b used n c x e =
    let p = cond-done (leb used (length b)) (then_to (read (take used b)) (λ d. correct_lines (length b) n c d)) (refusal bad_use (length b) 0) x e in
    let y = then_to-done (read (take used b)) (λ d. correct_lines (length b) n c d) x p.1 in
    let m = correct-lines (length b) n c y.0 x y.2 in
    record {
      lines = y.0.fields;
      held = record { fits_in = leb-true used (length b) p.0; front = y.1 ∙ ap (λ (t : List ℕ). done (parsed y.0.fields t)) m.0 };
      asked = m.1;
      room = m.2;
      made = m.3;
    }
