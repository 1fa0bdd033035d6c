-- Corrections are exact: one is made exactly when the set keeps the rules and is alone, the line is there and not fixed, the content fits, and there is room.
use mathlib.Core.Path.{◌≡◌, refl, sym, ap, ◌∙◌, subst}
use mathlib.Core.Bool.{Bool, true, false}
use mathlib.Core.List.{List, [], ◌∷◌}
use mathlib.Core.Logic.{◌↔◌, ◌≢◌}
use Prim.Native.Nat.{ℕ, zero, suc, pred, ◌+◌, ◌≤◌, ◌<◌}
use native.Mathlib.Omega.{arith}
use lib.Dec.{eqb}
use lib.ListN.{length, take, get_or, set, length-set}
use lib.Seq.{ext_get_or, get_or-set_same, get_or-set_other}
use borrow.Author.Tests.{eqb-true, eqb-false, ne_eqb}
use Rattle.meaning.specs.Digits.{digits}
use Rattle.meaning.specs.Field.{Field, field, no_field, label_at_line}
use Rattle.meaning.specs.Refusals.{done}
use Rattle.meaning.specs.Pieces.{parsed}
use Rattle.meaning.specs.Lines.{line_size, size, render}
use Rattle.meaning.specs.Rules.{fits}
use Rattle.meaning.specs.Corrections.{fixed, changed, correct}
use Rattle.meaning.proofs.Bools.{every-at}
use Rattle.meaning.proofs.CorrectionLaws.{Change, Holds, Corrected, correct-makes, correct-only}
use Rattle.keeps.specs.Makes.{NotFixed, NewLines, Corrects}
use Rattle.keeps.proofs.TableFacts.{no-absurd}
use Rattle.keeps.proofs.SevenExact.{has-seven, seven-has, plain_of, no-high-of}
use Rattle.keeps.proofs.Exact.{every_of, accepted-keeps, keeps-accepted}

-- ---- fixed lines

pub not-fixed : (l : ℕ) → fixed l ≡ false → NotFixed l
not-fixed l e = (λ q. no-absurd (ap fixed q) e, λ q. no-absurd (ap fixed q) e, λ q. no-absurd (ap fixed q) e, λ q. no-absurd (ap fixed q) e)

pub fixed-not : (l : ℕ) → NotFixed l → fixed l ≡ false
fixed-not l n = rw (ne_eqb l 8000 n.0, ne_eqb l 8100 n.1, ne_eqb l 9206 n.2, ne_eqb l 9218 n.3) refl

-- ---- the new lines

-- line number m + 3 is given content c: its content and the sum are new, and nothing else
module _ (f g : Field) (gs : List Field) (m : ℕ) (c : List ℕ) (there : m < length gs) where
  abbrev all : List Field
  all = f ∷ g ∷ gs

  new-lines : NewLines all (suc (suc (suc m))) c (changed all (suc (suc (suc m))) c)
  new-lines = record {
    as_many = ap (λ (n : ℕ). suc (suc n)) (length-set gs m (field (label_at_line gs m) c));
    new-content = get_or-set_same gs m (field (label_at_line gs m) c) no_field there;
    new-sum = ap (λ (n : ℕ). field 8100 (digits 5 n)) (omega arith);
    others-stay = stay;
  }
    where
      stay : (k : ℕ) → k ≢ suc (suc m) → k ≢ 1 → get_or (changed all (suc (suc (suc m))) c) k no_field ≡ get_or all k no_field
      stay zero a b = refl
      stay (suc zero) a b = absurd (b refl)
      stay (suc (suc k)) a b = get_or-set_other gs m k (field (label_at_line gs m) c) no_field (λ q. a (ap (λ (x : ℕ). suc (suc x)) q))

  -- and only these lines are so
  one-new : (new : List Field) → NewLines all (suc (suc (suc m))) c new → new ≡ changed all (suc (suc (suc m))) c
  one-new [] x = absurd (omega (arith, x.as_many))
  one-new (y ∷ []) x = absurd (omega (arith, x.as_many))
  one-new (y ∷ z ∷ ys) x =
      let a : y ≡ f = x.others-stay 0 (λ q. omega arith) (λ q. omega arith) in
      let e : ys ≡ set gs m (field (label_at_line gs m) c) = ext_get_or no_field ys (set gs m (field (label_at_line gs m) c)) (simp length-set (omega (arith, x.as_many))) each in
      let n : size (y ∷ z ∷ ys) ≡ line_size f + (14 + size (set gs m (field (label_at_line gs m) c))) =
      omega (arith, ap line_size a, ap line_size x.new-sum, ap size e) in
      let b : z ≡ field 8100 (digits 5 (line_size f + (14 + size (set gs m (field (label_at_line gs m) c))))) =
      x.new-sum ∙ ap (λ (k : ℕ). field 8100 (digits 5 k)) n in
      rw (a, b, e) refl
    where
      each : (k : ℕ) → k < length ys → get_or ys k no_field ≡ get_or (set gs m (field (label_at_line gs m) c)) k no_field
      each k l = go (eqb k m) refl
        where
          go : (b : Bool) → eqb k m ≡ b → get_or ys k no_field ≡ get_or (set gs m (field (label_at_line gs m) c)) k no_field
          go true q =
              let w : k ≡ m = eqb-true k m q in
              subst (λ (i : ℕ). get_or ys i no_field ≡ get_or (set gs m (field (label_at_line gs m) c)) i no_field) (sym w)
              (x.new-content ∙ sym (get_or-set_same gs m (field (label_at_line gs m) c) no_field there))
          go false q =
              x.others-stay (suc (suc k)) (λ w. eqb-false k m q (omega arith)) (λ w. omega arith)
              ∙ sym (get_or-set_other gs m k (field (label_at_line gs m) c) no_field (eqb-false k m q))

-- ---- the line that is corrected stands after the second

data ThirdOrLater (fs : List Field) (n : ℕ) : Type 0 where
  third : (f g : Field) (gs : List Field) (m : ℕ) → m < length gs → fs ≡ f ∷ g ∷ gs → n ≡ suc (suc (suc m)) → ThirdOrLater fs n

behind-second : (fs : List Field) (n : ℕ) → 1 ≤ n → n ≤ length fs → label_at_line fs 0 ≡ 8000 → label_at_line fs 1 ≡ 8100 → NotFixed (label_at_line fs (pred n)) → ThirdOrLater fs n
behind-second [] n a b p q x = absurd (omega arith)
behind-second (f ∷ []) n a b p q x = absurd (omega arith)
behind-second (f ∷ g ∷ gs) zero a b p q x = absurd (omega arith)
behind-second (f ∷ g ∷ gs) (suc zero) a b p q x = absurd (x.0 p)
behind-second (f ∷ g ∷ gs) (suc (suc zero)) a b p q x = absurd (x.1 q)
behind-second (f ∷ g ∷ gs) (suc (suc (suc m))) a b p q x = third f g gs m (omega arith) refl refl

new-of : (fs : List Field) (n : ℕ) (c : List ℕ) → ThirdOrLater fs n → NewLines fs n c (changed fs n c)
new-of fs n c (third f g gs m l e q) =
    subst (λ (x : List Field). NewLines x n c (changed x n c)) (sym e)
    (subst (λ (k : ℕ). NewLines (f ∷ g ∷ gs) k c (changed (f ∷ g ∷ gs) k c)) (sym q) (new-lines f g gs m c l))

new-one : (fs : List Field) (n : ℕ) (c : List ℕ) (new : List Field) → ThirdOrLater fs n → NewLines fs n c new → new ≡ changed fs n c
new-one fs n c new (third f g gs m l e q) x =
    one-new f g gs m c l new (subst (λ (k : ℕ). NewLines (f ∷ g ∷ gs) k c new) q (subst (λ (y : List Field). NewLines y n c new) e x))
    ∙ sym (ap (λ (y : List Field). changed y n c) e ∙ ap (λ (k : ℕ). changed (f ∷ g ∷ gs) k c) q)

-- in a set that starts with 8000 and 8100 the new lines are those of the definition, and no others
pub changed-new : (fs : List Field) (n : ℕ) (c : List ℕ) → label_at_line fs 0 ≡ 8000 → label_at_line fs 1 ≡ 8100 → (1 ≤ n) × (n ≤ length fs) → NotFixed (label_at_line fs (pred n))
    → NewLines fs n c (changed fs n c)
changed-new fs n c p q l x = new-of fs n c (behind-second fs n l.0 l.1 p q x)

pub new-changed : (fs : List Field) (n : ℕ) (c : List ℕ) (new : List Field) → label_at_line fs 0 ≡ 8000 → label_at_line fs 1 ≡ 8100 → (1 ≤ n) × (n ≤ length fs)
    → NotFixed (label_at_line fs (pred n)) → NewLines fs n c new → new ≡ changed fs n c
new-changed fs n c new p q l x = new-one fs n c new (behind-second fs n l.0 l.1 p q x)

-- ---- both ways

made-corrects : (b : List ℕ) (used n : ℕ) (c out : List ℕ) → Corrected b used n c out → Corrects b used n c out
unfolding fits
made-corrects b used n c out m =
    let fs : List Field = m.lines in
    let k = accepted-keeps (take used b) (parsed fs []) m.held.front in
    let ch : Change fs n c = m.asked in
    let x : NotFixed (label_at_line fs (pred n)) = not-fixed _ ch.free in
    record {
      set-type = k.0;
      lines = fs;
      new = changed fs n c;
      used-within = m.held.fits_in;
      keeps = k.1;
      line-there = (ch.least, ch.most);
      not-fixed = x;
      no-low-byte = λ i l. every-at (λ y. 32 ≤ y) c i 0 l ch.high;
      content-fits = ch.right;
      no-high-byte = λ h. no-high-of c (ch.plain (has-seven fs h));
      new-lines = changed-new fs n c k.1.rules.starts.0 k.1.rules.second-8100 (ch.least, ch.most) x;
      has_room = m.room;
      out-is = m.made;
    }

corrects-made : (b : List ℕ) (used n : ℕ) (c out : List ℕ) → Corrects b used n c out → correct b used n c ≡ done out
unfolding fits
corrects-made b used n c out m =
    let fs : List Field = m.lines in
    let held : Holds b used fs = record { fits_in = m.used-within; front = keeps-accepted (take used b) m.set-type fs [] m.keeps } in
    let ch : Change fs n c = record {
      least = m.line-there.0;
      most = m.line-there.1;
      free = fixed-not _ m.not-fixed;
      high = every_of (λ y. 32 ≤ y) c 0 m.no-low-byte;
      right = m.content-fits;
      plain = λ b. plain_of c (m.no-high-byte (seven-has fs b));
    } in
    let e : m.new ≡ changed fs n c =
    new-changed fs n c m.new m.keeps.rules.starts.0 m.keeps.rules.second-8100 m.line-there m.not-fixed m.new-lines in
    correct-makes b used n c fs held ch (subst (λ (x : List Field). size x ≤ length b) e m.has_room)
    ∙ ap done (sym (m.out-is ∙ ap (λ (x : List Field). render x []) e))

-- a correction is made exactly when nothing in the paper speaks against it
pub corrected-exactly : (b : List ℕ) (used n : ℕ) (c out : List ℕ) → (correct b used n c ≡ done out) ↔ Corrects b used n c out
corrected-exactly b used n c out = (λ e. made-corrects b used n c out (correct-only b used n c out e), corrects-made b used n c out)
