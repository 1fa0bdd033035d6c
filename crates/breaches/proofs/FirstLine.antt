-- 1 and 2 to 7: a scan that is refused is refused for a line's first breach, and no line before it has one; a scan that ends well leaves none.
use mathlib.Core.Path.{◌≡◌, refl, sym, ap, ◌∙◌, subst}
use mathlib.Core.Bool.{Bool, true, false, cond, ◌&&◌, true≢false}
use mathlib.Core.List.{List, [], ◌∷◌, ◌++◌, cons≢nil}
use mathlib.Core.Logic.{◌⊎◌, inl, inr, ◌≢◌}
use Prim.Native.Nat.{ℕ, zero, suc, ◌+◌, ◌-◌, ◌≤◌, ◌<◌}
use native.Mathlib.Omega.{arith}
use lib.Dec.{leb, eqb}
use lib.ListN.{length, take, drop, get_or, drop_of_length-le}
use lib.Seq.{drop-cons}
use borrow.Author.Tests.{leb-true, leb-false, eqb-true, eqb-false}
use Rattle.meaning.specs.declared.Refusal.{Refusal}
use Rattle.meaning.specs.Limits.{max_lines}
use Rattle.meaning.specs.Digits.{all_digits}
use Rattle.meaning.specs.Field.{Field, no_field}
use Rattle.meaning.specs.Refusals.{Fault, at_line, at_byte, ask, behind, Reply, refused, done, refusal, empty, bad_length, cut_line, bad_end, bad_label, bad_byte, too_many_lines}
use Rattle.meaning.specs.Pieces.{Parsed, parsed, and_before, piece_then, pieces}
use Rattle.meaning.specs.Lines.{line_size, line_then, size, offset, render, size_at, content_at, field_at, length_ok, whole_ok, end_ok, label_ok, low_bytes, line_faults, set_over, line_form}
use Rattle.meaning.specs.Reading.{scan}
use Rattle.meaning.proofs.Bools.{and_left, and_right, Every, every-at}
use Rattle.meaning.proofs.FaultLaws.{ask-none, refused-done}
use Rattle.meaning.proofs.LineLaws.{Sound, NoStart, LaterLine, Whole, whole, faults-line, drop-line, line-back, sound_back, no-start-back, size_back}
use Rattle.keeps.specs.Keeps.{LinesWellFormed, StartsSet}
use Rattle.keeps.proofs.TableFacts.{le-cases, lt-or-le, no-absurd}
use Rattle.keeps.proofs.Exact.{every_of, well-formed-of, sound-of, over-of, line-start, start-label, label-start, none-earlier}
use Rattle.breaches.specs.Breaches.{LineStarts, LineBreach, too_many, bad-length, cut-line, bad-end, bad-label, low_byte, line_refusal, line_rank, Rank, rank, Before}

-- ---- the first of a list of faults

pub same_head : {x y : Fault} {xs ys : List Fault} → x ∷ xs ≡ y ∷ ys → x ≡ y
same_head e = cc

pub head-append : (a b : List Fault) (x : Fault) (xs : List Fault) → a ++ b ≡ x ∷ xs → ((ys : List Fault) × (a ≡ x ∷ ys)) ⊎ ((a ≡ []) × (b ≡ x ∷ xs))
head-append [] b x xs e = inr (refl, e)
head-append (y ∷ a) b x xs e = inl (a, λ i. same_head e i ∷ a)

pub ask-head : (t : Bool) (f x : Fault) (xs : List Fault) → ask t f ≡ x ∷ xs → (t ≡ false) × (x ≡ f)
ask-head true f x xs e = absurd (cons≢nil (sym e))
ask-head false f x xs e = (refl, cc)

-- no faults below i, and none at i
pub none-to-next : (faults : ℕ → List Fault) (i : ℕ) → ((j : ℕ) → j < i → faults j ≡ []) → faults i ≡ [] → (j : ℕ) → j < suc i → faults j ≡ []
none-to-next faults i h z j l = go (le-cases j i (omega arith))
  where
    go : (j < i) ⊎ (j ≡ i) → faults j ≡ []
    go (inl p) = h j p
    go (inr p) = subst (λ (m : ℕ). faults m ≡ []) (sym p) z

-- ---- what is wrong with a line, by its tests

length-wrong : (s : List ℕ) → length_ok s ≡ false → (length s < 3) ⊎ ((all_digits (take 3 s) ≡ false) ⊎ (size_at s < 10))
length-wrong s e = go (leb 3 (length s)) (all_digits (take 3 s)) (leb 10 (size_at s)) refl refl refl e
  where
    go : (a b c : Bool) → leb 3 (length s) ≡ a → all_digits (take 3 s) ≡ b → leb 10 (size_at s) ≡ c → a && (b && c) ≡ false
        → (length s < 3) ⊎ ((all_digits (take 3 s) ≡ false) ⊎ (size_at s < 10))
    go false b c p q r x = inl (leb-false _ _ p)
    go true false c p q r x = inr (inl q)
    go true true false p q r x = inr (inr (leb-false _ _ r))
    go true true true p q r x = absurd (true≢false x)

end-wrong : (s : List ℕ) → end_ok s ≡ false → (get_or s (size_at s - 2) 0 ≢ 13) ⊎ (get_or s (size_at s - 1) 0 ≢ 10)
end-wrong s e = go (eqb (get_or s (size_at s - 2) 0) 13) (eqb (get_or s (size_at s - 1) 0) 10) refl refl e
  where
    go : (a b : Bool) → eqb (get_or s (size_at s - 2) 0) 13 ≡ a → eqb (get_or s (size_at s - 1) 0) 10 ≡ b → a && b ≡ false
        → (get_or s (size_at s - 2) 0 ≢ 13) ⊎ (get_or s (size_at s - 1) 0 ≢ 10)
    go false b p q x = inl (eqb-false _ _ p)
    go true false p q x = inr (eqb-false _ _ q)
    go true true p q x = absurd (true≢false x)

wrong-length : (s : List ℕ) → length_ok s ≡ true → (length s < 3) ⊎ ((all_digits (take 3 s) ≡ false) ⊎ (size_at s < 10)) → ⊥
wrong-length s e (inl p) = omega (arith, leb-true 3 (length s) (and_left (leb 3 (length s)) _ e))
wrong-length s e (inr (inl p)) = no-absurd (and_left (all_digits (take 3 s)) _ (and_right (leb 3 (length s)) _ e)) p
wrong-length s e (inr (inr p)) = omega (arith, leb-true 10 (size_at s) (and_right (all_digits (take 3 s)) _ (and_right (leb 3 (length s)) _ e)))

wrong-end : (s : List ℕ) → end_ok s ≡ true → (get_or s (size_at s - 2) 0 ≢ 13) ⊎ (get_or s (size_at s - 1) 0 ≢ 10) → ⊥
wrong-end s e (inl p) = p (eqb-true _ _ (and_left (eqb (get_or s (size_at s - 2) 0) 13) _ e))
wrong-end s e (inr p) = p (eqb-true _ _ (and_right (eqb (get_or s (size_at s - 2) 0) 13) _ e))

-- the first low byte of a content
record FirstLow (k i : ℕ) (c : List ℕ) (x : Fault) : Type 0 where
  which : ℕ
  there : which < length c
  low : get_or c which 0 < 32
  earlier : (j : ℕ) → j < which → 32 ≤ get_or c j 0
  is : x ≡ at_byte bad_byte k (i + which)

first-low : (k i : ℕ) (c : List ℕ) (x : Fault) (xs : List Fault) → low_bytes k i c ≡ x ∷ xs → FirstLow k i c x
first-low k i [] x xs e = absurd (cons≢nil (sym e))
first-low k i (b ∷ c) x xs e = go (first-low k (suc i) c x xs) (leb 32 b) refl e
  where
    go : (low_bytes k (suc i) c ≡ x ∷ xs → FirstLow k (suc i) c x) → (t : Bool) → leb 32 b ≡ t → ask t (at_byte bad_byte k i) ++ low_bytes k (suc i) c ≡ x ∷ xs → FirstLow k i (b ∷ c) x
    go ih false p q = record {
      which = 0;
      there = omega arith;
      low = leb-false _ _ p;
      earlier = λ j l. absurd (omega arith);
      is = sym (same_head q) ∙ ap (λ (m : ℕ). at_byte bad_byte k m) (omega arith);
    }
    go ih true p q =
        let r = ih q in
        record { which = suc r.which; there = omega (arith, r.there); low = r.low; earlier = before r; is = r.is ∙ ap (λ (m : ℕ). at_byte bad_byte k m) (omega arith) }
      where
        before : (r : FirstLow k (suc i) c x) (j : ℕ) → j < suc r.which → 32 ≤ get_or (b ∷ c) j 0
        before r zero l = leb-true _ _ p
        before r (suc j) l = r.earlier j (omega arith)

-- ---- which breach of a line is first

-- the tests that come before part p, and before byte i of a content, hold
record Passed (n : ℕ) (s : List ℕ) (p i : ℕ) : Type 0 where
  not-many : 0 < p → n ≢ max_lines
  length-passed : 2 < p → length_ok s ≡ true
  whole-passed : 3 < p → whole_ok s ≡ true
  end-passed : 4 < p → end_ok s ≡ true
  label-passed : 5 < p → label_ok s ≡ true
  bytes-passed : p ≡ 6 → (j : ℕ) → j < i → 32 ≤ get_or (content_at s) j 0
  no_more : p ≤ 6
  only-bytes : (p ≡ 6) ⊎ (i ≡ 0)

before-part : (n m p q i j : ℕ) → Before (rank 1 n p i) (rank 1 n q j) → (p < q) ⊎ ((p ≡ q) × (i < j))
before-part n m p q i j (inl x) = absurd (omega arith)
before-part n m p q i j (inr (e, inl x)) = absurd (omega arith)
before-part n m p q i j (inr (e, inr (f, x))) = x

-- what has part c below 6 and passed does not come before part p and byte i
none-earlier-part : (n : ℕ) (s : List ℕ) (p i c : ℕ) → Passed n s p i → c < 6 → (c < p → ⊥) → Before (rank 1 n c 0) (rank 1 n p i) → ⊥
none-earlier-part n s p i c h l passed x = go (before-part n n c p 0 i x)
  where
    part : (p ≡ 6) ⊎ (i ≡ 0) → c ≡ p → 0 < i → ⊥
    part (inl w) u v = omega arith
    part (inr w) u v = omega arith

    go : (c < p) ⊎ ((c ≡ p) × (0 < i)) → ⊥
    go (inl q) = passed q
    go (inr q) = part h.only-bytes q.0 q.1

-- Each breach is held against the test that passed: it comes before part p and byte i only if its own part or byte is smaller, and then its test would have failed.
passed_first : (n : ℕ) (s : List ℕ) (p i : ℕ) → Passed n s p i → (b : LineBreach n s) → Before (line_rank b) (rank 1 n p i) → ⊥
passed_first n s p i h (too_many e) x = none-earlier-part n s p i 0 h (omega arith) (λ q. h.not-many q e) x
passed_first n s p i h (bad-length e) x = none-earlier-part n s p i 2 h (omega arith) (λ q. wrong-length s (h.length-passed q) e) x
passed_first n s p i h (cut-line e) x = none-earlier-part n s p i 3 h (omega arith) (λ q. omega (arith, leb-true (size_at s) (length s) (h.whole-passed q))) x
passed_first n s p i h (bad-end e) x = none-earlier-part n s p i 4 h (omega arith) (λ q. wrong-end s (h.end-passed q) e) x
passed_first n s p i h (bad-label e) x = none-earlier-part n s p i 5 h (omega arith) (λ q. no-absurd (h.label-passed q) e) x
passed_first n s p i h (low_byte j l e) x = go (before-part n n 6 p j i x)
  where
    go : (6 < p) ⊎ ((6 ≡ p) × (j < i)) → ⊥
    go (inl q) = omega (arith, h.no_more)
    go (inr q) = omega (arith, h.bytes-passed (sym q.0) j q.1)

-- the first breach of the line at the front of s
pub record LineFirst (n : ℕ) (s : List ℕ) (at : ℕ) (r : Refusal) : Type 0 where
  pub breach : LineBreach n s
  pub its-refusal : r ≡ line_refusal at breach
  pub none_before : (b : LineBreach n s) → Before (line_rank b) (line_rank breach) → ⊥

pub many-first : (n : ℕ) (s : List ℕ) (at : ℕ) → n ≡ max_lines → LineFirst n s at (refusal too_many_lines at 0)
many-first n s at e = record { breach = too_many e; its-refusal = refl; none_before = passed_first n s 0 0 passed }
  where
    passed : Passed n s 0 0
    passed = record {
      not-many = λ q. absurd (omega arith);
      length-passed = λ q. absurd (omega arith);
      whole-passed = λ q. absurd (omega arith);
      end-passed = λ q. absurd (omega arith);
      label-passed = λ q. absurd (omega arith);
      bytes-passed = λ q j l. absurd (omega arith);
      no_more = omega arith;
      only-bytes = inr refl;
    }

-- the refusal of a fault in a line at an offset
abbrev fault_refusal : ℕ → Fault → Refusal
fault_refusal at x = refusal x.no (at + behind 7 x.spot) x.label

plain-place : (at m : ℕ) (x : Fault) → x ≡ at_line m 0 0 → fault_refusal at x ≡ refusal m at 0
plain-place at m x e = ap (fault_refusal at) e ∙ ap (λ (p : ℕ). refusal m p 0) (omega arith)

-- By the four tests in order: the first that fails gives the breach, and those before it passed. If none fails, the first low byte gives it.
pub fault-first : (n : ℕ) (s : List ℕ) (at : ℕ) (x : Fault) (xs : List Fault) → (n ≢ max_lines) → line_faults s ≡ x ∷ xs → LineFirst n s at (fault_refusal at x)
unfolding line_faults
fault-first n s at x xs few e = go (length_ok s) (whole_ok s) (end_ok s) (label_ok s) refl refl refl refl e
  where
    go : (a b c d : Bool) → length_ok s ≡ a → whole_ok s ≡ b → end_ok s ≡ c → label_ok s ≡ d
        → ask a (at_line bad_length 0 0) ++ (ask b (at_line cut_line 0 0) ++ (ask c (at_line bad_end 0 0) ++ (ask d (at_line bad_label 0 0) ++ low_bytes 0 0 (content_at s)))) ≡ x ∷ xs
        → LineFirst n s at (fault_refusal at x)
    go false b c d p q r t h = record {
      breach = bad-length (length-wrong s p);
      its-refusal = plain-place at bad_length x (sym (same_head h));
      none_before = passed_first n s bad_length 0 (record {
        not-many = λ z. few;
        length-passed = λ z. absurd (omega arith);
        whole-passed = λ z. absurd (omega arith);
        end-passed = λ z. absurd (omega arith);
        label-passed = λ z. absurd (omega arith);
        bytes-passed = λ z j l. absurd (omega arith);
        no_more = omega arith;
        only-bytes = inr refl;
      });
    }
    go true false c d p q r t h = record {
      breach = cut-line (leb-false (size_at s) (length s) q);
      its-refusal = plain-place at cut_line x (sym (same_head h));
      none_before = passed_first n s cut_line 0 (record {
        not-many = λ z. few;
        length-passed = λ z. p;
        whole-passed = λ z. absurd (omega arith);
        end-passed = λ z. absurd (omega arith);
        label-passed = λ z. absurd (omega arith);
        bytes-passed = λ z j l. absurd (omega arith);
        no_more = omega arith;
        only-bytes = inr refl;
      });
    }
    go true true false d p q r t h = record {
      breach = bad-end (end-wrong s r);
      its-refusal = plain-place at bad_end x (sym (same_head h));
      none_before = passed_first n s bad_end 0 (record {
        not-many = λ z. few;
        length-passed = λ z. p;
        whole-passed = λ z. q;
        end-passed = λ z. absurd (omega arith);
        label-passed = λ z. absurd (omega arith);
        bytes-passed = λ z j l. absurd (omega arith);
        no_more = omega arith;
        only-bytes = inr refl;
      });
    }
    go true true true false p q r t h = record {
      breach = bad-label t;
      its-refusal = plain-place at bad_label x (sym (same_head h));
      none_before = passed_first n s bad_label 0 (record {
        not-many = λ z. few;
        length-passed = λ z. p;
        whole-passed = λ z. q;
        end-passed = λ z. r;
        label-passed = λ z. absurd (omega arith);
        bytes-passed = λ z j l. absurd (omega arith);
        no_more = omega arith;
        only-bytes = inr refl;
      });
    }
    go true true true true p q r t h =
        let f = first-low 0 0 (content_at s) x xs h in
        record {
          breach = low_byte f.which f.there f.low;
          its-refusal = ap (fault_refusal at) f.is ∙ ap (λ (m : ℕ). refusal bad_byte (at + (7 + m)) 0) (omega arith);
          none_before = passed_first n s bad_byte f.which (record {
            not-many = λ z. few;
            length-passed = λ z. p;
            whole-passed = λ z. q;
            end-passed = λ z. r;
            label-passed = λ z. t;
            bytes-passed = λ z j l. f.earlier j l;
            no_more = omega arith;
            only-bytes = inl refl;
          });
        }

-- a line without faults that is not one too many has no breach
pub fine-no-breach : (n : ℕ) (s : List ℕ) → (n ≢ max_lines) → line_faults s ≡ [] → LineBreach n s → ⊥
unfolding line_faults
fine-no-breach n s few e b = go b
  where
    a : (length_ok s ≡ true)
        × (ask (whole_ok s) (at_line cut_line 0 0) ++ (ask (end_ok s) (at_line bad_end 0 0) ++ (ask (label_ok s) (at_line bad_label 0 0) ++ low_bytes 0 0 (content_at s))) ≡ [])
    a = ask-none (length_ok s) _ _ e

    w : Whole s
    w = whole s e

    go : LineBreach n s → ⊥
    go (too_many q) = few q
    go (bad-length q) = wrong-length s a.0 q
    go (cut-line q) = omega (arith, w.within)
    go (bad-end (inl q)) = q w.ends-cr
    go (bad-end (inr q)) = q w.ends-lf
    go (bad-label q) = no-absurd w.four q
    go (low_byte i l q) = omega (arith, every-at (λ y. 32 ≤ y) (content_at s) i 0 l w.high)

-- ---- a scan that is refused

-- the lines before the one that is refused, and why it is
pub record RefusedAt (n at : ℕ) (s : List ℕ) (r : Refusal) : Type 0 where
  pub before : List Field
  pub rest : List ℕ
  pub bytes : s ≡ render before rest
  pub later : Every LaterLine before
  pub going : set_over rest ≡ false
  pub why : ((length before ≡ n) × (r ≡ refusal too_many_lines (at + size before) 0))
      ⊎ ((length before < n) × (x : Fault) × (xs : List Fault) × (line_faults rest ≡ x ∷ xs) × (r ≡ fault_refusal (at + size before) x))

pub refused-same : {A : Type 0} {a b : Refusal} → ◌≡◌ {A = Reply A} (refused a) (refused b) → a ≡ b
refused-same e = cc

pub done_refused {ℓ} : {X : Type ℓ} {A : Type 0} {r : Refusal} {a : A} → done a ≡ refused r → X
done_refused e = refused-done (sym e)

before-refused : (f : Field) (r : Reply Parsed) (x : Refusal) → and_before f r ≡ refused x → r ≡ refused x
before-refused f (refused y) x e = ap refused (refused-same e)
before-refused f (done d) x e = done_refused e

-- one line more before it
more-before : (n at : ℕ) (s : List ℕ) (r : Refusal) → line_faults s ≡ [] → set_over s ≡ false → RefusedAt n (at + size_at s) (drop (size_at s) s) r → RefusedAt (suc n) at s r
more-before n at s r e o x = record {
  before = field_at s ∷ x.before;
  rest = x.rest;
  bytes = line-back s w ∙ ap (line_then (field_at s)) x.bytes;
  later = ((sound_back s w, no-start-back s w o), x.later);
  going = x.going;
  why = go x.why;
}
  where
    w : Whole s
    w = whole s e

    places : (at + size_at s) + size x.before ≡ at + (line_size (field_at s) + size x.before)
    places = omega (arith, size_back s w)

    go : ((length x.before ≡ n) × (r ≡ refusal too_many_lines ((at + size_at s) + size x.before) 0))
        ⊎ ((length x.before < n) × (y : Fault) × (ys : List Fault) × (line_faults x.rest ≡ y ∷ ys) × (r ≡ fault_refusal ((at + size_at s) + size x.before) y))
        → ((suc (length x.before) ≡ suc n) × (r ≡ refusal too_many_lines (at + (line_size (field_at s) + size x.before)) 0))
        ⊎ ((suc (length x.before) < suc n) × (y : Fault) × (ys : List Fault) × (line_faults x.rest ≡ y ∷ ys)
        × (r ≡ fault_refusal (at + (line_size (field_at s) + size x.before)) y))
    go (inl q) = inl (ap suc q.0, q.1 ∙ ap (λ (p : ℕ). refusal too_many_lines p 0) places)
    go (inr q) = inr (omega (arith, q.0), q.1, q.2, q.3, q.4 ∙ ap (λ (p : ℕ). fault_refusal p q.1) places)

-- no line before it
none-before-it : (n at : ℕ) (s : List ℕ) (r : Refusal) (x : Fault) (xs : List Fault) → set_over s ≡ false → line_faults s ≡ x ∷ xs → r ≡ fault_refusal at x → RefusedAt (suc n) at s r
none-before-it n at s r x xs o e q = record {
  before = [];
  rest = s;
  bytes = refl;
  later = tt;
  going = o;
  why = inr (omega arith, x, xs, e, q ∙ ap (λ (p : ℕ). fault_refusal p x) (omega arith));
}

pub refused-pieces : (n at : ℕ) (s : List ℕ) (r : Refusal) → pieces line_form n at s ≡ refused r → RefusedAt n at s r
unfolding pieces
refused-pieces zero at s r e = go (set_over s) refl e
  where
    go : (b : Bool) → set_over s ≡ b → cond b (done (parsed [] s)) (refused (refusal too_many_lines at 0)) ≡ refused r → RefusedAt zero at s r
    go true p q = done_refused q
    go false p q = record {
      before = [];
      rest = s;
      bytes = refl;
      later = tt;
      going = p;
      why = inl (refl, sym (refused-same q) ∙ ap (λ (x : ℕ). refusal too_many_lines x 0) (omega arith));
    }
refused-pieces (suc n) at s r e = go (refused-pieces n) (set_over s) refl e
  where
    piece : ((a : ℕ) (u : List ℕ) (x : Refusal) → pieces line_form n a u ≡ refused x → RefusedAt n a u x) → set_over s ≡ false → (fl : List Fault) → line_faults s ≡ fl
        → piece_then line_form fl at s (λ p t. pieces line_form n p t) ≡ refused r → RefusedAt (suc n) at s r
    piece ih o [] p q = more-before n at s r p o (ih (at + size_at s) (drop (size_at s) s) r (before-refused (field_at s) _ r q))
    piece ih o (x ∷ xs) p q = none-before-it n at s r x xs o p (sym (refused-same q))

    go : ((a : ℕ) (u : List ℕ) (x : Refusal) → pieces line_form n a u ≡ refused x → RefusedAt n a u x) → (b : Bool) → set_over s ≡ b
        → cond b (done (parsed [] s)) (piece_then line_form (line_faults s) at s (λ p t. pieces line_form n p t)) ≡ refused r → RefusedAt (suc n) at s r
    go ih true p q = done_refused q
    go ih false p q = piece ih p (line_faults s) refl q

-- ---- lines are read in one way

-- the bytes after fewer lines are the other lines, and what follows them
rest-behind : (gs hs : List Field) (a b : List ℕ) → Every Sound gs → Every Sound hs → render gs a ≡ render hs b → length hs ≤ length gs → b ≡ render (drop (length hs) gs) a
rest-behind gs [] a b p q e l = sym e
rest-behind [] (h ∷ hs) a b p q e l = absurd (omega arith)
rest-behind (g ∷ gs) (h ∷ hs) a b p q e l =
    let f : render gs a ≡ render hs b =
    sym (drop-line g (render gs a) p.0) ∙ (ap (λ (x : List ℕ). drop (size_at x) x) e ∙ drop-line h (render hs b) q.0) in
    rest-behind gs hs a b p.1 q.1 f (omega arith)

-- the line after fewer lines has no fault
fine-behind : (gs hs : List Field) (a b : List ℕ) → Every Sound gs → Every Sound hs → render gs a ≡ render hs b → length hs < length gs
    → (t : List ℕ) × (b ≡ line_then (get_or gs (length hs) no_field) t) × (line_faults b ≡ [])
fine-behind gs hs a b p q e l =
    let k = length hs in
    let g = get_or gs k no_field in
    let f : b ≡ line_then g (render (drop (suc k) gs) a) =
    rest-behind gs hs a b p q e (omega arith) ∙ ap (λ (x : List Field). render x a) (drop-cons gs k no_field l) in
    (render (drop (suc k) gs) a, f, subst (λ (x : List ℕ). line_faults x ≡ []) (sym f) (faults-line g _ (every-at Sound gs k no_field l p)))

pub sounds : (fs : List Field) → LinesWellFormed fs → Every Sound fs
sounds fs w = every_of Sound fs no_field (λ k l. sound-of (get_or fs k no_field) (w k l))

pub wells : (fs : List Field) → Every Sound fs → LinesWellFormed fs
wells fs h k l = well-formed-of (get_or fs k no_field) (every-at Sound fs k no_field l h)

-- ---- ranks of breaches in lines

pub stage-of : (n : ℕ) (s : List ℕ) (b : LineBreach n s) → (line_rank b).stage ≡ 1
stage-of n s (too_many e) = refl
stage-of n s (bad-length e) = refl
stage-of n s (cut-line e) = refl
stage-of n s (bad-end e) = refl
stage-of n s (bad-label e) = refl
stage-of n s (low_byte i l e) = refl

pub line_of : (n : ℕ) (s : List ℕ) (b : LineBreach n s) → (line_rank b).line ≡ n
line_of n s (too_many e) = refl
line_of n s (bad-length e) = refl
line_of n s (cut-line e) = refl
line_of n s (bad-end e) = refl
line_of n s (bad-label e) = refl
line_of n s (low_byte i l e) = refl

-- what comes before has no later stage
pub before-stage : (a b : Rank) → Before a b → a.stage ≤ b.stage
before-stage a b (inl x) = omega arith
before-stage a b (inr x) = omega (arith, x.0)

before-line : (n m : ℕ) (s u : List ℕ) (a : LineBreach n s) (b : LineBreach m u) → Before (line_rank a) (line_rank b) → (n < m) ⊎ (n ≡ m)
before-line n m s u a b (inl x) = absurd (omega (arith, stage-of n s a, stage-of m u b))
before-line n m s u a b (inr (e, inl x)) = inl (omega (arith, line_of n s a, line_of m u b))
before-line n m s u a b (inr (e, inr (f, x))) = inr (sym (line_of n s a) ∙ (f ∙ line_of m u b))

-- ---- the scan

pub record ScanRefused (s : List ℕ) (r : Refusal) : Type 0 where
  pub lines : List Field
  pub rest : List ℕ
  pub starts : LineStarts s lines rest
  pub few : length lines ≤ max_lines
  pub is-first : LineFirst (length lines) rest (size lines) r

going_on : (rest : List ℕ) → set_over rest ≡ false → (rest ≢ []) × (StartsSet rest → ⊥)
going_on rest e = (λ q. no-absurd (over-of rest (inl q)) e, λ q. no-absurd (over-of rest (inr q)) e)

first-refused : (s : List ℕ) (r : Refusal) (x : Fault) (xs : List Fault) → (s ≢ []) → line_faults s ≡ x ∷ xs → r ≡ fault_refusal 0 x → ScanRefused s r
first-refused s r x xs m e q = record {
  lines = [];
  rest = s;
  starts = record {
    its-bytes = refl;
    well-formed = λ k l. absurd (omega arith);
    no-earlier = λ k p l. absurd (omega arith);
    more = m;
    no-set = λ p. absurd (omega arith);
  };
  few = omega arith;
  is-first = subst (λ (y : Refusal). LineFirst 0 s 0 y) (sym q) (fault-first 0 s 0 x xs (λ z. omega arith) e);
}

-- The first line is put before the lines that were read after it. The scan stopped at one line too many, or at a line with a fault: that gives the first breach.
later-refused : (s : List ℕ) (r : Refusal) → line_faults s ≡ [] → RefusedAt 511 (0 + size_at s) (drop (size_at s) s) r → ScanRefused s r
later-refused s r e x = record {
  lines = fs;
  rest = x.rest;
  starts = record {
    its-bytes = bytes;
    well-formed = wells fs sound;
    no-earlier = none-earlier s fs x.rest bytes (wells fs sound) (alone x.before x.later);
    more = (going_on x.rest x.going).0;
    no-set = λ p. (going_on x.rest x.going).1;
  };
  few = few x.why;
  is-first = why x.why;
}
  where
    w : Whole s
    w = whole s e

    fs : List Field
    fs = field_at s ∷ x.before

    bytes : s ≡ render fs x.rest
    bytes = line-back s w ∙ ap (line_then (field_at s)) x.bytes

    each-sound : (gs : List Field) → Every LaterLine gs → Every Sound gs
    each-sound [] h = tt
    each-sound (g ∷ gs) h = (h.0.0, each-sound gs h.1)

    alone : (gs : List Field) → Every LaterLine gs → Every NoStart gs
    alone [] h = tt
    alone (g ∷ gs) h = (h.0.1, alone gs h.1)

    sound : Every Sound fs
    sound = (sound_back s w, each-sound x.before x.later)

    places : (0 + size_at s) + size x.before ≡ line_size (field_at s) + size x.before
    places = omega (arith, size_back s w)

    few : ((length x.before ≡ 511) × (r ≡ refusal too_many_lines ((0 + size_at s) + size x.before) 0))
        ⊎ ((length x.before < 511) × (y : Fault) × (ys : List Fault) × (line_faults x.rest ≡ y ∷ ys) × (r ≡ fault_refusal ((0 + size_at s) + size x.before) y))
        → length fs ≤ 512
    few (inl q) = omega (arith, q.0)
    few (inr q) = omega (arith, q.0)

    why : ((length x.before ≡ 511) × (r ≡ refusal too_many_lines ((0 + size_at s) + size x.before) 0))
        ⊎ ((length x.before < 511) × (y : Fault) × (ys : List Fault) × (line_faults x.rest ≡ y ∷ ys) × (r ≡ fault_refusal ((0 + size_at s) + size x.before) y))
        → LineFirst (length fs) x.rest (size fs) r
    why (inl q) =
        subst (λ (y : Refusal). LineFirst (length fs) x.rest (size fs) y) (sym (q.1 ∙ ap (λ (p : ℕ). refusal too_many_lines p 0) places))
        (many-first (length fs) x.rest (size fs) (ap suc q.0))
    why (inr q) =
        subst (λ (y : Refusal). LineFirst (length fs) x.rest (size fs) y) (sym (q.4 ∙ ap (λ (p : ℕ). fault_refusal p q.1) places))
        (fault-first (length fs) x.rest (size fs) q.1 q.2 (λ z. omega (arith, q.0)) q.3)

-- a scan is refused since there is no byte, or for a line
pub scan-refused : (s : List ℕ) (r : Refusal) → scan s ≡ refused r → ((s ≡ []) × (r ≡ refusal empty 0 0)) ⊎ ScanRefused s r
unfolding scan
scan-refused [] r e = inl (refl, sym (refused-same e))
scan-refused (b ∷ bs) r e = inr (go (line_faults s) refl e)
  where
    s : List ℕ
    s = b ∷ bs

    go : (fl : List Fault) → line_faults s ≡ fl → piece_then line_form fl 0 s (λ p t. pieces line_form 511 p t) ≡ refused r → ScanRefused s r
    go [] p q = later-refused s r p (refused-pieces 511 (0 + size_at s) (drop (size_at s) s) r (before-refused (field_at s) _ r q))
    go (x ∷ xs) p q = first-refused s r x xs (λ z. cons≢nil z) p (sym (refused-same q))

-- and no breach of a line comes before that one
pub line-none-before : (s : List ℕ) (r : Refusal) (x : ScanRefused s r) (fs : List Field) (rest : List ℕ) → LineStarts s fs rest → (b : LineBreach (length fs) rest)
    → Before (line_rank b) (line_rank x.is-first.breach) → ⊥
line-none-before s r x fs rest st b h = go (before-line (length fs) (length gs) rest x.rest b x.is-first.breach h)
  where
    gs : List Field
    gs = x.lines

    same : render gs x.rest ≡ render fs rest
    same = sym x.starts.its-bytes ∙ st.its-bytes

    sg : Every Sound gs
    sg = sounds gs x.starts.well-formed

    sf : Every Sound fs
    sf = sounds fs st.well-formed

    go : (length fs < length gs) ⊎ (length fs ≡ length gs) → ⊥
    go (inl l) = fine-no-breach (length fs) rest (λ z. omega (arith, x.few)) (fine-behind gs fs x.rest rest sg sf same l).2 b
    go (inr e) =
        let q : rest ≡ x.rest =
        rest-behind gs fs x.rest rest sg sf same (omega arith) ∙ ap (λ (y : List Field). render y x.rest) (drop_of_length-le gs {i = length fs} (omega arith)) in
        let any : (c : LineBreach (length gs) rest) → Before (line_rank c) (line_rank x.is-first.breach) → ⊥ =
        subst (λ (u : List ℕ). (c : LineBreach (length gs) u) → Before (line_rank c) (line_rank x.is-first.breach) → ⊥) (sym q) x.is-first.none_before in
        subst (λ (m : ℕ). (c : LineBreach m rest) → Before (line_rank c) (line_rank x.is-first.breach) → ⊥) (sym e) any b h

-- if a scan ends well, no line has a breach: after fewer lines stands a line without fault, and after as many or more no line starts
pub scanned-no-breach : (s : List ℕ) (gs : List Field) (a : List ℕ) → s ≡ render gs a → Every Sound gs → 0 < length gs → length gs ≤ max_lines → (a ≡ []) ⊎ StartsSet a
    → (fs : List Field) (rest : List ℕ) → LineStarts s fs rest → LineBreach (length fs) rest → ⊥
scanned-no-breach s gs a e sg some few end fs rest st b = go (lt-or-le (length fs) (length gs))
  where
    same : render gs a ≡ render fs rest
    same = sym e ∙ st.its-bytes

    sf : Every Sound fs
    sf = sounds fs st.well-formed

    here : rest ≡ a → (a ≡ []) ⊎ StartsSet a → length fs ≡ length gs → ⊥
    here q (inl z) l = st.more (q ∙ z)
    here q (inr z) l = st.no-set (omega arith) (subst (λ (u : List ℕ). StartsSet u) (sym q) z)

    beyond : length gs < length fs → (a ≡ []) ⊎ StartsSet a → ⊥
    beyond l (inl q) =
        let f = fine-behind fs gs rest a sf sg (sym same) l in
        cons≢nil (sym f.1 ∙ q)
    beyond l (inr q) =
        let k = length gs in
        let f = fine-behind fs gs rest a sf sg (sym same) l in
        let n : (get_or fs k no_field).label ≡ 8000 =
        start-label (get_or fs k no_field) f.0 (st.well-formed k l).four-digits (subst (λ (u : List ℕ). StartsSet u) f.1 q) in
        st.no-earlier k some l
        (subst (λ (u : List ℕ). StartsSet u) (sym (ap (drop (offset fs k)) st.its-bytes ∙ line-start fs k rest l)) (label-start (get_or fs k no_field) _ n))

    go : (length fs < length gs) ⊎ (length gs ≤ length fs) → ⊥
    go (inl l) = fine-no-breach (length fs) rest (λ z. omega arith) (fine-behind gs fs a rest sg sf same l).2 b
    go (inr l) = at-or-behind (le-cases (length gs) (length fs) l)
      where
        at-or-behind : (length gs < length fs) ⊎ (length gs ≡ length fs) → ⊥
        at-or-behind (inl q) = beyond q end
        at-or-behind (inr q) =
            here (rest-behind gs fs a rest sg sf same (omega arith) ∙ ap (λ (y : List Field). render y a) (drop_of_length-le gs {i = length fs} (omega arith))) end (sym q)
