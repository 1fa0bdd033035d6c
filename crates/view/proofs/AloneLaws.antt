-- What the walk of specs/ means: one law for each way that `shown_alone` takes, then that it shows what the definition of `meaning` shows, a part within its slice.
use mathlib.Core.Path.{◌≡◌, refl, ap, ◌∙◌}
use mathlib.Core.Bool.{Bool, true, false, cond, ◌&&◌}
use mathlib.Core.List.{List, [], ◌∷◌, ◌++◌}
use mathlib.Core.Option.{none}
use Prim.Native.Nat.{ℕ, ◌+◌, ◌≤◌, ◌<◌}
use native.Mathlib.Omega.{arith}
use native.Mathlib.Nat.{add-zero}
use borrow.Author.Tests.{le-leb, lt-leb, leb-true}
use lib.Dec.{leb}
use lib.ListN.{length}
use lib.Seq.{take_all}
use Rattle.meaning.specs.declared.Refusal.{Refusal}
use Rattle.meaning.specs.declared.Shape.{Shape}
use Rattle.meaning.specs.Field.{Field, is_nil}
use Rattle.meaning.specs.Refusals.{at_line, ask, Reply, refused, done, then_to, verdict, refusal, bad_use, no_such_line}
use Rattle.meaning.specs.Pieces.{Parsed}
use Rattle.meaning.specs.Lines.{offset, size}
use Rattle.meaning.specs.Reading.{shape, in_set, read, judged, judge}
use Rattle.meaning.specs.Corrections.{alone_faults, line_number_faults}
use Rattle.meaning.specs.Views.{sheet, latest, shown_part, view_answer, viewing, viewed}
use Rattle.meaning.proofs.Bools.{nil_is, and_left, and_right}
use Rattle.meaning.proofs.LineLaws.{length-render}
use Rattle.meaning.proofs.SetLaws.{accepted}
use Rattle.meaning.proofs.Demands.{judge-read}
use Rattle.view_part.specs.Parts.{Within}
use Rattle.view_sheet.specs.Showing.{shown_under}
use Rattle.view_sheet.proofs.ShowingLaws.{under-is, under-within}
use Rattle.view.specs.Alone.{shown_alone}
use Rattle.std.specs.Prelude.{Err, Ok}

-- ---- the ways of the code

module _ (s : List ℕ) (x : Shape) (h : List ℕ) (n : ℕ) where
  pub alone-follows : x.length < length s → Err (refusal bad_use x.length 0) ≡ shown_alone s x h n
  unfolding shown_alone
  alone-follows a = rw (lt-leb (length s) x.length a)

  module _ (a : length s ≤ x.length) where
    pub alone-zero : n < 1 → Err (refusal no_such_line x.length 0) ≡ shown_alone s x h n
    unfolding shown_alone
    alone-zero b = rw (le-leb (length s) x.length a, lt-leb 1 n b)

    pub alone-beyond : 1 ≤ n → x.lines < n → Err (refusal no_such_line x.length 0) ≡ shown_alone s x h n
    unfolding shown_alone
    alone-beyond b c = rw (le-leb (length s) x.length a, le-leb 1 n b, lt-leb n x.lines c)

    pub alone-there : 1 ≤ n → n ≤ x.lines → shown_under s x h n ≡ shown_alone s x h n
    unfolding shown_alone
    alone-there b c = rw (le-leb (length s) x.length a, le-leb 1 n b, le-leb n x.lines c)

-- ---- an accepted set

module _ (s h : List ℕ) (d : Parsed) (r : read s ≡ done d) (n : ℕ) where
  abbrev fs : List Field
  fs = d.fields

  -- the set fills its slice if no byte follows it
  fills : leb (length s) (size fs) ≡ is_nil d.rest
  fills = go d.rest (ap length (accepted s d r).bytes ∙ length-render fs d.rest)
    where
      go : (t : List ℕ) → length s ≡ size fs + length t → leb (length s) (size fs) ≡ is_nil t
      go [] e = le-leb (length s) (size fs) (omega arith)
      go (b ∷ t) e = lt-leb (length s) (size fs) (omega arith)

  -- after all lines stands the set's length
  after-all : offset fs (length fs) + 0 ≡ size fs
  after-all = add-zero (offset fs (length fs)) ∙ ap size (take_all (length fs) fs (omega arith))

  alone-is : shown_alone s (shape fs) h n ≡ viewed s h n
  unfolding viewed viewing shown_alone
  alone-is = rw (r, fills) (go (is_nil d.rest) refl (leb 1 n && leb n (length fs)) refl)
    where
      go : (a : Bool) → is_nil d.rest ≡ a → (b : Bool) → leb 1 n && leb n (length fs) ≡ b
          → cond a (cond b (shown_under s (shape fs) h n) (Err (refusal no_such_line (size fs) 0))) (Err (refusal bad_use (size fs) 0))
          ≡ view_answer (then_to (verdict (in_set fs) (ask a (at_line bad_use (length fs) 0) ++ ask b (at_line no_such_line (length fs) 0)) fs) (λ gs.
          then_to (sheet gs h) (λ e. done (shown_part gs n (latest n 0 e.fields none)))))
      go false a b q = rw after-all
      go true a false q = rw after-all
      go true a true q = under-is s h d r (nil_is d.rest a) n (leb-true 1 n (and_left (leb 1 n) _ q)) (leb-true n (length fs) (and_right (leb 1 n) _ q))

-- ---- the answer

-- a set that is refused
pub viewed-refused : (s h : List ℕ) (n : ℕ) (x : Refusal) → judge s ≡ Err x → Err x ≡ viewed s h n
unfolding judge viewed viewing
viewed-refused s h n x j = go (read s) j
  where
    go : (e : Reply Parsed) → judged e ≡ Err x
        → Err x ≡ view_answer (then_to e (λ d.
        then_to (verdict (in_set d.fields) (alone_faults d ++ line_number_faults d.fields n) d.fields) (λ gs.
        then_to (sheet gs h) (λ y. done (shown_part gs n (latest n 0 y.fields none))))))
    go (refused y) q = let z : x ≡ y = cc in ap Err z
    go (done d) q = let z : ◌≡◌ {A = ℕ} 0 1 = cc in absurd (omega arith)

-- a set that is accepted
pub viewed-accepted : (s h : List ℕ) (n : ℕ) (x : Shape) → judge s ≡ Ok x → shown_alone s x h n ≡ viewed s h n
viewed-accepted s h n x j = let d = judge-read s x j in rw d.2 (alone-is s h d.0 d.1 n)

-- ---- the part that is shown lies within its slice

module _ (s : List ℕ) (x : Shape) (h : List ℕ) (n : ℕ) where
  pub alone-within : judge s ≡ Ok x → Within s h (shown_alone s x h n)
  unfolding Within shown_alone
  alone-within j = go (leb (length s) x.length) (leb 1 n && leb n x.lines) refl
    where
      go : (a b : Bool) → leb 1 n && leb n x.lines ≡ b
          → Within s h (cond a (cond b (shown_under s x h n) (Err (refusal no_such_line x.length 0)))
          (Err (refusal bad_use x.length 0)))
      go false b q = tt
      go true false q = tt
      go true true q =
          under-within s x h n j (leb-true 1 n (and_left (leb 1 n) _ q)) (leb-true n x.lines (and_right (leb 1 n) _ q))
