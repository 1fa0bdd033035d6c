-- A list of sets from an offset on: it stops there, or goes on after the set.
use mathlib.Core.Path.{◌≡◌, refl, sym, ap, ◌∙◌}
use mathlib.Core.Bool.{true, false}
use mathlib.Core.List.{List, [], ◌∷◌, cons≢nil}
use Prim.Native.Nat.{ℕ, zero, suc, ◌+◌, ◌-◌, ◌≤◌, ◌<◌}
use native.Mathlib.Omega.{arith}
use lib.ListN.{length, take, drop, length-drop}
use lib.Seq.{take_all}
use borrow.Author.Tests.{le-leb, lt-leb, eq-eqb, ne_eqb}
use Rattle.meaning.specs.declared.Refusal.{Refusal}
use Rattle.meaning.specs.declared.Shape.{Shape}
use Rattle.meaning.specs.Field.{Field, elem}
use Rattle.meaning.specs.Refusals.{Reply, refused, done}
use Rattle.meaning.specs.Pieces.{Parsed}
use Rattle.meaning.specs.Lines.{size}
use Rattle.meaning.specs.Rules.{start_faults, set_faults}
use Rattle.meaning.specs.Reading.{judged, judge, read}
use Rattle.meaning.specs.Answers.{judged_refusal, judged_shape}
use Rattle.meaning.proofs.AnswerLaws.{refused-accepted, accepted-same, refusal-same}
use Rattle.meaning.proofs.RuleLaws.{ruled}
use Rattle.meaning.proofs.SetLaws.{accepted}
use Rattle.meaning.proofs.NumberLaws.{Numbered, OneOf, read_numbers, read-numbers}
use Rattle.program_status.specs.Stops.{Stop, length_at, no_at, stop_from, stop}
use Rattle.meaning.specs.Results.{Judged}
use Rattle.std.specs.Prelude.{Err, Ok}

-- This many sets may still come, and the list stops where it stops from `at` on.
pub record Ahead (s : List ℕ) (at : ℕ) : Type 0 where
  pub most : ℕ
  pub enough : length s - at ≤ most
  pub same : stop s ≡ stop_from most s at

pub ahead-first : (s : List ℕ) → Ahead s 0
ahead-first s = record { most = length s; enough = omega arith; same = refl }

-- ---- what judging answers

-- a refusal has a number, which is not 0
refusal-number : (s : List ℕ) (r : Refusal) → judge s ≡ Err r → r.no ≡ 0 → ⊥
unfolding judge elem
refusal-number s r e = go (read s) (read-numbers s) e
  where
    go : (q : Reply Parsed) → Numbered (OneOf read_numbers) q → judged q ≡ Err r → r.no ≡ 0 → ⊥
    go (refused x) h p z = let none : x.no ≡ 0 = ap (λ (y : Refusal). y.no) (refusal-same p) ∙ z in let listed : false ≡ true = rw none at h in cc
    go (done d) h p z = refused-accepted (sym p)

some_size : (fs : List Field) → set_faults fs ≡ [] → 0 < size fs
unfolding start_faults
some_size [] e = absurd (cons≢nil (ruled [] e).0.begins)
some_size (f ∷ fs) e = omega arith

-- an accepted set has a byte or more
accepted-length : (s : List ℕ) (x : Shape) → judge s ≡ Ok x → 0 < x.length
unfolding judge
accepted-length s x e = go (read s) refl e
  where
    go : (q : Reply Parsed) → read s ≡ q → judged q ≡ Ok x → 0 < x.length
    go (refused r) p h = refused-accepted h
    go (done d) p h = omega (arith, ap (λ (y : Shape). y.length) (accepted-same h), some_size d.fields (accepted s d p).standing.right)

-- ---- one turn, by the definition

stops-refused : (m : ℕ) (s : List ℕ) (at : ℕ) → length_at s at ≡ 0 → stop_from m s at ≡ record { at = at; no = no_at s at }
unfolding stop_from
stops-refused zero s at z = refl
stops-refused (suc m) s at z = rw (eq-eqb (length_at s at) 0 z) refl

stops-last : (m : ℕ) (s : List ℕ) (at : ℕ) → (length_at s at ≡ 0 → ⊥) → length s - at ≤ length_at s at → stop_from m s at ≡ record { at = at; no = no_at s at }
unfolding stop_from
stops-last zero s at z h = refl
stops-last (suc m) s at z h = rw (ne_eqb (length_at s at) 0 z, le-leb (length s - at) (length_at s at) h) refl

goes-on : (m : ℕ) (s : List ℕ) (at : ℕ) → (length_at s at ≡ 0 → ⊥) → length_at s at < length s - at → stop_from (suc m) s at ≡ stop_from m s (at + length_at s at)
unfolding stop_from
goes-on m s at z h = rw (ne_eqb (length_at s at) 0 z, lt-leb (length s - at) (length_at s at) h) refl

-- ---- one turn, by what was answered for the set at `at`

module _ (s : List ℕ) (at : ℕ) where
  -- the part that is lent is all that stands from `at` on
  pub asked : (j : Judged) → j ≡ judge (take (length s - at) (drop at s)) → judge (drop at s) ≡ j
  asked j e = sym (e ∙ ap judge (take_all (length s - at) (drop at s) (omega (arith, length-drop at s))))

  -- a refused set is the last
  module _ (r : Refusal) (e : judge (drop at s) ≡ Err r) where
    pub refused-number : r.no ≡ 0 → ⊥
    refused-number = refusal-number (drop at s) r e

    refused-stop : Ahead s at → stop s ≡ record { at = at; no = no_at s at }
    refused-stop a = a.same ∙ stops-refused a.most s at (ap (λ (j : Judged). (judged_shape j).length) e)

    pub refused-at : Ahead s at → at ≡ (stop s).at
    refused-at a = sym (ap (λ (x : Stop). x.at) (refused-stop a))

    pub refused-no : Ahead s at → r.no ≡ (stop s).no
    refused-no a = sym (ap (λ (x : Stop). x.no) (refused-stop a) ∙ ap (λ (j : Judged). (judged_refusal j).no) e)

  module _ (x : Shape) (e : judge (drop at s) ≡ Ok x) where
    long : length_at s at ≡ x.length
    long = ap (λ (j : Judged). (judged_shape j).length) e

    some : length_at s at ≡ 0 → ⊥
    some z = absurd (omega (arith, long, z, accepted-length (drop at s) x e))

    -- so is one after which nothing stands
    module _ (h : length s - at ≤ x.length) where
      whole-stop : Ahead s at → stop s ≡ record { at = at; no = no_at s at }
      whole-stop a = a.same ∙ stops-last a.most s at some (omega (arith, h, long))

      pub whole-at : Ahead s at → at ≡ (stop s).at
      whole-at a = sym (ap (λ (y : Stop). y.at) (whole-stop a))

      pub whole-no : Ahead s at → 0 ≡ (stop s).no
      whole-no a = sym (ap (λ (y : Stop). y.no) (whole-stop a) ∙ ap (λ (j : Judged). (judged_refusal j).no) e)

    -- any other is followed by the next, which stands further on
    pub ahead-some : 0 < x.length
    ahead-some = accepted-length (drop at s) x e

    pub ahead-next : x.length < length s - at → Ahead s at → Ahead s (at + x.length)
    ahead-next h a = turn a.most a.enough a.same
      where
        turn : (m : ℕ) → length s - at ≤ m → stop s ≡ stop_from m s at → Ahead s (at + x.length)
        turn zero k q = absurd (omega (arith, h, k))
        turn (suc m) k q = record {
          most = m;
          enough = omega (arith, h, k, ahead-some);
          same = q ∙ (goes-on m s at some (omega (arith, h, long)) ∙ ap (λ (y : ℕ). stop_from m s (at + y)) long);
        }
