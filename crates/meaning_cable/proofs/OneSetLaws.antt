-- An accepted set that stands alone in its bytes: its lines, its data and its blocks.
use mathlib.Core.Path.{◌≡◌, refl, sym, ap, ◌∙◌, subst}
use mathlib.Core.List.{List, [], ◌∷◌, ◌++◌, cons≢nil}
use Prim.Native.Nat.{ℕ, ◌-◌, ◌≤◌, ◌<◌}
use native.Mathlib.Omega.{arith}
use lib.ListN.{length}
use Rattle.meaning.specs.Field.{Field}
use Rattle.meaning.specs.Refusals.{done, verdict}
use Rattle.meaning.specs.Pieces.{parsed}
use Rattle.meaning.specs.Lines.{cr, lf, size, render}
use Rattle.meaning.specs.Rules.{start_faults}
use Rattle.meaning.specs.Reading.{read, in_set}
use Rattle.meaning.specs.Corrections.{alone_faults}
use Rattle.meaning.proofs.Bools.{Every}
use Rattle.meaning.proofs.FaultLaws.{done-same, then_to-done, verdict-done}
use Rattle.meaning.proofs.LineLaws.{Sound}
use Rattle.meaning.proofs.RuleLaws.{ruled, begins-of}
use Rattle.meaning.proofs.SetLaws.{Standing, accepted}
use Rattle.meaning_cable.specs.Stream.{separator, bare_then, stream, restored}
use Rattle.meaning_cable.specs.Blocks.{block_count, block_data, set_alone, blocks_of}
use Rattle.meaning_cable.proofs.StreamLaws.{bare-end, stream-some, stream-back, stream-length}
use Rattle.meaning_cable.proofs.BlockLaws.{data-some, count-least}

-- ---- its lines

-- an accepted set has a first line
pub first-line : (fs : List Field) → Standing fs → (f : Field) × (gs : List Field) × (fs ≡ f ∷ gs)
unfolding start_faults
first-line [] h = absurd (cons≢nil (ruled [] h.right).0.begins)
first-line (f ∷ gs) h = (f, gs, refl)

pub stream-of : (fs : List Field) → Standing fs → restored (stream fs) ++ (cr ∷ lf ∷ []) ≡ render fs []
stream-of fs h = go fs (first-line fs h) h.sound
  where
    go : (gs : List Field) → (f : Field) × (hs : List Field) × (gs ≡ f ∷ hs) → Every Sound gs → restored (stream gs) ++ (cr ∷ lf ∷ []) ≡ render gs []
    go gs (f, hs, e) k = subst (λ (y : List Field). restored (stream y) ++ (cr ∷ lf ∷ []) ≡ render y []) (sym e) (stream-back f hs (subst (Every Sound) e k))

-- each block of an accepted set has data: it has a first line, a 1Ch after it, and a second line
pub block-some : (fs : List Field) → Standing fs → (i : ℕ) → i < block_count (stream fs) → 1 ≤ length (block_data (stream fs) i)
unfolding stream start_faults
block-some [] h i l = absurd (cons≢nil (ruled [] h.right).0.begins)
block-some (f ∷ []) h i l = let z : ◌≡◌ {A = ℕ} 0 8100 = (begins-of (f ∷ []) (ruled (f ∷ []) h.right).0.begins).second-label in absurd (omega arith)
block-some (f ∷ g ∷ fs) h i l =
    let whole : bare_then f [] ++ (separator ∷ stream (g ∷ fs)) ≡ stream (f ∷ g ∷ fs) = bare-end f [] (separator ∷ stream (g ∷ fs)) in
    subst (λ (x : List ℕ). i < block_count x → 1 ≤ length (block_data x i)) whole (data-some (bare_then f []) (stream (g ∷ fs)) (stream-some g fs) i) l

-- ---- alone in its bytes

-- a set that nothing follows
pub set-alone : (s : List ℕ) (fs : List Field) → read s ≡ done (parsed fs []) → set_alone s ≡ done fs
unfolding set_alone
set-alone s fs e = rw e

-- and the other way round: nothing follows
pub alone-read : (s : List ℕ) (fs : List Field) → set_alone s ≡ done fs → read s ≡ done (parsed fs [])
unfolding set_alone
alone-read s fs e =
    let x = then_to-done (read s) (λ d. verdict (in_set d.fields) (alone_faults d) d.fields) fs e in
    let v = verdict-done (in_set x.0.fields) (alone_faults x.0) x.0.fields fs x.2 in
    x.1 ∙ ap done (go x.0.fields x.0.rest v.0 v.1)
  where
    go : (gs : List Field) (t : List ℕ) → alone_faults (parsed gs t) ≡ [] → gs ≡ fs → parsed gs t ≡ parsed fs []
    go gs [] n q = ap (λ (l : List Field). parsed l []) q
    go gs (b ∷ t) n q = absurd (cons≢nil n)

-- n bytes in m lines: n - m - 1 bytes of data (E3a)
pub data-of-set : (s : List ℕ) (fs : List Field) → set_alone s ≡ done fs → length (stream fs) ≡ size fs - length fs - 1
data-of-set s fs e = go fs (first-line fs (accepted s (parsed fs []) (alone-read s fs e)).standing)
  where
    go : (gs : List Field) → (f : Field) × (hs : List Field) × (gs ≡ f ∷ hs) → length (stream gs) ≡ size gs - length gs - 1
    go gs (f, hs, q) = subst (λ (y : List Field). length (stream y) ≡ size y - length y - 1) (sym q) (omega (arith, stream-length f hs))

-- it has two blocks or more (E3b)
pub two_blocks : (s : List ℕ) (n : ℕ) → blocks_of s ≡ done n → 2 ≤ n
unfolding blocks_of
two_blocks s n e =
    let x = then_to-done (set_alone s) (λ fs. done (block_count (stream fs))) n e in
    subst (λ (k : ℕ). 2 ≤ k) (done-same x.2) (count-least (stream x.0))
