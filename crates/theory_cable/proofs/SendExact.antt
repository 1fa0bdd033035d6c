-- A set is refused by the sender with exactly the reasons of CableBreaches: in the call that begins to send (`begin-refused-with`), and in the one that makes a block (`block-refused-with`).
use mathlib.Core.Path.{◌≡◌, refl, sym, ap, ◌∙◌}
use mathlib.Core.Bool.{true}
use mathlib.Core.List.{List, [], ◌∷◌, cons≢nil}
use mathlib.Core.Logic.{◌↔◌}
use Prim.Native.Nat.{ℕ, ◌+◌}
use lib.ListN.{length}
use Rattle.meaning.specs.declared.Refusal.{Refusal}
use Rattle.meaning.specs.Field.{Field}
use Rattle.meaning.specs.Refusals.{Reply, refused, done, then_to, refusal, bad_use}
use Rattle.meaning.specs.Pieces.{Parsed, parsed}
use Rattle.meaning.specs.Lines.{offset}
use Rattle.meaning.specs.Reading.{read}
use Rattle.meaning.proofs.FaultLaws.{refused-done}
use Rattle.keeps.proofs.Exact.{accepted-keeps, keeps-accepted}
use Rattle.breaches.proofs.CallExact.{refused-same, read-refused, whole_set}
use Rattle.meaning_cable.specs.declared.Link.{Link}
use Rattle.meaning_cable.specs.Stream.{stream}
use Rattle.meaning_cable.specs.Blocks.{block_count, block_of, set_alone, blocks_of, block}
use Rattle.meaning_cable.specs.Sending.{begun, send}
use Rattle.meaning_cable.proofs.OneSetLaws.{set-alone}
use Rattle.theory_cable.specs.CableBreaches.{SendRefused, as-the-set, another-set}

-- "The sender refuses as the set does, and 18 for a second set", and for nothing else: of the lines that all blocks are made of
pub alone-refused-with : (s : List ℕ) (r : Refusal) → (set_alone s ≡ refused r) ↔ SendRefused s r
unfolding set_alone
alone-refused-with s r = (λ e. to (read s) refl e, from)
  where
    to : (y : Reply Parsed) → read s ≡ y → set_alone s ≡ refused r → SendRefused s r
    to (refused y) q e =
        let f : ◌≡◌ {A = Reply (List Field)} (refused y) (refused r) = sym (rw q) ∙ e in
        as-the-set ((read-refused s r).0 (q ∙ ap refused (refused-same f)))
    to (done d) q e = after d.fields d.rest q
      where
        after : (fs : List Field) (rest : List ℕ) → read s ≡ done (parsed fs rest) → SendRefused s r
        after fs [] p = refused-done (sym e ∙ set-alone s fs p)
        after fs (b ∷ bs) p =
            let k = accepted-keeps s (parsed fs (b ∷ bs)) p in
            let f : ◌≡◌ {A = Reply (List Field)} (refused (refusal bad_use (offset fs (length fs) + 0) 0)) (refused r) = sym (rw p) ∙ e in
            another-set k.0 fs (b ∷ bs) k.1 cons≢nil (sym (refused-same f) ∙ ap (λ (z : ℕ). refusal bad_use z 0) (whole_set fs))

    from : SendRefused s r → set_alone s ≡ refused r
    from (as-the-set b) = rw ((read-refused s r).1 b)
    from (another-set t fs [] k n e) = absurd (n refl)
    from (another-set t fs (b ∷ bs) k n e) =
        rw (keeps-accepted s t fs (b ∷ bs) k) (ap refused (ap (λ (z : ℕ). refusal bad_use z 0) (whole_set fs) ∙ sym e))

-- what is only made of lines or of their number is refused exactly if these are
then-refused : {A B : Type 0} (x : Reply A) (f : A → B) (r : Refusal) → (then_to x (λ a. done (f a)) ≡ refused r) ↔ (x ≡ refused r)
then-refused (refused y) f r = (λ e. ap refused (refused-same e), λ e. ap refused (refused-same e))
then-refused (done a) f r = (λ e. refused-done (sym e), λ e. refused-done (sym e))

-- the same of the number of blocks
pub send-refused-with : (s : List ℕ) (r : Refusal) → (blocks_of s ≡ refused r) ↔ SendRefused s r
unfolding blocks_of
send-refused-with s r =
    let x = then-refused (set_alone s) (λ fs. block_count (stream fs)) r in
    let y = alone-refused-with s r in
    (λ e. y.0 (x.0 e), λ b. x.1 (y.1 b))

-- so of the call that begins to send, whatever the link's record holds
pub begin-refused-with : (l : Link) (s : List ℕ) (r : Refusal) → (send l true s ≡ refused r) ↔ SendRefused s r
unfolding send
begin-refused-with l s r =
    let x = then-refused (blocks_of s) (begun l) r in
    let y = send-refused-with s r in
    (λ e. y.0 (x.0 e), λ b. x.1 (y.1 b))

-- and of the call that makes a block, whichever and with whatever count
pub block-refused-with : (s : List ℕ) (i count : ℕ) (r : Refusal) → (block s i count ≡ refused r) ↔ SendRefused s r
unfolding block
block-refused-with s i count r =
    let x = then-refused (set_alone s) (λ fs. block_of (stream fs) i count) r in
    let y = alone-refused-with s r in
    (λ e. y.0 (x.0 e), λ b. x.1 (y.1 b))
