-- How a set is refused by the sender, by itself: "The sender refuses as the set does, and 18 for a second set." Stated by what a set is and what its first breach is (Keeps of crate `keeps`,
-- Breaches of crate `breaches`), without the definitions of the cable. proofs/SendExact: exactly so it is refused, by the call that begins to send and by the call that makes a block.
use Rattle.std.specs.Prelude.{◌≡◌, List, [], ◌≢◌, ℕ}
use Rattle.meaning.specs.declared.Refusal.{Refusal}
use Rattle.meaning.specs.declared.SetType.{SetType}
use Rattle.meaning.specs.Field.{Field}
use Rattle.meaning.specs.Refusals.{refusal, bad_use}
use Rattle.meaning.specs.Lines.{size}
use Rattle.keeps.specs.Keeps.{Keeps}
use Rattle.breaches.specs.Breaches.{FirstBreach}

-- the bytes s are given as the set to send, and refused with number, place and label r
pub data SendRefused (s : List ℕ) (r : Refusal) : Type 0 where
  -- "refuses as the set does"
  as-the-set : FirstBreach s r → SendRefused s r
  -- "18 for a second set": the first one keeps the rules, and bytes follow it; as everywhere "another set follows (place: first set's length)"
  another-set : (t : SetType) (fs : List Field) (rest : List ℕ) → Keeps s t fs rest → rest ≢ [] → r ≡ refusal bad_use (size fs) 0 → SendRefused s r
