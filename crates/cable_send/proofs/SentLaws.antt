-- What the sender's call answers, from how many blocks the set has.
use mathlib.Core.Path.{◌≡◌, refl, sym, ap, ◌∙◌}
use mathlib.Core.Bool.{Bool, true, false}
use mathlib.Core.List.{List}
use Prim.Native.Nat.{ℕ}
use Rattle.meaning.specs.declared.Refusal.{Refusal}
use Rattle.meaning.specs.Refusals.{Reply, refused, done, then_to}
use Rattle.meaning_cable.specs.declared.Link.{Link}
use Rattle.meaning_cable.specs.declared.Turned.{Turned}
use Rattle.meaning_cable.specs.Blocks.{blocks_of}
use Rattle.meaning_cable.specs.Sending.{begun, turn_of, send}
use Rattle.meaning_cable.specs.CableCalls.{sent, counted}
use Rattle.meaning_cable.specs.CableResults.{BlockCount, Sent}
use Rattle.std.specs.Prelude.{Err, Ok}

-- a set of this many blocks begins, or is refused
abbrev sent_of : Link → BlockCount → Sent
sent_of s (Err r) = Err r
sent_of s (Ok n) = Ok (begun s n)

begins-or-not : (s : Link) (n : Reply ℕ) → sent_of s (counted n) ≡ sent (then_to n (λ k. done (begun s k)))
begins-or-not s (refused r) = refl
begins-or-not s (done k) = refl

module _ (s : Link) (begin : Bool) (bytes : List ℕ) where
  sent-set : begin ≡ true → (n : BlockCount) → n ≡ counted (blocks_of bytes) → sent_of s n ≡ sent (send s begin bytes)
  unfolding send
  sent-set is n counts = rw is (ap (sent_of s) counts ∙ begins-or-not s (blocks_of bytes))

  pub sent-refused : begin ≡ true → (n : BlockCount) → n ≡ counted (blocks_of bytes) → (r : Refusal) → n ≡ Err r → Err r ≡ sent (send s begin bytes)
  sent-refused is n counts r told = ap (sent_of s) (sym told) ∙ sent-set is n counts

  pub sent-begun : begin ≡ true → (n : BlockCount) → n ≡ counted (blocks_of bytes) → (k : ℕ) → n ≡ Ok k → (t : Turned) → t ≡ begun s k
      → Ok t ≡ sent (send s begin bytes)
  sent-begun is n counts k told t begins = ap Ok begins ∙ (ap (sent_of s) (sym told) ∙ sent-set is n counts)

  pub sent-reply : begin ≡ false → (t : Turned) → t ≡ turn_of s bytes → Ok t ≡ sent (send s begin bytes)
  unfolding send
  sent-reply is t turned = rw is (ap Ok turned)
