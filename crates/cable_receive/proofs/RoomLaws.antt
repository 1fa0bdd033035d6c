-- Putting a block in, or 22: what each `return` of `put_at` and `took` has to show.
use mathlib.Core.Path.{◌≡◌, refl, ap, ◌∙◌}
use mathlib.Core.List.{List}
use mathlib.Core.Logic.{◌⊎◌, inl, inr, ◌≢◌}
use Prim.Native.Nat.{ℕ, ◌+◌, ◌≤◌, ◌<◌, min}
use native.Mathlib.Omega.{arith}
use lib.ListN.{length}
use borrow.Author.Tests.{le-leb, lt-leb, eq-eqb, ne_eqb}
use Rattle.meaning.specs.declared.Refusal.{Refusal}
use Rattle.meaning.specs.Refusals.{refused, done, refusal, no_room}
use Rattle.meaning_cable.specs.declared.Receiver.{Receiver}
use Rattle.meaning_cable.specs.declared.BlockLabel.{BlockLabel}
use Rattle.meaning_cable.specs.declared.BlockLabel.TheVariants.{B00, B01}
use Rattle.meaning_cable.specs.declared.Taken.{Taken}
use Rattle.meaning_cable.specs.declared.BlockOutcome.TheVariants.{Taken as TakenOnce, Whole}
use Rattle.meaning_cable.specs.Blocks.{b02, label_digit}
use Rattle.meaning_cable.specs.Receiving.{keeping, took_one, written, max_place, put_by, open_by, answer_by, put_at}
use Rattle.meaning_cable.specs.CableCalls.{outcome_of, received_call}
use Rattle.cable_receive.proofs.TurnLaws.{shown}
use Rattle.std.specs.Prelude.{Err, Ok}

-- what is answered for a block that was put
abbrev pub took_as : ℕ → ℕ → ℕ → Taken
took_as count label used = record { what = outcome_of (answer_by label); receiver = took_one count (open_by label) used }

-- a label that is not the last
pub not-last : (l : BlockLabel) → (l ≡ B00) ⊎ (l ≡ B01) → label_digit l ≢ b02
not-last l (inl e) h = omega (arith, h, ap label_digit e)
not-last l (inr e) h = omega (arith, h, ap label_digit e)

pub took-last : (count label used : ℕ) → label ≡ b02 → took_as count label used ≡ record { what = Whole; receiver = took_one count 0 used }
unfolding answer_by open_by
took-last count label used e = rw (eq-eqb label b02 e)

pub took-other : (count label used : ℕ) → label ≢ b02 → took_as count label used ≡ record { what = TakenOnce; receiver = took_one count 1 used }
unfolding answer_by open_by
took-other count label used h = rw (ne_eqb label b02 h)

module _ (st : Receiver) (buf : List ℕ) (at count label : ℕ) (x : List ℕ) where
  -- the length that is used then
  abbrev need : ℕ
  need = at + length (put_by label x)

  no-room : length buf < need → put_at st buf at count label x ≡ keeping st buf (refused (refusal no_room (min need max_place) 0))
  unfolding put_at
  no-room h = rw (lt-leb need (length buf) h)

  has_room : need ≤ length buf
      → put_at st buf at count label x ≡ record { answer = done (answer_by label); state = took_one count (open_by label) need; buffer = written buf at (put_by label x) }
  unfolding put_at
  has_room h = rw (le-leb need (length buf) h)

  -- 22, with the need as it is told
  pub put_full : length buf < need → (n : ℕ) (r : Refusal) → n ≡ min need max_place → r ≡ refusal no_room n 0
      → (Err r ≡ received_call (put_at st buf at count label x)) × (buf ≡ (put_at st buf at count label x).buffer)
  put_full h n r e q =
      shown (Err r) buf (put_at st buf at count label x) (keeping st buf (refused (refusal no_room (min need max_place) 0))) (no-room h)
      (ap Err (q ∙ ap (λ (m : ℕ). refusal no_room m 0) e), refl)

  pub put-made : need ≤ length buf → (used : ℕ) (t : Taken) (b : List ℕ) → used ≡ need → t ≡ took_as count label used → b ≡ written buf at (put_by label x)
      → (Ok t ≡ received_call (put_at st buf at count label x)) × (b ≡ (put_at st buf at count label x).buffer)
  put-made h used t b e q w =
      shown (Ok t) b (put_at st buf at count label x) _ (has_room h) (ap Ok (q ∙ ap (took_as count label) e), w)
