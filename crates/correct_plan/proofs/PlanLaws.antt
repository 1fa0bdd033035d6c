-- What `planned` is by each of the tests in the code's order.
use mathlib.Core.Path.{◌≡◌, refl, sym, ap, ◌∙◌, subst}
use mathlib.Core.Bool.{Bool, true, false, cond, ◌&&◌, true≢false}
use mathlib.Core.List.{List, [], ◌∷◌}
use Prim.Native.Nat.{ℕ, pred, ◌+◌, ◌-◌, ◌≤◌, ◌<◌}
use native.Mathlib.Omega.{arith}
use lib.Dec.{leb, eqb}
use lib.ListN.{length}
use lib.Seq.{take-length}
use borrow.Author.Tests.{ne_eqb, eqb-true}
use Rattle.std.specs.Prelude.{Ok, Err}
use Rattle.meaning.specs.declared.Refusal.{Refusal}
use Rattle.meaning.specs.declared.Shape.{Shape}
use Rattle.meaning.specs.Limits.{max_set_bytes}
use Rattle.meaning.specs.Field.{Field, content_at_line, is_nil}
use Rattle.meaning.specs.Refusals.{start, byte, tells_byte, refused, done, then_to, verdict, refusal, bad_use, no_room, with_room}
use Rattle.meaning.specs.Pieces.{Parsed}
use Rattle.meaning.specs.Lines.{line_lead, line_end, size, offset, render}
use Rattle.meaning.specs.Reading.{read, judge, shape}
use Rattle.meaning.specs.Lists.{set_with_room}
use Rattle.meaning.specs.Corrections.{change_faults, in_change, changed, correct_lines}
use Rattle.meaning.proofs.Bools.{none-of-length}
use Rattle.meaning.proofs.LineLaws.{length-render}
use Rattle.meaning.proofs.RuleLaws.{ruled, begins-of}
use Rattle.meaning.proofs.SetLaws.{accepted}
use Rattle.meaning.proofs.CorrectionLaws.{Change, no-change-faults}
use Rattle.meaning.proofs.Demands.{judge-read}
use Rattle.correct_offer.specs.declared.OneLine.{OneLine}
use Rattle.correct_offer.specs.declared.Terms.{Terms}
use Rattle.correct_offer.specs.declared.Declined.{Declined}
use Rattle.correct_offer.specs.Offered.{terms_of, Offer, offered, declined, answered, offer_place, offer_line, offer_spot}
use Rattle.correct_offer.proofs.TermsLaws.{Serves, content-served}
use Rattle.correct_offer.proofs.OfferLaws.{Stands, offer-verdict, offer-good, offer-at}
use Rattle.correct_plan.specs.Planned.{within_room, unless, making, planned, Plan}
use Rattle.correct_plan.proofs.TotalLaws.{Headed, headed, not_at, total-is}

-- ---- an accepted set

not-nil : (t : List ℕ) → 0 < length t → is_nil t ≡ false
not-nil [] h = absurd (omega arith)
not-nil (b ∷ t) h = refl

-- the place of an offer's refusal
place-by : (t : Bool) (fs : List Field) (k i at : ℕ) → at ≡ offset fs k → in_change fs k (cond t (byte i) start) ≡ cond t i at
place-by true fs k i at e = refl
place-by false fs k i at e = sym e

module _ (s c : List ℕ) (room n : ℕ) (d : Parsed) (e : read s ≡ done d) where
  long : length s ≡ size d.fields + length d.rest
  long = ap length (accepted s d e).bytes ∙ length-render d.fields d.rest

  planned-read : planned s room n c ≡ unless (correct_lines room n c d) (making d.fields n c)
  unfolding planned
  planned-read = rw e refl

  -- 18: another set follows
  followed : size d.fields < length s → planned s room n c ≡ Err (refusal bad_use (size d.fields) 0)
  followed h =
      let q : is_nil d.rest ≡ false = not-nil d.rest (omega (arith, long)) in
      planned-read ∙ rw (q, take-length d.fields) refl

  no-rest : length s ≤ size d.fields → d.rest ≡ []
  no-rest h = none-of-length d.rest (omega (arith, long))

  -- none follows: 19, 20, 6, 14, 24 decide, and then 22
  alone : length s ≤ size d.fields → planned s room n c
      ≡ unless (then_to (verdict (in_change d.fields) (change_faults d.fields n c) (changed d.fields n c)) (λ fs. set_with_room fs room)) (making d.fields n c)
  alone h = planned-read ∙ rw (no-rest h) refl

  -- 19, 20, 6, 14, 24
  offer-bad : length s ≤ size d.fields → (t : Terms) → Serves d.fields t c → (o : Offer) → o ≡ offered s t n c → (o.no ≡ 0 → ⊥)
      → planned s room n c ≡ Err (refusal o.no (offer_place o) o.label)
  offer-bad h t y o q ne =
      let fs : List Field = d.fields in
      let k : ℕ = offer_line o (length fs) n in
      let v : verdict (in_change fs) (change_faults fs n c) (changed fs n c)
      ≡ cond (eqb o.no 0) (done (changed fs n c)) (refused (refusal o.no (in_change fs k (offer_spot o)) o.label)) =
      rw q (offer-verdict s d t n c e y (in_change fs) (changed fs n c)) in
      let a : o.line.at ≡ offset fs k = rw q (offer-at s d t n c e y) in
      alone h ∙ rw (v, ne_eqb o.no 0 ne, place-by (tells_byte o.no) fs k o.byte o.line.at a) refl

  -- none of them: then 22
  offer-well : length s ≤ size d.fields → change_faults d.fields n c ≡ [] → planned s room n c ≡ unless (set_with_room (changed d.fields n c) room) (making d.fields n c)
  offer-well h q = alone h ∙ rw q refl

-- ---- the tests of `plan_judged`, in its order

-- 22
room_by : (t : Bool) (p : Plan) (need : ℕ) (bs : List ℕ) → unless (with_room t need bs) p ≡ cond t p (Err (refusal no_room need 0))
room_by true p need bs = refl
room_by false p need bs = refl

-- a line that takes the content: its bounds, and that 22 is left to ask
pub record Ready (s c : List ℕ) (room n : ℕ) (y : OneLine) : Type 0 where
  pub least : line_lead + line_end ≤ y.size
  pub within : y.size - (line_lead + line_end) ≤ length s
  pub plan :
      planned s room n c ≡ within_room room y.at (y.size - (line_lead + line_end)) (length s - (y.size - (line_lead + line_end)) + length c)

-- an answer that refuses, and one that has a line
refused-by : (o : Offer) (r : Declined) → Err r ≡ answered o → (o.no ≡ 0 → ⊥) × (r.refusal ≡ refusal o.no (offer_place o) o.label)
refused-by o r = go (eqb o.no 0) refl
  where
    go : (b : Bool) → eqb o.no 0 ≡ b → Err r ≡ cond b (Ok o.line) (Err (declined o)) → (o.no ≡ 0 → ⊥) × (r.refusal ≡ refusal o.no (offer_place o) o.label)
    go true z e = let w : ◌≡◌ {A = ℕ} 0 1 = cc in absurd (omega arith)
    go false z e = let w : r ≡ declined o = cc in (λ v. true≢false (rw v at z), ap (λ (d : Declined). d.refusal) w)

line-by : (o : Offer) (y : OneLine) → Ok y ≡ answered o → (o.no ≡ 0) × (y ≡ o.line)
line-by o y = go (eqb o.no 0) refl
  where
    go : (b : Bool) → eqb o.no 0 ≡ b → Ok y ≡ cond b (Ok o.line) (Err (declined o)) → (o.no ≡ 0) × (y ≡ o.line)
    go true z e = (eqb-true o.no 0 z, cc)
    go false z e = let w : ◌≡◌ {A = ℕ} 0 1 = cc in absurd (omega arith)

module _ (s c : List ℕ) (room n : ℕ) (x : Shape) (j : judge s ≡ Ok x) where
  abbrev what : Parsed
  what = (judge-read s x j).0

  was_read : read s ≡ done what
  was_read = (judge-read s x j).1

  shape-so : x ≡ shape what.fields
  shape-so = (judge-read s x j).2

  length-so : x.length ≡ size what.fields
  length-so = ap (λ (y : Shape). y.length) shape-so

  pub plan-followed : x.length < length s → planned s room n c ≡ Err (refusal bad_use x.length 0)
  plan-followed h = rw length-so (followed s c room n what was_read (omega (arith, length-so)))

  -- the set stands alone: its terms serve for the new content
  serves : length s ≤ x.length → Serves what.fields (terms_of s x c) c
  serves h =
      subst (λ (y : Shape). Serves what.fields (terms_of s y c) c) (sym shape-so)
      (content-served s what was_read (no-rest s c room n what was_read (omega (arith, length-so))) c)

  pub plan-against : (r : Declined) → length s ≤ x.length → Err r ≡ answered (offered s (terms_of s x c) n c) → planned s room n c ≡ Err r.refusal
  plan-against r h q =
      let o : Offer = offered s (terms_of s x c) n c in
      let b = refused-by o r q in
      offer-bad s c room n what was_read (omega (arith, length-so)) (terms_of s x c) (serves h) o refl b.0 ∙ ap Err (sym b.1)

  -- such a change is right, and its line is the one asked for (`offer-good`): so what is planned is `making`, if there is room, and its numbers are the code's
  pub plan-ready : (y : OneLine) → length s ≤ x.length → Ok y ≡ answered (offered s (terms_of s x c) n c) → Ready s c room n y
  plan-ready y h q =
      let b = line-by (offered s (terms_of s x c) n c) y q in
      let fs : List Field = what.fields in
      let k : ℕ = pred n in
      let g : Change fs n c × Stands s fs k y.label y.at y.size =
      subst (λ (z : OneLine). Change fs n c × Stands s fs k z.label z.at z.size) (sym b.1) (offer-good s what (terms_of s x c) n c was_read (serves h) b.0) in
      let ch : Change fs n c = g.0 in
      let st : Stands s fs k y.label y.at y.size = g.1 in
      let hd : Headed fs = headed fs (accepted s what was_read).standing in
      let b = begins-of fs (ruled fs (accepted s what was_read).standing.right).0.begins in
      let l : length s ≡ size fs = omega (arith, long s c room n what was_read, length-so) in
      let total : size fs - length (content_at_line fs k) + length c ≡ size (changed fs n c) =
      total-is c fs k hd (not_at fs k 0 8000 refl b.first-label ch.free) (not_at fs k 1 8100 refl b.second-label ch.free) (omega (arith, ch.least, ch.most)) in
      let new : List Field = changed fs n c in
      record {
        least = omega (arith, st.least);
        within = omega (arith, st.within);
        plan =
            offer-well s c room n what was_read (omega (arith, length-so)) (no-change-faults fs n c ch)
            ∙ room_by (leb (size new) room && leb (size new) max_set_bytes) (making fs n c) (size new) (render new [])
            ∙ rw (st.at-so, st.content-length, l, total) refl;
      }
