-- Recoding as a call: exactly when it is done and what it leaves; what it leaves is an accepted set in the wanted code page; a refusal leaves every byte.
use mathlib.Core.Path.{◌≡◌, refl, sym, ap, ◌∙◌, subst}
use mathlib.Core.Bool.{true, ◌&&◌}
use mathlib.Core.List.{List, [], ◌++◌}
use Prim.Native.Nat.{ℕ, ◌≤◌}
use native.Mathlib.Omega.{arith}
use lib.Dec.{leb}
use lib.ListN.{length, take}
use lib.Seq.{take_all}
use borrow.Author.Tests.{leb-true, le-leb}
use Rattle.meaning.specs.declared.Refusal.{Refusal}
use Rattle.meaning.specs.declared.Shape.{Shape}
use Rattle.meaning.specs.Limits.{max_set_bytes}
use Rattle.meaning.specs.Field.{Field, is_nil}
use Rattle.meaning.specs.Refusals.{Fault, Reply, done, then_to, verdict, refusal, bad_use}
use Rattle.meaning.specs.Pieces.{Parsed, parsed}
use Rattle.meaning.specs.Lines.{size, render}
use Rattle.meaning.specs.Reading.{in_set, shape, read, judge}
use Rattle.meaning.specs.Lists.{set_with_room, list, write}
use Rattle.meaning.specs.Corrections.{alone_faults}
use Rattle.meaning.specs.Answers.{bytes_left, made_count}
use Rattle.meaning.proofs.Bools.{nil_is, and_left}
use Rattle.meaning.proofs.FaultLaws.{ask-none, cond-done, then_to-done, verdict-done, with_room-done}
use Rattle.meaning.proofs.LineLaws.{length-render}
use Rattle.meaning.proofs.RuleLaws.{ruled}
use Rattle.meaning.proofs.SetLaws.{Standing, read-render}
use Rattle.meaning.proofs.SizeLaws.{ruled-total}
use Rattle.meaning.proofs.CorrectionLaws.{Holds, holds-standing}
use Rattle.meaning.proofs.Demands.{nothing-made, read-judge, list-there, list-write}
use Rattle.meaning.proofs.CallLaws.{done-call, front-made}
use Rattle.meaning_recode.specs.declared.Code.{Code}
use Rattle.meaning_recode.specs.declared.Code.TheVariants.{Page1252}
use Rattle.meaning_recode.specs.Recoding.{has_charset, in_code, recode_faults, recode_lines, recode_set, recode}
use Rattle.meaning_recode.specs.RecodeCalls.{recode_call}
use Rattle.meaning_recode.proofs.StandLaws.{recoded-stands, recoded-in-code, in-1252}
use Rattle.std.specs.Prelude.{Err, Ok}

-- ---- a recoding that was done has no faults, and had room

-- what is known of it
pub record Recoded (b : List ℕ) (used : ℕ) (w : Code) (x : List ℕ) : Type 0 where
  pub lines : List Field
  pub held : Holds b used lines
  pub no-faults : recode_faults w lines ≡ []
  pub room : size (recode_lines w lines) ≤ length b
  pub made : x ≡ render (recode_lines w lines) []

recode-set : (w : Code) (room : ℕ) (d : Parsed) (x : List ℕ) → recode_set w room d ≡ done x
    → (d.rest ≡ []) × (recode_faults w d.fields ≡ []) × (size (recode_lines w d.fields) ≤ room) × (x ≡ render (recode_lines w d.fields) [])
recode-set w room d x e =
    let fs : List Field = d.fields in
    let new : List Field = recode_lines w fs in
    let fl : List Fault = alone_faults d ++ recode_faults w fs in
    let y = then_to-done (verdict (in_set fs) fl new) (λ gs. set_with_room gs room) x e in
    let v = verdict-done (in_set fs) fl new y.0 y.1 in
    let a = ask-none (is_nil d.rest) _ (recode_faults w fs) v.0 in
    let q : set_with_room new room ≡ done x = rw v.1 y.2 in
    let r = with_room-done (leb (size new) room && leb (size new) max_set_bytes) (size new) (render new []) x q in
    (nil_is d.rest a.0, a.1, leb-true (size new) room (and_left (leb (size new) room) _ r.0), sym r.1)

pub recode-only : (b : List ℕ) (used : ℕ) (w : Code) (x : List ℕ) → recode b used w ≡ done x → Recoded b used w x
unfolding recode
recode-only b used w x e =
    let p = cond-done (leb used (length b)) (then_to (read (take used b)) (λ d. recode_set w (length b) d)) (refusal bad_use (length b) 0) x e in
    let y = then_to-done (read (take used b)) (λ d. recode_set w (length b) d) x p.1 in
    let m = recode-set w (length b) y.0 x y.2 in
    record {
      lines = y.0.fields;
      held = record { fits_in = leb-true used (length b) p.0; front = y.1 ∙ ap (λ (t : List ℕ). done (parsed y.0.fields t)) m.0 };
      no-faults = m.1;
      room = m.2;
      made = m.3;
    }

-- ---- and one without faults that has room is done: "over 99,999" never decides

pub recoded-total : (w : Code) (fs : List Field) → Standing fs → recode_faults w fs ≡ [] → size (recode_lines w fs) ≤ max_set_bytes
recoded-total w fs st e =
    let new : Standing (recode_lines w fs) = recoded-stands w fs st e in
    ruled-total (recode_lines w fs) (ruled (recode_lines w fs) new.right).0 new.few

pub recode-makes : (b : List ℕ) (used : ℕ) (w : Code) (fs : List Field) → Holds b used fs → recode_faults w fs ≡ [] → size (recode_lines w fs) ≤ length b
    → recode b used w ≡ done (render (recode_lines w fs) [])
unfolding recode
recode-makes b used w fs h e r =
    rw (le-leb _ _ h.fits_in, h.front, e, le-leb _ _ r, le-leb _ _ (recoded-total w fs (holds-standing b used fs h) e))

-- ---- what it leaves

module _ (b : List ℕ) (used : ℕ) (w : Code) (x : List ℕ) (e : recode b used w ≡ done x) where
  recode-read : (gs : List Field) × (read x ≡ done (parsed gs [])) × (in_code w gs ≡ true) × (size gs ≡ length x)
  recode-read =
      let m = recode-only b used w x e in
      let st : Standing m.lines = holds-standing b used m.lines m.held in
      let new : List Field = recode_lines w m.lines in
      let r : read x ≡ done (parsed new []) = ap read m.made ∙ read-render new [] (recoded-stands w m.lines st m.no-faults) refl in
      (new, r, recoded-in-code w m.lines st, omega (arith, ap length m.made, length-render new []))

  -- "Demand 2 holds before and after": the set that was made is accepted, to its last byte
  pub recode-judged : (y : Shape) × (judge x ≡ Ok y) × (y.length ≡ length x)
  recode-judged = let r = recode-read in (shape r.0, read-judge x (parsed r.0 []) r.1, r.3)

  -- "Given room, an accepted set turned into a field list and written again gives identical bytes"
  pub recode-list-write : (l : List ℕ) × ((room : ℕ) → length l ≤ room → list x room ≡ done l) × ((room : ℕ) → length x ≤ room → write l room ≡ done x)
  recode-list-write =
      let j = recode-judged in
      let t = list-there x j.0 j.1 in
      let all : take j.0.length x ≡ x = take_all j.0.length x (omega (arith, j.2)) in (
        t.0,
        t.1,
        λ room h. list-write x j.0 t.0 (length t.0) room j.1 (t.1 (length t.0) (omega arith)) (omega (arith, j.2)) ∙ ap done all,
      )

  -- its lines are in the wanted code page, and if that is 1252 they say so
  pub recode-wanted : (gs : List Field) × (read x ≡ done (parsed gs [])) × (in_code w gs ≡ true) × (w ≡ Page1252 → has_charset gs ≡ true)
  recode-wanted = let r = recode-read in (r.0, r.1, r.2, λ q. in-1252 r.0 (subst (λ (c : Code). in_code c r.0 ≡ true) q r.2))

-- the same of the call: what it answers is the length of the accepted set in the buffer that it leaves
pub judged-call : (b b' : List ℕ) (used n : ℕ) (w : Code) → Ok n ≡ (recode_call b used w).answer → b' ≡ (recode_call b used w).buffer
    → (y : Shape) × (judge (take n b') ≡ Ok y) × (y.length ≡ n)
judged-call b b' used n w p q =
    let x = done-call (recode b used w) n p in
    let f : take n b' ≡ x.bytes = ap (take n) (q ∙ ap (λ (r : Reply (List ℕ)). bytes_left r b) x.is-done) ∙ front-made x.bytes b n x.so-many in
    let y = recode-judged b used w x.bytes x.is-done in
    (y.0, ap judge f ∙ y.1, y.2 ∙ x.so-many)

-- ---- "After a refusal every lent buffer holds what it held before."

pub refused-recode : (b : List ℕ) (used : ℕ) (w : Code) (r : Refusal) → (recode_call b used w).answer ≡ Err r
    → (made_count (recode_call b used w).answer ≡ 0) × ((recode_call b used w).buffer ≡ b)
refused-recode b used w r = nothing-made (recode b used w) b r
