-- Scanning undoes writing, and writing undoes scanning: once, for every form of piece.
use mathlib.Core.Path.{◌≡◌, refl, sym, ap, ◌∙◌, subst}
use mathlib.Core.Bool.{Bool, true, false, cond}
use mathlib.Core.List.{List, [], ◌∷◌}
use Prim.Native.Nat.{ℕ, zero, suc, ◌+◌, ◌≤◌}
use native.Mathlib.Omega.{arith}
use lib.ListN.{length, drop}
use Rattle.meaning.specs.Field.{Field}
use Rattle.meaning.specs.Refusals.{Fault, Reply, refused, done, refusal, too_many_lines}
use Rattle.meaning.specs.Pieces.{Form, Parsed, parsed, and_before, piece_then, pieces, put_all}
use Rattle.meaning.proofs.Bools.{Every, every_drop}
use Rattle.meaning.proofs.FaultLaws.{refused-done, done-same}

-- what a form must keep, for the fields that are good in it and bytes of B: reading undoes writing, and writing reading, for one piece
pub record Lawful (F : Form) (Good : Field → Type 0) (B : ℕ → Type 0) : Type 0 where
  pub no-fault : (f : Field) (t : List ℕ) → Good f → F.faults (F.put f t) ≡ []
  pub same : (f : Field) (t : List ℕ) → Good f → F.piece (F.put f t) ≡ f
  pub rest : (f : Field) (t : List ℕ) → Good f → drop (F.width (F.put f t)) (F.put f t) ≡ t
  pub goes-on : (f : Field) (t : List ℕ) → Good f → F.over (F.put f t) ≡ false
  pub back : (s : List ℕ) → Every B s → F.faults s ≡ [] → s ≡ F.put (F.piece s) (drop (F.width s) s)
  pub good : (s : List ℕ) → Every B s → F.faults s ≡ [] → F.over s ≡ false → Good (F.piece s)

-- s is the pieces of at most n good fields, and then t, at which the pieces end
pub record Parts (F : Form) (Good : Field → Type 0) (n : ℕ) (s : List ℕ) (fs : List Field) (t : List ℕ) : Type 0 where
  pub whole : s ≡ put_all F fs t
  pub few : length fs ≤ n
  pub all-good : Every Good fs
  pub at-end : F.over t ≡ true

-- a reply with a field put before it is done only if the reply was done
pub before-done : (f : Field) (r : Reply Parsed) (fs : List Field) (t : List ℕ) → and_before f r ≡ done (parsed fs t)
    → (gs : List Field) × (fs ≡ f ∷ gs) × (r ≡ done (parsed gs t))
before-done f (refused x) fs t e = refused-done e
before-done f (done d) fs t e =
    let q : parsed (f ∷ d.fields) d.rest ≡ parsed fs t = done-same e in
    (d.fields, sym (ap (λ (x : Parsed). x.fields) q), ap (λ (u : List ℕ). done (parsed d.fields u)) (ap (λ (x : Parsed). x.rest) q))

-- a piece that was read has no fault
pub piece_back : (F : Form) (fl : List Fault) (at : ℕ) (s : List ℕ) (k : ℕ → List ℕ → Reply Parsed) (fs : List Field) (t : List ℕ) → F.faults s ≡ fl
    → piece_then F fl at s k ≡ done (parsed fs t)
    → (F.faults s ≡ []) × (gs : List Field) × (fs ≡ F.piece s ∷ gs) × (k (at + F.width s) (drop (F.width s) s) ≡ done (parsed gs t))
piece_back F [] at s k fs t e h =
    let r = before-done (F.piece s) (k (at + F.width s) (drop (F.width s) s)) fs t h in
    (e, r.0, r.1, r.2)
piece_back F (x ∷ xs) at s k fs t e h = refused-done h

module _ (F : Form) (Good : Field → Type 0) (B : ℕ → Type 0) (L : Lawful F Good B) where
  pub piece_of : (f : Field) (t : List ℕ) (at : ℕ) (k : ℕ → List ℕ → Reply Parsed) → Good f
      → piece_then F (F.faults (F.put f t)) at (F.put f t) k ≡ and_before f (k (at + F.width (F.put f t)) t)
  piece_of f t at k g = rw (L.no-fault f t g, L.same f t g, L.rest f t g)

  -- reading undoes writing
  pub pieces-put : (n at : ℕ) (fs : List Field) (t : List ℕ) → length fs ≤ n → Every Good fs → F.over t ≡ true
      → pieces F n at (put_all F fs t) ≡ done (parsed fs t)
  unfolding pieces
  pieces-put zero at [] t l h e = rw e
  pieces-put zero at (f ∷ fs) t l h e = absurd (omega arith)
  pieces-put (suc n) at [] t l h e = rw e
  pieces-put (suc n) at (f ∷ fs) t l h e =
      rw (L.goes-on f (put_all F fs t) h.0) (
      piece_of f (put_all F fs t) at (λ p s. pieces F n p s) h.0
      ∙ ap (and_before f) (pieces-put n _ fs t (omega arith) h.1 e))

  no-parts : (n : ℕ) (s : List ℕ) (fs : List Field) (t : List ℕ) → F.over s ≡ true → done (parsed [] s) ≡ done (parsed fs t) → Parts F Good n s fs t
  no-parts n s fs t e q =
      subst (λ (d : Parsed). Parts F Good n s d.fields d.rest) (done-same q) (record { whole = refl; few = omega arith; all-good = tt; at-end = e })

  more_parts : (n : ℕ) (s : List ℕ) (gs : List Field) (t : List ℕ) → Every B s → F.faults s ≡ [] → F.over s ≡ false → Parts F Good n (drop (F.width s) s) gs t
      → Parts F Good (suc n) s (F.piece s ∷ gs) t
  more_parts n s gs t b w e r = record {
    whole = L.back s b w ∙ ap (F.put (F.piece s)) r.whole;
    few = omega arith;
    all-good = (L.good s b w e, r.all-good);
    at-end = r.at-end;
  }

  -- writing undoes reading
  pub pieces-only : (n at : ℕ) (s : List ℕ) (fs : List Field) (t : List ℕ) → Every B s → pieces F n at s ≡ done (parsed fs t) → Parts F Good n s fs t
  unfolding pieces
  pieces-only zero at s fs t w h = ends (F.over s) refl h
    where
      ends : (b : Bool) → F.over s ≡ b → cond b (done (parsed [] s)) (refused (refusal too_many_lines at 0)) ≡ done (parsed fs t) → Parts F Good zero s fs t
      ends true e q = no-parts zero s fs t e q
      ends false e q = refused-done q
  pieces-only (suc n) at s fs t w h = go (λ p s' fs' t'. pieces-only n p s' fs' t') (F.over s) refl h
    where
      go : ((p : ℕ) (s' : List ℕ) (fs' : List Field) (t' : List ℕ) → Every B s' → pieces F n p s' ≡ done (parsed fs' t') → Parts F Good n s' fs' t')
          → (b : Bool) → F.over s ≡ b → cond b (done (parsed [] s)) (piece_then F (F.faults s) at s (λ p t. pieces F n p t)) ≡ done (parsed fs t) → Parts F Good (suc n) s fs t
      go ih true e q = no-parts (suc n) s fs t e q
      go ih false e q =
          let r = piece_back F (F.faults s) at s (λ p t. pieces F n p t) fs t refl q in
          subst (λ (l : List Field). Parts F Good (suc n) s l t) (sym r.2)
          (more_parts n s r.1 t w r.0 e (ih (at + F.width s) (drop (F.width s) s) r.1 t (every_drop B (F.width s) s w) r.3))
