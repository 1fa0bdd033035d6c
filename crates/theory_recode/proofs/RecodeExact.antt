-- Recoding is exact: a set is brought into the wanted code page exactly if it keeps the rules, nothing follows it, the line that it may gain is at most the 512th, every byte is a character of
-- that code page, and there is room; and what is made is what RecodeRules says (`recoded-exactly`). Else it is refused with the number and the place that RecodeBreaches states
-- (`recode-refused-with`).
use mathlib.Core.Path.{◌≡◌, refl, sym, ap, ◌∙◌, subst}
use mathlib.Core.Bool.{Bool, true, false, cond, ◌&&◌}
use mathlib.Core.List.{List, [], ◌∷◌, ◌++◌, cons≢nil}
use mathlib.Core.Logic.{◌↔◌}
use Prim.Native.Nat.{ℕ, ◌+◌, ◌≤◌, ◌<◌}
use native.Mathlib.Omega.{arith}
use lib.Dec.{leb}
use lib.ListN.{length, take}
use borrow.Author.Tests.{leb-true, leb-false, le-leb, lt-leb}
use Rattle.meaning.specs.declared.Refusal.{Refusal}
use Rattle.meaning.specs.Limits.{max_set_bytes}
use Rattle.meaning.specs.Field.{Field, is_nil}
use Rattle.meaning.specs.Refusals.{Fault, at_line, Reply, refused, done, refusal, then_to, verdict, with_room, bad_use, too_many_lines, no_room, no_such_character}
use Rattle.meaning.specs.Pieces.{Parsed, parsed}
use Rattle.meaning.specs.Lines.{size, render}
use Rattle.meaning.specs.Reading.{in_set, read}
use Rattle.meaning.specs.Lists.{set_with_room}
use Rattle.meaning.specs.Corrections.{alone_faults}
use Rattle.meaning.proofs.Bools.{nil_is, and_left}
use Rattle.meaning.proofs.FaultLaws.{ask-none, refused-done, cond-done, then_to-done, verdict-done, with_room-done}
use Rattle.keeps.specs.Keeps.{Keeps}
use Rattle.keeps.proofs.Exact.{accepted-keeps, keeps-accepted}
use Rattle.breaches.proofs.CallExact.{refused-same, read-refused, whole_set}
use Rattle.meaning_recode.specs.declared.Code.{Code}
use Rattle.meaning_recode.specs.Recoding.{recode_faults, recode_lines, recode_set, recode}
use Rattle.theory_recode.specs.RecodeRules.{Recoded, Recodes}
use Rattle.theory_recode.specs.RecodeBreaches.{SetRefused, another-set, too-many-lines, no-such-character, no-room, RecodeRefused, used_over, as-the-set, of-set}
use Rattle.theory_recode.proofs.ContentExact.{some-character}
use Rattle.theory_recode.proofs.FirstUnknown.{one-first}
use Rattle.theory_recode.proofs.RecodeCases.{OfSet, of-set-so, total, recoded-lines, Outcome, fine, many, unknown, outcome, few-enough, recoded-have}

-- ---- done

-- what is known of a set that was recoded
set-done : (w : Code) (room : ℕ) (d : Parsed) (out : List ℕ) → recode_set w room d ≡ done out
    → (d.rest ≡ []) × (recode_faults w d.fields ≡ []) × (size (recode_lines w d.fields) ≤ room) × (out ≡ render (recode_lines w d.fields) [])
set-done w room d out e =
    let fs : List Field = d.fields in
    let new : List Field = recode_lines w fs in
    let faults : List Fault = alone_faults d ++ recode_faults w fs in
    let y = then_to-done (verdict (in_set fs) faults new) (λ gs. set_with_room gs room) out e in
    let v = verdict-done (in_set fs) faults new y.0 y.1 in
    let a = ask-none (is_nil d.rest) (at_line bad_use (length fs) 0) (recode_faults w fs) v.0 in
    let q : set_with_room new room ≡ done out = rw v.1 y.2 in
    let r = with_room-done (leb (size new) room && leb (size new) max_set_bytes) (size new) (render new []) out q in
    (nil_is d.rest a.0, a.1, leb-true (size new) room (and_left (leb (size new) room) _ r.0), sym r.1)

-- lines without a fault are recoded by the rules
by-rules : (w : Code) (fs : List Field) → recode_faults w fs ≡ [] → Outcome w fs → Recoded w fs (recode_lines w fs)
by-rules w fs q (fine f x) = x
by-rules w fs q (many p n l xs f) = absurd (cons≢nil (sym f ∙ q))
by-rules w fs q (unknown p n k i x xs f) = absurd (cons≢nil (sym f ∙ q))

recode-recodes : (b : List ℕ) (used : ℕ) (w : Code) (out : List ℕ) → recode b used w ≡ done out → Recodes b used w out
unfolding recode
recode-recodes b used w out e =
    let p = cond-done (leb used (length b)) (then_to (read (take used b)) (λ d. recode_set w (length b) d)) (refusal bad_use (length b) 0) out e in
    let y = then_to-done (read (take used b)) (λ d. recode_set w (length b) d) out p.1 in
    let fs : List Field = y.0.fields in
    let m = set-done w (length b) y.0 out y.2 in
    let k = accepted-keeps (take used b) y.0 y.1 in
    record {
      set-type = k.0;
      lines = fs;
      new = recode_lines w fs;
      used-within = leb-true used (length b) p.0;
      keeps = subst (λ (t : List ℕ). Keeps (take used b) k.0 fs t) m.0 k.1;
      new-lines = by-rules w fs m.1 (outcome w fs (of-set-so (take used b) k.0 fs y.0.rest k.1));
      has_room = m.2;
      out-is = m.3;
    }

recodes-recode : (b : List ℕ) (used : ℕ) (w : Code) (out : List ℕ) → Recodes b used w out → recode b used w ≡ done out
unfolding recode
recodes-recode b used w out x =
    let fs : List Field = x.lines in
    let s : OfSet fs = of-set-so (take used b) x.set-type fs [] x.keeps in
    let c = recoded-lines w fs x.new s x.new-lines in
    let room : size (recode_lines w fs) ≤ length b = subst (λ (gs : List Field). size gs ≤ length b) c.1 x.has_room in
    rw (
      le-leb used (length b) x.used-within,
      keeps-accepted (take used b) x.set-type fs [] x.keeps,
      c.0,
      le-leb (size (recode_lines w fs)) (length b) room,
      le-leb (size (recode_lines w fs)) max_set_bytes (total w fs s),
    )
    (ap done (sym (x.out-is ∙ ap (λ (gs : List Field). render gs []) c.1)))

-- A set is brought into the wanted code page exactly if nothing in the request speaks against it.
pub recoded-exactly : (b : List ℕ) (used : ℕ) (w : Code) (out : List ℕ) → (recode b used w ≡ done out) ↔ Recodes b used w out
recoded-exactly b used w out = (recode-recodes b used w out, recodes-recode b used w out)

-- ---- refused

module _ (room : ℕ) (w : Code) (fs : List Field) (r : Refusal) (s : OfSet fs) where
  abbrev new : List Field
  new = recode_lines w fs

  abbrev answer : List Fault → Reply (List ℕ)
  answer xs = then_to (verdict (in_set fs) xs new) (λ gs. set_with_room gs room)

  room-lacks : set_with_room new room ≡ refused r → (room < size new) × (r ≡ refusal no_room (size new) 0)
  room-lacks e = go (leb (size new) room) refl (subst (λ (t : Bool). with_room (leb (size new) room && t) (size new) (render new []) ≡ refused r) (le-leb (size new) max_set_bytes (total w fs s)) e)
    where
      go : (t : Bool) → leb (size new) room ≡ t → with_room (t && true) (size new) (render new []) ≡ refused r → (room < size new) × (r ≡ refusal no_room (size new) 0)
      go true p f = refused-done (sym f)
      go false p f = (leb-false (size new) room p, sym (refused-same f))

  many-place : refusal too_many_lines (in_set fs (length fs) (at_line too_many_lines (length fs) 0).spot) 0 ≡ refusal too_many_lines (size fs) 0
  many-place = ap (λ (z : ℕ). refusal too_many_lines z 0) (whole_set fs)

  refused-set : (rest : List ℕ) → recode_set w room (parsed fs rest) ≡ refused r → SetRefused room w fs rest r
  refused-set (b ∷ bs) e = another-set cons≢nil (sym (refused-same e) ∙ ap (λ (z : ℕ). refusal bad_use z 0) (whole_set fs))
  refused-set [] e = go (outcome w fs s)
    where
      go : Outcome w fs → SetRefused room w fs [] r
      go (fine f x) = let l = room-lacks (sym (ap answer f) ∙ e) in no-room refl new x l.0 l.1
      go (many p n l xs f) = too-many-lines refl p n l (sym (refused-same (sym (ap answer f) ∙ e)) ∙ many-place)
      go (unknown p m k i x xs f) = no-such-character refl p m k i x (sym (refused-same (sym (ap answer f) ∙ e)))

  set-refused : (rest : List ℕ) → SetRefused room w fs rest r → recode_set w room (parsed fs rest) ≡ refused r
  set-refused [] (another-set n e) = absurd (n refl)
  set-refused (b ∷ bs) (another-set n e) = ap refused (sym (e ∙ ap (λ (z : ℕ). refusal bad_use z 0) (sym (whole_set fs))))
  set-refused (b ∷ bs) (too-many-lines n p c l e) = absurd (cons≢nil n)
  set-refused (b ∷ bs) (no-such-character n p m k i x e) = absurd (cons≢nil n)
  set-refused (b ∷ bs) (no-room n gs x l e) = absurd (cons≢nil n)
  set-refused [] (too-many-lines n p c l e) = go (outcome w fs s)
    where
      go : Outcome w fs → answer (recode_faults w fs) ≡ refused r
      go (fine f x) = absurd (omega (arith, few-enough w fs new p c x))
      go (many q d m xs f) = ap answer f ∙ ap refused (many-place ∙ sym e)
      go (unknown q m k i x xs f) = absurd (omega (arith, m c))
  set-refused [] (no-such-character n p m k i x e) = go (outcome w fs s)
    where
      go : Outcome w fs → answer (recode_faults w fs) ≡ refused r
      go (fine f y) = absurd (some-character w _ (recoded-have w fs new s p y k x.a-line i x.a_byte) x.no-character)
      go (many q d l xs f) = absurd (omega (arith, m d))
      go (unknown q d j h y xs f) = ap answer f ∙ ap refused (ap (λ (z : ℕ). refusal no_such_character z 0) (one-first w fs j h k i y x) ∙ sym e)
  set-refused [] (no-room n gs x l e) =
      let c = recoded-lines w fs gs s x in
      let q : r ≡ refusal no_room (size new) 0 = e ∙ ap (λ (y : List Field). refusal no_room (size y) 0) c.1 in
      ap answer c.0 ∙ rw (lt-leb (size new) room (subst (λ (y : List Field). room < size y) c.1 l)) (ap refused (sym q))

-- Recoding is refused with number, place and label r exactly if they are those of the first reason in the request's order.
pub recode-refused-with : (b : List ℕ) (used : ℕ) (w : Code) (r : Refusal) → (recode b used w ≡ refused r) ↔ RecodeRefused b used w r
unfolding recode
recode-refused-with b used w r = (λ e. within (leb used (length b)) refl e, from)
  where
    set : used ≤ length b → (y : Reply Parsed) → read (take used b) ≡ y → then_to y (λ d. recode_set w (length b) d) ≡ refused r → RecodeRefused b used w r
    set l (refused y) q f = as-the-set l ((read-refused (take used b) r).0 (q ∙ ap refused (refused-same f)))
    set l (done d) q f =
        let k = accepted-keeps (take used b) d q in
        let s : OfSet d.fields = of-set-so (take used b) k.0 d.fields d.rest k.1 in
        of-set l k.0 d.fields d.rest k.1 (refused-set (length b) w d.fields r s d.rest f)

    within : (t : Bool) → leb used (length b) ≡ t → cond t (then_to (read (take used b)) (λ d. recode_set w (length b) d)) (refused (refusal bad_use (length b) 0)) ≡ refused r
        → RecodeRefused b used w r
    within true p f = set (leb-true used (length b) p) (read (take used b)) refl f
    within false p f = used_over (leb-false used (length b) p) (sym (refused-same f))

    from : RecodeRefused b used w r → recode b used w ≡ refused r
    from (used_over l f) = rw (lt-leb used (length b) l) (ap refused (sym f))
    from (as-the-set l f) = rw (le-leb used (length b) l, (read-refused (take used b) r).1 f) refl
    from (of-set l t fs rest k x) =
        rw (le-leb used (length b) l, keeps-accepted (take used b) t fs rest k) (set-refused (length b) w fs r (of-set-so (take used b) t fs rest k) rest x)
