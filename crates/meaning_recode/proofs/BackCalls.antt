-- There and back, on the calls: if a recoding is done, the next one, of the buffer that it left, is done as well, and here is what that one answers and leaves.
use mathlib.Core.Path.{◌≡◌, sym, ap, ap₂, ◌∙◌, subst}
use mathlib.Core.Bool.{true, false}
use mathlib.Core.List.{List, [], ◌++◌, map}
use Prim.Native.Nat.{ℕ, ◌+◌, ◌-◌, ◌≤◌}
use native.Mathlib.Omega.{arith}
use lib.ListN.{length, take, replicate, length-take}
use Rattle.meaning.specs.Field.{Field}
use Rattle.meaning.specs.Refusals.{Reply, done}
use Rattle.meaning.specs.Pieces.{parsed}
use Rattle.meaning.specs.Lines.{size, render}
use Rattle.meaning.specs.Rules.{seven_bit}
use Rattle.meaning.specs.Reading.{read}
use Rattle.meaning.specs.Corrections.{resum}
use Rattle.meaning.specs.Answers.{made, bytes_left}
use Rattle.meaning.proofs.LineLaws.{length-render}
use Rattle.meaning.proofs.SetLaws.{Standing, accepted}
use Rattle.meaning.proofs.CorrectionLaws.{Holds, holds-standing, same_lines, leaves, length-leaves, holds-leaves}
use Rattle.meaning.proofs.Demands.{left-by-length}
use Rattle.meaning.proofs.CallLaws.{done-call}
use Rattle.meaning_recode.specs.declared.Code.{Code}
use Rattle.meaning_recode.specs.declared.Code.TheVariants.{Page437, Page1252}
use Rattle.meaning_recode.specs.Recoding.{names_code, has_charset, in_code, recode_faults, charset_field, with_charset, recode_lines, recode}
use Rattle.meaning_recode.specs.RecodeCalls.{recode_call}
use Rattle.meaning_recode.proofs.CodeLaws.{other}
use Rattle.meaning_recode.proofs.StandLaws.{says-has, recoded-stands, size-kept}
use Rattle.meaning_recode.proofs.RecodeLaws.{recode-only, recode-makes}
use Rattle.meaning_recode.proofs.BackLaws.{Becomes, stays, twice, there_and_back, from-seven, seven-and-back, line-and-back, gained_bytes, line-size, named-gains-none}
use Rattle.std.specs.Prelude.{Ok}

-- ---- the bytes that a buffer holds

held_bytes : (b : List ℕ) (used : ℕ) (fs : List Field) → Holds b used fs → take used b ≡ render fs []
held_bytes b used fs h = (accepted (take used b) (parsed fs []) h.front).bytes

held-size : (b : List ℕ) (used : ℕ) (fs : List Field) → Holds b used fs → size fs ≡ used
held-size b used fs h = omega (arith, ap length (held_bytes b used fs h), length-render fs [], length-take used b, h.fits_in)

-- the set alone, and zeros
held-alone : (b : List ℕ) (used : ℕ) (fs : List Field) → Holds b used fs → leaves fs b ≡ take used b ++ replicate (length b - used) 0
held-alone b used fs h =
    let n : length (render fs []) ≡ used = omega (arith, length-render fs [], held-size b used fs h) in
    ap₂ (λ (x : List ℕ) (k : ℕ). x ++ replicate (length b - k) 0) (sym (held_bytes b used fs h)) n

-- ---- a recoding that is done, of a buffer that holds the lines fs

pub record FirstDone (b b' : List ℕ) (used n : ℕ) (w : Code) (fs : List Field) : Type 0 where
  pub held : Holds b used fs
  pub no-faults : recode_faults w fs ≡ []
  pub room : size (recode_lines w fs) ≤ length b
  pub count : n ≡ size (recode_lines w fs)
  pub left : b' ≡ leaves (recode_lines w fs) b

pub first_done : (b b' : List ℕ) (used n : ℕ) (w : Code) (fs : List Field) → read (take used b) ≡ done (parsed fs [])
    → Ok n ≡ (recode_call b used w).answer → b' ≡ (recode_call b used w).buffer → FirstDone b b' used n w fs
first_done b b' used n w fs r p q =
    let x = done-call (recode b used w) n p in
    let m = recode-only b used w x.bytes x.is-done in
    let h : Holds b used fs = record { fits_in = m.held.fits_in; front = r } in
    let same : m.lines ≡ fs = same_lines b used m.lines fs m.held h in
    let is : x.bytes ≡ render (recode_lines w fs) [] = m.made ∙ ap (λ (l : List Field). render (recode_lines w l) []) same in
    record {
      held = h;
      no-faults = subst (λ (l : List Field). recode_faults w l ≡ []) same m.no-faults;
      room = subst (λ (l : List Field). size (recode_lines w l) ≤ length b) same m.room;
      count = omega (arith, x.so-many, ap length is, length-render (recode_lines w fs) []);
      left = q ∙ (ap (λ (y : Reply (List ℕ)). bytes_left y b) x.is-done ∙ ap (λ (y : List ℕ). bytes_left (done y) b) is);
    }

-- the buffer that a call left with the lines hs, n bytes of them
pub left-held : (b b' : List ℕ) (n : ℕ) (hs : List Field) → Standing hs → size hs ≤ length b → n ≡ size hs → b' ≡ leaves hs b → Holds b' n hs
left-held b b' n hs st room count left =
    subst (λ (y : List ℕ). Holds y n hs) (sym left) (subst (λ (j : ℕ). Holds (leaves hs b) j hs) (sym count) (holds-leaves hs b st room))

-- it is as long as before
pub left-length : (b b' : List ℕ) (hs : List Field) → size hs ≤ length b → b' ≡ leaves hs b → length b' ≡ length b
left-length b b' hs room left = ap length left ∙ length-leaves hs b room

-- a recoding that has no fault and gains no line is done, in any buffer
kept-done : (b : List ℕ) (used : ℕ) (w : Code) (fs ks : List Field) → Holds b used fs → Becomes w fs ks
    → ((recode_call b used w).answer ≡ Ok used) × ((recode_call b used w).buffer ≡ leaves ks b)
kept-done b used w fs ks h k =
    let same : size (recode_lines w fs) ≡ used = size-kept w fs (holds-standing b used fs h) k.without-gain ∙ held-size b used fs h in
    let is : recode b used w ≡ done (render ks []) =
    recode-makes b used w fs h k.without-fault (omega (arith, h.fits_in)) ∙ ap (λ (l : List Field). done (render l [])) k.lines-so in
    let size-so : size ks ≡ used = ap size (sym k.lines-so) ∙ same in
    (ap made is ∙ ap Ok (length-render ks [] ∙ omega arith), ap (λ (y : Reply (List ℕ)). bytes_left y b) is)

-- and so is one of the buffer that another left
next-done : (b b' : List ℕ) (used n : ℕ) (w v : Code) (fs ks : List Field) → FirstDone b b' used n w fs → Becomes v (recode_lines w fs) ks
    → ((recode_call b' n v).answer ≡ Ok n) × ((recode_call b' n v).buffer ≡ leaves ks b)
next-done b b' used n w v fs ks d k =
    let hs : List Field = recode_lines w fs in
    let st : Standing hs = recoded-stands w fs (holds-standing b used fs d.held) d.no-faults in
    let h : Holds b' n hs = left-held b b' n hs st d.room d.count d.left in
    let x = kept-done b' n v hs ks h k in
    (x.0, x.1 ∙ left-by-length (render ks []) b' b (left-length b b' hs d.room d.left))

-- ---- "A set already in the wanted code stays as it is."

-- it is never refused, and the bytes after it become zero
pub stays-call : (b : List ℕ) (used : ℕ) (w : Code) (fs : List Field) → used ≤ length b → read (take used b) ≡ done (parsed fs []) → in_code w fs ≡ true
    → ((recode_call b used w).answer ≡ Ok used) × ((recode_call b used w).buffer ≡ take used b ++ replicate (length b - used) 0)
stays-call b used w fs l r i =
    let h : Holds b used fs = record { fits_in = l; front = r } in
    let x = kept-done b used w fs fs h (stays w fs i) in
    (x.0, x.1 ∙ held-alone b used fs h)

-- recoding twice to the same code page is recoding once: the second call answers the same, and leaves the same buffer
pub twice-call : (b b' : List ℕ) (used n : ℕ) (w : Code) → Ok n ≡ (recode_call b used w).answer → b' ≡ (recode_call b used w).buffer
    → ((recode_call b' n w).answer ≡ Ok n) × ((recode_call b' n w).buffer ≡ b')
twice-call b b' used n w p q =
    let e = done-call (recode b used w) n p in
    let m = recode-only b used w e.bytes e.is-done in
    let d = first_done b b' used n w m.lines m.held.front p q in
    let st : Standing m.lines = holds-standing b used m.lines m.held in
    let x = next-done b b' used n w w m.lines (recode_lines w m.lines) d (twice w m.lines st) in
    (x.0, x.1 ∙ sym d.left)

-- ---- "and back"

-- a set that named the other code page: if it is recoded, it is recoded back, to the bytes that it had
pub back-call : (b b' : List ℕ) (used n : ℕ) (w : Code) (fs : List Field) → read (take used b) ≡ done (parsed fs []) → names_code (other w) fs ≡ true
    → Ok n ≡ (recode_call b used w).answer → b' ≡ (recode_call b used w).buffer
    → ((recode_call b' n (other w)).answer ≡ Ok used) × ((recode_call b' n (other w)).buffer ≡ take used b ++ replicate (length b - used) 0)
back-call b b' used n w fs r s p q =
    let d = first_done b b' used n w fs r p q in
    let st : Standing fs = holds-standing b used fs d.held in
    let x = next-done b b' used n w (other w) fs fs d (there_and_back w fs st s d.no-faults) in
    let same : n ≡ used = d.count ∙ (size-kept w fs st (named-gains-none w fs (says-has (other w) fs s)) ∙ held-size b used fs d.held) in
    (x.0 ∙ ap Ok same, x.1 ∙ held-alone b used fs d.held)

-- a set without 9206: if it is recoded to 1252, it is ten bytes longer, and recoded back it has `2` in the line that it gained
pub line-call : (b b' : List ℕ) (used n : ℕ) (fs : List Field) → read (take used b) ≡ done (parsed fs []) → has_charset fs ≡ false
    → Ok n ≡ (recode_call b used Page1252).answer → b' ≡ (recode_call b used Page1252).buffer
    → (n ≡ used + gained_bytes) × ((recode_call b' n Page437).answer ≡ Ok n) × ((recode_call b' n Page437).buffer ≡ leaves (resum (with_charset Page437 fs)) b)
line-call b b' used n fs r s p q =
    let d = first_done b b' used n Page1252 fs r p q in
    let st : Standing fs = holds-standing b used fs d.held in
    let x = next-done b b' used n Page1252 Page437 fs (resum (with_charset Page437 fs)) d (line-and-back fs st s d.no-faults) in
    (omega (arith, d.count, line-size fs st s, held-size b used fs d.held), x.0, x.1)

-- a set that said seven bits: it is recoded, and back, without a refusal; then 9206 names the code page, and all else is as it was
pub seven-call : (b b' : List ℕ) (used : ℕ) (w : Code) (fs : List Field) → used ≤ length b → read (take used b) ≡ done (parsed fs []) → seven_bit fs ≡ true
    → b' ≡ (recode_call b used w).buffer
    → ((recode_call b used w).answer ≡ Ok used) × (b' ≡ leaves (map (charset_field w) fs) b)
    × ((recode_call b' used (other w)).answer ≡ Ok used) × ((recode_call b' used (other w)).buffer ≡ leaves (map (charset_field (other w)) fs) b)
seven-call b b' used w fs l r s q =
    let h : Holds b used fs = record { fits_in = l; front = r } in
    let st : Standing fs = holds-standing b used fs h in
    let y = kept-done b used w fs (map (charset_field w) fs) h (from-seven w fs st s) in
    let d = first_done b b' used used w fs r (sym y.0) q in
    let x = next-done b b' used used w (other w) fs (map (charset_field (other w)) fs) d (seven-and-back w fs st s) in
    (y.0, q ∙ y.1, x.0, x.1)
