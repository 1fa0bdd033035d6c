-- The three demands, on the definitions: what each public function's contract then gives to whoever calls it.
-- A law on the writer assumes that the bytes of its list are under 256.
use mathlib.Core.Path.{◌≡◌, refl, sym, ap, ap₂, ◌∙◌, subst}
use mathlib.Core.List.{List, []}
use Prim.Native.Nat.{ℕ, pred, ◌≤◌}
use native.Mathlib.Omega.{arith}
use lib.ListN.{length, take}
use Rattle.meaning.specs.declared.Refusal.{Refusal}
use Rattle.meaning.specs.declared.Shape.{Shape}
use Rattle.meaning.specs.declared.Entry.{Entry}
use Rattle.meaning.specs.Field.{Field}
use Rattle.meaning.specs.Refusals.{Reply, refused, done, refusal}
use Rattle.meaning.specs.Pieces.{Parsed, parsed, put_all}
use Rattle.meaning.specs.Lines.{size, render}
use Rattle.meaning.specs.Entries.{entry_form, list_size}
use Rattle.meaning.specs.Reading.{shape, judged, read, judge}
use Rattle.meaning.specs.Lists.{without_sum, with_sum, list, write}
use Rattle.meaning.specs.Corrections.{recontent, resum, changed, correct}
use Rattle.meaning.specs.Index.{index}
use Rattle.meaning.specs.Views.{viewed, view}
use Rattle.meaning.specs.Answers.{made, bytes_left, entries_left, index_call, list_call, write_call, correct_call, judged_refusal, judged_shape, made_count, viewed_flag, viewed_part}
use Rattle.meaning.proofs.Bools.{Every}
use Rattle.meaning.proofs.EntryLaws.{Byte, length-entries}
use Rattle.meaning.proofs.LineLaws.{length-render, take-render}
use Rattle.meaning.proofs.SetLaws.{Standing, accepted, read-render}
use Rattle.meaning.proofs.WriterLaws.{list_of, without-with, list-only, list-makes, write-makes, write-only}
use Rattle.meaning.proofs.CorrectionLaws.{twice, recontent-comm, Change, change-same, not-second, upright, still-standing, alike-changed}
use Rattle.meaning.proofs.CorrectionLaws.{Holds, holds-standing, same_lines, leaves, length-leaves, holds-leaves, correct-makes, correct-only}
use Rattle.std.specs.Prelude.{Err, Ok}

-- ---- every contract is an equation: two answers that meet it are equal

pub one_answer : {A B : Type 0} (reply : A → B) (x : A) (r r' : B) → r ≡ reply x → r' ≡ reply x → r ≡ r'
one_answer reply x r r' p q = p ∙ sym q

-- ---- demand 1: "After a refusal every lent buffer holds what it held before."

pub refused-keeps-bytes : (r : Refusal) (b : List ℕ) → bytes_left (refused r) b ≡ b
refused-keeps-bytes r b = refl

pub refused-keeps-entries : (r : Refusal) (b : List Entry) → entries_left (refused r) b ≡ b
refused-keeps-entries r b = refl

-- the same of the calls: one that answers a refusal has made nothing, its count is 0, and every byte or entry of its buffer is as it was
pub refused-index : (s : List ℕ) (out : List Entry) (r : Refusal) → (index_call s out).answer ≡ Err r
    → (made_count (index_call s out).answer ≡ 0) × ((index_call s out).buffer ≡ out)
refused-index s out r = go (index s (length out))
  where
    go : (x : Reply (List Entry)) → made x ≡ Err r → (made_count (made x) ≡ 0) × (entries_left x out ≡ out)
    go (refused q) e = (refl, refl)
    go (done es) e = let z : ◌≡◌ {A = ℕ} 0 1 = cc in absurd (omega arith)

pub nothing-made : (x : Reply (List ℕ)) (b : List ℕ) (r : Refusal) → made x ≡ Err r → (made_count (made x) ≡ 0) × (bytes_left x b ≡ b)
nothing-made (refused q) b r e = (refl, refl)
nothing-made (done bs) b r e = let z : ◌≡◌ {A = ℕ} 0 1 = cc in absurd (omega arith)

pub refused-list : (s out : List ℕ) (r : Refusal) → (list_call s out).answer ≡ Err r → (made_count (list_call s out).answer ≡ 0) × ((list_call s out).buffer ≡ out)
refused-list s out r = nothing-made (list s (length out)) out r

pub refused-write : (l out : List ℕ) (r : Refusal) → (write_call l out).answer ≡ Err r → (made_count (write_call l out).answer ≡ 0) × ((write_call l out).buffer ≡ out)
refused-write l out r = nothing-made (write l (length out)) out r

pub refused-correct : (b : List ℕ) (used n : ℕ) (c : List ℕ) (r : Refusal) → (correct_call b used n c).answer ≡ Err r
    → (made_count (correct_call b used n c).answer ≡ 0) × ((correct_call b used n c).buffer ≡ b)
refused-correct b used n c r = nothing-made (correct b used n c) b r

-- a refused set has no length, no lines and no type
pub refused-shape : (s : List ℕ) (r : Refusal) → judge s ≡ Err r → judged_shape (judge s) ≡ record { length = 0; lines = 0; settype = 0 }
refused-shape s r e = rw e

-- "A refusal comes with an empty part of the set, flagged as the set's.": no byte is shown
pub refused-view : (s h : List ℕ) (n : ℕ) (r : Refusal) → viewed s h n ≡ Err r
    → (viewed_flag (viewed s h n) ≡ 0) × (viewed_part (viewed s h n) ≡ record { place = 0; length = 0 }) × (view s h n ≡ [])
unfolding view
refused-view s h n r e = rw e (refl, refl, refl)

-- "number, place and label; 0, 0, 0 if nothing is refused"
pub accepted-no-refusal : (s : List ℕ) (x : Shape) → judge s ≡ Ok x → judged_refusal (judge s) ≡ refusal 0 0 0
accepted-no-refusal s x e = rw e

-- ---- demand 2

-- what is accepted was read
pub judge-read : (s : List ℕ) (x : Shape) → judge s ≡ Ok x → (d : Parsed) × (read s ≡ done d) × (x ≡ shape d.fields)
unfolding judge
judge-read s x e = go (read s) refl e
  where
    go : (r : Reply Parsed) → read s ≡ r → judged r ≡ Ok x → (d : Parsed) × (read s ≡ done d) × (x ≡ shape d.fields)
    go (refused r) q h = let z : ◌≡◌ {A = ℕ} 0 1 = cc in absurd (omega arith)
    go (done d) q h = (d, q, cc)

pub read-judge : (s : List ℕ) (d : Parsed) → read s ≡ done d → judge s ≡ Ok (shape d.fields)
unfolding judge
read-judge s d e = rw e

-- "Given room, an accepted set turned into a field list and written again gives identical bytes"
pub list-write : (s : List ℕ) (x : Shape) (l : List ℕ) (room room' : ℕ) → judge s ≡ Ok x → list s room ≡ done l → x.length ≤ room'
    → write l room' ≡ done (take x.length s)
list-write s x l room room' j e h =
    let d = judge-read s x j in
    let fs : List Field = d.0.fields in
    let a = accepted s d.0 d.1 in
    let m = list-only s room l e in
    let same : m.what ≡ d.0 = same_read m.what d.0 (sym m.was_read ∙ d.1) in
    let n : x.length ≡ size fs = ap (λ (y : Shape). y.length) d.2 in
    let w : write (list_of fs) room' ≡ done (render fs []) = write-makes fs room' a.standing (omega (arith, n)) in
    let t : take x.length s ≡ render fs [] = ap₂ take n a.bytes ∙ take-render fs d.0.rest in
    ap (λ (u : List ℕ). write u room') (m.made ∙ ap (λ (y : Parsed). list_of y.fields) same) ∙ (w ∙ ap done (sym t))
  where
    same_read : (y z : Parsed) → ◌≡◌ {A = Reply Parsed} (done y) (done z) → y ≡ z
    same_read y z q = cc

-- and that list is there: one list, made as soon as there is room for it
pub list-there : (s : List ℕ) (x : Shape) → judge s ≡ Ok x
    → (l : List ℕ) × ((room : ℕ) → length l ≤ room → list s room ≡ done l)
list-there s x j =
    let d = judge-read s x j in
    (list_of d.0.fields, λ room h. list-makes s d.0 room d.1 (omega (arith, length-entries (without_sum d.0.fields))))

-- "a list that the writer accepts is read back unchanged"
pub write-list : (l x : List ℕ) (room room' : ℕ) → Every Byte l → write l room ≡ done x → length l ≤ room'
    → list x room' ≡ done l
write-list l x room room' b e h =
    let w = write-only l room x b e in
    let r : read x ≡ done (parsed (with_sum w.entries) []) = ap read w.made ∙ read-render (with_sum w.entries) [] w.standing refl in
    let k : without_sum (with_sum w.entries) ≡ w.entries = without-with w.entries in
    let n : list_size (without_sum (with_sum w.entries)) ≤ room' = rw k (omega (arith, length-entries w.entries, ap length w.whole)) in
    list-makes x (parsed (with_sum w.entries) []) room' r n
    ∙ ap done (ap (λ (es : List Field). put_all entry_form es []) k ∙ sym w.whole)

-- and what the writer made is an accepted set, to its last byte
pub write-judge : (l x : List ℕ) (room : ℕ) → Every Byte l → write l room ≡ done x → (y : Shape) × (judge x ≡ Ok y) × (y.length ≡ length x)
write-judge l x room b e =
    let w = write-only l room x b e in
    let fs : List Field = with_sum w.entries in
    let r : read x ≡ done (parsed fs []) = ap read w.made ∙ read-render fs [] w.standing refl in
    (shape fs, read-judge x (parsed fs []) r, omega (arith, ap length w.made, length-render fs []))

-- ---- demand 3

-- "the same field list with those two contents replaced"
abbrev pub both_replaced : List Field → ℕ → List ℕ → ℕ → List ℕ → List Field
both_replaced fs n c m d = recontent (recontent fs (pred n) c) (pred m) d

-- what both orders leave: one set, in one buffer, the writer's
pub record OneResult (b x y : List ℕ) (fs : List Field) (n m : ℕ) (c d : List ℕ) : Type 0 where
  pub result : List ℕ
  -- the first correction left x in the buffer, and the second is then accepted
  pub second-after-first : correct (bytes_left (done x) b) (length x) m d ≡ done result
  -- the second correction left y in the buffer, and the first is then accepted
  pub first-after-second : correct (bytes_left (done y) b) (length y) n c ≡ done result
  -- both orders leave the same buffer
  pub same-buffer : bytes_left (done result) (bytes_left (done x) b) ≡ bytes_left (done result) (bytes_left (done y) b)
  -- which holds the set that the writer gives
  pub as-written : write (list_of (both_replaced fs n c m d)) (length b) ≡ done result
  pub written-buffer : bytes_left (done result) (bytes_left (done x) b) ≡ bytes_left (done result) b

-- a correction to another line, after one that was made
after-one : (b : List ℕ) (fs : List Field) (n m : ℕ) (c d : List ℕ) → Standing fs → Change fs n c → Change fs m d
    → size (changed fs n c) ≤ length b → size (resum (both_replaced fs n c m d)) ≤ length b
    → correct (leaves (changed fs n c) b) (size (changed fs n c)) m d ≡ done (render (resum (both_replaced fs n c m d)) [])
after-one b fs n m c d st x y h k =
    let one : List Field = changed fs n c in
    let q : changed one m d ≡ resum (both_replaced fs n c m d) = twice fs (pred n) (pred m) c d (not-second fs m d (upright fs st) y) in
    correct-makes (leaves one b) (size one) m d one (holds-leaves one b (still-standing fs n c st x) h)
    (change-same fs one m d (alike-changed fs n c st x) y) (rw (length-leaves one b h, q) k)
    ∙ ap (λ (gs : List Field). done (render gs [])) q

-- what is left depends on the buffer's length alone
pub left-by-length : (z b b' : List ℕ) → length b ≡ length b' → bytes_left (done z) b ≡ bytes_left (done z) b'
left-by-length z b b' e = rw e

without-resum : (fs : List Field) → without_sum (resum fs) ≡ without_sum fs
without-resum fs = without-with (without_sum fs)

-- "Take one accepted set and two corrections to two different lines, each accepted on its own, where the set with both still fits its buffer. Either may go
-- first: both are accepted, and both orders leave the same buffer, which holds the set the writer gives for the same field list with those two contents replaced."
-- A correction keeps labels and profile, so the other one still has no fault; and the sum depends on the other lines alone, so both orders give the same lines.
pub either_order : (b : List ℕ) (used n m : ℕ) (c d x y : List ℕ) (fs : List Field)
    → read (take used b) ≡ done (parsed fs []) → (n ≡ m → ⊥)
    → correct b used n c ≡ done x → correct b used m d ≡ done y
    → size (resum (both_replaced fs n c m d)) ≤ length b
    → OneResult b x y fs n m c d
either_order b used n m c d x y fs r ne p q room =
    let cx = correct-only b used n c x p in
    let cy = correct-only b used m d y q in
    let h : Holds b used fs = record { fits_in = cx.held.fits_in; front = r } in
    let fx : cx.lines ≡ fs = same_lines b used cx.lines fs cx.held h in
    let fy : cy.lines ≡ fs = same_lines b used cy.lines fs cy.held h in
    let st : Standing fs = holds-standing b used fs h in
    let ax : Change fs n c = subst (λ (gs : List Field). Change gs n c) fx cx.asked in
    let ay : Change fs m d = subst (λ (gs : List Field). Change gs m d) fy cy.asked in
    let rx : size (changed fs n c) ≤ length b = subst (λ (gs : List Field). size (changed gs n c) ≤ length b) fx cx.room in
    let ry : size (changed fs m d) ≤ length b = subst (λ (gs : List Field). size (changed gs m d) ≤ length b) fy cy.room in
    let mx : x ≡ render (changed fs n c) [] = cx.made ∙ ap (λ (gs : List Field). render (changed gs n c) []) fx in
    let my : y ≡ render (changed fs m d) [] = cy.made ∙ ap (λ (gs : List Field). render (changed gs m d) []) fy in
    put-together b fs n m c d x y ne st ax ay rx ry mx my room
  where
    put-together : (b : List ℕ) (fs : List Field) (n m : ℕ) (c d x y : List ℕ) → (n ≡ m → ⊥) → Standing fs → Change fs n c → Change fs m d
        → size (changed fs n c) ≤ length b → size (changed fs m d) ≤ length b → x ≡ render (changed fs n c) [] → y ≡ render (changed fs m d) []
        → size (resum (both_replaced fs n c m d)) ≤ length b → OneResult b x y fs n m c d
    put-together b fs n m c d x y ne st ax ay rx ry mx my room =
        let both : List Field = resum (both_replaced fs n c m d) in
        let e : both_replaced fs n c m d ≡ both_replaced fs m d n c = recontent-comm fs (pred n) (pred m) c d (λ q. ne (omega (arith, ax.least, ay.least))) in
        let lx : length x ≡ size (changed fs n c) = ap length mx ∙ (length-render (changed fs n c) [] ∙ omega arith) in
        let ly : length y ≡ size (changed fs m d) = ap length my ∙ (length-render (changed fs m d) [] ∙ omega arith) in
        let s1 : Standing (changed fs n c) = still-standing fs n c st ax in
        let s2 : Standing (changed (changed fs n c) m d) = still-standing (changed fs n c) m d s1 (change-same fs (changed fs n c) m d (alike-changed fs n c st ax) ay) in
        let tw : changed (changed fs n c) m d ≡ both = twice fs (pred n) (pred m) c d (not-second fs m d (upright fs st) ay) in
        let s : Standing both = subst (λ (gs : List Field). Standing gs) tw s2 in
        let bx : length (bytes_left (done x) b) ≡ length b = rw mx (length-leaves (changed fs n c) b rx) in
        let by : length (bytes_left (done y) b) ≡ length b = rw my (length-leaves (changed fs m d) b ry) in
        record {
          result = render both [];
          second-after-first = ap₂ (λ (u : List ℕ) (k : ℕ). correct (bytes_left (done u) b) k m d) mx lx ∙ after-one b fs n m c d st ax ay rx room;
          first-after-second =
              ap₂ (λ (u : List ℕ) (k : ℕ). correct (bytes_left (done u) b) k n c) my ly
              ∙ (after-one b fs m n d c st ay ax ry (rw (← e) room) ∙ ap (λ (gs : List Field). done (render (resum gs) [])) (sym e));
          same-buffer = left-by-length (render both []) (bytes_left (done x) b) (bytes_left (done y) b) (bx ∙ sym by);
          as-written = rw (without-resum (both_replaced fs n c m d)) at (write-makes both (length b) s room);
          written-buffer = left-by-length (render both []) (bytes_left (done x) b) b bx;
        }
