-- A correction and a recoding may be made in either order, on the calls: the other order is done as well, answers the same length and leaves the same buffer.
use mathlib.Core.Path.{◌≡◌, sym, ap, ◌∙◌, subst}
use mathlib.Core.Bool.{true}
use mathlib.Core.List.{List, []}
use Prim.Native.Nat.{ℕ, ◌≤◌}
use native.Mathlib.Omega.{arith}
use lib.ListN.{length, take}
use Rattle.meaning.specs.Field.{Field}
use Rattle.meaning.specs.Refusals.{Reply, done}
use Rattle.meaning.specs.Pieces.{parsed}
use Rattle.meaning.specs.Lines.{size, render}
use Rattle.meaning.specs.Reading.{read}
use Rattle.meaning.specs.Corrections.{changed, correct}
use Rattle.meaning.specs.Answers.{made, bytes_left, correct_call}
use Rattle.meaning.proofs.LineLaws.{length-render}
use Rattle.meaning.proofs.SetLaws.{Standing}
use Rattle.meaning.proofs.CorrectionLaws.{Change, still-standing, Holds, holds-standing, same_lines, leaves, correct-makes, correct-only}
use Rattle.meaning.proofs.Demands.{left-by-length}
use Rattle.meaning.proofs.CallLaws.{done-call}
use Rattle.meaning_recode.specs.declared.Code.{Code}
use Rattle.meaning_recode.specs.Recoding.{all_recoded, recode_lines, recode}
use Rattle.meaning_recode.specs.RecodeCalls.{recode_call}
use Rattle.meaning_recode.proofs.KindLaws.{Told}
use Rattle.meaning_recode.proofs.StandLaws.{recoded-stands}
use Rattle.meaning_recode.proofs.RecodeLaws.{recode-makes}
use Rattle.meaning_recode.proofs.BackCalls.{FirstDone, first_done, left-held, left-length}
use Rattle.meaning_recode.proofs.OrderLaws.{moved_on, content_into, either-lines, recode-corrected}
use Rattle.std.specs.Prelude.{Ok}

-- what a call answers that made these lines
render-count : (fs : List Field) → length (render fs []) ≡ size fs
render-count fs = length-render fs [] ∙ omega arith

-- ---- a correction that is done, of a buffer that holds the lines fs

record CorrectDone (b b' : List ℕ) (used u n : ℕ) (c : List ℕ) (fs : List Field) : Type 0 where
  held : Holds b used fs
  asked : Change fs n c
  then-held : Holds b' u (changed fs n c)
  same_length : length b' ≡ length b

correct-done : (b b' : List ℕ) (used u n : ℕ) (c : List ℕ) (fs : List Field) → read (take used b) ≡ done (parsed fs [])
    → Ok u ≡ (correct_call b used n c).answer → b' ≡ (correct_call b used n c).buffer → CorrectDone b b' used u n c fs
correct-done b b' used u n c fs r p q =
    let x = done-call (correct b used n c) u p in
    let m = correct-only b used n c x.bytes x.is-done in
    let h : Holds b used fs = record { fits_in = m.held.fits_in; front = r } in
    let same : m.lines ≡ fs = same_lines b used m.lines fs m.held h in
    let hs : List Field = changed fs n c in
    let ch : Change fs n c = subst (λ (l : List Field). Change l n c) same m.asked in
    let room : size hs ≤ length b = subst (λ (l : List Field). size (changed l n c) ≤ length b) same m.room in
    let is : x.bytes ≡ render hs [] = m.made ∙ ap (λ (l : List Field). render (changed l n c) []) same in
    let count : u ≡ size hs = sym x.so-many ∙ (ap length is ∙ render-count hs) in
    let left : b' ≡ leaves hs b = q ∙ (ap (λ (y : Reply (List ℕ)). bytes_left y b) x.is-done ∙ ap (λ (y : List ℕ). bytes_left (done y) b) is) in
    record {
      held = h;
      asked = ch;
      then-held = left-held b b' u hs (still-standing fs n c (holds-standing b used fs h) ch) room count left;
      same_length = left-length b b' hs room left;
    }

-- ---- the correction after the recoding

-- it is done if there is room for the set with both
after-recoding : (b br : List ℕ) (used v n : ℕ) (c : List ℕ) (w : Code) (fs : List Field) → FirstDone b br used v w fs → Change fs n c
    → size (recode_lines w (changed fs n c)) ≤ length b
    → ((correct_call br v (moved_on w fs n) (content_into w fs c)).answer ≡ Ok (size (recode_lines w (changed fs n c))))
    × ((correct_call br v (moved_on w fs n) (content_into w fs c)).buffer ≡ leaves (recode_lines w (changed fs n c)) b)
after-recoding b br used v n c w fs d ch room =
    let st : Standing fs = holds-standing b used fs d.held in
    let hs : List Field = recode_lines w fs in
    let both : List Field = recode_lines w (changed fs n c) in
    let e = either-lines w fs n c st ch in
    let h : Holds br v hs = left-held b br v hs (recoded-stands w fs st d.no-faults) d.room d.count d.left in
    let long : length br ≡ length b = left-length b br hs d.room d.left in
    let fits : size (changed hs (moved_on w fs n) (content_into w fs c)) ≤ length br = rw (e.lines-so, long) room in
    let is : correct br v (moved_on w fs n) (content_into w fs c) ≡ done (render both []) =
    correct-makes br v (moved_on w fs n) (content_into w fs c) hs h e.asked fits ∙ ap (λ (l : List Field). done (render l [])) e.lines-so in
    (ap made is ∙ ap Ok (render-count both), ap (λ (y : Reply (List ℕ)). bytes_left y br) is ∙ left-by-length (render both []) br b long)

-- a correction is done, then a recoding of what it left; a recoding of the buffer b is done as well. Then the correction of what that one left is done, and the second order
-- answers the same length and leaves the same buffer as the first
pub other-order-call : (b bc bcr br : List ℕ) (used n u k v : ℕ) (c : List ℕ) (w : Code) (fs : List Field) → read (take used b) ≡ done (parsed fs [])
    → Ok u ≡ (correct_call b used n c).answer → bc ≡ (correct_call b used n c).buffer
    → Ok k ≡ (recode_call bc u w).answer → bcr ≡ (recode_call bc u w).buffer
    → Ok v ≡ (recode_call b used w).answer → br ≡ (recode_call b used w).buffer
    → ((correct_call br v (moved_on w fs n) (content_into w fs c)).answer ≡ Ok k) × ((correct_call br v (moved_on w fs n) (content_into w fs c)).buffer ≡ bcr)
other-order-call b bc bcr br used n u k v c w fs r pc qc pcr qcr pr qr =
    let x = correct-done b bc used u n c fs r pc qc in
    let d = first_done bc bcr u k w (changed fs n c) x.then-held.front pcr qcr in
    let both : List Field = recode_lines w (changed fs n c) in
    let y = after-recoding b br used v n c w fs (first_done b br used v w fs r pr qr) x.asked (rw (← x.same_length) d.room) in
    (y.0 ∙ ap Ok (sym d.count), y.1 ∙ sym (d.left ∙ left-by-length (render both []) bc b x.same_length))

-- each of the two is done in the buffer b, each byte of the new content has a character in the wanted code page if the contents are recoded, and there is room for the set
-- with both. Then each is done after the other, and both orders answer the same length and leave the same buffer
pub either-order-call : (b bc br : List ℕ) (used n u v : ℕ) (c : List ℕ) (w : Code) (fs : List Field) → read (take used b) ≡ done (parsed fs [])
    → Ok u ≡ (correct_call b used n c).answer → bc ≡ (correct_call b used n c).buffer
    → Ok v ≡ (recode_call b used w).answer → br ≡ (recode_call b used w).buffer
    → (all_recoded w fs ≡ true → Told w c) → size (recode_lines w (changed fs n c)) ≤ length b
    → (k : ℕ) × ((recode_call bc u w).answer ≡ Ok k) × ((correct_call br v (moved_on w fs n) (content_into w fs c)).answer ≡ Ok k)
    × ((recode_call bc u w).buffer ≡ (correct_call br v (moved_on w fs n) (content_into w fs c)).buffer)
either-order-call b bc br used n u v c w fs r pc qc pr qr t room =
    let x = correct-done b bc used u n c fs r pc qc in
    let d = first_done b br used v w fs r pr qr in
    let st : Standing fs = holds-standing b used fs x.held in
    let both : List Field = recode_lines w (changed fs n c) in
    let y = after-recoding b br used v n c w fs d x.asked room in
    let is : recode bc u w ≡ done (render both []) =
    recode-makes bc u w (changed fs n c) x.then-held (recode-corrected w fs n c st x.asked t d.no-faults) (rw x.same_length room) in
    let left : (recode_call bc u w).buffer ≡ leaves both b = ap (λ (z : Reply (List ℕ)). bytes_left z bc) is ∙ left-by-length (render both []) bc b x.same_length in
    (size both, ap made is ∙ ap Ok (render-count both), y.0, left ∙ sym y.1)
