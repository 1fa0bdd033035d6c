-- What the theorems about a correction and a recoding in either order shut out, tried, as in ShutOutBack: `SaysX` is the statement of theorem x with any functions in the places of the correction
-- and of the recoding, `x-says` the theorem itself; then trivial functions are put in. docs/PROMISES.md has the table of it: "What each theorem asks, and what it shuts out".
use mathlib.Core.Path.{◌≡◌, refl, sym, ap, ap₂, ◌∙◌, subst}
use mathlib.Core.Bool.{Bool, true, false, not, ◌&&◌, true≢false}
use mathlib.Core.List.{List, [], ◌∷◌, map}
use Prim.Native.Nat.{ℕ, zero, suc, pred, ◌≤◌, ◌<◌}
use native.Mathlib.Omega.{arith}
use lib.Dec.{eqb}
use borrow.Author.Tests.{eqb-true, eqb-false}
use lib.ListN.{length, take, get_or}
use lib.Seq.{get_or-set_same}
use Rattle.meaning.specs.declared.Refusal.{Refusal}
use Rattle.meaning.specs.Field.{Field, field, no_field, label_at_line, content_at_line}
use Rattle.meaning.specs.Refusals.{Reply, refused, done}
use Rattle.meaning.specs.Pieces.{Parsed, parsed}
use Rattle.meaning.specs.Lines.{size, render}
use Rattle.meaning.specs.Reading.{read}
use Rattle.meaning.specs.Corrections.{recontent, changed, correct}
use Rattle.meaning.specs.Answers.{Call, made, bytes_left, correct_call}
use Rattle.meaning.specs.Computes.{computes}
use Rattle.meaning.proofs.AnswerLaws.{refused-made, made-same}
use Rattle.meaning.proofs.Asking.{line}
use Rattle.meaning.proofs.Bools.{and_left, and_right}
use Rattle.meaning.proofs.FaultLaws.{done-same}
use Rattle.meaning.proofs.LineLaws.{length-render}
use Rattle.meaning.proofs.SetLaws.{Standing, read-render}
use Rattle.meaning.proofs.CorrectionLaws.{Change, change, line-resum, still-standing, Holds, holds-standing, same_lines, leaves, correct-only}
use Rattle.meaning.proofs.CallLaws.{done-call, front-made}
use Rattle.meaning_recode.specs.declared.Code.{Code}
use Rattle.meaning_recode.specs.declared.Code.TheVariants.{Page437, Page1252}
use Rattle.meaning_recode.specs.Recoding.{has_charset, in_code, all_recoded, charset_field, recode_lines, recode}
use Rattle.meaning_recode.specs.RecodeCalls.{recode_call}
use Rattle.meaning_recode.specs.RecodeComputes.{recode_computes}
use Rattle.meaning_recode.proofs.KindLaws.{Told}
use Rattle.meaning_recode.proofs.StandLaws.{in-1252, recoded-in-code}
use Rattle.meaning_recode.proofs.RecodeLaws.{recode-wanted}
use Rattle.meaning_recode.proofs.BackCalls.{left-held}
use Rattle.meaning_recode.proofs.OrderLaws.{moved_on, content_into, either-lines}
use Rattle.meaning_recode.proofs.OrderCalls.{other-order-call, either-order-call}
use Rattle.theory_recode.proofs.ShutOutRecode.{named, in437, in1252, recode-letter}
use Rattle.theory_recode.proofs.ShutOutBack.{p_lines, named_lines, front-437, Caller, call, still, marking, not-both, standing-p}
use Rattle.std.specs.Prelude.{Err, Ok}

-- ---- the theorems

abbrev Corrector : Type 0
Corrector = List ℕ → ℕ → ℕ → List ℕ → Call ℕ

-- other-order-call: given a correction, a recoding of what it left, and a recoding alone, all of them done
abbrev SaysOtherOrderCall : Corrector → Caller → Type 0
SaysOtherOrderCall C R =
    (b bc bcr br : List ℕ) (used n u k v : ℕ) (c : List ℕ) (w : Code) (fs : List Field) → read (take used b) ≡ done (parsed fs [])
    → Ok u ≡ (C b used n c).answer → bc ≡ (C b used n c).buffer
    → Ok k ≡ (R bc u w).answer → bcr ≡ (R bc u w).buffer
    → Ok v ≡ (R b used w).answer → br ≡ (R b used w).buffer
    → ((C br v (moved_on w fs n) (content_into w fs c)).answer ≡ Ok k) × ((C br v (moved_on w fs n) (content_into w fs c)).buffer ≡ bcr)

other-order-call-says : SaysOtherOrderCall correct_call recode_call
other-order-call-says = other-order-call

-- either-order-call: given a correction and a recoding, each done alone, a character for each byte of the new content, and room for the set with both
abbrev SaysEitherOrderCall : Corrector → Caller → Type 0
SaysEitherOrderCall C R =
    (b bc br : List ℕ) (used n u v : ℕ) (c : List ℕ) (w : Code) (fs : List Field) → read (take used b) ≡ done (parsed fs [])
    → Ok u ≡ (C b used n c).answer → bc ≡ (C b used n c).buffer
    → Ok v ≡ (R b used w).answer → br ≡ (R b used w).buffer
    → (all_recoded w fs ≡ true → Told w c) → size (recode_lines w (changed fs n c)) ≤ length b
    → (k : ℕ) × ((R bc u w).answer ≡ Ok k) × ((C br v (moved_on w fs n) (content_into w fs c)).answer ≡ Ok k)
    × ((R bc u w).buffer ≡ (C br v (moved_on w fs n) (content_into w fs c)).buffer)

either-order-call-says : SaysEitherOrderCall correct_call recode_call
either-order-call-says = either-order-call

-- ---- what they ask of the letter, in the last line of 61 bytes that name code page 437

letter_lines : List Field
letter_lines = named_lines (line 9206 "2") 0x81

-- the last line is given the content c; it is d in the wanted code page
record Asked (w : Code) (c d : ℕ) : Type 0 where
  line-so : moved_on w letter_lines 5 ≡ 5
  content-so : content_into w letter_lines (c ∷ []) ≡ d ∷ []
  told : all_recoded w letter_lines ≡ true → Told w (c ∷ [])
  room : size (recode_lines w (changed letter_lines 5 (c ∷ []))) ≤ length in437

asked-437 : Asked Page437 0x81 0x81
unfolding computes recode_computes named in437 named_lines letter_lines
asked-437 = record { line-so = refl; content-so = refl; told = λ e. absurd (true≢false (sym e)); room = let z : 61 ≤ 61 = omega arith in z }

-- the next letter
asked-next : Asked Page437 0x82 0x82
unfolding computes recode_computes named in437 named_lines letter_lines
asked-next = record { line-so = refl; content-so = refl; told = λ e. absurd (true≢false (sym e)); room = let z : 61 ≤ 61 = omega arith in z }

asked-1252 : Asked Page1252 0x81 0xFC
unfolding computes recode_computes named in437 named_lines letter_lines
asked-1252 = record {
  line-so = refl;
  content-so = refl;
  told = λ e. (λ q. let z : ◌≡◌ {A = ℕ} 0xFC 0x100 = q in omega arith, tt);
  room = let z : 61 ≤ 61 = omega arith in z;
}

-- the letter is there already
correct-letter : correct in437 61 5 (0x81 ∷ []) ≡ done in437
unfolding computes named in437
correct-letter = refl

correct-next : correct in437 61 5 (0x82 ∷ []) ≡ done (named (line 9206 "2") 0x82)
unfolding computes named in437
correct-next = refl

recode-stays : recode in437 61 Page437 ≡ done in437
unfolding computes recode_computes named in437
recode-stays = refl

letter-answer : (correct_call in437 61 5 (0x81 ∷ [])).answer ≡ Ok 61
unfolding named in437
letter-answer = ap made correct-letter

letter-left : (correct_call in437 61 5 (0x81 ∷ [])).buffer ≡ in437
unfolding named in437
letter-left = ap (λ (y : Reply (List ℕ)). bytes_left y in437) correct-letter

next-answer : (correct_call in437 61 5 (0x82 ∷ [])).answer ≡ Ok 61
unfolding named
next-answer = ap made correct-next

stays-answer : (recode_call in437 61 Page437).answer ≡ Ok 61
unfolding named in437
stays-answer = ap made recode-stays

into-answer : (recode_call in437 61 Page1252).answer ≡ Ok 61
unfolding named in1252
into-answer = ap made recode-letter

-- both orders answer k and leave one buffer: u is answered by the correction alone, v by the recoding alone
record Agree (C : Corrector) (R : Caller) (w : Code) (c d u v k : ℕ) : Type 0 where
  recoded-last : (R (C in437 61 5 (c ∷ [])).buffer u w).answer ≡ Ok k
  corrected-last : (C (R in437 61 w).buffer v 5 (d ∷ [])).answer ≡ Ok k
  same-buffer : (R (C in437 61 5 (c ∷ [])).buffer u w).buffer ≡ (C (R in437 61 w).buffer v 5 (d ∷ [])).buffer

module _ (C : Corrector) (R : Caller) (w : Code) (c d u v : ℕ) (a : Asked w c d) (p : (C in437 61 5 (c ∷ [])).answer ≡ Ok u) (q : (R in437 61 w).answer ≡ Ok v) where
  second_so : C (R in437 61 w).buffer v (moved_on w letter_lines 5) (content_into w letter_lines (c ∷ [])) ≡ C (R in437 61 w).buffer v 5 (d ∷ [])
  second_so = ap₂ (C (R in437 61 w).buffer v) a.line-so a.content-so

  other_at : SaysOtherOrderCall C R → (k : ℕ) → (R (C in437 61 5 (c ∷ [])).buffer u w).answer ≡ Ok k → Agree C R w c d u v k
  unfolding letter_lines
  other_at h k e =
      let bc : List ℕ = (C in437 61 5 (c ∷ [])).buffer in
      let x = h in437 bc (R bc u w).buffer (R in437 61 w).buffer 61 5 u k v (c ∷ []) w letter_lines front-437 (sym p) refl (sym e) refl (sym q) refl in
      record {
        recoded-last = e;
        corrected-last = sym (ap (λ (y : Call ℕ). y.answer) second_so) ∙ x.0;
        same-buffer = sym (sym (ap (λ (y : Call ℕ). y.buffer) second_so) ∙ x.1);
      }

  either-at : SaysEitherOrderCall C R → (k : ℕ) × Agree C R w c d u v k
  unfolding letter_lines
  either-at h =
      let x = h in437 (C in437 61 5 (c ∷ [])).buffer (R in437 61 w).buffer 61 5 u v (c ∷ []) w letter_lines front-437 (sym p) refl (sym q) refl a.told a.room in (
        x.0,
        record {
          recoded-last = x.1;
          corrected-last = sym (ap (λ (y : Call ℕ). y.answer) second_so) ∙ x.2;
          same-buffer = x.3 ∙ ap (λ (y : Call ℕ). y.buffer) second_so;
        },
      )

-- ---- a trivial recoding beside the correction

content-changed : (fs : List Field) (n : ℕ) (c : List ℕ) → 3 ≤ n → n ≤ length fs → content_at_line (changed fs n c) (pred n) ≡ c
content-changed fs n c l m =
    ap (λ (f : Field). f.content) (line-resum (recontent fs (pred n) c) (pred n) (λ q. omega arith)
    ∙ get_or-set_same fs (pred n) (field (label_at_line fs (pred n)) c) no_field (omega arith))

-- a correction that answers the used length and leaves the buffer as it was: its content is there
record There (o : List ℕ) (v n : ℕ) (c : List ℕ) : Type 0 where
  lines : List Field
  held : Holds o v lines
  content-so : content_at_line lines (pred n) ≡ c

there : (o : List ℕ) (v n : ℕ) (c : List ℕ) → 3 ≤ n → (correct_call o v n c).answer ≡ Ok v → (correct_call o v n c).buffer ≡ o → There o v n c
there o v n c l p q =
    let x = done-call (correct o v n c) v (sym p) in
    let m = correct-only o v n c x.bytes x.is-done in
    let hs : List Field = changed m.lines n c in
    let st : Standing hs = still-standing m.lines n c (holds-standing o v m.lines m.held) m.asked in
    let left : o ≡ leaves hs o = sym q ∙ (ap (λ (y : Reply (List ℕ)). bytes_left y o) x.is-done ∙ ap (λ (y : List ℕ). bytes_left (done y) o) m.made) in
    let count : v ≡ size hs = sym x.so-many ∙ (ap length m.made ∙ (length-render hs [] ∙ omega arith)) in
    record { lines = hs; held = left-held o o v hs st m.room count left; content-so = content-changed m.lines n c l m.asked.most }

-- the same always: the line would have the one content, and the other
same-recode : (v k l : ℕ) (o : List ℕ) → Agree correct_call (λ b used w. call (Ok v) o) Page437 0x81 0x81 61 v k
    → Agree correct_call (λ b used w. call (Ok v) o) Page437 0x82 0x82 61 v l → ⊥
same-recode v k l o x y =
    let s = there o v 5 (0x81 ∷ []) (omega arith) (x.corrected-last ∙ sym x.recoded-last) (sym x.same-buffer) in
    let t = there o v 5 (0x82 ∷ []) (omega arith) (y.corrected-last ∙ sym y.recoded-last) (sym y.same-buffer) in
    let same : s.lines ≡ t.lines = same_lines o v s.lines t.lines s.held t.held in
    let e : ◌≡◌ {A = List ℕ} (0x81 ∷ []) (0x82 ∷ []) = sym s.content-so ∙ (ap (λ (fs : List Field). content_at_line fs 4) same ∙ t.content-so) in
    let z : ◌≡◌ {A = ℕ} 0x81 0x82 = ap (λ (c : List ℕ). get_or c 0 0) e in
    omega arith

-- a test of every number below n
abbrev below : (ℕ → Bool) → ℕ → Bool
below f zero = true
below f (suc n) = f n && below f n

below_at : (f : ℕ → Bool) (n k : ℕ) → below f n ≡ true → k < n → f k ≡ true
below_at f zero k e l = absurd (omega arith)
below_at f (suc n) k e l = go (eqb k n) refl (λ m. below_at f n k (and_right (f n) _ e) m)
  where
    go : (t : Bool) → eqb k n ≡ t → (k < n → f k ≡ true) → f k ≡ true
    go true q r = ap f (eqb-true k n q) ∙ and_left (f n) _ e
    go false q r = let ne = eqb-false k n q in r (omega arith)

-- no first bytes of the set are a set with the letter of the other code page in line 5
abbrev lines_of : Reply Parsed → List Field
lines_of (refused r) = []
lines_of (done d) = d.fields

abbrev fifth_is : ℕ → Reply Parsed → Bool
fifth_is b r = eqb (get_or (content_at_line (lines_of r) 4) 0 0) b

not_yet : below (λ v. not (fifth_is 0xFC (read (take v in437)))) 62 ≡ true
unfolding computes named in437
not_yet = refl

-- idle, whatever length it answers
idle-recode : (a : List ℕ → ℕ → Code → ℕ) (k : ℕ) → Agree correct_call (λ b used w. call (Ok (a b used w)) b) Page1252 0x81 0xFC 61 (a in437 61 Page1252) k → ⊥
unfolding named in437
idle-recode a k x =
    let v : ℕ = a in437 61 Page1252 in
    let same : a (correct_call in437 61 5 (0x81 ∷ [])).buffer 61 Page1252 ≡ v = ap (λ (b : List ℕ). a b 61 Page1252) letter-left in
    let count : Ok k ≡ Ok v = sym x.recoded-last ∙ ap Ok same in
    let t = there in437 v 5 (0xFC ∷ []) (omega arith) (x.corrected-last ∙ count) (sym x.same-buffer ∙ letter-left) in
    let no = below_at (λ n. not (fifth_is 0xFC (read (take n in437)))) 62 v not_yet (omega (arith, t.held.fits_in)) in
    true≢false (sym no ∙ (ap (λ (r : Reply Parsed). not (fifth_is 0xFC r)) t.held.front ∙ ap (λ (c : List ℕ). not (eqb (get_or c 0 0) 0xFC)) t.content-so))

-- one that names the wanted code page and recodes no content
marking-answer : (marking in437 61 Page1252).answer ≡ Ok 61
unfolding computes named in437
marking-answer = refl

marking-recode : (k : ℕ) → Agree correct_call marking Page1252 0x81 0xFC 61 61 k → ⊥
unfolding computes recode_computes named in437
marking-recode k x = let z : ◌≡◌ {A = ℕ} 0x81 0xFC = ap (λ (b : List ℕ). get_or b 58 0) x.same-buffer in omega arith

-- ---- a trivial correction beside the recoding

-- recoding it changes nothing, so it is in the wanted code page
stays-in : (x : List ℕ) (u : ℕ) (w : Code) → (recode_call x u w).answer ≡ Ok u → (recode_call x u w).buffer ≡ x
    → (gs : List Field) × (read (take u x) ≡ done (parsed gs [])) × (in_code w gs ≡ true) × (w ≡ Page1252 → has_charset gs ≡ true)
stays-in x u w p q =
    let y = done-call (recode x u w) u (sym p) in
    let front : y.bytes ≡ take u x =
    sym (front-made y.bytes x u y.so-many) ∙ ap (take u) (ap (λ (r : Reply (List ℕ)). bytes_left r x) (sym y.is-done) ∙ q) in
    let g = recode-wanted x u w y.bytes y.is-done in
    (g.0, sym (ap read front) ∙ g.1, g.2, g.3)

-- the same always: that would be in both code pages
same-correct : (u k l v m : ℕ) (x : List ℕ) → Agree (λ b used n c. call (Ok u) x) recode_call Page437 0x81 0x81 u v k
    → Agree (λ b used n c. call (Ok u) x) recode_call Page1252 0x81 0xFC u m l → ⊥
same-correct u k l v m x a b =
    let f = stays-in x u Page437 (a.recoded-last ∙ sym a.corrected-last) a.same-buffer in
    let g = stays-in x u Page1252 (b.recoded-last ∙ sym b.corrected-last) b.same-buffer in
    let same : f.0 ≡ g.0 = ap (λ (d : Parsed). d.fields) (done-same (sym f.1 ∙ g.1)) in
    not-both (take u x) g.0 g.1 g.2 (g.3 refl) (subst (λ (gs : List Field). in_code Page437 gs ≡ true) same f.2)

-- ---- either-order-call

-- One of the two refuses all. Shut out by `correct-makes`, `corrected-exactly`, and by `recoded-exactly`.
either-order-call-met-by-refusing-correct : (r : List ℕ → ℕ → ℕ → List ℕ → Refusal) (o : List ℕ → ℕ → ℕ → List ℕ → List ℕ) (R : Caller)
    → SaysEitherOrderCall (λ b used n c. call (Err (r b used n c)) (o b used n c)) R
either-order-call-met-by-refusing-correct r o R b bc br used n u v c w fs e p = absurd (refused-made (sym p))

either-order-call-met-by-refusing-recode : (r : List ℕ → ℕ → Code → Refusal) (o : List ℕ → ℕ → Code → List ℕ) (C : Corrector)
    → SaysEitherOrderCall C (λ b used w. call (Err (r b used w)) (o b used w))
either-order-call-met-by-refusing-recode r o C b bc br used n u v c w fs e p p' q = absurd (refused-made (sym q))

either-order-call-not-same-correct : (u : ℕ) (x : List ℕ) → SaysEitherOrderCall (λ b used n c. call (Ok u) x) recode_call → ⊥
either-order-call-not-same-correct u x h =
    let C : Corrector = λ b used n c. call (Ok u) x in
    let f = either-at C recode_call Page437 0x81 0x81 u 61 asked-437 refl stays-answer h in
    let g = either-at C recode_call Page1252 0x81 0xFC u 61 asked-1252 refl into-answer h in
    same-correct u f.0 g.0 61 61 x f.1 g.1

either-order-call-not-same-recode : (v : ℕ) (o : List ℕ) → SaysEitherOrderCall correct_call (λ b used w. call (Ok v) o) → ⊥
either-order-call-not-same-recode v o h =
    let R : Caller = λ b used w. call (Ok v) o in
    let f = either-at correct_call R Page437 0x81 0x81 61 v asked-437 letter-answer refl h in
    let g = either-at correct_call R Page437 0x82 0x82 61 v asked-next next-answer refl h in
    same-recode v f.0 g.0 o f.1 g.1

-- whatever length it answers
either-order-call-not-idle-recode : (a : List ℕ → ℕ → Code → ℕ) → SaysEitherOrderCall correct_call (λ b used w. call (Ok (a b used w)) b) → ⊥
either-order-call-not-idle-recode a h =
    let R : Caller = λ b used w. call (Ok (a b used w)) b in
    let f = either-at correct_call R Page1252 0x81 0xFC 61 (a in437 61 Page1252) asked-1252 letter-answer refl h in
    idle-recode a f.0 f.1

either-order-call-not-marking-recode : SaysEitherOrderCall correct_call marking → ⊥
either-order-call-not-marking-recode h =
    let f = either-at correct_call marking Page1252 0x81 0xFC 61 61 asked-1252 letter-answer marking-answer h in
    marking-recode f.0 f.1

-- A corrector that leaves every set as it is. Shut out by `correct-makes`, `corrected-exactly`.
abbrev still_correct : Corrector
still_correct b used n c = call (Ok used) b

either-order-call-met-by-idle-correct : SaysEitherOrderCall still_correct recode_call
either-order-call-met-by-idle-correct b bc br used n u v c w fs e p p' q q' t room =
    let count : u ≡ used = made-same p in
    let same : recode_call bc u w ≡ recode_call b used w = ap₂ (λ (x : List ℕ) (m : ℕ). recode_call x m w) p' count in
    (v, ap (λ (y : Call ℕ). y.answer) same ∙ sym q, refl, ap (λ (y : Call ℕ). y.buffer) same ∙ sym q')

-- Both leave every set as it is, or both do the same always. Shut out as above, and by `recoded-exactly`.
either-order-call-met-by-idle-both : SaysEitherOrderCall still_correct still
either-order-call-met-by-idle-both b bc br used n u v c w fs e p p' q q' t room =
    let same : u ≡ v = made-same (p ∙ sym q) in
    (v, ap Ok same, refl, p' ∙ sym q')

either-order-call-met-by-same-both : (u : ℕ) (x : List ℕ) → SaysEitherOrderCall (λ b used n c. call (Ok u) x) (λ b used w. call (Ok u) x)
either-order-call-met-by-same-both k x b bc br used n u v c w fs e p p' q q' t room = (k, refl, refl, refl)

-- ---- other-order-call

other-order-call-met-by-refusing-correct : (r : List ℕ → ℕ → ℕ → List ℕ → Refusal) (o : List ℕ → ℕ → ℕ → List ℕ → List ℕ) (R : Caller)
    → SaysOtherOrderCall (λ b used n c. call (Err (r b used n c)) (o b used n c)) R
other-order-call-met-by-refusing-correct r o R b bc bcr br used n u k v c w fs e p = absurd (refused-made (sym p))

other-order-call-met-by-refusing-recode : (r : List ℕ → ℕ → Code → Refusal) (o : List ℕ → ℕ → Code → List ℕ) (C : Corrector)
    → SaysOtherOrderCall C (λ b used w. call (Err (r b used w)) (o b used w))
other-order-call-met-by-refusing-recode r o C b bc bcr br used n u k v c w fs e p p' q = absurd (refused-made (sym q))

-- a set always, if it can be recoded
other-order-call-not-same-correct : (u k l : ℕ) (x : List ℕ) → (recode_call x u Page437).answer ≡ Ok k → (recode_call x u Page1252).answer ≡ Ok l
    → SaysOtherOrderCall (λ b used n c. call (Ok u) x) recode_call → ⊥
other-order-call-not-same-correct u k l x p q h =
    let C : Corrector = λ b used n c. call (Ok u) x in
    same-correct u k l 61 61 x (other_at C recode_call Page437 0x81 0x81 u 61 asked-437 refl stays-answer h k p)
    (other_at C recode_call Page1252 0x81 0xFC u 61 asked-1252 refl into-answer h l q)

-- No bytes always, since these are never recoded. Shut out by `either-order-call-not-same-correct`.
none-recoded : {k : ℕ} (w : Code) → Ok k ≡ (recode_call [] 0 w).answer → ⊥
unfolding computes recode_computes
none-recoded w e = refused-made (sym e)

other-order-call-met-by-none-correct : SaysOtherOrderCall (λ b used n c. call (Ok 0) []) recode_call
other-order-call-met-by-none-correct b bc bcr br used n u k v c w fs e p p' q =
    absurd (none-recoded w (q ∙ ap₂ (λ (x : List ℕ) (m : ℕ). (recode_call x m w).answer) p' (made-same p)))

other-order-call-not-same-recode : (v : ℕ) (o : List ℕ) → SaysOtherOrderCall correct_call (λ b used w. call (Ok v) o) → ⊥
other-order-call-not-same-recode v o h =
    let R : Caller = λ b used w. call (Ok v) o in
    same-recode v v v o (other_at correct_call R Page437 0x81 0x81 61 v asked-437 letter-answer refl h v refl)
    (other_at correct_call R Page437 0x82 0x82 61 v asked-next next-answer refl h v refl)

other-order-call-not-idle-recode : (a : List ℕ → ℕ → Code → ℕ) → SaysOtherOrderCall correct_call (λ b used w. call (Ok (a b used w)) b) → ⊥
other-order-call-not-idle-recode a h =
    let R : Caller = λ b used w. call (Ok (a b used w)) b in
    let k : ℕ = a (correct_call in437 61 5 (0x81 ∷ [])).buffer 61 Page1252 in
    idle-recode a k (other_at correct_call R Page1252 0x81 0xFC 61 (a in437 61 Page1252) asked-1252 letter-answer refl h k refl)

other-order-call-not-marking-recode : SaysOtherOrderCall correct_call marking → ⊥
other-order-call-not-marking-recode h =
    let again : (marking (correct_call in437 61 5 (0x81 ∷ [])).buffer 61 Page1252).answer ≡ Ok 61 = ap (λ (b : List ℕ). (marking b 61 Page1252).answer) letter-left ∙ marking-answer in
    marking-recode 61 (other_at correct_call marking Page1252 0x81 0xFC 61 61 asked-1252 letter-answer marking-answer h 61 again)

other-order-call-met-by-idle-correct : SaysOtherOrderCall still_correct recode_call
other-order-call-met-by-idle-correct b bc bcr br used n u k v c w fs e p p' q q' r r' =
    let count : u ≡ used = made-same p in
    let same : recode_call bc u w ≡ recode_call b used w = ap₂ (λ (x : List ℕ) (m : ℕ). recode_call x m w) p' count in
    (r ∙ (ap (λ (y : Call ℕ). y.answer) (sym same) ∙ sym q), r' ∙ (ap (λ (y : Call ℕ). y.buffer) (sym same) ∙ sym q'))

other-order-call-met-by-idle-both : SaysOtherOrderCall still_correct still
other-order-call-met-by-idle-both b bc bcr br used n u k v c w fs e p p' q q' r r' =
    (r ∙ (sym p ∙ sym q), r' ∙ (sym p' ∙ sym q'))

other-order-call-met-by-same-both : (u : ℕ) (x : List ℕ) → SaysOtherOrderCall (λ b used n c. call (Ok u) x) (λ b used w. call (Ok u) x)
other-order-call-met-by-same-both m x b bc bcr br used n u k v c w fs e p p' q q' r r' = (sym q, sym q')

-- ---- either-lines: given lines that keep every rule, and a correction of them without faults

abbrev SaysEitherLines : (List Field → ℕ → List ℕ → List Field) → (Code → List Field → List Field) → Type 0
SaysEitherLines G F =
    (w : Code) (fs : List Field) (n : ℕ) (c : List ℕ) → Standing fs → Change fs n c
    → Change (F w fs) (moved_on w fs n) (content_into w fs c) × (G (F w fs) (moved_on w fs n) (content_into w fs c) ≡ F w (G fs n c))

either-lines-says : SaysEitherLines changed recode_lines
either-lines-says w fs n c st ch = let e = either-lines w fs n c st ch in (e.asked, e.lines-so)

-- P with this digit in line 4
change-p : Change p_lines 4 (0x30 ∷ [])
unfolding computes p_lines
change-p = change p_lines 4 (0x30 ∷ []) refl

change-p-1 : Change p_lines 4 (0x31 ∷ [])
unfolding computes p_lines
change-p-1 = change p_lines 4 (0x31 ∷ []) refl

-- none under which P gains no line, whatever the correction is: the corrected line would be line 5 of 4
either-lines-not-ungained : (G : List Field → ℕ → List ℕ → List Field) (F : Code → List Field → List Field) → length (F Page1252 p_lines) ≡ 4 → SaysEitherLines G F → ⊥
unfolding computes recode_computes p_lines
either-lines-not-ungained G F l h =
    let z : 5 ≤ length (F Page1252 p_lines) = (h Page1252 p_lines 4 (0x30 ∷ []) standing-p change-p).0.most in
    omega arith

either-lines-not-idle-recode : (G : List Field → ℕ → List ℕ → List Field) → SaysEitherLines G (λ w fs. fs) → ⊥
unfolding p_lines
either-lines-not-idle-recode G = either-lines-not-ungained G (λ w fs. fs) refl

either-lines-not-marking-recode : (G : List Field → ℕ → List ℕ → List Field) → SaysEitherLines G (λ w fs. map (charset_field w) fs) → ⊥
unfolding p_lines
either-lines-not-marking-recode G = either-lines-not-ungained G (λ w fs. map (charset_field w) fs) refl

-- line 4 would have the one content, and the other
either-lines-not-same-recode : (gs : List Field) → SaysEitherLines changed (λ w fs. gs) → ⊥
unfolding computes recode_computes p_lines
either-lines-not-same-recode gs h =
    let x : Change gs 4 (0x30 ∷ []) × (changed gs 4 (0x30 ∷ []) ≡ gs) = h Page437 p_lines 4 (0x30 ∷ []) standing-p change-p in
    let y : Change gs 4 (0x31 ∷ []) × (changed gs 4 (0x31 ∷ []) ≡ gs) = h Page437 p_lines 4 (0x31 ∷ []) standing-p change-p-1 in
    let e = content-changed gs 4 (0x30 ∷ []) (omega arith) x.0.most in
    let f = content-changed gs 4 (0x31 ∷ []) (omega arith) y.0.most in
    let same : ◌≡◌ {A = List ℕ} (0x30 ∷ []) (0x31 ∷ []) = sym e ∙ (ap (λ (l : List Field). content_at_line l 3) (x.1 ∙ sym y.1) ∙ f) in
    let z : ◌≡◌ {A = ℕ} 0x30 0x31 = ap (λ (c : List ℕ). get_or c 0 0) same in
    omega arith

-- the same lines always, if they keep the rules: they would be in both code pages
either-lines-not-same-correct : (gs : List Field) → Standing gs → SaysEitherLines (λ fs n c. gs) recode_lines → ⊥
either-lines-not-same-correct gs st h =
    let i : (w : Code) → in_code w gs ≡ true = λ w. ap (in_code w) (h w p_lines 4 (0x30 ∷ []) standing-p change-p).1 ∙ recoded-in-code w gs st in
    not-both (render gs []) gs (read-render gs [] st refl) (i Page1252) (in-1252 gs (i Page1252)) (i Page437)

-- No lines always. Shut out by `still-standing`, `alike-changed`.
either-lines-met-by-none-correct : SaysEitherLines (λ fs n c. []) recode_lines
unfolding computes recode_computes
either-lines-met-by-none-correct Page437 fs n c st ch = ((either-lines Page437 fs n c st ch).asked, refl)
either-lines-met-by-none-correct Page1252 fs n c st ch = ((either-lines Page1252 fs n c st ch).asked, refl)

-- A correction that changes nothing. Shut out by `correct-makes`, `corrected-exactly`.
either-lines-met-by-idle-correct : SaysEitherLines (λ fs n c. fs) recode_lines
either-lines-met-by-idle-correct w fs n c st ch = ((either-lines w fs n c st ch).asked, refl)
