-- The demands on the calls themselves: whoever has answers and buffers that meet the contracts of `list`, `write` and `correct` has what the demands say.
-- A law on the writer assumes that the bytes of its list are under 256.
use mathlib.Core.Path.{◌≡◌, refl, sym, ap, ap₂, ◌∙◌}
use mathlib.Core.List.{List, [], ◌++◌}
use Prim.Native.Nat.{ℕ, ◌-◌, ◌≤◌}
use native.Mathlib.Omega.{arith}
use lib.ListN.{length, take, replicate, length-take}
use lib.Seq.{take-append_seam}
use Rattle.meaning.specs.declared.Shape.{Shape}
use Rattle.meaning.specs.Field.{Field}
use Rattle.meaning.specs.Refusals.{Reply, refused, done}
use Rattle.meaning.specs.Pieces.{parsed}
use Rattle.meaning.specs.Lines.{size}
use Rattle.meaning.specs.Reading.{read, judge}
use Rattle.meaning.specs.Lists.{list, write}
use Rattle.meaning.specs.Corrections.{resum, correct}
use Rattle.meaning.specs.Answers.{made, bytes_left, list_call, write_call, correct_call}
use Rattle.meaning.proofs.Bools.{Every}
use Rattle.meaning.proofs.EntryLaws.{Byte}
use Rattle.meaning.proofs.LineLaws.{length-render}
use Rattle.meaning.proofs.SetLaws.{accepted}
use Rattle.meaning.proofs.WriterLaws.{list_of}
use Rattle.meaning.proofs.Demands.{judge-read, list-write, list-there, write-list, write-judge, both_replaced, either_order}
use Rattle.meaning.specs.Results.{Made}
use Rattle.std.specs.Prelude.{Ok}

-- ---- a call that is done

-- what was made stands at the front of the buffer that the call left
pub record DoneCall (r : Reply (List ℕ)) (n : ℕ) : Type 0 where
  pub bytes : List ℕ
  pub is-done : r ≡ done bytes
  pub so-many : length bytes ≡ n

pub done-call : (r : Reply (List ℕ)) (n : ℕ) → Ok n ≡ made r → DoneCall r n
done-call (refused q) n e = let z : ◌≡◌ {A = ℕ} 0 1 = cc in absurd (omega arith)
done-call (done bs) n e = record { bytes = bs; is-done = refl; so-many = cc }

-- the first n bytes of the buffer are what was made
pub front-made : (bs b : List ℕ) (n : ℕ) → length bs ≡ n → take n (bytes_left (done bs) b) ≡ bs
front-made bs b n e = rw (← e) (take-append_seam bs (replicate (length b - length bs) 0))

-- ---- demand 2

-- "Given room, an accepted set turned into a field list and written again gives identical bytes": there is one list; `list` makes it if there is room for it, and `write`, given
-- those bytes of the buffer and room for the set, makes the set
pub set-list-set : (s : List ℕ) (x : Shape) → judge s ≡ Ok x
    → (l : List ℕ) × ((list₀ list₁ out₀ out₁ : List ℕ) (listed written : Made)
    → length l ≤ length list₀ → x.length ≤ length out₀
    → listed ≡ (list_call s list₀).answer → list₁ ≡ (list_call s list₀).buffer
    → written ≡ (write_call (take (length l) list₁) out₀).answer → out₁ ≡ (write_call (take (length l) list₁) out₀).buffer
    → ((listed ≡ Ok (length l)) × (list₁ ≡ l ++ replicate (length list₀ - length l) 0))
    × ((written ≡ Ok x.length) × (out₁ ≡ take x.length s ++ replicate (length out₀ - x.length) 0)))
set-list-set s x j = (l, λ list₀ list₁ out₀ out₁ listed written room room' p q u v. both list₀ list₁ out₀ out₁ listed written room room' p q u v)
  where
    l : List ℕ
    l = (list-there s x j).0

    m : length (take x.length s) ≡ x.length
    m =
        let d = judge-read s x j in
        let a = accepted s d.0 d.1 in
        omega (arith, length-take x.length s, ap (λ (y : Shape). y.length) d.2, ap length a.bytes, length-render d.0.fields d.0.rest)

    both : (list₀ list₁ out₀ out₁ : List ℕ) (listed written : Made) → length l ≤ length list₀ → x.length ≤ length out₀
        → listed ≡ (list_call s list₀).answer → list₁ ≡ (list_call s list₀).buffer
        → written ≡ (write_call (take (length l) list₁) out₀).answer → out₁ ≡ (write_call (take (length l) list₁) out₀).buffer
        → ((listed ≡ Ok (length l)) × (list₁ ≡ l ++ replicate (length list₀ - length l) 0))
        × ((written ≡ Ok x.length) × (out₁ ≡ take x.length s ++ replicate (length out₀ - x.length) 0))
    both list₀ list₁ out₀ out₁ listed written room room' p q u v =
        let e : list s (length list₀) ≡ done l = (list-there s x j).1 (length list₀) room in
        let left : list₁ ≡ bytes_left (done l) list₀ = q ∙ ap (λ (r : Reply (List ℕ)). bytes_left r list₀) e in
        let f : take (length l) list₁ ≡ l = ap (take (length l)) left ∙ front-made l list₀ (length l) refl in
        let w : write (take (length l) list₁) (length out₀) ≡ done (take x.length s) =
        ap (λ (z : List ℕ). write z (length out₀)) f ∙ list-write s x l (length list₀) (length out₀) j e room' in (
          (p ∙ ap made e, left),
          (
            u ∙ (ap made w ∙ ap Ok m),
            v ∙ (ap (λ (r : Reply (List ℕ)). bytes_left r out₀) w ∙ ap (λ (k : ℕ). take x.length s ++ replicate (length out₀ - k) 0) m),
          ),
        )

-- "a list that the writer accepts is read back unchanged": `write` makes n bytes in a buffer, they are an accepted set, and `list` is given them
pub list-set-list : (l out₀ out₁ back₀ back₁ : List ℕ) (n : ℕ) (answer : Made) → Every Byte l
    → Ok n ≡ (write_call l out₀).answer → out₁ ≡ (write_call l out₀).buffer
    → length l ≤ length back₀
    → answer ≡ (list_call (take n out₁) back₀).answer → back₁ ≡ (list_call (take n out₁) back₀).buffer
    → ((y : Shape) × (judge (take n out₁) ≡ Ok y) × (y.length ≡ n)) × (answer ≡ Ok (length l)) × (back₁ ≡ l ++ replicate (length back₀ - length l) 0)
list-set-list l out₀ out₁ back₀ back₁ n answer b p q room u v =
    let x = done-call (write l (length out₀)) n p in
    let f : take n out₁ ≡ x.bytes = ap (take n) (q ∙ ap (λ (r : Reply (List ℕ)). bytes_left r out₀) x.is-done) ∙ front-made x.bytes out₀ n x.so-many in
    let w : list (take n out₁) (length back₀) ≡ done l = ap (λ (z : List ℕ). list z (length back₀)) f ∙ write-list l x.bytes (length out₀) (length back₀) b x.is-done room in
    let y = write-judge l x.bytes (length out₀) b x.is-done in
    ((y.0, ap judge f ∙ y.1, y.2 ∙ x.so-many), u ∙ ap made w, v ∙ ap (λ (r : Reply (List ℕ)). bytes_left r back₀) w)

-- ---- demand 3

-- "Either may go first: both are accepted, and both orders leave the same buffer, which holds the set the writer gives for the same field list with those two contents
-- replaced": each of the two is made in the buffer b, with answers u and v, and then in the buffer that the other left
pub either-call : (b bx by : List ℕ) (used n m : ℕ) (c d : List ℕ) (fs : List Field) (u v : ℕ)
    → read (take used b) ≡ done (parsed fs []) → (n ≡ m → ⊥)
    → Ok u ≡ (correct_call b used n c).answer → bx ≡ (correct_call b used n c).buffer
    → Ok v ≡ (correct_call b used m d).answer → by ≡ (correct_call b used m d).buffer
    → size (resum (both_replaced fs n c m d)) ≤ length b
    → (k : ℕ) × ((correct_call bx u m d).answer ≡ Ok k) × ((correct_call by v n c).answer ≡ Ok k)
    × ((correct_call bx u m d).buffer ≡ (correct_call by v n c).buffer)
    × ((write_call (list_of (both_replaced fs n c m d)) b).answer ≡ Ok k) × ((correct_call bx u m d).buffer ≡ (write_call (list_of (both_replaced fs n c m d)) b).buffer)
either-call b bx by used n m c d fs u v r ne p bp q bq room =
    let x = done-call (correct b used n c) u p in
    let y = done-call (correct b used m d) v q in
    let o = either_order b used n m c d x.bytes y.bytes fs r ne x.is-done y.is-done room in
    let ex : bx ≡ bytes_left (done x.bytes) b = bp ∙ ap (λ (z : Reply (List ℕ)). bytes_left z b) x.is-done in
    let ey : by ≡ bytes_left (done y.bytes) b = bq ∙ ap (λ (z : Reply (List ℕ)). bytes_left z b) y.is-done in
    let one : correct bx u m d ≡ done o.result = ap₂ (λ (z : List ℕ) (k : ℕ). correct z k m d) ex (sym x.so-many) ∙ o.second-after-first in
    let two : correct by v n c ≡ done o.result = ap₂ (λ (z : List ℕ) (k : ℕ). correct z k n c) ey (sym y.so-many) ∙ o.first-after-second in
    let left1 : bytes_left (correct bx u m d) bx ≡ bytes_left (done o.result) (bytes_left (done x.bytes) b) = ap₂ bytes_left one ex in
    let left2 : bytes_left (correct by v n c) by ≡ bytes_left (done o.result) (bytes_left (done y.bytes) b) = ap₂ bytes_left two ey in (
      length o.result,
      ap made one,
      ap made two,
      left1 ∙ (o.same-buffer ∙ sym left2),
      ap made o.as-written,
      left1 ∙ (o.written-buffer ∙ ap (λ (z : Reply (List ℕ)). bytes_left z b) (sym o.as-written)),
    )
