-- What the call answers and leaves: what each `return` has to show.
use mathlib.Core.Path.{◌≡◌, refl, sym, ap, ap₂, ◌∙◌, subst}
use mathlib.Core.List.{List, []}
use Prim.Native.Nat.{ℕ, ◌-◌, ◌≤◌, ◌<◌}
use native.Mathlib.Omega.{arith}
use lib.ListN.{length, replicate}
use borrow.Author.Tests.{le-leb, lt-leb}
use Rattle.meaning.specs.declared.Refusal.{Refusal}
use Rattle.meaning.specs.declared.Shape.{Shape}
use Rattle.meaning.specs.Field.{Field}
use Rattle.meaning.specs.Limits.{max_set_bytes}
use Rattle.meaning.specs.Refusals.{Reply, refused, done, then_to}
use Rattle.meaning.specs.Pieces.{parsed}
use Rattle.meaning.specs.Answers.{made, bytes_left}
use Rattle.meaning.proofs.SizeLaws.{accepted-size}
use Rattle.meaning_cable.specs.Stream.{stream}
use Rattle.meaning_cable.specs.Blocks.{max_data, max_count, block_count, block_label, block_data, block_bytes, block_of, set_alone, block}
use Rattle.meaning_cable.specs.CableCalls.{block_call}
use Rattle.meaning_cable.proofs.OneSetLaws.{alone-read}
use Rattle.cable_set.specs.BlockCounts.{alone_judged, data_length, count_for}
use Rattle.cable_set.proofs.AloneSetLaws.{alone-is}
use Rattle.cable_data.specs.Carried.{data_from, place_after, HasData}
use Rattle.cable_data.proofs.CarriedLaws.{alone, window-is, window-within}
use Rattle.cable_frame.specs.Framed.{framed}
use Rattle.cable_block.specs.Cutting.{cut_for, end_for}
use Rattle.cable_block.proofs.CutLaws.{count-is, Between, between}
use Rattle.std.specs.Prelude.{Err, Ok}

-- a set that is refused: the buffer stays as it was
pub answer-refused : (s out : List ℕ) (i count : ℕ) (r : Refusal) → Err r ≡ alone_judged (set_alone s)
    → (Err r ≡ (block_call s i count out).answer) × (out ≡ (block_call s i count out).buffer)
unfolding block
answer-refused s out i count r e = go (set_alone s) e
  where
    go : (x : Reply (List Field)) → Err r ≡ alone_judged x
        → (Err r ≡ made (then_to x (λ fs. done (block_of (stream fs) i count)))) × (out ≡ bytes_left (then_to x (λ fs. done (block_of (stream fs) i count))) out)
    go (refused y) q = let z : r ≡ y = cc in (ap Err z, refl)
    go (done fs) q = let z : ◌≡◌ {A = ℕ} 0 1 = cc in absurd (omega arith)

-- an accepted set, of n bytes of data
module _ (s : List ℕ) (x : Shape) (e : Ok x ≡ alone_judged (set_alone s)) (n : ℕ) (l : n ≡ data_length x) where
  abbrev fields : List Field
  fields = (alone-is s x e).0

  is-alone : set_alone s ≡ done fields
  is-alone = (alone-is s x e).1

  data-length : length (stream fields) ≡ n
  data-length = (alone-is s x e).4 ∙ sym l

  pub data-few : n ≤ max_set_bytes
  data-few =
      let few = accepted-size s (parsed fields []) (alone-read s fields is-alone) in
      omega (arith, few, ap (λ (y : Shape). y.length) (alone-is s x e).2)

  block-is : (i count : ℕ) → block s i count ≡ done (block_of (stream fields) i count)
  unfolding block
  block-is i count = rw is-alone

  -- there is no such block, or the count is over 9
  pub answer-none : (i count : ℕ) (out : List ℕ) → block_of (stream fields) i count ≡ []
      → (Ok 0 ≡ (block_call s i count out).answer) × (replicate (length out) 0 ≡ (block_call s i count out).buffer)
  answer-none i count out q =
      let z : done [] ≡ block s i count = sym (block-is i count ∙ ap done q) in
      let k : length out ≡ length out - 0 = omega arith in
      (ap made z, ap (λ (m : ℕ). replicate m 0) k ∙ ap (λ (u : Reply (List ℕ)). bytes_left u out) z)

  pub none_after : (i count : ℕ) → count_for n ≤ i → block_of (stream fields) i count ≡ []
  unfolding block_of
  none_after i count h = rw (le-leb (block_count (stream fields)) i (omega (arith, count-is (stream fields), ap count_for data-length)))

  module _ (i : ℕ) (h : i < count_for n) where
    pub none_over : (count : ℕ) → max_count < count → block_of (stream fields) i count ≡ []
    unfolding block_of
    none_over count g =
        rw (lt-leb (block_count (stream fields)) i (omega (arith, count-is (stream fields), ap count_for data-length)), lt-leb count max_count g)

    parts : (cut_for n i ≤ end_for n i) × Between fields i (cut_for n i) (end_for n i - cut_for n i)
    parts =
        subst (λ (m : ℕ). (cut_for m i ≤ end_for m i) × Between fields i (cut_for m i) (end_for m i - cut_for m i)) data-length
        (between fields i (alone s fields is-alone).standing (subst (λ (m : ℕ). i < count_for m) (sym data-length) h))

    -- its data are those from one cut to the next
    module _ (start end : ℕ) (a : start ≡ cut_for n i) (b : end ≡ end_for n i) where
      pub in_order : start ≤ end
      in_order = omega (arith, parts.0)

      here : Between fields i start (end - start)
      here = subst (λ (u : ℕ). Between fields i u (end - u)) (sym a) (subst (λ (v : ℕ). Between fields i (cut_for n i) (v - cut_for n i)) (sym b) parts.1)

      pub has-data : HasData s start
      has-data = (fields, is-alone, omega (arith, here.within))

      pub data-short : end - start ≤ max_data
      data-short = here.short

      module _ (from : ℕ) (c : from ≡ place_after s 0 start) where
        pub data-within : place_after s from (end - start) ≤ length s
        data-within = subst (λ (u : ℕ). place_after s u (end - start) ≤ length s) (sym c) (window-within s fields is-alone start (end - start) here.within)

        data_is : data_from s from (end - start) ≡ block_data (stream fields) i
        data_is = ap (λ (u : ℕ). data_from s u (end - start)) c ∙ (window-is s fields is-alone start (end - start) here.within ∙ sym here.data_is)

        pub answer-made : (blocks count label r : ℕ) (out out' : List ℕ) → blocks ≡ count_for n → count ≤ max_count → label ≡ block_label i blocks
            → r ≡ length (framed count label s from (end - start)) → out' ≡ bytes_left (done (framed count label s from (end - start))) out
            → (Ok r ≡ (block_call s i count out).answer) × (out' ≡ (block_call s i count out).buffer)
        unfolding block_of
        answer-made blocks count label r out out' m g d p q =
            let k : block_count (stream fields) ≡ blocks = count-is (stream fields) ∙ (ap count_for data-length ∙ sym m) in
            let made-is : framed count label s from (end - start) ≡ block_of (stream fields) i count =
            ap₂ (block_bytes count) (d ∙ ap (block_label i) (sym k)) data_is
            ∙ sym (rw (lt-leb (block_count (stream fields)) i (omega (arith, k, m)), le-leb count max_count g) refl) in
            let z : done (framed count label s from (end - start)) ≡ block s i count = ap done made-is ∙ sym (block-is i count) in
            (ap Ok p ∙ ap made z, q ∙ ap (λ (u : Reply (List ℕ)). bytes_left u out) z)
