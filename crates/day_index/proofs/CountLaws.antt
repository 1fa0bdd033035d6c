-- The set at an offset of the file, and the count of the sets from there on: what each `return`, and each turn of the loop, has to show.
use mathlib.Core.Path.{◌≡◌, refl, sym, ap, ap₂, ◌∙◌, subst}
use mathlib.Core.Bool.{true, false}
use mathlib.Core.List.{List, [], ◌∷◌, cons≢nil}
use Prim.Native.Nat.{ℕ, zero, suc, ◌+◌, ◌-◌, ◌≤◌, ◌<◌}
use native.Mathlib.Omega.{arith}
use lib.ListN.{length, take, drop, length-drop}
use lib.Seq.{take_all, drop-drop}
use borrow.Author.Tests.{le-leb, lt-leb}
use Rattle.meaning.specs.declared.Refusal.{Refusal}
use Rattle.meaning.specs.declared.Shape.{Shape}
use Rattle.meaning.specs.Field.{Field, is_nil}
use Rattle.meaning.specs.Refusals.{Reply, refused, done, then_to, refusal, too_many_sets}
use Rattle.meaning.specs.Pieces.{Parsed}
use Rattle.meaning.specs.Lines.{size}
use Rattle.meaning.specs.Rules.{start_faults, set_faults}
use Rattle.meaning.specs.Reading.{shape, judged, judge, read}
use Rattle.meaning.specs.Answers.{made}
use Rattle.meaning.proofs.Bools.{end_is}
use Rattle.meaning.proofs.AnswerLaws.{refused-accepted, accepted-same, refusal-same}
use Rattle.meaning.proofs.LeftLaws.{one-more}
use Rattle.meaning.proofs.RuleLaws.{ruled}
use Rattle.meaning.proofs.SetLaws.{accepted}
use Rattle.meaning_day.specs.declared.DayEntry.{DayEntry}
use Rattle.meaning_day.specs.Days.{max_sets, day_entry, placed, sets_from}
use Rattle.meaning_day.proofs.DayLaws.{drop-lines, read_length}
use Rattle.meaning.proofs.WithinLaws.{refused-within}
use Rattle.day_index.specs.Counting.{counted_after}
use Rattle.meaning.specs.Results.{Judged}
use Rattle.std.specs.Prelude.{Err, Ok}

-- ---- one set, judged at an offset

-- what the callee is lent of `&file[at..]`
part-is : (f : List ℕ) (at : ℕ) → take (length f - at) (drop at f) ≡ drop at f
part-is f at = take_all (length f - at) (drop at f) (omega (arith, length-drop at f))

module _ (f : List ℕ) (at : ℕ) where
  at-judge : (j : Judged) → j ≡ judge (take (length f - at) (drop at f)) → j ≡ judged (read (drop at f))
  unfolding judge
  at-judge j e = e ∙ ap (λ (s : List ℕ). judged (read s)) (part-is f at)

  pub judged-accepted : (x : Shape) → Ok x ≡ judge (take (length f - at) (drop at f)) → Ok x ≡ judged (placed at (read (drop at f)))
  judged-accepted x e = go (read (drop at f)) (at-judge (Ok x) e)
    where
      go : (r : Reply Parsed) → Ok x ≡ judged r → Ok x ≡ judged (placed at r)
      go (refused r) q = refused-accepted (sym q)
      go (done d) q = q

  -- the place of a refusal, in the file
  pub judged-refused : (r : Refusal) → Err r ≡ judge (take (length f - at) (drop at f))
      → (Err (refusal r.no (at + r.place) r.label) ≡ judged (placed at (read (drop at f)))) × (r.place ≤ length (drop at f))
  judged-refused r e = go (read (drop at f)) refl (at-judge (Err r) e)
    where
      go : (q : Reply Parsed) → read (drop at f) ≡ q → Err r ≡ judged q → (Err (refusal r.no (at + r.place) r.label) ≡ judged (placed at q)) × (r.place ≤ length (drop at f))
      go (refused q) p h =
          let s : r ≡ q = refusal-same h in
          (ap (λ (y : Refusal). Err (refusal y.no (at + y.place) y.label)) s, subst (λ (y : Refusal). y.place ≤ length (drop at f)) (sym s) (refused-within (drop at f) q p))
      go (done d) p h = refused-accepted h

-- ---- the sets from an offset on, of which n may come; `count` stand before it

some_size : (fs : List Field) → set_faults fs ≡ [] → 0 < size fs
unfolding start_faults
some_size [] e = absurd (cons≢nil (ruled [] e).0.begins)
some_size (f ∷ fs) e = omega arith

-- what an accepted set at an offset is, and where the next one starts
pub record SetHere (f : List ℕ) (at : ℕ) (x : Shape) : Type 0 where
  pub what : Parsed
  pub reads : read (drop at f) ≡ done what
  pub long : x.length ≡ size what.fields
  pub some_bytes : 0 < x.length
  pub within : at + x.length ≤ length f
  pub next-there : drop (at + x.length) f ≡ what.rest

module _ (f : List ℕ) (at : ℕ) where
  pub set_here : at ≤ length f → (x : Shape) → judged (placed at (read (drop at f))) ≡ Ok x → SetHere f at x
  set_here g x e = go (read (drop at f)) refl e
    where
      go : (q : Reply Parsed) → read (drop at f) ≡ q → judged (placed at q) ≡ Ok x → SetHere f at x
      go (refused r) p h = refused-accepted h
      go (done d) p h =
          let s : x ≡ shape d.fields = sym (accepted-same h) in
          let a = accepted (drop at f) d p in
          let n : x.length ≡ size d.fields = ap (λ (y : Shape). y.length) s in
          record {
            what = d;
            reads = p;
            long = n;
            some_bytes = omega (arith, n, some_size d.fields a.standing.right);
            within = omega (arith, n, read_length (drop at f) d p, length-drop at f);
            next-there = sym (drop-drop x.length at f) ∙ (ap₂ drop n a.bytes ∙ drop-lines d.fields d.rest);
          }

  at-end : length f ≤ at → is_nil (drop at f) ≡ true
  at-end h = sym (end_is f at) ∙ le-leb (length f) at h

  not-at-end : at < length f → is_nil (drop at f) ≡ false
  not-at-end h = sym (end_is f at) ∙ lt-leb (length f) at h

  -- no byte is left
  pub count-end : (n count : ℕ) → length f ≤ at → counted_after count (sets_from n at (drop at f)) ≡ Ok count
  unfolding sets_from
  count-end zero count h = rw (at-end h) (ap Ok (omega arith))
  count-end (suc n) count h = rw (at-end h) (ap Ok (omega arith))

  -- a set's own refusal
  pub count-refused : (n count : ℕ) (r : Refusal) → at < length f → judged (placed at (read (drop at f))) ≡ Err r
      → counted_after count (sets_from n at (drop at f)) ≡ Err r
  unfolding sets_from
  count-refused zero count r h e = rw (not-at-end h) (go (placed at (read (drop at f))) e)
    where
      go : (q : Reply Parsed) → judged q ≡ Err r → counted_after count (then_to q (λ d. refused (refusal too_many_sets at 0))) ≡ Err r
      go (refused q) p = ap Err (refusal-same p)
      go (done d) p = refused-accepted (sym p)
  count-refused (suc n) count r h e = rw (not-at-end h) (go (placed at (read (drop at f))) e)
    where
      go : (q : Reply Parsed) → judged q ≡ Err r
          → counted_after count (then_to q (λ d. then_to (sets_from n (at + size d.fields) d.rest) (λ es. done (day_entry at d.fields ∷ es)))) ≡ Err r
      go (refused q) p = ap Err (refusal-same p)
      go (done d) p = refused-accepted (sym p)

  module _ (x : Shape) (s : SetHere f at x) where
    here-starts : at < length f
    here-starts = omega (arith, s.some_bytes, s.within)

    -- one more than may come
    pub count-full : (n count : ℕ) → n ≡ 0 → counted_after count (sets_from n at (drop at f)) ≡ Err (refusal too_many_sets at 0)
    unfolding sets_from
    count-full n count z = rw (z, not-at-end here-starts, s.reads)

    -- it is counted, and the sets after it are left
    count_next : (n count : ℕ) → counted_after count (sets_from (suc n) at (drop at f)) ≡ counted_after (count + 1) (sets_from n (at + x.length) (drop (at + x.length) f))
    unfolding sets_from
    count_next n count = rw (not-at-end here-starts, s.reads, ← s.long, ← s.next-there) (go (sets_from n (at + x.length) (drop (at + x.length) f)))
      where
        go : (r : Reply (List DayEntry)) → counted_after count (then_to r (λ es. done (day_entry at s.what.fields ∷ es))) ≡ counted_after (count + 1) r
        go (refused q) = refl
        go (done es) = ap Ok (omega arith)

    pub count_turn : (count : ℕ) → count < max_sets
        → counted_after (count + 1) (sets_from (max_sets - (count + 1)) (at + x.length) (drop (at + x.length) f)) ≡ counted_after count (sets_from (max_sets - count) at (drop at f))
    count_turn count h = rw (one-more h) (sym (count_next (max_sets - (count + 1)) count))

-- all sets of the file
pub counted-all : (r : Reply (List DayEntry)) → counted_after 0 r ≡ made r
counted-all (refused q) = refl
counted-all (done es) = ap Ok (omega arith)
