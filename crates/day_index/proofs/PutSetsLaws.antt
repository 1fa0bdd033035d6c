-- The entries of a file whose sets were all counted, put one after the other: what each turn of `put_sets` has to show.
use mathlib.Core.Path.{◌≡◌, refl, sym, ap, ap₂, ◌∙◌, subst}
use mathlib.Core.Bool.{Bool, true, false, cond}
use mathlib.Core.List.{List, [], ◌∷◌, ◌++◌}
use Prim.Native.Nat.{ℕ, zero, suc, ◌+◌, ◌-◌, ◌*◌, ◌≤◌, ◌<◌}
use native.Mathlib.Omega.{arith}
use lib.ListN.{length, drop}
use Rattle.meaning.specs.Field.{Field, is_nil}
use Rattle.meaning.specs.Refusals.{Reply, refused, done, then_to, refusal, too_many_sets}
use Rattle.meaning.specs.Pieces.{Parsed}
use Rattle.meaning.specs.Lines.{size}
use Rattle.meaning.specs.Reading.{shape, judged, read}
use Rattle.meaning.specs.Answers.{made}
use Rattle.meaning.proofs.Bools.{none-of-length}
use Rattle.meaning.proofs.FaultLaws.{done-same}
use Rattle.meaning.proofs.AnswerLaws.{refused-made, made-same}
use Rattle.byte_put.specs.Places.{over}
use Rattle.byte_put.proofs.OverLaws.{over_none, turned}
use Rattle.meaning_day.specs.declared.DayEntry.{DayEntry}
use Rattle.meaning_day.specs.Days.{max_sets, day_entry, placed, sets_from}
use Rattle.meaning_day.specs.DayCalls.{columns}
use Rattle.meaning_day.proofs.ColumnLaws.{length-columns}
use Rattle.day_entry.specs.ToldEntry.{told_entry}
use Rattle.day_entry.proofs.ToldEntryLaws.{entry-told}
use Rattle.day_index.specs.Counting.{listed}
use Rattle.day_index.proofs.CountLaws.{SetHere, set_here}
use Rattle.std.specs.Prelude.{Ok}

-- as many entries are listed as were counted
pub length-listed : (r : Reply (List DayEntry)) (n : ℕ) → made r ≡ Ok n → length (listed r) ≡ n
length-listed (refused q) n e = refused-made e
length-listed (done es) n e = made-same e

-- the set at an offset, if some are left: its entry as its bytes tell it, and the sets after it
record NextSet (f : List ℕ) (n at left : ℕ) : Type 0 where
  within : at + (told_entry f at).length ≤ length f
  still : made (sets_from (n - 1) (at + (told_entry f at).length) (drop (at + (told_entry f at).length) f)) ≡ Ok (left - 1)
  first-is : listed (sets_from n at (drop at f)) ≡ told_entry f at ∷ listed (sets_from (n - 1) (at + (told_entry f at).length) (drop (at + (told_entry f at).length) f))

-- the length of an entry is the set's
entry_length : (at : ℕ) (fs : List Field) → (day_entry at fs).length ≡ size fs
unfolding day_entry
entry_length at fs = refl

-- an entry before those that a reply made
abbrev with : DayEntry → Reply (List DayEntry) → Reply (List DayEntry)
with x r = then_to r (λ es. done (x ∷ es))

one_less : (x : DayEntry) (r : Reply (List DayEntry)) (left : ℕ) → made (with x r) ≡ Ok left → made r ≡ Ok (left - 1)
one_less x (refused q) left e = refused-made e
one_less x (done es) left e = ap Ok (omega (arith, made-same e))

listed-with : (x : DayEntry) (r : Reply (List DayEntry)) (left : ℕ) → made (with x r) ≡ Ok left → listed (with x r) ≡ x ∷ listed r
listed-with x (refused q) left e = refused-made e
listed-with x (done es) left e = refl

next-set : (f : List ℕ) (n at left : ℕ) → at ≤ length f → made (sets_from n at (drop at f)) ≡ Ok left → 0 < left → NextSet f n at left
unfolding sets_from
next-set f zero at left g e h = go (is_nil (drop at f)) (placed at (read (drop at f))) e
  where
    go : (b : Bool) (q : Reply Parsed) → made {A = DayEntry} (cond b (done []) (then_to q (λ d. refused (refusal too_many_sets at 0)))) ≡ Ok left → NextSet f zero at left
    go true q p = let z : ◌≡◌ {A = ℕ} 0 left = made-same p in absurd (omega arith)
    go false (refused r) p = refused-made p
    go false (done d) p = refused-made p
next-set f (suc n) at left g e h = go (is_nil (drop at f)) refl (read (drop at f)) refl e
  where
    after : Parsed → Reply (List DayEntry)
    after d = with (day_entry at d.fields) (sets_from n (at + size d.fields) d.rest)

    there : (d : Parsed) → is_nil (drop at f) ≡ false → read (drop at f) ≡ done d → made (after d) ≡ Ok left → NextSet f (suc n) at left
    there d x r p =
        let told : told_entry f at ≡ day_entry at d.fields = entry-told f at d r in
        let long : (told_entry f at).length ≡ size d.fields = ap (λ (y : DayEntry). y.length) told ∙ entry_length at d.fields in
        let s : SetHere f at (shape d.fields) = set_here f at g (shape d.fields) (ap (λ (q : Reply Parsed). judged (placed at q)) r) in
        let w : s.what ≡ d = done-same (sym s.reads ∙ r) in
        let to : at + (told_entry f at).length ≡ at + size d.fields = ap (λ (k : ℕ). at + k) long in
        let rest : drop (at + (told_entry f at).length) f ≡ d.rest = ap (λ (k : ℕ). drop k f) to ∙ s.next-there ∙ ap (λ (y : Parsed). y.rest) w in
        let same : sets_from n (at + (told_entry f at).length) (drop (at + (told_entry f at).length) f) ≡ sets_from n (at + size d.fields) d.rest = ap₂ (sets_from n) to rest in
        let one : suc n - 1 ≡ n = omega arith in
        record {
          within = omega (arith, long, s.within);
          still = rw (one, same) (one_less (day_entry at d.fields) (sets_from n (at + size d.fields) d.rest) left p);
          first-is =
              rw (one, same, x, r) (listed-with (day_entry at d.fields) (sets_from n (at + size d.fields) d.rest) left p
              ∙ ap (λ (y : DayEntry). y ∷ listed (sets_from n (at + size d.fields) d.rest)) (sym told));
        }

    go : (b : Bool) → is_nil (drop at f) ≡ b → (q : Reply Parsed) → read (drop at f) ≡ q
        → made (cond b (done []) (then_to (placed at q) after)) ≡ Ok left → NextSet f (suc n) at left
    go true x q y p = let z : ◌≡◌ {A = ℕ} 0 left = made-same p in absurd (omega arith)
    go false x (refused r) y p = refused-made p
    go false x (done d) y p = there d x y p

-- one entry more is put, and those of the sets after it are left
module _ (f : List ℕ) (n at left k : ℕ) (here : NextSet f n at left) (e : made (sets_from n at (drop at f)) ≡ Ok left) where
  put-turn : (b b' : List ℕ) → k * 4 + left * 4 ≤ length b → b' ≡ over (k * 4) (columns (told_entry f at ∷ [])) b
      → (length b' ≡ length b)
      × (over ((k + 1) * 4) (columns (listed (sets_from (n - 1) (at + (told_entry f at).length) (drop (at + (told_entry f at).length) f)))) b'
      ≡ over (k * 4) (columns (listed (sets_from n at (drop at f)))) b)
  put-turn b b' r q =
      let all : List ℕ = columns (listed (sets_from n at (drop at f))) in
      let later : List ℕ = columns (listed (sets_from (n - 1) (at + (told_entry f at).length) (drop (at + (told_entry f at).length) f))) in
      let both : all ≡ columns (told_entry f at ∷ []) ++ later = ap columns here.first-is in
      let room : k * 4 + length all ≤ length b =
      omega (arith, length-columns (listed (sets_from n at (drop at f))), length-listed (sets_from n at (drop at f)) left e) in
      let t = turned b (k * 4) all (columns (told_entry f at ∷ [])) later both room ((k + 1) * 4) b' (omega arith) q in
      (t.same-room, t.same)

-- a turn of the loop: k entries of `count` are put, and e is that of the set at an offset
pub record Turn (f : List ℕ) (at k count : ℕ) (e : DayEntry) : Type 0 where
  pub within : at + e.length ≤ length f
  pub still : made (sets_from (max_sets - (k + 1)) (at + e.length) (drop (at + e.length) f)) ≡ Ok (count - (k + 1))
  pub puts : (b b' : List ℕ) → count * 4 ≤ length b → b' ≡ over (k * 4) (columns (e ∷ [])) b
      → (length b' ≡ length b)
      × (over ((k + 1) * 4) (columns (listed (sets_from (max_sets - (k + 1)) (at + e.length) (drop (at + e.length) f)))) b'
      ≡ over (k * 4) (columns (listed (sets_from (max_sets - k) at (drop at f)))) b)

pub set-turn : (f : List ℕ) (at k count : ℕ) (e : DayEntry) → e ≡ told_entry f at → k < count → at ≤ length f
    → made (sets_from (max_sets - k) at (drop at f)) ≡ Ok (count - k) → Turn f at k count e
set-turn f at k count e q h g p =
    let here = next-set f (max_sets - k) at (count - k) g p (omega arith) in
    let m : max_sets - k - 1 ≡ max_sets - (k + 1) = omega arith in
    let c : count - k - 1 ≡ count - (k + 1) = omega arith in
    subst (Turn f at k count) (sym q) (record {
      within = here.within;
      still = rw (m, c) at here.still;
      puts = λ b b' r x. rw m at (put-turn f (max_sets - k) at (count - k) k here p b b' (omega arith) x);
    })

-- none is left
pub put-end : (f : List ℕ) (n at to : ℕ) (b : List ℕ) → made (sets_from n at (drop at f)) ≡ Ok 0 → b ≡ over to (columns (listed (sets_from n at (drop at f)))) b
put-end f n at to b e =
    over_none b to
    ∙ ap (λ (es : List DayEntry). over to (columns es) b) (sym (none-of-length (listed (sets_from n at (drop at f))) (length-listed (sets_from n at (drop at f)) 0 e)))
