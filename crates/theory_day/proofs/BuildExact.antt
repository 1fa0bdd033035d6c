-- The index is exact: it is made exactly if the file is set after set, each of which keeps every rule, they are at most 2,048, and there is room; and it has an entry for each of them,
-- in file order (`built-exactly`). Else it is refused with the number, the place and the label that DayBreaches states, and with no other (`build-refused-with`).
use mathlib.Core.Path.{◌≡◌, refl, sym, ap, ap₂, ◌∙◌, subst}
use mathlib.Core.Bool.{Bool, true, false}
use mathlib.Core.List.{List, [], ◌∷◌, ◌++◌, append-nil}
use mathlib.Core.Logic.{◌↔◌}
use Prim.Native.Nat.{ℕ, zero, suc, ◌+◌, ◌-◌, ◌≤◌, ◌<◌}
use native.Mathlib.Omega.{arith}
use lib.Dec.{leb}
use lib.ListN.{length, drop, drop_of_length-le}
use borrow.Author.Tests.{leb-true, leb-false, le-leb, lt-leb}
use Rattle.meaning.specs.declared.Refusal.{Refusal}
use Rattle.meaning.specs.declared.Shape.{Shape}
use Rattle.meaning.specs.Field.{is_nil}
use Rattle.meaning.specs.Refusals.{Reply, refused, done, refusal, then_to, with_room, too_many_sets}
use Rattle.meaning.specs.Pieces.{Parsed, parsed}
use Rattle.meaning.specs.Lines.{size}
use Rattle.meaning.specs.Reading.{read, shape}
use Rattle.meaning.proofs.Bools.{end_is}
use Rattle.meaning.proofs.FaultLaws.{refused-done}
use Rattle.meaning.proofs.Demands.{judge-read, read-judge}
use Rattle.keeps.specs.Keeps.{SetAtFront}
use Rattle.keeps.proofs.Exact.{accepted-exactly}
use Rattle.breaches.proofs.CallExact.{refused-same, read-refused}
use Rattle.meaning_day.specs.declared.DayEntry.{DayEntry}
use Rattle.meaning_day.specs.Days.{max_sets, day_entry, sets_from, build}
use Rattle.meaning_day.proofs.DayLaws.{then_same, then-twice, no-sets, set_before, set-refused, set-too-many, built-sets}
use Rattle.theory_day.specs.DayRules.{entry_at, SetOf, start_of, SetsUpTo, Builds}
use Rattle.theory_day.specs.DayBreaches.{OwnRefusal, BuildRefused, own-refusal, too_many, no-room}
use Rattle.theory_day.proofs.SetInFile.{starts-within, ends-within, rest-is, set-of, set-read, set-entry}

-- ---- set after set

-- the entries are those of sets that fill the file from offset `at` to p, with nothing between
abbrev SetsBetween : List ℕ → ℕ → List DayEntry → ℕ → Type 0
SetsBetween f at [] p = at ≡ p
SetsBetween f at (e ∷ es) p = (e.offset ≡ at) × SetOf f e × SetsBetween f (at + e.length) es p

-- The same, each entry by itself, as `SetsUpTo` says it from offset 0 on. Both are one: entry after entry, by the two laws below.
abbrev start_from : ℕ → List DayEntry → ℕ → ℕ
start_from at es zero = at
start_from at es (suc k) = start_of es (suc k)

record EachBetween (f : List ℕ) (at : ℕ) (es : List DayEntry) (p : ℕ) : Type 0 where
  each : (k : ℕ) → k < length es → SetOf f (entry_at es k)
  tiled : (k : ℕ) → k < length es → (entry_at es k).offset ≡ start_from at es k
  to_the_end : start_from at es (length es) ≡ p

-- from the second entry on, entries start as if the first of them stood where the first entry ends
start-next : (at : ℕ) (e : DayEntry) (es : List DayEntry) (k : ℕ) → e.offset ≡ at → start_from at (e ∷ es) (suc k) ≡ start_from (at + e.length) es k
start-next at e es zero q = ap (λ (n : ℕ). n + e.length) q
start-next at e es (suc k) q = refl

each-between : (f : List ℕ) (at : ℕ) (es : List DayEntry) (p : ℕ) → EachBetween f at es p → SetsBetween f at es p
each-between f at [] p s = s.to_the_end
each-between f at (e ∷ es) p s =
    let first : e.offset ≡ at = s.tiled 0 (omega arith) in
    let others : EachBetween f (at + e.length) es p = record {
      each = λ k l. s.each (suc k) (omega arith);
      tiled = λ k l. s.tiled (suc k) (omega arith) ∙ start-next at e es k first;
      to_the_end = sym (start-next at e es (length es) first) ∙ s.to_the_end;
    } in
    (first, s.each 0 (omega arith), each-between f (at + e.length) es p others)

between-each : (f : List ℕ) (at : ℕ) (es : List DayEntry) (p : ℕ) → SetsBetween f at es p → EachBetween f at es p
between-each f at [] p x = record { each = λ k l. absurd (omega arith); tiled = λ k l. absurd (omega arith); to_the_end = x }
between-each f at (e ∷ es) p x = go (between-each f (at + e.length) es p x.2)
  where
    go : EachBetween f (at + e.length) es p → EachBetween f at (e ∷ es) p
    go s = record { each = each; tiled = tiled; to_the_end = start-next at e es (length es) x.0 ∙ s.to_the_end }
      where
        each : (k : ℕ) → k < length (e ∷ es) → SetOf f (entry_at (e ∷ es) k)
        each zero l = x.1
        each (suc k) l = s.each k (omega arith)

        tiled : (k : ℕ) → k < length (e ∷ es) → (entry_at (e ∷ es) k).offset ≡ start_from at (e ∷ es) k
        tiled zero l = x.0
        tiled (suc k) l = s.tiled k (omega arith) ∙ sym (start-next at e es k x.0)

-- from offset 0 on it is `SetsUpTo`
up-to-between : (f : List ℕ) (es : List DayEntry) (p : ℕ) → SetsUpTo f es p → SetsBetween f 0 es p
up-to-between f es p x = each-between f 0 es p (record { each = x.each; tiled = λ k l. x.tiled k l ∙ starts k; to_the_end = sym (starts (length es)) ∙ x.to_the_end })
  where
    starts : (k : ℕ) → start_of es k ≡ start_from 0 es k
    starts zero = refl
    starts (suc k) = refl

between-up-to : (f : List ℕ) (es : List DayEntry) (p : ℕ) → p ≤ length f → SetsBetween f 0 es p → SetsUpTo f es p
between-up-to f es p h x =
    let s = between-each f 0 es p x in
    record { within = h; each = s.each; tiled = λ k l. s.tiled k l ∙ starts k; to_the_end = sym (starts (length es)) ∙ s.to_the_end }
  where
    starts : (k : ℕ) → start_from 0 es k ≡ start_of es k
    starts zero = refl
    starts (suc k) = refl

-- ---- what stands at an offset

-- there are bytes at an offset exactly if it is within the file
no_more : (f : List ℕ) (at : ℕ) → is_nil (drop at f) ≡ true → length f ≤ at
no_more f at e = leb-true (length f) at (end_is f at ∙ e)

some_more : (f : List ℕ) (at : ℕ) → is_nil (drop at f) ≡ false → at < length f
some_more f at e = leb-false (length f) at (end_is f at ∙ e)

goes-on : (f : List ℕ) (at : ℕ) → at < length f → is_nil (drop at f) ≡ false
goes-on f at h = sym (end_is f at) ∙ lt-leb (length f) at h

-- what `sets_from` makes at an offset: nothing stands there, something is refused there, or a set stands there, and one set more or none may come
sets_end : (f : List ℕ) (n at : ℕ) → length f ≤ at → sets_from n at (drop at f) ≡ done []
sets_end f n at h = ap (sets_from n at) (drop_of_length-le f h) ∙ no-sets n at

sets-own : (f : List ℕ) (n at : ℕ) (r : Refusal) → at < length f → OwnRefusal f at r → sets_from n at (drop at f) ≡ refused r
sets-own f n at r h o =
    set-refused n at (drop at f) o.own (goes-on f at h) ((read-refused (drop at f) o.own).1 o.breach) ∙ ap refused (sym o.placed)

sets_more : (f : List ℕ) (n at : ℕ) (d : Parsed) → read (drop at f) ≡ done d
    → sets_from (suc n) at (drop at f) ≡ then_to (sets_from n (at + size d.fields) (drop (at + size d.fields) f)) (λ es. done (day_entry at d.fields ∷ es))
sets_more f n at d e =
    set_before n at (drop at f) d e
    ∙ ap (λ (t : List ℕ). then_to (sets_from n (at + size d.fields) t) (λ es. done (day_entry at d.fields ∷ es))) (rest-is f at d e)

-- ---- what is built, and what is refused

-- after the sets es, which end at p: what is refused there, or one set more than n
data Stops (f : List ℕ) (n at : ℕ) (r : Refusal) : Type 0 where
  stops-own : (es : List DayEntry) (p : ℕ) → SetsBetween f at es p → length es ≤ n → p < length f → OwnRefusal f p r → Stops f n at r
  stops-many : (es : List DayEntry) (p : ℕ) → SetsBetween f at es p → length es ≡ n → (x : Shape) → SetAtFront (drop p f) x → r ≡ refusal too_many_sets p 0 → Stops f n at r

-- what an answer for the sets from offset `at` on, at most n, says
abbrev Says : List ℕ → ℕ → ℕ → Reply (List DayEntry) → Type 0
Says f n at (refused r) = Stops f n at r
Says f n at (done es) = (length es ≤ n) × SetsBetween f at es (length f)

-- what stands at an offset
data Here (f : List ℕ) (at : ℕ) : Type 0 where
  nothing : length f ≤ at → Here f at
  refuses : at < length f → (r : Refusal) → OwnRefusal f at r → Here f at
  a-set : (d : Parsed) → read (drop at f) ≡ done d → Here f at

here : (f : List ℕ) (at : ℕ) → Here f at
here f at = go (is_nil (drop at f)) refl (read (drop at f)) refl
  where
    go : (b : Bool) → is_nil (drop at f) ≡ b → (y : Reply Parsed) → read (drop at f) ≡ y → Here f at
    go true p y q = nothing (no_more f at p)
    go false p (refused r) q =
        refuses (some_more f at p) (refusal r.no (at + r.place) r.label) (record { own = r; breach = (read-refused (drop at f) r).0 q; placed = refl })
    go false p (done d) q = a-set d q

-- a set is put before what is said of the sets after it
says-before : (f : List ℕ) (n at : ℕ) (d : Parsed) → read (drop at f) ≡ done d → (y : Reply (List DayEntry)) → Says f n (at + size d.fields) y
    → Says f (suc n) at (then_to y (λ es. done (day_entry at d.fields ∷ es)))
unfolding day_entry
says-before f n at d e (refused r) (stops-own es p x l h o) = stops-own (day_entry at d.fields ∷ es) p (refl, set-of f at d e, x) (omega arith) h o
says-before f n at d e (refused r) (stops-many es p x l s a o) = stops-many (day_entry at d.fields ∷ es) p (refl, set-of f at d e, x) (omega arith) s a o
says-before f n at d e (done es) x = (omega (arith, x.0), (refl, set-of f at d e, x.1))

-- What is found from offset `at` on, by what stands there: nothing, and there is no entry; something that is refused, and that is told; a set, and its entry comes before those of the
-- sets after it, or it is one too many.
sets-say : (f : List ℕ) (n at : ℕ) → at ≤ length f → Says f n at (sets_from n at (drop at f))
sets-say f zero at h = go (here f at)
  where
    go : Here f at → Says f zero at (sets_from zero at (drop at f))
    go (nothing l) = subst (Says f zero at) (sym (sets_end f zero at l)) (omega arith, omega arith)
    go (refuses l r o) = subst (Says f zero at) (sym (sets-own f zero at r l o)) (stops-own [] at refl (omega arith) l o)
    go (a-set d e) =
        subst (Says f zero at) (sym (set-too-many at (drop at f) d e))
        (stops-many [] at refl refl (shape d.fields) ((accepted-exactly (drop at f) (shape d.fields)).0 (read-judge (drop at f) d e)) refl)
sets-say f (suc n) at h = go (λ p. sets-say f n p) (here f at)
  where
    go : ((p : ℕ) → p ≤ length f → Says f n p (sets_from n p (drop p f))) → Here f at → Says f (suc n) at (sets_from (suc n) at (drop at f))
    go ih (nothing l) = subst (Says f (suc n) at) (sym (sets_end f (suc n) at l)) (omega arith, omega arith)
    go ih (refuses l r o) = subst (Says f (suc n) at) (sym (sets-own f (suc n) at r l o)) (stops-own [] at refl (omega arith) l o)
    go ih (a-set d e) =
        let p : ℕ = at + size d.fields in
        subst (Says f (suc n) at) (sym (sets_more f n at d e))
        (says-before f n at d e (sets_from n p (drop p f)) (ih p (omega (arith, ends-within f at d e))))

-- ---- and back

-- after the sets es, which end at p, it goes on there with m sets more
through : (f : List ℕ) (n at : ℕ) (es : List DayEntry) (p m : ℕ) → SetsBetween f at es p → n ≡ length es + m
    → sets_from n at (drop at f) ≡ then_to (sets_from m p (drop p f)) (λ ds. done (es ++ ds))
through f n at [] p m x q =
    let k : n ≡ m = omega arith in
    ap₂ (λ (i j : ℕ). sets_from i j (drop j f)) k x ∙ sym (then_same (sets_from m p (drop p f)))
through f zero at (e ∷ es) p m x q = absurd (omega arith)
through f (suc n) at (e ∷ es) p m x q =
    let s : SetOf f e = x.1 in
    let a : read (drop at f) ≡ done (parsed s.lines s.rest) = subst (λ (i : ℕ). read (drop i f) ≡ done (parsed s.lines s.rest)) x.0 (set-read f e s) in
    let b : day_entry at s.lines ≡ e = sym (set-entry f e s ∙ ap (λ (i : ℕ). day_entry i s.lines) x.0) in
    let c : at + size s.lines ≡ at + e.length = ap (λ (i : ℕ). at + i) (sym s.length-is) in
    let ih : sets_from n (at + e.length) (drop (at + e.length) f) ≡ then_to (sets_from m p (drop p f)) (λ ds. done (es ++ ds)) =
    through f n (at + e.length) es p m x.2 (omega arith) in
    sets_more f n at (parsed s.lines s.rest) a
    ∙ (ap₂ (λ (i : ℕ) (u : DayEntry). then_to (sets_from n i (drop i f)) (λ ds. done (u ∷ ds))) c b
    ∙ (ap (λ (y : Reply (List DayEntry)). then_to y (λ ds. done (e ∷ ds))) ih ∙ then-twice (sets_from m p (drop p f)) (λ ds. es ++ ds) (λ ds. done (e ∷ ds))))

-- a set that keeps the rules, as it is read
front_read : (f : List ℕ) (p : ℕ) (x : Shape) → SetAtFront (drop p f) x → (d : Parsed) × (read (drop p f) ≡ done d)
front_read f p x s = let y = judge-read (drop p f) x ((accepted-exactly (drop p f) x).1 s) in (y.0, y.1)

module _ (f : List ℕ) (n at : ℕ) where
  -- so all sets up to the end of the file are found
  sets-all : (es : List DayEntry) → SetsBetween f at es (length f) → length es ≤ n → sets_from n at (drop at f) ≡ done es
  sets-all es x l =
      through f n at es (length f) (n - length es) x (omega arith)
      ∙ (ap (λ (y : Reply (List DayEntry)). then_to y (λ ds. done (es ++ ds))) (sets_end f (n - length es) (length f) (omega arith)) ∙ ap done (append-nil es))

  -- and what stops it is told
  sets-stop : (r : Refusal) → Stops f n at r → sets_from n at (drop at f) ≡ refused r
  sets-stop r (stops-own es p x l h o) =
      through f n at es p (n - length es) x (omega arith)
      ∙ ap (λ (y : Reply (List DayEntry)). then_to y (λ ds. done (es ++ ds))) (sets-own f (n - length es) p r h o)
  sets-stop r (stops-many es p x l s a o) =
      let d = front_read f p s a in
      through f n at es p zero x (omega arith)
      ∙ (ap (λ (y : Reply (List DayEntry)). then_to y (λ ds. done (es ++ ds))) (set-too-many p (drop p f) d.0 d.1) ∙ ap refused (sym o))

-- ---- building is exact

abbrev room_for : ℕ → List DayEntry → Reply (List DayEntry)
room_for room es = with_room (leb (length es) room) (length es) es

build-builds : (f : List ℕ) (room : ℕ) (es : List DayEntry) → build f room ≡ done es → Builds f room es
build-builds f room es e =
    let y = built-sets f room es e in
    let x : Says f max_sets 0 (done es) = subst (Says f max_sets 0) y.0 (sets-say f max_sets 0 (omega arith)) in
    record { all-sets = between-up-to f es (length f) (omega arith) x.1; few-sets = x.0; has_room = y.1 }

builds-build : (f : List ℕ) (room : ℕ) (es : List DayEntry) → Builds f room es → build f room ≡ done es
unfolding build
builds-build f room es b =
    rw (sets-all f max_sets 0 es (up-to-between f es (length f) b.all-sets) b.few-sets, le-leb (length es) room b.has_room) refl

-- The index is made, with these entries, exactly if they are those of the sets of the file, in file order, at most 2,048, and there is room for them.
pub built-exactly : (f : List ℕ) (room : ℕ) (es : List DayEntry) → (build f room ≡ done es) ↔ Builds f room es
built-exactly f room es = (build-builds f room es, builds-build f room es)

-- Building is refused with number, place and label r exactly if they are those of the first reason in the request's order.
pub build-refused-with : (f : List ℕ) (room : ℕ) (r : Refusal) → (build f room ≡ refused r) ↔ BuildRefused f room r
unfolding build
build-refused-with f room r = (λ e. to (sets_from max_sets 0 f) refl e, from)
  where
    of-stop : Stops f max_sets 0 r → BuildRefused f room r
    of-stop (stops-own es p x l h o) = own-refusal es p (between-up-to f es p (omega arith) x) l h o
    of-stop (stops-many es p x l s a o) =
        let d = front_read f p s a in
        let h : p < length f = starts-within f p d.0 d.1 in
        too_many es p (between-up-to f es p (omega arith) x) l s a o

    by-room : (es : List DayEntry) → sets_from max_sets 0 f ≡ done es → (b : Bool) → leb (length es) room ≡ b → with_room b (length es) es ≡ refused r → BuildRefused f room r
    by-room es q true p e = refused-done (sym e)
    by-room es q false p e =
        let x : Says f max_sets 0 (done es) = subst (Says f max_sets 0) q (sets-say f max_sets 0 (omega arith)) in
        no-room es (between-up-to f es (length f) (omega arith) x.1) x.0 (leb-false (length es) room p) (sym (refused-same e))

    to : (y : Reply (List DayEntry)) → sets_from max_sets 0 f ≡ y → then_to y (room_for room) ≡ refused r → BuildRefused f room r
    to (refused z) q e = of-stop (subst (Stops f max_sets 0) (refused-same e) (subst (Says f max_sets 0) q (sets-say f max_sets 0 (omega arith))))
    to (done es) q e = by-room es q (leb (length es) room) refl e

    from : BuildRefused f room r → build f room ≡ refused r
    from (own-refusal es p s l h o) = rw (sets-stop f max_sets 0 r (stops-own es p (up-to-between f es p s) l h o)) refl
    from (too_many es p s l x a o) = rw (sets-stop f max_sets 0 r (stops-many es p (up-to-between f es p s) l x a o)) refl
    from (no-room es s l h o) = rw (sets-all f max_sets 0 es (up-to-between f es (length f) s) l, lt-leb (length es) room h) (ap refused (sym o))
