-- Appending is exact: it is done exactly if one set and nothing more stands after the old length, there are fewer than 2,048 entries so far, and there is room for one more; the entries
-- so far stay, and the set's entry comes after them (`appended-exactly`). Else it is refused with the number, the place and the label that DayBreaches states (`append-refused-with`).
use mathlib.Core.Path.{◌≡◌, refl, sym, ap, ◌∙◌, subst}
use mathlib.Core.Bool.{Bool, true, false, true≢false}
use mathlib.Core.List.{List, [], ◌∷◌, ◌++◌, cons≢nil}
use mathlib.Core.Logic.{◌⊎◌, inl, inr, ◌↔◌, ◌≢◌}
use Prim.Native.Nat.{ℕ, ◌+◌, ◌≤◌, ◌<◌}
use native.Mathlib.Omega.{arith}
use lib.Dec.{leb}
use lib.ListN.{length, take, drop, length-append, get_or-append}
use lib.Seq.{length-take-le, get_or-take, get_or_at, ext_get_or}
use borrow.Author.Tests.{leb-true, leb-false, le-leb, lt-leb}
use Rattle.meaning.specs.declared.Refusal.{Refusal}
use Rattle.meaning.specs.Field.{Field, is_nil}
use Rattle.meaning.specs.Refusals.{Reply, refused, done, refusal, then_to, with_room, bad_use, too_many_sets}
use Rattle.meaning.specs.Pieces.{Parsed, parsed}
use Rattle.meaning.specs.Lines.{size}
use Rattle.meaning.specs.Reading.{read}
use Rattle.meaning.proofs.Bools.{nil_is, none-of-length}
use Rattle.meaning.proofs.FaultLaws.{refused-done}
use Rattle.keeps.specs.Keeps.{Keeps}
use Rattle.keeps.proofs.Exact.{accepted-keeps, keeps-accepted}
use Rattle.keeps.proofs.TableFacts.{le-cases}
use Rattle.breaches.proofs.CallExact.{refused-same}
use Rattle.meaning_day.specs.declared.DayEntry.{DayEntry}
use Rattle.meaning_day.specs.Days.{max_sets, day_entry, placed, must, append}
use Rattle.meaning_day.proofs.DayLaws.{append_set, append-only}
use Rattle.theory_day.specs.DayRules.{no_entry, entry_at, SetOf, Appends}
use Rattle.theory_day.specs.DayBreaches.{AppendRefused, old-over, own-refusal, another-set, too_many, no-room}
use Rattle.theory_day.proofs.SetInFile.{ends-within, set-of, set-read, set-entry, own-refused}

-- ---- a list with one entry more

module _ (lent : List DayEntry) (n : ℕ) (e : DayEntry) (h : n ≤ length lent) where
  abbrev one_more : List DayEntry
  one_more = take n lent ++ (e ∷ [])

  more-length : length one_more ≡ n + 1
  more-length = length-append (take n lent) (e ∷ []) ∙ omega (arith, length-take-le n lent h)

  more-last : entry_at one_more n ≡ e
  more-last = get_or_at (take n lent) e [] no_entry n (length-take-le n lent h)

  more-stay : (k : ℕ) → k < n → entry_at one_more k ≡ entry_at lent k
  more-stay k l = get_or-append (take n lent) (e ∷ []) no_entry k (omega (arith, length-take-le n lent h)) ∙ get_or-take n lent k no_entry l

  -- and it is the only one with n + 1 entries of which the last is e and the others are as lent
  more-only : (es : List DayEntry) → length es ≡ n + 1 → entry_at es n ≡ e → ((k : ℕ) → k < n → entry_at es k ≡ entry_at lent k) → one_more ≡ es
  more-only es l a b = ext_get_or no_entry one_more es (more-length ∙ sym l) (λ k m. go k (le-cases k n (omega (arith, more-length))))
    where
      go : (k : ℕ) → (k < n) ⊎ (k ≡ n) → entry_at one_more k ≡ entry_at es k
      go k (inl p) = more-stay k p ∙ sym (b k p)
      go k (inr p) = ap (entry_at one_more) p ∙ (more-last ∙ (sym a ∙ ap (entry_at es) (sym p)))

-- ---- test after test

-- a test that fails gives its refusal; if it holds, the refusal comes later
data Musted {A : Type 0} (b : Bool) (m p : ℕ) (k : Reply A) (r : Refusal) : Type 0 where
  failed : b ≡ false → r ≡ refusal m p 0 → Musted b m p k r
  passed : b ≡ true → k ≡ refused r → Musted b m p k r

-- every refusal of a tested reply is one of these
musted : {A : Type 0} (b : Bool) (m p : ℕ) (k : Reply A) (r : Refusal) → must b m p k ≡ refused r → Musted b m p k r
musted true m p k r e = passed refl e
musted false m p k r e = failed refl (sym (refused-same e))

-- lists of no bytes
not-nil : (s : List ℕ) → is_nil s ≡ false → s ≢ []
not-nil [] e q = true≢false e
not-nil (b ∷ s) e q = cons≢nil q

nil_not : (s : List ℕ) → s ≢ [] → is_nil s ≡ false
nil_not [] h = absurd (h refl)
nil_not (b ∷ s) h = refl

module _ (f : List ℕ) (old : ℕ) (lent : List DayEntry) (n : ℕ) where
  -- the entries so far, and then that of a set that stands after the old length, with nothing after it
  appends-so : (fs : List Field) → read (drop old f) ≡ done (parsed fs []) → n + 1 ≤ max_sets → n + 1 ≤ length lent
      → Appends f old lent n (take n lent ++ (day_entry old fs ∷ []))
  unfolding day_entry
  appends-so fs q few room =
      let h : n ≤ length lent = omega arith in
      let x : DayEntry = day_entry old fs in
      let last : x ≡ entry_at (take n lent ++ (x ∷ [])) n = sym (more-last lent n x h) in
      let end : old + size fs ≡ length f = omega (arith, ends-within f old (parsed fs []) q) in
      record {
        old-within = omega arith;
        new-set = subst (SetOf f) last (set-of f old (parsed fs []) q);
        at_old = ap (λ (e : DayEntry). e.offset) (sym last);
        to_the_end = ap (λ (e : DayEntry). old + e.length) (sym last) ∙ end;
        few-sets = few;
        has_room = room;
        one-more = more-length lent n x h;
        others-stay = more-stay lent n x h;
      }

  -- what is made is that
  append-appends : (es : List DayEntry) → append f old lent n ≡ done es → Appends f old lent n es
  append-appends es e =
      let a = append-only f old lent n es e in
      subst (Appends f old lent n) (sym a.made) (appends-so a.lines a.was_read a.few a.room)

  -- the set after the old length, as it is read
  read-at-old : (es : List DayEntry) (x : Appends f old lent n es) → read (drop old f) ≡ done (parsed x.new-set.lines [])
  read-at-old es x =
      let s : SetOf f (entry_at es n) = x.new-set in
      let q : read (drop old f) ≡ done (parsed s.lines s.rest) =
      subst (λ (i : ℕ). read (drop i f) ≡ done (parsed s.lines s.rest)) x.at_old (set-read f (entry_at es n) s) in
      q ∙ ap (λ (t : List ℕ). done (parsed s.lines t)) (none-of-length s.rest (omega (arith, ends-within f old (parsed s.lines s.rest) q, x.to_the_end, s.length-is)))

  -- and back: every test is passed, and the entries are the only ones
  appends-append : (es : List DayEntry) → Appends f old lent n es → append f old lent n ≡ done es
  unfolding append
  appends-append es x =
      let s : SetOf f (entry_at es n) = x.new-set in
      let last : entry_at es n ≡ day_entry old s.lines = set-entry f (entry_at es n) s ∙ ap (λ (i : ℕ). day_entry i s.lines) x.at_old in
      rw (le-leb old (length f) x.old-within, read-at-old es x, le-leb (n + 1) max_sets x.few-sets, le-leb (n + 1) (length lent) x.has_room)
      (ap done (more-only lent n (day_entry old s.lines) (omega (arith, x.has_room)) es x.one-more last x.others-stay))

-- Appending is done, with these entries, exactly if one set and nothing more stands after the old length, there are fewer than 2,048 entries so far and room for one more, and
-- the entries are those so far and then the set's.
pub appended-exactly : (f : List ℕ) (old : ℕ) (lent : List DayEntry) (n : ℕ) (es : List DayEntry) → (append f old lent n ≡ done es) ↔ Appends f old lent n es
appended-exactly f old lent n es = (append-appends f old lent n es, appends-append f old lent n es)

-- what is made of the set that was read, test after test
abbrev with_lent : ℕ → List DayEntry → ℕ → Parsed → Reply (List DayEntry)
with_lent old lent n d = with_room (leb (n + 1) (length lent)) (n + 1) (take n lent ++ (day_entry old d.fields ∷ []))

abbrev if_few : ℕ → List DayEntry → ℕ → Parsed → Reply (List DayEntry)
if_few old lent n d = must (leb (n + 1) max_sets) too_many_sets old (with_lent old lent n d)

-- Appending is refused with number, place and label r exactly if they are those of the first reason in the request's order.
pub append-refused-with : (f : List ℕ) (old : ℕ) (lent : List DayEntry) (n : ℕ) (r : Refusal) → (append f old lent n ≡ refused r) ↔ AppendRefused f old lent n r
unfolding append
append-refused-with f old lent n r = (λ e. within (musted (leb old (length f)) bad_use (length f) (then_to (placed old (read (drop old f))) (append_set old lent n)) r e), from)
  where
    room : (d : Parsed) → read (drop old f) ≡ done d → old ≤ length f → d.rest ≡ [] → n + 1 ≤ max_sets
        → (b : Bool) → leb (n + 1) (length lent) ≡ b → with_room b (n + 1) (take n lent ++ (day_entry old d.fields ∷ [])) ≡ refused r → AppendRefused f old lent n r
    room d q a c g true p e = refused-done (sym e)
    room d q a c g false p e =
        let k = accepted-keeps (drop old f) d q in
        no-room a k.0 d.fields (subst (λ (t : List ℕ). Keeps (drop old f) k.0 d.fields t) c k.1) g (leb-false (n + 1) (length lent) p) (sym (refused-same e))

    few : (d : Parsed) → read (drop old f) ≡ done d → old ≤ length f → d.rest ≡ [] → Musted (leb (n + 1) max_sets) too_many_sets old (with_lent old lent n d) r
        → AppendRefused f old lent n r
    few d q a c (failed p e) =
        let k = accepted-keeps (drop old f) d q in
        too_many a k.0 d.fields (subst (λ (t : List ℕ). Keeps (drop old f) k.0 d.fields t) c k.1) (leb-false (n + 1) max_sets p) e
    few d q a c (passed p e) = room d q a c (leb-true (n + 1) max_sets p) (leb (n + 1) (length lent)) refl e

    alone : (d : Parsed) → read (drop old f) ≡ done d → old ≤ length f → Musted (is_nil d.rest) bad_use (size d.fields) (if_few old lent n d) r → AppendRefused f old lent n r
    alone d q a (failed p e) = let k = accepted-keeps (drop old f) d q in another-set a k.0 d.fields d.rest k.1 (not-nil d.rest p) e
    alone d q a (passed p e) = few d q a (nil_is d.rest p) (musted (leb (n + 1) max_sets) too_many_sets old (with_lent old lent n d) r e)

    own : old ≤ length f → (y : Reply Parsed) → read (drop old f) ≡ y → then_to (placed old y) (append_set old lent n) ≡ refused r → AppendRefused f old lent n r
    own a (refused y) q e = own-refusal a ((own-refused f old r).0 (ap (placed old) q ∙ ap refused (refused-same e)))
    own a (done d) q e = alone d q a (musted (is_nil d.rest) bad_use (size d.fields) (if_few old lent n d) r e)

    within : Musted (leb old (length f)) bad_use (length f) (then_to (placed old (read (drop old f))) (append_set old lent n)) r → AppendRefused f old lent n r
    within (failed p e) = old-over (leb-false old (length f) p) e
    within (passed p e) = own (leb-true old (length f) p) (read (drop old f)) refl e

    from : AppendRefused f old lent n r → append f old lent n ≡ refused r
    from (old-over a e) = rw (lt-leb old (length f) a) (ap refused (sym e))
    from (own-refusal a o) = rw (le-leb old (length f) a, (own-refused f old r).1 o) refl
    from (another-set a t fs rest k c e) = rw (le-leb old (length f) a, keeps-accepted (drop old f) t fs rest k, nil_not rest c) (ap refused (sym e))
    from (too_many a t fs k g e) = rw (le-leb old (length f) a, keeps-accepted (drop old f) t fs [] k, lt-leb (n + 1) max_sets g) (ap refused (sym e))
    from (no-room a t fs k g h e) =
        rw (le-leb old (length f) a, keeps-accepted (drop old f) t fs [] k, le-leb (n + 1) max_sets g, lt-leb (n + 1) (length lent) h) (ap refused (sym e))
