-- Lookup is exact: the answer is the numbers of the entries at whose place the asked bytes stand, and of no others, ascending, if there is room for them (`found-exactly`); else it is
-- refused by 22, with how many they are as the place (`lookup-refused-with`).
use mathlib.Core.Path.{◌≡◌, refl, sym, ap, ◌∙◌, subst}
use mathlib.Core.Bool.{Bool, true, false, cond}
use mathlib.Core.List.{List, [], ◌∷◌, ◌++◌}
use mathlib.Core.Logic.{◌⊎◌, inl, inr, ◌↔◌}
use Prim.Native.Nat.{ℕ, zero, suc, ◌+◌, ◌≤◌, ◌<◌}
use native.Mathlib.Omega.{arith}
use lib.Dec.{leb}
use lib.ListN.{length, take, drop, take-append-drop}
use lib.Seq.{length-take-le, drop_at}
use borrow.Author.Tests.{leb-true, leb-false, le-leb, lt-leb}
use Rattle.meaning.specs.declared.Refusal.{Refusal}
use Rattle.meaning.specs.Refusals.{refused, done, with_room}
use Rattle.meaning.specs.Lines.{cr, lf, least_byte}
use Rattle.meaning.proofs.Bools.{every-at}
use Rattle.meaning.proofs.FaultLaws.{refused-done, with_room-done}
use Rattle.keeps.proofs.Exact.{every_of}
use Rattle.breaches.proofs.CallExact.{refused-same}
use Rattle.meaning_day.specs.declared.DayEntry.{DayEntry}
use Rattle.meaning_day.specs.Days.{matches, found, lookup}
use Rattle.meaning_day.proofs.LookupLaws.{match-stands, stands-match, match-within}
use Rattle.theory_day.specs.DayRules.{entry_at, Matches, Among, MatchNumber, Finds}
use Rattle.theory_day.specs.DayBreaches.{LookupRefused}
use Rattle.theory_day.proofs.AscendingLaws.{From, among_cases, among_first, among_later, from-lower, from-ascending, same-ascending}

-- ---- one entry

module _ (f c : List ℕ) (e : DayEntry) where
  -- an entry matches exactly if "the asked bytes, none under 20h, and 0Dh 0Ah stand at its place"
  match-so : matches f c e ≡ true → Matches f c e
  match-so m =
      let x = match-stands f c e m in
      record {
        no-low-byte = λ i l. every-at (λ b. least_byte ≤ b) c i 0 l x.no-low-byte;
        before = take e.place f;
        after = x.rest;
        file-is = sym (take-append-drop e.place f) ∙ ap (λ (s : List ℕ). take e.place f ++ s) x.from-there;
        at_place = length-take-le e.place f (omega (arith, match-within f c e m));
      }

  so-match : Matches f c e → matches f c e ≡ true
  so-match x = stands-match f c e (record {
    no-low-byte = every_of (λ b. least_byte ≤ b) c 0 x.no-low-byte;
    rest = x.after;
    from-there = ap (drop e.place) x.file-is ∙ drop_at x.before (c ++ (cr ∷ lf ∷ x.after)) e.place x.at_place;
  })

  pub matches-exactly : (matches f c e ≡ true) ↔ Matches f c e
  matches-exactly = (match-so, so-match)

-- ---- the numbers that are found

module _ (f c : List ℕ) where
  -- the entry that has j before it matches, and n is its number, if the first has number k
  abbrev MatchAt : ℕ → List DayEntry → ℕ → Type 0
  MatchAt k es n = (j : ℕ) × (n ≡ k + j) × (j < length es) × (matches f c (entry_at es j) ≡ true)

  -- what is found is ascending, from the first entry's number on
  found_from : (k : ℕ) (es : List DayEntry) → From k (found f c k es)
  unfolding found
  found_from k [] = tt
  found_from k (e ∷ es) = go (matches f c e) (found_from (suc k) es)
    where
      go : (b : Bool) → From (suc k) (found f c (suc k) es) → From k (cond b (k ∷ found f c (suc k) es) (found f c (suc k) es))
      go true x = (omega arith, x)
      go false x = from-lower k (suc k) (found f c (suc k) es) (omega arith) x

  -- and has the numbers of the entries that match, and no others
  found-matches : (k : ℕ) (es : List DayEntry) (n : ℕ) → Among n (found f c k es) → MatchAt k es n
  unfolding found
  found-matches k [] n (i, l, e) = absurd (omega arith)
  found-matches k (e ∷ es) n a = go (found-matches (suc k) es n) (matches f c e) refl a
    where
      later : MatchAt (suc k) es n → MatchAt k (e ∷ es) n
      later (j, p, l, m) = (suc j, omega arith, omega arith, m)

      go : (Among n (found f c (suc k) es) → MatchAt (suc k) es n) → (b : Bool) → matches f c e ≡ b → Among n (cond b (k ∷ found f c (suc k) es) (found f c (suc k) es))
          → MatchAt k (e ∷ es) n
      go ih true m x = which (among_cases n k (found f c (suc k) es) x)
        where
          which : (n ≡ k) ⊎ Among n (found f c (suc k) es) → MatchAt k (e ∷ es) n
          which (inl p) = (0, omega arith, omega arith, m)
          which (inr p) = later (ih p)
      go ih false m x = later (ih x)

  matches-found : (k : ℕ) (es : List DayEntry) (n : ℕ) → MatchAt k es n → Among n (found f c k es)
  unfolding found
  matches-found k [] n (j, p, l, m) = absurd (omega arith)
  matches-found k (e ∷ es) n (zero, p, l, m) =
      let q : n ≡ k = omega arith in
      rw (m, q) (among_first k (found f c (suc k) es))
  matches-found k (e ∷ es) n (suc j, p, l, m) = go (matches f c e) (matches-found (suc k) es n (j, omega arith, omega arith, m))
    where
      go : (b : Bool) → Among n (found f c (suc k) es) → Among n (cond b (k ∷ found f c (suc k) es) (found f c (suc k) es))
      go true x = among_later n k (found f c (suc k) es) x
      go false x = x

  module _ (es : List DayEntry) where
    -- so it is what a lookup finds
    found-finds : Finds f es c (found f c 1 es)
    found-finds = record { all-and-only = λ n. (to n, from n); ascending = from-ascending 1 (found f c 1 es) (found_from 1 es) }
      where
        to : (n : ℕ) → Among n (found f c 1 es) → MatchNumber f c es n
        to n a = let x = found-matches 1 es n a in (x.0, omega (arith, x.1), x.2, (matches-exactly f c (entry_at es x.0)).0 x.3)

        from : (n : ℕ) → MatchNumber f c es n → Among n (found f c 1 es)
        from n (k, p, l, m) = matches-found 1 es n (k, omega arith, l, (matches-exactly f c (entry_at es k)).1 m)

    -- and nothing else is: ascending lists with the same members are equal
    finds-found : (ns : List ℕ) → Finds f es c ns → found f c 1 es ≡ ns
    finds-found ns x =
        same-ascending (found f c 1 es) ns found-finds.ascending x.ascending
        (λ n a. (x.all-and-only n).1 ((found-finds.all-and-only n).0 a)) (λ n a. (found-finds.all-and-only n).1 ((x.all-and-only n).0 a))

-- ---- lookup is exact

-- These numbers are answered exactly if they are those of the entries that match, and of no others, ascending, and there is room for them.
pub found-exactly : (f : List ℕ) (es : List DayEntry) (c : List ℕ) (room : ℕ) (ns : List ℕ) → (lookup f es c room ≡ done ns) ↔ (Finds f es c ns × (length ns ≤ room))
unfolding lookup
found-exactly f es c room ns = (to, from)
  where
    to : lookup f es c room ≡ done ns → Finds f es c ns × (length ns ≤ room)
    to e =
        let w = with_room-done (leb (length (found f c 1 es)) room) (length (found f c 1 es)) (found f c 1 es) ns e in
        subst (λ (ms : List ℕ). Finds f es c ms × (length ms ≤ room)) w.1 (found-finds f c es, leb-true (length (found f c 1 es)) room w.0)

    from : Finds f es c ns × (length ns ≤ room) → lookup f es c room ≡ done ns
    from x = rw (finds-found f c es ns x.0, le-leb (length ns) room x.1) refl

-- A lookup is refused with r exactly if more entries match than there is room for, and r is 22 with how many they are as its place.
pub lookup-refused-with : (f : List ℕ) (es : List DayEntry) (c : List ℕ) (room : ℕ) (r : Refusal) → (lookup f es c room ≡ refused r) ↔ LookupRefused f es c room r
unfolding lookup
lookup-refused-with f es c room r = (λ e. to (leb (length (found f c 1 es)) room) refl e, from)
  where
    to : (b : Bool) → leb (length (found f c 1 es)) room ≡ b → with_room b (length (found f c 1 es)) (found f c 1 es) ≡ refused r → LookupRefused f es c room r
    to true p e = refused-done (sym e)
    to false p e = record { numbers = found f c 1 es; finds = found-finds f c es; over-room = leb-false (length (found f c 1 es)) room p; refusal_is = sym (refused-same e) }

    from : LookupRefused f es c room r → lookup f es c room ≡ refused r
    from x = rw (finds-found f c es x.numbers x.finds, lt-leb (length x.numbers) room x.over-room) (ap refused (sym x.refusal_is))
