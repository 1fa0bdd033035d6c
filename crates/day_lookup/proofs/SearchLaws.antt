-- What each `return` and each turn of the two searches has to show; then that the walk is `found`.
use mathlib.Core.Path.{◌≡◌, refl, sym, ap, ap₂, ◌∙◌, subst}
use mathlib.Core.Bool.{Bool, true, false, cond, ◌&&◌, true≢false}
use mathlib.Core.List.{List, [], ◌∷◌, ◌++◌}
use Prim.Native.Nat.{ℕ, zero, suc, ◌+◌, ◌≤◌, ◌<◌}
use native.Mathlib.Nat.{zero-add}
use native.Mathlib.Omega.{arith}
use lib.Dec.{leb}
use lib.ListN.{length, drop, get_or, set, length-append, drop_of_length-le}
use lib.Seq.{set_split}
use borrow.Author.Tests.{le-leb, lt-leb}
use mir.Val.{bool_byte}
use Rattle.meaning.specs.Refusals.{refusal, no_room}
use Rattle.meaning.specs.Lines.{least_byte}
use Rattle.meaning.proofs.Bools.{and_left, and_right, none-of-length, byte-then}
use Rattle.byte_low.specs.Seek.{first_not}
use Rattle.byte_low.specs.Low.{first_low}
use Rattle.byte_put.specs.Places.{over}
use Rattle.byte_put.proofs.OverLaws.{Turned, here-fits, turned, over_none}
use Rattle.meaning_day.specs.declared.DayEntry.{DayEntry}
use Rattle.meaning_day.specs.Days.{no_low, matches, found, lookup}
use Rattle.meaning_day.specs.DayCalls.{entries_in, lookup_call}
use Rattle.day_lookup.specs.Searching.{stands_at, number_if, standing}
use Rattle.std.specs.Prelude.{Err, Ok}

-- ---- one number

pub number_fits : (so : Bool) (n to : ℕ) (b : List ℕ) → so ≡ true → to + length (number_if so n) ≤ length b → to < length b
number_fits so n to b e h = omega (arith, subst (λ (x : Bool). to + length (number_if x n) ≤ length b) e h)

pub put-number : (so : Bool) (n to : ℕ) (b : List ℕ) → so ≡ true → to + length (number_if so n) ≤ length b
    → (to + 1 ≡ to + length (number_if so n)) × (set b to n ≡ over to (number_if so n) b)
unfolding over
put-number so n to b e h =
    let m : to + 1 ≡ suc to = omega arith in
    rw e (refl, rw m (set_split b to n (number_fits so n to b e h)))

pub put-none : (so : Bool) (n to : ℕ) (b : List ℕ) → so ≡ false → (to ≡ to + length (number_if so n)) × (b ≡ over to (number_if so n) b)
put-none so n to b e = rw e (omega arith, over_none b to)

-- ---- the entries of the numbers that are left

-- four numbers x stand before the others: the entry's place is the last of them
pub record EntryThere (x ns : List ℕ) : Type 0 where
  pub entry : DayEntry
  pub place_is : entry.place ≡ get_or x 3 0
  pub then-others : entries_in (x ++ ns) ≡ entry ∷ entries_in ns

pub entry-there : (x ns : List ℕ) → length x ≡ 4 → EntryThere x ns
unfolding entries_in
entry-there [] ns h = absurd (omega arith)
entry-there (a ∷ []) ns h = absurd (omega arith)
entry-there (a ∷ b ∷ []) ns h = absurd (omega arith)
entry-there (a ∷ b ∷ c ∷ []) ns h = absurd (omega arith)
entry-there (a ∷ b ∷ c ∷ d ∷ []) ns h = record { entry = record { offset = a; length = b; settype = c; place = d }; place_is = refl; then-others = refl }
entry-there (a ∷ b ∷ c ∷ d ∷ e ∷ xs) ns h = absurd (omega arith)

-- fewer are none
pub no-entry : (xs : List ℕ) → length xs < 4 → entries_in xs ≡ []
unfolding entries_in
no-entry [] g = refl
no-entry (a ∷ []) g = refl
no-entry (a ∷ b ∷ []) g = refl
no-entry (a ∷ b ∷ c ∷ []) g = refl
no-entry (a ∷ b ∷ c ∷ d ∷ xs) g = absurd (omega arith)

-- ---- the search over the entries that are left

-- one entry, and then those after it
first-left : (f c x ns : List ℕ) → length x ≡ 4 → (k : ℕ)
    → standing f c k (entries_in (x ++ ns)) ≡ number_if (stands_at f (get_or x 3 0) c) k ++ standing f c (suc k) (entries_in ns)
unfolding standing
first-left f c x ns h k = let e = entry-there x ns h in rw (e.then-others, e.place_is)

none_left : (f c ns : List ℕ) → length ns < 4 → (k : ℕ) → standing f c k (entries_in ns) ≡ []
unfolding standing
none_left f c ns h k = rw (no-entry ns h)

-- how many are found does not depend on the first number
any-number : (f c : List ℕ) (j k : ℕ) (es : List DayEntry) → length (standing f c j es) ≡ length (standing f c k es)
unfolding standing
any-number f c j k [] = refl
any-number f c j k (e ∷ es) =
    length-append (number_if (stands_at f e.place c) j) (standing f c (suc j) es)
    ∙ ap₂ (λ (m n : ℕ). m + n) (one (stands_at f e.place c)) (any-number f c (suc j) (suc k) es)
    ∙ sym (length-append (number_if (stands_at f e.place c) k) (standing f c (suc k) es))
  where
    one : (b : Bool) → length (number_if b j) ≡ length (number_if b k)
    one true = refl
    one false = refl

length-if : (so : Bool) (k : ℕ) → length (number_if so k) ≡ cond so 1 0
length-if true k = refl
length-if false k = refl

-- how much an entry adds to the count
pub one-if : (m : ℕ) (so : Bool) → m ≡ bool_byte so → (m ≡ cond so 1 0) × (m ≤ 1)
one-if m true e = (e, omega arith)
one-if m false e = (e, omega arith)

-- the four numbers x, and ns after them, are all that are left
module _ (f c all x ns : List ℕ) (w : all ≡ x ++ ns) (h : length x ≡ 4) where
  -- a turn of `count_matches`
  pub count_turn : (count m : ℕ) (so : Bool) → so ≡ stands_at f (get_or x 3 0) c → m ≡ cond so 1 0
      → (count + m) + length (standing f c 1 (entries_in ns)) ≡ count + length (standing f c 1 (entries_in all))
  count_turn count m so q e =
      let so' : Bool = stands_at f (get_or x 3 0) c in
      let later : List ℕ = standing f c 2 (entries_in ns) in
      omega (
        arith,
        ap (λ (xs : List ℕ). length (standing f c 1 (entries_in xs))) w,
        ap length (first-left f c x ns h 1),
        length-append (number_if so' 1) later,
        length-if so' 1,
        e ∙ ap (λ (b : Bool). cond b 1 0) q,
        any-number f c 1 2 (entries_in ns),
      )

  -- a turn of `put_matches`
  module _ (number to : ℕ) (b : List ℕ) (so : Bool) (q : so ≡ stands_at f (get_or x 3 0) c)
      (g : to + length (standing f c number (entries_in all)) ≤ length b) where
    both : standing f c number (entries_in all) ≡ number_if so number ++ standing f c (number + 1) (entries_in ns)
    both =
        let n : suc number ≡ number + 1 = omega arith in
        ap (λ (xs : List ℕ). standing f c number (entries_in xs)) w
        ∙ first-left f c x ns h number
        ∙ ap₂ (λ (y : Bool) (k : ℕ). number_if y number ++ standing f c k (entries_in ns)) (sym q) n

    pub match-fits : to + length (number_if so number) ≤ length b
    match-fits = here-fits b to _ (number_if so number) _ both g

    pub match-turned : (to' : ℕ) (b' : List ℕ) → to' ≡ to + length (number_if so number) → b' ≡ over to (number_if so number) b
        → Turned b b' (standing f c number (entries_in all)) (standing f c (number + 1) (entries_in ns)) to to'
    match-turned to' b' y z = turned b to _ (number_if so number) _ both g to' b' y z

    pub match-counted : (to' : ℕ) → to' ≡ to + length (number_if so number)
        → to' + length (standing f c (number + 1) (entries_in ns)) ≡ to + length (standing f c number (entries_in all))
    match-counted to' y = omega (arith, y, ap length both, length-append (number_if so number) (standing f c (number + 1) (entries_in ns)))

module _ (f c ns : List ℕ) where
  pub count-end : (count : ℕ) → length ns < 4 → count ≡ count + length (standing f c 1 (entries_in ns))
  count-end count h = omega (arith, ap length (none_left f c ns h 1))

  -- all are put
  pub put-end : (number to : ℕ) (b : List ℕ) → length (standing f c number (entries_in ns)) ≡ 0 → b ≡ over to (standing f c number (entries_in ns)) b
  put-end number to b e = over_none b to ∙ ap (λ (xs : List ℕ). over to xs b) (sym (none-of-length (standing f c number (entries_in ns)) e))

  pub left-none : (number : ℕ) → length ns < 4 → length (standing f c number (entries_in ns)) ≡ 0
  left-none number h = ap length (none_left f c ns h number)

-- ---- no asked byte under 20h

-- none from an offset on, or one
low-none : (c : List ℕ) (at k : ℕ) → at + k ≡ length c → no_low (drop at c) ≡ true → first_low c at k ≡ at + k
unfolding first_not
low-none c at zero e h = omega arith
low-none c at (suc k) e h =
    let p : leb least_byte (get_or c at 0) && no_low (drop (at + 1) c) ≡ true = rw (byte-then c at (omega arith)) at h in
    rw (and_left (leb least_byte (get_or c at 0)) (no_low (drop (at + 1) c)) p) (low-none c (at + 1) k (omega arith) (and_right (leb least_byte (get_or c at 0)) _ p) ∙ omega arith)

low-some : (c : List ℕ) (at k : ℕ) → at + k ≡ length c → no_low (drop at c) ≡ false → first_low c at k < at + k
unfolding first_not
low-some c at zero e h = absurd (true≢false (sym (ap no_low (drop_of_length-le c {i = at} (omega arith))) ∙ h))
low-some c at (suc k) e h = go (λ z. low-some c (at + 1) k (omega arith) z) (leb least_byte (get_or c at 0)) (rw (byte-then c at (omega arith)) at h)
  where
    go : (no_low (drop (at + 1) c) ≡ false → first_low c (at + 1) k < at + 1 + k) → (b : Bool) → b && no_low (drop (at + 1) c) ≡ false
        → cond b (first_low c (at + 1) k) at < at + suc k
    go ih true z = omega (arith, ih z)
    go ih false z = omega arith

-- ---- the walk is `found`

found-standing : (f c : List ℕ) (k : ℕ) (es : List DayEntry) → no_low c ≡ true → found f c k es ≡ standing f c k es
unfolding found standing matches stands_at
found-standing f c k [] h = refl
found-standing f c k (e ∷ es) h = rw (h, found-standing f c (suc k) es h) (go (stands_at f e.place c))
  where
    go : (b : Bool) → cond b (k ∷ standing f c (suc k) es) (standing f c (suc k) es) ≡ number_if b k ++ standing f c (suc k) es
    go true = refl
    go false = refl

found_none : (f c : List ℕ) (k : ℕ) (es : List DayEntry) → no_low c ≡ false → found f c k es ≡ []
unfolding found matches
found_none f c k [] h = refl
found_none f c k (e ∷ es) h = rw (h, found_none f c (suc k) es h)

-- ---- the answer

module _ (f ns c out : List ℕ) where
  pub lookup-low : first_low c 0 (length c) < length c → (Ok 0 ≡ (lookup_call f ns c out).answer) × (out ≡ (lookup_call f ns c out).buffer)
  unfolding lookup
  lookup-low h = rw (found_none f c 1 (entries_in ns) (go (no_low c) refl), le-leb 0 (length out) (omega arith)) (refl, refl)
    where
      go : (b : Bool) → no_low c ≡ b → b ≡ false
      go true e = absurd (omega (arith, low-none c 0 (length c) (omega arith) e))
      go false e = refl

  module _ (g : length c ≤ first_low c 0 (length c)) (n : ℕ) (e : n ≡ length (standing f c 1 (entries_in ns))) where
    no-low : no_low c ≡ true
    no-low = go (no_low c) refl
      where
        go : (b : Bool) → no_low c ≡ b → b ≡ true
        go true x = refl
        go false x = absurd (omega (arith, low-some c 0 (length c) (omega arith) x))

    pub lookup-full : length out < n → (Err (refusal no_room n 0) ≡ (lookup_call f ns c out).answer) × (out ≡ (lookup_call f ns c out).buffer)
    unfolding lookup
    lookup-full h = rw (found-standing f c 1 (entries_in ns) no-low, ← e, lt-leb n (length out) h) (refl, refl)

    pub lookup-made : n ≤ length out → (b : List ℕ) → b ≡ over 0 (standing f c 1 (entries_in ns)) out
        → (Ok n ≡ (lookup_call f ns c out).answer) × (b ≡ (lookup_call f ns c out).buffer)
    unfolding lookup over
    lookup-made h b q =
        rw (found-standing f c 1 (entries_in ns) no-low, ← e, le-leb n (length out) h)
        (ap Ok e, q ∙ ap (λ (m : ℕ). standing f c 1 (entries_in ns) ++ drop m out) (zero-add (length (standing f c 1 (entries_in ns)))))
