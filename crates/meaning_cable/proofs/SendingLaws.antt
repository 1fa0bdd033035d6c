-- The sender: each call follows the rule table (`turn-follows`, `begun-begins`), two that follow it are equal (`follows-one`, `begins-one`), and for n blocks it has delivered
-- or given up after at most 4n replies or timeouts (`ends-within`).
use mathlib.Core.Path.{◌≡◌, refl, sym, ap, ◌∙◌, subst}
use mathlib.Core.Bool.{Bool, true, false, cond, ◌&&◌}
use mathlib.Core.List.{List, [], ◌∷◌}
use mathlib.Core.Logic.{◌⊎◌, inl, inr, ◌≢◌}
use Prim.Native.Nat.{ℕ, ◌+◌, ◌-◌, ◌*◌, ◌≤◌, ◌<◌}
use native.Mathlib.Omega.{arith}
use lib.Dec.{eqb, leb}
use lib.ListN.{length, get_or}
use borrow.Author.Tests.{le-leb, lt-leb, eq-eqb, ne_eqb, leb-true, eqb-true, eqb-false, leb-false}
use Rattle.meaning.specs.Refusals.{refused, done}
use Rattle.meaning.proofs.Bools.{and_left, and_right}
use Rattle.meaning_cable.specs.declared.Link.{Link}
use Rattle.meaning_cable.specs.declared.Action.{Action}
use Rattle.meaning_cable.specs.declared.Action.TheVariants.{Nothing, Delivered, GivenUp}
use Rattle.meaning_cable.specs.declared.Turned.{Turned}
use Rattle.meaning.specs.declared.Refusal.{Refusal}
use Rattle.meaning_cable.specs.Blocks.{blocks_of}
use Rattle.meaning_cable.proofs.OneSetLaws.{two_blocks}
use Rattle.meaning_cable.specs.Sending.{send, link_left, under_way, delivered, given_up, next_count, ack1, is_ack, sends, end_of, opened, on_to, once_more, second_attempt, Begins, goes-on}
use Rattle.meaning_cable.specs.Sending.{what_number, block_number, count_number}
use Rattle.meaning_cable.specs.Sending.{from_zero, Follows, taken, last_taken, again, afresh, over, ended, goes, stops, first_count, begun, acked, failed, turn_of, after, Ended}

-- ---- ACK 1 is just 06h 31h

pub ack-only : (r : List ℕ) → is_ack r ≡ true → r ≡ ack1
unfolding is_ack
ack-only r e =
    let two : length r ≡ 2 = eqb-true (length r) 2 (and_left (eqb (length r) 2) (eqb (get_or r 0 0) 6 && eqb (get_or r 1 0) 49) e) in
    let both : eqb (get_or r 0 0) 6 && eqb (get_or r 1 0) 49 ≡ true = and_right (eqb (length r) 2) (eqb (get_or r 0 0) 6 && eqb (get_or r 1 0) 49) e in
    go r two (eqb-true (get_or r 0 0) 6 (and_left (eqb (get_or r 0 0) 6) (eqb (get_or r 1 0) 49) both)) (eqb-true (get_or r 1 0) 49 (and_right (eqb (get_or r 0 0) 6) (eqb (get_or r 1 0) 49) both))
  where
    go : (q : List ℕ) → length q ≡ 2 → get_or q 0 0 ≡ 6 → get_or q 1 0 ≡ 49 → q ≡ ack1
    go [] n a b = absurd (omega arith)
    go (x ∷ []) n a b = absurd (omega arith)
    go (x ∷ y ∷ []) n a b = λ i. a i ∷ b i ∷ []
    go (x ∷ y ∷ z ∷ q) n a b = absurd (omega arith)

-- ---- the function follows the table

module _ (s : Link) where
  pub begun-begins : (n : ℕ) → Begins s n (begun s n).link
  unfolding begun first_count
  begun-begins n = go (eqb s.phase delivered) refl
    where
      go : (b : Bool) → eqb s.phase delivered ≡ b → Begins s n (opened n (cond b (next_count s.count) 0))
      go true e = goes-on (eqb-true s.phase delivered e)
      go false e = from_zero (eqb-false s.phase delivered e)

  module _ (r : List ℕ) where
    acked-follows : s.phase ≡ under_way → is_ack r ≡ true → Follows s r (acked s).link (acked s).action
    unfolding acked
    acked-follows p a = go (leb s.blocks (s.block + 1)) refl
      where
        go : (b : Bool) → leb s.blocks (s.block + 1) ≡ b
            → Follows s r (cond b (stops delivered Delivered s) (goes (on_to s))).link (cond b (stops delivered Delivered s) (goes (on_to s))).action
        go true e = last_taken p a (leb-true s.blocks (s.block + 1) e)
        go false e = taken p a (leb-false s.blocks (s.block + 1) e)

    failed-follows : s.phase ≡ under_way → is_ack r ≡ false → Follows s r (failed s).link (failed s).action
    unfolding failed
    failed-follows p a = go (eqb s.errors 0) (leb s.attempt 1) refl refl
      where
        go : (b c : Bool) → eqb s.errors 0 ≡ b → leb s.attempt 1 ≡ c
            → Follows s r (cond b (goes (once_more s)) (cond c (goes (second_attempt s)) (stops given_up GivenUp s))).link
            (cond b (goes (once_more s)) (cond c (goes (second_attempt s)) (stops given_up GivenUp s))).action
        go true c e f = again p a (eqb-true s.errors 0 e)
        go false true e f = afresh p a (eqb-false s.errors 0 e) (leb-true s.attempt 1 f)
        go false false e f = over p a (eqb-false s.errors 0 e) (leb-false s.attempt 1 f)

    -- each call follows the rule table
    pub turn-follows : Follows s r (turn_of s r).link (turn_of s r).action
    unfolding turn_of
    turn-follows = go (eqb s.phase under_way) (is_ack r) refl refl
      where
        go : (b c : Bool) → eqb s.phase under_way ≡ b → is_ack r ≡ c
            → Follows s r (cond b (cond c (acked s) (failed s)) (record { link = s; action = end_of s })).link
            (cond b (cond c (acked s) (failed s)) (record { link = s; action = end_of s })).action
        go true true e a = acked-follows (eqb-true s.phase under_way e) a
        go true false e a = failed-follows (eqb-true s.phase under_way e) a
        go false c e a = ended (eqb-false s.phase under_way e)

-- ---- what follows the table is what the function gives

pub follows-turn : {s : Link} {r : List ℕ} {t : Link} {x : Action} → Follows s r t x → turn_of s r ≡ record { link = t; action = x }
unfolding turn_of acked failed
follows-turn {s} (taken p a h) = rw (eq-eqb s.phase under_way p, a, lt-leb s.blocks (s.block + 1) h)
follows-turn {s} (last_taken p a h) = rw (eq-eqb s.phase under_way p, a, le-leb s.blocks (s.block + 1) h)
follows-turn {s} (again p a h) = rw (eq-eqb s.phase under_way p, a, eq-eqb s.errors 0 h)
follows-turn {s} (afresh p a h k) = rw (eq-eqb s.phase under_way p, a, ne_eqb s.errors 0 h, le-leb s.attempt 1 k)
follows-turn {s} (over p a h k) = rw (eq-eqb s.phase under_way p, a, ne_eqb s.errors 0 h, lt-leb s.attempt 1 k)
follows-turn {s} (ended p) = rw (ne_eqb s.phase under_way p)

-- two answers that follow the table are equal
pub follows-one : {s : Link} {r : List ℕ} {t u : Link} {x y : Action} → Follows s r t x → Follows s r u y → (t ≡ u) × (x ≡ y)
follows-one f g =
    let e = sym (follows-turn f) ∙ follows-turn g in
    (ap (λ (z : Turned). z.link) e, ap (λ (z : Turned). z.action) e)

pub begins-one : {s : Link} {n : ℕ} {t u : Link} → Begins s n t → Begins s n u → t ≡ u
begins-one (goes-on p) (goes-on q) = refl
begins-one (goes-on p) (from_zero q) = absurd (q p)
begins-one (from_zero p) (goes-on q) = absurd (p q)
begins-one (from_zero p) (from_zero q) = refl

-- ---- the one call

-- a reply: the call follows the table
pub send-follows : (s : Link) (r : List ℕ) → (t : Turned) × (send s false r ≡ done t) × Follows s r t.link t.action
unfolding send
send-follows s r = (turn_of s r, refl, turn-follows s r)

-- a set that is refused leaves the link as it was
pub refused-link : (s : Link) (bytes : List ℕ) (r : Refusal) → blocks_of bytes ≡ refused r → (send s true bytes ≡ refused r) × (link_left s (send s true bytes) ≡ s)
unfolding send
refused-link s bytes r e = (rw e, rw e)

-- a set of n blocks begins: the first block is to be sent
pub send-begins : (s : Link) (bytes : List ℕ) (n : ℕ) → blocks_of bytes ≡ done n
    → (t : Turned) × (send s true bytes ≡ done t) × Begins s n t.link × (t.action ≡ sends t.link)
unfolding send begun
send-begins s bytes n e = (begun s n, rw e, begun-begins s n, refl)

-- ---- "after at most 4n replies or timeouts"

record Going (n : ℕ) (s : Link) : Type 0 where
  runs : s.phase ≡ 1
  blocks-are : s.blocks ≡ n
  within : s.block < n
  attempts : (s.attempt ≡ 1) ⊎ (s.attempt ≡ 2)
  errors-few : s.errors ≤ 1

-- how many replies may still come
abbrev left : ℕ → Link → ℕ
left n s = cond (leb s.attempt 1) (2 * n) 0 + (2 * (n - s.block) - s.errors)

data Next (n : ℕ) (s t : Link) : Type 0 where
  now-over : Ended t → Next n s t
  nearer : Going n t → left n t < left n s → Next n s t

module _ (n : ℕ) (s : Link) (g : Going n s) where
  by_row : {r : List ℕ} {t : Link} {x : Action} → Follows s r t x → Next n s t
  by_row (taken p a h) =
      let b = g.blocks-are in
      let w = g.within in
      let f = g.errors-few in
      nearer (record { runs = refl; blocks-are = b; within = omega arith; attempts = g.attempts; errors-few = omega arith }) (omega arith)
  by_row (last_taken p a h) = now-over (inl refl)
  by_row (again p a h) =
      let w = g.within in
      nearer (record { runs = refl; blocks-are = g.blocks-are; within = w; attempts = g.attempts; errors-few = omega arith }) (omega arith)
  by_row (afresh p a h k) =
      let w = g.within in
      let f = g.errors-few in
      let m : left n s ≡ 2 * n + (2 * (n - s.block) - s.errors) = rw (le-leb s.attempt 1 k) in
      nearer (record { runs = refl; blocks-are = g.blocks-are; within = omega arith; attempts = inr refl; errors-few = omega arith }) (omega (arith, m))
  by_row (over p a h k) = now-over (inr refl)
  by_row (ended p) = absurd (p g.runs)

not-under_way : (s : Link) → Ended s → s.phase ≢ under_way
not-under_way s (inl x) y = omega arith
not-under_way s (inr x) y = omega arith

-- "calls after the end answer so"
pub stays-over : (s : Link) (rs : List (List ℕ)) → Ended s → after s rs ≡ s
unfolding after send
stays-over s [] e = refl
stays-over s (r ∷ rs) e =
    ap (λ (t : Link). after t rs) (follows-one (turn-follows s r) (ended {s = s} {r = r} (not-under_way s e))).0 ∙ stays-over s rs e

-- as a number: the end that it came to, with block and count 0
pub over-told : (s : Link) (r : List ℕ) → Ended s
    → (what_number (turn_of s r).action ≡ s.phase) × (block_number (turn_of s r).action ≡ 0) × (count_number (turn_of s r).action ≡ 0)
unfolding end_of
over-told s r e = rw (follows-one (turn-follows s r) (ended {s = s} {r = r} (not-under_way s e))).1 (go e)
  where
    go : Ended s
        → (what_number (cond (eqb s.phase delivered) Delivered (cond (eqb s.phase given_up) GivenUp Nothing)) ≡ s.phase)
        × (block_number (cond (eqb s.phase delivered) Delivered (cond (eqb s.phase given_up) GivenUp Nothing)) ≡ 0)
        × (count_number (cond (eqb s.phase delivered) Delivered (cond (eqb s.phase given_up) GivenUp Nothing)) ≡ 0)
    go (inl x) = rw x (refl, refl, refl)
    go (inr x) = rw x (refl, refl, refl)

then : (n : ℕ) (s t : Link) (rs : List (List ℕ)) → Next n s t → (Going n t → left n t < left n s → Ended (after t rs)) → Ended (after t rs)
then n s t rs (now-over e) f = subst Ended (sym (stays-over t rs e)) e
then n s t rs (nearer k l) f = f k l

ends : (n : ℕ) (rs : List (List ℕ)) (s : Link) → Going n s → left n s ≤ length rs → Ended (after s rs)
unfolding after send
ends n [] s g h = let w = g.within in let f = g.errors-few in absurd (omega arith)
ends n (r ∷ rs) s g h = then n s (turn_of s r).link rs (by_row n s g (turn-follows s r)) (λ k l. ends n rs (turn_of s r).link k (omega arith))

-- "for n blocks the sender has delivered or given up after at most 4n replies or timeouts", whatever the link was before
pub ends-within : (s : Link) (n : ℕ) → 0 < n → (rs : List (List ℕ)) → 4 * n ≤ length rs → Ended (after (begun s n).link rs)
unfolding begun
ends-within s n h rs l =
    ends n rs (opened n (first_count s))
    (record { runs = refl; blocks-are = refl; within = h; attempts = inl refl; errors-few = omega arith }) (omega arith)

-- the same of the call that begins with a set: it has two blocks or more
pub send-ends : (s : Link) (bytes : List ℕ) (n : ℕ) → blocks_of bytes ≡ done n → (rs : List (List ℕ)) → 4 * n ≤ length rs → Ended (after (link_left s (send s true bytes)) rs)
unfolding send
send-ends s bytes n e rs l = rw e (ends-within s n (omega (arith, two_blocks bytes n e)) rs l)
