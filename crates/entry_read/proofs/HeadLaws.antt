-- What the walk of an entry's head means: label and content of the entry at the front of the bytes from the offset on, if it is whole.
use mathlib.Core.Path.{◌≡◌, refl, sym, ap, ◌∙◌}
use mathlib.Core.Bool.{Bool, true, false, cond, ◌&&◌}
use mathlib.Core.List.{List}
use Prim.Native.Nat.{ℕ, suc, ◌+◌, ◌≤◌, ◌<◌}
use native.Mathlib.Omega.{arith}
use native.Mathlib.Nat.{add-zero}
use borrow.Author.Tests.{le-leb, lt-leb, leb-true, leb-false}
use lib.Dec.{leb}
use lib.ListN.{length, take, drop, length-take, length-drop}
use lib.Seq.{get_or-drop, drop-drop}
use Rattle.meaning.specs.Entries.{entry_lead, two_bytes_at, entry_label, entry_content, entry_width, entry_whole}
use Rattle.meaning.proofs.EntryLaws.{entire}
use Rattle.entry_read.specs.Head.{entry_at, HeadRead, a_head, by_head}
use Rattle.std.specs.Prelude.{None}

-- ---- the ways that the code takes

module _ (s : List ℕ) (at : ℕ) where
  pub entry-headless : length s < at + entry_lead → None ≡ entry_at s at
  unfolding entry_at
  entry-headless h = rw (lt-leb (at + entry_lead) (length s) h)

  module _ (h : at + entry_lead ≤ length s) (n : ℕ) (e : n ≡ two_bytes_at s at) where
    pub entry-short : length s < at + (entry_lead + n) → None ≡ entry_at s at
    unfolding entry_at
    entry-short g = rw (le-leb (at + entry_lead) (length s) h, ← e, lt-leb (at + (entry_lead + n)) (length s) g)

    pub entry-told : at + (entry_lead + n) ≤ length s → (k : ℕ) → k ≡ two_bytes_at s (at + 2) → a_head k n ≡ entry_at s at
    unfolding entry_at
    entry-told g k q = rw (le-leb (at + entry_lead) (length s) h, ← e, le-leb (at + (entry_lead + n)) (length s) g, q)

-- ---- what the head says

-- the head of the entry at the front, by whether it is whole
abbrev pub head_of : Bool → List ℕ → HeadRead
head_of true s = a_head (entry_label s) (two_bytes_at s 0)
head_of false s = None

-- n bytes remain from an offset on if they end within the bytes
left_is : (s : List ℕ) (at n : ℕ) → 1 ≤ n → leb (at + n) (length s) ≡ leb n (length (drop at s))
left_is s at n h = go (leb (at + n) (length s)) refl
  where
    go : (b : Bool) → leb (at + n) (length s) ≡ b → b ≡ leb n (length (drop at s))
    go true e = sym (le-leb n (length (drop at s)) (omega (arith, leb-true (at + n) (length s) e, length-drop at s)))
    go false e = sym (lt-leb n (length (drop at s)) (omega (arith, leb-false (at + n) (length s) e, length-drop at s)))

two-bytes-drop : (s : List ℕ) (at i : ℕ) → two_bytes_at (drop at s) i ≡ two_bytes_at s (at + i)
two-bytes-drop s at i =
    let e : at + suc i ≡ suc (at + i) = omega arith in
    rw (get_or-drop at s i 0, get_or-drop at s (suc i) 0, e)

-- The head at an offset is that of the entry at the front of the bytes from there on.
pub entry-is : (s : List ℕ) (at : ℕ) → entry_at s at ≡ head_of (entry_whole (drop at s)) (drop at s)
unfolding entry_at
entry-is s at =
    let d : List ℕ = drop at s in
    let k : two_bytes_at d 2 ≡ two_bytes_at s (at + 2) = two-bytes-drop s at 2 in
    let n : two_bytes_at d 0 ≡ two_bytes_at s at = two-bytes-drop s at 0 ∙ ap (two_bytes_at s) (add-zero at) in
    let p : leb (at + entry_lead) (length s) ≡ leb entry_lead (length d) = left_is s at entry_lead (omega arith) in
    let q : leb (at + (entry_lead + two_bytes_at d 0)) (length s) ≡ leb (entry_width d) (length d) = left_is s at (entry_width d) (omega arith) in
    rw (← k, ← n, p, q) (told (leb entry_lead (length d)) (leb (entry_width d) (length d)) d)
  where
    told : (a b : Bool) (d : List ℕ) → cond a (cond b (a_head (entry_label d) (two_bytes_at d 0)) None) None ≡ head_of (a && b) d
    told true true d = refl
    told true false d = refl
    told false b d = refl

-- what a whole entry at an offset says of the bytes there
pub record WholeAt (s : List ℕ) (at label n : ℕ) : Type 0 where
  pub whole : entry_whole (drop at s) ≡ true
  pub label-so : label ≡ entry_label (drop at s)
  pub width-so : entry_lead + n ≡ entry_width (drop at s)
  pub content-so : take n (drop (at + entry_lead) s) ≡ entry_content (drop at s)
  pub content-length : length (entry_content (drop at s)) ≡ n
  pub within : at + (entry_lead + n) ≤ length s
  pub label-told : two_bytes_at s (at + 2) ≡ label
  pub length-told : two_bytes_at s at ≡ n

-- what two heads say that are the same
pub same-head : {label n k m : ℕ} → a_head label n ≡ a_head k m → (label ≡ k) × (n ≡ m)
same-head e = (ap (λ (x : HeadRead). by_head x 0 (λ l j. l)) e, ap (λ (x : HeadRead). by_head x 0 (λ l j. j)) e)

pub whole_back : (s : List ℕ) (at : ℕ) {label n : ℕ} → entry_at s at ≡ a_head label n → WholeAt s at label n
whole_back s at {label} {n} e = go (entry_whole (drop at s)) refl (sym (entry-is s at) ∙ e)
  where
    d : List ℕ
    d = drop at s

    go : (b : Bool) → entry_whole d ≡ b → head_of b d ≡ a_head label n → WholeAt s at label n
    go true q h =
        let w = entire d q in
        let k : label ≡ entry_label d = sym (same-head h).0 in
        let m : n ≡ two_bytes_at d 0 = sym (same-head h).1 in
        record {
          whole = q;
          label-so = k;
          width-so = omega arith;
          content-so = rw (m, ← drop-drop entry_lead at s) refl;
          content-length = length-take (two_bytes_at d 0) (drop entry_lead d) ∙ omega (arith, w.within, length-drop entry_lead d);
          within = omega (arith, w.within, length-drop at s);
          label-told = sym (two-bytes-drop s at 2) ∙ sym k;
          length-told = ap (two_bytes_at s) (sym (add-zero at)) ∙ (sym (two-bytes-drop s at 0) ∙ sym m);
        }
    go false q h = let z : ◌≡◌ {A = ℕ} 0 1 = cc in absurd (omega arith)
