-- A byte, and then a content, in the wanted code page: what the table says is exactly what the mapping files say.
use mathlib.Core.Path.{◌≡◌, refl, sym, ◌∙◌, subst}
use mathlib.Core.Bool.{not}
use mathlib.Core.List.{List, [], ◌∷◌, map}
use mathlib.Core.Logic.{◌⊎◌, inl, inr, ◌≢◌}
use Prim.Native.Nat.{ℕ, zero, suc, ◌+◌, ◌≤◌, ◌<◌}
use native.Mathlib.Omega.{arith}
use lib.Dec.{eqb}
use lib.ListN.{length, get_or, length-map}
use lib.Seq.{ext_get_or}
use borrow.Author.Tests.{eqb-false, ne_eqb}
use Rattle.meaning.specs.Field.{Field, content_at_line}
use Rattle.meaning.specs.Refusals.{at_byte, no_such_character}
use Rattle.meaning.proofs.Bools.{not-true}
use Rattle.meaning.proofs.FaultLaws.{append-none, none_both, ask-none, Plain}
use Rattle.keeps.proofs.TableFacts.{lt-or-le}
use Rattle.meaning_recode.specs.declared.Code.{Code}
use Rattle.meaning_recode.specs.Codes.{no_byte, recoded}
use Rattle.meaning_recode.specs.Recoding.{no_character_bytes, no_character_from}
use Rattle.meaning_recode.proofs.CodeLaws.{low-stays, high-stays}
use Rattle.theory_recode.specs.RecodeRules.{SameCharacter, NoCharacter, InPage}
use Rattle.theory_recode.proofs.PageExamples.{same-exactly}

-- ---- a byte

-- the table has a byte for it in the wanted code page
abbrev pub HasByte : Code → ℕ → Type 0
HasByte w b = recoded w b ≢ no_byte

byte-or-none : (w : Code) (b : ℕ) → recoded w b ≤ no_byte
byte-or-none w b = go (lt-or-le b 128)
  where
    go : (b < 128) ⊎ (128 ≤ b) → recoded w b ≤ no_byte
    go (inl l) = omega (arith, low-stays w b l)
    go (inr h) = (high-stays w b h).1

-- which is then the same character
pub same-character : (w : Code) (b : ℕ) → HasByte w b → SameCharacter w b (recoded w b)
same-character w b h = (same-exactly w b (recoded w b) (omega (arith, byte-or-none w b, h))).0 refl

pub has-byte : (w : Code) (b c : ℕ) → SameCharacter w b c → HasByte w b
has-byte w b c s e = omega (arith, (same-exactly w b c s.a_byte).1 s, s.a_byte, e)

pub no-character : (w : Code) (b : ℕ) → recoded w b ≡ no_byte → NoCharacter w b
no-character w b e c s = has-byte w b c s e

pub some-character : (w : Code) (b : ℕ) → HasByte w b → NoCharacter w b → ⊥
some-character w b h n = n (recoded w b) (same-character w b h)

-- ---- a content

-- every byte of a content has one
abbrev pub AllHave : Code → List ℕ → Type 0
AllHave w c = (i : ℕ) → i < length c → HasByte w (get_or c i 0)

pub none-unknown : (w : Code) (k i : ℕ) (c : List ℕ) → AllHave w c → no_character_bytes w k i c ≡ []
none-unknown w k i [] h = refl
none-unknown w k i (b ∷ c) h = rw (ne_eqb (recoded w b) no_byte (h 0 (omega arith))) (none-unknown w k (suc i) c (λ j l. h (suc j) (omega arith)))

pub all_known : (w : Code) (k i : ℕ) (c : List ℕ) → no_character_bytes w k i c ≡ [] → AllHave w c
all_known w k i [] e j l = absurd (omega arith)
all_known w k i (b ∷ c) e zero l =
    eqb-false (recoded w b) no_byte (not-true _ (ask-none (not (eqb (recoded w b) no_byte)) (at_byte no_such_character k i) (no_character_bytes w k (suc i) c) e).0)
all_known w k i (b ∷ c) e (suc j) l =
    all_known w k (suc i) c (ask-none (not (eqb (recoded w b) no_byte)) (at_byte no_such_character k i) (no_character_bytes w k (suc i) c) e).1 j (omega arith)

-- an element of a list that a function was put on
pub get_d_map : {A B : Type 0} (f : A → B) (xs : List A) (k : ℕ) (a : A) (b : B) → k < length xs → get_or (map f xs) k b ≡ f (get_or xs k a)
get_d_map f [] k a b l = absurd (omega arith)
get_d_map f (x ∷ xs) zero a b l = refl
get_d_map f (x ∷ xs) (suc k) a b l = get_d_map f xs k a b (omega arith)

-- the content byte by byte in the wanted code page, and no other one
pub in-page : (w : Code) (c : List ℕ) → AllHave w c → InPage w c (map (recoded w) c)
in-page w c h = record {
  as_long = length-map c (recoded w);
  each = λ i l. subst (λ (x : ℕ). SameCharacter w (get_or c i 0) x) (sym (get_d_map (recoded w) c i 0 0 l)) (same-character w (get_or c i 0) (h i l));
}

pub page-has : (w : Code) (c d : List ℕ) → InPage w c d → AllHave w c
page-has w c d p i l = has-byte w (get_or c i 0) (get_or d i 0) (p.each i l)

pub page-only : (w : Code) (c d : List ℕ) → InPage w c d → d ≡ map (recoded w) c
page-only w c d p = ext_get_or 0 d (map (recoded w) c) (p.as_long ∙ sym (length-map c (recoded w))) each
  where
    each : (i : ℕ) → i < length d → get_or d i 0 ≡ get_or (map (recoded w) c) i 0
    each i l =
        let m : i < length c = omega (arith, p.as_long) in
        sym (get_d_map (recoded w) c i 0 0 m ∙ (same-exactly w (get_or c i 0) (get_or d i 0) (p.each i m).a_byte).1 (p.each i m))

-- a content without a byte over 7Fh stays as it is
pub plain-has : (w : Code) (c : List ℕ) → Plain c → AllHave w c
plain-has w [] p i l = absurd (omega arith)
plain-has w (b ∷ c) p zero l = λ e. omega (arith, e, low-stays w b (omega (arith, p.0)), p.0)
plain-has w (b ∷ c) p (suc i) l = plain-has w c p.1 i (omega arith)

pub plain-stays : (w : Code) (c : List ℕ) → Plain c → map (recoded w) c ≡ c
plain-stays w [] p = refl
plain-stays w (b ∷ c) p = rw (low-stays w b (omega (arith, p.0)), plain-stays w c p.1) refl

-- ---- the contents of lines

abbrev pub LinesHave : Code → List Field → Type 0
LinesHave w fs = (k : ℕ) → k < length fs → AllHave w (content_at_line fs k)

pub none-unknown-from : (w : Code) (n : ℕ) (fs : List Field) → LinesHave w fs → no_character_from w n fs ≡ []
unfolding no_character_from
none-unknown-from w n [] h = refl
none-unknown-from w n (f ∷ fs) h =
    none_both _ _ (none-unknown w n 0 f.content (h 0 (omega arith))) (none-unknown-from w (n + 1) fs (λ k l. h (suc k) (omega arith)))

pub all-known-from : (w : Code) (n : ℕ) (fs : List Field) → no_character_from w n fs ≡ [] → LinesHave w fs
unfolding no_character_from
all-known-from w n [] e k l = absurd (omega arith)
all-known-from w n (f ∷ fs) e zero l = all_known w n 0 f.content (append-none (no_character_bytes w n 0 f.content) _ e).0
all-known-from w n (f ∷ fs) e (suc k) l = all-known-from w (n + 1) fs (append-none (no_character_bytes w n 0 f.content) _ e).1 k (omega arith)
