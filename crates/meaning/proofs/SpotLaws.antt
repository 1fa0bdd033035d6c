-- A fault of a line, of an entry or of a new content is at a byte exactly if its number tells a byte: 6 and 24.
use mathlib.Core.Path.{◌≡◌, refl, sym, ap, ◌∙◌}
use mathlib.Core.Bool.{Bool, true, false, cond, not, ◌&&◌, true≢false}
use mathlib.Core.List.{List, [], ◌∷◌, ◌++◌}
use mathlib.Core.Logic.{◌↔◌}
use Prim.Native.Nat.{ℕ, suc, pred}
use lib.Dec.{leb}
use lib.ListN.{length}
use Rattle.meaning.specs.Field.{Field, field, label_at_line}
use Rattle.meaning.specs.Refusals.{Spot, start, byte, Fault, at_line, at_byte, tells_byte, ask, bad_length, cut_line, bad_end, bad_label, bad_byte, bad_content}
use Rattle.meaning.specs.Refusals.{no_such_line, fixed_line, bad_list, high_byte}
use Rattle.meaning.specs.Lines.{least_byte, low_bytes, most_seven_bits, high_bytes, content_at, length_ok, whole_ok, end_ok, label_ok, line_faults}
use Rattle.meaning.specs.Entries.{entry_ok, entry_whole, entry_label, entry_content, entry_faults}
use Rattle.meaning.specs.Rules.{profile, fits, seven_bit}
use Rattle.meaning.specs.Corrections.{fixed, change_faults}
use Rattle.meaning.specs.Views.{sheet_entry_faults}
use Rattle.meaning.proofs.Bools.{Every}

-- it is at a byte, not at a line's first byte
abbrev pub is_byte : Spot → Bool
is_byte start = false
is_byte (byte i) = true

abbrev pub Told : List Fault → Type 0
Told xs = Every (λ x. tells_byte x.no ≡ is_byte x.spot) xs

-- so a fault that is told is at a byte exactly if its number says so
pub told-byte : (x : Fault) → tells_byte x.no ≡ is_byte x.spot → (tells_byte x.no ≡ true) ↔ ((i : ℕ) × (x.spot ≡ byte i))
told-byte x e = (λ q. there x.spot (sym e ∙ q), λ p. e ∙ ap is_byte p.1)
  where
    there : (s : Spot) → is_byte s ≡ true → (i : ℕ) × (s ≡ byte i)
    there start q = absurd (true≢false (sym q))
    there (byte i) q = (i, refl)

told-append : (a b : List Fault) → Told a → Told b → Told (a ++ b)
told-append [] b h k = k
told-append (x ∷ a) b h k = (h.0, told-append a b h.1 k)

-- a rule that gives its fault at a line, and the rules after it
told-rule : (t : Bool) (x : Fault) (r : List Fault) → tells_byte x.no ≡ is_byte x.spot → Told r → Told (ask t x ++ r)
told-rule true x r e h = h
told-rule false x r e h = (e, h)

told-lows : (k i : ℕ) (c : List ℕ) → Told (low_bytes k i c)
unfolding tells_byte
told-lows k i [] = tt
told-lows k i (b ∷ c) = told-rule (leb least_byte b) (at_byte bad_byte k i) (low_bytes k (suc i) c) refl (told-lows k (suc i) c)

told-highs : (k i : ℕ) (c : List ℕ) → Told (high_bytes k i c)
unfolding tells_byte
told-highs k i [] = tt
told-highs k i (b ∷ c) = told-rule (leb b most_seven_bits) (at_byte high_byte k i) (high_bytes k (suc i) c) refl (told-highs k (suc i) c)

pub told_line : (s : List ℕ) → Told (line_faults s)
unfolding line_faults tells_byte
told_line s =
    told-rule (length_ok s) (at_line bad_length 0 0) _ refl
    (told-rule (whole_ok s) (at_line cut_line 0 0) _ refl
    (told-rule (end_ok s) (at_line bad_end 0 0) _ refl
    (told-rule (label_ok s) (at_line bad_label 0 0) _ refl (told-lows 0 0 (content_at s)))))

pub told-entry : (s : List ℕ) → Told (entry_faults s)
unfolding entry_faults tells_byte
told-entry s = told-rule (entry_ok s) (at_line bad_list 0 0) (low_bytes 0 0 (entry_content s)) refl (told-lows 0 0 (entry_content s))

pub told-change : (fs : List Field) (n : ℕ) (c : List ℕ) → Told (change_faults fs n c)
unfolding change_faults tells_byte
told-change fs n c =
    let l : ℕ = label_at_line fs (pred n) in
    told-rule (leb 1 n && leb n (length fs)) (at_line no_such_line (length fs) 0) _ refl
    (told-rule (not (fixed l)) (at_line fixed_line (pred n) l) _ refl
    (told-append (low_bytes (pred n) 0 c) _ (told-lows (pred n) 0 c)
    (told-rule (fits (profile fs) (field l c)) (at_line bad_content (pred n) l) _ refl (last (seven_bit fs)))))
  where
    last : (b : Bool) → Told (cond b (high_bytes (pred n) 0 c) [])
    last true = told-highs (pred n) 0 c
    last false = tt

pub told-sheet-entry : (fs : List Field) (s : List ℕ) → Told (sheet_entry_faults fs s)
unfolding sheet_entry_faults tells_byte
told-sheet-entry fs s =
    told-rule (entry_whole s) (at_line bad_list 0 0) (change_faults fs (entry_label s) (entry_content s)) refl (told-change fs (entry_label s) (entry_content s))
