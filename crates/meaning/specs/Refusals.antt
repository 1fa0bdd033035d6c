-- "Numbered replies": the numbers by name, faults, and the reply that the first fault of a list makes.
-- `Refusal::numbers` is proved to say the same numbers.
use Rattle.std.specs.Prelude.{Bool, true, false, ◌||◌, List, [], ◌∷◌, ℕ, ◌+◌, eqb}
use Rattle.meaning.specs.declared.Refusal.{Refusal}

abbrev pub empty : ℕ
empty = 1

abbrev pub bad_length : ℕ
bad_length = 2

abbrev pub cut_line : ℕ
cut_line = 3

abbrev pub bad_end : ℕ
bad_end = 4

abbrev pub bad_label : ℕ
bad_label = 5

abbrev pub bad_byte : ℕ
bad_byte = 6

abbrev pub too_many_lines : ℕ
too_many_lines = 7

abbrev pub no_start : ℕ
no_start = 8

abbrev pub unknown_set : ℕ
unknown_set = 9

abbrev pub no_sum : ℕ
no_sum = 10

abbrev pub not_in_set : ℕ
not_in_set = 11

abbrev pub stray : ℕ
stray = 12

abbrev pub repeated : ℕ
repeated = 13

abbrev pub bad_content : ℕ
bad_content = 14

abbrev pub other_version : ℕ
other_version = 15

abbrev pub missing : ℕ
missing = 16

abbrev pub bad_sum : ℕ
bad_sum = 17

abbrev pub bad_use : ℕ
bad_use = 18

abbrev pub no_such_line : ℕ
no_such_line = 19

abbrev pub fixed_line : ℕ
fixed_line = 20

abbrev pub bad_list : ℕ
bad_list = 21

abbrev pub no_room : ℕ
no_room = 22

abbrev pub too_many_sets : ℕ
too_many_sets = 23

abbrev pub high_byte : ℕ
high_byte = 24

abbrev pub bad_block : ℕ
bad_block = 25

abbrev pub bad_crc : ℕ
bad_crc = 26

abbrev pub no_such_character : ℕ
no_such_character = 27

abbrev pub numbers : List ℕ
numbers =
    empty ∷ bad_length ∷ cut_line ∷ bad_end ∷ bad_label ∷ bad_byte ∷ too_many_lines ∷ no_start ∷ unknown_set ∷ no_sum ∷ not_in_set
    ∷ stray ∷ repeated ∷ bad_content ∷ other_version ∷ missing ∷ bad_sum ∷ bad_use ∷ no_such_line ∷ fixed_line ∷ bad_list ∷ no_room ∷ too_many_sets
    ∷ high_byte ∷ bad_block ∷ bad_crc ∷ no_such_character ∷ []

abbrev pub refusal : ℕ → ℕ → ℕ → Refusal
refusal n p l = record { no = n; place = p; label = l }

-- ---- faults

-- Where in its line a fault is: at the line's first byte, or at byte i of its content.
pub data Spot : Type 0 where
  start : Spot
  byte : ℕ → Spot

-- A fault: its number, how many lines stand before the line concerned, where in that line, and the label concerned ("11 to 16 and 20 carry the label
-- concerned, and so does 14 from a correction"; else 0). It has no offset yet: reader, writer, correction and view each turn it into a place of their own.
-- A fault that a form finds in one line or entry by itself (Pieces) names no lines before it: the scanner knows where that piece stands.
pub record Fault : Type 0 where
  pub no : ℕ
  pub line : ℕ
  pub spot : Spot
  pub label : ℕ

-- "The place is the offset of the line's first byte"
abbrev pub at_line : ℕ → ℕ → ℕ → Fault
at_line n k l = record { no = n; line = k; spot = start; label = l }

-- "place is that byte"
abbrev pub at_byte : ℕ → ℕ → ℕ → Fault
at_byte n k i = record { no = n; line = k; spot = byte i; label = 0 }

-- of what a correction or an entry of a sheet is refused by for its content, 6 and 24 are placed at a byte of it; 27 is given by recoding alone
unfoldable pub tells_byte : ℕ → Bool
tells_byte n = eqb n bad_byte || eqb n high_byte

-- a rule: no fault if its test holds, else this one
abbrev pub ask : Bool → Fault → List Fault
ask true f = []
ask false f = f ∷ []

-- how many bytes after the line's first byte a spot is; `lead` bytes stand before the content
abbrev pub behind : ℕ → Spot → ℕ
behind lead start = 0
behind lead (byte i) = lead + i

-- ---- replies

-- "A refusal is a number, a place and a label"; or what was asked for.
pub data Reply (A : Type 0) : Type 0 where
  refused : Refusal → Reply A
  done : A → Reply A

-- a refusal stands; else what `k` makes of what was done
abbrev pub then_to : {A B : Type 0} → Reply A → (A → Reply B) → Reply B
then_to (refused r) k = refused r
then_to (done a) k = k a

-- "So the first fault in this order is the answer, and a refusal is given only for it": `place` turns lines before and spot into the place.
-- A test may rely on those that come before it in the list.
abbrev pub verdict : {A : Type 0} → (ℕ → Spot → ℕ) → List Fault → A → Reply A
verdict place [] a = done a
verdict place (x ∷ xs) a = refused (refusal x.no (place x.line x.spot) x.label)

-- 22, NoRoom: "output needs more than is lent; place: the need": done if the test says that there is room
abbrev pub with_room : {A : Type 0} → Bool → ℕ → A → Reply A
with_room true need a = done a
with_room false need a = refused (refusal no_room need 0)
