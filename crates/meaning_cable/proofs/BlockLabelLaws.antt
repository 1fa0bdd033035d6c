-- Labels compared as values, and by their last digits.
use mathlib.Core.Path.{◌≡◌, refl, sym, ap, ◌∙◌}
use mathlib.Core.Bool.{Bool, true, false, not}
use mathlib.Core.Logic.{◌≢◌}
use lib.Dec.{eqb}
use borrow.Author.Tests.{eqb-true, eqb-false}
use denote.Enum.Bare.{sameb}
use Rattle.meaning_cable.specs.contracts.BlockLabel.{the_type}
use Rattle.meaning_cable.specs.declared.BlockLabel.{BlockLabel}
use Rattle.meaning_cable.specs.declared.BlockLabel.TheVariants.{B00, B01, B02}
use Rattle.meaning_cable.specs.Blocks.{b00, b02, label_digit}

pub first-told : (l : BlockLabel) → sameb the_type l B00 ≡ eqb (label_digit l) b00
first-told B00 = refl
first-told B01 = refl
first-told B02 = refl

last-told : (l : BlockLabel) → sameb the_type l B02 ≡ eqb (label_digit l) b02
last-told B00 = refl
last-told B01 = refl
last-told B02 = refl

not-not : (t : Bool) → not (not t) ≡ t
not-not true = refl
not-not false = refl

-- what `==` says of a label
module _ (l : BlockLabel) where
  pub is-last : true ≡ sameb the_type l B02 → label_digit l ≡ b02
  is-last e = eqb-true (label_digit l) b02 (sym (e ∙ last-told l))

  pub not-last : false ≡ sameb the_type l B02 → label_digit l ≢ b02
  not-last e = eqb-false (label_digit l) b02 (sym (e ∙ last-told l))

  -- and `!=`
  pub same-last : false ≡ not (sameb the_type l B02) → label_digit l ≡ b02
  same-last e = is-last (ap not e ∙ not-not (sameb the_type l B02))

  pub other-last : true ≡ not (sameb the_type l B02) → label_digit l ≢ b02
  other-last e = not-last (ap not e ∙ not-not (sameb the_type l B02))
