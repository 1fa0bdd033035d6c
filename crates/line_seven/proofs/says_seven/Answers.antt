-- `says_seven`: by where the first 9206 content stands.
use Rattle.line_seven.proofs.SevenWalkLaws.{says_none, says-cut, says-digit}
use Rattle.line_seven.proofs.says_seven.Goals as goal

pub returns-then-place-eq0 : goal.returns-then-place-eq0
returns-then-place-eq0 c = says_none _ _ c.first_place-place.ensures.0 c.if-place-eq0.true

pub returns-then-set-place : goal.returns-then-set-place
returns-then-set-place c =
    says-cut _ _ c.first_place-place.ensures.0 c.if-place-eq0.false c.if-set-place.true

pub returns : goal.returns
returns c =
    says-digit _ _ c.first_place-place.ensures.0 c.if-place-eq0.false
