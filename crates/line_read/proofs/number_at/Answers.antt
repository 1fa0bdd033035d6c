use mathlib.Core.Path.{sym, ◌∙◌}
use native.Mathlib.Nat.{one-le-pow}
use native.Mathlib.Omega.{arith}
use lib.Dec.{lit<}
use Rattle.line_read.proofs.LineWalkLaws.{number-long, number_cut, digits-small, digits-grow}
use Rattle.line_read.proofs.WrittenNumberLaws.{written-wrong, written-further, written-end, written-all}
use Rattle.line_read.proofs.number_at.Goals as goal

pub returns-then-k-gt-MOST_DIGITS : goal.returns-then-k-gt-MOST_DIGITS
returns-then-k-gt-MOST_DIGITS c = sym (number-long _ _ _ (omega arith))

pub returns-in_default : goal.returns-in_default
returns-in_default c = sym (number_cut _ _ _ (omega arith) (omega (arith, c.in_default.ensures.lookup)))

pub returns-in_default-get : goal.returns-in_default-get
returns-in_default-get c = sym (number_cut _ _ _ (omega arith) (omega (arith, c.in-Some.ensures.lookup, c.in_default-get.ensures.lookup)))

pub loop-b-init : goal.loop-b-init
loop-b-init c =
    let e = c.in-Some.ensures.lookup in
    let f = c.in-Some-get.ensures.lookup in
    (omega (arith, f), one-le-pow 0 10 (lit< tt), written-all _ _ _ _ _ (omega arith) (omega (arith, e)) e.0.2 (omega (arith, f)) f.0.2)

pub returns-then-not-is_ascii_digit : goal.returns-then-not-is_ascii_digit
returns-then-not-is_ascii_digit c =
    let l = c.loop-b in
    sym (written-wrong c.in-Some-get.bytes.now l.number l.b-index (omega arith) (sym c.is_ascii_digit.ensures.value ∙ c.if-not-is_ascii_digit.true)) ∙ l.invariant.2

pub overflow_mul-number : goal.overflow_mul-number
overflow_mul-number c = omega (arith, digits-small (omega arith) c.loop-b.invariant.1)

pub overflow_add-number : goal.overflow_add-number
overflow_add-number c = omega (arith, digits-small (omega arith) c.loop-b.invariant.1)

pub loop-b-preserved : goal.loop-b-preserved
loop-b-preserved c =
    let l = c.loop-b in
    let e = sym (written-further c.in-Some-get.bytes.now l.number l.b-index (omega arith) (sym c.is_ascii_digit.ensures.value ∙ c.if-not-is_ascii_digit.false)) ∙ l.invariant.2 in
    (l.invariant.0, digits-grow _ _ _ l.invariant.1 (omega (arith, c.from.ensures, c.if-not-is_ascii_digit.ensures.cases)), rw c.from.ensures e)

pub returns : goal.returns
returns c = sym (written-end c.in-Some-get.bytes.now c.loop-b.number c.loop-b.b-index (omega arith)) ∙ c.loop-b.invariant.2
