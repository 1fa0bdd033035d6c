-- `hex_digit`: a digit or a letter.
use native.Mathlib.Omega.{arith}
use borrow.Author.Tests.{le-leb, lt-leb}
use Rattle.cable_frame.proofs.hex_digit.Goals as goal

pub returns-then-d-lt-HEX_TENS : goal.returns-then-d-lt-HEX_TENS
returns-then-d-lt-HEX_TENS c = rw (le-leb c.args.d 9 (omega (arith, c.if-d-lt-HEX_TENS.true)))

pub returns : goal.returns
returns c = rw (lt-leb c.args.d 9 (omega (arith, c.if-d-lt-HEX_TENS.false)))
