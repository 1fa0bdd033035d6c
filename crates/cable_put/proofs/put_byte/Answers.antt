-- `put_byte`: the end of a line, or the byte itself.
use mathlib.Core.Path.{sym, ap, ◌∙◌}
use mathlib.Core.List.{List}
use Prim.Native.Nat.{ℕ}
use native.Mathlib.Omega.{arith}
use lib.ListN.{length}
use Rattle.byte_put.specs.Places.{over}
use Rattle.cable_put.proofs.RestoreLaws.{alone-end, alone-self, self-put}
use Rattle.cable_put.proofs.put_byte.Goals as goal

pub put_end-requires : goal.put_end-requires
put_end-requires c =
    omega (arith, ap length (alone-end c.args.b c.if-b-eq-SEPARATOR.true))

pub returns-then-b-eq-SEPARATOR : goal.returns-then-b-eq-SEPARATOR
returns-then-b-eq-SEPARATOR c =
    let a = c.args in
    let e = sym (alone-end a.b c.if-b-eq-SEPARATOR.true) in
    (omega (arith, ap length e), c.put_end.ensures ∙ ap (λ (u : List ℕ). over a.to u a.out.now) e)

pub bounds-out-to : goal.bounds-out-to
bounds-out-to c =
    omega (arith, ap length (alone-self c.args.b c.if-b-eq-SEPARATOR.false))

pub returns : goal.returns
returns c =
    let a = c.args in
    let e = sym (alone-self a.b c.if-b-eq-SEPARATOR.false) in
    (omega (arith, ap length e), self-put a.out.now a.to a.b (omega (arith, ap length e)) ∙ ap (λ (u : List ℕ). over a.to u a.out.now) e)
