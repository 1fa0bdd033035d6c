-- `lookup`: each return by the law of the answer.
use mathlib.Core.Path.{ap, ◌∙◌, subst}
use Prim.Native.Nat.{ℕ, ◌≤◌, ◌<◌}
use lib.ListN.{length}
use Rattle.day_lookup.proofs.SearchLaws.{lookup-low, lookup-full, lookup-made}
use Rattle.day_lookup.proofs.lookup.Goals as goal
use Rattle.std.specs.Prelude.{Err}

pub returns-then-first_low-asked : goal.returns-then-first_low-asked
returns-then-first_low-asked c =
    let a = c.args in
    lookup-low a.file.now a.index.now a.asked.now a.out.now (subst (λ (n : ℕ). n < length a.asked.now) c.first_low.ensures c.if-first_low-asked.true)

pub returns-then-out-count : goal.returns-then-out-count
returns-then-out-count c =
    let a = c.args in
    let g = subst (λ (n : ℕ). length a.asked.now ≤ n) c.first_low.ensures c.if-first_low-asked.false in
    let r = lookup-full a.file.now a.index.now a.asked.now a.out.now g _ c.count_matches-count.ensures c.if-out-count.true in
    (ap Err c.at.ensures ∙ r.0, r.1)

pub returns : goal.returns
returns c =
    let a = c.args in
    let g = subst (λ (n : ℕ). length a.asked.now ≤ n) c.first_low.ensures c.if-first_low-asked.false in
    lookup-made a.file.now a.index.now a.asked.now a.out.now g _ c.count_matches-count.ensures c.if-out-count.false _ c.put_matches.ensures
