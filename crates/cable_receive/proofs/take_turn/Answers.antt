-- `take_turn`: each return by its row of the table.
use mathlib.Core.Path.{refl, sym, ◌∙◌}
use borrow.Author.Tests.{eqb-true, eqb-false}
use Rattle.cable_receive.proofs.TurnLaws.{shown, told, zero-other, zero-afresh, fresh-other, last-again, other-count, next-turn}
use Rattle.cable_receive.proofs.take_turn.Goals as goal

pub returns-then-not-starts_set : goal.returns-then-not-starts_set
returns-then-not-starts_set c =
    let a = c.args in
    let zero = sym c.count-count.ensures ∙ c.if-count-eq0.true in
    let other = eqb-false _ 0 (sym c.starts_set.ensures ∙ c.if-not-starts_set.true) in
    told a.receiver a.buffer.now _ _ _ (zero-other a.receiver a.buffer.now _ _ _ zero other) c.at.ensures

pub returns-then-count-eq0 : goal.returns-then-count-eq0
returns-then-count-eq0 c =
    let a = c.args in
    let zero = sym c.count-count.ensures ∙ c.if-count-eq0.true in
    let first = eqb-true _ 0 (sym c.starts_set.ensures ∙ c.if-not-starts_set.false) in
    shown _ _ _ _ (zero-afresh a.receiver a.buffer.now _ _ _ zero first) c.put_at.ensures

pub returns-then-receiver-eq0 : goal.returns-then-receiver-eq0
returns-then-receiver-eq0 c =
    let a = c.args in
    told a.receiver a.buffer.now _ _ _ (fresh-other a.receiver a.buffer.now _ _ _ (λ z. c.if-count-eq0.false (c.count-count.ensures ∙ z)) c.if-receiver-eq0.true) c.at-then-receiver-eq0.ensures

pub returns-then-repeated : goal.returns-then-repeated
returns-then-repeated c =
    let a = c.args in
    let row = last-again a.receiver a.buffer.now _ _ _ (λ z. c.if-count-eq0.false (c.count-count.ensures ∙ z)) c.if-receiver-eq0.false
    (sym c.count-count.ensures ∙ c.if-repeated.true) in
    shown _ _ _ _ row (refl, refl)

pub returns-then-not-follows : goal.returns-then-not-follows
returns-then-not-follows c =
    let a = c.args in
    let row = other-count a.receiver a.buffer.now _ _ _ (λ z. c.if-count-eq0.false (c.count-count.ensures ∙ z)) c.if-receiver-eq0.false
    (λ e. c.if-repeated.false (c.count-count.ensures ∙ e)) _ c.next_count-next.ensures (λ e. c.if-not-follows.true (c.count-count.ensures ∙ e)) in
    told a.receiver a.buffer.now _ _ _ row c.at-then-not-follows.ensures

pub returns : goal.returns
returns c =
    let a = c.args in
    let row = next-turn a.receiver a.buffer.now _ _ _ (λ z. c.if-count-eq0.false (c.count-count.ensures ∙ z)) c.if-receiver-eq0.false
    (λ e. c.if-repeated.false (c.count-count.ensures ∙ e)) _ c.next_count-next.ensures (sym c.count-count.ensures ∙ c.if-not-follows.false) in
    shown _ _ _ _ row c.in_turn.ensures
