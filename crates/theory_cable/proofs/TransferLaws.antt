-- A transfer made of the calls' own answers, records and buffers is what `Carrying` says: so a set is carried whole (`transfer-carried`), and delivered means arrived
-- (`transfer-arrived`, `transfer-ends`).
use mathlib.Core.Path.{◌≡◌, refl, sym, ap, ◌∙◌, subst}
use mathlib.Core.Bool.{Bool, true, false, cond}
use mathlib.Core.List.{List, [], ◌∷◌}
use mathlib.Core.Logic.{◌⊎◌, inl, inr}
use Prim.Native.Nat.{ℕ, zero, suc, ◌-◌, ◌*◌, ◌≤◌, ◌<◌}
use native.Mathlib.Omega.{arith}
use lib.Dec.{eqb}
use lib.ListN.{length, take, replicate}
use lib.Seq.{take_at}
use borrow.Author.Tests.{eq-eqb, ne_eqb, eqb-true}
use Rattle.meaning.specs.Field.{Field}
use Rattle.meaning.specs.Refusals.{Reply, refused, done}
use Rattle.meaning.specs.Answers.{made, made_count, bytes_left}
use Rattle.meaning.specs.Pieces.{parsed}
use Rattle.meaning.specs.Reading.{read}
use Rattle.meaning_cable.specs.declared.Link.{Link}
use Rattle.meaning_cable.specs.declared.Action.{Action}
use Rattle.meaning_cable.specs.declared.Action.TheVariants.{Nothing, Send, Delivered, GivenUp}
use Rattle.meaning_cable.specs.Stream.{stream}
use Rattle.meaning_cable.specs.Blocks.{block_count, block, blocks_of}
use Rattle.meaning_cable.specs.Sending.{what_number}
use Rattle.meaning_cable.specs.Sending.{under_way, delivered, given_up, to_send, sends, end_of, Follows, taken, last_taken, again, afresh, over, ended, begun, turn_of}
use Rattle.meaning_cable.specs.Sending.{send}
use Rattle.meaning_cable.specs.Receiving.{is_whole, receive}
use Rattle.meaning_cable.specs.CableCalls.{send_call, asked}
use Rattle.meaning_cable.proofs.OneSetLaws.{set-alone}
use Rattle.meaning_cable.proofs.SendingLaws.{turn-follows}
use Rattle.meaning_cable.proofs.ReceivingLaws.{ack-told}
use Rattle.theory_cable.specs.Carrying.{Cable, bytes_or, begins, arrives, exchange, exchanges, Agree, Arrived, Fate, heard, unheard, changed, lost, got_by, hears, exchange_by}
use Rattle.theory_cable.specs.Carrying.{exchanges_by}
use Rattle.theory_cable.specs.Transfers.{Ends, on_line, leaves, sent_back, replies, step, steps, clean_steps, starts}
use Rattle.theory_cable.proofs.ArrivalLaws.{start_is}
use Rattle.theory_cable.proofs.CarryingLaws.{carried, carried-part, carried-told}
use Rattle.theory_cable.proofs.LossLaws.{delivered-arrived, arrived-or-given-up}
use Rattle.meaning_cable.specs.CableResults.{Sent}
use Rattle.std.specs.Prelude.{Ok}

-- both ends without the sender's last answer
abbrev pub cable_of : Ends → Cable
cable_of w = record { link = w.link; got = w.got }

-- ---- the sender's last answer is told by its record

abbrev action_of : Link → Action
action_of l = cond (eqb l.phase under_way) (sends l) (end_of l)

-- the last answer was this one
abbrev pub Told : Ends → Type 0
Told w = w.told ≡ Ok (record { link = w.link; action = action_of w.link })

row_told : {s : Link} {r : List ℕ} {t : Link} {x : Action} → Follows s r t x → x ≡ action_of t
unfolding end_of
row_told (taken p a h) = refl
row_told (last_taken p a h) = refl
row_told (again p a h) = refl
row_told (afresh p a h k) = refl
row_told (over p a h k) = refl
row_told {s} (ended p) = rw (ne_eqb s.phase under_way p)

-- a reply is answered so
reply-told : (l : Link) (r : List ℕ) → (send_call l false r).answer ≡ Ok (record { link = (send_call l false r).link; action = action_of (send_call l false r).link })
unfolding send
reply-told l r = ap (λ (x : Action). Ok (record { link = (turn_of l r).link; action = x })) (row_told (turn-follows l r))

-- it asks to send a block exactly if a set is under way
asks-so : (l : Link) → eqb (what_number (action_of l)) to_send ≡ eqb l.phase under_way
unfolding end_of
asks-so l = go (eqb l.phase under_way) refl
  where
    done-or : (a b : Bool) → eqb (what_number (cond a Delivered (cond b GivenUp Nothing))) to_send ≡ false
    done-or true b = refl
    done-or false true = refl
    done-or false false = refl

    go : (t : Bool) → eqb l.phase under_way ≡ t → eqb (what_number (cond (eqb l.phase under_way) (sends l) (end_of l))) to_send ≡ eqb l.phase under_way
    go true e = rw e
    go false e = rw e (done-or (eqb l.phase delivered) (eqb l.phase given_up))

-- the block that goes out is the one that the record names
line-is : (s out : List ℕ) (i c : ℕ) → on_line s out (Send i c) ≡ bytes_or (block s i c)
line-is s out i c = go (block s i c)
  where
    go : (r : Reply (List ℕ)) → take (made_count (made r)) (bytes_left r out) ≡ bytes_or r
    go (refused x) = refl
    go (done bs) = take_at bs (replicate (length out - length bs) 0) (length bs) refl

-- ---- one exchange

module _ (s out : List ℕ) (w : Ends) (t : Told w) where
  asked_is : asked w.told ≡ action_of w.link
  asked_is = ap asked t

  module _ (p : eqb w.link.phase under_way ≡ true) where
    sends-is : asked w.told ≡ sends w.link
    sends-is = asked_is ∙ rw p

    arrives-so : receive w.got.state w.got.buffer (on_line s out (asked w.told)) ≡ arrives s (cable_of w)
    unfolding arrives
    arrives-so =
        ap (λ (x : Action). receive w.got.state w.got.buffer (on_line s out x)) sends-is
        ∙ ap (receive w.got.state w.got.buffer) (line-is s out w.link.block w.link.count)

    leaves-is : (f : Fate) → leaves s out f w ≡ got_by s f (cable_of w)
    unfolding leaves got_by
    leaves-is heard = arrives-so
    leaves-is (unheard r q) = arrives-so
    leaves-is (changed bs r f q) = refl
    leaves-is (lost r q) = refl

    replies-is : (f : Fate) → replies s out f w ≡ hears s f (cable_of w)
    unfolding replies hears got_by
    replies-is heard = ap sent_back (leaves-is heard) ∙ ack-told (arrives s (cable_of w))
    replies-is (unheard r q) = refl
    replies-is (changed bs r f q) = refl
    replies-is (lost r q) = refl

  asks : eqb (what_number (asked w.told)) to_send ≡ eqb w.link.phase under_way
  asks = ap (λ (x : Action). eqb (what_number x) to_send) asked_is ∙ asks-so w.link

  abbrev moved : Fate → Ends
  moved f = record {
    link = (send_call w.link false (replies s out f w)).link;
    told = (send_call w.link false (replies s out f w)).answer;
    got = leaves s out f w;
  }

  step-goes : (f : Fate) → eqb w.link.phase under_way ≡ true → step s out f w ≡ moved f
  unfolding step
  step-goes f p = rw (asks ∙ p)

  step_stays : (f : Fate) → eqb w.link.phase under_way ≡ false → step s out f w ≡ w
  unfolding step
  step_stays f p = rw (asks ∙ p)

  moved-is : (f : Fate) → eqb w.link.phase under_way ≡ true → cable_of (moved f) ≡ exchange_by s f (cable_of w)
  unfolding exchange_by send
  moved-is f p = rw p (λ i. record { link = (turn_of w.link (replies-is p f i)).link; got = leaves-is p f i })

  stays-is : (f : Fate) → eqb w.link.phase under_way ≡ false → cable_of w ≡ exchange_by s f (cable_of w)
  unfolding exchange_by
  stays-is f p = rw p

  pub step_is : (f : Fate) → (cable_of (step s out f w) ≡ exchange_by s f (cable_of w)) × Told (step s out f w)
  step_is f = go (eqb w.link.phase under_way) refl
    where
      go : (b : Bool) → eqb w.link.phase under_way ≡ b → (cable_of (step s out f w) ≡ exchange_by s f (cable_of w)) × Told (step s out f w)
      go true p = (ap cable_of (step-goes f p) ∙ moved-is f p, subst Told (sym (step-goes f p)) (reply-told w.link (replies s out f w)))
      go false p = (ap cable_of (step_stays f p) ∙ stays-is f p, subst Told (sym (step_stays f p)) t)

-- any number of them
pub steps-are : (s out : List ℕ) (φ : List Fate) (w : Ends) → Told w → cable_of (steps s out φ w) ≡ exchanges_by s φ (cable_of w)
unfolding steps exchanges_by
steps-are s out [] w t = refl
steps-are s out (f ∷ φ) w t =
    let one = step_is s out w t f in
    steps-are s out φ (step s out f w) one.1 ∙ ap (exchanges_by s φ) one.0

-- the last answer is then told by the record, too
steps-told : (s out : List ℕ) (φ : List Fate) (w : Ends) → Told w → Told (steps s out φ w)
unfolding steps
steps-told s out [] w t = t
steps-told s out (f ∷ φ) w t = steps-told s out φ (step s out f w) (step_is s out w t f).1

-- one that is heard, while a set is under way
heard-is : (s : List ℕ) (c : Cable) → c.link.phase ≡ under_way → exchange_by s heard c ≡ exchange s c
unfolding exchange_by exchange hears got_by
heard-is s c p = rw (eq-eqb c.link.phase under_way p)

end-told : (l : Link) → l.phase ≡ delivered → (what_number (action_of l)) ≡ delivered
unfolding end_of
end-told l p = rw p

-- that answer is given for a delivered set alone
told-end : (l : Link) → (what_number (action_of l)) ≡ delivered → l.phase ≡ delivered
unfolding end_of
told-end l e = go (eqb l.phase under_way) (eqb l.phase delivered) (eqb l.phase given_up) refl e
  where
    go : (a b c : Bool) → eqb l.phase delivered ≡ b
        → (what_number (cond a (sends l) (cond b Delivered (cond c GivenUp Nothing)))) ≡ delivered → l.phase ≡ delivered
    go true b c q h = absurd (omega arith)
    go false true c q h = eqb-true l.phase delivered q
    go false false true q h = absurd (omega arith)
    go false false false q h = absurd (omega arith)

-- ---- from the start

module _ (s : List ℕ) (fs : List Field) (e : read s ≡ done (parsed fs [])) (w : Ends) (out : List ℕ) where
  start-told : Told (starts s w)
  unfolding starts send blocks_of begun
  start-told = rw (set-alone s fs e)

  start-cable : cable_of (starts s w) ≡ begins s (cable_of w)
  unfolding starts begins
  start-cable = refl

  all-steps : (φ : List Fate) → cable_of (steps s out φ (starts s w)) ≡ exchanges_by s φ (begins s (cable_of w))
  all-steps φ = steps-are s out φ (starts s w) start-told ∙ ap (exchanges_by s φ) start-cable

  module _ (agree : Agree w.link w.got.state) where
    -- "delivered means arrived", whatever is lost or visibly damaged, in any order: if the sender's answer is that the set is delivered, it has arrived
    pub transfer-arrived : (φ : List Fate) → (what_number (asked (steps s out φ (starts s w)).told)) ≡ delivered
        → Arrived s w.got.buffer (cable_of (steps s out φ (starts s w)))
    transfer-arrived φ h =
        let p = told-end (steps s out φ (starts s w)).link (sym (ap (λ (x : Sent). (what_number (asked x))) (steps-told s out φ (starts s w) start-told)) ∙ h) in
        subst (Arrived s w.got.buffer) (sym (all-steps φ))
        (delivered-arrived s fs e (cable_of w) agree φ (ap (λ (c : Cable). c.link.phase) (sym (all-steps φ)) ∙ p))

    -- and after four exchanges a block, at most, it has arrived or was given up
    pub transfer-ends : (φ : List Fate) → 4 * block_count (stream fs) ≤ length φ
        → Arrived s w.got.buffer (cable_of (steps s out φ (starts s w))) ⊎ ((steps s out φ (starts s w)).link.phase ≡ given_up)
    transfer-ends φ h = go (arrived-or-given-up s fs e (cable_of w) agree φ h)
      where
        go : Arrived s w.got.buffer (exchanges_by s φ (begins s (cable_of w))) ⊎ ((exchanges_by s φ (begins s (cable_of w))).link.phase ≡ given_up)
            → Arrived s w.got.buffer (cable_of (steps s out φ (starts s w))) ⊎ ((steps s out φ (starts s w)).link.phase ≡ given_up)
        go (inl a) = inl (subst (Arrived s w.got.buffer) (sym (all-steps φ)) a)
        go (inr p) = inr (ap (λ (c : Cable). c.link.phase) (all-steps φ) ∙ p)

  -- ---- a cable that loses and changes nothing, and a buffer with room for the set

  module _ (agree : Agree w.link w.got.state) (room : length s ≤ length w.got.buffer) where
    -- before the last block a set is under way
    runs-at : (i : ℕ) → i < block_count (stream fs) → (exchanges s i (begins s (cable_of w))).link.phase ≡ under_way
    unfolding exchanges
    runs-at zero h = ap (λ (c : Cable). c.link.phase) (start_is s fs e (cable_of w))
    runs-at (suc i) h = (carried-part s fs e (cable_of w) agree room (suc i) (omega arith) h).runs

    clean-are : (i : ℕ) → i ≤ block_count (stream fs)
        → (cable_of (clean_steps s out i (starts s w)) ≡ exchanges s i (begins s (cable_of w))) × Told (clean_steps s out i (starts s w))
    unfolding clean_steps exchanges
    clean-are zero h = (start-cable, start-told)
    clean-are (suc i) h =
        let before = clean-are i (omega arith) in
        let at = clean_steps s out i (starts s w) in
        let one = step_is s out at before.1 heard in
        (one.0 ∙ (ap (exchange_by s heard) before.0 ∙ heard-is s (exchanges s i (begins s (cable_of w))) (runs-at i (omega arith))), one.1)

    -- "the receiver ends with just the set's bytes and zeros after them", after one exchange a block; the sender's last answer is that the set is delivered, the receiver's that it is whole
    pub transfer-carried : Arrived s w.got.buffer (cable_of (clean_steps s out (block_count (stream fs)) (starts s w)))
        × ((what_number (asked (clean_steps s out (block_count (stream fs)) (starts s w)).told)) ≡ delivered)
        × ((clean_steps s out (block_count (stream fs)) (starts s w)).got.answer ≡ done is_whole)
    transfer-carried =
        let all = clean-are (block_count (stream fs)) (omega arith) in
        let here = carried s fs e (cable_of w) agree room in (
          subst (Arrived s w.got.buffer) (sym all.0) here,
          ap (λ (x : Sent). (what_number (asked x))) all.1 ∙ end-told _ (ap (λ (c : Cable). c.link.phase) all.0 ∙ here.was-delivered),
          ap (λ (c : Cable). c.got.answer) all.0 ∙ carried-told s fs e (cable_of w) agree room,
        )
