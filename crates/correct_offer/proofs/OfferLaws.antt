-- What the walks of specs/ mean for an accepted set: where a line stands, and which fault speaks first against a new content for it.
use mathlib.Core.Path.{◌≡◌, refl, sym, ap, ◌∙◌}
use mathlib.Core.Bool.{Bool, true, false, cond, not, ◌&&◌}
use mathlib.Core.List.{List, [], ◌∷◌, ◌++◌, cons≢nil, append_assoc}
use Prim.Native.Nat.{ℕ, zero, suc, pred, ◌+◌, ◌-◌, ◌≤◌, ◌<◌}
use native.Mathlib.Omega.{arith}
use native.Mathlib.Nat.{add-zero, zero-add}
use borrow.Author.Tests.{le-leb, ne_eqb, eqb-true, leb-true}
use lib.Dec.{leb, eqb}
use lib.ListN.{length, take, drop, get_or}
use lib.Seq.{drop-drop, take_all}
use Rattle.meaning.specs.Field.{Field, no_field, label_at_line, content_at_line}
use Rattle.meaning.specs.Refusals.{Spot, Fault, at_line, at_byte, tells_byte, ask, refused, done, refusal, verdict, bad_byte, bad_content, no_such_line, fixed_line, high_byte}
use Rattle.meaning.specs.Pieces.{Parsed}
use Rattle.meaning.specs.Lines.{line_lead, line_end, line_size, line_then, low_bytes, high_bytes, min_line_bytes, offset, render, size}
use Rattle.meaning.specs.FieldTable.{fits_label}
use Rattle.meaning.specs.Rules.{fits}
use Rattle.meaning.specs.Reading.{read}
use Rattle.meaning.specs.Corrections.{fixed, line_number_faults, seven_bit_faults, change_faults}
use Rattle.meaning.proofs.Bools.{and_left, and_right, Every, every-at}
use Rattle.meaning.proofs.FaultLaws.{one-back}
use Rattle.meaning.proofs.LineLaws.{Sound, length-render}
use Rattle.meaning.proofs.PlaceLaws.{drop-line_then, content-at}
use Rattle.meaning.proofs.SetLaws.{accepted}
use Rattle.meaning.proofs.CorrectionLaws.{Change, change}
use Rattle.byte_low.specs.Low.{first_low}
use Rattle.byte_low.proofs.LowLaws.{low-is}
use Rattle.byte_high.specs.High.{first_high}
use Rattle.line_read.specs.Told.{told_length, told_label}
use Rattle.line_read.proofs.LineMeaning.{read-line}
use Rattle.line_read.proofs.ToldLaws.{read_told}
use Rattle.correct_offer.specs.declared.OneLine.{OneLine}
use Rattle.correct_offer.specs.declared.Terms.{Terms}
use Rattle.correct_offer.specs.Offered.{one_line, line_from, line_after, against, after_all, offered_to, offered_at, offered_high, offered, Offer, offer_line, offer_spot, offer_faults}
use Rattle.correct_offer.proofs.TermsLaws.{highs-first, Serves, terms-ask}

-- ---- where a line stands

-- a line that is written gives its label and the length of its content
written-told : (s : List ℕ) (at : ℕ) (f : Field) (t : List ℕ) → drop at s ≡ line_then f t → Sound f → (told_length s at ≡ length f.content) × (told_label s at ≡ f.label)
written-told s at f t w h =
    let r = read_told s at (read-line s at f t w h) in
    (r.0 ∙ omega arith, r.1)

-- the line after k of the lines fs, which are written from offset `at` on
line-from-is : (s : List ℕ) (fs : List Field) (t : List ℕ) (at k : ℕ) → Every Sound fs → drop at s ≡ render fs t → k < length fs
    → line_from s at k ≡ one_line (label_at_line fs k) (at + offset fs k) (line_size (get_or fs k no_field))
unfolding line_from
line-from-is s [] t at k h w l = absurd (omega arith)
line-from-is s (f ∷ fs) t at zero h w l = let r = written-told s at f (render fs t) w h.0 in rw (r.0, r.1, add-zero at)
line-from-is s (f ∷ fs) t at (suc k) h w l =
    let r = written-told s at f (render fs t) w h.0 in
    let on : drop (at + line_size f) s ≡ render fs t =
    sym (drop-drop (line_size f) at s) ∙ (ap (drop (line_size f)) w ∙ drop-line_then f (render fs t)) in
    let q : (at + line_size f) + offset fs k ≡ at + (line_size f + offset fs k) = omega arith in
    rw (r.0, ne_eqb (length f.content) 0 (λ z. omega (arith, h.0.some_byte))) (line-from-is s fs t (at + line_size f) k h.1 on (omega arith) ∙ rw q)

-- a line lies within the lines
line-within : (fs : List Field) (k : ℕ) → k < length fs → offset fs k + line_size (get_or fs k no_field) ≤ size fs
line-within [] k l = absurd (omega arith)
line-within (f ∷ fs) zero l = omega arith
line-within (f ∷ fs) (suc k) l = omega (arith, line-within fs k (omega arith))

-- the line of the set s with the lines fs that k lines stand before
pub record Stands (s : List ℕ) (fs : List Field) (k : ℕ) (label at n : ℕ) : Type 0 where
  pub label-so : label ≡ label_at_line fs k
  pub at-so : at ≡ offset fs k
  pub size-so : n ≡ line_size (get_or fs k no_field)
  pub least : min_line_bytes ≤ n
  pub within : at + n ≤ length s
  pub content-so : take (n - (line_lead + line_end)) (drop (at + line_lead) s) ≡ content_at_line fs k
  pub content-length : n - (line_lead + line_end) ≡ length (content_at_line fs k)

module _ (s : List ℕ) (d : Parsed) (k : ℕ) (e : read s ≡ done d) (h : k < length d.fields) where
  line-after-is : line_after s k ≡ one_line (label_at_line d.fields k) (offset d.fields k) (line_size (get_or d.fields k no_field))
  unfolding line_after
  line-after-is =
      let a = accepted s d e in
      line-from-is s d.fields d.rest 0 k a.standing.sound a.bytes h ∙ rw (zero-add (offset d.fields k))

  stands-there : Stands s d.fields k (label_at_line d.fields k) (offset d.fields k) (line_size (get_or d.fields k no_field))
  stands-there =
      let a = accepted s d e in
      let f = every-at Sound d.fields k no_field h a.standing.sound in
      let n : line_size (get_or d.fields k no_field) - 9 ≡ length (content_at_line d.fields k) = omega arith in
      let w = line-within d.fields k h in
      record {
        label-so = refl;
        at-so = refl;
        size-so = refl;
        least = omega (arith, f.some_byte);
        within = omega (arith, w, ap length a.bytes, length-render d.fields d.rest);
        content-so =
            rw n (ap (λ (x : List ℕ). take (length (content_at_line d.fields k)) (drop (offset d.fields k + line_lead) x)) a.bytes
            ∙ content-at d.fields k d.rest h);
        content-length = n;
      }

  pub line-stands : let x = line_after s k in Stands s d.fields k x.label x.at x.size
  line-stands = rw line-after-is stands-there

-- ---- the first fault of a change

-- 20, 6, 14, if the line is there
to_is : (x : OneLine) (c : List ℕ) (lines n : ℕ)
    → take 1 (ask (not (fixed x.label)) (at_line fixed_line (pred n) x.label)
    ++ (low_bytes (pred n) 0 c ++ ask (fits_label x.label c) (at_line bad_content (pred n) x.label)))
    ≡ offer_faults (offered_to x c) lines n
unfolding offer_faults offered_to tells_byte
to_is x c lines n = go (fixed x.label)
  where
    k : ℕ
    k = pred n

    low : ℕ
    low = first_low c 0 (length c)

    bad : Bool → List Fault
    bad f = ask f (at_line bad_content k x.label)

    rest : (f : Bool) → take 1 (low_bytes k 0 c ++ bad f) ≡ cond (leb (length c) low) (take 1 (bad f)) (at_byte bad_byte k low ∷ [])
    rest f =
        sym (rw (take_all (length c) c (omega arith), zero-add (length c)) at
        (low-is (λ xs. take 1 (xs ++ bad f)) (λ i. at_byte bad_byte k i ∷ []) k 0 (λ i xs. rw (zero-add i)) c (length c) 0 0 refl (omega arith)))

    judged : (b f : Bool) → cond b (take 1 (bad f)) (at_byte bad_byte k low ∷ [])
        ≡ offer_faults (cond b (cond f (against 0 0 0 x) (against bad_content 0 x.label x)) (against bad_byte low 0 x)) lines n
    judged true true = refl
    judged true false = refl
    judged false f = refl

    go : (a : Bool) → take 1 (ask (not a) (at_line fixed_line k x.label) ++ (low_bytes k 0 c ++ bad (fits_label x.label c)))
        ≡ offer_faults (cond a (against fixed_line 0 x.label x)
        (cond (leb (length c) low) (cond (fits_label x.label c) (against 0 0 0 x) (against bad_content 0 x.label x)) (against bad_byte low 0 x))) lines n
    go true = refl
    go false = rest (fits_label x.label c) ∙ judged (leb (length c) low) (fits_label x.label c)

-- 19, 20, 6, 14: what is wrong with a content, but for 24
abbrev before_high : List Field → ℕ → List ℕ → List Fault
before_high fs n c =
    line_number_faults fs n
    ++ (ask (not (fixed (label_at_line fs (pred n)))) (at_line fixed_line (pred n) (label_at_line fs (pred n)))
    ++ (low_bytes (pred n) 0 c
    ++ ask (fits_label (label_at_line fs (pred n)) c) (at_line bad_content (pred n) (label_at_line fs (pred n)))))

at-is : (s : List ℕ) (d : Parsed) (n : ℕ) (c : List ℕ) → read s ≡ done d
    → take 1 (before_high d.fields n c) ≡ offer_faults (offered_at s (size d.fields) (length d.fields) n c) (length d.fields) n
unfolding offered_at offer_faults tells_byte
at-is s d n c e = go (leb 1 n && leb n (length fs)) refl
  where
    fs : List Field
    fs = d.fields

    more : List Fault
    more = ask (not (fixed (label_at_line fs (pred n)))) (at_line fixed_line (pred n) (label_at_line fs (pred n)))
        ++ (low_bytes (pred n) 0 c ++ ask (fits_label (label_at_line fs (pred n)) c) (at_line bad_content (pred n) (label_at_line fs (pred n))))

    go : (b : Bool) → leb 1 n && leb n (length fs) ≡ b
        → take 1 (ask b (at_line no_such_line (length fs) 0) ++ more)
        ≡ offer_faults (cond b (offered_to (line_after s (pred n)) c) (against no_such_line 0 0 (after_all (size fs)))) (length fs) n
    go true q =
        let lo : 1 ≤ n = leb-true 1 n (and_left (leb 1 n) _ q) in
        let hi : n ≤ length fs = leb-true n (length fs) (and_right (leb 1 n) _ q) in
        rw (line-after-is s d (pred n) e (omega arith)) (to_is (one_line (label_at_line fs (pred n)) (offset fs (pred n)) (line_size (get_or fs (pred n) no_field))) c (length fs) n)
    go false q = refl

-- 24 is asked after them
change-is : (fs : List Field) (n : ℕ) (c : List ℕ) → change_faults fs n c ≡ before_high fs n c ++ seven_bit_faults fs (pred n) c
unfolding change_faults fits
change-is fs n c =
    let k : ℕ = pred n in
    let l : ℕ = label_at_line fs k in
    four (line_number_faults fs n) (ask (not (fixed l)) (at_line fixed_line k l)) (low_bytes k 0 c) (ask (fits_label l c) (at_line bad_content k l)) (seven_bit_faults fs k c)
  where
    four : (x y z u v : List Fault) → x ++ (y ++ (z ++ (u ++ v))) ≡ (x ++ (y ++ (z ++ u))) ++ v
    four x y z u v = rw (append_assoc x (y ++ (z ++ u)) v, append_assoc y (z ++ u) v, append_assoc z u v)

-- what was found before it stands; else the first byte over 7Fh
then-high : (o : Offer) (xs : List Fault) (c : List ℕ) (seven : Bool) (lines n : ℕ) → take 1 xs ≡ offer_faults o lines n
    → take 1 (xs ++ cond seven (high_bytes (pred n) 0 c) []) ≡ offer_faults (offered_high o c seven) lines n
unfolding offer_faults offered_high tells_byte
then-high o xs c seven lines n = go (eqb o.no 0) refl xs
  where
    high : ℕ
    high = first_high c 0 (length c)

    told : Offer
    told = against high_byte high 0 o.line

    asked : (a b : Bool) → eqb o.no 0 ≡ true → take 1 (high_bytes (pred n) 0 c) ≡ cond b [] (at_byte high_byte (pred n) high ∷ [])
        → take 1 (cond a (high_bytes (pred n) 0 c) []) ≡ offer_faults (cond a (cond b o told) o) lines n
    asked false b z e = rw z
    asked true true z e = rw z e
    asked true false z e = e

    go : (b : Bool) → eqb o.no 0 ≡ b → (ys : List Fault)
        → take 1 ys ≡ cond b [] (record { no = o.no; line = offer_line o lines n; spot = offer_spot o; label = o.label } ∷ [])
        → take 1 (ys ++ cond seven (high_bytes (pred n) 0 c) []) ≡ offer_faults (cond b (cond seven (cond (leb (length c) high) o told) o) o) lines n
    go true z [] e = asked seven (leb (length c) high) z (highs-first (pred n) c)
    go true z (y ∷ ys) e = absurd (cons≢nil e)
    go false z [] e = absurd (cons≢nil (sym e))
    go false z (y ∷ ys) e = rw z e

-- What an offer answers is the first fault of a change to that line, if its terms serve.
pub offer-is : (s : List ℕ) (d : Parsed) (t : Terms) (n : ℕ) (c : List ℕ) → read s ≡ done d → Serves d.fields t c
    → take 1 (change_faults d.fields n c) ≡ offer_faults (offered s t n c) (length d.fields) n
unfolding offered
offer-is s d t n c e v =
    let fs : List Field = d.fields in
    rw (change-is fs n c, terms-ask fs t c (pred n) v, v.length-so, v.lines-so)
    (then-high (offered_at s (size fs) (length fs) n c) (before_high fs n c) c t.seven (length fs) n (at-is s d n c e))

first-verdict : {A : Type 0} (pl : ℕ → Spot → ℕ) (xs : List Fault) (a : A) → verdict pl xs a ≡ verdict pl (take 1 xs) a
first-verdict pl [] a = refl
first-verdict pl (x ∷ xs) a = refl

-- so the reply of any places is that of the offer
pub offer-verdict : {A : Type 0} (s : List ℕ) (d : Parsed) (t : Terms) (n : ℕ) (c : List ℕ) → read s ≡ done d → Serves d.fields t c → (pl : ℕ → Spot → ℕ) (a : A)
    → let o = offered s t n c in
    verdict pl (change_faults d.fields n c) a
    ≡ cond (eqb o.no 0) (done a) (refused (refusal o.no (pl (offer_line o (length d.fields) n) (offer_spot o)) o.label))
unfolding offer_faults
offer-verdict {A} s d t n c e v pl a = first-verdict pl (change_faults d.fields n c) a ∙ (ap (λ (xs : List Fault). verdict pl xs a) (offer-is s d t n c e v) ∙ go (eqb o.no 0))
  where
    o : Offer
    o = offered s t n c

    x : Fault
    x = record { no = o.no; line = offer_line o (length d.fields) n; spot = offer_spot o; label = o.label }

    go : (b : Bool) → verdict pl (cond b [] (x ∷ [])) a ≡ cond b (done a) (refused (refusal x.no (pl x.line x.spot) x.label))
    go true = refl
    go false = refl

-- ---- an offer that nothing speaks against

-- whatever speaks against a content, the line is the same, and it is not 19
record SameLine (x : OneLine) (o : Offer) : Type 0 where
  same_line : o.line ≡ x
  there : eqb o.no no_such_line ≡ false

to_same : (x : OneLine) (c : List ℕ) → SameLine x (offered_to x c)
unfolding offered_to
to_same x c = go (fixed x.label) (leb (length c) (first_low c 0 (length c))) (fits_label x.label c)
  where
    go : (a b f : Bool)
        → SameLine x (cond a (against fixed_line 0 x.label x)
        (cond b (cond f (against 0 0 0 x) (against bad_content 0 x.label x)) (against bad_byte (first_low c 0 (length c)) 0 x)))
    go true b f = record { same_line = refl; there = refl }
    go false false f = record { same_line = refl; there = refl }
    go false true true = record { same_line = refl; there = refl }
    go false true false = record { same_line = refl; there = refl }

-- 24 too speaks of the line that was found
high_same : (o : Offer) (c : List ℕ) (seven : Bool) (lines n : ℕ) → let p = offered_high o c seven in
    (p.line ≡ o.line) × (offer_line p lines n ≡ offer_line o lines n)
unfolding offered_high
high_same o c seven lines n = go (eqb o.no 0) seven (leb (length c) high) (λ z. eqb-true o.no 0 z)
  where
    high : ℕ
    high = first_high c 0 (length c)

    go : (a s b : Bool) → (a ≡ true → o.no ≡ 0) → let p = cond a (cond s (cond b o (against high_byte high 0 o.line)) o) o in
        (p.line ≡ o.line) × (offer_line p lines n ≡ offer_line o lines n)
    go false s b z = (refl, refl)
    go true false b z = (refl, refl)
    go true true true z = (refl, refl)
    go true true false z = (refl, rw (z refl))

no-faults : (o : Offer) (lines n : ℕ) → o.no ≡ 0 → offer_faults o lines n ≡ []
unfolding offer_faults
no-faults o lines n e = rw e

to-line : (s : List ℕ) (bytes lines n : ℕ) (c : List ℕ) → 1 ≤ n → n ≤ lines → offered_at s bytes lines n c ≡ offered_to (line_after s (pred n)) c
unfolding offered_at
to-line s bytes lines n c lo hi = rw (le-leb 1 n lo, le-leb n lines hi)

-- if nothing speaks against the content, the change is right, and the offer has the line
pub offer-good : (s : List ℕ) (d : Parsed) (t : Terms) (n : ℕ) (c : List ℕ) → read s ≡ done d → Serves d.fields t c → let o = offered s t n c in
    o.no ≡ 0 → Change d.fields n c × Stands s d.fields (pred n) o.line.label o.line.at o.line.size
unfolding offered
offer-good s d t n c e v q =
    let fs : List Field = d.fields in
    let x : OneLine = line_after s (pred n) in
    let ch : Change fs n c = change fs n c (one-back (change_faults fs n c) (offer-is s d t n c e v ∙ no-faults (offered s t n c) (length fs) n q)) in
    let st = line-stands s d (pred n) e (omega (arith, ch.least, ch.most)) in
    let kept = high_same (offered_at s t.length t.lines n c) c t.seven (length fs) n in
    (ch, rw (kept.0, to-line s t.length t.lines n c ch.least (omega (arith, ch.most, v.lines-so)), (to_same x c).same_line) st)

-- for 19 the place is the set's length, else where the line stands
at_place : (s : List ℕ) (d : Parsed) (n : ℕ) (c : List ℕ) → read s ≡ done d → let o = offered_at s (size d.fields) (length d.fields) n c in
    o.line.at ≡ offset d.fields (offer_line o (length d.fields) n)
unfolding offered_at
at_place s d n c e = go (leb 1 n && leb n (length fs)) refl
  where
    fs : List Field
    fs = d.fields

    x : OneLine
    x = line_after s (pred n)

    go : (b : Bool) → leb 1 n && leb n (length fs) ≡ b
        → let o = cond b (offered_to x c) (against no_such_line 0 0 (after_all (size fs))) in o.line.at ≡ offset fs (offer_line o (length fs) n)
    go true q =
        let lo : 1 ≤ n = leb-true 1 n (and_left (leb 1 n) _ q) in
        let hi : n ≤ length fs = leb-true n (length fs) (and_right (leb 1 n) _ q) in
        let same = to_same x c in
        rw (same.same_line, same.there) (line-stands s d (pred n) e (omega arith)).at-so
    go false q = ap size (sym (take_all (length fs) fs (omega arith)))

pub offer-at : (s : List ℕ) (d : Parsed) (t : Terms) (n : ℕ) (c : List ℕ) → read s ≡ done d → Serves d.fields t c → let o = offered s t n c in
    o.line.at ≡ offset d.fields (offer_line o (length d.fields) n)
unfolding offered
offer-at s d t n c e v =
    let fs : List Field = d.fields in
    let kept = high_same (offered_at s (size fs) (length fs) n c) c t.seven (length fs) n in
    rw (v.length-so, v.lines-so, kept.0, kept.1) (at_place s d n c e)
