-- What each `return` of `list` and its parts has to show; then what the walk over an accepted set gives: the entries of its list, and how many bytes they have.
use mathlib.Core.Path.{◌≡◌, refl, sym, ap, ap₂, ◌∙◌, subst}
use mathlib.Core.Bool.{Bool}
use mathlib.Core.List.{List, [], ◌∷◌, ◌++◌, append_assoc, cons≢nil}
use Prim.Native.Nat.{ℕ, ◌+◌, ◌-◌, ◌*◌, ◌≤◌, ◌<◌}
use native.Mathlib.Omega.{arith}
use lib.Dec.{leb}
use lib.ListN.{length, take, drop, set, replicate, length-append, length-take}
use lib.Seq.{drop-drop}
use borrow.Author.Tests.{le-leb, lt-leb, eq-eqb, ne_eqb}
use borrow.Rule.Slice.PartMut.{mid_of, put_mid}
use Rattle.meaning.specs.declared.Refusal.{Refusal}
use Rattle.meaning.specs.declared.Shape.{Shape}
use Rattle.meaning.specs.Limits.{max_lines}
use Rattle.meaning.specs.Field.{Field, field}
use Rattle.meaning.specs.Refusals.{Reply, refused, done, then_to, with_room, refusal, no_room}
use Rattle.meaning.specs.Pieces.{Parsed, put_all}
use Rattle.meaning.specs.Lines.{line_size, size, render}
use Rattle.meaning.specs.Entries.{two_bytes, entry_lead, entry_then, entry_form, list_size}
use Rattle.meaning.specs.Rules.{start_faults}
use Rattle.meaning.specs.Reading.{read, judged, judge}
use Rattle.meaning.specs.Lists.{without_sum, list}
use Rattle.meaning.specs.Answers.{made, bytes_left, list_call}
use Rattle.meaning.proofs.Bools.{Every}
use Rattle.meaning.proofs.DigitLaws.{length-digits}
use Rattle.meaning.proofs.LineLaws.{Sound}
use Rattle.meaning.proofs.EntryLaws.{length-entries, lines-over-entries}
use Rattle.meaning.proofs.RuleLaws.{ruled, begins-of}
use Rattle.meaning.proofs.SetLaws.{Standing, accepted, sum_back}
use Rattle.meaning.proofs.Demands.{judge-read}
use Rattle.line_read.specs.Line.{line_at, line_content, a_line}
use Rattle.line_read.specs.Told.{told_length, told_label}
use Rattle.line_read.proofs.LineMeaning.{read-line, read_back, reads-content, reads_on}
use Rattle.line_read.proofs.ToldLaws.{read_told}
use Rattle.byte_put.specs.Places.{over}
use Rattle.byte_put.proofs.LendLaws.{mid-tail, put-tail}
use Rattle.byte_put.proofs.OverLaws.{over_none, Turned, here-fits, turned, over-lent, front-then-zeros}
use Rattle.list.specs.Listing.{AllRead, line_entry, listed_from}
use Rattle.meaning.proofs.LeftLaws.{one-more, none_left}
use Rattle.std.specs.Prelude.{Err, Ok}

-- ---- one entry

-- a number in two bytes, stored byte by byte
pub two-put : (b : List ℕ) (x y : ℕ) → 2 ≤ length b → set (set b 0 x) 1 y ≡ x ∷ y ∷ drop 2 b
two-put [] x y h = absurd (omega arith)
two-put (a ∷ []) x y h = absurd (omega arith)
two-put (a ∷ c ∷ b) x y h = refl

-- an entry and what follows it
pub entry-then : (f : Field) (t : List ℕ) → entry_then f [] ++ t ≡ entry_then f t
entry-then f t = ap (λ (u : List ℕ). two_bytes (length f.content) (two_bytes f.label u)) (append_assoc f.content [] t)

pub length-entry : (f : Field) → length (entry_then f []) ≡ length f.content + entry_lead
length-entry f = omega (arith, length-append f.content [])

-- the length, the label in the part after it, the content in the part after that
pub entry-put : (b b₁ y₂ y₃ c : List ℕ) (l : ℕ) → length c + entry_lead ≤ length b
    → b₁ ≡ two_bytes (length c) (drop 2 b)
    → y₂ ≡ two_bytes l (drop 2 (mid_of 2 (length b₁ - 2) b₁))
    → let b₂ : List ℕ = put_mid 2 (length b₁ - 2) b₁ y₂ in
    y₃ ≡ c ++ drop (length c) (mid_of 4 (length b₂ - 4) b₂)
    → put_mid 4 (length b₂ - 4) b₂ y₃ ≡ entry_then (field l c) (drop (length c + entry_lead) b)
entry-put b b₁ y₂ y₃ c l h e₁ e₂ e₃ =
    let b₂ : List ℕ = put_mid 2 (length b₁ - 2) b₁ y₂ in
    let n : 4 + length c ≡ length c + 4 = omega arith in
    let d₁ : drop 2 b₁ ≡ drop 2 b = ap (drop 2) e₁ in
    let p₂ : y₂ ≡ two_bytes l (drop 4 b) = e₂ ∙ ap (λ (u : List ℕ). two_bytes l (drop 2 u)) (mid-tail b₁ 2 ∙ d₁) ∙ ap (two_bytes l) (drop-drop 2 2 b) in
    let q₂ : b₂ ≡ two_bytes (length c) (two_bytes l (drop 4 b)) = put-tail b₁ y₂ 2 ∙ ap₂ (λ (u v : List ℕ). take 2 u ++ v) e₁ p₂ in
    let p₃ : y₃ ≡ c ++ drop (length c + 4) b =
    e₃ ∙ ap (λ (u : List ℕ). c ++ drop (length c) u) (mid-tail b₂ 4 ∙ ap (drop 4) q₂)
    ∙ ap (λ (u : List ℕ). c ++ u) (drop-drop (length c) 4 b ∙ ap (λ (m : ℕ). drop m b) n) in
    put-tail b₂ y₃ 4 ∙ ap₂ (λ (u v : List ℕ). take 4 u ++ v) q₂ p₃

-- ---- the entry of one line

module _ (k l : ℕ) (c : List ℕ) where
  pub second_none : k ≡ 1 → line_entry k l c ≡ []
  unfolding line_entry
  second_none e = rw (eq-eqb k 1 e)

  pub other-entry : (k ≡ 1 → ⊥) → line_entry k l c ≡ entry_then (field l c) []
  unfolding line_entry
  other-entry e = rw (ne_eqb k 1 e)

  pub other_length : (k ≡ 1 → ⊥) → length (line_entry k l c) ≡ length c + entry_lead
  other_length e = ap length (other-entry e) ∙ length-entry (field l c)

  pub line-none : (b : List ℕ) (to : ℕ) → k ≡ 1 → (to ≡ to + length (line_entry k l c)) × (b ≡ over to (line_entry k l c) b)
  line-none b to e = (omega (arith, ap length (second_none e)), over_none b to ∙ ap (λ (u : List ℕ). over to u b) (sym (second_none e)))

  pub line-put : (b y : List ℕ) (to : ℕ) → (k ≡ 1 → ⊥) → y ≡ entry_then (field l c) (drop (length c + entry_lead) (mid_of to (length b - to) b))
      → (to + (length c + entry_lead) ≡ to + length (line_entry k l c)) × (put_mid to (length b - to) b y ≡ over to (line_entry k l c) b)
  line-put b y to e q = (
    omega (arith, other_length e),
    over-lent b y to (line_entry k l c)
        (q ∙ (sym (entry-then (field l c) _) ∙ ap₂ (λ (u : List ℕ) (m : ℕ). u ++ drop m (mid_of to (length b - to) b)) (sym (other-entry e)) (sym (other_length e)))),
  )

-- ---- the walk over lines that are all read: no line is left, or the line gives its label and the length of its content

module _ (s : List ℕ) (at k n : ℕ) where
  first_read : k < n → AllRead s at (n - k) → (l : ℕ) × (m : ℕ) × (line_at s at ≡ a_line l m) × AllRead s (at + m) (n - (k + 1))
  unfolding AllRead
  first_read h a = rw (one-more h) at a

  pub all_told : k < n → AllRead s at (n - k) → (w l : ℕ) → w ≡ told_length s at → l ≡ told_label s at
      → (line_at s at ≡ a_line l (w + 9)) × AllRead s (at + (w + 9)) (n - (k + 1))
  all_told h a w l p q =
      let r = first_read h a in
      let t = read_told s at r.2 in
      let m : r.1 ≡ w + 9 = omega (arith, p, t.0, (read_back s at r.2).least) in
      let x : r.0 ≡ l = sym (q ∙ t.1) in
      (r.2 ∙ ap₂ a_line x m, subst (λ (i : ℕ). AllRead s (at + i) (n - (k + 1))) m r.3)

  -- such a line lies within the set
  pub all-within : k < n → AllRead s at (n - k) → (w : ℕ) → w ≡ told_length s at → at + (w + 9) ≤ length s
  all-within h a w p = (read_back s at (all_told h a w (told_label s at) p refl).0).within

  pub entries-end : n ≤ k → listed_from s at k (n - k) ≡ []
  unfolding listed_from
  entries-end h = rw (none_left h)

  pub entries-on : k < n → {l m : ℕ} → line_at s at ≡ a_line l m → listed_from s at k (n - k) ≡ line_entry k l (line_content s at m) ++ listed_from s (at + m) (k + 1) (n - (k + 1))
  unfolding listed_from
  entries-on h e = rw (one-more h, e)

-- the content of a line, by the line's start and the content's length
pub content-length : (at n : ℕ) → at + 7 + n - (at + 7) ≡ n + 9 - 9
content-length at n = omega arith

-- one turn: the entry of one line, and what is left after it
module _ (s : List ℕ) (at k n : ℕ) (h : k < n) {l m : ℕ} (e : line_at s at ≡ a_line l m) (w : ℕ) (q : w ≡ m - 9) (out : List ℕ) (to : ℕ)
    (g : to + length (listed_from s at k (n - k)) ≤ length out) where
  abbrev here : List ℕ
  here = line_entry k l (take w (drop (at + 7) s))

  abbrev rest : List ℕ
  rest = listed_from s (at + m) (k + 1) (n - (k + 1))

  both : listed_from s at k (n - k) ≡ here ++ rest
  both = entries-on s at k n h e ∙ ap (λ (x : ℕ). line_entry k l (take x (drop (at + 7) s)) ++ rest) (sym q)

  pub line-fits : to + length here ≤ length out
  line-fits = here-fits out to _ here rest both g

  pub line-short : length (take w (drop (at + 7) s)) < 65536
  line-short = omega (arith, (read_back s at e).most, length-take w (drop (at + 7) s))

  pub put-turn : (to' : ℕ) (out' : List ℕ) → to' ≡ to + length here → out' ≡ over to here out → Turned out out' (listed_from s at k (n - k)) rest to to'
  put-turn = turned out to _ here rest both g

-- ---- the walk over the lines of a set

module _ (s : List ℕ) where
  -- the lines of a set are all read: by induction on fs
  all_read : (fs : List Field) (t : List ℕ) (at : ℕ) → Every Sound fs → drop at s ≡ render fs t → AllRead s at (length fs)
  unfolding AllRead
  all_read [] t at h w = tt
  all_read (f ∷ fs) t at h w =
      (f.label, line_size f, read-line s at f (render fs t) w h.0, all_read fs t (at + line_size f) h.1 (reads_on s at f (render fs t) h.0 w))

  -- the lines after line 2: by induction on fs
  later-entries : (fs : List Field) (t : List ℕ) (at k : ℕ) → Every Sound fs → drop at s ≡ render fs t → 2 ≤ k → listed_from s at k (length fs) ≡ put_all entry_form fs []
  unfolding listed_from
  later-entries [] t at k h w g = refl
  later-entries (f ∷ fs) t at k h w g =
      rw (read-line s at f (render fs t) w h.0, reads-content s at f (render fs t) h.0 w, other-entry k f.label f.content (λ e. omega arith))
      (ap (λ (u : List ℕ). entry_then f [] ++ u) (later-entries fs t (at + line_size f) (k + 1) h.1 (reads_on s at f (render fs t) h.0 w) (omega arith))
      ∙ entry-then f (put_all entry_form fs []))

  -- all lines: the first has its entry, the second none
  all-entries : (f g : Field) (fs : List Field) (t : List ℕ) → Every Sound (f ∷ g ∷ fs) → s ≡ render (f ∷ g ∷ fs) t
      → listed_from s 0 0 (length (f ∷ g ∷ fs)) ≡ put_all entry_form (f ∷ fs) []
  unfolding listed_from
  all-entries f g fs t h w =
      let w₁ : drop (0 + line_size f) s ≡ render (g ∷ fs) t = reads_on s 0 f (render (g ∷ fs) t) h.0 w in
      let w₂ : drop (0 + line_size f + line_size g) s ≡ render fs t = reads_on s (0 + line_size f) g (render fs t) h.1.0 w₁ in
      rw (
        read-line s 0 f (render (g ∷ fs) t) w h.0,
        reads-content s 0 f (render (g ∷ fs) t) h.0 w,
        other-entry 0 f.label f.content (λ e. omega arith),
        read-line s (0 + line_size f) g (render fs t) w₁ h.1.0,
        second_none (0 + 1) g.label (line_content s (0 + line_size f) (line_size g)) (omega arith),
      ) (ap (λ (u : List ℕ). entry_then f [] ++ u) (later-entries fs t (0 + line_size f + line_size g) (0 + 1 + 1) h.1.1 w₂ (omega arith))
      ∙ entry-then f (put_all entry_form fs []))

at_least : (fs : List Field) → Every Sound fs → length fs * 10 ≤ size fs
at_least [] h = omega arith
at_least (f ∷ fs) h = omega (arith, h.0.some_byte, at_least fs h.1)

-- what is known of an accepted set: its lines are read, its list is as the walk gives it, and how many bytes that has
pub record Entries (s : List ℕ) (x : Shape) : Type 0 where
  pub all : AllRead s 0 x.lines
  pub some : 2 ≤ x.lines
  pub few : x.lines ≤ max_lines
  pub long : 14 + (x.lines - 1) * 10 ≤ x.length
  pub need : x.length - 14 - (x.lines - 1) * 5 ≡ length (listed_from s 0 0 x.lines)
  pub listed : (room : ℕ) → list s room ≡ with_room (leb (length (listed_from s 0 0 x.lines)) room) (length (listed_from s 0 0 x.lines)) (listed_from s 0 0 x.lines)

module _ (s : List ℕ) (d : Parsed) (e : read s ≡ done d) where
  list-is : (es : List ℕ) → put_all entry_form (without_sum d.fields) [] ≡ es → (room : ℕ) → list s room ≡ with_room (leb (length es) room) (length es) es
  unfolding list
  list-is es q room = rw (e, ← length-entries (without_sum d.fields), q)

  two-lines : (fs : List Field) → d.fields ≡ fs → Standing fs → s ≡ render fs d.rest → Entries s (record { length = size fs; lines = length fs; settype = 0 })
  unfolding start_faults
  two-lines [] q st w = absurd (cons≢nil (ruled [] st.right).0.begins)
  two-lines (f ∷ []) q st w = let z : ◌≡◌ {A = ℕ} 0 8100 = (begins-of (f ∷ []) (ruled (f ∷ []) st.right).0.begins).second-label in absurd (omega arith)
  two-lines (f ∷ g ∷ fs) q st w =
      let es : List ℕ = put_all entry_form (f ∷ fs) [] in
      let a : listed_from s 0 0 (length (f ∷ g ∷ fs)) ≡ es = all-entries s f g fs d.rest st.sound w in
      let n : length es ≡ list_size (f ∷ fs) = length-entries (f ∷ fs) in
      let five : size (f ∷ g ∷ fs) ≡ 14 + size (f ∷ fs) = ap size (sum_back (f ∷ g ∷ fs) st.right) ∙ omega (arith, length-digits 5 (line_size f + (14 + size fs))) in
      record {
        all = all_read s (f ∷ g ∷ fs) d.rest 0 st.sound w;
        some = omega arith;
        few = st.few;
        long = omega (arith, five, at_least (f ∷ fs) (st.sound.0, st.sound.1.1));
        need = omega (arith, five, lines-over-entries (f ∷ fs), n, ap length a);
        listed = list-is (listed_from s 0 0 (length (f ∷ g ∷ fs))) (ap (λ (x : List Field). put_all entry_form (without_sum x) []) q ∙ sym a);
      }

-- A set that is accepted, by its shape.
pub listed-are : (s : List ℕ) (x : Shape) → judge s ≡ Ok x → Entries s x
listed-are s x e =
    let d = judge-read s x e in
    let a = accepted s d.0 d.1 in
    let r = two-lines s d.0 d.1 d.0.fields refl a.standing a.bytes in
    subst (λ (y : Shape). Entries s y) (sym d.2) (record { all = r.all; some = r.some; few = r.few; long = r.long; need = r.need; listed = r.listed })

-- ---- the answers

-- a set that is refused: its list is refused alike
list-refused : (s : List ℕ) (r : Refusal) (room : ℕ) → judge s ≡ Err r → list s room ≡ refused r
unfolding judge list
list-refused s r room e = go (read s) e
  where
    go : (x : Reply Parsed) → judged x ≡ Err r
        → then_to x (λ d. with_room (leb (list_size (without_sum d.fields)) room) (list_size (without_sum d.fields)) (put_all entry_form (without_sum d.fields) [])) ≡ refused r
    go (refused y) q = let z : y ≡ r = cc in ap refused z
    go (done y) q = let z : ◌≡◌ {A = ℕ} 0 1 = cc in absurd (omega arith)

pub answer-refused : (s b : List ℕ) (r : Refusal) → judge s ≡ Err r → (Err r ≡ (list_call s b).answer) × (b ≡ (list_call s b).buffer)
answer-refused s b r e = let q = sym (list-refused s r (length b) e) in (ap made q, ap (λ (x : Reply (List ℕ)). bytes_left x b) q)

-- an accepted set, whose list needs n bytes
module _ (s : List ℕ) (x : Shape) (e : judge s ≡ Ok x) (b : List ℕ) (n : ℕ) (q : n ≡ x.length - 14 - (x.lines - 1) * 5) where
  abbrev es : List ℕ
  es = listed_from s 0 0 x.lines

  need-so : n ≡ length es
  need-so = q ∙ (listed-are s x e).need

  -- there is no room for them
  pub answer-full : length b < n → (Err (refusal no_room n 0) ≡ (list_call s b).answer) × (b ≡ (list_call s b).buffer)
  answer-full h =
      let l : refused (refusal no_room n 0) ≡ list s (length b) =
      ap (λ (m : ℕ). refused (refusal no_room m 0)) need-so
      ∙ sym ((listed-are s x e).listed (length b) ∙ ap (λ (t : Bool). with_room t (length es) es) (lt-leb (length es) (length b) (omega (arith, need-so)))) in
      (ap made l, ap (λ (y : Reply (List ℕ)). bytes_left y b) l)

  -- they were put at the front, and zeros after them
  pub answer-made : (b' y : List ℕ) → n ≤ length b → b' ≡ over 0 es b → y ≡ replicate (length (mid_of n (length b' - n) b')) 0
      → (Ok n ≡ (list_call s b).answer) × (put_mid n (length b' - n) b' y ≡ (list_call s b).buffer)
  answer-made b' y h p z =
      let l : done es ≡ list s (length b) =
      sym ((listed-are s x e).listed (length b) ∙ ap (λ (t : Bool). with_room t (length es) es) (le-leb (length es) (length b) (omega (arith, need-so)))) in
      (ap Ok need-so ∙ ap made l, front-then-zeros b b' y es n p need-so z ∙ ap (λ (u : Reply (List ℕ)). bytes_left u b) l)
