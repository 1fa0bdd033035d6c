-- The place of a set's own refusal lies within the bytes given. These laws are about one set alone.
use mathlib.Core.Path.{◌≡◌, refl, sym, ap, ◌∙◌}
use mathlib.Core.Bool.{Bool, true, false, cond, not, ◌&&◌, ◌||◌}
use mathlib.Core.List.{List, [], ◌∷◌, ◌++◌}
use Prim.Native.Nat.{ℕ, zero, suc, ◌+◌, ◌-◌, ◌≤◌}
use native.Mathlib.Omega.{arith}
use lib.Dec.{leb, eqb}
use lib.ListN.{length, take, drop, length-take, length-drop}
use lib.Seq.{drop-drop}
use Rattle.meaning.specs.declared.Refusal.{Refusal}
use Rattle.meaning.specs.declared.Row.{Row}
use Rattle.meaning.specs.Limits.{max_lines}
use Rattle.meaning.specs.Digits.{number}
use Rattle.meaning.specs.Field.{Field, labels, elem, is_nil, content_at_line}
use Rattle.meaning.specs.Refusals.{start, Fault, at_line, at_byte, ask, behind, Reply, refused, done, refusal, verdict, empty, bad_length, cut_line, bad_end, bad_label, bad_byte}
use Rattle.meaning.specs.Refusals.{too_many_lines, no_start, unknown_set, no_sum, repeated, bad_content, other_version, missing, bad_sum, high_byte}
use Rattle.meaning.specs.Pieces.{Parsed, parsed, and_before, piece_then, pieces}
use Rattle.meaning.specs.Lines.{line_lead, least_byte, line_size, size, offset, size_at, content_at, field_at, low_bytes, length_ok, whole_ok, end_ok, label_ok, line_faults}
use Rattle.meaning.specs.Lines.{most_seven_bits, high_bytes, set_over, line_form}
use Rattle.meaning.specs.Groups.{State, first, Role, unknown, strayed, at_set_level, member, role, next, after, label_faults, no_header, stays}
use Rattle.meaning.specs.Tables.{set_level, find}
use Rattle.meaning.specs.Missing.{needed, rows_under, ascending, missing_label, lacking_of, lacking, among, open_lacking, groups_lacking, missing_faults}
use Rattle.meaning.specs.Rules.{Profile, profile, rows_of, role_in, label_is, type_known, start_faults, fits, current, content_faults, content_rules}
use Rattle.meaning.specs.Rules.{line_rules, rules_from, seven_bit, high_from, high_faults, sum_faults, rule_faults, set_faults}
use Rattle.meaning.specs.Reading.{scan, in_set, by_rules, read}
use Rattle.meaning.proofs.Bools.{Every}
use Rattle.meaning.proofs.LineLaws.{whole, length-render}
use Rattle.meaning.proofs.SetLaws.{scanned}

-- a reply that refuses does so at a place of at most n
abbrev Within : {A : Type 0} → ℕ → Reply A → Type 0
Within n (refused r) = r.place ≤ n
Within n (done a) = Unit

within-cond : {A : Type 0} (n : ℕ) (t : Bool) (a b : Reply A) → Within n a → Within n b → Within n (cond t a b)
within-cond n true a b h k = h
within-cond n false a b h k = k

more_within : {A : Type 0} (m n : ℕ) (r : Reply A) → m ≤ n → Within m r → Within n r
more_within m n (refused r) l h = omega arith
more_within m n (done a) l h = tt

-- ---- the scan: a fault of a line is at its first byte, or at a byte of its content that is there

-- every fault of a line is at most n bytes after the line's first byte
abbrev Near : ℕ → List Fault → Type 0
Near n xs = Every (λ x. behind line_lead x.spot ≤ n) xs

near-rule : (n : ℕ) (t : Bool) (x : Fault) (r : List Fault) → behind line_lead x.spot ≤ n → Near n r → Near n (ask t x ++ r)
near-rule n true x r p h = h
near-rule n false x r p h = (p, h)

near-lows : (n i : ℕ) (c : List ℕ) → length c ≤ n - (line_lead + i) → Near n (low_bytes 0 i c)
near-lows n i [] h = tt
near-lows n i (b ∷ c) h = near-rule n (leb least_byte b) (at_byte bad_byte 0 i) (low_bytes 0 (suc i) c) (omega arith) (near-lows n (suc i) c (omega arith))

near-line : (s : List ℕ) → Near (length s) (line_faults s)
unfolding line_faults
near-line s =
    let h : length (content_at s) ≤ length s - (line_lead + 0) = simp (length-take, length-drop) (omega arith) in
    near-rule (length s) (length_ok s) (at_line bad_length 0 0) _ (omega arith)
    (near-rule (length s) (whole_ok s) (at_line cut_line 0 0) _ (omega arith)
    (near-rule (length s) (end_ok s) (at_line bad_end 0 0) _ (omega arith)
    (near-rule (length s) (label_ok s) (at_line bad_label 0 0) _ (omega arith) (near-lows (length s) 0 (content_at s) h))))

within-before : (n : ℕ) (f : Field) (r : Reply Parsed) → Within n r → Within n (and_before f r)
within-before n f (refused r) h = h
within-before n f (done d) h = tt

-- a line with these faults, and what is read after it, if that is refused within its bytes
within-line : (fl : List Fault) (at : ℕ) (s : List ℕ) (k : ℕ → List ℕ → Reply Parsed) → line_faults s ≡ fl → Near (length s) fl
    → ((p : ℕ) (t : List ℕ) → Within (p + length t) (k p t)) → Within (at + length s) (piece_then line_form fl at s k)
within-line [] at s k e h g =
    let w = whole s e in
    let b : (at + size_at s) + length (drop (size_at s) s) ≡ at + length s = omega (arith, length-drop (size_at s) s) in
    within-before (at + length s) (field_at s) (k (at + size_at s) (drop (size_at s) s)) (rw b at (g (at + size_at s) (drop (size_at s) s)))
within-line (x ∷ xs) at s k e h g = omega (arith, h.0)

within-pieces : (n at : ℕ) (s : List ℕ) → Within (at + length s) (pieces line_form n at s)
unfolding pieces
within-pieces zero at s = within-cond (at + length s) (set_over s) (done (parsed [] s)) (refused (refusal too_many_lines at 0)) tt (omega arith)
within-pieces (suc n) at s =
    within-cond (at + length s) (set_over s) (done (parsed [] s)) (piece_then line_form (line_faults s) at s (λ p t. pieces line_form n p t)) tt
    (within-line (line_faults s) at s (λ p t. pieces line_form n p t) refl (near-line s) (λ p t. within-pieces n p t))

within-scan : (s : List ℕ) → Within (length s) (scan s)
unfolding scan
within-scan s =
    let k : ℕ → List ℕ → Reply Parsed = λ p t. pieces line_form (max_lines - 1) p t in
    within-cond (length s) (is_nil s) (refused (refusal empty 0 0)) (piece_then line_form (line_faults s) 0 s k) (omega arith)
    (more_within (0 + length s) (length s) (piece_then line_form (line_faults s) 0 s k) (omega arith)
    (within-line (line_faults s) 0 s k refl (near-line s) (λ p t. within-pieces (max_lines - 1) p t)))

-- ---- the rules but 24: every fault is at a line's first byte

abbrev AtStarts : List Fault → Type 0
AtStarts xs = Every (λ x. x.spot ≡ start) xs

starts-append : (a b : List Fault) → AtStarts a → AtStarts b → AtStarts (a ++ b)
starts-append [] b h k = k
starts-append (x ∷ a) b h k = (h.0, starts-append a b h.1 k)

-- a rule that gives its fault at a line, and the rules after it
starts-rule : (t : Bool) (n k l : ℕ) (r : List Fault) → AtStarts r → AtStarts (ask t (at_line n k l) ++ r)
starts-rule true n k l r h = h
starts-rule false n k l r h = (refl, h)

starts-ask : (t : Bool) (n k l : ℕ) → AtStarts (ask t (at_line n k l))
starts-ask true n k l = tt
starts-ask false n k l = (refl, tt)

starts-cond : (t : Bool) (a b : List Fault) → AtStarts a → AtStarts b → AtStarts (cond t a b)
starts-cond true a b h k = h
starts-cond false a b h k = k

starts-start : (fs : List Field) → AtStarts (start_faults fs)
unfolding start_faults
starts-start fs =
    starts-rule (label_is fs 0 8000) no_start 0 0 _
    (starts-rule (type_known fs) unknown_set 0 0 (ask (label_is fs 1 8100) (at_line no_sum 1 0)) (starts-ask (label_is fs 1 8100) no_sum 1 0))

starts-label : (o : Role) (st : State) (k l : ℕ) → AtStarts (label_faults o st k l)
unfolding label_faults
starts-label unknown st k l = (refl, tt)
starts-label strayed st k l = (refl, tt)
starts-label (at_set_level r) st k l = starts-ask (r.many || not (elem r.label st.top)) repeated k l
starts-label (member r) st k l = starts-ask (r.many || not (elem r.label st.members)) repeated k l

starts-content : (p : Profile) (k : ℕ) (f : Field) → AtStarts (content_faults p k f)
unfolding content_faults
starts-content p k f =
    starts-cond (fits p f) (ask (current p f) (at_line other_version k f.label)) (at_line bad_content k f.label ∷ [])
    (starts-ask (current p f) other_version k f.label) (refl, tt)

starts-content-rules : (o : Role) (p : Profile) (k : ℕ) (f : Field) → AtStarts (content_rules o p k f)
unfolding content_rules
starts-content-rules unknown p k f = tt
starts-content-rules strayed p k f = starts-content p k f
starts-content-rules (at_set_level r) p k f = starts-content p k f
starts-content-rules (member r) p k f = starts-content p k f

starts-rules : (p : Profile) (st : State) (k : ℕ) (fs : List Field) → AtStarts (rules_from p st k fs)
unfolding rules_from line_rules
starts-rules p st k [] = tt
starts-rules p st k (f ∷ fs) =
    let o : Role = role_in p st f in
    starts-append (line_rules o p st k f) _
    (starts-append (label_faults o st k f.label) _ (starts-label o st k f.label) (starts-content-rules o p k f))
    (starts-rules p (next o st k f.label) (k + 1) fs)

starts-lacking-of : (rs : List Row) (h k : ℕ) (has : ℕ → Bool) → AtStarts (lacking_of rs h k has)
unfolding lacking_of
starts-lacking-of [] h k has = tt
starts-lacking-of (r ∷ rs) h k has =
    starts-rule (not (needed r has && not (has r.label))) missing k (missing_label h r.label) (lacking_of rs h k has) (starts-lacking-of rs h k has)

starts-lacking : (rs : List Row) (h k : ℕ) (has : ℕ → Bool) → AtStarts (lacking rs h k has)
unfolding lacking
starts-lacking rs h k has = starts-lacking-of (ascending (rows_under rs h)) h k has

starts-open : (rs : List Row) (st : State) → AtStarts (open_lacking rs st)
unfolding open_lacking
starts-open rs st =
    let xs : List Fault = lacking rs st.header st.line (among st.members) in
    starts-cond (eqb st.header no_header) [] xs tt (starts-lacking rs st.header st.line (among st.members))

starts-groups : (rs : List Row) (st : State) (k : ℕ) (ls : List ℕ) → AtStarts (groups_lacking rs st k ls)
unfolding groups_lacking
starts-groups rs st k [] = starts-open rs st
starts-groups rs st k (l ∷ ls) =
    let o : Role = role (find rs l) st.header l in
    starts-append (cond (stays o) [] (open_lacking rs st)) _ (starts-cond (stays o) [] (open_lacking rs st) tt (starts-open rs st)) (starts-groups rs (next o st k l) (k + 1) ls)

starts-missing : (rs : List Row) (ls : List ℕ) → AtStarts (missing_faults rs ls)
unfolding missing_faults
starts-missing rs ls =
    let has : ℕ → Bool = among (after rs first 0 ls).top in
    starts-append (lacking rs set_level 0 has) _ (starts-lacking rs set_level 0 has) (starts-groups rs first 0 ls)

-- ---- their places, and all together

-- a line's offset is at most the length of all lines
pub offset-within : (fs : List Field) (k : ℕ) → offset fs k ≤ size fs
offset-within fs zero = omega arith
offset-within [] (suc k) = omega arith
offset-within (f ∷ fs) (suc k) = omega (arith, offset-within fs k)

-- every fault has a place in the set, or right after it
abbrev Placed : List Field → List Fault → Type 0
Placed fs xs = Every (λ x. in_set fs x.line x.spot ≤ size fs) xs

placed-append : (fs : List Field) (a b : List Fault) → Placed fs a → Placed fs b → Placed fs (a ++ b)
placed-append fs [] b h k = k
placed-append fs (x ∷ a) b h k = (h.0, placed-append fs a b h.1 k)

placed-starts : (fs : List Field) (xs : List Fault) → AtStarts xs → Placed fs xs
placed-starts fs [] h = tt
placed-starts fs (x ∷ xs) h = (rw h.0 (omega (arith, offset-within fs x.line)), placed-starts fs xs h.1)

-- ---- 24: a byte that is there

placed-highs : (fs : List Field) (k i : ℕ) (c : List ℕ) → offset fs k + (line_lead + i + length c) ≤ size fs → Placed fs (high_bytes k i c)
placed-highs fs k i [] h = tt
placed-highs fs k i (b ∷ c) h = go (leb b most_seven_bits) (placed-highs fs k (suc i) c (omega arith))
  where
    go : (t : Bool) → Placed fs (high_bytes k (suc i) c) → Placed fs (ask t (at_byte high_byte k i) ++ high_bytes k (suc i) c)
    go true p = p
    go false p = (omega arith, p)

-- the lines before one and those from it on are all lines
lines_split : (fs : List Field) (k : ℕ) → offset fs k + size (drop k fs) ≡ size fs
lines_split fs zero = omega arith
lines_split [] (suc k) = refl
lines_split (f ∷ fs) (suc k) = omega (arith, lines_split fs k)

-- of the lines gs, which are those of all that have k lines before them
placed-high-from : (all : List Field) (k : ℕ) (gs : List Field) → drop k all ≡ gs → Placed all (high_from k gs)
unfolding high_from
placed-high-from all k [] e = tt
placed-high-from all k (f ∷ fs) e =
    let n : size (drop k all) ≡ line_size f + size fs = ap size e in
    placed-append all (high_bytes k 0 f.content) _ (placed-highs all k 0 f.content (omega (arith, lines_split all k)))
    (placed-high-from all (k + 1) fs (sym (drop-drop 1 k all) ∙ ap (drop 1) e))

placed_one : (fs : List Field) (b : Bool) (xs : List Fault) → Placed fs xs → Placed fs (cond b (take 1 xs) [])
placed_one fs false xs h = tt
placed_one fs true [] h = tt
placed_one fs true (x ∷ xs) h = (h.0, tt)

placed-set : (fs : List Field) → Placed fs (set_faults fs)
unfolding set_faults rule_faults high_faults sum_faults
placed-set fs =
    let r : List Fault = rules_from (profile fs) first 0 fs in
    let m : List Fault = missing_faults (rows_of (profile fs)) (labels fs) in
    placed-append fs (rule_faults fs) (sum_faults fs)
    (placed-append fs (start_faults fs) _ (placed-starts fs (start_faults fs) (starts-start fs))
    (placed-append fs r _ (placed-starts fs r (starts-rules (profile fs) first 0 fs))
    (placed-append fs m _ (placed-starts fs m (starts-missing (rows_of (profile fs)) (labels fs))) (placed_one fs (seven_bit fs) (high_from 0 fs) (placed-high-from fs 0 fs refl)))))
    (placed-starts fs (sum_faults fs) (starts-ask (eqb (number (content_at_line fs 1)) (size fs)) bad_sum 1 0))

within-verdict : (fs : List Field) (xs : List Fault) (d : Parsed) → Placed fs xs → Within (size fs) (verdict (in_set fs) xs d)
within-verdict fs [] d h = tt
within-verdict fs (x ∷ xs) d h = h.0

within-read : (s : List ℕ) → Within (length s) (read s)
unfolding read
within-read s = go (scan s) refl (within-scan s)
  where
    go : (r : Reply Parsed) → scan s ≡ r → Within (length s) r → Within (length s) (by_rules r)
    go (refused x) e h = h
    go (done d) e h =
        let m : length s ≡ size d.fields + length d.rest = ap length (scanned s d.fields d.rest e).bytes ∙ length-render d.fields d.rest in
        more_within (size d.fields) (length s) (verdict (in_set d.fields) (set_faults d.fields) d) (omega arith)
        (within-verdict d.fields (set_faults d.fields) d (placed-set d.fields))

-- the place of a set's own refusal is at most the length of the bytes given: at a byte, or right after the last
pub refused-within : (s : List ℕ) (r : Refusal) → read s ≡ refused r → r.place ≤ length s
refused-within s r e = rw e at (within-read s)
