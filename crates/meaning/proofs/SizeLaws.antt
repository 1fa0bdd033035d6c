-- How large a set that keeps the rules is: every content has 1 to 60 bytes, so a set of 512 lines has at most 35,328 and "over 99,999" never decides.
use mathlib.Core.Path.{◌≡◌}
use mathlib.Core.List.{List, [], ◌∷◌}
use Prim.Native.Nat.{ℕ, ◌+◌, ◌*◌, ◌≤◌}
use native.Mathlib.Omega.{arith}
use lib.ListN.{length}
use Rattle.meaning.specs.Limits.{max_lines, max_set_bytes}
use Rattle.meaning.specs.Field.{Field}
use Rattle.meaning.specs.Pieces.{Parsed}
use Rattle.meaning.specs.Lines.{size}
use Rattle.meaning.specs.Groups.{State, first, next}
use Rattle.meaning.specs.Rules.{Profile, profile, role_in, line_rules, rules_from}
use Rattle.meaning.specs.Reading.{read}
use Rattle.meaning.specs.Refusals.{done}
use Rattle.meaning.proofs.Bools.{Every}
use Rattle.meaning.proofs.FaultLaws.{append-none}
use Rattle.meaning.proofs.FieldLaws.{longest, Short, fits-short}
use Rattle.meaning.proofs.RuleLaws.{line-fits, Ruled, ruled}
use Rattle.meaning.proofs.SetLaws.{accepted}

-- the contents of lines without faults
pub all_short : (p : Profile) (st : State) (k : ℕ) (fs : List Field) → rules_from p st k fs ≡ [] → Every (λ f. Short f.content) fs
unfolding rules_from
all_short p st k [] e = tt
all_short p st k (f ∷ fs) e =
    let a = append-none (line_rules (role_in p st f) p st k f) _ e in
    (fits-short p f (line-fits (role_in p st f) p st k f a.0), all_short p (next (role_in p st f) st k f.label) (k + 1) fs a.1)

-- a line of such a content
abbrev pub longest_line : ℕ
longest_line = longest + 9

size-most : (fs : List Field) → Every (λ f. Short f.content) fs → size fs ≤ length fs * longest_line
size-most [] h = omega arith
size-most (f ∷ fs) h = omega (arith, h.0.few_bytes, size-most fs h.1)

-- 512 lines of 69 bytes
abbrev pub most_bytes : ℕ
most_bytes = 35328

pub ruled-size : (fs : List Field) → Ruled fs → length fs ≤ max_lines → size fs ≤ most_bytes
ruled-size fs r l = omega (arith, size-most fs (all_short (profile fs) first 0 fs r.each-line))

-- so 22 never has "over 99,999" as its reason
pub ruled-total : (fs : List Field) → Ruled fs → length fs ≤ max_lines → size fs ≤ max_set_bytes
ruled-total fs r l = omega (arith, ruled-size fs r l)

pub accepted-short : (s : List ℕ) (d : Parsed) → read s ≡ done d → Every (λ f. Short f.content) d.fields
accepted-short s d e = all_short (profile d.fields) first 0 d.fields (ruled d.fields (accepted s d e).standing.right).0.each-line

pub accepted-size : (s : List ℕ) (d : Parsed) → read s ≡ done d → size d.fields ≤ most_bytes
accepted-size s d e = let st = (accepted s d e).standing in ruled-size d.fields (ruled d.fields st.right).0 st.few
