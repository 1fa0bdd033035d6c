-- After the last line, in reader and writer: 16, then 24 if 9206 was seen. What each way that the code takes has to show.
use mathlib.Core.Path.{◌≡◌, sym}
use mathlib.Core.Bool.{Bool, true, false, cond}
use Rattle.meaning.specs.declared.Refusal.{Refusal}
use Rattle.meaning.specs.declared.SetType.{SetType}
use Rattle.meaning.specs.Answers.{no_refusal}
use Rattle.meaning.proofs.FirstLaws.{or-bad, or-zero}
use Rattle.judge_missing.specs.Lacks.{Flagged, seen, finish, finish_then}

module _ (settype : SetType) (st : Flagged) (lack r high : Refusal) (e : r ≡ finish settype st lack) where
  pub lacks-first : (r.no ≡ 0 → ⊥) → r ≡ finish_then settype st lack high
  lacks-first g = sym (rw (← e) (or-bad r _ g))

  pub then-high : r.no ≡ 0 → cond (seen st.top 9206) high no_refusal ≡ finish_then settype st lack high
  then-high g = sym (rw (← e) (or-zero r _ g))

  module _ (g : r.no ≡ 0) (b : Bool) (q : b ≡ seen st.top 9206) where
    pub high-next : b ≡ true → high ≡ finish_then settype st lack high
    high-next z = sym (rw (← e, ← q, z) (or-zero r high g))

    pub nothing-found : b ≡ false → no_refusal ≡ finish_then settype st lack high
    nothing-found z = sym (rw (← e, ← q, z) (or-zero r no_refusal g))
