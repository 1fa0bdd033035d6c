-- Answers of the calls: a refusal is no other answer, and two answers that are the same say the same.
use mathlib.Core.Path.{◌≡◌}
use Prim.Native.Nat.{ℕ}
use native.Mathlib.Omega.{arith}
use Rattle.meaning.specs.declared.Refusal.{Refusal}
use Rattle.meaning.specs.declared.Shape.{Shape}
use Rattle.meaning.specs.Results.{Judged, Made}
use Rattle.std.specs.Prelude.{Err, Ok}

-- ---- of judging

pub refused-accepted {ℓ} : {X : Type ℓ} {r : Refusal} {x : Shape} → ◌≡◌ {A = Judged} (Err r) (Ok x) → X
refused-accepted e = let z : ◌≡◌ {A = ℕ} 0 1 = cc in absurd (omega arith)

pub accepted-same : {x y : Shape} → ◌≡◌ {A = Judged} (Ok x) (Ok y) → x ≡ y
accepted-same e = cc

pub refusal-same : {r q : Refusal} → ◌≡◌ {A = Judged} (Err r) (Err q) → r ≡ q
refusal-same e = cc

-- ---- of a call that makes something

pub refused-made {ℓ} : {X : Type ℓ} {r : Refusal} {n : ℕ} → ◌≡◌ {A = Made} (Err r) (Ok n) → X
refused-made e = let z : ◌≡◌ {A = ℕ} 0 1 = cc in absurd (omega arith)

pub made-same : {m n : ℕ} → ◌≡◌ {A = Made} (Ok m) (Ok n) → m ≡ n
made-same e = cc
