-- The whole list, as the code takes it: the check, and if it refuses nothing the rules.
use mathlib.Core.Path.{◌≡◌, refl, sym, ap, ◌∙◌}
use mathlib.Core.Bool.{Bool, true, false, cond}
use mathlib.Core.List.{List}
use Prim.Native.Nat.{ℕ}
use native.Mathlib.Omega.{arith}
use lib.Dec.{leb, eqb}
use lib.ListN.{length}
use borrow.Author.Tests.{leb-true, leb-false}
use Rattle.meaning.specs.declared.Refusal.{Refusal}
use Rattle.meaning.specs.Limits.{max_entries}
use Rattle.entry_read.specs.Head.{entry_at}
use Rattle.entry_read.proofs.HeadLaws.{entry-headless}
use Rattle.std.proofs.Common.{None, Some}
use Rattle.write_seven.specs.ListSeven.{if_any}
use Rattle.write_judge.specs.Judging.{check_from, check_some, judge_entries, count_unless, ruled, judged_list, ListJudged}
use Rattle.write_judge.proofs.CheckLaws.{entry-cut, check_done, check-some, some-bad}
use Rattle.std.specs.Prelude.{Err, None, Ok}

module _ (l : List ℕ) where
  -- a list without a byte is refused by 21, whether its entries are counted first or one is read
  checked-first : ruled (check_some l 0 max_entries) (judge_entries l) ≡ judged_list l
  unfolding judged_list judge_entries count_unless
  checked-first = go (leb (length l) 0) refl
    where
      go : (b : Bool) → leb (length l) 0 ≡ b → ruled (check_some l 0 max_entries) (judge_entries l) ≡ ruled (check_from l 0 0 max_entries) (judge_entries l)
      go true q =
          let e : entry_at l 0 ≡ None = sym (entry-headless l 0 (omega (arith, leb-true (length l) 0 q))) in
          rw (some-bad l 0 max_entries (sym (entry-cut l 0 e)), check_done l 0 0 max_entries (leb-true (length l) 0 q), e)
      go false q = ap (λ (x : ListJudged). ruled x (judge_entries l)) (sym (check-some l 0 (leb-false (length l) 0 q) max_entries (omega arith) (omega arith)))

  -- what is found if the check gives this
  found : {x : ListJudged} → check_some l 0 max_entries ≡ x → ruled x (judge_entries l) ≡ judged_list l
  found e = ap (λ (y : ListJudged). ruled y (judge_entries l)) (sym e) ∙ checked-first

  pub list-unchecked : {r : Refusal} → check_some l 0 max_entries ≡ Err r → Err r ≡ judged_list l
  list-unchecked e = found e

  module _ {n : ℕ} (e : check_some l 0 max_entries ≡ Ok n) where
    counted : count_unless (judge_entries l) n ≡ judged_list l
    counted = found e

    pub list-refused : {r : Refusal} → if_any (judge_entries l) ≡ Some r → Err r ≡ judged_list l
    unfolding count_unless
    list-refused {r} q = go (eqb (judge_entries l).no 0) refl q ∙ counted
      where
        go : (b : Bool) → eqb (judge_entries l).no 0 ≡ b → cond b None (Some (judge_entries l)) ≡ Some r → Err r ≡ count_unless (judge_entries l) n
        go true e q = cc
        go false e q =
            let z : judge_entries l ≡ r = cc in
            rw (e, z)

    pub list-good : if_any (judge_entries l) ≡ None → Ok n ≡ judged_list l
    unfolding count_unless
    list-good q = go (eqb (judge_entries l).no 0) refl q ∙ counted
      where
        go : (b : Bool) → eqb (judge_entries l).no 0 ≡ b → cond b None (Some (judge_entries l)) ≡ None → Ok n ≡ count_unless (judge_entries l) n
        go true e q = rw e
        go false e q = cc
