-- The index as it is written: the loop turn by turn, and that the plan and the loop make what `index_call` says: `fills`.
use mathlib.Core.Path.{◌≡◌, refl, sym, ap, ◌∙◌}
use mathlib.Core.Bool.{Bool, true, false}
use mathlib.Core.List.{List, [], ◌∷◌, ◌++◌, append_assoc}
use Prim.Native.Nat.{ℕ, suc, ◌+◌, ◌≤◌, ◌<◌, zero-le}
use native.Mathlib.Omega.{arith}
use lib.Dec.{leb}
use lib.ListN.{length, take, drop, set}
use lib.Seq.{take_all}
use borrow.Author.Tests.{leb-true}
use Rattle.std.proofs.lemmas.List.{take_more_set, append-nil}
use Rattle.meaning.specs.declared.Entry.{Entry}
use Rattle.meaning.specs.declared.Refusal.{Refusal}
use Rattle.meaning.specs.Field.{Field}
use Rattle.meaning.specs.Refusals.{Reply, refused, done, refusal, no_room, with_room}
use Rattle.meaning.specs.Pieces.{Parsed}
use Rattle.meaning.specs.Groups.{first}
use Rattle.meaning.specs.Rules.{profile}
use Rattle.meaning.specs.Reading.{read, judge}
use Rattle.meaning.specs.Index.{index_of, index}
use Rattle.meaning.specs.Answers.{made_count, index_call}
use Rattle.meaning.proofs.PlaceLaws.{index-count}
use Rattle.index_walk.specs.declared.Walk.{Walk}
use Rattle.index_walk.specs.declared.NextEntry.{NextEntry}
use Rattle.index_walk.specs.Walking.{walk_start, next_entry, walked_entries}
use Rattle.index_walk.proofs.EntryWalk.{entries-are}
use Rattle.face_replies.specs.IndexPlans.{plan_index}
use Rattle.meaning.specs.Results.{Made}
use Rattle.std.specs.Prelude.{Err}

-- ---- the loop, turn by turn

-- The first i entries and those that the walk still gives are those of the whole walk.
pub record Filled (s : List ℕ) (es : List Entry) (i : ℕ) (w : Walk) : Type 0 where
  pub all : (n : ℕ) → take i es ++ walked_entries s w n ≡ walked_entries s walk_start (i + n)

module _ (s : List ℕ) (es : List Entry) where
  -- before the first turn
  pub filled-none : (w : Walk) → w ≡ walk_start → Filled s es 0 w
  filled-none w e = record { all = λ n. rw e (ap (walked_entries s walk_start) (omega arith)) }

  module _ (i : ℕ) (w : Walk) (f : Filled s es i w) where
    -- a turn stores the entry of the next line, and takes the walk after it
    pub filled-next : (r : NextEntry) → r ≡ next_entry s w → i < length es → Filled s (set es i r.entry) (i + 1) r.walk
    unfolding walked_entries
    filled-next r e h = record {
      all = λ n.
          ap (λ (xs : List Entry). xs ++ walked_entries s r.walk n) (take_more_set es i r.entry h)
          ∙ append_assoc (take i es) (r.entry ∷ []) (walked_entries s r.walk n)
          ∙ ap (λ (x : NextEntry). take i es ++ x.entry ∷ walked_entries s x.walk n) e
          ∙ f.all (suc n)
          ∙ ap (walked_entries s walk_start) (omega arith);
    }

    -- after the last turn of n
    pub filled-all : (n : ℕ) → i ≡ n → length es ≡ n → es ≡ walked_entries s walk_start n
    unfolding walked_entries
    filled-all n e h =
        sym (take_all i es (omega arith))
        ∙ sym (append-nil (take i es))
        ∙ f.all 0
        ∙ ap (walked_entries s walk_start) (omega arith)

-- ---- plan and loop make the index

-- What a plan must be for the loop to leave what the call says: it keeps within the room, and its answer and its entries are the call's.
pub record Fills (s : List ℕ) (d : List Entry) (p : Made) : Type 0 where
  pub within : made_count p ≤ length d
  pub answers : p ≡ (index_call s d).answer
  pub leaves : walked_entries s walk_start (made_count p) ++ drop (made_count p) d ≡ (index_call s d).buffer

count_of : (fs : List Field) → length (index_of fs) ≡ length fs
unfolding index_of
count_of fs = index-count (profile fs) first 0 0 fs

module _ (s : List ℕ) (d : List Entry) where
  -- a refusal writes nothing
  fills-nothing : (r : Refusal) → index s (length d) ≡ refused r → Fills s d (Err r)
  unfolding walked_entries
  fills-nothing r e = record { within = zero-le; answers = rw e; leaves = rw e }

  module _ (q : Parsed) (e : read s ≡ done q) where
    abbrev n : ℕ
    n = length q.fields

    by-room : (b : Bool) → leb n (length d) ≡ b → index s (length d) ≡ with_room b n (index_of q.fields) → Fills s d (plan_index (judge s) (length d))
    unfolding judge
    by-room true h i =
        rw (e, h) (record {
          within = leb-true n (length d) h;
          answers = rw (i, count_of q.fields);
          leaves = rw (i, count_of q.fields, entries-are s q e);
        })
    by-room false h i = rw (e, h) (fills-nothing (refusal no_room n 0) i)

-- The plan that is made for a set and the room of d: its answer is that of the call, and the loop leaves d as the call says.
pub fills : (s : List ℕ) (d : List Entry) → Fills s d (plan_index (judge s) (length d))
unfolding judge index
fills s d = go (read s) refl
  where
    go : (r : Reply Parsed) → read s ≡ r → Fills s d (plan_index (judge s) (length d))
    go (refused x) e = rw e (fills-nothing s d x (rw e))
    go (done q) e = by-room s d q e (leb (length q.fields) (length d)) refl (rw e)

-- the first n entries of d, as a part of it that begins with the first
pub front-part : (d es : List Entry) (n a m : ℕ) → a ≡ 0 → m ≡ n → take a d ++ (es ++ drop m (drop a d)) ≡ es ++ drop n d
front-part d es n a m z e = rw (z, e) refl

-- what is left, by what the loop left: the same list, as the loop's part says it
pub left-as : (o x y z : List Entry) → o ≡ x → y ≡ z → x ≡ y → o ≡ z
left-as o x y z p q r = p ∙ r ∙ q

-- of a refusal no entry is left
pub nothing-left : (s : List ℕ) (d : List Entry) (r : Refusal) → Fills s d (Err r) → d ≡ (index_call s d).buffer
unfolding walked_entries
nothing-left s d r f = f.leaves
