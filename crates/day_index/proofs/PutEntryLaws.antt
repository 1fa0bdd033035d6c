-- Numbers copied into a part of the slice are put over those that stood there. This knows nothing of sets.
use mathlib.Core.Path.{◌≡◌, refl}
use mathlib.Core.List.{List}
use Prim.Native.Nat.{ℕ}
use borrow.Rule.Slice.PartMut.{put_mid}
use lib.ListN.{length}
use lib.Seq.{drop-drop}
use Rattle.byte_put.specs.Places.{over}

pub part-put : (b x y : List ℕ) (to k : ℕ) → y ≡ x → k ≡ length x → put_mid to k b y ≡ over to x b
unfolding over
part-put b x y to k e n = rw (e, n, drop-drop (length x) to b) refl
