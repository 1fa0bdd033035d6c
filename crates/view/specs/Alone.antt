-- The walk of `viewed` after `judge`: the tests of an accepted set, then the sheet, in the code's order.
-- What it means is `viewed-accepted` in proofs/AloneLaws.
use Rattle.std.specs.Prelude.{cond, ◌&&◌, List, ℕ, length, leb, Err}
use Rattle.meaning.specs.declared.Shape.{Shape}
use Rattle.meaning.specs.Refusals.{refusal, bad_use, no_such_line}
use Rattle.view_sheet.specs.Showing.{shown_under}
use Rattle.meaning.specs.Results.{Viewed}

-- the set alone (18), the asked line (19), then the sheet
unfoldable pub shown_alone : List ℕ → Shape → List ℕ → ℕ → Viewed
shown_alone s x h n =
    cond (leb (length s) x.length) (cond (leb 1 n && leb n x.lines) (shown_under s x h n) (Err (refusal no_such_line x.length 0)))
    (Err (refusal bad_use x.length 0))
