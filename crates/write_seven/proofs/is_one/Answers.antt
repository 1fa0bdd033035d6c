-- `is_one`: by the length of the content.
use Rattle.write_seven.proofs.ListSevenLaws.{other_length, one-byte}
use Rattle.write_seven.proofs.is_one.Goals as goal

pub returns-then-bytes-ne1 : goal.returns-then-bytes-ne1
returns-then-bytes-ne1 c = other_length _ _ _ c.requires c.if-bytes-ne1.true

pub returns : goal.returns
returns c =
    one-byte _ _ _ c.requires c.if-bytes-ne1.false
