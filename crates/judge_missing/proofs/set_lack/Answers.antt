-- `set_lack` asks for the labels that the set type requires.
use mathlib.Core.Logic.{inl, inr}
use Rattle.meaning.specs.FieldTable.{field_table}
use Rattle.table_fields.specs.LabelNumbers.{label_number, rows_before}
use Rattle.judge_missing.specs.Lacks.{seen, set_lack, lack_all, lack_by}
use Rattle.judge_missing.proofs.set_lack.Goals as goal

pub returns-in-T6300 : goal.returns-in-T6300
unfolding set_lack lack_all lack_by seen label_number rows_before field_table
returns-in-T6300 c =
    elim c.in-T6300.is [ inl e ↦ rw e c.first_unseen.ensures | inr e ↦ rw e c.first_unseen.ensures ]

pub returns-in-T6301 : goal.returns-in-T6301
unfolding set_lack lack_all lack_by seen label_number rows_before field_table
returns-in-T6301 c =
    elim c.in-T6301.is [ inl e ↦ rw e c.first_unseen-in-T6301.ensures | inr e ↦ rw e c.first_unseen-in-T6301.ensures ]

pub returns-in-T6310 : goal.returns-in-T6310
unfolding set_lack lack_all lack_by seen label_number rows_before field_table
returns-in-T6310 c = rw c.in-T6310.is c.first_unseen-in-T6310.ensures
