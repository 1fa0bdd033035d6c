-- `unfolding recode_computes` opens every definition of recoding at once, for an example that is proved by computation; those of sets are opened by `computes` of `meaning`.
use Rattle.meaning_recode.specs.Codes.{to1252, to437, table_into}
use Rattle.meaning_recode.specs.Recoding.{line_names_code, names_code, in_code, all_recoded, no_character_from, recode_faults, recode_lines, recode}

unfoldable pub recode_computes : Unit {0}
unfolding to1252 to437 table_into line_names_code names_code in_code all_recoded no_character_from recode_faults recode_lines recode
recode_computes = tt
