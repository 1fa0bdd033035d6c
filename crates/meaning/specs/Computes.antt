-- `unfolding computes` opens every definition of specs/ at once, for an example that is proved by computation.
use Rattle.meaning.specs.Limits.{type_of}
use Rattle.meaning.specs.Field.{elem}
use Rattle.meaning.specs.Pieces.{pieces}
use Rattle.meaning.specs.Lines.{line_faults}
use Rattle.meaning.specs.Entries.{entry_faults}
use Rattle.meaning.specs.Tables.{rows6300, rows6301, rows6302, rows6310, rows6311, table, row_label, find_in, find}
use Rattle.meaning.specs.Kinds.{is_alnum, is_num, decimals, whole, unsigned, is_float, two_at, is_rule020, is_rule008, is_rule090, first_is_in}
use Rattle.meaning.specs.Kinds.{is_rule112, is_rule116, is_charset, is_version, same_bytes, is0210, of_kind}
use Rattle.meaning.specs.FieldTable.{field_table, field_row_in, field_row, has_length, fits_row, fits_label}
use Rattle.meaning.specs.Groups.{belongs, role_of, role, next, after, label_faults, stays}
use Rattle.meaning.specs.Missing.{on_condition, needed, rows_under, insert, ascending, missing_label, lacking_of, lacking, open_lacking, groups_lacking, missing_faults}
use Rattle.meaning.specs.Rules.{type_named, profile, start_faults, fits, current, content_faults, content_rules, line_rules, rules_from}
use Rattle.meaning.specs.Rules.{says_seven_bit, seven_bit, high_from, high_faults, sum_faults, rule_faults, set_faults}
use Rattle.meaning.specs.Reading.{scan, read, judge}
use Rattle.meaning.specs.Index.{header_line, entries_from, index_of, index}
use Rattle.meaning.specs.Lists.{list, write}
use Rattle.meaning.specs.Corrections.{change_faults, correct}
use Rattle.meaning.specs.Views.{sheet_entry_faults, latest, viewing, viewed, view}

unfoldable pub computes : Unit {0}
unfolding type_of elem pieces line_faults entry_faults rows6300 rows6301 rows6302 rows6310 rows6311 table row_label find_in find is_alnum is_num decimals
    whole unsigned is_float two_at is_rule020 is_rule008 is_rule090 first_is_in is_rule112 is_rule116 is_charset is_version same_bytes is0210 of_kind field_table
    field_row_in field_row has_length fits_row fits_label belongs role_of role next after label_faults on_condition needed rows_under insert ascending
    missing_label lacking_of lacking open_lacking stays groups_lacking missing_faults type_named profile start_faults fits current content_faults content_rules
    line_rules rules_from says_seven_bit seven_bit high_from high_faults sum_faults rule_faults set_faults scan read judge header_line entries_from index_of index
    list write change_faults correct sheet_entry_faults latest viewing viewed view
computes = tt
