-- `unfolding cable_computes` opens every definition of the cable at once, for an example that is proved by computation; those of sets are opened by `computes` of `meaning`.
use Rattle.meaning_cable.specs.Crc.{bit_turn, bits, byte_all, crc_from}
use Rattle.meaning_cable.specs.Stream.{stream, restored}
use Rattle.meaning_cable.specs.Blocks.{through_first, block_count, cut_at, joined, block_label, block_bytes, block_of, set_alone, blocks_of, block}
use Rattle.meaning_cable.specs.Sending.{next_count, is_ack, end_of, first_count, begun, acked, failed, turn_of, send, after}
use Rattle.meaning_cable.specs.Receiving.{form_ok, crc_ok, block_faults, put_by, open_by, answer_by, put_at, in_turn, turned, receive}

unfoldable pub cable_computes : Unit {0}
unfolding bit_turn bits byte_all crc_from stream restored through_first block_count cut_at joined block_label block_bytes block_of set_alone blocks_of block
    next_count is_ack end_of first_count begun acked failed turn_of send after form_ok crc_ok block_faults put_by open_by answer_by put_at in_turn turned receive
cable_computes = tt
