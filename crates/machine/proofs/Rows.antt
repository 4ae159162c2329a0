-- The bytes to try, the starred rows, the two stages, the scalar steps and those that compare, by computation.
-- Assumes nothing.
use mathlib.Core.Path.{refl}
use lib.Ieee.{size}
use Rattle.half.specs.Format.{units}
use Rattle.half.specs.Exact.{against, whole, root_from, round_to}
use Rattle.half.specs.Round.{significant, encode, rounded_half}
use Rattle.half.specs.Modes.{mode_of_bits}
use Rattle.half.specs.Operations.{exact_sum, half_add, half_multiply, half_divide, half_root, half_multiply_add}
use Rattle.half.specs.Comparison.{relation, half_minimum, half_maximum, predicates, predicate_of, half_compare}
use Rattle.half.specs.Rows.{starred}
use Rattle.evex.specs.List.{rows}
use Rattle.evex.specs.Fields.{takes_sib, head_of, listed, register_form, register_b, vector_lanes, has_sib, base_bits, index_of, no_base, base_of}
use Rattle.evex.specs.Fields.{displacement_at, displacement_size, second, destination_of, first, elements, rounding, N, displacement_of}
use Rattle.evex.specs.Fields.{immediate_of, instruction}
use Rattle.evex.specs.Fields as fields
use Rattle.evex.specs.Decode.{no_bytes, wrong_first_byte, fewer_than_six_bytes, wrong_fixed_bits, not_in_list, reserved_length, zeroing_without_mask}
use Rattle.evex.specs.Decode.{extra_source, scalar_broadcast, zeroing_mask, no_such_mask, reserved_forms, bytes_missing, head_conditions}
use Rattle.evex.specs.Decode.{row_conditions, refusals, decoded}
use Rattle.lists.specs.Lists.{table}
use Rattle.machine.specs.Memory.{address_from, located, outside, on, needs_outside}
use Rattle.machine.specs.Lanes.{register_halves, memory_halves, gathered, operated, results, raised, raises_unmasked, control_after, fill}
use Rattle.machine.specs.Lanes.{new_register, vectors_with, vectors_after, masks_after}
use Rattle.machine.specs.Step.{
  wrong_vector_file,
  high_control_bit,
  outside_memory,
  unmasked_exception,
  before_seven,
  conditions,
  answer_of,
  stopped,
  completed,
  step,
}
use Rattle.machine.specs.Bytes.{DecodedBytes}
use Rattle.machine.specs.Rows.{StarredRows, TwoStages, ScalarRows, CompareRows}

computed : DecodedBytes × StarredRows × TwoStages × ScalarRows × CompareRows
unfolding size units against whole root_from round_to significant encode rounded_half mode_of_bits exact_sum half_add half_multiply
    half_divide half_root half_multiply_add relation half_minimum half_maximum predicates predicate_of half_compare starred rows
    takes_sib head_of listed register_form register_b vector_lanes has_sib base_bits index_of no_base base_of displacement_at
    displacement_size second destination_of first elements rounding fields.size N displacement_of immediate_of instruction
    no_bytes wrong_first_byte fewer_than_six_bytes wrong_fixed_bits not_in_list reserved_length zeroing_without_mask extra_source
    scalar_broadcast zeroing_mask no_such_mask reserved_forms bytes_missing head_conditions row_conditions refusals decoded table
    address_from located outside on needs_outside register_halves memory_halves gathered operated results raised
    raises_unmasked control_after fill new_register vectors_with vectors_after masks_after wrong_vector_file high_control_bit
    outside_memory unmasked_exception before_seven conditions answer_of stopped completed step
computed = ((refl, refl, refl, refl, refl, refl, refl, refl), refl, refl, refl, refl)

pub decoded_bytes : DecodedBytes
decoded_bytes = computed.0

pub starred_rows : StarredRows
starred_rows = computed.1

pub two_stages : TwoStages
two_stages = computed.2

pub scalar_rows : ScalarRows
scalar_rows = computed.3

pub compare_rows : CompareRows
compare_rows = computed.4
