-- The statement of specs/Rows.antt: both sides are computed.
-- Assumes nothing.
use mathlib.Core.List.{flatten}
use mathlib.Core.Path.{refl}
use lib.Ieee.{size}
use Rattle.lists.specs.Lists.{table}
use Rattle.half.specs.Format.{units}
use Rattle.half.specs.Exact.{against, whole, round_to}
use Rattle.half.specs.Round.{significant, encode, rounded_half}
use Rattle.half.specs.Modes.{mode_of_bits}
use Rattle.half.specs.Operations.{exact_sum, half_add, half_divide}
use Rattle.half.specs.Comparison.{relation, predicates, predicate_of, half_compare}
use Rattle.evex.specs.List.{rows}
use Rattle.evex.specs.Fields.{takes_sib, head_of, listed, register_form, register_b, vector_lanes, has_sib, base_bits, index_of, no_base, base_of}
use Rattle.evex.specs.Fields.{displacement_at, displacement_size, second, destination_of, first, elements, rounding, displacement_of}
use Rattle.evex.specs.Fields.{immediate_of, instruction}
use Rattle.evex.specs.Fields as fields
use Rattle.evex.specs.Decode.{no_bytes, wrong_first_byte, fewer_than_six_bytes, wrong_fixed_bits, not_in_list, reserved_length, zeroing_without_mask}
use Rattle.evex.specs.Decode.{extra_source, scalar_broadcast, zeroing_mask, no_such_mask, reserved_forms, bytes_missing, head_conditions}
use Rattle.evex.specs.Decode.{row_conditions, refusals, decoded}
use Rattle.machine.specs.Memory.{address_from, located, outside, on, needs_outside}
use Rattle.machine.specs.Lanes.{register_halves, memory_halves, gathered, operated, results, raised, raises_unmasked, control_after, fill}
use Rattle.machine.specs.Lanes.{new_register, vectors_with, vectors_after, masks_after}
use Rattle.machine.specs.Step.{
  wrong_vector_file,
  high_control_bit,
  outside_memory,
  unmasked_exception,
  before_seven,
  conditions,
  answer_of,
  stopped,
  completed,
  step,
}
use Rattle.forms.specs.declared.Version.{Version}
use Rattle.forms.specs.declared.Version.TheVariants.{One, Two}
use Rattle.forms.specs.Version.{version_of, no_version}
use Rattle.forms.specs.Numbers.{big, value_from, joined, registers}
use Rattle.forms.specs.File.{present, presence, pack, sum_to, unpack, packed_size, has_empty, file_form}
use Rattle.forms.specs.Form.{numbers, content, saved_form, loaded_state}
use Rattle.forms.specs.Saved.{size_at, wrong_size, wrong_length, wrong_file, source_conditions, load_conditions, load, blank, load_front}
use Rattle.recording.specs.Item.{memory_count, expected_control, expected_destination, is_bad}
use Rattle.recording.specs.Replay.{shown, differs, replay_from, replay}
use Rattle.recording.specs.Rows.{ReplayRows}

by_version : (P : Version → Type 0) → P One → P Two → (v : Version) → P v
by_version P one two One = one
by_version P one two Two = two

pub replay_rows : ReplayRows
unfolding flatten table size units against whole round_to mode_of_bits significant encode rounded_half exact_sum half_add half_divide relation
    predicates predicate_of half_compare rows takes_sib head_of listed register_form register_b vector_lanes has_sib base_bits
    index_of no_base base_of displacement_at displacement_size second destination_of first elements rounding fields.size
    displacement_of immediate_of instruction no_bytes wrong_first_byte fewer_than_six_bytes wrong_fixed_bits not_in_list
    reserved_length zeroing_without_mask extra_source scalar_broadcast zeroing_mask no_such_mask reserved_forms bytes_missing
    head_conditions row_conditions refusals decoded address_from located outside on needs_outside register_halves memory_halves
    gathered operated results raised raises_unmasked control_after fill new_register vectors_with vectors_after masks_after
    wrong_vector_file high_control_bit outside_memory unmasked_exception before_seven conditions answer_of stopped completed step big
    value_from joined registers version_of no_version present presence pack sum_to unpack packed_size has_empty file_form numbers
    content saved_form loaded_state size_at wrong_size wrong_length wrong_file source_conditions load_conditions load blank
    load_front memory_count expected_control expected_destination is_bad shown differs replay_from replay
replay_rows =
    record {
      none = by_version _ refl refl;
      four = by_version _ refl refl;
      seven = refl;
      eight = refl;
      other = refl;
      version = refl;
      rest = refl;
      cut = refl;
    }
