-- How many bytes an instruction has (R3.14): the statements of specs/Sizes.antt.
-- Assumes nothing.
use mathlib.Core.Path.{refl}
use Rattle.evex.specs.List.{rows}
use Rattle.evex.specs.Fields.{takes_sib, head_of, listed, register_form, register_b, has_sib, base_bits, no_base, displacement_at}
use Rattle.evex.specs.Fields.{displacement_size, size, instruction}
use Rattle.evex.specs.Decode.{no_bytes, wrong_first_byte, fewer_than_six_bytes, wrong_fixed_bits, not_in_list, reserved_length}
use Rattle.evex.specs.Decode.{zeroing_without_mask, extra_source, scalar_broadcast, zeroing_mask, no_such_mask, reserved_forms}
use Rattle.evex.specs.Decode.{bytes_missing, head_conditions, row_conditions, refusals, decoded}
use Rattle.evex.specs.Sizes.{RowSizes, DecodedSizes, SizesReached}
use Rattle.evex.proofs.Lengths.{size_least, size_most}
use Rattle.evex.proofs.After.{whole, whole_size}

pub row_sizes : RowSizes
row_sizes h row = (size_least h row, size_most h row)

pub decoded_sizes : DecodedSizes
decoded_sizes code i e =
    let w = whole code e in
    let bounds = row_sizes (head_of code) w.row in
    rw (whole_size w) (bounds.0, bounds.1, w.there)

pub sizes_reached : SizesReached
unfolding rows takes_sib head_of listed register_form register_b has_sib base_bits no_base displacement_at displacement_size size
    instruction no_bytes wrong_first_byte fewer_than_six_bytes wrong_fixed_bits not_in_list reserved_length zeroing_without_mask
    extra_source scalar_broadcast zeroing_mask no_such_mask reserved_forms bytes_missing head_conditions row_conditions refusals
    decoded
sizes_reached = ((_, refl, refl), (_, refl, refl))
