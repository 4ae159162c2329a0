-- `sources::mask::end_of` meets its contract: of 32 digits those that are no leading zeros.
use Rattle.std.proofs.Common.{◌≡◌, ℕ, ◌+◌, ◌-◌, ◌*◌, ◌^◌, ◌<◌, ◌≤◌, refl, arith}
use lib.Count.{count_leading_zeros, leading_length}
use Rattle.sources.proofs.mask.end_of.Goals as goal

-- by the digits, for any number that is the difference
ends : (lanes n : ℕ) → lanes < 2 ^ 32 → n ≡ 32 - count_leading_zeros 32 lanes → (lanes < 2 ^ n) × (n ≤ 32) × (2 ^ n ≤ 2 * lanes + 1)
ends lanes n fits e =
    let length = leading_length 32 lanes fits in
    let same : n ≡ length.0 = omega (arith, length.1) in
    (rw same length.2, omega arith, rw same length.3)

pub returns : goal.returns
returns c = ends c.args.lanes _ c.ranges.lanes.fits refl
