-- `parts::byte_of` meets its contract: a shift by 8 times a number divides by that power of 256.
use Rattle.forms.proofs.Numbers.{power_bits}
use Rattle.parts.proofs.byte_of.Goals as goal

pub returns : goal.returns
returns c = rw (power_bits c.args.below)
