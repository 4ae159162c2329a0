use Rattle.std.proofs.Common.{rules}
use Rattle.half.proofs.Special.{two_nan, two_infinite, multiply_nan, multiply_invalid, multiply_infinite}
use Rattle.half.proofs.product.special_product.Goals as goal

pub returns-then-any_nan : goal.returns-then-any_nan
returns-then-any_nan c = λ mode unmasked_ue. search (rules, multiply_nan, two_nan)

pub returns-then-zero_times_infinity : goal.returns-then-zero_times_infinity
returns-then-zero_times_infinity c = λ mode unmasked_ue. search (rules, multiply_invalid, two_nan)

pub returns : goal.returns
returns c = λ mode unmasked_ue. search (rules, multiply_infinite, two_nan, two_infinite)
