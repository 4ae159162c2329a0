use Rattle.std.proofs.Common.{rules}
use Rattle.half.proofs.Special.{two_nan, divide_nan, divide_invalid, divide_by_zero, divide_infinite, divide_by_infinite}
use Rattle.half.proofs.Special.{divisor_infinite}
use Rattle.half.proofs.quotient.special_quotient.Goals as goal

pub returns-then-any_nan : goal.returns-then-any_nan
returns-then-any_nan c = λ mode unmasked_ue. search (rules, divide_nan, two_nan)

pub returns-then-zero-infinite : goal.returns-then-zero-infinite
returns-then-zero-infinite c = λ mode unmasked_ue. search (rules, divide_invalid, two_nan)

pub returns-then-finite-zero : goal.returns-then-finite-zero
returns-then-finite-zero c = λ mode unmasked_ue. search (rules, divide_by_zero, two_nan)

pub returns-then-infinite : goal.returns-then-infinite
returns-then-infinite c = λ mode unmasked_ue. search (rules, divide_infinite, two_nan)

pub returns : goal.returns
returns c = λ mode unmasked_ue. search (rules, divide_by_infinite, divisor_infinite, two_nan)
