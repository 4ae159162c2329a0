use Rattle.std.proofs.Common.{rules}
use Rattle.half.proofs.Special.{two_nan, two_infinite, add_nan, add_invalid, add_left, add_right}
use Rattle.half.proofs.sum.special_sum.Goals as goal

pub returns-then-any_nan : goal.returns-then-any_nan
returns-then-any_nan c = λ mode unmasked_ue. search (rules, add_nan, two_nan)

pub returns-then-infinite-unlike_signs : goal.returns-then-infinite-unlike_signs
returns-then-infinite-unlike_signs c = λ mode unmasked_ue. search (rules, add_invalid, two_nan)

pub returns-then-infinite : goal.returns-then-infinite
returns-then-infinite c = λ mode unmasked_ue. search (rules, add_left, two_nan)

pub returns : goal.returns
returns c = λ mode unmasked_ue. search (rules, add_right, two_nan, two_infinite)
