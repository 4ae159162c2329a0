use Rattle.std.proofs.Common.{rules}
use Rattle.half.proofs.Special.{fused_nan, fused_invalid, fused_cancels, fused_infinite, fused_addend, other_infinite}
use Rattle.half.proofs.fused.special_fused.Goals as goal

pub returns-then-any_nan : goal.returns-then-any_nan
returns-then-any_nan c = λ mode unmasked_ue. search (rules, fused_nan)

pub returns-then-zero_times_infinity : goal.returns-then-zero_times_infinity
returns-then-zero_times_infinity c = λ mode unmasked_ue. search (rules, fused_invalid)

pub returns-then-infinite-neg : goal.returns-then-infinite-neg
returns-then-infinite-neg c = λ mode unmasked_ue. search (rules, fused_cancels)

pub returns-then-infinite : goal.returns-then-infinite
returns-then-infinite c = λ mode unmasked_ue. search (rules, fused_infinite)

pub returns : goal.returns
returns c = λ mode unmasked_ue. search (rules, fused_addend, other_infinite)
