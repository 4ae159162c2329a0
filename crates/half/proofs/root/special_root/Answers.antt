use Rattle.std.proofs.Common.{rules}
use Rattle.half.proofs.Special.{one_nan, root_nan, root_invalid, root_itself, radicand_itself}
use Rattle.half.proofs.root.special_root.Goals as goal

pub returns-then-any_nan : goal.returns-then-any_nan
returns-then-any_nan c = λ mode unmasked_ue. search (rules, root_nan, one_nan)

pub returns-then-sign_of-zero : goal.returns-then-sign_of-zero
returns-then-sign_of-zero c = λ mode unmasked_ue. search (rules, root_invalid, one_nan)

pub returns : goal.returns
returns c = λ mode unmasked_ue. search (rules, root_itself, radicand_itself, one_nan)
