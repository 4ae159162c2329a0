use Rattle.std.proofs.Common.{rules}
use Rattle.half.proofs.Scales.{up_place, down_place}
use Rattle.half.proofs.product.product_place.Goals as goal

pub returns-in-Above : goal.returns-in-Above
returns-in-Above c = search (rules, up_place)

pub returns-in-Below : goal.returns-in-Below
returns-in-Below c = search (rules, down_place)
