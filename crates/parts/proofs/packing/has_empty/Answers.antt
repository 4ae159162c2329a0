-- `parts::packing::has_empty` meets its contract: before register i none is marked and all zero.
use mathlib.Core.Path.{sym, ◌∙◌}
use native.Mathlib.Omega.{arith}
use Rattle.parts.proofs.Loops.{next_placed, placed_most}
use Rattle.parts.proofs.Packed.{packed_least, nothing_full, full_stands, one_empty, one_full, all_full}
use Rattle.parts.proofs.packing.has_empty.Goals as goal

pub word_in-word-requires : goal.word_in-word-requires
word_in-word-requires c = packed_least c.args.part.now c.requires

pub loop-i-init : goal.loop-i-init
loop-i-init c = nothing_full _ c.requires c.word_in-word.ensures

pub is_empty-requires : goal.is_empty-requires
is_empty-requires c = (
  omega arith,
  c.loop-i.invariant.read,
  c.loop-i.invariant.placed.is,
  full_stands c.loop-i.invariant (omega arith),
)

pub returns-then-is_empty : goal.returns-then-is_empty
returns-then-is_empty c = one_empty c.loop-i.invariant (omega arith) (sym c.is_empty.ensures ∙ c.if-is_empty.true)

pub overflow_add-at : goal.overflow_add-at
overflow_add-at c = omega (arith, placed_most (next_placed c.loop-i.invariant.placed (omega arith) c.size_of-at.ensures))

pub loop-i-preserved : goal.loop-i-preserved
loop-i-preserved c =
    one_full c.loop-i.invariant (omega arith)
    (sym c.is_empty.ensures ∙ c.if-is_empty.false) c.size_of-at.ensures

pub returns : goal.returns
returns c = all_full c.loop-i.invariant (omega arith)
