-- `sources::memory_half` meets its contract: a lane that is on reads inside memory: see proofs/Words.antt.
use Rattle.std.proofs.Common.{length, sym, ◌∙◌}
use Rattle.evex.specs.Bits.{is_set}
use Rattle.machine.specs.Memory.{word_from}
use Rattle.sources.proofs.Words.{Inside, inside}
use Rattle.sources.proofs.memory_half.Goals.{After-word_from}
use Rattle.sources.proofs.memory_half.Goals as goal

-- the lane is on
known : (c : After-word_from)
    → Inside (length c.args.memory.now)
    (word_from c.args.at c.args.broadcast
    c.args.j)
known c =
    inside (is_set c.args.on) _ _ _ _ c.well_formed.1.0.0
    c.requires.0 c.requires.1
    (sym c.has.ensures ∙ c.if-has.true)

pub half_at-requires : goal.half_at-requires
half_at-requires c = rw c.word_from.ensures (known (goal.at.half_at-requires c).After-word_from).below

pub returns-then-has : goal.returns-then-has
returns-then-has c =
    rw (
      ← c.has.ensures,
      c.if-has.true,
      (known (goal.at.returns-then-has c).After-word_from).plain,
      ← c.word_from.ensures,
    ) c.half_at.ensures
