-- An item's step, by the parts of the item, and the tests of what it gave.
-- Assumes nothing.
use Prim.Native.Nat.{ℕ}
use mathlib.Core.Path.{◌≡◌, ◌∙◌}
use mathlib.Core.Bool.{Bool, not, ◌||◌}
use mathlib.Core.List.{List}
use lib.Dec.{eqb}
use Rattle.machine.specs.State.{State, Stepped}
use Rattle.machine.specs.Step.{step}
use Rattle.recording.specs.Replay.{step_of, shown, same_bytes, differs}
use Rattle.replayer.specs.Work.{IsItem}
use Rattle.replayer.specs.declared.item.Item.{Item}

module _ {bytes : List ℕ} {item : Item} (I : IsItem bytes item) (s : State) {o : Stepped}
    (e : o ≡ step item.memory.now s item.code.now) where
  pub played : o ≡ step_of s bytes
  played = e ∙ rw (I.code, I.memory)

  pub is_differs : {number control : ℕ} {shows : List ℕ} {other : Bool} → number ≡ item.number → control ≡ o.state.control
      → shows ≡ shown item.code.now o.answer.number o.state.vectors o.state.masks
      → other ≡ not (same_bytes shows item.destination.now)
      → (not (eqb o.answer.number number) || not (eqb control item.control) || other) ≡ differs (step_of s bytes) bytes
  unfolding differs
  is_differs n k h t = rw (t, ← played, n, k, I.number, I.control, h, I.code, I.destination)
