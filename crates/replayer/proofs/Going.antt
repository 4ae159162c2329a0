-- The loop over the items: from the place that has been reached, the replay goes on to the report of the whole.
-- Assumes nothing.
use Prim.Native.Nat.{ℕ, suc, ◌+◌, ◌-◌, ◌≤◌, ◌<◌}
use mathlib.Core.Path.{◌≡◌, sym, ap, ◌∙◌}
use mathlib.Core.Bool.{Bool, true, false}
use mathlib.Core.List.{List}
use native.Mathlib.Omega.{arith}
use borrow.Author.Tests.{eqb-true, eqb-false}
use lib.Dec.{eqb}
use lib.ListN.{length, length-drop}
use Rattle.machine.specs.State.{State}
use Rattle.recording.specs.Item.{item_size, is_bad}
use Rattle.recording.specs.Replay.{step_of, differs, replay_from}
use Rattle.recording.specs.Reports.{WellFormed}
use Rattle.recording.specs.declared.Report.{Report}
use Rattle.recording.specs.declared.Report.TheVariants.{Same, Differs, BadItem}
use Rattle.recording.proofs.Tests.{well_formed}
use Rattle.recording.proofs.Turns.{turn_ends, turn_bad, turn_differs, turn_on}
use Rattle.replayer.specs.Work.{IsItem}
use Rattle.replayer.specs.declared.item.Item.{Item}

pub record Going (items : List ℕ) (s₀ s : State) (rest : List ℕ) (count : ℕ) : Type 0 where
  pub on : replay_from (length items) s₀ items 0 ≡ replay_from (length items - count) s rest count
  pub counted : count + length rest ≤ length items

pub starts : (items : List ℕ) (s : State) → Going items s s items 0
starts items s =
    let z : length items - 0 ≡ length items = omega arith in
    record { on = rw z; counted = omega arith }

module _ {items : List ℕ} {s₀ s : State} {rest : List ℕ} {count : ℕ} (g : Going items s₀ s rest count) where
  abbrev all : Report
  all = replay_from (length items) s₀ items 0

  pub ends : {t : Bool} → t ≡ eqb (length rest) 0 → t ≡ true → Same count ≡ all
  ends e f = sym (g.on ∙ turn_ends s rest count (length items - count) (eqb-true (length rest) 0 (sym e ∙ f)))

  -- where more bytes follow
  module _ {t : Bool} (e : t ≡ eqb (length rest) 0) (f : t ≡ false) where
    h : 0 < length rest
    h = let n : (length rest ≡ 0 → ⊥) = eqb-false (length rest) 0 (sym e ∙ f) in omega (arith, n)

    -- how many turns are left, one at least
    abbrev turns : ℕ
    turns = length items - (count + 1)

    here : all ≡ replay_from (suc turns) s rest count
    here = let z : length items - count ≡ suc (length items - (count + 1)) = omega (arith, g.counted, h) in g.on ∙ rw z

    pub bad : is_bad rest ≡ true → BadItem count ≡ all
    bad b = sym (here ∙ turn_bad s rest count turns h b)

    module _ {item : Item} (I : IsItem rest item) where
      pub other : differs (step_of s rest) rest ≡ true → Differs count ≡ all
      other d = sym (here ∙ turn_differs s rest count turns I.good d)

      pub goes : differs (step_of s rest) rest ≡ false → {t : State} → t ≡ (step_of s rest).state
          → Going items s₀ t item.rest.now (count + 1)
      goes d f =
          let w : WellFormed rest = well_formed rest I.good in
          record {
            on = here ∙ turn_on s rest count turns I.good d ∙ rw (← f, ← I.rest);
            counted = omega (arith, g.counted, w.whole, ap length I.rest, length-drop (item_size rest) rest);
          }
