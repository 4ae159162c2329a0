-- The replay by the tests of the code: whether the saved form is there and loads, and the items behind it.
-- Assumes nothing.
use Prim.Native.Nat.{ℕ, ◌<◌}
use mathlib.Core.Path.{◌≡◌, ◌∙◌}
use mathlib.Core.List.{List}
use borrow.Author.Tests.{eq-eqb, ne_eqb}
use lib.ListN.{length}
use Rattle.std.specs.List.{IsSplitAt}
use Rattle.machine.specs.State.{State}
use Rattle.forms.specs.Saved.{size_at, load, blank, load_front}
use Rattle.forms.proofs.Front.{front_cut}
use Rattle.recording.specs.Replay.{replay_from, replay}
use Rattle.recording.specs.declared.Report.{Report}
use Rattle.recording.specs.declared.Report.TheVariants.{BadState}

module _ (r : List ℕ) {b : ℕ} (size : b ≡ size_at r) where
  pub cut : length r < b → BadState ≡ replay r
  unfolding replay
  cut h = rw (front_cut r (rw size at h))

  module _ {front items : List ℕ} (p : IsSplitAt r b front items) {s : State} {n : ℕ}
      (l : record { number = n; state = s } ≡ load front blank) where
    loaded : record { number = n; state = s } ≡ load_front r
    unfolding load_front
    loaded = l ∙ rw (p.1, size)

    pub not_loaded : (n ≡ 0 → ⊥) → BadState ≡ replay r
    unfolding replay
    not_loaded z = rw (← loaded, ne_eqb n 0 z)

    pub replays : n ≡ 0 → {x : Report} → x ≡ replay_from (length items) s items 0 → x ≡ replay r
    unfolding replay
    replays z e = e ∙ rw (p.2, size) (rw (← loaded, eq-eqb n 0 z))
