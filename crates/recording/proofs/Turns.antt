-- One look of the replay at bytes, and what it comes to: the end, a bad item, one that differs, or the next.
-- Assumes nothing.
use Prim.Native.Nat.{ℕ, zero, suc, ◌+◌, ◌<◌}
use mathlib.Core.Path.{◌≡◌, refl}
use mathlib.Core.Bool.{true, false}
use mathlib.Core.List.{List}
use native.Mathlib.Omega.{arith}
use borrow.Author.Tests.{eq-eqb, ne_eqb}
use lib.Dec.{eqb}
use lib.ListN.{length, drop}
use Rattle.machine.specs.State.{State}
use Rattle.recording.specs.Item.{item_size, is_bad}
use Rattle.recording.specs.Replay.{step_of, differs, replay_from}
use Rattle.recording.specs.declared.Report.TheVariants.{Same, Differs, BadItem}
use Rattle.recording.proofs.Tests.{well_formed}

module _ (s : State) (bytes : List ℕ) (k : ℕ) where
  pub turn_ends : (m : ℕ) → length bytes ≡ 0 → replay_from m s bytes k ≡ Same k
  unfolding replay_from
  turn_ends zero e = refl
  turn_ends (suc m) e = rw (eq-eqb (length bytes) 0 e)

  left : 0 < length bytes → eqb (length bytes) 0 ≡ false
  left h = ne_eqb (length bytes) 0 (λ e. omega (arith, e, h))

  module _ (m : ℕ) where
    pub turn_bad : 0 < length bytes → is_bad bytes ≡ true → replay_from (suc m) s bytes k ≡ BadItem k
    unfolding replay_from
    turn_bad h b = rw (left h, b)

    module _ (b : is_bad bytes ≡ false) where
      -- an item that is well formed has bytes
      there : 0 < length bytes
      there = omega (arith, (well_formed bytes b).whole)

      pub turn_differs : differs (step_of s bytes) bytes ≡ true → replay_from (suc m) s bytes k ≡ Differs k
      unfolding replay_from
      turn_differs d = rw (left there, b, d)

      pub turn_on : differs (step_of s bytes) bytes ≡ false
          → replay_from (suc m) s bytes k ≡ replay_from m (step_of s bytes).state (drop (item_size bytes) bytes) (k + 1)
      unfolding replay_from
      turn_on d = rw (left there, b, d)
