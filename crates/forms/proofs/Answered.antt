-- The two ways in which a save, a load and a move end, by the number.
-- Assumes nothing.
use Prim.Native.Nat.{ℕ}
use mathlib.Core.Path.{◌≡◌}
use mathlib.Core.Bool.{false}
use mathlib.Core.List.{List}
use lib.Dec.{eqb}
use Rattle.lists.specs.Lists.{first_of}
use Rattle.machine.specs.State.{State}
use Rattle.forms.specs.Version.{version_of}
use Rattle.forms.specs.Form.{saved_form}
use Rattle.forms.specs.Saved.{save_conditions, save, state_in, load_conditions, load, move_conditions, move}

module _ (n : ℕ) (s : State) (target : List ℕ) where
  pub save_done : first_of (save_conditions n s target) 0 ≡ 0 → save n s target ≡ record { number = 0; target = saved_form (version_of n) s }
  unfolding save
  save_done e = rw e

  pub save_refused : (k : ℕ) → eqb k 0 ≡ false → first_of (save_conditions n s target) 0 ≡ k
      → save n s target ≡ record { number = k; target = target }
  unfolding save
  save_refused k h e = rw (e, h)

module _ (bytes : List ℕ) (s : State) where
  pub load_done : first_of (load_conditions bytes s) 0 ≡ 0 → load bytes s ≡ record { number = 0; state = state_in bytes }
  unfolding load
  load_done e = rw e

  pub load_refused : (k : ℕ) → eqb k 0 ≡ false → first_of (load_conditions bytes s) 0 ≡ k → load bytes s ≡ record { number = k; state = s }
  unfolding load
  load_refused k h e = rw (e, h)

module _ (n : ℕ) (bytes target : List ℕ) where
  pub move_done : first_of (move_conditions n bytes target) 0 ≡ 0
      → move n bytes target ≡ record { number = 0; target = saved_form (version_of n) (state_in bytes) }
  unfolding move
  move_done e = rw e

  pub move_refused : (k : ℕ) → eqb k 0 ≡ false → first_of (move_conditions n bytes target) 0 ≡ k
      → move n bytes target ≡ record { number = k; target = target }
  unfolding move
  move_refused k h e = rw (e, h)
