-- The lanes that are kept, as bits.
-- Assumes nothing.
use Prim.Native.Nat.{ℕ, ◌+◌, ◌-◌, ◌/◌, ◌%◌, ◌^◌, ◌<◌, ◌≤◌}
use mathlib.Core.Path.{◌≡◌, refl, ◌∙◌}
use mathlib.Core.Bool.{Bool, true, false, not, ◌&&◌, and-false}
use native.Mathlib.Decide.{dec_lt}
use native.Mathlib.Omega.{arith}
use borrow.Author.Tests.{lt-ltb, le-ltb}
use lib.Bits.{bit_and}
use lib.Dec.{ltb}
use Rattle.evex.specs.Bits.{is_set}
use Rattle.evex.specs.declared.Instruction.{Instruction}
use Rattle.evex.proofs.Bitwise.{and_bit, ones_bit, no_bit, inverted_bit}
use Rattle.sources.proofs.Sets.{same_sets}
use Rattle.store.specs.Work.{kept_by}

-- no lane with zeroing, or else those below the number of elements that are off
nowhere : (a b : Bool) → false ≡ (a && (b && false))
nowhere true true = refl
nowhere true false = refl
nowhere false b = refl

pub kept_none : (on : ℕ) (i : Instruction) → i.zeroing ≡ true → is_set 0 ≡ kept_by (is_set on) i
kept_none on i z = same_sets (λ j. no_bit j ∙ rw z (nowhere (not (is_set on j)) (ltb j i.elements)))

-- what is not in a set of lanes
pub other_lanes : (x j : ℕ) → x < 2 ^ 32 → j < 32 → is_set (2 ^ 32 - 1 - x) j ≡ not (is_set x j)
other_lanes x j f h =
    let whole : x / 2 ^ 0 % 2 ^ 32 ≡ x = omega arith in
    let place : 0 + j ≡ j = omega arith in
    rw (whole, place) at (inverted_bit x 0 32 j h)

pub kept_some : (on : ℕ) (i : Instruction) → on < 2 ^ 32 → i.elements ≤ 32 → i.zeroing ≡ false
    → is_set (bit_and (2 ^ 32 - 1 - on) (2 ^ i.elements - 1)) ≡ kept_by (is_set on) i
kept_some on i f h z = same_sets (λ j. and_bit (2 ^ 32 - 1 - on) (2 ^ i.elements - 1) j ∙ rw (ones_bit i.elements j, z) (at_each j))
  where
    at_each : (j : ℕ) → (is_set (2 ^ 32 - 1 - on) j && ltb j i.elements) ≡ (not (is_set on j) && (ltb j i.elements && true))
    at_each j =
        elim (dec_lt j i.elements) [
          | yes l ↦ rw (lt-ltb j i.elements l, other_lanes on j f (omega arith))
          | no l ↦ rw (le-ltb j i.elements (omega arith), and-false (is_set (2 ^ 32 - 1 - on) j), and-false (not (is_set on j)))
        ]
