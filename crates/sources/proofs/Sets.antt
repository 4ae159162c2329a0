-- The lanes that are on, as bits.
-- Assumes nothing.
use Rattle.std.proofs.Common.{◌≡◌, ℕ, ◌-◌, ◌^◌, Bool, ltb, List, get_or, sym, ne_eqb}
use mathlib.Core.Bool.{and_comm, and-true}
use lib.Bits.{bit_and}
use Rattle.evex.specs.Bits.{is_set}
use Rattle.evex.proofs.Bitwise.{and_bit, ones_bit}
use Rattle.machine.specs.Memory.{is_on}

pub same_sets : {f g : ℕ → Bool} → ((j : ℕ) → f j ≡ g j) → f ≡ g
same_sets h = λ i j. h j i

-- every lane below the number of elements, or those whose bit in the mask is one besides
pub on_all : (masks : List ℕ) (mask elements : ℕ) → mask ≡ 0 → is_set (2 ^ elements - 1) ≡ is_on masks mask elements
on_all masks mask elements e = same_sets (λ j. rw (ones_bit elements j, e) (sym (and-true (ltb j elements))))

pub on_some : (masks : List ℕ) (mask elements : ℕ) → (mask ≡ 0 → ⊥)
    → is_set (bit_and (get_or masks mask 0) (2 ^ elements - 1)) ≡ is_on masks mask elements
on_some masks mask elements n =
    same_sets
    (λ j. rw (and_bit (get_or masks mask 0) (2 ^ elements - 1) j, ones_bit elements j, ne_eqb mask 0 n)
    (and_comm (is_set (get_or masks mask 0) j) (ltb j elements)))
