-- A lane that is on reads both bytes of its word inside memory, where no word was found outside. None is found where all words up to the
-- last lane lie inside.
-- Assumes nothing.
use Rattle.std.proofs.Common.{◌≡◌, ℕ, ◌+◌, ◌*◌, ◌%◌, ◌^◌, ◌<◌, ◌≤◌, Bool, true, false, cond, ◌&&◌, leb, arith, leb-false}
use mathlib.Core.Bool.{and-false}
use native.Mathlib.Decide.{dec_lt}
use borrow.Author.Tests.{lt-leb}
use Rattle.lists.specs.Lists.{some}
use Rattle.lists.proofs.Tests.{neither}
use Rattle.machine.specs.Memory.{word_from, word_bytes, outside}
use Rattle.machine.specs.declared.Located.TheVariants.{Words}
use Rattle.evex.specs.Bits.{is_set}
use Rattle.evex.proofs.Bitwise.{bit_above}
use Rattle.lists.proofs.Filling.{nowhere, found_none, found_all}

pub record Inside (length w : ℕ) : Type 0 where
  pub below : w + 1 < length
  pub plain : (w + 1) % 2 ^ 64 ≡ w + 1

word_inside : (length w : ℕ) → length < 2 ^ 64 → some (λ a. leb length a) (word_bytes w) ≡ false → Inside length w
word_inside length w h e =
    let both = neither _ _ e in
    let first : w < length = leb-false length w both.0 in
    let second : (w + 1) % 2 ^ 64 < length = leb-false length ((w + 1) % 2 ^ 64) (neither _ _ both.1).0 in
    record { below = omega arith; plain = omega arith }

pub inside : (on : ℕ → Bool) (length at : ℕ) (broadcast : Bool) (j : ℕ) → length < 2 ^ 64
    → outside on length (Words at broadcast) ≡ false → j < 32 → on j ≡ true → Inside length (word_from at broadcast j)
unfolding outside
inside on length at broadcast j l e h t =
    word_inside length (word_from at broadcast j) l
    (rw t at (nowhere (λ k. on k && some (λ a. leb length a) (word_bytes (word_from at broadcast k))) 32 j e h))

-- where all words up to the last are inside, no lane that is on reads outside
pub none_outside : (on length at : ℕ) (broadcast : Bool) (end : ℕ) → on < 2 ^ end → length < 2 ^ 64 → at + 2 * cond broadcast 1 end ≤ length
    → false ≡ outside (is_set on) length (Words at broadcast)
unfolding outside
none_outside on length at broadcast end fits l h = found_all found_none (λ k _. at_each k)
  where
    fine : (w : ℕ) → w + 1 < length → some (λ a. leb length a) (word_bytes w) ≡ false
    fine w k =
        let plain : (w + 1) % 2 ^ 64 ≡ w + 1 = omega arith in
        rw (plain, lt-leb length w (omega arith), lt-leb length (w + 1) k)

    below : (broadcast : Bool) → at + 2 * cond broadcast 1 end ≤ length → (k : ℕ) → k < end → word_from at broadcast k + 1 < length
    below true h k m = omega arith
    below false h k m = omega arith

    at_each : (k : ℕ) → (is_set on k && some (λ a. leb length a) (word_bytes (word_from at broadcast k))) ≡ false
    at_each k =
        elim (dec_lt k end) [
          | yes m ↦ rw (fine (word_from at broadcast k) (below broadcast h k m)) (and-false (is_set on k))
          | no m ↦ let g : end ≤ k = omega arith in rw (bit_above on end k fits g)
        ]
