-- A turn of the loop that stores lanes: a lane that is kept is left in place, and the two bytes of any other are stored. And a register in
-- its file.
-- Assumes nothing.
use Prim.Native.Nat.{ℕ, ◌+◌, ◌-◌, ◌*◌, ◌/◌, ◌%◌, ◌^◌, ◌<◌, ◌≤◌}
use mathlib.Core.Path.{◌≡◌, refl, sym, ◌∙◌}
use mathlib.Core.Bool.{Bool, true, false, cond}
use mathlib.Core.List.{List, ◌++◌}
use native.Mathlib.Nat.{div-one}
use native.Mathlib.Omega.{arith}
use borrow.Author.Tests.{not-false}
use lib.ListN.{get_or, set, take, drop}
use lib.Seq.{drop-drop}
use Rattle.lists.proofs.Tests.{either_equal}
use Rattle.lists.proofs.Tables.{table_equal, part_at, paste_whole}
use Rattle.evex.specs.Bits.{is_set}
use Rattle.evex.proofs.Bitwise.{no_bit, bit_above}
use Rattle.machine.specs.State.{register_at, byte_at, byte_of_half}
use Rattle.machine.specs.Lanes.{Fill, computed, copied, filled, new_register, vectors_with}
use Rattle.machine.proofs.TwoRuns.{new_length}
use Rattle.store.specs.Work.{kept_or}
use Rattle.store.proofs.Kept.{other_lanes}
use Rattle.lists.proofs.Filling.{Filled, more, same}

-- a register's bytes in the place of the old ones
pub replaced : (how : ℕ → Fill) (file halves : List ℕ) (n : ℕ)
    → take (n * 64) file ++ (new_register how file halves ++ drop 64 (drop (n * 64) file)) ≡ vectors_with how file halves n
unfolding vectors_with
replaced how file halves n =
    rw (drop-drop 64 (n * 64) file) (sym (paste_whole file (n * 64) (new_register how file halves) 64 (new_length how file halves)))

-- byte q of register n
abbrev pub byte_of : (ℕ → Bool) → List ℕ → ℕ → List ℕ → ℕ → ℕ
byte_of kept halves n file q = filled file halves q (kept_or kept n (q / 2))

module _ (kept : ℕ → Bool) (halves : List ℕ) where
  pub byte_of_lem : (n : ℕ) (file : List ℕ) (q : ℕ)
      → byte_of kept halves n file q ≡ cond (kept (q / 2)) (byte_at file n q) (byte_of_half (get_or halves (q / 2) 0) q)
  byte_of_lem n file q = go (kept (q / 2))
    where
      go : (t : Bool)
          → filled file halves q (cond t (copied n) computed) ≡ cond t (byte_at file n q) (byte_of_half (get_or halves (q / 2) 0) q)
      go true = refl
      go false = refl

  -- ---- a register by itself, as a file's first

  own : (q : ℕ) → register_at 0 + q ≡ q
  own q = omega arith

  module _ (d : List ℕ) (j : ℕ) where
    even : byte_of kept halves 0 d (2 * j) ≡ cond (kept j) (get_or d (2 * j) 0) (get_or halves j 0 % 256)
    even =
        let half : 2 * j / 2 ≡ j = omega arith in
        let rest : 2 * j % 2 ≡ 0 = omega arith in
        byte_of_lem 0 d (2 * j) ∙ rw (own (2 * j), half, rest, div-one)

    odd : byte_of kept halves 0 d (2 * j + 1) ≡ cond (kept j) (get_or d (2 * j + 1) 0) (get_or halves j 0 / 256 % 256)
    odd =
        let half : (2 * j + 1) / 2 ≡ j = omega arith in
        let rest : (2 * j + 1) % 2 ≡ 1 = omega arith in
        byte_of_lem 0 d (2 * j + 1) ∙ rw (own (2 * j + 1), half, rest)

    module _ {l : List ℕ} (F : Filled (byte_of kept halves 0 d) 64 d l (2 * j)) (h : j < 32) where
      twice : 2 * (j + 1) ≡ 2 * j + 1 + 1
      twice = omega arith

      -- the lane is left,
      pub keeps : kept j ≡ true → Filled (byte_of kept halves 0 d) 64 d l (2 * (j + 1))
      keeps k = rw twice (same (same F (omega arith) (sym (rw k at even))) (omega arith) (sym (rw k at odd)))

      -- or stored
      pub stores : kept j ≡ false → {m : List ℕ} → m ≡ set (set l (2 * j) (get_or halves j 0 % 256)) (2 * j + 1) (get_or halves j 0 / 256 % 256)
          → Filled (byte_of kept halves 0 d) 64 d m (2 * (j + 1))
      stores k e = rw (twice, e) (more (more F (omega arith) (sym (rw k at even))) (omega arith) (sym (rw k at odd)))

  left : (d : List ℕ) (k : ℕ) → kept (k / 2) ≡ true → get_or d k 0 ≡ byte_of kept halves 0 d k
  left d k t = sym (byte_of_lem 0 d k ∙ rw (own k, t))

  -- ---- as a part of the file

  part : (file : List ℕ) (n : ℕ)
      → new_register (kept_or kept 0) (take 64 (drop (n * 64) file)) halves ≡ new_register (kept_or kept n) file halves
  unfolding new_register
  part file n =
      table_equal 64
      (λ q h.
      byte_of_lem 0 (take 64 (drop (n * 64) file)) q
      ∙ either_equal (byte_of_half (get_or halves (q / 2) 0) q) (kept (q / 2)) (λ _. rw (own q) (part_at file (n * 64) 64 q 0 h))
      ∙ sym (byte_of_lem n file q))

  pub pasted : (file : List ℕ) (n : ℕ)
      → take (n * 64) file ++ (new_register (kept_or kept 0) (take 64 (drop (n * 64) file)) halves ++ drop 64 (drop (n * 64) file))
      ≡ vectors_with (kept_or kept n) file halves n
  pasted file n = rw (part file n) (replaced (kept_or kept n) file halves n)

-- from the last lane that is not kept on all are
pub rest_left : (kept end : ℕ) (halves d : List ℕ) → kept < 2 ^ 32 → 2 ^ 32 - 1 - kept < 2 ^ end
    → (k : ℕ) → 2 * end ≤ k → k < 64 → get_or d k 0 ≡ byte_of (is_set kept) halves 0 d k
rest_left kept end halves d f h k l m =
    left (is_set kept) halves d k
    (not-false _ (sym (other_lanes kept (k / 2) f (omega arith)) ∙ bit_above (2 ^ 32 - 1 - kept) end (k / 2) h (omega arith)))

-- where no lane is kept, every one is computed
pub none_kept : (kept : ℕ) (d halves : List ℕ) → kept ≡ 0
    → new_register (λ j. computed) d halves ≡ new_register (kept_or (is_set kept) 0) d halves
unfolding new_register
none_kept kept d halves e = table_equal 64 (λ q h. rw (e, no_bit (q / 2)))
