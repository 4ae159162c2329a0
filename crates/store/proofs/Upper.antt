-- The 64 bytes of a scalar instruction's destination: lanes 1 to 7 from another register, lane 0 kept or stored, 0 above.
-- Assumes nothing.
use Prim.Native.Nat.{ℕ, ◌+◌, ◌-◌, ◌*◌, ◌/◌, ◌%◌, ◌<◌, ◌≤◌}
use mathlib.Core.Path.{◌≡◌, refl, sym, ap, ◌∙◌}
use mathlib.Core.Bool.{Bool, true, false, cond}
use mathlib.Core.List.{List, [], ◌∷◌, ◌++◌}
use native.Mathlib.Decide.{dec_lt}
use native.Mathlib.Nat.{div-one}
use native.Mathlib.Omega.{arith}
use borrow.Author.Tests.{lt-ltb, le-ltb}
use lib.Dec.{ltb, lit<, lit≤}
use lib.ListN.{length, get_or, set, take, drop, replicate, length-append, length-drop, get_or-append, get_or-replicate}
use lib.Seq.{paste, length-take-le}
use Rattle.std.proofs.lemmas.List.{get_or-append_right}
use Rattle.lists.specs.Lists.{or_all, table}
use Rattle.lists.proofs.Tables.{table_equal, length-table, get_or-table, is_table, part_at}
use Rattle.machine.specs.State.{register_at, byte_at}
use Rattle.machine.specs.Lanes.{lanes_on, Fill, computed, copied, zeroed, filled, new_register, vectors_with}
use Rattle.store.specs.Work.{kept_or, scalar_or}
use Rattle.lists.proofs.Filling.{none, more, all, or_none, or_more, or_all_lem}
use Rattle.store.proofs.Stored.{replaced, byte_of_lem}

-- ---- lane 0 of the results

pub lane_half : (p : ℕ → Bool) (f : ℕ → ℕ) → get_or (lanes_on p f) 0 0 ≡ cond (p 0) (f 0) 0
lane_half p f = get_or-table 32 (λ j. cond (p j) (f j) 0) 0 0 (lit< tt)

-- where no other lane is on
pub one_lane : (p : ℕ → Bool) (f : ℕ → ℕ) → ((j : ℕ) → 1 ≤ j → p j ≡ false) → cond (p 0) (f 0) 0 ≡ or_all (lanes_on p f)
one_lane p f off = or_all_lem (or_more or_none refl) (lit≤ tt) (λ k h. rw (off k h))

-- ---- the destination

-- sixteen bytes of a register, and 0 behind them
pub lower_is : (file : List ℕ) (n : ℕ) → n < 32 → length file ≡ 2048
    → take 16 (drop (n * 64) file) ++ replicate 48 0 ≡ table 64 (λ q. cond (ltb q 16) (byte_at file n q) 0)
lower_is file n h size = is_table 64 _ 0 _ (length-append (take 16 (drop (n * 64) file)) (replicate 48 0) ∙ rw front) at_each
  where
    front : length (take 16 (drop (n * 64) file)) ≡ 16
    front = length-take-le 16 (drop (n * 64) file) (rw (length-drop (n * 64) file, size) (omega (arith, h)))

    at_each : (k : ℕ) → k < 64 → get_or (take 16 (drop (n * 64) file) ++ replicate 48 0) k 0 ≡ cond (ltb k 16) (byte_at file n k) 0
    at_each k l =
        elim (dec_lt k 16) [
          | yes y ↦ rw (lt-ltb k 16 y) (get_or-append (take 16 (drop (n * 64) file)) (replicate 48 0) 0 k (rw front y) ∙ part_at file (n * 64) 16 k 0 y)
          | no y ↦
              rw (le-ltb k 16 (omega arith))
              (get_or-append_right _ (replicate 48 0) 16 k 0 front (omega arith) ∙ get_or-replicate 48 (k - 16) 0 0 (omega arith))
        ]

-- byte q of register n, whose lanes 1 to 7 come from another
module _ (kept : ℕ → Bool) (halves : List ℕ) (from n : ℕ) (file : List ℕ) where
  abbrev scalar_byte : ℕ → ℕ
  scalar_byte q = filled file halves q (scalar_or kept from n (q / 2))

  -- the other's bytes up to lane 7, and 0 above
  abbrev lower_byte : ℕ → ℕ
  lower_byte q = cond (ltb q 16) (byte_at file from q) 0

  above : (q : ℕ) → 2 ≤ q → lower_byte q ≡ scalar_byte q
  above q h =
      elim (dec_lt q 16) [
        | yes l ↦ rw (le-ltb (q / 2) 1 (omega arith), lt-ltb (q / 2) 8 (omega arith), lt-ltb q 16 l)
        | no l ↦ rw (le-ltb (q / 2) 1 (omega arith), le-ltb (q / 2) 8 (omega arith), le-ltb q 16 (omega arith))
      ]

  -- lane 0's two: its own where it is kept, and else the result's
  abbrev low : ℕ
  low = cond (kept 0) (get_or file (n * 64) 0) (get_or halves 0 0 % 256)

  abbrev high : ℕ
  high = cond (kept 0) (get_or file (n * 64 + 1) 0) (get_or halves 0 0 / 256 % 256)

  low_is : low ≡ scalar_byte 0
  low_is =
      let start : n * 64 + 0 ≡ n * 64 = omega arith in
      sym (byte_of_lem kept halves n file 0 ∙ rw (start, div-one))

  -- the register as it is stored: the other's bytes, and then those two
  abbrev around : List ℕ
  around = set (set (table 64 lower_byte) 0 low) 1 high

  around_is : around ≡ new_register (scalar_or kept from n) file halves
  unfolding new_register
  around_is =
      all (more (more (none {d = table 64 lower_byte} (length-table 64 lower_byte)) (lit< tt) low_is) (lit< tt) (sym (byte_of_lem kept halves n file 1)))
      (λ k h l. get_or-table 64 lower_byte k 0 l ∙ above k h)

  pub stored : take (n * 64) file ++ (around ++ drop 64 (drop (n * 64) file)) ≡ vectors_with (scalar_or kept from n) file halves n
  stored = rw around_is (replaced (scalar_or kept from n) file halves n)

-- of the halves that of lane 0 alone counts
module _ (kept : ℕ → Bool) (halves : List ℕ) (from n : ℕ) (file : List ℕ) where
  by_first : (q : ℕ)
      → filled file (get_or halves 0 0 ∷ []) q (scalar_or kept from n (q / 2)) ≡ filled file halves q (scalar_or kept from n (q / 2))
  by_first q =
      elim (dec_lt (q / 2) 1) [
        | yes l ↦
            let first : q / 2 ≡ 0 = omega arith in
            rw (lt-ltb (q / 2) 1 l) (by_half q (rw first) (kept_or kept n (q / 2)))
        | no l ↦ rw (le-ltb (q / 2) 1 (omega arith)) (copied_or q (ltb (q / 2) 8))
      ]
    where
      by_half : (q : ℕ) → get_or (get_or halves 0 0 ∷ []) (q / 2) 0 ≡ get_or halves (q / 2) 0 → (f : Fill)
          → filled file (get_or halves 0 0 ∷ []) q f ≡ filled file halves q f
      by_half q e computed = rw e
      by_half q e (copied m) = refl
      by_half q e zeroed = refl

      copied_or : (q : ℕ) (t : Bool)
          → filled file (get_or halves 0 0 ∷ []) q (cond t (copied from) zeroed) ≡ filled file halves q (cond t (copied from) zeroed)
      copied_or q true = refl
      copied_or q false = refl

  pub first_alone :
      vectors_with (scalar_or kept from n) file (get_or halves 0 0 ∷ []) n ≡ vectors_with (scalar_or kept from n) file halves n
  unfolding vectors_with new_register
  first_alone = ap (λ (bytes : List ℕ). paste file (register_at n) bytes 64) (table_equal 64 (λ q _. by_first q))
