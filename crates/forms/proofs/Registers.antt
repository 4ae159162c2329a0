-- Registers of 8 bytes one after another: pieces of one size, each of which is found again at its place.
-- Assumes nothing.
use Prim.Native.Nat.{ℕ, ◌*◌, ◌<◌, ◌^◌}
use mathlib.Core.Path.{◌≡◌, sym, ◌∙◌}
use mathlib.Core.List.{List}
use native.Mathlib.Omega.{arith}
use lib.ListN.{length, get_or, take, drop}
use lib.Seq.{take_all}
use Rattle.lists.specs.Lists.{Each, table}
use Rattle.lists.proofs.Tables.{get_or-table, is_table}
use Rattle.forms.specs.Numbers.{big, number_in, registers}
use Rattle.forms.proofs.Slices.{length_part, each_part, each_at}
use Rattle.forms.proofs.Numbers.{length-big, value_big, big_value}
use Rattle.forms.proofs.Pieces.{joined_equal, length_even, even_part, even_cut}

pub length-registers : (n : ℕ) (values : List ℕ) → length (registers n values) ≡ 8 * n
unfolding registers
length-registers n values = length_even 8 n (λ k. big 8 (get_or values k 0)) (λ k h. length-big 8 (get_or values k 0))

pub part_registers : (n : ℕ) (values : List ℕ) (k : ℕ) → k < n → take 8 (drop (8 * k) (registers n values)) ≡ big 8 (get_or values k 0)
unfolding registers
part_registers n values = even_part 8 n (λ k. big 8 (get_or values k 0)) (λ k h. length-big 8 (get_or values k 0))

-- read back
pub read_registers : (n : ℕ) (values : List ℕ) → length values ≡ n → Each (λ x. x < 2 ^ 64) values
    → table n (λ k. number_in (registers n values) (8 * k) 8) ≡ values
read_registers n values e h =
    sym (is_table n _ 0 values e (λ k l. sym (rw (part_registers n values k l)
    (value_big 8 (get_or values k 0) (each_at (λ x. x < 2 ^ 64) values k 0 h (omega arith))))))

-- written back
pub write_registers : (n : ℕ) (l : List ℕ) → length l ≡ 8 * n → Each (λ b. b < 256) l
    → registers n (table n (λ k. number_in l (8 * k) 8)) ≡ l
unfolding registers
write_registers n l e h =
    joined_equal n _ (λ k. take 8 (drop (8 * k) l)) (λ k s. rw (get_or-table n (λ i. number_in l (8 * i) 8) k 0 s)
    (big_value 8 (take 8 (drop (8 * k) l)) (length_part (8 * k) 8 l (omega arith)) (each_part (λ b. b < 256) (8 * k) 8 l h)))
    ∙ even_cut 8 n l
    ∙ take_all (8 * n) l (omega arith)
