-- A turn of the loops over registers: the part from 8 k to 8 (k + 1) is lent, or it is the part's chunk k.
-- Assumes nothing.
use Prim.Native.Nat.{ℕ, zero, suc, ◌+◌, ◌-◌, ◌*◌, ◌<◌}
use mathlib.Core.Path.{◌≡◌, refl, sym, ◌∙◌}
use mathlib.Core.List.{List, []}
use native.Mathlib.Nat.{add_comm, mul-zero, mul-suc}
use native.Mathlib.Omega.{arith}
use lib.ListN.{length, get_or, take, drop}
use lib.Seq.{drop-drop}
use Rattle.std.specs.Simd.{first_chunks}
use Rattle.lists.specs.Lists.{table}
use Rattle.lists.proofs.Tables.{get_or-table}
use Rattle.forms.specs.Numbers.{big, value_from, number_in, registers}
use Rattle.forms.proofs.Slices.{length_part}
use Rattle.forms.proofs.Registers.{part_registers}

eight : (k : ℕ) → 8 * (k + 1) - 8 * k ≡ 8
eight k = omega arith

pub written_register : (n : ℕ) (values part : List ℕ) (k : ℕ) → k < n → length part ≡ 8 * n
    → big (length (take (8 * (k + 1) - 8 * k) (drop (8 * k) part))) (get_or values k 0) ≡ take (8 * (k + 1) - 8 * k)
    (drop (8 * k) (registers n values))
written_register n values part k h e = rw (eight k, length_part (8 * k) 8 part (omega arith)) (sym (part_registers n values k h))

-- chunk i of n chunks of m elements
pub chunk_is : {A : Type 0} (m n : ℕ) (l : List A) (i : ℕ) → i < n → get_or (first_chunks m n l) i [] ≡ take m (drop (m * i) l)
chunk_is m zero l i h = absurd (omega arith)
chunk_is m (suc n) l zero h = rw mul-zero refl
chunk_is m (suc n) l (suc i) h = chunk_is m n (drop m l) i (omega arith) ∙ rw (mul-suc m i, drop-drop (m * i) m l, add_comm m (m * i))

pub read_register : (part : List ℕ) {rows : List (List ℕ)} {n : ℕ} (m k : ℕ) → rows ≡ first_chunks 8 n part → k < n → k < m
    → value_from 0 (get_or rows k []) ≡ get_or (table m (λ i. number_in part (8 * i) 8)) k 0
read_register part {n = n} m k e h g = rw (e, chunk_is 8 n part k h) (sym (get_or-table m (λ i. number_in part (8 * i) 8) k 0 g))
