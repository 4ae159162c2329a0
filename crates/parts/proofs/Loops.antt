-- What the loops over a register's bytes and over a file's registers keep from turn to turn.
-- Assumes nothing.
use Prim.Native.Nat.{ℕ, ◌+◌, ◌-◌, ◌*◌, ◌^◌, ◌≤◌, ◌<◌}
use mathlib.Core.Bool.{cond, not}
use mathlib.Core.Path.{◌≡◌, refl, sym, ◌∙◌}
use mathlib.Core.List.{List, [], ◌∷◌}
use native.Mathlib.Nat.{lt_of_lt_of_le, pow-le-pow_right}
use native.Mathlib.Omega.{arith}
use lib.Bits.{bit_or, or_zero_l, or_zero_r}
use lib.Dec.{eqb, lit≤}
use lib.ListN.{length, get_or, take, drop}
use Rattle.std.specs.List.{fold}
use Rattle.std.specs.Simd.{first_chunks}
use Rattle.lists.specs.Lists.{or_all, table}
use Rattle.lists.proofs.Tables.{or_not_zero, or_group}
use Rattle.lists.proofs.Binary.{binary_next}
use Rattle.machine.specs.State.{register_at}
use Rattle.forms.specs.File.{present, register, presence, sum_to, place_of}
use Rattle.parts.proofs.Turns.{chunk_is}
use Rattle.forms.proofs.Slices.{length_part}
use Rattle.forms.proofs.Pieces.{sum_next}
use Rattle.forms.proofs.Words.{digit, word_of, word_below}
use Rattle.forms.proofs.Files.{size_by, place_most, register_is}

-- ---- all bytes of a register or-ed: they come to 0 exactly if each is 0

all_zero : (l : List ℕ) → not (eqb (or_all l) 0) ≡ present l
unfolding present
all_zero [] = refl
all_zero (x ∷ l) = or_not_zero x (or_all l) ∙ rw (all_zero l)

or_folded : (l : List ℕ) (a : ℕ) → fold bit_or a l ≡ bit_or a (or_all l)
or_folded [] a = sym (or_zero_r a)
or_folded (x ∷ l) a = or_folded l (bit_or a x) ∙ or_group a x (or_all l)

pub present_is : (l : List ℕ) {all : ℕ} → all ≡ fold bit_or 0 l → not (eqb all 0) ≡ present l
present_is l e = rw (e, or_folded l 0, or_zero_l (or_all l)) (all_zero l)

-- register i, as the loops lend it
pub lent_register : (l : List ℕ) (i : ℕ) → take (64 * (i + 1) - 64 * i) (drop (64 * i) l) ≡ register l i
lent_register l i = let e : 64 * (i + 1) - 64 * i ≡ 64 = omega arith in rw e (register_is l i)

pub register_long : (l : List ℕ) (i : ℕ) → length l ≡ 2048 → i < 32 → length (take (64 * (i + 1) - 64 * i) (drop (64 * i) l)) ≡ 64
register_long l i h k = rw (lent_register l i) (length_part (register_at i) 64 l (omega arith))

-- and as one of the file's chunks
pub chunk_register : (l : List ℕ) {rows : List (List ℕ)} {n : ℕ} (i : ℕ) → rows ≡ first_chunks 64 n l → i < n → get_or rows i [] ≡ register l i
chunk_register l {n = n} i e h = rw e (chunk_is 64 n l i h ∙ register_is l i)

-- ---- the word of a file: x has the bits of the first i registers

pub record Marked (file : List ℕ) (x i : ℕ) : Type 0 where
  pub within : i ≤ 32
  pub is : x ≡ word_of i (λ j. present (register file j))

pub nothing_marked : (file : List ℕ) → Marked file 0 0
unfolding table
nothing_marked file = record { within = omega arith; is = refl }

module _ {file : List ℕ} {x i : ℕ} where
  next_word : Marked file x i → {y : ℕ} {l : List ℕ} → l ≡ register file i → y ≡ cond (present l) 1 0 * 2 ^ i
      → x + y ≡ word_of (i + 1) (λ j. present (register file j))
  next_word M g e = rw (M.is, e, g) (sym (binary_next i (digit (λ j. present (register file j)))))

  -- one bit more fits 32
  pub word_fits : Marked file x i → {y : ℕ} {l : List ℕ} → i < 32 → l ≡ register file i → y ≡ cond (present l) 1 0 * 2 ^ i → x + y < 2 ^ 32
  word_fits M h g e =
      rw (next_word M g e)
      (lt_of_lt_of_le (word_below (i + 1) (λ j. present (register file j)))
      (pow-le-pow_right {n = 2} (lit≤ tt) {i = i + 1} {j = 32} (omega arith)))

  pub one_marked : Marked file x i → {y : ℕ} {l : List ℕ} → i < 32 → l ≡ register file i → y ≡ cond (present l) 1 0 * 2 ^ i
      → Marked file (x + y) (i + 1)
  one_marked M h g e = record { within = omega arith; is = next_word M g e }

  pub all_marked : Marked file x i → 32 ≤ i → x ≡ presence file
  unfolding presence
  all_marked M h = let e : i ≡ 32 = omega (arith, M.within) in M.is ∙ rw e

-- ---- places by a word: `at` is where register i stands

pub record Placed (word at i : ℕ) : Type 0 where
  pub within : i ≤ 32
  pub is : at ≡ place_of word i

pub first_placed : (word : ℕ) → Placed word 4 0
unfolding sum_to
first_placed word = record { within = omega arith; is = refl }

module _ {word at i : ℕ} where
  pub next_placed : Placed word at i → {y : ℕ} → i < 32 → y ≡ size_by word i → Placed word (at + y) (i + 1)
  next_placed P h e = record { within = omega arith; is = rw (P.is, e, sum_next i (size_by word)) (omega arith) }

  pub last_placed : Placed word at i → 32 ≤ i → at ≡ place_of word 32
  last_placed P h = let e : i ≡ 32 = omega (arith, P.within) in P.is ∙ rw e

  pub placed_most : Placed word at i → at ≤ 2052
  placed_most P = omega (arith, P.is, P.within, place_most word i)
