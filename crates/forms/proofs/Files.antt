-- A vector file there and back, whole or packed. Whole there is nothing to show; packed it goes register by register, each by its mark.
-- Assumes nothing.
use Prim.Native.Nat.{ℕ, zero, suc, ◌+◌, ◌*◌, ◌≤◌, ◌<◌, ◌^◌}
use mathlib.Core.Bool.{Bool, true, false, cond, not, ◌&&◌}
use mathlib.Core.Path.{◌≡◌, refl, sym, ap, ap₂, ◌∙◌}
use mathlib.Core.List.{List, [], ◌∷◌, ◌++◌}
use native.Mathlib.Nat.{mod-eq_of_lt, mul_comm}
use native.Mathlib.Numerals.{add-one}
use native.Mathlib.Omega.{arith}
use borrow.Author.Tests.{not-false}
use lib.Dec.{eqb, lit≤}
use lib.ListN.{length, take, drop, length-append, length-drop, take-append-drop}
use lib.Seq.{take_all, take_at, drop_at, drop-drop, length-take-le}
use Rattle.lists.specs.Lists.{some, table_from, table, binary}
use Rattle.lists.proofs.Tests.{either, neither, equal}
use Rattle.lists.proofs.Tables.{table_equal, length-table, some_next}
use Rattle.lists.proofs.Filling.{found_none, nowhere}
use Rattle.evex.specs.Bits.{is_set}
use Rattle.machine.specs.State.{register_at}
use Rattle.forms.specs.Numbers.{big, joined}
use Rattle.forms.specs.File.{FileForm, whole, register, present, if_present, presence, pack, sum_to, word_in, place_of, packed_at, zeros}
use Rattle.forms.specs.File.{unpack, packed_size, is_empty, has_empty, packed, file_form}
use Rattle.forms.specs.Trips.{Bytes}
use Rattle.forms.proofs.Slices.{length_part, each_take}
use Rattle.forms.proofs.Numbers.{length-big, value_big, big_value, value_below}
use Rattle.forms.proofs.Pieces.{sum_equal, sum_most, sum_within, joined_equal, length_sized, joined_part, joined_cut, length_even}
use Rattle.forms.proofs.Pieces.{even_part, even_cut}
use Rattle.forms.proofs.Words.{word_below, word_bit, word_of_bits}

-- What is supposed: of a file, that it has 2,048 bytes; of bytes, that they are as many as they should be and nothing else is wrong.
pub record FileLaws (f : FileForm) : Type 0 where
  pub length-put : (file : List ℕ) → length file ≡ 2048 → length (f.put file) ≡ f.size (f.put file)
  pub most_put : (file : List ℕ) → length file ≡ 2048 → length (f.put file) ≤ 2052
  pub right_put : (file : List ℕ) → length file ≡ 2048 → f.wrong (f.put file) ≡ false
  pub get-put : (file : List ℕ) → length file ≡ 2048 → f.get (f.put file) ≡ file
  pub length-get : (l : List ℕ) → length l ≡ f.size l → length (f.get l) ≡ 2048
  pub put-get : (l : List ℕ) → Bytes l → length l ≡ f.size l → f.wrong l ≡ false → f.put (f.get l) ≡ l

whole_laws : FileLaws whole
whole_laws =
    record {
      length-put = λ file h. h;
      most_put = λ file h. omega arith;
      right_put = λ file h. refl;
      get-put = λ file h. refl;
      length-get = λ l h. h;
      put-get = λ l b h w. refl;
    }

-- ---- presence is not being all zero

absent_from : (i : ℕ) (l : List ℕ) → some (λ b. not (eqb b 0)) l ≡ false → l ≡ table_from i (length l) (λ k. 0)
absent_from i [] e = refl
absent_from i (b ∷ l) e =
    let h : (not (eqb b 0) ≡ false) × (some (λ x. not (eqb x 0)) l ≡ false) = neither (not (eqb b 0)) (some (λ x. not (eqb x 0)) l) e in
    ap₂ ◌∷◌ (equal b 0 h.0) (absent_from (suc i) l h.1)

absent_zeros : (l : List ℕ) → present l ≡ false → l ≡ zeros (length l)
unfolding present table
absent_zeros l e = absent_from 0 l e

from_absent : (i n : ℕ) → some (λ b. not (eqb b 0)) (table_from i n (λ k. 0)) ≡ false
from_absent i zero = refl
from_absent i (suc n) = from_absent (suc i) n

zeros_absent : (n : ℕ) → present (zeros n) ≡ false
unfolding present table
zeros_absent n = from_absent 0 n

-- a test that holds of no index
none_of : (n : ℕ) (p : ℕ → Bool) → ((k : ℕ) → k < n → p k ≡ false) → some p (table n (λ k. k)) ≡ false
none_of zero p h = sym (found_none {n = 0}).is
none_of (suc n) p h = rw (← add-one n, some_next p n (λ k. k), none_of n p (λ k l. h k (omega arith))) (h n (omega arith))

-- ---- places behind the word

-- what register j adds to them
abbrev pub size_by : ℕ → ℕ → ℕ
size_by word j = cond (is_set word j) 64 0

pub place_most : (word n : ℕ) → sum_to n (size_by word) ≤ 64 * n
place_most word n = sum_most 64 n (size_by word) (λ j. either (λ k. k ≤ 64) (is_set word j) (lit≤ tt) (lit≤ tt))

-- a place behind the first n bytes
pub behind : {A : Type 0} (n k : ℕ) (xs ys : List A) → length xs ≡ n → drop (n + k) (xs ++ ys) ≡ drop k ys
behind n k xs ys h = sym (drop-drop k n (xs ++ ys)) ∙ ap (drop k) (drop_at xs ys n h)

-- ---- a file, packed

-- register i, as pieces of 64 bytes have it
pub register_is : (file : List ℕ) (i : ℕ) → take 64 (drop (64 * i) file) ≡ register file i
register_is file i = rw (mul_comm 64 i)

module _ (file : List ℕ) (long : length file ≡ 2048) where
  register_size : (k : ℕ) → k < 32 → length (register file k) ≡ 64
  register_size k h = length_part (register_at k) 64 file (omega arith)

  abbrev is_present : ℕ → Bool
  is_present i = present (register file i)

  abbrev ones : List ℕ
  ones = joined 32 (λ i. if_present (register file i))

  pub word_there : word_in (pack file) ≡ presence file
  unfolding pack presence
  word_there =
      rw (take_at (big 4 (presence file)) ones 4 (length-big 4 (presence file)))
      (value_big 4 (presence file) (word_below 32 is_present))

  place : (i : ℕ) → i ≤ 32 → sum_to i (size_by (presence file)) ≡ sum_to i (λ j. cond (is_present j) 64 0)
  unfolding presence
  place i h = sum_equal i _ _ (λ j l. rw (word_bit 32 is_present j (omega arith)))

  one_size : (k : ℕ) → k < 32 → length (if_present (register file k)) ≡ cond (is_present k) 64 0
  one_size k h = go (is_present k)
    where
      go : (b : Bool) → length (cond b (register file k) []) ≡ cond b 64 0
      go true = register_size k h
      go false = refl

  pub pack_count : length (pack file) ≡ 4 + sum_to 32 (λ i. cond (is_present i) 64 0)
  unfolding pack
  pack_count =
      length-append (big 4 (presence file)) ones
      ∙ rw (length-big 4 (presence file), length_sized (λ i. if_present (register file i)) (λ i. cond (is_present i) 64 0) 32 one_size)

  pub pack_size : length (pack file) ≡ place_of (presence file) 32
  pack_size = pack_count ∙ rw (place 32 (lit≤ tt))

  pack-length : length (pack file) ≡ packed_size (pack file)
  unfolding packed_size
  pack-length = rw word_there pack_size

  -- a register that is present stands at its place
  register_there : (i : ℕ) → i < 32 → is_present i ≡ true → packed_at (pack file) i ≡ register file i
  unfolding pack
  register_there i h e =
      let at : drop (place_of (word_in (pack file)) i) (pack file) ≡ drop (sum_to i (λ j. cond (is_present j) 64 0)) ones =
      rw (word_there, place i (omega arith))
      (behind 4 (sum_to i (λ j. cond (is_present j) 64 0)) (big 4 (presence file)) ones (length-big 4 (presence file))) in
      let there : take 64 (drop (sum_to i (λ j. cond (is_present j) 64 0)) ones) ≡ register file i =
      rw e at (joined_part (λ i. if_present (register file i)) (λ i. cond (is_present i) 64 0) 32 i one_size h) in
      ap (take 64) at ∙ there

  pack-unpack : unpack (pack file) ≡ file
  unfolding unpack presence
  pack-unpack =
      joined_equal 32 _ (λ i. take 64 (drop (64 * i) file)) (λ i h. each i h ∙ sym (register_is file i))
      ∙ even_cut 64 32 file
      ∙ take_all 2048 file (omega arith)
    where
      each : (i : ℕ) → i < 32 → cond (is_set (word_in (pack file)) i) (packed_at (pack file) i) (zeros 64) ≡ register file i
      each i h = rw (ap (λ (w : ℕ). is_set w i) word_there ∙ word_bit 32 is_present i h) (go (is_present i) refl)
        where
          go : (b : Bool) → is_present i ≡ b → cond b (packed_at (pack file) i) (zeros 64) ≡ register file i
          go true e = register_there i h e
          go false e = sym (absent_zeros (register file i) e ∙ ap zeros (register_size i h))

  pack_right : has_empty (pack file) ≡ false
  unfolding has_empty presence
  pack_right = none_of 32 (is_empty (pack file)) each
    where
      each : (i : ℕ) → i < 32 → is_empty (pack file) i ≡ false
      each i h = rw (ap (λ (w : ℕ). is_set w i) word_there ∙ word_bit 32 is_present i h) (go (is_present i) refl)
        where
          go : (b : Bool) → is_present i ≡ b → (b && not (present (packed_at (pack file) i))) ≡ false
          go true e = rw (register_there i h e, e)
          go false e = refl

-- ---- bytes of a packed file

module _ (l : List ℕ) (size : length l ≡ packed_size l) where
  abbrev word : ℕ
  word = word_in l

  word_long : length (take 4 l) ≡ 4
  unfolding packed_size
  word_long = length-take-le 4 l (omega (arith, size))

  -- a register that is marked stands within
  pub within : (i : ℕ) → i < 32 → place_of word i + size_by word i ≤ length l
  unfolding packed_size
  within i h = omega (arith, size, sum_within 32 i (size_by word) h)

  abbrev unpacked : ℕ → List ℕ
  unpacked i = cond (is_set word i) (packed_at l i) (zeros 64)

  unpacked_size : (i : ℕ) → i < 32 → length (unpacked i) ≡ 64
  unpacked_size i h = go (is_set word i) refl
    where
      go : (b : Bool) → is_set word i ≡ b → length (cond b (packed_at l i) (zeros 64)) ≡ 64
      go true e = length_part (place_of word i) 64 l (rw e at (within i h))
      go false e = length-table 64 (λ k. 0)

  pub unpack-length : length (unpack l) ≡ 2048
  unfolding unpack
  unpack-length = length_even 64 32 unpacked unpacked_size

  pub unpack-register : (i : ℕ) → i < 32 → register (unpack l) i ≡ unpacked i
  unfolding unpack
  unpack-register i h = sym (register_is (joined 32 unpacked) i) ∙ even_part 64 32 unpacked unpacked_size i h

  module _ (full : has_empty l ≡ false) where
    marked_present : (i : ℕ) → i < 32 → present (register (unpack l) i) ≡ is_set word i
    unfolding has_empty
    marked_present i h = rw (unpack-register i h) (go (is_set word i) (nowhere (is_empty l) 32 i full h))
      where
        go : (b : Bool) → (b && not (present (packed_at l i))) ≡ false → present (cond b (packed_at l i) (zeros 64)) ≡ b
        go true e = not-false (present (packed_at l i)) e
        go false e = zeros_absent 64

    word_again : word < 2 ^ 32 → presence (unpack l) ≡ word
    unfolding presence
    word_again h =
        ap binary (table_equal 32 (λ i l. rw (marked_present i l)))
        ∙ word_of_bits 32 word
        ∙ mod-eq_of_lt h

    ones_again : joined 32 (λ i. if_present (register (unpack l) i)) ≡ drop 4 l
    unfolding packed_size
    ones_again =
        joined_equal 32 _ (λ i. take (size_by word i) (drop (sum_to i (size_by word)) (drop 4 l))) each
        ∙ joined_cut 32 (size_by word) (drop 4 l)
        ∙ take_all (sum_to 32 (size_by word)) (drop 4 l) (omega (arith, length-drop 4 l, size))
      where
        each : (i : ℕ) → i < 32
            → if_present (register (unpack l) i) ≡ take (size_by word i) (drop (sum_to i (size_by word)) (drop 4 l))
        each i h = rw (marked_present i h, unpack-register i h, drop-drop (sum_to i (size_by word)) 4 l) (go (is_set word i))
          where
            go : (b : Bool) → cond b (cond b (packed_at l i) (zeros 64)) [] ≡ take (cond b 64 0) (drop (place_of word i) l)
            go true = refl
            go false = refl

    unpack-pack : Bytes l → pack (unpack l) ≡ l
    unfolding pack
    unpack-pack b =
        let first : Bytes (take 4 l) = each_take (λ x. x < 256) 4 l b in
        let small : word < 2 ^ 32 = rw word_long at (value_below (take 4 l) first) in
        rw (word_again small, ones_again, big_value 4 (take 4 l) word_long first) (take-append-drop 4 l)

packed_laws : FileLaws packed
packed_laws =
    record {
      length-put = pack-length;
      most_put = λ file h. omega (arith, pack_size file h, place_most (presence file) 32);
      right_put = pack_right;
      get-put = pack-unpack;
      length-get = unpack-length;
      put-get = λ l b h w. unpack-pack l h w b;
    }

-- ---- either

pub file_laws : (b : Bool) → FileLaws (file_form b)
unfolding file_form
file_laws true = packed_laws
file_laws false = whole_laws
