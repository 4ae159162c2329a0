-- The same for the loops that pack a file, unpack it, and look for a marked register that is all zero.
-- Assumes nothing.
use Prim.Native.Nat.{ℕ, ◌+◌, ◌-◌, ◌*◌, ◌≤◌, ◌<◌}
use mathlib.Core.Bool.{Bool, true, false, cond, not}
use mathlib.Core.Path.{◌≡◌, refl, sym, ap, ◌∙◌}
use mathlib.Core.List.{List, ◌++◌}
use native.Mathlib.Omega.{arith}
use lib.ListN.{length, take, drop, take-append-drop, length-append, length-drop}
use lib.Seq.{length-take-le, take_at, drop_at}
use Rattle.lists.specs.Lists.{some, table}
use Rattle.lists.proofs.Tables.{table_member, some_has, some_next}
use Rattle.evex.specs.Bits.{is_set}
use Rattle.forms.specs.Numbers.{big, joined}
use Rattle.forms.specs.File.{present, register, if_present, presence, pack, word_in, place_of, zeros, unpack, packed_size}
use Rattle.forms.specs.File.{is_empty, has_empty}
use Rattle.forms.proofs.Numbers.{length-big}
use Rattle.forms.proofs.Pieces.{length-joined, joined_none, joined_next, joined_part, sum_within}
use Rattle.forms.proofs.Words.{word_bit}
use Rattle.forms.proofs.Files.{size_by, behind, pack_size, within, unpack-length, unpack-register}
use Rattle.parts.proofs.Written.{Written, nothing, kept, more, all}
use Rattle.parts.proofs.Loops.{lent_register, Placed, first_placed, next_placed}

-- ---- one register, if its bit b says that it is present, at a place

module _ (b : Bool) (r : List ℕ) (says : b ≡ present r) where
  pub present_size : length r ≡ 64 → b ≡ true → length (if_present r) ≡ 64
  present_size h e = rw (sym says ∙ e) h

  pub present_put : (l : List ℕ) (at : ℕ) {p : List ℕ} → length r ≡ 64 → b ≡ true → p ≡ r
      → ((at + 64) ≡ at + length (if_present r))
      × (take at l ++ (p ++ drop ((at + 64) - at) (drop at l)) ≡ take at l ++ (if_present r ++ drop (length (if_present r)) (drop at l)))
  present_put l at h e k =
      let s : (at + 64) - at ≡ 64 = omega arith in
      let is : present r ≡ true = sym says ∙ e in
      (rw is (omega arith), rw (is, k, s, h))

  pub absent_put : (l : List ℕ) (at : ℕ) → b ≡ false
      → (at ≡ at + length (if_present r)) × (l ≡ take at l ++ (if_present r ++ drop (length (if_present r)) (drop at l)))
  absent_put l at e = let is : present r ≡ false = sym says ∙ e in (rw is (omega arith), rw is (sym (take-append-drop at l)))

-- the bits of a file's word
pub says_present : (file : List ℕ) {word : ℕ} (i : ℕ) {r : List ℕ} → i < 32 → word ≡ presence file → r ≡ register file i
    → is_set word i ≡ present r
unfolding presence
says_present file i h e g = rw (e, g) (word_bit 32 (λ j. present (register file j)) i h)

-- ---- a file that is packed: the word and the first i registers are written

abbrev one : List ℕ → ℕ → List ℕ
one file i = if_present (register file i)

pub record Putting (file d l : List ℕ) (at i : ℕ) : Type 0 where
  pub within : i ≤ 32
  pub written : Written (pack file) d l at
  pub place : at ≡ 4 + length (joined i (one file))

-- the word was put over the first 4 bytes of a part d
module _ (file d : List ℕ) {p : List ℕ} {w : ℕ} (long : length file ≡ 2048) (size : length d ≡ length (pack file)) (is : w ≡ presence file)
    (put : p ≡ big (length (take 4 d)) w) where
  four : 4 ≤ length d
  four = omega (arith, size, pack_size file long)

  word : p ≡ big 4 (presence file)
  word = put ∙ rw (length-take-le 4 d four, is)

  word_length : length p ≡ 4
  word_length = ap length word ∙ length-big 4 (presence file)

  pub part_length : length (p ++ drop 4 d) ≡ length d
  part_length = length-append p (drop 4 d) ∙ omega (arith, word_length, length-drop 4 d, four)

  pub word_put : Putting file (p ++ drop 4 d) (p ++ drop 4 d) 4 0
  unfolding pack
  word_put =
      let first : take 4 (pack file) ≡ p =
      take_at (big 4 (presence file)) (joined 32 (one file)) 4 (length-big 4 (presence file)) ∙ sym word in
      record {
        within = omega arith;
        written = record {
          size = sym size ∙ sym part_length;
          within = omega (arith, part_length, four);
          is = sym (rw (first, drop_at p (drop 4 d) 4 word_length));
        };
        place = rw (joined_none (one file));
      }

module _ {file d l : List ℕ} {at i : ℕ} where
  ends : Putting file d l at i → i < 32 → at + length (one file i) ≤ length d
  unfolding pack
  ends P h =
      omega (
        arith,
        P.place,
        P.written.size,
        length-append (big 4 (presence file)) (joined 32 (one file)),
        length-big 4 (presence file),
        length-joined i (one file),
        length-joined 32 (one file),
        sum_within 32 i (λ k. length (one file k)) h,
      )

  -- the next one has room
  pub next_room : Putting file d l at i → {r : List ℕ} → i < 32 → r ≡ register file i → at + length (if_present r) ≤ length l
  next_room P h g = rw g (omega (arith, ends P h, kept P.written))

  pub one_put : Putting file d l at i → {r : List ℕ} → i < 32 → r ≡ register file i → {next : ℕ} {m : List ℕ}
      → next ≡ at + length (if_present r)
      → m ≡ take at l ++ (if_present r ++ drop (length (if_present r)) (drop at l)) → Putting file d m next (i + 1)
  unfolding pack
  one_put P h g {next} {m} e k =
      let e : next ≡ at + length (one file i) = e ∙ rw g in
      let k : m ≡ take at l ++ (one file i ++ drop (length (one file i)) (drop at l)) = k ∙ rw g in
      let s : next - at ≡ length (one file i) = omega arith in
      let piece : one file i ≡ take (next - at) (drop at (pack file)) =
      sym (rw (
        s,
        P.place,
        behind 4 (length (joined i (one file))) (big 4 (presence file)) (joined 32 (one file)) (length-big 4 (presence file)),
        length-joined i (one file),
      ) (joined_part (one file) (λ n. length (one file n)) 32 i (λ n q. refl) h)) in
      record {
        within = omega arith;
        written = rw k (rw s at (more P.written next (one file i) (omega arith) (omega (arith, ends P h)) piece));
        place = e ∙ rw (P.place, joined_next i (one file), length-append (joined i (one file)) (one file i)) (omega arith);
      }

  pub all_put : Putting file d l at i → 32 ≤ i → l ≡ pack file
  unfolding pack
  all_put P h =
      let e : i ≡ 32 = omega (arith, P.within) in
      let p : at ≡ 4 + length (joined 32 (one file)) = P.place ∙ rw e in
      all P.written (omega (
        arith,
        P.written.size,
        length-append (big 4 (presence file)) (joined 32 (one file)),
        length-big 4 (presence file),
      ))

-- ---- one register that is read

module _ (b : Bool) (at : ℕ) (part : List ℕ) where
  pub marked_stands : (n : ℕ) → b ≡ true → at + cond b 64 0 ≤ n → at + 64 ≤ n
  marked_stands n e h = rw e at h

  pub marked_read : {p : List ℕ} → b ≡ true → p ≡ take ((at + 64) - at) (drop at part)
      → ((at + 64) ≡ at + cond b 64 0) × (p ≡ cond b (take 64 (drop at part)) (zeros 64))
  marked_read e k = let s : (at + 64) - at ≡ 64 = omega arith in (rw e, rw e (k ∙ rw s))

  pub unmarked_read : (n : ℕ) {p : List ℕ} → b ≡ false → n ≡ 64 → p ≡ zeros n
      → (at ≡ at + cond b 64 0) × (p ≡ cond b (take 64 (drop at part)) (zeros 64))
  unmarked_read n e h k = (rw e (omega arith), rw e (k ∙ rw h))

-- ---- a file that is read: the first i registers are

pub record Unpacking (l : List ℕ) (word : ℕ) (d m : List ℕ) (at i : ℕ) : Type 0 where
  pub size : length l ≡ packed_size l
  pub read : word ≡ word_in l
  pub placed : Placed word at i
  pub room : length d ≡ 2048
  pub written : Written (unpack l) d m (64 * i)

pub nothing_unpacked : (l : List ℕ) {word : ℕ} (d : List ℕ) → length d ≡ 2048 → length l ≡ packed_size l → word ≡ word_in l
    → Unpacking l word d d 4 0
nothing_unpacked l {word} d h size is =
    record {
      size = size;
      read = is;
      placed = first_placed word;
      room = h;
      written = nothing (unpack l) d (unpack-length l size ∙ sym h);
    }

-- by the word that was read
stands : (l : List ℕ) {word at i : ℕ} → length l ≡ packed_size l → word ≡ word_in l → Placed word at i → i < 32
    → at + size_by word i ≤ length l
stands l size is P h = rw (P.is, is) (within l size _ h)

module _ {l d m : List ℕ} {word at i : ℕ} where
  -- the next one stands within
  pub next_stands : Unpacking l word d m at i → i < 32 → at + size_by word i ≤ length l
  next_stands U h = stands l U.size U.read U.placed h

  pub one_unpacked : Unpacking l word d m at i → i < 32 → {next : ℕ} {p : List ℕ} → next ≡ at + size_by word i
      → p ≡ cond (is_set word i) (take 64 (drop at l)) (zeros 64)
      → Unpacking l word d (take (64 * i) m ++ (p ++ drop (64 * (i + 1) - 64 * i) (drop (64 * i) m))) next (i + 1)
  one_unpacked U h {next} {p} e k =
      let piece : p ≡ take (64 * (i + 1) - 64 * i) (drop (64 * i) (unpack l)) =
      k ∙ rw (U.placed.is, U.read, lent_register (unpack l) i) (sym (unpack-register l U.size i h)) in
      record {
        size = U.size;
        read = U.read;
        placed = rw e (next_placed U.placed h refl);
        room = U.room;
        written = more U.written (64 * (i + 1)) p (omega arith) (omega (arith, U.room)) piece;
      }

  pub all_unpacked : Unpacking l word d m at i → 32 ≤ i → m ≡ unpack l
  all_unpacked U h = all U.written (omega (arith, U.room))

-- ---- a search for a register that is marked and all zero: before i there is none

module _ (l : List ℕ) {word at : ℕ} (i : ℕ) (is : word ≡ word_in l) (there : at ≡ place_of word i) where
  pub marked_empty : {p : Bool} → is_set word i ≡ true → p ≡ present (take ((at + 64) - at) (drop at l)) → not p ≡ is_empty l i
  marked_empty e k =
      let s : (at + 64) - at ≡ 64 = omega arith in
      let set : is_set (word_in l) i ≡ true = ap (λ (w : ℕ). is_set w i) (sym is) ∙ e in
      rw (set, k, s, there, is)

  pub unmarked_empty : is_set word i ≡ false → false ≡ is_empty l i
  unmarked_empty e = let set : is_set (word_in l) i ≡ false = ap (λ (w : ℕ). is_set w i) (sym is) ∙ e in rw set

pub record Full (l : List ℕ) (word at i : ℕ) : Type 0 where
  pub size : length l ≡ packed_size l
  pub read : word ≡ word_in l
  pub placed : Placed word at i
  pub none : some (is_empty l) (table i (λ k. k)) ≡ false

pub nothing_full : (l : List ℕ) {word : ℕ} → length l ≡ packed_size l → word ≡ word_in l → Full l word 4 0
unfolding table
nothing_full l {word} size is = record { size = size; read = is; placed = first_placed word; none = refl }

module _ {l : List ℕ} {word at i : ℕ} where
  pub full_stands : Full l word at i → i < 32 → at + size_by word i ≤ length l
  full_stands F h = stands l F.size F.read F.placed h

  pub one_empty : Full l word at i → i < 32 → is_empty l i ≡ true → true ≡ has_empty l
  unfolding has_empty
  one_empty F h e = sym (some_has (is_empty l) (table 32 (λ k. k)) (table_member 32 (λ k. k) i h) e)

  pub one_full : Full l word at i → i < 32 → is_empty l i ≡ false → {y : ℕ} → y ≡ size_by word i → Full l word (at + y) (i + 1)
  one_full F h e k =
      record {
        size = F.size;
        read = F.read;
        placed = next_placed F.placed h k;
        none = some_next (is_empty l) i (λ k. k) ∙ rw F.none e;
      }

  pub all_full : Full l word at i → 32 ≤ i → false ≡ has_empty l
  unfolding has_empty
  all_full F h = let e : i ≡ 32 = omega (arith, F.placed.within) in sym (rw e at F.none)

-- a packed file has its word
pub packed_least : (l : List ℕ) → length l ≡ packed_size l → 4 ≤ length l
unfolding packed_size
packed_least l h = omega (arith, h)

pub pack_least : (file part : List ℕ) → length file ≡ 2048 → length part ≡ length (pack file) → 4 ≤ length part
pack_least file part h e = omega (arith, e, pack_size file h)
