-- Loops over the indices 0, 1, .., one at each turn: what stands in a list, in or-ed flags or in a test after j turns. A loop may end early,
-- where nothing is left to do.
-- Assumes nothing.
use Prim.Native.Nat.{ℕ, ◌+◌, ◌*◌, ◌%◌, ◌^◌, ◌<◌, ◌≤◌}
use mathlib.Core.Path.{◌≡◌, refl, sym, ap, ◌∙◌}
use mathlib.Core.Bool.{Bool, true, false, ◌||◌, ◌&&◌, true≢false, or-false, and-false}
use mathlib.Core.List.{List, [], ◌∷◌}
use native.Mathlib.Decide.{dec_lt, le_ind}
use native.Mathlib.Numerals.{add-one}
use native.Mathlib.Omega.{arith}
use lib.Bits.{bit_or, or_zero_r}
use lib.ListN.{length, get_or, set, length-set}
use lib.Seq.{get_or-set_same, get_or-set_other}
use Rattle.lists.specs.Lists.{some, or_all, table, binary}
use Rattle.lists.proofs.Binary.{or_joined}
use Rattle.lists.proofs.Tables.{is_table, table_member, some_has, or_next, some_next}

-- a list of n numbers that are f's up to j, and d's from there on
pub record Filled (f : ℕ → ℕ) (n : ℕ) (d l : List ℕ) (j : ℕ) : Type 0 where
  pub within : j ≤ n
  pub size : length l ≡ n
  pub filled : (k : ℕ) → k < j → get_or l k 0 ≡ f k
  pub left : (k : ℕ) → j ≤ k → get_or l k 0 ≡ get_or d k 0

pub none : {f : ℕ → ℕ} {n : ℕ} {d : List ℕ} → length d ≡ n → Filled f n d d 0
none e = record { within = omega arith; size = e; filled = λ k h. absurd (omega arith); left = λ k h. refl }

module _ {f : ℕ → ℕ} {n : ℕ} {d l : List ℕ} {j : ℕ} (F : Filled f n d l j) where
  -- one more turn: a number of f's is stored,
  pub more : {v : ℕ} → j < n → v ≡ f j → Filled f n d (set l j v) (j + 1)
  more {v} h e =
      record {
        within = omega arith;
        size = length-set l j v ∙ F.size;
        filled = filled_more;
        left = λ k m. get_or-set_other l j k v 0 (λ q. absurd (omega arith)) ∙ F.left k (omega arith);
      }
    where
      filled_more : (k : ℕ) → k < j + 1 → get_or (set l j v) k 0 ≡ f k
      filled_more k m =
          elim (dec_lt k j) [
            | yes y ↦ get_or-set_other l j k v 0 (λ q. absurd (omega arith)) ∙ F.filled k y
            | no y ↦
                let q : k ≡ j = omega arith in
                let i : j < length l = omega arith in
                rw (q, get_or-set_same l j v 0 i) e
          ]

  -- or d's own is left, where it is f's
  pub same : j < n → get_or d j 0 ≡ f j → Filled f n d l (j + 1)
  same h e = record { within = omega arith; size = F.size; filled = filled_same; left = λ k m. F.left k (omega arith) }
    where
      filled_same : (k : ℕ) → k < j + 1 → get_or l k 0 ≡ f k
      filled_same k m =
          elim (dec_lt k j) [
            | yes y ↦ F.filled k y
            | no y ↦ let q : k ≡ j = omega arith in rw q (F.left j (omega arith) ∙ e)
          ]

  -- the loop ends, and d's own is f's from there on
  pub all : ((k : ℕ) → j ≤ k → k < n → get_or d k 0 ≡ f k) → l ≡ table n f
  all rest = is_table n f 0 l F.size at_each
    where
      at_each : (k : ℕ) → k < n → get_or l k 0 ≡ f k
      at_each k m =
          elim (dec_lt k j) [
            | yes y ↦ F.filled k y
            | no y ↦ let g : j ≤ k = omega arith in F.left k g ∙ rest k g m
          ]

  -- or it has gone through all of them
  pub full : n ≤ j → l ≡ table n f
  full h = all (λ k m l. absurd (omega arith))

-- what no index from j on changes
stays : {A : Type 0} (g : ℕ → A) (j n : ℕ) → j ≤ n → ((i : ℕ) → j ≤ i → g (i + 1) ≡ g i) → g n ≡ g j
stays g j n h same = le_ind (λ (i : ℕ). g i ≡ g j) refl (λ i k e. ap g (sym (add-one i)) ∙ same i k ∙ e) n h

-- the flags of the indices passed, or-ed
pub record Ored (f : ℕ → ℕ) (x j : ℕ) : Type 0 where
  pub is : x ≡ or_all (table j f)

pub or_none : {f : ℕ → ℕ} → Ored f 0 0
unfolding table
or_none = record { is = refl }

module _ {f : ℕ → ℕ} {x j : ℕ} (O : Ored f x j) where
  pub or_more : {v : ℕ} → v ≡ f j → Ored f (bit_or x v) (j + 1)
  or_more e = record { is = rw (O.is, e) (sym (or_next j f)) }

  pub or_same : f j ≡ 0 → Ored f x (j + 1)
  or_same e = record { is = O.is ∙ sym (or_next j f ∙ rw (e, or_zero_r (or_all (table j f)))) }

  pub or_full : {n : ℕ} → j ≤ n → n ≤ j → x ≡ or_all (table n f)
  or_full {n} h k = let e : n ≡ j = omega arith in rw e O.is

  pub or_all_lem : {n : ℕ} → j ≤ n → ((k : ℕ) → j ≤ k → f k ≡ 0) → x ≡ or_all (table n f)
  or_all_lem {n} h rest =
      O.is
      ∙ sym (stays (λ (i : ℕ). or_all (table i f)) j n h (λ i k. or_next i f ∙ rw (rest i k, or_zero_r (or_all (table i f)))))

-- or bits, each at the place of its index
pub bits_joined : (f : ℕ → ℕ) {x j n : ℕ} → Ored (λ k. f k % 2 * 2 ^ k) x j → j ≤ n → n ≤ j → x ≡ binary (table n (λ k. f k % 2))
bits_joined f {n = n} O h k = or_full O h k ∙ or_joined n (λ k. f k % 2) (λ k. omega arith)

-- whether a test held of some index passed
pub record Found (n : ℕ) (p : ℕ → Bool) (x : Bool) (j : ℕ) : Type 0 where
  pub within : j ≤ n
  pub is : x ≡ some p (table j (λ k. k))

pub found_none : {n : ℕ} {p : ℕ → Bool} → Found n p false 0
unfolding table
found_none = record { within = omega arith; is = refl }

module _ {n : ℕ} {p : ℕ → Bool} {x : Bool} {j : ℕ} (F : Found n p x j) where
  pub found_more : {v : Bool} → j < n → v ≡ p j → Found n p (x || v) (j + 1)
  found_more h e = record { within = omega arith; is = rw (F.is, e) (sym (some_next p j (λ k. k))) }

  pub found_all : ((k : ℕ) → j ≤ k → p k ≡ false) → x ≡ some p (table n (λ k. k))
  found_all rest =
      F.is
      ∙ sym (stays (λ (i : ℕ). some p (table i (λ k. k))) j n F.within
      (λ i k. some_next p i (λ k. k) ∙ rw (rest i k, or-false (some p (table i (λ k. k))))))

-- a test that no index can pass
pub nowhere_off : (p : ℕ → Bool) (l : List ℕ) → some (λ j. p j && false) l ≡ false
nowhere_off p [] = refl
nowhere_off p (j ∷ l) = rw (and-false (p j)) (nowhere_off p l)

-- where none was found, the test held of no index
pub nowhere : (p : ℕ → Bool) (n j : ℕ) → some p (table n (λ k. k)) ≡ false → j < n → p j ≡ false
nowhere p n j e h = go (p j) refl
  where
    go : (t : Bool) → p j ≡ t → p j ≡ false
    go true q = absurd (true≢false (sym (some_has p (table n (λ k. k)) (table_member n (λ k. k) j h) q) ∙ e))
    go false q = q
