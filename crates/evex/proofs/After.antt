-- R4.18: whatever follows an instruction's last byte, the same is decoded; so it is of any code, whatever follows as many bytes as the
-- longest instruction has.
-- Assumes nothing.
use mathlib.Core.Path.{◌≡◌, refl, sym, ap, subst, ◌∙◌}
use mathlib.Core.Bool.{Bool, true, false, cond}
use mathlib.Core.List.{List, [], ◌∷◌, ◌++◌, map}
use Prim.Native.Nat.{ℕ, ◌+◌, ◌≤◌, ◌<◌}
use native.Mathlib.Omega.{arith}
use native.Mathlib.Nat.{le_refl, le_of_lt, le_trans, lt_of_lt_of_le}
use borrow.Author.Tests.{ne_eqb, le-ltb, ltb-false, leb-true, leb-false, eqb-true}
use lib.Dec.{eqb, leb, lit≤}
use lib.ListN.{length, take, get_or-append, length-append}
use lib.Seq.{get_or-take, length-take-le, take_all}
use Rattle.std.specs.Prelude.{Result, Ok, Err, Option, Some, None}
use Rattle.lists.specs.Lists.{first_of, NoneHolds}
use Rattle.lists.proofs.First.{none_append}
use Rattle.evex.specs.Bits.{byte}
use Rattle.evex.specs.List.{shape}
use Rattle.evex.specs.Fields.{head_of, takes_sib, listed, has_sib, displacement_at, displacement_size, displacement_of, immediate_at}
use Rattle.evex.specs.Fields.{immediate_of, size, instruction}
use Rattle.evex.specs.Decode.{no_bytes, wrong_first_byte, fewer_than_six_bytes, reserved_forms, bytes_missing, head_conditions, row_conditions}
use Rattle.evex.specs.Decode.{refusals, fields, decoded}
use Rattle.evex.specs.Sizes.{longest}
use Rattle.evex.specs.declared.list.Row.{Row}
use Rattle.evex.specs.declared.Instruction.{Instruction}
use Rattle.evex.specs.declared.Refusal.{Refusal}
use Rattle.evex.specs.declared.Refusal.TheVariants.{Reserved}
use Rattle.evex.proofs.Order.{answers}
use Rattle.evex.proofs.Lengths.{size_least, size_most}

-- ---- what is decoded, and when

abbrev IsFields : Result Instruction Refusal → Type 0
IsFields (Ok i) = Unit {0}
IsFields (Err r) = ⊥

passed : (cs : List (Bool × Refusal)) (d : Result Instruction Refusal) {i : Instruction} → first_of (answers cs) d ≡ Ok i
    → NoneHolds cs × (d ≡ Ok i)
passed [] d e = (tt, e)
passed (c ∷ cs) d {i} e = go c.0 refl (λ f. passed cs d f) e
  where
    go : (t : Bool) → c.0 ≡ t → (first_of (answers cs) d ≡ Ok i → NoneHolds cs × (d ≡ Ok i))
        → cond t (Err c.1) (first_of (answers cs) d) ≡ Ok i → NoneHolds (c ∷ cs) × (d ≡ Ok i)
    go true f later g = absurd (subst IsFields (sym g) tt)
    go false f later g = let l : NoneHolds cs × (d ≡ Ok i) = later g in ((f, l.0), l.1)

-- a row, no reserved form of it, and all bytes there
pub record Whole (code : List ℕ) (i : Instruction) : Type 0 where
  pub row : Row
  pub found : listed (head_of code) ≡ Some row
  pub is : i ≡ instruction (head_of code) row code
  pub plain : NoneHolds (map (λ t. (t, Reserved)) (reserved_forms (head_of code) row))
  pub there : size (head_of code) row ≤ length code

pub whole_size : {code : List ℕ} {i : Instruction} (w : Whole code i) → i.size ≡ size (head_of code) w.row
unfolding instruction
whole_size w = ap (λ (i : Instruction). i.size) w.is

by_row : (code : List ℕ) (row : Row) → listed (head_of code) ≡ Some row → NoneHolds (refusals code)
    → NoneHolds (map (λ t. (t, Reserved)) (reserved_forms (head_of code) row)) × (size (head_of code) row ≤ length code)
unfolding refusals row_conditions bytes_missing
by_row code row found h =
    let of_row = (none_append (head_conditions code) (row_conditions (head_of code) code row) (rw found at h)).1 in
    let parts = none_append (map (λ t. (t, Reserved)) (reserved_forms (head_of code) row)) (_ ∷ []) of_row in
    (parts.0, ltb-false (length code) (size (head_of code) row) parts.1.0)

pub whole : (code : List ℕ) {i : Instruction} → decoded code ≡ Ok i → Whole code i
unfolding decoded
whole code {i} e = go (listed (head_of code)) refl (passed (refusals code) _ e)
  where
    fields_or : Result Instruction Refusal → Instruction
    fields_or (Ok j) = j
    fields_or (Err r) = i

    go : (l : Option Row) → listed (head_of code) ≡ l → NoneHolds (refusals code) × (fields (head_of code) code l ≡ Ok i) → Whole code i
    go (Some row) f p =
        let checked = by_row code row f p.0 in
        record { row = row; found = f; is = ap fields_or (sym p.1); plain = checked.0; there = checked.1 }
    go None f p = absurd (subst IsFields (sym p.1) tt)

-- ---- two codes with the same first bytes

-- n bytes of both, with the SIB byte among them where there is one
record Same (code other : List ℕ) (n : ℕ) : Type 0 where
  six : 6 ≤ n
  seven : takes_sib (byte code 5) ≡ true → 7 ≤ n
  there : n ≤ length code
  there_other : n ≤ length other
  bytes : (k : ℕ) → k < n → byte other k ≡ byte code k

module _ {code other : List ℕ} {n : ℕ} (same : Same code other n) where
  same_byte : (k : ℕ) → k < 6 → byte other k ≡ byte code k
  same_byte k l = same.bytes k (lt_of_lt_of_le l same.six)

  same_sib : cond (takes_sib (byte code 5)) (byte other 6) 0 ≡ cond (takes_sib (byte code 5)) (byte code 6) 0
  same_sib = go (takes_sib (byte code 5)) refl
    where
      go : (t : Bool) → takes_sib (byte code 5) ≡ t → cond t (byte other 6) 0 ≡ cond t (byte code 6) 0
      go true e = same.bytes 6 (same.seven e)
      go false e = refl

  same_head : head_of other ≡ head_of code
  unfolding head_of
  same_head =
      rw (
        same_byte 1 (lit≤ tt),
        same_byte 2 (lit≤ tt),
        same_byte 3 (lit≤ tt),
        same_byte 4 (lit≤ tt),
        same_byte 5 (lit≤ tt),
        same_sib,
      )

  -- the conditions on the number of bytes hold of neither
  same_head_conditions : head_conditions other ≡ head_conditions code
  unfolding head_conditions no_bytes wrong_first_byte fewer_than_six_bytes
  same_head_conditions =
      rw (
        same_head,
        same_byte 0 (lit≤ tt),
        ne_eqb (length other) 0 (λ e. omega (arith, same.six, same.there_other)),
        ne_eqb (length code) 0 (λ e. omega (arith, same.six, same.there)),
        le-ltb (length other) 6 (le_trans same.six same.there_other),
        le-ltb (length code) 6 (le_trans same.six same.there),
      )

  -- of a row whose instruction has at most n bytes
  module _ (row : Row) (fits : size (head_of code) row ≤ n) where
    same_row_conditions : row_conditions (head_of code) other row ≡ row_conditions (head_of code) code row
    unfolding row_conditions bytes_missing
    same_row_conditions =
        let z : ℕ = size (head_of code) row in
        rw (le-ltb (length other) z (le_trans fits same.there_other), le-ltb (length code) z (le_trans fits same.there))

    abbrev at : ℕ
    at = displacement_at (head_of code)

    inside : (p m : ℕ) → displacement_size (head_of code) ≡ m → p < at + m → byte other p ≡ byte code p
    unfolding size
    inside p m e l = same.bytes p (omega arith)

    same_displacement : displacement_of (head_of code) row other ≡ displacement_of (head_of code) row code
    unfolding displacement_of
    same_displacement = go (eqb (displacement_size (head_of code)) 1) (eqb (displacement_size (head_of code)) 4) refl refl
      where
        go : (one four : Bool) → eqb (displacement_size (head_of code)) 1 ≡ one → eqb (displacement_size (head_of code)) 4 ≡ four
            → displacement_of (head_of code) row other ≡ displacement_of (head_of code) row code
        go true four e f = rw (e, inside at 1 (eqb-true _ _ e) (omega arith))
        go false true e f =
            let s : displacement_size (head_of code) ≡ 4 = eqb-true _ _ f in
            rw (
              e,
              f,
              inside at 4 s (omega arith),
              inside (at + 1) 4 s (omega arith),
              inside (at + 2) 4 s (omega arith),
              inside (at + 3) 4 s (omega arith),
            )
        go false false e f = rw (e, f)

    same_immediate : immediate_of (head_of code) row other ≡ immediate_of (head_of code) row code
    unfolding immediate_of size
    same_immediate = go (shape row).immediate refl
      where
        go : (t : Bool) → (shape row).immediate ≡ t
            → cond t (byte other (immediate_at (head_of code) row)) 0 ≡ cond t (byte code (immediate_at (head_of code) row)) 0
        go true e = let all : immediate_at (head_of code) row + 1 ≤ n = rw e at fits in same.bytes (immediate_at (head_of code) row) (omega arith)
        go false e = refl

    same_instruction : instruction (head_of code) row other ≡ instruction (head_of code) row code
    unfolding instruction
    same_instruction = rw (same_displacement, same_immediate)

    same_listed : listed (head_of code) ≡ Some row → decoded other ≡ decoded code
    unfolding decoded refusals
    same_listed found = rw (same_head, same_head_conditions, found, same_row_conditions, same_instruction)

  same_unlisted : listed (head_of code) ≡ None → decoded other ≡ decoded code
  unfolding decoded refusals
  same_unlisted found = rw (same_head, same_head_conditions, found)

-- ---- other bytes behind an instruction; none behind the longest

-- a SIB byte counts
sib_size : (code : List ℕ) (row : Row) → takes_sib (byte code 5) ≡ true → 7 ≤ size (head_of code) row
unfolding size displacement_at has_sib head_of
sib_size code row e = rw e (omega arith)

pub after : (code rest : List ℕ) {i : Instruction} → decoded code ≡ Ok i → decoded (take i.size code ++ rest) ≡ Ok i
after code rest e =
    let w = whole code e in
    let n : ℕ = size (head_of code) w.row in
    let front : length (take n code) ≡ n = length-take-le n code w.there in
    let same : Same code (take n code ++ rest) n =
    record {
      six = size_least (head_of code) w.row;
      seven = sib_size code w.row;
      there = w.there;
      there_other = omega (arith, length-append (take n code) rest);
      bytes = λ k l. get_or-append (take n code) rest 0 k (omega arith) ∙ get_or-take n code k 0 l;
    } in
    ap (λ (k : ℕ). decoded (take k code ++ rest)) (whole_size w) ∙ same_listed same w.row (le_refl n) w.found ∙ e

pub by_longest : (code : List ℕ) (n : ℕ) → longest ≤ n → decoded (take n code) ≡ decoded code
by_longest code n room = go (leb (length code) n) refl
  where
    same_start : n < length code → Same code (take n code) n
    same_start l =
        record {
          six = omega arith;
          seven = λ _. omega arith;
          there = le_of_lt l;
          there_other = omega (arith, length-take-le n code (le_of_lt l));
          bytes = λ k. get_or-take n code k 0;
        }

    cut : Same code (take n code) n → (l : Option Row) → listed (head_of code) ≡ l → decoded (take n code) ≡ decoded code
    cut same (Some row) = same_listed same row (le_trans (size_most (head_of code) row) room)
    cut same None = same_unlisted same

    go : (t : Bool) → leb (length code) n ≡ t → decoded (take n code) ≡ decoded code
    go true e = ap decoded (take_all n code (leb-true (length code) n e))
    go false e = cut (same_start (leb-false (length code) n e)) (listed (head_of code)) refl
