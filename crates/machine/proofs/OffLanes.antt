-- The conditions of 7 and 8, as specs/OffLanes.antt has them: a search of all lanes finds one that is on, and one that is on is among
-- those searched, since an instruction has at most 32. A scalar one has one.
-- Assumes nothing.
use Prim.Native.Nat.{ℕ, ◌≤◌, ◌<◌}
use mathlib.Core.Path.{◌≡◌, refl, sym, ◌∙◌}
use mathlib.Core.Logic.{◌≢◌}
use mathlib.Core.Bool.{Bool, true, false, cond, ◌&&◌, and-eq-true_iff, false≢true}
use mathlib.Core.List.{List, Memᴰ}
use native.Mathlib.Omega.{arith}
use borrow.Author.Tests.{ltb-true, le-ltb, le-leb, leb-true, ne_eqb, eqb-false, not-true}
use lib.Bits.{bit_and}
use lib.Dec.{leb}
use Rattle.std.specs.Prelude.{Ok}
use Rattle.evex.specs.Decode.{decoded}
use Rattle.evex.specs.declared.Instruction.{Instruction}
use Rattle.evex.proofs.Bounds.{bounds}
use Rattle.lists.specs.Lists.{some, table}
use Rattle.lists.proofs.Tables.{some_has, some_member, table_member, member_table, meets, or_meets}
use Rattle.machine.specs.State.{State}
use Rattle.machine.specs.Memory.{on, bytes_read, outside, needs_outside}
use Rattle.machine.specs.Lanes.{Sources, unmasked, lane_of, raised, raises_unmasked}
use Rattle.machine.specs.TwoRuns.{Needs}
use Rattle.machine.specs.OffLanes.{Faults, Raises, Flags, OffLanes, ScalarLanes}

pub element_below : (s : State) (i : Instruction) (j : ℕ) → on s i j ≡ true → j < i.elements
unfolding on
element_below s i j t = ltb-true j i.elements ((and-eq-true_iff _ _).0 t).0

pub above_off : (s : State) (i : Instruction) (j : ℕ) → i.elements ≤ j → on s i j ≡ false
unfolding on
above_off s i j h = rw (le-ltb j i.elements h)

pub scalar_lanes : ScalarLanes
scalar_lanes s code i fields one j t = omega (arith, element_below s i j t, (bounds code fields).one one)

module _ (s : State) (code : List ℕ) (i : Instruction) (fields : decoded code ≡ Ok i) where
  on_below : (j : ℕ) → on s i j ≡ true → j < 32
  on_below j t = omega (arith, element_below s i j t, (bounds code fields).elements)

  module _ (n : ℕ) where
    abbrev reads : ℕ → Bool
    reads j = on s i j && some (λ a. leb n a) (bytes_read s i i.second j)

    found : needs_outside s i n ≡ true → (a : ℕ) × Needs s i a × (n ≤ a)
    unfolding needs_outside outside
    found e =
        let l : (j : ℕ) × Memᴰ j (table 32 (λ j. j)) × (reads j ≡ true) = some_member reads _ e in
        let b : (on s i l.0 ≡ true) × (some (λ a. leb n a) (bytes_read s i i.second l.0) ≡ true) = (and-eq-true_iff _ _).0 l.2 in
        let k : (a : ℕ) × Memᴰ a (bytes_read s i i.second l.0) × (leb n a ≡ true) = some_member (λ a. leb n a) _ b.1 in
        (k.0, (l.0, b.0, k.1), leb-true n k.0 k.2)

    finds : (a : ℕ) × Needs s i a × (n ≤ a) → needs_outside s i n ≡ true
    unfolding needs_outside outside
    finds k =
        let j : ℕ = k.1.0 in
        some_has reads (table 32 (λ j. j)) (table_member 32 (λ j. j) j (on_below j k.1.1))
        ((and-eq-true_iff _ _).1 (k.1.1, some_has (λ a. leb n a) _ k.1.2 (le-leb n k.0 k.2)))

  faults : Faults s i
  faults n = (found n, finds n)

  module _ (g : Sources) (set : ℕ) where
    abbrev lane_flags : ℕ → ℕ
    lane_flags j = cond (on s i j) (lane_of s i g j).flags 0

    any : meets set (raised s i g) ≡ some (meets set) (table 32 lane_flags)
    unfolding raised
    any = or_meets set (table 32 lane_flags)

    raising : meets set (raised s i g) ≡ true → (j : ℕ) × (on s i j ≡ true) × (bit_and (lane_of s i g j).flags set ≢ 0)
    raising e =
        let l : (x : ℕ) × Memᴰ x (table 32 lane_flags) × (meets set x ≡ true) = some_member (meets set) _ (sym any ∙ e) in
        let k : (j : ℕ) × (j < 32) × (l.0 ≡ lane_flags j) = member_table 32 lane_flags l.1 in
        let r : (on s i k.0 ≡ true) × (bit_and (lane_of s i g k.0).flags set ≢ 0) =
        go k.0 (on s i k.0) refl (rw k.2 at l.2) in
        (k.0, r.0, r.1)
      where
        go : (j : ℕ) (t : Bool) → on s i j ≡ t → meets set (cond t (lane_of s i g j).flags 0) ≡ true
            → (on s i j ≡ true) × (bit_and (lane_of s i g j).flags set ≢ 0)
        go j true e h = (e, eqb-false (bit_and (lane_of s i g j).flags set) 0 (not-true _ h))
        go j false e h = absurd (false≢true h)

    raised_by : (j : ℕ) × (on s i j ≡ true) × (bit_and (lane_of s i g j).flags set ≢ 0) → meets set (raised s i g) ≡ true
    raised_by k =
        any
        ∙ some_has (meets set) (table 32 lane_flags) (table_member 32 lane_flags k.0 (on_below k.0 k.1))
        (rw (k.1, ne_eqb (bit_and (lane_of s i g k.0).flags set) 0 k.2))

  raises : Raises s i
  unfolding raises_unmasked
  raises g = (raising g (unmasked i.rounding s.control), raised_by g (unmasked i.rounding s.control))

  flags : Flags s i
  flags g set = (
    (λ n. raising g set (rw (ne_eqb (bit_and (raised s i g) set) 0 n))),
    (λ k. eqb-false (bit_and (raised s i g) set) 0 (not-true _ (raised_by g set k))),
  )

pub off_lanes : OffLanes
off_lanes s code i fields = (faults s code i fields, raises s code i fields, flags s code i fields)
