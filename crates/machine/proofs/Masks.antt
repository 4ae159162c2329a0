-- R1.4, R5.11: the statement of specs/Masks.antt. The mask that is written has the results as its binary digits, and each of these is 0 or 1,
-- since a comparison alone writes a mask.
-- Assumes nothing.
use Prim.Native.Nat.{ℕ, ◌≤◌, ◌<◌}
use mathlib.Core.Path.{◌≡◌, refl, sym, ap, subst, ◌∙◌}
use mathlib.Core.Logic.{◌↔◌}
use mathlib.Core.Bool.{Bool, true, false, cond}
use mathlib.Core.List.{List}
use native.Mathlib.Decide.{dec_lt}
use native.Mathlib.Omega.{arith}
use borrow.Author.Tests.{eqb-true, eq-eqb}
use lib.Dec.{lit≤}
use lib.ListN.{get_or, set, length-set, get_or-eq_default}
use lib.Seq.{get_or-set_same, get_or-set_other}
use Rattle.std.specs.Prelude.{Ok}
use Rattle.half.specs.Comparison.{relation, predicate_of, holds, half_compare}
use Rattle.lists.specs.Lists.{Each, table, binary}
use Rattle.lists.proofs.Tests.{either}
use Rattle.lists.proofs.Tables.{get_or-table, length-table, each_table}
use Rattle.lists.proofs.Binary.{digit_is}
use Rattle.evex.specs.Bits.{is_set}
use Rattle.evex.specs.declared.Operation.{Operation}
use Rattle.evex.specs.declared.Operation.TheVariants.{Compare}
use Rattle.evex.specs.declared.Destination.{Destination}
use Rattle.evex.specs.declared.Destination.TheVariants.{Mask}
use Rattle.evex.specs.declared.Instruction.{Instruction}
use Rattle.evex.specs.Decode.{decoded}
use Rattle.evex.proofs.Bounds.{bounds}
use Rattle.evex.proofs.Compared.{mask_compares}
use Rattle.machine.specs.State.{State, Stepped}
use Rattle.machine.specs.Memory.{on}
use Rattle.machine.specs.Lanes.{Sources, gathered, operated, lane_of, results, vectors_after, masks_after}
use Rattle.machine.specs.Step.{completed}
use Rattle.machine.specs.TwoRuns.{IsDecoded, SwitchesOn}
use Rattle.machine.specs.Masks.{MasksAfter, Masks}
use Rattle.machine.specs.declared.Environment.{Environment}
use Rattle.machine.proofs.Ends.{step_done}
use Rattle.machine.proofs.OffLanes.{element_below}

-- ---- the results of a comparison are binary digits

compared_digit : (op : Operation) → op ≡ Compare → (e : Environment) (d f x : ℕ) → (operated op e d f x).value ≤ 1
unfolding operated half_compare
compared_digit op c e d f x =
    rw c (either (λ n. n ≤ 1) (holds (predicate_of e.immediate) (relation f x)) (lit≤ tt) (lit≤ tt))

-- and so is what a lane gives, on or off
pub lane_digit : (s : State) (i : Instruction) (g : Sources) → i.operation ≡ Compare → (j : ℕ)
    → cond (on s i j) (lane_of s i g j).value 0 ≤ 1
lane_digit s i g c j = either (λ n. n ≤ 1) (on s i j) (compared_digit i.operation c _ _ _ _) (lit≤ tt)

module _ (s : State) (code : List ℕ) (i : Instruction) (fields : decoded code ≡ Ok i) (compares : i.operation ≡ Compare) (g : Sources)
  where
    abbrev lane : ℕ → ℕ
    lane j = cond (on s i j) (lane_of s i g j).value 0

    digits : Each (λ b. b ≤ 1) (results s i g)
    unfolding results
    digits = each_table (λ b. b ≤ 1) 32 lane (λ j h. lane_digit s i g compares j)

    -- a lane that is on, and gives 1
    is_lane : (j : ℕ) → (get_or (results s i g) j 0 ≡ 1) ↔ (SwitchesOn s i j × ((lane_of s i g j).value ≡ 1))
    unfolding results
    is_lane j = (forth (dec_lt j 32), back)
      where
        forth : Dec (j < 32) → get_or (table 32 lane) j 0 ≡ 1 → SwitchesOn s i j × ((lane_of s i g j).value ≡ 1)
        forth (yes h) e = go (on s i j) refl (sym (get_or-table 32 lane j 0 h) ∙ e)
          where
            go : (t : Bool) → on s i j ≡ t → cond t (lane_of s i g j).value 0 ≡ 1 → SwitchesOn s i j × ((lane_of s i g j).value ≡ 1)
            go true o e = (o, e)
            go false o e = absurd (omega arith)
        forth (no h) e =
            let past : get_or (table 32 lane) j 0 ≡ 0 = get_or-eq_default (table 32 lane) 0 (omega (arith, length-table 32 lane)) in
            absurd (omega arith)

        back : SwitchesOn s i j × ((lane_of s i g j).value ≡ 1) → get_or (table 32 lane) j 0 ≡ 1
        back h =
            get_or-table 32 lane j 0 (omega (arith, element_below s i j h.0, (bounds code fields).elements))
            ∙ rw h.0 h.1

    mask_bit : (j : ℕ) → (is_set (binary (results s i g)) j ≡ true) ↔ (SwitchesOn s i j × ((lane_of s i g j).value ≡ 1))
    mask_bit j =
        rw (digit_is (results s i g) digits j) (
          (λ e. (is_lane j).0 (eqb-true (get_or (results s i g) j 0) 1 e)),
          (λ h. eq-eqb (get_or (results s i g) j 0) 1 ((is_lane j).1 h)),
        )

-- ---- a step that is done

module _ (memory : List ℕ) (s : State) (code : List ℕ) (i : Instruction) (is : IsDecoded s code i) where
  abbrev bits : List ℕ
  bits = results s i (gathered memory s i)

  -- by the destination, as 0 leaves it
  to_mask : (d : ℕ) → i.operation ≡ Compare → (x : Destination) → x ≡ Mask d → {after : State}
      → after.masks ≡ masks_after s.masks bits x → after.vectors ≡ vectors_after s i bits x → MasksAfter memory s i d after
  unfolding masks_after vectors_after
  to_mask d c x e {after = after} m v =
      let w : after.masks ≡ set s.masks d (binary bits) = m ∙ ap (masks_after s.masks bits) e in
      record {
        bits = λ h j. rw (w, get_or-set_same s.masks d (binary bits) 0 h) (mask_bit s code i is.1 c (gathered memory s i) j);
        others = λ n h. rw w (get_or-set_other s.masks d n (binary bits) 0 h);
        count = rw w (length-set s.masks d (binary bits));
        vectors = v ∙ rw e;
      }

pub masks : Masks
unfolding completed masks_after
masks memory s code i is done = (
  (λ d to.
      subst (λ (o : Stepped). MasksAfter memory s i d o.state) (sym (step_done memory s code is done))
      (to_mask memory s code i is d (mask_compares code i d is.1 to) i.destination to refl refl)),
  (λ d to.
      ap (λ (o : Stepped). o.state.masks) (step_done memory s code is done)
      ∙ ap (masks_after s.masks (results s i (gathered memory s i))) to),
)
