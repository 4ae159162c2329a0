-- Section 4 of docs/RULES.md: the statements of specs/Answers.antt. The number is `first_of` of the one list of conditions, and each of them
-- has a number that is not 0. What is left, that 6 is not given and the length are read off the ways in which a step ends (`of_step`);
-- which bytes count, off what is decoded.
-- Assumes nothing.
use Prim.Native.Nat.{ℕ, suc, ◌<◌}
use mathlib.Core.Path.{◌≡◌, refl, sym, ◌∙◌}
use mathlib.Core.Logic.{◌≢◌}
use mathlib.Core.Bool.{Bool, true, false, cond}
use mathlib.Core.List.{List, [], ◌∷◌, ◌++◌}
use native.Mathlib.Omega.{arith}
use borrow.Author.Tests.{eqb-true}
use lib.Bits.{bit_or, or_zero_r}
use lib.Dec.{eqb, lit≤}
use lib.ListN.{take}
use Rattle.std.specs.Prelude.{Result, Ok, Err}
use Rattle.evex.specs.Decode.{decoded}
use Rattle.evex.specs.declared.Instruction.{Instruction}
use Rattle.evex.specs.declared.Rounding.{Rounding}
use Rattle.evex.specs.declared.Rounding.TheVariants.{Control, Embedded, Suppressed}
use Rattle.evex.specs.declared.Refusal.{Refusal}
use Rattle.evex.proofs.After.{after, by_longest}
use Rattle.evex.proofs.Sizes.{decoded_sizes}
use Rattle.machine.specs.State.{State}
use Rattle.machine.specs.Lanes.{gathered, recorded, control_after}
use Rattle.machine.specs.Step.{of_fields, before_seven, conditions, answer_of, refused, stopped, completed, step}
use Rattle.machine.specs.Answers.{InOrder, Leaves, Answers, BytesAfter, FirstBytes, NotSix, NoSix, Sized, Lengths}
use Rattle.lists.proofs.First.{NonZero}
use Rattle.machine.proofs.First.{in_order}
use Rattle.machine.proofs.Ends.{before_non_zero, by_decoded, of_step}
use Rattle.machine.proofs.Flags.{added_below}

-- ---- the order

non_zero_append : (cs ds : List (Bool × ℕ)) → NonZero cs → NonZero ds → NonZero (cs ++ ds)
non_zero_append [] ds h k = k
non_zero_append (c ∷ cs) ds h k = (h.0, non_zero_append cs ds h.1 k)

module _ (memory : List ℕ) (s : State) (code : List ℕ) where
  non_zero : NonZero (conditions memory s code)
  unfolding conditions
  non_zero = non_zero_append (before_seven s code) _ (before_non_zero s code) ((λ e. omega arith), ((λ e. omega arith), tt))

  -- the number that a step returns is that of the conditions
  number_is : (step memory s code).answer.number ≡ answer_of memory s code
  unfolding step stopped completed
  number_is = go (answer_of memory s code) (decoded code)
    where
      go : (n : ℕ) (d : Result Instruction Refusal)
          → (of_fields d (refused n s) (λ (i : Instruction). cond (eqb n 0) (completed memory s i)
          (cond (eqb n 8) (stopped memory s i) (refused n s)))).answer.number ≡ n
      go n (Err r) = refl
      go n (Ok i) = picked (eqb n 0) (eqb n 8) refl refl
        where
          picked : (z e : Bool) → eqb n 0 ≡ z → eqb n 8 ≡ e
              → (cond z (completed memory s i) (cond e (stopped memory s i) (refused n s))).answer.number ≡ n
          picked true e p q = sym (eqb-true n 0 p)
          picked false true p q = sym (eqb-true n 8 q)
          picked false false p q = refl

  order : InOrder (conditions memory s code) (step memory s code).answer.number
  unfolding answer_of
  order = rw number_is (in_order (conditions memory s code) non_zero)

-- ---- what is left

refused_leaves : (s : State) (n : ℕ) → n ≢ 0 → n ≢ 8 → Leaves s (refused n s)
refused_leaves s n z h = record { moved = λ e. absurd (z e); before = λ _ _. refl; flagged = λ e. absurd (h e); length = λ _. refl }

-- embedded rounding and suppression add no flag
recorded-flags : (r : Rounding) (control flags : ℕ) → flags < 64 → (f : ℕ) × (f < 64) × (recorded r control flags ≡ bit_or control f)
recorded-flags Control control flags h = (flags, h, refl)
recorded-flags (Embedded mode) control flags h = (0, lit≤ tt, sym (or_zero_r control))
recorded-flags Suppressed control flags h = (0, lit≤ tt, sym (or_zero_r control))

module _ (memory : List ℕ) (s : State) where
  stopped_leaves : (i : Instruction) → Leaves s (stopped memory s i)
  unfolding stopped control_after
  stopped_leaves i =
      let f : (f : ℕ) × (f < 64) × (control_after s i (gathered memory s i) ≡ bit_or s.control f) =
      recorded-flags i.rounding s.control _ (added_below s i (gathered memory s i)) in
      record {
        moved = λ e. absurd (omega arith);
        before = λ _ h. absurd (h refl);
        flagged =
            λ _. (
              f.0,
              f.1,
              λ x. record {
                vectors = s.vectors;
                masks = s.masks;
                general = s.general;
                control = f.2 x;
                pointer
                    = s.pointer;
              },
            );
        length = λ _. refl;
      }

  completed_leaves : (i : Instruction) → Leaves s (completed memory s i)
  unfolding completed
  completed_leaves i =
      record { moved = λ _. refl; before = λ h _. absurd (h refl); flagged = λ e. absurd (omega arith); length = λ h. absurd (h refl) }

  leaves : (code : List ℕ) → Leaves s (step memory s code)
  leaves code =
      of_step memory s code (Leaves s) (λ n h. refused_leaves s (suc n) (λ z. omega arith) (λ z. omega arith))
      (refused_leaves s 7 (λ z. omega arith) (λ z. omega arith))
      (λ i d. (stopped_leaves i, completed_leaves i))

pub answers : Answers
answers memory s code = (order memory s code, leaves memory s code)

-- ---- which bytes count

pub bytes_after : BytesAfter
bytes_after memory s code rest i e = by_decoded memory s code (take i.size code ++ rest) (after code rest e ∙ sym e)

pub first_bytes : FirstBytes
first_bytes memory s code n h = by_decoded memory s code (take n code) (by_longest code n h)

-- ---- 6, and lengths

pub no_six : NoSix
unfolding stopped completed
no_six memory s code =
    of_step memory s code NotSix (λ n h e. omega arith) (λ e. omega arith)
    (λ i d. ((λ e. omega arith), (λ e. omega arith)))

pub lengths : Lengths
unfolding stopped completed
lengths memory s code =
    of_step memory s code (Sized code) (λ n h e. absurd (omega arith)) (λ e. absurd (omega arith))
    (λ i d. ((λ e. absurd (omega arith)), (λ _. decoded_sizes code i d.1)))
