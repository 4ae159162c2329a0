-- R7.2, R7.4, R7.5: the statement of specs/ControlWord.antt. What each definition on the way to `control_after` says of one bit is a law;
-- a step leaves that word, be the answer 0 or 8, and the laws are put together.
-- Assumes nothing.
use Prim.Native.Nat.{ℕ, ◌+◌, ◌<◌, ◌≤◌, ◌^◌}
use mathlib.Core.Path.{◌≡◌, refl, sym, ◌∙◌}
use mathlib.Core.Logic.Iff
use mathlib.Core.Logic.{◌↔◌, ◌≢◌, ◌⊎◌, inl, inr, ⊎_elim, ⊎_map}
use mathlib.Core.Bool.{Bool, true, false, cond, not, ◌||◌, and-eq-true_iff, or-false, true≢false, false≢true}
use mathlib.Core.List.{List}
use native.Mathlib.Omega.{arith}
use borrow.Author.Tests.{lt-ltb, ltb-true, not-true}
use lib.Bits.{bit_and, and_zero_r}
use lib.Dec.{eqb}
use lib.ListN.{length}
use Rattle.lists.proofs.Tests.{either, either_given}
use Rattle.evex.specs.Bits.{is_set}
use Rattle.evex.specs.declared.Rounding.{Rounding}
use Rattle.evex.specs.declared.Rounding.TheVariants.{Control, Embedded, Suppressed}
use Rattle.evex.specs.declared.Instruction.{Instruction}
use Rattle.evex.proofs.Bitwise.{and_bit, or_bit, ones_bit, bit_above, inverted_bit, meets_bit, single_bit}
use Rattle.machine.specs.State.{State, Stepped, unmasked_flags}
use Rattle.machine.specs.Memory.{needs_outside}
use Rattle.machine.specs.Lanes.{recorded, raises, early_flags, added, gathered, lane_of, raised, raises_unmasked, control_after}
use Rattle.machine.specs.Step.{stopped, completed, step}
use Rattle.machine.specs.TwoRuns.{IsDecoded, SwitchesOn}
use Rattle.machine.specs.ControlWord.{LaneRaises, StopsEarly, SetAfter, WordAfter, ControlWord}
use Rattle.machine.proofs.Ends.{step_decoded}
use Rattle.machine.proofs.Flags.{added_below}
use Rattle.machine.proofs.OffLanes.{off_lanes}

-- ---- what the definitions say of a bit

both_or : {A B C D : Type 0} → A ↔ B → C ↔ D → (A ⊎ C) ↔ (B ⊎ D)
both_or h k = (⊎_map h.0 k.0, ⊎_map h.1 k.1)

or_is_true : (a b : Bool) → ((a || b) ≡ true) ↔ ((a ≡ true) ⊎ (b ≡ true))
or_is_true true b = ((λ _. inl refl), (λ _. refl))
or_is_true false b = ((λ e. inr e), ⊎_elim (λ e. absurd (false≢true e)) (λ e. e))

early_is : (flags f : ℕ) → (is_set (early_flags flags) f ≡ true) ↔ ((is_set flags f ≡ true) × (f < 3))
early_is flags f =
    rw (and_bit flags 7 f, ones_bit 3 f)
    ((λ e. let b = (and-eq-true_iff _ _).0 e in (b.0, ltb-true f 3 b.1)), (λ h. rw (h.0, lt-ltb f 3 h.1)))

unmasked_is : (control f : ℕ) → f < 6 → (is_set (unmasked_flags control) f ≡ true) ↔ (is_set control (7 + f) ≡ false)
unmasked_is control f h = rw (inverted_bit control 7 6 f h) (not-true _, (λ e. rw e))

-- what is added of the flags that are raised
added_bit : (control flags f : ℕ)
    → (is_set (added Control control flags) f ≡ true)
    ↔ ((is_set flags f ≡ true) × ((f < 3) ⊎ ¬ (raises Control control (early_flags flags) ≡ true)))
added_bit control flags f =
    either_given
    (λ n. (is_set n f ≡ true) ↔ ((is_set flags f ≡ true) × ((f < 3) ⊎ ¬ (raises Control control (early_flags flags) ≡ true))))
    (raises Control control (early_flags flags))
    (λ e. (
      (λ h. let b = (early_is flags f).0 h in (b.0, inl b.1)),
      (λ h. (early_is flags f).1 (h.0, ⊎_elim (λ l. l) (λ n. absurd (n e)) h.1)),
    ))
    (λ e. ((λ h. (h, inr (λ t. true≢false (sym t ∙ e)))), (λ h. h.0)))

-- what is recorded of them, by the rounding
recorded_bit : (r : Rounding) (control flags f : ℕ) → r ≡ Control
    → is_set (recorded r control (added r control flags)) f ≡ (is_set control f || is_set (added Control control flags) f)
recorded_bit r control flags f e = rw e (or_bit control (added Control control flags) f)

none_raised : (flags : ℕ) → not (eqb (bit_and flags 0) 0) ≡ false
none_raised flags = rw (and_zero_r flags)

recorded_silent : (r : Rounding) (control flags : ℕ) → r ≢ Control
    → (raises r control flags ≡ false) × (recorded r control (added r control flags) ≡ control)
recorded_silent Control control flags n = absurd (n refl)
recorded_silent (Embedded mode) control flags n = (none_raised flags, refl)
recorded_silent Suppressed control flags n = (none_raised flags, refl)

-- nothing above the flags
recorded_above : (r : Rounding) (control flags n : ℕ) → flags < 64 → 6 ≤ n → is_set (recorded r control flags) n ≡ is_set control n
recorded_above Control control flags n h l = or_bit control flags n ∙ rw (bit_above flags 6 n h l) (or-false (is_set control n))
recorded_above (Embedded mode) control flags n h l = refl
recorded_above Suppressed control flags n h l = refl

-- ---- a step

module _ (memory : List ℕ) (s : State) (code : List ℕ) (i : Instruction) (d : IsDecoded s code i)
    (there : (step memory s code).answer.number ≢ 7) where
  -- all flags that it raises
  abbrev all : ℕ
  all = raised s i (gathered memory s i)

  inside : needs_outside s i (length memory) ≡ false
  inside = go (needs_outside s i (length memory)) refl
    where
      go : (t : Bool) → needs_outside s i (length memory) ≡ t → needs_outside s i (length memory) ≡ false
      go true e = absurd (there (rw (step_decoded memory s code d, e)))
      go false e = e

  ends : step memory s code
      ≡ cond (raises_unmasked s i (gathered memory s i)) (stopped memory s i) (completed memory s i)
  ends = step_decoded memory s code d ∙ rw inside

  abbrev after : ℕ
  after = recorded i.rounding s.control (added i.rounding s.control all)

  control_is : (step memory s code).state.control ≡ after
  unfolding stopped completed control_after
  control_is =
      rw ends (either (λ (o : Stepped). o.state.control ≡ after) (raises_unmasked s i (gathered memory s i)) refl refl)

  -- ---- its flags

  raised_bit : (f : ℕ) → (is_set all f ≡ true) ↔ LaneRaises memory s i f
  raised_bit f =
      let lanes : (bit_and all (2 ^ f) ≢ 0)
      ↔ ((j : ℕ) × SwitchesOn s i j × (bit_and (lane_of s i (gathered memory s i) j).flags (2 ^ f) ≢ 0)) =
      (off_lanes s code i d.1).2 (gathered memory s i) (2 ^ f) in (
        (λ e. let k = lanes.0 ((single_bit all f).0 e) in (k.0, k.1, (single_bit _ f).1 k.2)),
        (λ k. (single_bit all f).1 (lanes.1 (k.0, k.1, (single_bit _ f).0 k.2))),
      )

  stops_early : (raises Control s.control (early_flags all) ≡ true) ↔ StopsEarly memory s i
  stops_early = (
    (λ e.
        let r = (meets_bit (early_flags all) (unmasked_flags s.control)).0 e in
        let b = (early_is all r.0).0 r.1 in
        (r.0, b.1, (unmasked_is s.control r.0 (omega (arith, b.1))).0 r.2, (raised_bit r.0).0 b.0)),
    (λ r.
        (meets_bit (early_flags all) (unmasked_flags s.control)).1 (
          r.0,
          (early_is all r.0).1 ((raised_bit r.0).1 r.3, r.1),
          (unmasked_is s.control r.0 (omega (arith, r.1))).1 r.2,
        )),
  )

  set_after : (f : ℕ) → ((is_set s.control f || is_set (added Control s.control all) f) ≡ true) ↔ SetAfter memory s i f
  set_after f =
      Iff.trans (or_is_true _ _)
      (both_or Iff.rfl (Iff.trans (added_bit s.control all f) (Iff.and (raised_bit f) (both_or Iff.rfl (Iff.not stops_early)))))

  word_after : WordAfter memory s i (step memory s code)
  unfolding raises_unmasked completed
  word_after =
      record {
        flags = λ r f h. rw (control_is, recorded_bit i.rounding s.control all f r) (set_after f);
        others =
            λ n h. rw control_is
            (recorded_above i.rounding s.control _ n (added_below s i (gathered memory s i)) h);
        silent =
            λ r. let none = recorded_silent i.rounding s.control all r in
            (rw (ends, none.0) (λ e. omega arith), control_is ∙ none.1);
      }

pub control_word : ControlWord
control_word = word_after
