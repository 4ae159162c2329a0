-- The ways in which a step ends, a law for each `return` of a code that tests in the order of R4.2: what the proof of the step's
-- code cites. Below them the two ways that the theorems go by: something before 7 refuses, or the instruction is decoded.
-- Assumes nothing.
use Prim.Native.Nat.{ℕ, suc, ◌≤◌, ◌<◌, ◌^◌}
use mathlib.Core.Path.{◌≡◌, refl, ◌∙◌}
use mathlib.Core.Logic.{◌≢◌}
use mathlib.Core.Bool.{Bool, true, false, cond}
use mathlib.Core.List.{List, [], ◌∷◌}
use native.Mathlib.Omega.{arith}
use borrow.Author.Tests.{eq-eqb, ne_eqb, le-leb, lt-leb, eqb-true, leb-false, not-false}
use lib.Dec.{eqb, lit≤}
use lib.ListN.{length}
use Rattle.std.specs.Prelude.{Result, Ok, Err}
use Rattle.lists.specs.Lists.{first_of, NoneHolds}
use Rattle.lists.proofs.Tests.{either}
use Rattle.lists.proofs.First.{NonZero, first_append, first_found, holds_none}
use Rattle.evex.specs.Decode.{number_of, refusals, decoded}
use Rattle.evex.specs.declared.Instruction.{Instruction}
use Rattle.evex.specs.declared.Refusal.{Refusal}
use Rattle.evex.specs.declared.Refusal.TheVariants.{Incomplete, Unlisted, Reserved}
use Rattle.evex.proofs.Answer as evex
use Rattle.machine.specs.State.{State, Stepped}
use Rattle.machine.specs.Memory.{needs_outside}
use Rattle.machine.specs.Lanes.{gathered, raises_unmasked}
use Rattle.machine.specs.Step.{of_fields, wrong_vector_file, high_control_bit, outside_memory, unmasked_exception, before_seven, conditions}
use Rattle.machine.specs.Step.{answer_of, refused, stopped, completed, step}
use Rattle.machine.specs.TwoRuns.{IsDecoded}

-- ---- the tests of 1 and 2

right_size : (s : State) → length s.vectors ≡ 2048 → wrong_vector_file s ≡ false
unfolding wrong_vector_file
right_size s e = rw (eq-eqb (length s.vectors) 2048 e)

low_control : (s : State) → s.control < 2 ^ 16 → high_control_bit s ≡ false
unfolding high_control_bit
low_control s h = lt-leb (2 ^ 16) s.control h

-- what stands before 7, whatever follows: 1, 2 or the number of what decoding refuses
before : (s : State) (code : List ℕ) (n : ℕ)
    → first_of (before_seven s code) n ≡ cond (wrong_vector_file s) 1 (cond (high_control_bit s) 2 (evex.number_or n (decoded code)))
unfolding before_seven
before s code n = rw (evex.answers n code)

-- ---- a law for each return

module _ (memory : List ℕ) (s : State) (code : List ℕ) where
  -- what follows: 7, 8 or 0
  abbrev rest : ℕ
  rest = cond (outside_memory memory s (decoded code)) 7 (cond (unmasked_exception memory s (decoded code)) 8 0)

  answer : answer_of memory s code ≡ first_of (before_seven s code) rest
  unfolding answer_of conditions
  answer = first_append (before_seven s code) _ 0

  -- every number but 0 and 8 leaves the state unchanged
  refuses : (n : ℕ) → answer_of memory s code ≡ n → eqb n 0 ≡ false → eqb n 8 ≡ false → step memory s code ≡ refused n s
  unfolding step
  refuses n e not0 not8 = rw (e, not0, not8) (go (decoded code))
    where
      go : (d : Result Instruction Refusal) → of_fields d (refused n s) (λ (i : Instruction). refused n s) ≡ refused n s
      go (Ok i) = refl
      go (Err r) = refl

  pub refuses_size : (length s.vectors ≡ 2048 → ⊥) → step memory s code ≡ refused 1 s
  unfolding wrong_vector_file
  refuses_size h = refuses 1 (answer ∙ rw (before s code, ne_eqb (length s.vectors) 2048 h)) refl refl

  module _ (size : length s.vectors ≡ 2048) where
    pub refuses_control : 2 ^ 16 ≤ s.control → step memory s code ≡ refused 2 s
    unfolding high_control_bit
    refuses_control h = refuses 2 (answer ∙ rw (before s code, right_size s size, le-leb (2 ^ 16) s.control h)) refl refl

    module _ (control : s.control < 2 ^ 16) where
      -- neither 1 nor 2
      further : answer_of memory s code ≡ evex.number_or rest (decoded code)
      further = answer ∙ rw (before s code, right_size s size, low_control s control)

      pub refuses_decoding : {r : Refusal} → decoded code ≡ Err r → step memory s code ≡ refused (number_of r) s
      unfolding step
      refuses_decoding e = rw (further, e)

      module _ {i : Instruction} (fields : decoded code ≡ Ok i) where
        pub refuses_memory : needs_outside s i (length memory) ≡ true → step memory s code ≡ refused 7 s
        unfolding step outside_memory
        refuses_memory o = rw (further, fields, o)

        module _ (inside : needs_outside s i (length memory) ≡ false) where
          pub stops : raises_unmasked s i (gathered memory s i) ≡ true → step memory s code ≡ stopped memory s i
          unfolding step outside_memory unmasked_exception
          stops t = rw (further, fields, inside, t)

          pub completes : raises_unmasked s i (gathered memory s i) ≡ false → step memory s code ≡ completed memory s i
          unfolding step outside_memory unmasked_exception
          completes t = rw (further, fields, inside, t)

-- ---- a step turns on what is decoded alone

pub by_decoded : (memory : List ℕ) (s : State) (code other : List ℕ) → decoded other ≡ decoded code
    → step memory s other ≡ step memory s code
unfolding step
by_decoded memory s code other e = rw (answer memory s other, answer memory s code, before s other, before s code, e)

-- ---- no number is 0

number_of_lem : (r : Refusal) → number_of r ≢ 0
number_of_lem Incomplete e = omega arith
number_of_lem Unlisted e = omega arith
number_of_lem Reserved e = omega arith

numbered_non_zero : (cs : List (Bool × Refusal)) → NonZero (evex.numbered cs)
numbered_non_zero [] = tt
numbered_non_zero (c ∷ cs) = (number_of_lem c.1, numbered_non_zero cs)

pub before_non_zero : (s : State) (code : List ℕ) → NonZero (before_seven s code)
unfolding before_seven
before_non_zero s code = ((λ e. omega arith), ((λ e. omega arith), numbered_non_zero (refusals code)))

-- ---- the two ways

pub data Way (s : State) (code : List ℕ) : Type 0 where
  early : (n : ℕ) → first_of (before_seven s code) 0 ≡ suc n → n < 5 → Way s code
  fields : (i : Instruction) → IsDecoded s code i → Way s code

pub way : (s : State) (code : List ℕ) → Way s code
way s code = go (wrong_vector_file s) (high_control_bit s) (decoded code) refl refl refl
  where
    refusal : (r : Refusal) → first_of (before_seven s code) 0 ≡ number_of r → Way s code
    refusal Incomplete e = early 2 e (lit≤ tt)
    refusal Unlisted e = early 3 e (lit≤ tt)
    refusal Reserved e = early 4 e (lit≤ tt)

    go : (v c : Bool) (d : Result Instruction Refusal) → wrong_vector_file s ≡ v → high_control_bit s ≡ c → decoded code ≡ d → Way s code
    go true c d e f g = early 0 (rw (before s code, e)) (lit≤ tt)
    go false true d e f g = early 1 (rw (before s code, e, f)) (lit≤ tt)
    go false false (Err r) e f g = refusal r (rw (before s code, e, f, g))
    go false false (Ok i) e f g = fields i (holds_none (before_seven s code) (before_non_zero s code) (rw (before s code, e, f, g)), g)

-- of what is decoded neither 1 nor 2 is given
pub decoded_size : (s : State) (code : List ℕ) → NoneHolds (before_seven s code) → length s.vectors ≡ 2048
unfolding before_seven wrong_vector_file
decoded_size s code none = eqb-true (length s.vectors) 2048 (not-false _ none.0)

pub decoded_control : (s : State) (code : List ℕ) → NoneHolds (before_seven s code) → s.control < 2 ^ 16
unfolding before_seven high_control_bit
decoded_control s code none = leb-false (2 ^ 16) s.control none.1.0

module _ (memory : List ℕ) (s : State) (code : List ℕ) where
  pub step_early : (n : ℕ) → first_of (before_seven s code) 0 ≡ suc n → n < 5 → step memory s code ≡ refused (suc n) s
  step_early n e h =
      refuses memory s code (suc n) (answer memory s code ∙ first_found (before_seven s code) n _ e)
      (ne_eqb (suc n) 0 (λ z. omega arith)) (ne_eqb (suc n) 8 (λ z. omega arith))

  pub step_decoded : {i : Instruction} → IsDecoded s code i
      → step memory s code
      ≡ cond (needs_outside s i (length memory)) (refused 7 s)
      (cond (raises_unmasked s i (gathered memory s i)) (stopped memory s i)
      (completed memory s i))
  step_decoded {i} d = go (needs_outside s i (length memory)) (raises_unmasked s i (gathered memory s i)) refl refl
    where
      size : length s.vectors ≡ 2048
      size = decoded_size s code d.0

      control : s.control < 2 ^ 16
      control = decoded_control s code d.0

      go : (o t : Bool) → needs_outside s i (length memory) ≡ o → raises_unmasked s i (gathered memory s i) ≡ t
          → step memory s code ≡ cond o (refused 7 s) (cond t (stopped memory s i) (completed memory s i))
      go true t e f = refuses_memory memory s code size control d.1 e
      go false true e f = stops memory s code size control d.1 e f
      go false false e f = completes memory s code size control d.1 e f

  -- a step that is done has left what 0 leaves
  pub step_done : {i : Instruction} → IsDecoded s code i → (step memory s code).answer.number ≡ 0 → step memory s code ≡ completed memory s i
  unfolding stopped
  step_done {i} d =
      rw (step_decoded d)
      (either (λ (o : Stepped). o.answer.number ≡ 0 → o ≡ completed memory s i) (needs_outside s i (length memory))
      (λ e. absurd (omega arith))
      (either (λ (o : Stepped). o.answer.number ≡ 0 → o ≡ completed memory s i) (raises_unmasked s i (gathered memory s i))
      (λ e. absurd (omega arith)) (λ _. refl)))

  -- what holds of every end holds of a step
  pub of_step : (P : Stepped → Type 0)
      → ((n : ℕ) → n < 5 → P (refused (suc n) s))
      → P (refused 7 s)
      → ((i : Instruction) → IsDecoded s code i → P (stopped memory s i) × P (completed memory s i))
      → P (step memory s code)
  of_step P refuses-early refuses-seven ends = go (way s code)
    where
      go : Way s code → P (step memory s code)
      go (early n e h) = rw (step_early n e h) (refuses-early n h)
      go (fields i d) =
          rw (step_decoded d)
          (either P (needs_outside s i (length memory)) refuses-seven
          (either P (raises_unmasked s i (gathered memory s i)) (ends i d).0 (ends i d).1))
