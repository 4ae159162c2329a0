-- R11.7: the two-run theorem of specs/TwoRuns.antt.
--
-- A step looks at the vector file and the memory in three ways: at their lengths; through `gathered`, only at lanes that are on and at
-- bytes that these need (`gathered_equal`); and at bytes that are copied, each from the same lane of a register (`filled_equal`).
-- Everything else is computed from the registers, the bytes and what was gathered, which are equal in both runs (`.. same`).
-- Assumes nothing.
use Prim.Native.Nat.{ℕ, suc, ◌+◌, ◌/◌, ◌≤◌, ◌<◌}
use mathlib.Core.Path.{◌≡◌, refl, sym, ◌∙◌, subst}
use mathlib.Core.Bool.{Bool, true}
use mathlib.Core.List.{List, [], ◌∷◌}
use native.Mathlib.Omega.{arith}
use lib.ListN.{length, get_or}
use Rattle.std.specs.Prelude.{Option, Some, None}
use Rattle.evex.specs.declared.Destination.{Destination}
use Rattle.evex.specs.declared.Destination.TheVariants.{Vector, Mask}
use Rattle.evex.specs.declared.Instruction.{Instruction}
use Rattle.evex.proofs.Bounds.{DestinationIn, bounds}
use Rattle.lists.specs.Lists.{Each}
use Rattle.lists.proofs.Tests.{either_related, either_equal}
use Rattle.lists.proofs.Tables.{table_equal, length-table, get_or-table}
use Rattle.machine.specs.State.{State, register_at, lane_places}
use Rattle.machine.specs.Memory.{bytes_at, on, second_at, bytes_read, needs_outside}
use Rattle.machine.specs.Lanes.{Sources, register_halves, memory_halves, no_halves, destination_halves, first_halves, second_halves, gathered}
use Rattle.machine.specs.Lanes.{results, raised, raises_unmasked, control_after, Fill, computed, copied, zeroed, fill, filled, new_register}
use Rattle.machine.specs.Lanes.{vectors_with, vectors_after}
use Rattle.machine.specs.declared.Located.{Located}
use Rattle.machine.specs.declared.Located.TheVariants as place
use Rattle.machine.specs.Step.{wrong_vector_file, high_control_bit, before_seven, refused, stopped, completed, step, run}
use Rattle.machine.specs.TwoRuns.{EqualOpen, lane_number, Alike, AlikeAfter, AlikeThroughout, HiddenUnused, HiddenUnusedThroughout}
use Rattle.machine.specs.TwoRuns.{TwoRuns}
use Rattle.machine.proofs.Agree.{each_of, equal_at, numbers_equal, paste_equal}
use Rattle.machine.proofs.Ends.{Way, early, fields, way, decoded_size, step_early, step_decoded}

-- a register has 64 bytes however it is filled
pub new_length : (how : ℕ → Fill) (vectors halves : List ℕ) → length (new_register how vectors halves) ≡ 64
unfolding new_register
new_length how vectors halves = length-table 64 _

pub new_byte : (how : ℕ → Fill) (vectors halves : List ℕ) (q : ℕ) → q < 64
    → get_or (new_register how vectors halves) q 0 ≡ filled vectors halves q (how (q / 2))
unfolding new_register
new_byte how vectors halves q h = get_or-table 64 _ q 0 h

-- ---- what looks at the registers alone

-- the state with another vector file
abbrev with_vectors : State → List ℕ → State
with_vectors s v = record { vectors = v; masks = s.masks; general = s.general; control = s.control; pointer = s.pointer }

module _ (s : State) (v : List ℕ) where
  before_same : (code : List ℕ) → length s.vectors ≡ length v → before_seven (with_vectors s v) code ≡ before_seven s code
  unfolding before_seven wrong_vector_file high_control_bit
  before_same code e = rw e

  module _ (i : Instruction) where
    outside_same : (n : ℕ) → needs_outside (with_vectors s v) i n ≡ needs_outside s i n
    unfolding needs_outside on
    outside_same n = refl

    raises_same : (g : Sources) → raises_unmasked (with_vectors s v) i g ≡ raises_unmasked s i g
    unfolding raises_unmasked raised on
    raises_same g = refl

    control_same : (g : Sources) → control_after (with_vectors s v) i g ≡ control_after s i g
    unfolding control_after raised on
    control_same g = refl

    results_same : (g : Sources) → results (with_vectors s v) i g ≡ results s i g
    unfolding results on
    results_same g = refl

    fill_same : (n : ℕ) → fill (with_vectors s v) i n ≡ fill s i n
    unfolding fill on
    fill_same n = refl

module _ (HiddenLane HiddenByte : ℕ → Type 0) where
  abbrev HiddenPlace : ℕ → Type 0
  HiddenPlace p = HiddenLane (lane_number p)

  -- an open lane's bytes are open, in any register
  lane_open : (l n j : ℕ) → j < 32 → ¬ HiddenLane j → Each (λ p. p < l → ¬ HiddenPlace p) (lane_places n j)
  lane_open l n j h o =
      ((λ _. subst (λ (x : ℕ). ¬ HiddenLane x) (omega arith) o), ((λ _. subst (λ (x : ℕ). ¬ HiddenLane x) (omega arith) o), tt))

  module _ (s : State) {v : List ℕ} (files : EqualOpen HiddenPlace s.vectors v) (i : Instruction) where
    -- ---- what is read

    module _ {memory₁ memory₂ : List ℕ} (memories : EqualOpen HiddenByte memory₁ memory₂)
        (lanes : (j : ℕ) → on s i j ≡ true → ¬ HiddenLane j) where
      registers_equal : (n : ℕ) → register_halves (on s i) s.vectors n ≡ register_halves (on s i) v n
      unfolding register_halves
      registers_equal n =
          table_equal 32 (λ j k. either_equal 0 (on s i j) (λ t. numbers_equal files (lane_places n j) (lane_open _ n j k (lanes j t))))

      destination_equal : (t : Bool) (x : Destination) → destination_halves (on s i) s.vectors t x ≡ destination_halves (on s i) v t x
      destination_equal t (Vector n) = either_equal no_halves t (λ _. registers_equal n)
      destination_equal t (Mask n) = refl

      first_equal : (x : Option ℕ) → first_halves (on s i) s.vectors x ≡ first_halves (on s i) v x
      first_equal None = refl
      first_equal (Some n) = registers_equal n

      second_equal : (x : Located) → ((j : ℕ) → on s i j ≡ true → Each (λ a. a < length memory₁ → ¬ HiddenByte a) (bytes_at x j))
          → second_halves (on s i) s.vectors memory₁ x ≡ second_halves (on s i) v memory₂ x
      unfolding memory_halves
      second_equal (place.Register n) bytes = registers_equal n
      second_equal (place.Words at broadcast) bytes =
          table_equal 32
          (λ j k. either_equal 0 (on s i j) (λ t. numbers_equal memories (bytes_at (place.Words at broadcast) j) (bytes j t)))

      gathered_equal : ((j : ℕ) → on s i j ≡ true → Each (λ a. a < length memory₁ → ¬ HiddenByte a) (bytes_read s i i.second j))
          → gathered memory₁ s i ≡ gathered memory₂ (with_vectors s v) i
      unfolding gathered on
      gathered_equal bytes = λ x.
          record {
            destination = destination_equal i.shape.accumulates i.destination x;
            first = first_equal i.first x;
            second = second_equal (second_at s i) bytes x;
          }

    -- ---- what is written

    module _ (how : ℕ → Fill) (halves : List ℕ) (n : ℕ) where
      -- what is copied comes from the same lane of some register
      filled_equal : (k : ℕ) → k < 64 → ¬ HiddenPlace (register_at n + k) → (f : Fill)
          → filled s.vectors halves k f ≡ filled v halves k f
      filled_equal k h o computed = refl
      filled_equal k h o (copied m) = equal_at files (register_at m + k) (λ _. subst (λ (x : ℕ). ¬ HiddenLane x) (omega arith) o)
      filled_equal k h o zeroed = refl

      filled_alike : register_at n + 64 ≤ length s.vectors
          → EqualOpen HiddenPlace (vectors_with how s.vectors halves n) (vectors_with how v halves n)
      unfolding vectors_with
      filled_alike fits =
          paste_equal (register_at n) 64 (new_register how s.vectors halves) (new_register how v halves)
          files fits (new_length how s.vectors halves) (new_length how v halves)
          (λ k h o. new_byte how s.vectors halves k h ∙ filled_equal k h o (how (k / 2)) ∙ sym (new_byte how v halves k h))

    written_alike : length s.vectors ≡ 2048 → (halves : List ℕ) (x : Destination) → DestinationIn x
        → EqualOpen HiddenPlace (vectors_after s i halves x) (vectors_after (with_vectors s v) i halves x)
    unfolding vectors_after
    written_alike size halves (Vector n) h = rw (fill_same s v i n) (filled_alike (fill s i n) halves n (omega arith))
    written_alike size halves (Mask n) h = files

  -- ---- a step

  -- nothing but the hidden lanes differs, as before
  left_alike : (s : State) {v : List ℕ} → EqualOpen HiddenPlace s.vectors v → Alike HiddenLane s (with_vectors s v)
  left_alike s files = record { vectors = files; masks = refl; general = refl; control = refl; pointer = refl }

  refused_alike : (n : ℕ) (s : State) {v : List ℕ} → EqualOpen HiddenPlace s.vectors v
      → AlikeAfter HiddenLane (refused n s) (refused n (with_vectors s v))
  refused_alike n s files = record { answers = refl; states = left_alike s files }

  module _ {memory₁ memory₂ : List ℕ} (memories : EqualOpen HiddenByte memory₁ memory₂) where
    module _ (s : State) {v : List ℕ} (files : EqualOpen HiddenPlace s.vectors v) (i : Instruction)
        (g : gathered memory₁ s i ≡ gathered memory₂ (with_vectors s v) i) where
      stopped_alike : AlikeAfter HiddenLane (stopped memory₁ s i) (stopped memory₂ (with_vectors s v) i)
      unfolding stopped
      stopped_alike =
          rw (← g, control_same s v i)
          (record { answers = refl; states = record { vectors = files; masks = refl; general = refl; control = refl; pointer = refl } })

      completed_alike : length s.vectors ≡ 2048 → DestinationIn i.destination
          → AlikeAfter HiddenLane (completed memory₁ s i) (completed memory₂ (with_vectors s v) i)
      unfolding completed
      completed_alike size h =
          rw (← g, control_same s v i, results_same s v i)
          (record {
            answers = refl;
            states =
                record {
                  vectors = written_alike s files i size (results s i (gathered memory₁ s i)) i.destination h;
                  masks = refl;
                  general = refl;
                  control = refl;
                  pointer = refl;
                };
          })

    same_step : (s : State) {v : List ℕ} (code : List ℕ) → EqualOpen HiddenPlace s.vectors v
        → HiddenUnused HiddenLane HiddenByte memory₁ s code
        → AlikeAfter HiddenLane (step memory₁ s code) (step memory₂ (with_vectors s v) code)
    same_step s {v} code files unused = go (way s code)
      where
        go : Way s code → AlikeAfter HiddenLane (step memory₁ s code) (step memory₂ (with_vectors s v) code)
        go (early n e h) =
            rw (
              step_early memory₁ s code n e h,
              step_early memory₂ (with_vectors s v) code n (rw (before_same s v code files.lengths) e)
                  h,
            )
            (refused_alike (suc n) s files)
        go (fields i d) =
            let g : gathered memory₁ s i ≡ gathered memory₂ (with_vectors s v) i =
            gathered_equal s files i memories (unused.lanes i d) (λ j t. each_of _ (λ a m. unused.bytes i d a (j, t, m))) in
            rw (
              step_decoded memory₁ s code d,
              step_decoded memory₂ (with_vectors s v) code {i = i}
                  (rw (before_same s v code files.lengths) d),
            )
            (rw (outside_same s v i, raises_same s v i, ← g, ← memories.lengths)
            (either_related (AlikeAfter HiddenLane) (needs_outside s i (length memory₁)) (refused_alike 7 s files)
            (either_related (AlikeAfter HiddenLane) (raises_unmasked s i (gathered memory₁ s i)) (stopped_alike s files i g)
            (completed_alike s files i g (decoded_size s code d.0) (bounds code d.1).destination))))

    step_alike : (s₁ s₂ : State) (code : List ℕ) → Alike HiddenLane s₁ s₂ → HiddenUnused HiddenLane HiddenByte memory₁ s₁ code
        → AlikeAfter HiddenLane (step memory₁ s₁ code) (step memory₂ s₂ code)
    step_alike s₁ s₂ code a unused =
        subst (λ (t : State). AlikeAfter HiddenLane (step memory₁ s₁ code) (step memory₂ t code)) same
        (same_step s₁ code a.vectors unused)
      where
        same : with_vectors s₁ s₂.vectors ≡ s₂
        same =
            λ x. record {
              vectors = s₂.vectors;
              masks = a.masks x;
              general = a.general x;
              control = a.control x;
              pointer = a.pointer x;
            }

    -- ---- a run

    runs_alike : (s₁ s₂ : State) (codes : List (List ℕ)) → Alike HiddenLane s₁ s₂
        → HiddenUnusedThroughout HiddenLane HiddenByte memory₁ s₁ codes
        → AlikeThroughout HiddenLane (run memory₁ s₁ codes) (run memory₂ s₂ codes)
    unfolding run
    runs_alike s₁ s₂ [] a unused = tt
    runs_alike s₁ s₂ (code ∷ codes) a unused =
        let o : AlikeAfter HiddenLane (step memory₁ s₁ code) (step memory₂ s₂ code) = step_alike s₁ s₂ code a unused.0 in
        (o, runs_alike (step memory₁ s₁ code).state (step memory₂ s₂ code).state codes o.states unused.1)

pub two_runs : TwoRuns
two_runs HiddenLane HiddenByte memory₁ memory₂ start₁ start₂ sequence memories starts unused =
    runs_alike HiddenLane HiddenByte memories start₁ start₂ sequence starts unused
