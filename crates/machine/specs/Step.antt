-- docs/RULES.md, section 4: the answer, what it leaves, a step; R11.4: a run.
use Rattle.std.specs.Prelude.{ℕ, ◌^◌, Bool, false, cond, not, List, [], ◌∷◌, ◌++◌, map, eqb, leb, length, Result, Ok, Err}
use Rattle.lists.specs.Lists.{first_of}
use Rattle.evex.specs.Decode.{number_of, refusals, decoded}
use Rattle.evex.specs.declared.Instruction.{Instruction}
use Rattle.evex.specs.declared.Refusal.{Refusal}
use Rattle.machine.specs.State.{State, Stepped}
use Rattle.machine.specs.Memory.{next_pointer, needs_outside}
use Rattle.machine.specs.Lanes.{gathered, results, raises_unmasked, control_after, vectors_after, masks_after}

-- ---- R4.2: the order of the answers

-- by the instruction, where there is one
abbrev pub of_fields : {A : Type 0} → Result Instruction Refusal → A → (Instruction → A) → A
of_fields (Ok i) otherwise f = f i
of_fields (Err r) otherwise f = otherwise

-- R4.3: the size of the vector file (R1.2)
abbrev pub wrong_file_size : List ℕ → Bool
wrong_file_size vectors = not (eqb (length vectors) 2048)

unfoldable pub wrong_vector_file : State → Bool
wrong_vector_file s = wrong_file_size s.vectors

-- R4.4: a bit above bit 15
unfoldable pub high_control_bit : State → Bool
high_control_bit s = leb (2 ^ 16) s.control

-- R4.13: a byte that is needed lies outside memory (R5.7)
unfoldable pub outside_memory : List ℕ → State → Result Instruction Refusal → Bool
outside_memory memory s d = of_fields d false (λ (i : Instruction). needs_outside s i (length memory))

-- R4.14: an unmasked exception is raised (R7.3)
unfoldable pub unmasked_exception : List ℕ → State → Result Instruction Refusal → Bool
unmasked_exception memory s d = of_fields d false (λ (i : Instruction). raises_unmasked s i (gathered memory s i))

-- R11.5: the conditions before 7, with their numbers: R4.3, R4.4, then those of the bytes
unfoldable pub before_seven : State → List ℕ → List (Bool × ℕ)
before_seven s code = (wrong_vector_file s, 1) ∷ (high_control_bit s, 2) ∷ map (λ c. (c.0, number_of c.1)) (refusals code)

-- R4.1, R4.2: all of them
unfoldable pub conditions : List ℕ → State → List ℕ → List (Bool × ℕ)
conditions memory s code =
    before_seven s code ++ ((outside_memory memory s (decoded code), 7) ∷ (unmasked_exception memory s (decoded code), 8) ∷ [])

-- the number beside the first that holds; 0 where none does
unfoldable pub answer_of : List ℕ → State → List ℕ → ℕ
answer_of memory s code = first_of (conditions memory s code) 0

-- ---- what each answer leaves

-- R4.16, R4.17: every number but 0 and 8 leaves everything unchanged
abbrev pub refused : ℕ → State → Stepped
refused n s = record { answer = record { number = n; length = 0 }; state = s }

-- R4.16, R4.17, R7.4: 8 leaves flags in the control word, and all else unchanged
unfoldable pub stopped : List ℕ → State → Instruction → Stepped
stopped memory s i =
    record {
      answer = record { number = 8; length = 0 };
      state =
          record {
            vectors = s.vectors;
            masks = s.masks;
            general = s.general;
            control = control_after s i (gathered memory s i);
            pointer = s.pointer;
          };
    }

-- R4.15, R4.17: what 0 leaves. R1.4: general registers stay.
unfoldable pub completed : List ℕ → State → Instruction → Stepped
completed memory s i =
    record {
      answer = record { number = 0; length = i.size };
      state =
          record {
            vectors = vectors_after s i (results s i (gathered memory s i)) i.destination;
            masks = masks_after s.masks (results s i (gathered memory s i)) i.destination;
            general = s.general;
            control = control_after s i (gathered memory s i);
            pointer = next_pointer s i;
          };
    }

-- ---- a step, and a run

-- R4.19. Where decoding refuses, the answer is one of 1 to 5 (proofs/Ends.antt, `way`).
unfoldable pub step : List ℕ → State → List ℕ → Stepped
step memory s code =
    let n : ℕ = answer_of memory s code in
    of_fields (decoded code) (refused n s)
    (λ (i : Instruction). cond (eqb n 0) (completed memory s i) (cond (eqb n 8) (stopped memory s i) (refused n s)))

-- R11.4: what each step of a sequence gives, from this state on
unfoldable pub run : List ℕ → State → List (List ℕ) → List Stepped
run memory s [] = []
run memory s (code ∷ codes) = step memory s code ∷ run memory (step memory s code).state codes
