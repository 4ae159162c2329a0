-- docs/RULES.md, section 11: two runs, the statement. Its proof is in proofs/TwoRuns.antt.
use Rattle.std.specs.Prelude.{ℕ, ◌<◌, ◌/◌, ◌%◌, ◌≡◌, true, length, get_or, Ok}
use mathlib.Core.List.{List, [], ◌∷◌, Memᴰ}
use Rattle.lists.specs.Lists.{NoneHolds}
use Rattle.evex.specs.Decode.{decoded}
use Rattle.evex.specs.declared.Instruction.{Instruction}
use Rattle.machine.specs.State.{State, Stepped}
use Rattle.machine.specs.Memory.{on, bytes_read}
use Rattle.machine.specs.Step.{before_seven, step, run}

-- R11.1: the number of the lane that byte p of a vector file is of
abbrev pub lane_number : ℕ → ℕ
lane_number p = p % 64 / 2

-- R11.2: two lists of the same length that agree in what is open, which is all that is not hidden
pub record EqualOpen (Hidden : ℕ → Type 0) (l m : List ℕ) : Type 0 where
  pub lengths : length l ≡ length m
  pub places : (p : ℕ) → p < length l → ¬ Hidden p → get_or l p 0 ≡ get_or m p 0

-- R11.3: two states that are alike. Nothing else is asked of them.
pub record Alike (HiddenLane : ℕ → Type 0) (s₁ s₂ : State) : Type 0 where
  pub vectors : EqualOpen (λ p. HiddenLane (lane_number p)) s₁.vectors s₂.vectors
  pub masks : s₁.masks ≡ s₂.masks
  pub general : s₁.general ≡ s₂.general
  pub control : s₁.control ≡ s₂.control
  pub pointer : s₁.pointer ≡ s₂.pointer

-- R11.5: the code is decoded, to this instruction
abbrev pub IsDecoded : State → List ℕ → Instruction → Type 0
IsDecoded s code i = NoneHolds (before_seven s code) × (decoded code ≡ Ok i)

-- R5.1, R11.5: it switches on lane j
abbrev pub SwitchesOn : State → Instruction → ℕ → Type 0
SwitchesOn s i j = on s i j ≡ true

-- R5.6, R11.5: it needs the byte at address a
abbrev pub Needs : State → Instruction → ℕ → Type 0
Needs s i a = (j : ℕ) × SwitchesOn s i j × Memᴰ a (bytes_read s i i.second j)

module _ (HiddenLane HiddenByte : ℕ → Type 0) where
  -- R11.6: of a step. An address outside memory is no byte of it, and may be called hidden.
  pub record HiddenUnused (memory : List ℕ) (s : State) (code : List ℕ) : Type 0 where
    pub lanes : (i : Instruction) → IsDecoded s code i → (j : ℕ) → SwitchesOn s i j → ¬ HiddenLane j
    pub bytes : (i : Instruction) → IsDecoded s code i → (a : ℕ) → Needs s i a → a < length memory → ¬ HiddenByte a

  -- R11.6: of every step of the run that begins here
  abbrev pub HiddenUnusedThroughout : List ℕ → State → List (List ℕ) → Type 0
  HiddenUnusedThroughout memory s [] = Unit {0}
  HiddenUnusedThroughout memory s (code ∷ codes) =
      HiddenUnused memory s code × HiddenUnusedThroughout memory (step memory s code).state codes

-- R11.7: after a step answers and lengths are equal, and the states alike.
pub record AlikeAfter (HiddenLane : ℕ → Type 0) (o₁ o₂ : Stepped) : Type 0 where
  pub answers : o₁.answer ≡ o₂.answer
  pub states : Alike HiddenLane o₁.state o₂.state

-- R11.7: after every step, and the runs are equally long.
abbrev pub AlikeThroughout : (ℕ → Type 0) → List Stepped → List Stepped → Type 0
AlikeThroughout HiddenLane [] [] = Unit {0}
AlikeThroughout HiddenLane [] (o₂ ∷ os₂) = ⊥
AlikeThroughout HiddenLane (o₁ ∷ os₁) [] = ⊥
AlikeThroughout HiddenLane (o₁ ∷ os₁) (o₂ ∷ os₂) = AlikeAfter HiddenLane o₁ o₂ × AlikeThroughout HiddenLane os₁ os₂

-- R11.7: one statement about all sequences and what is hidden throughout them
abbrev pub TwoRuns : Type 1
TwoRuns =
    (HiddenLane HiddenByte : ℕ → Type 0)
    (memory₁ memory₂ : List ℕ) (start₁ start₂ : State) (sequence : List (List ℕ))
    → EqualOpen HiddenByte memory₁ memory₂
    → Alike HiddenLane start₁ start₂
    → HiddenUnusedThroughout HiddenLane HiddenByte memory₁ start₁ sequence
    → AlikeThroughout HiddenLane (run memory₁ start₁ sequence) (run memory₂ start₂ sequence)
