-- docs/RULES.md, section 4: which answer is given, and what it leaves. The statements; their proofs are in proofs/Answers.antt.
use Rattle.std.specs.Prelude.{ℕ, ◌+◌, ◌%◌, ◌^◌, ◌<◌, ◌≤◌, ◌≡◌, ◌↔◌, ◌≢◌, Bool, true, List, ◌∷◌, ◌++◌, take, Ok}
use Rattle.std.specs.Int.Bits.{bit_or}
use Rattle.lists.specs.Lists.{NoneHolds}
use Rattle.evex.specs.Decode.{decoded}
use Rattle.evex.specs.Sizes.{longest, IsSize}
use Rattle.evex.specs.declared.Instruction.{Instruction}
use Rattle.machine.specs.State.{State, Stepped}
use Rattle.machine.specs.Step.{conditions, step}

-- R4.2: n stands beside a condition that holds, and none before it does
pub record IsFirst (cs : List (Bool × ℕ)) (n : ℕ) : Type 0 where
  pub earlier : List (Bool × ℕ)
  pub later : List (Bool × ℕ)
  pub order : cs ≡ earlier ++ ((true, n) ∷ later)
  pub none : NoneHolds earlier

-- R4.2, of the number n, where the conditions stand in their order.
pub record InOrder (cs : List (Bool × ℕ)) (n : ℕ) : Type 0 where
  -- 0 is given exactly when no condition holds
  pub done : (n ≡ 0) ↔ NoneHolds cs
  -- any other number exactly when its condition holds and no earlier one does
  pub given : (k : ℕ) → k ≢ 0 → (n ≡ k) ↔ IsFirst cs k

-- R4.15, R4.16, R4.17: what a step leaves that was given the state s. (The new vector file is in VectorFile.antt, the new masks are in
-- Masks.antt.)
pub record Leaves (s : State) (o : Stepped) : Type 0 where
  -- R4.15, of the pointer
  pub moved : o.answer.number ≡ 0 → o.state.pointer ≡ (s.pointer + o.answer.length) % 2 ^ 64
  -- R4.16, of every number but 0 and 8
  pub before : o.answer.number ≢ 0 → o.answer.number ≢ 8 → o.state ≡ s
  -- R4.16, of 8; flags are bits 0 to 5
  pub flagged : o.answer.number ≡ 8
      → (flags : ℕ)
      × (flags < 64)
      × (o.state
      ≡ record {
        vectors = s.vectors;
        masks = s.masks;
        general = s.general;
        control = bit_or s.control flags;
        pointer = s.pointer;
      })
  -- R4.17
  pub length : o.answer.number ≢ 0 → o.answer.length ≡ 0

-- R4.19: of every step; `conditions` has the order.
abbrev pub Answers : Type 0
Answers =
    (memory : List ℕ) (s : State) (code : List ℕ)
    → InOrder (conditions memory s code) (step memory s code).answer.number × Leaves s (step memory s code)

-- R4.18: any other bytes behind the instruction make no difference.
abbrev pub BytesAfter : Type 0
BytesAfter =
    (memory : List ℕ) (s : State) (code rest : List ℕ) (i : Instruction)
    → decoded code ≡ Ok i → step memory s (take i.size code ++ rest) ≡ step memory s code

-- R4.18: nor do bytes behind as many as the longest instruction has, whether the code is refused or not.
abbrev pub FirstBytes : Type 0
FirstBytes = (memory : List ℕ) (s : State) (code : List ℕ) (n : ℕ) → longest ≤ n → step memory s (take n code) ≡ step memory s code

-- R4.12: another number than 6 is handed back
abbrev pub NotSix : Stepped → Type 0
NotSix o = o.answer.number ≢ 6

-- R4.12: by every step.
abbrev pub NoSix : Type 0
NoSix = (memory : List ℕ) (s : State) (code : List ℕ) → NotSix (step memory s code)

-- R4.17: with 0 a length of R3.14 is handed back, by a step that was given this code
abbrev pub Sized : List ℕ → Stepped → Type 0
Sized code o = o.answer.number ≡ 0 → IsSize code o.answer.length

-- R4.17: by every step.
abbrev pub Lengths : Type 0
Lengths = (memory : List ℕ) (s : State) (code : List ℕ) → Sized code (step memory s code)
