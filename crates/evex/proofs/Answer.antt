-- Decoding as a number: that beside the first condition that holds, whatever follows where none does. For who carries the order on, to 7
-- and 8.
-- Assumes nothing.
use mathlib.Core.Path.{◌≡◌, refl, ◌∙◌}
use mathlib.Core.Bool.{Bool, true, false, cond}
use mathlib.Core.List.{List, [], ◌∷◌, map}
use Prim.Native.Nat.{ℕ}
use Rattle.std.specs.Prelude.{Result, Ok, Err, Option, Some, None}
use Rattle.lists.specs.Lists.{first_of}
use Rattle.evex.specs.Fields.{head_of, listed}
use Rattle.evex.specs.Decode.{number_of, not_in_list, head_conditions, refusals, fields, decoded}
use Rattle.evex.specs.declared.Instruction.{Instruction}
use Rattle.evex.specs.declared.Refusal.{Refusal}
use Rattle.evex.specs.declared.list.Row.{Row}

-- the conditions with their numbers
abbrev pub numbered : List (Bool × Refusal) → List (Bool × ℕ)
numbered cs = map (λ c. (c.0, number_of c.1)) cs

-- the number of a refusal, or else what follows
abbrev pub number_or : ℕ → Result Instruction Refusal → ℕ
number_or n (Err r) = number_of r
number_or n (Ok i) = n

-- a number for each choice of a test
picked : (n : ℕ) (t : Bool) (r : Refusal) (d : Result Instruction Refusal)
    → cond t (number_of r) (number_or n d) ≡ number_or n (cond t (Err r) d)
picked n true r d = refl
picked n false r d = refl

first_answer : (n : ℕ) (cs : List (Bool × Refusal)) (d : Result Instruction Refusal)
    → first_of (numbered cs) (number_or n d) ≡ number_or n (first_of (map (λ c. (c.0, Err c.1)) cs) d)
first_answer n [] d = refl
first_answer n (c ∷ cs) d = rw (first_answer n cs d) (picked n c.0 c.1 (first_of (map (λ c. (c.0, Err c.1)) cs) d))

-- what is not in the list is refused, so what follows does not matter
past_list : (n m : ℕ) (code : List ℕ) → listed (head_of code) ≡ None
    → first_of (numbered (refusals code)) n ≡ first_of (numbered (refusals code)) m
unfolding refusals head_conditions not_in_list
past_list n m code e = rw e

pub answers : (n : ℕ) (code : List ℕ) → first_of (numbered (refusals code)) n ≡ number_or n (decoded code)
unfolding decoded
answers n code = go (listed (head_of code)) refl ∙ first_answer n (refusals code) (fields (head_of code) code (listed (head_of code)))
  where
    go : (l : Option Row) → listed (head_of code) ≡ l
        → first_of (numbered (refusals code)) n ≡ first_of (numbered (refusals code))
        (number_or n (fields (head_of code) code (listed (head_of code))))
    go (Some row) e = rw e
    go None e = past_list n _ code e
