-- The conditions of a row, as `decode_row` asks them: the reserved forms as one test, then whether bytes are missing.
-- Assumes nothing.
use mathlib.Core.Path.{◌≡◌, refl}
use mathlib.Core.Bool.{Bool, true, false, cond}
use mathlib.Core.List.{List, [], ◌∷◌, ◌++◌, map}
use Prim.Native.Nat.{ℕ}
use Rattle.std.specs.Prelude.{Result, Ok, Err}
use Rattle.lists.specs.Lists.{some, first_of}
use Rattle.evex.specs.Fields.{instruction}
use Rattle.evex.specs.Decode.{reserved_forms, bytes_missing, row_conditions}
use Rattle.evex.specs.declared.head.Head.{Head}
use Rattle.evex.specs.declared.list.Row.{Row}
use Rattle.evex.specs.declared.Instruction.{Instruction}
use Rattle.evex.specs.declared.Refusal.{Refusal}
use Rattle.evex.specs.declared.Refusal.TheVariants.{Incomplete, Reserved}

-- conditions with what they give
abbrev pub answers : List (Bool × Refusal) → List (Bool × Result Instruction Refusal)
answers cs = map (λ c. (c.0, Err c.1)) cs

-- one refusal beside every condition of a list that stands before others
of_any : (ts : List Bool) (r : Refusal) (cs : List (Bool × Refusal)) (d : Result Instruction Refusal)
    → first_of (answers (map (λ t. (t, r)) ts ++ cs)) d ≡ cond (some (λ t. t) ts) (Err r) (first_of (answers cs) d)
of_any [] r cs d = refl
of_any (true ∷ ts) r cs d = refl
of_any (false ∷ ts) r cs d = of_any ts r cs d

pub after_list : (code : List ℕ) (h : Head) (row : Row)
    → first_of (answers (row_conditions h code row)) (Ok (instruction h row code))
    ≡ cond (some (λ reserved. reserved) (reserved_forms h row)) (Err Reserved)
    (cond (bytes_missing h row code) (Err Incomplete) (Ok (instruction h row code)))
unfolding row_conditions
after_list code h row = of_any (reserved_forms h row) Reserved _ _
