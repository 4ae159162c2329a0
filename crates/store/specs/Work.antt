-- What the code stores. No clause: used by the code, nothing to believe. The laws of the crate step (proofs/Meaning.antt) tie it to the
-- machine's definitions.
use Rattle.std.specs.Prelude.{ℕ, ◌%◌, Bool, cond, not, ◌&&◌, List, [], ◌∷◌, ltb, get_or, set}
use Rattle.lists.specs.Lists.{table, binary}
use Rattle.evex.specs.declared.Destination.{Destination}
use Rattle.evex.specs.declared.Destination.TheVariants.{Vector, Mask}
use Rattle.evex.specs.declared.Instruction.{Instruction}
use Rattle.machine.specs.Lanes.{Fill, computed, copied, zeroed, upper_from, vectors_with}
use Rattle.lanes.specs.declared.Results.{Results}

-- lane j of an instruction's destination is off, and kept
abbrev pub kept_by : (ℕ → Bool) → Instruction → ℕ → Bool
kept_by on i j = not (on j) && (ltb j i.elements && not i.zeroing)

-- a lane of register n that is kept, or else written with its result, which is 0 where the lane is off
abbrev pub kept_or : (ℕ → Bool) → ℕ → ℕ → Fill
kept_or kept n j = cond (kept j) (copied n) computed

-- the same of lane 0 alone, lanes 1 to 7 taken from another register, 0 in all others
abbrev pub scalar_or : (ℕ → Bool) → ℕ → ℕ → ℕ → Fill
scalar_or kept from n j = cond (ltb j 1) (kept_or kept n j) (cond (ltb j 8) (copied from) zeroed)

-- of an instruction's destination n
abbrev pub stored_by : (ℕ → Bool) → Instruction → ℕ → ℕ → Fill
stored_by on i n j = cond i.shape.scalar (scalar_or (kept_by on i) (upper_from i n) n j) (kept_or (kept_by on i) n j)

-- the halves that count
abbrev pub halves_of : Instruction → Results → List ℕ
halves_of i r = cond i.shape.scalar (r.joined ∷ []) r.halves

-- the number whose bit j is lane j's lowest
abbrev pub lowest_bits : List ℕ → ℕ
lowest_bits halves = binary (table 32 (λ j. get_or halves j 0 % 2))

-- the vector file, and the masks
abbrev pub vectors_stored : (ℕ → Bool) → Instruction → Results → List ℕ → Destination → List ℕ
vectors_stored on i r vectors (Vector n) = vectors_with (stored_by on i n) vectors (halves_of i r) n
vectors_stored on i r vectors (Mask n) = vectors

abbrev pub masks_stored : Results → List ℕ → Destination → List ℕ
masks_stored r masks (Vector n) = masks
masks_stored r masks (Mask n) = set masks n (lowest_bits r.halves)
