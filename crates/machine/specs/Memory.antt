-- docs/RULES.md, R5.1 to R5.7: addresses, which lanes are on, and the memory bytes that are needed.
use Rattle.std.specs.Prelude.{ℕ, ◌+◌, ◌-◌, ◌*◌, ◌%◌, ◌^◌, Bool, cond, ◌&&◌, ◌||◌, List, [], ◌∷◌, eqb, ltb, leb, ℤ, pos, negsuc, get_or}
use Rattle.std.specs.Prelude.{Option, Some, None}
use Rattle.evex.specs.Bits.{is_set}
use Rattle.evex.specs.declared.Base.{Base}
use Rattle.evex.specs.declared.Base.TheVariants as base
use Rattle.evex.specs.declared.Index.{Index}
use Rattle.evex.specs.declared.Address.{Address}
use Rattle.evex.specs.declared.Operand.{Operand}
use Rattle.evex.specs.declared.Operand.TheVariants as operand
use Rattle.evex.specs.declared.Instruction.{Instruction}
use Rattle.lists.specs.Lists.{some, table}
use Rattle.machine.specs.State.{State}
use Rattle.machine.specs.declared.Located.{Located}
use Rattle.machine.specs.declared.Located.TheVariants as place

-- ---- R5.4: addresses, by the general registers and the next instruction's address

-- a signed number modulo 2 to the 64; `negsuc n` is -1 - n
abbrev pub wrapped : ℤ → ℕ
wrapped (pos n) = n % 2 ^ 64
wrapped (negsuc n) = 2 ^ 64 - 1 - n % 2 ^ 64

abbrev pub base_value : List ℕ → ℕ → Option Base → ℕ
base_value general next None = 0
base_value general next (Some (base.General n)) = get_or general n 0
base_value general next (Some base.NextInstruction) = next

abbrev pub index_value : List ℕ → Option Index → ℕ
index_value general None = 0
index_value general (Some i) = get_or general i.number 0 * 2 ^ i.scale

unfoldable pub address_from : List ℕ → ℕ → Address → ℕ
address_from general next a = (base_value general next a.base + index_value general a.index + wrapped a.displacement) % 2 ^ 64

-- R5.3, R5.4: where an operand is
unfoldable pub located : List ℕ → ℕ → Operand → Located
located general next (operand.Register n) = place.Register n
located general next (operand.Memory a broadcast) = place.Words (address_from general next a) broadcast

-- ---- the words of memory

-- R5.5: where lane j's word begins, by the address of the first; under broadcast all lanes read that one
abbrev pub word_from : ℕ → Bool → ℕ → ℕ
word_from first broadcast j = (first + cond broadcast 0 (2 * j)) % 2 ^ 64

-- R5.5: the addresses of a word's two bytes
abbrev pub word_bytes : ℕ → List ℕ
word_bytes a = a ∷ ((a + 1) % 2 ^ 64) ∷ []

-- R5.2, R5.6: the addresses of the bytes that lane j reads, where it is on
abbrev pub bytes_at : Located → ℕ → List ℕ
bytes_at (place.Register n) j = []
bytes_at (place.Words at broadcast) j = word_bytes (word_from at broadcast j)

-- R5.7: a lane that is on reads a byte outside a memory of this length (R1.8)
unfoldable pub outside : (ℕ → Bool) → ℕ → Located → Bool
outside on memory_length second = some (λ j. on j && some (λ a. leb memory_length a) (bytes_at second j)) (table 32 (λ j. j))

-- ---- elements

-- R5.1: element e is on, of so many, under mask aaa
abbrev pub is_on : List ℕ → ℕ → ℕ → ℕ → Bool
is_on masks aaa elements e = ltb e elements && (eqb aaa 0 || is_set (get_or masks aaa 0) e)

-- ---- of an instruction in a state
module _ (s : State) (i : Instruction) where
  -- R5.1: its element e is on, and the lane that holds it switched on
  unfoldable pub on : ℕ → Bool
  on e = is_on s.masks i.mask i.elements e

  -- R1.7, R4.15, R5.4: the address of the next instruction
  abbrev pub next_pointer : ℕ
  next_pointer = (s.pointer + i.size) % 2 ^ 64

  -- R5.3, R5.4: where its second source is
  abbrev pub second_at : Located
  second_at = located s.general next_pointer i.second

  -- R5.2, R5.6: the addresses of the memory bytes that lane j reads, where it is on, as R11.5 speaks of them
  abbrev pub bytes_read : Operand → ℕ → List ℕ
  bytes_read o j = bytes_at (located s.general next_pointer o) j

  -- R5.7: one of the bytes that are needed lies outside a memory of this length
  unfoldable pub needs_outside : ℕ → Bool
  needs_outside memory_length = outside on memory_length second_at
