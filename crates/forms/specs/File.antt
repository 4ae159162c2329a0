-- docs/RULES.md, R9.2 and R9.8: the vector file in a saved form, whole or packed.
use Rattle.std.specs.Prelude.{ℕ, zero, suc, ◌+◌, Bool, true, false, cond, not, ◌&&◌, List, [], ◌++◌, eqb, take, drop}
use Rattle.std.specs.Prelude.{Option, Some, None}
use Rattle.lists.specs.Lists.{some, table, binary}
use Rattle.evex.specs.Bits.{is_set}
use Rattle.machine.specs.State.{register_at}
use Rattle.forms.specs.Numbers.{big, number_in, joined}

-- R9.1: how a vector file is written, and read back.
pub record FileForm : Type 0 where
  pub put : List ℕ → List ℕ
  pub get : List ℕ → List ℕ
  -- R9.5: the number that bytes to be read should have, and what else may be wrong with them
  pub size : List ℕ → ℕ
  pub wrong : List ℕ → Bool

-- R9.2: as it is
abbrev pub whole : FileForm
whole = record { put = λ file. file; get = λ bytes. bytes; size = λ bytes. 2048; wrong = λ bytes. false }

-- ---- R9.8: packed

-- the 64 bytes of register i
abbrev pub register : List ℕ → ℕ → List ℕ
register file i = take 64 (drop (register_at i) file)

-- not all of these bytes are 0
unfoldable pub present : List ℕ → Bool
present bytes = some (λ b. not (eqb b 0)) bytes

abbrev pub if_present : List ℕ → List ℕ
if_present bytes = cond (present bytes) bytes []

-- bit i is 1 where register i has a byte other than 0
unfoldable pub presence : List ℕ → ℕ
presence file = binary (table 32 (λ i. cond (present (register file i)) 1 0))

unfoldable pub pack : List ℕ → List ℕ
pack file = big 4 (presence file) ++ joined 32 (λ i. if_present (register file i))

-- ---- R9.8: read back

-- f 0 + .. + f (n - 1)
unfoldable pub sum_to : ℕ → (ℕ → ℕ) → ℕ
sum_to zero f = 0
sum_to (suc n) f = sum_to n f + f n

abbrev pub word_in : List ℕ → ℕ
word_in bytes = number_in bytes 0 4

-- where register i stands by a word: behind the word and 64 bytes for each marked register before it
abbrev pub place_of : ℕ → ℕ → ℕ
place_of word i = 4 + sum_to i (λ j. cond (is_set word j) 64 0)

abbrev pub packed_at : List ℕ → ℕ → List ℕ
packed_at bytes i = take 64 (drop (place_of (word_in bytes) i) bytes)

-- n bytes of 0
abbrev pub zeros : ℕ → List ℕ
zeros n = table n (λ k. 0)

-- register i is what stands at its place where it is marked, else zeros
unfoldable pub unpack : List ℕ → List ℕ
unpack bytes = joined 32 (λ i. cond (is_set (word_in bytes) i) (packed_at bytes i) (zeros 64))

-- R9.5: how many bytes a word asks for
unfoldable pub packed_size : List ℕ → ℕ
packed_size bytes = place_of (word_in bytes) 32

-- R9.5: register i is marked and all zero
abbrev pub is_empty : List ℕ → ℕ → Bool
is_empty bytes i = is_set (word_in bytes) i && not (present (packed_at bytes i))

-- R9.5: some register is
unfoldable pub has_empty : List ℕ → Bool
has_empty bytes = some (is_empty bytes) (table 32 (λ i. i))

abbrev pub packed : FileForm
packed = record { put = pack; get = unpack; size = packed_size; wrong = has_empty }

-- ---- R9.1: either

unfoldable pub file_form : Bool → FileForm
file_form true = packed
file_form false = whole

-- ---- R9.9: what a writer asks first

-- the word of a file, where it is packed
abbrev pub word_for : Bool → List ℕ → Option ℕ
word_for packed file = cond packed (Some (presence file)) None

-- how many bytes the file takes, by its word
abbrev pub size_for : Option ℕ → ℕ
size_for (Some word) = place_of word 32
size_for None = 2048
