-- docs/RULES.md, R14.2 and R14.3: an item of a recording.
use Rattle.std.specs.Prelude.{ℕ, ◌+◌, Bool, not, ◌||◌, List, eqb, ltb, length, get_or, take, drop}
use Rattle.forms.specs.Numbers.{number_in}
use Rattle.forms.specs.Saved.{size_at}

-- ---- R14.2: the parts of the item that bytes begin with, in their order. Where bytes are missing what is read means nothing: such an
-- item is bad (R14.3).

-- behind 4 bytes of length
abbrev pub item_version : List ℕ → ℕ
item_version bytes = get_or bytes 4 0

abbrev pub expected_number : List ℕ → ℕ
expected_number bytes = get_or bytes 5 0

-- how many bytes of code there are, and the code
abbrev pub code_count : List ℕ → ℕ
code_count bytes = get_or bytes 6 0

abbrev pub code_in : List ℕ → List ℕ
code_in bytes = take (code_count bytes) (drop 7 bytes)

-- how many bytes of memory there are, in two bytes behind the code, and the memory
unfoldable pub memory_count : List ℕ → ℕ
memory_count bytes = number_in bytes (7 + code_count bytes) 2

abbrev pub memory_in : List ℕ → List ℕ
memory_in bytes = take (memory_count bytes) (drop (9 + code_count bytes) bytes)

-- the control word, in four bytes behind the memory
abbrev pub control_at : List ℕ → ℕ
control_at bytes = 9 + code_count bytes + memory_count bytes

unfoldable pub expected_control : List ℕ → ℕ
expected_control bytes = number_in bytes (control_at bytes) 4

-- the destination, in the last 64
unfoldable pub expected_destination : List ℕ → List ℕ
expected_destination bytes = take 64 (drop (control_at bytes + 4) bytes)

-- how many bytes the item has
abbrev pub item_size : List ℕ → ℕ
item_size bytes = control_at bytes + 4 + 64

-- ---- R14.3: not well formed

unfoldable pub is_bad : List ℕ → Bool
is_bad bytes =
    ltb (length bytes) (item_size bytes)  -- a byte is missing
    || not (eqb (size_at bytes) (item_size bytes))  -- the length does not count what follows it
    || not (eqb (item_version bytes) 1)
    || ltb 15 (code_count bytes)
    || ltb 4096 (memory_count bytes)
