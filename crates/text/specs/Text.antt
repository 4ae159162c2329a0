-- docs/RULES.md, section 10 and R14.10: numbers as text, and a buffer that a text is put into.
use Rattle.std.specs.Prelude.{ℕ, zero, suc, ◌+◌, ◌-◌, ◌/◌, ◌%◌, ◌^◌, ◌≤◌, cond, List, [], ◌∷◌, ◌++◌, ◌≡◌, ltb, length, drop}
use Rattle.lists.specs.Lists.{table}

-- ---- R10.4: numbers as text, in ASCII

-- in decimal, of at most n digits
unfoldable pub decimal_of : ℕ → ℕ → List ℕ
decimal_of zero x = []
decimal_of (suc n) x = cond (ltb x 10) ((48 + x) ∷ []) (decimal_of n (x / 10) ++ ((48 + x % 10) ∷ []))

-- 20 digits are enough for 64 bits
unfoldable pub decimal : ℕ → List ℕ
decimal x = decimal_of 20 x

-- a hex digit, lower-case
abbrev pub hex_digit : ℕ → ℕ
hex_digit x = cond (ltb x 10) (48 + x) (87 + x)

-- a 32-bit number in hex, the highest digit first
unfoldable pub hex8 : ℕ → List ℕ
hex8 x = table 8 (λ k. hex_digit (x / 16 ^ (7 - k) % 16))

-- what stands between numbers, and behind a line
abbrev pub space : List ℕ
space = 32 ∷ []

abbrev pub line_feed : List ℕ
line_feed = 10 ∷ []

-- ---- R10.6, R14.10: a buffer that a text is put into

-- n bytes, a text, were put at the start of a buffer, and are inside it; what stands behind them is as before
pub record Wrote (text before : List ℕ) (n : ℕ) (after : List ℕ) : Type 0 where
  pub count : n ≡ length text
  pub buffer : after ≡ text ++ drop (length text) before
  pub within : n ≤ length after
