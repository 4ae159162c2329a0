-- docs/RULES.md, R9.1: the versions of a saved form, with a line for each in every column.
use Rattle.std.specs.Prelude.{ℕ, Bool, true, false, cond, not, eqb, ◌≡◌, Result, MatchResult}
use Rattle.forms.specs.declared.Version.{Version}
use Rattle.forms.specs.declared.Version.TheVariants.{One, Two}
use Rattle.forms.specs.declared.Refusal.{Refusal}
use Rattle.forms.specs.declared.Refusal.TheVariants.{Form}

-- ---- R9.1

-- its number, which is byte 4 of the form
abbrev pub version_byte : Version → ℕ
version_byte One = 1
version_byte Two = 2

-- R9.8: whether its vector file is packed
abbrev pub is_packed : Version → Bool
is_packed One = false
is_packed Two = true

-- The version that has a number. Where none has it this is version 1, and `no_version` holds, which stands before every condition that goes
-- by the version.
unfoldable pub version_of : ℕ → Version
version_of n = cond (eqb n 2) Two One

unfoldable pub no_version : ℕ → Bool
no_version n = not (eqb n (version_byte (version_of n)))

-- what a number is read as: the version that has it, or a refusal where none has
abbrev pub IsVersion : ℕ → Result Version Refusal → Type 0
IsVersion n r = MatchResult r (λ v. (no_version n ≡ false) × (v ≡ version_of n)) (λ e. (no_version n ≡ true) × (e ≡ Form))
