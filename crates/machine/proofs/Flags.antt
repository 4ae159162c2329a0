-- The flags that an operation raises are the bits 0 to 5, so that they are below 64; so are those that are added of them.
-- Assumes nothing.
use Prim.Native.Nat.{ℕ, ◌<◌}
use mathlib.Core.Path.{◌≡◌, refl, sym, ◌∙◌}
use mathlib.Core.Bool.{Bool, true, false, cond, ◌&&◌, ◌||◌, true≢false}
use mathlib.Core.List.{List, [], ◌∷◌}
use native.Mathlib.Omega.{arith}
use lib.Bits.{bit_or, or_lt, and_le_l}
use lib.Dec.{lit≤}
use Rattle.half.specs.Format.{is_nan, is_signalling, is_subnormal}
use Rattle.half.specs.Exact.{Magnitude}
use Rattle.half.specs.Round.{IE, DE, ZE, UE, PE, flag, outcome, tiny, inexact, overflows, rounded_half}
use Rattle.lists.specs.Lists.{some}
use Rattle.lists.proofs.Tests.{either, either_given}
use Rattle.lists.proofs.Tables.{or_table_below}
use Rattle.half.specs.Operations.{invalid, exactly, nan_result, exact_sum, with_denormals, unless_nan, half_add, half_subtract, half_multiply}
use Rattle.half.specs.Operations.{half_divide, half_root, half_multiply_add}
use Rattle.half.specs.Comparison.{comparison_flags, half_minimum, half_maximum, predicate_of, half_compare}
use Rattle.half.specs.declared.Mode.{Mode}
use Rattle.half.specs.declared.Outcome.{Outcome}
use Rattle.evex.specs.declared.Operation.{Operation}
use Rattle.evex.specs.declared.Operation.TheVariants.{Add, Multiply, Subtract, Divide, SquareRoot, Fused132, Fused213, Fused231}
use Rattle.evex.specs.declared.Operation.TheVariants.{Minimum, Maximum, Compare}
use Rattle.machine.specs.State.{State}
use Rattle.machine.specs.Memory.{on}
use Rattle.machine.specs.Lanes.{Sources, unmasked, raises, early_flags, added, operated, raised}
use Rattle.machine.specs.declared.Environment.{Environment}
use Rattle.evex.specs.declared.Rounding.{Rounding}
use Rattle.evex.specs.declared.Instruction.{Instruction}
use Rattle.evex.proofs.Bitwise.{meets_part}

pub record Six (o : Outcome) : Type 0 where
  pub six : o.flags < 64

picked : (t : Bool) (x y : Outcome) → Six x → Six y → Six (cond t x y)
picked t x y = either Six t

-- a flag below 64, raised or not
raised_six : (f : ℕ) (t : Bool) → f < 64 → flag f t < 64
raised_six f true h = h
raised_six f false h = lit≤ tt

plain : {h f : ℕ} → f < 64 → Six (outcome h f)
plain h = record { six = h }

-- ---- the pieces of the operations

nan_six : (hs : List ℕ) {o : Outcome} → Six o → Six (unless_nan hs o)
nan_six hs h = picked (some is_nan hs) (nan_result hs) _ (plain (raised_six IE (some is_signalling hs) (lit≤ tt))) h

invalid_six : Six invalid
invalid_six = plain (lit≤ tt)

zero_divide_six : (h : ℕ) → Six (outcome h ZE)
zero_divide_six h = plain (lit≤ tt)

denormals_six : (hs : List ℕ) {o : Outcome} → Six o → Six (with_denormals hs o)
denormals_six hs {o} h = plain (or_lt 6 (flag DE (some is_subnormal hs)) o.flags (raised_six DE (some is_subnormal hs) (lit≤ tt)) h.six)

exactly_six : (h : ℕ) → Six (exactly h)
exactly_six h = plain (lit≤ tt)

rounded_six : (m : Mode) (u neg : Bool) (x : Magnitude) → Six (rounded_half m u neg x)
unfolding rounded_half
rounded_six m u neg x =
    picked (overflows m neg x) _ _ (plain (lit≤ tt))
    (plain (or_lt 6 _ _ (raised_six PE (inexact m neg x) (lit≤ tt)) (raised_six UE (tiny m neg x && (u || inexact m neg x)) (lit≤ tt))))

sum_six : (m : Mode) (u sx : Bool) (x : ℕ) (sy : Bool) (y d : ℕ) → Six (exact_sum m u sx x sy y d)
unfolding exact_sum
sum_six m u sx x sy y d = search (picked, rounded_six, exactly_six)

ruleset pieces = (nan_six, invalid_six, zero_divide_six, denormals_six, exactly_six, rounded_six, sum_six, picked)

-- ---- the operations

module _ (m : Mode) (u : Bool) where
  add_six : (f x : ℕ) → Six (half_add m u f x)
  unfolding half_add
  add_six f x = search pieces depth 10

  subtract_six : (f x : ℕ) → Six (half_subtract m u f x)
  unfolding half_subtract half_add
  subtract_six f x = search pieces depth 10

  multiply_six : (f x : ℕ) → Six (half_multiply m u f x)
  unfolding half_multiply
  multiply_six f x = search pieces depth 10

  divide_six : (f x : ℕ) → Six (half_divide m u f x)
  unfolding half_divide
  divide_six f x = search pieces depth 10

  root_six : (x : ℕ) → Six (half_root m u x)
  unfolding half_root
  root_six x = search pieces depth 10

  fused_six : (a b c : ℕ) → Six (half_multiply_add m u a b c)
  unfolding half_multiply_add
  fused_six a b c = search pieces depth 10

-- what compares halves
compared_six : (invalid : Bool) (f x : ℕ) → comparison_flags invalid f x < 64
compared_six invalid f x =
    either (λ n. n < 64) (some is_nan (f ∷ x ∷ [])) (raised_six IE invalid (lit≤ tt))
    (raised_six DE (some is_subnormal (f ∷ x ∷ [])) (lit≤ tt))

minimum_six : (f x : ℕ) → Six (half_minimum f x)
unfolding half_minimum
minimum_six f x = plain (compared_six true f x)

maximum_six : (f x : ℕ) → Six (half_maximum f x)
unfolding half_maximum
maximum_six f x = plain (compared_six true f x)

compare_six : (immediate f x : ℕ) → Six (half_compare immediate f x)
unfolding half_compare
compare_six immediate f x = plain (compared_six (some is_signalling (f ∷ x ∷ []) || (predicate_of immediate).signals) f x)

-- ---- an element, all lanes

operated_six : (op : Operation) (e : Environment) (d f x : ℕ) → (operated op e d f x).flags < 64
unfolding operated
operated_six Add e d f x = (add_six e.mode e.underflow f x).six
operated_six Multiply e d f x = (multiply_six e.mode e.underflow f x).six
operated_six Subtract e d f x = (subtract_six e.mode e.underflow f x).six
operated_six Divide e d f x = (divide_six e.mode e.underflow f x).six
operated_six SquareRoot e d f x = (root_six e.mode e.underflow x).six
operated_six Fused132 e d f x = (fused_six e.mode e.underflow d x f).six
operated_six Fused213 e d f x = (fused_six e.mode e.underflow f d x).six
operated_six Fused231 e d f x = (fused_six e.mode e.underflow f x d).six
operated_six Minimum e d f x = (minimum_six f x).six
operated_six Maximum e d f x = (maximum_six f x).six
operated_six Compare e d f x = (compare_six e.immediate f x).six

raised_below : (s : State) (i : Instruction) (g : Sources) → raised s i g < 64
unfolding raised
raised_below s i g = or_table_below 6 32 _ (λ j. either (λ n. n < 64) (on s i j) (operated_six i.operation _ _ _ _) (lit≤ tt))

pub added_below : (s : State) (i : Instruction) (g : Sources) → added i.rounding s.control (raised s i g) < 64
added_below s i g =
    either (λ n. n < 64) (raises i.rounding s.control (early_flags (raised s i g)))
    (omega (arith, raised_below s i g, and_le_l (raised s i g) (bit_or IE (bit_or DE ZE))))
    (raised_below s i g)

-- ---- where nothing stops the instruction, nothing is left out

pub all_added : (r : Rounding) (control flags : ℕ) → raises r control flags ≡ false → added r control flags ≡ flags
all_added r control flags e =
    either_given (λ n. n ≡ flags) (raises r control (early_flags flags))
    (λ h. absurd (true≢false (sym (meets_part flags (unmasked r control) _ h) ∙ e)))
    (λ _. refl)
