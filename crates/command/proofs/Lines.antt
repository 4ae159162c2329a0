-- The lines from an offset on, a law for each turn of a loop that makes them; their lengths.
-- Assumes nothing.
use Prim.Native.Nat.{ℕ, zero, suc, ◌+◌, ◌≤◌, ◌<◌}
use mathlib.Core.Path.{◌≡◌, refl, ◌∙◌}
use mathlib.Core.Bool.{Bool, true, false, cond}
use mathlib.Core.List.{List, ◌++◌}
use native.Mathlib.Omega.{arith}
use borrow.Author.Tests.{le-leb, lt-leb, eq-eqb, ne_eqb, eqb-true}
use lib.Dec.{eqb}
use lib.ListN.{length, drop, length-append}
use Rattle.machine.specs.State.{State, Stepped}
use Rattle.machine.specs.Step.{step}
use Rattle.machine.proofs.Answers.{lengths}
use Rattle.text.proofs.Digits.{decimal_most, decimal_short, hex_eight}
use Rattle.command.specs.Command.{step_line, stop_line, lines_from}

where_true : (t : Bool) (z : List ℕ) {x y : List ℕ} → (t ≡ true → x ≡ y) → cond t x z ≡ cond t y z
where_true true z h = h refl
where_true false z h = refl

module _ (memory code : List ℕ) where
  -- as many steps as there are bytes left are enough
  enough : (n m : ℕ) (s : State) (at : ℕ) → length code ≤ at + n → length code ≤ at + m
      → lines_from n memory code s at ≡ lines_from m memory code s at
  unfolding lines_from
  enough zero zero s at h k = refl
  enough zero (suc m) s at h k = let e : length code ≤ at = omega arith in rw (le-leb (length code) at e)
  enough (suc n) zero s at h k = let e : length code ≤ at = omega arith in rw (le-leb (length code) at e)
  enough (suc n) (suc m) s at h k =
      let o : Stepped = step memory s (drop at code) in
      rw (where_true (eqb o.answer.number 0) (stop_line at)
      (λ e. let z : 6 ≤ o.answer.length = (lengths memory s (drop at code) (eqb-true _ 0 e)).0 in
      enough n m o.state (at + o.answer.length) (omega arith) (omega arith)))

  -- all lines from an offset on
  abbrev pub lines : State → ℕ → List ℕ
  lines s at = lines_from (length code) memory code s at

  module _ (s : State) (at : ℕ) where
    one_more : lines s at ≡ lines_from (suc (length code)) memory code s at
    one_more = enough (length code) (suc (length code)) s at (omega arith) (omega arith)

    pub at_end : length code ≤ at → lines s at ≡ stop_line at
    unfolding lines_from
    at_end h = enough (length code) 0 s at (omega arith) (omega arith)

    module _ {o : Stepped} (e : o ≡ step memory s (drop at code)) (inside : at < length code) where
      pub goes_on : o.answer.number ≡ 0
          → lines s at ≡ step_line at o.answer.number o.state.control ++ lines o.state (at + o.answer.length)
      unfolding lines_from
      goes_on z = one_more ∙ rw (← e, lt-leb (length code) at inside, eq-eqb o.answer.number 0 z)

      pub stops : (o.answer.number ≡ 0 → ⊥) → lines s at ≡ step_line at o.answer.number o.state.control ++ stop_line at
      unfolding lines_from
      stops z = one_more ∙ rw (← e, lt-leb (length code) at inside, ne_eqb o.answer.number 0 z)

-- ---- lengths

pub stop_most : (at : ℕ) → length (stop_line at) ≤ 26
unfolding stop_line
stop_most at = simp length-append (omega (arith, decimal_most at))

pub step_most : (at number control : ℕ) → length (step_line at number control) ≤ 51
unfolding step_line
step_most at number control = simp length-append (omega (arith, decimal_most at, decimal_most number, hex_eight control))

pub step_short : (at number control : ℕ) → at < 10000 → number ≡ 0 → length (step_line at number control) ≤ 16
unfolding step_line
step_short at number control h z =
    simp length-append (omega (arith, decimal_short 3 at h, decimal_short 0 number (omega arith), hex_eight control))
