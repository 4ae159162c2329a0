-- The layout of the input: what it tells of the parts, and how the code cuts them off, one behind the other.
-- Assumes nothing.
use Prim.Native.Nat.{ℕ, ◌+◌, ◌≤◌}
use mathlib.Core.Path.{◌≡◌, refl, sym, ap, ◌∙◌}
use mathlib.Core.Bool.{Bool, true, false, ◌&&◌, false≢true}
use mathlib.Core.List.{List}
use borrow.Author.Tests.{leb-true, le-leb, eq-eqb, ne_eqb}
use native.Mathlib.Omega.{arith}
use lib.ListN.{length, take, drop, length-take}
use lib.Seq.{drop-drop}
use Rattle.std.specs.List.{IsSplitAt}
use Rattle.machine.specs.State.{State}
use Rattle.forms.specs.Numbers.{value_from}
use Rattle.forms.specs.Saved.{size_at, Load, load, blank, load_front}
use Rattle.command.specs.Command.{bad_input, lines_from, code_length, code_of, memory_of, is_laid_out, is_good, printed}
use Rattle.command.specs.Work.{AreParts}
use Rattle.command.specs.declared.Parts.{Parts}

-- what the layout tells
pub record LaidOut (input : List ℕ) : Type 0 where
  pub head : size_at input + 2 ≤ length input
  pub code : code_length input ≤ 4096
  pub whole : size_at input + 2 + code_length input ≤ length input
  pub memory : length (memory_of input) ≤ 32768

pub both : (a : Bool) {b : Bool} → (a && b) ≡ true → (a ≡ true) × (b ≡ true)
both true e = (refl, e)
both false e = absurd (false≢true e)

module _ (input : List ℕ) where
  pub laid_out : is_laid_out input ≡ true → LaidOut input
  unfolding is_laid_out
  laid_out e =
      let three : _ = both _ e in
      let two : _ = both _ three.0 in
      let one : _ = both _ two.0 in
      record {
        head = leb-true _ _ one.0;
        code = leb-true _ _ one.1;
        whole = leb-true _ _ two.1;
        memory = leb-true _ _ three.1;
      }

  pub is_laid : LaidOut input → is_laid_out input ≡ true
  unfolding is_laid_out
  is_laid w = rw (le-leb _ _ w.head, le-leb _ _ w.code, le-leb _ _ w.whole, le-leb _ _ w.memory)

  pub not_laid : ¬ LaidOut input → is_laid_out input ≡ false
  not_laid h = go (is_laid_out input) refl
    where
      go : (t : Bool) → is_laid_out input ≡ t → t ≡ false
      go true e = absurd (h (laid_out e))
      go false e = refl

  -- ---- the parts, one behind the other, with the two bytes of the code's length

  module _ {b : ℕ} (size : b ≡ size_at input) {form one : List ℕ} (h₁ : IsSplitAt input b form one) {count two : List ℕ}
      (h₂ : (count ≡ take 2 one) × (two ≡ drop 2 one) × (length two + 2 ≡ length one)) {r : ℕ} (n : r ≡ value_from 0 count) where
    pub form_found : form ≡ take (size_at input) input
    form_found = h₁.1 ∙ rw size

    from_length : one ≡ drop (size_at input) input
    from_length = h₁.2 ∙ rw size

    pub counted : r ≡ code_length input
    counted = n ∙ ap (value_from 0) (h₂.0 ∙ ap (take 2) from_length)

    from_code : two ≡ drop (size_at input + 2) input
    from_code = h₂.1 ∙ ap (drop 2) from_length ∙ drop-drop 2 (size_at input) input

    module _ {code memory : List ℕ} (h₃ : IsSplitAt two r code memory) where
      pub code_found : code ≡ code_of input
      code_found = rw (← counted) (h₃.1 ∙ ap (take r) from_code)

      pub memory_found : memory ≡ memory_of input
      memory_found = rw (← counted) (h₃.2 ∙ ap (drop r) from_code ∙ drop-drop r (size_at input + 2) input)

  pub short_code : {parts : Parts} → AreParts input parts → length parts.code.now ≤ 4096
  short_code A = rw A.code (simp length-take (omega (arith, (laid_out A.laid_out).code)))

  -- ---- what is printed, by the tests of the code

  pub bad_layout : is_laid_out input ≡ false → printed input ≡ bad_input
  unfolding printed is_good
  bad_layout e = rw e

  module _ {parts : Parts} (A : AreParts input parts) {s : State} {n : ℕ}
      (l : record { number = n; state = s } ≡ load parts.form.now blank) where
    loads : record { number = n; state = s } ≡ load_front input
    unfolding load_front
    loads = l ∙ rw A.form

    pub bad_load : (n ≡ 0 → ⊥) → printed input ≡ bad_input
    unfolding printed is_good
    bad_load z = rw (A.laid_out, ← loads, ne_eqb n 0 z)

    pub good_lines : n ≡ 0 → printed input ≡ lines_from (length parts.code.now) parts.memory.now parts.code.now s 0
    unfolding printed is_good
    good_lines z =
        let state : (load_front input).state ≡ s = ap (λ (x : Load). x.state) (sym loads) in
        rw (A.laid_out, ← loads, eq-eqb n 0 z, A.code, A.memory)
        (ap (λ (x : State). lines_from (length (code_of input)) (memory_of input) (code_of input) x 0) state)
