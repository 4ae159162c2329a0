-- What the tests of an item come to, and the parts that it is cut into, one behind the other.
-- Assumes nothing.
use Prim.Native.Nat.{ℕ, ◌+◌, ◌<◌}
use mathlib.Core.Path.{◌≡◌, refl, ap, ◌∙◌}
use mathlib.Core.Bool.{Bool, true, false}
use mathlib.Core.List.{List}
use native.Mathlib.Omega.{arith}
use lib.ListN.{length, get_or, take, drop}
use lib.Seq.{drop-drop}
use Rattle.std.proofs.lemmas.List.{get_or-take}
use Rattle.std.specs.List.{IsSplitAt}
use Rattle.forms.specs.Numbers.{value_from}
use Rattle.recording.specs.Item.{code_count, code_in, memory_count, memory_in, control_at, expected_control, expected_destination}
use Rattle.recording.specs.Item.{item_size, is_bad}
use Rattle.recording.specs.Reports.{WellFormed}
use Rattle.recording.proofs.Tests.{well_formed}

pub is_bad_lem : (bytes : List ℕ) → ¬ WellFormed bytes → is_bad bytes ≡ true
is_bad_lem bytes h = go (is_bad bytes) refl
  where
    go : (t : Bool) → is_bad bytes ≡ t → t ≡ true
    go true e = refl
    go false e = absurd (h (well_formed bytes e))

-- an array of n bytes in front, and the rest, as `split_first_chunk` has them
abbrev IsChunk : List ℕ → ℕ → List ℕ → List ℕ → Type 0
IsChunk l n part rest = (part ≡ take n l) × (rest ≡ drop n l) × (length rest + n ≡ length l)

-- the rest of what stands from a place on
behind : (bytes : List ℕ) (at n : ℕ) {from rest : List ℕ} → from ≡ drop at bytes → rest ≡ drop n from → rest ≡ drop (at + n) bytes
behind bytes at n e h = h ∙ ap (drop n) e ∙ drop-drop n at bytes

module _ (bytes : List ℕ) {head one : List ℕ} (h : IsChunk bytes 7 head one) where
  pub in_head : (k : ℕ) → k < 7 → get_or head k 0 ≡ get_or bytes k 0
  in_head k i = ap (λ (l : List ℕ). get_or l k 0) h.0 ∙ get_or-take 7 bytes k 0 i

  module _ {c : ℕ} (n : c ≡ get_or head 6 0) where
    pub code_counted : c ≡ code_count bytes
    code_counted = n ∙ in_head 6 (omega arith)

    module _ {code two : List ℕ} (h₁ : IsSplitAt one c code two) {count three : List ℕ} (h₂ : IsChunk two 2 count three) {m : ℕ}
        (k : m ≡ value_from 0 count) where
      from_count : two ≡ drop (7 + code_count bytes) bytes
      from_count = rw (← code_counted) (behind bytes 7 c h.1 h₁.2)

      pub code_found : code ≡ code_in bytes
      code_found = rw (← code_counted) (h₁.1 ∙ ap (take c) h.1)

      pub memory_counted : m ≡ memory_count bytes
      unfolding memory_count
      memory_counted = k ∙ ap (value_from 0) (h₂.0 ∙ ap (take 2) from_count)

      from_memory : three ≡ drop (9 + code_count bytes) bytes
      from_memory =
          let e : 7 + code_count bytes + 2 ≡ 9 + code_count bytes = omega arith in
          rw (← e) (behind bytes (7 + code_count bytes) 2 from_count h₂.1)

      module _ {memory four : List ℕ} (h₃ : IsSplitAt three m memory four) {control five : List ℕ} (h₄ : IsChunk four 4 control five)
          {destination six : List ℕ} (h₅ : IsChunk five 64 destination six) where
        from_control : four ≡ drop (control_at bytes) bytes
        from_control = rw (← memory_counted) (behind bytes (9 + code_count bytes) m from_memory h₃.2)

        from_destination : five ≡ drop (control_at bytes + 4) bytes
        from_destination = behind bytes (control_at bytes) 4 from_control h₄.1

        pub memory_found : memory ≡ memory_in bytes
        memory_found = rw (← memory_counted) (h₃.1 ∙ ap (take m) from_memory)

        pub control_found : value_from 0 control ≡ expected_control bytes
        unfolding expected_control
        control_found = ap (value_from 0) (h₄.0 ∙ ap (take 4) from_control)

        pub destination_found : destination ≡ expected_destination bytes
        unfolding expected_destination
        destination_found = h₅.0 ∙ ap (take 64) from_destination

        pub rest_found : six ≡ drop (item_size bytes) bytes
        rest_found = behind bytes (control_at bytes + 4) 64 from_destination h₅.1

        pub measured : item_size bytes + length six ≡ length bytes
        measured = omega (arith, code_counted, memory_counted, h, h₁, h₂, h₃, h₄, h₅)
