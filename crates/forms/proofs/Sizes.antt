-- The statements of specs/Sizes.antt: by the lengths of the parts.
-- Assumes nothing.
use Prim.Native.Nat.{ℕ, ◌+◌}
use mathlib.Core.Bool.{Bool, true, false}
use mathlib.Core.List.{List, [], ◌∷◌}
use mathlib.Core.Logic.{◌≢◌}
use mathlib.Core.Path.{◌≡◌, refl, sym, ap, ◌∙◌}
use native.Mathlib.Omega.{arith}
use borrow.Author.Tests.{eqb-true}
use lib.Dec.{eqb}
use lib.ListN.{length}
use lib.Seq.{take-append-le}
use Rattle.lists.specs.Lists.{first_of, NoneHolds}
use Rattle.lists.proofs.First.{none_holds, holds_none}
use Rattle.lists.proofs.Tests.{equal, same}
use Rattle.machine.specs.State.{State}
use Rattle.machine.specs.Step.{wrong_vector_file}
use Rattle.forms.specs.declared.Version.{Version}
use Rattle.forms.specs.declared.Version.TheVariants.{One}
use Rattle.forms.specs.Version.{version_of, no_version}
use Rattle.forms.specs.Numbers.{value_from}
use Rattle.forms.specs.File.{file_form}
use Rattle.forms.specs.Form.{saved_form, form_size}
use Rattle.forms.specs.Saved.{wrong_target, save_conditions, save, size_at, state_in, source_conditions, before_target}
use Rattle.forms.specs.Saved.{size_if, saved_size, moved_size}
use Rattle.forms.specs.Sizes.{FormSizes, SizesNeeded, FormsInFront}
use Rattle.forms.proofs.Files.{pack_count}
use Rattle.forms.proofs.Places.{length-content, length_saved}
use Rattle.forms.proofs.Apart.{most, field_there}
use Rattle.forms.proofs.Answered.{save_done}
use Rattle.forms.proofs.Refusals.{save_non_zero, source_non_zero}
use Rattle.forms.proofs.Trips.{Moved, moved, move_goes}

pub form_sizes : FormSizes
unfolding form_size file_form
form_sizes s h =
    record {
      all = λ v. length_saved v s;
      one = omega arith;
      field = omega (arith, length-content One s);
      two = omega (arith, pack_count s.vectors h);
      most = λ v. most v s.vectors h;
    }

pub forms_in_front : FormsInFront
unfolding size_at form_size
forms_in_front v s rest h =
    ap (λ (l : List ℕ). 4 + value_from 0 l) (take-append-le 4 (saved_form v s) rest (omega (arith, length_saved v s)))
    ∙ field_there v s h
    ∙ sym (length_saved v s)

-- ---- what is needed

-- no form is empty
form_there : (v : Version) (vectors : List ℕ) → form_size v vectors ≢ 0
unfolding form_size
form_there v vectors e = omega (arith, e)

save_passed : (n : ℕ) (s : State) (target : List ℕ) → (save n s target).number ≡ 0 → NoneHolds (save_conditions n s target)
unfolding save
save_passed n s target done = holds_none (save_conditions n s target) (save_non_zero n s target) done

saved_size_lem : (n : ℕ) (s : State) → no_version n ≡ false → wrong_vector_file s ≡ false
    → saved_size n s.vectors ≡ form_size (version_of n) s.vectors
unfolding saved_size wrong_vector_file
saved_size_lem n s a b = rw (a, b)

-- where a size is given, the version and the file are right
size_given : (n : ℕ) (s : State) → saved_size n s.vectors ≢ 0 → (no_version n ≡ false) × (wrong_vector_file s ≡ false)
unfolding saved_size wrong_vector_file
size_given n s h = go (no_version n) (wrong_vector_file s) h
  where
    go : (a b : Bool) → size_if (first_of ((a, 10) ∷ (b, 1) ∷ []) 0) (form_size (version_of n) s.vectors) ≢ 0 → (a ≡ false) × (b ≡ false)
    go true b k = absurd (k refl)
    go false true k = absurd (k refl)
    go false false k = (refl, refl)

moved_size_lem : (n : ℕ) (bytes : List ℕ) → no_version n ≡ false → NoneHolds (source_conditions bytes)
    → moved_size n bytes ≡ form_size (version_of n) (state_in bytes).vectors
unfolding moved_size
moved_size_lem n bytes a b = rw (none_holds (before_target n bytes) 0 (a, b))

move_given : (n : ℕ) (bytes : List ℕ) → moved_size n bytes ≢ 0 → NoneHolds (before_target n bytes)
unfolding moved_size
move_given n bytes h = holds_none (before_target n bytes) ((λ e. omega arith), source_non_zero bytes) (go _ refl)
  where
    go : (k : ℕ) → first_of (before_target n bytes) 0 ≡ k → k ≡ 0
    go k e = zero_or k e (eqb k 0) refl
      where
        zero_or : (k : ℕ) → first_of (before_target n bytes) 0 ≡ k → (b : Bool) → eqb k 0 ≡ b → k ≡ 0
        zero_or k e true f = eqb-true k 0 f
        zero_or k e false f = absurd (h (rw (e, f)))

pub sizes_needed : SizesNeeded
unfolding save_conditions wrong_target
sizes_needed = (
  (λ n s target. (
    (λ done.
        let passed : NoneHolds (save_conditions n s target) = save_passed n s target done in
        let size : saved_size n s.vectors ≡ form_size (version_of n) s.vectors = saved_size_lem n s passed.0 passed.1.0 in (
          (λ e. form_there (version_of n) s.vectors (sym size ∙ e)),
          equal (length target) _ passed.1.1.0 ∙ sym size,
          passed.1.1.1.0,
        )),
    (λ h.
        let given : (no_version n ≡ false) × (wrong_vector_file s ≡ false) = size_given n s h.0 in
        let size : saved_size n s.vectors ≡ form_size (version_of n) s.vectors = saved_size_lem n s given.0 given.1 in
        ap (λ r. r.number) (save_done n s target (none_holds (save_conditions n s target) 0
        (given.0, (given.1, (same (length target) _ (h.1 ∙ size), (h.2, tt))))))),
  )),
  (λ n bytes target. (
    (λ done.
        let M : Moved n bytes target = moved n bytes target done in
        let size : moved_size n bytes ≡ form_size (version_of n) (state_in bytes).vectors = moved_size_lem n bytes M.asked M.source in (
          (λ e. form_there (version_of n) (state_in bytes).vectors (sym size ∙ e)),
          equal (length target) _ M.room ∙ sym size,
        )),
    (λ h.
        let given : NoneHolds (before_target n bytes) = move_given n bytes h.0 in
        let size : moved_size n bytes ≡ form_size (version_of n) (state_in bytes).vectors = moved_size_lem n bytes given.0 given.1 in
        ap (λ r. r.number) (move_goes n bytes target (record {
          asked = given.0;
          source = given.1;
          room = same (length target) _ (h.1 ∙ size);
        }))),
  )),
)
