-- The statements of specs/Trips.antt: a form is read as the state that was written (`state_back`), and written as the bytes that were read
-- (`bytes_back`); a move is both.
-- Assumes nothing.
use Prim.Native.Nat.{ℕ, ◌^◌, ◌<◌}
use mathlib.Core.Bool.{false}
use mathlib.Core.List.{List, [], ◌∷◌}
use mathlib.Core.Logic.{◌≢◌}
use mathlib.Core.Path.{◌≡◌, refl, sym, ap, ◌∙◌}
use borrow.Author.Tests.{leb-false, ne_eqb}
use lib.ListN.{length}
use Rattle.lists.specs.Lists.{first_of, NoneHolds}
use Rattle.lists.proofs.First.{none_holds, holds_none, first_append, first_decides, none_append, none_both}
use Rattle.lists.proofs.Tests.{equal, same}
use Rattle.machine.specs.State.{State}
use Rattle.machine.specs.Step.{wrong_vector_file, high_control_bit}
use Rattle.forms.specs.declared.Version.{Version}
use Rattle.forms.specs.Version.{version_of, no_version}
use Rattle.forms.specs.Form.{saved_form, form_size}
use Rattle.forms.specs.Saved.{wrong_target, save_conditions, Save, save, version_number, version_in, state_in, source_conditions}
use Rattle.forms.specs.Saved.{load_conditions, Load, load, before_target, move_conditions, move, save_of}
use Rattle.forms.specs.Trips.{Held, Bytes, LoadAfterSave, SaveAfterLoad, MoveIsSaveAfterLoad, LoadAfterMove, MoveAndBack, MoveCopies}
use Rattle.forms.proofs.Places.{length_saved}
use Rattle.forms.proofs.Apart.{state_back, source_right, named, low_control, vectors_long, held, bytes_back}
use Rattle.forms.proofs.Answered.{save_done, load_done, move_done, move_refused}
use Rattle.forms.proofs.Refusals.{save_non_zero, load_non_zero, move_non_zero}

-- ---- loading what was saved

-- what a state is saved as loads as that state
pub load_saved : (v : Version) (s t : State) → Held s → wrong_vector_file s ≡ false → high_control_bit s ≡ false → wrong_vector_file t ≡ false
    → load (saved_form v s) t ≡ record { number = 0; state = s }
unfolding load_conditions wrong_vector_file high_control_bit
load_saved v s t S file control h =
    let long : length s.vectors ≡ 2048 = equal (length s.vectors) 2048 file in
    let low : s.control < 2 ^ 16 = leb-false (2 ^ 16) s.control control in
    load_done (saved_form v s) t (none_holds (load_conditions (saved_form v s) t) 0 (h, source_right v s long low S))
    ∙ ap (λ (x : State). record { number = 0; state = x }) (state_back v s long low S)

pub load_after_save : LoadAfterSave
unfolding save save_conditions
load_after_save n s t target S done h =
    let passed : NoneHolds (save_conditions n s target) = holds_none (save_conditions n s target) (save_non_zero n s target) done in
    ap (λ (r : Save). load r.target t) (save_done n s target done)
    ∙ load_saved (version_of n) s t S passed.1.0 passed.1.1.1.0 h

-- ---- saving what was loaded

-- a file that was read has its size
file_read : (bytes : List ℕ) → NoneHolds (source_conditions bytes) → wrong_vector_file (state_in bytes) ≡ false
unfolding wrong_vector_file
file_read bytes passed = same (length (state_in bytes).vectors) 2048 (vectors_long bytes passed)

-- and what was read fits a target as large as its source
room_again : (bytes target : List ℕ) → NoneHolds (source_conditions bytes) → Bytes bytes → length target ≡ length bytes
    → wrong_target (version_in bytes) (state_in bytes) target ≡ false
unfolding wrong_target
room_again bytes target passed small size =
    same (length target) (form_size (version_in bytes) (state_in bytes).vectors)
    (size ∙ sym (ap length (bytes_back bytes passed small)) ∙ length_saved (version_in bytes) (state_in bytes))

pub save_after_load : SaveAfterLoad
unfolding load load_conditions save_conditions
save_after_load bytes target t small size done =
    let passed : NoneHolds (source_conditions bytes) = (holds_none (load_conditions bytes t) (load_non_zero bytes t) done).1 in
    let saves : NoneHolds (save_conditions (version_number bytes) (state_in bytes) target) =
    (named bytes passed, (file_read bytes passed, (room_again bytes target passed small size, (low_control bytes passed, tt)))) in
    ap (λ (l : Load). save (version_number bytes) l.state target) (load_done bytes t done)
    ∙ save_done (version_number bytes) (state_in bytes) target
    (none_holds (save_conditions (version_number bytes) (state_in bytes) target) 0 saves)
    ∙ ap (λ (l : List ℕ). record { number = 0; target = l }) (bytes_back bytes passed small)

-- ---- a move is both

-- behind a source that passes, a move asks what a save asks and the source has not settled: a file that was read has 2,048 bytes, and a high
-- control word was refused
same_number : (n : ℕ) (bytes target : List ℕ) → NoneHolds (source_conditions bytes)
    → first_of (move_conditions n bytes target) 0 ≡ first_of (save_conditions n (state_in bytes) target) 0
unfolding move_conditions save_conditions
same_number n bytes target passed =
    ap (λ (k : ℕ). first_of ((no_version n, 10) ∷ []) k)
    (first_append (source_conditions bytes) _ 0 ∙ none_holds (source_conditions bytes) _ passed)
    ∙ rw (file_read bytes passed, low_control bytes passed)

pub move_is_save_after_load : MoveIsSaveAfterLoad
unfolding load load_conditions move move_conditions save
move_is_save_after_load n bytes target t asked file = (
  (λ done.
      let passed : NoneHolds (load_conditions bytes t) = holds_none (load_conditions bytes t) (load_non_zero bytes t) done in
      ap (λ (k : ℕ). save_of k (version_of n) (state_in bytes) target) (same_number n bytes target passed.1)
      ∙ ap (λ (l : Load). save n l.state target) (sym (load_done bytes t done))),
  (λ refused.
      let k : ℕ = first_of (source_conditions bytes) 0 in
      let is : (load bytes t).number ≡ k = rw file in
      let non_zero : k ≢ 0 = λ e. refused (is ∙ e) in
      move_refused n bytes target k (ne_eqb k 0 non_zero) (rw asked (first_decides (source_conditions bytes) _ k non_zero refl))
      ∙ ap (λ (m : ℕ). record { number = m; target = target }) (sym is)),
)

-- what a move that is done has passed
pub record Moved (n : ℕ) (bytes target : List ℕ) : Type 0 where
  pub asked : no_version n ≡ false
  pub source : NoneHolds (source_conditions bytes)
  pub room : wrong_target (version_of n) (state_in bytes) target ≡ false

pub moved : (n : ℕ) (bytes target : List ℕ) → (move n bytes target).number ≡ 0 → Moved n bytes target
unfolding move move_conditions
moved n bytes target done =
    let passed : NoneHolds (move_conditions n bytes target) =
    holds_none (move_conditions n bytes target) (move_non_zero n bytes target) done in
    let both = none_append (before_target n bytes) _ passed in
    record { asked = both.0.0; source = both.0.1; room = both.1.0 }

pub move_goes : (n : ℕ) (bytes target : List ℕ) → Moved n bytes target
    → move n bytes target ≡ record { number = 0; target = saved_form (version_of n) (state_in bytes) }
unfolding move_conditions
move_goes n bytes target M =
    move_done n bytes target (none_holds (move_conditions n bytes target) 0
    (none_both (before_target n bytes) _ (M.asked, M.source) (M.room, tt)))

-- ---- so moves go there and back as loads and saves do

-- a source that passes is loaded
loads : (bytes : List ℕ) (t : State) → NoneHolds (source_conditions bytes) → wrong_vector_file t ≡ false
    → load bytes t ≡ record { number = 0; state = state_in bytes }
unfolding load_conditions
loads bytes t passed file = load_done bytes t (none_holds (load_conditions bytes t) 0 (file, passed))

pub load_after_move : LoadAfterMove
load_after_move n bytes target t small file done =
    let M : Moved n bytes target = moved n bytes target done in
    ap (λ (r : Save). load r.target t) (move_goes n bytes target M)
    ∙ load_saved (version_of n) (state_in bytes) t (held bytes M.source small) (file_read bytes M.source) (low_control bytes M.source)
    file
    ∙ sym (loads bytes t M.source file)

pub move_and_back : MoveAndBack
move_and_back n bytes target back small size done =
    let source : NoneHolds (source_conditions bytes) = (moved n bytes target done).source in
    let t : State = state_in bytes in
    let file : wrong_vector_file t ≡ false = file_read bytes source in
    let first : (load bytes t).number ≡ 0 = ap (λ (l : Load). l.number) (loads bytes t source file) in
    let again : load (move n bytes target).target t ≡ load bytes t = load_after_move n bytes target t small file done in
    (move_is_save_after_load (version_number bytes) (move n bytes target).target back t (named bytes source) file).0
    (ap (λ (l : Load). l.number) again ∙ first)
    ∙ ap (λ (l : Load). save (version_number bytes) l.state back) again
    ∙ save_after_load bytes back t small size first

pub move_copies : MoveCopies
move_copies bytes target small done =
    let M : Moved (version_number bytes) bytes target = moved (version_number bytes) bytes target done in
    ap (λ (r : Save). r.target) (move_goes (version_number bytes) bytes target M) ∙ bytes_back bytes M.source small
