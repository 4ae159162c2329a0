-- The statements of specs/Refusals.antt: each number is `first_of` of one list of conditions, each of which has a number that is not 0.
-- Assumes nothing.
use Prim.Native.Nat.{ℕ, suc}
use mathlib.Core.Path.{◌≡◌, refl}
use mathlib.Core.Bool.{Bool, cond}
use mathlib.Core.List.{List, [], ◌++◌, append-nil}
use mathlib.Core.Logic.{◌≢◌, inl, inr}
use native.Mathlib.Omega.{arith}
use borrow.Author.Tests.{ne_eqb}
use Rattle.lists.specs.Lists.{first_of}
use Rattle.lists.proofs.First.{NonZero}
use Rattle.lists.proofs.Tests.{either}
use Rattle.machine.specs.State.{State}
use Rattle.machine.proofs.First.{in_order}
use Rattle.forms.specs.declared.Refusal.{Refusal}
use Rattle.forms.specs.declared.Refusal.TheVariants.{Size, HighControlBit, Form}
use Rattle.forms.specs.Refusal.{refusal_number}
use Rattle.forms.specs.Version.{no_version}
use Rattle.forms.specs.Saved.{save_conditions, save, version_number, wrong_size, wrong_length, source_conditions, load_conditions, load}
use Rattle.forms.specs.Saved.{move_conditions, move}
use Rattle.forms.specs.Refusals.{SaveRefusals, LoadRefusals, MoveRefusals, NoForm, FormsFirst}

abbrev no : {n : ℕ} → suc n ≢ 0
no e = omega arith

-- no refusal has the number 0
pub some_number : (refusal : Refusal) → refusal_number refusal ≢ 0
some_number Size = no
some_number HighControlBit = no
some_number Form = no

pub save_non_zero : (n : ℕ) (s : State) (target : List ℕ) → NonZero (save_conditions n s target)
unfolding save_conditions
save_non_zero n s target = (no, (no, (no, (no, tt))))

pub source_non_zero : (bytes : List ℕ) → NonZero (source_conditions bytes)
unfolding source_conditions
source_non_zero bytes = (no, (no, (no, (no, (no, tt)))))

pub load_non_zero : (bytes : List ℕ) (s : State) → NonZero (load_conditions bytes s)
unfolding load_conditions
load_non_zero bytes s = (no, source_non_zero bytes)

pub move_non_zero : (n : ℕ) (bytes target : List ℕ) → NonZero (move_conditions n bytes target)
unfolding move_conditions source_conditions
move_non_zero n bytes target = (no, (no, (no, (no, (no, (no, (no, tt)))))))

pub save_refusals : SaveRefusals
unfolding save
save_refusals n s target =
    (in_order (save_conditions n s target) (save_non_zero n s target), λ h. rw (ne_eqb (first_of (save_conditions n s target) 0) 0 h))

pub load_refusals : LoadRefusals
unfolding load
load_refusals bytes s =
    (in_order (load_conditions bytes s) (load_non_zero bytes s), λ h. rw (ne_eqb (first_of (load_conditions bytes s) 0) 0 h))

pub move_refusals : MoveRefusals
unfolding move
move_refusals n bytes target = (
  in_order (move_conditions n bytes target) (move_non_zero n bytes target),
  λ h. rw (ne_eqb (first_of (move_conditions n bytes target) 0) 0 h),
)

-- ---- 10 before 2

-- an earlier condition with the same number changes nothing
pub pick : (k : ℕ) (a : Bool) {m : ℕ} → m ≡ k → cond a k m ≡ k
pick k a e = either (λ x. x ≡ k) a refl e

-- whatever follows them, the four conditions give 10
ten : (bytes : List ℕ) (later : List (Bool × ℕ)) → NoForm bytes → first_of (source_conditions bytes ++ later) 0 ≡ 10
unfolding source_conditions
ten bytes later (inl e) = rw e
ten bytes later (inr (inl e)) = pick 10 (no_version (version_number bytes)) (rw e)
ten bytes later (inr (inr (inl e))) = pick 10 (no_version (version_number bytes)) (pick 10 (wrong_size bytes) (rw e))
ten bytes later (inr (inr (inr e))) =
    pick 10 (no_version (version_number bytes)) (pick 10 (wrong_size bytes) (pick 10 (wrong_length bytes) (rw e)))

pub forms_first : FormsFirst
unfolding load load_conditions move move_conditions
forms_first bytes h = (
  λ s file. rw file (rw (append-nil (source_conditions bytes)) at (ten bytes [] h)),
  λ n target. pick 10 (no_version n) (ten bytes _ h),
)
