-- The code of a move: it loads into a state of its own, and saves what came of that.
-- Assumes nothing.
use Prim.Native.Nat.{ℕ, ◌+◌}
use mathlib.Core.Bool.{true, false}
use mathlib.Core.Path.{◌≡◌, refl, sym, ap, ◌∙◌}
use mathlib.Core.List.{List}
use borrow.Author.Tests.{ne_eqb}
use Rattle.std.specs.Prelude.{Some, None}
use Rattle.lists.specs.Lists.{first_of, table}
use Rattle.machine.specs.State.{State}
use Rattle.machine.specs.Step.{wrong_vector_file}
use Rattle.forms.specs.declared.Version.{Version}
use Rattle.forms.specs.declared.Refusal.{Refusal}
use Rattle.forms.specs.Refusal.{refusal_number}
use Rattle.forms.specs.Version.{is_packed, version_of, no_version}
use Rattle.forms.specs.Form.{file_at, form_size}
use Rattle.forms.specs.Saved.{Save, save, Load, load, blank, state_in, source_conditions, move_conditions, move, moved_size, size_of}
use Rattle.forms.proofs.Apart.{vectors_long}
use Rattle.forms.proofs.Answered.{move_refused}
use Rattle.forms.proofs.Refusals.{some_number, load_refusals}
use Rattle.forms.proofs.Trips.{move_is_save_after_load}
use Rattle.saved.proofs.Saving.{size_by_word, some_size}
use Rattle.saved.proofs.Loading.{passed}

-- a load into a state that is blank
pub from_blank : (bytes : List ℕ) {t : State} → t ≡ blank → {l : Load} → l ≡ load bytes t → l ≡ load bytes blank
from_blank bytes h e = e ∙ ap (load bytes) h

-- a load that is refused leaves what it was to load into
pub stays : (bytes : List ℕ) (t : State) (refusal : Refusal) {s : State} → record { number = refusal_number refusal; state = s } ≡ load bytes t
    → record { number = refusal_number refusal; state = t } ≡ load bytes t
stays bytes t refusal e =
    let kept : (load bytes t).state ≡ t = (load_refusals bytes t).1 (λ z. some_number refusal (ap (λ (l : Load). l.number) e ∙ z)) in
    ap (λ (s : State). record { number = refusal_number refusal; state = s }) (sym (ap (λ (l : Load). l.state) e ∙ kept)) ∙ e

pub no_such : (n : ℕ) (bytes target : List ℕ) → no_version n ≡ true → {k : ℕ} → k ≡ 10
    → record { number = k; target = target } ≡ move n bytes target
unfolding move_conditions
no_such n bytes target e h = rw h (sym (move_refused n bytes target 10 refl (rw e)))

-- a blank state's vector file has its size
blank_file : wrong_vector_file blank ≡ false
unfolding blank wrong_vector_file table
blank_file = refl

module _ (n : ℕ) (bytes target : List ℕ) (asked : no_version n ≡ false) where
  pub move_ends : (refusal : Refusal) → record { number = refusal_number refusal; state = blank } ≡ load bytes blank → {k : ℕ}
      → k ≡ refusal_number refusal → record { number = k; target = target } ≡ move n bytes target
  move_ends refusal answer h =
      rw (h, ap (λ (l : Load). l.number) answer)
      (sym ((move_is_save_after_load n bytes target blank asked blank_file).1
      (λ e. some_number refusal (ap (λ (l : Load). l.number) answer ∙ e))))

  pub move_saves : {s : State} → record { number = 0; state = s } ≡ load bytes blank → {r : Save} → r ≡ save n s target
      → r ≡ move n bytes target
  move_saves answer e =
      e
      ∙ ap (λ (l : Load). save n l.state target) answer
      ∙ sym ((move_is_save_after_load n bytes target blank asked blank_file).0 (sym (ap (λ (l : Load). l.number) answer)))

-- ---- the size that is needed

module _ (n : ℕ) (bytes : List ℕ) where
  pub size_no_such : no_version n ≡ true → None ≡ size_of (moved_size n bytes)
  unfolding moved_size
  size_no_such e = rw e

  module _ (asked : no_version n ≡ false) where
    pub size_wrong : (refusal : Refusal) → refusal_number refusal ≡ first_of (source_conditions bytes) 0
        → None ≡ size_of (moved_size n bytes)
    unfolding moved_size
    size_wrong refusal h = rw (asked, ← h, ne_eqb (refusal_number refusal) 0 (some_number refusal))

    module _ (right : 0 ≡ first_of (source_conditions bytes) 0) where
      pub size_there : {r : ℕ} {vectors : List ℕ} → vectors ≡ (state_in bytes).vectors → r ≡ form_size (version_of n) vectors
          → Some r ≡ size_of (moved_size n bytes)
      unfolding moved_size
      size_there v e = some_size (version_of n) _ (e ∙ rw (asked, ← right, v)) e

      -- of a whole file
      pub size_whole : {r : ℕ} {v : Version} → v ≡ version_of n → false ≡ is_packed v → r ≡ file_at + 2048
          → Some r ≡ size_of (moved_size n bytes)
      size_whole {r} {v} is flat e =
          size_there refl
          (size_by_word v (state_in bytes).vectors {word = None} (vectors_long bytes (passed bytes right)) (rw (sym flat)) e ∙ rw is)
