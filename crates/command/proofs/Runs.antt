-- The statements of specs/Runs.antt: by the number of steps that are left, which bytes of code bound.
-- Assumes nothing.
use Prim.Native.Nat.{ℕ, zero, suc, ◌+◌, ◌*◌, ◌≤◌, ◌<◌}
use mathlib.Core.Path.{◌≡◌, refl, sym}
use mathlib.Core.Bool.{Bool, true, false, cond}
use mathlib.Core.List.{List, [], ◌∷◌, ◌++◌, append_assoc, append-nil}
use native.Mathlib.Omega.{arith}
use borrow.Author.Tests.{leb-true, leb-false, eqb-true, eqb-false}
use lib.Dec.{eqb, leb}
use lib.ListN.{length, drop, length-append, length-drop, length-take}
use Rattle.machine.specs.State.{State, Stepped}
use Rattle.machine.specs.Step.{step, run}
use Rattle.machine.proofs.Answers.{lengths}
use Rattle.command.specs.Command.{step_line, stop_line, lines_from, bad_input, code_of, memory_of, start_of, is_laid_out, is_good, printed}
use Rattle.command.specs.Command.{room}
use Rattle.command.specs.Runs.{ended, stopped, done, Runs, Prints}
use Rattle.command.proofs.Lines.{stop_most, step_most, step_short}
use Rattle.command.proofs.Input.{LaidOut, laid_out, both}

module _ (memory code : List ℕ) where
  -- the step at an offset
  abbrev at_offset : State → ℕ → Stepped
  at_offset s at = step memory s (drop at code)

  -- a step that is done, and what follows it
  continued : {s : State} {at : ℕ} {text : List ℕ} → at < length code → (at_offset s at).answer.number ≡ 0
      → Runs memory code (at_offset s at).state (at + (at_offset s at).answer.length) text
      → Runs memory code s at (step_line at (at_offset s at).answer.number (at_offset s at).state.control ++ text)
  unfolding run
  continued {s} {at} {text} h z r =
      record {
        offsets = at ∷ r.offsets;
        end = r.end;
        course = done h z r.course;
        lines = rw r.lines (sym (append_assoc (step_line at (at_offset s at).answer.number (at_offset s at).state.control) _ _));
      }

  runs_from : (n : ℕ) (s : State) (at : ℕ) → length code ≤ at + n → Runs memory code s at (lines_from n memory code s at)
  unfolding lines_from run
  runs_from zero s at h = let e : length code ≤ at = omega arith in record { offsets = []; end = at; course = ended e; lines = refl }
  runs_from (suc n) s at h =
      go (leb (length code) at) (eqb (at_offset s at).answer.number 0) refl refl
      (λ z. runs_from n (at_offset s at).state (at + (at_offset s at).answer.length) (omega (arith, lengths memory s (drop at code) z)))
    where
      go : (t d : Bool) → leb (length code) at ≡ t → eqb (at_offset s at).answer.number 0 ≡ d
          → ((at_offset s at).answer.number ≡ 0
          → Runs memory code (at_offset s at).state (at + (at_offset s at).answer.length)
          (lines_from n memory code (at_offset s at).state (at + (at_offset s at).answer.length)))
          → Runs memory code s at
          (cond t (stop_line at)
          (step_line at (at_offset s at).answer.number (at_offset s at).state.control
          ++ cond d (lines_from n memory code (at_offset s at).state (at + (at_offset s at).answer.length)) (stop_line at)))
      go true d e f later = record { offsets = []; end = at; course = ended (leb-true _ _ e); lines = refl }
      go false false e f later =
          record { offsets = at ∷ []; end = at; course = stopped (leb-false _ _ e) (eqb-false _ 0 f); lines = rw append-nil }
      go false true e f later = continued (leb-false _ _ e) (eqb-true _ 0 f) (later (eqb-true _ 0 f))

  -- 16 bytes for 6 of code, and the last two lines
  lines_fit : (n : ℕ) (s : State) (at : ℕ) → length code ≤ 4096 → at ≤ 4096
      → 3 * length (lines_from n memory code s at) + 8 * at ≤ 3 * 77 + 8 * 4096
  unfolding lines_from
  lines_fit zero s at h k = omega (arith, stop_most at)
  lines_fit (suc n) s at h k =
      go (leb (length code) at) (eqb (at_offset s at).answer.number 0) refl refl
      (λ z w. lines_fit n (at_offset s at).state (at + (at_offset s at).answer.length) h
      (omega (arith, lengths memory s (drop at code) z, length-drop at code)))
    where
      go : (t d : Bool) → leb (length code) at ≡ t → eqb (at_offset s at).answer.number 0 ≡ d
          → ((at_offset s at).answer.number ≡ 0 → at < length code
          → 3 * length (lines_from n memory code (at_offset s at).state (at + (at_offset s at).answer.length)) + 8 *
          (at + (at_offset s at).answer.length) ≤ 3 * 77 + 8 * 4096)
          → 3 * length (cond t (stop_line at)
          (step_line at (at_offset s at).answer.number (at_offset s at).state.control
          ++ cond d (lines_from n memory code (at_offset s at).state (at + (at_offset s at).answer.length)) (stop_line at))) + 8 * at
          ≤ 3 * 77 + 8 * 4096
      go true d e f later = omega (arith, stop_most at)
      go false false e f later =
          simp length-append (omega (arith, stop_most at, step_most at (at_offset s at).answer.number (at_offset s at).state.control))
      go false true e f later =
          let z : (at_offset s at).answer.number ≡ 0 = eqb-true _ 0 f in
          let short : length (step_line at (at_offset s at).answer.number (at_offset s at).state.control) ≤ 16 =
          step_short at _ _ (omega arith) z in
          simp length-append (omega (arith, later z (leb-false _ _ e), lengths memory s (drop at code) z))

runs : (input : List ℕ) → is_good input ≡ true → Runs (memory_of input) (code_of input) (start_of input) 0 (printed input)
unfolding printed
runs input e = rw e (runs_from (memory_of input) (code_of input) (length (code_of input)) (start_of input) 0 (omega arith))

good_laid_out : (input : List ℕ) → is_good input ≡ true → LaidOut input
unfolding is_good
good_laid_out input e = laid_out input (both (is_laid_out input) e).0

fits : (input : List ℕ) → length (printed input) ≤ room
unfolding printed bad_input
fits input = go (is_good input) refl
  where
    go : (t : Bool) → is_good input ≡ t
        → length (cond t (lines_from (length (code_of input)) (memory_of input) (code_of input) (start_of input) 0) bad_input) ≤ room
    go true e =
        let small : length (code_of input) ≤ 4096 = simp length-take (omega (arith, (good_laid_out input e).code)) in
        omega (arith, lines_fit (memory_of input) (code_of input) (length (code_of input)) (start_of input) 0 small (omega arith))
    go false e = omega arith

pub prints : Prints
prints = record { runs = runs; fits = fits }
