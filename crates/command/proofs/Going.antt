-- The loop of the steps: what was printed so far, followed by the lines from the present offset on, is all that is to be printed. A step
-- that is done moves the offset by six or more and prints 16 bytes at most, so the place never runs ahead of 16/6 of the offset.
-- Assumes nothing.
use Prim.Native.Nat.{ℕ, ◌+◌, ◌-◌, ◌*◌, ◌≤◌, ◌<◌}
use mathlib.Core.Path.{◌≡◌, refl, sym, ap, ◌∙◌}
use mathlib.Core.List.{List, [], ◌++◌, append_assoc}
use native.Mathlib.Omega.{arith}
use lib.ListN.{length, take, drop, length-drop}
use Rattle.machine.specs.State.{State, Stepped}
use Rattle.machine.specs.Step.{step}
use Rattle.machine.specs.Answers.{Sized}
use Rattle.machine.proofs.Answers.{lengths}
use Rattle.forms.proofs.Slices.{to_end}
use Rattle.text.specs.Put.{Put}
use Rattle.text.proofs.Writing.{none, followed}
use Rattle.command.specs.Command.{step_line, stop_line, room}
use Rattle.command.proofs.Lines.{lines, at_end, goes_on, stops, step_most, step_short}

pub record Going (memory code : List ℕ) (s₀ : State) (out₀ : List ℕ) (s : State) (offset at : ℕ) (out : List ℕ) : Type 0 where
  pub text : List ℕ
  pub put : Put text out₀ 0 at out
  pub rest : text ++ lines memory code s offset ≡ lines memory code s₀ 0
  pub place : 3 * at ≤ 8 * offset
  pub near : offset ≤ 4096
  pub size : length out ≡ length out₀

pub starts : (memory code : List ℕ) (s : State) (out : List ℕ) → Going memory code s out s 0 0 out
starts memory code s out =
    record { text = []; put = none out 0; rest = refl; place = omega arith; near = omega arith; size = refl }

module _ {memory code : List ℕ} {s₀ : State} {out₀ : List ℕ} {s : State} {offset at : ℕ} {out : List ℕ}
    (g : Going memory code s₀ out₀ s offset at out) where
  pub ends : length code ≤ offset → {r : ℕ} {after : List ℕ} → Put (stop_line offset) out at r after
      → Put (lines memory code s₀ 0) out₀ 0 r after
  ends h p = rw (← g.rest, at_end memory code s offset h) (followed (omega arith) g.put p)

  -- a step is lent the code from the offset on
  module _ {o : Stepped} (lent : o ≡ step memory s (take (length code - offset) (drop offset code))) (inside : offset < length code) where
    stepped : o ≡ step memory s (drop offset code)
    stepped = rw (← to_end offset code) lent

    -- one that is done ends inside the code
    pub moved : o.answer.number ≡ 0 → (6 ≤ o.answer.length) × (offset + o.answer.length ≤ length code)
    moved z =
        let l : Sized (drop offset code) o = rw stepped (lengths memory s (drop offset code)) in
        ((l z).0, omega (arith, l z, length-drop offset code))

    module _ {next : ℕ} {after : List ℕ} (p : Put (step_line offset o.answer.number o.state.control) out at next after) where
      pub halts : (o.answer.number ≡ 0 → ⊥) → {r : ℕ} {last : List ℕ} → Put (stop_line offset) after next r last
          → Put (lines memory code s₀ 0) out₀ 0 r last
      halts z q =
          rw (← g.rest, stops memory code s offset stepped inside z, ← append_assoc)
          (followed (omega arith) (followed (omega arith) g.put p) q)

      module _ (Code-fits : length code ≤ 4096) (kept : length after ≡ length out) where
        -- there is room for the last line
        pub stop_fits : room ≤ length out₀ → next + 26 ≤ length after
        stop_fits h = omega (arith, step_most offset o.answer.number o.state.control, p.place)

        pub goes : o.answer.number ≡ 0 → Going memory code s₀ out₀ o.state (offset + o.answer.length) next after
        goes z =
            record {
              text = g.text ++ step_line offset o.answer.number o.state.control;
              put = followed (omega arith) g.put p;
              rest = rw append_assoc (ap (λ (l : List ℕ). g.text ++ l) (sym (goes_on memory code s offset stepped inside z)) ∙ g.rest);
              place =
                  omega (
                    arith,
                    moved z,
                    p.place,
                    g.place,
                    step_short offset o.answer.number o.state.control (omega arith) z,
                  );
              near = omega (arith, moved z);
              size = kept ∙ g.size;
            }
