-- The statement `Takes` of specs/Runs.antt: each part is found where it was put, behind the form's own length.
-- Assumes nothing.
use Prim.Native.Nat.{ℕ, ◌+◌, ◌≤◌}
use mathlib.Core.Bool.{true, false}
use mathlib.Core.List.{List, ◌++◌}
use mathlib.Core.Path.{◌≡◌, sym, ap, ◌∙◌}
use native.Mathlib.Omega.{arith}
use lib.ListN.{length, drop, length-append}
use lib.Seq.{take_at, drop_at, drop-drop}
use Rattle.lists.proofs.Tests.{equal}
use Rattle.machine.specs.State.{State}
use Rattle.machine.specs.Step.{wrong_vector_file, high_control_bit}
use Rattle.forms.specs.declared.Version.{Version}
use Rattle.forms.specs.Numbers.{big}
use Rattle.forms.specs.Form.{saved_form}
use Rattle.forms.specs.Saved.{size_at, Load, load_front}
use Rattle.forms.specs.Trips.{Held}
use Rattle.forms.proofs.Numbers.{length-big, value_big}
use Rattle.forms.proofs.Sizes.{forms_in_front}
use Rattle.forms.proofs.Front.{front_loads}
use Rattle.command.specs.Command.{code_length, memory_of, is_laid_out, is_good}
use Rattle.command.specs.Runs.{Taken, Takes}
use Rattle.command.proofs.Input.{is_laid}

module _ (v : Version) (s : State) (code memory : List ℕ) (S : Held s) (file : wrong_vector_file s ≡ false)
    (control : high_control_bit s ≡ false) (short : length code ≤ 4096) (small : length memory ≤ 32768) where
  abbrev form : List ℕ
  form = saved_form v s

  abbrev rest : List ℕ
  rest = big 2 (length code) ++ (code ++ memory)

  long : length s.vectors ≡ 2048
  unfolding wrong_vector_file
  long = equal (length s.vectors) 2048 file

  size : size_at (form ++ rest) ≡ length form
  size = forms_in_front v s rest long

  behind : drop (length form) (form ++ rest) ≡ rest
  behind = drop_at form rest (length form) (omega arith)

  length_two : length (big 2 (length code)) ≡ 2
  length_two = length-big 2 (length code)

  behind_length : drop (length form + 2) (form ++ rest) ≡ code ++ memory
  behind_length =
      sym (drop-drop 2 (length form) (form ++ rest)) ∙ ap (drop 2) behind ∙ drop_at (big 2 (length code)) (code ++ memory) 2 length_two

  code-length : code_length (form ++ rest) ≡ length code
  code-length =
      rw (size, behind, take_at (big 2 (length code)) (code ++ memory) 2 length_two) (value_big 2 (length code) (omega arith))

  behind_code : drop (length form + 2 + length code) (form ++ rest) ≡ memory
  behind_code =
      sym (drop-drop (length code) (length form + 2) (form ++ rest))
      ∙ ap (drop (length code)) behind_length
      ∙ drop_at code memory (length code) (omega arith)

  total : length (form ++ rest) ≡ length form + 2 + length code + length memory
  total =
      length-append form rest
      ∙ omega (arith, length-append (big 2 (length code)) (code ++ memory), length-append code memory, length_two)

  memory-is : memory_of (form ++ rest) ≡ memory
  memory-is = rw (code-length, size) behind_code

  laid_out : is_laid_out (form ++ rest) ≡ true
  laid_out =
      is_laid (form ++ rest) (record {
        head = omega (arith, size, total);
        code = omega (arith, code-length, short);
        whole = omega (arith, size, code-length, total);
        memory = omega (arith, ap length memory-is, small);
      })

  loads : load_front (form ++ rest) ≡ record { number = 0; state = s }
  loads = front_loads v s rest S file control

  taken : Taken s code memory (form ++ rest)
  unfolding is_good
  taken =
      record {
        good = rw (laid_out, loads);
        start = ap (λ (l : Load). l.state) loads;
        code_is = rw (code-length, size, behind_length) (take_at code memory (length code) (omega arith));
        memory_is = memory-is;
      }

pub takes : Takes
takes = taken
