-- `command::parts_of` meets its contract: each return has found one thing missing, and the last none.
-- Assumes nothing.
use Prim.Native.Nat.{◌≤◌}
use mathlib.Core.Path.{ap}
use native.Mathlib.Omega.{arith}
use lib.ListN.{length}
use Rattle.command.specs.Command.{code_length, memory_of}
use Rattle.command.proofs.Input.{is_laid, not_laid, form_found, counted, code_found, memory_found}
use Rattle.command.proofs.parts_of.Goals.{Else-memory-gt-MOST_MEMORY}
use Rattle.command.proofs.parts_of.Goals as goal

pub returns-in_err-form : goal.returns-in_err-form
returns-in_err-form c =
    rw c.from_residual.ensures (not_laid _ (λ w. omega (arith, w.head, c.size_at.ensures.0, c.in_err-form.ensures.cases)))

pub returns-in_err-count : goal.returns-in_err-count
returns-in_err-count c =
    rw c.from_residual-in_err-count.ensures (not_laid _
    (λ w. omega (arith, w.head, c.size_at.ensures.0, c.in_ok-form.ensures.cases, c.in_err-count.ensures.cases)))

pub returns-in_err-code : goal.returns-in_err-code
returns-in_err-code c =
    let size = c.size_at.ensures.0 in
    let form = c.in_ok-form.ensures.cases in
    let count = c.in_ok-count.ensures.cases in
    rw c.from_residual-in_err-code.ensures (not_laid _
    (λ w. omega (arith, w.whole, size, form, count, counted _ size form count c.read_number.ensures.0, c.in_err-code.ensures.cases)))

pub returns-then-code-gt-MOST_CODE : goal.returns-then-code-gt-MOST_CODE
returns-then-code-gt-MOST_CODE c =
    let size = c.size_at.ensures.0 in
    let form = c.in_ok-form.ensures.cases in
    let count = c.in_ok-count.ensures.cases in
    not_laid _
    (λ w. omega (arith, w.code, counted _ size form count c.read_number.ensures.0, c.in_ok-code.ensures.cases, c.if-code-gt-MOST_CODE.true))

pub returns-then-memory-gt-MOST_MEMORY : goal.returns-then-memory-gt-MOST_MEMORY
returns-then-memory-gt-MOST_MEMORY c =
    let size = c.size_at.ensures.0 in
    let form = c.in_ok-form.ensures.cases in
    let count = c.in_ok-count.ensures.cases in
    let memory = memory_found _ size form count c.read_number.ensures.0 c.in_ok-code.ensures.cases in
    not_laid _ (λ w. omega (arith, w.memory, ap length memory, c.if-memory-gt-MOST_MEMORY.true))

-- where all is found, the two sizes fit
code_fits : (c : Else-memory-gt-MOST_MEMORY) → code_length c.args.input.now ≤ 4096
code_fits c =
    let count = counted _ c.size_at.ensures.0 c.in_ok-form.ensures.cases c.in_ok-count.ensures.cases c.read_number.ensures.0 in
    omega (arith, count, c.in_ok-code.ensures.cases, c.if-code-gt-MOST_CODE.false)

memory_fits : (c : Else-memory-gt-MOST_MEMORY) → length (memory_of c.args.input.now) ≤ 32768
memory_fits c =
    let memory =
    memory_found _ c.size_at.ensures.0 c.in_ok-form.ensures.cases c.in_ok-count.ensures.cases c.read_number.ensures.0
    c.in_ok-code.ensures.cases in
    omega (arith, ap length memory, c.if-memory-gt-MOST_MEMORY.false)

pub returns : goal.returns
returns c =
    let size = c.size_at.ensures.0 in
    let form = c.in_ok-form.ensures.cases in
    let count = c.in_ok-count.ensures.cases in
    let number = c.read_number.ensures.0 in
    let code = c.in_ok-code.ensures.cases in
    record {
      laid_out = is_laid _ (record {
        head = omega (arith, size, form, count);
        code = code_fits (goal.at.returns c).Else-memory-gt-MOST_MEMORY;
        whole = omega (arith, size, form, count, counted _ size form count number, code);
        memory = memory_fits (goal.at.returns c).Else-memory-gt-MOST_MEMORY;
      });
      form = form_found _ size form count number;
      code = code_found _ size form count number code;
      memory = memory_found _ size form count number code;
    }
