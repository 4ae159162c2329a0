-- `replayer::item::find` meets its contract: each return has found one thing that an item must have missing, and the last all of them.
-- Assumes nothing.
use mathlib.Core.Path.{sym, ◌∙◌}
use native.Mathlib.Omega.{arith}
use Rattle.recording.proofs.Tests.{not_bad}
use Rattle.replayer.proofs.Finding.{is_bad_lem, in_head, code_counted, memory_counted, code_found, memory_found, control_found}
use Rattle.replayer.proofs.Finding.{destination_found, rest_found, measured}
use Rattle.replayer.proofs.item.find.Goals as goal

pub returns-in_err-head : goal.returns-in_err-head
returns-in_err-head c = rw c.from_residual.ensures (is_bad_lem _ (λ w. omega (arith, w.whole, c.in_err-head.ensures.cases)))

pub returns-in_err-code : goal.returns-in_err-code
returns-in_err-code c =
    let head = c.in_ok-head.ensures.cases in
    let codes = code_counted _ head c.from.ensures in
    rw c.from_residual-in_err-code.ensures (is_bad_lem _
    (λ w. omega (arith, w.whole, codes, head, c.in_err-code.ensures.cases)))

pub returns-in_err-count : goal.returns-in_err-count
returns-in_err-count c =
    let head = c.in_ok-head.ensures.cases in
    let code = c.in_ok-code.ensures.cases in
    let codes = code_counted _ head c.from.ensures in
    rw c.from_residual-in_err-count.ensures (is_bad_lem _
    (λ w. omega (arith, w.whole, codes, head, code, c.in_err-count.ensures.cases)))

pub returns-in_err-memory : goal.returns-in_err-memory
returns-in_err-memory c =
    let head = c.in_ok-head.ensures.cases in
    let code = c.in_ok-code.ensures.cases in
    let count = c.in_ok-count.ensures.cases in
    let codes = code_counted _ head c.from.ensures in
    let memories = memory_counted _ head c.from.ensures code count c.read_number.ensures.0 in
    rw c.from_residual-in_err-memory.ensures (is_bad_lem _
    (λ w. omega (arith, w.whole, codes, memories, head, code, count, c.in_err-memory.ensures.cases)))

pub returns-in_err-control : goal.returns-in_err-control
returns-in_err-control c =
    let head = c.in_ok-head.ensures.cases in
    let code = c.in_ok-code.ensures.cases in
    let count = c.in_ok-count.ensures.cases in
    let memory = c.in_ok-memory.ensures.cases in
    let codes = code_counted _ head c.from.ensures in
    let memories = memory_counted _ head c.from.ensures code count c.read_number.ensures.0 in
    rw c.from_residual-in_err-control.ensures (is_bad_lem _
    (λ w. omega (arith, w.whole, codes, memories, head, code, count, memory, c.in_err-control.ensures.cases)))

pub returns-in_err-destination : goal.returns-in_err-destination
returns-in_err-destination c =
    let head = c.in_ok-head.ensures.cases in
    let code = c.in_ok-code.ensures.cases in
    let count = c.in_ok-count.ensures.cases in
    let memory = c.in_ok-memory.ensures.cases in
    let control = c.in_ok-control.ensures.cases in
    let codes = code_counted _ head c.from.ensures in
    let memories = memory_counted _ head c.from.ensures code count c.read_number.ensures.0 in
    rw c.from_residual-in_err-destination.ensures (is_bad_lem _
    (λ w. omega (arith, w.whole, codes, memories, head, code, count, memory, control, c.in_err-destination.ensures.cases)))

pub returns-then-head-ne1 : goal.returns-then-head-ne1
returns-then-head-ne1 c =
    is_bad_lem _ (λ w. c.if-head-ne1.true (in_head _ c.in_ok-head.ensures.cases 4 (omega arith) ∙ w.version))

pub returns-then-code-gt15 : goal.returns-then-code-gt15
returns-then-code-gt15 c =
    let codes = code_counted _ c.in_ok-head.ensures.cases c.from.ensures in
    is_bad_lem _ (λ w. omega (arith, w.code, codes, c.in_ok-code.ensures.cases, c.if-code-gt15.true))

pub returns-then-memory-gt4096 : goal.returns-then-memory-gt4096
returns-then-memory-gt4096 c =
    let head = c.in_ok-head.ensures.cases in
    let code = c.in_ok-code.ensures.cases in
    let count = c.in_ok-count.ensures.cases in
    let memories = memory_counted _ head c.from.ensures code count c.read_number.ensures.0 in
    is_bad_lem _ (λ w. omega (arith, w.memory, memories, c.in_ok-memory.ensures.cases, c.if-memory-gt4096.true))

pub returns-then-size_at-bytes : goal.returns-then-size_at-bytes
returns-then-size_at-bytes c =
    let size = measured _ c.in_ok-head.ensures.cases c.from.ensures c.in_ok-code.ensures.cases c.in_ok-count.ensures.cases
    c.read_number.ensures.0 c.in_ok-memory.ensures.cases c.in_ok-control.ensures.cases c.in_ok-destination.ensures.cases in
    is_bad_lem _ (λ w. c.if-size_at-bytes.true (omega (arith, w.field, c.size_at.ensures.0, size)))

pub returns : goal.returns
returns c =
    let head = c.in_ok-head.ensures.cases in
    let code = c.in_ok-code.ensures.cases in
    let count = c.in_ok-count.ensures.cases in
    let number = c.read_number.ensures.0 in
    let memory = c.in_ok-memory.ensures.cases in
    let control = c.in_ok-control.ensures.cases in
    let destination = c.in_ok-destination.ensures.cases in
    let size = measured _ head c.from.ensures code count number memory control destination in
    record {
      good = not_bad _ (record {
        whole = omega (arith, size);
        field = omega (arith, size, c.size_at.ensures.0, c.if-size_at-bytes.false);
        version = sym (in_head _ head 4 (omega arith)) ∙ c.if-head-ne1.false;
        code = omega (arith, code_counted _ head c.from.ensures, code, c.if-code-gt15.false);
        memory = omega (arith, memory_counted _ head c.from.ensures code count number, memory, c.if-memory-gt4096.false);
      });
      number = in_head _ head 5 (omega arith);
      code = code_found _ head c.from.ensures code count number;
      memory = memory_found _ head c.from.ensures code count number memory control destination;
      control = c.read_number-2.ensures.0 ∙ control_found _ head c.from.ensures code count number memory control destination;
      destination = destination_found _ head c.from.ensures code count number memory control destination;
      rest = rest_found _ head c.from.ensures code count number memory control destination;
    }
