-- `saved::load` meets its contract: each `return` is a law of Loading.antt.
use Rattle.std.proofs.Common.{rules}
use Prim.Native.Nat.{◌≤◌}
use mathlib.Core.Path.{◌∙◌}
use native.Mathlib.Omega.{arith}
use lib.ListN.{length}
use Rattle.std.proofs.lemmas.Result.{err_from_is_err_and}
use Rattle.saved.proofs.Loading.{whole_length, wrong_file_lem, wrong_form, room_lent, vectors_read, state_read, loaded}
use Rattle.saved.proofs.load.Goals.{In_ok-version}
use Rattle.saved.proofs.load.Goals as goal

enough : (c : In_ok-version) → 213 ≤ length c.args.saved.now
enough c = whole_length c.args.saved.now c.in_ok-version.ensures.number

pub returns-in_default : goal.returns-in_default
returns-in_default c = wrong_file_lem _ _ c.in_default.ensures.cases

pub returns-in_err-version : goal.returns-in_err-version
returns-in_err-version c =
    let whole = c.in-Some.ensures.cases in
    let is = err_from_is_err_and c.from_residual.result c.from_residual.ensures.1 in
    rw whole.same (wrong_form _ _ whole.long _ c.in_err-version.ensures.number (rw (is.1, is.2)))

pub slice_bounds-read_number-end : goal.slice_bounds-read_number-end
slice_bounds-read_number-end c = omega (arith, enough (goal.at.slice_bounds-read_number-end c).In_ok-version)

pub slice_bounds-read_number-end-2 : goal.slice_bounds-read_number-end-2
slice_bounds-read_number-end-2 c = omega (arith, enough (goal.at.slice_bounds-read_number-end-2 c).In_ok-version)

pub slice_bounds-read_registers-end : goal.slice_bounds-read_registers-end
slice_bounds-read_registers-end c = omega (arith, enough (goal.at.slice_bounds-read_registers-end c).In_ok-version)

pub slice_bounds-read_registers-end-3 : goal.slice_bounds-read_registers-end-3
slice_bounds-read_registers-end-3 c = omega (arith, enough (goal.at.slice_bounds-read_registers-end-3 c).In_ok-version)

pub slice_bounds-read_file-count : goal.slice_bounds-read_file-count
slice_bounds-read_file-count c = omega (arith, enough (goal.at.slice_bounds-read_file-count c).In_ok-version)

pub slice_bounds-read_file-start : goal.slice_bounds-read_file-start
slice_bounds-read_file-start c = omega (arith, enough (goal.at.slice_bounds-read_file-start c).In_ok-version)

pub read_file-requires : goal.read_file-requires
read_file-requires c = (
  search rules,
  room_lent c.args.saved.now c.in_ok-version.ensures.number (c.is_packed.ensures ∙ rw c.in_ok-version.ensures.version),
)

pub returns : goal.returns
returns c =
    let right = c.in_ok-version.ensures.number in
    loaded _ _ c.in-Some.ensures.cases.long right
    (state_read c.args.saved.now
    (omega arith)
    (omega arith)
    c.read_number.ensures.0
    c.read_number-2.ensures.0
    c.read_registers.ensures
    c.read_registers-2.ensures
    (vectors_read c.args.saved.now right (c.is_packed.ensures ∙ rw c.in_ok-version.ensures.version) c.read_file.ensures))
