-- `saved::put_form` meets its contract: the four parts are a law of Saving.antt.
use Rattle.std.proofs.Common.{rules}
use Prim.Native.Nat.{◌≤◌}
use mathlib.Core.Path.{◌∙◌}
use native.Mathlib.Omega.{arith}
use lib.ListN.{length}
use Rattle.forms.specs.Version.{is_packed}
use Rattle.saved.proofs.Saving.{has_word, file-length, at_least, form_written}
use Rattle.saved.proofs.put_form.Goals.{Start}
use Rattle.saved.proofs.put_form.Goals as goal

enough : (c : Start) → 209 ≤ length c.args.target.now
enough c = at_least c.args.version c.args.vectors.now c.args.target.now c.requires.1

pub slice_bounds-put_number-end : goal.slice_bounds-put_number-end
slice_bounds-put_number-end c = omega (arith, enough (goal.at.slice_bounds-put_number-end c).Start)

pub slice_bounds-put_number-end-2 : goal.slice_bounds-put_number-end-2
slice_bounds-put_number-end-2 c = omega (arith, enough (goal.at.slice_bounds-put_number-end-2 c).Start)

pub slice_bounds-put_numbers-end : goal.slice_bounds-put_numbers-end
slice_bounds-put_numbers-end c = omega (arith, enough (goal.at.slice_bounds-put_numbers-end c).Start)

pub put_file-requires : goal.put_file-requires
put_file-requires c =
    let is = has_word (is_packed c.args.version) c.args.vectors.now c.requires.0 in
    let room = file-length c.args.version c.args.vectors.now c.args.target.now c.requires.1 in (
      search rules,
      c.requires.0 ∙ rw is,
      rw is (omega (arith, enough (goal.at.put_file-requires c).Start, room)),
    )

pub returns : goal.returns
returns c =
    form_written c.args.version _ c.args.target.now c.requires.1 c.from.ensures
    c.put_number.ensures
    (c.put_number-2.ensures ∙ rw c.from-2.ensures)
    c.put_numbers.ensures
    (c.put_file.ensures ∙ rw (has_word (is_packed c.args.version) c.args.vectors.now c.requires.0))
