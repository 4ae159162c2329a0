-- `saved::saved_size` meets its contract: each `return` is a law of Saving.antt.
use mathlib.Core.Path.{◌≡◌, ◌∙◌}
use mathlib.Core.Bool.{false}
use Rattle.forms.specs.Version.{version_of, no_version, IsVersion}
use Rattle.saved.proofs.Saving.{at_ok, at_err, size_no_such, size_wrong_file, size_there}
use Rattle.saved.proofs.saved_size.Goals.{In_ok-version}
use Rattle.saved.proofs.saved_size.Goals as goal

asked : (c : In_ok-version) → (no_version c.args.number ≡ false) × (c.in_ok-version.version ≡ version_of c.args.number)
asked c = at_ok _ c.in_ok-version.ensures.value (IsVersion c.args.number) c.try_from.ensures

pub returns-in_err-version : goal.returns-in_err-version
returns-in_err-version c =
    let no = at_err _ c.in_err-version.ensures.value (IsVersion c.args.number) c.try_from.ensures in
    rw c.from_residual.ensures (size_no_such c.args.number c.args.vectors.now no.1.0)

pub returns-in_err-vectors : goal.returns-in_err-vectors
returns-in_err-vectors c =
    let version = asked (goal.at.returns-in_err-vectors c).In_ok-version in
    rw c.from_residual-in_err-vectors.ensures
    (size_wrong_file c.args.number c.args.vectors.now version.0 c.in_err-vectors.ensures.cases)

pub returns : goal.returns
returns c =
    let version = asked (goal.at.returns c).In_ok-version in
    let whole = c.in_ok-vectors.ensures.cases in
    size_there c.args.number c.args.vectors.now version.0 whole.long (c.size_with.ensures ∙ rw (version.1, whole.same))
