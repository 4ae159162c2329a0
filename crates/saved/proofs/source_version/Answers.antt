-- `saved::source_version` meets its contract: each `return` is a law of Loading.antt, at what the tests before it have shown.
use mathlib.Core.Path.{◌≡◌, sym, ap, ◌∙◌}
use native.Mathlib.Omega.{arith}
use Rattle.std.proofs.Common.{rules}
use Rattle.forms.specs.Version.{is_packed, no_version}
use Rattle.forms.specs.Saved.{version_in}
use Rattle.saved.proofs.Loading.{Right, right, too_short, no_such, other_size, other_length, wrong_one, high_control, is_form}
use Rattle.saved.proofs.source_version.Goals.{After-is_packed-packed, Else-is_wrong}
use Rattle.saved.proofs.source_version.Goals as goal

-- what the tests have shown, at the places where they have
packs : (c : After-is_packed-packed) → c.is_packed-packed.result ≡ is_packed (version_in c.args.saved.now)
packs c = c.is_packed-packed.ensures ∙ rw (c.in_ok-version.ensures.1, c.from.ensures)

passed : (c : Else-is_wrong) → Right c.args.saved.now
passed c =
    right _ (c.is_packed-packed.ensures ∙ rw (c.in_ok-version.ensures.1, c.from.ensures))
    (ap no_version (sym c.from.ensures) ∙ c.in_ok-version.ensures.0) c.file_size_in.ensures.0
    c.if-saved-file_size_in.false c.size_at.ensures.0 c.if-size_at-saved.false c.is_wrong.ensures c.if-is_wrong.false

pub returns-then-saved-clause-number : goal.returns-then-saved-clause-number
returns-then-saved-clause-number c = too_short c.args.saved.now c.if-saved.true

pub returns-in_err-version-clause-number : goal.returns-in_err-version-clause-number
returns-in_err-version-clause-number c =
    no_such _ (ap no_version (sym c.from.ensures) ∙ c.in_err-version.ensures.0) (search rules)

pub returns-then-saved-file_size_in-clause-number : goal.returns-then-saved-file_size_in-clause-number
returns-then-saved-file_size_in-clause-number c =
    other_size _ (packs (goal.at.returns-then-saved-file_size_in-clause-number c).After-is_packed-packed) c.file_size_in.ensures.0
    c.if-saved-file_size_in.true

pub returns-then-size_at-saved-clause-number : goal.returns-then-size_at-saved-clause-number
returns-then-size_at-saved-clause-number c = other_length _ c.size_at.ensures.0 c.if-size_at-saved.true

pub returns-then-is_wrong-clause-number : goal.returns-then-is_wrong-clause-number
returns-then-is_wrong-clause-number c =
    wrong_one _ (packs (goal.at.returns-then-is_wrong-clause-number c).After-is_packed-packed) c.is_wrong.ensures c.if-is_wrong.true

pub returns-then-read_number-ge-HIGH_CONTROL-clause-number : goal.returns-then-read_number-ge-HIGH_CONTROL-clause-number
returns-then-read_number-ge-HIGH_CONTROL-clause-number c =
    high_control _ (passed (goal.at.returns-then-read_number-ge-HIGH_CONTROL-clause-number c).Else-is_wrong) c.read_number.ensures.0
    c.if-read_number-ge-HIGH_CONTROL.true

pub returns-clause-number : goal.returns-clause-number
returns-clause-number c =
    is_form _ (passed (goal.at.returns-clause-number c).Else-is_wrong) c.read_number.ensures.0 (omega arith)
