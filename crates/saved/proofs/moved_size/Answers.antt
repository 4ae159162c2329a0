-- `saved::moved_size` meets its contract: each `return` is a law of Moving.antt.
use mathlib.Core.Path.{◌≡◌, ◌∙◌}
use mathlib.Core.Bool.{false}
use native.Mathlib.Omega.{arith}
use Rattle.lists.specs.Lists.{first_of}
use Rattle.std.specs.Prelude.{IfOk}
use Rattle.forms.specs.Refusal.{answer_number}
use Rattle.forms.specs.Version.{version_of, no_version, IsVersion}
use Rattle.forms.specs.Saved.{version_in, source_conditions}
use Rattle.saved.proofs.Saving.{at_ok, at_err}
use Rattle.saved.proofs.Loading.{whole_length, room_lent, vectors_read}
use Rattle.saved.proofs.Moving.{size_no_such, size_wrong, size_there, size_whole}
use Rattle.saved.proofs.moved_size.Goals.{In_ok-to, In_ok-held}
use Rattle.saved.proofs.moved_size.Goals as goal

-- what the two `?` before have shown
asked : (c : In_ok-to) → (no_version c.args.number ≡ false) × (c.in_ok-to.to ≡ version_of c.args.number)
asked c = at_ok _ c.in_ok-to.ensures.value (IsVersion c.args.number) c.try_from.ensures

right : (c : In_ok-held) → 0 ≡ first_of (source_conditions c.args.source.now) 0
right c =
    at_ok _ c.in_ok-held.ensures.value (λ r. answer_number r ≡ first_of (source_conditions c.args.source.now) 0)
    c.source_version.ensures.number

held : (c : In_ok-held) → c.in_ok-held.held ≡ version_in c.args.source.now
held c =
    at_ok _ c.in_ok-held.ensures.value (λ r. IfOk r (λ version. version ≡ version_in c.args.source.now)) c.source_version.ensures.version

pub returns-in_err-to : goal.returns-in_err-to
returns-in_err-to c =
    let no = at_err _ c.in_err-to.ensures.value (IsVersion c.args.number) c.try_from.ensures in
    rw c.from_residual.ensures (size_no_such c.args.number c.args.source.now no.1.0)

pub returns-in_err-held : goal.returns-in_err-held
returns-in_err-held c =
    let no =
    at_err _ c.in_err-held.ensures.value (λ r. answer_number r ≡ first_of (source_conditions c.args.source.now) 0)
    c.source_version.ensures.number in
    rw c.from_residual-in_err-held.ensures
    (size_wrong c.args.number c.args.source.now (asked (goal.at.returns-in_err-held c).In_ok-to).0 no.0 no.1)

pub returns-then-not-is_packed : goal.returns-then-not-is_packed
returns-then-not-is_packed c =
    let at = goal.at.returns-then-not-is_packed c in
    let version = asked at.In_ok-to in
    size_whole c.args.number c.args.source.now version.0 (right at.In_ok-held) version.1 c.if-not-is_packed.ensures c.form_size.ensures

pub slice_bounds-read_file-count : goal.slice_bounds-read_file-count
slice_bounds-read_file-count c =
    omega (arith, whole_length c.args.source.now (right (goal.at.slice_bounds-read_file-count c).In_ok-held))

pub slice_bounds-read_file-start : goal.slice_bounds-read_file-start
slice_bounds-read_file-start c =
    omega (arith, whole_length c.args.source.now (right (goal.at.slice_bounds-read_file-start c).In_ok-held))

pub read_file-requires : goal.read_file-requires
read_file-requires c =
    let at = goal.at.read_file-requires c in
    (omega arith, room_lent c.args.source.now (right at.In_ok-held) (c.is_packed-2.ensures ∙ rw (held at.In_ok-held)))

pub returns : goal.returns
returns c =
    let at = goal.at.returns c in
    let version = asked at.In_ok-to in
    size_there c.args.number c.args.source.now version.0 (right at.In_ok-held)
    (vectors_read c.args.source.now (right at.In_ok-held) (c.is_packed-2.ensures ∙ rw (held at.In_ok-held)) c.read_file.ensures)
    (c.size_with.ensures ∙ rw version.1)
