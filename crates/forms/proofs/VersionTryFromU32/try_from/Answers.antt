-- `Version::try_from` meets its contract: the definitions' own tests.
use mathlib.Core.Path.{refl, sym, ap}
use native.Mathlib.Omega.{arith}
use Rattle.std.specs.Prelude.{◌≢◌}
use borrow.Author.Tests.{ne_eqb}
use Rattle.forms.specs.Version.{version_of, no_version}
use Rattle.forms.proofs.VersionTryFromU32.try_from.Goals as goal

pub returns-in-1 : goal.returns-in-1
unfolding version_of no_version
returns-in-1 c = (ap no_version c.in-1.is, sym (ap version_of c.in-1.is))

pub returns-in-2 : goal.returns-in-2
unfolding version_of no_version
returns-in-2 c = (ap no_version c.in-2.is, sym (ap version_of c.in-2.is))

pub returns-in_default : goal.returns-in_default
unfolding version_of no_version
returns-in_default c =
    let not_one : c.args.number ≢ 1 = omega arith in
    let not_two : c.args.number ≢ 2 = omega arith in
    (rw (ne_eqb _ _ not_two, ne_eqb _ _ not_one), refl)
