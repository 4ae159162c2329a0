-- `saved::save` meets its contract: each `return` is a law of Saving.antt, at what the tests before it have shown.
use mathlib.Core.Path.{◌∙◌}
use native.Mathlib.Omega.{arith}
use Rattle.std.proofs.Common.{rules}
use Rattle.saved.proofs.Saving.{size_by_word, Shown, no_such, wrong_file_lem, wrong_total, high_control, saved}
use Rattle.saved.proofs.save.Goals.{After-form_size}
use Rattle.saved.proofs.save.Goals as goal

-- what the tests have shown when the size is known
shown : (c : After-form_size)
    → Shown c.args.number
    c.args.vectors.now
    c.in_ok-version.version
    c.form_size.result
shown c =
    let whole = c.in-Some.ensures.cases in
    record {
      asked = c.in_ok-version.ensures.0;
      long = whole.long;
      version = c.in_ok-version.ensures.1;
      size = size_by_word _ _ whole.long (c.file_word-word.ensures ∙ rw (c.is_packed.ensures, whole.same)) c.form_size.ensures;
    }

pub returns-in_err-version : goal.returns-in_err-version
returns-in_err-version c = no_such _ _ _ c.in_err-version.ensures.0 (search rules)

pub returns-in_default : goal.returns-in_default
returns-in_default c = wrong_file_lem _ _ _ c.in_ok-version.ensures.0 c.in_default.ensures.cases

pub returns-then-target-form_size : goal.returns-then-target-form_size
returns-then-target-form_size c =
    wrong_total _ _ _ (shown (goal.at.returns-then-target-form_size c).After-form_size) c.if-target-form_size.true

pub returns-then-control-ge65536 : goal.returns-then-control-ge65536
returns-then-control-ge65536 c =
    high_control _ _ _ (shown (goal.at.returns-then-control-ge65536 c).After-form_size) c.if-target-form_size.false c.if-control-ge65536.true

pub put_form-requires : goal.put_form-requires
put_form-requires c =
    let S = shown (goal.at.put_form-requires c).After-form_size in (
      c.file_word-word.ensures ∙ rw c.is_packed.ensures,
      c.if-target-form_size.false ∙ rw c.in-Some.ensures.cases.same S.size,
    )

pub returns : goal.returns
returns c =
    saved _ _ _ (shown (goal.at.returns c).After-form_size) c.if-target-form_size.false (omega arith)
    (c.put_form.ensures ∙ rw c.in-Some.ensures.cases.same)
