-- `saved::move_form` meets its contract: a load into a state of its own and a save, by the laws of Moving.antt.
use Rattle.std.proofs.Common.{rules}
use Rattle.std.proofs.lemmas.Result.{err_from_is_err_and}
use Rattle.saved.proofs.Moving.{no_such, stays, from_blank, move_ends, move_saves}
use Rattle.saved.proofs.move_form.Goals as goal

pub returns-in_err-try_from : goal.returns-in_err-try_from
returns-in_err-try_from c = no_such c.args.number c.args.source.now c.args.target.now c.in_err-try_from.ensures.0 (search rules)

pub returns-in_err-load_own : goal.returns-in_err-load_own
returns-in_err-load_own c =
    let is = err_from_is_err_and c.from_residual-in_err-load_own.result c.from_residual-in_err-load_own.ensures.1 in
    move_ends c.args.number c.args.source.now c.args.target.now c.in_ok-try_from.ensures.0 _
    (stays c.args.source.now _ _ (from_blank _ c.zeroed-own.ensures c.in_err-load_own.ensures)) (rw (is.1, is.2))

pub returns : goal.returns
returns c =
    move_saves c.args.number c.args.source.now c.args.target.now c.in_ok-try_from.ensures.0
    (from_blank _ c.zeroed-own.ensures c.in_ok-load_own.ensures) c.save.ensures
