-- `saved::loaded` meets its contract: it loads into a state that is blank.
use Rattle.std.proofs.lemmas.Result.{err_from_is_err_and}
use Rattle.saved.proofs.Moving.{stays, from_blank}
use Rattle.saved.proofs.loaded.Goals as goal

pub returns-in_err-load_own : goal.returns-in_err-load_own
returns-in_err-load_own c =
    let is = err_from_is_err_and c.from_residual.result c.from_residual.ensures.1 in
    rw (is.1, is.2) (stays c.args.saved.now _ _ (from_blank _ c.zeroed-own.ensures c.in_err-load_own.ensures))

pub returns : goal.returns
returns c = from_blank _ c.zeroed-own.ensures c.in_ok-load_own.ensures
