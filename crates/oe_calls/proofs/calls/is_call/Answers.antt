use Rattle.std.proofs.Common.{◌∙◌, ap, is_some}
use Rattle.oe_calls.proofs.StoredLemmas.{is_some-found}
use Rattle.oe_calls.proofs.calls.is_call.Goals as goal

pub returns : goal.returns
returns c =
    c.is_some.ensures
    ∙ (is_some-found c.args.stored.now c.callee_index.result c.callee_index.ensures.within ∙ ap is_some c.callee_index.ensures.is)
