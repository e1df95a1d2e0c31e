use Rattle.std.proofs.Common.{sym, subst}
use Rattle.oe_service.specs.Causes.{TextRefused}
use Rattle.oe_service.specs.declared.refusal.RunRefusal.{RunRefusal}
use Rattle.oe_service.proofs.AssetTextLemmas.{finish_refused}
use Rattle.oe_service.proofs.text.text_of_run.Goals as goal

pub returns-in-Err-clause-refused : goal.returns-in-Err-clause-refused
returns-in-Err-clause-refused g c = λ rows going.
    let r = c.args.run.now in
    let store = g.P.Store.bytes c.args.spool.now in
    let faults = g.P.Store.faults c.args.spool.now in
    subst (λ (reason : RunRefusal). TextRefused r.plan.graph rows store faults faults reason) (sym c.of_round.ensures)
    (finish_refused r rows store going c.requires.complete c.in-Err.fail faults faults (sym c.in-Err.ensures))
