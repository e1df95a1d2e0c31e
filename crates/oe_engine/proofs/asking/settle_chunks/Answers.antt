use Rattle.std.proofs.Common.{sym, subst}
use Rattle.std.specs.Result.{IsErr}
use Rattle.oe_sources.specs.CatalogueRows.{rows_of}
use Rattle.oe_engine.proofs.HullLemmas.{none_if_err, refusal_is_err}
use Rattle.oe_steps.proofs.ReadLemmas.{has_none}
use Rattle.oe_engine.proofs.asking.settle_chunks.Goals as goal

pub settle-requires-clause-step : goal.settle-requires-clause-step
settle-requires-clause-step g c = (rw c.in-Err.is at c.requires.noted).within

pub settle-requires-clause-load : goal.settle-requires-clause-load
settle-requires-clause-load g c = (rw c.in-Err.is at c.requires.noted).load

pub settle-requires-clause-refused : goal.settle-requires-clause-refused
settle-requires-clause-refused g c = (rw c.in-Err.is at c.requires.noted).why

pub returns-in-Err-clause-answer : goal.returns-in-Err-clause-answer
returns-in-Err-clause-answer g c = none_if_err c.settle.result (subst IsErr (sym c.settle.ensures.answer) (refusal_is_err _ c.in-Err.note.fail)) _

pub returns-in-Ok-clause-read : goal.returns-in-Ok-clause-read
returns-in-Ok-clause-read g c = has_none c.args.plan.now.graph (rows_of (λ z. (goal.SharedSource-dyn g z).CubeSource.seen z.1) c.args.catalogue.now)
