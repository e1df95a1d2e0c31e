use Rattle.std.proofs.Common.{sym, subst}
use Rattle.oe_sources.specs.CatalogueRows.{rows_of}
use Rattle.oe_steps.specs.Collections.{HasCollections}
use Rattle.oe_engine.specs.Parts.{run_of}
use Rattle.oe_engine.specs.Rounds.{Advances, HasCauses, ReadsChunks, WritesChunks}
use Rattle.oe_engine.specs.Runs.{RunOf}
use Rattle.oe_engine.proofs.PartLemmas.{run_advances, run_causes, run_reads, run_writes, still_whole}
use Rattle.oe_engine.proofs.run.Run.round.Goals as goal

pub round-requires-clause-mounted : goal.round-requires-clause-mounted
round-requires-clause-mounted g c κs within =
    let rows = rows_of (λ z. (goal.SharedSource-dyn g z).CubeSource.seen z.1) c.args.catalogue.now in
    subst (λ (r : RunOf). HasCollections r.plan.graph rows) (sym c.self.view_is) c.requires.mounted

pub returns-clause-advances : goal.returns-clause-advances
returns-clause-advances g c =
    subst (λ (r : RunOf). Advances r (run_of c.round.new.self) c.round.result) c.self.view_is
    (run_advances c.self.inside.part c.self.invariant c.round.new.self c.round.result c.round.ensures.advances)

pub returns-clause-writes : goal.returns-clause-writes
returns-clause-writes g c =
    let rows = rows_of (λ z. (goal.SharedSource-dyn g z).CubeSource.seen z.1) c.args.catalogue.now in
    let old = g.P.Store.bytes c.args.spool.now in
    let new = g.P.Store.bytes c.round.new.spool in
    let part = c.self.inside.part in
    let after = c.round.new.self in
    subst (λ (r : RunOf). WritesChunks r rows old (run_of after) new) c.self.view_is
    (run_writes part after c.self.invariant (still_whole part c.self.invariant after c.round.result c.round.ensures.advances) rows old new
    c.round.ensures.writes)

pub returns-clause-reads : goal.returns-clause-reads
returns-clause-reads g c =
    let rows = rows_of (λ z. (goal.SharedSource-dyn g z).CubeSource.seen z.1) c.args.catalogue.now in
    let after = rows_of (λ z. (goal.SharedSource-dyn g z).CubeSource.seen z.1) c.round.new.catalogue in
    subst (λ (r : RunOf). ReadsChunks r rows after) c.self.view_is
    (run_reads c.self.inside.part c.self.invariant rows after c.round.ensures.reads)

pub returns-clause-causes : goal.returns-clause-causes
returns-clause-causes g c =
    let rows = rows_of (λ z. (goal.SharedSource-dyn g z).CubeSource.seen z.1) c.args.catalogue.now in
    let after = rows_of (λ z. (goal.SharedSource-dyn g z).CubeSource.seen z.1) c.round.new.catalogue in
    subst (λ (r : RunOf). HasCauses r rows after (g.P.Store.faults c.args.spool.now) (g.P.Store.faults c.round.new.spool) c.round.result)
    c.self.view_is
    (run_causes c.self.inside.part rows after (g.P.Store.faults c.args.spool.now) (g.P.Store.faults c.round.new.spool) c.round.result
    c.round.ensures.causes)

pub invariant_of-self : goal.invariant_of-self
invariant_of-self g c =
    still_whole c.self.inside.part c.self.invariant c.round.new.self c.round.result c.round.ensures.advances
