use Rattle.std.proofs.Common.{ap, refl, subst, ◌-◌, ◌∙◌}
use Rattle.oe_dims.specs.Dimensions.{cell_count}
use Rattle.oe_plan.specs.Plans.{PlanOf}
use Rattle.oe_check.specs.Checked.{CheckedGraph}
use Rattle.oe_sources.specs.CatalogueRows.{rows_of}
use Rattle.oe_top.proofs.Demos.{has_row, has_spooled, named, refused, stopped_figures, unspooled, written}
use Rattle.oe_top.specs.Evaluated.{IsFailOfRun}
use Rattle.oe_top.proofs.demo.write_figures.Goals as goal

pub complete-requires-clause-mounted : goal.complete-requires-clause-mounted
complete-requires-clause-mounted g c = λ _ _.
    c.collections_are_mounted.ensures c.args.run.plan (rows_of (λ z. (goal.SharedSource-dyn g z).CubeSource.seen z.1) c.args.catalogue.now)
    c.requires.begun.planned c.requires.collections.found

pub generated_never_failed-requires : goal.generated_never_failed-requires
generated_never_failed-requires g c =
    let rows = rows_of (λ z. (goal.SharedSource-dyn g z).CubeSource.seen z.1) c.args.catalogue.now in
    let rows_after = rows_of (λ z. (goal.SharedSource-dyn g z).CubeSource.seen z.1) c.complete.new.catalogue in
    record { mounted = has_row rows rows_after c.requires.demonstration c.in-Err.ensures.through.goes.read }

pub fail_of_run-requires : goal.fail_of_run-requires
fail_of_run-requires g c =
    let rows = rows_of (λ z. (goal.SharedSource-dyn g z).CubeSource.seen z.1) c.args.catalogue.now in
    let rows_after = rows_of (λ z. (goal.SharedSource-dyn g z).CubeSource.seen z.1) c.complete.new.catalogue in
    named c.args.run c.complete.new.run rows rows_after (g.P.Store.bytes c.args.spool.now) (g.P.Store.bytes c.complete.new.spool)
    (g.P.Store.faults c.args.spool.now) (g.P.Store.faults c.complete.new.spool)
    c.requires.demonstration c.checked.result.now c.in-Err.fail c.in-Err.ensures

pub returns-in-Err : goal.returns-in-Err
returns-in-Err g c = λ input input_faults lent.
    let rows = rows_of (λ z. (goal.SharedSource-dyn g z).CubeSource.seen z.1) c.args.catalogue.now in
    let rows_after = rows_of (λ z. (goal.SharedSource-dyn g z).CubeSource.seen z.1) c.complete.new.catalogue in
    let graph_is = c.checked.ensures ∙ ap (λ (p : PlanOf). p.graph) c.in-Err.ensures.through.goes.plan in
    refused c.args.run c.complete.new.run rows rows_after (g.P.Store.bytes c.args.spool.now) (g.P.Store.bytes c.complete.new.spool)
    (g.P.Store.faults c.args.spool.now) (g.P.Store.faults c.complete.new.spool)
    c.requires.demonstration c.requires.collections.given c.requires.collections.rows_are c.requires.begun.planned
    input input_faults (g.O.Sink.written c.args.out.now) (g.O.Sink.faults c.args.out.now) lent
    c.generated_never_failed.ensures c.in-Err.fail c.fail_of_run.result c.in-Err.ensures
    (subst (λ (k : CheckedGraph). IsFailOfRun k c.in-Err.fail c.fail_of_run.result) graph_is c.fail_of_run.ensures)

pub read_ends-requires-clause-first : goal.read_ends-requires-clause-first
read_ends-requires-clause-first g c =
    let rows = rows_of (λ z. (goal.SharedSource-dyn g z).CubeSource.seen z.1) c.args.catalogue.now in
    let rows_after = rows_of (λ z. (goal.SharedSource-dyn g z).CubeSource.seen z.1) c.complete.new.catalogue in
    has_spooled c.args.run c.complete.new.run rows rows_after (g.P.Store.bytes c.args.spool.now) (g.P.Store.bytes c.complete.new.spool)
    (g.P.Store.faults c.args.spool.now) (g.P.Store.faults c.complete.new.spool)
    c.requires.begun.planned c.requires.front c.in_default.ensures
    c.cells-count.result (c.cells-count.ensures.value ∙ ap cell_count c.shape.ensures) 0

pub read_ends-requires-clause-last : goal.read_ends-requires-clause-last
read_ends-requires-clause-last g c =
    let rows = rows_of (λ z. (goal.SharedSource-dyn g z).CubeSource.seen z.1) c.args.catalogue.now in
    let rows_after = rows_of (λ z. (goal.SharedSource-dyn g z).CubeSource.seen z.1) c.complete.new.catalogue in
    has_spooled c.args.run c.complete.new.run rows rows_after (g.P.Store.bytes c.args.spool.now) (g.P.Store.bytes c.complete.new.spool)
    (g.P.Store.faults c.args.spool.now) (g.P.Store.faults c.complete.new.spool)
    c.requires.begun.planned c.requires.front c.in_default.ensures
    c.cells-count.result (c.cells-count.ensures.value ∙ ap cell_count c.shape.ensures) (c.cells-count.result - 1)

pub returns-in-Ok-write : goal.returns-in-Ok-write
returns-in-Ok-write g c = λ input input_faults lent.
    let rows = rows_of (λ z. (goal.SharedSource-dyn g z).CubeSource.seen z.1) c.args.catalogue.now in
    let rows_after = rows_of (λ z. (goal.SharedSource-dyn g z).CubeSource.seen z.1) c.complete.new.catalogue in
    written c.args.run c.complete.new.run rows rows_after (g.P.Store.bytes c.args.spool.now) (g.P.Store.bytes c.complete.new.spool)
    (g.P.Store.faults c.args.spool.now) (g.P.Store.faults c.complete.new.spool)
    c.requires.demonstration c.requires.collections.given c.requires.collections.rows_are c.requires.begun.planned
    input input_faults (g.O.Sink.written c.args.out.now) (g.O.Sink.faults c.args.out.now) lent
    c.in_default.ensures c.requires.front c.cells-count.result (c.cells-count.ensures.value ∙ ap cell_count c.shape.ensures)
    c.in-Ok.first c.in-Ok.last c.in-Ok.ensures.first c.in-Ok.ensures.last
    c.as_slice.result.now (c.as_slice.ensures ∙ c.spell_figures.ensures) (g.P.Store.bytes c.read_ends.new.spool)
    (g.P.Store.faults c.read_ends.new.spool) c.in-Ok.ensures.cause.count
    (g.O.Sink.written c.write.new.self) (g.O.Sink.faults c.write.new.self) c.in-Ok-write.ensures.cause.count c.in-Ok-write.ensures.appended

pub returns-in-Ok : goal.returns-in-Ok
returns-in-Ok g c = λ input input_faults lent.
    let rows = rows_of (λ z. (goal.SharedSource-dyn g z).CubeSource.seen z.1) c.args.catalogue.now in
    let rows_after = rows_of (λ z. (goal.SharedSource-dyn g z).CubeSource.seen z.1) c.complete.new.catalogue in
    stopped_figures c.args.run c.complete.new.run rows rows_after (g.P.Store.bytes c.args.spool.now) (g.P.Store.bytes c.complete.new.spool)
    (g.P.Store.faults c.args.spool.now) (g.P.Store.faults c.complete.new.spool)
    c.requires.demonstration c.requires.collections.given c.requires.collections.rows_are c.requires.begun.planned
    input input_faults (g.O.Sink.written c.args.out.now) (g.O.Sink.faults c.args.out.now) lent
    c.in_default.ensures c.requires.front c.cells-count.result (c.cells-count.ensures.value ∙ ap cell_count c.shape.ensures)
    c.in-Ok.first c.in-Ok.last c.in-Ok.ensures.first c.in-Ok.ensures.last
    c.as_slice.result.now (c.as_slice.ensures ∙ c.spell_figures.ensures) (g.P.Store.bytes c.read_ends.new.spool)
    (g.P.Store.faults c.read_ends.new.spool) c.in-Ok.ensures.cause.count
    (g.O.Sink.written c.write.new.self) (g.O.Sink.faults c.write.new.self) c.in-Err-write.ensures.cause.count (c.in-Err-write.ensures.cause.failed refl) c.in-Err-write.ensures.prefix

pub returns : goal.returns
returns g c = λ input input_faults lent.
    let rows = rows_of (λ z. (goal.SharedSource-dyn g z).CubeSource.seen z.1) c.args.catalogue.now in
    let rows_after = rows_of (λ z. (goal.SharedSource-dyn g z).CubeSource.seen z.1) c.complete.new.catalogue in
    unspooled c.args.run c.complete.new.run rows rows_after (g.P.Store.bytes c.args.spool.now) (g.P.Store.bytes c.complete.new.spool)
    (g.P.Store.faults c.args.spool.now) (g.P.Store.faults c.complete.new.spool)
    c.requires.demonstration c.requires.collections.given c.requires.collections.rows_are c.requires.begun.planned
    input input_faults (g.O.Sink.written c.args.out.now) (g.O.Sink.faults c.args.out.now) lent
    c.in_default.ensures c.cells-count.result (c.cells-count.ensures.value ∙ ap cell_count c.shape.ensures)
    (g.P.Store.bytes c.read_ends.new.spool) (g.P.Store.faults c.read_ends.new.spool)
    c.in-Err-read_ends.fail c.fail_of_text.result c.fail_of_text.ensures c.in-Err-read_ends.ensures.cause
    c.in-Err-read_ends.ensures.damage c.in-Err-read_ends.ensures.only
