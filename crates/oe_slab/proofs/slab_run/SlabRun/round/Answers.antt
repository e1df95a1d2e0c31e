use Rattle.std.proofs.Common.{◌≡◌, ◌↔◌, ◌+◌, ◌-◌, ◌<◌, ◌∙◌, ℕ, min, length, Option, Ok, Err, sym, ap, subst, arith}
use Rattle.oe_cell.specs.declared.cell.Cell.TheVariants.{Empty}
use Rattle.oe_dims.specs.Dimensions.{Dimensions}
use Rattle.oe_sources.specs.CatalogueRows.{rows_of}
use Rattle.oe_spool.specs.Spooled.{ChangesOnly}
use Rattle.oe_steps.specs.Collections.{HasCollections}
use Rattle.oe_window.specs.Cells.{cells_on}
use Rattle.oe_window.specs.Windows.{IsIn, position_count}
use Rattle.oe_window.specs.declared.window.Window.{Window}
use Rattle.oe_slab.specs.Results.{AreWritten}
use Rattle.oe_slab.specs.Plans.{most_asked}
use Rattle.oe_slab.specs.Rounds.{Advances, HasCauses, ReadsChunk, WritesChunk}
use Rattle.oe_slab.specs.Runs.{SlabRunOf, chunk_of, chunk_total, result_cube, result_shape}
use Rattle.oe_slab.specs.declared.slab_run.SlabProgress.TheVariants.{Complete}
use Rattle.oe_slab.proofs.RoundLemmas.{advances_done, causes_read, causes_spool, reads_one, writes_done, writes_none, writes_refused}
use Rattle.oe_slab.proofs.WrittenLemmas.{run}
use Rattle.oe_slab.proofs.slab_run.SlabRun.round.Goals as goal

pub returns-in_err-least-clause-writes : goal.returns-in_err-least-clause-writes
returns-in_err-least-clause-writes g c =
    let i = c.self.inside in
    let p = i.plan in
    let rows = rows_of (λ z. (goal.SharedSource-dyn g z).CubeSource.seen z.1) c.args.catalogue.now in
    let old = g.P.Store.bytes c.args.spool.now in
    let new = g.P.Store.bytes c.write_chunk.new.spool in
    let one : 1 ≡ min 1 (chunk_total p - i.done) = omega (arith, c.chunks.ensures.value, c.if-left-eq0.false) in
    let changed : ChangesOnly i.base (result_shape p) (IsIn (chunk_of p i.done)) old new =
    subst (λ (d : Dimensions). ChangesOnly i.base d (IsIn (chunk_of p i.done)) old new) c.shape.ensures
    (subst (λ (w : Window). ChangesOnly i.base c.shape.result.now (IsIn w) old new) c.chunk-chunk.ensures.value c.in_err-least.ensures.changes) in
    subst (λ (r : SlabRunOf). WritesChunk r rows old (run p i.base i.done i.over) new) c.self.view_is
    (writes_refused p i.base i.done i.over rows old c.chunks.ensures.valid one new changed)

pub returns-clause-writes : goal.returns-clause-writes
returns-clause-writes g c =
    let i = c.self.inside in
    let p = i.plan in
    let rows = rows_of (λ z. (goal.SharedSource-dyn g z).CubeSource.seen z.1) c.args.catalogue.now in
    let old = g.P.Store.bytes c.args.spool.now in
    let new = g.P.Store.bytes c.write_chunk.new.spool in
    let one : 1 ≡ min 1 (chunk_total p - i.done) = omega (arith, c.chunks.ensures.value, c.if-left-eq0.false) in
    let window_is = c.chunk-chunk.ensures.value in
    let shape_is = c.shape.ensures in
    let changed : ChangesOnly i.base (result_shape p) (IsIn (chunk_of p i.done)) old new =
    subst (λ (d : Dimensions). ChangesOnly i.base d (IsIn (chunk_of p i.done)) old new) shape_is
    (subst (λ (w : Window). ChangesOnly i.base c.shape.result.now (IsIn w) old new) window_is c.in_ok-least.ensures.changes) in
    let cells = c.result_cells-cells.result.now in
    let counted : length cells ≡ position_count (chunk_of p i.done) =
    c.result_cells-cells.ensures.counted c.chunk-chunk.result c.in_ok-evaluate.ensures.result ∙ ap position_count window_is in
    let least = c.in_ok-least.least in
    let written : AreWritten (result_shape p) new i.base (chunk_of p i.done) cells least =
    subst (λ (d : Dimensions). AreWritten d new i.base (chunk_of p i.done) cells least) shape_is
    (subst (λ (w : Window). AreWritten c.shape.result.now new i.base w cells least) window_is c.in_ok-least.ensures.written) in
    subst (λ (r : SlabRunOf). WritesChunk r rows old (run p i.base (i.done + 1) c.lesser-self-inside.result) new) c.self.view_is
    (subst (λ (o : Option ℕ). WritesChunk (run p i.base i.done i.over) rows old (run p i.base (i.done + 1) o) new) (sym c.lesser-self-inside.ensures)
    (writes_done p i.base i.done i.over rows old c.chunks.ensures.valid one new changed cells counted least written
    (λ collections has shows. subst (λ (w : Window). cells_on Empty (result_cube collections p) w ≡ cells) window_is
    (c.result_cells-cells.ensures.only _ (c.in_ok-evaluate.ensures.value collections has shows)))))

pub evaluate-requires-clause-mounted : goal.evaluate-requires-clause-mounted
evaluate-requires-clause-mounted g c =
    let rows = rows_of (λ z. (goal.SharedSource-dyn g z).CubeSource.seen z.1) c.args.catalogue.now in
    subst (λ (r : SlabRunOf). HasCollections r.plan.graph rows) (sym c.self.view_is) c.requires.mounted

pub write_chunk-requires-clause-counted : goal.write_chunk-requires-clause-counted
write_chunk-requires-clause-counted g c = c.result_cells-cells.ensures.counted c.chunk-chunk.result c.in_ok-evaluate.ensures.result

pub returns-in_err-evaluate-clause-writes : goal.returns-in_err-evaluate-clause-writes
returns-in_err-evaluate-clause-writes g c =
    let i = c.self.inside in
    let p = i.plan in
    let rows = rows_of (λ z. (goal.SharedSource-dyn g z).CubeSource.seen z.1) c.args.catalogue.now in
    let old = g.P.Store.bytes c.args.spool.now in
    subst (λ (r : SlabRunOf). WritesChunk r rows old (run p i.base i.done i.over) old) c.self.view_is (writes_none p i.base i.done i.over rows old)

pub returns-in_err-evaluate-clause-reads : goal.returns-in_err-evaluate-clause-reads
returns-in_err-evaluate-clause-reads g c =
    let i = c.self.inside in
    let p = i.plan in
    let rows = rows_of (λ z. (goal.SharedSource-dyn g z).CubeSource.seen z.1) c.args.catalogue.now in
    let after = rows_of (λ z. (goal.SharedSource-dyn g z).CubeSource.seen z.1) c.evaluate.new.catalogue in
    let one : 1 ≡ min 1 (chunk_total p - i.done) = omega (arith, c.chunks.ensures.value, c.if-left-eq0.false) in
    subst (λ (r : SlabRunOf). ReadsChunk r rows after) c.self.view_is
    (reads_one p i.base i.done i.over rows after (Err c.in_err-evaluate.field-0.0) one c.in_err-evaluate.ensures.read)

pub returns-in_err-evaluate-clause-causes : goal.returns-in_err-evaluate-clause-causes
returns-in_err-evaluate-clause-causes g c =
    let i = c.self.inside in
    let p = i.plan in
    let rows = rows_of (λ z. (goal.SharedSource-dyn g z).CubeSource.seen z.1) c.args.catalogue.now in
    let after = rows_of (λ z. (goal.SharedSource-dyn g z).CubeSource.seen z.1) c.evaluate.new.catalogue in
    let faults = g.P.Store.faults c.args.spool.now in
    subst (λ (r : SlabRunOf). HasCauses r rows after faults faults c.from_residual.result) c.self.view_is
    (causes_read p i.base i.done i.over rows after faults (most_asked p) c.in_err-evaluate.field-0.0 c.from_residual.result c.from_residual.ensures.1
    c.in_err-evaluate.ensures.read)

pub returns-in_err-least-clause-reads : goal.returns-in_err-least-clause-reads
returns-in_err-least-clause-reads g c =
    let i = c.self.inside in
    let p = i.plan in
    let rows = rows_of (λ z. (goal.SharedSource-dyn g z).CubeSource.seen z.1) c.args.catalogue.now in
    let after = rows_of (λ z. (goal.SharedSource-dyn g z).CubeSource.seen z.1) c.evaluate.new.catalogue in
    let one : 1 ≡ min 1 (chunk_total p - i.done) = omega (arith, c.chunks.ensures.value, c.if-left-eq0.false) in
    subst (λ (r : SlabRunOf). ReadsChunk r rows after) c.self.view_is
    (reads_one p i.base i.done i.over rows after (Ok tt) one c.in_ok-evaluate.ensures.read)

pub returns-in_err-least-clause-causes : goal.returns-in_err-least-clause-causes
returns-in_err-least-clause-causes g c =
    let i = c.self.inside in
    let p = i.plan in
    let rows = rows_of (λ z. (goal.SharedSource-dyn g z).CubeSource.seen z.1) c.args.catalogue.now in
    let after = rows_of (λ z. (goal.SharedSource-dyn g z).CubeSource.seen z.1) c.evaluate.new.catalogue in
    let faults = g.P.Store.faults c.args.spool.now in
    let faults_after = g.P.Store.faults c.write_chunk.new.spool in
    let result = c.from_residual-in_err-least.result in
    subst (λ (r : SlabRunOf). HasCauses r rows after faults faults_after result) c.self.view_is
    (causes_spool p i.base i.done i.over rows after faults faults_after c.in_err-least.field-0.0 result c.from_residual-in_err-least.ensures.1
    c.in_err-least.ensures.only c.in_err-least.ensures.cause)

pub returns-clause-reads : goal.returns-clause-reads
returns-clause-reads g c =
    let i = c.self.inside in
    let p = i.plan in
    let rows = rows_of (λ z. (goal.SharedSource-dyn g z).CubeSource.seen z.1) c.args.catalogue.now in
    let after = rows_of (λ z. (goal.SharedSource-dyn g z).CubeSource.seen z.1) c.evaluate.new.catalogue in
    let one : 1 ≡ min 1 (chunk_total p - i.done) = omega (arith, c.chunks.ensures.value, c.if-left-eq0.false) in
    subst (λ (r : SlabRunOf). ReadsChunk r rows after) c.self.view_is
    (reads_one p i.base i.done i.over rows after (Ok tt) one c.in_ok-evaluate.ensures.read)

pub returns-clause-advances : goal.returns-clause-advances
returns-clause-advances g c =
    let i = c.self.inside in
    let p = i.plan in
    let progress = c.progress_before.result in
    let some : 0 < chunk_total p - i.done = omega (arith, c.chunks.ensures.value, c.if-left-eq0.false) in
    subst (λ (r : SlabRunOf). Advances r (run p i.base (i.done + 1) c.lesser-self-inside.result) (Ok progress)) c.self.view_is
    (advances_done p i.base i.done i.over progress c.lesser-self-inside.result some
    (subst (λ (n : ℕ). (progress ≡ Complete) ↔ (n - i.done ≡ 1)) c.chunks.ensures.value c.progress_before.ensures))
