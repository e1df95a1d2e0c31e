use Rattle.std.proofs.Common.{length}
use Rattle.oe_render.proofs.Batches.{reads_whole}
use Rattle.oe_render.proofs.batch.read_cells.Goals as goal

pub returns-clause-whole : goal.returns-clause-whole
returns-clause-whole g c =
    reads_whole _ c.args.at (length c.args.cells.now) c.in_ok-count.count c.read_records.result c.read_at.new.into c.read_records.new.into (rw c.requires.room at c.in_ok-count.ensures.given) c.requires.stored c.requires.some c.read_records.auto.into c.read_records.ensures.room c.read_records.ensures.round_trip
