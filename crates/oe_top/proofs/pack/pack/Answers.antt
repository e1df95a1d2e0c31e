use Rattle.std.proofs.Common.{Err, ap, refl, arith}
use Rattle.oe_top.proofs.Packings.{cells_counted, cells_of_kind, no_text_of_all, packs}
use Rattle.oe_top.specs.Objects.{objects}
use Rattle.oe_top.proofs.pack.pack.Goals as goal

pub write_file-requires-clause-counted : goal.write_file-requires-clause-counted
write_file-requires-clause-counted g c =
    let cube = c.in-Ok-read_cube_text.cube in
    cells_counted c.deref.result.now cube.shape cube.kind cube.cells.items c.in-Ok-read_cube_text.ensures.text

pub write_file-requires-clause-of_kind : goal.write_file-requires-clause-of_kind
write_file-requires-clause-of_kind g c =
    let cube = c.in-Ok-read_cube_text.cube in
    cells_of_kind c.deref.result.now cube.shape cube.kind cube.cells.items c.in-Ok-read_cube_text.ensures.text

pub returns-in-Ok-read_cube_text : goal.returns-in-Ok-read_cube_text
returns-in-Ok-read_cube_text g c = λ spool spool_faults rows.
    let cube = c.in-Ok-read_cube_text.cube in
    let before = objects (g.I.Source.left c.args.input.now) (g.I.Source.faults c.args.input.now) (g.O.Sink.written c.args.out.now) (g.O.Sink.faults c.args.out.now) spool spool_faults rows in
    let after = objects (g.I.Source.left c.read_input.new.input) (g.I.Source.faults c.read_input.new.input) (g.O.Sink.written c.write_file.new.out) (g.O.Sink.faults c.write_file.new.out) spool spool_faults rows in
    record {
      ends =
          packs c.args.id.now before after c.in-Ok.bytes.items cube.shape cube.kind cube.cells.items
          (rw c.deref.ensures.value at c.in-Ok-read_cube_text.ensures.text) c.in-Ok.ensures.read c.write_file.result
          c.write_file.ensures.packed c.write_file.ensures.prefix c.write_file.ensures.cause
          c.write_file.ensures.nothing c.write_file.ensures.only;
      others_kept = record { spool = refl; spool_faults = refl; collections = refl };
      input_taken = c.in-Ok.ensures.bounded;
      input_count = c.in-Ok.ensures.cause.count;
      out_count = c.write_file.ensures.cause.count;
    }

pub returns-in-Err-Invalid : goal.returns-in-Err-Invalid
returns-in-Err-Invalid g c = λ spool spool_faults rows.
    let none = c.in-Err-Invalid.ensures.invalid (ap Err c.in-Err-Invalid.field-0-is) in
    record {
      ends = (
        record {
          bytes = c.in-Ok.bytes.items;
          was_read = c.in-Ok.ensures.read;
          no_text = rw c.deref.ensures.value at none;
          of_all = no_text_of_all (g.I.Source.left c.args.input.now) c.in-Ok.bytes.items (g.I.Source.left c.read_input.new.input)
              c.in-Ok.ensures.read (rw c.deref.ensures.value at none);
        },
        record { out = refl; faults = refl },
      );
      others_kept = record { spool = refl; spool_faults = refl; collections = refl };
      input_taken = c.in-Ok.ensures.bounded;
      input_count = c.in-Ok.ensures.cause.count;
      out_count = record { later = omega arith; bounded = λ b. b };
    }
