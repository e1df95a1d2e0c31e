use Rattle.std.proofs.Common.{◌∙◌, refl, ap}
use Rattle.std.specs.Option.{option_map}
use Rattle.oe_sources.specs.CubeFile.{contents_of}
use Rattle.oe_sources.specs.FileState.{FileState}
use Rattle.oe_sources.proofs.PackedLemmas.{packed_if}
use Rattle.oe_sources.proofs.file_source.FileSource.open.Goals as goal

pub returns-in-Ok-clause-packed : goal.returns-in-Ok-clause-packed
returns-in-Ok-clause-packed g c =
    let head = c.in-Ok.file.head in
    let file : FileState = record {
      id = head.id;
      source = record {
        shape = head.shape;
        kind = head.kind;
        contents = option_map (contents_of head) (g.S.Store.bytes c.open_file.new.store);
        faults = g.S.Store.faults c.open_file.new.store;
        asked = 0;
      };
    } in
    packed_if (g.S.Store.bytes c.args.store) head file c.in-Ok.ensures.is_file refl refl refl (ap (option_map (contents_of head)) c.open_file.ensures.same)

pub returns-in-Ok-clause-hidden : goal.returns-in-Ok-clause-hidden
returns-in-Ok-clause-hidden g c none =
    ap (option_map (contents_of c.in-Ok.file.head)) (c.open_file.ensures.same ∙ none)
