use Rattle.std.proofs.Common.{List, ap, ◌∙◌}
use Rattle.oe_graph.specs.Catalogue.{Process, first_named}
use Rattle.oe_graph.proofs.catalogue.process_entry.Goals as goal

-- the rows behind the reference are those of the constant
pub returns : goal.returns
returns c = c.entry_of.ensures ∙ ap (λ (ps : List Process). first_named c.args.id.now ps) c.entries.ensures
