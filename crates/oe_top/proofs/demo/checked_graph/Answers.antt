use Rattle.oe_sources.specs.CatalogueRows.{rows_of}
use Rattle.oe_top.proofs.Demos.{no_fault}
use Rattle.oe_top.proofs.demo.checked_graph.Goals as goal

pub returns-in-Ok-clause-checked : goal.returns-in-Ok-clause-checked
returns-in-Ok-clause-checked g c = rw (c.in_ok-dims.ensures.rows, c.as_bytes.ensures.value) at c.in-Ok.ensures

pub unreachable-requires : goal.unreachable-requires
unreachable-requires g c =
    no_fault (rows_of (λ z. (goal.SharedSource-dyn g z).CubeSource.seen z.1) c.args.catalogue.now) c.requires _ _
    c.in_ok-dims.ensures.rows c.as_bytes.ensures.value _ _ c.in-Err-Graph.field-0-is c.in-Err-Graph.ensures
