use Rattle.oe_sources.specs.CatalogueDims.{dims_of}
use Rattle.oe_sources.specs.CatalogueRows.{rows_of}
use Rattle.oe_top.proofs.Explanations.{none_found, one_found}
use Rattle.oe_top.proofs.explain.find_fault.Goals as goal

pub returns-in-Ok-judge_bytes-clause-found : goal.returns-in-Ok-judge_bytes-clause-found
returns-in-Ok-judge_bytes-clause-found g c =
    let rows = rows_of (λ z. (goal.SharedSource-dyn g z).CubeSource.seen z.1) c.args.catalogue.now in
    none_found (dims_of rows) (g.I.Source.left c.args.input.now) (g.I.Source.faults c.args.input.now) c.in-Ok.bytes.items
    (g.I.Source.left c.read_input.new.input) (g.I.Source.faults c.read_input.new.input) c.in-Ok.ensures.read
    c.in-Ok-judge_bytes.field-0 (rw (c.in-Ok-dims.ensures.rows, c.deref.ensures.value) at c.in-Ok-judge_bytes.ensures)

pub returns-in-Ok-explanation-clause-found : goal.returns-in-Ok-explanation-clause-found
returns-in-Ok-explanation-clause-found g c =
    let rows = rows_of (λ z. (goal.SharedSource-dyn g z).CubeSource.seen z.1) c.args.catalogue.now in
    one_found (dims_of rows) (g.I.Source.left c.args.input.now) (g.I.Source.faults c.args.input.now) c.in-Ok.bytes.items
    (g.I.Source.left c.read_input.new.input) (g.I.Source.faults c.read_input.new.input) c.in-Ok.ensures.read
    c.in-Err-Graph.fault c.in-Ok-explanation.text.items
    (rw (c.in-Err-Graph.field-0-is, c.in-Ok-dims.ensures.rows, c.deref.ensures.value) at c.in-Err-Graph.ensures)
    (rw c.deref-in-Err-Graph.ensures.value at c.in-Ok-explanation.ensures)
