use Rattle.std.proofs.Common.{arith}
use Rattle.std.proofs.lemmas.Grind.{common_steps}
use Rattle.oe_graph.specs.Plain.{plain_graph}
use Rattle.oe_sources.specs.CatalogueDims.{dims_of}
use Rattle.oe_sources.specs.CatalogueRows.{rows_of}
use Rattle.oe_top.proofs.Checks.{form_first, checked_text, checked_refused}
use Rattle.oe_top.proofs.judge.checked_in.Goals as goal

pub returns-in-Err-clause-refused : goal.returns-in-Err-clause-refused
returns-in-Err-clause-refused g c =
    form_first (dims_of (rows_of (λ z. (goal.SharedSource-dyn g z).CubeSource.seen z.1) c.args.catalogue.now)) c.args.bytes.now
    c.in-Err.refusal c.in-Err.ensures.refused

pub returns-clause-checked : goal.returns-clause-checked
returns-clause-checked g c =
    let rows = rows_of (λ z. (goal.SharedSource-dyn g z).CubeSource.seen z.1) c.args.catalogue.now in
    checked_text (dims_of rows) c.args.bytes.now (plain_graph c.in-Ok.graph) c.in-Ok.ensures.graph
    c.judge.result (rw (c.in-Ok-dims.ensures.rows) at c.judge.ensures.checked)
    (rw (c.in-Ok-dims.ensures.rows) at c.judge.ensures.none)

pub returns-clause-refused : goal.returns-clause-refused
returns-clause-refused g c =
    let rows = rows_of (λ z. (goal.SharedSource-dyn g z).CubeSource.seen z.1) c.args.catalogue.now in
    checked_refused (dims_of rows) c.args.bytes.now (plain_graph c.in-Ok.graph) c.in-Ok.ensures.graph
    c.judge.result (rw (c.in-Ok-dims.ensures.rows) at c.judge.ensures.refused)

pub returns-clause-collections : goal.returns-clause-collections
returns-clause-collections g c = grind (arith, common_steps) steps 2000000

pub returns-clause-found : goal.returns-clause-found
returns-clause-found g c = grind (arith, common_steps) steps 2000000

pub returns-in-Err-clause-checked : goal.returns-in-Err-clause-checked
returns-in-Err-clause-checked g c = grind (arith, common_steps) steps 2000000

pub returns-in-Err-clause-collections : goal.returns-in-Err-clause-collections
returns-in-Err-clause-collections g c = grind (arith, common_steps) steps 2000000

pub returns-in-Err-clause-found : goal.returns-in-Err-clause-found
returns-in-Err-clause-found g c = grind (arith, common_steps) steps 2000000

pub returns-in-Err-dims-clause-checked : goal.returns-in-Err-dims-clause-checked
returns-in-Err-dims-clause-checked g c = grind (arith, common_steps) steps 2000000

pub returns-in-Err-dims-clause-collections : goal.returns-in-Err-dims-clause-collections
returns-in-Err-dims-clause-collections g c = grind (arith, common_steps) steps 2000000

pub returns-in-Err-dims-clause-found : goal.returns-in-Err-dims-clause-found
returns-in-Err-dims-clause-found g c = grind (arith, common_steps) steps 2000000

pub returns-in-Err-dims-clause-refused : goal.returns-in-Err-dims-clause-refused
returns-in-Err-dims-clause-refused g c = grind (arith, common_steps) steps 2000000
