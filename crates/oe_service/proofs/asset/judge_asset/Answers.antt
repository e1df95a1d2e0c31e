use Rattle.std.proofs.Common.{List, map, ap, sym, subst}
use Rattle.oe_dims.specs.Plain.{plain_rows}
use Rattle.oe_graph.specs.Plain.{plain_graph, plain_stored}
use Rattle.oe_graph.specs.Tree.{PlainStored}
use Rattle.oe_graph.specs.Valid.{AreValidStored}
use Rattle.oe_jobs.specs.Plain.{plain_ran}
use Rattle.oe_sources.specs.CatalogueDims.{dims_of}
use Rattle.oe_sources.specs.CatalogueRows.{rows_of}
use Rattle.oe_service.proofs.JudgeLemmas.{judged, judged_faultless, least_refused}
use Rattle.oe_service.proofs.asset.judge_asset.Goals as goal

pub judge-requires-clause-stored_valid : goal.judge-requires-clause-stored_valid
judge-requires-clause-stored_valid g c =
    subst (λ (s : List PlainStored). AreValidStored s) (sym (ap (map plain_stored) c.deref.ensures.value))
    (c.stored_is_valid.ensures.ran (plain_ran c.args.ran.now) c.requires.valid)

pub returns-in-Ok-clause-checked : goal.returns-in-Ok-clause-checked
returns-in-Ok-clause-checked g c =
    judged (plain_rows c.in_ok-dims.dims) (dims_of (rows_of (λ z. (goal.SharedSource-dyn g z).CubeSource.seen z.1) c.args.catalogue.now))
    (map plain_stored c.deref.result.now) (plain_ran c.args.ran.now) c.args.index (plain_graph c.in_ok-graph.graph)
    c.in_ok-dims.ensures.rows (ap (map plain_stored) c.deref.ensures.value) c.in_ok-graph.ensures.graph c.in-Ok.checked
    c.in-Ok.ensures.checked

pub returns-in-Ok-clause-none : goal.returns-in-Ok-clause-none
returns-in-Ok-clause-none g c =
    judged_faultless (plain_rows c.in_ok-dims.dims)
    (dims_of (rows_of (λ z. (goal.SharedSource-dyn g z).CubeSource.seen z.1) c.args.catalogue.now)) (map plain_stored c.deref.result.now)
    (plain_ran c.args.ran.now) c.args.index (plain_graph c.in_ok-graph.graph) c.in_ok-dims.ensures.rows
    (ap (map plain_stored) c.deref.ensures.value) c.in_ok-graph.ensures.graph c.in-Ok.ensures.none

pub returns-in-Err-Fault-clause-refused : goal.returns-in-Err-Fault-clause-refused
returns-in-Err-Fault-clause-refused g c =
    least_refused (plain_rows c.in_ok-dims.dims)
    (dims_of (rows_of (λ z. (goal.SharedSource-dyn g z).CubeSource.seen z.1) c.args.catalogue.now)) (map plain_stored c.deref.result.now)
    (plain_ran c.args.ran.now) c.args.index (plain_graph c.in_ok-graph.graph) c.in_ok-dims.ensures.rows
    (ap (map plain_stored) c.deref.ensures.value) c.in_ok-graph.ensures.graph _ c.in-Err-Fault.fault
    c.in-Err-Fault.field-0-is c.in-Err-Fault.ensures.refused
