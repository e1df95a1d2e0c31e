use Rattle.std.proofs.Common.{Option, refl, sym, subst}
use Rattle.serde_json.specs.Data.{null}
use Rattle.std.specs.Prelude.{unwrap_or}
use Rattle.oe_dims.specs.Plain.{plain_rows}
use Rattle.oe_graph.specs.Plain.{plain_graph}
use Rattle.oe_graph.specs.Form.{Stands}
use Rattle.oe_graph.specs.Read.{IsFault}
use Rattle.oe_graph.specs.declared.fault.Fault.{Fault}
use Rattle.oe_jobs.specs.Plain.{plain_book}
use Rattle.oe_jobs.specs.Verdicts.{stored_of}
use Rattle.oe_routes.specs.Forms.{graph_in}
use Rattle.oe_routes.specs.Rejections.{Settles}
use Rattle.oe_routes.specs.Sent as spec
use Rattle.oe_routes.proofs.FoundLemmas.{bytes_pass, bytes_refused}
use Rattle.oe_routes.proofs.judged.sent_fault.Goals as goal

pub returns-in_ok-later_fault-in-Ok : goal.returns-in_ok-later_fault-in-Ok
returns-in_ok-later_fault-in-Ok c = λ f is.
    bytes_pass c.stored_is_valid.ensures.book (plain_rows c.args.scene.dims.now) f is.read (is.judged refl) (plain_book c.args.scene.book.now)
    c.args.user.now c.args.body.now (plain_graph c.in-Ok.graph) c.in_ok-later_fault-in-Ok.field-0 c.requires
    c.in-Ok.ensures.valid c.in-Ok.ensures.graph c.in_ok-later_fault-in-Ok.ensures

pub returns-in-Err-Fault : goal.returns-in-Err-Fault
returns-in-Err-Fault c = λ f is.
    let later = f.judged (stored_of c.args.user.now (plain_book c.args.scene.book.now))
    (graph_in (unwrap_or (f.json c.args.body.now) null)) in
    let told = rw c.in-Err-Fault.field-0-is at (c.form_fault.ensures later) in
    subst (λ (o : Option Fault). Settles (λ (x : Option Fault). x) c.form_fault.result (spec.validated o later))
    (sym (bytes_refused f is.read c.args.body.now c.in-Err-Fault.fault
    (subst (IsFault (Stands c.args.body.now)) c.in-Err-Fault.field-0-is c.in-Err-Fault.ensures.refused)))
    told
