use Rattle.std.proofs.Common.{ap, Err, w64}
use Rattle.std.proofs.lemmas.Int.{to_z-of_z}
use Rattle.oe_http.specs.Plain.{plain_request}
use Rattle.oe_serve.specs.Links.{link_of}
use Rattle.oe_serve.specs.Serves.{ReadsRequest}
use Rattle.oe_serve.proofs.ServedLemmas.{served_action, served_refusal, served_request}
use Rattle.oe_serve.proofs.connections.serve_one.Goals as goal

pub returns-in-Ok-action_for : goal.returns-in-Ok-action_for
returns-in-Ok-action_for g c =
    let of = link_of g.L.Link.left g.L.Link.written g.L.Link.faults in
    let read = c.read_request.ensures in
    let reads : ReadsRequest (of c.args.link.now) (of c.read_request.new.link) =
    record { taken = read.taken; written = read.same; count = read.cause.count } in
    let asks = rw (to_z-of_z w64 c.args.now c.ranges.now) at c.in-Ok-action_for.ensures.asks in
    let decided = rw (to_z-of_z w64 c.args.now c.ranges.now) at c.in-Ok-action_for.ensures.decided in
    served_action c.args.setup.now.site.now c.args.now c.args.service.now c.act.new.service _ _ (of c.args.link.now)
    (of c.read_request.new.link) (of c.act.new.link) _ _ reads (plain_request c.in-Ok.request) c.in-Ok.ensures.request
    c.in-Ok-action_for.action asks decided c.act.ensures

pub returns-in-Ok : goal.returns-in-Ok
returns-in-Ok g c =
    let of = link_of g.L.Link.left g.L.Link.written g.L.Link.faults in
    let read = c.read_request.ensures in
    let reads : ReadsRequest (of c.args.link.now) (of c.read_request.new.link) =
    record { taken = read.taken; written = read.same; count = read.cause.count } in
    served_request c.args.setup.now.site.now c.args.now c.args.service.now _ (of c.args.link.now)
    (of c.read_request.new.link) (of c.answer_out_of_memory.new.link) _ _ c.requires.service.valid c.requires.service.is_kept c.requires.service.going
    reads (plain_request c.in-Ok.request) c.in-Ok.ensures.request c.answer_out_of_memory.ensures

pub returns : goal.returns
returns g c =
    let of = link_of g.L.Link.left g.L.Link.written g.L.Link.faults in
    let read = c.read_request.ensures in
    let reads : ReadsRequest (of c.args.link.now) (of c.read_request.new.link) =
    record { taken = read.taken; written = read.same; count = read.cause.count } in
    served_refusal c.args.setup.now.site.now c.args.now c.args.service.now _ (of c.args.link.now)
    (of c.read_request.new.link) (of c.answer_refusal.new.link) _ _ c.requires.service.valid c.requires.service.is_kept c.requires.service.going
    reads c.in-Err.refusal c.in-Err.ensures.refused (λ e. c.in-Err.ensures.cause.failed (ap Err e)) c.answer_refusal.ensures
