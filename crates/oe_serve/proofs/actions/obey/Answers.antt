use Rattle.std.proofs.Common.{ap, ◌∙◌, Err}
use Rattle.oe_http.specs.Replies.{plain_response}
use Rattle.oe_jobs.specs.Plain.{plain_change}
use Rattle.oe_serve.proofs.Obeyed.{acts_done, acts_failed, acts_unmade}
use Rattle.oe_serve.proofs.actions.obey.Goals as goal

pub returns-in-Ok : goal.returns-in-Ok
returns-in-Ok g c rows store faults going =
    let e = c.commit_change.ensures in
    acts_done c.args.service.now rows store faults _ _ _ _ _ _ (plain_change c.args.change) c.commit_change.new.service _ _
    (plain_response c.args.response.now) c.commit_change.result e.service e.sizes e.kept e.goes e.obeys e.run going c.in-Ok.is
    c.answer.ensures

pub returns-in-Err-Failed : goal.returns-in-Err-Failed
returns-in-Err-Failed g c rows store faults going =
    let e = c.commit_change.ensures in
    acts_failed c.args.service.now rows store faults _ _ _ _ _ _ (plain_change c.args.change) c.commit_change.new.service _ _
    (plain_response c.args.response.now) c.commit_change.result e.service e.sizes e.kept e.goes e.obeys e.run going
    (c.in-Err-Failed.is ∙ ap Err c.in-Err-Failed.field-0-is) c.answer_store_fault.ensures

pub returns-in-Err-OutOfMemory : goal.returns-in-Err-OutOfMemory
returns-in-Err-OutOfMemory g c rows store faults going =
    let e = c.commit_change.ensures in
    acts_unmade c.args.service.now rows store faults _ _ _ _ _ _ (plain_change c.args.change) c.commit_change.new.service _ _
    (plain_response c.args.response.now) c.commit_change.result e.service e.sizes e.kept e.goes e.obeys e.run going
    (c.in-Err-OutOfMemory.is ∙ ap Err c.in-Err-OutOfMemory.field-0-is) c.answer_out_of_memory.ensures
