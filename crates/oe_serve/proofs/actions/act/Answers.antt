use Rattle.std.proofs.Common.{◌≡◌, Some, refl}
use Rattle.oe_http.specs.Laws.{json_reply}
use Rattle.oe_http.specs.Replies.{plain_response}
use Rattle.oe_jobs.specs.Plain.{plain_book}
use Rattle.oe_routes.specs.Actions.{text_at}
use Rattle.oe_serve.proofs.Obeyed.{acts_estimate, acts_reply, reply_of_text}
use Rattle.oe_serve.proofs.actions.act.Goals as goal

pub returns-in-Answer : goal.returns-in-Answer
returns-in-Answer g c =
    rw c.in-Answer.is (acts_reply c.args.service.now _ _ _ _ _ _ _ _ _ _ (plain_response c.in-Answer.response)
    c.requires.service.valid c.requires.service.is_kept c.requires.service.going refl c.answer.ensures)

pub returns-in-RunNow : goal.returns-in-RunNow
returns-in-RunNow g c = rw c.in-RunNow.is (c.answer_result.ensures _ _ _ c.requires.service.is_kept)

pub returns-in-Estimate : goal.returns-in-Estimate
returns-in-Estimate g c =
    rw c.in-Estimate.is (acts_estimate c.args.service.now _ _ _ _ _ _ _ _ _ c.sizes.result c.in-Estimate.graphs.items
    c.deref.result.now c.requires.service.valid c.requires.service.is_kept c.requires.service.going c.sizes.ensures c.deref.ensures.value
    c.answer_estimate.ensures)

pub returns-in-SendAsset : goal.returns-in-SendAsset
returns-in-SendAsset g c =
    let book = c.book.ensures in
    let text = c.text_of-text.ensures in
    let str = c.as_str.ensures in
    let bytes = c.as_bytes.ensures.value in
    let is : text_at (plain_book c.args.service.now.book) c.in-SendAsset.job c.in-SendAsset.asset ≡ Some c.as_bytes.result.now =
    cc in
    rw c.in-SendAsset.is (acts_reply c.args.service.now _ _ _ _ _ _ _ _ _ _ (json_reply 200 c.as_bytes.result.now)
    c.requires.service.valid c.requires.service.is_kept c.requires.service.going (reply_of_text c.args.service.now.size c.args.service.now.workers _ c.as_bytes.result.now is) c.answer_text.ensures)
