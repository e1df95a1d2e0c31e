use Rattle.std.proofs.Common.{◌∙◌}
use Rattle.std.proofs.lemmas.Result.{IfOk-weaker}
use Rattle.serde_json.specs.View.{view}
use Rattle.oe_pages.proofs.PageLemmas.{page_seen}
use Rattle.oe_pages.proofs.pages.page_of.Goals as goal

pub returns : goal.returns
returns c =
    IfOk-weaker c.with_part.result _ _
    (λ v is. is ∙ page_seen c.args.name.now c.args.base.now c.args.path.now c.args.asked (view c.args.body)
    (view c.in_ok-links.links) c.items_in-items.result.now c.part_of.result.now c.in_ok-part.part.items
    c.items_in-items.ensures c.part_of.ensures c.in_ok-part.ensures c.in_ok-links.ensures)
    c.with_part.ensures
