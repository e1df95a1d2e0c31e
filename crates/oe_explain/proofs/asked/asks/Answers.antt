use Rattle.std.proofs.Common.{is_some, sym, ap, ◌∙◌}
use Rattle.oe_requests.specs.PlainRequests.{plain_cube_request}
use Rattle.oe_requests.specs.Requests.{cube_request_at}
use Rattle.oe_explain.proofs.Tests.{map_some}
use Rattle.oe_explain.proofs.asked.asks.Goals as goal

pub returns : goal.returns
returns c =
    c.is_some.ensures
    ∙ (sym (map_some plain_cube_request c.in_ok-request.request)
    ∙ ap is_some (c.in_ok-request.ensures ∙ ap cube_request_at c.in_ok-node.ensures))
