use Rattle.std.proofs.Common.{Some, sym, ap, ◌∙◌, subst}
use Rattle.std.proofs.lemmas.Option.{IfSome_then}
use Rattle.oe_requests.specs.PlainRequests.{plain_cube_request}
use Rattle.oe_meanings.specs.Results.{IsResultShape}
use Rattle.oe_meanings.proofs.ResultLemmas.{valid_within}
use Rattle.oe_check.proofs.shape_shared.shape_left.Goals as goal

pub returns-then-leaves_labels : goal.returns-then-leaves_labels
returns-then-leaves_labels c =
    let one = c.args.one.shape.now in
    let left = c.leaves_labels.ensures.left c.if-leaves_labels.true in
    IfSome_then c.kept_of.result c.kept_of.ensures (λ kept same.
    subst (IsResultShape (plain_cube_request c.args.request.now) one c.args.two.shape.now)
    (valid_within one c.leaves_labels.ensures.valid ∙ ap Some (sym same)) left)
