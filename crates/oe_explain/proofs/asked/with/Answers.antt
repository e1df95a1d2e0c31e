use Rattle.std.proofs.Common.{ap, ◌∙◌}
use Rattle.oe_graph.specs.Plain.{plain_arg, plain_named}
use Rattle.oe_explain.proofs.AskedLemmas.{one_more}
use Rattle.oe_explain.specs.Asked.{with_argument}
use Rattle.oe_explain.proofs.asked.with.Goals as goal

pub returns : goal.returns
returns c =
    ap plain_named c.in_ok-push.ensures.items
    ∙ (one_more c.args.arguments.items c.in_ok-of.field-0 c.args.arg
    ∙ ap (λ n. with_argument (plain_named c.args.arguments.items) n (plain_arg c.args.arg)) c.in_ok-of.ensures)
