use Rattle.std.proofs.Common.{sym, ◌∙◌}
use Rattle.oe_graph.proofs.Views.{not_only, is_only}
use Rattle.oe_graph.proofs.build.only_member.Goals as goal

pub returns-then-len-ne1 : goal.returns-then-len-ne1
returns-then-len-ne1 c = not_only c.args.members.now.entries (λ one. c.if-len-ne1.true (c.len.ensures.len ∙ one))

pub returns : goal.returns
returns c =
    is_only c.args.members.now.entries _ _ c.as_str.result.now
    (sym c.len.ensures.len ∙ c.if-len-ne1.false) c.in_ok-name.ensures.first c.as_str.ensures.value
