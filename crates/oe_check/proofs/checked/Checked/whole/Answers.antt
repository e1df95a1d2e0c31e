use Rattle.std.proofs.Common.{◌&&◌, Some, sym, ap, ◌∙◌}
use Rattle.oe_requests.specs.PlainRequests.{plain_operation}
use Rattle.oe_check.specs.Reach.{is_spatial}
use Rattle.oe_check.proofs.WholeLemmas.{whole_always}
use Rattle.oe_check.proofs.checked.Checked.whole.Goals as goal

pub returns-then-is_wrap : goal.returns-then-is_wrap
returns-then-is_wrap c =
    whole_always c.args.self.now c.args.node _ (c.operation.ensures ∙ ap (λ o. Some (plain_operation o)) c.in-Convolve.is) c.args.along c.is_spatial.result
    (λ shapes.
    ap (λ b. b && is_spatial c.args.along) (sym c.is_wrap.ensures ∙ c.if-is_wrap.true) ∙ sym c.is_spatial.ensures)

pub returns-else-is_wrap : goal.returns-else-is_wrap
returns-else-is_wrap c =
    whole_always c.args.self.now c.args.node _ (c.operation.ensures ∙ ap (λ o. Some (plain_operation o)) c.in-Convolve.is) c.args.along c.is_wrap.result
    (λ shapes. ap (λ b. b && is_spatial c.args.along) (sym c.is_wrap.ensures ∙ c.if-is_wrap.false) ∙ sym c.if-is_wrap.false)
