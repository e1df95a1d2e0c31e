use Rattle.oe_explain.proofs.Explained.{form_said}
use Rattle.oe_explain.proofs.lines.explain_form.Goals as goal

pub returns : goal.returns
returns c =
    form_said (λ text. text.items) c.args.fault.now c.in_ok-place.place c.lines_of.result c.in_ok-place.ensures c.lines_of.ensures
