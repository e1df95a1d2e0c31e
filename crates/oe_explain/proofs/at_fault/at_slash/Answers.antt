use Rattle.std.proofs.Common.{◌∙◌, ap, sym, arith}
use Rattle.std.proofs.lemmas.Str.Pattern.{split_parts}
use Rattle.oe_explain.proofs.NodeLemmas.{first_slash, no_slash}
use Rattle.oe_explain.specs.AtFault.{at_slash}
use Rattle.oe_explain.proofs.at_fault.at_slash.Goals as goal

pub returns-in-Some : goal.returns-in-Some
returns-in-Some c =
    let parts = rw c.in-Some.is at (split_parts 47 c.args.name.now c.split_once.result c.split_once.ensures.cases (omega arith)) in
    sym (ap at_slash parts.0 ∙ first_slash c.in-Some.front.now c.in-Some.back.now parts.1)

pub returns-in-None : goal.returns-in-None
returns-in-None c =
    sym (no_slash c.args.name.now
    (rw c.in-None.is at (split_parts 47 c.args.name.now c.split_once.result c.split_once.ensures.cases (omega arith))))
