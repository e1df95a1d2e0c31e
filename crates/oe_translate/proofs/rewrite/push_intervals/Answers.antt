use Rattle.oe_translate.proofs.rewrite.push_intervals.Goals as goal

pub returns : goal.returns
returns c =
    let extents = c.in_ok-extents_arg.ensures in
    let one = c.in_ok-push_argument.ensures in
    let labels = c.in_ok-labels_arg.ensures in
    let two = c.in_ok-push_argument-2.ensures in
    cc
