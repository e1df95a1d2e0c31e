use Rattle.std.proofs.Common.{List, ℕ, Bor, ap, ◌∙◌}
use Rattle.oe_graph.specs.Plain.{plain_named}
use Rattle.oe_calls.specs.Substituted.{inside}
use Rattle.oe_calls.specs.PlainValues.{names_behind}
use Rattle.oe_calls.specs.declared.values.Values.{Values}
use Rattle.oe_calls.proofs.ValueLemmas.{inside_seen}
use Rattle.oe_calls.proofs.values.inside.Goals as goal

pub returns-clause-seen : goal.returns-clause-seen
returns-clause-seen c =
    let v : Values = c.args.values.now in
    let given = plain_named v.given.now.items in
    ap (λ (names : List (Bor (List ℕ))). inside (names_behind names) given) c.in_ok-hidden.ensures
    ∙ inside_seen c.args.own.now v.hidden.items given v.in_callback
