use Rattle.std.proofs.Common.{List, ℕ, sym, ap, ◌∙◌}
use Rattle.oe_dims.proofs.OrderLemmas.{same_name-bytes_eq}
use Rattle.oe_graph.specs.Plain.{plain_named}
use Rattle.oe_graph.specs.References.{argument_named}
use Rattle.oe_graph.specs.declared.tree.Arg.{Arg}
use Rattle.oe_graph.proofs.ArgumentLemmas.{this_pair, other_pair}
use Rattle.oe_graph.proofs.named.argument_named.Goals as goal

pub returns-then-eq : goal.returns-then-eq
returns-then-eq c =
    let name = c.args.name.now in
    let xs : List (List ℕ × Arg) = c.deref-entry-items.result.now in
    let test = rw c.as_str.ensures at c.eq.ensures ∙ same_name-bytes_eq c.entry-item.result.0 name in
    sym (this_pair name xs c.loop-entry.entry-index c.entry-item.result c.loop-entry-test.true c.entry-item.is (sym test ∙ c.if-eq.true))
    ∙ (c.loop-entry.invariant ∙ ap (λ ys. argument_named name (plain_named ys)) c.deref-entry-items.ensures.value)

pub loop-entry-preserved : goal.loop-entry-preserved
loop-entry-preserved c =
    let name = c.args.name.now in
    let xs : List (List ℕ × Arg) = c.deref-entry-items.result.now in
    let test = rw c.as_str.ensures at c.eq.ensures ∙ same_name-bytes_eq c.entry-item.result.0 name in
    sym (other_pair name xs c.loop-entry.entry-index c.entry-item.result c.loop-entry-test.true c.entry-item.is (sym test ∙ c.if-eq.false))
    ∙ c.loop-entry.invariant
