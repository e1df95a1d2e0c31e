use Rattle.std.proofs.Common.{map, sym, ap, ◌∙◌}
use Rattle.oe_dims.specs.Dimensions.{all_differ}
use Rattle.oe_dims.specs.declared.text.Text.{Text}
use Rattle.oe_graph.specs.declared.tree.Arg.{Arg}
use Rattle.oe_requests.proofs.NameLemmas.{differ_stop, differ_next}
use Rattle.oe_requests.proofs.parameter_box.names_differ.Goals as goal

pub returns-then-is_named : goal.returns-then-is_named
returns-then-is_named c =
    sym (c.loop-first.invariant
    ∙ (ap (λ xs. all_differ (map (λ m. m.0) xs)) c.in-Some.ensures.cases.0
    ∙ differ_stop (λ (m : Text × Arg). m.0) c.in-Some.first.now c.in-Some.others.now (sym c.is_named.ensures ∙ c.if-is_named.true)))

pub loop-first-preserved : goal.loop-first-preserved
loop-first-preserved c =
    c.loop-first.invariant
    ∙ (ap (λ xs. all_differ (map (λ m. m.0) xs)) c.in-Some.ensures.cases.0
    ∙ differ_next (λ (m : Text × Arg). m.0) c.in-Some.first.now c.in-Some.others.now (sym c.is_named.ensures ∙ c.if-is_named.false))
