use Rattle.std.proofs.Common.{◌≡◌, ◌≢◌, false, true, List, [], ◌∙◌, None, Contains, ap, map, refl, sym, subst, true≢false}
use Rattle.oe_graph.specs.Plain.{plain_graph, plain_stored}
use Rattle.oe_graph.specs.References.{each_node}
use Rattle.oe_graph.specs.Resolved.{IsResolved}
use Rattle.oe_graph.specs.Tree.{PlainGraph}
use Rattle.oe_graph.specs.declared.code.Code.TheVariants.{GraphTooLarge}
use Rattle.oe_calls.specs.Faults.{StandsWithStored}
use Rattle.oe_resolve.specs.Defaults.{graph_with_defaults}
use Rattle.oe_resolve.proofs.ExpansionLemmas.{resolved-without_fault}
use Rattle.oe_resolve.proofs.NoCallLemmas.{calls_none}
use Rattle.oe_resolve.proofs.RefusalLemmas.{of_calls_least, of_size_least, of_names_least, without_fault}
use Rattle.oe_resolve.proofs.resolve.Goals as goal

pub returns-in-Some-clause-refused : goal.returns-in-Some-clause-refused
returns-in-Some-clause-refused c =
    of_calls_least (map plain_stored c.args.stored.now) (plain_graph c.args.graph.now) c.in_ok-fault.field-0 c.in-Some.fault
    c.in_ok-fault.ensures c.in-Some.is

pub returns-then-branch-clause-refused : goal.returns-then-branch-clause-refused
returns-then-branch-clause-refused c =
    of_size_least (map plain_stored c.args.stored.now) (plain_graph c.args.graph.now) c.in_ok-fault.field-0 c.in_ok-fault.ensures
    c.in_default.is c.in_ok-of.field-0 c.in_ok-of.ensures (c.in_ok-is_too_large.ensures.0 c.if-branch.true)

pub returns-then-branch-2-clause-graph : goal.returns-then-branch-2-clause-graph
returns-then-branch-2-clause-graph c =
    c.in_ok-graph_with_defaults.ensures
    ∙ ap (λ (h : PlainGraph). graph_with_defaults h) (c.in_ok-is_expanded.ensures c.if-branch-2.true).graph

pub returns-then-branch-2-clause-without_fault : goal.returns-then-branch-2-clause-without_fault
returns-then-branch-2-clause-without_fault c =
    without_fault (map plain_stored c.args.stored.now) (plain_graph c.args.graph.now) c.in_ok-fault.field-0 c.in_ok-fault.ensures
    c.in_default.is (λ has. true≢false (sym (c.in_ok-is_too_large.ensures.1 has) ∙ c.if-branch.false))
    None (c.in_ok-is_expanded.ensures c.if-branch-2.true).fault refl

pub returns-then-branch-2-clause-resolved : goal.returns-then-branch-2-clause-resolved
returns-then-branch-2-clause-resolved c =
    let stored = map plain_stored c.args.stored.now in
    let g = plain_graph c.args.graph.now in
    let expansion = c.in_ok-is_expanded.ensures c.if-branch-2.true in
    subst (λ (h : PlainGraph). IsResolved h)
    (sym (c.in_ok-graph_with_defaults.ensures ∙ ap (λ (h : PlainGraph). graph_with_defaults h) expansion.graph))
    (resolved-without_fault stored g c.requires.stored_valid
    (without_fault stored g c.in_ok-fault.field-0 c.in_ok-fault.ensures
    c.in_default.is (λ has. true≢false (sym (c.in_ok-is_too_large.ensures.1 has) ∙ c.if-branch.false))
    None expansion.fault refl)
    expansion.none_left c.requires.graph_valid)

pub returns-in-Some-fault-clause-refused : goal.returns-in-Some-fault-clause-refused
returns-in-Some-fault-clause-refused c =
    of_names_least (map plain_stored c.args.stored.now) (plain_graph c.args.graph.now) c.in_ok-fault.field-0 c.in_ok-fault.ensures
    c.in_default.is (λ has. true≢false (sym (c.in_ok-is_too_large.ensures.1 has) ∙ c.if-branch.false))
    c.in_ok-expanded.fault c.in_ok-expanded.ensures.fault c.in-Some-fault.fault c.in-Some-fault.is

pub returns-clause-without_fault : goal.returns-clause-without_fault
returns-clause-without_fault c =
    without_fault (map plain_stored c.args.stored.now) (plain_graph c.args.graph.now) c.in_ok-fault.field-0 c.in_ok-fault.ensures
    c.in_default.is (λ has. true≢false (sym (c.in_ok-is_too_large.ensures.1 has) ∙ c.if-branch.false))
    c.in_ok-expanded.fault c.in_ok-expanded.ensures.fault c.in_default-fault.is

pub returns-clause-resolved : goal.returns-clause-resolved
returns-clause-resolved c =
    let stored = map plain_stored c.args.stored.now in
    let g = plain_graph c.args.graph.now in
    subst (λ (h : PlainGraph). IsResolved h)
    (sym (c.in_ok-graph_with_defaults-2.ensures ∙ ap (λ (h : PlainGraph). graph_with_defaults h) c.in_ok-expanded.ensures.graph))
    (resolved-without_fault stored g c.requires.stored_valid
    (without_fault stored g c.in_ok-fault.field-0 c.in_ok-fault.ensures
    c.in_default.is (λ has. true≢false (sym (c.in_ok-is_too_large.ensures.1 has) ∙ c.if-branch.false))
    c.in_ok-expanded.fault c.in_ok-expanded.ensures.fault c.in_default-fault.is)
    c.in_ok-expanded.ensures.none_left c.requires.graph_valid)

pub returns-then-branch-2-clause-calls_none : goal.returns-then-branch-2-clause-calls_none
returns-then-branch-2-clause-calls_none c n s has =
    let expansion = c.in_ok-is_expanded.ensures c.if-branch-2.true in
    calls_none (map plain_stored c.args.stored.now) (plain_graph c.args.graph.now) expansion.none_left n s
    (subst (λ (h : PlainGraph). Contains (each_node h.nodes) n)
    (c.in_ok-graph_with_defaults.ensures ∙ ap (λ (h : PlainGraph). graph_with_defaults h) expansion.graph) has)

pub returns-clause-calls_none : goal.returns-clause-calls_none
returns-clause-calls_none c n s has =
    calls_none (map plain_stored c.args.stored.now) (plain_graph c.args.graph.now) c.in_ok-expanded.ensures.none_left n s
    (subst (λ (h : PlainGraph). Contains (each_node h.nodes) n)
    (c.in_ok-graph_with_defaults-2.ensures ∙ ap (λ (h : PlainGraph). graph_with_defaults h) c.in_ok-expanded.ensures.graph) has)

pub returns-then-branch-2-clause-within : goal.returns-then-branch-2-clause-within
returns-then-branch-2-clause-within c = (c.in_ok-is_expanded.ensures c.if-branch-2.true).within

pub returns-clause-within : goal.returns-clause-within
returns-clause-within c = c.in_ok-expanded.ensures.within
