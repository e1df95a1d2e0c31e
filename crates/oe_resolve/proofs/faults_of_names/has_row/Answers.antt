use Rattle.std.proofs.Common.{◌≡◌, ◌||◌, ◌+◌, List, true, map, drop, sym, ap, ◌∙◌}
use Rattle.std.specs.List.{list_any}
use Rattle.oe_dims.specs.Names.{same_name}
use Rattle.oe_graph.specs.Plain.{plain_parameter}
use Rattle.oe_graph.specs.declared.catalogue.ParameterRow.{ParameterRow}
use Rattle.oe_calls.specs.Faults.{names_among}
use Rattle.oe_calls.proofs.Tests.{same_bytes, at_next}
use Rattle.oe_resolve.proofs.faults_of_names.has_row.Goals as goal

pub returns-then-eq : goal.returns-then-eq
returns-then-eq c =
    let is = rw c.as_str.ensures at c.eq.ensures ∙ same_bytes c.parameter-item.result.name c.args.name.now in
    let rest = (λ (ps : List ParameterRow). list_any (λ other. same_name other c.args.name.now) (names_among (map plain_parameter ps))) in
    sym (ap rest (sym c.deref-parameter-items.ensures.value) ∙ c.loop-parameter.invariant
    ∙ at_next rest c.deref-parameter-items.result.now c.loop-parameter.parameter-index c.parameter-item.result c.loop-parameter-test.true c.parameter-item.is
    ∙ ap (λ b. b || rest (drop (c.loop-parameter.parameter-index + 1) c.deref-parameter-items.result.now)) (sym is ∙ c.if-eq.true))

pub loop-parameter-preserved : goal.loop-parameter-preserved
loop-parameter-preserved c =
    let is = rw c.as_str.ensures at c.eq.ensures ∙ same_bytes c.parameter-item.result.name c.args.name.now in
    let rest = (λ (ps : List ParameterRow). list_any (λ other. same_name other c.args.name.now) (names_among (map plain_parameter ps))) in
    c.loop-parameter.invariant
    ∙ at_next rest c.deref-parameter-items.result.now c.loop-parameter.parameter-index c.parameter-item.result c.loop-parameter-test.true c.parameter-item.is
    ∙ ap (λ b. b || rest (drop (c.loop-parameter.parameter-index + 1) c.deref-parameter-items.result.now)) (sym is ∙ c.if-eq.false)
