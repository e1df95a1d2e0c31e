use Rattle.std.proofs.Common.{◌≡◌, ℕ, List, length, map, sym, ap, ◌∙◌, subst, arith}
use Rattle.std.specs.Prelude.{count_by}
use Rattle.oe_dims.specs.Names.{is_name_before}
use Rattle.oe_graph.specs.Printed.{node_count}
use Rattle.oe_order.specs.Turns.{AreTurns}
use Rattle.oe_plan.specs.Turns.{turn_name}
use Rattle.oe_plan.proofs.TurnsLemmas.{all_turns, are_turns, as_many, next_name, next_turn, none_yet}
use Rattle.oe_plan.proofs.turns.turns_of.Goals as goal

pub loop-node-init : goal.loop-node-init
loop-node-init c = (
  c.in_ok-turns.ensures.items ∙ sym (none_yet (turn_name c.args.checked.now)),
  c.in_ok-names.ensures.items ∙ sym (ap (map (turn_name c.args.checked.now)) c.in_ok-turns.ensures.items),
)

pub insert-requires : goal.insert-requires
insert-requires c =
    let l = c.loop-node in
    let many = as_many (turn_name c.args.checked.now) l.node c.count_before-place.result l.turns.items l.names.items l.invariant.0 l.invariant.1 in
    omega (arith, c.count_before-place.ensures.most, ap (λ (ns : List (List ℕ)). length ns) c.as_slice.ensures.value, many, l.turns.ok.0)

pub insert-requires-in-loop-node : goal.insert-requires-in-loop-node
insert-requires-in-loop-node c =
    omega (arith, c.count_before-place.ensures.most, ap (λ (ns : List (List ℕ)). length ns) c.as_slice.ensures.value, c.loop-node.names.ok.0)

pub loop-node-preserved : goal.loop-node-preserved
loop-node-preserved c =
    let l = c.loop-node in
    let name = turn_name c.args.checked.now in
    let counted : c.count_before-place.result ≡ count_by (λ other. is_name_before other (name l.node)) l.names.items =
    c.count_before-place.ensures.value
    ∙ (ap (λ (own : List ℕ). count_by (λ other. is_name_before other own) c.as_slice.result.now) c.in_ok-name.ensures
    ∙ ap (count_by (λ (other : List ℕ). is_name_before other (name l.node))) c.as_slice.ensures.value) in (
      next_turn name l.node c.count_before-place.result l.turns.items l.names.items l.invariant.0 l.invariant.1 _ counted
          c.in_ok-insert.ensures.items,
      next_name name l.node c.count_before-place.result l.turns.items l.names.items l.invariant.0 l.invariant.1 c.in_ok-name.name _ _
          c.in_ok-name.ensures c.in_ok-insert.ensures.items c.in_ok-insert-2.ensures.items,
    )

pub returns-clause-turns : goal.returns-clause-turns
returns-clause-turns c =
    let l = c.loop-node in
    let all : l.node ≡ node_count c.args.checked.now.nodes = omega (arith, c.nodes-node-end.ensures.value) in
    all_turns c.args.checked.now l.node l.turns.items all l.invariant.0

pub returns-clause-each : goal.returns-clause-each
returns-clause-each c =
    let l = c.loop-node in
    let all : l.node ≡ node_count c.args.checked.now.nodes = omega (arith, c.nodes-node-end.ensures.value) in
    subst (AreTurns (node_count c.args.checked.now.nodes)) (sym (all_turns c.args.checked.now l.node l.turns.items all l.invariant.0))
    (are_turns c.args.checked.now)
