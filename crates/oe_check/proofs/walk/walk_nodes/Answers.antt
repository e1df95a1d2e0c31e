use Rattle.std.proofs.Common.{◌≡◌, ◌<◌, ◌≤◌, length, sym, subst, ◌∙◌, arith}
use Rattle.std.specs.Prelude.{slice_index}
use Rattle.oe_dims.specs.Plain.{plain_rows}
use Rattle.oe_graph.specs.Plain.{plain_nodes}
use Rattle.oe_graph.specs.Printed.{node_count}
use Rattle.oe_graph.proofs.SortedWalkLemmas.{step_below, step_within, walked_first, walked_last, walked_next}
use Rattle.oe_graph.proofs.StateLemmas.{all_unseen, all_unseen_many}
use Rattle.oe_expr.proofs.StateLemmas.{count_plain}
use Rattle.oe_check.proofs.WalkLemmas.{walked_none, checked_seen}
use Rattle.oe_check.proofs.walk.walk_nodes.Goals as goal

pub loop-index-init : goal.loop-index-init
loop-index-init c =
    let nodes = plain_nodes c.args.nodes.now.items in
    let start = c.in_ok-unseen_states.ensures in
    let count = count_plain c.args.nodes.now.items in
    let given = c.len.ensures in
    let counted : c.len.result ≡ node_count nodes = omega arith in
    let unseen = all_unseen _ c.len.result start in
    let long = all_unseen_many _ c.len.result start ∙ counted in
    (walked_first nodes c.args.sorted.now _ long unseen, walked_none (plain_rows c.args.dims.now) nodes c.requires.resolved _ unseen)

pub visit-requires-clause-within : goal.visit-requires-clause-within
visit-requires-clause-within c =
    subst (λ count. slice_index c.args.sorted.now c.loop-index.index-index < count) (count_plain c.args.nodes.now.items)
    (step_within (plain_nodes c.args.nodes.now.items) c.args.sorted.now c.requires.sorted c.loop-index.index-index
    c.loop-index.walk.states.items c.loop-index.invariant.0 c.loop-index-test.true)

pub visit-requires-clause-states : goal.visit-requires-clause-states
visit-requires-clause-states c = c.loop-index.invariant.0.as_many ∙ count_plain c.args.nodes.now.items

pub visit-requires-clause-unseen : goal.visit-requires-clause-unseen
visit-requires-clause-unseen c = c.loop-index.invariant.0.unseen c.loop-index.index-index (omega arith) c.loop-index-test.true

pub visit-requires-clause-below : goal.visit-requires-clause-below
visit-requires-clause-below c =
    step_below (plain_nodes c.args.nodes.now.items) c.args.sorted.now c.requires.sorted c.loop-index.index-index
    c.loop-index.walk.states.items c.loop-index.invariant.0 c.loop-index-test.true

pub visit-requires-clause-walked : goal.visit-requires-clause-walked
visit-requires-clause-walked c = c.loop-index.invariant.1

pub loop-index-preserved : goal.loop-index-preserved
loop-index-preserved c =
    let is = c.in_ok-visit.ensures in (
      walked_next (plain_nodes c.args.nodes.now.items) c.args.sorted.now c.requires.sorted c.loop-index.index-index
          c.loop-index.walk.states.items c.loop-index.invariant.0 c.loop-index-test.true c.visit.new.walk.states.items
          (is.states ∙ sym (count_plain c.args.nodes.now.items)) is.step,
      is.walked,
    )

pub returns-clause-states : goal.returns-clause-states
returns-clause-states c = c.loop-index.invariant.0.as_many ∙ count_plain c.args.nodes.now.items

pub returns-clause-checked : goal.returns-clause-checked
returns-clause-checked c =
    let nodes = plain_nodes c.args.nodes.now.items in
    let states = c.loop-index.walk.states.items in
    let r = c.loop-index.invariant in
    let all : length c.args.sorted.now ≤ c.loop-index.index-index = omega (arith, c.loop-index-test.false) in
    checked_seen (plain_rows c.args.dims.now) nodes c.requires.resolved states c.loop-index.walk.found r.0.as_many
    (walked_last nodes c.args.sorted.now c.requires.sorted c.loop-index.index-index states r.0 all) r.1
