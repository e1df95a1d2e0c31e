use Rattle.std.proofs.Common.{◌≡◌, ◌<◌, ℕ, true, false, List, Some, length, set, get_or, refl, sym, ap, subst, ◌∙◌, arith, rules}
use Rattle.std.proofs.lemmas.Option.{slice_get_read}
use Rattle.oe_graph.specs.Form.{node_name}
use Rattle.oe_graph.specs.Indices.{indices_named}
use Rattle.oe_graph.specs.Plain.{plain_node, plain_nodes}
use Rattle.oe_graph.specs.References.{references_named}
use Rattle.oe_graph.specs.declared.fault.Fault.{Fault}
use Rattle.oe_graph.specs.declared.tree.Node.{Node}
use Rattle.oe_graph.proofs.ResolvedLemmas.{node_below}
use Rattle.oe_graph.proofs.StateLemmas.{faulty_among, faulty_known, link_within, one_changes, read_sound, seen_below, sound_known, within_links}
use Rattle.oe_graph.specs.States.{IsNodeAt}
use Rattle.oe_graph.specs.declared.node_state.NodeState.TheVariants.{Faulty, Sound}
use Rattle.oe_expr.specs.Scope.{plain_scope}
use Rattle.oe_expr.specs.Walked.{IsWalked}
use Rattle.oe_expr.specs.declared.walk.Judged.{Judged}
use Rattle.oe_expr.specs.declared.walk.Verdict.TheVariants as verdict
use Rattle.oe_expr.proofs.StateLemmas.{count_plain, node_at_index, plain_id}
use Rattle.oe_expr.proofs.VerdictLemmas.{moved_verdict}
use Rattle.oe_expr.proofs.WalkLemmas.{walked_below, walked_faulty, walked_sound}
use Rattle.oe_expr.proofs.walk.visit.Goals as goal

-- the node at the index
at_index : (nodes : List Node) (index : ℕ) (node : Node) → index < length nodes → node ≡ get_or nodes index node → IsNodeAt (plain_nodes nodes) index (plain_node node)
at_index nodes index node within is = node_at_index nodes index node (slice_get_read nodes (length nodes) index node refl within is)

pub index-requires : goal.index-requires
index-requires c =
    let within = within_links c.args.nodes.now.items c.args.links.now.items c.args.index c.requires.links c.requires.next.within in
    omega arith

pub are_sound-requires : goal.are_sound-requires
are_sound-requires c =
    let nodes = c.args.nodes.now.items in
    let links = c.args.links.now.items in
    let link = c.index.result.now in
    let within = within_links nodes links c.args.index c.requires.links c.requires.next.within in
    let many : length c.deref-2.result.now ≡ length c.args.walk.now.states.items = ap length c.deref-2.ensures.value in
    let count = count_plain nodes in
    subst (λ (xs : List ℕ). (k : ℕ) → k < length xs → get_or xs k 0 < length c.deref-2.result.now) (sym c.deref.ensures.value)
    (λ k below.
    let here = link_within (plain_nodes nodes) links c.args.index link c.requires.links within c.index.ensures k below in
    omega (arith, c.requires.next.as_many))

pub returns-then-not-are_sound-clause-walked : goal.returns-then-not-are_sound-clause-walked
returns-then-not-are_sound-clause-walked c =
    let scope = plain_scope c.args.scope.now in
    let nodes = c.args.nodes.now.items in
    let states = c.args.walk.now.states.items in
    let within : c.args.index < length states = subst (λ n. c.args.index < n) (sym c.requires.next.as_many) c.requires.next.within in
    let node = node_below (plain_nodes nodes) c.args.index (let count = count_plain nodes in omega (arith, c.requires.next.within)) in
    let not : c.are_sound.result ≡ false = search rules in
    let known = read_sound (plain_nodes nodes) c.args.links.now.items c.args.index node.node c.index.result.now states c.deref-2.result.now
    c.deref.result.now c.are_sound.result c.requires.links (within_links nodes c.args.links.now.items c.args.index c.requires.links c.requires.next.within)
    c.index.ensures node.is_there c.deref.ensures.value c.deref-2.ensures.value c.are_sound.ensures in
    let faulty = faulty_among states (indices_named (plain_nodes nodes) (references_named node.node.arguments))
    (known ∙ not) (seen_below (plain_nodes nodes) states c.args.index node.node node.is_there c.requires.next.below) in
    walked_below scope c.args.context.now nodes c.args.path.now c.requires.resolved states c.args.walk.now.order.items c.args.walk.now.found c.requires.walked
    c.args.index node.node node.is_there within c.requires.next.unseen faulty

pub returns-then-not-are_sound-clause-step : goal.returns-then-not-are_sound-clause-step
returns-then-not-are_sound-clause-step c =
    let states = c.args.walk.now.states.items in
    one_changes states c.args.index Faulty (subst (λ n. c.args.index < n) (sym c.requires.next.as_many) c.requires.next.within) faulty_known

pub returns-in_ok-fault-in-Stands-clause-walked : goal.returns-in_ok-fault-in-Stands-clause-walked
returns-in_ok-fault-in-Stands-clause-walked c =
    let scope = plain_scope c.args.scope.now in
    let node = c.index-node.result.now in
    let nodes = c.args.nodes.now.items in
    let states = c.args.walk.now.states.items in
    let yes : c.are_sound.result ≡ true = search rules in
    let at = at_index nodes c.args.index node c.requires.next.within c.index-node.ensures in
    let known = read_sound (plain_nodes nodes) c.args.links.now.items c.args.index (plain_node node) c.index.result.now states c.deref-2.result.now
    c.deref.result.now c.are_sound.result c.requires.links (within_links nodes c.args.links.now.items c.args.index c.requires.links c.requires.next.within)
    c.index.ensures at c.deref.ensures.value c.deref-2.ensures.value c.are_sound.ensures ∙ yes in
    let fault = c.in_ok-fault-in-Stands.fault in
    let within : c.args.index < length states = subst (λ n. c.args.index < n) (sym c.requires.next.as_many) c.requires.next.within in
    let is = moved_verdict scope c.args.context.now (plain_node node) _ nodes _ states _ (verdict.Stands c.in-Stands.code)
    c.deref-3.ensures.value c.deref-4.ensures.value c.in-Stands.is c.in_ok-code.ensures in
    let judged = is ∙ ap Some (sym (ap (λ (f : Fault). f.code) c.in_ok-fault-in-Stands.ensures)) in
    let named : fault.node ≡ node_name c.args.path.now (plain_node node).id =
    ap (λ (f : Fault). f.node) c.in_ok-fault-in-Stands.ensures ∙ ap (node_name c.args.path.now) (c.as_str.ensures ∙ sym (plain_id node)) in
    subst (IsWalked scope c.args.context.now nodes c.args.path.now (set states c.args.index Faulty) c.args.walk.now.order.items) (sym c.note_fault.ensures)
    (walked_faulty scope c.args.context.now nodes c.args.path.now c.requires.resolved states c.args.walk.now.order.items c.args.walk.now.found c.requires.walked
    c.args.index (plain_node node) (at_index nodes c.args.index node c.requires.next.within c.index-node.ensures) within c.requires.next.unseen known fault judged named)

pub returns-in_ok-fault-in-Stands-clause-step : goal.returns-in_ok-fault-in-Stands-clause-step
returns-in_ok-fault-in-Stands-clause-step c =
    let states = c.args.walk.now.states.items in
    one_changes states c.args.index Faulty (subst (λ n. c.args.index < n) (sym c.requires.next.as_many) c.requires.next.within) faulty_known

pub returns-in_ok-push-in-Sound-clause-walked : goal.returns-in_ok-push-in-Sound-clause-walked
returns-in_ok-push-in-Sound-clause-walked c =
    let scope = plain_scope c.args.scope.now in
    let node = c.index-node.result.now in
    let nodes = c.args.nodes.now.items in
    let states = c.args.walk.now.states.items in
    let within : c.args.index < length states = subst (λ n. c.args.index < n) (sym c.requires.next.as_many) c.requires.next.within in
    let is = moved_verdict scope c.args.context.now (plain_node node) _ nodes _ states _ (verdict.Sound c.in-Sound.kind c.in-Sound.request)
    c.deref-3.ensures.value c.deref-4.ensures.value c.in-Sound.is c.in_ok-code.ensures in
    let yes : c.are_sound.result ≡ true = search rules in
    let at = at_index nodes c.args.index node c.requires.next.within c.index-node.ensures in
    let known = read_sound (plain_nodes nodes) c.args.links.now.items c.args.index (plain_node node) c.index.result.now states c.deref-2.result.now
    c.deref.result.now c.are_sound.result c.requires.links (within_links nodes c.args.links.now.items c.args.index c.requires.links c.requires.next.within)
    c.index.ensures at c.deref.ensures.value c.deref-2.ensures.value c.are_sound.ensures ∙ yes in
    let entry : Judged = record { node = c.args.index; request = c.in-Sound.request } in
    subst (λ order. IsWalked scope c.args.context.now nodes c.args.path.now (set states c.args.index (Sound c.in-Sound.kind)) order c.args.walk.now.found)
    (sym c.in_ok-push-in-Sound.ensures.items)
    (walked_sound scope c.args.context.now nodes c.args.path.now c.requires.resolved states c.args.walk.now.order.items c.args.walk.now.found c.requires.walked
    c.args.index (plain_node node) (at_index nodes c.args.index node c.requires.next.within c.index-node.ensures) within c.requires.next.unseen known c.in-Sound.kind entry refl is)

pub returns-in_ok-push-in-Sound-clause-step : goal.returns-in_ok-push-in-Sound-clause-step
returns-in_ok-push-in-Sound-clause-step c =
    let states = c.args.walk.now.states.items in
    one_changes states c.args.index (Sound c.in-Sound.kind) (subst (λ n. c.args.index < n) (sym c.requires.next.as_many) c.requires.next.within)
    (sound_known c.in-Sound.kind)
