use Rattle.std.proofs.Common.{◌≡◌, ◌<◌, ℕ, true, false, List, Some, length, get_or, sym, ap, ◌∙◌, subst, arith, rules}
use Rattle.oe_dims.specs.Plain.{plain_rows}
use Rattle.oe_expr.proofs.StateLemmas.{count_plain}
use Rattle.oe_graph.proofs.ResolvedLemmas.{SomeNode, node_below}
use Rattle.oe_graph.proofs.StateLemmas.{faulty_among, faulty_known, link_within, one_changes, read_sound, seen_below, sound_known, within_links}
use Rattle.oe_graph.specs.Faults.{least}
use Rattle.oe_graph.specs.Indices.{indices_named}
use Rattle.oe_graph.specs.Plain.{plain_node, plain_nodes}
use Rattle.oe_graph.specs.References.{references_named}
use Rattle.oe_graph.specs.States.{IsStep}
use Rattle.oe_graph.specs.declared.node_state.NodeState.TheVariants.{Faulty, Sound}
use Rattle.oe_graph.specs.declared.tree.Node.{Node}
use Rattle.oe_meanings.specs.Graphs.{outline_at}
use Rattle.oe_check.specs.Walked.{IsWalked, State}
use Rattle.oe_check.specs.declared.walk.Verdict.TheVariants as verdict
use Rattle.oe_check.proofs.LinkLemmas.{node_item, node_read}
use Rattle.oe_check.proofs.WalkLemmas.{all_known, read_verdict, walked_below, walked_faulty, walked_sound}
use Rattle.oe_check.proofs.walk.visit.Goals as goal

node_here : (nodes : List Node) (index : ℕ) → index < length nodes → SomeNode (plain_nodes nodes) index
node_here nodes index within = node_below (plain_nodes nodes) index (let count = count_plain nodes in omega arith)

pub index-requires : goal.index-requires
index-requires c =
    let within = within_links c.args.nodes.now.items c.args.links.now.items c.args.index c.requires.links c.requires.within in
    omega arith

pub are_sound-requires : goal.are_sound-requires
are_sound-requires c =
    let nodes = c.args.nodes.now.items in
    let links = c.args.links.now.items in
    let link = c.index.result.now in
    let within = within_links nodes links c.args.index c.requires.links c.requires.within in
    let many : length c.deref-2.result.now ≡ length c.args.walk.now.states.items = ap length c.deref-2.ensures.value in
    let count = count_plain nodes in
    subst (λ (xs : List ℕ). (k : ℕ) → k < length xs → get_or xs k 0 < length c.deref-2.result.now) (sym c.deref.ensures.value)
    (λ k below.
    let here = link_within (plain_nodes nodes) links c.args.index link c.requires.links within c.index.ensures k below in
    omega (arith, c.requires.states))

pub returns-then-not-are_sound-clause-walked : goal.returns-then-not-are_sound-clause-walked
returns-then-not-are_sound-clause-walked c =
    let rows = plain_rows c.args.dims.now in
    let nodes = c.args.nodes.now.items in
    let links = c.args.links.now.items in
    let states = c.args.walk.now.states.items in
    let found = c.args.walk.now.found in
    let node = node_here nodes c.args.index c.requires.within in
    let within = within_links nodes links c.args.index c.requires.links c.requires.within in
    let inside : c.args.index < length states = omega (arith, c.requires.states, c.requires.within) in
    let not : c.are_sound.result ≡ false = search rules in
    let known = read_sound (plain_nodes nodes) links c.args.index node.node c.index.result.now states c.deref-2.result.now
    c.deref.result.now c.are_sound.result c.requires.links within c.index.ensures node.is_there c.deref.ensures.value c.deref-2.ensures.value
    c.are_sound.ensures in
    let faulty = faulty_among states (indices_named (plain_nodes nodes) (references_named node.node.arguments)) (known ∙ not)
    (seen_below (plain_nodes nodes) states c.args.index node.node node.is_there c.requires.below) in
    subst (λ (ss : List State). IsWalked rows (plain_nodes nodes) ss found) (sym c.set_state.ensures)
    (walked_below rows (plain_nodes nodes) c.requires.resolved states found c.requires.walked c.args.index node.node node.is_there inside faulty)

pub returns-then-not-are_sound-clause-step : goal.returns-then-not-are_sound-clause-step
returns-then-not-are_sound-clause-step c =
    let nodes = plain_nodes c.args.nodes.now.items in
    let states = c.args.walk.now.states.items in
    let inside : c.args.index < length states = omega (arith, c.requires.states, c.requires.within) in
    subst (λ (ss : List State). IsStep c.args.index states ss) (sym c.set_state.ensures)
    (one_changes states c.args.index Faulty inside faulty_known)

pub judge_node-requires-clause-node : goal.judge_node-requires-clause-node
judge_node-requires-clause-node c =
    node_item c.deref-3.result.now c.args.nodes.now.items c.args.index c.index-2.result.now (sym c.deref-3.ensures.value)
    c.requires.within c.index-2.ensures

pub returns-in-Stands-clause-walked : goal.returns-in-Stands-clause-walked
returns-in-Stands-clause-walked c =
    let rows = plain_rows c.args.dims.now in
    let ns = c.args.nodes.now.items in
    let nodes = plain_nodes ns in
    let links = c.args.links.now.items in
    let states = c.args.walk.now.states.items in
    let found = c.args.walk.now.found in
    let n = plain_node c.index-2.result.now in
    let at = node_read ns c.args.index c.index-2.result.now c.requires.within c.index-2.ensures in
    let within = within_links ns links c.args.index c.requires.links c.requires.within in
    let inside : c.args.index < length states = omega (arith, c.requires.states, c.requires.within) in
    let yes : c.are_sound.result ≡ true = search rules in
    let known = read_sound nodes links c.args.index n c.index.result.now states c.deref-2.result.now c.deref.result.now
    c.are_sound.result c.requires.links within c.index.ensures at c.deref.ensures.value c.deref-2.ensures.value c.are_sound.ensures
    ∙ yes in
    let fault = c.in-Stands.fault in
    let judged = read_verdict rows ns c.deref-3.result.now states c.deref-4.result.now n c.in_ok-verdict.verdict (verdict.Stands fault)
    c.deref-3.ensures.value c.deref-4.ensures.value c.in-Stands.is c.in_ok-verdict.ensures
    (outline_at rows nodes) (all_known rows nodes c.requires.resolved states found c.requires.walked c.args.index n at known) in
    subst (IsWalked rows nodes c.set_state-in-Stands.new.states.items) (sym c.note_fault.ensures)
    (subst (λ (ss : List State). IsWalked rows nodes ss (least found (Some fault))) (sym c.set_state-in-Stands.ensures)
    (walked_faulty rows nodes c.requires.resolved states found c.requires.walked c.args.index n at inside known fault judged))

pub returns-in-Stands-clause-step : goal.returns-in-Stands-clause-step
returns-in-Stands-clause-step c =
    let nodes = plain_nodes c.args.nodes.now.items in
    let states = c.args.walk.now.states.items in
    let inside : c.args.index < length states = omega (arith, c.requires.states, c.requires.within) in
    subst (λ (ss : List State). IsStep c.args.index states ss) (sym c.set_state-in-Stands.ensures)
    (one_changes states c.args.index Faulty inside faulty_known)

pub returns-in-Sound-clause-walked : goal.returns-in-Sound-clause-walked
returns-in-Sound-clause-walked c =
    let rows = plain_rows c.args.dims.now in
    let ns = c.args.nodes.now.items in
    let nodes = plain_nodes ns in
    let links = c.args.links.now.items in
    let states = c.args.walk.now.states.items in
    let found = c.args.walk.now.found in
    let n = plain_node c.index-2.result.now in
    let at = node_read ns c.args.index c.index-2.result.now c.requires.within c.index-2.ensures in
    let within = within_links ns links c.args.index c.requires.links c.requires.within in
    let inside : c.args.index < length states = omega (arith, c.requires.states, c.requires.within) in
    let yes : c.are_sound.result ≡ true = search rules in
    let known = read_sound nodes links c.args.index n c.index.result.now states c.deref-2.result.now c.deref.result.now
    c.are_sound.result c.requires.links within c.index.ensures at c.deref.ensures.value c.deref-2.ensures.value c.are_sound.ensures
    ∙ yes in
    let kept = c.in-Sound.node in
    let judged = read_verdict rows ns c.deref-3.result.now states c.deref-4.result.now n c.in_ok-verdict.verdict (verdict.Sound kept)
    c.deref-3.ensures.value c.deref-4.ensures.value c.in-Sound.is c.in_ok-verdict.ensures
    (outline_at rows nodes) (all_known rows nodes c.requires.resolved states found c.requires.walked c.args.index n at known) in
    subst (λ (ss : List State). IsWalked rows nodes ss found) (sym c.set_state-in-Sound.ensures)
    (walked_sound rows nodes c.requires.resolved states found c.requires.walked c.args.index n at inside known kept judged)

pub returns-in-Sound-clause-step : goal.returns-in-Sound-clause-step
returns-in-Sound-clause-step c =
    let nodes = plain_nodes c.args.nodes.now.items in
    let states = c.args.walk.now.states.items in
    let inside : c.args.index < length states = omega (arith, c.requires.states, c.requires.within) in
    subst (λ (ss : List State). IsStep c.args.index states ss) (sym c.set_state-in-Sound.ensures)
    (one_changes states c.args.index (Sound c.in-Sound.node) inside (sound_known c.in-Sound.node))
