use Rattle.std.proofs.Common.{◌≡◌, length, sym, ap, ◌∙◌, rules, arith}
use Rattle.std.proofs.lemmas.Bool.{false≢true}
use Rattle.oe_order.specs.Graph.{graph_of}
use Rattle.oe_order.specs.Sorted.{AreAllSorted}
use Rattle.oe_order.proofs.Graphs.{length-graph_of}
use Rattle.oe_order.proofs.Sorting.{AreAllSorted-from, all_listed, all_marked}
use Rattle.oe_order.proofs.listing.sort.Goals as goal

pub park_all-requires-clause-queue : goal.park_all-requires-clause-queue
park_all-requires-clause-queue c =
    c.in_ok-queue.ensures.queue (graph_of c.args.nodes.now)
    (omega (arith, length-graph_of c.args.nodes.now, ap length c.in_ok-queue.ensures.members, c.in_ok-members.ensures.len, c.in_ok-members.members.ok.0))

pub append_ready-requires-clause-loads : goal.append_ready-requires-clause-loads
append_ready-requires-clause-loads c = λ n m e. absurd (false≢true (sym (c.requires.no_loads n) ∙ e))

pub returns-clause-sorted : goal.returns-clause-sorted
returns-clause-sorted c =
    let nodes = graph_of c.args.nodes.now in
    let size = length-graph_of c.args.nodes.now in
    let ms = c.park_all.new.self.members.items in
    let p = c.in_ok-append_ready.ensures in
    let given : ms ≡ c.in_ok-members.members.items = c.in_ok-park_all.ensures.members ∙ c.in_ok-queue.ensures.members in
    let long : length ms ≡ length nodes = omega (arith, ap length given, size, c.in_ok-members.ensures.len, c.in_ok-members.members.ok.0) in
    AreAllSorted-from nodes ms c.append_ready.new.self.steps.items c.requires.no_loads long
    (λ n below. all_marked _ ms (given ∙ c.in_ok-members.ensures.items_if_clones_equal (λ y h. search rules)) n (omega (arith, below, long))) p.partial p.none

pub returns-clause-all : goal.returns-clause-all
returns-clause-all c = λ acyclic n below.
    let nodes = graph_of c.args.nodes.now in
    let size = length-graph_of c.args.nodes.now in
    let ms = c.park_all.new.self.members.items in
    let p = c.in_ok-append_ready.ensures in
    let given : ms ≡ c.in_ok-members.members.items = c.in_ok-park_all.ensures.members ∙ c.in_ok-queue.ensures.members in
    let long : length ms ≡ length nodes = omega (arith, ap length given, size, c.in_ok-members.ensures.len, c.in_ok-members.members.ok.0) in
    let sorted : AreAllSorted nodes c.append_ready.new.self.steps.items =
    AreAllSorted-from nodes ms c.append_ready.new.self.steps.items c.requires.no_loads long
    (λ k here. all_marked _ ms (given ∙ c.in_ok-members.ensures.items_if_clones_equal (λ y h. search rules)) k (omega (arith, here, long))) p.partial p.none in
    all_listed nodes c.append_ready.new.self.steps.items acyclic c.requires.named sorted n (omega (arith, below, size))
