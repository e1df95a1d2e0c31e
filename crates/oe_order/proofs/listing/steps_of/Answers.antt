use Rattle.std.proofs.Common.{◌≡◌, ℕ, ◌-◌, ◌<◌, ◌&&◌, Bool, true, false, List, length, get_or, sym, ap, ◌∙◌, subst, arith}
use Rattle.std.specs.List.{filter, range_with_len}
use Rattle.std.proofs.lemmas.List.Elements.{filter_agree}
use Rattle.oe_order.specs.Graph.{Node, graph_of, is_load, in_run, run_of}
use Rattle.oe_order.specs.Order.{contains, extend_order, loads_of, order_of}
use Rattle.oe_order.specs.Waiting.{marked_nodes}
use Rattle.oe_order.proofs.Graphs.{length-graph_of}
use Rattle.oe_order.proofs.Pools.{marked_within}
use Rattle.oe_order.proofs.Reach.{in_run-sound, in_run-complete}
use Rattle.oe_order.proofs.Nexts.{contains-filter, contains-marked_from}
use Rattle.oe_order.proofs.Steps.{IsListing-from}
use Rattle.oe_order.proofs.listing.steps_of.Goals as goal

run_of-marks : (nodes : List Node) (last : ℕ) (members : List Bool) → ((n : ℕ) → get_or members n false ≡ in_run nodes last n) → marked_nodes members (length nodes) ≡ run_of nodes last
unfolding run_of
run_of-marks nodes last members same = filter_agree (λ n. get_or members n false) (in_run nodes last) same (range_with_len 0 (length nodes))

order_of-marks : (nodes : List Node) (last : ℕ) (members : List Bool) (loads steps : List ℕ) → ((n : ℕ) → get_or members n false ≡ in_run nodes last n) →
    loads ≡ filter (is_load nodes) (marked_nodes members (length nodes)) → steps ≡ extend_order nodes (marked_nodes members (length nodes)) (length nodes - length loads) loads →
    steps ≡ order_of nodes last
unfolding order_of loads_of
order_of-marks nodes last members loads steps same l s =
    let run = run_of-marks nodes last members same in
    let e : loads ≡ filter (is_load nodes) (run_of nodes last) = l ∙ ap (filter (is_load nodes)) run in
    s ∙ ap (λ r. extend_order nodes r (length nodes - length loads) loads) run ∙ ap (λ ys. extend_order nodes (run_of nodes last) (length nodes - length ys) ys) e

load_stands : (nodes : List Node) (members : List Bool) (steps : List ℕ) (n : ℕ) → length members ≡ length nodes → steps ≡ filter (is_load nodes) (marked_nodes members (length nodes)) →
    get_or members n false ≡ true → is_load nodes n ≡ true → contains steps n ≡ true
load_stands nodes members steps n long is m l =
    ap (λ ys. contains ys n) is ∙ contains-filter (is_load nodes) (marked_nodes members (length nodes)) n
    ∙ both (contains (marked_nodes members (length nodes)) n) (is_load nodes n) (contains-marked_from members (length nodes) n (subst (λ k. n < k) long (marked_within members n m)) m) l
  where
    both : (a b : Bool) → a ≡ true → b ≡ true → a && b ≡ true
    both true b p q = q
    both false b p q = p

pub park_all-requires-clause-queue : goal.park_all-requires-clause-queue
park_all-requires-clause-queue c =
    c.in_ok-queue.ensures.queue (graph_of c.args.nodes.now)
    (omega (arith, length-graph_of c.args.nodes.now, ap length c.in_ok-queue.ensures.members, c.in_ok-members.ensures.len))

pub append_ready-requires-clause-loads : goal.append_ready-requires-clause-loads
append_ready-requires-clause-loads c = λ n m e.
    let nodes = graph_of c.args.nodes.now in
    let size = length-graph_of c.args.nodes.now in
    let ms = c.append_loads.new.self.members.items in
    let l = c.in_ok-append_loads.ensures in
    let l0 : c.park_all.new.self.members.items ≡ c.in_ok-members.members.items = c.in_ok-park_all.ensures.members ∙ c.in_ok-queue.ensures.members in
    let same : ms ≡ c.in_ok-members.members.items = l.members ∙ l0 in
    let loads : c.append_loads.new.self.steps.items ≡ filter (is_load nodes) (marked_nodes ms (length nodes)) =
    l.loads ∙ ap (λ xs. filter (is_load nodes) (marked_nodes xs (length nodes))) (sym l.members) in
    load_stands nodes ms c.append_loads.new.self.steps.items n (omega (arith, ap length same, c.in_ok-members.ensures.len, size)) loads m e

pub returns-clause-steps : goal.returns-clause-steps
returns-clause-steps c =
    let nodes = graph_of c.args.nodes.now in
    let size = length-graph_of c.args.nodes.now in
    let ms = c.append_loads.new.self.members.items in
    let l = c.in_ok-append_loads.ensures in
    let l0 : c.park_all.new.self.members.items ≡ c.in_ok-members.members.items = c.in_ok-park_all.ensures.members ∙ c.in_ok-queue.ensures.members in
    let same : ms ≡ c.in_ok-members.members.items = l.members ∙ l0 in
    let loads : c.append_loads.new.self.steps.items ≡ filter (is_load nodes) (marked_nodes ms (length nodes)) =
    l.loads ∙ ap (λ xs. filter (is_load nodes) (marked_nodes xs (length nodes))) (sym l.members) in
    let p = c.in_ok-append_ready.ensures in
    let marks : (n : ℕ) → get_or ms n false ≡ in_run nodes c.args.last n = λ n. ap (λ xs. get_or xs n false) same ∙ c.in_ok-members.ensures.marks n in
    order_of-marks nodes c.args.last ms c.append_loads.new.self.steps.items _ marks loads
    p.extended

pub returns-clause-listing : goal.returns-clause-listing
returns-clause-listing c =
    let nodes = graph_of c.args.nodes.now in
    let size = length-graph_of c.args.nodes.now in
    let ms = c.append_loads.new.self.members.items in
    let l = c.in_ok-append_loads.ensures in
    let l0 : c.park_all.new.self.members.items ≡ c.in_ok-members.members.items = c.in_ok-park_all.ensures.members ∙ c.in_ok-queue.ensures.members in
    let same : ms ≡ c.in_ok-members.members.items = l.members ∙ l0 in
    let p = c.in_ok-append_ready.ensures in
    let marks : (n : ℕ) → get_or ms n false ≡ in_run nodes c.args.last n = λ n. ap (λ xs. get_or xs n false) same ∙ c.in_ok-members.ensures.marks n in
    let named : c.args.last < length nodes = omega (arith, size, c.requires.last_named) in
    IsListing-from nodes c.args.last ms _ c.requires.acyclic c.requires.named named
    (λ n e. in_run-sound nodes c.args.last n (sym (marks n) ∙ e))
    (λ n r. marks n ∙ in_run-complete nodes c.args.last n c.requires.acyclic c.requires.named named r)
    p.partial p.none
