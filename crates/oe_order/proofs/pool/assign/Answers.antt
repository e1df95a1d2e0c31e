use Rattle.std.proofs.Common.{◌≡◌, ℕ, ◌+◌, ◌-◌, ◌<◌, max, true, eqb, List, length, get_or, refl, sym, ap, ◌∙◌, inl, arith}
use Rattle.std.proofs.lemmas.Bool.{eqb-true, eq-eqb}
use Rattle.std.proofs.lemmas.List.{get_or_read}
use Rattle.oe_order.specs.Graph.{Node, graph_of, arguments, IsInRun, RefersWithin}
use Rattle.oe_order.specs.Order.{contains, IsListing}
use Rattle.oe_order.specs.Pool.{is_step_of}
use Rattle.oe_order.proofs.Graphs.{length-graph_of, arguments-graph_of}
use Rattle.oe_order.proofs.Lists.{count, bool_iff, contains-at, contains-index, contains-from, contains-to}
use Rattle.oe_order.proofs.Reach.{IsInRun-push, IsInRun-within, list_any-from, list_any-to}
use Rattle.oe_order.proofs.Lives.{Assigned-begin, Assigned-more, Assigned-width}
use Rattle.oe_order.proofs.pool.assign.Goals as goal

module _ (nodes : List Node) (last : ℕ) (steps : List ℕ) (listing : IsListing nodes last steps) where
  in_run_of : (n : ℕ) → contains steps n ≡ true → IsInRun nodes last n
  in_run_of n e = (listing.members n).0 (contains-to steps n e)

  within : RefersWithin nodes → last < length nodes → (n : ℕ) → contains steps n ≡ true → n < length nodes
  within w l n e = IsInRun-within nodes last n w l (in_run_of n e)

  has_last : contains steps last ≡ true
  has_last = contains-from steps last ((listing.members last).1 (inl refl))

  has_argument : (s a : ℕ) → s < length steps → contains (arguments nodes (get_or steps s 0)) a ≡ true → contains steps a ≡ true
  has_argument s a h e = contains-from steps a ((listing.members a).1
      (IsInRun-push nodes last (get_or steps s 0) a (in_run_of (get_or steps s 0) (contains-at steps s 0 h)) (contains-to (arguments nodes (get_or steps s 0)) a e)))

  -- the step of a node that stands is where it stands
  at_step : (by_node : List ℕ) → ((i : ℕ) → i < length steps → get_or by_node (get_or steps i 0) 0 ≡ i) → (n : ℕ) → contains steps n ≡ true →
      (get_or by_node n 0 < length steps) × (get_or steps (get_or by_node n 0) 0 ≡ n)
  at_step by_node is n e =
      let at = contains-index steps n e in
      let p : get_or by_node n 0 ≡ at.0 = ap (λ m. get_or by_node m 0) (sym at.2) ∙ is at.0 at.1 in
      (omega (arith, p, at.1), ap (λ k. get_or steps k 0) p ∙ at.2)

  named : (by_node : List ℕ) → ((i : ℕ) → i < length steps → get_or by_node (get_or steps i 0) 0 ≡ i) → (s i : ℕ) → s < length steps → i < length steps →
      is_step_of (arguments nodes (get_or steps s 0)) by_node i ≡ contains (arguments nodes (get_or steps s 0)) (get_or steps i 0)
  named by_node is s i h lt =
      let named = arguments nodes (get_or steps s 0) in
      bool_iff (is_step_of named by_node i) (contains named (get_or steps i 0))
      (λ e. let w = list_any-to (λ n. eqb (get_or by_node n 0) i) named e in
      let p = at_step by_node is w.0 (has_argument s w.0 h w.1) in
      let q : get_or steps i 0 ≡ w.0 = ap (λ k. get_or steps k 0) (sym (eqb-true (get_or by_node w.0 0) i w.2)) ∙ p.1 in
      ap (contains named) q ∙ w.1)
      (λ e. list_any-from (λ n. eqb (get_or by_node n 0) i) named (get_or steps i 0) e (eq-eqb (get_or by_node (get_or steps i 0) 0) i (is i lt)))

pub steps_by_node-requires-clause-within : goal.steps_by_node-requires-clause-within
steps_by_node-requires-clause-within c = λ n e.
    let w = within (graph_of c.args.nodes.now) c.args.last c.args.steps.now c.requires.listing c.requires.named (omega (arith, c.requires.last_named, length-graph_of c.args.nodes.now)) n e in
    omega (arith, w, length-graph_of c.args.nodes.now)

pub hold-requires-clause-step : goal.hold-requires-clause-step
hold-requires-clause-step c =
    let nodes = graph_of c.args.nodes.now in
    let by_node = c.in_ok-by_node.by_node.items in
    let p = at_step nodes c.args.last c.args.steps.now c.requires.listing by_node c.in_ok-by_node.ensures.by_node c.args.last (has_last nodes c.args.last c.args.steps.now c.requires.listing) in
    let is : c.index.result.now ≡ get_or by_node c.args.last 0 = get_or_read by_node c.args.last c.index.result.now (omega (arith, c.requires.last_named, c.in_ok-by_node.ensures.len)) c.index.ensures 0 in
    omega (arith, is, p.0, c.in_ok-pool.ensures.len)

pub loop-later-init : goal.loop-later-init
loop-later-init c =
    let nodes = graph_of c.args.nodes.now in
    let steps = c.args.steps.now in
    let by_node = c.in_ok-by_node.by_node.items in
    let p = at_step nodes c.args.last steps c.requires.listing by_node c.in_ok-by_node.ensures.by_node c.args.last (has_last nodes c.args.last steps c.requires.listing) in
    let is : c.index.result.now ≡ get_or by_node c.args.last 0 = get_or_read by_node c.args.last c.index.result.now (omega (arith, c.requires.last_named, c.in_ok-by_node.ensures.len)) c.index.ensures 0 in
    let e : length steps - 0 ≡ length steps = omega arith in
    rw e (Assigned-begin nodes c.args.last steps c.index.result.now c.in_ok-pool.pool.held.items _ _ _ _ c.in_ok-pool.ensures.len c.in_ok-pool.ensures.none (omega (arith, is, p.0)) (ap (λ k. get_or steps k 0) is ∙ p.1) c.requires.listing.once c.hold.ensures.pool c.hold.ensures.held (c.hold.ensures.count ∙ ap (λ m. max m (count c.hold.new.self.held.items)) c.in_ok-pool.ensures.count))

pub bounds-nodes-steps : goal.bounds-nodes-steps
bounds-nodes-steps c =
    let s = length c.args.steps.now - 1 - c.loop-later.later in
    let w = within (graph_of c.args.nodes.now) c.args.last c.args.steps.now c.requires.listing c.requires.named (omega (arith, c.requires.last_named, length-graph_of c.args.nodes.now)) (get_or c.args.steps.now s 0) (contains-at c.args.steps.now s 0 (omega arith)) in
    omega (arith, w, length-graph_of c.args.nodes.now)

pub hold_arguments-requires-clause-within : goal.hold_arguments-requires-clause-within
hold_arguments-requires-clause-within c = λ n e.
    let nodes = graph_of c.args.nodes.now in
    let steps = c.args.steps.now in
    let s = length steps - 1 - c.loop-later.later in
    let w = within nodes c.args.last steps c.requires.listing c.requires.named (omega (arith, c.requires.last_named, length-graph_of c.args.nodes.now)) in
    let in' : get_or steps s 0 < length nodes = w (get_or steps s 0) (contains-at steps s 0 (omega arith)) in
    let named : arguments nodes (get_or steps s 0) ≡ c.as_slice.result.now = arguments-graph_of c.args.nodes.now (get_or steps s 0) c.index-nodes-steps.result (omega (arith, length-graph_of c.args.nodes.now)) c.index-nodes-steps.is ∙ sym c.as_slice.ensures.value in
    let h : n < length nodes = w n (has_argument nodes c.args.last steps c.requires.listing s n (omega arith) (ap (λ ys. contains ys n) named ∙ e)) in
    omega (arith, h, length-graph_of c.args.nodes.now, c.in_ok-by_node.ensures.len, c.as_slice-in-loop-later.ensures.len, c.in_ok-by_node.by_node.ok.0)

pub loop-later-preserved : goal.loop-later-preserved
loop-later-preserved c =
    let nodes = graph_of c.args.nodes.now in
    let steps = c.args.steps.now in
    let s = length steps - 1 - c.loop-later.later in
    let h : s < length steps = omega arith in
    let before : length steps - c.loop-later.later ≡ s + 1 = omega arith in
    let after : length steps - (c.loop-later.later + 1) ≡ s = omega arith in
    let w = within nodes c.args.last steps c.requires.listing c.requires.named (omega (arith, c.requires.last_named, length-graph_of c.args.nodes.now)) in
    let in' : get_or steps s 0 < length nodes = w (get_or steps s 0) (contains-at steps s 0 h) in
    let args : arguments nodes (get_or steps s 0) ≡ c.as_slice.result.now = arguments-graph_of c.args.nodes.now (get_or steps s 0) c.index-nodes-steps.result (omega (arith, length-graph_of c.args.nodes.now)) c.index-nodes-steps.is ∙ sym c.as_slice.ensures.value in
    let by_node = c.in_ok-by_node.by_node.items in
    let e = c.hold-in-loop-later.ensures in
    let a = c.hold_arguments.ensures in
    let g = c.in_ok-give_up.ensures in
    rw after (Assigned-more nodes c.args.last steps s _ _ _ _ _ _ _ _ _ _ _ _ _ _ _ (is_step_of c.as_slice.result.now c.as_slice-in-loop-later.result.now) h (rw before at c.loop-later.invariant)
    e.held e.kept e.others e.count a.pool a.held
    (λ i lt. ap (λ ys. is_step_of ys c.as_slice-in-loop-later.result.now i) (sym args) ∙ ap (λ ps. is_step_of (arguments nodes (get_or steps s 0)) ps i) c.as_slice-in-loop-later.ensures.value ∙ named nodes c.args.last steps c.requires.listing by_node c.in_ok-by_node.ensures.by_node s i h lt)
    a.len a.kept a.later a.count g.pool g.held g.slots g.count)

pub returns-clause-width : goal.returns-clause-width
returns-clause-width c =
    let e : length c.args.steps.now - c.loop-later.later ≡ 0 = omega arith in
    Assigned-width (graph_of c.args.nodes.now) c.args.last c.args.steps.now _ _ _ _ (rw e at c.loop-later.invariant)
