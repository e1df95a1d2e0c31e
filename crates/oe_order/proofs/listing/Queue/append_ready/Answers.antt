use Rattle.std.proofs.Common.{◌≡◌, ℕ, suc, ◌-◌, ◌++◌, ◌∷◌, eqb, Bool, false, List, [], Option, None, length, get_or, sym, ap, ◌∙◌, subst, arith}
use Rattle.std.specs.BinaryHeap.{heap_items}
use Rattle.std.specs.declared.cmp.Reverse.{Reverse}
use Rattle.std.proofs.lemmas.Bool.{or_left}
use Rattle.std.proofs.lemmas.List.{length_push, nil_from_length}
use Rattle.std.proofs.lemmas.List.Sums.{count_by-le-length}
use Rattle.oe_order.specs.Graph.{Node, graph_of}
use Rattle.oe_order.specs.Order.{contains, next_of, extend_order}
use Rattle.oe_order.specs.Waiting.{IsQueue, AllReleased, is_wanted, marked_nodes}
use Rattle.oe_order.proofs.Graphs.{length-graph_of}
use Rattle.oe_order.proofs.Lists.{contains-push}
use Rattle.oe_order.proofs.Kept.{ready_times}
use Rattle.oe_order.proofs.Queues.{IsQueue-with}
use Rattle.oe_order.proofs.Nexts.{extend_order-more, extend_order-done}
use Rattle.oe_order.proofs.Steps.{Next, next-pop, none_next}
use Rattle.oe_order.proofs.listing.Queue.append_ready.Invariants.{Appended}
use Rattle.oe_order.proofs.listing.Queue.append_ready.Goals as goal

module _ (nodes : List Node) (members0 members standing : List Bool) (steps0 steps : List ℕ) (first next : List (Option ℕ)) (passed : List ℕ) (ready : List (Reverse ℕ))
    (p : Appended nodes members0 members standing steps0 steps first next passed ready) where
  Appended-more : (r : Reverse ℕ) (after : List (Reverse ℕ)) (members2 standing2 : List Bool) (steps2 : List ℕ) (first2 next2 : List (Option ℕ)) (passed2 : List ℕ) (ready2 : List (Reverse ℕ)) →
      Next nodes members standing steps first next passed ready p.queue p.released r after →
      IsQueue nodes (is_wanted nodes members2 standing2) members2 standing2 steps2 first2 next2 passed2 ready2 → AllReleased standing2 first2 → members2 ≡ members → steps2 ≡ steps ++ r.0 ∷ [] →
      Appended nodes members0 members2 standing2 steps0 steps2 first2 next2 passed2 ready2
  Appended-more r after members2 standing2 steps2 first2 next2 passed2 ready2 n q l m t =
      let run = marked_nodes members (length nodes) in
      let left : length nodes - length steps ≡ suc (length nodes - length steps2) = omega (arith, ap length t, length_push steps r.0, n.room) in
      record {
        queue = q;
        released = l;
        same_members = m ∙ p.same_members;
        loads = λ k e d. ap (λ ys. contains ys k) t ∙ contains-push steps r.0 k ∙ or_left (contains steps k) (eqb r.0 k) (p.loads k (ap (λ ms. get_or ms k false) (sym m) ∙ e) d);
        extended = subst (λ ms. extend_order nodes (marked_nodes ms (length nodes)) (length nodes - length steps2) steps2 ≡ extend_order nodes (marked_nodes ms (length nodes)) (length nodes - length steps0) steps0) (sym m)
            (ap (extend_order nodes run (length nodes - length steps2)) t ∙ sym (extend_order-more nodes run steps (length nodes - length steps2) r.0 n.is_next)
            ∙ ap (λ k. extend_order nodes run k steps) (sym left) ∙ p.extended);
      }

  Appended-done : ((n : ℕ) → ready_times ready n ≡ 0) → next_of nodes (marked_nodes members0 (length nodes)) steps ≡ None
  Appended-done empty = subst (λ ms. next_of nodes (marked_nodes ms (length nodes)) steps ≡ None) p.same_members
      (none_next nodes members standing steps first next passed ready p.queue p.released p.loads empty)

  Appended-is : ((n : ℕ) → ready_times ready n ≡ 0) → steps ≡ extend_order nodes (marked_nodes members0 (length nodes)) (length nodes - length steps0) steps0
  Appended-is empty = subst (λ ms. steps ≡ extend_order nodes (marked_nodes ms (length nodes)) (length nodes - length steps0) steps0) p.same_members
      (sym (extend_order-done nodes (marked_nodes members (length nodes)) steps (length nodes - length steps) (none_next nodes members standing steps first next passed ready p.queue p.released p.loads empty)) ∙ p.extended)

pub append-requires-clause-next : goal.append-requires-clause-next
append-requires-clause-next c =
    let i = c.loop-least.invariant in
    let e = c.in-Some.ensures in
    let h = e.heap_order i.queue.keeping.least_first in
    let n = next-pop (graph_of c.args.nodes.now) _ _ _ _ _ _ _ i.queue i.released i.loads c.in-Some.least _ e.permutation h.0 h.1 in
    record {
      member = n.member;
      comes = n.comes;
      arguments_stand = λ free a has. n.arguments_stand a has;
      others = IsQueue-with (graph_of c.args.nodes.now) _ _ _ _ _ _ _ _ _ _ _ _ i.queue n.kept;
      released = i.released;
    }

pub loop-least-smaller : goal.loop-least-smaller
loop-least-smaller c =
    let i = c.loop-least.invariant in
    let e = c.in-Some.ensures in
    let h = e.heap_order i.queue.keeping.least_first in
    let n = next-pop (graph_of c.args.nodes.now) _ _ _ _ _ _ _ i.queue i.released i.loads c.in-Some.least _ e.permutation h.0 h.1 in
    omega (arith, n.room, length-graph_of c.args.nodes.now, ap length c.in_ok-append.ensures.steps, length_push c.loop-least.self.steps.items c.in-Some.least.0)

pub loop-least-preserved : goal.loop-least-preserved
loop-least-preserved c =
    let i = c.loop-least.invariant in
    let e = c.in-Some.ensures in
    let h = e.heap_order i.queue.keeping.least_first in
    let n = next-pop (graph_of c.args.nodes.now) _ _ _ _ _ _ _ i.queue i.released i.loads c.in-Some.least _ e.permutation h.0 h.1 in
    let p = c.in_ok-append.ensures in
    Appended-more (graph_of c.args.nodes.now) _ _ _ _ _ _ _ _ _ i c.in-Some.least _ _ _ _ _ _ _ _ n p.between.wanted p.between.released p.members p.steps

pub returns-clause-room : goal.returns-clause-room
returns-clause-room c =
    let q = c.loop-least.invariant.queue in
    omega (arith, q.marked.once, q.standing_len, length-graph_of c.args.nodes.now, count_by-le-length (λ (b : Bool). b) c.loop-least.self.standing.items)

pub returns-clause-none : goal.returns-clause-none
returns-clause-none c =
    let ready = heap_items c.loop-least.self.ready in
    let none : ready ≡ [] = nil_from_length ready (omega (arith, c.in_default.ensures.none, c.loop-least.self.ready.data.ok.0)) in
    Appended-done (graph_of c.args.nodes.now) _ _ _ _ _ _ _ _ _ c.loop-least.invariant (λ n. ap (λ rs. ready_times rs n) none)

pub returns-clause-extended : goal.returns-clause-extended
returns-clause-extended c =
    let ready = heap_items c.loop-least.self.ready in
    let none : ready ≡ [] = nil_from_length ready (omega (arith, c.in_default.ensures.none, c.loop-least.self.ready.data.ok.0)) in
    Appended-is (graph_of c.args.nodes.now) _ _ _ _ _ _ _ _ _ c.loop-least.invariant (λ n. ap (λ rs. ready_times rs n) none)
