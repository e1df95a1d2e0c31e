use Rattle.std.proofs.Common.{◌≡◌, ℕ, ◌+◌, ◌<◌, ◌&&◌, ◌++◌, ◌∷◌, not, eqb, Bool, true, false, List, [], Option, length, get_or, sym, ap, ◌∙◌, inl, inr, ◌⊎◌, arith}
use Rattle.std.specs.declared.cmp.Reverse.{Reverse}
use Rattle.std.specs.List.{filter}
use Rattle.std.proofs.lemmas.Bool.{false≢true, false_from_ne_true, and_parts}
use Rattle.std.proofs.lemmas.List.{get_or_read}
use Rattle.oe_order.specs.Graph.{Node, graph_of, is_load}
use Rattle.oe_order.specs.Order.{contains}
use Rattle.oe_order.specs.Waiting.{IsQueue, AllReleased, is_wanted, marked_nodes}
use Rattle.oe_order.specs.declared.Links.{Links}
use Rattle.oe_order.proofs.Graphs.{length-graph_of, is_load-graph_of}
use Rattle.oe_order.proofs.Kept.{IsKept-same}
use Rattle.oe_order.proofs.Queues.{IsQueue-with, is_wanted-load, without_load}
use Rattle.oe_order.proofs.Nexts.{contains-filter, contains-marked_to, loads-more, loads-same}
use Rattle.oe_order.proofs.listing.Queue.append_loads.Invariants.{Loads}
use Rattle.oe_order.proofs.listing.Queue.append_loads.Goals as goal
use Rattle.oe_order.proofs.listing.Queue.append_loads.Goals.{then-index+then-nodes-node+in_ok-append, else-index, else-index-via-then-index+else-nodes-node, else-index-via-else-index}

module _ (nodes : List Node) (i : ℕ) (members0 members standing : List Bool) (steps : List ℕ) (first next : List (Option ℕ)) (passed : List ℕ) (ready : List (Reverse ℕ))
    (p : Loads nodes i members0 members standing steps first next passed ready) where
  comes : get_or standing i false ≡ false
  comes = p.queue.marked.same i ∙ false_from_ne_true (contains steps i) (λ e.
      let w = and_parts (contains (marked_nodes members0 i) i) (is_load nodes i) (sym (contains-filter (is_load nodes) (marked_nodes members0 i) i) ∙ ap (λ ys. contains ys i) (sym p.loads) ∙ e) in
      let at = contains-marked_to members0 i i w.0 in omega (arith, at.0))

  placing : is_load nodes i ≡ true → IsQueue nodes (λ n. is_wanted nodes members standing n && not (eqb n i)) members standing steps first next passed ready
  placing l = IsQueue-with nodes _ (λ n. is_wanted nodes members standing n && not (eqb n i)) members standing steps first next first next passed ready ready p.queue
      (IsKept-same nodes first next passed ready (is_wanted nodes members standing) (λ n. is_wanted nodes members standing n && not (eqb n i))
      (λ n. without_load (is_wanted nodes members standing) n i (is_wanted-load nodes members standing i l)) p.queue.keeping)

  Loads-skip : (get_or members i false ≡ false) ⊎ (is_load nodes i ≡ false) → Loads nodes (i + 1) members0 members standing steps first next passed ready
  Loads-skip out = record {
    queue = p.queue;
    released = p.released;
    same_members = p.same_members;
    loads = p.loads ∙ sym (loads-same (is_load nodes) members0 i (elim out [ inl e ↦ inl (ap (λ ms. get_or ms i false) (sym p.same_members) ∙ e) | inr e ↦ inr e ]));
  }

  Loads-append : (members2 standing2 : List Bool) (steps2 : List ℕ) (first2 next2 : List (Option ℕ)) (passed2 : List ℕ) (ready2 : List (Reverse ℕ)) →
      get_or members i false ≡ true → is_load nodes i ≡ true → IsQueue nodes (is_wanted nodes members2 standing2) members2 standing2 steps2 first2 next2 passed2 ready2 →
      AllReleased standing2 first2 → members2 ≡ members → steps2 ≡ steps ++ i ∷ [] → Loads nodes (i + 1) members0 members2 standing2 steps2 first2 next2 passed2 ready2
  Loads-append members2 standing2 steps2 first2 next2 passed2 ready2 m l q r s t = record {
    queue = q;
    released = r;
    same_members = s ∙ p.same_members;
    loads = t ∙ ap (λ ys. ys ++ i ∷ []) p.loads ∙ sym (loads-more (is_load nodes) members0 i (ap (λ ms. get_or ms i false) (sym p.same_members) ∙ m) l);
  }

pub index-requires : goal.index-requires
index-requires c = omega (arith, c.loop-node.invariant.queue.members_len, length-graph_of c.args.nodes.now, c.loop-node.self.members.ok.0)

pub append-requires-clause-next : goal.append-requires-clause-next
append-requires-clause-next c =
    let nodes = graph_of c.args.nodes.now in
    let i = c.loop-node.node in
    let p = c.loop-node.invariant in
    let members = c.loop-node.self.members.items in
    let load : is_load nodes i ≡ true =
    is_load-graph_of c.args.nodes.now i c.index-nodes-node.result (omega arith) c.index-nodes-node.is ∙ ap (λ (z : Links). z.load) c.index-nodes-node.is ∙ c.if-nodes-node.true in
    record {
      member = sym (get_or_read members i c.index.result.now (omega (arith, p.queue.members_len, length-graph_of c.args.nodes.now)) c.index.ensures false) ∙ c.if-index.true;
      comes = comes nodes i c.args.self.now.members.items _ _ _ _ _ _ _ p;
      arguments_stand = λ free. absurd (false≢true (sym free ∙ load));
      others = placing nodes i c.args.self.now.members.items _ _ _ _ _ _ _ p load;
      released = p.released;
    }

pub loop-node-preserved : goal.loop-node-preserved
loop-node-preserved c =
    let nodes = graph_of c.args.nodes.now in
    let i = c.loop-node.node in
    let q = c.loop-node.self in
    let in' : i < length q.members.items = omega (arith, c.loop-node.invariant.queue.members_len, length-graph_of c.args.nodes.now) in
    let mark : get_or q.members.items i false ≡ c.index.result.now = sym (get_or_read q.members.items i c.index.result.now in' c.index.ensures false) in
    elim c.if-index.branch [
      | then-index+then-nodes-node+in_ok-append w ↦
          (let p = w.in_ok-append.ensures in
          rw w.self-is (Loads-append nodes i c.args.self.now.members.items _ _ _ _ _ _ _ c.loop-node.invariant _ _ _ _ _ _ _ (mark ∙ w.if-index.true)
          (is_load-graph_of c.args.nodes.now i w.index-nodes-node.result (omega arith) w.index-nodes-node.is ∙ ap (λ (z : Links). z.load) w.index-nodes-node.is ∙ w.if-nodes-node.true)
          p.between.wanted p.between.released p.members p.steps))
      | else-index w ↦ elim w.else-index.branch [
        | else-index-via-then-index+else-nodes-node v ↦ rw w.self-is (Loads-skip nodes i c.args.self.now.members.items _ _ _ _ _ _ _ c.loop-node.invariant
            (inr (is_load-graph_of c.args.nodes.now i v.index-nodes-node.result (omega arith) v.index-nodes-node.is ∙ ap (λ (z : Links). z.load) v.index-nodes-node.is ∙ v.if-nodes-node.false)))
        | else-index-via-else-index v ↦ rw w.self-is (Loads-skip nodes i c.args.self.now.members.items _ _ _ _ _ _ _ c.loop-node.invariant (inl (mark ∙ v.if-index.false)))
      ]
    ]

pub returns-clause-between : goal.returns-clause-between
returns-clause-between c = record { wanted = c.loop-node.invariant.queue; released = c.loop-node.invariant.released }

pub returns-clause-loads : goal.returns-clause-loads
returns-clause-loads c =
    let nodes = graph_of c.args.nodes.now in
    let all : c.loop-node.node ≡ length nodes = omega (arith, length-graph_of c.args.nodes.now) in
    c.loop-node.invariant.loads ∙ ap (λ k. filter (is_load nodes) (marked_nodes c.args.self.now.members.items k)) all
