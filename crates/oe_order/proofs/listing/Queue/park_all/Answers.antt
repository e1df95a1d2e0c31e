use Rattle.std.proofs.Common.{◌≡◌, ℕ, ◌+◌, ◌<◌, ◌≤◌, ◌&&◌, ◌||◌, eqb, ltb, Bool, true, false, List, Option, length, get_or, refl, sym, ap, ◌∙◌, subst, arith}
use Rattle.std.specs.declared.cmp.Reverse.{Reverse}
use Rattle.std.proofs.lemmas.Bool.{false≢true, le-ltb, lt-ltb}
use Rattle.std.proofs.lemmas.List.{get_or_read}
use Rattle.oe_order.specs.Graph.{Node, graph_of, arguments, is_load}
use Rattle.oe_order.specs.Order.{contains}
use Rattle.oe_order.specs.Waiting.{IsKept, IsQueue, is_wanted}
use Rattle.oe_order.specs.declared.Links.{Links}
use Rattle.oe_order.proofs.Graphs.{length-graph_of, arguments-graph_of, is_load-graph_of}
use Rattle.oe_order.proofs.Lists.{contains-to}
use Rattle.oe_order.proofs.Pools.{marked_within}
use Rattle.oe_order.proofs.Kept.{IsKept-same}
use Rattle.oe_order.proofs.Queues.{IsQueue-with, kept_more, kept_no_more, is_wanted-from, is_wanted-to, is_wanted-member, is_wanted-load}
use Rattle.oe_order.proofs.listing.Queue.park_all.Invariants.{Parks}
use Rattle.oe_order.proofs.listing.Queue.park_all.Goals as goal
use Rattle.oe_order.proofs.listing.Queue.park_all.Goals.{then-index+then-not-nodes-node+in_ok-park, else-index, else-index-via-then-index+else-not-nodes-node, else-index-via-else-index}

module _ (nodes : List Node) (i : ℕ) (members0 members standing : List Bool) (steps : List ℕ) (first next : List (Option ℕ)) (passed : List ℕ) (ready : List (Reverse ℕ))
    (p : Parks nodes i members0 members standing steps first next passed ready) where
  none_stands : (n : ℕ) → get_or standing n false ≡ false
  none_stands n = p.queue.marked.same n ∙ ap (λ ys. contains ys n) p.none

  Parks-skip : is_wanted nodes members standing i ≡ false → Parks nodes (i + 1) members0 members standing steps first next passed ready
  Parks-skip out = record {
    queue = IsQueue-with nodes _ (λ n. ltb n (i + 1) && is_wanted nodes members standing n) members standing steps first next first next passed ready ready p.queue
        (IsKept-same nodes first next passed ready (λ n. ltb n i && is_wanted nodes members standing n) (λ n. ltb n (i + 1) && is_wanted nodes members standing n)
        (λ n. kept_no_more (is_wanted nodes members standing) i n out) p.queue.keeping);
    same_members = p.same_members;
    none = p.none;
  }

  Parks-park : (members2 standing2 : List Bool) (steps2 : List ℕ) (first2 next2 : List (Option ℕ)) (passed2 : List ℕ) (ready2 : List (Reverse ℕ)) →
      get_or members i false ≡ true → is_load nodes i ≡ false → members2 ≡ members → standing2 ≡ standing → steps2 ≡ steps → passed2 ≡ passed →
      ((kept : ℕ → Bool) → kept i ≡ false → IsKept nodes kept first next passed ready → IsKept nodes (λ n. kept n || eqb n i) first2 next2 passed2 ready2) →
      Parks nodes (i + 1) members0 members2 standing2 steps2 first2 next2 passed2 ready2
  Parks-park members2 standing2 steps2 first2 next2 passed2 ready2 member free m s t r kept =
      let wanted = is_wanted nodes members standing in
      let here : wanted i ≡ true = is_wanted-from nodes members standing i member free (none_stands i) in
      let k : IsKept nodes (λ n. (ltb n i && wanted n) || eqb n i) first2 next2 passed2 ready2 =
      kept (λ n. ltb n i && wanted n) (ap (λ b. b && wanted i) (le-ltb i i (omega arith))) p.queue.keeping in
      let k' : IsKept nodes (λ n. ltb n (i + 1) && wanted n) first2 next2 passed ready2 =
      subst (λ ps. IsKept nodes (λ n. ltb n (i + 1) && wanted n) first2 next2 ps ready2) r
      (IsKept-same nodes first2 next2 passed2 ready2 (λ n. (ltb n i && wanted n) || eqb n i) (λ n. ltb n (i + 1) && wanted n) (λ n. kept_more wanted i n here) k) in
      let q : IsQueue nodes (λ n. ltb n (i + 1) && wanted n) members standing steps first2 next2 passed ready2 =
      IsQueue-with nodes _ (λ n. ltb n (i + 1) && wanted n) members standing steps first next first2 next2 passed ready ready2 p.queue k' in
      record {
        queue = subst (λ ms. IsQueue nodes (λ n. ltb n (i + 1) && is_wanted nodes ms standing2 n) ms standing2 steps2 first2 next2 passed2 ready2) (sym m)
            (subst (λ ss. IsQueue nodes (λ n. ltb n (i + 1) && is_wanted nodes members ss n) members ss steps2 first2 next2 passed2 ready2) (sym s)
            (subst (λ ts. IsQueue nodes (λ n. ltb n (i + 1) && wanted n) members standing ts first2 next2 passed2 ready2) (sym t)
            (subst (λ ps. IsQueue nodes (λ n. ltb n (i + 1) && wanted n) members standing steps first2 next2 ps ready2) (sym r) q)));
        same_members = m ∙ p.same_members;
        none = t ∙ p.none;
      }

  Parks-all : length nodes ≤ i → IsQueue nodes (is_wanted nodes members standing) members standing steps first next passed ready
  Parks-all all = IsQueue-with nodes _ (is_wanted nodes members standing) members standing steps first next first next passed ready ready p.queue
      (IsKept-same nodes first next passed ready (λ n. ltb n i && is_wanted nodes members standing n) (is_wanted nodes members standing)
      (λ n. below (ltb n i) (is_wanted nodes members standing n) (λ e. lt-ltb n i (omega (arith, marked_within members n (let w = is_wanted-to nodes members standing n e in w.member), p.queue.members_len)))) p.queue.keeping)
    where
      below : (a b : Bool) → (b ≡ true → a ≡ true) → b ≡ a && b
      below true b h = refl
      below false true h = sym (h refl)
      below false false h = refl

pub index-requires : goal.index-requires
index-requires c = omega (arith, c.loop-node.invariant.queue.members_len, length-graph_of c.args.nodes.now, c.loop-node.self.members.ok.0)

pub park-requires-clause-passes : goal.park-requires-clause-passes
park-requires-clause-passes c = omega (arith, c.loop-node.invariant.queue.keeping.passes, length-graph_of c.args.nodes.now)

pub park-requires-clause-nexts : goal.park-requires-clause-nexts
park-requires-clause-nexts c = omega (arith, c.loop-node.invariant.queue.keeping.nexts, length-graph_of c.args.nodes.now)

pub park-requires-clause-within : goal.park-requires-clause-within
park-requires-clause-within c = λ n e.
    let nodes = graph_of c.args.nodes.now in
    let i = c.loop-node.node in
    let is = c.index-nodes-node-then-not-nodes-node.is in
    let args : arguments nodes i ≡ c.as_slice.result.now = arguments-graph_of c.args.nodes.now i c.index-nodes-node-then-not-nodes-node.result (omega arith) is ∙ ap (λ (z : Links). z.arguments.items) is ∙ sym c.as_slice.ensures.value in
    let lt : n < length nodes = c.requires.named i n (contains-to (arguments nodes i) n (ap (λ ys. contains ys n) args ∙ e)) in
    omega (arith, c.loop-node.invariant.queue.keeping.firsts)

pub loop-node-preserved : goal.loop-node-preserved
loop-node-preserved c =
    let nodes = graph_of c.args.nodes.now in
    let i = c.loop-node.node in
    let q = c.loop-node.self in
    let in' : i < length q.members.items = omega (arith, c.loop-node.invariant.queue.members_len, length-graph_of c.args.nodes.now) in
    let mark : get_or q.members.items i false ≡ c.index.result.now = sym (get_or_read q.members.items i c.index.result.now in' c.index.ensures false) in
    elim c.if-index.branch [
      | then-index+then-not-nodes-node+in_ok-park w ↦
          (let is = w.index-nodes-node-then-not-nodes-node.is in
          let args : arguments nodes i ≡ w.as_slice.result.now = arguments-graph_of c.args.nodes.now i w.index-nodes-node-then-not-nodes-node.result (omega arith) is ∙ ap (λ (z : Links). z.arguments.items) is ∙ sym w.as_slice.ensures.value in
          let p = w.in_ok-park.ensures in
          rw w.self-is (Parks-park nodes i c.args.self.now.members.items _ _ _ _ _ _ _ c.loop-node.invariant _ _ _ _ _ _ _ (mark ∙ w.if-index.true)
          (is_load-graph_of c.args.nodes.now i w.index-nodes-node.result (omega arith) w.index-nodes-node.is ∙ ap (λ (z : Links). z.load) w.index-nodes-node.is ∙ w.if-not-nodes-node.true)
          p.members p.standing p.steps p.passed (λ kept out k. p.kept nodes kept args (omega (arith, length-graph_of c.args.nodes.now)) out k)))
      | else-index w ↦ elim w.else-index.branch [
        | else-index-via-then-index+else-not-nodes-node v ↦ rw w.self-is (Parks-skip nodes i c.args.self.now.members.items _ _ _ _ _ _ _ c.loop-node.invariant
            (is_wanted-load nodes q.members.items q.standing.items i (is_load-graph_of c.args.nodes.now i v.index-nodes-node.result (omega arith) v.index-nodes-node.is ∙ ap (λ (z : Links). z.load) v.index-nodes-node.is ∙ v.if-not-nodes-node.false)))
        | else-index-via-else-index v ↦ rw w.self-is (Parks-skip nodes i c.args.self.now.members.items _ _ _ _ _ _ _ c.loop-node.invariant
            (is_wanted-member nodes q.members.items q.standing.items i (mark ∙ v.if-index.false)))
      ]
    ]

pub returns-clause-between : goal.returns-clause-between
returns-clause-between c =
    let nodes = graph_of c.args.nodes.now in
    let i = c.loop-node.node in
    let given = c.args.self.now.members.items in
    let p = c.loop-node.invariant in
    record {
      wanted = Parks-all nodes i given _ _ _ _ _ _ _ p (omega (arith, length-graph_of c.args.nodes.now));
      released = λ a e. absurd (false≢true (sym (none_stands nodes i given _ _ _ _ _ _ _ p a) ∙ e));
    }
