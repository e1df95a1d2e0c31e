-- What is known of the nodes of a graph object along a walk: of one, of several, and of those that a node refers to.
use Rattle.std.proofs.Common.{◌≡◌, ◌≢◌, ◌⊎◌, inl, inr, ℕ, zero, suc, ◌+◌, ◌<◌, ◌&&◌, Bool, true, false, List, [], ◌∷◌, drop, length, replicate, set, get_or, Contains, Some, refl, sym, ap, ◌∙◌, subst, arith, get_or-set_same, get_or-set_other}
use Rattle.std.proofs.lemmas.Bool.{and_parts, cases_eq}
use Rattle.std.proofs.lemmas.List.{at_drop_more, get_or_default, length-replicate}
use Rattle.oe_memory.proofs.Lists.{first_of, first_or_later, later_of}
use Rattle.oe_order.specs.Graph.{arguments, graph_of}
use Rattle.oe_order.specs.declared.Links.{Links}
use Rattle.oe_order.proofs.Graphs.{arguments-graph_of, length-graph_of}
use Rattle.oe_graph.specs.Indices.{index_named, indices_named, reference_graph, reference_node}
use Rattle.oe_graph.specs.Plain.{plain_nodes}
use Rattle.oe_graph.specs.Printed.{ids_of, node_count}
use Rattle.oe_graph.specs.References.{each_node, references_named}
use Rattle.oe_graph.specs.Resolved.{IsResolvedObject}
use Rattle.oe_graph.specs.States.{AreSeenBelow, IsNodeAt, IsState, IsStep, are_sound, is_sound, state_at}
use Rattle.oe_graph.specs.Tree.{Nodes, no_nodes, node, PlainNode}
use Rattle.oe_graph.specs.declared.node_state.NodeState.{NodeState}
use Rattle.oe_graph.specs.declared.node_state.NodeState.TheVariants.{Unseen, Faulty, Sound}
use Rattle.oe_graph.specs.declared.tree.Node.{Node}
use Rattle.oe_graph.proofs.ElementLemmas.{same_some, there_at}
use Rattle.oe_graph.proofs.ReferenceGraphLemmas.{arguments_of, indices_from, indices_to, reference_count, reference_within}
use Rattle.oe_graph.proofs.ResolvedLemmas.{NodeAt, node_referred}
use Rattle.oe_graph.proofs.SearchLemmas.{found_at, id_there, node_count-plain}

module _ {Kept : Type 0} where
  -- ---- one state

  -- it is known what the node is
  abbrev pub IsSeen : NodeState Kept → Type 0
  IsSeen s = s ≢ Unseen

  pub faulty_known : IsSeen Faulty
  faulty_known e = absurd cc

  pub sound_known : (kept : Kept) → IsSeen (Sound kept)
  sound_known kept e = absurd cc

  pub unseen_not_faulty : (s : NodeState Kept) → s ≡ Unseen → s ≢ Faulty
  unseen_not_faulty Unseen is e = absurd cc
  unseen_not_faulty Faulty is e = absurd cc
  unseen_not_faulty (Sound kept) is e = absurd cc

  pub sound_not_faulty : (kept : Kept) (s : NodeState Kept) → s ≡ Sound kept → s ≢ Faulty
  sound_not_faulty kept Unseen is e = absurd cc
  sound_not_faulty kept Faulty is e = absurd cc
  sound_not_faulty kept (Sound other) is e = absurd cc

  pub sound_so : (s : NodeState Kept) → is_sound s ≡ true → (kept : Kept) × (s ≡ Sound kept)
  sound_so Unseen e = absurd cc
  sound_so Faulty e = absurd cc
  sound_so (Sound kept) e = (kept, refl)

  faulty_so : (s : NodeState Kept) → is_sound s ≡ false → s ≢ Unseen → s ≡ Faulty
  faulty_so Unseen e seen = absurd (seen refl)
  faulty_so Faulty e seen = refl
  faulty_so (Sound kept) e seen = absurd cc

  pub sound_state : (s : NodeState Kept) → s ≢ Unseen → s ≢ Faulty → (kept : Kept) × (s ≡ Sound kept)
  sound_state Unseen seen clean = absurd (seen refl)
  sound_state Faulty seen clean = absurd (clean refl)
  sound_state (Sound kept) seen clean = (kept, refl)

  -- ---- states, of which one changes

  pub set_here : (states : List (NodeState Kept)) (index : ℕ) (s : NodeState Kept) → index < length states
      → state_at (set states index s) index ≡ s
  set_here states index s within = get_or-set_same states index s Unseen within

  pub set_other : (states : List (NodeState Kept)) (index : ℕ) (s : NodeState Kept) (k : ℕ) → k ≢ index
      → state_at (set states index s) k ≡ state_at states k
  set_other states index s k other = get_or-set_other states index k s Unseen other

  pub seen_stays : (states : List (NodeState Kept)) (index : ℕ) (s : NodeState Kept) (k : ℕ) → index < length states
      → s ≢ Unseen → state_at states k ≢ Unseen → state_at (set states index s) k ≢ Unseen
  seen_stays states index s k within known seen = split (cases_eq k index)
    where
      split : (k ≡ index) ⊎ (k ≢ index) → state_at (set states index s) k ≢ Unseen
      split (inl e) is = known (sym (set_here states index s within) ∙ (ap (state_at (set states index s)) (sym e) ∙ is))
      split (inr other) is = seen (sym (set_other states index s k other) ∙ is)

  pub one_changes : (states : List (NodeState Kept)) (index : ℕ) (s : NodeState Kept) → index < length states → s ≢ Unseen
      → IsStep index states (set states index s)
  one_changes states index s within known = record {
    others = λ k other. set_other states index s k other;
    seen = λ is. known (sym (set_here states index s within) ∙ is);
  }

  -- ---- before the first node is judged

  -- nothing is known of the node at an index
  abbrev IsUnseenAt : List (NodeState Kept) → ℕ → Type 0
  IsUnseenAt states k = state_at states k ≡ Unseen

  unseen_so : (count k : ℕ) → IsUnseenAt (replicate count Unseen) k
  unseen_so zero k = refl
  unseen_so (suc count) zero = refl
  unseen_so (suc count) (suc k) = unseen_so count k

  pub all_unseen : (states : List (NodeState Kept)) (count : ℕ) → states ≡ replicate count Unseen → (k : ℕ)
      → state_at states k ≡ Unseen
  all_unseen states count is k = ap (λ (ss : List (NodeState Kept)). state_at ss k) is ∙ unseen_so count k

  pub all_unseen_many : (states : List (NodeState Kept)) (count : ℕ) → states ≡ replicate count Unseen → length states ≡ count
  all_unseen_many states count is = ap (λ (ss : List (NodeState Kept)). length ss) is ∙ length-replicate count Unseen

  -- ---- whether several nodes are sound

  module _ (states : List (NodeState Kept)) where
    -- one of the indices is that of a node with a fault at or below it
    abbrev pub OneFaulty : List ℕ → Type 0
    OneFaulty indices = (index : ℕ) × Contains indices index × (state_at states index ≡ Faulty)

    -- the nodes at these indices were judged
    abbrev pub AreSeen : List ℕ → Type 0
    AreSeen indices = (k : ℕ) → Contains indices k → state_at states k ≢ Unseen

    faulty_first : (index : ℕ) (indices : List ℕ) (b : Bool) → is_sound (state_at states index) ≡ b
        → (b && are_sound states indices) ≡ false → AreSeen (index ∷ indices)
        → (are_sound states indices ≡ false → OneFaulty indices) → OneFaulty (index ∷ indices)
    faulty_first index indices false is e seen rest =
        (index, first_of index indices, faulty_so (state_at states index) is (seen index (first_of index indices)))
    faulty_first index indices true is e seen rest = let one = rest e in (one.0, later_of index indices one.0 one.1, one.2)

    pub faulty_among : (indices : List ℕ) → are_sound states indices ≡ false → AreSeen indices → OneFaulty indices
    faulty_among [] e seen = absurd cc
    faulty_among (index ∷ indices) e seen =
        faulty_first index indices (is_sound (state_at states index)) refl e seen
        (λ rest. faulty_among indices rest (λ k has. seen k (later_of index indices k has)))

    pub sound_among : (indices : List ℕ) → are_sound states indices ≡ true → (index : ℕ) → Contains indices index
        → (kept : Kept) × (state_at states index ≡ Sound kept)
    sound_among [] e index has = let below : has.0 < 0 = has.1 in absurd (omega arith)
    sound_among (first ∷ indices) e index has =
        let parts = and_parts (is_sound (state_at states first)) (are_sound states indices) e in
        let one = sound_so (state_at states first) parts.0 in
        elim (first_or_later first indices index has.0 has.1 has.2) [
          | inl is ↦ (one.0, subst (λ k. state_at states k ≡ Sound one.0) is one.1)
          | inr later ↦ sound_among indices parts.1 index later
        ]

  -- along a list
  pub sound_next : (states : List (NodeState Kept)) (xs : List ℕ) (i : ℕ) → i < length xs
      → are_sound states (drop i xs) ≡ (is_sound (state_at states (get_or xs i 0)) && are_sound states (drop (i + 1) xs))
  sound_next states xs i within = at_drop_more (are_sound states) xs i 0 within

-- ---- the indices that the references of a node lead to

pub within_nodes : (nodes : Nodes) (k : ℕ) (n : PlainNode) → IsNodeAt nodes k n → k < node_count nodes
within_nodes no_nodes k n is = absurd cc
within_nodes (node id p s args rest) zero n is = omega arith
within_nodes (node id p s args rest) (suc k) n is = let below = within_nodes rest k n is in omega arith

-- the node at an index has its references at the same index
pub within_links : (nodes : List Node) (links : List Links) (index : ℕ) → graph_of links ≡ reference_graph (plain_nodes nodes)
    → index < length nodes → index < length links
within_links nodes links index is within =
    let long = length-graph_of links in
    let count = reference_count (plain_nodes nodes) in
    let plain = node_count-plain nodes in
    omega (arith, ap length is)

module _ (nodes : Nodes) where
  pub references_at : (links : List Links) (k : ℕ) (n : PlainNode) (link : Links) → graph_of links ≡ reference_graph nodes
      → k < length links → link ≡ get_or links k link → IsNodeAt nodes k n
      → link.arguments.items ≡ indices_named nodes (references_named n.arguments)
  references_at links k n link all within read at =
      sym (arguments-graph_of links k link within read)
      ∙ (ap (λ xs. arguments xs k) all ∙ arguments_of (reference_node nodes) (each_node nodes) k n at)

  -- each of them is a node
  pub link_within : (links : List Links) (k : ℕ) (link : Links) → graph_of links ≡ reference_graph nodes
      → k < length links → link ≡ get_or links k link
      → (j : ℕ) → j < length link.arguments.items → get_or link.arguments.items j 0 < node_count nodes
  link_within links k link all within read j below =
      let indices = link.arguments.items in
      let b = get_or indices j 0 in
      let same : arguments (reference_graph nodes) k ≡ indices =
      ap (λ xs. arguments xs k) (sym all) ∙ arguments-graph_of links k link within read in
      let has : Contains indices b = (j, below, get_or_default indices j b 0 below) in
      subst (λ c. b < c) (reference_count nodes) (reference_within nodes k b (subst (λ xs. Contains xs b) (sym same) has))

  module _ {Kept : Type 0} where
    -- whether they are sound, as it is read at the indices of its link
    pub read_sound : (links : List Links) (k : ℕ) (n : PlainNode) (link : Links) (states read : List (NodeState Kept))
        (indices : List ℕ) (b : Bool)
        → graph_of links ≡ reference_graph nodes → k < length links → link ≡ get_or links k link → IsNodeAt nodes k n
        → indices ≡ link.arguments.items → read ≡ states → b ≡ are_sound read indices
        → are_sound states (indices_named nodes (references_named n.arguments)) ≡ b
    read_sound links k n link states read indices b all within is_link at of_link same known =
        ap (are_sound states) (sym (references_at links k n link all within is_link at))
        ∙ (ap (are_sound states) (sym of_link)
        ∙ (ap (λ (ss : List (NodeState Kept)). are_sound ss indices) (sym same) ∙ sym known))

    -- those that it refers to were judged
    pub seen_below : (states : List (NodeState Kept)) (k : ℕ) (n : PlainNode) → IsNodeAt nodes k n → AreSeenBelow nodes states k
        → AreSeen states (indices_named nodes (references_named n.arguments))
    seen_below states k n at seen j has =
        seen j (subst (λ xs. Contains xs j) (sym (arguments_of (reference_node nodes) (each_node nodes) k n at)) has)

-- ---- what is known of the nodes that a node of a resolved graph object refers to

-- the node of a name is sound, and this is kept of it
pub record SoundNamed {Kept : Type 0} (IsSoundOf : List ℕ → Kept → Type 0) (nodes : Nodes) (states : List (NodeState Kept))
    (name : List ℕ) : Type 0 where
  pub there : NodeAt nodes name
  pub kept : Kept
  pub state_is : state_at states there.index ≡ Sound kept
  pub is_sound_of : IsSoundOf name kept

module _ {in_callback : Bool} {scope : List (List ℕ)} (nodes : Nodes) (result : ℕ)
    (is : IsResolvedObject in_callback scope nodes result) where
  -- the node that a reference names
  pub referred : (k : ℕ) (n : PlainNode) (name : List ℕ) → IsNodeAt nodes k n → Contains (references_named n.arguments) name
      → NodeAt nodes name
  referred k n name at refers = node_referred nodes result n name is (there_at (each_node nodes) k n at) refers

  -- the index of a name that leads to a node is the node's
  named_index : (name : List ℕ) (there : NodeAt nodes name) → index_named nodes name ≡ Some there.index
  named_index name there =
      found_at (ids_of nodes) there.index name is.ids_rise
      (id_there nodes there.index there.node there.is_there ∙ ap Some there.is_named)

  index_among : (names : List (List ℕ)) (name : List ℕ) → Contains names name → (there : NodeAt nodes name)
      → Contains (indices_named nodes names) there.index
  index_among names name has there = indices_to nodes names name there.index has (named_index name there)

  -- and an index is that of the node that a name leads to
  index_same : (name : List ℕ) (k : ℕ) → index_named nodes name ≡ Some k → (there : NodeAt nodes name) → there.index ≡ k
  index_same name k at there = same_some there.index k (index_named nodes name) (named_index name there) at

  module _ {Kept : Type 0} (IsSound : List ℕ → Type 0) (IsSoundOf : List ℕ → Kept → Type 0) (states : List (NodeState Kept))
      (each : (k : ℕ) (m : PlainNode) → IsNodeAt nodes k m → IsState IsSound IsSoundOf m.id (state_at states k))
      (index : ℕ) (n : PlainNode) (at : IsNodeAt nodes index n) where
    abbrev names : List (List ℕ)
    names = references_named n.arguments

    known : (name : List ℕ) (there : NodeAt nodes name) (s : NodeState Kept) → state_at states there.index ≡ s
        → IsState IsSound IsSoundOf name s
    known name there s e =
        subst (λ m. IsState IsSound IsSoundOf m s) there.is_named
        (subst (IsState IsSound IsSoundOf there.node.id) e (each there.index there.node there.is_there))

    -- where all are sound
    pub sound_reference : are_sound states (indices_named nodes names) ≡ true → (name : List ℕ) → Contains names name
        → SoundNamed IsSoundOf nodes states name
    sound_reference sound name refers =
        let there = referred index n name at refers in
        let one = sound_among states (indices_named nodes names) sound there.index (index_among names name refers there) in
        record { there = there; kept = one.0; state_is = one.1; is_sound_of = known name there (Sound one.0) one.1 }

    -- where one leads to a node with a fault at or below it
    pub faulty_reference : OneFaulty states (indices_named nodes names)
        → (name : List ℕ) × Contains names name × (IsSound name → ⊥)
    faulty_reference faulty =
        let one = indices_from nodes names faulty.0 faulty.1 in
        let there = referred index n one.0 at one.1 in
        let state : state_at states there.index ≡ Faulty =
        ap (state_at states) (index_same one.0 faulty.0 one.2 there) ∙ faulty.2 in
        (one.0, one.1, known one.0 there Faulty state)
