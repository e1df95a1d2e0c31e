-- The walk over the nodes of a graph: what one more node that is judged makes of what was found so far, and what stands at
-- the end.
use Rattle.std.proofs.Common.{◌≡◌, ◌≢◌, ℕ, ◌<◌, true, List, length, set, Contains, Option, Some, None, sym, ◌∙◌, subst}
use Rattle.oe_dims.specs.declared.dims.DimsRow.{DimsRow}
use Rattle.oe_graph.specs.Faults.{IsLeast, IsLeastFault, least}
use Rattle.oe_graph.specs.Plain.{plain_nodes}
use Rattle.oe_graph.specs.Printed.{node_count}
use Rattle.oe_graph.specs.Indices.{indices_named}
use Rattle.oe_graph.specs.References.{references_named}
use Rattle.oe_graph.specs.States.{IsNodeAt, StandsSeen, are_sound, state_at}
use Rattle.oe_graph.specs.Tree.{Nodes, PlainNode}
use Rattle.oe_graph.specs.declared.code.Code.{Code}
use Rattle.oe_graph.specs.declared.fault.Fault.{Fault}
use Rattle.oe_graph.specs.declared.node_state.NodeState.TheVariants.{Unseen, Faulty, Sound}
use Rattle.oe_graph.specs.declared.tree.Node.{Node}
use Rattle.oe_graph.proofs.SortedWalkLemmas as walk
use Rattle.oe_graph.proofs.StateLemmas.{OneFaulty, SoundNamed, faulty_reference, sound_reference}
use Rattle.oe_expr.proofs.NodeLemmas.{node_is, index_of_node}
use Rattle.oe_meanings.specs.Graphs.{outline_at, operation_at}
use Rattle.oe_check.specs.Links.{loaded_collection}
use Rattle.oe_requests.specs.Operations.{Outline}
use Rattle.oe_requests.specs.PlainRequests.{plain_operation}
use Rattle.oe_meanings.specs.SoundNodes.{sound_node}
use Rattle.oe_meanings.specs.Stands.{StandsHere, IsSound, sound, StandsAt, StandsInGraph}
use Rattle.oe_check.specs.Walked.{AreResolved, AreKnown, IsFaultAt, IsVerdict, IsJudgedSound, IsSoundOf, IsWalked, IsChecked, State}
use Rattle.oe_check.specs.declared.checked.CheckedNode.{CheckedNode}
use Rattle.oe_check.specs.declared.walk.Verdict.{Verdict}
use Rattle.oe_meanings.proofs.GraphLemmas.{unfold_at_nodes}
use Rattle.oe_check.proofs.LinkLemmas.{object, named_at, one_node}

-- a verdict on nodes and states as they are read is one on these
pub read_verdict : (rows : List DimsRow) (nodes ns : List Node) (states ss : List State) (n : PlainNode) (v w : Verdict)
    → ns ≡ nodes → ss ≡ states → v ≡ w
    → ((at : List ℕ → Outline) → AreKnown (plain_nodes ns) ss at n → IsVerdict rows at n v)
    → (at : List ℕ → Outline) → AreKnown (plain_nodes nodes) states at n → IsVerdict rows at n w
read_verdict rows nodes ns states ss n v w same_nodes same_states same judged at known =
    subst (λ (x : Verdict). IsVerdict rows at n x) same
    (judged at
    (subst (λ (xs : List Node). AreKnown (plain_nodes xs) ss at n) (sym same_nodes)
    (subst (λ (xs : List State). AreKnown (plain_nodes nodes) xs at n) (sym same_states) known)))

module _ (rows : List DimsRow) (nodes : Nodes) (is : AreResolved nodes) where
  -- ---- one node

  module _ (states : List State) (found : Option Fault) (w : IsWalked rows nodes states found)
      (index : ℕ) (n : PlainNode) (at : IsNodeAt nodes index n) where
    abbrev names : List (List ℕ)
    names = references_named n.arguments

    module _ (sound_so : are_sound states (indices_named nodes names) ≡ true) where
      reference : (name : List ℕ) → Contains names name → SoundNamed (IsSoundOf rows nodes) nodes states name
      reference name refers =
          sound_reference nodes is.result (object nodes is) (IsSound rows nodes) (IsSoundOf rows nodes) states w.each index n at sound_so name refers

      all_sound : (name : List ℕ) → Contains names name → IsSound rows nodes name
      all_sound name refers = (reference name refers).is_sound_of.sound

      pub all_known : AreKnown nodes states (outline_at rows nodes) n
      all_known name refers =
          let one = reference name refers in
          record {
            index = one.there.index;
            node = one.there.node;
            kept = one.kept;
            is_node = one.there.is_there;
            is_named = one.there.is_named;
            state_is = one.state_is;
            outline_is = one.is_sound_of.outline_is;
          }

      sound_here : (kept : CheckedNode) → IsJudgedSound rows (outline_at rows nodes) n kept → IsSoundOf rows nodes n.id kept
      sound_here kept j = record {
        sound = sound (named_at nodes is index n at) all_sound j.no_fault;
        sound_cells = sound_node (named_at nodes is index n at) (λ name refers. (reference name refers).is_sound_of.sound_cells) j.sound_operation;
        outline_is = unfold_at_nodes.outline rows nodes (object nodes is).acyclic n.id n (named_at nodes is index n at) ∙ j.outline_is;
        operation_is = λ m is_m.
            subst (λ (x : PlainNode). operation_at rows nodes x ≡ Some (plain_operation kept.operation)) (one_node nodes is n index m at is_m) j.operation_is;
        collection_is = λ m is_m.
            subst (λ (x : PlainNode). loaded_collection x ≡ kept.collection) (one_node nodes is n index m at is_m) j.collection_is;
      }

      stands_here : (code : Code) (name : List ℕ) → StandsHere rows (outline_at rows nodes) n code name → StandsAt rows nodes n.id code name
      stands_here code name s = record { node = n; is_node = named_at nodes is index n at; below = all_sound; here = s }

    here_stands : (code : Code) (name : List ℕ) → StandsAt rows nodes n.id code name → StandsHere rows (outline_at rows nodes) n code name
    here_stands code name s =
        subst (λ (x : PlainNode). StandsHere rows (outline_at rows nodes) x code name) (sym (one_node nodes is n index s.node at s.is_node)) s.here

    -- ---- the three ends

    module _ (within : index < length states) where
      module _ (faulty : OneFaulty states (indices_named nodes names)) where
        below_faulty : (name : List ℕ) × Contains names name × (IsSound rows nodes name → ⊥)
        below_faulty =
            faulty_reference nodes is.result (object nodes is) (IsSound rows nodes) (IsSoundOf rows nodes) states w.each index n at faulty

        not_sound_here : IsSound rows nodes n.id → ⊥
        not_sound_here (sound {n = m} is_named below_it clean) =
            let same : n ≡ m = one_node nodes is n index m at is_named in
            let one = below_faulty in
            one.2 (below_it one.0 (subst (λ (x : PlainNode). Contains (references_named x.arguments) one.0) same one.1))

        none_stands_here : (fault : Fault) → IsFaultAt rows nodes n.id fault → ⊥
        none_stands_here fault s =
            let same : n ≡ s.node = one_node nodes is n index s.node at s.is_node in
            let one = below_faulty in
            one.2 (s.below one.0 (subst (λ (x : PlainNode). Contains (references_named x.arguments) one.0) same one.1))

        pub walked_below : IsWalked rows nodes (set states index Faulty) found
        walked_below =
            walk.walked_below (IsSound rows nodes) (IsSoundOf rows nodes) (IsFaultAt rows nodes) nodes states found w index n at within
            not_sound_here none_stands_here (λ nothing. w.all nothing faulty.0 faulty.2)

      module _ (sound_so : are_sound states (indices_named nodes names) ≡ true) where
        stands_not_sound : (fault : Fault) → StandsHere rows (outline_at rows nodes) n fault.code fault.node → IsSound rows nodes n.id → ⊥
        stands_not_sound fault s (sound {n = m} is_named below_it clean) =
            let same : n ≡ m = one_node nodes is n index m at is_named in
            clean fault.code fault.node (subst (λ (x : PlainNode). StandsHere rows (outline_at rows nodes) x fault.code fault.node) same s)

        module _ (fault : Fault) (stands : IsLeast (StandsHere rows (outline_at rows nodes) n) fault) where
          least_here : IsLeastFault (IsFaultAt rows nodes n.id) (Some fault)
          least_here = (
            stands_here sound_so fault.code fault.node stands.stands,
            λ other s. stands.least other (here_stands other.code other.node s),
          )

          pub walked_faulty : IsWalked rows nodes (set states index Faulty) (least found (Some fault))
          walked_faulty =
              walk.walked_faulty (IsSound rows nodes) (IsSoundOf rows nodes) (IsFaultAt rows nodes) nodes states found w index n at within
              fault (stands_not_sound fault stands.stands) least_here

        module _ (kept : CheckedNode) (j : IsJudgedSound rows (outline_at rows nodes) n kept) where
          pub walked_sound : IsWalked rows nodes (set states index (Sound kept)) found
          walked_sound =
              walk.walked_sound (IsSound rows nodes) (IsSoundOf rows nodes) (IsFaultAt rows nodes) nodes states found w index n at within
              kept (sound_here sound_so kept j) (λ fault s. j.no_fault fault.code fault.node (here_stands fault.code fault.node s))

  -- ---- before the first step

  pub walked_none : (states : List State) → ((k : ℕ) → state_at states k ≡ Unseen) → IsWalked rows nodes states None
  walked_none states unseen = walk.walked_none (IsSound rows nodes) (IsSoundOf rows nodes) (IsFaultAt rows nodes) nodes states unseen

  -- ---- after the last step

  pub checked_seen : (states : List State) (found : Option Fault) → length states ≡ node_count nodes
      → ((k : ℕ) (n : PlainNode) → IsNodeAt nodes k n → state_at states k ≢ Unseen)
      → IsWalked rows nodes states found → IsChecked rows nodes states found
  checked_seen states None long seen w =
      walk.all_sound (IsSound rows nodes) (IsSoundOf rows nodes) (IsFaultAt rows nodes) nodes states long seen w
  checked_seen states (Some fault) long seen w = record {
    stands = record { id = w.least.0.node.id; at = w.least.0.stands };
    least = λ other stands. w.least.1 other (seen_at other stands);
  }
    where
      seen_at : (other : Fault) → StandsInGraph rows nodes other.code other.node → StandsSeen (IsFaultAt rows nodes) nodes states other
      seen_at other stands =
          let there = node_is nodes stands.id stands.at.node stands.at.is_node in
          let found_at = index_of_node nodes stands.at.node there.0 in
          record {
            index = found_at.0;
            node = stands.at.node;
            is_node = found_at.1;
            seen = seen found_at.0 stands.at.node found_at.1;
            stands = subst (λ name. StandsAt rows nodes name other.code other.node) (sym there.1) stands.at;
          }
