-- What is kept of the nodes of a checked graph, by their indices.
use Rattle.std.proofs.Common.{◌≡◌, ℕ, ◌<◌, true, List, length, slice_get, get_or, Some, sym, ap, subst, ◌∙◌}
use Rattle.std.specs.Arc.{arc_value}
use Rattle.std.specs.List.{slice_index_or}
use Rattle.std.specs.Option.{option_and_then}
use Rattle.std.proofs.lemmas.Option.{slice_get-get_or}
use Rattle.oe_dims.specs.Names.{names_rise}
use Rattle.oe_graph.specs.Printed.{node_count}
use Rattle.oe_graph.specs.Tree.{node, PlainNode}
use Rattle.oe_graph.proofs.ResolvedLemmas.{length-ids_of, node_below}
use Rattle.oe_order.specs.declared.Links.{Links}
use Rattle.oe_expr.proofs.NodeLemmas.{id_at_is, index_of_node}
use Rattle.oe_check.specs.Checked.{CheckedGraph, outline_of_node, operation_of_node, collection_of_node, AreFaultless, IsKept}
use Rattle.oe_meanings.specs.Graphs.{outline_at, operation_at}
use Rattle.oe_check.specs.Links.{loaded_collection}
use Rattle.oe_requests.specs.Operations.{Outline}
use Rattle.oe_requests.specs.PlainRequests.{plain_operation}
use Rattle.oe_check.specs.Walked.{IsNodeOf, State, outline_kept, IsSoundOf}
use Rattle.oe_check.specs.declared.checked.CheckedNode.{CheckedNode}
use Rattle.oe_graph.specs.declared.node_state.NodeState.TheVariants.{Sound}
use Rattle.oe_check.proofs.LinkLemmas.{few, named_at, rises}

-- this is kept of a node
pub record IsKeptOf (c : CheckedGraph) (index : ℕ) (kept : CheckedNode) : Type 0 where
  pub shape_is : arc_value kept.shape ≡ (outline_of_node c index).shape
  pub kind_is : kept.kind ≡ (outline_of_node c index).kind
  pub operation_is : operation_of_node c index ≡ Some (plain_operation kept.operation)
  pub collection_is : kept.collection ≡ collection_of_node c index

module _ (c : CheckedGraph) (ids : List (List ℕ)) (states : List State) (links : List Links) (k : IsKept c ids states links) where
  pub kept_at : (index : ℕ) → index < node_count c.nodes
      → (kept : CheckedNode) × (slice_get states index ≡ Some (Sound kept)) × IsKeptOf c index kept
  kept_at index below =
      let there = node_below c.nodes index below in
      let n = there.node in
      let one = k.sound index n there.is_there in
      let so = one.2 in
      let named = named_at c.nodes k.resolved index n there.is_there in
      let outline : outline_of_node c index ≡ outline_kept one.0 =
      ap (outline_at c.rows c.nodes) (id_at_is c.nodes index n there.is_there) ∙ so.outline_is in (
        one.0,
        one.1,
        record {
          shape_is = sym (ap (λ (o : Outline). o.shape) outline);
          kind_is = sym (ap (λ (o : Outline). o.kind) outline);
          operation_is = ap (option_and_then (operation_at c.rows c.nodes)) there.is_there ∙ so.operation_is n named;
          collection_is = sym (ap (option_and_then loaded_collection) there.is_there ∙ so.collection_is n named);
        },
      )

  module _ (index : ℕ) (below : index < node_count c.nodes) (s : State) (is : s ≡ slice_index_or states index s) where
    state_there : (kept : CheckedNode) → slice_get states index ≡ Some (Sound kept) → s ≡ Sound kept
    state_there kept at =
        let within : index < length states = subst (λ count. index < count) (sym k.as_many) below in
        let both : Some (get_or states index s) ≡ Some (Sound kept) = sym (slice_get-get_or states index s within) ∙ at in
        cc

    -- a state that is read is that of a node without a fault
    pub sound_there : ((kept : CheckedNode) → s ≡ Sound kept → ⊥) → ⊥
    sound_there none = let one = kept_at index below in none one.0 (state_there one.0 one.1)

    pub kept_there : (kept : CheckedNode) → s ≡ Sound kept → IsKeptOf c index kept
    kept_there kept so =
        let one = kept_at index below in
        let there = state_there one.0 one.1 in
        let same : one.0 ≡ kept = cc in
        subst (IsKeptOf c index) same one.2

  sound_of : (n : PlainNode) → IsNodeOf c.nodes n → (kept : CheckedNode) × IsSoundOf c.rows c.nodes n.id kept
  sound_of n has =
      let at = index_of_node c.nodes n has in
      let one = k.sound at.0 n at.1 in (one.0, one.2)

  pub faultless : AreFaultless c
  faultless = record {
    resolved = k.resolved;
    has_result = k.has_result;
    sound = λ n has. (sound_of n has).1.sound;
    sound_cells = λ n has. (sound_of n has).1.sound_cells;
  }

  -- ---- how many nodes there are, and their ids

  pub states_few : length states < 4294967296
  states_few = subst (λ count. count < 4294967296) (sym k.as_many) (few c.nodes k.resolved)

  pub ids_rise : names_rise ids ≡ true
  ids_rise = ap names_rise k.ids_are ∙ rises c.nodes k.resolved

  pub ids_few : length ids < 4294967296
  ids_few = subst (λ count. count < 4294967296) (sym (ap length k.ids_are ∙ length-ids_of c.nodes)) (few c.nodes k.resolved)
