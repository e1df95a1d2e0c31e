-- A resolved callback without faults keeps its kind: each value is null, Over or of the kind, and so no cell of another kind
-- is ever met.
use Rattle.std.proofs.Common.{◌≡◌, ℕ, zero, suc, ◌+◌, ◌<◌, ◌∷◌, [], List, Bool, true, false, ◌||◌, length, slice_index_or, Option, Some, None, refl, sym, subst, Contains, arith, unwrap_or}
use Rattle.std.specs.List.{list_any}
use Rattle.oe_cell.specs.declared.cell.Cell.{Cell}
use Rattle.oe_cube.specs.Kinds.{IsOfKind}
use Rattle.oe_dims.specs.Names.{same_name}
use Rattle.oe_dims.proofs.OrderLemmas.{same_name_refl}
use Rattle.oe_dims.specs.declared.kind.CellKind.{CellKind}
use Rattle.oe_dims.specs.declared.kind.CellKind.TheVariants.{Numbers}
use Rattle.oe_graph.specs.Printed.{ids_of, node_count}
use Rattle.oe_graph.specs.References.{references_named, Refers, Chain, none}
use Rattle.oe_graph.specs.Resolved.{IsResolvedObject, IsResolvedUnder}
use Rattle.oe_graph.specs.Tree.{Nodes, PlainNode}
use Rattle.oe_graph.specs.declared.code.Code.{Code}
use Rattle.oe_graph.proofs.ResolvedLemmas.{Chain-end, references_end, resolved_object, result_node}
use Rattle.oe_expr.specs.Callback.{Callback, IsFaultlessCallback, KeepsKind, environment}
use Rattle.oe_expr.specs.Kinds.{FitsKind}
use Rattle.oe_expr.specs.NodeKinds.{graph_kind}
use Rattle.oe_expr.specs.Nodes.{node_named, result_id}
use Rattle.oe_expr.specs.Scope.{PlainScope, scope_parameters}
use Rattle.oe_expr.specs.Stands.{IsSound, sound, StandsAt, own_fault}
use Rattle.oe_expr.proofs.NodeLemmas.{node_is, node_there, id_at_is, id_within}
use Rattle.oe_expr.proofs.SoundLemmas.{sound_fits}

-- ---- where no fault stands each node is sound

module _ (scope : PlainScope) (context : Cell) (nodes : Nodes) (result : ℕ)
    (is : IsResolvedObject true (scope_parameters scope) nodes result)
    (none_stands : (code : Code) (name : List ℕ) → StandsAt scope context nodes name code → ⊥) where
  -- a node is sound where those are that it refers to
  from_below : (name : List ℕ) → Contains (ids_of nodes) name
      → ((other : List ℕ) → Refers nodes name other → Contains (ids_of nodes) other → IsSound scope context nodes other) → IsSound scope context nodes name
  from_below name there later = by (node_named name nodes) refl
    where
      by : (o : Option PlainNode) → node_named name nodes ≡ o → IsSound scope context nodes name
      by None named = absurd (node_there nodes name there named)
      by (Some n) named = own (own_fault scope context nodes n) refl
        where
          deeper : (other : List ℕ) → Contains (references_named n.arguments) other → IsSound scope context nodes other
          deeper other refers =
              let at = node_is nodes name n named in
              later other (record { from = n; is_node = at.0; is_named = at.1; refers = refers }) ((is.each n at.0).names_nodes other refers)

          own : (o : Option Code) → own_fault scope context nodes n ≡ o → IsSound scope context nodes name
          own None first = sound named deeper first
          own (Some code) first = absurd (none_stands code name (record { node = n; is_node = named; below = deeper; first = first }))

  -- by the way down that led to the node, which has an end
  sound_down : (fuel count : ℕ) (from name : List ℕ) → count + fuel ≡ node_count nodes → Contains (ids_of nodes) from
      → Chain nodes count from name → Contains (ids_of nodes) name → IsSound scope context nodes name
  sound_down zero count from name e has chain there =
      let ends = references_end nodes result count from name is chain has in
      absurd (omega arith)
  sound_down (suc fuel) count from name e has chain there =
      from_below name there (λ other one named. sound_down fuel (suc count) from other (omega arith) has (Chain-end nodes count from name other chain one) named)

  pub each_sound : (name : List ℕ) → Contains (ids_of nodes) name → IsSound scope context nodes name
  each_sound name has = sound_down (node_count nodes) 0 name name (omega arith) has none has

-- ---- the parameters that a node refers to are those of the scope

pub sees_of : (names : List (List ℕ)) (name : List ℕ) (k : ℕ) → k < length names → slice_index_or names k name ≡ name
    → list_any (same_name name) names ≡ true
sees_of [] name k below is = absurd (omega arith)
sees_of (first ∷ names) name zero below is =
    let same : same_name name first ≡ true = subst (λ n. same_name name n ≡ true) (sym is) (same_name_refl name) in
    rw same refl
sees_of (first ∷ names) name (suc k) below is = or_right (same_name name first) _ (sees_of names name k (omega arith) is)
  where
    or_right : (a b : Bool) → b ≡ true → (a || b) ≡ true
    or_right true b e = refl
    or_right false b e = e

-- ---- the kind of the value

fits_of : (kind : Option CellKind) (c : Cell) → FitsKind kind c → IsOfKind (unwrap_or kind Numbers) c
fits_of (Some kind) c fits = fits
fits_of None c fits = fits.0

-- a resolved callback without faults keeps its kind
pub keeps_kind : (c : Callback) → IsResolvedUnder true (scope_parameters c.scope) c.graph → IsFaultlessCallback c → KeepsKind c
keeps_kind c resolved valid = λ x y cells list of_scope.
    let is = resolved_object true (scope_parameters c.scope) c.graph resolved in
    let nodes = c.graph.nodes in
    let none_stands = λ (code : Code) (name : List ℕ) (s : StandsAt c.scope c.context nodes name code).
    valid [] code name (record { id = name; at = s; is_named = refl }) in
    let there = result_node nodes c.graph.result is in
    let named : result_id c.graph ≡ there.node.id = id_at_is nodes c.graph.result there.node there.is_there in
    let has : Contains (ids_of nodes) (result_id c.graph) =
    subst (Contains (ids_of nodes)) (sym named) (id_within nodes c.graph.result there.node there.is_there) in
    fits_of (graph_kind c.scope c.context c.graph) _
    (sound_fits c.scope c.context nodes is.acyclic (environment c x y cells list) of_scope.cells_fit refl
    (λ n has_n name has_name. let seen = (is.each n has_n).names_parameters name has_name in sees_of (scope_parameters c.scope) name seen.0 seen.1 seen.2)
    (result_id c.graph) (each_sound c.scope c.context nodes c.graph.result is none_stands (result_id c.graph) has))
