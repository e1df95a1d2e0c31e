-- The ids of the nodes that make assets.
use Rattle.std.proofs.Common.{◌≡◌, ℕ, suc, ◌+◌, true, List, [], ◌∷◌, map, refl, ap, sym, ◌∙◌, inl, inr, true≢false, arith, ◌<◌, subst}
use Rattle.std.specs.Prelude.{◌&&◌, nat_le}
use Rattle.std.specs.List.{AllByRecursion}
use Rattle.std.proofs.lemmas.Bool.{and_parts, and_from, cases_Bool}
use Rattle.oe_dims.specs.Names.{is_name_before, names_rise}
use Rattle.oe_dims.proofs.DistinctLemmas.{names_rank}
use Rattle.oe_graph.specs.Printed.{ids_of, node_count}
use Rattle.oe_graph.specs.Tree.{Nodes, no_nodes, node, PlainGraph}
use Rattle.oe_graph.specs.Valid.{are_valid_nodes, IsValidGraph}
use Rattle.oe_book.specs.Assets.{asset_ids, asset_ids_from, asset_nodes, asset_nodes_from, id_at, makes_asset}

-- nodes that stand behind some others have the ids at their indices
abbrev Stands : Nodes → ℕ → Nodes → Type 0
Stands all index rest = (k : ℕ) → id_at all (index + k) ≡ id_at rest k

ids_at : (result : ℕ) (all : Nodes) (index : ℕ) (rest : Nodes) → Stands all index rest
    → map (id_at all) (asset_nodes_from result index rest) ≡ asset_ids_from result index rest
ids_at result all index no_nodes stands = refl
ids_at result all index (node id process_id namespace arguments rest) stands =
    let here : id_at all index ≡ id = ap (id_at all) (let same : index ≡ index + 0 = omega arith in same) ∙ stands 0 in
    let later : Stands all (index + 1) rest = λ k.
    ap (id_at all) (let same : (index + 1) + k ≡ index + suc k = omega arith in same) ∙ stands (suc k) in
    let more = ids_at result all (index + 1) rest later in
    elim (cases_Bool (makes_asset result index process_id)) [
      | inl t ↦ rw t (ap (λ i. i ∷ map (id_at all) (asset_nodes_from result (index + 1) rest)) here ∙ ap (λ is. id ∷ is) more)
      | inr f ↦ rw f more
    ]

pub ids_of_nodes : (graph : PlainGraph) → map (id_at graph.nodes) (asset_nodes graph) ≡ asset_ids graph
ids_of_nodes graph = ids_at graph.result graph.nodes 0 graph.nodes (λ k. ap (id_at graph.nodes) (let same : 0 + k ≡ k = omega arith in same))

-- ---- they rise

before_trans : (a b d : List ℕ) → is_name_before a b ≡ true → is_name_before b d ≡ true → is_name_before a d ≡ true
before_trans a b d first second =
    elim (cases_Bool (is_name_before a d)) [
      | inl t ↦ t
      | inr f ↦ absurd (true≢false (sym first ∙ names_rank.chain a d b f (names_rank.one_way b d second)))
    ]

-- a name stands before each of some others
abbrev Leads : List ℕ → List (List ℕ) → Type 0
Leads a names = AllByRecursion (λ b. is_name_before a b ≡ true) names

leads_all : (a : List ℕ) (names : List (List ℕ)) → names_rise (a ∷ names) ≡ true → Leads a names
leads_all a [] rise = tt
leads_all a (b ∷ names) rise =
    let parts = and_parts (is_name_before a b) (names_rise (b ∷ names)) rise in
    (parts.0, leads_on a b parts.0 names (leads_all b names parts.1)) where
      leads_on : (a b : List ℕ) → is_name_before a b ≡ true → (names : List (List ℕ)) → Leads b names → Leads a names
      leads_on a b before [] leads = tt
      leads_on a b before (d ∷ names) leads = (before_trans a b d before leads.0, leads_on a b before names leads.1)

rest_rises : (a : List ℕ) (names : List (List ℕ)) → names_rise (a ∷ names) ≡ true → names_rise names ≡ true
rest_rises a [] rise = refl
rest_rises a (b ∷ names) rise = (and_parts (is_name_before a b) (names_rise (b ∷ names)) rise).1

rises_from : (a : List ℕ) (names : List (List ℕ)) → Leads a names → names_rise names ≡ true → names_rise (a ∷ names) ≡ true
rises_from a [] leads rise = refl
rises_from a (b ∷ names) leads rise = and_from (is_name_before a b) (names_rise (b ∷ names)) leads.0 rise

kept_lead : (a : List ℕ) (result index : ℕ) (nodes : Nodes) → Leads a (ids_of nodes) → Leads a (asset_ids_from result index nodes)
kept_lead a result index no_nodes leads = tt
kept_lead a result index (node id process_id namespace arguments rest) leads =
    elim (cases_Bool (makes_asset result index process_id)) [
      | inl t ↦ rw t (leads.0, kept_lead a result (index + 1) rest leads.1)
      | inr f ↦ rw f (kept_lead a result (index + 1) rest leads.1)
    ]

kept_rise : (result index : ℕ) (nodes : Nodes) → names_rise (ids_of nodes) ≡ true
    → names_rise (asset_ids_from result index nodes) ≡ true
kept_rise result index no_nodes rise = refl
kept_rise result index (node id process_id namespace arguments rest) rise =
    let more = kept_rise result (index + 1) rest (rest_rises id (ids_of rest) rise) in
    elim (cases_Bool (makes_asset result index process_id)) [
      | inl t ↦ rw t (rises_from id (asset_ids_from result (index + 1) rest) (kept_lead id result (index + 1) rest (leads_all id (ids_of rest) rise)) more)
      | inr f ↦ rw f more
    ]

pub asset_ids_rise : (graph : PlainGraph) → IsValidGraph graph → names_rise (asset_ids graph) ≡ true
asset_ids_rise graph valid =
    let parts = and_parts (nat_le (suc graph.result) (node_count graph.nodes) && names_rise (ids_of graph.nodes)) (are_valid_nodes graph.nodes) valid in
    kept_rise graph.result 0 graph.nodes (and_parts _ _ parts.0).1

-- the nodes that make assets are nodes of the graph
pub nodes_below : (result index : ℕ) (nodes : Nodes)
    → AllByRecursion (λ i. i < index + node_count nodes) (asset_nodes_from result index nodes)
nodes_below result index no_nodes = tt
nodes_below result index (node id process_id namespace arguments rest) =
    let same : (index + 1) + node_count rest ≡ index + suc (node_count rest) = omega arith in
    let more : AllByRecursion (λ i. i < index + suc (node_count rest)) (asset_nodes_from result (index + 1) rest) =
    subst (λ (n : ℕ). AllByRecursion (λ i. i < n) (asset_nodes_from result (index + 1) rest)) same
    (nodes_below result (index + 1) rest) in
    elim (cases_Bool (makes_asset result index process_id)) [
      | inl t ↦ rw t (omega arith, more)
      | inr f ↦ rw f more
    ]
