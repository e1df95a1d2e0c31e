-- The index of an id in a round: whether there is one, and how many nodes there are where there is none.
use Rattle.std.proofs.Common.{◌≡◌, ℕ, suc, ◌+◌, ◌||◌, Bool, true, false, cond, if◌then◌else◌, List, [], ◌∷◌, Option, Some, None, option_map, refl, ap, ◌∙◌, add-one}
use Rattle.std.specs.List.{list_any}
use Rattle.std.specs.Prelude.{is_some, unwrap_or}
use Rattle.oe_dims.specs.Indices.{index_where}
use Rattle.oe_dims.specs.Names.{same_name}
use Rattle.oe_graph.specs.Indices.{index_named}
use Rattle.oe_graph.specs.Printed.{ids_of, node_count}
use Rattle.oe_graph.specs.Tree.{Nodes, no_nodes, node}
use Rattle.oe_calls.specs.Rounds.{index_of}
use Rattle.oe_calls.proofs.NodeLemmas.{same_name-turned}

some_where : (ids : List (List ℕ)) (id : List ℕ)
    → is_some (index_where (λ (other : List ℕ). same_name other id) ids) ≡ list_any (same_name id) ids
some_where [] id = refl
some_where (x ∷ ids) id =
    by (same_name x id) (index_where (λ (other : List ℕ). same_name other id) ids) _ (some_where ids id)
    ∙ ap (λ b. b || list_any (same_name id) ids) (same_name-turned x id)
  where
    by : (b : Bool) (o : Option ℕ) (rest : Bool) → is_some o ≡ rest
        → is_some (cond b (Some 0) (option_map (λ n. n + 1) o)) ≡ (b || rest)
    by true o rest is = refl
    by false None rest is = is
    by false (Some k) rest is = is

-- an id is found exactly where it is one of the ids
pub some_named : (nodes : Nodes) (id : List ℕ) → is_some (index_named nodes id) ≡ list_any (same_name id) (ids_of nodes)
some_named nodes id = some_where (ids_of nodes) id

-- the index of an id, or how many nodes there are where none has it
pub index_of-is : (nodes : Nodes) (id : List ℕ) → unwrap_or (index_named nodes id) (node_count nodes) ≡ index_of id nodes
index_of-is no_nodes id = refl
index_of-is (node other p s args rest) id = by (same_name other id) (index_named rest id) (index_of-is rest id)
  where
    by : (b : Bool) (o : Option ℕ) → unwrap_or o (node_count rest) ≡ index_of id rest
        → unwrap_or (cond b (Some 0) (option_map (λ n. n + 1) o)) (suc (node_count rest)) ≡ (if b then 0 else suc (index_of id rest))
    by true o is = refl
    by false None is = ap suc is
    by false (Some k) is = add-one k ∙ ap suc is
