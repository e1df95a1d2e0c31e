-- The assets of a graph: no fault stands in it where another of its nodes is the result.
use Rattle.std.proofs.Common.{◌≡◌, ℕ, zero, suc, ◌+◌, ◌<◌, List, [], ◌∷◌, ◌++◌, length, map, take, get_or, refl, sym, ap, ◌∙◌, subst, arith, Result, Ok}
use Rattle.std.specs.List.{AllByRecursion}
use Rattle.oe_book.specs.Assets.{asset_nodes}
use Rattle.oe_book.proofs.AssetLemmas.{nodes_below}
use Rattle.oe_dims.specs.declared.dims.DimsRow.{DimsRow}
use Rattle.oe_graph.specs.Faults.{IsLeast}
use Rattle.oe_graph.specs.Printed.{node_count}
use Rattle.oe_graph.specs.Read.{IsFaultless}
use Rattle.oe_graph.specs.Tree.{Nodes, no_nodes, node, PlainGraph, PlainNode, PlainStored}
use Rattle.oe_graph.specs.declared.code.Code.{Code}
use Rattle.oe_graph.specs.declared.fault.Fault.{Fault}
use Rattle.oe_judge.specs.Judged.{StandsWithCollections, having_result, of_cubes, of_names}
use Rattle.oe_calls.specs.Faults as faults
use Rattle.oe_calls.specs.Faults.{HasNode, IsWithin, StandsWithStored}
use Rattle.oe_resolve.specs.Defaults.{nodes_with_defaults}
use Rattle.oe_calls.specs.Rounds.{expanded_by, cleared_graph, cleared_stored, most_rounds, round_nodes, rounds}
use Rattle.oe_meanings.specs.Stands as cubes
use Rattle.oe_http.specs.Plain.{PlainRequest}
use Rattle.oe_jobs.specs.Plain.{PlainJob}
use Rattle.oe_routes.specs.Actions.{PlainAction, estimate}
use Rattle.oe_routes.specs.Answers.{estimate_graph, estimated, few_assets, graph_of_text, named_job, perform, sound}
use Rattle.oe_routes.specs.Found.{Found}
use Rattle.oe_routes.specs.Paths.{id_in}
use Rattle.oe_routes.specs.Performs.{AreWithin}
use Rattle.oe_routes.specs.Rejections.{Rejects, Settles, ◌>>=◌}
use Rattle.oe_routes.specs.Scenes.{PlainScene}
use Rattle.oe_routes.specs.declared.action.EstimateGraph.{EstimateGraph}
use Rattle.oe_routes.specs.declared.refusal.Rejection.{Rejection}
use Rattle.oe_routes.specs.declared.table.Operation.TheVariants as ops
use Rattle.oe_routes.proofs.CommandLemmas.{refuses_all}

-- ---- the nodes of a graph do not depend on its result

rounds_alike : (stored : List PlainStored) (times : ℕ) (a b : PlainGraph) → a.nodes ≡ b.nodes
    → (rounds stored times a).nodes ≡ (rounds stored times b).nodes
rounds_alike stored zero a b same = same
rounds_alike stored (suc times) a b same =
    ap (λ (ns : Nodes). round_nodes stored ns ns no_nodes) (rounds_alike stored times a b same)

module _ (stored : List PlainStored) (i j : ℕ) (ns : Nodes) where
  abbrev with_i : PlainGraph
  with_i = record { nodes = ns; result = i }

  abbrev with_j : PlainGraph
  with_j = record { nodes = ns; result = j }

  expanded_alike : (times : ℕ) → (expanded_by times stored with_i).nodes ≡ (expanded_by times stored with_j).nodes
  expanded_alike times = rounds_alike (map cleared_stored stored) times (cleared_graph with_i) (cleared_graph with_j) refl

  -- a graph has the nodes of another with the same nodes
  abbrev has_alike : (a b : PlainGraph) → a.nodes ≡ b.nodes → (n : PlainNode) (name : List ℕ)
      → HasNode stored a n name → HasNode stored b n name
  has_alike a b same n name has = record {
    object = has.object;
    object_name = has.object_name;
    scope = has.scope;
    within = subst (IsWithin stored has.object_name has.scope has.object [] []) same has.within;
    is_node = has.is_node;
    is_named = has.is_named;
  }

  abbrev has_by : (times : ℕ) (n : PlainNode) (name : List ℕ) → HasNode stored (expanded_by times stored with_i) n name
      → HasNode stored (expanded_by times stored with_j) n name
  has_by times n name has =
      has_alike (expanded_by times stored with_i) (expanded_by times stored with_j) (expanded_alike times) n name has

  names_alike : (code : Code) (name : List ℕ) → StandsWithStored stored with_i code name
      → StandsWithStored stored with_j code name
  names_alike code name (faults.process_unsupported has brings stands) = faults.process_unsupported has brings stands
  names_alike code name (faults.process_recursive has reach reaches) = faults.process_recursive has reach reaches
  names_alike code name (faults.graph_too_large more) =
      faults.graph_too_large (subst (λ (m : Nodes). faults.most_main_nodes < node_count m) (expanded_alike (length stored)) more)
  names_alike code name (faults.callback_too_large has brings written more) =
      faults.callback_too_large has brings written more
  names_alike code name (faults.argument_unknown times h same there absent) =
      faults.argument_unknown times (has_by times _ name h) same there absent
  names_alike code name (faults.process_parameter_missing times h same there default optional absent) =
      faults.process_parameter_missing times (has_by times _ name h) same there default optional absent
  names_alike code name (faults.parameter_unknown h there absent) =
      faults.parameter_unknown (has_by most_rounds _ name h) there absent
  names_alike code name (faults.node_unknown times h there absent) =
      faults.node_unknown times (has_by times _ name h) there absent
  names_alike code name (faults.graph_cycle h leads) = faults.graph_cycle (has_by most_rounds _ name h) leads

-- the same graph with another result has the same faults
module _ (rows : List DimsRow) (stored : List PlainStored) (g : PlainGraph) (i : ℕ) where
  faults_alike : (code : Code) (name : List ℕ) → StandsWithCollections rows stored (having_result i g) code name
      → StandsWithCollections rows stored g code name
  faults_alike code name (of_names stands) = of_names (names_alike stored i g.result g.nodes code name stands)
  faults_alike code name (of_cubes none stands) =
      of_cubes (λ c n found. none c n (names_alike stored g.result i g.nodes c n found))
      (subst (λ (m : Nodes). cubes.StandsInGraph rows (nodes_with_defaults m) code name)
      (expanded_alike stored i g.result g.nodes most_rounds) stands)

  pub still_sound : IsFaultless (StandsWithCollections rows stored g)
      → IsFaultless (StandsWithCollections rows stored (having_result i g))
  still_sound none code name stands = none code name (faults_alike code name stands)

-- so it is not refused, whichever way its stored processes were made
pub not_refused : (rows : List DimsRow) (made stored : List PlainStored) (g : PlainGraph) (fault : Fault) → made ≡ stored
    → IsFaultless (StandsWithCollections rows stored g) → IsLeast (StandsWithCollections rows made g) fault → ⊥
not_refused rows made stored g fault same none least =
    none fault.code fault.node
    (subst (λ (s : List PlainStored). StandsWithCollections rows s g fault.code fault.node) same least.stands)

-- ---- the steps of an estimate

module _ (s : PlainScene) (f : Found) (user : List ℕ) (g : PlainGraph) where
  pub sound_refuses : (e : Rejection) → Rejects e (sound s f user g) → Rejects e (estimated s f user g)
  sound_refuses e h =
      refuses_all e (sound s f user g)
      (λ is_sound. few_assets g >>= λ are_few. Ok (estimate (map (estimate_graph s user g) (asset_nodes g)))) h

  pub assets_refuse : (e : Rejection) → sound s f user g ≡ Ok tt → Rejects e (few_assets g) → Rejects e (estimated s f user g)
  assets_refuse e is h =
      rw is (refuses_all e (few_assets g) (λ are_few. Ok (estimate (map (estimate_graph s user g) (asset_nodes g)))) h)

  pub are_estimated : (graphs : List EstimateGraph) → sound s f user g ≡ Ok tt → few_assets g ≡ Ok tt
      → graphs ≡ map (estimate_graph s user g) (asset_nodes g) → estimated s f user g ≡ Ok (estimate graphs)
  are_estimated graphs is few made = rw (is, few, made) refl

pub job_estimated : {X : Type 0} (view : X → PlainAction) (result : Result X Rejection) (s : PlainScene) (f : Found)
    (user : List ℕ) (r : PlainRequest) (job : PlainJob) → named_job s.book user (id_in r.path) ≡ Ok job
    → Settles view result (estimated s f user (graph_of_text job.process))
    → Settles view result (perform s f user r ops.EstimateJob)
job_estimated view result s f user r job named settles = rw named settles

-- ---- the nodes that make assets are nodes of the graph

pub assets_within : (g : PlainGraph) → AreWithin g (asset_nodes g)
assets_within g =
    let same : 0 + node_count g.nodes ≡ node_count g.nodes = omega arith in
    subst (λ (n : ℕ). AllByRecursion (λ i. i < n) (asset_nodes g)) same (nodes_below g.result 0 g.nodes)

pub within_at : (n : ℕ) (xs : List ℕ) (k d : ℕ) → AllByRecursion (λ i. i < n) xs → k < length xs → get_or xs k d < n
within_at n [] k d all within = absurd (omega (arith, within))
within_at n (x ∷ xs) zero d all within = all.0
within_at n (x ∷ xs) (suc k) d all within = within_at n xs k d all.1 (omega (arith, within))

-- what is made of the item of an index, beside what is made of all
pub made_at : {X Y : Type 0} (f : X → Y) (xs : List X) (made : List Y) (k : ℕ) (x : X) (y : Y) → map f xs ≡ made
    → k < length xs → x ≡ get_or xs k x → y ≡ get_or made k y → f x ≡ y
made_at {X = X} {Y = Y} f xs made k x y all within x_is y_is =
    by xs k within x_is (y_is ∙ ap (λ ys. get_or ys k y) (sym all))
  where
    by : (xs : List X) (k : ℕ) → k < length xs → x ≡ get_or xs k x → y ≡ get_or (map f xs) k y → f x ≡ y
    by [] k within is there = absurd (omega (arith, within))
    by (z ∷ xs) zero within is there = ap f is ∙ sym there
    by (z ∷ xs) (suc k) within is there = by xs k (omega (arith, within)) is there

-- one more item is made
pub take_more : {X Y : Type 0} (f : X → Y) (xs : List X) (k : ℕ) (x : X) → k < length xs → x ≡ get_or xs k x
    → map f (take (k + 1) xs) ≡ map f (take k xs) ++ f x ∷ []
take_more f [] k x within is = absurd (omega (arith, within))
take_more f (z ∷ xs) zero x within is = ap (λ y. f y ∷ []) (sym is)
take_more f (z ∷ xs) (suc k) x within is =
    let same : suc k + 1 ≡ suc (k + 1) = omega arith in
    ap (λ n. map f (take n (z ∷ xs))) same ∙ ap (λ ys. f z ∷ ys) (take_more f xs k x (omega (arith, within)) is)
