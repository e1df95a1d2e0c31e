-- What is built for a request, by what is built of its callback.
use Rattle.std.proofs.Common.{◌≡◌, ℕ, List, [], ◌∷◌, refl, sym, subst, ap, ◌∙◌, Option, Some, None, Result, Ok, Err}
use Rattle.std.specs.Prelude.{IfSome}
use Rattle.std.specs.Option.{option_map, option_and_then}
use Rattle.std.specs.Result.{IsErrAnd}
use Rattle.oe_dims.specs.declared.kind.Kind.{Kind}
use Rattle.oe_graph.specs.Faults.{IsLeast}
use Rattle.oe_graph.specs.Form.{callback_name}
use Rattle.oe_graph.specs.Read.{IsFault}
use Rattle.oe_graph.specs.declared.code.Code.{Code}
use Rattle.oe_graph.specs.declared.fault.Fault.{Fault}
use Rattle.oe_graph.specs.declared.fault.Refusal.{Refusal}
use Rattle.oe_graph.specs.declared.fault.Refusal.TheVariants as refusal
use Rattle.oe_expr.specs.Callback.{Callback, IsFaultlessCallback, StandsInCallbackAt}
use Rattle.oe_meanings.specs.Callbacks.{IsBuilt, StandsInCallback, of_cells, of_sums}
use Rattle.oe_graph.specs.Tree.{PlainGraph}
use Rattle.oe_requests.specs.Operations.{Outline, operation_of, accumulate, reduce, callback_under, dimension_named, reduction_scope}
use Rattle.oe_requests.specs.PlainRequests.{plain_operation}
use Rattle.oe_requests.specs.Requests.{Called, CubeRequest, load_collection, filter_bbox, filter_temporal, filter_bands, apply, apply_kernel, reduce_dimension, aggregate_temporal, aggregate_temporal_period, apply_dimension, merge_cubes, mask, save_result}
use Rattle.oe_requests.specs.RunningSums.{ignores_nulls, AreSums, StandsInSums}
use Rattle.oe_meanings.specs.Stands.{callback_in, callback_on, sums_of}
use Rattle.oe_requests.specs.declared.operation.Operation.{Operation}

-- a request with a callback of cells has none of running sums
pub no_sums : (r : CubeRequest) (cubes : List Outline) (found : List ℕ × Callback) → callback_on r cubes ≡ Some found → sums_of r ≡ None
no_sums (load_collection id box time bands) cubes found e = refl
no_sums (filter_bbox data_id box) cubes found e = refl
no_sums (filter_temporal data_id time name) cubes found e = refl
no_sums (filter_bands data_id bands) cubes found e = refl
no_sums (apply data_id c) cubes found e = refl
no_sums (apply_kernel data_id kernel factor border replace) cubes found e = refl
no_sums (reduce_dimension data_id name c) cubes found e = refl
no_sums (aggregate_temporal data_id intervals name c) cubes found e = refl
no_sums (aggregate_temporal_period data_id period name c) cubes found e = refl
no_sums (apply_dimension data_id callback) cubes found e = absurd cc
no_sums (merge_cubes one two resolver) cubes found e = refl
no_sums (mask data_id mask_id replacement) cubes found e = refl
no_sums (save_result data_id format) cubes found e = refl

-- an operation by a callback of cells in which no fault stands
pub built_by : (id : List ℕ) (r : CubeRequest) (one : Outline) (o : Operation) (argument : List ℕ) (c : Callback)
    → ((others : List Outline) → operation_of r (one ∷ others) ≡ Some (plain_operation o))
    → callback_in (plain_operation o) ≡ Some (argument, c) → IsFaultlessCallback c → IsBuilt id r one (Ok (Some o))
built_by id r one o argument c is by faultless = record {
  built = λ others. sym (is others);
  faultless = λ others. (rw (is others, by) faultless, none others);
  refused = tt;
}
  where
    none : (others : List Outline) → IfSome (sums_of r) AreSums
    none others =
        let on : callback_on r (one ∷ others) ≡ Some (argument, c) = ap (option_and_then callback_in) (is others) ∙ by in
        subst (λ o. IfSome o AreSums) (sym (no_sums r (one ∷ others) (argument, c) on)) tt

-- running sums
pub built_sums : (id data_id : List ℕ) (g : PlainGraph) (one : Outline) (o : Operation) → plain_operation o ≡ accumulate (ignores_nulls g) → AreSums g
    → IsBuilt id (apply_dimension data_id g) one (Ok (Some o))
built_sums id data_id g one o is sums = record {
  built = λ others. ap Some is;
  faultless = λ others. (tt, sums);
  refused = tt;
}

-- a fault of the callback
stands_from : (id : List ℕ) (r : CubeRequest) (one : Outline) (argument : List ℕ) (c : Callback)
    → ((others : List Outline) → callback_on r (one ∷ others) ≡ Some (argument, c))
    → (code : Code) (name : List ℕ) → StandsInCallback id r one code name → StandsInCallbackAt c (callback_name id argument) code name
stands_from id r one argument c is code name (of_cells {argument = other} {c = callback} here stands) =
    let same : (other, callback) ≡ (argument, c) = let both = sym (here []) ∙ is [] in cc in
    subst (λ (p : List ℕ × Callback). StandsInCallbackAt p.1 (callback_name id p.0) code name) same stands
stands_from id r one argument c is code name (of_sums {g = g} here stands) =
    let none : None ≡ Some g = sym (no_sums r (one ∷ []) (argument, c) (is [])) ∙ here in absurd cc

pub refused_by : (id : List ℕ) (r : CubeRequest) (one : Outline) (argument : List ℕ) (c : Callback)
    → ((others : List Outline) → callback_on r (one ∷ others) ≡ Some (argument, c))
    → (e : Refusal) → IsFault (StandsInCallbackAt c (callback_name id argument)) e
    → (result : Result (Option Operation) Refusal) → IsErrAnd result (λ other. other ≡ e) → IsBuilt id r one result
refused_by id r one argument c is e h (Err other) same = record {
  built = tt;
  faultless = tt;
  refused = subst (IsFault (StandsInCallback id r one)) (sym same) (by e h);
}
  where
    by : (e : Refusal) → IsFault (StandsInCallbackAt c (callback_name id argument)) e → IsFault (StandsInCallback id r one) e
    by (refusal.Fault fault) h = record {
      stands = of_cells is h.stands;
      least = λ other s. h.least other (stands_from id r one argument c is other.code other.node s);
    }
    by refusal.OutOfMemory h = tt
refused_by id r one argument c is e h (Ok other) same = absurd same

-- a fault of running sums
none_is_some : (found : List ℕ × Callback) → None ≡ Some found → ⊥
none_is_some found e = absurd cc

sums_from : (id data_id : List ℕ) (g : PlainGraph) (one : Outline) (code : Code) (name : List ℕ)
    → StandsInCallback id (apply_dimension data_id g) one code name → StandsInSums g id code name
sums_from id data_id g one code name (of_cells {argument = argument} {c = c} here stands) =
    absurd (none_is_some (argument, c) (here []))
sums_from id data_id g one code name (of_sums {g = other} here stands) =
    let same : other ≡ g = cc in subst (λ x. StandsInSums x id code name) same stands

pub refused_sums : (id data_id : List ℕ) (g : PlainGraph) (one : Outline) (e : Refusal) → IsFault (StandsInSums g id) e
    → (result : Result (Option Operation) Refusal) → IsErrAnd result (λ other. other ≡ e) → IsBuilt id (apply_dimension data_id g) one result
refused_sums id data_id g one e h (Err other) same = record {
  built = tt;
  faultless = tt;
  refused = subst (IsFault (StandsInCallback id (apply_dimension data_id g) one)) (sym same) (by e h);
}
  where
    by : (e : Refusal) → IsFault (StandsInSums g id) e → IsFault (StandsInCallback id (apply_dimension data_id g) one) e
    by (refusal.Fault fault) h = record {
      stands = of_sums refl h.stands;
      least = λ other s. h.least other (sums_from id data_id g one other.code other.node s);
    }
    by refusal.OutOfMemory h = tt
refused_sums id data_id g one e h (Ok other) same = absurd same

-- the operation of a reduction along the dimension of a name
pub reduces : (data_id name : List ℕ) (c : Called) (one : Outline) (along : Kind) → dimension_named name ≡ Some along
    → (others : List Outline)
    → operation_of (reduce_dimension data_id name c) (one ∷ others) ≡ Some (reduce along (callback_under (reduction_scope along one) c))
reduces data_id name c one along h others =
    ap (option_map (λ kind. reduce kind (callback_under (reduction_scope kind one) c))) h
