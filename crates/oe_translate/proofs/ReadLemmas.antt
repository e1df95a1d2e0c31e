-- What is read of the arguments that are written: what they were written from.
use Rattle.std.proofs.Common.{◌≡◌, ℕ, Bool, true, List, [], ◌∷◌, map, Option, Some, None, refl, ap, ◌∙◌}
use Rattle.std.specs.Prelude.{codes, ℤ, IfSome, unwrap_or}
use Rattle.std.specs.List.{All, AllByRecursion}
use Rattle.std.specs.Option.{option_map, option_and_then}
use Rattle.std.proofs.lemmas.List.Elements.{recursion_from_All}
use Rattle.oe_cell.specs.declared.cell.Cell.{Cell}
use Rattle.oe_dims.specs.Instant.{IsInstant}
use Rattle.oe_dims.proofs.InstantLemmas.{instant_read-instant_text}
use Rattle.oe_graph.specs.References.{argument_named}
use Rattle.oe_graph.specs.Tree as tree
use Rattle.oe_graph.specs.Tree.{Argument, Named, PlainGraph, values_from_list}
use Rattle.oe_expr.specs.Requests.{read, with_both}
use Rattle.oe_expr.specs.Scope.{read_or_none}
use Rattle.oe_requests.specs.Parameters.{by_labels, callback_in, cube_in, each_in, extent_from, extent_in, instant_in, intervals_of, is_limited, labelled_interval, list_in, literal_in, null_or, text_in, where_it}
use Rattle.oe_requests.specs.Requests.{called, aggregate_temporal, cube_request_at, intervals_in}
use Rattle.oe_requests.specs.declared.extent.Interval.{Interval}
use Rattle.oe_translate.specs.Written.{IsWritable, aggregate_arguments, end_argument, extent_argument, given, instant_argument, label_argument, list_of}

-- ---- arguments as they are given

pub read_given : {A : Type 0} (reader : Argument → Option A) (name : List ℕ) (arguments : Named) (x : A)
    → read reader name arguments ≡ Some x → reader (given name arguments) ≡ Some x
read_given reader name arguments x e = by (argument_named name arguments) e
  where
    by : (o : Option Argument) → option_and_then reader o ≡ Some x → reader (unwrap_or o tree.null) ≡ Some x
    by None e = absurd cc
    by (Some a) e = e

-- ---- intervals

instant_again : (seconds : ℤ) → IsInstant seconds → instant_in (instant_argument seconds) ≡ Some seconds
instant_again seconds is = ap read_or_none (instant_read-instant_text seconds is.first is.last)

end_again : (end : Option ℤ) → IfSome end IsInstant → null_or instant_in (end_argument end) ≡ Some end
end_again None is = refl
end_again (Some seconds) is = ap (option_map Some) (instant_again seconds is)

where_true : {A : Type 0} (test : A → Bool) (a : A) → test a ≡ true → where_it test a ≡ Some a
where_true test a e = rw e refl

extent_again : (i : Interval) → IsWritable i → extent_in (extent_argument i) ≡ Some i.extent
extent_again i w =
    ap (λ o. option_and_then (where_it is_limited) (with_both extent_from o (null_or instant_in (end_argument i.extent.end)))) (end_again i.extent.start w.start)
    ∙ (ap (λ o. option_and_then (where_it is_limited) (with_both extent_from (Some i.extent.start) o)) (end_again i.extent.end w.end)
    ∙ where_true is_limited i.extent w.limited)

each_again : {A : Type 0} (reader : Argument → Option A) (written : Interval → Argument) (part : Interval → A)
    → ((i : Interval) → IsWritable i → reader (written i) ≡ Some (part i))
    → (intervals : List Interval) → AllByRecursion IsWritable intervals
    → each_in reader (values_from_list (map written intervals)) ≡ Some (map part intervals)
each_again reader written part again [] w = refl
each_again {A} reader written part again (i ∷ intervals) w =
    ap (λ o. with_both (λ (x : A) (xs : List A). x ∷ xs) o (each_in reader (values_from_list (map written intervals)))) (again i w.0)
    ∙ ap (with_both (λ (x : A) (xs : List A). x ∷ xs) (Some (part i))) (each_again reader written part again intervals w.1)

by_labels_again : (intervals : List Interval) → by_labels (map (λ (i : Interval). i.extent) intervals) (map (λ (i : Interval). i.label) intervals) ≡ Some intervals
by_labels_again [] = refl
by_labels_again (i ∷ intervals) = ap (option_map (λ rest. labelled_interval i.extent i.label ∷ rest)) (by_labels_again intervals)

intervals_again : (intervals : List Interval) → intervals_of (map (λ (i : Interval). i.extent) intervals) (map (λ (i : Interval). i.label) intervals) ≡ Some intervals
intervals_again [] = refl
intervals_again (i ∷ intervals) = by_labels_again (i ∷ intervals)

-- ---- `aggregate_temporal`

module _ (context cube dimension reducer : Argument) (intervals : List Interval) (writable : All IsWritable intervals) where
  abbrev arguments : Named
  arguments = aggregate_arguments context cube dimension intervals reducer

  intervals_read : intervals_in arguments ≡ Some intervals
  intervals_read =
      let each = recursion_from_All IsWritable intervals writable in
      let labels : list_in instant_in (list_of label_argument intervals) ≡ Some (map (λ (i : Interval). i.label) intervals) =
      each_again instant_in label_argument (λ i. i.label) (λ i w. instant_again i.label w.label) intervals each in
      let extents : list_in extent_in (list_of extent_argument intervals) ≡ Some (map (λ (i : Interval). i.extent) intervals) =
      each_again extent_in extent_argument (λ i. i.extent) extent_again intervals each in
      ap (option_and_then (λ es. option_and_then (intervals_of es) (list_in instant_in (list_of label_argument intervals)))) extents
      ∙ (ap (option_and_then (intervals_of (map (λ (i : Interval). i.extent) intervals))) labels ∙ intervals_again intervals)

  pub aggregate_read : (id p : List ℕ) (s : Option (List ℕ)) (data_id : List ℕ) (name : Option (List ℕ)) (graph : PlainGraph) (value : Cell)
      → p ≡ codes "aggregate_temporal"
      → cube_in cube ≡ Some data_id → null_or text_in dimension ≡ Some name → callback_in reducer ≡ Some graph → literal_in context ≡ Some value
      → cube_request_at (record { id = id; process_id = p; namespace = s; arguments = arguments })
      ≡ Some (aggregate_temporal data_id intervals name (called graph value))
  aggregate_read id p s data_id name graph value process reads_cube reads_name reads_graph reads_context =
      let both : with_both called (callback_in reducer) (literal_in context) ≡ Some (called graph value) =
      ap (λ o. with_both called o (literal_in context)) reads_graph ∙ ap (with_both called (Some graph)) reads_context in
      ap (λ x. cube_request_at (record { id = id; process_id = x; namespace = s; arguments = arguments })) process
      ∙ (ap (option_and_then (λ d. option_and_then (λ is. with_both (aggregate_temporal d is) (null_or text_in dimension)
      (with_both called (callback_in reducer) (literal_in context))) (intervals_in arguments))) reads_cube
      ∙ (ap (option_and_then (λ is. with_both (aggregate_temporal data_id is) (null_or text_in dimension)
      (with_both called (callback_in reducer) (literal_in context)))) intervals_read
      ∙ (ap (λ o. with_both (aggregate_temporal data_id intervals) o (with_both called (callback_in reducer) (literal_in context))) reads_name
      ∙ ap (with_both (aggregate_temporal data_id intervals) (Some name)) both)))
