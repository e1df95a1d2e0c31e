-- What arguments have in them, be it references, parameters or callbacks: an aggregation that is written has no more of
-- them than what is put into it.
use Rattle.std.proofs.Common.{◌≡◌, ◌⊎◌, inl, inr, ℕ, ◌++◌, List, [], ◌∷◌, map, Option, Some, None, Contains, refl, subst}
use Rattle.std.specs.Prelude.{codes, unwrap_or, ℤ}
use Rattle.std.proofs.lemmas.List.Elements.{Contains-append_cases}
use Rattle.oe_dims.specs.Instant.{instant_text}
use Rattle.oe_graph.specs.References.{argument_named, callbacks_each, callbacks_in, callbacks_named, parameters_each, parameters_in, parameters_named, references_each, references_in, references_named}
use Rattle.oe_graph.specs.Tree as tree
use Rattle.oe_graph.specs.Tree.{Argument, ListValues, Named, PlainGraph, PlainNode, values_from_list}
use Rattle.oe_graph.proofs.ResolvedLemmas.{callbacks_of_argument, parameters_of_argument, references_of_argument}
use Rattle.oe_requests.specs.declared.extent.Interval.{Interval}
use Rattle.oe_calls.proofs.Along.{none_there}
use Rattle.oe_translate.specs.Written.{aggregate_arguments, aggregated_node, end_argument, extent_argument, given, label_argument, list_of}

-- a list of values, and the arguments of a node, have what their parts have; a text and null have none
pub record IsOfParts (X : Type 0) (inside : Argument → List X) (each : ListValues → List X) (among : Named → List X) : Type 0 where
  pub no_values : each tree.no_arguments ≡ []
  pub one_value : (a : Argument) (rest : ListValues) → each (tree.argument a rest) ≡ inside a ++ each rest
  pub of_list : (rest : ListValues) → inside (tree.list rest) ≡ each rest
  pub of_text : (s : List ℕ) → inside (tree.text s) ≡ []
  pub of_null : inside tree.null ≡ []
  pub no_arguments : among tree.no_named ≡ []
  pub one_argument : (k : List ℕ) (a : Argument) (rest : Named) → among (tree.named k a rest) ≡ inside a ++ among rest
  pub of_argument : (name : List ℕ) (arguments : Named) (a : Argument) (x : X) → argument_named name arguments ≡ Some a
      → Contains (inside a) x → Contains (among arguments) x

pub of_references : IsOfParts (List ℕ) references_in references_each references_named
of_references = record {
  no_values = refl;
  one_value = λ a rest. refl;
  of_list = λ rest. refl;
  of_text = λ s. refl;
  of_null = refl;
  no_arguments = refl;
  one_argument = λ k a rest. refl;
  of_argument = references_of_argument;
}

pub of_parameters : IsOfParts (List ℕ) parameters_in parameters_each parameters_named
of_parameters = record {
  no_values = refl;
  one_value = λ a rest. refl;
  of_list = λ rest. refl;
  of_text = λ s. refl;
  of_null = refl;
  no_arguments = refl;
  one_argument = λ k a rest. refl;
  of_argument = parameters_of_argument;
}

pub of_callbacks : IsOfParts PlainGraph callbacks_in callbacks_each callbacks_named
of_callbacks = record {
  no_values = refl;
  one_value = λ a rest. refl;
  of_list = λ rest. refl;
  of_text = λ s. refl;
  of_null = refl;
  no_arguments = refl;
  one_argument = λ k a rest. refl;
  of_argument = callbacks_of_argument;
}

module _ (X : Type 0) (inside : Argument → List X) (each : ListValues → List X) (among : Named → List X)
    (is : IsOfParts X inside each among) (x : X) where
  in_value : (a : Argument) (rest : ListValues) → Contains (each (tree.argument a rest)) x → Contains (inside a) x ⊎ Contains (each rest) x
  in_value a rest has = Contains-append_cases (inside a) (each rest) x (subst (λ xs. Contains xs x) (is.one_value a rest) has)

  pub in_argument : (k : List ℕ) (a : Argument) (rest : Named) → Contains (among (tree.named k a rest)) x → Contains (inside a) x ⊎ Contains (among rest) x
  in_argument k a rest has = Contains-append_cases (inside a) (among rest) x (subst (λ xs. Contains xs x) (is.one_argument k a rest) has)

  none_in_null : Contains (inside tree.null) x → ⊥
  none_in_null has = none_there x (subst (λ xs. Contains xs x) is.of_null has)

  pub none_left : Contains (among tree.no_named) x → ⊥
  none_left has = none_there x (subst (λ xs. Contains xs x) is.no_arguments has)

  none_in_end : (o : Option ℤ) → Contains (inside (end_argument o)) x → ⊥
  none_in_end None has = none_in_null has
  none_in_end (Some seconds) has = none_there x (subst (λ xs. Contains xs x) (is.of_text (instant_text seconds)) has)

  none_in_values : Contains (each tree.no_arguments) x → ⊥
  none_in_values has = none_there x (subst (λ xs. Contains xs x) is.no_values has)

  none_in_extent : (i : Interval) → Contains (inside (extent_argument i)) x → ⊥
  none_in_extent i has =
      let end : ListValues = tree.argument (end_argument i.extent.end) tree.no_arguments in
      elim (in_value (end_argument i.extent.start) end
      (subst (λ xs. Contains xs x) (is.of_list (tree.argument (end_argument i.extent.start) end)) has)) as (λ _. ⊥) [
        | inl here ↦ none_in_end i.extent.start here
        | inr later ↦ elim (in_value (end_argument i.extent.end) tree.no_arguments later) as (λ _. ⊥) [
          | inl here ↦ none_in_end i.extent.end here
          | inr none ↦ none_in_values none
        ]
      ]

  none_in_label : (i : Interval) → Contains (inside (label_argument i)) x → ⊥
  none_in_label i has = none_there x (subst (λ xs. Contains xs x) (is.of_text (instant_text i.label)) has)

  none_in_each : (written : Interval → Argument) → ((i : Interval) → Contains (inside (written i)) x → ⊥) → (intervals : List Interval)
      → Contains (each (values_from_list (map written intervals))) x → ⊥
  none_in_each written none [] has = none_in_values has
  none_in_each written none (i ∷ intervals) has =
      elim (in_value (written i) (values_from_list (map written intervals)) has) as (λ _. ⊥) [
        | inl here ↦ none i here
        | inr later ↦ none_in_each written none intervals later
      ]

  none_in_list : (written : Interval → Argument) → ((i : Interval) → Contains (inside (written i)) x → ⊥) → (intervals : List Interval)
      → Contains (inside (list_of written intervals)) x → ⊥
  none_in_list written none intervals has =
      none_in_each written none intervals (subst (λ xs. Contains xs x) (is.of_list (values_from_list (map written intervals))) has)

  -- what an aggregation has, its context, data, dimension or reducer has
  pub of_aggregate : (context cube dimension reducer : Argument) (intervals : List Interval) (P : Type 0)
      → (Contains (inside context) x → P) → (Contains (inside cube) x → P) → (Contains (inside dimension) x → P) → (Contains (inside reducer) x → P)
      → Contains (among (aggregate_arguments context cube dimension intervals reducer)) x → P
  of_aggregate context cube dimension reducer intervals P one two three four has =
      let last : Named = tree.named (codes "reducer") reducer tree.no_named in
      let labels : Named = tree.named (codes "labels") (list_of label_argument intervals) last in
      let extents : Named = tree.named (codes "intervals") (list_of extent_argument intervals) labels in
      let dimensions : Named = tree.named (codes "dimension") dimension extents in
      let cubes : Named = tree.named (codes "data") cube dimensions in
      elim (in_argument (codes "context") context cubes has) as (λ _. P) [
        | inl here ↦ one here
        | inr in_cubes ↦ elim (in_argument (codes "data") cube dimensions in_cubes) as (λ _. P) [
          | inl here ↦ two here
          | inr in_dimensions ↦ elim (in_argument (codes "dimension") dimension extents in_dimensions) as (λ _. P) [
            | inl here ↦ three here
            | inr in_extents ↦ elim (in_argument (codes "intervals") (list_of extent_argument intervals) labels in_extents) as (λ _. P) [
              | inl here ↦ absurd (none_in_list extent_argument none_in_extent intervals here)
              | inr in_labels ↦ elim (in_argument (codes "labels") (list_of label_argument intervals) last in_labels) as (λ _. P) [
                | inl here ↦ absurd (none_in_list label_argument none_in_label intervals here)
                | inr in_last ↦ elim (in_argument (codes "reducer") reducer tree.no_named in_last) as (λ _. P) [
                  | inl here ↦ four here
                  | inr none ↦ absurd (none_left none)
                ]
              ]
            ]
          ]
        ]
      ]

  -- what the argument of a name has, the arguments have
  pub in_given : (name : List ℕ) (arguments : Named) → Contains (inside (given name arguments)) x → Contains (among arguments) x
  in_given name arguments has = by (argument_named name arguments) refl has
    where
      by : (o : Option Argument) → argument_named name arguments ≡ o → Contains (inside (unwrap_or o tree.null)) x → Contains (among arguments) x
      by None e h = absurd (none_in_null h)
      by (Some a) e h = is.of_argument name arguments a x e h

  -- so what the aggregation over calendar periods has, the node has
  pub of_periods : (intervals : List Interval) (n : PlainNode)
      → Contains (among (aggregated_node intervals n).arguments) x → Contains (among n.arguments) x
  of_periods intervals n has =
      of_aggregate (given (codes "context") n.arguments) (given (codes "data") n.arguments) (given (codes "dimension") n.arguments)
      (given (codes "reducer") n.arguments) intervals (Contains (among n.arguments) x)
      (in_given (codes "context") n.arguments) (in_given (codes "data") n.arguments) (in_given (codes "dimension") n.arguments)
      (in_given (codes "reducer") n.arguments) has
