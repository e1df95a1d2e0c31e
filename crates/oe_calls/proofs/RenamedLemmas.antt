-- What ids that stay the same leave as it is.
use Rattle.std.proofs.Common.{◌≡◌, ℕ, true, if◌then◌else◌, List, refl, ap, ◌∙◌}
use Rattle.oe_graph.specs.Tree.{Argument, null, flag, whole, inexact, text, list, object, from_node, from_parameter, callback, ListValues, no_arguments, argument, Named, no_named, named, Nodes, no_nodes, node}
use Rattle.oe_calls.specs.Renamed.{renamed, renamed_each, renamed_named, renamed_nodes}
use Rattle.oe_calls.specs.Rounds.{under_id}
use Rattle.oe_calls.specs.PlainValues.{rename_by}
use Rattle.oe_calls.specs.declared.values.Values.{Values}

module _ (rename : List ℕ → List ℕ) (keeps : (id : List ℕ) → rename id ≡ id) where
  mutual
    kept : (a : Argument) → renamed rename a ≡ a
    kept null = refl
    kept (flag b) = refl
    kept (whole z) = refl
    kept inexact = refl
    kept (text s) = refl
    kept (list rest) = ap list (kept_each rest)
    kept (object ms) = ap object (kept_named ms)
    kept (from_node id) = ap from_node (keeps id)
    kept (from_parameter name) = refl
    kept (callback ns result) = refl

    kept_each : (rest : ListValues) → renamed_each rename rest ≡ rest
    kept_each no_arguments = refl
    kept_each (argument a rest) =
        ap (λ b. argument b (renamed_each rename rest)) (kept a) ∙ ap (argument a) (kept_each rest)

    kept_named : (ms : Named) → renamed_named rename ms ≡ ms
    kept_named no_named = refl
    kept_named (named name a rest) =
        ap (λ b. named name b (renamed_named rename rest)) (kept a) ∙ ap (named name a) (kept_named rest)

  pub kept_nodes : (ns : Nodes) → renamed_nodes rename ns ≡ ns
  kept_nodes no_nodes = refl
  kept_nodes (node id p s args rest) =
      ap (λ k. node k p s (renamed_named rename args) (renamed_nodes rename rest)) (keeps id)
      ∙ (ap (λ ms. node id p s ms (renamed_nodes rename rest)) (kept_named args)
      ∙ ap (node id p s args) (kept_nodes rest))

-- as in a callback
pub kept_inside : (values : Values) → values.in_callback ≡ true → (id : List ℕ) → rename_by values id ≡ id
kept_inside values inside id = ap (λ b. if b then id else under_id values.call.now id) inside
