-- Changes of lists of trees, element by element.
use Rattle.std.proofs.Common.{◌≡◌, ℕ, Bool, List, [], ◌∷◌, map, refl, ap}
use Rattle.oe_graph.specs.Tree.{Argument, argument, named, node, Named, Nodes, PlainNode, PlainStored, values_from_list, named_from_list, nodes_from_list}
use Rattle.oe_graph.specs.Plain.{plain_arg, plain_args, plain_named, plain_nodes, plain_node}
use Rattle.oe_graph.specs.declared.tree.Arg.{Arg}
use Rattle.oe_graph.specs.declared.tree.Node.{Node}
use Rattle.oe_calls.specs.Rounds as rounds
use Rattle.oe_calls.specs.Renamed as renamed
use Rattle.oe_calls.specs.Substituted as substituted

-- a member under its name, its value changed
abbrev pub member_by : (Argument → Argument) → List ℕ × Arg → List ℕ × Argument
member_by f m = (m.0, f (plain_arg m.1))

pub renamed_each : (rename : List ℕ → List ℕ) (xs : List Arg)
    → values_from_list (map (λ a. renamed.renamed rename (plain_arg a)) xs) ≡ renamed.renamed_each rename (plain_args xs)
renamed_each rename [] = refl
renamed_each rename (a ∷ xs) = ap (argument (renamed.renamed rename (plain_arg a))) (renamed_each rename xs)

pub renamed_named : (rename : List ℕ → List ℕ) (ms : List (List ℕ × Arg))
    → named_from_list (map (member_by (renamed.renamed rename)) ms) ≡ renamed.renamed_named rename (plain_named ms)
renamed_named rename [] = refl
renamed_named rename (m ∷ ms) = ap (named m.0 (renamed.renamed rename (plain_arg m.1))) (renamed_named rename ms)

-- what stands in place of a call
module _ (stored : List PlainStored) (values : Named) (rename : List ℕ → List ℕ) where
  abbrev pub inlined : List (List ℕ) → Argument → Argument
  inlined own a = substituted.substituted stored own values (renamed.renamed rename a)

  pub inlined_each : (own : List (List ℕ)) (xs : List Arg)
      → values_from_list (map (λ a. inlined own (plain_arg a)) xs)
      ≡ substituted.substituted_each stored own values (renamed.renamed_each rename (plain_args xs))
  inlined_each own [] = refl
  inlined_each own (a ∷ xs) = ap (argument (inlined own (plain_arg a))) (inlined_each own xs)

  pub inlined_named : (own : List (List ℕ)) (ms : List (List ℕ × Arg))
      → named_from_list (map (member_by (inlined own)) ms)
      ≡ substituted.substituted_named stored own values (renamed.renamed_named rename (plain_named ms))
  inlined_named own [] = refl
  inlined_named own (m ∷ ms) = ap (named m.0 (inlined own (plain_arg m.1))) (inlined_named own ms)

  abbrev pub inlined_node : PlainNode → PlainNode
  inlined_node n = substituted.substituted_node stored values (renamed.renamed_node rename n)

  pub inlined_nodes : (ns : List Node)
      → nodes_from_list (map (λ n. inlined_node (plain_node n)) ns)
      ≡ substituted.substituted_nodes stored values (renamed.renamed_nodes rename (plain_nodes ns))
  inlined_nodes [] = refl
  inlined_nodes (n ∷ ns) =
      let m = inlined_node (plain_node n) in
      ap (node m.id m.process_id m.namespace m.arguments) (inlined_nodes ns)

pub round_each : (stored : List PlainStored) (waits : Bool) (all : Nodes) (xs : List Arg)
    → values_from_list (map (λ a. rounds.round_argument stored waits all (plain_arg a)) xs) ≡ rounds.round_each stored waits all (plain_args xs)
round_each stored waits all [] = refl
round_each stored waits all (a ∷ xs) =
    ap (argument (rounds.round_argument stored waits all (plain_arg a))) (round_each stored waits all xs)

pub round_named : (stored : List PlainStored) (waits : Bool) (all : Nodes) (ms : List (List ℕ × Arg))
    → named_from_list (map (member_by (rounds.round_argument stored waits all)) ms) ≡ rounds.round_named stored waits all (plain_named ms)
round_named stored waits all [] = refl
round_named stored waits all (m ∷ ms) =
    ap (named m.0 (rounds.round_argument stored waits all (plain_arg m.1))) (round_named stored waits all ms)
