-- Each reference of arguments names a node: as references are read, and as names are judged.
use Rattle.std.proofs.Common.{◌≡◌, ℕ, ◌&&◌, List, [], ◌∷◌, refl, sym, ap, ◌∙◌}
use Rattle.std.specs.List.{list_any}
use Rattle.oe_dims.specs.Names.{same_name}
use Rattle.oe_graph.specs.Indices.{are_known}
use Rattle.oe_graph.specs.Printed.{ids_of}
use Rattle.oe_graph.specs.References.{references_named}
use Rattle.oe_graph.specs.Tree.{Named, Nodes}
use Rattle.oe_resolve.specs.NameFaults.{know_named}
use Rattle.oe_resolve.proofs.CodeLemmas.{all_in, knows_all_named}
use Rattle.oe_calls.proofs.IndexLemmas.{some_named}

each_in : (nodes : Nodes) (r : List (List ℕ)) → are_known nodes r ≡ all_in (ids_of nodes) r
each_in nodes [] = refl
each_in nodes (id ∷ r) =
    ap (λ b. b && are_known nodes r) (some_named nodes id)
    ∙ ap (λ b. list_any (same_name id) (ids_of nodes) && b) (each_in nodes r)

-- each reference of arguments names a node
pub known-is : (nodes : Nodes) (a : Named) → are_known nodes (references_named a) ≡ know_named (ids_of nodes) a
known-is nodes a = each_in nodes (references_named a) ∙ sym (knows_all_named (ids_of nodes) a)
