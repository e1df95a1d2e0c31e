-- The faults of a process hang on its members `process_graph` and `parameters` alone.
use Rattle.std.proofs.Common.{◌≡◌, ℕ, List, Option, codes, sym, ap, ◌∙◌}
use Rattle.std.specs.Prelude.{option_and_then, true}
use Rattle.std.specs.Option.{option_map_or}
use Rattle.serde_json.specs.Data.{Data, Members, object, put}
use Rattle.serde_json.specs.Find.{as_object}
use Rattle.serde_json.proofs.Views.{get_member-put_other}
use Rattle.oe_graph.specs.Form as form
use Rattle.oe_graph.specs.Form.{nodes_in, IsGraphObject, StandsIn}
use Rattle.oe_graph.specs.Parameters.{are_parameters}
use Rattle.oe_graph.specs.declared.code.Code.{Code}
use Rattle.oe_book.specs.Laws.{IdLeavesFaults}

same_objects : (d e : Data) (nodes : Members) (name : List ℕ) → nodes_in d ≡ nodes_in e → IsGraphObject d nodes name
    → IsGraphObject e nodes name
same_objects d e nodes name same is = record { main = is.main; is_main = sym same ∙ is.is_main; within = is.within }

-- of two objects with the same nodes the same faults stand
same_faults : (ms ns : Members) → nodes_in (object ms) ≡ nodes_in (object ns) → (code : Code) (node : List ℕ)
    → StandsIn (object ms) code node → StandsIn (object ns) code node
same_faults ms ns same code node (form.graph_unreadable none) = absurd cc
same_faults ms ns same code node (form.process_graph_missing none) = form.process_graph_missing (sym same ∙ none)
same_faults ms ns same code node (form.node_id_invalid is member invalid) =
    form.node_id_invalid (same_objects (object ms) (object ns) _ _ same is) member invalid
same_faults ms ns same code node (form.node_invalid is member valid invalid) =
    form.node_invalid (same_objects (object ms) (object ns) _ _ same is) member valid invalid
same_faults ms ns same code node (form.result_node_count is other) =
    form.result_node_count (same_objects (object ms) (object ns) _ _ same is) other

pub other_name : codes "process_graph" ≡ codes "id" → ⊥
other_name e = cc

pub other_parameters : codes "parameters" ≡ codes "id" → ⊥
other_parameters e = cc

pub id_leaves_faults : IdLeavesFaults
id_leaves_faults ms id =
    let nodes : nodes_in (object (put (codes "id") id ms)) ≡ nodes_in (object ms) =
    ap (option_and_then as_object) (get_member-put_other (codes "process_graph") (codes "id") id ms other_name) in (
      λ code node. (same_faults (put (codes "id") id ms) ms nodes code node, same_faults ms (put (codes "id") id ms) (sym nodes) code node),
      ap (λ (found : Option Data). option_map_or are_parameters found true)
          (get_member-put_other (codes "parameters") (codes "id") id ms other_parameters),
    )
