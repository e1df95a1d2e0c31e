-- Arguments and nodes of the code beside the plain ones: their parts, and what stands at an index.
use Rattle.std.proofs.Common.{◌≡◌, ℕ, zero, suc, ◌<◌, ◌≤◌, ◌||◌, Bool, true, false, List, [], ◌∷◌, length, get_or, refl, sym, ap, ◌∙◌, subst, arith, Vec, Global, Contains, map}
use Rattle.std.specs.List.{list_any}
use Rattle.oe_dims.specs.Names.{same_name}
use Rattle.oe_dims.proofs.OrderLemmas.{same_name_is, same_name_refl}
use Rattle.oe_graph.specs.Plain.{plain_arg, plain_node, plain_nodes, arg_step, graph_step, node_step, plain_args, plain_named}
use Rattle.oe_graph.specs.Printed.{ids_of}
use Rattle.oe_graph.specs.Tree.{Argument, from_parameter, PlainGraph, PlainNode, list, object, callback}
use Rattle.oe_graph.specs.declared.tree.Arg.TheFolds.{fold-roll-Arg}
use Rattle.oe_graph.specs.declared.tree.Arg.TheOpen.{Arg-F}
use Rattle.oe_graph.specs.declared.tree.Arg.TheVariants.{FromParameter, rolls-FromParameter}
use Rattle.oe_graph.specs.declared.tree.Node.{Node}
use Rattle.oe_graph.proofs.PartLemmas.{node_parts, graph_parts}
use Rattle.oe_calls.specs.Rounds.{id_at}
use Rattle.oe_graph.specs.declared.tree.Arg.{Arg}
use Rattle.oe_graph.specs.declared.tree.Arg.TheVariants as variant
use Rattle.oe_graph.specs.declared.tree.Graph.{Graph, out-Graph}
use Rattle.oe_graph.specs.References.{each_node}
use Rattle.oe_calls.proofs.Along.{map_there, there_by}
use Rattle.oe_graph.proofs.ReferenceGraphLemmas.{each_nodes}

pub plain_from_parameter : (name : List ℕ) → plain_arg (FromParameter name) ≡ from_parameter name
plain_from_parameter name =
    ap plain_arg (sym (rolls-FromParameter name))
    ∙ fold-roll-Arg Argument PlainGraph PlainNode arg_step graph_step node_step (Arg-F.FromParameter name)

pub list_is : (a : Arg) (v : Vec Arg Global) → a ≡ variant.List v → plain_arg a ≡ list (plain_args v.items)
list_is a v is =
    ap plain_arg (is ∙ sym (variant.rolls-List v))
    ∙ fold-roll-Arg Argument PlainGraph PlainNode arg_step graph_step node_step (Arg-F.List v)

pub object_is : (a : Arg) (v : Vec (List ℕ × Arg) Global) → a ≡ variant.Object v → plain_arg a ≡ object (plain_named v.items)
object_is a v is =
    ap plain_arg (is ∙ sym (variant.rolls-Object v))
    ∙ fold-roll-Arg Argument PlainGraph PlainNode arg_step graph_step node_step (Arg-F.Object v)

pub callback_is : (a : Arg) (g : Graph) → a ≡ variant.Callback g
    → plain_arg a ≡ callback (plain_nodes (out-Graph g).nodes.items) (out-Graph g).result
callback_is a g is =
    ap plain_arg (is ∙ sym (variant.rolls-Callback g))
    ∙ fold-roll-Arg Argument PlainGraph PlainNode arg_step graph_step node_step (Arg-F.Callback g)
    ∙ ap (λ (p : PlainGraph). callback p.nodes p.result) (graph_parts g)

pub id_of : (n : Node) → (plain_node n).id ≡ n.id
id_of n = ap (λ m. m.id) (node_parts n)

-- ---- the same name, whichever is asked first

turned : (a b : List ℕ) (x y : Bool) → same_name a b ≡ x → same_name b a ≡ y → x ≡ y
turned a b true true p q = refl
turned a b false false p q = refl
turned a b true false p q =
    let is : b ≡ a = same_name_is a b p in
    sym (subst (λ n. same_name n a ≡ true) (sym is) (same_name_refl a)) ∙ q
turned a b false true p q =
    let is : a ≡ b = same_name_is b a q in
    sym p ∙ subst (λ n. same_name n b ≡ true) (sym is) (same_name_refl b)

pub same_name-turned : (a b : List ℕ) → same_name a b ≡ same_name b a
same_name-turned a b = turned a b (same_name a b) (same_name b a) refl refl

pub there_node : (ns : List Node) (i : ℕ) (n : Node) → i < length ns → n ≡ get_or ns i n
    → Contains (each_node (plain_nodes ns)) (plain_node n)
there_node ns i n below is =
    subst (λ ms. Contains ms (plain_node n)) (sym (each_nodes (map plain_node ns)))
    (map_there plain_node ns n (there_by ns i n below is))

-- ---- at an index

pub id_at-found : (ns : List Node) (k : ℕ) (n : Node) → k < length ns → n ≡ get_or ns k n → n.id ≡ id_at (plain_nodes ns) k
id_at-found [] k n more is = absurd (omega arith)
id_at-found (m ∷ ns) zero n more is = ap (λ x. x.id) is ∙ sym (id_of m)
id_at-found (m ∷ ns) (suc k) n more is = id_at-found ns k n (omega arith) is

pub id_at-none : (ns : List Node) (k : ℕ) → length ns ≤ k → [] ≡ id_at (plain_nodes ns) k
id_at-none [] k past = refl
id_at-none (m ∷ ns) zero past = absurd (omega arith)
id_at-none (m ∷ ns) (suc k) past = id_at-none ns k (omega arith)

or_true : (b : Bool) → (b || true) ≡ true
or_true true = refl
or_true false = refl

pub id-among : (id : List ℕ) (ns : List Node) (k : ℕ) (n : Node) → k < length ns → n ≡ get_or ns k n → same_name id n.id ≡ true
    → list_any (same_name id) (ids_of (plain_nodes ns)) ≡ true
id-among id [] k n more is same = absurd (omega arith)
id-among id (m ∷ ns) zero n more is same =
    let here : same_name id (plain_node m).id ≡ true =
    ap (same_name id) (id_of m ∙ sym (ap (λ x. x.id) is)) ∙ same in
    ap (λ b. b || list_any (same_name id) (ids_of (plain_nodes ns))) here
id-among id (m ∷ ns) (suc k) n more is same =
    ap (λ b. same_name id (plain_node m).id || b) (id-among id ns k n (omega arith) is same)
    ∙ or_true (same_name id (plain_node m).id)
