-- Two lists of trees are the same, item by item.
use Rattle.std.proofs.Common.{◌≡◌, ◌≢◌, ◌↔◌, ℕ, ◌+◌, ◌<◌, ◌≤◌, Bool, true, false, true≢false, Global, Vec, List, [], ◌∷◌, length, drop, get_or, map, refl, sym, ap, ◌∙◌}
use Rattle.std.specs.Prelude.{IsTrue}
use Rattle.std.proofs.lemmas.List.{drop_more, length-map}
use Rattle.std.proofs.Math.ListN.{drop_of_length-le}
use Rattle.oe_graph.specs.Plain.{plain_arg, plain_args, plain_graph, plain_named, plain_node, plain_nodes, plain_pair, arg_step, graph_step, node_step}
use Rattle.oe_graph.specs.Tree.{Argument, list, object, PlainGraph, PlainNode, values_from_list, named_from_list, nodes_from_list}
use Rattle.oe_graph.specs.declared.tree.Arg.{Arg}
use Rattle.oe_graph.specs.declared.tree.Arg.TheFolds.{fold-roll-Arg}
use Rattle.oe_graph.specs.declared.tree.Arg.TheOpen.{Arg-F}
use Rattle.oe_graph.specs.declared.tree.Arg.TheVariants as variants
use Rattle.oe_graph.specs.declared.tree.Arg.TheVariants.{rolls-List, rolls-Object}
use Rattle.oe_graph.specs.declared.tree.Graph.{Graph, out-Graph}
use Rattle.oe_graph.specs.declared.tree.Node.{Node}
use Rattle.oe_graph.proofs.PartLemmas.{graph_parts, node_parts}

module _ {X Y : Type 0} (f : X → Y) (xs ys : List X) where
  -- they are just where the items are that are left
  abbrev pub LeftSame : ℕ → Type 0
  LeftSame k = (map f xs ≡ map f ys) ↔ (map f (drop k xs) ≡ map f (drop k ys))

  abbrev cut : (zs : List X) (k : ℕ) (z : X) → k < length zs → z ≡ get_or zs k z → map f (drop k zs) ≡ f z ∷ map f (drop (k + 1) zs)
  cut zs k z below is = ap (map f) (drop_more zs k z below) ∙ ap (λ (y : X). f y ∷ map f (drop (k + 1) zs)) (sym is)

  module _ (k : ℕ) (x y : X) (left : LeftSame k) (in_xs : k < length xs) (in_ys : k < length ys) (x-is : x ≡ get_or xs k x) (y-is : y ≡ get_or ys k y) where
    pub same_next : f x ≡ f y → LeftSame (k + 1)
    same_next same =
        let a = cut xs k x in_xs x-is in
        let b = cut ys k y in_ys y-is in (
          λ e. let h : f x ∷ map f (drop (k + 1) xs) ≡ f y ∷ map f (drop (k + 1) ys) = sym a ∙ (left.0 e ∙ b) in cc,
          λ e. left.1 (a ∙ (ap (λ (z : Y). z ∷ map f (drop (k + 1) xs)) same ∙ (ap (λ (zs : List Y). f y ∷ zs) e ∙ sym b))),
        )

    pub same_stops : (f x ≢ f y) → IsTrue false ↔ (map f xs ≡ map f ys)
    same_stops differ =
        let a = cut xs k x in_xs x-is in
        let b = cut ys k y in_ys y-is in (
          λ e. absurd (true≢false (sym e)),
          λ e. let h : f x ∷ map f (drop (k + 1) xs) ≡ f y ∷ map f (drop (k + 1) ys) = sym a ∙ (left.0 e ∙ b) in
              let heads : f x ≡ f y = cc in absurd (differ heads),
        )

  pub same_ends : (k : ℕ) → LeftSame k → length xs ≤ k → length ys ≤ k → IsTrue true ↔ (map f xs ≡ map f ys)
  same_ends k left past_xs past_ys = (
    λ _. left.1 (ap (map f) (drop_of_length-le xs past_xs) ∙ sym (ap (map f) (drop_of_length-le ys past_ys))),
    λ _. refl,
  )

  pub differ_in_length : (length xs ≢ length ys) → IsTrue false ↔ (map f xs ≡ map f ys)
  differ_in_length differ = (
    λ e. absurd (true≢false (sym e)),
    λ e. absurd (differ (sym (length-map xs f) ∙ (ap length e ∙ length-map ys f))),
  )

-- ---- by their parts

pub pair_same : (a b : List ℕ × Argument) → a.0 ≡ b.0 → a.1 ≡ b.1 → a ≡ b
pair_same a b name value = ap (λ (n : List ℕ). (n, a.1)) name ∙ ap (λ (v : Argument). (b.0, v)) value

pub node_same : (a b : PlainNode) → a.id ≡ b.id → a.process_id ≡ b.process_id → a.namespace ≡ b.namespace
    → a.arguments ≡ b.arguments → a ≡ b
node_same a b id process space arguments =
    ap (λ x. record { id = x; process_id = a.process_id; namespace = a.namespace; arguments = a.arguments }) id
    ∙ (ap (λ x. record { id = b.id; process_id = x; namespace = a.namespace; arguments = a.arguments }) process
    ∙ (ap (λ x. record { id = b.id; process_id = b.process_id; namespace = x; arguments = a.arguments }) space
    ∙ ap (λ x. record { id = b.id; process_id = b.process_id; namespace = b.namespace; arguments = x }) arguments))

-- ---- lists as members of the family of trees

pub values_same : (xs ys : List Argument) → values_from_list xs ≡ values_from_list ys → xs ≡ ys
values_same [] [] e = refl
values_same (a ∷ xs) (b ∷ ys) e =
    let first : a ≡ b = cc in
    let rest : values_from_list xs ≡ values_from_list ys = cc in
    ap (λ (x : Argument). x ∷ xs) first ∙ ap (λ (rest_of : List Argument). b ∷ rest_of) (values_same xs ys rest)
values_same [] (b ∷ ys) e = absurd cc
values_same (a ∷ xs) [] e = absurd cc

pub named_same : (xs ys : List (List ℕ × Argument)) → named_from_list xs ≡ named_from_list ys → xs ≡ ys
named_same [] [] e = refl
named_same (a ∷ xs) (b ∷ ys) e =
    let name : a.0 ≡ b.0 = cc in
    let value : a.1 ≡ b.1 = cc in
    let rest : named_from_list xs ≡ named_from_list ys = cc in
    ap (λ (x : List ℕ × Argument). x ∷ xs) (pair_same a b name value) ∙ ap (λ (rest_of : List (List ℕ × Argument)). b ∷ rest_of) (named_same xs ys rest)
named_same [] (b ∷ ys) e = absurd cc
named_same (a ∷ xs) [] e = absurd cc

pub nodes_same : (xs ys : List PlainNode) → nodes_from_list xs ≡ nodes_from_list ys → xs ≡ ys
nodes_same [] [] e = refl
nodes_same (a ∷ xs) (b ∷ ys) e =
    let id : a.id ≡ b.id = cc in
    let process : a.process_id ≡ b.process_id = cc in
    let space : a.namespace ≡ b.namespace = cc in
    let arguments : a.arguments ≡ b.arguments = cc in
    let rest : nodes_from_list xs ≡ nodes_from_list ys = cc in
    ap (λ (x : PlainNode). x ∷ xs) (node_same a b id process space arguments) ∙ ap (λ (rest_of : List PlainNode). b ∷ rest_of) (nodes_same xs ys rest)
nodes_same [] (b ∷ ys) e = absurd cc
nodes_same (a ∷ xs) [] e = absurd cc

-- ---- trees by their parts

pub plain_list : (v : Vec Arg Global) → plain_arg (variants.List v) ≡ list (plain_args v.items)
plain_list v = ap plain_arg (sym (rolls-List v)) ∙ fold-roll-Arg Argument PlainGraph PlainNode arg_step graph_step node_step (Arg-F.List v)

pub plain_object : (v : Vec (List ℕ × Arg) Global) → plain_arg (variants.Object v) ≡ object (plain_named v.items)
plain_object v =
    ap plain_arg (sym (rolls-Object v)) ∙ fold-roll-Arg Argument PlainGraph PlainNode arg_step graph_step node_step (Arg-F.Object v)

-- ---- what a test of their parts tells of two trees

pub list_told : (told : Bool) (xs ys : List Arg) → (IsTrue told ↔ (map plain_arg xs ≡ map plain_arg ys))
    → IsTrue told ↔ (list (plain_args xs) ≡ list (plain_args ys))
list_told told xs ys is = (
  λ t. ap (λ (as_seen : List Argument). list (values_from_list as_seen)) (is.0 t),
  λ e. is.1 (let inner : plain_args xs ≡ plain_args ys = cc in values_same (map plain_arg xs) (map plain_arg ys) inner),
)

pub object_told : (told : Bool) (xs ys : List (List ℕ × Arg)) → (IsTrue told ↔ (map plain_pair xs ≡ map plain_pair ys))
    → IsTrue told ↔ (object (plain_named xs) ≡ object (plain_named ys))
object_told told xs ys is = (
  λ t. ap (λ (as_seen : List (List ℕ × Argument)). object (named_from_list as_seen)) (is.0 t),
  λ e. is.1 (let inner : plain_named xs ≡ plain_named ys = cc in named_same (map plain_pair xs) (map plain_pair ys) inner),
)

graph_same : (a b : PlainGraph) → a.nodes ≡ b.nodes → a.result ≡ b.result → a ≡ b
graph_same a b nodes result =
    ap (λ x. record { nodes = x; result = a.result }) nodes ∙ ap (λ x. record { nodes = b.nodes; result = x }) result

pub graph_told : (told : Bool) (g h : Graph) → (out-Graph g).result ≡ (out-Graph h).result
    → (IsTrue told ↔ (map plain_node (out-Graph g).nodes.items ≡ map plain_node (out-Graph h).nodes.items)) → IsTrue told ↔ (plain_graph g ≡ plain_graph h)
graph_told told g h result is = (
  λ t. graph_parts g ∙ (graph_same (record { nodes = plain_nodes (out-Graph g).nodes.items; result = (out-Graph g).result })
      (record { nodes = plain_nodes (out-Graph h).nodes.items; result = (out-Graph h).result }) (ap nodes_from_list (is.0 t)) result ∙ sym (graph_parts h)),
  λ e. is.1 (nodes_same (map plain_node (out-Graph g).nodes.items) (map plain_node (out-Graph h).nodes.items)
      (ap (λ (x : PlainGraph). x.nodes) (sym (graph_parts g) ∙ (e ∙ graph_parts h)))),
)

abbrev SameHead : Node → Node → Type 0
SameHead m n = (m.id ≡ n.id) × (m.process_id ≡ n.process_id) × (m.namespace ≡ n.namespace)

abbrev parts_of : Node → PlainNode
parts_of n = record { id = n.id; process_id = n.process_id; namespace = n.namespace; arguments = plain_named n.arguments.items }

pub head_of : (m n : Node) → plain_node m ≡ plain_node n → SameHead m n
head_of m n e =
    let parts : parts_of m ≡ parts_of n = sym (node_parts m) ∙ (e ∙ node_parts n) in
    (ap (λ (x : PlainNode). x.id) parts, ap (λ (x : PlainNode). x.process_id) parts, ap (λ (x : PlainNode). x.namespace) parts)

pub node_told : (told : Bool) (m n : Node) → SameHead m n
    → (IsTrue told ↔ (map plain_pair m.arguments.items ≡ map plain_pair n.arguments.items)) → IsTrue told ↔ (plain_node m ≡ plain_node n)
node_told told m n head is = (
  λ t. node_parts m
      ∙ (node_same (parts_of m) (parts_of n) head.0 head.1 head.2 (ap named_from_list (is.0 t)) ∙ sym (node_parts n)),
  λ e. is.1 (named_same (map plain_pair m.arguments.items) (map plain_pair n.arguments.items)
      (ap (λ (x : PlainNode). x.arguments) (sym (node_parts m) ∙ (e ∙ node_parts n)))),
)
