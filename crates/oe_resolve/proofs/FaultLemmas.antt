-- The faults of graph objects, node by node and argument by argument.
use Rattle.std.proofs.Common.{◌≡◌, ℕ, zero, suc, ◌<◌, ◌⊎◌, inl, inr, Bool, true, false, List, [], ◌∷◌, Option, Some, None, is_some, Contains, length, map, option_map, get_or, slice_get, slice_index_or, refl, sym, ap, ◌∙◌, subst, true≢false, arith}
use Rattle.std.proofs.lemmas.List.Elements.{Contains-append_left, Contains-append_right, Contains-append_cases}
use Rattle.oe_dims.specs.Names.{names_rise}
use Rattle.oe_graph.specs.Faults.{least, IsLeastFault}
use Rattle.oe_graph.specs.Form.{node_name, callback_name}
use Rattle.oe_graph.specs.Plain.{plain_arg, plain_args, plain_named, plain_node, plain_nodes, plain_pair}
use Rattle.oe_graph.specs.Printed.{ids_of}
use Rattle.oe_graph.specs.References.{each_node, callbacks_in, callbacks_named, callbacks_each}
use Rattle.oe_graph.specs.Resolved.{scope_inside}
use Rattle.oe_graph.specs.Tree.{Argument, whole, list, object, callback, Nodes, PlainGraph, PlainNode, PlainStored, named_from_list}
use Rattle.oe_graph.specs.declared.fault.Fault.{Fault}
use Rattle.oe_graph.specs.declared.tree.Arg.{Arg}
use Rattle.oe_graph.specs.declared.tree.Arg.TheVariants as variant
use Rattle.oe_graph.specs.declared.tree.Graph.{Graph, out-Graph}
use Rattle.oe_graph.specs.declared.tree.Node.{Node}
use Rattle.oe_graph.proofs.LeastLemmas.{IsLeastFault-iff, IsLeastFault-least, OneOf}
use Rattle.oe_graph.proofs.PartLemmas.{node_parts}
use Rattle.oe_calls.specs.Calls.{callee}
use Rattle.oe_calls.specs.Faults.{each_argument}
use Rattle.oe_resolve.specs.NameFaults.{AreMarks, IsMark, IdsRise, IdsRiseIn, itself, deeper, OfArgument, OfArguments, OfItself, OfNode, OfObject, by_itself, inside, know_named, node_code}
use Rattle.oe_calls.proofs.Along.{first_there, later_there, none_there, there_cases, map_there, one_back}
use Rattle.oe_resolve.proofs.CodeLemmas.{own_least}
use Rattle.oe_graph.proofs.ReferenceGraphLemmas.{each_nodes}
use Rattle.oe_calls.proofs.NodeLemmas.{callback_is}

-- ---- where callbacks stand

-- one of a list has this callback
pub record Holder {X : Type 0} (callbacks : X → List PlainGraph) (xs : List X) (g : PlainGraph) : Type 0 where
  pub one : X
  pub is_there : Contains xs one
  pub has : Contains (callbacks one) g

module _ (g : PlainGraph) where
  pub callback_named : (ms : List (List ℕ × Arg)) (m : List ℕ × Arg) → Contains ms m → Contains (callbacks_in (plain_arg m.1)) g
      → Contains (callbacks_named (plain_named ms)) g
  callback_named [] m there has = absurd (none_there m there)
  callback_named (x ∷ ms) m there has = elim (there_cases x ms m there) [
    | inl is ↦ Contains-append_left (callbacks_in (plain_arg x.1)) (callbacks_named (plain_named ms)) g
        (subst (λ (y : List ℕ × Arg). Contains (callbacks_in (plain_arg y.1)) g) (sym is) has)
    | inr later ↦ Contains-append_right (callbacks_in (plain_arg x.1)) (callbacks_named (plain_named ms)) g
        (callback_named ms m later has)
  ]

  pub named_holder : (ms : List (List ℕ × Arg)) → Contains (callbacks_named (plain_named ms)) g
      → Holder (λ (m : List ℕ × Arg). callbacks_in (plain_arg m.1)) ms g
  named_holder [] has = absurd (none_there g has)
  named_holder (x ∷ ms) has =
      elim (Contains-append_cases (callbacks_in (plain_arg x.1)) (callbacks_named (plain_named ms)) g has) [
        | inl first ↦ record { one = x; is_there = first_there x ms; has = first }
        | inr rest ↦
            let at = named_holder ms rest in
            record { one = at.one; is_there = later_there x ms at.one at.is_there; has = at.has }
      ]

  pub callback_each : (xs : List Arg) (a : Arg) → Contains xs a → Contains (callbacks_in (plain_arg a)) g
      → Contains (callbacks_each (plain_args xs)) g
  callback_each [] a there has = absurd (none_there a there)
  callback_each (x ∷ xs) a there has = elim (there_cases x xs a there) [
    | inl is ↦ Contains-append_left (callbacks_in (plain_arg x)) (callbacks_each (plain_args xs)) g
        (subst (λ (y : Arg). Contains (callbacks_in (plain_arg y)) g) (sym is) has)
    | inr later ↦ Contains-append_right (callbacks_in (plain_arg x)) (callbacks_each (plain_args xs)) g
        (callback_each xs a later has)
  ]

  pub each_holder : (xs : List Arg) → Contains (callbacks_each (plain_args xs)) g
      → Holder (λ (a : Arg). callbacks_in (plain_arg a)) xs g
  each_holder [] has = absurd (none_there g has)
  each_holder (x ∷ xs) has =
      elim (Contains-append_cases (callbacks_in (plain_arg x)) (callbacks_each (plain_args xs)) g has) [
        | inl first ↦ record { one = x; is_there = first_there x xs; has = first }
        | inr rest ↦
            let at = each_holder xs rest in
            record { one = at.one; is_there = later_there x xs at.one at.is_there; has = at.has }
      ]

-- ---- where ids rise

pub rise_of_node : (nodes : Nodes) (n : PlainNode) → IdsRise nodes → Contains (each_node nodes) n
    → IdsRiseIn (callbacks_named n.arguments)
rise_of_node nodes n rise there = λ g has inner within. rise inner (deeper there has within)

pub rise_of_object : (nodes : Nodes) → IdsRise nodes → names_rise (ids_of nodes) ≡ true
rise_of_object nodes rise = rise nodes itself

pub rise_of_member : (ms : List (List ℕ × Arg)) (m : List ℕ × Arg) → IdsRiseIn (callbacks_named (plain_named ms))
    → Contains ms m → IdsRiseIn (callbacks_in (plain_arg m.1))
rise_of_member ms m rise there = λ g has. rise g (callback_named g ms m there has)

pub rise_of_item : (xs : List Arg) (a : Arg) → IdsRiseIn (callbacks_each (plain_args xs))
    → Contains xs a → IdsRiseIn (callbacks_in (plain_arg a))
rise_of_item xs a rise there = λ g has. rise g (callback_each g xs a there has)

-- ---- the node at an index

get_mapped : {X Y : Type 0} (f : X → Y) (xs : List X) (i : ℕ) (x : X) → i < length xs → x ≡ get_or xs i x
    → slice_get (map f xs) i ≡ Some (f x)
get_mapped f [] i x below is = absurd (omega arith)
get_mapped f (y ∷ xs) zero x below is = ap (λ z. Some (f z)) (sym is)
get_mapped f (y ∷ xs) (suc i) x below is = get_mapped f xs i x (omega arith) is

pub mapped_at : {X Y : Type 0} (f : X → Y) (xs : List X) (i : ℕ) (x : X) (y : Y) → i < length xs → x ≡ get_or xs i x
    → y ≡ get_or (map f xs) i y → y ≡ f x
mapped_at f [] i x y below is at = absurd (omega arith)
mapped_at f (z ∷ xs) zero x y below is at = at ∙ ap f (sym is)
mapped_at f (z ∷ xs) (suc i) x y below is at = mapped_at f xs i x y (omega arith) is at

pub node_there : (ns : List Node) (i : ℕ) (n : Node) → i < length ns → n ≡ get_or ns i n
    → slice_get (each_node (plain_nodes ns)) i ≡ Some (plain_node n)
node_there ns i n below is =
    ap (λ ms. slice_get ms i) (each_nodes (map plain_node ns)) ∙ get_mapped plain_node ns i n below is

pub mark_there : (last : Bool) (ns : List Node) (i : ℕ) (n : Node) (marks : List Bool) (mark : Bool) → i < length ns
    → n ≡ get_or ns i n → AreMarks last (plain_nodes ns) marks → mark ≡ slice_index_or marks i false
    → IsMark last (plain_nodes ns) (plain_node n) mark
mark_there last ns i n marks mark below is marked same =
    subst (IsMark last (plain_nodes ns) (plain_node n)) (sym same)
    (marked.exact i (plain_node n) (node_there ns i n below is))

-- ---- faults

pub least-none : (o : Option Fault) → least o None ≡ o
least-none None = refl
least-none (Some f) = refl

each_named : (ms : List (List ℕ × Argument)) → each_argument (named_from_list ms) ≡ ms
each_named [] = refl
each_named (m ∷ ms) = ap (λ rest. m ∷ rest) (each_named ms)

module _ (stored : List PlainStored) (last : Bool) where
  -- of the arguments of a node
  pub arguments_least : (node_at : List ℕ) (scope : List (List ℕ)) (ms : List (List ℕ × Arg)) (o : Option Fault)
      → IsLeastFault (OneOf (λ (m : List ℕ × Arg). OfArgument stored last node_at m.0 scope (plain_arg m.1)) ms) o
      → IsLeastFault (OfArguments stored last node_at scope (plain_named ms)) o
  arguments_least node_at scope ms o is =
      IsLeastFault-iff (OneOf (λ (m : List ℕ × Arg). OfArgument stored last node_at m.0 scope (plain_arg m.1)) ms)
      (OfArguments stored last node_at scope (plain_named ms)) o
      (λ f one.
      let there = map_there plain_pair ms one.one one.is_there in record {
        one = plain_pair one.one;
        is_there = subst (λ xs. Contains xs (plain_pair one.one)) (sym (each_named (map plain_pair ms))) there;
        has = one.has;
      })
      (λ f of. one_back plain_pair (λ (m : List ℕ × Argument). OfArgument stored last node_at m.0 scope m.1) ms f (record {
        one = of.one;
        is_there = subst (λ xs. Contains xs of.one) (each_named (map plain_pair ms)) of.is_there;
        has = of.has;
      })) is

  -- of the values of a list, and of the members of an object
  pub items_least : (node_at name : List ℕ) (scope : List (List ℕ)) (xs : List Arg) (o : Option Fault)
      → IsLeastFault (OneOf (λ (a : Arg). OfArgument stored last node_at name scope (plain_arg a)) xs) o
      → IsLeastFault (OfArgument stored last node_at name scope (list (plain_args xs))) o
  items_least node_at name scope xs o is =
      IsLeastFault-iff (OneOf (λ (a : Arg). OfArgument stored last node_at name scope (plain_arg a)) xs)
      (OfArgument stored last node_at name scope (list (plain_args xs))) o
      (λ f one. record {
        graph = one.has.graph;
        is_there = callback_each one.has.graph xs one.one one.is_there one.has.is_there;
        has = one.has.has;
      })
      (λ f of.
      let at = each_holder of.graph xs of.is_there in record {
        one = at.one;
        is_there = at.is_there;
        has = record { graph = of.graph; is_there = at.has; has = of.has };
      }) is

  pub members_least : (node_at name : List ℕ) (scope : List (List ℕ)) (ms : List (List ℕ × Arg)) (o : Option Fault)
      → IsLeastFault (OneOf (λ (m : List ℕ × Arg). OfArgument stored last node_at name scope (plain_arg m.1)) ms) o
      → IsLeastFault (OfArgument stored last node_at name scope (object (plain_named ms))) o
  members_least node_at name scope ms o is =
      IsLeastFault-iff (OneOf (λ (m : List ℕ × Arg). OfArgument stored last node_at name scope (plain_arg m.1)) ms)
      (OfArgument stored last node_at name scope (object (plain_named ms))) o
      (λ f one. record {
        graph = one.has.graph;
        is_there = callback_named one.has.graph ms one.one one.is_there one.has.is_there;
        has = one.has.has;
      })
      (λ f of.
      let at = named_holder of.graph ms of.is_there in record {
        one = at.one;
        is_there = at.is_there;
        has = record { graph = of.graph; is_there = at.has; has = of.has };
      }) is

  pub callback_least : (node_at name : List ℕ) (scope : List (List ℕ)) (g : PlainGraph) (o : Option Fault)
      → IsLeastFault (λ f. OfObject stored last f (callback_name node_at name) scope g.nodes) o
      → IsLeastFault (OfArgument stored last node_at name scope (callback g.nodes g.result)) o
  callback_least node_at name scope g o is =
      IsLeastFault-iff (λ f. OfObject stored last f (callback_name node_at name) scope g.nodes)
      (OfArgument stored last node_at name scope (callback g.nodes g.result)) o
      (λ f has. record { graph = g; is_there = first_there g []; has = has })
      (λ f of. elim (there_cases g [] of.graph of.is_there) [
        | inl same ↦ subst (λ (h : PlainGraph). OfObject stored last f (callback_name node_at name) scope h.nodes) (sym same) of.has
        | inr none ↦ absurd (none_there of.graph none)
      ]) is

  pub none_least : (node_at name : List ℕ) (scope : List (List ℕ)) (a : Argument) → callbacks_in a ≡ []
      → IsLeastFault (OfArgument stored last node_at name scope a) None
  none_least node_at name scope a empty =
      λ f of. absurd (none_there of.graph (subst (λ gs. Contains gs of.graph) empty of.is_there))

  -- of the nodes of a graph object
  of_node : (name : List ℕ) (scope : List (List ℕ)) (nodes : Nodes) (n : PlainNode) (f : Fault) → Contains (each_node nodes) n
      → OfNode stored last name scope nodes n f → OfObject stored last f name scope nodes
  of_node name scope nodes n f there (inl own) = by_itself there own
  of_node name scope nodes n f there (inr of) = inside there of.0 of.1.is_there of.1.has.is_there of.1.has.has

  to_node : (name : List ℕ) (scope : List (List ℕ)) (nodes : Nodes) (f : Fault) → OfObject stored last f name scope nodes
      → OneOf (OfNode stored last name scope nodes) (each_node nodes) f
  to_node name scope nodes f (by_itself {n = n} there own) = record { one = n; is_there = there; has = inl own }
  to_node name scope nodes f (inside {n = n} {a = a} {g = g} there none argument_there callback_there of) = record {
    one = n;
    is_there = there;
    has = inr (
      none,
      record {
        one = a;
        is_there = argument_there;
        has = record { graph = g; is_there = callback_there; has = of };
      },
    );
  }

  pub object_least : (name : List ℕ) (scope : List (List ℕ)) (ns : List Node) (o : Option Fault)
      → IsLeastFault (OneOf (λ (n : Node). OfNode stored last name scope (plain_nodes ns) (plain_node n)) ns) o
      → IsLeastFault (λ f. OfObject stored last f name scope (plain_nodes ns)) o
  object_least name scope ns o is =
      IsLeastFault-iff (OneOf (λ (n : Node). OfNode stored last name scope (plain_nodes ns) (plain_node n)) ns)
      (λ f. OfObject stored last f name scope (plain_nodes ns)) o
      (λ f one. of_node name scope (plain_nodes ns) (plain_node one.one) f
      (subst (λ ms. Contains ms (plain_node one.one)) (sym (each_nodes (map plain_node ns))) (map_there plain_node ns one.one one.is_there))
      one.has)
      (λ f of.
      let one = to_node name scope (plain_nodes ns) f of in
      one_back plain_node (OfNode stored last name scope (plain_nodes ns)) ns f (record {
        one = one.one;
        is_there = subst (λ ms. Contains ms one.one) (each_nodes (map plain_node ns)) one.is_there;
        has = one.has;
      })) is

  -- of the callback that an argument is
  pub callback_argument : (node_at name at : List ℕ) (scope : List (List ℕ)) (a : Arg) (g : Graph) (o : Option Fault)
      → a ≡ variant.Callback g → at ≡ callback_name node_at name
      → (IdsRise (plain_nodes (out-Graph g).nodes.items)
      → IsLeastFault (λ f. OfObject stored last f at scope (plain_nodes (out-Graph g).nodes.items)) o)
      → IdsRiseIn (callbacks_in (plain_arg a)) → IsLeastFault (OfArgument stored last node_at name scope (plain_arg a)) o
  callback_argument node_at name at scope a g o is same found rise =
      let ns = plain_nodes (out-Graph g).nodes.items in
      let h : PlainGraph = record { nodes = ns; result = (out-Graph g).result } in
      let whole : plain_arg a ≡ callback h.nodes h.result = callback_is a g is in
      let inner : IdsRise ns = subst (λ p. IdsRiseIn (callbacks_in p)) whole rise h (first_there h []) in
      subst (λ p. IsLeastFault (OfArgument stored last node_at name scope p) o) (sym whole)
      (callback_least node_at name scope h o
      (subst (λ n. IsLeastFault (λ f. OfObject stored last f n scope ns) o) same (found inner)))

  -- of a node by itself
  own_is : (name : List ℕ) (scope : List (List ℕ)) (nodes : Nodes) (n : Node) (known mark : Bool) (own : Option Fault) (at : List ℕ)
      → at ≡ node_name name n.id
      → own ≡ option_map (λ code. record { code = code; node = at }) (node_code stored last scope (plain_node n) known mark)
      → known ≡ know_named (ids_of nodes) (plain_node n).arguments → IsMark last nodes (plain_node n) mark
      → IsLeastFault (OfItself stored last (node_name name (plain_node n).id) scope nodes (plain_node n)) own
  own_is name scope nodes n known mark own at called_at is knows marked =
      let m = plain_node n in
      let called : at ≡ node_name name m.id = called_at ∙ ap (λ (k : PlainNode). node_name name k.id) (sym (node_parts n)) in
      subst (λ a. IsLeastFault (OfItself stored last a scope nodes m) own) called
      (subst (IsLeastFault (OfItself stored last at scope nodes m))
      (sym (is ∙ ap (λ b. option_map (λ code. record { code = code; node = at }) (node_code stored last scope m b mark)) knows))
      (own_least stored last scope nodes m mark at marked))

  abbrev Inner : List ℕ → List (List ℕ) → PlainNode → Fault → Type 0
  Inner name scope m f =
      (callee stored m.namespace m.process_id ≡ None)
      × OfArguments stored last (node_name name m.id) (scope_inside m scope) m.arguments f

  called_none : (o : Option PlainStored) → is_some o ≡ true → o ≡ None → ⊥
  called_none None is none = true≢false (sym is)
  called_none (Some s) is none = absurd cc

  uncalled : (o : Option PlainStored) → is_some o ≡ false → o ≡ None
  uncalled None is = refl
  uncalled (Some s) is = absurd (true≢false is)

  -- of a call, whose callbacks wait
  pub call_least : (name : List ℕ) (scope : List (List ℕ)) (nodes : Nodes) (n : Node) (known mark : Bool) (own : Option Fault)
      (at : List ℕ)
      → is_some (callee stored n.namespace n.process_id) ≡ true → at ≡ node_name name n.id
      → own ≡ option_map (λ code. record { code = code; node = at }) (node_code stored last scope (plain_node n) known mark)
      → known ≡ know_named (ids_of nodes) (plain_node n).arguments → IsMark last nodes (plain_node n) mark
      → IsLeastFault (OfNode stored last name scope nodes (plain_node n)) own
  call_least name scope nodes n known mark own at call called_at is knows marked =
      let m = plain_node n in
      let calls : is_some (callee stored m.namespace m.process_id) ≡ true =
      ap (λ (k : PlainNode). is_some (callee stored k.namespace k.process_id)) (node_parts n) ∙ call in
      IsLeastFault-iff (OfItself stored last (node_name name m.id) scope nodes m) (OfNode stored last name scope nodes m) own
      (λ f has. inl has)
      (λ f has. own_only m has (called_none (callee stored m.namespace m.process_id) calls))
      (own_is name scope nodes n known mark own at called_at is knows marked)
    where
      own_only : {A B C : Type 0} (m : PlainNode) → A ⊎ (B × C) → (B → ⊥) → A
      own_only m (inl has) never = has
      own_only m (inr has) never = absurd (never has.0)

  -- of another node
  pub node_least : (name : List ℕ) (scope : List (List ℕ)) (nodes : Nodes) (n : Node) (known mark : Bool) (own inner : Option Fault)
      (at : List ℕ) (inner_scope : List (List ℕ))
      → is_some (callee stored n.namespace n.process_id) ≡ false
      → at ≡ node_name name n.id → inner_scope ≡ scope_inside (plain_node n) scope
      → own ≡ option_map (λ code. record { code = code; node = at }) (node_code stored last scope (plain_node n) known mark)
      → known ≡ know_named (ids_of nodes) (plain_node n).arguments → IsMark last nodes (plain_node n) mark
      → IsLeastFault (OfArguments stored last at inner_scope (plain_named n.arguments.items)) inner
      → IsLeastFault (OfNode stored last name scope nodes (plain_node n)) (least own inner)
  node_least name scope nodes n known mark own inner at inner_scope no_call called_at scoped is knows marked found =
      let m = plain_node n in
      let called : at ≡ node_name name m.id = called_at ∙ ap (λ (k : PlainNode). node_name name k.id) (sym (node_parts n)) in
      let none : callee stored m.namespace m.process_id ≡ None =
      uncalled (callee stored m.namespace m.process_id)
      (ap (λ (k : PlainNode). is_some (callee stored k.namespace k.process_id)) (node_parts n) ∙ no_call) in
      let arguments : IsLeastFault (OfArguments stored last (node_name name m.id) (scope_inside m scope) m.arguments) inner =
      subst (λ a. IsLeastFault (OfArguments stored last a (scope_inside m scope) m.arguments) inner) called
      (subst (λ sc. IsLeastFault (OfArguments stored last at sc m.arguments) inner) scoped
      (subst (λ (k : PlainNode). IsLeastFault (OfArguments stored last at inner_scope k.arguments) inner) (sym (node_parts n)) found)) in
      IsLeastFault-least (OfItself stored last (node_name name m.id) scope nodes m) (Inner name scope m) own inner
      (own_is name scope nodes n known mark own at called_at is knows marked)
      (IsLeastFault-iff (OfArguments stored last (node_name name m.id) (scope_inside m scope) m.arguments) (Inner name scope m) inner
      (λ f has. (none, has)) (λ f has. has.1) arguments)
