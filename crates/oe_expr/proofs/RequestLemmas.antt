-- A request names no other nodes than those that the arguments refer to, so its value and its kind depend on no others.
use Rattle.std.proofs.Common.{◌≡◌, ℕ, ◌∷◌, [], ◌++◌, List, Bool, true, false, Option, Some, None, refl, sym, ap, subst, Contains, map, codes, option_map, option_and_then}
use Rattle.std.specs.Bool.{⊤}
use Rattle.std.specs.Prelude.{if◌then◌else◌}
use Rattle.std.proofs.lemmas.List.Elements.{Contains-push, Contains-append_left, Contains-append_right}
use Rattle.oe_cell.specs.declared.cell.Cell.{Cell}
use Rattle.oe_cell.specs.declared.cell.Cell.TheVariants.{Empty, Flag}
use Rattle.oe_dims.specs.Names.{same_name}
use Rattle.oe_dims.proofs.OrderLemmas.{same_name_is}
use Rattle.oe_dims.specs.declared.kind.CellKind.{CellKind}
use Rattle.oe_fold.specs.declared.reducer.Reducer.{Reducer}
use Rattle.oe_graph.specs.Built.{is_literal}
use Rattle.oe_graph.specs.declared.code.Code.TheVariants.{ProcessParameterInvalid, ArrayElementParameterMissing, ArrayElementParameterConflict, ArrayElementNotAvailable, CellKindInvalid}
use Rattle.oe_graph.specs.References.{argument_named, references_in, references_each, references_named, parameters_in, parameters_each, parameters_named}
use Rattle.oe_graph.specs.Tree as tree
use Rattle.oe_graph.specs.Tree.{Argument, ListValues, Named, PlainNode}
use Rattle.oe_expr.specs.NodeKinds.{scalar_kind, items_kinds, request_kind, node_kind}
use Rattle.oe_expr.specs.Nodes.{LooksDown}
use Rattle.oe_expr.specs.Operations.{operation_named}
use Rattle.oe_expr.specs.Requests.{Scalar, whole_cell, literal, of_node, of_x, of_y, of_context, Items, the_data, written, CellRequest, unary, binary, choice, reduction, element, scalar_in, scalar_parameter, scalars_in, items_in, written_list, with_both, read, two_cells, binary_request, choice_request, reduction_request, counting_request, element_request, cell_request_of, cell_request_at, where_passed, has_plain_equality, flag_in, passes, is_scalar_literal, counter_in, list_index_in, label_in}
use Rattle.oe_expr.specs.Rows.{first_row, parameter_missing, parameter_conflict, element_not_available, callback_cell_kind_invalid, request_fault, node_fault}
use Rattle.oe_expr.specs.Scope.{PlainScope, Environment}
use Rattle.oe_expr.specs.declared.operation.Binary.{Binary}
use Rattle.oe_expr.specs.declared.operation.Binary.TheVariants.{Add, Subtract, Multiply, Divide, Modulo, Equal, NotEqual, Greater, GreaterOrEqual, Less, LessOrEqual, And, Or, Xor}
use Rattle.oe_expr.specs.declared.operation.Operation.{Operation}
use Rattle.oe_expr.specs.declared.operation.Operation.TheVariants.{OfOne, OfTwo, Choice, Reduction, Counting, Element}
use Rattle.std.specs.Option.{option_map_or}
use Rattle.std.specs.Prelude.{nat_le, length}
use Rattle.oe_expr.specs.Value.{scalar_value, items_value, request_value, node_value}

-- ---- what holds of each node that a request names, and of each parameter

module _ (P Q : List ℕ → Type 0) where
  abbrev pub OfScalar : Scalar → Type 0
  OfScalar (literal c) = ⊤
  OfScalar (of_node id) = P id
  OfScalar of_x = Q (codes "x")
  OfScalar of_y = Q (codes "y")
  OfScalar of_context = Q (codes "context")

  abbrev pub OfScalars : List Scalar → Type 0
  OfScalars [] = ⊤
  OfScalars (s ∷ rest) = OfScalar s × OfScalars rest

  abbrev pub OfItems : Items → Type 0
  OfItems the_data = Q (codes "data")
  OfItems (written scalars) = OfScalars scalars

  abbrev pub OfRequest : CellRequest → Type 0
  OfRequest (unary f x) = OfScalar x
  OfRequest (binary f x y) = OfScalar x × OfScalar y
  OfRequest (choice value accept reject) = OfScalar value × OfScalar accept × OfScalar reject
  OfRequest (reduction reducer ignore items) = OfItems items
  OfRequest (element items index label return_nodata) = OfItems items

abbrev AnyName : List ℕ → Type 0
AnyName name = ⊤

-- ---- values and kinds that agree

module _ (e : Environment) (f g : List ℕ → Cell) where
  same_scalar : (s : Scalar) → OfScalar (λ name. f name ≡ g name) AnyName s → scalar_value e f s ≡ scalar_value e g s
  same_scalar (literal c) h = refl
  same_scalar (of_node id) h = h
  same_scalar of_x h = refl
  same_scalar of_y h = refl
  same_scalar of_context h = refl

  same_scalars : (ss : List Scalar) → OfScalars (λ name. f name ≡ g name) AnyName ss → map (scalar_value e f) ss ≡ map (scalar_value e g) ss
  same_scalars [] h = refl
  same_scalars (s ∷ ss) h = let one = same_scalar s h.0 in let rest = same_scalars ss h.1 in cc

  same_items : (items : Items) → OfItems (λ name. f name ≡ g name) AnyName items → items_value e f items ≡ items_value e g items
  same_items the_data h = refl
  same_items (written ss) h = same_scalars ss h

  pub same_value : (r : CellRequest) → OfRequest (λ name. f name ≡ g name) AnyName r → request_value e f r ≡ request_value e g r
  same_value (unary o x) h = rw (same_scalar x h) refl
  same_value (binary o x y) h = rw (same_scalar x h.0, same_scalar y h.1) refl
  same_value (choice value accept reject) h = rw (same_scalar value h.0, same_scalar accept h.1, same_scalar reject h.2) refl
  same_value (reduction reducer ignore items) h = rw (same_items items h) refl
  same_value (element items index label return_nodata) h = rw (same_items items h) refl

module _ (scope : PlainScope) (context : Cell) (f g : List ℕ → Option CellKind) where
  same_scalar_kind : (s : Scalar) → OfScalar (λ name. f name ≡ g name) AnyName s → scalar_kind scope context f s ≡ scalar_kind scope context g s
  same_scalar_kind (literal c) h = refl
  same_scalar_kind (of_node id) h = h
  same_scalar_kind of_x h = refl
  same_scalar_kind of_y h = refl
  same_scalar_kind of_context h = refl

  same_scalar_kinds : (ss : List Scalar) → OfScalars (λ name. f name ≡ g name) AnyName ss → map (scalar_kind scope context f) ss ≡ map (scalar_kind scope context g) ss
  same_scalar_kinds [] h = refl
  same_scalar_kinds (s ∷ ss) h = let one = same_scalar_kind s h.0 in let rest = same_scalar_kinds ss h.1 in cc

  same_item_kinds : (items : Items) → OfItems (λ name. f name ≡ g name) AnyName items → items_kinds scope context f items ≡ items_kinds scope context g items
  same_item_kinds the_data h = refl
  same_item_kinds (written ss) h = same_scalar_kinds ss h

  pub same_kind : (r : CellRequest) → OfRequest (λ name. f name ≡ g name) AnyName r → request_kind scope context f r ≡ request_kind scope context g r
  same_kind (unary o x) h = refl
  same_kind (binary o x y) h = refl
  same_kind (choice value accept reject) h = rw (same_scalar_kind accept h.1, same_scalar_kind reject h.2) refl
  same_kind (reduction reducer ignore items) h = rw (same_item_kinds items h) refl
  same_kind (element items index label return_nodata) h = rw (same_item_kinds items h) refl

  same_invalid : (r : CellRequest) → OfRequest (λ name. f name ≡ g name) AnyName r → callback_cell_kind_invalid scope context f r ≡ callback_cell_kind_invalid scope context g r
  same_invalid (unary o x) h = rw (same_scalar_kind x h) refl
  same_invalid (binary o x y) h = rw (same_scalar_kind x h.0, same_scalar_kind y h.1) refl
  same_invalid (choice value accept reject) h = rw (same_scalar_kind value h.0, same_scalar_kind accept h.1, same_scalar_kind reject h.2) refl
  same_invalid (reduction reducer ignore items) h = rw (same_item_kinds items h) refl
  same_invalid (element items index label return_nodata) h = rw (same_item_kinds items h) refl

  pub same_fault : (r : CellRequest) → OfRequest (λ name. f name ≡ g name) AnyName r → request_fault scope context f r ≡ request_fault scope context g r
  same_fault r h =
      ap (λ invalid. first_row (
      (ArrayElementParameterMissing, parameter_missing r)
      ∷ (ArrayElementParameterConflict, parameter_conflict r)
      ∷ (ArrayElementNotAvailable, element_not_available scope r)
      ∷ (CellKindInvalid, invalid)
      ∷ [])) (same_invalid r h)

-- ---- from arguments to requests

abbrev parameter_by : Bool → Bool → Bool → Option Scalar
parameter_by a b c = if a then Some of_x else (if b then Some of_y else (if c then Some of_context else None))

abbrev whole_by : Bool → Option Scalar → Option Scalar
whole_by b s = if b then s else None

abbrev argument_by : Bool → Argument → Option Argument → Option Argument
argument_by b a rest = if b then Some a else rest

abbrev written_by : Bool → List Scalar → Option Items
written_by b ss = if b then Some (written ss) else None

abbrev data_by : Bool → Option Items
data_by b = if b then Some the_data else None

pub both_there : {A B C : Type 0} (f : A → B → C) (a : Option A) (b : Option B) (c : C) → with_both f a b ≡ Some c
    → (x : A) × (y : B) × (a ≡ Some x) × (b ≡ Some y) × (f x y ≡ c)
both_there f None b c e = absurd cc
both_there f (Some x) None c e = absurd cc
both_there f (Some x) (Some y) c e = (x, y, refl, refl, cc)

pub found_there : {A B : Type 0} (f : A → Option B) (a : Option A) (b : B) → option_and_then f a ≡ Some b → (x : A) × (a ≡ Some x) × (f x ≡ Some b)
found_there f None b e = absurd cc
found_there f (Some x) b e = (x, refl, e)

pub mapped_there : {A B : Type 0} (f : A → B) (a : Option A) (b : B) → option_map f a ≡ Some b → (x : A) × (a ≡ Some x) × (f x ≡ b)
mapped_there f None b e = absurd cc
mapped_there f (Some x) b e = (x, refl, cc)

pub passed_there : {A : Type 0} (passed : Bool) (a : Option A) (x : A) → where_passed passed a ≡ Some x → a ≡ Some x
passed_there true a x e = e
passed_there false a x e = absurd cc

module _ (P Q : List ℕ → Type 0) where
  -- of each name
  abbrev OfAll : (List ℕ → Type 0) → List (List ℕ) → Type 0
  OfAll R names = (name : List ℕ) → Contains names name → R name

  left : (R : List ℕ → Type 0) (xs ys : List (List ℕ)) → OfAll R (xs ++ ys) → OfAll R xs
  left R xs ys h name c = h name (Contains-append_left xs ys name c)

  right : (R : List ℕ → Type 0) (xs ys : List (List ℕ)) → OfAll R (xs ++ ys) → OfAll R ys
  right R xs ys h name c = h name (Contains-append_right xs ys name c)

  of_parameter : (name : List ℕ) (s : Scalar) → scalar_parameter name ≡ Some s → Q name → OfScalar P Q s
  of_parameter name s e q = by (same_name name (codes "x")) (same_name name (codes "y")) (same_name name (codes "context")) refl refl refl e
    where
      by : (a b c : Bool) → same_name name (codes "x") ≡ a → same_name name (codes "y") ≡ b → same_name name (codes "context") ≡ c
          → parameter_by a b c ≡ Some s → OfScalar P Q s
      by true b c ea eb ec e =
          let is : of_x ≡ s = cc in subst (OfScalar P Q) is (subst Q (sym (same_name_is name (codes "x") ea)) q)
      by false true c ea eb ec e =
          let is : of_y ≡ s = cc in subst (OfScalar P Q) is (subst Q (sym (same_name_is name (codes "y") eb)) q)
      by false false true ea eb ec e =
          let is : of_context ≡ s = cc in subst (OfScalar P Q) is (subst Q (sym (same_name_is name (codes "context") ec)) q)
      by false false false ea eb ec e = absurd cc

  of_whole : (b : Bool) (c : Cell) (s : Scalar) → whole_by b (Some (literal c)) ≡ Some s → OfScalar P Q s
  of_whole true c s e = let is : literal c ≡ s = cc in subst (OfScalar P Q) is tt
  of_whole false c s e = absurd cc

  of_scalar : (a : Argument) (s : Scalar) → scalar_in a ≡ Some s → OfAll P (references_in a) → OfAll Q (parameters_in a) → OfScalar P Q s
  of_scalar tree.null s e h q = let is : literal Empty ≡ s = cc in subst (OfScalar P Q) is tt
  of_scalar (tree.flag b) s e h q = let is : literal (Flag b) ≡ s = cc in subst (OfScalar P Q) is tt
  of_scalar (tree.whole z) s e h q = of_whole (is_literal z) (whole_cell z) s e
  of_scalar tree.inexact s e h q = absurd cc
  of_scalar (tree.text t) s e h q = absurd cc
  of_scalar (tree.list rest) s e h q = absurd cc
  of_scalar (tree.object ms) s e h q = absurd cc
  of_scalar (tree.from_node id) s e h q = let is : of_node id ≡ s = cc in subst (OfScalar P Q) is (h id (Contains-push [] id))
  of_scalar (tree.from_parameter name) s e h q = of_parameter name s e (q name (Contains-push [] name))
  of_scalar (tree.callback ns result) s e h q = absurd cc

  of_scalars : (given : ListValues) (ss : List Scalar) → scalars_in given ≡ Some ss → OfAll P (references_each given) → OfAll Q (parameters_each given) → OfScalars P Q ss
  of_scalars tree.no_arguments ss e h q = let is : [] ≡ ss = cc in subst (OfScalars P Q) is tt
  of_scalars (tree.argument a rest) ss e h q =
      let parts = both_there _ (scalar_in a) (scalars_in rest) ss e in
      subst (OfScalars P Q) parts.4 (
        of_scalar a parts.0 parts.2 (left P (references_in a) (references_each rest) h) (left Q (parameters_in a) (parameters_each rest) q),
        of_scalars rest parts.1 parts.3 (right P (references_in a) (references_each rest) h) (right Q (parameters_in a) (parameters_each rest) q),
      )

  of_argument : (name : List ℕ) (given : Named) (a : Argument) → argument_named name given ≡ Some a → OfAll P (references_named given) → OfAll P (references_in a)
  of_argument name tree.no_named a e h = absurd cc
  of_argument name (tree.named k first rest) a e h = by (same_name k name) e (of_argument name rest a)
    where
      by : (b : Bool) → argument_by b first (argument_named name rest) ≡ Some a
          → (argument_named name rest ≡ Some a → OfAll P (references_named rest) → OfAll P (references_in a)) → OfAll P (references_in a)
      by true e deeper = let is : first ≡ a = cc in subst (λ x. OfAll P (references_in x)) is (left P (references_in first) (references_named rest) h)
      by false e deeper = deeper e (right P (references_in first) (references_named rest) h)

  of_argument_parameters : (name : List ℕ) (given : Named) (a : Argument) → argument_named name given ≡ Some a → OfAll Q (parameters_named given) → OfAll Q (parameters_in a)
  of_argument_parameters name tree.no_named a e h = absurd cc
  of_argument_parameters name (tree.named k first rest) a e h = by (same_name k name) e (of_argument_parameters name rest a)
    where
      by : (b : Bool) → argument_by b first (argument_named name rest) ≡ Some a
          → (argument_named name rest ≡ Some a → OfAll Q (parameters_named rest) → OfAll Q (parameters_in a)) → OfAll Q (parameters_in a)
      by true e deeper = let is : first ≡ a = cc in subst (λ x. OfAll Q (parameters_in x)) is (left Q (parameters_in first) (parameters_named rest) h)
      by false e deeper = deeper e (right Q (parameters_in first) (parameters_named rest) h)

  of_read : (name : List ℕ) (given : Named) (s : Scalar) → read scalar_in name given ≡ Some s → OfAll P (references_named given) → OfAll Q (parameters_named given) → OfScalar P Q s
  of_read name given s e h q =
      let found = found_there scalar_in (argument_named name given) s e in
      of_scalar found.0 s found.2 (of_argument name given found.0 found.1 h) (of_argument_parameters name given found.0 found.1 q)

  of_written : (b : Bool) (ss : List Scalar) (items : Items) → written_by b ss ≡ Some items → OfScalars P Q ss → OfItems P Q items
  of_written true ss items e h = let is : written ss ≡ items = cc in subst (OfItems P Q) is h
  of_written false ss items e h = absurd cc

  of_data : (name : List ℕ) (b : Bool) (items : Items) → same_name name (codes "data") ≡ b → data_by b ≡ Some items → Q name → OfItems P Q items
  of_data name true items is_data e q =
      let is : the_data ≡ items = cc in subst (OfItems P Q) is (subst Q (sym (same_name_is name (codes "data") is_data)) q)
  of_data name false items is_data e q = absurd cc

  of_items : (a : Argument) (items : Items) → items_in a ≡ Some items → OfAll P (references_in a) → OfAll Q (parameters_in a) → OfItems P Q items
  of_items tree.null items e h q = absurd cc
  of_items (tree.flag b) items e h q = absurd cc
  of_items (tree.whole z) items e h q = absurd cc
  of_items tree.inexact items e h q = absurd cc
  of_items (tree.text t) items e h q = absurd cc
  of_items (tree.list rest) items e h q =
      let found = found_there written_list (scalars_in rest) items e in
      of_written (nat_le (length found.0) 64) found.0 items found.2 (of_scalars rest found.0 found.1 h q)
  of_items (tree.object ms) items e h q = absurd cc
  of_items (tree.from_node id) items e h q = absurd cc
  of_items (tree.from_parameter name) items e h q = of_data name (same_name name (codes "data")) items refl e (q name (Contains-push [] name))
  of_items (tree.callback ns result) items e h q = absurd cc

  of_read_items : (name : List ℕ) (given : Named) (items : Items) → read items_in name given ≡ Some items → OfAll P (references_named given) → OfAll Q (parameters_named given) → OfItems P Q items
  of_read_items name given items e h q =
      let found = found_there items_in (argument_named name given) items e in
      of_items found.0 items found.2 (of_argument name given found.0 found.1 h) (of_argument_parameters name given found.0 found.1 q)

  module _ (given : Named) (h : OfAll P (references_named given)) (q : OfAll Q (parameters_named given)) where
    of_two : (f : Binary) (r : CellRequest) → two_cells f given ≡ Some r → OfRequest P Q r
    of_two f r e =
        let parts = both_there (binary f) (read scalar_in (codes "x") given) (read scalar_in (codes "y") given) r e in
        subst (OfRequest P Q) parts.4 (of_read (codes "x") given parts.0 parts.2 h q, of_read (codes "y") given parts.1 parts.3 h q)

    of_binary : (f : Binary) (r : CellRequest) → binary_request f given ≡ Some r → OfRequest P Q r
    of_binary Equal r e = of_two Equal r (passed_there (has_plain_equality given) (two_cells Equal given) r e)
    of_binary NotEqual r e = of_two NotEqual r (passed_there (has_plain_equality given) (two_cells NotEqual given) r e)
    of_binary Add r e = of_two Add r e
    of_binary Subtract r e = of_two Subtract r e
    of_binary Multiply r e = of_two Multiply r e
    of_binary Divide r e = of_two Divide r e
    of_binary Modulo r e = of_two Modulo r e
    of_binary Greater r e = of_two Greater r e
    of_binary GreaterOrEqual r e = of_two GreaterOrEqual r e
    of_binary Less r e = of_two Less r e
    of_binary LessOrEqual r e = of_two LessOrEqual r e
    of_binary And r e = of_two And r e
    of_binary Or r e = of_two Or r e
    of_binary Xor r e = of_two Xor r e

    of_choice : (r : CellRequest) → choice_request given ≡ Some r → OfRequest P Q r
    of_choice r e =
        let first = found_there _ (read scalar_in (codes "value") given) r e in
        let parts = both_there (choice first.0) (read scalar_in (codes "accept") given) (read scalar_in (codes "reject") given) r first.2 in
        subst (OfRequest P Q) parts.4
        (of_read (codes "value") given first.0 first.1 h q, of_read (codes "accept") given parts.0 parts.2 h q, of_read (codes "reject") given parts.1 parts.3 h q)

    of_reduction : (reducer : Reducer) (r : CellRequest) → reduction_request reducer given ≡ Some r → OfRequest P Q r
    of_reduction reducer r e =
        let parts = both_there (reduction reducer) (read flag_in (codes "ignore_nodata") given) (read items_in (codes "data") given) r e in
        subst (OfRequest P Q) parts.4 (of_read_items (codes "data") given parts.1 parts.3 h q)

    of_counting : (r : CellRequest) → counting_request given ≡ Some r → OfRequest P Q r
    of_counting r e =
        let passed = passed_there (passes is_scalar_literal (codes "context") given) _ r e in
        let parts = both_there (λ counter items. reduction counter true items) (read counter_in (codes "condition") given) (read items_in (codes "data") given) r passed in
        subst (OfRequest P Q) parts.4 (of_read_items (codes "data") given parts.1 parts.3 h q)

    of_element : (r : CellRequest) → element_request given ≡ Some r → OfRequest P Q r
    of_element r e =
        let first = found_there _ (read items_in (codes "data") given) r e in
        let second = found_there _ (read list_index_in (codes "index") given) r first.2 in
        let parts = both_there (element first.0 second.0) (read label_in (codes "label") given) (read flag_in (codes "return_nodata") given) r second.2 in
        subst (OfRequest P Q) parts.4 (of_read_items (codes "data") given first.0 first.1 h q)

    of_request : (operation : Operation) (r : CellRequest) → cell_request_of operation given ≡ Some r → OfRequest P Q r
    of_request (OfOne f) r e =
        let found = mapped_there (unary f) (read scalar_in (codes "x") given) r e in
        subst (OfRequest P Q) found.2 (of_read (codes "x") given found.0 found.1 h q)
    of_request (OfTwo f) r e = of_binary f r e
    of_request Choice r e = of_choice r e
    of_request (Reduction reducer) r e = of_reduction reducer r e
    of_request Counting r e = of_counting r e
    of_request Element r e = of_element r e

  -- what holds of the nodes that a node refers to holds of those that its request names
  pub of_node_request : (n : PlainNode) (r : CellRequest) → cell_request_at n ≡ Some r → OfAll P (references_named n.arguments) → OfAll Q (parameters_named n.arguments) → OfRequest P Q r
  of_node_request n r e h q =
      let found = found_there _ (operation_named n.process_id) r e in
      of_request n.arguments h q found.0 r found.2

-- ---- the steps of the recursions look down alone

pub value_looks_down : (e : Environment) → LooksDown (node_value e)
value_looks_down e n f g h = by (cell_request_at n) refl
  where
    by : (o : Option CellRequest) → cell_request_at n ≡ o
        → option_map_or (request_value e f) o Empty ≡ option_map_or (request_value e g) o Empty
    by None is = refl
    by (Some r) is = same_value e f g r (of_node_request (λ name. f name ≡ g name) AnyName n r is h (λ name c. tt))

pub kind_looks_down : (scope : PlainScope) (context : Cell) → LooksDown (node_kind scope context)
kind_looks_down scope context n f g h = by (cell_request_at n) refl
  where
    by : (o : Option CellRequest) → cell_request_at n ≡ o
        → option_and_then (request_kind scope context f) o ≡ option_and_then (request_kind scope context g) o
    by None is = refl
    by (Some r) is = same_kind scope context f g r (of_node_request (λ name. f name ≡ g name) AnyName n r is h (λ name c. tt))

-- the first row that holds at a node looks down in the same way
pub fault_looks_down : (scope : PlainScope) (context : Cell) (n : PlainNode) (f g : List ℕ → Option CellKind)
    → ((name : List ℕ) → Contains (references_named n.arguments) name → f name ≡ g name)
    → node_fault scope context f n ≡ node_fault scope context g n
fault_looks_down scope context n f g h = by (cell_request_at n) refl
  where
    by : (o : Option CellRequest) → cell_request_at n ≡ o
        → option_map_or (request_fault scope context f) o (Some ProcessParameterInvalid)
        ≡ option_map_or (request_fault scope context g) o (Some ProcessParameterInvalid)
    by None is = refl
    by (Some r) is = same_fault scope context f g r (of_node_request (λ name. f name ≡ g name) AnyName n r is h (λ name c. tt))
