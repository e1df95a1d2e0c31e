-- The cubes that a request works on are those of the nodes that it names, or that of its collection.
use Rattle.std.proofs.Common.{◌≡◌, ℕ, zero, suc, ◌+◌, ◌<◌, Bool, true, false, cond, List, [], ◌∷◌, length, drop, get_or, slice_index_or, Contains, Option, Some, None, option_map, refl, sym, ap, ◌∙◌, subst, arith}
use Rattle.std.proofs.lemmas.List.{at_drop_more}
use Rattle.std.proofs.lemmas.List.Elements.{Contains-push}
use Rattle.std.specs.Prelude.{find}
use Rattle.oe_dims.specs.Names.{same_name}
use Rattle.oe_dims.specs.declared.dims.DimsRow.{DimsRow}
use Rattle.oe_graph.specs.Printed.{ids_of}
use Rattle.oe_graph.specs.References.{references_named}
use Rattle.oe_graph.specs.States.{state_at}
use Rattle.oe_graph.specs.Tree.{Nodes, PlainNode}
use Rattle.oe_graph.proofs.ResolvedLemmas.{NodeAt}
use Rattle.oe_expr.specs.Requests.{with_both}
use Rattle.oe_graph.proofs.StateLemmas.{within_nodes}
use Rattle.oe_meanings.proofs.RequestLemmas.{EachOf, of_node_request}
use Rattle.oe_check.proofs.LinkLemmas.{index_is, object}
use Rattle.oe_meanings.specs.Graphs.{row_outline, outline_named}
use Rattle.oe_check.specs.Inputs.{AreNamed, outline_sound, WorksOn, AreInputs}
use Rattle.oe_check.specs.Links.{index_referred}
use Rattle.oe_requests.specs.Operations.{Outline}
use Rattle.oe_requests.specs.Requests.{CubeRequest, load_collection, cube_ids, cube_request_at}
use Rattle.oe_meanings.specs.Rows.{collection_not_found}
use Rattle.oe_check.specs.Walked.{AreResolved, IsNodeOf, IsKnown, AreKnown, State}
use Rattle.oe_requests.specs.declared.extent.BoundingBox.{BoundingBox}
use Rattle.oe_requests.specs.declared.extent.TemporalExtent.{TemporalExtent}

-- ---- a search along a list

module _ {A : Type 0} (test : A → Bool) (xs : List A) (i : ℕ) (a : A) (below : i < length xs) (is : a ≡ get_or xs i a) where
  find_at_index : find test (drop i xs) ≡ find test (a ∷ drop (i + 1) xs)
  find_at_index = at_drop_more (find test) xs i a below ∙ ap (λ (x : A). find test (x ∷ drop (i + 1) xs)) (sym is)

  pub find_here : test a ≡ true → find test (drop i xs) ≡ Some a
  find_here e = find_at_index ∙ ap (λ b. cond b (Some a) (find test (drop (i + 1) xs))) e

  pub find_over : test a ≡ false → find test (drop i xs) ≡ find test (drop (i + 1) xs)
  find_over e = find_at_index ∙ ap (λ b. cond b (Some a) (find test (drop (i + 1) xs))) e

-- ---- the nodes that a request names

each_named : (P : List ℕ → Type 0) (ids : List (List ℕ)) → EachOf P ids → (name : List ℕ) (k : ℕ) → k < length ids → slice_index_or ids k name ≡ name → P name
each_named P [] all name k below is = absurd (omega arith)
each_named P (id ∷ ids) all name zero below is = subst P is all.0
each_named P (id ∷ ids) all name (suc k) below is = each_named P ids all.1 name k (omega arith) is

-- what holds of the nodes that a node refers to holds of those that its request names
of_cubes : (P : List ℕ → Type 0) (n : PlainNode) (r : CubeRequest) → cube_request_at n ≡ Some r
    → ((name : List ℕ) → Contains (references_named n.arguments) name → P name) → (name : List ℕ) → Contains (cube_ids r) name → P name
of_cubes P n r asks all name has = each_named P (cube_ids r) (of_node_request P n r asks all) name has.0 has.1 has.2

module _ (nodes : Nodes) (is : AreResolved nodes) where
  pub cubes_are_nodes : (n : PlainNode) (r : CubeRequest) → IsNodeOf nodes n → cube_request_at n ≡ Some r
      → AreNamed nodes (cube_ids r)
  cubes_are_nodes n r at asks = of_cubes (Contains (ids_of nodes)) n r asks ((object nodes is).each n at).names_nodes

  pub cubes_are_known : (states : List State) (at : List ℕ → Outline) (n : PlainNode) (r : CubeRequest) → AreKnown nodes states at n → cube_request_at n ≡ Some r
      → (name : List ℕ) → Contains (cube_ids r) name → IsKnown nodes states at name
  cubes_are_known states at n r known asks = of_cubes (IsKnown nodes states at) n r asks known

  module _ (rows : List DimsRow) (states : List State) (at : List ℕ → Outline) where
    -- a node that is known
    outline_known : (name : List ℕ) (o : Option Outline) → o ≡ outline_sound (state_at states (index_referred nodes name))
        → IsKnown nodes states at name → o ≡ Some (at name)
    outline_known name o e known =
        let there : NodeAt nodes name = record {
          index = known.index;
          below = within_nodes nodes known.index known.node known.is_node;
          node = known.node;
          is_there = known.is_node;
          is_named = known.is_named;
        } in
        e
        ∙ (ap (λ k. outline_sound (state_at states k)) (index_is nodes is name there)
        ∙ (ap outline_sound known.state_is ∙ ap Some (sym known.outline_is)))

    -- the cubes of a request, where the nodes that it names are known
    abbrev Finds : CubeRequest → Option (Outline × Outline) → Type 0
    Finds r found = ((name : List ℕ) → Contains (cube_ids r) name → IsKnown nodes states at name) → AreInputs rows at r found

    abbrev twice : Option Outline → Option (Outline × Outline)
    twice o = option_map (λ (a : Outline). (a, a)) o

    abbrev both : Option Outline → Option Outline → Option (Outline × Outline)
    both one two = with_both (λ (a b : Outline). (a, b)) one two

    pub one_input : (q r : CubeRequest) (name : List ℕ) (o : Option Outline) (found : Option (Outline × Outline)) → q ≡ r
        → cube_ids r ≡ name ∷ [] → collection_not_found rows r ≡ false → WorksOn rows at r (at name) (at name)
        → o ≡ outline_sound (state_at states (index_referred nodes name)) → found ≡ twice o → Finds q found
    one_input q r name o found same names is_found works e is =
        subst (λ x. Finds x found) (sym same) (λ known.
        let one = known name (subst (λ ids. Contains ids name) (sym names) (Contains-push [] name)) in
        subst (AreInputs rows at r) (sym (is ∙ ap twice (outline_known name o e one))) (is_found, works))

    pub two_inputs : (q r : CubeRequest) (first second : List ℕ) (one two : Option Outline) (found : Option (Outline × Outline)) → q ≡ r
        → cube_ids r ≡ first ∷ second ∷ [] → collection_not_found rows r ≡ false → WorksOn rows at r (at first) (at second)
        → one ≡ outline_sound (state_at states (index_referred nodes first))
        → two ≡ outline_sound (state_at states (index_referred nodes second)) → found ≡ both one two → Finds q found
    two_inputs q r first second one two found same names is_found works e f is =
        subst (λ x. Finds x found) (sym same) (λ known.
        let there = known first (subst (λ ids. Contains ids first) (sym names) (0, omega arith, refl)) in
        let also = known second (subst (λ ids. Contains ids second) (sym names) (1, omega arith, refl)) in
        let found_is : found ≡ Some (at first, at second) =
        is ∙ (ap (λ o. both o two) (outline_known first one e there) ∙ ap (both (Some (at first))) (outline_known second two f also)) in
        subst (AreInputs rows at r) (sym found_is) (is_found, works))

pub load_input : (rows : List DimsRow) (at : List ℕ → Outline) (q : CubeRequest) (id : List ℕ) (box : Option BoundingBox) (time : Option TemporalExtent)
    (bands : Option (List (List ℕ))) (o : Option Outline) (found : Option (Outline × Outline)) → q ≡ load_collection id box time bands
    → o ≡ option_map row_outline (find (λ (row : DimsRow). same_name row.id id) rows)
    → found ≡ option_map (λ (a : Outline). (a, a)) o → AreInputs rows at q found
load_input rows at q id box time bands o found same e is =
    subst (λ x. AreInputs rows at x found) (sym same) (by (find (λ (row : DimsRow). same_name row.id id) rows) refl)
  where
    r : CubeRequest
    r = load_collection id box time bands

    by : (row : Option DimsRow) → find (λ (x : DimsRow). same_name x.id id) rows ≡ row → AreInputs rows at r found
    by None none =
        let nothing : found ≡ None = is ∙ ap (option_map (λ (a : Outline). (a, a))) (e ∙ ap (option_map row_outline) none) in
        subst (AreInputs rows at r) (sym nothing) (rw none refl)
    by (Some row) some =
        let one : found ≡ Some (row_outline row, row_outline row) = is ∙ ap (option_map (λ (a : Outline). (a, a))) (e ∙ ap (option_map row_outline) some) in
        let same : outline_named rows id ≡ row_outline row = rw some refl in
        subst (AreInputs rows at r) (sym one) (rw some refl, ap (λ a. a ∷ []) same)
