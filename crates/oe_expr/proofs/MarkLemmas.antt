-- Which nodes are needed: marking the nodes that a request names leaves the entries behind it as they were.
use Rattle.std.proofs.Common.{◌≡◌, ◌≢◌, ◌⊎◌, inl, inr, ℕ, zero, suc, ◌+◌, ◌<◌, ◌≤◌, ◌∷◌, [], ◌++◌, List, Bool, true, false, Option, Some, None, refl, sym, ap, ◌∙◌, subst, length, map, get_or, slice_get, slice_set, Contains, true≢false, arith, eqb, ltb, get_or-set_other, get_or-set_same, length-set}
use Rattle.std.specs.Bool.{⊤}
use Rattle.std.specs.List.{flat_map, AllPairs}
use Rattle.std.specs.Option.{option_map_or}
use Rattle.std.proofs.lemmas.Bool.{cases_Bool}
use Rattle.std.proofs.lemmas.Bool.Decides.{Decides-ltb, Decides-eqb, nat_tests}
use Rattle.std.proofs.lemmas.List.{get_or_past, get_or-map, length-map}
use Rattle.std.proofs.lemmas.List.Concat.{flat_map-cons}
use Rattle.std.proofs.lemmas.List.Elements.{Contains-append_cases}
use Rattle.std.proofs.lemmas.Map.Made.{IsDistinct-from_AllPairs}
use Rattle.std.proofs.lemmas.Map.Steps.{length-le_from_distinct_below}
use Rattle.std.proofs.lemmas.Map.Views.{Contains-from_any}
use Rattle.std.proofs.lemmas.Option.{get_or_from_slice_get, slice_get-get_or, slice_get_within}
use Rattle.oe_dims.proofs.IndexLemmas.{index_where_within}
use Rattle.oe_dims.specs.Names.{same_name}
use Rattle.oe_graph.specs.Plain.{plain_nodes}
use Rattle.oe_graph.specs.Printed.{node_count}
use Rattle.oe_graph.specs.References.{references_named}
use Rattle.oe_graph.specs.Tree.{PlainNode}
use Rattle.oe_graph.specs.declared.tree.Node.{Node}
use Rattle.oe_expr.specs.Orders.{StandsBefore, IsWalkOrder}
use Rattle.oe_expr.specs.Placed.{IsNeeded, AreMarked}
use Rattle.oe_expr.specs.Places.{scalar_names, items_names, request_names, mark_name, mark_names}
use Rattle.oe_expr.specs.PlainRequests.{plain_cell_request}
use Rattle.oe_expr.specs.Requests.{Scalar, literal, of_node, of_x, of_y, of_context, Items, the_data, written, CellRequest, unary, binary, choice, reduction, element, cell_request_at}
use Rattle.oe_expr.specs.Scope.{PlainScope}
use Rattle.oe_expr.specs.States.{index_named}
use Rattle.oe_expr.specs.Walked.{AreResolved}
use Rattle.oe_expr.specs.declared.walk.Judged.{Judged}
use Rattle.oe_expr.proofs.RequestLemmas.{OfScalar, OfScalars, OfItems, OfRequest, of_node_request}
use Rattle.oe_expr.proofs.StateLemmas.{index_of, node_within, count_plain}

-- ---- the names of a request

module _ (P Q : List ℕ → Type 0) where
  scalar_each : (s : Scalar) → OfScalar P Q s → (name : List ℕ) → Contains (scalar_names s) name → P name
  scalar_each (literal c) h name (k, within, is) = absurd (omega arith)
  scalar_each (of_node id) h name (zero, within, is) = subst P is h
  scalar_each (of_node id) h name (suc k, within, is) = absurd (omega arith)
  scalar_each of_x h name (k, within, is) = absurd (omega arith)
  scalar_each of_y h name (k, within, is) = absurd (omega arith)
  scalar_each of_context h name (k, within, is) = absurd (omega arith)

  scalars_each : (ss : List Scalar) → OfScalars P Q ss → (name : List ℕ) → Contains (flat_map scalar_names ss) name → P name
  scalars_each [] h name (k, within, is) = absurd (omega arith)
  scalars_each (s ∷ ss) h name there =
      elim (Contains-append_cases (scalar_names s) (flat_map scalar_names ss) name (subst (λ (names : List (List ℕ)). Contains names name) (flat_map-cons scalar_names s ss) there)) [
        | inl one ↦ scalar_each s h.0 name one
        | inr rest ↦ scalars_each ss h.1 name rest
      ]

  items_each : (items : Items) → OfItems P Q items → (name : List ℕ) → Contains (items_names items) name → P name
  items_each the_data h name (k, within, is) = absurd (omega arith)
  items_each (written ss) h name there = scalars_each ss h name there

  pub request_each : (r : CellRequest) → OfRequest P Q r → (name : List ℕ) → Contains (request_names r) name → P name
  request_each (unary f x) h name there = scalar_each x h name there
  request_each (binary f x y) h name there = elim (Contains-append_cases (scalar_names x) (scalar_names y) name there) [
    | inl one ↦ scalar_each x h.0 name one
    | inr two ↦ scalar_each y h.1 name two
  ]
  request_each (choice value accept reject) h name there = elim (Contains-append_cases (scalar_names value ++ scalar_names accept) (scalar_names reject) name there) [
    | inl two ↦ elim (Contains-append_cases (scalar_names value) (scalar_names accept) name two) [
      | inl one ↦ scalar_each value h.0 name one
      | inr two ↦ scalar_each accept h.1 name two
    ]
    | inr three ↦ scalar_each reject h.2 name three
  ]
  request_each (reduction reducer ignore items) h name there = items_each items h name there
  request_each (element items index label return_nodata) h name there = items_each items h name there

-- a node refers to each node that its request names
pub names_refer : (n : PlainNode) (r : CellRequest) → cell_request_at n ≡ Some r → (name : List ℕ) → Contains (request_names r) name → Contains (references_named n.arguments) name
names_refer n r asks = request_each (Contains (references_named n.arguments)) (λ (name : List ℕ). ⊤) r (of_node_request (Contains (references_named n.arguments)) (λ (name : List ℕ). ⊤) n r asks (λ name there. there) (λ name there. tt))

-- ---- marks

within_true : (needed : List Bool) (i : ℕ) → get_or needed i false ≡ true → i < length needed
within_true needed i h = elim (cases_Bool (ltb i (length needed))) [
  | inl e ↦ (Decides-ltb i (length needed)).0 e
  | inr e ↦
      let past : length needed ≤ i = grind (arith, nat_tests) in
      absurd (true≢false (sym h ∙ get_or_past needed i false past))
]

set_kept : (needed : List Bool) (k i : ℕ) → get_or needed i false ≡ true → get_or (slice_set needed k true) i false ≡ true
set_kept needed k i h = elim (cases_Bool (eqb i k)) [
  | inl e ↦
      let same : i ≡ k = (Decides-eqb i k).0 e in
      let within : i < length needed = within_true needed i h in
      subst (λ (j : ℕ). get_or (slice_set needed j true) i false ≡ true) same (get_or-set_same needed i true false within)
  | inr e ↦ let other : i ≢ k = grind (arith, nat_tests) in get_or-set_other needed k i true false other ∙ h
]

set_only : (needed : List Bool) (k i : ℕ) → get_or (slice_set needed k true) i false ≡ true → (get_or needed i false ≡ true) ⊎ (k ≡ i)
set_only needed k i h = elim (cases_Bool (eqb i k)) [
  | inl e ↦ inr (sym ((Decides-eqb i k).0 e))
  | inr e ↦ let other : i ≢ k = grind (arith, nat_tests) in inl (sym (get_or-set_other needed k i true false other) ∙ h)
]

module _ (nodes : List Node) where
  -- the node of a name, among these
  abbrev IsNamedIn : List (List ℕ) → ℕ → Type 0
  IsNamedIn names i = (name : List ℕ) × Contains names name × (index_named nodes name ≡ Some i)

  one_long : (needed : List Bool) (found : Option ℕ) → length (option_map_or (λ (k : ℕ). slice_set needed k true) found needed) ≡ length needed
  one_long needed None = refl
  one_long needed (Some k) = length-set needed k true

  one_kept : (needed : List Bool) (found : Option ℕ) (i : ℕ) → IsNeeded needed i → IsNeeded (option_map_or (λ (k : ℕ). slice_set needed k true) found needed) i
  one_kept needed None i h = h
  one_kept needed (Some k) i h = set_kept needed k i h

  one_marked : (needed : List Bool) (found : Option ℕ) (i : ℕ) → found ≡ Some i → i < length needed → IsNeeded (option_map_or (λ (k : ℕ). slice_set needed k true) found needed) i
  one_marked needed found i e h = rw e (get_or-set_same needed i true false h)

  one_only : (needed : List Bool) (found : Option ℕ) (i : ℕ) → IsNeeded (option_map_or (λ (k : ℕ). slice_set needed k true) found needed) i → IsNeeded needed i ⊎ (found ≡ Some i)
  one_only needed None i h = inl h
  one_only needed (Some k) i h = elim (set_only needed k i h) [
    | inl before ↦ inl before
    | inr same ↦ inr (ap Some same)
  ]

  pub names_long : (names : List (List ℕ)) (needed : List Bool) → length (mark_names nodes needed names) ≡ length needed
  names_long [] needed = refl
  names_long (name ∷ names) needed = names_long names (mark_name nodes needed name) ∙ one_long needed (index_named nodes name)

  pub names_kept : (names : List (List ℕ)) (needed : List Bool) (i : ℕ) → IsNeeded needed i → IsNeeded (mark_names nodes needed names) i
  names_kept [] needed i h = h
  names_kept (name ∷ names) needed i h = names_kept names (mark_name nodes needed name) i (one_kept needed (index_named nodes name) i h)

  names_marked : (names : List (List ℕ)) (needed : List Bool) (name : List ℕ) → Contains names name → (i : ℕ) → index_named nodes name ≡ Some i → i < length needed
      → IsNeeded (mark_names nodes needed names) i
  names_marked [] needed name (k, within, is) i e h = absurd (omega arith)
  names_marked (first ∷ names) needed name (zero, within, is) i e h =
      names_kept names (mark_name nodes needed first) i (one_marked needed (index_named nodes first) i (ap (index_named nodes) is ∙ e) h)
  names_marked (first ∷ names) needed name (suc k, within, is) i e h =
      let long : length (mark_name nodes needed first) ≡ length needed = one_long needed (index_named nodes first) in
      names_marked names (mark_name nodes needed first) name (k, omega arith, is) i e (omega arith)

  names_only : (names : List (List ℕ)) (needed : List Bool) (i : ℕ) → IsNeeded (mark_names nodes needed names) i → IsNeeded needed i ⊎ IsNamedIn names i
  names_only [] needed i h = inl h
  names_only (first ∷ names) needed i h = elim (names_only names (mark_name nodes needed first) i h) [
    | inl one ↦ elim (one_only needed (index_named nodes first) i one) [
      | inl before ↦ inl before
      | inr here ↦ inr (first, (0, omega arith, refl), here)
    ]
    | inr later ↦
        let there = later.1 in
        inr (later.0, (suc there.0, let below = there.1 in omega arith, there.2), later.2)
  ]

-- ---- along the order

module _ (scope : PlainScope) (nodes : List Node) (is : AreResolved scope nodes) (order : List Judged) (walk : IsWalkOrder (plain_nodes nodes) order) where
  -- an entry is that of a node
  pub entry_within : (k : ℕ) (entry : Judged) → slice_get order k ≡ Some entry → entry.node < length nodes
  entry_within k entry at = let e = walk.entry k entry at in node_within nodes entry.node e.node e.is_entry.stands

  -- a node that another's request names has an entry before that other's
  pub named_before : (k : ℕ) (entry : Judged) → slice_get order k ≡ Some entry → (name : List ℕ) → Contains (request_names (plain_cell_request entry.request)) name
      → StandsBefore (plain_nodes nodes) order k name
  named_before k entry at name there =
      let e = walk.entry k entry at in
      walk.behind k entry e.node name at e.is_entry (names_refer e.node (plain_cell_request entry.request) e.is_entry.asks name there)

  pub index_before : (k : ℕ) (name : List ℕ) (b : StandsBefore (plain_nodes nodes) order k name) → index_named nodes name ≡ Some b.entry.node
  index_before k name b = ap (index_named nodes) (sym b.is_named) ∙ index_of scope nodes is b.entry.node b.node b.is_entry.stands

  pub entries_differ : (i j : ℕ) (a b : Judged) → i < j → slice_get order i ≡ Some a → slice_get order j ≡ Some b → a.node ≢ b.node
  entries_differ i j a b h at_i at_j e =
      let within : j < length order = slice_get_within order j b at_j in
      let ga : get_or order i a ≡ a = get_or_from_slice_get order i a a at_i in
      let gb : get_or order j a ≡ b = get_or_from_slice_get order j b a at_j in
      walk.once i j a h within (ap (λ (x : Judged). x.node) ga ∙ e ∙ sym (ap (λ (x : Judged). x.node) gb))

  -- the entry before is marked, where its node is needed
  pub marked_step : (needed : List Bool) (k : ℕ) (entry : Judged) → length needed ≡ length nodes → slice_get order k ≡ Some entry → IsNeeded needed entry.node
      → AreMarked nodes order needed (k + 1) → AreMarked nodes order (mark_names nodes needed (request_names (plain_cell_request entry.request))) k
  marked_step needed k entry long at there marked j other h at_j needed_j name named index found =
      elim (names_only nodes (request_names (plain_cell_request entry.request)) needed other.node needed_j) [
        | inl before ↦ elim (cases_Bool (eqb j k)) [
          | inl e ↦
              let same : j ≡ k = (Decides-eqb j k).0 e in
              let twice : Some other ≡ Some entry = sym at_j ∙ ap (slice_get order) same ∙ at in
              let one : other ≡ entry = cc in
              let within : index < length needed = subst (λ (n : ℕ). index < n) (sym long) (index_where_within (λ (n : Node). same_name n.id name) nodes index found) in
              names_marked nodes (request_names (plain_cell_request entry.request)) needed name (subst (λ (x : Judged). Contains (request_names (plain_cell_request x.request)) name) one named) index found within
          | inr e ↦
              let past : k + 1 ≤ j = grind (arith, nat_tests) in
              names_kept nodes (request_names (plain_cell_request entry.request)) needed index (marked j other past at_j before name named index found)
        ]
        | inr by_name ↦
            let b = named_before k entry at by_name.0 by_name.1 in
            let both : Some b.entry.node ≡ Some other.node = sym (index_before k by_name.0 b) ∙ by_name.2 in
            let same : b.entry.node ≡ other.node = cc in
            let earlier = b.is_before in
            absurd (entries_differ b.index j b.entry other (omega arith) b.at at_j same)
      ]

  -- and where it is not needed, it has not to be
  pub unmarked_step : (needed : List Bool) (k : ℕ) (entry : Judged) → slice_get order k ≡ Some entry → ¬ IsNeeded needed entry.node
      → AreMarked nodes order needed (k + 1) → AreMarked nodes order needed k
  unmarked_step needed k entry at not marked j other h at_j needed_j = elim (cases_Bool (eqb j k)) [
    | inl e ↦
        let same : j ≡ k = (Decides-eqb j k).0 e in
        let twice : Some other ≡ Some entry = sym at_j ∙ ap (slice_get order) same ∙ at in
        let one : other ≡ entry = cc in
        absurd (not (subst (λ (x : Judged). IsNeeded needed x.node) one needed_j))
    | inr e ↦ let past : k + 1 ≤ j = grind (arith, nat_tests) in marked j other past at_j needed_j
  ]

  pub none_marked : (needed : List Bool) → AreMarked nodes order needed (length order)
  none_marked needed j other h at_j = let within : j < length order = slice_get_within order j other at_j in absurd (omega arith)

  -- there are as many entries as nodes at most
  pub few_entries : length order ≤ 64
  few_entries =
      let node_of : Judged → ℕ = λ (x : Judged). x.node in
      let differ : AllPairs (λ (a b : ℕ). a ≢ b) (map node_of order) = λ i j d h within e.
      let in_order : j < length order = subst (λ (n : ℕ). j < n) (length-map order node_of) within in
      differ_at i j d h in_order e in
      let below = length-le_from_distinct_below (map node_of order) (length nodes) (IsDistinct-from_AllPairs Decides-eqb (map node_of order) differ) (λ q found. node_below q (Contains-from_any (λ (x y : ℕ) t. (Decides-eqb x y).0 t) q (map node_of order) found)) in
      let count : node_count (plain_nodes nodes) ≡ length nodes = count_plain nodes in
      let most = is.resolved.fits in
      let long : length (map node_of order) ≡ length order = length-map order node_of in
      omega arith
    where
      differ_at : (i j : ℕ) (d : ℕ) → i < j → j < length order → get_or (map (λ (x : Judged). x.node) order) i d ≡ get_or (map (λ (x : Judged). x.node) order) j d → ⊥
      differ_at i j d h within e = by order refl
        where
          by : (xs : List Judged) → order ≡ xs → ⊥
          by [] none = let empty : length order ≡ 0 = ap length none in absurd (omega arith)
          by (x ∷ xs) some =
              let first : i < length order = omega arith in
              walk.once i j x h within (sym (get_or-map (λ (y : Judged). y.node) order i x d first) ∙ e ∙ get_or-map (λ (y : Judged). y.node) order j x d within)

      node_below : (q : ℕ) → Contains (map (λ (x : Judged). x.node) order) q → q < length nodes
      node_below q (k, within, at) = by order refl
        where
          by : (xs : List Judged) → order ≡ xs → q < length nodes
          by [] none = let empty : length (map (λ (x : Judged). x.node) order) ≡ 0 = ap (λ (ys : List Judged). length (map (λ (x : Judged). x.node) ys)) none in absurd (omega arith)
          by (x ∷ xs) some =
              let in_order : k < length order = subst (λ (n : ℕ). k < n) (length-map order (λ (y : Judged). y.node)) within in
              let below : (get_or order k x).node < length nodes = entry_within k (get_or order k x) (slice_get-get_or order k x in_order) in
              subst (λ (n : ℕ). n < length nodes) (sym (get_or-map (λ (y : Judged). y.node) order k x q in_order) ∙ at) below
