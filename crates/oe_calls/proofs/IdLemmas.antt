-- Ids of the nodes of a graph object through a round. They rise, none is empty, and none is another one followed by `/`:
-- so the ids that calls give way to are new, and differ from each other.
use Rattle.std.proofs.Common.{◌≡◌, ◌≢◌, ◌⊎◌, inl, inr, ℕ, zero, suc, ◌+◌, ◌<◌, Bool, true, false, cond, if◌then◌else◌, List, [], ◌∷◌, ◌++◌, map, find, Contains, Option, Some, None, is_some, option_and_then, refl, sym, ap, ◌∙◌, subst, true≢false, append_assoc, arith}
use Rattle.std.proofs.lemmas.List.Elements.{Contains-append_left, Contains-append_right, Contains-append_cases}
use Rattle.oe_dims.specs.Names.{same_name, is_name_before, names_rise}
use Rattle.oe_dims.proofs.OrderLemmas.{same_name_is, same_name_refl}
use Rattle.oe_dims.proofs.NameOrderLemmas.{before_trans, not_before_itself}
use Rattle.oe_graph.specs.Printed.{ids_of, node_count}
use Rattle.oe_graph.specs.References.{each_node}
use Rattle.oe_graph.specs.Tree.{Named, Nodes, no_nodes, node, PlainNode, PlainStored}
use Rattle.oe_calls.specs.Calls.{callee}
use Rattle.oe_calls.specs.Substituted.{substituted_nodes, values_given}
use Rattle.oe_calls.specs.Renamed.{renamed_nodes}
use Rattle.oe_calls.specs.Rounds.{under_id, put_node, put_nodes, id_at, index_of, landing, landed, opened, round_named, round_nodes}
use Rattle.oe_calls.proofs.Along.{there_cases, none_there, in_first, later_there, in_map, map_there}
use Rattle.oe_calls.proofs.NameLemmas.{other_before, starts_after, rise_from, rise_parts}

-- ---- names that rise differ

-- the first of names that rise stands before each later one
pub before_later : (a : List ℕ) (names : List (List ℕ)) (b : List ℕ) → names_rise (a ∷ names) ≡ true → Contains names b
    → is_name_before a b ≡ true
before_later a [] b rise has = absurd (none_there b has)
before_later a (c ∷ names) b rise has =
    let parts = rise_parts a (c ∷ names) rise in
    elim (there_cases c names b has) as (λ _. is_name_before a b ≡ true) [
      | inl is ↦ subst (λ n. is_name_before a n ≡ true) is parts.0
      | inr there ↦ before_trans a c b parts.0 (before_later c names b parts.1 there)
    ]

pub not_later : (a : List ℕ) (names : List (List ℕ)) → names_rise (a ∷ names) ≡ true → Contains names a → ⊥
not_later a names rise has = true≢false (sym (before_later a names a rise has) ∙ not_before_itself a)

-- ---- a name at the index that it has in byte order

abbrev put_name : List ℕ → List (List ℕ) → List (List ℕ)
put_name x [] = x ∷ []
put_name x (y ∷ ys) = if is_name_before y x then y ∷ put_name x ys else x ∷ y ∷ ys

abbrev put_names : List (List ℕ) → List (List ℕ) → List (List ℕ)
put_names [] found = found
put_names (x ∷ xs) found = put_names xs (put_name x found)

put_name_if : (before : Bool) (x y z : List ℕ) (ys : List (List ℕ)) → (Contains (put_name x ys) z → (x ≡ z) ⊎ Contains ys z)
    → Contains (if before then y ∷ put_name x ys else x ∷ y ∷ ys) z → (x ≡ z) ⊎ Contains (y ∷ ys) z
put_name_if true x y z ys later has =
    elim (there_cases y (put_name x ys) z has) as (λ _. (x ≡ z) ⊎ Contains (y ∷ ys) z) [
      | inl is ↦ inr (in_first y ys z is)
      | inr there ↦ elim (later there) as (λ _. (x ≡ z) ⊎ Contains (y ∷ ys) z) [
        | inl is ↦ inl is
        | inr old ↦ inr (later_there y ys z old)
      ]
    ]
put_name_if false x y z ys later has = there_cases x (y ∷ ys) z has

in_put : (x : List ℕ) (ys : List (List ℕ)) (z : List ℕ) → Contains (put_name x ys) z → (x ≡ z) ⊎ Contains ys z
in_put x [] z has = there_cases x [] z has
in_put x (y ∷ ys) z has = put_name_if (is_name_before y x) x y z ys (in_put x ys z) has

kept_if : (before : Bool) (x y z : List ℕ) (ys : List (List ℕ)) → (Contains ys z → Contains (put_name x ys) z)
    → Contains (y ∷ ys) z → Contains (if before then y ∷ put_name x ys else x ∷ y ∷ ys) z
kept_if true x y z ys later has =
    elim (there_cases y ys z has) as (λ _. Contains (y ∷ put_name x ys) z) [
      | inl is ↦ in_first y (put_name x ys) z is
      | inr there ↦ later_there y (put_name x ys) z (later there)
    ]
kept_if false x y z ys later has = later_there x (y ∷ ys) z has

put_keeps : (x : List ℕ) (ys : List (List ℕ)) (z : List ℕ) → Contains ys z → Contains (put_name x ys) z
put_keeps x [] z has = absurd (none_there z has)
put_keeps x (y ∷ ys) z has = kept_if (is_name_before y x) x y z ys (put_keeps x ys z) has

here_if : (before : Bool) (x y : List ℕ) (ys : List (List ℕ)) → Contains (put_name x ys) x
    → Contains (if before then y ∷ put_name x ys else x ∷ y ∷ ys) x
here_if true x y ys later = later_there y (put_name x ys) x later
here_if false x y ys later = in_first x (y ∷ ys) x refl

put_here : (x : List ℕ) (ys : List (List ℕ)) → Contains (put_name x ys) x
put_here x [] = in_first x [] x refl
put_here x (y ∷ ys) = here_if (is_name_before y x) x y ys (put_here x ys)

start_if : (before : Bool) (k x y : List ℕ) (ys : List (List ℕ)) → is_name_before k x ≡ true → is_name_before k y ≡ true
    → starts_after k (if before then y ∷ put_name x ys else x ∷ y ∷ ys) ≡ true
start_if true k x y ys before_x before_y = before_y
start_if false k x y ys before_x before_y = before_x

put_start : (k x : List ℕ) (ys : List (List ℕ)) → is_name_before k x ≡ true → starts_after k ys ≡ true
    → starts_after k (put_name x ys) ≡ true
put_start k x [] before after = before
put_start k x (y ∷ ys) before after = start_if (is_name_before y x) k x y ys before after

differ_by : (same : Bool) (x y : List ℕ) → same_name y x ≡ same → (x ≡ y → ⊥) → same ≡ false
differ_by true x y is differ = absurd (differ (same_name_is y x is))
differ_by false x y is differ = refl

rise_if : (before : Bool) (x y : List ℕ) (ys : List (List ℕ)) → is_name_before y x ≡ before → same_name y x ≡ false
    → names_rise (y ∷ ys) ≡ true → names_rise (put_name x ys) ≡ true
    → names_rise (if before then y ∷ put_name x ys else x ∷ y ∷ ys) ≡ true
rise_if true x y ys is differ rise later =
    rise_from y (put_name x ys) (put_start y x ys is (rise_parts y ys rise).0) later
rise_if false x y ys is differ rise later = rise_from x (y ∷ ys) (other_before y x is differ) rise

put_rises : (x : List ℕ) (ys : List (List ℕ)) → (Contains ys x → ⊥) → names_rise ys ≡ true → names_rise (put_name x ys) ≡ true
put_rises x [] new rise = refl
put_rises x (y ∷ ys) new rise =
    rise_if (is_name_before y x) x y ys refl
    (differ_by (same_name y x) x y refl (λ is. new (in_first y ys x (sym is)))) rise
    (put_rises x ys (λ has. new (later_there y ys x has)) (rise_parts y ys rise).1)

-- names of which no two are equal
abbrev Distinct : List (List ℕ) → Type 0
Distinct [] = Unit {0}
Distinct (x ∷ xs) = (Contains xs x → ⊥) × Distinct xs

puts_rise : (xs found : List (List ℕ)) → Distinct xs → ((x : List ℕ) → Contains xs x → Contains found x → ⊥)
    → names_rise found ≡ true → names_rise (put_names xs found) ≡ true
puts_rise [] found distinct new rise = rise
puts_rise (x ∷ xs) found distinct new rise =
    puts_rise xs (put_name x found) distinct.1
    (λ y has there. elim (in_put x found y there) as (λ _. ⊥) [
      | inl is ↦ distinct.0 (subst (λ z. Contains xs z) (sym is) has)
      | inr old ↦ new y (later_there x xs y has) old
    ])
    (put_rises x found (λ there. new x (in_first x xs x refl) there) rise)

in_puts : (xs found : List (List ℕ)) (z : List ℕ) → Contains (put_names xs found) z → Contains xs z ⊎ Contains found z
in_puts [] found z has = inr has
in_puts (x ∷ xs) found z has =
    elim (in_puts xs (put_name x found) z has) as (λ _. Contains (x ∷ xs) z ⊎ Contains found z) [
      | inl there ↦ inl (later_there x xs z there)
      | inr put ↦ elim (in_put x found z put) as (λ _. Contains (x ∷ xs) z ⊎ Contains found z) [
        | inl is ↦ inl (in_first x xs z is)
        | inr old ↦ inr old
      ]
    ]

puts_keep : (xs found : List (List ℕ)) (z : List ℕ) → Contains found z → Contains (put_names xs found) z
puts_keep [] found z has = has
puts_keep (x ∷ xs) found z has = puts_keep xs (put_name x found) z (put_keeps x found z has)

puts_have : (xs found : List (List ℕ)) (z : List ℕ) → Contains xs z → Contains (put_names xs found) z
puts_have [] found z has = absurd (none_there z has)
puts_have (x ∷ xs) found z has =
    elim (there_cases x xs z has) as (λ _. Contains (put_names xs (put_name x found)) z) [
      | inl is ↦ puts_keep xs (put_name x found) z (subst (λ y. Contains (put_name x found) y) is (put_here x found))
      | inr there ↦ puts_have xs (put_name x found) z there
    ]

append_distinct : (xs ys : List (List ℕ)) → Distinct xs → Distinct ys → ((x : List ℕ) → Contains xs x → Contains ys x → ⊥)
    → Distinct (xs ++ ys)
append_distinct [] ys dx dy apart = dy
append_distinct (x ∷ xs) ys dx dy apart = (
  λ has. elim (Contains-append_cases xs ys x has) as (λ _. ⊥) [
    | inl again ↦ dx.0 again
    | inr there ↦ apart x (in_first x xs x refl) there
  ],
  append_distinct xs ys dx.1 dy (λ y has. apart y (later_there x xs y has)),
)

-- ---- the ids that a round puts

ids_put_if : (before : Bool) (n : PlainNode) (id p : List ℕ) (s : Option (List ℕ)) (args : Named) (rest : Nodes)
    → ids_of (put_node n rest) ≡ put_name n.id (ids_of rest)
    → ids_of (if before then node id p s args (put_node n rest) else node n.id n.process_id n.namespace n.arguments (node id p s args rest))
    ≡ (if before then id ∷ put_name n.id (ids_of rest) else n.id ∷ id ∷ ids_of rest)
ids_put_if true n id p s args rest later = ap (λ xs. id ∷ xs) later
ids_put_if false n id p s args rest later = refl

ids_of-put : (n : PlainNode) (found : Nodes) → ids_of (put_node n found) ≡ put_name n.id (ids_of found)
ids_of-put n no_nodes = refl
ids_of-put n (node id p s args rest) = ids_put_if (is_name_before id n.id) n id p s args rest (ids_of-put n rest)

ids_of-puts : (more found : Nodes) → ids_of (put_nodes more found) ≡ put_names (ids_of more) (ids_of found)
ids_of-puts no_nodes found = refl
ids_of-puts (node id p s args rest) found =
    let n : PlainNode = record { id = id; process_id = p; namespace = s; arguments = args } in
    ids_of-puts rest (put_node n found) ∙ ap (put_names (ids_of rest)) (ids_of-put n found)

-- in place of a node
abbrev pub ids_opened : List ℕ → Option PlainStored → List (List ℕ)
ids_opened id None = id ∷ []
ids_opened id (Some s) = map (under_id id) (ids_of s.graph.nodes)

abbrev pub new_ids : List PlainStored → Nodes → List (List ℕ)
new_ids stored no_nodes = []
new_ids stored (node id p s args rest) = ids_opened id (callee stored s p) ++ new_ids stored rest

ids_of-substituted : (stored : List PlainStored) (values : Named) (ns : Nodes) → ids_of (substituted_nodes stored values ns) ≡ ids_of ns
ids_of-substituted stored values no_nodes = refl
ids_of-substituted stored values (node id p s args rest) = ap (λ xs. id ∷ xs) (ids_of-substituted stored values rest)

ids_of-under : (call : List ℕ) (ns : Nodes) → ids_of (renamed_nodes (under_id call) ns) ≡ map (under_id call) (ids_of ns)
ids_of-under call no_nodes = refl
ids_of-under call (node id p s args rest) = ap (λ xs. under_id call id ∷ xs) (ids_of-under call rest)

ids_of-opened : (stored : List PlainStored) (n : PlainNode) (call : Option PlainStored)
    → ids_of (opened stored n call) ≡ ids_opened n.id call
ids_of-opened stored n None = refl
ids_of-opened stored n (Some s) =
    ids_of-substituted stored (values_given s.parameters n.arguments) (renamed_nodes (under_id n.id) s.graph.nodes)
    ∙ ids_of-under n.id s.graph.nodes

puts_append : (xs ys found : List (List ℕ)) → put_names ys (put_names xs found) ≡ put_names (xs ++ ys) found
puts_append [] ys found = refl
puts_append (x ∷ xs) ys found = puts_append xs ys (put_name x found)

pub ids_of-round : (stored : List PlainStored) (all ns found : Nodes)
    → ids_of (round_nodes stored all ns found) ≡ put_names (new_ids stored ns) (ids_of found)
ids_of-round stored all no_nodes found = refl
ids_of-round stored all (node id p s args rest) found =
    let n : PlainNode = record { id = id; process_id = p; namespace = s; arguments = round_named stored (is_some (callee stored s p)) all args } in
    let put = opened stored n (callee stored s p) in
    ids_of-round stored all rest (put_nodes put found)
    ∙ (ap (put_names (new_ids stored rest)) (ids_of-puts put found ∙ ap (λ xs. put_names xs (ids_of found)) (ids_of-opened stored n (callee stored s p)))
    ∙ puts_append (ids_opened id (callee stored s p)) (new_ids stored rest) (ids_of found))

-- ---- ids that are apart

-- no `/` stands in a name
abbrev pub HasNoSlash : List ℕ → Type 0
HasNoSlash name = (a b : List ℕ) → name ≡ a ++ 47 ∷ b → ⊥

-- none of the ids is another one followed by `/`
abbrev pub AreApart : List (List ℕ) → Type 0
AreApart ids = (a b rest : List ℕ) → Contains ids a → Contains ids b → b ≡ a ++ 47 ∷ rest → ⊥

-- a name in which the last `/` stands before y, and another place where it has one: that place is the same one, or stands
-- before it
pub data Split (a b y rest : List ℕ) : Type 0 where
  same : b ≡ a → y ≡ rest → Split a b y rest
  before : (more : List ℕ) → b ≡ a ++ 47 ∷ more → Split a b y rest

head_is : (x y : ℕ) (xs ys : List ℕ) → x ∷ xs ≡ y ∷ ys → x ≡ y
head_is x y xs ys is = cc

tail_is : (x y : ℕ) (xs ys : List ℕ) → x ∷ xs ≡ y ∷ ys → xs ≡ ys
tail_is x y xs ys is = cc

split_cons : (x z : ℕ) (a b y rest : List ℕ) → x ≡ z → Split a b y rest → Split (z ∷ a) (x ∷ b) y rest
split_cons x z a b y rest is (same same_b same_y) = same (ap (λ h. h ∷ b) is ∙ ap (λ t. z ∷ t) same_b) same_y
split_cons x z a b y rest is (before more longer) = before more (ap (λ h. h ∷ b) is ∙ ap (λ t. z ∷ t) longer)

pub split_at : (a b y rest : List ℕ) → HasNoSlash y → b ++ 47 ∷ y ≡ a ++ 47 ∷ rest → Split a b y rest
split_at [] [] y rest none is = same refl (tail_is 47 47 y rest is)
split_at (z ∷ a) [] y rest none is = absurd (none a rest (tail_is 47 z y (a ++ 47 ∷ rest) is))
split_at [] (x ∷ b) y rest none is = before b (ap (λ h. h ∷ b) (head_is x 47 (b ++ 47 ∷ y) rest is))
split_at (z ∷ a) (x ∷ b) y rest none is =
    split_cons x z a b y rest (head_is x z (b ++ 47 ∷ y) (a ++ 47 ∷ rest) is)
    (split_at a b y rest none (tail_is x z (b ++ 47 ∷ y) (a ++ 47 ∷ rest) is))

-- what a node's id gives way to: the id itself where it calls none, else the id, `/` and a name without one
pub data Shape (call : Option PlainStored) (id x : List ℕ) : Type 0 where
  kept : call ≡ None → x ≡ id → Shape call id x
  part : (s : PlainStored) → call ≡ Some s → (y : List ℕ) → HasNoSlash y → x ≡ id ++ 47 ∷ y → Shape call id x

-- the ids of each stored process that may be called are names: not empty, without `/`, and rising
pub record HasNames (s : PlainStored) : Type 0 where
  pub rise : names_rise (ids_of s.graph.nodes) ≡ true
  pub full : Contains (ids_of s.graph.nodes) [] → ⊥
  pub plain : (id : List ℕ) → Contains (ids_of s.graph.nodes) id → HasNoSlash id
  pub has_result : s.graph.result < node_count s.graph.nodes

under_full : (call id : List ℕ) → id ≢ [] → under_id call id ≡ call ++ 47 ∷ id
under_full call [] full = absurd (full refl)
under_full call (b ∷ id) full = refl

pub shape_of : (call : Option PlainStored) (id x : List ℕ) → ((s : PlainStored) → call ≡ Some s → HasNames s)
    → Contains (ids_opened id call) x → Shape call id x
shape_of None id x names has =
    elim (there_cases id [] x has) as (λ _. Shape None id x) [
      | inl is ↦ kept refl (sym is)
      | inr there ↦ absurd (none_there x there)
    ]
shape_of (Some s) id x names has =
    let from = in_map (under_id id) (ids_of s.graph.nodes) x has in
    let called = names s refl in
    part s refl from.of (called.plain from.of from.has)
    (sym from.is ∙ under_full id from.of (λ empty. called.full (subst (λ y. Contains (ids_of s.graph.nodes) y) empty from.has)))

-- the node that an id comes from
pub record Origin (stored : List PlainStored) (ns : Nodes) (x : List ℕ) : Type 0 where
  pub of : PlainNode
  pub has : Contains (each_node ns) of
  pub opens : Contains (ids_opened of.id (callee stored of.namespace of.process_id)) x

pub origin_of : (stored : List PlainStored) (ns : Nodes) (x : List ℕ) → Contains (new_ids stored ns) x → Origin stored ns x
origin_of stored no_nodes x has = absurd (none_there x has)
origin_of stored (node id p s args rest) x has =
    let n : PlainNode = record { id = id; process_id = p; namespace = s; arguments = args } in
    elim (Contains-append_cases (ids_opened id (callee stored s p)) (new_ids stored rest) x has)
    as (λ _. Origin stored (node id p s args rest) x) [
      | inl here ↦ record { of = n; has = in_first n (each_node rest) n refl; opens = here }
      | inr there ↦ let later = origin_of stored rest x there in
          record { of = later.of; has = later_there n (each_node rest) later.of later.has; opens = later.opens }
    ]

pub origin_in : (stored : List PlainStored) (ns : Nodes) (n : PlainNode) (x : List ℕ) → Contains (each_node ns) n
    → Contains (ids_opened n.id (callee stored n.namespace n.process_id)) x → Contains (new_ids stored ns) x
origin_in stored no_nodes n x has opens = absurd (none_there n has)
origin_in stored (node id p s args rest) n x has opens =
    let first : PlainNode = record { id = id; process_id = p; namespace = s; arguments = args } in
    elim (there_cases first (each_node rest) n has) as (λ _. Contains (ids_opened id (callee stored s p) ++ new_ids stored rest) x) [
      | inl is ↦ Contains-append_left (ids_opened id (callee stored s p)) (new_ids stored rest) x
          (subst (λ (m : PlainNode). Contains (ids_opened m.id (callee stored m.namespace m.process_id)) x) (sym is) opens)
      | inr there ↦ Contains-append_right (ids_opened id (callee stored s p)) (new_ids stored rest) x
          (origin_in stored rest n x there opens)
    ]

-- the id of a node is one of the ids
pub id_has : (ns : Nodes) (n : PlainNode) → Contains (each_node ns) n → Contains (ids_of ns) n.id
id_has no_nodes n has = absurd (none_there n has)
id_has (node id p s args rest) n has =
    let first : PlainNode = record { id = id; process_id = p; namespace = s; arguments = args } in
    elim (there_cases first (each_node rest) n has) as (λ _. Contains (id ∷ ids_of rest) n.id) [
      | inl is ↦ in_first id (ids_of rest) n.id (ap (λ (m : PlainNode). m.id) is)
      | inr there ↦ later_there id (ids_of rest) n.id (id_has rest n there)
    ]

-- where ids rise, nodes of one id are one
pub node_unique : (ns : Nodes) (m n : PlainNode) → names_rise (ids_of ns) ≡ true → Contains (each_node ns) m
    → Contains (each_node ns) n → m.id ≡ n.id → m ≡ n
node_unique no_nodes m n rise has_m has_n is = absurd (none_there m has_m)
node_unique (node id p s args rest) m n rise has_m has_n is =
    let first : PlainNode = record { id = id; process_id = p; namespace = s; arguments = args } in
    elim (there_cases first (each_node rest) m has_m) as (λ _. m ≡ n) [
      | inl m_is ↦ elim (there_cases first (each_node rest) n has_n) as (λ _. m ≡ n) [
        | inl n_is ↦ sym m_is ∙ n_is
        | inr there ↦ absurd (not_later id (ids_of rest) rise
            (subst (λ x. Contains (ids_of rest) x) (sym is ∙ sym (ap (λ (k : PlainNode). k.id) m_is)) (id_has rest n there)))
      ]
      | inr there ↦ elim (there_cases first (each_node rest) n has_n) as (λ _. m ≡ n) [
        | inl n_is ↦ absurd (not_later id (ids_of rest) rise
            (subst (λ x. Contains (ids_of rest) x) (is ∙ sym (ap (λ (k : PlainNode). k.id) n_is)) (id_has rest m there)))
        | inr also ↦ node_unique rest m n (rise_parts id (ids_of rest) rise).1 there also is
      ]
    ]

-- ---- one graph object through a round

-- ids rise, none is empty, none is another one followed by `/`, and the result is the index of a node
pub record InOrder (ns : Nodes) (result : ℕ) : Type 0 where
  pub rise : names_rise (ids_of ns) ≡ true
  pub full : Contains (ids_of ns) [] → ⊥
  pub apart : AreApart (ids_of ns)
  pub has_result : result < node_count ns

not_empty : (id y : List ℕ) → [] ≡ id ++ 47 ∷ y → ⊥
not_empty [] y is = cc
not_empty (b ∷ id) y is = cc

same_rest : (id x y : List ℕ) → id ++ 47 ∷ x ≡ id ++ 47 ∷ y → x ≡ y
same_rest [] x y is = tail_is 47 47 x y is
same_rest (b ∷ id) x y is = same_rest id x y (tail_is b b (id ++ 47 ∷ x) (id ++ 47 ∷ y) is)

none_some : {X : Type 0} (o : Option X) (x : X) → o ≡ None → o ≡ Some x → ⊥
none_some o x none some = let both : None ≡ Some x = sym none ∙ some in cc

id_at_has : (ns : Nodes) (k : ℕ) → k < node_count ns → Contains (ids_of ns) (id_at ns k)
id_at_has no_nodes k below = absurd (omega arith)
id_at_has (node id p s args rest) zero below = in_first id (ids_of rest) id refl
id_at_has (node id p s args rest) (suc k) below = later_there id (ids_of rest) (id_at rest k) (id_at_has rest k (omega arith))

node_at : (ns : Nodes) (id : List ℕ) → Contains (ids_of ns) id → (n : PlainNode) × (Contains (each_node ns) n) × (n.id ≡ id)
node_at no_nodes id has = absurd (none_there id has)
node_at (node other p s args rest) id has =
    let first : PlainNode = record { id = other; process_id = p; namespace = s; arguments = args } in
    elim (there_cases other (ids_of rest) id has)
    as (λ _. (n : PlainNode) × (Contains (first ∷ each_node rest) n) × (n.id ≡ id)) [
      | inl is ↦ (first, in_first first (each_node rest) first refl, is)
      | inr there ↦ let later = node_at rest id there in
          (later.0, later_there first (each_node rest) later.0 later.1, later.2)
    ]

below_if : (same : Bool) (i count : ℕ) (other id : List ℕ) (ids : List (List ℕ)) → same_name other id ≡ same
    → (Contains ids id → i < count) → Contains (other ∷ ids) id → (if same then 0 else suc i) < suc count
below_if true i count other id ids is later has = omega arith
below_if false i count other id ids is later has =
    elim (there_cases other ids id has) as (λ _. suc i < suc count) [
      | inl equal ↦ absurd (true≢false (sym (subst (λ n. same_name other n ≡ true) equal (same_name_refl other)) ∙ is))
      | inr there ↦ let below = later there in omega arith
    ]

index_below : (id : List ℕ) (ns : Nodes) → Contains (ids_of ns) id → index_of id ns < node_count ns
index_below id no_nodes has = absurd (none_there id has)
index_below id (node other p s args rest) has =
    below_if (same_name other id) (index_of id rest) (node_count rest) other id (ids_of rest) refl (index_below id rest) has

-- the node that an id finds
record Found (ns : List PlainNode) (id : List ℕ) : Type 0 where
  pub found : PlainNode
  pub has : Contains ns found
  pub is : find (λ (n : PlainNode). same_name n.id id) ns ≡ Some found
  pub is_named : found.id ≡ id

found_if : (same : Bool) (m n : PlainNode) (ns : List PlainNode) (id : List ℕ) → same_name m.id id ≡ same
    → (Contains ns n → Found ns id) → n.id ≡ id → Contains (m ∷ ns) n → Found (m ∷ ns) id
found_if true m n ns id is later is_named has = record {
  found = m;
  has = in_first m ns m refl;
  is = ap (λ b. cond b (Some m) (find (λ (k : PlainNode). same_name k.id id) ns)) is;
  is_named = sym (same_name_is m.id id is);
}
found_if false m n ns id is later is_named has =
    elim (there_cases m ns n has) as (λ _. Found (m ∷ ns) id) [
      | inl equal ↦ absurd (true≢false (sym (subst (λ x. same_name m.id x ≡ true) (ap (λ (k : PlainNode). k.id) equal ∙ is_named) (same_name_refl m.id)) ∙ is))
      | inr there ↦ let rest = later there in record {
        found = rest.found;
        has = later_there m ns rest.found rest.has;
        is = ap (λ b. cond b (Some m) (find (λ (k : PlainNode). same_name k.id id) ns)) is ∙ rest.is;
        is_named = rest.is_named;
      }
    ]

found_of : (ns : List PlainNode) (n : PlainNode) (id : List ℕ) → n.id ≡ id → Contains ns n → Found ns id
found_of [] n id is has = absurd (none_there n has)
found_of (m ∷ ns) n id is has = found_if (same_name m.id id) m n ns id refl (found_of ns n id is) is has

module _ (stored : List PlainStored)
    (names : (namespace : Option (List ℕ)) (p : List ℕ) (s : PlainStored) → callee stored namespace p ≡ Some s → HasNames s) where
  abbrev shape_at : (n : PlainNode) (x : List ℕ) → Contains (ids_opened n.id (callee stored n.namespace n.process_id)) x
      → Shape (callee stored n.namespace n.process_id) n.id x
  shape_at n x has = shape_of (callee stored n.namespace n.process_id) n.id x (names n.namespace n.process_id) has

  -- ids that nodes give way to are not those of later nodes
  clash : (m n : PlainNode) (x : List ℕ) → m.id ≢ n.id
      → ((rest : List ℕ) → m.id ≡ n.id ++ 47 ∷ rest → ⊥) → ((rest : List ℕ) → n.id ≡ m.id ++ 47 ∷ rest → ⊥)
      → Shape (callee stored m.namespace m.process_id) m.id x → Shape (callee stored n.namespace n.process_id) n.id x → ⊥
  clash m n x differ no_left no_right (kept none is) (kept none_other is_other) = differ (sym is ∙ is_other)
  clash m n x differ no_left no_right (kept none is) (part s call y plain is_other) = no_left y (sym is ∙ is_other)
  clash m n x differ no_left no_right (part s call y plain is) (kept none is_other) = no_right y (sym is_other ∙ is)
  clash m n x differ no_left no_right (part s call y plain is) (part t call_other z plain_other is_other) =
      clash_parts m n y z differ no_left (split_at n.id m.id y z plain (sym is ∙ is_other))
    where
      clash_parts : (m n : PlainNode) (y z : List ℕ) → m.id ≢ n.id → ((rest : List ℕ) → m.id ≡ n.id ++ 47 ∷ rest → ⊥)
          → Split n.id m.id y z → ⊥
      clash_parts m n y z differ no_left (same is rest) = differ is
      clash_parts m n y z differ no_left (before more is) = no_left more is

  distinct_under : (call : List ℕ) (ids : List (List ℕ)) → names_rise ids ≡ true → (Contains ids [] → ⊥)
      → Distinct (map (under_id call) ids)
  distinct_under call [] rise full = tt
  distinct_under call (x ∷ ids) rise full =
      let x_full = λ (is : x ≡ []). full (in_first x ids [] is) in (
        λ has.
            let from = in_map (under_id call) ids (under_id call x) has in
            let y_full = λ (is : from.of ≡ []). full (later_there x ids [] (subst (λ y. Contains ids y) is from.has)) in
            let same_one : from.of ≡ x = same_rest call from.of x
            (sym (under_full call from.of y_full) ∙ (from.is ∙ under_full call x x_full)) in
            not_later x ids rise (subst (λ y. Contains ids y) same_one from.has),
        distinct_under call ids (rise_parts x ids rise).1 (λ has. full (later_there x ids [] has)),
      )

  distinct_opened : (id : List ℕ) (call : Option PlainStored) → ((s : PlainStored) → call ≡ Some s → HasNames s)
      → Distinct (ids_opened id call)
  distinct_opened id None called = (λ has. none_there id has, tt)
  distinct_opened id (Some s) called = distinct_under id (ids_of s.graph.nodes) (called s refl).rise (called s refl).full

  tail_apart : (a : List ℕ) (ids : List (List ℕ)) → AreApart (a ∷ ids) → AreApart ids
  tail_apart a ids apart = λ x y rest has_x has_y. apart x y rest (later_there a ids x has_x) (later_there a ids y has_y)

  distinct_new : (ns : Nodes) → names_rise (ids_of ns) ≡ true → AreApart (ids_of ns) → Distinct (new_ids stored ns)
  distinct_new no_nodes rise apart = tt
  distinct_new (node id p s args rest) rise apart =
      let m : PlainNode = record { id = id; process_id = p; namespace = s; arguments = args } in
      append_distinct (ids_opened id (callee stored s p)) (new_ids stored rest)
      (distinct_opened id (callee stored s p) (names s p))
      (distinct_new rest (rise_parts id (ids_of rest) rise).1 (tail_apart id (ids_of rest) apart))
      (λ x here there.
      let o = origin_of stored rest x there in
      let has_id = id_has rest o.of o.has in
      clash m o.of x
      (λ is. not_later id (ids_of rest) rise (subst (λ y. Contains (ids_of rest) y) (sym is) has_id))
      (λ more is. apart o.of.id id more (later_there id (ids_of rest) o.of.id has_id) (in_first id (ids_of rest) id refl) is)
      (λ more is. apart id o.of.id more (in_first id (ids_of rest) id refl) (later_there id (ids_of rest) o.of.id has_id) is)
      (shape_at m x here) (shape_at o.of x o.opens))

  module _ (all : Nodes) (result : ℕ) (order : InOrder all result) where
    new_full : Contains (new_ids stored all) [] → ⊥
    new_full has =
        let o = origin_of stored all [] has in
        empty_shape o.of o.has (shape_at o.of [] o.opens)
      where
        empty_shape : (n : PlainNode) → Contains (each_node all) n → Shape (callee stored n.namespace n.process_id) n.id [] → ⊥
        empty_shape n has (kept none is) = order.full (subst (λ y. Contains (ids_of all) y) (sym is) (id_has all n has))
        empty_shape n has (part s call y plain is) = not_empty n.id y is

    one_call : (m n : PlainNode) (s : PlainStored) → Contains (each_node all) m → Contains (each_node all) n → n.id ≡ m.id
        → callee stored m.namespace m.process_id ≡ None → callee stored n.namespace n.process_id ≡ Some s → ⊥
    one_call m n s has_m has_n is none some =
        none_some (callee stored n.namespace n.process_id) s
        (subst (λ (k : PlainNode). callee stored k.namespace k.process_id ≡ None)
        (sym (node_unique all n m order.rise has_n has_m is)) none)
        some

    not_followed : (m n : PlainNode) (rest : List ℕ) → Contains (each_node all) m → Contains (each_node all) n
        → n.id ≡ m.id ++ 47 ∷ rest → ⊥
    not_followed m n rest has_m has_n is = order.apart m.id n.id rest (id_has all m has_m) (id_has all n has_n) is

    split_apart : (m n : PlainNode) (y rest : List ℕ) → Contains (each_node all) m → Contains (each_node all) n
        → (n.id ≡ m.id → y ≡ rest → ⊥) → Split m.id n.id y rest → ⊥
    split_apart m n y rest has_m has_n other (same is is_rest) = other is is_rest
    split_apart m n y rest has_m has_n other (before more is) = not_followed m n more has_m has_n is

    shapes_apart : (m n : PlainNode) (a b rest : List ℕ) → Contains (each_node all) m → Contains (each_node all) n
        → b ≡ a ++ 47 ∷ rest
        → Shape (callee stored m.namespace m.process_id) m.id a → Shape (callee stored n.namespace n.process_id) n.id b → ⊥
    shapes_apart m n a b rest has_m has_n is (kept none is_a) (kept none_b is_b) =
        not_followed m n rest has_m has_n (sym is_b ∙ (is ∙ ap (λ x. x ++ 47 ∷ rest) is_a))
    shapes_apart m n a b rest has_m has_n is (kept none is_a) (part s call y plain is_b) =
        split_apart m n y rest has_m has_n (λ same_id same_rest. one_call m n s has_m has_n same_id none call)
        (split_at m.id n.id y rest plain (sym is_b ∙ (is ∙ ap (λ x. x ++ 47 ∷ rest) is_a)))
    shapes_apart m n a b rest has_m has_n is (part s call y plain is_a) (kept none_b is_b) =
        not_followed m n (y ++ 47 ∷ rest) has_m has_n
        (sym is_b ∙ (is ∙ (ap (λ x. x ++ 47 ∷ rest) is_a ∙ append_assoc m.id (47 ∷ y) (47 ∷ rest))))
    shapes_apart m n a b rest has_m has_n is (part s call y plain is_a) (part t call_b z plain_b is_b) =
        split_apart m n z (y ++ 47 ∷ rest) has_m has_n (λ same_id same_rest. plain_b y rest same_rest)
        (split_at m.id n.id z (y ++ 47 ∷ rest) plain_b
        (sym is_b ∙ (is ∙ (ap (λ x. x ++ 47 ∷ rest) is_a ∙ append_assoc m.id (47 ∷ y) (47 ∷ rest)))))

    new_apart : AreApart (new_ids stored all)
    new_apart a b rest has_a has_b is =
        let o = origin_of stored all a has_a in
        let q = origin_of stored all b has_b in
        shapes_apart o.of q.of a b rest o.has q.has is (shape_at o.of a o.opens) (shape_at q.of b q.opens)

    -- what the id of the result means stands among the new ids
    landing_has : (id : List ℕ) (m : PlainNode) → m.id ≡ id
        → Contains (ids_opened m.id (callee stored m.namespace m.process_id)) (landing id (callee stored m.namespace m.process_id))
    landing_has id m is = by (callee stored m.namespace m.process_id) refl
      where
        by : (call : Option PlainStored) → callee stored m.namespace m.process_id ≡ call
            → Contains (ids_opened m.id call) (landing id call)
        by None calls = in_first m.id [] id is
        by (Some s) calls =
            subst (λ x. Contains (map (under_id m.id) (ids_of s.graph.nodes)) (under_id x (id_at s.graph.nodes s.graph.result))) is
            (map_there (under_id m.id) (ids_of s.graph.nodes) (id_at s.graph.nodes s.graph.result)
            (id_at_has s.graph.nodes s.graph.result (names m.namespace m.process_id s calls).has_result))

    pub landed_new : (id : List ℕ) → Contains (ids_of all) id → Contains (new_ids stored all) (landed stored all id)
    landed_new id has =
        let at = node_at all id has in
        let f = found_of (each_node all) at.0 id at.2 at.1 in
        origin_in stored all f.found (landed stored all id) f.has
        (subst (λ x. Contains (ids_opened f.found.id (callee stored f.found.namespace f.found.process_id)) x)
        (sym (ap (λ (o : Option PlainNode). landing id
        (option_and_then (λ (n : PlainNode). callee stored n.namespace n.process_id) o)) f.is))
        (landing_has id f.found f.is_named))

    abbrev after : Nodes
    after = round_nodes stored all all no_nodes

    in_after : (x : List ℕ) → Contains (ids_of after) x → Contains (new_ids stored all) x
    in_after x has =
        elim (in_puts (new_ids stored all) [] x (subst (λ ids. Contains ids x) (ids_of-round stored all all no_nodes) has))
        as (λ _. Contains (new_ids stored all) x) [
          | inl there ↦ there
          | inr none ↦ absurd (none_there x none)
        ]

    pub round_in_order : InOrder after (index_of (landed stored all (id_at all result)) after)
    round_in_order = record {
      rise = ap names_rise (ids_of-round stored all all no_nodes)
          ∙ puts_rise (new_ids stored all) [] (distinct_new all order.rise order.apart) (λ x has none. none_there x none) refl;
      full = λ has. new_full (in_after [] has);
      apart = λ a b rest has_a has_b is. new_apart a b rest (in_after a has_a) (in_after b has_b) is;
      has_result = index_below (landed stored all (id_at all result)) after
          (subst (λ ids. Contains ids (landed stored all (id_at all result))) (sym (ids_of-round stored all all no_nodes))
          (puts_have (new_ids stored all) [] (landed stored all (id_at all result))
          (landed_new (id_at all result) (id_at_has all result order.has_result))));
    }
