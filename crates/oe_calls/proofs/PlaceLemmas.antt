-- What a round makes of the nodes of a graph object, apart from their arguments: it depends on their ids and on what they
-- call alone. So a callback has as many nodes after expansion wherever it stands.
use Rattle.std.proofs.Common.{◌≡◌, ◌⊎◌, inl, inr, ℕ, zero, suc, ◌+◌, ◌<◌, ◌≤◌, Bool, true, false, if◌then◌else◌, List, [], ◌∷◌, length, Contains, Option, Some, None, is_some, refl, sym, ap, ◌∙◌, subst, arith}
use Rattle.std.proofs.lemmas.Bool.{cases_lt}
use Rattle.oe_dims.specs.Names.{is_name_before}
use Rattle.oe_graph.specs.Printed.{node_count}
use Rattle.oe_graph.specs.References.{each_node}
use Rattle.oe_graph.specs.Tree.{Named, Nodes, no_nodes, node, PlainGraph, PlainNode, PlainStored}
use Rattle.oe_calls.specs.Calls.{callee}
use Rattle.oe_calls.specs.Substituted.{substituted_nodes, values_given}
use Rattle.oe_calls.specs.Renamed.{renamed_nodes}
use Rattle.oe_calls.specs.Rounds.{cleared_nodes, under_id, put_node, put_nodes, opened, round_named, round_nodes, rounds}
use Rattle.oe_calls.proofs.Along.{in_first, later_there}

-- the id of a node, its process and its namespace
abbrev pub Place : Type 0
Place = List ℕ × List ℕ × Option (List ℕ)

abbrev pub place_of : PlainNode → Place
place_of n = (n.id, n.process_id, n.namespace)

abbrev pub places_of : Nodes → List Place
places_of no_nodes = []
places_of (node id p s args rest) = (id, p, s) ∷ places_of rest

pub length-places_of : (ns : Nodes) → length (places_of ns) ≡ node_count ns
length-places_of no_nodes = refl
length-places_of (node id p s args rest) = ap suc (length-places_of rest)

pub places_of-cleared : (ids : List (List ℕ)) (ns : Nodes) → places_of (cleared_nodes ids ns) ≡ places_of ns
places_of-cleared ids no_nodes = refl
places_of-cleared ids (node id p s args rest) = ap (λ (ts : List Place). (id, p, s) ∷ ts) (places_of-cleared ids rest)

pub places_of-substituted : (stored : List PlainStored) (values : Named) (ns : Nodes)
    → places_of (substituted_nodes stored values ns) ≡ places_of ns
places_of-substituted stored values no_nodes = refl
places_of-substituted stored values (node id p s args rest) =
    ap (λ (ts : List Place). (id, p, s) ∷ ts) (places_of-substituted stored values rest)

-- ---- a round of places

abbrev pub put_place : Place → List Place → List Place
put_place t [] = t ∷ []
put_place t (u ∷ us) = if is_name_before u.0 t.0 then u ∷ put_place t us else t ∷ u ∷ us

abbrev pub put_places : List Place → List Place → List Place
put_places [] found = found
put_places (t ∷ ts) found = put_places ts (put_place t found)

abbrev pub under_places : List ℕ → List Place → List Place
under_places call [] = []
under_places call (t ∷ ts) = (under_id call t.0, t.1, t.2) ∷ under_places call ts

abbrev pub opened_places : Place → Option PlainStored → List Place
opened_places t None = t ∷ []
opened_places t (Some s) = under_places t.0 (places_of s.graph.nodes)

abbrev pub round_places : List PlainStored → List Place → List Place → List Place
round_places stored [] found = found
round_places stored (t ∷ ts) found = round_places stored ts (put_places (opened_places t (callee stored t.2 t.1)) found)

put_if : (before : Bool) (n : PlainNode) (id p : List ℕ) (s : Option (List ℕ)) (args : Named) (rest : Nodes)
    → places_of (put_node n rest) ≡ put_place (place_of n) (places_of rest)
    → places_of (if before then node id p s args (put_node n rest) else node n.id n.process_id n.namespace n.arguments (node id p s args rest))
    ≡ (if before then (id, p, s) ∷ put_place (place_of n) (places_of rest) else place_of n ∷ (id, p, s) ∷ places_of rest)
put_if true n id p s args rest later = ap (λ (ts : List Place). (id, p, s) ∷ ts) later
put_if false n id p s args rest later = refl

places_of-put : (n : PlainNode) (found : Nodes) → places_of (put_node n found) ≡ put_place (place_of n) (places_of found)
places_of-put n no_nodes = refl
places_of-put n (node id p s args rest) = put_if (is_name_before id n.id) n id p s args rest (places_of-put n rest)

places_of-puts : (more found : Nodes) → places_of (put_nodes more found) ≡ put_places (places_of more) (places_of found)
places_of-puts no_nodes found = refl
places_of-puts (node id p s args rest) found =
    let n : PlainNode = record { id = id; process_id = p; namespace = s; arguments = args } in
    places_of-puts rest (put_node n found) ∙ ap (put_places (places_of rest)) (places_of-put n found)

places_of-under : (call : List ℕ) (ns : Nodes) → places_of (renamed_nodes (under_id call) ns) ≡ under_places call (places_of ns)
places_of-under call no_nodes = refl
places_of-under call (node id p s args rest) =
    ap (λ (ts : List Place). (under_id call id, p, s) ∷ ts) (places_of-under call rest)

places_of-opened : (stored : List PlainStored) (n : PlainNode) (call : Option PlainStored)
    → places_of (opened stored n call) ≡ opened_places (place_of n) call
places_of-opened stored n None = refl
places_of-opened stored n (Some s) =
    places_of-substituted stored (values_given s.parameters n.arguments) (renamed_nodes (under_id n.id) s.graph.nodes)
    ∙ places_of-under n.id s.graph.nodes

pub places_of-round : (stored : List PlainStored) (all ns found : Nodes)
    → places_of (round_nodes stored all ns found) ≡ round_places stored (places_of ns) (places_of found)
places_of-round stored all no_nodes found = refl
places_of-round stored all (node id p s args rest) found =
    let n : PlainNode = record { id = id; process_id = p; namespace = s; arguments = round_named stored (is_some (callee stored s p)) all args } in
    let put = opened stored n (callee stored s p) in
    places_of-round stored all rest (put_nodes put found)
    ∙ ap (round_places stored (places_of rest))
    (places_of-puts put found ∙ ap (λ (ts : List Place). put_places ts (places_of found)) (places_of-opened stored n (callee stored s p)))

-- ---- where no node calls a stored process, a round changes no number of nodes

abbrev pub NoCalls : List PlainStored → List Place → Type 0
NoCalls stored [] = Unit {0}
NoCalls stored (t ∷ ts) = (callee stored t.2 t.1 ≡ None) × NoCalls stored ts

pub no_calls_in : (stored : List PlainStored) (ns : Nodes)
    → ((n : PlainNode) → Contains (each_node ns) n → callee stored n.namespace n.process_id ≡ None) → NoCalls stored (places_of ns)
no_calls_in stored no_nodes each = tt
no_calls_in stored (node id p s args rest) each =
    let n : PlainNode = record { id = id; process_id = p; namespace = s; arguments = args } in
    (each n (in_first n (each_node rest) n refl), no_calls_in stored rest (λ m has. each m (later_there n (each_node rest) m has)))

length_if : (before : Bool) (t u : Place) (us : List Place) → length (put_place t us) ≡ suc (length us)
    → length (if before then u ∷ put_place t us else t ∷ u ∷ us) ≡ suc (suc (length us))
length_if true t u us later = ap suc later
length_if false t u us later = refl

length-put : (t : Place) (us : List Place) → length (put_place t us) ≡ suc (length us)
length-put t [] = refl
length-put t (u ∷ us) = length_if (is_name_before u.0 t.0) t u us (length-put t us)

calls_if : (stored : List PlainStored) (before : Bool) (t u : Place) (us : List Place) → callee stored t.2 t.1 ≡ None
    → callee stored u.2 u.1 ≡ None → NoCalls stored us → NoCalls stored (put_place t us)
    → NoCalls stored (if before then u ∷ put_place t us else t ∷ u ∷ us)
calls_if stored true t u us none none_u each later = (none_u, later)
calls_if stored false t u us none none_u each later = (none, (none_u, each))

no_calls_put : (stored : List PlainStored) (t : Place) (us : List Place) → callee stored t.2 t.1 ≡ None → NoCalls stored us
    → NoCalls stored (put_place t us)
no_calls_put stored t [] none each = (none, tt)
no_calls_put stored t (u ∷ us) none each =
    calls_if stored (is_name_before u.0 t.0) t u us none each.0 each.1 (no_calls_put stored t us none each.1)

put_itself : (stored : List PlainStored) (t : Place) (found : List Place) → callee stored t.2 t.1 ≡ None
    → put_places (opened_places t (callee stored t.2 t.1)) found ≡ put_place t found
put_itself stored t found none = ap (λ (o : Option PlainStored). put_places (opened_places t o) found) none

settled_round : (stored : List PlainStored) (ts found : List Place) → NoCalls stored ts → NoCalls stored found
    → NoCalls stored (round_places stored ts found) × (length (round_places stored ts found) ≡ length ts + length found)
settled_round stored [] found none each = (each, omega arith)
settled_round stored (t ∷ ts) found none each =
    let put = put_itself stored t found none.0 in
    let later = settled_round stored ts (put_place t found) none.1 (no_calls_put stored t found none.0 each) in
    let longer = length-put t found in
    let count : length (round_places stored ts (put_place t found)) ≡ length ts + length (put_place t found) = later.1 in
    let one_more : length (round_places stored ts (put_place t found)) ≡ suc (length ts) + length found = omega arith in (
      subst (λ us. NoCalls stored (round_places stored ts us)) (sym put) later.0,
      ap (λ us. length (round_places stored ts us)) put ∙ one_more,
    )

pub record Settled (stored : List PlainStored) (before after : Nodes) : Type 0 where
  pub none : NoCalls stored (places_of after)
  pub count : node_count after ≡ node_count before

settled_once : (stored : List PlainStored) (before ns : Nodes) → Settled stored before ns
    → Settled stored before (round_nodes stored ns ns no_nodes)
settled_once stored before ns settled =
    let places = places_of-round stored ns ns no_nodes in
    let after = settled_round stored (places_of ns) [] settled.none tt in
    let here = length-places_of ns in
    let there = length-places_of (round_nodes stored ns ns no_nodes) in
    let by_places : length (places_of (round_nodes stored ns ns no_nodes)) ≡ length (round_places stored (places_of ns) []) =
    ap (λ (ts : List Place). length ts) places in
    let more : length (round_places stored (places_of ns) []) ≡ length (places_of ns) + 0 = after.1 in
    let before_it : node_count ns ≡ node_count before = settled.count in
    record {
      none = subst (λ ts. NoCalls stored ts) (sym places) after.0;
      count = omega arith;
    }

pub settled_after : (stored : List PlainStored) (g : PlainGraph) (times later : ℕ) → times ≤ later
    → NoCalls stored (places_of (rounds stored times g).nodes)
    → Settled stored (rounds stored times g).nodes (rounds stored later g).nodes
settled_after stored g times zero within none =
    let is : times ≡ 0 = omega arith in
    subst (λ k. Settled stored (rounds stored times g).nodes (rounds stored k g).nodes) is (record { none = none; count = refl })
settled_after stored g times (suc later) within none =
    elim (cases_lt later times) as (λ _. Settled stored (rounds stored times g).nodes (rounds stored (suc later) g).nodes) [
      | inl last ↦
          let is : times ≡ suc later = omega arith in
          subst (λ k. Settled stored (rounds stored times g).nodes (rounds stored k g).nodes) is (record { none = none; count = refl })
      | inr before ↦ settled_once stored (rounds stored times g).nodes (rounds stored later g).nodes
          (settled_after stored g times later before none)
    ]
