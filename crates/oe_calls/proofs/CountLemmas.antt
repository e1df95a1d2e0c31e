-- The nodes of expanded graphs, counted before they are built.
use Rattle.std.proofs.Common.{◌≡◌, ℕ, zero, suc, ◌+◌, ◌<◌, ◌≤◌, min, get_or, slice_get, replicate, Bool, true, false, if◌then◌else◌, cond, List, [], ◌∷◌, length, map, Option, Some, None, is_some, option_map, refl, sym, ap, ◌∙◌, arith}
use Rattle.std.specs.Option.{option_map_or}
use Rattle.oe_dims.specs.Names.{is_name_before, same_name}
use Rattle.oe_graph.specs.Printed.{ids_of, node_count}
use Rattle.oe_graph.specs.Tree.{Named, Nodes, no_nodes, node, PlainGraph, PlainNode, PlainStored}
use Rattle.oe_calls.specs.Calls.{callee, means_stored, stored_named}
use Rattle.oe_calls.specs.NodeCounts.{enough, count_with, total, size_by}
use Rattle.oe_calls.specs.Substituted.{substituted_nodes, values_given}
use Rattle.oe_calls.specs.Renamed.{renamed_nodes}
use Rattle.oe_calls.specs.Rounds.{under_id, put_node, put_nodes, opened, round_nodes, round_named, round, rounds, cleared_nodes, cleared_graph, cleared_stored, expanded_by}

abbrev one_each : PlainStored → ℕ
one_each s = 1

plus_none : (n : ℕ) → n + 0 ≡ n
plus_none n = omega arith

cut_sum : (a b c d : ℕ) → min enough a ≡ min enough b → min enough c ≡ min enough d → min enough (a + c) ≡ min enough (b + d)
cut_sum a b c d e f = omega arith

cut_twice : (n : ℕ) → min enough (min enough n) ≡ min enough n
cut_twice n = omega arith

module _ (stored : List PlainStored) where
  -- what a process gives by one round more
  abbrev pub one_more : (PlainStored → ℕ) → PlainStored → ℕ
  one_more size s = count_with stored size s.graph.nodes

  count_under : (size : PlainStored → ℕ) (call : List ℕ) (ns : Nodes) → count_with stored size (renamed_nodes (under_id call) ns) ≡ count_with stored size ns
  count_under size call no_nodes = refl
  count_under size call (node id p s args rest) = ap (λ k. option_map_or size (callee stored s p) 1 + k) (count_under size call rest)

  count_substituted : (size : PlainStored → ℕ) (values : Named) (ns : Nodes)
      → count_with stored size (substituted_nodes stored values ns) ≡ count_with stored size ns
  count_substituted size values no_nodes = refl
  count_substituted size values (node id p s args rest) =
      ap (λ k. option_map_or size (callee stored s p) 1 + k) (count_substituted size values rest)

  count_put_by : (size : PlainStored → ℕ) (n : PlainNode) (id p : List ℕ) (s : Option (List ℕ)) (args : Named) (rest : Nodes) (b : Bool)
      → count_with stored size (put_node n rest) ≡ option_map_or size (callee stored n.namespace n.process_id) 1 + count_with stored size rest
      → count_with stored size (if b then node id p s args (put_node n rest)
      else node n.id n.process_id n.namespace n.arguments (node id p s args rest))
      ≡ option_map_or size (callee stored n.namespace n.process_id) 1 + (option_map_or size (callee stored s p) 1 + count_with stored size rest)
  count_put_by size n id p s args rest true below = ap (λ k. option_map_or size (callee stored s p) 1 + k) below ∙ omega arith
  count_put_by size n id p s args rest false below = refl

  count_put : (size : PlainStored → ℕ) (n : PlainNode) (ns : Nodes)
      → count_with stored size (put_node n ns) ≡ option_map_or size (callee stored n.namespace n.process_id) 1 + count_with stored size ns
  count_put size n no_nodes = refl
  count_put size n (node id p s args rest) =
      count_put_by size n id p s args rest (is_name_before id n.id) (count_put size n rest)

  count_put_all : (size : PlainStored → ℕ) (ns found : Nodes)
      → count_with stored size (put_nodes ns found) ≡ count_with stored size ns + count_with stored size found
  count_put_all size no_nodes found = omega arith
  count_put_all size (node id p s args rest) found =
      let n : PlainNode = record { id = id; process_id = p; namespace = s; arguments = args } in
      count_put_all size rest (put_node n found)
      ∙ ap (λ k. count_with stored size rest + k) (count_put size n found) ∙ omega arith

  count_opened : (size : PlainStored → ℕ) (n : PlainNode) (o : Option PlainStored) → callee stored n.namespace n.process_id ≡ o
      → count_with stored size (opened stored n o) ≡ option_map_or (one_more size) o 1
  count_opened size n None is = ap (λ o. option_map_or size o 1 + 0) is ∙ omega arith
  count_opened size n (Some s) is =
      count_substituted size (values_given s.parameters n.arguments) (renamed_nodes (under_id n.id) s.graph.nodes)
      ∙ count_under size n.id s.graph.nodes

  count_round : (size : PlainStored → ℕ) (all ns found : Nodes)
      → count_with stored size (round_nodes stored all ns found) ≡ count_with stored (one_more size) ns + count_with stored size found
  count_round size all no_nodes found = omega arith
  count_round size all (node id p s args rest) found =
      let n : PlainNode = record { id = id; process_id = p; namespace = s; arguments = round_named stored (is_some (callee stored s p)) all args } in
      let more = opened stored n (callee stored s p) in
      count_round size all rest (put_nodes more found)
      ∙ ap (λ k. count_with stored (one_more size) rest + k)
      (count_put_all size more found ∙ ap (λ k. k + count_with stored size found) (count_opened size n (callee stored s p) refl))
      ∙ omega arith

  -- what a process gives by so many rounds
  abbrev pub given_by : ℕ → PlainStored → ℕ
  given_by zero s = 1
  given_by (suc times) s = count_with stored (given_by times) s.graph.nodes

  abbrev iterated : ℕ → (PlainStored → ℕ) → PlainStored → ℕ
  iterated zero size = size
  iterated (suc times) size = iterated times (one_more size)

  iterated_out : (times : ℕ) (size : PlainStored → ℕ) → iterated times (one_more size) ≡ one_more (iterated times size)
  iterated_out zero size = refl
  iterated_out (suc times) size = iterated_out times (one_more size)

  given_iterated : (times : ℕ) → iterated times one_each ≡ given_by times
  given_iterated zero = refl
  given_iterated (suc times) =
      iterated_out times one_each ∙ ap one_more (given_iterated times)

  count_rounds : (times : ℕ) (size : PlainStored → ℕ) (g : PlainGraph)
      → count_with stored size (rounds stored times g).nodes ≡ count_with stored (iterated times size) g.nodes
  count_rounds zero size g = refl
  count_rounds (suc times) size g =
      let inner = (rounds stored times g).nodes in
      count_round size inner inner no_nodes
      ∙ plus_none (count_with stored (one_more size) inner)
      ∙ count_rounds times (one_more size) g

  count_one : (o : Option PlainStored) → option_map_or one_each o 1 ≡ 1
  count_one None = refl
  count_one (Some s) = refl

  count_all : (ns : Nodes) → count_with stored one_each ns ≡ node_count ns
  count_all no_nodes = refl
  count_all (node id p s args rest) =
      let one : option_map_or one_each (callee stored s p) 1 ≡ 1 = count_one (callee stored s p) in
      let others : count_with stored one_each rest ≡ node_count rest = count_all rest in omega arith

  -- the nodes after so many rounds
  pub count_given : (times : ℕ) (g : PlainGraph) → node_count (rounds stored times g).nodes ≡ count_with stored (given_by times) g.nodes
  count_given times g =
      sym (count_all (rounds stored times g).nodes)
      ∙ count_rounds times one_each g
      ∙ ap (λ size. count_with stored size g.nodes) (given_iterated times)

  -- ---- counts that are cut

  cut_one : (size other : PlainStored → ℕ) (o : Option PlainStored) → ((s : PlainStored) → min enough (size s) ≡ min enough (other s))
      → min enough (option_map_or size o 1) ≡ min enough (option_map_or other o 1)
  cut_one size other None each = refl
  cut_one size other (Some s) each = each s

  cut_count : (size other : PlainStored → ℕ) (ns : Nodes) → ((s : PlainStored) → min enough (size s) ≡ min enough (other s))
      → min enough (count_with stored size ns) ≡ min enough (count_with stored other ns)
  cut_count size other no_nodes each = refl
  cut_count size other (node id p s args rest) each =
      cut_sum (option_map_or size (callee stored s p) 1) (option_map_or other (callee stored s p) 1)
      (count_with stored size rest) (count_with stored other rest)
      (cut_one size other (callee stored s p) each) (cut_count size other rest each)

  cut_given : (times : ℕ) (s : PlainStored) → min enough (size_by stored times s) ≡ min enough (given_by times s)
  cut_given zero s = refl
  cut_given (suc times) s =
      cut_twice (count_with stored (size_by stored times) s.graph.nodes)
      ∙ cut_count (size_by stored times) (given_by times) s.graph.nodes (cut_given times)

  pub total_given : (times : ℕ) (ns : Nodes)
      → total stored (size_by stored times) ns ≡ min enough (count_with stored (given_by times) ns)
  total_given times ns = cut_count (size_by stored times) (given_by times) ns (cut_given times)

-- ---- among stored processes without dangling references

named_if : (same : Bool) (s : PlainStored) (rest cleared_rest : Option PlainStored) → cleared_rest ≡ option_map cleared_stored rest
    → cond same (Some (cleared_stored s)) cleared_rest ≡ option_map cleared_stored (cond same (Some s) rest)
named_if true s rest cleared_rest later = refl
named_if false s rest cleared_rest later = later

named_cleared : (id : List ℕ) (stored : List PlainStored)
    → stored_named id (map cleared_stored stored) ≡ option_map cleared_stored (stored_named id stored)
named_cleared id [] = refl
named_cleared id (s ∷ stored) =
    named_if (same_name s.id id) s (stored_named id stored) (stored_named id (map cleared_stored stored)) (named_cleared id stored)

called_if : (means : Bool) (o cleared_o : Option PlainStored) → cleared_o ≡ option_map cleared_stored o
    → (if means then cleared_o else None) ≡ option_map cleared_stored (if means then o else None)
called_if true o cleared_o is = is
called_if false o cleared_o is = refl

pub callee_cleared : (stored : List PlainStored) (namespace : Option (List ℕ)) (p : List ℕ)
    → callee (map cleared_stored stored) namespace p ≡ option_map cleared_stored (callee stored namespace p)
callee_cleared stored namespace p =
    called_if (means_stored namespace) (stored_named p stored) (stored_named p (map cleared_stored stored)) (named_cleared p stored)

mapped : (size : PlainStored → ℕ) (o : Option PlainStored)
    → option_map_or size (option_map cleared_stored o) 1 ≡ option_map_or (λ (s : PlainStored). size (cleared_stored s)) o 1
mapped size None = refl
mapped size (Some s) = refl

same_one : (size other : PlainStored → ℕ) (o : Option PlainStored) → ((s : PlainStored) → size s ≡ other s)
    → option_map_or size o 1 ≡ option_map_or other o 1
same_one size other None each = refl
same_one size other (Some s) each = each s

same_sum : (a b c d : ℕ) → a ≡ b → c ≡ d → a + c ≡ b + d
same_sum a b c d e f = omega arith

same_count : (stored : List PlainStored) (size other : PlainStored → ℕ) (ns : Nodes) → ((s : PlainStored) → size s ≡ other s)
    → count_with stored size ns ≡ count_with stored other ns
same_count stored size other no_nodes each = refl
same_count stored size other (node id p s args rest) each =
    same_sum (option_map_or size (callee stored s p) 1) (option_map_or other (callee stored s p) 1)
    (count_with stored size rest) (count_with stored other rest)
    (same_one size other (callee stored s p) each) (same_count stored size other rest each)

count_cleared : (stored : List PlainStored) (size : PlainStored → ℕ) (ids : List (List ℕ)) (ns : Nodes)
    → count_with (map cleared_stored stored) size (cleared_nodes ids ns)
    ≡ count_with stored (λ (s : PlainStored). size (cleared_stored s)) ns
count_cleared stored size ids no_nodes = refl
count_cleared stored size ids (node id p s args rest) =
    same_sum (option_map_or size (callee (map cleared_stored stored) s p) 1)
    (option_map_or (λ (k : PlainStored). size (cleared_stored k)) (callee stored s p) 1)
    (count_with (map cleared_stored stored) size (cleared_nodes ids rest))
    (count_with stored (λ (k : PlainStored). size (cleared_stored k)) rest)
    (ap (λ o. option_map_or size o 1) (callee_cleared stored s p) ∙ mapped size (callee stored s p))
    (count_cleared stored size ids rest)

given_cleared : (stored : List PlainStored) (times : ℕ) (s : PlainStored)
    → given_by (map cleared_stored stored) times (cleared_stored s) ≡ given_by stored times s
given_cleared stored zero s = refl
given_cleared stored (suc times) s =
    count_cleared stored (given_by (map cleared_stored stored) times) (ids_of s.graph.nodes) s.graph.nodes
    ∙ same_count stored (λ (k : PlainStored). given_by (map cleared_stored stored) times (cleared_stored k)) (given_by stored times)
    s.graph.nodes (given_cleared stored times)

-- how many nodes the expanded graph has, up to one more than it may have
pub expanded_count : (stored : List PlainStored) (g : PlainGraph)
    → min enough (node_count (expanded_by (length stored) stored g).nodes) ≡ total stored (size_by stored (length stored)) g.nodes
expanded_count stored g =
    let cleared = map cleared_stored stored in
    let times = length stored in
    ap (min enough)
    (count_given cleared times (cleared_graph g)
    ∙ count_cleared stored (given_by cleared times) (ids_of g.nodes) g.nodes
    ∙ same_count stored (λ (s : PlainStored). given_by cleared times (cleared_stored s)) (given_by stored times) g.nodes
    (given_cleared stored times))
    ∙ sym (total_given stored times g.nodes)

-- ---- what the code counts

pub size_at : (size : PlainStored → ℕ) (ss : List PlainStored) (i k : ℕ) (o : Option PlainStored) → i < length ss
    → slice_get ss i ≡ o → k ≡ get_or (map size ss) i k → k ≡ option_map_or size o 1
size_at size [] i k o below is same = absurd (omega arith)
size_at size (s ∷ ss) zero k o below is same = same ∙ ap (λ p. option_map_or size p 1) is
size_at size (s ∷ ss) (suc i) k o below is same = size_at size ss i k o (omega arith) is same

pub cut_more : (so_far one rest total : ℕ) → total ≡ min enough (so_far + one)
    → min enough (so_far + (one + rest)) ≡ min enough (total + rest)
cut_more so_far one rest total is = omega arith

ones : (xs : List PlainStored) → map one_each xs ≡ replicate (length xs) 1
ones [] = refl
ones (x ∷ xs) = ap (λ ks. 1 ∷ ks) (ones xs)

pub first_sizes : (stored : List PlainStored) (counts : List ℕ) (n : ℕ) → n ≡ length stored → counts ≡ replicate n 1
    → counts ≡ map (size_by stored zero) stored
first_sizes stored counts n many is = is ∙ ap (λ k. replicate k 1) many ∙ sym (ones stored)

pub next_sizes : (stored : List PlainStored) (times : ℕ)
    → map (λ (s : PlainStored). total stored (size_by stored times) s.graph.nodes) stored ≡ map (size_by stored (times + 1)) stored
next_sizes stored times =
    let next : times + 1 ≡ suc times = omega arith in
    sym (ap (λ k. map (size_by stored k) stored) next)
