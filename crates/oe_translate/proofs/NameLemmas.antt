-- The ids of the nodes of a translated graph: they rise, and the result node is found by its id. And how many nodes it
-- has, and that a graph with neither process is its own translation.
use Rattle.std.proofs.Common.{◌≡◌, ◌≢◌, ◌⊎◌, inl, inr, ℕ, zero, suc, ◌+◌, ◌<◌, ◌≤◌, Bool, true, false, if◌then◌else◌, List, [], ◌∷◌, length, Contains, refl, sym, ap, ◌∙◌, subst, true≢false, arith}
use Rattle.std.specs.List.{list_any}
use Rattle.oe_dims.specs.Names.{same_name, is_name_before, names_rise}
use Rattle.oe_dims.specs.declared.dims.DimsRow.{DimsRow}
use Rattle.oe_dims.proofs.NameOrderLemmas.{before_trans, not_before_itself, tail_rises}
use Rattle.oe_dims.proofs.OrderLemmas.{same_name_refl}
use Rattle.oe_graph.specs.Printed.{ids_of, node_count}
use Rattle.oe_graph.specs.References.{each_node}
use Rattle.oe_graph.specs.Tree.{Nodes, no_nodes, node, PlainGraph, PlainNode}
use Rattle.oe_graph.proofs.ResolvedLemmas.{node_of_id}
use Rattle.oe_expr.specs.Nodes.{id_at, result_id}
use Rattle.oe_expr.proofs.NodeLemmas.{contains_node}
use Rattle.oe_calls.specs.Rounds.{index_of, put_node}
use Rattle.oe_calls.proofs.Along.{there_cases, in_first, none_there, later_there}
use Rattle.oe_calls.proofs.NameLemmas.{other_before, rise_from, rise_parts, starts_after}
use Rattle.oe_calls.proofs.IdLemmas.{id_has, not_later}
use Rattle.oe_check.specs.Walked.{IsNodeOf}
use Rattle.oe_meanings.proofs.OrderedLemmas.{first_not, second_not}
use Rattle.oe_translate.specs.Translated.{has_either, is_of_either, is_of_periods, is_of_sums, periods_at, translated, translations}
use Rattle.oe_translate.specs.Written.{aggregated_node, merged_node, sum_name}
use Rattle.oe_translate.proofs.PutLemmas.{differ, in_put}
use Rattle.oe_translate.proofs.TranslationLemmas.{id_of_one, put_by, same_sum, stems, sums_of}

-- ---- one node put among others

count_if : (before : Bool) (m n : PlainNode) (put rest : Nodes) → node_count put ≡ suc (node_count rest)
    → node_count (if before then node m.id m.process_id m.namespace m.arguments put
    else node n.id n.process_id n.namespace n.arguments (node m.id m.process_id m.namespace m.arguments rest))
    ≡ suc (suc (node_count rest))
count_if true m n put rest later = ap suc later
count_if false m n put rest later = refl

pub count_put : (n : PlainNode) (ns : Nodes) → node_count (put_node n ns) ≡ suc (node_count ns)
count_put n no_nodes = refl
count_put n (node id p s a rest) =
    count_if (is_name_before id n.id) (record { id = id; process_id = p; namespace = s; arguments = a }) n (put_node n rest) rest (count_put n rest)

-- ids after it
id_in_put : (n : PlainNode) (ns : Nodes) (name : List ℕ) → Contains (ids_of (put_node n ns)) name → (n.id ≡ name) ⊎ Contains (ids_of ns) name
id_in_put n ns name has =
    let at = node_of_id (put_node n ns) name has in
    elim (in_put n ns at.node (contains_node (put_node n ns) at.index at.node at.is_there)) as (λ _. (n.id ≡ name) ⊎ Contains (ids_of ns) name) [
      | inl is ↦ inl (ap (λ (x : PlainNode). x.id) is ∙ at.is_named)
      | inr old ↦ inr (subst (Contains (ids_of ns)) at.is_named (id_has ns at.node old))
    ]

start_if : (before : Bool) (k : List ℕ) (m n : PlainNode) (put rest : Nodes) → is_name_before k m.id ≡ true → is_name_before k n.id ≡ true
    → starts_after k (ids_of (if before then node m.id m.process_id m.namespace m.arguments put
    else node n.id n.process_id n.namespace n.arguments (node m.id m.process_id m.namespace m.arguments rest))) ≡ true
start_if true k m n put rest before_m before_n = before_m
start_if false k m n put rest before_m before_n = before_n

start_put : (k : List ℕ) (n : PlainNode) (ns : Nodes) → is_name_before k n.id ≡ true → starts_after k (ids_of ns) ≡ true
    → starts_after k (ids_of (put_node n ns)) ≡ true
start_put k n no_nodes before after = before
start_put k n (node id p s a rest) before after =
    start_if (is_name_before id n.id) k (record { id = id; process_id = p; namespace = s; arguments = a }) n (put_node n rest) rest after before

rise_if : (before : Bool) (m n : PlainNode) (rest : Nodes) → is_name_before m.id n.id ≡ before → m.id ≢ n.id
    → names_rise (m.id ∷ ids_of rest) ≡ true → names_rise (ids_of (put_node n rest)) ≡ true
    → names_rise (ids_of (if before then node m.id m.process_id m.namespace m.arguments (put_node n rest)
    else node n.id n.process_id n.namespace n.arguments (node m.id m.process_id m.namespace m.arguments rest))) ≡ true
rise_if true m n rest is apart rise later =
    rise_from m.id (ids_of (put_node n rest)) (start_put m.id n rest is (rise_parts m.id (ids_of rest) rise).0) later
rise_if false m n rest is apart rise later =
    rise_from n.id (m.id ∷ ids_of rest) (other_before m.id n.id is (differ m.id n.id apart)) rise

-- a new one keeps them rising
rise_put : (n : PlainNode) (ns : Nodes) → (Contains (ids_of ns) n.id → ⊥) → names_rise (ids_of ns) ≡ true
    → names_rise (ids_of (put_node n ns)) ≡ true
rise_put n no_nodes new rise = refl
rise_put n (node id p s a rest) new rise =
    rise_if (is_name_before id n.id) (record { id = id; process_id = p; namespace = s; arguments = a }) n rest refl
    (λ is. new (in_first id (ids_of rest) n.id is)) rise
    (rise_put n rest (λ has. new (later_there id (ids_of rest) n.id has)) (tail_rises id (ids_of rest) rise))

-- one that stands before all others
first_if : (before : Bool) (m n : PlainNode) (rest : Nodes) → is_name_before m.id n.id ≡ before → is_name_before n.id m.id ≡ true
    → (if before then node m.id m.process_id m.namespace m.arguments (put_node n rest)
    else node n.id n.process_id n.namespace n.arguments (node m.id m.process_id m.namespace m.arguments rest))
    ≡ node n.id n.process_id n.namespace n.arguments (node m.id m.process_id m.namespace m.arguments rest)
first_if true m n rest is before = absurd (true≢false (sym (before_trans n.id m.id n.id before is) ∙ not_before_itself n.id))
first_if false m n rest is before = refl

put_first : (n : PlainNode) (ns : Nodes) → names_rise (n.id ∷ ids_of ns) ≡ true → put_node n ns ≡ node n.id n.process_id n.namespace n.arguments ns
put_first n no_nodes rise = refl
put_first n (node id p s a rest) rise =
    first_if (is_name_before id n.id) (record { id = id; process_id = p; namespace = s; arguments = a }) n rest refl
    (rise_parts n.id (id ∷ ids_of rest) rise).0

-- ---- the index of an id

pub index_below : (id : List ℕ) (ns : Nodes) → Contains (ids_of ns) id → index_of id ns < node_count ns
index_below id no_nodes has = absurd (none_there id has)
index_below id (node other p s a rest) has = by (same_name other id) refl (index_below id rest)
  where
    by : (b : Bool) → same_name other id ≡ b → (Contains (ids_of rest) id → index_of id rest < node_count rest)
        → (if b then 0 else suc (index_of id rest)) < suc (node_count rest)
    by true e later = omega arith
    by false e later =
        elim (there_cases other (ids_of rest) id has) as (λ _. suc (index_of id rest) < suc (node_count rest)) [
          | inl is ↦ absurd (true≢false (sym (subst (λ x. same_name other x ≡ true) is (same_name_refl other)) ∙ e))
          | inr there ↦ omega (arith, later there)
        ]

pub id_there : (ns : Nodes) (k : ℕ) → k < node_count ns → Contains (ids_of ns) (id_at k ns)
id_there no_nodes k below = absurd (omega arith)
id_there (node id p s a rest) zero below = in_first id (ids_of rest) id refl
id_there (node id p s a rest) (suc k) below = later_there id (ids_of rest) (id_at k rest) (id_there rest k (omega arith))

index_of_id : (ns : Nodes) (k : ℕ) → names_rise (ids_of ns) ≡ true → k < node_count ns → index_of (id_at k ns) ns ≡ k
index_of_id no_nodes k rise below = absurd (omega arith)
index_of_id (node id p s a rest) zero rise below = ap (λ b. if b then 0 else suc (index_of id rest)) (same_name_refl id)
index_of_id (node id p s a rest) (suc k) rise below =
    let x = id_at k rest in
    let there : Contains (ids_of rest) x = id_there rest k (omega arith) in
    ap (λ b. if b then 0 else suc (index_of x rest))
    (differ id x (λ is. not_later id (ids_of rest) rise (subst (Contains (ids_of rest)) (sym is) there)))
    ∙ ap suc (index_of_id rest k (tail_rises id (ids_of rest) rise) (omega arith))

-- ---- all nodes

module _ (rows : List DimsRow) (all : Nodes) where
  -- a name that no node has and no aggregation of running sums gets is new
  new_name : (ns : List PlainNode) (name : List ℕ) → ((m : PlainNode) → Contains ns m → m.id ≢ name)
      → ((m : PlainNode) → Contains ns m → is_of_sums m ≡ true → sum_name m.id ≢ name)
      → Contains (ids_of (translations rows all ns)) name → ⊥
  new_name ns name others sums has =
      let at = node_of_id (translations rows all ns) name has in
      let s = stems rows all ns at.node (contains_node (translations rows all ns) at.index at.node at.is_there) in
      elim s.either as (λ _. ⊥) [
        | inl is ↦ others s.node s.is_node (sym (id_of_one rows all s.node) ∙ (ap (λ (x : PlainNode). x.id) is ∙ at.is_named))
        | inr other ↦ sums s.node s.is_node other.1 (ap (λ (x : PlainNode). x.id) other.2 ∙ at.is_named)
      ]

  rise_by : (p s : Bool) (n : PlainNode) (found : Nodes) → (Contains (ids_of found) n.id → ⊥)
      → (s ≡ true → Contains (ids_of found) (sum_name n.id) → ⊥) → (s ≡ true → sum_name n.id ≢ n.id)
      → names_rise (ids_of found) ≡ true → names_rise (ids_of (put_by rows all p s n found)) ≡ true
  rise_by true s n found new new_sum apart rise = rise_put (aggregated_node (periods_at rows all n) n) found new rise
  rise_by false true n found new new_sum apart rise =
      rise_put (merged_node n) (put_node (sums_of rows all n) found)
      (λ has. elim (id_in_put (sums_of rows all n) found n.id has) as (λ _. ⊥) [ inl is ↦ apart refl is | inr old ↦ new old ])
      (rise_put (sums_of rows all n) found (new_sum refl) rise)
  rise_by false false n found new new_sum apart rise = rise_put n found new rise

  pub translations_rise : (ns : Nodes) → names_rise (ids_of ns) ≡ true
      → ((m n : PlainNode) → IsNodeOf ns m → IsNodeOf ns n → is_of_sums m ≡ true → sum_name m.id ≢ n.id)
      → names_rise (ids_of (translations rows all (each_node ns))) ≡ true
  translations_rise no_nodes rise apart = refl
  translations_rise (node id p s a rest) rise apart =
      let n : PlainNode = record { id = id; process_id = p; namespace = s; arguments = a } in
      let behind = each_node rest in
      let own : Contains (n ∷ behind) n = in_first n behind n refl in
      let once : (m : PlainNode) → Contains behind m → m.id ≢ id =
      λ m has is. not_later id (ids_of rest) rise (subst (Contains (ids_of rest)) is (id_has rest m has)) in
      rise_by (is_of_periods n) (is_of_sums n) n (translations rows all behind)
      (new_name behind id once (λ m has sums. apart m n (later_there n behind m has) own sums))
      (λ is. new_name behind (sum_name id) (λ m has same. apart n m own (later_there n behind m has) is (sym same))
      (λ m has sums same. once m has (same_sum m.id id same)))
      (λ is. apart n n own own is)
      (translations_rise rest (tail_rises id (ids_of rest) rise)
      (λ m k m_in k_in. apart m k (later_there n behind m m_in) (later_there n behind k k_in)))

  -- each becomes two at most
  count_by : (p s : Bool) (n : PlainNode) (found : Nodes) → node_count (put_by rows all p s n found) ≤ suc (suc (node_count found))
  count_by true s n found = omega (arith, count_put (aggregated_node (periods_at rows all n) n) found)
  count_by false true n found =
      omega (arith, count_put (merged_node n) (put_node (sums_of rows all n) found), count_put (sums_of rows all n) found)
  count_by false false n found = omega (arith, count_put n found)

  pub count_translations : (ns : List PlainNode) → node_count (translations rows all ns) ≤ length ns + length ns
  count_translations [] = omega arith
  count_translations (n ∷ ns) =
      omega (arith, count_by (is_of_periods n) (is_of_sums n) n (translations rows all ns), count_translations ns)

  -- ---- none of either process

  same_by : (p s : Bool) (n : PlainNode) (found rest : Nodes) → p ≡ false → s ≡ false → found ≡ rest
      → names_rise (n.id ∷ ids_of rest) ≡ true
      → put_by rows all p s n found ≡ node n.id n.process_id n.namespace n.arguments rest
  same_by true s n found rest e f same rise = absurd (true≢false e)
  same_by false true n found rest e f same rise = absurd (true≢false f)
  same_by false false n found rest e f same rise = ap (put_node n) same ∙ put_first n rest rise

  same_nodes : (ns : Nodes) → names_rise (ids_of ns) ≡ true → list_any is_of_either (each_node ns) ≡ false
      → translations rows all (each_node ns) ≡ ns
  same_nodes no_nodes rise none = refl
  same_nodes (node id p s a rest) rise none =
      let n : PlainNode = record { id = id; process_id = p; namespace = s; arguments = a } in
      let here = first_not (is_of_either n) (list_any is_of_either (each_node rest)) none in
      same_by (is_of_periods n) (is_of_sums n) n (translations rows all (each_node rest)) rest
      (first_not (is_of_periods n) (is_of_sums n) here) (second_not (is_of_periods n) (is_of_sums n) here)
      (same_nodes rest (tail_rises id (ids_of rest) rise) (second_not (is_of_either n) (list_any is_of_either (each_node rest)) none)) rise

-- a graph with neither process is its own translation
pub translates_nothing : (rows : List DimsRow) (g : PlainGraph) → names_rise (ids_of g.nodes) ≡ true → g.result < node_count g.nodes
    → has_either g ≡ false → translated rows g ≡ g
translates_nothing rows g rise below none =
    ap (λ (ns : Nodes). record { nodes = ns; result = index_of (result_id g) ns }) (same_nodes rows g.nodes g.nodes rise none)
    ∙ ap (λ k. record { nodes = g.nodes; result = k }) (index_of_id g.nodes g.result rise below)
