-- The nodes of a translated graph: which they are, what they refer to, and that no references lead back.
use Rattle.std.proofs.Common.{◌≡◌, ◌≢◌, ◌⊎◌, inl, inr, ℕ, ◌++◌, Bool, true, false, if◌then◌else◌, List, [], ◌∷◌, Some, Contains, refl, sym, ap, ◌∙◌, subst, true≢false}
use Rattle.std.specs.Prelude.{codes, ℤ}
use Rattle.std.specs.List.{list_any}
use Rattle.std.proofs.lemmas.List.{append_cancel_right}
use Rattle.std.proofs.lemmas.List.Elements.{Contains-append_cases}
use Rattle.oe_dims.specs.Names.{same_name}
use Rattle.oe_dims.specs.declared.dims.DimsRow.{DimsRow}
use Rattle.oe_dims.proofs.OrderLemmas.{same_name_refl}
use Rattle.oe_graph.specs.Printed.{ids_of}
use Rattle.oe_graph.specs.References.{each_node, references_in, references_each, references_named, Refers, Leads, refers, onwards}
use Rattle.oe_graph.specs.Tree as tree
use Rattle.oe_graph.specs.Tree.{Named, Nodes, no_nodes, PlainNode}
use Rattle.oe_graph.proofs.ResolvedLemmas.{Leads-end}
use Rattle.oe_expr.specs.Nodes.{node_named}
use Rattle.oe_expr.proofs.NodeLemmas.{id_within, index_of_node, node_is}
use Rattle.oe_calls.specs.Rounds.{put_node}
use Rattle.oe_calls.proofs.Along.{there_cases, in_first, none_there, later_there}
use Rattle.oe_check.specs.Checked.{CheckedGraph, AreFaultless}
use Rattle.oe_meanings.specs.SoundNodes.{AreAcyclic}
use Rattle.oe_meanings.specs.Stands.{IsSound, sound}
use Rattle.oe_check.specs.Walked.{IsNodeOf}
use Rattle.oe_requests.specs.declared.extent.Interval.{Interval}
use Rattle.oe_translate.specs.Laws.{HasRoomForSums}
use Rattle.oe_translate.specs.Translated.{ignores_at, is_of_either, is_of_periods, is_of_sums, labels_at, periods_at, translated_nodes, translations}
use Rattle.oe_translate.specs.Written.{aggregated_node, given, growing_intervals, merged_node, sum_callback, sum_name, sums_node}
use Rattle.oe_translate.proofs.PartLemmas.{is_named}
use Rattle.oe_translate.proofs.ArgumentLemmas as argument
use Rattle.oe_translate.proofs.ArgumentLemmas.{of_references}
use Rattle.oe_translate.proofs.PutLemmas.{any_put, differ, in_put, named_put}

-- ---- no calendar periods and no running sums

module _ (rows : List DimsRow) (all : Nodes) where
  none_put : (p s : Bool) (n : PlainNode) (found : Nodes) → is_of_periods n ≡ p → is_of_sums n ≡ s
      → list_any is_of_either (each_node found) ≡ false
      → list_any is_of_either (each_node (if p then put_node (aggregated_node (periods_at rows all n) n) found
      else (if s then put_node (merged_node n) (put_node (sums_node (ignores_at n) (labels_at rows all n) n) found) else put_node n found))) ≡ false
  none_put true s n found e f none = any_put is_of_either (aggregated_node (periods_at rows all n) n) found ∙ none
  none_put false true n found e f none =
      any_put is_of_either (merged_node n) (put_node (sums_node (ignores_at n) (labels_at rows all n) n) found)
      ∙ (any_put is_of_either (sums_node (ignores_at n) (labels_at rows all n) n) found ∙ none)
  none_put false false n found e f none = any_put is_of_either n found ∙ rw (e, f) none

  pub none_left : (ns : List PlainNode) → list_any is_of_either (each_node (translations rows all ns)) ≡ false
  none_left [] = refl
  none_left (n ∷ ns) = none_put (is_of_periods n) (is_of_sums n) n (translations rows all ns) refl refl (none_left ns)

-- ---- references

pub periods_refer : (intervals : List Interval) (n : PlainNode) (id : List ℕ)
    → Contains (references_named (aggregated_node intervals n).arguments) id → Contains (references_named n.arguments) id
periods_refer intervals n id has = argument.of_periods (List ℕ) references_in references_each references_named of_references id intervals n has

in_given : (name : List ℕ) (arguments : Named) (id : List ℕ) → Contains (references_in (given name arguments)) id
    → Contains (references_named arguments) id
in_given name arguments id has = argument.in_given (List ℕ) references_in references_each references_named of_references id name arguments has

pub sums_refer : (ignore : Bool) (labels : List ℤ) (n : PlainNode) (id : List ℕ)
    → Contains (references_named (sums_node ignore labels n).arguments) id → Contains (references_named n.arguments) id
sums_refer ignore labels n id has =
    argument.of_aggregate (List ℕ) references_in references_each references_named of_references id
    tree.null (given (codes "data") n.arguments) tree.null (sum_callback ignore) (growing_intervals labels)
    (Contains (references_named n.arguments) id)
    (λ h. absurd (none_there id h)) (in_given (codes "data") n.arguments id) (λ h. absurd (none_there id h)) (λ h. absurd (none_there id h)) has

pub merge_refers : (n : PlainNode) (id : List ℕ) → Contains (references_named (merged_node n).arguments) id
    → (sum_name n.id ≡ id) ⊎ Contains (references_named n.arguments) id
merge_refers n id has =
    elim (there_cases (sum_name n.id) (references_in (given (codes "data") n.arguments) ++ []) id has) as (λ _. (sum_name n.id ≡ id) ⊎ Contains (references_named n.arguments) id) [
      | inl is ↦ inl is
      | inr later ↦ elim (Contains-append_cases (references_in (given (codes "data") n.arguments)) [] id later) as (λ _. (sum_name n.id ≡ id) ⊎ Contains (references_named n.arguments) id) [
        | inl there ↦ inr (in_given (codes "data") n.arguments id there)
        | inr none ↦ absurd (none_there id none)
      ]
    ]

-- ---- names

pub same_sum : (a b : List ℕ) → sum_name a ≡ sum_name b → a ≡ b
same_sum a b is = append_cancel_right a b (47 ∷ codes "sum") is

module _ (rows : List DimsRow) (all : Nodes) where
  -- what stands for a node in its place, and the aggregation of one of running sums
  abbrev pub one : PlainNode → PlainNode
  one n = if is_of_periods n then aggregated_node (periods_at rows all n) n else (if is_of_sums n then merged_node n else n)

  abbrev pub sums_of : PlainNode → PlainNode
  sums_of n = sums_node (ignores_at n) (labels_at rows all n) n

  one_by : (p s : Bool) (n : PlainNode)
      → (if p then aggregated_node (periods_at rows all n) n else (if s then merged_node n else n)).id ≡ n.id
  one_by true s n = refl
  one_by false true n = refl
  one_by false false n = refl

  pub one_of_periods : (n : PlainNode) → is_of_periods n ≡ true → one n ≡ aggregated_node (periods_at rows all n) n
  one_of_periods n e = rw e refl

  pub one_of_sums : (n : PlainNode) → is_of_periods n ≡ false → is_of_sums n ≡ true → one n ≡ merged_node n
  one_of_sums n e f = rw (e, f) refl

  pub one_of_other : (n : PlainNode) → is_of_periods n ≡ false → is_of_sums n ≡ false → one n ≡ n
  one_of_other n e f = rw (e, f) refl

  pub id_of_one : (n : PlainNode) → (one n).id ≡ n.id
  id_of_one n = one_by (is_of_periods n) (is_of_sums n) n

  abbrev pub put_by : Bool → Bool → PlainNode → Nodes → Nodes
  put_by p s n found =
      if p then put_node (aggregated_node (periods_at rows all n) n) found
      else (if s then put_node (merged_node n) (put_node (sums_of n) found) else put_node n found)

  skip_by : (p s : Bool) (n : PlainNode) (found : Nodes) (name : List ℕ) → same_name n.id name ≡ false
      → (s ≡ true → same_name (sum_name n.id) name ≡ false) → node_named name (put_by p s n found) ≡ node_named name found
  skip_by true s n found name e f = named_put (aggregated_node (periods_at rows all n) n) found name ∙ rw e refl
  skip_by false true n found name e f =
      let g : same_name (sum_name n.id) name ≡ false = f refl in
      named_put (merged_node n) (put_node (sums_of n) found) name ∙ rw e (named_put (sums_of n) found name ∙ rw g refl)
  skip_by false false n found name e f = named_put n found name ∙ rw e refl

  here_by : (p s : Bool) (n : PlainNode) (found : Nodes) (name : List ℕ) → same_name n.id name ≡ true
      → node_named name (put_by p s n found)
      ≡ Some (if p then aggregated_node (periods_at rows all n) n else (if s then merged_node n else n))
  here_by true s n found name e = named_put (aggregated_node (periods_at rows all n) n) found name ∙ rw e refl
  here_by false true n found name e = named_put (merged_node n) (put_node (sums_of n) found) name ∙ rw e refl
  here_by false false n found name e = named_put n found name ∙ rw e refl

  -- the node of a name that no aggregation of running sums has
  pub named_one : (ns : Nodes) (name : List ℕ)
      → ((m : PlainNode) → IsNodeOf ns m → is_of_sums m ≡ true → sum_name m.id ≢ name)
      → (n : PlainNode) → node_named name ns ≡ Some n → node_named name (translations rows all (each_node ns)) ≡ Some (one n)
  named_one no_nodes name apart n is = absurd cc
  named_one (tree.node id p s a rest) name apart n is =
      by (same_name id name) refl is (λ later. named_one rest name (λ m has. apart m (later_there _ (each_node rest) m has)) n later)
    where
      m : PlainNode
      m = record { id = id; process_id = p; namespace = s; arguments = a }

      by : (b : Bool) → same_name id name ≡ b → (if b then Some m else node_named name rest) ≡ Some n
          → (node_named name rest ≡ Some n → node_named name (translations rows all (each_node rest)) ≡ Some (one n))
          → node_named name (translations rows all (m ∷ each_node rest)) ≡ Some (one n)
      by true e found later =
          let same : m ≡ n = cc in
          here_by (is_of_periods m) (is_of_sums m) m (translations rows all (each_node rest)) name e ∙ ap (λ x. Some (one x)) same
      by false e found later =
          skip_by (is_of_periods m) (is_of_sums m) m (translations rows all (each_node rest)) name e
          (λ sums. differ (sum_name id) name (apart m (in_first m (each_node rest) m refl) sums)) ∙ later found

  sums_by : (p s : Bool) (n : PlainNode) (found : Nodes) → p ≡ false → s ≡ true → n.id ≢ sum_name n.id
      → node_named (sum_name n.id) (put_by p s n found) ≡ Some (sums_of n)
  sums_by true s n found e f apart = absurd (true≢false e)
  sums_by false false n found e f apart = absurd (true≢false (sym f))
  sums_by false true n found e f apart =
      let own : same_name n.id (sum_name n.id) ≡ false = differ n.id (sum_name n.id) apart in
      let sum : same_name (sum_name n.id) (sum_name n.id) ≡ true = same_name_refl (sum_name n.id) in
      named_put (merged_node n) (put_node (sums_of n) found) (sum_name n.id) ∙ rw own (named_put (sums_of n) found (sum_name n.id) ∙ rw sum refl)

  -- the aggregation of a node of running sums
  pub named_sums : (ns : Nodes) (n : PlainNode) → is_of_periods n ≡ false → is_of_sums n ≡ true
      → ((m : PlainNode) → IsNodeOf ns m → m.id ≢ sum_name n.id) → node_named n.id ns ≡ Some n
      → node_named (sum_name n.id) (translations rows all (each_node ns)) ≡ Some (sums_of n)
  named_sums no_nodes n periods sums apart is = absurd cc
  named_sums (tree.node id p s a rest) n periods sums apart is =
      by (same_name id n.id) refl is (λ later. named_sums rest n periods sums (λ m has. apart m (later_there _ (each_node rest) m has)) later)
    where
      m : PlainNode
      m = record { id = id; process_id = p; namespace = s; arguments = a }

      by : (b : Bool) → same_name id n.id ≡ b → (if b then Some m else node_named n.id rest) ≡ Some n
          → (node_named n.id rest ≡ Some n → node_named (sum_name n.id) (translations rows all (each_node rest)) ≡ Some (sums_of n))
          → node_named (sum_name n.id) (translations rows all (m ∷ each_node rest)) ≡ Some (sums_of n)
      by true e found later =
          let same : m ≡ n = cc in
          subst (λ (x : PlainNode). node_named (sum_name n.id) (translations rows all (x ∷ each_node rest)) ≡ Some (sums_of n)) (sym same)
          (sums_by (is_of_periods n) (is_of_sums n) n (translations rows all (each_node rest)) periods sums
          (subst (λ (x : PlainNode). x.id ≢ sum_name n.id) same (apart m (in_first m (each_node rest) m refl))))
      by false e found later =
          skip_by (is_of_periods m) (is_of_sums m) m (translations rows all (each_node rest)) (sum_name n.id)
          (differ id (sum_name n.id) (apart m (in_first m (each_node rest) m refl)))
          (λ sums. differ (sum_name id) (sum_name n.id) (λ is. true≢false (sym (subst (λ x. same_name id x ≡ true) (same_sum id n.id is) (same_name_refl id)) ∙ e)))
          ∙ later found

  -- ---- each of them

  -- a node of the translated graph stands for one of the graph, or is the aggregation of one of running sums
  pub record Stems (ns : List PlainNode) (z : PlainNode) : Type 0 where
    pub node : PlainNode
    pub is_node : Contains ns node
    pub either : (one node ≡ z) ⊎ ((is_of_periods node ≡ false) × (is_of_sums node ≡ true) × (sums_of node ≡ z))

  stems_later : (n : PlainNode) (ns : List PlainNode) (z : PlainNode) → Stems ns z → Stems (n ∷ ns) z
  stems_later n ns z s = record { node = s.node; is_node = later_there n ns s.node s.is_node; either = s.either }

  stems_by : (p s : Bool) (n : PlainNode) (ns : List PlainNode) (found : Nodes) (z : PlainNode) → is_of_periods n ≡ p → is_of_sums n ≡ s
      → (Contains (each_node found) z → Stems ns z) → Contains (each_node (put_by p s n found)) z → Stems (n ∷ ns) z
  stems_by true s n ns found z e f later has =
      elim (in_put (aggregated_node (periods_at rows all n) n) found z has) as (λ _. Stems (n ∷ ns) z) [
        | inl is ↦ record { node = n; is_node = in_first n ns n refl; either = inl (rw e is) }
        | inr there ↦ stems_later n ns z (later there)
      ]
  stems_by false true n ns found z e f later has =
      elim (in_put (merged_node n) (put_node (sums_of n) found) z has) as (λ _. Stems (n ∷ ns) z) [
        | inl is ↦ record { node = n; is_node = in_first n ns n refl; either = inl (rw (e, f) is) }
        | inr more ↦ elim (in_put (sums_of n) found z more) as (λ _. Stems (n ∷ ns) z) [
          | inl is ↦ record { node = n; is_node = in_first n ns n refl; either = inr (e, f, is) }
          | inr there ↦ stems_later n ns z (later there)
        ]
      ]
  stems_by false false n ns found z e f later has =
      elim (in_put n found z has) as (λ _. Stems (n ∷ ns) z) [
        | inl is ↦ record { node = n; is_node = in_first n ns n refl; either = inl (rw (e, f) is) }
        | inr there ↦ stems_later n ns z (later there)
      ]

  pub stems : (ns : List PlainNode) (z : PlainNode) → Contains (each_node (translations rows all ns)) z → Stems ns z
  stems [] z has = absurd (none_there z has)
  stems (n ∷ ns) z has = stems_by (is_of_periods n) (is_of_sums n) n ns (translations rows all ns) z refl refl (stems ns z) has

  one_refers : (p s : Bool) (n : PlainNode) (id : List ℕ) → is_of_sums n ≡ s
      → Contains (references_named (if p then aggregated_node (periods_at rows all n) n else (if s then merged_node n else n)).arguments) id
      → ((is_of_sums n ≡ true) × (p ≡ false) × (sum_name n.id ≡ id)) ⊎ Contains (references_named n.arguments) id
  one_refers true s n id f has = inr (periods_refer (periods_at rows all n) n id has)
  one_refers false true n id f has =
      elim (merge_refers n id has) as (λ _. ((is_of_sums n ≡ true) × (false ≡ false) × (sum_name n.id ≡ id)) ⊎ Contains (references_named n.arguments) id) [
        | inl is ↦ inl (f, refl, is)
        | inr there ↦ inr there
      ]
  one_refers false false n id f has = inr has

-- ---- references end

-- all ways down the references from a node end
data Ends (nodes : Nodes) : List ℕ → Type 0 where
  ends : {a : List ℕ} → ((b : List ℕ) → Refers nodes a b → Ends nodes b) → Ends nodes a

no_way_back : (nodes : Nodes) (a : List ℕ) → Ends nodes a → Leads nodes a a → ⊥
no_way_back nodes a (ends below) (refers r) = no_way_back nodes a (below a r) (refers r)
no_way_back nodes a (ends below) (onwards {b = b} r rest) = no_way_back nodes b (below b r) (Leads-end nodes b a b rest r)

module _ (c : CheckedGraph) (f : AreFaultless c) (room : HasRoomForSums c.nodes) where
  abbrev pub after : Nodes
  after = translated_nodes c.rows c.nodes

  id_there : (n : PlainNode) → IsNodeOf c.nodes n → Contains (ids_of c.nodes) n.id
  id_there n has = let at = index_of_node c.nodes n has in id_within c.nodes at.0 n at.1

  -- a node and the aggregation of another have other names
  pub apart : (m n : PlainNode) → IsNodeOf c.nodes m → IsNodeOf c.nodes n → is_of_sums m ≡ true → sum_name m.id ≢ n.id
  apart m n m_in n_in sums is = room.each m m_in sums (subst (Contains (ids_of c.nodes)) (sym is) (id_there n n_in))

  pub one_named : (n : PlainNode) → IsNodeOf c.nodes n → node_named n.id after ≡ Some (one c.rows c.nodes n)
  one_named n has = named_one c.rows c.nodes c.nodes n.id (λ m m_in sums. apart m n m_in has sums) n (is_named c f n has)

  pub sums_named : (n : PlainNode) → IsNodeOf c.nodes n → is_of_periods n ≡ false → is_of_sums n ≡ true
      → node_named (sum_name n.id) after ≡ Some (sums_of c.rows c.nodes n)
  sums_named n has periods sums =
      named_sums c.rows c.nodes c.nodes n periods sums (λ m m_in is. apart n m has m_in sums (sym is)) (is_named c f n has)

  -- of two nodes with one name
  same_node : (m n : PlainNode) → IsNodeOf c.nodes m → IsNodeOf c.nodes n → m.id ≡ n.id → m ≡ n
  same_node m n m_in n_in is =
      let one : node_named m.id c.nodes ≡ Some m = is_named c f m m_in in
      let two : node_named m.id c.nodes ≡ Some n = ap (λ name. node_named name c.nodes) is ∙ is_named c f n n_in in
      cc

  ends_sums : (n : PlainNode) → IsNodeOf c.nodes n → is_of_sums n ≡ true
      → ((b : List ℕ) → Contains (references_named n.arguments) b → Ends after b) → Ends after (sum_name n.id)
  ends_sums n has sums below = ends (λ b r. by b r (stems c.rows c.nodes (each_node c.nodes) r.from r.is_node))
    where
      by : (b : List ℕ) → (r : Refers after (sum_name n.id) b) → Stems c.rows c.nodes (each_node c.nodes) r.from → Ends after b
      by b r s = elim s.either as (λ _. Ends after b) [
        | inl is ↦ absurd (apart n s.node has s.is_node sums (sym r.is_named ∙ (ap (λ (x : PlainNode). x.id) (sym is) ∙ id_of_one c.rows c.nodes s.node)))
        | inr other ↦ (
            let is : sums_of c.rows c.nodes s.node ≡ r.from = other.2 in
            let same : s.node ≡ n = same_node s.node n s.is_node has (same_sum s.node.id n.id (ap (λ (x : PlainNode). x.id) is ∙ r.is_named)) in
            below b (subst (λ (x : PlainNode). Contains (references_named x.arguments) b) same
            (sums_refer (ignores_at s.node) (labels_at c.rows c.nodes s.node) s.node b
            (subst (λ (x : PlainNode). Contains (references_named x.arguments) b) (sym is) r.refers)))
            )
      ]

  ends_one : (n : PlainNode) → IsNodeOf c.nodes n → ((b : List ℕ) → Contains (references_named n.arguments) b → Ends after b)
      → Ends after n.id
  ends_one n has below = ends (λ b r. by b r (stems c.rows c.nodes (each_node c.nodes) r.from r.is_node))
    where
      by : (b : List ℕ) → (r : Refers after n.id b) → Stems c.rows c.nodes (each_node c.nodes) r.from → Ends after b
      by b r s = elim s.either as (λ _. Ends after b) [
        | inl is ↦ (
            let same : s.node ≡ n = same_node s.node n s.is_node has
            (sym (id_of_one c.rows c.nodes s.node) ∙ (ap (λ (x : PlainNode). x.id) is ∙ r.is_named)) in
            let here : one c.rows c.nodes n ≡ r.from = ap (one c.rows c.nodes) (sym same) ∙ is in
            elim (one_refers c.rows c.nodes (is_of_periods n) (is_of_sums n) n b refl
            (subst (λ (x : PlainNode). Contains (references_named x.arguments) b) (sym here) r.refers)) as (λ _. Ends after b) [
              | inl sum ↦ subst (Ends after) sum.2 (ends_sums n has sum.0 below)
              | inr there ↦ below b there
            ]
            )
        | inr other ↦ absurd (apart s.node n s.is_node has other.1 (ap (λ (x : PlainNode). x.id) other.2 ∙ r.is_named))
      ]

  ends_sound : (name : List ℕ) → IsSound c.rows c.nodes name → Ends after name
  ends_sound name (sound {n = n} is below none) =
      let there = node_is c.nodes name n is in
      subst (Ends after) there.1 (ends_one n there.0 (λ b refers. ends_sound b (below b refers)))

  -- what a node refers to
  below_of : (n : PlainNode) → IsNodeOf c.nodes n → (b : List ℕ) → Contains (references_named n.arguments) b → Ends after b
  below_of n has b leads = by n.id (f.sound n has) (is_named c f n has)
    where
      by : (name : List ℕ) → IsSound c.rows c.nodes name → node_named name c.nodes ≡ Some n → Ends after b
      by name (sound {n = m} named below none) is =
          let same : m ≡ n = cc in
          ends_sound b (below b (subst (λ (x : PlainNode). Contains (references_named x.arguments) b) (sym same) leads))

  pub after_acyclic : AreAcyclic after
  after_acyclic id leads = by leads
    where
      from_stem : (z : PlainNode) → Stems c.rows c.nodes (each_node c.nodes) z → Ends after z.id
      from_stem z s = elim s.either as (λ _. Ends after z.id) [
        | inl is ↦ subst (λ (x : PlainNode). Ends after x.id) is
            (subst (Ends after) (sym (id_of_one c.rows c.nodes s.node)) (ends_sound s.node.id (f.sound s.node s.is_node)))
        | inr other ↦ subst (λ (x : PlainNode). Ends after x.id) other.2
            (ends_sums s.node s.is_node other.1 (λ b refers. below_of s.node s.is_node b refers))
      ]

      by : Leads after id id → ⊥
      by (refers r) = no_way_back after id (subst (Ends after) r.is_named (from_stem r.from (stems c.rows c.nodes (each_node c.nodes) r.from r.is_node))) (refers r)
      by (onwards r rest) = no_way_back after id (subst (Ends after) r.is_named (from_stem r.from (stems c.rows c.nodes (each_node c.nodes) r.from r.is_node))) (onwards r rest)
