-- The walk over the nodes of a callback: what one more node that is judged makes of what was found so far, and what stands
-- at the end.
use Rattle.std.proofs.Common.{◌≡◌, ◌≢◌, ◌⊎◌, inl, inr, ℕ, zero, suc, ◌<◌, true, false, List, [], ◌∷◌, ◌++◌, length, set, get_or, slice_get, Contains, AllPairs, Option, Some, None, refl, sym, ap, ◌∙◌, subst, arith}
use Rattle.std.proofs.lemmas.Bool.{cases_eq}
use Rattle.std.proofs.lemmas.List.Quantifiers.{all_pairs_push}
use Rattle.std.proofs.lemmas.Option.{slice_get_within, slice_get-get_or}
use Rattle.oe_cell.specs.declared.cell.Cell.{Cell}
use Rattle.oe_dims.proofs.FlatMapLemmas.{slice_get-append_left}
use Rattle.oe_dims.specs.declared.kind.CellKind.{CellKind}
use Rattle.oe_graph.specs.Faults.{IsLeastFault, is_before, least}
use Rattle.oe_graph.specs.Form as form
use Rattle.oe_graph.specs.Plain.{plain_nodes}
use Rattle.oe_graph.specs.Printed.{node_count}
use Rattle.oe_graph.specs.Indices.{indices_named}
use Rattle.oe_graph.specs.References.{each_node, references_named}
use Rattle.oe_graph.specs.States.{IsNodeAt, StandsSeen, are_sound, state_at}
use Rattle.oe_graph.specs.Tree.{Nodes, PlainNode}
use Rattle.oe_graph.specs.declared.code.Code.{Code}
use Rattle.oe_graph.specs.declared.fault.Fault.{Fault}
use Rattle.oe_graph.specs.declared.node_state.NodeState.TheVariants.{Unseen, Faulty, Sound}
use Rattle.oe_graph.specs.declared.tree.Node.{Node}
use Rattle.oe_graph.proofs.LeastLemmas.{not_before_itself}
use Rattle.oe_graph.proofs.ResolvedLemmas.{NodeAt, node_below}
use Rattle.oe_graph.proofs.SortedWalkLemmas as walk
use Rattle.oe_graph.proofs.StateLemmas.{OneFaulty, SoundNamed, faulty_known, faulty_reference, seen_stays, set_here, set_other, sound_known, sound_reference, sound_state}
use Rattle.oe_expr.specs.NodeKinds.{kind_at}
use Rattle.oe_expr.specs.Nodes.{node_named}
use Rattle.oe_expr.specs.Orders.{IsEntry, IsEntryOf, StandsBefore, HasEntry}
use Rattle.oe_expr.specs.Rows.{node_fault}
use Rattle.oe_expr.specs.Scope.{PlainScope}
use Rattle.oe_expr.specs.Stands.{IsSound, sound, StandsAt, StandsOnPath, own_fault}
use Rattle.oe_expr.specs.States.{State, state_named, kind_named, kept_kind}
use Rattle.oe_expr.specs.Walked.{AreResolved, IsJudgedSound, ArePartOrder, IsFaultAt, IsSoundOf, IsWalked, IsChecked}
use Rattle.oe_expr.specs.declared.request.Request.{Request}
use Rattle.oe_expr.specs.declared.walk.Judged.{Judged}
use Rattle.oe_expr.proofs.NodeLemmas.{node_is, index_of_node}
use Rattle.oe_expr.proofs.RequestLemmas.{fault_looks_down, kind_looks_down}
use Rattle.oe_expr.proofs.SoundLemmas.{kind_unfolds}
use Rattle.oe_expr.proofs.StateLemmas.{named_at, state_of_id}

-- ---- lists of entries

grown : (order : List Judged) (e : Judged) (k : ℕ) (entry : Judged) → slice_get order k ≡ Some entry
    → slice_get (order ++ e ∷ []) k ≡ Some entry
grown order e k entry at = slice_get-append_left order (e ∷ []) k (slice_get_within order k entry at) ∙ at

at_end : (order : List Judged) (e : Judged) → slice_get (order ++ e ∷ []) (length order) ≡ Some e
at_end [] e = refl
at_end (x ∷ order) e = at_end order e

-- an entry of a list with one more at its end
old_or_new : (order : List Judged) (e : Judged) (k : ℕ) (entry : Judged) → slice_get (order ++ e ∷ []) k ≡ Some entry
    → (slice_get order k ≡ Some entry) ⊎ ((k ≡ length order) × (e ≡ entry))
old_or_new [] e zero entry at = let same : e ≡ entry = cc in inr (refl, same)
old_or_new [] e (suc k) entry at = absurd cc
old_or_new (x ∷ order) e zero entry at = inl at
old_or_new (x ∷ order) e (suc k) entry at =
    elim (old_or_new order e k entry at) [ inl old ↦ inl old | inr new ↦ inr (ap suc new.0, new.1) ]

module _ (ns : Nodes) (order : List Judged) (e : Judged) where
  has_grown : (at : ℕ) → HasEntry order at → HasEntry (order ++ e ∷ []) at
  has_grown at has = record { index = has.index; entry = has.entry; at = grown order e has.index has.entry has.at; is_node = has.is_node }

  before_grown : (k : ℕ) (name : List ℕ) → StandsBefore ns order k name → StandsBefore ns (order ++ e ∷ []) k name
  before_grown k name b = record {
    index = b.index;
    entry = b.entry;
    node = b.node;
    is_before = b.is_before;
    at = grown order e b.index b.entry b.at;
    is_entry = b.is_entry;
    is_named = b.is_named;
  }

module _ (scope : PlainScope) (context : Cell) (nodes : List Node) (path : List ℕ) (is : AreResolved scope nodes) where
  abbrev all : Nodes
  all = plain_nodes nodes

  abbrev Sounds : List ℕ → Type 0
  Sounds = IsSound scope context all

  abbrev Kinds : List ℕ → Option CellKind → Type 0
  Kinds = IsSoundOf scope context nodes

  abbrev Faults : List ℕ → Fault → Type 0
  Faults = IsFaultAt scope context nodes path

  name_of_state : (states : List State) (name : List ℕ) (there : NodeAt all name) (s : State)
      → state_at states there.index ≡ s → state_named nodes states name ≡ s
  name_of_state states name there s e =
      ap (state_named nodes states) (sym there.is_named)
      ∙ (state_of_id scope nodes is states there.index there.node there.is_there ∙ e)

  one_node : (n : PlainNode) (k : ℕ) (m : PlainNode) → IsNodeAt all k n → node_named n.id all ≡ Some m → n ≡ m
  one_node n k m at is_named = let named = named_at scope nodes is k n at in cc

  -- ---- where no fault stands at or below the references

  module _ (states : List State) (order : List Judged) (found : Option Fault) (w : IsWalked scope context nodes path states order found)
      (index : ℕ) (n : PlainNode) (at : IsNodeAt all index n) where
    abbrev indices : List ℕ
    indices = indices_named all (references_named n.arguments)

    module _ (sound_so : are_sound states indices ≡ true) where
      reference : (name : List ℕ) → Contains (references_named n.arguments) name → SoundNamed (IsSoundOf scope context nodes) all states name
      reference name refers = sound_reference all is.result is.resolved Sounds Kinds states w.walked.each index n at sound_so name refers

      all_sound : (name : List ℕ) → Contains (references_named n.arguments) name → IsSound scope context all name
      all_sound name refers = (reference name refers).is_sound_of.sound

      kinds_agree : (name : List ℕ) → Contains (references_named n.arguments) name
          → kind_named nodes states name ≡ kind_at scope context all name
      kinds_agree name refers =
          let one = reference name refers in
          ap kept_kind (name_of_state states name one.there (Sound one.kept) one.state_is) ∙ sym one.is_sound_of.kind_is

      own_is : (fault : Option Code) → node_fault scope context (kind_named nodes states) n ≡ fault
          → own_fault scope context all n ≡ fault
      own_is fault e =
          sym (fault_looks_down scope context n (kind_named nodes states) (kind_at scope context all) kinds_agree) ∙ e

      stands_here : (code : Code) → node_fault scope context (kind_named nodes states) n ≡ Some code
          → StandsAt scope context all n.id code
      stands_here code fault_is = record {
        node = n;
        is_node = named_at scope nodes is index n at;
        below = all_sound;
        first = own_is (Some code) fault_is;
      }

      sound_here : (kind : Option CellKind) (request : Request) → IsJudgedSound scope context nodes states n kind request
          → IsSoundOf scope context nodes n.id kind
      sound_here kind request j = record {
        sound = sound (named_at scope nodes is index n at) all_sound (own_is None j.no_fault);
        kind_is =
            kind_unfolds scope context all is.resolved.acyclic n.id n (named_at scope nodes is index n at)
            ∙ (sym (kind_looks_down scope context n (kind_named nodes states) (kind_at scope context all) kinds_agree)
            ∙ j.kind_is);
      }

    -- ---- the states

    module _ (within : index < length states) (unseen : state_at states index ≡ Unseen) where
      -- ---- the entries

      kept_order : (s : State) → s ≢ Unseen → ((kind : Option CellKind) → s ≢ Sound kind) → ArePartOrder all (set states index s) order
      kept_order s known_s not_sound = record {
        each = λ k kind e. split k kind e (cases_eq k index);
        seen = λ k entry e. seen_stays states index s entry.node within known_s (w.ordered.seen k entry e);
        once = w.ordered.once;
        entry = w.ordered.entry;
        behind = w.ordered.behind;
      }
        where
          split : (k : ℕ) (kind : Option CellKind) → state_at (set states index s) k ≡ Sound kind → (k ≡ index) ⊎ (k ≢ index) → HasEntry order k
          split k kind e (inl same) =
              absurd (not_sound kind (sym (set_here states index s within) ∙ (ap (state_at (set states index s)) (sym same) ∙ e)))
          split k kind e (inr other) = w.ordered.each k kind (sym (set_other states index s k other) ∙ e)

      -- ---- the three ends

      module _ (faulty : OneFaulty states indices) where
        -- a reference leads to a node with a fault at or below it
        below_faulty : (name : List ℕ) × Contains (references_named n.arguments) name × (IsSound scope context all name → ⊥)
        below_faulty = faulty_reference all is.result is.resolved Sounds Kinds states w.walked.each index n at faulty

        not_sound_here : IsSound scope context all n.id → ⊥
        not_sound_here (sound {n = m} is_named below_it own) =
            let same : n ≡ m = one_node n index m at is_named in
            let one = below_faulty in
            one.2 (below_it one.0 (subst (λ (x : PlainNode). Contains (references_named x.arguments) one.0) same one.1))

        none_stands_here : (fault : Fault) → IsFaultAt scope context nodes path n.id fault → ⊥
        none_stands_here fault stands =
            let s = stands.0 in
            let same : n ≡ s.node = one_node n index s.node at s.is_node in
            let one = below_faulty in
            one.2 (s.below one.0 (subst (λ (x : PlainNode). Contains (references_named x.arguments) one.0) same one.1))

        pub walked_below : IsWalked scope context nodes path (set states index Faulty) order found
        walked_below = record {
          walked =
              walk.walked_below Sounds Kinds Faults all states found w.walked index n at within
              not_sound_here none_stands_here (λ nothing. w.walked.all nothing faulty.0 faulty.2);
          ordered = kept_order Faulty faulty_known (λ kind e. absurd cc);
        }

      stands_not_sound : (code : Code) → StandsAt scope context all n.id code → IsSound scope context all n.id → ⊥
      stands_not_sound code s (sound {n = m} is_named below_it own) =
          let same : n ≡ m = one_node n index m at is_named in
          let other : n ≡ s.node = one_node n index s.node at s.is_node in
          let both : m ≡ s.node = sym same ∙ other in
          let one : own_fault scope context all s.node ≡ None = subst (λ (x : PlainNode). own_fault scope context all x ≡ None) both own in
          let two : None ≡ Some code = sym one ∙ s.first in
          absurd cc

      -- a fault has its parts
      same_parts : (a b : Fault) → a.code ≡ b.code → a.node ≡ b.node → a ≡ b
      same_parts a b same_code same_node =
          ap (λ (c : Code). record { code = c; node = a.node }) same_code
          ∙ ap (λ (m : List ℕ). record { code = b.code; node = m }) same_node

      one_code : (a b : Code) → StandsAt scope context all n.id a → StandsAt scope context all n.id b → a ≡ b
      one_code a b s t =
          let same : n ≡ s.node = one_node n index s.node at s.is_node in
          let other : n ≡ t.node = one_node n index t.node at t.is_node in
          let both : s.node ≡ t.node = sym same ∙ other in
          let one : own_fault scope context all t.node ≡ Some a = subst (λ (x : PlainNode). own_fault scope context all x ≡ Some a) both s.first in
          let two : Some a ≡ Some b = sym one ∙ t.first in
          cc

      -- no other fault stands at the node
      least_here : (fault : Fault) → StandsAt scope context all n.id fault.code → fault.node ≡ form.node_name path n.id
          → IsLeastFault (IsFaultAt scope context nodes path n.id) (Some fault)
      least_here fault stands named = ((stands, named), only)
        where
          only : (other : Fault) → IsFaultAt scope context nodes path n.id other → is_before other fault ≡ false
          only other s =
              let same : fault ≡ other = same_parts fault other (one_code fault.code other.code stands s.0) (named ∙ sym s.1) in
              subst (λ (f : Fault). is_before f fault ≡ false) same (not_before_itself fault)

      pub walked_faulty : are_sound states indices ≡ true → (fault : Fault)
          → node_fault scope context (kind_named nodes states) n ≡ Some fault.code → fault.node ≡ form.node_name path n.id
          → IsWalked scope context nodes path (set states index Faulty) order (least found (Some fault))
      walked_faulty sound_so fault fault_is named =
          let stands = stands_here sound_so fault.code fault_is in
          record {
            walked =
                walk.walked_faulty Sounds Kinds Faults all states found w.walked index n at within
                fault (stands_not_sound fault.code stands) (least_here fault stands named);
            ordered = kept_order Faulty faulty_known (λ kind e. absurd cc);
          }

      -- ---- a sound node

      module _ (sound_so : are_sound states indices ≡ true) (kind : Option CellKind) (e : Judged) (is_index : e.node ≡ index)
          (j : IsJudgedSound scope context nodes states n kind e.request) where
        here_entry : IsEntryOf (plain_nodes nodes) n e
        here_entry = record { stands = ap (slice_get (each_node (plain_nodes nodes))) is_index ∙ at; asks = j.asks }

        new_each : (k : ℕ) (other_kind : Option CellKind) → state_at (set states index (Sound kind)) k ≡ Sound other_kind → HasEntry (order ++ e ∷ []) k
        new_each k other_kind s = split (cases_eq k index)
          where
            split : (k ≡ index) ⊎ (k ≢ index) → HasEntry (order ++ e ∷ []) k
            split (inl same) = record { index = length order; entry = e; at = at_end order e; is_node = is_index ∙ sym same }
            split (inr other) =
                has_grown (plain_nodes nodes) order e k (w.ordered.each k other_kind (sym (set_other states index (Sound kind) k other) ∙ s))

        new_seen : (k : ℕ) (entry : Judged) → slice_get (order ++ e ∷ []) k ≡ Some entry → state_at (set states index (Sound kind)) entry.node ≢ Unseen
        new_seen k entry s = split (old_or_new order e k entry s)
          where
            split : (slice_get order k ≡ Some entry) ⊎ ((k ≡ length order) × (e ≡ entry)) → state_at (set states index (Sound kind)) entry.node ≢ Unseen
            split (inl old) = seen_stays states index (Sound kind) entry.node within (sound_known kind) (w.ordered.seen k entry old)
            split (inr new) = λ u.
                let to : entry.node ≡ index = ap (λ (x : Judged). x.node) (sym new.1) ∙ is_index in
                sound_known kind (sym (set_here states index (Sound kind) within) ∙ (ap (state_at (set states index (Sound kind))) (sym to) ∙ u))

        new_once : AllPairs (λ (a b : Judged). a.node ≢ b.node) (order ++ e ∷ [])
        new_once = all_pairs_push (λ (a b : Judged). a.node ≢ b.node) order e w.ordered.once (λ k d below same.
            w.ordered.seen k (get_or order k d) (slice_get-get_or order k d below) (ap (state_at states) (same ∙ is_index) ∙ unseen))

        new_entry : (k : ℕ) (entry : Judged) → slice_get (order ++ e ∷ []) k ≡ Some entry → IsEntry (plain_nodes nodes) entry
        new_entry k entry s = split (old_or_new order e k entry s)
          where
            split : (slice_get order k ≡ Some entry) ⊎ ((k ≡ length order) × (e ≡ entry)) → IsEntry (plain_nodes nodes) entry
            split (inl old) = w.ordered.entry k entry old
            split (inr new) = subst (IsEntry (plain_nodes nodes)) new.1 (record { node = n; is_entry = here_entry })

        -- the nodes that it refers to have entries
        stands_before : (name : List ℕ) → Contains (references_named n.arguments) name → StandsBefore all (order ++ e ∷ []) (length order) name
        stands_before name refers =
            let one = reference sound_so name refers in
            let there = one.there in
            let has = w.ordered.each there.index one.kept one.state_is in
            let its = w.ordered.entry has.index has.entry has.at in
            let moved : IsNodeAt all there.index its.node = subst (λ k. IsNodeAt all k its.node) has.is_node its.is_entry.stands in
            let there_is = there.is_there in
            let same : its.node ≡ there.node = cc in
            record {
              index = has.index;
              entry = has.entry;
              node = its.node;
              is_before = slice_get_within order has.index has.entry has.at;
              at = grown order e has.index has.entry has.at;
              is_entry = its.is_entry;
              is_named = ap (λ (x : PlainNode). x.id) same ∙ there.is_named;
            }

        new_behind :
            (k : ℕ) (entry : Judged) (m : PlainNode) (name : List ℕ)
            → slice_get (order ++ e ∷ []) k ≡ Some entry → IsEntryOf (plain_nodes nodes) m entry → Contains (references_named m.arguments) name
            → StandsBefore (plain_nodes nodes) (order ++ e ∷ []) k name
        new_behind k entry m name s is_entry refers = split (old_or_new order e k entry s)
          where
            split : (slice_get order k ≡ Some entry) ⊎ ((k ≡ length order) × (e ≡ entry)) → StandsBefore (plain_nodes nodes) (order ++ e ∷ []) k name
            split (inl old) = before_grown (plain_nodes nodes) order e k name (w.ordered.behind k entry m name old is_entry refers)
            split (inr new) =
                let to : entry.node ≡ index = ap (λ (x : Judged). x.node) (sym new.1) ∙ is_index in
                let moved : IsNodeAt all index m = subst (λ i. IsNodeAt all i m) to is_entry.stands in
                let same : m ≡ n = cc in
                subst (λ i. StandsBefore (plain_nodes nodes) (order ++ e ∷ []) i name) (sym new.0)
                (stands_before name (subst (λ (x : PlainNode). Contains (references_named x.arguments) name) same refers))

        pub walked_sound : IsWalked scope context nodes path (set states index (Sound kind)) (order ++ e ∷ []) found
        walked_sound =
            let ok = sound_here sound_so kind e.request j in
            record {
              walked =
                  walk.walked_sound Sounds Kinds Faults all states found w.walked index n at within
                  kind ok (λ fault stands. stands_not_sound fault.code stands.0 ok.sound);
              ordered = record { each = new_each; seen = new_seen; once = new_once; entry = new_entry; behind = new_behind };
            }

  -- ---- before the first step

  pub walked_none : (states : List State) → ((k : ℕ) → state_at states k ≡ Unseen) → IsWalked scope context nodes path states [] None
  walked_none states unseen = record {
    walked = walk.walked_none Sounds Kinds Faults all states unseen;
    ordered = record {
      each = λ k kind s. let u : Unseen ≡ Sound kind = sym (unseen k) ∙ s in absurd cc;
      seen = λ k entry s. absurd cc;
      once = λ i j d below within. absurd (omega arith);
      entry = λ k entry s. absurd cc;
      behind = λ k entry n name s. absurd cc;
    };
  }

  -- ---- after the last step

  pub checked_seen : (states : List State) (order : List Judged) (found : Option Fault) → length states ≡ node_count all
      → ((k : ℕ) (n : PlainNode) → IsNodeAt all k n → state_at states k ≢ Unseen)
      → IsWalked scope context nodes path states order found → IsChecked scope context nodes path states order found
  checked_seen states order None long seen w = record {
    order_is = record {
      each = λ k below.
          let there = node_below all k below in
          let one = sound_state (state_at states k) (seen k there.node there.is_there) (w.walked.all refl k) in
          w.ordered.each k one.0 one.1;
      once = w.ordered.once;
      entry = w.ordered.entry;
      behind = w.ordered.behind;
    };
    each = walk.all_sound Sounds Kinds Faults all states long seen w.walked;
  }
  checked_seen states order (Some fault) long seen w = record {
    stands = record { id = w.walked.least.0.node.id; at = w.walked.least.0.stands.0; is_named = w.walked.least.0.stands.1 };
    least = λ other stands. w.walked.least.1 other (seen_at other stands);
  }
    where
      seen_at : (other : Fault) → StandsOnPath scope context all path other.code other.node → StandsSeen Faults all states other
      seen_at other stands =
          let there = node_is all stands.id stands.at.node stands.at.is_node in
          let found_at = index_of_node all stands.at.node there.0 in
          record {
            index = found_at.0;
            node = stands.at.node;
            is_node = found_at.1;
            seen = seen found_at.0 stands.at.node found_at.1;
            stands = (
              subst (λ name. StandsAt scope context all name other.code) (sym there.1) stands.at,
              stands.is_named ∙ ap (form.node_name path) (sym there.1),
            );
          }
