-- Calls by index beside calls of processes.
use Rattle.std.proofs.Common.{◌≡◌, ℕ, zero, suc, ◌+◌, ◌<◌, inl, inr, ◌&&◌, drop, Bool, List, [], ◌∷◌, ◌++◌, Option, Some, Contains, length, map, take, get_or, slice_get, refl, sym, ap, ◌∙◌, subst, append_assoc, arith}
use Rattle.std.specs.List.{list_all}
use Rattle.std.proofs.lemmas.List.{map-append, get_or_default}
use Rattle.std.proofs.lemmas.List.Elements.{Contains-append_left, Contains-append_right, Contains-append_cases, Contains-push, Contains-push_cases}
use Rattle.oe_graph.specs.Plain.{plain_arg, plain_args, plain_named, plain_node, plain_nodes, plain_pair}
use Rattle.oe_graph.specs.Tree.{Argument, PlainNode, PlainStored, named_from_list, values_from_list, nodes_from_list}
use Rattle.oe_graph.specs.declared.tree.Arg.{Arg}
use Rattle.oe_graph.specs.declared.tree.Node.{Node}
use Rattle.oe_calls.specs.Calls.{callee}
use Rattle.oe_calls.specs.Reached.{held_nodes, held_named, held_in, held_each, held_by, index_at, IsCalled, HasIndexOf, IsCalledBehind}
use Rattle.oe_calls.proofs.Along.{first_there, none_there, there_cases, take_pushed}
use Rattle.oe_graph.proofs.ReferenceGraphLemmas.{nodes_next}
use Rattle.oe_calls.proofs.Tests.{at_next}
use Rattle.oe_memory.proofs.Lists.{append_none}

-- ---- the indices of calls

module _ (stored : List PlainStored) where
  pub behind_none : (old : List ℕ) → IsCalledBehind stored [] old old
  behind_none old = record {
    kept = λ index has. has;
    sound = λ index has. inl has;
    found = λ caller called has is. absurd (none_there caller has);
  }

  wider : (r s : List (Bool × PlainNode)) (index : ℕ) → IsCalled stored r index → IsCalled stored (r ++ s) index
  wider r s index is = record {
    caller = is.caller;
    holds = Contains-append_left r s is.caller is.holds;
    called = is.called;
    calls = is.calls;
    has_index = is.has_index;
  }

  wider_right : (r s : List (Bool × PlainNode)) (index : ℕ) → IsCalled stored s index → IsCalled stored (r ++ s) index
  wider_right r s index is = record {
    caller = is.caller;
    holds = Contains-append_right r s is.caller is.holds;
    called = is.called;
    calls = is.calls;
    has_index = is.has_index;
  }

  pub behind_more : (r s : List (Bool × PlainNode)) (old mid new : List ℕ) → IsCalledBehind stored r old mid
      → IsCalledBehind stored s mid new → IsCalledBehind stored (r ++ s) old new
  behind_more r s old mid new first second = record {
    kept = λ index has. second.kept index (first.kept index has);
    sound = λ index has. elim (second.sound index has) [
      | inl there ↦ elim (first.sound index there) [
        | inl was ↦ inl was
        | inr is ↦ inr (wider r s index is)
      ]
      | inr is ↦ inr (wider_right r s index is)
    ];
    found = λ caller called has is. elim (Contains-append_cases r s caller has) [
      | inl one ↦
          let at = first.found caller called one is in
          record { index = at.index; has = second.kept at.index at.has; is = at.is }
      | inr one ↦ second.found caller called one is
    ];
  }

  same_some : {X : Type 0} (x y : X) (o : Option X) → o ≡ Some x → o ≡ Some y → x ≡ y
  same_some x y o a b = let both : Some x ≡ Some y = sym a ∙ b in cc

  only : {X : Type 0} (x y : X) → Contains (x ∷ []) y → x ≡ y
  only x y has = elim (there_cases x [] y has) [ inl is ↦ is | inr there ↦ absurd (none_there y there) ]

  -- the callee is what stands at the index that was found
  record Place (o : Option PlainStored) (place : ℕ) : Type 0 where
    pub called : PlainStored
    pub is : o ≡ Some called
    pub is_there : slice_get stored place ≡ Some called

  pub behind_call : (caller : Bool × PlainNode) (called : PlainStored) (place index : ℕ) (old new : List ℕ)
      → callee stored caller.1.namespace caller.1.process_id ≡ Some called → slice_get stored place ≡ Some called
      → index ≡ index_at place caller.0 → new ≡ old ++ index ∷ [] → IsCalledBehind stored (caller ∷ []) old new
  behind_call caller called place index old new calls there is pushed =
      subst (λ xs. IsCalledBehind stored (caller ∷ []) old xs) (sym pushed) (record {
        kept = λ k has. Contains-append_left old (index ∷ []) k has;
        sound = λ k has. elim (Contains-push_cases old index k has) [
          | inl was ↦ inl was
          | inr same ↦ inr (record {
            caller = caller;
            holds = first_there caller [];
            called = called;
            calls = calls;
            has_index = record { place = place; is_there = there; is = sym same ∙ is };
          })
        ];
        found = λ other one has is_callee.
            let same : caller ≡ other = only caller other has in
            let same_called : called ≡ one = same_some called one (callee stored caller.1.namespace caller.1.process_id) calls
            (subst (λ (c : Bool × PlainNode). callee stored c.1.namespace c.1.process_id ≡ Some one) (sym same) is_callee) in
            subst (λ (c : Bool × PlainNode). HasIndexOf stored one c.0 (old ++ index ∷ [])) same
            (subst (λ (s : PlainStored). HasIndexOf stored s caller.0 (old ++ index ∷ [])) same_called (record {
              index = index;
              has = Contains-push old index;
              is = record { place = place; is_there = there; is = is };
            }));
      })

  -- a place below the end holds one
  there_below : {X : Type 0} (xs : List X) (place : ℕ) → place < length xs → (x : X) × (slice_get xs place ≡ Some x)
  there_below [] place below = absurd (omega arith)
  there_below (x ∷ xs) zero below = (x, refl)
  there_below (x ∷ xs) (suc place) below = there_below xs place (omega arith)

  pub behind_one : (caller : Bool × PlainNode) (place index : ℕ) (old new : List ℕ) → place < length stored
      → slice_get stored place ≡ callee stored caller.1.namespace caller.1.process_id
      → index ≡ index_at place caller.0 → new ≡ old ++ index ∷ [] → IsCalledBehind stored (caller ∷ []) old new
  behind_one caller place index old new below same is pushed =
      let at = there_below stored place below in
      behind_call caller at.0 place index old new (sym same ∙ at.1) at.1 is pushed

-- ---- what nodes hold, one more each

named_push : (ms : List (List ℕ × Argument)) (m : List ℕ × Argument)
    → held_named (named_from_list (ms ++ m ∷ [])) ≡ held_named (named_from_list ms) ++ held_in m.1
named_push [] m = append_none (held_in m.1)
named_push (x ∷ ms) m =
    ap (λ r. held_in x.1 ++ r) (named_push ms m)
    ∙ sym (append_assoc (held_in x.1) (held_named (named_from_list ms)) (held_in m.1))

each_push : (xs : List Argument) (x : Argument)
    → held_each (values_from_list (xs ++ x ∷ [])) ≡ held_each (values_from_list xs) ++ held_in x
each_push [] x = append_none (held_in x)
each_push (y ∷ xs) x =
    ap (λ r. held_in y ++ r) (each_push xs x)
    ∙ sym (append_assoc (held_in y) (held_each (values_from_list xs)) (held_in x))

nodes_push : (b : Bool) (ns : List PlainNode) (n : PlainNode)
    → held_nodes b (nodes_from_list (ns ++ n ∷ [])) ≡ held_nodes b (nodes_from_list ns) ++ held_by b n
nodes_push b [] n = append_none (held_by b n)
nodes_push b (m ∷ ns) n =
    ap (λ r. held_by b m ++ r) (nodes_push b ns n)
    ∙ sym (append_assoc (held_by b m) (held_nodes b (nodes_from_list ns)) (held_by b n))

pub named_next : (ms : List (List ℕ × Arg)) (i : ℕ) (m : List ℕ × Arg) → i < length ms → m ≡ get_or ms i m
    → held_named (plain_named (take (i + 1) ms)) ≡ held_named (plain_named (take i ms)) ++ held_in (plain_arg m.1)
named_next ms i m below is =
    ap (λ ys. held_named (plain_named ys)) (take_pushed ms i m below is)
    ∙ ap (λ zs. held_named (named_from_list zs)) (map-append plain_pair (take i ms) (m ∷ []))
    ∙ named_push (map plain_pair (take i ms)) (plain_pair m)

pub each_next : (xs : List Arg) (i : ℕ) (x : Arg) → i < length xs → x ≡ get_or xs i x
    → held_each (plain_args (take (i + 1) xs)) ≡ held_each (plain_args (take i xs)) ++ held_in (plain_arg x)
each_next xs i x below is =
    ap (λ ys. held_each (plain_args ys)) (take_pushed xs i x below is)
    ∙ ap (λ zs. held_each (values_from_list zs)) (map-append plain_arg (take i xs) (x ∷ []))
    ∙ each_push (map plain_arg (take i xs)) (plain_arg x)

pub held_next : (b : Bool) (ns : List Node) (i : ℕ) (n : Node) → i < length ns → n ≡ get_or ns i n
    → held_nodes b (plain_nodes (take (i + 1) ns)) ≡ held_nodes b (plain_nodes (take i ns)) ++ held_by b (plain_node n)
held_next b ns i n below is =
    ap (λ ms. held_nodes b (nodes_from_list ms)) (nodes_next ns i n below is)
    ∙ nodes_push b (map plain_node (take i ns)) (plain_node n)

-- a test of all elements of what is left of a list
pub all_next : (f : ℕ → Bool) (xs : List ℕ) (i : ℕ) → i < length xs
    → list_all f (drop i xs) ≡ f (get_or xs i 0) && list_all f (drop (i + 1) xs)
all_next f xs i below = at_next (list_all f) xs i (get_or xs i 0) below (sym (get_or_default xs i (get_or xs i 0) 0 below))
