-- Where there are no stored processes, nothing calls one; and where no node of a graph calls one, none in it does.
use Rattle.std.proofs.Common.{◌≡◌, ◌==◌, ◌||◌, inl, inr, ℕ, Bool, true, false, if◌then◌else◌, List, [], ◌∷◌, Option, Some, None, is_some, Contains, length, map, refl, sym, ap, ◌∙◌, subst, true≢false, suc, arith}
use Rattle.std.proofs.lemmas.Bool.Decides.{nat_tests}
use Rattle.std.proofs.lemmas.List.Elements.{Contains-append_cases}
use Rattle.oe_graph.specs.References.{each_node, callbacks_in, callbacks_each, callbacks_named}
use Rattle.oe_graph.specs.Resolved.{IsScopedWithin, itself, inside, scope_inside}
use Rattle.oe_graph.specs.Tree.{Argument, null, flag, whole, inexact, text, list, object, from_node, from_parameter, callback, ListValues, no_arguments, argument, Named, no_named, named, Nodes, no_nodes, node, PlainGraph, PlainNode, PlainStored}
use Rattle.oe_calls.specs.HasCall.{nodes_call, named_call, calls, each_call}
use Rattle.oe_calls.specs.Calls.{callee, means_stored}
use Rattle.oe_calls.specs.Reached.{IsCalledBehind}
use Rattle.oe_calls.proofs.Along.{none_there, there_cases}

positive : (n : ℕ) → (suc n == 0) ≡ false
positive n = grind (arith, nat_tests)

pub map_empty : {X Y : Type 0} (f : X → Y) (xs : List X) → (length xs == 0) ≡ true → map f xs ≡ []
map_empty f [] none = refl
map_empty f (x ∷ xs) none = absurd (true≢false (sym none ∙ positive (length xs)))

either : {X : Type 0} (b : Bool) (x : X) → (if b then x else x) ≡ x
either true x = refl
either false x = refl

no_callee : (namespace : Option (List ℕ)) (process_id : List ℕ) → callee [] namespace process_id ≡ None
no_callee namespace process_id = either (means_stored namespace) None

pub uncalled_behind : (held : List (Bool × PlainNode)) (old : List ℕ) → IsCalledBehind [] held old old
uncalled_behind held old = record {
  kept = λ index has. has;
  sound = λ index has. inl has;
  found = λ caller called has is.
      let none : None ≡ Some called = sym (no_callee caller.1.namespace caller.1.process_id) ∙ is in absurd cc;
}

mutual
  pub no_calls : (ns : Nodes) → nodes_call [] ns ≡ false
  no_calls no_nodes = refl
  no_calls (node id process_id namespace arguments rest) =
      ap (λ o. (is_some o || named_call [] arguments) || nodes_call [] rest) (no_callee namespace process_id)
      ∙ ap (λ b. b || nodes_call [] rest) (no_calls_named arguments) ∙ no_calls rest

  no_calls_named : (ms : Named) → named_call [] ms ≡ false
  no_calls_named no_named = refl
  no_calls_named (named name a rest) = ap (λ b. b || named_call [] rest) (no_calls_in a) ∙ no_calls_named rest

  no_calls_in : (a : Argument) → calls [] a ≡ false
  no_calls_in null = refl
  no_calls_in (flag b) = refl
  no_calls_in (whole z) = refl
  no_calls_in inexact = refl
  no_calls_in (text s) = refl
  no_calls_in (list rest) = no_calls_each rest
  no_calls_in (object ms) = no_calls_named ms
  no_calls_in (from_node id) = refl
  no_calls_in (from_parameter name) = refl
  no_calls_in (callback ns result) = no_calls ns

  no_calls_each : (xs : ListValues) → each_call [] xs ≡ false
  no_calls_each no_arguments = refl
  no_calls_each (argument a rest) = ap (λ b. b || each_call [] rest) (no_calls_in a) ∙ no_calls_each rest

-- ---- in a graph without calls

or_none : (a b : Bool) → a || b ≡ false → (a ≡ false) × (b ≡ false)
or_none true b is = absurd (true≢false is)
or_none false b is = (refl, is)

none_of : (o : Option PlainStored) → is_some o ≡ false → o ≡ None
none_of None is = refl
none_of (Some s) is = absurd (true≢false is)

module _ (stored : List PlainStored) where
  pub node_uncalled : (ns : Nodes) (n : PlainNode) → nodes_call stored ns ≡ false → Contains (each_node ns) n
      → (callee stored n.namespace n.process_id ≡ None) × (named_call stored n.arguments ≡ false)
  node_uncalled no_nodes n is has = absurd (none_there n has)
  node_uncalled (node id p s args rest) n is has =
      let first : PlainNode = record { id = id; process_id = p; namespace = s; arguments = args } in
      let parts = or_none (is_some (callee stored s p) || named_call stored args) (nodes_call stored rest) is in
      let own = or_none (is_some (callee stored s p)) (named_call stored args) parts.0 in
      elim (there_cases first (each_node rest) n has) [
        | inl same ↦ subst (λ (m : PlainNode). (callee stored m.namespace m.process_id ≡ None) × (named_call stored m.arguments ≡ false)) same
            (none_of (callee stored s p) own.0, own.1)
        | inr later ↦ node_uncalled rest n parts.1 later
      ]

  mutual
    pub callback_uncalled : (ms : Named) (g : PlainGraph) → named_call stored ms ≡ false → Contains (callbacks_named ms) g
        → nodes_call stored g.nodes ≡ false
    callback_uncalled no_named g is has = absurd (none_there g has)
    callback_uncalled (named name a rest) g is has =
        let parts = or_none (calls stored a) (named_call stored rest) is in
        elim (Contains-append_cases (callbacks_in a) (callbacks_named rest) g has) [
          | inl here ↦ callback_uncalled_in a g parts.0 here
          | inr there ↦ callback_uncalled rest g parts.1 there
        ]

    callback_uncalled_in : (a : Argument) (g : PlainGraph) → calls stored a ≡ false → Contains (callbacks_in a) g
        → nodes_call stored g.nodes ≡ false
    callback_uncalled_in null g is has = absurd (none_there g has)
    callback_uncalled_in (flag b) g is has = absurd (none_there g has)
    callback_uncalled_in (whole z) g is has = absurd (none_there g has)
    callback_uncalled_in inexact g is has = absurd (none_there g has)
    callback_uncalled_in (text s) g is has = absurd (none_there g has)
    callback_uncalled_in (list rest) g is has = callback_uncalled_each rest g is has
    callback_uncalled_in (object ms) g is has = callback_uncalled ms g is has
    callback_uncalled_in (from_node id) g is has = absurd (none_there g has)
    callback_uncalled_in (from_parameter name) g is has = absurd (none_there g has)
    callback_uncalled_in (callback ns result) g is has =
        elim (there_cases (record { nodes = ns; result = result }) [] g has) [
          | inl same ↦ subst (λ (h : PlainGraph). nodes_call stored h.nodes ≡ false) same is
          | inr none ↦ absurd (none_there g none)
        ]

    callback_uncalled_each : (xs : ListValues) (g : PlainGraph) → each_call stored xs ≡ false → Contains (callbacks_each xs) g
        → nodes_call stored g.nodes ≡ false
    callback_uncalled_each no_arguments g is has = absurd (none_there g has)
    callback_uncalled_each (argument a rest) g is has =
        let parts = or_none (calls stored a) (each_call stored rest) is in
        elim (Contains-append_cases (callbacks_in a) (callbacks_each rest) g has) [
          | inl here ↦ callback_uncalled_in a g parts.0 here
          | inr there ↦ callback_uncalled_each rest g parts.1 there
        ]

  -- nor does a node of any graph object in it
  pub within_uncalled : (in_callback : Bool) (scope : List (List ℕ)) (nodes : Nodes) (result : ℕ)
      (outer_in_callback : Bool) (outer_scope : List (List ℕ)) (outer : Nodes) (outer_result : ℕ)
      → IsScopedWithin in_callback scope nodes result outer_in_callback outer_scope outer outer_result
      → nodes_call stored outer ≡ false → nodes_call stored nodes ≡ false
  within_uncalled in_callback scope nodes result outer_in_callback outer_scope outer outer_result itself none = none
  within_uncalled in_callback scope nodes result outer_in_callback outer_scope outer outer_result (inside {n = n} {g = g} has is_callback within) none =
      within_uncalled in_callback scope nodes result true (scope_inside n outer_scope) g.nodes g.result within
      (callback_uncalled n.arguments g (node_uncalled outer n none has).1 is_callback)
