-- Callbacks that have more nodes than they may, among those of the nodes that are held.
use Rattle.std.proofs.Common.{◌≡◌, ℕ, ◌<◌, ◌≤◌, ◌⊎◌, ◌&&◌, inl, inr, Bool, true, false, List, [], ◌∷◌, ◌++◌, Contains, nat_le, refl, sym, ap, ◌∙◌, subst, true≢false, arith}
use Rattle.std.proofs.lemmas.Bool.{and_parts}
use Rattle.std.proofs.lemmas.List.Elements.{Contains-append_left, Contains-append_right, Contains-append_cases}
use Rattle.oe_graph.specs.References.{callbacks_in, callbacks_each, callbacks_named}
use Rattle.oe_graph.specs.Tree.{Argument, null, flag, whole, inexact, text, list, object, from_node, from_parameter, callback, ListValues, no_arguments, argument, Named, no_named, named, Nodes, no_nodes, node, PlainGraph, PlainNode, PlainStored}
use Rattle.oe_calls.specs.NodeCounts.{total, fits, fit_each, fit_named, fit_nodes}
use Rattle.oe_calls.specs.Reached.{held_nodes, held_named, held_in, held_each, held_by}
use Rattle.oe_calls.proofs.Along.{first_there, later_there, none_there, there_cases}

module _ (stored : List PlainStored) (size : PlainStored → ℕ) where
  -- this callback has no more nodes than it may
  abbrev pub callback_fits : PlainGraph → Bool
  callback_fits g = nat_le (total stored size g.nodes) 64

  -- where all fit, so does each callback of each node that is held; in an argument, also those in it
  mutual
    pub nodes_fit : (b : Bool) (ns : Nodes) (p : Bool × PlainNode) (g : PlainGraph) → fit_nodes stored size ns ≡ true
        → Contains (held_nodes b ns) p → Contains (callbacks_named p.1.arguments) g → callback_fits g ≡ true
    nodes_fit b no_nodes p g fit has there = absurd (none_there p has)
    nodes_fit b (node id process_id namespace ms rest) p g fit has there =
        let n : PlainNode = record { id = id; process_id = process_id; namespace = namespace; arguments = ms } in
        let both = and_parts (fit_named stored size ms) (fit_nodes stored size rest) fit in
        elim (Contains-append_cases (held_by b n) (held_nodes b rest) p has) [
          | inl one ↦ elim (there_cases (b, n) (held_named ms) p one) [
            | inl same ↦ own_named_fit ms g both.0
                (subst (λ (q : Bool × PlainNode). Contains (callbacks_named q.1.arguments) g) (sym same) there)
            | inr deep ↦ named_held_fit ms p g both.0 deep there
          ]
          | inr later ↦ nodes_fit b rest p g both.1 later there
        ]

    pub named_held_fit : (ms : Named) (p : Bool × PlainNode) (g : PlainGraph) → fit_named stored size ms ≡ true
        → Contains (held_named ms) p → Contains (callbacks_named p.1.arguments) g → callback_fits g ≡ true
    named_held_fit no_named p g fit has there = absurd (none_there p has)
    named_held_fit (named name a rest) p g fit has there =
        let both = and_parts (fits stored size a) (fit_named stored size rest) fit in
        elim (Contains-append_cases (held_in a) (held_named rest) p has) [
          | inl one ↦ in_held_fit a p g both.0 one there
          | inr later ↦ named_held_fit rest p g both.1 later there
        ]

    in_held_fit : (a : Argument) (p : Bool × PlainNode) (g : PlainGraph) → fits stored size a ≡ true
        → Contains (held_in a) p → Contains (callbacks_named p.1.arguments) g → callback_fits g ≡ true
    in_held_fit null p g fit has there = absurd (none_there p has)
    in_held_fit (flag b) p g fit has there = absurd (none_there p has)
    in_held_fit (whole z) p g fit has there = absurd (none_there p has)
    in_held_fit inexact p g fit has there = absurd (none_there p has)
    in_held_fit (text s) p g fit has there = absurd (none_there p has)
    in_held_fit (list rest) p g fit has there = each_held_fit rest p g fit has there
    in_held_fit (object ms) p g fit has there = named_held_fit ms p g fit has there
    in_held_fit (from_node id) p g fit has there = absurd (none_there p has)
    in_held_fit (from_parameter name) p g fit has there = absurd (none_there p has)
    in_held_fit (callback ns result) p g fit has there =
        nodes_fit true ns p g ((and_parts (nat_le (total stored size ns) 64) (fit_nodes stored size ns) fit).1) has there

    each_held_fit : (xs : ListValues) (p : Bool × PlainNode) (g : PlainGraph) → fit_each stored size xs ≡ true
        → Contains (held_each xs) p → Contains (callbacks_named p.1.arguments) g → callback_fits g ≡ true
    each_held_fit no_arguments p g fit has there = absurd (none_there p has)
    each_held_fit (argument a rest) p g fit has there =
        let both = and_parts (fits stored size a) (fit_each stored size rest) fit in
        elim (Contains-append_cases (held_in a) (held_each rest) p has) [
          | inl one ↦ in_held_fit a p g both.0 one there
          | inr later ↦ each_held_fit rest p g both.1 later there
        ]

    own_named_fit : (ms : Named) (g : PlainGraph) → fit_named stored size ms ≡ true → Contains (callbacks_named ms) g
        → callback_fits g ≡ true
    own_named_fit no_named g fit has = absurd (none_there g has)
    own_named_fit (named name a rest) g fit has =
        let both = and_parts (fits stored size a) (fit_named stored size rest) fit in
        elim (Contains-append_cases (callbacks_in a) (callbacks_named rest) g has) [
          | inl one ↦ own_fit a g both.0 one
          | inr later ↦ own_named_fit rest g both.1 later
        ]

    own_fit : (a : Argument) (g : PlainGraph) → fits stored size a ≡ true → Contains (callbacks_in a) g → callback_fits g ≡ true
    own_fit null g fit has = absurd (none_there g has)
    own_fit (flag b) g fit has = absurd (none_there g has)
    own_fit (whole z) g fit has = absurd (none_there g has)
    own_fit inexact g fit has = absurd (none_there g has)
    own_fit (text s) g fit has = absurd (none_there g has)
    own_fit (list rest) g fit has = own_each_fit rest g fit has
    own_fit (object ms) g fit has = own_named_fit ms g fit has
    own_fit (from_node id) g fit has = absurd (none_there g has)
    own_fit (from_parameter name) g fit has = absurd (none_there g has)
    own_fit (callback ns result) g fit has = elim (there_cases (record { nodes = ns; result = result }) [] g has) [
      | inl same ↦ subst (λ (h : PlainGraph). callback_fits h ≡ true) same
          ((and_parts (nat_le (total stored size ns) 64) (fit_nodes stored size ns) fit).0)
      | inr later ↦ absurd (none_there g later)
    ]

    own_each_fit : (xs : ListValues) (g : PlainGraph) → fit_each stored size xs ≡ true → Contains (callbacks_each xs) g
        → callback_fits g ≡ true
    own_each_fit no_arguments g fit has = absurd (none_there g has)
    own_each_fit (argument a rest) g fit has =
        let both = and_parts (fits stored size a) (fit_each stored size rest) fit in
        elim (Contains-append_cases (callbacks_in a) (callbacks_each rest) g has) [
          | inl one ↦ own_fit a g both.0 one
          | inr later ↦ own_each_fit rest g both.1 later
        ]

  -- ---- where one does not fit

  -- this callback is in an argument of a node that is held
  pub record HeldWith (held : List (Bool × PlainNode)) (written : PlainGraph) : Type 0 where
    pub holder : Bool × PlainNode
    pub is_held : Contains held holder
    pub is_there : Contains (callbacks_named holder.1.arguments) written

  -- a callback among these, or of a node that is held, does not fit
  pub record TooLarge (held : List (Bool × PlainNode)) (callbacks : List PlainGraph) : Type 0 where
    pub written : PlainGraph
    pub has : Contains callbacks written ⊎ HeldWith held written
    pub fits_not : callback_fits written ≡ false

  and_false : (a b : Bool) → a && b ≡ false → (a ≡ false) ⊎ (b ≡ false)
  and_false true b is = inr is
  and_false false b is = inl refl

  wider : (held more : List (Bool × PlainNode)) (written : PlainGraph)
      → ((p : Bool × PlainNode) → Contains held p → Contains more p) → HeldWith held written → HeldWith more written
  wider held more written each h = record { holder = h.holder; is_held = each h.holder h.is_held; is_there = h.is_there }

  large_left : (h k : List (Bool × PlainNode)) (c d : List PlainGraph) → TooLarge h c → TooLarge (h ++ k) (c ++ d)
  large_left h k c d t = record {
    written = t.written;
    has = elim t.has [
      | inl there ↦ inl (Contains-append_left c d t.written there)
      | inr held ↦ inr (wider h (h ++ k) t.written (λ p has. Contains-append_left h k p has) held)
    ];
    fits_not = t.fits_not;
  }

  large_right : (h k : List (Bool × PlainNode)) (c d : List PlainGraph) → TooLarge k d → TooLarge (h ++ k) (c ++ d)
  large_right h k c d t = record {
    written = t.written;
    has = elim t.has [
      | inl there ↦ inl (Contains-append_right c d t.written there)
      | inr held ↦ inr (wider k (h ++ k) t.written (λ p has. Contains-append_right h k p has) held)
    ];
    fits_not = t.fits_not;
  }

  -- of a node
  of_node : (b : Bool) (n : PlainNode) → TooLarge (held_named n.arguments) (callbacks_named n.arguments) → TooLarge (held_by b n) []
  of_node b n t = record {
    written = t.written;
    has = elim t.has [
      | inl there ↦ inr (record { holder = (b, n); is_held = first_there (b, n) (held_named n.arguments); is_there = there })
      | inr held ↦ inr (wider (held_named n.arguments) (held_by b n) t.written
          (λ p has. later_there (b, n) (held_named n.arguments) p has) held)
    ];
    fits_not = t.fits_not;
  }

  mutual
    pub nodes_large : (b : Bool) (ns : Nodes) → fit_nodes stored size ns ≡ false → TooLarge (held_nodes b ns) []
    nodes_large b no_nodes fits_not = absurd (true≢false fits_not)
    nodes_large b (node id process_id namespace ms rest) fits_not =
        let n : PlainNode = record { id = id; process_id = process_id; namespace = namespace; arguments = ms } in
        elim (and_false (fit_named stored size ms) (fit_nodes stored size rest) fits_not) [
          | inl own ↦ large_left (held_by b n) (held_nodes b rest) [] [] (of_node b n (named_large ms own))
          | inr later ↦ large_right (held_by b n) (held_nodes b rest) [] [] (nodes_large b rest later)
        ]

    named_large : (ms : Named) → fit_named stored size ms ≡ false → TooLarge (held_named ms) (callbacks_named ms)
    named_large no_named fits_not = absurd (true≢false fits_not)
    named_large (named name a rest) fits_not = elim (and_false (fits stored size a) (fit_named stored size rest) fits_not) [
      | inl one ↦ large_left (held_in a) (held_named rest) (callbacks_in a) (callbacks_named rest) (in_large a one)
      | inr later ↦ large_right (held_in a) (held_named rest) (callbacks_in a) (callbacks_named rest) (named_large rest later)
    ]

    in_large : (a : Argument) → fits stored size a ≡ false → TooLarge (held_in a) (callbacks_in a)
    in_large null fits_not = absurd (true≢false fits_not)
    in_large (flag b) fits_not = absurd (true≢false fits_not)
    in_large (whole z) fits_not = absurd (true≢false fits_not)
    in_large inexact fits_not = absurd (true≢false fits_not)
    in_large (text s) fits_not = absurd (true≢false fits_not)
    in_large (list rest) fits_not = each_large rest fits_not
    in_large (object ms) fits_not = named_large ms fits_not
    in_large (from_node id) fits_not = absurd (true≢false fits_not)
    in_large (from_parameter name) fits_not = absurd (true≢false fits_not)
    in_large (callback ns result) fits_not =
        let g : PlainGraph = record { nodes = ns; result = result } in
        elim (and_false (nat_le (total stored size ns) 64) (fit_nodes stored size ns) fits_not) [
          | inl own ↦ record { written = g; has = inl (first_there g []); fits_not = own }
          | inr deep ↦
              let t = nodes_large true ns deep in
              record {
                written = t.written;
                has = elim t.has [
                  | inl there ↦ absurd (none_there t.written there)
                  | inr held ↦ inr held
                ];
                fits_not = t.fits_not;
              }
        ]

    each_large : (xs : ListValues) → fit_each stored size xs ≡ false → TooLarge (held_each xs) (callbacks_each xs)
    each_large no_arguments fits_not = absurd (true≢false fits_not)
    each_large (argument a rest) fits_not = elim (and_false (fits stored size a) (fit_each stored size rest) fits_not) [
      | inl one ↦ large_left (held_in a) (held_each rest) (callbacks_in a) (callbacks_each rest) (in_large a one)
      | inr later ↦ large_right (held_in a) (held_each rest) (callbacks_in a) (callbacks_each rest) (each_large rest later)
    ]
