-- What a step that loads no collection works on: the nodes of two steps, of which the second may be the first again.
use Rattle.std.proofs.Common.{◌≡◌, ◌⊎◌, inl, inr, ℕ, ◌≤◌, List, [], ◌∷◌, length, map, slice_get, Some, refl, sym, ap, ◌∙◌, subst, arith}
use Rattle.oe_dims.specs.Positions.{Position}
use Rattle.oe_ops.specs.Needs.{Needs}
use Rattle.oe_plan.specs.Figures.{shape_of_node}
use Rattle.oe_plan.specs.Steps.{arguments_of_node, NeedsOfNode}
use Rattle.oe_meanings.specs.CellKinds.{IsSoundOn}
use Rattle.oe_check.specs.Checked.{CheckedGraph, operation_of_node, outline_of_node}
use Rattle.oe_meanings.specs.Graphs.{Collections}
use Rattle.oe_check.specs.Laws.{meaning_of_node}
use Rattle.oe_meanings.specs.Meaning.{Datacube, cube_of, operated}
use Rattle.oe_requests.specs.Operations.{Operation, Outline, keep, each_cell, convolve, reduce, aggregate, accumulate, merge, cover, give_back, operation_kind, outline_of, shape_of}
use Rattle.oe_steps.proofs.InputLemmas.{cube_twice, kind_first, needs_second, needs_twice, shape_twice, sound_twice}
use Rattle.oe_steps.proofs.NodeLemmas.{WorksOn, cube_count}

-- ---- the arguments of a node

-- two of them, or one that stands for both
abbrev pub AreBoth : List ℕ → ℕ → ℕ → ℕ → Type 0
AreBoth args a b count = (args ≡ a ∷ b ∷ []) ⊎ ((args ≡ a ∷ []) × (b ≡ a) × (count ≡ 1))

pub one_argument : (args : List ℕ) (a : ℕ) → slice_get args 0 ≡ Some a → length args ≡ 1 → args ≡ a ∷ []
one_argument [] a first one = absurd (omega arith)
one_argument (x ∷ []) a first one = let is : x ≡ a = cc in ap (λ y. y ∷ []) is
one_argument (x ∷ y ∷ xs) a first one = absurd (omega arith)

pub two_arguments : (args : List ℕ) (a b : ℕ) → slice_get args 0 ≡ Some a → slice_get args 1 ≡ Some b → length args ≤ 2
    → args ≡ a ∷ b ∷ []
two_arguments [] a b first second two = absurd cc
two_arguments (x ∷ []) a b first second two = absurd cc
two_arguments (x ∷ y ∷ []) a b first second two =
    let is : x ≡ a = cc in
    let next : y ≡ b = cc in
    rw (is, next) refl
two_arguments (x ∷ y ∷ z ∷ xs) a b first second two = absurd (omega arith)

pub at_most_two : (operation : Operation) → cube_count operation ≤ 2
at_most_two (keep r) = omega arith
at_most_two (each_cell c) = omega arith
at_most_two (convolve kernel factor border replace) = omega arith
at_most_two (reduce kind c) = omega arith
at_most_two (aggregate intervals c) = omega arith
at_most_two (accumulate ignore) = omega arith
at_most_two (merge resolver) = omega arith
at_most_two (cover replacement) = omega arith
at_most_two give_back = omega arith

pub one_at_least : (operation : Operation) → 1 ≤ cube_count operation
one_at_least (keep r) = omega arith
one_at_least (each_cell c) = omega arith
one_at_least (convolve kernel factor border replace) = omega arith
one_at_least (reduce kind c) = omega arith
one_at_least (aggregate intervals c) = omega arith
one_at_least (accumulate ignore) = omega arith
one_at_least (merge resolver) = omega arith
one_at_least (cover replacement) = omega arith
one_at_least give_back = omega arith

-- ---- of the operation of a node

module _ (c : CheckedGraph) (node a b : ℕ) (operation : Operation) (is : operation_of_node c node ≡ Some operation)
    (w : WorksOn c node operation) (args : AreBoth (arguments_of_node c node) a b (cube_count operation)) where
  pub both_sound : IsSoundOn operation (outline_of_node c a ∷ outline_of_node c b ∷ [])
  both_sound = elim args [
    | inl two ↦ subst (λ xs. IsSoundOn operation (map (outline_of_node c) xs)) two w.sound
    | inr one ↦
        let same = one.1 in
        let sound = subst (λ xs. IsSoundOn operation (map (outline_of_node c) xs)) one.0 w.sound in
        rw same (sound_twice operation (outline_of_node c a) one.2 sound)
  ]

  pub both_shape : shape_of_node c node ≡ shape_of operation (shape_of_node c a ∷ shape_of_node c b ∷ [])
  both_shape = elim args [
    | inl two ↦ ap (λ (o : Outline). o.shape) (w.outline_is ∙ ap (λ xs. outline_of operation (map (outline_of_node c) xs)) two)
    | inr one ↦
        let same = one.1 in
        let alone = ap (λ (o : Outline). o.shape) (w.outline_is ∙ ap (λ xs. outline_of operation (map (outline_of_node c) xs)) one.0) in
        rw same (alone ∙ shape_twice operation (shape_of_node c a) one.2)
  ]

  pub both_kind : (outline_of_node c node).kind ≡ operation_kind operation ((outline_of_node c a).kind ∷ [])
  both_kind = elim args [
    | inl two ↦
        ap (λ (o : Outline). o.kind) (w.outline_is ∙ ap (λ xs. outline_of operation (map (outline_of_node c) xs)) two)
        ∙ kind_first operation (outline_of_node c a).kind ((outline_of_node c b).kind ∷ [])
    | inr one ↦ ap (λ (o : Outline). o.kind) (w.outline_is ∙ ap (λ xs. outline_of operation (map (outline_of_node c) xs)) one.0)
  ]

  pub both_mean : (collections : Collections)
      → meaning_of_node collections c node ≡ operated operation (map (meaning_of_node collections c) (arguments_of_node c node))
      → (meaning_of_node collections c node).cube
      ≡ cube_of operation ((meaning_of_node collections c a).cube ∷ (meaning_of_node collections c b).cube ∷ [])
  both_mean collections means = elim args [
    | inl two ↦ ap (λ (d : Datacube). d.cube) (means ∙ ap (λ xs. operated operation (map (meaning_of_node collections c) xs)) two)
    | inr one ↦
        let same = one.1 in
        let alone = ap (λ (d : Datacube). d.cube) (means ∙ ap (λ xs. operated operation (map (meaning_of_node collections c) xs)) one.0) in
        rw same (alone ∙ cube_twice operation (meaning_of_node collections c a).cube one.2)
  ]

  -- what it needs of its arguments is what the node needs of the one or the two
  pub first_needs : (p q : Position) → Needs operation (shape_of_node c a ∷ shape_of_node c b ∷ []) 0 p q → NeedsOfNode c node 0 p q
  first_needs p q n = record {
    operation = operation;
    operation_is = is;
    needs = elim args [
      | inl two ↦ subst (λ xs. Needs operation (map (shape_of_node c) xs) 0 p q) (sym two) n
      | inr one ↦
          let twice = subst (λ d. Needs operation (shape_of_node c a ∷ d ∷ []) 0 p q) (ap (shape_of_node c) one.1) n in
          subst (λ xs. Needs operation (map (shape_of_node c) xs) 0 p q) (sym one.0)
          (needs_twice operation (shape_of_node c a) p q one.2 twice)
    ];
  }

  pub second_needs : (p q : Position) → arguments_of_node c node ≡ a ∷ b ∷ []
      → Needs operation (shape_of_node c a ∷ shape_of_node c b ∷ []) 1 p q → NeedsOfNode c node 1 p q
  second_needs p q two n = record {
    operation = operation;
    operation_is = is;
    needs = subst (λ xs. Needs operation (map (shape_of_node c) xs) 1 p q) (sym two) n;
  }

  pub only_needs : (p q : Position) → arguments_of_node c node ≡ a ∷ [] → b ≡ a → cube_count operation ≡ 1
      → Needs operation (shape_of_node c a ∷ shape_of_node c b ∷ []) 1 p q → NeedsOfNode c node 0 p q
  only_needs p q one same count n =
      let twice = subst (λ d. Needs operation (shape_of_node c a ∷ d ∷ []) 1 p q) (ap (shape_of_node c) same) n in
      record {
        operation = operation;
        operation_is = is;
        needs = subst (λ xs. Needs operation (map (shape_of_node c) xs) 0 p q) (sym one)
            (needs_second operation (shape_of_node c a) p q count twice);
      }
