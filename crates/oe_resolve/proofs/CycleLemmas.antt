-- Marks of the nodes that references lead back to.
use Rattle.std.proofs.Common.{◌≡◌, ◌↔◌, ℕ, zero, suc, ◌+◌, ◌<◌, ◌⊎◌, inl, inr, Bool, true, false, List, [], ◌∷◌, ◌++◌, Some, length, slice_get, slice_index_or, replicate, refl, sym, ap, ◌∙◌, subst, true≢false, arith}
use Rattle.oe_graph.proofs.ElementLemmas.{get_below}
use Rattle.oe_dims.specs.Names.{names_rise}
use Rattle.oe_graph.specs.Indices.{reference_graph}
use Rattle.oe_graph.specs.Printed.{ids_of}
use Rattle.oe_graph.specs.References.{each_node}
use Rattle.oe_graph.specs.Tree.{Nodes}
use Rattle.oe_graph.proofs.ReferenceGraphLemmas.{leads_from, reaches_from}
use Rattle.oe_graph.proofs.SearchLemmas.{id_there}
use Rattle.oe_order.specs.Graph as order
use Rattle.oe_order.specs.Graph.{Reaches, IsAcyclic}
use Rattle.oe_resolve.specs.NameFaults.{AreMarks}

-- ---- marks

-- each mark is whether references lead from its node back to itself
abbrev pub LeadBack : List order.Node → List Bool → Type 0
LeadBack xs marks = (k : ℕ) → k < length marks → (slice_index_or marks k false ≡ true) ↔ Reaches xs k k

push_at : (marks : List Bool) (mark : Bool) (k : ℕ) → k < length marks → slice_index_or (marks ++ mark ∷ []) k false ≡ slice_index_or marks k false
push_at [] mark k below = absurd (omega arith)
push_at (m ∷ marks) mark zero below = refl
push_at (m ∷ marks) mark (suc k) below = push_at marks mark k (omega arith)

push_last : (marks : List Bool) (mark : Bool) → slice_index_or (marks ++ mark ∷ []) (length marks) false ≡ mark
push_last [] mark = refl
push_last (m ∷ marks) mark = push_last marks mark

push_length : (marks : List Bool) (mark : Bool) → length (marks ++ mark ∷ []) ≡ length marks + 1
push_length [] mark = refl
push_length (m ∷ marks) mark = let longer : length (marks ++ mark ∷ []) ≡ length marks + 1 = push_length marks mark in omega arith

older_or_last : (k n : ℕ) → k < n + 1 → (k < n) ⊎ (k ≡ n)
older_or_last k zero below = inr (omega arith)
older_or_last zero (suc n) below = inl (omega arith)
older_or_last (suc k) (suc n) below = elim (older_or_last k n (omega arith)) [ inl less ↦ inl (omega arith) | inr is ↦ inr (omega arith) ]

pub back_push : (xs : List order.Node) (marks new : List Bool) (mark : Bool) (index : ℕ) → length marks ≡ index
    → new ≡ marks ++ mark ∷ [] → LeadBack xs marks → (mark ≡ true) ↔ Reaches xs index index
    → (length new ≡ index + 1) × LeadBack xs new
back_push xs marks new mark index long pushed each last = (
  ap length pushed ∙ push_length marks mark ∙ ap (λ n. n + 1) long,
  λ k below. subst (λ ms. (slice_index_or ms k false ≡ true) ↔ Reaches xs k k) (sym pushed)
      (elim (older_or_last k (length marks) (omega (arith, ap length pushed, push_length marks mark))) [
        | inl less ↦ subst (λ b. (b ≡ true) ↔ Reaches xs k k) (sym (push_at marks mark k less)) (each k less)
        | inr is ↦ subst (λ b. (b ≡ true) ↔ Reaches xs k k)
            (sym (ap (λ j. slice_index_or (marks ++ mark ∷ []) j false) is ∙ push_last marks mark))
            (subst (λ j. (mark ≡ true) ↔ Reaches xs j j) (sym (is ∙ long)) last)
      ]),
)

-- what the references by index say of the graph object
pub marks_from : (nodes : Nodes) (marks : List Bool) → names_rise (ids_of nodes) ≡ true → length marks ≡ length (each_node nodes)
    → LeadBack (reference_graph nodes) marks → AreMarks true nodes marks
marks_from nodes marks rise long each = record {
  each = long;
  exact = λ index n there.
      let below : index < length (each_node nodes) = get_below (each_node nodes) index n there in
      let named : slice_get (ids_of nodes) index ≡ Some n.id = id_there nodes index n there in
      let here : (slice_index_or marks index false ≡ true) ↔ Reaches (reference_graph nodes) index index = each index (omega arith) in (
        (λ marked. (refl, leads_from nodes index index n.id n.id (here.0 marked) named named)),
        (λ leads. here.1 (reaches_from nodes rise index index n.id n.id leads.1 named named)),
      );
}

none_marked : (count k : ℕ) → slice_index_or (replicate count false) k false ≡ false
none_marked zero k = refl
none_marked (suc count) zero = refl
none_marked (suc count) (suc k) = none_marked count k

-- where no reference leads back
pub back_none : (xs : List order.Node) (count : ℕ) → IsAcyclic xs → LeadBack xs (replicate count false)
back_none xs count acyclic = λ k below. (
  (λ marked. absurd (true≢false (sym marked ∙ none_marked count k))),
  (λ back. absurd (acyclic k back)),
)

pub replicate_length : (n : ℕ) → length (replicate n false) ≡ n
replicate_length zero = refl
replicate_length (suc n) = let rest : length (replicate n false) ≡ n = replicate_length n in omega arith

-- no round but the last asks for cycles
pub marks_unasked : (nodes : Nodes) (count : ℕ) → count ≡ length (each_node nodes) → AreMarks false nodes (replicate count false)
marks_unasked nodes count long = record {
  each = replicate_length count ∙ long;
  exact = λ index n there. (
    (λ marked. absurd (true≢false (sym marked ∙ none_marked count index))),
    (λ leads. absurd (true≢false (sym leads.0))),
  );
}
