-- The calls of stored processes, read one process after the other.
use Rattle.std.proofs.Common.{◌≡◌, ℕ, zero, suc, ◌+◌, ◌*◌, ◌<◌, ◌≤◌, inl, inr, Bool, true, false, List, [], ◌∷◌, ◌++◌, Some, length, map, get_or, slice_get, slice_index_or, refl, sym, ap, ◌∙◌, subst, arith}
use Rattle.std.proofs.lemmas.Bool.{cases_lt}
use Rattle.std.proofs.lemmas.List.{length_push}
use Rattle.oe_graph.specs.Plain.{plain_stored}
use Rattle.oe_graph.specs.Tree.{PlainStored}
use Rattle.oe_graph.specs.declared.stored.StoredProcess.{StoredProcess}
use Rattle.oe_order.specs.Graph as order
use Rattle.oe_order.specs.Graph.{arguments}
use Rattle.oe_calls.specs.Reached.{held_nodes, support_nodes, index_at, IsCalledBehind, IsCallGraph}
use Rattle.oe_graph.proofs.ElementLemmas.{get_below}

arguments_old : (xs : List order.Node) (x : order.Node) (k : ℕ) → k < length xs → arguments (xs ++ x ∷ []) k ≡ arguments xs k
arguments_old [] x k below = absurd (omega arith)
arguments_old (y ∷ xs) x zero below = refl
arguments_old (y ∷ xs) x (suc k) below = arguments_old xs x k (omega arith)

arguments_new : (xs : List order.Node) (x : order.Node) → arguments (xs ++ x ∷ []) (length xs) ≡ x.arguments
arguments_new [] x = refl
arguments_new (y ∷ xs) x = arguments_new xs x

mark_old : (xs : List Bool) (x : Bool) (k : ℕ) → k < length xs → slice_index_or (xs ++ x ∷ []) k false ≡ slice_index_or xs k false
mark_old [] x k below = absurd (omega arith)
mark_old (y ∷ xs) x zero below = refl
mark_old (y ∷ xs) x (suc k) below = mark_old xs x k (omega arith)

mark_new : (xs : List Bool) (x : Bool) → slice_index_or (xs ++ x ∷ []) (length xs) false ≡ x
mark_new [] x = refl
mark_new (y ∷ xs) x = mark_new xs x

pub stored_at : (ss : List StoredProcess) (i : ℕ) (s : StoredProcess) → i < length ss → s ≡ get_or ss i s
    → slice_get (map plain_stored ss) i ≡ Some (plain_stored s)
stored_at [] i s below is = absurd (omega arith)
stored_at (t ∷ ss) zero s below is = ap (λ (u : StoredProcess). Some (plain_stored u)) (sym is)
stored_at (t ∷ ss) (suc i) s below is = stored_at ss i s (omega arith) is

-- the calls of so many processes are read
pub record IsRead (stored : List PlainStored) (count : ℕ) (links : List order.Node) (supported : List Bool) : Type 0 where
  pub each : length links ≡ 2 * count
  pub each_marked : length supported ≡ 2 * count
  pub linked : (place : ℕ) (b : Bool) (s : PlainStored) → place < count → slice_get stored place ≡ Some s
      → IsCalledBehind stored (held_nodes b s.graph.nodes) [] (arguments links (index_at place b))
  pub marked : (place : ℕ) (b : Bool) (s : PlainStored) → place < count → slice_get stored place ≡ Some s
      → slice_index_or supported (index_at place b) false ≡ support_nodes stored b s.graph.nodes

same_stored : (stored : List PlainStored) (i j : ℕ) (s t : PlainStored) → i ≡ j → slice_get stored i ≡ Some s
    → slice_get stored j ≡ Some t → s ≡ t
same_stored stored i j s t same is_i is_j =
    let both : Some s ≡ Some t = sym is_i ∙ ap (λ k. slice_get stored k) same ∙ is_j in cc

module _ (stored : List PlainStored) where
  pub read_none : IsRead stored 0 [] []
  read_none = record {
    each = refl;
    each_marked = refl;
    linked = λ place b s below. absurd (omega arith);
    marked = λ place b s below. absurd (omega arith);
  }

  pub read_all : (count : ℕ) (links : List order.Node) (supported : List Bool) → IsRead stored count links supported
      → count ≡ length stored → IsCallGraph stored links supported
  read_all count links supported r all = record {
    each = r.each ∙ ap (λ k. 2 * k) all;
    each_marked = r.each_marked ∙ ap (λ k. 2 * k) all;
    linked = λ place b s is. r.linked place b s (omega (arith, get_below stored place s is)) is;
    marked = λ place b s is. r.marked place b s (omega (arith, get_below stored place s is)) is;
  }

  module _ (i : ℕ) (links : List order.Node) (supported : List Bool) (r : IsRead stored i links supported) (s : PlainStored)
      (is : slice_get stored i ≡ Some s) (x y : order.Node) (p q : Bool)
      (main : IsCalledBehind stored (held_nodes false s.graph.nodes) [] x.arguments)
      (inner : IsCalledBehind stored (held_nodes true s.graph.nodes) [] y.arguments)
      (main_stands : p ≡ support_nodes stored false s.graph.nodes) (inner_stands : q ≡ support_nodes stored true s.graph.nodes)
    where
      abbrev more_links : List order.Node
      more_links = (links ++ x ∷ []) ++ y ∷ []

      abbrev more_marks : List Bool
      more_marks = (supported ++ p ∷ []) ++ q ∷ []

      old_below : (place : ℕ) (b : Bool) → place < i → index_at place b < 2 * i
      old_below place true below = omega arith
      old_below place false below = omega arith

      old_arguments : (k : ℕ) → k < 2 * i → arguments more_links k ≡ arguments links k
      old_arguments k below =
          arguments_old (links ++ x ∷ []) y k (omega (arith, length_push links x, r.each))
          ∙ arguments_old links x k (omega (arith, r.each))

      old_marks : (k : ℕ) → k < 2 * i → slice_index_or more_marks k false ≡ slice_index_or supported k false
      old_marks k below =
          mark_old (supported ++ p ∷ []) q k (omega (arith, length_push supported p, r.each_marked))
          ∙ mark_old supported p k (omega (arith, r.each_marked))

      new_linked : (b : Bool) → IsCalledBehind stored (held_nodes b s.graph.nodes) [] (arguments more_links (index_at i b))
      new_linked false =
          let at : index_at i false ≡ length links = omega (arith, r.each) in
          subst (λ (ys : List ℕ). IsCalledBehind stored (held_nodes false s.graph.nodes) [] ys)
          (sym (ap (arguments more_links) at ∙ arguments_old (links ++ x ∷ []) y (length links) (omega (arith, length_push links x))
          ∙ arguments_new links x)) main
      new_linked true =
          let at : index_at i true ≡ length (links ++ x ∷ []) = omega (arith, r.each, length_push links x) in
          subst (λ (ys : List ℕ). IsCalledBehind stored (held_nodes true s.graph.nodes) [] ys)
          (sym (ap (arguments more_links) at ∙ arguments_new (links ++ x ∷ []) y)) inner

      new_marked : (b : Bool) → slice_index_or more_marks (index_at i b) false ≡ support_nodes stored b s.graph.nodes
      new_marked false =
          let at : index_at i false ≡ length supported = omega (arith, r.each_marked) in
          ap (λ k. slice_index_or more_marks k false) at
          ∙ mark_old (supported ++ p ∷ []) q (length supported) (omega (arith, length_push supported p))
          ∙ mark_new supported p ∙ main_stands
      new_marked true =
          let at : index_at i true ≡ length (supported ++ p ∷ []) = omega (arith, r.each_marked, length_push supported p) in
          ap (λ k. slice_index_or more_marks k false) at ∙ mark_new (supported ++ p ∷ []) q ∙ inner_stands

      pub read_more : IsRead stored (i + 1) more_links more_marks
      read_more = record {
        each = omega (arith, r.each, length_push links x, length_push (links ++ x ∷ []) y);
        each_marked = omega (arith, r.each_marked, length_push supported p, length_push (supported ++ p ∷ []) q);
        linked = λ place b t below there. elim (cases_lt place i) [
          | inl less ↦ subst (λ (ys : List ℕ). IsCalledBehind stored (held_nodes b t.graph.nodes) [] ys)
              (sym (old_arguments (index_at place b) (old_below place b less))) (r.linked place b t less there)
          | inr more ↦
              let at : i ≡ place = omega arith in
              subst (λ k. IsCalledBehind stored (held_nodes b t.graph.nodes) [] (arguments more_links (index_at k b))) at
              (subst (λ (u : PlainStored). IsCalledBehind stored (held_nodes b u.graph.nodes) [] (arguments more_links (index_at i b)))
              (same_stored stored i place s t at is there) (new_linked b))
        ];
        marked = λ place b t below there. elim (cases_lt place i) [
          | inl less ↦ old_marks (index_at place b) (old_below place b less) ∙ r.marked place b t less there
          | inr more ↦
              let at : i ≡ place = omega arith in
              subst (λ k. slice_index_or more_marks (index_at k b) false ≡ support_nodes stored b t.graph.nodes) at
              (subst (λ (u : PlainStored). slice_index_or more_marks (index_at i b) false ≡ support_nodes stored b u.graph.nodes)
              (same_stored stored i place s t at is there) (new_marked b))
        ];
      }
