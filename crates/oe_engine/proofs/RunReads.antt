-- What a run reads, by its plan and by its graph.
use Rattle.std.proofs.Common.{◌≡◌, ℕ, ◌+◌, ◌*◌, ◌≤◌, Bool, cond, List, [], ◌∷◌, length, map, slice_index, refl, sym, ap, ◌∙◌, subst}
use Rattle.std.proofs.lemmas.List.FromFn.{fill_by_all}
use Rattle.std.specs.List.{count_by, fold, range_with_len}
use Rattle.oe_engine.specs.Runs.{load_count}
use Rattle.oe_order.specs.Graph.{is_load}
use Rattle.oe_plan.specs.Figures.{chunks_of, largest_window, steps_of}
use Rattle.oe_plan.specs.Plans.{IsPlan, PlanOf}
use Rattle.oe_check.specs.Links.{links_of}
use Rattle.oe_sources.specs.Catalogue.{Row, cells_asked}
use Rattle.oe_engine.specs.Evaluations.{ReadsForPlan, ReadsForRun, loads_of}

-- counting by index is counting the numbers
fold_map : (g f : ℕ → ℕ) (z : ℕ) (xs : List ℕ) → fold (λ a x. a + g x) z (map f xs) ≡ fold (λ a i. a + g (f i)) z xs
fold_map g f z [] = refl
fold_map g f z (i ∷ xs) = fold_map g f (z + g (f i)) xs

pub by_index : (p : ℕ → Bool) (xs : List ℕ) → count_by (λ i. p (slice_index xs i)) (range_with_len 0 (length xs)) ≡ count_by p xs
by_index p xs =
    let filled : xs ≡ map (slice_index xs) (range_with_len 0 (length xs)) =
    fill_by_all (slice_index xs) xs (length xs) 0 refl (λ k below. refl) in
    sym (ap (count_by p) filled ∙ fold_map (λ x. cond (p x) 1 0) (slice_index xs) 0 (range_with_len 0 (length xs)))

-- a plan has as many steps that load a collection as its graph
pub load_count_is : (p : PlanOf) → IsPlan p → load_count p ≡ loads_of p.graph
load_count_is p is =
    ap (λ (steps : List ℕ). count_by (λ step. is_load (links_of p.graph.nodes) (slice_index steps step)) (range_with_len 0 (length steps))) is.steps_are
    ∙ by_index (is_load (links_of p.graph.nodes)) (steps_of p.graph)

pub reads_for_run : (p : PlanOf) → IsPlan p → (rows rows_after : List Row) → ReadsForPlan p rows rows_after
    → ReadsForRun p.graph p.size rows rows_after
reads_for_run p is rows rows_after reads = record {
  read = reads.read;
  asked = subst (λ (loads : ℕ). cells_asked rows_after ≤ cells_asked rows + chunks_of p.graph p.size * (loads * largest_window p.graph p.size))
      (load_count_is p is) reads.asked;
}
