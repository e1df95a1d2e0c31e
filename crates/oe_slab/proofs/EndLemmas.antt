-- A run at its begin and at its end.
use Rattle.std.proofs.Common.{◌≡◌, ℕ, sym, subst}
use Rattle.oe_dims.specs.Positions.{IsPosition, Position}
use Rattle.oe_spool.specs.Least.{IsLeastOver}
use Rattle.oe_spool.specs.Spooled.{IsInSome}
use Rattle.oe_spool.proofs.LeastLemmas.{least_of_windows}
use Rattle.oe_spool.proofs.ChunkLists.{all_inside, chunks_inside}
use Rattle.oe_slab.specs.Laws.{BeginAndEnd}
use Rattle.oe_slab.specs.Runs.{SlabRunOf, chunks_from, result_cube, result_shape}
use Rattle.oe_slab.proofs.RenderLemmas.{result_shape_is, result_whole}
use Rattle.oe_slab.proofs.GridLemmas.{has_sides}

no_chunk : (r : SlabRunOf) → r.done ≡ 0 → (q : Position) → IsInSome (chunks_from r.plan 0 r.done) q → ⊥
no_chunk r done q h = subst (λ (n : ℕ). IsInSome (chunks_from r.plan 0 n) q) done h

pub begin_and_end : BeginAndEnd
begin_and_end = record {
  begun = λ r done over store. (
    λ q h. absurd (no_chunk r done q h),
    λ cube. record {
      records = λ q h. absurd (no_chunk r done q h);
      valid = λ q h. absurd (no_chunk r done q h);
      least = subst (IsLeastOver cube (IsInSome (chunks_from r.plan 0 r.done))) (sym over) (λ q h. absurd (no_chunk r done q h));
    },
  );
  over = λ r store collections is has complete done.
      let p = r.plan in
      let cube = result_cube collections p in
      let of_shape = result_shape_is p is collections has in
      least_of_windows cube (chunks_from p 0 r.done) r.over (result_whole p is collections has)
      (λ q h. subst (λ d. IsPosition d q) (sym of_shape) (chunks_inside (result_shape p) p.size (has_sides p is) 0 r.done q h))
      (λ q h. subst (λ (n : ℕ). IsInSome (chunks_from p 0 n) q) (sym complete) (all_inside (result_shape p) p.size (has_sides p is) q (subst (λ d. IsPosition d q) of_shape h)))
      done.least;
}
