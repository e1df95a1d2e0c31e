-- What the layers above rely on.
use Rattle.std.proofs.Common.{◌≡◌, ℕ, List, [], ◌∷◌, map, refl, sym, ap, ◌∙◌, subst}
use Rattle.std.specs.Option.{option_map_or}
use Rattle.oe_cube.specs.Collections.{Collection}
use Rattle.oe_dims.specs.Positions.{IsPosition, Position}
use Rattle.oe_meanings.specs.Graphs.{Collections}
use Rattle.oe_sources.specs.Catalogue.{Row, collections_shown}
use Rattle.oe_sources.specs.Source.{collection_of}
use Rattle.oe_spool.specs.Least.{IsLeastOver}
use Rattle.oe_spool.specs.Spooled.{IsInSome}
use Rattle.oe_spool.proofs.LeastLemmas.{least_of_windows}
use Rattle.oe_spool.proofs.ChunkLists.{all_inside, chunks_inside}
use Rattle.oe_steps.specs.Collections.{without_counts}
use Rattle.oe_engine.specs.Laws.{AreMounted, AreShown, BeginAndEnd, StayAfterReads}
use Rattle.oe_engine.specs.Runs.{RunOf, chunks_from, result_cube, result_shape}
use Rattle.oe_engine.proofs.CatalogueLemmas.{same_meaning, visible_at}
use Rattle.oe_steps.proofs.MountLemmas.{has_collections}
use Rattle.oe_steps.proofs.ReadLemmas.{AreRead-refl, AreRead-trans, has_same, rose_first, rose_later, says_same, shows_same}
use Rattle.oe_engine.proofs.ReadLemmas.{dims_same, given_same}
use Rattle.oe_engine.proofs.RenderLemmas.{result_shape_is, result_whole}
use Rattle.oe_engine.proofs.GridLemmas.{has_sides}

pub are_mounted : AreMounted
are_mounted p rows is are = has_collections p.graph is.faultless rows are

pub are_shown : AreShown
are_shown = record {
  loads = λ rows visible c step id index loaded mounted. visible_at rows index visible mounted.within;
  meaning = same_meaning;
}

-- ---- reads

shown_without : (rows : List Row) → collections_shown (map without_counts rows) ≡ collections_shown rows
shown_without [] = refl
shown_without (row ∷ rows) =
    ap (λ (rest : Collections). option_map_or (λ (c : Collection). (row.id, c) ∷ rest) (collection_of row.source) rest) (shown_without rows)

pub stay_after_reads : StayAfterReads
stay_after_reads = record {
  none = AreRead-refl;
  both = AreRead-trans;
  mounted = λ c before after read has. has_same before after read.same c has;
  shows = λ c before after read collections. (shows_same c after before (sym read.same) collections, shows_same c before after read.same collections);
  shown = λ before after read. sym (shown_without after) ∙ (ap collections_shown read.same ∙ shown_without before);
  dims = λ before after read. dims_same before after read.same;
  given = λ before after read. given_same before after read.same;
  rose_first = rose_first;
  rose_later = rose_later;
  says = λ c before after read refusal says. says_same c after before (sym read.same) refusal says;
}

-- ---- a run at its begin and at its end

no_chunk : (r : RunOf) → r.done ≡ 0 → (q : Position) → IsInSome (chunks_from r.plan 0 r.done) q → ⊥
no_chunk r done q h = subst (λ (n : ℕ). IsInSome (chunks_from r.plan 0 n) q) done h

pub begin_and_end : BeginAndEnd
begin_and_end = record {
  begun = λ r done over store. (
    λ q h. absurd (no_chunk r done q h),
    λ cube. record {
      records = λ q h. absurd (no_chunk r done q h);
      valid = λ q h. absurd (no_chunk r done q h);
      least = subst (IsLeastOver cube (IsInSome (chunks_from r.plan 0 r.done))) (sym over) (λ q h. absurd (no_chunk r done q h));
    },
  );
  over = λ r store collections is has complete done.
      let p = r.plan in
      let cube = result_cube collections p in
      let of_shape = result_shape_is p is collections has in
      least_of_windows cube (chunks_from p 0 r.done) r.over (result_whole p is collections has)
      (λ q h. subst (λ d. IsPosition d q) (sym of_shape) (chunks_inside (result_shape p) p.size (has_sides p is) 0 r.done q h))
      (λ q h. subst (λ (n : ℕ). IsInSome (chunks_from p 0 n) q) (sym complete) (all_inside (result_shape p) p.size (has_sides p is) q (subst (λ d. IsPosition d q) of_shape h)))
      done.least;
}
