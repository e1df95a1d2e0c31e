-- However the chunks of a run are dealt out to parts, these are a whole, and what is joined of them is what the run writes.
use Rattle.std.proofs.Common.{◌≡◌, ℕ, List, slice_get, option_map, Option, Some, None, refl, sym, ap, ◌∙◌, subst}
use Rattle.std.proofs.lemmas.Option.{none-some, same_Some, slice_get-map}
use Rattle.oe_engine.specs.Laws.{collections_of}
use Rattle.oe_engine.specs.Results.{result_of}
use Rattle.oe_parts.specs.Head.{PartHead}
use Rattle.oe_parts.specs.Parts.{PartState, ShowPartsOf, heads_of}
use Rattle.oe_parts.specs.Whole.{IsOfRun}
use Rattle.oe_plan.specs.Figures.{shape_of_node}
use Rattle.oe_check.proofs.CheckedLemmas.{give_cubes}
use Rattle.oe_check.specs.Checked.{AreFaultless, CheckedGraph}
use Rattle.oe_check.specs.Laws.{AreCollectionsOf, IsCubeOfNode, meaning_of_node}
use Rattle.oe_requests.specs.Operations.{Outline}
use Rattle.oe_sources.specs.Catalogue.{Row}
use Rattle.oe_window.specs.declared.grid.ChunkSize.{ChunkSize}
use Rattle.oe_top.specs.JoinAnswer.{outline_of_run}
use Rattle.oe_top.specs.Joined.{ArePartsOfMeaning, JoinedIsRun}

-- ---- the heads of parts

-- the part that has the head at an index
part_at : (parts : List PartState) (index : ℕ) (head : PartHead) → slice_get (heads_of parts) index ≡ Some head
    → (part : PartState) × (slice_get parts index ≡ Some part) × (part.head ≡ head)
part_at parts index head at = by (slice_get parts index) refl (sym (slice_get-map (λ (part : PartState). part.head) parts index) ∙ at)
  where
    by : (found : Option PartState) → slice_get parts index ≡ found → option_map (λ (part : PartState). part.head) found ≡ Some head
        → (part : PartState) × (slice_get parts index ≡ Some part) × (part.head ≡ head)
    by None e same = absurd (none-some head same)
    by (Some part) e same = (part, e, same_Some part.head head same)

-- ---- the law

module _ (rows : List Row) (written : List ℕ) (c : CheckedGraph) (size : ChunkSize) (parts : List PartState)
    (are : ArePartsOfMeaning rows written c size parts) where
  of_run : (index : ℕ) (head : PartHead) → slice_get (heads_of parts) index ≡ Some head → IsOfRun (outline_of_run written c) size head
  of_run index head at =
      let found = part_at parts index head at in
      let is = (are index found.0 found.1).head_is in
      subst (IsOfRun (outline_of_run written c) size) found.2 (record {
        graph = ap (λ (h : PartHead). h.graph) is;
        kind = ap (λ (h : PartHead). h.kind) is;
        shape = ap (λ (h : PartHead). h.shape) is;
        sides_are = ap (λ (h : PartHead). h.sides) is;
      })

  shown : ShowPartsOf (result_of rows c) parts
  shown index part at = (are index part at).shows

-- the cube that the graph means over the catalogue
result_cube : (rows : List Row) (c : CheckedGraph) → AreFaultless c → AreCollectionsOf c (collections_of rows)
    → IsCubeOfNode c c.result (meaning_of_node (collections_of rows) c c.result)
result_cube rows c faultless are = give_cubes.cube c faultless (collections_of rows) are c.result faultless.has_result

pub joined_is_run : JoinedIsRun
joined_is_run rows written c size parts faultless collections sides are tile =
    let cube : IsCubeOfNode c c.result (meaning_of_node (collections_of rows) c c.result) = result_cube rows c faultless collections in
    let of_shape : (result_of rows c).shape ≡ shape_of_node c c.result = ap (λ (o : Outline). o.shape) cube.outline_is in
    let shows : ShowPartsOf (result_of rows c) parts = shown rows written c size parts are in (
      record {
        sides = size;
        of_run = record { valid = sides; each = of_run rows written c size parts are };
        tile = tile;
      },
      λ before after visible writes. (
        writes.numbers (result_of rows c) cube.counted of_shape shows,
        writes.text visible (result_of rows c) cube.counted of_shape shows,
      ),
    )
