-- What reads of collections leave of what a catalogue gives.
use Rattle.std.proofs.Common.{◌≡◌, ℕ, Bool, true, false, cond, List, [], ◌∷◌, map, unwrap_or, Option, Some, IsSome, refl, sym, ap, ◌∙◌, subst}
use Rattle.std.specs.Option.{option_and_then}
use Rattle.std.proofs.Math.Path.{fun_ext}
use Rattle.oe_cube.specs.Collections.{Collection}
use Rattle.oe_dims.specs.Names.{same_name}
use Rattle.oe_dims.specs.declared.dims.DimsRow.{DimsRow}
use Rattle.oe_check.specs.Checked.{CheckedGraph}
use Rattle.oe_check.specs.Laws.{AreCollectionsOf}
use Rattle.oe_sources.specs.Catalogue.{Row, row_of}
use Rattle.oe_sources.specs.CatalogueDims.{dims_of, dims_row, put_row, put_rows}
use Rattle.oe_sources.specs.Source.{Source, collection_of}
use Rattle.oe_steps.specs.Collections.{Shows, without_counts}
use Rattle.oe_engine.specs.Laws.{GivesCollections, LoadsVisible, collection_at, collection_named_by, collections_of, null_collection}
use Rattle.oe_steps.proofs.ReadLemmas.{mounted_same, shows_same, source_same}

dims_without : (done : List DimsRow) (rows : List Row) → put_rows done (map without_counts rows) ≡ put_rows done rows
dims_without done [] = refl
dims_without done (row ∷ rows) = dims_without (put_row (dims_row row) done) rows

pub collection_without : (rows : List Row) (id : List ℕ) → collection_at (map without_counts rows) id ≡ collection_at rows id
collection_without [] id = refl
collection_without (row ∷ rows) id = by (same_name row.id id) (collection_without rows id)
  where
    by : (same : Bool) → collection_at (map without_counts rows) id ≡ collection_at rows id
        → option_and_then (λ (r : Row). collection_of r.source) (cond same (Some (without_counts row)) (row_of (map without_counts rows) id))
        ≡ option_and_then (λ (r : Row). collection_of r.source) (cond same (Some row) (row_of rows id))
    by true rest = refl
    by false rest = rest

module _ (before after : List Row) (same : map without_counts after ≡ map without_counts before) where
  pub dims_same : dims_of after ≡ dims_of before
  dims_same = sym (dims_without [] after) ∙ (ap dims_of same ∙ dims_without [] before)

  named_same : (row : DimsRow) → collection_named_by after row ≡ collection_named_by before row
  named_same row =
      ap (λ (o : Option Collection). (row.id, unwrap_or o (null_collection row)))
      (sym (collection_without after row.id) ∙ (ap (λ (rows : List Row). collection_at rows row.id) same ∙ collection_without before row.id))

  collections_same : collections_of after ≡ collections_of before
  collections_same = ap (λ named. map named (dims_of after)) (fun_ext named_same) ∙ ap (map (collection_named_by before)) dims_same

  loads_same : (c : CheckedGraph) → LoadsVisible c after → LoadsVisible c before
  loads_same c visible step id index loaded mounted =
      subst (λ (s : Source). IsSome s.contents) (source_same before after same index)
      (visible step id index loaded (mounted_same before after same c id index mounted))

  pub given_same : GivesCollections before → GivesCollections after
  given_same given = record {
    valid = λ c rows. subst (AreCollectionsOf c) (sym collections_same) (given.valid c (rows ∙ dims_same));
    shown = λ c rows visible. subst (Shows c after) (sym collections_same)
        (shows_same c before after same (collections_of before) (given.shown c (rows ∙ dims_same) (loads_same c visible)));
  }
