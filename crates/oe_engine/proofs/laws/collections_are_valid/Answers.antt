use Rattle.std.proofs.Common.{◌≡◌, ◌∙◌, List, ℕ, true, map, length, subst, arith}
use Rattle.std.specs.List.{All}
use Rattle.oe_dims.specs.Names.{names_rise}
use Rattle.oe_dims.specs.declared.dims.DimsRow.{DimsRow}
use Rattle.oe_sources.specs.CatalogueDims.{AreDimsOf}
use Rattle.oe_sources.specs.CatalogueRows.{rows_of}
use Rattle.oe_engine.specs.Laws.{HasValid}
use Rattle.oe_engine.proofs.CatalogueLemmas.{gives_collections}
use Rattle.oe_engine.proofs.laws.collections_are_valid.Goals as goal

pub returns : goal.returns
returns g c =
    let rows = rows_of (λ z. (goal.SharedSource-dyn g z).CubeSource.seen z.1) c.args.catalogue.now in
    gives_collections rows
    (subst (λ (dims : List DimsRow). names_rise (map (λ (row : DimsRow). row.id) dims) ≡ true) c.requires.rows c.requires.rising)
    (subst (AreDimsOf rows) c.requires.rows c.requires.found)
    (subst (All (HasValid rows)) (c.deref-row-items.ensures.value ∙ c.requires.rows)
    (λ k d h. c.loop-row.invariant k d (omega (arith, c.loop-row-test.false))))
