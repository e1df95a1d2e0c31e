use Rattle.std.proofs.Common.{◌≤◌, length, set, ap, ◌∙◌, false, refl, arith}
use Rattle.std.specs.List.{list_all}
use Rattle.std.proofs.lemmas.List.{length-set}
use Rattle.oe_dims.specs.Dimensions.{all_differ}
use Rattle.oe_dims.specs.Names.{is_name}
use Rattle.oe_sources.specs.declared.catalogue.Mounted.{Mounted}
use Rattle.oe_sources.proofs.CatalogueLemmas.{counts_row, ids_set, item_within}
use Rattle.oe_sources.proofs.catalogue.Catalogue.ask.Goals as goal

pub invariant_of-self : goal.invariant_of-self
invariant_of-self g c =
    let items = c.args.self.now.rows.items in
    let row = c.index_mut-row.result.now in
    let new : Mounted _ = record { id = row.id; cube = c.count_kept.new.cube } in
    let ids = ids_set items c.args.place row new (item_within _ _ items c.args.place c.requires.mounted) c.index_mut-row.ensures.value refl in
    let few : length (set items c.args.place new) ≤ 64 = omega (arith, length-set items c.args.place new, c.args.self.now.few) in
    record {
      few = few;
      valid = ap (list_all is_name) ids ∙ c.args.self.now.valid;
      different = ap all_differ ids ∙ c.args.self.now.different;
    }

pub returns-clause-asked : goal.returns-clause-asked
returns-clause-asked g c =
    counts_row _ _ c.args.self.now.rows.items c.args.place c.index_mut-row.result.now (record { id = c.index_mut-row.result.now.id; cube = c.count_kept.new.cube })
    c.args.cells false c.requires.mounted c.index_mut-row.ensures.value refl c.count_kept.ensures.boxed c.count_kept.ensures.counts
