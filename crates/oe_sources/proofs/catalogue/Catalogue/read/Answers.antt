use Rattle.std.proofs.Common.{◌≤◌, length, set, ap, ◌∙◌, subst, refl, arith}
use Rattle.std.specs.List.{list_all}
use Rattle.std.proofs.lemmas.List.{length-set}
use Rattle.oe_dims.specs.Dimensions.{all_differ}
use Rattle.oe_dims.specs.Names.{is_name}
use Rattle.oe_sources.specs.Source.{Source}
use Rattle.oe_sources.specs.declared.catalogue.Mounted.{Mounted}
use Rattle.oe_window.specs.Windows.{Holds, whole_window}
use Rattle.oe_sources.proofs.CatalogueLemmas.{ids_set, item_within, reads_row, source_shown}
use Rattle.oe_sources.proofs.catalogue.Catalogue.read.Goals as goal

pub read_kept-requires-clause-inside : goal.read_kept-requires-clause-inside
read_kept-requires-clause-inside g c =
    subst (λ (s : Source). Holds (whole_window s.shape) c.args.window.now)
    (source_shown _ _ c.args.self.now.rows.items c.args.place c.index_mut-row.result.now c.requires.mounted c.index_mut-row.ensures.value)
    c.requires.inside

pub invariant_of-self : goal.invariant_of-self
invariant_of-self g c =
    let items = c.args.self.now.rows.items in
    let row = c.index_mut-row.result.now in
    let new : Mounted _ = record { id = row.id; cube = c.read_kept.new.cube } in
    let ids = ids_set items c.args.place row new (item_within _ _ items c.args.place c.requires.mounted) c.index_mut-row.ensures.value refl in
    let few : length (set items c.args.place new) ≤ 64 = omega (arith, length-set items c.args.place new, c.args.self.now.few) in
    record {
      few = few;
      valid = ap (list_all is_name) ids ∙ c.args.self.now.valid;
      different = ap all_differ ids ∙ c.args.self.now.different;
    }

pub returns-clause-read : goal.returns-clause-read
returns-clause-read g c =
    reads_row _ _ c.args.self.now.rows.items c.args.place c.index_mut-row.result.now (record { id = c.index_mut-row.result.now.id; cube = c.read_kept.new.cube })
    c.args.window.now c.read_kept.new.into c.read_kept.result c.requires.mounted c.index_mut-row.ensures.value refl c.read_kept.ensures.boxed c.read_kept.ensures.reads
