use Rattle.std.proofs.Common.{◌≤◌, length, set, sym, ap, ◌∙◌, arith, refl}
use Rattle.std.specs.List.{list_all}
use Rattle.std.proofs.lemmas.List.{length-set}
use Rattle.oe_dims.specs.Dimensions.{all_differ}
use Rattle.oe_dims.specs.Names.{is_name}
use Rattle.oe_sources.specs.declared.catalogue.Mounted.{Mounted}
use Rattle.oe_sources.proofs.CatalogueLemmas.{box_at_index, ids_set, index_within, no_generated, replaced_sealed}
use Rattle.oe_sources.proofs.catalogue.Catalogue.replace.Goals as goal

pub index_mut-row-requires : goal.index_mut-row-requires
index_mut-row-requires g c = c.in-Some.ensures.within

pub invariant_of-self : goal.invariant_of-self
invariant_of-self g c =
    let items = c.args.self.now.rows.items in
    let k = c.in-Some.index in
    let row = c.index_mut-row.result.now in
    let new : Mounted _ = record { id = row.id; cube = c.replace.new.dest } in
    let ids = ids_set items k row new (index_within items c.args.id.now k c.in-Some.ensures.index) c.index_mut-row.ensures.value refl in
    let few : length (set items k new) ≤ 64 = omega (arith, length-set items k new, c.args.self.now.few) in
    record {
      few = few;
      valid = ap (list_all is_name) ids ∙ c.args.self.now.valid;
      different = ap all_differ ids ∙ c.args.self.now.different;
    }

pub unreachable-requires : goal.unreachable-requires
unreachable-requires g c =
    let items = c.args.self.now.rows.items in
    let k = c.in-Some.index in
    no_generated items k c.index_mut-row.result.now c.in-Generated.field-0 (index_within items c.args.id.now k c.in-Some.ensures.index) c.index_mut-row.ensures.value c.in-Some.ensures.boxed
    (sym c.replace.ensures.value ∙ c.in-Generated.is)

pub returns-clause-handed : goal.returns-clause-handed
returns-clause-handed g c =
    box_at_index _ _ c.args.self.now.rows.items c.args.id.now c.in-Some.index c.index_mut-row.result.now c.in-Boxed.old c.in-Some.ensures.index c.index_mut-row.ensures.value
    (sym c.replace.ensures.value ∙ c.in-Boxed.is)

pub returns-clause-replaced : goal.returns-clause-replaced
returns-clause-replaced g c =
    let items = c.args.self.now.rows.items in
    let row = c.index_mut-row.result.now in
    replaced_sealed _ c.args.self.now.seal _ items c.args.id.now c.in-Some.index row (record { id = row.id; cube = c.replace.new.dest }) c.args.cube
    c.in-Some.ensures.index c.args.self.now.different c.index_mut-row.ensures.value refl c.replace.ensures.after c.in-Some.ensures.boxed
