use Rattle.std.proofs.Common.{◌<◌, ◌≤◌, length, ap, ◌∙◌, arith}
use Rattle.std.proofs.lemmas.List.Edits.{length-remove}
use Rattle.oe_dims.specs.Names.{is_name}
use Rattle.oe_sources.specs.declared.catalogue.Mounted.{Mounted}
use Rattle.oe_sources.proofs.CatalogueLemmas.{all_remove, box_at_index, detached_sealed, differ_remove, index_within, no_generated}
use Rattle.oe_sources.proofs.catalogue.Catalogue.detach.Goals as goal

pub remove-cube-requires : goal.remove-cube-requires
remove-cube-requires g c = c.in_ok-index.ensures.within

pub invariant_of-self : goal.invariant_of-self
invariant_of-self g c =
    let items = c.args.self.now.rows.items in
    let k = c.in_ok-index.index in
    let within : k < length items = index_within items c.args.id.now k c.in_ok-index.ensures.index in
    let few : length c.remove-cube.new.self.items ≤ 64 = omega (arith, ap length c.remove-cube.ensures.items, length-remove items k within, c.args.self.now.few) in
    record {
      few = few;
      valid = rw c.remove-cube.ensures.items (all_remove is_name (λ (m : Mounted _). m.id) items k c.args.self.now.valid);
      different = rw c.remove-cube.ensures.items (differ_remove (λ (m : Mounted _). m.id) items k c.args.self.now.different);
    }

pub unreachable-requires : goal.unreachable-requires
unreachable-requires g c =
    let items = c.args.self.now.rows.items in
    let k = c.in_ok-index.index in
    no_generated items k c.remove-cube.result c.in-Generated.field-0 (index_within items c.args.id.now k c.in_ok-index.ensures.index) c.remove-cube.ensures.value c.in_ok-index.ensures.boxed c.in-Generated.is

pub returns-clause-handed : goal.returns-clause-handed
returns-clause-handed g c =
    box_at_index _ _ c.args.self.now.rows.items c.args.id.now c.in_ok-index.index c.remove-cube.result c.in-Boxed.cube c.in_ok-index.ensures.index c.remove-cube.ensures.value c.in-Boxed.is

pub returns-clause-gone : goal.returns-clause-gone
returns-clause-gone g c =
    detached_sealed _ c.args.self.now.seal _ c.args.self.now.rows.items c.remove-cube.new.self.items c.args.id.now c.in_ok-index.index
    c.in_ok-index.ensures.index c.args.self.now.different c.remove-cube.ensures.items
