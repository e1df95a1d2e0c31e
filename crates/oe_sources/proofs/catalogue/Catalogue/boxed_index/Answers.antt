use Rattle.std.proofs.Common.{◌≡◌, ◌<◌, length, Some, None, true, subst, sym, ap, ◌∙◌}
use Rattle.oe_sources.specs.Catalogue.{is_boxed, mounted_index}
use Rattle.oe_sources.specs.declared.catalogue.Mounted.{Mounted}
use Rattle.oe_sources.proofs.CatalogueLemmas.{at_item, index_within, no_box_here, no_box_missing}
use Rattle.oe_sources.proofs.catalogue.Catalogue.boxed_index.Goals as goal

pub returns-in_err-index-clause-none : goal.returns-in_err-index-clause-none
returns-in_err-index-clause-none g c =
    let items = c.args.self.now.rows.items in
    let index : mounted_index items c.args.id.now ≡ None = rw c.as_slice.ensures.value at (sym c.index_of.ensures ∙ c.in_err-index.was) in
    rw c.from_residual.ensures (no_box_missing _ _ items c.args.id.now index)

pub index-requires : goal.index-requires
index-requires g c =
    let items = c.args.self.now.rows.items in
    let index : mounted_index items c.args.id.now ≡ Some c.in_ok-index.index = rw c.as_slice.ensures.value at (sym c.index_of.ensures ∙ c.in_ok-index.was) in
    subst (λ n. c.in_ok-index.index < n) (sym (ap length c.as_slice.ensures.value) ∙ c.as_slice.ensures.len) (index_within items c.args.id.now c.in_ok-index.index index)

pub returns-then-is_boxed-clause-within : goal.returns-then-is_boxed-clause-within
returns-then-is_boxed-clause-within g c =
    let items = c.args.self.now.rows.items in
    let index : mounted_index items c.args.id.now ≡ Some c.in_ok-index.index = rw c.as_slice.ensures.value at (sym c.index_of.ensures ∙ c.in_ok-index.was) in
    subst (λ n. c.in_ok-index.index < n) (sym (ap length c.as_slice.ensures.value) ∙ c.as_slice.ensures.len) (index_within items c.args.id.now c.in_ok-index.index index)

pub returns-then-is_boxed-clause-boxed : goal.returns-then-is_boxed-clause-boxed
returns-then-is_boxed-clause-boxed g c =
    let items = c.args.self.now.rows.items in
    let index : mounted_index items c.args.id.now ≡ Some c.in_ok-index.index = rw c.as_slice.ensures.value at (sym c.index_of.ensures ∙ c.in_ok-index.was) in
    at_item (λ (m : Mounted _). is_boxed m.cube ≡ true) items c.in_ok-index.index c.index.result.now (index_within items c.args.id.now c.in_ok-index.index index) c.index.ensures
    (sym c.is_boxed.ensures ∙ c.if-is_boxed.true)

pub returns-else-is_boxed-clause-none : goal.returns-else-is_boxed-clause-none
returns-else-is_boxed-clause-none g c =
    let items = c.args.self.now.rows.items in
    let index : mounted_index items c.args.id.now ≡ Some c.in_ok-index.index = rw c.as_slice.ensures.value at (sym c.index_of.ensures ∙ c.in_ok-index.was) in
    no_box_here _ _ items c.args.id.now c.in_ok-index.index c.index.result.now index (sym c.index.ensures) (sym c.is_boxed.ensures ∙ c.if-is_boxed.false)
