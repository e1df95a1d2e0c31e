use Rattle.std.proofs.Common.{◌≡◌, Some, None, sym, ◌∙◌, arith}
use Rattle.oe_sources.specs.Catalogue.{mounted_index}
use Rattle.oe_sources.proofs.CatalogueLemmas.{index_shown_within, index_within, row_at_index, row_index_shown, row_missing}
use Rattle.oe_sources.proofs.catalogue.Catalogue.place.Goals as goal

pub overflow_cast-result : goal.overflow_cast-result
overflow_cast-result g c =
    let items = c.args.self.now.rows.items in
    let index : mounted_index items c.args.id.now ≡ Some c.in-Some.index = rw c.as_slice.ensures.value at (sym c.index_of.ensures ∙ c.in-Some.is) in
    omega (arith, index_within items c.args.id.now c.in-Some.index index, c.args.self.now.few)

pub returns-in-Some-clause-index : goal.returns-in-Some-clause-index
returns-in-Some-clause-index g c =
    let items = c.args.self.now.rows.items in
    let index : mounted_index items c.args.id.now ≡ Some c.in-Some.index = rw c.as_slice.ensures.value at (sym c.index_of.ensures ∙ c.in-Some.is) in
    sym (row_index_shown _ _ items c.args.id.now ∙ index)

pub returns-in-Some-clause-within : goal.returns-in-Some-clause-within
returns-in-Some-clause-within g c =
    let items = c.args.self.now.rows.items in
    let index : mounted_index items c.args.id.now ≡ Some c.in-Some.index = rw c.as_slice.ensures.value at (sym c.index_of.ensures ∙ c.in-Some.is) in
    index_shown_within _ _ items c.args.id.now c.in-Some.index index

pub returns-in-Some-clause-found : goal.returns-in-Some-clause-found
returns-in-Some-clause-found g c =
    let items = c.args.self.now.rows.items in
    let index : mounted_index items c.args.id.now ≡ Some c.in-Some.index = rw c.as_slice.ensures.value at (sym c.index_of.ensures ∙ c.in-Some.is) in
    row_at_index _ _ items c.args.id.now c.in-Some.index index

pub returns-in-None-clause-index : goal.returns-in-None-clause-index
returns-in-None-clause-index g c =
    let items = c.args.self.now.rows.items in
    let index : mounted_index items c.args.id.now ≡ None = rw c.as_slice.ensures.value at (sym c.index_of.ensures ∙ c.in-None.is) in
    sym (row_index_shown _ _ items c.args.id.now ∙ index)

pub returns-in-None-clause-none : goal.returns-in-None-clause-none
returns-in-None-clause-none g c =
    let items = c.args.self.now.rows.items in
    let index : mounted_index items c.args.id.now ≡ None = rw c.as_slice.ensures.value at (sym c.index_of.ensures ∙ c.in-None.is) in
    row_missing _ _ items c.args.id.now index
