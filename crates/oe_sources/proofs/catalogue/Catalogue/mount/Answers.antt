use Rattle.std.proofs.Common.{◌≡◌, ◌<◌, ◌≤◌, [], ◌∷◌, List, length, length-append, true, false, is_some, sym, ap, ◌∙◌, arith}
use Rattle.std.specs.List.{list_all}
use Rattle.oe_dims.specs.Dimensions.{all_differ}
use Rattle.oe_dims.specs.Names.{is_name}
use Rattle.oe_sources.specs.Catalogue.{mounted_ids, mounted_index}
use Rattle.oe_sources.specs.declared.catalogue.Kept.TheVariants.{Boxed}
use Rattle.oe_sources.specs.declared.catalogue.Mounted.{Mounted}
use Rattle.oe_sources.proofs.CatalogueLemmas.{after_push, all_append, differ_append, is_mounted_shown, not_found, refused_full, refused_nowhere, refused_taken}
use Rattle.oe_sources.proofs.catalogue.Catalogue.mount.Goals as goal

pub returns-then-is_some-clause-refused : goal.returns-then-is_some-clause-refused
returns-then-is_some-clause-refused g c =
    let items = c.args.self.now.rows.items in
    let name : is_name c.args.id.now ≡ true = sym c.is_name.ensures ∙ c.if-not-is_name.false in
    let found : is_some (mounted_index items c.args.id.now) ≡ true = rw c.as_slice.ensures.value at (ap is_some (sym c.index_of.ensures) ∙ sym c.is_some.ensures ∙ c.if-is_some.true) in
    refused_taken _ c.args.id.now name (is_mounted_shown _ _ items c.args.id.now ∙ found)

pub returns-then-len-ge-MOST_COLLECTIONS-clause-refused : goal.returns-then-len-ge-MOST_COLLECTIONS-clause-refused
returns-then-len-ge-MOST_COLLECTIONS-clause-refused g c =
    let items = c.args.self.now.rows.items in
    let name : is_name c.args.id.now ≡ true = sym c.is_name.ensures ∙ c.if-not-is_name.false in
    let free : is_some (mounted_index items c.args.id.now) ≡ false = rw c.as_slice.ensures.value at (ap is_some (sym c.index_of.ensures) ∙ sym c.is_some.ensures ∙ c.if-is_some.false) in
    refused_full _ _ items c.args.id.now name free (omega (arith, ap length c.as_slice.ensures.value, c.as_slice.ensures.len, c.len.ensures, c.if-len-ge-MOST_COLLECTIONS.true))

pub invariant_of-self : goal.invariant_of-self
invariant_of-self g c =
    let items = c.args.self.now.rows.items in
    let new : Mounted _ = record { id = c.args.id.now; cube = Boxed c.args.cube } in
    let name : is_name c.args.id.now ≡ true = sym c.is_name.ensures ∙ c.if-not-is_name.false in
    let free : is_some (mounted_index items c.args.id.now) ≡ false = rw c.as_slice.ensures.value at (ap is_some (sym c.index_of.ensures) ∙ sym c.is_some.ensures ∙ c.if-is_some.false) in
    let below : length items < 64 = omega (arith, ap length c.as_slice.ensures.value, c.as_slice.ensures.len, c.len.ensures, c.if-len-ge-MOST_COLLECTIONS.false) in
    let few : length c.push_box.new.rows.items ≤ 64 =
    after_push (λ (xs : List (Mounted _)). length xs ≤ 64) items c.push_box.new.rows.items new c.push_box.result c.push_box.ensures.added c.push_box.ensures.kept
    (omega (arith, length-append items (new ∷ []), below)) c.args.self.now.few in
    record {
      few = few;
      valid = after_push (λ (xs : List (Mounted _)). list_all is_name (mounted_ids xs) ≡ true) items c.push_box.new.rows.items new c.push_box.result c.push_box.ensures.added c.push_box.ensures.kept
          (all_append is_name (λ (m : Mounted _). m.id) items new c.args.self.now.valid name) c.args.self.now.valid;
      different = after_push (λ (xs : List (Mounted _)). all_differ (mounted_ids xs) ≡ true) items c.push_box.new.rows.items new c.push_box.result c.push_box.ensures.added c.push_box.ensures.kept
          (differ_append items new c.args.self.now.different (not_found _ free)) c.args.self.now.different;
    }

pub returns-in-Ok-clause-allowed : goal.returns-in-Ok-clause-allowed
returns-in-Ok-clause-allowed g c =
    let items = c.args.self.now.rows.items in
    let name : is_name c.args.id.now ≡ true = sym c.is_name.ensures ∙ c.if-not-is_name.false in
    let free : is_some (mounted_index items c.args.id.now) ≡ false = rw c.as_slice.ensures.value at (ap is_some (sym c.index_of.ensures) ∙ sym c.is_some.ensures ∙ c.if-is_some.false) in
    sym (refused_nowhere _ _ items c.args.id.now name free (omega (arith, ap length c.as_slice.ensures.value, c.as_slice.ensures.len, c.len.ensures, c.if-len-ge-MOST_COLLECTIONS.false)))

pub returns-in-Err-clause-refused : goal.returns-in-Err-clause-refused
returns-in-Err-clause-refused g c =
    let items = c.args.self.now.rows.items in
    let name : is_name c.args.id.now ≡ true = sym c.is_name.ensures ∙ c.if-not-is_name.false in
    let free : is_some (mounted_index items c.args.id.now) ≡ false = rw c.as_slice.ensures.value at (ap is_some (sym c.index_of.ensures) ∙ sym c.is_some.ensures ∙ c.if-is_some.false) in
    refused_nowhere _ _ items c.args.id.now name free (omega (arith, ap length c.as_slice.ensures.value, c.as_slice.ensures.len, c.len.ensures, c.if-len-ge-MOST_COLLECTIONS.false))
