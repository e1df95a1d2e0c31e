use Rattle.std.proofs.Common.{map, sym, ap, ◌∙◌}
use Rattle.serde_json.proofs.Views.{view-Array}
use Rattle.serde_json.specs.View.{view}
use Rattle.oe_pages.specs.Pages.{items_at}
use Rattle.oe_pages.proofs.PageLemmas.{values_back}
use Rattle.oe_pages.proofs.pages.items_of.Goals as goal

pub returns-in-Array : goal.returns-in-Array
returns-in-Array c =
    ap (map view) c.as_slice.ensures.value ∙ sym (values_back (map view c.in-Array.items.items))
    ∙ sym (ap (λ v. items_at (view v)) c.in-Array.is ∙ ap items_at (view-Array c.in-Array.items))
