use Rattle.std.proofs.Common.{map, Some, sym, ap, ◌∙◌}
use Rattle.oe_pages.proofs.PageLemmas.{values_back}
use Rattle.serde_json.proofs.Views.{view-Array}
use Rattle.serde_json.specs.View.{view}
use Rattle.oe_client.specs.Pages.{items_of}
use Rattle.oe_client.proofs.pages.items_of.Goals as goal

pub returns-in-Array : goal.returns-in-Array
returns-in-Array c =
    ap Some (ap (map view) c.as_slice.ensures.value ∙ sym (values_back (map view c.in-Array.items.items)))
    ∙ sym (ap (λ v. items_of (view v)) c.in-Array.is ∙ ap items_of (view-Array c.in-Array.items))
