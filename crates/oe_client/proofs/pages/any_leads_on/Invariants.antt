use Rattle.std.proofs.Common.{◌≡◌, drop, map}
use Rattle.std.specs.List.{list_any}
use Rattle.serde_json.specs.View.{view}
use Rattle.oe_client.specs.Pages.{leads_on}
use Rattle.oe_client.proofs.pages.any_leads_on.Given as goal

abbrev pub invariant-loop-link : goal.invariant-loop-link
invariant-loop-link l =
    list_any leads_on (map view l.links) ≡ list_any leads_on (map view (drop l.link-index l.links))
