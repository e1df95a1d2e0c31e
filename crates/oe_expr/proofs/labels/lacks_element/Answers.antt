use Rattle.std.proofs.Common.{◌≡◌, Option, ℕ, Vec, Global, sym, ap, ◌∙◌, map, option_map}
use Rattle.std.specs.List.{list_any}
use Rattle.oe_dims.specs.Plain.{plain_labels}
use Rattle.oe_dims.specs.declared.kind.CellKind.{CellKind}
use Rattle.oe_dims.specs.declared.kind.Labels.{Labels}
use Rattle.oe_expr.specs.PlainRequests.{plain_items, plain_label}
use Rattle.oe_expr.specs.Rows.{has_no_element, listing_of_labels, listings}
use Rattle.oe_expr.specs.Scope.{Label, labels_in, plain_scope}
use Rattle.oe_expr.specs.declared.request.Items.{Items}
use Rattle.oe_expr.specs.declared.request.Items.TheVariants.{Data}
use Rattle.oe_expr.specs.declared.scope.ListPart.{ListPart}
use Rattle.oe_expr.specs.declared.scope.Scope.{Scope}
use Rattle.oe_expr.specs.declared.scope.Scope.TheVariants.{Reduce}
use Rattle.oe_expr.proofs.LackLemmas.{each_list}
use Rattle.oe_expr.proofs.labels.lacks_element.Goals as goal

-- the lists of a reduction
reduced : (scope : Scope) (items : Items) (cells : CellKind) (labels : Labels) (lists : Vec ListPart Global) (index : Option ℕ) (label : Option Label)
    → scope ≡ Reduce cells labels lists → items ≡ Data
    → list_any (has_no_element index label) (map (λ (part : ListPart). listing_of_labels (labels_in (plain_labels labels) part)) lists.items)
    ≡ list_any (has_no_element index label) (listings (plain_scope scope) (plain_items items))
reduced scope items cells labels lists index label is whole = rw (is, whole) (ap (list_any (has_no_element index label)) (sym (each_list (plain_labels labels) lists.items)))

pub returns-in-Reduce : goal.returns-in-Reduce
returns-in-Reduce c =
    let label = option_map plain_label c.args.label in
    c.lists_lack.ensures
    ∙ (ap (λ lists. list_any (has_no_element c.args.index label) (map (λ (part : ListPart). listing_of_labels (labels_in (plain_labels c.in-Reduce.labels) part)) lists)) c.deref.ensures.value
    ∙ reduced c.args.scope.now c.args.items.now c.in-Reduce.cells c.in-Reduce.labels c.in-Reduce.lists c.args.index label c.in-Reduce.is c.in-Data.is)
