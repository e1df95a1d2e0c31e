use Rattle.std.proofs.Common.{◌≡◌, not, refl, Some, None, Option, ℕ, List, sym, ap, ◌∙◌, map, option_map}
use Rattle.std.specs.List.{list_any}
use Rattle.oe_dims.specs.Plain.{PlainLabels, plain_labels}
use Rattle.oe_expr.specs.PlainRequests.{plain_label}
use Rattle.oe_expr.specs.Rows.{has_no_element, listing_of_labels}
use Rattle.oe_expr.specs.Scope.{Label, labels_in}
use Rattle.oe_expr.specs.declared.scope.ListPart.{ListPart}
use Rattle.oe_expr.proofs.LackLemmas.{any_lacks_index, any_lacks_label, any_lacks_both, any_true, is_outside}
use Rattle.oe_expr.proofs.labels.lists_lack.Goals as goal

-- what the arguments are
restated : (labels : PlainLabels) (lists : List ListPart) (i j : Option ℕ) (l m : Option Label) → i ≡ j → l ≡ m
    → list_any (has_no_element j m) (map (λ (part : ListPart). listing_of_labels (labels_in labels part)) lists)
    ≡ list_any (has_no_element i l) (map (λ (part : ListPart). listing_of_labels (labels_in labels part)) lists)
restated labels lists i j l m same_index same_label = rw (same_index, same_label) refl

pub returns-in-Some : goal.returns-in-Some
returns-in-Some c =
    let labels = plain_labels c.args.labels.now in
    let lists = c.args.lists.now in
    c.any_list_ends_before.ensures
    ∙ (sym (any_lacks_index labels lists c.requires c.in-Some.index (option_map plain_label c.args.label))
    ∙ ap (λ i. list_any (has_no_element i (option_map plain_label c.args.label)) (map (λ (part : ListPart). listing_of_labels (labels_in labels part)) lists)) (sym c.in-Some.is))

pub returns-in-Some-label_index : goal.returns-in-Some-label_index
returns-in-Some-label_index c =
    let labels = plain_labels c.args.labels.now in
    let lists = c.args.lists.now in
    let label = plain_label c.in-Some-label.label in
    let found = sym c.label_index.ensures ∙ c.in-Some-label_index.is in
    c.any_list_is_without.ensures
    ∙ (sym (ap (λ o. list_any (λ (part : ListPart). is_outside o part.from part.to) lists) found)
    ∙ (sym (any_lacks_label labels lists c.requires label)
    ∙ restated labels lists c.args.index None (option_map plain_label c.args.label) (Some label) c.in-None.is (ap (option_map plain_label) c.in-Some-label.is)))

pub returns-in-None-label_index : goal.returns-in-None-label_index
returns-in-None-label_index c =
    let labels = plain_labels c.args.labels.now in
    let lists = c.args.lists.now in
    let label = plain_label c.in-Some-label.label in
    let found = sym c.label_index.ensures ∙ c.in-None-label_index.is in
    ap not c.is_empty.ensures
    ∙ (sym (any_true lists)
    ∙ (sym (ap (λ o. list_any (λ (part : ListPart). is_outside o part.from part.to) lists) found)
    ∙ (sym (any_lacks_label labels lists c.requires label)
    ∙ restated labels lists c.args.index None (option_map plain_label c.args.label) (Some label) c.in-None.is (ap (option_map plain_label) c.in-Some-label.is))))

pub returns-in-None-label : goal.returns-in-None-label
returns-in-None-label c =
    let labels = plain_labels c.args.labels.now in
    let lists = c.args.lists.now in
    ap not c.is_empty-in-None-label.ensures
    ∙ (sym (any_true lists)
    ∙ (sym (any_lacks_both labels lists c.requires)
    ∙ restated labels lists c.args.index None (option_map plain_label c.args.label) None c.in-None.is (ap (option_map plain_label) c.in-None-label.is)))
