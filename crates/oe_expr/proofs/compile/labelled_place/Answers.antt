use Rattle.std.proofs.Common.{◌≡◌, ◌<◌, Some, sym, ◌∙◌, arith, rules}
use Rattle.oe_dims.specs.Plain.{plain_labels}
use Rattle.oe_expr.specs.PlainRequests.{plain_label}
use Rattle.oe_expr.specs.Scope.{count_labels, label_index}
use Rattle.oe_expr.proofs.LabelLemmas.{label_within}
use Rattle.oe_expr.proofs.compile.labelled_place.Goals as goal

pub overflow_cast-result : goal.overflow_cast-result
overflow_cast-result c =
    let labels = plain_labels c.in-Reduce.labels in
    let label = plain_label c.args.label in
    let found : label_index labels label ≡ Some c.in-Some.index = sym c.label_index.ensures ∙ c.in-Some.is in
    let within : c.in-Some.index < count_labels labels = label_within labels label c.in-Some.index found in
    let lists = rw c.in-Reduce.is at c.requires in
    let few : count_labels labels < 4294967296 = lists.few_labels in
    let fits : c.in-Some.index < 4294967296 = omega arith in
    search rules
