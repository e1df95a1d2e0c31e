use Rattle.std.proofs.Common.{◌≡◌, List, [], ◌∷◌, sym, subst, rules}
use Rattle.oe_dims.specs.Plain.{PlainLabels}
use Rattle.oe_expr.specs.Scope.{AreLists, count_labels}
use Rattle.oe_expr.specs.declared.scope.ListPart.{ListPart}
use Rattle.oe_meanings.proofs.ScopeLemmas.{gives_scopes}
use Rattle.oe_requests.specs.Operations.{labels_along}
use Rattle.oe_meanings.proofs.operation_scope.reduction_scope.Goals as goal

pub returns-clause-valid : goal.returns-clause-valid
returns-clause-valid c =
    let labels = labels_along c.args.along c.args.shape.now in
    let lists : c.push.new.self.items ≡ record { from = 0; to = count_labels labels } ∷ [] = search rules in
    subst (λ (l : PlainLabels). AreLists l c.push.new.self.items) (sym c.in_ok-labels_along.ensures)
    (subst (λ (v : List ListPart). AreLists labels v) (sym lists)
    (gives_scopes.of_reduction c.args.along (record { shape = c.args.shape.now; kind = c.args.kind }) c.label_count-count.ensures.valid))
