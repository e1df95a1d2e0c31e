use Rattle.std.proofs.lemmas.Result.{IfOk-weaker}
use Rattle.std.proofs.Common.{ℕ, List, option_map, refl, sym, ap, ◌∙◌, subst}
use Rattle.std.specs.Arc.{arc_value}
use Rattle.oe_dims.specs.declared.dims.DimsRow.{DimsRow}
use Rattle.oe_graph.specs.Plain.{plain_node}
use Rattle.oe_check.specs.Inputs.{WorksOn, outline_in}
use Rattle.oe_requests.specs.Operations.{Outline}
use Rattle.oe_requests.specs.PlainRequests.{plain_operation, plain_cube_request}
use Rattle.oe_meanings.specs.Stands.{Passes}
use Rattle.oe_check.specs.Walked.{IsVerdict}
use Rattle.oe_check.specs.declared.walk.Verdict.{Verdict}
use Rattle.oe_check.proofs.JudgeLemmas.{other_kinds, too_many, judged_sound}
use Rattle.oe_check.proofs.judge.judge_operation.Goals as goal

pub returns-then-takes_other_kinds : goal.returns-then-takes_other_kinds
returns-then-takes_other_kinds c =
    let n = plain_node c.args.node.now in
    let r = plain_cube_request c.args.request.now in
    let one = outline_in c.args.one in
    let two = outline_in c.args.two in
    IfOk-weaker c.stands.result _ _ (λ (verdict : Verdict) is. λ (rows : List DimsRow) (at : List ℕ → Outline) (p : Passes rows at n r) (works : WorksOn rows at r one two).
    subst (IsVerdict rows at n) (sym is)
    (other_kinds rows at n r p one two works (plain_operation c.args.operation) c.requires.operation_is c.requires.faultless
    (sym c.takes_other_kinds.ensures ∙ c.if-takes_other_kinds.true)))
    c.stands.ensures

pub returns-in_default : goal.returns-in_default
returns-in_default c =
    let n = plain_node c.args.node.now in
    let r = plain_cube_request c.args.request.now in
    let one = outline_in c.args.one in
    let two = outline_in c.args.two in
    IfOk-weaker c.stands-in_default.result _ _ (λ (verdict : Verdict) is. λ (rows : List DimsRow) (at : List ℕ → Outline) (p : Passes rows at n r) (works : WorksOn rows at r one two).
    subst (IsVerdict rows at n) (sym is)
    (too_many rows at n r p one two works (plain_operation c.args.operation) c.requires.operation_is c.requires.faultless
    (sym c.takes_other_kinds.ensures ∙ c.if-takes_other_kinds.false) (option_map arc_value c.args.shape) c.requires.shape_is
    (ap (option_map arc_value) c.in_default.is)))
    c.stands-in_default.ensures

pub returns : goal.returns
returns c = λ rows at p works.
    judged_sound rows at (plain_node c.args.node.now) (plain_cube_request c.args.request.now) p (outline_in c.args.one) (outline_in c.args.two) works
    (plain_operation c.args.operation) c.requires.operation_is c.requires.faultless
    (sym c.takes_other_kinds.ensures ∙ c.if-takes_other_kinds.false) (option_map arc_value c.args.shape) c.requires.shape_is c.requires.buildable c.requires.labels
    c.recall_rules.ensures _ (ap (option_map arc_value) c.in-Some.is) refl c.kind_given-kind.ensures c.in_ok-collection_of.ensures
