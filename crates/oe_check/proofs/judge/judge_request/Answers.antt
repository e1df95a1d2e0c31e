use Rattle.std.proofs.Common.{◌≡◌, ℕ, Bool, true, false, not, ◌&&◌, List, ◌∷◌, Option, Some, None, is_none, option_map, refl, sym, ap, ◌∙◌, subst}
use Rattle.std.specs.Arc.{arc_value}
use Rattle.std.proofs.lemmas.Result.{IfOk-weaker}
use Rattle.oe_dims.specs.declared.dims.DimsRow.{DimsRow}
use Rattle.oe_expr.proofs.StateLemmas.{plain_id}
use Rattle.oe_graph.specs.Faults.{IsLeast}
use Rattle.oe_graph.specs.Plain.{plain_node}
use Rattle.oe_graph.specs.Read.{IsFault}
use Rattle.oe_meanings.specs.Callbacks.{StandsInCallback}
use Rattle.oe_check.specs.Inputs.{WorksOn, outline_in}
use Rattle.oe_requests.specs.Operations.{Outline, operation_of}
use Rattle.oe_requests.specs.PlainRequests.{plain_operation, plain_cube_request}
use Rattle.oe_meanings.specs.Results.{is_by_period}
use Rattle.oe_meanings.specs.Stands.{Passes}
use Rattle.oe_check.specs.Walked.{IsVerdict}
use Rattle.oe_check.specs.declared.walk.Verdict.{Verdict}
use Rattle.oe_check.proofs.JudgeLemmas.{has_operation, too_many_periods}
use Rattle.oe_meanings.proofs.OrderedLemmas.{left_of, right_of}
use Rattle.oe_check.proofs.judge.judge_request.Goals as goal

not_twice : (b : Bool) → not (not b) ≡ b
not_twice true = refl
not_twice false = refl

none_either : {A B : Type 0} (f : A → B) (o : Option A) → is_none o ≡ is_none (option_map f o)
none_either f None = refl
none_either f (Some a) = refl

pub returns-then-are_too_many_periods : goal.returns-then-are_too_many_periods
returns-then-are_too_many_periods c =
    let n = plain_node c.args.node.now in
    let r = plain_cube_request c.args.request.now in
    let one = outline_in c.args.one in
    let two = outline_in c.args.two in
    let shape = c.in_ok-shape.shape in
    let both : (is_none shape && is_by_period r) ≡ true = sym c.are_too_many_periods.ensures ∙ c.if-are_too_many_periods.true in
    IfOk-weaker c.stands.result _ _ (λ (verdict : Verdict) is. λ (rows : List DimsRow) (at : List ℕ → Outline) (p : Passes rows at n r) (works : WorksOn rows at r one two).
    subst (IsVerdict rows at n) (sym is)
    (too_many_periods rows at n r p one two works (right_of (is_none shape) _ both) (option_map arc_value shape) c.in_ok-shape.ensures
    (sym (none_either arc_value shape) ∙ left_of (is_none shape) _ both)))
    c.stands.ensures

pub returns-in-Ok-None : goal.returns-in-Ok-None
returns-in-Ok-None c =
    let n = plain_node c.args.node.now in
    let r = plain_cube_request c.args.request.now in
    let one = outline_in c.args.one in
    let two = outline_in c.args.two in
    let none : (others : List Outline) → None ≡ operation_of r (one ∷ others) =
    λ others. sym (ap (option_map plain_operation) c.in-Ok-None.field-0-is) ∙ c.in-Ok-None.ensures.built others in
    IfOk-weaker c.stands-in-Ok-None.result _ _ (λ (verdict : Verdict) is. λ (rows : List DimsRow) (at : List ℕ → Outline) (p : Passes rows at n r) (works : WorksOn rows at r one two).
    absurd (has_operation rows at n r p one two works none))
    c.stands-in-Ok-None.ensures

pub returns-in-Err-Fault : goal.returns-in-Err-Fault
returns-in-Err-Fault c =
    let n = plain_node c.args.node.now in
    let r = plain_cube_request c.args.request.now in
    let one = outline_in c.args.one in
    let two = outline_in c.args.two in
    let id : c.as_str.result.now ≡ n.id = c.as_str.ensures ∙ sym (plain_id c.args.node.now) in
    let least : IsLeast (StandsInCallback n.id r one) c.in-Err-Fault.fault =
    subst (λ (name : List ℕ). IsLeast (StandsInCallback name r one) c.in-Err-Fault.fault) id
    (subst (IsFault (StandsInCallback c.as_str.result.now r one)) c.in-Err-Fault.field-0-is c.in-Err-Fault.ensures.refused) in
    c.least_with_size.ensures r one two (
      option_map arc_value c.in_ok-shape.shape,
      c.in_ok-shape.ensures,
      sym (ap not c.is_none.ensures ∙ not_twice c.is_none.result) ∙ none_either arc_value c.in_ok-shape.shape,
    )
    (subst (IsLeast (StandsInCallback n.id r one)) (sym c.in-Err-Fault.fault-is) least)
