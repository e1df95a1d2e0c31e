use Rattle.std.proofs.Common.{◌≡◌, ℕ, List, Some, None, option_map, sym, ap, ◌∙◌, subst}
use Rattle.std.proofs.lemmas.Result.{IfOk-weaker}
use Rattle.oe_dims.specs.Plain.{plain_rows}
use Rattle.oe_graph.specs.Plain.{plain_node, plain_nodes}
use Rattle.oe_check.specs.Early.{IsEarlyFault}
use Rattle.oe_check.specs.Inputs.{AreInputs, both_outlines, outline_in}
use Rattle.oe_requests.specs.Operations.{Outline}
use Rattle.oe_requests.specs.PlainRequests.{plain_cube_request}
use Rattle.oe_requests.specs.Requests.{cube_request_at}
use Rattle.oe_check.specs.Walked.{AreKnown, IsVerdict}
use Rattle.oe_check.specs.declared.walk.Verdict.{Verdict}
use Rattle.oe_check.proofs.BuildableLemmas.{buildable, valid_labels}
use Rattle.oe_check.proofs.InputLemmas.{cubes_are_nodes, cubes_are_known}
use Rattle.oe_check.proofs.JudgeLemmas.{not_found, none_early, first_early}
use Rattle.oe_check.proofs.VerdictLemmas.{nothing_asked, found_early}
use Rattle.oe_check.proofs.judge.judge_node.Goals as goal

pub returns-in_default : goal.returns-in_default
returns-in_default c =
    let n = plain_node c.args.node.now in
    let rows = plain_rows c.args.dims.now in
    let none : cube_request_at n ≡ None = sym c.in_ok-request.ensures ∙ ap (option_map plain_cube_request) c.in_default.is in
    IfOk-weaker c.stands.result _ _ (λ (verdict : Verdict) is. λ (at : List ℕ → Outline) (known : AreKnown (plain_nodes c.args.nodes.now) c.args.states.now at n).
    subst (IsVerdict rows at n) (sym is) (nothing_asked rows at n none))
    c.stands.ensures

pub inputs_of-requires-clause-named : goal.inputs_of-requires-clause-named
inputs_of-requires-clause-named c =
    cubes_are_nodes (plain_nodes c.args.nodes.now) c.requires.resolved (plain_node c.args.node.now) (plain_cube_request c.in-Some.request) c.requires.node
    (sym c.in_ok-request.ensures ∙ ap (option_map plain_cube_request) c.in-Some.is)

pub returns-in_default-inputs_of : goal.returns-in_default-inputs_of
returns-in_default-inputs_of c =
    let n = plain_node c.args.node.now in
    let nodes = plain_nodes c.args.nodes.now in
    let rows = plain_rows c.args.dims.now in
    let r = plain_cube_request c.in-Some.request in
    let asks : cube_request_at n ≡ Some r = sym c.in_ok-request.ensures ∙ ap (option_map plain_cube_request) c.in-Some.is in
    IfOk-weaker c.stands-in_default-inputs_of.result _ _ (λ (verdict : Verdict) is. λ (at : List ℕ → Outline) (known : AreKnown nodes c.args.states.now at n).
    subst (IsVerdict rows at n) (sym is) (not_found rows at n r asks
    (subst (λ o. AreInputs rows at r (option_map both_outlines o)) c.in_default-inputs_of.is
    (c.inputs_of.ensures at (cubes_are_known nodes c.requires.resolved c.args.states.now at n r known asks)))))
    c.stands-in_default-inputs_of.ensures

pub returns-in-Some-2 : goal.returns-in-Some-2
returns-in-Some-2 c =
    let n = plain_node c.args.node.now in
    let nodes = plain_nodes c.args.nodes.now in
    let rows = plain_rows c.args.dims.now in
    let r = plain_cube_request c.in-Some.request in
    let one = outline_in c.in-Some-inputs_of.one in
    let two = outline_in c.in-Some-inputs_of.two in
    let asks : cube_request_at n ≡ Some r = sym c.in_ok-request.ensures ∙ ap (option_map plain_cube_request) c.in-Some.is in
    let early : IsEarlyFault r one.shape two.shape (Some c.in-Some-2.code) =
    subst (IsEarlyFault r one.shape two.shape) c.in-Some-2.is c.in_ok-code.ensures in
    IfOk-weaker c.stands-in-Some-2.result _ _ (λ (verdict : Verdict) is. λ (at : List ℕ → Outline) (known : AreKnown nodes c.args.states.now at n).
    let inputs : AreInputs rows at r (Some (one, two)) =
    subst (λ o. AreInputs rows at r (option_map both_outlines o)) c.in-Some-inputs_of.is
    (c.inputs_of.ensures at (cubes_are_known nodes c.requires.resolved c.args.states.now at n r known asks)) in
    subst (IsVerdict rows at n) (sym is)
    (found_early rows at n r asks c.in-Some-2.code (first_early rows at r one two (Some c.in-Some-2.code) inputs early)))
    c.stands-in-Some-2.ensures

pub judge_request-requires-clause-buildable : goal.judge_request-requires-clause-buildable
judge_request-requires-clause-buildable c =
    let n = plain_node c.args.node.now in
    let r = plain_cube_request c.in-Some.request in
    let asks : cube_request_at n ≡ Some r = sym c.in_ok-request.ensures ∙ ap (option_map plain_cube_request) c.in-Some.is in
    buildable (plain_nodes c.args.nodes.now) c.requires.resolved n c.requires.node r _ asks
    (none_early r c.in-Some-inputs_of.one.shape.now c.in-Some-inputs_of.two.shape.now
    (subst (IsEarlyFault r c.in-Some-inputs_of.one.shape.now c.in-Some-inputs_of.two.shape.now) c.in-None-2.is c.in_ok-code.ensures))
    (c.has_few_intervals.ensures.0 c.if-not-has_few_intervals.false)

pub judge_request-requires-clause-labels : goal.judge_request-requires-clause-labels
judge_request-requires-clause-labels c =
    let n = plain_node c.args.node.now in
    let r = plain_cube_request c.in-Some.request in
    let asks : cube_request_at n ≡ Some r = sym c.in_ok-request.ensures ∙ ap (option_map plain_cube_request) c.in-Some.is in
    valid_labels n r _ asks
    (none_early r c.in-Some-inputs_of.one.shape.now c.in-Some-inputs_of.two.shape.now
    (subst (IsEarlyFault r c.in-Some-inputs_of.one.shape.now c.in-Some-inputs_of.two.shape.now) c.in-None-2.is c.in_ok-code.ensures))

pub returns : goal.returns
returns c =
    let n = plain_node c.args.node.now in
    let nodes = plain_nodes c.args.nodes.now in
    let rows = plain_rows c.args.dims.now in
    let r = plain_cube_request c.in-Some.request in
    let one = outline_in c.in-Some-inputs_of.one in
    let two = outline_in c.in-Some-inputs_of.two in
    let asks : cube_request_at n ≡ Some r = sym c.in_ok-request.ensures ∙ ap (option_map plain_cube_request) c.in-Some.is in
    IfOk-weaker c.judge_request.result _ _ (λ (verdict : Verdict) judged. λ (at : List ℕ → Outline) (known : AreKnown nodes c.args.states.now at n).
    let inputs : AreInputs rows at r (Some (one, two)) =
    subst (λ o. AreInputs rows at r (option_map both_outlines o)) c.in-Some-inputs_of.is
    (c.inputs_of.ensures at (cubes_are_known nodes c.requires.resolved c.args.states.now at n r known asks)) in
    let early : IsEarlyFault r one.shape two.shape None = subst (IsEarlyFault r one.shape two.shape) c.in-None-2.is c.in_ok-code.ensures in
    judged rows at (record { asks = asks; none_holds = first_early rows at r one two None inputs early }) inputs.1)
    c.judge_request.ensures
