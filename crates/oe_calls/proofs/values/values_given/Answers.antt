use Rattle.std.proofs.Common.{◌≡◌, ℕ, ◌+◌, List, [], ◌∷◌, ◌++◌, map, drop, Option, Some, None, option_map, refl, sym, ap, ◌∙◌, Vec, Global}
use Rattle.std.proofs.lemmas.List.{drop_all}
use Rattle.oe_graph.specs.Plain.{plain_arg, plain_named, plain_parameter}
use Rattle.oe_graph.specs.declared.tree.Arg.{Arg}
use Rattle.oe_graph.specs.declared.catalogue.ParameterRow.{ParameterRow}
use Rattle.oe_calls.specs.Substituted.{values_given, value_before}
use Rattle.oe_calls.proofs.ValueLemmas.{joined, joined-none, joined-last, value_in, values_given-next}
use Rattle.oe_calls.proofs.values.values_given.Goals.{in-Some+in_ok-copy+in_ok-push, in_default}
use Rattle.oe_calls.proofs.values.values_given.Goals as goal

-- the values so far
abbrev Values : Type 0
Values = Vec (List ℕ × Arg) Global

none_by : (o : Option Arg) → ((a : Arg) → o ≡ Some a → ⊥) → o ≡ None
none_by None other = refl
none_by (Some a) other = absurd (other a refl)

pub loop-parameter-preserved : goal.loop-parameter-preserved
loop-parameter-preserved c =
    let ps : List ParameterRow = c.deref-parameter-items.result.now in
    let i = c.loop-parameter.parameter-index in
    let p : ParameterRow = c.parameter-item.result in
    let arguments = plain_named c.args.arguments.now.items in
    let before = plain_named c.loop-parameter.values.items in
    let rest = values_given (map plain_parameter (drop (i + 1) ps)) arguments in
    let value : option_map plain_arg c.in_ok-value.field-0 ≡ value_in p arguments = c.in_ok-value.ensures in
    let so_far : values_given (map plain_parameter c.args.parameters.now.items) arguments
    ≡ joined before (value_before p.name (option_map plain_arg c.in_ok-value.field-0) rest) =
    c.loop-parameter.invariant
    ∙ (ap (joined before) (values_given-next ps i p arguments c.loop-parameter-test.true c.parameter-item.is)
    ∙ ap (λ o. joined before (value_before p.name o rest)) (sym value)) in
    elim c.match-branch-2.branch [
      | in-Some+in_ok-copy+in_ok-push w ↦
          let a : Arg = w.in-Some.value in
          let pushed : plain_named c.match-branch-2.values.items ≡ plain_named (c.loop-parameter.values.items ++ (p.name, a) ∷ []) =
          ap (λ (v : Values). plain_named v.items) w.values-is
          ∙ (ap plain_named w.in_ok-push.ensures.items
          ∙ ap (λ n. plain_named (c.loop-parameter.values.items ++ (n, a) ∷ [])) w.in_ok-copy.ensures) in
          so_far
          ∙ (ap (λ (o : Option Arg). joined before (value_before p.name (option_map plain_arg o) rest)) w.in-Some.is
          ∙ (sym (joined-last c.loop-parameter.values.items p.name a rest) ∙ sym (ap (λ ms. joined ms rest) pushed)))
      | in_default w ↦
          let same : plain_named c.match-branch-2.values.items ≡ before = ap (λ (v : Values). plain_named v.items) w.values-is in
          so_far
          ∙ (ap (λ (o : Option Arg). joined before (value_before p.name (option_map plain_arg o) rest))
          (none_by c.in_ok-value.field-0 w.in_default.not-Some)
          ∙ sym (ap (λ ms. joined ms rest) same))
    ]

pub returns : goal.returns
returns c =
    let ps : List ParameterRow = c.deref-parameter-items.result.now in
    let arguments = plain_named c.args.arguments.now.items in
    let values = plain_named c.loop-parameter.values.items in
    sym (c.loop-parameter.invariant
    ∙ (ap (λ (xs : List ParameterRow). joined values (values_given (map plain_parameter xs) arguments))
    (drop_all c.loop-parameter.parameter-index ps c.loop-parameter-test.false)
    ∙ joined-none values))
