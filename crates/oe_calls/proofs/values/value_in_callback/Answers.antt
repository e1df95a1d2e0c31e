use Rattle.std.proofs.Common.{◌≡◌, ℕ, true, false, List, Bor, Option, Some, None, option_map, unwrap_or, sym, ap, ◌∙◌}
use Rattle.std.specs.List.{list_any}
use Rattle.std.proofs.lemmas.Result.{IfOk-weaker}
use Rattle.oe_dims.specs.Names.{same_name}
use Rattle.oe_graph.specs.Plain.{plain_arg, plain_named}
use Rattle.oe_graph.specs.References.{argument_named}
use Rattle.oe_graph.specs.Tree.{from_parameter}
use Rattle.oe_graph.specs.declared.tree.Arg.{Arg}
use Rattle.oe_calls.specs.Renamed.{dangling, renamed}
use Rattle.oe_calls.specs.PlainValues.{names_behind}
use Rattle.oe_calls.specs.declared.values.Values.{Values}
use Rattle.oe_calls.proofs.NodeLemmas.{plain_from_parameter}
use Rattle.oe_calls.proofs.ValueLemmas.{hidden_value, seen_value}
use Rattle.oe_calls.proofs.values.value_in_callback.Goals as goal

pub returns-then-is_among : goal.returns-then-is_among
returns-then-is_among c =
    let v : Values = c.args.values.now in
    let name : List ℕ = c.args.name.now in
    let hidden : list_any (same_name name) (names_behind v.hidden.items) ≡ true =
    sym (rw (c.as_str.ensures, c.as_slice.ensures.value) at c.is_among.ensures) ∙ c.if-is_among.true in
    plain_from_parameter _
    ∙ (ap from_parameter c.in_ok-copy.ensures
    ∙ sym (ap (λ o. unwrap_or o (from_parameter name)) (hidden_value name (names_behind v.hidden.items) (plain_named v.given.now.items) hidden)))

pub returns-in-Some : goal.returns-in-Some
returns-in-Some c =
    let v : Values = c.args.values.now in
    let name : List ℕ = c.args.name.now in
    let ms = plain_named v.given.now.items in
    let seen : list_any (same_name name) (names_behind v.hidden.items) ≡ false =
    sym (rw (c.as_str.ensures, c.as_slice.ensures.value) at c.is_among.ensures) ∙ c.if-is_among.false in
    let found : Some (plain_arg c.in-Some.value.now) ≡ argument_named name ms =
    ap (λ (o : Option (Bor Arg)). option_map (λ (a : Bor Arg). plain_arg a.now) o) (sym c.in-Some.is)
    ∙ (c.argument_named.ensures ∙ ap (λ n. argument_named n ms) c.as_str-2.ensures) in
    IfOk-weaker c.dangling_arg.result _ _
    (λ a is. is ∙ sym (ap (λ o. unwrap_or o (from_parameter name))
    (seen_value name (names_behind v.hidden.items) ms seen ∙ ap (option_map (renamed dangling)) (sym found))))
    c.dangling_arg.ensures

pub returns-in_ok-copy-in-None : goal.returns-in_ok-copy-in-None
returns-in_ok-copy-in-None c =
    let v : Values = c.args.values.now in
    let name : List ℕ = c.args.name.now in
    let ms = plain_named v.given.now.items in
    let seen : list_any (same_name name) (names_behind v.hidden.items) ≡ false =
    sym (rw (c.as_str.ensures, c.as_slice.ensures.value) at c.is_among.ensures) ∙ c.if-is_among.false in
    let found : None ≡ argument_named name ms =
    ap (λ (o : Option (Bor Arg)). option_map (λ (a : Bor Arg). plain_arg a.now) o) (sym c.in-None.is)
    ∙ (c.argument_named.ensures ∙ ap (λ n. argument_named n ms) c.as_str-2.ensures) in
    plain_from_parameter _
    ∙ (ap from_parameter c.in_ok-copy-in-None.ensures
    ∙ sym (ap (λ o. unwrap_or o (from_parameter name))
    (seen_value name (names_behind v.hidden.items) ms seen ∙ ap (option_map (renamed dangling)) (sym found))))
