use Rattle.std.proofs.Common.{◌≡◌, ◌∷◌, List, None, Vec, Global, length, map, sym, ap, ◌∙◌}
use Rattle.std.specs.List.{flat_map}
use Rattle.std.proofs.lemmas.List.{length-map}
use Rattle.oe_cell.specs.Fraction.{Fraction}
use Rattle.oe_cell.specs.declared.frac.Frac.{Frac}
use Rattle.oe_requests.specs.Parameters.{kernel_of}
use Rattle.oe_requests.proofs.KernelLemmas.{kernel_given, kernel_empty, kernel_uneven}
use Rattle.oe_requests.proofs.parameter_list.kernel_of.Goals as goal
use Rattle.oe_requests.proofs.parameter_list.kernel_of.Goals.{then-width-eq0-via-then-width-eq0, then-width-eq0-via-else-width-eq0+then-not-are_of_width}

abbrev values_of : Vec Frac Global → List Fraction
values_of row = row.items

pub returns-then-width-eq0 : goal.returns-then-width-eq0
returns-then-width-eq0 c =
    let first = c.in-Some.first.now in
    let others = c.in-Some.others.now in
    let width = c.width_of-width.result in
    let none : None ≡ kernel_of (map values_of (first ∷ others)) =
    elim c.then-width-eq0.branch [
      | then-width-eq0-via-then-width-eq0 w ↦ kernel_empty values_of first others width c.width_of-width.ensures w.if-width-eq0.true
      | then-width-eq0-via-else-width-eq0+then-not-are_of_width w ↦ kernel_uneven values_of first others width c.width_of-width.ensures (sym w.are_of_width.ensures ∙ w.if-not-are_of_width.true)
    ] in
    none ∙ ap (λ rows. kernel_of (map values_of rows)) (sym c.in-Some.ensures.cases.0)

pub returns : goal.returns
returns c =
    let first = c.in-Some.first.now in
    let others = c.in-Some.others.now in
    let rows = c.in-Some.ensures.cases.0 in
    let high = ap length rows ∙ sym (length-map (first ∷ others) values_of) in
    let same = c.in_ok-values_of.ensures ∙ ap (λ xs. flat_map (λ (v : List Fraction). v) (map values_of xs)) rows in
    kernel_given values_of first others c.width_of-width.result (length c.args.rows.now) c.in_ok-values_of.field-0.items
    c.width_of-width.ensures c.if-width-eq0.false (sym c.are_of_width.ensures ∙ c.if-not-are_of_width.false) high same
    ∙ ap (λ xs. kernel_of (map values_of xs)) (sym rows)
