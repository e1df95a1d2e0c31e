use Rattle.std.proofs.Common.{◌≡◌, ◌∙◌, get_or, sym, ap, arith, inl, inr, Some}
use Rattle.std.proofs.lemmas.Bool.{cases_lt}
use Rattle.std.proofs.lemmas.Option.{get_or_from_slice_get, slice_get-get_or}
use Rattle.oe_cell.specs.declared.cell.Cell.TheVariants.{Empty, Over}
use Rattle.oe_spool.proofs.LeastLemmas.{found_first, found_none, over_is}
use Rattle.oe_spool.proofs.least.first_over.Goals as goal

pub returns-then-is_over : goal.returns-then-is_over
returns-then-is_over c =
    let cells = c.args.cells.now in
    let i = c.loop-index.index in
    let cell = c.index-cells-index.result in
    let within = c.loop-index-test.true in
    let here : get_or cells i Empty ≡ cell = get_or_from_slice_get cells i cell Empty (slice_get-get_or cells i cell within ∙ ap Some (sym c.index-cells-index.is)) in
    let over : cell ≡ Over = over_is cell (sym c.is_over.ensures ∙ c.if-is_over.true) in
    found_first cells i within (here ∙ over) (λ k h e. elim (cases_lt k i) [
      | inl lt ↦ absurd (c.loop-index.invariant k lt e)
      | inr ge ↦ ge
    ])

pub returns : goal.returns
returns c =
    let past = c.loop-index-test.false in
    found_none c.args.cells.now (λ k h. c.loop-index.invariant k (omega arith))
