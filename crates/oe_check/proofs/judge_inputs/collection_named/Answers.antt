use Rattle.std.proofs.Common.{◌≡◌, ◌<◌, true, false, List, option_map, length, get_or, sym, ap, ◌∙◌, subst}
use Rattle.oe_dims.specs.Names.{same_name}
use Rattle.oe_dims.specs.declared.dims.DimsRow.{DimsRow}
use Rattle.oe_meanings.specs.Graphs.{row_outline}
use Rattle.oe_check.proofs.InputLemmas.{find_here, find_over}
use Rattle.oe_check.proofs.judge_inputs.collection_named.Goals as goal

pub returns-then-eq : goal.returns-then-eq
returns-then-eq c =
    let row = c.row-item.result in
    let rows = c.args.dims.now.rows.items in
    let test = λ (r : DimsRow). same_name r.id c.args.id.now in
    let named : test row ≡ true = ap (λ (x : List _). same_name x c.args.id.now) (sym c.as_str.ensures) ∙ (sym c.eq.ensures ∙ c.if-eq.true) in
    let at : row ≡ get_or rows c.loop-row.row-index row = subst (λ xs. row ≡ get_or xs c.loop-row.row-index row) c.deref-row-items.ensures.value c.row-item.is in
    let below : c.loop-row.row-index < length rows = subst (λ xs. c.loop-row.row-index < length xs) c.deref-row-items.ensures.value c.loop-row-test.true in
    ap (option_map row_outline) (sym (c.loop-row.invariant ∙ find_here test rows c.loop-row.row-index row below at named))

pub loop-row-preserved : goal.loop-row-preserved
loop-row-preserved c =
    let row = c.row-item.result in
    let rows = c.args.dims.now.rows.items in
    let test = λ (r : DimsRow). same_name r.id c.args.id.now in
    let named : test row ≡ false = ap (λ (x : List _). same_name x c.args.id.now) (sym c.as_str.ensures) ∙ (sym c.eq.ensures ∙ c.if-eq.false) in
    let at : row ≡ get_or rows c.loop-row.row-index row = subst (λ xs. row ≡ get_or xs c.loop-row.row-index row) c.deref-row-items.ensures.value c.row-item.is in
    let below : c.loop-row.row-index < length rows = subst (λ xs. c.loop-row.row-index < length xs) c.deref-row-items.ensures.value c.loop-row-test.true in
    c.loop-row.invariant ∙ find_over test rows c.loop-row.row-index row below at named
