use Rattle.std.proofs.Common.{is_some, length, slice_index_or, unwrap_or, sym, ap, ◌∙◌, arith}
use Rattle.std.specs.Option.{option_map}
use Rattle.std.proofs.lemmas.Grind.{common_steps}
use Rattle.oe_cell.specs.declared.cell.Cell.TheVariants.{Empty}
use Rattle.oe_dims.specs.declared.kind.Kind.TheVariants.{X}
use Rattle.oe_ops.specs.Indices.{position_on}
use Rattle.oe_ops.specs.Slices.{cell_of}
use Rattle.oe_ops.proofs.IndexLemmas.{found_below}
use Rattle.oe_ops.proofs.RunLemmas.{run_at, run_begins, run_behind}
use Rattle.oe_ops.proofs.source.found_on.Goals as goal

pub overflow_sub-first : goal.overflow_sub-first
overflow_sub-first c =
    let source = c.args.source.now in
    let begins = run_begins X source.shape.now source.argument.now c.args.run c.args.x (length c.args.out.now) c.requires.labels.some c.requires.labels.on_run in
    let here = run_at X source.shape.now source.argument.now c.args.run c.args.x c.in-Some.first c.in-Some.is begins in
    omega (arith, here.0)

pub overflow_add-first : goal.overflow_add-first
overflow_add-first c =
    let source = c.args.source.now in
    let begins = run_begins X source.shape.now source.argument.now c.args.run c.args.x (length c.args.out.now) c.requires.labels.some c.requires.labels.on_run in
    let here = run_at X source.shape.now source.argument.now c.args.run c.args.x c.in-Some.first c.in-Some.is begins in
    let below = found_below X source.shape.now source.argument.now c.args.x _ c.count.ensures.valid here.1 in
    omega (arith, below)

pub row_of-requires-clause-inside : goal.row_of-requires-clause-inside
row_of-requires-clause-inside c = λ k lt.
    let source = c.args.source.now in
    let begins = run_begins X source.shape.now source.argument.now c.args.run c.args.x (length c.args.out.now) c.requires.labels.some c.requires.labels.on_run in
    c.requires.labels.labels.held k _ lt (run_behind X source.shape.now source.argument.now c.args.run c.args.x k c.in-Some.first c.in-Some.is begins (c.requires.labels.on_run k lt))

pub returns-in-Some-clause-value : goal.returns-in-Some-clause-value
returns-in-Some-clause-value c = λ k lt.
    let source = c.args.source.now in
    let begins = run_begins X source.shape.now source.argument.now c.args.run c.args.x (length c.args.out.now) c.requires.labels.some c.requires.labels.on_run in
    let index = run_behind X source.shape.now source.argument.now c.args.run c.args.x k c.in-Some.first c.in-Some.is begins (c.requires.labels.on_run k lt) in
    ap (λ cells. slice_index_or cells k Empty) c.copy_from_slice.ensures.after
    ∙ c.row_of.ensures.value k lt
    ∙ sym (ap (λ o. unwrap_or (option_map (λ i. cell_of source.slice (position_on c.args.row i)) o) Empty) index)

pub returns-in-Some-clause-all : goal.returns-in-Some-clause-all
returns-in-Some-clause-all c = λ sure k lt.
    let source = c.args.source.now in
    let begins = run_begins X source.shape.now source.argument.now c.args.run c.args.x (length c.args.out.now) c.requires.labels.some c.requires.labels.on_run in
    ap is_some (run_behind X source.shape.now source.argument.now c.args.run c.args.x k c.in-Some.first c.in-Some.is begins (c.requires.labels.on_run k lt))

pub cell_of-requires-clause-inside : goal.cell_of-requires-clause-inside
cell_of-requires-clause-inside c = grind (arith, common_steps) steps 2000000

pub returns-then-is_none-clause-value : goal.returns-then-is_none-clause-value
returns-then-is_none-clause-value c = grind (arith, common_steps) steps 2000000
