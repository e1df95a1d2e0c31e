use Rattle.std.proofs.Common.{◌-◌, length, sym, ap, ◌∙◌, arith}
use Rattle.std.specs.Option.{unwrap_or}
use Rattle.oe_cell.specs.declared.cell.Cell.TheVariants.{Empty}
use Rattle.oe_ops.specs.Slices.{along_x, at_indices}
use Rattle.oe_ops.proofs.FoundLemmas.{found_on_row, not_on_row, on_row}
use Rattle.oe_ops.proofs.source.found_row.Goals as goal

pub found_on-requires : goal.found_on-requires
found_on-requires c =
    let source = c.args.source.now in
    let last = (c.requires.each (length c.args.out.now - 1) (omega (arith, c.requires.some))).inside in
    record {
      labels = record {
        labels = record {
          valid = c.requires.valid;
          counted = c.requires.counted;
          inside = omega (arith, last.x, c.requires.some);
          held = λ k i lt e.
              let found = c.requires.each k lt in
              found.held _
              (on_row source.shape.now source.argument.now (along_x (at_indices c.args.t c.args.band c.args.y c.args.x) k) c.in-Some.row i
              (sym (c.row_in.ensures c.args.t c.args.band found.indices.t found.indices.band) ∙ c.in-Some.is) e);
        };
        some = c.requires.some;
        on_run = λ k lt. (c.requires.each k lt).indices.x;
      };
    }

pub returns-in-None : goal.returns-in-None
returns-in-None c = λ k lt.
    let found = (c.requires.each k lt).indices in
    let source = c.args.source.now in
    let none = not_on_row source.shape.now source.argument.now source.slice (along_x (at_indices c.args.t c.args.band c.args.y c.args.x) k) (sym (c.row_in.ensures c.args.t c.args.band found.t found.band) ∙ c.in-None.is) in
    c.null_row.ensures k lt ∙ sym (ap (λ o. unwrap_or o Empty) none)

pub returns-in-Some : goal.returns-in-Some
returns-in-Some c = λ k lt.
    let found = (c.requires.each k lt).indices in
    let source = c.args.source.now in
    let some = found_on_row source.shape.now source.argument.now source.slice (along_x (at_indices c.args.t c.args.band c.args.y c.args.x) k) c.in-Some.row (sym (c.row_in.ensures c.args.t c.args.band found.t found.band) ∙ c.in-Some.is) in
    c.found_on.ensures.value k lt ∙ sym (ap (λ o. unwrap_or o Empty) some)
