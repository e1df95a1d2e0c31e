use Rattle.std.proofs.Common.{List, sym, ap, ◌∙◌, subst}
use Rattle.oe_check.specs.Checked.{CheckedGraph}
use Rattle.oe_sources.specs.Catalogue.{Row}
use Rattle.oe_sources.specs.CatalogueDims.{dims_of}
use Rattle.oe_top.specs.Demonstration.{demo_graph}
use Rattle.oe_top.specs.Judged.{IsCheckedText}
use Rattle.oe_top.proofs.Demos.{finished, stopped, too_large}
use Rattle.oe_top.proofs.demo.demo.Goals as goal

pub write_figures-requires-clause-collections : goal.write_figures-requires-clause-collections
write_figures-requires-clause-collections g c κs within =
    let graph_is = c.in-Ok.ensures.plan.graph_is in
    record {
      rows_are = ap (λ (k : CheckedGraph). k.rows) (graph_is ∙ c.in_ok-checked.ensures.checked.checked_is);
      found = rw (sym graph_is) at c.in_ok-checked.ensures.found;
      given = c.in_ok-checked.ensures.collections;
    }

pub returns-in-Ok-write_figures : goal.returns-in-Ok-write_figures
returns-in-Ok-write_figures g c = λ input input_faults lent.
    finished c.args.source.0 c.args.source.1 c.args.sizes.0 c.args.sizes.1 c.in_ok-checked.checked
    (subst (λ (rows : List Row). IsCheckedText (dims_of rows) demo_graph c.in_ok-checked.checked) c.in_ok-catalogue.ensures c.in_ok-checked.ensures.checked)
    input input_faults (g.O.Sink.written c.args.out.now) (g.O.Sink.faults c.args.out.now)
    (g.P.Store.bytes c.args.spool.now) (g.P.Store.faults c.args.spool.now) lent
    c.in-Ok.run'.plan c.in-Ok.ensures.plan _ c.in_ok-catalogue.ensures
    (g.O.Sink.written c.write_figures.new.out) (g.O.Sink.faults c.write_figures.new.out)
    (g.P.Store.bytes c.write_figures.new.spool) (g.P.Store.faults c.write_figures.new.spool)
    (c.in-Ok-write_figures.ensures input input_faults lent)

pub returns-in-Ok : goal.returns-in-Ok
returns-in-Ok g c = λ input input_faults lent.
    stopped c.args.source.0 c.args.source.1 c.args.sizes.0 c.args.sizes.1 c.in_ok-checked.checked
    (subst (λ (rows : List Row). IsCheckedText (dims_of rows) demo_graph c.in_ok-checked.checked) c.in_ok-catalogue.ensures c.in_ok-checked.ensures.checked)
    input input_faults (g.O.Sink.written c.args.out.now) (g.O.Sink.faults c.args.out.now)
    (g.P.Store.bytes c.args.spool.now) (g.P.Store.faults c.args.spool.now) lent
    c.in-Ok.run'.plan c.in-Ok.ensures.plan _ c.in_ok-catalogue.ensures
    (g.O.Sink.written c.write_figures.new.out) (g.O.Sink.faults c.write_figures.new.out)
    (g.P.Store.bytes c.write_figures.new.spool) (g.P.Store.faults c.write_figures.new.spool)
    c.in-Err.fail (c.in-Err.ensures input input_faults lent)

pub returns-in-Err-TooLarge : goal.returns-in-Err-TooLarge
returns-in-Err-TooLarge g c = λ input input_faults lent. rw c.in-Err-TooLarge.field-0-is (
    too_large c.args.source.0 c.args.source.1 c.args.sizes.0 c.args.sizes.1 c.in_ok-checked.checked
    (subst (λ (rows : List Row). IsCheckedText (dims_of rows) demo_graph c.in_ok-checked.checked) c.in_ok-catalogue.ensures c.in_ok-checked.ensures.checked)
    input input_faults (g.O.Sink.written c.args.out.now) (g.O.Sink.faults c.args.out.now)
    (g.P.Store.bytes c.args.spool.now) (g.P.Store.faults c.args.spool.now) lent
    c.in-Err-TooLarge.cells (c.in-Err-TooLarge.ensures.too_large c.in-Err-TooLarge.cells (let same = c.in-Err-TooLarge.field-0-is in cc)))
