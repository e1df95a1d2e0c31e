use Rattle.std.proofs.Common.{◌∙◌, refl, sym, subst, arith}
use Rattle.oe_dims.specs.Dimensions.{cell_count}
use Rattle.oe_outside.proofs.Causes.{NeverFalls-refl, NeverFalls-trans}
use Rattle.oe_spool.specs.Spooled.{IsRecordByte}
use Rattle.oe_spool.proofs.KeptLemmas.{bytes_kept}
use Rattle.oe_spool.proofs.RunRecords.{changes_more, length-numbers, part_within, window_written, within_next, written_more}
use Rattle.oe_window.specs.Runs.{window_numbers, EndWithin}
use Rattle.oe_window.specs.Windows.{IsIn}
use Rattle.oe_window.proofs.VisitLemmas.{visiting_begins, visiting_goes}
use Rattle.oe_window.proofs.WholeLemmas.{count_within}
use Rattle.oe_spool.proofs.window.write_window.Goals as goal

pub loop-first-init : goal.loop-first-init
loop-first-init g c =
    let runs = c.runs-first-items.ensures in
    let begun = c.into_iter-first-iterator.ensures.into_iter_gives in (
      tt,
      tt,
      visiting_begins (window_numbers c.args.shape.now c.args.window.now) c.runs-first-items.result c.into_iter-first-iterator.result runs.numbers (runs.lengths ∙ sym (length-numbers c.args.shape.now c.args.window.now)) begun,
      subst (EndWithin (cell_count c.args.shape.now)) (sym begun) runs.within,
      (λ i number cell h. absurd (omega arith)),
      bytes_kept (IsRecordByte c.args.base c.args.shape.now (IsIn c.args.window.now)) _,
      NeverFalls-refl _,
      refl,
    )

pub write_run-requires-clause-part : goal.write_run-requires-clause-part
write_run-requires-clause-part g c =
    let w = c.args.window.now in
    let d = c.args.shape.now in
    let part = part_within (window_numbers d w) c.loop-first.first-iterator c.next.new.self c.in-Some.first c.in-Some.count c.loop-first.done c.loop-first.invariant.2 c.in-Some.ensures.steps in
    omega (arith, length-numbers d w, c.requires.counted)

pub overflow_add-done : goal.overflow_add-done
overflow_add-done g c =
    let w = c.args.window.now in
    let d = c.args.shape.now in
    let part = part_within (window_numbers d w) c.loop-first.first-iterator c.next.new.self c.in-Some.first c.in-Some.count c.loop-first.done c.loop-first.invariant.2 c.in-Some.ensures.steps in
    let few = count_within d w c.requires.within in
    omega (arith, length-numbers d w, c.cells-cells.ensures.value, c.cells-cells.ensures.most)

pub returns-in_err-write_run-clause-kept : goal.returns-in_err-write_run-clause-kept
returns-in_err-write_run-clause-kept g c =
    changes_more (g.P.Store.bytes c.args.spool.now) (g.P.Store.bytes c.loop-first.spool) (g.P.Store.bytes c.write_run.new.spool) c.args.base c.args.shape.now c.args.window.now c.loop-first.first-iterator c.next.new.self c.in-Some.first c.in-Some.count c.loop-first.done c.loop-first.invariant.2 c.in-Some.ensures.steps c.loop-first.invariant.5 c.write_run.ensures.outside

pub loop-first-preserved : goal.loop-first-preserved
loop-first-preserved g c =
    let v = c.loop-first.invariant.2 in
    let steps = c.in-Some.ensures.steps in (
      tt,
      tt,
      visiting_goes (window_numbers c.args.shape.now c.args.window.now) c.loop-first.first-iterator c.next.new.self c.in-Some.first c.in-Some.count c.loop-first.done v steps,
      (within_next (cell_count c.args.shape.now) c.loop-first.first-iterator c.next.new.self c.in-Some.first c.in-Some.count steps c.loop-first.invariant.3).1,
      written_more (g.P.Store.bytes c.loop-first.spool) (g.P.Store.bytes c.write_run.new.spool) c.args.base (window_numbers c.args.shape.now c.args.window.now) c.args.cells.now c.loop-first.first-iterator c.next.new.self c.in-Some.first c.in-Some.count c.loop-first.done c.runs-first-items.ensures.rising v steps c.loop-first.invariant.4 c.in_ok-write_run.ensures.written c.write_run.ensures.outside,
      changes_more (g.P.Store.bytes c.args.spool.now) (g.P.Store.bytes c.loop-first.spool) (g.P.Store.bytes c.write_run.new.spool) c.args.base c.args.shape.now c.args.window.now c.loop-first.first-iterator c.next.new.self c.in-Some.first c.in-Some.count c.loop-first.done v steps c.loop-first.invariant.5 c.write_run.ensures.outside,
      NeverFalls-trans c.loop-first.invariant.6 c.write_run.ensures.cause.count,
      c.write_run.ensures.len ∙ c.loop-first.invariant.7,
    )

pub returns-clause-written : goal.returns-clause-written
returns-clause-written g c =
    window_written _ c.args.base c.args.shape.now c.args.window.now c.args.cells.now _ _ c.loop-first.invariant.2 c.in-None.ensures.steps.0 c.loop-first.invariant.4
