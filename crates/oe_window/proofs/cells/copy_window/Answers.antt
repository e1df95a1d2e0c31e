use Rattle.std.proofs.Common.{◌∙◌, sym, subst, arith}
use Rattle.std.proofs.lemmas.Grind.{common_steps}
use Rattle.oe_window.specs.Runs.{EndWithin}
use Rattle.oe_window.proofs.CellLemmas.{copying_begins, copying_goes, copying_fits, copying_ends, each_cell}
use Rattle.oe_window.proofs.cells.copy_window.Goals as goal

pub loop-first-init : goal.loop-first-init
loop-first-init g c =
    let runs = c.runs-first-items.ensures in
    (tt, tt, copying_begins _ c.runs-first-items.result _ _ (subst (λ n. EndWithin n c.runs-first-items.result) (sym c.requires.whole) runs.within) (runs.lengths ∙ sym c.requires.room) c.into_iter-first-iterator.ensures.into_iter_gives)

pub copy_run-requires-clause-from : goal.copy_run-requires-clause-from
copy_run-requires-clause-from g c = (copying_fits _ _ _ _ _ _ _ _ c.loop-first.invariant.2 c.in-Some.ensures.steps).0

pub copy_run-requires-clause-to : goal.copy_run-requires-clause-to
copy_run-requires-clause-to g c = (copying_fits _ _ _ _ _ _ _ _ c.loop-first.invariant.2 c.in-Some.ensures.steps).1

pub loop-first-preserved : goal.loop-first-preserved
loop-first-preserved g c =
    (tt, tt, copying_goes _ _ _ _ _ _ _ _ _ c.loop-first.invariant.2 c.in-Some.ensures.steps c.copy_run.ensures.copied c.copy_run.ensures.len)

pub returns-clause-value : goal.returns-clause-value
returns-clause-value g c other =
    let runs = c.runs-first-items.ensures in
    copying_ends other c.args.shape.now c.args.window.now _ c.runs-first-items.result _ _ _ _ (subst (λ n. EndWithin n c.runs-first-items.result) (sym c.requires.whole) runs.within) runs.numbers c.into_iter-first-iterator.ensures.into_iter_gives c.in-None.ensures.steps.0 c.loop-first.invariant.2

pub returns-clause-each : goal.returns-clause-each
returns-clause-each g c = each_cell c.args.shape.now c.args.window.now _ _ c.requires.whole c.requires.inside (returns-clause-value g c)

pub overflow_add-done : goal.overflow_add-done
overflow_add-done g c = grind (arith, common_steps) steps 2000000
