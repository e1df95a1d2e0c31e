use Rattle.std.proofs.Common.{◌∙◌, subst, take, arith}
use Rattle.std.proofs.lemmas.Grind.{common_steps}
use Rattle.oe_dims.specs.Dimensions.{Dimensions}
use Rattle.oe_sources.specs.Repacked.{AreSidesOf}
use Rattle.oe_sources.proofs.RepackLemmas.{cells_counted, fits_rows, given_before, reads_nothing, reads_on, still_mounted, width_begins, width_goes}
use Rattle.oe_sources.proofs.repacking.section_width.Goals as goal

pub loop-done-init : goal.loop-done-init
loop-done-init g c = record {
  reads = reads_nothing _ c.args.place;
  room = c.requires.enough;
  within = omega arith;
  width = width_begins _ _ c.sides_of-sides.result.x;
}

pub read_part-requires-clause-mounted : goal.read_part-requires-clause-mounted
read_part-requires-clause-mounted g c = still_mounted _ _ c.args.place c.loop-done.invariant.reads c.requires.section.mounted

pub returns-in-Err-clause-only : goal.returns-in-Err-clause-only
returns-in-Err-clause-only g c = reads_on _ _ _ c.args.place c.loop-done.invariant.reads c.read_part.ensures.only

pub loop-done-preserved : goal.loop-done-preserved
loop-done-preserved g c =
    let s = c.sides_of-sides.result in
    let part = c.part_from-part.result in
    let reads = c.loop-done.invariant.reads in
    let cells = c.read_part.new.cells in
    let count = c.in-Ok.count in
    let all = c.rows_of-rows.ensures.all (omega (arith, c.loop-done-test.true)) in
    let next = c.part_from-part.ensures in
    record {
      reads = reads_on _ _ _ c.args.place reads c.read_part.ensures.only;
      room = c.read_part.ensures.room ∙ c.loop-done.invariant.room;
      within = fits_rows _ _ _ _ next.within all;
      width = width_goes _ _ s c.args.section c.loop-done.done part (take count cells) c.loop-done.width c.common_width.result c.wider-width.result
          (cells_counted _ _ _ c.shape.ensures.sound)
          (subst (λ (d : Dimensions). AreSidesOf d s) c.shape.ensures.value c.sides_of-sides.ensures)
          next c.requires.section.below
          (given_before _ _ c.args.place reads part.window (take count cells) c.in-Ok.ensures.given)
          c.wider-width.ensures c.common_width.ensures c.loop-done.invariant.width;
    }

pub returns-clause-cause : goal.returns-clause-cause
returns-clause-cause g c = grind (arith, common_steps) steps 2000000

pub returns-clause-damage : goal.returns-clause-damage
returns-clause-damage g c = grind (arith, common_steps) steps 2000000

pub returns-clause-only : goal.returns-clause-only
returns-clause-only g c = grind (arith, common_steps) steps 2000000

pub returns-clause-refusal : goal.returns-clause-refusal
returns-clause-refusal g c = grind (arith, common_steps) steps 2000000

pub returns-clause-room : goal.returns-clause-room
returns-clause-room g c = grind (arith, common_steps) steps 2000000

pub returns-clause-width : goal.returns-clause-width
returns-clause-width g c = grind (arith, common_steps) steps 2000000

pub returns-in-Err-clause-cause : goal.returns-in-Err-clause-cause
returns-in-Err-clause-cause g c = grind (arith, common_steps) steps 2000000

pub returns-in-Err-clause-damage : goal.returns-in-Err-clause-damage
returns-in-Err-clause-damage g c = grind (arith, common_steps) steps 2000000

pub returns-in-Err-clause-refusal : goal.returns-in-Err-clause-refusal
returns-in-Err-clause-refusal g c = grind (arith, common_steps) steps 2000000

pub returns-in-Err-clause-room : goal.returns-in-Err-clause-room
returns-in-Err-clause-room g c = grind (arith, common_steps) steps 2000000

pub returns-in-Err-clause-width : goal.returns-in-Err-clause-width
returns-in-Err-clause-width g c = grind (arith, common_steps) steps 2000000
