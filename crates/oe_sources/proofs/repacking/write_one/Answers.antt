use Rattle.std.proofs.Common.{◌*◌, ◌∙◌, subst, take, arith}
use Rattle.std.proofs.lemmas.Grind.{common_steps}
use Rattle.oe_dims.specs.Dimensions.{Dimensions}
use Rattle.oe_outside.proofs.Causes.{NeverFalls-refl, NeverFalls-trans}
use Rattle.oe_sources.specs.Repacked.{AreSidesOf}
use Rattle.oe_wide.specs.Wide.{AllFitIn}
use Rattle.oe_sources.proofs.RepackLemmas.{cells_counted, fits_rows, given_before, no_sink_fault, part_fits_width, reads_nothing, reads_on, records_begin, records_end, records_go, records_left, records_stop, row_inside, still_mounted}
use Rattle.oe_sources.proofs.repacking.write_one.Goals as goal

pub loop-done-init : goal.loop-done-init
loop-done-init g c = record {
  reads = reads_nothing _ c.args.place;
  room = c.requires.room.for_cells;
  within = omega arith;
  buffer = c.requires.room.for_bytes;
  sink = NeverFalls-refl _;
  written = records_begin _ _ c.args.width _ _ c.sides_of-sides.result.x;
}

pub read_part-requires-clause-mounted : goal.read_part-requires-clause-mounted
read_part-requires-clause-mounted g c = still_mounted _ _ c.args.place c.loop-done.invariant.reads c.requires.section.mounted

pub returns-in-Err-clause-writes : goal.returns-in-Err-clause-writes
returns-in-Err-clause-writes g c = record {
  whole = tt;
  part = records_left _ _ _ (c.loop-done.done * c.sides_of-sides.result.x) c.args.width _ _ c.loop-done.invariant.written;
}

pub returns-in-Err-clause-room : goal.returns-in-Err-clause-room
returns-in-Err-clause-room g c = record {
  for_cells = c.read_part.ensures.room ∙ c.loop-done.invariant.room;
  for_bytes = c.loop-done.invariant.buffer;
}

pub returns-in-Err-clause-sink : goal.returns-in-Err-clause-sink
returns-in-Err-clause-sink g c = no_sink_fault _ _ c.in-Err.fail c.loop-done.invariant.sink c.in-Err.ensures.refusal

pub returns-in-Err-clause-only : goal.returns-in-Err-clause-only
returns-in-Err-clause-only g c = reads_on _ _ _ c.args.place c.loop-done.invariant.reads c.read_part.ensures.only

pub returns-then-not-all_fit-clause-writes : goal.returns-then-not-all_fit-clause-writes
returns-then-not-all_fit-clause-writes g c = record {
  whole = tt;
  part = records_left _ _ _ (c.loop-done.done * c.sides_of-sides.result.x) c.args.width _ _ c.loop-done.invariant.written;
}

pub returns-then-not-all_fit-clause-room : goal.returns-then-not-all_fit-clause-room
returns-then-not-all_fit-clause-room g c = record {
  for_cells = c.read_part.ensures.room ∙ c.loop-done.invariant.room;
  for_bytes = c.loop-done.invariant.buffer;
}

pub returns-then-not-all_fit-clause-damage : goal.returns-then-not-all_fit-clause-damage
returns-then-not-all_fit-clause-damage g c =
    let s = c.sides_of-sides.result in
    let part = c.part_from-part.result in
    let reads = c.loop-done.invariant.reads in
    let cells = take c.in-Ok.count c.read_part.new.cells in
    let sides = subst (λ (d : Dimensions). AreSidesOf d s) c.shape.ensures.value c.sides_of-sides.ensures in
    let next = c.part_from-part.ensures in
    record {
      inside = row_inside _ s c.args.section c.loop-done.done _ sides c.requires.section.below
          (omega (arith, next.within, next.some.0))
          (c.rows_of-rows.ensures.some (omega (arith, c.loop-done-test.true)))
          c.number_of_row-number.ensures;
      damaged = part_fits_width _ _ s c.args.section c.loop-done.done part cells c.args.width
          (cells_counted _ _ _ c.shape.ensures.sound)
          sides next c.requires.section.below
          (given_before _ _ c.args.place reads part.window cells c.in-Ok.ensures.given)
          c.requires.fit (λ (fit : AllFitIn c.args.width cells). cc (c.all_fit.ensures.1 fit, c.if-not-all_fit.true)) _;
    }

pub returns-then-not-all_fit-clause-only : goal.returns-then-not-all_fit-clause-only
returns-then-not-all_fit-clause-only g c = reads_on _ _ _ c.args.place c.loop-done.invariant.reads c.read_part.ensures.only

pub returns-in-Err-write_section-clause-writes : goal.returns-in-Err-write_section-clause-writes
returns-in-Err-write_section-clause-writes g c =
    let s = c.sides_of-sides.result in
    let next = c.part_from-part.result in
    let reads = c.loop-done.invariant.reads in
    let cells = take c.in-Ok.count c.read_part.new.cells in
    record {
      whole = tt;
      part = records_stop _ _ s c.args.section c.loop-done.done next cells c.args.width _ _ _
          (cells_counted _ _ _ c.shape.ensures.sound)
          (subst (λ (d : Dimensions). AreSidesOf d s) c.shape.ensures.value c.sides_of-sides.ensures)
          c.part_from-part.ensures c.requires.section.below
          (given_before _ _ c.args.place reads next.window cells c.in-Ok.ensures.given)
          c.loop-done.invariant.written c.in-Err-write_section.ensures.prefix;
    }

pub returns-in-Err-write_section-clause-room : goal.returns-in-Err-write_section-clause-room
returns-in-Err-write_section-clause-room g c = record {
  for_cells = c.read_part.ensures.room ∙ c.loop-done.invariant.room;
  for_bytes = c.write_section.ensures.kept;
}

pub returns-in-Err-write_section-clause-only : goal.returns-in-Err-write_section-clause-only
returns-in-Err-write_section-clause-only g c = reads_on _ _ _ c.args.place c.loop-done.invariant.reads c.read_part.ensures.only

pub loop-done-preserved : goal.loop-done-preserved
loop-done-preserved g c =
    let s = c.sides_of-sides.result in
    let part = c.part_from-part.result in
    let reads = c.loop-done.invariant.reads in
    let cells = take c.in-Ok.count c.read_part.new.cells in
    let next = c.part_from-part.ensures in
    let all = c.rows_of-rows.ensures.all (omega (arith, c.loop-done-test.true)) in
    record {
      reads = reads_on _ _ _ c.args.place reads c.read_part.ensures.only;
      room = c.read_part.ensures.room ∙ c.loop-done.invariant.room;
      within = fits_rows _ _ _ _ next.within all;
      buffer = c.write_section.ensures.kept;
      sink = NeverFalls-trans c.loop-done.invariant.sink c.write_section.ensures.cause.count;
      written = records_go _ _ s c.args.section c.loop-done.done part cells c.args.width _ _ _
          (cells_counted _ _ _ c.shape.ensures.sound)
          (subst (λ (d : Dimensions). AreSidesOf d s) c.shape.ensures.value c.sides_of-sides.ensures)
          next c.requires.section.below
          (given_before _ _ c.args.place reads part.window cells c.in-Ok.ensures.given)
          c.loop-done.invariant.written c.in-Ok-write_section.ensures.appended;
    }

pub returns-clause-writes : goal.returns-clause-writes
returns-clause-writes g c =
    let s = c.sides_of-sides.result in
    record {
      whole = records_end _ _ s _ c.loop-done.done c.rows_of-rows.result c.args.width _ _
          (subst (λ (d : Dimensions). AreSidesOf d s) c.shape.ensures.value c.sides_of-sides.ensures)
          c.rows_of-rows.ensures.cells (omega (arith, c.loop-done-test.false, c.loop-done.invariant.within))
          c.loop-done.invariant.written;
      part = tt;
    }

pub returns-clause-room : goal.returns-clause-room
returns-clause-room g c = record { for_cells = c.loop-done.invariant.room; for_bytes = c.loop-done.invariant.buffer }

pub returns-clause-damage : goal.returns-clause-damage
returns-clause-damage g c = grind (arith, common_steps) steps 2000000

pub returns-clause-only : goal.returns-clause-only
returns-clause-only g c = grind (arith, common_steps) steps 2000000

pub returns-clause-refusal : goal.returns-clause-refusal
returns-clause-refusal g c = grind (arith, common_steps) steps 2000000

pub returns-clause-sink : goal.returns-clause-sink
returns-clause-sink g c = grind (arith, common_steps) steps 2000000

pub returns-clause-source : goal.returns-clause-source
returns-clause-source g c = grind (arith, common_steps) steps 2000000

pub returns-in-Err-clause-damage : goal.returns-in-Err-clause-damage
returns-in-Err-clause-damage g c = grind (arith, common_steps) steps 2000000

pub returns-in-Err-clause-refusal : goal.returns-in-Err-clause-refusal
returns-in-Err-clause-refusal g c = grind (arith, common_steps) steps 2000000

pub returns-in-Err-clause-source : goal.returns-in-Err-clause-source
returns-in-Err-clause-source g c = grind (arith, common_steps) steps 2000000

pub returns-in-Err-write_section-clause-damage : goal.returns-in-Err-write_section-clause-damage
returns-in-Err-write_section-clause-damage g c = grind (arith, common_steps) steps 2000000

pub returns-in-Err-write_section-clause-refusal : goal.returns-in-Err-write_section-clause-refusal
returns-in-Err-write_section-clause-refusal g c = grind (arith, common_steps) steps 2000000

pub returns-in-Err-write_section-clause-sink : goal.returns-in-Err-write_section-clause-sink
returns-in-Err-write_section-clause-sink g c = grind (arith, common_steps) steps 2000000

pub returns-in-Err-write_section-clause-source : goal.returns-in-Err-write_section-clause-source
returns-in-Err-write_section-clause-source g c = grind (arith, common_steps) steps 2000000

pub returns-then-not-all_fit-clause-refusal : goal.returns-then-not-all_fit-clause-refusal
returns-then-not-all_fit-clause-refusal g c = grind (arith, common_steps) steps 2000000

pub returns-then-not-all_fit-clause-sink : goal.returns-then-not-all_fit-clause-sink
returns-then-not-all_fit-clause-sink g c = grind (arith, common_steps) steps 2000000

pub returns-then-not-all_fit-clause-source : goal.returns-then-not-all_fit-clause-source
returns-then-not-all_fit-clause-source g c = grind (arith, common_steps) steps 2000000
