use Rattle.std.proofs.Common.{◌≡◌, ◌<◌, ◌+◌, ℕ, Some, get_or, length, set, rules, sym, ◌∙◌, subst, arith}
use Rattle.std.specs.List.{slice_get}
use Rattle.std.proofs.lemmas.List.{length-map}
use Rattle.std.proofs.lemmas.Option.{slice_get-get_or}
use Rattle.oe_dims.specs.Positions.{IsPosition}
use Rattle.oe_outside.proofs.Causes.{NeverFalls-refl, NeverFalls-trans}
use Rattle.oe_parts.specs.Head.{PartHead}
use Rattle.oe_parts.specs.Laid.{AreLaid, HaveRecords, IsInFirst, LayStops}
use Rattle.oe_parts.specs.Parts.{IsPartRead, PartState, heads_of}
use Rattle.oe_parts.proofs.LaidLemmas.{changes_none, have_none, laid_none}
use Rattle.oe_parts.proofs.LayLemmas.{part_sets}
use Rattle.oe_parts.proofs.PartSteps.{AreAll, all_laid, head_there, lay_stops, part_cube, part_some, part_then, parts_read, parts_unread, shows_read, undamaged_more}
use Rattle.oe_parts.proofs.laying.lay_all.Goals as goal

pub loop-index-init : goal.loop-index-init
loop-index-init g c =
    let spool = g.P.Store.bytes c.args.spool.now in
    let sets = part_sets (heads_of c.args.parts.now) in
    let d = c.args.shape.now in
    record {
      cube = λ cube same shows. laid_none spool c.args.base cube sets;
      some = have_none spool c.args.base d sets;
      sound = λ k part below at. absurd (omega (arith, below));
      changes = changes_none spool c.args.base d (IsPosition d);
      read = parts_unread c.args.parts.now;
      falls = NeverFalls-refl (g.P.Store.faults c.args.spool.now);
      bytes = search rules;
    }

pub lay_one-requires : goal.lay_one-requires
lay_one-requires g c = record {
  room = record { base_low = c.requires.base; buffer_long = c.loop-index.invariant.bytes };
}

pub loop-index-preserved : goal.loop-index-preserved
loop-index-preserved g c =
    let first = c.args.parts.now in
    let parts = c.loop-index.parts in
    let heads = heads_of first in
    let k = c.loop-index.index in
    let d = c.args.shape.now in
    let old = get_or parts k c.index-parts-index.result in
    let new = c.lay_one.new.part in
    let below : k < length first = omega (arith, c.loop-index-test.true, c.loop-index.auto.index-end) in
    let within : k < length parts = omega (arith, below, c.loop-index.auto.parts) in
    let origin = get_or first k old in
    let at_first : slice_get first k ≡ Some origin = slice_get-get_or first k old below in
    let at : slice_get parts k ≡ Some old = slice_get-get_or parts k c.index-parts-index.result within in
    let read : IsPartRead origin old = c.loop-index.invariant.read.each k origin old at_first at in
    let head : slice_get heads k ≡ Some old.head = head_there first k origin old.head at_first read.head in
    let all : AreAll d heads = record { run = c.requires.whole.0; same = c.requires.whole.1; whole = c.requires.whole.2; shape = c.cells-cells.ensures.valid } in
    let before = g.P.Store.bytes c.loop-index.spool in
    let after = g.P.Store.bytes c.lay_one.new.spool in
    let base = c.args.base in
    let least = c.loop-index.least in
    let number = c.in-Ok.number in
    let changes = c.lay_one.ensures.changes in
    record {
      cube = λ cube same shows. subst (AreLaid after base cube (IsInFirst (part_sets heads) (k + 1))) (sym c.lesser-least.ensures)
          (part_cube before after base k d heads old.head all head changes cube least number same
          (c.in-Ok.ensures.cube cube (shows_read cube origin old read (shows k origin at_first)))
          (c.loop-index.invariant.cube cube same shows));
      some = subst (HaveRecords after base d (IsInFirst (part_sets heads) (k + 1))) (sym c.lesser-least.ensures)
          (part_some before after base k d heads old.head all head changes least number c.in-Ok.ensures.some c.loop-index.invariant.some);
      sound = undamaged_more first k origin old at_first read c.in-Ok.ensures.sound c.loop-index.invariant.sound;
      changes = part_then before after base k d heads old.head all head changes (g.P.Store.bytes c.args.spool.now) c.loop-index.invariant.changes;
      read = parts_read first parts k old new c.loop-index.invariant.read at c.lay_one.ensures.read;
      falls = NeverFalls-trans c.loop-index.invariant.falls c.lay_one.ensures.count;
      bytes = c.lay_one.auto.bytes ∙ c.loop-index.invariant.bytes;
    }

pub returns-in-Err-clause-stops : goal.returns-in-Err-clause-stops
returns-in-Err-clause-stops g c =
    let first = c.args.parts.now in
    let parts = c.loop-index.parts in
    let k = c.loop-index.index in
    let old = get_or parts k c.index-parts-index.result in
    let new = c.lay_one.new.part in
    let below : k < length first = omega (arith, c.loop-index-test.true, c.loop-index.auto.index-end) in
    let within : k < length parts = omega (arith, below, c.loop-index.auto.parts) in
    let origin = get_or first k old in
    let at_first : slice_get first k ≡ Some origin = slice_get-get_or first k old below in
    let at : slice_get parts k ≡ Some old = slice_get-get_or parts k c.index-parts-index.result within in
    let read : IsPartRead origin old = c.loop-index.invariant.read.each k origin old at_first at in
    let faults = g.P.Store.faults c.args.spool.now in
    let after = g.P.Store.faults c.lay_one.new.spool in
    subst (LayStops first (set parts k new) faults after) (sym c.fail_at.ensures)
    (lay_stops first parts k faults (g.P.Store.faults c.loop-index.spool) after origin old new c.in-Err.fail at_first at read c.loop-index.invariant.falls c.in-Err.ensures.stops)

pub returns-in-Err-clause-read : goal.returns-in-Err-clause-read
returns-in-Err-clause-read g c =
    let parts = c.loop-index.parts in
    let k = c.loop-index.index in
    let old = get_or parts k c.index-parts-index.result in
    let within : k < length parts = omega (arith, c.loop-index-test.true, c.loop-index.auto.index-end, c.loop-index.auto.parts) in
    let at : slice_get parts k ≡ Some old = slice_get-get_or parts k c.index-parts-index.result within in
    parts_read c.args.parts.now parts k old c.lay_one.new.part c.loop-index.invariant.read at c.lay_one.ensures.read

pub returns-in-Err-clause-changes : goal.returns-in-Err-clause-changes
returns-in-Err-clause-changes g c =
    let first = c.args.parts.now in
    let parts = c.loop-index.parts in
    let heads = heads_of first in
    let k = c.loop-index.index in
    let d = c.args.shape.now in
    let old = get_or parts k c.index-parts-index.result in
    let below : k < length first = omega (arith, c.loop-index-test.true, c.loop-index.auto.index-end) in
    let within : k < length parts = omega (arith, below, c.loop-index.auto.parts) in
    let origin = get_or first k old in
    let at_first : slice_get first k ≡ Some origin = slice_get-get_or first k old below in
    let at : slice_get parts k ≡ Some old = slice_get-get_or parts k c.index-parts-index.result within in
    let read : IsPartRead origin old = c.loop-index.invariant.read.each k origin old at_first at in
    let head : slice_get heads k ≡ Some old.head = head_there first k origin old.head at_first read.head in
    let all : AreAll d heads = record { run = c.requires.whole.0; same = c.requires.whole.1; whole = c.requires.whole.2; shape = c.cells-cells.ensures.valid } in
    part_then (g.P.Store.bytes c.loop-index.spool) (g.P.Store.bytes c.lay_one.new.spool) c.args.base k d heads old.head all head c.lay_one.ensures.changes (g.P.Store.bytes c.args.spool.now) c.loop-index.invariant.changes

pub returns-in-Err-clause-count : goal.returns-in-Err-clause-count
returns-in-Err-clause-count g c = NeverFalls-trans c.loop-index.invariant.falls c.lay_one.ensures.count

pub returns-clause-laid : goal.returns-clause-laid
returns-clause-laid g c =
    let parts = c.args.parts.now in
    let heads = heads_of parts in
    let d = c.args.shape.now in
    let spool = g.P.Store.bytes c.loop-index.spool in
    let base = c.args.base in
    let least = c.loop-index.least in
    let f : PartState → PartHead = λ part. part.head in
    let last : c.loop-index.index ≡ length heads = omega (arith, c.loop-index-test.false, c.loop-index.auto.index-end, length-map parts f) in
    let all : AreAll d heads = record { run = c.requires.whole.0; same = c.requires.whole.1; whole = c.requires.whole.2; shape = c.cells-cells.ensures.valid } in
    all_laid spool base d parts least all
    (λ cube same shows. subst (λ (m : ℕ). AreLaid spool base cube (IsInFirst (part_sets heads) m) least) last (c.loop-index.invariant.cube cube same shows))
    (subst (λ (m : ℕ). HaveRecords spool base d (IsInFirst (part_sets heads) m) least) last c.loop-index.invariant.some)
    (λ k part below at. c.loop-index.invariant.sound k part (omega (arith, c.loop-index-test.false, below)) at)
