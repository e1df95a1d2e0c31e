use Rattle.std.proofs.Common.{◌≡◌, ◌*◌, ◌<◌, length, get_or, take, drop, Option, IfSome, ap, ◌∙◌, arith}
use Rattle.std.proofs.lemmas.List.{take_all}
use Rattle.std.proofs.lemmas.Grind.{common_steps, elements}
use Rattle.oe_dims.specs.Dimensions.{Dimensions, extent}
use Rattle.oe_outside.proofs.Causes.{NeverFalls-refl, NeverFalls-trans}
use Rattle.oe_outside.specs.Visible.{Appends, AppendsPrefix}
use Rattle.oe_sources.specs.Packed.{plane_size}
use Rattle.oe_sources.specs.Source.{Contents}
use Rattle.oe_wide.specs.Wide.{AllFitIn, records_in}
use Rattle.oe_wide.specs.declared.width.Width.TheVariants.{One}
use Rattle.oe_sources.proofs.RepackLemmas.{after_source, before_source, reads_nothing, reads_on, section_fit, sections_begin, sections_go, sections_stop, still_mounted}
use Rattle.oe_sources.proofs.repacking.write_all.Goals as goal

pub loop-section-init : goal.loop-section-init
loop-section-init g c = record {
  reads = reads_nothing _ c.args.place;
  room = c.requires.enough;
  buffer = c.requires.buffer;
  sink = NeverFalls-refl _;
  written = sections_begin _ _ 0 c.args.widths.now;
}

pub write_one-requires-clause-section : goal.write_one-requires-clause-section
write_one-requires-clause-section g c =
    let reads = c.loop-section.invariant.reads in
    let count : c.section_count-count.result ≡ extent c.shape.result.now.t = c.section_count-count.ensures in
    record {
      mounted = still_mounted _ _ c.args.place reads c.requires.mounted;
      below = omega (arith, c.loop-section-test.true, count, ap (λ (d : Dimensions). extent d.t) c.shape.ensures.value, ap (λ (d : Dimensions). extent d.t) reads.shape);
      last = omega (arith, c.loop-section-test.true);
    }

pub write_one-requires-clause-fit : goal.write_one-requires-clause-fit
write_one-requires-clause-fit g c =
    let reads = c.loop-section.invariant.reads in
    let section = c.loop-section.section in
    let ws = c.args.widths.now in
    let count : c.section_count-count.result ≡ extent c.shape.result.now.t = c.section_count-count.ensures in
    let below : section < length ws = omega (arith, c.loop-section-test.true, count, ap (λ (d : Dimensions). extent d.t) c.shape.ensures.value, c.requires.widths.counted) in
    after_source (λ (d : Dimensions) (o : Option Contents). IfSome o (λ v. AllFitIn (get_or ws section One) (take (plane_size d) (drop (section * plane_size d) v.cells)))) _ _ c.args.place reads
    (section_fit _ _ ws section One below c.requires.widths.least)

pub write_one-requires-clause-room : goal.write_one-requires-clause-room
write_one-requires-clause-room g c =
    record { for_cells = c.loop-section.invariant.room; for_bytes = c.loop-section.invariant.buffer }

pub returns-in-Err-clause-writes : goal.returns-in-Err-clause-writes
returns-in-Err-clause-writes g c =
    let reads = c.loop-section.invariant.reads in
    let section = c.loop-section.section in
    let ws = c.args.widths.now in
    let count : c.section_count-count.result ≡ extent c.shape.result.now.t = c.section_count-count.ensures in
    let below : section < length ws = omega (arith, c.loop-section-test.true, count, ap (λ (d : Dimensions). extent d.t) c.shape.ensures.value, c.requires.widths.counted) in
    let from = g.O.Sink.written c.loop-section.out in
    let to = g.O.Sink.written c.write_one.new.out in
    record {
      whole = tt;
      part = sections_stop _ _ ws section One _ from to below c.loop-section.invariant.written
          (before_source (λ (d : Dimensions) (o : Option Contents). IfSome o (λ v. AppendsPrefix from (records_in (get_or ws section One) (take (plane_size d) (drop (section * plane_size d) v.cells))) to)) _ _ c.args.place reads c.in-Err.ensures.writes.part);
    }

pub returns-in-Err-clause-only : goal.returns-in-Err-clause-only
returns-in-Err-clause-only g c = reads_on _ _ _ c.args.place c.loop-section.invariant.reads c.write_one.ensures.only

pub loop-section-preserved : goal.loop-section-preserved
loop-section-preserved g c =
    let reads = c.loop-section.invariant.reads in
    let section = c.loop-section.section in
    let ws = c.args.widths.now in
    let count : c.section_count-count.result ≡ extent c.shape.result.now.t = c.section_count-count.ensures in
    let below : section < length ws = omega (arith, c.loop-section-test.true, count, ap (λ (d : Dimensions). extent d.t) c.shape.ensures.value, c.requires.widths.counted) in
    let from = g.O.Sink.written c.loop-section.out in
    let to = g.O.Sink.written c.write_one.new.out in
    record {
      reads = reads_on _ _ _ c.args.place reads c.write_one.ensures.only;
      room = c.write_one.ensures.room.for_cells;
      buffer = c.write_one.ensures.room.for_bytes;
      sink = NeverFalls-trans c.loop-section.invariant.sink c.write_one.ensures.sink.count;
      written = sections_go _ _ ws section One _ from to below c.loop-section.invariant.written
          (before_source (λ (d : Dimensions) (o : Option Contents). IfSome o (λ v. Appends from (records_in (get_or ws section One) (take (plane_size d) (drop (section * plane_size d) v.cells))) to)) _ _ c.args.place reads c.in-Ok.ensures.writes.whole);
    }

pub returns-clause-writes : goal.returns-clause-writes
returns-clause-writes g c =
    let section = c.loop-section.section in
    let ws = c.args.widths.now in
    let count : c.section_count-count.result ≡ extent c.shape.result.now.t = c.section_count-count.ensures in
    let all : take section ws ≡ ws = take_all section ws (omega (arith, c.loop-section-test.false, count, ap (λ (d : Dimensions). extent d.t) c.shape.ensures.value, c.requires.widths.counted)) in
    record { whole = rw all at c.loop-section.invariant.written; part = tt }

pub returns-clause-damage : goal.returns-clause-damage
returns-clause-damage g c = grind (arith, common_steps) steps 2000000

pub returns-clause-only : goal.returns-clause-only
returns-clause-only g c = grind (arith, common_steps) steps 2000000

pub returns-clause-refusal : goal.returns-clause-refusal
returns-clause-refusal g c = grind (arith, common_steps) steps 2000000

pub returns-clause-sink : goal.returns-clause-sink
returns-clause-sink g c = grind (arith, common_steps) steps 2000000

pub returns-clause-source : goal.returns-clause-source
returns-clause-source g c = grind (arith, common_steps) steps 2000000

pub returns-in-Err-clause-damage : goal.returns-in-Err-clause-damage
returns-in-Err-clause-damage g c = grind (arith, elements) steps 2000000

pub returns-in-Err-clause-refusal : goal.returns-in-Err-clause-refusal
returns-in-Err-clause-refusal g c = grind (arith, common_steps) steps 2000000

pub returns-in-Err-clause-sink : goal.returns-in-Err-clause-sink
returns-in-Err-clause-sink g c = grind (arith, common_steps) steps 2000000

pub returns-in-Err-clause-source : goal.returns-in-Err-clause-source
returns-in-Err-clause-source g c = grind (arith, common_steps) steps 2000000
