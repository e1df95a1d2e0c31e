use Rattle.std.proofs.Common.{◌≡◌, ◌+◌, ◌*◌, length, Option, IfSome, ap, ◌∙◌, arith}
use Rattle.std.proofs.lemmas.Grind.{common_steps, elements}
use Rattle.oe_dims.specs.Dimensions.{Dimensions, extent}
use Rattle.oe_sources.specs.Packed.{plane_size}
use Rattle.oe_sources.specs.Repacked.{IsWidthFrom}
use Rattle.oe_sources.specs.Source.{Contents}
use Rattle.oe_sources.proofs.RepackLemmas.{before_source, cells_counted, length-push, reads_nothing, reads_on, still_mounted, widths_begin, widths_end, widths_go}
use Rattle.oe_sources.proofs.repacking.find_widths.Goals as goal

pub returns-in-Err-clause-only : goal.returns-in-Err-clause-only
returns-in-Err-clause-only g c = reads_nothing _ c.args.place

pub loop-section-init : goal.loop-section-init
loop-section-init g c = record {
  reads = reads_nothing _ c.args.place;
  room = c.requires.enough;
  counted = ap length c.in-Ok.ensures.items;
  widths = widths_begin _ _ _ c.in-Ok.ensures.items;
}

pub section_width-requires-clause-section : goal.section_width-requires-clause-section
section_width-requires-clause-section g c =
    let reads = c.loop-section.invariant.reads in
    let count : c.section_count-count.result ≡ extent c.shape.result.now.t = c.section_count-count.ensures in
    record {
      mounted = still_mounted _ _ c.args.place reads c.requires.mounted;
      below = omega (arith, c.loop-section-test.true, count, ap (λ (d : Dimensions). extent d.t) c.shape.ensures.value, ap (λ (d : Dimensions). extent d.t) reads.shape);
      last = omega (arith, c.loop-section-test.true);
    }

pub returns-in_err-width-clause-only : goal.returns-in_err-width-clause-only
returns-in_err-width-clause-only g c = reads_on _ _ _ c.args.place c.loop-section.invariant.reads c.section_width.ensures.only

pub returns-in-Err-push-clause-only : goal.returns-in-Err-push-clause-only
returns-in-Err-push-clause-only g c = reads_on _ _ _ c.args.place c.loop-section.invariant.reads c.section_width.ensures.only

pub loop-section-preserved : goal.loop-section-preserved
loop-section-preserved g c =
    let reads = c.loop-section.invariant.reads in
    let count : c.section_count-count.result ≡ extent c.shape.result.now.t = c.section_count-count.ensures in
    let section = c.loop-section.section in
    let width = c.in_ok-width.width in
    record {
      reads = reads_on _ _ _ c.args.place reads c.section_width.ensures.only;
      room = c.section_width.ensures.room ∙ c.loop-section.invariant.room;
      counted = ap length c.in-Ok-push.ensures.items ∙ length-push c.loop-section.widths.items width ∙ ap (λ n. n + 1) c.loop-section.invariant.counted;
      widths = widths_go _ _ section c.loop-section.widths.items _ width
          (omega (arith, c.loop-section-test.true, count, ap (λ (d : Dimensions). extent d.t) c.shape.ensures.value))
          (cells_counted _ _ _ c.shape.ensures.sound) c.loop-section.invariant.counted c.in-Ok-push.ensures.items
          (before_source (λ (d : Dimensions) (o : Option Contents). IfSome o (λ v. IsWidthFrom v (section * plane_size d) (plane_size d) width)) _ _ c.args.place reads c.in_ok-width.ensures.width)
          c.loop-section.invariant.widths;
    }

pub returns-clause-widths : goal.returns-clause-widths
returns-clause-widths g c =
    let count : c.section_count-count.result ≡ extent c.shape.result.now.t = c.section_count-count.ensures in
    widths_end _ _ c.loop-section.section c.loop-section.widths.items
    (omega (arith, c.loop-section-test.false, c.loop-section.auto.section-end, count, ap (λ (d : Dimensions). extent d.t) c.shape.ensures.value))
    (cells_counted _ _ _ c.shape.ensures.sound) c.loop-section.invariant.widths

pub returns-clause-cause : goal.returns-clause-cause
returns-clause-cause g c = grind (arith, common_steps) steps 2000000

pub returns-clause-counted : goal.returns-clause-counted
returns-clause-counted g c = grind (arith, common_steps) steps 2000000

pub returns-clause-damage : goal.returns-clause-damage
returns-clause-damage g c = grind (arith, common_steps) steps 2000000

pub returns-clause-only : goal.returns-clause-only
returns-clause-only g c = grind (arith, common_steps) steps 2000000

pub returns-clause-refusal : goal.returns-clause-refusal
returns-clause-refusal g c = grind (arith, common_steps) steps 2000000

pub returns-clause-room : goal.returns-clause-room
returns-clause-room g c = grind (arith, common_steps) steps 2000000

pub returns-in-Err-clause-cause : goal.returns-in-Err-clause-cause
returns-in-Err-clause-cause g c = grind (arith, common_steps) steps 2000000

pub returns-in-Err-clause-counted : goal.returns-in-Err-clause-counted
returns-in-Err-clause-counted g c = grind (arith, common_steps) steps 2000000

pub returns-in-Err-clause-damage : goal.returns-in-Err-clause-damage
returns-in-Err-clause-damage g c = grind (arith, common_steps) steps 2000000

pub returns-in-Err-clause-refusal : goal.returns-in-Err-clause-refusal
returns-in-Err-clause-refusal g c = grind (arith, common_steps) steps 2000000

pub returns-in-Err-clause-room : goal.returns-in-Err-clause-room
returns-in-Err-clause-room g c = grind (arith, common_steps) steps 2000000

pub returns-in-Err-clause-widths : goal.returns-in-Err-clause-widths
returns-in-Err-clause-widths g c = grind (arith, common_steps) steps 2000000

pub returns-in-Err-push-clause-cause : goal.returns-in-Err-push-clause-cause
returns-in-Err-push-clause-cause g c = grind (arith, common_steps) steps 2000000

pub returns-in-Err-push-clause-counted : goal.returns-in-Err-push-clause-counted
returns-in-Err-push-clause-counted g c = grind (arith, common_steps) steps 2000000

pub returns-in-Err-push-clause-damage : goal.returns-in-Err-push-clause-damage
returns-in-Err-push-clause-damage g c = grind (arith, common_steps) steps 2000000

pub returns-in-Err-push-clause-refusal : goal.returns-in-Err-push-clause-refusal
returns-in-Err-push-clause-refusal g c = grind (arith, common_steps) steps 2000000

pub returns-in-Err-push-clause-room : goal.returns-in-Err-push-clause-room
returns-in-Err-push-clause-room g c = grind (arith, common_steps) steps 2000000

pub returns-in-Err-push-clause-widths : goal.returns-in-Err-push-clause-widths
returns-in-Err-push-clause-widths g c = grind (arith, common_steps) steps 2000000

pub returns-in_err-width-clause-cause : goal.returns-in_err-width-clause-cause
returns-in_err-width-clause-cause g c = grind (arith, common_steps) steps 2000000

pub returns-in_err-width-clause-counted : goal.returns-in_err-width-clause-counted
returns-in_err-width-clause-counted g c = grind (arith, common_steps) steps 2000000

pub returns-in_err-width-clause-damage : goal.returns-in_err-width-clause-damage
returns-in_err-width-clause-damage g c = grind (arith, elements) steps 2000000

pub returns-in_err-width-clause-refusal : goal.returns-in_err-width-clause-refusal
returns-in_err-width-clause-refusal g c = grind (arith, common_steps) steps 2000000

pub returns-in_err-width-clause-room : goal.returns-in_err-width-clause-room
returns-in_err-width-clause-room g c = grind (arith, common_steps) steps 2000000

pub returns-in_err-width-clause-widths : goal.returns-in_err-width-clause-widths
returns-in_err-width-clause-widths g c = grind (arith, common_steps) steps 2000000
