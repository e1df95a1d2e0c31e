use Rattle.std.proofs.Common.{◌≡◌, ◌*◌, ℕ, length, take, ap, ◌∙◌, subst, arith}
use Rattle.std.proofs.lemmas.List.{length-append}
use Rattle.oe_sources.specs.Packed.{AreLeastWidths}
use Rattle.oe_sources.proofs.PackingLemmas.{section_ends, sections_all, widths_all, widths_more}
use Rattle.oe_sources.proofs.packing.widths_of.Goals as goal

pub section_cells-requires : goal.section_cells-requires
section_cells-requires c =
    section_ends c.section_size-size.result c.loop-section.section c.section_count-count.result (length c.args.cells.now) c.loop-section-test.true (sections_all c.args.shape.now c.args.cells.now c.section_count-count.result c.section_size-size.result c.requires c.section_count-count.ensures c.section_size-size.ensures)

pub loop-section-preserved : goal.loop-section-preserved
loop-section-preserved c =
    let pushed = c.in_ok-push.ensures.items in
    record {
      counted = ap length pushed ∙ length-append c.loop-section.widths.items _ ∙ omega (arith, c.loop-section.invariant.counted);
      least = widths_more c.section_size-size.result c.loop-section.section c.section_count-count.result c.loop-section.widths.items c.push.new.self.items c.common_width.result c.args.cells.now c.section_cells.result.now c.loop-section-test.true (sections_all c.args.shape.now c.args.cells.now c.section_count-count.result c.section_size-size.result c.requires c.section_count-count.ensures c.section_size-size.ensures) c.loop-section.invariant.counted c.loop-section.invariant.least c.section_cells.ensures c.common_width.ensures pushed;
    }

pub returns-clause-least : goal.returns-clause-least
returns-clause-least c =
    let n = c.section_count-count.result in
    let size = c.section_size-size.result in
    let end : c.loop-section.section ≡ n = omega (arith, c.loop-section-test.false, c.loop-section.auto.section-end) in
    let least = subst (λ (k : ℕ). AreLeastWidths size c.loop-section.widths.items (take (k * size) c.args.cells.now)) end c.loop-section.invariant.least in
    subst (λ (m : ℕ). AreLeastWidths m c.loop-section.widths.items c.args.cells.now) c.section_size-size.ensures
    (widths_all size n c.loop-section.widths.items c.args.cells.now (sections_all c.args.shape.now c.args.cells.now c.section_count-count.result c.section_size-size.result c.requires c.section_count-count.ensures c.section_size-size.ensures) least)
