use Rattle.std.proofs.Common.{◌≤◌, ℕ, ◌+◌, ◌*◌, length, get_or, take, sym, ap, ◌∙◌, arith}
use Rattle.std.proofs.lemmas.List.{length-take-le, length-append}
use Rattle.std.proofs.lemmas.Grind.{common_steps}
use Rattle.oe_sources.proofs.SizeLemmas.{bytes_few, starts_more, sum_more}
use Rattle.oe_wide.specs.Wide.{byte_count}
use Rattle.oe_wide.specs.declared.width.Width.TheVariants.{One}
use Rattle.oe_sources.proofs.sections.Sections.new.Goals as goal

pub end_after-end-requires-clause-start : goal.end_after-end-requires-clause-start
end_after-end-requires-clause-start c =
    let below : c.loop-width.width-index ≤ length c.args.widths.now = omega (arith, c.loop-width-test.true, c.loop-width.auto.width-index-end) in
    omega (arith, c.loop-width.invariant.end_is, bytes_few c.args.size c.args.widths.now (take c.loop-width.width-index c.args.widths.now) (omega (arith, length-take-le c.loop-width.width-index c.args.widths.now below)) c.requires)

pub loop-width-preserved : goal.loop-width-preserved
loop-width-preserved c =
    let pushed = c.in_ok-push.ensures.items in
    let after = c.end_after-end.ensures in
    record {
      counted = ap length pushed ∙ length-append c.loop-width.starts.items _ ∙ omega (arith, c.loop-width.invariant.counted);
      each = starts_more c.args.size c.args.widths.now c.loop-width.starts.items c.push.new.self.items c.loop-width.width-index c.loop-width.end c.loop-width.invariant.counted pushed c.loop-width.invariant.end_is c.loop-width.invariant.each;
      end_is = after ∙ ap (λ (n : ℕ). n + c.args.size * byte_count (get_or c.args.widths.now c.loop-width.width-index One)) c.loop-width.invariant.end_is
          ∙ sym (sum_more c.args.size c.args.widths.now c.loop-width.width-index One (omega (arith, c.loop-width-test.true, c.loop-width.auto.width-index-end)));
    }

pub returns-clause-starts : goal.returns-clause-starts
returns-clause-starts c = grind (arith, common_steps) steps 2000000
