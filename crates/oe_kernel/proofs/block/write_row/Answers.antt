use Rattle.std.proofs.Common.{◌≡◌, ◌<◌, ◌∙◌, ◌+◌, ◌*◌, ℕ, ap, sym, arith, get_or}
use Rattle.oe_cell.specs.Operations.{multiply_of}
use Rattle.oe_cell.specs.declared.cell.Cell.TheVariants.{Empty, Number}
use Rattle.oe_kernel.specs.Convolution.{rows_added}
use Rattle.oe_kernel.specs.Strips.{unpacked}
use Rattle.oe_kernel.specs.declared.strip.TheConstants.{STRIP}
use Rattle.oe_kernel.proofs.ProgressLemmas.{items_more}
use Rattle.oe_kernel.proofs.block.write_row.Goals as goal
use Rattle.oe_kernel.proofs.block.write_row.Goals.{then-most-lt-STRIP, else-most-lt-STRIP}

pub loop-strip-preserved : goal.loop-strip-preserved
loop-strip-preserved c =
    let past : ℕ = c.loop-strip.strip * STRIP in
    let some : ℕ = c.if-most-lt-STRIP.some in
    let out = c.write_strip.new.out in
    let start : ℕ = c.args.start in
    let k = c.args.kernel.now in
    record {
      done = λ j near within.
          let here : j < past + some = elim c.if-most-lt-STRIP.branch [ then-most-lt-STRIP w ↦ omega arith | else-most-lt-STRIP w ↦ omega arith ] in
          items_more (λ (i : ℕ). i < c.args.count → get_or out (start + i) Empty ≡ multiply_of (rows_added (unpacked k c.args.pixels.now c.args.stride (c.args.first + i)) k.width k.height) (Number c.args.factor)) past some
          (λ i below short. c.write_strip.ensures.before (start + i) (omega arith) ∙ c.loop-strip.invariant.done i below short)
          (λ i below short.
          let index : start + past + i ≡ start + (past + i) = omega arith in
          let pixel : c.args.first + past + i ≡ c.args.first + (past + i) = omega arith in
          sym (ap (λ (n : ℕ). get_or out n Empty) index) ∙ c.write_strip.ensures.value i below ∙ ap (λ (n : ℕ). multiply_of (rows_added (unpacked k c.args.pixels.now c.args.stride n) k.width k.height) (Number c.args.factor)) pixel)
          j here within;
      before = λ j h. c.write_strip.ensures.before j (omega arith) ∙ c.loop-strip.invariant.before j h;
    }
