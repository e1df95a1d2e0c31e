use Rattle.std.proofs.Common.{◌≡◌, ◌<◌, ◌≤◌, ◌∙◌, ◌+◌, ◌*◌, ℕ, ap, sym, subst, arith, get_or}
use Rattle.oe_cell.specs.declared.cell.Cell.TheVariants.{Empty}
use Rattle.oe_kernel.specs.Convolution.{CoversWindow, convolved}
use Rattle.oe_kernel.specs.declared.strip.TheConstants.{STRIP}
use Rattle.oe_kernel.proofs.ProgressLemmas.{items_more}
use Rattle.oe_kernel.proofs.strip.convolve_strips.Goals as goal
use Rattle.oe_kernel.proofs.strip.convolve_strips.Goals.{then-most-lt-STRIP, else-most-lt-STRIP}

pub convolve_strip-requires-clause-strip : goal.convolve_strip-requires-clause-strip
convolve_strip-requires-clause-strip c =
    let first : ℕ = c.loop-strip.strip * STRIP in
    let some : ℕ = c.if-most-lt-STRIP.some in
    let any : 0 < some = elim c.if-most-lt-STRIP.branch [ then-most-lt-STRIP w ↦ omega arith | else-most-lt-STRIP w ↦ omega arith ] in
    let most : some ≤ STRIP = elim c.if-most-lt-STRIP.branch [ then-most-lt-STRIP w ↦ omega arith | else-most-lt-STRIP w ↦ omega arith ] in
    let within : first + some ≤ c.args.count = elim c.if-most-lt-STRIP.branch [ then-most-lt-STRIP w ↦ omega arith | else-most-lt-STRIP w ↦ omega arith ] in
    record {
      windows = record {
        plane = c.requires.windows.plane;
        x_in = omega arith;
        y_in = c.requires.windows.y_in;
        rows = c.requires.windows.rows;
        columns = λ k h.
            let place : c.args.x + (first + k) ≡ c.args.x + first + k = omega arith in
            subst (λ (x : ℕ). CoversWindow c.args.border.now x c.args.kernel.now.width c.args.plane.now.side_x c.args.plane.now.from_x c.args.plane.now.to_x) place (c.requires.windows.columns (first + k) (omega arith));
      };
      some = any;
      most = most;
      end = omega arith;
    }

pub loop-strip-preserved : goal.loop-strip-preserved
loop-strip-preserved c =
    let first : ℕ = c.loop-strip.strip * STRIP in
    let some : ℕ = c.if-most-lt-STRIP.some in
    let out = c.convolve_strip.new.out in
    let start : ℕ = c.args.start in
    record {
      done = λ whole part j near within.
          let here : j < first + some = elim c.if-most-lt-STRIP.branch [ then-most-lt-STRIP w ↦ omega arith | else-most-lt-STRIP w ↦ omega arith ] in
          items_more (λ (i : ℕ). i < c.args.count → get_or out (start + i) Empty ≡ convolved c.args.kernel.now c.args.factor c.args.border.now c.args.replace whole c.args.y (c.args.x + i)) first some
          (λ i below short. c.convolve_strip.ensures.before (start + i) (omega arith) ∙ c.loop-strip.invariant.done whole part i below short)
          (λ k below short.
          let index : start + first + k ≡ start + (first + k) = omega arith in
          let column : c.args.x + first + k ≡ c.args.x + (first + k) = omega arith in
          sym (ap (λ (n : ℕ). get_or out n Empty) index) ∙ c.convolve_strip.ensures.value whole part k below ∙ ap (λ (x : ℕ). convolved c.args.kernel.now c.args.factor c.args.border.now c.args.replace whole c.args.y x) column)
          j here within;
      before = λ j h. c.convolve_strip.ensures.before j (omega arith) ∙ c.loop-strip.invariant.before j h;
    }
