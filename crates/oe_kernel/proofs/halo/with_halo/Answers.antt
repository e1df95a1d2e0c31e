use Rattle.std.proofs.Common.{◌≡◌, ◌+◌, ◌-◌, arith}
use Rattle.std.specs.Prelude.{min}
use Rattle.oe_kernel.specs.Borders.{IsNear}
use Rattle.oe_kernel.specs.Kernels.{radius_of}
use Rattle.oe_kernel.proofs.WindowLemmas.{CoversWindow-near, CoversWindow-whole, CoversWindow-wider, near_unless_wrap, IsWrap-not}
use Rattle.oe_kernel.proofs.halo.with_halo.Goals as goal

pub returns-in-Wrap-clause-covers : goal.returns-in-Wrap-clause-covers
returns-in-Wrap-clause-covers c = λ at first end h low high.
    CoversWindow-wider c.args.border at c.args.size c.args.side 0 c.args.side first end low high (CoversWindow-whole c.args.border at c.args.size c.args.side (omega arith))

pub returns-in_default : goal.returns-in_default
returns-in_default c =
    let near : IsNear c.args.border = near_unless_wrap c.args.border c.in_default.not-Wrap in
    let first_is : c.saturating_sub.result ≡ c.args.from - radius_of c.args.size = omega arith in
    let end_is : c.min.result ≡ min c.args.side (c.args.to + radius_of c.args.size) = omega arith in
    record {
      covers = λ at first end h low high. CoversWindow-near c.args.border at c.args.size c.args.side first end near c.requires.odd (record { on = omega (arith, h.0, h.1); from = omega (arith, h.0, h.1); to = omega (arith, h.0, h.1) });
      before = omega arith;
      after = omega arith;
      on_side = omega arith;
      first = λ _. first_is;
      end = λ _. end_is;
      whole = λ w. absurd (IsWrap-not c.args.border c.in_default.not-Wrap w);
    }
