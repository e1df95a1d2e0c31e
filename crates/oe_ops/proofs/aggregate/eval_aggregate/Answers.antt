use Rattle.std.proofs.Common.{◌≡◌, length, rules}
use Rattle.oe_cube.specs.Kinds.{IsOfKind}
use Rattle.oe_expr.specs.Callback.{callback_kind}
use Rattle.oe_meanings.specs.Meaning.{aggregated}
use Rattle.oe_ops.proofs.NodeLemmas.{all_of_none, nothing_there}
use Rattle.oe_ops.proofs.aggregate.eval_aggregate.Goals as goal

pub returns-then-is_empty : goal.returns-then-is_empty
returns-then-is_empty c =
    let none : length c.args.out.now ≡ 0 = search rules in
    record {
      value = λ cube whole same on. nothing_there (aggregated c.args.intervals.now c.args.expr.now cube) c.args.window.now c.args.out.now none c.requires.out.counted;
      kinds = all_of_none (IsOfKind (callback_kind c.args.expr.now)) c.args.out.now none;
    }
