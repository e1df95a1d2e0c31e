use Rattle.std.proofs.Common.{[], ◌∷◌, codes, refl}
use Rattle.serde_json.specs.View.{view}
use Rattle.oe_parts.proofs.HeadOne.{other_count}
use Rattle.oe_parts.proofs.head.read_range.Goals as goal

pub returns-then-range-ne2 : goal.returns-then-range-ne2
returns-then-range-ne2 c first end said =
    other_count (codes "range") (view c.args.value.now) c.in_ok-range.range.now 2 c.in_ok-range.ensures c.if-range-ne2.true (first ∷ end ∷ []) refl said
