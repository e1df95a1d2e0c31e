use Rattle.std.proofs.Common.{◌≡◌, [], ◌∷◌, codes, length, refl, arith}
use Rattle.serde_json.specs.View.{view}
use Rattle.oe_parts.proofs.HeadOne.{each_at, other_count, same_numbers}
use Rattle.oe_parts.proofs.head.read_sides.Goals as goal

pub returns-then-sides-ne3 : goal.returns-then-sides-ne3
returns-then-sides-ne3 c sides valid said =
    other_count (codes "chunk") (view c.args.value.now) c.in_ok-sides.sides.now 3 c.in_ok-sides.ensures c.if-sides-ne3.true (sides.x ∷ sides.y ∷ sides.t ∷ []) refl said

pub returns-in_err-side_in-3 : goal.returns-in_err-side_in-3
returns-in_err-side_in-3 c =
    let values = c.in_ok-sides.sides.now in
    let long : length values ≡ 3 = c.if-sides-ne3.false in
    rw c.from_residual-in_err-side_in-3.ensures (λ sides valid said.
    (let each = same_numbers (codes "chunk") (view c.args.value.now) values (sides.x ∷ sides.y ∷ sides.t ∷ []) c.in_ok-sides.ensures said in
    c.in_err-side_in-3.ensures sides.t valid.t (each_at values (sides.x ∷ sides.y ∷ sides.t ∷ []) 2 c.index-sides-2.result each (omega (arith, long)) c.index-sides-2.is)))
