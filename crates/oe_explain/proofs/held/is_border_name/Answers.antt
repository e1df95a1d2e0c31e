use Rattle.std.proofs.Common.{sym, ◌∙◌, codes, refl, true, false, Bool, is_some, ◌≡◌, Some, None, if◌then◌else◌}
use Rattle.oe_dims.proofs.OrderLemmas.{same_name-bytes_eq}
use Rattle.oe_dims.specs.Names.{same_name}
use Rattle.oe_kernel.specs.declared.border.Border.TheVariants.{Wrap}
use Rattle.oe_explain.proofs.held.is_border_name.Goals as goal

last : (b : Bool) → b ≡ is_some (if b then Some Wrap else None)
last true = refl
last false = refl

pub returns-else-eq-3 : goal.returns-else-eq-3
returns-else-eq-3 c =
    let name = c.args.name.now in
    let one = sym (c.eq.ensures ∙ same_name-bytes_eq name (codes "replicate")) ∙ c.if-eq.false in
    let two = sym (c.eq-else-eq.ensures ∙ same_name-bytes_eq name (codes "reflect")) ∙ c.if-eq-2.false in
    let three = sym (c.eq-else-eq-2.ensures ∙ same_name-bytes_eq name (codes "reflect_pixel")) ∙ c.if-eq-3.false in
    c.eq-else-eq-3.ensures ∙ same_name-bytes_eq name (codes "wrap") ∙ rw (one, two, three) (last (same_name name (codes "wrap")))
