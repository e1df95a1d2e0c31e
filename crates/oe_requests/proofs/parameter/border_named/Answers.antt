use Rattle.std.proofs.Common.{sym, ◌∙◌, codes, refl}
use Rattle.oe_dims.proofs.OrderLemmas.{same_name-bytes_eq}
use Rattle.oe_requests.proofs.parameter.border_named.Goals as goal

pub returns-else-eq-4 : goal.returns-else-eq-4
returns-else-eq-4 c =
    let name = c.args.name.now in
    let one = sym (c.eq.ensures ∙ same_name-bytes_eq name (codes "replicate")) ∙ c.if-eq.false in
    let two = sym (c.eq-else-eq.ensures ∙ same_name-bytes_eq name (codes "reflect")) ∙ c.if-eq-2.false in
    let three = sym (c.eq-else-eq-2.ensures ∙ same_name-bytes_eq name (codes "reflect_pixel")) ∙ c.if-eq-3.false in
    let four = sym (c.eq-else-eq-3.ensures ∙ same_name-bytes_eq name (codes "wrap")) ∙ c.if-eq-4.false in
    rw (one, two, three, four) refl
