use Rattle.std.proofs.Common.{◌≡◌, ◌<◌, ℕ, List, [], ◌++◌, length, map, get_or, take, decimal, sym, ap, ◌∙◌, append_assoc, arith}
use Rattle.std.proofs.lemmas.List.{get_or-map, length-map}
use Rattle.oe_render.specs.Text.{listed_text, separator}
use Rattle.oe_render.proofs.Texts.{listed_take}
use Rattle.oe_parts.proofs.head.push_list.Goals as goal

pub loop-index-preserved : goal.loop-index-preserved
loop-index-preserved c =
    let ns = c.args.numbers.now in
    let k = c.loop-index.index in
    let parts = map decimal ns in
    let within : k < length ns = omega (arith, c.loop-index-test.true, c.loop-index.auto.index-end) in
    let there : k < length parts = omega (arith, within, length-map ns decimal) in
    let part : get_or parts k [] ≡ decimal (get_or ns k 0) = get_or-map decimal ns k 0 [] within in
    let after = c.in_ok-push_next.ensures in
    after
    ∙ ap (λ (b : List ℕ). b ++ (separator k ++ decimal (get_or ns k 0))) c.loop-index.invariant
    ∙ append_assoc c.args.bytes.now.items (listed_text (take k parts)) (separator k ++ decimal (get_or ns k 0))
    ∙ ap (λ (t : List ℕ). c.args.bytes.now.items ++ t) (ap (λ (p : List ℕ). listed_text (take k parts) ++ (separator k ++ p)) (sym part) ∙ sym (listed_take parts k there))
