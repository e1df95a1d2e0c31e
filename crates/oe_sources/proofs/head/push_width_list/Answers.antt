use Rattle.std.proofs.Common.{◌≡◌, ◌<◌, ℕ, List, [], ◌++◌, length, map, get_or, take, decimal, sym, ap, ◌∙◌, append_assoc, arith}
use Rattle.std.proofs.lemmas.List.{get_or-map, length-map}
use Rattle.oe_render.specs.Text.{listed_text, separator}
use Rattle.oe_render.proofs.Texts.{listed_take}
use Rattle.oe_wide.specs.Wide.{byte_count}
use Rattle.oe_wide.specs.declared.width.Width.{Width}
use Rattle.oe_wide.specs.declared.width.Width.TheVariants.{One}
use Rattle.oe_sources.proofs.head.push_width_list.Goals as goal

pub loop-index-preserved : goal.loop-index-preserved
loop-index-preserved c =
    let ws = c.args.widths.now in
    let k = c.loop-index.index in
    let f : Width → List ℕ = λ w. decimal (byte_count w) in
    let parts = map f ws in
    let within : k < length ws = omega (arith, c.loop-index-test.true, c.loop-index.auto.index-end) in
    let there : k < length parts = omega (arith, within, length-map ws f) in
    let part : get_or parts k [] ≡ f (get_or ws k One) = get_or-map f ws k One [] within in
    let after = c.in_ok-push_width.ensures in
    after
    ∙ ap (λ (b : List ℕ). b ++ (separator k ++ f (get_or ws k One))) c.loop-index.invariant
    ∙ append_assoc c.args.bytes.now.items (listed_text (take k parts)) (separator k ++ f (get_or ws k One))
    ∙ ap (λ (t : List ℕ). c.args.bytes.now.items ++ t) (ap (λ (p : List ℕ). listed_text (take k parts) ++ (separator k ++ p)) (sym part) ∙ sym (listed_take parts k there))
