use Rattle.std.proofs.Common.{◌≡◌, ◌∙◌, ap, sym, w64, to_z, of_z}
use Rattle.std.specs.Prelude.{ℤ}
use Rattle.std.proofs.lemmas.Int.{to_z-of_z}
use Rattle.oe_kernel.specs.Borders.{border_position}
use Rattle.oe_kernel.proofs.BorderLemmas.{on_from, border_position-on, border_position-period, border_position-none}
use Rattle.oe_kernel.proofs.border.border_index.Goals as goal

pub returns-clause-inside : goal.returns-clause-inside
returns-clause-inside c =
    let same : to_z w64 (of_z w64 c.args.at) ≡ c.args.at = to_z-of_z w64 c.args.at c.ranges.at in
    let value : c.index_of.result ≡ border_position c.args.border c.args.at c.args.side = c.index_of.ensures.value ∙ ap (λ (z : ℤ). border_position c.args.border z c.args.side) same in
    λ low high. value ∙ border_position-on c.args.border c.args.at c.args.side (on_from c.args.at c.args.side low high)

pub returns-clause-repeats : goal.returns-clause-repeats
returns-clause-repeats c =
    let same : to_z w64 (of_z w64 c.args.at) ≡ c.args.at = to_z-of_z w64 c.args.at c.ranges.at in
    let value : c.index_of.result ≡ border_position c.args.border c.args.at c.args.side = c.index_of.ensures.value ∙ ap (λ (z : ℤ). border_position c.args.border z c.args.side) same in
    border_position-period c.args.border c.args.at c.args.side c.requires.some ∙ sym value

pub returns-clause-none : goal.returns-clause-none
returns-clause-none c =
    let same : to_z w64 (of_z w64 c.args.at) ≡ c.args.at = to_z-of_z w64 c.args.at c.ranges.at in
    let value : c.index_of.result ≡ border_position c.args.border c.args.at c.args.side = c.index_of.ensures.value ∙ ap (λ (z : ℤ). border_position c.args.border z c.args.side) same in
    border_position-none c.args.border c.args.at c.args.side c.index_of.result value
