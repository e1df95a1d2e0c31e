use Rattle.std.proofs.Common.{◌≡◌, ℕ, List, Some, length, ap, sym, ◌∙◌}
use Rattle.oe_wide.specs.Wide.{byte_count, record_in}
use Rattle.oe_wide.specs.declared.width.Width.{Width}
use Rattle.oe_wide.proofs.RowLemmas.{single_set}
use Rattle.oe_wide.proofs.records.write_wide.Goals as goal

pub returns-in-One : goal.returns-in-One
returns-in-One c =
    ap (λ (w : Width). record_in w c.args.cell) c.in-One.is ∙ c.tag_of.ensures
    ∙ ap Some (sym (single_set c.args.into.now c.tag_of.result (c.requires.room ∙ ap byte_count c.in-One.is)))
