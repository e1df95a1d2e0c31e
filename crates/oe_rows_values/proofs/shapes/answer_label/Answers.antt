use Rattle.std.proofs.Common.{refl}
use Rattle.std.proofs.lemmas.Option.{slice_get_within}
use Rattle.oe_rows_values.proofs.shapes.answer_label.Goals as goal

pub label_at-requires : goal.label_at-requires
label_at-requires c = slice_get_within _ _ _ ((c.in-Some.ensures.exact.there c.in-Some.index).0 refl)
