use Rattle.std.proofs.Common.{codes, ◌∙◌}
use Rattle.oe_dims.proofs.OrderLemmas.{same_name-bytes_eq}
use Rattle.oe_book.proofs.assets.is_save_result.Goals as goal

pub returns : goal.returns
returns c = c.eq.ensures ∙ same_name-bytes_eq c.args.process_id.now (codes "save_result")
