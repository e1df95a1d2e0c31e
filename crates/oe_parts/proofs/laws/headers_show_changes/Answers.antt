use Rattle.oe_parts.proofs.ChangedLemmas.{same_heads}
use Rattle.oe_parts.proofs.laws.headers_show_changes.Goals as goal

pub returns : goal.returns
returns c bytes changed head other h = same_heads bytes changed head other h.is_file h.changed_is_file h.as_long h.one_result h.one_byte
