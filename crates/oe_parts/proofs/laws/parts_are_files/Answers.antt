use Rattle.oe_parts.proofs.FileLemmas.{part_is_file}
use Rattle.oe_parts.proofs.laws.parts_are_files.Goals as goal

pub returns : goal.returns
returns c = part_is_file
