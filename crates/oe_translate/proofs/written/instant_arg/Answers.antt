use Rattle.oe_translate.proofs.written.instant_arg.Goals as goal
use Rattle.oe_dims.proofs.SpelledLemmas.{instant_utf8}

pub unreachable-requires : goal.unreachable-requires
unreachable-requires c = c.in-Err.ensures.cases.0 (instant_utf8 c.print_instant-bytes.result _ c.print_instant-bytes.ensures.read)
