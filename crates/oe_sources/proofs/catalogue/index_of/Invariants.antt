use Rattle.std.proofs.Common.{◌≡◌, ◌+◌, drop}
use Rattle.std.specs.Option.{option_map}
use Rattle.oe_sources.specs.Catalogue.{mounted_index}
use Rattle.oe_sources.proofs.catalogue.index_of.Given as goal

abbrev pub invariant-loop-index : goal.invariant-loop-index
invariant-loop-index g l =
    option_map (λ n. n + l.index) (mounted_index (drop l.index l.rows) l.id) ≡ mounted_index l.rows l.id
