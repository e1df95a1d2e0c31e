use Rattle.std.proofs.Common.{◌≡◌}
use Rattle.oe_sources.proofs.catalogue.Catalogue.share_labels.Given as goal

abbrev pub invariant-loop-row : goal.invariant-loop-row
invariant-loop-row g l = l.shape ≡ l.fn.shape
