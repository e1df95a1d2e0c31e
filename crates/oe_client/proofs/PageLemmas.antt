-- The items of a JSON list, as the code has them.
use Rattle.std.proofs.Common.{[]}
