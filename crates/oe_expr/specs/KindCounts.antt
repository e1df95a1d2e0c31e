-- What is kept of a list of kinds.
use Rattle.std.specs.Prelude.{◌≡◌, List, Option}
use Rattle.std.specs.List.{list_any}
use Rattle.oe_dims.specs.declared.kind.CellKind.{CellKind}
use Rattle.oe_expr.specs.Kinds.{is_numbers, is_flags, kind_among}
use Rattle.oe_expr.specs.declared.kinds.Kinds.{Kinds}

pub record AreKindsOf (kinds : List (Option CellKind)) (k : Kinds) : Type 0 where
  pub first : k.first ≡ kind_among kinds
  pub numbers : k.numbers ≡ list_any is_numbers kinds
  pub flags : k.flags ≡ list_any is_flags kinds
