-- The order of the rational numbers.
use Rattle.std.specs.Prelude.{pos, ◌*ℤ◌}
use Rattle.std.specs.Ordering.{int_cmp}
use Rattle.std.specs.declared.cmp.Ordering.{Ordering}
use Rattle.oe_cell.specs.Fraction.{Fraction}

-- how p / c and q / d stand to one another: as p d and q c do, for denominators above 0
abbrev pub compare_of : Fraction → Fraction → Ordering
compare_of p q = int_cmp (p.num *ℤ pos q.den) (q.num *ℤ pos p.den)
