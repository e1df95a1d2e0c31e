-- Calendar periods of a cube's labels of t (openEO Processes, `aggregate_temporal_period`).
use Rattle.std.specs.Prelude.{ℕ, ℤ, List, map, Option, Some}
use Rattle.oe_dims.specs.Dimensions.{Dimensions, number_labels}
use Rattle.oe_dims.specs.declared.kind.Kind.TheVariants.{Time}
use Rattle.oe_periods.specs.Calendar.{period_start, period_end}
use Rattle.oe_periods.specs.Periods.{period_numbers, period_starts}
use Rattle.oe_periods.specs.declared.calendar.Period.{Period}
use Rattle.oe_requests.specs.Parameters.{extent_from, labelled_interval}
use Rattle.oe_requests.specs.declared.extent.Interval.{Interval}

-- a period as an interval, which is labelled by its first instant
abbrev pub period_interval : Period → ℕ → Interval
period_interval period number =
    labelled_interval (extent_from (Some (period_start period number)) (period_end period number))
    (period_start period number)

-- all periods of some labels
abbrev pub period_intervals : Period → List ℤ → List Interval
period_intervals period labels = map (period_interval period) (period_numbers period labels)

-- the shape with one label of t for each of them
abbrev pub period_shape : Period → Dimensions → Dimensions
period_shape period d = record d { t = Some (period_starts period (number_labels d Time)) }
