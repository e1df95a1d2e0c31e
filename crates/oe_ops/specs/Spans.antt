-- The least span of an argument with the indices that are needed for those of a span of a result.
use Rattle.std.specs.Prelude.{◌≡◌, ◌⊎◌, ℕ, ◌+◌, ◌<◌, ◌≤◌, nat_le, min, max, if◌then◌else◌}
use Rattle.std.specs.Prelude.{Bool, true, false, Option, Some, None}
use Rattle.oe_dims.specs.Dimensions.{Dimensions}
use Rattle.oe_dims.specs.declared.kind.Kind.{Kind}
use Rattle.oe_window.specs.Windows.{IsAlong, extent_along}
use Rattle.oe_window.specs.declared.window.Span.{Span}
use Rattle.oe_window.specs.declared.window.Window.{Window}
use Rattle.oe_ops.specs.Indices.{index_in_argument}
use Rattle.oe_ops.specs.Needs.{IsWithinReach}

-- ---- which index is needed for an index

-- the one of the same label
abbrev pub IsLabelAt : Kind → Dimensions → Dimensions → ℕ → ℕ → Type 0
IsLabelAt along shape argument i j = index_in_argument along shape argument i ≡ Some j

-- any of a side
abbrev pub IsAnyOf : ℕ → ℕ → ℕ → Type 0
IsAnyOf side i j = j < side

-- any where all are needed, and else the one of the same label
abbrev pub IsBeside : Bool → Kind → Dimensions → Dimensions → ℕ → ℕ → Type 0
IsBeside true along shape argument i j = j < extent_along argument along
IsBeside false along shape argument i j = index_in_argument along shape argument i ≡ Some j

-- those of a side that are within reach
pub record IsReached (whole : Bool) (reach side i j : ℕ) : Type 0 where
  pub on_side : j < side
  pub within : IsWithinReach whole reach i j

-- ---- the least span with all of them

-- an index is needed for one of the span
pub record IsNeededFor (needs : ℕ → ℕ → Type 0) (span : Span) (j : ℕ) : Type 0 where
  pub from : ℕ
  pub along : IsAlong span from
  pub needed : needs from j

-- the first and the last index of a span are needed for some of another
pub record EndsAreNeeded (needs : ℕ → ℕ → Type 0) (span found : Span) : Type 0 where
  pub first : IsNeededFor needs span found.from
  pub last : ℕ
  pub last_needed : IsNeededFor needs span last
  pub ends : found.to ≡ last + 1

-- it has each index that is needed; it has none where none is, and else its ends are needed
pub record IsSpanOf (needs : ℕ → ℕ → Type 0) (span found : Span) : Type 0 where
  pub holds : (j : ℕ) → IsNeededFor needs span j → IsAlong found j
  pub least : (found.to ≤ found.from) ⊎ EndsAreNeeded needs span found

-- a span with one more index
abbrev pub with_index : Span → ℕ → Span
with_index span j =
    if nat_le span.to span.from then record { from = j; to = j + 1 }
    else record { from = min span.from j; to = max span.to (j + 1) }

-- the same with an index that may have been found
abbrev pub with_found : Option ℕ → Span → Span
with_found None span = span
with_found (Some j) span = with_index span j

-- the window of four spans
abbrev pub product : Span → Span → Span → Span → Window
product t bands y x = record { t = t; bands = bands; y = y; x = x }
