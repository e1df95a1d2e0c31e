-- Extents in space and in time, the labels that lie inside them, and the shape of a cube of which these are kept.
use Rattle.std.specs.Prelude.{ℕ, ℤ, ◌&&◌, Bool, true, false, not, int_le, int_lt, List, filter, count_by, Option, Some, None, unwrap_or}
use Rattle.std.specs.Option.{option_map, option_map_or}
use Rattle.oe_dims.specs.Dimensions.{Dimensions}
use Rattle.oe_expr.specs.declared.scope.ListPart.{ListPart}
use Rattle.oe_requests.specs.declared.extent.BoundingBox.{BoundingBox}
use Rattle.oe_requests.specs.declared.extent.TemporalExtent.{TemporalExtent}

-- ---- in time

-- An extent goes from an instant, which is inside, to another, which is not; one that is missing does not limit
-- (left-closed temporal extents of openEO Processes).

-- the instant is not before the start
abbrev pub has_begun : TemporalExtent → ℤ → Bool
has_begun e label = option_map_or (λ start. int_le start label) e.start true

-- the instant is before the end
abbrev pub has_not_ended : TemporalExtent → ℤ → Bool
has_not_ended e label = option_map_or (λ end. int_lt label end) e.end true

-- the instant lies inside
abbrev pub is_in_time : TemporalExtent → ℤ → Bool
is_in_time e label = has_begun e label && has_not_ended e label

-- its end is not later than its start (empty by a rule of this profile)
abbrev pub is_empty_extent : TemporalExtent → Bool
is_empty_extent e = option_map_or (λ start. option_map_or (λ end. int_le end start) e.end false) e.start false

-- the labels inside, in their order
abbrev pub labels_in_time : TemporalExtent → List ℤ → List ℤ
labels_in_time e labels = filter (is_in_time e) labels

-- the indices of the labels inside, among labels that rise: from as many as lie before the start up to as many as lie
-- before the end
abbrev pub part_in_time : TemporalExtent → List ℤ → ListPart
part_in_time e labels =
    record { from = count_by (λ label. not (has_begun e label)) labels; to = count_by (has_not_ended e) labels }

-- ---- in space

-- A box stands in the reference system of an EPSG code (bounding boxes of openEO Processes); by a rule of this profile
-- a pixel is inside by its label, on a border too.

-- a pixel lies inside by its labels along x and y
abbrev pub is_across : BoundingBox → ℤ → Bool
is_across box label = int_le box.west label && int_le label box.east

abbrev pub is_up : BoundingBox → ℤ → Bool
is_up box label = int_le box.south label && int_le label box.north

-- ---- what is kept of a cube

-- the labels inside a box and inside a temporal extent, and the bands that are given, in the order in which they are
-- given; what is not restricted is kept whole
pub record Restriction : Type 0 where
  pub box : Option BoundingBox
  pub time : Option TemporalExtent
  pub bands : Option (List (List ℕ))

abbrev pub no_restriction : Restriction
no_restriction = record { box = None; time = None; bands = None }

-- the labels inside an extent, where there is one
abbrev pub kept_labels : {E : Type 0} → (E → ℤ → Bool) → Option E → Option (List ℤ) → Option (List ℤ)
kept_labels is_inside None labels = labels
kept_labels is_inside (Some extent) labels = option_map (filter (is_inside extent)) labels

-- the given bands, where there are any, of a cube that has bands
abbrev pub kept_bands : Option (List (List ℕ)) → Option (List (List ℕ)) → Option (List (List ℕ))
kept_bands given labels = option_map (λ names. unwrap_or given names) labels

-- the shape of what is kept; a dimension may be left without labels (rule of this profile)
abbrev pub shape_of_restriction : Restriction → Dimensions → Dimensions
shape_of_restriction r d = record {
  epsg = d.epsg;
  t = kept_labels is_in_time r.time d.t;
  bands = kept_bands r.bands d.bands;
  y = kept_labels is_up r.box d.y;
  x = kept_labels is_across r.box d.x;
}
