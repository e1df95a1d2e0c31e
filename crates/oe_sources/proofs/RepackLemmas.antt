-- Collections that are read section by section and part by part: which cells the parts have, and what their widths and
-- records make together.
use Rattle.std.proofs.Common.{◌≡◌, ℕ, zero, suc, ◌+◌, ◌-◌, ◌*◌, ◌/◌, ◌%◌, ◌<◌, ◌≤◌, max, min, List, [], ◌∷◌, ◌++◌, length, map, get_or, take, drop, append_assoc, IfSome, IsErrOf, Option, Some, None, Err, refl, sym, subst, ap, ◌∙◌, arith, inl, inr}
use Rattle.std.proofs.lemmas.Bool.{cases_lt}
use Rattle.std.proofs.lemmas.List.{append-nil, drop-drop, drop-take, length-append, take-take}
use Rattle.std.proofs.Math.Seq.{drop-append_seam, take-add, take-append_seam}
use Rattle.std.proofs.lemmas.List.Elements.{All-append, All-drop, All-take}
use Rattle.std.proofs.lemmas.Nat.{div-add-mod', div_below, le-div, mod_below, mul-le}
use Rattle.std.specs.List.{Contains, flat_map, range_with_len, slice_get, slice_range}
use Rattle.std.specs.Option.{option_map}
use Rattle.oe_cell.specs.declared.cell.Cell.{Cell}
use Rattle.oe_cell.specs.declared.cell.Cell.TheVariants.{Empty}
use Rattle.oe_cube.specs.Collections.{IsCollection}
use Rattle.oe_dims.specs.Dimensions.{Dimensions, cell_count, extent}
use Rattle.oe_dims.specs.Positions.{number_of}
use Rattle.oe_dims.specs.declared.kind.CellKind.{CellKind}
use Rattle.oe_dims.proofs.CubeLemmas.{number_below}
use Rattle.oe_dims.proofs.FlatMapLemmas.{flat_map-same, value_at}
use Rattle.oe_outside.specs.Faults.{HasCauseOf, NeverFalls}
use Rattle.oe_outside.specs.Visible.{Appends, AppendsPrefix}
use Rattle.oe_outside.proofs.Causes.{NeverFalls-refl, NeverFalls-trans}
use Rattle.oe_sources.specs.Catalogue.{OnlyReads, Row, rows_at, source_at}
use Rattle.oe_sources.specs.Packed.{AreLeastWidths, plane_size, section_records}
use Rattle.oe_sources.specs.Repacked.{AreSidesOf, AreUndamaged, AreWidthsOf, IsDamagedPosition, IsNextPart, IsReadRefusal, IsWidthFrom, TellsRepackDamage}
use Rattle.oe_sources.specs.Source.{AreCellsOf, Contents, IsDamagedIn, Source, collection_with}
use Rattle.oe_sources.specs.declared.repacking.Part.{Part}
use Rattle.oe_sources.specs.declared.repacking.RepackFail.{RepackFail}
use Rattle.oe_sources.specs.declared.repacking.RepackFail.TheVariants.{SourceFailed, SourceDamaged, SinkFailed, OutOfMemory}
use Rattle.oe_sources.specs.declared.repacking.Sides.{Sides}
use Rattle.oe_sources.proofs.PackingLemmas.{none_written, part_fit, part_fits, piece_more, piece_prefix, planes_count, prefix_more, next_records, records_more, section_is, widths_all, widths_more}
use Rattle.oe_wide.specs.Wide.{AllFitIn, FitsIn, IsLeastWidth, byte_count, records_in}
use Rattle.oe_wide.specs.declared.width.Width.{Width}
use Rattle.oe_wide.specs.declared.width.Width.TheVariants.{One, Nine, Seventeen}
use Rattle.oe_wide.proofs.WidthLemmas.{fits_wider}
use Rattle.oe_window.specs.Layouts.{box_numbers, cube_sides, first_number}
use Rattle.oe_window.specs.Runs.{window_numbers}
use Rattle.oe_window.specs.Windows.{Holds, positions, whole_window}
use Rattle.oe_window.specs.declared.window.Span.{Span}
use Rattle.oe_window.specs.declared.window.Window.{Window}
use Rattle.oe_window.proofs.CellLemmas.{cells_on-numbers, range_of_list}
use Rattle.oe_window.proofs.NumberLemmas.{runs_within, window-box}
use Rattle.oe_window.proofs.RangeLemmas.{slice_get-range}
use Rattle.oe_window.proofs.RunLemmas.{touching}
use Rattle.oe_window.proofs.WholeLemmas.{position_in}
use Rattle.oe_window.proofs.WindowLemmas.{position_number}

-- ---- reads one after the other

length-rows_at : (rows : List Row) (index : ℕ) (s : Source) → length (rows_at rows index s) ≡ length rows
length-rows_at [] index s = refl
length-rows_at (row ∷ rows) zero s = refl
length-rows_at (row ∷ rows) (suc index) s = ap suc (length-rows_at rows index s)

rows_at_again : (rows : List Row) (index : ℕ) (s t : Source) → rows_at (rows_at rows index s) index t ≡ rows_at rows index t
rows_at_again [] index s t = refl
rows_at_again (row ∷ rows) zero s t = refl
rows_at_again (row ∷ rows) (suc index) s t = ap (λ rest. row ∷ rest) (rows_at_again rows index s t)

rows_at_same : (rows : List Row) (index : ℕ) → rows_at rows index (source_at rows index) ≡ rows
rows_at_same [] index = refl
rows_at_same (row ∷ rows) zero = refl
rows_at_same (row ∷ rows) (suc index) = ap (λ rest. row ∷ rest) (rows_at_same rows index)

pub reads_nothing : (rows : List Row) (index : ℕ) → OnlyReads rows index rows
reads_nothing rows index = record {
  shape = refl;
  kind = refl;
  contents = refl;
  count = NeverFalls-refl (source_at rows index).faults;
  others = sym (rows_at_same rows index);
}

pub reads_on : (a b c : List Row) (index : ℕ) → OnlyReads a index b → OnlyReads b index c → OnlyReads a index c
reads_on a b c index first next = record {
  shape = next.shape ∙ first.shape;
  kind = next.kind ∙ first.kind;
  contents = next.contents ∙ first.contents;
  count = NeverFalls-trans first.count next.count;
  others = next.others ∙ ap (λ rows. rows_at rows index (source_at c index)) first.others ∙ rows_at_again a index (source_at b index) (source_at c index);
}

pub still_mounted : (before after : List Row) (index : ℕ) → OnlyReads before index after → index < length before → index < length after
still_mounted before after index reads below = omega (arith, ap length reads.others, length-rows_at before index (source_at after index), below)

pub damage_before : (before after : Source) (fail : RepackFail) → after.shape ≡ before.shape → after.contents ≡ before.contents → TellsRepackDamage after fail → TellsRepackDamage before fail
damage_before before after SourceFailed shape same told = tt
damage_before before after (SourceDamaged number) shape same told = record {
  inside = subst (λ (d : Dimensions). number < cell_count d) shape told.inside;
  damaged = subst (λ (o : Option Contents). IfSome o (λ c. Contains c.damaged number)) same told.damaged;
}
damage_before before after SinkFailed shape same told = tt
damage_before before after OutOfMemory shape same told = tt

-- the damaged position of a window is one of the cube
pub damage_told : (source : Source) (w : Window) (number : ℕ) → Holds (whole_window source.shape) w → IsDamagedIn source.shape source.contents w number → IsDamagedPosition source number
damage_told source w number holds h =
    let d = source.shape in
    record {
      inside = subst (λ (k : ℕ). k < cell_count d) h.numbered (number_below d h.position (position_in d h.position (holds h.position h.inside)));
      damaged = h.damaged;
    }

-- the first cell of a row of a section is one of the cube
below_count : (t b y x u v w section row number : ℕ) → u ≡ b → v ≡ y → w ≡ x → section < t → row < u * v → 0 < w → number ≤ (section * (u * v) + row) * w → number < t * b * y * x
below_count t b y x u v w section row number eb ey ex below inside some most =
    rw (← eb, ← ey, ← ex) (sums t u v w below inside some most)
  where
    sums : (t u v w : ℕ) → section < t → row < u * v → 0 < w → number ≤ (section * (u * v) + row) * w → number < t * u * v * w
    sums t u v w below inside some most =
        let rows : section * (u * v) + row + 1 ≤ t * (u * v) = omega (arith, inside, mul-le (section + 1) (u * v) t (u * v) (omega (arith, below)) (omega arith)) in
        omega (arith, most, some, mul-le (section * (u * v) + row + 1) w (t * (u * v)) w rows (omega arith))

pub row_inside : (d : Dimensions) (s : Sides) (section row number : ℕ) → AreSidesOf d s → section < extent d.t → row < s.bands * s.y → 0 < s.x → number ≤ (section * (s.bands * s.y) + row) * s.x → number < cell_count d
row_inside d s section row number sides below inside some most =
    below_count (extent d.t) (extent d.bands) (extent d.y) (extent d.x) s.bands s.y s.x section row number sides.bands sides.y sides.x below inside some most

-- a product or a sum that stays at the greatest number is no greater than its own
pub row_number_most : (section rows row wide product sum all bands high : ℕ) → rows ≤ bands * high → product ≤ section * rows → sum ≤ product + row → all ≤ sum * wide → all ≤ (section * (bands * high) + row) * wide
row_number_most section rows row wide product sum all bands high few first next last =
    let products : product ≤ section * (bands * high) = omega (arith, first, mul-le section rows section (bands * high) (omega arith) few) in
    omega (arith, last, mul-le sum wide (section * (bands * high) + row) wide (omega (arith, next, products)) (omega arith))

-- what holds of the shape and the contents after reads held before, and the other way round
pub before_source : (P : Dimensions → Option Contents → Type 0) (a b : List Row) (index : ℕ) → OnlyReads a index b → P (source_at b index).shape (source_at b index).contents → P (source_at a index).shape (source_at a index).contents
before_source P a b index reads h =
    subst (λ (d : Dimensions). P d (source_at a index).contents) reads.shape (subst (λ (o : Option Contents). P (source_at b index).shape o) reads.contents h)

pub after_source : (P : Dimensions → Option Contents → Type 0) (a b : List Row) (index : ℕ) → OnlyReads a index b → P (source_at a index).shape (source_at a index).contents → P (source_at b index).shape (source_at b index).contents
after_source P a b index reads h =
    subst (λ (d : Dimensions). P d (source_at b index).contents) (sym reads.shape) (subst (λ (o : Option Contents). P (source_at a index).shape o) (sym reads.contents) h)

-- so many rows more fit
pub fits_rows : (done more all rows : ℕ) → done + more ≤ all → rows ≡ all → done + more ≤ rows
fits_rows done more all rows within same = omega (arith, within, same)

-- what was read of a source is what it had before
pub given_before : (a b : List Row) (index : ℕ) → OnlyReads a index b → (w : Window) (cells : List Cell) → IfSome (source_at b index).contents (λ c. AreCellsOf (source_at b index).shape c w cells) → IfSome (source_at a index).contents (λ c. AreCellsOf (source_at a index).shape c w cells)
given_before a b index reads w cells given =
    before_source (λ (d : Dimensions) (o : Option Contents). IfSome o (λ c. AreCellsOf d c w cells)) a b index reads given

-- a visible collection has one cell for each position
pub cells_counted : (d : Dimensions) (kind : CellKind) (o : Option Contents) → IfSome (option_map (collection_with d kind) o) IsCollection → IfSome o (λ c. length c.cells ≡ cell_count d)
cells_counted d kind None sound = tt
cells_counted d kind (Some c) sound = sound.counted

-- ---- refusals

not_source : {T : Type 0} (n : ℕ) → IsErrOf {T = T} (Err SinkFailed) SourceFailed → ⊥
not_source n e = cc

not_sink_failed : {T : Type 0} → IsErrOf {T = T} (Err SourceFailed) SinkFailed → ⊥
not_sink_failed e = cc

not_sink_damaged : {T : Type 0} (n : ℕ) → IsErrOf {T = T} (Err (SourceDamaged n)) SinkFailed → ⊥
not_sink_damaged n e = cc

-- where a read is refused, no write is
pub no_sink_fault : {T : Type 0} (before after : ℕ) (fail : RepackFail) → NeverFalls before after → IsReadRefusal fail
    → HasCauseOf {T = T} SinkFailed before after (Err fail)
no_sink_fault before after SourceFailed count told = record { count = count; failed = λ e. absurd (not_sink_failed e) }
no_sink_fault before after (SourceDamaged n) count told = record { count = count; failed = λ e. absurd (not_sink_damaged n e) }
no_sink_fault before after SinkFailed count told = absurd told
no_sink_fault before after OutOfMemory count told = absurd told

-- ---- the numbers of a part

-- whole planes of one index of t
box_planes : (d : Dimensions) (first n : ℕ) → box_numbers first (record { t = 1; bands = n; y = extent d.y; x = extent d.x }) (cube_sides d) ≡ range_with_len first (n * (extent d.y * extent d.x))
box_planes d first n =
    let volume = extent d.bands * (extent d.y * extent d.x) in
    let plane = extent d.y * extent d.x in
    let start : first + 0 * volume ≡ first = omega arith in
    append-nil (flat_map (λ (band : ℕ). flat_map (λ (y : ℕ). range_with_len (first + 0 * volume + band * plane + y * extent d.x) (extent d.x)) (range_with_len 0 (extent d.y))) (range_with_len 0 n))
    ∙ flat_map-same _ _ (λ (band : ℕ). touching (first + 0 * volume + band * plane) (extent d.x) (extent d.y)) (range_with_len 0 n)
    ∙ touching (first + 0 * volume) plane n
    ∙ ap (λ (a : ℕ). range_with_len a (n * plane)) start

-- rows of one plane
box_rows : (d : Dimensions) (first m : ℕ) → box_numbers first (record { t = 1; bands = 1; y = m; x = extent d.x }) (cube_sides d) ≡ range_with_len first (m * extent d.x)
box_rows d first m =
    let volume = extent d.bands * (extent d.y * extent d.x) in
    let plane = extent d.y * extent d.x in
    let start : first + 0 * volume + 0 * plane ≡ first = omega arith in
    let rows : List ℕ = flat_map (λ (y : ℕ). range_with_len (first + 0 * volume + 0 * plane + y * extent d.x) (extent d.x)) (range_with_len 0 m) in
    append-nil (rows ++ []) ∙ append-nil rows
    ∙ touching (first + 0 * volume + 0 * plane) (extent d.x) m
    ∙ ap (λ (a : ℕ). range_with_len a (m * extent d.x)) start

box_with : (first : ℕ) (d : Dimensions) (t b y x t' b' y' x' : ℕ) → t ≡ t' → b ≡ b' → y ≡ y' → x ≡ x' → box_numbers first (record { t = t; bands = b; y = y; x = x }) (cube_sides d) ≡ box_numbers first (record { t = t'; bands = b'; y = y'; x = x' }) (cube_sides d)
box_with first d t b y x t' b' y' x' et eb ey ex = rw (et, eb, ey, ex) refl

first_is : (section band row bands y x b h v done tf bf yf xf : ℕ) → tf ≡ section → bf ≡ band → yf ≡ row → xf ≡ 0 → bands ≡ b → y ≡ h → x ≡ v → done ≡ band * y + row → ((tf * b + bf) * h + yf) * v + xf ≡ (section * (bands * y) + done) * x
first_is section band row bands y x b h v done tf bf yf xf et eb ey ex sb sy sx ed =
    rw (et, eb, ey, ex, ← sb, ← sy, ← sx, ed) (sums section band row bands y x)
  where
    sums : (t b r n h v : ℕ) → ((t * n + b) * h + r) * v + 0 ≡ (t * (n * h) + (b * h + r)) * v
    sums t b r n h v = omega arith

same_span : (f t g u : ℕ) → f ≡ g → t ≡ u → ◌≡◌ {A = Span} (record { from = f; to = t }) (record { from = g; to = u })
same_span f t g u ef et = rw (ef, et) refl

counted_rows : (n y x h v : ℕ) → y ≡ h → x ≡ v → n * (h * v) ≡ n * y * x
counted_rows n y x h v ey ex = rw (← ey, ← ex) (regroup n y x)
  where
    regroup : (a b c : ℕ) → a * (b * c) ≡ a * b * c
    regroup a b c = omega arith

product_of : (t b y x n h v : ℕ) → t ≡ 1 → b ≡ n → y ≡ h → x ≡ v → t * b * y * x ≡ n * h * v
product_of t b y x n h v et eb ey ex = rw (et, eb, ey, ex) (regroup n h v)
  where
    regroup : (a b c : ℕ) → 1 * a * b * c ≡ a * b * c
    regroup a b c = omega arith

pub some_product : (a b : ℕ) → 0 < a → 0 < b → 0 < a * b
some_product a b p q = omega (arith, mul-le 1 1 a b p q)

-- whole planes from a plane's first row on
pub planes_next : (s : Sides) (section done n : ℕ) (w : Window) → 0 < s.y → 0 < s.x → done % s.y ≡ 0 → w.t.from ≡ section → w.t.to ≡ section + 1
    → w.bands.from ≡ done / s.y → w.bands.to ≡ done / s.y + n → w.y.from ≡ 0 → w.y.to ≡ s.y → w.x.from ≡ 0 → w.x.to ≡ s.x
    → 0 < n → done / s.y + n ≤ s.bands → n * (s.y * s.x) ≤ 65536 → IsNextPart s section done (record { window = w; rows = n * s.y })
planes_next s section done n w high wide even tf tt_ bf bt yf yt xf xt some fits few =
    let whole : done ≡ done / s.y * s.y + 0 = sym (omega (arith, div-add-mod' done s.y, even)) in
    let regroup : n * (s.y * s.x) ≡ n * s.y * s.x = counted_rows n s.y s.x s.y s.x refl refl in
    let t : w.t.to - w.t.from ≡ 1 = omega (arith, tf, tt_) in
    let b : w.bands.to - w.bands.from ≡ n = omega (arith, bf, bt) in
    let y : w.y.to - w.y.from ≡ s.y = omega (arith, yf, yt) in
    let x : w.x.to - w.x.from ≡ s.x = omega (arith, xf, xt) in
    record {
      some = (some_product n s.y some high, some_product (n * s.y) s.x (some_product n s.y some high) wide);
      within = ends done (done / s.y) n s.y s.bands whole fits;
      few = omega (arith, few, regroup);
      counted = product_of (w.t.to - w.t.from) (w.bands.to - w.bands.from) (w.y.to - w.y.from) (w.x.to - w.x.from) n s.y s.x t b y x;
      t = same_span w.t.from w.t.to section (section + 1) tf tt_;
      ends = (omega (arith, bt, fits), omega (arith, yt), omega (arith, xt));
      numbers = λ d sides.
          window-box d w
          ∙ box_with (first_number d w) d (w.t.to - w.t.from) (w.bands.to - w.bands.from) (w.y.to - w.y.from) (w.x.to - w.x.from) 1 n (extent d.y) (extent d.x) t b (y ∙ sides.y) (x ∙ sides.x)
          ∙ box_planes d (first_number d w) n
          ∙ ap (λ (a : ℕ). range_with_len a (n * (extent d.y * extent d.x)))
          (first_is section (done / s.y) 0 s.bands s.y s.x (extent d.bands) (extent d.y) (extent d.x) done w.t.from w.bands.from w.y.from w.x.from tf bf yf xf sides.bands sides.y sides.x whole)
          ∙ ap (range_with_len ((section * (s.bands * s.y) + done) * s.x)) (counted_rows n s.y s.x (extent d.y) (extent d.x) sides.y sides.x);
    }
  where
    ends : (done band n y bands : ℕ) → done ≡ band * y + 0 → band + n ≤ bands → done + n * y ≤ bands * y
    ends done band n y bands whole fits = omega (arith, whole, mul-le (band + n) y bands y fits (omega arith))

-- rows of one plane
pub rows_next : (s : Sides) (section done m : ℕ) (w : Window) → 0 < s.y → 0 < s.x → w.t.from ≡ section → w.t.to ≡ section + 1
    → w.bands.from ≡ done / s.y → w.bands.to ≡ done / s.y + 1 → w.y.from ≡ done % s.y → w.y.to ≡ done % s.y + m → w.x.from ≡ 0 → w.x.to ≡ s.x
    → 0 < m → done % s.y + m ≤ s.y → done / s.y < s.bands → m * s.x ≤ 65536 → IsNextPart s section done (record { window = w; rows = m })
rows_next s section done m w high wide tf tt_ bf bt yf yt xf xt some fits below few =
    let whole : done ≡ done / s.y * s.y + done % s.y = sym (omega (arith, div-add-mod' done s.y)) in
    let t : w.t.to - w.t.from ≡ 1 = omega (arith, tf, tt_) in
    let b : w.bands.to - w.bands.from ≡ 1 = omega (arith, bf, bt) in
    let y : w.y.to - w.y.from ≡ m = omega (arith, yf, yt) in
    let x : w.x.to - w.x.from ≡ s.x = omega (arith, xf, xt) in
    let one : 1 * m * s.x ≡ m * s.x = omega arith in
    record {
      some = (some, some_product m s.x some wide);
      within = ends done (done / s.y) (done % s.y) m s.y s.bands whole fits below;
      few = few;
      counted = product_of (w.t.to - w.t.from) (w.bands.to - w.bands.from) (w.y.to - w.y.from) (w.x.to - w.x.from) 1 m s.x t b y x ∙ one;
      t = same_span w.t.from w.t.to section (section + 1) tf tt_;
      ends = (omega (arith, bt, below), omega (arith, yt, fits), omega (arith, xt));
      numbers = λ d sides.
          window-box d w
          ∙ box_with (first_number d w) d (w.t.to - w.t.from) (w.bands.to - w.bands.from) (w.y.to - w.y.from) (w.x.to - w.x.from) 1 1 m (extent d.x) t b y (x ∙ sides.x)
          ∙ box_rows d (first_number d w) m
          ∙ ap (λ (a : ℕ). range_with_len a (m * extent d.x))
          (first_is section (done / s.y) (done % s.y) s.bands s.y s.x (extent d.bands) (extent d.y) (extent d.x) done w.t.from w.bands.from w.y.from w.x.from tf bf yf xf sides.bands sides.y sides.x whole)
          ∙ ap (λ (v : ℕ). range_with_len ((section * (s.bands * s.y) + done) * s.x) (m * v)) (sym sides.x);
    }
  where
    ends : (done band row m y bands : ℕ) → done ≡ band * y + row → row + m ≤ y → band < bands → done + m ≤ bands * y
    ends done band row m y bands whole fits below = omega (arith, whole, fits, mul-le (band + 1) y bands y (omega (arith, below)) (omega arith))

-- as many whole ones as there is room for, or as are left
pub some_fit : (room one left : ℕ) → min (room / one) left * one ≤ room
some_fit room one left = omega (arith, mul-le (min (room / one) left) one (room / one) one (omega arith) (omega arith), div-add-mod' room one)

-- there is room for one at least
pub one_fits : (room one left : ℕ) → 0 < one → one ≤ room → 0 < left → 0 < min (room / one) left
one_fits room one left some fits rest = omega (arith, le-div 1 room one some (omega (arith, fits)), rest)

-- where some rows are done of the product, the sides are not empty, and the plane is one of them
pub high_enough : (done bands y : ℕ) → done < bands * y → 0 < y
high_enough done bands zero below = absurd (omega (arith, below))
high_enough done bands (suc y) below = omega arith

pub band_below : (done bands y : ℕ) → done < bands * y → done / y < bands
band_below done bands y below = div_below done y bands (high_enough done bands y below) below

pub row_below : (done bands y : ℕ) → done < bands * y → done % y < y
row_below done bands y below = mod_below done y (high_enough done bands y below)

-- a window of one index of t whose other spans end within the sides lies in the whole
pub part_inside : (d : Dimensions) (s : Sides) (section done : ℕ) (part : Part) → AreSidesOf d s → IsNextPart s section done part → section < extent d.t → Holds (whole_window d) part.window
part_inside d s section done part sides next below p inside = record {
  t = record { begun = omega arith; before = omega (arith, ap (λ (span : Span). span.to) next.t, inside.t.before, below) };
  bands = record { begun = omega arith; before = omega (arith, inside.bands.before, next.ends.0, sides.bands) };
  y = record { begun = omega arith; before = omega (arith, inside.y.before, next.ends.1, sides.y) };
  x = record { begun = omega arith; before = omega (arith, inside.x.before, next.ends.2, sides.x) };
}

-- ---- the cells of a part

-- the cells at numbers that count up
cells_from : (d : Dimensions) (c : Contents) (w : Window) (first count : ℕ) (cells : List Cell) → length c.cells ≡ cell_count d → Holds (whole_window d) w → window_numbers d w ≡ range_with_len first count → 0 < count → AreCellsOf d c w cells → cells ≡ take count (drop first c.cells)
cells_from d c w first count cells whole holds numbers some h =
    let ends = runs_within d w ((first, count) ∷ []) holds (some, tt) (append-nil (range_with_len first count) ∙ sym numbers) in
    h.cells_are ∙ cells_on-numbers Empty (record { shape = d; cells = c.cells }) w
    ∙ ap (map (λ k. get_or c.cells k Empty)) numbers
    ∙ range_of_list c.cells Empty first count (omega (arith, ends.0, whole))

-- none of their positions is damaged
undamaged_from : (d : Dimensions) (c : Contents) (w : Window) (first count : ℕ) (cells : List Cell) → window_numbers d w ≡ range_with_len first count → AreCellsOf d c w cells → AreUndamaged c first count
undamaged_from d c w first count cells numbers h n low high damaged =
    let back : first + (n - first) ≡ n = omega (arith, low) in
    let here : slice_get (window_numbers d w) (n - first) ≡ Some n = ap (λ (ns : List ℕ). slice_get ns (n - first)) numbers ∙ slice_get-range first count (n - first) (omega (arith, low, high)) ∙ ap Some back in
    let p = value_at (number_of d) (positions w) (n - first) n here in
    let there = position_number w (n - first) p.0 p.1 in
    h.undamaged p.0 there.0 (subst (λ (k : ℕ). Contains c.damaged k) (sym p.2) damaged)

-- where a part begins
part_first : (d : Dimensions) (s : Sides) (section done : ℕ) → AreSidesOf d s → (section * (s.bands * s.y) + done) * s.x ≡ section * plane_size d + done * s.x
part_first d s section done sides =
    sums section done s.bands s.y s.x (extent d.bands) (extent d.y) (extent d.x) sides.bands sides.y sides.x
  where
    sums : (section done b y x n h v : ℕ) → b ≡ n → y ≡ h → x ≡ v → (section * (b * y) + done) * x ≡ section * (n * h * v) + done * x
    sums section done b y x n h v eb ey ex = rw (← eb, ← ey, ← ex) (regroup section done b y x)
      where
        regroup : (t k b y x : ℕ) → (t * (b * y) + k) * x ≡ t * (b * y * x) + k * x
        regroup t k b y x = omega arith

-- the cells of a part are the next ones of the section
pub part_cells : (d : Dimensions) (c : Contents) (s : Sides) (section done : ℕ) (part : Part) (cells : List Cell) → length c.cells ≡ cell_count d → AreSidesOf d s → IsNextPart s section done part → section < extent d.t → AreCellsOf d c part.window cells → cells ≡ take (part.rows * s.x) (drop (done * s.x) (drop (section * plane_size d) c.cells))
part_cells d c s section done part cells whole sides next below h =
    cells_from d c part.window ((section * (s.bands * s.y) + done) * s.x) (part.rows * s.x) cells whole (part_inside d s section done part sides next below) (next.numbers d sides) next.some.1 h
    ∙ ap (λ (m : ℕ). take (part.rows * s.x) (drop m c.cells)) (part_first d s section done sides)
    ∙ ap (take (part.rows * s.x)) (sym (drop-drop (done * s.x) (section * plane_size d) c.cells))

pub part_undamaged : (d : Dimensions) (c : Contents) (s : Sides) (section done : ℕ) (part : Part) (cells : List Cell) → AreSidesOf d s → IsNextPart s section done part → AreCellsOf d c part.window cells → AreUndamaged c (section * plane_size d + done * s.x) (part.rows * s.x)
part_undamaged d c s section done part cells sides next h =
    subst (λ (m : ℕ). AreUndamaged c m (part.rows * s.x)) (part_first d s section done sides)
    (undamaged_from d c part.window ((section * (s.bands * s.y) + done) * s.x) (part.rows * s.x) cells (next.numbers d sides) h)

-- ---- the widths of sections

all_wider : (w v : Width) (cells : List Cell) → byte_count w ≤ byte_count v → AllFitIn w cells → AllFitIn v cells
all_wider w v cells le all = λ j d below. fits_wider w v (get_or cells j d) le (all j d below)

-- a width is wide enough exactly where it is at least the least one
pub wide_enough : (w least : Width) (cells : List Cell) → IsLeastWidth (λ v. AllFitIn v cells) least → byte_count least ≤ byte_count w → AllFitIn w cells
wide_enough w least cells is le = all_wider least w cells le is.holds

least_join : (xs ys : List Cell) (before here both : Width) → byte_count both ≡ max (byte_count before) (byte_count here) → IsLeastWidth (λ w. AllFitIn w xs) before → IsLeastWidth (λ w. AllFitIn w ys) here → IsLeastWidth (λ w. AllFitIn w (xs ++ ys)) both
least_join xs ys before here both wide first second = record {
  holds = All-append (FitsIn both) xs ys (all_wider before both xs (omega (arith, wide)) first.holds) (all_wider here both ys (omega (arith, wide)) second.holds);
  least = λ other all. (
      let a : byte_count before ≤ byte_count other = first.least other (subst (λ (cs : List Cell). AllFitIn other cs) (take-append_seam xs ys) (All-take (FitsIn other) (length xs) (xs ++ ys) all)) in
      let b : byte_count here ≤ byte_count other = second.least other (subst (λ (cs : List Cell). AllFitIn other cs) (drop-append_seam xs ys) (All-drop (FitsIn other) (length xs) (xs ++ ys) all)) in
      omega (arith, wide, a, b));
}

undamaged_join : (c : Contents) (first k n : ℕ) → AreUndamaged c first k → AreUndamaged c (first + k) n → AreUndamaged c first (k + n)
undamaged_join c first k n a b number low high =
    elim (cases_lt number (first + k)) [
      | inl inner ↦ a number low inner
      | inr outer ↦ b number outer (omega (arith, high))
    ]

narrowest : (w : Width) → 1 ≤ byte_count w
narrowest One = omega arith
narrowest Nine = omega arith
narrowest Seventeen = omega arith

-- before any part, and after one more
pub width_begins : (o : Option Contents) (first x : ℕ) → IfSome o (λ c. IsWidthFrom c first (0 * x) One)
width_begins None first x = tt
width_begins (Some c) first x =
    let none : 0 ≡ 0 * x = omega arith in
    subst (λ (m : ℕ). IsWidthFrom c first m One) none (record {
      least = record { holds = λ j d below. absurd (omega (arith, below)); least = λ other all. narrowest other };
      undamaged = λ number low high damaged. absurd (omega (arith, low, high));
    })

pub width_goes : (o : Option Contents) (d : Dimensions) (s : Sides) (section done : ℕ) (part : Part) (cells : List Cell) (before here both : Width) → IfSome o (λ c. length c.cells ≡ cell_count d) → AreSidesOf d s → IsNextPart s section done part → section < extent d.t → IfSome o (λ c. AreCellsOf d c part.window cells) → byte_count both ≡ max (byte_count before) (byte_count here) → IsLeastWidth (λ w. AllFitIn w cells) here → IfSome o (λ c. IsWidthFrom c (section * plane_size d) (done * s.x) before) → IfSome o (λ c. IsWidthFrom c (section * plane_size d) ((done + part.rows) * s.x) both)
width_goes None d s section done part cells before here both counted sides next below given wide least width = tt
width_goes (Some c) d s section done part cells before here both counted sides next below given wide least width =
    let rest = drop (section * plane_size d) c.cells in
    let k = done * s.x in
    let n = part.rows * s.x in
    let more : k + n ≡ (done + part.rows) * s.x = omega arith in
    let mine : cells ≡ take n (drop k rest) = part_cells d c s section done part cells counted sides next below given in
    let own : IsLeastWidth (λ w. AllFitIn w (take n (drop k rest))) here = subst (λ (cs : List Cell). IsLeastWidth (λ w. AllFitIn w cs) here) mine least in
    subst (λ (m : ℕ). IsWidthFrom c (section * plane_size d) m both) more (record {
      least = subst (λ (cs : List Cell). IsLeastWidth (λ w. AllFitIn w cs) both) (sym (take-add k n rest)) (least_join (take k rest) (take n (drop k rest)) before here both wide width.least own);
      undamaged = undamaged_join c (section * plane_size d) k n width.undamaged (part_undamaged d c s section done part cells sides next given);
    })

pub rows_all : (d : Dimensions) (s : Sides) (done rows : ℕ) → AreSidesOf d s → rows * s.x ≡ s.bands * s.y * s.x → done ≡ rows → done * s.x ≡ plane_size d
rows_all d s done rows sides cells end =
    ap (λ (m : ℕ). m * s.x) end ∙ cells ∙ sides_product s.bands s.y s.x (extent d.bands) (extent d.y) (extent d.x) sides.bands sides.y sides.x
  where
    sides_product : (b y x n h v : ℕ) → b ≡ n → y ≡ h → x ≡ v → b * y * x ≡ n * h * v
    sides_product b y x n h v eb ey ex = rw (eb, ey, ex) refl

-- all rows of a section
pub width_ends : (o : Option Contents) (d : Dimensions) (s : Sides) (first done rows : ℕ) (width : Width) → AreSidesOf d s → rows * s.x ≡ s.bands * s.y * s.x → done ≡ rows → IfSome o (λ c. IsWidthFrom c first (done * s.x) width) → IfSome o (λ c. IsWidthFrom c first (plane_size d) width)
width_ends None d s first done rows width sides cells end h = tt
width_ends (Some c) d s first done rows width sides cells end h =
    subst (λ (m : ℕ). IsWidthFrom c first m width) (rows_all d s done rows sides cells end) h

-- the widths of the first sections are the least ones, and none of their positions is damaged
pub record AreFirstWidths (d : Dimensions) (c : Contents) (section : ℕ) (widths : List Width) : Type 0 where
  pub least : AreLeastWidths (plane_size d) widths (take (section * plane_size d) c.cells)
  pub undamaged : AreUndamaged c 0 (section * plane_size d)

pub length-push : {A : Type 0} (xs : List A) (x : A) → length (xs ++ x ∷ []) ≡ length xs + 1
length-push xs x = length-append xs (x ∷ [])

pub widths_begin : (o : Option Contents) (d : Dimensions) (ws : List Width) → ws ≡ [] → IfSome o (λ c. AreFirstWidths d c 0 ws)
widths_begin None d ws none = tt
widths_begin (Some c) d ws none =
    let start : 0 ≡ 0 * plane_size d = omega arith in
    subst (λ (vs : List Width). AreFirstWidths d c 0 vs) (sym none) (record {
      least = ap (λ (m : ℕ). take m c.cells) (sym start);
      undamaged = λ number low high damaged. absurd (omega (arith, high, start));
    })

pub widths_go : (o : Option Contents) (d : Dimensions) (section : ℕ) (ws new : List Width) (w : Width) → section < extent d.t → IfSome o (λ c. length c.cells ≡ cell_count d) → length ws ≡ section → new ≡ ws ++ w ∷ [] → IfSome o (λ c. IsWidthFrom c (section * plane_size d) (plane_size d) w) → IfSome o (λ c. AreFirstWidths d c section ws) → IfSome o (λ c. AreFirstWidths d c (section + 1) new)
widths_go None d section ws new w below counted long pushed width first = tt
widths_go (Some c) d section ws new w below counted long pushed width first =
    let size = plane_size d in
    let more : section * size + size ≡ (section + 1) * size = omega arith in
    record {
      least = widths_more size section (extent d.t) ws new w c.cells (slice_range c.cells (section * size) (section * size + size)) below (counted ∙ planes_count d) long first.least refl
          (subst (λ (cs : List Cell). IsLeastWidth (λ v. AllFitIn v cs) w) (sym (section_is size section c.cells)) width.least) pushed;
      undamaged = subst (λ (m : ℕ). AreUndamaged c 0 m) more (undamaged_join c 0 (section * size) size first.undamaged (subst (λ (m : ℕ). AreUndamaged c m size) (zero_first (section * size)) width.undamaged));
    }
  where
    zero_first : (n : ℕ) → n ≡ 0 + n
    zero_first n = omega arith

pub widths_end : (o : Option Contents) (d : Dimensions) (section : ℕ) (ws : List Width) → section ≡ extent d.t → IfSome o (λ c. length c.cells ≡ cell_count d) → IfSome o (λ c. AreFirstWidths d c section ws) → IfSome o (λ c. AreWidthsOf d c ws)
widths_end None d section ws end counted first = tt
widths_end (Some c) d section ws end counted first =
    let size = plane_size d in
    let all : section * size ≡ cell_count d = ap (λ (m : ℕ). m * size) end ∙ sym (planes_count d) in
    record {
      least = widths_all size section ws c.cells (counted ∙ sym all) first.least;
      undamaged = subst (λ (m : ℕ). AreUndamaged c 0 m) all first.undamaged;
    }

-- ---- the records of a section

-- the next cells of a section, as those of the section's own list
section_part : (rest : List Cell) (k n size : ℕ) → k + n ≤ size → take n (drop k rest) ≡ take (k + n - k) (drop k (take size rest))
section_part rest k n size within =
    let long : k + (size - k) ≡ size = omega (arith, within) in
    let short : k + n - k ≡ n = omega arith in
    sym (ap (λ (m : ℕ). take m (drop k (take size rest))) short
    ∙ ap (λ (m : ℕ). take n (drop k (take m rest))) (sym long)
    ∙ ap (take n) (drop-take k (size - k) rest)
    ∙ take-take n (size - k) (drop k rest) (omega (arith, within)))

-- the rows of a part end within the section
pub part_ends : (d : Dimensions) (s : Sides) (section done : ℕ) (part : Part) → AreSidesOf d s → IsNextPart s section done part → done * s.x + part.rows * s.x ≤ plane_size d
part_ends d s section done part sides next =
    let all : s.bands * s.y * s.x ≡ plane_size d = rows_all d s (s.bands * s.y) (s.bands * s.y) sides refl refl in
    omega (arith, all, mul-le (done + part.rows) s.x (s.bands * s.y) s.x next.within (omega arith))

-- the cells of a part fit the width of its section
pub part_fits_width : (o : Option Contents) (d : Dimensions) (s : Sides) (section done : ℕ) (part : Part) (cells : List Cell) (width : Width) → IfSome o (λ c. length c.cells ≡ cell_count d) → AreSidesOf d s → IsNextPart s section done part → section < extent d.t → IfSome o (λ c. AreCellsOf d c part.window cells) → IfSome o (λ c. AllFitIn width (take (plane_size d) (drop (section * plane_size d) c.cells))) → ¬ AllFitIn width cells → (number : ℕ) → IfSome o (λ c. Contains c.damaged number)
part_fits_width None d s section done part cells width counted sides next below given fit not number = tt
part_fits_width (Some c) d s section done part cells width counted sides next below given fit not number =
    let rest = drop (section * plane_size d) c.cells in
    let k = done * s.x in
    let n = part.rows * s.x in
    let own = part_cells d c s section done part cells counted sides next below given ∙ section_part rest k n (plane_size d) (part_ends d s section done part sides next) in
    absurd (not (subst (λ (cs : List Cell). AllFitIn width cs) (sym own) (part_fit width (take (plane_size d) rest) k (k + n - k) fit)))

-- what was written of a section before any part, after one more, and after all
pub records_begin : (o : Option Contents) (written : Option (List ℕ)) (width : Width) (size first x : ℕ) → IfSome o (λ c. Appends written (records_in width (take (0 * x) (take size (drop first c.cells)))) written)
records_begin None written width size first x = tt
records_begin (Some c) written width size first x =
    let none : 0 ≡ 0 * x = omega arith in
    subst (λ (m : ℕ). Appends written (records_in width (take m (take size (drop first c.cells)))) written) none (none_written written)

pub records_go : (o : Option Contents) (d : Dimensions) (s : Sides) (section done : ℕ) (part : Part) (cells : List Cell) (width : Width) (before middle after : Option (List ℕ)) → IfSome o (λ c. length c.cells ≡ cell_count d) → AreSidesOf d s → IsNextPart s section done part → section < extent d.t → IfSome o (λ c. AreCellsOf d c part.window cells) → IfSome o (λ c. Appends before (records_in width (take (done * s.x) (take (plane_size d) (drop (section * plane_size d) c.cells)))) middle) → Appends middle (records_in width cells) after → IfSome o (λ c. Appends before (records_in width (take ((done + part.rows) * s.x) (take (plane_size d) (drop (section * plane_size d) c.cells)))) after)
records_go None d s section done part cells width before middle after counted sides next below given first second = tt
records_go (Some c) d s section done part cells width before middle after counted sides next below given first second =
    let rest = drop (section * plane_size d) c.cells in
    let k = done * s.x in
    let n = part.rows * s.x in
    let more : k + n ≡ (done + part.rows) * s.x = omega arith in
    let own = part_cells d c s section done part cells counted sides next below given ∙ section_part rest k n (plane_size d) (part_ends d s section done part sides next) in
    subst (λ (m : ℕ). Appends before (records_in width (take m (take (plane_size d) rest))) after) more
    (piece_more before middle after width (take (plane_size d) rest) k (k + n) (omega arith) first (subst (λ (cs : List Cell). Appends middle (records_in width cs) after) own second))

pub records_end : (o : Option Contents) (d : Dimensions) (s : Sides) (first done rows : ℕ) (width : Width) (before after : Option (List ℕ)) → AreSidesOf d s → rows * s.x ≡ s.bands * s.y * s.x → done ≡ rows → IfSome o (λ c. Appends before (records_in width (take (done * s.x) (take (plane_size d) (drop first c.cells)))) after) → IfSome o (λ c. Appends before (records_in width (take (plane_size d) (drop first c.cells))) after)
records_end None d s first done rows width before after sides cells end h = tt
records_end (Some c) d s first done rows width before after sides cells end h =
    subst (λ (cs : List Cell). Appends before (records_in width cs) after) (take-take (plane_size d) (plane_size d) (drop first c.cells) (omega arith))
    (subst (λ (m : ℕ). Appends before (records_in width (take m (take (plane_size d) (drop first c.cells)))) after) (rows_all d s done rows sides cells end) h)

-- nothing more is a prefix too
part_written : (before after : Option (List ℕ)) (width : Width) (cells : List Cell) (k : ℕ) → Appends before (records_in width (take k cells)) after → AppendsPrefix before (records_in width cells) after
part_written before after width cells k first =
    piece_prefix before after after width cells k k (omega arith) first (0, none_written after)

pub records_left : (o : Option Contents) (size first k : ℕ) (width : Width) (before after : Option (List ℕ)) → IfSome o (λ c. Appends before (records_in width (take k (take size (drop first c.cells)))) after) → IfSome o (λ c. AppendsPrefix before (records_in width (take size (drop first c.cells))) after)
records_left None size first k width before after h = tt
records_left (Some c) size first k width before after h =
    part_written before after width (take size (drop first c.cells)) k h

pub records_stop : (o : Option Contents) (d : Dimensions) (s : Sides) (section done : ℕ) (part : Part) (cells : List Cell) (width : Width) (before middle after : Option (List ℕ)) → IfSome o (λ c. length c.cells ≡ cell_count d) → AreSidesOf d s → IsNextPart s section done part → section < extent d.t → IfSome o (λ c. AreCellsOf d c part.window cells) → IfSome o (λ c. Appends before (records_in width (take (done * s.x) (take (plane_size d) (drop (section * plane_size d) c.cells)))) middle) → AppendsPrefix middle (records_in width cells) after → IfSome o (λ c. AppendsPrefix before (records_in width (take (plane_size d) (drop (section * plane_size d) c.cells))) after)
records_stop None d s section done part cells width before middle after counted sides next below given first second = tt
records_stop (Some c) d s section done part cells width before middle after counted sides next below given first second =
    let rest = drop (section * plane_size d) c.cells in
    let k = done * s.x in
    let n = part.rows * s.x in
    let own = part_cells d c s section done part cells counted sides next below given ∙ section_part rest k n (plane_size d) (part_ends d s section done part sides next) in
    piece_prefix before middle after width (take (plane_size d) rest) k (k + n) (omega arith) first (subst (λ (cs : List Cell). AppendsPrefix middle (records_in width cs) after) own second)

-- ---- the records of all sections

-- the records of the first sections stand in front
records_split : (size : ℕ) (ws : List Width) (cells : List Cell) (m : ℕ) → (rest : List ℕ) × (section_records size (take m ws) cells ++ rest ≡ section_records size ws cells)
records_split size ws cells zero = (section_records size ws cells, refl)
records_split size [] cells (suc m) = ([], refl)
records_split size (w ∷ ws) cells (suc m) =
    let rest = records_split size ws (drop size cells) m in
    let here = records_in w (take size cells) in
    (rest.0, append_assoc here (section_records size (take m ws) (drop size cells)) rest.0 ∙ ap (λ (bs : List ℕ). here ++ bs) rest.1)

pub section_fit : (o : Option Contents) (d : Dimensions) (ws : List Width) (section : ℕ) (w : Width) → section < length ws → IfSome o (λ c. AreWidthsOf d c ws) → IfSome o (λ c. AllFitIn (get_or ws section w) (take (plane_size d) (drop (section * plane_size d) c.cells)))
section_fit None d ws section w below widths = tt
section_fit (Some c) d ws section w below widths =
    let size = plane_size d in
    subst (λ (cs : List Cell). AllFitIn (get_or ws section w) cs) (section_is size section c.cells)
    (part_fits size ws c.cells (slice_range c.cells (section * size) (section * size + size)) section w widths.least below refl)

pub sections_begin : (o : Option Contents) (written : Option (List ℕ)) (size : ℕ) (ws : List Width) → IfSome o (λ c. Appends written (section_records size (take 0 ws) c.cells) written)
sections_begin None written size ws = tt
sections_begin (Some c) written size ws = none_written written

pub sections_go : (o : Option Contents) (size : ℕ) (ws : List Width) (section : ℕ) (w : Width) (before middle after : Option (List ℕ)) → section < length ws → IfSome o (λ c. Appends before (section_records size (take section ws) c.cells) middle) → IfSome o (λ c. Appends middle (records_in (get_or ws section w) (take size (drop (section * size) c.cells))) after) → IfSome o (λ c. Appends before (section_records size (take (section + 1) ws) c.cells) after)
sections_go None size ws section w before middle after below first second = tt
sections_go (Some c) size ws section w before middle after below first second =
    records_more before middle after size ws c.cells (slice_range c.cells (section * size) (section * size + size)) section w below refl first
    (subst (λ (cs : List Cell). Appends middle (records_in (get_or ws section w) cs) after) (sym (section_is size section c.cells)) second)

pub sections_stop : (o : Option Contents) (size : ℕ) (ws : List Width) (section : ℕ) (w : Width) (before middle after : Option (List ℕ)) → section < length ws → IfSome o (λ c. Appends before (section_records size (take section ws) c.cells) middle) → IfSome o (λ c. AppendsPrefix middle (records_in (get_or ws section w) (take size (drop (section * size) c.cells))) after) → IfSome o (λ c. AppendsPrefix before (section_records size ws c.cells) after)
sections_stop None size ws section w before middle after below first second = tt
sections_stop (Some c) size ws section w before middle after below first second =
    let here = records_in (get_or ws section w) (take size (drop (section * size) c.cells)) in
    let rest = records_split size ws c.cells (section + 1) in
    let front = section_records size (take section ws) c.cells in
    let all : front ++ (here ++ rest.0) ≡ section_records size ws c.cells = sym (append_assoc front here rest.0) ∙ ap (λ (bs : List ℕ). bs ++ rest.0) (sym (next_records size ws c.cells section w below)) ∙ rest.1 in
    subst (λ (bs : List ℕ). AppendsPrefix before bs after) all (prefix_more before middle after front here rest.0 first second)
