-- The windows of a slab in the part before a time cut: what lies in those of the slab with all bands and, at each node, in
-- that of the whole run. They have no more dates than a slab, and fit its buffers.
use Rattle.std.proofs.Common.{◌≡◌, ◌≢◌, ◌<◌, ◌≤◌, ◌+◌, ◌*◌, ℕ, suc, Bool, true, false, List, [], ◌∷◌, length, map, set, Contains, Option, Some, None, get_or, inl, inr, refl, sym, ap, ◌∙◌, subst, arith}
use Rattle.std.proofs.lemmas.Bool.{cases_eq}
use Rattle.std.proofs.lemmas.List.{get_or_default, get_or-set_other, get_or-set_same}
use Rattle.std.proofs.lemmas.List.Elements.{Contains-get_or}
use Rattle.std.proofs.lemmas.List.Folds.{list_any_none}
use Rattle.std.proofs.lemmas.Nat.{mul-le}
use Rattle.std.proofs.lemmas.Option.{get_or_from_slice_get, slice_get_within}
use Rattle.std.specs.Prelude.{min, slice_get, slice_index, unwrap_or, if◌then◌else◌}
use Rattle.oe_dims.specs.Positions.{Position}
use Rattle.oe_dims.specs.declared.kind.Kind.{Kind}
use Rattle.oe_dims.specs.declared.kind.Kind.TheVariants.{Time, Bands, Y, X}
use Rattle.oe_ops.specs.Needs.{zero_window}
use Rattle.oe_order.specs.Graph.{IsInRun, Reaches, is_load, refers}
use Rattle.oe_order.specs.Live.{largest}
use Rattle.oe_order.specs.Order.{IsListing}
use Rattle.oe_plan.specs.Figures.{halo_along, is_whole_along, largest_window, most_along, shape_of_node, side_along, steps_of}
use Rattle.oe_plan.specs.Laws.{ArePicked, FitSlots, IsOrdered}
use Rattle.oe_plan.specs.Schedules.{AreWindowsFor, IsSchedule, ScheduleOf, TakesAt, links_along, links_given, node_at, part_of, steps_to_last}
use Rattle.oe_plan.specs.Steps.{NeedsOfNode, Takes, arguments_of_node}
use Rattle.oe_plan.specs.Windows.{AreWindows, span_along, window_at}
use Rattle.oe_plan.proofs.HaloLemmas.{none_in_time}
use Rattle.oe_plan.proofs.RunLemmas.{argument_before, only_step}
use Rattle.oe_plan.proofs.ScheduleLemmas.{schedules_serve, works_along}
use Rattle.oe_plan.proofs.SideLemmas.{largest_at}
use Rattle.oe_check.specs.Checked.{AreFaultless, CheckedGraph}
use Rattle.oe_check.specs.Links.{links_of}
use Rattle.oe_check.specs.Reach.{whole_of_node}
use Rattle.oe_check.proofs.LinkLemmas.{is_acyclic}
use Rattle.oe_window.specs.Chunks.{FitsSides, tiling_of}
use Rattle.oe_window.specs.Windows.{Holds, IsEmpty, IsIn, extent_along, first_position, position_count, span_length, whole_window}
use Rattle.oe_window.specs.declared.grid.ChunkSize.{ChunkSize}
use Rattle.oe_window.specs.declared.window.Span.{Span}
use Rattle.oe_window.specs.declared.window.Window.{Window}
use Rattle.oe_window.proofs.WindowLemmas.{IsWithin, count_zero, filled_or_not, filled_unless_empty, first_in, within_from_holds}
use Rattle.oe_slab.specs.Cuts.{IsOfRun, IsTimeCut, links_behind}
use Rattle.oe_slab.specs.Figures.{largest_plane, largest_slab, taken_by}
use Rattle.oe_slab.specs.Schedules.{AreMet, AreSchedules, IsSlabOf}
use Rattle.oe_slab.proofs.ApartLemmas.{before_is, follow}
use Rattle.oe_slab.proofs.DateLemmas.{plane_few}
use Rattle.oe_slab.proofs.LawLemmas.{takes_one}
use Rattle.oe_slab.proofs.ScheduleLemmas.{taken_of_run}

-- ---- the largest of some numbers

largest_most : (g : ℕ → ℕ) (xs : List ℕ) (most : ℕ) → ((i : ℕ) → i < length xs → g (get_or xs i 0) ≤ most) → largest (map g xs) ≤ most
largest_most g [] most h = omega arith
largest_most g (x ∷ xs) most h =
    let first : g x ≤ most = h 0 (omega arith) in
    let rest = largest_most g xs most (λ i below. h (suc i) (omega arith)) in
    omega arith

shorter : (inner outer : Span) (most : ℕ) → IsWithin inner outer → span_length outer ≤ most → span_length inner ≤ most
shorter inner outer most w h = let from = w.from in let to = w.to in omega arith

in_slab : (t own all dates : ℕ) → t ≤ min own (dates + 2 * 0) → own ≤ all → t ≤ min all dates
in_slab t own all dates h less = omega arith

slab_product : (t b y x : ℕ) → t * b * y * x ≡ b * y * x * t
slab_product t b y x = omega arith

module _ (c : CheckedGraph) (f : AreFaultless c) (size : ChunkSize) (fold : ℕ) (cut : IsTimeCut c fold) (ordered : IsOrdered c)
    (before : ScheduleOf) (is : IsSchedule c before) (last_is : before.last ≡ taken_by c fold) (given_is : before.given ≡ None)
    (steps_are : before.order.steps ≡ steps_to_last c before) where
  -- the graph whose result is the cube that is taken
  abbrev pub part : CheckedGraph
  part = part_of c before

  abbrev count : ℕ
  count = length before.order.steps

  -- the node of a step stands at one of the whole run
  abbrev pub Stands : ℕ → ℕ → Type 0
  Stands s i = (i < length (steps_of c)) × (slice_index (steps_of c) i ≡ node_at before s)

  whole_step : (s : ℕ) → s < count → (i : ℕ) × Stands s i
  whole_step s below =
      let at = is.of_run s below in (at.0, (at.1, get_or_default (steps_of c) at.0 0 (node_at before s) at.1 ∙ at.2))

  pub listing : IsListing (links_of c.nodes) before.last before.order.steps
  listing = subst (λ (g : Option ℕ). IsListing (links_given (links_of c.nodes) g) before.last before.order.steps) given_is is.listing

  in_part : (s : ℕ) → s < count → IsInRun (links_of c.nodes) (taken_by c fold) (node_at before s)
  in_part s below =
      subst (λ n. IsInRun (links_of c.nodes) n (node_at before s)) last_is
      ((listing.members (node_at before s)).0 (Contains-get_or before.order.steps s 0 below))

  node_before : (s : ℕ) → s < count → Reaches (links_of c.nodes) fold (node_at before s)
  node_before s below =
      (before_is (links_of c.nodes) fold (taken_by c fold) (takes_one c f fold cut) (node_at before s)).0 (in_part s below)

  of_run : (n : ℕ) → Reaches (links_of c.nodes) fold n → IsOfRun c n
  of_run n path = by cut.lone.of_run
    where
      by : IsOfRun c fold → IsOfRun c n
      by (inl same) = inr (subst (λ k. Reaches (links_of c.nodes) k n) same path)
      by (inr rest) = inr (follow (links_of c.nodes) c.result fold n rest path)

  -- what a step takes before the cut it takes in the whole run
  takes_whole : (s number r i j : ℕ) → TakesAt c before s number r → Stands s i → Stands r j → Takes c i number j
  takes_whole s number r i j t at from =
      let works = works_along (links_of c.nodes) before.given (node_at before s) t.works in
      let works_here : is_load (links_of c.nodes) (slice_index (steps_of c) i) ≡ false =
      subst (λ n. is_load (links_of c.nodes) n ≡ false) (sym at.1) works in
      let taken : slice_get (arguments_of_node c (slice_index (steps_of c) i)) number ≡ Some (slice_index (steps_of c) j) =
      subst (λ n. slice_get (arguments_of_node c n) number ≡ Some (slice_index (steps_of c) j)) (sym at.1) (t.taken ∙ ap Some (sym from.1)) in
      record {
        within = at.0;
        earlier = argument_before (links_of c.nodes) c.result (steps_of c) ordered i number j at.0 from.0 works_here taken;
        works = works_here;
        taken = taken;
      }

  -- no step of it takes the cube that is folded
  never_last : (s number r : ℕ) → TakesAt c before s number r → node_at before r ≢ before.last
  never_last s number r t last = by (in_part s t.within)
    where
      has : Contains (arguments_of_node c (node_at before s)) (taken_by c fold)
      has =
          subst (λ n. Contains (arguments_of_node c (node_at before s)) n) (last ∙ last_is) (
            number,
            slice_get_within (arguments_of_node c (node_at before s)) number (node_at before r) t.taken,
            get_or_from_slice_get (arguments_of_node c (node_at before s)) number (node_at before r) (node_at before r) t.taken,
          )

      round : Reaches (links_of c.nodes) (taken_by c fold) (taken_by c fold) → ⊥
      round = is_acyclic c.nodes f.resolved (taken_by c fold)

      by : IsInRun (links_of c.nodes) (taken_by c fold) (node_at before s) → ⊥
      by (inl same) = round (subst (λ n. Reaches (links_of c.nodes) n (taken_by c fold)) same (refers has))
      by (inr path) = round (follow (links_of c.nodes) (taken_by c fold) (node_at before s) (taken_by c fold) path (refers has))

  -- no node of it needs all dates
  none_whole : is_whole_along part Time ≡ false
  none_whole =
      list_any_none (λ n. unwrap_or (whole_of_node part n Time) false) (steps_of part)
      (λ k d below. subst (λ (steps : List ℕ). (m : ℕ) → m < length steps → unwrap_or (whole_of_node c (get_or steps m d) Time) false ≡ false) steps_are (each d) k below)
    where
      by : (n : ℕ) (o : Option Bool) → whole_of_node c n Time ≡ o → Reaches (links_of c.nodes) fold n → unwrap_or o false ≡ false
      by n None is path = refl
      by n (Some false) is path = refl
      by n (Some true) is path =
          let e : n ≡ fold = cut.lone.only n (of_run n path) is in
          absurd (is_acyclic c.nodes f.resolved fold (subst (Reaches (links_of c.nodes) fold) e path))

      each : (d m : ℕ) → m < length before.order.steps → unwrap_or (whole_of_node c (get_or before.order.steps m d) Time) false ≡ false
      each d m below =
          let e : get_or before.order.steps m d ≡ node_at before m = get_or_default before.order.steps m d 0 below in
          ap (λ n. unwrap_or (whole_of_node c n Time) false) e
          ∙ by (node_at before m) (whole_of_node c (node_at before m) Time) refl (node_before m below)

  most_before : most_along part Time ≤ most_along c Time
  most_before =
      let g : ℕ → ℕ = λ n. extent_along (shape_of_node c n) Time in
      let all : largest (map g before.order.steps) ≤ largest (map g (steps_of c)) =
      largest_most g before.order.steps (largest (map g (steps_of c))) (λ s below.
      let at = whole_step s below in
      subst (λ n. g n ≤ largest (map g (steps_of c))) at.1.1 (largest_at g (steps_of c) at.0 at.1.0)) in
      let same : largest (map g before.order.steps) ≡ largest (map g (steps_of part)) = ap (λ (steps : List ℕ). largest (map g steps)) steps_are in
      omega (arith, all, same)

  module _ (all : List Window) (slab : Window) (of : IsSlabOf c size fold all slab) where
    -- the slab with all bands
    abbrev pub wide : Window
    wide = record slab { bands = (whole_window (shape_of_node c before.last)).bands }

    -- sides of a chunk that it is
    abbrev pub dates : ChunkSize
    dates = record { x = span_length slab.x; y = span_length slab.y; t = size.t }

    taken_step : (i : ℕ) × (i < length (steps_of c)) × (slice_index (steps_of c) i ≡ taken_by c fold)
    taken_step =
        let at = (ordered.members (taken_by c fold)).1 (taken_of_run c f fold cut) in
        (at.0, at.1, get_or_default (steps_of c) at.0 0 (taken_by c fold) at.1 ∙ at.2)

    slab_within : Holds (whole_window (shape_of_node c before.last)) slab
    slab_within p h =
        let at = taken_step in
        subst (λ n. IsIn (whole_window (shape_of_node c n)) p) (at.2 ∙ sym last_is)
        (of.are.inside at.0 (let each = of.are.each in let under = at.1 in omega arith) p (of.inside at.0 at.1 at.2 p h))

    abbrev corner : Position
    corner = first_position slab

    corner_in : IsIn slab corner
    corner_in = first_in slab (filled_unless_empty slab of.filled)

    pub wide_within : Holds (whole_window (shape_of_node c before.last)) wide
    wide_within p h =
        let q : Position = record p { band = slab.bands.from } in
        let here = slab_within q (record { t = h.t; bands = corner_in.bands; y = h.y; x = h.x }) in
        record { t = here.t; bands = h.bands; y = here.y; x = here.x }

    wide_holds : Holds wide slab
    wide_holds p h = record { t = h.t; bands = (slab_within p h).bands; y = h.y; x = h.x }

    pub wide_filled : ¬ IsEmpty wide
    wide_filled e = e corner (wide_holds corner corner_in)

    pub wide_fits : FitsSides (tiling_of (shape_of_node c before.last) dates) wide
    wide_fits = record { t = of.few; bands = refl; y = omega arith; x = omega arith }

    module _ (wide_windows : List Window) (wide_are : AreWindows part dates wide wide_windows) where
      dates_few : (s : ℕ) → s < count → span_length (window_at wide_windows s).t ≤ min (most_along c Time) size.t
      dates_few s below =
          let each = wide_are.each in
          let same = ap (λ (steps : List ℕ). length steps) steps_are in
          let side = wide_are.sides s (omega (arith, below, each, same)) Time in
          let whole = none_whole in
          let halo = none_in_time part in
          let short : span_length (window_at wide_windows s).t ≤ min (most_along part Time) (size.t + 2 * 0) =
          subst (λ h. span_length (window_at wide_windows s).t ≤ min (most_along part Time) (size.t + 2 * h)) halo
          (subst (λ (b : Bool). span_length (window_at wide_windows s).t ≤ (if b then most_along part Time else min (most_along part Time) (size.t + 2 * halo_along part Time))) whole side) in
          in_slab (span_length (window_at wide_windows s).t) (most_along part Time) (most_along c Time) size.t short most_before

      -- they serve the schedule, where slots are large
      serves_wide : AreWindowsFor c (record before { largest = largest_window part dates }) wide_windows
      serves_wide = schedules_serve.own c (record before { largest = largest_window part dates }) steps_are dates wide wide_windows wide_are wide_are.few

      -- windows of what lies in both, where that of the last node may have less
      module _ (windows : List Window) (each : length windows ≡ count)
          (both : (s i : ℕ) → s < count → Stands s i → (p : Position) → IsIn (window_at windows s) p
          → IsIn (window_at wide_windows s) p × IsIn (window_at all i) p)
          (rest : (s i : ℕ) → s < count → Stands s i → node_at before s ≢ before.last → (p : Position)
          → IsIn (window_at wide_windows s) p → IsIn (window_at all i) p → IsIn (window_at windows s) p)
          (room : before.largest ≡ largest_slab c size) where
        few : (s : ℕ) → s < count → position_count (window_at windows s) ≤ largest_slab c size
        few s below =
            let w = window_at windows s in
            let at = whole_step s below in
            let box = window_at all at.0 in
            let outer = window_at wide_windows s in
            let sides : (along : Kind) → span_length (span_along box along) ≤ side_along c size along =
            of.are.sides at.0 (let total = of.are.each in let under = at.1.0 in omega arith) in
            elim (filled_or_not w) [
              | inl full ↦
                  let inside = within_from_holds w box full (λ p h. (both s at.0 below at.1 p h).1) in
                  let dated = within_from_holds w outer full (λ p h. (both s at.0 below at.1 p h).0) in
                  let product = mul-le _ _ _ _ (mul-le _ _ _ _ (mul-le _ _ _ _
                  (shorter w.t outer.t (min (most_along c Time) size.t) dated.t (dates_few s below))
                  (shorter w.bands box.bands (side_along c size Bands) inside.bands (sides Bands)))
                  (shorter w.y box.y (side_along c size Y) inside.y (sides Y)))
                  (shorter w.x box.x (side_along c size X) inside.x (sides X)) in
                  subst (λ n. position_count w ≤ n)
                  (slab_product (min (most_along c Time) size.t) (side_along c size Bands) (side_along c size Y) (side_along c size X)) product
              | inr none ↦ let nothing = count_zero w none in omega (arith, nothing)
            ]

        pub windows_serve : AreWindowsFor c before windows
        windows_serve = record {
          each = each;
          inside = λ s below p h. let at = whole_step s below in serves_wide.inside s below p (both s at.0 below at.1 p h).0;
          needed = λ s number r t p q h need.
              let below = t.within in
              let earlier = t.earlier in
              let under : r < count = omega arith in
              let at = whole_step s below in
              let from = whole_step r under in
              let here = both s at.0 below at.1 p h in
              let in_wide = serves_wide.needed s number r (record { within = t.within; earlier = t.earlier; works = t.works; taken = t.taken }) p q here.0 need in
              let in_all = of.are.closed.needed at.0 number from.0 (takes_whole s number r at.0 from.0 t at.1 from.1) p q here.1
              (subst (λ n. NeedsOfNode c n number p q) (sym at.1.1) need) in
              rest r from.0 under from.1 (never_last s number r t) q in_wide in_all;
          few = λ s below. subst (λ n. position_count (window_at windows s) ≤ n) (sym room) (few s below);
        }

      -- such are those that are met, with the slab itself for the last node
      module _ (met : List Window) (met_are : AreMet c before all wide_windows met) (long : length met ≡ count) (last : ℕ) (last_below : last < count)
          (is_last : node_at before last ≡ before.last) where
        abbrev pub windows_at_last : List Window
        windows_at_last = set met last slab

        here : window_at windows_at_last last ≡ slab
        here = get_or-set_same met last slab zero_window (omega arith)

        elsewhere : (s : ℕ) → s ≢ last → window_at windows_at_last s ≡ window_at met s
        elsewhere s other = get_or-set_other met last s slab zero_window other

        wide_there : window_at wide_windows last ≡ wide
        wide_there =
            let total = wide_are.each in
            let same = ap (λ (steps : List ℕ). length steps) steps_are in
            wide_are.result last (omega (arith, total, same, last_below)) (ap (λ (steps : List ℕ). slice_index steps last) (sym steps_are) ∙ is_last)

        in_both : (s i : ℕ) → s < count → Stands s i → (p : Position) → IsIn (window_at windows_at_last s) p
            → IsIn (window_at wide_windows s) p × IsIn (window_at all i) p
        in_both s i below at p h = elim (cases_eq s last) [
          | inl same ↦
              let inside : IsIn slab p = subst (λ w. IsIn w p) here (subst (λ n. IsIn (window_at windows_at_last n) p) same h) in (
                subst (λ n. IsIn (window_at wide_windows n) p) (sym same) (subst (λ w. IsIn w p) (sym wide_there) (wide_holds p inside)),
                of.inside i at.0 (at.1 ∙ (ap (node_at before) same ∙ (is_last ∙ last_is))) p inside,
              )
          | inr other ↦ (met_are s i below at.0 at.1 p).0 (subst (λ w. IsIn w p) (elsewhere s other) h)
        ]

        but_last : (s i : ℕ) → s < count → Stands s i → node_at before s ≢ before.last → (p : Position)
            → IsIn (window_at wide_windows s) p → IsIn (window_at all i) p → IsIn (window_at windows_at_last s) p
        but_last s i below at other p first second =
            subst (λ w. IsIn w p) (sym (elsewhere s (λ same. other (ap (node_at before) same ∙ is_last))))
            ((met_are s i below at.0 at.1 p).1 (first, second))

        pub met_serve : (n : length windows_at_last ≡ count) → before.largest ≡ largest_slab c size → AreWindowsFor c before windows_at_last
        met_serve n room = windows_serve windows_at_last n in_both but_last room

        pub last_window : (s : ℕ) → s < count → node_at before s ≡ before.last → window_at windows_at_last s ≡ slab
        last_window s below same =
            let e : s ≡ last = only_step before.order.steps listing.once s last below last_below (same ∙ sym is_last) in
            ap (window_at windows_at_last) e ∙ here

-- ---- behind the cut

-- the windows of the steps behind it, each that of its node in the whole run, fit slots for planes
module _ (c : CheckedGraph) (f : AreFaultless c) (size : ChunkSize) (fold : ℕ) (cut : IsTimeCut c fold) (whole front behind : ScheduleOf)
    (are : AreSchedules c size fold whole front behind) (chunk : Window) (windows : List Window) (w : AreWindows c size chunk windows)
    (picked : List Window) (long : length picked ≡ length behind.order.steps) (same : ArePicked c behind windows picked) where
  listing_behind : IsListing (links_behind c fold) c.result behind.order.steps
  listing_behind =
      subst (λ (g : Option ℕ). IsListing (links_given (links_of c.nodes) g) c.result behind.order.steps) are.behind_given
      (subst (λ (n : ℕ). IsListing (links_along c behind) n behind.order.steps) are.behind_last are.behind.listing)

  pub planes_fit : FitSlots behind picked
  planes_fit s below =
      let within : s < length behind.order.steps = omega (arith, below, long) in
      let has = are.behind.of_run s within in
      let node : slice_index (steps_of c) has.0 ≡ node_at behind s = get_or_default (steps_of c) has.0 0 (node_at behind s) has.1 ∙ has.2 in
      let is_behind : IsInRun (links_behind c fold) c.result (node_at behind s) =
      (listing_behind.members (node_at behind s)).0 (Contains-get_or behind.order.steps s 0 within) in
      let each = w.each in
      let few = plane_few c f fold cut size chunk windows w has.0 (let under = has.1 in omega arith)
      (subst (IsInRun (links_behind c fold) c.result) (sym node) is_behind) in
      subst (λ n. position_count (window_at picked s) ≤ n) (sym are.behind_largest)
      (subst (λ v. position_count v ≤ largest_plane c size) (sym (same s has.0 below has.1 node)) few)
