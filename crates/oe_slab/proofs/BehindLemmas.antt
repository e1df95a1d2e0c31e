-- The whole run and the part behind the cut: their steps, which of them is given, and their windows.
use Rattle.std.proofs.Common.{◌≡◌, ℕ, ◌<◌, ◌≤◌, true, List, length, inl, inr, refl, sym, ap, ◌∙◌, subst}
use Rattle.std.proofs.lemmas.Bool.{cases_eq, true≢false}
use Rattle.std.proofs.lemmas.List.{get_or_default}
use Rattle.std.proofs.lemmas.List.Elements.{Contains-get_or}
use Rattle.std.specs.Prelude.{Contains, slice_index}
use Rattle.oe_cell.specs.declared.cell.Cell.{Cell}
use Rattle.oe_cell.specs.declared.cell.Cell.TheVariants.{Empty}
use Rattle.oe_order.specs.Graph.{Node, IsInRun, is_load}
use Rattle.oe_order.specs.Order.{IsListing}
use Rattle.oe_plan.specs.Figures.{steps_of}
use Rattle.oe_plan.specs.Laws.{ArePicked}
use Rattle.oe_plan.specs.Schedules.{is_load_at, links_along, links_given, node_at, part_of}
use Rattle.oe_plan.specs.Windows.{AreWindows, IsOrderOf, window_at}
use Rattle.oe_plan.proofs.ScheduleLemmas.{load_elsewhere}
use Rattle.oe_check.specs.Checked.{CheckedGraph}
use Rattle.oe_check.specs.Links.{links_of}
use Rattle.oe_check.proofs.LinkLemmas.{is_acyclic}
use Rattle.oe_meanings.specs.Graphs.{Collections}
use Rattle.oe_steps.specs.Steps.{AreCells, OfLast, buffer_cells_at, node_cells}
use Rattle.oe_window.specs.Cells.{cells_on}
use Rattle.oe_window.specs.Windows.{position_count}
use Rattle.oe_window.specs.declared.window.Window.{Window}
use Rattle.oe_slab.specs.Cuts.{links_behind}
use Rattle.oe_slab.specs.Figures.{largest_plane}
use Rattle.oe_slab.specs.Plans.{IsSlabPlan, SlabPlanOf}
use Rattle.oe_slab.specs.Runs.{result_cube}
use Rattle.oe_slab.specs.Schedules.{IsPlaneOf}
use Rattle.oe_slab.proofs.ApartLemmas.{parted}
use Rattle.oe_slab.proofs.DateLemmas.{IsBehind, plane_few}

module _ (p : SlabPlanOf) (is : IsSlabPlan p) where
  abbrev c : CheckedGraph
  c = p.graph

  -- ---- the whole run

  whole_listing : IsListing (links_of c.nodes) c.result p.whole.order.steps
  whole_listing =
      subst (λ (last : ℕ). IsListing (links_of c.nodes) last p.whole.order.steps) is.schedules.whole_last
      (subst (λ given. IsListing (links_given (links_of c.nodes) given) p.whole.last p.whole.order.steps) is.schedules.whole_given
      is.schedules.whole.listing)

  pub fold_in_whole : Contains p.whole.order.steps p.fold
  fold_in_whole = (whole_listing.members p.fold).1 is.cut.lone.of_run

  part_is : part_of c p.whole ≡ c
  part_is = ap (λ (last : ℕ). record c { result = last }) is.schedules.whole_last

  pub whole_order : IsOrderOf (part_of c p.whole) p.whole.order
  whole_order = record {
    steps_are = is.schedules.whole_steps ∙ ap (λ (last : ℕ). steps_of (record c { result = last })) (sym is.schedules.whole_last);
    listing = subst (λ (last : ℕ). IsListing (links_of c.nodes) last p.whole.order.steps) (sym is.schedules.whole_last) whole_listing;
  }

  pub whole_windows : (chunk : Window) (windows : List Window) → AreWindows (part_of c p.whole) p.size chunk windows
      → AreWindows c p.size chunk windows
  whole_windows chunk windows are = subst (λ g. AreWindows g p.size chunk windows) part_is are

  -- ---- the part behind the cut

  links_are : links_along c p.behind ≡ links_behind c p.fold
  links_are = ap (links_given (links_of c.nodes)) is.schedules.behind_given

  abbrev IsThere : List Node → ℕ → ℕ → Type 0
  IsThere nodes last n = IsInRun nodes last n

  -- each step is one of the part
  behind_at : (step : ℕ) → step < length p.behind.order.steps → IsInRun (links_behind c p.fold) c.result (node_at p.behind step)
  behind_at step below =
      subst (λ (last : ℕ). IsThere (links_behind c p.fold) last (node_at p.behind step)) is.schedules.behind_last
      (subst (λ nodes. IsThere nodes p.behind.last (node_at p.behind step)) links_are
      ((is.schedules.behind.listing.members (node_at p.behind step)).0 (Contains-get_or p.behind.order.steps step 0 below)))

  -- the cut stands in it
  pub cut_behind : IsInRun (links_behind c p.fold) c.result p.fold
  cut_behind = elim (parted (links_of c.nodes) p.fold c.result p.fold is.cut.lone.of_run) [
    | inl path ↦ absurd (is_acyclic c.nodes is.faultless.resolved p.fold path)
    | inr there ↦ there
  ]

  pub fold_in_behind : Contains p.behind.order.steps p.fold
  fold_in_behind =
      (is.schedules.behind.listing.members p.fold).1
      (subst (λ nodes. IsThere nodes p.behind.last p.fold) (sym links_are)
      (subst (λ (last : ℕ). IsThere (links_behind c p.fold) last p.fold) (sym is.schedules.behind_last) cut_behind))

  -- and alone counts as loaded
  pub load_is : (step : ℕ) → step < length p.behind.order.steps → is_load_at c p.behind step ≡ true → node_at p.behind step ≡ p.fold
  load_is step below loads = elim (cases_eq (node_at p.behind step) p.fold) [
    | inl same ↦ same
    | inr other ↦
        absurd (true≢false (sym loads
        ∙ (ap (λ nodes. is_load nodes (node_at p.behind step)) links_are
        ∙ (load_elsewhere (links_of c.nodes) p.fold (node_at p.behind step) other
        ∙ is.cut.through (node_at p.behind step) (behind_at step below)))))
  ]

  -- ---- windows

  -- that of the cut is no larger than a plane
  pub cut_few : (chunk plane : Window) (windows : List Window) → AreWindows c p.size chunk windows
      → IsPlaneOf c p.fold windows plane → position_count plane ≤ largest_plane c p.size
  cut_few chunk plane windows are (step, below, node_is, plane_is) =
      subst (λ (w : Window). position_count w ≤ largest_plane c p.size) plane_is
      (plane_few c is.faultless p.fold is.cut p.size chunk windows are step (subst (λ n. step < n) (sym are.each) below)
      (subst (IsBehind c is.faultless p.fold is.cut) (sym node_is) cut_behind))

  module _ (windows picked : List Window) (each : length picked ≡ length p.behind.order.steps)
      (are_picked : ArePicked c p.behind windows picked) where
    -- where the cut stands behind it
    pub cut_at : (plane : Window) → IsPlaneOf c p.fold windows plane
        → (step : ℕ) → step < length p.behind.order.steps → node_at p.behind step ≡ p.fold → window_at picked step ≡ plane
    cut_at plane (r, below, node_is, plane_is) step within is_fold =
        are_picked step r (subst (λ n. step < n) (sym each) within) below (node_is ∙ sym is_fold) ∙ plane_is

    result_in_whole : (step : ℕ) × (step < length (steps_of c)) × (slice_index (steps_of c) step ≡ c.result)
    result_in_whole =
        let has = (whole_listing.members c.result).1 (inl refl) in
        let there : Contains (steps_of c) c.result = subst (λ steps. Contains steps c.result) is.schedules.whole_steps has in
        let below = there.1 in
        (there.0, there.1, get_or_default (steps_of c) there.0 0 c.result below ∙ there.2)

    -- that of the result is the chunk
    pub result_at : (chunk : Window) → AreWindows c p.size chunk windows → OfLast p.behind (λ step. window_at picked step ≡ chunk)
    result_at chunk are step within last =
        let r = result_in_whole in
        are_picked step r.0 (subst (λ n. step < n) (sym each) within) r.1 (r.2 ∙ sym (last ∙ is.schedules.behind_last))
        ∙ are.result r.0 (subst (λ n. r.0 < n) (sym are.each) r.1) r.2

    -- and so are its cells those of the result there
    pub result_cells : (chunk : Window) → AreWindows c p.size chunk windows → (collections : Collections) (buffers : List (List Cell))
        → OfLast p.behind (AreCells collections c p.behind picked buffers)
        → OfLast p.behind (λ step. cells_on Empty (result_cube collections p) chunk ≡ buffer_cells_at p.behind picked buffers step)
    result_cells chunk are collections buffers cells step within last =
        ap (node_cells collections c c.result) (sym (result_at chunk are step within last))
        ∙ (ap (λ (n : ℕ). node_cells collections c n (window_at picked step)) (sym (last ∙ is.schedules.behind_last))
        ∙ sym (cells step within last))
