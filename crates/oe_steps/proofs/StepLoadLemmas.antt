-- The planes of what a node loads, one behind the other, and the steps that load, one after the other.
use Rattle.std.proofs.Common.{◌≡◌, ◌≢◌, ℕ, zero, suc, ◌+◌, ◌-◌, ◌*◌, ◌<◌, ◌≤◌, List, [], ◌∷◌, ◌++◌, length, get_or, take, drop, set, Some, refl, sym, ap, ◌∙◌, subst, arith, Vec, Bool, cond, true}
use Rattle.std.proofs.lemmas.List.{length-set, take_all}
use Rattle.std.proofs.lemmas.Option.{same_Some}
use Rattle.std.proofs.lemmas.List.Elements.{All-append}
use Rattle.std.proofs.lemmas.List.Sums.{sum_by-cons}
use Rattle.std.specs.List.{All, count_by, range_with_len, slice_range}
use Rattle.std.specs.Vec.{with_items}
use Rattle.std.specs.declared.alloc.Global.{Global}
use Rattle.oe_cell.specs.declared.cell.Cell.TheVariants.{Empty}
use Rattle.oe_cell.specs.declared.cell.Cell.{Cell}
use Rattle.oe_cube.specs.Kinds.{IsOfKind}
use Rattle.oe_ops.specs.Needs.{plane_window}
use Rattle.oe_plan.specs.Schedules.{node_at, links_along, ScheduleOf, IsSchedule}
use Rattle.oe_plan.specs.Windows.{window_at}
use Rattle.oe_check.specs.Checked.{CheckedGraph, collection_of_node, outline_of_node}
use Rattle.oe_check.specs.Laws.{meaning_of_node}
use Rattle.oe_sources.specs.Catalogue.{Row}
use Rattle.oe_window.proofs.CellLemmas.{cells_on-part, length-cells_on}
use Rattle.oe_window.proofs.PartLemmas.{plane_ends, plane_of_size}
use Rattle.oe_window.specs.Parts.{IsPartFrom, plane_count, plane_of, plane_size}
use Rattle.oe_window.specs.Windows.{position_count}
use Rattle.oe_window.specs.declared.window.Window.{Window}
use Rattle.oe_steps.proofs.BufferLemmas.{length-lists, of_size_after, take_front, with_items_is}
use Rattle.oe_steps.proofs.LiveLemmas.{live_after}
use Rattle.oe_steps.proofs.ReadLemmas.{mounted_same, shows_same}
use Rattle.oe_steps.specs.Buffers.{AreOfSize, buffer_at, lists_of}
use Rattle.oe_steps.specs.Collections.{AreRead, IsMountedAt}
use Rattle.oe_steps.specs.Loads.{AreLoaded, HasLoadedTo, IsLoadedAt}
use Rattle.oe_steps.specs.Steps.{EachLive, node_cells}

pub slice_more : {X : Type 0} (xs : List X) (a n end : ℕ) → end ≡ a + n → take a xs ++ take n (drop a xs) ≡ take end xs
slice_more xs zero n end e = let same : n ≡ end = omega arith in ap (λ k. take k xs) same
slice_more xs (suc a) n zero e = absurd (omega arith)
slice_more [] (suc a) zero (suc end) e = refl
slice_more [] (suc a) (suc n) (suc end) e = refl
slice_more (x ∷ xs) (suc a) n (suc end) e = ap (λ l. x ∷ l) (slice_more xs a n end (omega arith))

pub range_more : {X : Type 0} (xs : List X) (a n : ℕ) → take a xs ++ slice_range xs a (a + n) ≡ take (a + n) xs
range_more xs a n =
    let count : (a + n) - a ≡ n = omega arith in
    ap (λ k. take a xs ++ take k (drop a xs)) count ∙ slice_more xs a n (a + n) refl

-- what is written behind a front stands behind it
written_to : {X : Type 0} (xs piece rest : List X) (done n end : ℕ) → end ≡ done + n → done ≤ length xs → length piece ≡ n
    → take end (take done xs ++ (piece ++ rest)) ≡ take done xs ++ piece
written_to xs piece rest zero n end e le long = take_front piece rest end (omega arith)
written_to xs piece rest (suc done) n zero e le long = absurd (omega arith)
written_to [] piece rest (suc done) n (suc end) e le long = absurd (omega arith)
written_to (x ∷ xs) piece rest (suc done) n (suc end) e le long =
    ap (λ l. x ∷ l) (written_to xs piece rest done n end (omega arith) (omega arith) long)

pub front_written : {X : Type 0} (xs piece rest : List X) (done n : ℕ) → done ≤ length xs → length piece ≡ n
    → take (done + n) (take done xs ++ (piece ++ rest)) ≡ take done xs ++ piece
front_written xs piece rest done n le long = written_to xs piece rest done n (done + n) refl le long

-- ---- the planes of a window

-- a plane ends within the window, where the next one begins
pub record EndsWithin (window plane : Window) (n : ℕ) : Type 0 where
  pub counted : position_count plane ≡ plane_size window
  pub within : n * plane_size window + plane_size window ≤ position_count window
  pub next : (n + 1) * plane_size window ≡ n * plane_size window + plane_size window

pub ends_within : (window plane : Window) (n planes : ℕ) → plane ≡ plane_of window n → planes ≡ plane_count window → n < planes
    → EndsWithin window plane n
ends_within window plane n planes is all below = record {
  counted = ap position_count is ∙ plane_of_size window n;
  within = plane_ends window n (omega (arith, all, below));
  next = by n (plane_size window);
}
  where
    by : (n m : ℕ) → (n + 1) * m ≡ n * m + m
    by n m = omega arith

module _ (c : CheckedGraph) (rows : List Row) (node : ℕ) (window : Window) where
  pub loaded_none : (buffer : List Cell) → HasLoadedTo c rows node window 0 buffer
  loaded_none buffer = record { values = λ collections has shows. refl; kinds = λ k d h. absurd (omega arith) }

  pub loaded_more : (done : ℕ) (plane : Window) (before after piece : List Cell) → IsPartFrom done window plane
      → take (done + position_count plane) after ≡ take done before ++ piece → HasLoadedTo c rows node window done before
      → AreLoaded c rows node plane piece → HasLoadedTo c rows node window (done + position_count plane) after
  loaded_more done plane before after piece part same was now = record {
    values = λ collections has shows.
        same
        ∙ (ap (λ xs. xs ++ piece) (was.values collections has shows)
        ∙ (ap (λ ys. take done (node_cells collections c node window) ++ ys)
        (now.values collections has shows ∙ sym (cells_on-part Empty (meaning_of_node collections c node).cube done window plane part))
        ∙ range_more (node_cells collections c node window) done (position_count plane)));
    kinds = subst (All (IsOfKind (outline_of_node c node).kind)) (sym same)
        (All-append (IsOfKind (outline_of_node c node).kind) (take done before) piece was.kinds now.kinds);
  }

  pub loaded_all : (done : ℕ) (buffer : List Cell) → done ≡ position_count window → HasLoadedTo c rows node window done buffer
      → AreLoaded c rows node window (take (position_count window) buffer)
  loaded_all done buffer all has = record {
    values = λ collections have shows.
        let cells = node_cells collections c node window in
        let long = length-cells_on Empty (meaning_of_node collections c node).cube window in
        subst (λ n. take n buffer ≡ take n cells) all (has.values collections have shows)
        ∙ take_all (position_count window) cells (omega arith);
    kinds = subst (λ n. All (IsOfKind (outline_of_node c node).kind) (take n buffer)) all has.kinds;
  }

-- ---- after reads

-- what is loaded from collections after reads is what it was before them
pub loaded_before : (c : CheckedGraph) (before now : List Row) (node : ℕ) (window : Window) (cells : List Cell) → AreRead before now
    → AreLoaded c now node window cells → AreLoaded c before node window cells
loaded_before c before now node window cells read loaded = record {
  values = λ collections has shows. loaded.values collections has (shows_same c before now read.same collections shows);
  kinds = loaded.kinds;
}

-- where its collection is mounted
pub mounted_for : (graph : CheckedGraph) (schedule : ScheduleOf) (before now : List Row) (step place : ℕ) (id : List ℕ) → collection_of_node graph (node_at schedule step) ≡ Some id
    → IsMountedAt graph before id place → AreRead before now
    → (name : List ℕ) → collection_of_node graph (node_at schedule step) ≡ Some name → IsMountedAt graph now name place
mounted_for graph schedule before now step place id e at read name e' =
    let same : id ≡ name = same_Some id name (sym e ∙ e') in
    subst (λ i. IsMountedAt graph now i place) same (mounted_same before now read.same graph id place at)

-- a plane of a window is one
pub one_plane : (window plane : Window) (n : ℕ) → plane ≡ plane_of window n → plane ≡ plane_window plane plane.t.from plane.bands.from
one_plane window plane n e = rw e refl

-- ---- the buffers

pub set_at : (buffers : List (Vec Cell Global)) (slot : ℕ) (v : Vec Cell Global) → slot < length buffers
    → buffer_at (lists_of (set buffers slot v)) slot ≡ v.items
set_at [] slot v h = absurd (omega arith)
set_at (b ∷ buffers) zero v h = refl
set_at (b ∷ buffers) (suc slot) v h = set_at buffers slot v (omega arith)

pub set_other : (buffers : List (Vec Cell Global)) (slot : ℕ) (v : Vec Cell Global) (k : ℕ) → k ≢ slot
    → buffer_at (lists_of (set buffers slot v)) k ≡ buffer_at (lists_of buffers) k
set_other [] slot v k other = refl
set_other (b ∷ buffers) zero v zero other = absurd (other refl)
set_other (b ∷ buffers) zero v (suc k) other = refl
set_other (b ∷ buffers) (suc slot) v zero other = refl
set_other (b ∷ buffers) (suc slot) v (suc k) other = set_other buffers slot v k (λ e. other (ap suc e))

-- the buffer of a slot is written, and keeps its length
module _ (buffers : List (Vec Cell Global)) (slot count cells : ℕ) (are : AreOfSize (lists_of buffers) count cells) (below : slot < count)
    (v : Vec Cell Global) (out : List Cell) (at : buffer_at (lists_of buffers) slot ≡ v.items) (long : length out ≡ length v.items) where
  pub slot_written : buffer_at (lists_of (set buffers slot (with_items v out))) slot ≡ out
  slot_written =
      let many = are.as_many in
      let same = length-lists buffers in
      set_at buffers slot (with_items v out) (omega arith) ∙ with_items_is v out long

  pub sizes_stay : AreOfSize (lists_of (set buffers slot (with_items v out))) count cells
  sizes_stay =
      of_size_after (lists_of buffers) (lists_of (set buffers slot (with_items v out))) slot count cells are
      (length-lists (set buffers slot (with_items v out)) ∙ (length-set buffers slot (with_items v out) ∙ sym (length-lists buffers)))
      (set_other buffers slot (with_items v out))
      (ap length slot_written ∙ (long ∙ sym (ap length at)))

module _ (graph : CheckedGraph) (schedule : ScheduleOf) (is : IsSchedule graph schedule) (rows : List Row) (windows : List Window) where
  pub next_loaded : (old new : List (List Cell)) (step : ℕ) → step < length schedule.order.steps
      → ((slot : ℕ) → slot ≢ get_or schedule.order.slots step 0 → buffer_at new slot ≡ buffer_at old slot)
      → EachLive graph schedule step (IsLoadedAt graph schedule rows windows old) → IsLoadedAt graph schedule rows windows new step
      → EachLive graph schedule (step + 1) (IsLoadedAt graph schedule rows windows new)
  next_loaded old new step within others before own =
      live_after (links_along graph schedule) schedule.last schedule.order is.evaluation is.slotted
      (IsLoadedAt graph schedule rows windows old) (IsLoadedAt graph schedule rows windows new) step within
      (λ i apart loaded. subst (AreLoaded graph rows (node_at schedule i) (window_at windows i))
      (sym (ap (take (position_count (window_at windows i))) (others (get_or schedule.order.slots i 0) apart))) loaded)
      own before

count_cons : (test : ℕ → Bool) (x : ℕ) (xs : List ℕ) → test x ≡ true → count_by test (x ∷ xs) ≡ 1 + count_by test xs
count_cons test x xs is =
    sum_by-cons (λ y. cond (test y) 1 0) x xs ∙ ap (λ b. cond b 1 0 + count_by test xs) is

-- so many at least pass a test as numbers that pass it stand first
pub count_first : (test : ℕ → Bool) (a n m : ℕ) → n ≤ m → ((i : ℕ) → a ≤ i → i < a + n → test i ≡ true)
    → n ≤ count_by test (range_with_len a m)
count_first test a zero m le each = omega arith
count_first test a (suc n) zero le each = absurd (omega arith)
count_first test a (suc n) (suc m) le each =
    let rest = count_first test (a + 1) n m (omega arith) (λ i from to. each i (omega arith) (omega arith)) in
    let one = count_cons test a (range_with_len (a + 1) m) (each a (omega arith) (omega arith)) in
    omega arith
