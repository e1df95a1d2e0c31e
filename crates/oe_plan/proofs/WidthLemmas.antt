-- How many windows a run keeps at once: live nodes counted at a step, the most over the steps so far, and how many steps
-- there are.
use Rattle.std.specs.Prelude.{◌≡◌, ◌≢◌, ◌<◌, ◌≤◌, ◌+◌, ◌*◌, ◌||◌, ℕ, zero, suc, min, max, Bool, true, false, List, [], ◌∷◌, ◌++◌, length, map, slice_index, count_by, if◌then◌else◌}
use Rattle.std.specs.List.{range_with_len}
use Rattle.std.proofs.Common.{eqb, get_or, inl, inr, sym, ap, ◌∙◌, subst, arith}
use Rattle.std.proofs.lemmas.Bool.{cases_eq, eq-eqb, ne_eqb, or_left}
use Rattle.std.proofs.lemmas.List.FromFn.{map-range_with_len_more}
use Rattle.std.proofs.lemmas.List.Sums.{sum_by_push}
use Rattle.std.proofs.Math.Nat.{mul-le-mul}
use Rattle.oe_graph.specs.Printed.{node_count}
use Rattle.oe_order.specs.Graph.{Node, graph_of}
use Rattle.oe_order.specs.Live.{IsSlotted, Steps, is_live, largest, live_count, taken_from, width_of}
use Rattle.oe_order.specs.Order.{IsListing, contains}
use Rattle.oe_order.specs.declared.Links.{Links}
use Rattle.oe_order.proofs.Graphs.{arguments-graph_of}
use Rattle.oe_order.proofs.Lists.{Apart, bool_split, contains-at, contains-index, length-apart, one_if}
use Rattle.oe_order.proofs.Lives.{is_live-after, is_live-before, is_live-here, taken_from-more}
use Rattle.oe_check.specs.Checked.{CheckedGraph}
use Rattle.oe_check.specs.Links.{links_of}
use Rattle.oe_window.specs.declared.grid.ChunkSize.{ChunkSize}
use Rattle.oe_dims.specs.declared.kind.Kind.TheVariants.{Time, Bands, Y, X}
use Rattle.oe_plan.proofs.SizeLemmas.{largest_of_more}
use Rattle.oe_plan.specs.Figures.{halo_along, is_whole_along, largest_window, most_along, side_along, steps_of, width_of_run, windows_at_step}
use Rattle.oe_plan.specs.Turns.{takes_sums}
use Rattle.oe_plan.specs.Ranges.{AreStepsOf, IsWithinRanges}

-- ---- whether a list has a node

pub not_found : (xs : List ℕ) (n : ℕ) → ((k : ℕ) → k < length xs → get_or xs k 0 ≡ n → ⊥) → contains xs n ≡ false
not_found xs n none = elim (bool_split (contains xs n)) [
  | inl has ↦ (let at = contains-index xs n has in absurd (none at.0 at.1 at.2))
  | inr lacks ↦ lacks
]

pub found_at : (xs : List ℕ) (k n : ℕ) → k < length xs → get_or xs k 0 ≡ n → contains xs n ≡ true
found_at xs k n below is = subst (λ m. contains xs m ≡ true) is (contains-at xs k 0 below)

-- ---- whether a node is taken from a step on

module _ (links : List Links) (steps : List ℕ) (s n : ℕ) (x : Links) (below : s < length steps)
    (within : get_or steps s 0 < length links) (is : x ≡ get_or links (get_or steps s 0) x) where
  abbrev pub taken_later : Bool
  taken_later = taken_from (graph_of links) steps (s + 1) n

  here : taken_from (graph_of links) steps s n ≡ contains x.arguments.items n || taken_later
  here =
      taken_from-more (graph_of links) steps s n below
      ∙ ap (λ (xs : List ℕ). contains xs n || taken_later) (arguments-graph_of links (get_or steps s 0) x within is)

  pub not_taken_here : false ≡ contains x.arguments.items n → taken_from (graph_of links) steps s n ≡ taken_later
  not_taken_here none = here ∙ ap (λ (b : Bool). b || taken_later) (sym none)

  pub taken_here : true ≡ contains x.arguments.items n → taken_from (graph_of links) steps s n ≡ true
  taken_here some = here ∙ ap (λ (b : Bool). b || taken_later) (sym some)

-- a node that does not stand before a step is live there only where it stands right there
pub live_by_now : (nodes : List Node) (last : ℕ) (steps : List ℕ) (step at : ℕ) → step ≤ at → eqb at step ≡ is_live nodes last steps step at
live_by_now nodes last steps step at by = elim (cases_eq at step) [
  | inl same ↦ eq-eqb at step same ∙ sym (is_live-here nodes last steps step at same)
  | inr other ↦ ne_eqb at step other ∙ sym (is_live-after nodes last steps step at (omega (arith, other)))
]

-- one that stands before it is live where it is the last
pub live_as_last : (nodes : List Node) (last : ℕ) (steps : List ℕ) (step at : ℕ) → at < step → get_or steps at 0 ≡ last
    → eqb (get_or steps at 0) last ≡ is_live nodes last steps step at
live_as_last nodes last steps step at before same =
    let is = eq-eqb (get_or steps at 0) last same in
    is ∙ sym (is_live-before nodes last steps step at before
    ∙ or_left (eqb (get_or steps at 0) last) (taken_from nodes steps step (get_or steps at 0)) is)

-- and else where it is taken from there on
pub live_as_taken : (nodes : List Node) (last : ℕ) (steps : List ℕ) (step at : ℕ) (taken : Bool) → at < step → (get_or steps at 0 ≡ last → ⊥)
    → taken ≡ taken_from nodes steps step (get_or steps at 0) → taken ≡ is_live nodes last steps step at
live_as_taken nodes last steps step at taken before other is =
    is ∙ sym (is_live-before nodes last steps step at before
    ∙ ap (λ (b : Bool). b || taken_from nodes steps step (get_or steps at 0)) (ne_eqb (get_or steps at 0) last other))

-- ---- counts

range_last : (a n j : ℕ) → a + n ≡ j → range_with_len a (suc n) ≡ range_with_len a n ++ j ∷ []
range_last a zero j e = let same : a ≡ j = omega arith in ap (λ (k : ℕ). k ∷ []) same
range_last a (suc n) j e = ap (λ (ks : List ℕ). a ∷ ks) (range_last (a + 1) n j (omega arith))

range_more : (a n j : ℕ) → a + n ≡ j → range_with_len a (n + 1) ≡ range_with_len a n ++ j ∷ []
range_more a n j e = let on : n + 1 ≡ suc n = omega arith in ap (range_with_len a) on ∙ range_last a n j e

count_more : (p : ℕ → Bool) (n : ℕ) → count_by p (range_with_len 0 (n + 1)) ≡ count_by p (range_with_len 0 n) + one_if (p n)
count_more p n =
    ap (count_by p) (range_more 0 n n (omega arith)) ∙ sum_by_push (λ (i : ℕ). one_if (p i)) (range_with_len 0 n) n

pub count_yes : (p : ℕ → Bool) (n count : ℕ) → count ≡ count_by p (range_with_len 0 n) → true ≡ p n
    → count + 1 ≡ count_by p (range_with_len 0 (n + 1))
count_yes p n count so_far holds =
    let more = count_more p n in
    let one : one_if (p n) ≡ 1 = ap one_if (sym holds) in
    omega (arith, more, one, so_far)

pub count_no : (p : ℕ → Bool) (n count : ℕ) → count ≡ count_by p (range_with_len 0 n) → false ≡ p n
    → count ≡ count_by p (range_with_len 0 (n + 1))
count_no p n count so_far fails =
    let more = count_more p n in
    let none : one_if (p n) ≡ 0 = ap one_if (sym fails) in
    omega (arith, more, none, so_far)

pub live_counted : (nodes : List Node) (last : ℕ) (steps : List ℕ) (step count : ℕ)
    → count ≡ count_by (is_live nodes last steps step) (range_with_len 0 (length steps)) → count ≡ live_count nodes last steps step
unfolding live_count
live_counted nodes last steps step count is = is

-- ---- the most over the steps

largest_le : (f g : ℕ → ℕ) (a n : ℕ) → ((i : ℕ) → f i ≤ g i) → largest (map f (range_with_len a n)) ≤ largest (map g (range_with_len a n))
largest_le f g a zero each = omega arith
largest_le f g a (suc n) each =
    let here = each a in
    let rest = largest_le f g (a + 1) n each in
    omega (arith, here, rest)

largest_one : (f : ℕ → ℕ) (a n i j : ℕ) → i < n → a + i ≡ j → f j ≤ largest (map f (range_with_len a n))
largest_one f a zero i j below at = absurd (omega arith)
largest_one f a (suc n) zero j below at =
    let is : j ≡ a = omega arith in
    let same : f j ≡ f a = ap f is in
    omega (arith, same)
largest_one f a (suc n) (suc i) j below at =
    let rest = largest_one f (a + 1) n i j (omega arith) (omega arith) in
    omega (arith, rest)

largest_next : (f : ℕ → ℕ) (n : ℕ) → largest (map f (range_with_len 0 (n + 1))) ≡ max (largest (map f (range_with_len 0 n))) (f n)
largest_next f n =
    ap largest (map-range_with_len_more f 0 n n (omega arith)) ∙ largest_of_more (map f (range_with_len 0 n)) (f n)

-- how many windows are kept at once, at least so many, up to the first steps
abbrev pub width_so_far : CheckedGraph → ℕ → ℕ → ℕ
width_so_far c least count = max least (largest (map (windows_at_step c) (range_with_len 0 count)))

module _ (c : CheckedGraph) where
  abbrev pub live_at : ℕ → ℕ
  live_at step = live_count (links_of c.nodes) c.result (steps_of c) step

  abbrev pub most_live : ℕ
  most_live = width_of (links_of c.nodes) c.result (steps_of c)

  pub width_begins : most_live ≡ width_so_far c most_live 0
  width_begins = omega arith

  -- at a step that takes running sums there is one window more than live nodes
  pub width_with_sums : (k width live : ℕ) → takes_sums c (slice_index (steps_of c) k) ≡ true → live ≡ live_at k
      → width ≡ width_so_far c most_live k → max width (live + 1) ≡ width_so_far c most_live (k + 1)
  width_with_sums k width live sums is so_far =
      let next = largest_next (windows_at_step c) k in
      let here : windows_at_step c k ≡ live_at k + 1 = ap (λ (b : Bool). live_at k + (if b then 1 else 0)) sums in
      omega (arith, next, here, is, so_far)

  at_most_live : (k : ℕ) → k < length (steps_of c) → live_at k ≤ most_live
  unfolding width_of
  at_most_live k below = largest_one (live_count (links_of c.nodes) c.result (steps_of c)) 0 (length (steps_of c)) k k below (omega arith)

  -- at any other as many
  pub width_without_sums : (k width : ℕ) → k < length (steps_of c) → takes_sums c (slice_index (steps_of c) k) ≡ false
      → width ≡ width_so_far c most_live k → width ≡ width_so_far c most_live (k + 1)
  width_without_sums k width below none so_far =
      let next = largest_next (windows_at_step c) k in
      let here : windows_at_step c k ≡ live_at k + 0 = ap (λ (b : Bool). live_at k + (if b then 1 else 0)) none in
      let few = at_most_live k below in
      omega (arith, next, here, few, so_far)

  some_more : (b : Bool) (n : ℕ) → n ≤ n + (if b then 1 else 0)
  some_more true n = omega arith
  some_more false n = omega arith

  all_live : most_live ≤ width_of_run c
  unfolding width_of
  all_live =
      largest_le (live_count (links_of c.nodes) c.result (steps_of c)) (windows_at_step c) 0 (length (steps_of c))
      (λ k. some_more (takes_sums c (slice_index (steps_of c) k)) (live_at k))

  pub width_ends : (count width : ℕ) → count ≡ length (steps_of c) → width ≡ width_so_far c most_live count → width ≡ width_of_run c
  width_ends count width all so_far =
      let few = all_live in
      let whole : width ≡ width_so_far c most_live (length (steps_of c)) = so_far ∙ ap (width_so_far c most_live) all in
      omega (arith, few, whole)

-- ---- how many steps there are

apart : (xs : List ℕ) → ((i j : ℕ) → i < j → j < length xs → get_or xs i 0 ≢ get_or xs j 0) → Apart xs
apart [] once = tt
apart (x ∷ xs) once = (
  not_found xs x (λ k below same. once 0 (suc k) (omega arith) (omega arith) (sym same)),
  apart xs (λ i j lt below. once (suc i) (suc j) (omega arith) (omega arith)),
)

-- no more than nodes
pub few_steps : (c : CheckedGraph) (nodes : List Node) (last : ℕ) (steps : List ℕ) → IsListing nodes last steps → AreStepsOf c steps
    → length steps ≤ node_count c.nodes
few_steps c nodes last steps listing are =
    length-apart (node_count c.nodes) steps (apart steps listing.once)
    (λ k has. let at = contains-index steps k has in subst (λ (m : ℕ). m < node_count c.nodes) at.2 (are.within at.0 at.1))

-- ---- slots

-- more slots serve as well
pub wider : (nodes : List Node) (last width : ℕ) (order : Steps) → order.width ≤ width → IsSlotted nodes last order
    → IsSlotted nodes last (record order { width = width })
wider nodes last width order le slotted = record {
  each = slotted.each;
  below = λ i at. let below = slotted.below i at in omega arith;
  apart = slotted.apart;
}

-- a window has a cell at least
one_side : (whole : Bool) (most side halo : ℕ) → 1 ≤ most → 1 ≤ side → 1 ≤ (if whole then most else min most (side + 2 * halo))
one_side true most side halo some long = some
one_side false most side halo some long = omega arith

product_some : (t bands y x : ℕ) → 1 ≤ t → 1 ≤ bands → 1 ≤ y → 1 ≤ x → 1 ≤ t * bands * y * x
product_some t bands y x t_some bands_some y_some x_some =
    let plane : 1 * 1 ≤ t * bands = mul-le-mul t_some bands_some in
    let box : 1 * 1 * 1 ≤ t * bands * y = mul-le-mul plane y_some in
    mul-le-mul box x_some

some_window : (c : CheckedGraph) (size : ChunkSize) (workers : ℕ) → IsWithinRanges size workers → 1 ≤ largest_window c size
some_window c size workers ranges =
    product_some (side_along c size Time) (side_along c size Bands) (side_along c size Y) (side_along c size X)
    (one_side (is_whole_along c Time) (most_along c Time) size.t (halo_along c Time) (omega arith) ranges.t.0) (omega arith)
    (one_side (is_whole_along c Y) (most_along c Y) size.y (halo_along c Y) (omega arith) ranges.y.0)
    (one_side (is_whole_along c X) (most_along c X) size.x (halo_along c X) (omega arith) ranges.x.0)

-- so a run has no more windows than it may hold cells
pub width_small : (c : CheckedGraph) (size : ChunkSize) (workers width large scratch most : ℕ) → IsWithinRanges size workers
    → large ≡ largest_window c size → 2 * workers * (width * large + scratch) ≤ most → width ≤ most
width_small c size workers width large scratch most ranges is whole =
    let some : 1 ≤ large = subst (λ (n : ℕ). 1 ≤ n) (sym is) (some_window c size workers ranges) in
    let least = ranges.least in
    let bench : 1 * (width * large + scratch) ≤ 2 * workers * (width * large + scratch) = mul-le-mul (omega arith) (omega arith) in
    let each : width * 1 ≤ width * large = mul-le-mul (omega arith) some in
    omega arith
