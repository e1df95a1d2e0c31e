-- When a run has a time cut.
use Rattle.std.proofs.Common.{◌≡◌, ℕ, ◌<◌, Bool, true, false, List, length, Option, Some, None, refl, sym, ap, ◌∙◌, subst}
use Rattle.std.proofs.lemmas.Bool.{false≢true}
use Rattle.std.proofs.lemmas.Option.{same_Some}
use Rattle.std.proofs.lemmas.List.Elements.{Contains-get_or}
use Rattle.std.specs.Prelude.{Contains, slice_index}
use Rattle.oe_dims.specs.declared.kind.Kind.TheVariants.{Time}
use Rattle.oe_fold.specs.declared.reducer.Reducer.{Reducer}
use Rattle.oe_graph.specs.Printed.{node_count}
use Rattle.oe_order.specs.Graph.{Node, is_load}
use Rattle.oe_order.specs.Live.{width_of}
use Rattle.oe_order.specs.Order.{IsListing, order_of}
use Rattle.oe_order.proofs.Lists.{contains-from, contains-index}
use Rattle.oe_check.specs.Checked.{CheckedGraph}
use Rattle.oe_check.specs.Links.{links_of}
use Rattle.oe_check.specs.Reach.{time_fold_of_node, whole_of_node}
use Rattle.oe_slab.specs.Cuts.{HasNoTimeCut, IsLoneFold, IsOfRun, IsTimeCut, links_behind}
use Rattle.oe_slab.specs.Figures.{width_behind}
use Rattle.oe_plan.specs.Schedules.{as_load}

stands_at : (steps : List ℕ) (n : ℕ) → Contains steps n → (i : ℕ) × (i < length steps) × (slice_index steps i ≡ n)
stands_at steps n has = contains-index steps n (contains-from steps n has)

-- ---- the node that alone needs all dates

module _ (c : CheckedGraph) (steps : List ℕ) (listing : IsListing (links_of c.nodes) c.result steps) where
  pub of_run : (i n : ℕ) → i < length steps → slice_index steps i ≡ n → IsOfRun c n
  of_run i n below is = subst (IsOfRun c) is ((listing.members (slice_index steps i)).0 (Contains-get_or steps i 0 below))

  -- no node needs all dates
  pub none_whole : ((i : ℕ) → i < length steps → whole_of_node c (slice_index steps i) Time ≡ Some false) → HasNoTimeCut c
  none_whole all fold cut =
      let at = stands_at steps fold ((listing.members fold).1 cut.lone.of_run) in
      let e : Some false ≡ Some true = sym (all at.0 at.1) ∙ (ap (λ n. whole_of_node c n Time) at.2 ∙ cut.lone.whole) in
      false≢true (same_Some false true e)

  -- the one that does does not reduce them date by date
  pub none_folds : (fold : ℕ) → IsOfRun c fold → whole_of_node c fold Time ≡ Some true → time_fold_of_node c fold ≡ None → HasNoTimeCut c
  none_folds fold of whole none other cut =
      let same : fold ≡ other = cut.lone.only fold of whole in
      let e : ◌≡◌ {A = Option (Reducer × Bool)} None (Some (cut.lone.reducer, cut.lone.ignores_nulls)) = sym none ∙ (ap (λ n. time_fold_of_node c n) same ∙ cut.lone.folds) in
      cc

  -- another does too
  pub none_alone : (fold : ℕ) → IsOfRun c fold → whole_of_node c fold Time ≡ Some true
      → (((i : ℕ) → i < length steps → whole_of_node c (slice_index steps i) Time ≡ Some true → slice_index steps i ≡ fold) → ⊥) → HasNoTimeCut c
  none_alone fold of whole apart other cut =
      apart (λ i below is. cut.lone.only (slice_index steps i) (of_run i (slice_index steps i) below refl) is ∙ sym (cut.lone.only fold of whole))

  -- it is the one
  pub lone : (fold : ℕ) (x : Reducer × Bool) → fold < node_count c.nodes → IsOfRun c fold → time_fold_of_node c fold ≡ Some x
      → whole_of_node c fold Time ≡ Some true
      → ((i : ℕ) → i < length steps → whole_of_node c (slice_index steps i) Time ≡ Some true → slice_index steps i ≡ fold) → IsLoneFold c fold
  lone fold x within of folds whole alone = record {
    within = within;
    of_run = of;
    reducer = x.0;
    ignores_nulls = x.1;
    folds = folds;
    whole = whole;
    only = λ node inside is.
        let at = stands_at steps node ((listing.members node).1 inside) in
        sym at.2 ∙ alone at.0 at.1 (ap (λ n. whole_of_node c n Time) at.2 ∙ is);
  }

-- ---- the part behind it

module _ (c : CheckedGraph) (fold : ℕ) (lone : IsLoneFold c fold) (steps : List ℕ) (listing : IsListing (links_behind c fold) c.result steps) where
  pub cut_there : ((i : ℕ) → i < length steps → is_load (links_of c.nodes) (slice_index steps i) ≡ false) → IsTimeCut c fold
  cut_there loads = record {
    lone = lone;
    through = λ node inside.
        let at = stands_at steps node ((listing.members node).1 inside) in
        subst (λ n. is_load (links_of c.nodes) n ≡ false) at.2 (loads at.0 at.1);
  }

  -- it loads something
  pub none_through : (((i : ℕ) → i < length steps → is_load (links_of c.nodes) (slice_index steps i) ≡ false) → ⊥) → HasNoTimeCut c
  none_through loads other cut =
      let same : fold ≡ other = cut.lone.only fold lone.of_run lone.whole in
      let here : IsTimeCut c fold = subst (IsTimeCut c) (sym same) cut in
      loads (λ i below. here.through (slice_index steps i) ((listing.members (slice_index steps i)).0 (Contains-get_or steps i 0 below)))

-- ---- the same, as the code has it: the links and the steps by other names

module _ (c : CheckedGraph) (fold : ℕ) (nodes : List Node) (last : ℕ) (steps : List ℕ) (nodes_are : nodes ≡ links_of c.nodes) (last_is : last ≡ c.result) where
  listing_there : IsListing (as_load nodes fold) last steps → IsListing (links_behind c fold) c.result steps
  listing_there listing =
      subst (λ (m : ℕ). IsListing (links_behind c fold) m steps) last_is
      (subst (λ (ns : List Node). IsListing (as_load ns fold) last steps) nodes_are listing)

  abbrev LoadNothing : List Node → List ℕ → Type 0
  LoadNothing ns xs = (i : ℕ) → i < length xs → is_load ns (slice_index xs i) ≡ false

  pub cut_found : IsLoneFold c fold → (shown : List ℕ) → shown ≡ steps → IsListing (as_load nodes fold) last steps
      → ((i : ℕ) → i < length shown → is_load nodes (slice_index shown i) ≡ false) → IsTimeCut c fold
  cut_found lone shown shown_is listing loads =
      cut_there c fold lone steps (listing_there listing)
      (subst (λ (ns : List Node). LoadNothing ns steps) nodes_are (subst (LoadNothing nodes) shown_is loads))

  pub cut_lost : IsLoneFold c fold → (shown : List ℕ) → shown ≡ steps → IsListing (as_load nodes fold) last steps
      → (((i : ℕ) → i < length shown → is_load nodes (slice_index shown i) ≡ false) → ⊥) → HasNoTimeCut c
  cut_lost lone shown shown_is listing loads =
      none_through c fold lone steps (listing_there listing)
      (λ none. loads (subst (LoadNothing nodes) (sym shown_is) (subst (λ (ns : List Node). LoadNothing ns steps) (sym nodes_are) none)))

  pub width_there : (width : ℕ) → steps ≡ order_of (as_load nodes fold) last → width ≡ width_of (as_load nodes fold) last steps
      → width ≡ width_behind c fold
  width_there width steps_are is =
      is ∙ ap (width_of (as_load nodes fold) last) steps_are
      ∙ ap (λ (ns : List Node). width_of (as_load ns fold) last (order_of (as_load ns fold) last)) nodes_are
      ∙ ap (λ (m : ℕ). width_of (links_behind c fold) m (order_of (links_behind c fold) m)) last_is
