-- What stands at one node, by what a check finds out of it in its order.
use Rattle.std.proofs.Common.{◌≡◌, ◌⊎◌, inl, inr, ℕ, Bool, true, false, List, Option, Some, None, refl, sym, ap, ◌∙◌, subst, true≢false, if◌then◌else◌}
use Rattle.std.specs.Prelude.{IfSome}
use Rattle.oe_dims.specs.declared.dims.DimsRow.{DimsRow}
use Rattle.oe_graph.proofs.LeastLemmas.{not_before_itself, not_before-trans, before_not_after}
use Rattle.oe_graph.specs.Faults.{IsLeast, is_before}
use Rattle.oe_graph.specs.Form.{callback_name}
use Rattle.oe_graph.specs.Tree.{PlainGraph, PlainNode}
use Rattle.oe_graph.specs.declared.code.Code.{Code}
use Rattle.oe_graph.specs.declared.code.Code.TheVariants.{ProcessParameterInvalid, CellKindInvalid, CubeTooLarge}
use Rattle.oe_graph.specs.declared.fault.Fault.{Fault}
use Rattle.oe_expr.specs.Callback.{Callback, StandsInCallbackAt, IsFaultlessCallback}
use Rattle.oe_expr.specs.Rows.{first_row}
use Rattle.oe_requests.specs.Operations.{Outline}
use Rattle.oe_requests.specs.Requests.{CubeRequest, cube_request_at}
use Rattle.oe_meanings.specs.Rows.{cell_kind_invalid, cube_too_large}
use Rattle.oe_requests.specs.RunningSums.{AreSums, StandsInSums}
use Rattle.oe_meanings.specs.Stands.{early_rows, callback_on, sums_of, cubes_of, Passes, HasFaultlessCallback, StandsHere, asks_for_nothing, early, inside, in_sums, of_kind, of_size, HasNoFault}

module _ (rows : List DimsRow) (at : List ℕ → Outline) (n : PlainNode) where
  abbrev here : Code → Fault
  here code = record { code = code; node = n.id }

  -- the same fault
  abbrev IsHere : Code → Code → List ℕ → Type 0
  IsHere code other name = (other ≡ code) × (name ≡ n.id)

  not_before : (code : Code) (other : Fault) → IsHere code other.code other.node → is_before other (here code) ≡ false
  not_before code other e =
      let same : other ≡ here code = ap (λ (c : Code). record { code = c; node = other.node }) e.0 ∙ ap (λ (name : List ℕ). record { code = code; node = name }) e.1 in
      subst (λ (f : Fault). is_before f (here code) ≡ false) (sym same) (not_before_itself (here code))

  -- where it alone stands it is the least
  alone : (code : Code) → StandsHere rows at n code n.id → ((other : Code) (name : List ℕ) → StandsHere rows at n other name → IsHere code other name)
      → IsLeast (StandsHere rows at n) (here code)
  alone code s only = record { stands = s; least = λ other t. not_before code other (only other.code other.node t) }

  pub nothing_asked : cube_request_at n ≡ None → IsLeast (StandsHere rows at n) (here ProcessParameterInvalid)
  nothing_asked none = alone ProcessParameterInvalid (asks_for_nothing none) only
    where
      not_asked : (q : CubeRequest) → cube_request_at n ≡ Some q → ⊥
      not_asked q e = absurd cc

      only : (other : Code) (name : List ℕ) → StandsHere rows at n other name → IsHere ProcessParameterInvalid other name
      only other name (asks_for_nothing e) = (refl, refl)
      only other name (early {r = q} e f) = absurd (not_asked q e)
      only other name (inside {r = q} p f s) = absurd (not_asked q p.asks)
      only other name (in_sums {r = q} p f s) = absurd (not_asked q p.asks)
      only other name (of_kind {r = q} p f s) = absurd (not_asked q p.asks)
      only other name (of_size {r = q} p f s) = absurd (not_asked q p.asks)

  module _ (r : CubeRequest) (asks : cube_request_at n ≡ Some r) where
    -- the first of the rows that its callback waits for
    abbrev first : CubeRequest → Option Code
    first q = first_row (early_rows rows q (cubes_of rows at q))

    same_request : (q : CubeRequest) → cube_request_at n ≡ Some q → q ≡ r
    same_request q e = cc

    asked : cube_request_at n ≡ None → ⊥
    asked e = absurd cc

    same_first : (q : CubeRequest) (o : Option Code) → cube_request_at n ≡ Some q → first q ≡ o → first r ≡ o
    same_first q o e f = subst (λ (x : CubeRequest). first x ≡ o) (same_request q e) f

    pub found_early : (code : Code) → first r ≡ Some code → IsLeast (StandsHere rows at n) (here code)
    found_early code found = alone code (early asks found) only
      where
        passes_not : (q : CubeRequest) → Passes rows at n q → ⊥
        passes_not q p = let none : first r ≡ None = same_first q None p.asks p.none_holds in absurd cc

        same_code : (q : CubeRequest) (other : Code) → cube_request_at n ≡ Some q → first q ≡ Some other → other ≡ code
        same_code q other e f = let also : first r ≡ Some other = same_first q (Some other) e f in cc

        only : (other : Code) (name : List ℕ) → StandsHere rows at n other name → IsHere code other name
        only other name (asks_for_nothing e) = absurd (asked e)
        only other name (early {r = q} e f) = (same_code q other e f, refl)
        only other name (inside {r = q} p f s) = absurd (passes_not q p)
        only other name (in_sums {r = q} p f s) = absurd (passes_not q p)
        only other name (of_kind {r = q} p f s) = absurd (passes_not q p)
        only other name (of_size {r = q} p f s) = absurd (passes_not q p)

    module _ (none : first r ≡ None) where
      pub passes : Passes rows at n r
      passes = record { asks = asks; none_holds = none }

      not_early : (q : CubeRequest) (code : Code) → cube_request_at n ≡ Some q → first q ≡ Some code → ⊥
      not_early q code e f = let some : first r ≡ Some code = same_first q (Some code) e f in absurd cc

      kinds_of : (q : CubeRequest) (b : Bool) → cube_request_at n ≡ Some q → cell_kind_invalid q (cubes_of rows at q) ≡ b → cell_kind_invalid r (cubes_of rows at r) ≡ b
      kinds_of q b e f = subst (λ (x : CubeRequest). cell_kind_invalid x (cubes_of rows at x) ≡ b) (same_request q e) f

      size_of : (q : CubeRequest) → cube_request_at n ≡ Some q → cube_too_large q (cubes_of rows at q) ≡ true → cube_too_large r (cubes_of rows at r) ≡ true
      size_of q e f = subst (λ (x : CubeRequest). cube_too_large x (cubes_of rows at x) ≡ true) (same_request q e) f

      -- ---- where no fault stands in the callback

      module _ (faultless : HasFaultlessCallback rows at r) where
        not_inside : (q : CubeRequest) (argument : List ℕ) (c : Callback) (code : Code) (name : List ℕ) → cube_request_at n ≡ Some q
            → callback_on q (cubes_of rows at q) ≡ Some (argument, c) → StandsInCallbackAt c (callback_name n.id argument) code name → ⊥
        not_inside q argument c code name e on s =
            let mine : callback_on r (cubes_of rows at r) ≡ Some (argument, c) = subst (λ (x : CubeRequest). callback_on x (cubes_of rows at x) ≡ Some (argument, c)) (same_request q e) on in
            let right : IsFaultlessCallback c = subst (λ (o : Option (List ℕ × Callback)). IfSome o (λ c. IsFaultlessCallback c.1)) mine faultless.0 in
            right (callback_name n.id argument) code name s

        not_in_sums : (q : CubeRequest) (g : PlainGraph) (code : Code) (name : List ℕ) → cube_request_at n ≡ Some q
            → sums_of q ≡ Some g → StandsInSums g n.id code name → ⊥
        not_in_sums q g code name e on s =
            let mine : sums_of r ≡ Some g = subst (λ (x : CubeRequest). sums_of x ≡ Some g) (same_request q e) on in
            let right : AreSums g = subst (λ (o : Option PlainGraph). IfSome o AreSums) mine faultless.1 in
            right n.id code name s

        faultless_of : (q : CubeRequest) → cube_request_at n ≡ Some q → HasFaultlessCallback rows at q
        faultless_of q e = subst (λ (x : CubeRequest). HasFaultlessCallback rows at x) (sym (same_request q e)) faultless

        pub wrong_kinds : cell_kind_invalid r (cubes_of rows at r) ≡ true → IsLeast (StandsHere rows at n) (here CellKindInvalid)
        wrong_kinds wrong = alone CellKindInvalid (of_kind passes faultless wrong) only
          where
            only : (other : Code) (name : List ℕ) → StandsHere rows at n other name → IsHere CellKindInvalid other name
            only other name (asks_for_nothing e) = absurd (asked e)
            only other name (early {r = q} e f) = absurd (not_early q other e f)
            only other name (inside {r = q} {argument = argument} {c = c} p f s) = absurd (not_inside q argument c other name p.asks f s)
            only other name (in_sums {r = q} {g = g} p f s) = absurd (not_in_sums q g other name p.asks f s)
            only other name (of_kind {r = q} p f s) = (refl, refl)
            only other name (of_size {r = q} p f s) =
                absurd (true≢false (sym wrong ∙ kinds_of q false p.asks (f (faultless_of q p.asks))))

        pub wrong_size : cell_kind_invalid r (cubes_of rows at r) ≡ false → cube_too_large r (cubes_of rows at r) ≡ true → IsLeast (StandsHere rows at n) (here CubeTooLarge)
        wrong_size right large = alone CubeTooLarge (of_size passes (λ f. right) large) only
          where
            only : (other : Code) (name : List ℕ) → StandsHere rows at n other name → IsHere CubeTooLarge other name
            only other name (asks_for_nothing e) = absurd (asked e)
            only other name (early {r = q} e f) = absurd (not_early q other e f)
            only other name (inside {r = q} {argument = argument} {c = c} p f s) = absurd (not_inside q argument c other name p.asks f s)
            only other name (in_sums {r = q} {g = g} p f s) = absurd (not_in_sums q g other name p.asks f s)
            only other name (of_kind {r = q} p f s) = absurd (true≢false (sym (kinds_of q true p.asks s) ∙ right))
            only other name (of_size {r = q} p f s) = (refl, refl)

        pub no_fault : cell_kind_invalid r (cubes_of rows at r) ≡ false → cube_too_large r (cubes_of rows at r) ≡ false → HasNoFault rows at n
        no_fault right small other name (asks_for_nothing e) = absurd (asked e)
        no_fault right small other name (early {r = q} e f) = absurd (not_early q other e f)
        no_fault right small other name (inside {r = q} {argument = argument} {c = c} p f s) = absurd (not_inside q argument c other name p.asks f s)
        no_fault right small other name (in_sums {r = q} {g = g} p f s) = absurd (not_in_sums q g other name p.asks f s)
        no_fault right small other name (of_kind {r = q} p f s) = absurd (true≢false (sym (kinds_of q true p.asks s) ∙ right))
        no_fault right small other name (of_size {r = q} p f s) = absurd (true≢false (sym (size_of q p.asks s) ∙ small))

      -- ---- where one stands in the callback

      -- a fault stands in the callback, which is one of cells or one of running sums
      abbrev pub StandsInCells : Code → List ℕ → Type 0
      StandsInCells code name =
          (argument : List ℕ) × (c : Callback) × (callback_on r (cubes_of rows at r) ≡ Some (argument, c)) × StandsInCallbackAt c (callback_name n.id argument) code name

      abbrev pub StandsInside : Code → List ℕ → Type 0
      StandsInside code name = StandsInCells code name ⊎ ((g : PlainGraph) × (sums_of r ≡ Some g) × StandsInSums g n.id code name)

      is_inside : (q : CubeRequest) (argument : List ℕ) (c : Callback) (code : Code) (name : List ℕ) → cube_request_at n ≡ Some q
          → callback_on q (cubes_of rows at q) ≡ Some (argument, c) → StandsInCallbackAt c (callback_name n.id argument) code name → StandsInside code name
      is_inside q argument c code name e on s =
          inl (argument, c, subst (λ (x : CubeRequest). callback_on x (cubes_of rows at x) ≡ Some (argument, c)) (same_request q e) on, s)

      is_in_sums : (q : CubeRequest) (g : PlainGraph) (code : Code) (name : List ℕ) → cube_request_at n ≡ Some q
          → sums_of q ≡ Some g → StandsInSums g n.id code name → StandsInside code name
      is_in_sums q g code name e on s = inr (g, subst (λ (x : CubeRequest). sums_of x ≡ Some g) (same_request q e) on, s)

      stands_inside : (code : Code) (name : List ℕ) → StandsInside code name → StandsHere rows at n code name
      stands_inside code name (inl s) = inside passes s.2 s.3
      stands_inside code name (inr s) = in_sums passes s.1 s.2

      -- ---- where the size comes before all of these

      module _ (right : cell_kind_invalid r (cubes_of rows at r) ≡ false) where
        inside_or_here : (other : Code) (name : List ℕ) → StandsHere rows at n other name → StandsInside other name ⊎ IsHere CubeTooLarge other name
        inside_or_here other name (asks_for_nothing e) = absurd (asked e)
        inside_or_here other name (early {r = q} e f) = absurd (not_early q other e f)
        inside_or_here other name (inside {r = q} {argument = argument} {c = c} p f s) = inl (is_inside q argument c other name p.asks f s)
        inside_or_here other name (in_sums {r = q} {g = g} p f s) = inl (is_in_sums q g other name p.asks f s)
        inside_or_here other name (of_kind {r = q} p f s) = absurd (true≢false (sym (kinds_of q true p.asks s) ∙ right))
        inside_or_here other name (of_size {r = q} p f s) = inr (refl, refl)

        pub size_first : cube_too_large r (cubes_of rows at r) ≡ true
            → ((other : Fault) → StandsInside other.code other.node → is_before other (here CubeTooLarge) ≡ false)
            → IsLeast (StandsHere rows at n) (here CubeTooLarge)
        size_first large later = record { stands = of_size passes (λ f. right) large; least = least }
          where
            least : (other : Fault) → StandsHere rows at n other.code other.node → is_before other (here CubeTooLarge) ≡ false
            least other s = elim (inside_or_here other.code other.node s) [
              | inl within ↦ later other within
              | inr size ↦ not_before CubeTooLarge other size
            ]

      -- ---- where one is known to be the least of these

      module _ (fault : Fault) (is : IsLeast StandsInside fault) where
        not_faultless : (q : CubeRequest) → cube_request_at n ≡ Some q → HasFaultlessCallback rows at q → ⊥
        not_faultless q e faultless = by is.stands
          where
            mine : HasFaultlessCallback rows at r
            mine = subst (λ (x : CubeRequest). HasFaultlessCallback rows at x) (same_request q e) faultless

            by : StandsInside fault.code fault.node → ⊥
            by (inl s) =
                let right : IsFaultlessCallback s.1 = subst (λ (o : Option (List ℕ × Callback)). IfSome o (λ c. IsFaultlessCallback c.1)) s.2 mine.0 in
                right (callback_name n.id s.0) fault.code fault.node s.3
            by (inr s) =
                let right : AreSums s.0 = subst (λ (o : Option PlainGraph). IfSome o AreSums) s.1 mine.1 in
                right n.id fault.code fault.node s.2

        -- each fault stands in the callback, or is the size of the cube
        which : (other : Code) (name : List ℕ) → StandsHere rows at n other name
            → StandsInside other name ⊎ (IsHere CubeTooLarge other name × (cube_too_large r (cubes_of rows at r) ≡ true))
        which other name (asks_for_nothing e) = absurd (asked e)
        which other name (early {r = q} e f) = absurd (not_early q other e f)
        which other name (inside {r = q} {argument = argument} {c = c} p f s) = inl (is_inside q argument c other name p.asks f s)
        which other name (in_sums {r = q} {g = g} p f s) = inl (is_in_sums q g other name p.asks f s)
        which other name (of_kind {r = q} p f s) = absurd (not_faultless q p.asks f)
        which other name (of_size {r = q} p f s) = inr ((refl, refl), size_of q p.asks s)

        pub inside_alone : cube_too_large r (cubes_of rows at r) ≡ false → IsLeast (StandsHere rows at n) fault
        inside_alone small = record { stands = stands_inside fault.code fault.node is.stands; least = least }
          where
            least : (other : Fault) → StandsHere rows at n other.code other.node → is_before other fault ≡ false
            least other s = elim (which other.code other.node s) [
              | inl within ↦ is.least other within
              | inr size ↦ absurd (true≢false (sym size.1 ∙ small))
            ]

        pub inside_or_size : (b : Bool) → is_before fault (here CubeTooLarge) ≡ b → cube_too_large r (cubes_of rows at r) ≡ true
            → IsLeast (StandsHere rows at n) (if b then fault else here CubeTooLarge)
        inside_or_size true before large = record { stands = stands_inside fault.code fault.node is.stands; least = least }
          where
            least : (other : Fault) → StandsHere rows at n other.code other.node → is_before other fault ≡ false
            least other s = elim (which other.code other.node s) [
              | inl within ↦ is.least other within
              | inr size ↦
                  let same : other ≡ here CubeTooLarge = ap (λ (c : Code). record { code = c; node = other.node }) size.0.0 ∙ ap (λ (name : List ℕ). record { code = CubeTooLarge; node = name }) size.0.1 in
                  subst (λ (f : Fault). is_before f fault ≡ false) (sym same) (before_not_after fault (here CubeTooLarge) before)
            ]
        inside_or_size false after large = record { stands = of_size passes (λ f. absurd (not_faultless r asks f)) large; least = least }
          where
            least : (other : Fault) → StandsHere rows at n other.code other.node → is_before other (here CubeTooLarge) ≡ false
            least other s = elim (which other.code other.node s) [
              | inl within ↦ not_before-trans (here CubeTooLarge) fault other after (is.least other within)
              | inr size ↦ not_before CubeTooLarge other size.0
            ]
