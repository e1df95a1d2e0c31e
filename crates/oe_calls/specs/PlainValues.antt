-- What the code keeps of the values of parameters: those of the call, and in a callback which of them are hidden; and
-- their sizes.
use Rattle.std.specs.Prelude.{◌≡◌, ℕ, ◌+◌, List, Option, map, if◌then◌else◌}
use denote.Bor.{Bor}
use Rattle.oe_graph.specs.Plain.{plain_named}
use Rattle.oe_graph.specs.Tree.{Named}
use Rattle.oe_calls.specs.Substituted.{inside}
use Rattle.oe_calls.specs.Rounds.{under_id}
use Rattle.oe_calls.specs.Sizes.{HasSizes}
use Rattle.oe_calls.specs.declared.values.Values.{Values}
use Rattle.oe_calls.specs.declared.sizes.ParameterSize.{ParameterSize}
use Rattle.oe_calls.specs.declared.sizes.Sizes.{Sizes}

-- the names behind references
abbrev pub names_behind : List (Bor (List ℕ)) → List (List ℕ)
names_behind names = map (λ (name : Bor (List ℕ)). name.now) names

-- the values that are seen in a callback
abbrev pub seen_inside : Values → Named
seen_inside values = inside (names_behind values.hidden.items) (plain_named values.given.now.items)

-- the values that are seen
abbrev pub seen : Values → Named
seen values = if values.in_callback then seen_inside values else plain_named values.given.now.items

-- what becomes of the ids of nodes where these values are put in
abbrev pub rename_by : Values → List ℕ → List ℕ
rename_by values id = if values.in_callback then id else under_id values.call.now id

-- the sizes of the values of parameters
abbrev pub plain_sizes : List ParameterSize → List (List ℕ × Option ℕ)
plain_sizes sizes = map (λ (s : ParameterSize). (s.name, s.size)) sizes

-- This is left of a budget that so much was taken from as what stands for values holds, whatever the values are whose
-- sizes these are, where these names are hidden.
abbrev pub IsLeftOf : ℕ → Sizes → List (Bor (List ℕ)) → (Named → ℕ) → ℕ → Type 0
IsLeftOf budget sizes hidden size left =
    (values : Named) → HasSizes sizes.measure (plain_sizes sizes.each.items) (names_behind hidden) values
    → budget ≡ left + size values
