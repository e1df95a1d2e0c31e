-- Worked values: the order and the width of small graphs, found by hand.
use Rattle.std.specs.Prelude.{◌≡◌, ℕ, true, false, List, [], ◌∷◌, refl}
use Rattle.oe_order.specs.Graph.{Node, reaches_within, in_run, run_of}
use Rattle.oe_order.specs.Order.{next_of, extend_order, loads_of, order_of}
use Rattle.oe_order.specs.Turns.{order_by_turns}
use Rattle.oe_order.specs.Live.{taken_from, is_live, live_count, width_of}

-- a node that loads, and a node that takes these
abbrev pub loading : Node
loading = record { load = true; arguments = [] }

abbrev pub taking : List ℕ → Node
taking arguments = record { load = false; arguments = arguments }

-- a load alone
abbrev pub alone : List Node
alone = loading ∷ []

pub order_of-alone : order_of alone 0 ≡ 0 ∷ []
unfolding reaches_within in_run run_of next_of extend_order loads_of order_of
order_of-alone = refl

pub width_of-alone : width_of alone 0 (0 ∷ []) ≡ 1
unfolding taken_from is_live live_count width_of
width_of-alone = refl

-- a load, a step on it and a step on that
abbrev pub chain : List Node
chain = loading ∷ taking (0 ∷ []) ∷ taking (1 ∷ []) ∷ []

pub order_of-chain : order_of chain 2 ≡ 0 ∷ 1 ∷ 2 ∷ []
unfolding reaches_within in_run run_of next_of extend_order loads_of order_of
order_of-chain = refl

pub width_of-chain : width_of chain 2 (0 ∷ 1 ∷ 2 ∷ []) ≡ 2
unfolding taken_from is_live live_count width_of
width_of-chain = refl

-- the middle of the chain as the result: what lies behind it does not belong to the run
pub order_of-chain_middle : order_of chain 1 ≡ 0 ∷ 1 ∷ []
unfolding reaches_within in_run run_of next_of extend_order loads_of order_of
order_of-chain_middle = refl

-- two nodes read one load, and one node reads both
abbrev pub diamond : List Node
diamond = loading ∷ taking (0 ∷ []) ∷ taking (0 ∷ []) ∷ taking (1 ∷ 2 ∷ []) ∷ []

pub order_of-diamond : order_of diamond 3 ≡ 0 ∷ 1 ∷ 2 ∷ 3 ∷ []
unfolding reaches_within in_run run_of next_of extend_order loads_of order_of
order_of-diamond = refl

pub width_of-diamond : width_of diamond 3 (0 ∷ 1 ∷ 2 ∷ 3 ∷ []) ≡ 3
unfolding taken_from is_live live_count width_of
width_of-diamond = refl

-- b reads a, c reads b, d reads a and c: at the steps of c and d three nodes are live
abbrev pub late_reader : List Node
late_reader = loading ∷ taking (0 ∷ []) ∷ taking (1 ∷ []) ∷ taking (0 ∷ 2 ∷ []) ∷ []

pub live_count-late_reader : live_count late_reader 3 (0 ∷ 1 ∷ 2 ∷ 3 ∷ []) 1 ≡ 2
unfolding taken_from is_live live_count
live_count-late_reader = refl

pub width_of-late_reader : width_of late_reader 3 (0 ∷ 1 ∷ 2 ∷ 3 ∷ []) ≡ 3
unfolding taken_from is_live live_count width_of
width_of-late_reader = refl

-- the loads stand first though they are the last by index, and of the ready nodes the least comes next
abbrev pub late_loads : List Node
late_loads = taking (2 ∷ 3 ∷ []) ∷ taking (0 ∷ []) ∷ loading ∷ loading ∷ []

pub order_of-late_loads : order_of late_loads 1 ≡ 2 ∷ 3 ∷ 0 ∷ 1 ∷ []
unfolding reaches_within in_run run_of next_of extend_order loads_of order_of
order_of-late_loads = refl

-- a node that the result does not reach is left out
abbrev pub unreached : List Node
unreached = loading ∷ loading ∷ taking (0 ∷ []) ∷ []

pub order_of-unreached : order_of unreached 2 ≡ 0 ∷ 2 ∷ []
unfolding reaches_within in_run run_of next_of extend_order loads_of order_of
order_of-unreached = refl

-- an argument that is given twice is one node
abbrev pub squared : List Node
squared = taking (1 ∷ 1 ∷ []) ∷ loading ∷ []

pub order_of-squared : order_of squared 0 ≡ 1 ∷ 0 ∷ []
unfolding reaches_within in_run run_of next_of extend_order loads_of order_of
order_of-squared = refl

pub width_of-squared : width_of squared 0 (1 ∷ 0 ∷ []) ≡ 2
unfolding taken_from is_live live_count width_of
width_of-squared = refl

-- three nodes read one load, and one node reads all three: the three come in the order of their turns
abbrev pub fan : List Node
fan = loading ∷ taking (0 ∷ []) ∷ taking (0 ∷ []) ∷ taking (0 ∷ []) ∷ taking (1 ∷ 2 ∷ 3 ∷ []) ∷ []

pub order_by_turns-fan : order_by_turns fan (0 ∷ 2 ∷ 3 ∷ 1 ∷ 4 ∷ []) 4 ≡ 0 ∷ 2 ∷ 3 ∷ 1 ∷ 4 ∷ []
unfolding reaches_within in_run run_of next_of extend_order loads_of order_of order_by_turns
order_by_turns-fan = refl

-- a node of least turn waits for what it takes all the same
pub order_by_turns-chain : order_by_turns chain (2 ∷ 1 ∷ 0 ∷ []) 2 ≡ 0 ∷ 1 ∷ 2 ∷ []
unfolding reaches_within in_run run_of next_of extend_order loads_of order_of order_by_turns
order_by_turns-chain = refl
