-- What a user is told of a refusal.
use Rattle.std.specs.Prelude.{ℕ, List, [], ◌∷◌, ◌++◌, codes}
use Rattle.oe_graph.specs.Codes.{name_of}
use Rattle.oe_graph.specs.declared.fault.Fault.{Fault}

-- a detail behind a blank, and nothing where there is none
abbrev pub behind_blank : List ℕ → List ℕ
behind_blank [] = []
behind_blank (byte ∷ detail) = codes " " ++ byte ∷ detail

-- a code with its detail
abbrev pub with_detail : List ℕ → List ℕ → List ℕ
with_detail code detail = code ++ behind_blank detail

-- the code of a fault and its node, where it stands at one and not in the graph as a whole
abbrev pub fault_text : Fault → List ℕ
fault_text fault = with_detail (name_of fault.code) fault.node
