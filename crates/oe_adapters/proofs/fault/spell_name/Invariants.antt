use Rattle.std.proofs.Common.{◌≡◌, ◌++◌, take}
use Rattle.oe_adapters.specs.Setup.{spelled_name}
use Rattle.oe_adapters.proofs.fault.spell_name.Given as goal

abbrev pub invariant-loop-byte : goal.invariant-loop-byte
invariant-loop-byte l =
    l.line.items ≡ l.initial.line.items ++ spelled_name (take l.byte-index l.name)
