use Rattle.std.proofs.Common.{◌≡◌, ◌==◌, drop}
use Rattle.std.specs.List.{list_any}
use Rattle.oe_keeper.proofs.script.Script.is_listed.Given as goal

abbrev pub invariant-loop-number : goal.invariant-loop-number
invariant-loop-number l =
    list_any (λ number. number == l.self-inside.calls) l.self-inside.failing.items
    ≡ list_any (λ number. number == l.self-inside.calls) (drop l.number-index l.self-inside.failing.items)
