use Rattle.std.proofs.Common.{◌≡◌, ◌+◌, ◌++◌, map, drop}
use Rattle.std.specs.Prelude.{filter}
use Rattle.std.specs.List.{enumerate_from}
use Rattle.serde_json.specs.View.{view}
use Rattle.oe_replies.specs.Logs.{is_asked, log_data}
use Rattle.oe_replies.proofs.logs.log_values.Given as goal

-- with those of what is left they are all
abbrev pub invariant-loop-log : goal.invariant-loop-log
invariant-loop-log l = record {
  number : l.number ≡ l.log-index;
  all : map view l.values.items
      ++ map log_data (filter (is_asked l.least l.offset) (enumerate_from (l.log-index + 1) (drop l.log-index l.logs)))
      ≡ map log_data (filter (is_asked l.least l.offset) (enumerate_from 1 l.logs));
}
