-- The log entries of a job that a request asks for (openEO API, logs).
use Rattle.std.specs.Prelude.{ℕ, Bool, ◌&&◌, List, map, filter, nat_lt, codes, decimal}
use Rattle.std.specs.List.{enumerate_from}
use Rattle.std.specs.Option.{option_map}
use Rattle.serde_json.specs.Data.{Data, string, object, no_members, member}
use Rattle.oe_jobs.specs.Machine.{keeps}
use Rattle.oe_jobs.specs.Texts.{level_text}
use Rattle.oe_jobs.specs.declared.job.LogEntry.{LogEntry}
use Rattle.oe_jobs.specs.declared.level.Level.{Level}
use Rattle.oe_replies.specs.Json.{listing_data, member_where}

-- an entry under its number among all that are stored
abbrev pub log_data : ℕ × LogEntry → Data
log_data numbered = object (
    member_where (codes "code") (option_map string numbered.1.code) (
    member (codes "id") (string (decimal numbered.0)) (
    member (codes "level") (string (level_text numbered.1.level)) (
    member (codes "message") (string numbered.1.message) no_members))))

-- the entry is at least as severe as the level that is asked for, and stands behind the number that is
abbrev pub is_asked : Level → ℕ → ℕ × LogEntry → Bool
is_asked least offset numbered = keeps least numbered.1.level && nat_lt offset numbered.0

-- the entries that are asked for, in their order; the first that is stored has the number 1
abbrev pub logs_data : List LogEntry → Level → ℕ → Data
logs_data logs least offset =
    listing_data (codes "logs") (map log_data (filter (is_asked least offset) (enumerate_from 1 logs)))
