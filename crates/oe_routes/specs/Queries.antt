-- The query of a request for logs, and what is refused of any query.
use Rattle.std.specs.Prelude.{ℕ, if◌then◌else◌, bytes_eq, List, codes, Option, Some, None, Result, Ok, Err}
use Rattle.oe_jobs.specs.Texts.{level_text}
use Rattle.oe_jobs.specs.declared.level.Level.{Level}
use Rattle.oe_jobs.specs.declared.level.Level.TheVariants as levels
use Rattle.oe_pages.specs.Queries.{most_offset, number_or_zero, one_value, parts_of, values_of}
use Rattle.oe_pages.specs.declared.query.QueryFail.{QueryFail}
use Rattle.oe_replies.specs.declared.code.ReplyCode.{ReplyCode}
use Rattle.oe_replies.specs.declared.code.ReplyCode.TheVariants.{QueryInvalid}
use Rattle.oe_routes.specs.Steps.{◌>>=◌}

-- a step on a query, refused with its code
abbrev pub coded : {A : Type 0} → Result A QueryFail → Result A ReplyCode
coded (Ok x) = Ok x
coded (Err fail) = Err QueryInvalid

-- one of the four levels; all entries are asked for where none is said
abbrev pub level_in : Option (List ℕ) → Result Level ReplyCode
level_in None = Ok levels.Debug
level_in (Some text) =
    if bytes_eq text (level_text levels.Error) then Ok levels.Error else (
    if bytes_eq text (level_text levels.Warning) then Ok levels.Warning else (
    if bytes_eq text (level_text levels.Info) then Ok levels.Info else (
    if bytes_eq text (level_text levels.Debug) then Ok levels.Debug else Err QueryInvalid)))

-- the one value of a name in a query, or that it is not there
abbrev pub value_of : List ℕ → List ℕ → Result (Option (List ℕ)) ReplyCode
value_of name query = coded (one_value (values_of name (parts_of query)))

-- the level and the offset that a query asks for: an offset is a number from 1 to 2^64 − 1, and 0 where none is said
abbrev pub logs_asked : List ℕ → Result (Level × ℕ) ReplyCode
logs_asked query =
    value_of (codes "level") query >>= λ text.
    level_in text >>= λ level.
    value_of (codes "offset") query >>= λ digits.
    coded (number_or_zero 1 most_offset digits) >>= λ offset.
    Ok (level, offset)
