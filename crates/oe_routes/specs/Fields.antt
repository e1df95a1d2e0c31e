-- The members of a body beside its process: title, description and log level.
use Rattle.std.specs.Prelude.{ℕ, List, Option, Some, None, bytes_eq, codes, nat_le, length, Ok, Err, Result, if◌then◌else◌}
use Rattle.serde_json.specs.Data.{Data, null, boolean, number, string, array, object}
use Rattle.serde_json.specs.Find.{get}
use Rattle.oe_jobs.specs.Texts.{level_text}
use Rattle.oe_jobs.specs.Valid.{most_words}
use Rattle.oe_jobs.specs.declared.level.Level.{Level}
use Rattle.oe_jobs.specs.declared.level.Level.TheVariants as levels
use Rattle.oe_replies.specs.declared.code.ReplyCode.{ReplyCode}
use Rattle.oe_replies.specs.declared.code.ReplyCode.TheVariants.{JobFieldInvalid}
use Rattle.oe_routes.specs.Steps.{◌>>=◌}
use Rattle.oe_routes.specs.declared.fields.Fields.{Fields}

-- a text or null, where the member is there
abbrev pub words_in : Option Data → Result (Option (Option (List ℕ))) ReplyCode
words_in None = Ok None
words_in (Some null) = Ok (Some None)
words_in (Some (string text)) = if nat_le (length text) most_words then Ok (Some (Some text)) else Err JobFieldInvalid
words_in (Some (boolean b)) = Err JobFieldInvalid
words_in (Some (number n)) = Err JobFieldInvalid
words_in (Some (array _)) = Err JobFieldInvalid
words_in (Some (object _)) = Err JobFieldInvalid

abbrev pub level_of : List ℕ → Result (Option Level) ReplyCode
level_of text =
    if bytes_eq text (level_text levels.Error) then Ok (Some levels.Error) else (
    if bytes_eq text (level_text levels.Warning) then Ok (Some levels.Warning) else (
    if bytes_eq text (level_text levels.Info) then Ok (Some levels.Info) else (
    if bytes_eq text (level_text levels.Debug) then Ok (Some levels.Debug) else Err JobFieldInvalid)))

-- a level, where the member is there; null is info
abbrev pub level_in : Option Data → Result (Option Level) ReplyCode
level_in None = Ok None
level_in (Some null) = Ok (Some levels.Info)
level_in (Some (string text)) = level_of text
level_in (Some (boolean b)) = Err JobFieldInvalid
level_in (Some (number n)) = Err JobFieldInvalid
level_in (Some (array _)) = Err JobFieldInvalid
level_in (Some (object _)) = Err JobFieldInvalid

-- title, description and log level of a body
abbrev pub fields_in : Data → Result Fields ReplyCode
fields_in body =
    words_in (get (codes "title") body) >>= λ title.
    words_in (get (codes "description") body) >>= λ description.
    level_in (get (codes "log_level") body) >>= λ level.
    Ok (record { title = title; description = description; level = level })
