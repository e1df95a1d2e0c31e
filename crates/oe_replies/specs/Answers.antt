-- Replies: a status, fields and a body.
use Rattle.std.specs.Prelude.{ℕ, List, [], Some, None, false, if◌then◌else◌}
use Rattle.serde_json.specs.Data.{object, no_members}
use Rattle.serde_json.specs.Written.{compact_text}
use Rattle.oe_http.specs.Laws.{json_reply}
use Rattle.oe_http.specs.Replies.{PlainResponse}
use Rattle.oe_replies.specs.Bodies.{error_data}
use Rattle.oe_replies.specs.Codes.{has_detail, name_of, status_of}
use Rattle.oe_replies.specs.Jobs.{job_url}
use Rattle.oe_replies.specs.declared.code.ReplyCode.{ReplyCode}

-- nothing but a status: 202 for what was queued, and 204 for what was done
abbrev pub empty_reply : ℕ → PlainResponse
empty_reply status = record { status = status; location = None; identifier = None; json = false; body = [] }

-- a new job, by where it is found and its id
abbrev pub created_reply : List ℕ → List ℕ → PlainResponse
created_reply base id =
    record { status = 201; location = Some (job_url base id); identifier = Some id; json = false; body = [] }

-- a stored process was put
abbrev pub stored_reply : PlainResponse
stored_reply = json_reply 200 (compact_text (object no_members))

-- a refused request, with the detail where the message of its code has one
abbrev pub refused_reply : ReplyCode → List ℕ → PlainResponse
refused_reply code detail =
    json_reply (status_of code) (compact_text (error_data (name_of code) (if has_detail code then detail else [])))

-- what is answered for the results of a job that failed with this code
abbrev pub failed_reply : List ℕ → PlainResponse
failed_reply code = json_reply 424 (compact_text (error_data code []))
