-- What holds of every error body without a detail: of which bytes it consists, so that it can be sent without memory.
use Rattle.std.specs.Prelude.{◌≡◌, ℕ, false, List, [], ◌++◌, codes}
use Rattle.serde_json.specs.Written.{compact_text}
use Rattle.oe_replies.specs.Bodies.{error_data}
use Rattle.oe_replies.specs.Codes.{has_detail, name_of}
use Rattle.oe_replies.specs.declared.code.ReplyCode.{ReplyCode}

-- the error body of a code whose message is the code
abbrev pub plain_error : List ℕ → List ℕ
plain_error code = codes "{\"code\":\"" ++ code ++ codes "\",\"message\":\"" ++ code ++ codes "\"}"

abbrev pub ErrorsArePlain : Type 0
ErrorsArePlain =
    (code : ReplyCode) → has_detail code ≡ false
    → compact_text (error_data (name_of code) []) ≡ plain_error (name_of code)
