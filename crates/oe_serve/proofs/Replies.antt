-- Replies that are written in two parts, and those without a detail.
use Rattle.std.proofs.Common.{◌≡◌, ◌++◌, ℕ, codes, List, [], Option, Result, Ok, Err, OnErr, OnOk, refl, ap, subst, sym}
use Rattle.oe_http.specs.Laws.{json_reply}
use Rattle.oe_http.specs.Replies.{reply_bytes}
use Rattle.oe_outside.specs.Visible.{Appends, AppendsPrefix}
use Rattle.oe_outside.proofs.Runs.{Appends-more, first_stopped, second_stopped}
use Rattle.oe_replies.specs.Answers.{refused_reply}
use Rattle.oe_replies.specs.Laws.{ErrorsArePlain, plain_error}
use Rattle.oe_replies.specs.declared.code.ReplyCode.TheVariants.{OutOfMemory, StoreFault}

module _ {T E : Type 0} (before middle after : Option (List ℕ)) (head body bytes : List ℕ) (whole : head ++ body ≡ bytes)
    (headed : Appends before head middle) where
  pub body_appended : (result : Result T E) → OnOk result (Appends middle body after) → OnOk result (Appends before bytes after)
  body_appended (Ok x) is =
      subst (λ (b : List ℕ). Appends before b after) whole (Appends-more before middle after head body headed is)
  body_appended (Err e) is = tt

  pub body_prefix : (result : Result T E) → OnErr result (AppendsPrefix middle body after)
      → OnErr result (AppendsPrefix before bytes after)
  body_prefix (Ok x) is = tt
  body_prefix (Err e) is =
      subst (λ (b : List ℕ). AppendsPrefix before b after) whole (second_stopped before middle after head body headed is)

pub head_prefix : (before after : Option (List ℕ)) (head body bytes : List ℕ) → head ++ body ≡ bytes
    → AppendsPrefix before head after → AppendsPrefix before bytes after
head_prefix before after head body bytes whole is =
    subst (λ (b : List ℕ). AppendsPrefix before b after) whole (first_stopped before after head body is)

-- ---- without a detail

pub memory_reply : ErrorsArePlain
    → reply_bytes (json_reply 503 (plain_error (codes "OutOfMemory"))) ≡ reply_bytes (refused_reply OutOfMemory [])
memory_reply plain = ap (λ (b : List ℕ). reply_bytes (json_reply 503 b)) (sym (plain OutOfMemory refl))

pub store_reply : ErrorsArePlain
    → reply_bytes (json_reply 500 (plain_error (codes "StoreFault"))) ≡ reply_bytes (refused_reply StoreFault [])
store_reply plain = ap (λ (b : List ℕ). reply_bytes (json_reply 500 b)) (sym (plain StoreFault refl))
