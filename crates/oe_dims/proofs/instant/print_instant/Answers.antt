use Rattle.std.proofs.Common.{◌≡◌, ap, sym, ◌∙◌, FitsSigned, w64}
use Rattle.std.proofs.lemmas.Int.{to_z-of_z}
use Rattle.oe_dims.specs.Instant.{instant_text, instant_read}
use Rattle.oe_dims.proofs.InstantLemmas.{instant_text-after, instant_read-instant_text}
use Rattle.oe_dims.proofs.instant.print_instant.Goals as goal

text_is : (c : goal.After-text_after) → c.text_after.result ≡ instant_text c.args.seconds
text_is c =
    let fits : FitsSigned w64 c.args.seconds = c.ranges.seconds in
    let after = simp to_z-of_z at c.seconds_after.ensures.after in
    c.text_after.ensures ∙ sym (instant_text-after c.args.seconds c.seconds_after.result after)

pub returns-clause-text : goal.returns-clause-text
returns-clause-text c = text_is c

pub returns-clause-read : goal.returns-clause-read
returns-clause-read c =
    ap instant_read (text_is c) ∙ instant_read-instant_text c.args.seconds c.requires.first c.requires.last

pub returns-clause-again : goal.returns-clause-again
returns-clause-again c = λ s h. instant_read-instant_text s h.first h.last
