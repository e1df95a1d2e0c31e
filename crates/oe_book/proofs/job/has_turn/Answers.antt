use Rattle.std.proofs.Common.{◌∙◌, sym, true≢false}
use Rattle.oe_book.proofs.JobLemmas.{always}
use Rattle.oe_book.proofs.job.has_turn.Goals as goal

pub returns-then-not-is_busy : goal.returns-then-not-is_busy
returns-then-not-is_busy c = always (λ busy. absurd (true≢false (sym busy ∙ (sym c.is_busy.ensures ∙ c.if-not-is_busy.true))))
