use Rattle.std.proofs.Common.{ℕ, List, Err, subst}
use Rattle.oe_sources.specs.CatalogueDims.{dims_of}
use Rattle.oe_sources.specs.CatalogueRows.{rows_of}
use Rattle.oe_top.proofs.Checks.{kept_text, refuses_text}
use Rattle.oe_top.specs.Judged.{JudgesBytes}
use Rattle.oe_top.proofs.judge.judge_and_keep.Goals as goal

pub returns-in-Ok-judge_in-clause-text : goal.returns-in-Ok-judge_in-clause-text
returns-in-Ok-judge_in-clause-text g c =
    let rows = rows_of (λ z. (goal.SharedSource-dyn g z).CubeSource.seen z.1) c.args.catalogue.now in
    kept_text (dims_of rows) (g.I.Source.left c.args.input.now) c.in-Ok.bytes.items (g.I.Source.left c.read_input.new.input)
    c.in-Ok-judge_in.checked c.in-Ok.ensures.read (rw c.deref.ensures.value at c.in-Ok-judge_in.ensures.judged)

pub returns-in-Err-clause-refused : goal.returns-in-Err-clause-refused
returns-in-Err-clause-refused g c =
    let rows = rows_of (λ z. (goal.SharedSource-dyn g z).CubeSource.seen z.1) c.args.catalogue.now in
    refuses_text (dims_of rows) (g.I.Source.left c.args.input.now) (g.I.Source.faults c.args.input.now) c.in-Ok.bytes.items
    (g.I.Source.left c.read_input.new.input) (g.I.Source.faults c.read_input.new.input) c.in-Err.refusal c.in-Ok.ensures.read
    (subst (λ (bytes : List ℕ). JudgesBytes (dims_of rows) bytes (Err c.in-Err.refusal)) c.deref.ensures.value c.in-Err.ensures.judged)
