use Rattle.serde_json.specs.View.{view}
use Rattle.oe_render.proofs.Values.{no_cube}
use Rattle.oe_render.proofs.reading.read_text.Goals as goal

pub returns-in-Ok-None-read_value-clause-invalid : goal.returns-in-Ok-None-read_value-clause-invalid
returns-in-Ok-None-read_value-clause-invalid c = λ refused.
    no_cube c.args.bytes.now (view c.in-Ok-Some.value) (rw c.in-Ok-Some.field-0-is at c.in-Ok-Some.ensures) (rw c.in-Ok-None-read_value.field-0-is at c.in-Ok-None-read_value.ensures)
