use Rattle.std.proofs.Common.{arith}
use Rattle.std.proofs.lemmas.Grind.{common_steps, elements}
use Rattle.oe_render.proofs.text.send_label.Goals as goal

pub band_at-requires : goal.band_at-requires
band_at-requires c = grind (arith, common_steps) steps 2000000

pub label_at-requires : goal.label_at-requires
label_at-requires c = grind (arith, common_steps) steps 2000000

pub returns-in-Bands : goal.returns-in-Bands
returns-in-Bands c = grind (arith, elements) steps 2000000

pub returns-in-Time : goal.returns-in-Time
returns-in-Time c = grind (arith, common_steps) steps 2000000

pub returns-in-Y : goal.returns-in-Y
returns-in-Y c = grind (arith, elements) steps 2000000

pub send_instant-requires-clause-there : goal.send_instant-requires-clause-there
send_instant-requires-clause-there c = grind (arith, common_steps) steps 2000000
