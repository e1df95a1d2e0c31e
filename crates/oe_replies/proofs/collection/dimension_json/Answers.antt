use Rattle.std.proofs.Common.{arith}
use Rattle.std.proofs.lemmas.Grind.{common_steps}
use Rattle.oe_replies.proofs.collection.dimension_json.Goals as goal

pub returns-in_err-bands_json-in-Bands : goal.returns-in_err-bands_json-in-Bands
returns-in_err-bands_json-in-Bands c = grind (arith, common_steps) steps 2000000

pub returns-in_err-time_json-in-Time : goal.returns-in_err-time_json-in-Time
returns-in_err-time_json-in-Time c = grind (arith, common_steps) steps 2000000

pub returns-in_err-x_json-in-X : goal.returns-in_err-x_json-in-X
returns-in_err-x_json-in-X c = grind (arith, common_steps) steps 2000000

pub returns-in_err-y_json-in-Y : goal.returns-in_err-y_json-in-Y
returns-in_err-y_json-in-Y c = grind (arith, common_steps) steps 2000000

pub returns-in_ok-bands_json-in-Bands : goal.returns-in_ok-bands_json-in-Bands
returns-in_ok-bands_json-in-Bands c = grind (arith, common_steps) steps 2000000

pub returns-in_ok-time_json-in-Time : goal.returns-in_ok-time_json-in-Time
returns-in_ok-time_json-in-Time c = grind (arith, common_steps) steps 2000000

pub returns-in_ok-x_json-in-X : goal.returns-in_ok-x_json-in-X
returns-in_ok-x_json-in-X c = grind (arith, common_steps) steps 2000000

pub returns-in_ok-y_json-in-Y : goal.returns-in_ok-y_json-in-Y
returns-in_ok-y_json-in-Y c = grind (arith, common_steps) steps 2000000

pub returns-then-is_none : goal.returns-then-is_none
returns-then-is_none c = grind (arith, common_steps) steps 2000000
