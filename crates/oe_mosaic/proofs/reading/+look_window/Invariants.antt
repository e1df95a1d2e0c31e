use Rattle.oe_mosaic.specs.Places.{side_sum}
use Rattle.oe_mosaic.proofs.reading.+look_window.Given as goal

abbrev pub decreases-look_window : goal.decreases-look_window
decreases-look_window g l = side_sum l.window.now
