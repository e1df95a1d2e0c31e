use Rattle.std.proofs.Common.{◌≡◌, ◌∙◌, length, sym, ap, subst}
use Rattle.std.proofs.lemmas.List.{length-set}
use Rattle.oe_dims.specs.Dimensions.{Dimensions}
use Rattle.oe_plan.specs.Figures.{shape_of_node}
use Rattle.oe_plan.specs.Schedules.{part_of}
use Rattle.oe_plan.specs.Windows.{AreWindows}
use Rattle.oe_window.specs.Chunks.{FitsSides, tiling_of}
use Rattle.oe_window.specs.Windows.{Holds, IsEmpty, whole_window}
use Rattle.oe_window.specs.declared.grid.ChunkSize.{ChunkSize}
use Rattle.oe_window.specs.declared.window.Window.{Window}
use Rattle.oe_slab.proofs.ScheduleLemmas.{ordered_by}
use Rattle.oe_slab.proofs.SlabWindowLemmas.{dates, last_window, met_serve, wide, wide_filled, wide_fits, wide_within}
use Rattle.oe_slab.proofs.evaluate.slab_windows.Goals as goal

-- the slab with all bands, as the code makes it
wide_is : (slab result : Window) (shape shape' : Dimensions) → shape' ≡ shape → result ≡ record slab { bands = (whole_window shape').bands }
    → result ≡ record slab { bands = (whole_window shape).bands }
wide_is slab result shape shape' same is = is ∙ ap (λ (d : Dimensions). record slab { bands = (whole_window d).bands }) same

pub windows_before-requires-clause-within : goal.windows_before-requires-clause-within
windows_before-requires-clause-within c =
    let p = c.args.plan.now in
    let valid = c.taken_shape.ensures.valid in
    let s = valid.schedules in
    subst (Holds (whole_window (shape_of_node p.graph p.before.last)))
    (sym (wide_is c.args.slab.now c.with_all_bands-wide.result (shape_of_node p.graph p.before.last) c.taken_shape.result.now c.taken_shape.ensures.value c.with_all_bands-wide.ensures))
    (wide_within p.graph valid.faultless p.size p.fold valid.cut (ordered_by p.graph p.size p.fold p.whole p.before p.behind s) p.before s.before s.before_last s.before_given s.before_steps
    c.args.all.now c.args.slab.now c.requires.slab)

pub windows_before-requires-clause-some : goal.windows_before-requires-clause-some
windows_before-requires-clause-some c =
    let p = c.args.plan.now in
    let valid = c.taken_shape.ensures.valid in
    let s = valid.schedules in
    subst (λ (w : Window). ¬ IsEmpty w)
    (sym (wide_is c.args.slab.now c.with_all_bands-wide.result (shape_of_node p.graph p.before.last) c.taken_shape.result.now c.taken_shape.ensures.value c.with_all_bands-wide.ensures))
    (wide_filled p.graph valid.faultless p.size p.fold valid.cut (ordered_by p.graph p.size p.fold p.whole p.before p.behind s) p.before s.before s.before_last s.before_given s.before_steps
    c.args.all.now c.args.slab.now c.requires.slab)

pub meet_whole-requires-clause-all : goal.meet_whole-requires-clause-all
meet_whole-requires-clause-all c = c.requires.slab.are.each

pub meet_whole-requires-clause-each : goal.meet_whole-requires-clause-each
meet_whole-requires-clause-each c = c.windows_before.auto.windows ∙ c.requires.windows

pub returns-clause-windows : goal.returns-clause-windows
returns-clause-windows c =
    let p = c.args.plan.now in
    let valid = c.taken_shape.ensures.valid in
    let s = valid.schedules in
    let slab = c.args.slab.now in
    let all = c.args.all.now in
    let ordered = ordered_by p.graph p.size p.fold p.whole p.before p.behind s in
    let same = wide_is slab c.with_all_bands-wide.result (shape_of_node p.graph p.before.last) c.taken_shape.result.now c.taken_shape.ensures.value c.with_all_bands-wide.ensures in
    let found = c.windows_before.new.windows in
    let met = c.meet_whole.new.windows in
    let last = c.last_before.result in
    let long : length met ≡ length p.before.order.steps = c.meet_whole.auto.windows ∙ (c.windows_before.auto.windows ∙ c.requires.windows) in
    let sides : ChunkSize = dates p.graph valid.faultless p.size p.fold valid.cut ordered p.before s.before s.before_last s.before_given s.before_steps all slab c.requires.slab in
    let are : AreWindows (part_of p.graph p.before) sides
    (wide p.graph valid.faultless p.size p.fold valid.cut ordered p.before s.before s.before_last s.before_given s.before_steps all slab c.requires.slab) found =
    subst (λ (w : Window). FitsSides (tiling_of (shape_of_node p.graph p.before.last) sides) w → AreWindows (part_of p.graph p.before) sides w found) same (c.windows_before.ensures sides)
    (wide_fits p.graph valid.faultless p.size p.fold valid.cut ordered p.before s.before s.before_last s.before_given s.before_steps all slab c.requires.slab) in
    met_serve p.graph valid.faultless p.size p.fold valid.cut ordered p.before s.before s.before_last s.before_given s.before_steps all slab c.requires.slab
    found are met c.meet_whole.ensures long last c.last_before.ensures.within c.last_before.ensures.is
    (length-set met last slab ∙ long) s.before_largest

pub returns-clause-last : goal.returns-clause-last
returns-clause-last c =
    let p = c.args.plan.now in
    let valid = c.taken_shape.ensures.valid in
    let s = valid.schedules in
    let slab = c.args.slab.now in
    let all = c.args.all.now in
    let ordered = ordered_by p.graph p.size p.fold p.whole p.before p.behind s in
    let same = wide_is slab c.with_all_bands-wide.result (shape_of_node p.graph p.before.last) c.taken_shape.result.now c.taken_shape.ensures.value c.with_all_bands-wide.ensures in
    let found = c.windows_before.new.windows in
    let met = c.meet_whole.new.windows in
    let last = c.last_before.result in
    let long : length met ≡ length p.before.order.steps = c.meet_whole.auto.windows ∙ (c.windows_before.auto.windows ∙ c.requires.windows) in
    let sides : ChunkSize = dates p.graph valid.faultless p.size p.fold valid.cut ordered p.before s.before s.before_last s.before_given s.before_steps all slab c.requires.slab in
    let are : AreWindows (part_of p.graph p.before) sides
    (wide p.graph valid.faultless p.size p.fold valid.cut ordered p.before s.before s.before_last s.before_given s.before_steps all slab c.requires.slab) found =
    subst (λ (w : Window). FitsSides (tiling_of (shape_of_node p.graph p.before.last) sides) w → AreWindows (part_of p.graph p.before) sides w found) same (c.windows_before.ensures sides)
    (wide_fits p.graph valid.faultless p.size p.fold valid.cut ordered p.before s.before s.before_last s.before_given s.before_steps all slab c.requires.slab) in
    last_window p.graph valid.faultless p.size p.fold valid.cut ordered p.before s.before s.before_last s.before_given s.before_steps all slab c.requires.slab
    found are met c.meet_whole.ensures long last c.last_before.ensures.within c.last_before.ensures.is
