use Rattle.std.proofs.Common.{length, Option, IfSome, ap, sym, ◌∙◌, arith}
use Rattle.std.proofs.lemmas.Grind.{common_steps}
use Rattle.oe_dims.specs.Dimensions.{Dimensions, extent}
use Rattle.oe_outside.specs.Visible.{Appends, AppendsPrefix}
use Rattle.oe_sources.specs.Packed.{plane_size, section_records}
use Rattle.oe_sources.specs.Repacked.{AreWidthsOf}
use Rattle.oe_sources.specs.Source.{Contents}
use Rattle.oe_sources.proofs.RepackLemmas.{after_source, before_source, reads_nothing, reads_on, still_mounted}
use Rattle.oe_sources.proofs.RepackedLemmas.{all_written, damage_on, front_written, left_unwritten, left_written, no_damage, packed_front, part_written, widths_same}
use Rattle.oe_sources.proofs.repacking.repack.Goals as goal

pub returns-in_err-cells-clause-only : goal.returns-in_err-cells-clause-only
returns-in_err-cells-clause-only g c = reads_nothing _ c.args.place

pub returns-in_err-buffer-clause-only : goal.returns-in_err-buffer-clause-only
returns-in_err-buffer-clause-only g c = reads_nothing _ c.args.place

pub returns-in-Err-clause-left : goal.returns-in-Err-clause-left
returns-in-Err-clause-left g c =
    left_unwritten _ _ c.args.place c.find_widths.ensures.only (λ o. g.O.Sink.written o) c.args.id.now c.args.out.now c.in-Err.fail c.in-Err.ensures.refusal

pub kind-kind-requires : goal.kind-kind-requires
kind-kind-requires g c = record { mounted = still_mounted _ _ c.args.place c.find_widths.ensures.only c.requires.mounted }

pub shape-requires : goal.shape-requires
shape-requires g c = record { mounted = still_mounted _ _ c.args.place c.find_widths.ensures.only c.requires.mounted }

pub returns-in-Err-write-clause-left : goal.returns-in-Err-write-clause-left
returns-in-Err-write-clause-left g c =
    let only = c.find_widths.ensures.only in
    let front = packed_front c.args.id.now _ c.shape.result.now _ c.kind-kind.result c.in-Ok.widths.items c.deref.result.now c.deref-2.result.now
    (c.shape.ensures.value ∙ only.shape) (c.kind-kind.ensures ∙ only.kind) (c.deref.ensures.value) c.requires.id c.in_ok-front.ensures.valid
    (c.in-Ok.ensures.counted) c.in_ok-front.ensures.short (c.deref-2.ensures.value ∙ c.in_ok-front.ensures.front) in
    (no_damage _ _ c.args.place only c.in-Ok.widths.items c.in-Ok.ensures.widths, front_written _ _ c.args.place only c.args.id.now c.in-Ok.widths.items c.deref-2.result.now (g.O.Sink.written c.args.out.now) (g.O.Sink.written c.write.new.self) front c.in-Ok.ensures.widths c.in-Err-write.ensures.prefix)

pub write_all-requires-clause-mounted : goal.write_all-requires-clause-mounted
write_all-requires-clause-mounted g c = λ κs within. still_mounted _ _ c.args.place c.find_widths.ensures.only c.requires.mounted

pub write_all-requires-clause-widths : goal.write_all-requires-clause-widths
write_all-requires-clause-widths g c = λ κs within.
    let only = c.find_widths.ensures.only in
    record {
      counted = ap length c.deref-3.ensures.value ∙ c.in-Ok.ensures.counted ∙ ap (λ (d : Dimensions). extent d.t) (sym only.shape);
      least = after_source (λ (d : Dimensions) (o : Option Contents). IfSome o (λ v. AreWidthsOf d v c.deref-3.result.now)) _ _ c.args.place only
          (widths_same _ _ c.in-Ok.widths.items c.deref-3.result.now c.deref-3.ensures.value c.in-Ok.ensures.widths);
    }

pub returns-in-Ok-write_all-clause-written : goal.returns-in-Ok-write_all-clause-written
returns-in-Ok-write_all-clause-written g c =
    let only = c.find_widths.ensures.only in
    let widths = c.deref-3.result.now in
    let known = widths_same _ _ c.in-Ok.widths.items widths c.deref-3.ensures.value c.in-Ok.ensures.widths in
    let before = g.O.Sink.written c.args.out.now in
    let from = g.O.Sink.written c.write.new.self in
    let to = g.O.Sink.written c.write_all.new.out in
    let front = packed_front c.args.id.now _ c.shape.result.now _ c.kind-kind.result widths c.deref.result.now c.deref-2.result.now
    (c.shape.ensures.value ∙ only.shape) (c.kind-kind.ensures ∙ only.kind) (c.deref.ensures.value ∙ sym c.deref-3.ensures.value) c.requires.id c.in_ok-front.ensures.valid
    (ap length c.deref-3.ensures.value ∙ c.in-Ok.ensures.counted) c.in_ok-front.ensures.short (c.deref-2.ensures.value ∙ c.in_ok-front.ensures.front) in
    all_written _ _ c.args.place only c.args.id.now widths c.deref-2.result.now before from to front known c.in-Ok-write.ensures.appended
    (before_source (λ (d : Dimensions) (o : Option Contents). IfSome o (λ v. Appends from (section_records (plane_size d) widths v.cells) to)) _ _ c.args.place only c.in-Ok-write_all.ensures.writes.whole)

pub returns-in-Ok-write_all-clause-undamaged : goal.returns-in-Ok-write_all-clause-undamaged
returns-in-Ok-write_all-clause-undamaged g c =
    no_damage _ _ c.args.place c.find_widths.ensures.only c.in-Ok.widths.items c.in-Ok.ensures.widths

pub returns-in-Ok-write_all-clause-only : goal.returns-in-Ok-write_all-clause-only
returns-in-Ok-write_all-clause-only g c = reads_on _ _ _ c.args.place c.find_widths.ensures.only c.write_all.ensures.only

pub returns-clause-left : goal.returns-clause-left
returns-clause-left g c =
    let only = c.find_widths.ensures.only in
    let widths = c.deref-3.result.now in
    let known = widths_same _ _ c.in-Ok.widths.items widths c.deref-3.ensures.value c.in-Ok.ensures.widths in
    let before = g.O.Sink.written c.args.out.now in
    let from = g.O.Sink.written c.write.new.self in
    let to = g.O.Sink.written c.write_all.new.out in
    let front = packed_front c.args.id.now _ c.shape.result.now _ c.kind-kind.result widths c.deref.result.now c.deref-2.result.now
    (c.shape.ensures.value ∙ only.shape) (c.kind-kind.ensures ∙ only.kind) (c.deref.ensures.value ∙ sym c.deref-3.ensures.value) c.requires.id c.in_ok-front.ensures.valid
    (ap length c.deref-3.ensures.value ∙ c.in-Ok.ensures.counted) c.in_ok-front.ensures.short (c.deref-2.ensures.value ∙ c.in_ok-front.ensures.front) in
    left_written _ _ c.args.place only (λ o. g.O.Sink.written o) c.args.id.now widths c.args.out.now c.write_all.new.out c.in-Err-write_all.fail c.in-Err-write_all.ensures.refusal known
    (damage_on _ _ c.args.place only c.in-Err-write_all.fail c.in-Err-write_all.ensures.damage)
    (part_written _ _ c.args.place only c.args.id.now widths c.deref-2.result.now before from to front known c.in-Ok-write.ensures.appended
    (before_source (λ (d : Dimensions) (o : Option Contents). IfSome o (λ v. AppendsPrefix from (section_records (plane_size d) widths v.cells) to)) _ _ c.args.place only c.in-Err-write_all.ensures.writes.part))

pub returns-clause-only : goal.returns-clause-only
returns-clause-only g c = reads_on _ _ _ c.args.place c.find_widths.ensures.only c.write_all.ensures.only

pub returns-clause-damage : goal.returns-clause-damage
returns-clause-damage g c = grind (arith, common_steps) steps 2000000

pub returns-clause-sink : goal.returns-clause-sink
returns-clause-sink g c = grind (arith, common_steps) steps 2000000

pub returns-clause-source : goal.returns-clause-source
returns-clause-source g c = grind (arith, common_steps) steps 2000000

pub returns-clause-undamaged : goal.returns-clause-undamaged
returns-clause-undamaged g c = grind (arith, common_steps) steps 2000000

pub returns-clause-written : goal.returns-clause-written
returns-clause-written g c = grind (arith, common_steps) steps 2000000

pub returns-in-Err-clause-damage : goal.returns-in-Err-clause-damage
returns-in-Err-clause-damage g c = grind (arith, common_steps) steps 2000000

pub returns-in-Err-clause-only : goal.returns-in-Err-clause-only
returns-in-Err-clause-only g c = grind (arith, common_steps) steps 2000000

pub returns-in-Err-clause-sink : goal.returns-in-Err-clause-sink
returns-in-Err-clause-sink g c = grind (arith, common_steps) steps 2000000

pub returns-in-Err-clause-source : goal.returns-in-Err-clause-source
returns-in-Err-clause-source g c = grind (arith, common_steps) steps 2000000

pub returns-in-Err-clause-undamaged : goal.returns-in-Err-clause-undamaged
returns-in-Err-clause-undamaged g c = grind (arith, common_steps) steps 2000000

pub returns-in-Err-clause-written : goal.returns-in-Err-clause-written
returns-in-Err-clause-written g c = grind (arith, common_steps) steps 2000000

pub returns-in-Err-write-clause-damage : goal.returns-in-Err-write-clause-damage
returns-in-Err-write-clause-damage g c = grind (arith, common_steps) steps 2000000

pub returns-in-Err-write-clause-only : goal.returns-in-Err-write-clause-only
returns-in-Err-write-clause-only g c = grind (arith, common_steps) steps 2000000

pub returns-in-Err-write-clause-sink : goal.returns-in-Err-write-clause-sink
returns-in-Err-write-clause-sink g c = grind (arith, common_steps) steps 2000000

pub returns-in-Err-write-clause-source : goal.returns-in-Err-write-clause-source
returns-in-Err-write-clause-source g c = grind (arith, common_steps) steps 2000000

pub returns-in-Err-write-clause-undamaged : goal.returns-in-Err-write-clause-undamaged
returns-in-Err-write-clause-undamaged g c = grind (arith, common_steps) steps 2000000

pub returns-in-Err-write-clause-written : goal.returns-in-Err-write-clause-written
returns-in-Err-write-clause-written g c = grind (arith, common_steps) steps 2000000

pub returns-in-Ok-write_all-clause-damage : goal.returns-in-Ok-write_all-clause-damage
returns-in-Ok-write_all-clause-damage g c = grind (arith, common_steps) steps 2000000

pub returns-in-Ok-write_all-clause-left : goal.returns-in-Ok-write_all-clause-left
returns-in-Ok-write_all-clause-left g c = grind (arith, common_steps) steps 2000000

pub returns-in-Ok-write_all-clause-sink : goal.returns-in-Ok-write_all-clause-sink
returns-in-Ok-write_all-clause-sink g c = grind (arith, common_steps) steps 2000000

pub returns-in-Ok-write_all-clause-source : goal.returns-in-Ok-write_all-clause-source
returns-in-Ok-write_all-clause-source g c = grind (arith, common_steps) steps 2000000

pub returns-in_err-buffer-clause-damage : goal.returns-in_err-buffer-clause-damage
returns-in_err-buffer-clause-damage g c = grind (arith, common_steps) steps 2000000

pub returns-in_err-buffer-clause-left : goal.returns-in_err-buffer-clause-left
returns-in_err-buffer-clause-left g c = grind (arith, common_steps) steps 2000000

pub returns-in_err-buffer-clause-sink : goal.returns-in_err-buffer-clause-sink
returns-in_err-buffer-clause-sink g c = grind (arith, common_steps) steps 2000000

pub returns-in_err-buffer-clause-source : goal.returns-in_err-buffer-clause-source
returns-in_err-buffer-clause-source g c = grind (arith, common_steps) steps 2000000

pub returns-in_err-buffer-clause-undamaged : goal.returns-in_err-buffer-clause-undamaged
returns-in_err-buffer-clause-undamaged g c = grind (arith, common_steps) steps 2000000

pub returns-in_err-buffer-clause-written : goal.returns-in_err-buffer-clause-written
returns-in_err-buffer-clause-written g c = grind (arith, common_steps) steps 2000000

pub returns-in_err-cells-clause-damage : goal.returns-in_err-cells-clause-damage
returns-in_err-cells-clause-damage g c = grind (arith, common_steps) steps 2000000

pub returns-in_err-cells-clause-left : goal.returns-in_err-cells-clause-left
returns-in_err-cells-clause-left g c = grind (arith, common_steps) steps 2000000

pub returns-in_err-cells-clause-sink : goal.returns-in_err-cells-clause-sink
returns-in_err-cells-clause-sink g c = grind (arith, common_steps) steps 2000000

pub returns-in_err-cells-clause-source : goal.returns-in_err-cells-clause-source
returns-in_err-cells-clause-source g c = grind (arith, common_steps) steps 2000000

pub returns-in_err-cells-clause-undamaged : goal.returns-in_err-cells-clause-undamaged
returns-in_err-cells-clause-undamaged g c = grind (arith, common_steps) steps 2000000

pub returns-in_err-cells-clause-written : goal.returns-in_err-cells-clause-written
returns-in_err-cells-clause-written g c = grind (arith, common_steps) steps 2000000

pub returns-in_err-front-clause-damage : goal.returns-in_err-front-clause-damage
returns-in_err-front-clause-damage g c = grind (arith, common_steps) steps 2000000

pub returns-in_err-front-clause-left : goal.returns-in_err-front-clause-left
returns-in_err-front-clause-left g c = grind (arith, common_steps) steps 2000000

pub returns-in_err-front-clause-only : goal.returns-in_err-front-clause-only
returns-in_err-front-clause-only g c = grind (arith, common_steps) steps 2000000

pub returns-in_err-front-clause-sink : goal.returns-in_err-front-clause-sink
returns-in_err-front-clause-sink g c = grind (arith, common_steps) steps 2000000

pub returns-in_err-front-clause-source : goal.returns-in_err-front-clause-source
returns-in_err-front-clause-source g c = grind (arith, common_steps) steps 2000000

pub returns-in_err-front-clause-undamaged : goal.returns-in_err-front-clause-undamaged
returns-in_err-front-clause-undamaged g c = grind (arith, common_steps) steps 2000000

pub returns-in_err-front-clause-written : goal.returns-in_err-front-clause-written
returns-in_err-front-clause-written g c = grind (arith, common_steps) steps 2000000
