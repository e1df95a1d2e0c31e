use Rattle.std.proofs.Common.{◌≡◌, ℕ, ◌<◌, List, ap, ◌∙◌, subst}
use Rattle.oe_window.specs.Chunks.{chunk_count}
use Rattle.oe_parts.specs.Parts.{PartState, heads_of}
use Rattle.oe_parts.specs.Whole.{AreHeads, AreOfRun, IsCovered, IsFirstGap, Overlaps, RunOutline, run_chunks}
use Rattle.oe_parts.proofs.WholeLemmas.{are_whole}
use Rattle.oe_parts.proofs.parts.RunParts.fit.Goals as goal

pub returns-in-Some-first_overlap-clause-misfit : goal.returns-in-Some-first_overlap-clause-misfit
returns-in-Some-first_overlap-clause-misfit g c =
    let run : RunOutline = record { graph = c.args.graph.now; kind = c.args.kind; shape = c.args.shape.now } in
    let index = c.in-Some-first_overlap.index in
    let second = c.deref-2.ensures.value ∙ c.self.view_is in
    let third = c.deref-3.ensures.value ∙ c.self.view_is in (
      c.first_sides-sides.result,
      subst (λ (ps : List PartState). AreOfRun run c.first_sides-sides.result (heads_of ps)) second c.in-None.ensures.none,
      subst (λ (ps : List PartState). Overlaps (heads_of ps) index) third c.in-Some-first_overlap.ensures.overlaps.0,
      λ before lt. subst (λ (ps : List PartState). ¬ Overlaps (heads_of ps) before) third (c.in-Some-first_overlap.ensures.overlaps.1 before lt),
    )

pub returns-in-Some-first_gap-clause-misfit : goal.returns-in-Some-first_gap-clause-misfit
returns-in-Some-first_gap-clause-misfit g c =
    let run : RunOutline = record { graph = c.args.graph.now; kind = c.args.kind; shape = c.args.shape.now } in
    let second = c.deref-2.ensures.value ∙ c.self.view_is in
    let third = c.deref-3.ensures.value ∙ c.self.view_is in
    let fourth = c.deref-4.ensures.value ∙ c.self.view_is in
    let total : c.count.result ≡ run_chunks run c.first_sides-sides.result = c.count.ensures.value ∙ ap chunk_count c.new.ensures.value in (
      c.first_sides-sides.result,
      subst (λ (ps : List PartState). AreOfRun run c.first_sides-sides.result (heads_of ps)) second c.in-None.ensures.none,
      subst (λ (ps : List PartState). (index : ℕ) → ¬ Overlaps (heads_of ps) index) third c.in-None-first_overlap.ensures.none,
      subst (λ (n : ℕ). IsFirstGap (heads_of c.args.self.now) n c.in-Some-first_gap.chunk) total
          (subst (λ (ps : List PartState). IsFirstGap (heads_of ps) c.count.result c.in-Some-first_gap.chunk) fourth c.in-Some-first_gap.ensures.gap),
    )

pub returns-in-None-first_gap-clause-whole : goal.returns-in-None-first_gap-clause-whole
returns-in-None-first_gap-clause-whole g c =
    let run : RunOutline = record { graph = c.args.graph.now; kind = c.args.kind; shape = c.args.shape.now } in
    let second = c.deref-2.ensures.value ∙ c.self.view_is in
    let third = c.deref-3.ensures.value ∙ c.self.view_is in
    let fourth = c.deref-4.ensures.value ∙ c.self.view_is in
    let total : c.count.result ≡ run_chunks run c.first_sides-sides.result = c.count.ensures.value ∙ ap chunk_count c.new.ensures.value in
    are_whole run c.first_sides-sides.result (heads_of c.args.self.now) c.count.result total
    (subst (λ (ps : List PartState). AreOfRun run c.first_sides-sides.result (heads_of ps)) second c.in-None.ensures.none)
    (subst (λ (ps : List PartState). AreHeads (heads_of ps)) second c.in-None.ensures.heads)
    (subst (λ (ps : List PartState). (index : ℕ) → ¬ Overlaps (heads_of ps) index) third c.in-None-first_overlap.ensures.none)
    (subst (λ (ps : List PartState). (k : ℕ) → k < c.count.result → IsCovered (heads_of ps) k) fourth c.in-None-first_gap.ensures.none)
