use Rattle.std.proofs.Common.{Err, Ok, ap, refl, ◌∙◌, arith}
use Rattle.oe_dial.proofs.Endings.{stays}
use Rattle.oe_dial.proofs.ListLemmas.{counts_then, ends_last, ends_refused, goes_down, so_far_next}
use Rattle.oe_dial.specs.Lists.{none}
use Rattle.oe_dial.specs.Words.{plain_call}
use Rattle.oe_dial.proofs.lists.list_pages.Goals as goal

pub loop-next-init : goal.loop-next-init
loop-next-init g c = record {
  within = omega arith;
  hundreds = 0;
  offset_is = omega arith;
  count = 0;
  taken = none;
  counts = record { next = refl; out = stays _; dials = stays _; links = stays _ };
}

pub loop-next-preserved : goal.loop-next-preserved
loop-next-preserved g c =
    so_far_next _ _ _ _ _ c.loop-next.offset c.in-Ok-Some.next c.take_page.result c.loop-next.invariant
    (c.in-Ok-Some.is ∙ ap Ok c.in-Ok-Some.field-0-is) c.take_page.ensures.takes c.take_page.ensures.counts

pub returns-in-Ok-None-clause-pages : goal.returns-in-Ok-None-clause-pages
returns-in-Ok-None-clause-pages g c =
    ends_last _ _ _ _ _ c.loop-next.offset c.take_page.result c.loop-next.invariant
    (c.in-Ok-None.is ∙ ap Ok c.in-Ok-None.field-0-is) c.take_page.ensures.takes c.take_page.ensures.counts

pub returns-in-Ok-None-clause-counts : goal.returns-in-Ok-None-clause-counts
returns-in-Ok-None-clause-counts g c =
    counts_then _ (plain_call c.args.call.now) _ _ _ c.loop-next.invariant.counts c.take_page.ensures.counts

pub returns-in-Err-clause-pages : goal.returns-in-Err-clause-pages
returns-in-Err-clause-pages g c =
    ends_refused _ _ _ _ _ c.loop-next.offset c.in-Err.refusal c.take_page.result c.loop-next.invariant c.in-Err.is
    c.take_page.ensures.takes

pub returns-in-Err-clause-counts : goal.returns-in-Err-clause-counts
returns-in-Err-clause-counts g c =
    counts_then _ (plain_call c.args.call.now) _ _ _ c.loop-next.invariant.counts c.take_page.ensures.counts

pub loop-next-smaller : goal.loop-next-smaller
loop-next-smaller g c =
    goes_down _ _ _ _ c.loop-next.offset c.in-Ok-Some.next c.take_page.result (c.in-Ok-Some.is ∙ ap Ok c.in-Ok-Some.field-0-is)
    c.take_page.ensures.takes
