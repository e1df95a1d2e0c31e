use Rattle.oe_top.proofs.judge.judge_input.Goals as goal

pub returns-in-Ok-clause-judged : goal.returns-in-Ok-clause-judged
returns-in-Ok-clause-judged g c =
    let kept = c.in-Ok.ensures.text in
    record {
      ends = record { bytes = _; read_whole = kept.0; text = kept.1 };
      taken = c.judge_and_keep.ensures.taken;
      count = c.judge_and_keep.ensures.count;
    }

pub returns-in-Err-clause-judged : goal.returns-in-Err-clause-judged
returns-in-Err-clause-judged g c = record {
  ends = c.in-Err.ensures.refused;
  taken = c.judge_and_keep.ensures.taken;
  count = c.judge_and_keep.ensures.count;
}
