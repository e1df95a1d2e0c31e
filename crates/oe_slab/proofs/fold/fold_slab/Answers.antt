use Rattle.std.proofs.Common.{◌≡◌, ◌+◌, ◌++◌, length, sym, subst, arith}
use Rattle.std.proofs.lemmas.Option.{slice_get_within}
use Rattle.oe_fold.specs.Columns.{column}
use Rattle.oe_fold.specs.Progress.{HasSeen}
use Rattle.oe_slab.specs.Folds.{HaveRoom, HaveSeen}
use Rattle.oe_slab.proofs.FoldedLemmas.{date_more, room_less}
use Rattle.oe_slab.proofs.fold.fold_slab.Goals as goal

pub push_date-requires-clause-room : goal.push_date-requires-clause-room
push_date-requires-clause-room c =
    let date = c.loop-date.date in
    c.loop-date.invariant.room 1 (room_less c.args.folds.now c.args.dates (1 + date) (omega arith) c.requires.room)

pub loop-date-preserved : goal.loop-date-preserved
loop-date-preserved c =
    let date = c.loop-date.date in
    let plane = length c.args.folds.now in
    let cells = c.args.cells.now in
    let long : length c.push_date.new.folds ≡ plane = omega (arith, c.push_date.auto.folds, c.loop-date.invariant.as_many) in
    record {
      as_many = long;
      seen = λ reducer ignores_nulls seen all k fold at.
          let inside = slice_get_within c.push_date.new.folds k fold at in
          subst (λ ys. HasSeen fold reducer ignores_nulls ys) (date_more (seen k) cells plane date k (omega (arith, inside, long)))
          (c.push_date.ensures.seen reducer ignores_nulls (λ j. seen j ++ column cells plane date j) (c.loop-date.invariant.seen reducer ignores_nulls seen all) k fold at);
      room = λ more room. c.push_date.ensures.room more (c.loop-date.invariant.room (more + 1) (room_less c.args.folds.now (more + (date + 1)) (more + 1 + date) (omega arith) room));
    }

pub returns-clause-seen : goal.returns-clause-seen
returns-clause-seen c = λ reducer ignores_nulls seen all.
    let ended : c.loop-date.date ≡ c.args.dates = omega arith in
    subst (λ n. HaveSeen c.loop-date.folds reducer ignores_nulls (λ k. seen k ++ column c.args.cells.now (length c.args.folds.now) n k)) ended
    (c.loop-date.invariant.seen reducer ignores_nulls seen all)

pub returns-clause-room : goal.returns-clause-room
returns-clause-room c = λ more room.
    let ended : c.loop-date.date ≡ c.args.dates = omega arith in
    c.loop-date.invariant.room more (subst (λ n. HaveRoom c.args.folds.now (more + n)) (sym ended) room)
