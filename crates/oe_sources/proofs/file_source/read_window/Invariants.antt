use Rattle.std.proofs.Common.{◌≡◌, length}
use Rattle.oe_dims.specs.Dimensions.{cell_count}
use Rattle.oe_sources.specs.OpenedFile.{AreOfKind}
use Rattle.oe_sources.proofs.ContentLemmas.{AreReadAt}
use Rattle.oe_window.specs.Runs.{EndWithin, window_numbers}
use Rattle.oe_window.proofs.VisitLemmas.{Visiting}
use Rattle.oe_sources.proofs.file_source.read_window.Given as goal

abbrev pub invariant-loop-first : goal.invariant-loop-first
invariant-loop-first g l = record {
  next : (goal.iterator-loop-first g).can_next l.first-iterator;
  finite : (goal.iterator-loop-first g).is_finite l.first-iterator;
  visiting : Visiting (window_numbers l.file.head.shape l.window) l.first-iterator l.done;
  within : EndWithin (cell_count l.file.head.shape) l.first-iterator;
  room : length l.buffer ≡ 65536;
  read : AreReadAt (g.S.Store.bytes l.store) l.file.head (window_numbers l.file.head.shape l.window) l.done l.into;
  of_kind : AreOfKind l.file.head.kind l.done l.into;
}
