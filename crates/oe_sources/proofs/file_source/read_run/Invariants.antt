use Rattle.std.proofs.Common.{◌≡◌, ◌≤◌, ◌-◌, length}
use Rattle.oe_sources.specs.OpenedFile.{AreOfKind, AreStoredFrom}
use Rattle.oe_sources.proofs.file_source.read_run.Given as goal

abbrev pub invariant-loop-done : goal.invariant-loop-done
invariant-loop-done g l = record {
  within : l.done ≤ length l.into;
  room : length l.buffer ≡ 65536;
  read : AreStoredFrom l.file.head (g.S.Store.bytes l.store) l.first l.done l.into;
  of_kind : AreOfKind l.file.head.kind l.done l.into;
}

abbrev pub decreases-loop-done : goal.decreases-loop-done
decreases-loop-done g l = length l.into - l.done
