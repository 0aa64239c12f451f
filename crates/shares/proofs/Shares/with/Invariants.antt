-- `shares::Shares::with` meets its contract. The loop's invariant: whatever departures the log is one of, so many of them are counted.
use Prim.Native.Nat.{◌*◌}
use Rattle.shares.proofs.ReadLaws.{Reads}
use Rattle.shares.proofs.Shares.with.Given as goal

abbrev pub invariant-loop-flow : goal.invariant-loop-flow
invariant-loop-flow l = Reads l.log l.initial.self.flows l.initial.self.total l.self.flows l.self.total (2 * l.flow-index)
