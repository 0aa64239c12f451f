-- `shares::Shares::with` meets its contract: the numbers of the log are read two by two.
use Rattle.std.proofs.Common.{arith}
use Rattle.shares.proofs.ReadLaws.{reads_begin, departure, flows_are, total_is, next, reads_on, reads_end}
use Rattle.shares.proofs.Shares.with.Goals as goal

pub loop-flow-init : goal.loop-flow-init
loop-flow-init c = reads_begin _ _ _

pub bounds-self-flow : goal.bounds-self-flow
bounds-self-flow c =
    (next c.requires c.loop-flow.invariant (departure c.as_chunks.ensures.front c.as_chunks.ensures.front_len c.loop-flow-test.true)).flow_small

pub with_packet-requires : goal.with_packet-requires
with_packet-requires c =
    let all = (next c.requires c.loop-flow.invariant (departure c.as_chunks.ensures.front c.as_chunks.ensures.front_len c.loop-flow-test.true)).share_fits in
    record { packets_bound = all.0; size_bound = all.1 }

pub bounds-self-flow-in-loop-flow : goal.bounds-self-flow-in-loop-flow
bounds-self-flow-in-loop-flow c =
    (next c.requires c.loop-flow.invariant (departure c.as_chunks.ensures.front c.as_chunks.ensures.front_len c.loop-flow-test.true)).flow_small

pub with_packet-self-requires : goal.with_packet-self-requires
with_packet-self-requires c =
    let all = (next c.requires c.loop-flow.invariant (departure c.as_chunks.ensures.front c.as_chunks.ensures.front_len c.loop-flow-test.true)).total_fits in
    record { packets_bound = all.0; size_bound = all.1 }

pub loop-flow-preserved : goal.loop-flow-preserved
loop-flow-preserved c =
    let d = departure c.as_chunks.ensures.front c.as_chunks.ensures.front_len c.loop-flow-test.true in
    let n = next c.requires c.loop-flow.invariant d in
    reads_on c.loop-flow.invariant d n.flow_small (omega arith) c.with_packet.ensures c.with_packet-self.ensures

pub returns : goal.returns
returns c before more e = reads_end c.loop-flow.invariant (omega (arith, c.loop-flow-test.false, c.as_chunks.ensures.front_len)) before more (flows_are before e) (total_is before e)
