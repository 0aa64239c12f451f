-- The part of the store from the slot's start is lent on and comes back with the packet at its start.
use native.Mathlib.Omega.{arith}
use lib.ListN.{length}
use Rattle.store.proofs.SlotLaws.{slot_in_store, room_in_part, write_law}
use Rattle.store.proofs.slots.write.Goals as goal

pub slice_bounds-copy_in-count : goal.slice_bounds-copy_in-count
slice_bounds-copy_in-count c =
    omega (arith, slot_in_store c.args.f c.args.k (length c.args.packet.now) c.requires.flow_in_range c.requires.slot_in_range c.requires.size_in_range)

pub slice_bounds-copy_in-start : goal.slice_bounds-copy_in-start
slice_bounds-copy_in-start c =
    omega (arith, slot_in_store c.args.f c.args.k (length c.args.packet.now) c.requires.flow_in_range c.requires.slot_in_range c.requires.size_in_range)

pub copy_in-requires : goal.copy_in-requires
copy_in-requires c =
    room_in_part c.args.store.now c.args.packet.now c.args.f c.args.k c.start-at.result c.requires.whole_store c.requires.flow_in_range c.requires.slot_in_range c.requires.size_in_range c.start-at.ensures

pub returns : goal.returns
returns c =
    write_law c.args.store.now c.args.packet.now c.copy_in.new.dst c.args.f c.args.k
    c.start-at.result c.start-at.ensures
    c.copy_in.ensures
