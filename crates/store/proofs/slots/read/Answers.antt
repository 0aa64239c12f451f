-- The part of the store from the slot's start to the packet's end is copied to the start of the outgoing buffer.
use native.Mathlib.Omega.{arith}
use Rattle.model.specs.Limits.{size_limit}
use Rattle.store.proofs.SlotLaws.{slot_in_store, read_law}
use Rattle.store.proofs.slots.read.Goals as goal

pub overflow_add-end : goal.overflow_add-end
overflow_add-end c =
    omega (arith, slot_in_store c.args.f c.args.k size_limit c.requires.flow_in_range c.requires.slot_in_range (omega arith), c.requires.size_in_range)

pub slice_bounds-copy_in-end : goal.slice_bounds-copy_in-end
slice_bounds-copy_in-end c =
    omega (arith, slot_in_store c.args.f c.args.k size_limit c.requires.flow_in_range c.requires.slot_in_range (omega arith), c.requires.size_in_range)

pub returns : goal.returns
returns c =
    read_law c.args.store.now c.args.out.now c.copy_in.new.dst c.args.f c.args.k c.args.n
    c.start-at.result c.start-at.ensures
    (omega (arith, slot_in_store c.args.f c.args.k c.args.n c.requires.flow_in_range c.requires.slot_in_range c.requires.size_in_range, c.start-at.ensures, c.requires.whole_store))
    c.copy_in.ensures
