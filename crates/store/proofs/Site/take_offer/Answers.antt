-- The lengths lent refuse, or the order layer does, or the packet is written.
use Rattle.std.proofs.lemmas.Result.{err_from_is_err_and}
use Rattle.store.proofs.SiteLaws.{refused_offer, offer_lengths_right, into_fits, packet_small, stored_there, refused_there}
use Rattle.store.proofs.Site.take_offer.Goals as goal

pub returns-in_err-may_offer : goal.returns-in_err-may_offer
returns-in_err-may_offer c =
    let p = err_from_is_err_and c.from_residual.result c.from_residual.ensures.1 in
    rw (p.1, p.2, ← c.self.view_is)
    (refused_offer (record { order = c.self.inside.order }) c.self.invariant c.args.f c.args.packet.now c.args.store.now c.may_offer.result c.may_offer.ensures c.in_err-may_offer.field-0.0 c.in_err-may_offer.was)

pub returns-in_err-place : goal.returns-in_err-place
returns-in_err-place c =
    let p = err_from_is_err_and c.from_residual-in_err-place.result c.from_residual-in_err-place.ensures.1 in
    rw (p.1, p.2, ← c.self.view_is)
    (refused_there (record { order = c.self.inside.order }) c.self.invariant c.args.f c.args.packet.now c.args.store.now (offer_lengths_right (record { order = c.self.inside.order }) c.self.invariant c.args.f c.args.packet.now c.args.store.now c.may_offer.result c.may_offer.ensures c.in_ok-may_offer.was) (record { state = c.take_offer.new.self; reply = c.take_offer.result }) c.take_offer.ensures c.in_err-place.field-0.0 c.in_err-place.was)

pub write-requires-clause-flow_in_range : goal.write-requires-clause-flow_in_range
write-requires-clause-flow_in_range c = (into_fits (record { order = c.self.inside.order }) c.self.invariant c.args.f c.args.packet.now c.args.store.now (offer_lengths_right (record { order = c.self.inside.order }) c.self.invariant c.args.f c.args.packet.now c.args.store.now c.may_offer.result c.may_offer.ensures c.in_ok-may_offer.was) (record { state = c.take_offer.new.self; reply = c.take_offer.result }) c.take_offer.ensures c.in_ok-place.place c.in_ok-place.was).0

pub write-requires-clause-slot_in_range : goal.write-requires-clause-slot_in_range
write-requires-clause-slot_in_range c = (into_fits (record { order = c.self.inside.order }) c.self.invariant c.args.f c.args.packet.now c.args.store.now (offer_lengths_right (record { order = c.self.inside.order }) c.self.invariant c.args.f c.args.packet.now c.args.store.now c.may_offer.result c.may_offer.ensures c.in_ok-may_offer.was) (record { state = c.take_offer.new.self; reply = c.take_offer.result }) c.take_offer.ensures c.in_ok-place.place c.in_ok-place.was).1

pub write-requires-clause-size_in_range : goal.write-requires-clause-size_in_range
write-requires-clause-size_in_range c = packet_small (record { order = c.self.inside.order }) c.self.invariant c.args.f c.args.packet.now c.args.store.now (offer_lengths_right (record { order = c.self.inside.order }) c.self.invariant c.args.f c.args.packet.now c.args.store.now c.may_offer.result c.may_offer.ensures c.in_ok-may_offer.was) (record { state = c.take_offer.new.self; reply = c.take_offer.result }) c.take_offer.ensures c.in_ok-place.place c.in_ok-place.was

pub returns : goal.returns
returns c =
    rw (← c.self.view_is)
    (stored_there (record { order = c.self.inside.order }) c.self.invariant c.args.f c.args.packet.now c.args.store.now (offer_lengths_right (record { order = c.self.inside.order }) c.self.invariant c.args.f c.args.packet.now c.args.store.now c.may_offer.result c.may_offer.ensures c.in_ok-may_offer.was) (record { state = c.take_offer.new.self; reply = c.take_offer.result }) c.take_offer.ensures c.in_ok-place.place c.in_ok-place.was c.write.new.store c.write.ensures)
