-- The lengths lent refuse; or a call on sizes is made, and a packet that it takes is written in the place that it tells.
use Rattle.image.specs.Image.{state_in}
use Rattle.store.proofs.SiteLaws.{offer_lengths_right, into_fits, packet_small}
use Rattle.houghbreeze.specs.Promised.{site_in}
use Rattle.houghbreeze.proofs.SizesLaws.{offer_slot}
use Rattle.houghbreeze.proofs.SiteLaws.{site_offer_refused, site_offer_written, site_offer_not_written}
use Rattle.houghbreeze.proofs.hb_site_offer.Goals as goal

pub returns-in-Err : goal.returns-in-Err
returns-in-Err c =
    site_offer_refused c.args.s.now c.requires c.args.flow c.args.packet.now c.args.store.now c.may_offer.result c.may_offer.ensures c.in-Err.refusal c.in-Err.is c.refused.ensures

pub write-requires-clause-flow_in_range : goal.write-requires-clause-flow_in_range
write-requires-clause-flow_in_range c =
    (into_fits (site_in c.args.s.now) c.requires.sound c.args.flow c.args.packet.now c.args.store.now (offer_lengths_right (site_in c.args.s.now) c.requires.sound c.args.flow c.args.packet.now c.args.store.now c.may_offer.result c.may_offer.ensures c.in_default.is)
    (record { state = state_in c.offer.new.bytes; reply = c.offer.result }) c.offer.ensures.promise c.in-Ok.place c.in-Ok.is).0

pub write-requires-clause-slot_in_range : goal.write-requires-clause-slot_in_range
write-requires-clause-slot_in_range c =
    (into_fits (site_in c.args.s.now) c.requires.sound c.args.flow c.args.packet.now c.args.store.now (offer_lengths_right (site_in c.args.s.now) c.requires.sound c.args.flow c.args.packet.now c.args.store.now c.may_offer.result c.may_offer.ensures c.in_default.is)
    (record { state = state_in c.offer.new.bytes; reply = c.offer.result }) c.offer.ensures.promise c.in-Ok.place c.in-Ok.is).1

pub write-requires-clause-size_in_range : goal.write-requires-clause-size_in_range
write-requires-clause-size_in_range c =
    packet_small (site_in c.args.s.now) c.requires.sound c.args.flow c.args.packet.now c.args.store.now (offer_lengths_right (site_in c.args.s.now) c.requires.sound c.args.flow c.args.packet.now c.args.store.now c.may_offer.result c.may_offer.ensures c.in_default.is)
    (record { state = state_in c.offer.new.bytes; reply = c.offer.result }) c.offer.ensures.promise c.in-Ok.place c.in-Ok.is

pub of_offer-requires : goal.of_offer-requires
of_offer-requires c = rw c.in-Ok.is at (offer_slot c.args.s.now c.requires c.offer.ensures.promise)

pub returns-in-Ok : goal.returns-in-Ok
returns-in-Ok c =
    site_offer_written c.args.s.now c.requires c.args.flow c.args.packet.now c.args.store.now (offer_lengths_right (site_in c.args.s.now) c.requires.sound c.args.flow c.args.packet.now c.args.store.now c.may_offer.result c.may_offer.ensures c.in_default.is)
    c.offer.new.bytes c.offer.result c.offer.ensures c.in-Ok.place c.in-Ok.is c.write.ensures c.of_offer.ensures

pub returns-in-Err-offer : goal.returns-in-Err-offer
returns-in-Err-offer c =
    site_offer_not_written c.args.s.now c.requires c.args.flow c.args.packet.now c.args.store.now (offer_lengths_right (site_in c.args.s.now) c.requires.sound c.args.flow c.args.packet.now c.args.store.now c.may_offer.result c.may_offer.ensures c.in_default.is)
    c.offer.new.bytes c.offer.result c.offer.ensures c.in-Err-offer.refusal c.in-Err-offer.is c.refused-in-Err-offer.ensures
