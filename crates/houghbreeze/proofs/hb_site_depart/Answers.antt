-- The lengths lent refuse; or a call on sizes is made, and the bytes are copied from the place that it tells.
use mathlib.Core.Path.{sym, ◌∙◌}
use Rattle.order.specs.Encoding.{view}
use Rattle.image.specs.Image.{state_in}
use Rattle.store.proofs.CallLaws.{departs}
use Rattle.store.proofs.SiteLaws.{from_fits}
use Rattle.houghbreeze.specs.Promised.{site_in}
use Rattle.houghbreeze.proofs.SizesLaws.{departure_slot}
use Rattle.houghbreeze.proofs.SiteLaws.{site_departure_refused, site_departure_passes}
use Rattle.houghbreeze.proofs.hb_site_depart.Goals as goal

pub returns-in-Err : goal.returns-in-Err
returns-in-Err c =
    site_departure_refused c.args.s.now c.requires c.args.store.now c.args.out.now c.in-Err.refusal (sym c.may_depart.ensures ∙ c.in-Err.is) c.refused.ensures

pub read-requires : goal.read-requires
read-requires c =
    let right = departs (view (state_in c.args.s.now)) c.args.store.now c.args.out.now (sym c.may_depart.ensures ∙ c.in_default.is) in
    let from = from_fits (site_in c.args.s.now) c.requires.sound c.args.store.now c.args.out.now right.0 right.1 (record { state = state_in c.depart-reply.new.bytes; reply = c.depart-reply.result }) c.depart-reply.ensures.promise in
    record { whole_store = right.0; flow_in_range = from.0; slot_in_range = from.1; size_in_range = from.2; room = right.1 }

pub of_reply-requires : goal.of_reply-requires
of_reply-requires c = departure_slot c.args.s.now c.requires c.depart-reply.ensures.promise

pub returns : goal.returns
returns c =
    site_departure_passes c.args.s.now c.requires c.args.store.now c.args.out.now (departs (view (state_in c.args.s.now)) c.args.store.now c.args.out.now (sym c.may_depart.ensures ∙ c.in_default.is))
    c.depart-reply.new.bytes c.depart-reply.result c.depart-reply.ensures c.read.ensures c.of_reply.ensures
