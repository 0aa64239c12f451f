-- The lengths lent refuse, or the call is made.
use mathlib.Core.Path.{sym, ◌∙◌}
use Rattle.store.specs.Promised.{scheduler_of}
use Rattle.store.proofs.CallLaws.{departs}
use Rattle.store.proofs.SiteLaws.{refused_departure, from_fits, sent_from_there}
use Rattle.store.proofs.Site.make_departure.Goals as goal

pub returns-in-Err : goal.returns-in-Err
returns-in-Err c =
    rw (← c.self.view_is)
    (refused_departure (record { order = c.self.inside.order }) c.self.invariant c.args.store.now c.args.out.now c.in-Err.refusal (sym c.may_depart.ensures ∙ c.in-Err.is))

pub read-requires-clause-whole_store : goal.read-requires-clause-whole_store
read-requires-clause-whole_store c =
    (departs (scheduler_of (record { order = c.self.inside.order })) c.args.store.now c.args.out.now (sym c.may_depart.ensures ∙ c.in_default.is)).0

pub read-requires-clause-room : goal.read-requires-clause-room
read-requires-clause-room c =
    (departs (scheduler_of (record { order = c.self.inside.order })) c.args.store.now c.args.out.now (sym c.may_depart.ensures ∙ c.in_default.is)).1

pub read-requires-clause-flow_in_range : goal.read-requires-clause-flow_in_range
read-requires-clause-flow_in_range c =
    let right = departs (scheduler_of (record { order = c.self.inside.order })) c.args.store.now c.args.out.now (sym c.may_depart.ensures ∙ c.in_default.is) in
    (from_fits (record { order = c.self.inside.order }) c.self.invariant c.args.store.now c.args.out.now right.0 right.1 (record { state = c.make_departure-reply.new.self; reply = c.make_departure-reply.result }) c.make_departure-reply.ensures).0

pub read-requires-clause-slot_in_range : goal.read-requires-clause-slot_in_range
read-requires-clause-slot_in_range c =
    let right = departs (scheduler_of (record { order = c.self.inside.order })) c.args.store.now c.args.out.now (sym c.may_depart.ensures ∙ c.in_default.is) in
    (from_fits (record { order = c.self.inside.order }) c.self.invariant c.args.store.now c.args.out.now right.0 right.1 (record { state = c.make_departure-reply.new.self; reply = c.make_departure-reply.result }) c.make_departure-reply.ensures).1

pub read-requires-clause-size_in_range : goal.read-requires-clause-size_in_range
read-requires-clause-size_in_range c =
    let right = departs (scheduler_of (record { order = c.self.inside.order })) c.args.store.now c.args.out.now (sym c.may_depart.ensures ∙ c.in_default.is) in
    (from_fits (record { order = c.self.inside.order }) c.self.invariant c.args.store.now c.args.out.now right.0 right.1 (record { state = c.make_departure-reply.new.self; reply = c.make_departure-reply.result }) c.make_departure-reply.ensures).2

pub returns : goal.returns
returns c =
    let right = departs (scheduler_of (record { order = c.self.inside.order })) c.args.store.now c.args.out.now (sym c.may_depart.ensures ∙ c.in_default.is) in
    rw (← c.self.view_is)
    (sent_from_there (record { order = c.self.inside.order }) c.self.invariant c.args.store.now c.args.out.now right.0 right.1 (record { state = c.make_departure-reply.new.self; reply = c.make_departure-reply.result }) c.make_departure-reply.ensures c.read.new.out c.read.ensures)
