-- A slot fits its field.
use Rattle.houghbreeze.proofs.SizesLaws.{departure_slot}
use Rattle.houghbreeze.proofs.hb_depart.Goals as goal

pub of_reply-requires : goal.of_reply-requires
of_reply-requires c = departure_slot c.args.s.now c.requires c.depart-reply.ensures.promise
