-- A slot fits its field.
use Rattle.houghbreeze.proofs.SizesLaws.{offer_slot}
use Rattle.houghbreeze.proofs.hb_offer.Goals as goal

pub of_offer-requires : goal.of_offer-requires
of_offer-requires c = offer_slot c.args.s.now c.requires c.offer.ensures.promise
