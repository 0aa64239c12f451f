-- What a call on sizes gives, a site gives.
use Rattle.houghbreeze.proofs.SiteLaws.{site_open_passes}
use Rattle.houghbreeze.proofs.hb_site_open.Goals as goal

pub returns : goal.returns
returns c =
    site_open_passes c.args.s.now c.args.flow c.args.weight c.hb_open.ensures
