-- `sheet::judged_all` meets its contract: each site's remark is put behind those of the sites before it.
use Rattle.std.proofs.Common.{arith, rules}
use Rattle.sheet.proofs.MadeLaws.{making_begin, making_sites, making_sound, making_on, making_end}
use Rattle.sheet.proofs.judged_all.Goals as goal

pub loop-before-init : goal.loop-before-init
loop-before-init g c = making_begin _ c.new-week.ensures

pub judge-verdict-requires-clause-sound : goal.judge-verdict-requires-clause-sound
judge-verdict-requires-clause-sound g c = making_sound c.loop-before.invariant (omega arith)

pub judge-verdict-requires-clause-sites_value : goal.judge-verdict-requires-clause-sites_value
judge-verdict-requires-clause-sites_value g c = making_sites c.loop-before.invariant

pub loop-before-preserved : goal.loop-before-preserved
loop-before-preserved g c = making_on c.loop-before.invariant c.judge-verdict.ensures c.remark.ensures

pub returns : goal.returns
returns g c =
    let kept = c.loop-before.invariant.puts.same_buffer in
    making_end c.loop-before.invariant _ (omega arith) c.requires.sites_le_site_limit c.requires.remark_limit_in_bounds
    (record { empty = c.new-page.ensures.empty; holds = search rules })
    c.past.ensures
