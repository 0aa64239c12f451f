-- What each public call promises: its reply, the state that it gives back and the bytes lent to it are those of the definitions' call on the scheduler
-- that the state stands for, and the state meets the premise of the next call.
use Rattle.std.specs.Prelude.{ℕ, ◌≡◌, List}
use Rattle.model.specs.Model.{Scheduler, new_scheduler}
use Rattle.model.specs.Calls.{opened}
use Rattle.model.specs.Replies.{Answer}
use Rattle.model.specs.declared.Outcome.{Outcome}
use Rattle.model.specs.declared.Reply.{Reply}
use Rattle.order.specs.Encoding.{encode, view, Sound}
use Rattle.store.specs.Calls.{store_offer, store_depart}
use Rattle.store.specs.Site.{Site}

-- The scheduler that a site stands for.
unfoldable pub scheduler_of : Site → Scheduler
scheduler_of site = view site.order

-- What is so of every site that came from a new one, a reset or an earlier reply. The struct keeps it, so no call asks for it.
abbrev pub SoundSite : Site → Type 0
SoundSite site = Sound site.order

-- A scheduler as code keeps it, alone and beside each kind of reply.
unfoldable pub site_of : Scheduler → Site
site_of s = record { order = encode s }

unfoldable pub answered_as : Scheduler → Answer → Outcome Site Answer
answered_as s answer = record { state = site_of s; reply = answer }

unfoldable pub departed_as : Scheduler → Reply → Outcome Site Reply
departed_as s reply = record { state = site_of s; reply = reply }

-- New and reset.
pub record NewGives (r : Site) : Type 0 where
  pub outcome : r ≡ site_of new_scheduler
  pub sound : SoundSite r

pub record OpenGives (site : Site) (f weight : ℕ) (r : Outcome Site Answer) : Type 0 where
  pub outcome : r ≡ answered_as (opened (scheduler_of site) f weight).state (opened (scheduler_of site) f weight).reply
  pub sound : SoundSite r.state

-- `store` and `after` are the lent store at entry and at exit.
pub record OfferGives (site : Site) (f : ℕ) (packet store after : List ℕ) (r : Outcome Site Answer) : Type 0 where
  pub outcome : r ≡ answered_as (store_offer (scheduler_of site) f packet store).state (store_offer (scheduler_of site) f packet store).answer
  pub stored : after ≡ (store_offer (scheduler_of site) f packet store).store
  pub sound : SoundSite r.state

-- `out` and `after` are the outgoing buffer at entry and at exit.
pub record DepartGives (site : Site) (store out after : List ℕ) (r : Outcome Site Reply) : Type 0 where
  pub outcome : r ≡ departed_as (store_depart (scheduler_of site) store out).state (store_depart (scheduler_of site) store out).reply
  pub sent : after ≡ (store_depart (scheduler_of site) store out).out
  pub sound : SoundSite r.state
