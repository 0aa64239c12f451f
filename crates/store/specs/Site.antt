-- What a site holds, as contracts see it: the state of the scheduler whose packets lie in one store.
use Rattle.order.specs.State.{State}

pub record Site : Type 0 where
  pub order : State
