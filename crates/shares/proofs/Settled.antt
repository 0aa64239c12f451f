-- Each public call's contract settles what it gives: no second outcome meets it.
use mathlib.Core.List.{List, [], ◌++◌}
use mathlib.Core.Path.{◌≡◌, sym, ◌∙◌}
use Prim.Native.Nat.{ℕ}
use Rattle.model.specs.declared.Sent.{Sent}
use Rattle.play.specs.Log.{log_of}
use Rattle.shares.specs.Share.{shares_of}
use Rattle.shares.specs.Reading.{Readable}
use Rattle.shares.specs.declared.Shares.{Shares}

pub new_settled : {r s : Shares} → r ≡ shares_of [] → s ≡ shares_of [] → r ≡ s
new_settled p q = p ∙ sym q

-- what `with` promises
abbrev Gives : Shares → List ℕ → Shares → Type 0
Gives shares log r = (before more : List Sent) → shares ≡ shares_of before → log ≡ log_of more → r ≡ shares_of (before ++ more)

pub with_settled : {shares : Shares} {log : List ℕ} {r s : Shares} → Readable shares log → Gives shares log r → Gives shares log s → r ≡ s
with_settled h p q = p h.before h.more h.shares_is h.log_is ∙ sym (q h.before h.more h.shares_is h.log_is)
