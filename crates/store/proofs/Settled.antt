-- Each public call's contract determines its reply, the site that it gives back and the bytes lent to it: no second outcome meets it.
use Prim.Native.Nat.{ℕ}
use mathlib.Core.Path.{◌≡◌, sym, ◌∙◌}
use mathlib.Core.List.{List}
use Rattle.store.specs.Promised.{NewGives, OpenGives, OfferGives, DepartGives}
use Rattle.store.specs.Site.{Site}
use Rattle.model.specs.Replies.{Answer}
use Rattle.model.specs.declared.Outcome.{Outcome}
use Rattle.model.specs.declared.Reply.{Reply}

-- New and reset.
pub new_settled : {r r' : Site} → NewGives r → NewGives r' → r ≡ r'
new_settled g h = g.outcome ∙ sym h.outcome

pub open_settled : {site : Site} {f weight : ℕ} {r r' : Outcome Site Answer} → OpenGives site f weight r → OpenGives site f weight r' → r ≡ r'
open_settled g h = g.outcome ∙ sym h.outcome

pub offer_settled : {site : Site} {f : ℕ} {packet store after after' : List ℕ} {r r' : Outcome Site Answer}
    → OfferGives site f packet store after r → OfferGives site f packet store after' r' → (r ≡ r') × (after ≡ after')
offer_settled g h = (g.outcome ∙ sym h.outcome, g.stored ∙ sym h.stored)

pub depart_settled : {site : Site} {store out after after' : List ℕ} {r r' : Outcome Site Reply}
    → DepartGives site store out after r → DepartGives site store out after' r' → (r ≡ r') × (after ≡ after')
depart_settled g h = (g.outcome ∙ sym h.outcome, g.sent ∙ sym h.sent)
