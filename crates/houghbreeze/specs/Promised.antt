-- What each call for firmware promises: the promise of the layer's own call, of the state that the image stands for; the image and what C reads are those
-- of what that call gives.
use Rattle.std.specs.Prelude.{ℕ, ◌≡◌, List}
use Rattle.model.specs.Model.{flow_at}
use Rattle.model.specs.Steps.{next_slot_of}
use Rattle.model.specs.declared.Outcome.{Outcome}
use Rattle.steps.specs.Places.{leaving_place}
use Rattle.order.specs.Encoding.{view}
use Rattle.order.specs.Promised as Order
use Rattle.order.specs.State.{State}
use Rattle.store.specs.Promised as Store
use Rattle.store.specs.Site.{Site}
use Rattle.image.specs.Image.{image_of, state_in, SoundImage}
use Rattle.image.specs.Replies.{of_answer, of_offer, of_reply, of_count}
use Rattle.image.specs.declared.HbReply.{HbReply}

-- A call leaves this image and says this, as what the layer's call gives would have it.
pub record Gives {R : Type 0} (Promise : R → Type 0) (state_of : R → State) (saying : R → HbReply) (after : List ℕ) (r : HbReply) : Type 0 where
  pub given : R
  pub promise : Promise given
  pub image : after ≡ image_of (state_of given)
  pub says : r ≡ saying given
  pub sound : SoundImage after

-- A reset says nothing.
pub record Resets (Promise : State → Type 0) (after : List ℕ) : Type 0 where
  pub given : State
  pub promise : Promise given
  pub image : after ≡ image_of given
  pub sound : SoundImage after

-- What a call leaves of an image, with the layer's own reply, before it is told to C.
pub record Leaves {A : Type 0} (Promise : Outcome State A → Type 0) (after : List ℕ) (reply : A) : Type 0 where
  pub promise : Promise (record { state = state_in after; reply = reply })
  pub sound : SoundImage after

-- ---- on sizes

abbrev pub ResetGives : List ℕ → Type 0
ResetGives after = Resets Order.NewGives after

abbrev pub OpenGives : List ℕ → ℕ → ℕ → List ℕ → HbReply → Type 0
OpenGives image f weight after r = Gives (Order.OpenGives (state_in image) f weight) (λ a. a.state) (λ a. of_answer a.reply 0) after r

abbrev pub OfferGives : List ℕ → ℕ → ℕ → List ℕ → HbReply → Type 0
OfferGives image f size after r = Gives (Order.OfferGives (state_in image) f size) (λ a. a.state) (λ a. of_offer a.reply) after r

abbrev pub DepartGives : List ℕ → List ℕ → HbReply → Type 0
DepartGives image after r = Gives (Order.DepartGives (state_in image)) (λ a. a.state) (λ a. of_reply a.reply.reply a.reply.from.slot) after r

-- `before` and `list` are the lent list at entry and at exit.
abbrev pub BurstGives : List ℕ → ℕ → List ℕ → List ℕ → List ℕ → HbReply → Type 0
BurstGives image n before list after r = Gives (Order.BurstGives (state_in image) n before list) (λ a. a.state) (λ a. of_count a.reply) after r

-- ---- on bytes

abbrev pub site_in : List ℕ → Site
site_in image = record { order = state_in image }

abbrev pub SiteResetGives : List ℕ → Type 0
SiteResetGives after = Resets (λ c. Store.NewGives (record { order = c })) after

abbrev pub SiteOpenGives : List ℕ → ℕ → ℕ → List ℕ → HbReply → Type 0
SiteOpenGives image f weight after r = Gives (Store.OpenGives (site_in image) f weight) (λ a. a.state.order) (λ a. of_answer a.reply 0) after r

-- `store` and `then` are the lent store at entry and at exit. An accepted packet takes its flow's next slot.
abbrev pub SiteOfferGives : List ℕ → ℕ → List ℕ → List ℕ → List ℕ → List ℕ → HbReply → Type 0
SiteOfferGives image f packet store then after r =
    Gives (Store.OfferGives (site_in image) f packet store then) (λ a. a.state.order)
    (λ a. of_answer a.reply (next_slot_of (flow_at (view (state_in image)) f))) after r

-- `out` and `then` are the outgoing buffer at entry and at exit.
abbrev pub SiteDepartGives : List ℕ → List ℕ → List ℕ → List ℕ → List ℕ → HbReply → Type 0
SiteDepartGives image store out then after r =
    Gives (Store.DepartGives (site_in image) store out then) (λ a. a.state.order) (λ a. of_reply a.reply (leaving_place (view (state_in image))).slot) after r
