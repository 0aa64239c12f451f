-- Each contract of a call for firmware settles everything: no second outcome meets it.
use Prim.Native.Nat.{ℕ}
use mathlib.Core.Path.{◌≡◌, sym, ap, ◌∙◌}
use mathlib.Core.List.{List}
use Rattle.order.specs.State.{State}
use Rattle.order.proofs.Settled as Order
use Rattle.store.proofs.Settled as Store
use Rattle.image.specs.Image.{image_of}
use Rattle.image.specs.declared.HbReply.{HbReply}
use Rattle.houghbreeze.specs.Promised.{Gives, ResetGives, OpenGives, OfferGives, DepartGives, BurstGives, SiteResetGives, SiteOpenGives, SiteOfferGives, SiteDepartGives}

-- What follows from one promise, image and reply are those of one outcome.
module _ {R : Type 0} {P Q : R → Type 0} {state_of : R → State} {saying : R → HbReply} {i j : List ℕ} {r q : HbReply} where
  settled : (a : Gives P state_of saying i r) (b : Gives Q state_of saying j q) → a.given ≡ b.given → (i ≡ j) × (r ≡ q)
  settled a b same =
      (a.image ∙ ap (λ (k : R). image_of (state_of k)) same ∙ sym b.image, a.says ∙ ap saying same ∙ sym b.says)

pub reset_settled : {i j : List ℕ} → ResetGives i → ResetGives j → i ≡ j
reset_settled a b = a.image ∙ ap image_of (Order.new_settled a.promise b.promise) ∙ sym b.image

pub open_settled : (image : List ℕ) {f weight : ℕ} {i j : List ℕ} {r q : HbReply} → OpenGives image f weight i r → OpenGives image f weight j q → (i ≡ j) × (r ≡ q)
open_settled image a b = settled a b (Order.open_settled a.promise b.promise)

pub offer_settled : (image : List ℕ) {f size : ℕ} {i j : List ℕ} {r q : HbReply} → OfferGives image f size i r → OfferGives image f size j q → (i ≡ j) × (r ≡ q)
offer_settled image a b = settled a b (Order.offer_settled a.promise b.promise)

pub depart_settled : (image : List ℕ) {i j : List ℕ} {r q : HbReply} → DepartGives image i r → DepartGives image j q → (i ≡ j) × (r ≡ q)
depart_settled image a b = settled a b (Order.depart_settled a.promise b.promise)

-- Image, reply and lent list.
pub burst_settled : (image : List ℕ) {n : ℕ} {before one two i j : List ℕ} {r q : HbReply} → BurstGives image n before one i r → BurstGives image n before two j q
    → ((i ≡ j) × (r ≡ q)) × (one ≡ two)
burst_settled image a b = let same = Order.burst_settled a.promise b.promise in (settled a b same.0, same.1)

pub site_reset_settled : {i j : List ℕ} → SiteResetGives i → SiteResetGives j → i ≡ j
site_reset_settled a b = a.image ∙ ap (λ k. image_of k.order) (Store.new_settled a.promise b.promise) ∙ sym b.image

pub site_open_settled : (image : List ℕ) {f weight : ℕ} {i j : List ℕ} {r q : HbReply} → SiteOpenGives image f weight i r → SiteOpenGives image f weight j q
    → (i ≡ j) × (r ≡ q)
site_open_settled image a b = settled a b (Store.open_settled a.promise b.promise)

-- Image, reply and store.
pub site_offer_settled : (image : List ℕ) {f : ℕ} {packet store one two i j : List ℕ} {r q : HbReply} → SiteOfferGives image f packet store one i r
    → SiteOfferGives image f packet store two j q → ((i ≡ j) × (r ≡ q)) × (one ≡ two)
site_offer_settled image a b = let same = Store.offer_settled a.promise b.promise in (settled a b same.0, same.1)

-- Image, reply and outgoing buffer.
pub site_depart_settled : (image : List ℕ) {store out one two i j : List ℕ} {r q : HbReply} → SiteDepartGives image store out one i r → SiteDepartGives image store out two j q
    → ((i ≡ j) × (r ≡ q)) × (one ≡ two)
site_depart_settled image a b = let same = Store.depart_settled a.promise b.promise in (settled a b same.0, same.1)
