-- What the calls for firmware do, where they meet their contracts: the image that each leaves, and what its caller sees, by what C reads.
use Rattle.std.specs.Prelude.{ℕ, suc, List, [], ◌∷◌, ◌++◌, map, cond, take, eqb}
use Rattle.model.specs.Chain.{Seen, seen_reset, seen_asking, seen_departing}
use Rattle.model.specs.OrderCalls.{Call, resetting, opening, offering, departing, bursting}
use Rattle.model.specs.OrderCalls as Sizes
use Rattle.model.specs.declared.Sent.{Sent}
use Rattle.store.specs.StoreCalls.{StoreCall, WithStore, with_store, lent, back}
use Rattle.store.specs.StoreCalls as Bytes
use Rattle.image.specs.Replies.{heard, done, departure, count}
use Rattle.houghbreeze.specs.Promised.{ResetGives, OpenGives, OfferGives, DepartGives, BurstGives, SiteResetGives, SiteOpenGives, SiteOfferGives, SiteDepartGives}
use Rattle.image.specs.declared.HbReply.{HbReply}

-- The packet that is offered, where the reply's kind is done.
abbrev pub taken_if : {A : Type 0} → HbReply → A → List A
taken_if r packet = cond (eqb r.kind done) (packet ∷ []) []

-- The departure that a reply tells of, if it does; and those of a burst.
abbrev pub sent_told : HbReply → List Sent
sent_told r = cond (eqb r.kind departure) (record { flow = r.flow; size = r.size; mark = r.mark; allowance = r.allowance } ∷ []) []

abbrev pub made_told : {A : Type 0} → HbReply → List A → List A
made_told r sent = cond (eqb r.kind count) sent []

-- The departures that n single calls tell of.
pub data Singles : ℕ → List ℕ → List Sent → Type 0 where
  none : {i : List ℕ} → Singles 0 i []
  one_more : {n : ℕ} {i j : List ℕ} {r : HbReply} {sent : List Sent} → DepartGives i j r → Singles n j sent → Singles (suc n) i (sent_told r ++ sent)

-- On sizes.
pub data Does : List ℕ → Call → List ℕ → Seen Sizes.Packet Sent → Type 0 where
  resets : {i j : List ℕ} → ResetGives j → Does i resetting j seen_reset
  opens : {i j : List ℕ} {f weight : ℕ} {r : HbReply} → OpenGives i f weight j r → Does i (opening f weight) j (seen_asking (heard r) [])
  offers : {i j : List ℕ} {f size : ℕ} {r : HbReply} → OfferGives i f size j r
      → Does i (offering f size) j (seen_asking (heard r) (taken_if r (record { flow = f; size = size })))
  departs : {i j : List ℕ} {r : HbReply} → DepartGives i j r → Does i departing j (seen_departing (heard r) [] [] (sent_told r))
  bursts : {i j : List ℕ} {n : ℕ} {before list : List ℕ} {r : HbReply} {sent : List Sent} → BurstGives i n before list j r → Singles n i sent
      → Does i (bursting n before) j (seen_departing (heard r) before list (made_told r sent))

-- On bytes: the image of a site, with the store that goes with it.
pub data SiteDoes : WithStore (List ℕ) → StoreCall → WithStore (List ℕ) → Seen Bytes.Packet Bytes.Packet → Type 0 where
  resets : {s : WithStore (List ℕ)} {j : List ℕ} → SiteResetGives j → SiteDoes s Bytes.resetting (with_store j s.store) seen_reset
  opens : {s : WithStore (List ℕ)} {j : List ℕ} {f weight : ℕ} {r : HbReply} → SiteOpenGives s.keeper f weight j r
      → SiteDoes s (Bytes.opening f weight) (with_store j s.store) (seen_asking (heard r) [])
  offers : {s : WithStore (List ℕ)} {j : List ℕ} {f n : ℕ} {packet then : List ℕ} {r : HbReply} → SiteOfferGives s.keeper f packet (lent n s.store) then j r
      → SiteDoes s (Bytes.offering f packet n) (with_store j (back s.store n then)) (seen_asking (heard r) (taken_if r (record { flow = f; bytes = packet })))
  departs : {s : WithStore (List ℕ)} {j : List ℕ} {n : ℕ} {out then : List ℕ} {r : HbReply} → SiteDepartGives s.keeper (lent n s.store) out then j r
      → SiteDoes s (Bytes.departing n out) (with_store j s.store)
      (seen_departing (heard r) out then (map (λ (d : Sent). record { flow = d.flow; bytes = take d.size then }) (sent_told r)))
