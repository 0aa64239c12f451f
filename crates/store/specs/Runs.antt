-- What the calls on bytes do, where they meet their contracts: the site that each gives back, the store, and what its caller sees.
use Rattle.std.specs.Prelude.{ℕ, List, []}
use Rattle.model.specs.Replies.{Answer, of_answer, of_reply, taken_by}
use Rattle.model.specs.Chain.{Seen, seen_reset, seen_asking, seen_departing}
use Rattle.store.specs.Promised.{NewGives, OpenGives, OfferGives, DepartGives}
use Rattle.store.specs.StoreCalls.{StoreCall, resetting, opening, offering, departing, WithStore, with_store, lent, back, Packet, put_out}
use Rattle.store.specs.Site.{Site}
use Rattle.model.specs.declared.Outcome.{Outcome}
use Rattle.model.specs.declared.Reply.{Reply}

pub data Does : WithStore Site → StoreCall → WithStore Site → Seen Packet Packet → Type 0 where
  resets : {s : WithStore Site} {r : Site} → NewGives r → Does s resetting (with_store r s.store) seen_reset
  opens : {s : WithStore Site} {f weight : ℕ} {r : Outcome Site Answer} → OpenGives s.keeper f weight r
      → Does s (opening f weight) (with_store r.state s.store) (seen_asking (of_answer r.reply) [])
  offers : {s : WithStore Site} {f n : ℕ} {packet after : List ℕ} {r : Outcome Site Answer} → OfferGives s.keeper f packet (lent n s.store) after r
      → Does s (offering f packet n) (with_store r.state (back s.store n after))
      (seen_asking (of_answer r.reply) (taken_by r.reply (record { flow = f; bytes = packet })))
  departs : {s : WithStore Site} {n : ℕ} {out after : List ℕ} {r : Outcome Site Reply} → DepartGives s.keeper (lent n s.store) out after r
      → Does s (departing n out) (with_store r.state s.store) (seen_departing (of_reply r.reply) out after (put_out r.reply after))
