-- What C reads as a reply: document 01's number and values, in the fields of one struct. What a reply's kind does not have is 0.
use Rattle.std.specs.Prelude.{ℕ, ◌<◌, [], ◌∷◌, cond, eqb, replicate, Result, Ok, Err}
use Rattle.model.specs.Replies.{Said, Count, number_of, refused, told}
use Rattle.model.specs.declared.Refusal.{Refusal}
use Rattle.model.specs.declared.Reply.{Reply}
use Rattle.model.specs.declared.Reply.TheVariants.{Departure, Idle, Refused}
use Rattle.steps.specs.declared.Place.{Place}
use Rattle.image.specs.declared.HbReply.{HbReply}
use Rattle.image.specs.declared.replies.Kind.{Kind}
use Rattle.image.specs.declared.replies.Kind.TheVariants as Is

-- A reply's kind is one of these.
abbrev pub done : ℕ
done = 0

abbrev pub departure : ℕ
departure = 1

abbrev pub idle : ℕ
idle = 2

abbrev pub refused_kind : ℕ
refused_kind = 3

abbrev pub count : ℕ
count = 4

abbrev pub number_of_kind : Kind → ℕ
number_of_kind Is.Done = done
number_of_kind Is.Departure = departure
number_of_kind Is.Idle = idle
number_of_kind Is.Refused = refused_kind
number_of_kind Is.Count = count

-- Document 01's number and values, as C reads them off a reply.
unfoldable pub heard : HbReply → Said
heard r =
    cond (eqb r.kind refused_kind) (refused r.refusal)
    (cond (eqb r.kind departure) (told (r.flow ∷ r.size ∷ r.mark ∷ r.allowance ∷ []))
    (cond (eqb r.kind count) (told (r.count ∷ [])) (told [])))

-- A reply in full, the packet's slot beside it.
abbrev pub reply : ℕ → ℕ → HbReply
reply kind refusal =
    record { kind = kind; refusal = refusal; flow = 0; size = 0; mark = 0; allowance = 0; count = 0; slot = 0; later = replicate 8 0 }

abbrev pub of_answer : {T : Type 0} → Result T Refusal → ℕ → HbReply
of_answer (Ok x) slot = record (reply done 0) { slot = slot }
of_answer (Err r) slot = reply refused_kind (number_of r)

-- An offer that is accepted tells the slot where its packet lies.
abbrev pub of_offer : Result Place Refusal → HbReply
of_offer (Ok place) = record (reply done 0) { slot = place.slot }
of_offer (Err r) = reply refused_kind (number_of r)

abbrev pub of_reply : Reply → ℕ → HbReply
of_reply (Departure d) slot =
    record (reply departure 0) { flow = d.flow; size = d.size; mark = d.mark; allowance = d.allowance; slot = slot }
of_reply Idle slot = reply idle 0
of_reply (Refused r) slot = reply refused_kind (number_of r)

abbrev pub of_count : Count → HbReply
of_count (Ok n) = record (reply count 0) { count = n }
of_count (Err r) = reply refused_kind (number_of r)

-- The number of a burst's departures has room in its field, and so has a packet's slot.
abbrev pub CountFits : Count → Type 0
CountFits (Ok n) = n < 65536
CountFits (Err r) = Unit

abbrev pub SlotFits : Result Place Refusal → Type 0
SlotFits (Ok place) = place.slot < 65536
SlotFits (Err r) = Unit
