-- Every departure of a replay is of a flow below 32 and of at most 256 bytes.
--     departures_in_range   so a log of it can be read
use Prim.Native.Nat.{ℕ, zero, suc, ◌+◌}
use native.Mathlib.Decide.{dec_lt}
use native.Mathlib.Omega.{arith}
use mathlib.Core.List.{List, [], ◌∷◌, ◌++◌}
use mathlib.Core.Path.{◌≡◌, refl, sym, subst}
use lib.ListN.{length}
use Rattle.model.specs.Model.{Scheduler}
use Rattle.model.specs.Calls.{opened, offered, departed, and_then, departures}
use Rattle.model.specs.Rules.{Rules}
use Rattle.model.specs.declared.Reply.{Reply}
use Rattle.model.specs.declared.Reply.TheVariants.{Departure, Idle, Refused as ReplyRefused}
use Rattle.model.specs.declared.Sent.{Sent}
use Rattle.model.proofs.Keeps.{new_keeps, opened_keeps, offered_keeps, departed_keeps, departures_keep}
use Rattle.model.proofs.Told.{told_in_range}
use Rattle.lines.specs.declared.Event.{Event}
use Rattle.lines.specs.declared.Event.TheVariants.{Flow as FlowLine, Arrive, Send}
use Rattle.play.specs.Script.{Script, ended, spoiled, ◌then◌, script_of}
use Rattle.play.specs.Story.{Report, Replay, new_replay, answered, departing, sending, happening, story}
use Rattle.play.specs.Transcript.{input_limit}
use Rattle.play.specs.Log.{departures_in, departures_of, InRange}
use Rattle.play.proofs.LogLaws.{departures_append, departures_of_refusal, departures_of_sending}
use Rattle.play.proofs.PlayLaws.{too_long_reports, short_reports}

pub in_range_append : (a b : List Sent) → InRange a → InRange b → InRange (a ++ b)
unfolding InRange
in_range_append [] b h k = k
in_range_append (d ∷ a) b h k = (h.0, h.1, in_range_append a b h.2 k)

departures_are : (n : ℕ) (s : Scheduler) → Rules s → InRange (departures n s).sent
unfolding departures and_then InRange
departures_are zero s R = tt
departures_are (suc n) s R = by_reply (departed s).reply refl (departures_are n (departed s).state (departed_keeps s R))
  where
    after : Scheduler
    after = (departed s).state

    by_reply : (r : Reply) → (departed s).reply ≡ r → InRange (departures n after).sent → InRange (and_then r after (departures n after)).sent
    by_reply (Departure d) e more = let told = told_in_range s R d e in (told.flow_in_range, told.size_in_range, more)
    by_reply Idle e more = tt
    by_reply (ReplyRefused k) e more = tt

event_keeps : (r : Replay) (line : ℕ) (event : Event) → Rules r.scheduler → Rules (happening r line event).after.scheduler
unfolding happening answered sending departing
event_keeps r line (FlowLine flow weight) R = opened_keeps r.scheduler flow weight R
event_keeps r line (Arrive flow size) R = offered_keeps r.scheduler flow size R
event_keeps r line (Send count) R = departures_keep count r.scheduler R

nothing_departs : {l : List Sent} → l ≡ [] → InRange l
unfolding InRange
nothing_departs {l} e = subst InRange (sym e) tt

event_in_range : (r : Replay) (line : ℕ) (event : Event) → Rules r.scheduler → InRange (departures_in (happening r line event).reports)
unfolding happening answered
event_in_range r line (FlowLine flow weight) R = nothing_departs (departures_of_refusal (opened r.scheduler flow weight).reply line)
event_in_range r line (Arrive flow size) R = nothing_departs (departures_of_refusal (offered r.scheduler flow size).reply line)
event_in_range r line (Send count) R = subst InRange (sym (departures_of_sending r count)) (departures_are count r.scheduler R)

story_in_range : (r : Replay) (line : ℕ) (script : Script) → Rules r.scheduler → InRange (departures_in (story r line script))
unfolding story departures_in InRange
story_in_range r line ended R = tt
story_in_range r line spoiled R = tt
story_in_range r line (event then more) R =
    let further = story (happening r line event).after (line + 1) more in
    subst InRange (sym (departures_append (happening r line event).reports further))
    (in_range_append (departures_in (happening r line event).reports) (departures_in further) (event_in_range r line event R)
    (story_in_range (happening r line event).after (line + 1) more (event_keeps r line event R)))

pub departures_in_range : (input : List ℕ) → InRange (departures_of input)
unfolding departures_of departures_in InRange new_replay
departures_in_range input =
    elim (dec_lt input_limit (length input)) [
      | yes long ↦ subst (λ (l : List Report). InRange (departures_in l)) (sym (too_long_reports input long)) tt
      | no short ↦ subst (λ (l : List Report). InRange (departures_in l)) (sym (short_reports input (omega arith))) (story_in_range new_replay 1 (script_of input) new_keeps)
    ]
