-- Calls with every burst made one departure at a time give the same history, the same departures and the same turns, and whoever waits after every
-- call still does. So the account holds of turns that begin or end within a burst too.
use Prim.Native.Nat.{ℕ, zero, suc}
use mathlib.Core.Path.{◌≡◌, refl, sym, ap, ap₂, ◌∙◌, subst}
use mathlib.Core.List.{List, [], ◌∷◌, ◌++◌, append-nil, append_assoc}
use mathlib.Core.Bool.{Bool, true, false, cond}
use lib.Dec.{ltb}
use lib.ListN.{length, replicate}
use Rattle.std.specs.Prelude.{Err}
use Rattle.model.specs.Model.{Scheduler}
use Rattle.model.specs.Calls.{Burst, departed, departures, and_then, burst, burst_made}
use Rattle.model.specs.Replies.{sent_by, made_by}
use Rattle.model.specs.Chain.{Seen, Effect, moved, next, chain, over, seen_over}
use Rattle.model.specs.OrderCalls.{Call, Packet, resetting, opening, offering, departing, bursting, turn_then, turns_of, does, order_calls}
use Rattle.model.specs.declared.Sent.{Sent}
use Rattle.model.specs.declared.Refusal.TheVariants.{ListShort}
use Rattle.model.specs.declared.Reply.{Reply}
use Rattle.model.specs.declared.Reply.TheVariants.{Departure, Idle, Refused}
use Rattle.model.specs.declared.Serving.{Serving}
use Rattle.model.specs.declared.Serving.TheVariants.{NoTurn, Turn}
use Rattle.model.proofs.Chains.{OrderHistory, SendsNothing, Still, still_after, chain_append, over_append, single_calls_make_departures}
use Rattle.account.specs.Stretch.{left_over, Waiting, WaitingAfterEvery, sent_in, turns_in}
use Rattle.account.proofs.CallMoves.{waited_before_all}

-- ---- a burst, one departure at a time

-- A burst that is not refused is as many single departures: so a stretch may begin and end within one.
unfoldable pub singly : Call → List Call
singly resetting = resetting ∷ []
singly (opening f weight) = opening f weight ∷ []
singly (offering f size) = offering f size ∷ []
singly departing = departing ∷ []
singly (bursting n list) = cond (ltb (length list) n) [] (replicate n departing)

unfoldable pub one_by_one : List Call → List Call
one_by_one [] = []
one_by_one (c ∷ calls) = singly c ++ one_by_one calls

abbrev history_of : Scheduler → List Packet → List Sent → OrderHistory
history_of s accepted left = record { state = s; accepted = accepted; left = left }

-- What leaves from a history on, and the turns that are completed.
abbrev pub sent_from : OrderHistory → List Call → List Sent
sent_from h calls = sent_in order_calls h.state calls

abbrev pub turns_from : OrderHistory → List Call → List Sent
turns_from h calls = turns_in order_calls h.state calls

-- From h these calls give this history, these departures and these turns.
record Gives (h : OrderHistory) (calls : List Call) (end : OrderHistory) (sent turns : List Sent) : Type 0 where
  history_given : chain order_calls h calls ≡ end
  sent_given : sent_from h calls ≡ sent
  turns_given : turns_from h calls ≡ turns

abbrev Singles : ℕ → OrderHistory → Type 0
Singles n h =
    Gives h (replicate n departing) (history_of (departures n h.state).state h.accepted (h.left ++ (departures n h.state).sent))
    (departures n h.state).sent
    (turns_of n h.state)

-- After a first call that replied so, single calls give what the model's departures give.
module _ (n : ℕ) (t : Scheduler) (accepted : List Packet) (left : List Sent) where
  abbrev after_one : Reply → OrderHistory
  after_one reply = history_of t (accepted ++ []) (left ++ sent_by reply)

  record Following (reply : Reply) (turn : Serving) : Type 0 where
    then_sent : sent_by reply ++ sent_from (after_one reply) (replicate n departing) ≡ (and_then reply t (departures n t)).sent
    then_turns : turn_then reply turn [] ++ turns_from (after_one reply) (replicate n departing) ≡ turn_then reply turn (turns_of n t)

  following : (reply : Reply) (turn : Serving) → Singles n (after_one reply) → (SendsNothing reply → Still n t) → Following reply turn
  unfolding and_then turn_then
  following (Departure d) turn same still =
      record {
        then_sent = ap (λ (l : List Sent). d ∷ l) same.sent_given;
        then_turns = go turn;
      }
    where
      go : (turn : Serving) → turn_then (Departure d) turn [] ++ turns_from (after_one (Departure d)) (replicate n departing) ≡ turn_then (Departure d) turn (turns_of n t)
      go NoTurn = ap (λ (l : List Sent). d ∷ l) same.turns_given
      go (Turn f allowed sent) = same.turns_given
  following Idle turn same still =
      record {
        then_sent = same.sent_given ∙ (still tt).nothing_sent;
        then_turns = same.turns_given ∙ (still tt).no_turn_completed;
      }
  following (Refused k) turn same still =
      record {
        then_sent = same.sent_given ∙ (still tt).nothing_sent;
        then_turns = same.turns_given ∙ (still tt).no_turn_completed;
      }

departures_singly : (n : ℕ) (h : OrderHistory) → Singles n h
unfolding chain next moved does over left_over departures turns_of
departures_singly zero h = record { history_given = single_calls_make_departures zero h; sent_given = refl; turns_given = refl }
departures_singly (suc n) h =
    let all = following n (departed h.state).state h.accepted h.left (departed h.state).reply (departed h.state).state.round.turn
    (departures_singly n (next order_calls h departing)) (still_after n h.state) in
    record { history_given = single_calls_make_departures (suc n) h; sent_given = all.then_sent; turns_given = all.then_turns }

-- Who waits after a burst waits after each of its departures.
waits_singly : (n f : ℕ) (h : OrderHistory) → Waiting (departures n h.state).state f → WaitingAfterEvery order_calls f h.state (replicate n departing)
unfolding WaitingAfterEvery next moved does departures and_then
waits_singly zero f h w = tt
waits_singly (suc n) f h w = go (departed h.state).reply (still_after n h.state) w (waits_singly n f (next order_calls h departing))
  where
    t : Scheduler
    t = (departed h.state).state

    go : (reply : Reply) → (SendsNothing reply → Still n t) → Waiting (and_then reply t (departures n t)).state f
        → (Waiting (departures n t).state f → WaitingAfterEvery order_calls f (departed h.state).state (replicate n departing))
        → Waiting t f × WaitingAfterEvery order_calls f (departed h.state).state (replicate n departing)
    go (Departure d) still w more = (waited_before_all n t f w, more w)
    go Idle still w more = (w, more (subst (λ (s : Scheduler). Waiting s f) (sym (still tt).state_stays) w))
    go (Refused k) still w more = (w, more (subst (λ (s : Scheduler). Waiting s f) (sym (still tt).state_stays) w))

-- ---- calls one after the other

sent_parts : (a b : List (Seen Packet Sent)) → left_over (a ++ b) ≡ left_over a ++ left_over b
unfolding left_over
sent_parts [] b = refl
sent_parts (e ∷ a) b = ap (λ (l : List Sent). e.sends ++ l) (sent_parts a b) ∙ sym (append_assoc e.sends (left_over a) (left_over b))

pub sent_append : (h : OrderHistory) (a b : List Call) → sent_from h (a ++ b) ≡ sent_from h a ++ sent_from (chain order_calls h a) b
sent_append h a b =
    ap left_over (over_append order_calls (λ (e : Effect Scheduler Packet Sent). e.seen ∷ []) h a b)
    ∙ sent_parts (seen_over order_calls h.state a) (seen_over order_calls (chain order_calls h a).state b)

pub turns_append : (h : OrderHistory) (a b : List Call) → turns_from h (a ++ b) ≡ turns_from h a ++ turns_from (chain order_calls h a) b
turns_append h a b = over_append order_calls (λ (e : Effect Scheduler Packet Sent). e.completes) h a b

pub waiting_append : (f : ℕ) (h : OrderHistory) (a b : List Call)
    → WaitingAfterEvery order_calls f h.state a → WaitingAfterEvery order_calls f (chain order_calls h a).state b
    → WaitingAfterEvery order_calls f h.state (a ++ b)
unfolding chain next moved WaitingAfterEvery
waiting_append f h [] b u v = v
waiting_append f h (c ∷ a) b u v = (u.0, waiting_append f (next order_calls h c) a b u.1 v)

-- ---- every burst, one departure at a time

-- These calls give from h what others give, and whoever waits after every one of the others waits after every one of these.
pub record SameAs (h : OrderHistory) (calls others : List Call) : Type 0 where
  pub history_same : chain order_calls h calls ≡ chain order_calls h others
  pub sent_same : sent_from h calls ≡ sent_from h others
  pub turns_same : turns_from h calls ≡ turns_from h others
  pub waiting_same : (f : ℕ) → WaitingAfterEvery order_calls f h.state others → WaitingAfterEvery order_calls f h.state calls

same_as : (h : OrderHistory) (calls others : List Call) → Gives h calls (chain order_calls h others) (sent_from h others) (turns_from h others)
    → ((f : ℕ) → WaitingAfterEvery order_calls f h.state others → WaitingAfterEvery order_calls f h.state calls) → SameAs h calls others
same_as h calls others g w = record { history_same = g.history_given; sent_same = g.sent_given; turns_same = g.turns_given; waiting_same = w }

itself : (h : OrderHistory) (calls : List Call) → SameAs h calls calls
itself h calls = record { history_same = refl; sent_same = refl; turns_same = refl; waiting_same = λ f w. w }

burst_singly : (h : OrderHistory) (n : ℕ) (list : List ℕ) → SameAs h (cond (ltb (length list) n) [] (replicate n departing)) (bursting n list ∷ [])
unfolding chain next moved does over left_over burst burst_made WaitingAfterEvery
burst_singly h n list =
    same_as h _ (bursting n list ∷ []) (go (ltb (length list) n)) (still_waits (ltb (length list) n))
  where
    s : Scheduler
    s = h.state

    given : Bool → Burst
    given short = cond short (record { state = s; list = list; reply = Err ListShort }) (burst_made list (departures n s))

    go : (short : Bool)
        → Gives h (cond short [] (replicate n departing)) (history_of (given short).state (h.accepted ++ []) (h.left ++ made_by (given short).reply (departures n s).sent))
        (made_by (given short).reply (departures n s).sent ++ [])
        (made_by (given short).reply (turns_of n s) ++ [])
    go false =
        let singles = departures_singly n h in
        record {
          history_given = singles.history_given ∙ ap (λ (a : List Packet). history_of (departures n s).state a (h.left ++ (departures n s).sent)) (sym (append-nil h.accepted));
          sent_given = singles.sent_given ∙ sym (append-nil (departures n s).sent);
          turns_given = singles.turns_given ∙ sym (append-nil (turns_of n s));
        }
    go true =
        record { history_given = λ i. history_of s (sym (append-nil h.accepted) i) (sym (append-nil h.left) i); sent_given = refl; turns_given = refl }

    still_waits : (short : Bool) (f : ℕ) → Waiting (given short).state f × Unit {0} → WaitingAfterEvery order_calls f s (cond short [] (replicate n departing))
    still_waits false f w = waits_singly n f h w.0
    still_waits true f w = tt

call_singly : (h : OrderHistory) (c : Call) → SameAs h (singly c) (c ∷ [])
unfolding singly
call_singly h resetting = itself h (resetting ∷ [])
call_singly h (opening f weight) = itself h (opening f weight ∷ [])
call_singly h (offering f size) = itself h (offering f size ∷ [])
call_singly h departing = itself h (departing ∷ [])
call_singly h (bursting n list) = burst_singly h n list

first_then_rest : (h : OrderHistory) (c : Call) (calls more : List Call) → SameAs h (singly c) (c ∷ []) → SameAs (next order_calls h c) more calls
    → SameAs h (singly c ++ more) (c ∷ calls)
unfolding chain next moved over left_over WaitingAfterEvery
first_then_rest h c calls more one rest =
    record {
      history_same = chain_append order_calls h (singly c) more ∙ ap (λ (g : OrderHistory). chain order_calls g more) one.history_same ∙ rest.history_same;
      sent_same =
          sent_append h (singly c) more
          ∙ ap₂ (λ (a b : List Sent). a ++ b) (one.sent_same ∙ append-nil (does h.state c).seen.sends) (ap (λ (g : OrderHistory). sent_from g more) one.history_same ∙ rest.sent_same);
      turns_same =
          turns_append h (singly c) more
          ∙ ap₂ (λ (a b : List Sent). a ++ b) (one.turns_same ∙ append-nil (does h.state c).completes) (ap (λ (g : OrderHistory). turns_from g more) one.history_same ∙ rest.turns_same);
      waiting_same = λ f w.
          waiting_append f h (singly c) more (one.waiting_same f (w.0, tt))
          (subst (λ (g : OrderHistory). WaitingAfterEvery order_calls f g.state more) (sym one.history_same) (rest.waiting_same f w.1));
    }

-- Calls in which every burst is made one departure at a time give the same, so a stretch may begin and end within a burst.
pub one_by_one_same : (h : OrderHistory) (calls : List Call) → SameAs h (one_by_one calls) calls
unfolding one_by_one
one_by_one_same h [] = itself h []
one_by_one_same h (c ∷ calls) = first_then_rest h c calls (one_by_one calls) (call_singly h c) (one_by_one_same (next order_calls h c) calls)
