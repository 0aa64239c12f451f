-- Burst, departure by departure: what is written so far and what the rest of the departures will write make up all of them.
use Prim.Native.Nat.{ℕ, suc, ◌+◌, ◌-◌, ◌≤◌, ◌<◌}
use mathlib.Core.Path.{◌≡◌, refl, sym, ap, ap₂, ◌∙◌, subst}
use mathlib.Core.List.{List, [], ◌∷◌, ◌++◌, append-nil}
use native.Mathlib.Omega.{arith}
use native.Mathlib.Numerals.{add-one}
use lib.ListN.{length, set, take, drop, length-set, length-map, take-append-drop}
use lib.Seq.{take-suc-set, drop-set-lt, length-take-le, drop-drop, append_snoc}
use mathlib.Core.Bool.{Bool, cond}
use borrow.Author.Tests.{lt-ltb, le-ltb}
use Rattle.std.specs.Prelude.{Ok, Err}
use Rattle.model.specs.Model.{Scheduler}
use Rattle.model.specs.Calls.{Departures, Burst, departed, departures, and_then, flow_numbers, burst, burst_made}
use Rattle.model.specs.declared.Outcome.{Outcome}
use Rattle.model.specs.declared.Refusal.TheVariants.{ListShort}
use Rattle.model.specs.declared.Reply.{Reply}
use Rattle.model.specs.declared.Reply.TheVariants.{Departure, Idle, Refused}
use Rattle.model.specs.declared.Sent.{Sent}
use Rattle.model.proofs.Keeps.{departed_keeps}
use Rattle.order.specs.Encoding.{encode, view, Sound}
use Rattle.order.specs.Promised.{counted_as, departed_as, DepartGives, BurstGives}
use Rattle.order.specs.State.{State}
use Rattle.order.specs.declared.Departed.{Departed}
use Rattle.order.proofs.StateLaws.{seen_as, sound_of}

-- After `made` departures, with the state c and the list as they then are.
pub record Underway (s : Scheduler) (n : ℕ) (before : List ℕ) (c : State) (made : ℕ) (list : List ℕ) : Type 0 where
  pub not_too_many : made ≤ n
  pub list_fits : n ≤ length before
  pub same_length : length list ≡ length before
  pub sound : Sound c
  pub same_end : (departures n s).state ≡ (departures (n - made) (view c)).state
  pub same_numbers : flow_numbers (departures n s).sent ≡ take made list ++ flow_numbers (departures (n - made) (view c)).sent
  pub rest_unchanged : drop made list ≡ drop made before

pub underway_first : (c : State) (n : ℕ) (list : List ℕ) → Sound c → n ≤ length list → Underway (view c) n list c 0 list
underway_first c n list S h =
    record {
      not_too_many = omega arith;
      list_fits = h;
      same_length = refl;
      sound = S;
      same_end = ap (λ (k : ℕ). (departures k (view c)).state) all;
      same_numbers = ap (λ (k : ℕ). flow_numbers (departures k (view c)).sent) all;
      rest_unchanged = refl;
    }
  where
    all : n ≡ n - 0
    all = omega arith

-- The first of more departures, by its reply.
departures_first : (k : ℕ) (s : Scheduler) → departures (suc k) s ≡ and_then (departed s).reply (departed s).state (departures k (departed s).state)
unfolding departures
departures_first k s = refl

module _ (s : Scheduler) (n : ℕ) (before : List ℕ) (c : State) (made : ℕ) (list : List ℕ) (U : Underway s n before c made list) where
  after_sound : Sound (encode (departed (view c)).state)
  after_sound = sound_of (departed (view c)).state (departed_keeps (view c) U.sound.rules)

  one_more_made : (c' : State) (d : Sent) → made < n → c' ≡ encode (departed (view c)).state → (departed (view c)).reply ≡ Departure d
      → Underway s n before c' (made + 1) (set list made d.flow)
  unfolding and_then
  one_more_made c' d h e reply =
      record {
        not_too_many = omega arith;
        list_fits = U.list_fits;
        same_length = length-set list made d.flow ∙ U.same_length;
        sound = subst Sound (sym e) after_sound;
        same_end = U.same_end ∙ ap (λ (k : Departures). k.state) split;
        same_numbers =
            U.same_numbers
            ∙ ap (λ (k : Departures). take made list ++ flow_numbers k.sent) split
            ∙ sym (append_snoc (take made list) d.flow (flow_numbers (departures (n - (made + 1)) (view c')).sent))
            ∙ ap (λ (l : List ℕ). l ++ flow_numbers (departures (n - (made + 1)) (view c')).sent) (sym written);
        rest_unchanged =
            drop-set-lt (made + 1) list made d.flow (omega arith)
            ∙ sym (drop-drop 1 made list)
            ∙ ap (drop 1) U.rest_unchanged
            ∙ drop-drop 1 made before;
      }
    where
      one : n - made ≡ suc (n - (made + 1))
      one = omega arith

      split : departures (n - made) (view c) ≡ record { state = (departures (n - (made + 1)) (view c')).state; sent = d ∷ (departures (n - (made + 1)) (view c')).sent }
      split =
          ap (λ (k : ℕ). departures k (view c)) one
          ∙ departures_first (n - (made + 1)) (view c)
          ∙ ap (λ (r : Reply). and_then r (departed (view c)).state (departures (n - (made + 1)) (departed (view c)).state)) reply
          ∙ ap (λ (t : Scheduler). record { state = (departures (n - (made + 1)) t).state; sent = d ∷ (departures (n - (made + 1)) t).sent }) (sym (seen_as (departed_keeps (view c) U.sound.rules) e))

      written : take (made + 1) (set list made d.flow) ≡ take made list ++ (d.flow ∷ [])
      written = ap (λ (k : ℕ). take k (set list made d.flow)) (add-one made) ∙ take-suc-set list made d.flow (omega (arith, U.list_fits, U.same_length))

  -- Where nothing more will leave, the list has what was written, and the rest is as it was.
  module _ (c' : State) (S : Sound c') (end : c' ≡ encode (departures (n - made) (view c)).state) (none : (departures (n - made) (view c)).sent ≡ []) where
    all_written : flow_numbers (departures n s).sent ≡ take made list
    all_written = U.same_numbers ∙ ap (λ (l : List Sent). take made list ++ flow_numbers l) none ∙ append-nil (take made list)

    how_many : length (departures n s).sent ≡ made
    how_many =
        sym (length-map (departures n s).sent (λ (d : Sent). d.flow))
        ∙ ap length all_written
        ∙ length-take-le made list (omega (arith, U.list_fits, U.same_length, U.not_too_many))

    burst_ends : (c₀ : State) → view c₀ ≡ s → BurstGives c₀ n before list (record { state = c'; reply = Ok made })
    unfolding counted_as burst burst_made
    burst_ends c₀ same =
        record {
          outcome =
              ap₂ (λ (t : State) (k : ℕ). record { state = t; reply = Ok k }) (end ∙ ap encode (sym U.same_end)) (sym how_many)
              ∙ ap counted_as (sym made_here);
          written =
              sym (take-append-drop made list)
              ∙ ap₂ (λ (a b : List ℕ). a ++ b) (sym all_written) (U.rest_unchanged ∙ ap (λ (k : ℕ). drop k before) (sym how_many))
              ∙ ap (λ (b : Burst). b.list) (sym made_here);
          sound = S;
        }
      where
        made_here : burst (view c₀) n before ≡ burst_made before (departures n s)
        made_here =
            ap (λ (t : Scheduler). burst t n before) same
            ∙ ap (λ (short : Bool). cond short (record { state = s; list = before; reply = Err ListShort }) (burst_made before (departures n s)))
            (le-ltb (length before) n U.list_fits)

  pub all_made : n ≤ made → (c₀ : State) → view c₀ ≡ s → BurstGives c₀ n before list (record { state = c; reply = Ok n })
  unfolding departures
  all_made h c₀ same =
      subst (λ (k : ℕ). BurstGives c₀ n before list (record { state = c; reply = Ok k })) (omega (arith, U.not_too_many))
      (burst_ends c U.sound
      (U.sound.form ∙ ap (λ (k : ℕ). encode (departures k (view c)).state) (sym nothing_left))
      (ap (λ (k : ℕ). (departures k (view c)).sent) nothing_left) c₀ same)
    where
      nothing_left : n - made ≡ 0
      nothing_left = omega (arith, U.not_too_many)

-- No departure leaves by this reply.
abbrev pub NoDeparture : Reply → Type 0
NoDeparture r = (d : Sent) → r ≡ Departure d → ⊥

-- A reply by which no departure leaves ends the burst.
pub no_departure_ends : (r : Reply) → NoDeparture r → (s : Scheduler) (more : Departures)
    → and_then r s more ≡ record { state = s; sent = [] }
unfolding and_then
no_departure_ends (Departure d) k s more = absurd (k d refl)
no_departure_ends Idle k s more = refl
no_departure_ends (Refused n) k s more = refl

module _ (s : Scheduler) (n : ℕ) (before : List ℕ) (c : State) (made : ℕ) (list : List ℕ) (U : Underway s n before c made list) where
  stopped : (c' : State) (r : Reply) → made < n → c' ≡ encode (departed (view c)).state → (departed (view c)).reply ≡ r
      → NoDeparture r → (c₀ : State) → view c₀ ≡ s → BurstGives c₀ n before list (record { state = c'; reply = Ok made })
  stopped c' r h e reply kind =
      burst_ends s n before c made list U c'
      (subst Sound (sym e) (sound_of (departed (view c)).state (departed_keeps (view c) U.sound.rules)))
      (e ∙ ap (λ (k : Departures). encode k.state) (sym split))
      (ap (λ (k : Departures). k.sent) split)
    where
      one : n - made ≡ suc (n - (made + 1))
      one = omega arith

      split : departures (n - made) (view c) ≡ record { state = (departed (view c)).state; sent = [] }
      split =
          ap (λ (k : ℕ). departures k (view c)) one
          ∙ departures_first (n - (made + 1)) (view c)
          ∙ ap (λ (d : Reply). and_then d (departed (view c)).state (departures (n - (made + 1)) (departed (view c)).state)) reply
          ∙ no_departure_ends r kind (departed (view c)).state (departures (n - (made + 1)) (departed (view c)).state)

-- The same of what a departure call gives.
module _ (s : Scheduler) (n : ℕ) (before : List ℕ) (c : State) (made : ℕ) (list : List ℕ) (U : Underway s n before c made list) (more : made < n)
    (r : Outcome State Departed) (g : DepartGives c r) where
  pub departure_made : (d : Sent) → r.reply.reply ≡ Departure d → Underway s n before r.state (made + 1) (set list made d.flow)
  unfolding departed_as
  departure_made d e =
      one_more_made s n before c made list U r.state d more (ap (λ (k : Outcome State Departed). k.state) g.outcome)
      (sym (ap (λ (k : Outcome State Departed). k.reply.reply) g.outcome) ∙ e)

  pub departure_stops : NoDeparture r.reply.reply → (c₀ : State) → view c₀ ≡ s
      → BurstGives c₀ n before list (record { state = r.state; reply = Ok made })
  unfolding departed_as
  departure_stops kind =
      stopped s n before c made list U r.state r.reply.reply more (ap (λ (k : Outcome State Departed). k.state) g.outcome)
      (sym (ap (λ (k : Outcome State Departed). k.reply.reply) g.outcome)) kind

-- A list that is too short is refused, and nothing changes.
pub burst_refused : (c : State) (n : ℕ) (list : List ℕ) → Sound c → length list < n → BurstGives c n list list (record { state = c; reply = Err ListShort })
unfolding counted_as burst
burst_refused c n list S h =
    record {
      outcome = ap (λ (t : State). record { state = t; reply = Err ListShort }) S.form ∙ ap counted_as (sym refused_here);
      written = ap (λ (b : Burst). b.list) (sym refused_here);
      sound = S;
    }
  where
    refused_here : burst (view c) n list ≡ record { state = view c; list = list; reply = Err ListShort }
    refused_here =
        ap (λ (short : Bool). cond short (record { state = view c; list = list; reply = Err ListShort }) (burst_made list (departures n (view c))))
        (lt-ltb (length list) n h)
