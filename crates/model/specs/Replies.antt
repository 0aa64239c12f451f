-- Document 01's number and values for each case of each answer: the refusal's number, 0 where nothing is refused, and the values told.
-- A departure tells flow, size, mark and allowance; idle and done tell nothing; burst tells how many departures it made.
use Rattle.std.specs.Prelude.{ℕ, List, [], ◌∷◌, Result, Ok, Err}
use Rattle.model.specs.declared.Sent.{Sent}
use Rattle.model.specs.declared.Reply.{Reply}
use Rattle.model.specs.declared.Reply.TheVariants.{Departure, Idle, Refused}
use Rattle.model.specs.declared.Refusal.{Refusal}
use Rattle.model.specs.declared.Refusal.TheVariants.{NoSuchFlow, BadWeight, OpenAlready, NotOpen, BadSize, QueueFull, OutShort, StoreWrong, ListShort}

abbrev pub number_of : Refusal → ℕ
number_of NoSuchFlow = 1
number_of BadWeight = 2
number_of OpenAlready = 3
number_of NotOpen = 4
number_of BadSize = 5
number_of QueueFull = 6
number_of OutShort = 7
number_of StoreWrong = 8
number_of ListShort = 9

-- What open and offer reply with: done, or a refusal. What burst replies with: how many departures it made, or a refusal.
abbrev pub Answer : Type 0
Answer = Result (Unit {0}) Refusal

abbrev pub Count : Type 0
Count = Result ℕ Refusal

pub record Said : Type 0 where
  pub refusal : ℕ
  pub values : List ℕ

abbrev pub refused : ℕ → Said
refused n = record { refusal = n; values = [] }

abbrev pub told : List ℕ → Said
told values = record { refusal = 0; values = values }

abbrev pub of_reply : Reply → Said
of_reply (Departure d) = told (d.flow ∷ d.size ∷ d.mark ∷ d.allowance ∷ [])
of_reply Idle = told []
of_reply (Refused r) = refused (number_of r)

abbrev pub of_answer : {T : Type 0} → Result T Refusal → Said
of_answer (Ok done) = told []
of_answer (Err r) = refused (number_of r)

abbrev pub of_count : Count → Said
of_count (Ok n) = told (n ∷ [])
of_count (Err r) = refused (number_of r)

-- The departure that a reply tells of, if it does.
abbrev pub sent_by : Reply → List Sent
sent_by (Departure d) = d ∷ []
sent_by Idle = []
sent_by (Refused r) = []

-- What is offered, where the answer accepts it.
abbrev pub taken_by : {T A : Type 0} → Result T Refusal → A → List A
taken_by (Ok done) packet = packet ∷ []
taken_by (Err r) packet = []

-- What a burst makes, where it is not refused.
abbrev pub made_by : {A : Type 0} → Count → List A → List A
made_by (Ok n) l = l
made_by (Err r) l = []
