-- Document 01's bench rows P1 to P10, and beside them rows for what these leave open. A, B and C catch what P7 does not: a flow put in line twice, a flow
-- that joins the running round, a turn that ends only above its allowance. D: a burst asked for more than waits, and what it leaves of its list. E: a list
-- too short, one byte or all of it, and one just long enough. F: two refusals that apply at once. G: document 01's table of numbers. H: a new scheduler.
use Prim.Native.Nat.{ℕ, ◌+◌}
use mathlib.Core.List.{List, [], ◌∷◌, ◌++◌, map}
use lib.ListN.{length, replicate}
use Rattle.model.specs.Limits.{flow_limit, weight_limit, size_limit, queue_limit, mark_limit, allowance_limit}
use Rattle.model.specs.Model.{Flow, Scheduler, new_scheduler}
use Rattle.model.specs.Steps.{allowance, raised}
use Rattle.model.specs.Replies.{Said, told, refused}
use Rattle.model.specs.OrderCalls.{Call, resetting, opening, offering, departing, bursting, does}

-- A call with what it says and the list that it gives back.
pub record Exchange : Type 0 where
  pub call : Call
  pub says : Said
  pub list : List ℕ

-- A row: calls from a new scheduler; or a running mark, weight, allowance and bytes sent with the running mark they give; or a weight, mark and
-- surplus with the allowance they give; or numbers of the definitions themselves: the limits, and those of a new scheduler.
pub data Row : Type 0 where
  talk : List Exchange → Row
  raises : ℕ → ℕ → ℕ → ℕ → ℕ → Row
  allows : ℕ → ℕ → ℕ → ℕ → Row
  limits : List ℕ → Row
  begins : List ℕ → Row

abbrev done : Call → Exchange
done c = record { call = c; says = told []; list = [] }

abbrev refuses : Call → ℕ → Exchange
refuses c n = record { call = c; says = refused n; list = [] }

abbrev leaves : ℕ → ℕ → ℕ → ℕ → Exchange
leaves flow size mark allowed = record { call = departing; says = told (flow ∷ size ∷ mark ∷ allowed ∷ []); list = [] }

abbrev idle : Exchange
idle = record { call = departing; says = told []; list = [] }

abbrev bursts : ℕ → List ℕ → Said → List ℕ → Exchange
bursts n before says after = record { call = bursting n before; says = says; list = after }

abbrev seven_begun : List Exchange
seven_begun =
    done (opening 0 1) ∷ done (opening 1 1)
    ∷ done (offering 0 100) ∷ done (offering 0 10) ∷ done (offering 1 20) ∷ done (offering 1 30) ∷ done (offering 1 60)
    ∷ leaves 0 100 0 1 ∷ leaves 1 20 0 1 ∷ leaves 0 10 99 1 ∷ leaves 1 30 99 81
    ∷ done (offering 1 5) ∷ []

unfoldable pub rows : List Row
rows =
    -- P1
    talk (done resetting ∷ idle ∷ [])
    -- P2
    ∷ talk (done (opening 31 16) ∷ refuses (opening 32 0) 1 ∷ refuses (opening 0 0) 2 ∷ refuses (opening 0 17) 2 ∷ [])
    -- P3
    ∷ talk (refuses (offering 0 0) 4 ∷ [])
    -- P4
    ∷ talk (done (opening 0 1) ∷ refuses (offering 0 0) 5 ∷ refuses (offering 0 257) 5 ∷ done (offering 0 1) ∷ done (offering 0 256) ∷ [])
    -- P5
    ∷ talk
    (done (opening 0 1) ∷ replicate 8 (done (offering 0 7)) ++ (refuses (offering 0 7) 6 ∷ leaves 0 7 0 1 ∷ done (offering 0 7) ∷ []))
    -- P6
    ∷ talk
    (done (opening 0 1) ∷ done (opening 1 2)
    ∷ done (offering 0 100) ∷ done (offering 0 50) ∷ done (offering 1 30) ∷ done (offering 1 200) ∷ done (offering 1 10)
    ∷ leaves 0 100 0 1 ∷ leaves 1 30 0 2 ∷ leaves 0 50 99 1 ∷ leaves 1 200 99 172 ∷ leaves 1 10 49 72 ∷ idle ∷ [])
    -- P7
    ∷ talk (seven_begun ++ (leaves 1 60 99 81 ∷ leaves 1 5 9 1 ∷ []))
    -- P8
    ∷ raises 0 2 10 15 3 ∷ raises 0 2 10 14 2 ∷ raises 0 2 10 10 0 ∷ raises 4 2 10 7 4
    -- P9
    ∷ allows 16 255 0 4096
    -- P10
    ∷ talk (bursts 0 [] (told (0 ∷ [])) [] ∷ [])
    -- A
    ∷ talk (seven_begun ++ (done (offering 0 7) ∷ leaves 1 60 99 81 ∷ leaves 0 7 9 10 ∷ leaves 1 5 9 1 ∷ []))
    -- B
    ∷ talk
    (done (opening 0 1) ∷ done (opening 1 1) ∷ done (opening 2 1)
    ∷ done (offering 0 2) ∷ done (offering 0 2) ∷ done (offering 1 2)
    ∷ leaves 0 2 0 1 ∷ done (offering 2 1) ∷ leaves 1 2 0 1 ∷ leaves 0 2 1 1 ∷ leaves 2 1 1 2 ∷ [])
    -- C
    ∷ talk
    (done (opening 0 1) ∷ done (opening 1 1) ∷ done (offering 0 1) ∷ done (offering 0 1) ∷ done (offering 1 1)
    ∷ leaves 0 1 0 1 ∷ leaves 1 1 0 1 ∷ leaves 0 1 0 1 ∷ [])
    -- D
    ∷ talk
    (done (opening 3 1) ∷ done (opening 5 1) ∷ done (offering 3 7) ∷ done (offering 5 7) ∷ done (offering 3 7)
    ∷ bursts 4 (9 ∷ 8 ∷ 7 ∷ 6 ∷ 4 ∷ []) (told (3 ∷ [])) (3 ∷ 5 ∷ 3 ∷ 6 ∷ 4 ∷ []) ∷ idle ∷ [])
    -- E
    ∷ talk
    (done (opening 3 1) ∷ done (offering 3 7) ∷ done (offering 3 7)
    ∷ bursts 2 (9 ∷ []) (refused 9) (9 ∷ []) ∷ bursts 1 [] (refused 9) [] ∷ bursts 2 (9 ∷ 8 ∷ []) (told (2 ∷ [])) (3 ∷ 3 ∷ []) ∷ [])
    -- F
    ∷ talk
    (done (opening 0 1) ∷ refuses (opening 0 0) 2 ∷ refuses (opening 0 17) 2 ∷ refuses (opening 0 1) 3
    ∷ refuses (offering 32 7) 1 ∷ refuses (offering 32 0) 1 ∷ refuses (offering 1 257) 4
    ∷ replicate 8 (done (offering 0 7)) ++ (refuses (offering 0 0) 5 ∷ refuses (offering 0 257) 5 ∷ refuses (offering 0 7) 6 ∷ []))
    -- G
    ∷ limits (32 ∷ 16 ∷ 256 ∷ 8 ∷ 255 ∷ 4096 ∷ [])
    -- H
    ∷ begins (0 ∷ 0 ∷ 0 ∷ 0 ∷ replicate 32 0)
    ∷ []

-- The same calls with what the model says to them, and the same numbers with what the model gives.
unfoldable pub answers : Scheduler → List Exchange → List Exchange
answers s [] = []
answers s (e ∷ more) =
    record { call = e.call; says = (does s e.call).seen.says; list = (does s e.call).seen.back } ∷ answers (does s e.call).state more

-- How many stand in line, the visits left, both marks, and of each flow its weight, surplus, slot and packets.
unfoldable pub numbers_of : Scheduler → List ℕ
numbers_of s =
    length s.round.line ∷ s.round.visits ∷ s.round.mark ∷ s.round.running
    ∷ map (λ (x : Flow). x.weight + x.surplus + x.slot + length x.queue) s.flows

unfoldable pub recomputed : Row → Row
recomputed (talk exchanges) = talk (answers new_scheduler exchanges)
recomputed (raises running weight allowed sent result) = raises running weight allowed sent (raised running weight allowed sent)
recomputed (allows weight mark surplus result) = allows weight mark surplus (allowance weight mark surplus)
recomputed (limits numbers) = limits (flow_limit ∷ weight_limit ∷ size_limit ∷ queue_limit ∷ mark_limit ∷ allowance_limit ∷ [])
recomputed (begins numbers) = begins (numbers_of new_scheduler)
