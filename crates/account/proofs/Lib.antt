-- Demand 3, proved. Theorems has the statements, Reached their numbers on closed stretches (Reaching), Bursts that a burst is its single departures.
--
-- The argument speaks of a state as a circle of flows and of the few moves that calls are made of (Circle). Account: each move balances the account
-- of a flow that waits. Rounds: each round gives two flows that wait one turn each. Order: who of them stands first in the circle never changes.
-- Within: marks and surpluses stay smaller than the largest packet sent. Bound: so, in any one state, what two flows have on account and still to
-- come lies close. Pair: so their bytes do, over any moves.
--
-- Departure, CallMoves and Stretches show that every call, and every stretch of calls, is a number of such moves. The rules of one state are all that they
-- ask of the state that a stretch begins with.
pub mod Reaching
pub mod Reached
pub mod Circle
pub mod Sums
pub mod Account
pub mod Order
pub mod Rounds
pub mod Within
pub mod Bound
pub mod Pair
pub mod Departure
pub mod CallMoves
pub mod Stretches
pub mod Theorems
pub mod Bursts
