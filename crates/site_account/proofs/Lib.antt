-- Demand 3 over store calls, proved. Theorems has the statements, Reached their numbers on one stretch, Slots the slots that packets take.
--
-- A stretch of store calls goes beside the order layer's stretch of the same offers and departures (Beside): states are the same, and of each packet
-- that leaves as many bytes are copied as the reply tells. The numbers of demand 3 are made of flows and lengths alone (Packets), so both stretches
-- have the same numbers (Agreement), and what is proved of the order layer's stretches holds of the bytes that leave.
pub mod Packets
pub mod Beside
pub mod Agreement
pub mod Theorems
pub mod Slots
pub mod Reached
