-- What is proved of the store layer. A reader of promises looks at Settled (no second outcome meets a contract), Unchanged (refusals and idle), Kept
-- (demand 2 on bytes, over the definitions' chains), Rows (its refusals, alone and two at once), Blind (stored bytes do not choose) and, in SlotLaws, that
-- slots are apart.
pub mod Rows
pub mod Settled
pub mod Unchanged
pub mod Kept
-- Follows: each call of the code does what the definitions' call does. OnSizes: a chain of store calls is a chain of the order layer's on the scheduler,
-- so what is proved of those holds of it.
pub mod Follows
pub mod OnSizes
pub mod Blind
-- What these and the function files rest on: Copying (the loop that copies), SlotLaws (where bytes lie), CallLaws (the store calls case by case),
-- SiteLaws (from the order layer's calls to a site's), Lending (how much of the store is lent), WaitingLaws and Balances (the bytes that wait, call by
-- call).
pub mod Copying
pub mod SlotLaws
pub mod CallLaws
pub mod SiteLaws
pub mod Lending
pub mod WaitingLaws
pub mod Balances
