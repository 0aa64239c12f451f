-- What departures amount to.
use Rattle.std.specs.Prelude.{ℕ, zero, suc, ◌+◌, max, cond, List, [], ◌∷◌, length, eqb}
use Rattle.model.specs.Limits.{flow_limit}
use Rattle.model.specs.declared.Sent.{Sent}
use Rattle.shares.specs.declared.Share.{Share}
use Rattle.shares.specs.declared.Shares.{Shares}

-- the departures of one flow
unfoldable pub of_flow : ℕ → List Sent → List Sent
of_flow f [] = []
of_flow f (d ∷ more) = cond (eqb d.flow f) (d ∷ of_flow f more) (of_flow f more)

-- the sum of their sizes
unfoldable pub bytes_of : List Sent → ℕ
bytes_of [] = 0
bytes_of (d ∷ more) = d.size + bytes_of more

-- the largest of their sizes; 0 where there is none
unfoldable pub largest_of : List Sent → ℕ
largest_of [] = 0
largest_of (d ∷ more) = max d.size (largest_of more)

unfoldable pub share_of : List Sent → Share
share_of departures = record { packets = length departures; bytes = bytes_of departures; largest = largest_of departures }

-- the shares of so many flows, from one on
unfoldable pub shares_from : ℕ → ℕ → List Sent → List Share
shares_from zero f departures = []
shares_from (suc n) f departures = share_of (of_flow f departures) ∷ shares_from n (suc f) departures

-- Each flow's share, flows rising from 0, and that of all departures.
unfoldable pub shares_of : List Sent → Shares
shares_of departures = record { flows = shares_from flow_limit 0 departures; total = share_of departures }
