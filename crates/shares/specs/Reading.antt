-- What the contracts of the code that reads a log cite.
use Rattle.std.specs.Prelude.{ℕ, ◌+◌, ◌^◌, ◌≤◌, max, List, ◌≡◌, length}
use Rattle.model.specs.declared.Sent.{Sent}
use Rattle.play.specs.Log.{log_of, InRange}
use Rattle.shares.specs.Share.{shares_of}
use Rattle.shares.specs.declared.Share.{Share}
use Rattle.shares.specs.declared.Shares.{Shares}

-- a share with one packet more
unfoldable pub with_packet : Share → ℕ → Share
with_packet s size = record { packets = s.packets + 1; bytes = s.bytes + size; largest = max s.largest size }

-- A log is one of departures, and the shares are those of departures, all of them in range and together so few that no sum overflows.
pub record Readable (s : Shares) (log : List ℕ) : Type 0 where
  pub before : List Sent
  pub more : List Sent
  pub shares_is : s ≡ shares_of before
  pub log_is : log ≡ log_of more
  pub before_in_range : InRange before
  pub more_in_range : InRange more
  pub few : length before + length more ≤ 2 ^ 32
