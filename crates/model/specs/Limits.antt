-- The numbers of document 01's table, each named once.
use Rattle.std.specs.Prelude.{ℕ, ◌*◌, ◌-◌}

-- flow numbers are 0 to 31
abbrev pub flow_limit : ℕ
flow_limit = 32

-- weights are 1 to 16
abbrev pub weight_limit : ℕ
weight_limit = 16

-- packet sizes are 1 to 256
abbrev pub size_limit : ℕ
size_limit = 256

-- at most 8 packets of a flow wait, each in a slot of its own
abbrev pub queue_limit : ℕ
queue_limit = 8

-- a surplus and a mark are at most 255
abbrev pub mark_limit : ℕ
mark_limit = size_limit - 1

-- an allowance is at most 4,096
abbrev pub allowance_limit : ℕ
allowance_limit = weight_limit * size_limit
