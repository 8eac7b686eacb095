-- The numbers that a seed draws: a linear congruence of 32 bits, of which higher bits are taken (Knuth, The Art of
-- Computer Programming, volume 2, section 3.2.1).
use Rattle.std.specs.Prelude.{ℕ, zero, suc, ◌+◌, ◌*◌, ◌/◌, ◌%◌, ◌^◌}

-- the state after one draw more
abbrev pub next_state : ℕ → ℕ
next_state state = (state * 1103515245 + 12345) % 2 ^ 32

-- what is drawn in a state: its bits from the 16th on, 15 of them, by 41
abbrev pub drawn : ℕ → ℕ
drawn state = (state / 65536 % 32768) % 41

-- the state after a number of draws
abbrev pub state_after : ℕ → ℕ → ℕ
state_after seed zero = seed
state_after seed (suc k) = next_state (state_after seed k)

-- the k-th draw, from 1
abbrev pub draw : ℕ → ℕ → ℕ
draw seed k = drawn (state_after seed k)
