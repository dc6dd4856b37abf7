-- The relation apart, read off its flags: symmetric, and never of a part with itself.
use Rattle.std.specs.Prelude.{ℕ, min, max, Bool, false, List, [], ◌==◌, nat_lt, slice_index_or, if◌then◌else◌}

-- Two different numbers below 64 are apart when the flag in the row of the lower and the column of the higher says so.
abbrev pub apart_at : List (List Bool) → ℕ → ℕ → Bool
apart_at flags a b =
    if a == b then false else (if nat_lt (max a b) 64 then slice_index_or (slice_index_or flags (min a b) []) (max a b) false else false)
