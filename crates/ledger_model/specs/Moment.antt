use Rattle.std.specs.Prelude.{ℕ, Bool, ◌<◌, ◌≤◌, ◌&&◌, nat_lt, nat_le}

-- The nanosecond at which moments begin: 2000-01-01T00:00:00Z, counted from 1970.
abbrev pub first_moment : ℕ
first_moment = 946_684_800_000_000_000

-- The first nanosecond after the last moment: 2100-01-01T00:00:00Z, counted from 1970.
abbrev pub moments_end : ℕ
moments_end = 4_102_444_800_000_000_000

-- A moment, as nanoseconds since 1970, is in the years 2000 to 2099.
abbrev pub IsMoment : ℕ → Type 0
IsMoment nanos = (first_moment ≤ nanos) × (nanos < moments_end)

-- Whether these nanoseconds are a moment.
abbrev pub is_moment : ℕ → Bool
is_moment nanos = nat_le first_moment nanos && nat_lt nanos moments_end
