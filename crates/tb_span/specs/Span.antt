-- Intervals of nodes in one document, and which node stands above which (Al-Khalifa and others, ICDE 2002).
use Rattle.std.specs.Prelude.{◌≡◌, ℕ, ◌+◌, ◌<◌}

-- what a contract sees of a label
pub record Span : Type 0 where
  pub start : ℕ
  pub end : ℕ
  pub level : ℕ

-- the label was made of these three numbers
abbrev pub HasNumbers : ℕ → ℕ → ℕ → Span → Type 0
HasNumbers start end level label = label ≡ record { start = start; end = end; level = level }

-- u's interval holds v's: u is an ancestor of v in their document
pub record Encloses (u v : Span) : Type 0 where
  pub starts_before : u.start < v.start
  pub ends_after : v.end < u.end

-- the parent is the ancestor one level above
pub record IsParent (u v : Span) : Type 0 where
  pub above : Encloses u v
  pub next_level : u.level + 1 ≡ v.level

-- u ends before v starts
abbrev pub IsBefore : Span → Span → Type 0
IsBefore u v = u.end < v.start

-- u holds v, which has the greater level
pub record IsAbove (u v : Span) : Type 0 where
  pub starts_before : u.start < v.start
  pub ends_after : v.end < u.end
  pub level : u.level < v.level

-- Two labels nest: they are the same, or one ends before the other starts, or one holds the other, which
-- then has the greater level.
pub data Nests (u v : Span) : Type 0 where
  same : u ≡ v → Nests u v
  before : IsBefore u v → Nests u v
  after : IsBefore v u → Nests u v
  above : IsAbove u v → Nests u v
  below : IsAbove v u → Nests u v
