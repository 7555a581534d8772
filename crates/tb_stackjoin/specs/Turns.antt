-- How many ancestors a join looks at, and how many labels it may compare.
use Rattle.std.specs.Prelude.{ℕ, ◌+◌, ◌-◌, ◌*◌, Bool, nat_lt, cond, List, length, count_by, drop}
use Rattle.tb_span.specs.Seeds.{label_at, Range}
use Rattle.tb_span.specs.declared.item.Item.{Item}

-- whether an item starts before the point
abbrev pub starts_before : ℕ → Item → Bool
starts_before point x = nat_lt x.label.start point

-- how many items of `a`, from place `from` on, start before the last descendant of the range
abbrev pub turns : List Item → List Item → ℕ → Range → ℕ
turns a d from r = cond (nat_lt r.lo r.hi) (count_by (starts_before (label_at d (r.hi - 1)).start) (drop from a)) 0

-- Six comparisons for each of these and each place of the seed, and four for each descendant, at most.
abbrev pub most_steps : List Item → List Item → List ℕ → ℕ → Range → ℕ
most_steps a d seed from r = 6 * (turns a d from r + length seed) + 4 * (r.hi - r.lo)
