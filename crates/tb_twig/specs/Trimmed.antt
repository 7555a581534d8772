-- Links in vain: their lower node has no link of an edge below that asks for one.
use Rattle.std.specs.Prelude.{◌≡◌, ℕ, zero, suc, ◌-◌, ◌<◌, Bool, true, ◌&&◌, not, nat_eq, cond, List, [], length, filter, set, slice_index_or, All}
use Rattle.tb_span.specs.declared.item.Axis.TheVariants.{Child}
use Rattle.tb_pattern.specs.declared.pattern.Mark.TheVariants.{One}
use Rattle.tb_twig.specs.Narrowed.{leads_from, asks}
use Rattle.tb_twig.specs.declared.branch.Branch.{Branch}
use Rattle.tb_twig.specs.declared.link.Link.{Link}

-- what `laid_at` reads past the last edge
abbrev pub no_laid : Branch
no_laid = record { up = 0; axis = Child; mark = One }

-- edge f of those that are laid out
abbrev pub laid_at : List Branch → ℕ → Branch
laid_at laid f = slice_index_or laid f no_laid

-- the links whose lower node some link of another edge leads from
abbrev pub leading_on : List Link → List Link → List Link
leading_on others links = filter (λ link. leads_from others link.below) links

-- the edge asks something of the edge above it
abbrev pub asks_above : Branch → Bool
asks_above branch = asks branch.mark && not (nat_eq branch.up 0)

-- The links of the edge above edge f, without those in vain for it.
abbrev pub trim_step : List Branch → ℕ → List (List Link) → List (List Link)
trim_step laid f links =
    cond (asks_above (laid_at laid f))
    (set links ((laid_at laid f).up - 1) (leading_on (slice_index_or links f []) (slice_index_or links ((laid_at laid f).up - 1) [])))
    links

-- from the last of so many edges to the first
abbrev pub trimmed : List Branch → ℕ → List (List Link) → List (List Link)
trimmed laid zero links = links
trimmed laid (suc f) links = trimmed laid f (trim_step laid f links)

-- each link of the edge above edge f leads on by a link of edge f, where that asks for one
abbrev pub IsTrimmedAt : List Branch → List (List Link) → ℕ → Type 0
IsTrimmedAt laid links f =
    asks_above (laid_at laid f) ≡ true
    → All (λ link. leads_from (slice_index_or links f []) link.below ≡ true) (slice_index_or links ((laid_at laid f).up - 1) [])

-- no link is in vain
abbrev pub AreTrimmed : List Branch → List (List Link) → Type 0
AreTrimmed laid links = (f : ℕ) → f < length laid → IsTrimmedAt laid links f
