-- What each mark leaves to choose, from the links of a node.
use Rattle.std.proofs.Common.{◌≡◌, ℕ, Bool, not, nat_eq, List, [], ◌∷◌, ◌++◌, Some, length, map, refl, sym, ap, ap₂, ◌∙◌, arith}
use Rattle.std.proofs.lemmas.Bool.{eq-eqb, ne_eqb}
use Rattle.tb_pattern.specs.declared.pattern.Mark.{Mark}
use Rattle.tb_pattern.specs.declared.pattern.Mark.TheVariants as mark
use Rattle.tb_twig.specs.Links.{leading_from, run}
use Rattle.tb_twig.specs.declared.link.Link.{Link}
use Rattle.tb_engine.specs.Choices.{Choice, blanks, taken, choices}

pub choice-one : (m : Mark) (above : Choice) (n : ℕ) (ls found : List Link) → m ≡ mark.One → above ≡ Some n → found ≡ leading_from n ls
    → map Some (map (λ l. l.below) found) ≡ choices m (run ls) above
choice-one m above n ls found m_is above_is found_is =
    ap (λ (fs : List Link). map Some (map (λ (l : Link). l.below) fs)) found_is ∙ sym (ap₂ (λ k a. choices k (run ls) a) m_is above_is)

optional : (found : List Link) (b : Bool) → b ≡ nat_eq (length found) 0 → blanks b ++ map Some (map (λ l. l.below) found) ≡ taken mark.Optional (map (λ l. l.below) found)
optional [] b is = ap (λ c. blanks c ++ []) (is ∙ eq-eqb 0 0 refl)
optional (f ∷ fs) b is = ap (λ c. blanks c ++ map Some (map (λ (l : Link). l.below) (f ∷ fs))) (is ∙ ne_eqb (length (f ∷ fs)) 0 (λ g. omega (arith, g)))

pub choice-optional : (m : Mark) (above : Choice) (n : ℕ) (ls found : List Link) (b : Bool) → m ≡ mark.Optional → above ≡ Some n → found ≡ leading_from n ls → b ≡ nat_eq (length found) 0
    → blanks b ++ map Some (map (λ l. l.below) found) ≡ choices m (run ls) above
choice-optional m above n ls found b m_is above_is found_is is =
    optional found b is ∙ ap (λ (fs : List Link). taken mark.Optional (map (λ (l : Link). l.below) fs)) found_is ∙ sym (ap₂ (λ k a. choices k (run ls) a) m_is above_is)

some : (found : List Link) (b : Bool) → b ≡ nat_eq (length found) 0 → blanks (not b) ++ [] ≡ taken mark.Some (map (λ l. l.below) found)
some [] b is = ap (λ c. blanks (not c) ++ []) (is ∙ eq-eqb 0 0 refl)
some (f ∷ fs) b is = ap (λ c. blanks (not c) ++ []) (is ∙ ne_eqb (length (f ∷ fs)) 0 (λ g. omega (arith, g)))

pub choice-some : (m : Mark) (above : Choice) (n : ℕ) (ls found : List Link) (b : Bool) → m ≡ mark.Some → above ≡ Some n → found ≡ leading_from n ls → b ≡ nat_eq (length found) 0
    → blanks (not b) ++ [] ≡ choices m (run ls) above
choice-some m above n ls found b m_is above_is found_is is =
    some found b is ∙ ap (λ (fs : List Link). taken mark.Some (map (λ (l : Link). l.below) fs)) found_is ∙ sym (ap₂ (λ k a. choices k (run ls) a) m_is above_is)
