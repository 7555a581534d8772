-- The lists of all tests grow by an item where a node meets them.
use Rattle.std.proofs.Common.{◌≡◌, ℕ, ◌<◌, ◌==◌, List, [], ◌∷◌, ◌++◌, length, get_or, sym, ap, ◌∙◌, append-nil}
use Rattle.std.specs.Option.{option_map_or}
use Rattle.std.specs.Str.{bytes_eq}
use Rattle.tb_span.specs.declared.item.Item.{Item}
use Rattle.tb_tree.specs.NameTables.{AreApart, place_of}
use Rattle.tb_tree.specs.declared.extent.Kind.TheVariants as kind
use Rattle.tb_tree.specs.declared.node_test.Test.{Test}
use Rattle.tb_tree.specs.declared.node_test.Test.TheVariants.{Name, AnyElement, AttrName, AnyAttr, AnyText}
use Rattle.tb_label.specs.declared.lists.Names.{Names}
use Rattle.tb_label.specs.declared.lists.Lists.{Lists}
use Rattle.tb_label.specs.Lists.{items_at, in_names, in_lists, one_if}
use Rattle.tb_label.specs.Picked.{is_wanted}
use Rattle.tb_label.proofs.NamesLaws.{names-seen}

in_names-more : (old new : Names) (n : ℕ) (item : Item) (q : List ℕ) → AreApart old.names → n < length old.names → new.names ≡ old.names
    → ((k : ℕ) → items_at new k ≡ items_at old k ++ one_if (k == n) item) → in_names new q ≡ in_names old q ++ one_if (bytes_eq q (get_or old.names n [])) item
in_names-more old new n item q apart less same grows =
    ap (λ names. option_map_or (items_at new) (place_of q names) []) same ∙ names-seen old.names n q (items_at old) (items_at new) item apart less grows

pub added-element : (old new : Lists) (n : ℕ) (item : Item) → AreApart old.elements.names → n < length old.elements.names → new.elements.names ≡ old.elements.names
    → ((k : ℕ) → items_at new.elements k ≡ items_at old.elements k ++ one_if (k == n) item) → new.all_elements.items ≡ old.all_elements.items ++ item ∷ []
    → new.attributes ≡ old.attributes → new.all_attributes ≡ old.all_attributes → new.texts ≡ old.texts
    → (t : Test) → in_lists new t ≡ in_lists old t ++ one_if (is_wanted t kind.Element (get_or old.elements.names n [])) item
added-element old new n item apart less same grows all p q r (Name name) = in_names-more old.elements new.elements n item name apart less same grows
added-element old new n item apart less same grows all p q r AnyElement = all
added-element old new n item apart less same grows all p q r (AttrName name) = ap (λ x. in_names x name) p ∙ sym (append-nil (in_names old.attributes name))
added-element old new n item apart less same grows all p q r AnyAttr = ap (λ x. x.items) q ∙ sym (append-nil old.all_attributes.items)
added-element old new n item apart less same grows all p q r AnyText = ap (λ x. x.items) r ∙ sym (append-nil old.texts.items)

pub added-attribute : (old new : Lists) (n : ℕ) (item : Item) → AreApart old.attributes.names → n < length old.attributes.names → new.attributes.names ≡ old.attributes.names
    → ((k : ℕ) → items_at new.attributes k ≡ items_at old.attributes k ++ one_if (k == n) item) → new.all_attributes.items ≡ old.all_attributes.items ++ item ∷ []
    → new.elements ≡ old.elements → new.all_elements ≡ old.all_elements → new.texts ≡ old.texts
    → (t : Test) → in_lists new t ≡ in_lists old t ++ one_if (is_wanted t kind.Attribute (get_or old.attributes.names n [])) item
added-attribute old new n item apart less same grows all p q r (Name name) = ap (λ x. in_names x name) p ∙ sym (append-nil (in_names old.elements name))
added-attribute old new n item apart less same grows all p q r AnyElement = ap (λ x. x.items) q ∙ sym (append-nil old.all_elements.items)
added-attribute old new n item apart less same grows all p q r (AttrName name) = in_names-more old.attributes new.attributes n item name apart less same grows
added-attribute old new n item apart less same grows all p q r AnyAttr = all
added-attribute old new n item apart less same grows all p q r AnyText = ap (λ x. x.items) r ∙ sym (append-nil old.texts.items)
