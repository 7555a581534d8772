-- What the lists of a store hold for each name and each test.
use Rattle.std.specs.Prelude.{ℕ, Bool, true, false, List, [], ◌∷◌, map, slice_index_or}
use Rattle.std.specs.Option.{option_map_or}
use Rattle.tb_span.specs.declared.item.Item.{Item}
use Rattle.tb_tree.specs.NameTables.{place_of}
use Rattle.tb_tree.specs.declared.node_test.Test.{Test}
use Rattle.tb_tree.specs.declared.node_test.Test.TheVariants.{Name, AnyElement, AttrName, AnyAttr, AnyText}
use Rattle.tb_label.specs.declared.lists.Names.{Names}
use Rattle.tb_label.specs.declared.lists.Lists.{Lists}

-- the items of the name with that number
abbrev pub items_at : Names → ℕ → List Item
items_at names number = slice_index_or (map (λ list. list.items) names.lists.items) number []

abbrev pub in_names : Names → List ℕ → List Item
in_names lists name = option_map_or (items_at lists) (place_of name lists.names) []

abbrev pub in_lists : Lists → Test → List Item
in_lists lists (Name name) = in_names lists.elements name
in_lists lists AnyElement = lists.all_elements.items
in_lists lists (AttrName name) = in_names lists.attributes name
in_lists lists AnyAttr = lists.all_attributes.items
in_lists lists AnyText = lists.texts.items

abbrev pub one_if : Bool → Item → List Item
one_if true item = item ∷ []
one_if false item = []
