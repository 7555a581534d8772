-- What a store of a document keeps.
use Rattle.std.specs.Prelude.{◌≡◌, ◌<◌, ◌^◌}
use Rattle.tb_span.specs.declared.item.Item.{Item}
use Rattle.tb_tree.specs.Plain.{Plain}
use Rattle.tb_tree.specs.Numbers.{count}
use Rattle.tb_tree.specs.declared.node_test.Test.{Test}
use Rattle.tb_label.specs.declared.lists.Lists.{Lists}
use Rattle.tb_label.specs.Lists.{in_lists}
use Rattle.tb_label.specs.Rows.{listed, document_label}

-- the document node with its label
abbrev pub document_item_of : Plain → Item
document_item_of root = record { label = document_label root; node = 0 }

pub record IsStore (root : Plain) (document : Item) (lists : Lists) : Type 0 where
  pub few : count root < 2 ^ 30
  pub document_is : document ≡ document_item_of root
  pub all_listed : (test : Test) → in_lists lists test ≡ listed test root
