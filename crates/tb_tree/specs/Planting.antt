-- A node that goes into a draft: what its parts make of what has been made, and that each may be put in.
use Rattle.std.specs.Prelude.{◌≡◌, ℕ, ◌+◌, ◌^◌, ◌<◌, ◌≤◌, true, false, List, [], length, Option, Some, None}
use Rattle.tb_tree.specs.Plain.{Plain, elem, attr, text, Plains, no_kids, kid, is_element}
use Rattle.tb_tree.specs.Printed.{attribute_line, start_line, end_line, escaped}
use Rattle.tb_tree.specs.Making.{Made, with_attribute, with_element, with_more_text, with_text_ended, with_element_ended, is_innermost}
use Rattle.tb_tree.specs.Drafts.{shown_text, IsInside, Shows}
use Rattle.tb_tree.specs.View.{plain_of}
use Rattle.tb_tree.specs.declared.draft.Draft.{Draft}
use Rattle.tb_tree.specs.declared.node.Node.{Node}

-- the attributes among the nodes wait
abbrev pub with_attributes : Made → Plains → Made
with_attributes m no_kids = m
with_attributes m (kid (elem name kids) rest) = with_attributes m rest
with_attributes m (kid (attr name value) rest) = with_attributes (with_attribute m name value) rest
with_attributes m (kid (text value) rest) = with_attributes m rest

-- the nodes but for the attributes are put in
abbrev pub with_content : Made → Plains → Made
with_content m no_kids = m
with_content m (kid (elem name kids) rest) =
    with_content
    (with_element_ended
    (with_text_ended (with_content (with_element (with_attributes m kids) name) kids)))
    rest
with_content m (kid (attr name value) rest) = with_content m rest
with_content m (kid (text value) rest) = with_content (with_more_text m value) rest

-- so many bytes more may be printed
abbrev pub Fits : Made → ℕ → Type 0
Fits m more = (length m.frames ≤ 512) × (length (shown_text m) + more < 2 ^ 32)

-- the attributes among the nodes may wait
abbrev pub MayWait : Made → Plains → Type 0
MayWait m no_kids = Unit {0}
MayWait m (kid (elem name kids) rest) = MayWait m rest
MayWait m (kid (attr name value) rest) =
    Fits m (length (attribute_line name value)) × MayWait (with_attribute m name value) rest
MayWait m (kid (text value) rest) = MayWait m rest

-- an element may begin
pub record MayBegin (m : Made) (name : List ℕ) (kids : Plains) : Type 0 where
  pub waits : MayWait m kids
  pub none_ended : (with_attributes m kids).root ≡ None
  pub starts : Fits (with_attributes m kids) (length (start_line name))

-- the innermost element may end
pub record MayEnd (m : Made) (name : List ℕ) : Type 0 where
  pub none_wait : m.waiting ≡ []
  pub innermost : is_innermost name m.frames ≡ true
  pub ends : Fits m (length (end_line name))

-- a text may begin
pub record MayTell (m : Made) (value : List ℕ) : Type 0 where
  pub none_wait : m.waiting ≡ []
  pub inside : IsInside m.frames value
  pub prints : Fits m (2 + length (escaped value))

-- the nodes but for the attributes may be put in
abbrev pub MayStand : Made → Plains → Type 0
MayStand m no_kids = Unit {0}
MayStand m (kid (elem name kids) rest) =
    MayBegin m name kids × MayStand (with_element (with_attributes m kids) name) kids
    × MayEnd (with_content (with_element (with_attributes m kids) name) kids) name
    × MayStand
    (with_element_ended
    (with_text_ended (with_content (with_element (with_attributes m kids) name) kids)))
    rest
MayStand m (kid (attr name value) rest) = MayStand m rest
MayStand m (kid (text value) rest) = MayTell m value × MayStand (with_more_text m value) rest

-- the draft shows what the nodes, or their attributes, may be put into
abbrev pub IsReady : Draft → Plains → Type 0
IsReady draft nodes = (m : Made) × Shows draft m × MayStand m nodes

abbrev pub AwaitsThem : Draft → Plains → Type 0
AwaitsThem draft nodes = (m : Made) × Shows draft m × MayWait m nodes

-- they are put in
abbrev pub Plants : Draft → Draft → Plains → Type 0
Plants old new nodes =
    (m : Made) → Shows old m → MayStand m nodes → Shows new (with_content m nodes)

abbrev pub Waits : Draft → Draft → Plains → Type 0
Waits old new nodes =
    (m : Made) → Shows old m → MayWait m nodes → Shows new (with_attributes m nodes)

-- the document of a node, or none where the node is no element
abbrev pub IsPlanted : Plain → Option Node → Type 0
IsPlanted node None = is_element node ≡ false
IsPlanted node (Some tree) = (is_element node ≡ true) × (plain_of tree ≡ node)
