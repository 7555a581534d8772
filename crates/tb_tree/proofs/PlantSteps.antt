-- What a draft shows while a node's parts go into it one by one.
use Rattle.std.proofs.Common.{◌≡◌, ℕ, ◌+◌, ◌<◌, ◌≤◌, true, false, IsTrue, List, [], ◌∷◌, length, drop, get_or, None, refl, sym, ap, ap₂, ◌∙◌, subst, arith}
use Rattle.std.proofs.lemmas.Bool.{false≢true}
use Rattle.tb_tree.specs.Plain.{Plain, elem, attr, text, Plains, no_kids, kid, one, is_element}
use Rattle.tb_tree.specs.Sound.{is_attribute, IsSound}
use Rattle.tb_tree.specs.Levels.{levels}
use Rattle.tb_tree.specs.Printed.{attribute_line}
use Rattle.tb_tree.specs.Making.{Frame, Made, with_attribute, with_element, is_innermost}
use Rattle.tb_tree.specs.Drafts.{Shows, HasRoom, IsDone, depth_of}
use Rattle.tb_tree.specs.Planting.{with_attributes, with_content, Fits, MayWait, MayEnd, MayStand, IsReady, Plants, Waits}
use Rattle.tb_tree.specs.View.{plain_of, plains_of}
use Rattle.tb_tree.specs.declared.draft.Draft.{Draft}
use Rattle.tb_tree.specs.declared.node.Node.{Node, Elem, Attr, Text}
use Rattle.tb_tree.proofs.Views.{plain_of-Elem, plain_of-Attr, plain_of-Text, plains_of-drop}
use Rattle.tb_tree.proofs.KeptLaws.{stack-length}
use Rattle.tb_tree.proofs.DoneLaws.{has-room}
use Rattle.tb_tree.proofs.PlantLaws.{ended_at}

pub fits-room : (d : Draft) (m : Made) (more : ℕ) → Shows d m → Fits m more → HasRoom d more
fits-room d m more s fits = has-room d m more s fits.0 (omega (arith, ap length s.text_is, fits.1))

some-open : (name : List ℕ) (fs : List Frame) → is_innermost name fs ≡ true → 0 < length fs
some-open name [] e = absurd (false≢true e)
some-open name (f ∷ fs) e = omega arith

pub end-open : (d : Draft) (m : Made) (name : List ℕ) → Shows d m → MayEnd m name → 0 < depth_of d
end-open d m name s may = omega (arith, stack-length d m s, some-open name m.frames may.innermost)

-- the node that was matched
pub elem-seen : (node : Node) (name n : List ℕ) (kids ks : List Node) → node ≡ Elem name kids → n ≡ name → ks ≡ kids → plain_of node ≡ elem n (plains_of ks)
elem-seen node name n kids ks is named inside = ap plain_of is ∙ plain_of-Elem name kids ∙ ap₂ (λ x y. elem x (plains_of y)) (sym named) (sym inside)

pub text-seen : (node : Node) (value v : List ℕ) → node ≡ Text value → v ≡ value → plain_of node ≡ text v
text-seen node value v is valued = ap plain_of is ∙ plain_of-Text value ∙ ap text (sym valued)

pub attr-seen : (nodes : List Node) (i : ℕ) (node : Node) (name value n v : List ℕ) → i < length nodes → node ≡ get_or nodes i node → node ≡ Attr name value → n ≡ name → v ≡ value
    → plains_of (drop i nodes) ≡ kid (attr n v) (plains_of (drop (i + 1) nodes))
attr-seen nodes i node name value n v within at is named valued =
    plains_of-drop nodes i node within at
    ∙ ap (λ p. kid p (plains_of (drop (i + 1) nodes))) (ap plain_of is ∙ plain_of-Attr name value ∙ ap₂ attr (sym named) (sym valued))

-- An element with its kids, as the draft shows it before its end.
pub inside : (d0 d1 d2 d3 : Draft) (m : Made) (name n : List ℕ) (ks first second : Plains) → n ≡ name → first ≡ ks → second ≡ ks → Shows d0 m → MayStand m (one (elem name ks))
    → Waits d0 d1 first → ((m : Made) → m.root ≡ None → Shows d1 m → Shows d2 (with_element m n)) → Plants d2 d3 second
    → Shows d3 (with_content (with_element (with_attributes m ks) name) ks)
inside d0 d1 d2 d3 m name n ks first second named p q s may waits starts plants =
    let waited = subst (Waits d0 d1) p waits m s may.0.waits in
    let begun = subst (λ x. Shows d2 (with_element (with_attributes m ks) x)) named (starts (with_attributes m ks) may.0.none_ended waited) in
    subst (Plants d2 d3) q plants _ begun may.1

-- One kid after the other.
pub record Left (d : Draft) (rest : Plains) (whole : Made) : Type 0 where
  pub made : Made
  pub shown : Shows d made
  pub may : MayStand made rest
  pub is : with_content made rest ≡ whole

first-stands : (m : Made) (k : Plain) (rest : Plains) → MayStand m (kid k rest) → MayStand m (one k)
first-stands m (elem name kids) rest may = (may.0, may.1, may.2, tt)
first-stands m (attr name value) rest may = tt
first-stands m (text value) rest may = (may.0, tt)

rest-stands : (m : Made) (k : Plain) (rest : Plains) → MayStand m (kid k rest) → MayStand (with_content m (one k)) rest
rest-stands m (elem name kids) rest may = may.3
rest-stands m (attr name value) rest may = may
rest-stands m (text value) rest may = may.1

content-step : (m : Made) (k : Plain) (rest : Plains) → with_content m (kid k rest) ≡ with_content (with_content m (one k)) rest
content-step m (elem name kids) rest = refl
content-step m (attr name value) rest = refl
content-step m (text value) rest = refl

pub left-ready : (d : Draft) (k : Plain) (rest behind : Plains) (whole : Made) → rest ≡ kid k behind → Left d rest whole → IsReady d (one k)
left-ready d k rest behind whole is l = (l.made, l.shown, first-stands l.made k behind (subst (MayStand l.made) is l.may))

pub left-more : (d d' : Draft) (k : Plain) (rest behind : Plains) (whole : Made) → rest ≡ kid k behind → Plants d d' (one k) → Left d rest whole → Left d' behind whole
left-more d d' k rest behind whole is plants l =
    let may = subst (MayStand l.made) is l.may in
    record {
      made = with_content l.made (one k);
      shown = plants l.made l.shown (first-stands l.made k behind may);
      may = rest-stands l.made k behind may;
      is = sym (content-step l.made k behind) ∙ ap (with_content l.made) (sym is) ∙ l.is;
    }

pub left-done : (d : Draft) (rest : Plains) (whole : Made) → rest ≡ no_kids → Left d rest whole → Shows d whole
left-done d rest whole none l = subst (Shows d) (ap (with_content l.made) (sym none) ∙ l.is) l.shown

-- One attribute after the other.
pub record WaitLeft (d : Draft) (rest : Plains) (whole : Made) : Type 0 where
  pub made : Made
  pub shown : Shows d made
  pub may : MayWait made rest
  pub is : with_attributes made rest ≡ whole

pub wait-room : (d : Draft) (name value : List ℕ) (rest behind : Plains) (whole : Made) → rest ≡ kid (attr name value) behind → WaitLeft d rest whole → HasRoom d (length (attribute_line name value))
wait-room d name value rest behind whole is l = fits-room d l.made _ l.shown (subst (MayWait l.made) is l.may).0

pub wait-more : (d d' : Draft) (name value : List ℕ) (rest behind : Plains) (whole : Made) → rest ≡ kid (attr name value) behind
    → ((m : Made) → Shows d m → Shows d' (with_attribute m name value)) → WaitLeft d rest whole → WaitLeft d' behind whole
wait-more d d' name value rest behind whole is waits l = record {
  made = with_attribute l.made name value;
  shown = waits l.made l.shown;
  may = (subst (MayWait l.made) is l.may).1;
  is = ap (with_attributes l.made) (sym is) ∙ l.is;
}

pub wait-past : (d : Draft) (k : Plain) (rest behind : Plains) (whole : Made) → rest ≡ kid k behind → is_attribute k ≡ false → WaitLeft d rest whole → WaitLeft d behind whole
wait-past d (elem name kids) rest behind whole is none l =
    record { made = l.made; shown = l.shown; may = subst (MayWait l.made) is l.may; is = ap (with_attributes l.made) (sym is) ∙ l.is }
wait-past d (attr name value) rest behind whole is none l = absurd (false≢true (sym none))
wait-past d (text value) rest behind whole is none l =
    record { made = l.made; shown = l.shown; may = subst (MayWait l.made) is l.may; is = ap (with_attributes l.made) (sym is) ∙ l.is }

pub wait-done : (d : Draft) (rest : Plains) (whole : Made) → rest ≡ no_kids → WaitLeft d rest whole → Shows d whole
wait-done d rest whole none l = subst (Shows d) (ap (with_attributes l.made) (sym none) ∙ l.is) l.shown

-- the whole document
pub planted-done : (root : Plain) → IsTrue (is_element root) → IsSound root → levels (one root) ≤ 512 → IsDone (ended_at root) root
planted-done root element sound low = record { none_open = refl; none_wait = refl; root_is = refl; element = element; sound = sound; low = low }
