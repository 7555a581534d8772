-- Constructors of the program and their plain form, level by level.
use Rattle.std.proofs.Common.{◌≡◌, ℕ, List, map, rules}
use Rattle.tb_query.specs.Parts.{element, constructor, given, plain_parts, cons_of, part_of}
use Rattle.tb_query.specs.declared.back.AttrPart.{AttrPart}
use Rattle.tb_query.specs.declared.back.Content.{Content}
use Rattle.tb_query.specs.declared.back.Cons.{Cons, roll-Cons, the_lemmas}
use Rattle.tb_query.specs.declared.back.Part.{Part}
use Rattle.tb_query.specs.declared.back.Part.TheVariants as part

pub cons_of-Cons : (name : List ℕ) (attrs : List AttrPart) (parts : List Part)
    → cons_of (roll-Cons (record { name = name; attrs = attrs; parts = parts })) ≡ element name attrs (plain_parts (map part_of parts))
cons_of-Cons name attrs parts = search (rules, the_lemmas)

pub part_of-Cons : (c : Cons) → part_of (part.Cons c) ≡ constructor (cons_of c)
part_of-Cons c = search (rules, the_lemmas)

pub part_of-Content : (c : Content) → part_of (part.Content c) ≡ given c
part_of-Content c = search (rules, the_lemmas)
