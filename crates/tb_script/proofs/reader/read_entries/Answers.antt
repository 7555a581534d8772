use Rattle.std.proofs.Common.{◌≡◌, ◌+◌, ◌∷◌, ◌++◌, [], None, sym, ap, ◌∙◌, subst, arith, append_assoc}
use Rattle.tb_script.specs.Lines.{whole_lines}
use Rattle.tb_script.specs.Entries.{no_body, entries}
use Rattle.tb_script.specs.Faults.{first_fault, fault_of}
use Rattle.tb_script.specs.Sessions.{marks_of, told_by}
use Rattle.tb_script.specs.Tallies.{Tells, tally_of}
use Rattle.tb_script.proofs.EntryLaws.{marks_of-push, first-next, below-later}
use Rattle.tb_script.proofs.reader.read_entries.Goals as goal

pub entries-preserved : goal.entries-preserved
entries-preserved c =
    let inv = c.entries.invariant in
    let e = c.in-Some.entry in
    let names = marks_of c.entries.entries.items in
    let counts = tally_of c.entries.tally names in
    let next = rw c.in-Some.is at c.in_ok-entry.ensures in
    let behind = entries no_body c.in-Some.next (whole_lines c.in-Some.behind.now) in
    let sound : fault_of counts e.line e.said ≡ None = sym (c.fault.ensures names inv.told) ∙ c.in_default-fault.is in
    let counted = c.in_ok-add.ensures.counted names e.line inv.told sound in
    let marks : marks_of c.push.new.self.items ≡ names ++ told_by e.said = ap marks_of c.in_ok-push.ensures.items ∙ marks_of-push c.entries.entries.items e in
    record {
      all =
          ap (λ es. es ++ behind) c.in_ok-push.ensures.items
          ∙ append_assoc c.entries.entries.items (e ∷ []) behind
          ∙ ap (λ es. c.entries.entries.items ++ es) (sym next.0.entries_are)
          ∙ inv.all;
      told = subst (Tells c.add.new.self.marks) (sym marks) counted.told;
      first =
          ap (λ ms. first_fault (tally_of c.add.new.self ms) behind) marks
          ∙ ap (λ t. first_fault t behind) counted.counts_are
          ∙ sym (first-next counts e behind sound)
          ∙ ap (first_fault counts) (sym next.0.entries_are)
          ∙ inv.first;
      numbers = omega (arith, inv.numbers, next.0.numbers);
      below = below-later (c.entries.line + 1) c.in-Some.next _ (c.in_ok-add.ensures.room c.entries.line inv.below) (omega (arith, next.1));
    }
