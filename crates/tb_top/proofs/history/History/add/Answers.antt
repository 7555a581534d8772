-- The change stands at the end, the document of its name is its own, and its session has one more.
use Rattle.std.proofs.Common.{◌≡◌, ℕ, ◌+◌, ◌<◌, List, [], ◌∷◌, ◌++◌, length, get_or, map, set, sym, ap, ◌∙◌, arith}
use Rattle.std.proofs.lemmas.List.{get_or_read}
use Rattle.tb_tree.specs.View.{plain_of}
use Rattle.tb_tree.specs.Documents.{found}
use Rattle.tb_top.specs.History.{Change, count_of, documents_in}
use Rattle.tb_top.specs.Kept.{Kept, change_in, changes_in}
use Rattle.tb_top.proofs.HistoryLaws.{same-change, changes-grown, count_of-few, counts-more, latest-more}
use Rattle.tb_top.proofs.history.History.add.Goals as goal

pub overflow_add-count : goal.overflow_add-count
overflow_add-count c =
    let counts = c.self.inside.counts.items in
    let within : c.args.session < length counts = omega (arith, c.requires.session, ap (λ (k : Kept). k.sessions) c.self.view_is) in
    let known = get_or_read counts _ _ within c.index.ensures 0 ∙ c.self.invariant.counts c.args.session in
    let few = ap (λ (k : Kept). length (changes_in k)) c.self.view_is in
    omega (arith, known, count_of-few c.args.session (map change_in c.self.inside.changes.items), c.requires.few, few)

pub returns-clause-changes : goal.returns-clause-changes
returns-clause-changes c =
    let counts = c.self.inside.counts.items in
    let within : c.args.session < length counts = omega (arith, c.requires.session, ap (λ (k : Kept). k.sessions) c.self.view_is) in
    let known = get_or_read counts _ _ within c.index.ensures 0 ∙ c.self.invariant.counts c.args.session in
    changes-grown c.self.inside.changes.items _ _ _ _ c.in_ok-try_reserve.ensures.items c.in-Ok.ensures.items
    (same-change c.args.session _ _ _ _ _ _ (ap (λ n. n + 1) known) c.in_ok-name.ensures (ap plain_of c.in_ok-store.ensures.ok))
    ∙ ap (λ (cs : List Change). cs ++ record { session = c.args.session; count = count_of c.args.session cs + 1; name = c.args.name.now; tree = plain_of c.args.store } ∷ []) (ap changes_in c.self.view_is)

pub invariant_of-self-2 : goal.invariant_of-self-2
invariant_of-self-2 c =
    let old = map change_in c.self.inside.changes.items in
    let counts = c.self.inside.counts.items in
    let within : c.args.session < length counts = omega (arith, c.requires.session, ap (λ (k : Kept). k.sessions) c.self.view_is) in
    let read = get_or_read counts _ _ within c.index.ensures 0 in
    let d : Change = record { session = c.args.session; count = count_of c.args.session old + 1; name = c.args.name.now; tree = plain_of c.args.store } in
    let whole : map change_in c.push.new.self.items ≡ old ++ d ∷ [] =
    changes-grown c.self.inside.changes.items _ _ _ _ c.in_ok-try_reserve.ensures.items c.in-Ok.ensures.items
    (same-change c.args.session _ _ _ _ _ _ (ap (λ n. n + 1) (read ∙ c.self.invariant.counts c.args.session)) c.in_ok-name.ensures (ap plain_of c.in_ok-store.ensures.ok)) in
    record {
      latest =
          λ name.
          latest-more c.self.inside.latest c.insert.new.self old d c.in_ok-latest.latest c.in_ok-key.key c.self.invariant.latest c.in_ok-insert.ensures.updates.0 c.in_ok-key.ensures
          (ap plain_of (c.in_ok-latest.ensures ∙ c.in_ok-store.ensures.ok)) name
          ∙ ap (λ cs. found name (documents_in cs)) (sym whole);
      counts =
          λ session.
          ap (λ n. get_or (set counts c.args.session (n + 1)) session 0) read ∙ counts-more counts old d c.self.invariant.counts within session
          ∙ ap (count_of session) (sym whole);
    }
