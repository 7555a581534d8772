-- A reading with one token of look-ahead goes on exactly as far as a sentence can.
use Rattle.std.proofs.Common.{◌≡◌, ◌⊎◌, inl, inr, ⊎_elim, ℕ, zero, suc, ◌+◌, ◌-◌, ◌<◌, ◌≤◌, Bool, true, false, cond, List, [], ◌∷◌, ◌++◌, length, take, Option, Some, None, refl, sym, ap, ◌∙◌, arith, append-nil}
use Rattle.std.proofs.lemmas.Bool.{and_parts, or_cases}
use Rattle.tb_token.specs.grammar.Grammar.{Tok, Expression, one, both, either, maybe, many, opened, Rules, has}
use Rattle.tb_token.specs.grammar.Sentences.{Tree, Derives, by_one, by_both, by_first, by_second, left_out, put_in, no_more, one_more, by_rule, AreSentence, Begin, IsWrongAt}
use Rattle.tb_token.specs.grammar.Reading.{is_never_empty, may_end, first_set, takes, after, read}
use Rattle.tb_token.specs.grammar.LL1.{are_apart, first_set_of_all, AreLL1, AreGood}
use Rattle.tb_token.proofs.grammar.TerminalLaws.{none-true, apart-none}
use Rattle.tb_token.proofs.grammar.SentenceLaws.{both-ll1, first-ll1, second-ll1, maybe-ll1, many-ll1, rule-ll1, either-never_empty, maybe-never_empty, many-never_empty, sentence-first_set_before, first_set-first_set_before, none-ends, sentence-one, sentence-both, sentence-first, sentence-second, sentence-left_out, sentence-put_in, sentence-no_more, sentence-one_more, sentence-rule, none-sentence, have-sentence}

some-is : {A : Type 0} (x y : A) → ◌≡◌ {A = Option A} (Some x) (Some y) → x ≡ y
some-is x y e = cc

none-some : {A : Type 0} {P : Type 0} (x : A) → ◌≡◌ {A = Option A} None (Some x) → P
none-some x e = absurd cc

if-some : {A : Type 0} (b : Bool) (x y : A) → ◌≡◌ {A = Option A} (cond b (Some x) None) (Some y) → (b ≡ true) × (x ≡ y)
if-some true x y e = (refl, some-is x y e)
if-some false x y e = none-some y e

-- a choice gave this
if-cases : {A : Type 0} (b : Bool) (o u : Option A) (y : A) → cond b o u ≡ Some y → ((b ≡ true) × (o ≡ Some y)) ⊎ ((b ≡ false) × (u ≡ Some y))
if-cases true o u y e = inl (refl, e)
if-cases false o u y e = inr (refl, e)

-- What the reading takes, sentences take.

module _ (rules : Rules) (t : Tok) (s : List Tok) where
  -- from what is still to come once the expressions have taken the token, the rest is a sentence
  abbrev Leads : Option (List Expression) → List Expression → Type 0
  Leads o ps = (hs : List Expression) → o ≡ Some hs → AreSentence rules hs s → AreSentence rules ps (t ∷ s)

  none-leads : (ps : List Expression) → Leads None ps
  none-leads ps = λ hs e sentence. none-some hs e

  takes-leads : (p : Expression) (ps : List Expression) (o : Option (List Expression)) → Leads o ps → Leads (takes rules p t.terminal ps o) (p ∷ ps)
  takes-leads (one c) ps o leads = λ hs e sentence.
      let is = if-some (has c t.terminal) ps hs e in
      sentence-one rules c t ps s is.0 (rw is.1 sentence)
  takes-leads (both p q) ps o leads = λ hs e sentence.
      sentence-both rules p q ps (t ∷ s) (takes-leads p (q ∷ ps) (takes rules q t.terminal ps o) (takes-leads q ps o leads) hs e sentence)
  takes-leads (either p q) ps o leads = λ hs e sentence.
      ⊎_elim
      (λ one_is. sentence-first rules p q ps (t ∷ s) (takes-leads p ps o leads hs one_is.1 sentence))
      (λ two_is. sentence-second rules p q ps (t ∷ s) (takes-leads q ps o leads hs two_is.1 sentence))
      (if-cases (has (first_set p) t.terminal) (takes rules p t.terminal ps o) (takes rules q t.terminal ps o) hs e)
  takes-leads (maybe p) ps o leads = λ hs e sentence.
      ⊎_elim
      (λ one_is. sentence-put_in rules p ps (t ∷ s) (takes-leads p ps o leads hs one_is.1 sentence))
      (λ two_is. sentence-left_out rules p ps (t ∷ s) (leads hs two_is.1 sentence))
      (if-cases (has (first_set p) t.terminal) (takes rules p t.terminal ps o) o hs e)
  takes-leads (many p) ps o leads = λ hs e sentence.
      ⊎_elim
      (λ one_is. sentence-one_more rules p ps (t ∷ s) (takes-leads p (many p ∷ ps) None (none-leads (many p ∷ ps)) hs one_is.1 sentence))
      (λ two_is. sentence-no_more rules p ps (t ∷ s) (leads hs two_is.1 sentence))
      (if-cases (has (first_set p) t.terminal) (takes rules p t.terminal (many p ∷ ps) None) o hs e)
  takes-leads (opened c n) ps o leads = λ hs e sentence.
      let is = if-some (has c t.terminal) (rules n ∷ ps) hs e in
      sentence-rule rules c n t ps s is.0 (rw is.1 sentence)

  pub after-leads : (ps : List Expression) → Leads (after rules ps t.terminal) ps
  after-leads [] = none-leads []
  after-leads (p ∷ ps) = takes-leads p ps (after rules ps t.terminal) (after-leads ps)

-- what an expression that is not nullable takes does not depend on what is behind it
pub takes-never_empty : (rules : Rules) (p : Expression) (x : ℕ) (ps : List Expression) (o u : Option (List Expression)) → is_never_empty p ≡ true → takes rules p x ps o ≡ takes rules p x ps u
takes-never_empty rules (one c) x ps o u never_empty = refl
takes-never_empty rules (both p q) x ps o u never_empty =
    ⊎_elim
    (λ one_is. takes-never_empty rules p x (q ∷ ps) (takes rules q x ps o) (takes rules q x ps u) one_is)
    (λ two_is. ap (λ r. takes rules p x (q ∷ ps) r) (takes-never_empty rules q x ps o u two_is))
    (or_cases (is_never_empty p) (is_never_empty q) never_empty)
takes-never_empty rules (either p q) x ps o u never_empty =
    let parts = and_parts (is_never_empty p) (is_never_empty q) never_empty in
    let one_is = takes-never_empty rules p x ps o u parts.0 in
    let two_is = takes-never_empty rules q x ps o u parts.1 in
    rw (one_is, two_is) refl
takes-never_empty rules (maybe p) x ps o u never_empty = none-true false refl never_empty
takes-never_empty rules (many p) x ps o u never_empty = none-true false refl never_empty
takes-never_empty rules (opened c n) x ps o u never_empty = refl

-- a terminal that the second begin with, the first do not
none-by : (xs ys : List ℕ) (x : ℕ) → are_apart xs ys ≡ true → has ys x ≡ true → has xs x ≡ false
none-by xs ys x apart there = by (has xs x) refl
  where
    by : (is : Bool) → has xs x ≡ is → is ≡ false
    by true e = none-true (has ys x) (apart-none xs ys x apart e) there
    by false e = refl

module _ (rules : Rules) (follow : ℕ → List ℕ) (good : AreGood rules follow) where
  -- What sentences take, the reading takes.

  -- the reading takes the token, and the rest is a sentence of what is still to come
  pub record GoesOn (ps : List Expression) (t : Tok) (s : List Tok) : Type 0 where
    pub to_come : List Expression
    pub goes : after rules ps t.terminal ≡ Some to_come
    pub sentence : AreSentence rules to_come s

  pub sentence-goes : {ps : List Expression} {vs : List Tree} {t : Tok} {s : List Tok} → AreLL1 follow ps → Derives rules ps vs (t ∷ s) → GoesOn ps t s
  sentence-goes {s = s} d (by_one {ps = ps} {vs = vs} h w) = record { to_come = ps; goes = rw h refl; sentence = (vs, w) }
  sentence-goes d (by_both {p = p} {q = q} {ps = ps} w) =
      let on = sentence-goes (both-ll1 rules follow good p q ps d) w in
      record { to_come = on.to_come; goes = on.goes; sentence = on.sentence }
  sentence-goes d (by_first {p = p} {q = q} {ps = ps} w) =
      let never_empty = either-never_empty rules follow good p q ps d in
      let here = first_set-first_set_before rules follow good (first-ll1 rules follow good p q ps d) never_empty.0 w in
      let on = sentence-goes (first-ll1 rules follow good p q ps d) w in
      record { to_come = on.to_come; goes = rw here on.goes; sentence = on.sentence }
  sentence-goes {t = t} d (by_second {p = p} {q = q} {ps = ps} w) =
      let never_empty = either-never_empty rules follow good p q ps d in
      let there = first_set-first_set_before rules follow good (second-ll1 rules follow good p q ps d) never_empty.1 w in
      let other = none-by (first_set p) (first_set q) t.terminal never_empty.2 there in
      let on = sentence-goes (second-ll1 rules follow good p q ps d) w in
      record { to_come = on.to_come; goes = rw other on.goes; sentence = on.sentence }
  sentence-goes {t = t} d (left_out {p = p} {ps = ps} w) =
      let never_empty = maybe-never_empty rules follow good p ps d in
      let other = none-by (first_set p) (first_set_of_all ps) t.terminal never_empty.1 (sentence-first_set_before rules follow good d.1 w) in
      let on = sentence-goes d.1 w in
      record { to_come = on.to_come; goes = rw other on.goes; sentence = on.sentence }
  sentence-goes d (put_in {p = p} {ps = ps} w) =
      let never_empty = maybe-never_empty rules follow good p ps d in
      let here = first_set-first_set_before rules follow good (maybe-ll1 rules follow good p ps d) never_empty.0 w in
      let on = sentence-goes (maybe-ll1 rules follow good p ps d) w in
      record { to_come = on.to_come; goes = rw here on.goes; sentence = on.sentence }
  sentence-goes {t = t} d (no_more {p = p} {ps = ps} w) =
      let never_empty = many-never_empty rules follow good p ps d in
      let other = none-by (first_set p) (first_set_of_all ps) t.terminal never_empty.1 (sentence-first_set_before rules follow good d.1 w) in
      let on = sentence-goes d.1 w in
      record { to_come = on.to_come; goes = rw other on.goes; sentence = on.sentence }
  sentence-goes {t = t} d (one_more {p = p} {ps = ps} w) =
      let never_empty = many-never_empty rules follow good p ps d in
      let here = first_set-first_set_before rules follow good (many-ll1 rules follow good p ps d) never_empty.0 w in
      let on = sentence-goes (many-ll1 rules follow good p ps d) w in
      let same = takes-never_empty rules p t.terminal (many p ∷ ps) None (after rules (many p ∷ ps) t.terminal) never_empty.0 in
      record { to_come = on.to_come; goes = rw (here, same) on.goes; sentence = on.sentence }
  sentence-goes {s = s} d (by_rule {n = n} {ps = ps} {v = v} {vs = vs} h w) = record { to_come = rules n ∷ ps; goes = rw h refl; sentence = (v ∷ vs, w) }

  -- What is still to come is LL(1).

  abbrev Stays : Option (List Expression) → Type 0
  Stays o = (hs : List Expression) → o ≡ Some hs → AreLL1 follow hs

  none-stays : Stays None
  none-stays = λ hs e. none-some hs e

  takes-ll1 : (p : Expression) (x : ℕ) (ps : List Expression) (o : Option (List Expression)) → AreLL1 follow (p ∷ ps) → Stays o → Stays (takes rules p x ps o)
  takes-ll1 (one c) x ps o d stays = λ hs e. let is = if-some (has c x) ps hs e in rw (← is.1) d.1
  takes-ll1 (both p q) x ps o d stays =
      let two = both-ll1 rules follow good p q ps d in
      takes-ll1 p x (q ∷ ps) (takes rules q x ps o) two (takes-ll1 q x ps o two.1 stays)
  takes-ll1 (either p q) x ps o d stays = λ hs e.
      ⊎_elim
      (λ one_is. takes-ll1 p x ps o (first-ll1 rules follow good p q ps d) stays hs one_is.1)
      (λ two_is. takes-ll1 q x ps o (second-ll1 rules follow good p q ps d) stays hs two_is.1)
      (if-cases (has (first_set p) x) (takes rules p x ps o) (takes rules q x ps o) hs e)
  takes-ll1 (maybe p) x ps o d stays = λ hs e.
      ⊎_elim
      (λ one_is. takes-ll1 p x ps o (maybe-ll1 rules follow good p ps d) stays hs one_is.1)
      (λ two_is. stays hs two_is.1)
      (if-cases (has (first_set p) x) (takes rules p x ps o) o hs e)
  takes-ll1 (many p) x ps o d stays = λ hs e.
      ⊎_elim
      (λ one_is. takes-ll1 p x (many p ∷ ps) None (many-ll1 rules follow good p ps d) none-stays hs one_is.1)
      (λ two_is. stays hs two_is.1)
      (if-cases (has (first_set p) x) (takes rules p x (many p ∷ ps) None) o hs e)
  takes-ll1 (opened c n) x ps o d stays = λ hs e.
      let is = if-some (has c x) (rules n ∷ ps) hs e in
      rw (← is.1) (rule-ll1 rules follow good c n ps d)

  after-ll1 : (ps : List Expression) (x : ℕ) → AreLL1 follow ps → Stays (after rules ps x)
  after-ll1 [] x d = none-stays
  after-ll1 (p ∷ ps) x d = takes-ll1 p x ps (after rules ps x) d (after-ll1 ps x d.1)

  -- A sentence's tokens and more begin as their first token does.
  begin-goes : (ps : List Expression) (t : Tok) (s : List Tok) (hs : List Expression) → AreLL1 follow ps → after rules ps t.terminal ≡ Some hs → Begin rules ps (t ∷ s) → Begin rules hs s
  begin-goes ps t s hs d e begin =
      let on = sentence-goes d begin.1.1 in
      let same = some-is hs on.to_come (sym e ∙ on.goes) in
      (begin.0, rw same on.sentence)

  begin-stops : {P : Type 0} (ps : List Expression) (t : Tok) (s : List Tok) → AreLL1 follow ps → after rules ps t.terminal ≡ None → Begin rules ps (t ∷ s) → P
  begin-stops ps t s d e begin =
      let on = sentence-goes d begin.1.1 in
      none-some on.to_come (sym e ∙ on.goes)

  begin-none : (ps : List Expression) → AreLL1 follow ps → Begin rules ps []
  begin-none ps d = have-sentence rules follow good ps d

  begin-more : (ps : List Expression) (t : Tok) (s : List Tok) (hs : List Expression) → after rules ps t.terminal ≡ Some hs → Begin rules hs s → Begin rules ps (t ∷ s)
  begin-more ps t s hs e begin = (begin.0, after-leads rules t (s ++ begin.0) ps hs e begin.1)

  begin-sentence : (ps : List Expression) (s : List Tok) → AreSentence rules ps s → Begin rules ps s
  begin-sentence ps s sentence = ([], rw append-nil sentence)

  -- the list is wrong at its first token
  wrong-first : (ps : List Expression) (t : Tok) (s : List Tok) → AreLL1 follow ps → after rules ps t.terminal ≡ None → IsWrongAt rules ps (t ∷ s) 1
  wrong-first ps t s d e = record {
    some = omega arith;
    within = omega arith;
    before = λ j below. let zero_is : j ≡ 0 = omega arith in rw zero_is (begin-none ps d);
    here = λ within begin. begin-stops ps t [] d e begin;
    none = λ sentence. begin-stops ps t s d e (begin-sentence ps (t ∷ s) sentence);
  }

  -- the list ends too early
  wrong-end : (ps : List Expression) → AreLL1 follow ps → may_end ps ≡ false → IsWrongAt rules ps [] 1
  wrong-end ps d e = record {
    some = omega arith;
    within = omega arith;
    before = λ j below. let zero_is : j ≡ 0 = omega arith in rw zero_is (begin-none ps d);
    here = λ within begin. absurd (omega arith);
    none = λ sentence. none-true (may_end ps) e (none-ends sentence.1);
  }

  before-more : (ps : List Expression) (t : Tok) (s : List Tok) (hs : List Expression) → AreLL1 follow ps → after rules ps t.terminal ≡ Some hs → (k : ℕ) → ((j : ℕ) → j < k → Begin rules hs (take j s))
      → (j : ℕ) → j < suc k → Begin rules ps (take j (t ∷ s))
  before-more ps t s hs d e k before zero below = begin-none ps d
  before-more ps t s hs d e k before (suc j) below = begin-more ps t (take j s) hs e (before j (omega arith))

  -- the list is wrong behind its first token
  wrong-more : (ps : List Expression) (t : Tok) (s : List Tok) (hs : List Expression) (k : ℕ) → AreLL1 follow ps → after rules ps t.terminal ≡ Some hs → IsWrongAt rules hs s k → IsWrongAt rules ps (t ∷ s) (suc k)
  wrong-more ps t s hs k d e wrong = record {
    some = omega arith;
    within = let le = wrong.within in omega arith;
    before = before-more ps t s hs d e k wrong.before;
    here = λ within begin. wrong.here (omega arith) (begin-goes ps t (take k s) hs d e begin);
    none = λ sentence.
        let on = sentence-goes d sentence.1 in
        let same = some-is hs on.to_come (sym e ∙ on.goes) in
        wrong.none (rw same on.sentence);
  }

  -- no more tokens are left than there are
  read-le : (s : List Tok) (ps : List Expression) (left : ℕ) → read rules s (Some ps) ≡ Some left → left ≤ length s
  read-le [] ps left e = by (may_end ps) e
    where
      by : (ends : Bool) → ◌≡◌ {A = Option ℕ} (cond ends None (Some 0)) (Some left) → left ≤ 0
      by true e = none-some left e
      by false e = let same = some-is 0 left e in omega arith
  read-le (t ∷ s) ps left e = by (after rules ps t.terminal) e (λ hs f. read-le s hs left f)
    where
      by : (o : Option (List Expression)) → read rules s o ≡ Some left → ((hs : List Expression) → read rules s (Some hs) ≡ Some left → left ≤ length s) → left ≤ suc (length s)
      by None e rest = let same = some-is (1 + length s) left e in omega arith
      by (Some hs) e rest = let le = rest hs e in omega arith

  -- Where the reading stops, the list is wrong.
  pub read-wrong : (s : List Tok) (ps : List Expression) (left : ℕ) → AreLL1 follow ps → read rules s (Some ps) ≡ Some left → IsWrongAt rules ps s (length s - left + 1)
  read-wrong [] ps left d e = by (may_end ps) refl e
    where
      by : (ends : Bool) → may_end ps ≡ ends → ◌≡◌ {A = Option ℕ} (cond ends None (Some 0)) (Some left) → IsWrongAt rules ps [] (0 - left + 1)
      by true f e = none-some left e
      by false f e =
          let same = some-is 0 left e in
          let size : 0 - left + 1 ≡ 1 = omega arith in
          rw size (wrong-end ps d f)
  read-wrong (t ∷ s) ps left d e = by (after rules ps t.terminal) refl e (λ hs stays f. read-wrong s hs left stays f)
    where
      by : (o : Option (List Expression)) → after rules ps t.terminal ≡ o → read rules s o ≡ Some left
          → ((hs : List Expression) → AreLL1 follow hs → read rules s (Some hs) ≡ Some left → IsWrongAt rules hs s (length s - left + 1))
          → IsWrongAt rules ps (t ∷ s) (suc (length s) - left + 1)
      by None f e rest =
          let same = some-is (1 + length s) left e in
          let size : suc (length s) - left + 1 ≡ 1 = omega arith in
          rw size (wrong-first ps t s d f)
      by (Some hs) f e rest =
          let wrong = rest hs (after-ll1 ps t.terminal d hs f) e in
          let le = read-le s hs left e in
          let size : suc (length s) - left + 1 ≡ suc (length s - left + 1) = omega arith in
          rw size (wrong-more ps t s hs (length s - left + 1) d f wrong)

  -- Where the reading comes to the end, the list is a sentence.
  pub read-sentence : (s : List Tok) (ps : List Expression) → read rules s (Some ps) ≡ None → AreSentence rules ps s
  read-sentence [] ps e = by (may_end ps) refl e
    where
      by : (ends : Bool) → may_end ps ≡ ends → ◌≡◌ {A = Option ℕ} (cond ends None (Some 0)) None → AreSentence rules ps []
      by true f e = none-sentence rules ps f
      by false f e = none-some 0 (sym e)
  read-sentence (t ∷ s) ps e = by (after rules ps t.terminal) refl e (λ hs f. read-sentence s hs f)
    where
      by : (o : Option (List Expression)) → after rules ps t.terminal ≡ o → read rules s o ≡ None → ((hs : List Expression) → read rules s (Some hs) ≡ None → AreSentence rules hs s) → AreSentence rules ps (t ∷ s)
      by None f e rest = none-some (1 + length s) (sym e)
      by (Some hs) f e rest = after-leads rules t s ps hs f (rest hs e)
