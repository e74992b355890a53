-- Where nothing before the transaction is named it is tested, and else the first that is, with the choices of both sides.
use Rattle.std.proofs.Common.{◌<◌, ◌+◌, true, false, length, ap, ◌∙◌, arith}
use Rattle.pv_base.specs.Polyvalue.{names}
use Rattle.pv_cases.proofs.ChoiceLemmas.{at-first, from-unnamed, side-unnamed, sides-smaller}
use Rattle.pv_tree.specs.Meanings.{cases_at}
use Rattle.pv_tree.proofs.ChoosingLemmas.{are-chosen-kept, chosen-into, found-chosen}
use Rattle.pv_tree.proofs.KeptLemmas.{keeps-trans}
use Rattle.pv_tree.proofs.ChosenLemmas.{chooses-kept, chooses-of, choose-below, below-behind}
use Rattle.pv_tree.proofs.nodes.Nodes.+choose_once.Goals as goal

pub test-requires-clause-aborted_after : goal.test-requires-clause-aborted_after
test-requires-clause-aborted_after g t c =
    let aborted = cases_at c.args.self.now c.args.aborted in
    let committed = cases_at c.args.self.now c.args.committed in
    let first = at-first c.args.txn aborted committed c.top.result c.top-2.result c.top.ensures c.top-2.ensures c.first_before.ensures c.in-None.is in
    from-unnamed c.args.txn aborted c.requires.aborted_unnamed first.0

pub test-requires-clause-committed_after : goal.test-requires-clause-committed_after
test-requires-clause-committed_after g t c =
    let aborted = cases_at c.args.self.now c.args.aborted in
    let committed = cases_at c.args.self.now c.args.committed in
    let first = at-first c.args.txn aborted committed c.top.result c.top-2.result c.top.ensures c.top-2.ensures c.first_before.ensures c.in-None.is in
    from-unnamed c.args.txn committed c.requires.committed_unnamed first.1

pub side-aborted_if_not-requires-clause-from : goal.side-aborted_if_not-requires-clause-from
side-aborted_if_not-requires-clause-from g t c =
    let first = at-first c.args.txn (cases_at c.args.self.now c.args.aborted) (cases_at c.args.self.now c.args.committed) c.top.result c.top-2.result c.top.ensures c.top-2.ensures
    c.first_before.ensures c.in-Some-first_before.is in
    first.1.0

pub side-committed_if_not-requires-clause-from : goal.side-committed_if_not-requires-clause-from
side-committed_if_not-requires-clause-from g t c =
    let first = at-first c.args.txn (cases_at c.args.self.now c.args.aborted) (cases_at c.args.self.now c.args.committed) c.top.result c.top-2.result c.top.ensures c.top-2.ensures
    c.first_before.ensures c.in-Some-first_before.is in
    first.1.1.0

pub side-aborted_if-requires-clause-from : goal.side-aborted_if-requires-clause-from
side-aborted_if-requires-clause-from g t c =
    let first = at-first c.args.txn (cases_at c.args.self.now c.args.aborted) (cases_at c.args.self.now c.args.committed) c.top.result c.top-2.result c.top.ensures c.top-2.ensures
    c.first_before.ensures c.in-Some-first_before.is in
    first.1.0

pub side-committed_if-requires-clause-from : goal.side-committed_if-requires-clause-from
side-committed_if-requires-clause-from g t c =
    let first = at-first c.args.txn (cases_at c.args.self.now c.args.aborted) (cases_at c.args.self.now c.args.committed) c.top.result c.top-2.result c.top.ensures c.top-2.ensures
    c.first_before.ensures c.in-Some-first_before.is in
    first.1.1.0

pub choose_once-requires : goal.choose_once-requires
choose_once-requires g t c κs within =
    let meanings = c.args.self.now in
    let aborted = cases_at meanings c.args.aborted in
    let committed = cases_at meanings c.args.committed in
    let first = at-first c.args.txn aborted committed c.top.result c.top-2.result c.top.ensures c.top-2.ensures c.first_before.ensures c.in-Some-first_before.is in
    let smaller = sides-smaller {aborted = aborted} {committed = committed} c.side-aborted_if_not.ensures.side c.side-committed_if_not.ensures.side first.1.1.1 in
    let falls : length (cases_at meanings c.side-aborted_if_not.result) + length (cases_at meanings c.side-committed_if_not.result) < t = omega (arith, smaller, c.decreases) in (
      falls,
      (
        within,
        (
          omega (arith, c.side-aborted_if_not.ensures.there, c.requires.aborted_there),
          (
            omega (arith, c.side-committed_if_not.ensures.there, c.requires.committed_there),
            (
              side-unnamed {t = c.in-Some-first_before.first} c.args.txn c.side-aborted_if_not.ensures.side c.requires.aborted_unnamed,
              (
                side-unnamed {t = c.in-Some-first_before.first} c.args.txn {outcome = false} {cases = committed} c.side-committed_if_not.ensures.side c.requires.committed_unnamed,
                c.requires.noted,
              ),
            ),
          ),
        ),
      ),
    )

pub choose_once-requires-in-Some-first_before : goal.choose_once-requires-in-Some-first_before
choose_once-requires-in-Some-first_before g t c κs within =
    let meanings = c.args.self.now in
    let aborted = cases_at meanings c.args.aborted in
    let committed = cases_at meanings c.args.committed in
    let first = at-first c.args.txn aborted committed c.top.result c.top-2.result c.top.ensures c.top-2.ensures c.first_before.ensures c.in-Some-first_before.is in
    let smaller = sides-smaller {aborted = aborted} {committed = committed} c.side-aborted_if.ensures.side c.side-committed_if.ensures.side first.1.1.1 in
    let keeps = c.in_ok-front-in-Some-first_before.ensures.kept in
    let there : c.side-aborted_if.result < length meanings = omega (arith, c.side-aborted_if.ensures.there, c.requires.aborted_there) in
    let there-too : c.side-committed_if.result < length meanings = omega (arith, c.side-committed_if.ensures.there, c.requires.committed_there) in
    let same = keeps.kept c.side-aborted_if.result there in
    let same-too = keeps.kept c.side-committed_if.result there-too in
    let falls : length (cases_at c.choose_once.new.self c.side-aborted_if.result) + length (cases_at c.choose_once.new.self c.side-committed_if.result) < t =
    omega (arith, smaller, c.decreases, ap length same, ap length same-too) in (
      falls,
      (
        within,
        (
          omega (arith, there, keeps.longer),
          (
            omega (arith, there-too, keeps.longer),
            (
              ap (λ cases. names cases c.args.txn) same ∙ side-unnamed {t = c.in-Some-first_before.first} c.args.txn c.side-aborted_if.ensures.side c.requires.aborted_unnamed,
              (
                ap (λ cases. names cases c.args.txn) same-too
                    ∙ side-unnamed {t = c.in-Some-first_before.first} c.args.txn {outcome = true} {cases = committed} c.side-committed_if.ensures.side c.requires.committed_unnamed,
                c.in_ok-front-in-Some-first_before.ensures.are_noted,
              ),
            ),
          ),
        ),
      ),
    )

pub test-requires-in-Some-first_before-clause-aborted_after : goal.test-requires-in-Some-first_before-clause-aborted_after
test-requires-in-Some-first_before-clause-aborted_after g t c =
    let aborted = cases_at c.args.self.now c.args.aborted in
    let committed = cases_at c.args.self.now c.args.committed in
    let first = at-first c.args.txn aborted committed c.top.result c.top-2.result c.top.ensures c.top-2.ensures c.first_before.ensures c.in-Some-first_before.is in
    below-behind {t = c.in-Some-first_before.first} {txn = c.args.txn} {o = false} {aborted = aborted} {committed = committed} c.choose_once-in-Some-first_before.new.self c.in_ok-front-in-Some-first_before.front
    c.side-aborted_if_not.ensures.side c.side-committed_if_not.ensures.side first.0
    (chooses-kept c.choose_once.new.self c.choose_once-in-Some-first_before.new.self c.in_ok-front-in-Some-first_before.front c.in_ok-back-in-Some-first_before.ensures.kept c.in_ok-front-in-Some-first_before.ensures.chooses)

pub test-requires-in-Some-first_before-clause-committed_after : goal.test-requires-in-Some-first_before-clause-committed_after
test-requires-in-Some-first_before-clause-committed_after g t c =
    let meanings = c.args.self.now in
    let aborted = cases_at meanings c.args.aborted in
    let committed = cases_at meanings c.args.committed in
    let first = at-first c.args.txn aborted committed c.top.result c.top-2.result c.top.ensures c.top-2.ensures c.first_before.ensures c.in-Some-first_before.is in
    let there : c.side-aborted_if.result < length meanings = omega (arith, c.side-aborted_if.ensures.there, c.requires.aborted_there) in
    let there-too : c.side-committed_if.result < length meanings = omega (arith, c.side-committed_if.ensures.there, c.requires.committed_there) in
    below-behind {t = c.in-Some-first_before.first} {txn = c.args.txn} {o = true} {aborted = aborted} {committed = committed} c.choose_once-in-Some-first_before.new.self c.in_ok-back-in-Some-first_before.back
    c.side-aborted_if.ensures.side c.side-committed_if.ensures.side first.0
    (chooses-of meanings c.choose_once.new.self c.choose_once-in-Some-first_before.new.self c.side-aborted_if.result c.side-committed_if.result c.in_ok-back-in-Some-first_before.back
    c.in_ok-front-in-Some-first_before.ensures.kept there there-too c.in_ok-back-in-Some-first_before.ensures.chooses)

pub returns-in-Some : goal.returns-in-Some
returns-in-Some g t c = found-chosen c.args.txn c.args.self.now c.args.noted.now c.args.aborted c.args.committed c.in-Some.found c.requires.noted c.in-Some.ensures

pub returns-in_ok-made-in-None : goal.returns-in_ok-made-in-None
returns-in_ok-made-in-None g t c =
    let kept = c.in_ok-made-in-None.ensures.kept in
    chosen-into c.args.txn c.args.self.now c.test.new.self c.args.noted.now c.note_choice.new.noted c.args.aborted c.args.committed c.in_ok-made-in-None.made
    kept c.requires.aborted_there c.requires.committed_there (are-chosen-kept c.args.txn c.args.self.now c.test.new.self c.args.noted.now kept c.requires.noted)
    c.note_choice.ensures c.in_ok-made-in-None.ensures.test

pub returns-in_ok-made-in-Some-first_before : goal.returns-in_ok-made-in-Some-first_before
returns-in_ok-made-in-Some-first_before g t c =
    let meanings = c.args.self.now in
    let aborted = cases_at meanings c.args.aborted in
    let committed = cases_at meanings c.args.committed in
    let first = at-first c.args.txn aborted committed c.top.result c.top-2.result c.top.ensures c.top-2.ensures c.first_before.ensures c.in-Some-first_before.is in
    let there : c.side-aborted_if.result < length meanings = omega (arith, c.side-aborted_if.ensures.there, c.requires.aborted_there) in
    let there-too : c.side-committed_if.result < length meanings = omega (arith, c.side-committed_if.ensures.there, c.requires.committed_there) in
    let front = c.in_ok-front-in-Some-first_before.ensures in
    let back = c.in_ok-back-in-Some-first_before.ensures in
    let made = c.in_ok-made-in-Some-first_before.ensures in
    let sides = c.choose_once-in-Some-first_before.new.self in
    let new = c.test-in-Some-first_before.new.self in
    chosen-into c.args.txn meanings new c.choose_once-in-Some-first_before.new.noted c.note_choice-in-Some-first_before.new.noted c.args.aborted c.args.committed c.in_ok-made-in-Some-first_before.made
    (keeps-trans meanings c.choose_once.new.self new front.kept (keeps-trans c.choose_once.new.self sides new back.kept made.kept))
    c.requires.aborted_there c.requires.committed_there
    (are-chosen-kept c.args.txn sides new c.choose_once-in-Some-first_before.new.noted made.kept back.are_noted)
    c.note_choice-in-Some-first_before.ensures
    (choose-below sides new c.in_ok-front-in-Some-first_before.front c.in_ok-back-in-Some-first_before.back c.in_ok-made-in-Some-first_before.made
    c.side-aborted_if_not.ensures.side c.side-committed_if_not.ensures.side c.side-aborted_if.ensures.side c.side-committed_if.ensures.side first.1.1.1
    (chooses-kept c.choose_once.new.self sides c.in_ok-front-in-Some-first_before.front back.kept front.chooses)
    (chooses-of meanings c.choose_once.new.self sides c.side-aborted_if.result c.side-committed_if.result c.in_ok-back-in-Some-first_before.back front.kept there there-too back.chooses)
    made.test)
