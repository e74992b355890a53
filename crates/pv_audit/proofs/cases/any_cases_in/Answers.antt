-- One case more.
use Rattle.std.proofs.Common.{◌≡◌, ℤ, List, [], ◌∷◌, ◌++◌, refl, sym, ap, subst, ◌∙◌, append-nil, arith, length-append}
use Rattle.std.specs.Option.{option_map}
use Rattle.std.proofs.lemmas.List.Elements.{All-push}
use Rattle.pv_audit.specs.Printed.{IsCase}
use Rattle.pv_audit.specs.Words.{cases_words}
use Rattle.pv_audit.proofs.CaseLemmas.{as-cut, part, sound-step}
use Rattle.pv_base.specs.Polyvalue.{Case}
use Rattle.pv_script.specs.LineFaults.{texts}
use Rattle.pv_audit.proofs.cases.any_cases_in.Goals as goal

pub returns-in_default-2-clause-none : goal.returns-in_default-2-clause-none
returns-in_default-2-clause-none c = λ all some each is.
    let left = (rw c.in-Some.is at c.loop-left.invariant.complete) all some each is in
    let parted = part (texts c.in-Some.rest.now) (texts c.cut_at_semicolon.result.0.now) (option_map (λ rest. texts rest.now) c.cut_at_semicolon.result.1) left.0
    c.cut_at_semicolon.ensures.front (as-cut (texts c.in-Some.rest.now) (texts c.cut_at_semicolon.result.0.now) c.cut_at_semicolon.result.1 c.cut_at_semicolon.ensures.behind)
    left.1 left.2 in
    (rw c.in_default-2.is at c.in_ok-case.ensures.none) parted.case parted.good parted.is

pub loop-left-preserved : goal.loop-left-preserved
loop-left-preserved c =
    let front = texts c.cut_at_semicolon.result.0.now in
    let behind = option_map (λ rest. texts rest.now) c.cut_at_semicolon.result.1 in
    let cut = as-cut (texts c.in-Some.rest.now) (texts c.cut_at_semicolon.result.0.now) c.cut_at_semicolon.result.1 c.cut_at_semicolon.ensures.behind in
    let found = rw c.in-Some-2.is at c.in_ok-case.ensures.case in
    let sound_so_far = rw c.in-Some.is at c.loop-left.invariant.sound in
    let complete_so_far = rw c.in-Some.is at c.loop-left.invariant.complete in
    let pushed = c.in_ok-push.ensures.items in
    record {
      sound = λ more left. subst (λ (cases : List (Case ℤ)). texts c.args.words.now ≡ cases_words (cases ++ more)) (sym pushed)
          (sound-step (texts c.args.words.now) (texts c.in-Some.rest.now) front behind c.loop-left.cases.items c.in-Some-2.case sound_so_far found.0 cut more left);
      complete = λ all some each is.
          let left = complete_so_far all some each is in
          let parted = part (texts c.in-Some.rest.now) front behind left.0 c.cut_at_semicolon.ensures.front cut left.1 left.2 in
          (parted.more, parted.each, parted.left);
      each = rw pushed (All-push IsCase c.loop-left.cases.items c.in-Some-2.case c.loop-left.invariant.each found.1);
      some = λ none. rw pushed (let long = length-append c.loop-left.cases.items (c.in-Some-2.case ∷ []) in omega (arith, long));
    }

pub returns-clause-cases : goal.returns-clause-cases
returns-clause-cases c =
    (rw c.in_default.is at c.loop-left.invariant.sound) [] refl ∙ ap cases_words (append-nil c.loop-left.cases.items)
