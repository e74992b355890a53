-- A transaction is cut at its two dots.
use Rattle.std.proofs.Common.{◌≡◌, ℕ, List, ◌∷◌, ◌++◌, sym, ap₂, subst, ◌∙◌}
use Rattle.std.specs.List.{Contains}
use Rattle.std.specs.Fmt.{decimal}
use Rattle.pv_audit.proofs.CutLemmas.{cut-has, txn-dotted, txn-first, txn-second}
use Rattle.pv_audit.proofs.words.txn_in.Goals as goal

pub returns-in_err-front-clause-none : goal.returns-in_err-front-clause-none
returns-in_err-front-clause-none c = rw c.from_residual.ensures (λ txn fits is. c.in_err-front.ensures.none (txn-dotted c.args.word.now txn is))

pub returns-in_err-middle-clause-none : goal.returns-in_err-middle-clause-none
returns-in_err-middle-clause-none c = rw c.from_residual-in_err-middle.ensures (λ txn fits is.
    let first = txn-first c.args.word.now c.in_ok-front.front.now c.in_ok-front.behind.now txn is c.in_ok-front.ensures.first c.in_ok-front.ensures.some in
    c.in_err-middle.ensures.none (subst (λ (w : List ℕ). Contains w 46) (sym first.1) (cut-has 46 (decimal txn.epoch) (decimal txn.number))))

pub returns-in_err-site-clause-none : goal.returns-in_err-site-clause-none
returns-in_err-site-clause-none c = rw c.from_residual-in_err-site.ensures (λ txn fits is.
    let first = txn-first c.args.word.now c.in_ok-front.front.now c.in_ok-front.behind.now txn is c.in_ok-front.ensures.first c.in_ok-front.ensures.some in
    c.in_err-site.ensures.none txn.site.0 fits.site first.0)

pub returns-in_err-epoch-clause-none : goal.returns-in_err-epoch-clause-none
returns-in_err-epoch-clause-none c = rw c.from_residual-in_err-epoch.ensures (λ txn fits is.
    let first = txn-first c.args.word.now c.in_ok-front.front.now c.in_ok-front.behind.now txn is c.in_ok-front.ensures.first c.in_ok-front.ensures.some in
    let second = txn-second c.in_ok-front.behind.now c.in_ok-middle.middle.now c.in_ok-middle.last.now txn first.1 c.in_ok-middle.ensures.first c.in_ok-middle.ensures.some in
    c.in_err-epoch.ensures.none txn.epoch fits.epoch second.0)

pub returns-in_err-number-clause-none : goal.returns-in_err-number-clause-none
returns-in_err-number-clause-none c = rw c.from_residual-in_err-number.ensures (λ txn fits is.
    let first = txn-first c.args.word.now c.in_ok-front.front.now c.in_ok-front.behind.now txn is c.in_ok-front.ensures.first c.in_ok-front.ensures.some in
    let second = txn-second c.in_ok-front.behind.now c.in_ok-middle.middle.now c.in_ok-middle.last.now txn first.1 c.in_ok-middle.ensures.first c.in_ok-middle.ensures.some in
    c.in_err-number.ensures.none txn.number fits.number second.1)

pub returns-clause-txn : goal.returns-clause-txn
returns-clause-txn c =
    let last : c.in_ok-front.behind.now ≡ decimal c.in_ok-epoch.epoch ++ 46 ∷ decimal c.in_ok-number.number =
    c.in_ok-middle.ensures.some ∙ ap₂ (λ (m l : List ℕ). m ++ 46 ∷ l) c.in_ok-epoch.ensures.number c.in_ok-number.ensures.number in
    c.in_ok-front.ensures.some ∙ ap₂ (λ (f b : List ℕ). f ++ 46 ∷ b) c.in_ok-site.ensures.site last
