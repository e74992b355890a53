-- The word is compared by its bytes, and the number is the text's.
use Rattle.std.proofs.Common.{◌≡◌, ℕ, List, [], ◌∷◌, codes, decimal, sym, ◌∙◌, arith}
use Rattle.std.proofs.lemmas.Bool.{false≢true}
use Rattle.std.proofs.lemmas.Bool.Decides.{Decides-eqb}
use Rattle.std.proofs.lemmas.Slice.Eq.{slice_eq-Decides}
use Rattle.pv_app.specs.Commands.{AreNumbered, word_of}
use Rattle.pv_app.proofs.CommandLemmas.{no-numbered}
use Rattle.pv_app.proofs.command.word_and_number.Goals as goal
use Rattle.pv_app.proofs.command.word_and_number.Goals.{else-eq-3-via-then-eq-3+then-number-ge1+else-number-le-MAX_WORKERS, else-eq-3-via-then-eq-3+else-number-ge1, else-eq-3-via-else-eq-3}

two-words : (word text known : List ℕ) (number : ℕ) → word ≡ known → text ≡ decimal number → AreNumbered (word ∷ text ∷ []) known number
two-words word text known number same is = λ i. same i ∷ is i ∷ []

pub returns-then-eq-clause-some : goal.returns-then-eq-clause-some
unfolding word_of
returns-then-eq-clause-some c =
    let word = (slice_eq-Decides Decides-eqb c.args.word.now (codes "make") c.eq.result c.eq.ensures).0 c.if-eq.true in
    (two-words c.args.word.now c.args.text.now (codes "make") c.in_ok-number.number word c.in_ok-number.ensures.some.0, c.in_ok-number.ensures.some.1)

pub returns-then-eq-2-clause-some : goal.returns-then-eq-2-clause-some
unfolding word_of
returns-then-eq-2-clause-some c =
    let word = (slice_eq-Decides Decides-eqb c.args.word.now (codes "big") c.eq-2.result c.eq-2.ensures).0 c.if-eq-2.true in
    (two-words c.args.word.now c.args.text.now (codes "big") c.in_ok-number.number word c.in_ok-number.ensures.some.0, c.in_ok-number.ensures.some.1)

pub returns-then-number-le-MAX_WORKERS-clause-some : goal.returns-then-number-le-MAX_WORKERS-clause-some
unfolding word_of
returns-then-number-le-MAX_WORKERS-clause-some c =
    let word = (slice_eq-Decides Decides-eqb c.args.word.now (codes "live") c.eq-3.result c.eq-3.ensures).0 c.if-eq-3.true in (
      two-words c.args.word.now c.args.text.now (codes "live") c.in_ok-number.number word c.in_ok-number.ensures.some.0,
      omega (arith, c.if-number-ge1.true),
      omega (arith, c.if-number-le-MAX_WORKERS.true),
    )

-- At the end the word is none of the three, or the number is none of workers.
pub returns-clause-none : goal.returns-clause-none
returns-clause-none c = λ none command so.
    let make = slice_eq-Decides Decides-eqb c.args.word.now (codes "make") c.eq.result c.eq.ensures in
    let big = slice_eq-Decides Decides-eqb c.args.word.now (codes "big") c.eq-2.result c.eq-2.ensures in
    let live = slice_eq-Decides Decides-eqb c.args.word.now (codes "live") c.eq-3.result c.eq-3.ensures in
    no-numbered c.args.word.now c.args.text.now c.in_ok-number.number c.in_ok-number.ensures.some.1 c.in_ok-number.ensures.some.0
    (λ same. false≢true (sym c.if-eq.false ∙ make.1 same)) (λ same. false≢true (sym c.if-eq-2.false ∙ big.1 same))
    (λ same least most. elim c.else-eq-3.branch [
      | else-eq-3-via-then-eq-3+then-number-ge1+else-number-le-MAX_WORKERS w ↦ absurd (omega (arith, most, w.if-number-le-MAX_WORKERS.false))
      | else-eq-3-via-then-eq-3+else-number-ge1 w ↦ absurd (omega (arith, least, w.if-number-ge1.false))
      | else-eq-3-via-else-eq-3 w ↦ false≢true (sym w.if-eq-3.false ∙ live.1 same)
    ])
    command so
