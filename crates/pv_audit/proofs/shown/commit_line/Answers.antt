-- The words behind the first are a transaction and its replies.
use Rattle.std.proofs.Common.{ℕ, List, ◌∷◌, map, refl, sym, ap₂, ◌∙◌, length}
use Rattle.pv_audit.specs.Words.{answer_words, certainty_word}
use Rattle.pv_audit.proofs.CutLemmas.{same-head}
use Rattle.pv_audit.proofs.PartsLemmas.{behind, some-words}
use Rattle.pv_audit.proofs.ShownLemmas.{are-answers, not-certain}
use Rattle.pv_base.specs.Txn.{txn_text}
use Rattle.pv_model.specs.ReplyText.{reply_text}
use Rattle.pv_audit.proofs.shown.commit_line.Goals as goal

pub returns-in_default : goal.returns-in_default
returns-in_default c = λ catalog x has. some-words c.args.words.now (txn_text x.0) (answer_words reply_text x.1) c.in_default.ensures.none has.are

pub returns-in_default-split_word : goal.returns-in_default-split_word
returns-in_default-split_word c = λ catalog x has.
    some-words c.in-Some.rest.now (certainty_word (length x.1)) (map reply_text x.1) c.in_default-split_word.ensures.none (behind (sym c.in-Some.ensures.some ∙ has.are))

pub returns-in_default-txn_in : goal.returns-in_default-txn_in
returns-in_default-txn_in c = λ catalog x has. c.in_default-txn_in.ensures.none x.0 has.within.0 (same-head (sym c.in-Some.ensures.some ∙ has.are))

pub returns-then-not-is_certainty : goal.returns-then-not-is_certainty
returns-then-not-is_certainty c = λ catalog x has.
    not-certain reply_text c.in-Some-split_word.answers.now c.in-Some-split_word.certainty.now x.1 (rw c.if-not-is_certainty.true at c.is_certainty.ensures)
    (sym c.in-Some-split_word.ensures.some ∙ behind (sym c.in-Some.ensures.some ∙ has.are))

pub returns : goal.returns
returns c =
    let found = rw c.in-Some-2.is at c.in_ok-replies.ensures in
    λ catalog. (
      (c.in-Some-txn_in.txn, c.in-Some-2.replies.items),
      record {
        are = c.in-Some.ensures.some ∙ ap₂ (λ (w : List ℕ) (ws : List (List ℕ)). w ∷ ws) c.in-Some-txn_in.ensures.txn
            (c.in-Some-split_word.ensures.some
            ∙ are-answers reply_text c.in-Some-split_word.answers.now c.in-Some-split_word.certainty.now c.in-Some-2.replies.items
            (rw c.if-not-is_certainty.false at c.is_certainty.ensures) found.0);
        items = tt;
        within = (c.in-Some-txn_in.ensures.within, found.1);
      },
      refl,
    )
