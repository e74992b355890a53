-- The text of a line is its words, joined by spaces.
use Rattle.std.proofs.Common.{◌≡◌, ℕ, ℤ, List, [], ◌∷◌, ◌++◌, refl, sym, ap, ◌∙◌, append_assoc}
use Rattle.std.specs.Prelude.{codes}
use Rattle.std.specs.Fmt.{decimal, signed_decimal}
use Rattle.std.proofs.lemmas.List.{append-nil}
use Rattle.pv_audit.specs.Words.{cause_words, when_words, case_words, cases_words, line_words}
use Rattle.pv_audit.proofs.SpaceLemmas.{joined, joined-append, joined-spaced, joined-answers}
use Rattle.pv_base.specs.Catalog.{Declared}
use Rattle.pv_base.specs.Polyvalue.{Case}
use Rattle.pv_base.specs.Txn.{txn_text}
use Rattle.pv_base.specs.declared.literal.Literal.{Literal}
use Rattle.pv_model.specs.ReplyText.{reply_text}
use Rattle.pv_protocol.specs.Lines.{Line}
use Rattle.pv_protocol.specs.LineText.{cases_text, cause_text, kind_text, literal_text, name_of, when_text, words_of}
use Rattle.pv_protocol.specs.State.{Cause, conflict, outcome_limit, uncertain, expired, grant_lost, journal_full}

-- ---- causes

joined-cause : (catalog : Declared) (cause : Cause) → cause_text catalog cause ≡ joined (cause_words catalog cause)
joined-cause catalog (conflict site item holder) = refl
joined-cause catalog (outcome_limit names) = refl
joined-cause catalog (uncertain item names) = refl
joined-cause catalog (expired site) = refl
joined-cause catalog (grant_lost site) = refl
joined-cause catalog (journal_full site length) = refl

-- a cause behind a word
behind-cause : (catalog : Declared) (word : List ℕ) (cause : Cause) → joined (word ∷ cause_words catalog cause) ≡ word ++ 32 ∷ joined (cause_words catalog cause)
behind-cause catalog word (conflict site item holder) = refl
behind-cause catalog word (outcome_limit names) = refl
behind-cause catalog word (uncertain item names) = refl
behind-cause catalog word (expired site) = refl
behind-cause catalog word (grant_lost site) = refl
behind-cause catalog word (journal_full site length) = refl

-- ---- cases

joined-case : (value : List ℕ) (when : List Literal) → value ++ when_text when ≡ joined (value ∷ when_words when)
joined-case value [] = append-nil value
joined-case value (literal ∷ literals) =
    ap (λ (rest : List ℕ). value ++ 32 ∷ rest) (sym (joined-spaced literal_text (codes "if") (literal ∷ literals)))

-- Cases are some words,
pub record Begins (words : List (List ℕ)) : Type 0 where
  pub first : List ℕ
  pub rest : List (List ℕ)
  pub are : words ≡ first ∷ rest

pub some-words : (cases : List (Case ℤ)) → Begins (cases_words cases)
some-words [] = record { first = []; rest = []; are = refl }
some-words (case ∷ []) = record { first = signed_decimal case.value; rest = when_words case.when; are = refl }
some-words (case ∷ next ∷ cases) =
    record { first = signed_decimal case.value; rest = when_words case.when ++ codes ";" ∷ cases_words (next ∷ cases); are = refl }

-- and so are words behind another one.
behind-words : (word : List ℕ) (words : List (List ℕ)) → Begins words → joined (word ∷ words) ≡ word ++ 32 ∷ joined words
behind-words word words begins =
    ap (λ (others : List (List ℕ)). joined (word ∷ others)) begins.are ∙ ap (λ (others : List (List ℕ)). word ++ 32 ∷ joined others) (sym begins.are)

joined-cases : (cases : List (Case ℤ)) → cases_text cases ≡ joined (cases_words cases)
joined-cases [] = refl
joined-cases (case ∷ []) = joined-case (signed_decimal case.value) case.when
joined-cases (case ∷ next ∷ cases) =
    ap (λ (first : List ℕ). first ++ (codes " ; " ++ cases_text (next ∷ cases))) (joined-case (signed_decimal case.value) case.when)
    ∙ ap (λ (rest : List ℕ). joined (case_words case) ++ (codes " ; " ++ rest)) (joined-cases (next ∷ cases))
    ∙ ap (λ (rest : List ℕ). joined (case_words case) ++ 32 ∷ rest) (sym (behind-words (codes ";") (cases_words (next ∷ cases)) (some-words (next ∷ cases))))
    ∙ sym (joined-append (signed_decimal case.value) (when_words case.when) (codes ";") (cases_words (next ∷ cases)))

-- ---- lines

joined-way : (number from to kind txn : List ℕ) → number ++ (codes " " ++ (from ++ (codes ">" ++ (to ++ (codes " " ++ (kind ++ (codes " " ++ txn)))))))
    ≡ joined (number ∷ ((from ++ (codes ">" ++ to)) ∷ (kind ∷ (txn ∷ []))))
joined-way number from to kind txn =
    ap (λ (rest : List ℕ). number ++ 32 ∷ rest) (sym (append_assoc from (codes ">" ++ to) (32 ∷ (kind ++ 32 ∷ txn))))

-- The text of a line is its words.
pub joined-line : (catalog : Declared) (line : Line) → words_of catalog line ≡ joined (line_words catalog line)
unfolding words_of
joined-line catalog (Line.txn t) = refl
joined-line catalog (Line.commit t replies) = ap (λ (rest : List ℕ). codes "commit " ++ (txn_text t ++ rest)) (joined-answers reply_text replies)
joined-line catalog (Line.refuse t cause) =
    ap (λ (rest : List ℕ). codes "refuse " ++ (txn_text t ++ (codes " " ++ rest))) (joined-cause catalog cause)
    ∙ ap (λ (rest : List ℕ). codes "refuse " ++ rest) (sym (behind-cause catalog (txn_text t) cause))
joined-line catalog (Line.full site length) = refl
joined-line catalog (Line.spent site) = refl
joined-line catalog (Line.down site) = refl
joined-line catalog (Line.up site) = refl
joined-line catalog (Line.stopped site) = refl
joined-line catalog (Line.fault site) = refl
joined-line catalog (Line.started site epoch) = refl
joined-line catalog (Line.no_message n) = refl
joined-line catalog (Line.sent n from to kind t) =
    ap (λ (rest : List ℕ). codes "sent " ++ rest) (joined-way (decimal n) (decimal from) (decimal to) (kind_text kind) (txn_text t))
joined-line catalog (Line.order txns) = sym (joined-spaced txn_text (codes "order") txns)
joined-line catalog (Line.committed txns) = sym (joined-spaced txn_text (codes "committed") txns)
joined-line catalog (Line.open_ones txns) = sym (joined-spaced txn_text (codes "open") txns)
joined-line catalog (Line.item n cases) =
    ap (λ (rest : List ℕ). codes "item " ++ (name_of catalog n ++ (codes " " ++ rest))) (joined-cases cases)
    ∙ ap (λ (rest : List ℕ). codes "item " ++ rest) (sym (behind-words (name_of catalog n) (cases_words cases) (some-words cases)))
joined-line catalog (Line.item_locked n t) = refl
joined-line catalog (Line.item_down n) = refl
joined-line catalog Line.end = refl
joined-line catalog (Line.total sums) = ap (λ (rest : List ℕ). codes "total" ++ rest) (joined-answers signed_decimal sums)
joined-line catalog (Line.total_locked n) = refl
joined-line catalog (Line.total_down site) = refl
joined-line catalog (Line.total_limit names) = refl
