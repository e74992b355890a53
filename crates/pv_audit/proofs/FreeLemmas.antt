-- The words of a line have no space in them.
use Rattle.std.proofs.Common.{◌≡◌, ℕ, ℤ, pos, negsuc, suc, Bool, true, false, cond, zero, ◌<◌, List, [], ◌∷◌, ◌++◌, length, map, nat_le, refl, ◌∙◌, arith}
use Rattle.std.specs.Prelude.{◌&&◌, ◌==◌, not, codes, slice_get, IsTrue}
use Rattle.std.specs.Option.{option_map_or}
use Rattle.std.specs.Fmt.{decimal, signed_decimal}
use Rattle.std.specs.Cmp.Derive.{both_true}
use Rattle.std.specs.List.{list_all, All}
use Rattle.std.proofs.lemmas.Bool.{and_parts}
use Rattle.std.proofs.lemmas.Bool.Decides.{nat_tests}
use Rattle.std.proofs.lemmas.List.Folds.{list_all-append}
use Rattle.pv_audit.specs.FirstWords.{first_of, first_word}
use Rattle.pv_audit.specs.Printed.{AreNamed}
use Rattle.pv_audit.specs.Words.{answer_words, cause_words, when_words, case_words, cases_words, certainty_word, line_words, rest_words}
use Rattle.pv_audit.specs.declared.first.First.{First}
use Rattle.pv_audit.specs.declared.first.First.TheVariants.{Txn, Commit, Refuse, Full, Spent, Down, Up, Stopped, Fault, Started, No, Sent, Order, Committed, Open, Item, End, Total}
use Rattle.pv_audit.proofs.NumberLemmas.{decimal-digits}
use Rattle.pv_audit.proofs.SpaceLemmas.{is_space, is_free, are_free}
use Rattle.pv_base.specs.Catalog.{Declared, Item as DeclaredItem}
use Rattle.pv_base.specs.Name.{is_digit, is_name, is_spelled_as_name, is_keyword, is_lower, continues_name}
use Rattle.pv_base.specs.Polyvalue.{Case}
use Rattle.pv_base.specs.Txn.{txn_text}
use Rattle.pv_base.specs.declared.limits.TheConstants.{MAX_NAME}
use Rattle.pv_base.specs.declared.literal.Literal.{Literal}
use Rattle.pv_base.specs.declared.reply.Decline.TheVariants.{Require, Overflow, ZeroDivisor}
use Rattle.pv_base.specs.declared.reply.Reply.{Reply}
use Rattle.pv_base.specs.declared.reply.Reply.TheVariants.{Value, Nothing, Declined}
use Rattle.pv_base.specs.declared.txn.TxnId.{TxnId}
use Rattle.pv_model.specs.ReplyText.{reply_text}
use Rattle.pv_protocol.specs.Lines.{Line, MessageKind}
use Rattle.pv_protocol.specs.LineText.{kind_text, literal_text, name_of}
use Rattle.pv_protocol.specs.State.{Cause, conflict, outcome_limit, uncertain, expired, grant_lost, journal_full}
use Rattle.pv_report.specs.NamesOnlyItems.{HasItem, CauseNamesOnlyItems, NamesOnlyItems}

free-append : (xs ys : List ℕ) → is_free xs ≡ true → is_free ys ≡ true → is_free (xs ++ ys) ≡ true
free-append xs ys first second = list_all-append (λ b. not (is_space b)) xs ys ∙ both_true first second

are_free-append : (xs ys : List (List ℕ)) → are_free xs ≡ true → are_free ys ≡ true → are_free (xs ++ ys) ≡ true
are_free-append xs ys first second = list_all-append is_free xs ys ∙ both_true first second

are_free-map : {A : Type 0} (text : A → List ℕ) → ((thing : A) → is_free (text thing) ≡ true) → (things : List A) → are_free (map text things) ≡ true
are_free-map text free [] = refl
are_free-map text free (thing ∷ things) = both_true (free thing) (are_free-map text free things)

-- ---- numbers

digits-free : (text : List ℕ) → list_all is_digit text ≡ true → is_free text ≡ true
digits-free [] digits = refl
digits-free (b ∷ text) digits =
    let parts = and_parts (is_digit b) (list_all is_digit text) digits in
    let free : not (is_space b) ≡ true = grind (arith, nat_tests, parts.0) in
    both_true free (digits-free text parts.1)

free-decimal : (n : ℕ) → is_free (decimal n) ≡ true
free-decimal n = digits-free (decimal n) (decimal-digits n)

free-signed : (z : ℤ) → is_free (signed_decimal z) ≡ true
free-signed (pos n) = free-decimal n
free-signed (negsuc n) = free-decimal (suc n)

-- ---- transactions, replies and kinds

free-txn : (txn : TxnId) → is_free (txn_text txn) ≡ true
free-txn txn =
    free-append (decimal txn.site.0) _ (free-decimal txn.site.0)
    (free-append (decimal txn.epoch) (codes "." ++ decimal txn.number) (free-decimal txn.epoch) (free-decimal txn.number))

free-literal : (literal : Literal) → is_free (literal_text literal) ≡ true
free-literal literal = by_sign literal.commits
  where
    by_sign : (commits : Bool) → is_free (cond commits (codes "+") (codes "-") ++ txn_text literal.txn) ≡ true
    by_sign true = free-txn literal.txn
    by_sign false = free-txn literal.txn

free-reply : (reply : Reply) → is_free (reply_text reply) ≡ true
free-reply (Value v) = free-signed v
free-reply Nothing = refl
free-reply (Declined Require) = refl
free-reply (Declined Overflow) = refl
free-reply (Declined ZeroDivisor) = refl

free-kind : (kind : MessageKind) → is_free (kind_text kind) ≡ true
free-kind MessageKind.lock = refl
free-kind MessageKind.granted = refl
free-kind MessageKind.denied = refl
free-kind MessageKind.prepare = refl
free-kind MessageKind.yes = refl
free-kind MessageKind.no = refl
free-kind MessageKind.outcome = refl
free-kind MessageKind.ask = refl

-- ---- names

continued-free : (text : List ℕ) → list_all continues_name text ≡ true → is_free text ≡ true
continued-free [] named = refl
continued-free (b ∷ text) named =
    let parts = and_parts (continues_name b) (list_all continues_name text) named in
    let free : not (is_space b) ≡ true = grind (arith, nat_tests, parts.0) in
    both_true free (continued-free text parts.1)

spelled-free : (text : List ℕ) → is_spelled_as_name text ≡ true → is_free text ≡ true
unfolding is_spelled_as_name
spelled-free [] named = refl
spelled-free (b ∷ text) named =
    let parts = and_parts (is_lower b) (list_all continues_name text) named in
    let free : not (is_space b) ≡ true = grind (arith, nat_tests, parts.0) in
    both_true free (continued-free text parts.1)

name-free : (text : List ℕ) → IsTrue (is_name text) → is_free text ≡ true
unfolding is_name
name-free text named =
    let parts = and_parts (nat_le (length text) MAX_NAME && is_spelled_as_name text) (not (is_keyword text)) named in
    spelled-free text (and_parts (nat_le (length text) MAX_NAME) (is_spelled_as_name text) parts.0).1

free-name : (catalog : Declared) (n : ℕ) → AreNamed catalog → HasItem catalog n → is_free (name_of catalog n) ≡ true
free-name catalog n named has = go catalog.items n named.names has
  where
    go : (items : List DeclaredItem) (n : ℕ) → All (λ (item : DeclaredItem). IsTrue (is_name item.name)) items → n < length items
        → is_free (option_map_or (λ item. item.name) (slice_get items n) []) ≡ true
    go [] n each below = absurd (omega (arith, below))
    go (item ∷ items) zero each below = name-free item.name (each 0 item (omega arith))
    go (item ∷ items) (suc n) each below = go items n (λ k d l. each (suc k) d (omega (arith, l))) (omega (arith, below))

-- ---- answers, causes and cases

free-certainty : (n : ℕ) → is_free (certainty_word n) ≡ true
free-certainty n = by_one (n == 1)
  where
    by_one : (one : Bool) → is_free (cond one (codes "certain") (codes "possible")) ≡ true
    by_one true = refl
    by_one false = refl

free-answers : {A : Type 0} (text : A → List ℕ) → ((answer : A) → is_free (text answer) ≡ true) → (answers : List A) → are_free (answer_words text answers) ≡ true
free-answers text free answers = both_true (free-certainty (length answers)) (are_free-map text free answers)

free-cause : (catalog : Declared) (cause : Cause) → AreNamed catalog → CauseNamesOnlyItems catalog cause → are_free (cause_words catalog cause) ≡ true
free-cause catalog (conflict site item holder) named has = both_true (free-decimal site) (both_true (free-name catalog item named has) (both_true (free-txn holder) refl))
free-cause catalog (outcome_limit names) named has = both_true (free-decimal names) refl
free-cause catalog (uncertain item names) named has = both_true (free-name catalog item named has) (both_true (free-decimal names) refl)
free-cause catalog (expired site) named has = both_true (free-decimal site) refl
free-cause catalog (grant_lost site) named has = both_true (free-decimal site) refl
free-cause catalog (journal_full site length) named has = both_true (free-decimal site) (both_true (free-decimal length) refl)

free-when : (when : List Literal) → are_free (when_words when) ≡ true
free-when [] = refl
free-when (literal ∷ literals) = are_free-map literal_text free-literal (literal ∷ literals)

free-case : (case : Case ℤ) → are_free (case_words case) ≡ true
free-case case = both_true (free-signed case.value) (free-when case.when)

free-cases : (cases : List (Case ℤ)) → are_free (cases_words cases) ≡ true
free-cases [] = refl
free-cases (case ∷ []) = free-case case
free-cases (case ∷ next ∷ cases) = are_free-append (case_words case) (codes ";" ∷ cases_words (next ∷ cases)) (free-case case) (free-cases (next ∷ cases))

-- ---- lines

free-first : (first : First) → is_free (first_word first) ≡ true
free-first Txn = refl
free-first Commit = refl
free-first Refuse = refl
free-first Full = refl
free-first Spent = refl
free-first Down = refl
free-first Up = refl
free-first Stopped = refl
free-first Fault = refl
free-first Started = refl
free-first No = refl
free-first Sent = refl
free-first Order = refl
free-first Committed = refl
free-first Open = refl
free-first Item = refl
free-first End = refl
free-first Total = refl

free-rest : (catalog : Declared) (line : Line) → AreNamed catalog → NamesOnlyItems catalog line → are_free (rest_words catalog line) ≡ true
free-rest catalog (Line.txn t) named has = both_true (free-txn t) refl
free-rest catalog (Line.commit t replies) named has = both_true (free-txn t) (free-answers reply_text free-reply replies)
free-rest catalog (Line.refuse t cause) named has = both_true (free-txn t) (free-cause catalog cause named has)
free-rest catalog (Line.full site length) named has = both_true (free-decimal site) (both_true (free-decimal length) refl)
free-rest catalog (Line.spent site) named has = both_true (free-decimal site) refl
free-rest catalog (Line.down site) named has = both_true (free-decimal site) refl
free-rest catalog (Line.up site) named has = both_true (free-decimal site) refl
free-rest catalog (Line.stopped site) named has = both_true (free-decimal site) refl
free-rest catalog (Line.fault site) named has = both_true (free-decimal site) refl
free-rest catalog (Line.started site epoch) named has = both_true (free-decimal site) (both_true (free-decimal epoch) refl)
free-rest catalog (Line.no_message n) named has = both_true (free-decimal n) refl
free-rest catalog (Line.sent n from to kind t) named has =
    both_true (free-decimal n)
    (both_true (free-append (decimal from) (codes ">" ++ decimal to) (free-decimal from) (free-decimal to)) (both_true (free-kind kind) (both_true (free-txn t) refl)))
free-rest catalog (Line.order txns) named has = are_free-map txn_text free-txn txns
free-rest catalog (Line.committed txns) named has = are_free-map txn_text free-txn txns
free-rest catalog (Line.open_ones txns) named has = are_free-map txn_text free-txn txns
free-rest catalog (Line.item n cases) named has = both_true (free-name catalog n named has) (free-cases cases)
free-rest catalog (Line.item_locked n t) named has = both_true (free-name catalog n named has) (both_true (free-txn t) refl)
free-rest catalog (Line.item_down n) named has = both_true (free-name catalog n named has) refl
free-rest catalog Line.end named has = refl
free-rest catalog (Line.total sums) named has = free-answers signed_decimal free-signed sums
free-rest catalog (Line.total_locked n) named has = both_true (free-name catalog n named has) refl
free-rest catalog (Line.total_down site) named has = both_true (free-decimal site) refl
free-rest catalog (Line.total_limit names) named has = both_true (free-decimal names) refl

pub free-line : (catalog : Declared) (line : Line) → AreNamed catalog → NamesOnlyItems catalog line → are_free (line_words catalog line) ≡ true
free-line catalog line named has = both_true (free-first (first_of line)) (free-rest catalog line named has)
