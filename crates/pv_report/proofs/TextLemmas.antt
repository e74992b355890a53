-- What lines print as is text.
use Rattle.std.proofs.Common.{◌≡◌, ◌∙◌, ℕ, ℤ, zero, suc, ◌<◌, Bool, true, List, [], ◌∷◌, ◌++◌, length, refl, arith}
use Rattle.std.specs.Prelude.{codes, IsTrue, slice_get}
use Rattle.std.specs.Cmp.Derive.{both_true}
use Rattle.std.specs.Fmt.{decimal, signed_decimal}
use Rattle.std.specs.List.{list_all, All}
use Rattle.std.specs.Option.{option_map_or}
use Rattle.std.proofs.lemmas.Bool.{and_parts}
use Rattle.std.proofs.lemmas.Bool.Decides.{nat_tests}
use Rattle.std.proofs.lemmas.List.Folds.{list_all-append}
use Rattle.pv_base.specs.Catalog.{Declared, Item}
use Rattle.pv_base.specs.Name.{is_name}
use Rattle.pv_base.specs.Polyvalue.{Case}
use Rattle.pv_base.specs.Txn.{txn_text}
use Rattle.pv_base.specs.declared.literal.Literal.{Literal}
use Rattle.pv_base.specs.declared.reply.Decline.TheVariants.{Require, Overflow, ZeroDivisor}
use Rattle.pv_base.specs.declared.reply.Reply.{Reply}
use Rattle.pv_base.specs.declared.reply.Reply.TheVariants.{Value, Nothing, Declined}
use Rattle.pv_base.specs.declared.txn.TxnId.{TxnId}
use Rattle.pv_model.specs.ReplyText.{reply_text}
use Rattle.pv_model.specs.Text.{is_text_byte}
use Rattle.pv_protocol.specs.LineText.{answers_text, case_text, cases_text, cause_text, certainty, kind_text, literal_text, name_of, spaced, when_text, words_of}
use Rattle.pv_protocol.specs.Lines.{Line, MessageKind}
use Rattle.pv_protocol.specs.State.{Cause, conflict, outcome_limit, uncertain, expired, grant_lost, journal_full}
use Rattle.pv_report.proofs.PlainLemmas.{decimal-plain, literal-plain, name-plain, signed-plain, txn-plain}
use Rattle.pv_report.specs.NamesOnlyItems.{CauseNamesOnlyItems, HasItem, NamesOnlyItems}
use Rattle.pv_report.specs.Shown.{is_plain, is_plain_byte}

-- The items of the catalog have names.
abbrev AreNamed : Declared → Type 0
AreNamed catalog = All (λ (item : Item). IsTrue (is_name item.name)) catalog.items

abbrev is_text : List ℕ → Bool
is_text bytes = list_all is_text_byte bytes

text-append : (xs ys : List ℕ) → is_text xs ≡ true → is_text ys ≡ true → is_text (xs ++ ys) ≡ true
text-append xs ys first second = list_all-append is_text_byte xs ys ∙ both_true first second

-- What needs no escape is text.
plain-byte : (b : ℕ) → is_plain_byte b ≡ true → is_text_byte b ≡ true
plain-byte b plain = grind (arith, nat_tests, plain)

plain-text : (bytes : List ℕ) → is_plain bytes ≡ true → is_text bytes ≡ true
plain-text [] plain = refl
plain-text (b ∷ bytes) plain =
    let parts = and_parts (is_plain_byte b) (is_plain bytes) plain in
    both_true (plain-byte b parts.0) (plain-text bytes parts.1)

text-decimal : (n : ℕ) → is_text (decimal n) ≡ true
text-decimal n = plain-text (decimal n) (decimal-plain n)

text-signed : (z : ℤ) → is_text (signed_decimal z) ≡ true
text-signed z = plain-text (signed_decimal z) (signed-plain z)

text-txn : (txn : TxnId) → is_text (txn_text txn) ≡ true
text-txn txn = plain-text (txn_text txn) (txn-plain txn)

text-literal : (literal : Literal) → is_text (literal_text literal) ≡ true
text-literal literal = plain-text (literal_text literal) (literal-plain literal)

text-name : (catalog : Declared) (n : ℕ) → AreNamed catalog → HasItem catalog n → is_text (name_of catalog n) ≡ true
text-name catalog n named has = go catalog.items n named has
  where
    go : (items : List Item) (n : ℕ) → All (λ (item : Item). IsTrue (is_name item.name)) items → n < length items
        → is_text (option_map_or (λ item. item.name) (slice_get items n) []) ≡ true
    go [] n each below = absurd (omega (arith, below))
    go (item ∷ items) zero each below = plain-text item.name (name-plain item.name (each 0 item (omega arith)))
    go (item ∷ items) (suc n) each below = go items n (λ k d l. each (suc k) d (omega (arith, l))) (omega (arith, below))

-- ---- answers, causes and cases

text-spaced : {A : Type 0} (text : A → List ℕ) → ((thing : A) → is_text (text thing) ≡ true) → (things : List A) → is_text (spaced text things) ≡ true
text-spaced text is [] = refl
text-spaced text is (thing ∷ things) = text-append (codes " " ++ text thing) (spaced text things) (is thing) (text-spaced text is things)

text-certainty : {A : Type 0} (answers : List A) → is_text (certainty answers) ≡ true
text-certainty [] = refl
text-certainty (answer ∷ []) = refl
text-certainty (answer ∷ other ∷ answers) = refl

text-answers : {A : Type 0} (text : A → List ℕ) → ((answer : A) → is_text (text answer) ≡ true) → (answers : List A) → is_text (answers_text text answers) ≡ true
text-answers text is answers = text-append (certainty answers) (spaced text answers) (text-certainty answers) (text-spaced text is answers)

text-reply : (reply : Reply) → is_text (reply_text reply) ≡ true
text-reply (Value v) = text-signed v
text-reply Nothing = refl
text-reply (Declined Require) = refl
text-reply (Declined Overflow) = refl
text-reply (Declined ZeroDivisor) = refl

text-kind : (kind : MessageKind) → is_text (kind_text kind) ≡ true
text-kind MessageKind.lock = refl
text-kind MessageKind.granted = refl
text-kind MessageKind.denied = refl
text-kind MessageKind.prepare = refl
text-kind MessageKind.yes = refl
text-kind MessageKind.no = refl
text-kind MessageKind.outcome = refl
text-kind MessageKind.ask = refl

text-cause : (catalog : Declared) (cause : Cause) → AreNamed catalog → CauseNamesOnlyItems catalog cause → is_text (cause_text catalog cause) ≡ true
text-cause catalog (conflict site item holder) named has =
    text-append (decimal site) _ (text-decimal site) (text-append (name_of catalog item) (codes " " ++ txn_text holder) (text-name catalog item named has) (text-txn holder))
text-cause catalog (outcome_limit names) named has = text-decimal names
text-cause catalog (uncertain item names) named has = text-append (name_of catalog item) (codes " " ++ decimal names) (text-name catalog item named has) (text-decimal names)
text-cause catalog (expired site) named has = text-decimal site
text-cause catalog (grant_lost site) named has = text-decimal site
text-cause catalog (journal_full site length) named has = text-append (decimal site) (codes " " ++ decimal length) (text-decimal site) (text-decimal length)

text-when : (when : List Literal) → is_text (when_text when) ≡ true
text-when [] = refl
text-when (literal ∷ literals) = text-spaced literal_text text-literal (literal ∷ literals)

text-case : (case : Case ℤ) → is_text (case_text case) ≡ true
text-case case = text-append (signed_decimal case.value) (when_text case.when) (text-signed case.value) (text-when case.when)

text-cases : (cases : List (Case ℤ)) → is_text (cases_text cases) ≡ true
text-cases [] = refl
text-cases (case ∷ []) = text-case case
text-cases (case ∷ next ∷ cases) = text-append (case_text case) (codes " ; " ++ cases_text (next ∷ cases)) (text-case case) (text-cases (next ∷ cases))

-- ---- lines

pub text-line : (catalog : Declared) (line : Line) → AreNamed catalog → NamesOnlyItems catalog line → is_text (words_of catalog line) ≡ true
unfolding words_of
text-line catalog (Line.txn t) named has = text-txn t
text-line catalog (Line.commit t replies) named has = text-append (txn_text t) (answers_text reply_text replies) (text-txn t) (text-answers reply_text text-reply replies)
text-line catalog (Line.refuse t cause) named has = text-append (txn_text t) (codes " " ++ cause_text catalog cause) (text-txn t) (text-cause catalog cause named has)
text-line catalog (Line.full site length) named has = text-append (decimal site) (codes " " ++ decimal length) (text-decimal site) (text-decimal length)
text-line catalog (Line.spent site) named has = text-decimal site
text-line catalog (Line.down site) named has = text-decimal site
text-line catalog (Line.up site) named has = text-decimal site
text-line catalog (Line.stopped site) named has = text-decimal site
text-line catalog (Line.fault site) named has = text-decimal site
text-line catalog (Line.started site epoch) named has = text-append (decimal site) (codes " " ++ decimal epoch) (text-decimal site) (text-decimal epoch)
text-line catalog (Line.no_message n) named has = text-decimal n
text-line catalog (Line.sent n from to kind t) named has =
    text-append (decimal n) _ (text-decimal n)
    (text-append (decimal from) _ (text-decimal from)
    (text-append (decimal to) (codes " " ++ (kind_text kind ++ (codes " " ++ txn_text t))) (text-decimal to)
    (text-append (kind_text kind) (codes " " ++ txn_text t) (text-kind kind) (text-txn t))))
text-line catalog (Line.order txns) named has = text-spaced txn_text text-txn txns
text-line catalog (Line.committed txns) named has = text-spaced txn_text text-txn txns
text-line catalog (Line.open_ones txns) named has = text-spaced txn_text text-txn txns
text-line catalog (Line.item n cases) named has = text-append (name_of catalog n) (codes " " ++ cases_text cases) (text-name catalog n named has) (text-cases cases)
text-line catalog (Line.item_locked n t) named has = text-append (name_of catalog n) (codes " locked " ++ txn_text t) (text-name catalog n named has) (text-txn t)
text-line catalog (Line.item_down n) named has = text-append (name_of catalog n) (codes " down") (text-name catalog n named has) refl
text-line catalog Line.end named has = refl
text-line catalog (Line.total sums) named has = text-answers signed_decimal text-signed sums
text-line catalog (Line.total_locked n) named has = text-name catalog n named has
text-line catalog (Line.total_down site) named has = text-decimal site
text-line catalog (Line.total_limit names) named has = text-decimal names
