-- The data of a line are plain, and their text is the line's JSON.
use Rattle.std.proofs.Common.{◌≡◌, ℕ, ℤ, pos, negsuc, List, [], ◌∷◌, true, false, codes, refl, ap, ap₂, ◌∙◌, map}
use Rattle.std.specs.Fmt.{signed_decimal}
use Rattle.serde_json.specs.Data.{Data, number}
use Rattle.serde_json.specs.Find.{of_integer}
use Rattle.serde_json.specs.View.{items_of}
use Rattle.serde_json.specs.Written.{compact_text, has_float, number_text}
use Rattle.pv_base.specs.Catalog.{Declared}
use Rattle.pv_base.specs.Polyvalue.{Case}
use Rattle.pv_base.specs.declared.reply.Decline.TheVariants.{Require, Overflow, ZeroDivisor}
use Rattle.pv_base.specs.declared.reply.Reply.{Reply}
use Rattle.pv_base.specs.declared.reply.Reply.TheVariants.{Value, Nothing, Declined}
use Rattle.pv_protocol.specs.LineText.{kind_text}
use Rattle.pv_protocol.specs.Lines.{Line, MessageKind}
use Rattle.pv_protocol.specs.State.{conflict, outcome_limit, uncertain, expired, grant_lost, journal_full}
use Rattle.pv_report.specs.LineData.{txn_data, reply_data, literal_data, sum_data, case_data, data_of}
use Rattle.pv_report.specs.LineJson as json
use Rattle.pv_report.specs.NamesArePlain.{NamesArePlain}
use Rattle.pv_report.specs.Shown.{is_plain, IsPlain, ArePlain, shown, each_shown}
use Rattle.pv_report.proofs.PlainLemmas.{literal-plain, signed-plain, txn-plain}
use Rattle.pv_report.proofs.ShownLemmas.{compact_text-plain, has_float-plain}

-- ---- lists

each_shown-map : {A : Type 0} (value : A → Data) (text : A → List ℕ) (same : (thing : A) → shown (value thing) ≡ text thing) (things : List A)
    → each_shown (items_of (map value things)) ≡ map text things
each_shown-map value text same [] = refl
each_shown-map value text same (thing ∷ things) = ap₂ (λ (x : List ℕ) (xs : List (List ℕ)). x ∷ xs) (same thing) (each_shown-map value text same things)

each_plain : {A : Type 0} (value : A → Data) (plain : (thing : A) → IsPlain (value thing)) (things : List A) → ArePlain (items_of (map value things))
each_plain value plain [] = tt
each_plain value plain (thing ∷ things) = (plain thing, each_plain value plain things)

-- ---- what stands in them

shown-integer : (z : ℤ) → number_text (of_integer z) ≡ signed_decimal z
shown-integer (pos n) = refl
shown-integer (negsuc n) = refl

shown-reply : (reply : Reply) → shown (reply_data reply) ≡ json.reply_json reply
shown-reply (Value v) = shown-integer v
shown-reply Nothing = refl
shown-reply (Declined decline) = refl

shown-case : (case : Case ℤ) → shown (case_data case) ≡ json.case_json case
shown-case case =
    ap₂ (λ (value : List ℕ) (when : List (List ℕ)). json.object (json.member (codes "value") value ∷ json.member (codes "when") (json.array when) ∷ []))
    (shown-integer case.value) (each_shown-map literal_data json.literal_json (λ literal. refl) case.when)

integer-plain : (z : ℤ) → IsPlain (number (of_integer z))
integer-plain (pos n) = refl
integer-plain (negsuc n) = refl

reply-plain : (reply : Reply) → IsPlain (reply_data reply)
reply-plain (Value v) = integer-plain v
reply-plain Nothing = refl
reply-plain (Declined Require) = refl
reply-plain (Declined Overflow) = refl
reply-plain (Declined ZeroDivisor) = refl

case-plain : (case : Case ℤ) → IsPlain (case_data case)
case-plain case = (refl, integer-plain case.value, (refl, each_plain literal_data literal-plain case.when, tt))

kind-plain : (kind : MessageKind) → is_plain (kind_text kind) ≡ true
kind-plain MessageKind.lock = refl
kind-plain MessageKind.granted = refl
kind-plain MessageKind.denied = refl
kind-plain MessageKind.prepare = refl
kind-plain MessageKind.yes = refl
kind-plain MessageKind.no = refl
kind-plain MessageKind.outcome = refl
kind-plain MessageKind.ask = refl

-- ---- lines

list_json : {A : Type 0} (key : List ℕ) (value : A → Data) (text : A → List ℕ) (same : (thing : A) → shown (value thing) ≡ text thing) (things : List A)
    → json.object (json.member key (json.array (each_shown (items_of (map value things)))) ∷ []) ≡ json.object (json.member key (json.array (map text things)) ∷ [])
list_json key value text same things =
    ap (λ (texts : List (List ℕ)). json.object (json.member key (json.array texts) ∷ [])) (each_shown-map value text same things)

pub shown-line : (catalog : Declared) (line : Line) → shown (data_of catalog line) ≡ json.json_of catalog line
unfolding data_of json.json_of
shown-line catalog (Line.txn t) = refl
shown-line catalog (Line.commit t replies) =
    ap (λ (texts : List (List ℕ)). json.object (json.member (codes "commit") (json.txn_json t) ∷ json.member (codes "replies") (json.array texts) ∷ []))
    (each_shown-map reply_data json.reply_json shown-reply replies)
shown-line catalog (Line.refuse t (conflict site item holder)) = refl
shown-line catalog (Line.refuse t (outcome_limit names)) = refl
shown-line catalog (Line.refuse t (uncertain item names)) = refl
shown-line catalog (Line.refuse t (expired site)) = refl
shown-line catalog (Line.refuse t (grant_lost site)) = refl
shown-line catalog (Line.refuse t (journal_full site length)) = refl
shown-line catalog (Line.full site length) = refl
shown-line catalog (Line.spent site) = refl
shown-line catalog (Line.down site) = refl
shown-line catalog (Line.up site) = refl
shown-line catalog (Line.stopped site) = refl
shown-line catalog (Line.fault site) = refl
shown-line catalog (Line.started site epoch) = refl
shown-line catalog (Line.no_message n) = refl
shown-line catalog (Line.sent n from to kind t) = refl
shown-line catalog (Line.order txns) = list_json (codes "order") txn_data json.txn_json (λ t. refl) txns
shown-line catalog (Line.committed txns) = list_json (codes "committed") txn_data json.txn_json (λ t. refl) txns
shown-line catalog (Line.open_ones txns) = list_json (codes "open") txn_data json.txn_json (λ t. refl) txns
shown-line catalog (Line.item n cases) =
    ap (λ (texts : List (List ℕ)). json.object (json.member (codes "cases") (json.array texts) ∷ json.member (codes "item") (json.name_json catalog n) ∷ []))
    (each_shown-map case_data json.case_json shown-case cases)
shown-line catalog (Line.item_locked n t) = refl
shown-line catalog (Line.item_down n) = refl
shown-line catalog Line.end = refl
shown-line catalog (Line.total sums) = list_json (codes "total") sum_data json.sum_json (λ sum. refl) sums
shown-line catalog (Line.total_locked n) = refl
shown-line catalog (Line.total_down site) = refl
shown-line catalog (Line.total_limit names) = refl

pub plain-line : (catalog : Declared) (line : Line) → NamesArePlain catalog line → IsPlain (data_of catalog line)
unfolding data_of
plain-line catalog (Line.txn t) named = (refl, txn-plain t, tt)
plain-line catalog (Line.commit t replies) named = (refl, txn-plain t, (refl, each_plain reply_data reply-plain replies, tt))
plain-line catalog (Line.refuse t (conflict site item holder)) named =
    (refl, refl, (refl, txn-plain holder, (refl, named, (refl, txn-plain t, (refl, refl, tt)))))
plain-line catalog (Line.refuse t (outcome_limit names)) named = (refl, refl, (refl, refl, (refl, txn-plain t, tt)))
plain-line catalog (Line.refuse t (uncertain item names)) named = (refl, refl, (refl, named, (refl, refl, (refl, txn-plain t, tt))))
plain-line catalog (Line.refuse t (expired site)) named = (refl, refl, (refl, txn-plain t, (refl, refl, tt)))
plain-line catalog (Line.refuse t (grant_lost site)) named = (refl, refl, (refl, txn-plain t, (refl, refl, tt)))
plain-line catalog (Line.refuse t (journal_full site length)) named = (refl, refl, (refl, refl, (refl, txn-plain t, (refl, refl, tt))))
plain-line catalog (Line.full site length) named = (refl, refl, (refl, refl, tt))
plain-line catalog (Line.spent site) named = (refl, refl, tt)
plain-line catalog (Line.down site) named = (refl, refl, tt)
plain-line catalog (Line.up site) named = (refl, refl, tt)
plain-line catalog (Line.stopped site) named = (refl, refl, tt)
plain-line catalog (Line.fault site) named = (refl, refl, tt)
plain-line catalog (Line.started site epoch) named = (refl, refl, (refl, refl, tt))
plain-line catalog (Line.no_message n) named = (refl, refl, tt)
plain-line catalog (Line.sent n from to kind t) named =
    (refl, refl, (refl, kind-plain kind, (refl, refl, (refl, refl, (refl, txn-plain t, tt)))))
plain-line catalog (Line.order txns) named = (refl, each_plain txn_data txn-plain txns, tt)
plain-line catalog (Line.committed txns) named = (refl, each_plain txn_data txn-plain txns, tt)
plain-line catalog (Line.open_ones txns) named = (refl, each_plain txn_data txn-plain txns, tt)
plain-line catalog (Line.item n cases) named = (refl, each_plain case_data case-plain cases, (refl, named, tt))
plain-line catalog (Line.item_locked n t) named = (refl, named, (refl, txn-plain t, tt))
plain-line catalog (Line.item_down n) named = (refl, tt, (refl, named, tt))
plain-line catalog Line.end named = (refl, tt, tt)
plain-line catalog (Line.total sums) named = (refl, each_plain sum_data signed-plain sums, tt)
plain-line catalog (Line.total_locked n) named = (refl, named, (refl, tt, tt))
plain-line catalog (Line.total_down site) named = (refl, refl, (refl, tt, tt))
plain-line catalog (Line.total_limit names) named = (refl, refl, (refl, tt, tt))

-- ---- the whole

-- The text of the data is the line's JSON.
pub compact_text-line : (catalog : Declared) (line : Line) → NamesArePlain catalog line → compact_text (data_of catalog line) ≡ json.json_of catalog line
compact_text-line catalog line named = compact_text-plain (data_of catalog line) (plain-line catalog line named) ∙ shown-line catalog line

-- There is no float in them.
pub has_float-line : (catalog : Declared) (line : Line) → NamesArePlain catalog line → has_float (data_of catalog line) ≡ false
has_float-line catalog line named = has_float-plain (data_of catalog line) (plain-line catalog line named)
