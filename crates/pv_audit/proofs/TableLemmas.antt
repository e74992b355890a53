-- Words that are looked up in a table.
use Rattle.std.proofs.Common.{◌≡◌, ℕ, ℤ, Bool, true, false, refl, Option, Some, None, IfNone, IfSome, List, [], ◌∷◌, Bor, sym, ap, ◌∙◌}
use Rattle.std.specs.Prelude.{◌||◌, codes, IsTrue}
use Rattle.std.specs.Fmt.{signed_decimal}
use Rattle.std.specs.List.{list_all, list_any}
use Rattle.std.specs.Str.{bytes_eq}
use Rattle.std.proofs.lemmas.Bool.{and_parts, both_ways, false≢true}
use Rattle.std.proofs.lemmas.Slice.Eq.{bytes_eq-Decides}
use Rattle.pv_audit.specs.FirstWords.{first_word}
use Rattle.pv_audit.specs.declared.first.First.{First}
use Rattle.pv_audit.specs.declared.first.First.TheVariants.{Txn, Commit, Refuse, Full, Spent, Down, Up, Stopped, Fault, Started, No, Sent, Order, Committed, Open, Item, End, Total}
use Rattle.pv_audit.specs.Printed.{IsReply}
use Rattle.pv_base.specs.declared.reply.Decline.{Decline}
use Rattle.pv_base.specs.declared.reply.Decline.TheVariants.{Require, Overflow, ZeroDivisor}
use Rattle.pv_base.specs.declared.reply.Reply.{Reply}
use Rattle.pv_base.specs.declared.reply.Reply.TheVariants.{Value, Nothing, Declined}
use Rattle.pv_model.specs.Meaning.{fits_i64}
use Rattle.pv_model.specs.ReplyText.{reply_text}
use Rattle.pv_protocol.specs.Lines.{MessageKind}
use Rattle.pv_protocol.specs.LineText.{kind_text}

pick : (p : List ℕ → Bool) (words : List (List ℕ)) (word w : List ℕ) (b : Bool) → bytes_eq word w ≡ b → (p w ≡ true) × (list_all p words ≡ true)
    → (list_any (λ other. bytes_eq word other) words ≡ true → list_all p words ≡ true → p word ≡ true) → b || list_any (λ other. bytes_eq word other) words ≡ true → p word ≡ true
pick p words word w true same parts later either = ap p ((bytes_eq-Decides word w).0 same) ∙ parts.0
pick p words word w false same parts later either = later either parts.1

-- What each of these words is, this one is, if it is among them.
pub listed : (p : List ℕ → Bool) (words : List (List ℕ)) (word : List ℕ) → list_any (λ other. bytes_eq word other) words ≡ true → list_all p words ≡ true → p word ≡ true
listed p [] word has all = absurd (false≢true has)
listed p (w ∷ words) word has all = pick p words word w (bytes_eq word w) refl (and_parts (p w) (list_all p words) all) (λ behind each. listed p words word behind each) has

-- Where a word isn't in a table that has all these words, it is none of them.
pub unlisted-words : {K : Type 0} (word : List ℕ) (table : List (Bor (List ℕ) × K)) (words : List (List ℕ)) (found : Option K)
    → list_all (λ other. list_any (λ entry. bytes_eq other entry.0.now) table) words ≡ true → IfNone found (list_any (λ entry. bytes_eq word entry.0.now) table ≡ false)
    → IfNone found (list_any (λ other. bytes_eq word other) words ≡ false)
unlisted-words word table words (Some k) covers unlisted = tt
unlisted-words {K} word table words None covers unlisted = go (list_any (λ other. bytes_eq word other) words) refl
  where
    go : (b : Bool) → list_any (λ other. bytes_eq word other) words ≡ b → b ≡ false
    go true has = absurd (both_ways (list_any (λ (entry : Bor (List ℕ) × K). bytes_eq word entry.0.now) table) unlisted
        (listed (λ (other : List ℕ). list_any (λ (entry : Bor (List ℕ) × K). bytes_eq other entry.0.now) table) words word has covers))
    go false has = refl

-- So it is none of the things that are spelled so.
pub table-answer : {K W : Type 0} (text : W → List ℕ) (words : List (List ℕ)) (word : List ℕ) (found : Option K) → ((w : W) → list_any (λ other. bytes_eq (text w) other) words ≡ true)
    → IfNone found (list_any (λ other. bytes_eq word other) words ≡ false) → IfNone found ((w : W) → word ≡ text w → ⊥)
table-answer text words word (Some k) has unlisted = tt
table-answer text words word None has unlisted = λ w same.
    both_ways (list_any (λ other. bytes_eq word other) words) unlisted (ap (λ (b : List ℕ). list_any (λ other. bytes_eq b other) words) same ∙ has w)

-- ---- the words that lines begin with

unfoldable pub first_words : List (List ℕ)
first_words =
    codes "txn" ∷ codes "commit" ∷ codes "refuse" ∷ codes "full" ∷ codes "spent" ∷ codes "down" ∷ codes "up" ∷ codes "stopped" ∷ codes "fault" ∷ codes "started"
    ∷ codes "no" ∷ codes "sent" ∷ codes "order" ∷ codes "committed" ∷ codes "open" ∷ codes "item" ∷ codes "end" ∷ codes "total" ∷ []

pub has-first : (first : First) → list_any (λ other. bytes_eq (first_word first) other) first_words ≡ true
unfolding first_words
has-first Txn = refl
has-first Commit = refl
has-first Refuse = refl
has-first Full = refl
has-first Spent = refl
has-first Down = refl
has-first Up = refl
has-first Stopped = refl
has-first Fault = refl
has-first Started = refl
has-first No = refl
has-first Sent = refl
has-first Order = refl
has-first Committed = refl
has-first Open = refl
has-first Item = refl
has-first End = refl
has-first Total = refl

-- ---- the kinds of messages

unfoldable pub kind_words : List (List ℕ)
kind_words = codes "lock" ∷ codes "granted" ∷ codes "denied" ∷ codes "prepare" ∷ codes "yes" ∷ codes "no" ∷ codes "outcome" ∷ codes "ask" ∷ []

pub has-kind : (kind : MessageKind) → list_any (λ other. bytes_eq (kind_text kind) other) kind_words ≡ true
unfolding kind_words
has-kind MessageKind.lock = refl
has-kind MessageKind.granted = refl
has-kind MessageKind.denied = refl
has-kind MessageKind.prepare = refl
has-kind MessageKind.yes = refl
has-kind MessageKind.no = refl
has-kind MessageKind.outcome = refl
has-kind MessageKind.ask = refl

-- ---- the replies that are no number

-- why a program declined, or that it had nothing to say
abbrev pub reply_of : Option Decline → Reply
reply_of None = Nothing
reply_of (Some decline) = Declined decline

unfoldable pub reply_words : List (List ℕ)
reply_words = codes "nothing" ∷ codes "declined-require" ∷ codes "declined-overflow" ∷ codes "declined-zero-divisor" ∷ []

abbrev pub plain_reply : Option Decline → List ℕ
plain_reply decline = reply_text (reply_of decline)

pub has-reply : (decline : Option Decline) → list_any (λ other. bytes_eq (plain_reply decline) other) reply_words ≡ true
unfolding reply_words
has-reply None = refl
has-reply (Some Require) = refl
has-reply (Some Overflow) = refl
has-reply (Some ZeroDivisor) = refl

pub no-reply : (word : List ℕ) → ((z : ℤ) → IsTrue (fits_i64 z) → word ≡ signed_decimal z → ⊥) → ((decline : Option Decline) → word ≡ plain_reply decline → ⊥)
    → (reply : Reply) → IsReply reply → word ≡ reply_text reply → ⊥
no-reply word number plain (Value v) fits is = number v fits is
no-reply word number plain Nothing fits is = plain None is
no-reply word number plain (Declined decline) fits is = plain (Some decline) is

-- The same where it isn't known whether the word was found.
pub replies-none : {K : Type 0} (word : List ℕ) (found : Option K) → ((z : ℤ) → IsTrue (fits_i64 z) → word ≡ signed_decimal z → ⊥)
    → IfNone found ((decline : Option Decline) → word ≡ plain_reply decline → ⊥) → IfNone found ((reply : Reply) → IsReply reply → word ≡ reply_text reply → ⊥)
replies-none word (Some k) number plain = tt
replies-none word None number plain = no-reply word number plain

-- A reply's text, or these bytes in place of a number.
abbrev pub plain_or : List ℕ → Reply → List ℕ
plain_or other (Value v) = other
plain_or other reply = reply_text reply

-- What is spelled like a reply that is no number is none.
pub found-plain : (word : List ℕ) (found : Option Reply) → IfSome found (λ reply. word ≡ plain_or [] reply) → IfSome found (λ reply. word ≡ plain_or (0 ∷ []) reply) → IfSome found IsReply
found-plain word None first second = tt
found-plain word (Some (Value v)) first second = absurd (let never : [] ≡ 0 ∷ [] = sym first ∙ second in cc)
found-plain word (Some Nothing) first second = tt
found-plain word (Some (Declined decline)) first second = tt
