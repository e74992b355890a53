-- How the parts of expressions that hold closest are put together from what is read of them.
use Rattle.std.proofs.Common.{◌≡◌, ℕ, suc, ◌+◌, ◌^◌, pos, Bool, true, false, Option, Some, None, List, [], ◌∷◌, ◌<◌, ◌≤◌, length, arith, refl, sym, ap, ◌∙◌, subst}
use Rattle.std.specs.Prelude.{IsTrue, nat_lt, if◌then◌else◌}
use Rattle.std.specs.Option.{option_map_or}
use Rattle.std.proofs.lemmas.Bool.{lt-ltb, le-ltb}
use Rattle.pv_base.specs.declared.limits.TheConstants.{MAX_DEPTH}
use Rattle.pv_model.specs.Syntax as model
use Rattle.pv_model.specs.Syntax.Op.{sub, lesser, larger}
use Rattle.pv_model.specs.Syntax.Expr.{number, item, minus, two}
use Rattle.pv_model.specs.Tokens.{Token}
use Rattle.pv_model.specs.Grammar as grammar
use Rattle.pv_model.specs.Grammar.{Nested, disjunction, chain, unary, is_min_or_max, Reads}
use Rattle.pv_model.specs.ProgramText.{item_in}
use Rattle.pv_law_programs.specs.Prediction.{phrase, punctuation, opens, closes, comma, Expected, after_symbol, placed, is_unknown}
use Rattle.pv_parse.specs.declared.error.ParseError.{ParseError}
use Rattle.pv_parse.specs.declared.error.ParseError.TheVariants.{Malformed, UnknownName, TooDeep}
use Rattle.pv_parse.specs.ReadingSteps.{Columned, Context, fault_in, is_minus, FailsWith, ReadsPhrase, PassesPunctuation}
use denote.Ref.{Bor}
use Rattle.pv_ast.specs.declared.expr.Op.{Op}
use Rattle.pv_parse.specs.declared.token.Token.{Token as Read}
use Rattle.pv_parse.specs.declared.token.Token.TheVariants.{Name, Number, Operator, Open}
use Rattle.pv_parse.specs.TokenView.{token_of}
use Rattle.pv_parse.proofs.StepLemmas.{fault-on, fault-deep, fault-unknown, fault-none, fault-end, place-on}
use Rattle.pv_parse.proofs.ExpressionLemmas.{FailsWith-through, one_more}

-- The next token begins what is expected; behind it this is expected.
pub record Begins (context : Context) (e : Expected) (t : Token) (column : ℕ) (before after : Columned) (behind : List Expected → List Expected) : Type 0 where
  pub split : before ≡ (column, t) ∷ after
  pub known : is_unknown (item_in context.catalog) t ≡ false
  pub leads : (k : List Expected) → after_symbol e.1 e.0 t k ≡ Some (behind k)

pub begins-fault : (context : Context) (e : Expected) (t : Token) (column : ℕ) (before after : Columned) (behind : List Expected → List Expected)
    → Begins context e t column before after behind → e.0 ≤ MAX_DEPTH → (k : List Expected) → fault_in context (e ∷ k) before ≡ fault_in context (behind k) after
begins-fault context e t column before after behind b shallow k =
    ap (λ (ts : Columned). fault_in context (e ∷ k) ts) b.split ∙ fault-on context e.1 e.0 column t after k (behind k) (b.leads k) b.known shallow

pub begins-place : (context : Context) (e : Expected) (t : Token) (column : ℕ) (before after : Columned) (behind : List Expected → List Expected)
    → Begins context e t column before after behind → (k : List Expected) → placed (e ∷ k) before ≡ (e.0, t) ∷ placed (behind k) after
begins-place context e t column before after behind b k =
    ap (λ (ts : Columned). placed (e ∷ k) ts) b.split ∙ place-on e.1 e.0 column t after k (behind k) (b.leads k)

pub begins-fewer : (context : Context) (e : Expected) (t : Token) (column : ℕ) (before after : Columned) (behind : List Expected → List Expected)
    → Begins context e t column before after behind → length before ≡ suc (length after)
begins-fewer context e t column before after behind b = ap (λ (ts : Columned). length ts) b.split

pub begins-deep : (context : Context) (e : Expected) (t : Token) (column : ℕ) (before after : Columned) (behind : List Expected → List Expected)
    → Begins context e t column before after behind → MAX_DEPTH < e.0 → FailsWith context e before (TooDeep column)
begins-deep context e t column before after behind b deep = λ k.
    ap (λ (ts : Columned). fault_in context (e ∷ k) ts) b.split ∙ fault-deep context e.1 e.0 column t after k (behind k) (b.leads k) b.known deep

-- numbers

fits : (n d : ℕ) (k : List Expected) (b : Bool) → nat_lt n (2 ^ 63) ≡ b → after_symbol (phrase unary) d (Token.number n) k ≡ (if b then Some k else None)
fits n d k b h = ap (λ (x : Bool). if x then Some k else None) h

pub begins-number : (context : Context) (n d column : ℕ) (before after : Columned) → before ≡ (column, Token.number n) ∷ after → n < 2 ^ 63
    → Begins context (d, phrase unary) (Token.number n) column before after (λ k. k)
begins-number context n d column before after e h = record { split = e; known = refl; leads = λ k. fits n d k true (lt-ltb n (2 ^ 63) h) }

pub number-large : (context : Context) (n d column : ℕ) (before after : Columned) → before ≡ (column, Token.number n) ∷ after → 2 ^ 63 ≤ n
    → FailsWith context (d, phrase unary) before (Malformed column)
number-large context n d column before after e h = λ k.
    ap (λ (ts : Columned). fault_in context ((d, phrase unary) ∷ k) ts) e ∙ fault-none context (phrase unary) d column (Token.number n) after k (fits n d k false (le-ltb n (2 ^ 63) h)) refl

pub reads-number : (context : Context) (n d column : ℕ) (before after : Columned) → before ≡ (column, Token.number n) ∷ after → n < 2 ^ 63 → d ≤ MAX_DEPTH
    → ReadsPhrase context unary d before after (number (pos n))
reads-number context n d column before after e h shallow =
    let b = begins-number context n d column before after e h in
    let shorter = begins-fewer context (d, phrase unary) (Token.number n) column before after (λ k. k) b in
    record {
      fault = begins-fault context (d, phrase unary) (Token.number n) column before after (λ k. k) b shallow;
      reads = λ k.
          subst (λ ts. Reads (item_in context.catalog) unary d ts (placed k after) (number (pos n)))
          (sym (begins-place context (d, phrase unary) (Token.number n) column before after (λ k. k) b k)) (grammar.numeral n d (placed k after) h);
      fewer = omega (arith, shorter);
    }

-- names

pub known-name : (context : Context) (word : List ℕ) (n : ℕ) → item_in context.catalog word ≡ Some n → is_unknown (item_in context.catalog) (Token.name word) ≡ false
known-name context word n h = ap (λ (x : Option ℕ). option_map_or (λ (n : ℕ). false) x true) h

pub unknown-name : (context : Context) (word : List ℕ) → item_in context.catalog word ≡ None → is_unknown (item_in context.catalog) (Token.name word) ≡ true
unknown-name context word h = ap (λ (x : Option ℕ). option_map_or (λ (n : ℕ). false) x true) h

pub begins-name : (context : Context) (word : List ℕ) (n d column : ℕ) (before after : Columned) → before ≡ (column, Token.name word) ∷ after → item_in context.catalog word ≡ Some n
    → Begins context (d, phrase unary) (Token.name word) column before after (λ k. k)
begins-name context word n d column before after e h = record { split = e; known = known-name context word n h; leads = λ k. refl }

pub reads-name : (context : Context) (word : List ℕ) (n d column : ℕ) (before after : Columned) → before ≡ (column, Token.name word) ∷ after → item_in context.catalog word ≡ Some n → d ≤ MAX_DEPTH
    → ReadsPhrase context unary d before after (item n)
reads-name context word n d column before after e h shallow =
    let b = begins-name context word n d column before after e h in
    let shorter = begins-fewer context (d, phrase unary) (Token.name word) column before after (λ k. k) b in
    record {
      fault = begins-fault context (d, phrase unary) (Token.name word) column before after (λ k. k) b shallow;
      reads = λ k.
          subst (λ ts. Reads (item_in context.catalog) unary d ts (placed k after) (item n))
          (sym (begins-place context (d, phrase unary) (Token.name word) column before after (λ k. k) b k)) (grammar.named word n d (placed k after) h);
      fewer = omega (arith, shorter);
    }

-- What a name may be refused for where an expression is expected.
pub stops-name : (context : Context) (word : List ℕ) (d column : ℕ) (before after : Columned) (error : ParseError) → before ≡ (column, Token.name word) ∷ after
    → (x : Option ℕ) → item_in context.catalog word ≡ x → (x ≡ None → error ≡ UnknownName column) → ((n : ℕ) → x ≡ Some n → (error ≡ TooDeep column) × (MAX_DEPTH < d))
    → FailsWith context (d, phrase unary) before error
stops-name context word d column before after error e None h unknown deep =
    subst (λ (x : ParseError). FailsWith context (d, phrase unary) before x) (sym (unknown refl))
    (λ k. ap (λ (ts : Columned). fault_in context ((d, phrase unary) ∷ k) ts) e ∙ fault-unknown context (phrase unary) d column (Token.name word) after k k refl (unknown-name context word h))
stops-name context word d column before after error e (Some n) h unknown deep =
    let is = deep n refl in
    subst (λ (x : ParseError). FailsWith context (d, phrase unary) before x) (sym is.0)
    (begins-deep context (d, phrase unary) (Token.name word) column before after (λ k. k) (begins-name context word n d column before after e h) is.1)

-- `-` before its one side

pub begins-minus : (context : Context) (d column : ℕ) (before after : Columned) → before ≡ (column, Token.operator sub) ∷ after
    → Begins context (d, phrase unary) (Token.operator sub) column before after (λ k. (suc d, phrase unary) ∷ k)
begins-minus context d column before after e = record { split = e; known = refl; leads = λ k. refl }

pub reads-minus : (context : Context) (d column : ℕ) (before mid after : Columned) (e : model.Expr) → before ≡ (column, Token.operator sub) ∷ mid → d ≤ MAX_DEPTH
    → ReadsPhrase context unary (d + 1) mid after e → ReadsPhrase context unary d before after (minus e)
reads-minus context d column before mid after e split shallow read =
    let p : ReadsPhrase context unary (suc d) mid after e = subst (λ (n : ℕ). ReadsPhrase context unary n mid after e) (one_more d) read in
    let b = begins-minus context d column before mid split in
    let shorter = begins-fewer context (d, phrase unary) (Token.operator sub) column before mid (λ k. (suc d, phrase unary) ∷ k) b in
    let inner = p.fewer in
    record {
      fault = λ k. begins-fault context (d, phrase unary) (Token.operator sub) column before mid (λ k. (suc d, phrase unary) ∷ k) b shallow k ∙ p.fault k;
      reads = λ k.
          subst (λ ts. Reads (item_in context.catalog) unary d ts (placed k after) (minus e))
          (sym (begins-place context (d, phrase unary) (Token.operator sub) column before mid (λ k. (suc d, phrase unary) ∷ k) b k))
          (grammar.negative d (placed ((suc d, phrase unary) ∷ k) mid) (placed k after) e (p.reads k));
      fewer = omega (arith, shorter, inner);
    }

pub stops-minus : (context : Context) (d column : ℕ) (before mid : Columned) (error : ParseError) → before ≡ (column, Token.operator sub) ∷ mid → d ≤ MAX_DEPTH
    → FailsWith context (d + 1, phrase unary) mid error → FailsWith context (d, phrase unary) before error
stops-minus context d column before mid error split shallow s =
    let b = begins-minus context d column before mid split in
    FailsWith-through context (d, phrase unary) (suc d, phrase unary) (λ k. k) before mid
    (begins-fault context (d, phrase unary) (Token.operator sub) column before mid (λ k. (suc d, phrase unary) ∷ k) b shallow) error
    (subst (λ (n : ℕ). FailsWith context (n, phrase unary) mid error) (one_more d) s)

-- brackets

abbrev in_brackets : ℕ → List Expected → List Expected
in_brackets d k = (suc d, phrase (chain disjunction)) ∷ (d, punctuation closes) ∷ k

pub begins-brackets : (context : Context) (d column : ℕ) (before after : Columned) → before ≡ (column, Token.opens) ∷ after
    → Begins context (d, phrase unary) Token.opens column before after (in_brackets d)
begins-brackets context d column before after e = record { split = e; known = refl; leads = λ k. refl }

pub reads-brackets : (context : Context) (d column : ℕ) (before mid now after : Columned) (e : model.Expr) → before ≡ (column, Token.opens) ∷ mid → d ≤ MAX_DEPTH
    → ReadsPhrase context (chain disjunction) (d + 1) mid now e → PassesPunctuation context closes Token.closes d now after → ReadsPhrase context unary d before after e
reads-brackets context d column before mid now after e split shallow read close =
    let p : ReadsPhrase context (chain disjunction) (suc d) mid now e = subst (λ (n : ℕ). ReadsPhrase context (chain disjunction) n mid now e) (one_more d) read in
    let b = begins-brackets context d column before mid split in
    let shorter = begins-fewer context (d, phrase unary) Token.opens column before mid (in_brackets d) b in
    let inner = p.fewer in
    let last = close.fewer in
    record {
      fault = λ k. begins-fault context (d, phrase unary) Token.opens column before mid (in_brackets d) b shallow k ∙ p.fault ((d, punctuation closes) ∷ k) ∙ close.fault k;
      reads = λ k.
          subst (λ ts. Reads (item_in context.catalog) unary d ts (placed k after) e)
          (sym (begins-place context (d, phrase unary) Token.opens column before mid (in_brackets d) b k))
          (grammar.in_brackets d (placed (in_brackets d k) mid) (placed k after) e
          (subst (λ ts. Reads (item_in context.catalog) (chain disjunction) (suc d) (placed (in_brackets d k) mid) ts e) (close.place k) (p.reads ((d, punctuation closes) ∷ k))));
      fewer = omega (arith, shorter, inner, last);
    }

pub stops-brackets-inner : (context : Context) (d column : ℕ) (before mid : Columned) (error : ParseError) → before ≡ (column, Token.opens) ∷ mid → d ≤ MAX_DEPTH
    → FailsWith context (d + 1, phrase (chain disjunction)) mid error → FailsWith context (d, phrase unary) before error
stops-brackets-inner context d column before mid error split shallow s =
    let b = begins-brackets context d column before mid split in
    FailsWith-through context (d, phrase unary) (suc d, phrase (chain disjunction)) (λ k. (d, punctuation closes) ∷ k) before mid
    (begins-fault context (d, phrase unary) Token.opens column before mid (in_brackets d) b shallow) error
    (subst (λ (n : ℕ). FailsWith context (n, phrase (chain disjunction)) mid error) (one_more d) s)

pub stops-brackets-close : (context : Context) (d column : ℕ) (before mid now : Columned) (e : model.Expr) (error : ParseError) → before ≡ (column, Token.opens) ∷ mid → d ≤ MAX_DEPTH
    → ReadsPhrase context (chain disjunction) (d + 1) mid now e → FailsWith context (d, punctuation closes) now error → FailsWith context (d, phrase unary) before error
stops-brackets-close context d column before mid now e error split shallow read s =
    let p : ReadsPhrase context (chain disjunction) (suc d) mid now e = subst (λ (n : ℕ). ReadsPhrase context (chain disjunction) n mid now e) (one_more d) read in
    let b = begins-brackets context d column before mid split in
    FailsWith-through context (d, phrase unary) (d, punctuation closes) (λ k. k) before now
    (λ k. begins-fault context (d, phrase unary) Token.opens column before mid (in_brackets d) b shallow k ∙ p.fault ((d, punctuation closes) ∷ k)) error s

-- the lesser or the larger of two

abbrev second_side : ℕ → List Expected → List Expected
second_side d k = (suc d, phrase (chain disjunction)) ∷ (d, punctuation closes) ∷ k

abbrev first_side : ℕ → List Expected → List Expected
first_side d k = (suc d, phrase (chain disjunction)) ∷ (suc d, punctuation comma) ∷ second_side d k

abbrev both_sides : ℕ → List Expected → List Expected
both_sides d k = (d, punctuation opens) ∷ first_side d k

sides_of : (op : model.Op) (d : ℕ) (k : List Expected) → IsTrue (is_min_or_max op) → after_symbol (phrase unary) d (Token.operator op) k ≡ Some (both_sides d k)
sides_of lesser d k h = refl
sides_of larger d k h = refl
sides_of _ d k h = let e : false ≡ true = h in absurd cc

pub begins-two : (context : Context) (op : model.Op) (d column : ℕ) (before after : Columned) → before ≡ (column, Token.operator op) ∷ after → IsTrue (is_min_or_max op)
    → Begins context (d, phrase unary) (Token.operator op) column before after (both_sides d)
begins-two context op d column before after e h = record { split = e; known = refl; leads = λ k. sides_of op d k h }

-- What has been read of two sides so far leads to what is expected behind it.
pub record Led (context : Context) (d : ℕ) (before now : Columned) (behind : List Expected → List Expected) : Type 0 where
  pub fault : (k : List Expected) → fault_in context ((d, phrase unary) ∷ k) before ≡ fault_in context (behind k) now

pub led-word : (context : Context) (op : model.Op) (d column : ℕ) (before after : Columned) → before ≡ (column, Token.operator op) ∷ after → IsTrue (is_min_or_max op) → d ≤ MAX_DEPTH
    → Led context d before after (both_sides d)
led-word context op d column before after e h shallow =
    record { fault = begins-fault context (d, phrase unary) (Token.operator op) column before after (both_sides d) (begins-two context op d column before after e h) shallow }

pub led-open : (context : Context) (d : ℕ) (before now after : Columned) → Led context d before now (both_sides d) → PassesPunctuation context opens Token.opens d now after
    → Led context d before after (first_side d)
led-open context d before now after l p = record { fault = λ k. l.fault k ∙ p.fault (first_side d k) }

pub led-first : (context : Context) (d : ℕ) (before now after : Columned) (e : model.Expr) → Led context d before now (first_side d)
    → ReadsPhrase context (chain disjunction) (d + 1) now after e → Led context d before after (λ k. (suc d, punctuation comma) ∷ second_side d k)
led-first context d before now after e l read =
    let p : ReadsPhrase context (chain disjunction) (suc d) now after e = subst (λ (n : ℕ). ReadsPhrase context (chain disjunction) n now after e) (one_more d) read in
    record { fault = λ k. l.fault k ∙ p.fault ((suc d, punctuation comma) ∷ second_side d k) }

pub led-comma : (context : Context) (d : ℕ) (before now after : Columned) → Led context d before now (λ k. (suc d, punctuation comma) ∷ second_side d k)
    → PassesPunctuation context comma Token.parts (d + 1) now after → Led context d before after (second_side d)
led-comma context d before now after l pass =
    let p : PassesPunctuation context comma Token.parts (suc d) now after = subst (λ (n : ℕ). PassesPunctuation context comma Token.parts n now after) (one_more d) pass in
    record { fault = λ k. l.fault k ∙ p.fault (second_side d k) }

pub led-second : (context : Context) (d : ℕ) (before now after : Columned) (e : model.Expr) → Led context d before now (second_side d)
    → ReadsPhrase context (chain disjunction) (d + 1) now after e → Led context d before after (λ k. (d, punctuation closes) ∷ k)
led-second context d before now after e l read =
    let p : ReadsPhrase context (chain disjunction) (suc d) now after e = subst (λ (n : ℕ). ReadsPhrase context (chain disjunction) n now after e) (one_more d) read in
    record { fault = λ k. l.fault k ∙ p.fault ((d, punctuation closes) ∷ k) }

-- A fault behind what has been read so far.
pub led-stops : (context : Context) (d : ℕ) (before now : Columned) (e : Expected) (behind : List Expected → List Expected) (error : ParseError)
    → Led context d before now (λ k. e ∷ behind k) → FailsWith context e now error → FailsWith context (d, phrase unary) before error
led-stops context d before now e behind error l s = FailsWith-through context (d, phrase unary) e behind before now l.fault error s

pub led-stops-first : (context : Context) (d : ℕ) (before now : Columned) (error : ParseError) → Led context d before now (first_side d)
    → FailsWith context (d + 1, phrase (chain disjunction)) now error → FailsWith context (d, phrase unary) before error
led-stops-first context d before now error l s =
    led-stops context d before now (suc d, phrase (chain disjunction)) (λ k. (suc d, punctuation comma) ∷ second_side d k) error l
    (subst (λ (n : ℕ). FailsWith context (n, phrase (chain disjunction)) now error) (one_more d) s)

pub led-stops-comma : (context : Context) (d : ℕ) (before now : Columned) (error : ParseError) → Led context d before now (λ k. (suc d, punctuation comma) ∷ second_side d k)
    → FailsWith context (d + 1, punctuation comma) now error → FailsWith context (d, phrase unary) before error
led-stops-comma context d before now error l s =
    led-stops context d before now (suc d, punctuation comma) (second_side d) error l (subst (λ (n : ℕ). FailsWith context (n, punctuation comma) now error) (one_more d) s)

pub led-stops-second : (context : Context) (d : ℕ) (before now : Columned) (error : ParseError) → Led context d before now (second_side d)
    → FailsWith context (d + 1, phrase (chain disjunction)) now error → FailsWith context (d, phrase unary) before error
led-stops-second context d before now error l s =
    led-stops context d before now (suc d, phrase (chain disjunction)) (λ k. (d, punctuation closes) ∷ k) error l
    (subst (λ (n : ℕ). FailsWith context (n, phrase (chain disjunction)) now error) (one_more d) s)

pub reads-two : (context : Context) (op : model.Op) (d column : ℕ) (before t1 t2 t3 t4 t5 after : Columned) (left right : model.Expr)
    → before ≡ (column, Token.operator op) ∷ t1 → IsTrue (is_min_or_max op) → d ≤ MAX_DEPTH → PassesPunctuation context opens Token.opens d t1 t2
    → ReadsPhrase context (chain disjunction) (d + 1) t2 t3 left → PassesPunctuation context comma Token.parts (d + 1) t3 t4
    → ReadsPhrase context (chain disjunction) (d + 1) t4 t5 right → PassesPunctuation context closes Token.closes d t5 after
    → ReadsPhrase context unary d before after (two op left right)
reads-two context op d column before t1 t2 t3 t4 t5 after left right split m shallow opened first parted second closed =
    let p : ReadsPhrase context (chain disjunction) (suc d) t2 t3 left = subst (λ (n : ℕ). ReadsPhrase context (chain disjunction) n t2 t3 left) (one_more d) first in
    let q : ReadsPhrase context (chain disjunction) (suc d) t4 t5 right = subst (λ (n : ℕ). ReadsPhrase context (chain disjunction) n t4 t5 right) (one_more d) second in
    let c : PassesPunctuation context comma Token.parts (suc d) t3 t4 = subst (λ (n : ℕ). PassesPunctuation context comma Token.parts n t3 t4) (one_more d) parted in
    let b = begins-two context op d column before t1 split m in
    let shorter = begins-fewer context (d, phrase unary) (Token.operator op) column before t1 (both_sides d) b in
    let f1 = opened.fewer in
    let f2 = p.fewer in
    let f3 = c.fewer in
    let f4 = q.fewer in
    let f5 = closed.fewer in
    let l2 = led-open context d before t1 t2 (led-word context op d column before t1 split m shallow) opened in
    let l5 = led-second context d before t4 t5 right (led-comma context d before t3 t4 (led-first context d before t2 t3 left l2 first) parted) second in
    record {
      fault = λ k. l5.fault k ∙ closed.fault k;
      reads = λ k.
          subst (λ ts. Reads (item_in context.catalog) unary d ts (placed k after) (two op left right))
          (sym (begins-place context (d, phrase unary) (Token.operator op) column before t1 (both_sides d) b k ∙ ap (λ (ts : List Nested). (d, Token.operator op) ∷ ts) (opened.place (first_side d k))))
          (grammar.of_two op d (placed (first_side d k) t2) (placed (second_side d k) t4) (placed k after) left right m
          (subst (λ ts. Reads (item_in context.catalog) (chain disjunction) (suc d) (placed (first_side d k) t2) ts left) (c.place (second_side d k)) (p.reads ((suc d, punctuation comma) ∷ second_side d k)))
          (subst (λ ts. Reads (item_in context.catalog) (chain disjunction) (suc d) (placed (second_side d k) t4) ts right) (closed.place k) (q.reads ((d, punctuation closes) ∷ k))));
      fewer = omega (arith, shorter, f1, f2, f3, f4, f5);
    }

-- the tokens that begin no such part

abbrev pub begins_none : Token → Bool
begins_none (Token.number n) = false
begins_none (Token.name word) = false
begins_none Token.opens = false
begins_none (Token.operator sub) = false
begins_none (Token.operator lesser) = false
begins_none (Token.operator larger) = false
begins_none _ = true

-- a token that is none of these
pub other-token : (t : Read) → ((word : Bor (List ℕ)) → t ≡ Name word → ⊥) → ((digits : Bor (List ℕ)) → t ≡ Number digits → ⊥) → (t ≡ Open → ⊥)
    → ((op : Op) → t ≡ Operator op → ⊥) → IsTrue (begins_none (token_of t))
other-token (Name word) a b c d = absurd (a word refl)
other-token (Number digits) a b c d = absurd (b digits refl)
other-token Open a b c d = absurd (c refl)
other-token (Operator op) a b c d = absurd (d op refl)
other-token _ a b c d = refl

pub other-operator : (op : model.Op) → is_min_or_max op ≡ false → is_minus op ≡ false → IsTrue (begins_none (Token.operator op))
other-operator sub a b = let e : true ≡ false = b in absurd cc
other-operator lesser a b = let e : true ≡ false = a in absurd cc
other-operator larger a b = let e : true ≡ false = a in absurd cc
other-operator _ a b = refl

pub minus-is : (op : model.Op) → is_minus op ≡ true → op ≡ sub
minus-is sub h = refl
minus-is _ h = let e : false ≡ true = h in absurd cc

pub unary-none : (d : ℕ) (t : Token) (k : List Expected) → IsTrue (begins_none t) → after_symbol (phrase unary) d t k ≡ None
unary-none d (Token.number n) k h = let e : false ≡ true = h in absurd cc
unary-none d (Token.name word) k h = let e : false ≡ true = h in absurd cc
unary-none d Token.opens k h = let e : false ≡ true = h in absurd cc
unary-none d (Token.operator sub) k h = let e : false ≡ true = h in absurd cc
unary-none d (Token.operator lesser) k h = let e : false ≡ true = h in absurd cc
unary-none d (Token.operator larger) k h = let e : false ≡ true = h in absurd cc
unary-none d _ k h = refl

pub unary-other : (context : Context) (d column : ℕ) (t : Token) (before after : Columned) → before ≡ (column, t) ∷ after → IsTrue (begins_none t) → FailsWith context (d, phrase unary) before (Malformed column)
unary-other context d column t before after e h = λ k.
    ap (λ (ts : Columned). fault_in context ((d, phrase unary) ∷ k) ts) e ∙ fault-none context (phrase unary) d column t after k (unary-none d t k h) refl

pub unary-end : (context : Context) (d : ℕ) → FailsWith context (d, phrase unary) [] (Malformed context.after_text)
unary-end context d = λ k. fault-end context (phrase unary) d k refl
