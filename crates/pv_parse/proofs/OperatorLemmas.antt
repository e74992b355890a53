-- Operators and marks, where they are expected and where others stand.
use Rattle.std.proofs.Common.{◌≡◌, ℕ, Bool, true, false, Some, None, List, [], ◌∷◌, ◌<◌, ◌≤◌, arith, refl, sym, ap, ◌∙◌, subst}
use Rattle.std.specs.Prelude.{IsTrue, if◌then◌else◌}
use Rattle.pv_base.specs.declared.limits.TheConstants.{MAX_DEPTH}
use Rattle.pv_model.specs.Syntax as model
use Rattle.pv_model.specs.Tokens.{Token}
use Rattle.pv_model.specs.Grammar.{Chain, joins, compares, side, chain, sum}
use Rattle.pv_model.specs.ProgramText.{too_deep, item_in}
use Rattle.pv_law_programs.specs.Prediction.{more, comparing, phrase, punctuation, Punctuation, is_punctuation, Expected, after_symbol, is_unknown, placed}
use Rattle.pv_base.proofs.Basics.{never, heads}
use Rattle.pv_parse.specs.declared.error.ParseError.TheVariants.{Malformed, TooDeep}
use Rattle.pv_parse.specs.declared.parser.Punctuation.{Punctuation as Marked}
use Rattle.pv_parse.specs.declared.parser.Punctuation.TheVariants.{Becomes, Open, Close, OpenBody, CloseBody, Comma}
use Rattle.pv_parse.specs.ChainView.{punctuation_of, token_of_punctuation}
use Rattle.pv_parse.specs.ReadingSteps.{Columned, Context, fault_in, has_no_operator, rest_of, Skips, FailsWith, PassesPunctuation}
use Rattle.pv_parse.proofs.StepLemmas.{fault-on, fault-deep, fault-none, fault-end, place-on, skips}

-- no operator, no more sides
more-none : (c : Chain) (d column : ℕ) (t : Token) (rest : Columned) (k : List Expected) → IsTrue (has_no_operator ((column, t) ∷ rest)) → after_symbol (more c) d t k ≡ None
more-none c d column (Token.operator op) rest k h = absurd (never h)
more-none c d column _ rest k h = refl

comparing-none : (d column : ℕ) (t : Token) (rest : Columned) (k : List Expected) → IsTrue (has_no_operator ((column, t) ∷ rest)) → after_symbol comparing d t k ≡ None
comparing-none d column (Token.operator op) rest k h = absurd (never h)
comparing-none d column _ rest k h = refl

pub skips-more : (context : Context) (c : Chain) (d : ℕ) (ts : Columned) → IsTrue (has_no_operator ts) → Skips context (d, more c) ts
skips-more context c d ts h = skips context (more c) d ts refl (λ t rest k e. more-none c d t.0 t.1 rest k (subst (λ (x : Columned). IsTrue (has_no_operator x)) e h))

pub skips-comparing : (context : Context) (d : ℕ) (ts : Columned) → IsTrue (has_no_operator ts) → Skips context (d, comparing) ts
skips-comparing context d ts h = skips context comparing d ts refl (λ t rest k e. comparing-none d t.0 t.1 rest k (subst (λ (x : Columned). IsTrue (has_no_operator x)) e h))

more-other : (c : Chain) (d : ℕ) (op : model.Op) (k : List Expected) → joins c op ≡ false → after_symbol (more c) d (Token.operator op) k ≡ None
more-other c d op k h = ap (λ (b : Bool). if b then Some ((d, phrase (side c)) ∷ (d, more c) ∷ k) else None) h

comparing-other : (d : ℕ) (op : model.Op) (k : List Expected) → compares op ≡ false → after_symbol comparing d (Token.operator op) k ≡ None
comparing-other d op k h = ap (λ (b : Bool). if b then Some ((d, phrase (chain sum)) ∷ k) else None) h

pub more-joined : (c : Chain) (d : ℕ) (op : model.Op) (k : List Expected) → joins c op ≡ true → after_symbol (more c) d (Token.operator op) k ≡ Some ((d, phrase (side c)) ∷ (d, more c) ∷ k)
more-joined c d op k h = ap (λ (b : Bool). if b then Some ((d, phrase (side c)) ∷ (d, more c) ∷ k) else None) h

pub comparing-compared : (d : ℕ) (op : model.Op) (k : List Expected) → compares op ≡ true → after_symbol comparing d (Token.operator op) k ≡ Some ((d, phrase (chain sum)) ∷ k)
comparing-compared d op k h = ap (λ (b : Bool). if b then Some ((d, phrase (chain sum)) ∷ k) else None) h

pub skips-more-other : (context : Context) (c : Chain) (d column : ℕ) (op : model.Op) (ts rest : Columned) → ts ≡ (column, Token.operator op) ∷ rest → joins c op ≡ false → Skips context (d, more c) ts
skips-more-other context c d column op ts rest e h =
    skips context (more c) d ts refl
    (λ t after k same.
    let is : Token.operator op ≡ t.1 = ap (λ (x : ℕ × Token). x.1) (heads (sym e ∙ same)) in
    subst (λ (x : Token). after_symbol (more c) d x k ≡ None) is (more-other c d op k h))

pub skips-comparing-other : (context : Context) (d column : ℕ) (op : model.Op) (ts rest : Columned) → ts ≡ (column, Token.operator op) ∷ rest → compares op ≡ false → Skips context (d, comparing) ts
skips-comparing-other context d column op ts rest e h =
    skips context comparing d ts refl
    (λ t after k same.
    let is : Token.operator op ≡ t.1 = ap (λ (x : ℕ × Token). x.1) (heads (sym e ∙ same)) in
    subst (λ (x : Token). after_symbol comparing d x k ≡ None) is (comparing-other d op k h))

pub stops-more : (context : Context) (c : Chain) (d column : ℕ) (op : model.Op) (ts rest : Columned) → ts ≡ (column, Token.operator op) ∷ rest → joins c op ≡ true → MAX_DEPTH < d
    → FailsWith context (d, more c) ts (TooDeep column)
stops-more context c d column op ts rest e h deep =
    λ k. subst (λ (x : Columned). fault_in context ((d, more c) ∷ k) x ≡ Some (too_deep, column)) (sym e)
    (fault-deep context (more c) d column (Token.operator op) rest k ((d, phrase (side c)) ∷ (d, more c) ∷ k) (more-joined c d op k h) refl deep)

pub stops-comparing : (context : Context) (d column : ℕ) (op : model.Op) (ts rest : Columned) → ts ≡ (column, Token.operator op) ∷ rest → compares op ≡ true → MAX_DEPTH < d
    → FailsWith context (d, comparing) ts (TooDeep column)
stops-comparing context d column op ts rest e h deep =
    λ k. subst (λ (x : Columned). fault_in context ((d, comparing) ∷ k) x ≡ Some (too_deep, column)) (sym e)
    (fault-deep context comparing d column (Token.operator op) rest k ((d, phrase (chain sum)) ∷ k) (comparing-compared d op k h) refl deep)

-- marks

pub mark-is : (m : Marked) (t : Token) → is_punctuation (punctuation_of m) t ≡ true → t ≡ token_of_punctuation m
mark-is Becomes Token.becomes h = refl
mark-is Becomes _ h = absurd (never h)
mark-is Open Token.opens h = refl
mark-is Open _ h = absurd (never h)
mark-is Close Token.closes h = refl
mark-is Close _ h = absurd (never h)
mark-is OpenBody Token.opens_body h = refl
mark-is OpenBody _ h = absurd (never h)
mark-is CloseBody Token.closes_body h = refl
mark-is CloseBody _ h = absurd (never h)
mark-is Comma Token.parts h = refl
mark-is Comma _ h = absurd (never h)

mark-behind : (m : Punctuation) (d : ℕ) (t : Token) (k : List Expected) (b : Bool) → is_punctuation m t ≡ b → after_symbol (punctuation m) d t k ≡ (if b then Some k else None)
mark-behind m d t k b h = ap (λ (b : Bool). if b then Some k else None) h

mark-known : (context : Context) (m : Marked) → is_unknown (item_in context.catalog) (token_of_punctuation m) ≡ false
mark-known context Becomes = refl
mark-known context Open = refl
mark-known context Close = refl
mark-known context OpenBody = refl
mark-known context CloseBody = refl
mark-known context Comma = refl

pub passes-mark : (context : Context) (m : Marked) (d column : ℕ) (t : Token) (ts : Columned) → ts ≡ (column, t) ∷ rest_of ts → is_punctuation (punctuation_of m) t ≡ true → d ≤ MAX_DEPTH
    → PassesPunctuation context (punctuation_of m) (token_of_punctuation m) d ts (rest_of ts)
passes-mark context m d column t [] e h shallow = absurd cc
passes-mark context m d column t (x ∷ ts) e h shallow =
    let same : t ≡ token_of_punctuation m = mark-is m t h in
    let at : x ≡ (column, token_of_punctuation m) = heads e ∙ ap (λ (y : Token). (column, y)) same in
    let is : is_punctuation (punctuation_of m) (token_of_punctuation m) ≡ true = subst (λ (y : Token). is_punctuation (punctuation_of m) y ≡ true) same h in
    record {
      fault = λ k. subst (λ (y : ℕ × Token). fault_in context ((d, punctuation (punctuation_of m)) ∷ k) (y ∷ ts) ≡ fault_in context k ts) (sym at)
          (fault-on context (punctuation (punctuation_of m)) d column (token_of_punctuation m) ts k k (mark-behind (punctuation_of m) d (token_of_punctuation m) k true is) (mark-known context m) shallow);
      place = λ k. subst (λ (y : ℕ × Token). placed ((d, punctuation (punctuation_of m)) ∷ k) (y ∷ ts) ≡ (d, token_of_punctuation m) ∷ placed k ts) (sym at)
          (place-on (punctuation (punctuation_of m)) d column (token_of_punctuation m) ts k k (mark-behind (punctuation_of m) d (token_of_punctuation m) k true is));
      fewer = omega arith;
    }

pub stops-mark-deep : (context : Context) (m : Marked) (d column : ℕ) (t : Token) (ts : Columned) → ts ≡ (column, t) ∷ rest_of ts → is_punctuation (punctuation_of m) t ≡ true → MAX_DEPTH < d
    → FailsWith context (d, punctuation (punctuation_of m)) ts (TooDeep column)
stops-mark-deep context m d column t ts e h deep =
    let same : t ≡ token_of_punctuation m = mark-is m t h in
    let is : is_punctuation (punctuation_of m) (token_of_punctuation m) ≡ true = subst (λ (y : Token). is_punctuation (punctuation_of m) y ≡ true) same h in
    λ k. subst (λ (x : Columned). fault_in context ((d, punctuation (punctuation_of m)) ∷ k) x ≡ Some (too_deep, column)) (sym (e ∙ ap (λ (y : Token). (column, y) ∷ rest_of ts) same))
    (fault-deep context (punctuation (punctuation_of m)) d column (token_of_punctuation m) (rest_of ts) k k (mark-behind (punctuation_of m) d (token_of_punctuation m) k true is) (mark-known context m) deep)

pub stops-mark-other : (context : Context) (m : Punctuation) (d : ℕ) (t : ℕ × Token) (rest : Columned) → is_punctuation m t.1 ≡ false → FailsWith context (d, punctuation m) (t ∷ rest) (Malformed t.0)
stops-mark-other context m d t rest h = λ k. fault-none context (punctuation m) d t.0 t.1 rest k (mark-behind m d t.1 k false h) refl

pub stops-mark-end : (context : Context) (m : Punctuation) (d : ℕ) → FailsWith context (d, punctuation m) [] (Malformed context.after_text)
stops-mark-end context m d = λ k. fault-end context (punctuation m) d k refl
