-- How what stands behind `require` is put together from what is read of it.
use Rattle.std.proofs.Common.{◌≡◌, ℕ, suc, Bool, true, false, Option, Some, None, List, [], ◌∷◌, ◌<◌, ◌≤◌, length, arith, refl, sym, ap, ◌∙◌, subst}
use Rattle.std.specs.Prelude.{IsTrue}
use Rattle.pv_base.specs.declared.limits.TheConstants.{MAX_DEPTH}
use denote.Ref.{Bor}
use Rattle.pv_ast.specs.declared.expr.Expr.{Expr}
use Rattle.pv_ast.specs.declared.program.Stmt.TheVariants.{Require, Certain}
use Rattle.pv_ast.specs.ExprView.{expr_of}
use Rattle.pv_base.specs.declared.catalog.ItemId.{ItemId}
use Rattle.pv_model.specs.Syntax as model
use Rattle.pv_model.specs.Tokens.{Token}
use Rattle.pv_model.specs.Grammar as grammar
use Rattle.pv_model.specs.Grammar.{Nested, disjunction, chain, ReadsProgram}
use Rattle.pv_model.specs.ProgramText.{item_in}
use Rattle.pv_law_programs.specs.Prediction.{phrase, requirement, item_name, Expected, after_symbol, placed, step}
use Rattle.pv_parse.specs.declared.error.ParseError.{ParseError}
use Rattle.pv_parse.specs.declared.error.ParseError.TheVariants.{Malformed, UnknownName, TooDeep}
use Rattle.pv_parse.specs.declared.token.Token.{Token as Read}
use Rattle.pv_parse.specs.declared.token.Token.TheVariants as read
use Rattle.pv_parse.specs.declared.cursor.Word.TheVariants as word
use Rattle.pv_parse.specs.TokenView.{token_of}
use Rattle.pv_parse.specs.Words.{has_no_word, FailsTooDeep}
use Rattle.pv_parse.specs.ReadingSteps.{Columned, Context, fault_in, FailsWith, PassesToken, ReadsPhrase}
use Rattle.pv_parse.specs.ReadingPrograms.{PassesName, ReadsRequired}
use Rattle.pv_parse.proofs.StepLemmas.{fault-deep, fault-none, fault-end, fault-unknown}
use Rattle.pv_parse.proofs.ExpressionLemmas.{Alike, alike, FailsWith-through}
use Rattle.pv_parse.proofs.ProgramLemmas.{expression}
use Rattle.pv_parse.proofs.UnaryLemmas.{Begins, begins-deep, begins-fault, begins-fewer, begins-place, known-name, unknown-name}

-- A test.

test-step : (d : ℕ) (k : List Expected) (t : ℕ × Token) (rest : Columned) → IsTrue (has_no_word word.Certain (t ∷ rest))
    → step ((d, requirement) ∷ k) t.1 ≡ step (expression d ∷ k) t.1
unfolding step
test-step d k (column, Token.certain) rest h = let e : false ≡ true = h in absurd cc
test-step d k (column, _) rest h = refl

test-alike : (context : Context) (d : ℕ) (k : List Expected) (ts : Columned) → IsTrue (has_no_word word.Certain ts)
    → Alike context ((d, requirement) ∷ k) (expression d ∷ k) ts
test-alike context d k ts h =
    alike context ((d, requirement) ∷ k) (expression d ∷ k) ts refl (λ t rest e. test-step d k t rest (subst (λ (x : Columned). IsTrue (has_no_word word.Certain x)) e h))

pub reads-test : (context : Context) (d : ℕ) (before after : Columned) (e : Expr) → IsTrue (has_no_word word.Certain before)
    → ReadsPhrase context (chain disjunction) d before after (expr_of e) → ReadsRequired context d before after (Require e)
reads-test context d before after e h p = record {
  fault = λ k. (test-alike context d k before h).fault ∙ p.fault k;
  reads = λ k later q n.
      subst (λ (ts : List Nested). ReadsProgram (item_in context.catalog) d ((d, Token.requires) ∷ ts) later (model.require (expr_of e) q))
      (sym (test-alike context d k before h).place)
      (grammar.requires d (placed (expression d ∷ k) before) (placed k after) later (expr_of e) q (p.reads k) n);
  fewer = p.fewer;
}

pub stops-test : (context : Context) (d : ℕ) (before : Columned) (error : ParseError) → IsTrue (has_no_word word.Certain before)
    → FailsWith context (expression d) before error → FailsWith context (d, requirement) before error
stops-test context d before error h s =
    FailsWith-through context (d, requirement) (expression d) (λ k. k) before before (λ k. (test-alike context d k before h).fault) error s

-- That an item be certain.

certain-begins : (context : Context) (d column : ℕ) (before after : Columned) → before ≡ (column, Token.certain) ∷ after
    → Begins context (d, requirement) Token.certain column before after (λ k. (d, item_name) ∷ k)
certain-begins context d column before after e = record { split = e; known = refl; leads = λ k. refl }

name-begins : (context : Context) (d n column : ℕ) (word : List ℕ) (before after : Columned) → before ≡ (column, Token.name word) ∷ after
    → item_in context.catalog word ≡ Some n → Begins context (d, item_name) (Token.name word) column before after (λ k. k)
name-begins context d n column word before after e h = record { split = e; known = known-name context word n h; leads = λ k. refl }

pub certain-deep : (context : Context) (d : ℕ) (before : Columned) (error : ParseError) → FailsTooDeep word.Certain d before error → FailsWith context (d, requirement) before error
certain-deep context d before error is =
    subst (λ (x : ParseError). FailsWith context (d, requirement) before x) (sym is.is)
    (begins-deep context (d, requirement) Token.certain is.column before _ (λ k. (d, item_name) ∷ k) (certain-begins context d is.column before _ is.next) is.deep)

pub stops-certain : (context : Context) (d : ℕ) (before mid : Columned) (error : ParseError) → PassesToken Token.certain d before mid
    → FailsWith context (d, item_name) mid error → FailsWith context (d, requirement) before error
stops-certain context d before mid error q s =
    FailsWith-through context (d, requirement) (d, item_name) (λ k. k) before mid
    (begins-fault context (d, requirement) Token.certain q.column before mid (λ k. (d, item_name) ∷ k) (certain-begins context d q.column before mid q.split) q.shallow) error s

pub reads-certain : (context : Context) (d : ℕ) (before mid after : Columned) (item : ItemId) → PassesToken Token.certain d before mid
    → PassesName context d mid after item.0 → ReadsRequired context d before after (Certain item)
reads-certain context d before mid after item q p =
    let first = certain-begins context d q.column before mid q.split in
    let second = name-begins context d item.0 p.column p.word mid after p.split p.known in
    let shorter = begins-fewer context (d, requirement) Token.certain q.column before mid (λ k. (d, item_name) ∷ k) first in
    let inner = begins-fewer context (d, item_name) (Token.name p.word) p.column mid after (λ k. k) second in
    record {
      fault = λ k. begins-fault context (d, requirement) Token.certain q.column before mid (λ k. (d, item_name) ∷ k) first q.shallow k
          ∙ begins-fault context (d, item_name) (Token.name p.word) p.column mid after (λ k. k) second p.shallow k;
      reads = λ k later r n.
          subst (λ (ts : List Nested). ReadsProgram (item_in context.catalog) d ((d, Token.requires) ∷ ts) later (model.certain item.0 r))
          (sym (begins-place context (d, requirement) Token.certain q.column before mid (λ k. (d, item_name) ∷ k) first k
          ∙ ap (λ (ts : List Nested). (d, Token.certain) ∷ ts) (begins-place context (d, item_name) (Token.name p.word) p.column mid after (λ k. k) second k)))
          (grammar.requires_certain p.word item.0 d (placed k after) later r p.known n);
      fewer = omega (arith, shorter, inner);
    }

-- The name of an item.

-- What a name may be refused for.
pub stops-item-name : (context : Context) (word : List ℕ) (d column : ℕ) (before after : Columned) (error : ParseError) → before ≡ (column, Token.name word) ∷ after
    → (x : Option ℕ) → item_in context.catalog word ≡ x → (x ≡ None → error ≡ UnknownName column) → ((n : ℕ) → x ≡ Some n → (error ≡ TooDeep column) × (MAX_DEPTH < d))
    → FailsWith context (d, item_name) before error
stops-item-name context word d column before after error e None h unknown deep =
    subst (λ (x : ParseError). FailsWith context (d, item_name) before x) (sym (unknown refl))
    (λ k. ap (λ (ts : Columned). fault_in context ((d, item_name) ∷ k) ts) e ∙ fault-unknown context item_name d column (Token.name word) after k k refl (unknown-name context word h))
stops-item-name context word d column before after error e (Some n) h unknown deep =
    let is = deep n refl in
    subst (λ (x : ParseError). FailsWith context (d, item_name) before x) (sym is.0)
    (begins-deep context (d, item_name) (Token.name word) column before after (λ k. k) (name-begins context d n column word before after e h) is.1)

abbrev is_no_name : Token → Bool
is_no_name (Token.name word) = false
is_no_name _ = true

pub other-name : (t : Read) → ((word : Bor (List ℕ)) → t ≡ read.Name word → ⊥) → IsTrue (is_no_name (token_of t))
other-name (read.Name word) a = absurd (a word refl)
other-name _ a = refl

name-none : (d : ℕ) (t : Token) (k : List Expected) → IsTrue (is_no_name t) → after_symbol item_name d t k ≡ None
name-none d (Token.name word) k h = let e : false ≡ true = h in absurd cc
name-none d _ k h = refl

pub name-other : (context : Context) (d column : ℕ) (t : Token) (before after : Columned) → before ≡ (column, t) ∷ after → IsTrue (is_no_name t)
    → FailsWith context (d, item_name) before (Malformed column)
name-other context d column t before after e h = λ k.
    ap (λ (ts : Columned). fault_in context ((d, item_name) ∷ k) ts) e ∙ fault-none context item_name d column t after k (name-none d t k h) refl

pub name-end : (context : Context) (d : ℕ) → FailsWith context (d, item_name) [] (Malformed context.after_text)
name-end context d = λ k. fault-end context item_name d k refl
