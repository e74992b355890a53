-- How programs are put together from what is read of them.
use Rattle.std.proofs.Common.{◌≡◌, ℕ, suc, Bool, true, false, Option, Some, None, List, [], ◌∷◌, ◌<◌, ◌≤◌, arith, refl, sym, ap, ◌∙◌, subst}
use Rattle.std.specs.Prelude.{IsTrue}
use Rattle.pv_base.specs.declared.limits.TheConstants.{MAX_DEPTH}
use denote.Ref.{Bor}
use Rattle.pv_ast.specs.declared.expr.Expr.{Expr}
use Rattle.pv_ast.specs.declared.program.Stmt.{Stmt}
use Rattle.pv_ast.specs.ProgramView.{followed_by}
use Rattle.pv_ast.specs.declared.program.Stmt.TheVariants.{Assign, Return}
use Rattle.pv_ast.specs.ExprView.{expr_of}
use Rattle.pv_base.specs.declared.catalog.ItemId.{ItemId}
use Rattle.pv_model.specs.Syntax as model
use Rattle.pv_model.specs.Tokens.{Token}
use Rattle.pv_model.specs.Grammar as grammar
use Rattle.pv_model.specs.Grammar.{Nested, disjunction, chain, Reads, ReadsProgram, ReadsNext}
use Rattle.pv_model.specs.ProgramText.{item_in}
use Rattle.pv_law_programs.specs.Prediction.{phrase, punctuation, program, requirement, next, other, becomes, opens_body, closes_body, Expected, after_symbol, placed}
use Rattle.pv_parse.specs.declared.error.ParseError.{ParseError}
use Rattle.pv_parse.specs.declared.error.ParseError.TheVariants.{Malformed, UnknownName, TooDeep}
use Rattle.pv_parse.specs.declared.token.Token.{Token as Read}
use Rattle.pv_parse.specs.declared.token.Token.TheVariants as read
use Rattle.pv_parse.specs.declared.cursor.Word.TheVariants.{Next, Else}
use Rattle.pv_parse.specs.TokenView.{token_of}
use Rattle.pv_parse.specs.Words.{has_no_word, FailsTooDeep}
use Rattle.pv_parse.specs.ReadingSteps.{Columned, Context, fault_in, Skips, FailsWith, ReadsPhrase, PassesPunctuation}
use Rattle.pv_parse.specs.ReadingPrograms.{ReadsRequired, ReadsStmt}
use Rattle.pv_parse.proofs.StepLemmas.{fault-deep, fault-unknown, fault-none, fault-end, skips}
use Rattle.pv_parse.proofs.ExpressionLemmas.{FailsWith-through}
use Rattle.pv_parse.proofs.UnaryLemmas.{Begins, begins-fault, begins-place, begins-fewer, begins-deep, unknown-name, known-name}

abbrev pub expression : ℕ → Expected
expression d = (d, phrase (chain disjunction))

-- words that may be left out

next-none : (d : ℕ) (t : ℕ × Token) (rest : Columned) (k : List Expected) → IsTrue (has_no_word Next (t ∷ rest)) → after_symbol next d t.1 k ≡ None
next-none d (column, Token.then_next) rest k h = let e : false ≡ true = h in absurd cc
next-none d (column, _) rest k h = refl

other-none : (d : ℕ) (t : ℕ × Token) (rest : Columned) (k : List Expected) → IsTrue (has_no_word Else (t ∷ rest)) → after_symbol other d t.1 k ≡ None
other-none d (column, Token.otherwise) rest k h = let e : false ≡ true = h in absurd cc
other-none d (column, _) rest k h = refl

pub skips-next : (context : Context) (d : ℕ) (ts : Columned) → IsTrue (has_no_word Next ts) → Skips context (d, next) ts
skips-next context d ts h = skips context next d ts refl (λ t rest k e. next-none d t rest k (subst (λ (x : Columned). IsTrue (has_no_word Next x)) e h))

pub skips-other : (context : Context) (d : ℕ) (ts : Columned) → IsTrue (has_no_word Else ts) → Skips context (d, other) ts
skips-other context d ts h = skips context other d ts refl (λ t rest k e. other-none d t rest k (subst (λ (x : Columned). IsTrue (has_no_word Else x)) e h))

pub next-deep : (context : Context) (d : ℕ) (before : Columned) (error : ParseError) → FailsTooDeep Next d before error → FailsWith context (d, next) before error
next-deep context d before error is =
    subst (λ (x : ParseError). FailsWith context (d, next) before x) (sym is.is)
    (λ k. ap (λ (ts : Columned). fault_in context ((d, next) ∷ k) ts) is.next ∙ fault-deep context next d is.column Token.then_next _ k ((d, program) ∷ k) refl refl is.deep)

pub other-deep : (context : Context) (d : ℕ) (before : Columned) (error : ParseError) → FailsTooDeep Else d before error → FailsWith context (d, other) before error
other-deep context d before error is =
    subst (λ (x : ParseError). FailsWith context (d, other) before x) (sym is.is)
    (λ k. ap (λ (ts : Columned). fault_in context ((d, other) ∷ k) ts) is.next
    ∙ fault-deep context other d is.column Token.otherwise _ k ((d, punctuation opens_body) ∷ (suc d, program) ∷ (d, punctuation closes_body) ∷ k) refl refl is.deep)

-- `require` and `return`

pub begins-require : (context : Context) (d column : ℕ) (before after : Columned) → before ≡ (column, Token.requires) ∷ after
    → Begins context (d, program) Token.requires column before after (λ k. (d, requirement) ∷ (d, next) ∷ k)
begins-require context d column before after e = record { split = e; known = refl; leads = λ k. refl }

pub begins-return : (context : Context) (d column : ℕ) (before after : Columned) → before ≡ (column, Token.returns) ∷ after
    → Begins context (d, program) Token.returns column before after (λ k. expression d ∷ (d, next) ∷ k)
begins-return context d column before after e = record { split = e; known = refl; leads = λ k. refl }

-- A fault in the expression behind the word of a statement.
pub stops-word : (context : Context) (t : Token) (d column : ℕ) (before mid : Columned) (error : ParseError)
    → Begins context (d, program) t column before mid (λ k. expression d ∷ (d, next) ∷ k) → d ≤ MAX_DEPTH → FailsWith context (expression d) mid error
    → FailsWith context (d, program) before error
stops-word context t d column before mid error b shallow s =
    FailsWith-through context (d, program) (expression d) (λ k. (d, next) ∷ k) before mid
    (begins-fault context (d, program) t column before mid (λ k. expression d ∷ (d, next) ∷ k) b shallow) error s

-- The word and the expression behind it are the statement that they are by the grammar.
pub reads-word : (context : Context) (t : Token) (d column : ℕ) (before mid after : Columned) (e : Expr) (stmt : Stmt)
    → Begins context (d, program) t column before mid (λ k. expression d ∷ (d, next) ∷ k) → d ≤ MAX_DEPTH
    → ((ts rest behind : List Nested) (q : model.Program) → Reads (item_in context.catalog) (chain disjunction) d ts rest (expr_of e) → ReadsNext (item_in context.catalog) d rest behind q
    → ReadsProgram (item_in context.catalog) d ((d, t) ∷ ts) behind (followed_by stmt q))
    → ReadsPhrase context (chain disjunction) d mid after (expr_of e) → ReadsStmt context d before after stmt
reads-word context t d column before mid after e stmt b shallow made p =
    let shorter = begins-fewer context (d, program) t column before mid (λ k. expression d ∷ (d, next) ∷ k) b in
    let inner = p.fewer in
    record {
      fault = λ k. begins-fault context (d, program) t column before mid (λ k. expression d ∷ (d, next) ∷ k) b shallow k ∙ p.fault ((d, next) ∷ k);
      reads = λ k behind q n.
          subst (λ ts. ReadsProgram (item_in context.catalog) d ts behind (followed_by stmt q))
          (sym (begins-place context (d, program) t column before mid (λ k. expression d ∷ (d, next) ∷ k) b k))
          (made (placed (expression d ∷ (d, next) ∷ k) mid) (placed ((d, next) ∷ k) after) behind q (p.reads ((d, next) ∷ k)) n);
      fewer = omega (arith, shorter, inner);
    }

-- A fault in what stands behind `require`.
pub stops-require : (context : Context) (d column : ℕ) (before mid : Columned) (error : ParseError) → before ≡ (column, Token.requires) ∷ mid → d ≤ MAX_DEPTH
    → FailsWith context (d, requirement) mid error → FailsWith context (d, program) before error
stops-require context d column before mid error split shallow s =
    FailsWith-through context (d, program) (d, requirement) (λ k. (d, next) ∷ k) before mid
    (begins-fault context (d, program) Token.requires column before mid (λ k. (d, requirement) ∷ (d, next) ∷ k) (begins-require context d column before mid split) shallow) error s

pub reads-require : (context : Context) (d column : ℕ) (before mid after : Columned) (stmt : Stmt) → before ≡ (column, Token.requires) ∷ mid → d ≤ MAX_DEPTH
    → ReadsRequired context d mid after stmt → ReadsStmt context d before after stmt
reads-require context d column before mid after stmt split shallow p =
    let behind : List Expected → List Expected = λ k. (d, requirement) ∷ (d, next) ∷ k in
    let b = begins-require context d column before mid split in
    let shorter = begins-fewer context (d, program) Token.requires column before mid behind b in
    let inner = p.fewer in
    record {
      fault = λ k. begins-fault context (d, program) Token.requires column before mid behind b shallow k ∙ p.fault ((d, next) ∷ k);
      reads = λ k later q n.
          subst (λ ts. ReadsProgram (item_in context.catalog) d ts later (followed_by stmt q))
          (sym (begins-place context (d, program) Token.requires column before mid behind b k)) (p.reads ((d, next) ∷ k) later q n);
      fewer = omega (arith, shorter, inner);
    }

pub reads-return : (context : Context) (d column : ℕ) (before mid after : Columned) (e : Expr) → before ≡ (column, Token.returns) ∷ mid → d ≤ MAX_DEPTH
    → ReadsPhrase context (chain disjunction) d mid after (expr_of e) → ReadsStmt context d before after (Return e)
reads-return context d column before mid after e split shallow p =
    reads-word context Token.returns d column before mid after e (Return e) (begins-return context d column before mid split) shallow
    (λ ts rest behind q r n. grammar.returns d ts rest behind (expr_of e) q r n) p

-- assignments

abbrev behind_name : ℕ → List Expected → List Expected
behind_name d k = (d, punctuation becomes) ∷ expression d ∷ (d, next) ∷ k

pub begins-assign : (context : Context) (word : List ℕ) (n d column : ℕ) (before after : Columned) → before ≡ (column, Token.name word) ∷ after → item_in context.catalog word ≡ Some n
    → Begins context (d, program) (Token.name word) column before after (behind_name d)
begins-assign context word n d column before after e h = record { split = e; known = known-name context word n h; leads = λ k. refl }

-- What a name may be refused for where a statement is expected.
pub stops-assign-name : (context : Context) (word : List ℕ) (d column : ℕ) (before after : Columned) (error : ParseError) → before ≡ (column, Token.name word) ∷ after
    → (x : Option ℕ) → item_in context.catalog word ≡ x → (x ≡ None → error ≡ UnknownName column) → ((n : ℕ) → x ≡ Some n → (error ≡ TooDeep column) × (MAX_DEPTH < d))
    → FailsWith context (d, program) before error
stops-assign-name context word d column before after error e None h unknown deep =
    subst (λ (x : ParseError). FailsWith context (d, program) before x) (sym (unknown refl))
    (λ k. ap (λ (ts : Columned). fault_in context ((d, program) ∷ k) ts) e ∙ fault-unknown context program d column (Token.name word) after k (behind_name d k) refl (unknown-name context word h))
stops-assign-name context word d column before after error e (Some n) h unknown deep =
    let is = deep n refl in
    subst (λ (x : ParseError). FailsWith context (d, program) before x) (sym is.0)
    (begins-deep context (d, program) (Token.name word) column before after (behind_name d) (begins-assign context word n d column before after e h) is.1)

pub stops-assign-mark : (context : Context) (word : List ℕ) (n d column : ℕ) (before mid : Columned) (error : ParseError) → before ≡ (column, Token.name word) ∷ mid → item_in context.catalog word ≡ Some n → d ≤ MAX_DEPTH
    → FailsWith context (d, punctuation becomes) mid error → FailsWith context (d, program) before error
stops-assign-mark context word n d column before mid error e h shallow s =
    FailsWith-through context (d, program) (d, punctuation becomes) (λ k. expression d ∷ (d, next) ∷ k) before mid
    (begins-fault context (d, program) (Token.name word) column before mid (behind_name d) (begins-assign context word n d column before mid e h) shallow) error s

pub stops-assign-value : (context : Context) (word : List ℕ) (n d column : ℕ) (before mid now : Columned) (error : ParseError) → before ≡ (column, Token.name word) ∷ mid → item_in context.catalog word ≡ Some n → d ≤ MAX_DEPTH
    → PassesPunctuation context becomes Token.becomes d mid now → FailsWith context (expression d) now error → FailsWith context (d, program) before error
stops-assign-value context word n d column before mid now error e h shallow m s =
    FailsWith-through context (d, program) (expression d) (λ k. (d, next) ∷ k) before now
    (λ k. begins-fault context (d, program) (Token.name word) column before mid (behind_name d) (begins-assign context word n d column before mid e h) shallow k ∙ m.fault (expression d ∷ (d, next) ∷ k)) error s

pub reads-assign : (context : Context) (word : List ℕ) (d column : ℕ) (before mid now after : Columned) (item : ItemId) (e : Expr) → before ≡ (column, Token.name word) ∷ mid → item_in context.catalog word ≡ Some item.0 → d ≤ MAX_DEPTH
    → PassesPunctuation context becomes Token.becomes d mid now → ReadsPhrase context (chain disjunction) d now after (expr_of e) → ReadsStmt context d before after (Assign item e)
reads-assign context word d column before mid now after item e split h shallow m p =
    let b = begins-assign context word item.0 d column before mid split h in
    let shorter = begins-fewer context (d, program) (Token.name word) column before mid (behind_name d) b in
    let f1 = m.fewer in
    let f2 = p.fewer in
    record {
      fault = λ k. begins-fault context (d, program) (Token.name word) column before mid (behind_name d) b shallow k ∙ m.fault (expression d ∷ (d, next) ∷ k) ∙ p.fault ((d, next) ∷ k);
      reads = λ k behind q r.
          subst (λ ts. ReadsProgram (item_in context.catalog) d ts behind (model.assign item.0 (expr_of e) q))
          (sym (begins-place context (d, program) (Token.name word) column before mid (behind_name d) b k ∙ ap (λ (ts : List Nested). (d, Token.name word) ∷ ts) (m.place (expression d ∷ (d, next) ∷ k))))
          (grammar.assigns word item.0 d (placed (expression d ∷ (d, next) ∷ k) now) (placed ((d, next) ∷ k) after) behind (expr_of e) q h (p.reads ((d, next) ∷ k)) r);
      fewer = omega (arith, shorter, f1, f2);
    }

-- the tokens that begin no statement

abbrev pub begins_no_stmt : Token → Bool
begins_no_stmt (Token.name word) = false
begins_no_stmt Token.requires = false
begins_no_stmt Token.returns = false
begins_no_stmt Token.asks = false
begins_no_stmt _ = true

pub other-statement : (t : Read) → ((word : Bor (List ℕ)) → t ≡ read.Name word → ⊥) → (t ≡ read.Require → ⊥) → (t ≡ read.Return → ⊥) → (t ≡ read.If → ⊥)
    → IsTrue (begins_no_stmt (token_of t))
other-statement (read.Name word) a b c d = absurd (a word refl)
other-statement read.Require a b c d = absurd (b refl)
other-statement read.Return a b c d = absurd (c refl)
other-statement read.If a b c d = absurd (d refl)
other-statement _ a b c d = refl

stmt-none : (d : ℕ) (t : Token) (k : List Expected) → IsTrue (begins_no_stmt t) → after_symbol program d t k ≡ None
stmt-none d (Token.name word) k h = let e : false ≡ true = h in absurd cc
stmt-none d Token.requires k h = let e : false ≡ true = h in absurd cc
stmt-none d Token.returns k h = let e : false ≡ true = h in absurd cc
stmt-none d Token.asks k h = let e : false ≡ true = h in absurd cc
stmt-none d _ k h = refl

pub stmt-other : (context : Context) (d column : ℕ) (t : Token) (before after : Columned) → before ≡ (column, t) ∷ after → IsTrue (begins_no_stmt t) → FailsWith context (d, program) before (Malformed column)
stmt-other context d column t before after e h = λ k.
    ap (λ (ts : Columned). fault_in context ((d, program) ∷ k) ts) e ∙ fault-none context program d column t after k (stmt-none d t k h) refl

pub stmt-end : (context : Context) (d : ℕ) → FailsWith context (d, program) [] (Malformed context.after_text)
stmt-end context d = λ k. fault-end context program d k refl
