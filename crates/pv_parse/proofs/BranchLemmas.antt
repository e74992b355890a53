-- How `if` and the programs in its braces are put together, and statements are put in a row.
use Rattle.std.proofs.Common.{◌≡◌, ℕ, suc, ◌+◌, Option, Some, List, [], ◌∷◌, ◌++◌, None, ◌≤◌, length, arith, refl, sym, ap, ◌∙◌, subst}
use Rattle.pv_base.specs.declared.limits.TheConstants.{MAX_DEPTH}
use Rattle.pv_ast.specs.declared.expr.Expr.{Expr}
use Rattle.pv_ast.specs.declared.program.Stmt.{Stmt}
use Rattle.pv_ast.specs.declared.program.Stmt.TheVariants.{If}
use Rattle.pv_ast.specs.ExprView.{expr_of}
use Rattle.pv_ast.specs.ProgramView.{followed_by, program_of}
use Rattle.pv_model.specs.Syntax as model
use Rattle.pv_model.specs.Tokens.{Token}
use Rattle.pv_model.specs.Grammar as grammar
use Rattle.pv_model.specs.Grammar.{Nested, disjunction, chain, Reads, ReadsProgram, ReadsNext}
use Rattle.pv_model.specs.ProgramText.{Kind, item_in}
use Rattle.pv_law_programs.specs.Prediction.{punctuation, program, next, other, opens_body, closes_body, Expected, placed}
use Rattle.pv_parse.specs.declared.error.ParseError.{ParseError}
use Rattle.pv_parse.specs.ReadingSteps.{Columned, Context, fault_in, IsErrorFor, Skips, FailsWith, ReadsPhrase, PassesPunctuation, PassesToken}
use Rattle.pv_parse.specs.ReadingPrograms.{ReadsWhole, ReadsStmt, ReadsBody, StopsBraced, braced}
use Rattle.pv_parse.proofs.StepLemmas.{fault-on, place-on}
use Rattle.pv_parse.proofs.ExpressionLemmas.{FailsWith-through, one_more}
use Rattle.pv_parse.proofs.UnaryLemmas.{Begins, begins-fault, begins-place, begins-fewer}
use Rattle.pv_parse.proofs.ProgramLemmas.{expression}

-- programs in braces

-- A fault behind what is expected before a program in braces.
pub braced-stops : (context : Context) (d : ℕ) (e : Expected) (behind : List Expected → List Expected) (before mid : Columned)
    → ((k : List Expected) → fault_in context (braced d k) before ≡ fault_in context (e ∷ behind k) mid)
    → (error : ParseError) → FailsWith context e mid error → StopsBraced context d before error
braced-stops context d e behind before mid same error h = λ k. subst (λ (fault : Option (Kind × ℕ)). IsErrorFor fault error) (sym (same k)) (h (behind k))

pub body-stops-program : (context : Context) (d : ℕ) (before mid : Columned) (error : ParseError) → PassesPunctuation context opens_body Token.opens_body d before mid
    → FailsWith context (d + 1, program) mid error → StopsBraced context d before error
body-stops-program context d before mid error m s =
    braced-stops context d (d + 1, program) (λ k. (d, punctuation closes_body) ∷ k) before mid (λ k. m.fault ((d + 1, program) ∷ (d, punctuation closes_body) ∷ k)) error s

pub body-stops-open : (context : Context) (d : ℕ) (before : Columned) (error : ParseError) → FailsWith context (d, punctuation opens_body) before error → StopsBraced context d before error
body-stops-open context d before error s =
    braced-stops context d (d, punctuation opens_body) (λ k. (d + 1, program) ∷ (d, punctuation closes_body) ∷ k) before before (λ k. refl) error s

pub body-stops-close : (context : Context) (d : ℕ) (before mid now : Columned) (p : model.Program) (error : ParseError) → PassesPunctuation context opens_body Token.opens_body d before mid
    → ReadsWhole context (d + 1) mid now p → FailsWith context (d, punctuation closes_body) now error → StopsBraced context d before error
body-stops-close context d before mid now p error m r s =
    braced-stops context d (d, punctuation closes_body) (λ k. k) before now (λ k. m.fault ((d + 1, program) ∷ (d, punctuation closes_body) ∷ k) ∙ r.fault ((d, punctuation closes_body) ∷ k)) error s

pub reads-body : (context : Context) (d : ℕ) (before mid now after : Columned) (p : model.Program) → PassesPunctuation context opens_body Token.opens_body d before mid
    → ReadsWhole context (d + 1) mid now p → PassesPunctuation context closes_body Token.closes_body d now after → ReadsBody context d before after p
reads-body context d before mid now after p m r n =
    let f1 = m.fewer in
    let f2 = r.fewer in
    let f3 = n.fewer in
    record {
      fault = λ k. m.fault ((d + 1, program) ∷ (d, punctuation closes_body) ∷ k) ∙ r.fault ((d, punctuation closes_body) ∷ k) ∙ n.fault k;
      inside = mid;
      closing = now;
      opened = m.place;
      reads = r.reads;
      closed = n.place;
      fewer = omega (arith, f1, f2, f3);
    }

-- `if`

abbrev behind_body : ℕ → List Expected → List Expected
behind_body d k = (d, other) ∷ (d, next) ∷ k

abbrev behind_if : ℕ → List Expected → List Expected
behind_if d k = expression d ∷ braced d (behind_body d k)

pub begins-if : (context : Context) (d column : ℕ) (before after : Columned) → before ≡ (column, Token.asks) ∷ after
    → Begins context (d, program) Token.asks column before after (behind_if d)
begins-if context d column before after e = record {
  split = e;
  known = refl;
  leads = λ k. ap (λ (n : ℕ). Some (expression d ∷ (d, punctuation opens_body) ∷ (n, program) ∷ (d, punctuation closes_body) ∷ behind_body d k)) (sym (one_more d));
}

pub if-stops-test : (context : Context) (d column : ℕ) (before mid : Columned) (error : ParseError) → before ≡ (column, Token.asks) ∷ mid → d ≤ MAX_DEPTH
    → FailsWith context (expression d) mid error → FailsWith context (d, program) before error
if-stops-test context d column before mid error e shallow s =
    FailsWith-through context (d, program) (expression d) (λ k. braced d (behind_body d k)) before mid
    (begins-fault context (d, program) Token.asks column before mid (behind_if d) (begins-if context d column before mid e) shallow) error s

if-test : (context : Context) (d column : ℕ) (before mid now : Columned) (test : model.Expr) → before ≡ (column, Token.asks) ∷ mid → d ≤ MAX_DEPTH
    → ReadsPhrase context (chain disjunction) d mid now test → (k : List Expected) → fault_in context ((d, program) ∷ k) before ≡ fault_in context (braced d (behind_body d k)) now
if-test context d column before mid now test e shallow p k =
    begins-fault context (d, program) Token.asks column before mid (behind_if d) (begins-if context d column before mid e) shallow k ∙ p.fault (braced d (behind_body d k))

-- A fault in braces is one of the statement that they stand in.
pub braced-through : (context : Context) (d : ℕ) (before mid : Columned) (e : Expected) (behind : List Expected → List Expected)
    → ((k : List Expected) → fault_in context (e ∷ k) before ≡ fault_in context (braced d (behind k)) mid)
    → (error : ParseError) → StopsBraced context d mid error → FailsWith context e before error
braced-through context d before mid e behind same error h = λ k. subst (λ (fault : Option (Kind × ℕ)). IsErrorFor fault error) (sym (same k)) (h (behind k))

pub if-stops-body : (context : Context) (d column : ℕ) (before mid now : Columned) (test : model.Expr) (error : ParseError) → before ≡ (column, Token.asks) ∷ mid → d ≤ MAX_DEPTH
    → ReadsPhrase context (chain disjunction) d mid now test → StopsBraced context d now error → FailsWith context (d, program) before error
if-stops-body context d column before mid now test error e shallow p s =
    braced-through context d before now (d, program) (behind_body d) (if-test context d column before mid now test e shallow p) error s

pub if-stops-else : (context : Context) (d column : ℕ) (before mid now after : Columned) (test : model.Expr) (body : model.Program) (error : ParseError) → before ≡ (column, Token.asks) ∷ mid → d ≤ MAX_DEPTH
    → ReadsPhrase context (chain disjunction) d mid now test → ReadsBody context d now after body → FailsWith context (d, other) after error → FailsWith context (d, program) before error
if-stops-else context d column before mid now after test body error e shallow p b s =
    FailsWith-through context (d, program) (d, other) (λ k. (d, next) ∷ k) before after
    (λ k. if-test context d column before mid now test e shallow p k ∙ b.fault (behind_body d k)) error s

else-fault : (context : Context) (d : ℕ) (before after : Columned) (k : List Expected) → PassesToken Token.otherwise d before after
    → fault_in context ((d, other) ∷ k) before ≡ fault_in context (braced d k) after
else-fault context d before after k q =
    ap (λ (ts : Columned). fault_in context ((d, other) ∷ k) ts) q.split
    ∙ fault-on context other d q.column Token.otherwise after k (braced d k) (ap (λ (n : ℕ). Some ((d, punctuation opens_body) ∷ (n, program) ∷ (d, punctuation closes_body) ∷ k)) (sym (one_more d))) refl q.shallow

else-place : (d : ℕ) (before after : Columned) (k : List Expected) → PassesToken Token.otherwise d before after
    → placed ((d, other) ∷ k) before ≡ (d, Token.otherwise) ∷ placed (braced d k) after
else-place d before after k q =
    ap (λ (ts : Columned). placed ((d, other) ∷ k) ts) q.split
    ∙ place-on other d q.column Token.otherwise after k (braced d k) (ap (λ (n : ℕ). Some ((d, punctuation opens_body) ∷ (n, program) ∷ (d, punctuation closes_body) ∷ k)) (sym (one_more d)))

pub if-stops-other : (context : Context) (d column : ℕ) (before mid now after last : Columned) (test : model.Expr) (body : model.Program) (error : ParseError) → before ≡ (column, Token.asks) ∷ mid → d ≤ MAX_DEPTH
    → ReadsPhrase context (chain disjunction) d mid now test → ReadsBody context d now after body → PassesToken Token.otherwise d after last → StopsBraced context d last error
    → FailsWith context (d, program) before error
if-stops-other context d column before mid now after last test body error e shallow p b q s =
    braced-through context d before last (d, program) (λ k. (d, next) ∷ k)
    (λ k. if-test context d column before mid now test e shallow p k ∙ b.fault (behind_body d k) ∙ else-fault context d after last ((d, next) ∷ k) q) error s

module _ (context : Context) (d : ℕ) where
  -- the test, up to the brace
  if-reads-test : (mid now after : Columned) (test : model.Expr) (body : model.Program) (k : List Expected) → ReadsPhrase context (chain disjunction) d mid now test
      → (b : ReadsBody context d now after body)
      → Reads (item_in context.catalog) (chain disjunction) d (placed (expression d ∷ braced d k) mid)
      ((d, Token.opens_body) ∷ placed ((d + 1, program) ∷ (d, punctuation closes_body) ∷ k) b.inside) test
  if-reads-test mid now after test body k p b =
      subst (λ ts. Reads (item_in context.catalog) (chain disjunction) d (placed (expression d ∷ braced d k) mid) ts test)
      (b.opened ((d + 1, program) ∷ (d, punctuation closes_body) ∷ k)) (p.reads (braced d k))

  -- the program in braces, up to what stands behind it
  if-reads-body : (now after : Columned) (body : model.Program) (k : List Expected) (behind : List Nested) → (b : ReadsBody context d now after body) → placed k after ≡ behind
      → ReadsProgram (item_in context.catalog) (suc d) (placed ((d + 1, program) ∷ (d, punctuation closes_body) ∷ k) b.inside) ((d, Token.closes_body) ∷ behind) body
  if-reads-body now after body k behind b same =
      subst (λ (n : ℕ). ReadsProgram (item_in context.catalog) n (placed ((d + 1, program) ∷ (d, punctuation closes_body) ∷ k) b.inside) ((d, Token.closes_body) ∷ behind) body) (one_more d)
      (subst (λ ts. ReadsProgram (item_in context.catalog) (d + 1) (placed ((d + 1, program) ∷ (d, punctuation closes_body) ∷ k) b.inside) ts body)
      (b.closed k ∙ ap (λ (ts : List Nested). (d, Token.closes_body) ∷ ts) same) (b.reads ((d, punctuation closes_body) ∷ k)))

pub reads-if : (context : Context) (d column : ℕ) (before mid now after : Columned) (test : Expr) (body : model.Program) → before ≡ (column, Token.asks) ∷ mid → d ≤ MAX_DEPTH
    → ReadsPhrase context (chain disjunction) d mid now (expr_of test) → ReadsBody context d now after body → Skips context (d, other) after
    → ReadsStmt context d before after (If test body None)
reads-if context d column before mid now after test body e shallow p b n =
    let begun = begins-if context d column before mid e in
    let f1 = begins-fewer context (d, program) Token.asks column before mid (behind_if d) begun in
    let f2 = p.fewer in
    let f3 = b.fewer in
    record {
      fault = λ k. if-test context d column before mid now (expr_of test) e shallow p k ∙ b.fault (behind_body d k) ∙ n.fault ((d, next) ∷ k);
      reads = λ k behind q r.
          subst (λ ts. ReadsProgram (item_in context.catalog) d ts behind (model.when (expr_of test) body q))
          (sym (begins-place context (d, program) Token.asks column before mid (behind_if d) begun k))
          (grammar.asks d (placed (behind_if d k) mid) (placed ((d + 1, program) ∷ (d, punctuation closes_body) ∷ behind_body d k) b.inside) (placed ((d, next) ∷ k) after) behind (expr_of test) body q
          (if-reads-test context d mid now after (expr_of test) body (behind_body d k) p b)
          (if-reads-body context d now after body (behind_body d k) (placed ((d, next) ∷ k) after) b (n.place ((d, next) ∷ k)))
          r);
      fewer = omega (arith, f1, f2, f3);
    }

pub reads-if-else : (context : Context) (d column : ℕ) (before mid now after last end : Columned) (test : Expr) (body second : model.Program) → before ≡ (column, Token.asks) ∷ mid → d ≤ MAX_DEPTH
    → ReadsPhrase context (chain disjunction) d mid now (expr_of test) → ReadsBody context d now after body → PassesToken Token.otherwise d after last → ReadsBody context d last end second
    → ReadsStmt context d before end (If test body (Some second))
reads-if-else context d column before mid now after last end test body second e shallow p b q s =
    let begun = begins-if context d column before mid e in
    let f1 = begins-fewer context (d, program) Token.asks column before mid (behind_if d) begun in
    let f2 = p.fewer in
    let f3 = b.fewer in
    let f4 : length after ≡ suc (length last) = ap (λ (ts : Columned). length ts) q.split in
    let f5 = s.fewer in
    record {
      fault = λ k. if-test context d column before mid now (expr_of test) e shallow p k ∙ b.fault (behind_body d k) ∙ else-fault context d after last ((d, next) ∷ k) q ∙ s.fault ((d, next) ∷ k);
      reads = λ k behind r n.
          subst (λ ts. ReadsProgram (item_in context.catalog) d ts behind (model.when_else (expr_of test) body second r))
          (sym (begins-place context (d, program) Token.asks column before mid (behind_if d) begun k))
          (grammar.asks_else d (placed (behind_if d k) mid) (placed ((d + 1, program) ∷ (d, punctuation closes_body) ∷ behind_body d k) b.inside)
          (placed ((d + 1, program) ∷ (d, punctuation closes_body) ∷ (d, next) ∷ k) s.inside) (placed ((d, next) ∷ k) end) behind (expr_of test) body second r
          (if-reads-test context d mid now after (expr_of test) body (behind_body d k) p b)
          (if-reads-body context d now after body (behind_body d k) ((d, Token.otherwise) ∷ (d, Token.opens_body) ∷ placed ((d + 1, program) ∷ (d, punctuation closes_body) ∷ (d, next) ∷ k) s.inside) b
          (else-place d after last ((d, next) ∷ k) q ∙ ap (λ (ts : List Nested). (d, Token.otherwise) ∷ ts) (s.opened ((d + 1, program) ∷ (d, punctuation closes_body) ∷ (d, next) ∷ k))))
          (if-reads-body context d last end second ((d, next) ∷ k) (placed ((d, next) ∷ k) end) s refl)
          n);
      fewer = omega (arith, f1, f2, f3, f4, f5);
    }

-- statements in a row

-- statements with a program behind them
abbrev pub before_program : List Stmt → model.Program → model.Program
before_program [] p = p
before_program (stmt ∷ stmts) p = followed_by stmt (before_program stmts p)

before_end : (stmts : List Stmt) → before_program stmts model.end ≡ program_of stmts
before_end [] = refl
before_end (stmt ∷ stmts) = ap (λ (p : model.Program). followed_by stmt p) (before_end stmts)

before_one_more : (stmts : List Stmt) (stmt : Stmt) (p : model.Program) → before_program (stmts ++ stmt ∷ []) p ≡ before_program stmts (followed_by stmt p)
before_one_more [] stmt p = refl
before_one_more (s ∷ stmts) stmt p = ap (λ (q : model.Program). followed_by s q) (before_one_more stmts stmt p)

-- The statements so far are the front of a program that goes on.
pub record ProgramSoFar (context : Context) (d : ℕ) (before now : Columned) (stmts : List Stmt) : Type 0 where
  pub fault : (k : List Expected) → fault_in context ((d, program) ∷ k) before ≡ fault_in context ((d, program) ∷ k) now
  pub reads : (k : List Expected) (behind : List Nested) (p : model.Program) → ReadsProgram (item_in context.catalog) d (placed ((d, program) ∷ k) now) behind p
      → ReadsProgram (item_in context.catalog) d (placed ((d, program) ∷ k) before) behind (before_program stmts p)
  pub fewer : length now ≤ length before

pub program-start : (context : Context) (d : ℕ) (before : Columned) → ProgramSoFar context d before before []
program-start context d before = record { fault = λ k. refl; reads = λ k behind p r. r; fewer = omega arith }

pub program-more : (context : Context) (d : ℕ) (before now mid after : Columned) (stmts : List Stmt) (stmt : Stmt) → ProgramSoFar context d before now stmts
    → ReadsStmt context d now mid stmt → PassesToken Token.then_next d mid after → ProgramSoFar context d before after (stmts ++ stmt ∷ [])
program-more context d before now mid after stmts stmt s r q =
    let f1 = s.fewer in
    let f2 = r.fewer in
    let f3 : length mid ≡ suc (length after) = ap (λ (ts : Columned). length ts) q.split in
    record {
      fault = λ k.
          s.fault k ∙ r.fault k ∙ ap (λ (ts : Columned). fault_in context ((d, next) ∷ k) ts) q.split
          ∙ fault-on context next d q.column Token.then_next after k ((d, program) ∷ k) refl refl q.shallow;
      reads = λ k behind p n.
          subst (λ (x : model.Program). ReadsProgram (item_in context.catalog) d (placed ((d, program) ∷ k) before) behind x) (sym (before_one_more stmts stmt p))
          (s.reads k behind (followed_by stmt p)
          (r.reads k behind p
          (subst (λ ts. ReadsNext (item_in context.catalog) d ts behind p)
          (sym (ap (λ (ts : Columned). placed ((d, next) ∷ k) ts) q.split ∙ place-on next d q.column Token.then_next after k ((d, program) ∷ k) refl))
          (grammar.next d (placed ((d, program) ∷ k) after) behind p n))));
      fewer = omega (arith, f1, f2, f3);
    }

pub program-end : (context : Context) (d : ℕ) (before now mid : Columned) (stmts : List Stmt) (stmt : Stmt) → ProgramSoFar context d before now stmts
    → ReadsStmt context d now mid stmt → Skips context (d, next) mid → ReadsWhole context d before mid (program_of (stmts ++ stmt ∷ []))
program-end context d before now mid stmts stmt s r n =
    let f1 = s.fewer in
    let f2 = r.fewer in
    record {
      fault = λ k. s.fault k ∙ r.fault k ∙ n.fault k;
      reads = λ k.
          subst (λ (x : model.Program). ReadsProgram (item_in context.catalog) d (placed ((d, program) ∷ k) before) (placed k mid) x)
          (sym (before_one_more stmts stmt model.end) ∙ before_end (stmts ++ stmt ∷ []))
          (s.reads k (placed k mid) (followed_by stmt model.end)
          (r.reads k (placed k mid) model.end
          (subst (λ ts. ReadsNext (item_in context.catalog) d ts (placed k mid) model.end) (sym (n.place k)) (grammar.last d (placed k mid)))));
      fewer = omega (arith, f1, f2);
    }

pub program-stops-stmt : (context : Context) (d : ℕ) (before now : Columned) (stmts : List Stmt) (error : ParseError) → ProgramSoFar context d before now stmts
    → FailsWith context (d, program) now error → FailsWith context (d, program) before error
program-stops-stmt context d before now stmts error s h = FailsWith-through context (d, program) (d, program) (λ k. k) before now s.fault error h

pub program-stops-next : (context : Context) (d : ℕ) (before now mid : Columned) (stmts : List Stmt) (stmt : Stmt) (error : ParseError) → ProgramSoFar context d before now stmts
    → ReadsStmt context d now mid stmt → FailsWith context (d, next) mid error → FailsWith context (d, program) before error
program-stops-next context d before now mid stmts stmt error s r h =
    FailsWith-through context (d, program) (d, next) (λ k. k) before mid (λ k. s.fault k ∙ r.fault k) error h
