-- How the parts of expressions are put together from what is read of them.
use Rattle.std.proofs.Common.{◌≡◌, ℕ, suc, ◌+◌, Bool, true, false, Option, Some, None, Result, Ok, Err, IfOk, IfErr, List, [], ◌∷◌, ◌≤◌, length, arith, refl, sym, ap, ◌∙◌, subst}
use Rattle.std.specs.Prelude.{IsTrue, if◌then◌else◌}
use Rattle.std.specs.Option.{option_map_or}
use Rattle.pv_model.specs.Syntax as model
use Rattle.pv_model.specs.Syntax.Op.{sub, lesser, larger}
use Rattle.pv_model.specs.Syntax.Expr.{minus, negation, two}
use Rattle.pv_model.specs.Tokens.{Token}
use Rattle.pv_model.specs.Grammar as grammar
use Rattle.pv_model.specs.Grammar.{Nested, Chain, disjunction, conjunction, sum, product, Phrase, chain, negated, comparison, unary, joins, compares, is_min_or_max, side, Reads, GoesOn}
use Rattle.pv_model.specs.ProgramText.{Kind, malformed, item_in}
use Rattle.pv_law_programs.specs.Prediction.{phrase, more, comparing, Expected, may_end, step, placed, first_fault}
use Rattle.pv_parse.specs.declared.error.ParseError.{ParseError}
use Rattle.pv_parse.specs.ReadingSteps.{Columned, Context, fault_in, IsErrorFor, FailsWith, ReadsPhrase, PassesToken, Skips}
use Rattle.pv_parse.specs.declared.cursor.Word.TheVariants.{Not}
use Rattle.pv_parse.specs.Words.{has_no_word, FailsTooDeep}
use Rattle.pv_parse.proofs.StepLemmas.{fault_behind, fault-on, fault-deep, place-on}
use Rattle.pv_parse.proofs.OperatorLemmas.{more-joined, comparing-compared}

pub IfOk-map : {X E : Type 0} {P Q : X → Type 0} (r : Result X E) → ((x : X) → P x → Q x) → IfOk r P → IfOk r Q
IfOk-map (Ok x) f h = f x h
IfOk-map (Err e) f h = tt

pub IfErr-map : {X E : Type 0} {P Q : E → Type 0} (r : Result X E) → ((e : E) → P e → Q e) → IfErr r P → IfErr r Q
IfErr-map (Ok x) f h = tt
IfErr-map (Err e) f h = f e h

-- A fault in what follows is one of the whole.
pub FailsWith-through : (context : Context) (e other : Expected) (behind : List Expected → List Expected) (before mid : Columned)
    → ((k : List Expected) → fault_in context (e ∷ k) before ≡ fault_in context (other ∷ behind k) mid)
    → (error : ParseError) → FailsWith context other mid error → FailsWith context e before error
FailsWith-through context e other behind before mid same error h = λ k. subst (λ (fault : Option (Kind × ℕ)). IsErrorFor fault error) (sym (same k)) (h (behind k))

-- What is expected in two ways, and takes each token alike.
pub record Alike (context : Context) (expected other : List Expected) (ts : Columned) : Type 0 where
  pub fault : fault_in context expected ts ≡ fault_in context other ts
  pub place : placed expected ts ≡ placed other ts

pub alike : (context : Context) (expected other : List Expected) (ts : Columned) → may_end expected ≡ may_end other
    → ((t : ℕ × Token) (rest : Columned) → ts ≡ t ∷ rest → step expected t.1 ≡ step other t.1) → Alike context expected other ts
unfolding first_fault placed
alike context expected other [] ends steps = record { fault = ap (λ (b : Bool). if b then None else Some (malformed, context.after_text)) ends; place = refl }
alike context expected other (t ∷ ts) ends steps = record {
  fault =
      ap (fault_behind context t.0 t.1 ts) (steps t ts refl);
  place = ap (λ (x : Option (ℕ × List Expected)). option_map_or (λ (now : ℕ × List Expected). (now.0, t.1) ∷ placed now.1 ts) x []) (steps t ts refl);
}

-- chains

chain-step : (c : Chain) (d : ℕ) (k : List Expected) (t : Token) → step ((d, phrase (chain c)) ∷ k) t ≡ step ((d, phrase (side c)) ∷ (d, more c) ∷ k) t
unfolding step
chain-step disjunction d k t = refl
chain-step conjunction d k t = refl
chain-step sum d k t = refl
chain-step product d k t = refl

chain-alike : (context : Context) (c : Chain) (d : ℕ) (k : List Expected) (ts : Columned) → Alike context ((d, phrase (chain c)) ∷ k) ((d, phrase (side c)) ∷ (d, more c) ∷ k) ts
chain-alike context c d k ts = alike context _ _ ts refl (λ t rest e. chain-step c d k t.1)

-- The sides so far are the left of a chain that may go on.
pub record ChainSoFar (context : Context) (c : Chain) (d : ℕ) (before now : Columned) (left : model.Expr) : Type 0 where
  pub fault : (k : List Expected) → fault_in context ((d, phrase (chain c)) ∷ k) before ≡ fault_in context ((d, more c) ∷ k) now
  pub reads : (k : List Expected) (behind : List Nested) (e : model.Expr) → GoesOn (item_in context.catalog) c left d (placed ((d, more c) ∷ k) now) behind e
      → Reads (item_in context.catalog) (chain c) d (placed ((d, phrase (chain c)) ∷ k) before) behind e
  pub fewer : length now ≤ length before

pub chain-first : (context : Context) (c : Chain) (d : ℕ) (before now : Columned) (left : model.Expr) → ReadsPhrase context (side c) d before now left
    → ChainSoFar context c d before now left
chain-first context c d before now left p = record {
  fault = λ k. (chain-alike context c d k before).fault ∙ p.fault ((d, more c) ∷ k);
  reads = λ k behind e g.
      subst (λ (ts : List Nested). Reads (item_in context.catalog) (chain c) d ts behind e) (sym (chain-alike context c d k before).place)
      (grammar.chained c d (placed ((d, phrase (side c)) ∷ (d, more c) ∷ k) before) (placed ((d, more c) ∷ k) now) behind left e (p.reads ((d, more c) ∷ k)) g);
  fewer = p.fewer;
}

pub chain-more : (context : Context) (c : Chain) (d : ℕ) (before now mid after : Columned) (left right : model.Expr) (op : model.Op) → ChainSoFar context c d before now left
    → IsTrue (joins c op) → PassesToken (Token.operator op) d now mid → ReadsPhrase context (side c) d mid after right
    → ChainSoFar context c d before after (two op left right)
chain-more context c d before now mid after left right op s j p r =
    let shorter : length now ≡ suc (length mid) = ap (λ (ts : Columned). length ts) p.split in
    let read = r.fewer in
    let whole = s.fewer in
    record {
      fault = λ k.
          s.fault k ∙ ap (λ (ts : Columned). fault_in context ((d, more c) ∷ k) ts) p.split
          ∙ fault-on context (more c) d p.column (Token.operator op) mid k ((d, phrase (side c)) ∷ (d, more c) ∷ k) (more-joined c d op k j) refl p.shallow
          ∙ r.fault ((d, more c) ∷ k);
      reads = λ k behind e g. s.reads k behind e
          (subst (λ (ts : List Nested). GoesOn (item_in context.catalog) c left d ts behind e)
          (sym (ap (λ (ts : Columned). placed ((d, more c) ∷ k) ts) p.split ∙ place-on (more c) d p.column (Token.operator op) mid k ((d, phrase (side c)) ∷ (d, more c) ∷ k) (more-joined c d op k j)))
          (grammar.one_more c op left right e d (placed ((d, phrase (side c)) ∷ (d, more c) ∷ k) mid) (placed ((d, more c) ∷ k) after) behind j (r.reads ((d, more c) ∷ k)) g));
      fewer = omega (arith, shorter, read, whole);
    }

pub chain-end : (context : Context) (c : Chain) (d : ℕ) (before now : Columned) (left : model.Expr) → ChainSoFar context c d before now left → Skips context (d, more c) now
    → ReadsPhrase context (chain c) d before now left
chain-end context c d before now left s n = record {
  fault = λ k. s.fault k ∙ n.fault k;
  reads = λ k. s.reads k (placed k now) left
      (subst (λ (ts : List Nested). GoesOn (item_in context.catalog) c left d ts (placed k now) left) (sym (n.place k)) (grammar.no_more c left d (placed k now)));
  fewer = s.fewer;
}

pub chain-stops-first : (context : Context) (c : Chain) (d : ℕ) (before : Columned) (error : ParseError) → FailsWith context (d, phrase (side c)) before error
    → FailsWith context (d, phrase (chain c)) before error
chain-stops-first context c d before error h =
    FailsWith-through context (d, phrase (chain c)) (d, phrase (side c)) (λ k. (d, more c) ∷ k) before before (λ k. (chain-alike context c d k before).fault) error h

pub chain-stops-operator : (context : Context) (c : Chain) (d : ℕ) (before now : Columned) (left : model.Expr) (error : ParseError) → ChainSoFar context c d before now left
    → FailsWith context (d, more c) now error → FailsWith context (d, phrase (chain c)) before error
chain-stops-operator context c d before now left error s h = FailsWith-through context (d, phrase (chain c)) (d, more c) (λ k. k) before now s.fault error h

pub chain-stops-side : (context : Context) (c : Chain) (d : ℕ) (before now mid : Columned) (left : model.Expr) (op : model.Op) (error : ParseError)
    → ChainSoFar context c d before now left → IsTrue (joins c op) → PassesToken (Token.operator op) d now mid → FailsWith context (d, phrase (side c)) mid error
    → FailsWith context (d, phrase (chain c)) before error
chain-stops-side context c d before now mid left op error s j p h =
    FailsWith-through context (d, phrase (chain c)) (d, phrase (side c)) (λ k. (d, more c) ∷ k) before mid
    (λ k.
    s.fault k ∙ ap (λ (ts : Columned). fault_in context ((d, more c) ∷ k) ts) p.split
    ∙ fault-on context (more c) d p.column (Token.operator op) mid k ((d, phrase (side c)) ∷ (d, more c) ∷ k) (more-joined c d op k j) refl p.shallow) error h

-- comparisons

comparison-alike : (context : Context) (d : ℕ) (k : List Expected) (ts : Columned) → Alike context ((d, phrase comparison) ∷ k) ((d, phrase (chain sum)) ∷ (d, comparing) ∷ k) ts
unfolding step
comparison-alike context d k ts = alike context ((d, phrase comparison) ∷ k) ((d, phrase (chain sum)) ∷ (d, comparing) ∷ k) ts refl (λ t rest e. refl)

pub comparison-stops-first : (context : Context) (d : ℕ) (before : Columned) (error : ParseError) → FailsWith context (d, phrase (chain sum)) before error
    → FailsWith context (d, phrase comparison) before error
comparison-stops-first context d before error h =
    FailsWith-through context (d, phrase comparison) (d, phrase (chain sum)) (λ k. (d, comparing) ∷ k) before before (λ k. (comparison-alike context d k before).fault) error h

pub comparison-stops-operator : (context : Context) (d : ℕ) (before mid : Columned) (left : model.Expr) (error : ParseError) → ReadsPhrase context (chain sum) d before mid left
    → FailsWith context (d, comparing) mid error → FailsWith context (d, phrase comparison) before error
comparison-stops-operator context d before mid left error p h =
    FailsWith-through context (d, phrase comparison) (d, comparing) (λ k. k) before mid (λ k. (comparison-alike context d k before).fault ∙ p.fault ((d, comparing) ∷ k)) error h

comparison-fault : (context : Context) (d : ℕ) (before mid now : Columned) (left : model.Expr) (op : model.Op) (k : List Expected) → ReadsPhrase context (chain sum) d before mid left
    → IsTrue (compares op) → PassesToken (Token.operator op) d mid now → fault_in context ((d, phrase comparison) ∷ k) before ≡ fault_in context ((d, phrase (chain sum)) ∷ k) now
comparison-fault context d before mid now left op k p j q =
    (comparison-alike context d k before).fault ∙ p.fault ((d, comparing) ∷ k) ∙ ap (λ (ts : Columned). fault_in context ((d, comparing) ∷ k) ts) q.split
    ∙ fault-on context comparing d q.column (Token.operator op) now k ((d, phrase (chain sum)) ∷ k) (comparing-compared d op k j) refl q.shallow

pub comparison-stops-right : (context : Context) (d : ℕ) (before mid now : Columned) (left : model.Expr) (op : model.Op) (error : ParseError)
    → ReadsPhrase context (chain sum) d before mid left → IsTrue (compares op) → PassesToken (Token.operator op) d mid now → FailsWith context (d, phrase (chain sum)) now error
    → FailsWith context (d, phrase comparison) before error
comparison-stops-right context d before mid now left op error p j q h =
    FailsWith-through context (d, phrase comparison) (d, phrase (chain sum)) (λ k. k) before now (λ k. comparison-fault context d before mid now left op k p j q) error h

pub comparison-alone : (context : Context) (d : ℕ) (before mid : Columned) (left : model.Expr) → ReadsPhrase context (chain sum) d before mid left
    → Skips context (d, comparing) mid → ReadsPhrase context comparison d before mid left
comparison-alone context d before mid left p n = record {
  fault = λ k. (comparison-alike context d k before).fault ∙ p.fault ((d, comparing) ∷ k) ∙ n.fault k;
  reads = λ k.
      subst (λ (ts : List Nested). Reads (item_in context.catalog) comparison d ts (placed k mid) left) (sym (comparison-alike context d k before).place)
      (grammar.not_compared d (placed ((d, phrase (chain sum)) ∷ (d, comparing) ∷ k) before) (placed k mid) left
      (subst (λ (ts : List Nested). Reads (item_in context.catalog) (chain sum) d (placed ((d, phrase (chain sum)) ∷ (d, comparing) ∷ k) before) ts left) (n.place k) (p.reads ((d, comparing) ∷ k))));
  fewer = p.fewer;
}

pub comparison-two : (context : Context) (d : ℕ) (before mid now after : Columned) (left right : model.Expr) (op : model.Op) → ReadsPhrase context (chain sum) d before mid left
    → IsTrue (compares op) → PassesToken (Token.operator op) d mid now → ReadsPhrase context (chain sum) d now after right
    → ReadsPhrase context comparison d before after (two op left right)
comparison-two context d before mid now after left right op p j q r =
    let shorter : length mid ≡ suc (length now) = ap (λ (ts : Columned). length ts) q.split in
    let first = p.fewer in
    let second = r.fewer in
    record {
      fault = λ k. comparison-fault context d before mid now left op k p j q ∙ r.fault k;
      reads = λ k.
          subst (λ (ts : List Nested). Reads (item_in context.catalog) comparison d ts (placed k after) (two op left right)) (sym (comparison-alike context d k before).place)
          (grammar.compared op d (placed ((d, phrase (chain sum)) ∷ (d, comparing) ∷ k) before) (placed ((d, phrase (chain sum)) ∷ k) now) (placed k after) left right j
          (subst (λ (ts : List Nested). Reads (item_in context.catalog) (chain sum) d (placed ((d, phrase (chain sum)) ∷ (d, comparing) ∷ k) before) ts left)
          (ap (λ (ts : Columned). placed ((d, comparing) ∷ k) ts) q.split ∙ place-on comparing d q.column (Token.operator op) now k ((d, phrase (chain sum)) ∷ k) (comparing-compared d op k j))
          (p.reads ((d, comparing) ∷ k)))
          (r.reads k));
      fewer = omega (arith, shorter, first, second);
    }

-- `not`

negated-step : (d : ℕ) (k : List Expected) (t : ℕ × Token) (rest : Columned) → IsTrue (has_no_word Not (t ∷ rest)) → step ((d, phrase negated) ∷ k) t.1 ≡ step ((d, phrase comparison) ∷ k) t.1
unfolding step
negated-step d k (column, Token.negates) rest h = let e : false ≡ true = h in absurd cc
negated-step d k (column, Token.name word) rest h = refl
negated-step d k (column, Token.number n) rest h = refl
negated-step d k (column, Token.operator op) rest h = refl
negated-step d k (column, _) rest h = refl

negated-alike : (context : Context) (d : ℕ) (k : List Expected) (ts : Columned) → IsTrue (has_no_word Not ts) → Alike context ((d, phrase negated) ∷ k) ((d, phrase comparison) ∷ k) ts
negated-alike context d k ts h =
    alike context ((d, phrase negated) ∷ k) ((d, phrase comparison) ∷ k) ts refl (λ t rest e. negated-step d k t rest (subst (λ (x : Columned). IsTrue (has_no_word Not x)) e h))

pub negated-comparison : (context : Context) (d : ℕ) (before after : Columned) (e : model.Expr) → IsTrue (has_no_word Not before) → ReadsPhrase context comparison d before after e
    → ReadsPhrase context negated d before after e
negated-comparison context d before after e h p = record {
  fault = λ k. (negated-alike context d k before h).fault ∙ p.fault k;
  reads = λ k.
      subst (λ (ts : List Nested). Reads (item_in context.catalog) negated d ts (placed k after) e) (sym (negated-alike context d k before h).place)
      (grammar.not_negated d (placed ((d, phrase comparison) ∷ k) before) (placed k after) e (p.reads k));
  fewer = p.fewer;
}

pub negated-stops-comparison : (context : Context) (d : ℕ) (before : Columned) (error : ParseError) → IsTrue (has_no_word Not before) → FailsWith context (d, phrase comparison) before error
    → FailsWith context (d, phrase negated) before error
negated-stops-comparison context d before error h s =
    FailsWith-through context (d, phrase negated) (d, phrase comparison) (λ k. k) before before (λ k. (negated-alike context d k before h).fault) error s

pub one_more : (d : ℕ) → d + 1 ≡ suc d
one_more d = omega arith

negated-fault : (context : Context) (d : ℕ) (before mid : Columned) (k : List Expected) → PassesToken Token.negates d before mid
    → fault_in context ((d, phrase negated) ∷ k) before ≡ fault_in context ((suc d, phrase negated) ∷ k) mid
negated-fault context d before mid k q =
    ap (λ (ts : Columned). fault_in context ((d, phrase negated) ∷ k) ts) q.split
    ∙ fault-on context (phrase negated) d q.column Token.negates mid k ((suc d, phrase negated) ∷ k) refl refl q.shallow

pub negated-not : (context : Context) (d : ℕ) (before mid after : Columned) (e : model.Expr) → PassesToken Token.negates d before mid → ReadsPhrase context negated (d + 1) mid after e
    → ReadsPhrase context negated d before after (negation e)
negated-not context d before mid after e q read =
    let shorter : length before ≡ suc (length mid) = ap (λ (ts : Columned). length ts) q.split in
    let p : ReadsPhrase context negated (suc d) mid after e = subst (λ (n : ℕ). ReadsPhrase context negated n mid after e) (one_more d) read in
    let inner = p.fewer in
    record {
      fault = λ k. negated-fault context d before mid k q ∙ p.fault k;
      reads = λ k.
          subst (λ (ts : List Nested). Reads (item_in context.catalog) negated d ts (placed k after) (negation e))
          (sym (ap (λ (ts : Columned). placed ((d, phrase negated) ∷ k) ts) q.split ∙ place-on (phrase negated) d q.column Token.negates mid k ((suc d, phrase negated) ∷ k) refl))
          (grammar.not d (placed ((suc d, phrase negated) ∷ k) mid) (placed k after) e (p.reads k));
      fewer = omega (arith, shorter, inner);
    }

pub negated-stops-not : (context : Context) (d : ℕ) (before mid : Columned) (error : ParseError) → PassesToken Token.negates d before mid
    → FailsWith context (d + 1, phrase negated) mid error → FailsWith context (d, phrase negated) before error
negated-stops-not context d before mid error q s =
    FailsWith-through context (d, phrase negated) (suc d, phrase negated) (λ k. k) before mid (λ k. negated-fault context d before mid k q) error
    (subst (λ (n : ℕ). FailsWith context (n, phrase negated) mid error) (one_more d) s)

pub negated-deep : (context : Context) (d : ℕ) (before : Columned) (error : ParseError) → FailsTooDeep Not d before error → FailsWith context (d, phrase negated) before error
negated-deep context d before error is =
    subst (λ (x : ParseError). FailsWith context (d, phrase negated) before x) (sym is.is)
    (λ k. ap (λ (ts : Columned). fault_in context ((d, phrase negated) ∷ k) ts) is.next
    ∙ fault-deep context (phrase negated) d is.column Token.negates _ k ((suc d, phrase negated) ∷ k) refl refl is.deep)
