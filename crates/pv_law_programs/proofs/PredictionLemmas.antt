-- What the reader from left to right takes is what the grammar has.
use Rattle.std.proofs.Common.{◌≡◌, ℕ, suc, pos, ◌^◌, Bool, true, false, Option, Some, None, List, [], ◌∷◌, ◌++◌, refl, sym, ap, subst, inl, inr}
use Rattle.std.specs.Prelude.{IsTrue, nat_lt, if◌then◌else◌, ◌⊎◌}
use Rattle.std.specs.Option.{option_map_or}
use Rattle.std.proofs.lemmas.Option.{none-some}
use Rattle.std.proofs.lemmas.Bool.{ltb-true}
use Rattle.std.proofs.lemmas.List.{append-nil}
use Rattle.pv_model.specs.Syntax.{Op, Expr, Program}
use Rattle.pv_model.specs.Syntax.Op.{sub, lesser, larger}
use Rattle.pv_model.specs.Syntax.Expr.{number, item, minus, negation, two}
use Rattle.pv_model.specs.Syntax.Program.{end, assign, require, certain, return, when, when_else}
use Rattle.pv_model.specs.Tokens.{Token}
use Rattle.pv_model.specs.Grammar.{Nested, Chain, disjunction, conjunction, sum, product, Phrase, chain, negated, comparison, unary, joins, compares, is_min_or_max, side, Reads, chained, not, not_negated, compared, not_compared, negative, numeral, named, in_brackets, of_two, GoesOn, no_more, one_more, ReadsProgram, assigns, requires, requires_certain, returns, asks, asks_else, ReadsNext, last, next}
use Rattle.pv_model.specs.ProgramText.{any_item}
use Rattle.pv_law_programs.specs.Prediction.{Punctuation, is_punctuation, Symbol, Expected, is_optional, may_end, after_prefix, after_unary, after_sum, after_negated, after_phrase, after_program, after_required, after_name, after_symbol, step, at_start}
use Rattle.pv_base.proofs.Basics.{never, Some_inj, and-left, and-right}
use Rattle.pv_law_programs.proofs.NoRefusalLemmas.{IsKnown, AreKnown}
use Rattle.pv_law_programs.proofs.Walks.{Walks, here, on}
pub use Rattle.pv_law_programs.proofs.ProgramWalks.{program-walks}

-- ---- a step, taken apart

pair_inj : {p q : ℕ × List Expected} → Some p ≡ Some q → p ≡ q
pair_inj e = cc

-- the symbol on top takes the token, or it is optional and the token is for what is expected behind it
abbrev StepCases : ℕ → Option (List Expected) → Bool → Option (ℕ × List Expected) → ℕ → List Expected → Type 0
StepCases d now optional behind n more = ((d ≡ n) × (now ≡ Some more)) ⊎ (IsTrue optional × (behind ≡ Some (n, more)))

cases_of_step : (d : ℕ) (now : Option (List Expected)) (optional : Bool) (behind : Option (ℕ × List Expected)) (n : ℕ) (more : List Expected)
    → option_map_or (λ x. Some (d, x)) now (if optional then behind else None) ≡ Some (n, more) → StepCases d now optional behind n more
cases_of_step d (Some x) optional behind n more e =
    let same = pair_inj {p = (d, x)} {q = (n, more)} e in inl (ap (λ (p : ℕ × List Expected). p.0) same, ap (λ (p : ℕ × List Expected). Some p.1) same)
cases_of_step d None true behind n more e = inr (refl, e)
cases_of_step d None false behind n more e = absurd (none-some (n, more) e)

step_cases : (d : ℕ) (s : Symbol) (k : List Expected) (t : Token) (n : ℕ) (more : List Expected) → step ((d, s) ∷ k) t ≡ Some (n, more)
    → StepCases d (after_symbol s d t k) (is_optional s) (step k t) n more
unfolding step
step_cases d s k t n more e = cases_of_step d (after_symbol s d t k) (is_optional s) (step k t) n more e

no_step : (t : Token) (n : ℕ) (more : List Expected) → step [] t ≡ Some (n, more) → ⊥
unfolding step
no_step t n more e = none-some (n, more) e

-- ---- what is expected, by the grammar

abbrev punctuation_token : Punctuation → Token
punctuation_token Punctuation.becomes = Token.becomes
punctuation_token Punctuation.opens = Token.opens
punctuation_token Punctuation.closes = Token.closes
punctuation_token Punctuation.opens_body = Token.opens_body
punctuation_token Punctuation.closes_body = Token.closes_body
punctuation_token Punctuation.comma = Token.parts

module _ (item_of : List ℕ → Option ℕ) where
  data Compares : ℕ → List Nested → List Nested → Type 0 where
    alone : (d : ℕ) (ts : List Nested) → Compares d ts ts
    with_sum : (op : Op) (d : ℕ) (ts mid : List Nested) (right : Expr) → IsTrue (compares op) → Reads item_of (chain sum) d ts mid right
        → Compares d ((d, Token.operator op) ∷ ts) mid

  data IsItemName : ℕ → List Nested → List Nested → Type 0 where
    of_item : (word : List ℕ) (n d : ℕ) (mid : List Nested) → item_of word ≡ Some n → IsItemName d ((d, Token.name word) ∷ mid) mid

  data Requires : ℕ → List Nested → List Nested → Type 0 where
    a_test : (d : ℕ) (ts mid : List Nested) (e : Expr) → Reads item_of (chain disjunction) d ts mid e → Requires d ts mid
    certainty : (word : List ℕ) (n d : ℕ) (mid : List Nested) → item_of word ≡ Some n
        → Requires d ((d, Token.certain) ∷ (d, Token.name word) ∷ mid) mid

  data Elses : ℕ → List Nested → List Nested → Type 0 where
    no_else : (d : ℕ) (ts : List Nested) → Elses d ts ts
    with_else : (d : ℕ) (ts mid : List Nested) (p : Program) → ReadsProgram item_of (suc d) ts ((d, Token.closes_body) ∷ mid) p
        → Elses d ((d, Token.otherwise) ∷ (d, Token.opens_body) ∷ ts) mid

  -- Tokens up to a rest are what this symbol expects.
  abbrev IsSymbol : Symbol → ℕ → List Nested → List Nested → Type 0
  IsSymbol (Symbol.phrase p) d ts mid = (e : Expr) × Reads item_of p d ts mid e
  IsSymbol (Symbol.more c) d ts mid = (left : Expr) → (e : Expr) × GoesOn item_of c left d ts mid e
  IsSymbol Symbol.comparing d ts mid = Compares d ts mid
  IsSymbol (Symbol.punctuation m) d ts mid = ts ≡ (d, punctuation_token m) ∷ mid
  IsSymbol Symbol.program d ts mid = (p : Program) × ReadsProgram item_of d ts mid p
  IsSymbol Symbol.requirement d ts mid = Requires d ts mid
  IsSymbol Symbol.item_name d ts mid = IsItemName d ts mid
  IsSymbol Symbol.next d ts mid = (p : Program) × ReadsNext item_of d ts mid p
  IsSymbol Symbol.other d ts mid = Elses d ts mid

  -- Tokens are all that is expected.
  abbrev Matches : List Expected → List Nested → Type 0
  Matches [] ts = ts ≡ []
  Matches (e ∷ k) ts = (mid : List Nested) × (IsSymbol e.1 e.0 ts mid × Matches k mid)

  -- what is optional may be left out
  left_out : (s : Symbol) (d : ℕ) (ts : List Nested) → IsTrue (is_optional s) → IsSymbol s d ts ts
  left_out (Symbol.phrase p) d ts h = absurd (never h)
  left_out (Symbol.more c) d ts h = λ left. (left, no_more c left d ts)
  left_out Symbol.comparing d ts h = alone d ts
  left_out (Symbol.punctuation m) d ts h = absurd (never h)
  left_out Symbol.program d ts h = absurd (never h)
  left_out Symbol.requirement d ts h = absurd (never h)
  left_out Symbol.item_name d ts h = absurd (never h)
  left_out Symbol.next d ts h = (end, last d ts)
  left_out Symbol.other d ts h = no_else d ts

  fold_chain : (c : Chain) (d : ℕ) (k : List Expected) (ts : List Nested) → Matches ((d, Symbol.phrase (side c)) ∷ (d, Symbol.more c) ∷ k) ts
      → Matches ((d, Symbol.phrase (chain c)) ∷ k) ts
  fold_chain c d k ts m =
      let side_read = m.1.0 in
      let further = m.1.1 in
      let all = further.1.0 side_read.0 in
      (further.0, ((all.0, chained c d ts m.0 further.0 side_read.0 all.0 side_read.1 all.1), further.1.1))

  compare : {d : ℕ} {mid behind : List Nested} (ts : List Nested) (left : Expr) → Compares d mid behind → Reads item_of (chain sum) d ts mid left
      → (e : Expr) × Reads item_of comparison d ts behind e
  compare ts left (alone d mid) p = (left, not_compared d ts mid left p)
  compare ts left (with_sum op d mid behind right h q) p = (two op left right, compared op d ts mid behind left right h p q)

  fold_comparison : (d : ℕ) (k : List Expected) (ts : List Nested) → Matches ((d, Symbol.phrase (chain sum)) ∷ (d, Symbol.comparing) ∷ k) ts
      → Matches ((d, Symbol.phrase comparison) ∷ k) ts
  fold_comparison d k ts m =
      let first = m.1.0 in
      let further = m.1.1 in
      (further.0, (compare ts first.0 further.1.0 first.1, further.1.1))

  fold_negated : (d : ℕ) (k : List Expected) (ts : List Nested) → Matches ((d, Symbol.phrase comparison) ∷ k) ts → Matches ((d, Symbol.phrase negated) ∷ k) ts
  fold_negated d k ts m = let first = m.1.0 in (m.0, ((first.0, not_negated d ts m.0 first.0 first.1), m.1.1))

  fold_brackets : (d : ℕ) (k : List Expected) (ts : List Nested) → Matches ((suc d, Symbol.phrase (chain disjunction)) ∷ (d, Symbol.punctuation Punctuation.closes) ∷ k) ts
      → Matches ((d, Symbol.phrase unary) ∷ k) ((d, Token.opens) ∷ ts)
  fold_brackets d k ts m =
      let inner = m.1.0 in
      let close = m.1.1 in
      let read = subst (λ (l : List Nested). Reads item_of (chain disjunction) (suc d) ts l inner.0) close.1.0 inner.1 in
      (close.0, ((inner.0, in_brackets d ts close.0 inner.0 read), close.1.1))

  fold_two : (op : Op) (d : ℕ) (k : List Expected) (ts : List Nested) → IsTrue (is_min_or_max op)
      → Matches ((d, Symbol.punctuation Punctuation.opens) ∷ (suc d, Symbol.phrase (chain disjunction)) ∷ (suc d, Symbol.punctuation Punctuation.comma) ∷ (suc d, Symbol.phrase (chain disjunction)) ∷ (d, Symbol.punctuation Punctuation.closes) ∷ k) ts
      → Matches ((d, Symbol.phrase unary) ∷ k) ((d, Token.operator op) ∷ ts)
  fold_two op d k ts h m =
      let first = m.1.1 in
      let left = first.1.0 in
      let comma = first.1.1 in
      let second = comma.1.1 in
      let right = second.1.0 in
      let close = second.1.1 in
      let read_left = subst (λ (l : List Nested). Reads item_of (chain disjunction) (suc d) m.0 l left.0) comma.1.0 left.1 in
      let read_right = subst (λ (l : List Nested). Reads item_of (chain disjunction) (suc d) comma.0 l right.0) close.1.0 right.1 in
      let read = of_two op d m.0 comma.0 close.0 left.0 right.0 h read_left read_right in
      let moved = subst (λ (l : List Nested). Reads item_of unary d ((d, Token.operator op) ∷ l) close.0 (two op left.0 right.0)) (sym m.1.0) read in
      (close.0, ((two op left.0 right.0, moved), close.1.1))

  -- ---- one step backwards

  matches_at : {x more : List Expected} (ts : List Nested) → Some x ≡ Some more → Matches more ts → Matches x ts
  matches_at {x} {more} ts e m = subst (λ (k : List Expected). Matches k ts) (sym (Some_inj e)) m

  if_some : {x more : List Expected} (b : Bool) → (if b then Some x else None) ≡ Some more → IsTrue b × (Some x ≡ Some more)
  if_some true e = (refl, e)
  if_some {x} {more} false e = absurd (none-some more e)

  prefix_back : (op : Op) (d : ℕ) (k more : List Expected) (ts : List Nested) → after_prefix d op k ≡ Some more → Matches more ts
      → Matches ((d, Symbol.phrase unary) ∷ k) ((d, Token.operator op) ∷ ts)
  prefix_back sub d k more ts e m =
      let n = matches_at ts e m in let inner = n.1.0 in (n.0, ((minus inner.0, negative d ts n.0 inner.0 inner.1), n.1.1))
  prefix_back lesser d k more ts e m = fold_two lesser d k ts refl (matches_at ts e m)
  prefix_back larger d k more ts e m = fold_two larger d k ts refl (matches_at ts e m)
  prefix_back _ d k more ts e m = absurd (none-some more e)

  unary_back : (t : Token) (d : ℕ) (k more : List Expected) (ts : List Nested) → IsKnown item_of t → after_unary d t k ≡ Some more → Matches more ts
      → Matches ((d, Symbol.phrase unary) ∷ k) ((d, t) ∷ ts)
  unary_back (Token.number n) d k more ts known e m =
      let low = if_some (nat_lt n (2 ^ 63)) e in
      (ts, ((number (pos n), numeral n d ts (ltb-true n (2 ^ 63) low.0)), matches_at ts low.1 m))
  unary_back (Token.name word) d k more ts known e m = (ts, ((item known.0, named word known.0 d ts known.1), matches_at ts e m))
  unary_back (Token.operator op) d k more ts known e m = prefix_back op d k more ts e m
  unary_back Token.opens d k more ts known e m = fold_brackets d k ts (matches_at ts e m)
  unary_back _ d k more ts known e m = absurd (none-some more e)

  sum_back : (t : Token) (d : ℕ) (k more : List Expected) (ts : List Nested) → IsKnown item_of t → after_sum d t k ≡ Some more → Matches more ts
      → Matches ((d, Symbol.phrase (chain sum)) ∷ k) ((d, t) ∷ ts)
  sum_back t d k more ts known e m =
      fold_chain sum d k ((d, t) ∷ ts) (fold_chain product d ((d, Symbol.more sum) ∷ k) ((d, t) ∷ ts)
      (unary_back t d ((d, Symbol.more product) ∷ (d, Symbol.more sum) ∷ k) more ts known e m))

  comparison_back : (t : Token) (d : ℕ) (k more : List Expected) (ts : List Nested) → IsKnown item_of t → after_sum d t ((d, Symbol.comparing) ∷ k) ≡ Some more
      → Matches more ts → Matches ((d, Symbol.phrase comparison) ∷ k) ((d, t) ∷ ts)
  comparison_back t d k more ts known e m = fold_comparison d k ((d, t) ∷ ts) (sum_back t d ((d, Symbol.comparing) ∷ k) more ts known e m)

  negated_back : (t : Token) (d : ℕ) (k more : List Expected) (ts : List Nested) → IsKnown item_of t → after_negated d t k ≡ Some more → Matches more ts
      → Matches ((d, Symbol.phrase negated) ∷ k) ((d, t) ∷ ts)
  negated_back Token.negates d k more ts known e m =
      let n = matches_at ts e m in let inner = n.1.0 in (n.0, ((negation inner.0, not d ts n.0 inner.0 inner.1), n.1.1))
  negated_back t d k more ts known e m = fold_negated d k ((d, t) ∷ ts) (comparison_back t d k more ts known e m)

  part_back : (p : Phrase) (t : Token) (d : ℕ) (k more : List Expected) (ts : List Nested) → IsKnown item_of t → after_phrase p d t k ≡ Some more → Matches more ts
      → Matches ((d, Symbol.phrase p) ∷ k) ((d, t) ∷ ts)
  part_back unary t d k more ts known e m = unary_back t d k more ts known e m
  part_back (chain product) t d k more ts known e m = fold_chain product d k ((d, t) ∷ ts) (unary_back t d ((d, Symbol.more product) ∷ k) more ts known e m)
  part_back (chain sum) t d k more ts known e m = sum_back t d k more ts known e m
  part_back comparison t d k more ts known e m = comparison_back t d k more ts known e m
  part_back negated t d k more ts known e m = negated_back t d k more ts known e m
  part_back (chain conjunction) t d k more ts known e m =
      fold_chain conjunction d k ((d, t) ∷ ts) (negated_back t d ((d, Symbol.more conjunction) ∷ k) more ts known e m)
  part_back (chain disjunction) t d k more ts known e m =
      fold_chain disjunction d k ((d, t) ∷ ts) (fold_chain conjunction d ((d, Symbol.more disjunction) ∷ k) ((d, t) ∷ ts)
      (negated_back t d ((d, Symbol.more conjunction) ∷ (d, Symbol.more disjunction) ∷ k) more ts known e m))

  -- an `if` with its body, and with the `else` behind it or without
  asks_read : {d : ℕ} {mid behind : List Nested} (ts inside after : List Nested) (test : Expr) (body p : Program) → Elses d mid behind
      → Reads item_of (chain disjunction) d ts ((d, Token.opens_body) ∷ inside) test → ReadsProgram item_of (suc d) inside ((d, Token.closes_body) ∷ mid) body
      → ReadsNext item_of d behind after p → (q : Program) × ReadsProgram item_of d ((d, Token.asks) ∷ ts) after q
  asks_read ts inside after test body p (no_else d mid) x b y = (when test body p, asks d ts inside mid after test body p x b y)
  asks_read ts inside after test body p (with_else d second behind r o) x b y =
      (when_else test body r p, asks_else d ts inside second behind after test body r p x b o y)

  -- a test, or that an item be certain
  required_read : {d : ℕ} {ts mid : List Nested} (after : List Nested) (p : Program) → Requires d ts mid → ReadsNext item_of d mid after p
      → (q : Program) × ReadsProgram item_of d ((d, Token.requires) ∷ ts) after q
  required_read after p (a_test d ts mid e x) y = (require e p, requires d ts mid after e p x y)
  required_read after p (certainty word n d mid i) y = (certain n p, requires_certain word n d mid after p i y)

  certain_name : {d : ℕ} {ts mid : List Nested} → IsItemName d ts mid → Requires d ((d, Token.certain) ∷ ts) mid
  certain_name (of_item word n d mid i) = certainty word n d mid i

  required_back : (t : Token) (d : ℕ) (k more : List Expected) (ts : List Nested) → IsKnown item_of t → after_required d t k ≡ Some more → Matches more ts
      → Matches ((d, Symbol.requirement) ∷ k) ((d, t) ∷ ts)
  required_back Token.certain d k more ts known e m = let n = matches_at ts e m in (n.0, (certain_name n.1.0, n.1.1))
  required_back t d k more ts known e m =
      let n = part_back (chain disjunction) t d k more ts known e m in (n.0, (a_test d ((d, t) ∷ ts) n.0 n.1.0.0 n.1.0.1, n.1.1))

  name_back : (t : Token) (d : ℕ) (k more : List Expected) (ts : List Nested) → IsKnown item_of t → after_name t k ≡ Some more → Matches more ts
      → Matches ((d, Symbol.item_name) ∷ k) ((d, t) ∷ ts)
  name_back (Token.name word) d k more ts known e m = (ts, (of_item word known.0 d ts known.1, matches_at ts e m))
  name_back _ d k more ts known e m = absurd (none-some more e)

  program_back : (t : Token) (d : ℕ) (k more : List Expected) (ts : List Nested) → IsKnown item_of t → after_program d t k ≡ Some more → Matches more ts
      → Matches ((d, Symbol.program) ∷ k) ((d, t) ∷ ts)
  program_back (Token.name word) d k more ts known e m =
      let n = matches_at ts e m in
      let x = n.1.1 in
      let y = x.1.1 in
      let value = x.1.0 in
      let after = y.1.0 in
      let read = assigns word known.0 d n.0 x.0 y.0 value.0 after.0 known.1 value.1 after.1 in
      let moved = subst (λ (l : List Nested). ReadsProgram item_of d ((d, Token.name word) ∷ l) y.0 (assign known.0 value.0 after.0)) (sym n.1.0) read in
      (y.0, ((assign known.0 value.0 after.0, moved), y.1.1))
  program_back Token.requires d k more ts known e m =
      let n = matches_at ts e m in
      let y = n.1.1 in
      let after = y.1.0 in
      (y.0, (required_read y.0 after.0 n.1.0 after.1, y.1.1))
  program_back Token.returns d k more ts known e m =
      let n = matches_at ts e m in
      let y = n.1.1 in
      let value = n.1.0 in
      let after = y.1.0 in
      (y.0, ((return value.0 after.0, returns d ts n.0 y.0 value.0 after.0 value.1 after.1), y.1.1))
  program_back Token.asks d k more ts known e m =
      let n = matches_at ts e m in
      let test = n.1.0 in
      let open_body = n.1.1 in
      let inner = open_body.1.1 in
      let body = inner.1.0 in
      let close_body = inner.1.1 in
      let elses = close_body.1.1 in
      let y = elses.1.1 in
      let after = y.1.0 in
      let x = subst (λ (l : List Nested). Reads item_of (chain disjunction) d ts l test.0) open_body.1.0 test.1 in
      let b = subst (λ (l : List Nested). ReadsProgram item_of (suc d) open_body.0 l body.0) close_body.1.0 body.1 in
      (y.0, (asks_read ts open_body.0 y.0 test.0 body.0 after.0 elses.1.0 x b after.1, y.1.1))
  program_back _ d k more ts known e m = absurd (none-some more e)

  else_back : (d : ℕ) (k : List Expected) (ts : List Nested)
      → Matches ((d, Symbol.punctuation Punctuation.opens_body) ∷ (suc d, Symbol.program) ∷ (d, Symbol.punctuation Punctuation.closes_body) ∷ k) ts
      → Matches ((d, Symbol.other) ∷ k) ((d, Token.otherwise) ∷ ts)
  else_back d k ts n =
      let inner = n.1.1 in
      let body = inner.1.0 in
      let close_body = inner.1.1 in
      let b = subst (λ (l : List Nested). ReadsProgram item_of (suc d) n.0 l body.0) close_body.1.0 body.1 in
      let moved = subst (λ (l : List Nested). Elses d ((d, Token.otherwise) ∷ l) close_body.0) (sym n.1.0) (with_else d n.0 close_body.0 body.0 b) in
      (close_body.0, (moved, close_body.1.1))

  chain_back : (c : Chain) (op : Op) (d : ℕ) (k : List Expected) (ts : List Nested) → IsTrue (joins c op)
      → Matches ((d, Symbol.phrase (side c)) ∷ (d, Symbol.more c) ∷ k) ts → Matches ((d, Symbol.more c) ∷ k) ((d, Token.operator op) ∷ ts)
  chain_back c op d k ts h n =
      let right = n.1.0 in
      let further = n.1.1 in
      let all : (left : Expr) → (e : Expr) × GoesOn item_of c left d ((d, Token.operator op) ∷ ts) further.0 e =
      λ left. let x = further.1.0 (two op left right.0) in (x.0, one_more c op left right.0 x.0 d ts n.0 further.0 h right.1 x.1) in
      (further.0, (all, further.1.1))

  comparing_back : (op : Op) (d : ℕ) (k : List Expected) (ts : List Nested) → IsTrue (compares op) → Matches ((d, Symbol.phrase (chain sum)) ∷ k) ts
      → Matches ((d, Symbol.comparing) ∷ k) ((d, Token.operator op) ∷ ts)
  comparing_back op d k ts h n = let right = n.1.0 in (n.0, (with_sum op d ts n.0 right.0 h right.1, n.1.1))

  mark_is : (m : Punctuation) (t : Token) → IsTrue (is_punctuation m t) → t ≡ punctuation_token m
  mark_is Punctuation.becomes Token.becomes h = refl
  mark_is Punctuation.opens Token.opens h = refl
  mark_is Punctuation.closes Token.closes h = refl
  mark_is Punctuation.opens_body Token.opens_body h = refl
  mark_is Punctuation.closes_body Token.closes_body h = refl
  mark_is Punctuation.comma Token.parts h = refl
  mark_is _ _ h = absurd (never h)

  more_back : (c : Chain) (t : Token) (d : ℕ) (k more : List Expected) (ts : List Nested) → after_symbol (Symbol.more c) d t k ≡ Some more → Matches more ts
      → Matches ((d, Symbol.more c) ∷ k) ((d, t) ∷ ts)
  more_back c (Token.operator op) d k more ts e m = let h = if_some (joins c op) e in chain_back c op d k ts h.0 (matches_at ts h.1 m)
  more_back c _ d k more ts e m = absurd (none-some more e)

  symbol_back : (s : Symbol) (t : Token) (d : ℕ) (k more : List Expected) (ts : List Nested) → IsKnown item_of t → after_symbol s d t k ≡ Some more
      → Matches more ts → Matches ((d, s) ∷ k) ((d, t) ∷ ts)
  symbol_back (Symbol.phrase p) t d k more ts known e m = part_back p t d k more ts known e m
  symbol_back (Symbol.more c) t d k more ts known e m = more_back c t d k more ts e m
  symbol_back (Symbol.punctuation x) t d k more ts known e m =
      let h = if_some (is_punctuation x t) e in (ts, (ap (λ (u : Token). (d, u) ∷ ts) (mark_is x t h.0), matches_at ts h.1 m))
  symbol_back Symbol.program t d k more ts known e m = program_back t d k more ts known e m
  symbol_back Symbol.requirement t d k more ts known e m = required_back t d k more ts known e m
  symbol_back Symbol.item_name t d k more ts known e m = name_back t d k more ts known e m
  symbol_back Symbol.comparing (Token.operator op) d k more ts known e m =
      let h = if_some (compares op) e in comparing_back op d k ts h.0 (matches_at ts h.1 m)
  symbol_back Symbol.next Token.then_next d k more ts known e m =
      let n = matches_at ts e m in let p = n.1.0 in (n.0, ((p.0, next d ts n.0 p.0 p.1), n.1.1))
  symbol_back Symbol.other Token.otherwise d k more ts known e m = else_back d k ts (matches_at ts e m)
  symbol_back Symbol.comparing _ d k more ts known e m = absurd (none-some more e)
  symbol_back Symbol.next _ d k more ts known e m = absurd (none-some more e)
  symbol_back Symbol.other _ d k more ts known e m = absurd (none-some more e)

  back : (k : List Expected) (t : Token) (n : ℕ) (more : List Expected) (ts : List Nested) → step k t ≡ Some (n, more) → IsKnown item_of t → Matches more ts
      → Matches k ((n, t) ∷ ts)
  back [] t n more ts e known m = absurd (no_step t n more e)
  back (x ∷ k) t n more ts e known m = elim (step_cases x.0 x.1 k t n more e) [
    | inl h ↦ subst (λ (d : ℕ). Matches (x ∷ k) ((d, t) ∷ ts)) h.0 (symbol_back x.1 t x.0 k more ts known h.1 m)
    | inr h ↦ ((n, t) ∷ ts, (left_out x.1 x.0 ((n, t) ∷ ts) h.0, back k t n more ts h.1 known m))
  ]

  walks_back : {k more : List Expected} {ts rest : List Nested} (us : List Nested) → Walks k ts more rest → AreKnown item_of ts → Matches more (rest ++ us)
      → Matches k (ts ++ us)
  walks_back us (here k ts) known m = m
  walks_back us (on k now more d t ts r e w) known m = back k t d now (ts ++ us) e known.0 (walks_back us w known.1 m)

  -- ---- an ending of what is expected

  zero_reads : (d : ℕ) (mid : List Nested) → Reads item_of unary d ((d, Token.number 0) ∷ mid) mid (number (pos 0))
  zero_reads d mid = numeral 0 d mid (ltb-true 0 (2 ^ 63) refl)

  in_chain : {c : Chain} {d : ℕ} {ts mid : List Nested} {e : Expr} → Reads item_of (side c) d ts mid e → Reads item_of (chain c) d ts mid e
  in_chain {c} {d} {ts} {mid} {e} p = chained c d ts mid mid e e p (no_more c e d mid)

  zero_comparison : (d : ℕ) (mid : List Nested) → Reads item_of comparison d ((d, Token.number 0) ∷ mid) mid (number (pos 0))
  zero_comparison d mid =
      not_compared d ((d, Token.number 0) ∷ mid) mid (number (pos 0)) (in_chain {c = sum} (in_chain {c = product} (zero_reads d mid)))

  zero_negated : (d : ℕ) (mid : List Nested) → Reads item_of negated d ((d, Token.number 0) ∷ mid) mid (number (pos 0))
  zero_negated d mid = not_negated d ((d, Token.number 0) ∷ mid) mid (number (pos 0)) (zero_comparison d mid)

  zero_part : (p : Phrase) (d : ℕ) (mid : List Nested) → Reads item_of p d ((d, Token.number 0) ∷ mid) mid (number (pos 0))
  zero_part unary d mid = zero_reads d mid
  zero_part (chain product) d mid = in_chain {c = product} (zero_reads d mid)
  zero_part (chain sum) d mid = in_chain {c = sum} (in_chain {c = product} (zero_reads d mid))
  zero_part comparison d mid = zero_comparison d mid
  zero_part negated d mid = zero_negated d mid
  zero_part (chain conjunction) d mid = in_chain {c = conjunction} (zero_negated d mid)
  zero_part (chain disjunction) d mid = in_chain {c = disjunction} (in_chain {c = conjunction} (zero_negated d mid))

  -- where some word is the name of an item
  symbol_ends : (s : Symbol) (d : ℕ) (mid : List Nested) (word : List ℕ) (n : ℕ) → item_of word ≡ Some n → (ts : List Nested) × IsSymbol s d ts mid
  symbol_ends (Symbol.phrase p) d mid word m i = ((d, Token.number 0) ∷ mid, (number (pos 0), zero_part p d mid))
  symbol_ends (Symbol.more c) d mid word m i = (mid, left_out (Symbol.more c) d mid refl)
  symbol_ends Symbol.comparing d mid word m i = (mid, left_out Symbol.comparing d mid refl)
  symbol_ends (Symbol.punctuation x) d mid word m i = ((d, punctuation_token x) ∷ mid, refl)
  symbol_ends Symbol.program d mid word m i = (
    (d, Token.returns) ∷ (d, Token.number 0) ∷ mid,
    (
      return (number (pos 0)) end,
      returns d ((d, Token.number 0) ∷ mid) mid mid (number (pos 0)) end (zero_part (chain disjunction) d mid) (last d mid),
    ),
  )
  symbol_ends Symbol.requirement d mid word m i =
      ((d, Token.number 0) ∷ mid, a_test d ((d, Token.number 0) ∷ mid) mid (number (pos 0)) (zero_part (chain disjunction) d mid))
  symbol_ends Symbol.item_name d mid word m i = ((d, Token.name word) ∷ mid, of_item word m d mid i)
  symbol_ends Symbol.next d mid word m i = (mid, left_out Symbol.next d mid refl)
  symbol_ends Symbol.other d mid word m i = (mid, left_out Symbol.other d mid refl)

  ends : (k : List Expected) (word : List ℕ) (n : ℕ) → item_of word ≡ Some n → (ts : List Nested) × Matches k ts
  ends [] word n i = ([], refl)
  ends (x ∷ k) word n i = let behind = ends k word n i in let now = symbol_ends x.1 x.0 behind.0 word n i in (now.0, (behind.0, (now.1, behind.1)))

  nothing_matches : (k : List Expected) → IsTrue (may_end k) → Matches k []
  nothing_matches [] h = refl
  nothing_matches (x ∷ k) h = ([], (left_out x.1 x.0 [] (and-left (is_optional x.1) (may_end k) h), nothing_matches k (and-right (is_optional x.1) (may_end k) h)))

  whole : {ts : List Nested} → Matches at_start ts → (p : Program) × ReadsProgram item_of 0 ts [] p
  whole {ts} m = let read = m.1.0 in (read.0, subst (λ (l : List Nested). ReadsProgram item_of 0 ts l read.0) m.1.1 read.1)

any_known : (ts : List Nested) → AreKnown any_item ts
any_known [] = tt
any_known (t ∷ ts) = (known t.1, any_known ts)
  where
    known : (t : Token) → IsKnown any_item t
    known (Token.name word) = (0, refl)
    known _ = tt

-- Tokens that the reader takes begin a program.
pub walks-viable : {ts : List Nested} {k : List Expected} → Walks at_start ts k [] → (rest : List Nested) × (p : Program) × ReadsProgram any_item 0 (ts ++ rest) [] p
walks-viable {ts} {k} w =
    let ending = ends any_item k [] 0 refl in
    let p = whole any_item {ts = ts ++ ending.0} (walks_back any_item ending.0 w (any_known ts) ending.1) in
    (ending.0, p.0, p.1)

-- Tokens that the reader takes are a program where they may end, over items that their names have.
pub walks-program : (item_of : List ℕ → Option ℕ) {ts : List Nested} {k : List Expected} → Walks at_start ts k [] → IsTrue (may_end k) → AreKnown item_of ts
    → (p : Program) × ReadsProgram item_of 0 ts [] p
walks-program item_of {ts} {k} w ready known =
    whole item_of {ts = ts} (subst (λ (l : List Nested). Matches item_of at_start l) (append-nil ts) (walks_back item_of [] w known (nothing_matches item_of k ready)))
