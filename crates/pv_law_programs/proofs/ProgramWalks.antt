-- The reader from left to right takes the tokens of a program.
use Rattle.std.proofs.Common.{◌≡◌, ℕ, suc, ◌^◌, Bool, true, false, Option, Some, None, List, [], ◌∷◌, refl, ap, ◌∙◌}
use Rattle.std.specs.Prelude.{IsTrue, nat_lt, if◌then◌else◌}
use Rattle.std.specs.Option.{option_map_or}
use Rattle.std.proofs.lemmas.Option.{none-some}
use Rattle.std.proofs.lemmas.Bool.{lt-ltb}
use Rattle.pv_model.specs.Syntax.{Op, Expr, Program}
use Rattle.pv_model.specs.Syntax.Op.{sub, lesser, larger}
use Rattle.pv_model.specs.Tokens.{Token}
use Rattle.pv_model.specs.Grammar.{Nested, Chain, disjunction, conjunction, sum, product, Phrase, chain, negated, comparison, unary, joins, compares, is_min_or_max, side, Reads, chained, not, not_negated, compared, not_compared, negative, numeral, named, in_brackets, of_two, GoesOn, no_more, one_more, ReadsProgram, assigns, requires, requires_certain, returns, asks, asks_else, ReadsNext, last, next}
use Rattle.pv_law_programs.specs.Prediction.{Punctuation, Symbol, Expected, is_optional, may_end, after_symbol, step, at_start}
use Rattle.pv_base.proofs.Basics.{never}
use Rattle.pv_law_programs.proofs.GrammarLemmas.{stops_at, joined_stops_side, joined_is_no_stop, compared_stops_sum, compared_is_no_stop, stop_of_side, stop_of_sum}
use Rattle.pv_law_programs.proofs.Walks.{Walks, here, on}

-- ---- single steps

-- the symbol on top takes the token
takes : (d : ℕ) (s : Symbol) (k : List Expected) (t : Token) (more : List Expected) → after_symbol s d t k ≡ Some more → step ((d, s) ∷ k) t ≡ Some (d, more)
unfolding step
takes d s k t more e = ap (λ (now : Option (List Expected)). option_map_or (λ x. Some (d, x)) now (if is_optional s then step k t else None)) e

-- the symbol on top leaves the token to what is expected behind it
leaves : (d : ℕ) (s : Symbol) (k : List Expected) (t : Token) → IsTrue (is_optional s) → after_symbol s d t k ≡ None → step ((d, s) ∷ k) t ≡ step k t
unfolding step
leaves d s k t h e = λ i. option_map_or (λ x. Some (d, x)) (e i) (if h i then step k t else None)

if_some : {A : Type 0} (b : Bool) (x : A) → IsTrue b → (if b then Some x else None) ≡ Some x
if_some b x h = ap (λ (c : Bool). if c then Some x else None) h

if_none : {A : Type 0} (b : Bool) (x : A) → (IsTrue b → ⊥) → (if b then Some x else None) ≡ None
if_none true x h = absurd (h refl)
if_none false x h = refl

-- what these things take, those take in the same way
abbrev TakesAlike : List Expected → List Expected → Type 0
TakesAlike k other = (t : Token) (n : ℕ) (more : List Expected) → step k t ≡ Some (n, more) → step other t ≡ Some (n, more)

chain_begins : (c : Chain) (d : ℕ) (k : List Expected) → TakesAlike ((d, Symbol.phrase (side c)) ∷ (d, Symbol.more c) ∷ k) ((d, Symbol.phrase (chain c)) ∷ k)
unfolding step
chain_begins disjunction d k t n more e = e
chain_begins conjunction d k t n more e = e
chain_begins sum d k t n more e = e
chain_begins product d k t n more e = e

comparison_begins : (d : ℕ) (k : List Expected) → TakesAlike ((d, Symbol.phrase (chain sum)) ∷ (d, Symbol.comparing) ∷ k) ((d, Symbol.phrase comparison) ∷ k)
unfolding step
comparison_begins d k t n more e = e

negated_begins : (d : ℕ) (k : List Expected) → TakesAlike ((d, Symbol.phrase comparison) ∷ k) ((d, Symbol.phrase negated) ∷ k)
unfolding step
negated_begins d k Token.negates n more e = absurd (none-some (n, more) e)
negated_begins d k t n more e = e

requirement_begins : (d : ℕ) (k : List Expected) → TakesAlike ((d, Symbol.phrase (chain disjunction)) ∷ k) ((d, Symbol.requirement) ∷ k)
unfolding step
requirement_begins d k Token.certain n more e = absurd (none-some (n, more) e)
requirement_begins d k t n more e = e

-- ---- walks that begin with a token

data Moves : List Expected → List Nested → List Expected → List Nested → Type 0 where
  move : (k now more : List Expected) (d : ℕ) (t : Token) (ts behind : List Nested) → step k t ≡ Some (d, now) → Walks now ts more behind
      → Moves k ((d, t) ∷ ts) more behind

walked : {k more : List Expected} {ts behind : List Nested} → Moves k ts more behind → Walks k ts more behind
walked (move k now more d t ts behind e w) = on k now more d t ts behind e w

alike : {k other more : List Expected} {ts behind : List Nested} → TakesAlike k other → Moves k ts more behind → Moves other ts more behind
alike {other} a (move k now more d t ts behind e w) = move other now more d t ts behind (a t d now e) w

both : {k now more : List Expected} {ts mid behind : List Nested} → Walks k ts now mid → Walks now mid more behind → Walks k ts more behind
both (here k ts) v = v
both (on k now more d t ts behind e w) v = on k now _ d t ts _ e (both w v)

further : {k now more : List Expected} {ts mid behind : List Nested} → Moves k ts now mid → Walks now mid more behind → Moves k ts more behind
further (move k now more d t ts behind e w) v = move k now _ d t ts _ e (both w v)

moves : {k now more : List Expected} {d : ℕ} {t : Token} {ts behind : List Nested} → step k t ≡ Some (d, now) → Walks now ts more behind
    → Moves k ((d, t) ∷ ts) more behind
moves {k} {now} {more} {d} {t} {ts} {behind} e w = move k now more d t ts behind e w

walks : {k now more : List Expected} {d : ℕ} {t : Token} {ts behind : List Nested} → step k t ≡ Some (d, now) → Walks now ts more behind
    → Walks k ((d, t) ∷ ts) more behind
walks {k} {now} {more} {d} {t} {ts} {behind} e w = on k now more d t ts behind e w

-- ---- what is left of a part when it has been read

-- What is left may be left out, and leaves these tokens to what is expected behind it.
abbrev Passes : (Token → Bool) → List Expected → List Expected → Type 0
Passes tokens left k = (may_end left ≡ may_end k) × ((t : Token) → IsTrue (tokens t) → step left t ≡ step k t)

-- From what is expected before some tokens one comes to what is left before these things.
abbrev Leads : (Token → Bool) → List Expected → List Expected → List Nested → List Nested → Type 0
Leads tokens before k ts behind = (left : List Expected) × (Passes tokens left k × Moves before ts left behind)

-- the tokens that don't go on a part
abbrev stops : Phrase → Token → Bool
stops p (Token.operator op) = stops_at p op
stops p _ = true

-- the tokens that don't go on a statement, behind which `;` may stand
abbrev stops_statement : Token → Bool
stops_statement (Token.operator op) = false
stops_statement Token.otherwise = false
stops_statement _ = true

-- the tokens that don't go on a program
abbrev stops_program : Token → Bool
stops_program (Token.operator op) = false
stops_program Token.otherwise = false
stops_program Token.then_next = false
stops_program _ = true

stops-side : (c : Chain) (t : Token) → IsTrue (stops (chain c) t) → IsTrue (stops (side c) t)
stops-side c (Token.operator op) h = stop_of_side c op h
stops-side c _ h = refl

stops-sum : (t : Token) → IsTrue (stops comparison t) → IsTrue (stops (chain sum) t)
stops-sum (Token.operator op) h = stop_of_sum op h
stops-sum _ h = refl

stops-expr : (t : Token) → IsTrue (stops_statement t) → IsTrue (stops (chain disjunction) t)
stops-expr (Token.operator op) h = absurd (never h)
stops-expr _ h = refl

stops-program : (t : Token) → IsTrue (stops_program t) → IsTrue (stops_statement t)
stops-program (Token.operator op) h = h
stops-program Token.otherwise h = h
stops-program _ h = refl

more_leaves : (c : Chain) (d : ℕ) (k : List Expected) (t : Token) → IsTrue (stops (chain c) t) → step ((d, Symbol.more c) ∷ k) t ≡ step k t
more_leaves c d k (Token.operator op) h =
    leaves d (Symbol.more c) k (Token.operator op) refl (if_none (joins c op) ((d, Symbol.phrase (side c)) ∷ (d, Symbol.more c) ∷ k) (λ j. joined_is_no_stop c op j h))
more_leaves c d k t h = leaves d (Symbol.more c) k t refl refl

comparing_leaves : (d : ℕ) (k : List Expected) (t : Token) → IsTrue (stops comparison t) → step ((d, Symbol.comparing) ∷ k) t ≡ step k t
comparing_leaves d k (Token.operator op) h =
    leaves d Symbol.comparing k (Token.operator op) refl (if_none (compares op) ((d, Symbol.phrase (chain sum)) ∷ k) (λ c. compared_is_no_stop op c h))
comparing_leaves d k t h = leaves d Symbol.comparing k t refl refl

next_leaves : (d : ℕ) (k : List Expected) (t : Token) → IsTrue (stops_program t) → step ((d, Symbol.next) ∷ k) t ≡ step k t
next_leaves d k Token.then_next h = absurd (never h)
next_leaves d k t h = leaves d Symbol.next k t refl refl

other_leaves : (d : ℕ) (k : List Expected) (t : Token) → IsTrue (stops_statement t) → step ((d, Symbol.other) ∷ k) t ≡ step k t
other_leaves d k Token.otherwise h = absurd (never h)
other_leaves d k t h = leaves d Symbol.other k t refl refl

prefix_takes : (op : Op) (d : ℕ) (k : List Expected) → IsTrue (is_min_or_max op)
    → step ((d, Symbol.phrase unary) ∷ k) (Token.operator op)
    ≡ Some (d, (d, Symbol.punctuation Punctuation.opens) ∷ (suc d, Symbol.phrase (chain disjunction)) ∷ (suc d, Symbol.punctuation Punctuation.comma) ∷ (suc d, Symbol.phrase (chain disjunction)) ∷ (d, Symbol.punctuation Punctuation.closes) ∷ k)
unfolding step
prefix_takes lesser d k h = refl
prefix_takes larger d k h = refl
prefix_takes _ d k h = absurd (never h)

module _ (item_of : List ℕ → Option ℕ) where
  mutual
    walk_expr : {p : Phrase} {d : ℕ} {ts behind : List Nested} {e : Expr} → Reads item_of p d ts behind e → (k : List Expected)
        → Leads (stops p) ((d, Symbol.phrase p) ∷ k) k ts behind
    walk_expr (chained c d ts mid behind left e p g) k =
        let x = walk_expr p ((d, Symbol.more c) ∷ k) in
        let y = walk_chain g k x.0 x.1.0 in
        (y.0, (y.1.0, alike (chain_begins c d k) (further x.1.1 y.1.1)))
    walk_expr (not d ts behind e p) k =
        let x = walk_expr p k in
        (x.0, (x.1.0, moves (takes d (Symbol.phrase negated) k Token.negates ((suc d, Symbol.phrase negated) ∷ k) refl) (walked x.1.1)))
    walk_expr (not_negated d ts behind e p) k = let x = walk_expr p k in (x.0, (x.1.0, alike (negated_begins d k) x.1.1))
    walk_expr (compared op d ts mid behind left right c p q) k =
        let x = walk_expr p ((d, Symbol.comparing) ∷ k) in
        let y = walk_expr q k in
        let e = x.1.0.1 (Token.operator op) (compared_stops_sum op c)
        ∙ takes d Symbol.comparing k (Token.operator op) ((d, Symbol.phrase (chain sum)) ∷ k) (if_some (compares op) ((d, Symbol.phrase (chain sum)) ∷ k) c) in
        (y.0, ((y.1.0.0, λ t h. y.1.0.1 t (stops-sum t h)), alike (comparison_begins d k) (further x.1.1 (walks e (walked y.1.1)))))
    walk_expr (not_compared d ts behind e p) k =
        let x = walk_expr p ((d, Symbol.comparing) ∷ k) in
        (x.0, ((x.1.0.0, λ t h. x.1.0.1 t (stops-sum t h) ∙ comparing_leaves d k t h), alike (comparison_begins d k) x.1.1))
    walk_expr (negative d ts behind e p) k =
        let x = walk_expr p k in
        (x.0, (x.1.0, moves (takes d (Symbol.phrase unary) k (Token.operator sub) ((suc d, Symbol.phrase unary) ∷ k) refl) (walked x.1.1)))
    walk_expr (numeral n d behind l) k =
        (k, ((refl, λ t h. refl), moves (takes d (Symbol.phrase unary) k (Token.number n) k (if_some (nat_lt n (2 ^ 63)) k (lt-ltb n (2 ^ 63) l))) (here k behind)))
    walk_expr (named word n d behind i) k =
        (k, ((refl, λ t h. refl), moves (takes d (Symbol.phrase unary) k (Token.name word) k refl) (here k behind)))
    walk_expr (in_brackets d ts behind e p) k =
        let x = walk_expr p ((d, Symbol.punctuation Punctuation.closes) ∷ k) in
        let open_e = takes d (Symbol.phrase unary) k Token.opens ((suc d, Symbol.phrase (chain disjunction)) ∷ (d, Symbol.punctuation Punctuation.closes) ∷ k) refl in
        let close_e = x.1.0.1 Token.closes refl ∙ takes d (Symbol.punctuation Punctuation.closes) k Token.closes k refl in
        (k, ((refl, λ t h. refl), moves open_e (both (walked x.1.1) (walks close_e (here k behind)))))
    walk_expr (of_two op d ts mid behind left right m p q) k =
        let x = walk_expr p ((suc d, Symbol.punctuation Punctuation.comma) ∷ (suc d, Symbol.phrase (chain disjunction)) ∷ (d, Symbol.punctuation Punctuation.closes) ∷ k) in
        let y = walk_expr q ((d, Symbol.punctuation Punctuation.closes) ∷ k) in
        let open_e = takes d (Symbol.punctuation Punctuation.opens) ((suc d, Symbol.phrase (chain disjunction)) ∷ (suc d, Symbol.punctuation Punctuation.comma) ∷ (suc d, Symbol.phrase (chain disjunction)) ∷ (d, Symbol.punctuation Punctuation.closes) ∷ k) Token.opens _ refl in
        let comma_e = x.1.0.1 Token.parts refl ∙ takes (suc d) (Symbol.punctuation Punctuation.comma) ((suc d, Symbol.phrase (chain disjunction)) ∷ (d, Symbol.punctuation Punctuation.closes) ∷ k) Token.parts _ refl in
        let close_e = y.1.0.1 Token.closes refl ∙ takes d (Symbol.punctuation Punctuation.closes) k Token.closes k refl in
        (k, ((refl, λ t h. refl), moves (prefix_takes op d k m) (walks open_e (both (walked x.1.1) (walks comma_e (both (walked y.1.1) (walks close_e (here k behind))))))))

    walk_chain : {c : Chain} {before e : Expr} {d : ℕ} {ts behind : List Nested} → GoesOn item_of c before d ts behind e → (k now : List Expected)
        → Passes (stops (side c)) now ((d, Symbol.more c) ∷ k) → (left : List Expected) × (Passes (stops (chain c)) left k × Walks now ts left behind)
    walk_chain (no_more c before d behind) k now passes =
        (now, ((passes.0, λ t h. passes.1 t (stops-side c t h) ∙ more_leaves c d k t h), here now behind))
    walk_chain (one_more c op before right e d ts mid behind j p g) k now passes =
        let x = walk_expr p ((d, Symbol.more c) ∷ k) in
        let y = walk_chain g k x.0 x.1.0 in
        let e = passes.1 (Token.operator op) (joined_stops_side c op j)
        ∙ takes d (Symbol.more c) k (Token.operator op) ((d, Symbol.phrase (side c)) ∷ (d, Symbol.more c) ∷ k) (if_some (joins c op) ((d, Symbol.phrase (side c)) ∷ (d, Symbol.more c) ∷ k) j) in
        (y.0, (y.1.0, walks e (both (walked x.1.1) y.1.1)))

  mutual
    walk_program : {d : ℕ} {ts behind : List Nested} {p : Program} → ReadsProgram item_of d ts behind p → (k : List Expected)
        → Leads stops_program ((d, Symbol.program) ∷ k) k ts behind
    walk_program (assigns word n d ts mid behind e nx i x y) k =
        let v = walk_expr x ((d, Symbol.next) ∷ k) in
        let z = walk_next y k v.0 (v.1.0.0, λ t h. v.1.0.1 t (stops-expr t h)) in
        let becomes_e = takes d (Symbol.punctuation Punctuation.becomes) ((d, Symbol.phrase (chain disjunction)) ∷ (d, Symbol.next) ∷ k) Token.becomes _ refl in
        (z.0, (z.1.0, moves (takes d Symbol.program k (Token.name word) _ refl) (walks becomes_e (both (walked v.1.1) z.1.1))))
    walk_program (requires d ts mid behind e nx x y) k =
        let v = walk_expr x ((d, Symbol.next) ∷ k) in
        let z = walk_next y k v.0 (v.1.0.0, λ t h. v.1.0.1 t (stops-expr t h)) in
        (z.0, (z.1.0, moves (takes d Symbol.program k Token.requires _ refl) (both (walked (alike (requirement_begins d ((d, Symbol.next) ∷ k)) v.1.1)) z.1.1)))
    walk_program (requires_certain word n d mid behind nx i y) k =
        let z = walk_next y k ((d, Symbol.next) ∷ k) (refl, λ t h. refl) in
        let certain_e = takes d Symbol.requirement ((d, Symbol.next) ∷ k) Token.certain _ refl in
        let name_e = takes d Symbol.item_name ((d, Symbol.next) ∷ k) (Token.name word) _ refl in
        (z.0, (z.1.0, moves (takes d Symbol.program k Token.requires _ refl) (walks certain_e (walks name_e z.1.1))))
    walk_program (returns d ts mid behind e nx x y) k =
        let v = walk_expr x ((d, Symbol.next) ∷ k) in
        let z = walk_next y k v.0 (v.1.0.0, λ t h. v.1.0.1 t (stops-expr t h)) in
        (z.0, (z.1.0, moves (takes d Symbol.program k Token.returns _ refl) (both (walked v.1.1) z.1.1)))
    walk_program (asks d ts inside mid behind test body nx x b y) k =
        let v = walk_expr x ((d, Symbol.punctuation Punctuation.opens_body) ∷ (suc d, Symbol.program) ∷ (d, Symbol.punctuation Punctuation.closes_body) ∷ (d, Symbol.other) ∷ (d, Symbol.next) ∷ k) in
        let w = walk_program b ((d, Symbol.punctuation Punctuation.closes_body) ∷ (d, Symbol.other) ∷ (d, Symbol.next) ∷ k) in
        let z = walk_next y k ((d, Symbol.other) ∷ (d, Symbol.next) ∷ k) (refl, λ t h. other_leaves d ((d, Symbol.next) ∷ k) t h) in
        let open_e = v.1.0.1 Token.opens_body refl
        ∙ takes d (Symbol.punctuation Punctuation.opens_body) ((suc d, Symbol.program) ∷ (d, Symbol.punctuation Punctuation.closes_body) ∷ (d, Symbol.other) ∷ (d, Symbol.next) ∷ k) Token.opens_body _ refl in
        let close_e = w.1.0.1 Token.closes_body refl ∙ takes d (Symbol.punctuation Punctuation.closes_body) ((d, Symbol.other) ∷ (d, Symbol.next) ∷ k) Token.closes_body _ refl in
        (z.0, (z.1.0, moves (takes d Symbol.program k Token.asks _ refl) (both (walked v.1.1) (walks open_e (both (walked w.1.1) (walks close_e z.1.1))))))
    walk_program (asks_else d ts inside second mid behind test body final nx x b o y) k =
        let v = walk_expr x ((d, Symbol.punctuation Punctuation.opens_body) ∷ (suc d, Symbol.program) ∷ (d, Symbol.punctuation Punctuation.closes_body) ∷ (d, Symbol.other) ∷ (d, Symbol.next) ∷ k) in
        let w = walk_program b ((d, Symbol.punctuation Punctuation.closes_body) ∷ (d, Symbol.other) ∷ (d, Symbol.next) ∷ k) in
        let u = walk_program o ((d, Symbol.punctuation Punctuation.closes_body) ∷ (d, Symbol.next) ∷ k) in
        let z = walk_next y k ((d, Symbol.next) ∷ k) (refl, λ t h. refl) in
        let open_e = v.1.0.1 Token.opens_body refl
        ∙ takes d (Symbol.punctuation Punctuation.opens_body) ((suc d, Symbol.program) ∷ (d, Symbol.punctuation Punctuation.closes_body) ∷ (d, Symbol.other) ∷ (d, Symbol.next) ∷ k) Token.opens_body _ refl in
        let close_e = w.1.0.1 Token.closes_body refl ∙ takes d (Symbol.punctuation Punctuation.closes_body) ((d, Symbol.other) ∷ (d, Symbol.next) ∷ k) Token.closes_body _ refl in
        let else_e = takes d Symbol.other ((d, Symbol.next) ∷ k) Token.otherwise _ refl in
        let open_else_e = takes d (Symbol.punctuation Punctuation.opens_body) ((suc d, Symbol.program) ∷ (d, Symbol.punctuation Punctuation.closes_body) ∷ (d, Symbol.next) ∷ k) Token.opens_body _ refl in
        let close_else_e = u.1.0.1 Token.closes_body refl ∙ takes d (Symbol.punctuation Punctuation.closes_body) ((d, Symbol.next) ∷ k) Token.closes_body _ refl in (
          z.0,
          (
            z.1.0,
            moves (takes d Symbol.program k Token.asks _ refl) (both (walked v.1.1) (walks open_e (both (walked w.1.1)
                (walks close_e (walks else_e (walks open_else_e (both (walked u.1.1) (walks close_else_e z.1.1)))))))),
          ),
        )

    walk_next : {d : ℕ} {ts behind : List Nested} {p : Program} → ReadsNext item_of d ts behind p → (k now : List Expected)
        → Passes stops_statement now ((d, Symbol.next) ∷ k) → (left : List Expected) × (Passes stops_program left k × Walks now ts left behind)
    walk_next (last d behind) k now passes =
        (now, ((passes.0, λ t h. passes.1 t (stops-program t h) ∙ next_leaves d k t h), here now behind))
    walk_next (next d ts behind p q) k now passes =
        let x = walk_program q k in
        (x.0, (x.1.0, walks (passes.1 Token.then_next refl ∙ takes d Symbol.next k Token.then_next _ refl) (walked x.1.1)))

-- The reader takes the tokens of a program, and they may end.
pub program-walks : (item_of : List ℕ → Option ℕ) {ts : List Nested} {p : Program} → ReadsProgram item_of 0 ts [] p
    → (k : List Expected) × (IsTrue (may_end k) × Walks at_start ts k [])
program-walks item_of r = let x = walk_program item_of r [] in (x.0, (x.1.0.0, walked x.1.1))
