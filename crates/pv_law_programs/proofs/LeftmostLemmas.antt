-- The first fault of a text's tokens, as they are read from left to right, is its leftmost one.
use Rattle.std.proofs.Common.{◌≡◌, ℕ, suc, ◌+◌, ◌<◌, ◌≤◌, true, false, Option, Some, None, List, [], ◌∷◌, ◌++◌, length, refl, sym, ap, ◌∙◌, subst, inl, inr, append_assoc, arith}
use Rattle.std.specs.Option.{option_map_or}
use Rattle.std.proofs.lemmas.List.{append-nil, map-append}
use Rattle.std.proofs.lemmas.Option.{none-some}
use Rattle.pv_base.specs.declared.limits.TheConstants.{MAX_DEPTH, MAX_LINE}
use Rattle.pv_base.specs.Catalog.{Declared}
use Rattle.pv_model.specs.FirstMisplaced.{MayBegin, without_numbers}
use Rattle.pv_model.specs.Tokens.{Token, HasTokens}
use Rattle.pv_model.specs.Grammar.{Nested, ReadsProgram}
use Rattle.pv_model.specs.ProgramText.{Kind, malformed, unknown_name, too_deep, without_nestings, any_item, item_in, AreSomeProgram, NamesNoItem, ComesFirst, HasFaultAt, IsRefused, at_fault}
use Rattle.pv_law_programs.specs.Prediction.{Expected, may_end, at_start, step, is_unknown, first_fault}
use Rattle.pv_base.proofs.Basics.{never, heads, tails}
use Rattle.pv_law_programs.proofs.Walks.{Walks, here, on}
use Rattle.pv_law_programs.proofs.PredictionLemmas.{program-walks, walks-viable}
use Rattle.pv_law_programs.proofs.TokenLemmas.{one_token_list}
use Rattle.pv_law_programs.proofs.FaultLemmas.{Now, StopsAt, ends_early, at_nothing, at_unknown, at_deep, Faulty, stops, goes_on, faulty, one_end, no_way, same_step, walks_same, Columns, columns, from_column, before_end}

-- ---- every other fault stands behind the first, or at it and isn't ranked before it

-- Tokens walk from here to somewhere.
pub record Goes (k : List Expected) (ts : List Token) : Type 0 where
  pub placed : List Nested
  pub same : ts ≡ without_nestings placed
  pub end : List Expected
  pub walks : Walks k placed end []

goes_further : (k : List Expected) (t : Token) (ts : List Token) (now : Now) → step k t ≡ Some now → Goes now.1 ts → Goes k (t ∷ ts)
goes_further k t ts now s g = record {
  placed = (now.0, t) ∷ g.placed;
  same = ap (λ (l : List Token). t ∷ l) g.same;
  end = g.end;
  walks = on k now.1 g.end now.0 t g.placed [] s g.walks;
}

goes_nowhere : (k : List Expected) → Goes k []
goes_nowhere k = record { placed = []; same = refl; end = k; walks = here k [] }

goes_one : (k : List Expected) (t u : Token) (now : Now) → t ≡ u → step k t ≡ Some now → Goes k (u ∷ [])
goes_one k t u now e s = subst (λ (x : Token). Goes k (x ∷ [])) e (goes_further k t [] now s (goes_nowhere now.1))

next_of : {k j : List Expected} {n : ℕ} {t : Token} {ps : List Nested} → Walks k ((n, t) ∷ ps) j [] → (more : List Expected) × (step k t ≡ Some (n, more)) × Walks more ps j []
next_of (on k more j d t ts r s w) = (more, s, w)

module _ (item_of : List ℕ → Option ℕ) (behind : ℕ) where
  -- What stops at once stands at the first token.
  first_column : {k : List Expected} {ts : List (ℕ × Token)} {f : Kind × ℕ} → StopsAt item_of behind k ts f → (x : ℕ × Token) (rest : List (ℕ × Token)) → ts ≡ x ∷ rest → f.1 ≡ x.0
  first_column (ends_early k n) x rest e = absurd cc
  first_column (at_nothing k c t ts s) x rest e = ap (λ (y : ℕ × Token). y.0) (heads e)
  first_column (at_unknown k c t ts now s u) x rest e = ap (λ (y : ℕ × Token). y.0) (heads e)
  first_column (at_deep k c t ts now s u d) x rest e = ap (λ (y : ℕ × Token). y.0) (heads e)

  later : (k : List Expected) (ts : List (ℕ × Token)) (f : Kind × ℕ) (y : ℕ × Token) (front rest : List (ℕ × Token)) (x : ℕ × Token) (from to : ℕ)
      → StopsAt item_of behind k ts f → Columns from to ts → ts ≡ y ∷ (front ++ x ∷ rest) → f.1 < x.0
  later k [] f y front rest x from to s c e = absurd cc
  later k (t ∷ ts) f y front rest x from to s c e =
      let here_is : f.1 ≡ t.0 = first_column s t ts refl in
      let there : suc t.0 ≤ x.0 = from_column ts front rest x (suc t.0) to c.1 (tails e) in
      omega (arith, here_is, there)

  place_of_both : {c place : ℕ} {t u : Token} {ts rest : List (ℕ × Token)} → (c, t) ∷ ts ≡ (place, u) ∷ rest → (c ≡ place) × (t ≡ u)
  place_of_both e = (ap (λ (y : ℕ × Token). y.0) (heads e), ap (λ (y : ℕ × Token). y.1) (heads e))

  -- another token that can't go on
  stop_malformed : {k : List Expected} {ts : List (ℕ × Token)} {f : Kind × ℕ} (line : Token) (rest : List (ℕ × Token)) (place : ℕ) → StopsAt item_of behind k ts f
      → ts ≡ (place, line) ∷ rest → (Goes k (line ∷ []) → ⊥) → ComesFirst f.0 f.1 malformed place
  stop_malformed line rest place (ends_early k n) e bad = absurd cc
  stop_malformed line rest place (at_nothing k c t ts s) e bad = inr ((place_of_both e).0, omega arith)
  stop_malformed line rest place (at_unknown k c t ts now s u) e bad = absurd (bad (goes_one k t line now (place_of_both e).1 s))
  stop_malformed line rest place (at_deep k c t ts now s u d) e bad = absurd (bad (goes_one k t line now (place_of_both e).1 s))

  first_malformed : {k : List Expected} {ts : List (ℕ × Token)} {f : Kind × ℕ} (from to : ℕ) → Faulty item_of behind k ts f → Columns from to ts
      → (front : List (ℕ × Token)) (line : Token) (rest : List (ℕ × Token)) (place : ℕ) → ts ≡ front ++ (place, line) ∷ rest
      → (Goes k (without_numbers front ++ line ∷ []) → ⊥) → ComesFirst f.0 f.1 malformed place
  first_malformed from to (stops k ts f s) cs [] line rest place e bad = stop_malformed line rest place s e bad
  first_malformed from to (stops k ts f s) cs (x ∷ front) line rest place e bad = inl (later k ts f x front rest (place, line) from to s cs e)
  first_malformed from to (goes_on k c t ts f now s u d w) cs [] line rest place e bad = absurd (bad (goes_one k t line now (place_of_both e).1 s))
  first_malformed from to (goes_on k c t ts f now s u d w) cs (x ∷ front) line rest place e bad =
      let same : t ≡ x.1 = ap (λ (y : ℕ × Token). y.1) (heads e) in
      first_malformed (suc c) to w cs.1 front line rest place (tails e)
      (λ g. bad (subst (λ (y : Token). Goes k (y ∷ (without_numbers front ++ line ∷ []))) same (goes_further k t (without_numbers front ++ line ∷ []) now s g)))

  -- an end that comes too early
  first_cut : {k : List Expected} {ts : List (ℕ × Token)} {f : Kind × ℕ} (from : ℕ) → Faulty item_of behind k ts f → Columns from behind ts → ComesFirst f.0 f.1 malformed behind
  first_cut from (stops k ts f (ends_early k2 n)) cs = inr (refl, omega arith)
  first_cut from (stops k ts f (at_nothing k2 c t ts2 s)) cs = inl (before_end ts2 (suc c) behind cs.1)
  first_cut from (stops k ts f (at_unknown k2 c t ts2 now s u)) cs = inl (before_end ts2 (suc c) behind cs.1)
  first_cut from (stops k ts f (at_deep k2 c t ts2 now s u d)) cs = inl (before_end ts2 (suc c) behind cs.1)
  first_cut from (goes_on k c t ts f now s u d w) cs = first_cut (suc c) w cs.1

  -- a name that no item has
  unknown_differs : (t : Token) (word : List ℕ) → t ≡ Token.name word → item_of word ≡ None → is_unknown item_of t ≡ false → ⊥
  unknown_differs t word e n u =
      let yes : is_unknown item_of (Token.name word) ≡ true = ap (λ (x : Option ℕ). option_map_or (λ i. false) x true) n in
      never (sym u ∙ ap (is_unknown item_of) e ∙ yes)

  stop_unknown : {k : List Expected} {ts : List (ℕ × Token)} {f : Kind × ℕ} (word : List ℕ) (rest : List (ℕ × Token)) (place : ℕ) → StopsAt item_of behind k ts f
      → ts ≡ (place, Token.name word) ∷ rest → item_of word ≡ None → ComesFirst f.0 f.1 unknown_name place
  stop_unknown word rest place (ends_early k n) e none = absurd cc
  stop_unknown word rest place (at_nothing k c t ts s) e none = inr ((place_of_both e).0, omega arith)
  stop_unknown word rest place (at_unknown k c t ts now s u) e none = inr ((place_of_both e).0, omega arith)
  stop_unknown word rest place (at_deep k c t ts now s u d) e none = absurd (unknown_differs t word (place_of_both e).1 none u)

  first_unknown : {k : List Expected} {ts : List (ℕ × Token)} {f : Kind × ℕ} (from to : ℕ) → Faulty item_of behind k ts f → Columns from to ts
      → (front : List (ℕ × Token)) (word : List ℕ) (rest : List (ℕ × Token)) (place : ℕ) → ts ≡ front ++ (place, Token.name word) ∷ rest
      → item_of word ≡ None → ComesFirst f.0 f.1 unknown_name place
  first_unknown from to (stops k ts f s) cs [] word rest place e none = stop_unknown word rest place s e none
  first_unknown from to (stops k ts f s) cs (x ∷ front) word rest place e none = inl (later k ts f x front rest (place, Token.name word) from to s cs e)
  first_unknown from to (goes_on k c t ts f now s u d w) cs [] word rest place e none = absurd (unknown_differs t word (place_of_both e).1 none u)
  first_unknown from to (goes_on k c t ts f now s u d w) cs (x ∷ front) word rest place e none = first_unknown (suc c) to w cs.1 front word rest place (tails e) none

  -- a token that is nested too deep
  one_now : (k more : List Expected) (t u : Token) (now : Now) (n : ℕ) → t ≡ u → step k t ≡ Some now → step k u ≡ Some (n, more) → now ≡ (n, more)
  one_now k more t u now n e s r =
      let same : Some now ≡ Some (n, more) = sym s ∙ same_step k t u e ∙ r in
      cc

  stop_deep : {k more : List Expected} {ts : List (ℕ × Token)} {f : Kind × ℕ} (token : Token) (rest : List (ℕ × Token)) (place n : ℕ) → StopsAt item_of behind k ts f
      → ts ≡ (place, token) ∷ rest → step k token ≡ Some (n, more) → ComesFirst f.0 f.1 too_deep place
  stop_deep {more} token rest place n (ends_early k h) e r = absurd cc
  stop_deep {more} token rest place n (at_nothing k c t ts s) e r =
      absurd (none-some (n, more) (sym s ∙ same_step k t token (place_of_both e).1 ∙ r))
  stop_deep {more} token rest place n (at_unknown k c t ts now s u) e r = inr ((place_of_both e).0, omega arith)
  stop_deep {more} token rest place n (at_deep k c t ts now s u d) e r = inr ((place_of_both e).0, omega arith)

  first_deep : {k j : List Expected} {ts : List (ℕ × Token)} {f : Kind × ℕ} (from to : ℕ) → Faulty item_of behind k ts f → Columns from to ts
      → (front : List (ℕ × Token)) (token : Token) (rest : List (ℕ × Token)) (place : ℕ) → ts ≡ front ++ (place, token) ∷ rest
      → (before : List Nested) (n : ℕ) (after : List Nested) → without_numbers front ≡ without_nestings before → Walks k (before ++ (n, token) ∷ after) j [] → MAX_DEPTH < n
      → ComesFirst f.0 f.1 too_deep place
  first_deep from to (stops k ts f s) cs [] token rest place e [] n after same walks deep = stop_deep token rest place n s e (next_of walks).1
  first_deep from to (stops k ts f s) cs [] token rest place e (y ∷ before) n after same walks deep = absurd cc
  first_deep from to (stops k ts f s) cs (x ∷ front) token rest place e before n after same walks deep = inl (later k ts f x front rest (place, token) from to s cs e)
  first_deep from to (goes_on k c t ts f now s u d w) cs [] token rest place e [] n after same walks deep =
      let next = next_of walks in
      let now_is = one_now k next.0 t token now n (place_of_both e).1 s next.1 in
      let level : now.0 ≡ n = ap (λ (x : Now). x.0) now_is in
      absurd (omega (arith, level, d, deep))
  first_deep from to (goes_on k c t ts f now s u d w) cs [] token rest place e (y ∷ before) n after same walks deep = absurd cc
  first_deep from to (goes_on k c t ts f now s u d w) cs (x ∷ front) token rest place e [] n after same walks deep = absurd cc
  first_deep {j} from to (goes_on k c t ts f now s u d w) cs (x ∷ front) token rest place e (y ∷ before) n after same walks deep =
      let next = next_of walks in
      let t_is : t ≡ y.1 = ap (λ (z : ℕ × Token). z.1) (heads e) ∙ heads same in
      let now_is = one_now k next.0 t y.1 now y.0 t_is s next.1 in
      let moved = walks_same (before ++ (n, token) ∷ after) j next.0 y.0 now now_is next.2 in
      first_deep (suc c) to w cs.1 front token rest place (tails e) before n after (tails same) moved deep

-- ---- the first fault is one

-- How far tokens go on from here without a fault, and what stops them there.
record Reached (item_of : List ℕ → Option ℕ) (behind : ℕ) (k : List Expected) (ts : List (ℕ × Token)) (f : Kind × ℕ) : Type 0 where
  pub front : List (ℕ × Token)
  pub rest : List (ℕ × Token)
  pub split : ts ≡ front ++ rest
  pub before : List Nested
  pub same : without_numbers front ≡ without_nestings before
  pub last : List Expected
  pub walks : Walks k before last []
  pub stop : StopsAt item_of behind last rest f

reached : (item_of : List ℕ → Option ℕ) (behind : ℕ) {k : List Expected} {ts : List (ℕ × Token)} {f : Kind × ℕ} → Faulty item_of behind k ts f → Reached item_of behind k ts f
reached item_of behind (stops k ts f s) = record { front = []; rest = ts; split = refl; before = []; same = refl; last = k; walks = here k []; stop = s }
reached item_of behind (goes_on k c t ts f now s u d w) =
    let r = reached item_of behind w in
    record {
      front = (c, t) ∷ r.front;
      rest = r.rest;
      split = ap (λ (l : List (ℕ × Token)). (c, t) ∷ l) r.split;
      before = (now.0, t) ∷ r.before;
      same = ap (λ (l : List Token). t ∷ l) r.same;
      last = r.last;
      walks = on k now.1 r.last now.0 t r.before [] s r.walks;
      stop = r.stop;
    }

no_item : (x : Option ℕ) → option_map_or (λ n. false) x true ≡ true → x ≡ None
no_item None u = refl
no_item (Some n) u = absurd (never u)

is_unnamed : (catalog : Declared) (text : List ℕ) (front : List (ℕ × Token)) (c : ℕ) (t : Token) (ts : List (ℕ × Token)) → HasTokens text (front ++ (c, t) ∷ ts)
    → is_unknown (item_in catalog) t ≡ true → NamesNoItem catalog text c
is_unnamed catalog text front c (Token.name word) ts has u =
    record { front = front; name = word; later = ts; has = has; none = no_item (item_in catalog word) u }
is_unnamed catalog text front c t ts has u = absurd (never u)

walks_append : {k m : List Expected} {ps : List Nested} (t : Token) (now : Now) → Walks k ps m [] → step m t ≡ Some now → Walks k (ps ++ (now.0, t) ∷ []) now.1 []
walks_append t now (here k ts) s = on k now.1 now.1 now.0 t [] [] s (here now.1 [])
walks_append t now (on k more m d x ts r s0 w) s = on k more now.1 d x (ts ++ (now.0, t) ∷ []) [] s0 (walks_append t now w s)

-- A front of what walks goes.
goes_front : {k j : List Expected} {ps : List Nested} (xs r : List Token) → Walks k ps j [] → xs ++ r ≡ without_nestings ps → Goes k xs
goes_front [] r (here k ts) e = goes_nowhere k
goes_front [] r (on k more j d t ts rest s w) e = goes_nowhere k
goes_front (x ∷ xs) r (here k ts) e = absurd cc
goes_front (x ∷ xs) r (on k more j d t ts rest s w) e =
    subst (λ (y : Token). Goes k (y ∷ xs)) (sym (heads e)) (goes_further k t xs (d, more) s (goes_front xs r w (tails e)))

may_begin : (xs : List Token) → Goes at_start xs → MayBegin AreSomeProgram xs
may_begin xs g =
    let v = walks-viable g.walks in (
      without_nestings v.0,
      (
        v.1,
        record {
          placed = g.placed ++ v.0;
          same = ap (λ (l : List Token). l ++ without_nestings v.0) g.same ∙ sym (map-append (λ (t : Nested). t.1) g.placed v.0);
          reads = v.2;
        },
      ),
    )

goes_begun : (xs : List Token) → MayBegin AreSomeProgram xs → Goes at_start xs
goes_begun xs m = let a = m.1.1 in goes_front xs m.0 (program-walks any_item a.reads).1.1 a.same

has_stop : (catalog : Declared) (text : List ℕ) (front : List (ℕ × Token)) (before : List Nested) (last : List Expected) {rest : List (ℕ × Token)} {f : Kind × ℕ}
    → StopsAt (item_in catalog) (length text + 1) last rest f → HasTokens text (front ++ rest) → without_numbers front ≡ without_nestings before → Walks at_start before last []
    → HasFaultAt catalog text f.0 f.1
has_stop catalog text front before last (ends_early k n) has same walks =
    let all : without_numbers (front ++ []) ≡ without_nestings before = ap without_numbers (append-nil front) ∙ same in (
      front ++ [],
      has,
      inr (record {
        place = refl;
        good = may_begin (without_numbers (front ++ [])) (record { placed = before; same = all; end = last; walks = walks });
        bad = λ whole.
            let a = whole.1 in
            let w = program-walks any_item a.reads in
            let ends : last ≡ w.0 = one_end walks w.1.1 (sym all ∙ a.same) in
            never (sym n ∙ ap may_end ends ∙ w.1.0);
      }),
    )
has_stop catalog text front before last (at_nothing k c t ts s) has same walks = (
  front ++ (c, t) ∷ ts,
  has,
  inl (record {
    front = front;
    line = t;
    rest = ts;
    split = refl;
    good = may_begin (without_numbers front) (record { placed = before; same = same; end = last; walks = walks });
    bad = λ m.
        let a = m.1.1 in
        no_way t m.0 walks (program-walks any_item a.reads).1.1
        (sym a.same ∙ append_assoc (without_numbers front) (t ∷ []) m.0 ∙ ap (λ (l : List Token). l ++ t ∷ m.0) same) s;
  }),
)
has_stop catalog text front before last (at_unknown k c t ts now s u) has same walks = is_unnamed catalog text front c t ts has u
has_stop catalog text front before last (at_deep k c t ts now s u d) has same walks =
    let v = walks-viable (walks_append t now walks s) in
    record {
      front = front;
      token = t;
      later = ts;
      has = has;
      program = v.1;
      before = before;
      nesting = now.0;
      after = v.0;
      same = same;
      reads = subst (λ (l : List Nested). ReadsProgram any_item 0 l [] v.1) (append_assoc before ((now.0, t) ∷ []) v.0) v.2;
      deep = d;
    }

has_fault : (catalog : Declared) (text : List ℕ) (ts : List (ℕ × Token)) (f : Kind × ℕ) → HasTokens text ts → Faulty (item_in catalog) (length text + 1) at_start ts f
    → HasFaultAt catalog text f.0 f.1
has_fault catalog text ts f has w =
    let r = reached (item_in catalog) (length text + 1) w in
    has_stop catalog text r.front r.before r.last r.stop (subst (HasTokens text) r.split has) r.same r.walks

-- the fault comes first
comes_first : (catalog : Declared) (text : List ℕ) (ts : List (ℕ × Token)) (f : Kind × ℕ) → HasTokens text ts → Faulty (item_in catalog) (length text + 1) at_start ts f
    → Columns 1 (length text + 1) ts → (other : Kind) (place : ℕ) → HasFaultAt catalog text other place → ComesFirst f.0 f.1 other place
comes_first catalog text ts f has w cs malformed place h =
    let tokens : h.0 ≡ ts = one_token_list h.1 has in
    elim h.2 [
      | inl m ↦ first_malformed (item_in catalog) (length text + 1) 1 (length text + 1) w cs m.front m.line m.rest place (sym tokens ∙ m.split)
          (λ g. m.bad (may_begin (without_numbers m.front ++ m.line ∷ []) g))
      | inr m ↦ subst (λ (n : ℕ). ComesFirst f.0 f.1 malformed n) (sym m.place) (first_cut (item_in catalog) (length text + 1) 1 w cs)
    ]
comes_first catalog text ts f has w cs unknown_name place h =
    let tokens : ts ≡ h.front ++ (place, Token.name h.name) ∷ h.later = one_token_list has h.has in
    first_unknown (item_in catalog) (length text + 1) 1 (length text + 1) w cs h.front h.name h.later place tokens h.none
comes_first catalog text ts f has w cs too_deep place h =
    let tokens : ts ≡ h.front ++ (place, h.token) ∷ h.later = one_token_list has h.has in
    first_deep (item_in catalog) (length text + 1) 1 (length text + 1) w cs h.front h.token h.later place tokens h.before h.nesting h.after h.same
    (program-walks any_item h.reads).1.1 h.deep

pub refused : (catalog : Declared) (text : List ℕ) (ts : List (ℕ × Token)) (kind : Kind) (column : ℕ) → length text ≤ MAX_LINE → HasTokens text ts
    → first_fault (item_in catalog) (length text + 1) at_start ts ≡ Some (kind, column) → IsRefused catalog text (at_fault kind column)
refused catalog text ts kind column short has e =
    let w = faulty (item_in catalog) (length text + 1) at_start ts (kind, column) e in
    let cs : Columns 1 (length text + 1) ts = columns (length text + 1) has (omega arith) in (
      short,
      record {
        has = has_fault catalog text ts (kind, column) has w;
        first = comes_first catalog text ts (kind, column) has w cs;
      },
    )
