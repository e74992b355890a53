-- What the first fault of tokens says: how far they walk, and what stops them there.
use Rattle.std.proofs.Common.{◌≡◌, ℕ, suc, ◌+◌, ◌<◌, ◌≤◌, Bool, true, false, Option, Some, None, List, [], ◌∷◌, ◌++◌, length, refl, sym, ap, ◌∙◌, subst, arith}
use Rattle.std.specs.Prelude.{nat_lt, cond}
use Rattle.std.specs.Option.{option_map_or}
use Rattle.std.proofs.lemmas.Bool.{ltb-true, ltb-false}
use Rattle.std.proofs.lemmas.Option.{none-some}
use Rattle.std.proofs.lemmas.List.{length-append}
use Rattle.pv_base.specs.declared.limits.TheConstants.{MAX_DEPTH}
use Rattle.pv_model.specs.Tokens.{Token, token_of, AreTokens, at_end, at_blank, at_token, at_stray}
use Rattle.pv_model.specs.Grammar.{Nested}
use Rattle.pv_model.specs.ProgramText.{Kind, malformed, unknown_name, too_deep, without_nestings}
use Rattle.pv_law_programs.specs.Prediction.{Expected, may_end, step, is_unknown, first_fault}
use Rattle.pv_base.proofs.Basics.{Some_inj, heads, tails}
use Rattle.pv_law_programs.proofs.Walks.{Walks, here, on}
use Rattle.pv_law_programs.proofs.TokenLemmas.{empty_is_no_token}

-- the stack behind a token
abbrev pub Now : Type 0
Now = ℕ × List Expected

module _ (item_of : List ℕ → Option ℕ) (behind : ℕ) where
  -- Tokens are at fault at once.
  pub data StopsAt : List Expected → List (ℕ × Token) → Kind × ℕ → Type 0 where
    ends_early : (k : List Expected) → may_end k ≡ false → StopsAt k [] (malformed, behind)
    at_nothing : (k : List Expected) (c : ℕ) (t : Token) (ts : List (ℕ × Token)) → step k t ≡ None → StopsAt k ((c, t) ∷ ts) (malformed, c)
    at_unknown : (k : List Expected) (c : ℕ) (t : Token) (ts : List (ℕ × Token)) (now : ℕ × List Expected) → step k t ≡ Some now → is_unknown item_of t ≡ true
        → StopsAt k ((c, t) ∷ ts) (unknown_name, c)
    at_deep : (k : List Expected) (c : ℕ) (t : Token) (ts : List (ℕ × Token)) (now : ℕ × List Expected) → step k t ≡ Some now → is_unknown item_of t ≡ false
        → MAX_DEPTH < now.0 → StopsAt k ((c, t) ∷ ts) (too_deep, c)

  -- Tokens go on without a fault up to one.
  pub data Faulty : List Expected → List (ℕ × Token) → Kind × ℕ → Type 0 where
    stops : (k : List Expected) (ts : List (ℕ × Token)) (f : Kind × ℕ) → StopsAt k ts f → Faulty k ts f
    goes_on : (k : List Expected) (c : ℕ) (t : Token) (ts : List (ℕ × Token)) (f : Kind × ℕ) (now : ℕ × List Expected) → step k t ≡ Some now
        → is_unknown item_of t ≡ false → now.0 ≤ MAX_DEPTH → Faulty now.1 ts f → Faulty k ((c, t) ∷ ts) f

  -- what `first_fault` answers at a token, by what the token leads to
  abbrev answer : ℕ × Token → List (ℕ × Token) → Option Now → Option (Kind × ℕ)
  answer t ts x = option_map_or
      (λ now. cond (is_unknown item_of t.1) (Some (unknown_name, t.0)) (cond (nat_lt MAX_DEPTH now.0) (Some (too_deep, t.0)) (first_fault item_of behind now.1 ts)))
      x (Some (malformed, t.0))

  fault_at_end : (k : List Expected) → first_fault item_of behind k [] ≡ cond (may_end k) None (Some (malformed, behind))
  unfolding first_fault
  fault_at_end k = refl

  fault_at_token : (k : List Expected) (t : ℕ × Token) (ts : List (ℕ × Token)) → first_fault item_of behind k (t ∷ ts) ≡ answer t ts (step k t.1)
  unfolding first_fault
  fault_at_token k t ts = refl

  stops_at_end : (k : List Expected) (f : Kind × ℕ) (b : Bool) → may_end k ≡ b → cond b None (Some (malformed, behind)) ≡ Some f → StopsAt k [] f
  stops_at_end k f true is e = absurd (none-some f e)
  stops_at_end k f false is e = subst (λ (g : Kind × ℕ). StopsAt k [] g) (Some_inj e) (ends_early k is)

  faulty_below : (k : List Expected) (c : ℕ) (t : Token) (ts : List (ℕ × Token)) (f : Kind × ℕ) (now : Now) (b : Bool) → nat_lt MAX_DEPTH now.0 ≡ b → step k t ≡ Some now
      → is_unknown item_of t ≡ false → (first_fault item_of behind now.1 ts ≡ Some f → Faulty now.1 ts f)
      → cond b (Some (too_deep, c)) (first_fault item_of behind now.1 ts) ≡ Some f → Faulty k ((c, t) ∷ ts) f
  faulty_below k c t ts f now true is s u ih e =
      subst (λ (g : Kind × ℕ). Faulty k ((c, t) ∷ ts) g) (Some_inj e) (stops k ((c, t) ∷ ts) (too_deep, c) (at_deep k c t ts now s u (ltb-true MAX_DEPTH now.0 is)))
  faulty_below k c t ts f now false is s u ih e = goes_on k c t ts f now s u (ltb-false MAX_DEPTH now.0 is) (ih e)

  faulty_known : (k : List Expected) (c : ℕ) (t : Token) (ts : List (ℕ × Token)) (f : Kind × ℕ) (now : Now) (b : Bool) → is_unknown item_of t ≡ b → step k t ≡ Some now
      → (first_fault item_of behind now.1 ts ≡ Some f → Faulty now.1 ts f)
      → cond b (Some (unknown_name, c)) (cond (nat_lt MAX_DEPTH now.0) (Some (too_deep, c)) (first_fault item_of behind now.1 ts)) ≡ Some f → Faulty k ((c, t) ∷ ts) f
  faulty_known k c t ts f now true is s ih e =
      subst (λ (g : Kind × ℕ). Faulty k ((c, t) ∷ ts) g) (Some_inj e) (stops k ((c, t) ∷ ts) (unknown_name, c) (at_unknown k c t ts now s is))
  faulty_known k c t ts f now false is s ih e = faulty_below k c t ts f now (nat_lt MAX_DEPTH now.0) refl s is ih e

  faulty_token : (k : List Expected) (c : ℕ) (t : Token) (ts : List (ℕ × Token)) (f : Kind × ℕ) (x : Option Now) → step k t ≡ x
      → ((j : List Expected) → first_fault item_of behind j ts ≡ Some f → Faulty j ts f)
      → answer (c, t) ts x ≡ Some f → Faulty k ((c, t) ∷ ts) f
  faulty_token k c t ts f None is ih e =
      subst (λ (g : Kind × ℕ). Faulty k ((c, t) ∷ ts) g) (Some_inj e) (stops k ((c, t) ∷ ts) (malformed, c) (at_nothing k c t ts is))
  faulty_token k c t ts f (Some now) is ih e = faulty_known k c t ts f now (is_unknown item_of t) refl is (ih now.1) e

  -- The first fault is where the tokens stop.
  pub faulty : (k : List Expected) (ts : List (ℕ × Token)) (f : Kind × ℕ) → first_fault item_of behind k ts ≡ Some f → Faulty k ts f
  faulty k [] f e = stops k [] f (stops_at_end k f (may_end k) refl (sym (fault_at_end k) ∙ e))
  faulty k ((c, t) ∷ ts) f e = faulty_token k c t ts f (step k t) refl (λ j h. faulty j ts f h) (sym (fault_at_token k (c, t) ts) ∙ e)

  -- Tokens without a fault lead to an end.
  pub data Clean : List Expected → List (ℕ × Token) → Type 0 where
    ends : (k : List Expected) → may_end k ≡ true → Clean k []
    goes : (k : List Expected) (c : ℕ) (t : Token) (ts : List (ℕ × Token)) (now : ℕ × List Expected) → step k t ≡ Some now
        → is_unknown item_of t ≡ false → now.0 ≤ MAX_DEPTH → Clean now.1 ts → Clean k ((c, t) ∷ ts)

  clean_end : (k : List Expected) (b : Bool) → may_end k ≡ b → cond {A = Option (Kind × ℕ)} b None (Some (malformed, behind)) ≡ None → Clean k []
  clean_end k true is e = ends k is
  clean_end k false is e = absurd (none-some (malformed, behind) (sym e))

  clean_below : (k : List Expected) (c : ℕ) (t : Token) (ts : List (ℕ × Token)) (now : Now) (b : Bool) → nat_lt MAX_DEPTH now.0 ≡ b → step k t ≡ Some now
      → is_unknown item_of t ≡ false → (first_fault item_of behind now.1 ts ≡ None → Clean now.1 ts)
      → cond b (Some (too_deep, c)) (first_fault item_of behind now.1 ts) ≡ None → Clean k ((c, t) ∷ ts)
  clean_below k c t ts now true is s u ih e = absurd (none-some (too_deep, c) (sym e))
  clean_below k c t ts now false is s u ih e = goes k c t ts now s u (ltb-false MAX_DEPTH now.0 is) (ih e)

  clean_known : (k : List Expected) (c : ℕ) (t : Token) (ts : List (ℕ × Token)) (now : Now) (b : Bool) → is_unknown item_of t ≡ b → step k t ≡ Some now
      → (first_fault item_of behind now.1 ts ≡ None → Clean now.1 ts)
      → cond b (Some (unknown_name, c)) (cond (nat_lt MAX_DEPTH now.0) (Some (too_deep, c)) (first_fault item_of behind now.1 ts)) ≡ None → Clean k ((c, t) ∷ ts)
  clean_known k c t ts now true is s ih e = absurd (none-some (unknown_name, c) (sym e))
  clean_known k c t ts now false is s ih e = clean_below k c t ts now (nat_lt MAX_DEPTH now.0) refl s is ih e

  clean_token : (k : List Expected) (c : ℕ) (t : Token) (ts : List (ℕ × Token)) (x : Option Now) → step k t ≡ x
      → ((j : List Expected) → first_fault item_of behind j ts ≡ None → Clean j ts)
      → answer (c, t) ts x ≡ None → Clean k ((c, t) ∷ ts)
  clean_token k c t ts None is ih e = absurd (none-some (malformed, c) (sym e))
  clean_token k c t ts (Some now) is ih e = clean_known k c t ts now (is_unknown item_of t) refl is (ih now.1) e

  pub clean : (k : List Expected) (ts : List (ℕ × Token)) → first_fault item_of behind k ts ≡ None → Clean k ts
  clean k [] e = clean_end k (may_end k) refl (sym (fault_at_end k) ∙ e)
  clean k ((c, t) ∷ ts) e = clean_token k c t ts (step k t) refl (λ j h. clean j ts h) (sym (fault_at_token k (c, t) ts) ∙ e)

pub same_step : (k : List Expected) (t u : Token) → t ≡ u → step k t ≡ step k u
same_step k t u e = ap (λ (x : Token). step k x) e

pub walks_same : (ts : List Nested) (j more : List Expected) (d : ℕ) (now : Now) → now ≡ (d, more) → Walks more ts j [] → Walks now.1 ts j []
walks_same ts j more d now e w = subst (λ (x : List Expected). Walks x ts j []) (sym (ap (λ (x : Now). x.1) e)) w

-- What walks from here goes to one stack, and not past a token that can't go on.
pub one_end : {k m j : List Expected} {ps qs : List Nested} → Walks k ps m [] → Walks k qs j [] → without_nestings ps ≡ without_nestings qs → m ≡ j
one_end (here k ts) (here k2 ts2) e = refl
one_end (here k ts) (on k2 more2 j d2 t2 ts2 r2 s2 w2) e = absurd cc
one_end (on k more j d t ts r s w) (here k2 ts2) e = absurd cc
one_end (on k more m d t ts r s w) (on k2 more2 j d2 t2 ts2 r2 s2 w2) e =
    let same : t ≡ t2 = cc in
    let tail : without_nestings ts ≡ without_nestings ts2 = cc in
    let now : (d, more) ≡ (d2, more2) = Some_inj (sym s ∙ same_step k t t2 same ∙ s2) in
    one_end w (walks_same ts2 j more2 d2 (d, more) now w2) tail

pub no_way : {k m j : List Expected} {ps qs : List Nested} (t : Token) (r : List Token) → Walks k ps m [] → Walks k qs j []
    → without_nestings qs ≡ without_nestings ps ++ t ∷ r → step m t ≡ None → ⊥
no_way t r (here k ts) (here k2 ts2) e n = absurd cc
no_way t r (here k ts) (on k2 more2 j d2 t2 ts2 r2 s2 w2) e n =
    let same : t2 ≡ t = cc in
    none-some (d2, more2) (sym n ∙ sym (same_step k t2 t same) ∙ s2)
no_way t r (on k more m d x ts r0 s w) (here k2 ts2) e n = absurd cc
no_way t r (on k more m d x ts r0 s w) (on k2 more2 j d2 t2 ts2 r2 s2 w2) e n =
    let same : x ≡ t2 = cc in
    let tail : without_nestings ts2 ≡ without_nestings ts ++ t ∷ r = cc in
    let now : (d, more) ≡ (d2, more2) = Some_inj (sym s ∙ same_step k x t2 same ∙ s2) in
    no_way t r w (walks_same ts2 j more2 d2 (d, more) now w2) tail n

-- Tokens stand one behind the other, from this column on and before that one.
abbrev pub Columns : ℕ → ℕ → List (ℕ × Token) → Type 0
Columns from to [] = from ≤ to
Columns from to (t ∷ ts) = (from ≤ t.0) × Columns (suc t.0) to ts

wider : (ts : List (ℕ × Token)) (less from to : ℕ) → less ≤ from → Columns from to ts → Columns less to ts
wider [] less from to h c = omega (arith, h, c)
wider (t ∷ ts) less from to h c = (omega (arith, h, c.0), c.1)

pub before_end : (ts : List (ℕ × Token)) (from to : ℕ) → Columns from to ts → from ≤ to
before_end [] from to c = c
before_end (t ∷ ts) from to c = let h = before_end ts (suc t.0) to c.1 in omega (arith, h, c.0)

pub from_column : (ts front rest : List (ℕ × Token)) (x : ℕ × Token) (from to : ℕ) → Columns from to ts → ts ≡ front ++ x ∷ rest → from ≤ x.0
from_column [] [] rest x from to c e = absurd cc
from_column [] (y ∷ front) rest x from to c e = absurd cc
from_column (t ∷ ts) [] rest x from to c e =
    let same : t ≡ x = heads e in
    subst (λ (y : ℕ × Token). from ≤ y.0) same c.0
from_column (t ∷ ts) (y ∷ front) rest x from to c e = let h = from_column ts front rest x (suc t.0) to c.1 (tails e) in omega (arith, h, c.0)

pub token_is_long : (front : List ℕ) (t : Token) → token_of front ≡ Some t → 1 ≤ length front
token_is_long [] t e = absurd (none-some t (sym empty_is_no_token ∙ e))
token_is_long (b ∷ front) t e = omega arith

pub columns : {column : ℕ} {bytes : List ℕ} {ts : List (ℕ × Token)} (to : ℕ) → AreTokens column bytes ts → to ≡ column + length bytes → Columns column to ts
columns to (at_end c) e = omega (arith, e)
columns to (at_blank c b bytes ts h q) e = wider ts c (suc c) to (omega arith) (columns to q (omega (arith, e)))
columns to (at_token c bytes front t behind ts p q) e =
    let long = token_is_long front t p.is in
    let size : length bytes ≡ length front + length behind = ap length p.split ∙ length-append front behind in
    (omega arith, wider ts (suc c) (c + length front) to (omega (arith, long)) (columns to q (omega (arith, e, size))))
columns to (at_stray c b bytes ts h n q) e = (omega arith, columns to q (omega (arith, e)))
