-- Tokens without a fault are placed, and are a program.
use Rattle.std.proofs.Common.{◌≡◌, ℕ, ◌+◌, ◌≤◌, Bool, true, false, ◌&&◌, Option, Some, None, List, [], ◌∷◌, length, refl, sym, ap, subst}
use Rattle.std.specs.Prelude.{IsTrue, nat_le}
use Rattle.std.specs.List.{list_all}
use Rattle.std.specs.Option.{option_map_or}
use Rattle.std.proofs.lemmas.Bool.{le-leb}
use Rattle.pv_base.specs.declared.limits.TheConstants.{MAX_DEPTH, MAX_LINE}
use Rattle.pv_base.specs.Catalog.{Declared}
use Rattle.pv_model.specs.Syntax.{Program}
use Rattle.pv_model.specs.FirstMisplaced.{without_numbers}
use Rattle.pv_model.specs.Tokens.{Token, HasTokens}
use Rattle.pv_model.specs.Grammar.{Nested}
use Rattle.pv_model.specs.ProgramText.{without_nestings, item_in, IsProgramText}
use Rattle.pv_law_programs.specs.Prediction.{Expected, may_end, at_start, step, placed, is_unknown, first_fault}
use Rattle.pv_base.proofs.Basics.{never}
use Rattle.pv_law_programs.proofs.Walks.{Walks, here, on}
use Rattle.pv_law_programs.proofs.PredictionLemmas.{walks-program}
use Rattle.pv_law_programs.proofs.NoRefusalLemmas.{IsKnown, AreKnown}
use Rattle.pv_law_programs.proofs.FaultLemmas.{Now, Clean, ends, goes, clean}

placed_one : (k : List Expected) (c : ℕ) (t : Token) (ts : List (ℕ × Token)) (now : Now) → step k t ≡ Some now → placed k ((c, t) ∷ ts) ≡ (now.0, t) ∷ placed now.1 ts
unfolding placed
placed_one k c t ts now s = ap (λ (x : Option Now). option_map_or (λ n. (n.0, t) ∷ placed n.1 ts) x []) s

placed_end : (k : List Expected) → placed k [] ≡ []
unfolding placed
placed_end k = refl

-- no token is nested too deep
abbrev shallow : List Nested → Bool
shallow ps = list_all (λ t. nat_le t.0 MAX_DEPTH) ps

and_true : (a b : Bool) → a ≡ true → b ≡ true → (a && b) ≡ true
and_true true b h k = k
and_true false b h k = h

known_name : (x : Option ℕ) → option_map_or (λ n. false) x true ≡ false → (n : ℕ) × (x ≡ Some n)
known_name None u = absurd (never (sym u))
known_name (Some n) u = (n, refl)

known_token : (item_of : List ℕ → Option ℕ) (t : Token) → is_unknown item_of t ≡ false → IsKnown item_of t
known_token item_of (Token.name word) u = known_name (item_of word) u
known_token item_of t u = tt

-- Tokens as they are placed from here walk to an end, all known, none nested too deep.
record Placing (item_of : List ℕ → Option ℕ) (k : List Expected) (ts : List (ℕ × Token)) (ps : List Nested) : Type 0 where
  pub same : without_numbers ts ≡ without_nestings ps
  pub low : IsTrue (shallow ps)
  pub known : AreKnown item_of ps
  pub last : List Expected
  pub walks : Walks k ps last []
  pub ended : IsTrue (may_end last)

placing : (item_of : List ℕ → Option ℕ) (behind : ℕ) {k : List Expected} {ts : List (ℕ × Token)} → Clean item_of behind k ts → Placing item_of k ts (placed k ts)
placing item_of behind (ends k e) =
    subst (λ (ps : List Nested). Placing item_of k [] ps) (sym (placed_end k))
    (record { same = refl; low = refl; known = tt; last = k; walks = here k []; ended = e })
placing item_of behind (goes k c t ts now s u d w) =
    let r = placing item_of behind w in
    subst (λ (ps : List Nested). Placing item_of k ((c, t) ∷ ts) ps) (sym (placed_one k c t ts now s))
    (record {
      same = ap (λ (l : List Token). t ∷ l) r.same;
      low = and_true (nat_le now.0 MAX_DEPTH) (shallow (placed now.1 ts)) (le-leb now.0 MAX_DEPTH d) r.low;
      known = (known_token item_of t u, r.known);
      last = r.last;
      walks = on k now.1 r.last now.0 t (placed now.1 ts) [] s r.walks;
      ended = r.ended;
    })

-- Tokens without a fault are those that are placed, and none is nested deeper than MAX_DEPTH.
pub placed-of : (item_of : List ℕ → Option ℕ) (behind : ℕ) (ts : List (ℕ × Token)) → first_fault item_of behind at_start ts ≡ None
    → (without_numbers ts ≡ without_nestings (placed at_start ts)) × IsTrue (list_all (λ t. nat_le t.0 MAX_DEPTH) (placed at_start ts))
placed-of item_of behind ts e =
    let r = placing item_of behind (clean item_of behind at_start ts e) in
    (r.same, r.low)

-- A text whose tokens have no fault is a program.
pub accepted-reads : (catalog : Declared) (text : List ℕ) (ts : List (ℕ × Token)) → length text ≤ MAX_LINE → HasTokens text ts
    → first_fault (item_in catalog) (length text + 1) at_start ts ≡ None → (p : Program) × IsProgramText catalog text p
accepted-reads catalog text ts short has e =
    let r = placing (item_in catalog) (length text + 1) (clean (item_in catalog) (length text + 1) at_start ts e) in
    let p = walks-program (item_in catalog) r.walks r.ended r.known in (
      p.0,
      record {
        short = short;
        tokens = ts;
        has = has;
        are = record { placed = placed at_start ts; same = r.same; reads = p.1 };
        shallow = r.low;
      },
    )
