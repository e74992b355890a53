-- What one token does where something is expected.
use Rattle.std.proofs.Common.{◌≡◌, ℕ, Bool, true, false, ◌&&◌, Option, Some, None, List, [], ◌∷◌, ◌≤◌, ◌<◌, refl, ap, ◌∙◌}
use Rattle.std.specs.Prelude.{nat_lt, if◌then◌else◌}
use Rattle.std.proofs.lemmas.Bool.{lt-ltb, le-ltb}
use Rattle.std.specs.Option.{option_map_or}
use Rattle.pv_base.specs.declared.limits.TheConstants.{MAX_DEPTH}
use Rattle.pv_model.specs.Tokens.{Token}
use Rattle.pv_model.specs.ProgramText.{Kind, malformed, unknown_name, too_deep, item_in}
use Rattle.pv_law_programs.specs.Prediction.{Symbol, Expected, is_optional, may_end, after_symbol, step, placed, is_unknown, first_fault}
use Rattle.pv_parse.specs.ReadingSteps.{Columned, Context, fault_in, Skips}

-- the first fault from a token on, by what is expected behind it, or where it can't come
abbrev pub fault_behind : Context → ℕ → Token → Columned → Option (ℕ × List Expected) → Option (Kind × ℕ)
fault_behind context column t ts behind =
    option_map_or (λ (now : ℕ × List Expected). if is_unknown (item_in context.catalog) t then Some (unknown_name, column) else (if nat_lt MAX_DEPTH now.0 then Some (too_deep, column) else fault_in context now.1 ts))
    behind (Some (malformed, column))

pub step-behind : (s : Symbol) (d : ℕ) (t : Token) (more k : List Expected) → after_symbol s d t more ≡ Some k → step ((d, s) ∷ more) t ≡ Some (d, k)
unfolding step
step-behind s d t more k e = ap (λ (x : Option (List Expected)). option_map_or (λ (m : List Expected). Some (d, m)) x (if is_optional s then step more t else None)) e

pub step-skip : (s : Symbol) (d : ℕ) (t : Token) (more : List Expected) → after_symbol s d t more ≡ None → is_optional s ≡ true → step ((d, s) ∷ more) t ≡ step more t
unfolding step
step-skip s d t more e o =
    ap (λ (x : Option (List Expected)). option_map_or (λ (m : List Expected). Some (d, m)) x (if is_optional s then step more t else None)) e
    ∙ ap (λ (b : Bool). if b then step more t else None) o

pub step-none : (s : Symbol) (d : ℕ) (t : Token) (more : List Expected) → after_symbol s d t more ≡ None → is_optional s ≡ false → step ((d, s) ∷ more) t ≡ None
unfolding step
step-none s d t more e o =
    ap (λ (x : Option (List Expected)). option_map_or (λ (m : List Expected). Some (d, m)) x (if is_optional s then step more t else None)) e
    ∙ ap (λ (b : Bool). if b then step more t else None) o

-- The token is passed.
pub fault-on : (context : Context) (s : Symbol) (d column : ℕ) (t : Token) (ts : Columned) (more k : List Expected) → after_symbol s d t more ≡ Some k
    → is_unknown (item_in context.catalog) t ≡ false → d ≤ MAX_DEPTH → fault_in context ((d, s) ∷ more) ((column, t) ∷ ts) ≡ fault_in context k ts
unfolding first_fault
fault-on context s d column t ts more k e known h =
    ap (fault_behind context column t ts) (step-behind s d t more k e)
    ∙ ap (λ (b : Bool). if b then Some (unknown_name, column) else (if nat_lt MAX_DEPTH d then Some (too_deep, column) else first_fault (item_in context.catalog) context.after_text k ts)) known
    ∙ ap (λ (b : Bool). if b then Some (too_deep, column) else first_fault (item_in context.catalog) context.after_text k ts) (le-ltb MAX_DEPTH d h)

-- The token is nested too deeply.
pub fault-deep : (context : Context) (s : Symbol) (d column : ℕ) (t : Token) (ts : Columned) (more k : List Expected) → after_symbol s d t more ≡ Some k
    → is_unknown (item_in context.catalog) t ≡ false → MAX_DEPTH < d → fault_in context ((d, s) ∷ more) ((column, t) ∷ ts) ≡ Some (too_deep, column)
unfolding first_fault
fault-deep context s d column t ts more k e known h =
    ap (fault_behind context column t ts) (step-behind s d t more k e)
    ∙ ap (λ (b : Bool). if b then Some (unknown_name, column) else (if nat_lt MAX_DEPTH d then Some (too_deep, column) else first_fault (item_in context.catalog) context.after_text k ts)) known
    ∙ ap (λ (b : Bool). if b then Some (too_deep, column) else first_fault (item_in context.catalog) context.after_text k ts) (lt-ltb MAX_DEPTH d h)

-- The token is a name that no item has.
pub fault-unknown : (context : Context) (s : Symbol) (d column : ℕ) (t : Token) (ts : Columned) (more k : List Expected) → after_symbol s d t more ≡ Some k
    → is_unknown (item_in context.catalog) t ≡ true → fault_in context ((d, s) ∷ more) ((column, t) ∷ ts) ≡ Some (unknown_name, column)
unfolding first_fault
fault-unknown context s d column t ts more k e unknown =
    ap (fault_behind context column t ts) (step-behind s d t more k e)
    ∙ ap (λ (b : Bool). if b then Some (unknown_name, column) else (if nat_lt MAX_DEPTH d then Some (too_deep, column) else first_fault (item_in context.catalog) context.after_text k ts)) unknown

-- The token can't come.
pub fault-none : (context : Context) (s : Symbol) (d column : ℕ) (t : Token) (ts : Columned) (more : List Expected) → after_symbol s d t more ≡ None → is_optional s ≡ false
    → fault_in context ((d, s) ∷ more) ((column, t) ∷ ts) ≡ Some (malformed, column)
unfolding first_fault
fault-none context s d column t ts more e o =
    ap (fault_behind context column t ts) (step-none s d t more e o)

-- The text ends too early.
pub fault-end : (context : Context) (s : Symbol) (d : ℕ) (more : List Expected) → is_optional s ≡ false → fault_in context ((d, s) ∷ more) [] ≡ Some (malformed, context.after_text)
unfolding first_fault
fault-end context s d more o = ap (λ (b : Bool). if (b && may_end more) then None else Some (malformed, context.after_text)) o

pub place-on : (s : Symbol) (d column : ℕ) (t : Token) (ts : Columned) (more k : List Expected) → after_symbol s d t more ≡ Some k
    → placed ((d, s) ∷ more) ((column, t) ∷ ts) ≡ (d, t) ∷ placed k ts
unfolding placed
place-on s d column t ts more k e =
    ap (λ (x : Option (ℕ × List Expected)). option_map_or (λ (now : ℕ × List Expected). (now.0, t) ∷ placed now.1 ts) x []) (step-behind s d t more k e)

-- Nothing more comes of what may be left out.
pub skips : (context : Context) (s : Symbol) (d : ℕ) (ts : Columned) → is_optional s ≡ true
    → ((t : ℕ × Token) (rest : Columned) (more : List Expected) → ts ≡ t ∷ rest → after_symbol s d t.1 more ≡ None) → Skips context (d, s) ts
unfolding first_fault placed
skips context s d [] o h = record { fault = λ more. ap (λ (b : Bool). if (b && may_end more) then None else Some (malformed, context.after_text)) o; place = λ more. refl }
skips context s d (t ∷ ts) o h = record {
  fault = λ more.
      ap (fault_behind context t.0 t.1 ts) (step-skip s d t.1 more (h t ts more refl) o);
  place = λ more.
      ap (λ (x : Option (ℕ × List Expected)). option_map_or (λ (now : ℕ × List Expected). (now.0, t.1) ∷ placed now.1 ts) x []) (step-skip s d t.1 more (h t ts more refl) o);
}
