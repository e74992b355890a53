-- The tables of words, of pairs and of single bytes give what the list of all words and symbols does.
use Rattle.std.proofs.Common.{◌≡◌, ℕ, ◌≤◌, Bool, true, false, ◌&&◌, Option, Some, List, [], ◌∷◌, length, map, cond, find, get_or, refl, sym, ap, ◌∙◌, arith}
use Rattle.std.specs.Prelude.{◌==◌}
use Rattle.std.specs.List.{filter}
use Rattle.std.specs.Option.{option_map}
use Rattle.std.specs.Str.{bytes_eq}
use Rattle.std.proofs.lemmas.Bool.{both_ways, eqb-true}
use Rattle.std.proofs.lemmas.Slice.Eq.{bytes_eq-Decides}
use denote.Ref.{Bor}
use Rattle.pv_base.specs.Name.{is_lower}
use Rattle.pv_model.specs.Tokens.{Token, words_and_symbols}
use Rattle.pv_parse.specs.declared.token.Token as code
use Rattle.pv_parse.specs.TokenView.{token_of, token_beside, single_beside, pair_beside, listed_pair, listed_token}

-- the token beside what a look-up found
abbrev pub beside : {K : Type 0} → Option (K × Token) → Option Token
beside found = option_map (λ e. e.1) found

-- Whether these are the two bytes.
abbrev pub is_pair : ℕ → ℕ → ℕ × ℕ → Bool
is_pair a b bytes = a == bytes.0 && b == bytes.1

-- A table of the code gives what the same table as plain data gives.
beside-viewed : {K L : Type 0} (view : K → L) (test : L → Bool) (table : List (K × code.Token)) →
    option_map token_of (option_map (λ (e : K × code.Token). e.1) (find (λ (e : K × code.Token). test (view e.0)) table))
    ≡ beside (find (λ (e : L × Token). test e.0) (map (λ (e : K × code.Token). (view e.0, token_of e.1)) table))
beside-viewed view test [] = refl
beside-viewed {K} {L} view test (e ∷ table) = go (test (view e.0)) (beside-viewed view test table)
  where
    go : (b : Bool) →
        option_map token_of (option_map (λ (f : K × code.Token). f.1) (find (λ (f : K × code.Token). test (view f.0)) table))
        ≡ beside (find (λ (f : L × Token). test f.0) (map (λ (f : K × code.Token). (view f.0, token_of f.1)) table)) →
        option_map token_of (option_map (λ (f : K × code.Token). f.1) (cond b (Some e) (find (λ (f : K × code.Token). test (view f.0)) table)))
        ≡ beside (cond b (Some (view e.0, token_of e.1)) (find (λ (f : L × Token). test f.0) (map (λ (f : K × code.Token). (view f.0, token_of f.1)) table)))
    go true rest = refl
    go false rest = rest

pub option_map-token_beside : (bytes : List ℕ) (table : List (Bor (List ℕ) × code.Token)) → option_map token_of (token_beside bytes table)
    ≡ beside (find (λ (e : List ℕ × Token). bytes_eq bytes e.0) (map (λ (e : Bor (List ℕ) × code.Token). (e.0.now, token_of e.1)) table))
unfolding token_beside
option_map-token_beside bytes table = beside-viewed (λ (word : Bor (List ℕ)). word.now) (bytes_eq bytes) table

pub option_map-single_beside : (b : ℕ) (table : List (ℕ × code.Token)) → option_map token_of (single_beside b table)
    ≡ beside (find (λ (e : ℕ × Token). b == e.0) (map (λ (e : ℕ × code.Token). (e.0, token_of e.1)) table))
unfolding single_beside
option_map-single_beside b table = beside-viewed (λ (x : ℕ). x) (λ (x : ℕ). b == x) table

pub option_map-pair_beside : (a b : ℕ) (table : List ((ℕ × ℕ) × code.Token)) → option_map token_of (pair_beside (a, b) table)
    ≡ beside (find (λ (e : (ℕ × ℕ) × Token). is_pair a b e.0) (map (λ (e : (ℕ × ℕ) × code.Token). (e.0, token_of e.1)) table))
unfolding pair_beside
option_map-pair_beside a b table = beside-viewed (λ (bytes : ℕ × ℕ). bytes) (is_pair a b) table

-- What passes is found as well among the entries of a second test that it passes.
find-filter : {X : Type 0} (p q : X → Bool) (xs : List X) → ((x : X) → p x ≡ true → q x ≡ true) → find p (filter q xs) ≡ find p xs
find-filter p q [] also = refl
find-filter {X} p q (x ∷ xs) also = go (q x) refl (p x) refl (find-filter p q xs also)
  where
    go : (b : Bool) → q x ≡ b → (d : Bool) → p x ≡ d → find p (filter q xs) ≡ find p xs → find p (cond b (x ∷ filter q xs) (filter q xs)) ≡ cond d (Some x) (find p xs)
    go true kept d is rest = ap (λ (b : Bool). cond b (Some x) (find p (filter q xs))) is ∙ ap (cond d (Some x)) rest
    go false lost true is rest = absurd (both_ways (q x) lost (also x is))
    go false lost false is rest = rest

-- Whether an entry is of a word.
abbrev pub is_of_word : List ℕ × Token → Bool
is_of_word entry = is_lower (get_or entry.0 0 0)

-- A word is found among the words.
pub listed_token-word : (word : List ℕ) → is_lower (get_or word 0 0) ≡ true
    → beside (find (λ (e : List ℕ × Token). bytes_eq word e.0) (filter is_of_word words_and_symbols)) ≡ listed_token word
unfolding listed_token
listed_token-word word lower =
    ap beside
    (find-filter (λ (e : List ℕ × Token). bytes_eq word e.0) is_of_word words_and_symbols
    (λ e same. ap (λ (bs : List ℕ). is_lower (get_or bs 0 0)) (sym ((bytes_eq-Decides word e.0).0 same)) ∙ lower))

-- the entries of one byte, with one more
abbrev single_more : List ℕ → Token → List (ℕ × Token) → List (ℕ × Token)
single_more [] t table = table
single_more (x ∷ []) t table = (x, t) ∷ table
single_more (x ∷ y ∷ xs) t table = table

-- the entries of one byte
abbrev pub singles : List (List ℕ × Token) → List (ℕ × Token)
singles [] = []
singles (e ∷ table) = single_more e.0 e.1 (singles table)

module _ (b : ℕ) where
  single-step : (xs : List ℕ) (e : List ℕ × Token) (found : Option (List ℕ × Token)) (table : List (ℕ × Token))
      → beside found ≡ beside (find (λ (f : ℕ × Token). b == f.0) table)
      → beside (cond (bytes_eq (b ∷ []) xs) (Some e) found) ≡ beside (find (λ (f : ℕ × Token). b == f.0) (single_more xs e.1 table))
  single-step [] e found table rest = rest
  single-step (x ∷ []) e found table rest = go (b == x)
    where
      go : (d : Bool) → beside (cond (d && true) (Some e) found) ≡ beside (cond d (Some (x, e.1)) (find (λ (f : ℕ × Token). b == f.0) table))
      go true = refl
      go false = rest
  single-step (x ∷ y ∷ xs) e found table rest = go (b == x)
    where
      go : (d : Bool) → beside (cond (d && false) (Some e) found) ≡ beside (find (λ (f : ℕ × Token). b == f.0) table)
      go true = rest
      go false = rest

  found-singles : (table : List (List ℕ × Token))
      → beside (find (λ (e : List ℕ × Token). bytes_eq (b ∷ []) e.0) table) ≡ beside (find (λ (f : ℕ × Token). b == f.0) (singles table))
  found-singles [] = refl
  found-singles (e ∷ table) =
      single-step e.0 e (find (λ (e : List ℕ × Token). bytes_eq (b ∷ []) e.0) table) (singles table) (found-singles table)

  -- A byte is found among the single bytes.
  pub listed_token-single : beside (find (λ (f : ℕ × Token). b == f.0) (singles words_and_symbols)) ≡ listed_token (b ∷ [])
  unfolding listed_token
  listed_token-single = sym (found-singles words_and_symbols)

-- the entries of two bytes that are no word, with one more
abbrev pair_more : List ℕ → Token → List ((ℕ × ℕ) × Token) → List ((ℕ × ℕ) × Token)
pair_more [] t table = table
pair_more (x ∷ []) t table = table
pair_more (x ∷ y ∷ []) t table = cond (is_lower x) table (((x, y), t) ∷ table)
pair_more (x ∷ y ∷ z ∷ xs) t table = table

-- the entries of two bytes that are no word
abbrev pub pairs : List (List ℕ × Token) → List ((ℕ × ℕ) × Token)
pairs [] = []
pairs (e ∷ table) = pair_more e.0 e.1 (pairs table)

module _ (a b : ℕ) (other : is_lower a ≡ false) where
  pair-step : (xs : List ℕ) (e : List ℕ × Token) (found : Option (List ℕ × Token)) (table : List ((ℕ × ℕ) × Token))
      → beside found ≡ beside (find (λ (f : (ℕ × ℕ) × Token). is_pair a b f.0) table)
      → beside (cond (bytes_eq (a ∷ b ∷ []) xs) (Some e) found) ≡ beside (find (λ (f : (ℕ × ℕ) × Token). is_pair a b f.0) (pair_more xs e.1 table))
  pair-step [] e found table rest = rest
  pair-step (x ∷ []) e found table rest = go (a == x)
    where
      go : (d : Bool) → beside (cond (d && false) (Some e) found) ≡ beside (find (λ (f : (ℕ × ℕ) × Token). is_pair a b f.0) table)
      go true = rest
      go false = rest
  pair-step (x ∷ y ∷ []) e found table rest = go (is_lower x) refl
    where
      word : is_lower x ≡ true → (d : Bool) → (a == x) ≡ d → (c : Bool)
          → beside (cond (d && (c && true)) (Some e) found) ≡ beside (find (λ (f : (ℕ × ℕ) × Token). is_pair a b f.0) table)
      word lower true same c = absurd (both_ways (is_lower a) other (ap is_lower (eqb-true a x same) ∙ lower))
      word lower false apart c = rest

      symbol : (d c : Bool) → beside (cond (d && (c && true)) (Some e) found)
          ≡ beside (cond (d && c) (Some ((x, y), e.1)) (find (λ (f : (ℕ × ℕ) × Token). is_pair a b f.0) table))
      symbol true true = refl
      symbol true false = rest
      symbol false c = rest

      go : (l : Bool) → is_lower x ≡ l → beside (cond ((a == x) && ((b == y) && true)) (Some e) found)
          ≡ beside (find (λ (f : (ℕ × ℕ) × Token). is_pair a b f.0) (cond l table (((x, y), e.1) ∷ table)))
      go true lower = word lower (a == x) refl (b == y)
      go false symbols = symbol (a == x) (b == y)
  pair-step (x ∷ y ∷ z ∷ xs) e found table rest = go (a == x) (b == y)
    where
      go : (d c : Bool) → beside (cond (d && (c && false)) (Some e) found) ≡ beside (find (λ (f : (ℕ × ℕ) × Token). is_pair a b f.0) table)
      go true true = rest
      go true false = rest
      go false c = rest

  found-pairs : (table : List (List ℕ × Token))
      → beside (find (λ (e : List ℕ × Token). bytes_eq (a ∷ b ∷ []) e.0) table) ≡ beside (find (λ (f : (ℕ × ℕ) × Token). is_pair a b f.0) (pairs table))
  found-pairs [] = refl
  found-pairs (e ∷ table) =
      pair-step e.0 e (find (λ (e : List ℕ × Token). bytes_eq (a ∷ b ∷ []) e.0) table) (pairs table) (found-pairs table)

  -- Two bytes that are no word are found among the pairs.
  pub listed_token-pair : beside (find (λ (f : (ℕ × ℕ) × Token). is_pair a b f.0) (pairs words_and_symbols)) ≡ listed_token (a ∷ b ∷ [])
  unfolding listed_token
  listed_token-pair = sym (found-pairs words_and_symbols)

-- A text of two bytes or more begins with a pair.
pub listed_pair-long : (text : List ℕ) → 2 ≤ length text → listed_token (get_or text 0 0 ∷ get_or text 1 0 ∷ []) ≡ listed_pair text
listed_pair-long [] long = absurd (omega arith)
listed_pair-long (a ∷ []) long = absurd (omega arith)
listed_pair-long (a ∷ b ∷ bs) long = refl
