-- Every text has tokens.
use Rattle.std.proofs.Common.{◌≡◌, ℕ, zero, suc, ◌+◌, ◌≤◌, Bool, true, false, Option, Some, None, List, [], ◌∷◌, ◌++◌, length, take, drop, refl, sym, ap, ◌∙◌, arith, length-append, length-take, take-append-drop, take_at}
use Rattle.std.specs.Prelude.{IsTrue, not, nat_le}
use Rattle.std.proofs.lemmas.Bool.{leb-true, leb-false}
use Rattle.std.proofs.lemmas.Option.{none-some}
use Rattle.pv_base.specs.Name.{is_blank}
use Rattle.pv_model.specs.Tokens.{Token, stray, token_of, BeginsWithToken, BeginsWithNone, AreTokens, at_end, at_blank, at_token, at_stray, HasTokens}
use Rattle.pv_law_programs.proofs.FaultLemmas.{token_is_long}

-- Bytes begin with a token, the longest, or with none.
data Begins (bytes : List ℕ) : Type 0 where
  with_token : (front : List ℕ) (token : Token) (behind : List ℕ) → BeginsWithToken bytes front token behind → Begins bytes
  with_none : BeginsWithNone bytes → Begins bytes

-- No front of these bytes that is a token is longer.
abbrev NoneLonger : List ℕ → ℕ → Type 0
NoneLonger bytes n = (front behind : List ℕ) (t : Token) → bytes ≡ front ++ behind → token_of front ≡ Some t → length front ≤ n

none_at_all : (bytes : List ℕ) → NoneLonger bytes 0 → BeginsWithNone bytes
none_at_all bytes h front behind e = go (token_of front) refl
  where
    go : (x : Option Token) → token_of front ≡ x → x ≡ None
    go None is = refl
    go (Some t) is =
        let none = h front behind t e is in
        let one = token_is_long front t is in
        absurd (omega (arith, none, one))

none_longer_but : (bytes : List ℕ) (n : ℕ) → NoneLonger bytes (suc n) → token_of (take (suc n) bytes) ≡ None → NoneLonger bytes n
none_longer_but bytes n h none front behind t e is = go (nat_le (length front) n) refl
  where
    go : (b : Bool) → nat_le (length front) n ≡ b → length front ≤ n
    go true le = leb-true (length front) n le
    go false le =
        let longer = leb-false (length front) n le in
        let bound = h front behind t e is in
        let size : length front ≡ suc n = omega (arith, longer, bound) in
        let same : take (suc n) bytes ≡ front = ap (take (suc n)) e ∙ take_at front behind (suc n) size in
        absurd (none-some t (sym none ∙ ap token_of same ∙ is))

begins_within : (bytes : List ℕ) (n : ℕ) → NoneLonger bytes n → Begins bytes
begins_within bytes zero h = with_none (none_at_all bytes h)
begins_within bytes (suc n) h = go (token_of (take (suc n) bytes)) refl (λ none. begins_within bytes n (none_longer_but bytes n h none))
  where
    go : (x : Option Token) → token_of (take (suc n) bytes) ≡ x → (token_of (take (suc n) bytes) ≡ None → Begins bytes) → Begins bytes
    go None is shorter = shorter is
    go (Some t) is shorter = with_token (take (suc n) bytes) t (drop (suc n) bytes) (record {
      split = sym (take-append-drop (suc n) bytes);
      is = is;
      longest = λ longer other u e u_is.
          let bound = h longer other u e u_is in
          let size : length bytes ≡ length longer + length other = ap length e ∙ length-append longer other in
          let front = length-take (suc n) bytes in
          omega (arith, bound, size, front);
    })

begins : (bytes : List ℕ) → Begins bytes
begins bytes = begins_within bytes (length bytes) (λ front behind t e is. let size : length bytes ≡ length front + length behind = ap length e ∙ length-append front behind in omega (arith, size))

-- bytes from this column on, with their tokens
abbrev Tokens : ℕ → List ℕ → Type 0
Tokens column bytes = (ts : List (ℕ × Token)) × AreTokens column bytes ts

-- the tokens of bytes that begin with no blank
unblank : (column b : ℕ) (bytes : List ℕ) → ((next : ℕ) (behind : List ℕ) → length behind ≤ length bytes → Tokens next behind) → IsTrue (not (is_blank b)) → Begins (b ∷ bytes)
    → Tokens column (b ∷ bytes)
unblank column b bytes tokens_of is (with_token front t behind p) =
    let long = token_is_long front t p.is in
    let size : length (b ∷ bytes) ≡ length front + length behind = ap length p.split ∙ length-append front behind in
    let more = tokens_of (column + length front) behind (omega (arith, long, size)) in
    ((column, t) ∷ more.0, at_token column (b ∷ bytes) front t behind more.0 p more.1)
unblank column b bytes tokens_of is (with_none p) =
    let more = tokens_of (suc column) bytes (omega arith) in
    ((column, stray b) ∷ more.0, at_stray column b bytes more.0 is p more.1)

some_byte : (column b : ℕ) (bytes : List ℕ) (blank : Bool) → ((next : ℕ) (behind : List ℕ) → length behind ≤ length bytes → Tokens next behind) → is_blank b ≡ blank
    → Tokens column (b ∷ bytes)
some_byte column b bytes true tokens_of is = let more = tokens_of (suc column) bytes (omega arith) in (more.0, at_blank column b bytes more.0 is more.1)
some_byte column b bytes false tokens_of is = unblank column b bytes tokens_of (ap not is) (begins (b ∷ bytes))

tokens_within : (room column : ℕ) (bytes : List ℕ) → length bytes ≤ room → Tokens column bytes
tokens_within zero column [] h = ([], at_end column)
tokens_within zero column (b ∷ bytes) h = absurd (omega (arith, h))
tokens_within (suc room) column [] h = ([], at_end column)
tokens_within (suc room) column (b ∷ bytes) h =
    some_byte column b bytes (is_blank b) (λ next behind short. tokens_within room next behind (omega (arith, short, h))) refl

pub some_tokens : (text : List ℕ) → (ts : List (ℕ × Token)) × HasTokens text ts
some_tokens text = tokens_within (length text) 1 text (omega arith)
