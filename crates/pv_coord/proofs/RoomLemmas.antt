-- Room: with each answer that is taken, one less is still to come.
use Rattle.std.proofs.Common.{◌≡◌, ℕ, ◌+◌, ◌≤◌, Bool, true, false, ◌||◌, List, [], ◌∷◌, length, cond, refl, sym, ap, ◌∙◌, arith}
use Rattle.std.specs.Prelude.{not, ◌==◌, map, vec_len, vec_capacity}
use Rattle.std.specs.List.{filter, list_any}
use Rattle.std.proofs.lemmas.Bool.{false≢true, true≢false, eqb-true, eq-eqb}
use Rattle.std.proofs.lemmas.List.{length-map}
use Rattle.pv_coord.specs.EntryView.{work_in, HasRoom}
use Rattle.pv_coord.specs.declared.entry.Entry.TheInside.{Inside}
use Rattle.pv_model.specs.Check.{Part}
use Rattle.pv_coord.proofs.TakenLemmas.{list_any-with, last-found}
use Rattle.pv_coord.specs.Work.{Work, sites_of, is_unawaited, is_vote_ignored, with_grant, with_vote, ungranted, silent}
use Rattle.pv_protocol.specs.Coordinate.{has_taken}
use Rattle.pv_protocol.specs.Here.{is_among}
use Rattle.pv_protocol.specs.State.{Taken}

module _ (old new : ℕ → Bool) (kept : (n : ℕ) → old n ≡ true → new n ≡ true) where
  by : (a b : Bool) (x : ℕ) (xs ys : List ℕ) → (a ≡ true → b ≡ true) → length xs ≤ length ys → length (cond (not b) (x ∷ xs) xs) ≤ length (cond (not a) (x ∷ ys) ys)
  by true true x xs ys same le = le
  by true false x xs ys same le = absurd (false≢true (same refl))
  by false true x xs ys same le = omega (arith, le)
  by false false x xs ys same le = omega (arith, le)

  -- Of what wasn't in, no more isn't in.
  pub fewer-left : (sites : List ℕ) → length (filter (λ n. not (new n)) sites) ≤ length (filter (λ n. not (old n)) sites)
  fewer-left [] = omega arith
  fewer-left (x ∷ xs) = by (old x) (new x) x (filter (λ n. not (new n)) xs) (filter (λ n. not (old n)) xs) (kept x) (fewer-left xs)

  one : (a b : Bool) (x : ℕ) (xs ys : List ℕ) → a ≡ false → b ≡ true → length xs ≤ length ys → length (cond (not b) (x ∷ xs) xs) + 1 ≤ length (cond (not a) (x ∷ ys) ys)
  one true b x xs ys was is le = absurd (true≢false was)
  one false true x xs ys was is le = omega (arith, le)
  one false false x xs ys was is le = absurd (false≢true is)

  further : (a b : Bool) (x : ℕ) (xs ys : List ℕ) → (a ≡ true → b ≡ true) → length xs + 1 ≤ length ys → length (cond (not b) (x ∷ xs) xs) + 1 ≤ length (cond (not a) (x ∷ ys) ys)
  further true true x xs ys same le = le
  further true false x xs ys same le = absurd (false≢true (same refl))
  further false true x xs ys same le = omega (arith, le)
  further false false x xs ys same le = omega (arith, le)

  next : (b : Bool) (x : ℕ) (xs : List ℕ) (n : ℕ) → (n == x) ≡ b → (b || list_any (λ m. n == m) xs) ≡ true → old n ≡ false → new n ≡ true
      → (list_any (λ m. n == m) xs ≡ true → length (filter (λ m. not (new m)) xs) + 1 ≤ length (filter (λ m. not (old m)) xs))
      → length (filter (λ m. not (new m)) (x ∷ xs)) + 1 ≤ length (filter (λ m. not (old m)) (x ∷ xs))
  next true x xs n here among was is rest =
      let same : n ≡ x = eqb-true n x here in
      one (old x) (new x) x (filter (λ m. not (new m)) xs) (filter (λ m. not (old m)) xs) (sym (ap old same) ∙ was) (sym (ap new same) ∙ is) (fewer-left xs)
  next false x xs n other among was is rest =
      further (old x) (new x) x (filter (λ m. not (new m)) xs) (filter (λ m. not (old m)) xs) (kept x) (rest among)

  -- Where one of them comes in, one less isn't in.
  pub one-less-left : (sites : List ℕ) (n : ℕ) → list_any (λ m. n == m) sites ≡ true → old n ≡ false → new n ≡ true
      → length (filter (λ m. not (new m)) sites) + 1 ≤ length (filter (λ m. not (old m)) sites)
  one-less-left [] n among was is = absurd (false≢true among)
  one-less-left (x ∷ xs) n among was is = next (n == x) x xs n refl among was is (λ later. one-less-left xs n later was is)

-- What isn't refused is among the sites, and hasn't answered.
both-tests : (a b : Bool) → (not a || b) ≡ false → (a ≡ true) × (b ≡ false)
both-tests true b is = (refl, is)
both-tests false b is = absurd (true≢false is)

or-left : (a b : Bool) → a ≡ true → (b || a) ≡ true
or-left a true is = refl
or-left a false is = is

or-right : (a b : Bool) → a ≡ true → (a || b) ≡ true
or-right true b is = refl
or-right false b is = absurd (false≢true is)

-- With a grant that is awaited, one less is to come.
pub fewer-grants : (work : Work) (taken : Taken) → is_unawaited work taken.site ≡ false → length (ungranted (with_grant work taken)) + 1 ≤ length (ungranted work)
fewer-grants work taken awaited =
    let tests = both-tests (is_among (sites_of work) taken.site) (has_taken work.entry taken.site) awaited in
    let with-one = λ (site : ℕ). list_any-with (λ (t : Taken). t.site == site) taken work.entry.taken in
    one-less-left (has_taken work.entry) (has_taken (with_grant work taken).entry)
    (λ n is. with-one n ∙ or-left (has_taken work.entry n) (taken.site == n) is)
    (sites_of work) taken.site tests.0 tests.1
    (with-one taken.site ∙ or-right (taken.site == taken.site) (has_taken work.entry taken.site) (eq-eqb taken.site taken.site refl))

-- With a vote that is awaited, one less is to come.
pub fewer-votes : (work : Work) (from : ℕ) → is_vote_ignored work from ≡ false → length (silent (with_vote work from)) + 1 ≤ length (silent work)
fewer-votes work from awaited =
    let tests = both-tests (is_among (sites_of work) from) (is_among work.entry.votes from) awaited in
    one-less-left (is_among work.entry.votes) (is_among (with_vote work from).entry.votes)
    (λ n is. last-found n from work.entry.votes ∙ or-right (is_among work.entry.votes n) (n == from) is)
    (sites_of work) from tests.0 tests.1
    (last-found from from work.entry.votes ∙ or-left (from == from) (is_among work.entry.votes from) (eq-eqb from from refl))

kept-by : (b : Bool) (x : ℕ) (xs ys : List ℕ) → length xs ≤ length ys → length (cond b (x ∷ xs) xs) ≤ length (x ∷ ys)
kept-by true x xs ys le = omega (arith, le)
kept-by false x xs ys le = omega (arith, le)

-- No more pass a test than there are.
filter-le : (p : ℕ → Bool) (xs : List ℕ) → length (filter p xs) ≤ length xs
filter-le p [] = omega arith
filter-le p (x ∷ xs) = kept-by (p x) x (filter p xs) xs (filter-le p xs)

-- An entry that begins has room for as many answers as its plan has parts.
pub room-begun : (inside : Inside) (parts : List Part) → parts ≡ inside.plan.parts.items → vec_len inside.taken ≡ 0 → vec_len inside.votes ≡ 0
    → vec_capacity inside.taken ≡ length parts → vec_capacity inside.votes ≡ length parts → HasRoom inside
room-begun inside parts is no-grants no-votes grants votes =
    let sites = map (λ (part : Part). part.site) inside.plan.parts.items in
    let work = work_in inside in
    let long = length-map inside.plan.parts.items (λ (part : Part). part.site) in
    let few-grants : length (ungranted work) ≤ length sites = filter-le (λ site. not (has_taken work.entry site)) sites in
    let few-votes : length (silent work) ≤ length sites = filter-le (λ site. not (is_among work.entry.votes site)) sites in
    let all = ap (λ (some : List Part). length some) is in
    record { grants = omega (arith, few-grants, long, all, no-grants, grants); votes = omega (arith, few-votes, long, all, no-votes, votes) }
