-- What a transaction took is what its site tells of it at its lock point.
use Rattle.std.proofs.Common.{arith, ◌≡◌, ℕ, zero, suc, ◌+◌, ◌-◌, ◌<◌, ◌≤◌, Bool, true, false, Option, Some, None, List, [], ◌∷◌, ◌++◌, map, refl, sym, ap, subst, ◌∙◌}
use Rattle.std.specs.Prelude.{◌==◌, find, option_to_list, if◌then◌else◌}
use Rattle.std.specs.Option.{option_map}
use Rattle.std.proofs.lemmas.Bool.Decides.{nat_tests}
use Rattle.pv_base.specs.declared.txn.TxnId.{TxnId}
use Rattle.pv_protocol.specs.State.{Taken, TakenGrant, Entry, Running}
use Rattle.pv_protocol.specs.Granted.{grants_taken}
use Rattle.pv_site.specs.Asked.{grant_taken, voting_at}
use Rattle.pv_world.specs.Places.{of_site, taken_at, votes_from}
use Rattle.pv_world.specs.Taken.{Ascend}

-- what was taken from so many sites, which are numbered from here on
abbrev taken-in : List Taken → ℕ → ℕ → List TakenGrant
taken-in list site zero = []
taken-in list site (suc more) =
    option_to_list (option_map (of_site site) (option_map (λ (taken : Taken). taken.grant) (find (λ (taken : Taken). taken.site == site) list)))
    ++ taken-in list (site + 1) more

unfound-by : (b : Bool) (first : Taken) (rest : Option Taken) → b ≡ false → (if b then Some first else rest) ≡ rest
unfound-by false first rest is = refl
unfound-by true first rest is = absurd cc

found-by : (b : Bool) (first : Taken) (rest : Option Taken) → b ≡ true → (if b then Some first else rest) ≡ Some first
found-by true first rest is = refl
found-by false first rest is = absurd cc

-- From later sites the first was not taken.
behind-first : (first : Taken) (rest : List Taken) (site more : ℕ) → first.site < site → taken-in (first ∷ rest) site more ≡ taken-in rest site more
behind-first first rest site zero before = refl
behind-first first rest site (suc more) before =
    ap (λ (found : Option Taken). option_to_list (option_map (of_site site) (option_map (λ (taken : Taken). taken.grant) found)) ++ taken-in (first ∷ rest) (site + 1) more)
    (unfound-by (first.site == site) first (find (λ (taken : Taken). taken.site == site) rest) (grind (arith, nat_tests, before)))
    ∙ ap (λ (later : List TakenGrant). option_to_list (option_map (of_site site) (option_map (λ (taken : Taken). taken.grant) (find (λ (taken : Taken). taken.site == site) rest))) ++ later)
    (behind-first first rest (site + 1) more (omega (arith, before)))

-- From earlier sites nothing was taken.
none-before : (low bound site : ℕ) (list : List Taken) → site < low → Ascend low bound list → find (λ (taken : Taken). taken.site == site) list ≡ None
none-before low bound site [] before ascend = refl
none-before low bound site (first ∷ rest) before ascend =
    unfound-by (first.site == site) first (find (λ (taken : Taken). taken.site == site) rest) (grind (arith, nat_tests, before, ascend.0))
    ∙ none-before (first.site + 1) bound site rest (omega (arith, before, ascend.0)) ascend.2

abbrev grant-of : Taken → TakenGrant
grant-of taken = record { site = taken.site; grant = taken.grant }

-- The first was taken from this site, or from a later one.

at-first : (first : Taken) (rest : List Taken) (site more : ℕ) → (first.site == site) ≡ true → taken-in rest (site + 1) more ≡ map grant-of rest
    → taken-in (first ∷ rest) site (suc more) ≡ map grant-of (first ∷ rest)
at-first first rest site more here later =
    let at : first.site ≡ site = grind (arith, nat_tests, here) in
    ap (λ (found : Option Taken). option_to_list (option_map (of_site site) (option_map (λ (taken : Taken). taken.grant) found)) ++ taken-in (first ∷ rest) (site + 1) more)
    (found-by (first.site == site) first (find (λ (taken : Taken). taken.site == site) rest) here)
    ∙ (ap (λ (n : ℕ). of_site n first.grant ∷ taken-in (first ∷ rest) (site + 1) more) (sym at)
    ∙ ap (λ (grants : List TakenGrant). grant-of first ∷ grants) (behind-first first rest (site + 1) more (omega (arith, at)) ∙ later))

before-first : (first : Taken) (rest : List Taken) (site more bound : ℕ) → (first.site == site) ≡ false → site ≤ first.site → Ascend (first.site + 1) bound rest
    → taken-in (first ∷ rest) (site + 1) more ≡ map grant-of (first ∷ rest) → taken-in (first ∷ rest) site (suc more) ≡ map grant-of (first ∷ rest)
before-first first rest site more bound other from ascend later =
    ap (λ (found : Option Taken). option_to_list (option_map (of_site site) (option_map (λ (taken : Taken). taken.grant) found)) ++ taken-in (first ∷ rest) (site + 1) more)
    (unfound-by (first.site == site) first (find (λ (taken : Taken). taken.site == site) rest) other
    ∙ none-before (first.site + 1) bound site rest (omega (arith, from)) ascend)
    ∙ later

by-first : (first : Taken) (rest : List Taken) (site more bound : ℕ) → site ≤ first.site → Ascend (first.site + 1) bound rest
    → (first.site ≡ site → taken-in rest (site + 1) more ≡ map grant-of rest) → (site < first.site → taken-in (first ∷ rest) (site + 1) more ≡ map grant-of (first ∷ rest))
    → (b : Bool) → (first.site == site) ≡ b → taken-in (first ∷ rest) site (suc more) ≡ map grant-of (first ∷ rest)
by-first first rest site more bound from ascend here there true is = at-first first rest site more is (here (grind (arith, nat_tests, is)))
by-first first rest site more bound from ascend here there false is = before-first first rest site more bound is from ascend (there (grind (arith, nat_tests, is, from)))

-- All that was taken in order is told, site by site.
taken-all : (list : List Taken) (site more : ℕ) → Ascend site (site + more) list → taken-in list site more ≡ map grant-of list
taken-all [] site zero ascend = refl
taken-all [] site (suc more) ascend = taken-all [] (site + 1) more tt
taken-all (first ∷ rest) site zero ascend = absurd (omega (arith, ascend.0, ascend.1))
taken-all (first ∷ rest) site (suc more) ascend =
    let same : site + suc more ≡ site + 1 + more = omega arith in
    by-first first rest site more (site + suc more) ascend.0 ascend.2
    (λ at. taken-all rest (site + 1) more
    (subst (λ (low : ℕ). Ascend low (site + 1 + more) rest) (ap (λ (n : ℕ). n + 1) at) (subst (λ (bound : ℕ). Ascend (first.site + 1) bound rest) same ascend.2)))
    (λ apart. taken-all (first ∷ rest) (site + 1) more
    (omega (arith, apart), omega (arith, ascend.1), subst (λ (bound : ℕ). Ascend (first.site + 1) bound rest) same ascend.2))
    (first.site == site) refl

-- What a site tells of a transaction that asks for votes with this entry.
votes-in : (running : Option Running) (txn : TxnId) (entry : Entry) → voting_at running txn ≡ Some entry → (site more : ℕ)
    → votes_from running txn site more ≡ taken-in entry.taken site more
votes-in running txn entry is site zero = refl
votes-in running txn entry is site (suc more) =
    ap (λ (found : Option Entry). option_to_list (option_map (of_site site) (grant_taken site found)) ++ votes_from running txn (site + 1) more) is
    ∙ ap (λ (later : List TakenGrant). option_to_list (option_map (of_site site) (grant_taken site (Some entry))) ++ later) (votes-in running txn entry is (site + 1) more)

pub votes-all : (running : Option Running) (txn : TxnId) (entry : Entry) (sites : ℕ) → voting_at running txn ≡ Some entry → Ascend 0 sites entry.taken
    → votes_from running txn 0 sites ≡ grants_taken entry
votes-all running txn entry sites is ascend =
    votes-in running txn entry is 0 sites
    ∙ taken-all entry.taken 0 sites (subst (λ (bound : ℕ). Ascend 0 bound entry.taken) (omega arith) ascend)

-- The votes of one more site.
pub votes-more : (running : Option Running) (txn : TxnId) (site sites : ℕ) → site < sites
    → votes_from running txn site (sites - site) ≡ taken_at running txn site ++ votes_from running txn (site + 1) (sites - (site + 1))
votes-more running txn site sites within =
    let more : sites - site ≡ suc (sites - (site + 1)) = omega (arith, within) in ap (votes_from running txn site) more

pub votes-whole : (running : Option Running) (txn : TxnId) (sites : ℕ) → votes_from running txn 0 (sites - 0) ≡ votes_from running txn 0 sites
votes-whole running txn sites = let same : sites - 0 ≡ sites = omega arith in ap (votes_from running txn 0) same

pub votes-none : (running : Option Running) (txn : TxnId) (site sites : ℕ) → sites ≤ site → votes_from running txn site (sites - site) ≡ []
votes-none running txn site sites past = let none : sites - site ≡ 0 = omega (arith, past) in ap (votes_from running txn site) none
