-- What expires with the next tick, one after another.
use Rattle.std.proofs.Common.{◌≡◌, ℕ, ◌+◌, ◌<◌, Bool, true, List, [], ◌∷◌, ◌++◌, map, length, get_or, drop, append_assoc, refl, sym, ap, ◌∙◌}
use Rattle.std.specs.Prelude.{not, nat_lt, if◌then◌else◌}
use Rattle.std.specs.List.{find}
use Rattle.std.specs.Option.{unwrap_or}
use Rattle.std.proofs.lemmas.List.{at_drop_more}
use Rattle.pv_base.specs.declared.limits.TheConstants.{TICKS}
use Rattle.pv_coord.specs.Answers.{expiry_of}
use Rattle.pv_coord.specs.Coordinator.{older, expired}
use Rattle.pv_coord.specs.Work.{Work, awaited, sites_of}
use Rattle.pv_coord.specs.declared.answer.Expiry.{Expiry}
use Rattle.pv_protocol.specs.State.{Entry, Stage, locking, voting}
use Rattle.pv_protocol.specs.Tick.{has_answered}

-- the work, a tick older
abbrev pub older_one : Work → Work
older_one work = record work { entry = record work.entry { age = work.entry.age + 1 } }

answered-older : (stage : Stage) (entry : Entry) (site : ℕ) → has_answered stage (record entry { age = entry.age + 1 }) site ≡ has_answered stage entry site
answered-older locking entry site = refl
answered-older voting entry site = refl

awaited-older : (work : Work) → awaited (older_one work) ≡ awaited work
awaited-older work = λ i. unwrap_or (find (λ site. not (answered-older work.entry.stage work.entry site i)) (sites_of work)) 0

-- Age doesn't matter for what an expiry says.
expiry-older : (work : Work) → expiry_of (older_one work) ≡ expiry_of work
expiry-older work = λ i. record { txn = work.entry.txn; site = record { 0 = awaited-older work i } }

-- One more expires.
pub one-expires : (work : Work) (rest : List Work) (old : List Expiry) (expiry : Expiry) → not (nat_lt (work.entry.age + 1) TICKS) ≡ true → expiry ≡ expiry_of work
    → (old ++ expiry ∷ []) ++ map expiry_of (expired (older rest)) ≡ old ++ map expiry_of (expired (older (work ∷ rest)))
one-expires work rest old expiry expires is =
    append_assoc old (expiry ∷ []) (map expiry_of (expired (older rest)))
    ∙ ap (λ (one : Expiry). old ++ one ∷ map expiry_of (expired (older rest))) (is ∙ sym (expiry-older work))
    ∙ ap (λ (b : Bool). old ++ map expiry_of (if b then older_one work ∷ expired (older rest) else expired (older rest))) (sym expires)

-- One after another.
pub next-expires : (works : List Work) (i : ℕ) (d : Work) (old new : List Expiry) → i < length works → d ≡ get_or works i d
    → ((rest : List Work) → new ++ map expiry_of (expired (older rest)) ≡ old ++ map expiry_of (expired (older (d ∷ rest))))
    → old ++ map expiry_of (expired (older (drop i works))) ≡ new ++ map expiry_of (expired (older (drop (i + 1) works)))
next-expires works i d old new within is grows =
    at_drop_more (λ (rest : List Work). old ++ map expiry_of (expired (older rest))) works i d within
    ∙ ap (λ (first : Work). old ++ map expiry_of (expired (older (first ∷ drop (i + 1) works)))) (sym is)
    ∙ sym (grows (drop (i + 1) works))
