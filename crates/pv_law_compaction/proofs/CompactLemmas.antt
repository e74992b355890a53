-- Which records a compacted list has, and what it says of outcomes and promises.
use Rattle.std.proofs.Common.{◌≡◌, ◌⊎◌, ⊎_elim, ℕ, Bool, true, false, ◌&&◌, Some, None, Option, List, [], ◌++◌, inl, inr, refl, sym, ap, subst, ◌∙◌, filter, arith}
use Rattle.std.specs.Prelude.{IsTrue, ◌==◌, is_none, max}
use Rattle.std.specs.List.{Contains}
use Rattle.std.proofs.lemmas.Bool.{and_parts, and_from, eq-eqb, false≢true}
use Rattle.std.proofs.lemmas.List.Elements.{All-contains, filter_passes, Contains-append_cases, Contains-append_left, Contains-append_right}
use Rattle.pv_base.proofs.ContainsLemmas.{Contains-behind, Contains-cases, Contains-filter}
use Rattle.pv_base.proofs.MapLemmas.{Contains-map, Contains-unmap}
use Rattle.pv_base.specs.Catalog.{Declared}
use Rattle.pv_base.specs.declared.txn.TxnId.{TxnId}
use Rattle.pv_format.specs.Contents.{greatest_epoch}
use Rattle.pv_format.specs.Record.{Record, epoch_begun, prepared, outcome_known}
use Rattle.pv_law_acts.proofs.RecordLemmas.{known-listed, prepared-listed, listed-prepared}
use Rattle.pv_law_canonical.proofs.FilterLemmas.{kept-listed}
use Rattle.pv_law_compaction.proofs.GroupLemmas.{IsSaving, saved-promise, saved-outcome, saved-start}
use Rattle.pv_law_compaction.proofs.KnownLemmas.{known-yes, no-epoch}
use Rattle.pv_law_compaction.specs.Compact.{is_yes, is_own_commit, own_commits, changed_values, grouped, saved_values, is_open_promise, without_writes, open_promises, compact}
use Rattle.pv_law_compaction.specs.Given.{is_given}
use Rattle.pv_model.specs.Alternatives.{Read}
use Rattle.pv_protocol.specs.Committed.{home_of}
use Rattle.pv_protocol.specs.Records.{known, is_undecided, is_prepared}

kept-passes : {X : Type 0} (p : X → Bool) (xs : List X) (x : X) → Contains (filter p xs) x → p x ≡ true
kept-passes p xs x h = All-contains (λ y. p y ≡ true) (filter p xs) x (filter_passes p xs) h

yes-is : (outcome : Option Bool) → is_yes outcome ≡ true → outcome ≡ Some true
yes-is None is = absurd (false≢true is)
yes-is (Some commits) is = ap Some is

module _ (records : List Record) where
  -- A promise that stays is one of a transaction whose outcome isn't known.
  pub record IsOpenPromise (kept : Record) : Type 0 where
    pub txn : TxnId
    pub writes : List Read
    pub is : kept ≡ prepared txn []
    pub promised : Contains records (prepared txn writes)
    pub unknown : is_undecided records txn ≡ true

  open-by : (kept first : Record) → Contains records first → is_open_promise records first ≡ true → without_writes first ≡ kept → IsOpenPromise kept
  open-by kept (prepared txn writes) h doubt is = record { txn = txn; writes = writes; is = sym is; promised = h; unknown = doubt }
  open-by kept (epoch_begun epoch) h doubt is = absurd (false≢true doubt)
  open-by kept (outcome_known txn commits) h doubt is = absurd (false≢true doubt)

  open-promise : (kept : Record) → Contains (open_promises records) kept → IsOpenPromise kept
  open-promise kept h =
      let found = Contains-unmap without_writes (filter (is_open_promise records) records) kept h in
      open-by kept found.0 (kept-listed (is_open_promise records) records found.0 found.1.0)
      (kept-passes (is_open_promise records) records found.0 found.1.0) found.1.1

  promise-open : (txn : TxnId) (writes : List Read) → Contains records (prepared txn writes) → is_undecided records txn ≡ true → Contains (open_promises records) (prepared txn [])
  promise-open txn writes h unknown =
      Contains-map without_writes (filter (is_open_promise records) records) (prepared txn writes)
      (Contains-filter (is_open_promise records) records (prepared txn writes) unknown h)

  module _ (site : ℕ) where
    -- A commit that stays is known, and of a transaction that was given.
    own-commit : (t : TxnId) (b : Bool) → Contains (own_commits site records) (outcome_known t b) → (b ≡ true) × (IsTrue (is_given t) × (known records t ≡ Some true))
    own-commit t b h =
        let passed = and_parts b (is_given t && (home_of t == site && is_yes (known records t))) (kept-passes (is_own_commit site records) records (outcome_known t b) h) in
        let rest = and_parts (is_given t) (home_of t == site && is_yes (known records t)) passed.1 in
        (passed.0, (rest.0, yes-is (known records t) (and_parts (home_of t == site) (is_yes (known records t)) rest.1).1))

    commit-own : (t : TxnId) → IsTrue (is_given t) → home_of t ≡ site → known records t ≡ Some true → Contains (own_commits site records) (outcome_known t true)
    commit-own t given own is =
        Contains-filter (is_own_commit site records) records (outcome_known t true)
        (and_from true (is_given t && (home_of t == site && is_yes (known records t))) refl
        (and_from (is_given t) (home_of t == site && is_yes (known records t)) given
        (and_from (home_of t == site) (is_yes (known records t)) (eq-eqb (home_of t) site own) (ap is_yes is))))
        (known-listed records t true is)

    module _ (catalog : Declared) where
      abbrev saved : List Record
      saved = saved_values catalog site records

      abbrev after_commits : List Record
      after_commits = saved ++ open_promises records

      abbrev behind : List Record
      behind = own_commits site records ++ after_commits

      abbrev pub compacted : List Record
      compacted = compact catalog site records

      -- The parts of the list.

      in-commits : (kept : Record) → Contains (own_commits site records) kept → Contains compacted kept
      in-commits kept h =
          Contains-behind (epoch_begun (greatest_epoch records)) behind kept (Contains-append_left (own_commits site records) after_commits kept h)

      pub in-saved : (kept : Record) → Contains saved kept → Contains compacted kept
      in-saved kept h =
          Contains-behind (epoch_begun (greatest_epoch records)) behind kept
          (Contains-append_right (own_commits site records) after_commits kept (Contains-append_left saved (open_promises records) kept h))

      in-open : (kept : Record) → Contains (open_promises records) kept → Contains compacted kept
      in-open kept h =
          Contains-behind (epoch_begun (greatest_epoch records)) behind kept
          (Contains-append_right (own_commits site records) after_commits kept (Contains-append_right saved (open_promises records) kept h))

      pub in-parts : (kept : Record) → Contains behind kept → Contains (own_commits site records) kept ⊎ (Contains saved kept ⊎ IsOpenPromise kept)
      in-parts kept h =
          ⊎_elim
          (λ commit. inl commit)
          (λ rest. ⊎_elim (λ here. inr (inl here)) (λ last. inr (inr (open-promise kept last))) (Contains-append_cases saved (open_promises records) kept rest))
          (Contains-append_cases (own_commits site records) after_commits kept h)

      -- Each record is a start, an outcome, or one of these promises.

      -- A promise saves values, or is one that stays.
      pub compacted-promise : (t : TxnId) (writes : List Read) → Contains compacted (prepared t writes)
          → IsSaving site 0 (grouped (changed_values catalog site records)) t writes ⊎ IsOpenPromise (prepared t writes)
      compacted-promise t writes h =
          ⊎_elim
          (λ start. absurd (let wrong : ⊥ = cc in wrong))
          (λ rest. ⊎_elim
          (λ commit. absurd (false≢true (kept-passes (is_own_commit site records) records (prepared t writes) commit)))
          (λ later. ⊎_elim
          (λ here. inl (saved-promise site 0 (grouped (changed_values catalog site records)) t writes here))
          (λ doubt. inr doubt)
          later)
          (in-parts (prepared t writes) rest))
          (Contains-cases (epoch_begun (greatest_epoch records)) behind (prepared t writes) h)

      -- An outcome is a commit, known before or of a transaction that was never given.
      pub compacted-outcome : (t : TxnId) (b : Bool) → Contains compacted (outcome_known t b)
          → (b ≡ true) × ((IsTrue (is_given t) × (known records t ≡ Some true)) ⊎ (is_given t ≡ false))
      compacted-outcome t b h =
          ⊎_elim
          (λ start. absurd (let wrong : ⊥ = cc in wrong))
          (λ rest. ⊎_elim
          (λ commit. let is = own-commit t b commit in (is.0, inl is.1))
          (λ later. ⊎_elim
          (λ here. let is = saved-outcome site 0 (grouped (changed_values catalog site records)) t b here in (is.0, inr is.1))
          (λ doubt. let promised : outcome_known t b ≡ prepared doubt.txn [] = doubt.is in absurd (let wrong : ⊥ = cc in wrong))
          later)
          (in-parts (outcome_known t b) rest))
          (Contains-cases (epoch_begun (greatest_epoch records)) behind (outcome_known t b) h)

      pub no-start : (epoch : ℕ) → Contains behind (epoch_begun epoch) → ⊥
      no-start epoch h =
          ⊎_elim
          (λ commit. false≢true (kept-passes (is_own_commit site records) records (epoch_begun epoch) commit))
          (λ later. ⊎_elim
          (λ here. saved-start site 0 (grouped (changed_values catalog site records)) epoch here)
          (λ doubt. let promised : epoch_begun epoch ≡ prepared doubt.txn [] = doubt.is in let wrong : ⊥ = cc in wrong)
          later)
          (in-parts (epoch_begun epoch) h)

      -- What it says.

      pub compacted-epoch : greatest_epoch compacted ≡ greatest_epoch records
      compacted-epoch =
          let none : greatest_epoch behind ≡ 0 = no-epoch behind no-start in
          ap (λ (rest : ℕ). max (greatest_epoch records) rest) none ∙ omega arith

      pub compacted-known : (t : TxnId) → Contains compacted (outcome_known t true) → known compacted t ≡ Some true
      compacted-known t h = known-yes compacted t (λ b there. (compacted-outcome t b there).0) h

      pub compacted-commit : (t : TxnId) → IsTrue (is_given t) → home_of t ≡ site → known records t ≡ Some true → known compacted t ≡ Some true
      compacted-commit t given own is = compacted-known t (in-commits (outcome_known t true) (commit-own t given own is))

      given-outcome : (t : TxnId) (b : Bool) → IsTrue (is_given t) → b ≡ true → (IsTrue (is_given t) × (known records t ≡ Some true)) ⊎ (is_given t ≡ false) → known records t ≡ Some b
      given-outcome t b given said which =
          ⊎_elim (λ was. was.1 ∙ ap Some (sym said)) (λ ungiven. absurd (false≢true (sym ungiven ∙ given))) which

      pub compacted-was-known : (t : TxnId) (b : Bool) → IsTrue (is_given t) → Contains compacted (outcome_known t b) → known records t ≡ Some b
      compacted-was-known t b given h = let is = compacted-outcome t b h in given-outcome t b given is.0 is.1

      pub compacted-promised : (t : TxnId) → IsTrue (is_given t) → is_prepared compacted t ≡ true → is_prepared records t ≡ true
      compacted-promised t given is =
          let found = prepared-listed compacted t is in
          ⊎_elim
          (λ saving. absurd (false≢true (sym saving.ungiven ∙ given)))
          (λ doubt. let same : prepared t found.0 ≡ prepared doubt.txn [] = doubt.is in let of : doubt.txn ≡ t = cc in
          subst (λ (u : TxnId). is_prepared records u ≡ true) of (listed-prepared records doubt.txn doubt.writes doubt.promised))
          (compacted-promise t found.0 found.1)

      pub compacted-promises : (t : TxnId) → is_prepared records t ≡ true → known records t ≡ None → is_prepared compacted t ≡ true
      compacted-promises t is unknown =
          let found = prepared-listed records t is in
          listed-prepared compacted t [] (in-open (prepared t []) (promise-open t found.0 found.1 (ap is_none unknown)))
